-- No two scrambled packets of a broadcast have one PID and one position.
use Rattle.std.proofs.Common.{◌≡◌, ℕ, ◌+◌, ◌^◌, ◌<◌, ◌≤◌, true, List, ◌++◌, length}
use Rattle.std.proofs.Common.{take, drop, sym, ap, subst, ◌∙◌, inl, inr, arith}
use Rattle.std.proofs.lemmas.Bool.{cases_lt, false≢true}
use Rattle.std.proofs.lemmas.List.{take-append-drop, take-take, length-take-le}
use Rattle.sd_packet.specs.Header.{pid_of}
use Rattle.sd_packet.specs.Positions.{is_placed, position_of}
use Rattle.sd_packet.proofs.Positions.{next_position, moving_rises, moved_by_near, more_packets, own_moves}
use Rattle.sd_cipher.specs.Scrambling.{stream_number}
use Rattle.sd_spec.specs.Carried.{place_after}
use Rattle.sd_spec.specs.Refused.{IsSendable}
use Rattle.sd_law_broadcast.proofs.Clear.{clear_short}
use Rattle.sd_law_broadcast.proofs.Carrying.{kind_placed}
use Rattle.sd_spec.specs.Kinds.{is_scrambled}
use Rattle.sd_law_broadcast.specs.Runs.{Run, run_packet, is_veiled}
use Rattle.sd_law_broadcast.specs.Pads.{stream_number_at}

-- the position of clear packet k
abbrev pub place_at : Run → ℕ → ℕ
place_at run k = place_after (take k run.clear) (run_packet run k)

-- a packet that is scrambled has a position
veiled_placed : (run : Run) (k : ℕ) → is_veiled run k ≡ true → is_placed (run_packet run k) ≡ true
unfolding is_veiled
veiled_placed run k veiled =
    kind_placed (take k run.clear) (run_packet run k) (λ passed. false≢true (sym (ap is_scrambled passed) ∙ veiled))

-- the position of a packet is that of its PID after it
place_is : (run : Run) (k : ℕ) → k < length run.clear
    → place_at run k ≡ position_of (pid_of (run_packet run k)) (take (k + 1) run.clear)
place_is run k within = sym (next_position (pid_of (run_packet run k)) k run.clear within)

-- a position of a clear stream has 48 bits
place_short : (run : Run) (k : ℕ) → IsSendable run.plan.site run.clear → k < length run.clear → place_at run k < 2 ^ 48
place_short run k is within =
    let near = (moved_by_near (pid_of (run_packet run k)) 15 (take (k + 1) run.clear)).1 in
    let long : length (take (k + 1) run.clear) ≡ k + 1 = length-take-le (k + 1) run.clear (omega (arith, within)) in
    omega (arith, place_is run k within, near, long, within, clear_short run.plan.site run.clear is)

-- a position never falls
positions_rise : (pid m n : ℕ) (packets : List (List ℕ)) → m ≤ n
    → position_of pid (take m packets) ≤ position_of pid (take n packets)
positions_rise pid m n packets below =
    let more : List (List ℕ) = drop m (take n packets) in
    let cut : take m packets ++ more ≡ take n packets =
    subst (λ (xs : List (List ℕ)). xs ++ more ≡ take n packets) (take-take m n packets below)
    (take-append-drop m (take n packets)) in
    let turn = more_packets pid 15 (take m packets) more in
    let up = (moved_by_near pid (position_of pid (take m packets)) more).0 in
    subst (λ (xs : List (List ℕ)). position_of pid (take m packets) ≤ position_of pid xs) cut
    (omega (arith, turn, up))

-- of two packets of one PID the later one, if it is scrambled, has the higher position
places_rise : (run : Run) (j k : ℕ) → j < k → k < length run.clear → is_veiled run k ≡ true
    → pid_of (run_packet run j) ≡ pid_of (run_packet run k) → place_at run j < place_at run k
places_rise run j k before within veiled same =
    let pid : ℕ = pid_of (run_packet run k) in
    let first : place_at run j ≡ position_of pid (take (j + 1) run.clear) =
    subst (λ (p : ℕ). place_at run j ≡ position_of p (take (j + 1) run.clear)) same
    (place_is run j (omega (arith, before, within))) in
    let rises = positions_rise pid (j + 1) k run.clear (omega (arith, before)) in
    let above = (moving_rises pid (position_of pid (take k run.clear)) (run_packet run k)
    (own_moves (run_packet run k) (veiled_placed run k veiled))).above in
    omega (arith, first, rises, above)

-- a stream number tells PID and position
numbers_tell : (pid p other q : ℕ) → p < 2 ^ 48 → q < 2 ^ 48 → stream_number pid p ≡ stream_number other q
    → (pid ≡ other) × (p ≡ q)
numbers_tell pid p other q low short same = (omega (arith, low, short, same), omega (arith, low, short, same))

-- scrambled packets of one stream number are one packet
pub one_packet : (run : Run) (j k : ℕ) → IsSendable run.plan.site run.clear → j < length run.clear
    → k < length run.clear → is_veiled run j ≡ true → is_veiled run k ≡ true →
    stream_number_at run j ≡ stream_number_at run k
    → j ≡ k
unfolding stream_number_at
one_packet run j k is inside within first second same =
    let parts = numbers_tell (pid_of (run_packet run j)) (place_at run j) (pid_of (run_packet run k)) (place_at run k)
    (place_short run j is inside) (place_short run k is within) same in
    elim (cases_lt j k) [
      | inl before ↦ absurd (omega (arith, places_rise run j k before within second parts.0, parts.1))
      | inr above ↦ elim (cases_lt k j) [
        | inl after ↦ absurd (omega (arith, places_rise run k j after inside first (sym parts.0), parts.1))
        | inr below ↦ omega (arith, above, below)
      ]
    ]
