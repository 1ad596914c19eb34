-- Lost packets that lead a PID from one position to another.
use Rattle.std.proofs.Common.{◌≡◌, refl, ℕ, zero, suc, ◌+◌, ◌*◌, ◌%◌, ◌<◌, ◌≤◌, ◌==◌, ◌&&◌, Bool, true, false, List, []}
use Rattle.std.proofs.Common.{◌∷◌, length, arith, sym, ap, ◌∙◌, inl, inr, nat_lt, is_none}
use Rattle.std.specs.Prelude.{if◌then◌else◌, ◌≢◌, min, All, replicate, slice_index}
use Rattle.std.proofs.lemmas.Bool.{cases_Bool}
use Rattle.std.proofs.lemmas.Bool.Decides.{nat_tests}
use Rattle.std.proofs.lemmas.List.Elements.{All-nil, All-cons}
use Rattle.sd_base.specs.Bits.{field}
use Rattle.sd_packet.specs.Packing.{section_packet}
use Rattle.sd_packet.specs.Positions.{is_moving, moved, moved_by}
use Rattle.sd_packet.proofs.Positions.{next_is_advanced}
use Rattle.sd_packet.proofs.Packets.{packet_reads, packet_length}
use Rattle.sd_psi.specs.Forms.{outer_fault, has_pointer}
use Rattle.sd_psi.specs.Rewriting.{removal_fault}
use Rattle.sd_spec.specs.Kinds.{is_current_pat}
use Rattle.sd_law_broadcast.specs.Packets.{IsWholePacket}

-- a packet of stuffing
abbrev pub made : ℕ → ℕ → List ℕ
made pid c = section_packet [] pid c

-- the position after a packet that raises it by 16, or up to the end
abbrev pub next_of : ℕ → ℕ → ℕ
next_of from to = min (from + 16) to

-- so many packets, of which the first ones lead the PID from a position to another; the others are null packets
abbrev pub fill : ℕ → ℕ → ℕ → ℕ → List (List ℕ)
fill pid zero from to = []
fill pid (suc n) from to =
    if nat_lt from to then made pid (next_of from to % 16) ∷ fill pid n (next_of from to) to
    else made 8191 0 ∷ fill pid n from to

pub fill_length : (pid n from to : ℕ) → length (fill pid n from to) ≡ n
fill_length pid zero from to = refl
fill_length pid (suc n) from to = elim (cases_Bool (nat_lt from to)) [
  | inl more ↦ rw more (ap suc (fill_length pid n (next_of from to) to))
  | inr done ↦ rw done (ap suc (fill_length pid n from to))
]

pub made_moves : (pid c : ℕ) → pid < 8192 → c < 16 → (q : ℕ) → is_moving q (made pid c) ≡ (pid == q)
made_moves pid c low small q =
    let reads = packet_reads [] pid c low small in
    rw (reads.pid_is, reads.start) (by_test (pid == q))
  where
    by_test : (b : Bool) → (b && nat_lt 4 188) ≡ b
    by_test true = refl
    by_test false = refl

made_leads : (pid from next : ℕ) → pid < 8192 → from < next → next ≤ from + 16 →
    moved pid from (made pid (next % 16)) ≡ next
made_leads pid from next low above near =
    let reads = packet_reads [] pid (next % 16) low (omega arith) in
    let itself : (pid == pid) ≡ true = grind (arith, nat_tests) in
    let moves : is_moving pid (made pid (next % 16)) ≡ true =
    made_moves pid (next % 16) low (omega arith) pid ∙ itself in
    rw moves (rw (reads.counter_is) (sym (next_is_advanced from (next % 16) next (omega arith)
    (record { above = above; near = near; counter_is = refl }))))

made_rests : (pid c q x : ℕ) → pid < 8192 → c < 16 → pid ≢ q → moved q x (made pid c) ≡ x
made_rests pid c q x low small other =
    let none : (pid == q) ≡ false = grind (arith, nat_tests, other) in
    let rests : is_moving q (made pid c) ≡ false = made_moves pid c low small q ∙ none in
    rw rests refl

pub fill_leads : (pid n from to : ℕ) → pid < 8191 → from ≤ to → to ≤ from + 16 * n →
    moved_by pid from (fill pid n from to) ≡ to
unfolding moved_by
fill_leads pid zero from to low up within = omega (arith, up, within)
fill_leads pid (suc n) from to low up within = elim (cases_Bool (nat_lt from to)) [
  | inl more ↦
      let less : from < to = grind (arith, nat_tests, more) in
      rw more (ap (λ (x : ℕ). moved_by pid x (fill pid n (next_of from to) to))
      (made_leads pid from (next_of from to) (omega (arith, low)) (omega (arith, less)) (omega arith))
      ∙ fill_leads pid n (next_of from to) to low (omega arith) (omega (arith, within)))
  | inr done ↦
      let same : to ≤ from = grind (arith, nat_tests, done) in
      rw done (ap (λ (x : ℕ). moved_by pid x (fill pid n from to))
      (made_rests 8191 0 pid from (omega arith) (omega arith) (λ e. absurd (omega (arith, e, low))))
      ∙ fill_leads pid n from to low up (omega (arith, same)))
]

pub fill_rests : (pid n from to q x : ℕ) → pid < 8191 → q < 8191 → pid ≢ q →
    moved_by q x (fill pid n from to) ≡ x
unfolding moved_by
fill_rests pid zero from to q x low small other = refl
fill_rests pid (suc n) from to q x low small other = elim (cases_Bool (nat_lt from to)) [
  | inl more ↦ rw more (ap (λ (y : ℕ). moved_by q y (fill pid n (next_of from to) to))
      (made_rests pid (next_of from to % 16) q x (omega (arith, low)) (omega arith) other)
      ∙ fill_rests pid n (next_of from to) to q x low small other)
  | inr done ↦ rw done (ap (λ (y : ℕ). moved_by q y (fill pid n from to))
      (made_rests 8191 0 q x (omega arith) (omega arith) (λ e. absurd (omega (arith, e, small))))
      ∙ fill_rests pid n from to q x low small other)
]

-- what is true of all such packets is true of each of these
pub fill_all : (P : List ℕ → Type 0) (pid n from to : ℕ) → ((c : ℕ) → c < 16 → P (made pid c)) → P (made 8191 0) →
    All P (fill pid n from to)
fill_all P pid zero from to some idle = All-nil P
fill_all P pid (suc n) from to some idle = elim (cases_Bool (nat_lt from to)) [
  | inl more ↦ rw more (All-cons P (made pid (next_of from to % 16)) (fill pid n (next_of from to) to)
      (some (next_of from to % 16) (omega arith)) (fill_all P pid n (next_of from to) to some idle))
  | inr done ↦ rw done (All-cons P (made 8191 0) (fill pid n from to) idle (fill_all P pid n from to some idle))
]

-- such a packet is no PAT
pub made_no_pat : (pid c : ℕ) → pid < 8192 → c < 16 → 0 < pid → is_current_pat (made pid c) ≡ false
unfolding is_current_pat
made_no_pat pid c low small some =
    let reads = packet_reads [] pid c low small in
    let other : (pid == 0) ≡ false = grind (arith, nat_tests, some) in
    rw (reads.pid_is) (rw other refl)

-- and no PMT that could be restored
pub made_no_pmt : (descriptor : List ℕ) (pid c : ℕ) → pid < 8192 → c < 16 →
    is_none (removal_fault descriptor (made pid c)) ≡ false
unfolding removal_fault outer_fault field
made_no_pmt descriptor pid c low small =
    let reads = packet_reads [] pid c low small in
    elim (cases_Bool (has_pointer (made pid c))) [
      | inr none ↦ rw none refl
      | inl some ↦ rw some (rw (reads.payload) refl)
    ]

pub made_whole : (pid c : ℕ) → pid < 8192 → c < 16 → IsWholePacket (made pid c)
unfolding section_packet
made_whole pid c low small = record { long = packet_length [] pid c (omega arith); bytes = each }
  where
    stuffing : (n i : ℕ) → slice_index (replicate n 255) i < 256
    stuffing zero i = omega arith
    stuffing (suc n) zero = omega arith
    stuffing (suc n) (suc i) = stuffing n i

    each : (i : ℕ) → slice_index (made pid c) i < 256
    each zero = omega arith
    each (suc zero) = omega (arith, low)
    each (suc (suc zero)) = omega arith
    each (suc (suc (suc zero))) = omega (arith, small)
    each (suc (suc (suc (suc zero)))) = omega arith
    each (suc (suc (suc (suc (suc i))))) = stuffing 183 i
