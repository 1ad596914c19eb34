-- Where packets lead positions if some of them are left out.
use Rattle.std.proofs.Common.{◌≡◌, refl, ℕ, ◌+◌, ◌*◌, ◌<◌, ◌≤◌, ◌==◌, Bool, true, false, List, [], ◌∷◌, length, arith}
use Rattle.std.proofs.Common.{sym, ap, ◌∙◌, inl, inr}
use Rattle.std.specs.Prelude.{if◌then◌else◌, ◌≢◌, All}
use Rattle.std.proofs.lemmas.List.Elements.{All-cons, All-head, All-tail}
use Rattle.std.proofs.lemmas.Bool.{cases_Bool}
use Rattle.std.proofs.lemmas.Bool.Decides.{nat_tests}
use Rattle.sd_packet.specs.Header.{counter_of, pid_of}
use Rattle.sd_packet.specs.Positions.{is_moving, moved, moved_by, advanced}
use Rattle.sd_packet.proofs.Positions.{counter_below, moved_near}
use Rattle.sd_law_rules.proofs.Rows.{leaves, Row, packets_in, kept_rows, stays, staying}

stays_put : (q x : ℕ) (packet : List ℕ) → is_moving q packet ≡ false → moved q x packet ≡ x
stays_put q x packet rests = rw rests refl

-- those that stay move their PID as those that are kept
pub staying_lead : (p x : ℕ) (rows : List Row) →
    moved_by p x (packets_in (staying p rows)) ≡ moved_by p x (packets_in (kept_rows rows))
unfolding moved_by
staying_lead p x [] = refl
staying_lead p x (r ∷ rows) = elim (cases_Bool r.kept) [
  | inl kept ↦ rw kept (staying_lead p (moved p x r.packet) rows)
  | inr lost ↦ elim (cases_Bool (is_moving p r.packet)) [
    | inl moves ↦ rw lost (rw moves (staying_lead p x rows))
    | inr rests ↦ rw lost (rw rests (staying_lead p (moved p x r.packet) rows
        ∙ ap (λ (y : ℕ). moved_by p y (packets_in (kept_rows rows))) (stays_put p x r.packet rests)))
  ]
]

apart : (p q : ℕ) (x : List ℕ) → p ≢ q → is_moving p x ≡ true → is_moving q x ≡ false
apart p q x other moves =
    let is : (pid_of x == p) ≡ true = grind (arith, nat_tests, moves) in
    let same : pid_of x ≡ p = grind (arith, nat_tests, is) in
    let none : (pid_of x == q) ≡ false = grind (arith, nat_tests, same, other) in
    rw none refl

-- and each other PID as all do
pub others_lead : (p q : ℕ) → p ≢ q → (x : ℕ) (rows : List Row) →
    moved_by q x (packets_in (staying p rows)) ≡ moved_by q x (packets_in rows)
unfolding moved_by
others_lead p q other x [] = refl
others_lead p q other x (r ∷ rows) = elim (cases_Bool (stays p r)) [
  | inl stay ↦ rw stay (others_lead p q other (moved q x r.packet) rows)
  | inr goes ↦
      let moves : is_moving p r.packet ≡ true = leaves p r goes in
      rw goes (others_lead p q other x rows
      ∙ ap (λ (y : ℕ). moved_by q y (packets_in rows)) (sym (stays_put q x r.packet (apart p q r.packet other moves))))
]

step : (near far m c : ℕ) → c < 16 → far ≤ near + 16 * m → advanced far c ≤ advanced near c + 16 * m
unfolding advanced
step near far m c small below = omega (arith, small, below)

step_by : (b : Bool) (near far m c : ℕ) → c < 16 → far ≤ near + 16 * m →
    (if b then advanced far c else far) ≤ (if b then advanced near c else near) + 16 * m
step_by true near far m c small below = step near far m c small below
step_by false near far m c small below = below

-- each packet that is left out is worth at most 16
pub lost_lead : (p near far m : ℕ) (rows : List Row) → far ≤ near + 16 * m →
    moved_by p far (packets_in rows) + 16 * length (staying p rows)
    ≤ moved_by p near (packets_in (staying p rows)) + 16 * (m + length rows)
unfolding moved_by
lost_lead p near far m [] below = omega (arith, below)
lost_lead p near far m (r ∷ rows) below = elim (cases_Bool (stays p r)) [
  | inl stay ↦
      let rest = lost_lead p (moved p near r.packet) (moved p far r.packet) m rows
      (step_by (is_moving p r.packet) near far m (counter_of r.packet) (counter_below r.packet) below) in
      rw stay (omega (arith, rest))
  | inr goes ↦
      let rest = lost_lead p near (moved p far r.packet) (m + 1) rows
      (omega (arith, below, moved_near p far r.packet)) in
      rw goes (omega (arith, rest))
]

pub staying_few : (p : ℕ) (rows : List Row) → length (staying p rows) ≤ length rows
staying_few p [] = omega arith
staying_few p (r ∷ rows) = elim (cases_Bool (stays p r)) [
  | inl stay ↦ rw stay (omega (arith, staying_few p rows))
  | inr goes ↦ rw goes (omega (arith, staying_few p rows))
]

-- those that stay have the same kept ones
pub staying_kept : (p : ℕ) (rows : List Row) → kept_rows (staying p rows) ≡ kept_rows rows
staying_kept p [] = refl
staying_kept p (r ∷ rows) = elim (cases_Bool r.kept) [
  | inl kept ↦ rw kept (ap (λ (rs : List Row). record { kept = true; packet = r.packet } ∷ rs) (staying_kept p rows))
  | inr lost ↦ elim (cases_Bool (is_moving p r.packet)) [
    | inl moves ↦ rw lost (rw moves (staying_kept p rows))
    | inr rests ↦ rw lost (rw rests (staying_kept p rows))
  ]
]

pub all_stay : (P : List ℕ → Type 0) (p : ℕ) (rows : List Row) → All P (packets_in rows) →
    All P (packets_in (staying p rows))
all_stay P p [] all = all
all_stay P p (r ∷ rows) all = elim (cases_Bool (stays p r)) [
  | inl stay ↦ rw stay (All-cons P r.packet (packets_in (staying p rows)) (All-head P r.packet (packets_in rows) all)
      (all_stay P p rows (All-tail P r.packet (packets_in rows) all)))
  | inr goes ↦ rw goes (all_stay P p rows (All-tail P r.packet (packets_in rows) all))
]
