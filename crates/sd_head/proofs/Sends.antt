-- What is sent in turn.
use Rattle.std.proofs.Common.{◌≡◌, ℕ, zero, suc, ◌+◌, ◌-◌, ◌*◌, ◌/◌, ◌%◌, min, ◌<◌, ◌≤◌, List, [], ◌∷◌, ◌++◌, length}
use Rattle.std.proofs.Common.{take, drop}
use Rattle.std.proofs.Common.{refl, sym, ap, subst, ◌∙◌, arith, append_assoc, length-append, length-take-le}
use Rattle.std.specs.Prelude.{Option, Some, None, Result, Ok, Err, IsErr}
use Rattle.std.specs.List.{concat}
use Rattle.std.proofs.lemmas.List.Folds.{concat-append}
use Rattle.std.proofs.Math.Nat.{div-eq_of_lt-le}
use Rattle.std.proofs.lemmas.Grind.{div_ceil_times}
use Rattle.std.proofs.KnownBytes.{Appends-trans}
use Rattle.std.proofs.lemmas.List.{take-append-drop, take_all}
use Rattle.sd_base.proofs.Lists.{concat_one}
use Rattle.sd_ports.specs.Rooms.{HasTaken}
use Rattle.sd_engine.specs.Stage.{SinkState, IsTooShort, TookBytes}
use Rattle.sd_engine.proofs.Chains.{took_more}
use Rattle.sd_head.specs.Sending.{FailsWithin, SendsBytes, counter_after, with_counters}

-- a write that fails within some bytes fails within longer ones
pub cuts_sooner : (u v : SinkState) (a b : List ℕ) → FailsWithin u v a → FailsWithin u v (a ++ b)
cuts_sooner u v a b cut = record {
  prefix = cut.prefix;
  short = (cut.short.0 ++ b, sym (append_assoc cut.prefix cut.short.0 b) ∙ ap (λ (xs : List ℕ). xs ++ b) cut.short.1);
  taken = cut.taken;
  room = more u.room cut.room;
}
  where
    more : (room : Option ℕ) → IsTooShort room (length a) → IsTooShort room (length (a ++ b))
    more None h = tt
    more (Some room) h = omega (arith, h, length-append a b)

-- and so does one after some bytes
pub cuts_later : (u v w : SinkState) (a b : List ℕ) → TookBytes u v a → FailsWithin v w b → FailsWithin u w (a ++ b)
cuts_later u v w a b first cut = record {
  prefix = a ++ cut.prefix;
  short = (cut.short.0, append_assoc a cut.prefix cut.short.0 ∙ ap (λ (xs : List ℕ). a ++ xs) cut.short.1);
  taken = Appends-trans u.held v.held w.held a cut.prefix first.taken cut.taken;
  room = less u.room v.room first.room cut.room;
}
  where
    less : (old new : Option ℕ) → HasTaken old new (length a) → IsTooShort new (length b) →
        IsTooShort old (length (a ++ b))
    less None new h short = tt
    less (Some room) new h short =
        let left = subst (λ (r : Option ℕ). IsTooShort r (length b)) h.1 short in
        omega (arith, h.0, left, length-append a b)

-- so what is sent after some bytes is sent with them
pub sends_on : {T E : Type 0} (result : Result T E) (u v w : SinkState) (a b : List ℕ) → TookBytes u v a →
    SendsBytes v w b result →
    SendsBytes u w (a ++ b) result
sends_on (Ok x) u v w a b first then = took_more u v w a b first then
sends_on (Err e) u v w a b first then = cuts_later u v w a b first then

-- the counter after one packet more, counted from the first or from the second
pub counter_shift : (counter n : ℕ) → counter_after ((counter + 1) % 16) n ≡ counter_after counter (suc n)
counter_shift counter zero = refl
counter_shift counter (suc n) = ap (λ (c : ℕ). (c + 1) % 16) (counter_shift counter n)

-- what is made of things and then of others
pub numbered_on : {A : Type 0} → (make : A → ℕ → List ℕ) (counter : ℕ) (xs ys : List A) →
    with_counters make counter (xs ++ ys) ≡ with_counters make counter xs ++ with_counters make
    (counter_after counter (length xs)) ys
numbered_on make counter [] ys = refl
numbered_on make counter (x ∷ xs) ys =
    ap (λ (rest : List (List ℕ)). make x counter ∷ rest) (numbered_on make ((counter + 1) % 16) xs ys
    ∙ ap (λ (c : ℕ). with_counters make ((counter + 1) % 16) xs ++ with_counters make c ys)
    (counter_shift counter (length xs)))

numbered_more : {A : Type 0} → (make : A → ℕ → List ℕ) (counter n : ℕ) (xs : List A) (x : A) → n ≤ length xs →
    take (n + 1) xs ≡ take n xs ++ x ∷ [] →
    concat (with_counters make counter (take (n + 1) xs)) ≡ concat (with_counters make counter (take n xs))
    ++ make x (counter_after counter n)
numbered_more {A} make counter n xs x within more =
    ap (λ (ys : List A). concat (with_counters make counter ys)) more
    ∙ (ap concat (numbered_on make counter (take n xs) (x ∷ [])
    ∙ ap (λ (k : ℕ). with_counters make counter (take n xs) ++ make x (counter_after counter k) ∷ [])
    (length-take-le n xs within))
    ∙ concat_one (with_counters make counter (take n xs)) (make x (counter_after counter n)))

-- one more is sent
pub one_more : {A : Type 0} → (make : A → ℕ → List ℕ) (counter now n : ℕ) (xs : List A) (x : A) (u v w : SinkState) →
    n < length xs →
    take (n + 1) xs ≡ take n xs ++ x ∷ [] → now ≡ counter_after counter n →
    TookBytes u v (concat (with_counters make counter (take n xs))) → TookBytes v w (make x now) →
    TookBytes u w (concat (with_counters make counter (take (n + 1) xs)))
one_more make counter now n xs x u v w within more is before one =
    subst (TookBytes u w) (sym (numbered_more make counter n xs x (omega (arith, within)) more))
    (took_more u v w (concat (with_counters make counter (take n xs))) (make x (counter_after counter n)) before
    (subst (λ (c : ℕ). TookBytes v w (make x c)) is one))

-- a write fails within one more
pub one_cut : {A : Type 0} → (make : A → ℕ → List ℕ) (counter now n : ℕ) (xs : List A) (x : A) (u v w : SinkState) →
    n < length xs →
    take (n + 1) xs ≡ take n xs ++ x ∷ [] → now ≡ counter_after counter n →
    TookBytes u v (concat (with_counters make counter (take n xs))) → FailsWithin v w (make x now) →
    FailsWithin u w (concat (with_counters make counter xs))
one_cut {A} make counter now n xs x u v w within more is before cut =
    subst (FailsWithin u w)
    (sym (concat-append (with_counters make counter (take (n + 1) xs))
    (with_counters make (counter_after counter (length (take (n + 1) xs))) (drop (n + 1) xs)))
    ∙ (sym (ap concat (numbered_on make counter (take (n + 1) xs) (drop (n + 1) xs)))
    ∙ ap (λ (ys : List A). concat (with_counters make counter ys)) (take-append-drop (n + 1) xs)))
    (cuts_sooner u w (concat (with_counters make counter (take (n + 1) xs)))
    (concat (with_counters make (counter_after counter (length (take (n + 1) xs))) (drop (n + 1) xs)))
    (subst (FailsWithin u w) (sym (numbered_more make counter n xs x (omega (arith, within)) more))
    (cuts_later u v w (concat (with_counters make counter (take n xs))) (make x (counter_after counter n)) before
    (subst (λ (c : ℕ). FailsWithin v w (make x c)) is cut))))

-- all are sent
pub all_sent : {A : Type 0} → (make : A → ℕ → List ℕ) (counter n : ℕ) (xs : List A) (u v : SinkState) → length xs ≤ n →
    TookBytes u v (concat (with_counters make counter (take n xs))) →
    TookBytes u v (concat (with_counters make counter xs))
all_sent {A} make counter n xs u v all taken =
    subst (λ (ys : List A). TookBytes u v (concat (with_counters make counter ys))) (take_all n xs all) taken

-- what was cut off was sent, up to the fault
pub sends_err : {T E : Type 0} (result : Result T E) (u v : SinkState) (bytes : List ℕ) → IsErr result →
    FailsWithin u v bytes →
    SendsBytes u v bytes result
sends_err (Ok x) u v bytes err cut = absurd cc
sends_err (Err e) u v bytes err cut = cut

-- the counter after one packet more
pub counter_next : (counter now new n : ℕ) → now ≡ counter_after counter n → new ≡ (now + 1) % 16 →
    new ≡ counter_after counter (n + 1)
counter_next counter now new n is next =
    let one : n + 1 ≡ suc n = omega arith in
    rw one (next ∙ ap (λ (c : ℕ). (c + 1) % 16) is)

-- the counter that comes after so many is their number mod 16
pub counter_is : (before n : ℕ) → counter_after (before % 16) n ≡ (before + n) % 16
counter_is before zero = let e : before + 0 ≡ before = omega arith in rw e refl
counter_is before (suc n) = let e = counter_is before n in omega (arith, e)

-- a number of so many, rounded up
pub rounded_up : (m n : ℕ) → 0 < n → m / n + min 1 (m % n) ≡ (m + n - 1) / n
rounded_up m n some =
    let times = div_ceil_times m n some in
    let top : (m / n + min 1 (m % n) + 1) * n ≡ (m / n + min 1 (m % n)) * n + n = grind (arith) in
    sym (div-eq_of_lt-le n (omega (arith, times.0, times.1)) (omega (arith, times.0, top)))
