-- What stays while a port tries again, or while bytes wait.
use Rattle.std.proofs.Common.{◌≡◌, ◌≤◌, ℕ, ◌+◌, ◌-◌, List, [], ◌++◌, length, take, drop, arith, subst, append-nil}
use Rattle.std.proofs.Common.{refl, sym, ap, ◌∙◌, length-drop}
use Rattle.std.proofs.lemmas.List.{take_all, take-append-drop, drop-append-le, drop-drop}
use Rattle.std.proofs.Math.Seq.{drop-nil}
use Rattle.std.specs.Prelude.{Option, None, Some, Result, Ok, Err}
use Rattle.std.specs.Io.KnownBytes.{Appends, Consumes, Keeps, WriteAppends, append_known}
use Rattle.std.proofs.KnownBytes.{Keeps-refl, Keeps-trans, append_known-grown, append_known-moved}
use Rattle.sd_host.specs.Waiting.{given_to}

-- what is left stayed twice
pub kept_twice : (a b c : Option (List ℕ)) → Keeps a b → Keeps b c → Keeps a c
kept_twice a b c p q = Keeps-trans a b c p q

-- what is left stayed, and then lost these bytes
pub kept_consumes : (a b c : Option (List ℕ)) (bs : List ℕ) → Keeps a b → Consumes b c bs → Consumes a c bs
kept_consumes None b c bs p q = tt
kept_consumes (Some x) None c bs p q = absurd p
kept_consumes (Some x) (Some y) None bs p q = absurd q
kept_consumes (Some x) (Some y) (Some z) bs p q = sym p ∙ q

-- what is held stayed, and then grew by these bytes
pub kept_appends : (a b c : Option (List ℕ)) (bs : List ℕ) → Keeps a b → Appends b c bs → Appends a c bs
kept_appends None b c bs p q = tt
kept_appends (Some x) None c bs p q = absurd p
kept_appends (Some x) (Some y) None bs p q = absurd q
kept_appends (Some x) (Some y) (Some z) bs p q = q ∙ ap (λ (xs : List ℕ). xs ++ bs) p

-- what is held stayed where it grew by none
pub kept_none : (a b : Option (List ℕ)) (bs : List ℕ) → Appends a b (take 0 bs) → Keeps a b
kept_none None b bs p = tt
kept_none (Some x) None bs p = absurd p
kept_none (Some x) (Some y) bs p = p ∙ append-nil x

-- what stands stays
pub kept_same : (a : Option (List ℕ)) → Keeps a a
kept_same a = Keeps-refl a

-- a writer took the next `more` bytes of what waited after the first `done`
pub kept_moved : (a b c : Option (List ℕ)) (xs bs : List ℕ) (done more : ℕ) → xs ≡ bs
    → Keeps a (append_known b (drop done bs)) → Appends b c (take more (take (length xs - done) (drop done xs)))
    → Keeps a (append_known c (drop (done + more) bs))
kept_moved a b c xs bs done more e p q =
    let all : take (length xs - done) (drop done xs) ≡ drop done xs =
    take_all _ _ (omega (arith, length-drop done xs)) in
    let moved : Appends b c (take more (drop done bs)) =
    subst (λ (ys : List ℕ). Appends b c (take more ys)) (all ∙ ap (drop done) e) q in
    let halves : drop done bs ≡ take more (drop done bs) ++ drop (done + more) bs =
    sym (take-append-drop more (drop done bs))
    ∙ ap (λ (r : List ℕ). take more (drop done bs) ++ r) (drop-drop more done bs) in
    Keeps-trans a _ _ p (append_known-moved b c _ _ _ moved halves)

-- more bytes wait after those that wait after the first `done`
pub kept_grown : (a b : Option (List ℕ)) (old new more : List ℕ) (done : ℕ) → Keeps a (append_known b (drop done old))
    → done ≤ length old → new ≡ old ++ more → Appends a (append_known b (drop done new)) more
kept_grown a b old new more done p h e =
    append_known-grown a b (drop done old) (drop done new) more p (ap (drop done) e ∙ drop-append-le done old more h)

-- where nothing waits, a port was given what its writer has
none_waits : (known : Option (List ℕ)) (waiting : List ℕ) (sent : ℕ) → waiting ≡ [] →
    given_to known waiting sent ≡ known
none_waits None waiting sent none = refl
none_waits (Some xs) waiting sent none =
    ap (λ (bytes : List ℕ). Some (xs ++ bytes)) (ap (drop sent) none ∙ drop-nil sent) ∙ ap Some (append-nil xs)

-- so what its writer took was given to it
pub written_past : {E : Type 0} (result : Result ℕ E) (a b c : Option (List ℕ)) (waiting piece : List ℕ) (sent : ℕ) →
    Keeps a (given_to b waiting sent) → waiting ≡ [] → WriteAppends b c result piece →
    WriteAppends a (given_to c waiting sent) result piece
written_past (Ok n) a b c waiting piece sent kept none wrote =
    subst (λ (after : Option (List ℕ)). Appends a after (take n piece)) (sym (none_waits c waiting sent none))
    (kept_appends a b c (take n piece) (subst (Keeps a) (none_waits b waiting sent none) kept) wrote)
written_past (Err e) a b c waiting piece sent kept none wrote =
    subst (Keeps a) (sym (none_waits c waiting sent none))
    (kept_twice a b c (subst (Keeps a) (none_waits b waiting sent none) kept) wrote)
