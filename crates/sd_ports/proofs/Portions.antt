-- What was written or read in portions is what was written or read in one.
use Rattle.std.proofs.Common.{◌≡◌, ℕ, ◌+◌, ◌-◌, List, ◌++◌, length, take, drop, arith, subst, sym, ◌∙◌, ap, length-drop}
use Rattle.std.proofs.lemmas.List.{take_all, take-append-drop}
use Rattle.std.proofs.Math.Seq.{take-add}
use Rattle.std.specs.Prelude.{Option}
use Rattle.std.specs.Io.KnownBytes.{Appends, Keeps}
use Rattle.std.proofs.KnownBytes.{Appends-trans, Appends-kept}
use Rattle.sd_ports.specs.Bytes.{AppendsPrefix}

-- the next `more` bytes were written after the first `done`
pub appends_more : (a b c : Option (List ℕ)) (bs : List ℕ) (done more : ℕ) → Appends a b (take done bs)
    → Appends b c (take more (take (length bs - done) (drop done bs))) → Appends a c (take (done + more) bs)
appends_more a b c bs done more p q =
    let all : take (length bs - done) (drop done bs) ≡ drop done bs =
    take_all _ _ (omega (arith, length-drop done bs)) in
    let joined : take done bs ++ take more (take (length bs - done) (drop done bs)) ≡ take (done + more) bs =
    ap (λ (r : List ℕ). take done bs ++ take more r) all ∙ sym (take-add done more bs) in
    subst (Appends a c) joined (Appends-trans a b c _ _ p q)

-- after a write that failed, the first `done` bytes stay written
pub appends_prefix : (a b c : Option (List ℕ)) (bs : List ℕ) (done : ℕ) → Appends a b (take done bs) → Keeps b c
    → AppendsPrefix a c bs
appends_prefix a b c bs done p q = (take done bs, (drop done bs, take-append-drop done bs), Appends-kept a b c _ p q)
