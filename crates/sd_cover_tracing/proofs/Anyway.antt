-- What is found whatever the box answers: new leaves of the tree, each once, by few probes.
use Rattle.std.proofs.Common.{◌≡◌, ◌≢◌, ℕ, ◌+◌, ◌-◌, ◌*◌, ◌^◌, ◌<◌, ◌≤◌, List, [], ◌∷◌, ◌++◌, length, max}
use Rattle.std.proofs.Common.{subst, sym, refl, ap, ◌∙◌, inl, inr, arith}
use Rattle.std.specs.Prelude.{All, AllPairs, Contains}
use Rattle.std.proofs.lemmas.List.Elements.{All-nil, All-cons, All-contains, All-weaker}
use Rattle.std.proofs.lemmas.Bool.{cases_eq}
use Rattle.std.proofs.Math.Nat.{le-max_left, le-max_right}
use Rattle.std.proofs.lemmas.List.Kept.{AllPairs-cons}
use Rattle.sd_tree_keys.specs.declared.set.SetName.{SetName}
use Rattle.sd_cover_tracing.specs.Cover.{cover_of}
use Rattle.sd_cover_tracing.specs.Chains.{IsChainCover}
use Rattle.sd_cover_tracing.proofs.Covers.{cover_small}
use Rattle.sd_cover_tracing.proofs.Ends.{AreLeaves}
use Rattle.sd_cover_tracing.proofs.Lists.{member_first, member_later}
use Rattle.sd_cover_tracing.proofs.There.{the_cover}
use Rattle.sd_cover_tracing.specs.declared.found.Found.{Found}
use Rattle.sd_cover_tracing.specs.Trace.{IsRound, IsTrace, IsAnyRound, AreAnyRounds, IsCheap}
use Rattle.sd_cover_tracing.proofs.Inside.{round_inside}
use Rattle.sd_cover_tracing.proofs.Told.{one_last}

-- the leaf is one of the tree, and isn't among these
abbrev pub IsNew : ℕ → List ℕ → Found → Type 0
IsNew d gone f = (f.leaf < 2 ^ d) × ¬ Contains gone f.leaf

-- what is found are leaves of the tree that aren't among the revoked
pub found_new : (d : ℕ) (gone : List ℕ) (found : List Found) → AreAnyRounds d gone found →
    All (IsNew d gone) found
unfolding AreAnyRounds
found_new d gone [] r = All-nil (IsNew d gone)
found_new d gone (f ∷ fs) r =
    All-cons (IsNew d gone) f fs (r.0.leaf, r.0.fresh)
    (All-weaker (IsNew d (f.leaf ∷ gone)) (IsNew d gone) (λ g h. (h.0, λ m. h.1 (member_later f.leaf gone g.leaf m))) fs
    (found_new d (f.leaf ∷ gone) fs r.1))

-- each is found once
pub found_once : (d : ℕ) (gone : List ℕ) (found : List Found) → AreAnyRounds d gone found →
    AllPairs (λ a b. a.leaf ≢ b.leaf) found
unfolding AreAnyRounds
found_once d gone [] r = λ i j e below within. absurd (omega arith)
found_once d gone (f ∷ fs) r =
    AllPairs-cons (λ a b. a.leaf ≢ b.leaf) f fs
    (All-weaker (IsNew d (f.leaf ∷ gone)) (λ b. f.leaf ≢ b.leaf)
    (λ g h e. h.1 (subst (Contains (f.leaf ∷ gone)) e (member_first f.leaf gone))) fs
    (found_new d (f.leaf ∷ gone) fs r.1))
    (found_once d (f.leaf ∷ gone) fs r.1)

-- a cover has few sets
sets_small : (d : ℕ) (gone : List ℕ) → d ≤ 20 → All (λ u. u < 2 ^ d) gone →
    length (cover_of d gone) ≤ max 1 (2 * length gone - 1)
sets_small d gone low leaves =
    let each : AreLeaves d gone = λ u m. All-contains (λ w. w < 2 ^ d) gone u leaves m in
    let cover : IsChainCover d gone (cover_of d gone) =
    (the_cover d gone (cover_of d gone) (omega arith) each).1 refl in
    let small = cover_small d gone (cover_of d gone) (omega arith) each cover in
    elim (cases_eq (length gone) 0) [
      | inl none ↦ let one : length (cover_of d gone) ≡ 1 =
          ap (λ (sets : List SetName). length sets) (small.none_revoked none) in
          omega (arith, one, le-max_left 1 (2 * length gone - 1))
      | inr some ↦ let few = small.count (omega (arith, some)) in
          omega (arith, few, le-max_right 1 (2 * length gone - 1))
    ]

-- a round takes few probes
round_cheap : (d : ℕ) (gone : List ℕ) (f : Found) → d ≤ 20 → All (λ u. u < 2 ^ d) gone → IsAnyRound d gone f →
    IsCheap d (length gone) f
round_cheap d gone f low leaves r =
    let few = sets_small d gone low leaves in
    record { splits = r.splits; trials = r.trials; turns = omega (arith, few, r.turns) }

-- each leaf is found by few probes
pub found_cheap : (d : ℕ) (gone : List ℕ) (before : List Found) (f : Found) (later : List Found) → d ≤ 20 →
    All (λ u. u < 2 ^ d) gone → AreAnyRounds d gone (before ++ f ∷ later) → IsCheap d (length gone + length before) f
unfolding AreAnyRounds
found_cheap d gone [] f later low leaves r =
    let e : length gone + 0 ≡ length gone = omega arith in
    rw e (round_cheap d gone f low leaves r.0)
found_cheap d gone (g ∷ gs) f later low leaves r =
    let e : length (g.leaf ∷ gone) + length gs ≡ length gone + length (g ∷ gs) = omega arith in
    subst (λ (n : ℕ). IsCheap d n f) e
    (found_cheap d (g.leaf ∷ gone) gs f later low (All-cons (λ u. u < 2 ^ d) g.leaf gone r.0.leaf leaves) r.1)

-- what is found, by its parts
same_found : (f g : Found) → f.leaf ≡ g.leaf → f.trials ≡ g.trials → f.splits ≡ g.splits → f ≡ g
same_found f g a b c =
    let of : ℕ → ℕ → ℕ → Found = λ l t s. record { leaf = l; trials = t; splits = s } in
    ap (λ (l : ℕ). of l f.trials f.splits) a
    ∙ (ap (λ (t : ℕ). of g.leaf t f.splits) b ∙ ap (λ (s : ℕ). of g.leaf g.trials s) c)

-- a round of a coalition finds one thing
one_round : (d : ℕ) (coalition gone : List ℕ) (f g : Found) → IsRound d coalition gone f → IsRound d coalition gone g →
    f ≡ g
one_round d coalition gone f g p q =
    let place = one_last d coalition (cover_of d gone) p.place q.place p.opened q.opened in
    let both : (f.leaf, f.splits) ≡ (g.leaf, g.splits) = p.leaf ∙ (rw place refl ∙ sym q.leaf) in
    let splits = ap (λ (r : ℕ × ℕ). r.1) both in
    same_found f g (ap (λ (r : ℕ × ℕ). r.0) both) (p.trials ∙ (rw (place, splits) refl ∙ sym q.trials)) splits

-- a coalition has one trace
pub one_trace : (d : ℕ) (coalition gone : List ℕ) (a b : List Found) → 1 ≤ d → d ≤ 20 → All (λ u. u < 2 ^ d) gone →
    IsTrace d coalition gone a → IsTrace d coalition gone b → a ≡ b
unfolding IsTrace
one_trace d coalition gone [] [] some low leaves p q = refl
one_trace d coalition gone [] (g ∷ gs) some low leaves p q =
    let here = round_inside d coalition gone g some low leaves q.0 in
    absurd (here.2 (p g.leaf here.0 here.1))
one_trace d coalition gone (f ∷ fs) [] some low leaves p q =
    let here = round_inside d coalition gone f some low leaves p.0 in
    absurd (here.2 (q f.leaf here.0 here.1))
one_trace d coalition gone (f ∷ fs) (g ∷ gs) some low leaves p q =
    let here = round_inside d coalition gone f some low leaves p.0 in
    let same = one_round d coalition gone f g p.0 q.0 in
    let rest = one_trace d coalition (f.leaf ∷ gone) fs gs some low
    (All-cons (λ u. u < 2 ^ d) f.leaf gone here.0 leaves) p.1
    (subst (λ (h : Found). IsTrace d coalition (h.leaf ∷ gone) gs) (sym same) q.1) in
    ap (λ (h : Found). h ∷ fs) same ∙ ap (λ (hs : List Found). g ∷ hs) rest
