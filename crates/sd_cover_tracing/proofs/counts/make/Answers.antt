use Rattle.std.proofs.Common.{◌≡◌, ℕ, zero, suc, ◌-◌, List, [], ◌∷◌, ◌++◌, length, get_or, take}
use Rattle.std.proofs.Common.{inl, inr, refl, sym, ap, ◌∙◌, arith, rules}
use Rattle.std.specs.Prelude.{replicate}
use Rattle.std.proofs.lemmas.Bool.{eqb-false}
use Rattle.sd_cover_tracing.specs.declared.counts.TheConstants.{NODES}
use Rattle.sd_cover_tracing.specs.Table.{used}
use Rattle.sd_cover_tracing.proofs.Tables.{used_made, zeros_same}
use Rattle.sd_cover_tracing.proofs.counts.make.Goals as goal

-- a table of zeros has what none has
counts_made : (ns ms : List ℕ) (n k q : ℕ) → length ns ≡ 0 → ms ≡ take n ns ++ replicate k 0 →
    get_or ms q 0 ≡ get_or ns q 0
counts_made [] ms zero k q none is = ap (λ (l : List ℕ). get_or l q 0) is ∙ zeros_same k q
counts_made [] ms (suc n) k q none is = ap (λ (l : List ℕ). get_or l q 0) is ∙ zeros_same k q
counts_made (x ∷ ns) ms n k q none is = absurd (omega arith)

pub returns-in_err-resize-clause-counts : goal.returns-in_err-resize-clause-counts
returns-in_err-resize-clause-counts c q = ap (λ (l : List ℕ). get_or l q 0) c.in_err-resize.ensures.items

pub returns-in_err-resize-clause-used : goal.returns-in_err-resize-clause-used
returns-in_err-resize-clause-used c = ap used c.in_err-resize.ensures.items

pub returns-in_ok-resize-clause-counts : goal.returns-in_ok-resize-clause-counts
returns-in_ok-resize-clause-counts c q =
    let none : length c.args.table.now.items ≡ 0 = search rules in
    counts_made c.args.table.now.items c.resize.new.self.items NODES (NODES - length c.args.table.now.items) q none
    (search rules)

pub returns-in_ok-resize-clause-used : goal.returns-in_ok-resize-clause-used
returns-in_ok-resize-clause-used c =
    let none : length c.args.table.now.items ≡ 0 = search rules in
    used_made c.args.table.now.items c.resize.new.self.items NODES (NODES - length c.args.table.now.items) none
    (search rules)

pub returns-else-is_empty-clause-made : goal.returns-else-is_empty-clause-made
returns-else-is_empty-clause-made c =
    elim c.requires.size [
      | inl whole ↦ whole
      | inr none ↦ absurd (eqb-false _ _ (sym c.is_empty.ensures ∙ c.if-is_empty.false) none)
    ]

pub returns-else-is_empty-clause-counts : goal.returns-else-is_empty-clause-counts
returns-else-is_empty-clause-counts c q = refl

pub returns-else-is_empty-clause-used : goal.returns-else-is_empty-clause-used
returns-else-is_empty-clause-used c = refl
