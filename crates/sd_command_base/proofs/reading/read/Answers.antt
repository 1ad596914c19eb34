use Rattle.std.proofs.Common.{◌≡◌, ◌+◌, ◌<◌, ◌^◌, ℕ, List, length, Err, All, refl, sym, ap, subst}
use Rattle.std.proofs.Common.{◌∙◌}
use Rattle.std.proofs.lemmas.List.Elements.{All-push}
use Rattle.std.specs.List.Sorted.{IsStrictlyIncreasing}
use Rattle.sd_base.specs.Number.{decimal_value}
use Rattle.sd_command_base.specs.declared.reading.LeavesFault.TheVariants.{Line}
use Rattle.sd_command_base.specs.Text.{leaf_after}
use Rattle.sd_command_base.proofs.Lines.{AreRead, read_more, read_fault, read_all, leaf_fits, above_more}
use Rattle.sd_command_base.proofs.reading.read.Goals as goal

pub returns-clause-value : goal.returns-clause-value
returns-clause-value c =
    read_all c.args.h c.args.bytes.now c.loop-line.rest.now c.loop-line.leaves.items c.loop-line.invariant.read
    (c.in_default.ensures.none.0 refl)

pub returns-in_default-next_leaf-clause-fault : goal.returns-in_default-next_leaf-clause-fault
returns-in_default-next_leaf-clause-fault c k is =
    let none = sym c.next_leaf.ensures ∙ c.in_default-next_leaf.is in
    let told = read_fault c.args.h c.args.bytes.now c.loop-line.rest.now c.in-Some.after.now c.in-Some.line.now
    c.loop-line.leaves.items c.loop-line.invariant.read
    c.in-Some.ensures.first (ap (λ (us : List ℕ). leaf_after c.args.h us (decimal_value c.in-Some.line.now))
    (sym c.deref.ensures.value) ∙ none) in
    let fault : Line (length c.deref-in_default-next_leaf.result.now + 1) ≡ Line k = cc in
    let number : length c.deref-in_default-next_leaf.result.now + 1 ≡ k = cc in
    told ∙ ap Err (ap (λ (us : List ℕ). length us + 1) (sym c.deref-in_default-next_leaf.ensures.value) ∙ number)

pub loop-line-preserved : goal.loop-line-preserved
loop-line-preserved c =
    let i = c.loop-line.invariant in
    let first = c.in-Some.ensures.first in
    let leaf = ap (λ (us : List ℕ).
    leaf_after c.args.h us (decimal_value c.in-Some.line.now)) (sym c.deref.ensures.value)
    ∙ (sym c.next_leaf.ensures ∙ c.in-Some-next_leaf.is) in
    let added = sym c.in_ok-add.ensures.value in
    record {
      read = subst (AreRead c.args.h c.args.bytes.now c.in-Some.after.now) added
          (read_more c.args.h c.args.bytes.now c.loop-line.rest.now c.in-Some.after.now c.in-Some.line.now
          c.loop-line.leaves.items
          c.in-Some-next_leaf.leaf i.read first leaf);
      fits = subst (All (λ u. u < 2 ^ c.args.h)) added (All-push (λ u. u < 2 ^ c.args.h) c.loop-line.leaves.items
          c.in-Some-next_leaf.leaf i.fits (leaf_fits c.args.h c.in-Some-next_leaf.leaf c.loop-line.leaves.items
          (decimal_value c.in-Some.line.now) leaf));
      ascending = subst IsStrictlyIncreasing added
          (above_more c.args.h c.in-Some-next_leaf.leaf c.loop-line.leaves.items (decimal_value c.in-Some.line.now) leaf
          i.ascending);
    }
