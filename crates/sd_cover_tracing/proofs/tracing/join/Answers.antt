use Rattle.std.proofs.Common.{◌∷◌, ◌++◌, [], subst, ◌∙◌}
use Rattle.std.specs.List.Sorted.{IsPermutation}
use Rattle.std.proofs.lemmas.List.{length_push}
use Rattle.std.proofs.lemmas.List.Sorted.{length_permutation}
use Rattle.sd_cover_tracing.proofs.Joining.{joined_ascending, joined_members}
use Rattle.sd_cover_tracing.proofs.tracing.join.Goals as goal

pub returns : goal.returns
returns c =
    let old = c.args.gone.now.items in
    let new = c.sort_unstable.new.self.items in
    let moved : IsPermutation (old ++ c.args.leaf ∷ []) new =
    subst (λ xs. IsPermutation xs new) c.in_ok-push.ensures.items c.sort_unstable.ensures.permutation in
    record {
      ascending = joined_ascending c.args.leaf old new c.requires.ascending c.requires.fresh moved
          c.sort_unstable.ensures.sorted;
      members = joined_members c.args.leaf old new moved;
      more = length_permutation (old ++ c.args.leaf ∷ []) new moved ∙ length_push old c.args.leaf;
    }
