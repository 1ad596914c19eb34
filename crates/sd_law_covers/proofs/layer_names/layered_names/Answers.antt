use Rattle.std.proofs.Common.{rules, ◌≡◌, List, subst}
use Rattle.std.specs.Prelude.{All}
use Rattle.sd_tree_keys.specs.SetNames.{IsOfHeight}
use Rattle.sd_tree_keys.specs.Names.{names_of_receiver}
use Rattle.sd_tree_keys.specs.declared.name.Name.{Name}
use Rattle.sd_lsd.specs.LayerNames.{set_of}
use Rattle.sd_lsd.proofs.Given.{all_of_height}
use Rattle.sd_law_covers.proofs.layer_names.layered_names.Goals as goal

pub useful_names-requires-clause-names : goal.useful_names-requires-clause-names
useful_names-requires-clause-names c =
    let same : names_of_receiver c.args.h c.args.u ≡ c.deref.result.now = search rules in
    subst (λ (names : List Name). All (λ name. IsOfHeight c.args.h (set_of name)) names) same
    (all_of_height c.args.h c.args.u c.requires.leaf)
