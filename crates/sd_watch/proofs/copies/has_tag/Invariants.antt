use Rattle.std.specs.Prelude.{◌≡◌, ◌==◌, take}
use Rattle.std.specs.List.{list_any}
use Rattle.sd_watch.proofs.copies.has_tag.Given as goal

abbrev pub invariant-loop-at : goal.invariant-loop-at
invariant-loop-at l = l.found ≡ list_any (λ other. other == l.tag) (take l.at l.tags)
