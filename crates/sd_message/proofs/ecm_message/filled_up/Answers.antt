use Rattle.std.proofs.Common.{List, ◌++◌, length, drop, ap, ◌∙◌}
use Rattle.std.specs.Prelude.{replicate}
use Rattle.std.proofs.lemmas.List.{drop-replicate}
use Rattle.sd_message.specs.EcmForm.{no_place}
use Rattle.sd_message.specs.declared.ecm_part.Place.{Place}
use Rattle.sd_message.proofs.ecm_message.filled_up.Goals as goal

pub returns : goal.returns
returns c =
    let own : List Place = c.args.own.now in
    ap (λ (l : List Place). l ++ drop (length own) (replicate 13 no_place)) c.copy_from_slice.ensures.after
    ∙ ap (λ (l : List Place). own ++ l) (drop-replicate (length own) 13 no_place)
