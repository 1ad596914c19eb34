use Rattle.std.proofs.Common.{ap, sym, ◌∙◌}
use Rattle.std.specs.Prelude.{Ok}
use Rattle.sd_spec.specs.Counting.{is_part_again}
use Rattle.sd_spec.specs.Heard.{heard_ecm}
use Rattle.sd_receive.proofs.Asked.{again_is}
use Rattle.sd_receive.proofs.session.Session.hears_again.Goals as goal

pub returns-in-Ok-Some : goal.returns-in-Ok-Some
returns-in-Ok-Some c card past follows =
    again_is card past c.args.self.now c.in-Ok-Some.part c.says_nothing_new.result follows c.says_nothing_new.ensures
    ∙ (ap (λ o. is_part_again past (heard_ecm (Ok o))) (sym c.in-Ok-Some.field-0-is)
    ∙ ap (λ r. is_part_again past (heard_ecm r)) c.in-Ok-Some.ensures.value)
