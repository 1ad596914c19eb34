use Rattle.std.proofs.Common.{◌∙◌, ◌+◌, ◌-◌, ◌/◌, ℕ, true, ap, arith}
use Rattle.sd_site_cards.specs.SiteFields.{site_fields_of}
use Rattle.sd_head.specs.Messages.{head_of_ecm}
use Rattle.sd_head.proofs.Sends.{rounded_up}
use Rattle.sd_head.proofs.sender.Sender.prepare_closing.Goals as goal

pub returns-clause-value : goal.returns-clause-value
returns-clause-value c =
    let site = c.args.site.now in
    c.make_ready.ensures.value
    ∙ ap (λ (n : ℕ). head_of_ecm (site_fields_of site) c.args.crypto.now c.args.clear.now.count n true)
    (c.div_ceil-number.ensures ∙ (rounded_up c.count.result site.every (omega (arith, site.every_in.0))
    ∙ ap (λ (n : ℕ). (n + site.every - 1) / site.every) c.count.ensures))
