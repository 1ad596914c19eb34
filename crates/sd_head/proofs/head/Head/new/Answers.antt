use Rattle.std.proofs.Common.{List, refl, sym, subst, ap}
use Rattle.sd_site_cards.specs.SiteFields.{site_fields_of}
use Rattle.sd_spec.specs.Sent.{Item}
use Rattle.sd_head.specs.Kept.{plan_of}
use Rattle.sd_head.specs.Items.{HasSentItems}
use Rattle.sd_head.proofs.Stepping.{none_sendable, sent_none, begun_ready}
use Rattle.std.specs.Prelude.{None}
use Rattle.sd_head.proofs.head.Head.new.Goals as goal

pub returns-clause-value : goal.returns-clause-value
returns-clause-value c =
    let plan = plan_of c.args.site c.args.book in
    record {
      keeps_to = ap (plan_of c.args.site) c.new-2.ensures.book;
      unrefused = refl;
      are_sendable = none_sendable (site_fields_of c.args.site);
      clear_is = c.in_ok-new.ensures;
      entitled = c.new-2.ensures.value;
      has_sent = subst (λ (items : List Item). HasSentItems (site_fields_of c.args.site) items c.in_ok-new-2.field-0)
          (sym (sent_none plan)) c.in_ok-new-2.ensures;
    }

pub returns-clause-live : goal.returns-clause-live
returns-clause-live c =
    begun_ready (plan_of c.args.site c.args.book) (record {
      site = c.args.site;
      clear = c.in_ok-new.field-0;
      entitling = c.new-2.result;
      sender = c.in_ok-new-2.field-0;
      refusal = None;
    }) (returns-clause-value c)
