use Rattle.std.proofs.Common.{◌∙◌, ◌++◌, ◌-◌, ◌==◌, ℕ, true, sym, ap, subst, arith}
use Rattle.std.specs.Prelude.{map, Some}
use Rattle.sd_site_cards.specs.SiteFields.{site_fields_of}
use Rattle.sd_spec.specs.Plan.{closing_number, crypto_of}
use Rattle.sd_head.specs.Kept.{uncounted, IsPeriodState}
use Rattle.sd_head.specs.Lending.{with_emms}
use Rattle.sd_head.proofs.Periods.{still_of, left_alike}
use Rattle.sd_head.specs.Staged.{plan_of_head}
use Rattle.sd_head.specs.declared.crypto.CryptoPeriod.{CryptoPeriod}
use Rattle.sd_head.specs.Messages.{head_of_ecm}
use Rattle.sd_head.specs.Items.{tables_bytes, message_bytes}
use Rattle.sd_head.proofs.Stepping.{ends}
use Rattle.sd_head.proofs.head.Head.send_closing.Goals as goal

pub returns-in-Ok-clause-value : goal.returns-in-Ok-clause-value
returns-in-Ok-clause-value g c = record {
  bytes = tables_bytes c.prepare_closing-message.new.self (c.count-count.result == 0) c.emms-emms.result.now
      ++ message_bytes c.args.self.now.site.ecm c.prepare_closing-message.new.self
      (Some c.prepare_closing-message.result);
  steps = c.finish.new.steps;
  says = ends c.args.self.now (record {
    site = c.args.self.now.site;
    clear = c.args.self.now.clear;
    entitling = with_emms c.finish.new.entitling c.send_inserted.new.emms;
    sender = c.send_inserted.new.self;
    refusal = c.args.self.now.refusal;
  }) c.prepare_closing-message.new.self
      (c.count-count.result == 0) c.emms-emms.result.now
      c.prepare_closing-message.result c.finish.new.steps
      (record {
        at_work = subst (λ (n : ℕ). IsPeriodState (plan_of_head c.args.self.now)
            (crypto_of (site_fields_of c.args.self.now.site) (n - 1))
            (with_emms c.finish.new.entitling c.send_inserted.new.emms)) c.count-count.ensures
            (still_of (plan_of_head c.args.self.now) (crypto_of (site_fields_of c.args.self.now.site)
            (c.count-count.result - 1))
            c.finish.new.entitling c.emms-emms.result.now c.send_inserted.new.emms c.in_default.ensures.value
            c.emms-emms.ensures.value c.send_inserted.auto.emms c.in-Ok.ensures.alike);
        placed = c.prepare_closing-message.ensures.unchanged;
        due_is = ap (λ (n : ℕ). n == 0) c.count-count.ensures;
        emms_of = sym (left_alike c.finish.new.entitling c.emms-emms.result.now c.send_inserted.new.emms
            c.emms-emms.ensures.value c.send_inserted.auto.emms c.in-Ok.ensures.alike);
        head_is = c.prepare_closing-message.ensures.value
            ∙ ap (λ (x : CryptoPeriod). head_of_ecm (site_fields_of c.args.self.now.site) x c.args.self.now.clear.count
            (closing_number (site_fields_of c.args.self.now.site) c.args.self.now.clear.count) true)
            c.crypto-crypto.ensures;
        places_are = c.prepare_closing-message.ensures.places;
      });
  taken = c.in-Ok.ensures.value.taken;
  room = c.in-Ok.ensures.value.room;
  counted = omega arith;
}

pub returns-in-Err-send_inserted-clause-prefix : goal.returns-in-Err-send_inserted-clause-prefix
returns-in-Err-send_inserted-clause-prefix g c = λ fails. record {
  bytes = tables_bytes c.prepare_closing-message.new.self (c.count-count.result == 0) c.emms-emms.result.now
      ++ message_bytes c.args.self.now.site.ecm c.prepare_closing-message.new.self
      (Some c.prepare_closing-message.result);
  says = (
    c.finish.new.steps,
    omega arith,
    (
      (record {
        site = c.args.self.now.site;
        clear = c.args.self.now.clear;
        entitling = c.finish.new.entitling;
        sender = c.args.self.now.sender;
        refusal = c.args.self.now.refusal;
      }),
      ends c.args.self.now (record {
        site = c.args.self.now.site;
        clear = c.args.self.now.clear;
        entitling = c.finish.new.entitling;
        sender = c.args.self.now.sender;
        refusal = c.args.self.now.refusal;
      }) c.prepare_closing-message.new.self
          (c.count-count.result == 0) c.emms-emms.result.now
          c.prepare_closing-message.result c.finish.new.steps
          (record {
            at_work = subst (λ (n : ℕ). IsPeriodState (plan_of_head c.args.self.now)
                (crypto_of (site_fields_of c.args.self.now.site) (n - 1)) c.finish.new.entitling)
                c.count-count.ensures c.in_default.ensures.value;
            placed = c.prepare_closing-message.ensures.unchanged;
            due_is = ap (λ (n : ℕ). n == 0) c.count-count.ensures;
            emms_of = ap (map uncounted) c.emms-emms.ensures.value;
            head_is = c.prepare_closing-message.ensures.value
                ∙ ap (λ (x : CryptoPeriod). head_of_ecm (site_fields_of c.args.self.now.site) x
                c.args.self.now.clear.count
                (closing_number (site_fields_of c.args.self.now.site) c.args.self.now.clear.count) true)
                c.crypto-crypto.ensures;
            places_are = c.prepare_closing-message.ensures.places;
          }),
    ),
  );
  prefix = c.in-Err-send_inserted.ensures.value.prefix;
  short = c.in-Err-send_inserted.ensures.value.short;
  taken = c.in-Err-send_inserted.ensures.value.taken;
  room = c.in-Err-send_inserted.ensures.value.room;
}
