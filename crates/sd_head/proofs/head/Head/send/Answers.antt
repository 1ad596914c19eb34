use Rattle.std.proofs.Common.{◌∙◌, ◌++◌, ◌+◌, ◌%◌, ◌==◌, ℕ, length, refl, sym, ap, subst, arith}
use Rattle.std.specs.Prelude.{map, if◌then◌else◌}
use Rattle.sd_tree_keys.specs.Keys.{control_word_of}
use Rattle.sd_site_cards.specs.SiteFields.{site_fields_of}
use Rattle.sd_spec.specs.Plan.{crypto_length, crypto_of}
use Rattle.sd_head.specs.declared.crypto.CryptoPeriod.{CryptoPeriod}
use Rattle.sd_head.specs.Kept.{uncounted, IsPeriodState}
use Rattle.sd_head.specs.Lending.{with_emms}
use Rattle.sd_head.proofs.Periods.{still_of, left_alike}
use Rattle.sd_head.specs.Messages.{message_due}
use Rattle.sd_head.specs.Sending.{counter_after}
use Rattle.sd_head.specs.Items.{tables_bytes, message_bytes, parts_in}
use Rattle.sd_head.specs.Staged.{plan_of_head}
use Rattle.sd_head.proofs.Refusing.{judged_sendable}
use Rattle.sd_head.proofs.Stepping.{sends, ready}
use Rattle.sd_head.proofs.head.Head.send.Goals as goal

pub returns-in-Ok-send_packet-clause-value : goal.returns-in-Ok-send_packet-clause-value
returns-in-Ok-send_packet-clause-value g c = record {
  bytes = (tables_bytes c.prepare-message.new.self c.in-Ok.inserted.begins c.emms-emms.result.now
      ++ message_bytes c.args.self.now.site.ecm c.prepare-message.new.self c.prepare-message.result)
      ++ c.carry.new.packet;
  steps = c.begin.new.steps;
  says = sends c.args.self.now (record {
    site = c.args.self.now.site;
    clear = c.take.new.self;
    entitling = with_emms c.begin.new.entitling c.send_packet.new.emms;
    sender = c.send_packet.new.self;
    refusal = c.args.self.now.refusal;
  }) c.args.packet.now c.prepare-message.new.self c.in-Ok.inserted.begins c.emms-emms.result.now
      c.prepare-message.result c.carry.new.packet
      (record {
        judged = λ before kept. judged_sendable c.requires.judged.0 (site_fields_of c.args.self.now.site) before
            c.args.packet.now (c.requires.judged.1.value before kept);
        at_work = still_of (plan_of_head c.args.self.now)
            (crypto_of (site_fields_of c.args.self.now.site) c.args.self.now.clear.count)
            c.begin.new.entitling c.emms-emms.result.now c.send_packet.new.emms
            (subst (λ (n : ℕ). IsPeriodState (plan_of_head c.args.self.now)
            (crypto_of (site_fields_of c.args.self.now.site) n)
            c.begin.new.entitling) c.count-count.ensures c.in-Ok.ensures.value)
            c.emms-emms.ensures.value c.send_packet.auto.emms c.in-Ok-send_packet.ensures.alike;
        placed = c.prepare-message.ensures.unchanged;
        due_is = c.in-Ok.ensures.begins
            ∙ ap (λ (n : ℕ). n % crypto_length (site_fields_of c.args.self.now.site) == 0) c.count-count.ensures;
        emms_of = sym (left_alike c.begin.new.entitling c.emms-emms.result.now c.send_packet.new.emms
            c.emms-emms.ensures.value c.send_packet.auto.emms c.in-Ok-send_packet.ensures.alike);
        message_of = c.prepare-message.ensures.value
            ∙ ap (λ (x : CryptoPeriod). message_due (site_fields_of c.args.self.now.site) x c.args.self.now.clear.count)
            c.crypto-crypto.ensures;
        places_are = c.prepare-message.ensures.places;
        carried_is = λ before kept number word. c.carry.ensures (site_fields_of c.args.self.now.site)
            c.args.self.now.clear before c.requires.judged.1.follows kept
            (ap (λ (x : CryptoPeriod). x.number) c.crypto-crypto.ensures ∙ number)
            (ap (λ (x : CryptoPeriod). x.word) c.crypto-crypto.ensures ∙ (word
            ∙ ap (control_word_of c.args.self.now.site.master)
            (sym (ap (λ (x : CryptoPeriod). x.number) c.crypto-crypto.ensures))));
      })
      (record {
        site_is = refl;
        book_is = c.begin.ensures.book;
        refusal_is = refl;
        taken = λ before. c.take.ensures (site_fields_of c.args.self.now.site) before c.args.packet.now
            c.requires.judged.1.follows;
        follows = c.in-Ok-send_packet.ensures.next;
      })
      c.begin.new.steps;
  taken = c.in-Ok-send_packet.ensures.value.taken;
  room = c.in-Ok-send_packet.ensures.value.room;
  counted = omega arith;
}

pub returns-in-Ok-send_packet-clause-on : goal.returns-in-Ok-send_packet-clause-on
returns-in-Ok-send_packet-clause-on g c = ready c.args.self.now (record {
  site = c.args.self.now.site;
  clear = c.take.new.self;
  entitling = with_emms c.begin.new.entitling c.send_packet.new.emms;
  sender = c.send_packet.new.self;
  refusal = c.args.self.now.refusal;
}) c.args.packet.now c.prepare-message.new.self c.in-Ok.inserted.begins c.emms-emms.result.now
    c.prepare-message.result c.carry.new.packet
    (record {
      judged = λ before kept. judged_sendable c.requires.judged.0 (site_fields_of c.args.self.now.site) before
          c.args.packet.now (c.requires.judged.1.value before kept);
      at_work = still_of (plan_of_head c.args.self.now)
          (crypto_of (site_fields_of c.args.self.now.site) c.args.self.now.clear.count)
          c.begin.new.entitling c.emms-emms.result.now c.send_packet.new.emms
          (subst (λ (n : ℕ). IsPeriodState (plan_of_head c.args.self.now)
          (crypto_of (site_fields_of c.args.self.now.site) n)
          c.begin.new.entitling) c.count-count.ensures c.in-Ok.ensures.value)
          c.emms-emms.ensures.value c.send_packet.auto.emms c.in-Ok-send_packet.ensures.alike;
      placed = c.prepare-message.ensures.unchanged;
      due_is = c.in-Ok.ensures.begins
          ∙ ap (λ (n : ℕ). n % crypto_length (site_fields_of c.args.self.now.site) == 0) c.count-count.ensures;
      emms_of = sym (left_alike c.begin.new.entitling c.emms-emms.result.now c.send_packet.new.emms
          c.emms-emms.ensures.value c.send_packet.auto.emms c.in-Ok-send_packet.ensures.alike);
      message_of = c.prepare-message.ensures.value
          ∙ ap (λ (x : CryptoPeriod). message_due (site_fields_of c.args.self.now.site) x c.args.self.now.clear.count)
          c.crypto-crypto.ensures;
      places_are = c.prepare-message.ensures.places;
      carried_is = λ before kept number word. c.carry.ensures (site_fields_of c.args.self.now.site)
          c.args.self.now.clear before c.requires.judged.1.follows kept
          (ap (λ (x : CryptoPeriod). x.number) c.crypto-crypto.ensures ∙ number)
          (ap (λ (x : CryptoPeriod). x.word) c.crypto-crypto.ensures ∙ (word
          ∙ ap (control_word_of c.args.self.now.site.master)
          (sym (ap (λ (x : CryptoPeriod). x.number) c.crypto-crypto.ensures))));
    })
    (record {
      site_is = refl;
      book_is = c.begin.ensures.book;
      refusal_is = refl;
      taken = λ before. c.take.ensures (site_fields_of c.args.self.now.site) before c.args.packet.now
          c.requires.judged.1.follows;
      follows = c.in-Ok-send_packet.ensures.next;
    })
    c.requires.on.0 c.requires.on.1

pub returns-in-Err-clause-prefix : goal.returns-in-Err-clause-prefix
returns-in-Err-clause-prefix g c = λ fails. record {
  bytes = (tables_bytes c.prepare-message.new.self c.in-Ok.inserted.begins c.emms-emms.result.now
      ++ message_bytes c.args.self.now.site.ecm c.prepare-message.new.self c.prepare-message.result)
      ++ c.carry.new.packet;
  says = (
    c.begin.new.steps,
    omega arith,
    (
      (record {
        site = c.args.self.now.site;
        clear = c.take.new.self;
        entitling = c.begin.new.entitling;
        sender = record {
          cat = c.prepare-message.new.self.cat;
          cats = if c.in-Ok.inserted.begins then (c.prepare-message.new.self.cats + 1) % 16
              else c.prepare-message.new.self.cats;
          emms = if c.in-Ok.inserted.begins
              then counter_after c.prepare-message.new.self.emms (length c.emms-emms.result.now)
              else c.prepare-message.new.self.emms;
          ecms = counter_after c.prepare-message.new.self.ecms
              (parts_in c.prepare-message.new.self c.prepare-message.result);
          places = c.prepare-message.new.self.places;
          places_room = c.prepare-message.new.self.places_room;
        };
        refusal = c.args.self.now.refusal;
      }),
      sends c.args.self.now (record {
        site = c.args.self.now.site;
        clear = c.take.new.self;
        entitling = c.begin.new.entitling;
        sender = record {
          cat = c.prepare-message.new.self.cat;
          cats = if c.in-Ok.inserted.begins then (c.prepare-message.new.self.cats + 1) % 16
              else c.prepare-message.new.self.cats;
          emms = if c.in-Ok.inserted.begins
              then counter_after c.prepare-message.new.self.emms (length c.emms-emms.result.now)
              else c.prepare-message.new.self.emms;
          ecms = counter_after c.prepare-message.new.self.ecms
              (parts_in c.prepare-message.new.self c.prepare-message.result);
          places = c.prepare-message.new.self.places;
          places_room = c.prepare-message.new.self.places_room;
        };
        refusal = c.args.self.now.refusal;
      }) c.args.packet.now c.prepare-message.new.self c.in-Ok.inserted.begins c.emms-emms.result.now
          c.prepare-message.result c.carry.new.packet
          (record {
            judged = λ before kept. judged_sendable c.requires.judged.0 (site_fields_of c.args.self.now.site) before
                c.args.packet.now (c.requires.judged.1.value before kept);
            at_work = subst (λ (n : ℕ). IsPeriodState (plan_of_head c.args.self.now)
                (crypto_of (site_fields_of c.args.self.now.site) n)
                c.begin.new.entitling) c.count-count.ensures c.in-Ok.ensures.value;
            placed = c.prepare-message.ensures.unchanged;
            due_is = c.in-Ok.ensures.begins
                ∙ ap (λ (n : ℕ). n % crypto_length (site_fields_of c.args.self.now.site) == 0) c.count-count.ensures;
            emms_of = ap (map uncounted) c.emms-emms.ensures.value;
            message_of = c.prepare-message.ensures.value
                ∙ ap (λ (x : CryptoPeriod). message_due (site_fields_of c.args.self.now.site) x
                c.args.self.now.clear.count)
                c.crypto-crypto.ensures;
            places_are = c.prepare-message.ensures.places;
            carried_is = λ before kept number word. c.carry.ensures (site_fields_of c.args.self.now.site)
                c.args.self.now.clear before c.requires.judged.1.follows kept
                (ap (λ (x : CryptoPeriod). x.number) c.crypto-crypto.ensures ∙ number)
                (ap (λ (x : CryptoPeriod). x.word) c.crypto-crypto.ensures ∙ (word
                ∙ ap (control_word_of c.args.self.now.site.master)
                (sym (ap (λ (x : CryptoPeriod). x.number) c.crypto-crypto.ensures))));
          })
          (record {
            site_is = refl;
            book_is = c.begin.ensures.book;
            refusal_is = refl;
            taken = λ before. c.take.ensures (site_fields_of c.args.self.now.site) before c.args.packet.now
                c.requires.judged.1.follows;
            follows = record { cat = refl; cats = refl; emms_next = refl; ecms = refl };
          })
          c.begin.new.steps,
    ),
  );
  prefix = c.in-Err.ensures.value.prefix;
  short = c.in-Err.ensures.value.short;
  taken = c.in-Err.ensures.value.taken;
  room = c.in-Err.ensures.value.room;
}
