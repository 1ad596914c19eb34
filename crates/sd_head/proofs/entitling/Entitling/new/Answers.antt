use Rattle.std.proofs.Common.{ℕ, refl, subst, arith}
use Rattle.sd_book.specs.Limits.{IsWithinLimits}
use Rattle.sd_head.proofs.entitling.Entitling.new.Goals as goal

pub returns-clause-value : goal.returns-clause-value
returns-clause-value c =
    let site = c.args.site.now in
    record {
      is_plan = record {
        site = record {
          height = (
            omega (arith, c.get.ensures.value, c.get.ensures.low),
            omega (arith, c.get.ensures.value, c.get.ensures.high),
          );
          emm = site.emm_in;
          ecm = site.ecm_in;
          apart = site.apart;
          every = site.every_in;
          cryptos = site.cryptos_in;
          span = site.span_in;
          messages = site.messages_in;
          first_word = site.first_word_in;
          last_word = site.last_word_in;
          first_period = site.first_period_in;
        };
        ca = omega (arith, c.if-prove-2.false);
        book = subst (λ (d : ℕ). IsWithinLimits d c.args.book.commands) c.requires
            c.commands-within_limits.ensures.fits;
      };
      commands = refl;
      of_height = c.requires;
      place = c.new.ensures.place c.args.book.commands;
      next = omega (arith, c.new.ensures.next);
      height = c.new-2.ensures.value.0;
      revoked_are = c.new-2.ensures.value.1;
    }
