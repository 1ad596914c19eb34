-- Which period comes with a crypto period.
use Rattle.std.proofs.Common.{◌≡◌, ℕ, zero, suc, ◌+◌, ◌-◌, ◌/◌, ◌<◌, ◌≤◌, min, true}
use Rattle.std.proofs.Common.{refl, ap, sym, subst, ◌∙◌, inl, inr, arith}
use Rattle.std.proofs.lemmas.Bool.{cases_lt}
use Rattle.std.proofs.lemmas.Grind.{common_steps}
use Rattle.std.proofs.lemmas.List.{with_items_is}
use Rattle.std.specs.Prelude.{List, [], ◌∷◌, map, length, Result, Ok, Err, OnErr}
use Rattle.sd_tree_keys.specs.declared.set.SetName.{SetName}
use Rattle.sd_book.specs.Commands.{last_period, revoked}
use Rattle.sd_book.proofs.Cuts.{revoked_past}
use Rattle.sd_book.specs.declared.command.Command.{Command}
use Rattle.sd_book.specs.Place.{PlaceValue, IsPlaceIn}
use Rattle.sd_book.specs.Value.{BookValue}
use Rattle.sd_cover_tracing.specs.Cover.{cover_of}
use Rattle.sd_packet.specs.Packing.{section_packet}
use Rattle.sd_packet.proofs.Packets.{packet_counted}
use Rattle.sd_message.specs.EmmSpelled.{emm_section}
use Rattle.sd_message.specs.Period.{Period, emms_of}
use Rattle.sd_message.specs.declared.emm.Emm.{Emm}
use Rattle.sd_cover_tracing.specs.Index.{IndexValue}
use Rattle.sd_spec.specs.Messages.{period_at}
use Rattle.sd_head.specs.Crypto.{crypto_in}
use Rattle.sd_head.specs.Packets.{period_packets, period_of_sets}
use Rattle.sd_spec.specs.Plan.{Plan, IsPlan, sets_at, word_in, period_in}
use Rattle.sd_spec.proofs.Schedule.{periods_in_rise, period_in_first, period_in_within}
use Rattle.sd_head.specs.Kept.{begins_period, uncounted, AreAlikeButCounters, HasBegun, IsInPeriod, IsPeriodState}
use Rattle.sd_head.specs.Kept.{IsBeforePeriod}
use Rattle.sd_head.proofs.Packing.{of_sections}
use Rattle.sd_head.specs.Lending.{with_emms}
use Rattle.sd_head.specs.declared.entitling.Entitling.{Entitling}

-- what holds at all events holds after an error
pub on_err_always : {T E P : Type 0} (result : Result T E) → P → OnErr result P
on_err_always (Ok x) p = tt
on_err_always (Err e) p = p

-- no crypto period is of a period before the site's first
from_first : (plan : Plan) (n : ℕ) → IsPlan plan → plan.site.first_period ≤ period_in plan n
from_first plan n p = omega (arith, period_in_first plan, periods_in_rise plan 0 n p.site (omega arith))

rises : (plan : Plan) (n : ℕ) → IsPlan plan → period_in plan n ≤ period_in plan (suc n)
rises plan n p = periods_in_rise plan n (suc n) p.site (omega arith)

-- where the next crypto period's period has no commands to take, it is the same
held : (plan : Plan) (n : ℕ) → IsPlan plan →
    min (period_in plan (suc n)) (last_period plan.commands) ≤ min (period_in plan n) (last_period plan.commands) →
    period_in plan n ≡ period_in plan (suc n)
held plan n p same =
    elim (period_in_within plan (suc n)) [
      | inl first ↦ omega (arith, first, from_first plan n p, rises plan n p)
      | inr below ↦ omega (arith, below, same, rises plan n p)
    ]

-- where all commands up to those of crypto period n's period are taken, that period is at work
pub still_at_work : (plan : Plan) (n p : ℕ) (state : Entitling) → IsBeforePeriod plan n state →
    p ≡ min (period_in plan n) (last_period plan.commands) → p < state.place.next →
    IsInPeriod plan (period_in plan n) state
still_at_work plan zero p state is decides above = absurd (omega (arith, is.next, above))
still_at_work plan (suc n) p state is decides above =
    let same = held plan n is.period.begun.is_plan (omega (arith, above, decides, is.period.begun.next)) in
    subst (λ (q : ℕ). IsInPeriod plan q state) same is.period

-- and a period begins with crypto period n
pub begun_is : (plan : Plan) (n p : ℕ) (state : Entitling) → IsBeforePeriod plan n state →
    p ≡ min (period_in plan n) (last_period plan.commands) → state.place.next ≤ p →
    begins_period plan n ≡ true
unfolding begins_period
begun_is plan zero p state is decides below = refl
begun_is plan (suc n) p state is decides below =
    let less : period_in plan n < period_in plan (suc n) = omega (arith, below, decides, is.period.begun.next) in
    let back : suc n - 1 ≡ n = omega arith in
    rw back (grind (arith, common_steps))

-- the period that a head end comes to
pub period_is : (plan : Plan) (n few most last : ℕ) → few ≡ min (n / plan.site.span) most →
    most ≡ last - plan.site.first_period → last ≡ last_period plan.commands →
    plan.site.first_period + few ≡ period_in plan n
unfolding period_in
period_is plan n few most last is up of_book =
    ap (λ (x : ℕ). plan.site.first_period + x) (is ∙ (ap (min (n / plan.site.span)) up
    ∙ ap (λ (x : ℕ). min (n / plan.site.span) (x - plan.site.first_period)) of_book))

-- the last commands that decide a period are those of the book's last, where it is after that
pub revoked_min : (d q : ℕ) (commands : List Command) →
    revoked d commands (min q (last_period commands)) ≡ revoked d commands q
revoked_min d q commands =
    elim (cases_lt q (last_period commands)) [
      | inl below ↦
          let same : min q (last_period commands) ≡ q = omega (arith, below) in
          ap (revoked d commands) same
      | inr past ↦
          let same : min q (last_period commands) ≡ last_period commands = omega (arith, past) in
          ap (revoked d commands) same ∙ sym (revoked_past d q commands past)
    ]

-- the packets of sections, each with counter 0, are such
made_uncounted : (pid : ℕ) (period : Period) →
    map uncounted (period_packets pid period) ≡ period_packets pid period
unfolding period_packets
made_uncounted pid period = all_made (emms_of period)
  where
    all_made : (emms : List Emm) → map uncounted (of_sections pid emms) ≡ of_sections pid emms
    all_made [] = refl
    all_made (emm ∷ emms) =
        ap (λ (packet : List ℕ). packet ∷ map uncounted (of_sections pid emms))
        (sym (packet_counted (emm_section emm) pid 0))
        ∙ ap (λ (packets : List (List ℕ)). section_packet (emm_section emm) pid 0 ∷ packets) (all_made emms)

-- the periods that have begun are those of the book, the place and the index
same_begun : (plan : Plan) (periods : ℕ) (old new : Entitling) → HasBegun plan periods old →
    new.book ≡ old.book → new.place ≡ old.place → new.index ≡ old.index → HasBegun plan periods new
same_begun plan periods old new was book place index = record {
  is_plan = was.is_plan;
  commands = ap (λ (b : BookValue). b.commands) book ∙ was.commands;
  of_height = ap (λ (b : BookValue). b.height) book ∙ was.of_height;
  place = subst (IsPlaceIn plan.commands) (sym place) was.place;
  next = ap (λ (p : PlaceValue). p.next) place ∙ was.next;
  height = ap (λ (i : IndexValue). i.height) index ∙ was.height;
  revoked_are = ap (λ (i : IndexValue). i.revoked) index ∙ was.revoked_are;
}

-- a period that has begun
pub in_period : (plan : Plan) (begun p q : ℕ) (old new : Entitling) → HasBegun plan begun old →
    p ≡ min q (last_period plan.commands) → new.book ≡ old.book →
    IsPlaceIn plan.commands new.place → new.place.next ≡ p + 1 →
    new.index.height ≡ old.index.height →
    new.index.revoked ≡ revoked plan.site.height plan.commands p →
    new.emms.items ≡ period_packets plan.site.emm
    (period_of_sets plan.site q (cover_of new.index.height new.index.revoked)) →
    IsInPeriod plan q new
unfolding period_at period_of_sets sets_at
in_period plan begun p q old new was decides same place next height decided emms =
    let one : q + 1 ≡ suc q = omega arith in
    let revoked_are = decided ∙ (ap (revoked plan.site.height plan.commands) decides
    ∙ revoked_min plan.site.height q plan.commands) in
    record {
      begun = rw one (record {
        is_plan = was.is_plan;
        commands = ap (λ (book : BookValue). book.commands) same ∙ was.commands;
        of_height = ap (λ (book : BookValue). book.height) same ∙ was.of_height;
        place = place;
        next = omega (arith, next, decides);
        height = height ∙ was.height;
        revoked_are = revoked_are;
      });
      emms = ap (map uncounted) emms ∙ (made_uncounted plan.site.emm _
          ∙ ap (λ (sets : List SetName). period_packets plan.site.emm (period_of_sets plan.site q sets))
          (rw (height ∙ was.height, revoked_are) refl));
    }

-- the packets that are kept once those lent got other counters
pub left_alike : (state : Entitling) (lent left : List (List ℕ)) → lent ≡ state.emms.items →
    length left ≡ length lent → AreAlikeButCounters left lent →
    AreAlikeButCounters (with_emms state left).emms.items lent
left_alike state lent left is long alike =
    let same : length lent ≡ length state.emms.items = ap (λ (xs : List (List ℕ)). length xs) is in
    ap (map uncounted) (with_items_is state.emms left (omega (arith, long, same, state.emms.ok.0))) ∙ alike

-- the crypto period stays at work
pub still_of : (plan : Plan) (n : ℕ) (state : Entitling) (lent left : List (List ℕ)) → IsPeriodState plan n state →
    lent ≡ state.emms.items → length left ≡ length lent → AreAlikeButCounters left lent →
    IsPeriodState plan n (with_emms state left)
still_of plan n state lent left was is long alike = record {
  period = record {
    begun = same_begun plan (period_in plan n + 1) state (with_emms state left) was.period.begun refl refl refl;
    emms = left_alike state lent left is long alike ∙ (ap (map uncounted) is ∙ was.period.emms);
  };
  crypto = was.crypto;
}

-- a crypto period that has begun
pub at_work : (plan : Plan) (n q : ℕ) (old new : Entitling) → IsInPeriod plan q old → q ≡ period_in plan n →
    new.book ≡ old.book → new.place ≡ old.place → new.index ≡ old.index → new.emms.items ≡ old.emms.items →
    new.crypto ≡ crypto_in plan.site.master q (word_in plan.site n) → IsPeriodState plan n new
at_work plan n q old new was period book place index emms crypto = record {
  period = subst (λ (p : ℕ). IsInPeriod plan p new) period (record {
    begun = same_begun plan (q + 1) old new was.begun book place index;
    emms = ap (map uncounted) emms ∙ was.emms;
  });
  crypto = crypto ∙ ap (λ (p : ℕ). crypto_in plan.site.master p (word_in plan.site n)) period;
}
