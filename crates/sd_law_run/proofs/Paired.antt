-- The files of an `apart` that is done.
use Rattle.std.proofs.Common.{arith, ◌≡◌, ℕ, zero, suc, List, [], ◌∷◌, Option, None, Some, Result, Ok}
use Rattle.std.proofs.Common.{refl, sym, ap, subst, ◌∙◌, append-nil}
use Rattle.std.proofs.lemmas.List.Elements.{All-nil, All-cons}
use Rattle.std.specs.List.{concat}
use Rattle.std.specs.Io.KnownBytes.{Appends}
use Rattle.sd_ports.specs.Files.{Files}
use Rattle.sd_site_cards.specs.SiteFields.{SiteFields}
use Rattle.sd_book.specs.declared.command.Command.{Command}
use Rattle.sd_spec.specs.Plan.{Plan, IsPlan}
use Rattle.sd_spec.specs.Refused.{IsClear}
use Rattle.sd_law_broadcast.specs.Runs.{Run, IsRun}
use Rattle.sd_law_broadcast.proofs.Sendable.{clear_sendable}
use Rattle.sd_law_plan.proofs.Clashes.{EachIs, EachTwo, all_agree, all_words, one_set, one_tree}
use Rattle.sd_command_base.specs.declared.status.Status.{Status}
use Rattle.sd_command_base.specs.declared.status.Status.TheVariants.{Done}
use Rattle.sd_command_base.specs.declared.status.Clash.{Clash as ClashKind}
use Rattle.sd_command_base.specs.Spec.{FileArgument, Readings, contents_of, of_result, value, ◌>>=◌}
use Rattle.sd_command_base.specs.Both.{both_meaning}
use Rattle.sd_command_base.specs.Outside.{IoState}
use Rattle.sd_command_base.specs.Work.{Work, work_of_text}
use Rattle.sd_command_base.specs.Results.{RunResult}
use Rattle.sd_command_line.specs.Words.{Order, ApartOf, order_of}
use Rattle.sd_run_books.specs.Apart.{apart_text, plan_clash, plan_of_both, told_apart, told_clash}
use Rattle.sd_run.specs.Meaning.{order_meaning, meaning}
use Rattle.sd_law_run.specs.Good.{IsGoodSite, IsGoodBook, IsGoodApart}
use Rattle.sd_law_run.specs.Pairs.{ArePremisesMet, IsApart, first_told, second_told}
use Rattle.sd_law_run.proofs.Outs.{done_leaves}
use Rattle.sd_law_formats.proofs.SayableSites.{ca_fits}
use Rattle.sd_law_run.proofs.Readable.{both_taken}
use Rattle.sd_law_run.proofs.Sent.{then_ok, value_is}

-- two broadcasts of plans that don't clash
module _ (master : List ℕ) (a b : Run) (first : IsRun master a) (second : IsRun master b)
    (apart : plan_clash a.plan b.plan ≡ None) where
  abbrev two : List Run
  two = a ∷ b ∷ []

  each : EachIs master two
  each zero c e = let same : a ≡ c = cc in subst (IsRun master) same first
  each (suc zero) c e = let same : b ≡ c = cc in subst (IsRun master) same second
  each (suc (suc i)) c e = absurd (cc)

  each_two : EachTwo two
  each_two zero zero c d e f low = absurd (omega (arith, low))
  each_two zero (suc zero) c d e f low =
      let one : a ≡ c = cc in
      let other : b ≡ d = cc in
      subst (λ (r : Run). plan_clash r.plan d.plan ≡ None) one
      (subst (λ (r : Run). plan_clash a.plan r.plan ≡ None) other apart)
  each_two zero (suc (suc j)) c d e f low = absurd (cc)
  each_two (suc zero) zero c d e f low = absurd (omega (arith, low))
  each_two (suc zero) (suc zero) c d e f low = absurd (omega (arith, low))
  each_two (suc zero) (suc (suc j)) c d e f low = absurd (cc)
  each_two (suc (suc i)) j c d e f low = absurd (cc)

  pub two_met : ArePremisesMet master a.plan.site.height two
  two_met = record {
    each = All-cons (IsRun master) a (b ∷ []) first (All-cons (IsRun master) b [] second (All-nil (IsRun master)));
    words = all_words master two each (omega arith) each_two;
    agree = all_agree master two each each_two;
    tree = one_tree a (b ∷ []) each_two;
  }

-- a site and its book that were read are a plan
plan_taken : {got more : Option (List ℕ)} (site : SiteFields) (commands : List Command) → IsGoodSite got site →
    IsGoodBook more site.height commands → IsPlan (record { site = site; commands = commands })
plan_taken site commands good_site good_book = record {
  site = good_site.is_site.ranges;
  ca = ca_fits good_site.bytes site good_site.is_site;
  book = good_book.within;
}

-- a text of two is told if they don't clash
told_none : (clash : Option ClashKind) (text told : List ℕ) → told_clash clash text ≡ Ok told →
    (clash ≡ None) × (text ≡ told)
told_none None text told e = (refl, let same : text ≡ told = cc in same)
told_none (Some clash) text told e = absurd (cc)

none_told : (a b : Plan) (told : List ℕ) → told_apart a b ≡ Ok told → (plan_clash a b ≡ None) × (apart_text a b ≡ told)
unfolding told_apart
none_told a b told e = told_none (plan_clash a b) (apart_text a b) told e

good_met : {words : List (List ℕ)} {given : Readings} (good : IsGoodApart words given) →
    plan_clash (first_told good) (second_told good) ≡ None → (clear more : List (List ℕ)) →
    IsClear good.fields clear → IsClear good.other_fields more →
    ArePremisesMet good.fields.master good.fields.height
    (record { plan = first_told good; clear = clear } ∷ record { plan = second_told good; clear = more } ∷ [])
good_met good none clear more is_clear more_clear =
    two_met good.fields.master (record { plan = first_told good; clear = clear })
    (record { plan = second_told good; clear = more }) (record {
      plan_fits = plan_taken good.fields good.commands good.good_site good.good_book;
      master_is = refl;
      is_sendable = clear_sendable good.fields clear is_clear;
    }) (record {
      plan_fits = plan_taken good.other_fields good.more_commands good.good_other good.good_more;
      master_is = sym (one_set (first_told good) (second_told good) none).1;
      is_sendable = clear_sendable good.other_fields more more_clear;
    }) none

pub apart_done : (words : List (List ℕ)) (site book other more : FileArgument) (files : Files) (a b : IoState) →
    order_of words ≡ Ok (ApartOf site book other more) → a.place.files ≡ Some files →
    RunResult (meaning words) a b Done → IsApart words files a b
apart_done words site book other more files a b order known answers =
    let given = contents_of files in
    let done = done_leaves (meaning words) files a b Done known refl answers in
    let meant = sym (ap (λ (r : Result Order Status). (of_result r >>= λ o. order_meaning o given).result) order)
    ∙ done.is_meant in
    let first = then_ok (both_meaning site book given)
    (λ first. both_meaning other more given
    >>= λ second. of_result (told_apart (plan_of_both first) (plan_of_both second)) >>=
    λ text. value (work_of_text text))
    done.work meant in
    let second = then_ok (both_meaning other more given)
    (λ second. of_result (told_apart (plan_of_both first.from) (plan_of_both second))
    >>= λ text. value (work_of_text text)) done.work first.next_is in
    let text = then_ok (of_result (told_apart (plan_of_both first.from) (plan_of_both second.from)))
    (λ text. value (work_of_text text)) done.work second.next_is in
    let same = value_is (work_of_text text.from) done.work text.next_is in
    let none = none_told (plan_of_both first.from) (plan_of_both second.from) text.from text.first_is in
    let one = both_taken given site book first.from first.first_is in
    let two = both_taken given other more second.from second.first_is in
    let good : IsGoodApart words given = record {
      site = site;
      book = book;
      other = other;
      more = more;
      order = order;
      fields = first.from.site;
      good_site = one.good_site;
      commands = first.from.commands;
      good_book = one.good_book;
      other_fields = second.from.site;
      good_other = two.good_site;
      more_commands = second.from.commands;
      good_more = two.good_book;
    } in
    let pieces : concat done.work.pieces ≡ apart_text (first_told good) (second_told good) =
    ap (λ (w : Work). concat w.pieces) (sym same) ∙ (append-nil text.from ∙ sym none.1) in
    record {
      good = good;
      apart = good_met good none.0;
      printed = subst (λ (l : List ℕ). Appends a.page.printed b.page.printed l) pieces done.printed;
    }
