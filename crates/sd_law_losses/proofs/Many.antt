-- What comes of a run within a stream of runs of one channel.
use Rattle.std.proofs.Common.{◌≡◌, refl, ℕ, ◌+◌, ◌-◌, ◌^◌, ◌<◌, ◌||◌, ◌++◌, Bool, true, false, List, [], ◌∷◌, length}
use Rattle.std.proofs.Common.{drop, is_none, reverse, Option, Some, None, sym, ap, ◌∙◌, arith, subst, append-nil}
use Rattle.std.specs.Prelude.{if◌then◌else◌}
use Rattle.std.specs.List.{list_any}
use Rattle.std.specs.Option.{option_map_or}
use Rattle.sd_site_cards.specs.SiteFields.{run_name_of as site_name}
use Rattle.sd_site_cards.specs.CardFields.{CardFields, card_of}
use Rattle.sd_spec.specs.Sent.{Item, Cat, sent, closing_of, broadcast, is_cat_item}
use Rattle.sd_spec.specs.declared.ending.Ending.{Ending}
use Rattle.sd_psi.specs.declared.our_cat.Tuning.{Tuning}
use Rattle.sd_spec.specs.Heard.{hears}
use Rattle.sd_spec.specs.Offered.{Offering, out_from, break_from}
use Rattle.sd_spec.specs.Ending.{ending_of}
use Rattle.sd_spec.specs.Taken.{taken_keys}
use Rattle.sd_spec.proofs.Hearing.{tuned_more}
use Rattle.sd_law_losses.specs.Chosen.{chosen}
use Rattle.sd_law_losses.specs.Kept.{after_cat}
use Rattle.sd_law_losses.specs.Confirmed.{confirmed}
use Rattle.sd_law_losses.specs.Endings.{ending_told}
use Rattle.sd_law_losses.proofs.Setting.{tuning_at}
use Rattle.sd_law_losses.proofs.Lawful.{setting}
use Rattle.sd_law_losses.specs.Channel.{Arrival, Channel, IsRunOf, channel_card}
use Rattle.sd_law_losses.specs.Many.{kept_of_arrival, has_cat}
use Rattle.sd_law_losses.specs.Ends.{is_message, is_told}
use Rattle.sd_law_losses.specs.Keys.{kept_periods}
use Rattle.sd_law_losses.proofs.Leading.{is_quiet}
use Rattle.sd_law_losses.proofs.Pieces.{cat_out, cat_break}
use Rattle.sd_law_losses.proofs.NextEndings.{onto, reversed}
use Rattle.sd_law_losses.proofs.Streams.{nothing_came}
use Rattle.sd_law_losses.proofs.Keys.{takes_none, cat_taken}
use Rattle.sd_law_losses.proofs.Following.{quiet_offered}
use Rattle.sd_law_losses.proofs.Taken.{quiet_taken}
use Rattle.sd_law_losses.proofs.Sending.{AreSentAs, sent_chosen, Progress, Untuned, Waiting, Begun, after_items}
use Rattle.sd_law_losses.proofs.Sending.{after_waiting, after_untuned, untold}
use Rattle.sd_law_losses.proofs.NextEnded.{ended_more}
use Rattle.sd_law_losses.proofs.NextStanding.{StandsAt, items_stand, StandsBetween, told_more, IsPassed, over_tuned}
use Rattle.sd_law_losses.proofs.NextStanding.{over_untuned, starts_standing}
use Rattle.sd_law_losses.proofs.Runs.{begins_by, IsGood, good_of}

-- the card of leaf u and the PIDs of the channel
abbrev pub card_in : Channel → ℕ → CardFields
card_in channel u = channel_card channel u

abbrev pub tuning_in : Channel → Tuning
tuning_in channel = record { emm = channel.emm; ecm = channel.ecm }

abbrev pub GoodRun : CardFields → Tuning → ℕ → Arrival → Type 0
GoodRun card tuning u run = (cat : List ℕ) × (tail : List (List ℕ)) × IsGood card tuning u run cat tail

card_same : (channel : Channel) (run : Arrival) (u : ℕ) → IsRunOf channel run →
    (setting run.plan run.clear u).card ≡ card_in channel u
card_same channel run u is =
    ap (λ (m : List ℕ). card_of m run.plan.site.ca run.plan.site.height u) is.master
    ∙ (ap (λ (ca : ℕ). card_of channel.master ca run.plan.site.height u) is.ca
    ∙ ap (λ (h : ℕ). card_of channel.master channel.ca h u) is.height)

tuning_same : (channel : Channel) (run : Arrival) (u : ℕ) → IsRunOf channel run →
    tuning_at (setting run.plan run.clear u) ≡ tuning_in channel
tuning_same channel run u is =
    ap {B = Tuning} (λ (pid : ℕ). record { emm = pid; ecm = run.plan.site.ecm }) is.emm
    ∙ ap {B = Tuning} (λ (pid : ℕ). record { emm = channel.emm; ecm = pid }) is.ecm

pub good_in : (channel : Channel) (run : Arrival) (u : ℕ) → IsRunOf channel run → u < 2 ^ channel.height →
    GoodRun (card_in channel u) (tuning_in channel) u run
good_in channel run u is leaf =
    let within : u < 2 ^ run.plan.site.height = subst (λ (h : ℕ). u < 2 ^ h) (sym is.height) leaf in
    subst (λ (card : CardFields). GoodRun card (tuning_in channel) u run) (card_same channel run u is)
    (subst (λ (tuning : Tuning). GoodRun (setting run.plan run.clear u).card tuning u run)
    (tuning_same channel run u is) (good_of run u is.plan is.sendable is.whole within))

-- A run is over: nothing of it was refused, this was written of it, this number of keys was taken of it, and the runs
-- that messages came of end so.
pub record IsOver (card : CardFields) (tuning : Tuning) (Next : Option ℕ → Type 0) (tuned : Bool)
    (told : Option Ending) (keys : ℕ) (wrote past packets next : List (List ℕ)) : Type 0 where
  pub out : out_from card past (packets ++ next) ≡ wrote ++ out_from card (onto packets past) next
  pub breaks : break_from card past (packets ++ next) ≡ break_from card (onto packets past) next
  pub taken : taken_keys card past (packets ++ next) ≡ keys + taken_keys card (onto packets past) next
  pub stands : StandsBetween card tuning Next tuned told (onto packets past)

-- how a run ends by itself, its packets put one after the other
alone_ends : (card : CardFields) (packets : List (List ℕ)) (ending : Ending) →
    ending_of card (reverse packets) ≡ ending → ending_of card (onto packets []) ≡ ending
alone_ends card packets ending is =
    ap (ending_of card) (sym (sym (append-nil (reverse packets)) ∙ reversed packets [])) ∙ is

-- a first message comes only where the receiver is told of the run
begun_told : (t : Bool) → (if t then Begun else Waiting) ≡ Begun → t ≡ true
begun_told true is = refl
begun_told false is = absurd (cc is)

begun_tuned : (c t : Bool) → (if c then (if t then Begun else Waiting) else Untuned) ≡ Begun → t ≡ true
begun_tuned true t is = begun_told t is
begun_tuned false t is = absurd (cc is)

-- a run before which no CAT came
untuned_over : (card : CardFields) (tuning : Tuning) (u : ℕ) (run : Arrival) (cat : List ℕ)
    (tail past next : List (List ℕ)) (Fresh Next : Option ℕ → Type 0) (told : Option Ending) →
    IsGood card tuning u run cat tail →
    IsPassed (is_told false run) (site_name run.plan.site) Fresh Next →
    StandsBetween card tuning Fresh false told past →
    IsOver card tuning Next (has_cat run)
    (told_more told (is_told false run) (ending_told run.plan u run.clear (kept_of_arrival false run)))
    (kept_periods run.plan u run.clear (kept_of_arrival false run))
    (confirmed run.plan u run.clear (kept_of_arrival false run)) past (chosen run.flags (broadcast run.plan run.clear))
    next
untuned_over card tuning u run cat tail past next Fresh Next told good passed stands =
    let name : Option ℕ = site_name run.plan.site in
    let kept : List Item = kept_of_arrival false run in
    let packets : List (List ℕ) = chosen run.flags (broadcast run.plan run.clear) in
    let things : List Item = sent run.plan run.clear ++ closing_of run.plan run.clear in
    let begun = λ (b : after_items Untuned kept ≡ Begun).
    begun_tuned (list_any is_cat_item kept) (is_told false run) (sym (after_untuned kept) ∙ b) in
    let gone = items_stand card tuning (length past) name Fresh told kept packets past [] next Untuned
    (λ b. passed.apart (begun b))
    (sent_chosen card tuning name run.flags things (broadcast run.plan run.clear) good.sent_as) (good.none run.flags)
    (record { here = stands.0; there = nothing_came card; count = omega arith }, stands.1) in
    record {
      out = gone.0.out
          ∙ ap (λ (wrote : List (List ℕ)). wrote ++ out_from card (onto packets past) next) (good.out run.flags);
      breaks = gone.0.breaks;
      taken = gone.0.taken
          ∙ ap (λ (n : ℕ). n + taken_keys card (onto packets past) next) (good.taken run.flags);
      stands = subst (λ (e : Ending). StandsBetween card tuning Next (has_cat run)
          (told_more told (is_told false run) e) (onto packets past))
          (alone_ends card packets (ending_told run.plan u run.clear kept) (good.ends run.flags))
          (over_untuned card tuning (length past) name Fresh Next told (onto packets past) (onto packets [])
          (list_any is_cat_item kept) (is_told false run) passed (untold kept)
          (subst (λ (at : Progress). StandsAt card tuning (length past) name Fresh told at (onto packets past)
          (onto packets [])) (after_untuned kept) gone.1));
    }

-- what is kept behind the CAT that a run begins with
told_behind : (run : Arrival) (items : List Item) →
    sent run.plan run.clear ++ closing_of run.plan run.clear ≡ Cat ∷ items →
    after_cat (kept_of_arrival true run) ≡ chosen (drop 1 run.flags) items
unfolding after_cat chosen
told_behind run items is = ap (λ (things : List Item). after_cat (chosen (true ∷ drop 1 run.flags) things)) is

-- its things and packets behind that CAT
tail_sent : (card : CardFields) (tuning : Tuning) (u : ℕ) (run : Arrival) (cat : List ℕ) (tail : List (List ℕ))
    (items : List Item) → IsGood card tuning u run cat tail →
    sent run.plan run.clear ++ closing_of run.plan run.clear ≡ Cat ∷ items →
    AreSentAs card tuning (site_name run.plan.site) items tail
tail_sent card tuning u run cat tail items good is =
    let name : Option ℕ = site_name run.plan.site in
    let both : AreSentAs card tuning name (Cat ∷ items) (cat ∷ tail) =
    subst (λ (things : List Item). AreSentAs card tuning name things (cat ∷ tail)) is
    (subst (AreSentAs card tuning name (sent run.plan run.clear ++ closing_of run.plan run.clear)) good.sent_is
    good.sent_as) in
    both.1

-- what comes by itself of what arrives of it behind that CAT
pub record IsTail (card : CardFields) (u : ℕ) (run : Arrival) (cat : List ℕ) (packets : List (List ℕ)) : Type 0 where
  pub out : out_from card (cat ∷ []) packets ≡ confirmed run.plan u run.clear (kept_of_arrival true run)
  pub none : break_from card (cat ∷ []) packets ≡ None
  pub ends : ending_of card (onto packets (cat ∷ [])) ≡ ending_told run.plan u run.clear (kept_of_arrival true run)
  pub taken : taken_keys card (cat ∷ []) packets ≡ kept_periods run.plan u run.clear (kept_of_arrival true run)

with_cat : (fs : List Bool) (cat : List ℕ) (tail : List (List ℕ)) →
    chosen (true ∷ fs) (cat ∷ tail) ≡ cat ∷ chosen fs tail
unfolding chosen
with_cat fs cat tail = refl

tail_is : (card : CardFields) (tuning : Tuning) (u : ℕ) (run : Arrival) (cat : List ℕ) (tail : List (List ℕ)) →
    IsGood card tuning u run cat tail → IsTail card u run cat (chosen (drop 1 run.flags) tail)
tail_is card tuning u run cat tail good =
    let fs : List Bool = drop 1 run.flags in
    let packets : List (List ℕ) = chosen fs tail in
    let same : cat ∷ packets ≡ chosen (true ∷ fs) (broadcast run.plan run.clear) =
    sym (ap (chosen (true ∷ fs)) good.sent_is ∙ with_cat fs cat tail) in
    record {
      out = sym (cat_out card cat packets) ∙ (ap (out_from card []) same ∙ good.out (true ∷ fs));
      none = sym (cat_break card cat packets) ∙ (ap (break_from card []) same ∙ good.none (true ∷ fs));
      ends = alone_ends card (cat ∷ packets) (ending_told run.plan u run.clear (kept_of_arrival true run))
          (ap (λ (ps : List (List ℕ)). ending_of card (reverse ps)) same ∙ good.ends (true ∷ fs));
      taken = sym (cat_taken card cat packets) ∙ (ap (taken_keys card []) same ∙ good.taken (true ∷ fs));
    }

-- a run before which one came is over
abbrev IsRunOver : CardFields → Tuning → ℕ → Arrival → (Option ℕ → Type 0) → Option Ending → List (List ℕ) →
    List (List ℕ) → List (List ℕ) → Type 0
IsRunOver card tuning u run Next told past packets next =
    IsOver card tuning Next true
    (told_more told (is_told true run) (ending_told run.plan u run.clear (kept_of_arrival true run)))
    (kept_periods run.plan u run.clear (kept_of_arrival true run))
    (confirmed run.plan u run.clear (kept_of_arrival true run)) past packets next

-- what arrives of it behind that CAT
tuned_tail_over : (card : CardFields) (tuning : Tuning) (u : ℕ) (run : Arrival) (cat : List ℕ)
    (tail past next : List (List ℕ)) (Fresh Next : Option ℕ → Type 0) (told : Option Ending) →
    IsGood card tuning u run cat tail → IsPassed (is_told true run) (site_name run.plan.site) Fresh Next →
    StandsBetween card tuning Fresh true told past →
    IsRunOver card tuning u run Next told past (chosen (drop 1 run.flags) tail) next
tuned_tail_over card tuning u run cat tail past next Fresh Next told good passed stands =
    let name : Option ℕ = site_name run.plan.site in
    let fs : List Bool = drop 1 run.flags in
    let k : ℕ = length past - 1 in
    let begins = begins_by run.plan run.clear in
    let things : List Item = chosen fs begins.0 in
    let packets : List (List ℕ) = chosen fs tail in
    let alone : List (List ℕ) = onto packets (cat ∷ []) in
    let own = tail_is card tuning u run cat tail good in
    let t_is : list_any is_message things ≡ is_told true run =
    ap (list_any is_message) (sym (told_behind run begins.0 begins.1)) in
    let at_is : after_items Waiting things ≡ (if is_told true run then Begun else Waiting) =
    after_waiting things ∙ ap {B = Progress} (λ (t : Bool). if t then Begun else Waiting) t_is in
    let gone = items_stand card tuning k name Fresh told things packets past (cat ∷ []) next Waiting
    (λ b. passed.apart (begun_told (is_told true run) (sym at_is ∙ b)))
    (sent_chosen card tuning name fs begins.0 tail (tail_sent card tuning u run cat tail begins.0 good begins.1))
    own.none (starts_standing card tuning name Fresh told past cat good.cat_is stands) in
    record {
      out = gone.0.out
          ∙ ap (λ (wrote : List (List ℕ)). wrote ++ out_from card (onto packets past) next) own.out;
      breaks = gone.0.breaks;
      taken = gone.0.taken ∙ ap (λ (n : ℕ). n + taken_keys card (onto packets past) next) own.taken;
      stands = subst (λ (e : Ending). StandsBetween card tuning Next true (told_more told (is_told true run) e)
          (onto packets past)) own.ends
          (over_tuned card tuning k name Fresh Next told (onto packets past) alone (is_told true run) passed
          (subst (λ (at : Progress). StandsAt card tuning k name Fresh told at (onto packets past) alone) at_is
          gone.1));
    }

-- the CAT of a run behind another changes nothing
cat_over : (card : CardFields) (tuning : Tuning) (Fresh Next : Option ℕ → Type 0) (told after : Option Ending)
    (keys : ℕ) (wrote past packets next : List (List ℕ)) (cat : List ℕ) →
    is_quiet (hears card.height tuning 0 cat) ≡ true →
    StandsBetween card tuning Fresh true told past →
    IsOver card tuning Next true after keys wrote (cat ∷ past) packets next →
    IsOver card tuning Next true after keys wrote past (cat ∷ packets) next
unfolding out_from break_from
cat_over card tuning Fresh Next told after keys wrote past packets next cat quiet stands over =
    let same = quiet_offered card tuning past cat stands.0 quiet in
    let more : List (List ℕ) = packets ++ next in
    record {
      out = ap (λ (o : Offering). o.wrote ++ (if is_none o.fault then out_from card (cat ∷ past) more else [])) same
          ∙ over.out;
      breaks = ap (λ (o : Offering). option_map_or Some o.fault (break_from card (cat ∷ past) more)) same
          ∙ over.breaks;
      taken = takes_none card past more cat (quiet_taken card tuning past cat stands.0 quiet) ∙ over.taken;
      stands = over.stands;
    }

-- whether or not that CAT arrives
cat_or_not : (card : CardFields) (tuning : Tuning) (Fresh Next : Option ℕ → Type 0) (told after : Option Ending)
    (keys : ℕ) (wrote tail past next : List (List ℕ)) (cat : List ℕ) (fs : List Bool) →
    is_quiet (hears card.height tuning 0 cat) ≡ true → StandsBetween card tuning Fresh true told past →
    ((before : List (List ℕ)) → StandsBetween card tuning Fresh true told before →
    IsOver card tuning Next true after keys wrote before (chosen (drop 1 fs) tail) next) →
    IsOver card tuning Next true after keys wrote past (chosen fs (cat ∷ tail)) next
unfolding chosen
cat_or_not card tuning Fresh Next told after keys wrote tail past next cat [] quiet stands over = over past stands
cat_or_not card tuning Fresh Next told after keys wrote tail past next cat (false ∷ fs) quiet stands over =
    over past stands
cat_or_not card tuning Fresh Next told after keys wrote tail past next cat (true ∷ fs) quiet stands over =
    cat_over card tuning Fresh Next told after keys wrote past (chosen fs tail) next cat quiet stands
    (over (cat ∷ past) (
      tuned_more card tuning past cat stands.0,
      ended_more card tuning Fresh told past cat stands.0 quiet stands.1,
    ))

-- a run before which one came
tuned_over : (card : CardFields) (tuning : Tuning) (u : ℕ) (run : Arrival) (cat : List ℕ)
    (tail past next : List (List ℕ)) (Fresh Next : Option ℕ → Type 0) (told : Option Ending) →
    IsGood card tuning u run cat tail → IsPassed (is_told true run) (site_name run.plan.site) Fresh Next →
    StandsBetween card tuning Fresh true told past →
    IsRunOver card tuning u run Next told past (chosen run.flags (broadcast run.plan run.clear)) next
tuned_over card tuning u run cat tail past next Fresh Next told good passed stands =
    subst (λ (all : List (List ℕ)). IsRunOver card tuning u run Next told past (chosen run.flags all) next)
    (sym good.sent_is)
    (cat_or_not card tuning Fresh Next told
    (told_more told (is_told true run) (ending_told run.plan u run.clear (kept_of_arrival true run)))
    (kept_periods run.plan u run.clear (kept_of_arrival true run))
    (confirmed run.plan u run.clear (kept_of_arrival true run)) tail past next cat run.flags good.quiet stands
    (λ before there.
    tuned_tail_over card tuning u run cat tail before next Fresh Next told good passed there))

-- a run
pub run_over : (card : CardFields) (tuning : Tuning) (u : ℕ) (run : Arrival) (past next : List (List ℕ))
    (Fresh Next : Option ℕ → Type 0) (tuned : Bool) (told : Option Ending) → GoodRun card tuning u run →
    IsPassed (is_told tuned run) (site_name run.plan.site) Fresh Next →
    StandsBetween card tuning Fresh tuned told past →
    IsOver card tuning Next (tuned || has_cat run)
    (told_more told (is_told tuned run) (ending_told run.plan u run.clear (kept_of_arrival tuned run)))
    (kept_periods run.plan u run.clear (kept_of_arrival tuned run))
    (confirmed run.plan u run.clear (kept_of_arrival tuned run)) past (chosen run.flags (broadcast run.plan run.clear))
    next
run_over card tuning u run past next Fresh Next false told (cat, tail, good) passed stands =
    untuned_over card tuning u run cat tail past next Fresh Next told good passed stands
run_over card tuning u run past next Fresh Next true told (cat, tail, good) passed stands =
    tuned_over card tuning u run cat tail past next Fresh Next told good passed stands
