-- A receiver that goes through a run within a stream and by itself, and how the runs end up to there.
use Rattle.std.proofs.Common.{◌≡◌, ◌≢◌, refl, ℕ, ◌-◌, Bool, true, false, List, [], ◌∷◌, length, Option, Some}
use Rattle.std.proofs.Common.{None, sym, ap, ◌∙◌, arith, subst, inl}
use Rattle.std.specs.Prelude.{if◌then◌else◌}
use Rattle.std.proofs.lemmas.Bool.{false≢true}
use Rattle.sd_base.proofs.Lists.{first_none, rest_none}
use Rattle.sd_site_cards.specs.CardFields.{CardFields}
use Rattle.sd_spec.specs.Sent.{Item, Cat, Entitles, Controls, Carries}
use Rattle.sd_spec.specs.declared.ending.Ending.{Ending}
use Rattle.sd_message.specs.declared.stream_fault.StreamFault.{StreamFault}
use Rattle.sd_spec.specs.Tuned.{tuning_of}
use Rattle.sd_psi.specs.OurCat.{cat_tuning}
use Rattle.sd_psi.specs.declared.our_cat.Tuning.{Tuning}
use Rattle.sd_spec.specs.Heard.{hears}
use Rattle.sd_spec.specs.Offered.{heard, offered, out_from, break_from}
use Rattle.sd_spec.specs.Ending.{endings_joined, ending_of}
use Rattle.sd_spec.specs.Taken.{takes_key_at, taken_keys}
use Rattle.sd_law_losses.proofs.Offerings.{offering_later}
use Rattle.sd_law_losses.proofs.Leading.{is_quiet, AreQuiet}
use Rattle.sd_law_losses.proofs.Agreeing.{cat_tuned, cat_unheard}
use Rattle.sd_law_losses.proofs.NextEndings.{onto, cat_alike}
use Rattle.sd_law_losses.proofs.Streams.{IsUntuned, offered_none, tuned_next, ended_none, wrote_none, untuned_more}
use Rattle.sd_law_losses.proofs.Following.{IsPacketOf, quiet_offered, Waits, waits_more, begun_follows, more}
use Rattle.sd_law_losses.proofs.Following.{follows_offered}
use Rattle.sd_law_losses.proofs.Following.{follows_more}
use Rattle.sd_law_losses.proofs.NextTaking.{untuned_takes}
use Rattle.sd_law_losses.proofs.Taken.{quiet_taken, follows_taken, begun_taken}
use Rattle.sd_law_losses.proofs.Going.{AreUntuned, HasBegun, no_heard, one_run, AreAlike}
use Rattle.sd_law_losses.proofs.Going.{alike_more}
use Rattle.sd_law_losses.proofs.Going.{follows_named, some_past}
use Rattle.sd_law_losses.proofs.NextEnded.{HaveEnded, last_of, ended_still, ended_more, earlier, RunsOn, run_begins}
use Rattle.sd_law_losses.proofs.NextEnded.{run_goes_on}
use Rattle.sd_law_losses.proofs.NextEnded.{run_done}
use Rattle.sd_law_losses.proofs.Sending.{IsCatOf, IsMessageOf, IsSentAs, AreSentAs, Progress, Untuned, Waiting}
use Rattle.sd_law_losses.proofs.Sending.{Begun, after_item, after_items, begun_stays, packet_is}

-- both are at this place of the run, and the runs before end so
abbrev pub StandsAt : CardFields → Tuning → ℕ → Option ℕ → (Option ℕ → Type 0) → Option Ending → Progress →
    List (List ℕ) → List (List ℕ) → Type 0
StandsAt card tuning k name Fresh told Untuned past alone = AreUntuned card k past alone × (told ≡ None)
StandsAt card tuning k name Fresh told Waiting past alone =
    Waits card tuning k Fresh past alone × HaveEnded card Fresh told past × HaveEnded card Fresh None alone
StandsAt card tuning k name Fresh told Begun past alone =
    HasBegun card tuning k name past alone × RunsOn card told past alone

-- one packet more brings them to this place, and the same comes of it
abbrev pub StepsTo : CardFields → Tuning → ℕ → Option ℕ → (Option ℕ → Type 0) → Option Ending → Progress →
    List (List ℕ) → List (List ℕ) → List ℕ → Type 0
StepsTo card tuning k name Fresh told at past alone packet =
    (offered card past packet ≡ offering_later k (offered card alone packet))
    × (takes_key_at card past packet ≡ takes_key_at card alone packet)
    × StandsAt card tuning k name Fresh told at (packet ∷ past) (packet ∷ alone)

-- before the CAT nothing comes of a packet
none_offered : (card : CardFields) (k : ℕ) (past alone : List (List ℕ)) (packet : List ℕ) →
    AreUntuned card k past alone → offered card past packet ≡ offering_later k (offered card alone packet)
none_offered card k past alone packet both =
    offered_none card past packet both.here ∙ ap (offering_later k) (sym (offered_none card alone packet both.there))

-- and it takes no key
none_takes : (card : CardFields) (k : ℕ) (past alone : List (List ℕ)) (packet : List ℕ) →
    AreUntuned card k past alone → takes_key_at card past packet ≡ takes_key_at card alone packet
none_takes card k past alone packet both =
    untuned_takes card past packet both.here.tuned ∙ sym (untuned_takes card alone packet both.there.tuned)

-- so it changes nothing, if the receivers stand somewhere behind it
steps_untuned : (card : CardFields) (tuning : Tuning) (k : ℕ) (name : Option ℕ) (Fresh : Option ℕ → Type 0)
    (told : Option Ending) (at : Progress) (past alone : List (List ℕ)) (packet : List ℕ) →
    AreUntuned card k past alone → StandsAt card tuning k name Fresh told at (packet ∷ past) (packet ∷ alone) →
    StepsTo card tuning k name Fresh told at past alone packet
steps_untuned card tuning k name Fresh told at past alone packet both stands =
    (none_offered card k past alone packet both, none_takes card k past alone packet both, stands)

untuned_other : (card : CardFields) (tuning : Tuning) (k : ℕ) (name : Option ℕ) (Fresh : Option ℕ → Type 0)
    (told : Option Ending) (past alone : List (List ℕ)) (packet : List ℕ) → cat_tuning card.ca packet ≡ None →
    StandsAt card tuning k name Fresh told Untuned past alone →
    StepsTo card tuning k name Fresh told Untuned past alone packet
untuned_other card tuning k name Fresh told past alone packet other (both, none) =
    steps_untuned card tuning k name Fresh told Untuned past alone packet both (
      record {
        here = untuned_more card past packet both.here other;
        there = untuned_more card alone packet both.there other;
        count = omega (arith, both.count);
      },
      none,
    )

none_ended : (card : CardFields) (Fresh : Option ℕ → Type 0) (past : List (List ℕ)) (packet : List ℕ) →
    IsUntuned card past → HaveEnded card Fresh None (packet ∷ past)
none_ended card Fresh past packet none =
    (no_heard card past packet none, ended_none card past packet none, wrote_none card past packet none)

-- the CAT
untuned_cat : (card : CardFields) (tuning : Tuning) (k : ℕ) (name : Option ℕ) (Fresh : Option ℕ → Type 0)
    (told : Option Ending) (past alone : List (List ℕ)) (packet : List ℕ) → IsCatOf card tuning packet →
    StandsAt card tuning k name Fresh told Untuned past alone →
    StepsTo card tuning k name Fresh told Waiting past alone packet
untuned_cat card tuning k name Fresh told past alone packet is (both, none) =
    steps_untuned card tuning k name Fresh told Waiting past alone packet both (
      record {
        tuned = tuned_next card past packet (Some tuning) both.here is.0;
        alone_tuned = tuned_next card alone packet (Some tuning) both.there is.0;
        count = omega (arith, both.count);
        alone_quiet = no_heard card alone packet both.there;
        last = inl (no_heard card past packet both.here);
      },
      subst (λ (t : Option Ending). HaveEnded card Fresh t (packet ∷ past)) (sym none)
          (none_ended card Fresh past packet both.here),
      none_ended card Fresh alone packet both.there,
    )

-- behind it, before the first message
waiting_quiet : (card : CardFields) (tuning : Tuning) (k : ℕ) (name : Option ℕ) (Fresh : Option ℕ → Type 0)
    (told : Option Ending) (past alone : List (List ℕ)) (packet : List ℕ) →
    is_quiet (hears card.height tuning 0 packet) ≡ true →
    StandsAt card tuning k name Fresh told Waiting past alone →
    StepsTo card tuning k name Fresh told Waiting past alone packet
waiting_quiet card tuning k name Fresh told past alone packet quiet (waits, ended, own) = (
  quiet_offered card tuning past packet waits.tuned quiet
      ∙ ap (offering_later k) (sym (quiet_offered card tuning alone packet waits.alone_tuned quiet)),
  quiet_taken card tuning past packet waits.tuned quiet
      ∙ sym (quiet_taken card tuning alone packet waits.alone_tuned quiet),
  (
    waits_more card tuning k Fresh past alone packet quiet waits,
    ended_more card tuning Fresh told past packet waits.tuned quiet ended,
    ended_more card tuning Fresh None alone packet waits.alone_tuned quiet own,
  ),
)

-- the first message
waiting_message : (card : CardFields) (tuning : Tuning) (k : ℕ) (name : Option ℕ) (Fresh : Option ℕ → Type 0)
    (told : Option Ending) (past alone : List (List ℕ)) (packet : List ℕ) → ((a : Option ℕ) → Fresh a → a ≢ name) →
    IsMessageOf card tuning name packet → StandsAt card tuning k name Fresh told Waiting past alone →
    StepsTo card tuning k name Fresh told Begun past alone packet
waiting_message card tuning k name Fresh told past alone packet apart is (waits, ended, own) =
    let now = begun_follows card tuning k name Fresh past alone packet apart is.1 waits in (
      now.0,
      begun_taken card tuning k name Fresh past alone packet apart is.1 waits,
      (
        (hears card.height tuning (length alone) packet ∷ [], now.1.0, heard card alone, now.1.1),
        run_begins card tuning k name Fresh told past alone packet apart is.1 waits.tuned waits.alone_tuned ended own
            now.0,
      ),
    )

-- a packet behind it
begun_more : (card : CardFields) (tuning : Tuning) (k : ℕ) (name : Option ℕ) (Fresh : Option ℕ → Type 0)
    (told : Option Ending) (past alone : List (List ℕ)) (packet : List ℕ) → IsPacketOf card tuning name packet →
    StandsAt card tuning k name Fresh told Begun past alone →
    StepsTo card tuning k name Fresh told Begun past alone packet
begun_more card tuning k name Fresh told past alone packet is ((things, old, own, f), on) =
    let one = one_run card tuning name packet is in (
      follows_offered card tuning k name past alone packet things old own one f,
      follows_taken card tuning k name past alone packet things old own one f,
      (
        (
          more things (hears card.height tuning (length alone) packet),
          old,
          own,
          follows_more card tuning k name past alone packet things old own one f,
        ),
        run_goes_on card tuning k name told past alone packet things old own one f on,
      ),
    )

-- the packet of one thing; a first message is of another run than the one before
item_steps : (card : CardFields) (tuning : Tuning) (k : ℕ) (name : Option ℕ) (Fresh : Option ℕ → Type 0)
    (told : Option Ending) (past alone : List (List ℕ)) (packet : List ℕ) (at : Progress) (item : Item) →
    (after_item at item ≡ Begun → (a : Option ℕ) → Fresh a → a ≢ name) → IsSentAs card tuning name item packet →
    StandsAt card tuning k name Fresh told at past alone →
    StepsTo card tuning k name Fresh told (after_item at item) past alone packet
item_steps card tuning k name Fresh told past alone packet Untuned Cat apart is stands =
    untuned_cat card tuning k name Fresh told past alone packet is stands
item_steps card tuning k name Fresh told past alone packet Untuned (Entitles emm) apart is stands =
    untuned_other card tuning k name Fresh told past alone packet is.0 stands
item_steps card tuning k name Fresh told past alone packet Untuned (Controls part) apart is stands =
    untuned_other card tuning k name Fresh told past alone packet is.0 stands
item_steps card tuning k name Fresh told past alone packet Untuned (Carries j carried) apart is stands =
    untuned_other card tuning k name Fresh told past alone packet is.0 stands
item_steps card tuning k name Fresh told past alone packet Waiting Cat apart is stands =
    waiting_quiet card tuning k name Fresh told past alone packet is.1 stands
item_steps card tuning k name Fresh told past alone packet Waiting (Entitles emm) apart is stands =
    waiting_message card tuning k name Fresh told past alone packet (apart refl) is stands
item_steps card tuning k name Fresh told past alone packet Waiting (Controls part) apart is stands =
    waiting_message card tuning k name Fresh told past alone packet (apart refl) is stands
item_steps card tuning k name Fresh told past alone packet Waiting (Carries j carried) apart is stands =
    waiting_quiet card tuning k name Fresh told past alone packet is.1 stands
item_steps card tuning k name Fresh told past alone packet Begun item apart is stands =
    begun_more card tuning k name Fresh told past alone packet (packet_is card tuning name item packet is) stands

-- the packets of all things of a run that arrive, of which nothing is refused by themselves
pub items_stand : (card : CardFields) (tuning : Tuning) (k : ℕ) (name : Option ℕ) (Fresh : Option ℕ → Type 0)
    (told : Option Ending) (items : List Item) (packets past alone next : List (List ℕ)) (at : Progress) →
    (after_items at items ≡ Begun → (a : Option ℕ) → Fresh a → a ≢ name) →
    AreSentAs card tuning name items packets → break_from card alone packets ≡ None →
    StandsAt card tuning k name Fresh told at past alone →
    AreAlike card past alone packets next
    × StandsAt card tuning k name Fresh told (after_items at items) (onto packets past) (onto packets alone)
unfolding break_from out_from taken_keys
items_stand card tuning k name Fresh told [] [] past alone next at apart sent none stands =
    (record { out = refl; breaks = refl; taken = omega arith }, stands)
items_stand card tuning k name Fresh told [] (packet ∷ packets) past alone next at apart sent none stands =
    absurd sent
items_stand card tuning k name Fresh told (item ∷ items) [] past alone next at apart sent none stands = absurd sent
items_stand card tuning k name Fresh told (item ∷ items) (packet ∷ packets) past alone next at apart sent none stands =
    let fault : Option StreamFault = (offered card alone packet).fault in
    let rest : Option StreamFault = break_from card (packet ∷ alone) packets in
    let now = item_steps card tuning k name Fresh told past alone packet at item
    (λ begun. apart (ap (λ (p : Progress). after_items p items) begun ∙ begun_stays items)) sent.0 stands in
    let then_is = items_stand card tuning k name Fresh told items packets (packet ∷ past) (packet ∷ alone) next
    (after_item at item) apart sent.1 (rest_none fault rest none) now.2 in (
      alike_more card k past alone packets next packet now.0 (first_none fault rest none) now.1 then_is.0,
      then_is.1,
    )

-- between two runs: no CAT came, or the runs that messages came of end so
abbrev pub StandsBetween : CardFields → Tuning → (Option ℕ → Type 0) → Bool → Option Ending → List (List ℕ) → Type 0
StandsBetween card tuning Fresh false told past = IsUntuned card past × (told ≡ None)
StandsBetween card tuning Fresh true told past =
    (tuning_of card.ca past ≡ Some tuning) × HaveEnded card Fresh told past

-- with the ending of one run more, where messages of it came
abbrev pub told_more : Option Ending → Bool → Ending → Option Ending
told_more told false ending = told
told_more told true ending = Some (endings_joined (earlier told) ending)

-- What holds of the name of the run at hand before another run and behind it, by whether a receiver is told of that.
pub record IsPassed (told : Bool) (name : Option ℕ) (Fresh Next : Option ℕ → Type 0) : Type 0 where
  pub apart : told ≡ true → (a : Option ℕ) → Fresh a → a ≢ name
  pub still : told ≡ false → (a : Option ℕ) → Fresh a → Next a
  pub next : told ≡ true → Next name

-- behind a run, by whether messages of it came
pub over_tuned : (card : CardFields) (tuning : Tuning) (k : ℕ) (name : Option ℕ) (Fresh Next : Option ℕ → Type 0)
    (told : Option Ending) (past alone : List (List ℕ)) (t : Bool) → IsPassed t name Fresh Next →
    StandsAt card tuning k name Fresh told (if t then Begun else Waiting) past alone →
    StandsBetween card tuning Next true (told_more told t (ending_of card alone)) past
over_tuned card tuning k name Fresh Next told past alone true passed ((things, old, own, f), on) = (
  f.tuned,
  (
    (name, (follows_named card tuning k name past alone (things, old, own, f)).1, passed.next refl),
    run_done card tuning k name told past alone things old own f on,
  ),
)
over_tuned card tuning k name Fresh Next told past alone false passed (waits, ended, own) =
    (waits.tuned, ended_still card Fresh Next told past (passed.still refl) ended)

-- and by whether a CAT came
pub over_untuned : (card : CardFields) (tuning : Tuning) (k : ℕ) (name : Option ℕ) (Fresh Next : Option ℕ → Type 0)
    (told : Option Ending) (past alone : List (List ℕ)) (c t : Bool) → IsPassed t name Fresh Next →
    (c ≡ false → t ≡ false) →
    StandsAt card tuning k name Fresh told (if c then (if t then Begun else Waiting) else Untuned) past alone →
    StandsBetween card tuning Next c (told_more told t (ending_of card alone)) past
over_untuned card tuning k name Fresh Next told past alone true t passed none stands =
    over_tuned card tuning k name Fresh Next told past alone t passed stands
over_untuned card tuning k name Fresh Next told past alone false true passed none stands =
    absurd (false≢true (sym (none refl)))
over_untuned card tuning k name Fresh Next told past alone false false passed none stands =
    (stands.0.here, stands.1)

-- a run behind a CAT stands as by itself behind its own
pub starts_standing : (card : CardFields) (tuning : Tuning) (name : Option ℕ) (Fresh : Option ℕ → Type 0)
    (told : Option Ending) (past : List (List ℕ)) (cat : List ℕ) → cat_tuning card.ca cat ≡ Some tuning →
    StandsBetween card tuning Fresh true told past →
    StandsAt card tuning (length past - 1) name Fresh told Waiting past (cat ∷ [])
starts_standing card tuning name Fresh told past cat is stands =
    let some = some_past card tuning past stands.0 in
    let quiet : AreQuiet (heard card (cat ∷ [])) = subst AreQuiet (sym (cat_unheard card cat)) tt in
    let alike = cat_alike card cat in (
      record {
        tuned = stands.0;
        alone_tuned = cat_tuned card tuning cat is;
        count = omega (arith, some);
        alone_quiet = quiet;
        last = last_of card Fresh told past stands.1;
      },
      stands.1,
      (quiet, alike.0, alike.1),
    )
