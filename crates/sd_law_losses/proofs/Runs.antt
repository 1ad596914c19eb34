-- Runs of one channel, one after the other.
use Rattle.std.proofs.Common.{◌≡◌, refl, ℕ, ◌%◌, ◌^◌, ◌<◌, ◌==◌, ◌++◌, Bool, true, List, [], ◌∷◌, Option, Some}
use Rattle.std.proofs.Common.{None, reverse, ap, ◌∙◌, arith, subst}
use Rattle.std.specs.Prelude.{if◌then◌else◌, All}
use Rattle.std.proofs.lemmas.List.Elements.{All-head, All-tail}
use Rattle.std.proofs.lemmas.Bool.Decides.{nat_tests}
use Rattle.sd_site_cards.specs.SiteFields.{run_name_of as site_name}
use Rattle.sd_site_cards.specs.CardFields.{CardFields}
use Rattle.sd_spec.specs.Plan.{Plan, IsPlan, crypto_length}
use Rattle.sd_spec.specs.Sent.{Item, Cat, Entitles, Controls, Carries, tables_at, sent, sent_from, closing_of}
use Rattle.sd_spec.specs.Sent.{item_packet, packets_from, broadcast, added, message_before}
use Rattle.sd_spec.specs.Carried.{carried}
use Rattle.sd_spec.specs.Items.{IsOfBroadcast}
use Rattle.sd_spec.specs.Refused.{IsSendable}
use Rattle.sd_spec.proofs.Items.{all_are_of_broadcast}
use Rattle.sd_law_broadcast.specs.Packets.{AreWholePackets}
use Rattle.sd_law_broadcast.proofs.Runs.{section_names, part_names}
use Rattle.sd_psi.specs.OurCat.{cat_tuning}
use Rattle.sd_psi.specs.declared.our_cat.Tuning.{Tuning}
use Rattle.sd_spec.specs.Heard.{hears}
use Rattle.sd_spec.specs.Runs.{run_name_heard}
use Rattle.sd_spec.specs.Offered.{out_from, break_from}
use Rattle.sd_spec.specs.Ending.{ending_of}
use Rattle.sd_spec.specs.Taken.{taken_keys}
use Rattle.sd_law_losses.specs.Chosen.{chosen}
use Rattle.sd_law_losses.specs.Confirmed.{confirmed}
use Rattle.sd_law_losses.specs.Endings.{ending_told}
use Rattle.sd_law_losses.proofs.Setting.{Setting, tuning_at}
use Rattle.sd_law_losses.proofs.Hearing.{AreHearable}
use Rattle.sd_law_losses.proofs.Lawful.{setting, can_be_heard}
use Rattle.sd_law_losses.proofs.Theorem.{confirmed_alone, none_refused, ends_as_told, keys_taken}
use Rattle.sd_law_losses.specs.Channel.{Arrival}
use Rattle.sd_law_losses.specs.Keys.{kept_periods}
use Rattle.sd_law_losses.proofs.Leading.{is_quiet}
use Rattle.sd_law_losses.proofs.Sending.{IsSentAs, AreSentAs}

-- the things of a broadcast begin with the CAT
pub begins_by : (plan : Plan) (clear : List (List ℕ)) →
    (items : List Item) × (sent plan clear ++ closing_of plan clear ≡ Cat ∷ items)
unfolding closing_of sent_from tables_at added
begins_by plan [] = (_, refl)
begins_by plan (packet ∷ packets) =
    let due : (0 % crypto_length plan.site == 0) ≡ true = grind (arith, nat_tests) in (
      _,
      ap (λ (b : Bool). (((if b then tables_at plan 0 else [])
          ++ (message_before plan [] ++ Carries 0 (carried plan.site [] packet) ∷ []))
          ++ sent_from plan (packet ∷ []) packets) ++ closing_of plan (packet ∷ packets)) due,
    )

-- What is known of a broadcast and the card of a leaf.
pub record IsGood (card : CardFields) (tuning : Tuning) (u : ℕ) (run : Arrival) (cat : List ℕ)
    (tail : List (List ℕ)) : Type 0 where
  pub sent_is : broadcast run.plan run.clear ≡ cat ∷ tail
  pub cat_is : cat_tuning card.ca cat ≡ Some tuning
  pub quiet : is_quiet (hears card.height tuning 0 cat) ≡ true
  pub sent_as : AreSentAs card tuning (site_name run.plan.site)
      (sent run.plan run.clear ++ closing_of run.plan run.clear) (broadcast run.plan run.clear)
  pub out : (fs : List Bool) → out_from card [] (chosen fs (broadcast run.plan run.clear))
      ≡ confirmed run.plan u run.clear (chosen fs (sent run.plan run.clear ++ closing_of run.plan run.clear))
  pub none : (fs : List Bool) → break_from card [] (chosen fs (broadcast run.plan run.clear)) ≡ None
  pub ends : (fs : List Bool) → ending_of card (reverse (chosen fs (broadcast run.plan run.clear)))
      ≡ ending_told run.plan u run.clear (chosen fs (sent run.plan run.clear ++ closing_of run.plan run.clear))
  pub taken : (fs : List Bool) → taken_keys card [] (chosen fs (broadcast run.plan run.clear))
      ≡ kept_periods run.plan u run.clear (chosen fs (sent run.plan run.clear ++ closing_of run.plan run.clear))

module _ (s : Setting) (able : AreHearable s) where
  item_sent : (earlier : List Item) (item : Item) → IsOfBroadcast s.plan s.clear item →
      IsSentAs s.card (tuning_at s) (site_name s.plan.site) item (item_packet s.plan.site earlier item)
  item_sent earlier Cat of' = (able.tuning earlier, ap is_quiet (able.heard_is 0 earlier Cat of'))
  item_sent earlier (Entitles emm) of' = (
    able.untuned earlier (Entitles emm) of' refl,
    ap run_name_heard (able.heard_is 0 earlier (Entitles emm) of')
        ∙ ap {B = Option (Option ℕ)} (λ (run : Option ℕ). Some run) (section_names s.plan s.clear emm of'),
  )
  item_sent earlier (Controls part) of' = (
    able.untuned earlier (Controls part) of' refl,
    ap run_name_heard (able.heard_is 0 earlier (Controls part) of')
        ∙ ap {B = Option (Option ℕ)} (λ (run : Option ℕ). Some run) (part_names s.plan s.clear part of'),
  )
  item_sent earlier (Carries j packet) of' = (
    able.untuned earlier (Carries j packet) of' refl,
    ap is_quiet (able.heard_is 0 earlier (Carries j packet) of'),
  )

  items_sent : (items earlier : List Item) → All (IsOfBroadcast s.plan s.clear) items →
      AreSentAs s.card (tuning_at s) (site_name s.plan.site) items (packets_from s.plan.site earlier items)
  unfolding packets_from
  items_sent [] earlier all = tt
  items_sent (item ∷ items) earlier all = (
    item_sent earlier item (All-head (IsOfBroadcast s.plan s.clear) item items all),
    items_sent items (earlier ++ item ∷ []) (All-tail (IsOfBroadcast s.plan s.clear) item items all),
  )

-- all of it for the card of a leaf
pub good_of : (run : Arrival) (u : ℕ) → IsPlan run.plan → IsSendable run.plan.site run.clear →
    AreWholePackets run.clear → u < 2 ^ run.plan.site.height →
    (cat : List ℕ) × (tail : List (List ℕ))
    × IsGood (setting run.plan run.clear u).card (tuning_at (setting run.plan run.clear u)) u run cat tail
unfolding broadcast packets_from
good_of run u plan all whole leaf =
    let s : Setting = setting run.plan run.clear u in
    let able = can_be_heard run.plan run.clear u plan all whole in
    let begins = begins_by run.plan run.clear in
    let of_all = all_are_of_broadcast run.plan run.clear in
    let of_cat = All-head (IsOfBroadcast run.plan run.clear) Cat begins.0
    (subst (All (IsOfBroadcast run.plan run.clear)) begins.1 of_all) in
    let things : List Item = sent run.plan run.clear ++ closing_of run.plan run.clear in
    let as_sent = items_sent s able things [] of_all in (
      item_packet run.plan.site [] Cat,
      packets_from run.plan.site (Cat ∷ []) begins.0,
      record {
        sent_is = ap (packets_from run.plan.site []) begins.1;
        cat_is = able.tuning [];
        quiet = ap is_quiet (able.heard_is 0 [] Cat of_cat);
        sent_as = as_sent;
        out = λ fs. confirmed_alone run.plan run.clear u fs plan all whole leaf;
        none = λ fs. none_refused run.plan run.clear u fs plan all whole leaf;
        ends = λ fs. ends_as_told run.plan run.clear u fs plan all whole leaf;
        taken = λ fs. keys_taken run.plan run.clear u fs plan all whole leaf;
      },
    )
