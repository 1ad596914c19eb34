-- How the packets of a broadcast are heard and what they make a receiver write.
use Rattle.std.proofs.Common.{◌≡◌, refl, ℕ, suc, ◌+◌, Bool, true, false, List, [], ◌∷◌, ◌++◌, map, length}
use Rattle.std.proofs.Common.{Option, Some, None, is_none, arith, sym, ap, ◌∙◌, subst, append_assoc}
use Rattle.std.specs.Prelude.{if◌then◌else◌, All}
use Rattle.std.specs.Option.{option_map_or}
use Rattle.std.proofs.lemmas.List.Elements.{All-head, All-tail, All-cons}
use Rattle.sd_site_cards.specs.SiteFields.{run_name_of as site_name}
use Rattle.sd_site_cards.specs.CardFields.{CardFields}
use Rattle.sd_message.specs.declared.emm.Emm.{Emm}
use Rattle.sd_message.specs.declared.ecm_part.EcmPart.{EcmPart}
use Rattle.sd_spec.specs.Sent.{Item, Cat, Entitles, Controls, Carries, item_packet, packets_from}
use Rattle.sd_spec.specs.Items.{IsOfBroadcast}
use Rattle.sd_spec.specs.Tuned.{tuning_of}
use Rattle.sd_psi.specs.OurCat.{cat_tuning}
use Rattle.sd_psi.specs.declared.our_cat.Tuning.{Tuning}
use Rattle.sd_spec.specs.Heard.{Heard, Dropped, Entitles as HeardEntitles, Controls as HeardControls, Other}
use Rattle.sd_spec.specs.Heard.{hears}
use Rattle.sd_spec.specs.Stretches.{is_closed}
use Rattle.sd_spec.specs.Runs.{is_turn}
use Rattle.sd_spec.specs.Offered.{Offering, heard, heard_with, heard_more, heard_offering, run_offering}
use Rattle.sd_spec.specs.Offered.{offered}
use Rattle.sd_spec.specs.Offered.{tuned_offering, out_from, break_from}
use Rattle.sd_spec.proofs.Hearing.{tuned_more as still_tuned}
use Rattle.sd_law_losses.specs.Chosen.{chosen}
pub use Rattle.sd_spec.specs.Sent.{is_cat_item}
use Rattle.sd_law_losses.proofs.Writing.{onto, Writes, IsOpenUpto}
use Rattle.sd_law_losses.proofs.OneRun.{IsOfRun, AreOneRun, no_turn, no_turn_at, one_heard, one_offered}
use Rattle.sd_law_losses.proofs.Setting.{Setting, tuning_at}

-- what a thing that is sent is heard as, as packet number n
abbrev pub heard_as : ℕ → Item → Heard
heard_as n Cat = Dropped
heard_as n (Entitles emm) = HeardEntitles emm
heard_as n (Controls part) = HeardControls part
heard_as n (Carries k packet) = Other n packet

-- and things one after the other, from number n on
abbrev pub heard_from : ℕ → List Item → List Heard
heard_from n [] = []
heard_from n (item ∷ items) = heard_as n item ∷ heard_from (suc n) items

-- how the things of a broadcast are heard
pub record AreHearable (s : Setting) : Type 0 where
  pub heard_is : (n : ℕ) (earlier : List Item) (item : Item) → IsOfBroadcast s.plan s.clear item →
      hears s.card.height (tuning_at s) n (item_packet s.plan.site earlier item) ≡ heard_as n item
  pub named : (n : ℕ) (item : Item) → IsOfBroadcast s.plan s.clear item →
      IsOfRun (site_name s.plan.site) (heard_as n item)
  pub tuning : (earlier : List Item) → cat_tuning s.card.ca (item_packet s.plan.site earlier Cat) ≡ Some (tuning_at s)
  pub untuned : (earlier : List Item) (item : Item) → IsOfBroadcast s.plan s.clear item → is_cat_item item ≡ false →
      cat_tuning s.card.ca (item_packet s.plan.site earlier item) ≡ None

pub heard_append : (n : ℕ) (xs ys : List Item) →
    heard_from n (xs ++ ys) ≡ heard_from n xs ++ heard_from (length xs + n) ys
heard_append n [] ys = let same : 0 + n ≡ n = omega arith in rw same refl
heard_append n (x ∷ xs) ys =
    let same : suc (length xs) + n ≡ length xs + suc n = omega arith in
    rw same (ap (λ (hs : List Heard). heard_as n x ∷ hs) (heard_append (suc n) xs ys))

pub heard_sections : (n : ℕ) (emms : List Emm) → heard_from n (map Entitles emms) ≡ map HeardEntitles emms
heard_sections n [] = refl
heard_sections n (emm ∷ emms) = ap (λ (hs : List Heard). HeardEntitles emm ∷ hs) (heard_sections (suc n) emms)

pub heard_parts : (n : ℕ) (parts : List EcmPart) → heard_from n (map Controls parts) ≡ map HeardControls parts
heard_parts n [] = refl
heard_parts n (part ∷ parts) = ap (λ (hs : List Heard). HeardControls part ∷ hs) (heard_parts (suc n) parts)

-- the receiver took the broadcast's CAT, and all messages that it heard are of the broadcast
pub record IsTuned (s : Setting) (past : List (List ℕ)) : Type 0 where
  pub tuning : tuning_of s.card.ca past ≡ Some (tuning_at s)
  pub named : All (IsOfRun (site_name s.plan.site)) (heard s.card past)
  pub one : AreOneRun s.card past

-- what packets come to after others, before further ones
pub record ComesTo (s : Setting) (past packets more : List (List ℕ)) (things : List Heard) (wrote : List (List ℕ))
    : Type 0 where
  pub out : out_from s.card past (packets ++ more) ≡ wrote ++ out_from s.card (onto packets past) more
  pub breaks : break_from s.card past (packets ++ more) ≡ break_from s.card (onto packets past) more
  pub heard_is : heard s.card (onto packets past) ≡ onto things (heard s.card past)
  pub tuned : IsTuned s (onto packets past)

-- one packet that is heard
offered_is : (card : CardFields) (tuning : Tuning) (past : List (List ℕ)) (packet : List ℕ) (thing : Heard)
    (first : List (List ℕ)) → tuning_of card.ca past ≡ Some tuning → is_turn (heard card past) thing ≡ false →
    is_closed (heard card past) ≡ false → hears card.height tuning (length past) packet ≡ thing →
    ((n : ℕ) → heard_offering card tuning n (heard card past) thing ≡ record { wrote = first; fault = None }) →
    offered card past packet ≡ record { wrote = first; fault = None }
unfolding offered
offered_is card tuning past packet thing first tuned straight opened is offers =
    ap (λ (t : Option Tuning). tuned_offering card t (length past) (heard card past) packet) tuned
    ∙ (ap (run_offering card tuning (length past) (heard card past)) is
    ∙ (one_offered card tuning (length past) (heard card past) thing straight opened ∙ offers (length past)))

heard_is_more : (card : CardFields) (tuning : Tuning) (past : List (List ℕ)) (packet : List ℕ) (thing : Heard) →
    tuning_of card.ca past ≡ Some tuning → is_turn (heard card past) thing ≡ false →
    is_closed (heard card past) ≡ false → hears card.height tuning (length past) packet ≡ thing →
    heard card (packet ∷ past) ≡ thing ∷ heard card past
unfolding heard
heard_is_more card tuning past packet thing tuned straight opened is =
    ap (λ (t : Option Tuning). heard_with card t (length past) packet (heard card past)) tuned
    ∙ (ap (heard_more (heard card past)) is ∙ one_heard (heard card past) thing straight opened)

tuned_more : (s : Setting) (past : List (List ℕ)) (packet : List ℕ) (thing : Heard) → IsTuned s past →
    hears s.card.height (tuning_at s) (length past) packet ≡ thing → IsOfRun (site_name s.plan.site) thing →
    heard s.card (packet ∷ past) ≡ thing ∷ heard s.card past → IsTuned s (packet ∷ past)
tuned_more s past packet thing tuned is named now = record {
  tuning = still_tuned s.card (tuning_at s) past packet tuned.tuning;
  named = subst (All (IsOfRun name)) (sym now) (All-cons (IsOfRun name) thing (heard s.card past) named tuned.named);
  one = (
    no_turn_at s.card (tuning_at s) past packet thing tuned.tuning is
        (no_turn name (heard s.card past) thing tuned.named named),
    tuned.one,
  );
}
  where
    name : Option ℕ
    name = site_name s.plan.site

-- and those after it
comes_first : (s : Setting) (past packets more : List (List ℕ)) (packet : List ℕ) (thing : Heard)
    (things : List Heard) (first rest wrote : List (List ℕ)) →
    offered s.card past packet ≡ record { wrote = first; fault = None } →
    heard s.card (packet ∷ past) ≡ thing ∷ heard s.card past → wrote ≡ first ++ rest →
    ComesTo s (packet ∷ past) packets more things rest → ComesTo s past (packet ∷ packets) more (thing ∷ things) wrote
unfolding out_from break_from
comes_first s past packets more packet thing things first rest wrote is hears all come = record {
  out = ap (λ (o : Offering). o.wrote ++ (if is_none o.fault then out_from s.card (packet ∷ past)
      (packets ++ more) else [])) is
      ∙ (ap (λ (ps : List (List ℕ)). first ++ ps) come.out
      ∙ (sym (append_assoc first rest (out_from s.card (onto packets (packet ∷ past)) more))
      ∙ ap (λ (ps : List (List ℕ)). ps ++ out_from s.card (onto packets (packet ∷ past)) more) (sym all)));
  breaks = ap (λ (o : Offering). option_map_or Some o.fault (break_from s.card (packet ∷ past) (packets ++ more))) is
      ∙ come.breaks;
  heard_is = come.heard_is ∙ ap (onto things) hears;
  tuned = come.tuned;
}

-- no packet at all
none_comes : (s : Setting) (past more : List (List ℕ)) (wrote : List (List ℕ)) → IsTuned s past → wrote ≡ [] →
    ComesTo s past [] more [] wrote
none_comes s past more wrote tuned writes = record {
  out = ap (λ (ps : List (List ℕ)). ps ++ out_from s.card past more) (sym writes);
  breaks = refl;
  heard_is = refl;
  tuned = tuned;
}

-- So packets of a broadcast come to what the things come to that are heard in them.
pub packets_come : (s : Setting) (able : AreHearable s) (items earlier : List Item) (fs : List Bool)
    (past more : List (List ℕ)) (wrote : List (List ℕ)) → All (IsOfBroadcast s.plan s.clear) items →
    IsTuned s past → IsOpenUpto (heard s.card past) (heard_from (length past) (chosen fs items)) →
    Writes s.card (tuning_at s) (heard s.card past) (heard_from (length past) (chosen fs items)) wrote →
    ComesTo s past (chosen fs (packets_from s.plan.site earlier items)) more
    (heard_from (length past) (chosen fs items)) wrote
unfolding chosen packets_from
packets_come s able [] earlier [] past more wrote all tuned opened writes = none_comes s past more wrote tuned writes
packets_come s able [] earlier (f ∷ fs) past more wrote all tuned opened writes =
    none_comes s past more wrote tuned writes
packets_come s able (item ∷ items) earlier [] past more wrote all tuned opened writes =
    none_comes s past more wrote tuned writes
packets_come s able (item ∷ items) earlier (false ∷ fs) past more wrote all tuned opened writes =
    packets_come s able items (earlier ++ item ∷ []) fs past more wrote (All-tail
    (IsOfBroadcast s.plan s.clear) item items all)
    tuned opened writes
packets_come s able (item ∷ items) earlier (true ∷ fs) past more wrote all tuned opened
    (first, rest, offers, others, is) =
    let packet = item_packet s.plan.site earlier item in
    let here = All-head (IsOfBroadcast s.plan s.clear) item items all in
    let thing = heard_as (length past) item in
    let hears_it = able.heard_is (length past) earlier item here in
    let named = able.named (length past) item here in
    let straight = no_turn (site_name s.plan.site) (heard s.card past) thing tuned.named named in
    let now = heard_is_more s.card (tuning_at s) past packet thing tuned.tuning straight opened.0 hears_it in
    comes_first s past (chosen fs (packets_from s.plan.site (earlier ++ item ∷ []) items)) more packet thing
    (heard_from (suc (length past)) (chosen fs items)) first rest wrote
    (offered_is s.card (tuning_at s) past packet thing first tuned.tuning straight opened.0 hears_it offers) now is
    (packets_come s able items (earlier ++ item ∷ []) fs (packet ∷ past) more rest
    (All-tail (IsOfBroadcast s.plan s.clear) item items all) (tuned_more s past packet thing tuned hears_it named now)
    (subst (λ (hs : List Heard). IsOpenUpto hs (heard_from (suc (length past)) (chosen fs items))) (sym now) opened.1)
    (subst (λ (hs : List Heard). Writes s.card (tuning_at s) hs (heard_from (suc (length past))
    (chosen fs items)) rest) (sym now) others))
