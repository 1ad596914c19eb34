-- A receiver within a stream, and one that is at the same place of the piece by itself.
use Rattle.std.proofs.Common.{◌≡◌, refl, ℕ, ◌+◌, Bool, true, false, List, [], ◌∷◌, length, Option, Some, None, sym, ap}
use Rattle.std.proofs.Common.{◌∙◌, arith}
use Rattle.std.specs.Prelude.{if◌then◌else◌}
use Rattle.std.specs.Option.{option_map_or}
use Rattle.std.proofs.lemmas.Bool.{false≢true}
use Rattle.std.proofs.lemmas.Bool.Decides.{nat_tests}
use Rattle.sd_base.proofs.Bools.{true_from_not, tested}
use Rattle.sd_site_cards.specs.CardFields.{CardFields}
use Rattle.sd_message.specs.EcmParts.{Message}
use Rattle.sd_psi.specs.OurCat.{cat_tuning}
use Rattle.sd_psi.specs.declared.our_cat.Tuning.{Tuning}
use Rattle.sd_spec.specs.Tuned.{tuning_of}
use Rattle.sd_spec.specs.Heard.{Heard, Dropped, Entitles, Controls, BadEmm, BadEcm, Other, hears}
use Rattle.sd_spec.specs.Stretches.{is_closed, completes}
use Rattle.sd_spec.specs.Runs.{run_name_heard, name_or, run_name_in, is_same_run, are_two, is_turn, of_run}
use Rattle.sd_spec.specs.Offered.{heard, heard_with, heard_more, offered, tuned_offering}
use Rattle.sd_spec.proofs.Runs.{same_run, new_run}
use Rattle.sd_spec.proofs.Hearing.{tuned_more}
use Rattle.sd_law_losses.specs.Pieces.{packet_run_name}
use Rattle.sd_law_losses.proofs.NextLater.{thing_later, things_later, hears_later, name_later, names_later, run_later}
use Rattle.sd_law_losses.proofs.Offerings.{offering_later, open_offering, open_later, more_later}

-- Both took the same CAT, and heard the same of the run, the one k packets later.
pub record Agrees (card : CardFields) (tuning : Tuning) (k : ℕ) (past alone : List (List ℕ)) : Type 0 where
  pub tuned : tuning_of card.ca past ≡ Some tuning
  pub alone_tuned : tuning_of card.ca alone ≡ Some tuning
  pub count : length past ≡ k + length alone
  pub heard_is : heard card past ≡ things_later k (heard card alone)

pub offered_by : (card : CardFields) (tuning : Tuning) (past : List (List ℕ)) (packet : List ℕ) →
    tuning_of card.ca past ≡ Some tuning →
    offered card past packet ≡ open_offering card tuning (length past)
    (of_run (heard card past) (hears card.height tuning (length past) packet))
    (hears card.height tuning (length past) packet)
unfolding offered
offered_by card tuning past packet tuned =
    ap (λ (t : Option Tuning). tuned_offering card t (length past) (heard card past) packet) tuned

pub heard_by : (card : CardFields) (tuning : Tuning) (past : List (List ℕ)) (packet : List ℕ) →
    tuning_of card.ca past ≡ Some tuning →
    heard card (packet ∷ past) ≡ heard_more (heard card past) (hears card.height tuning (length past) packet)
unfolding heard
heard_by card tuning past packet tuned =
    ap (λ (t : Option Tuning). heard_with card t (length past) packet (heard card past)) tuned

-- one packet more
pub offered_later : (card : CardFields) (tuning : Tuning) (k : ℕ) (past alone : List (List ℕ)) (packet : List ℕ) →
    Agrees card tuning k past alone → offered card past packet ≡ offering_later k (offered card alone packet)
offered_later card tuning k past alone packet agrees =
    let h : ℕ = card.height in
    let n : ℕ = length alone in
    let thing : Heard = hears h tuning n packet in
    offered_by card tuning past packet agrees.tuned
    ∙ (ap (λ (m : ℕ). open_offering card tuning m (of_run (heard card past) (hears h tuning m packet))
    (hears h tuning m packet)) agrees.count
    ∙ (ap (λ (hs : List Heard). open_offering card tuning (k + n) (of_run hs (hears h tuning (k + n) packet))
    (hears h tuning (k + n) packet)) agrees.heard_is
    ∙ (ap (λ (t : Heard). open_offering card tuning (k + n) (of_run (things_later k (heard card alone)) t) t)
    (hears_later h k n tuning packet)
    ∙ (ap (λ (run : List Heard). open_offering card tuning (k + n) run (thing_later k thing))
    (run_later k (heard card alone) thing)
    ∙ (open_later k n card tuning (of_run (heard card alone) thing) thing
    ∙ ap (offering_later k) (sym (offered_by card tuning alone packet agrees.alone_tuned)))))))

pub agrees_more : (card : CardFields) (tuning : Tuning) (k : ℕ) (past alone : List (List ℕ)) (packet : List ℕ) →
    Agrees card tuning k past alone → Agrees card tuning k (packet ∷ past) (packet ∷ alone)
agrees_more card tuning k past alone packet agrees =
    let h : ℕ = card.height in
    let n : ℕ = length alone in
    record {
      tuned = tuned_more card tuning past packet agrees.tuned;
      alone_tuned = tuned_more card tuning alone packet agrees.alone_tuned;
      count = omega (arith, agrees.count);
      heard_is = heard_by card tuning past packet agrees.tuned
          ∙ (ap (λ (m : ℕ). heard_more (heard card past) (hears h tuning m packet)) agrees.count
          ∙ (ap (λ (hs : List Heard). heard_more hs (hears h tuning (k + n) packet)) agrees.heard_is
          ∙ (ap (heard_more (things_later k (heard card alone))) (hears_later h k n tuning packet)
          ∙ (more_later k (heard card alone) (hears h tuning n packet)
          ∙ ap (things_later k) (sym (heard_by card tuning alone packet agrees.alone_tuned))))));
    }

-- the CAT alone
pub cat_tuned : (card : CardFields) (tuning : Tuning) (cat : List ℕ) → cat_tuning card.ca cat ≡ Some tuning →
    tuning_of card.ca (cat ∷ []) ≡ Some tuning
unfolding tuning_of
cat_tuned card tuning cat is = is

pub cat_unheard : (card : CardFields) (cat : List ℕ) → heard card (cat ∷ []) ≡ []
unfolding heard tuning_of
cat_unheard card cat = refl

pub first_run : (thing : Heard) → of_run [] thing ≡ []
unfolding of_run is_turn run_name_in
first_run thing = refl

first_more : (past : List Heard) (thing : Heard) → of_run past thing ≡ [] → heard_more past thing ≡ thing ∷ []
unfolding is_closed
first_more past thing none = ap (λ (run : List Heard). if is_closed run then past else thing ∷ run) none

-- the first message of another run
pub turn_offered : (card : CardFields) (tuning : Tuning) (k : ℕ) (past : List (List ℕ)) (cat packet : List ℕ) →
    tuning_of card.ca past ≡ Some tuning → cat_tuning card.ca cat ≡ Some tuning → length past ≡ k + 1 →
    is_turn (heard card past) (hears card.height tuning (length past) packet) ≡ true →
    offered card past packet ≡ offering_later k (offered card (cat ∷ []) packet)
turn_offered card tuning k past cat packet tuned is count turns =
    let h : ℕ = card.height in
    let thing : Heard = hears h tuning 1 packet in
    offered_by card tuning past packet tuned
    ∙ (ap (λ (run : List Heard). open_offering card tuning (length past) run (hears h tuning (length past) packet))
    (new_run (heard card past) (hears h tuning (length past) packet) turns)
    ∙ (ap (λ (m : ℕ). open_offering card tuning m [] (hears h tuning m packet)) count
    ∙ (ap (open_offering card tuning (k + 1) []) (hears_later h k 1 tuning packet)
    ∙ (open_later k 1 card tuning [] thing
    ∙ ap (offering_later k) (sym (offered_by card tuning (cat ∷ []) packet (cat_tuned card tuning cat is)
    ∙ (ap (λ (hs : List Heard). open_offering card tuning 1 (of_run hs thing) thing) (cat_unheard card cat)
    ∙ ap (λ (run : List Heard). open_offering card tuning 1 run thing) (first_run thing))))))))

pub turn_agrees : (card : CardFields) (tuning : Tuning) (k : ℕ) (past : List (List ℕ)) (cat packet : List ℕ) →
    tuning_of card.ca past ≡ Some tuning → cat_tuning card.ca cat ≡ Some tuning → length past ≡ k + 1 →
    is_turn (heard card past) (hears card.height tuning (length past) packet) ≡ true →
    Agrees card tuning k (packet ∷ past) (packet ∷ cat ∷ [])
turn_agrees card tuning k past cat packet tuned is count turns =
    let h : ℕ = card.height in
    let thing : Heard = hears h tuning 1 packet in
    record {
      tuned = tuned_more card tuning past packet tuned;
      alone_tuned = tuned_more card tuning (cat ∷ []) packet (cat_tuned card tuning cat is);
      count = omega (arith, count);
      heard_is = heard_by card tuning past packet tuned
          ∙ (first_more (heard card past) (hears h tuning (length past) packet)
          (new_run (heard card past) (hears h tuning (length past) packet) turns)
          ∙ (ap (λ (m : ℕ). hears h tuning m packet ∷ []) count
          ∙ (ap (λ (t : Heard). t ∷ []) (hears_later h k 1 tuning packet)
          ∙ ap (things_later k) (sym (heard_by card tuning (cat ∷ []) packet (cat_tuned card tuning cat is)
          ∙ (ap (λ (hs : List Heard). heard_more hs thing) (cat_unheard card cat)
          ∙ first_more [] thing (first_run thing)))))));
    }

-- the name of the run at hand
pub name_any : (h n : ℕ) (tuning : Tuning) (packet : List ℕ) →
    run_name_heard (hears h tuning n packet) ≡ packet_run_name h tuning packet
name_any h n tuning packet =
    let zero_more : n ≡ n + 0 = omega arith in
    ap (λ (m : ℕ). run_name_heard (hears h tuning m packet)) zero_more
    ∙ (ap run_name_heard (hears_later h n 0 tuning packet) ∙ name_later n (hears h tuning 0 packet))

pub same_is : (a b : Option ℕ) → is_same_run a b ≡ true → a ≡ b
same_is None None is = refl
same_is None (Some b) is = absurd (false≢true is)
same_is (Some a) None is = absurd (false≢true is)
same_is (Some a) (Some b) is = let same : a ≡ b = grind (arith, nat_tests, is) in ap Some same

pub some_kept : (a : Option ℕ) (name : Option (Option ℕ)) → are_two (Some a) name ≡ false →
    Some a ≡ name_or name (Some a)
some_kept a None one = refl
some_kept a (Some b) one = ap Some (same_is a b (true_from_not (is_same_run a b) one))

name_kept : (a : Option ℕ) (last name : Option (Option ℕ)) → last ≡ Some a → are_two last name ≡ false →
    last ≡ name_or name last
name_kept a last name is one =
    is ∙ (some_kept a name (ap (λ (l : Option (Option ℕ)). are_two l name) (sym is) ∙ one)
    ∙ ap (name_or name) (sym is))

named_or : (name last : Option (Option ℕ)) (a : Option ℕ) → last ≡ Some a →
    (b : Option ℕ) × (name_or name last ≡ Some b)
named_or None last a is = (a, is)
named_or (Some b) last a is = (b, refl)

named_first : (name last : Option (Option ℕ)) (a : Option ℕ) → name ≡ Some a → name_or name last ≡ Some a
named_first name last a is = ap (λ (n : Option (Option ℕ)). name_or n last) is

closing_named : (past : List Heard) (thing : Heard) →
    option_map_or (λ (m : Message). m.closing) (completes past thing) false ≡ true →
    (a : Option ℕ) × (run_name_heard thing ≡ Some a)
closing_named past Dropped closing = absurd (false≢true closing)
closing_named past (Entitles emm) closing = absurd (false≢true closing)
closing_named past (Controls part) closing = (part.run, refl)
closing_named past (BadEmm fault) closing = absurd (false≢true closing)
closing_named past (BadEcm fault) closing = absurd (false≢true closing)
closing_named past (Other n packet) closing = absurd (false≢true closing)

closed_named : (past : List Heard) → is_closed past ≡ true → (a : Option ℕ) × (run_name_in past ≡ Some a)
unfolding is_closed run_name_in
closed_named [] closed = absurd (false≢true closed)
closed_named (thing ∷ past) closed =
    tested (is_closed past)
    (λ before. let named = closed_named past before in named_or (run_name_heard thing) (run_name_in past) named.0
    named.1)
    (λ yet.
    let named = closing_named past thing (ap {B = Bool} (λ (t : Bool). if t then true
    else option_map_or (λ (m : Message). m.closing) (completes past thing) false) (sym yet) ∙ closed) in
    (named.0, named_first (run_name_heard thing) (run_name_in past) named.0 named.1))

pub name_next : (past : List Heard) (thing : Heard) → are_two (run_name_in past) (run_name_heard thing) ≡ false →
    run_name_in (heard_more past thing) ≡ name_or (run_name_heard thing) (run_name_in past)
unfolding is_turn run_name_in
name_next past thing one =
    ap (λ (run : List Heard). run_name_in (if is_closed run then past else thing ∷ run)) (same_run past thing one)
    ∙ tested (is_closed past)
    (λ closed. ap (λ (t : Bool). run_name_in (if t then past else thing ∷ past)) closed
    ∙ (let named = closed_named past closed in name_kept named.0 (run_name_in past) (run_name_heard thing) named.1 one))
    (λ yet. ap (λ (t : Bool). run_name_in (if t then past else thing ∷ past)) yet)

-- after a packet of the same run
pub name_stays : (card : CardFields) (tuning : Tuning) (past : List (List ℕ)) (packet : List ℕ) →
    tuning_of card.ca past ≡ Some tuning →
    are_two (run_name_in (heard card past)) (packet_run_name card.height tuning packet) ≡ false →
    name_or (packet_run_name card.height tuning packet) (run_name_in (heard card past)) ≡ run_name_in
    (heard card (packet ∷ past))
name_stays card tuning past packet tuned one =
    let thing : Heard = hears card.height tuning (length past) packet in
    let same : run_name_heard thing ≡ packet_run_name card.height tuning packet =
    name_any card.height (length past) tuning packet in
    ap (λ (name : Option (Option ℕ)). name_or name (run_name_in (heard card past))) (sym same)
    ∙ (sym (name_next (heard card past) thing (ap (are_two (run_name_in (heard card past))) same ∙ one))
    ∙ ap run_name_in (sym (heard_by card tuning past packet tuned)))

turned_name : (last name : Option (Option ℕ)) → are_two last name ≡ true → name_or name last ≡ name_or name None
turned_name None None two = refl
turned_name (Some a) None two = absurd (false≢true two)
turned_name last (Some b) two = refl

-- and after the first message of another run
pub name_turns : (card : CardFields) (tuning : Tuning) (last : Option (Option ℕ)) (cat packet : List ℕ) →
    cat_tuning card.ca cat ≡ Some tuning → are_two last (packet_run_name card.height tuning packet) ≡ true →
    name_or (packet_run_name card.height tuning packet) last ≡ run_name_in (heard card (packet ∷ cat ∷ []))
unfolding run_name_in
name_turns card tuning last cat packet is two =
    let thing : Heard = hears card.height tuning 1 packet in
    turned_name last (packet_run_name card.height tuning packet) two
    ∙ (ap (λ (name : Option (Option ℕ)). name_or name None) (sym (name_any card.height 1 tuning packet))
    ∙ ap run_name_in (sym (heard_by card tuning (cat ∷ []) packet (cat_tuned card tuning cat is)
    ∙ (ap (λ (hs : List Heard). heard_more hs thing) (cat_unheard card cat) ∙ first_more [] thing (first_run thing)))))

-- a packet is a turn in the one place as in the other
pub turn_is : (card : CardFields) (tuning : Tuning) (k : ℕ) (past alone : List (List ℕ)) (packet : List ℕ) →
    Agrees card tuning k past alone →
    is_turn (heard card past) (hears card.height tuning (length past) packet)
    ≡ are_two (run_name_in (heard card alone)) (packet_run_name card.height tuning packet)
unfolding is_turn
turn_is card tuning k past alone packet agrees =
    ap (are_two (run_name_in (heard card past))) (name_any card.height (length past) tuning packet)
    ∙ (ap (λ (hs : List Heard). are_two (run_name_in hs) (packet_run_name card.height tuning packet)) agrees.heard_is
    ∙ ap (λ (name : Option (Option ℕ)). are_two name (packet_run_name card.height tuning packet))
    (names_later k (heard card alone)))

pub turn_alone : (card : CardFields) (tuning : Tuning) (alone : List (List ℕ)) (packet : List ℕ) →
    is_turn (heard card alone) (hears card.height tuning (length alone) packet)
    ≡ are_two (run_name_in (heard card alone)) (packet_run_name card.height tuning packet)
unfolding is_turn
turn_alone card tuning alone packet =
    ap (are_two (run_name_in (heard card alone))) (name_any card.height (length alone) tuning packet)
