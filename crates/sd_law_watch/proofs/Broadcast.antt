-- Of a whole broadcast of a steady clear stream that isn't marked all packets count.
use Rattle.std.proofs.Common.{◌≡◌, refl, ℕ, zero, suc, ◌+◌, ◌/◌, ◌%◌, ◌<◌, ◌≤◌, ◌^◌, ◌==◌, ◌&&◌, ◌++◌, Bool}
use Rattle.std.proofs.Common.{true, false, not, List, [], ◌∷◌, map, length, take, drop, reverse, Option, Some, arith}
use Rattle.std.proofs.Common.{sym, ap, ◌∙◌, subst, inr, ◌⊎◌, append_assoc}
use Rattle.std.specs.Prelude.{if◌then◌else◌, filter, All}
use Rattle.std.specs.List.{list_any}
use Rattle.std.specs.Option.{option_map_or}
use Rattle.std.proofs.lemmas.Bool.{false≢true, and_parts, not-true}
use Rattle.std.proofs.lemmas.List.{drop_more, take_more}
use Rattle.std.proofs.lemmas.List.Folds.{list_any_at}
use Rattle.sd_base.proofs.Bools.{tested, and_false}
use Rattle.sd_base.proofs.Lists.{all_first}
use Rattle.sd_packet.specs.Header.{scrambling_of}
use Rattle.sd_site_cards.specs.CardFields.{site_card}
use Rattle.sd_message.specs.EcmParts.{Message, parts_of}
use Rattle.sd_message.specs.Period.{emms_of}
use Rattle.sd_message.specs.declared.emm.Emm.{Emm}
use Rattle.sd_spec.specs.Plan.{Plan, IsPlan, closing_number, crypto_length}
use Rattle.sd_spec.specs.Kinds.{kind_of, is_scrambled}
use Rattle.sd_spec.specs.Refused.{IsSendable}
use Rattle.sd_spec.specs.Heard.{Heard, Other}
use Rattle.sd_spec.specs.Stretches.{newest_message, is_closed}
use Rattle.sd_spec.specs.Confirmed.{is_foreign_under}
use Rattle.sd_spec.specs.Offered.{heard, out_from}
use Rattle.sd_spec.specs.Ending.{ending_of}
use Rattle.sd_spec.specs.Sent.{Item, Entitles, Controls, packets_from, sent, closing_of, broadcast}
use Rattle.sd_spec.specs.Sent.{tables_at, tables_before}
use Rattle.sd_spec.specs.Items.{IsOfBroadcast, carried_on}
use Rattle.sd_spec.specs.Tuned.{tuning_of}
use Rattle.sd_spec.specs.Messages.{period_at}
use Rattle.sd_spec.specs.Counting.{is_marked, is_scrambled_packet, is_copy, is_part_again, is_stray, counting}
use Rattle.sd_spec.proofs.Items.{all_are_of_broadcast}
use Rattle.sd_spec.proofs.Sending.{packets_in_turn}
use Rattle.sd_law_broadcast.specs.Packets.{AreWholePackets}
use Rattle.sd_law_losses.specs.Confirmed.{packet_at, opened_by}
use Rattle.sd_law_losses.specs.Endings.{whole_ending, first_revoked}
use Rattle.sd_law_losses.proofs.Losses.{all_second}
use Rattle.sd_law_losses.proofs.Writing.{onto, onto_append}
use Rattle.sd_law_losses.proofs.Setting.{Setting, AreLaws, final, told_by, carried_at, IsOpen, IsVeiled}
use Rattle.sd_law_losses.proofs.Hearing.{AreHearable}
use Rattle.sd_law_losses.proofs.Pairs.{number_is}
use Rattle.sd_law_losses.proofs.Carrying.{carrying}
use Rattle.sd_law_losses.proofs.Remaining.{parts_before, group_at, rest_at, rest_more, rest_none, closing_items}
use Rattle.sd_law_losses.proofs.Remaining.{due_number}
use Rattle.sd_law_losses.proofs.Remaining.{other_number, number_within}
use Rattle.sd_law_losses.proofs.Lawful.{setting, laws_hold, can_be_heard}
use Rattle.sd_law_losses.proofs.Theorem.{whole_refused, whole_opened, whole_ended}
use Rattle.sd_law_watch.specs.Steady.{have_one_counter, are_steady_after, are_steady}
use Rattle.sd_law_watch.proofs.Prefix.{past_of, StandsAt, sent_before, before_and_rest, here_before, stands_before}
use Rattle.sd_law_watch.proofs.Prefix.{word_before}
use Rattle.sd_law_watch.proofs.Air.{IsOnAir, on_air}
use Rattle.sd_law_watch.proofs.Steady.{no_copy, AllFine, fine_append, fine_count, Steady, steady_upto}
use Rattle.sd_law_watch.proofs.Steady.{once_by, even_by, parts_on, tunes_on, no_copy_of, like_on, Goes, goes_after}
use Rattle.sd_law_watch.proofs.Steady.{goes_none, goes_one, AreTables, tables_go, parts_go}

-- the scrambled packets with packet k, if it is one
abbrev pub next_scrambled : Setting → ℕ → List (List ℕ) → List (List ℕ)
next_scrambled s k scrambled =
    if is_scrambled (kind_of (take k s.clear) (packet_at s.clear k)) then packet_at s.clear k ∷ scrambled else scrambled

-- what the clear stream says of packet k
pub record IsFresh (s : Setting) (k : ℕ) (scrambled : List (List ℕ)) : Type 0 where
  pub one : is_scrambled (kind_of (take k s.clear) (packet_at s.clear k)) ≡ true →
      list_any (have_one_counter (packet_at s.clear k)) (take 15 scrambled) ≡ false
  pub rest : are_steady_after (take (k + 1) s.clear) (next_scrambled s k scrambled) (drop (k + 1) s.clear) ≡ true

fresh_at : (s : Setting) (k : ℕ) (scrambled : List (List ℕ)) → k < length s.clear →
    are_steady_after (take k s.clear) scrambled (drop k s.clear) ≡ true → IsFresh s k scrambled
unfolding are_steady_after
fresh_at s k scrambled within steady =
    let parts = by_kind (is_scrambled (kind_of (take k s.clear) p))
    (ap (λ (packets : List (List ℕ)). are_steady_after (take k s.clear) scrambled packets)
    (sym (drop_more s.clear k [] within)) ∙ steady) in
    record {
      one = parts.0;
      rest = ap (λ (before : List (List ℕ)). are_steady_after before (next_scrambled s k scrambled)
          (drop (k + 1) s.clear)) (take_more s.clear k [] within)
          ∙ parts.1;
    }
  where
    p : List ℕ
    p = packet_at s.clear k

    like : Bool
    like = list_any (have_one_counter p) (take 15 scrambled)

    after : List (List ℕ) → Bool
    after these = are_steady_after (take k s.clear ++ p ∷ []) these (drop (k + 1) s.clear)

    by_kind : (b : Bool) → (if b then not like && after (p ∷ scrambled) else after scrambled) ≡ true →
        (b ≡ true → like ≡ false) × (after (if b then p ∷ scrambled else scrambled) ≡ true)
    by_kind true is =
        let parts = and_parts (not like) (after (p ∷ scrambled)) is in (λ e. not-true like parts.0, parts.1)
    by_kind false is = (λ e. absurd (false≢true e), is)

-- packet k as it is carried
veiled_scrambled : (s : Setting) (k : ℕ) → IsVeiled s k → is_scrambled_packet (carried_at s k) ≡ true
veiled_scrambled s k is = ap not is.veiled

open_clear : (s : Setting) (k : ℕ) → IsOpen s k → is_scrambled_packet (carried_at s k) ≡ false
open_clear s k is = ap not is.clear

carried_marked : (s : Setting) (k : ℕ) → IsOnAir s.clear k (carried_at s k) → is_marked (packet_at s.clear k) ≡ false →
    is_marked (carried_at s k) ≡ false
carried_marked s k air unmarked = ap (λ (e : ℕ). e == 1) air.error ∙ unmarked

not_odd : (s : Setting) (laws : AreLaws s) (k : ℕ) → k < length s.clear → IsVeiled s k →
    is_foreign_under (told_by s (k / s.plan.site.every)).word (carried_at s k) ≡ false
not_odd s laws k within is =
    rw is.placed (ap (λ (t : ℕ). not (scrambling_of (carried_at s k) == 2 + t % 2)) (word_before s laws k within)
    ∙ ap not is.parity)

both_false : (a b : Bool) → (a && (b && false)) ≡ false
both_false true true = refl
both_false true false = refl
both_false false b = refl

veiled_even : (s : Setting) (laws : AreLaws s) (k n : ℕ) (past : List Heard) → k < length s.clear → IsVeiled s k →
    (newest_message past).message ≡ Some (told_by s (k / s.plan.site.every)) →
    is_stray past (Other n (carried_at s k)) ≡ false
unfolding is_stray
veiled_even s laws k n past within is told =
    ap (λ (m : Option Message). not (is_closed past) && (is_scrambled_packet (carried_at s k)
    && option_map_or (λ message. is_foreign_under message.word (carried_at s k)) m false)) told
    ∙ (ap (λ (b : Bool). not (is_closed past) && (is_scrambled_packet (carried_at s k) && b))
    (not_odd s laws k within is)
    ∙ both_false (not (is_closed past)) (is_scrambled_packet (carried_at s k)))

clear_even : (past : List Heard) (n : ℕ) (packet : List ℕ) → is_scrambled_packet packet ≡ false →
    is_stray past (Other n packet) ≡ false
unfolding is_stray
clear_even past n packet clear = rw clear (and_false (not (is_closed past)))

no_part : (past : List Heard) (n : ℕ) (packet : List ℕ) → is_part_again past (Other n packet) ≡ false
unfolding is_part_again
no_part past n packet = refl

is_carried_on : (s : Setting) (k : ℕ) → k < length s.clear → IsOfBroadcast s.plan s.clear (carrying s k)
unfolding carried_at
is_carried_on s k within = carried_on k within

veiled_goes : (s : Setting) (laws : AreLaws s) (able : AreHearable s) (k : ℕ) (earlier : List Item)
    (past scrambled : List (List ℕ)) (a x : ℕ) → k < length s.clear → IsVeiled s k →
    IsOnAir s.clear k (carried_at s k) → is_marked (packet_at s.clear k) ≡ false →
    list_any (have_one_counter (packet_at s.clear k)) (take 15 scrambled) ≡ false →
    StandsAt s past (k / s.plan.site.every) → Steady s past scrambled a x →
    Goes s earlier (carrying s k ∷ []) past (packet_at s.clear k ∷ scrambled) a x
veiled_goes s laws able k earlier past scrambled a x within is air unmarked fresh stands steady =
    let p : List ℕ = carried_at s k in
    let of' = is_carried_on s k within in
    let hears_it = able.heard_is (length past) earlier (carrying s k) of' in
    let veiled = veiled_scrambled s k is in
    let copy : is_copy past p ≡ false = rw veiled (no_copy 15 (packet_at s.clear k) p scrambled
    (filter is_scrambled_packet past) steady.like is.pid air.counter fresh) in
    goes_one s earlier (carrying s k) [] past (packet_at s.clear k ∷ scrambled) a x (record {
      unmarked = carried_marked s k air unmarked;
      once = once_by s past p (Other (length past) p) steady.tuned hears_it copy
          (no_part (heard s.card past) (length past) p);
      even = even_by s past p (Other (length past) p) steady.tuned hears_it
          (veiled_even s laws k (length past) (heard s.card past) within is stands.message);
    })
    (goes_none s (earlier ++ carrying s k ∷ []) (p ∷ past) (packet_at s.clear k ∷ scrambled) a x (record {
      tuned = tunes_on s able past earlier (carrying s k) of' steady.tuned;
      like = rw veiled (is.pid, air.counter, steady.like);
      parts = parts_on s able past earlier (carrying s k) a x of' steady.tuned tt steady.parts;
    }))

open_goes : (s : Setting) (able : AreHearable s) (k : ℕ) (earlier : List Item) (past scrambled : List (List ℕ))
    (a x : ℕ) → k < length s.clear → IsOpen s k → IsOnAir s.clear k (carried_at s k) →
    is_marked (packet_at s.clear k) ≡ false → Steady s past scrambled a x →
    Goes s earlier (carrying s k ∷ []) past scrambled a x
open_goes s able k earlier past scrambled a x within is air unmarked steady =
    let p : List ℕ = carried_at s k in
    let of' = is_carried_on s k within in
    let hears_it = able.heard_is (length past) earlier (carrying s k) of' in
    let clear = open_clear s k is in
    goes_one s earlier (carrying s k) [] past scrambled a x (record {
      unmarked = carried_marked s k air unmarked;
      once = once_by s past p (Other (length past) p) steady.tuned hears_it (no_copy_of past p clear)
          (no_part (heard s.card past) (length past) p);
      even = even_by s past p (Other (length past) p) steady.tuned hears_it
          (clear_even (heard s.card past) (length past) p clear);
    })
    (goes_none s (earlier ++ carrying s k ∷ []) (p ∷ past) scrambled a x (record {
      tuned = tunes_on s able past earlier (carrying s k) of' steady.tuned;
      like = like_on past scrambled p clear steady.like;
      parts = parts_on s able past earlier (carrying s k) a x of' steady.tuned tt steady.parts;
    }))

carried_goes : (s : Setting) (laws : AreLaws s) (able : AreHearable s) (k : ℕ) (earlier : List Item)
    (past scrambled : List (List ℕ)) (a x : ℕ) → k < length s.clear → IsOnAir s.clear k (carried_at s k) →
    is_marked (packet_at s.clear k) ≡ false → IsFresh s k scrambled → StandsAt s past (k / s.plan.site.every) →
    Steady s past scrambled a x →
    Goes s earlier (carrying s k ∷ []) past (next_scrambled s k scrambled) a x
carried_goes s laws able k earlier past scrambled a x within air unmarked fresh stands steady =
    by_kind (is_scrambled (kind_of (take k s.clear) (packet_at s.clear k))) refl
  where
    by_kind : (b : Bool) → is_scrambled (kind_of (take k s.clear) (packet_at s.clear k)) ≡ b →
        Goes s earlier (carrying s k ∷ []) past (if b then packet_at s.clear k ∷ scrambled else scrambled) a x
    by_kind true is =
        veiled_goes s laws able k earlier past scrambled a x within (laws.veiled k within is) air unmarked
        (fresh.one is) stands steady
    by_kind false is =
        open_goes s able k earlier past scrambled a x within (laws.opened k within is) air unmarked steady

-- the tables and the parts before packet k
sections_are_tables : (emms : List Emm) → AreTables (map Entitles emms)
sections_are_tables [] = tt
sections_are_tables (emm ∷ emms) = sections_are_tables emms

tables_are : (s : Setting) (k : ℕ) → AreTables (tables_at s.plan k)
unfolding tables_at
tables_are s k = sections_are_tables (emms_of (period_at s.plan _))

before_are_tables : (s : Setting) (k : ℕ) (due : Bool) → AreTables (if due then tables_at s.plan k else [])
before_are_tables s k true = tables_are s k
before_are_tables s k false = tt

goes_upto : (s : Setting) (earlier items : List Item) (past scrambled : List (List ℕ)) (a x b y : ℕ) →
    (a < b) ⊎ ((a ≡ b) × (x ≤ y)) → Goes s earlier items past scrambled a x → Goes s earlier items past scrambled b y
goes_upto s earlier items past scrambled a x b y up goes = record {
  fine = goes.fine;
  steady = steady_upto s (onto (packets_from s.plan.site earlier items) past) scrambled a x b y up goes.steady;
}

message_goes : (s : Setting) (laws : AreLaws s) (able : AreHearable s) (a : ℕ) (earlier : List Item)
    (past scrambled : List (List ℕ)) → a ≤ final s →
    All (IsOfBroadcast s.plan s.clear) (map Controls (parts_of (told_by s a))) → Steady s past scrambled a 0 →
    Goes s earlier (map Controls (parts_of (told_by s a))) past scrambled (a + 1) 0
message_goes s laws able a earlier past scrambled within all steady =
    goes_upto s earlier (map Controls (parts_of (told_by s a))) past scrambled ((told_by s a).number + 1) 0 (a + 1) 0
    (inr (ap (λ (n : ℕ). n + 1) (number_is s a), omega arith))
    (parts_go s laws able (told_by s a) [] (parts_of (told_by s a)) earlier past scrambled (laws.parts a within) all
    (steady_upto s past scrambled a 0 (told_by s a).number 0 (inr (sym (number_is s a), omega arith)) steady))

parts_step : (s : Setting) (laws : AreLaws s) (able : AreHearable s) (k : ℕ) (earlier : List Item)
    (past scrambled : List (List ℕ)) → k < length s.clear → All (IsOfBroadcast s.plan s.clear) (parts_before s k) →
    Steady s past scrambled (closing_number s.plan.site k) 0 →
    Goes s earlier (parts_before s k) past scrambled (closing_number s.plan.site (k + 1)) 0
parts_step s laws able k earlier past scrambled within all steady =
    by_test (k % s.plan.site.every == 0) refl all
  where
    parts : List Item
    parts = map Controls (parts_of (told_by s (k / s.plan.site.every)))

    by_test : (b : Bool) → (k % s.plan.site.every == 0) ≡ b →
        All (IsOfBroadcast s.plan s.clear) (if b then parts else []) →
        Goes s earlier (if b then parts else []) past scrambled (closing_number s.plan.site (k + 1)) 0
    by_test true due all =
        let numbers = due_number s.plan.site k laws.range due in
        goes_upto s earlier parts past scrambled (k / s.plan.site.every + 1) 0 (closing_number s.plan.site (k + 1)) 0
        (inr (sym numbers.1, omega arith))
        (message_goes s laws able (k / s.plan.site.every) earlier past scrambled
        (omega (arith, number_within s k laws.range within)) all
        (steady_upto s past scrambled (closing_number s.plan.site k) 0 (k / s.plan.site.every) 0
        (inr (numbers.0, omega arith)) steady))
    by_test false other all =
        goes_none s earlier past scrambled (closing_number s.plan.site (k + 1)) 0
        (steady_upto s past scrambled (closing_number s.plan.site k) 0 (closing_number s.plan.site (k + 1)) 0
        (inr (sym (other_number s.plan.site k laws.range other), omega arith)) steady)

-- the packets of more things
past_more : (s : Setting) (xs ys : List Item) →
    past_of s (xs ++ ys) ≡ onto (packets_from s.plan.site xs ys) (past_of s xs)
past_more s xs ys =
    ap (λ (packets : List (List ℕ)). onto packets []) (packets_in_turn s.plan.site [] xs ys)
    ∙ onto_append (packets_from s.plan.site [] xs) (packets_from s.plan.site xs ys) []

-- all that comes with packet k
group_goes : (s : Setting) (laws : AreLaws s) (able : AreHearable s) (k : ℕ) (scrambled : List (List ℕ)) →
    k < length s.clear → All (IsOfBroadcast s.plan s.clear) (group_at s k) → IsOnAir s.clear k (carried_at s k) →
    is_marked (packet_at s.clear k) ≡ false → IsFresh s k scrambled →
    StandsAt s (past_of s (here_before s k)) (k / s.plan.site.every) →
    Steady s (past_of s (sent_before s k)) scrambled (closing_number s.plan.site k) 0 →
    Goes s (sent_before s k) (group_at s k) (past_of s (sent_before s k)) (next_scrambled s k scrambled)
    (closing_number s.plan.site (k + 1)) 0
group_goes s laws able k scrambled within all air unmarked fresh stands steady =
    subst (λ (items : List Item). Goes s e items past (next_scrambled s k scrambled)
    (closing_number s.plan.site (k + 1)) 0) (append_assoc tables parts (carrying s k ∷ []))
    (goes_after s e (tables ++ parts) (carrying s k ∷ []) past scrambled (next_scrambled s k scrambled)
    (closing_number s.plan.site (k + 1)) 0 (closing_number s.plan.site (k + 1)) 0 first
    (carried_goes s laws able k (e ++ (tables ++ parts))
    (onto (packets_from s.plan.site e (tables ++ parts)) past) scrambled (closing_number s.plan.site (k + 1)) 0 within
    air unmarked fresh (subst (λ (packets : List (List ℕ)). StandsAt s packets (k / s.plan.site.every))
    (past_more s e (tables ++ parts)) stands) first.steady))
  where
    e : List Item
    e = sent_before s k

    past : List (List ℕ)
    past = past_of s (sent_before s k)

    tables : List Item
    tables = tables_before s.plan k

    parts : List Item
    parts = parts_before s k

    one : Goes s e tables past scrambled (closing_number s.plan.site k) 0
    one = tables_go s laws able tables e past scrambled (closing_number s.plan.site k) 0
        (all_first (IsOfBroadcast s.plan s.clear) tables (parts ++ carrying s k ∷ []) all)
        (before_are_tables s k (k % crypto_length s.plan.site == 0)) steady

    first : Goes s e (tables ++ parts) past scrambled (closing_number s.plan.site (k + 1)) 0
    first = goes_after s e tables parts past scrambled scrambled (closing_number s.plan.site k) 0
        (closing_number s.plan.site (k + 1)) 0 one
        (parts_step s laws able k (e ++ tables) (onto (packets_from s.plan.site e tables) past) scrambled within
        (all_first (IsOfBroadcast s.plan s.clear) parts (carrying s k ∷ [])
        (all_second (IsOfBroadcast s.plan s.clear) tables (parts ++ carrying s k ∷ []) all)) one.steady)

-- the closing message
closing_fine : (s : Setting) (laws : AreLaws s) (able : AreHearable s) (earlier : List Item)
    (past scrambled : List (List ℕ)) → All (IsOfBroadcast s.plan s.clear) (closing_of s.plan s.clear) →
    Steady s past scrambled (final s) 0 →
    AllFine s.card past (packets_from s.plan.site earlier (closing_of s.plan s.clear))
closing_fine s laws able earlier past scrambled all steady =
    subst (λ (items : List Item). AllFine s.card past (packets_from s.plan.site earlier items))
    (sym (closing_items s))
    (goes_after s earlier tables parts past scrambled scrambled (final s) 0 (final s + 1) 0 one
    (message_goes s laws able (final s) (earlier ++ tables) (onto (packets_from s.plan.site earlier tables) past)
    scrambled (omega arith) (all_second (IsOfBroadcast s.plan s.clear) tables parts these) one.steady)).fine
  where
    tables : List Item
    tables = if length s.clear == 0 then tables_at s.plan 0 else []

    parts : List Item
    parts = map Controls (parts_of (told_by s (final s)))

    these : All (IsOfBroadcast s.plan s.clear) (tables ++ parts)
    these = subst (All (IsOfBroadcast s.plan s.clear)) (closing_items s) all

    one : Goes s earlier tables past scrambled (final s) 0
    one = tables_go s laws able tables earlier past scrambled (final s) 0
        (all_first (IsOfBroadcast s.plan s.clear) tables parts these)
        (before_are_tables s 0 (length s.clear == 0)) steady

-- all packets of the stream are unmarked, and carried so
pub record IsUnmarked (s : Setting) : Type 0 where
  pub clear : (k : ℕ) → k < length s.clear → is_marked (packet_at s.clear k) ≡ false
  pub air : (k : ℕ) → k < length s.clear → IsOnAir s.clear k (carried_at s k)

sent_first : (s : Setting) → sent s.plan s.clear ++ closing_of s.plan s.clear ≡ rest_at s 0
sent_first s = refl

-- from packet k on
rest_fine : (s : Setting) (laws : AreLaws s) (able : AreHearable s) (good : IsUnmarked s) (n k : ℕ)
    (scrambled : List (List ℕ)) → k + n ≡ length s.clear → All (IsOfBroadcast s.plan s.clear) (rest_at s k) →
    are_steady_after (take k s.clear) scrambled (drop k s.clear) ≡ true →
    Steady s (past_of s (sent_before s k)) scrambled (closing_number s.plan.site k) 0 →
    AllFine s.card (past_of s (sent_before s k)) (packets_from s.plan.site (sent_before s k) (rest_at s k))
unfolding sent_before
rest_fine s laws able good zero k scrambled count all fresh steady =
    let last : k ≡ length s.clear = omega (arith, count) in
    let items : rest_at s k ≡ closing_of s.plan s.clear = ap (rest_at s) last ∙ rest_none s in
    subst (λ (these : List Item). AllFine s.card (past_of s (sent_before s k))
    (packets_from s.plan.site (sent_before s k) these)) (sym items)
    (closing_fine s laws able (sent_before s k) (past_of s (sent_before s k)) scrambled
    (subst (All (IsOfBroadcast s.plan s.clear)) items all)
    (steady_upto s (past_of s (sent_before s k)) scrambled (closing_number s.plan.site k) 0 (final s) 0
    (inr (ap (closing_number s.plan.site) last, omega arith)) steady))
rest_fine s laws able good (suc n) k scrambled count all fresh steady =
    let within : k < length s.clear = omega (arith, count) in
    let more : k + 1 ≡ suc k = omega arith in
    let split : rest_at s k ≡ group_at s k ++ rest_at s (suc k)
    = rest_more s k laws.range within ∙ ap (λ (j : ℕ). group_at s k ++ rest_at s j) more in
    let these = subst (All (IsOfBroadcast s.plan s.clear)) split all in
    let new = fresh_at s k scrambled within fresh in
    let whole : sent s.plan s.clear ++ closing_of s.plan s.clear
    ≡ here_before s k ++ ((carrying s k ∷ []) ++ rest_at s (suc k))
    = sent_first s ∙ (before_and_rest s laws k (omega (arith, within))
    ∙ (ap (λ (items : List Item). sent_before s k ++ items) split
    ∙ regrouped s k)) in
    let goes = group_goes s laws able k scrambled within
    (all_first (IsOfBroadcast s.plan s.clear) (group_at s k) (rest_at s (suc k)) these) (good.air k within)
    (good.clear k within) new
    (stands_before s laws able k ((carrying s k ∷ []) ++ rest_at s (suc k)) within whole) steady in
    let next = past_more s (sent_before s k) (group_at s k) in
    subst (λ (items : List Item). AllFine s.card (past_of s (sent_before s k))
    (packets_from s.plan.site (sent_before s k) items)) (sym split)
    (subst (AllFine s.card (past_of s (sent_before s k)))
    (sym (packets_in_turn s.plan.site (sent_before s k) (group_at s k) (rest_at s (suc k))))
    (fine_append s.card (past_of s (sent_before s k)) (packets_from s.plan.site (sent_before s k) (group_at s k))
    (packets_from s.plan.site (sent_before s k ++ group_at s k) (rest_at s (suc k))) goes.fine
    (subst (λ (past : List (List ℕ)). AllFine s.card past
    (packets_from s.plan.site (sent_before s k ++ group_at s k) (rest_at s (suc k)))) next
    (rest_fine s laws able good n (suc k) (next_scrambled s k scrambled) (omega (arith, count))
    (all_second (IsOfBroadcast s.plan s.clear) (group_at s k) (rest_at s (suc k)) these)
    (ap (λ (j : ℕ). are_steady_after (take j s.clear) (next_scrambled s k scrambled) (drop j s.clear)) (sym more)
    ∙ new.rest)
    (subst (λ (j : ℕ). Steady s (past_of s (sent_before s k ++ group_at s k)) (next_scrambled s k scrambled)
    (closing_number s.plan.site j) 0) more
    (subst (λ (past : List (List ℕ)). Steady s past (next_scrambled s k scrambled)
    (closing_number s.plan.site (k + 1)) 0) (sym next) goes.steady))))))
  where
    regrouped : (s : Setting) (k : ℕ) →
        sent_before s k ++ (group_at s k ++ rest_at s (suc k))
        ≡ here_before s k ++ ((carrying s k ∷ []) ++ rest_at s (suc k))
    regrouped s k =
        ap (λ (items : List Item). sent_before s k ++ (items ++ rest_at s (suc k)))
        (sym (append_assoc (tables_before s.plan k) (parts_before s k) (carrying s k ∷ [])))
        ∙ (ap (λ (items : List Item). sent_before s k ++ items)
        (append_assoc (tables_before s.plan k ++ parts_before s k) (carrying s k ∷ []) (rest_at s (suc k)))
        ∙ sym (append_assoc (sent_before s k) (tables_before s.plan k ++ parts_before s k)
        ((carrying s k ∷ []) ++ rest_at s (suc k))))

steady_start : (s : Setting) (laws : AreLaws s) → Steady s [] [] (closing_number s.plan.site 0) 0
unfolding heard tuning_of
steady_start s laws = record { tuned = inr (refl, refl); like = tt; parts = tt }

pub all_fine : (s : Setting) (laws : AreLaws s) (able : AreHearable s) (good : IsUnmarked s) →
    are_steady s.clear ≡ true → AllFine s.card [] (broadcast s.plan s.clear)
unfolding broadcast sent_before packets_from
all_fine s laws able good steady =
    subst (λ (items : List Item). AllFine s.card [] (packets_from s.plan.site [] items)) (sym (sent_first s))
    (rest_fine s laws able good (length s.clear) 0 [] (omega arith)
    (subst (All (IsOfBroadcast s.plan s.clear)) (sent_first s) (all_are_of_broadcast s.plan s.clear)) steady
    (steady_start s laws))

pub none_marked : (clear : List (List ℕ)) (k : ℕ) → list_any is_marked clear ≡ false → k < length clear →
    is_marked (packet_at clear k) ≡ false
none_marked clear k none within =
    tested (is_marked (packet_at clear k))
    (λ is. absurd (false≢true (sym none ∙ list_any_at is_marked clear k [] within is)))
    (λ is. is)

-- all of the broadcast counts
pub steady_counts : (plan : Plan) (clear : List (List ℕ)) (u : ℕ) → IsPlan plan → IsSendable plan.site clear →
    AreWholePackets clear → u < 2 ^ plan.site.height → are_steady clear ≡ true → list_any is_marked clear ≡ false →
    counting (site_card plan.site u) [] (broadcast plan clear)
    ≡ broadcast plan clear
steady_counts plan clear u is all whole leaf steady none =
    fine_count (site_card plan.site u) [] (broadcast plan clear)
    (whole_refused plan clear u is all whole leaf)
    (all_fine (setting plan clear u) (laws_hold plan clear u is all whole leaf) (can_be_heard plan clear u is all whole)
    (record {
      clear = λ k within. none_marked clear k none within;
      air = λ k within. on_air plan clear u k all whole within;
    }) steady)

pub steady_out : (plan : Plan) (clear : List (List ℕ)) (u : ℕ) → IsPlan plan → IsSendable plan.site clear →
    AreWholePackets clear → u < 2 ^ plan.site.height → are_steady clear ≡ true → list_any is_marked clear ≡ false →
    out_from (site_card plan.site u) []
    (counting (site_card plan.site u) [] (broadcast plan clear))
    ≡ opened_by plan u clear
steady_out plan clear u is all whole leaf steady none =
    ap (out_from (site_card plan.site u) [])
    (steady_counts plan clear u is all whole leaf steady none)
    ∙ whole_opened plan clear u is all whole leaf

pub steady_ending : (plan : Plan) (clear : List (List ℕ)) (u : ℕ) → IsPlan plan → IsSendable plan.site clear →
    AreWholePackets clear → u < 2 ^ plan.site.height → are_steady clear ≡ true → list_any is_marked clear ≡ false →
    ending_of (site_card plan.site u)
    (reverse (counting (site_card plan.site u) [] (broadcast plan clear)))
    ≡ whole_ending (first_revoked plan u clear)
steady_ending plan clear u is all whole leaf steady none =
    ap (λ (packets : List (List ℕ)). ending_of (site_card plan.site u)
    (reverse packets)) (steady_counts plan clear u is all whole leaf steady none)
    ∙ whole_ended plan clear u is all whole leaf
