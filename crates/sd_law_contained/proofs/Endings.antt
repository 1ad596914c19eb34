-- The packets of one PID and those that tell something end as all packets do, but for the number of missing packets.
use Rattle.std.proofs.Common.{◌≡◌, refl, ℕ, ◌+◌, ◌-◌, ◌==◌, ◌&&◌, ◌||◌, ◌++◌, Bool, true, false, List, [], ◌∷◌, map}
use Rattle.std.proofs.Common.{length, reverse, Option, Some, None, is_none, ap, sym, ◌∙◌, append-nil}
use Rattle.std.specs.Prelude.{if◌then◌else◌, find, nat_lt}
use Rattle.std.specs.Option.{option_map_or}
use Rattle.sd_base.proofs.Bools.{tested}
use Rattle.sd_base.proofs.Lists.{reversed}
use Rattle.sd_packet.specs.Header.{pid_of}
use Rattle.sd_site_cards.specs.CardFields.{CardFields}
use Rattle.sd_message.specs.EcmParts.{Message}
use Rattle.sd_message.specs.declared.emm.Emm.{Emm}
use Rattle.sd_psi.specs.declared.our_cat.Tuning.{Tuning}
use Rattle.sd_spec.specs.declared.ending.Ending.{Ending}
use Rattle.sd_spec.specs.declared.ending.Ending.TheVariants.{Opened, Revoked, Unheard, NoCat, Unclosed, Gaps}
use Rattle.sd_spec.specs.Tuned.{tuning_of}
use Rattle.sd_spec.specs.Heard.{Heard, hears}
use Rattle.sd_spec.specs.Stretches.{newest_message, is_closed}
use Rattle.sd_spec.specs.Runs.{is_turn}
use Rattle.sd_spec.specs.Offered.{heard}
use Rattle.sd_spec.specs.Ending.{periods_told, is_unkeyed, are_all, is_all_seen, ending_with, run_ending}
use Rattle.sd_spec.specs.Ending.{endings_joined, turns_at, run_wrote, ended_before, ending_of}
use Rattle.sd_law_contained.specs.Alone.{speaks, packets_alone, without_gaps}
use Rattle.sd_law_contained.proofs.Thinned.{thinned, same_by, messages_thinned, message_thinned, closed_thinned}
use Rattle.sd_law_contained.proofs.Thinned.{seen_thinned, key_thinned}
use Rattle.sd_law_contained.proofs.Written.{neither}
use Rattle.sd_law_contained.proofs.Following.{hears_numbered, turn_same, no_turn, Agrees, both_agree}
use Rattle.sd_law_contained.proofs.Leaving.{left_quiet, left_agree, begin_agrees}

-- how a run ends
pub find_same : {X : Type 0} (f g : X → Bool) → ((x : X) → f x ≡ g x) → (xs : List X) → find f xs ≡ find g xs
find_same f g same [] = refl
find_same {X = X} f g same (x ∷ xs) =
    ap {B = Option X} (λ (test : Bool). if test then Some x else find f xs) (same x)
    ∙ ap (λ (found : Option X). if g x then Some x else found) (find_same f g same xs)

-- the ending by the first revoked period and the first without a key, if no packets are missing
abbrev ending_by : Option ℕ → Option ℕ → Ending
ending_by revoked unheard = ending_with revoked unheard 0

gaps_by : (b : Bool) (n : ℕ) → without_gaps (if b then Gaps n else Opened) ≡ Opened
unfolding without_gaps
gaps_by true n = refl
gaps_by false n = refl

without_by : (revoked unheard : Option ℕ) (gaps : ℕ) →
    without_gaps (ending_with revoked unheard gaps) ≡ ending_by revoked unheard
unfolding without_gaps
without_by (Some q) unheard gaps = refl
without_by None (Some q) gaps = refl
without_by None None gaps = gaps_by (nat_lt 0 gaps) gaps

abbrev revoked_in : CardFields → List Heard → Option ℕ
revoked_in card past = find (λ q. is_unkeyed card past q && is_all_seen past q) (periods_told past)

abbrev unheard_in : CardFields → List Heard → Option ℕ
unheard_in card past = find (is_unkeyed card past) (periods_told past)

abbrev next_number : List Heard → ℕ
next_number past = option_map_or (λ (message : Message). message.number + 1) (newest_message past).message 0

abbrev run_end : CardFields → List Heard → Ending
run_end card past =
    if is_closed past then ending_by (revoked_in card past) (unheard_in card past) else Unclosed (next_number past)

run_end_by : (closed : Bool) (revoked unheard : Option ℕ) (gaps next : ℕ) →
    without_gaps (if closed then ending_with revoked unheard gaps else Unclosed next)
    ≡ (if closed then ending_by revoked unheard else Unclosed next)
unfolding without_gaps
run_end_by true revoked unheard gaps next = without_by revoked unheard gaps
run_end_by false revoked unheard gaps next = refl

run_end_is : (card : CardFields) (past : List Heard) (written : ℕ) →
    without_gaps (run_ending card past written) ≡ run_end card past
unfolding run_ending
run_end_is card past written =
    run_end_by (is_closed past) (revoked_in card past) (unheard_in card past)
    (option_map_or (λ (message : Message). message.clear) (newest_message past).message 0 - written) (next_number past)

periods_thinned : (pid : ℕ) (past : List Heard) → periods_told (thinned pid past) ≡ periods_told past
unfolding periods_told
periods_thinned pid past =
    ap {B = List ℕ} (λ (ms : List Message). reverse (map (λ (m : Message). m.period) ms)) (messages_thinned pid past)

unkeyed_thinned : (pid : ℕ) (card : CardFields) (past : List Heard) (q : ℕ) →
    is_unkeyed card (thinned pid past) q ≡ is_unkeyed card past q
unkeyed_thinned pid card past q =
    ap {B = Bool} (λ (key : Option (List ℕ)). is_none key) (key_thinned pid q card past)

revoked_thinned : (pid : ℕ) (card : CardFields) (past : List Heard) (q : ℕ) →
    (is_unkeyed card (thinned pid past) q && is_all_seen (thinned pid past) q)
    ≡ (is_unkeyed card past q && is_all_seen past q)
revoked_thinned pid card past q =
    ap (λ (b : Bool). b && is_all_seen (thinned pid past) q) (unkeyed_thinned pid card past q)
    ∙ ap (λ (sections : List Emm). is_unkeyed card past q && are_all sections) (seen_thinned pid q past)

abbrev end_by : Bool → Option ℕ → Option ℕ → ℕ → Ending
end_by closed revoked unheard next = if closed then ending_by revoked unheard else Unclosed next

run_end_thinned : (pid : ℕ) (card : CardFields) (past : List Heard) →
    run_end card (thinned pid past) ≡ run_end card past
run_end_thinned pid card past =
    let thin : List Heard = thinned pid past in
    let revoked : revoked_in card thin ≡ revoked_in card past =
    find_same (λ q. is_unkeyed card thin q && is_all_seen thin q) (λ q. is_unkeyed card past q && is_all_seen past q)
    (revoked_thinned pid card past) (periods_told thin)
    ∙ ap (find (λ q. is_unkeyed card past q && is_all_seen past q)) (periods_thinned pid past) in
    let unheard : unheard_in card thin ≡ unheard_in card past =
    find_same (is_unkeyed card thin) (is_unkeyed card past) (unkeyed_thinned pid card past) (periods_told thin)
    ∙ ap (find (is_unkeyed card past)) (periods_thinned pid past) in
    let next : next_number thin ≡ next_number past =
    ap (λ (message : Option Message). option_map_or (λ (m : Message). m.number + 1) message 0)
    (message_thinned pid past) in
    ap (λ (closed : Bool). end_by closed (revoked_in card thin) (unheard_in card thin) (next_number thin))
    (closed_thinned pid past)
    ∙ (ap (λ (q : Option ℕ). end_by (is_closed past) q (unheard_in card thin) (next_number thin)) revoked
    ∙ (ap (λ (q : Option ℕ). end_by (is_closed past) (revoked_in card past) q (next_number thin)) unheard
    ∙ ap (end_by (is_closed past) (revoked_in card past) (unheard_in card past)) next))

run_end_same : (pid : ℕ) (card : CardFields) (a b : List Heard) (m n : ℕ) → thinned pid a ≡ thinned pid b →
    without_gaps (run_ending card a m) ≡ without_gaps (run_ending card b n)
run_end_same pid card a b m n same =
    run_end_is card a m
    ∙ (same_by (run_end card) pid a b (run_end_thinned pid card) same ∙ sym (run_end_is card b n))

-- endings together
joined_without : (earlier later : Ending) →
    without_gaps (endings_joined earlier later) ≡ endings_joined (without_gaps earlier) (without_gaps later)
unfolding without_gaps endings_joined
joined_without NoCat NoCat = refl
joined_without NoCat (Unclosed m) = refl
joined_without NoCat (Revoked m) = refl
joined_without NoCat (Unheard m) = refl
joined_without NoCat (Gaps m) = refl
joined_without NoCat Opened = refl
joined_without (Unclosed n) NoCat = refl
joined_without (Unclosed n) (Unclosed m) = refl
joined_without (Unclosed n) (Revoked m) = refl
joined_without (Unclosed n) (Unheard m) = refl
joined_without (Unclosed n) (Gaps m) = refl
joined_without (Unclosed n) Opened = refl
joined_without (Revoked n) NoCat = refl
joined_without (Revoked n) (Unclosed m) = refl
joined_without (Revoked n) (Revoked m) = refl
joined_without (Revoked n) (Unheard m) = refl
joined_without (Revoked n) (Gaps m) = refl
joined_without (Revoked n) Opened = refl
joined_without (Unheard n) NoCat = refl
joined_without (Unheard n) (Unclosed m) = refl
joined_without (Unheard n) (Revoked m) = refl
joined_without (Unheard n) (Unheard m) = refl
joined_without (Unheard n) (Gaps m) = refl
joined_without (Unheard n) Opened = refl
joined_without (Gaps n) NoCat = refl
joined_without (Gaps n) (Unclosed m) = refl
joined_without (Gaps n) (Revoked m) = refl
joined_without (Gaps n) (Unheard m) = refl
joined_without (Gaps n) (Gaps m) = refl
joined_without (Gaps n) Opened = refl
joined_without Opened NoCat = refl
joined_without Opened (Unclosed m) = refl
joined_without Opened (Revoked m) = refl
joined_without Opened (Unheard m) = refl
joined_without Opened (Gaps m) = refl
joined_without Opened Opened = refl

joined_same : (a b c d : Ending) → without_gaps a ≡ without_gaps c → without_gaps b ≡ without_gaps d →
    without_gaps (endings_joined a b) ≡ without_gaps (endings_joined c d)
joined_same a b c d first second =
    joined_without a b
    ∙ (ap (λ (e : Ending). endings_joined e (without_gaps b)) first
    ∙ (ap (endings_joined (without_gaps c)) second ∙ sym (joined_without c d)))

-- a packet that both receivers are offered begins a run for both or for none
both_turn_by : (card : CardFields) (pid n m : ℕ) (tuning : Option Tuning) (packet : List ℕ) (past few : List Heard) →
    thinned pid few ≡ thinned pid past →
    option_map_or (λ (t : Tuning). is_turn few (hears card.height t m packet)) tuning false
    ≡ option_map_or (λ (t : Tuning). is_turn past (hears card.height t n packet)) tuning false
both_turn_by card pid n m None packet past few same = refl
both_turn_by card pid n m (Some tuning) packet past few same =
    rw (hears_numbered card.height n tuning packet, hears_numbered card.height m tuning packet)
    (turn_same pid n m past few (hears card.height tuning 0 packet) same)

both_turn : (card : CardFields) (pid : ℕ) (packet : List ℕ) (past few : List (List ℕ)) → Agrees card pid past few →
    turns_at card few packet ≡ turns_at card past packet
unfolding turns_at
both_turn card pid packet past few agrees =
    ap (λ (tuning : Option Tuning). option_map_or
    (λ (t : Tuning). is_turn (heard card few) (hears card.height t (length few) packet)) tuning false) agrees.tuned
    ∙ both_turn_by card pid (length past) (length few) (tuning_of card.ca past) packet (heard card past)
    (heard card few) agrees.same

-- and none that is left out begins one
left_turn_by : (card : CardFields) (pid n : ℕ) (tuning : Option Tuning) (packet : List ℕ) (past : List Heard) →
    (pid_of packet == pid) ≡ false → speaks card tuning packet ≡ false →
    option_map_or (λ (t : Tuning). is_turn past (hears card.height t n packet)) tuning false ≡ false
left_turn_by card pid n None packet past off silent = refl
left_turn_by card pid n (Some tuning) packet past off silent =
    rw (hears_numbered card.height n tuning packet)
    (no_turn n past (hears card.height tuning 0 packet) (left_quiet card pid tuning packet off silent).nameless)

left_turn : (card : CardFields) (pid : ℕ) (packet : List ℕ) (past : List (List ℕ)) →
    (pid_of packet == pid) ≡ false → speaks card (tuning_of card.ca past) packet ≡ false →
    turns_at card past packet ≡ false
unfolding turns_at
left_turn card pid packet past off silent =
    left_turn_by card pid (length past) (tuning_of card.ca past) packet (heard card past) off silent

-- the runs before
abbrev EndsSo : CardFields → List (List ℕ) → List (List ℕ) → Type 0
EndsSo card past few = without_gaps (ended_before card few) ≡ without_gaps (ended_before card past)

if_turned : (turns mine : Bool) (a b c d : Ending) → mine ≡ turns → without_gaps a ≡ without_gaps c →
    without_gaps b ≡ without_gaps d →
    without_gaps (if mine then a else b) ≡ without_gaps (if turns then c else d)
if_turned true mine a b c d same first second = rw same first
if_turned false mine a b c d same first second = rw same second

both_end : (card : CardFields) (pid : ℕ) (packet : List ℕ) (past few : List (List ℕ)) → Agrees card pid past few →
    EndsSo card past few → EndsSo card (packet ∷ past) (packet ∷ few)
unfolding ended_before
both_end card pid packet past few agrees ends =
    if_turned (turns_at card past packet) (turns_at card few packet)
    (endings_joined (ended_before card few) (run_ending card (heard card few) (run_wrote card few)))
    (ended_before card few)
    (endings_joined (ended_before card past) (run_ending card (heard card past) (run_wrote card past)))
    (ended_before card past)
    (both_turn card pid packet past few agrees)
    (joined_same (ended_before card few) (run_ending card (heard card few) (run_wrote card few))
    (ended_before card past) (run_ending card (heard card past) (run_wrote card past)) ends
    (run_end_same pid card (heard card few) (heard card past) (run_wrote card few) (run_wrote card past) agrees.same))
    ends

left_end : (card : CardFields) (pid : ℕ) (packet : List ℕ) (past few : List (List ℕ)) →
    (pid_of packet == pid) ≡ false → speaks card (tuning_of card.ca past) packet ≡ false →
    EndsSo card past few → EndsSo card (packet ∷ past) few
unfolding ended_before
left_end card pid packet past few off silent ends = rw (left_turn card pid packet past off silent) ends

end_same : (card : CardFields) (pid : ℕ) (past few : List (List ℕ)) → Agrees card pid past few →
    EndsSo card past few → without_gaps (ending_of card few) ≡ without_gaps (ending_of card past)
unfolding ending_of
end_same card pid past few agrees ends =
    if_turned (is_none (tuning_of card.ca past)) (is_none (tuning_of card.ca few)) NoCat
    (endings_joined (ended_before card few) (run_ending card (heard card few) (run_wrote card few))) NoCat
    (endings_joined (ended_before card past) (run_ending card (heard card past) (run_wrote card past)))
    (ap {B = Bool} (λ (tuning : Option Tuning). is_none tuning) agrees.tuned) refl
    (joined_same (ended_before card few) (run_ending card (heard card few) (run_wrote card few))
    (ended_before card past) (run_ending card (heard card past) (run_wrote card past)) ends
    (run_end_same pid card (heard card few) (heard card past) (run_wrote card few) (run_wrote card past) agrees.same))

-- all packets one after the other
abbrev onto : List (List ℕ) → List (List ℕ) → List (List ℕ)
onto [] past = past
onto (packet ∷ packets) past = onto packets (packet ∷ past)

onto_is : (packets past : List (List ℕ)) → reverse packets ++ past ≡ onto packets past
onto_is [] past = refl
onto_is (packet ∷ packets) past = reversed packet packets past ∙ onto_is packets (packet ∷ past)

all_end : (card : CardFields) (pid : ℕ) (packets past few : List (List ℕ)) → Agrees card pid past few →
    EndsSo card past few →
    without_gaps (ending_of card (onto (packets_alone card pid past packets) few))
    ≡ without_gaps (ending_of card (onto packets past))
unfolding packets_alone
all_end card pid [] past few agrees ends = end_same card pid past few agrees ends
all_end card pid (packet ∷ packets) past few agrees ends =
    tested ((pid_of packet == pid) || speaks card (tuning_of card.ca past) packet)
    (λ taken. rw taken (all_end card pid packets (packet ∷ past) (packet ∷ few)
    (both_agree card pid packet past few agrees taken) (both_end card pid packet past few agrees ends)))
    (λ left.
    let apart = neither (pid_of packet == pid) (speaks card (tuning_of card.ca past) packet) left in
    rw left (all_end card pid packets (packet ∷ past) few
    (left_agree card pid packet past few agrees apart.0 apart.1)
    (left_end card pid packet past few apart.0 apart.1 ends)))

turned_onto : (packets : List (List ℕ)) → reverse packets ≡ onto packets []
turned_onto packets = sym (append-nil (reverse packets)) ∙ onto_is packets []

pub end_alone : (card : CardFields) (pid : ℕ) (packets : List (List ℕ)) →
    without_gaps (ending_of card (reverse (packets_alone card pid [] packets)))
    ≡ without_gaps (ending_of card (reverse packets))
end_alone card pid packets =
    ap (λ (past : List (List ℕ)). without_gaps (ending_of card past)) (turned_onto (packets_alone card pid [] packets))
    ∙ (all_end card pid packets [] [] (begin_agrees card pid) refl
    ∙ ap (λ (past : List (List ℕ)). without_gaps (ending_of card past)) (sym (turned_onto packets)))
