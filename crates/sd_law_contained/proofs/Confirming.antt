-- Of a changed clear stream the same packets are confirmed.
use Rattle.std.proofs.Common.{◌≡◌, refl, ℕ, zero, suc, ◌+◌, ◌-◌, ◌*◌, ◌/◌, ◌^◌, ◌<◌, ◌==◌, ◌&&◌, ◌||◌, ◌++◌, Bool}
use Rattle.std.proofs.Common.{true, false, not, List}
use Rattle.std.proofs.Common.{[], ◌∷◌, length, map, Option, Some, None, ap, sym, ◌∙◌}
use Rattle.std.specs.Prelude.{if◌then◌else◌, nat_le, get_or, take, filter, min}
use Rattle.std.specs.List.{list_any, list_all, range_with_len}
use Rattle.std.proofs.lemmas.List.Elements.{filter_agree}
use Rattle.sd_packet.specs.Header.{pid_of}
use Rattle.sd_packet.specs.Positions.{position_of, moved_by}
use Rattle.sd_spec.specs.declared.kind.Kind.{Kind}
use Rattle.sd_spec.specs.Plan.{Plan, since_of, period_of, closing_number}
use Rattle.sd_spec.specs.Kinds.{kind_of, is_scrambled}
use Rattle.sd_spec.specs.Sent.{Item, Cat, Entitles, Controls, Carries, is_cat_item}
use Rattle.sd_spec.specs.Offered.{most_held, out_from, break_from}
use Rattle.sd_spec.specs.Counting.{counting}
use Rattle.sd_law_broadcast.specs.Packets.{AreWholePackets}
use Rattle.sd_law_losses.specs.Chosen.{chosen}
use Rattle.sd_law_losses.specs.Kept.{after_cat, is_carried, is_kept, kept_in, is_part, has_parts, has_arrived, arrived}
use Rattle.sd_law_losses.specs.Kept.{greatest_at_most, least_above, entitles, is_last_part, is_entitled_before}
use Rattle.sd_law_losses.specs.Confirmed.{packet_at, packets_at, upto, kept_between, is_open, tracked_position}
use Rattle.sd_law_losses.specs.Confirmed.{is_traced}
use Rattle.sd_law_losses.specs.Confirmed.{is_written_between, between, is_confirmed_at, confirmed}
use Rattle.sd_law_losses.specs.Channel.{Channel, AreRunsOf, channel_card}
use Rattle.sd_law_losses.specs.Many.{flags_after, kept_of_arrival, has_cat, confirmed_from}
use Rattle.sd_law_losses.proofs.Finishing.{runs_break, runs_out}
use Rattle.sd_law_contained.specs.Contained.{IsContained}
use Rattle.sd_law_losses.specs.Channel.{channel_card}
use Rattle.sd_law_contained.proofs.Written.{those_on}
use Rattle.sd_law_contained.proofs.Contained.{out_contained}
use Rattle.sd_law_contained.specs.Changed.{changed_by, all_changed, AreHarmless, Damaged, AreAllHarmless, runs_sent}
use Rattle.sd_law_contained.specs.Changed.{run_changed, runs_changed, arriving_changed, masks_confirmed}
use Rattle.sd_law_contained.specs.Changed.{confirmed_changed}
use Rattle.sd_law_contained.proofs.Masks.{changed_none}
use Rattle.sd_law_contained.proofs.Alike.{AreAlike, alike_length, alike_first, alike_at, same_moved_by}
use Rattle.sd_law_contained.proofs.Alike.{same_position, same_kind}
use Rattle.sd_law_contained.proofs.Changing.{all_alike, item_changed, items_changed, things, things_changed}
use Rattle.sd_law_contained.proofs.Running.{runs_taken, arrive_changed}

-- what is kept
chosen_items : (masks : List (List ℕ)) (flags : List Bool) (items : List Item) →
    chosen flags (items_changed masks items) ≡ items_changed masks (chosen flags items)
unfolding chosen
chosen_items masks [] items = refl
chosen_items masks (flag ∷ flags) [] = refl
chosen_items masks (true ∷ flags) (item ∷ items) =
    ap (λ (is : List Item). item_changed masks item ∷ is) (chosen_items masks flags items)
chosen_items masks (false ∷ flags) (item ∷ items) = chosen_items masks flags items

pub cat_items : (masks : List (List ℕ)) (kept : List Item) →
    after_cat (items_changed masks kept) ≡ items_changed masks (after_cat kept)
unfolding after_cat
cat_items masks [] = refl
cat_items masks (Cat ∷ kept) = refl
cat_items masks (Entitles emm ∷ kept) = cat_items masks kept
cat_items masks (Controls part ∷ kept) = cat_items masks kept
cat_items masks (Carries j packet ∷ kept) = cat_items masks kept

-- tests that don't look at packets
pub any_same : (masks : List (List ℕ)) (f g : Item → Bool) (items : List Item) →
    ((item : Item) → f (item_changed masks item) ≡ g item) →
    list_any f (items_changed masks items) ≡ list_any g items
any_same masks f g [] each = refl
any_same masks f g (item ∷ items) each =
    ap (λ (b : Bool). b || list_any f (items_changed masks items)) (each item)
    ∙ ap (λ (b : Bool). g item || b) (any_same masks f g items each)

pub all_same : {X : Type 0} (f g : X → Bool) (xs : List X) → ((x : X) → f x ≡ g x) → list_all f xs ≡ list_all g xs
all_same f g [] each = refl
all_same f g (x ∷ xs) each =
    ap (λ (b : Bool). b && list_all f xs) (each x) ∙ ap (λ (b : Bool). g x && b) (all_same f g xs each)

carried_same : (masks : List (List ℕ)) (j : ℕ) (item : Item) → is_carried j (item_changed masks item) ≡ is_carried j
    item
carried_same masks j Cat = refl
carried_same masks j (Entitles emm) = refl
carried_same masks j (Controls part) = refl
carried_same masks j (Carries i packet) = refl

pub kept_same : (masks : List (List ℕ)) (kept : List Item) (j : ℕ) →
    is_kept (items_changed masks kept) j ≡ is_kept kept j
kept_same masks kept j = any_same masks (is_carried j) (is_carried j) kept (carried_same masks j)

part_same : (masks : List (List ℕ)) (a x : ℕ) (item : Item) → is_part a x (item_changed masks item) ≡ is_part a x item
part_same masks a x Cat = refl
part_same masks a x (Entitles emm) = refl
part_same masks a x (Controls part) = refl
part_same masks a x (Carries i packet) = refl

parts_same : (masks : List (List ℕ)) (kept : List Item) (a : ℕ) (item : Item) →
    has_parts (items_changed masks kept) a (item_changed masks item) ≡ has_parts kept a item
parts_same masks kept a Cat = refl
parts_same masks kept a (Entitles emm) = refl
parts_same masks kept a (Controls part) =
    ap (λ (b : Bool). (part.number == a) && b)
    (all_same (λ x. list_any (is_part a x) (items_changed masks kept)) (λ x. list_any (is_part a x) kept)
    (range_with_len 0 (part.last_part + 1))
    (λ x. any_same masks (is_part a x) (is_part a x) kept (part_same masks a x)))
parts_same masks kept a (Carries i packet) = refl

pub arrived_one : (masks : List (List ℕ)) (kept : List Item) (a : ℕ) →
    has_arrived (items_changed masks kept) a ≡ has_arrived kept a
unfolding has_arrived
arrived_one masks kept a =
    any_same masks (has_parts (items_changed masks kept) a) (has_parts kept a) kept (parts_same masks kept a)

pub arrived_same : (masks : List (List ℕ)) (kept : List Item) (last : ℕ) →
    arrived last (items_changed masks kept) ≡ arrived last kept
unfolding arrived
arrived_same masks kept last =
    filter_agree (has_arrived (items_changed masks kept)) (has_arrived kept) (arrived_one masks kept)
    (range_with_len 0 (last + 1))

last_same : (masks : List (List ℕ)) (a : ℕ) (item : Item) →
    is_last_part a (item_changed masks item) ≡ is_last_part a item
last_same masks a Cat = refl
last_same masks a (Entitles emm) = refl
last_same masks a (Controls part) = refl
last_same masks a (Carries i packet) = refl

pub entitles_same : (masks : List (List ℕ)) (h u q : ℕ) (item : Item) →
    entitles h u q (item_changed masks item) ≡ entitles h u q item
entitles_same masks h u q Cat = refl
entitles_same masks h u q (Entitles emm) = refl
entitles_same masks h u q (Controls part) = refl
entitles_same masks h u q (Carries i packet) = refl

entitled_by : (last other entitled also later some rest more : Bool) → other ≡ last → also ≡ entitled → some ≡ later →
    more ≡ rest →
    (if other then false else (also && some) || more) ≡ (if last then false else (entitled && later) || rest)
entitled_by last other entitled also later some rest more a b c d = rw (a, b, c, d) refl

entitled_same : (masks : List (List ℕ)) (h u q a : ℕ) (kept : List Item) →
    is_entitled_before h u q a (items_changed masks kept) ≡ is_entitled_before h u q a kept
unfolding is_entitled_before
entitled_same masks h u q a [] = refl
entitled_same masks h u q a (item ∷ kept) =
    entitled_by (is_last_part a item) (is_last_part a (item_changed masks item)) (entitles h u q item)
    (entitles h u q (item_changed masks item)) (list_any (is_last_part a) kept)
    (list_any (is_last_part a) (items_changed masks kept)) (is_entitled_before h u q a kept)
    (is_entitled_before h u q a (items_changed masks kept)) (last_same masks a item) (entitles_same masks h u q item)
    (any_same masks (is_last_part a) (is_last_part a) kept (last_same masks a)) (entitled_same masks h u q a kept)

-- between two messages
upto_same : (plan : Plan) (clear other : List (List ℕ)) (b : ℕ) → AreAlike clear other →
    upto plan other b ≡ upto plan clear b
upto_same plan clear other b are = ap (min (b * plan.site.every)) (alike_length clear other are)

between_kept : (plan : Plan) (clear other masks : List (List ℕ)) (kept : List Item) (a b : ℕ) → AreAlike clear other →
    kept_between plan other (items_changed masks kept) a b ≡ kept_between plan clear kept a b
unfolding kept_in
between_kept plan clear other masks kept a b are =
    filter_agree (is_kept (items_changed masks kept)) (is_kept kept) (kept_same masks kept)
    (range_with_len (a * plan.site.every) (upto plan other b - a * plan.site.every))
    ∙ ap (λ (n : ℕ). filter (is_kept kept) (range_with_len (a * plan.site.every) (n - a * plan.site.every)))
    (upto_same plan clear other b are)

open_by : (near entitled also : Bool) (n k : ℕ) → also ≡ entitled → k ≡ n →
    (near && (also && nat_le k most_held)) ≡ (near && (entitled && nat_le n most_held))
open_by near entitled also n k a b = rw (a, b) refl

open_same : (plan : Plan) (u : ℕ) (clear other masks : List (List ℕ)) (kept : List Item) (a b : ℕ) →
    AreAlike clear other → is_open plan u other (items_changed masks kept) a b ≡ is_open plan u clear kept a b
unfolding is_open
open_same plan u clear other masks kept a b are =
    open_by (nat_le (since_of plan.site.messages plan.site.cryptos b) a)
    (is_entitled_before plan.site.height u (period_of plan (a * plan.site.every)) a kept)
    (is_entitled_before plan.site.height u (period_of plan (a * plan.site.every)) a (items_changed masks kept))
    (length (kept_between plan clear kept a b)) (length (kept_between plan other (items_changed masks kept) a b))
    (entitled_same masks plan.site.height u (period_of plan (a * plan.site.every)) a kept)
    (ap (λ (js : List ℕ). length js) (between_kept plan clear other masks kept a b are))

at_alike : (clear other : List (List ℕ)) (js : List ℕ) → AreAlike clear other →
    AreAlike (packets_at clear js) (packets_at other js)
at_alike clear other [] are = tt
at_alike clear other (j ∷ js) are = (alike_at j clear other are, at_alike clear other js are)

tracked_same : (plan : Plan) (clear other masks : List (List ℕ)) (kept : List Item) (a b pid : ℕ) →
    AreAlike clear other →
    tracked_position plan other (items_changed masks kept) a b pid ≡ tracked_position plan clear kept a b pid
unfolding tracked_position
tracked_same plan clear other masks kept a b pid are =
    let n : ℕ = a * plan.site.every in
    ap (λ (js : List ℕ). moved_by pid (position_of pid (take n other)) (packets_at other js))
    (between_kept plan clear other masks kept a b are)
    ∙ (ap (λ (p : ℕ). moved_by pid p (packets_at other (kept_between plan clear kept a b)))
    (same_position pid (take n clear) (take n other) (alike_first n clear other are))
    ∙ same_moved_by pid (position_of pid (take n clear)) (packets_at clear (kept_between plan clear kept a b))
    (packets_at other (kept_between plan clear kept a b))
    (at_alike clear other (kept_between plan clear kept a b) are))

near_by : (near other at here : ℕ) → other ≡ near → here ≡ at →
    (nat_le other here && nat_le here (other + 15)) ≡ (nat_le near at && nat_le at (near + 15))
near_by near other at here a b = rw (a, b) refl

end_same : (plan : Plan) (clear other : List (List ℕ)) (b pid : ℕ) → AreAlike clear other →
    position_of pid (take (upto plan other b) other) ≡ position_of pid (take (upto plan clear b) clear)
end_same plan clear other b pid are =
    ap (λ (n : ℕ). position_of pid (take n other)) (upto_same plan clear other b are)
    ∙ same_position pid (take (upto plan clear b) clear) (take (upto plan clear b) other)
    (alike_first (upto plan clear b) clear other are)

traced_same : (plan : Plan) (clear other masks : List (List ℕ)) (kept : List Item) (a b pid : ℕ) →
    AreAlike clear other →
    is_traced plan other (items_changed masks kept) a b pid ≡ is_traced plan clear kept a b pid
unfolding is_traced
traced_same plan clear other masks kept a b pid are =
    near_by (tracked_position plan clear kept a b pid) (tracked_position plan other (items_changed masks kept) a b pid)
    (position_of pid (take (upto plan clear b) clear)) (position_of pid (take (upto plan other b) other))
    (tracked_same plan clear other masks kept a b pid are) (end_same plan clear other b pid are)

written_by : (may also : Bool) (kind same : Kind) (traced more : Bool) → also ≡ may → same ≡ kind → more ≡ traced →
    (also && (not (is_scrambled same) || more)) ≡ (may && (not (is_scrambled kind) || traced))
written_by may also kind same traced more a b c = rw (a, b, c) refl

written_same : (plan : Plan) (u : ℕ) (clear other masks : List (List ℕ)) (kept : List Item) (j a b : ℕ) →
    AreAlike clear other →
    is_written_between plan u other (items_changed masks kept) j a b ≡ is_written_between plan u clear kept j a b
written_same plan u clear other masks kept j a b are =
    let alike = alike_at j clear other are in
    written_by (is_open plan u clear kept a b) (is_open plan u other (items_changed masks kept) a b)
    (kind_of (take j clear) (packet_at clear j)) (kind_of (take j other) (packet_at other j))
    (is_traced plan clear kept a b (pid_of (packet_at clear j)))
    (is_traced plan other (items_changed masks kept) a b (pid_of (packet_at other j)))
    (open_same plan u clear other masks kept a b are)
    (same_kind (take j clear) (take j other) (packet_at clear j) (packet_at other j) (alike_first j clear other are)
    alike)
    (ap (is_traced plan other (items_changed masks kept) a b) alike.pid
    ∙ traced_same plan clear other masks kept a b (pid_of (packet_at clear j)) are)

between_same : (low high : Option ℕ) (f g : ℕ → ℕ → Bool) → ((a b : ℕ) → f a b ≡ g a b) →
    between low high f ≡ between low high g
between_same None high f g each = refl
between_same (Some a) None f g each = refl
between_same (Some a) (Some b) f g each = each a b

confirmed_at : (plan : Plan) (u : ℕ) (clear other masks : List (List ℕ)) (kept : List Item) (j : ℕ) →
    AreAlike clear other →
    is_confirmed_at plan u other (items_changed masks kept) j ≡ is_confirmed_at plan u clear kept j
unfolding is_confirmed_at
confirmed_at plan u clear other masks kept j are =
    let k : ℕ = j / plan.site.every in
    let these : List Item = items_changed masks kept in
    let messages : arrived (closing_number plan.site (length other)) these
    ≡ arrived (closing_number plan.site (length clear)) kept =
    ap (λ (n : ℕ). arrived (closing_number plan.site n) these) (alike_length clear other are)
    ∙ arrived_same masks kept (closing_number plan.site (length clear)) in
    ap (λ (b : Bool). b && between
    (greatest_at_most k (arrived (closing_number plan.site (length other)) these))
    (least_above k (arrived (closing_number plan.site (length other)) these)) (is_written_between plan u other these j))
    (kept_same masks kept j)
    ∙ (ap (λ (ms : List ℕ). is_kept kept j && between (greatest_at_most k ms) (least_above k ms)
    (is_written_between plan u other these j)) messages
    ∙ ap (λ (b : Bool). is_kept kept j && b)
    (between_same (greatest_at_most k (arrived (closing_number plan.site (length clear)) kept))
    (least_above k (arrived (closing_number plan.site (length clear)) kept)) (is_written_between plan u other these j)
    (is_written_between plan u clear kept j)
    (λ a b. written_same plan u clear other masks kept j a b are)))

-- the packets that are confirmed
at_changed : (clear masks : List (List ℕ)) (j : ℕ) →
    packet_at (all_changed clear masks) j ≡ changed_by (packet_at clear j) (get_or masks j [])
at_changed [] masks j = refl
at_changed (packet ∷ clear) [] j = sym (changed_none (get_or (packet ∷ clear) j []))
at_changed (packet ∷ clear) (mask ∷ masks) zero = refl
at_changed (packet ∷ clear) (mask ∷ masks) (suc j) = at_changed clear masks j

packets_changed_at : (clear masks : List (List ℕ)) (js : List ℕ) →
    packets_at (all_changed clear masks) js
    ≡ all_changed (packets_at clear js) (map (λ j. get_or masks j []) js)
packets_changed_at clear masks [] = refl
packets_changed_at clear masks (j ∷ js) =
    ap (λ (packet : List ℕ). packet ∷ packets_at (all_changed clear masks) js) (at_changed clear masks j)
    ∙ ap (λ (packets : List (List ℕ)). changed_by (packet_at clear j) (get_or masks j []) ∷ packets)
    (packets_changed_at clear masks js)

pub things_kept : (tuned : Bool) (one : Damaged) → AreWholePackets one.run.clear →
    AreHarmless [] one.run.clear one.masks →
    kept_of_arrival tuned (run_changed one) ≡ items_changed one.masks (kept_of_arrival tuned one.run)
things_kept tuned one whole harmless =
    ap (chosen (flags_after tuned one.run.flags)) (things_changed one.run.plan one.run.clear one.masks whole harmless)
    ∙ chosen_items one.masks (flags_after tuned one.run.flags) (things one.run.plan one.run.clear)

pub confirmed_one : (tuned : Bool) (u : ℕ) (one : Damaged) → AreWholePackets one.run.clear →
    AreHarmless [] one.run.clear one.masks →
    confirmed one.run.plan u (all_changed one.run.clear one.masks) (kept_of_arrival tuned (run_changed one))
    ≡ all_changed (confirmed one.run.plan u one.run.clear (kept_of_arrival tuned one.run)) (masks_confirmed tuned u one)
unfolding confirmed
confirmed_one tuned u one whole harmless =
    let plan : Plan = one.run.plan in
    let clear : List (List ℕ) = one.run.clear in
    let masks : List (List ℕ) = one.masks in
    let other : List (List ℕ) = all_changed clear masks in
    let are = all_alike [] clear masks harmless in
    let kept : List Item = after_cat (kept_of_arrival tuned one.run) in
    let is_kept : after_cat (kept_of_arrival tuned (run_changed one)) ≡ items_changed masks kept =
    ap after_cat (things_kept tuned one whole harmless) ∙ cat_items masks (kept_of_arrival tuned one.run) in
    ap (λ (items : List Item). packets_at other (filter (is_confirmed_at plan u other items)
    (range_with_len 0 (length other)))) is_kept
    ∙ (ap (λ (n : ℕ). packets_at other (filter (is_confirmed_at plan u other (items_changed masks kept))
    (range_with_len 0 n))) (alike_length clear other are)
    ∙ (ap (packets_at other) (filter_agree (is_confirmed_at plan u other (items_changed masks kept))
    (is_confirmed_at plan u clear kept) (λ j. confirmed_at plan u clear other masks kept j are)
    (range_with_len 0 (length clear)))
    ∙ packets_changed_at clear masks (filter (is_confirmed_at plan u clear kept) (range_with_len 0 (length clear)))))

-- the CAT is among the same
pub cat_same : (masks : List (List ℕ)) (item : Item) → is_cat_item (item_changed masks item) ≡ is_cat_item item
cat_same masks Cat = refl
cat_same masks (Entitles emm) = refl
cat_same masks (Controls part) = refl
cat_same masks (Carries j packet) = refl

pub has_cat_same : (one : Damaged) → AreWholePackets one.run.clear → AreHarmless [] one.run.clear one.masks →
    has_cat (run_changed one) ≡ has_cat one.run
has_cat_same one whole harmless =
    ap (list_any is_cat_item) (things_kept false one whole harmless)
    ∙ any_same one.masks is_cat_item is_cat_item (kept_of_arrival false one.run) (cat_same one.masks)

pub confirmed_all : (channel : Channel) (tuned : Bool) (u : ℕ) (damaged : List Damaged) →
    AreRunsOf channel (runs_sent damaged) → AreAllHarmless damaged →
    confirmed_from tuned u (runs_changed damaged) ≡ confirmed_changed tuned u damaged
confirmed_all channel tuned u [] are harmless = refl
confirmed_all channel tuned u (one ∷ more) are harmless =
    let first : List (List ℕ) = all_changed (confirmed one.run.plan u one.run.clear (kept_of_arrival tuned one.run))
    (masks_confirmed tuned u one) in
    ap (λ (ps : List (List ℕ)). ps ++ confirmed_from (tuned || has_cat (run_changed one)) u (runs_changed more))
    (confirmed_one tuned u one are.0.whole harmless.0)
    ∙ (ap (λ (cat : Bool). first ++ confirmed_from (tuned || cat) u (runs_changed more))
    (has_cat_same one are.0.whole harmless.0)
    ∙ ap (λ (ps : List (List ℕ)). first ++ ps)
    (confirmed_all channel (tuned || has_cat one.run) u more are.2 harmless.1))

-- what is written
pub out_changed : (channel : Channel) (damaged : List Damaged) (u : ℕ) → AreRunsOf channel (runs_sent damaged) →
    AreAllHarmless damaged → u < 2 ^ channel.height →
    out_from (channel_card channel u) [] (arriving_changed damaged) ≡ confirmed_changed false u damaged
out_changed channel damaged u are harmless leaf =
    ap (out_from (channel_card channel u) []) (sym (arrive_changed channel damaged are harmless))
    ∙ (runs_out channel (runs_changed damaged) u (runs_taken channel damaged are harmless) leaf
    ∙ confirmed_all channel false u damaged are harmless)

pub none_changed : (channel : Channel) (damaged : List Damaged) (u : ℕ) → AreRunsOf channel (runs_sent damaged) →
    AreAllHarmless damaged → u < 2 ^ channel.height →
    break_from (channel_card channel u) [] (arriving_changed damaged) ≡ None
none_changed channel damaged u are harmless leaf =
    ap (break_from (channel_card channel u) []) (sym (arrive_changed channel damaged are harmless))
    ∙ runs_break channel (runs_changed damaged) u (runs_taken channel damaged are harmless) leaf

-- and of a stream that is damaged in other ways too
pub changed_contained : (channel : Channel) (damaged : List Damaged) (u pid : ℕ) (packets : List (List ℕ)) →
    AreRunsOf channel (runs_sent damaged) → AreAllHarmless damaged →
    IsContained channel (runs_changed damaged) u pid packets →
    those_on pid (out_from (channel_card channel u) [] (counting (channel_card channel u) [] packets))
    ≡ confirmed_changed false u damaged
changed_contained channel damaged u pid packets are harmless is =
    out_contained channel (runs_changed damaged) u pid packets is ∙ confirmed_all channel false u damaged are harmless
