-- Broadcasts of which bits are changed that the head end doesn't read end as they were sent.
use Rattle.std.proofs.Common.{◌≡◌, refl, ℕ, suc, ◌+◌, ◌-◌, ◌*◌, ◌&&◌, ◌||◌, Bool, false, not, List, [], ◌∷◌, length}
use Rattle.std.proofs.Common.{map}
use Rattle.std.proofs.Common.{reverse, Option, ap, sym, ◌∙◌}
use Rattle.std.specs.Prelude.{◌<◌, ◌^◌, if◌then◌else◌, find, min}
use Rattle.std.specs.List.{list_any, range_with_len}
use Rattle.std.specs.Option.{option_map_or}
use Rattle.sd_message.specs.EmmForm.{sections_for}
use Rattle.sd_spec.specs.declared.ending.Ending.{Ending}
use Rattle.sd_spec.specs.declared.ending.Ending.TheVariants.{NoCat, Unclosed}
use Rattle.sd_spec.specs.Plan.{Plan, sets_at, period_of, closing_number}
use Rattle.sd_spec.specs.Sent.{Item, Cat, Entitles, Controls, Carries, is_cat_item}
use Rattle.sd_spec.specs.Ending.{ending_with, ending_of}
use Rattle.sd_law_broadcast.specs.Packets.{AreWholePackets}
use Rattle.sd_law_losses.specs.Kept.{after_cat, has_arrived, arrived, greatest_at_most, entitles, is_section_item}
use Rattle.sd_law_losses.specs.Confirmed.{confirmed}
use Rattle.sd_law_losses.specs.Endings.{period_told, periods_arrived, is_untold, has_all, closed_told, next_number}
use Rattle.sd_law_losses.specs.Endings.{ending_told}
use Rattle.sd_law_losses.specs.Channel.{Channel, AreRunsOf, channel_card}
use Rattle.sd_law_losses.specs.Many.{kept_of_arrival, has_cat}
use Rattle.sd_law_losses.specs.Ends.{is_message, is_told, endings_from, all_joined, ending_of_all}
use Rattle.sd_law_losses.proofs.Finishing.{runs_end}
use Rattle.sd_law_losses.specs.Channel.{channel_card}
use Rattle.sd_law_contained.specs.Changed.{all_changed, AreHarmless, Damaged, AreAllHarmless, runs_sent}
use Rattle.sd_law_contained.specs.Changed.{run_changed, runs_changed, arriving_changed, masks_confirmed}
use Rattle.sd_law_contained.proofs.Endings.{find_same}
use Rattle.sd_law_contained.proofs.Alike.{alike_length}
use Rattle.sd_law_contained.proofs.Changing.{all_alike, item_changed, items_changed}
use Rattle.sd_law_contained.proofs.Running.{runs_taken, arrive_changed}
use Rattle.sd_law_contained.proofs.Confirming.{any_same, all_same, arrived_one, arrived_same, entitles_same}
use Rattle.sd_law_contained.proofs.Confirming.{things_kept}
use Rattle.sd_law_contained.proofs.Confirming.{cat_items, cat_same, has_cat_same, confirmed_one}

-- as many are confirmed
as_many : (packets masks : List (List ℕ)) → length (all_changed packets masks) ≡ length packets
as_many [] masks = refl
as_many (packet ∷ packets) [] = refl
as_many (packet ∷ packets) (mask ∷ masks) = ap suc (as_many packets masks)

-- the same periods are told, and the same of their sections
periods_same : (plan : Plan) (clear other masks : List (List ℕ)) (kept : List Item) → length other ≡ length clear →
    periods_arrived plan other (items_changed masks kept) ≡ periods_arrived plan clear kept
unfolding periods_arrived
periods_same plan clear other masks kept long =
    ap (λ (n : ℕ). map (λ a. period_of plan (min (a * plan.site.every) (n - 1)))
    (arrived (closing_number plan.site n) (items_changed masks kept))) long
    ∙ ap (map (period_told plan clear)) (arrived_same masks kept (closing_number plan.site (length clear)))

untold_same : (masks : List (List ℕ)) (plan : Plan) (u : ℕ) (kept : List Item) (q : ℕ) →
    is_untold plan u (items_changed masks kept) q ≡ is_untold plan u kept q
untold_same masks plan u kept q =
    ap not (any_same masks (entitles plan.site.height u q) (entitles plan.site.height u q) kept
    (entitles_same masks plan.site.height u q))

section_same : (masks : List (List ℕ)) (q x : ℕ) (item : Item) →
    is_section_item q x (item_changed masks item) ≡ is_section_item q x item
section_same masks q x Cat = refl
section_same masks q x (Entitles emm) = refl
section_same masks q x (Controls part) = refl
section_same masks q x (Carries j packet) = refl

all_sections : (masks : List (List ℕ)) (plan : Plan) (kept : List Item) (q : ℕ) →
    has_all plan (items_changed masks kept) q ≡ has_all plan kept q
unfolding has_all
all_sections masks plan kept q =
    all_same (λ x. list_any (is_section_item q x) (items_changed masks kept)) (λ x. list_any (is_section_item q x) kept)
    (range_with_len 0 (sections_for (length (sets_at plan q))))
    (λ x. any_same masks (is_section_item q x) (is_section_item q x) kept (section_same masks q x))

both_same : (masks : List (List ℕ)) (plan : Plan) (u : ℕ) (kept : List Item) (q : ℕ) →
    (is_untold plan u (items_changed masks kept) q && has_all plan (items_changed masks kept) q)
    ≡ (is_untold plan u kept q && has_all plan kept q)
both_same masks plan u kept q =
    ap (λ (b : Bool). b && has_all plan (items_changed masks kept) q) (untold_same masks plan u kept q)
    ∙ ap (λ (b : Bool). is_untold plan u kept q && b) (all_sections masks plan kept q)

closed_same : (plan : Plan) (u : ℕ) (clear other masks : List (List ℕ)) (kept : List Item) (m n : ℕ) →
    length other ≡ length clear → m ≡ n →
    closed_told plan u other (items_changed masks kept) m ≡ closed_told plan u clear kept n
unfolding closed_told
closed_same plan u clear other masks kept m n long same =
    let these : List Item = items_changed masks kept in
    let revoked : find (λ q. is_untold plan u these q && has_all plan these q) (periods_arrived plan other these)
    ≡ find (λ q. is_untold plan u kept q && has_all plan kept q) (periods_arrived plan clear kept) =
    find_same (λ q. is_untold plan u these q && has_all plan these q)
    (λ q. is_untold plan u kept q && has_all plan kept q) (both_same masks plan u kept)
    (periods_arrived plan other these)
    ∙ ap (find (λ q. is_untold plan u kept q && has_all plan kept q)) (periods_same plan clear other masks kept long) in
    let unheard : find (is_untold plan u these) (periods_arrived plan other these)
    ≡ find (is_untold plan u kept) (periods_arrived plan clear kept) =
    find_same (is_untold plan u these) (is_untold plan u kept) (untold_same masks plan u kept)
    (periods_arrived plan other these)
    ∙ ap (find (is_untold plan u kept)) (periods_same plan clear other masks kept long) in
    ap (λ (q : Option ℕ). ending_with q (find (is_untold plan u these) (periods_arrived plan other these))
    (length other - m)) revoked
    ∙ (ap (λ (q : Option ℕ). ending_with (find (λ x. is_untold plan u kept x && has_all plan kept x)
    (periods_arrived plan clear kept)) q (length other - m)) unheard
    ∙ (ap (λ (k : ℕ). ending_with (find (λ x. is_untold plan u kept x && has_all plan kept x)
    (periods_arrived plan clear kept)) (find (is_untold plan u kept) (periods_arrived plan clear kept)) (k - m)) long
    ∙ ap (λ (k : ℕ). ending_with (find (λ x. is_untold plan u kept x && has_all plan kept x)
    (periods_arrived plan clear kept)) (find (is_untold plan u kept) (periods_arrived plan clear kept))
    (length clear - k)) same))

next_same : (plan : Plan) (clear other masks : List (List ℕ)) (kept : List Item) → length other ≡ length clear →
    next_number plan other (items_changed masks kept) ≡ next_number plan clear kept
unfolding next_number
next_same plan clear other masks kept long =
    ap (λ (n : ℕ). option_map_or (λ a. a + 1) (greatest_at_most (closing_number plan.site n)
    (arrived (closing_number plan.site n) (items_changed masks kept))) 0) long
    ∙ ap (λ (ms : List ℕ). option_map_or (λ a. a + 1) (greatest_at_most (closing_number plan.site (length clear)) ms) 0)
    (arrived_same masks kept (closing_number plan.site (length clear)))

closing_same : (plan : Plan) (clear other masks : List (List ℕ)) (kept : List Item) → length other ≡ length clear →
    has_arrived (items_changed masks kept) (closing_number plan.site (length other))
    ≡ has_arrived kept (closing_number plan.site (length clear))
closing_same plan clear other masks kept long =
    ap (λ (n : ℕ). has_arrived (items_changed masks kept) (closing_number plan.site n)) long
    ∙ arrived_one masks kept (closing_number plan.site (length clear))

-- how one broadcast ends
told_by : (cat some closed all : Bool) (a b c d : Ending) → some ≡ cat → all ≡ closed → c ≡ a → d ≡ b →
    (if some then (if all then c else d) else NoCat) ≡ (if cat then (if closed then a else b) else NoCat)
told_by cat some closed all a b c d e f g h = rw (e, f, g, h) refl

told_same : (plan : Plan) (u : ℕ) (clear other masks : List (List ℕ)) (kept : List Item) → length other ≡ length clear →
    length (confirmed plan u other (items_changed masks kept)) ≡ length (confirmed plan u clear kept) →
    ending_told plan u other (items_changed masks kept) ≡ ending_told plan u clear kept
unfolding ending_told
told_same plan u clear other masks kept long many =
    let these : List Item = after_cat (items_changed masks kept) in
    let is_these : these ≡ items_changed masks (after_cat kept) = cat_items masks kept in
    told_by (list_any is_cat_item kept) (list_any is_cat_item (items_changed masks kept))
    (has_arrived (after_cat kept) (closing_number plan.site (length clear)))
    (has_arrived these (closing_number plan.site (length other)))
    (closed_told plan u clear (after_cat kept) (length (confirmed plan u clear kept)))
    (Unclosed (next_number plan clear (after_cat kept)))
    (closed_told plan u other these (length (confirmed plan u other (items_changed masks kept))))
    (Unclosed (next_number plan other these))
    (any_same masks is_cat_item is_cat_item kept (cat_same masks))
    (ap (λ (items : List Item). has_arrived items (closing_number plan.site (length other))) is_these
    ∙ closing_same plan clear other masks (after_cat kept) long)
    (ap (λ (items : List Item). closed_told plan u other items
    (length (confirmed plan u other (items_changed masks kept)))) is_these
    ∙ closed_same plan u clear other masks (after_cat kept) (length (confirmed plan u other (items_changed masks kept)))
    (length (confirmed plan u clear kept)) long many)
    (ap (λ (items : List Item). Unclosed (next_number plan other items)) is_these
    ∙ ap (λ (n : ℕ). Unclosed n) (next_same plan clear other masks (after_cat kept) long))

one_end : (tuned : Bool) (u : ℕ) (one : Damaged) → AreWholePackets one.run.clear →
    AreHarmless [] one.run.clear one.masks →
    ending_told one.run.plan u (all_changed one.run.clear one.masks) (kept_of_arrival tuned (run_changed one))
    ≡ ending_told one.run.plan u one.run.clear (kept_of_arrival tuned one.run)
one_end tuned u one whole harmless =
    let other : List (List ℕ) = all_changed one.run.clear one.masks in
    let kept : List Item = kept_of_arrival tuned one.run in
    let is_kept : kept_of_arrival tuned (run_changed one) ≡ items_changed one.masks kept =
    things_kept tuned one whole harmless in
    ap (ending_told one.run.plan u other) is_kept
    ∙ told_same one.run.plan u one.run.clear other one.masks kept
    (alike_length one.run.clear other (all_alike [] one.run.clear one.masks harmless))
    (ap (λ (items : List Item). length (confirmed one.run.plan u other items)) (sym is_kept)
    ∙ (ap (λ (ps : List (List ℕ)). length ps) (confirmed_one tuned u one whole harmless)
    ∙ as_many (confirmed one.run.plan u one.run.clear kept) (masks_confirmed tuned u one)))

message_stays : (masks : List (List ℕ)) (item : Item) → is_message (item_changed masks item) ≡ is_message item
message_stays masks Cat = refl
message_stays masks (Entitles emm) = refl
message_stays masks (Controls part) = refl
message_stays masks (Carries j packet) = refl

heard_same : (tuned : Bool) (one : Damaged) → AreWholePackets one.run.clear → AreHarmless [] one.run.clear one.masks →
    is_told tuned (run_changed one) ≡ is_told tuned one.run
heard_same tuned one whole harmless =
    ap (λ (items : List Item). list_any is_message (after_cat items)) (things_kept tuned one whole harmless)
    ∙ (ap (list_any is_message) (cat_items one.masks (kept_of_arrival tuned one.run))
    ∙ any_same one.masks is_message is_message (after_cat (kept_of_arrival tuned one.run)) (message_stays one.masks))

-- and all of them
ends_by : (told all : Bool) (a b : Ending) (rest more : List Ending) → all ≡ told → b ≡ a → more ≡ rest →
    (if all then b ∷ more else more) ≡ (if told then a ∷ rest else rest)
ends_by told all a b rest more e f g = rw (e, f, g) refl

all_ends : (channel : Channel) (tuned : Bool) (u : ℕ) (damaged : List Damaged) →
    AreRunsOf channel (runs_sent damaged) → AreAllHarmless damaged →
    endings_from tuned u (runs_changed damaged) ≡ endings_from tuned u (runs_sent damaged)
all_ends channel tuned u [] are harmless = refl
all_ends channel tuned u (one ∷ more) are harmless =
    ends_by (is_told tuned one.run) (is_told tuned (run_changed one))
    (ending_told one.run.plan u one.run.clear (kept_of_arrival tuned one.run))
    (ending_told one.run.plan u (all_changed one.run.clear one.masks) (kept_of_arrival tuned (run_changed one)))
    (endings_from (tuned || has_cat one.run) u (runs_sent more))
    (endings_from (tuned || has_cat (run_changed one)) u (runs_changed more))
    (heard_same tuned one are.0.whole harmless.0) (one_end tuned u one are.0.whole harmless.0)
    (ap (λ (cat : Bool). endings_from (tuned || cat) u (runs_changed more))
    (has_cat_same one are.0.whole harmless.0)
    ∙ all_ends channel (tuned || has_cat one.run) u more are.2 harmless.1)

some_cat : (channel : Channel) (damaged : List Damaged) → AreRunsOf channel (runs_sent damaged) →
    AreAllHarmless damaged → list_any has_cat (runs_changed damaged) ≡ list_any has_cat (runs_sent damaged)
some_cat channel [] are harmless = refl
some_cat channel (one ∷ more) are harmless =
    ap (λ (b : Bool). b || list_any has_cat (runs_changed more)) (has_cat_same one are.0.whole harmless.0)
    ∙ ap (λ (b : Bool). has_cat one.run || b) (some_cat channel more are.2 harmless.1)

pub ends_same : (channel : Channel) (damaged : List Damaged) (u : ℕ) → AreRunsOf channel (runs_sent damaged) →
    AreAllHarmless damaged → ending_of_all u (runs_changed damaged) ≡ ending_of_all u (runs_sent damaged)
ends_same channel damaged u are harmless =
    ap (λ (b : Bool). if b then all_joined (endings_from false u (runs_changed damaged)) else NoCat)
    (some_cat channel damaged are harmless)
    ∙ ap (λ (es : List Ending). if list_any has_cat (runs_sent damaged) then all_joined es else NoCat)
    (all_ends channel false u damaged are harmless)

pub end_changed : (channel : Channel) (damaged : List Damaged) (u : ℕ) → AreRunsOf channel (runs_sent damaged) →
    AreAllHarmless damaged → u < 2 ^ channel.height →
    ending_of (channel_card channel u) (reverse (arriving_changed damaged)) ≡ ending_of_all u (runs_sent damaged)
end_changed channel damaged u are harmless leaf =
    ap (λ (ps : List (List ℕ)). ending_of (channel_card channel u) (reverse ps))
    (sym (arrive_changed channel damaged are harmless))
    ∙ (runs_end channel (runs_changed damaged) u (runs_taken channel damaged are harmless) leaf
    ∙ ends_same channel damaged u are harmless)
