-- How whole broadcasts end together: each as by itself.
use Rattle.std.proofs.Common.{◌≡◌, refl, ℕ, ◌^◌, ◌<◌, ◌||◌, Bool, true, false, List, [], ◌∷◌, map, reverse, length}
use Rattle.std.proofs.Common.{Option, Some, None, sym, ap, ◌∙◌, subst}
use Rattle.std.specs.Prelude.{if◌then◌else◌}
use Rattle.std.specs.List.{list_any}
use Rattle.std.proofs.lemmas.Bool.{false≢true}
use Rattle.sd_base.proofs.Bools.{tested}
use Rattle.sd_spec.specs.Plan.{Plan, closing_number}
use Rattle.sd_spec.specs.Sent.{Item, Cat, Entitles, Controls, Carries, is_cat_item}
use Rattle.sd_spec.specs.declared.ending.Ending.{Ending}
use Rattle.sd_spec.specs.declared.ending.Ending.TheVariants.{Opened, Revoked, Unheard, NoCat, Unclosed, Gaps}
use Rattle.sd_spec.specs.Ending.{ending_of}
use Rattle.sd_spec.proofs.Runs.{opened_joins}
use Rattle.sd_law_losses.specs.Kept.{after_cat, has_parts, has_arrived}
use Rattle.sd_law_losses.specs.Confirmed.{confirmed}
use Rattle.sd_law_losses.specs.Endings.{closed_told, next_number, ending_told, first_revoked, whole_ending}
use Rattle.sd_law_losses.proofs.Tests.{none_weaker}
use Rattle.sd_law_losses.proofs.WholeEnding.{whole_ends}
use Rattle.sd_law_losses.specs.Together.{joined_to}
use Rattle.sd_law_losses.specs.Channel.{Arrival, Channel, AreRunsOf, IsRunOf, all_sent, channel_card}
use Rattle.sd_law_losses.specs.Many.{kept_of_arrival, has_cat}
use Rattle.sd_law_losses.specs.Ends.{is_message, is_told, endings_from, all_joined, whole_ending_of}
use Rattle.sd_law_losses.proofs.Runs.{begins_by}
use Rattle.sd_law_losses.proofs.Whole.{whole, wholes, whole_stream, whole_kept, are_whole}
use Rattle.sd_law_losses.proofs.Finishing.{runs_end}

-- where no message is kept none arrives
part_told : (kept : List Item) (a : ℕ) (item : Item) → is_message item ≡ false → has_parts kept a item ≡ false
part_told kept a Cat none = refl
part_told kept a (Entitles emm) none = refl
part_told kept a (Controls part) none = absurd (false≢true (sym none))
part_told kept a (Carries j packet) none = refl

none_arrived : (kept : List Item) (a : ℕ) → list_any is_message kept ≡ false → has_arrived kept a ≡ false
unfolding has_arrived
none_arrived kept a none = none_weaker (has_parts kept a) is_message kept (part_told kept a) none

-- a run without a message doesn't end as a whole one
abbrev pub is_finished : Ending → Bool
is_finished Opened = true
is_finished (Revoked q) = true
is_finished (Unheard q) = true
is_finished (Gaps n) = true
is_finished NoCat = false
is_finished (Unclosed n) = false

untold_ends : (plan : Plan) (u : ℕ) (clear : List (List ℕ)) (kept : List Item) →
    list_any is_message (after_cat kept) ≡ false → is_finished (ending_told plan u clear kept) ≡ false
unfolding ending_told
untold_ends plan u clear kept none =
    ap (λ (closed : Bool). is_finished (if list_any is_cat_item kept
    then (if closed then closed_told plan u clear (after_cat kept) (length (confirmed plan u clear kept))
    else Unclosed (next_number plan clear (after_cat kept))) else NoCat))
    (none_arrived (after_cat kept) (closing_number plan.site (length clear)) none)
    ∙ either (list_any is_cat_item kept)
  where
    either : (cat : Bool) →
        is_finished (if cat then Unclosed (next_number plan clear (after_cat kept)) else NoCat) ≡ false
    either true = refl
    either false = refl

whole_finished : (revoked : Option ℕ) → is_finished (whole_ending revoked) ≡ true
whole_finished None = refl
whole_finished (Some q) = refl

within : (channel : Channel) (run : Arrival) (u : ℕ) → IsRunOf channel run → u < 2 ^ channel.height →
    u < 2 ^ run.plan.site.height
within channel run u is leaf = subst (λ (h : ℕ). u < 2 ^ h) (sym is.height) leaf

-- a whole run ends as by itself
whole_told : (channel : Channel) (run : Arrival) (u : ℕ) (tuned : Bool) → IsRunOf channel run →
    u < 2 ^ channel.height →
    ending_told run.plan u run.clear (kept_of_arrival tuned (whole run)) ≡ whole_ending_of u run
whole_told channel run u tuned is leaf =
    ap (ending_told run.plan u run.clear) (whole_kept tuned run)
    ∙ whole_ends run.plan run.clear u is.plan is.sendable is.whole (within channel run u is leaf)

-- so the receiver is told of it
all_told : (channel : Channel) (run : Arrival) (u : ℕ) (tuned : Bool) → IsRunOf channel run →
    u < 2 ^ channel.height → is_told tuned (whole run) ≡ true
all_told channel run u tuned is leaf =
    tested (is_told tuned (whole run)) (λ told. told)
    (λ untold. absurd (false≢true (sym (untold_ends run.plan u run.clear (kept_of_arrival tuned (whole run)) untold)
    ∙ (ap is_finished (whole_told channel run u tuned is leaf) ∙ whole_finished (first_revoked run.plan u run.clear)))))

-- and has its CAT
whole_cat : (run : Arrival) → has_cat (whole run) ≡ true
whole_cat run =
    let begins = begins_by run.plan run.clear in
    ap (list_any is_cat_item) (whole_kept false run) ∙ ap (list_any is_cat_item) begins.1

whole_endings : (channel : Channel) (runs : List Arrival) (u : ℕ) (tuned : Bool) → AreRunsOf channel runs →
    u < 2 ^ channel.height → endings_from tuned u (wholes runs) ≡ map (whole_ending_of u) runs
whole_endings channel [] u tuned are leaf = refl
whole_endings channel (run ∷ runs) u tuned (is, others, rest) leaf =
    ap (λ (told : Bool). if told then ending_told run.plan u run.clear (kept_of_arrival tuned (whole run))
    ∷ endings_from (tuned || has_cat (whole run)) u (wholes runs)
    else endings_from (tuned || has_cat (whole run)) u (wholes runs)) (all_told channel run u tuned is leaf)
    ∙ (ap (λ (e : Ending). e ∷ endings_from (tuned || has_cat (whole run)) u (wholes runs))
    (whole_told channel run u tuned is leaf)
    ∙ ap (λ (es : List Ending). whole_ending_of u run ∷ es)
    (whole_endings channel runs u (tuned || has_cat (whole run)) rest leaf))

pub whole_end : (channel : Channel) (run : Arrival) (runs : List Arrival) (u : ℕ) → AreRunsOf channel (run ∷ runs) →
    u < 2 ^ channel.height →
    ending_of (channel_card channel u) (reverse (all_sent (run ∷ runs)))
    ≡ joined_to Opened (map (whole_ending_of u) (run ∷ runs))
whole_end channel run runs u are leaf =
    let es : List Ending = endings_from false u (wholes (run ∷ runs)) in
    ap (λ (packets : List (List ℕ)). ending_of (channel_card channel u) (reverse packets))
    (sym (whole_stream (run ∷ runs)))
    ∙ (runs_end channel (wholes (run ∷ runs)) u (are_whole channel (run ∷ runs) are) leaf
    ∙ (ap (λ (cat : Bool). if cat || list_any has_cat (wholes runs) then all_joined es else NoCat) (whole_cat run)
    ∙ (ap all_joined (whole_endings channel (run ∷ runs) u false are leaf)
    ∙ ap (λ (e : Ending). joined_to e (map (whole_ending_of u) runs)) (sym (opened_joins (whole_ending_of u run))))))
