-- The periods of a broadcast, one after the other.
use Rattle.std.proofs.Common.{◌≡◌, ℕ, ◌+◌, ◌-◌, ◌*◌, ◌≤◌, min, List, [], ◌∷◌, ◌++◌, map, length}
use Rattle.std.proofs.Common.{append-nil, sym, ap, ◌∙◌}
use Rattle.std.specs.List.{concat, range_with_len, sum_by}
use Rattle.std.proofs.lemmas.List.{map-append}
use Rattle.std.proofs.lemmas.List.Folds.{concat-append}
use Rattle.std.proofs.lemmas.List.Sums.{sum_by_push}
use Rattle.sd_base.proofs.Ranges.{range_more}
use Rattle.sd_book.specs.Commands.{last_period, revoked}
use Rattle.sd_book.proofs.Cuts.{same_revoked}
use Rattle.sd_cover_tracing.specs.Cover.{cover_of}
use Rattle.sd_message.specs.EmmForm.{sections_for}
use Rattle.sd_spec.specs.Plan.{Plan, sets_at}
use Rattle.sd_run_books.specs.Air.{cryptos_in, line_at, plan_period_line, tables_in}

-- what is told of one period more
pub record OneMore (plan : Plan) (n before share : ℕ) (leaves : List ℕ) : Type 0 where
  pub leaves_are : leaves ≡ revoked plan.site.height plan.commands (plan.site.first_period + before)
  pub share_is : share ≡ cryptos_in plan n (plan.site.first_period + before)

pub one_more : (plan : Plan) (n before share : ℕ) (leaves : List ℕ) →
    before ≤ last_period plan.commands - plan.site.first_period →
    leaves ≡ revoked plan.site.height plan.commands
    (min plan.site.first_period (last_period plan.commands) + before) →
    share ≡ cryptos_in plan n (plan.site.first_period + before) → OneMore plan n before share leaves
one_more plan n before share leaves within are is = record {
  leaves_are = are ∙ same_revoked plan.site.height plan.site.first_period before plan.commands within;
  share_is = is;
}

-- its line
line_of : (plan : Plan) (n before share : ℕ) (leaves : List ℕ) → OneMore plan n before share leaves →
    plan_period_line (plan.site.first_period + before) (length leaves) (length (cover_of plan.site.height leaves))
    (sections_for (length (cover_of plan.site.height leaves))) share ≡ line_at plan n (plan.site.first_period + before)
unfolding sets_at
line_of plan n before share leaves one =
    ap (λ (xs : List ℕ). plan_period_line (plan.site.first_period + before) (length xs)
    (length (cover_of plan.site.height xs)) (sections_for (length (cover_of plan.site.height xs))) share) one.leaves_are
    ∙ ap (plan_period_line (plan.site.first_period + before)
    (length (revoked plan.site.height plan.commands (plan.site.first_period + before)))
    (length (sets_at plan (plan.site.first_period + before)))
    (sections_for (length (sets_at plan (plan.site.first_period + before))))) one.share_is

-- the text after it
pub text_more : (plan : Plan) (n before share : ℕ) (leaves text more : List ℕ) → OneMore plan n before share leaves →
    text ≡ concat (map (line_at plan n) (range_with_len plan.site.first_period before)) →
    more ≡ text ++ plan_period_line (plan.site.first_period + before) (length leaves)
    (length (cover_of plan.site.height leaves)) (sections_for (length (cover_of plan.site.height leaves))) share →
    more ≡ concat (map (line_at plan n) (range_with_len plan.site.first_period (before + 1)))
text_more plan n before share leaves text more one is pushed =
    let first = plan.site.first_period in
    let line = line_at plan n in
    pushed
    ∙ ap (λ (xs : List ℕ). text ++ xs) (line_of plan n before share leaves one)
    ∙ ap (λ (xs : List ℕ). xs ++ line (first + before)) is
    ∙ ap (λ (xs : List ℕ). concat (map line (range_with_len first before)) ++ xs)
    (sym (append-nil (line (first + before))))
    ∙ sym (concat-append (map line (range_with_len first before)) (line (first + before) ∷ []))
    ∙ ap concat (sym (map-append line (range_with_len first before) ((first + before) ∷ [])))
    ∙ ap (λ (qs : List ℕ). concat (map line qs)) (sym (range_more first before))

-- and the packets
pub tables_more : (plan : Plan) (n before share tables added : ℕ) (leaves : List ℕ) →
    OneMore plan n before share leaves →
    tables ≡ sum_by (tables_in plan n) (range_with_len plan.site.first_period before) →
    added ≡ share * (1 + sections_for (length (cover_of plan.site.height leaves))) →
    tables + added ≡ sum_by (tables_in plan n) (range_with_len plan.site.first_period (before + 1))
unfolding sets_at
tables_more plan n before share tables added leaves one is pushed =
    let first = plan.site.first_period in
    let of_leaves : added ≡ share * (1 + sections_for (length (sets_at plan (first + before)))) =
    pushed ∙ ap (λ (xs : List ℕ). share * (1 + sections_for (length (cover_of plan.site.height xs)))) one.leaves_are in
    let of_share : added ≡ tables_in plan n (first + before) =
    of_leaves ∙ ap (λ (s : ℕ). s * (1 + sections_for (length (sets_at plan (first + before))))) one.share_is in
    ap (λ (k : ℕ). k + added) is
    ∙ ap (λ (k : ℕ). sum_by (tables_in plan n) (range_with_len first before) + k) of_share
    ∙ sym (sum_by_push (tables_in plan n) (range_with_len first before) (first + before))
    ∙ ap (sum_by (tables_in plan n)) (sym (range_more first before))
