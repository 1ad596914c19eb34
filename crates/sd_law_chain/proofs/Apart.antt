-- Two broadcasts of a chain don't clash.
use Rattle.std.proofs.Common.{arith, ◌≡◌, ◌≢◌, ℕ, suc, zero, ◌-◌, ◌^◌, ◌<◌, ◌≤◌, List, length, Option, Some, None}
use Rattle.std.proofs.Common.{refl, ap, sym, subst, ◌∙◌, inl, inr, Bool}
use Rattle.std.specs.Prelude.{◌⊎◌, slice_get}
use Rattle.std.specs.List.{range_with_len}
use Rattle.std.specs.Option.{option_map, option_or}
use Rattle.std.proofs.lemmas.Bool.{cases_lt}
use Rattle.sd_book.specs.declared.command.Command.{Command}
use Rattle.sd_book.specs.Commands.{commands_until, is_revoked}
use Rattle.sd_spec.specs.Plan.{Plan}
use Rattle.sd_law_broadcast.specs.Runs.{AgreeOnPeriods, AllAgree, HasWords, Run}
use Rattle.sd_law_broadcast.proofs.Words.{at_place}
use Rattle.sd_command_base.specs.declared.status.Clash.{Clash as ClashKind}
use Rattle.sd_command_base.specs.declared.status.Clash.TheVariants.{Books}
use Rattle.sd_run_books.specs.Apart.{books_clash, clash_in, plan_clash, first_differing}
use Rattle.sd_run_books.specs.Apart.{differ, first_of, first_shared, last_due, shared_count, sites_clash}
use Rattle.sd_run_books.specs.Chain.{commands_said}
use Rattle.sd_law_plan.proofs.Clashes.{swapped_have_none, two_apart}
use Rattle.sd_law_plan.proofs.Found.{all_fail, same_no}
use Rattle.sd_law_plan.proofs.Ranges.{none_of}
use Rattle.sd_law_plan.proofs.Sites.{later_shares_none, pairs_have_none}
use Rattle.sd_law_chain.specs.Chain.{IsTrueChain, Call, HaveGrown, HaveOwnSites, IsChain, IsChainOnAir, Link, Next}
use Rattle.sd_law_chain.specs.Chain.{OnAir, Twin}
use Rattle.sd_law_chain.specs.Chain.{chain_book, plan_at, chain_plan, chain_run, runs_of, site_at}
use Rattle.sd_law_chain.proofs.Following.{next_is_above, plan_is}
use Rattle.sd_law_chain.proofs.Links.{next_link, some_call}
use Rattle.sd_law_chain.proofs.Meeting.{air_is_run, air_of}
use Rattle.sd_law_chain.proofs.Rising.{all_are_one_set, words_are_had, words_rise}

-- one book has no receiver that it revokes alone
one_book_agrees : (a b : Plan) (q : ℕ) → a.commands ≡ b.commands → clash_in a b q ≡ None
one_book_agrees a b q same =
    let test : ℕ → Bool = is_revoked (commands_until q a.commands) in
    let none : first_differing test test (2 ^ a.site.height) ≡ None =
    all_fail (λ u. differ (test u) (test u)) 0 (2 ^ a.site.height) (λ u low high. same_no (test u) (test u) refl) in
    ap (option_map (λ u. Books u q))
    (ap (λ (commands : List Command). first_differing test (is_revoked (commands_until q commands)) (2 ^ a.site.height))
    (sym same) ∙ none)

pub one_book_has_none : (a b : Plan) → a.commands ≡ b.commands → books_clash a b ≡ None
unfolding books_clash
one_book_has_none a b same =
    none_of (clash_in a b) (first_shared a b) (shared_count a b) (λ q low high. one_book_agrees a b q same)

-- nor have two plans that share no period
pub later_has_none : (a b : Plan) → last_due a < b.site.first_period → books_clash a b ≡ None
unfolding books_clash
later_has_none a b later =
    let none : shared_count a b ≡ 0 = omega (arith, later) in
    ap (λ (k : ℕ). first_of (clash_in a b) (range_with_len (first_shared a b) k)) none

-- a later site is for the same commands, or begins above all periods of the earlier one
abbrev SharesBook : Link → List Call → ℕ → ℕ → Type 0
SharesBook root calls i j =
    (commands_said (chain_book root calls i) ≡ commands_said (chain_book root calls j))
    ⊎ (last_due (plan_at root calls i) < (site_at root calls j).first_period)

shares_book : (root : Link) (calls : List Call) (i j : ℕ) → IsChain root calls → HaveGrown root calls → i ≤ j →
    j ≤ length calls → SharesBook root calls i j
shares_book root calls i zero is have low within =
    let same : i ≡ 0 = omega (arith, low) in
    inl (ap (λ (k : ℕ). commands_said (chain_book root calls k)) same)
shares_book root calls i (suc j) is have low within = elim (cases_lt j i) [
  | inl lt ↦
      let same : i ≡ suc j = omega (arith, low, lt) in
      inl (ap (λ (k : ℕ). commands_said (chain_book root calls k)) same)
  | inr le ↦
      let (call, at) = some_call calls j (omega (arith, within)) in
      by_call call at le (shares_book root calls i j is have le (omega (arith, within)))
]
  where
    by_call : (call : Call) → slice_get calls j ≡ Some call → i ≤ j → SharesBook root calls i j →
        SharesBook root calls i (suc j)
    by_call (Next bytes words) at le before =
        let last : suc j - 1 ≡ j = omega arith in
        inr (next_is_above root calls i (suc j) bytes is have (omega (arith, le))
        (words, omega arith, ap (slice_get calls) last ∙ at))
    by_call (Twin words) at le (inl same) =
        inl (same ∙ sym (ap (λ (link : Link). commands_said link.book) (next_link root calls j (Twin words) at)))
    by_call (Twin words) at le (inr below) =
        let first = ap (λ (link : Link). link.site.first_period) (next_link root calls j (Twin words) at) in
        inr (omega (arith, below, first))

-- so two sites with their own books don't clash
sites_are_apart : (root : Link) (calls : List Call) (i j : ℕ) → IsChain root calls → HaveGrown root calls → i < j →
    j ≤ length calls → HasWords (site_at root calls i) → plan_clash (plan_at root calls i) (plan_at root calls j) ≡ None
sites_are_apart root calls i j is have low within some =
    let a : Plan = plan_at root calls i in
    let b : Plan = plan_at root calls j in
    let one = all_are_one_set root calls i is (omega (arith, low, within)) in
    let two = all_are_one_set root calls j is within in
    let sites : sites_clash a.site b.site ≡ None = pairs_have_none a.site b.site (record {
      heights = sym one.height ∙ two.height;
      masters = sym one.master ∙ two.master;
      words = some;
      words_more = words_are_had root calls j is (omega (arith, low)) within;
      apart = later_shares_none a.site b.site (words_rise root calls i j is low within);
    }) in
    let books : books_clash a b ≡ None =
    by_book (shares_book root calls i j is have (omega (arith, low)) within) in
    ap (λ (o : Option ClashKind). option_or o (books_clash a b)) sites ∙ books
  where
    by_book : SharesBook root calls i j → books_clash (plan_at root calls i) (plan_at root calls j) ≡ None
    by_book (inl same) = one_book_has_none (plan_at root calls i) (plan_at root calls j) same
    by_book (inr below) = later_has_none (plan_at root calls i) (plan_at root calls j) below

airs_are_ordered : (root : Link) (calls : List Call) (airs : List OnAir) (a b : OnAir) → IsTrueChain root calls airs →
    IsChainOnAir root calls a → IsChainOnAir root calls b → a.book ≡ chain_book root calls a.number →
    b.book ≡ chain_book root calls b.number → a.number ≢ b.number →
    plan_clash (chain_plan root calls a) (chain_plan root calls b) ≡ None
airs_are_ordered root calls airs a b kept on also own its other =
    subst (λ (plan : Plan). plan_clash plan (chain_plan root calls b) ≡ None) (sym (plan_is root calls a own))
    (subst (λ (plan : Plan). plan_clash (plan_at root calls a.number) plan ≡ None) (sym (plan_is root calls b its))
    (elim (cases_lt a.number b.number) [
      | inl lt ↦
          sites_are_apart root calls a.number b.number kept.chain kept.books.grown lt also.there on.words
      | inr le ↦
          let above : b.number < a.number = below_other b.number a.number le (λ same. other (sym same)) in
          swapped_have_none (plan_at root calls b.number) (plan_at root calls a.number)
          (sites_are_apart root calls b.number a.number kept.chain kept.books.grown above on.there also.words)
    ]))
  where
    below_other : (m n : ℕ) → m ≤ n → (m ≡ n → ⊥) → m < n
    below_other m n le apart = elim (cases_lt m n) [
      | inl lt ↦ lt
      | inr ge ↦ absurd (apart (omega (arith, le, ge)))
    ]

-- two places have two sites
two_sites : (airs : List OnAir) (i j : ℕ) (a b : OnAir) → HaveOwnSites airs → i ≢ j → slice_get airs i ≡ Some a →
    slice_get airs j ≡ Some b → a.number ≢ b.number
two_sites airs i j a b own other at beside = elim (cases_lt i j) [
  | inl lt ↦ own i j a b at beside lt
  | inr le ↦ elim (cases_lt j i) [
    | inl lt ↦ λ same. own j i b a beside at lt (sym same)
    | inr ge ↦ absurd (other (omega (arith, le, ge)))
  ]
]

pub airs_are_apart : (root : Link) (calls : List Call) (airs : List OnAir) (i j : ℕ) (a b : OnAir) →
    IsTrueChain root calls airs → i ≢ j → slice_get airs i ≡ Some a → slice_get airs j ≡ Some b →
    plan_clash (chain_plan root calls a) (chain_plan root calls b) ≡ None
airs_are_apart root calls airs i j a b kept other at beside =
    airs_are_ordered root calls airs a b kept (at_place (IsChainOnAir root calls) airs i a at kept.sent)
    (at_place (IsChainOnAir root calls) airs j b beside kept.sent)
    (at_place (λ air. air.book ≡ chain_book root calls air.number) airs i a at kept.books.own)
    (at_place (λ air. air.book ≡ chain_book root calls air.number) airs j b beside kept.books.own)
    (two_sites airs i j a b kept.sites other at beside)

-- the books agree on the periods that two broadcasts share
pub all_agree : (root : Link) (calls : List Call) (airs : List OnAir) → IsTrueChain root calls airs →
    AllAgree (runs_of root calls airs)
all_agree root calls airs kept i j a b at beside low =
    let (one, one_at, first) = air_of root calls airs i a at in
    let (two, two_at, second) = air_of root calls airs j b beside in
    let on = at_place (IsChainOnAir root calls) airs i one one_at kept.sent in
    let also = at_place (IsChainOnAir root calls) airs j two two_at kept.sent in
    let agree = (two_apart root.site.master (chain_run root calls one) (chain_run root calls two)
    (air_is_run root calls one kept.chain on) (air_is_run root calls two kept.chain also)
    (airs_are_apart root calls airs i j one two kept (λ same. absurd (omega (arith, low, same))) one_at two_at)).1.1 in
    subst (λ (run : Run). AgreeOnPeriods run b) first
    (subst (λ (run : Run). AgreeOnPeriods (chain_run root calls one) run) second agree)
