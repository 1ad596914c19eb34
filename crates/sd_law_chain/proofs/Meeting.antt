-- The broadcasts of a chain meet the premises of the laws on several broadcasts.
use Rattle.std.proofs.Common.{arith, ◌≡◌, ◌≢◌, ℕ, ◌≤◌, List, length, Option, Some, None, refl, ap, sym, subst, ◌∙◌}
use Rattle.std.proofs.Common.{inl, inr}
use Rattle.std.specs.Prelude.{All, Contains, slice_get, option_map}
use Rattle.std.proofs.lemmas.Bool.{cases_lt}
use Rattle.std.proofs.lemmas.Option.{slice_get-get_or, slice_get-map, get_or_from_slice_get, slice_get_within}
use Rattle.std.proofs.lemmas.List.Elements.{All-contains, All-map}
use Rattle.sd_base.proofs.Lists.{all_by}
use Rattle.sd_book.specs.Limits.{IsWithinLimits}
use Rattle.sd_law_broadcast.specs.Runs.{HasWords, HaveOwnWords, IsRun, Run, ShareNoWord}
use Rattle.sd_law_broadcast.specs.Known.{AreOneTree}
use Rattle.sd_law_broadcast.proofs.Words.{at_place}
use Rattle.sd_run_books.specs.Chain.{commands_said}
use Rattle.sd_law_chain.specs.Chain.{Call, HaveOwnSites, IsChain, IsChainOnAir, Link, OnAir, chain_run}
use Rattle.sd_law_chain.specs.Chain.{runs_of, site_at}
use Rattle.sd_law_chain.proofs.Within.{read_within}
use Rattle.sd_law_chain.proofs.Rising.{all_are_one_set, all_are_sayable, words_rise}

-- each broadcast is a run of the master
pub air_is_run : (root : Link) (calls : List Call) (air : OnAir) → IsChain root calls → IsChainOnAir root calls air →
    IsRun root.site.master (chain_run root calls air)
air_is_run root calls air is on =
    let set = all_are_one_set root calls air.number is on.there in
    let sayable = all_are_sayable root calls air.number is on.there in
    record {
      plan_fits = record {
        site = sayable.ranges;
        ca = sayable.ca;
        book = subst (λ (d : ℕ). IsWithinLimits d (commands_said air.book)) set.height
            (read_within root.site.height air.book (commands_said air.book) on.commands);
      };
      master_is = sym set.master;
      is_sendable = on.sendable;
    }

pub all_are_runs : (root : Link) (calls : List Call) (airs : List OnAir) → IsChain root calls →
    All (IsChainOnAir root calls) airs → All (IsRun root.site.master) (runs_of root calls airs)
all_are_runs root calls airs is all =
    All-map (IsRun root.site.master) (chain_run root calls) airs
    (all_by (λ air. IsRun root.site.master (chain_run root calls
    air)) airs (λ air has. air_is_run root calls air is (All-contains (IsChainOnAir root calls) airs air all has)))

pub all_are_one_tree : (root : Link) (calls : List Call) (airs : List OnAir) → IsChain root calls →
    All (IsChainOnAir root calls) airs → AreOneTree root.site.height (runs_of root calls airs)
all_are_one_tree root calls airs is all =
    All-map (λ run. run.plan.site.height ≡ root.site.height) (chain_run root calls) airs
    (all_by (λ air. (site_at root calls air.number).height ≡ root.site.height) airs (λ air has.
    sym (all_are_one_set root calls air.number is (All-contains (IsChainOnAir root calls) airs air all
    has).there).height))

all_have_words : (root : Link) (calls : List Call) (airs : List OnAir) → All (IsChainOnAir root calls) airs →
    All (λ run. HasWords run.plan.site) (runs_of root calls airs)
all_have_words root calls airs all =
    All-map (λ run. HasWords run.plan.site) (chain_run root calls) airs
    (all_by (λ air. HasWords (site_at root calls air.number)) airs (λ air has.
    (All-contains (IsChainOnAir root calls) airs air all has).words))

-- the broadcast of a run
mapped_from : {A B : Type 0} (f : A → B) (found : Option A) (y : B) → option_map f found ≡ Some y →
    (x : A) × (found ≡ Some x) × (f x ≡ y)
mapped_from f None y h = absurd cc
mapped_from f (Some x) y h = (x, refl, (let e : f x ≡ y = cc in e))

pub air_of : (root : Link) (calls : List Call) (airs : List OnAir) (i : ℕ) (run : Run) →
    slice_get (runs_of root calls airs) i ≡ Some run →
    (air : OnAir) × (slice_get airs i ≡ Some air) × (chain_run root calls air ≡ run)
air_of root calls airs i run at =
    mapped_from (chain_run root calls) (slice_get airs i) run (sym (slice_get-map (chain_run root calls) airs i) ∙ at)

pub air_has_run : (root : Link) (calls : List Call) (airs : List OnAir) (air : OnAir) → Contains airs air →
    Contains (runs_of root calls airs) (chain_run root calls air)
air_has_run root calls airs air (k, within, is) =
    let runs : List Run = runs_of root calls airs in
    let run : Run = chain_run root calls air in
    let there : slice_get airs k ≡ Some air = slice_get-get_or airs k air within ∙ ap Some is in
    let at : slice_get runs k ≡ Some run =
    slice_get-map (chain_run root calls) airs k ∙ ap (option_map (chain_run root calls)) there in
    (k, slice_get_within runs k run at, get_or_from_slice_get runs k run run at)

-- two sites of a chain have no control word in common
pub sites_share_none : (root : Link) (calls : List Call) (m n : ℕ) → IsChain root calls → m ≢ n → m ≤ length calls →
    n ≤ length calls → ShareNoWord (site_at root calls m) (site_at root calls n)
sites_share_none root calls m n is other there also = elim (cases_lt m n) [
  | inl lt ↦ inl (words_rise root calls m n is lt also)
  | inr le ↦ elim (cases_lt n m) [
    | inl lt ↦ inr (words_rise root calls n m is lt there)
    | inr ge ↦ absurd (other (omega (arith, le, ge)))
  ]
]

pub all_have_own_words : (root : Link) (calls : List Call) (airs : List OnAir) → IsChain root calls →
    All (IsChainOnAir root calls) airs → HaveOwnSites airs → HaveOwnWords (runs_of root calls airs)
all_have_own_words root calls airs is all sites = record {
  some = all_have_words root calls airs all;
  apart = λ i j a b at beside low.
      let (one, one_at, first) = air_of root calls airs i a at in
      let (two, two_at, second) = air_of root calls airs j b beside in
      let there = (at_place (IsChainOnAir root calls) airs i one one_at all).there in
      let also = (at_place (IsChainOnAir root calls) airs j two two_at all).there in
      subst (λ (run : Run). ShareNoWord run.plan.site b.plan.site) first
      (subst (λ (run : Run). ShareNoWord (site_at root calls one.number) run.plan.site) second
      (sites_share_none root calls one.number two.number is (sites i j one two one_at two_at low) there also));
}
