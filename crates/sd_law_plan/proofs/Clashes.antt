-- Two broadcasts that don't clash.
use Rattle.std.proofs.Common.{arith, ◌≡◌, ℕ, zero, suc, ◌-◌, ◌<◌, ◌≤◌, ◌^◌, List, Option, Some, None, length, slice_get}
use Rattle.std.proofs.Common.{get_or, refl, sym, ap, ◌∙◌}
use Rattle.std.specs.Prelude.{[], ◌∷◌}
use Rattle.std.specs.List.{range_with_len}
use Rattle.std.specs.Option.{option_map, option_or}
use Rattle.sd_site_cards.specs.SiteFields.{AreInRange}
use Rattle.sd_book.specs.Commands.{commands_until, is_revoked}
use Rattle.sd_spec.specs.Plan.{Plan}
use Rattle.sd_spec.proofs.Schedule.{period_in_first, periods_in_rise}
use Rattle.sd_law_broadcast.specs.Runs.{Run, IsRun, HasWords, ShareNoWord, HaveOwnWords, UsesPeriod, AgreeOnPeriods}
use Rattle.sd_law_broadcast.specs.Runs.{AllAgree}
use Rattle.sd_law_broadcast.specs.Known.{AreOneTree}
use Rattle.sd_law_broadcast.proofs.Words.{used_words}
use Rattle.sd_command_base.specs.declared.status.Clash.{Clash as ClashKind}
use Rattle.sd_command_base.specs.declared.status.Clash.TheVariants.{Books}
use Rattle.sd_run_books.specs.Apart.{books_clash, clash_in, plan_clash, differing_in, due_in_both, first_differing}
use Rattle.sd_run_books.specs.Apart.{first_of, first_shared, shared_count, sites_clash}
use Rattle.sd_run_books.specs.Air.{cryptos_for, last_period_for, last_word_for}
use Rattle.sd_law_plan.specs.Told.{IsDueIn}
use Rattle.sd_law_plan.proofs.Found.{swapped_none}
use Rattle.sd_law_plan.proofs.Ranges.{either_none, no_leaf, none_in, none_of}
use Rattle.sd_law_plan.proofs.Sites.{later_shares_none, pairs_have_none, ranges_apart, shares_swapped, sites_apart}
use Rattle.sd_law_plan.proofs.Told.{books_alike}

-- a period that a run uses is between its first one and the last that it may use
pub used_is_due : (master : List ℕ) (run : Run) (q : ℕ) → IsRun master run → HasWords run.plan.site →
    UsesPeriod run q → IsDueIn run.plan q
used_is_due master run q is some (t, (n, below, word, period)) =
    let own = used_words master run t q is some (n, below, word, period) in
    let range = is.plan_fits.site in
    let low : n ≤ run.plan.site.last_word - run.plan.site.first_word = omega (arith, own.1, word) in
    let up = periods_in_rise run.plan n (run.plan.site.last_word - run.plan.site.first_word) range low in
    let first = period_in_first run.plan in
    let rise = periods_in_rise run.plan 0 n range (omega arith) in
    (omega (arith, first, rise, period), omega (arith, up, period))

books_agree : (master : List ℕ) (a b : Run) → IsRun master a → IsRun master b → HasWords a.plan.site →
    HasWords b.plan.site → a.plan.site.height ≡ b.plan.site.height → books_clash a.plan b.plan ≡ None →
    AgreeOnPeriods a b
unfolding books_clash
books_agree master a b is more some some_more heights h q used used_more =
    let one = used_is_due master a q is some used in
    let two = used_is_due master b q more some_more used_more in
    let none = none_in (clash_in a.plan b.plan) (first_shared a.plan b.plan) (shared_count a.plan b.plan) q h
    (omega (arith, one.0, two.0)) (omega (arith, one.0, two.0, one.1, two.1)) in
    books_alike a.plan b.plan q heights (no_leaf q (differing_in a.plan b.plan q) none)

pub two_apart : (master : List ℕ) (a b : Run) → IsRun master a → IsRun master b → plan_clash a.plan b.plan ≡ None →
    (HasWords a.plan.site × HasWords b.plan.site) × (ShareNoWord a.plan.site b.plan.site × AgreeOnPeriods a b)
two_apart master a b is more h =
    let both = either_none (sites_clash a.plan.site b.plan.site) (books_clash a.plan b.plan) h in
    let sites = sites_apart a.plan.site b.plan.site both.0 in (
      (sites.words, sites.words_more),
      (
        ranges_apart a.plan.site b.plan.site sites.words sites.words_more sites.apart,
        books_agree master a b is more sites.words sites.words_more sites.heights both.1,
      ),
    )

-- each two of some runs don't clash
abbrev pub EachTwo : List Run → Type 0
EachTwo runs = (i j : ℕ) (a b : Run) → slice_get runs i ≡ Some a → slice_get runs j ≡ Some b → i < j →
    plan_clash a.plan b.plan ≡ None

abbrev pub EachIs : List ℕ → List Run → Type 0
EachIs master runs = (i : ℕ) (a : Run) → slice_get runs i ≡ Some a → IsRun master a

pub all_agree : (master : List ℕ) (runs : List Run) → EachIs master runs → EachTwo runs → AllAgree runs
all_agree master runs each two i j a b at_i at_j low =
    (two_apart master a b (each i a at_i) (each j b at_j) (two i j a b at_i at_j low)).1.1

there : (runs : List Run) (i : ℕ) (d : Run) → i < length runs → slice_get runs i ≡ Some (get_or runs i d)
there [] i d h = absurd (omega (arith, h))
there (run ∷ runs) zero d h = refl
there (run ∷ runs) (suc i) d h = there runs i d (omega (arith, h))

-- they are of one tree, and have one master
pub one_set : (a b : Plan) → plan_clash a b ≡ None → (a.site.height ≡ b.site.height) × (a.site.master ≡ b.site.master)
one_set a b h =
    let is = sites_apart a.site b.site (either_none (sites_clash a.site b.site) (books_clash a b) h).0 in
    (is.heights, is.masters)

pub one_tree : (run : Run) (runs : List Run) → EachTwo (run ∷ runs) → AreOneTree run.plan.site.height (run ∷ runs)
one_tree run runs two zero d h = refl
one_tree run runs two (suc i) d h =
    sym (one_set run.plan (get_or runs i d).plan (two 0 (suc i) run (get_or runs i d) refl
    (there runs i d (omega (arith, h))) (omega arith))).0

one_has : (master : List ℕ) (runs : List Run) → EachIs master runs → 1 < length runs → EachTwo runs → (i : ℕ)
    (d : Run) → i < length runs → HasWords (get_or runs i d).plan.site
one_has master runs each many two zero d h =
    let a = get_or runs 0 d in
    let b = get_or runs 1 d in
    let at_a = there runs 0 d h in
    let at_b = there runs 1 d many in
    (two_apart master a b (each 0 a at_a) (each 1 b at_b) (two 0 1 a b at_a at_b (omega arith))).0.0
one_has master runs each many two (suc i) d h =
    let a = get_or runs 0 d in
    let b = get_or runs (suc i) d in
    let at_a = there runs 0 d (omega (arith, many)) in
    let at_b = there runs (suc i) d h in
    (two_apart master a b (each 0 a at_a) (each (suc i) b at_b) (two 0 (suc i) a b at_a at_b (omega arith))).0.1

pub all_words : (master : List ℕ) (runs : List Run) → EachIs master runs → 1 < length runs → EachTwo runs →
    HaveOwnWords runs
all_words master runs each many two = record {
  some = λ i d h. one_has master runs each many two i d h;
  apart = λ i j a b at_i at_j low.
      (two_apart master a b (each i a at_i) (each j b at_j) (two i j a b at_i at_j low)).1.0;
}

-- the books say the same of each receiver, the other way round
swapped_in : (a b : Plan) (q : ℕ) → a.site.height ≡ b.site.height → differing_in a b q ≡ None →
    differing_in b a q ≡ None
swapped_in a b q heights none =
    let one = is_revoked (commands_until q a.commands) in
    let other = is_revoked (commands_until q b.commands) in
    ap (λ (d : ℕ). first_differing other one (2 ^ d)) (sym heights) ∙ swapped_none one other (2 ^ a.site.height) none

-- the other way round
pub swapped_have_none : (a b : Plan) → plan_clash a b ≡ None → plan_clash b a ≡ None
unfolding books_clash
swapped_have_none a b h =
    let both = either_none (sites_clash a.site b.site) (books_clash a b) h in
    let is = sites_apart a.site b.site both.0 in
    let sites : sites_clash b.site a.site ≡ None = pairs_have_none b.site a.site (record {
      heights = sym is.heights;
      masters = sym is.masters;
      words = is.words_more;
      words_more = is.words;
      apart = shares_swapped a.site b.site is.apart;
    }) in
    let books : first_of (clash_in b a) (due_in_both b a) ≡ None =
    none_of (clash_in b a) (first_shared b a) (shared_count b a) (λ q low high.
    ap (option_map (λ u. Books u q)) (swapped_in a b q is.heights (no_leaf q (differing_in a b q)
    (none_in (clash_in a b) (first_shared a b) (shared_count a b) q both.1 (omega (arith, low))
    (omega (arith, low, high)))))) in
    ap (λ (o : Option ClashKind). option_or o (first_of (clash_in b a) (due_in_both b a))) sites ∙ books

-- a site from the next control word and period on
pub next_have_none : (plan more : Plan) (m : ℕ) → AreInRange plan.site → plan.site.height ≡ more.site.height →
    plan.site.master ≡ more.site.master → HasWords plan.site → HasWords more.site →
    plan.site.last_word ≤ last_word_for plan.site m → last_word_for plan.site m < more.site.first_word →
    last_period_for plan (cryptos_for plan.site m) < more.site.first_period → plan_clash plan more ≡ None
unfolding books_clash
next_have_none plan more m r heights masters some some_more words word period =
    let sites : sites_clash plan.site more.site ≡ None = pairs_have_none plan.site more.site (record {
      heights = heights;
      masters = masters;
      words = some;
      words_more = some_more;
      apart = later_shares_none plan.site more.site (omega (arith, words, word));
    }) in
    let up = periods_in_rise plan (plan.site.last_word - plan.site.first_word) (cryptos_for plan.site m - 1) r
    (omega (arith, words)) in
    let none : shared_count plan more ≡ 0 = omega (arith, up, period) in
    let books : first_of (clash_in plan more) (due_in_both plan more) ≡ None =
    ap (λ (k : ℕ). first_of (clash_in plan more) (range_with_len (first_shared plan more) k)) none in
    ap (λ (o : Option ClashKind). option_or o (first_of (clash_in plan more) (due_in_both plan more))) sites ∙ books
