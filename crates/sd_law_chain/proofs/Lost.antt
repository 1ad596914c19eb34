-- Who is revoked by a `next` knows nothing of what is sent from then on.
use Rattle.std.proofs.Common.{arith, ◌≡◌, ℕ, ◌-◌, ◌^◌, ◌<◌, ◌≤◌, ◌==◌, Bool, true, false, cond, List, [], ◌∷◌, ◌++◌}
use Rattle.std.proofs.Common.{length, drop, refl, ap, sym, subst, ◌∙◌, inl, inr, append_assoc, append-nil}
use Rattle.std.specs.Prelude.{All, Contains}
use Rattle.std.specs.List.{range_with_len}
use Rattle.std.proofs.lemmas.Bool.{cases_lt}
use Rattle.std.proofs.lemmas.Bool.Decides.{nat_tests}
use Rattle.std.proofs.lemmas.List.Elements.{All-contains, All-map, Contains-append_left, Contains-append_right}
use Rattle.std.proofs.Math.Seq.{drop-append_seam}
use Rattle.sd_base.specs.Types.{Bytes, Leaves}
use Rattle.sd_base.proofs.Lists.{all_by}
use Rattle.sd_book.specs.declared.command.Command.{Command}
use Rattle.sd_book.specs.declared.command.Command.TheVariants.{Subscribe, Revoke, Period}
use Rattle.sd_book.specs.Commands.{commands_until, is_on, is_revoke, is_revoked, revoked}
use Rattle.sd_book.proofs.Revocations.{below}
use Rattle.sd_book.proofs.Tallies.{revoked_more}
use Rattle.sd_spec.specs.Plan.{period_in}
use Rattle.sd_spec.proofs.Schedule.{periods_in_rise}
use Rattle.sd_law_broadcast.specs.Runs.{HasWords, IsRun, Run, UsesPeriod, UsesWord, revoked_in}
use Rattle.sd_law_broadcast.specs.Known.{IsKnownInRuns}
use Rattle.sd_law_broadcast.proofs.Entitled.{key_unknown, word_unknown}
use Rattle.sd_law_broadcast.proofs.Words.{used_words}
use Rattle.sd_law_coalition.specs.Know.{ControlWord, PeriodKey}
use Rattle.sd_run_books.specs.Apart.{last_due}
use Rattle.sd_run_books.specs.Chain.{commands_said}
use Rattle.sd_law_plan.proofs.Found.{kept, passes}
use Rattle.sd_law_chain.specs.Chain.{IsTrueChain, Call, IsChain, IsNextAt, IsChainOnAir, KeepsOut, Link, OnAir}
use Rattle.sd_law_chain.specs.Chain.{chain_book}
use Rattle.sd_law_chain.specs.Chain.{chain_run, runs_of, site_at}
use Rattle.sd_law_chain.proofs.Cuts.{until_begins, until_grows}
use Rattle.sd_law_chain.proofs.Following.{broadcast_is_below, commands_grow}
use Rattle.sd_law_chain.proofs.Meeting.{air_has_run, air_is_run, all_are_one_tree, all_are_runs, all_have_own_words}
use Rattle.sd_law_chain.proofs.Rising.{all_are_one_set, made_next, periods_never_fall}

-- a command that doesn't subscribe a revoked leaf leaves it revoked
still_revoked : (command : Command) (u : ℕ) (before : Bool) → before ≡ true → (Subscribe u ≡ command → ⊥) →
    cond (is_on u command) (is_revoke command) before ≡ true
still_revoked (Subscribe v) u before is other = by_test (v == u) refl
  where
    by_test : (t : Bool) → (v == u) ≡ t → cond t false before ≡ true
    by_test false e = is
    by_test true e =
        let same : u ≡ v = grind (arith, nat_tests, e) in
        absurd (other (ap Subscribe same))
still_revoked (Revoke v) u before is other = by_test (v == u)
  where
    by_test : (t : Bool) → cond t true before ≡ true
    by_test false = is
    by_test true = refl
still_revoked Period u before is other = is

pub kept_revoked : (commands more : List Command) (u : ℕ) → is_revoked commands u ≡ true →
    (Contains more (Subscribe u) → ⊥) → is_revoked (commands ++ more) u ≡ true
kept_revoked commands [] u is none = ap (λ (cs : List Command). is_revoked cs u) (append-nil commands) ∙ is
kept_revoked commands (command ∷ more) u is none =
    let newest = revoked_more commands command u
    ∙ still_revoked command u (is_revoked commands u) is (λ same. none (0, omega arith, sym same)) in
    ap (λ (cs : List Command). is_revoked cs u) (sym (append_assoc commands (command ∷ []) more))
    ∙ kept_revoked (commands ++ command ∷ []) more u newest
    (λ has. none (Contains-append_right (command ∷ []) more (Subscribe u) has))

-- a leaf that a book revokes in a period stays revoked in it and in later ones of a longer book, unless it is
-- subscribed
-- behind the commands of the period
pub stays_revoked : (p q : ℕ) (commands longer more : List Command) (u : ℕ) → p ≤ q → longer ≡ commands ++ more →
    is_revoked (commands_until p commands) u ≡ true →
    (Contains (drop (length (commands_until p commands)) longer) (Subscribe u) → ⊥) →
    is_revoked (commands_until q longer) u ≡ true
stays_revoked p q commands longer more u low is revoked none =
    let first : List Command = commands_until p commands in
    let (rest, grown) = until_grows p q commands more low in
    let (tail, cut) = until_begins q (commands ++ more) in
    let all : longer ≡ first ++ (rest ++ tail) =
    is ∙ cut ∙ ap (λ (cs : List Command). cs ++ tail) grown ∙ append_assoc first rest tail in
    let behind : drop (length first) longer ≡ rest ++ tail =
    ap (drop (length first)) all ∙ drop-append_seam first (rest ++ tail) in
    let free : Contains rest (Subscribe u) → ⊥ =
    λ has. none (subst (λ (cs : List Command). Contains cs (Subscribe u)) (sym behind)
    (Contains-append_left rest tail (Subscribe u) has)) in
    ap (λ (cs : List Command). is_revoked (commands_until q cs) u) is
    ∙ ap (λ (cs : List Command). is_revoked cs u) grown
    ∙ kept_revoked first rest u revoked free

-- a broadcast uses no period above the last that it may use
due_at_most : (master : List ℕ) (run : Run) (q : ℕ) → IsRun master run → HasWords run.plan.site → UsesPeriod run q →
    q ≤ last_due run.plan
due_at_most master run q is some (t, (n, within, word, period)) =
    let own = used_words master run t q is some (n, within, word, period) in
    let low : n ≤ run.plan.site.last_word - run.plan.site.first_word = omega (arith, own.1, word) in
    let up = periods_in_rise run.plan n (run.plan.site.last_word - run.plan.site.first_word) is.plan_fits.site low in
    omega (arith, up, period)

-- and none below its site's first
due_at_least : (run : Run) (q : ℕ) → UsesPeriod run q → run.plan.site.first_period ≤ q
unfolding period_in
due_at_least run q (t, (n, within, word, period)) = omega (arith, period)

-- what is asked of a coalition that a `next` revokes, and of the broadcasts from then on
pub record IsCutOff (root : Link) (calls : List Call) (airs : List OnAir) (n : ℕ) (bytes : Bytes) (coalition : Leaves) :
    Type 0 where
  pub kept : IsTrueChain root calls airs
  pub next : IsNextAt calls n bytes
  pub gone : All (Contains (revoked root.site.height (commands_said bytes) (site_at root calls n).first_period))
      coalition
  pub out : All (λ other. n ≤ other.number → KeepsOut coalition (site_at root calls n).first_period (commands_said
      bytes) other) airs

leaves_of : (root : Link) (calls : List Call) (airs : List OnAir) (n : ℕ) (bytes : Bytes) (coalition : Leaves) →
    IsCutOff root calls airs n bytes coalition → All (λ u. u < 2 ^ root.site.height) coalition
leaves_of root calls airs n bytes coalition is =
    let p : ℕ = (site_at root calls n).first_period in
    let gone : Leaves = revoked root.site.height (commands_said bytes) p in
    all_by (λ u. u < 2 ^ root.site.height) coalition (λ u has.
    All-contains (λ v. v < 2 ^ root.site.height) gone u (below root.site.height (commands_said bytes) p)
    (All-contains (Contains gone) coalition u is.gone has))

-- a broadcast of site n or a later one revokes them all from that site's first period on
revoked_later : (root : Link) (calls : List Call) (airs : List OnAir) (n q : ℕ) (bytes : Bytes) (coalition : Leaves)
    (other : OnAir) → IsCutOff root calls airs n bytes coalition → Contains airs other → n ≤ other.number →
    (site_at root calls n).first_period ≤ q → All (Contains (revoked_in (chain_run root calls other) q)) coalition
revoked_later root calls airs n q bytes coalition other is has late low =
    let h : ℕ = root.site.height in
    let p : ℕ = (site_at root calls n).first_period in
    let (words, at, made) = made_next root calls n bytes is.next in
    let on = All-contains (IsChainOnAir root calls) airs other is.kept.sent has in
    let own = All-contains (λ one. one.book ≡ chain_book root calls one.number) airs other is.kept.books.own has in
    let (more, grown) =
    commands_grow root calls n other.number is.kept.chain is.kept.books.grown late on.there in
    let longer : commands_said other.book ≡ commands_said bytes ++ more =
    ap commands_said own ∙ grown ∙ ap (λ (link : Link). commands_said link.book ++ more) made in
    let height = (all_are_one_set root calls other.number is.kept.chain on.there).height in
    let out = All-contains (λ one. n ≤ one.number → KeepsOut coalition p (commands_said bytes) one) airs other is.out
    has
    late in
    subst (λ (d : ℕ). All (Contains (revoked d (commands_said other.book) q)) coalition) height
    (all_by (Contains (revoked h (commands_said other.book) q)) coalition (λ u member.
    let gone = All-contains (Contains (revoked h (commands_said bytes) p)) coalition u is.gone member in
    let leaf = All-contains (λ v. v < 2 ^ h) coalition u (leaves_of root calls airs n bytes coalition is) member in
    let before = passes (is_revoked (commands_until p (commands_said bytes))) (range_with_len 0 (2 ^ h)) u gone in
    let none = All-contains (λ v. Contains (drop (length (commands_until p (commands_said bytes))) (commands_said
    other.book)) (Subscribe v) → ⊥) coalition u out member in
    kept (is_revoked (commands_until q (commands_said other.book))) 0 (2 ^ h) u (omega arith) (omega (arith, leaf))
    (stays_revoked p q (commands_said bytes) (commands_said other.book) more u low longer before none)))

-- each broadcast that uses such a period revokes them all
all_revoke : (root : Link) (calls : List Call) (airs : List OnAir) (n q : ℕ) (bytes : Bytes) (coalition : Leaves) →
    IsCutOff root calls airs n bytes coalition → (site_at root calls n).first_period ≤ q →
    All (λ run. UsesPeriod run q → All (Contains (revoked_in run q)) coalition) (runs_of root calls airs)
all_revoke root calls airs n q bytes coalition is low =
    All-map (λ run. UsesPeriod run q → All (Contains (revoked_in run q)) coalition) (chain_run root calls) airs
    (all_by (λ other. UsesPeriod (chain_run root calls other) q →
    All (Contains (revoked_in (chain_run root calls other) q)) coalition) airs (λ other has uses.
    elim (cases_lt other.number n) [
      | inl early ↦
          let on = All-contains (IsChainOnAir root calls) airs other is.kept.sent has in
          let run = air_is_run root calls other is.kept.chain on in
          let due = due_at_most root.site.master (chain_run root calls other) q run on.words uses in
          let under = broadcast_is_below root calls airs other n bytes is.kept has early is.next in
          absurd (omega (arith, due, under, low))
      | inr late ↦ revoked_later root calls airs n q bytes coalition other is has late low
    ]))

-- a broadcast of site n or a later one uses periods from that site's first one on
late_periods : (root : Link) (calls : List Call) (airs : List OnAir) (n q : ℕ) (air : OnAir) →
    IsTrueChain root calls airs → Contains airs air → n ≤ air.number → UsesPeriod (chain_run root calls air) q →
    (site_at root calls n).first_period ≤ q
late_periods root calls airs n q air is has late uses =
    let on = All-contains (IsChainOnAir root calls) airs air is.sent has in
    let rise = periods_never_fall root calls n air.number is.chain late on.there in
    let above = due_at_least (chain_run root calls air) q uses in
    omega (arith, rise, above)

low_tree : (root : Link) (calls : List Call) → IsChain root calls → root.site.height ≤ 20
low_tree root calls is = is.first.ranges.height.1

pub key_lost : (root : Link) (calls : List Call) (airs : List OnAir) (n : ℕ) (bytes : Bytes) (coalition : Leaves)
    (air : OnAir) (q : ℕ) → IsTrueChain root calls airs → IsNextAt calls n bytes →
    All (Contains (revoked root.site.height (commands_said bytes) (site_at root calls n).first_period)) coalition →
    All (λ other. n ≤ other.number → KeepsOut coalition (site_at root calls n).first_period (commands_said bytes)
    other) airs → Contains airs air → n ≤ air.number → UsesPeriod (chain_run root calls air) q →
    ¬ IsKnownInRuns (runs_of root calls airs) root.site.height coalition (PeriodKey q)
key_lost root calls airs n bytes coalition air q kept next gone out has late uses =
    let is : IsCutOff root calls airs n bytes coalition =
    record { kept = kept; next = next; gone = gone; out = out } in
    key_unknown (runs_of root calls airs) root.site.height coalition q (low_tree root calls kept.chain)
    (all_are_one_tree root calls airs kept.chain kept.sent) (leaves_of root calls airs n bytes coalition is)
    (all_revoke root calls airs n q bytes coalition is (late_periods root calls airs n q air kept has late uses))

pub word_lost : (root : Link) (calls : List Call) (airs : List OnAir) (n : ℕ) (bytes : Bytes) (coalition : Leaves)
    (air : OnAir) (t q : ℕ) → IsTrueChain root calls airs → IsNextAt calls n bytes →
    All (Contains (revoked root.site.height (commands_said bytes) (site_at root calls n).first_period)) coalition →
    All (λ other. n ≤ other.number → KeepsOut coalition (site_at root calls n).first_period (commands_said bytes)
    other) airs → Contains airs air → n ≤ air.number → UsesWord (chain_run root calls air) t q →
    ¬ IsKnownInRuns (runs_of root calls airs) root.site.height coalition (ControlWord t)
word_lost root calls airs n bytes coalition air t q kept next gone out has late uses =
    let is : IsCutOff root calls airs n bytes coalition =
    record { kept = kept; next = next; gone = gone; out = out } in
    let runs : List Run = runs_of root calls airs in
    word_unknown root.site.master runs root.site.height coalition (chain_run root calls air) t q
    (low_tree root calls kept.chain) (all_are_one_tree root calls airs kept.chain kept.sent)
    (leaves_of root calls airs n bytes coalition is) (all_are_runs root calls airs kept.chain kept.sent)
    (all_have_own_words root calls airs kept.chain kept.sent kept.sites)
    (all_revoke root calls airs n q bytes coalition is (late_periods root calls airs n q air kept has late (t, uses)))
    (air_has_run root calls airs air has) uses
