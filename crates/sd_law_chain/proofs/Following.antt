-- The periods of a broadcast are below those of the sites that a later `next` made.
use Rattle.std.proofs.Common.{arith, ◌≡◌, ℕ, suc, zero, ◌-◌, ◌<◌, ◌≤◌, max, List, [], ◌++◌, length, ap, sym}
use Rattle.std.proofs.Common.{subst, ◌∙◌, Some, inl, inr, take, append_assoc, append-nil}
use Rattle.std.specs.Prelude.{Contains, slice_get}
use Rattle.std.proofs.lemmas.Bool.{cases_lt}
use Rattle.std.proofs.lemmas.Option.{slice_get_within}
use Rattle.std.proofs.lemmas.List.Elements.{All-contains}
use Rattle.std.proofs.Math.Seq.{take-append_seam}
use Rattle.sd_base.specs.Types.{Bytes}
use Rattle.sd_ports.specs.Bytes.{IsPrefix}
use Rattle.sd_book.specs.declared.command.Command.{Command}
use Rattle.sd_book.specs.Commands.{last_period}
use Rattle.sd_book.proofs.Cuts.{period_append}
use Rattle.sd_spec.specs.Plan.{Plan, period_in}
use Rattle.sd_run_books.specs.Apart.{last_due}
use Rattle.sd_run_books.specs.Chain.{commands_said}
use Rattle.sd_law_chain.specs.Chain.{IsTrueChain, Call, EndsLines, HaveGrown, IsChain, IsNextAt, Link, Next, OnAir}
use Rattle.sd_law_chain.specs.Chain.{Twin}
use Rattle.sd_law_chain.specs.Chain.{chain_book, link_at, own_bytes, plan_at, chain_plan, site_at}
use Rattle.sd_law_chain.proofs.Cuts.{Begins}
use Rattle.sd_law_chain.proofs.Lines.{commands_joined}
use Rattle.sd_law_chain.proofs.Links.{call_taken, next_link, some_call}
use Rattle.sd_law_chain.proofs.Rising.{made_next, periods_never_fall}

-- the first bytes of a text that begins with them
pub own_is : (book bytes : Bytes) → IsPrefix book bytes → take (length book) bytes ≡ book
own_is book bytes (rest, is) = ap (take (length book)) (sym is) ∙ take-append_seam book rest

-- what a `next` takes for the book of its SITE is that book
pub own_book_is : (root : Link) (calls : List Call) (n : ℕ) (bytes : Bytes) → HaveGrown root calls →
    IsNextAt calls n bytes → own_bytes (link_at root calls (n - 1)) bytes ≡ chain_book root calls (n - 1)
own_book_is root calls n bytes have next = own_is (chain_book root calls (n - 1)) bytes (have n bytes next)

-- commands that begin with others and end as they do
begins_itself : (commands : List Command) → Begins commands commands
begins_itself commands = ([], sym (append-nil commands))

begins_through : (a b c : List Command) → Begins a b → Begins b c → Begins a c
begins_through a b c (one, is) (two, its) =
    (one ++ two, its ∙ ap (λ (r : List Command). r ++ two) is ∙ append_assoc a one two)

-- a text that is appended to one that ends with a line feed
said_grows : (book bytes : Bytes) → EndsLines (take (length book) bytes) → IsPrefix book bytes →
    Begins (commands_said book) (commands_said bytes)
said_grows book bytes ends (rest, is) =
    let own = own_is book bytes (rest, is) in
    (commands_said rest, ap commands_said (sym is) ∙ commands_joined book rest (subst EndsLines own ends))

commands_step : (root : Link) (calls : List Call) (k : ℕ) → IsChain root calls → HaveGrown root calls →
    k < length calls → Begins (commands_said (chain_book root calls k)) (commands_said (chain_book root calls (suc k)))
commands_step root calls k is have low =
    let (call, at) = some_call calls k low in by_call call at
  where
    by_call : (call : Call) → slice_get calls k ≡ Some call →
        Begins (commands_said (chain_book root calls k)) (commands_said (chain_book root calls (suc k)))
    by_call (Next bytes words) at =
        let last : suc k - 1 ≡ k = omega arith in
        let first : IsPrefix (chain_book root calls k) bytes =
        subst (λ (n : ℕ). IsPrefix (chain_book root calls n) bytes) last
        (have (suc k) bytes (words, omega arith, ap (slice_get calls) last ∙ at)) in
        subst (λ (link : Link). Begins (commands_said (chain_book root calls k)) (commands_said link.book))
        (sym (next_link root calls k (Next bytes words) at))
        (said_grows (chain_book root calls k) bytes (call_taken root calls k (Next bytes words) is at).own_ends first)
    by_call (Twin words) at =
        subst (λ (link : Link). Begins (commands_said (chain_book root calls k)) (commands_said link.book))
        (sym (next_link root calls k (Twin words) at)) (begins_itself (commands_said (chain_book root calls k)))

-- the commands of a later site's book begin with those of an earlier one's
pub commands_grow : (root : Link) (calls : List Call) (i j : ℕ) → IsChain root calls → HaveGrown root calls → i ≤ j →
    j ≤ length calls → Begins (commands_said (chain_book root calls i)) (commands_said (chain_book root calls j))
commands_grow root calls i zero is have low within =
    let same : i ≡ 0 = omega (arith, low) in
    subst (λ (k : ℕ). Begins (commands_said (chain_book root calls i)) (commands_said (chain_book root calls k))) same
    (begins_itself (commands_said (chain_book root calls i)))
commands_grow root calls i (suc j) is have low within = elim (cases_lt j i) [
  | inl lt ↦
      let same : i ≡ suc j = omega (arith, low, lt) in
      subst (λ (k : ℕ). Begins (commands_said (chain_book root calls i)) (commands_said (chain_book root calls k))) same
      (begins_itself (commands_said (chain_book root calls i)))
  | inr le ↦
      begins_through (commands_said (chain_book root calls i)) (commands_said (chain_book root calls j))
      (commands_said (chain_book root calls (suc j)))
      (commands_grow root calls i j is have le (omega (arith, within)))
      (commands_step root calls j is have (omega (arith, within)))
]

-- a broadcast uses no period above its site's first and its book's last
due_within : (plan : Plan) → last_due plan ≤ max plan.site.first_period (last_period plan.commands)
unfolding period_in
due_within plan = omega arith

-- site n begins above all periods of a site before it with that site's book
pub next_is_above : (root : Link) (calls : List Call) (i n : ℕ) (bytes : Bytes) → IsChain root calls →
    HaveGrown root calls → i < n → IsNextAt calls n bytes →
    last_due (plan_at root calls i) < (site_at root calls n).first_period
next_is_above root calls i n bytes is have low next =
    let (words, at, made) = made_next root calls n bytes next in
    let within = slice_get_within calls (n - 1) (Next bytes words) at in
    let due = due_within (plan_at root calls i) in
    let first = periods_never_fall root calls i (n - 1) is (omega (arith, low)) (omega (arith, within)) in
    let (more, grown) = commands_grow root calls i (n - 1) is have (omega (arith, low)) (omega (arith, within)) in
    let last = period_append (commands_said (chain_book root calls i)) more in
    let all = ap last_period grown in
    let own = ap (λ (b : Bytes). last_period (commands_said b)) (own_book_is root calls n bytes have next) in
    let rises = ap (λ (link : Link). link.site.first_period) made in
    omega (arith, due, first, last, all, own, rises)

-- what is sent with a site's own book
pub plan_is : (root : Link) (calls : List Call) (air : OnAir) → air.book ≡ chain_book root calls air.number →
    chain_plan root calls air ≡ plan_at root calls air.number
plan_is root calls air own =
    ap (λ (b : Bytes). record { site = site_at root calls air.number; commands = commands_said b }) own

-- so it begins above all periods of a broadcast of a site before it
pub broadcast_is_below : (root : Link) (calls : List Call) (airs : List OnAir) (air : OnAir) (n : ℕ) (bytes : Bytes) →
    IsTrueChain root calls airs → Contains airs air → air.number < n → IsNextAt calls n bytes →
    last_due (chain_plan root calls air) < (site_at root calls n).first_period
broadcast_is_below root calls airs air n bytes kept has low next =
    let own = All-contains (λ one. one.book ≡ chain_book root calls one.number) airs air kept.books.own has in
    subst (λ (plan : Plan). last_due plan < (site_at root calls n).first_period) (sym (plan_is root calls air own))
    (next_is_above root calls air.number n bytes kept.chain kept.books.grown low next)
