-- What a new site holds of what was appended to the book.
use Rattle.std.proofs.Common.{arith, ◌≡◌, ℕ, ◌-◌, ◌<◌, ◌≤◌, List, ◌++◌, ap, subst, ◌∙◌}
use Rattle.std.proofs.Math.Seq.{take-append_seam}
use Rattle.sd_base.specs.Types.{Bytes}
use Rattle.sd_book.specs.Commands.{commands_until, last_period}
use Rattle.sd_book.proofs.Cuts.{period_append, until_end}
use Rattle.sd_run_books.specs.Chain.{commands_said}
use Rattle.sd_law_chain.specs.Chain.{Call, EndsLines, IsChain, IsNextAt, Link, Next, chain_book, site_at}
use Rattle.sd_law_chain.proofs.Cuts.{until_more}
use Rattle.sd_law_chain.proofs.Lines.{commands_joined}
use Rattle.sd_law_chain.proofs.Links.{call_taken}
use Rattle.sd_law_chain.proofs.Rising.{made_next}

-- the first period of the site that a `next` made is above the last one of the book before
pub above_last : (root : Link) (calls : List Call) (n : ℕ) (more : Bytes) →
    IsNextAt calls n (chain_book root calls (n - 1) ++ more) →
    last_period (commands_said (chain_book root calls (n - 1))) < (site_at root calls n).first_period
above_last root calls n more next =
    let book : Bytes = chain_book root calls (n - 1) in
    let (words, at, made) = made_next root calls n (book ++ more) next in
    let own = ap (λ (b : Bytes). last_period (commands_said b)) (take-append_seam book more) in
    let rises = ap (λ (link : Link). link.site.first_period) made in
    omega (arith, own, rises)

-- the book before ends with a line feed
own_ends : (root : Link) (calls : List Call) (n : ℕ) (more : Bytes) → IsChain root calls →
    IsNextAt calls n (chain_book root calls (n - 1) ++ more) → EndsLines (chain_book root calls (n - 1))
own_ends root calls n more is next =
    let book : Bytes = chain_book root calls (n - 1) in
    let (words, at, made) = made_next root calls n (book ++ more) next in
    subst EndsLines (take-append_seam book more)
    (call_taken root calls (n - 1) (Next (book ++ more) words) is at).own_ends

-- what is decided in the new site's first period of the longer book
pub held_until : (root : Link) (calls : List Call) (n : ℕ) (more : Bytes) → IsChain root calls →
    IsNextAt calls n (chain_book root calls (n - 1) ++ more) →
    commands_until (site_at root calls n).first_period (commands_said (chain_book root calls (n - 1) ++ more))
    ≡ commands_said (chain_book root calls (n - 1))
    ++ commands_until ((site_at root calls n).first_period - last_period
    (commands_said (chain_book root calls (n - 1))))
    (commands_said more)
held_until root calls n more is next =
    let book : Bytes = chain_book root calls (n - 1) in
    let ends = own_ends root calls n more is next in
    let above = above_last root calls n more next in
    ap (commands_until (site_at root calls n).first_period) (commands_joined book more ends)
    ∙ until_more (site_at root calls n).first_period (commands_said book) (commands_said more) (omega (arith, above))

-- with at most one line `period` all that is appended is
pub held_at_once : (root : Link) (calls : List Call) (n : ℕ) (more : Bytes) → IsChain root calls →
    IsNextAt calls n (chain_book root calls (n - 1) ++ more) → last_period (commands_said more) ≤ 1 →
    commands_until (site_at root calls n).first_period (commands_said (chain_book root calls (n - 1) ++ more))
    ≡ commands_said (chain_book root calls (n - 1) ++ more)
held_at_once root calls n more is next few =
    let book : Bytes = chain_book root calls (n - 1) in
    let above = above_last root calls n more next in
    let joined = ap last_period (commands_joined book more (own_ends root calls n more is next)) in
    let both = period_append (commands_said book) (commands_said more) in
    until_end (site_at root calls n).first_period (commands_said (book ++ more))
    (omega (arith, above, joined, both, few))
