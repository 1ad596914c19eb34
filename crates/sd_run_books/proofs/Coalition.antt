-- The leaves that are printed are the coalition's.
use Rattle.std.proofs.Common.{◌≡◌, ◌≢◌, ℕ, ◌+◌, ◌^◌, ◌<◌, ◌≤◌, Bool, true, false, List, length, Ok, Err}
use Rattle.std.specs.Prelude.{◌↔◌, AllPairs, Contains, map, nat_lt, if◌then◌else◌}
use Rattle.std.proofs.lemmas.List.Elements.{All-contains, All-map, All-weaker}
use Rattle.sd_tree_keys.specs.Limits.{highest, most_revoked}
use Rattle.sd_book.specs.declared.command.Command.{Command}
use Rattle.sd_book.specs.Commands.{last_period}
use Rattle.sd_book.proofs.Revocations.{below}
use Rattle.sd_cover_tracing.specs.Trace.{IsTrace, not_among, trace_of}
use Rattle.sd_cover_tracing.specs.declared.found.Found.{Found}
use Rattle.sd_cover_tracing.proofs.Inside.{trace_is_coalition}
use Rattle.sd_cover_tracing.proofs.Listed.{there_is_a_trace, trace_new, trace_once}
use Rattle.sd_command_base.specs.declared.status.Status.{Status}
use Rattle.sd_command_base.specs.declared.status.Status.TheVariants.{Limit}
use Rattle.sd_command_base.specs.declared.status.LimitKind.TheVariants.{Traced}
use Rattle.sd_run_books.specs.Trace.{revoked_last, trace_text, trace_outcome}

told_text : (b : Bool) (limit : Status) (x y : List ℕ) → (if b then Err limit else Ok x) ≡ Ok y → y ≡ x
told_text true limit x y e = absurd (cc)
told_text false limit x y e = cc

-- a text is that of the trace
pub text_is : (d : ℕ) (coalition : List ℕ) (commands : List Command) (text : List ℕ) →
    trace_outcome d coalition commands ≡ Ok text → text ≡ trace_text (trace_of d coalition (revoked_last d commands))
unfolding trace_outcome
text_is d coalition commands text e =
    let gone = revoked_last d commands in
    told_text (nat_lt most_revoked (length gone + length (not_among d gone coalition))) (Limit Traced)
    (trace_text (trace_of d coalition gone)) text e

-- there is the trace
pub trace_is : (d : ℕ) (coalition : List ℕ) (commands : List Command) → 1 ≤ d → d ≤ highest →
    IsTrace d coalition (revoked_last d commands) (trace_of d coalition (revoked_last d commands))
trace_is d coalition commands some low =
    there_is_a_trace d coalition (revoked_last d commands) some low (below d commands (last_period commands))

-- its leaves are those of the coalition that aren't revoked
pub leaves_are : (d : ℕ) (coalition : List ℕ) (commands : List Command) (u : ℕ) → 1 ≤ d → d ≤ highest →
    Contains (map (λ f. f.leaf) (trace_of d coalition (revoked_last d commands))) u
    ↔ ((u < 2 ^ d) × Contains coalition u × ¬ Contains (revoked_last d commands) u)
leaves_are d coalition commands u some low =
    let gone = revoked_last d commands in
    let found = trace_of d coalition gone in
    let leaves = below d commands (last_period commands) in
    let trace = trace_is d coalition commands some low in
    let each = All-map (λ w. w < 2 ^ d) (λ (f : Found). f.leaf) found
    (All-weaker (λ f. (f.leaf < 2 ^ d) × ¬ Contains gone f.leaf) (λ f. f.leaf < 2 ^ d) (λ f h. h.0) found
    (trace_new d coalition gone found some low leaves trace)) in (
      λ m. let leaf = All-contains (λ w. w < 2 ^ d) (map (λ (f : Found). f.leaf) found) u each m in
          let own = (trace_is_coalition d coalition gone found some low leaves trace u leaf).0 m in
          (leaf, own.0, own.1),
      λ m. (trace_is_coalition d coalition gone found some low leaves trace u m.0).1 (m.1, m.2),
    )

-- each is found once
pub found_once : (d : ℕ) (coalition : List ℕ) (commands : List Command) → 1 ≤ d → d ≤ highest →
    AllPairs (λ f g. f.leaf ≢ g.leaf) (trace_of d coalition (revoked_last d commands))
found_once d coalition commands some low =
    trace_once d coalition (revoked_last d commands) (trace_of d coalition (revoked_last d commands)) some low
    (below d commands (last_period commands)) (trace_is d coalition commands some low)
