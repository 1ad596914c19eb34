-- What is traced of a coalition is what its trace tells.
use Rattle.std.proofs.Common.{◌≡◌, ℕ, ◌+◌, ◌^◌, ◌<◌, ◌≤◌, List, length, Ok, Err, refl, ap, le-ltb, lt-ltb}
use Rattle.std.proofs.Common.{inl, inr}
use Rattle.std.specs.Prelude.{All}
use Rattle.sd_tree_keys.specs.Limits.{most_revoked}
use Rattle.sd_book.specs.declared.command.Command.{Command}
use Rattle.sd_cover_tracing.specs.declared.found.Found.{Found}
use Rattle.sd_cover_tracing.specs.declared.found.TraceFault.{TraceFault}
use Rattle.sd_cover_tracing.specs.declared.found.TraceFault.TheVariants.{TooMany, NoMemory}
use Rattle.sd_cover_tracing.specs.Trace.{IsTrace, not_among, trace_of}
use Rattle.sd_cover_tracing.proofs.Anyway.{one_trace}
use Rattle.sd_cover_tracing.proofs.Listed.{there_is_a_trace}
use Rattle.sd_command_base.specs.declared.status.Status.TheVariants.{Limit}
use Rattle.sd_command_base.specs.declared.status.LimitKind.TheVariants.{Traced}
use Rattle.sd_command_base.specs.Reads.{JudgedOutcome}
use Rattle.sd_run_books.specs.Trace.{revoked_last, trace_text, trace_outcome, unended}

-- the text of a trace that keeps to the limit
pub is_traced : (d : ℕ) (coalition : List ℕ) (commands : List Command) (found : List Found) → 1 ≤ d → d ≤ 20 →
    All (λ u. u < 2 ^ d) (revoked_last d commands) → IsTrace d coalition (revoked_last d commands) found →
    length (revoked_last d commands) + length (not_among d (revoked_last d commands) coalition) ≤ most_revoked →
    trace_outcome d coalition commands ≡ Ok (trace_text found)
unfolding trace_outcome
is_traced d coalition commands found some low leaves trace few =
    let gone = revoked_last d commands in
    rw (le-ltb most_revoked (length gone + length (not_among d gone coalition)) few)
    (ap (λ (fs : List Found). Ok (trace_text fs))
    (one_trace d coalition gone (trace_of d coalition gone) found some low leaves
    (there_is_a_trace d coalition gone some low leaves) trace))

-- more leaves than may be revoked
pub is_too_many : (d : ℕ) (coalition : List ℕ) (commands : List Command) →
    most_revoked < length (revoked_last d commands) + length (not_among d (revoked_last d commands) coalition) →
    trace_outcome d coalition commands ≡ Err (Limit Traced)
unfolding trace_outcome
is_too_many d coalition commands many =
    let gone = revoked_last d commands in
    rw (lt-ltb most_revoked (length gone + length (not_among d gone coalition)) many) refl

-- a search that didn't end was over the limit, or memory was out for it
pub is_unended : (d : ℕ) (coalition : List ℕ) (commands : List Command) (fault : TraceFault) →
    (fault ≡ TooMany →
    most_revoked < length (revoked_last d commands) + length (not_among d (revoked_last d commands) coalition)) →
    JudgedOutcome (λ (text : List ℕ). text) (trace_outcome d coalition commands) (Err (unended fault))
is_unended d coalition commands TooMany many = inl (is_too_many d coalition commands (many refl), tt, tt)
is_unended d coalition commands NoMemory many = inr refl
