-- Good files of a site, a book and leaves mean work.
use Rattle.std.proofs.Common.{◌≡◌, ℕ, ◌+◌, cond, List, length, Option, Some, Ok, Err, ap, ◌∙◌, le-ltb}
use Rattle.sd_command_base.specs.Text.{leaves_of_text}
use Rattle.sd_cover_tracing.specs.Trace.{not_among, trace_of}
use Rattle.sd_tree_keys.specs.Limits.{most_revoked}
use Rattle.sd_command_base.specs.declared.status.Status.TheVariants.{Limit}
use Rattle.sd_command_base.specs.declared.status.LimitKind.TheVariants.{BookBytes, Traced}
use Rattle.sd_command_base.specs.Spec.{FileArgument, Readings, of_result, value, within, ◌>>=◌}
use Rattle.sd_command_base.specs.Work.{work_of_text}
use Rattle.sd_command_base.proofs.Follow.{then_is}
use Rattle.sd_command_base.specs.Files.{most_book_bytes}
use Rattle.sd_command_base.specs.Both.{SiteBook, both_meaning}
use Rattle.sd_command_base.specs.Leaves.{leaves_or_status, leaves_of_file, leaves_in}
use Rattle.sd_command_line.specs.Words.{OpensOf, TraceOf}
use Rattle.sd_run_books.specs.Opens.{opening, opens_meaning}
use Rattle.sd_run_books.specs.Trace.{revoked_last, trace_text, trace_outcome, trace_meaning}
use Rattle.sd_law_run.specs.Good.{IsGoodLeaves, IsGoodOpens, IsGoodTrace}
use Rattle.sd_run.specs.Meaning.{meaning}
use Rattle.sd_law_run.proofs.Goodness.{file_read, both_good, ordered}

leaves_good : (given : Readings) (d : ℕ) (word : FileArgument) (leaves : List ℕ) → IsGoodLeaves given d word leaves →
    (leaves_in given d word).result ≡ Ok leaves
unfolding leaves_of_file
leaves_good given d word leaves good =
    ap (λ (got : Option (List ℕ)). (leaves_of_file word.number d got).result) good.there
    ∙ then_is (within word.number most_book_bytes BookBytes (Some good.bytes)) good.bytes
    (λ bytes. of_result (leaves_or_status word.number d bytes (leaves_of_text d bytes)))
    (file_read word.number most_book_bytes BookBytes good.bytes good.short)
    ∙ ap (leaves_or_status word.number d good.bytes) good.are_leaves

-- the sets of each period are printed, with which of them are open
pub opens_good : (words : List (List ℕ)) (given : Readings) (good : IsGoodOpens words given) →
    (meaning words given).result ≡ Ok (opening good.fields.height good.pooled good.commands)
unfolding opens_meaning
opens_good words given good =
    let d = good.fields.height in
    let both : SiteBook = record { site = good.fields; commands = good.commands } in
    ordered words given (OpensOf good.site good.book good.leaves) good.order
    ∙ then_is (both_meaning good.site good.book given) both
    (λ both. leaves_in given both.site.height good.leaves
    >>= λ found. value (opening both.site.height found both.commands))
    (both_good given good.site good.book good.fields good.commands good.good_site good.good_book)
    ∙ then_is (leaves_in given d good.leaves) good.pooled (λ found. value (opening d found good.commands))
    (leaves_good given d good.leaves good.pooled good.good_leaves)

-- the coalition's trace is printed
pub trace_good : (words : List (List ℕ)) (given : Readings) (good : IsGoodTrace words given) →
    (meaning words given).result ≡ Ok (work_of_text (trace_text
    (trace_of good.fields.height good.coalition (revoked_last good.fields.height good.commands))))
unfolding trace_meaning trace_outcome
trace_good words given good =
    let d = good.fields.height in
    let both : SiteBook = record { site = good.fields; commands = good.commands } in
    let gone = revoked_last d good.commands in
    let text = trace_text (trace_of d good.coalition gone) in
    ordered words given (TraceOf good.site good.book good.leaves) good.order
    ∙ then_is (both_meaning good.site good.book given) both
    (λ both. leaves_in given both.site.height good.leaves
    >>= λ coalition. of_result (trace_outcome both.site.height coalition both.commands) >>=
    λ text. value (work_of_text text))
    (both_good given good.site good.book good.fields good.commands good.good_site good.good_book)
    ∙ then_is (leaves_in given d good.leaves) good.coalition
    (λ coalition. of_result (trace_outcome d coalition good.commands) >>= λ text. value (work_of_text text))
    (leaves_good given d good.leaves good.coalition good.good_leaves)
    ∙ then_is (of_result (trace_outcome d good.coalition good.commands)) text (λ text. value (work_of_text text))
    (ap (λ b. cond b (Err (Limit Traced)) (Ok text))
    (le-ltb most_revoked (length gone + length (not_among d gone good.coalition)) good.few))
