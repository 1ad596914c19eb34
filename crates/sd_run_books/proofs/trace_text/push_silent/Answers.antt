use Rattle.std.proofs.Common.{◌≡◌, ℕ, List, ◌++◌, string_bytes}
use Rattle.std.specs.Prelude.{Result, Ok, Err, OnOk, if◌then◌else◌}
use Rattle.std.specs.Result.{is_ok}
use Rattle.sd_run_books.specs.Trace.{silent_line}
use Rattle.sd_run_books.proofs.trace_text.push_silent.Goals as goal

-- a text that was put stands at the end
put : {T E : Type 0} (result : Result T E) (new old text : List ℕ) →
    new ≡ (if is_ok result then old ++ text else old) → OnOk result (new ≡ old ++ text)
put (Ok _) new old text h = h
put (Err _) new old text h = tt

pub returns : goal.returns
returns c = put c.push_str.result (string_bytes c.push_str.new.self) (string_bytes c.args.text.now) silent_line
    c.push_str.ensures.bytes
