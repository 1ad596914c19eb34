-- The kinds of work: each makes OUT or no file, and refuses words or files before anything is made.
use Rattle.std.proofs.Common.{◌≡◌, ℕ, Bool, true, false, if◌then◌else◌, List, [], length, reverse, Option, Some, None}
use Rattle.std.proofs.Common.{Result, Ok}
use Rattle.std.proofs.Common.{Err, refl, sym, ap, ◌∙◌}
use Rattle.std.specs.Option.{option_map}
use Rattle.sd_engine.specs.Cut.{is_stream_too_long, readable}
use Rattle.sd_engine.specs.Taken.{StreamEnd, Whole, Breaks, RunsOn, packets_taken, end_of}
use Rattle.sd_site_cards.specs.CardFields.{CardFields}
use Rattle.sd_site_cards.specs.SiteFields.{SiteFields}
use Rattle.sd_spec.specs.Plan.{Plan}
use Rattle.sd_message.specs.declared.clear_fault.ClearFault.{ClearFault}
use Rattle.sd_spec.specs.Counting.{counting}
use Rattle.sd_spec.specs.Ending.{ending_of}
use Rattle.sd_spec.specs.Offered.{break_from}
use Rattle.sd_spec.specs.declared.ending.Ending.{Ending}
use Rattle.sd_spec.specs.declared.ending.Ending.TheVariants as end
use Rattle.sd_message.specs.declared.stream_fault.StreamFault.{StreamFault}
use Rattle.sd_command_base.specs.declared.status.Status.{Status}
use Rattle.sd_command_base.specs.declared.status.Status.TheVariants.{BadStream}
use Rattle.sd_command_base.specs.declared.stream_refusal.StreamRefusal.TheVariants.{TooLong}
use Rattle.sd_command_base.specs.Spec.{Spec, FileArgument, and_then, ◌>>=◌}
use Rattle.sd_command_base.specs.Work.{StepBound, Out, Mark, Work}
use Rattle.sd_command_base.specs.Made.{NewFile, making, making_new, out_file, used_name}
use Rattle.sd_command_base.specs.Turned.{turning}
use Rattle.sd_command_base.specs.Streams.{stream_status}
use Rattle.sd_run_broadcasts.specs.Air.{airing, aired_status as ended_by, live_end, live_sent, live_status}
use Rattle.sd_run_broadcasts.specs.Head.{status_where, sent_status, stream_refusal}
use Rattle.sd_run_broadcasts.specs.Receive.{receive_end_status, ending_status, received_status_at, unless_refused}
use Rattle.sd_run_broadcasts.specs.Receive.{received_status}
use Rattle.sd_run_broadcasts.specs.Watch.{watched_of, watched_status, watching}
use Rattle.sd_command_base.specs.Printed.{printing}
use Rattle.sd_command_line.specs.Words.{number}
use Rattle.sd_run.specs.Refusals.{RefusesFirst}

-- The work makes the file of this name or none, and before it the mark of this name or none. If it ends with a refusal
-- of words or files, it does nothing.
pub record IsOrderly (out mark : Option (List ℕ)) (work : Work) : Type 0 where
  pub makes : (made : Out) → work.out ≡ Some made → out ≡ Some made.name
  pub marks : (made : Mark) → work.mark ≡ Some made → mark ≡ Some made.name
  pub keeps : RefusesFirst work.ends → (work.out ≡ None) × (work.mark ≡ None) × (work.pieces ≡ [])

abbrev pub AreOrderly : Option (List ℕ) → Option (List ℕ) → Result Work Status → Type 0
AreOrderly out mark (Ok work) = IsOrderly out mark work
AreOrderly out mark (Err status) = Unit {0}

-- so is what comes after a step
pub orderly_after : {A : Type 0} (out mark : Option (List ℕ)) (first : Spec A) (next : A → Spec Work) →
    ((x : A) → AreOrderly out mark (next x).result) → AreOrderly out mark (first >>= next).result
orderly_after {A} out mark first next h = by_result first.result
  where
    by_result : (r : Result A Status) → AreOrderly out mark (and_then first.calls r next).result
    by_result (Ok x) = h x
    by_result (Err status) = tt

-- the kinds of work
pub same_name : (a b : Out) → Some a ≡ Some b → Some a.name ≡ Some b.name
same_name a b e = ap (option_map (λ (o : Out). o.name)) e

pub made_whole : (steps : StepBound) (out : FileArgument) (bytes : List ℕ) →
    IsOrderly (Some out.text) None (making steps out bytes)
made_whole steps out bytes = record {
  makes = λ made e. same_name (record { word = out.number; name = out.text; bytes = bytes }) made e;
  marks = λ made e. absurd (cc);
  keeps = λ refusal. absurd refusal;
}

pub made_new : (made : NewFile) (out : FileArgument) (got : Option (List ℕ)) →
    AreOrderly (Some out.text) None (making_new made out got).result
made_new made out None = record {
  makes = λ found e. same_name (out_file out made.bytes) found e;
  marks = λ made e. absurd (cc);
  keeps = λ refusal. absurd refusal;
}
made_new made out (Some bytes) = tt

pub turned : (steps : StepBound) (out : FileArgument) (bytes : List ℕ) (ends : Status) → (RefusesFirst ends → ⊥) →
    IsOrderly (Some out.text) None (turning steps out bytes ends)
turned steps out bytes ends apart = record {
  makes = λ made e. same_name (record { word = out.number; name = out.text; bytes = bytes }) made e;
  marks = λ made e. absurd (cc);
  keeps = λ refusal. absurd (apart refusal);
}

pub none_made : (work : Work) → work.out ≡ None → work.mark ≡ None → (RefusesFirst work.ends → work.pieces ≡ []) →
    IsOrderly None None work
none_made work none unmarked quiet = record {
  makes = λ made e. absurd (let both = sym none ∙ e in cc);
  marks = λ made e. absurd (let both = sym unmarked ∙ e in cc);
  keeps = λ refusal. (none, unmarked, quiet refusal);
}

-- the ends of streams refuse no words and no files
pub clear_apart : (end : StreamEnd) (refusal : Option ClearFault) → RefusesFirst (status_where end refusal) → ⊥
clear_apart Whole None e = e
clear_apart (Breaks found) None e = e
clear_apart RunsOn None e = e
clear_apart end (Some fault) e = e

pub sent_apart : (plan : Plan) (bytes : List ℕ) → RefusesFirst (sent_status plan bytes) → ⊥
unfolding sent_status
sent_apart plan bytes e = clear_apart (end_of bytes) (stream_refusal plan.site (packets_taken bytes) (end_of bytes)) e

pub stream_apart : (end : StreamEnd) → RefusesFirst (stream_status end) → ⊥
stream_apart Whole e = e
stream_apart (Breaks found) e = e
stream_apart RunsOn e = e

pub ending_apart : (leaf : ℕ) (ending : Ending) → RefusesFirst (ending_status leaf ending) → ⊥
ending_apart leaf end.Opened e = e
ending_apart leaf (end.Revoked period) e = e
ending_apart leaf (end.Unheard period) e = e
ending_apart leaf end.NoCat e = e
ending_apart leaf (end.Unclosed number) e = e
ending_apart leaf (end.Gaps packets) e = e

pub ended_apart : (card : CardFields) (packets : List (List ℕ)) → RefusesFirst (receive_end_status card packets) → ⊥
unfolding receive_end_status
ended_apart card packets e = ending_apart card.leaf _ e

pub received_apart : (card : CardFields) (packets : List (List ℕ)) (refusal : Option StreamFault) (end : StreamEnd) →
    RefusesFirst (unless_refused refusal (received_status_at card packets end)) → ⊥
received_apart card packets None Whole e = ended_apart card packets e
received_apart card packets None (Breaks found) e = e
received_apart card packets None RunsOn e = e
received_apart card packets (Some fault) end e = e

pub stream_received : (card : CardFields) (bytes : List ℕ) → RefusesFirst (received_status card bytes) → ⊥
unfolding received_status
stream_received card bytes e =
    received_apart card (packets_taken bytes) (break_from card [] (packets_taken bytes)) (end_of bytes) e

-- nor do those of a stream that is watched
pub watched_apart : (card : CardFields) (bytes : List ℕ) → RefusesFirst (watched_status card bytes) → ⊥
unfolding watched_status
watched_apart card bytes e =
    by_length (is_stream_too_long bytes) (ending_of card (reverse (counting card [] (readable bytes)))) e
  where
    by_length : (over : Bool) (ending : Ending) →
        RefusesFirst (if over then BadStream TooLong else ending_status card.leaf ending) → ⊥
    by_length true ending e = e
    by_length false ending e = ending_apart card.leaf ending e

pub watched : (card : CardFields) (out : FileArgument) (bytes : List ℕ) →
    IsOrderly (Some out.text) None (watching card out bytes)
watched card out bytes = record {
  makes = λ made e. same_name (record { word = out.number; name = out.text; bytes = watched_of card bytes }) made e;
  marks = λ made e. absurd (cc);
  keeps = λ refusal. absurd (watched_apart card bytes refusal);
}

-- nor do those of a broadcast on air
live_apart : (site : SiteFields) (bytes : List ℕ) → RefusesFirst (live_status site bytes) → ⊥
unfolding live_status
live_apart site bytes e = by_end (live_end site bytes) (is_stream_too_long bytes) (length (readable bytes)) e
  where
    by_end : (end : Option ℕ) (longer : Bool) (count : ℕ) → RefusesFirst (ended_by end longer count) → ⊥
    by_end (Some n) longer count e = e
    by_end None true count e = e
    by_end None false count e = e

pub aired : (plan : Plan) (site out : FileArgument) (bytes : List ℕ) →
    IsOrderly (Some out.text) (Some (used_name site.text)) (airing plan site out bytes)
aired plan site out bytes = record {
  makes = λ made e. same_name (record { word = out.number; name = out.text; bytes = live_sent plan bytes }) made e;
  marks = λ made e. ap (option_map (λ (m : Mark). m.name)) e;
  keeps = λ refusal. absurd (live_apart plan.site bytes refusal);
}

pub text_quiet : (text : Result (List ℕ) Status) → IsOrderly None None (printing text)
text_quiet (Ok text) = none_made (printing (Ok text)) refl refl (λ refusal. absurd refusal)
text_quiet (Err status) = none_made (printing (Err status)) refl refl (λ refusal. refl)
