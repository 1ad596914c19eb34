-- The files that a trial had which is done.
use Rattle.std.proofs.Common.{◌≡◌, ℕ, zero, suc, ◌^◌, ◌≤◌, Bool, true, false, List, [], ◌∷◌, length}
use Rattle.std.proofs.Common.{Option, None, Some, Result, Ok, Err, refl, sym, ap, subst, ◌∙◌, append-nil, ltb-false}
use Rattle.std.specs.List.{concat}
use Rattle.std.specs.Io.KnownBytes.{Appends}
use Rattle.sd_ports.specs.Files.{Files}
use Rattle.sd_ports.specs.Bytes.{Prefix, prefix_of}
use Rattle.sd_site_cards.specs.SiteFields.{SiteFields}
use Rattle.sd_site_cards.specs.Text.{site_of, IsSite}
use Rattle.sd_book.specs.Text.{book_of}
use Rattle.sd_engine.specs.Taken.{StreamEnd, Whole, Breaks, RunsOn, packets_taken, end_of}
use Rattle.sd_spec.specs.Plan.{Plan, IsPlan}
use Rattle.sd_spec.specs.Refused.{whole_refusal}
use Rattle.sd_message.specs.declared.clear_fault.ClearFault.{ClearFault}
use Rattle.sd_law_broadcast.specs.Synced.{AreBytes}
use Rattle.sd_command_base.specs.declared.status.Status.{Status}
use Rattle.sd_command_base.specs.declared.status.Status.TheVariants.{Done, Usage, Missing, Revoked, DepotFault}
use Rattle.sd_command_base.specs.declared.status.Status.TheVariants.{PrintFault}
use Rattle.sd_command_base.specs.declared.status.Status.TheVariants.{BadSite, BadBook, BadCard, BadClear, BadStream}
use Rattle.sd_command_base.specs.declared.status.Status.TheVariants.{Limit}
use Rattle.sd_command_base.specs.declared.status.Status.TheVariants.{NoMemory, Unheard, Unclosed, Gaps, NoCat}
use Rattle.sd_command_base.specs.declared.status.Status.TheVariants.{BadWord, Clash, BadOut, SiteUsed, OtherBook}
use Rattle.sd_command_base.specs.declared.status.Status.TheVariants.{SiteUsedUp}
use Rattle.sd_command_base.specs.declared.status.LimitKind.TheVariants.{SiteBytes, BookBytes, TrialHeight}
use Rattle.sd_command_base.specs.Spec.{FileArgument, Readings, contents_of, whole_file_bytes, of_result, value, within}
use Rattle.sd_command_base.specs.Spec.{◌>>=◌}
use Rattle.sd_command_base.specs.Outside.{IoState}
use Rattle.sd_command_base.specs.Work.{Work}
use Rattle.sd_command_base.specs.Outcome.{PrintsAll}
use Rattle.sd_command_base.specs.Results.{RunResult}
use Rattle.sd_command_base.specs.Files.{most_site_bytes, most_book_bytes, site_or_status, book_or_status, site_of_file}
use Rattle.sd_command_base.specs.Files.{book_of_file, low_site_of_file, low_site_or_status}
use Rattle.sd_run_broadcasts.specs.Head.{sent_of, sent_status, status_where, stream_refusal}
use Rattle.sd_run_broadcasts.specs.Trial.{most_trial_height}
use Rattle.sd_run_broadcasts.specs.Trial.{trial_clear_bytes}
use Rattle.sd_run_broadcasts.specs.Prefixes.{prefix_of_file}
use Rattle.sd_run_broadcasts.proofs.Prefixes.{whole_prefix}
use Rattle.sd_run_broadcasts.specs.Trial.{trial_plan_by, trial_plan_meaning, sent_or, told_sent, told_line}
use Rattle.sd_command_base.specs.Printed.{printing}
use Rattle.sd_run_broadcasts.specs.Trial.{trial_receiver_line, then_line, lines_of_trial, trial_lines, trial_clear_line}
use Rattle.sd_run_broadcasts.specs.Trial.{trial_text}
use Rattle.sd_run_broadcasts.specs.Trial.{trying, trial_meaning}
use Rattle.sd_law_field.specs.Trials.{opened_lines}
use Rattle.sd_law_field.proofs.Tried.{trial_right, trial_done}
use Rattle.sd_law_run.specs.Tried.{IsTried}
use Rattle.sd_law_formats.proofs.SayableSites.{ca_fits}
use Rattle.sd_law_run.proofs.Outs.{done_leaves}
use Rattle.sd_law_run.proofs.Readable.{low_taken}
use Rattle.sd_law_run.proofs.Sent.{then_ok, value_is, site_right, book_right, all_read}

-- no step of a trial is refused as done
sent_refused : (end : StreamEnd) (refusal : Option ClearFault) (more : Bool) (sent : List ℕ) →
    sent_or (status_where end refusal) more sent ≡ Err Done → ⊥
sent_refused Whole None false sent e = absurd (cc)
sent_refused Whole None true sent e = absurd (cc)
sent_refused (Breaks found) None more sent e = absurd (cc)
sent_refused RunsOn None more sent e = absurd (cc)
sent_refused end (Some fault) more sent e = absurd (cc)

told_refused : (plan : Plan) (prefix : Prefix) → told_sent plan prefix ≡ Err Done → ⊥
unfolding told_sent sent_status
told_refused plan prefix e =
    sent_refused (end_of prefix.bytes) (stream_refusal plan.site (packets_taken prefix.bytes) (end_of prefix.bytes))
    prefix.more
    (sent_of plan prefix.bytes) e

line_refused : (u wrote : ℕ) (status : Status) → told_line u wrote status ≡ Err Done → ⊥
line_refused u wrote Done e = absurd (cc)
line_refused u wrote Usage e = absurd (cc)
line_refused u wrote (Missing word) e = absurd (cc)
line_refused u wrote (Revoked leaf period) e = absurd (cc)
line_refused u wrote DepotFault e = absurd (cc)
line_refused u wrote PrintFault e = absurd (cc)
line_refused u wrote (BadSite word fault text) e = absurd (cc)
line_refused u wrote (BadBook word line) e = absurd (cc)
line_refused u wrote (BadCard word fault) e = absurd (cc)
line_refused u wrote (BadClear refusal) e = absurd (cc)
line_refused u wrote (BadStream refusal) e = absurd (cc)
line_refused u wrote (Limit limit) e = absurd (cc)
line_refused u wrote NoMemory e = absurd (cc)
line_refused u wrote (Unheard leaf period) e = absurd (cc)
line_refused u wrote (Unclosed number) e = absurd (cc)
line_refused u wrote (Gaps packets) e = absurd (cc)
line_refused u wrote NoCat e = absurd (cc)
line_refused u wrote (BadWord word) e = absurd (cc)
line_refused u wrote (Clash clash) e = absurd (cc)
line_refused u wrote (BadOut word cause) e = absurd (cc)
line_refused u wrote SiteUsed e = absurd (cc)
line_refused u wrote OtherBook e = absurd (cc)
line_refused u wrote (SiteUsedUp packet) e = absurd (cc)

receiver_refused : (site : SiteFields) (bytes : List ℕ) (u : ℕ) → trial_receiver_line site bytes u ≡ Err Done → ⊥
unfolding trial_receiver_line
receiver_refused site bytes u e = line_refused u _ _ e

then_refused : (text line : Result (List ℕ) Status) → (text ≡ Err Done → ⊥) → (line ≡ Err Done → ⊥) →
    then_line text line ≡ Err Done → ⊥
then_refused (Ok text) (Ok line) a b e = absurd (cc)
then_refused (Ok text) (Err status) a b e = b (ap (λ (r : Result (List ℕ) Status). r) e)
then_refused (Err status) line a b e = a e

lines_refused : (site : SiteFields) (bytes first : List ℕ) (n : ℕ) → lines_of_trial site bytes first n ≡ Err Done → ⊥
unfolding lines_of_trial
lines_refused site bytes first zero e = absurd (cc)
lines_refused site bytes first (suc n) e =
    then_refused (lines_of_trial site bytes first n) (trial_receiver_line site bytes n)
    (lines_refused site bytes first n)
    (receiver_refused site bytes n) e

all_refused : (plan : Plan) (clear : ℕ) (sent : Result (List ℕ) Status) → (sent ≡ Err Done → ⊥) →
    trial_lines plan clear sent ≡ Err Done → ⊥
all_refused plan clear (Ok sent) a e =
    lines_refused plan.site sent (trial_clear_line _ _) (2 ^ plan.site.height) e
all_refused plan clear (Err status) a e = a e

text_refused : (plan : Plan) (prefix : Prefix) → trial_text plan prefix ≡ Err Done → ⊥
unfolding trial_text
text_refused plan prefix e =
    all_refused plan (length prefix.bytes) (told_sent plan prefix) (told_refused plan prefix) e

-- so a trial that is done has its text
pub has_text : (told : Result (List ℕ) Status) → (told ≡ Err Done → ⊥) → (printing told).ends ≡ Done →
    (text : List ℕ) × (told ≡ Ok text)
has_text (Ok text) a e = (text, refl)
has_text (Err status) a e = absurd (a (ap (λ (s : Status). Err s) e))

pub pieces_are : (told : Result (List ℕ) Status) (text : List ℕ) → told ≡ Ok text → (printing told).pieces ≡ text ∷ []
pieces_are told text e = ap (λ (r : Result (List ℕ) Status). (printing r).pieces) e

-- and all of its stream was short enough
all_of_it : (most : ℕ) (bytes : List ℕ) → (prefix_of most bytes).more ≡ false →
    (prefix_of most bytes ≡ record { bytes = bytes; more = false }) × (length bytes ≤ most)
all_of_it most bytes e = (whole_prefix most bytes short, short)
  where
    short : length bytes ≤ most
    short = ltb-false most (length bytes) e

low_plan : (site book : FileArgument) (given : Readings) (plan : Plan) →
    (trial_plan_meaning site book given).result ≡ Ok plan →
    IsPlan plan × (plan.site.height ≤ most_trial_height)
unfolding trial_plan_by low_site_of_file site_of_file book_of_file
low_plan site book given plan e =
    let fields = then_ok (low_site_of_file site.number most_trial_height TrialHeight (given site))
    (λ fields. book_of_file book.number fields.height (given book) >>= λ commands.
    value (record { site = fields; commands = commands })) plan e in
    let commands = then_ok (book_of_file book.number fields.from.height (given book))
    (λ commands. value (record { site = fields.from; commands = commands })) plan fields.next_is in
    let any = then_ok (site_of_file site.number (given site))
    (λ site. of_result (low_site_or_status most_trial_height TrialHeight site)) fields.from fields.first_is in
    let low = low_taken most_trial_height TrialHeight any.from fields.from any.next_is in
    let site_read = then_ok (within site.number most_site_bytes SiteBytes (given site))
    (λ bytes. of_result (site_or_status site.number bytes (site_of bytes))) any.from any.first_is in
    let book_read = then_ok (within book.number most_book_bytes BookBytes (given book))
    (λ bytes. of_result (book_or_status book.number fields.from.height bytes (book_of fields.from.height bytes)))
    commands.from commands.first_is in
    let is_site = subst (IsSite site_read.from) low.0
    (site_right site.number site_read.from any.from site_read.next_is) in
    let is_within = book_right book.number fields.from.height book_read.from commands.from book_read.next_is in
    let made : Plan = record { site = fields.from; commands = commands.from } in
    subst (λ (p : Plan). IsPlan p × (p.site.height ≤ most_trial_height)) (value_is made plan commands.next_is) (
      record { site = is_site.ranges; ca = ca_fits site_read.from fields.from is_site; book = is_within },
      low.1,
    )

-- what is printed is the lines of a stream of which no packet is refused
lines_printed : (plan : Plan) (bytes text : List ℕ) (work : Work) (a b : IoState) → IsPlan plan →
    trial_text plan (record { bytes = bytes; more = false }) ≡ Ok text → work.pieces ≡ text ∷ [] →
    PrintsAll work a.page b.page → AreBytes bytes →
    Appends a.page.printed b.page.printed (opened_lines plan (packets_taken bytes) (2 ^ plan.site.height))
lines_printed plan bytes text work a b is told pieces printed are =
    let lines = opened_lines plan (packets_taken bytes) (2 ^ plan.site.height) in
    let done = trial_done plan (record { bytes = bytes; more = false }) text is are told in
    let printed_is : concat work.pieces ≡ lines = ap concat pieces ∙ (append-nil text ∙ done.3) in
    subst (λ (l : List ℕ). Appends a.page.printed b.page.printed l) printed_is printed

-- a trial that is done had good files and printed their lines
pub trial_tried : (site book clear : FileArgument) (files : Files) (a b : IoState) → a.place.files ≡ Some files →
    RunResult (trial_meaning site book clear) a b Done → IsTried site book clear files a b
unfolding trial_meaning prefix_of_file
trial_tried site book clear files a b known answers =
    let given = contents_of files in
    let most = trial_clear_bytes in
    let done = done_leaves (trial_meaning site book clear) files a b Done known refl answers in
    let plan = then_ok (trial_plan_meaning site book given)
    (λ plan. prefix_of_file clear.number most (given clear) >>= λ prefix. value (trying plan prefix)) done.work
    done.is_meant in
    let prefix = then_ok (prefix_of_file clear.number most (given clear)) (λ prefix. value (trying plan.from prefix))
    done.work plan.next_is in
    let same = value_is (trying plan.from prefix.from) done.work prefix.next_is in
    let read = then_ok (whole_file_bytes clear.number (given clear)) (λ bytes. value (prefix_of most bytes)) prefix.from
    prefix.first_is in
    let cut = value_is (prefix_of most read.from) prefix.from read.next_is in
    let text = has_text (trial_text plan.from prefix.from) (text_refused plan.from prefix.from)
    (ap (λ (w : Work). w.ends) same ∙ done.ends) in
    let right = trial_right plan.from prefix.from text.0 text.1 in
    let all = all_of_it most read.from (ap (λ (p : Prefix). p.more) cut ∙ right.2) in
    let is = low_plan site book given plan.from plan.first_is in
    let whole : Prefix = record { bytes = read.from; more = false } in
    let whole_is : prefix.from ≡ whole = sym cut ∙ all.0 in
    let pieces : done.work.pieces ≡ text.0 ∷ [] =
    ap (λ (w : Work). w.pieces) (sym same) ∙ pieces_are (trial_text plan.from prefix.from) text.0 text.1 in
    record {
      plan = plan.from;
      said = plan.first_is;
      is_plan = is.0;
      low = is.1;
      bytes = read.from;
      there = all_read clear.number (given clear) read.from read.first_is;
      short = all.1;
      whole = subst (λ (p : Prefix). end_of p.bytes ≡ Whole) whole_is right.0;
      is_clear = subst (λ (p : Prefix). whole_refusal plan.from.site (packets_taken p.bytes) ≡ None) whole_is right.1;
      printed = lines_printed plan.from read.from text.0 done.work a b is.0
          (ap (trial_text plan.from) (sym whole_is) ∙ text.1) pieces done.printed;
    }
