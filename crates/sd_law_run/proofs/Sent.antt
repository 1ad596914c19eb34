-- What `head` sent where it is done.
use Rattle.std.proofs.Common.{◌≡◌, ℕ, ◌-◌, ◌≤◌, ◌++◌, Bool, true, false, cond, List, [], ◌∷◌, length, Option}
use Rattle.std.proofs.Common.{Some, None}
use Rattle.std.proofs.Common.{Result, Ok, Err, refl, sym, ap, subst, ◌∙◌}
use Rattle.std.specs.FinMap.{insert}
use Rattle.std.specs.List.{concat}
use Rattle.std.proofs.lemmas.List.Elements.{All-weaker}
use Rattle.sd_ports.specs.Files.{Files}
use Rattle.sd_site_cards.specs.SiteFields.{SiteFields}
use Rattle.sd_site_cards.specs.Text.{book_line_of, site_of, IsSite}
use Rattle.sd_site_cards.specs.declared.book_line.BookLine.{BookLine}
use Rattle.sd_site_cards.specs.declared.site_fault.SiteFault.{SiteFault}
use Rattle.sd_site_cards.proofs.Alone.{said_is_site}
use Rattle.sd_book.specs.declared.command.Command.{Command}
use Rattle.sd_book.specs.declared.fault.BookFault.{BookFault}
use Rattle.sd_book.specs.Limits.{IsWithinLimits, IsDraft}
use Rattle.sd_book.specs.Text.{judged_book_line, book_commands as judged_lines, said_by_book, book_of}
use Rattle.sd_book.proofs.Judged.{bind_ok, ended_ok, judged_none, judged_more, within_at_end}
use Rattle.sd_engine.specs.Taken.{StreamEnd, Whole, Breaks, RunsOn, packets_taken, end_of}
use Rattle.sd_spec.specs.Plan.{Plan, IsPlan, period_of}
use Rattle.sd_spec.specs.Refused.{IsClear, whole_refusal}
use Rattle.sd_spec.specs.Sent.{broadcast}
use Rattle.sd_message.specs.declared.clear_fault.ClearFault.{ClearFault}
use Rattle.sd_law_broadcast.specs.Named.{sets_named, NamesPeriod}
use Rattle.sd_law_broadcast.specs.Packets.{IsWholePacket}
use Rattle.sd_law_broadcast.proofs.Covering.{period_named}
use Rattle.sd_law_broadcast.specs.Synced.{AreBytes}
use Rattle.sd_law_broadcast.proofs.Cut.{taken_synced, taken_whole}
use Rattle.sd_law_broadcast.proofs.Taken.{broadcast_taken}
use Rattle.sd_law_broadcast.proofs.Sendable.{clear_sendable}
use Rattle.sd_command_base.specs.declared.status.Status.{Status}
use Rattle.sd_command_base.specs.declared.status.Status.TheVariants.{Done, OtherBook}
use Rattle.sd_command_base.specs.Spec.{Spec, FileArgument, Readings, contents_of, and_then, whole_file_bytes, of_result}
use Rattle.sd_command_base.specs.Spec.{value}
use Rattle.sd_command_base.specs.Spec.{within}
use Rattle.sd_command_base.specs.Spec.{◌>>=◌}
use Rattle.sd_command_base.specs.Outside.{IoState}
use Rattle.sd_command_base.specs.Work.{Work, files_marked, files_with}
use Rattle.sd_command_base.specs.Results.{RunResult}
use Rattle.sd_command_base.specs.declared.status.LimitKind.TheVariants.{SiteBytes, BookBytes}
use Rattle.sd_command_line.specs.Words.{Order, HeadOf, order_of}
use Rattle.sd_command_base.specs.Files.{is_book, most_site_bytes, most_book_bytes, own_book_of_file, book_or_status}
use Rattle.sd_command_base.specs.Files.{own_book_or_status, site_or_status}
use Rattle.sd_run_broadcasts.specs.Head.{status_where, sent_status, sending, sending_of, stream_refusal}
use Rattle.sd_run_broadcasts.specs.Head.{head_plan_by, head_plan_meaning}
use Rattle.sd_run_broadcasts.specs.Head.{head_meaning, site_and_line_of_file, with_line}
use Rattle.sd_run.specs.Meaning.{order_meaning, meaning}
use Rattle.sd_law_run.specs.Sent.{IsSent}
use Rattle.sd_law_formats.proofs.SayableSites.{ca_fits}
use Rattle.sd_law_run.proofs.Outs.{done_leaves}
use Rattle.sd_run_broadcasts.proofs.HeadSending.{sent_whole}
use Rattle.sd_run_broadcasts.proofs.Refusals.{ended_whole, none_whole}

-- what came before a step that came to a value
pub record ThenOk {A B : Type 0} (first : Spec A) (next : A → Spec B) (y : B) : Type 0 where
  pub from : A
  pub first_is : first.result ≡ Ok from
  pub next_is : (next from).result ≡ Ok y

pub then_ok : {A B : Type 0} (first : Spec A) (next : A → Spec B) (y : B) → (first >>= next).result ≡ Ok y →
    ThenOk first next y
then_ok {A} {B} first next y e = by_result first.result refl e
  where
    by_result : (r : Result A Status) → first.result ≡ r → (and_then first.calls r next).result ≡ Ok y →
        ThenOk first next y
    by_result (Ok x) f e = record { from = x; first_is = f; next_is = e }
    by_result (Err s) f e = absurd (cc)

-- a value is what it is answered as
pub value_is : {A : Type 0} (x y : A) → (value x).result ≡ Ok y → x ≡ y
value_is x y e = cc

-- the site that a file says is in its ranges
pub site_right : (word : ℕ) (bytes : List ℕ) (site : SiteFields) → site_or_status word bytes (site_of bytes) ≡ Ok site →
    IsSite bytes site
site_right word bytes site e = by_answer (site_of bytes) refl e
  where
    by_answer : (r : Result SiteFields SiteFault) → site_of bytes ≡ r → site_or_status word bytes r ≡ Ok site →
        IsSite bytes site
    by_answer (Ok found) f e =
        let same : found ≡ site = cc in said_is_site bytes site (f ∙ ap (λ (s : SiteFields). Ok s) same)
    by_answer (Err fault) f e = absurd (cc)

-- the commands that a book says are within the limits
lines_within : (d : ℕ) (before : List Command) (said : List (Option Command)) (commands : List Command) →
    IsDraft d before → judged_lines d before said ≡ Ok commands → IsWithinLimits d commands
lines_within d before [] commands all e =
    let few = ended_ok d before before commands e in
    subst (IsWithinLimits d) few.1 (within_at_end d before all few.0)
lines_within d before (said ∷ rest) commands all e =
    let one = bind_ok (judged_book_line d before said) (λ c. judged_lines d (before ++ c ∷ []) rest) commands e in
    lines_within d (before ++ one.0 ∷ []) rest commands (judged_more d before said one.0 all one.1) one.2

pub book_right : (word d : ℕ) (bytes : List ℕ) (commands : List Command) →
    book_or_status word d bytes (book_of d bytes) ≡ Ok commands → IsWithinLimits d commands
unfolding book_of
book_right word d bytes commands e = by_answer (judged_lines d [] (said_by_book bytes)) refl e
  where
    by_answer : (r : Result (List Command) BookFault) → judged_lines d [] (said_by_book bytes) ≡ r →
        book_or_status word d bytes r ≡ Ok commands → IsWithinLimits d commands
    by_answer (Ok found) f e =
        let same : found ≡ commands = cc in
        lines_within d [] (said_by_book bytes) commands (judged_none d) (f ∙ ap (λ (c : List Command). Ok c) same)
    by_answer (Err fault) f e = absurd (cc)

-- a site that was read with its line 13
line_right : (line : Option BookLine) (r : Result SiteFields Status) (said : SiteFields × Option BookLine) →
    with_line line r ≡ Ok said → r ≡ Ok said.0
line_right line (Ok found) said e = cc
line_right line (Err status) said e = absurd (cc)

-- a book that is the site's own
own_right : (own : Bool) (r : Result (List Command) Status) (commands : List Command) →
    cond own r (Err OtherBook) ≡ Ok commands → r ≡ Ok commands
own_right true r commands e = e
own_right false r commands e = absurd (cc)

-- so the two are a plan
plan_right : (site book : FileArgument) (given : Readings) (plan : Plan) →
    (head_plan_meaning site book given).result ≡ Ok plan →
    IsPlan plan
unfolding head_plan_by site_and_line_of_file own_book_of_file
plan_right site book given plan e =
    let said = then_ok (site_and_line_of_file site.number (given site))
    (λ said. own_book_of_file book.number said.0.height said.1 (given book) >>= λ commands.
    value (record { site = said.0; commands = commands })) plan e in
    let fields = said.from.0 in
    let line = said.from.1 in
    let commands = then_ok (own_book_of_file book.number fields.height line (given book))
    (λ commands. value (record { site = fields; commands = commands })) plan said.next_is in
    let site_read = then_ok (within site.number most_site_bytes SiteBytes (given site))
    (λ bytes. of_result (with_line (book_line_of bytes) (site_or_status site.number bytes (site_of bytes)))) said.from
    said.first_is in
    let book_read = then_ok (within book.number most_book_bytes BookBytes (given book))
    (λ bytes. of_result (own_book_or_status book.number fields.height line bytes)) commands.from commands.first_is in
    let is_site = site_right site.number site_read.from fields
    (line_right (book_line_of site_read.from) (site_or_status site.number site_read.from (site_of site_read.from))
    said.from
    site_read.next_is) in
    let is_within = book_right book.number fields.height book_read.from commands.from
    (own_right (is_book line book_read.from)
    (book_or_status book.number fields.height book_read.from (book_of fields.height book_read.from)) commands.from
    book_read.next_is) in
    let made : Plan = record { site = fields; commands = commands.from } in
    subst IsPlan (value_is made plan commands.next_is) (record {
      site = is_site.ranges;
      ca = ca_fits site_read.from fields is_site;
      book = is_within;
    })

-- all bytes of a file that was there
pub all_read : (word : ℕ) (got : Option (List ℕ)) (bytes : List ℕ) → (whole_file_bytes word got).result ≡ Ok bytes →
    got ≡ Some bytes
all_read word None bytes e = absurd (cc)
all_read word (Some found) bytes e = let same : found ≡ bytes = cc in ap (λ (b : List ℕ). Some b) same

-- a stream that is sent to the end is whole, and not refused
status_right : (end : StreamEnd) (refusal : Option ClearFault) → status_where end refusal ≡ Done →
    (end ≡ Whole) × (refusal ≡ None)
status_right Whole None e = (refl, refl)
status_right (Breaks found) None e = absurd (cc)
status_right RunsOn None e = absurd (cc)
status_right end (Some fault) e = absurd (cc)

status_is : (plan : Plan) (bytes : List ℕ) → sent_status plan bytes ≡ Done →
    (end_of bytes ≡ Whole) × (whole_refusal plan.site (packets_taken bytes) ≡ None)
unfolding sent_status
status_is plan bytes e =
    let right = status_right (end_of bytes) (stream_refusal plan.site (packets_taken bytes) (end_of bytes)) e in
    (right.0, ended_whole plan.site (packets_taken bytes) (end_of bytes) right.0 right.1)

-- each period of a broadcast names its cover in the file that the broadcast is
pub file_names : (plan : Plan) (bytes : List ℕ) (q : ℕ) → IsPlan plan → IsClear plan.site (packets_taken bytes) →
    AreBytes bytes → plan.site.first_period ≤ q → q ≤ period_of plan (length (packets_taken bytes) - 1) →
    NamesPeriod plan q (sets_named plan.site.height plan.site.emm q
    (packets_taken (concat (broadcast plan (packets_taken bytes)))))
file_names plan bytes q is all bytes_are from within =
    let clear : List (List ℕ) = packets_taken bytes in
    let whole = taken_whole bytes bytes_are in
    let can = clear_sendable plan.site clear all in
    let taken = broadcast_taken plan clear is can whole (taken_synced bytes) in
    let long = All-weaker IsWholePacket (λ (packet : List ℕ). length packet ≡ 188) (λ packet w. w.long) clear whole in
    subst (λ (ps : List (List ℕ)). NamesPeriod plan q (sets_named plan.site.height plan.site.emm q ps)) (sym taken.0)
    (period_named plan clear q is can long from within)

module _ (words : List (List ℕ)) (site book clear out : FileArgument) (files : Files) (a b : IoState)
    (order : order_of words ≡ Ok (HeadOf site book clear out)) (known : a.place.files ≡ Some files) where
  -- by the work that was done
  sent_work : (work : Work) → (head_meaning site book clear out (contents_of files)).result ≡ Ok work →
      work.ends ≡ Done →
      b.place.files ≡ files_with work.out (files_marked work.mark (Some files)) → IsSent site book clear out files b
  unfolding head_meaning
  sent_work work meant ends left =
      let given = contents_of files in
      let plan = then_ok (head_plan_meaning site book given) (sending_of clear out (given clear)) work meant in
      let bytes = then_ok (whole_file_bytes clear.number (given clear)) (λ bytes. value (sending plan.from out bytes))
      work
      plan.next_is in
      let same = value_is (sending plan.from out bytes.from) work bytes.next_is in
      let status = status_is plan.from bytes.from (ap (λ (w : Work). w.ends) same ∙ ends) in
      let all = (none_whole plan.from.site (packets_taken bytes.from) status.1).0 in
      let is_plan = plan_right site book given plan.from plan.first_is in
      let sent = sent_whole plan.from bytes.from status.1 status.0 in
      record {
        plan = plan.from;
        said = plan.first_is;
        is_plan = is_plan;
        bytes = bytes.from;
        there = all_read clear.number (given clear) bytes.from bytes.first_is;
        whole = status.0;
        is_clear = status.1;
        made =
            left
            ∙ (ap (λ (w : Work). files_with w.out (files_marked w.mark (Some files))) (sym same)
            ∙ ap (λ (bs : List ℕ). Some (insert files out.text bs)) (sym sent.0));
        periods = λ are q from low. file_names plan.from bytes.from q is_plan all are from low;
      }

  -- by the answer
  pub head_done : RunResult (meaning words) a b Done → IsSent site book clear out files b
  head_done answers =
      let done = done_leaves (meaning words) files a b Done known refl answers in
      sent_work done.work
      (sym (ap (λ (r : Result Order Status). (of_result r >>= λ o. order_meaning o (contents_of files)).result) order)
      ∙ done.is_meant)
      done.ends
      (done.made.files ∙ ap (λ (fs : Option Files). files_with done.work.out (files_marked done.work.mark fs)) known)
