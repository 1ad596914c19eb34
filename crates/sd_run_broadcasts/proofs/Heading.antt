-- What comes of a clear stream that a head end sends into OUT.
use Rattle.std.proofs.Common.{◌≡◌, ◌≢◌, ℕ, List, [], Option, Some, None, Result, Ok, Err, refl}
use Rattle.std.proofs.Common.{sym, ap, subst, ◌∙◌, inl, inr}
use Rattle.std.specs.Prelude.{IsErrOf}
use Rattle.sd_base.specs.Count.{IsCaused}
use Rattle.sd_ports.specs.Files.{Files}
use Rattle.sd_engine.specs.Driving.{DriveState, DriveOutcome}
use Rattle.sd_engine.proofs.Taken.{is_over}
use Rattle.sd_engine.specs.declared.driver.DriveFault.{DriveFault}
use Rattle.sd_engine.specs.declared.driver.DriveFault.TheVariants as drive
use Rattle.sd_spec.specs.Plan.{Plan}
use Rattle.sd_message.specs.declared.clear_fault.ClearFault.{ClearFault}
use Rattle.sd_head.specs.declared.fault.HeadFault.{HeadFault}
use Rattle.sd_head.specs.declared.fault.HeadFault.TheVariants as head
use Rattle.sd_head.specs.declared.head.Head.{Head}
use Rattle.sd_head.specs.Schedule.{IsDue}
use Rattle.sd_head.specs.Staged.{IsHeadEndAfter, head_does, head_ends, head_refuses, RefusesClearPacket}
use Rattle.sd_command_base.specs.declared.status.Status.{Status}
use Rattle.sd_command_base.specs.declared.status.Status.TheVariants.{DepotFault}
use Rattle.sd_command_base.specs.Outside.{DepotState, PageState, IoState, io_state}
use Rattle.sd_command_base.specs.Spec.{Spec, FileArgument, IsReadingOfFile, ◌>>=◌}
use Rattle.sd_command_base.specs.Outcome.{OutcomeWithin, Implements}
use Rattle.sd_command_base.specs.Reads.{FilesOutcome}
use Rattle.sd_command_base.proofs.Firsts.{first_obeys}
use Rattle.sd_command_base.proofs.Moves.{then_obeys}
use Rattle.sd_command_base.specs.Turned.{HasPortCause, StreamWritten}
use Rattle.sd_command_base.proofs.Thirds.{more_given}
use Rattle.sd_run_broadcasts.specs.Head.{head_plan_by, head_plan_meaning, sending_of, head_meaning, refusal_in}
use Rattle.sd_run_broadcasts.specs.Head.{head_stop_status}
use Rattle.sd_run_broadcasts.specs.Head.{sent_told}
use Rattle.sd_run_broadcasts.specs.Head.{SendsLeft, sent_of, sent_status}
use Rattle.sd_run_broadcasts.proofs.HeadSending.{IsHeadEnd, IsDueAt, wrote_sent}

-- what is due of a head end is a refusal of a packet or of the end, or that memory was out
due_at : (plan : Plan) (before : List (List ℕ)) (packet : Option (List ℕ)) (fault : HeadFault) →
    IsDue plan before packet fault →
    IsDueAt plan before packet (refusal_in fault)
due_at plan before None (head.Clear fault) h = h
due_at plan before (Some packet) (head.Clear fault) h = h
due_at plan before None head.NoMemory h = tt
due_at plan before (Some packet) head.NoMemory h = tt

kept_or_due : (plan : Plan) (before : List (List ℕ)) (s : Head) (packet : Option (List ℕ)) (fault : HeadFault)
    (bytes : List ℕ) →
    IsHeadEndAfter plan before s → RefusesClearPacket s packet fault bytes →
    IsDueAt plan before packet (refusal_in fault)
kept_or_due plan before s packet fault bytes a h = elim h.cause [
  | inl kept ↦ let none : None ≡ Some fault = sym a.unrefused ∙ kept in absurd (cc)
  | inr due ↦ due_at plan before packet fault (due plan before a)
]

-- the head end is one
is_head_end : (plan : Plan) → IsHeadEnd plan head_does head_ends head_refuses refusal_in (IsHeadEndAfter plan)
is_head_end plan = record {
  step = λ before s packet t bytes n a does. does plan before a;
  last = λ before s t bytes n a ends. (ends.0 plan before a, (ends.1 plan before a).0);
  refusal = λ before s packet fault t bytes n a refuses. (
    refuses.nothing,
    kept_or_due plan before s packet fault bytes
        a refuses,
  );
}

-- what was sent for the stream that was left
pub sends_left : (plan : Plan) (a b : DriveState Head) (result : Result ℕ (DriveFault HeadFault)) (status : Status) →
    IsHeadEndAfter plan [] a.stage →
    DriveOutcome head_does head_ends head_refuses a b result → status ≡ sent_told refusal_in result →
    SendsLeft plan a.left a.sink.held b.sink.held status
sends_left plan a b result status stands drives is =
    let over = is_over head_does head_ends head_refuses a b result drives in record {
      bytes = over.bytes;
      is_left = over.left;
      wrote = subst (λ (s : Status). StreamWritten (sent_of plan over.bytes) (sent_status plan over.bytes) a.sink.held
          b.sink.held s) (sym is)
          (wrote_sent plan head_does head_ends head_refuses refusal_in (IsHeadEndAfter plan)
          (is_head_end plan) over.bytes a b
          result stands over.drives);
    }

-- the head end keeps to its plan
pub by_plan : (own plan : Plan) (bytes : List ℕ) (before now : Option (List ℕ)) (status : Status) → own ≡ plan →
    StreamWritten (sent_of own bytes) (sent_status own bytes) before now status → StreamWritten (sent_of plan bytes)
    (sent_status plan bytes) before now status
by_plan own plan bytes before now status is h =
    subst (λ (p : Plan). StreamWritten (sent_of p bytes) (sent_status p bytes) before now status) is h

-- no refusal is the device's fault
refused_apart : (o : Option ClearFault) → head_stop_status o ≢ DepotFault
refused_apart None = λ e. cc
refused_apart (Some fault) = λ e. cc

-- the device failed where a read or a write did
pub port_caused : (f g i j : ℕ) (result : Result ℕ (DriveFault HeadFault)) (status : Status) →
    status ≡ sent_told refusal_in result →
    IsCaused f g (IsErrOf result drive.ReadFault) → IsCaused i j (IsErrOf result drive.WriteFault) →
    HasPortCause f g i j status
port_caused f g i j (Ok count) status is read written = record {
  calm = λ n. (read.calm (λ e. cc), written.calm (λ e. cc));
  failed = λ e. absurd (let same = sym is ∙ e in cc);
}
port_caused f g i j (Err (drive.Broken found)) status is read written = record {
  calm = λ n. (read.calm (λ e. cc), written.calm (λ e. cc));
  failed = λ e. absurd (let same = sym is ∙ e in cc);
}
port_caused f g i j (Err drive.TooLong) status is read written = record {
  calm = λ n. (read.calm (λ e. cc), written.calm (λ e. cc));
  failed = λ e. absurd (let same = sym is ∙ e in cc);
}
port_caused f g i j (Err drive.ReadFault) status is read written =
    record { calm = λ n. absurd (n is); failed = λ e. inl (read.failed refl) }
port_caused f g i j (Err drive.WriteFault) status is read written =
    record { calm = λ n. absurd (n is); failed = λ e. inr (written.failed refl) }
port_caused f g i j (Err (drive.Refused fault)) status is read written = record {
  calm = λ n. (read.calm (λ e. cc), written.calm (λ e. cc));
  failed = λ e. absurd (refused_apart (refusal_in fault) (sym is ∙ e));
}

-- a plan that was read, and then what is meant by it and the third file
pub plan_follows : {X : Type 0} (view : X →
    Plan) (site book clear out : FileArgument) (got : Option (List ℕ)) (p q : DepotState) (page : PageState) (steps : ℕ)
    (b : IoState) (x : X) (status : Status) → site.number ≢ clear.number → book.number ≢ clear.number →
    FilesOutcome view (head_plan_meaning site book) p q (Ok x) → IsReadingOfFile q.files clear.text got →
    OutcomeWithin (sending_of clear out got (view x)) (io_state q page steps) b status →
    Implements (head_meaning site book clear out) (io_state p page steps) b status
unfolding head_meaning
plan_follows {X} view site book clear out got p q page steps b x status sc bc read is_got obeys =
    let same : q.files ≡ p.files = ap (λ (z : DepotState). z.files) read.gives.1 in
    let g = more_given p.files read.given site book clear got read.is_given
    (subst (λ (f : Option Files). IsReadingOfFile f clear.text got) same is_got) sc bc in
    let one : head_plan_by site.number book.number (read.given site) (read.given book)
    ≡ head_plan_meaning site book g.more =
    ap (λ (o : Option (List ℕ)). head_plan_by site.number book.number o (read.given book)) (sym g.first)
    ∙ ap (λ (o : Option (List ℕ)). head_plan_by site.number book.number (g.more site) o) (sym g.second) in
    record {
      given = g.more;
      is_given = g.is_more;
      obeyed =
          subst (λ (o : Option (List ℕ)). OutcomeWithin (head_plan_meaning site book g.more >>= sending_of clear out o)
          (io_state p page steps) b status)
          (sym g.gave)
          (subst (λ (m : Spec Plan). OutcomeWithin (m >>= sending_of clear out got) (io_state p page steps) b status)
          one
          (then_obeys (head_plan_meaning site book read.given) (view x) (sending_of clear out got) p q page steps b
          status
          read.gives.0 read.gives.1
          obeys));
    }

-- a plan that was not read
pub no_plan : {X : Type 0} (view : X →
    Plan) (site book clear out : FileArgument) (p q : DepotState) (page : PageState) (steps : ℕ) (status : Status) →
    FilesOutcome view (head_plan_meaning site book) p q (Err status) →
    Implements (head_meaning site book clear out) (io_state p page steps) (io_state q page steps) status
unfolding head_meaning
no_plan view site book clear out p q page steps status read = record {
  given = read.given;
  is_given = read.is_given;
  obeyed = first_obeys (head_plan_meaning site book read.given) (sending_of clear out (read.given clear)) p q page steps
      status read.gives;
}
