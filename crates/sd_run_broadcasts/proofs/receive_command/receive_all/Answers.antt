use Rattle.std.proofs.Common.{◌≡◌, ℕ, Result, Ok, Err, inl, inr, refl, subst, sym, ◌∙◌}
use Rattle.sd_base.specs.Count.{IsCaused}
use Rattle.sd_engine.specs.declared.driver.DriveFault.{DriveFault}
use Rattle.sd_engine.specs.declared.driver.DriveFault.TheVariants as drive
use Rattle.sd_message.specs.declared.stream_fault.StreamFault.{StreamFault}
use Rattle.sd_command_base.specs.declared.status.Status.{Status}
use Rattle.sd_command_base.specs.declared.status.Status.TheVariants.{DepotFault}
use Rattle.sd_command_base.specs.Outcome.{IsEnding, status_of}
use Rattle.sd_command_base.specs.Turned.{HasPortCause}
use Rattle.sd_run_broadcasts.specs.Receive.{stopped_status}
use Rattle.sd_run_broadcasts.proofs.Received.{new_lives, left_ended, left_stopped}
use Rattle.sd_run_broadcasts.proofs.Unmade.{never_memory}
use Rattle.sd_run_broadcasts.proofs.receive_command.receive_all.Goals as goal

-- where no port failed
no_port : (from_before from_now out_before out_now : ℕ) (status : Status) → from_now ≡ from_before →
    out_now ≡ out_before → (status ≡ DepotFault → ⊥) →
    HasPortCause from_before from_now out_before out_now status
no_port from_before from_now out_before out_now status read written other = record {
  calm = λ _. (read, written);
  failed = λ e. absurd (other e);
}

-- what stops a drive is a device fault where a port failed
stopped_cause : (from_before from_now out_before out_now : ℕ) (why : DriveFault StreamFault) →
    IsCaused from_before from_now (◌≡◌ {A = Result ℕ (DriveFault StreamFault)} (Err why) (Err drive.ReadFault)) →
    IsCaused out_before out_now (◌≡◌ {A = Result ℕ (DriveFault StreamFault)} (Err why) (Err drive.WriteFault)) →
    HasPortCause from_before from_now out_before out_now (stopped_status why)
stopped_cause a b p q (drive.Broken found) read written =
    no_port a b p q _ (read.calm (λ e. cc)) (written.calm (λ e. cc)) (λ e. cc)
stopped_cause a b p q drive.TooLong read written =
    no_port a b p q _ (read.calm (λ e. cc)) (written.calm (λ e. cc)) (λ e. cc)
stopped_cause a b p q drive.ReadFault read written = record {
  calm = λ other. absurd (other refl);
  failed = λ _. inl (read.failed refl);
}
stopped_cause a b p q drive.WriteFault read written = record {
  calm = λ other. absurd (other refl);
  failed = λ _. inr (written.failed refl);
}
stopped_cause a b p q (drive.Refused why) read written =
    no_port a b p q _ (read.calm (λ e. cc)) (written.calm (λ e. cc)) (λ e. cc)

-- a drive that ended did not fail
ok_is_no_err : {P T E : Type 0} (x : T) (fault : E) → ◌≡◌ {A = Result T E} (Ok x) (Err fault) → P
ok_is_no_err x fault h = cc

pub drive-requires : goal.drive-requires
drive-requires g c = record { live = new_lives c.args.receiver c.requires.new }

pub returns-in-Ok-clause-value : goal.returns-in-Ok-clause-value
returns-in-Ok-clause-value g c =
    left_ended _ _ c.in-Ok.field-0 (status_of c.ended.result) c.requires.new c.in-Ok.ensures.value c.ended.ensures.value

pub returns-in-Ok-clause-cause : goal.returns-in-Ok-clause-cause
returns-in-Ok-clause-cause g c = record {
  calm = λ other. (
    c.in-Ok.ensures.read.calm (λ e. ok_is_no_err _ _ e),
    c.in-Ok.ensures.written.calm (λ e. ok_is_no_err _ _ e),
  );
  failed = λ fails. absurd (subst IsEnding fails c.ended.ensures.ending);
}

pub returns-clause-value : goal.returns-clause-value
returns-clause-value g c =
    left_stopped _ _ c.in-Err.fault c.stopped.result c.requires.new c.in-Err.ensures.value c.stopped.ensures

pub returns-in-Ok-clause-memory : goal.returns-in-Ok-clause-memory
returns-in-Ok-clause-memory g c = λ e. subst IsEnding e c.ended.ensures.ending

pub returns-clause-memory : goal.returns-clause-memory
returns-clause-memory g c = λ e. never_memory c.in-Err.fault (sym c.stopped.ensures ∙ e)

pub returns-clause-cause : goal.returns-clause-cause
returns-clause-cause g c =
    rw c.stopped.ensures (stopped_cause (g.S.Source.faults c.args.source.now) (g.S.Source.faults c.drive.new.source)
    (g.K.Sink.faults c.args.sink.now) (g.K.Sink.faults c.drive.new.sink) c.in-Err.fault c.in-Err.ensures.read
    c.in-Err.ensures.written)
