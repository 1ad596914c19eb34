use Rattle.std.proofs.Common.{Err, ap, inl, inr, refl}
use Rattle.sd_field.specs.declared.fault.FieldFault.{FieldFault}
use Rattle.sd_run_broadcasts.proofs.Playing.{moved_on}
use Rattle.sd_run_broadcasts.proofs.field_play.advance.Goals as goal

pub returns-in-Ok : goal.returns-in-Ok
returns-in-Ok g c =
    let e = c.in-Ok.ensures in
    moved_on c.args.field.now c.step.new.self c.in-Ok.more _ refl c.requires.calm e.done e.end e.idle e.clear

pub returns-in-Err-Clear : goal.returns-in-Err-Clear
returns-in-Err-Clear g c =
    let fault = c.in-Err-Clear.fault in
    inl (
      fault,
      (c.in-Err-Clear.ensures.clear fault c.requires.calm).0 (ap (λ (f : FieldFault). Err f) c.in-Err-Clear.field-0-is),
      refl,
    )

pub returns-in-Err-NoMemory : goal.returns-in-Err-NoMemory
returns-in-Err-NoMemory g c = inr refl
