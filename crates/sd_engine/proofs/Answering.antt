-- What a stage with faults `F` answers.
use Rattle.std.proofs.Common.{◌≡◌, ℕ, refl, sym, subst, arith}
use Rattle.std.specs.Prelude.{Option, Some, None, Result, Ok, Err, OnOk}
use Rattle.sd_base.specs.Count.{HasCause, IsCaused}
use Rattle.sd_engine.specs.declared.stage.StageFault.{StageFault}
use Rattle.sd_engine.specs.declared.stage.StageFault.TheVariants.{Write, Refused}
use Rattle.sd_ports.specs.declared.fault.PortFault.{PortFault}

abbrev pub Answer : Type 0 → Type 0
Answer F = Result (Unit {0}) (StageFault F)

-- of an error nothing is said of success
pub err_is_no_ok : {F : Type 0} (P : Type 0) (answer : Answer F) (fault : StageFault F) → answer ≡ Err fault →
    OnOk answer P
err_is_no_ok P answer fault is = subst (λ (a : Answer _). OnOk a P) (sym is) tt

-- an answer without a fault is none with one
pub ok_is_no_err : {F P : Type 0} (fault : StageFault F) → ◌≡◌ {A = Answer F} (Ok tt) (Err fault) → P
ok_is_no_err fault h = cc

-- a refusal is no failed write
pub refusal_is_no_write : {F P : Type 0} (fault : F) → ◌≡◌ {A = Answer F} (Err (Refused fault)) (Err Write) → P
refusal_is_no_write fault h = cc

-- a failed write is no refusal
pub write_is_no_refusal : {F P : Type 0} (fault : F) → ◌≡◌ {A = Answer F} (Err Write) (Err (Refused fault)) → P
write_is_no_refusal fault h = cc

-- one refusal is another where their answers are
pub same_refusal : {F : Type 0} (a b : F) → ◌≡◌ {A = Answer F} (Err (Refused a)) (Err (Refused b)) → a ≡ b
same_refusal a b h = cc

-- a stage that keeps no refusal keeps none
pub none_is_kept : {F P : Type 0} (kept : Option F) (fault : F) → kept ≡ None → kept ≡ Some fault → P
none_is_kept kept fault none some = cc

-- the refusal that is kept is the answer
pub kept_is_answered : {F : Type 0} (kept : Option F) (answered fault : F) → kept ≡ Some answered →
    kept ≡ Some fault → ◌≡◌ {A = Answer F} (Err (Refused answered)) (Err (Refused fault))
kept_is_answered kept answered fault is again = cc

-- where nothing is written no write fails
pub refusal_is_calm : {F : Type 0} (faults : ℕ) (fault : F) →
    IsCaused faults faults (◌≡◌ {A = Answer F} (Err (Refused fault)) (Err Write))
refusal_is_calm faults fault = record {
  later = omega arith;
  failed = λ failed. refusal_is_no_write fault failed;
  calm = λ _. refl;
}

-- and where nothing fails
pub success_is_calm : {F : Type 0} (faults : ℕ) → IsCaused faults faults (◌≡◌ {A = Answer F} (Ok tt) (Err Write))
success_is_calm faults = record {
  later = omega arith;
  failed = λ failed. ok_is_no_err Write failed;
  calm = λ _. refl;
}

-- where all is written no write failed
pub written_is_calm : {F : Type 0} (before now : ℕ) → HasCause {T = Unit {0}} {E = PortFault} before now (Ok tt) →
    IsCaused before now (◌≡◌ {A = Answer F} (Ok tt) (Err Write))
written_is_calm before now h = record {
  later = h.later;
  failed = λ failed. ok_is_no_err Write failed;
  calm = λ _. h.calm;
}

-- a write that failed is counted
pub failed_is_counted : {F : Type 0} (before now : ℕ) (fault : PortFault) →
    HasCause {T = Unit {0}} before now (Err fault) → IsCaused before now (◌≡◌ {A = Answer F} (Err Write) (Err Write))
failed_is_counted before now fault h = record {
  later = h.later;
  failed = λ _. h.failed;
  calm = λ calm. absurd (calm refl);
}
