-- What the file of a sample comes to: its faults, misses and calls.
use Rattle.std.proofs.Common.{◌≡◌, ℕ, ◌^◌, ◌<◌, ◌≤◌, arith, refl, ◌∙◌}
use Rattle.std.specs.Prelude.{Result, Ok, Err}
use Rattle.sd_base.specs.Count.{HasCause, HasRisen, IsCaused, with_added}
use Rattle.sd_ports.specs.Causes.{CountsCalls, HasDepotCause, HasFileCause}
use Rattle.sd_ports.specs.Faults.{file_fault}
use Rattle.sd_ports.specs.declared.fault.DepotFault.{DepotFault}
use Rattle.sd_ports.specs.declared.fault.DepotFault.TheVariants.{Missing, Failed, NoMemory}
use Rattle.sd_ports.specs.declared.fault.PortFault.{PortFault}
use Rattle.sd_ports.specs.declared.file.FileFault.{FileFault}
use Rattle.sd_ports.specs.declared.file.FileFault.TheVariants as file
use Rattle.sd_ports.proofs.Calls.{twice_called}

abbrev Answer : Type 0
Answer = Result (Unit {0}) FileFault

-- a port that was opened is no fault
pub opened_is_no_fault : {T X : Type 0} (port : T) (fault : DepotFault) →
    ◌≡◌ {A = Result T DepotFault} (Ok port) (Err fault) → X
opened_is_no_fault port fault h = cc

whole_is_no_fault : {X : Type 0} (fault : FileFault) → ◌≡◌ {A = Answer} (Ok tt) (Err fault) → X
whole_is_no_fault fault h = cc

failed_is_no_miss : {X : Type 0} → ◌≡◌ {A = Answer} (Err file.Failed) (Err file.Missing) → X
failed_is_no_miss h = cc

-- the fault of a depot that failed is that of the file
pub failed_file : (T : Type 0) (fault : DepotFault) → ◌≡◌ {A = Result T DepotFault} (Err fault) (Err Failed) →
    ◌≡◌ {A = Answer} (Err (file_fault fault)) (Err file.Failed)
failed_file T Missing h = cc
failed_file T Failed h = refl
failed_file T NoMemory h = cc

-- of a whole file no count of faults or misses rose
pub whole_cause : {T : Type 0} (port : T) (a b c d e f p q : ℕ) → HasDepotCause a b d e (Ok port) → p ≡ 0 →
    HasCause {T = Unit {0}} {E = PortFault} p q (Ok tt) →
    HasCause {T = Unit {0}} {E = DepotFault} (with_added b q) c (Ok tt) → b < 2 ^ 64 → f ≡ e →
    HasFileCause {T = Unit {0}} a c d f (Ok tt)
whole_cause port a b c d e f p q opened fresh written closed within misses =
    let still = opened.no_fault (λ fault. opened_is_no_fault port Failed fault) in
    let calm : c ≡ a = omega (arith, still, fresh, written.calm, closed.calm, within) in
    let none : f ≡ d = misses ∙ opened.no_miss (λ fault. opened_is_no_fault port Missing fault) in
    record {
      faults_later = omega (arith, calm);
      misses_later = omega (arith, none);
      missing = λ fault. whole_is_no_fault file.Missing fault;
      failed = λ fault. whole_is_no_fault file.Failed fault;
      no_miss = λ _. none;
      no_fault = λ _. calm;
    }

-- of a file that failed the count of faults rose
pub failed_cause : {T : Type 0} (port : T) (a b c d e f : ℕ) → HasDepotCause a b d e (Ok port) → HasRisen b c →
    b < 2 ^ 64 → f ≡ e → HasFileCause {T = Unit {0}} a c d f (Err file.Failed)
failed_cause port a b c d e f opened risen within misses =
    let still = opened.no_fault (λ fault. opened_is_no_fault port Failed fault) in
    let none : f ≡ d = misses ∙ opened.no_miss (λ fault. opened_is_no_fault port Missing fault) in
    record {
      faults_later = omega (arith, still, risen, within);
      misses_later = omega (arith, none);
      missing = λ fault. failed_is_no_miss fault;
      failed = λ _. omega (arith, still, risen);
      no_miss = λ _. none;
      no_fault = λ other. absurd (other refl);
    }

-- a fault of closing rose above those of writing
pub closing_risen : (b q c : ℕ) → HasRisen (with_added b q) c → HasRisen b c
closing_risen b q c h = omega arith

-- a fault of writing is taken over
pub writing_risen : (b p q c : ℕ) → p ≡ 0 → HasRisen p q → with_added b q ≤ c → HasRisen b c
writing_risen b p q c fresh risen later = omega arith

-- without a fault the count of stops stands
pub stops_stand : (a b c p q : ℕ) → b ≡ a → p ≡ 0 → q ≡ p → c ≡ with_added b q → b < 2 ^ 64 → c ≡ a
stops_stand a b c p q still fresh calm closed within = omega arith

-- and it never falls
pub stops_later : {F : Type 0} (a b c q : ℕ) → IsCaused a b F → c ≡ with_added b q → b < 2 ^ 64 → a ≤ c
stops_later a b c q opened closed within = let later = opened.later in omega arith

-- a whole file took two calls
pub whole_calls : (a b c : ℕ) → b ≡ with_added a 1 → c ≡ with_added b 1 → CountsCalls {T = Unit {0}} a c (Ok tt)
whole_calls a b c opened closed = let two = twice_called a b c opened closed in
    record { done = two; missing = λ fault. whole_is_no_fault file.Missing fault; most = omega (arith, two) }

-- and one that failed
pub failed_calls : (a b c : ℕ) → b ≡ with_added a 1 → c ≡ with_added b 1 →
    CountsCalls {T = Unit {0}} a c (Err file.Failed)
failed_calls a b c opened closed = let two = twice_called a b c opened closed in
    record { done = tt; missing = λ fault. failed_is_no_miss fault; most = omega (arith, two) }

-- one that wasn't made took one
pub unmade_calls : (a b : ℕ) (fault : FileFault) → b ≡ with_added a 1 → CountsCalls {T = Unit {0}} a b (Err fault)
unmade_calls a b fault called = record { done = tt; missing = λ _. called; most = omega (arith, called) }
