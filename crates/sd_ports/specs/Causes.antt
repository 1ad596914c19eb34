-- Public meaning: why a file system refuses, and what it counts: misses, faults, ports made and ports open.
use Rattle.std.specs.Prelude.{◌≡◌, ℕ, ◌+◌, ◌%◌, ◌^◌, ◌<◌, ◌≤◌, List, length, Bool, true, false, Option, Result, Ok}
use Rattle.std.specs.Prelude.{IfOk, OnOk, OnErr, IsErrOf}
use Rattle.sd_base.specs.Count.{HasRisen, with_added}
use Rattle.sd_ports.specs.Bytes.{GivesAll, IsTakenFrom, LosesPrefix}
use Rattle.sd_ports.specs.declared.fault.DepotFault.{DepotFault}
use Rattle.sd_ports.specs.declared.fault.DepotFault.TheVariants.{Missing, Failed}
use Rattle.sd_ports.specs.declared.file.New.{New}
use Rattle.sd_ports.specs.declared.file.New.TheVariants.{Made, There}
use Rattle.sd_ports.specs.declared.file.FileFault.{FileFault}
use Rattle.sd_ports.specs.declared.file.FileFault.TheVariants as file
use Rattle.sd_ports.specs.declared.prefix.ReadMostFault.{ReadMostFault}
use Rattle.sd_ports.specs.declared.prefix.ReadMostFault.TheVariants as prefix

-- Why a depot refused: `Missing` where its misses rose, `Failed` where its faults rose. Else they stand as before.
pub record HasDepotCause {T : Type 0} (faults_before faults_now misses_before misses_now : ℕ)
    (result : Result T DepotFault) : Type 0 where
  pub faults_later : faults_before ≤ faults_now
  pub misses_later : misses_before ≤ misses_now
  pub missing : IsErrOf result Missing → HasRisen misses_before misses_now
  pub failed : IsErrOf result Failed → HasRisen faults_before faults_now
  pub no_miss : ¬ IsErrOf result Missing → misses_now ≡ misses_before
  pub no_fault : ¬ IsErrOf result Failed → faults_now ≡ faults_before

-- Why a whole file wasn't read or written: `Missing` where the depot's misses rose, `Failed` where its faults rose.
-- Else they stand as before.
pub record HasFileCause {T : Type 0} (faults_before faults_now misses_before misses_now : ℕ)
    (result : Result T FileFault) : Type 0 where
  pub faults_later : faults_before ≤ faults_now
  pub misses_later : misses_before ≤ misses_now
  pub missing : IsErrOf result file.Missing → HasRisen misses_before misses_now
  pub failed : IsErrOf result file.Failed → HasRisen faults_before faults_now
  pub no_miss : ¬ IsErrOf result file.Missing → misses_now ≡ misses_before
  pub no_fault : ¬ IsErrOf result file.Failed → faults_now ≡ faults_before

-- The count of the ports that were made rises by one with each port, up to its last value, and stands where none is
-- given.
pub record CountsMade {T E : Type 0} (made_before made_now : ℕ) (result : Result T E) : Type 0 where
  pub later : made_before ≤ made_now
  pub given : OnOk result (made_now ≡ with_added made_before 1)
  pub refused : OnErr result (made_now ≡ made_before)

-- how many ports are open once one more is, counted modulo 2^64
abbrev pub one_more : ℕ → ℕ
one_more ports = (ports + 1) % 2 ^ 64

-- The number of open ports rises by one with each port that is given.
pub record CountsOpen {T E : Type 0} (before now : ℕ) (result : Result T E) : Type 0 where
  pub given : OnOk result ((before < 2 ^ 64) × (now ≡ one_more before))
  pub refused : OnErr result (now ≡ before)

-- the number of open ports falls by one
pub record CountsClosed (before now : ℕ) : Type 0 where
  pub within : now < 2 ^ 64
  pub fallen : one_more now ≡ before

-- A whole file takes two calls, one to open it and one to close it, and no more than the first where it isn't there.
pub record CountsCalls {T : Type 0} (before now : ℕ) (result : Result T FileFault) : Type 0 where
  pub done : OnOk result (now ≡ with_added before 2)
  pub missing : IsErrOf result file.Missing → now ≡ with_added before 1
  pub most : now ≤ with_added before 2

-- A new whole file takes two calls, one to make it and one to close it, and one alone if the name is there or its
-- folder isn't.
pub record CountsNewCalls (before now : ℕ) (result : Result New FileFault) : Type 0 where
  pub made : result ≡ Ok Made → now ≡ with_added before 2
  pub there : result ≡ Ok There → now ≡ with_added before 1
  pub missing : IsErrOf result file.Missing → now ≡ with_added before 1
  pub most : now ≤ with_added before 2

-- What reading the first bytes of an input did: which bytes it read, whether there were more, and why there is none.
-- `Failed` comes where the input's faults rose. Else they stand as before.
pub record ReadsFirst (most : ℕ) (left_before left_now : Option (List ℕ)) (faults_before faults_now : ℕ)
    (bytes : List ℕ) (result : Result Bool ReadMostFault) : Type 0 where
  pub value : IfOk result (λ more. IsTakenFrom most left_before (record { bytes = bytes; more = more }))
  pub all : IfOk result (λ more. more ≡ false → GivesAll left_before left_now bytes)
  pub within : IfOk result (λ more. length bytes ≤ most)
  pub full : IfOk result (λ more. more ≡ true → length bytes ≡ most)
  pub failed : IsErrOf result prefix.Failed → HasRisen faults_before faults_now
  pub later : faults_before ≤ faults_now
  pub calm : ¬ IsErrOf result prefix.Failed → faults_now ≡ faults_before
  pub lost : LosesPrefix left_before left_now
