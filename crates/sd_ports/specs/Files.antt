-- Public meaning: the contents of a file system that the model knows, and what a call changes in them.
use Rattle.std.specs.Prelude.{◌≡◌, ℕ, ◌<◌, ◌≤◌, ◌⊎◌, List, [], length, Option, None, Some, IsSome, IfSome, Result}
use Rattle.std.specs.Prelude.{Ok, Err, OnOk, IsErrOf}
use Rattle.std.specs.Ordering.{nat_cmp}
use Rattle.std.specs.Cmp.Lexicographic.{slice_cmp}
use Rattle.std.specs.FinMap.{FinMap, get, insert}
use Rattle.sd_base.specs.Count.{with_added}
use Rattle.sd_ports.specs.Bytes.{IsPrefix}
use Rattle.sd_ports.specs.declared.file.New.{New}
use Rattle.sd_ports.specs.declared.file.New.TheVariants.{Made, There}
use Rattle.sd_ports.specs.declared.file.FileFault.{FileFault}
use Rattle.sd_ports.specs.declared.file.FileFault.TheVariants.{Missing, TooBig, Failed, NoMemory}

-- files by their names, each name once
abbrev pub Files : Type 0
Files = FinMap (slice_cmp nat_cmp) (List ℕ)

-- an opened file's bytes are to come from its port, if the model knows the files
abbrev pub OpensFile : Option Files → List ℕ → Option (List ℕ) → Type 0
OpensFile None name left = Unit {0}
OpensFile (Some files) name left = IsSome left × (get files name ≡ left)

-- no file has the name, if the model knows the files
abbrev pub IsNotThere : Option Files → List ℕ → Type 0
IsNotThere None name = Unit {0}
IsNotThere (Some files) name = get files name ≡ None

-- these are the bytes of the file of that name, if the model knows the files
abbrev pub IsFile : Option Files → List ℕ → List ℕ → Type 0
IsFile None name bytes = Unit {0}
IsFile (Some files) name bytes = get files name ≡ Some bytes

-- the file of that name is there and has more bytes than these, if the model knows the files
abbrev pub IsLongFile : Option Files → List ℕ → ℕ → Type 0
IsLongFile None name most = Unit {0}
IsLongFile (Some files) name most = IsSome (get files name) × IfSome (get files name) (λ bytes. most < length bytes)

-- a file has the name, if the model knows the files
abbrev pub IsThere : Option Files → List ℕ → Type 0
IsThere None name = Unit {0}
IsThere (Some files) name = IsSome (get files name)

-- the files, if the model knows them, once a file of that name has these bytes: the other files stay
abbrev pub with_bytes : Option Files → List ℕ → List ℕ → Option Files
with_bytes None name bytes = None
with_bytes (Some files) name bytes = Some (insert files name bytes)

-- a port took nothing so far, and tells what it takes if the model knows the files
abbrev pub IsFresh : Option Files → Option (List ℕ) → Type 0
IsFresh None None = Unit {0}
IsFresh None (Some held) = held ≡ []
IsFresh (Some files) held = held ≡ Some []

-- the port of a file that was made new: none if the name is there already, nor after a fault
abbrev pub port_in : {T E : Type 0} → Result (Option T) E → Result T (Option E)
port_in (Ok (Some port)) = Ok port
port_in (Ok None) = Err None
port_in (Err fault) = Err (Some fault)

-- the file of that name has what its port held, if the model knows the files, and the other files stay
abbrev pub ClosesFile : Option Files → Option Files → List ℕ → Option (List ℕ) → Type 0
ClosesFile None now name held = now ≡ None
ClosesFile (Some files) now name None = (bytes : List ℕ) × (now ≡ Some (insert files name bytes))
ClosesFile (Some files) now name (Some held) = now ≡ Some (insert files name held)

-- the file of that name has a prefix of what its port held, if the model knows the files, and the other files stay
abbrev pub LeavesPrefix : Option Files → Option Files → List ℕ → Option (List ℕ) → Type 0
LeavesPrefix None now name held = now ≡ None
LeavesPrefix (Some files) now name None = (bytes : List ℕ) × (now ≡ Some (insert files name bytes))
LeavesPrefix (Some files) now name (Some held) = (prefix : List ℕ) × IsPrefix prefix held
    × (now ≡ Some (insert files name prefix))

-- the file was made with these bytes: the other files stay, and the count of those made rose by one
abbrev pub IsMade : Option Files → Option Files → ℕ → ℕ → List ℕ → List ℕ → Type 0
IsMade files_before files_now made_before made_now name bytes = (files_now ≡ with_bytes files_before name bytes)
    × (made_now ≡ with_added made_before 1)

-- no file was made: the files and the count of those made stand as before
abbrev pub IsUnmade : Option Files → Option Files → ℕ → ℕ → Type 0
IsUnmade files_before files_now made_before made_now = (files_now ≡ files_before) × (made_now ≡ made_before)

-- the file was made with a prefix of these bytes
abbrev pub IsMadeShort : Option Files → Option Files → ℕ → ℕ → List ℕ → List ℕ → Type 0
IsMadeShort files_before files_now made_before made_now name bytes = (prefix : List ℕ) × IsPrefix prefix bytes
    × IsMade files_before files_now made_before made_now name prefix

-- What writing a whole file did: `Ok` made it with these bytes, `Failed` may have made it with a prefix of them, and
-- other faults made none.
-- If the model knows the files, `Missing` never comes, and `TooBig` never does.
pub record WritesFile {T : Type 0} (files_before files_now : Option Files) (made_before made_now : ℕ)
    (name bytes : List ℕ) (result : Result T FileFault) : Type 0 where
  pub later : made_before ≤ made_now
  pub made : OnOk result (IsMade files_before files_now made_before made_now name bytes)
  pub failed : IsErrOf result Failed → IsUnmade files_before files_now made_before made_now
      ⊎ IsMadeShort files_before files_now made_before made_now name bytes
  pub missing : IsErrOf result Missing → IsUnmade files_before files_now made_before made_now × (files_before ≡ None)
  pub no_memory : IsErrOf result NoMemory → IsUnmade files_before files_now made_before made_now
  pub fits : ¬ IsErrOf result TooBig

-- What writing a new whole file did: `Made` made it with these bytes, and it wasn't there; `There` and the faults but
-- `Failed` made none, and `Failed` may have made it with a prefix of them.
-- If the model knows the files, `Missing` never comes, and `TooBig` never does.
pub record WritesNewFile (files_before files_now : Option Files) (made_before made_now : ℕ) (name bytes : List ℕ)
    (result : Result New FileFault) : Type 0 where
  pub later : made_before ≤ made_now
  pub made : result ≡ Ok Made → IsNotThere files_before name
      × IsMade files_before files_now made_before made_now name bytes
  pub there : result ≡ Ok There → IsThere files_before name × IsUnmade files_before files_now made_before made_now
  pub failed : IsErrOf result Failed → IsUnmade files_before files_now made_before made_now
      ⊎ (IsNotThere files_before name × IsMadeShort files_before files_now made_before made_now name bytes)
  pub missing : IsErrOf result Missing → IsUnmade files_before files_now made_before made_now × (files_before ≡ None)
  pub no_memory : IsErrOf result NoMemory → IsUnmade files_before files_now made_before made_now
  pub fits : ¬ IsErrOf result TooBig
