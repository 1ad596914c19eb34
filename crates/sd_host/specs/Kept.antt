-- Public meaning: which files keep what is written, and which output is written through the descriptor
-- of the standard output.
use Rattle.std.specs.Prelude.{◌≡◌, ◌⊎◌, List, ◌∷◌, [], ◌++◌, Option, Some, None, Result, Ok, Err}
use Rattle.std.specs.List.{Contains}
use Rattle.sd_host.specs.declared.identity.Identity.{Identity}
use Rattle.sd_host.specs.declared.identity.Kind.{Kind}
use Rattle.sd_host.specs.declared.identity.Kind.TheVariants.{Regular, Block, Stream}
use Rattle.sd_host.specs.declared.identity.Kind.TheVariants as kind
use Rattle.sd_host.specs.declared.identity.Output.{Output}
use Rattle.sd_host.specs.declared.identity.Output.TheVariants as output
use Rattle.sd_host.specs.declared.target.Target.{Target}
use Rattle.sd_host.specs.declared.target.Target.TheVariants as target

-- a file of this kind keeps what is written: a regular file or a block device
abbrev pub KeepsWrites : Kind → Type 0
KeepsWrites kind = (kind ≡ Regular) ⊎ (kind ≡ Block)

-- the standard output that is this file: no block device, terminal or other character device is taken for it
-- [this project, docs/FORMATS.md, Commands]
abbrev pub output_of : Kind → Identity → Output
output_of Regular file = output.File file
output_of Block file = output.Other
output_of Stream file = output.Pipe file
output_of kind.Other file = output.Other

-- the standard output is this file
abbrev pub IsOutput : Output → Identity → Type 0
IsOutput standard file = (standard ≡ output.File file) ⊎ (standard ≡ output.Pipe file)

-- the file may be read: it is no regular file that is the standard output [this project, docs/FORMATS.md, Commands]
abbrev pub MayRead : Output → Kind → Identity → Type 0
MayRead standard kind file = ¬ ((kind ≡ Regular) × IsOutput standard file)

-- the file may be made: it is none of the inputs that keep what is written [this project, docs/FORMATS.md, Commands]
abbrev pub MayMake : List Identity → Kind → Identity → Type 0
MayMake inputs kind file = ¬ (KeepsWrites kind × Contains inputs file)

-- the inputs once a file of this kind is read, too
abbrev pub with_identity : List Identity → Kind → Identity → List Identity
with_identity inputs Regular file = inputs ++ file ∷ []
with_identity inputs Block file = inputs ++ file ∷ []
with_identity inputs Stream file = inputs
with_identity inputs kind.Other file = inputs

-- the output is written through the descriptor of the standard output, and no file was opened for it
abbrev pub IsThrough : {R F D : Type 0} → Target R F D → Type 0
IsThrough (target.File file) = ⊥
IsThrough (target.New file) = ⊥
IsThrough (target.Pipe file) = ⊥
IsThrough (target.Output files) = Unit {0}
IsThrough (target.OutputPipe files) = Unit {0}

-- the file that was made new; a name that is there already is none
abbrev pub made_in : {F E : Type 0} → Result (Option F) E → Result F (Unit {0})
made_in (Ok (Some file)) = Ok file
made_in (Ok None) = Err tt
made_in (Err error) = Err tt
