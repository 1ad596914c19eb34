-- What is said while a command runs.
use Rattle.std.proofs.Common.{◌≡◌, ℕ, List, [], ◌∷◌, Option, Result, Ok, Err, refl, subst}
use Rattle.std.proofs.KnownBytes.{Appends-nil}
use Rattle.sd_ports.specs.Files.{Files}
use Rattle.sd_command_base.specs.declared.status.Status.{Status}
use Rattle.sd_command_base.specs.Spec.{FileArgument}
use Rattle.sd_command_base.proofs.Givens.{any_given}
use Rattle.sd_command_line.specs.declared.command.Command.TheVariants.{Air, Head}
use Rattle.sd_command_line.specs.Words.{Argument, Order, file, order_of}
use Rattle.sd_run_broadcasts.specs.Said.{AirSays, HeadSays, IsSaid}
use Rattle.sd_run.specs.Notes.{SaysNothing, order_says, says, says_of, says_read}

-- nothing was said
pub nothing_said : (files : Option Files) (held : Option (List ℕ)) → IsSaid SaysNothing files held held
nothing_said files held =
    let g = any_given files in
    record { given = g.given; is_given = g.is_given; bytes = []; said = refl; wrote = Appends-nil held }

-- what an order says is what its words say
pub order_said_so : (words : List (List ℕ)) (order : Order) {files : Option Files} {before now : Option (List ℕ)} →
    Ok order ≡ order_of words → IsSaid (order_says order) files before now → IsSaid (says words) files before now
order_said_so words order {files} {before} {now} read h =
    subst (λ (r : Result Order Status). IsSaid (says_read r) files before now) read h

-- to words that are refused nothing is said
pub refused_quietly : (words : List (List ℕ)) (status : Status) (files : Option Files) (held : Option (List ℕ)) →
    Err status ≡ order_of words → IsSaid (says words) files held held
refused_quietly words status files held read =
    subst (λ (r : Result Order Status). IsSaid (says_read r) files held held) read (nothing_said files held)

-- `air` and `head` with the arguments of their rows
pub air_says : (words : List Argument) {one two : FileArgument} {files : Option Files}
    {before now : Option (List ℕ)} → one ≡ file 1 words → two ≡ file 2 words →
    IsSaid (AirSays one two) files before now → IsSaid (says_of Air words) files before now
air_says words at_one at_two said = rw (at_one, at_two) at said

pub head_says : (words : List Argument) {one : FileArgument} {files : Option Files}
    {before now : Option (List ℕ)} → one ≡ file 1 words →
    IsSaid (HeadSays one) files before now → IsSaid (says_of Head words) files before now
head_says words at_one said = rw at_one at said
