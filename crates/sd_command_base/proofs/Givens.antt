-- What the files of words gave.
use Rattle.std.proofs.Common.{◌≡◌, ◌≢◌, ℕ, Bool, cond, List, Option, Some, None, refl, sym, ap}
use Rattle.std.specs.Prelude.{nat_eq}
use Rattle.std.specs.FinMap.{get}
use Rattle.sd_base.proofs.Arithmetic.{same_number, other_number_back}
use Rattle.sd_ports.specs.Files.{Files}
use Rattle.sd_command_base.specs.Spec.{FileArgument, Readings, contents_of, AreReadingsOfFiles, IsReadingOfFile}

-- what a file gave that nothing was learned of
pub some_got : (files : Option Files) (name : List ℕ) → (got : Option (List ℕ)) × IsReadingOfFile files name got
some_got None name = (None, tt)
some_got (Some files) name = (get files name, refl)

-- the file of one word gave this
pub record OneGiven (files : Option Files) (word : FileArgument) (got : Option (List ℕ)) : Type 0 where
  pub given : Readings
  pub is_given : AreReadingsOfFiles files given
  pub gave : given word ≡ got

pub one_given : (files : Option Files) (word : FileArgument) (got : Option (List ℕ)) →
    IsReadingOfFile files word.text got →
    OneGiven files word got
one_given None word got h = record { given = λ w. got; is_given = tt; gave = refl }
one_given (Some files) word got h = record { given = contents_of files; is_given = refl; gave = sym h }

-- the files of two words gave these
pub record TwoGiven (files : Option Files) (first second : FileArgument) (got more : Option (List ℕ)) : Type 0 where
  pub given : Readings
  pub is_given : AreReadingsOfFiles files given
  pub gave : given first ≡ got
  pub gave_more : given second ≡ more

pub two_given : (files : Option Files) (first second : FileArgument) (got more : Option (List ℕ)) →
    first.number ≢ second.number →
    IsReadingOfFile files first.text got → IsReadingOfFile files second.text more → TwoGiven files first second got more
two_given None first second got more apart h k = record {
  given = λ w. cond (nat_eq w.number first.number) got more;
  is_given = tt;
  gave = ap (λ (b : Bool). cond b got more) (same_number first.number);
  gave_more = ap (λ (b : Bool). cond b got more) (other_number_back first.number second.number apart);
}
two_given (Some files) first second got more apart h k =
    record { given = contents_of files; is_given = refl; gave = sym h; gave_more = sym k }

-- what files gave that nothing was learned of
pub record AnyGiven (files : Option Files) : Type 0 where
  pub given : Readings
  pub is_given : AreReadingsOfFiles files given

pub any_given : (files : Option Files) → AnyGiven files
any_given None = record { given = λ w. None; is_given = tt }
any_given (Some files) = record { given = contents_of files; is_given = refl }
