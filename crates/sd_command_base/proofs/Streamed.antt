-- What comes of a file that is turned into OUT once another one was read.
use Rattle.std.proofs.Common.{◌≢◌, ℕ, List, Option, Some, None, Ok, Err, sym, ap, subst}
use Rattle.sd_ports.specs.Files.{Files}
use Rattle.sd_command_base.specs.declared.status.Status.{Status}
use Rattle.sd_command_base.specs.Outside.{DepotState, PageState, IoState, io_state}
use Rattle.sd_command_base.specs.Spec.{Spec, FileArgument, Readings, AreReadingsOfFiles, IsReadingOfFile, ◌>>=◌}
use Rattle.sd_command_base.specs.Work.{Work}
use Rattle.sd_command_base.specs.Outcome.{OutcomeWithin, Implements}
use Rattle.sd_command_base.specs.Reads.{FileOutcome}
use Rattle.sd_command_base.proofs.Moves.{then_obeys}
use Rattle.sd_command_base.proofs.Givens.{one_given, two_given}
use Rattle.sd_command_base.proofs.Follow.{reads_first, reads_follows}

-- what a command is by what one file gave
pub got_follows : (meant : Option (List ℕ) → Spec Work) (word : FileArgument) (got : Option (List ℕ)) (a b : IoState)
    (status : Status) →
    IsReadingOfFile a.place.files word.text got → OutcomeWithin (meant got) a b status →
    Implements (λ given. meant (given word)) a b status
got_follows meant word got a b status is obeys =
    let g = one_given a.place.files word got is in record {
      given = g.given;
      is_given = g.is_given;
      obeyed = subst (λ (o : Option (List ℕ)). OutcomeWithin (meant o) a b status) (sym g.gave) obeys;
    }

given_got : (files : Option Files) (given : Readings) (word : FileArgument) → AreReadingsOfFiles files given →
    IsReadingOfFile files word.text (given word)
given_got None given word is = tt
given_got (Some files) given word is = ap (λ (g : Readings). g word) is

-- a first file that was read, and a command by a second one
pub then_follows : {X Y : Type 0} (view : X → Y) (first : Option (List ℕ) → Spec Y)
    (second : Y → Option (List ℕ) → Spec Work)
    (one two : FileArgument) (p q : DepotState) (page : PageState) (steps : ℕ) (b : IoState) (x : X) (status : Status) →
    one.number ≢ two.number →
    FileOutcome view first one.text p q (Ok x) →
    Implements (λ given. second (view x) (given two)) (io_state q page steps) b status →
    Implements (λ given. first (given one) >>= λ y. second y (given two)) (io_state p page steps) b status
then_follows view first second one two p q page steps b x status apart h f =
    let got = f.given two in
    let is_more : IsReadingOfFile p.files two.text got =
    subst (λ (files : Option Files). IsReadingOfFile files two.text got) (ap (λ (z : DepotState). z.files) h.gives.1)
    (given_got q.files f.given two f.is_given) in
    let g = two_given p.files one two h.got got apart h.is_got is_more in record {
      given = g.given;
      is_given = g.is_given;
      obeyed = subst (λ (o : Option (List ℕ)). OutcomeWithin
          (first o >>= λ y. second y (g.given two)) (io_state p page steps) b status)
          (sym g.gave)
          (subst (λ (o : Option (List ℕ)). OutcomeWithin
          (first h.got >>= λ y. second y o) (io_state p page steps) b status) (sym g.gave_more)
          (then_obeys (first h.got) (view x) (λ y. second y got) p q page steps b status h.gives.0 h.gives.1 f.obeyed));
    }

-- a first file that was refused, or not read
pub first_follows : {X Y : Type 0} (view : X → Y) (first : Option (List ℕ) → Spec Y) (next : Readings → Y → Spec Work)
    (one : FileArgument)
    (p q : DepotState) (page : PageState) (steps : ℕ) (status : Status) →
    FileOutcome view first one.text p q (Err status) →
    Implements (λ given. first (given one) >>= next given) (io_state p page steps) (io_state q page steps) status
first_follows view first next one p q page steps status h =
    reads_follows (λ (work : Work). work) (λ given. first (given one) >>= next given) p q page steps status
    (reads_first view (λ (work : Work). work) first next one p q status h)
