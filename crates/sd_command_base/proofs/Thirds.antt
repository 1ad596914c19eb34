-- What comes of a command that reads two files, then a third one, and goes on from what they said.
use Rattle.std.proofs.Common.{◌≡◌, ◌≢◌, ℕ, Bool, cond, List, Option, Some, None, Result, Ok, Err}
use Rattle.std.proofs.Common.{refl, sym, ap, subst, ◌∙◌, inl, inr, arith}
use Rattle.std.specs.Prelude.{nat_eq}
use Rattle.sd_base.proofs.Arithmetic.{same_number, other_number}
use Rattle.sd_ports.specs.Files.{Files}
use Rattle.sd_command_base.specs.declared.status.Status.{Status}
use Rattle.sd_command_base.specs.declared.status.Status.TheVariants.{NoMemory}
use Rattle.sd_command_base.specs.Outside.{DepotState, PageState, IoState, io_state}
use Rattle.sd_command_base.specs.Spec.{Spec, FileArgument, Readings, AreReadingsOfFiles, IsReadingOfFile, of_result}
use Rattle.sd_command_base.specs.Spec.{◌>>=◌}
use Rattle.sd_command_base.specs.Work.{Work}
use Rattle.sd_command_base.specs.Outcome.{IsEnding, untouched, exhausted, OutcomeWithin, Implements}
use Rattle.sd_command_base.specs.Reads.{IsAsked, FileOutcome, FilesOutcome, JudgedOutcome}
use Rattle.sd_command_base.proofs.Firsts.{takes_none, first_obeys}
use Rattle.sd_command_base.proofs.Moves.{then_obeys}

-- what two files gave, and then a third
pub record MoreGiven (files : Option Files) (given : Readings) (a b c : FileArgument) (got : Option (List ℕ)) : Type 0
  where
    pub more : Readings
    pub is_more : AreReadingsOfFiles files more
    pub first : more a ≡ given a
    pub second : more b ≡ given b
    pub gave : more c ≡ got

pub more_given : (files : Option Files) (given : Readings) (a b c : FileArgument) (got : Option (List ℕ)) →
    AreReadingsOfFiles files given →
    IsReadingOfFile files c.text got → a.number ≢ c.number → b.number ≢ c.number → MoreGiven files given a b c got
more_given None given a b c got is is_got ac bc = record {
  more = λ w. cond (nat_eq w.number c.number) got (given w);
  is_more = tt;
  first = ap (λ (t : Bool). cond t got (given a)) (other_number a.number c.number ac);
  second = ap (λ (t : Bool). cond t got (given b)) (other_number b.number c.number bc);
  gave = ap (λ (t : Bool). cond t got (given c)) (same_number c.number);
}
more_given (Some files) given a b c got is is_got ac bc = record {
  more = given;
  is_more = is;
  first = refl;
  second = refl;
  gave = ap (λ (g : Readings). g c) is ∙ sym is_got;
}

-- two files that were read, and then what is meant by what they said and by what the third one gave
pub third_follows : {X Y : Type 0} (view : X → Y) (by : Option (List ℕ) → Option (List ℕ) → Spec Y)
    (next : Y → Option (List ℕ) → Spec Work) (first second third : FileArgument) (got : Option (List ℕ))
    (p q : DepotState)
    (page : PageState) (steps : ℕ) (b : IoState) (x : X) (status : Status) → first.number ≢ third.number →
    second.number ≢ third.number → FilesOutcome view (λ given. by (given first) (given second)) p q (Ok x) →
    IsReadingOfFile q.files third.text got → OutcomeWithin (next (view x) got) (io_state q page steps) b status →
    Implements (λ given. by (given first) (given second) >>= λ y. next y (given third)) (io_state p page steps) b status
third_follows {Y = Y} view by next first second third got p q page steps b x status ac bc read is_got obeys =
    let same : q.files ≡ p.files = ap (λ (z : DepotState). z.files) read.gives.1 in
    let g = more_given p.files read.given first second third got read.is_given
    (subst (λ (f : Option Files). IsReadingOfFile f third.text got) same is_got) ac bc in
    let one : by (read.given first) (read.given second) ≡ by (g.more first) (g.more second) =
    ap (λ (o : Option (List ℕ)). by o (read.given second)) (sym g.first)
    ∙ ap (λ (o : Option (List ℕ)). by (g.more first) o) (sym g.second) in
    record {
      given = g.more;
      is_given = g.is_more;
      obeyed =
          subst (λ (o : Option (List ℕ)). OutcomeWithin (by (g.more first) (g.more second) >>= λ y. next y o)
          (io_state p page steps) b status) (sym g.gave)
          (subst (λ (m : Spec Y). OutcomeWithin (m >>= λ y. next y got) (io_state p page steps) b status) one
          (then_obeys (by (read.given first) (read.given second)) (view x) (λ y. next y got) p q page steps b status
          read.gives.0 read.gives.1 obeys));
    }

-- two files of which one was refused, or not read
pub not_both : {X Y : Type 0} (view : X → Y) (by : Option (List ℕ) → Option (List ℕ) → Spec Y)
    (next : Y → Option (List ℕ) → Spec Work) (first second third : FileArgument) (p q : DepotState) (page : PageState)
    (steps : ℕ) (status : Status) → FilesOutcome view (λ given. by (given first) (given second)) p q (Err status) →
    Implements (λ given. by (given first) (given second) >>= λ y. next y (given third)) (io_state p page steps)
    (io_state q page steps) status
not_both view by next first second third p q page steps status read = record {
  given = read.given;
  is_given = read.is_given;
  obeyed = first_obeys (by (read.given first) (read.given second)) (λ y. next y (read.given third)) p q page steps
      status read.gives;
}

-- a third file that was refused, or not read
pub not_third : {X Y W Z : Type 0} (view : X → Y) (by : Option (List ℕ) → Option (List ℕ) → Spec Y)
    (view_third : W → Z) (look : Y → Option (List ℕ) → Spec Z) (rest : Y → Z → Spec Work)
    (first second third : FileArgument) (p q r : DepotState) (page : PageState) (steps : ℕ) (x : X) (status : Status) →
    first.number ≢ third.number → second.number ≢ third.number →
    FilesOutcome view (λ given. by (given first) (given second)) p q (Ok x) →
    FileOutcome view_third (look (view x)) third.text q r (Err status) →
    Implements (λ given. by (given first) (given second) >>= λ y. look y (given third) >>=
    rest y) (io_state p page steps) (io_state r page steps) status
not_third view by view_third look rest first second third p q r page steps x status ac bc read looks =
    third_follows view by (λ y got. look y got >>= rest y) first second third looks.got p q page steps
    (io_state r page steps) x status ac bc read looks.is_got
    (first_obeys (look (view x) looks.got) (rest (view x)) q r page steps status looks.gives)

-- a third file that was read, and then what is meant by all that was said
pub third_looked : {X Y W Z : Type 0} (view : X → Y) (by : Option (List ℕ) → Option (List ℕ) → Spec Y)
    (view_third : W → Z) (look : Y → Option (List ℕ) → Spec Z) (rest : Y → Z →
    Spec Work) (first second third : FileArgument)
    (p q r : DepotState) (page : PageState) (steps : ℕ) (b : IoState) (x : X) (w : W) (status : Status) →
    first.number ≢ third.number → second.number ≢ third.number →
    FilesOutcome view (λ given. by (given first) (given second)) p q (Ok x) →
    FileOutcome view_third (look (view x)) third.text q r (Ok w) →
    OutcomeWithin (rest (view x) (view_third w)) (io_state r page steps) b status →
    Implements (λ given. by (given first) (given second) >>= λ y. look y (given third) >>=
    rest y) (io_state p page steps) b status
third_looked view by view_third look rest first second third p q r page steps b x w status ac bc read looks obeys =
    third_follows view by (λ y got. look y got >>= rest y) first second third looks.got p q page steps b x status ac bc
    read looks.is_got
    (then_obeys (look (view x) looks.got) (view_third w) (rest (view x)) q r page steps b status looks.gives.0
    looks.gives.1 obeys)

-- a refusal, or a stop, is the same whatever would have been given
pub same_refusal : {X Z Y : Type 0} (view : X → Y) (other : Z → Y) (meant : Readings → Spec Y) (a b : DepotState)
    (status : Status) → FilesOutcome view meant a b (Err status) → FilesOutcome other meant a b (Err status)
same_refusal view other meant a b status h = record { given = h.given; is_given = h.is_given; gives = h.gives }

-- what was given, seen otherwise
pub same_value : {X Z Y : Type 0} (view : X → Y) (other : Z → Y) (meant : Readings → Spec Y) (a b : DepotState) (x : X)
    (z : Z) → view x ≡ other z → FilesOutcome view meant a b (Ok x) → FilesOutcome other meant a b (Ok z)
same_value view other meant a b x z same h =
    record { given = h.given; is_given = h.is_given; gives = (h.gives.0 ∙ ap Ok same, h.gives.1) }

-- memory was out before anything more was done
pub wanting_obeys : (meant : Spec Work) (q : DepotState) (page : PageState) (steps : ℕ) (status : Status) →
    status ≡ NoMemory →
    OutcomeWithin meant (io_state q page steps) (io_state q page steps) status
wanting_obeys meant q page steps status is = record {
  comes = exhausted is (untouched (record { files = refl; made = refl }) refl) refl refl refl;
  ports = refl;
  calls = omega arith;
  steps = takes_none meant.result steps;
}

asks_nothing : (q : DepotState) → IsAsked 0 q q
asks_nothing q = record { files = refl; made = refl; ports = refl; calls = omega arith }

-- what is judged without the outside was refused, or memory was out
pub judged_refused : {X Z : Type 0} (view : X → Z) (meant : Result Z Status) (next : Z → Spec Work) (q : DepotState)
    (page : PageState) (steps : ℕ) (status : Status) → JudgedOutcome view meant (Err status) →
    OutcomeWithin (of_result meant >>= next) (io_state q page steps) (io_state q page steps) status
judged_refused view meant next q page steps status (inl h) =
    first_obeys (of_result meant) next q q page steps status
    (inl (record {
      value = h.0;
      refusal = h.1;
      asked = asks_nothing q;
      calm = refl;
      miss = record { missing = λ word is. absurd (subst IsEnding is h.2); there = λ other. refl };
    }))
judged_refused view meant next q page steps status (inr h) =
    wanting_obeys (of_result meant >>= next) q page steps status h

-- or it gave a value, and what is meant by the value was obeyed
pub judged_obeys : {Z : Type 0} (meant : Result Z Status) (z : Z) (next : Z → Spec Work) (a b : IoState)
    (status : Status) → meant ≡ Ok z → OutcomeWithin (next z) a b status → OutcomeWithin
    (of_result meant >>= next) a b status
judged_obeys {Z} meant z next a b status is h =
    subst (λ (r : Result Z Status). OutcomeWithin (of_result r >>= next) a b status) (sym is)
    (record { comes = h.comes; ports = h.ports; calls = let c = h.calls in omega (arith, c); steps = h.steps })
