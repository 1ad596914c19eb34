-- What comes of a command that reads two files, then two others, and goes on from what they said.
use Rattle.std.proofs.Common.{◌≡◌, ◌≢◌, ℕ, Bool, true, false, cond, List, Option, Some, None, append-nil}
use Rattle.std.proofs.Common.{refl, sym, ap, subst, ◌∙◌, inl, inr, arith, Ok, Err}
use Rattle.std.specs.Prelude.{nat_eq}
use Rattle.std.specs.Io.KnownBytes.{Appends}
use Rattle.sd_base.proofs.Arithmetic.{same_number, other_number_back}
use Rattle.sd_ports.specs.Bytes.{AppendsPrefix}
use Rattle.sd_ports.specs.Files.{Files}
use Rattle.sd_command_base.specs.declared.status.Status.{Status}
use Rattle.sd_command_base.specs.Outside.{DepotState, PageState, IoState, io_state}
use Rattle.sd_command_base.specs.Spec.{Spec, FileArgument, Readings, AreReadingsOfFiles, value, ◌>>=◌}
use Rattle.sd_command_base.specs.Work.{Work, work_of_text}
use Rattle.sd_command_base.specs.Outcome.{IsEnding, ended, cut_off, OutcomeWithin, Implements}
use Rattle.sd_command_base.specs.Prints.{PrintsText}
use Rattle.sd_command_base.specs.Reads.{FilesOutcome}
use Rattle.sd_command_base.proofs.Firsts.{first_obeys}
use Rattle.sd_command_base.proofs.Moves.{then_obeys}

either_same : (b : Bool) (got : Option (List ℕ)) → cond b got got ≡ got
either_same true got = refl
either_same false got = refl

-- what two files gave at first, and two others then
pub record FourGiven (files : Option Files) (g h : Readings) (a b c d : FileArgument) : Type 0 where
  pub given : Readings
  pub is_given : AreReadingsOfFiles files given
  pub first : given a ≡ g a
  pub second : given b ≡ g b
  pub third : given c ≡ h c
  pub fourth : given d ≡ h d

pub four_given : (files : Option Files) (g h : Readings) (a b c d : FileArgument) → AreReadingsOfFiles files g →
    AreReadingsOfFiles files h →
    a.number ≢ c.number → a.number ≢ d.number → b.number ≢ c.number → b.number ≢ d.number →
    FourGiven files g h a b c d
four_given None g h a b c d is more ac ad bc bd = record {
  given = λ w. cond (nat_eq w.number a.number) (g w) (cond (nat_eq w.number b.number) (g w) (h w));
  is_given = tt;
  first = ap (λ (t : Bool). cond t (g a) (cond (nat_eq a.number b.number) (g a) (h a))) (same_number a.number);
  second = ap (λ (t : Bool). cond (nat_eq b.number a.number) (g b) (cond t (g b) (h b))) (same_number b.number)
      ∙ either_same (nat_eq b.number a.number) (g b);
  third = ap (λ (t : Bool). cond t (g c) (cond (nat_eq c.number b.number) (g c) (h c)))
      (other_number_back a.number c.number ac)
      ∙ ap (λ (t : Bool). cond t (g c) (h c)) (other_number_back b.number c.number bc);
  fourth = ap (λ (t : Bool). cond t (g d) (cond (nat_eq d.number b.number) (g d) (h d)))
      (other_number_back a.number d.number ad)
      ∙ ap (λ (t : Bool). cond t (g d) (h d)) (other_number_back b.number d.number bd);
}
four_given (Some files) g h a b c d is more ac ad bc bd = record {
  given = g;
  is_given = is;
  first = refl;
  second = refl;
  third = ap (λ (given : Readings). given c) (is ∙ sym more);
  fourth = ap (λ (given : Readings). given d) (is ∙ sym more);
}

-- two files that were read, and then what is meant by what they said and by what two others gave
pub pair_follows : {X Y : Type 0} (view : X → Y) (by : Option (List ℕ) → Option (List ℕ) → Spec Y)
    (next : Y → Option (List ℕ) → Option (List ℕ) →
    Spec Work) (a b c d : FileArgument) (h : Readings) (p q : DepotState)
    (page : PageState) (steps : ℕ) (out : IoState) (x : X) (status : Status) → a.number ≢ c.number →
    a.number ≢ d.number → b.number ≢ c.number → b.number ≢ d.number →
    FilesOutcome view (λ given. by (given a) (given b)) p q (Ok x) → AreReadingsOfFiles q.files h →
    OutcomeWithin (next (view x) (h c) (h d)) (io_state q page steps) out status →
    Implements (λ given. by (given a) (given b) >>= λ y. next y (given c) (given d)) (io_state p page steps) out status
pair_follows {Y = Y} view by next a b c d h p q page steps out x status ac ad bc bd read is_given obeys =
    let same : q.files ≡ p.files = ap (λ (z : DepotState). z.files) read.gives.1 in
    let g = four_given p.files read.given h a b c d read.is_given
    (subst (λ (f : Option Files). AreReadingsOfFiles f h) same is_given) ac ad bc bd in
    let one : by (read.given a) (read.given b) ≡ by (g.given a) (g.given b) =
    ap (λ (o : Option (List ℕ)). by o (read.given b)) (sym g.first)
    ∙ ap (λ (o : Option (List ℕ)). by (g.given a) o) (sym g.second) in
    record {
      given = g.given;
      is_given = g.is_given;
      obeyed =
          subst (λ (o : Option (List ℕ)). OutcomeWithin (by (g.given a) (g.given b) >>= λ y. next y o (g.given d))
          (io_state p page steps) out status) (sym g.third)
          (subst (λ (o : Option (List ℕ)). OutcomeWithin (by (g.given a) (g.given b) >>= λ y. next y (h c) o)
          (io_state p page steps) out status) (sym g.fourth)
          (subst (λ (m : Spec Y). OutcomeWithin (m >>= λ y. next y (h c) (h d)) (io_state p page steps) out status) one
          (then_obeys (by (read.given a) (read.given b)) (view x) (λ y. next y (h c) (h d)) p q page steps out status
          read.gives.0 read.gives.1 obeys)));
    }

-- the first two files were refused, or not read
pub pair_refused : {X Y : Type 0} (view : X → Y) (by : Option (List ℕ) → Option (List ℕ) → Spec Y)
    (next : Y → Option (List ℕ) → Option (List ℕ) → Spec Work) (a b c d : FileArgument) (p q : DepotState)
    (page : PageState) (steps : ℕ) (status : Status) →
    FilesOutcome view (λ given. by (given a) (given b)) p q (Err status) →
    Implements (λ given. by (given a) (given b) >>= λ y. next y (given c) (given d)) (io_state p page steps)
    (io_state q page steps) status
pair_refused view by next a b c d p q page steps status read = record {
  given = read.given;
  is_given = read.is_given;
  obeyed = first_obeys (by (read.given a) (read.given b)) (λ y. next y (read.given c) (read.given d)) p q page steps
      status read.gives;
}

-- a text was printed, or a prefix of it
pub text_said : (text : List ℕ) (q : DepotState) (page now : PageState) (steps : ℕ) (status : Status) →
    PrintsText text page now status →
    OutcomeWithin (value (work_of_text text)) (io_state q page steps) (io_state q now steps) status
text_said text q page now steps status (inl all) = record {
  comes = ended (work_of_text text) refl all.0 (subst IsEnding (sym all.0) tt) (record { files = refl; made = refl })
      (subst (λ (xs : List ℕ). Appends page.printed now.printed xs) (sym (append-nil text)) all.1)
      (record { depot = refl; print = all.2 }) refl;
  ports = refl;
  calls = omega arith;
  steps = refl;
}
text_said text q page now steps status (inr cut) = record {
  comes = cut_off (work_of_text text) refl cut.0 (record { files = refl; made = refl })
      (subst (λ (xs : List ℕ). AppendsPrefix page.printed now.printed xs) (sym (append-nil text)) cut.1) cut.2
      refl refl;
  ports = refl;
  calls = omega arith;
  steps = refl;
}
