-- What a command that reads files comes to.
use Rattle.std.proofs.Common.{◌≡◌, ◌≢◌, ◌⊎◌, ℕ, Option, None, List, Result, Ok, Err, refl, sym, ap, subst, inl, inr}
use Rattle.std.proofs.Common.{arith}
use Rattle.std.specs.Prelude.{IfOk}
use Rattle.sd_base.specs.Count.{with_added}
use Rattle.sd_ports.specs.Files.{Files}
use Rattle.sd_command_base.specs.declared.status.Status.{Status}
use Rattle.sd_command_base.specs.Outside.{DepotState, PageState, IoState, io_state, depot_after_calls}
use Rattle.sd_command_base.specs.Spec.{Spec, FileArgument, Readings, IsReadingOfFile, and_then, of_result, value, ◌>>=◌}
use Rattle.sd_command_base.specs.Work.{Out, Mark, Work}
use Rattle.sd_command_base.specs.Outcome.{IsEnding, HasMiss, IsOutMade, marked_by, printing, refused, ended, exhausted}
use Rattle.sd_command_base.specs.Outcome.{cut_off}
use Rattle.sd_command_base.specs.Outcome.{OutcomeWithin}
use Rattle.sd_command_base.specs.Outcome.{Implements}
use Rattle.sd_command_base.specs.Reads.{IsAsked, IsRefused, IsStopped, StepOutcome, FileOutcome, FilesOutcome}
use Rattle.sd_command_base.specs.Reads.{JudgedOutcome}
use Rattle.sd_command_base.specs.Reads.{SureOutcome}
use Rattle.sd_command_base.specs.Prints.{PrintsWork}
use Rattle.sd_command_base.proofs.Moves.{then_obeys}
use Rattle.sd_command_base.proofs.Firsts.{takes_none, stopped_comes, first_obeys, then_gives, first_gives}
use Rattle.sd_command_base.proofs.Givens.{one_given, two_given}

called_none : (n : ℕ) (a : DepotState) → depot_after_calls n a ≡ depot_after_calls 0 (depot_after_calls n a)
called_none n a =
    let same : with_added a.calls n ≡ with_added (with_added a.calls n) 0 = omega arith in
    ap (λ (c : ℕ). record {
      files = a.files;
      faults = a.faults;
      stops = a.stops;
      misses = a.misses;
      made = a.made;
      opened = a.opened;
      calls = c;
    }) same

-- after calls nothing more is called
pub rests : (n : ℕ) (a b : DepotState) → b ≡ depot_after_calls n a → b ≡ depot_after_calls 0 b
rests n a b e = subst (λ (z : DepotState). z ≡ depot_after_calls 0 z) (sym e) (called_none n a)

asks_none : (n : ℕ) (a b : DepotState) → b ≡ depot_after_calls n a → IsAsked 0 b b
asks_none n a b e = record {
  files = refl;
  made = refl;
  ports = refl;
  calls = omega arith;
}

none_missing : (status : Status) (misses : ℕ) → IsEnding status → HasMiss status misses misses
none_missing status misses h = record { missing = λ word is. absurd (subst IsEnding is h); there = λ other. refl }

-- what is judged after calls
judged_gives : {X Y : Type 0} (view : X → Y) (meant : Result Y Status) (n : ℕ) (a b : DepotState)
    (result : Result X Status) →
    b ≡ depot_after_calls n a → JudgedOutcome view meant result → StepOutcome view (of_result meant) b b result
judged_gives view meant n a b (Ok x) e h = (h, rests n a b e)
judged_gives view meant n a b (Err status) e (inl h) = inl (record {
  value = h.0;
  refusal = h.1;
  asked = asks_none n a b e;
  calm = refl;
  miss = none_missing status b.misses h.2;
})
judged_gives view meant n a b (Err status) e (inr h) =
    inr (record { cause = inl (h, refl, refl); asked = asks_none n a b e; misses = refl })

-- what is judged without memory is judged
pub alone_judges : {X Y : Type 0} (view : X → Y) (meant : Result Y Status) (result : Result X Status) →
    SureOutcome view meant result → JudgedOutcome view meant result
alone_judges view meant (Ok x) h = h
alone_judges view meant (Err status) h = inl h

-- a file that was read and then judged
pub looks_judged : {X Y W Z : Type 0} (before : X → Z) (view : W → Y) (meant : Option (List ℕ) → Spec Z)
    (next : Z → Result Y Status)
    (name : List ℕ) (a b : DepotState) (x : X) (result : Result W Status) → FileOutcome before meant name a b (Ok x) →
    JudgedOutcome view (next (before x)) result →
    FileOutcome view (λ got. meant got >>= λ z. of_result (next z)) name a b result
looks_judged before view meant next name a b x result h j = record {
  got = h.got;
  is_got = h.is_got;
  gives = then_gives view (meant h.got) (before x) (λ z. of_result (next z)) a b b result h.gives.0 h.gives.1
      (judged_gives view (next (before x)) (meant h.got).calls a b result h.gives.1 j);
}

-- a file that was not read
pub looks_first : {X Y W Z : Type 0} (before : X → Z) (view : W → Y) (meant : Option (List ℕ) → Spec Z)
    (next : Z → Spec Y)
    (name : List ℕ) (a b : DepotState) (status : Status) → FileOutcome before meant name a b (Err status) →
    FileOutcome view (λ got. meant got >>= next) name a b (Err status)
looks_first before view meant next name a b status h = record {
  got = h.got;
  is_got = h.is_got;
  gives = first_gives view (meant h.got) next a b status h.gives;
}

-- a command that came to work or to none before anything was printed or made
pub given_obeys : (meant : Spec Work) (p q : DepotState) (page : PageState) (steps : ℕ) (status : Status) →
    IsRefused meant p q status ⊎ IsStopped meant.calls p q status →
    OutcomeWithin meant (io_state p page steps) (io_state q page steps) status
given_obeys meant p q page steps status (inl h) = record {
  comes = refused h.value h.refusal (record { files = h.asked.files; made = h.asked.made }) refl
      (record { depot = h.calm; print = refl }) h.miss;
  ports = h.asked.ports;
  calls = let c = h.asked.calls in omega arith;
  steps = takes_none meant.result steps;
}
given_obeys meant p q page steps status (inr h) = record {
  comes = stopped_comes meant.result meant.calls p q page steps steps status h h.cause;
  ports = h.asked.ports;
  calls = let c = h.asked.calls in omega arith;
  steps = takes_none meant.result steps;
}

-- files that were refused, or not read
pub reads_follows : {X : Type 0} (view : X → Work) (meant : Readings →
    Spec Work) (p q : DepotState) (page : PageState) (steps : ℕ) (status : Status) →
    FilesOutcome view meant p q (Err status) → Implements meant (io_state p page steps) (io_state q page steps) status
reads_follows view meant p q page steps status h = record {
  given = h.given;
  is_given = h.is_given;
  obeyed = given_obeys (meant h.given) p q page steps status h.gives;
}

-- a first file that was refused, or not read
pub looks_follows : {X Z : Type 0} (view : X → Z) (meant : Option (List ℕ) → Spec Z) (next : Z → Spec Work)
    (word : FileArgument) (p q : DepotState)
    (page : PageState) (steps : ℕ) (status : Status) → FileOutcome view meant word.text p q (Err status) →
    Implements (λ given. meant (given word) >>= next) (io_state p page steps) (io_state q page steps) status
looks_follows {Z = Z} view meant next word p q page steps status h =
    let g = one_given p.files word h.got h.is_got in record {
      given = g.given;
      is_given = g.is_given;
      obeyed = subst (λ (got : Option (List ℕ)). OutcomeWithin (meant got >>= next) (io_state p page steps)
          (io_state q page steps) status) (sym g.gave)
          (first_obeys (meant h.got) next p q page steps status h.gives);
    }

-- a first file that was read
pub looked_follows : {X Z : Type 0} (view : X → Z) (meant : Option (List ℕ) → Spec Z) (next : Z → Spec Work)
    (word : FileArgument) (p q : DepotState)
    (page : PageState) (steps : ℕ) (b : IoState) (x : X) (status : Status) →
    FileOutcome view meant word.text p q (Ok x) →
    OutcomeWithin (next (view x)) (io_state q page steps) b status →
    Implements (λ given. meant (given word) >>= next) (io_state p page steps) b status
looked_follows view meant next word p q page steps b x status h obeys =
    let g = one_given p.files word h.got h.is_got in record {
      given = g.given;
      is_given = g.is_given;
      obeyed = subst (λ (got : Option (List ℕ)). OutcomeWithin (meant got >>= next) (io_state p page steps) b status)
          (sym g.gave)
          (then_obeys (meant h.got) (view x) next p q page steps b status h.gives.0 h.gives.1 obeys);
    }

none_made : (work : Work) (n : ℕ) (p q : DepotState) → work.out ≡ None → work.mark ≡ None → q ≡ depot_after_calls n p →
    IsOutMade work.out (marked_by work.mark p) q
none_made work n p q none unmarked e =
    subst (λ (o : Option Out). IsOutMade o (marked_by work.mark p) q) (sym none)
    (subst (λ (m : Option Mark). IsOutMade None (marked_by m p) q) (sym unmarked)
    (record { files = ap (λ (z : DepotState). z.files) e; made = ap (λ (z : DepotState). z.made) e }))

-- work that only prints, after its files were read
pub printed_obeys : (meant : Spec Work) (work : Work) (p q : DepotState) (page now : PageState) (steps : ℕ)
    (status : Status) →
    meant.result ≡ Ok work →
    work.out ≡ None → work.mark ≡ None → IsEnding work.ends → q ≡ depot_after_calls meant.calls p →
    PrintsWork work page now status →
    OutcomeWithin meant (io_state p page steps) (io_state q now steps) status
printed_obeys meant work p q page now steps status is none unmarked ending e prints = record {
  comes = elim prints [
    | inl all ↦ ended work is all.0 (subst IsEnding (sym all.0) ending) (none_made work meant.calls p q none unmarked e)
        all.1
        (record { depot = ap (λ (z : DepotState). z.faults) e; print = all.2 }) (ap (λ (z : DepotState). z.misses) e)
    | inr (inl some) ↦ exhausted some.0 (printing work is (none_made work meant.calls p q none unmarked e) some.1)
        (ap (λ (z : DepotState). z.stops) e) some.2 (ap (λ (z : DepotState). z.misses) e)
    | inr (inr cut) ↦ cut_off work is cut.0 (none_made work meant.calls p q none unmarked e) cut.1 cut.2
        (ap (λ (z : DepotState). z.faults) e) (ap (λ (z : DepotState). z.misses) e)
  ];
  ports = ap (λ (z : DepotState). z.opened) e;
  calls = let same = ap (λ (z : DepotState). z.calls) e in omega (arith, same);
  steps = takes_none meant.result steps;
}

-- two files that were read, one after the other
pub reads_two : {X W Y Z V : Type 0} (view_first : X → Y) (view_second : W → Z) (view : W → V)
    (first : Option (List ℕ) → Spec Y)
    (second : Y → Option (List ℕ) → Spec Z) (both : Y → Z →
    V) (one two : FileArgument) (p q r : DepotState) (x : X) (w : W) →
    one.number ≢ two.number → FileOutcome view_first first one.text p q (Ok x) →
    FileOutcome view_second (second (view_first x)) two.text q r (Ok w) →
    both (view_first x) (view_second w) ≡ view w →
    FilesOutcome view (λ given. first (given one) >>= λ y. second y (given two) >>= λ z. value (both y z)) p r (Ok w)
reads_two {Z = Z} {V = V} view_first view_second view first second both one two p q r x w apart h k same =
    let y = view_first x in
    let is_more : IsReadingOfFile p.files two.text k.got = subst (λ (f : Option Files). IsReadingOfFile f two.text
    k.got)
    (ap (λ (z : DepotState). z.files) h.gives.1) k.is_got in
    let g = two_given p.files one two h.got k.got apart h.is_got is_more in
    let goes : StepOutcome view (second y k.got >>= λ z. value (both y z)) q r (Ok w) =
    then_gives view (second y k.got) (view_second w) (λ z. value (both y z)) q r r (Ok w) k.gives.0 k.gives.1
    (ap Ok same, rests (second y k.got).calls q r k.gives.1) in
    record {
      given = g.given;
      is_given = g.is_given;
      gives = subst (λ (got : Option (List ℕ)).
          StepOutcome view (first got >>= λ y. second y (g.given two) >>= λ z. value
          (both y z)) p r (Ok w)) (sym g.gave)
          (subst (λ (more : Option (List ℕ)).
          StepOutcome view (first h.got >>= λ y. second y more >>= λ z. value (both y z)) p r (Ok w)) (sym g.gave_more)
          (then_gives view (first h.got) y (λ y. second y k.got >>= λ z. value (both y z)) p q r (Ok w) h.gives.0
          h.gives.1 goes));
    }

-- the second of two files was refused, or not read
pub reads_second : {X W Y Z V : Type 0} (view_first : X → Y) (view_second : W → Z) (view : W → V)
    (first : Option (List ℕ) → Spec Y)
    (second : Y → Option (List ℕ) → Spec Z) (next : Y → Z →
    Spec V) (one two : FileArgument) (p q r : DepotState) (x : X) (status : Status) →
    one.number ≢ two.number → FileOutcome view_first first one.text p q (Ok x) →
    FileOutcome view_second (second (view_first x)) two.text q r (Err status) →
    FilesOutcome view (λ given. first (given one) >>= λ y. second y (given two) >>= next y) p r (Err status)
reads_second view_first view_second view first second next one two p q r x status apart h k =
    let y = view_first x in
    let is_more : IsReadingOfFile p.files two.text k.got = subst (λ (f : Option Files). IsReadingOfFile f two.text
    k.got)
    (ap (λ (z : DepotState). z.files) h.gives.1) k.is_got in
    let g = two_given p.files one two h.got k.got apart h.is_got is_more in
    let goes : StepOutcome view (second y k.got >>= next y) q r (Err status) =
    first_gives view (second y k.got) (next y) q r
    status k.gives in
    record {
      given = g.given;
      is_given = g.is_given;
      gives = subst (λ (got : Option (List ℕ)).
          StepOutcome view (first got >>= λ y. second y (g.given two) >>= next y) p r (Err status)) (sym g.gave)
          (subst (λ (more : Option (List ℕ)). StepOutcome view (first h.got >>= λ y. second y more >>= next y) p r
          (Err status)) (sym g.gave_more)
          (then_gives view (first h.got) y (λ y. second y k.got >>= next y) p q r (Err status) h.gives.0 h.gives.1
          goes));
    }

-- the first of them was refused, or not read
pub reads_first : {X W Y V : Type 0} (view_first : X → Y) (view : W → V) (first : Option (List ℕ) → Spec Y)
    (next : Readings → Y → Spec V)
    (one : FileArgument) (p q : DepotState) (status : Status) → FileOutcome view_first first one.text p q (Err status) →
    FilesOutcome view (λ given. first (given one) >>= next given) p q (Err status)
reads_first view_first view first next one p q status h =
    let g = one_given p.files one h.got h.is_got in record {
      given = g.given;
      is_given = g.is_given;
      gives = subst (λ (got : Option (List ℕ)).
          StepOutcome view (first got >>= next g.given) p q (Err status)) (sym g.gave)
          (first_gives view (first h.got) (next g.given) p q status h.gives);
    }

-- work that only prints, whose files were read
pub prints_follows : {X : Type 0} (view : X → Work) (meant : Readings →
    Spec Work) (p q : DepotState) (page now : PageState) (steps : ℕ) (x : X) (status : Status) →
    (view x).out ≡ None → (view x).mark ≡ None → IsEnding (view x).ends → FilesOutcome view meant p q (Ok x) →
    PrintsWork (view x) page now status →
    Implements meant (io_state p page steps) (io_state q now steps) status
prints_follows view meant p q page now steps x status none unmarked ending h prints = record {
  given = h.given;
  is_given = h.is_given;
  obeyed = printed_obeys (meant h.given) (view x) p q page now steps status h.gives.0 none unmarked ending h.gives.1
      prints;
}

-- the second of two files was read, or not
pub reads_then : {X W Y Z V : Type 0} (view_first : X → Y) (view_second : W → Z) (view : W → V)
    (first : Option (List ℕ) → Spec Y)
    (second : Y → Option (List ℕ) → Spec Z) (both : Y → Z → V) (one two : FileArgument) (p q r : DepotState) (x : X)
    (result : Result W Status) →
    one.number ≢ two.number → FileOutcome view_first first one.text p q (Ok x) →
    FileOutcome view_second (second (view_first x)) two.text q r result →
    IfOk result (λ w. both (view_first x) (view_second w) ≡ view w) →
    FilesOutcome view (λ given. first (given one) >>= λ y. second y (given two) >>= λ z. value (both y z)) p r result
reads_then view_first view_second view first second both one two p q r x (Ok w) apart h k same =
    reads_two view_first view_second view first second both one two p q r x w apart h k same
reads_then view_first view_second view first second both one two p q r x (Err status) apart h k same =
    reads_second view_first view_second view first second (λ y z. value (both y z)) one two p q r x status apart h k

pub where_ok : {X E : Type 0} (r : Result X E) (P Q : X → Type 0) → ((x : X) → P x → Q x) → IfOk r P → IfOk r Q
where_ok (Ok x) P Q step h = step x h
where_ok (Err e) P Q step h = tt

-- a single file that was read, or not
pub looks_reads : {X Z V : Type 0} (before : X → Z) (next : Z → V) (meant : Option (List ℕ) →
    Spec Z) (word : FileArgument) (p q : DepotState) (x : X) →
    FileOutcome before meant word.text p q (Ok x) →
    FilesOutcome (λ x. next (before x)) (λ given. meant (given word) >>= λ z. value (next z)) p q (Ok x)
looks_reads before next meant word p q x h =
    let g = one_given p.files word h.got h.is_got in record {
      given = g.given;
      is_given = g.is_given;
      gives = subst (λ (got : Option (List ℕ)).
          StepOutcome (λ x. next (before x)) (meant got >>= λ z. value (next z)) p q (Ok x)) (sym g.gave)
          (then_gives (λ x. next (before x)) (meant h.got) (before x) (λ z. value (next z)) p q q (Ok x) h.gives.0
          h.gives.1
          (refl, rests (meant h.got).calls p q h.gives.1));
    }

-- files that were read, and then a value of what they said
pub read_then : {X W Y V : Type 0} (before : X → Y) (view : W → V) (meant : Readings → Spec Y) (next : Y → V)
    (p q : DepotState) (x : X) (w : W) → next (before x) ≡ view w → FilesOutcome before meant p q (Ok x) →
    FilesOutcome view (λ given. meant given >>= λ y. value (next y)) p q (Ok w)
read_then before view meant next p q x w same h = record {
  given = h.given;
  is_given = h.is_given;
  gives = then_gives view (meant h.given) (before x) (λ y. value (next y)) p q q (Ok w) h.gives.0 h.gives.1
      (ap Ok same, rests (meant h.given).calls p q h.gives.1);
}

-- files of which one was refused, or not read
pub unread_then : {X W Y V : Type 0} (before : X → Y) (view : W → V) (meant : Readings → Spec Y) (next : Y → V)
    (p q : DepotState) (status : Status) → FilesOutcome before meant p q (Err status) →
    FilesOutcome view (λ given. meant given >>= λ y. value (next y)) p q (Err status)
unread_then before view meant next p q status h = record {
  given = h.given;
  is_given = h.is_given;
  gives = first_gives view (meant h.given) (λ y. value (next y)) p q status h.gives;
}

-- after a first value, the result is what the next step's is
pub then_is : {A B : Type 0} (first : Spec A) (x : A) (next : A → Spec B) → first.result ≡ Ok x →
    (first >>= next).result ≡ (next x).result
then_is {A} first x next e = ap (λ (r : Result A Status). (and_then first.calls r next).result) e
