-- What making a file that must be new leaves.
use Rattle.std.proofs.Common.{◌≡◌, ◌≢◌, ◌⊎◌, ℕ, ◌≤◌, Bool, cond, Option, Some, None, List, [], Result, Ok, Err, refl}
use Rattle.std.proofs.Common.{sym, ap, subst, inl, inr, arith}
use Rattle.std.specs.Prelude.{nat_eq, IsSome, IsErrOf}
use Rattle.std.specs.FinMap.{get}
use Rattle.std.proofs.KnownBytes.{Appends-nil}
use Rattle.sd_base.specs.Count.{with_added}
use Rattle.sd_base.proofs.Arithmetic.{same_number, other_number}
use Rattle.sd_ports.specs.Files.{Files, IsThere, IsNotThere, WritesNewFile}
use Rattle.sd_ports.specs.Files.{IsUnmade as IsNoFile, IsMadeShort as IsShortFile}
use Rattle.sd_ports.specs.Causes.{HasFileCause, CountsNewCalls}
use Rattle.sd_ports.specs.declared.file.FileFault.{FileFault}
use Rattle.sd_ports.specs.declared.file.FileFault.TheVariants as file
use Rattle.sd_ports.specs.declared.file.New.{New}
use Rattle.sd_ports.specs.declared.file.New.TheVariants as new
use Rattle.sd_command_base.specs.declared.status.Status.{Status}
use Rattle.sd_command_base.specs.declared.status.Status.TheVariants.{BadOut}
use Rattle.sd_command_base.specs.declared.status.OutCause.TheVariants.{There}
use Rattle.sd_command_base.specs.Outside.{DepotState, PageState, IoState, io_state}
use Rattle.sd_command_base.specs.Spec.{Spec, FileArgument, Readings, contents_of, AreReadingsOfFiles, IsReadingOfFile}
use Rattle.sd_command_base.specs.Spec.{◌>>=◌}
use Rattle.sd_command_base.specs.Work.{all_calls}
use Rattle.sd_command_base.specs.Outcome.{StopsFirst, Progress, untouched, writing, printing, Outcome}
use Rattle.sd_command_base.specs.Outcome.{refused, ended, exhausted, failed, nowhere, cut_off, OutcomeWithin}
use Rattle.sd_command_base.specs.Outcome.{Implements, status_of, IsEnding}
use Rattle.sd_command_base.specs.Prints.{PrintsWork}
use Rattle.sd_command_base.specs.Reads.{FilesOutcome}
use Rattle.sd_command_base.specs.Made.{NewFile, out_file, new_work, making_new, making_told, IsMadeNew}
use Rattle.sd_command_base.specs.Made.{NewOutcome, NewStep}
use Rattle.sd_command_base.proofs.Moves.{then_obeys}
use Rattle.sd_command_base.proofs.Firsts.{takes_none, first_obeys}
use Rattle.sd_command_base.proofs.Givens.{some_got}

-- a file that is there gave some bytes
pub there_got : (files : Option Files) (name : List ℕ) → IsThere files name →
    (bytes : List ℕ) × IsReadingOfFile files name (Some bytes)
there_got None name there = ([], tt)
there_got (Some files) name there = is_there (get files name) there
  where
    is_there : (found : Option (List ℕ)) → IsSome found → (bytes : List ℕ) × (Some bytes ≡ found)
    is_there (Some bytes) some = (bytes, refl)
    is_there None some = absurd (let h = some in cc)

-- a file that isn't there gave nothing
pub free_got : (files : Option Files) (name : List ℕ) → IsNotThere files name → IsReadingOfFile files name None
free_got None name free = tt
free_got (Some files) name free = sym free

-- nothing says whether a file is there whose depot doesn't tell its files
untold_got : (files : Option Files) (name : List ℕ) → files ≡ None → IsReadingOfFile files name None
untold_got files name is = subst (λ (f : Option Files). IsReadingOfFile f name None) (sym is) tt

-- making a new file takes at most two calls, whatever has its name
new_calls : (made : NewFile) (out : FileArgument) (got : Option (List ℕ)) → all_calls (making_new made out got) ≡ 2
new_calls made out None = refl
new_calls made out (Some bytes) = refl

-- no stream is refused when a new file is made
new_stops : (made : NewFile) (out : FileArgument) (got : Option (List ℕ)) (a b : DepotState) →
    StopsFirst (making_new made out got).result a b
new_stops made out None a b = λ breaks. cc
new_stops made out (Some bytes) a b = tt

-- the answer once the file of this word was to be made new
abbrev pub answer_of : ℕ → Result New FileFault → Result (Unit {0}) Status
answer_of word (Ok new.Made) = Ok tt
answer_of word (Ok new.There) = Err (BadOut word There)
answer_of word (Err fault) = making_told word (Err fault)

module _ (made : NewFile) (out : FileArgument) (a b : DepotState) (page : PageState) (steps : ℕ) where
  -- where the calls and the ports are these, an outcome is all
  within : (got : Option (List ℕ)) (status : Status) → IsReadingOfFile a.files out.text got → b.opened ≡ a.opened →
      b.calls ≤ with_added a.calls 2 →
      Outcome (making_new made out got).result (io_state a page steps) (io_state b page steps) status →
      NewOutcome made out (io_state a page steps) (io_state b page steps) status
  within got status is_got ports calls comes = record {
    got = got;
    is_got = is_got;
    obeyed = record {
      comes = comes;
      ports = ports;
      calls = let all = new_calls made out got in omega (arith, all, calls);
      steps = takes_none (making_new made out got).result steps;
    };
  }

  -- something has the name
  was_there : (bytes : List ℕ) → IsNoFile a.files b.files a.made b.made → b.faults ≡ a.faults → b.misses ≡ a.misses →
      Outcome (making_new made out (Some bytes)).result (io_state a page steps) (io_state b page steps)
      (BadOut out.number There)
  was_there bytes none calm misses =
      refused refl tt (record { files = none.0; made = none.1 }) refl (record { depot = calm; print = refl })
      (record { missing = λ word is. absurd (cc); there = λ other. misses })

  -- the file was not made
  not_made : (got : Option (List ℕ)) → IsNoFile a.files b.files a.made b.made →
      Progress (making_new made out got).result (io_state a page steps) (io_state b page steps)
  not_made got none = untouched (record { files = none.0; made = none.1 }) refl

  -- a prefix of the file was made
  made_short : IsShortFile a.files b.files a.made b.made out.text made.bytes →
      Progress (making_new made out None).result (io_state a page steps) (io_state b page steps)
  made_short cut =
      writing (new_work made out) refl (out_file out made.bytes) refl
      (record { prefix = cut.0; short = cut.1; files = cut.2.0; made = cut.2.1 }) refl

  -- the device failed at the file
  device_failed : b.opened ≡ a.opened → b.calls ≤ with_added a.calls 2 →
      HasFileCause {T = New} a.faults b.faults a.misses b.misses (Err file.Failed) →
      IsNoFile a.files b.files a.made b.made
      ⊎ (IsNotThere a.files out.text × IsShortFile a.files b.files a.made b.made out.text made.bytes) →
      NewStep made out (io_state a page steps) (io_state b page steps) (answer_of out.number (Err file.Failed))
  device_failed ports calls cause (inl none) =
      let got = some_got a.files out.text in
      within got.0 _ got.1 ports calls (failed refl (not_made got.0 none) (cause.failed refl)
      (new_stops made out got.0 a b) refl (cause.no_miss (λ e. cc)))
  device_failed ports calls cause (inr cut) =
      within None _ (free_got a.files out.text cut.0) ports calls (failed refl (made_short cut.1) (cause.failed refl)
      (new_stops made out None a b) refl (cause.no_miss (λ e. cc)))

  -- the steps of making a new file, by what came of writing it
  new_steps : (written : Result New FileFault) →
      WritesNewFile a.files b.files a.made b.made out.text made.bytes written →
      HasFileCause a.faults b.faults a.misses b.misses written →
      (¬ IsErrOf written file.Failed → b.stops ≡ a.stops) → b.opened ≡ a.opened →
      CountsNewCalls a.calls b.calls written →
      NewStep made out (io_state a page steps) (io_state b page steps) (answer_of out.number written)
  new_steps (Ok new.Made) file cause stops ports calls = record {
    new = (file.made refl).0;
    made = record { files = (file.made refl).1.0; made = (file.made refl).1.1 };
    faults = cause.no_fault (λ e. cc);
    stops = stops (λ e. cc);
    misses = cause.no_miss (λ e. cc);
    ports = ports;
    calls = let most = calls.most in omega (arith, most);
  }
  new_steps (Ok new.There) file cause stops ports calls =
      let got = there_got a.files out.text (file.there refl).0 in
      within (Some got.0) _ got.1 ports calls.most (was_there got.0 (file.there refl).1 (cause.no_fault (λ e. cc))
      (cause.no_miss (λ e. cc)))
  new_steps (Err file.Missing) file cause stops ports calls =
      within None _ (untold_got a.files out.text (file.missing refl).1) ports calls.most
      (nowhere (new_work made out) refl (out_file out made.bytes) refl refl (file.missing refl).1
      (record { files = (file.missing refl).0.0; made = (file.missing refl).0.1 }) refl
      (record { depot = cause.no_fault (λ e. cc); print = refl }) (cause.missing refl))
  new_steps (Err file.TooBig) file cause stops ports calls = absurd (file.fits refl)
  new_steps (Err file.Failed) file cause stops ports calls = device_failed ports calls.most cause (file.failed refl)
  new_steps (Err file.NoMemory) file cause stops ports calls =
      let got = some_got a.files out.text in
      within got.0 _ got.1 ports calls.most (exhausted refl (not_made got.0 (file.no_memory refl)) (stops (λ e. cc))
      refl (cause.no_miss (λ e. cc)))

  -- a file that must be new was made, or this is what became of it
  pub new_obeys : (written : Result New FileFault) (result : Result (Unit {0}) Status) →
      result ≡ answer_of out.number written →
      WritesNewFile a.files b.files a.made b.made out.text made.bytes written →
      HasFileCause a.faults b.faults a.misses b.misses written →
      (¬ IsErrOf written file.Failed → b.stops ≡ a.stops) → b.opened ≡ a.opened →
      CountsNewCalls a.calls b.calls written →
      NewStep made out (io_state a page steps) (io_state b page steps) result
  new_obeys written result told file cause stops ports calls =
      subst (λ (r : Result (Unit {0}) Status). NewStep made out (io_state a page steps) (io_state b page steps) r)
      (sym told) (new_steps written file cause stops ports calls)

  -- a new file that was made, and then its pieces printed
  pub new_then : (now : PageState) (status : Status) → IsMadeNew (out_file out made.bytes) a b →
      PrintsWork (new_work made out) page now status →
      NewOutcome made out (io_state a page steps) (io_state b now steps) status
  new_then now status h prints = record {
    got = None;
    is_got = free_got a.files out.text h.new;
    obeyed = record {
      comes = elim prints [
        | inl all ↦ ended (new_work made out) refl all.0 (subst IsEnding (sym all.0) tt) h.made all.1
            (record { depot = h.faults; print = all.2 }) h.misses
        | inr (inl some) ↦ exhausted some.0 (printing (new_work made out) refl h.made some.1) h.stops some.2 h.misses
        | inr (inr cut) ↦ cut_off (new_work made out) refl cut.0 h.made cut.1 cut.2 h.faults h.misses
      ];
      ports = h.ports;
      calls = h.calls;
      steps = refl;
    };
  }

-- a new file after which nothing is printed
pub new_alone : (bytes : List ℕ) (out : FileArgument) (a b : DepotState) (page : PageState) (steps : ℕ)
    (result : Result (Unit {0}) Status) →
    NewStep (record { bytes = bytes; pieces = [] }) out (io_state a page steps) (io_state b page steps) result →
    NewOutcome (record { bytes = bytes; pieces = [] }) out (io_state a page steps) (io_state b page steps)
    (status_of result)
new_alone bytes out a b page steps (Ok done) h =
    new_then (record { bytes = bytes; pieces = [] }) out a b page steps page _ h
    (inl (refl, Appends-nil page.printed, refl))
new_alone bytes out a b page steps (Err status) h = h

-- readings that were given, but for what the file of one more word gave
pub record GivenMore (files : Option Files) (given : Readings) (word : FileArgument) (got : Option (List ℕ)) :
    Type 0 where
  pub readings : Readings
  pub is_given : AreReadingsOfFiles files readings
  pub gave : readings word ≡ got
  pub others : (other : FileArgument) → other.number ≢ word.number → readings other ≡ given other

pub given_more : (files : Option Files) (given : Readings) (word : FileArgument) (got : Option (List ℕ)) →
    AreReadingsOfFiles files given → IsReadingOfFile files word.text got → GivenMore files given word got
given_more None given word got h k = record {
  readings = λ w. cond (nat_eq w.number word.number) got (given w);
  is_given = tt;
  gave = ap (λ (b : Bool). cond b got (given word)) (same_number word.number);
  others = λ other apart. ap (λ (b : Bool). cond b got (given other)) (other_number other.number word.number apart);
}
given_more (Some files) given word got h k = record {
  readings = contents_of files;
  is_given = refl;
  gave = sym k;
  others = λ other apart. ap (λ (g : Readings). g other) (sym h);
}

-- what is meant by the files of other words than this
abbrev pub IsOfOthers : {Y : Type 0} → FileArgument → (Readings → Spec Y) → Type 0
IsOfOthers word meant = (given other : Readings) →
    ((w : FileArgument) → w.number ≢ word.number → other w ≡ given w) → meant other ≡ meant given

module _ {X Y : Type 0} (view : X → Y) (meant : Readings → Spec Y) (made : Y → NewFile) (out : FileArgument)
    (p q : DepotState) (page : PageState) (steps : ℕ) where
  -- files that were refused, or not read, and so no file is made
  pub new_unread : (status : Status) → FilesOutcome view meant p q (Err status) →
      Implements (λ given. meant given >>= λ y. making_new (made y) out (given out)) (io_state p page steps)
      (io_state q page steps) status
  new_unread status h = record {
    given = h.given;
    is_given = h.is_given;
    obeyed = first_obeys (meant h.given) (λ y. making_new (made y) out (h.given out)) p q page steps status h.gives;
  }

  -- files that were read, and then a new file by what they gave
  pub new_follows : (b : IoState) (x : X) (status : Status) → IsOfOthers out meant →
      FilesOutcome view meant p q (Ok x) → NewOutcome (made (view x)) out (io_state q page steps) b status →
      Implements (λ given. meant given >>= λ y. making_new (made y) out (given out)) (io_state p page steps) b status
  new_follows b x status others h new =
      let is_got : IsReadingOfFile p.files out.text new.got =
      subst (λ (f : Option Files). IsReadingOfFile f out.text new.got)
      (ap (λ (z : DepotState). z.files) h.gives.1) new.is_got in
      let g = given_more p.files h.given out new.got h.is_given is_got in
      record {
        given = g.readings;
        is_given = g.is_given;
        obeyed = subst (λ (got : Option (List ℕ)). OutcomeWithin
            (meant g.readings >>= λ y. making_new (made y) out got) (io_state p page steps) b status) (sym g.gave)
            (subst (λ (s : Spec Y). OutcomeWithin (s >>= λ y. making_new (made y) out new.got) (io_state p page steps) b
            status) (sym (others h.given g.readings g.others))
            (then_obeys (meant h.given) (view x) (λ y. making_new (made y) out new.got) p q page steps b status
            h.gives.0 h.gives.1 new.obeyed));
      }
