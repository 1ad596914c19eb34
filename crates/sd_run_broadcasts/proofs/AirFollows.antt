-- What comes of `air` by what its files gave.
use Rattle.std.proofs.Common.{◌≡◌, ◌≢◌, ◌∙◌, ◌+◌, ◌≤◌, ℕ, false, cond, List, length}
use Rattle.std.proofs.Common.{Option, Some, None, Ok, Err, refl, sym, ap, subst, inl, inr, arith}
use Rattle.std.proofs.Common.{length-append}
use Rattle.std.specs.Prelude.{nat_eq, codes, ◌&&◌, ◌||◌}
use Rattle.sd_base.proofs.Arithmetic.{same_number, other_number, other_number_back}
use Rattle.sd_ports.specs.Files.{Files}
use Rattle.sd_spec.specs.Plan.{Plan}
use Rattle.sd_command_base.specs.declared.status.Status.{Status}
use Rattle.sd_command_base.specs.declared.status.Status.TheVariants.{SiteUsed}
use Rattle.sd_command_base.specs.Outside.{DepotState, PageState, IoState, io_state}
use Rattle.sd_command_base.specs.Work.{Work, all_calls}
use Rattle.sd_command_base.specs.Spec.{Spec, FileArgument, Readings, AreReadingsOfFiles, IsReadingOfFile}
use Rattle.sd_command_base.specs.Spec.{whole_file_bytes, value, ◌>>=◌}
use Rattle.sd_command_base.specs.Made.{out_file, unused, used_name}
use Rattle.sd_command_base.specs.Outcome.{IsRefusal, Outcome, refused, exhausted, failed, nowhere}
use Rattle.sd_command_base.specs.Outcome.{unmarked as unmarkable}
use Rattle.sd_command_base.specs.Outcome.{untouched, marking, StopsFirst, OutcomeWithin, Implements}
use Rattle.sd_command_base.specs.Reads.{IsAsked, FilesOutcome}
use Rattle.sd_command_base.proofs.Firsts.{first_obeys, takes_none, unmade}
use Rattle.sd_command_base.proofs.Givens.{some_got, two_given}
use Rattle.sd_command_base.proofs.Looked.{none_got, all_calls as opening_calls}
use Rattle.sd_command_base.proofs.Moves.{then_obeys}
use Rattle.sd_command_base.proofs.News.{free_got, there_got}
use Rattle.sd_run_broadcasts.specs.Air.{air_meaning, air_plan_by, air_plan_meaning, aired_by, aired_meaning, airing}
use Rattle.sd_run_broadcasts.specs.Air.{live_sent, mark_word}
use Rattle.sd_run_broadcasts.specs.Marked.{mark_at, with_mark_made, Unmarked, used, no_mark, stopped_first, no_folder}
use Rattle.sd_run_broadcasts.specs.Marked.{stopped_then, IsOpenedMarked, NotOpenedMarked, no_input, stopped_open}
use Rattle.sd_run_broadcasts.specs.Marked.{unmarked}

-- what is meant by what the files of the live stream and of the mark gave
pub aired_follows : (plan : Plan) (site clear out : FileArgument) (a b : IoState) (status : Status)
    (got more : Option (List ℕ)) → site.number ≢ clear.number → IsReadingOfFile a.place.files clear.text got →
    IsReadingOfFile a.place.files (used_name site.text) more →
    OutcomeWithin (aired_by plan site clear.number out got more) a b status →
    Implements (aired_meaning plan site clear out) a b status
aired_follows plan site clear out a b status got more apart is is_more obeys =
    let g = two_given a.place.files clear (mark_word site) got more (λ e. apart (sym e)) is is_more in record {
      given = g.given;
      is_given = g.is_given;
      obeyed = subst (λ (x : Option (List ℕ)). OutcomeWithin (aired_by plan site clear.number out x
          (g.given (mark_word site))) a b status) (sym g.gave)
          (subst (λ (x : Option (List ℕ)). OutcomeWithin (aired_by plan site clear.number out got x) a b status)
          (sym g.gave_more) obeys);
    }

-- nothing says whether a file is there whose depot doesn't tell its files
untold_got : (files : Option Files) (name : List ℕ) → files ≡ None → IsReadingOfFile files name None
untold_got files name is = subst (λ (f : Option Files). IsReadingOfFile f name None) (sym is) tt

-- as many calls as are made if the live stream was opened
calls_open : (plan : Plan) (site out : FileArgument) (clear : ℕ) (bytes : List ℕ) (more : Option (List ℕ)) (n : ℕ) →
    n ≤ 4 → n ≤ all_calls (aired_by plan site clear out (Some bytes) more)
calls_open plan site out clear bytes None n few = omega (arith, few)
calls_open plan site out clear bytes (Some mark) n few = omega (arith, few)

-- no stream is refused
stops_any : (plan : Plan) (site out : FileArgument) (clear : ℕ) (bytes : List ℕ) (more : Option (List ℕ))
    (a b : DepotState) → StopsFirst (aired_by plan site clear out (Some bytes) more).result a b
stops_any plan site out clear bytes None a b = λ breaks. cc
stops_any plan site out clear bytes (Some mark) a b = tt

module _ (plan : Plan) (site clear out : FileArgument) (a b : DepotState) (page : PageState) (steps : ℕ)
    (apart : site.number ≢ clear.number) where
  abbrev Comes : Option (List ℕ) → Option (List ℕ) → Status → Type 0
  Comes got more status =
      Outcome (aired_by plan site clear.number out got more).result (io_state a page steps) (io_state b page steps)
      status

  abbrev Obeys : Status → Type 0
  Obeys status =
      Implements (aired_meaning plan site clear out) (io_state a page steps) (io_state b page steps) status

  -- the mark or OUT wasn't made
  module _ (bytes : List ℕ) (is_got : IsReadingOfFile a.files clear.text (Some bytes)) where
    -- nothing was made
    unmade_obeys : (more : Option (List ℕ)) (status : Status) → IsReadingOfFile a.files (used_name site.text) more →
        IsAsked 4 a b → Comes (Some bytes) more status → Obeys status
    unmade_obeys more status is_more asked comes =
        aired_follows plan site clear out (io_state a page steps) (io_state b page steps) status (Some bytes) more apart
        is_got is_more (record {
          comes = comes;
          ports = asked.ports;
          calls =
              let few = asked.calls in
              omega (arith, few, calls_open plan site out clear.number bytes more 4 (omega arith));
          steps = takes_none (aired_by plan site clear.number out (Some bytes) more).result steps;
        })

    -- the mark was made
    marked_obeys : (status : Status) → IsReadingOfFile a.files (used_name site.text) None →
        IsAsked (4 + 2) (with_mark_made (mark_word site) a) b → Comes (Some bytes) None status → Obeys status
    marked_obeys status is_more asked comes =
        aired_follows plan site clear out (io_state a page steps) (io_state b page steps) status (Some bytes) None apart
        is_got is_more (record {
          comes = comes;
          ports = asked.ports;
          calls = let few = asked.calls in omega (arith, few);
          steps = tt;
        })

    not_marked : (status : Status) → Unmarked (mark_word site) out 4 a b status → Obeys status
    not_marked status (used is there asked calm misses) =
        let got = there_got a.files (used_name site.text) there in
        subst Obeys (sym is) (unmade_obeys (Some got.0) SiteUsed got.1 asked
        (refused refl tt (unmade 4 a b asked) refl (record { depot = calm; print = refl })
        (record { missing = λ word e. absurd (cc); there = λ other. misses })))
    not_marked status (no_mark is none asked calm rose) =
        unmade_obeys None status (untold_got a.files (used_name site.text) none) asked
        (unmarkable (airing plan site out bytes) refl (mark_at (mark_word site)) refl is none (unmade 4 a b asked) refl
        (record { depot = calm; print = refl }) rose)
    not_marked status (stopped_first (inl memory) asked misses) =
        let got = some_got a.files (used_name site.text) in
        unmade_obeys got.0 status got.1 asked
        (exhausted memory.0 (untouched (unmade 4 a b asked) refl) memory.2 refl misses)
    not_marked status (stopped_first (inr device) asked misses) =
        let got = some_got a.files (used_name site.text) in
        unmade_obeys got.0 status got.1 asked
        (failed device.0 (untouched (unmade 4 a b asked) refl) device.1
        (stops_any plan site out clear.number bytes got.0 a b) refl misses)
    not_marked status (no_folder is none asked calm rose) =
        marked_obeys status (untold_got a.files (used_name site.text) none) asked
        (nowhere (airing plan site out bytes) refl (out_file out (live_sent plan bytes)) refl is none
        (unmade (4 + 2) (with_mark_made (mark_word site) a) b asked) refl (record { depot = calm; print = refl }) rose)
    not_marked status (stopped_then new (inl memory) asked misses) =
        marked_obeys status (free_got a.files (used_name site.text) new) asked
        (exhausted memory.0 (marking (airing plan site out bytes) refl
        (unmade (4 + 2) (with_mark_made (mark_word site) a) b asked) refl) memory.2 refl misses)
    not_marked status (stopped_then new (inr device) asked misses) =
        marked_obeys status (free_got a.files (used_name site.text) new) asked
        (failed device.0 (marking (airing plan site out bytes) refl
        (unmade (4 + 2) (with_mark_made (mark_word site) a) b asked) refl) device.1 (λ breaks. cc) refl misses)

  -- the live stream wasn't opened, or the mark or OUT wasn't made
  pub not_opened : (status : Status) → NotOpenedMarked clear (mark_word site) out a b status → Obeys status
  not_opened status (no_input is none asked calm rose) =
      let more = some_got a.files (used_name site.text) in
      aired_follows plan site clear out (io_state a page steps) (io_state b page steps) status None more.0 apart
      (none_got a.files clear.text none) more.1
      (first_obeys (whole_file_bytes clear.number None) (λ bytes. unused more.0 >>=
      λ new. value (airing plan site out bytes)) a b
      page steps status (inl (record {
        value = ap Err (sym is);
        refusal = subst IsRefusal (sym is) tt;
        asked = asked;
        calm = calm;
        miss = record { missing = λ word e. rose; there = λ other. absurd (other clear.number is) };
      })))
  not_opened status (stopped_open stopped) =
      let got = some_got a.files clear.text in
      let more = some_got a.files (used_name site.text) in
      aired_follows plan site clear out (io_state a page steps) (io_state b page steps) status got.0 more.0 apart got.1
      more.1
      (first_obeys (whole_file_bytes clear.number got.0) (λ bytes. unused more.0 >>=
      λ new. value (airing plan site out bytes)) a
      b page steps status (inr (record {
        cause = stopped.cause;
        asked = record {
          files = stopped.asked.files;
          made = stopped.asked.made;
          ports = stopped.asked.ports;
          calls = let one = stopped.asked.calls in omega (arith, one, opening_calls clear.number got.0);
        };
        misses = stopped.misses;
      })))
  not_opened status (unmarked there not) =
      let got = there_got a.files clear.text there in not_marked got.0 got.1 status not

-- what two files gave, and what others did
record FourGiven (files : Option Files) (given other : Readings) (site book clear : FileArgument) : Type 0 where
  all : Readings
  is_all : AreReadingsOfFiles files all
  first : all site ≡ given site
  second : all book ≡ given book
  third : all clear ≡ other clear
  fourth : all (mark_word site) ≡ other (mark_word site)

-- the name of the mark is longer than that of the site
longer : (name : List ℕ) → nat_eq (length (used_name name)) (length name) ≡ false
longer name =
    other_number (length (used_name name)) (length name)
    (λ same. let sum = length-append name (codes ".used") in omega (arith, same, sum))

four_given : (files : Option Files) (given other : Readings) (site book clear : FileArgument) →
    AreReadingsOfFiles files given → AreReadingsOfFiles files other → site.number ≢ book.number →
    site.number ≢ clear.number →
    book.number ≢ clear.number → FourGiven files given other site book clear
four_given None given other site book clear is is_other sb sc bc = record {
  all = λ w. cond (nat_eq w.number book.number
      || (nat_eq w.number site.number && nat_eq (length w.text) (length site.text))) (given w) (other w);
  is_all = tt;
  first = rw (other_number site.number book.number sb, same_number site.number, same_number (length site.text)) refl;
  second = rw (same_number book.number) refl;
  third = rw (other_number_back book.number clear.number bc, other_number_back site.number clear.number sc) refl;
  fourth = rw (other_number site.number book.number sb, same_number site.number, longer site.text) refl;
}
four_given (Some files) given other site book clear is is_other sb sc bc = record {
  all = given;
  is_all = is;
  first = refl;
  second = refl;
  third = ap (λ (g : Readings). g clear) (is ∙ sym is_other);
  fourth = ap (λ (g : Readings). g (mark_word site)) (is ∙ sym is_other);
}

-- a plan that was read, and then what is meant by it
pub plan_aired : {X : Type 0} (view : X → Plan) (site book clear out : FileArgument) (p q : DepotState)
    (page : PageState) (steps : ℕ) (b : IoState) (x : X) (status : Status) → site.number ≢ book.number →
    site.number ≢ clear.number → book.number ≢ clear.number →
    FilesOutcome view (air_plan_meaning site book) p q (Ok x) →
    Implements (aired_meaning (view x) site clear out) (io_state q page steps) b status →
    Implements (air_meaning site book clear out) (io_state p page steps) b status
unfolding air_meaning
plan_aired view site book clear out p q page steps b x status sb sc bc read f =
    let same : q.files ≡ p.files = ap (λ (z : DepotState). z.files) read.gives.1 in
    let g = four_given p.files read.given f.given site book clear read.is_given
    (subst (λ (files : Option Files). AreReadingsOfFiles files f.given) same f.is_given) sb sc bc in
    let one : air_plan_meaning site book read.given ≡ air_plan_meaning site book g.all =
    ap (λ (o : Option (List ℕ)). air_plan_by site.number book.number o (read.given book)) (sym g.first)
    ∙ ap (λ (o : Option (List ℕ)). air_plan_by site.number book.number (g.all site) o) (sym g.second) in
    let next : (plan : Plan) → aired_meaning plan site clear out f.given ≡ aired_meaning plan site clear out g.all =
    λ plan. ap (λ (o : Option (List ℕ)). aired_by plan site clear.number out o (f.given (mark_word site))) (sym g.third)
    ∙ ap (λ (o : Option (List ℕ)). aired_by plan site clear.number out (g.all clear) o) (sym g.fourth) in
    record {
      given = g.all;
      is_given = g.is_all;
      obeyed = subst (λ (m : Spec Plan). OutcomeWithin (m >>= λ plan. aired_meaning plan site clear out g.all)
          (io_state p page steps) b status) one
          (then_obeys (air_plan_meaning site book read.given) (view x)
          (λ plan. aired_meaning plan site clear out g.all) p q page steps b status read.gives.0 read.gives.1
          (subst (λ (m : Spec Work). OutcomeWithin m (io_state q page steps) b status) (next (view x)) f.obeyed));
    }

-- a plan that was not read
pub no_plan : {X : Type 0} (view : X → Plan) (site book clear out : FileArgument) (p q : DepotState) (page : PageState)
    (steps : ℕ) (status : Status) → FilesOutcome view (air_plan_meaning site book) p q (Err status) →
    Implements (air_meaning site book clear out) (io_state p page steps) (io_state q page steps) status
unfolding air_meaning
no_plan view site book clear out p q page steps status read = record {
  given = read.given;
  is_given = read.is_given;
  obeyed = first_obeys (air_plan_meaning site book read.given)
      (λ plan. aired_meaning plan site clear out read.given) p q page steps status read.gives;
}

-- two words that name one file are one
pub same_word : (number number' : ℕ) (text text' : List ℕ) → number ≡ number' → text ≡ text' →
    ◌≡◌ {A = FileArgument} (record { number = number; text = text }) (record { number = number'; text = text' })
same_word number number' text text' is same =
    ap (λ (n : ℕ). record { number = n; text = text }) is
    ∙ ap (λ (xs : List ℕ). record { number = number'; text = xs }) same

-- so are the marks of their names
pub opened_as : (mark mark' : FileArgument) (a b : DepotState) (from out : List ℕ) (left held : Option (List ℕ))
    (f o : ℕ) → mark ≡ mark' → IsOpenedMarked mark a b from out left held f o →
    IsOpenedMarked mark' a b from out left held f o
opened_as mark mark' a b from out left held f o same h =
    subst (λ (m : FileArgument). IsOpenedMarked m a b from out left held f o) same h
