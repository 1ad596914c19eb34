-- What comes of a file that goes into OUT while pieces are printed, with a last piece once OUT is closed.
use Rattle.std.proofs.Common.{◌≡◌, ◌≢◌, ◌⊎◌, ℕ, true, false, List, [], ◌∷◌, ◌++◌, length, take, Option}
use Rattle.std.proofs.Common.{Some, None}
use Rattle.std.proofs.Common.{Result, Ok, Err, refl, sym, ap, subst, ◌∙◌, inl, inr, arith, append-nil}
use Rattle.std.proofs.Common.{append_assoc}
use Rattle.std.specs.List.{concat}
use Rattle.std.specs.Io.KnownBytes.{Appends}
use Rattle.std.proofs.KnownBytes.{Appends-trans}
use Rattle.std.proofs.lemmas.List.Folds.{concat-append}
use Rattle.std.proofs.Math.Seq.{take-append_seam}
use Rattle.sd_base.specs.Count.{HasRisen}
use Rattle.sd_ports.specs.Bytes.{AppendsPrefix}
use Rattle.sd_ports.proofs.Outlets.{closed_whole, cut_short as closed_short}
use Rattle.sd_command_base.specs.declared.status.Status.{Status}
use Rattle.sd_command_base.specs.declared.status.Status.TheVariants.{Done, Usage, Missing, Revoked, DepotFault}
use Rattle.sd_command_base.specs.declared.status.Status.TheVariants.{PrintFault}
use Rattle.sd_command_base.specs.declared.status.Status.TheVariants.{BadSite, BadBook, BadCard, BadClear, BadStream}
use Rattle.sd_command_base.specs.declared.status.Status.TheVariants.{Limit}
use Rattle.sd_command_base.specs.declared.status.Status.TheVariants.{NoMemory, Unheard, Unclosed, Gaps, NoCat}
use Rattle.sd_command_base.specs.declared.status.Status.TheVariants.{BadWord, Clash, BadOut, OtherBook, SiteUsed}
use Rattle.sd_command_base.specs.declared.status.Status.TheVariants.{SiteUsedUp}
use Rattle.sd_command_base.specs.Outside.{DepotState, PageState, io_state}
use Rattle.sd_command_base.specs.Spec.{FileArgument, whole_file_bytes, value, ◌>>=◌}
use Rattle.sd_command_base.specs.Work.{StepBound, Mark, Work, TakesSteps}
use Rattle.sd_command_base.specs.Outcome.{IsEnding, IsRefusal, IsOutMadeShort, Progress, telling, Outcome, ended}
use Rattle.sd_command_base.specs.Outcome.{unclosed, exhausted, failed, nowhere, cut_short, OutcomeWithin}
use Rattle.sd_command_base.specs.Outcome.{status_of, IsNoOutMade, marked_by}
use Rattle.sd_command_base.proofs.Firsts.{takes_none, stopped_comes, first_obeys, unmade as unmade_files}
use Rattle.sd_command_base.proofs.Givens.{some_got as any_got}
use Rattle.sd_command_base.proofs.Streams.{is_other}
use Rattle.sd_command_base.proofs.Looked.{none_got, all_calls as opening_calls}
use Rattle.sd_command_base.proofs.Turning.{added_later, all_prefix, both_closed, still, rises, unclosed_told}
use Rattle.sd_command_base.proofs.Turning.{there_got, untold_got, NotTurned}
use Rattle.sd_command_base.specs.Turned.{ArePortsOpened, NotOpened, no_input, no_folder, stopped_first, stopped_then}
use Rattle.sd_command_base.specs.Turned.{unclosed_status, ArePortsClosed, is_break, HasPortCause}
use Rattle.sd_run_broadcasts.specs.Live.{living, Lived, all_lived, some_lived, unprinted, is_outside}
use Rattle.sd_run_broadcasts.specs.Live.{TellsEnd, untold, told, unmade, cut}

-- a status at the end of work doesn't come of the outside
ending_inside : (s : Status) → IsEnding s → is_outside s ≡ false
ending_inside Done e = refl
ending_inside Usage e = refl
ending_inside (Missing word) e = refl
ending_inside (Revoked leaf period) e = refl
ending_inside DepotFault e = absurd e
ending_inside PrintFault e = absurd e
ending_inside (BadSite word fault text) e = refl
ending_inside (BadBook word line) e = refl
ending_inside (BadCard word fault) e = refl
ending_inside (BadClear refusal) e = refl
ending_inside (BadStream refusal) e = refl
ending_inside (Limit kind) e = refl
ending_inside NoMemory e = absurd e
ending_inside (Unheard leaf period) e = refl
ending_inside (Unclosed number) e = refl
ending_inside (Gaps packets) e = refl
ending_inside NoCat e = refl
ending_inside (BadWord word) e = refl
ending_inside (Clash clash) e = refl
ending_inside (BadOut word cause) e = refl
ending_inside SiteUsed e = refl
ending_inside OtherBook e = refl
ending_inside (SiteUsedUp packet) e = refl

-- if OUT isn't closed, a refusal of a stream stands, and each other status at the end of work gives way
by_break : (s : Status) → IsEnding s → ((unclosed_status s ≡ s) × (is_break s ≡ true) × IsRefusal s)
    ⊎ ((unclosed_status s ≡ DepotFault) × (is_break s ≡ false))
by_break Done e = inr (refl, refl)
by_break Usage e = absurd e
by_break (Missing word) e = absurd e
by_break (Revoked leaf period) e = inr (refl, refl)
by_break DepotFault e = absurd e
by_break PrintFault e = absurd e
by_break (BadSite word fault text) e = inr (refl, refl)
by_break (BadBook word line) e = inr (refl, refl)
by_break (BadCard word fault) e = inr (refl, refl)
by_break (BadClear refusal) e = inl (refl, refl, tt)
by_break (BadStream refusal) e = inl (refl, refl, tt)
by_break (Limit kind) e = inr (refl, refl)
by_break NoMemory e = absurd e
by_break (Unheard leaf period) e = inr (refl, refl)
by_break (Unclosed number) e = inr (refl, refl)
by_break (Gaps packets) e = inr (refl, refl)
by_break NoCat e = inr (refl, refl)
by_break (BadWord word) e = inr (refl, refl)
by_break (Clash clash) e = inr (refl, refl)
by_break (BadOut word cause) e = inr (refl, refl)
by_break SiteUsed e = inr (refl, refl)
by_break OtherBook e = inr (refl, refl)
by_break (SiteUsedUp packet) e = inr (refl, refl)

-- a status of the outside is never given up where OUT isn't closed
pub gives_none : (s : Status) → is_outside s ≡ true → unclosed_status s ≡ s
gives_none Done e = cc
gives_none Usage e = cc
gives_none (Missing word) e = cc
gives_none (Revoked leaf period) e = cc
gives_none DepotFault e = refl
gives_none PrintFault e = refl
gives_none (BadSite word fault text) e = cc
gives_none (BadBook word line) e = cc
gives_none (BadCard word fault) e = cc
gives_none (BadClear refusal) e = cc
gives_none (BadStream refusal) e = cc
gives_none (Limit kind) e = cc
gives_none NoMemory e = refl
gives_none (Unheard leaf period) e = cc
gives_none (Unclosed number) e = cc
gives_none (Gaps packets) e = cc
gives_none NoCat e = cc
gives_none (BadWord word) e = cc
gives_none (Clash clash) e = cc
gives_none (BadOut word cause) e = cc
gives_none SiteUsed e = cc
gives_none OtherBook e = cc
gives_none (SiteUsedUp packet) e = cc

-- where the outside stopped the work, nothing more is printed
untold_only : (line : List ℕ) (s : Status) (b c : PageState) (status : Status) → is_outside s ≡ true →
    TellsEnd line s b c status → (status ≡ s) × (c ≡ b)
untold_only line s b c status out (untold is same none) = (same, none)
untold_only line s b c status out (told inside same more calm) =
    let wrong : true ≡ false = sym out ∙ inside in cc
untold_only line s b c status out (unmade inside same none) =
    let wrong : true ≡ false = sym out ∙ inside in cc
untold_only line s b c status out (cut inside same more rose) =
    let wrong : true ≡ false = sym out ∙ inside in cc

-- what is known of live work: its files and pieces, the two ports, and the print before, between and behind
pub record IsLive (steps : StepBound) (out : FileArgument) (bytes : List ℕ) (first : List (List ℕ)) (line : List ℕ)
    (ends : Status) (p q r : DepotState) (a b c : PageState) (i j : ℕ)
    (left held held' : Option (List ℕ)) (from : List ℕ) (f f' o o' : ℕ) (over closed : Result (Unit {0}) Status)
    (status : Status) : Type 0 where
  pub opened : ArePortsOpened p q from out.text left held f o
  pub cause : HasPortCause f f' o o' (status_of over)
  pub lived : Lived bytes (first ++ line ∷ []) first ends held held' a b (status_of over)
  pub closes : ArePortsClosed q r out.text held' f' o' over closed
  pub tells : TellsEnd line (status_of closed) b c status

module _ (steps : StepBound) (out : FileArgument) (bytes : List ℕ) (first : List (List ℕ)) (line : List ℕ)
    (ends : Status) (p q r : DepotState) (a b c : PageState) (i j : ℕ)
    (left held held' : Option (List ℕ)) (from : List ℕ) (f f' o o' : ℕ) (over closed : Result (Unit {0}) Status)
    (status : Status)
    (h : IsLive steps out bytes first line ends p q r a b c i j left held held' from f f' o o' over closed status) where
  abbrev pieces : List (List ℕ)
  pieces = first ++ line ∷ []

  abbrev work : Work
  work = living steps out bytes pieces ends

  abbrev Comes : PageState → Status → Type 0
  Comes page s = Outcome (Ok work) (io_state p a i) (io_state r page j) s

  -- OUT has a prefix of its bytes
  short : AppendsPrefix held held' bytes →
      IsOutMadeShort (record { word = out.number; name = out.text; bytes = bytes }) p r
  short prefix =
      let it = closed_short p.files q.files r.files out.text bytes held held' h.opened.files h.opened.empty prefix
      h.closes.prefix in
      record { prefix = it.0; short = it.1; files = it.2; made = h.closes.made ∙ h.opened.made }

  missed : r.misses ≡ p.misses
  missed = h.closes.misses ∙ h.opened.misses

  -- some pieces were printed while OUT was made
  told_some : AppendsPrefix held held' bytes → (page : PageState) (count : ℕ) →
      Appends a.printed page.printed (concat (take count pieces)) →
      Progress (Ok work) (io_state p a i) (io_state r page j)
  told_some prefix page count printed = telling work refl refl
      (record { word = out.number; name = out.text; bytes = bytes }) refl (short prefix) (count, printed)

  -- the first pieces are so many of all
  firsts : Appends a.printed b.printed (concat first) →
      Appends a.printed b.printed (concat (take (length first) pieces))
  firsts printed = subst (λ (xs : List (List ℕ)). Appends a.printed b.printed (concat xs))
      (sym (take-append_seam first (line ∷ []))) printed

  -- the pieces are the first ones and the line
  whole : concat pieces ≡ concat first ++ line
  whole = concat-append first (line ∷ []) ∙ ap (λ (xs : List ℕ). concat first ++ xs) (append-nil line)

  -- no device failed but at closing OUT
  stops_stand : status_of over ≢ DepotFault → r.stops ≡ p.stops
  stops_stand other = still p.stops q.stops r.stops f f' o o' (status_of over) h.opened.stops h.closes.below
      h.opened.from_fresh h.opened.out_fresh h.cause other h.closes.stops

  -- a device failed before OUT was to be closed
  stops_rose : status_of over ≡ DepotFault → HasRisen p.stops r.stops
  stops_rose is = rises p.stops q.stops r.stops f f' o o' (status_of over) h.opened.stops h.opened.from_fresh
      h.opened.out_fresh h.cause is h.closes.stops

  -- memory was out
  comes_exhausted : (page : PageState) (count : ℕ) → status_of over ≢ DepotFault → AppendsPrefix held held' bytes →
      Appends a.printed page.printed (concat (take count pieces)) → page.faults ≡ a.faults → Comes page NoMemory
  comes_exhausted page count other prefix printed calm =
      exhausted refl (told_some prefix page count printed) (stops_stand other) calm missed

  -- printing failed
  comes_cut : (page : PageState) → AppendsPrefix held held' bytes →
      AppendsPrefix a.printed page.printed (concat pieces) →
      HasRisen a.faults page.faults → Comes page PrintFault
  comes_cut page prefix printed rose = cut_short work refl refl refl
      (record { word = out.number; name = out.text; bytes = bytes }) refl (short prefix) printed rose missed

  -- a prefix of the line behind the first pieces
  cut_line : Appends a.printed b.printed (concat first) → AppendsPrefix b.printed c.printed line →
      AppendsPrefix a.printed c.printed (concat pieces)
  cut_line printed (part, (rest, joined), more) = (
    concat first ++ part,
    (rest, append_assoc (concat first) part rest ∙ ap (λ (xs : List ℕ). concat first ++ xs) joined ∙ sym whole),
    Appends-trans a.printed b.printed c.printed (concat first) part printed more,
  )

  -- all of the line behind them
  all_printed : Appends a.printed b.printed (concat first) → Appends b.printed c.printed line →
      Appends a.printed c.printed (concat pieces)
  all_printed printed more = subst (λ (xs : List ℕ). Appends a.printed c.printed xs) (sym whole)
      (Appends-trans a.printed b.printed c.printed (concat first) line printed more)

  -- a status of the outside stands, whether OUT is closed or not
  outside_stands : is_outside (status_of over) ≡ true → status_of closed ≡ status_of over
  outside_stands is = elim h.closes.ends [
    | inl whole ↦ ap status_of whole.0
    | inr short ↦ ap status_of short.0 ∙ unclosed_told over ∙ gives_none (status_of over) is
  ]

  -- and so nothing more is printed
  from_outside : is_outside (status_of over) ≡ true → (status ≡ status_of over) × (c ≡ b)
  from_outside is =
      let same = outside_stands is in
      let only = untold_only line (status_of closed) b c status (ap is_outside same ∙ is) h.tells in
      (only.0 ∙ same, only.1)

  -- the device's count rose
  faults_rose : status_of over ≡ DepotFault → HasRisen p.faults r.faults
  faults_rose is = elim h.closes.ends [
    | inl whole ↦ rises p.faults q.faults r.faults f f' o o' (status_of over) h.opened.faults h.opened.from_fresh
        h.opened.out_fresh h.cause is whole.2
    | inr short ↦
        subst (λ (n : ℕ). HasRisen n r.faults) h.opened.faults (added_later q.faults f' o' r.faults short.1)
  ]

  -- the outside stopped it before its ports were closed
  stopped : is_outside (status_of over) ≡ true → Comes b (status_of over) → Comes c status
  stopped is comes =
      let only = from_outside is in
      subst (λ (page : PageState). Comes page status) (sym only.1) (subst (λ (s : Status). Comes b s) (sym only.0)
      comes)

  -- the last line, behind all pieces but it
  ends_told : (s : Status) → status_of closed ≡ s → is_outside s ≡ false → status_of over ≢ DepotFault →
      AppendsPrefix held held' bytes →
      Appends a.printed b.printed (concat first) → b.faults ≡ a.faults →
      (Appends a.printed c.printed (concat pieces) → c.faults ≡ a.faults → Comes c s) → Comes c status
  ends_told s is inside other prefix printed calm comes = by h.tells
    where
      by : TellsEnd line (status_of closed) b c status → Comes c status
      by (untold out same none) =
          let false_true : true ≡ false = sym out ∙ ap is_outside is ∙ inside in cc
      by (told in_ same more still_calm) = subst (λ (x : Status). Comes c x) (sym (same ∙ is))
          (comes (all_printed printed more) (still_calm ∙ calm))
      by (unmade in_ same none) = subst (λ (x : Status). Comes c x) (sym same)
          (comes_exhausted c (length first) other prefix
          (subst (λ (page : PageState). Appends a.printed page.printed (concat (take (length first) pieces))) (sym none)
          (firsts printed)) (ap (λ (page : PageState). page.faults) none ∙ calm))
      by (cut in_ same more rose) = subst (λ (x : Status). Comes c x) (sym same)
          (comes_cut c prefix (cut_line printed more) (subst (λ (n : ℕ). HasRisen n c.faults) calm rose))

  -- all went well before its ports were closed
  lived_all : status_of over ≡ ends → IsEnding (status_of over) → Appends held held' bytes →
      Appends a.printed b.printed (concat first) → b.faults ≡ a.faults → Comes c status
  lived_all e ending wrote printed calm =
      let other : status_of over ≢ DepotFault = λ d. is_other (status_of over) ending d in
      let prefix = all_prefix held held' bytes wrote in
      let inside = ending_inside (status_of over) ending in
      elim h.closes.ends [
        | inl whole ↦ ends_told (status_of over) (ap status_of whole.0) inside other prefix printed calm (λ all same.
            ended work refl e ending
            (record {
              files = closed_whole p.files q.files r.files out.text bytes held held' h.opened.files h.opened.empty wrote
                  whole.1;
              made = h.closes.made ∙ h.opened.made;
            })
            all
            (record {
              depot = still p.faults q.faults r.faults f f' o o' (status_of over) h.opened.faults h.closes.within
                  h.opened.from_fresh h.opened.out_fresh h.cause other whole.2;
              print = same;
            })
            missed)
        | inr cut_off ↦
            let answer : status_of closed ≡ unclosed_status (status_of over) =
            ap status_of cut_off.0 ∙ unclosed_told over in
            let rose : HasRisen p.faults r.faults =
            subst (λ (n : ℕ). HasRisen n r.faults) h.opened.faults (added_later q.faults f' o' r.faults cut_off.1) in
            elim (by_break (status_of over) ending) [
              | inl stands ↦ ends_told (status_of over) (answer ∙ stands.0) inside other prefix printed calm (λ all
                  same.
                  unclosed work refl e ending stands.2 (sym (ap is_break e) ∙ stands.1)
                  (record { word = out.number; name = out.text; bytes = bytes }) refl (short prefix) all rose
                  (stops_stand other) same missed)
              | inr gives ↦
                  let fault : status_of closed ≡ DepotFault = answer ∙ gives.0 in
                  let only = untold_only line (status_of closed) b c status (ap is_outside fault) h.tells in
                  subst (λ (page : PageState). Comes page status) (sym only.1)
                  (failed (only.0 ∙ fault) (told_some prefix b (length first) (firsts printed)) rose
                  (λ breaks. let wrong : true ≡ false = sym breaks ∙ sym (ap is_break e) ∙ gives.1 in cc) calm missed)
            ]
      ]

  comes : Comes c status
  comes = by h.lived
    where
      by : Lived bytes pieces first ends held held' a b (status_of over) → Comes c status
      by (all_lived e ending wrote printed calm) = lived_all e ending wrote printed calm
      by (some_lived (inl out_of_memory) prefix count printed calm) =
          stopped (ap is_outside out_of_memory) (subst (λ (x : Status). Comes b x) (sym out_of_memory)
          (comes_exhausted b count (λ d. let wrong : NoMemory ≡ DepotFault = sym out_of_memory ∙ d in cc) prefix printed
          calm))
      by (some_lived (inr device) prefix count printed calm) =
          stopped (ap is_outside device)
          (failed device (told_some prefix b count printed) (faults_rose device) (λ breaks. stops_rose device) calm
          missed)
      by (unprinted is prefix printed rose) =
          stopped (ap is_outside is) (subst (λ (x : Status). Comes b x) (sym is) (comes_cut b prefix printed rose))

  -- a stream that was turned into OUT while pieces were printed is what is meant by its bytes
  pub lived_obeys : (number : ℕ) (stream : List ℕ) (work_of : List ℕ → Work) → work_of stream ≡ work →
      TakesSteps (Ok work) i j →
      OutcomeWithin (whole_file_bytes number (Some stream) >>= λ xs. value (work_of xs)) (io_state p a i)
      (io_state r c j) status
  lived_obeys number stream work_of is takes = record {
    comes = subst (λ (w : Work). Outcome (Ok w) (io_state p a i) (io_state r c j) status) (sym is) comes;
    ports = both_closed p.opened q.opened r.opened h.opened.within h.opened.ports h.closes.low h.closes.ports;
    calls = rw is (let x = h.opened.calls in let y = h.closes.calls in omega (arith, x, y));
    steps = rw is takes;
  }

-- where a port was not opened
pub not_lived : (work : List ℕ → Work) (bytes : List ℕ → List ℕ) (word out : FileArgument)
    (p q : DepotState) (page : PageState) (i : ℕ) (status : Status) →
    ((stream : List ℕ) → (work stream).out
    ≡ Some (record { word = out.number; name = out.text; bytes = bytes stream })) →
    ((stream : List ℕ) → (work stream).mark ≡ None) →
    NotOpened word out p q status →
    NotTurned p.files word.text (λ got. whole_file_bytes word.number got >>= λ stream. value (work stream))
    (io_state p page i) (io_state q page i) status
not_lived work bytes word out p q page i status made unmarked (no_input is none asked calm rose) = record {
  got = None;
  is_got = none_got p.files word.text none;
  obeys = first_obeys (whole_file_bytes word.number None) (λ stream. value (work stream)) p q page i status
      (inl (record {
        value = ap Err (sym is);
        refusal = subst IsRefusal (sym is) tt;
        asked = asked;
        calm = calm;
        miss = record { missing = λ w e. rose; there = λ other. absurd (other word.number is) };
      }));
}
not_lived work bytes word out p q page i status made unmarked (no_folder is none asked calm rose) = record {
  got = Some [];
  is_got = untold_got p.files word.text [] none;
  obeys = record {
    comes = nowhere (work []) refl (record { word = out.number; name = out.text; bytes = bytes [] }) (made [])
        is none
        (subst (λ (mark : Option Mark). IsNoOutMade (marked_by mark p) q) (sym (unmarked []))
        (unmade_files 3 p q asked))
        refl (record { depot = calm; print = refl }) rose;
    ports = asked.ports;
    calls = let c = asked.calls in rw (made []) (omega (arith, c));
    steps = takes_none (Ok (work [])) i;
  };
}
not_lived work bytes word out p q page i status made unmarked (stopped_first stopped) =
    let g = any_got p.files word.text in record {
      got = g.0;
      is_got = g.1;
      obeys = first_obeys (whole_file_bytes word.number g.0) (λ stream. value (work stream)) p q page i status
          (inr (record {
            cause = stopped.cause;
            asked = record {
              files = stopped.asked.files;
              made = stopped.asked.made;
              ports = stopped.asked.ports;
              calls = let one = stopped.asked.calls in omega (arith, one, opening_calls word.number g.0);
            };
            misses = stopped.misses;
          }));
    }
not_lived work bytes word out p q page i status made unmarked (stopped_then there stopped) =
    let g = there_got p.files word.text there in record {
      got = Some g.0;
      is_got = g.1;
      obeys = record {
        comes = stopped_comes (Ok (work g.0)) 3 p q page i i status stopped stopped.cause;
        ports = stopped.asked.ports;
        calls = let c = stopped.asked.calls in rw (made g.0) (omega (arith, c));
        steps = takes_none (Ok (work g.0)) i;
      };
    }
