-- What comes of a file that goes through a stage into OUT.
use Rattle.std.proofs.Common.{◌≡◌, ◌≢◌, ◌⊎◌, ℕ, ◌^◌, ◌<◌, true, false, List, [], Option, Some, None, Result, Ok, Err}
use Rattle.std.proofs.Common.{refl}
use Rattle.std.proofs.Common.{sym, ap, subst, ◌∙◌, inl, inr, arith, append-nil}
use Rattle.std.specs.Prelude.{IsSome}
use Rattle.std.specs.FinMap.{get}
use Rattle.std.specs.Io.KnownBytes.{Appends}
use Rattle.std.proofs.KnownBytes.{Appends-nil}
use Rattle.sd_base.specs.Count.{with_added, HasRisen}
use Rattle.sd_ports.specs.Bytes.{AppendsPrefix}
use Rattle.sd_ports.specs.Causes.{one_more}
use Rattle.sd_ports.specs.Files.{Files, IsThere, ClosesFile}
use Rattle.sd_ports.proofs.Outlets.{closed_whole, cut_short}
use Rattle.sd_command_base.specs.declared.status.Status.{Status}
use Rattle.sd_command_base.specs.declared.status.Status.TheVariants.{Done, Usage, Missing, Revoked, DepotFault}
use Rattle.sd_command_base.specs.declared.status.Status.TheVariants.{PrintFault}
use Rattle.sd_command_base.specs.declared.status.Status.TheVariants.{BadSite, BadBook, BadCard, BadClear, BadStream}
use Rattle.sd_command_base.specs.declared.status.Status.TheVariants.{Limit}
use Rattle.sd_command_base.specs.declared.status.Status.TheVariants.{NoMemory, Unheard, Unclosed, Gaps, NoCat}
use Rattle.sd_command_base.specs.declared.status.Status.TheVariants.{BadWord, Clash, BadOut, OtherBook, SiteUsed}
use Rattle.sd_command_base.specs.declared.status.Status.TheVariants.{SiteUsedUp}
use Rattle.sd_command_base.specs.Outside.{DepotState, PageState, IoState, io_state}
use Rattle.sd_command_base.specs.Spec.{Spec, FileArgument, IsReadingOfFile, whole_file_bytes, value, ◌>>=◌}
use Rattle.sd_command_base.specs.Work.{StepBound, Work, TakesSteps}
use Rattle.sd_command_base.specs.Outcome.{IsRefusal, IsEnding, IsOutMadeShort, writing, Outcome, ended}
use Rattle.sd_command_base.specs.Outcome.{unclosed}
use Rattle.sd_command_base.specs.Outcome.{StopsFirst, exhausted, failed, nowhere, OutcomeWithin, status_of}
use Rattle.sd_command_base.proofs.Firsts.{takes_none, stopped_comes, first_obeys, unmade}
use Rattle.sd_command_base.proofs.Givens.{some_got as any_got}
use Rattle.sd_command_base.proofs.Streams.{is_other}
use Rattle.sd_command_base.specs.Turned.{ArePortsOpened, NotOpened, no_input, no_folder, stopped_first, stopped_then}
use Rattle.sd_command_base.specs.Turned.{unclosed_status, unclosed_by, ArePortsClosed, is_break, turning, StreamWritten}
use Rattle.sd_command_base.specs.Turned.{all_written}
use Rattle.sd_command_base.specs.Turned.{some_written, HasPortCause}
use Rattle.sd_command_base.proofs.Looked.{none_got, all_calls as opening_calls}

-- the counts of faults of a depot that took over those of two ports
pub added_none : (f i o : ℕ) → f < 2 ^ 64 → i ≡ 0 → o ≡ 0 → with_added (with_added f i) o ≡ f
added_none f i o within none nothing = omega (arith, within, none, nothing)

pub added_some : (f i o : ℕ) → HasRisen 0 i ⊎ HasRisen 0 o → HasRisen f (with_added (with_added f i) o)
added_some f i o (inl rose) = omega (arith, rose)
added_some f i o (inr rose) = omega (arith, rose)

pub added_later : (f i o g : ℕ) → HasRisen (with_added (with_added f i) o) g → HasRisen f g
added_later f i o g rose = omega (arith, rose)

-- two ports that were opened are closed
pub both_closed : (p q r : ℕ) → p < 2 ^ 64 → q ≡ one_more (one_more p) → r < 2 ^ 64 → one_more (one_more r) ≡ q → r ≡ p
both_closed p q r low opened small closed = omega (arith, low, opened, small, closed)

-- all is a prefix, too
pub all_prefix : (before now : Option (List ℕ)) (bytes : List ℕ) → Appends before now bytes →
    AppendsPrefix before now bytes
all_prefix before now bytes h = (bytes, ([], append-nil bytes), h)

-- the prefix of what was written
wrote_prefix : (bytes : List ℕ) (ends : Status) (before now : Option (List ℕ)) (status : Status) →
    StreamWritten bytes ends before now status →
    AppendsPrefix before now bytes
wrote_prefix bytes ends before now status (all_written e i h) = all_prefix before now bytes h
wrote_prefix bytes ends before now status (some_written c h) = h

-- what is known of a stream whose ports were opened and closed
record IsThrough (out : FileArgument) (bytes : List ℕ) (ends : Status) (p q r : DepotState)
    (left held held' : Option (List ℕ)) (from : List ℕ)
    (f f' o o' : ℕ) (over result : Result (Unit {0}) Status) : Type 0 where
  opened : ArePortsOpened p q from out.text left held f o
  cause : HasPortCause f f' o o' (status_of over)
  wrote : StreamWritten bytes ends held held' (status_of over)
  closed : ArePortsClosed q r out.text held' f' o' over result

-- OUT has a prefix of its bytes
made_short : (out : FileArgument) (bytes : List ℕ) (ends : Status) (p q r : DepotState)
    (left held held' : Option (List ℕ)) (from : List ℕ)
    (f f' o o' : ℕ) (over result : Result (Unit {0}) Status) →
    IsThrough out bytes ends p q r left held held' from f f' o o' over result →
    IsOutMadeShort (record { word = out.number; name = out.text; bytes = bytes }) p r
made_short out bytes ends p q r left held held' from f f' o o' over result h =
    let cut = cut_short p.files q.files r.files out.text bytes held held' h.opened.files h.opened.empty
    (wrote_prefix bytes ends held held' (status_of over) h.wrote) h.closed.prefix in
    record { prefix = cut.0; short = cut.1; files = cut.2; made = h.closed.made ∙ h.opened.made }

missed : (out : FileArgument) (bytes : List ℕ) (ends : Status) (p q r : DepotState) (left held held' : Option (List ℕ))
    (from : List ℕ)
    (f f' o o' : ℕ) (over result : Result (Unit {0}) Status) →
    IsThrough out bytes ends p q r left held held' from f f' o o' over result → r.misses ≡ p.misses
missed out bytes ends p q r left held held' from f f' o o' over result h = h.closed.misses ∙ h.opened.misses

-- a count stands where the status doesn't say that a device failed, and nothing but the ports' counts was added to it
pub still : (a b c f f' o o' : ℕ) (status : Status) → b ≡ a → b < 2 ^ 64 → f ≡ 0 → o ≡ 0 →
    HasPortCause f f' o o' status → status ≢ DepotFault → c ≡ with_added (with_added b f') o' → c ≡ a
still a b c f f' o o' status same within fresh empty cause other added =
    let calm = cause.calm other in added ∙ added_none b f' o' within (calm.0 ∙ fresh) (calm.1 ∙ empty) ∙ same

-- and it rises where the status does
pub rises : (a b c f f' o o' : ℕ) (status : Status) → b ≡ a → f ≡ 0 → o ≡ 0 → HasPortCause f f' o o' status →
    status ≡ DepotFault → c ≡ with_added (with_added b f') o' → HasRisen a c
rises a b c f f' o o' status same fresh empty cause is added =
    subst (λ (n : ℕ). HasRisen n c) same
    (subst (λ (n : ℕ). HasRisen b n) (sym added) (added_some b f' o' (from_none (cause.failed is))))
  where
    from_none : HasRisen f f' ⊎ HasRisen o o' → HasRisen 0 f' ⊎ HasRisen 0 o'
    from_none (inl rose) = inl (subst (λ (n : ℕ). HasRisen n f') fresh rose)
    from_none (inr rose) = inr (subst (λ (n : ℕ). HasRisen n o') empty rose)

-- no device failed but at closing OUT
stops_stand : (out : FileArgument) (bytes : List ℕ) (ends : Status) (p q r : DepotState)
    (left held held' : Option (List ℕ)) (from : List ℕ) (f f' o o' : ℕ) (over result : Result (Unit {0}) Status) →
    IsThrough out bytes ends p q r left held held' from f f' o o' over result → status_of over ≢ DepotFault →
    r.stops ≡ p.stops
stops_stand out bytes ends p q r left held held' from f f' o o' over result h other =
    still p.stops q.stops r.stops f f' o o' (status_of over) h.opened.stops h.closed.below h.opened.from_fresh
    h.opened.out_fresh h.cause other h.closed.stops

-- a device failed before OUT was to be closed
stops_rose : (out : FileArgument) (bytes : List ℕ) (ends : Status) (p q r : DepotState)
    (left held held' : Option (List ℕ)) (from : List ℕ) (f f' o o' : ℕ) (over result : Result (Unit {0}) Status) →
    IsThrough out bytes ends p q r left held held' from f f' o o' over result → status_of over ≡ DepotFault →
    HasRisen p.stops r.stops
stops_rose out bytes ends p q r left held held' from f f' o o' over result h is =
    rises p.stops q.stops r.stops f f' o o' (status_of over) h.opened.stops h.opened.from_fresh h.opened.out_fresh
    h.cause is h.closed.stops

-- a refusal of a stream stands where OUT wasn't closed, and running out of memory, and that printing failed, and every
-- other status gives way
by_break : (s : Status) → ((unclosed_status s ≡ s) × (is_break s ≡ true) × IsRefusal s)
    ⊎ ((s ≡ NoMemory) ⊎ ((s ≡ PrintFault)
    ⊎ ((unclosed_status s ≡ DepotFault) × (is_break s ≡ false) × (s ≢ NoMemory))))
by_break Done = inr (inr (inr (refl, refl, λ e. cc)))
by_break Usage = inr (inr (inr (refl, refl, λ e. cc)))
by_break (Missing word) = inr (inr (inr (refl, refl, λ e. cc)))
by_break (Revoked leaf period) = inr (inr (inr (refl, refl, λ e. cc)))
by_break DepotFault = inr (inr (inr (refl, refl, λ e. cc)))
by_break PrintFault = inr (inr (inl refl))
by_break (BadSite word fault text) = inr (inr (inr (refl, refl, λ e. cc)))
by_break (BadBook word line) = inr (inr (inr (refl, refl, λ e. cc)))
by_break (BadCard word fault) = inr (inr (inr (refl, refl, λ e. cc)))
by_break (BadClear refusal) = inl (refl, refl, tt)
by_break (BadStream refusal) = inl (refl, refl, tt)
by_break (Limit kind) = inr (inr (inr (refl, refl, λ e. cc)))
by_break NoMemory = inr (inl refl)
by_break (Unheard leaf period) = inr (inr (inr (refl, refl, λ e. cc)))
by_break (Unclosed number) = inr (inr (inr (refl, refl, λ e. cc)))
by_break (Gaps packets) = inr (inr (inr (refl, refl, λ e. cc)))
by_break NoCat = inr (inr (inr (refl, refl, λ e. cc)))
by_break (BadWord word) = inr (inr (inr (refl, refl, λ e. cc)))
by_break (Clash clash) = inr (inr (inr (refl, refl, λ e. cc)))
by_break (BadOut word cause) = inr (inr (inr (refl, refl, λ e. cc)))
by_break SiteUsed = inr (inr (inr (refl, refl, λ e. cc)))
by_break OtherBook = inr (inr (inr (refl, refl, λ e. cc)))
by_break (SiteUsedUp packet) = inr (inr (inr (refl, refl, λ e. cc)))

no_break : (s : Status) → (s ≡ NoMemory) ⊎ (s ≡ DepotFault) → is_break s ≡ true → ⊥
no_break s (inl is) breaks = let same : is_break NoMemory ≡ true = ap is_break (sym is) ∙ breaks in absurd (cc)
no_break s (inr is) breaks = let same : is_break DepotFault ≡ true = ap is_break (sym is) ∙ breaks in absurd (cc)

-- a stream that goes through a stage prints nothing, so that no printing fails
no_print : (bytes : List ℕ) (ends : Status) (before now : Option (List ℕ)) (status : Status) →
    StreamWritten bytes ends before now status → status ≡ PrintFault → ⊥
no_print bytes ends before now status (all_written e ending w) is = absurd (subst IsEnding is ending)
no_print bytes ends before now status (some_written (inl e) w) is = absurd (let same = sym e ∙ is in cc)
no_print bytes ends before now status (some_written (inr e) w) is = absurd (let same = sym e ∙ is in cc)

pub unclosed_told : (over : Result (Unit {0}) Status) → status_of (unclosed_by over) ≡ unclosed_status (status_of over)
unclosed_told (Ok done) = refl
unclosed_told (Err status) = refl

-- what was written, and OUT closed with it
closed_comes : (steps : StepBound) (out : FileArgument) (bytes : List ℕ) (ends : Status) (p q r : DepotState)
    (page : PageState) (i j : ℕ)
    (left held held' : Option (List ℕ)) (from : List ℕ) (f f' o o' : ℕ) (over result : Result (Unit {0}) Status)
    (status : Status) →
    (h : IsThrough out bytes ends p q r left held held' from f f' o o' over result) → status ≡ status_of over →
    StreamWritten bytes ends held held' status → ClosesFile q.files r.files out.text held' →
    r.faults ≡ with_added (with_added q.faults f') o' →
    Outcome (Ok (turning steps out bytes ends)) (io_state p page i) (io_state r page j) status
closed_comes steps out bytes ends p q r page i j left held held' from f f' o o' over result status h is
    (all_written e ending w) closes added =
    ended (turning steps out bytes ends) refl e ending
    (record {
      files = closed_whole p.files q.files r.files out.text bytes held held' h.opened.files h.opened.empty w closes;
      made = h.closed.made ∙ h.opened.made;
    })
    (Appends-nil page.printed)
    (record {
      depot = still p.faults q.faults r.faults f f' o o' (status_of over) h.opened.faults h.closed.within
          h.opened.from_fresh h.opened.out_fresh h.cause (λ e. is_other status ending (is ∙ e)) added;
      print = refl;
    })
    (missed out bytes ends p q r left held held' from f f' o o' over result h)
closed_comes steps out bytes ends p q r page i j left held held' from f f' o o' over result status h is
    (some_written (inl e) w) closes added =
    exhausted e
    (writing (turning steps out bytes ends) refl (record { word = out.number; name = out.text; bytes = bytes }) refl
    (made_short out bytes ends p q r left held held' from f f' o o' over result h) refl)
    (stops_stand out bytes ends p q r left held held' from f f' o o' over result h
    (λ d. let same = sym e ∙ is ∙ d in cc)) refl
    (missed out bytes ends p q r left held held' from f f' o o' over result h)
closed_comes steps out bytes ends p q r page i j left held held' from f f' o o' over result status h is
    (some_written (inr e) w) closes added =
    failed e
    (writing (turning steps out bytes ends) refl (record { word = out.number; name = out.text; bytes = bytes }) refl
    (made_short out bytes ends p q r left held held' from f f' o o' over result h) refl)
    (rises p.faults q.faults r.faults f f' o o' (status_of over) h.opened.faults h.opened.from_fresh h.opened.out_fresh
    h.cause (sym is ∙ e) added)
    (λ breaks. stops_rose out bytes ends p q r left held held' from f f' o o' over result h (sym is ∙ e)) refl
    (missed out bytes ends p q r left held held' from f f' o o' over result h)

-- and where OUT was not closed a refusal stands
break_comes : (steps : StepBound) (out : FileArgument) (bytes : List ℕ) (ends : Status) (p q r : DepotState)
    (page : PageState) (i j : ℕ)
    (left held held' : Option (List ℕ)) (from : List ℕ) (f f' o o' : ℕ) (over result : Result (Unit {0}) Status)
    (status : Status) →
    (h : IsThrough out bytes ends p q r left held held' from f f' o o' over result) →
    StreamWritten bytes ends held held' status →
    is_break status ≡ true → IsRefusal status → HasRisen p.faults r.faults → r.stops ≡ p.stops →
    Outcome (Ok (turning steps out bytes ends)) (io_state p page i) (io_state r page j) status
break_comes steps out bytes ends p q r page i j left held held' from f f' o o' over result status h
    (all_written e ending w) breaks refuses rose calm =
    unclosed (turning steps out bytes ends) refl e ending refuses (ap is_break (sym e) ∙ breaks)
    (record { word = out.number; name = out.text; bytes = bytes }) refl
    (made_short out bytes ends p q r left held held' from f f' o o' over result h) (Appends-nil page.printed) rose calm
    refl
    (missed out bytes ends p q r left held held' from f f' o o' over result h)
break_comes steps out bytes ends p q r page i j left held held' from f f' o o' over result status h (some_written c w)
    breaks refuses rose calm =
    absurd (no_break status c breaks)

-- work that is a stream that is refused, and whose refusal wasn't known, was stopped before OUT was to be closed
first_stopped : (steps : StepBound) (out : FileArgument) (bytes : List ℕ) (ends : Status) (p q r : DepotState)
    (left held held' : Option (List ℕ)) (from : List ℕ) (f f' o o' : ℕ) (over result : Result (Unit {0}) Status)
    (status : Status) →
    IsThrough out bytes ends p q r left held held' from f f' o o' over result → status ≡ status_of over →
    StreamWritten bytes ends held held' status → is_break status ≡ false → status ≢ NoMemory →
    StopsFirst (Ok (turning steps out bytes ends)) p r
first_stopped steps out bytes ends p q r left held held' from f f' o o' over result status h is
    (all_written e ending w) calm other =
    λ breaks. absurd (let same : true ≡ false = sym breaks ∙ ap is_break (sym e) ∙ calm in cc)
first_stopped steps out bytes ends p q r left held held' from f f' o o' over result status h is
    (some_written (inl e) w) calm other =
    absurd (other e)
first_stopped steps out bytes ends p q r left held held' from f f' o o' over result status h is
    (some_written (inr e) w) calm other =
    λ breaks. stops_rose out bytes ends p q r left held held' from f f' o o' over result h (sym is ∙ e)

unclosed_comes : (steps : StepBound) (out : FileArgument) (bytes : List ℕ) (ends : Status) (p q r : DepotState)
    (page : PageState) (i j : ℕ)
    (left held held' : Option (List ℕ)) (from : List ℕ) (f f' o o' : ℕ) (over result : Result (Unit {0}) Status) →
    (h : IsThrough out bytes ends p q r left held held' from f f' o o' over result) → HasRisen p.faults r.faults →
    Outcome (Ok (turning steps out bytes ends)) (io_state p page i) (io_state r page j)
    (unclosed_status (status_of over))
unclosed_comes steps out bytes ends p q r page i j left held held' from f f' o o' over result h rose =
    elim (by_break (status_of over)) [
      | inl stands ↦
          subst (λ (s : Status). Outcome (Ok (turning steps out bytes ends)) (io_state p page i) (io_state r page j) s)
          (sym stands.0)
          (break_comes steps out bytes ends p q r page i j left held held' from f f' o o' over result (status_of over) h
          h.wrote stands.1 stands.2 rose
          (stops_stand out bytes ends p q r left held held' from f f' o o' over result h
          (λ is. absurd (subst IsRefusal is stands.2))))
      | inr (inl out_of_memory) ↦
          exhausted (ap unclosed_status out_of_memory)
          (writing (turning steps out bytes ends) refl (record { word = out.number; name = out.text; bytes = bytes })
          refl
          (made_short out bytes ends p q r left held held' from f f' o o' over result h) refl)
          (stops_stand out bytes ends p q r left held held' from f f' o o' over result h
          (λ is. let same = sym out_of_memory ∙ is in cc))
          refl (missed out bytes ends p q r left held held' from f f' o o' over result h)
      | inr (inr (inl print)) ↦ absurd (no_print bytes ends held held' (status_of over) h.wrote print)
      | inr (inr (inr gives)) ↦
          failed gives.0
          (writing (turning steps out bytes ends) refl (record { word = out.number; name = out.text; bytes = bytes })
          refl
          (made_short out bytes ends p q r left held held' from f f' o o' over result h) refl)
          rose
          (first_stopped steps out bytes ends p q r left held held' from f f' o o' over result (status_of over) h
          refl h.wrote gives.1 gives.2)
          refl (missed out bytes ends p q r left held held' from f f' o o' over result h)
    ]

through_comes : (steps : StepBound) (out : FileArgument) (bytes : List ℕ) (ends : Status) (p q r : DepotState)
    (page : PageState) (i j : ℕ)
    (left held held' : Option (List ℕ)) (from : List ℕ) (f f' o o' : ℕ) (over result : Result (Unit {0}) Status) →
    IsThrough out bytes ends p q r left held held' from f f' o o' over result →
    Outcome (Ok (turning steps out bytes ends)) (io_state p page i) (io_state r page j) (status_of result)
through_comes steps out bytes ends p q r page i j left held held' from f f' o o' over result h =
    elim h.closed.ends [
      | inl whole ↦
          subst (λ (e : Result (Unit {0}) Status). Outcome (Ok (turning steps out bytes ends)) (io_state p page i)
          (io_state r page j) (status_of e))
          (sym whole.0)
          (closed_comes steps out bytes ends p q r page i j left held held' from f f' o o' over result (status_of over)
          h refl h.wrote
          whole.1 whole.2)
      | inr cut ↦
          subst (λ (s : Status). Outcome (Ok (turning steps out bytes ends)) (io_state p page i) (io_state r page j) s)
          (sym (ap status_of cut.0 ∙ unclosed_told over))
          (unclosed_comes steps out bytes ends p q r page i j left held held' from f f' o o' over result h
          (subst (λ (n : ℕ). HasRisen n r.faults) h.opened.faults (added_later q.faults f' o' r.faults cut.1)))
    ]

-- a stream that went through a stage into OUT is what is meant by its bytes
pub turned_obeys : (steps : List ℕ → StepBound) (written : List ℕ → List ℕ) (ends : List ℕ →
    Status) (word out : FileArgument) (bytes : List ℕ)
    (p q r : DepotState) (page : PageState) (i j : ℕ) (left held held' : Option (List ℕ)) (f f' o o' : ℕ)
    (over result : Result (Unit {0}) Status) →
    ArePortsOpened p q word.text out.text left held f o → HasPortCause f f' o o' (status_of over) →
    StreamWritten (written bytes) (ends bytes) held held' (status_of over) →
    ArePortsClosed q r out.text held' f' o' over result →
    TakesSteps (Ok (turning (steps bytes) out (written bytes) (ends bytes))) i j →
    OutcomeWithin (whole_file_bytes word.number (Some bytes) >>= λ bytes.
    value (turning (steps bytes) out (written bytes) (ends bytes)))
    (io_state p page i) (io_state r page j) (status_of result)
turned_obeys steps written ends word out bytes p q r page i j left held held' f f' o o' over result opened cause wrote
    closed takes = record {
      comes = through_comes (steps bytes) out (written bytes) (ends bytes) p q r page i j left held held' word.text
          f f' o o' over result
          (record { opened = opened; cause = cause; wrote = wrote; closed = closed });
      ports = both_closed p.opened q.opened r.opened opened.within opened.ports closed.low closed.ports;
      calls = let a = opened.calls in let b = closed.calls in omega (arith, a, b);
      steps = takes;
    }

-- what the file gave where a port was not opened, and what is obeyed by it
pub record NotTurned (files : Option Files) (name : List ℕ) (meant : Option (List ℕ) → Spec Work) (a b : IoState)
    (status : Status) :
    Type 0 where
  pub got : Option (List ℕ)
  pub is_got : IsReadingOfFile files name got
  pub obeys : OutcomeWithin (meant got) a b status

pub there_got : (files : Option Files) (name : List ℕ) → IsThere files name →
    (bytes : List ℕ) × IsReadingOfFile files name
    (Some bytes)
there_got None name there = ([], tt)
there_got (Some m) name there = some_of (get m name) there
  where
    some_of : (o : Option (List ℕ)) → IsSome o → (bytes : List ℕ) × (Some bytes ≡ o)
    some_of None is = absurd (let h = is in cc)
    some_of (Some bytes) is = (bytes, refl)

pub untold_got : (files : Option Files) (name bytes : List ℕ) → files ≡ None → IsReadingOfFile files name (Some bytes)
untold_got files name bytes none = subst (λ (o : Option Files). IsReadingOfFile o name (Some bytes)) (sym none) tt

pub not_turned : (steps : List ℕ → StepBound) (written : List ℕ → List ℕ) (ends : List ℕ →
    Status) (word out : FileArgument)
    (p q : DepotState) (page : PageState) (i : ℕ) (status : Status) → NotOpened word out p q status →
    NotTurned p.files word.text (λ got. whole_file_bytes word.number got >>= λ bytes. value
    (turning (steps bytes) out (written bytes) (ends bytes)))
    (io_state p page i) (io_state q page i) status
not_turned steps written ends word out p q page i status (no_input is none asked calm rose) = record {
  got = None;
  is_got = none_got p.files word.text none;
  obeys = first_obeys (whole_file_bytes word.number None)
      (λ bytes. value (turning (steps bytes) out (written bytes) (ends bytes))) p q page i status
      (inl (record {
        value = ap Err (sym is);
        refusal = subst IsRefusal (sym is) tt;
        asked = asked;
        calm = calm;
        miss = record { missing = λ w e. rose; there = λ other. absurd (other word.number is) };
      }));
}
not_turned steps written ends word out p q page i status (no_folder is none asked calm rose) = record {
  got = Some [];
  is_got = untold_got p.files word.text [] none;
  obeys = record {
    comes = nowhere (turning (steps []) out (written []) (ends [])) refl
        (record { word = out.number; name = out.text; bytes = written [] }) refl
        is none (unmade 3 p q asked) refl (record { depot = calm; print = refl }) rose;
    ports = asked.ports;
    calls = let c = asked.calls in omega (arith, c);
    steps = takes_none (Ok (turning (steps []) out (written []) (ends []))) i;
  };
}
not_turned steps written ends word out p q page i status (stopped_first stopped) =
    let g = any_got p.files word.text in record {
      got = g.0;
      is_got = g.1;
      obeys = first_obeys (whole_file_bytes word.number g.0)
          (λ bytes. value (turning (steps bytes) out (written bytes) (ends bytes))) p q page i status
          (inr (record {
            cause = stopped.cause;
            asked = record {
              files = stopped.asked.files;
              made = stopped.asked.made;
              ports = stopped.asked.ports;
              calls = let one = stopped.asked.calls in omega (arith, one, opening_calls word.number g.0);
            };
            misses = stopped.misses;
          }));
    }
not_turned steps written ends word out p q page i status (stopped_then there stopped) =
    let g = there_got p.files word.text there in
    let work = turning (steps g.0) out (written g.0) (ends g.0) in record {
      got = Some g.0;
      is_got = g.1;
      obeys = record {
        comes = stopped_comes (Ok work) 3 p q page i i status stopped stopped.cause;
        ports = stopped.asked.ports;
        calls = let c = stopped.asked.calls in omega (arith, c);
        steps = takes_none (Ok work) i;
      };
    }
