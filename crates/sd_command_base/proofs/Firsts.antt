-- What becomes of a command whose first step was refused or stopped.
use Rattle.std.proofs.Common.{◌≡◌, ◌⊎◌, ℕ, ◌+◌, ◌≤◌, Result, Ok, Err, refl, sym, ap, subst, ◌∙◌, inl, inr, arith}
use Rattle.sd_base.specs.Count.{with_added, HasRisen}
use Rattle.sd_command_base.specs.declared.status.Status.{Status}
use Rattle.sd_command_base.specs.Outside.{DepotState, PageState, io_state, depot_after_calls}
use Rattle.sd_command_base.specs.Spec.{Spec, and_then, ◌>>=◌}
use Rattle.sd_command_base.specs.Work.{StepBound, Uncounted, NoSteps, UpTo, Work, IsWithinSteps, TakesSteps}
use Rattle.sd_command_base.specs.Work.{all_calls}
use Rattle.sd_command_base.specs.Outcome.{IsNoOutMade, untouched, StopsFirst, Outcome, refused, exhausted, failed}
use Rattle.sd_command_base.specs.Outcome.{OutcomeWithin}
use Rattle.sd_command_base.specs.Reads.{IsAsked, IsRefused, StopCause, IsStopped, StepOutcome}

no_more_steps : (most : StepBound) (steps : ℕ) → IsWithinSteps most steps steps
no_more_steps Uncounted steps = tt
no_more_steps NoSteps steps = refl
no_more_steps (UpTo most) steps = omega arith

pub takes_none : (meant : Result Work Status) (steps : ℕ) → TakesSteps meant steps steps
takes_none (Ok work) steps = no_more_steps work.steps steps
takes_none (Err refusal) steps = refl

-- calls of the first step are calls of all
at_least : {A : Type 0} (n x now : ℕ) (r : Result A Status) (next : A → Spec Work) → now ≤ x + n →
    now ≤ x + all_calls (and_then n r next)
at_least n x now (Ok y) next h = omega arith
at_least n x now (Err status) next h = omega arith

pub unmade : (most : ℕ) (p q : DepotState) → IsAsked most p q → IsNoOutMade p q
unmade most p q h = record { files = h.files; made = h.made }

-- a device that failed but at closing a file stops a stream first
pub stops_first : (meant : Result Work Status) (p q : DepotState) → HasRisen p.stops q.stops → StopsFirst meant p q
stops_first (Ok work) p q rose = λ breaks. rose
stops_first (Err status) p q rose = tt

pub stopped_comes : (meant : Result Work Status) (most : ℕ) (p q : DepotState) (page : PageState) (steps now : ℕ)
    (status : Status) →
    IsStopped most p q status → StopCause p q status →
    Outcome meant (io_state p page steps) (io_state q page now) status
stopped_comes meant most p q page steps now status h (inl c) =
    exhausted c.0 (untouched (unmade most p q h.asked) refl) c.2 refl h.misses
stopped_comes meant most p q page steps now status h (inr c) =
    failed c.0 (untouched (unmade most p q h.asked) refl) c.1 (stops_first meant p q c.2) refl h.misses

refused_obeys : {A : Type 0} (first : Spec A) (next : A → Spec Work) (p q : DepotState) (page : PageState) (steps : ℕ)
    (status : Status) →
    IsRefused first p q status → OutcomeWithin (first >>= next) (io_state p page steps) (io_state q page steps) status
refused_obeys {A} first next p q page steps status h =
    subst (λ (r : Result A Status). OutcomeWithin
    (and_then first.calls r next) (io_state p page steps) (io_state q page steps) status) (sym h.value)
    (record {
      comes = refused refl h.refusal (unmade first.calls p q h.asked) refl (record { depot = h.calm; print = refl })
          h.miss;
      ports = h.asked.ports;
      calls = let c = h.asked.calls in omega arith;
      steps = refl;
    })

-- a command whose first step was refused or stopped is so
pub first_obeys : {A : Type 0} (first : Spec A) (next : A → Spec Work) (p q : DepotState) (page : PageState) (steps : ℕ)
    (status : Status) →
    IsRefused first p q status ⊎ IsStopped first.calls p q status →
    OutcomeWithin (first >>= next) (io_state p page steps) (io_state q page steps) status
first_obeys first next p q page steps status (inl h) = refused_obeys first next p q page steps status h
first_obeys first next p q page steps status (inr h) = record {
  comes = stopped_comes (first >>= next).result first.calls p q page steps steps status h h.cause;
  ports = h.asked.ports;
  calls = at_least first.calls p.calls q.calls first.result next h.asked.calls;
  steps = takes_none (first >>= next).result steps;
}

-- a step that goes on where a first step ended
asked_more : (n k : ℕ) (p q : DepotState) → IsAsked k (depot_after_calls n p) q → IsAsked (n + k) p q
asked_more n k p q h = record {
  files = h.files;
  made = h.made;
  ports = h.ports;
  calls = let c = h.calls in omega arith;
}

called_more : (n k : ℕ) (p : DepotState) → depot_after_calls k (depot_after_calls n p) ≡ depot_after_calls (n + k) p
called_more n k p =
    let twice : with_added (with_added p.calls n) k ≡ with_added p.calls (n + k) = omega arith in
    ap (λ (c : ℕ). record {
      files = p.files;
      faults = p.faults;
      stops = p.stops;
      misses = p.misses;
      made = p.made;
      opened = p.opened;
      calls = c;
    }) twice

gives_moved : {X Y : Type 0} (view : X → Y) (n : ℕ) (meant : Spec Y) (p q : DepotState) (result : Result X Status) →
    StepOutcome view meant (depot_after_calls n p) q result →
    StepOutcome view (record { calls = n + meant.calls; result = meant.result }) p q result
gives_moved view n meant p q (Ok x) h = (h.0, h.1 ∙ called_more n meant.calls p)
gives_moved view n meant p q (Err status) (inl h) = inl (record {
  value = h.value;
  refusal = h.refusal;
  asked = asked_more n meant.calls p q h.asked;
  calm = h.calm;
  miss = h.miss;
})
gives_moved view n meant p q (Err status) (inr h) = inr (record {
  cause = h.cause;
  asked = asked_more n meant.calls p q h.asked;
  misses = h.misses;
})

-- a step whose first part gave a value gives what is meant by the value
pub then_gives : {X Y A : Type 0} (view : X → Y) (first : Spec A) (x : A) (next : A → Spec Y) (p q r : DepotState)
    (result : Result X Status) →
    first.result ≡ Ok x → q ≡ depot_after_calls first.calls p → StepOutcome view (next x) q r result →
    StepOutcome view (first >>= next) p r result
then_gives {A = A} view first x next p q r result e same h =
    subst (λ (s : Result A Status). StepOutcome view (and_then first.calls s next) p r result) (sym e)
    (gives_moved view first.calls (next x) p r result
    (subst (λ (z : DepotState). StepOutcome view (next x) z r result) same h))

asked_all : (n k : ℕ) (p q : DepotState) → IsAsked n p q → IsAsked (n + k) p q
asked_all n k p q h = record { files = h.files; made = h.made; ports = h.ports; calls = let c = h.calls in omega arith }

refused_after : {A Y : Type 0} (n : ℕ) (r : Result A Status) (next : A → Spec Y) (p q : DepotState) (status : Status) →
    r ≡ Err status →
    IsRefused (record { calls = n; result = r }) p q status → IsRefused (and_then n r next) p q status
refused_after {A} n r next p q status e h =
    subst (λ (s : Result A Status). IsRefused (and_then n s next) p q status) (sym e)
    (record { value = refl; refusal = h.refusal; asked = h.asked; calm = h.calm; miss = h.miss })

stopped_after : {A Y : Type 0} (n : ℕ) (r : Result A Status) (next : A → Spec Y) (p q : DepotState) (status : Status) →
    IsStopped n p q status → IsStopped (and_then n r next).calls p q status
stopped_after n (Ok x) next p q status h =
    record { cause = h.cause; asked = asked_all n (next x).calls p q h.asked; misses = h.misses }
stopped_after n (Err s) next p q status h = h

-- a step whose first part was refused or stopped is so
pub first_gives : {X Y A : Type 0} (view : X → Y) (first : Spec A) (next : A → Spec Y) (p q : DepotState)
    (status : Status) →
    IsRefused first p q status ⊎ IsStopped first.calls p q status → StepOutcome view (first >>= next) p q (Err status)
first_gives view first next p q status (inl h) = inl (refused_after first.calls first.result next p q status h.value h)
first_gives view first next p q status (inr h) = inr (stopped_after first.calls first.result next p q status h)
