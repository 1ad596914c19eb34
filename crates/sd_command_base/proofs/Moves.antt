-- What a command does after calls that only asked.
use Rattle.std.proofs.Common.{◌≡◌, ℕ, ◌+◌, ◌≤◌, Option, Result, Ok, Err, sym, subst, arith}
use Rattle.sd_base.specs.Count.{with_added}
use Rattle.sd_command_base.specs.declared.status.Status.{Status}
use Rattle.sd_command_base.specs.Outside.{DepotState, PageState, IoState, io_state, recalled, depot_after_calls}
use Rattle.sd_command_base.specs.Spec.{Spec, and_then, ◌>>=◌}
use Rattle.sd_command_base.specs.Work.{Out, Mark, Work, work_calls}
use Rattle.sd_command_base.specs.Outcome.{IsFaultless, IsNoOutMade, marked_by, IsOutMade, IsOutMadeShort, Progress}
use Rattle.sd_command_base.specs.Outcome.{untouched}
use Rattle.sd_command_base.specs.Outcome.{marking, writing, telling, printing}
use Rattle.sd_command_base.specs.Outcome.{Outcome}
use Rattle.sd_command_base.specs.Outcome.{StopsFirst, refused, ended, unclosed, exhausted, failed, unmarked, nowhere}
use Rattle.sd_command_base.specs.Outcome.{cut_off, cut_short}
use Rattle.sd_command_base.specs.Outcome.{OutcomeWithin}

unmade_moved : (calls : ℕ) (p q : DepotState) → IsNoOutMade (recalled calls p) q → IsNoOutMade p q
unmade_moved calls p q h = record { files = h.files; made = h.made }

mark_moved : (mark : Option Mark) (calls : ℕ) (p q : DepotState) → IsNoOutMade (marked_by mark (recalled calls p)) q →
    IsNoOutMade (marked_by mark p) q
mark_moved mark calls p q h = record { files = h.files; made = h.made }

made_moved : (work : Work) (calls : ℕ) (p q : DepotState) → IsOutMade work.out (marked_by work.mark (recalled calls p))
    q →
    IsOutMade work.out (marked_by work.mark p) q
made_moved work calls p q h = record { files = h.files; made = h.made }

short_moved : (mark : Option Mark) (out : Out) (calls : ℕ) (p q : DepotState) →
    IsOutMadeShort out (marked_by mark (recalled calls p)) q → IsOutMadeShort out (marked_by mark p) q
short_moved mark out calls p q h = record { prefix = h.prefix; short = h.short; files = h.files; made = h.made }

calm_moved : (p : DepotState) (page : PageState) (calls steps other : ℕ) (b : IoState) →
    IsFaultless (io_state (recalled calls p) page steps) b → IsFaultless (io_state p page other) b
calm_moved p page calls steps other b h = record { depot = h.depot; print = h.print }

stands_moved : (meant : Result Work Status) (p : DepotState) (page : PageState) (calls steps other : ℕ) (b : IoState) →
    Progress meant (io_state (recalled calls p) page steps) b → Progress meant (io_state p page other) b
stands_moved meant p page calls steps other b (untouched h k) = untouched (unmade_moved calls p b.place h) k
stands_moved meant p page calls steps other b (marking work e h k) = marking work e
    (mark_moved work.mark calls p b.place h) k
stands_moved meant p page calls steps other b (writing work e out f h k) = writing work e out f
    (short_moved work.mark out calls p b.place h) k
stands_moved meant p page calls steps other b (telling work e l out f h k) = telling work e l out f
    (short_moved work.mark out calls p b.place h) k
stands_moved meant p page calls steps other b (printing work e h k) = printing work e
    (made_moved work calls p b.place h) k

first_moved : (meant : Result Work Status) (p : DepotState) (calls : ℕ) (q : DepotState) →
    StopsFirst meant (recalled calls p) q → StopsFirst meant p q
first_moved (Ok work) p calls q h = h
first_moved (Err status) p calls q h = h

-- how a command comes to its status doesn't hang on the counts of calls and of steps where it begins
pub comes_moved : (meant : Result Work Status) (p : DepotState) (page : PageState) (calls steps other : ℕ) (b : IoState)
    (status : Status) →
    Outcome meant (io_state (recalled calls p) page steps) b status → Outcome meant (io_state p page other) b status
comes_moved meant p page calls steps other b status (refused e r h k c m) =
    refused e r (unmade_moved calls p b.place h) k (calm_moved p page calls steps other b c) m
comes_moved meant p page calls steps other b status (ended work e s i h k c m) =
    ended work e s i (made_moved work calls p b.place h) k (calm_moved p page calls steps other b c) m
comes_moved meant p page calls steps other b status (unclosed work e s i j t out f h k r v c m) =
    unclosed work e s i j t out f (short_moved work.mark out calls p b.place h) k r v c m
comes_moved meant p page calls steps other b status (exhausted s h v c m) =
    exhausted s (stands_moved meant p page calls steps other b h) v c m
comes_moved meant p page calls steps other b status (failed s h r v c m) =
    failed s (stands_moved meant p page calls steps other b h) r (first_moved meant p calls b.place v) c m
comes_moved meant p page calls steps other b status (unmarked work e mark f s n h k c m) =
    unmarked work e mark f s n (unmade_moved calls p b.place h) k (calm_moved p page calls steps other b c) m
comes_moved meant p page calls steps other b status (nowhere work e out f s n h k c m) =
    nowhere work e out f s n (mark_moved work.mark calls p b.place h) k (calm_moved p page calls steps other b c) m
comes_moved meant p page calls steps other b status (cut_off work e s h k r c m) =
    cut_off work e s (made_moved work calls p b.place h) k r c m
comes_moved meant p page calls steps other b status (cut_short work e l s out f h k r m) =
    cut_short work e l s out f (short_moved work.mark out calls p b.place h) k r m

added_twice : (x n k m now : ℕ) → now ≤ with_added x n + (k + m) → now ≤ x + (n + k + m)
added_twice x n k m now h = omega arith

-- a command that goes on where a first step ended
moved : (n : ℕ) (meant : Spec Work) (p : DepotState) (page : PageState) (steps : ℕ) (b : IoState) (status : Status) →
    OutcomeWithin meant (io_state (depot_after_calls n p) page steps) b status →
    OutcomeWithin (record { calls = n + meant.calls; result = meant.result }) (io_state p page steps) b status
moved n meant p page steps b status h = record {
  comes = comes_moved meant.result p page (with_added p.calls n) steps steps b status h.comes;
  ports = h.ports;
  calls = added_twice p.calls n meant.calls (work_calls meant.result) b.place.calls h.calls;
  steps = h.steps;
}

-- a command whose first step gave a value obeys where what is meant by the value is obeyed
pub then_obeys : {A : Type 0} (first : Spec A) (x : A) (next : A →
    Spec Work) (p q : DepotState) (page : PageState) (steps : ℕ) (b : IoState)
    (status : Status) → first.result ≡ Ok x → q ≡ depot_after_calls first.calls p →
    OutcomeWithin (next x) (io_state q page steps) b
    status →
    OutcomeWithin (first >>= next) (io_state p page steps) b status
then_obeys {A} first x next p q page steps b status e same h =
    subst (λ (r : Result A Status). OutcomeWithin (and_then first.calls r next) (io_state p page steps) b status)
    (sym e)
    (moved first.calls (next x) p page steps b status
    (subst (λ (z : DepotState). OutcomeWithin (next x) (io_state z page steps) b status) same h))
