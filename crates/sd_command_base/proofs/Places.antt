-- Two moments of a depot that differ in the count of calls alone.
use Rattle.std.proofs.Common.{◌≡◌, ℕ, Option, ap, ◌∙◌}
use Rattle.sd_base.specs.Count.{with_added}
use Rattle.sd_ports.specs.Files.{Files}
use Rattle.sd_command_base.specs.Outside.{DepotState, depot_after_calls}

abbrev moment : Option Files → ℕ → ℕ → ℕ → ℕ → ℕ → ℕ → DepotState
moment files faults stops misses made opened calls = record {
  files = files;
  faults = faults;
  stops = stops;
  misses = misses;
  made = made;
  opened = opened;
  calls = calls;
}

pub only_called : (n : ℕ) (a b : DepotState) → b.files ≡ a.files → b.faults ≡ a.faults → b.stops ≡ a.stops →
    b.misses ≡ a.misses → b.made ≡ a.made →
    b.opened ≡ a.opened → b.calls ≡ with_added a.calls n → b ≡ depot_after_calls n a
only_called n a b files faults stops misses made opened calls =
    ap (λ (x : Option Files). moment x b.faults b.stops b.misses b.made b.opened b.calls) files
    ∙ ap (λ (x : ℕ). moment a.files x b.stops b.misses b.made b.opened b.calls) faults
    ∙ ap (λ (x : ℕ). moment a.files a.faults x b.misses b.made b.opened b.calls) stops
    ∙ ap (λ (x : ℕ). moment a.files a.faults a.stops x b.made b.opened b.calls) misses
    ∙ ap (λ (x : ℕ). moment a.files a.faults a.stops a.misses x b.opened b.calls) made
    ∙ ap (λ (x : ℕ). moment a.files a.faults a.stops a.misses a.made x b.calls) opened
    ∙ ap (λ (x : ℕ). moment a.files a.faults a.stops a.misses a.made a.opened x) calls
