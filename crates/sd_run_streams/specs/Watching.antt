-- Public meaning: what the inspector keeps of packets, of which the last comes first: marks of the PIDs that are
-- watched, and what their assemblers keep.
use Rattle.std.specs.Prelude.{◌≡◌, ℕ, ◌<◌, ◌==◌, ◌||◌, Bool, false, List, [], if◌then◌else◌, get_or, Option, Some, None}
use Rattle.std.specs.List.{flat_map, list_any}
use Rattle.sd_section.specs.Assembled.{Fed, Assembling, assembler_after, all_lent}
use Rattle.sd_run_streams.specs.Inspected.{pids_named_by, is_watched, watched_on}

-- one of these sections names the PID
unfoldable pub is_named_pid : ℕ → List (List ℕ) → Bool
is_named_pid pid sections = list_any (λ named. named == pid) (flat_map pids_named_by sections)

-- the sections of a PID that may name others: those of PID 0 [ISO/IEC 13818-1, 2.4.4.3]
abbrev pub naming : ℕ → List (List ℕ) → List (List ℕ)
naming pid sections = if pid == 0 then sections else []

-- these PIDs are marked too
pub record AreAdded (pids : List ℕ) (old new : List Bool) : Type 0 where
  pub at : (pid : ℕ) → pid < 8192 →
      get_or new pid false ≡ (get_or old pid false || list_any (λ named. named == pid) pids)

-- the PIDs that these sections name are marked too
pub record AreSectionsLearned (sections : List (List ℕ)) (old new : List Bool) : Type 0 where
  pub at : (pid : ℕ) → pid < 8192 → get_or new pid false ≡ (get_or old pid false || is_named_pid pid sections)

-- the marks and what the waiting sections name come to the old marks and what all sections name
pub record IsLearning (pid : ℕ) (all waiting : List (List ℕ)) (old marks : List Bool) : Type 0 where
  pub at : (q : ℕ) → q < 8192 →
      (get_or marks q false || is_named_pid q (naming pid waiting)) ≡
      (get_or old q false || is_named_pid q (naming pid all))

-- the assembler of a PID stands after these packets of it, all sections lent; there is none yet before the first
abbrev pub IsAssembledFrom : List Fed → Option Assembling → Type 0
IsAssembledFrom packets None = packets ≡ []
IsAssembledFrom packets (Some state) = state ≡ all_lent (assembler_after packets)

-- the assembler of a PID has nothing left to lend
abbrev pub IsIdle : Option Assembling → Type 0
IsIdle None = Unit {0}
IsIdle (Some state) = state.waiting ≡ []

-- so it is of each PID
pub record AreIdle (places : List (Option Assembling)) : Type 0 where
  pub at : (pid : ℕ) → pid < 8192 → IsIdle (get_or places pid None)

-- the marks are those of the PIDs that are watched after these packets
pub record AreWatchedMarks (packets : List (List ℕ)) (marks : List Bool) : Type 0 where
  pub at : (pid : ℕ) → pid < 8192 → get_or marks pid false ≡ is_watched pid packets

-- the assemblers are those after these packets
pub record ArePlaced (packets : List (List ℕ)) (places : List (Option Assembling)) : Type 0 where
  pub at : (pid : ℕ) → pid < 8192 → IsAssembledFrom (watched_on pid packets) (get_or places pid None)

-- marks and assemblers are those after these packets
pub record IsInspectedAfter (packets : List (List ℕ)) (marks : List Bool) (places : List (Option Assembling)) : Type 0
  where
    pub marked : AreWatchedMarks packets marks
    pub placed : ArePlaced packets places
