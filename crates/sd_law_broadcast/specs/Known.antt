-- Public meaning: what a coalition that pools its cards makes of the messages of several broadcasts of one master. It
-- is said of names and not of bytes.
use Rattle.std.specs.Prelude.{◌≡◌, List, All, Contains}
use Rattle.sd_base.specs.Types.{Height, Leaves, PeriodNumber, WordNumber}
use Rattle.sd_tree_keys.specs.declared.set.SetName.{SetName}
use Rattle.sd_cover_tracing.specs.Derivation.{IsDerived}
use Rattle.sd_cover_tracing.specs.Reach.{Secret, Key, IsGeneratorStep}
use Rattle.sd_law_coalition.specs.Know.{Knowable, OfTree, PeriodKey, ControlWord, IsPooled}
use Rattle.sd_spec.specs.Plan.{sets_at}
use Rattle.sd_law_broadcast.specs.Runs.{Run, UsesWord, UsesPeriod}

-- The second is made from the first: by the generator; the key of a period that a run uses from the key of one of its
-- sets there, under which the run sends it; a control word of a run from the key of its period, likewise [Naor, Naor,
-- Lotspiech 2001, 3.2; this project, docs/FORMATS.md, Messages].
pub data IsStepInRuns (runs : List Run) : Knowable → Knowable → Type 0 where
  generated : {from to : Secret} → IsGeneratorStep from to → IsStepInRuns runs (OfTree from) (OfTree to)
  entitled : {run : Run} {name : SetName} {q : PeriodNumber} → Contains runs run → UsesPeriod run q
      → Contains (sets_at run.plan q) name → IsStepInRuns runs (OfTree (Key name)) (PeriodKey q)
  controlled : {run : Run} {t : WordNumber} {q : PeriodNumber} → Contains runs run → UsesWord run t q →
      IsStepInRuns runs (PeriodKey q) (ControlWord t)

-- the coalition of a tree of height h knows it: some derivation from what its cards hold together ends with it, by the
-- messages of all runs
unfoldable pub IsKnownInRuns : List Run → Height → Leaves → Knowable → Type 0
IsKnownInRuns runs h coalition item = IsDerived (IsPooled h coalition) (IsStepInRuns runs) item

-- the sites of all runs have trees of this height
abbrev pub AreOneTree : Height → List Run → Type 0
AreOneTree h runs = All (λ run. run.plan.site.height ≡ h) runs
