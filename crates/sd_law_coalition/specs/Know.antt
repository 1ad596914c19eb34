-- Public meaning: what a coalition that pools its cards makes of the messages of all periods of a book. It is said of
-- names and not of bytes.
use Rattle.std.specs.Prelude.{◌≡◌, ℕ, ◌≤◌, ◌/◌, min, List, Contains, Any}
use Rattle.std.specs.List.{flat_map}
use Rattle.sd_base.specs.Types.{Height, Leaves, PeriodNumber, WordNumber}
use Rattle.sd_tree_keys.specs.declared.set.SetName.{SetName}
use Rattle.sd_tree_keys.specs.Names.{names_of_receiver}
use Rattle.sd_book.specs.declared.command.Command.{Command}
use Rattle.sd_book.specs.Commands.{last_period, revoked}
use Rattle.sd_cover_tracing.specs.Cover.{cover_of}
use Rattle.sd_cover_tracing.specs.Derivation.{IsDerived}
use Rattle.sd_cover_tracing.specs.Reach.{Secret, Key, IsGeneratorStep, IsHeld}

-- what counts of a broadcast: the tree's height, how many crypto periods a period has, and the commands of its book
pub record Service : Type 0 where
  pub height : Height
  pub span : ℕ
  pub commands : List Command

-- what may be known, by its name: a secret of the tree, the key of a period, the control word of a crypto period
pub data Knowable : Type 0 where
  OfTree : Secret → Knowable
  PeriodKey : PeriodNumber → Knowable
  ControlWord : WordNumber → Knowable

-- the period of crypto period t of a broadcast that counts its control words and periods from 0: the last one goes on
-- to the end [this project, docs/FORMATS.md, Broadcast]
abbrev pub period_of_word : Service → WordNumber → PeriodNumber
period_of_word service t = min (t / service.span) (last_period service.commands)

-- the leaves that are revoked in period q
abbrev pub revoked_at : Service → PeriodNumber → Leaves
revoked_at service q = revoked service.height service.commands q

-- the sets of period q: the cover of the leaves that are revoked in it [Naor, Naor, Lotspiech 2001, 3.2]
unfoldable pub service_sets : Service → PeriodNumber → List SetName
service_sets service q = cover_of service.height (revoked_at service q)

-- the second is made from the first: by the generator; a period's key from the key of one of its sets, under which it
-- is sent; a control word from the key of its period, likewise [Naor, Naor, Lotspiech 2001, 3.2; this project,
-- docs/FORMATS.md, Messages]
pub data IsKnowledgeStep (service : Service) : Knowable → Knowable → Type 0 where
  generated : {from to : Secret} → IsGeneratorStep from to → IsKnowledgeStep service (OfTree from) (OfTree to)
  entitled : {name : SetName} {q : PeriodNumber} → q ≤ last_period service.commands →
      Contains (service_sets service q) name
      → IsKnowledgeStep service (OfTree (Key name)) (PeriodKey q)
  controlled : {q : PeriodNumber} {t : WordNumber} → period_of_word service t ≡ q →
      IsKnowledgeStep service (PeriodKey q) (ControlWord t)

-- what the cards of a coalition hold together: the secrets of all names of its leaves [Naor, Naor, Lotspiech 2001, 3.2]
abbrev pub IsPooled : Height → Leaves → Knowable → Type 0
IsPooled d coalition (OfTree secret) = IsHeld (flat_map (names_of_receiver d) coalition) secret
IsPooled d coalition (PeriodKey q) = ⊥
IsPooled d coalition (ControlWord t) = ⊥

-- the coalition knows it: some derivation from what its cards hold together ends with it, by the messages of all
-- periods of the one book
unfoldable pub IsKnown : Service → Leaves → Knowable → Type 0
IsKnown service coalition item = IsDerived (IsPooled service.height coalition) (IsKnowledgeStep service) item

-- some leaf of the coalition isn't revoked in period q
abbrev pub HasUnrevoked : Service → Leaves → PeriodNumber → Type 0
HasUnrevoked service coalition q = Any (λ u. ¬ Contains (revoked_at service q) u) coalition

-- the key of period q and the control word of each crypto period of it are known
pub record KnowsPeriod (service : Service) (coalition : Leaves) (q : PeriodNumber) : Type 0 where
  pub key : IsKnown service coalition (PeriodKey q)
  pub words : (t : WordNumber) → period_of_word service t ≡ q → IsKnown service coalition (ControlWord t)

-- neither the key of period q nor the control word of any crypto period of it is known
pub record KnowsNothingOf (service : Service) (coalition : Leaves) (q : PeriodNumber) : Type 0 where
  pub key : ¬ IsKnown service coalition (PeriodKey q)
  pub words : (t : WordNumber) → period_of_word service t ≡ q → ¬ IsKnown service coalition (ControlWord t)
