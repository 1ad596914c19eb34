-- Public meaning: what is so where two sites with their books may not go out under one set of cards
-- [this project, docs/FORMATS.md, Apart].
use Rattle.std.specs.Prelude.{◌≡◌, ◌≢◌, ◌⊎◌, ◌↔◌, ℕ, ◌<◌, ◌≤◌, List, Contains}
use Rattle.sd_base.specs.Types.{LeafNumber, Leaves, PeriodNumber, WordNumber}
use Rattle.sd_book.specs.Commands.{revoked}
use Rattle.sd_spec.specs.Plan.{Plan}
use Rattle.sd_law_broadcast.specs.Runs.{HasWords}
use Rattle.sd_command_base.specs.declared.status.Clash.{Clash}
use Rattle.sd_command_base.specs.declared.status.Clash.TheVariants.{Heights, Masters, NoWords, SharedWord, Books}
use Rattle.sd_run_books.specs.Apart.{last_due}

-- the leaves that the book revokes in period q, ascending [this project, docs/FORMATS.md, Book]
abbrev pub book_revokes : Plan → PeriodNumber → Leaves
book_revokes plan q = revoked plan.site.height plan.commands q

-- the control word is of the site's range
abbrev pub IsSiteWord : Plan → WordNumber → Type 0
IsSiteWord plan t = (plan.site.first_word ≤ t) × (t ≤ plan.site.last_word)

-- some broadcast of the site and the book may use the period: its stream is not known
abbrev pub IsDueIn : Plan → PeriodNumber → Type 0
IsDueIn plan q = (plan.site.first_period ≤ q) × (q ≤ last_due plan)

-- one of two lists alone has the number
abbrev pub IsOfOne : List ℕ → List ℕ → ℕ → Type 0
IsOfOne us vs u = (Contains us u × (Contains vs u → ⊥)) ⊎ (Contains vs u × (Contains us u → ⊥))

-- of the receivers that one of the books alone revokes in a period of both, u in period q is the first
pub record IsFirstApart (a b : Plan) (u : LeafNumber) (q : PeriodNumber) : Type 0 where
  pub due : IsDueIn a q
  pub due_more : IsDueIn b q
  pub alone : IsOfOne (book_revokes a q) (book_revokes b q) u
  pub least : (v : LeafNumber) → v < u → Contains (book_revokes a q) v ↔ Contains (book_revokes b q) v
  pub first : (p : PeriodNumber) → IsDueIn a p → IsDueIn b p → p < q → book_revokes a p ≡ book_revokes b p

-- the control word is the least that both sites have
pub record IsLeastShared (a b : Plan) (t : WordNumber) : Type 0 where
  pub is : IsSiteWord a t
  pub is_more : IsSiteWord b t
  pub least : (s : WordNumber) → IsSiteWord a s → IsSiteWord b s → t ≤ s

-- the site of this number has no control word
abbrev pub HasNone : Plan → Plan → ℕ → Type 0
HasNone a b n = ((n ≡ 1) × (HasWords a.site → ⊥)) ⊎ ((n ≡ 2) × (HasWords b.site → ⊥))

-- what is told is so
abbrev pub IsSo : Plan → Plan → Clash → Type 0
IsSo a b Heights = a.site.height ≢ b.site.height
IsSo a b Masters = a.site.master ≢ b.site.master
IsSo a b (NoWords n) = HasNone a b n
IsSo a b (SharedWord t) = IsLeastShared a b t
IsSo a b (Books u q) = IsFirstApart a b u q
