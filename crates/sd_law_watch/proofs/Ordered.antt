-- Parts of messages that come in their order: none comes again.
use Rattle.std.proofs.Common.{◌≡◌, refl, ℕ, ◌+◌, ◌<◌, ◌≤◌, ◌==◌, ◌&&◌, Bool, true, false, List, [], ◌∷◌}
use Rattle.std.proofs.Common.{Option, Some, None, arith, sym, ap, ◌∙◌, inl, inr, ◌⊎◌, subst}
use Rattle.std.specs.Prelude.{if◌then◌else◌, nat_le, flat_map}
use Rattle.std.specs.List.{list_any, list_all}
use Rattle.std.proofs.lemmas.Bool.{false≢true}
use Rattle.std.proofs.lemmas.Bool.Decides.{nat_tests}
use Rattle.sd_base.proofs.Bools.{tested}
use Rattle.sd_message.specs.EcmSpelled.{listed_places}
use Rattle.sd_message.specs.EcmParts.{Message}
use Rattle.sd_message.specs.declared.ecm_part.EcmPart.{EcmPart}
use Rattle.sd_spec.specs.Heard.{Heard, Dropped, Entitles, Controls, BadEmm, BadEcm, Other}
use Rattle.sd_spec.specs.Stretches.{Stretch, exceeds, counted_parts, run_of_parts, message_parts_with, newest_message}
use Rattle.sd_spec.specs.Stretches.{completes, is_closed}
use Rattle.sd_spec.specs.Runs.{is_turn, of_run}
use Rattle.sd_spec.specs.Offered.{heard_more, same_header}
use Rattle.sd_spec.specs.Counting.{is_equal_place, says_nothing_new, is_part_again}
use Rattle.sd_spec.proofs.Hearing.{newest_waits, newest_completes}

-- a part stands before part x of message a
abbrev pub IsBefore : ℕ → ℕ → EcmPart → Type 0
IsBefore a x part = (part.number < a) ⊎ ((part.number ≡ a) × (part.part < x))

-- all parts that were heard do
abbrev pub AreBefore : ℕ → ℕ → List Heard → Type 0
AreBefore a x [] = Unit {0}
AreBefore a x (Dropped ∷ past) = AreBefore a x past
AreBefore a x (Entitles emm ∷ past) = AreBefore a x past
AreBefore a x (Controls part ∷ past) = IsBefore a x part × AreBefore a x past
AreBefore a x (BadEmm fault ∷ past) = AreBefore a x past
AreBefore a x (BadEcm fault ∷ past) = AreBefore a x past
AreBefore a x (Other n packet ∷ past) = AreBefore a x past

-- a place further on
pub record IsUpto (a x b y : ℕ) : Type 0 where
  pub low : (a < b) ⊎ ((a ≡ b) × (x ≤ y))

before_upto : (a x b y : ℕ) (part : EcmPart) → (a < b) ⊎ ((a ≡ b) × (x ≤ y)) → IsBefore a x part → IsBefore b y part
before_upto a x b y part (inl below) (inl less) = inl (omega (arith, below, less))
before_upto a x b y part (inl below) (inr (is, less)) = inl (omega (arith, below, is))
before_upto a x b y part (inr (same, up)) (inl less) = inl (omega (arith, same, less))
before_upto a x b y part (inr (same, up)) (inr (is, less)) = inr (is ∙ same, omega (arith, up, less))

pub all_upto : (a x b y : ℕ) (past : List Heard) → (a < b) ⊎ ((a ≡ b) × (x ≤ y)) → AreBefore a x past →
    AreBefore b y past
all_upto a x b y [] up all = tt
all_upto a x b y (Dropped ∷ past) up all = all_upto a x b y past up all
all_upto a x b y (Entitles emm ∷ past) up all = all_upto a x b y past up all
all_upto a x b y (Controls part ∷ past) up all =
    (before_upto a x b y part up all.0, all_upto a x b y past up all.1)
all_upto a x b y (BadEmm fault ∷ past) up all = all_upto a x b y past up all
all_upto a x b y (BadEcm fault ∷ past) up all = all_upto a x b y past up all
all_upto a x b y (Other n packet ∷ past) up all = all_upto a x b y past up all

-- a thing that keeps to the bound, onto others that do
onto_all : (a x : ℕ) (thing : Heard) (past these : List Heard) → AreBefore a x (thing ∷ past) → AreBefore a x these →
    AreBefore a x (thing ∷ these)
onto_all a x Dropped past these all some = some
onto_all a x (Entitles emm) past these all some = some
onto_all a x (Controls part) past these all some = (all.0, some)
onto_all a x (BadEmm fault) past these all some = some
onto_all a x (BadEcm fault) past these all some = some
onto_all a x (Other n packet) past these all some = some

-- one thing more
pub all_more : (a x : ℕ) (past : List Heard) (thing : Heard) → AreBefore a x (thing ∷ []) → AreBefore a x past →
    AreBefore a x (heard_more past thing)
unfolding of_run
all_more a x past thing one all = by_tests (is_closed (of_run past thing)) (is_turn past thing)
  where
    by_tests : (closed turn : Bool) →
        AreBefore a x (if closed then past else thing ∷ (if turn then [] else past))
    by_tests true turn = all
    by_tests false true = one
    by_tests false false = onto_all a x thing [] past one all

-- the parts that count are among them
abbrev pub AllParts : ℕ → ℕ → List EcmPart → Type 0
AllParts a x [] = Unit {0}
AllParts a x (part ∷ parts) = IsBefore a x part × AllParts a x parts

counted_before : (a x : ℕ) (message : Option Message) (past : List Heard) → AreBefore a x past →
    AllParts a x (counted_parts message past)
unfolding counted_parts
counted_before a x message [] all = tt
counted_before a x message (Dropped ∷ past) all = counted_before a x message past all
counted_before a x message (Entitles emm ∷ past) all = counted_before a x message past all
counted_before a x message (Controls part ∷ past) all =
    tested (exceeds message part)
    (λ is. rw is (all.0, counted_before a x message past all.1))
    (λ is. rw is (counted_before a x message past all.1))
counted_before a x message (BadEmm fault ∷ past) all = counted_before a x message past all
counted_before a x message (BadEcm fault ∷ past) all = counted_before a x message past all
counted_before a x message (Other n packet ∷ past) all = counted_before a x message past all

after_before : (a x : ℕ) (past : List Heard) → AreBefore a x past → AreBefore a x (newest_message past).after
unfolding newest_message
after_before a x [] all = tt
after_before a x (thing ∷ past) all =
    by_message (completes past thing) refl (after_before a x past (rest thing all))
  where
    rest : (thing : Heard) → AreBefore a x (thing ∷ past) → AreBefore a x past
    rest Dropped all = all
    rest (Entitles emm) all = all
    rest (Controls part) all = all.1
    rest (BadEmm fault) all = all
    rest (BadEcm fault) all = all
    rest (Other n packet) all = all

    by_message : (message : Option Message) → completes past thing ≡ message →
        AreBefore a x (newest_message past).after →
        AreBefore a x (newest_message (thing ∷ past)).after
    by_message None waits before =
        subst (λ (s : Stretch). AreBefore a x s.after) (sym (newest_waits past thing waits))
        (onto_all a x thing past (newest_message past).after all before)
    by_message (Some message) done before =
        subst (λ (s : Stretch). AreBefore a x s.after) (sym (newest_completes past thing message done)) tt

-- and so is the first of a run
first_part : (part : EcmPart) (parts : List EcmPart) →
    (run_of_parts (part ∷ parts) ≡ []) ⊎ ((rest : List EcmPart) × (run_of_parts (part ∷ parts) ≡ part ∷ rest))
unfolding run_of_parts
first_part part parts =
    tested (part.part == 0)
    (λ is. rw is (inr ([], refl)))
    (λ is. rw is (by_run (run_of_parts parts)))
  where
    by_run : (run : List EcmPart) →
        (message_parts_with part run ≡ []) ⊎ ((rest : List EcmPart) × (message_parts_with part run ≡ part ∷ rest))
    by_run [] = inl refl
    by_run (before ∷ run) = by_test ((before.number == part.number) && (before.part + 1 == part.part))
      where
        by_test : (b : Bool) →
            ((if b then part ∷ before ∷ run else []) ≡ [])
            ⊎ ((rest : List EcmPart) × ((if b then part ∷ before ∷ run else []) ≡ part ∷ rest))
        by_test true = inr (before ∷ run, refl)
        by_test false = inl refl

-- after parts before it, a part says something new
header_number : (a b : EcmPart) → same_header a b ≡ true → a.number ≡ b.number
header_number a b same =
    by_tests (a.version == b.version) (a.number == b.number) _ same (λ is. grind (arith, nat_tests, is))
  where
    by_tests : (v n r : Bool) → (v && (n && r)) ≡ true → (n ≡ true → a.number ≡ b.number) →
        a.number ≡ b.number
    by_tests true true r is then_same = then_same refl
    by_tests true false r is then_same = absurd (false≢true is)
    by_tests false n r is then_same = absurd (false≢true is)

new_part : (part last : EcmPart) (rest : List EcmPart) → IsBefore part.number part.part last →
    says_nothing_new part (last ∷ rest) ≡ false
new_part part last rest before =
    by_header (same_header last part) (λ same. header_number last part same)
  where
    far : last.number ≡ part.number → IsBefore part.number part.part last → nat_le part.part last.part ≡ false
    far same (inl less) = absurd (omega (arith, same, less))
    far same (inr (is, less)) = grind (arith, nat_tests, less)

    by_header : (b : Bool) → (b ≡ true → last.number ≡ part.number) →
        (b && (nat_le part.part last.part && list_all (λ place. list_any (is_equal_place place)
        (flat_map listed_places (last ∷ rest))) (listed_places part))) ≡ false
    by_header false number = refl
    by_header true number = rw (far (number refl) before) refl

by_parts : (part : EcmPart) (parts : List EcmPart) → AllParts part.number part.part parts →
    says_nothing_new part (run_of_parts parts) ≡ false
unfolding run_of_parts
by_parts part [] all = refl
by_parts part (last ∷ parts) all = elim (first_part last parts) [
  | inl none ↦ ap (says_nothing_new part) none
  | inr run ↦ ap (says_nothing_new part) run.1 ∙ new_part part last run.0 all.0
]

-- so it isn't passed over
pub never_again : (past : List Heard) (part : EcmPart) → AreBefore part.number part.part past →
    is_part_again past (Controls part) ≡ false
unfolding is_part_again
never_again past part all =
    by_parts part (counted_parts (newest_message past).message (newest_message past).after)
    (counted_before part.number part.part (newest_message past).message (newest_message past).after
    (after_before part.number part.part past all))
