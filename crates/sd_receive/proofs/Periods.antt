-- The current period, and the periods that messages told of.
use Rattle.std.proofs.Common.{◌≡◌, ℕ, zero, suc, ◌<◌, ◌≤◌, ◌==◌, ◌&&◌, ◌||◌, Bool, true, false, List, [], ◌∷◌, ◌++◌}
use Rattle.std.proofs.Common.{map, refl, ⊎_elim, subst, ◌∙◌, sym, arith, eq-eqb, append-nil}
use Rattle.std.specs.Prelude.{nat_le, nat_lt, All, find, filter, if◌then◌else◌, Option, Some, None}
use Rattle.std.specs.List.{list_any}
use Rattle.std.specs.Option.{option_or, option_map_or}
use Rattle.std.proofs.lemmas.Grind.{reverse_onto}
use Rattle.std.proofs.lemmas.List.Elements.{All-append, filter-append}
use Rattle.std.proofs.lemmas.List.Folds.{find-append, list_any-append}
use Rattle.std.proofs.lemmas.Bool.{lt-leb, lt-ltb, le-ltb, ne_eqb, and_parts, and_right, leb-true, cases_lt}
use Rattle.sd_message.specs.declared.emm.Emm.{Emm}
use Rattle.sd_message.specs.EcmParts.{Message}
use Rattle.sd_spec.specs.Heard.{Heard, Dropped, Entitles, Controls, BadEmm, BadEcm, Other}
use Rattle.sd_spec.specs.Stretches.{completes, messages, current, sections_seen}
use Rattle.sd_spec.specs.Ending.{periods_told}
use Rattle.sd_receive.specs.PeriodKeys.{told_below, is_in_turn}

-- the sections seen of a past period stay
pub past_stands : (q : ℕ) (heard : Heard) (tr : List Heard) → q < current tr →
    sections_seen q (heard ∷ tr) ≡ sections_seen q tr
unfolding sections_seen
past_stands q Dropped tr h = refl
past_stands q (Entitles emm) tr h = rw (lt-leb (current tr) q h, and_right (emm.period == q) false refl) refl
past_stands q (Controls part) tr h = refl
past_stands q (BadEmm fault) tr h = refl
past_stands q (BadEcm fault) tr h = refl
past_stands q (Other n packet) tr h = refl

-- nor do those of another period change those of this one
pub other_period : (q : ℕ) (emm : Emm) (tr : List Heard) → (emm.period == q) ≡ false →
    sections_seen q (Entitles emm ∷ tr) ≡ sections_seen q tr
unfolding sections_seen
other_period q emm tr h = rw h refl

-- no section of a period to come was seen
pub ahead_none : (q : ℕ) (tr : List Heard) → current tr < q → sections_seen q tr ≡ []
unfolding sections_seen current
ahead_none q [] h = refl
ahead_none q (Dropped ∷ tr) h = ahead_none q tr (omega (arith, h))
ahead_none q (Entitles emm ∷ tr) h =
    other_period q emm tr (ne_eqb emm.period q (λ (e : emm.period ≡ q). absurd (omega (arith, h, e))))
    ∙ ahead_none q tr (omega (arith, h))
ahead_none q (Controls part ∷ tr) h = ahead_none q tr (omega (arith, h))
ahead_none q (BadEmm fault ∷ tr) h = ahead_none q tr (omega (arith, h))
ahead_none q (BadEcm fault ∷ tr) h = ahead_none q tr (omega (arith, h))
ahead_none q (Other n packet ∷ tr) h = ahead_none q tr (omega (arith, h))

-- a message that is complete adds its period, and whatever else comes none
pub one_told : (heard : Heard) (tr : List Heard) (message : Message) → completes tr heard ≡ Some message →
    periods_told (heard ∷ tr) ≡ periods_told tr ++ message.period ∷ []
unfolding periods_told messages
one_told heard tr message h = rw h (reverse_onto (map (λ (m : Message). m.period) (messages tr)) message.period [])

pub none_told : (heard : Heard) (tr : List Heard) → completes tr heard ≡ None →
    periods_told (heard ∷ tr) ≡ periods_told tr
unfolding periods_told messages
none_told heard tr h = rw h refl

-- what comes raises the current period to its own or leaves it
pub rises : (heard : Heard) (tr : List Heard) → current tr ≤ current (heard ∷ tr)
unfolding current
rises heard tr = omega arith

pub raised : (heard : Heard) (tr : List Heard) (message : Message) → completes tr heard ≡ Some message →
    message.period ≤ current (heard ∷ tr)
unfolding current
raised Dropped tr message h = absurd (grind (arith, h))
raised (Entitles emm) tr message h = absurd (grind (arith, h))
raised (Controls part) tr message h = rw h (omega arith)
raised (BadEmm fault) tr message h = absurd (grind (arith, h))
raised (BadEcm fault) tr message h = absurd (grind (arith, h))
raised (Other n packet) tr message h = absurd (grind (arith, h))

all_up : (a b : ℕ) (xs : List ℕ) → a ≤ b → All (λ p. p ≤ a) xs → All (λ p. p ≤ b) xs
all_up a b xs h all = λ k d g. omega (arith, h, all k d g)

one_below : (x a : ℕ) → x ≤ a → All (λ p. p ≤ a) (x ∷ [])
one_below x a h zero d g = h
one_below x a h (suc k) d g = absurd (omega (arith, g))

-- no message told of a period after the current one
within_by : (heard : Heard) (tr : List Heard) (o : Option Message) → completes tr heard ≡ o →
    All (λ p. p ≤ current tr) (periods_told tr) →
    All (λ p. p ≤ current (heard ∷ tr)) (periods_told (heard ∷ tr))
within_by heard tr None is all = subst (All (λ p. p ≤ current (heard ∷ tr))) (sym (none_told heard tr is))
    (all_up (current tr) (current (heard ∷ tr)) (periods_told tr) (rises heard tr) all)
within_by heard tr (Some message) is all = subst (All (λ p. p ≤ current (heard ∷ tr))) (sym
    (one_told heard tr message is))
    (All-append (λ p. p ≤ current (heard ∷ tr)) (periods_told tr) (message.period ∷ [])
    (all_up (current tr) (current (heard ∷ tr)) (periods_told tr) (rises heard tr) all)
    (λ k d g. one_below message.period (current (heard ∷ tr)) (raised heard tr message is) k d g))

pub told_within : (tr : List Heard) → All (λ p. p ≤ current tr) (periods_told tr)
unfolding periods_told messages
told_within [] = λ k d g. absurd (omega (arith, g))
told_within (heard ∷ tr) = within_by heard tr (completes tr heard) refl (told_within tr)

all_below : (a q : ℕ) (ps : List ℕ) → a < q → All (λ p. p ≤ a) ps → filter (λ p. nat_lt p q) ps ≡ ps
all_below a q [] h all = refl
all_below a q (p ∷ ps) h all =
    rw (
      lt-ltb p q (omega (arith, h, all 0 0 (omega arith))),
      all_below a q ps h (λ k d g. all (suc k) d (omega
          (arith, g))),
    ) refl

none_at : (a q : ℕ) (ps : List ℕ) → a < q → All (λ p. p ≤ a) ps → list_any (λ p. p == q) ps ≡ false
none_at a q [] h all = refl
none_at a q (p ∷ ps) h all =
    rw (
      ne_eqb p q (λ (e : p ≡ q). absurd (omega (arith, h, e, all 0 0 (omega arith)))),
      none_at a q ps h (λ k d g. all (suc k) d (omega (arith, g))),
    ) refl

-- all that were told of are before a period to come
pub told_before : (q : ℕ) (tr : List Heard) → current tr < q → told_below q tr ≡ periods_told tr
unfolding told_below
told_before q tr h = all_below (current tr) q (periods_told tr) h (told_within tr)

pub not_told : (q : ℕ) (tr : List Heard) → current tr < q → list_any (λ p. p == q) (periods_told tr) ≡ false
not_told q tr h = none_at (current tr) q (periods_told tr) h (told_within tr)

-- of some periods: the first with the property is among those below q, or q itself, where it is one of them
abbrev pub Closes : (ℕ → Bool) → ℕ → List ℕ → Type 0
Closes P q ps = find P ps
    ≡ option_or (find P (filter (λ p. nat_lt p q) ps)) (if list_any (λ p. p == q) ps && P q then Some q else None)

or_none : (o : Option ℕ) → o ≡ option_or o None
or_none None = refl
or_none (Some x) = refl

closes_before : (P : ℕ → Bool) (a q : ℕ) (ps : List ℕ) → a < q → All (λ p. p ≤ a) ps → Closes P q ps
closes_before P a q ps h all = rw (all_below a q ps h all, none_at a q ps h all) (or_none (find P ps))

-- the last of them may be q
or_last : (o : Option ℕ) (a b : Bool) (q : ℕ) →
    option_or (option_or o (if a && b then Some q else None)) (if b then Some q else None)
    ≡ option_or o (if (a || true) && b then Some q else None)
or_last (Some x) a b q = refl
or_last None true true q = refl
or_last None true false q = refl
or_last None false true q = refl
or_last None false false q = refl

closes_at : (P : ℕ → Bool) (q : ℕ) (ps : List ℕ) → Closes P q ps → Closes P q (ps ++ q ∷ [])
closes_at P q ps h =
    rw (
      find-append P ps (q ∷ []),
      filter-append (λ p. nat_lt p q) ps (q ∷ []),
      list_any-append (λ p. p == q) ps (q ∷ []),
      le-ltb q q (omega arith),
      eq-eqb q q refl,
      append-nil (filter (λ p. nat_lt p q) ps),
      h,
    )
    (or_last (find P (filter (λ p. nat_lt p q) ps)) (list_any (λ p. p == q) ps) (P q) q)

snoc_within : (a x : ℕ) (ps : List ℕ) → a ≤ x → All (λ p. p ≤ a) ps → All (λ p. p ≤ x) (ps ++ x ∷ [])
snoc_within a x ps h all = All-append (λ p. p ≤ x) ps (x ∷ []) (all_up a x ps h all) (one_below x x (omega arith))

closes_by : (P : ℕ → Bool) (q : ℕ) (heard : Heard) (tr : List Heard) (o : Option Message) → completes tr heard ≡ o →
    current (heard ∷ tr) ≤ q → option_map_or (λ message. nat_le (current tr) message.period) o true ≡ true →
    Closes P q (periods_told tr) → Closes P q (periods_told (heard ∷ tr))
closes_by P q heard tr None is h turn before = subst (Closes P q) (sym (none_told heard tr is)) before
closes_by P q heard tr (Some message) is h turn before =
    subst (Closes P q) (sym (one_told heard tr message is))
    (⊎_elim
    (λ (g : message.period < q). closes_before P message.period q (periods_told tr ++ message.period ∷ []) g
    (snoc_within (current tr) message.period (periods_told tr) (leb-true (current tr) message.period turn)
    (told_within tr)))
    (λ (g : q ≤ message.period).
    let same : q ≡ message.period = omega (arith, g, h, raised heard tr message is) in
    subst (λ (x : ℕ). Closes P q (periods_told tr ++ x ∷ [])) same (closes_at P q (periods_told tr) before))
    (cases_lt message.period q))

-- the first period with the property of all that were told of
pub closes : (P : ℕ → Bool) (q : ℕ) (tr : List Heard) → is_in_turn tr ≡ true → current tr ≤ q →
    Closes P q (periods_told tr)
unfolding is_in_turn periods_told messages
closes P q [] turn h = refl
closes P q (heard ∷ tr) turn h =
    let parts = and_parts (option_map_or (λ (message : Message). nat_le (current tr) message.period)
    (completes tr heard) true)
    (is_in_turn tr) turn in
    closes_by P q heard tr (completes tr heard) refl h parts.0
    (closes P q tr parts.1 (omega (arith, h, rises heard tr)))

-- the same property of all periods below q has the same first
pub same_below : (P R : ℕ → Bool) (q : ℕ) (ps : List ℕ) → ((p : ℕ) → p < q → P p ≡ R p) →
    find P (filter (λ p. nat_lt p q) ps) ≡ find R (filter (λ p. nat_lt p q) ps)
same_below P R q [] same = refl
same_below P R q (p ∷ ps) same =
    ⊎_elim
    (λ (h : p < q). rw (lt-ltb p q h, same p h, same_below P R q ps same) refl)
    (λ (h : q ≤ p). rw (le-ltb p q h, same_below P R q ps same) refl)
    (cases_lt p q)
