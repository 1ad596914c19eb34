-- The periods in which it changes whether a receiver is entitled, one after the other.
use Rattle.std.proofs.Common.{◌≡◌, ℕ, zero, suc, ◌+◌, ◌-◌, ◌≤◌, ◌==◌, Bool, true, false, not, min, arith, List, [], ◌∷◌}
use Rattle.std.proofs.Common.{◌++◌}
use Rattle.std.proofs.Common.{Option, Some, None, append-nil, refl, ap, sym, ◌∙◌}
use Rattle.std.specs.Prelude.{filter, flat_map, if◌then◌else◌}
use Rattle.std.specs.List.{range_with_len}
use Rattle.std.proofs.lemmas.Bool.Decides.{nat_tests}
use Rattle.std.proofs.lemmas.List.{flat_map_more}
use Rattle.std.proofs.lemmas.List.Elements.{filter-append}
use Rattle.sd_base.proofs.Ranges.{range_more}
use Rattle.sd_site_cards.specs.SiteFields.{SiteFields}
use Rattle.sd_book.specs.declared.command.Command.{Command}
use Rattle.sd_book.specs.Commands.{last_period, revoked}
use Rattle.sd_book.proofs.Cuts.{same_revoked}
use Rattle.sd_run_books.specs.Apart.{differ}
use Rattle.sd_run_books.specs.Report.{is_active}
use Rattle.sd_run_books.specs.Same.{is_same_state}
use Rattle.sd_run_books.specs.Status.{entitled_line, is_change, is_entitled}

-- what is known of the period before the one that is so many after the first
abbrev pub before_at : (ℕ → Bool) → ℕ → ℕ → Option Bool
before_at entitled first zero = None
before_at entitled first (suc n) = Some (entitled (first + n))

not_not : (b : Bool) → b ≡ not (not b)
not_not true = refl
not_not false = refl

-- a period is a change unless it has the same as the one before
is_new : (entitled : ℕ → Bool) (first turn : ℕ) →
    is_change first entitled (first + turn)
    ≡ not (is_same_state (before_at entitled first turn) (entitled (first + turn)))
is_new entitled first zero =
    let here : (first + 0 == first) ≡ true = grind (arith, nat_tests) in
    rw here refl
is_new entitled first (suc n) =
    let later : (first + suc n == first) ≡ false = grind (arith, nat_tests) in
    let one_less : first + suc n - 1 ≡ first + n = omega arith in
    rw (later, one_less) (not_not (differ (entitled (first + n)) (entitled (first + suc n))))

swapped : (b : Bool) (xs : List ℕ) → (if b then [] else xs) ≡ (if not b then xs else [])
swapped true xs = refl
swapped false xs = refl

-- the lines after one more number, if it is taken
more_if : (line : ℕ → List ℕ) (head ks : List ℕ) (q : ℕ) (taken : Bool) →
    (head ++ flat_map line ks) ++ (if taken then line q else [])
    ≡ head ++ flat_map line (ks ++ (if taken then q ∷ [] else []))
more_if line head ks q true = flat_map_more line head ks q
more_if line head ks q false =
    append-nil (head ++ flat_map line ks) ∙ ap (λ (r : List ℕ). head ++ flat_map line r) (sym (append-nil ks))

-- the lines after one period more
lines_more : (entitled : ℕ → Bool) (line : ℕ → List ℕ) (head : List ℕ) (first turn : ℕ) (text more : List ℕ) →
    text ≡ head ++ flat_map line (filter (is_change first entitled) (range_with_len first turn)) →
    more ≡ text ++ (if is_same_state (before_at entitled first turn) (entitled (first + turn)) then []
    else line (first + turn)) →
    more ≡ head ++ flat_map line (filter (is_change first entitled) (range_with_len first (turn + 1)))
lines_more entitled line head first turn text more told pushed =
    let q = first + turn in
    let p = is_change first entitled in
    let qs = range_with_len first turn in
    pushed
    ∙ ap (λ (r : List ℕ). text ++ r) (swapped (is_same_state (before_at entitled first turn) (entitled q)) (line q))
    ∙ ap (λ (b : Bool). text ++ (if b then line q else [])) (sym (is_new entitled first turn))
    ∙ ap (λ (r : List ℕ). r ++ (if p q then line q else [])) told
    ∙ more_if line head (filter p qs) q (p q)
    ∙ ap (λ (r : List ℕ). head ++ flat_map line r) (sym (filter-append p qs (q ∷ [])))
    ∙ ap (λ (r : List ℕ). head ++ flat_map line (filter p r)) (sym (range_more first turn))

-- what a period says
pub now_is : (site : SiteFields) (commands : List Command) (u turn : ℕ) (leaves : List ℕ) (now : Bool) →
    turn ≤ last_period commands - site.first_period →
    leaves ≡ revoked site.height commands (min site.first_period (last_period commands) + turn) →
    now ≡ is_active leaves u →
    now ≡ is_entitled site.height commands u (site.first_period + turn)
now_is site commands u turn leaves now within are is =
    is ∙ ap (λ (r : List ℕ). is_active r u) (are ∙ same_revoked site.height site.first_period turn commands within)

-- the text after it
pub text_more : (site : SiteFields) (commands : List Command) (u turn : ℕ) (head text more : List ℕ)
    (before : Option Bool) (now : Bool) →
    now ≡ is_entitled site.height commands u (site.first_period + turn) →
    before ≡ before_at (is_entitled site.height commands u) site.first_period turn →
    text ≡ head ++ flat_map (λ q. entitled_line u (is_entitled site.height commands u q) q)
    (filter (is_change site.first_period (is_entitled site.height commands u)) (range_with_len site.first_period turn))
    →
    more ≡ text ++ (if is_same_state before now then [] else entitled_line u now (site.first_period + turn)) →
    more ≡ head ++ flat_map (λ q. entitled_line u (is_entitled site.height commands u q) q)
    (filter (is_change site.first_period (is_entitled site.height commands u))
    (range_with_len site.first_period (turn + 1)))
text_more site commands u turn head text more before now is was told pushed =
    let entitled = is_entitled site.height commands u in
    let first = site.first_period in
    lines_more entitled (λ q. entitled_line u (entitled q) q) head first turn text more told
    (pushed
    ∙ ap (λ (b : Option Bool). text ++ (if is_same_state b now then [] else entitled_line u now (first + turn))) was
    ∙ ap (λ (b : Bool). text ++ (if is_same_state (before_at entitled first turn) b then []
    else entitled_line u b (first + turn))) is)

-- and what is known before the next one
pub before_more : (entitled : ℕ → Bool) (first turn : ℕ) (now : Bool) → now ≡ entitled (first + turn) →
    Some now ≡ before_at entitled first (turn + 1)
before_more entitled first turn now is =
    let one : turn + 1 ≡ suc turn = omega arith in
    rw one (ap Some is)
