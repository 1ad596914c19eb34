-- Two books beside one another, period by period.
use Rattle.std.proofs.Common.{arith, ◌≡◌, ℕ, suc, ◌+◌, ◌-◌, ◌^◌, ◌<◌, ◌≤◌, min, Bool, List, [], ◌∷◌, ◌++◌, filter}
use Rattle.std.proofs.Common.{Option, Some, None}
use Rattle.std.proofs.Common.{refl, sym, ap, ◌∙◌}
use Rattle.std.specs.Option.{option_map, option_or}
use Rattle.std.specs.List.{range_with_len}
use Rattle.sd_base.proofs.Ranges.{range_parts}
use Rattle.sd_book.specs.Commands.{commands_until, is_revoked, last_period, revoked}
use Rattle.sd_book.proofs.Cuts.{same_revoked}
use Rattle.sd_spec.specs.Plan.{Plan}
use Rattle.sd_command_base.specs.declared.status.Clash.{Clash as ClashKind}
use Rattle.sd_command_base.specs.declared.status.Clash.TheVariants.{Books}
use Rattle.sd_run_books.specs.Apart.{clash_in, first_differing, first_of, first_shared}

through : (o p q r : Option ClashKind) → option_or o p ≡ None → (p ≡ None → q ≡ r) → option_or o q ≡ r
through None p q r h step = step h
through (Some clash) p q r h step = absurd cc

-- periods without a clash before others
first_after : (clash : ℕ → Option ClashKind) (xs ys : List ℕ) → first_of clash xs ≡ None →
    first_of clash (xs ++ ys) ≡ first_of clash ys
first_after clash [] ys h = refl
first_after clash (x ∷ xs) ys h =
    through (clash x) (first_of clash xs) (first_of clash (xs ++ ys)) (first_of clash ys) h (first_after clash xs ys)

-- the first clash in a period is that of all
pub first_found : (clash : ℕ → Option ClashKind) (a i n : ℕ) (found : ClashKind) → i < n →
    first_of clash (range_with_len a i) ≡ None → clash (a + i) ≡ Some found →
    first_of clash (range_with_len a n) ≡ Some found
first_found clash a i n found low none is =
    let all : n ≡ i + suc (n - i - 1) = omega (arith, low) in
    ap (λ (k : ℕ). first_of clash (range_with_len a k)) all
    ∙ ap (first_of clash) (range_parts a i (suc (n - i - 1)))
    ∙ first_after clash (range_with_len a i) (range_with_len (a + i) (suc (n - i - 1))) none
    ∙ ap (λ (o : Option ClashKind). option_or o (first_of clash (range_with_len (a + i + 1) (n - i - 1)))) is

-- one period more without one
pub none_more : (clash : ℕ → Option ClashKind) (a i : ℕ) → first_of clash (range_with_len a i) ≡ None →
    clash (a + i) ≡ None → first_of clash (range_with_len a (i + 1)) ≡ None
none_more clash a i none is =
    ap (first_of clash) (range_parts a i 1)
    ∙ first_after clash (range_with_len a i) (range_with_len (a + i) 1) none
    ∙ ap (λ (o : Option ClashKind). option_or o None) is

-- what is found in the two lists is the clash in the period
pub clash_is : (a b : Plan) (before : ℕ) (left right : List ℕ) (found : Option ℕ) →
    a.site.height ≡ b.site.height →
    before ≤ last_period a.commands - first_shared a b → before ≤ last_period b.commands - first_shared a b →
    left ≡ revoked a.site.height a.commands (min (first_shared a b) (last_period a.commands) + before) →
    right ≡ revoked b.site.height b.commands (min (first_shared a b) (last_period b.commands) + before) →
    ((one other : ℕ → Bool) (n : ℕ) → left ≡ filter one (range_with_len 0 n) →
    right ≡ filter other (range_with_len 0 n) → found ≡ first_differing one other n) →
    clash_in a b (first_shared a b + before) ≡ option_map (λ u. Books u (first_shared a b + before)) found
clash_is a b before left right found high_is low high one two is =
    let q = first_shared a b + before in
    let one_is : left ≡ revoked a.site.height a.commands q =
    one ∙ same_revoked a.site.height (first_shared a b) before a.commands low in
    let two_is : right ≡ revoked a.site.height b.commands q =
    two
    ∙ same_revoked b.site.height (first_shared a b) before b.commands high
    ∙ ap (λ (d : ℕ). revoked d b.commands q) (sym high_is) in
    ap (option_map (λ u. Books u q)) (sym (is (is_revoked (commands_until q a.commands))
    (is_revoked (commands_until q b.commands)) (2 ^ a.site.height) one_is two_is))
