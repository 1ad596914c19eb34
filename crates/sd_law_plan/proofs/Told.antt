-- What is told of two sites with their books is so.
use Rattle.std.proofs.Common.{arith, ◌≡◌, ℕ, ◌^◌, ◌==◌, ◌&&◌, ◌<◌, ◌≤◌, max, not, nat_le, nat_lt, Bool, true, false}
use Rattle.std.proofs.Common.{List, eq-eqb}
use Rattle.std.proofs.Common.{Option, Some, None, refl, sym, ap, subst, ◌∙◌, inl, inr, filter}
use Rattle.std.specs.Prelude.{◌↔◌, ◌⊎◌, Contains}
use Rattle.std.specs.List.{range_with_len}
use Rattle.std.specs.Option.{option_or}
use Rattle.std.specs.Str.{bytes_eq}
use Rattle.std.proofs.lemmas.Bool.Decides.{nat_tests}
use Rattle.sd_base.proofs.Lists.{equal_bytes}
use Rattle.sd_book.specs.Commands.{commands_until, is_revoked, revoked}
use Rattle.sd_spec.specs.Plan.{Plan}
use Rattle.sd_command_base.specs.declared.status.Clash.{Clash as ClashKind}
use Rattle.sd_command_base.specs.declared.status.Clash.TheVariants.{Heights, Masters, NoWords, SharedWord}
use Rattle.sd_run_books.specs.Apart.{books_clash, clash_in, plan_clash, clash_where, differ, differing_in, first_shared}
use Rattle.sd_run_books.specs.Apart.{shared_count, shares_word, sites_clash}
use Rattle.sd_law_plan.specs.Told.{IsDueIn, IsFirstApart, IsLeastShared, IsOfOne, IsSo, book_revokes}
use Rattle.sd_law_plan.proofs.Found.{both_same, find_least, kept, one_alone, passes, same_filters}
use Rattle.sd_law_plan.proofs.Ranges.{first_with, leaf_of, no_leaf}
use Rattle.sd_law_plan.proofs.Sites.{sites_apart}

both_true : (p q : Bool) → (p && q) ≡ true → (p ≡ true) × (q ≡ true)
both_true true q h = (refl, h)
both_true false q h = absurd cc

within : (m n : ℕ) → nat_le m n ≡ true → m ≤ n
within m n h = grind (arith, nat_tests, h)

-- the greater of two first control words is the least that both sites have
word_shared : (a b : Plan) → shares_word a.site b.site ≡ true →
    IsLeastShared a b (max a.site.first_word b.site.first_word)
word_shared a b shares =
    let most = max a.site.first_word b.site.first_word in
    let both = both_true (nat_le most a.site.last_word) (nat_le most b.site.last_word) shares in
    let left = within most a.site.last_word both.0 in
    let right = within most b.site.last_word both.1 in
    record {
      is = (omega arith, omega (arith, left));
      is_more = (omega arith, omega (arith, right));
      least = λ s own other. omega (arith, own.0, other.0);
    }

-- books that say the same of each receiver revoke the same leaves
pub books_alike : (a b : Plan) (q : ℕ) → a.site.height ≡ b.site.height → differing_in a b q ≡ None →
    revoked a.site.height a.commands q ≡ revoked b.site.height b.commands q
books_alike a b q heights none =
    same_filters (is_revoked (commands_until q a.commands)) (is_revoked (commands_until q b.commands)) 0
    (2 ^ a.site.height) none
    ∙ ap (λ (d : ℕ). revoked d b.commands q) heights

-- a number that one test alone lets through
alone_left : (one other : ℕ → Bool) (n u : ℕ) → u < n → one u ≡ true → other u ≡ false →
    Contains (filter one (range_with_len 0 n)) u × (Contains (filter other (range_with_len 0 n)) u → ⊥)
alone_left one other n u high pass fail = (
  kept one 0 n u (omega arith) (omega (arith, high)) pass,
  λ has. let other_pass = passes other (range_with_len 0 n) u has in cc,
)

of_one : (one other : ℕ → Bool) (n u : ℕ) → u < n →
    ((one u ≡ true) × (other u ≡ false)) ⊎ ((other u ≡ true) × (one u ≡ false)) →
    IsOfOne (filter one (range_with_len 0 n)) (filter other (range_with_len 0 n)) u
of_one one other n u high (inl h) = inl (alone_left one other n u high h.0 h.1)
of_one one other n u high (inr h) = inr (alone_left other one n u high h.0 h.1)

-- a number that both let through, or neither
has_both : (one other : ℕ → Bool) (n v : ℕ) → v < n → one v ≡ other v →
    Contains (filter one (range_with_len 0 n)) v → Contains (filter other (range_with_len 0 n)) v
has_both one other n v high same has =
    kept other 0 n v (omega arith) (omega (arith, high)) (sym same ∙ passes one (range_with_len 0 n) v has)

of_both : (one other : ℕ → Bool) (n v : ℕ) → v < n → one v ≡ other v →
    Contains (filter one (range_with_len 0 n)) v ↔ Contains (filter other (range_with_len 0 n)) v
of_both one other n v high same = (has_both one other n v high same, has_both other one n v high (sym same))

-- what is told of two sites
site_so : (a b : Plan) (clash : ClashKind) → sites_clash a.site b.site ≡ Some clash → IsSo a b clash
unfolding sites_clash
site_so a b clash h = by_height (a.site.height == b.site.height) refl h
  where
    by_words : (t : Bool) → shares_word a.site b.site ≡ t →
        clash_where t (SharedWord (max a.site.first_word b.site.first_word)) None ≡ Some clash → IsSo a b clash
    by_words false e h = absurd cc
    by_words true e h =
        let is : clash ≡ SharedWord (max a.site.first_word b.site.first_word) = cc in
        subst (IsSo a b) (sym is) (word_shared a b e)

    by_second : (t : Bool) → nat_lt b.site.last_word b.site.first_word ≡ t →
        clash_where t (NoWords 2) (clash_where (shares_word a.site b.site)
        (SharedWord (max a.site.first_word b.site.first_word)) None) ≡ Some clash → IsSo a b clash
    by_second false e h = by_words (shares_word a.site b.site) refl h
    by_second true e h =
        let is : clash ≡ NoWords 2 = cc in
        subst (IsSo a b) (sym is) (inr (refl, λ some. absurd (grind (arith, nat_tests, e, some))))

    by_first : (t : Bool) → nat_lt a.site.last_word a.site.first_word ≡ t →
        clash_where t (NoWords 1) (clash_where (nat_lt b.site.last_word b.site.first_word) (NoWords 2)
        (clash_where (shares_word a.site b.site) (SharedWord (max a.site.first_word b.site.first_word)) None))
        ≡ Some clash → IsSo a b clash
    by_first false e h = by_second (nat_lt b.site.last_word b.site.first_word) refl h
    by_first true e h =
        let is : clash ≡ NoWords 1 = cc in
        subst (IsSo a b) (sym is) (inl (refl, λ some. absurd (grind (arith, nat_tests, e, some))))

    by_master : (t : Bool) → bytes_eq a.site.master b.site.master ≡ t →
        clash_where (not t) Masters (clash_where (nat_lt a.site.last_word a.site.first_word) (NoWords 1)
        (clash_where (nat_lt b.site.last_word b.site.first_word) (NoWords 2)
        (clash_where (shares_word a.site b.site) (SharedWord (max a.site.first_word b.site.first_word)) None)))
        ≡ Some clash → IsSo a b clash
    by_master true e h = by_first (nat_lt a.site.last_word a.site.first_word) refl h
    by_master false e h =
        let is : clash ≡ Masters = cc in
        subst (IsSo a b) (sym is) (λ same. let yes = equal_bytes a.site.master b.site.master same in cc)

    by_height : (t : Bool) → (a.site.height == b.site.height) ≡ t →
        clash_where (not t) Heights (clash_where (not (bytes_eq a.site.master b.site.master)) Masters
        (clash_where (nat_lt a.site.last_word a.site.first_word) (NoWords 1)
        (clash_where (nat_lt b.site.last_word b.site.first_word) (NoWords 2)
        (clash_where (shares_word a.site b.site) (SharedWord (max a.site.first_word b.site.first_word)) None))))
        ≡ Some clash → IsSo a b clash
    by_height true e h = by_master (bytes_eq a.site.master b.site.master) refl h
    by_height false e h =
        let is : clash ≡ Heights = cc in
        subst (IsSo a b) (sym is) (λ same. let yes = eq-eqb a.site.height b.site.height same in cc)

-- the period is one of both, and in it the books say another thing of the receiver first
first_apart : (a b : Plan) (u q : ℕ) → a.site.height ≡ b.site.height → IsDueIn a q → IsDueIn b q →
    differing_in a b q ≡ Some u →
    ((p : ℕ) → IsDueIn a p → IsDueIn b p → p < q → book_revokes a p ≡ book_revokes b p) → IsFirstApart a b u q
first_apart a b u q heights due due_more found before =
    let one : ℕ → Bool = is_revoked (commands_until q a.commands) in
    let other : ℕ → Bool = is_revoked (commands_until q b.commands) in
    let d = a.site.height in
    let is = find_least (λ v. differ (one v) (other v)) 0 (2 ^ d) u found in
    let own : book_revokes b q ≡ filter other (range_with_len 0 (2 ^ d)) =
    ap (λ (h : ℕ). revoked h b.commands q) (sym heights) in
    record {
      due = due;
      due_more = due_more;
      alone = subst (λ (vs : List ℕ). IsOfOne (book_revokes a q) vs u) (sym own)
          (of_one one other (2 ^ d) u (omega (arith, is.high)) (one_alone (one u) (other u) is.yes));
      least = λ v below. subst (λ (vs : List ℕ). Contains (book_revokes a q) v ↔ Contains vs v) (sym own)
          (of_both one other (2 ^ d) v (omega (arith, below, is.high))
          (both_same (one v) (other v) (is.least v (omega arith) below)));
      first = before;
    }

book_so : (a b : Plan) (clash : ClashKind) → a.site.height ≡ b.site.height → books_clash a b ≡ Some clash →
    IsSo a b clash
unfolding books_clash
book_so a b clash heights h =
    let is = first_with (clash_in a b) (first_shared a b) (shared_count a b) clash h in
    let (u, told, found) = leaf_of is.q (differing_in a b is.q) clash is.has in
    subst (IsSo a b) (sym told) (first_apart a b u is.q heights (omega (arith, is.low), omega (arith, is.low, is.high))
    (omega (arith, is.low), omega (arith, is.low, is.high)) found
    (λ p due due_more below. books_alike a b p heights (no_leaf p (differing_in a b p) (is.before p
    (omega (arith, due.0, due_more.0)) below))))

pub told_is_so : (a b : Plan) (clash : ClashKind) → plan_clash a b ≡ Some clash → IsSo a b clash
told_is_so a b clash h = by_sites (sites_clash a.site b.site) refl h
  where
    by_sites : (o : Option ClashKind) → sites_clash a.site b.site ≡ o →
        option_or o (books_clash a b) ≡ Some clash → IsSo a b clash
    by_sites None e h = book_so a b clash (sites_apart a.site b.site e).heights h
    by_sites (Some one) e h = site_so a b clash (e ∙ h)
