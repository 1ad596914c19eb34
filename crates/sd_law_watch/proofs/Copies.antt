-- A group of scrambled packets that comes again.
use Rattle.std.proofs.Common.{◌≡◌, refl, ℕ, zero, suc, ◌≤◌, ◌||◌, ◌++◌, Bool, true, false}
use Rattle.std.proofs.Common.{List, [], ◌∷◌, length, take, reverse, get_or, bytes_eq, sym, ap, ◌∙◌, arith, append_assoc}
use Rattle.std.specs.Prelude.{All, Contains, filter}
use Rattle.std.specs.List.{list_any}
use Rattle.std.proofs.lemmas.List.{reverse-append, length-reverse}
use Rattle.std.proofs.lemmas.List.Elements.{All-head, All-tail, All-nil, All-cons, All-append, All-contains}
use Rattle.sd_base.proofs.Lists.{equal_bytes, any_there}
use Rattle.sd_site_cards.specs.CardFields.{CardFields}
use Rattle.sd_spec.specs.Counting.{is_scrambled_packet, is_doubled, counts, counting}
use Rattle.sd_law_watch.proofs.Counted.{copy_uncounted, counting_more, counting_none}
use Rattle.sd_law_watch.proofs.Odd.{any_reversed}

-- the packet is scrambled
abbrev pub IsScrambled : List ℕ → Type 0
IsScrambled packet = is_scrambled_packet packet ≡ true

-- the first scrambled ones of more packets are among these
among_first : (p : List ℕ → Bool) (n : ℕ) (xs past : List (List ℕ)) → length xs ≤ n → All IsScrambled xs →
    list_any p xs ≡ true → list_any p (take n (filter is_scrambled_packet (xs ++ past))) ≡ true
among_first p n [] past short all some = absurd (cc some)
among_first p zero (x ∷ xs) past short all some = absurd (omega (arith, short))
among_first p (suc n) (x ∷ xs) past short all some =
    rw (All-head IsScrambled x xs all) (by_first (p x) some
    (among_first p n xs past (omega (arith, short)) (All-tail IsScrambled x xs all)))
  where
    rest : Bool
    rest = list_any p (take n (filter is_scrambled_packet (xs ++ past)))

    by_first : (first : Bool) → (first || list_any p xs) ≡ true → (list_any p xs ≡ true → rest ≡ true) →
        (first || rest) ≡ true
    by_first true some later = refl
    by_first false some later = later some

any_backwards : {A : Type 0} (p : A → Bool) (xs : List A) (x : A) → Contains xs x → p x ≡ true →
    list_any p (reverse xs) ≡ true
any_backwards p xs x there is = by_reverse
  where
    by_reverse : list_any p (reverse xs) ≡ true
    by_reverse = any_reversed p xs ∙ any_there p xs x there is

all_backwards : {A : Type 0} (P : A → Type 0) (xs : List A) → All P xs → All P (reverse xs)
all_backwards P [] all = all
all_backwards P (x ∷ xs) all =
    rw (reverse-append (x ∷ []) xs)
    (All-append P (reverse xs) (x ∷ []) (all_backwards P xs (All-tail P x xs all))
    (All-cons P x [] (All-head P x xs all) (All-nil P)))

-- a packet of the group is doubled behind it
comes_again : (card : CardFields) (past group : List (List ℕ)) (packet : List ℕ) → length group ≤ 15 →
    All IsScrambled group → Contains group packet → is_doubled card (reverse group ++ past) packet ≡ true
unfolding is_doubled
comes_again card past group packet few all there =
    let long : length (reverse group) ≤ 15 = omega (arith, few, length-reverse group) in
    rw (All-contains IsScrambled group packet all there)
    (rw (among_first (bytes_eq packet) 15 (reverse group) past long (all_backwards IsScrambled group all)
    (any_backwards (bytes_eq packet) group packet there (equal_bytes packet packet refl))) refl)

-- packets that don't count after these change nothing
none_counts : (card : CardFields) (past again after : List (List ℕ)) →
    All (λ packet. counts card past packet ≡ false) again →
    counting card past (again ++ after) ≡ counting card past after
none_counts card past [] after all = refl
none_counts card past (packet ∷ again) after all =
    counting_none card past (again ++ after) packet
    (All-head (λ (p : List ℕ). counts card past p ≡ false) packet again all)
    ∙ none_counts card past again after (All-tail (λ (p : List ℕ). counts card past p ≡ false) packet again all)

-- packets of the group again behind it
pub group_again : (card : CardFields) (before group again after : List (List ℕ)) → length group ≤ 15 →
    All (λ packet. is_scrambled_packet packet ≡ true) group →
    counting card (reverse (counting card [] before)) group ≡ group → All (Contains group) again →
    counting card [] (before ++ group ++ again ++ after) ≡ counting card [] (before ++ group ++ after)
group_again card before group again after few all count within =
    ap (counting card []) (append_assoc (before ++ group) again after)
    ∙ (counting_more card (before ++ group) (again ++ after)
    ∙ (ap (λ (rest : List (List ℕ)). counting card [] (before ++ group) ++ rest)
    (none_counts card (reverse (counting card [] (before ++ group))) again after
    (λ k d below. none_here (get_or again k d) (within k d below)))
    ∙ sym (counting_more card (before ++ group) after)))
  where
    now : reverse (counting card [] (before ++ group)) ≡ reverse group ++ reverse (counting card [] before)
    now = ap reverse (counting_more card before group
        ∙ ap (λ (rest : List (List ℕ)). counting card [] before ++ rest) count)
        ∙ reverse-append (counting card [] before) group

    none_here : (packet : List ℕ) → Contains group packet →
        counts card (reverse (counting card [] (before ++ group))) packet ≡ false
    none_here packet there =
        copy_uncounted card (reverse (counting card [] (before ++ group))) packet
        (ap (λ (past : List (List ℕ)). is_doubled card past packet) now
        ∙ comes_again card (reverse (counting card [] before)) group packet few all there)
