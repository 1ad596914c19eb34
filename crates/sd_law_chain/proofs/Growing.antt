-- Books that grow, or texts that are a collision.
use Rattle.std.proofs.Common.{arith, ◌≡◌, ℕ, suc, zero, ◌-◌, ◌<◌, ◌≤◌, List, [], ◌∷◌, ◌++◌, length, refl, ap, sym}
use Rattle.std.proofs.Common.{subst}
use Rattle.std.proofs.Common.{◌∙◌, Option, Some, None, inl, inr, take, drop, append_assoc, append-nil}
use Rattle.std.specs.Prelude.{◌⊎◌, All, Contains, slice_get}
use Rattle.std.specs.Str.{bytes_eq}
use Rattle.std.proofs.lemmas.Bool.{cases_Bool, cases_lt}
use Rattle.std.proofs.lemmas.Option.{slice_get_within}
use Rattle.std.proofs.lemmas.Slice.Eq.{bytes_eq-Decides}
use Rattle.std.proofs.lemmas.List.{take-append-drop}
use Rattle.std.proofs.lemmas.List.Elements.{All-nil, All-cons, All-contains, Contains-append_right}
use Rattle.sd_base.specs.Types.{Bytes}
use Rattle.sd_base.proofs.Lists.{equal_bytes}
use Rattle.sd_ports.specs.Bytes.{IsPrefix}
use Rattle.sd_law_chain.specs.Chain.{IsTrueChain, AreTrue, Call, Collides, HaveGrown, HaveOwnSites, IsChain}
use Rattle.sd_law_chain.specs.Chain.{IsCollision}
use Rattle.sd_law_chain.specs.Chain.{IsLike, IsNextAt, IsChainOnAir, Link, Next, OnAir, Twin, chain_book, grown}
use Rattle.sd_law_chain.specs.Chain.{link_at, own_bytes}
use Rattle.sd_law_chain.specs.Chain.{sent}
use Rattle.sd_law_chain.proofs.Links.{call_taken, next_link, some_call}

-- texts of one length and one digest are a collision or equal
alike_or_same : (x y : Bytes) → IsLike x y → IsCollision x y ⊎ (x ≡ y)
alike_or_same x y like = elim (cases_Bool (bytes_eq x y)) [
  | inl equal ↦ inr ((bytes_eq-Decides x y).0 equal)
  | inr differs ↦ inl (record {
    other = λ same. absurd (let e = sym (equal_bytes x y same) ∙ differs in cc);
    like =
        like;
  })
]

-- one of some things has this, or all have that
either_all : {A : Type 0} (P Q : A → Type 0) (xs : List A) → ((x : A) → Contains xs x → P x ⊎ Q x) →
    ((x : A) × Contains xs x × P x) ⊎ All Q xs
either_all P Q [] each = inr (All-nil Q)
either_all P Q (x ∷ xs) each =
    elim (each x (0, omega arith, refl)) [
      | inl first ↦ inl (x, (0, omega arith, refl), first)
      | inr first ↦
          elim (either_all P Q xs (λ y has. each y (Contains-append_right (x ∷ []) xs y has))) [
            | inl (y, has, one) ↦ inl (y, Contains-append_right (x ∷ []) xs y has, one)
            | inr rest ↦ inr (All-cons Q x xs first rest)
          ]
    ]

-- what `next` took for the book of its SITE was that book, of the sites up to number m
abbrev TookOwn : Link → List Call → ℕ → Type 0
TookOwn root calls m = (n : ℕ) (bytes : Bytes) → n ≤ m → IsNextAt calls n bytes →
    own_bytes (link_at root calls (n - 1)) bytes ≡ chain_book root calls (n - 1)

-- one call more that is no `next`
no_next : (root : Link) (calls : List Call) (m : ℕ) → TookOwn root calls m →
    ((bytes : Bytes) (words : ℕ) → slice_get calls m ≡ Some (Next bytes words) → ⊥) → TookOwn root calls (suc m)
no_next root calls m before none n bytes low (words, some, at) = elim (cases_lt m n) [
  | inl lt ↦
      let last : n - 1 ≡ m = omega (arith, lt, low) in
      absurd (none bytes words (sym (ap (slice_get calls) last) ∙ at))
  | inr le ↦ before n bytes le (words, some, at)
]

-- and one that is
one_next : (root : Link) (calls : List Call) (m : ℕ) (bytes : Bytes) (words : ℕ) → TookOwn root calls m →
    slice_get calls m ≡ Some (Next bytes words) → own_bytes (link_at root calls m) bytes ≡ chain_book root calls m →
    TookOwn root calls (suc m)
one_next root calls m bytes words before here same n other low (count, some, at) = elim (cases_lt m n) [
  | inl lt ↦
      let last : n - 1 ≡ m = omega (arith, lt, low) in
      let one : other ≡ bytes = same_bytes other bytes count words (sym at ∙ ap (slice_get calls) last ∙ here) in
      ap (λ (b : Bytes). own_bytes (link_at root calls (n - 1)) b) one
      ∙ ap (λ (k : ℕ). own_bytes (link_at root calls k) bytes) last
      ∙ same
      ∙ sym (ap (chain_book root calls) last)
  | inr le ↦ before n other le (count, some, at)
]
  where
    same_bytes : (a b : Bytes) (j k : ℕ) → Some (Next a j) ≡ Some (Next b k) → a ≡ b
    same_bytes a b j k h = cc

took_own : (root : Link) (calls : List Call) (airs : List OnAir) (m : ℕ) → IsChain root calls →
    Collides root calls airs ⊎ TookOwn root calls m
took_own root calls airs zero is = inr (λ n bytes low (words, some, at). absurd (omega (arith, low, some)))
took_own root calls airs (suc m) is = elim (took_own root calls airs m is) [
  | inl collides ↦ inl collides
  | inr before ↦ by_call (slice_get calls m) refl before
]
  where
    by_call : (found : Option Call) → slice_get calls m ≡ found → TookOwn root calls m →
        Collides root calls airs ⊎ TookOwn root calls (suc m)
    by_call None at before = inr (no_next root calls m before (λ bytes words other. absurd (let e = sym at ∙ other in
        cc)))
    by_call (Some (Twin count)) at before =
        inr (no_next root calls m before (λ bytes words other. absurd (let e = sym at ∙ other in cc)))
    by_call (Some (Next bytes words)) at before =
        let taken = call_taken root calls m (Next bytes words) is at in
        let last : m ≡ suc m - 1 = omega arith in
        elim (alike_or_same (own_bytes (link_at root calls m) bytes) (chain_book root calls m) taken.begins) [
          | inl collision ↦
              inl (grown (suc m) bytes (words, omega arith, sym (ap (slice_get calls) last) ∙ at)
              (subst (λ (k : ℕ). IsCollision (own_bytes (link_at root calls k) bytes) (chain_book root calls k)) last
              collision))
          | inr same ↦ inr (one_next root calls m bytes words before at same)
        ]

-- what was taken for a book that it is begins the text
begins : (book bytes : Bytes) → take (length book) bytes ≡ book → IsPrefix book bytes
begins book bytes same = (
  drop (length book) bytes,
  ap (λ (first : Bytes). first ++ drop (length book) bytes) (sym same)
      ∙ take-append-drop (length book) bytes,
)

all_grown : (root : Link) (calls : List Call) → TookOwn root calls (length calls) → HaveGrown root calls
all_grown root calls took n bytes (words, some, at) =
    let within = slice_get_within calls (n - 1) (Next bytes words) at in
    begins (chain_book root calls (n - 1)) bytes (took n bytes (omega (arith, within, some)) (words, some, at))

prefix_through : (a b c : Bytes) → IsPrefix a b → IsPrefix b c → IsPrefix a c
prefix_through a b c (one, is) (two, its) =
    (one ++ two, sym (append_assoc a one two) ∙ ap (λ (bytes : Bytes). bytes ++ two) is ∙ its)

same_prefix : (a : Bytes) → IsPrefix a a
same_prefix a = ([], append-nil a)

-- each call makes a site whose book begins with that of the site before
pub book_step : (root : Link) (calls : List Call) (k : ℕ) → HaveGrown root calls → k < length calls →
    IsPrefix (chain_book root calls k) (chain_book root calls (suc k))
book_step root calls k have low =
    let (call, at) = some_call calls k low in by_call call at
  where
    by_call : (call : Call) → slice_get calls k ≡ Some call →
        IsPrefix (chain_book root calls k) (chain_book root calls (suc k))
    by_call (Next bytes words) at =
        let last : suc k - 1 ≡ k = omega arith in
        let is : IsPrefix (chain_book root calls k) bytes =
        subst (λ (n : ℕ). IsPrefix (chain_book root calls n) bytes) last
        (have (suc k) bytes (words, omega arith, ap (slice_get calls) last ∙ at)) in
        subst (λ (link : Link). IsPrefix (chain_book root calls k) link.book)
        (sym (next_link root calls k (Next bytes words) at)) is
    by_call (Twin words) at =
        subst (λ (link : Link). IsPrefix (chain_book root calls k) link.book)
        (sym (next_link root calls k (Twin words) at)) (same_prefix (chain_book root calls k))

-- and so do later sites
pub books_are_prefixes : (root : Link) (calls : List Call) (i j : ℕ) → HaveGrown root calls → i ≤ j →
    j ≤ length calls → IsPrefix (chain_book root calls i) (chain_book root calls j)
books_are_prefixes root calls i zero have low within =
    let same : 0 ≡ i = omega (arith, low) in
    subst (λ (k : ℕ). IsPrefix (chain_book root calls i) (chain_book root calls k)) (sym same)
    (same_prefix (chain_book root calls i))
books_are_prefixes root calls i (suc j) have low within = elim (cases_lt j i) [
  | inl lt ↦
      let same : suc j ≡ i = omega (arith, low, lt) in
      subst (λ (k : ℕ). IsPrefix (chain_book root calls i) (chain_book root calls k)) (sym same)
      (same_prefix (chain_book root calls i))
  | inr le ↦
      prefix_through (chain_book root calls i) (chain_book root calls j) (chain_book root calls (suc j))
      (books_are_prefixes root calls i j have le (omega (arith, within)))
      (book_step root calls j have (omega (arith, within)))
]

-- of two broadcasts that of the earlier site has a book that the other's begins with
abbrev pub AreGrown : List OnAir → Type 0
AreGrown airs = (a b : OnAir) → Contains airs a → Contains airs b → a.number ≤ b.number → IsPrefix a.book b.book

airs_grown : (root : Link) (calls : List Call) (airs : List OnAir) → All (IsChainOnAir root calls) airs →
    AreTrue root calls airs → AreGrown airs
airs_grown root calls airs all own a b has also low =
    let own_a = All-contains (λ air. air.book ≡ chain_book root calls air.number) airs a own.own has in
    let own_b = All-contains (λ air. air.book ≡ chain_book root calls air.number) airs b own.own also in
    let there = (All-contains (IsChainOnAir root calls) airs b all also).there in
    subst (λ (x : Bytes). IsPrefix x b.book) (sym own_a)
    (subst (λ (y : Bytes). IsPrefix (chain_book root calls a.number) y) (sym own_b)
    (books_are_prefixes root calls a.number b.number own.grown low there))

collides_or_true : (root : Link) (calls : List Call) (airs : List OnAir) → IsChain root calls →
    All (IsChainOnAir root calls) airs → Collides root calls airs ⊎ AreTrue root calls airs
collides_or_true root calls airs is all = elim (took_own root calls airs (length calls) is) [
  | inl collides ↦ inl collides
  | inr took ↦
      elim (either_all (λ air. IsCollision air.book (chain_book root calls air.number))
      (λ air. air.book ≡ chain_book root calls air.number) airs (λ air has.
      alike_or_same air.book (chain_book root calls air.number)
      (All-contains (IsChainOnAir root calls) airs air all has).book)) [
        | inl (air, has, collision) ↦ inl (sent air has collision)
        | inr own ↦ inr (record { grown = all_grown root calls took; own = own })
      ]
]

-- one of the pairs that were compared is a collision, or all books grew
pub books_grow : (root : Link) (calls : List Call) (airs : List OnAir) → IsChain root calls →
    All (IsChainOnAir root calls) airs → Collides root calls airs ⊎ (AreTrue root calls airs × AreGrown airs)
books_grow root calls airs is all = elim (collides_or_true root calls airs is all) [
  | inl collides ↦ inl collides
  | inr own ↦ inr (own, airs_grown root calls airs all own)
]

-- or the chain is kept
pub chains_are_kept : (root : Link) (calls : List Call) (airs : List OnAir) → IsChain root calls →
    All (IsChainOnAir root calls) airs → HaveOwnSites airs → Collides root calls airs ⊎ IsTrueChain root calls airs
chains_are_kept root calls airs is all sites = elim (collides_or_true root calls airs is all) [
  | inl collides ↦ inl collides
  | inr own ↦ inr (record { chain = is; sent = all; sites = sites; books = own })
]
