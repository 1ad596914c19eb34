-- Two sites that don't clash.
use Rattle.std.proofs.Common.{arith, ◌≡◌, ℕ, ◌==◌, ◌&&◌, ◌<◌, ◌≤◌, max, not, nat_le, nat_lt, le-ltb, Bool, true, eq-eqb}
use Rattle.std.proofs.Common.{false, List}
use Rattle.std.proofs.Common.{Option, None, refl, sym, ap, ◌∙◌, inl, inr}
use Rattle.std.specs.Str.{bytes_eq}
use Rattle.std.proofs.lemmas.Bool.{cases_lt, le-leb}
use Rattle.std.proofs.lemmas.Bool.Decides.{nat_tests}
use Rattle.std.proofs.lemmas.Slice.Eq.{bytes_eq-Decides}
use Rattle.sd_base.proofs.Bools.{true_from_not}
use Rattle.sd_base.proofs.Lists.{equal_bytes}
use Rattle.sd_site_cards.specs.SiteFields.{SiteFields}
use Rattle.sd_law_broadcast.specs.Runs.{HasWords, ShareNoWord}
use Rattle.sd_command_base.specs.declared.status.Clash.{Clash as ClashKind}
use Rattle.sd_command_base.specs.declared.status.Clash.TheVariants.{Heights, Masters, NoWords, SharedWord}
use Rattle.sd_run_books.specs.Apart.{clash_where, shares_word, sites_clash}
use Rattle.sd_law_plan.proofs.Ranges.{where_none}

-- what sites that don't clash have
pub record ArePairs (a b : SiteFields) : Type 0 where
  pub heights : a.height ≡ b.height
  pub masters : a.master ≡ b.master
  pub words : HasWords a
  pub words_more : HasWords b
  pub apart : shares_word a b ≡ false

not_below : (m n : ℕ) → nat_lt m n ≡ false → n ≤ m
not_below m n h = grind (arith, nat_tests, h)

pub same_number : (m n : ℕ) → (m == n) ≡ true → m ≡ n
same_number m n h = grind (arith, nat_tests, h)

-- ranges without a common control word
pub ranges_apart : (a b : SiteFields) → HasWords a → HasWords b → shares_word a b ≡ false → ShareNoWord a b
ranges_apart a b some more none =
    elim (cases_lt a.last_word b.first_word) [
      | inl lt ↦ inl lt
      | inr le ↦ elim (cases_lt b.last_word a.first_word) [
        | inl lt ↦ inr lt
        | inr low ↦
            let left = le-leb (max a.first_word b.first_word) a.last_word (omega (arith, some, le)) in
            let right = le-leb (max a.first_word b.first_word) b.last_word (omega (arith, more, low)) in
            let both : shares_word a b ≡ true =
            ap (λ (t : Bool). t && nat_le (max a.first_word b.first_word) b.last_word) left ∙ right in
            absurd (let e = sym both ∙ none in cc)
      ]
    ]

-- and ranges of which one begins after the other
pub later_shares_none : (a b : SiteFields) → a.last_word < b.first_word → shares_word a b ≡ false
later_shares_none a b later = grind (arith, nat_tests, later)

-- it is the same the other way round
pub shares_swapped : (a b : SiteFields) → shares_word a b ≡ false → shares_word b a ≡ false
shares_swapped a b none = grind (arith, nat_tests, none)

same_bytes : (xs ys : List ℕ) → bytes_eq xs ys ≡ true → xs ≡ ys
same_bytes xs ys h = (bytes_eq-Decides xs ys).0 h

pub sites_apart : (a b : SiteFields) → sites_clash a b ≡ None → ArePairs a b
unfolding sites_clash
sites_apart a b h =
    let one = where_none (not (a.height == b.height)) Heights _ h in
    let two = where_none (not (bytes_eq a.master b.master)) Masters _ one.1 in
    let three = where_none (nat_lt a.last_word a.first_word) (NoWords 1) _ two.1 in
    let four = where_none (nat_lt b.last_word b.first_word) (NoWords 2) _ three.1 in
    let five = where_none (shares_word a b) (SharedWord (max a.first_word b.first_word)) None four.1 in
    record {
      heights = same_number a.height b.height (true_from_not (a.height == b.height) one.0);
      masters = same_bytes a.master b.master (true_from_not (bytes_eq a.master b.master) two.0);
      words = not_below a.last_word a.first_word three.0;
      words_more = not_below b.last_word b.first_word four.0;
      apart = five.0;
    }

where_no : (t : Bool) (clash : ClashKind) (next : Option ClashKind) → t ≡ false → clash_where t clash next ≡ next
where_no true clash next h = absurd cc
where_no false clash next h = refl

-- sites that have it don't clash
pub pairs_have_none : (a b : SiteFields) → ArePairs a b → sites_clash a b ≡ None
unfolding sites_clash
pairs_have_none a b is =
    where_no (not (a.height == b.height)) Heights _ (ap not (eq-eqb a.height b.height is.heights))
    ∙ where_no (not (bytes_eq a.master b.master)) Masters _ (ap not (equal_bytes a.master b.master is.masters))
    ∙ where_no (nat_lt a.last_word a.first_word) (NoWords 1) _ (le-ltb a.last_word a.first_word is.words)
    ∙ where_no (nat_lt b.last_word b.first_word) (NoWords 2) _ (le-ltb b.last_word b.first_word is.words_more)
    ∙ where_no (shares_word a b) (SharedWord (max a.first_word b.first_word)) None is.apart
