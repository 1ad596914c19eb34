-- What no clash in some periods says of each of them.
use Rattle.std.proofs.Common.{arith, ◌≡◌, ℕ, zero, suc, ◌+◌, ◌<◌, ◌≤◌, Bool, true, false}
use Rattle.std.proofs.Common.{Option, Some, None, refl, sym, ap, ◌∙◌, inl, inr}
use Rattle.std.specs.Option.{option_map, option_or}
use Rattle.std.specs.List.{range_with_len}
use Rattle.std.proofs.lemmas.Bool.{cases_lt}
use Rattle.sd_command_base.specs.declared.status.Clash.{Clash as ClashKind}
use Rattle.sd_command_base.specs.declared.status.Clash.TheVariants.{Books}
use Rattle.sd_run_books.specs.Apart.{clash_where, first_of}

pub either_none : (o p : Option ClashKind) → option_or o p ≡ None → (o ≡ None) × (p ≡ None)
either_none None p h = (refl, h)
either_none (Some clash) p h = absurd cc

-- no clash by this test or the next ones
pub where_none : (t : Bool) (clash : ClashKind) (next : Option ClashKind) → clash_where t clash next ≡ None →
    (t ≡ false) × (next ≡ None)
where_none true clash next h = absurd cc
where_none false clash next h = (refl, h)

-- each period has none
pub none_in : (clash : ℕ → Option ClashKind) (a n q : ℕ) → first_of clash (range_with_len a n) ≡ None → a ≤ q →
    q < a + n → clash q ≡ None
none_in clash a zero q h low high = absurd (omega (arith, low, high))
none_in clash a (suc n) q h low high =
    let both = either_none (clash a) (first_of clash (range_with_len (a + 1) n)) h in
    elim (cases_lt a q) [
      | inl lt ↦ none_in clash (a + 1) n q both.1 (omega (arith, lt)) (omega (arith, high))
      | inr le ↦
          let same : a ≡ q = omega (arith, low, le) in
          ap clash (sym same) ∙ both.0
    ]

pub no_leaf : (q : ℕ) (found : Option ℕ) → option_map (λ u. Books u q) found ≡ None → found ≡ None
no_leaf q None h = refl
no_leaf q (Some u) h = absurd cc

-- and if each has none, there is none
pub none_of : (clash : ℕ → Option ClashKind) (a n : ℕ) → ((q : ℕ) → a ≤ q → q < a + n → clash q ≡ None) →
    first_of clash (range_with_len a n) ≡ None
none_of clash a zero each = refl
none_of clash a (suc n) each =
    ap (λ (o : Option ClashKind). option_or o (first_of clash (range_with_len (a + 1) n)))
    (each a (omega arith) (omega arith))
    ∙ none_of clash (a + 1) n (λ q low high. each q (omega (arith, low)) (omega (arith, high)))

-- the first period that has one
pub record IsFirstWith (clash : ℕ → Option ClashKind) (a n : ℕ) (found : ClashKind) : Type 0 where
  pub q : ℕ
  pub low : a ≤ q
  pub high : q < a + n
  pub has : clash q ≡ Some found
  pub before : (p : ℕ) → a ≤ p → p < q → clash p ≡ None

first_more : (clash : ℕ → Option ClashKind) (a n : ℕ) (found : ClashKind) → clash a ≡ None →
    IsFirstWith clash (a + 1) n found → IsFirstWith clash a (suc n) found
first_more clash a n found none rest = record {
  q = rest.q;
  low = omega (arith, rest.low);
  high = omega (arith, rest.high);
  has = rest.has;
  before = λ p low below. elim (cases_lt a p) [
    | inl lt ↦ rest.before p (omega (arith, lt)) below
    | inr le ↦
        let same : p ≡ a = omega (arith, low, le) in
        ap clash same ∙ none
  ];
}

pub first_with : (clash : ℕ → Option ClashKind) (a n : ℕ) (found : ClashKind) →
    first_of clash (range_with_len a n) ≡ Some found → IsFirstWith clash a n found
first_with clash a zero found h = absurd cc
first_with clash a (suc n) found h = by_first (clash a) refl (first_with clash (a + 1) n found) h
  where
    by_first : (o : Option ClashKind) → clash a ≡ o →
        (first_of clash (range_with_len (a + 1) n) ≡ Some found → IsFirstWith clash (a + 1) n found) →
        option_or o (first_of clash (range_with_len (a + 1) n)) ≡ Some found → IsFirstWith clash a (suc n) found
    by_first None e rest h = first_more clash a n found e (rest h)
    by_first (Some one) e rest h = record {
      q = a;
      low = omega arith;
      high = omega arith;
      has = e ∙ h;
      before = λ p low below. absurd (omega (arith, low, below));
    }

-- the receiver and the period that are told are those that were found
pub leaf_of : (p : ℕ) (found : Option ℕ) (clash : ClashKind) → option_map (λ u. Books u p) found ≡ Some clash →
    (u : ℕ) × (clash ≡ Books u p) × (found ≡ Some u)
leaf_of p None clash h = absurd cc
leaf_of p (Some u) clash h = (u, (let e : clash ≡ Books u p = cc in e), refl)
