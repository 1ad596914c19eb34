-- Texts that are printed one after the other.
use Rattle.std.proofs.Common.{arith, ◌≡◌, ◌≢◌, ℕ, suc, zero, ◌+◌, ◌-◌, ◌<◌, ◌≤◌, List, [], ◌∷◌, ◌++◌, length, take}
use Rattle.std.proofs.Common.{append-nil, append_assoc, Option, Some, refl, ap, sym, subst, ◌∙◌, inl, inr, ◌↔◌}
use Rattle.std.proofs.Common.{take_all}
use Rattle.std.specs.Prelude.{IsNone}
use Rattle.std.specs.List.{concat}
use Rattle.std.specs.Io.KnownBytes.{Appends}
use Rattle.std.proofs.KnownBytes.{Appends-trans}
use Rattle.std.proofs.lemmas.Bool.{cases_lt}
use Rattle.std.proofs.lemmas.List.{take-append-le}
use Rattle.std.proofs.lemmas.List.Folds.{concat-append}
use Rattle.sd_base.specs.Count.{HasRisen}
use Rattle.sd_ports.specs.Bytes.{AppendsPrefix}
use Rattle.sd_command_base.specs.declared.status.Status.{Status}
use Rattle.sd_command_base.specs.declared.status.Status.TheVariants.{Done, NoMemory}
use Rattle.sd_command_base.specs.Outside.{PageState}
use Rattle.sd_command_base.specs.Prints.{PrintsWork, PrintsPiece}
use Rattle.sd_command_base.specs.Periods.{first_texts, printing_texts}

-- a period that is found is none after the last
pub is_inside : (last q : ℕ) → IsNone {T = ℕ} (Some 0) ↔ (last < q) → q ≤ last
is_inside last q end =
    elim (cases_lt last q) [
      | inl lt ↦ let none = end.1 lt in absurd (cc)
      | inr le ↦ le
    ]

-- a prefix after all of a first text is a prefix of both
prefix_after : (a b c : Option (List ℕ)) (first last : List ℕ) → Appends a b first → AppendsPrefix b c last →
    AppendsPrefix a c (first ++ last)
prefix_after a b c first last whole cut = (
  first ++ cut.0,
  (cut.1.0, append_assoc first cut.0 cut.1.0 ∙ ap (λ (xs : List ℕ). first ++ xs) cut.1.1),
  Appends-trans a b c first cut.0 whole cut.2,
)

-- a prefix of a first text is one of that with more after it
prefix_longer : (a b : Option (List ℕ)) (first more : List ℕ) → AppendsPrefix a b first →
    AppendsPrefix a b (first ++ more)
prefix_longer a b first more cut = (
  cut.0,
  (cut.1.0 ++ more, sym (append_assoc cut.0 cut.1.0 more) ∙ ap (λ (xs : List ℕ). xs ++ more) cut.1.1),
  cut.2,
)

-- the first n texts were printed
pub record ArePrinted (text : ℕ → List ℕ) (n : ℕ) (a b : PageState) : Type 0 where
  pub printed : Appends a.printed b.printed (concat (first_texts text n))
  pub calm : b.faults ≡ a.faults

next_text : (text : ℕ → List ℕ) (n : ℕ) → concat (first_texts text n) ++ text n ≡ concat (first_texts text (n + 1))
next_text text n =
    let more : suc n ≡ n + 1 = omega arith in
    sym (concat-append (first_texts text n) (text n ∷ [])
    ∙ ap (λ (xs : List ℕ). concat (first_texts text n) ++ xs) (append-nil (text n)))
    ∙ ap (λ (k : ℕ). concat (first_texts text k)) more

-- one text more
pub one_more : (text : ℕ → List ℕ) (n : ℕ) (a b c : PageState) → ArePrinted text n a b → PrintsPiece (text n) b c Done →
    ArePrinted text (n + 1) a c
one_more text n a b c before (inl (inl all)) = record {
  printed = subst (λ (xs : List ℕ). Appends a.printed c.printed xs) (next_text text n)
      (Appends-trans a.printed b.printed c.printed (concat (first_texts text n)) (text n) before.printed all.1);
  calm = all.2 ∙ before.calm;
}
one_more text n a b c before (inl (inr cut)) = absurd (let e = cut.0 in cc)
one_more text n a b c before (inr none) = absurd (let e = none.0 in cc)

-- after the first n texts stand m more
texts_on : (text : ℕ → List ℕ) (n m : ℕ) → (rest : List (List ℕ)) ×
    (first_texts text (n + m) ≡ first_texts text n ++ rest)
texts_on text n zero =
    let same : n + 0 ≡ n = omega arith in
    ([], ap (first_texts text) same ∙ sym (append-nil (first_texts text n)))
texts_on text n (suc m) =
    let before = texts_on text n m in
    let last = text (n + m) in
    let more : n + suc m ≡ suc (n + m) = omega arith in (
      before.0 ++ last ∷ [],
      ap (first_texts text) more ∙ ap (λ (ts : List (List ℕ)). ts ++ last ∷ []) before.1
          ∙ append_assoc (first_texts text n) before.0 (last ∷ []),
    )

-- so it is of all texts
all_texts : (text : ℕ → List ℕ) (last n : ℕ) → n ≤ last + 1 → (rest : List (List ℕ)) ×
    (first_texts text (last + 1) ≡ first_texts text n ++ rest)
all_texts text last n within =
    let more = texts_on text n (last + 1 - n) in
    let all : last + 1 ≡ n + (last + 1 - n) = omega (arith, within) in
    (more.0, ap (first_texts text) all ∙ more.1)

take_first : (texts rest : List (List ℕ)) → take (length texts) (texts ++ rest) ≡ texts
take_first texts rest =
    take-append-le (length texts) texts rest (omega arith) ∙ take_all (length texts) texts (omega arith)

-- some first texts were printed, and then memory was out
pub some_printed : (text : ℕ → List ℕ) (last n : ℕ) (a b : PageState) → n ≤ last + 1 → ArePrinted text n a b →
    PrintsWork (printing_texts text last) a b NoMemory
some_printed text last n a b within before =
    let texts = first_texts text n in
    let all = all_texts text last n within in
    inr (inl (
      refl,
      (
        length texts,
        subst (λ (ts : List (List ℕ)). Appends a.printed b.printed (concat ts))
            (sym (ap (take (length texts)) all.1 ∙ take_first texts all.0)) before.printed,
      ),
      before.calm,
    ))

-- a text that was not printed whole
pub one_failed : (text : ℕ → List ℕ) (last n : ℕ) (a b c : PageState) (status : Status) → n ≤ last →
    ArePrinted text n a b → status ≢ Done → PrintsPiece (text n) b c status →
    PrintsWork (printing_texts text last) a c status
one_failed text last n a b c status within before other (inl (inl all)) = absurd (other all.0)
one_failed text last n a b c status within before other (inl (inr cut)) =
    let texts = first_texts text (n + 1) in
    let all = all_texts text last (n + 1) (omega (arith, within)) in
    inr (inr (
      cut.0,
      subst (λ (xs : List ℕ). AppendsPrefix a.printed c.printed xs)
          (sym (ap concat all.1 ∙ concat-append texts all.0))
          (prefix_longer a.printed c.printed (concat texts) (concat all.0)
          (subst (λ (xs : List ℕ). AppendsPrefix a.printed c.printed xs) (next_text text n)
          (prefix_after a.printed b.printed c.printed (concat (first_texts text n)) (text n) before.printed cut.1))),
      subst (λ (k : ℕ). HasRisen k c.faults) before.calm cut.2,
    ))
one_failed text last n a b c status within before other (inr none) =
    subst (λ (s : Status). PrintsWork (printing_texts text last) a c s) (sym none.0)
    (subst (λ (z : PageState). PrintsWork (printing_texts text last) a z NoMemory) (sym none.1)
    (some_printed text last n a b (omega (arith, within)) before))
