-- The texts of arguments, spelled out one after the other.
use Rattle.std.proofs.Common.{◌≡◌, ◌∙◌, ◌+◌, ◌<◌, ◌++◌, ℕ, Bool, true, false, List, [], ◌∷◌, suc, length, map, take}
use Rattle.std.proofs.Common.{drop}
use Rattle.std.proofs.Common.{arith, ap, refl, sym, append_assoc, drop-cons, get_or, codes, String, Global}
use Rattle.std.specs.Prelude.{bytes_eq, set, string_bytes}
use Rattle.std.proofs.lemmas.List.{drop-set-lt, get_or-map, length-map, map-set, take_more, take_more_set}
use Rattle.sd_command_line.specs.declared.operand.Operand.{Operand}
use Rattle.sd_command_line.specs.Spelled.{dash_of, spelled_text, spelled_texts}

-- the texts once the first are spelled out, if the others are then, too
abbrev spelled_on : List Operand → List (List ℕ) → ℕ → List (List ℕ)
spelled_on operands texts i = take i texts ++ spelled_texts (drop i operands) (drop i texts)

-- one text more is spelled out
spelled_more : (operands : List Operand) (texts more : List (List ℕ)) (i : ℕ) (o : Operand) (x : List ℕ) →
    i < length operands → i < length texts → x ≡ spelled_text (get_or operands i o) (get_or texts i []) →
    take (i + 1) more ≡ take i texts ++ x ∷ [] → drop (i + 1) more ≡ drop (i + 1) texts →
    spelled_on operands more (i + 1) ≡ spelled_on operands texts i
spelled_more operands texts more i o x low within is before after =
    let rest : List (List ℕ) = spelled_texts (drop (i + 1) operands) (drop (i + 1) texts) in
    let next : i + 1 ≡ suc i = omega arith in
    let text_on : get_or texts i [] ∷ drop (i + 1) texts ≡ drop i texts =
    ap (λ (n : ℕ). get_or texts i [] ∷ drop n texts) next ∙ sym (drop-cons texts i [] within) in
    let operand_on : get_or operands i o ∷ drop (i + 1) operands ≡ drop i operands =
    ap (λ (n : ℕ). get_or operands i o ∷ drop n operands) next ∙ sym (drop-cons operands i o low) in
    ap (λ (l : List (List ℕ)). l ++ spelled_texts (drop (i + 1) operands) (drop (i + 1) more)) before
    ∙ (ap (λ (l : List (List ℕ)). (take i texts ++ x ∷ []) ++ spelled_texts (drop (i + 1) operands) l) after
    ∙ (append_assoc (take i texts) (x ∷ []) rest
    ∙ (ap (λ (t : List ℕ). take i texts ++ t ∷ rest) is
    ∙ (ap (λ (l : List (List ℕ)). take i texts ++ spelled_texts (get_or operands i o ∷ drop (i + 1) operands) l) text_on
    ∙ ap (λ (l : List Operand). take i texts ++ spelled_texts l (drop i texts)) operand_on))))

abbrev bytes_in : List (String Global) → List (List ℕ)
bytes_in texts = map string_bytes texts

-- the text is `-`
pub dash_spelled : (operands : List Operand) (texts more : List (String Global)) (i : ℕ) (o : Operand)
    (d x : String Global) (b : Bool) → i < length operands → i < length texts →
    b ≡ bytes_eq (string_bytes (get_or texts i d)) (codes "-") → b ≡ true →
    string_bytes x ≡ dash_of (get_or operands i o) → more ≡ set texts i x →
    spelled_on operands (bytes_in more) (i + 1) ≡ spelled_on operands (bytes_in texts) i
dash_spelled operands texts more i o d x b low within test is dashed put =
    let bytes : List ℕ = string_bytes x in
    let long : length (bytes_in texts) ≡ length texts = length-map texts string_bytes in
    let at : get_or (bytes_in texts) i [] ≡ string_bytes (get_or texts i d) =
    get_or-map string_bytes texts i d [] within in
    let same : bytes_eq (get_or (bytes_in texts) i []) (codes "-") ≡ true =
    ap (λ (t : List ℕ). bytes_eq t (codes "-")) at ∙ (sym test ∙ is) in
    let set_so : bytes_in more ≡ set (bytes_in texts) i bytes =
    ap (λ (l : List (String Global)). bytes_in l) put ∙ map-set string_bytes texts i x in
    spelled_more operands (bytes_in texts) (bytes_in more) i o bytes low (omega (arith, long, within))
    (rw same dashed)
    (ap (λ (l : List (List ℕ)). take (i + 1) l) set_so
    ∙ take_more_set (bytes_in texts) i bytes (omega (arith, long, within)))
    (ap (λ (l : List (List ℕ)). drop (i + 1) l) set_so ∙ drop-set-lt (i + 1) (bytes_in texts) i bytes (omega arith))

-- the text is another one, and stays
pub other_spelled : (operands : List Operand) (texts more : List (String Global)) (i : ℕ) (o : Operand)
    (d : String Global) (b : Bool) → i < length operands → i < length texts →
    b ≡ bytes_eq (string_bytes (get_or texts i d)) (codes "-") → b ≡ false → more ≡ texts →
    spelled_on operands (bytes_in more) (i + 1) ≡ spelled_on operands (bytes_in texts) i
other_spelled operands texts more i o d b low within test is put =
    let long : length (bytes_in texts) ≡ length texts = length-map texts string_bytes in
    let at : get_or (bytes_in texts) i [] ≡ string_bytes (get_or texts i d) =
    get_or-map string_bytes texts i d [] within in
    let other : bytes_eq (get_or (bytes_in texts) i []) (codes "-") ≡ false =
    ap (λ (t : List ℕ). bytes_eq t (codes "-")) at ∙ (sym test ∙ is) in
    let same : bytes_in more ≡ bytes_in texts = ap (λ (l : List (String Global)). bytes_in l) put in
    spelled_more operands (bytes_in texts) (bytes_in more) i o (get_or (bytes_in texts) i []) low
    (omega (arith, long, within)) (rw other refl)
    (ap (λ (l : List (List ℕ)). take (i + 1) l) same
    ∙ take_more (bytes_in texts) i [] (omega (arith, long, within)))
    (ap (λ (l : List (List ℕ)). drop (i + 1) l) same)
