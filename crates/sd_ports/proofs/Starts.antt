-- Lists of bytes that begin others.
use Rattle.std.proofs.Common.{◌≡◌, ℕ, List, [], ◌++◌, take, drop, sym, ap, subst, ◌∙◌, append-nil, append_assoc}
use Rattle.std.specs.List.{concat}
use Rattle.std.proofs.lemmas.List.{take-append-drop}
use Rattle.std.proofs.lemmas.List.Folds.{concat-append}
use Rattle.sd_ports.specs.Bytes.{IsPrefix}

-- a prefix of a prefix is a prefix
pub prefix_of_prefix : (a b c : List ℕ) → IsPrefix a b → IsPrefix b c → IsPrefix a c
prefix_of_prefix a b c p q = (p.0 ++ q.0, sym (append_assoc a p.0 q.0) ∙ ap (λ (r : List ℕ). r ++ q.0) p.1 ∙ q.1)

-- a prefix stays one after the same first bytes
pub after_first : (first prefix part : List ℕ) → IsPrefix prefix part → IsPrefix (first ++ prefix) (first ++ part)
after_first first prefix part p = (p.0, append_assoc first prefix p.0 ∙ ap (λ (xs : List ℕ). first ++ xs) p.1)

-- and with nothing after it
pub nothing_after : (first bytes whole : List ℕ) → bytes ≡ [] → IsPrefix first whole → IsPrefix (first ++ bytes) whole
nothing_after first bytes whole none p =
    subst (λ (xs : List ℕ). IsPrefix xs whole) (sym (ap (λ (xs : List ℕ). first ++ xs) none ∙ append-nil first)) p

-- some first pieces are a prefix of all
pub pieces_first : (k : ℕ) (pieces : List (List ℕ)) → IsPrefix (concat (take k pieces)) (concat pieces)
pieces_first k pieces = (
  concat (drop k pieces),
  sym (concat-append (take k pieces) (drop k pieces)) ∙ ap concat
      (take-append-drop k pieces),
)
