-- Secrets one after another, as a file keeps them.
use Rattle.std.proofs.Common.{ℕ, ◌+◌, ◌*◌, ◌≡◌, List, [], ◌∷◌, ◌++◌, length, take, drop, sym, refl, ap, ◌∙◌}
use Rattle.std.proofs.Common.{arith}
use Rattle.std.specs.List.{concat}
use Rattle.std.proofs.lemmas.List.{append-nil, take_at, drop_at, length-append}
use Rattle.std.proofs.lemmas.List.Folds.{concat-append}
use Rattle.std.proofs.Math.Seq.{take-add}
use Rattle.sd_site_cards.specs.Files.{AreSecrets}

-- one secret more after those that are joined
pub concat_more : (secrets : List (List ℕ)) (secret : List ℕ) → concat secrets
    ++ secret ≡ concat (secrets ++ secret ∷ [])
concat_more secrets secret =
    sym (concat-append secrets (secret ∷ []) ∙ ap (λ (r : List ℕ). concat secrets ++ r) (append-nil secret))

-- and cut from a file
pub cut_more : (secrets : List (List ℕ)) (secret bytes : List ℕ) (k : ℕ) → concat secrets ≡ take (32 * k) bytes
    → secret ≡ take 32 (drop (32 * k) bytes) → concat (secrets ++ secret ∷ []) ≡ take (32 * (k + 1)) bytes
cut_more secrets secret bytes k so_far is =
    let more : 32 * (k + 1) ≡ 32 * k + 32 = omega arith in
    rw (more, ← concat_more secrets secret, so_far, is) (sym (take-add (32 * k) 32 bytes))

-- and it is long as the others are
pub long_more : (secrets : List (List ℕ)) (secret : List ℕ) → AreSecrets secrets → length secret ≡ 32
    → AreSecrets (secrets ++ secret ∷ [])
long_more [] secret long is = (is, tt)
long_more (s ∷ secrets) secret long is = (long.0, long_more secrets secret long.1 is)

-- the length of them all
pub length_joined : (secrets : List (List ℕ)) → AreSecrets secrets → length (concat secrets) ≡ 32 * length secrets
length_joined [] long = refl
length_joined (s ∷ secrets) long = length-append s (concat secrets)
    ∙ omega (arith, long.0, length_joined secrets long.1)

-- secrets that are joined alike are the same
pub joined_once : (ss ts : List (List ℕ)) → AreSecrets ss → AreSecrets ts → length ss ≡ length ts
    → concat ss ≡ concat ts → ss ≡ ts
joined_once [] [] long_s long_t count e = refl
joined_once [] (t ∷ ts) long_s long_t count e = absurd (omega arith)
joined_once (s ∷ ss) [] long_s long_t count e = absurd (omega arith)
joined_once (s ∷ ss) (t ∷ ts) long_s long_t count e =
    let first : s ≡ t = sym (take_at s (concat ss) 32 long_s.0)
    ∙ (ap (λ (r : List ℕ). take 32 r) e ∙ take_at t (concat ts) 32 long_t.0) in
    let others : concat ss ≡ concat ts = sym (drop_at s (concat ss) 32 long_s.0)
    ∙ (ap (λ (r : List ℕ). drop 32 r) e ∙ drop_at t (concat ts) 32 long_t.0) in
    let rest : ss ≡ ts = joined_once ss ts long_s.1 long_t.1 (omega arith) others in
    rw (first, rest) refl
