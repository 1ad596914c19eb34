-- Files beside a file that was made.
use Rattle.std.proofs.Common.{◌≡◌, ◌≢◌, ℕ, Bool, true, false, cond, List, Some, refl, ap, ◌∙◌}
use Rattle.std.specs.FinMap.{get, insert, get-insert}
use Rattle.std.specs.Str.{bytes_eq}
use Rattle.std.proofs.lemmas.Cmp.{nat_list_cmp_total, eq_by_cmp_equiv}
use Rattle.std.proofs.lemmas.Map.Text.{is_eq-slice_cmp}
use Rattle.std.proofs.lemmas.Slice.Eq.{bytes_eq-Decides}
use Rattle.sd_ports.specs.Files.{Files}

-- texts that differ are told apart
pub apart_texts : (a b : List ℕ) → a ≢ b → bytes_eq a b ≡ false
apart_texts a b other = by_test (bytes_eq a b) refl
  where
    by_test : (t : Bool) → bytes_eq a b ≡ t → t ≡ false
    by_test true e = absurd (other ((bytes_eq-Decides a b).0 e))
    by_test false e = refl

-- the file that was made is there
pub made_there : (files : Files) (name bytes : List ℕ) → get (insert files name bytes) name ≡ Some bytes
made_there files name bytes =
    get-insert nat_list_cmp_total files name bytes name
    ∙ ap (λ (c : Bool). cond c (Some bytes) (get files name)) ((eq_by_cmp_equiv nat_list_cmp_total).refl name)

-- and the others as before
pub others_stay : (files : Files) (name bytes other : List ℕ) → other ≢ name →
    get (insert files name bytes) other ≡ get files other
others_stay files name bytes other apart =
    get-insert nat_list_cmp_total files name bytes other
    ∙ ap (λ (c : Bool). cond c (Some bytes) (get files other))
    (is_eq-slice_cmp other name ∙ apart_texts other name apart)
