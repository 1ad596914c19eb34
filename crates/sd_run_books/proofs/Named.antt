-- The leaves of names in a map.
use Rattle.std.proofs.Common.{◌≡◌, ℕ, List, [], Option, ap, ◌∙◌}
use Rattle.std.proofs.lemmas.Map.Text.{is_eq-slice_cmp}
use Rattle.std.specs.Prelude.{bytes_eq, if◌then◌else◌}
use Rattle.std.specs.BTreeMap.{BTreeMap, Updates}
use Rattle.arrayvec.specs.ArrayString.{ArrayString}
use Rattle.sd_run_books.specs.Kept.{leaf_named, name_cmp}

-- after a change at a name, any bytes find the new leaf there, and elsewhere what they found before
pub leaf_updated : (old new : BTreeMap ArrayString ℕ) (name : ArrayString) (leaf : Option ℕ) →
    Updates name_cmp old new name leaf → (bytes : List ℕ) →
    leaf_named new bytes ≡ (if bytes_eq name.bytes bytes then leaf else leaf_named old bytes)
leaf_updated old new name leaf updates bytes =
    updates.0 (record { bytes = bytes; spare = [] }) ∙
    ap (λ same. if same then leaf else leaf_named old bytes) (is_eq-slice_cmp name.bytes bytes)
