-- What the files of a depot in memory are, after its calls.
use Rattle.std.proofs.Common.{◌≡◌, ℕ, List, [], ◌∷◌, Bool, true, false, cond, map, refl, ap, sym, subst, ◌∙◌}
use Rattle.std.proofs.Common.{string_bytes, String, Vec, MutBor}
use Rattle.std.specs.Prelude.{Option, None, Some, IsSome}
use Rattle.std.specs.Option.{option_map, option_copied_mut}
use Rattle.std.specs.Map.{lookup}
use Rattle.std.specs.Ordering.{nat_cmp, eq_by_cmp}
use Rattle.std.specs.Cmp.Lexicographic.{slice_cmp}
use Rattle.std.specs.String.{string_cmp}
use Rattle.std.specs.Str.{bytes_eq}
use Rattle.std.specs.FinMap.{find, get, empty, from_entries, insert, get-insert, get-from_entries, same_map}
use Rattle.std.specs.FinMap.{nat_cmp-IsAntisymmetric, slice_cmp-IsAntisymmetric}
use Rattle.std.specs.BTreeMap.{BTreeMap, is_at, get_by_text, Updates, UpdatesBy, WritesThrough}
use Rattle.std.specs.declared.alloc.Global.{Global}
use Rattle.std.proofs.lemmas.Cmp.{nat_list_cmp_total, eq_by_cmp_equiv}
use Rattle.std.proofs.lemmas.Map.Text.{btree_map_updates_text, is_eq-slice_cmp}
use Rattle.sd_ports_memory.specs.Memory.{told_files}

-- what the told entries have at a name is what the texts have there
find_told : (es : List (String Global × Vec ℕ Global)) (q : List ℕ)
    → find (slice_cmp nat_cmp) q (map (λ e. (string_bytes e.0, e.1.items)) es)
    ≡ option_map (λ b. b.items) (lookup (is_at (λ k. slice_cmp nat_cmp q (string_bytes k))) es)
find_told [] q = refl
find_told (e ∷ es) q =
    elim (eq_by_cmp (slice_cmp nat_cmp) q (string_bytes e.0)) as
    (λ b. cond b (Some e.1.items) (find (slice_cmp nat_cmp) q (map (λ e. (string_bytes e.0, e.1.items)) es))
    ≡ option_map (λ b. b.items) (cond b (Some e.1) (lookup (is_at (λ k. slice_cmp nat_cmp q (string_bytes k))) es)))
    [ true ↦ refl | false ↦ find_told es q ]

-- the told files have at a name what the texts have there
pub told_at : (m : BTreeMap (String Global) (Vec ℕ Global)) (q : List ℕ)
    → get (told_files m) q ≡ option_map (λ b. b.items) (get_by_text m q)
unfolding told_files
told_at m q = get-from_entries nat_list_cmp_total _ q ∙ find_told m.entries q

-- no text, no file
pub told_none : (m : BTreeMap (String Global) (Vec ℕ Global)) → m.entries ≡ [] → told_files m ≡ empty
unfolding told_files
told_none m e = ap (λ es. from_entries (map (λ e. (string_bytes e.0, e.1.items)) es)) e

-- the same texts, the same files
pub told_same : (m n : BTreeMap (String Global) (Vec ℕ Global)) → n.entries ≡ m.entries → told_files n ≡ told_files m
unfolding told_files
told_same m n e = ap (λ es. from_entries (map (λ e. (string_bytes e.0, e.1.items)) es)) e

-- the choice comes before or after the bytes are taken out
chosen : (b : Bool) (v : Vec ℕ Global) (o : Option (Vec ℕ Global))
    → option_map (λ b. b.items) (cond b (Some v) o) ≡ cond b (Some v.items) (option_map (λ b. b.items) o)
chosen true v o = refl
chosen false v o = refl

-- two names are one, whichever stands first
same_name : (name q : List ℕ) → bytes_eq name q ≡ eq_by_cmp (slice_cmp nat_cmp) q name
same_name name q = sym (is_eq-slice_cmp name q) ∙ (eq_by_cmp_equiv nat_list_cmp_total).symm name q

-- a text that has another value tells another file
told_update : (name : List ℕ) (m n : BTreeMap (String Global) (Vec ℕ Global)) (v : Vec ℕ Global)
    → UpdatesBy string_cmp (λ k. slice_cmp nat_cmp name (string_bytes k)) m n (Some v)
    → told_files n ≡ insert (told_files m) name v.items
told_update name m n v h = same_map nat_list_cmp_total (slice_cmp-IsAntisymmetric nat_cmp-IsAntisymmetric) _ _ (λ q.
    told_at n q ∙ ap (option_map (λ b. b.items)) (btree_map_updates_text name m n (Some v) h q)
    ∙ chosen (bytes_eq name q) v (get_by_text m q)
    ∙ ap (λ b. cond b (Some v.items) (option_map (λ b. b.items) (get_by_text m q))) (same_name name q)
    ∙ ap (cond (eq_by_cmp (slice_cmp nat_cmp) q name) (Some v.items)) (sym (told_at m q))
    ∙ sym (get-insert nat_list_cmp_total (told_files m) name v.items q))

-- a text that is set sets the told file
pub told_after : (key : String Global) (m n : BTreeMap (String Global) (Vec ℕ Global)) (v : Vec ℕ Global)
    → Updates string_cmp m n key (Some v) → told_files n ≡ insert (told_files m) (string_bytes key) v.items
told_after key m n v h = told_update (string_bytes key) m n v h

-- what is there as bytes is there as a vector
told_some : (o : Option (Vec ℕ Global)) → IsSome (option_map (λ b. b.items) o) → IsSome o
told_some None h = h
told_some (Some b) h = refl

-- a told file stands under its text
pub told_there : (m : BTreeMap (String Global) (Vec ℕ Global)) (name : List ℕ) → IsSome (get (told_files m) name)
    → IsSome (get_by_text m name)
told_there m name h = told_some (get_by_text m name) (subst (λ o. IsSome o) (told_at m name) h)

-- a text's value is lent where it stands
pub lent_there : (o : Option (MutBor (Vec ℕ Global))) (p : Option (Vec ℕ Global)) → option_copied_mut o ≡ p → IsSome p
    → IsSome o
lent_there None p e h = subst (λ o. IsSome o) (sym e) h
lent_there (Some b) p e h = refl

-- a value that is written in place of one that stands there sets the told file
pub told_written : (m n : BTreeMap (String Global) (Vec ℕ Global)) (name : List ℕ) (v : Vec ℕ Global)
    → IsSome (get (told_files m) name) → WritesThrough string_cmp (λ k. slice_cmp nat_cmp name (string_bytes k)) m v n
    → told_files n ≡ insert (told_files m) name v.items
told_written m n name v there h = told_update name m n v (h.3 (told_there m name there))
