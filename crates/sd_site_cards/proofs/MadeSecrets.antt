-- The secrets of a leaf, as they are made.
use Rattle.std.proofs.Common.{ℕ, zero, suc, ◌+◌, ◌-◌, ◌/◌, ◌^◌, ◌<◌, ◌≤◌, ◌≡◌, List, [], ◌∷◌, ◌++◌, take, map, sym}
use Rattle.std.proofs.Common.{length}
use Rattle.std.proofs.Common.{refl, ap, ◌∙◌, append_assoc, add-one, arith}
use Rattle.std.specs.List.{range_with_len, flat_map}
use Rattle.std.proofs.Math.Pow.{shr-shr}
use Rattle.std.proofs.lemmas.List.{append-nil, map-append}
use Rattle.std.proofs.lemmas.List.Concat.{flat_map-cons}
use Rattle.std.proofs.lemmas.List.FromFn.{map-range_with_len_more}
use Rattle.sha2.proofs.Facts256.{length-sha256}
use Rattle.sd_tree_keys.specs.Node.{depth, IsAbove}
use Rattle.sd_tree_keys.specs.Keys.{whole_key_of}
use Rattle.sd_tree_keys.specs.Labels.{left_of, right_of, third_of, side_of, label_of_node, label_below, descended}
use Rattle.sd_tree_keys.specs.Labels.{label_of}
use Rattle.sd_tree_keys.specs.declared.label.Side.{Side}
use Rattle.sd_tree_keys.specs.declared.label.Side.TheVariants.{Left, Right}
use Rattle.sd_tree_keys.proofs.Descents.{held_gives_label}
use Rattle.sd_tree_keys.proofs.Paths.{path_is_node}
use Rattle.sd_tree_keys.specs.Paths.{path_node, sibling_of}
use Rattle.sd_tree_keys.specs.Names.{pair_names_under}
use Rattle.sd_tree_keys.specs.declared.name.Name.{Name}
use Rattle.sd_tree_keys.specs.declared.name.Name.TheVariants.{Whole, Pair}
use Rattle.sd_site_cards.specs.Files.{AreSecrets}
use Rattle.sd_site_cards.specs.Secrets.{secret_of}

-- the labels of the ancestor at depth a with the first n hanging nodes below it
abbrev pub labels_under : List ℕ → ℕ → ℕ → ℕ → ℕ → List (List ℕ)
labels_under master d u a n =
    map (λ b. label_of master (path_node d u a) (sibling_of (path_node d u b))) (range_with_len (a + 1) n)

-- a path node's parent is the path node above it
pub path_half : (d u k : ℕ) → k + 1 ≤ d → path_node d u (k + 1) / 2 ≡ path_node d u k
path_half d u k le =
    let s : d - (k + 1) + 1 ≡ d - k = omega arith in
    shr-shr (2 ^ d + u) (d - (k + 1)) 1 ∙ ap (λ (n : ℕ). (2 ^ d + u) / 2 ^ n) s

-- a path node is above those k levels below it
pub path_over : (d u a k : ℕ) → a + k ≤ d → IsAbove (path_node d u a) (path_node d u (a + k))
path_over d u a k le =
    let s : d - (a + k) + k ≡ d - a = omega arith in
    (k, shr-shr (2 ^ d + u) (d - (a + k)) k ∙ ap (λ (n : ℕ). (2 ^ d + u) / 2 ^ n) s)

-- the label of a path node leads to that of each of its children
pub child_label : (master : List ℕ) (d u a k node : ℕ) → u < 2 ^ d → a + k ≤ d → node < 2 ^ 32
    → node / 2 ≡ path_node d u (a + k)
    → descended (label_of master (path_node d u a) (path_node d u (a + k))) (path_node d u (a + k)) node
    ≡ label_of master (path_node d u a) node
child_label master d u a k node leaf le word half =
    held_gives_label master (path_node d u a) (path_node d u (a + k)) node (path_is_node d u a leaf (omega arith)) word
    (path_over d u a k le) (1, half)

-- one more label after those that were given
pub one_more : (master : List ℕ) (d u a n b : ℕ) (before secrets : List (List ℕ)) → a + 1 + n ≡ b → secrets ≡ before
    ++ labels_under master d u a n → secrets
    ++ label_of master (path_node d u a) (sibling_of (path_node d u b)) ∷ [] ≡ before
    ++ labels_under master d u a (n + 1)
one_more master d u a n b before secrets at is =
    rw is (append_assoc before (labels_under master d u a n)
    (label_of master (path_node d u a) (sibling_of (path_node d u b)) ∷ [])
    ∙ ap (λ (xs : List (List ℕ)). before
    ++ xs) (sym
    (map-range_with_len_more (λ b. label_of master (path_node d u a) (sibling_of (path_node d u b))) (a + 1) n b
    at)))

-- all labels of an ancestor are the secrets of its pairs
pub labels_are_secrets : (master : List ℕ) (d u a s n : ℕ)
    → map (λ b. label_of master (path_node d u a) (sibling_of (path_node d u b))) (range_with_len s n)
    ≡ map (secret_of master) (map (λ b. Pair (path_node d u a) (sibling_of (path_node d u b))) (range_with_len s n))
unfolding secret_of
labels_are_secrets master d u a s zero = refl
labels_are_secrets master d u a s (suc n) =
    ap (λ (xs : List (List ℕ)). label_of master (path_node d u a) (sibling_of (path_node d u s)) ∷ xs)
    (labels_are_secrets master d u a (s + 1) n)

-- the first n of the values at numbers in a row
first_values : {X : Type 0} (f : ℕ → X) (s n m : ℕ) → n ≤ m
    → take n (map f (range_with_len s m)) ≡ map f (range_with_len s n)
first_values f s zero m le = refl
first_values f s (suc n) zero le = absurd (omega arith)
first_values f s (suc n) (suc m) le = ap (λ (xs : List _). f s ∷ xs) (first_values f (s + 1) n m (omega arith))

-- and these are the first of what the leaf is given under it
pub labels_given : (master : List ℕ) (d u a n : ℕ) → a + n ≤ d
    → labels_under master d u a n ≡ map (secret_of master) (take n (pair_names_under d u a))
unfolding pair_names_under
labels_given master d u a n le =
    labels_are_secrets master d u a (a + 1) n
    ∙ ap (map (secret_of master))
    (sym (first_values (λ b. Pair (path_node d u a) (sibling_of (path_node d u b))) (a + 1) n (d - a)
    (omega arith)))

-- ---- the secrets of all ancestors

-- the lists of one number more
lists_more : {X : Type 0} (f : ℕ → List X) (a k : ℕ)
    → flat_map f (range_with_len a (suc k)) ≡ flat_map f (range_with_len a k) ++ f (a + k)
lists_more f a zero = let e : a + 0 ≡ a = omega arith in rw (flat_map-cons f a [], e) (append-nil (f a))
lists_more f a (suc k) =
    let e : a + 1 + k ≡ a + suc k = omega arith in
    let rest = rw e at (lists_more f (a + 1) k) in
    rw (
      flat_map-cons f a (range_with_len (a + 1) (suc k)),
      flat_map-cons f a (range_with_len (a + 1) k),
      rest,
    ) (sym (append_assoc (f a) (flat_map f (range_with_len (a + 1) k)) (f (a + suc k))))

-- the whole set, and of the pairs of each of the first k ancestors as many as n says
abbrev pub names_first : (ℕ → ℕ) → ℕ → ℕ → ℕ → List Name
names_first n d u k = Whole ∷ flat_map (λ a. take (n a) (pair_names_under d u a)) (range_with_len 0 k)

-- the first secret alone
pub secrets_first : (master : List ℕ) (n : ℕ → ℕ) (d u : ℕ)
    → whole_key_of master ∷ [] ≡ map (secret_of master) (names_first n d u 0)
unfolding secret_of
secrets_first master n d u = refl

-- the secrets of one ancestor more
pub secrets_more : (master : List ℕ) (n : ℕ → ℕ) (d u k : ℕ) → map (secret_of master) (names_first n d u k)
    ++ map (secret_of master) (take (n k) (pair_names_under d u k)) ≡ map (secret_of master) (names_first n d u (k + 1))
secrets_more master n d u k =
    let e : 0 + k ≡ k = omega arith in
    let more = rw e at (lists_more (λ a. take (n a) (pair_names_under d u a)) 0 k) in
    rw add-one (rw more (sym (map-append (secret_of master) (names_first n d u k)
    (take (n k) (pair_names_under d u k)))))

-- a child's label has the length of a hash
length_third : (side : Side) (label : List ℕ) → length (third_of side label) ≡ 32
unfolding left_of right_of
length_third Left label = length-sha256 _
length_third Right label = length-sha256 _

-- so has each label below one that has it
length_below : (label : List ℕ) (k j : ℕ) → length label ≡ 32 → length (label_below label k j) ≡ 32
unfolding label_below
length_below label zero j long = long
length_below label (suc k) j long = length_third (side_of j) _

-- and so has each secret
length_secret : (master : List ℕ) (name : Name) → length (secret_of master name) ≡ 32
unfolding secret_of whole_key_of label_of_node descended label_of
length_secret master Whole = length-sha256 _
length_secret master (Pair i w) = length_below _ (depth w - depth i) w (length-sha256 _)

-- also where they are many
pub secrets_long : (master : List ℕ) (names : List Name) → AreSecrets (map (secret_of master) names)
secrets_long master [] = tt
secrets_long master (name ∷ names) = (length_secret master name, secrets_long master names)
