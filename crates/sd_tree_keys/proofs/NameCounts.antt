-- How many names a leaf is given.
use Rattle.std.proofs.Common.{ℕ, suc, zero, ◌+◌, ◌-◌, ◌*◌, ◌/◌, ◌≡◌, length, refl, arith, length-append}
use Rattle.std.specs.List.{range_with_len, flat_map}
use Rattle.std.proofs.lemmas.List.Concat.{flat_map-cons}
use Rattle.std.proofs.lemmas.List.FromFn.{length-map-range_with_len}
use Rattle.sd_tree_keys.specs.declared.name.Name.TheVariants.{Pair}
use Rattle.sd_tree_keys.specs.Names.{names_of_receiver, pair_names_under}
use Rattle.sd_tree_keys.specs.Paths.{path_node, sibling_of}

-- an ancestor at depth a has a pair for each depth below it
pub length_given_under : (d u a : ℕ) → length (pair_names_under d u a) ≡ d - a
unfolding pair_names_under
length_given_under d u a =
    length-map-range_with_len (λ b. Pair (path_node d u a) (sibling_of (path_node d u b))) (a + 1) (d - a)

-- the n lowest ancestors have n + .. + 1 pairs
pub length_given_from : (d u a n : ℕ) → a + n ≡ d
    → 2 * length (flat_map (pair_names_under d u) (range_with_len a n)) ≡ n * (n + 1)
length_given_from d u a zero e = refl
length_given_from d u a (suc n) e =
    let rest = length_given_from d u (a + 1) n (omega arith) in
    rw (flat_map-cons (pair_names_under d u) a (range_with_len (a + 1) n))
    (omega (
      arith,
      length-append (pair_names_under d u a) (flat_map (pair_names_under d u) (range_with_len (a + 1) n)),
      length_given_under d u a,
      rest,
    ))

-- a leaf at depth d is given d + .. + 1 pairs and the whole set
pub length_given : (d u : ℕ) → length (names_of_receiver d u) ≡ d * (d + 1) / 2 + 1
unfolding names_of_receiver
length_given d u = omega (arith, length_given_from d u 0 d (omega arith))
