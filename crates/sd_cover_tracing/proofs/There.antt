-- There is a chain cover: the list of the sets by the nodes that begin chains.
use Rattle.std.proofs.Common.{◌≡◌, ◌≢◌, inl, inr, ℕ, suc, zero, ◌+◌, ◌-◌, ◌*◌, ◌/◌, ◌^◌, ◌<◌, ◌≤◌, Bool, true}
use Rattle.std.proofs.Common.{false, ◌||◌, nat_eq, Decides, List, [], ◌∷◌, Contains, All}
use Rattle.std.proofs.Common.{get_or, map, filter, eq-eqb, eqb-true, ne_eqb, arith, ap, subst, sym, ◌∙◌, refl, ◌↔◌}
use Rattle.std.proofs.Common.{if◌then◌else◌}
use Rattle.std.specs.List.{list_any, range_with_len}
use Rattle.std.specs.declared.cmp.Ordering.TheVariants.{Less}
use Rattle.std.proofs.Math.Pow.{pow_mono}
use Rattle.std.proofs.lemmas.Bool.{cases_Bool, and_parts, and_from, cases_lt}
use Rattle.std.proofs.lemmas.Bool.Decides.{nat_tests, eqb_tells, same_from_decides}
use Rattle.std.proofs.lemmas.Nat.{pow_pos}
use Rattle.std.proofs.lemmas.List.Elements.{Contains-get_or, All-contains}
use Rattle.std.proofs.lemmas.List.Kept.{AllPairs-cons}
use Rattle.sd_base.proofs.Lists.{any_there}
use Rattle.sd_base.proofs.Ranges.{range_has, in_range}
use Rattle.sd_tree_keys.specs.declared.height.TheConstants.{HIGHEST}
use Rattle.sd_tree_keys.specs.Node.{depth}
use Rattle.sd_tree_keys.specs.Leaves.{is_below}
use Rattle.sd_tree_keys.specs.Paths.{sibling_of}
use Rattle.sd_tree_keys.specs.SetNames.{set_cmp, AreAscending}
use Rattle.sd_tree_keys.specs.declared.set.SetName.{SetName}
use Rattle.sd_tree_keys.specs.declared.set.SetName.TheVariants.{Whole, Diff}
use Rattle.sd_tree_keys.proofs.Levels.{depth_at, doubled}
use Rattle.sd_tree_keys.proofs.Ancestors.{node_level, above_from_below}
use Rattle.sd_cover_tracing.specs.Chains.{IsInTree, IsChainHead, IsOfChain, EndsChain, IsChainCover}
use Rattle.sd_cover_tracing.specs.Cover.{is_inside, chain_end, chain_end_of, begins_chain, set_from, nodes, cover_by}
use Rattle.sd_cover_tracing.specs.Cover.{cover_of}
use Rattle.sd_cover_tracing.specs.Walk.{node_at, ChainEndsAt}
use Rattle.sd_cover_tracing.proofs.Lists.{member_cases, member_first, member_later, no_member}
use Rattle.sd_cover_tracing.proofs.Names.{one_cover}
use Rattle.sd_cover_tracing.proofs.Ends.{AreLeaves, within_tree, sibling_cases, linked_start, end_leads, end_leads_only}
use Rattle.sd_cover_tracing.proofs.Ends.{leads_from_child, leads_to_child, chain_leads, chain_from_leads}
use Rattle.sd_cover_tracing.specs.Walk.{StandsAt}
use Rattle.sd_cover_tracing.proofs.Levels.{child_stands, below_by_halvings, in_tree_to, in_tree_from, in_tree_or}
use Rattle.sd_cover_tracing.proofs.TreeWalks.{no_child, root_in_tree}

-- a test that a list passes is passed by a member
passed_by : {X : Type 0} (p : X → Bool) (xs : List X) → list_any p xs ≡ true → (x : X) × Contains xs x × (p x ≡ true)
passed_by p [] e = absurd (cc)
passed_by p (x ∷ xs) e = elim (cases_Bool (p x)) [
  | inl yes' ↦ (x, member_first x xs, yes')
  | inr no' ↦ let rest = passed_by p xs (sym (rw no' refl) ∙ e) in (rest.0, member_later x xs rest.0 rest.1, rest.2)
]

-- a node of a tree of height d stands so many steps above the leaves
pub stands_by_number : (d v : ℕ) → d < 32 → 1 ≤ v → v < 2 ^ (d + 1) → StandsAt d (d - depth v) v
stands_by_number d v small low high =
    let n = node_level v low in
    let within : n.0 ≤ d = elim (cases_lt d n.0) [
      | inl more ↦ absurd (omega (arith, pow_mono {i = d + 1} {j = n.0} (omega arith), n.1.low))
      | inr le ↦ le
    ] in
    let is = depth_at v n.0 (omega arith) n.1 in
    let back : d - (d - n.0) ≡ n.0 = omega arith in
    rw is (record { within = omega arith; at = rw back n.1 })

-- the members of a list's part, each put through f
member_of_map : {X Y : Type 0} (f : X → Y) (p : X → Bool) (xs : List X) (y : Y) →
    Contains (map f (filter p xs)) y → (x : X) × Contains xs x × (p x ≡ true) × (f x ≡ y)
member_of_map f p [] y m = absurd (no_member y m)
member_of_map f p (x ∷ xs) y m = elim (cases_Bool (p x)) [
  | inl yes' ↦ elim (member_cases (f x) (map f (filter p xs)) y (rw yes' at m)) [
    | inl same ↦ (x, member_first x xs, yes', same)
    | inr later ↦ let rest = member_of_map f p xs y later in (rest.0, member_later x xs rest.0 rest.1, rest.2, rest.3)
  ]
  | inr no' ↦ let rest =
      member_of_map f p xs y (rw no' at m) in (rest.0, member_later x xs rest.0 rest.1, rest.2, rest.3)
]

map_has_member : {X Y : Type 0} (f : X → Y) (p : X → Bool) (xs : List X) (x : X) → Contains xs x → p x ≡ true →
    Contains (map f (filter p xs)) (f x)
map_has_member f p [] x m e = absurd (no_member x m)
map_has_member f p (y ∷ ys) x m e = elim (member_cases y ys x m) [
  | inl same ↦ let is : p y ≡ true = ap p same ∙ e in
      rw is (subst (Contains (f y ∷ map f (filter p ys))) (ap f same) (member_first (f y) (map f (filter p ys))))
  | inr later ↦ elim (cases_Bool (p y)) [
    | inl yes' ↦ rw yes' (member_later (f y) (map f (filter p ys)) (f x) (map_has_member f p ys x later e))
    | inr no' ↦ rw no' (map_has_member f p ys x later e)
  ]
]

-- ascending names after one that stands before each of them ascend with it
begins_ascending : (x : SetName) (xs : List SetName) →
    ((y : SetName) → Contains xs y → set_cmp x y ≡ Less) → AreAscending xs → AreAscending (x ∷ xs)
begins_ascending x xs first up =
    AllPairs-cons (λ a b. set_cmp a b ≡ Less) x xs (λ k d within. first (get_or xs k d) (Contains-get_or xs k d within))
    up

-- a pair with a lower first number stands before another
pair_before : (i j k l : ℕ) → i < k → set_cmp (Diff i j) (Diff k l) ≡ Less
pair_before i j k l h = grind (arith, nat_tests)

-- sets by their first nodes ascend
ascending_by_first : (f : ℕ → ℕ) (p : ℕ → Bool) (a n : ℕ)
    → AreAscending (map (λ v. Diff v (f v)) (filter p (range_with_len a n)))
ascending_by_first f p a zero = λ i j x below within. absurd (omega arith)
ascending_by_first f p a (suc n) =
    let rest = ascending_by_first f p (a + 1) n in
    elim (cases_Bool (p a)) [
      | inl yes' ↦ rw yes'
          (begins_ascending (Diff a (f a)) (map (λ v. Diff v (f v)) (filter p (range_with_len (a + 1) n))) first rest)
      | inr no' ↦ rw no' rest
    ]
  where
    first : (y : SetName) → Contains (map (λ v. Diff v (f v)) (filter p (range_with_len (a + 1) n))) y
        → set_cmp (Diff a (f a)) y ≡ Less
    first y m =
        let of' = member_of_map (λ v. Diff v (f v)) p (range_with_len (a + 1) n) y m in
        let within = in_range (a + 1) n of'.0 of'.1 in
        subst (λ (z : SetName). set_cmp (Diff a (f a)) z ≡ Less) of'.3
        (pair_before a (f a) of'.0 (f of'.0) (omega (arith, within.0)))

module _ (d : ℕ) (revoked : List ℕ) (small : d < 32) (leaves : AreLeaves d revoked) where
  -- the test tells the nodes of the tree
  pub inside_tells : (level v : ℕ) → StandsAt d level v → Decides (is_inside d revoked v) (IsInTree d revoked v)
  unfolding is_inside
  inside_tells level v at = (
    λ e.
        let u = passed_by (is_below d v) revoked e in
        let is = eqb-true (node_at d level u.0) v (sym (below_by_halvings d level v u.0 small at) ∙ u.2) in
        in_tree_from d level v u.0 revoked at u.1 is,
    λ t.
        let to = in_tree_to d level v revoked leaves at t in
        any_there (is_below d v) revoked to.0 to.1 (below_by_halvings d level v to.0 small at
        ∙ eq-eqb (node_at d level to.0) v to.2),
  )

  -- it fails at the others
  outside : (level v : ℕ) → StandsAt d level v → (IsInTree d revoked v → ⊥) → is_inside d revoked v ≡ false
  outside level v at none = elim (cases_Bool (is_inside d revoked v)) [
    | inl yes' ↦ absurd (none ((inside_tells level v at).0 yes'))
    | inr no' ↦ no'
  ]

  -- a chain from v leads to its end
  leads_there : (level v : ℕ) → StandsAt d level v → IsInTree d revoked v
      → ChainEndsAt d revoked v (chain_end (is_inside d revoked) level v)
  leads_there zero v at t =
      let to = in_tree_to d 0 v revoked leaves at t in
      let is : (2 ^ d + to.0) / 1 ≡ v = to.2 in
      end_leads d revoked v t (inl (to.0, to.1, omega arith))
  leads_there (suc level) v at t =
      let a = child_stands d level v (2 * v) at (omega arith) in
      let b = child_stands d level v (2 * v + 1) at (omega arith) in
      elim (in_tree_or d level (2 * v) revoked leaves a) [
        | inl l ↦ elim (in_tree_or d level (2 * v + 1) revoked leaves b) [
          | inl r ↦ rw (
            (inside_tells level (2 * v) a).1 l,
            (inside_tells level (2 * v + 1) b).1 r,
          ) (end_leads d revoked v t (inr (l, r)))
          | inr r ↦ rw ((inside_tells level (2 * v) a).1 l, outside level (2 * v + 1) b r)
              (leads_from_child d revoked v (2 * v) (chain_end (is_inside d revoked) level (2 * v)) t (inl (l, r))
              (omega arith) (leads_there level (2 * v) a l))
        ]
        | inr l ↦ elim (in_tree_or d level (2 * v + 1) revoked leaves b) [
          | inl r ↦ rw (outside level (2 * v) a l)
              (leads_from_child d revoked v (2 * v + 1) (chain_end (is_inside d revoked) level (2 * v + 1)) t
              (inr (l, r)) (omega arith) (leads_there level (2 * v + 1) b r))
          | inr r ↦ absurd (no_child d revoked small leaves level v at t l r)
        ]
      ]

  -- and nowhere else
  leads_only : (level v j : ℕ) → StandsAt d level v → ChainEndsAt d revoked v j
      → j ≡ chain_end (is_inside d revoked) level v
  leads_only zero v j at lead =
      let t = linked_start d revoked lead.nodes v lead.linked in
      let to = in_tree_to d 0 v revoked leaves at t in
      let is : (2 ^ d + to.0) / 1 ≡ v = to.2 in
      end_leads_only d revoked v j leaves (inl (to.0, to.1, omega arith)) lead
  leads_only (suc level) v j at lead =
      let t = linked_start d revoked lead.nodes v lead.linked in
      let a = child_stands d level v (2 * v) at (omega arith) in
      let b = child_stands d level v (2 * v + 1) at (omega arith) in
      elim (in_tree_or d level (2 * v) revoked leaves a) [
        | inl l ↦ elim (in_tree_or d level (2 * v + 1) revoked leaves b) [
          | inl r ↦ rw (
            (inside_tells level (2 * v) a).1 l,
            (inside_tells level (2 * v + 1) b).1 r,
          ) (end_leads_only d revoked v j leaves (inr (l, r)) lead)
          | inr r ↦ rw ((inside_tells level (2 * v) a).1 l, outside level (2 * v + 1) b r)
              (leads_only level (2 * v) j a
              (leads_to_child d revoked v (2 * v) j leaves (inl (l, r)) (omega arith) l lead))
        ]
        | inr l ↦ elim (in_tree_or d level (2 * v + 1) revoked leaves b) [
          | inl r ↦ rw (outside level (2 * v) a l)
              (leads_only level (2 * v + 1) j b
              (leads_to_child d revoked v (2 * v + 1) j leaves (inr (l, r)) (omega arith) r lead))
          | inr r ↦ absurd (no_child d revoked small leaves level v at t l r)
        ]
      ]

  -- the test tells each node
  pub tells : (v : ℕ) → 1 ≤ v → Decides (is_inside d revoked v) (IsInTree d revoked v)
  unfolding is_inside
  tells v low = (
    λ e. let u = passed_by (is_below d v) revoked e in (low, (u.0, u.1, above_from_below d v u.0 u.2)),
    λ t.
        let high = within_tree d revoked v leaves t in
        (inside_tells (d - depth v) v (stands_by_number d v small low (omega (arith, doubled d)))).1 t,
  )

  -- a chain of more than one node begins where the test says so, and ends at its end
  begun : (v : ℕ) → 1 ≤ v → v < 2 ^ (d + 1) → begins_chain d (is_inside d revoked) v ≡ true
      → EndsChain d revoked v (chain_end_of d (is_inside d revoked) v)
  unfolding begins_chain chain_end_of
  begun v low high e =
      let all = and_parts _ _ e in
      let rest = and_parts _ _ all.1 in
      let at = stands_by_number d v small low high in
      chain_from_leads d revoked v (chain_end (is_inside d revoked) (d - depth v) v) (head rest.0)
      (leads_there (d - depth v) v at ((tells v low).0 all.0))
      (λ same. let is =
      eq-eqb (chain_end (is_inside d revoked) (d - depth v) v) v (sym same) in absurd (let no' = rest.1 in cc))
    where
      sibling_low : 2 ≤ v → 1 ≤ sibling_of v
      sibling_low more = elim (sibling_cases v) [
        | inl left ↦ omega (arith, left.2)
        | inr right ↦ omega (arith, right.1, right.2)
      ]

      head : (nat_eq v 1 || is_inside d revoked (sibling_of v)) ≡ true → IsChainHead d revoked v
      head h = elim (eqb_tells v 1) [
        | inl same ↦ inl same.1
        | inr other ↦
            let apart = other.1 in
            inr ((tells (sibling_of v) (sibling_low (omega arith))).0 (sym (rw other.0 refl) ∙ h))
      ]

  -- each chain of more than one node begins where the test says so, and ends at its end
  found : (i j : ℕ) → EndsChain d revoked i j → Contains (nodes d) i × (begins_chain d (is_inside d revoked) i ≡ true)
      × (j ≡ chain_end_of d (is_inside d revoked) i)
  unfolding begins_chain chain_end_of
  found i j c =
      let t = linked_start d revoked c.nodes i c.linked in
      let low : 1 ≤ i = t.0 in
      let high : i < 2 ^ (d + 1) = omega (arith, doubled d, within_tree d revoked i leaves t) in
      let lead = chain_leads d revoked i j c in
      let is = leads_only (d - depth i) i j (stands_by_number d i small low high) lead.0 in (
        range_has 1 (2 ^ (d + 1) - 1) i low (omega arith),
        and_from _ _ ((tells i low).1 t)
            (and_from _ _ (head c.head)
            (rw (ne_eqb (chain_end (is_inside d revoked) (d - depth i) i) i (λ e. lead.1 (sym (is ∙ e)))) refl)),
        is,
      )
    where
      head : IsChainHead d revoked i → (nat_eq i 1 || is_inside d revoked (sibling_of i)) ≡ true
      head (inl root) = rw (eq-eqb i 1 root) refl
      head (inr beside) = rw ((tells (sibling_of i) beside.0).1 beside) (either (nat_eq i 1))
        where
          either : (b : Bool) → (b || true) ≡ true
          either true = refl
          either false = refl

  -- the sets of the definition are those of the chains
  names_chains : (name : SetName)
      → Contains (map (set_from d (is_inside d revoked)) (filter (begins_chain d (is_inside d revoked)) (nodes d))) name
      ↔ IsOfChain d revoked name
  names_chains name = (there name, back name)
    where
      there : (name : SetName)
          → Contains (map (set_from d (is_inside d revoked)) (filter (begins_chain d (is_inside d revoked)) (nodes d)))
          name → IsOfChain d revoked name
      there name m =
          let of' =
          member_of_map (set_from d (is_inside d revoked)) (begins_chain d (is_inside d revoked)) (nodes d) name m
          in
          let within = in_range 1 (2 ^ (d + 1) - 1) of'.0 of'.1 in
          subst (IsOfChain d revoked) of'.3 (begun of'.0 within.0 (omega (arith, within.0, within.1)) of'.2)

      back : (name : SetName) → IsOfChain d revoked name
          → Contains (map (set_from d (is_inside d revoked)) (filter (begins_chain d (is_inside d revoked)) (nodes d)))
          name
      back Whole c = absurd c
      back (Diff i j) c =
          let f = found i j c in
          let m = map_has_member (set_from d (is_inside d revoked)) (begins_chain d (is_inside d revoked)) (nodes d) i
          f.0 f.1 in
          rw f.2 m

-- the list of the definition is a chain cover
pub list_is_cover : (d : ℕ) (revoked : List ℕ) → d < 32 → AreLeaves d revoked
    → IsChainCover d revoked (cover_of d revoked)
unfolding cover_of cover_by is_inside
list_is_cover d [] small leaves = record {
  ascending = begins_ascending Whole [] (λ y m. absurd (no_member y m)) (λ i j d below within. absurd (omega arith));
  none_revoked = λ e. refl;
  chains = λ some. absurd (some refl);
}
list_is_cover d (u ∷ us) small leaves =
    let some : u ∷ us ≢ [] = λ e. absurd (cc) in
    let root = (tells d (u ∷ us) small leaves 1 (omega arith)).1 (root_in_tree d (u ∷ us) leaves some) in
    subst (λ (b : Bool). IsChainCover d (u ∷ us)
    (if b then map (set_from d (is_inside d (u ∷ us))) (filter (begins_chain d (is_inside d (u ∷ us))) (nodes d))
    else Whole ∷ [])) (sym root) (record {
      ascending =
          ascending_by_first (chain_end_of d (is_inside d (u ∷ us))) (begins_chain d (is_inside d (u ∷ us))) 1
          (2 ^ (d + 1) - 1);
      none_revoked = λ e. absurd (some e);
      chains = λ some' name. names_chains d (u ∷ us) small leaves name;
    })

-- it is that list alone
pub the_cover : (d : ℕ) (revoked : List ℕ) (sets : List SetName) → d < 32 → AreLeaves d revoked
    → IsChainCover d revoked sets ↔ (sets ≡ cover_of d revoked)
the_cover d revoked sets small leaves = (
  λ cover. one_cover d revoked sets (cover_of d revoked) cover (list_is_cover d revoked small leaves),
  λ e. subst (IsChainCover d revoked) (sym e) (list_is_cover d revoked small leaves),
)

-- a chain cover of leaves of a tree is the list of the definition
pub as_listed : (d : ℕ) (revoked : List ℕ) (sets : List SetName) → d ≤ HIGHEST → All (λ u. u < 2 ^ d) revoked
    → IsChainCover d revoked sets
    → (sets ≡ cover_of d revoked) × IsChainCover d revoked sets
as_listed d revoked sets small leaves cover =
    ((the_cover d revoked sets (omega arith) (λ u m. All-contains (λ w. w < 2 ^ d) revoked u leaves m)).0 cover, cover)

module _ (d : ℕ) (f g : ℕ → Bool) (small : d < 32) (agree : (v : ℕ) → 1 ≤ v → v < 2 ^ (d + 1) → f v ≡ g v) where
  -- tests that agree at the nodes agree where a node stands
  agree_at : (level v : ℕ) → StandsAt d level v → f v ≡ g v
  agree_at level v at =
      let low = at.at.low in
      let high = at.at.high in
      let within = at.within in
      let some = pow_pos (d - level) in
      agree v (omega arith) (omega (arith, pow_mono {i = d - level + 1} {j = d + 1} (omega arith)))

  -- so do the ends of chains
  ends_agree : (level v : ℕ) → StandsAt d level v → chain_end f level v ≡ chain_end g level v
  ends_agree zero v at = refl
  ends_agree (suc level) v at =
      let a = child_stands d level v (2 * v) at (omega arith) in
      let b = child_stands d level v (2 * v + 1) at (omega arith) in
      rw (
        agree_at level (2 * v) a,
        agree_at level (2 * v + 1) b,
        ends_agree level (2 * v) a,
        ends_agree level (2 * v + 1) b,
      ) refl

  -- and where they begin
  begin_alike : (v : ℕ) → 1 ≤ v → v < 2 ^ (d + 1) → begins_chain d f v ≡ begins_chain d g v
  unfolding begins_chain chain_end_of
  begin_alike v low high =
      rw (agree v low high, ends_agree (d - depth v) v (stands_by_number d v small low high), beside) refl
    where
      beside : (nat_eq v 1 || f (sibling_of v)) ≡ (nat_eq v 1 || g (sibling_of v))
      beside = elim (eqb_tells v 1) [
        | inl same ↦ rw same.0 refl
        | inr other ↦
            let apart = other.1 in
            let within : (1 ≤ sibling_of v) × (sibling_of v < 2 ^ (d + 1)) = elim (sibling_cases v) [
              | inl left ↦ (omega (arith, left.2), omega (arith, left.1, left.2, doubled d))
              | inr right ↦ (omega (arith, right.1, right.2), omega (arith, right.1, right.2))
            ] in
            rw (agree (sibling_of v) within.0 within.1) refl
      ]

  lists_agree : (xs : List ℕ) → ((v : ℕ) → Contains xs v → (1 ≤ v) × (v < 2 ^ (d + 1)))
      → map (set_from d f) (filter (begins_chain d f) xs) ≡ map (set_from d g) (filter (begins_chain d g) xs)
  unfolding chain_end_of
  lists_agree [] within = refl
  lists_agree (x ∷ xs) within =
      let here = within x (member_first x xs) in
      let rest = lists_agree xs (λ v m. within v (member_later x xs v m)) in
      let ends = ends_agree (d - depth x) x (stands_by_number d x small here.0 here.1) in
      rw (begin_alike x here.0 here.1) (elim (cases_Bool (begins_chain d g x)) [
        | inl yes' ↦ rw (yes', ends, rest) refl
        | inr no' ↦ rw (no', rest) refl
      ])

  -- tests that agree at the nodes of a tree have the same cover
  pub covers_agree : cover_by d f ≡ cover_by d g
  unfolding cover_by
  covers_agree =
      let lists =
      lists_agree (nodes d) (λ v m. let in' =
      in_range 1 (2 ^ (d + 1) - 1) v m in (in'.0, omega (arith, in'.0, in'.1))) in
      rw (agree 1 (omega arith) (omega (arith, doubled d, pow_pos d)), lists) refl

-- a leaf of one list below a node is of the other where it has the same leaves
inside_either : (d : ℕ) (a b : List ℕ) (v : ℕ) → ((u : ℕ) → Contains a u → Contains b u) → is_inside d a v ≡ true
    → is_inside d b v ≡ true
unfolding is_inside
inside_either d a b v has e = let u = passed_by (is_below d v) a e in any_there (is_below d v) b u.0 (has u.0 u.1) u.2

-- lists of the same leaves have the same cover
pub same_leaves : (d : ℕ) (a b : List ℕ) → d < 32 → ((u : ℕ) → Contains a u ↔ Contains b u)
    → cover_of d a ≡ cover_of d b
unfolding cover_of
same_leaves d a b small same = covers_agree d (is_inside d a) (is_inside d b) small (λ v low high.
    same_from_decides (is_inside d a v) (is_inside d b v)
    (inside_either d a b v (λ u. (same u).0), inside_either d b a v (λ u. (same u).1)) (λ e. e, λ e. e))
