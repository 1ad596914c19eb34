-- The map of a table.
use Rattle.std.proofs.Common.{◌==◌, if◌then◌else◌, lt-ltb, eq-eqb, ne_eqb, replicate, ◌++◌, ◌⊎◌, subst, length-set, ◌≡◌}
use Rattle.std.proofs.Common.{◌∙◌, ℕ, zero, suc, ◌+◌, ◌-◌, ◌<◌, ◌≤◌, ◌↔◌, List, [], ◌∷◌, length, get_or, set, nat_lt}
use Rattle.std.proofs.Common.{cond, arith, rules, max, take, sym, ap, refl, inl, inr}
use Rattle.std.specs.Prelude.{Option, Some, None, IsSome}
use Rattle.std.specs.Ordering.{nat_cmp}
use Rattle.std.specs.Cmp.{nat_cmp_total, unsigned_tied}
use Rattle.std.specs.Option.{unwrap_or}
use Rattle.std.specs.FinMap.{FinMap, empty, get, get-insert, get-remove, get-empty, same_map, nat_cmp-IsAntisymmetric}
use Rattle.std.proofs.lemmas.List.{get_or-set_same, get_or-set_other}
use Rattle.std.proofs.lemmas.Bool.{cond-true}
use Rattle.std.proofs.lemmas.Bool.Decides.{eqb_tells}
use Rattle.sd_cover_tracing.specs.Tally.{tally_at, with_count}
use Rattle.std.proofs.lemmas.List.Sums.{sum_by-set, count_by-le-length}
use Rattle.std.proofs.lemmas.List.Folds.{sum_by-replicate}
use Rattle.sd_cover_tracing.specs.Table.{map_from, map_of, used, IsProbeTable}
use Rattle.sd_cover_tracing.specs.declared.counts.TheConstants.{NODES, MOST_ROOM}

-- what a map has for a node that counts so
abbrev pub counted : ℕ → Option ℕ
counted zero = None
counted (suc n) = Some (suc n)

-- it has the count that was written, and the others as before
pub get_with_count : (m : FinMap nat_cmp ℕ) (v n q : ℕ) → get (with_count m v n) q ≡ cond (q == v) (counted n) (get m q)
get_with_count m v zero q = get-remove nat_cmp_total m v q ∙ ap (λ b. cond b None (get m q)) (unsigned_tied q v)
get_with_count m v (suc n) q = get-insert nat_cmp_total m v (suc n) q ∙ ap (λ b. cond b (Some (suc n)) (get m q))
    (unsigned_tied q v)

-- the map of a table that begins with the place of node v has what the table has at each later place
get_from : (v k : ℕ) (ns : List ℕ) → get (map_from v ns) (v + k) ≡ counted (get_or ns k 0)
get_from v k [] = get-empty nat_cmp (v + k)
get_from v zero (n ∷ ns) = get_with_count (map_from (v + 1) ns) v n (v + 0) ∙ rw (eq-eqb (v + 0) v (omega arith)) refl
get_from v (suc k) (n ∷ ns) =
    let e : v + suc k ≡ v + 1 + k = omega arith in
    get_with_count (map_from (v + 1) ns) v n (v + suc k) ∙ rw (ne_eqb (v + suc k) v (omega arith))
    (ap (get (map_from (v + 1) ns)) e ∙ get_from (v + 1) k ns)

pub get_table : (ns : List ℕ) (q : ℕ) → get (map_of ns) q ≡ counted (get_or ns q 0)
unfolding map_of
get_table ns q = let e : 0 + q ≡ q = omega arith in subst (λ (k : ℕ). get (map_from 0 ns) k ≡ counted (get_or ns q 0)) e
    (get_from 0 q ns)

pub count_counted : (n : ℕ) → unwrap_or (counted n) 0 ≡ n
count_counted zero = refl
count_counted (suc n) = refl

-- the count of a node is the number at its place
pub count_in_table : (ns : List ℕ) (q : ℕ) → tally_at (map_of ns) q ≡ get_or ns q 0
count_in_table ns q = ap (λ (o : Option ℕ). unwrap_or o 0) (get_table ns q) ∙ count_counted (get_or ns q 0)

-- tables with the same numbers have the same map
pub same_counts : (ns ms : List ℕ) → ((q : ℕ) → get_or ns q 0 ≡ get_or ms q 0) → map_of ns ≡ map_of ms
same_counts ns ms same = same_map nat_cmp_total nat_cmp-IsAntisymmetric (map_of ns) (map_of ms)
    (λ q. get_table ns q ∙ (ap counted (same q) ∙ sym (get_table ms q)))

-- an empty table has the empty map
pub no_table : map_of [] ≡ empty
unfolding map_of
no_table = refl

-- a table of zeros counts as none does
pub zeros_same : (n q : ℕ) → get_or {A = ℕ} (replicate n 0) q 0 ≡ (let z : ℕ = 0 in z)
zeros_same zero q = refl
zeros_same (suc n) zero = refl
zeros_same (suc n) (suc q) = zeros_same n q

-- a node that counts has a place
pub counted_within : (ns : List ℕ) (v : ℕ) → 0 < get_or ns v 0 → v < length ns
counted_within [] v h = absurd (omega arith)
counted_within (n ∷ ns) zero h = omega arith
counted_within (n ∷ ns) (suc v) h = let w = counted_within ns v h in omega arith

-- a number written at its place
written : (ns : List ℕ) (v n q : ℕ) → v < length ns → counted (get_or (set ns v n) q 0) ≡ cond (q == v) (counted n)
    (counted (get_or ns q 0))
written ns v n q h = elim (eqb_tells q v) [
  | inl same ↦
      ap counted (ap (λ (x : ℕ). get_or (set ns v n) x 0) same.1 ∙ get_or-set_same ns v n 0 h)
      ∙ sym (ap (λ b. cond b (counted n) (counted (get_or ns q 0))) same.0)
  | inr other ↦
      ap counted (get_or-set_other ns v q n 0 other.1)
      ∙ sym (ap (λ b. cond b (counted n) (counted (get_or ns q 0))) other.0)
]

pub map_after_write : (ns : List ℕ) (v n : ℕ) → v < length ns → map_of (set ns v n) ≡ with_count (map_of ns) v n
map_after_write ns v n h = same_map nat_cmp_total nat_cmp-IsAntisymmetric (map_of (set ns v n))
    (with_count (map_of ns) v n)
    (λ q. get_table (set ns v n) q ∙
    (written ns v n q h ∙ (ap (cond (q == v) (counted n)) (sym (get_table ns q)) ∙
    sym (get_with_count (map_of ns) v n q))))

-- what is in the map counts above 0
pub some_counted : (n : ℕ) → IsSome (counted n) ↔ (0 < n)
some_counted zero = (λ h. absurd (search rules), λ h. absurd (omega arith))
some_counted (suc n) = (λ h. omega arith, λ h. search rules)

pub in_map_counts : (ns : List ℕ) (v : ℕ) → IsSome (get (map_of ns) v) ↔ (0 < get_or ns v 0)
in_map_counts ns v = subst (λ (o : Option ℕ). IsSome o ↔ (0 < get_or ns v 0)) (sym (get_table ns v))
    (some_counted (get_or ns v 0))

-- how many places count after a write
pub used_after_write : (ns : List ℕ) (v n : ℕ) → v < length ns → used (set ns v n)
    + (if nat_lt 0 (get_or ns v 0) then 1 else 0) ≡ used ns + (if nat_lt 0 n then 1 else 0)
unfolding used
used_after_write ns v n h = sum_by-set (λ (m : ℕ). if nat_lt 0 m then 1 else 0) ns v n 0 h

-- a table stays one where a place is written that counts or that there is room for, and the room with the places that
-- count doesn't grow
pub table_written : (ns : List ℕ) (room room' v n : ℕ) → IsProbeTable ns room → v < length ns →
    room' + (if nat_lt 0 n then 1 else 0) ≤ room + (if nat_lt 0 (get_or ns v 0) then 1 else 0) →
    IsProbeTable (set ns v n) room'
table_written ns room room' v n t h less = record {
  size = elim t.size [
    | inl whole ↦ inl (length-set ns v n ∙ whole)
    | inr none ↦ absurd (let e = none.0 in omega arith)
  ];
  fits = let f = t.fits in omega (arith, used_after_write ns v n h);
}

-- a node has a place where there is room or it counts
pub placed : (ns : List ℕ) (room v : ℕ) → IsProbeTable ns room → v < NODES → (0 < get_or ns v 0) ⊎ (0 < room) →
    v < length ns
placed ns room v t h (inl some) = counted_within ns v some
placed ns room v t h (inr more) = elim t.size [
  | inl whole ↦ omega arith
  | inr none ↦ absurd (let e = none.1 in omega arith)
]

-- no place counts in a table of zeros, and no more than there are in any
pub used_zeros : (n : ℕ) → used (replicate n 0) ≡ 0
unfolding used
used_zeros n = let e = sum_by-replicate (λ (m : ℕ). if nat_lt 0 m then 1 else 0) n 0 in omega arith

used_within : (ns : List ℕ) → used ns ≤ length ns
unfolding used
used_within ns = count_by-le-length (nat_lt 0) ns

-- where there is no table there is no room
pub table_none : IsProbeTable [] 0
unfolding used
table_none = record { size = inr (refl, refl); fits = omega arith }

-- a table stays one where there is room for more
pub table_reserved : (ns ms : List ℕ) (room more : ℕ) → IsProbeTable ns room → length ms ≡ NODES → used ms ≡ used ns →
    more ≤ MOST_ROOM → IsProbeTable ms (max room more)
table_reserved ns ms room more t size same h =
    let f = t.fits in
    let within = used_within ms in
    record { size = inl size; fits = omega arith }

-- as many places count in a table of zeros as in none
pub used_made : (ns ms : List ℕ) (n k : ℕ) → length ns ≡ 0 → ms ≡ take n ns ++ replicate k 0 → used ms ≡ used ns
unfolding used
used_made [] ms zero k none is = ap used is ∙ used_zeros k
used_made [] ms (suc n) k none is = ap used is ∙ used_zeros k
used_made (x ∷ ns) ms n k none is = absurd (omega arith)

-- the same by the counts that contracts see
pub placed_count : (ns : List ℕ) (room v : ℕ) → IsProbeTable ns room → v < NODES → (0 < tally_at (map_of ns) v)
    ⊎ (0 < room) → v < length ns
placed_count ns room v t h (inl some) = placed ns room v t h (inl (let e = count_in_table ns v in omega arith))
placed_count ns room v t h (inr more) = placed ns room v t h (inr more)

-- a count above 0 counts as one
counts_one : (n : ℕ) → 0 < n → ◌≡◌ {A = ℕ} (if nat_lt 0 n then 1 else 0) 1
counts_one n h = cond-true {A = ℕ} (nat_lt 0 n) 1 0 (lt-ltb 0 n h)

-- a count raised by one
pub raised_table : (ns : List ℕ) (room v n r : ℕ) → IsProbeTable ns room → v < length ns → n ≡ get_or ns v 0 →
    r ≡ (if n == 0 then 1 else 0) → (0 < n) ⊎ (0 < room) → IsProbeTable (set ns v (n + 1)) (room - r)
raised_table ns room v zero r t h is one (inl some) = absurd (omega arith)
raised_table ns room v zero r t h is one (inr more) = table_written ns room (room - r) v 1 t h (omega arith)
raised_table ns room v (suc n) r t h is one some =
    let new = counts_one (suc n + 1) (omega arith) in
    let old = counts_one (get_or ns v 0) (omega arith) in
    table_written ns room (room - r) v (suc n + 1) t h (omega arith)

pub raised_map : (ns : List ℕ) (v n : ℕ) → v < length ns → n ≡ get_or ns v 0 → map_of (set ns v (n + 1))
    ≡ with_count (map_of ns) v (tally_at (map_of ns) v + 1)
raised_map ns v n h is =
    let e : n ≡ tally_at (map_of ns) v = is ∙ sym (count_in_table ns v) in
    subst (λ (m : ℕ). map_of (set ns v (n + 1)) ≡ with_count (map_of ns) v (m + 1)) e (map_after_write ns v (n + 1) h)

-- a count lowered by one
pub lowered_map : (ns : List ℕ) (v n : ℕ) → v < length ns → n ≡ get_or ns v 0 →
    map_of (set ns v (n - 1)) ≡ with_count (map_of ns) v (tally_at (map_of ns) v - 1)
lowered_map ns v n h is =
    let e : n ≡ tally_at (map_of ns) v = is ∙ sym (count_in_table ns v) in
    subst (λ (m : ℕ). map_of (set ns v (n - 1)) ≡ with_count (map_of ns) v (m - 1)) e (map_after_write ns v (n - 1) h)
