-- What is taken of an input, its first bytes.
use Rattle.std.proofs.Common.{◌≡◌, ◌<◌, ◌≤◌, ◌+◌, ◌-◌, ℕ, List, ◌++◌, Bool, true, false, length, take, arith, ap, sym}
use Rattle.std.proofs.Common.{◌∙◌, append-nil, append_assoc, length-append, subst, rules, refl}
use Rattle.std.proofs.lemmas.Bool.{le-ltb, lt-ltb, ltb-true, ltb-false, ltb_from_iff}
use Rattle.std.proofs.lemmas.List.{take_all, take-append-le, take_min, length-take-le}
use Rattle.std.proofs.Math.Seq.{take-append-add}
use Rattle.std.specs.Prelude.{Option, None, Some, Ok, Err, min, nat_lt}
use Rattle.std.specs.Io.KnownBytes.{Consumes, IsAtEnd, Keeps}
use Rattle.std.proofs.KnownBytes.{Consumes-trans, Consumes-kept}
use Rattle.sd_base.specs.Count.{HasRisen}
use Rattle.sd_ports.specs.Bytes.{Prefix, IsTakenFrom}
use Rattle.sd_ports.specs.Causes.{ReadsFirst}
use Rattle.sd_ports.specs.declared.prefix.ReadMostFault.TheVariants.{Failed, NoMemory}

-- a prefix and whether more follows
abbrev pub prefix : List ℕ → Bool → Prefix
prefix bytes more = record { bytes = bytes; more = more }

-- prefixes of the same bytes and the same answer are one
pub same_prefix : (a b : List ℕ) (m n : Bool) → a ≡ b → m ≡ n → prefix a m ≡ prefix b n
same_prefix a b m n p q = ap (λ (xs : List ℕ). prefix xs m) p ∙ ap (λ (x : Bool). prefix b x) q

-- all that was left, where it is no more than was asked for
pub whole_prefix : (a b : Option (List ℕ)) (bs : List ℕ) (most : ℕ) → Consumes a b bs → IsAtEnd b → length bs ≤ most
    → IsTakenFrom most a (record { bytes = bs; more = false })
whole_prefix None b bs most p q h = tt
whole_prefix (Some x) None bs most p q h = absurd p
whole_prefix (Some x) (Some y) bs most p q h =
    let e : x ≡ bs = p ∙ ap (λ (r : List ℕ). bs ++ r) q ∙ append-nil bs in
    let short : length x ≤ most = subst (λ (r : List ℕ). length r ≤ most) (sym e) h in
    sym (same_prefix _ _ _ _ (take_all most x short ∙ e) (le-ltb most (length x) short))

-- the first of what was read, where that is more
pub cut_prefix : (a b c : Option (List ℕ)) (bs cs : List ℕ) (most : ℕ) → Consumes a b bs → Consumes b c cs
    → most < length (bs ++ cs) → IsTakenFrom most a (record { bytes = take most (bs ++ cs); more = true })
cut_prefix None b c bs cs most p q h = tt
cut_prefix (Some x) None c bs cs most p q h = absurd p
cut_prefix (Some x) (Some y) None bs cs most p q h = absurd q
cut_prefix (Some x) (Some y) (Some z) bs cs most p q h =
    let e : x ≡ (bs ++ cs) ++ z = p ∙ ap (λ (r : List ℕ). bs ++ r) q ∙ sym (append_assoc bs cs z) in
    let size : length x ≡ length (bs ++ cs) + length z = ap length e ∙ length-append (bs ++ cs) z in
    let long : most < length x = omega (arith, h, size) in
    let within : most ≤ length (bs ++ cs) = omega (arith, h) in
    sym (same_prefix _ _ _ _ (ap (take most) e ∙ take-append-le most (bs ++ cs) z within) (lt-ltb most (length x) long))

-- where nothing is left all was read
pub all_read : (most : ℕ) (a b c : Option (List ℕ)) (bs cs : List ℕ) (count i j : ℕ) → Consumes a b bs
    → Consumes b c (take count cs) → count ≡ 0 → IsAtEnd c → length bs ≤ most → j ≡ i
    → ReadsFirst most a c i j bs (Ok false)
all_read most a b c bs cs count i j p q none end within e =
    let whole : bs ++ take count cs ≡ bs = ap (λ (n : ℕ). bs ++ take n cs) none ∙ append-nil bs in
    let gone : Consumes a c bs = subst (Consumes a c) whole (Consumes-trans a b c bs _ p q) in
    record {
      value = whole_prefix a c bs most gone end within;
      all = λ _. (gone, end);
      within = within;
      full = search rules;
      failed = search rules;
      later = omega (arith, e);
      calm = λ _. e;
      lost = (bs, gone);
    }

-- where more was read than was asked for the first of it is kept
pub first_read : (most : ℕ) (a b c : Option (List ℕ)) (bs cs kept : List ℕ) (over : Bool) (i j : ℕ) → Consumes a b bs
    → Consumes b c cs → kept ≡ take most (bs ++ cs) → over ≡ nat_lt most (length (bs ++ cs)) → over ≡ true → j ≡ i
    → ReadsFirst most a c i j kept (Ok true)
first_read most a b c bs cs kept over i j p q k test passes e =
    let long = ltb-true most (length (bs ++ cs)) (sym test ∙ passes) in
    let size : length kept ≡ most = ap length k ∙ length-take-le most (bs ++ cs) (omega (arith, long)) in
    record {
      value =
          subst (λ (r : List ℕ). IsTakenFrom most a (prefix r true)) (sym k) (cut_prefix a b c bs cs most p q long);
      all = search rules;
      within = omega (arith, size);
      full = λ _. size;
      failed = search rules;
      later = omega (arith, e);
      calm = λ _. e;
      lost = (bs ++ cs, Consumes-trans a b c bs cs p q);
    }

-- where there is no memory for what was read it is lost
pub none_kept : (most : ℕ) (a b c : Option (List ℕ)) (bs cs kept : List ℕ) (i j : ℕ) → Consumes a b bs
    → Consumes b c cs → j ≡ i → ReadsFirst most a c i j kept (Err NoMemory)
none_kept most a b c bs cs kept i j p q e = record {
  value = tt;
  all = tt;
  within = tt;
  full = tt;
  failed = search rules;
  later = omega (arith, e);
  calm = λ _. e;
  lost = (bs ++ cs, Consumes-trans a b c bs cs p q);
}

-- where a read fails what was read before it is lost
pub read_failed : (most : ℕ) (a b c : Option (List ℕ)) (bs kept : List ℕ) (i j k : ℕ) → Consumes a b bs → Keeps b c
    → j ≡ i → j ≤ k → HasRisen j k → ReadsFirst most a c i k kept (Err Failed)
read_failed most a b c bs kept i j k p q e later rose = record {
  value = tt;
  all = tt;
  within = tt;
  full = tt;
  failed = λ _. omega (arith, e, rose);
  later = omega (arith, e, later);
  calm = λ n. absurd (n refl);
  lost = (bs, Consumes-kept a b c bs p q);
}

-- of what stands after others as much is kept as their first bytes have of it
pub kept_first : (most count : ℕ) (bs cs : List ℕ) → length bs ≤ most → count ≡ min (length cs) (most - length bs)
    → bs ++ take count cs ≡ take most (bs ++ cs)
kept_first most count bs cs within e =
    let room : ℕ = most - length bs in
    let same : count ≡ min room (length cs) = omega (arith, e) in
    let all : length bs + room ≡ most = omega arith in
    ap (λ (n : ℕ). bs ++ take n cs) same ∙ ap (λ (r : List ℕ). bs ++ r) (take_min room cs)
    ∙ sym (take-append-add bs cs room) ∙ ap (λ (n : ℕ). take n (bs ++ cs)) all

-- some of it is left over where all of them are more than there may be
pub left_over : (most count : ℕ) (bs cs : List ℕ) → length bs ≤ most → count ≡ min (length cs) (most - length bs)
    → nat_lt count (length cs) ≡ nat_lt most (length (bs ++ cs))
left_over most count bs cs within e =
    let size = length-append bs cs in
    ltb_from_iff (
      (λ t. let less = ltb-true count (length cs) t in omega (arith, e, less, size)),
      (λ h. lt-ltb count (length cs) (omega (arith, e, h, size))),
    )

-- where none is left over all of it is kept, and is gone from the input
pub read_more : (most : ℕ) (a b c : Option (List ℕ)) (bs cs kept : List ℕ) (over : Bool) → Consumes a b bs
    → Consumes b c cs → kept ≡ take most (bs ++ cs) → over ≡ nat_lt most (length (bs ++ cs)) → over ≡ false
    → Consumes a c kept × (length kept ≡ length bs + length cs) × (length kept ≤ most)
read_more most a b c bs cs kept over p q k test within =
    let short = ltb-false most (length (bs ++ cs)) (sym test ∙ within) in
    let whole : kept ≡ bs ++ cs = k ∙ take_all most (bs ++ cs) short in (
      subst (Consumes a c) (sym whole) (Consumes-trans a b c bs cs p q),
      ap length whole ∙ length-append bs cs,
      omega (arith, ap length whole, short),
    )
