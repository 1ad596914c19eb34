-- How many packets of each PID stand before a packet.
use Rattle.std.proofs.Common.{ℕ, zero, suc, ◌+◌, ◌-◌, ◌*◌, ◌/◌, ◌%◌, ◌<◌, ◌≤◌, ◌≡◌, ◌≢◌, [], ◌∷◌, ◌++◌, cond}
use Rattle.std.proofs.Common.{refl, ap, add-one, ◌∙◌, ⊎_elim, arith}
use Rattle.std.specs.Prelude.{◌==◌}
use Rattle.std.specs.List.{range_with_len, sum_by, count_by}
use Rattle.std.proofs.lemmas.Bool.{cases_lt}
use Rattle.std.proofs.lemmas.Bool.Decides.{nat_tests}
use Rattle.std.proofs.lemmas.List.Sums.{sum_by_push}
use Rattle.sd_base.proofs.Ranges.{range_more}
use Rattle.sd_engine.specs.Sample.{pid_at, counter_at, generated_in, generated_before}

-- after the numbers below k stands k
pub below_more : (k : ℕ) → range_with_len 0 (suc k) ≡ range_with_len 0 k ++ k ∷ []
below_more k =
    let e : 0 + k ≡ k = omega arith in
    rw (add-one k, e) at (range_more 0 k)

-- a packet's bytes are generated after those of the packets before it
pub generated_more : (k : ℕ) → generated_before (suc k) ≡ generated_before k + generated_in k
unfolding generated_before
generated_more k = ap (sum_by generated_in) (below_more k) ∙ sum_by_push generated_in (range_with_len 0 k) k

-- the PIDs, by the places in a round
pub pat_pid : (k : ℕ) → k % 100 ≡ 0 → pid_at k ≡ 0x0000
unfolding pid_at
pat_pid k h = rw h refl

pub pmt_pid : (k : ℕ) → k % 100 ≡ 1 → pid_at k ≡ 0x1000
unfolding pid_at
pmt_pid k h = rw h refl

pub null_pid : (k : ℕ) → k % 100 ≡ 2 → pid_at k ≡ 0x1FFF
unfolding pid_at
null_pid k h = rw h refl

pub second_pid : (k : ℕ) → 3 ≤ k % 100 → k % 4 ≡ 3 → pid_at k ≡ 0x0101
unfolding pid_at
second_pid k h e = grind (arith, nat_tests)

pub first_pid : (k : ℕ) → 3 ≤ k % 100 → k % 4 ≢ 3 → pid_at k ≡ 0x0100
unfolding pid_at
first_pid k h e = grind (arith, nat_tests)

-- how many packets of a PID stand before packet k
abbrev pub before : ℕ → ℕ → ℕ
before pid k = count_by (λ j. pid_at j == pid) (range_with_len 0 k)

-- a packet counts for its PID alone
counted : (pid k p : ℕ) → pid_at k ≡ p → before pid (suc k) ≡ before pid k + cond (p == pid) 1 0
counted pid k p e =
    ap (count_by (λ j. pid_at j == pid)) (below_more k)
    ∙ sum_by_push (λ j. cond (pid_at j == pid) 1 0) (range_with_len 0 k) k
    ∙ ap (λ (r : ℕ). before pid k + cond (r == pid) 1 0) e

-- the counts before packet k
record Counts (k : ℕ) : Type 0 where
  pub pats : before 0x0000 k ≡ (k + 99) / 100
  pub pmts : before 0x1000 k ≡ (k + 98) / 100
  pub seconds : before 0x0101 k ≡ k / 4
  pub firsts : before 0x0100 k + k / 4 + (k + 99) / 100 + (k + 98) / 100 + (k + 97) / 100 ≡ k

pat_counted : (k : ℕ) → k % 100 ≡ 0 → Counts k → Counts (suc k)
pat_counted k h c =
    let is : pid_at k ≡ 0x0000 = pat_pid k h in
    let pats : before 0x0000 (suc k) ≡ before 0x0000 k + 1 = counted 0x0000 k 0x0000 is in
    let pmts : before 0x1000 (suc k) ≡ before 0x1000 k + 0 = counted 0x1000 k 0x0000 is in
    let seconds : before 0x0101 (suc k) ≡ before 0x0101 k + 0 = counted 0x0101 k 0x0000 is in
    let firsts : before 0x0100 (suc k) ≡ before 0x0100 k + 0 = counted 0x0100 k 0x0000 is in
    record {
      pats = omega (arith, c.pats);
      pmts = omega (arith, c.pmts);
      seconds = omega (arith, c.seconds);
      firsts =
          omega (arith, c.firsts);
    }

pmt_counted : (k : ℕ) → k % 100 ≡ 1 → Counts k → Counts (suc k)
pmt_counted k h c =
    let is : pid_at k ≡ 0x1000 = pmt_pid k h in
    let pats : before 0x0000 (suc k) ≡ before 0x0000 k + 0 = counted 0x0000 k 0x1000 is in
    let pmts : before 0x1000 (suc k) ≡ before 0x1000 k + 1 = counted 0x1000 k 0x1000 is in
    let seconds : before 0x0101 (suc k) ≡ before 0x0101 k + 0 = counted 0x0101 k 0x1000 is in
    let firsts : before 0x0100 (suc k) ≡ before 0x0100 k + 0 = counted 0x0100 k 0x1000 is in
    record {
      pats = omega (arith, c.pats);
      pmts = omega (arith, c.pmts);
      seconds = omega (arith, c.seconds);
      firsts =
          omega (arith, c.firsts);
    }

null_counted : (k : ℕ) → k % 100 ≡ 2 → Counts k → Counts (suc k)
null_counted k h c =
    let is : pid_at k ≡ 0x1FFF = null_pid k h in
    let pats : before 0x0000 (suc k) ≡ before 0x0000 k + 0 = counted 0x0000 k 0x1FFF is in
    let pmts : before 0x1000 (suc k) ≡ before 0x1000 k + 0 = counted 0x1000 k 0x1FFF is in
    let seconds : before 0x0101 (suc k) ≡ before 0x0101 k + 0 = counted 0x0101 k 0x1FFF is in
    let firsts : before 0x0100 (suc k) ≡ before 0x0100 k + 0 = counted 0x0100 k 0x1FFF is in
    record {
      pats = omega (arith, c.pats);
      pmts = omega (arith, c.pmts);
      seconds = omega (arith, c.seconds);
      firsts =
          omega (arith, c.firsts);
    }

second_counted : (k : ℕ) → 3 ≤ k % 100 → k % 4 ≡ 3 → Counts k → Counts (suc k)
second_counted k h m c =
    let is : pid_at k ≡ 0x0101 = second_pid k h m in
    let pats : before 0x0000 (suc k) ≡ before 0x0000 k + 0 = counted 0x0000 k 0x0101 is in
    let pmts : before 0x1000 (suc k) ≡ before 0x1000 k + 0 = counted 0x1000 k 0x0101 is in
    let seconds : before 0x0101 (suc k) ≡ before 0x0101 k + 1 = counted 0x0101 k 0x0101 is in
    let firsts : before 0x0100 (suc k) ≡ before 0x0100 k + 0 = counted 0x0100 k 0x0101 is in
    record {
      pats = omega (arith, c.pats);
      pmts = omega (arith, c.pmts);
      seconds = omega (arith, c.seconds);
      firsts =
          omega (arith, c.firsts);
    }

first_counted : (k : ℕ) → 3 ≤ k % 100 → k % 4 < 3 → Counts k → Counts (suc k)
first_counted k h m c =
    let is : pid_at k ≡ 0x0100 = first_pid k h (λ (e : k % 4 ≡ 3). omega arith) in
    let pats : before 0x0000 (suc k) ≡ before 0x0000 k + 0 = counted 0x0000 k 0x0100 is in
    let pmts : before 0x1000 (suc k) ≡ before 0x1000 k + 0 = counted 0x1000 k 0x0100 is in
    let seconds : before 0x0101 (suc k) ≡ before 0x0101 k + 0 = counted 0x0101 k 0x0100 is in
    let firsts : before 0x0100 (suc k) ≡ before 0x0100 k + 1 = counted 0x0100 k 0x0100 is in
    record {
      pats = omega (arith, c.pats);
      pmts = omega (arith, c.pmts);
      seconds = omega (arith, c.seconds);
      firsts =
          omega (arith, c.firsts);
    }

counts : (k : ℕ) → Counts k
counts zero = record { pats = refl; pmts = refl; seconds = refl; firsts = refl }
counts (suc k) =
    let c = counts k in
    ⊎_elim (λ (h : k % 100 < 1). pat_counted k (omega arith) c)
    (λ (h : 1 ≤ k % 100). ⊎_elim (λ (g : k % 100 < 2). pmt_counted k (omega arith) c)
    (λ (g : 2 ≤ k % 100). ⊎_elim (λ (f : k % 100 < 3). null_counted k (omega arith) c)
    (λ (f : 3 ≤ k % 100). ⊎_elim (λ (m : k % 4 < 3). first_counted k f m c)
    (λ (m : 3 ≤ k % 4). second_counted k f (omega arith) c) (cases_lt (k % 4) 3)) (cases_lt (k % 100) 3))
    (cases_lt (k % 100) 2)) (cases_lt (k % 100) 1)

-- the counters, by the places in a round
pub pat_counter : (k : ℕ) → k % 100 ≡ 0 → counter_at k ≡ k / 100 % 16
unfolding counter_at
pat_counter k h =
    let is : pid_at k ≡ 0x0000 = pat_pid k h in
    let c : before 0x0000 k ≡ k / 100 = omega (arith, (counts k).pats) in
    rw is (ap (λ (n : ℕ). n % 16) c)

pub pmt_counter : (k : ℕ) → k % 100 ≡ 1 → counter_at k ≡ k / 100 % 16
unfolding counter_at
pmt_counter k h =
    let is : pid_at k ≡ 0x1000 = pmt_pid k h in
    let c : before 0x1000 k ≡ k / 100 = omega (arith, (counts k).pmts) in
    rw is (ap (λ (n : ℕ). n % 16) c)

pub null_counter : (k : ℕ) → k % 100 ≡ 2 → counter_at k ≡ 0
unfolding counter_at
null_counter k h = let is : pid_at k ≡ 0x1FFF = null_pid k h in rw is refl

pub second_counter : (k : ℕ) → 3 ≤ k % 100 → k % 4 ≡ 3 → counter_at k ≡ k / 4 % 16
unfolding counter_at
second_counter k h m =
    let is : pid_at k ≡ 0x0101 = second_pid k h m in
    rw is (ap (λ (n : ℕ). n % 16) (counts k).seconds)

pub first_counter : (k : ℕ) → 3 ≤ k % 100 → k % 4 ≢ 3 → counter_at k ≡ (k - k / 4 - 3 * (k / 100 + 1)) % 16
unfolding counter_at
first_counter k h m =
    let is : pid_at k ≡ 0x0100 = first_pid k h m in
    let c : before 0x0100 k ≡ k - k / 4 - 3 * (k / 100 + 1) = omega (arith, (counts k).firsts) in
    rw is (ap (λ (n : ℕ). n % 16) c)
