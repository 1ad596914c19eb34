-- Two calls, of which the second closes what the first opened.
use Rattle.std.proofs.Common.{rules, ◌≡◌, ℕ, ◌^◌, ◌<◌, arith, refl}
use Rattle.std.specs.Prelude.{Err}
use Rattle.sd_base.specs.Count.{with_added}
use Rattle.sd_ports.specs.Causes.{one_more, CountsClosed, HasDepotCause}
use Rattle.sd_ports.specs.declared.fault.DepotFault.TheVariants.{Failed}

pub twice_called : (a b c : ℕ) → b ≡ with_added a 1 → c ≡ with_added b 1 → c ≡ with_added a 2
twice_called a b c e f = omega arith

pub open_as_before : (a b c : ℕ) → (a < 2 ^ 64) × (b ≡ one_more a) → CountsClosed b c → c ≡ a
open_as_before a b c o h = let w = o.0 in let e = o.1 in let x = h.within in let y = h.fallen in omega arith

-- a call that failed counted one fault and no miss
pub failed_once : {T : Type 0} (a b c d : ℕ) → a < 2 ^ 64 → b ≡ with_added a 1 → d ≡ c
    → HasDepotCause {T = T} a b c d (Err Failed)
failed_once a b c d within e f = record {
  faults_later = omega (arith, within, e);
  misses_later = omega (arith, f);
  missing = search rules;
  failed = λ _. omega (arith, e);
  no_miss = λ _. f;
  no_fault = λ n. absurd (n refl);
}
