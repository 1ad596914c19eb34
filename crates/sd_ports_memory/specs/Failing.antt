-- Public meaning: which calls of a depot in memory are to fail.
use Rattle.std.specs.Prelude.{refl, ℕ, Bool, List, [], ◌∷◌, ◌++◌, map, filter, string_bytes}
use Rattle.std.specs.Coded.{Coded, code_by, coded×, coded_ℕ, coded_list}
use Rattle.std.specs.Str.{bytes_eq}
use Rattle.circular_buffer.specs.Buffer.{keep_last}
use Rattle.sd_base.specs.Count.{with_added}
use Rattle.sd_ports.specs.Memory.{is_listed}
use Rattle.sd_ports_memory.specs.declared.failing.PortCall.{PortCall}

-- the numbers of the depot's own calls that are to fail, the names of ports with the numbers of their calls that are to
-- fail, and how many calls of its own were numbered
pub record Failures : Type 0 where
  pub calls : List ℕ
  pub ports : List (List ℕ × ℕ)
  pub numbered : ℕ

-- they are stored as the pairs of their parts
abbrev pub failures_code : Coded Failures
failures_code =
    code_by (List ℕ × (List (List ℕ × ℕ) × ℕ))
    (coded× (coded_list coded_ℕ) (coded× (coded_list (coded× (coded_list coded_ℕ) coded_ℕ)) coded_ℕ))
    (λ f. (f.calls, (f.ports, f.numbered)))
    (λ p. record { calls = p.0; ports = p.1.0; numbered = p.1.1 })
    (λ _. refl)

-- no call is to fail
abbrev pub no_failures : Failures
no_failures = record { calls = []; ports = []; numbered = 0 }

-- one more, of which the last 16 stay
abbrev pub newest_sixteen : {X : Type 0} → List X → X → List X
newest_sixteen xs x = keep_last 16 (xs ++ x ∷ [])

-- the depot's call of this number is to fail, too
abbrev pub with_failing_call : Failures → ℕ → Failures
with_failing_call f number = record f { calls = newest_sixteen f.calls number }

-- on ports of this name the call of this number is to fail, too
abbrev pub with_failing_port : Failures → List ℕ → ℕ → Failures
with_failing_port f name number = record f { ports = newest_sixteen f.ports (name, number) }

-- whether the depot's next call fails
abbrev pub next_fails : Failures → Bool
next_fails f = is_listed f.calls f.numbered

-- one more call was numbered
abbrev pub after_call : Failures → Failures
after_call f = record f { numbered = with_added f.numbered 1 }

-- the names and numbers of the calls of ports, without the texts that keep them
abbrev pub told_calls : List PortCall → List (List ℕ × ℕ)
told_calls calls = map (λ c. (string_bytes c.name, c.number)) calls

-- the numbers of the calls that are to fail on ports of this name
abbrev pub numbers_of : List ℕ → List (List ℕ × ℕ) → List ℕ
numbers_of name calls = map (λ c. c.1) (filter (λ c. bytes_eq c.0 name) calls)
