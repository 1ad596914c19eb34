-- What the inspector writes of packets, one after the other.
use Rattle.std.proofs.Common.{◌≡◌, ℕ, ◌+◌, ◌-◌, ◌^◌, ◌≤◌, List, [], ◌∷◌, ◌++◌, length, reverse, sym, ap, subst, ◌∙◌}
use Rattle.std.proofs.Common.{append-nil, append_assoc, arith}
use Rattle.std.specs.List.{flat_map}
use Rattle.sd_base.proofs.Lists.{reversed}
use Rattle.sd_packet.specs.Header.{pid_of}
use Rattle.sd_run_streams.specs.TableLines.{section_line}
use Rattle.sd_engine.specs.Stage.{Chain}
use Rattle.sd_run_streams.specs.Inspected.{lines_in, sections_at}
use Rattle.sd_run_streams.specs.InspectorStaged.{inspector_state, inspector_does, IsStateAfter}
use Rattle.sd_run_streams.specs.declared.inspector.Inspector.{Inspector}

-- the lines of a packet are those at its number
first_lines : (packet : List ℕ) (before : List (List ℕ)) (first : List ℕ) (number : ℕ) → number ≡ length before →
    first ≡ flat_map (section_line number (pid_of packet)) (sections_at packet before) →
    lines_in (packet ∷ before) ≡ lines_in before ++ first
unfolding lines_in
first_lines packet before first number is h =
    ap (λ (l : List ℕ). lines_in before ++ l)
    (ap (λ (n : ℕ). flat_map (section_line n (pid_of packet)) (sections_at packet before)) (sym is) ∙ sym h)

pub chain_lines : (before packets : List (List ℕ)) (s t : Inspector) (bytes : List ℕ) (n : ℕ) →
    IsStateAfter before (inspector_state s) →
    length before + length packets ≤ 2 ^ 64 - 1 → Chain inspector_does s packets t bytes n →
    (lines_in (reverse packets ++ before) ≡ lines_in before ++ bytes) ×
    IsStateAfter (reverse packets ++ before) (inspector_state t)
    × (n ≡ 0)
chain_lines before [] s t bytes n stands few (same, none, zero) = (
  sym (ap (λ (l : List ℕ). lines_in before ++ l) none ∙ append-nil (lines_in before)),
  subst (λ (u : Inspector). IsStateAfter before (inspector_state u)) same stands,
  zero,
)
chain_lines before (packet ∷ packets) s t bytes n stands few (mid, first, rest, m, k, one, more, joined, counted) =
    let next = one.after before stands (omega (arith, stands.number, few)) in
    let then = chain_lines (packet ∷ before) packets mid t rest k next (omega (arith, few)) more in (
      ap lines_in (reversed packet packets before)
          ∙ then.0
          ∙ ap (λ (l : List ℕ). l ++ rest) (first_lines packet before first s.number stands.number
          (one.lines before stands))
          ∙ append_assoc (lines_in before) first rest
          ∙ ap (λ (l : List ℕ). lines_in before ++ l) (sym joined),
      subst (λ (ps : List (List ℕ)). IsStateAfter ps (inspector_state t)) (sym (reversed packet packets before)) then.1,
      omega (arith, counted, one.no_steps, then.2),
    )

pub all_written : (packets : List (List ℕ)) (s t : Inspector) (bytes : List ℕ) (n : ℕ) →
    IsStateAfter [] (inspector_state s) →
    length packets ≤ 2 ^ 64 - 1 → Chain inspector_does s packets t bytes n → bytes ≡ lines_in (reverse packets)
unfolding lines_in
all_written packets s t bytes n stands few chain =
    sym (chain_lines [] packets s t bytes n stands (omega (arith, few)) chain).0
    ∙ ap lines_in (append-nil (reverse packets))

pub all_after : (packets : List (List ℕ)) (s t : Inspector) (bytes : List ℕ) (n : ℕ) →
    IsStateAfter [] (inspector_state s) →
    length packets ≤ 2 ^ 64 - 1 → Chain inspector_does s packets t bytes n →
    IsStateAfter (reverse packets) (inspector_state t)
all_after packets s t bytes n stands few chain =
    subst (λ (ps : List (List ℕ)). IsStateAfter ps (inspector_state t)) (append-nil (reverse packets))
    (chain_lines [] packets s t bytes n stands (omega (arith, few)) chain).1

pub none_counted : (packets : List (List ℕ)) (s t : Inspector) (bytes : List ℕ) (n : ℕ) →
    IsStateAfter [] (inspector_state s) →
    length packets ≤ 2 ^ 64 - 1 → Chain inspector_does s packets t bytes n → n ≡ 0
none_counted packets s t bytes n stands few chain = (chain_lines [] packets s t bytes n stands (omega (arith, few))
    chain).2
