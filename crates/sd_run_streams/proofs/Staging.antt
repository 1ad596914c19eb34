-- The inspector as a stage.
use Rattle.std.proofs.Common.{◌≡◌, ℕ, Bool, List, [], ◌∷◌, ◌++◌, ◌∙◌, refl, ap, get_or, arith}
use Rattle.std.specs.Prelude.{Option, Some, None}
use Rattle.std.specs.List.{flat_map}
use Rattle.sd_base.specs.Count.{with_added}
use Rattle.sd_packet.specs.Header.{pid_of}
use Rattle.sd_section.specs.Assembled.{Fed, Assembling}
use Rattle.sd_run_streams.specs.Inspected.{watched_on, sections_at}
use Rattle.sd_run_streams.specs.InspectorStaged.{Inspecting, InspectsPacket}
use Rattle.sd_run_streams.specs.TableLines.{section_line}
use Rattle.sd_run_streams.specs.Watching.{IsAssembledFrom, IsIdle, AreIdle, IsInspectedAfter}

idle_place : (packets : List Fed) (place : Option Assembling) → IsAssembledFrom packets place → IsIdle place
idle_place packets None is = tt
idle_place packets (Some state) is = ap (λ (s : Assembling). s.waiting) is

-- after each packet all that an assembler has was lent
pub idle_after : (before : List (List ℕ)) (marks : List Bool) (places : List (Option Assembling)) →
    IsInspectedAfter before marks places → AreIdle places
idle_after before marks places are = record {
  at = λ pid small. idle_place (watched_on pid before) (get_or places pid None) (are.placed.at pid small);
}

-- what is written of a packet is the lines that were put after an empty text
pub inspects : (s t : Inspecting) (packet bytes text start : List ℕ) → bytes ≡ text → start ≡ [] →
    ((before : List (List ℕ)) → IsInspectedAfter before s.marks s.places →
    text ≡ start ++ flat_map (section_line s.number (pid_of packet)) (sections_at packet before)) →
    ((before : List (List ℕ)) → IsInspectedAfter before s.marks s.places →
    IsInspectedAfter (packet ∷ before) t.marks t.places) →
    t.number ≡ with_added s.number 1 → InspectsPacket s packet t bytes 0
inspects s t packet bytes text start written empty lines after number = record {
  lines = λ before is. written ∙ (lines before is.after ∙ ap
      (λ (xs : List ℕ). xs ++ flat_map (section_line s.number (pid_of packet)) (sections_at packet before)) empty);
  after = λ before is small. record {
    after = after before is.after;
    number = omega (arith, number, is.number, small);
  };
  no_steps = refl;
}
