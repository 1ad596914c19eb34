-- Public meaning: the inspector as a stage of packets.
use Rattle.std.specs.Prelude.{◌≡◌, ℕ, ◌-◌, ◌^◌, ◌<◌, Bool, true, false, List, [], ◌∷◌, length, Option}
use Rattle.std.specs.List.{flat_map}
use Rattle.sd_base.specs.declared.memory.NoMemory.{NoMemory}
use Rattle.sd_packet.specs.Header.{pid_of}
use Rattle.sd_section.specs.Assembled.{Assembling}
use Rattle.sd_run_streams.specs.TableLines.{section_line}
use Rattle.sd_run_streams.specs.Inspected.{sections_at}
use Rattle.sd_run_streams.specs.Watching.{IsInspectedAfter}
use Rattle.sd_run_streams.specs.declared.inspector.Inspector.{Inspector}

-- what the inspector keeps: marks of the watched PIDs, their assemblers, how many packets it was offered, and whether
-- memory ran out
pub record Inspecting : Type 0 where
  pub marks : List Bool
  pub places : List (Option Assembling)
  pub number : ℕ
  pub out_of_memory : Bool

abbrev pub inspector_state : Inspector → Inspecting
inspector_state stage = record {
  marks = stage.assemblies.watched.marks.items;
  places = stage.assemblies.assemblers.items;
  number = stage.number;
  out_of_memory = stage.out_of_memory;
}

-- the state of the inspector after these packets, of which the last comes first
pub record IsStateAfter (before : List (List ℕ)) (state : Inspecting) : Type 0 where
  pub after : IsInspectedAfter before state.marks state.places
  pub number : state.number ≡ length before

-- a packet's lines are written, those of the sections that it completes, and no step is taken
pub record InspectsPacket (s : Inspecting) (packet : List ℕ) (t : Inspecting) (bytes : List ℕ) (steps : ℕ) : Type 0
  where
    pub lines : (before : List (List ℕ)) → IsStateAfter before s →
        bytes ≡ flat_map (section_line s.number (pid_of packet)) (sections_at packet before)
    pub after : (before : List (List ℕ)) → IsStateAfter before s → s.number < 2 ^ 64 - 1 →
        IsStateAfter (packet ∷ before) t
    pub no_steps : steps ≡ 0

-- at the end nothing is written
pub record EndsInspection (s t : Inspecting) (bytes : List ℕ) (steps : ℕ) : Type 0 where
  pub nothing : bytes ≡ []
  pub same : t ≡ s
  pub no_steps : steps ≡ 0

-- if memory ran out nothing is written, and that is kept
pub record RefusesInspected (t : Inspecting) (bytes : List ℕ) (steps : ℕ) : Type 0 where
  pub nothing : bytes ≡ []
  pub kept : t.out_of_memory ≡ true
  pub no_steps : steps ≡ 0

-- the inspector may be offered a packet: its state is that after some packets, unless memory ran out
abbrev pub IsInspectorReady : Inspecting → Type 0
IsInspectorReady s = s.out_of_memory ≡ false → (before : List (List ℕ)) × IsInspectedAfter before s.marks s.places

-- what the inspector does at a packet
abbrev pub inspector_does : Inspector → List ℕ → Inspector → List ℕ → ℕ → Type 0
inspector_does s packet t bytes steps = InspectsPacket (inspector_state s) packet (inspector_state t) bytes steps

-- what the inspector does at the end of the stream
abbrev pub inspector_ends : Inspector → Inspector → List ℕ → ℕ → Type 0
inspector_ends s t bytes steps = EndsInspection (inspector_state s) (inspector_state t) bytes steps

-- what the inspector leaves at a refusal
abbrev pub inspector_refuses : Inspector → Option (List ℕ) → NoMemory → Inspector → List ℕ → ℕ → Type 0
inspector_refuses s packet fault t bytes steps = RefusesInspected (inspector_state t) bytes steps
