-- Public meaning: the monitor as a stage of packets.
use Rattle.std.specs.Prelude.{◌≡◌, ℕ, true, List, [], Option}
use Rattle.sd_base.specs.Count.{with_added}
use Rattle.sd_base.specs.declared.memory.NoMemory.{NoMemory}
use Rattle.sd_site_cards.specs.SiteFields.{SiteFields, site_fields_of}
use Rattle.sd_run_streams.specs.MessageLines.{message_line}
use Rattle.sd_run_streams.specs.declared.monitor.Monitor.{Monitor}

-- it monitors this site, and was offered no packet
pub record IsBegun (fields : SiteFields) (s : Monitor) : Type 0 where
  pub site : site_fields_of s.site ≡ fields
  pub number : s.number ≡ 0

-- a packet's line is written, and no step is taken
pub record MonitorsPacket (s : Monitor) (packet : List ℕ) (t : Monitor) (bytes : List ℕ) (steps : ℕ) : Type 0 where
  pub line : bytes ≡ message_line (site_fields_of s.site) s.number packet
  pub site : t.site ≡ s.site
  pub number : t.number ≡ with_added s.number 1
  pub no_steps : steps ≡ 0

-- at the end nothing is written
pub record EndsMonitoring (s t : Monitor) (bytes : List ℕ) (steps : ℕ) : Type 0 where
  pub nothing : bytes ≡ []
  pub same : t ≡ s
  pub no_steps : steps ≡ 0

-- out of memory, nothing is written, and that is kept
pub record RefusesMonitored (t : Monitor) (bytes : List ℕ) (steps : ℕ) : Type 0 where
  pub nothing : bytes ≡ []
  pub kept : t.out_of_memory ≡ true
  pub no_steps : steps ≡ 0

-- what the monitor does with a packet
abbrev pub monitor_does : Monitor → List ℕ → Monitor → List ℕ → ℕ → Type 0
monitor_does s packet t bytes steps = MonitorsPacket s packet t bytes steps

-- and at the end of the stream
abbrev pub monitor_ends : Monitor → Monitor → List ℕ → ℕ → Type 0
monitor_ends s t bytes steps = EndsMonitoring s t bytes steps

-- and if memory runs out
abbrev pub monitor_refuses : Monitor → Option (List ℕ) → NoMemory → Monitor → List ℕ → ℕ → Type 0
monitor_refuses s packet fault t bytes steps = RefusesMonitored t bytes steps
