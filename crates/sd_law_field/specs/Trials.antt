-- Public meaning: what a trial of a broadcast prints [this project, docs/FORMATS.md, Trial].
use Rattle.std.specs.Prelude.{ℕ, zero, suc, ◌++◌, length, Option, Some, None}
use Rattle.sd_base.specs.Types.{Bytes, Packets, LeafNumber, PeriodNumber}
use Rattle.sd_spec.specs.Plan.{Plan}
use Rattle.sd_spec.specs.Sent.{broadcast}
use Rattle.sd_law_losses.specs.Confirmed.{opened_by}
use Rattle.sd_law_losses.specs.Endings.{first_revoked}
use Rattle.sd_run_broadcasts.specs.Trial.{trial_clear_line, done_line, trial_revoked_line}

-- the line of a leaf's receiver by the number of packets that it wrote and the first period in which the leaf is
-- revoked
abbrev pub line_by : LeafNumber → ℕ → Option PeriodNumber → Bytes
line_by u wrote None = done_line u wrote
line_by u wrote (Some q) = trial_revoked_line u wrote q

-- the line of the receiver of leaf u: it writes the clear packets of the periods in which the leaf isn't revoked
unfoldable pub opened_line : Plan → Packets → LeafNumber → Bytes
opened_line plan clear u = line_by u (length (opened_by plan u clear)) (first_revoked plan u clear)

-- the line of the stream and its broadcast, and then those of the first n leaves
unfoldable pub opened_lines : Plan → Packets → ℕ → Bytes
opened_lines plan clear zero = trial_clear_line (length clear) (length (broadcast plan clear))
opened_lines plan clear (suc n) = opened_lines plan clear n ++ opened_line plan clear n
