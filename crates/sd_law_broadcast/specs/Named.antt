-- Public meaning: the sets that a broadcast names.
use Rattle.std.specs.Prelude.{◌≡◌, ℕ, ◌==◌, ◌&&◌, false, List, [], ◌∷◌, ◌++◌, length, find, flat_map, Option, Some}
use Rattle.std.specs.Prelude.{None, Result, Ok, Err, All, Contains, if◌then◌else◌}
use Rattle.std.specs.List.{range_with_len}
use Rattle.std.specs.Option.{option_map_or}
use Rattle.sd_base.specs.Types.{Packets, Pid, Height, LeafNumber, PeriodNumber}
use Rattle.sd_tree_keys.specs.declared.set.SetName.{SetName}
use Rattle.sd_tree_keys.specs.Leaves.{is_member}
use Rattle.sd_packet.specs.Header.{pid_of}
use Rattle.sd_tree_keys.specs.Names.{names_of_receiver}
use Rattle.sd_book.specs.Commands.{revoked, entitled}
use Rattle.sd_cover_tracing.specs.Partition.{IsPartition, IsSmall}
use Rattle.sd_cover_tracing.specs.Reach.{ReachesNoneOf}
use Rattle.sd_message.specs.EmmSpelled.{listed_entries, names_in}
use Rattle.sd_message.specs.EmmJudged.{emm_read}
use Rattle.sd_message.specs.declared.emm.Emm.{Emm}
use Rattle.sd_message.specs.declared.emm_fault.EmmFault.{EmmFault}
use Rattle.sd_spec.specs.Plan.{Plan, sets_at}

-- the section that was read, if one was
abbrev pub section_read : Result (Option Emm) EmmFault → List Emm
section_read (Ok (Some emm)) = emm ∷ []
section_read (Ok None) = []
section_read (Err fault) = []

-- the sections of entitlements on a PID, in their order, as a receiver of a tree of height h reads them
-- [this project, docs/FORMATS.md, Messages]
unfoldable pub sections_on : Height → Pid → Packets → List Emm
sections_on h pid [] = []
sections_on h pid (packet ∷ packets) =
    if pid_of packet == pid then section_read (emm_read h packet) ++ sections_on h pid packets
    else sections_on h pid packets

-- the sets of the first section of period q with this index
abbrev pub names_at : PeriodNumber → List Emm → ℕ → List SetName
names_at q sections index =
    option_map_or (λ emm. names_in (listed_entries emm))
    (find (λ emm. (emm.period == q) && (emm.index == index)) sections) []

-- the sets that packets name for period q, by the indexes of their sections, which have 16 bits
-- [this project, docs/FORMATS.md, Messages]
unfoldable pub sets_named : Height → Pid → PeriodNumber → Packets → List SetName
sets_named h pid q packets = flat_map (names_at q (sections_on h pid packets)) (range_with_len 0 65536)

-- The names are the sets of period q: the cover of the leaves that are revoked in it [Naor, Naor, Lotspiech 2001, 3.2]
pub record NamesPeriod (plan : Plan) (q : PeriodNumber) (names : List SetName) : Type 0 where
  pub sets : names ≡ sets_at plan q
  -- they are disjoint and unite to the leaves that are entitled in it
  pub partition : IsPartition plan.site.height names (entitled plan.site.height plan.commands q)
  -- one where none is revoked, and at most 2r - 1 where r are
  pub small : IsSmall names (length (revoked plan.site.height plan.commands q))
  -- a leaf that is revoked in it is in none of them
  pub none : (u : LeafNumber) → Contains (revoked plan.site.height plan.commands q) u
      → All (λ name. is_member plan.site.height name u ≡ false) names
  -- and what it is given reaches no label or key of one
  pub unreached : (u : LeafNumber) → Contains (revoked plan.site.height plan.commands q) u
      → ReachesNoneOf (names_of_receiver plan.site.height u) names
