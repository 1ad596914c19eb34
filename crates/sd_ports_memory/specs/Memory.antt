-- Public meaning: a source and a depot in memory, with the calls that fail.
use Rattle.std.specs.Prelude.{refl, ℕ, map, string_bytes, String, Vec, Bool, if◌then◌else◌}
use Rattle.std.specs.Prelude.{min, List, [], length, take, drop, ◌/◌}
use Rattle.std.specs.FinMap.{from_entries, code, empty, insert}
use Rattle.std.specs.Coded.{Coded, code_by, coded×, coded_ℕ, coded_list}
use Rattle.std.specs.BTreeMap.{BTreeMap}
use Rattle.std.specs.declared.alloc.Global.{Global}
use Rattle.sd_base.specs.Count.{with_added}
use Rattle.sd_ports.specs.Causes.{one_more}
use Rattle.sd_ports.specs.Files.{Files}
use Rattle.sd_ports.specs.Memory.{Store, is_listed}
use Rattle.sd_ports_memory.specs.Failing.{Failures, failures_code, no_failures, with_failing_call, with_failing_port}
use Rattle.sd_ports_memory.specs.Failing.{next_fails, after_call, numbers_of}

-- a source in memory: the bytes to come, the most bytes of a read, which reads fail, and how many reads there were and
-- failed
pub record Supply : Type 0 where
  pub left : List ℕ
  pub most : ℕ
  pub fails : List ℕ
  pub reads : ℕ
  pub faults : ℕ

-- a depot in memory: its files, the room of a sink, the most bytes of a read or a write, the calls that are to fail,
-- the counts of faults, of those but at closing a sink, of misses and of sinks made, how many ports are open, and how
-- many calls there were
pub record Shelf : Type 0 where
  pub files : Files
  pub room : ℕ
  pub most : ℕ
  pub failing : Failures
  pub faults : ℕ
  pub stops : ℕ
  pub misses : ℕ
  pub made : ℕ
  pub opened : ℕ
  pub calls : ℕ

-- a depot in memory is stored as the pairs of its parts
abbrev pub shelf_code : Coded Shelf
shelf_code =
    code_by (Files × (ℕ × (ℕ × (Failures × (ℕ × (ℕ × (ℕ × (ℕ × (ℕ × ℕ)))))))))
    (coded× (code (coded_list coded_ℕ) (coded_list coded_ℕ)) (coded× coded_ℕ (coded× coded_ℕ (coded× failures_code
    (coded× coded_ℕ (coded× coded_ℕ (coded× coded_ℕ (coded× coded_ℕ (coded× coded_ℕ coded_ℕ)))))))))
    (λ s. (s.files, (s.room, (s.most, (s.failing, (s.faults, (s.stops, (s.misses, (s.made, (s.opened, s.calls))))))))))
    (λ p. record {
      files = p.0;
      room = p.1.0;
      most = p.1.1.0;
      failing = p.1.1.1.0;
      faults = p.1.1.1.1.0;
      stops = p.1.1.1.1.1.0;
      misses = p.1.1.1.1.1.1.0;
      made = p.1.1.1.1.1.1.1.0;
      opened = p.1.1.1.1.1.1.1.1.0;
      calls = p.1.1.1.1.1.1.1.1.1;
    })
    (λ _. refl)

-- the files that a map of texts tells
unfoldable pub told_files : BTreeMap (String Global) (Vec ℕ Global) → Files
told_files m = from_entries (map (λ e. (string_bytes e.0, e.1.items)) m.entries)

-- a depot with no file, of which no call is to fail
abbrev pub empty_shelf : ℕ → ℕ → Shelf
empty_shelf room most = record {
  files = empty;
  room = room;
  most = most;
  failing = no_failures;
  faults = 0;
  stops = 0;
  misses = 0;
  made = 0;
  opened = 0;
  calls = 0;
}

-- the depot with a file of these bytes, in place of one that had the name
abbrev pub with_file : Shelf → List ℕ → List ℕ → Shelf
with_file s name bytes = record s { files = insert s.files name bytes }

-- the depot, of which the call of this number is to fail, too
abbrev pub with_fault : Shelf → ℕ → Shelf
with_fault s number = record s { failing = with_failing_call s.failing number }

-- the depot, on whose ports of this name the call of this number is to fail, too
abbrev pub with_port_fault : Shelf → List ℕ → ℕ → Shelf
with_port_fault s name number = record s { failing = with_failing_port s.failing name number }

-- whether the depot's next numbered call fails
abbrev pub call_fails : Shelf → Bool
call_fails s = next_fails s.failing

-- the numbers of the calls that are to fail on ports of this name
abbrev pub fails_of : Shelf → List ℕ → List ℕ
fails_of s name = numbers_of name s.failing.ports

-- the depot after a numbered call that opened a file, or found that there is none of that name, or failed, or wanted
-- memory
abbrev pub with_inlet : Shelf → ℕ → ℕ → ℕ → ℕ → Shelf
with_inlet s faults stops misses opened = record s {
  failing = after_call s.failing;
  faults = faults;
  stops = stops;
  misses = misses;
  opened = opened;
  calls = with_added s.calls 1;
}

-- the depot after a numbered call that made an empty file
abbrev pub with_outlet : Shelf → List ℕ → Shelf
with_outlet s name = record s {
  files = insert s.files name [];
  failing = after_call s.failing;
  made = with_added s.made 1;
  opened = one_more s.opened;
  calls = with_added s.calls 1;
}

-- the depot after a numbered call that failed, or wanted memory
abbrev pub with_call : Shelf → ℕ → ℕ → Shelf
with_call s faults stops = record s {
  failing = after_call s.failing;
  faults = faults;
  stops = stops;
  calls = with_added s.calls 1;
}

-- the depot after a call that closed a port with this count of faults
abbrev pub without_port : Shelf → ℕ → ℕ → Shelf
without_port s faults opened = record s {
  faults = with_added s.faults faults;
  stops = with_added s.stops faults;
  opened = opened;
  calls = with_added s.calls 1;
}

-- what a numbered call that closes a file's port leaves of the bytes that the port held: all, or where it fails the
-- first half
abbrev pub left_at_close : Shelf → List ℕ → List ℕ
left_at_close s held = if call_fails s then take (length held / 2) held else held

-- so many faults a numbered call adds: none, or one where it fails
abbrev pub faults_at_call : Shelf → ℕ
faults_at_call s = if call_fails s then 1 else 0

-- the depot after a numbered call that closed a file's port
abbrev pub with_closed : Shelf → List ℕ → Store → ℕ → Shelf
with_closed s name port opened = record s {
  files = insert s.files name (left_at_close s port.held);
  failing = after_call s.failing;
  faults = with_added (with_added s.faults port.faults) (faults_at_call s);
  stops = with_added s.stops port.faults;
  opened = opened;
  calls = with_added s.calls 1;
}

-- whether the next read fails
abbrev pub read_fails : Supply → Bool
read_fails s = is_listed s.fails s.reads

-- how many bytes a read gives into so much space
abbrev pub given_bytes : Supply → ℕ → ℕ
given_bytes s space = min s.most (min space (length s.left))

-- a source after a read into so much space
abbrev pub after_read : Supply → ℕ → Supply
after_read s space =
    if read_fails s then record {
      left = s.left;
      most = s.most;
      fails = s.fails;
      reads = with_added s.reads 1;
      faults =
          with_added s.faults 1;
    }
    else record {
      left = drop (given_bytes s space) s.left;
      most = s.most;
      fails = s.fails;
      reads =
          with_added s.reads 1;
      faults = s.faults;
    }
