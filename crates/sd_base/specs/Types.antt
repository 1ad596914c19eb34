-- Public meaning: what the numbers and lists in signatures are. Each name is another word for its plain type and bounds
-- nothing: the sizes here are those of values within their limits, which clauses ask for.
use Rattle.std.specs.Prelude.{ℕ, Bool, List, Option}

-- the bytes of a file, a text or an argument, each a number below 256
abbrev pub Bytes : Type 0
Bytes = List ℕ

-- the name of a file, in bytes [this project, docs/FORMATS.md, Commands]
abbrev pub FileName : Type 0
FileName = List ℕ

-- the bytes of a transport packet, 188 of them [ISO/IEC 13818-1, 2.4.3.2]
abbrev pub Packet : Type 0
Packet = List ℕ

-- packets in the order of their stream
abbrev pub Packets : Type 0
Packets = List Packet

-- of each packet in turn whether it arrives; those after the last Bool don't
abbrev pub Arrived : Type 0
Arrived = List Bool

-- a PID, 13 bits [ISO/IEC 13818-1, 2.4.3.3]
abbrev pub Pid : Type 0
Pid = ℕ

-- a position of a PID: 15 at first, and 1 to 16 more with each packet that has a payload [this project,
-- docs/FORMATS.md, Positions]
abbrev pub Position : Type 0
Position = ℕ

-- the CA_system_ID, 16 bits [ISO/IEC 13818-1, 2.6.17]
abbrev pub SystemId : Type 0
SystemId = ℕ

-- a master, a key or a control word, 32 bytes [this project, docs/FORMATS.md, Keys and labels]
abbrev pub Key : Type 0
Key = List ℕ

-- the height h of a tree of 2^h leaves [Naor, Naor, Lotspiech 2001, 3.2]
abbrev pub Height : Type 0
Height = ℕ

-- the number of a leaf, from 0 on, by which a receiver is named [Naor, Naor, Lotspiech 2001, 3.2]
abbrev pub LeafNumber : Type 0
LeafNumber = ℕ

-- the numbers of leaves
abbrev pub Leaves : Type 0
Leaves = List LeafNumber

-- the number of a period, for which entitlements are sent [this project, docs/FORMATS.md, Broadcast]
abbrev pub PeriodNumber : Type 0
PeriodNumber = ℕ

-- the number of a crypto period, from 0 on in each broadcast [this project, docs/FORMATS.md, Broadcast]
abbrev pub CryptoNumber : Type 0
CryptoNumber = ℕ

-- the number of a control word, one for each crypto period under one master [this project, docs/FORMATS.md, Broadcast]
abbrev pub WordNumber : Type 0
WordNumber = ℕ

-- the name of a run: its first control word, or none in versions 1 and 2 [this project, docs/FORMATS.md, Messages]
abbrev pub RunName : Type 0
RunName = Option WordNumber

-- the number of a packet in its stream, from 0 on [this project, docs/FORMATS.md, Streams]
abbrev pub PacketNumber : Type 0
PacketNumber = ℕ

-- the number of a control message in its broadcast, from 0 on [this project, docs/FORMATS.md, Broadcast]
abbrev pub MessageNumber : Type 0
MessageNumber = ℕ
