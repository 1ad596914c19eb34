-- Public meaning: the line of compact JSON that a section is shown by.
use Rattle.std.specs.Prelude.{ℕ, ◌==◌, List, [], ◌∷◌, ◌++◌, map, filter, codes, if◌then◌else◌, Option, Some, None}
use Rattle.serde_json.specs.Data.{Data, number, unsigned, string, array, object, member, no_members}
use Rattle.serde_json.specs.View.{items_of}
use Rattle.serde_json.specs.Written.{compact_text}
use Rattle.sd_section.specs.Header.{extension_of, section_version_number, body_of, whole_of}
use Rattle.sd_section.specs.Judged.{section_fault}
use Rattle.sd_section.specs.declared.fault.SectionFault.{SectionFault}
use Rattle.sd_section.specs.declared.fault.SectionFault.TheVariants.{Short, Length, Crc}
use Rattle.sd_psi.specs.Tables.{Stream, descriptors_of, programs_of, pcr_of, info_of, streams_of, is_pat, is_cat}
use Rattle.sd_psi.specs.Tables.{is_pmt}
use Rattle.sd_psi.specs.Access.{is_ca, system_of, ca_pid_of}

-- a number
abbrev pub num : ℕ → Data
num n = number (unsigned n)

-- a word
abbrev pub word : List ℕ → Data
word text = string text

-- a list
abbrev pub list_data : List Data → Data
list_data items = array (items_of items)

-- a CA_descriptor: its CA_PID and CA_system_ID [ISO/IEC 13818-1, 2.6.16]
unfoldable pub ca_data : List ℕ → Data
ca_data descriptor = object
    (member (codes "pid") (num (ca_pid_of descriptor))
    (member (codes "system") (num (system_of descriptor))
    no_members))

-- the CA_descriptors among some descriptors, and among those that fill some bytes
unfoldable pub cas_of : List (List ℕ) → List Data
cas_of descriptors = map ca_data (filter is_ca descriptors)

unfoldable pub cas_data : List ℕ → Data
cas_data bytes = list_data (cas_of (descriptors_of bytes))

-- a program of a PAT [ISO/IEC 13818-1, 2.4.4.3]
unfoldable pub program_data : ℕ × ℕ → Data
program_data program = object
    (member (codes "number") (num program.0)
    (member (codes "pid") (num program.1)
    no_members))

-- a stream of a PMT [ISO/IEC 13818-1, 2.4.4.8]
unfoldable pub stream_data : Stream → Data
stream_data stream = object
    (member (codes "ca") (cas_data stream.info)
    (member (codes "pid") (num stream.pid)
    (member (codes "type") (num stream.stream_type)
    no_members)))

-- what is shown of a PAT, a CAT and a PMT of a PID, completed by the packet of this number [this project,
-- docs/FORMATS.md, Inspector]
unfoldable pub pat_data : ℕ → ℕ → List ℕ → Data
pat_data packet pid section = object
    (member (codes "packet") (num packet)
    (member (codes "pid") (num pid)
    (member (codes "programs") (list_data (map program_data (programs_of section)))
    (member (codes "stream") (num (extension_of section))
    (member (codes "table") (word (codes "pat"))
    (member (codes "version") (num (section_version_number section))
    no_members))))))

unfoldable pub cat_data : ℕ → ℕ → List ℕ → Data
cat_data packet pid section = object
    (member (codes "ca") (cas_data (body_of section))
    (member (codes "packet") (num packet)
    (member (codes "pid") (num pid)
    (member (codes "table") (word (codes "cat"))
    (member (codes "version") (num (section_version_number section))
    no_members)))))

unfoldable pub pmt_data : ℕ → ℕ → List ℕ → Data
pmt_data packet pid section = object
    (member (codes "ca") (cas_data (info_of section))
    (member (codes "packet") (num packet)
    (member (codes "pcr") (num (pcr_of section))
    (member (codes "pid") (num pid)
    (member (codes "program") (num (extension_of section))
    (member (codes "streams") (list_data (map stream_data (streams_of section)))
    (member (codes "table") (word (codes "pmt"))
    (member (codes "version") (num (section_version_number section))
    no_members))))))))

-- what is shown of a section that isn't as it is to be [this project, docs/FORMATS.md, Inspector]
unfoldable pub fault_data : List ℕ → ℕ → ℕ → Data
fault_data fault packet pid = object
    (member (codes "fault") (word fault)
    (member (codes "packet") (num packet)
    (member (codes "pid") (num pid)
    no_members)))

-- what is shown of a whole section: PID 0 has PATs, PID 1 has CATs, and each other PID that is looked at has PMTs
-- [ISO/IEC 13818-1, 2.4.4, and this project, docs/FORMATS.md, Inspector]
unfoldable pub table_data : ℕ → ℕ → List ℕ → Data
table_data packet pid section =
    if pid == 0 then (if is_pat section then pat_data packet pid section else fault_data (codes "table") packet pid)
    else if pid == 1 then (if is_cat section then cat_data packet pid section else fault_data (codes "table") packet
    pid)
    else if is_pmt section then pmt_data packet pid section else fault_data (codes "table") packet pid

-- what is shown of bytes, by what is wrong with the section that they begin with
abbrev pub data_by : Option SectionFault → ℕ → ℕ → List ℕ → Data
data_by None packet pid section = table_data packet pid (whole_of section)
data_by (Some Short) packet pid section = fault_data (codes "length") packet pid
data_by (Some Length) packet pid section = fault_data (codes "length") packet pid
data_by (Some (Crc found due)) packet pid section = fault_data (codes "crc") packet pid

-- what is shown of the bytes of a section of a PID, completed by the packet of this number [this project,
-- docs/FORMATS.md, Inspector]
unfoldable pub section_data : ℕ → ℕ → List ℕ → Data
section_data packet pid section = data_by (section_fault section) packet pid section

-- its line: compact JSON with the keys in ascending order, and a line feed
unfoldable pub section_line : ℕ → ℕ → List ℕ → List ℕ
section_line packet pid section = compact_text (section_data packet pid section) ++ 10 ∷ []
