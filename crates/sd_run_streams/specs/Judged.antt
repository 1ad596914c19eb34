-- Public meaning: what the bytes of a section are on their PID: a table, or a fault.
use Rattle.std.specs.Prelude.{◌≡◌, ◌≢◌, ◌⊎◌, ℕ, false, ◌==◌, Bool, List, [], ◌∷◌, ◌++◌, codes, if◌then◌else◌}
use Rattle.std.specs.Prelude.{Some, None, Result, Ok, Err}
use Rattle.serde_json.specs.Data.{Data}
use Rattle.serde_json.specs.Written.{compact_text}
use Rattle.sd_section.specs.Header.{whole_of}
use Rattle.sd_section.specs.Judged.{section_fault}
use Rattle.sd_section.specs.declared.fault.SectionFault.TheVariants as Wrong
use Rattle.sd_psi.specs.Tables.{is_pat, is_cat, is_pmt}
use Rattle.sd_run_streams.specs.TableLines.{pat_data, cat_data, pmt_data, fault_data}
use Rattle.sd_run_streams.specs.declared.table.Table.{Table}
use Rattle.sd_run_streams.specs.declared.table.Table.TheVariants.{Pat, Cat, Pmt}
use Rattle.sd_run_streams.specs.declared.table.TableFault.{TableFault}
use Rattle.sd_run_streams.specs.declared.table.TableFault.TheVariants.{Length, Crc, Form}

-- a section is a table of the PID: PID 0 has PATs, PID 1 has CATs, and each other PID has PMTs [ISO/IEC 13818-1, 2.4.4]
abbrev pub is_table : ℕ → List ℕ → Bool
is_table pid section = if pid == 0 then is_pat section else if pid == 1 then is_cat section else is_pmt section

-- the table is this section, on its PID
abbrev pub IsTableSection : ℕ → List ℕ → Table → Type 0
IsTableSection pid section (Pat pat) = (pid ≡ 0) × (pat.section.bytes.now ≡ section)
IsTableSection pid section (Cat cat) = (pid ≡ 1) × (cat.section.bytes.now ≡ section)
IsTableSection pid section (Pmt pmt) = (pid ≢ 0) × (pid ≢ 1) × (pmt.section.bytes.now ≡ section)

-- what the bytes of a section are on a PID: a table, or the first thing that is wrong with them
-- [this project, docs/FORMATS.md, Inspector]
abbrev pub IsTableOn : ℕ → List ℕ → Result Table TableFault → Type 0
IsTableOn pid bytes (Ok table) = (section_fault bytes ≡ None) × IsTableSection pid (whole_of bytes) table
IsTableOn pid bytes (Err Length) = (section_fault bytes ≡ Some Wrong.Short) ⊎ (section_fault bytes ≡ Some Wrong.Length)
IsTableOn pid bytes (Err Crc) = (found : ℕ) × (due : ℕ) × (section_fault bytes ≡ Some (Wrong.Crc found due))
IsTableOn pid bytes (Err Form) = (section_fault bytes ≡ None) × (is_table pid (whole_of bytes) ≡ false)

-- what is shown of it, completed by the packet of this number [this project, docs/FORMATS.md, Inspector]
abbrev pub data_as : ℕ → ℕ → Result Table TableFault → Data
data_as packet pid (Ok (Pat pat)) = pat_data packet pid pat.section.bytes.now
data_as packet pid (Ok (Cat cat)) = cat_data packet pid cat.section.bytes.now
data_as packet pid (Ok (Pmt pmt)) = pmt_data packet pid pmt.section.bytes.now
data_as packet pid (Err Length) = fault_data (codes "length") packet pid
data_as packet pid (Err Crc) = fault_data (codes "crc") packet pid
data_as packet pid (Err Form) = fault_data (codes "table") packet pid

-- its line: compact JSON with the keys in ascending order, and a line feed
unfoldable pub line_as : ℕ → ℕ → Result Table TableFault → List ℕ
line_as packet pid table = compact_text (data_as packet pid table) ++ 10 ∷ []
