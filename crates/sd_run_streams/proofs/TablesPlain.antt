-- Nothing that is shown of a table is a float.
use Rattle.std.proofs.Common.{ℕ, ◌≡◌, false, List, [], ◌∷◌, map, refl}
use Rattle.std.specs.Prelude.{codes, filter, Result, Ok, Err}
use Rattle.serde_json.specs.View.{items_of}
use Rattle.serde_json.specs.Written.{has_float, items_have_float}
use Rattle.sd_section.specs.Header.{body_of}
use Rattle.sd_psi.specs.Tables.{Stream, descriptors_of, programs_of, info_of, streams_of}
use Rattle.sd_psi.specs.Access.{is_ca}
use Rattle.sd_run_streams.specs.TableLines.{ca_data, cas_of, cas_data, program_data, stream_data, pat_data, cat_data}
use Rattle.sd_run_streams.specs.TableLines.{pmt_data}
use Rattle.sd_run_streams.specs.TableLines.{fault_data}
use Rattle.sd_run_streams.specs.Judged.{data_as}
use Rattle.sd_run_streams.specs.declared.table.Table.{Table}
use Rattle.sd_run_streams.specs.declared.table.Table.TheVariants.{Pat, Cat, Pmt}
use Rattle.sd_run_streams.specs.declared.table.TableFault.{TableFault}
use Rattle.sd_run_streams.specs.declared.table.TableFault.TheVariants.{Length, Crc, Form}

-- some CA_descriptors
plain_ca : (descriptors : List (List ℕ)) → items_have_float (items_of (map ca_data descriptors)) ≡ false
unfolding ca_data
plain_ca [] = refl
plain_ca (descriptor ∷ descriptors) = plain_ca descriptors

-- those among some bytes' descriptors
plain_cas : (bytes : List ℕ) → has_float (cas_data bytes) ≡ false
unfolding cas_data cas_of
plain_cas bytes = plain_ca (filter is_ca (descriptors_of bytes))

-- some programs
plain_programs : (programs : List (ℕ × ℕ)) → items_have_float (items_of (map program_data programs)) ≡ false
unfolding program_data
plain_programs [] = refl
plain_programs (program ∷ programs) = plain_programs programs

-- some streams
plain_streams : (streams : List Stream) → items_have_float (items_of (map stream_data streams)) ≡ false
unfolding stream_data
plain_streams [] = refl
plain_streams (stream ∷ streams) = rw (plain_cas stream.info) (plain_streams streams)

-- a PAT
plain_pat : (packet pid : ℕ) (section : List ℕ) → has_float (pat_data packet pid section) ≡ false
unfolding pat_data
plain_pat packet pid section = rw (plain_programs (programs_of section)) refl

-- a CAT
plain_cat : (packet pid : ℕ) (section : List ℕ) → has_float (cat_data packet pid section) ≡ false
unfolding cat_data
plain_cat packet pid section = rw (plain_cas (body_of section)) refl

-- a PMT
plain_pmt : (packet pid : ℕ) (section : List ℕ) → has_float (pmt_data packet pid section) ≡ false
unfolding pmt_data
plain_pmt packet pid section = rw (plain_cas (info_of section), plain_streams (streams_of section)) refl

-- a fault
plain_fault : (fault : List ℕ) (packet pid : ℕ) → has_float (fault_data fault packet pid) ≡ false
unfolding fault_data
plain_fault fault packet pid = refl

-- anything that was judged
pub plain_as : (packet pid : ℕ) (table : Result Table TableFault) → has_float (data_as packet pid table) ≡ false
plain_as packet pid (Ok (Pat pat)) = plain_pat packet pid pat.section.bytes.now
plain_as packet pid (Ok (Cat cat)) = plain_cat packet pid cat.section.bytes.now
plain_as packet pid (Ok (Pmt pmt)) = plain_pmt packet pid pmt.section.bytes.now
plain_as packet pid (Err Length) = plain_fault (codes "length") packet pid
plain_as packet pid (Err Crc) = plain_fault (codes "crc") packet pid
plain_as packet pid (Err Form) = plain_fault (codes "table") packet pid
