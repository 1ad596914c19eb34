-- A section that was judged once is shown as its bytes are.
use Rattle.std.proofs.Common.{ℕ, ◌≡◌, ◌==◌, ◌++◌, ◌∷◌, Bool, true, false, cond, List, [], refl, sym, ap, inl, inr}
use Rattle.std.specs.Prelude.{codes, Result, Ok, Err}
use Rattle.std.proofs.lemmas.Bool.{eq-eqb, ne_eqb}
use Rattle.serde_json.specs.Data.{Data}
use Rattle.serde_json.specs.Written.{compact_text}
use Rattle.sd_section.specs.Header.{whole_of}
use Rattle.sd_psi.specs.Tables.{is_pat, is_cat, is_pmt}
use Rattle.sd_run_streams.specs.TableLines.{pat_data, cat_data, pmt_data, fault_data, table_data, section_data}
use Rattle.sd_run_streams.specs.TableLines.{section_line}
use Rattle.sd_run_streams.specs.Judged.{is_table, IsTableSection, IsTableOn, data_as, line_as}
use Rattle.sd_run_streams.specs.declared.table.Table.{Table}
use Rattle.sd_run_streams.specs.declared.table.Table.TheVariants.{Pat, Cat, Pmt}
use Rattle.sd_run_streams.specs.declared.table.TableFault.{TableFault}
use Rattle.sd_run_streams.specs.declared.table.TableFault.TheVariants.{Length, Crc, Form}

-- a table of the PID is shown as its section is
table_shown : (packet pid : ℕ) (section : List ℕ) (table : Table) → IsTableSection pid section table →
    data_as packet pid (Ok table) ≡ table_data packet pid section
unfolding table_data
table_shown packet pid section (Pat pat) is = rw (sym is.1) (rw (eq-eqb pid 0 is.0, pat.form) refl)
table_shown packet pid section (Cat cat) is =
    rw (sym is.1) (rw (is.0) (rw (cat.form) refl))
table_shown packet pid section (Pmt pmt) is =
    rw (sym is.2) (rw (ne_eqb pid 0 is.0, ne_eqb pid 1 is.1, pmt.form) refl)

-- another section is shown as a fault
by_test : (zero one pat cat pmt : Bool) (a b c fault : Data) → cond zero pat (cond one cat pmt) ≡ false →
    fault ≡ cond zero (cond pat a fault) (cond one (cond cat b fault) (cond pmt c fault))
by_test true one pat cat pmt a b c fault other = sym (ap (λ (test : Bool). cond test a fault) other)
by_test false true pat cat pmt a b c fault other = sym (ap (λ (test : Bool). cond test b fault) other)
by_test false false pat cat pmt a b c fault other = sym (ap (λ (test : Bool). cond test c fault) other)

other_shown : (packet pid : ℕ) (section : List ℕ) → is_table pid section ≡ false →
    fault_data (codes "table") packet pid ≡ table_data packet pid section
unfolding table_data
other_shown packet pid section other =
    by_test (pid == 0) (pid == 1) (is_pat section) (is_cat section) (is_pmt section) (pat_data packet pid section)
    (cat_data packet pid section) (pmt_data packet pid section) (fault_data (codes "table") packet pid) other

-- what was judged is shown as the bytes are
shown_as : (packet pid : ℕ) (bytes : List ℕ) (table : Result Table TableFault) → IsTableOn pid bytes table →
    data_as packet pid table ≡ section_data packet pid bytes
unfolding section_data
shown_as packet pid bytes (Ok table) is = rw (is.0) (table_shown packet pid (whole_of bytes) table is.1)
shown_as packet pid bytes (Err Length) (inl is) = rw is refl
shown_as packet pid bytes (Err Length) (inr is) = rw is refl
shown_as packet pid bytes (Err Crc) is = rw (is.2) refl
shown_as packet pid bytes (Err Form) is = rw (is.0) (other_shown packet pid (whole_of bytes) is.1)

-- and its line is theirs
pub same_line : (pid : ℕ) (bytes : List ℕ) (table : Result Table TableFault) → IsTableOn pid bytes table →
    (packet : ℕ) → line_as packet pid table ≡ section_line packet pid bytes
unfolding line_as section_line
same_line pid bytes table is packet =
    ap (λ (shown : Data). compact_text shown ++ 10 ∷ []) (shown_as packet pid bytes table is)
