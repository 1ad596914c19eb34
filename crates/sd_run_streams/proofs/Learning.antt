-- The PIDs that sections name.
use Rattle.std.proofs.Common.{ℕ, ◌<◌, ◌≡◌, ◌≢◌, Bool, true, false, ◌==◌, ◌&&◌, ◌||◌, List, [], ◌∷◌, ◌++◌, length}
use Rattle.std.proofs.Common.{get_or, set, replicate, cond, length-set, refl, sym, ap, subst, ◌∙◌, append-nil, inl, inr}
use Rattle.std.proofs.Common.{arith}
use Rattle.std.specs.Prelude.{Option, Some, None, is_none, Result, Ok, Err}
use Rattle.std.specs.List.{list_any}
use Rattle.std.proofs.lemmas.Bool.{eq-eqb, ne_eqb, cases_eq}
use Rattle.std.proofs.lemmas.List.{get_or-set_same, get_or-set_other, get_or-replicate}
use Rattle.sd_base.proofs.Bools.{or_false, or_assoc}
use Rattle.sd_section.specs.Header.{whole_of}
use Rattle.sd_section.specs.Judged.{section_fault}
use Rattle.sd_section.specs.declared.fault.SectionFault.{SectionFault}
use Rattle.sd_section.specs.declared.fault.SectionFault.TheVariants as Wrong
use Rattle.sd_psi.specs.Tables.{pmt_pids_of, is_pat}
use Rattle.sd_psi.specs.declared.pat.Pat.{Pat}
use Rattle.sd_psi.specs.declared.cat.Cat.{Cat}
use Rattle.sd_psi.specs.declared.pmt.Pmt.{Pmt}
use Rattle.sd_run_streams.specs.Judged.{is_table, IsTableSection, IsTableOn}
use Rattle.sd_run_streams.specs.declared.table.Table.{Table}
use Rattle.sd_run_streams.specs.declared.table.Table.TheVariants as Tables
use Rattle.sd_run_streams.specs.declared.table.TableFault.{TableFault}
use Rattle.sd_run_streams.specs.declared.table.TableFault.TheVariants.{Length, Crc, Form}
use Rattle.sd_run_streams.specs.Inspected.{is_sound, pids_named_by, is_watched, named_in}
use Rattle.sd_run_streams.specs.Watching.{is_named_pid, naming, AreAdded, AreSectionsLearned, AreWatchedMarks}

or_mark : (a b c : Bool) → b ≡ true → c ≡ true → c ≡ (a || b)
or_mark true b c e f = f
or_mark false b c e f = f ∙ sym e

pub or_stay : (a b c : Bool) → b ≡ false → c ≡ a → c ≡ (a || b)
or_stay a b c e f = f ∙ (sym (or_false a) ∙ ap (λ (d : Bool). a || d) (sym e))

-- a mark more
pub marked_more : (marks : List Bool) (pid other : ℕ) → other < length marks →
    get_or (set marks other true) pid false ≡ (get_or marks pid false || (other == pid))
marked_more marks pid other h = elim (cases_eq other pid) [
  | inl same ↦ or_mark (get_or marks pid false) (other == pid) _ (eq-eqb other pid same)
      (ap (λ (p : ℕ). get_or (set marks p true) pid false) same
      ∙ get_or-set_same marks pid true false (subst (λ (p : ℕ). p < length marks) same h))
  | inr apart ↦ or_stay (get_or marks pid false) (other == pid) _ (ne_eqb other pid apart)
      (get_or-set_other marks other pid true false (λ e. apart (sym e)))
]

-- the marks and the PIDs that are left come to the old marks and all PIDs
pub record AreAdding (all left : List ℕ) (old marks : List Bool) : Type 0 where
  pub at : (pid : ℕ) → pid < 8192 →
      (get_or marks pid false || list_any (λ (named : ℕ). named == pid) left)
      ≡ (get_or old pid false || list_any (λ (named : ℕ). named == pid) all)

pub none_added : (all left : List ℕ) (marks : List Bool) → left ≡ all → AreAdding all left marks marks
none_added all left marks is =
    record {
      at = λ pid h. ap (λ (pids : List ℕ). get_or marks pid false || list_any (λ (named : ℕ). named == pid) pids)
          is;
    }

pub one_added : (all left rest : List ℕ) (pid : ℕ) (old marks : List Bool) → left ≡ pid ∷ rest → pid < length marks →
    AreAdding all left old marks → AreAdding all rest old (set marks pid true)
one_added all left rest pid old marks first room adding = record {
  at = λ q h.
      ap (λ (a : Bool). a || list_any (λ (named : ℕ). named == q) rest) (marked_more marks q pid room)
      ∙ (or_assoc (get_or marks q false) (pid == q) (list_any (λ (named : ℕ). named == q) rest)
      ∙ (ap (λ (pids : List ℕ). get_or marks q false || list_any (λ (named : ℕ). named == q) pids) (sym first)
      ∙ adding.at q h));
}

pub all_added : (all left : List ℕ) (old marks : List Bool) → left ≡ [] → AreAdding all left old marks →
    AreAdded all old marks
all_added all left old marks none adding = record {
  at = λ q h.
      sym (or_false (get_or marks q false))
      ∙ (ap (λ (pids : List ℕ). get_or marks q false || list_any (λ (named : ℕ). named == q) pids) (sym none)
      ∙ adding.at q h);
}

-- a section that is no PAT names none
none_named : (section : List ℕ) (pid : ℕ) → pids_named_by section ≡ [] → is_named_pid pid (section ∷ []) ≡ false
unfolding is_named_pid
none_named section pid none = ap (λ (maps : List ℕ). list_any (λ (named : ℕ). named == pid) (maps ++ [])) none

none_learned : (section : List ℕ) (marks : List Bool) → pids_named_by section ≡ [] →
    AreSectionsLearned (section ∷ []) marks
    marks
none_learned section marks none = record {
  at = λ pid h. or_stay (get_or marks pid false) (is_named_pid pid (section ∷ [])) _ (none_named section pid none) refl;
}

-- on another PID than 0 no section names any
other_learned : (pid : ℕ) (section : List ℕ) (marks : List Bool) → pid ≢ 0 →
    AreSectionsLearned (naming pid (section ∷ [])) marks marks
unfolding is_named_pid
other_learned pid section marks other =
    subst (λ (b : Bool). AreSectionsLearned (cond b (section ∷ []) []) marks marks) (sym (ne_eqb pid 0 other))
    (record { at = λ q h. sym (or_false (get_or marks q false)) })

-- on no PID does one that names none
none_on : (zero : Bool) (section : List ℕ) (marks : List Bool) → pids_named_by section ≡ [] →
    AreSectionsLearned (cond zero (section ∷ []) []) marks marks
unfolding is_named_pid
none_on true section marks none = none_learned section marks none
none_on false section marks none = record { at = λ q h. sym (or_false (get_or marks q false)) }

-- a faulty section names none
faulty_none : (o : Option SectionFault) (fault : SectionFault) (b : Bool) (maps : List ℕ) → o ≡ Some fault →
    cond (is_none o && b) maps [] ≡ []
faulty_none None fault b maps is = absurd (cc)
faulty_none (Some f) fault b maps is = refl

faulty_learned : (pid : ℕ) (section : List ℕ) (fault : SectionFault) (marks : List Bool) →
    section_fault section ≡ Some fault → AreSectionsLearned (naming pid (section ∷ [])) marks marks
unfolding pids_named_by
faulty_learned pid section fault marks wrong =
    none_on (pid == 0) section marks
    (faulty_none (section_fault section) fault (is_pat (whole_of section)) (pmt_pids_of (whole_of section)) wrong)

no_pat : (sound pat : Bool) (maps : List ℕ) → pat ≡ false → cond (sound && pat) maps [] ≡ []
no_pat true pat maps h = ap (λ (b : Bool). cond b maps []) h
no_pat false pat maps h = refl

a_pat : (o : Option SectionFault) (pat : Bool) (maps : List ℕ) → o ≡ None → pat ≡ true → cond (is_none o && pat) maps []
    ≡ maps
a_pat None pat maps is h = ap (λ (b : Bool). cond b maps []) h
a_pat (Some f) pat maps is h = absurd (cc)

-- nor does a section of PID 0 that is no PAT
unlike_learned : (pid : ℕ) (section : List ℕ) (marks : List Bool) → is_table pid (whole_of section) ≡ false →
    AreSectionsLearned (naming pid (section ∷ [])) marks marks
unfolding pids_named_by
unlike_learned pid section marks unlike = elim (cases_eq pid 0) [
  | inl zero ↦
      let no : is_pat (whole_of section) ≡ false =
      subst (λ (p : ℕ). is_table p (whole_of section) ≡ false) zero unlike in
      none_on (pid == 0) section marks
      (no_pat (is_sound section) (is_pat (whole_of section)) (pmt_pids_of (whole_of section)) no)
  | inr other ↦ other_learned pid section marks other
]

-- a PAT names the PIDs of the PMTs of its programs
named_by_pat : (pid : ℕ) (section : List ℕ) (pat : Pat) (old new : List Bool) → section_fault section ≡ None →
    IsTableSection pid (whole_of section) (Tables.Pat pat) → AreAdded (pmt_pids_of pat.section.bytes.now) old new →
    AreSectionsLearned (naming pid (section ∷ [])) old new
unfolding pids_named_by is_named_pid
named_by_pat pid section pat old new sound is added =
    let bytes = pat.section.bytes.now in
    let kept : pids_named_by section ≡ pmt_pids_of bytes =
    a_pat (section_fault section) (is_pat (whole_of section)) (pmt_pids_of (whole_of section)) sound
    (subst (λ (s : List ℕ). is_pat s ≡ true) is.1 pat.form)
    ∙ ap pmt_pids_of (sym is.1) in
    let named : (q : ℕ) → list_any (λ (named : ℕ). named == q) (pmt_pids_of bytes) ≡ is_named_pid q (section ∷ []) =
    λ q.
    ap (list_any (λ (named : ℕ). named == q)) (sym kept ∙ sym (append-nil (pids_named_by section))) in
    subst (λ (b : Bool). AreSectionsLearned (cond b (section ∷ []) []) old new) (sym (eq-eqb pid 0 is.0))
    (record { at = λ q h. added.at q h ∙ ap (λ (a : Bool). get_or old q false || a) (named q) })

pub pat_learned : (pid : ℕ) (section : List ℕ) (table : Table) (pat : Pat) (old new : List Bool) →
    table ≡ Tables.Pat pat → section_fault section ≡ None → IsTableSection pid (whole_of section) table →
    AreAdded (pmt_pids_of pat.section.bytes.now) old new → AreSectionsLearned (naming pid (section ∷ [])) old new
pat_learned pid section table pat old new same sound is added =
    named_by_pat pid section pat old new sound (subst (IsTableSection pid (whole_of section)) same is) added

-- a CAT and a PMT name none
pub cat_learned : (pid : ℕ) (section : List ℕ) (table : Table) (cat : Cat) (marks : List Bool) →
    table ≡ Tables.Cat cat → IsTableSection pid (whole_of section) table →
    AreSectionsLearned (naming pid (section ∷ [])) marks marks
cat_learned pid section table cat marks same is =
    let one = subst (IsTableSection pid (whole_of section)) same is in
    other_learned pid section marks (omega (arith, one.0))

pub pmt_learned : (pid : ℕ) (section : List ℕ) (table : Table) (pmt : Pmt) (marks : List Bool) →
    table ≡ Tables.Pmt pmt → IsTableSection pid (whole_of section) table →
    AreSectionsLearned (naming pid (section ∷ [])) marks marks
pmt_learned pid section table pmt marks same is =
    other_learned pid section marks (subst (IsTableSection pid (whole_of section)) same is).0

-- nor does what is no table
unnamed : (pid : ℕ) (section : List ℕ) (fault : TableFault) (marks : List Bool) →
    IsTableOn pid section (Err fault) → AreSectionsLearned (naming pid (section ∷ [])) marks marks
unnamed pid section Length marks (inl is) = faulty_learned pid section Wrong.Short marks is
unnamed pid section Length marks (inr is) = faulty_learned pid section Wrong.Length marks is
unnamed pid section Crc marks is = faulty_learned pid section (Wrong.Crc is.0 is.1) marks is.2
unnamed pid section Form marks is = unlike_learned pid section marks is.1

pub fault_learned : (pid : ℕ) (section : List ℕ) (table : Result Table TableFault) (fault : TableFault)
    (marks : List Bool) → table ≡ Err fault → IsTableOn pid section table →
    AreSectionsLearned (naming pid (section ∷ [])) marks marks
fault_learned pid section table fault marks same is =
    unnamed pid section fault marks (subst (IsTableOn pid section) same is)

-- a table is a section in which nothing is wrong
pub is_sound_table : (pid : ℕ) (section : List ℕ) (result : Result Table TableFault) (table : Table) →
    result ≡ Ok table → IsTableOn pid section result → section_fault section ≡ None
is_sound_table pid section result table same is = (subst (IsTableOn pid section) same is).0

pub is_table_of : (pid : ℕ) (section : List ℕ) (result : Result Table TableFault) (table : Table) →
    result ≡ Ok table → IsTableOn pid section result → IsTableSection pid (whole_of section) table
is_table_of pid section result table same is = (subst (IsTableOn pid section) same is).1

-- a test on numbers, either way round
eqb_sym : (a b : ℕ) → (a == b) ≡ (b == a)
eqb_sym a b = elim (cases_eq a b) [
  | inl same ↦ eq-eqb a b same ∙ sym (eq-eqb b a (sym same))
  | inr apart ↦ ne_eqb a b apart ∙ sym (ne_eqb b a (λ e. apart (sym e)))
]

or_turned : (a b : Bool) → ((false || a) || b) ≡ (a || (b || false))
or_turned true b = refl
or_turned false b = sym (or_false b)

-- before the first packet PID 0 and PID 1 are watched
pub first_marked : (marks : List Bool) → length marks ≡ 8192 → marks ≡ replicate 8192 false →
    AreWatchedMarks [] (set (set marks 0 true) 1 true)
unfolding is_watched named_in
first_marked marks long is = record {
  at = λ pid h.
      marked_more (set marks 0 true) pid 1 (omega (arith, length-set marks 0 true))
      ∙ ap (λ (a : Bool). a || (1 == pid)) (marked_more marks pid 0 (omega arith))
      ∙ ap (λ (a : Bool). (a || (0 == pid)) || (1 == pid))
      (ap (λ (l : List Bool). get_or l pid false) is ∙ get_or-replicate 8192 pid false false h)
      ∙ ap (λ (a : Bool). (false || a) || (1 == pid)) (eqb_sym 0 pid)
      ∙ ap (λ (a : Bool). (false || (pid == 0)) || a) (eqb_sym 1 pid)
      ∙ or_turned (pid == 0) (pid == 1);
}
