-- What is read from a section is read from the bytes that begin with it.
use Rattle.std.proofs.Common.{ℕ, ◌+◌, ◌-◌, ◌*◌, ◌/◌, ◌%◌, ◌^◌, ◌<◌, ◌≤◌, ◌≡◌, Bool, true, false, ◌&&◌, ◌==◌, List}
use Rattle.std.proofs.Common.{length, take, get_or-take, length-take-le, refl, sym, ap, ◌∙◌, arith}
use Rattle.std.specs.Prelude.{Option, Some, None, nat_le}
use Rattle.std.proofs.lemmas.Bool.{and_parts, leb-true, le-leb, eqb-true}
use Rattle.sd_base.proofs.Arithmetic.{above_fails}
use Rattle.sd_base.specs.Bits.{field}
use Rattle.sd_base.proofs.Fields.{same_by_bits}
use Rattle.sd_section.specs.declared.fault.SectionFault.{SectionFault}
use Rattle.sd_section.specs.declared.fault.SectionFault.TheVariants.{Short, Length}
use Rattle.sd_section.specs.Header.{syntax_of, section_length_of, whole_of, crc_in, crc_due}
use Rattle.sd_section.specs.Judged.{section_fault_unless, has_long_form, head_fault, crc_fault, section_fault}

-- a field within the first bytes is that of all bytes
pub field_take : (bytes : List ℕ) (n at width : ℕ) → at + width ≤ 8 * n → field (take n bytes) at width ≡ field bytes at
    width
field_take bytes n at width h =
    same_by_bits (take n bytes) bytes at width (λ j k.
    let here : (at + j) / 8 < n = omega arith in
    ap (λ (b : ℕ). b / 2 ^ (7 - (at + j) % 8) % 2) (get_or-take n bytes ((at + j) / 8) 0 here))

-- what is wrong before is what is wrong first
before_first : (a b : Bool) (s l : SectionFault) (rest : Option SectionFault) (fault : SectionFault) →
    section_fault_unless a s (section_fault_unless b l None) ≡ Some fault →
    section_fault_unless a s (section_fault_unless b l rest) ≡ Some fault
before_first true true s l rest fault h = absurd (cc)
before_first true false s l rest fault h = h
before_first false b s l rest fault h = h

-- where nothing is wrong before, it is what is wrong after
before_good : (a b : Bool) (s l : SectionFault) (rest : Option SectionFault) →
    section_fault_unless a s (section_fault_unless b l None) ≡ None → (a ≡ true) × (b ≡ true) ×
    (section_fault_unless a s (section_fault_unless b l rest) ≡ rest)
before_good true true s l rest h = (refl, refl, refl)
before_good true false s l rest h = absurd (cc)
before_good false b s l rest h = absurd (cc)

-- a fault of the first three bytes is the first fault
pub head_is_first : (bytes : List ℕ) (fault : SectionFault) → head_fault bytes ≡ Some fault → section_fault bytes
    ≡ Some fault
unfolding section_fault
head_is_first bytes fault h = before_first (nat_le 3 (length bytes)) (has_long_form bytes) Short Length _ fault h

-- after three good bytes
pub record IsHeadGood (bytes : List ℕ) : Type 0 where
  pub three : 3 ≤ length bytes
  pub long : syntax_of bytes ≡ 1
  pub low : 9 ≤ section_length_of bytes
  pub high : section_length_of bytes ≤ 4093
  pub after : section_fault bytes ≡ section_fault_unless (nat_le (3 + section_length_of bytes) (length bytes)) Short
      (crc_fault (whole_of bytes))

pub head_good : (bytes : List ℕ) → head_fault bytes ≡ None → IsHeadGood bytes
unfolding section_fault
head_good bytes h =
    let before = before_good (nat_le 3 (length bytes)) (has_long_form bytes) Short Length
    (section_fault_unless (nat_le (3 + section_length_of bytes) (length bytes)) Short (crc_fault (whole_of bytes))) h in
    let form = and_parts (syntax_of bytes == 1) (nat_le 9 (section_length_of bytes) && nat_le (section_length_of bytes)
    4093) before.1 in
    let bounds = and_parts (nat_le 9 (section_length_of bytes)) (nat_le (section_length_of bytes) 4093) form.1 in
    record {
      three = leb-true 3 (length bytes) before.0;
      long = eqb-true (syntax_of bytes) 1 form.0;
      low = leb-true 9 (section_length_of bytes) bounds.0;
      high = leb-true (section_length_of bytes) 4093 bounds.1;
      after = before.2;
    }

-- fewer bytes than section_length says
pub short_first : (bytes : List ℕ) (n : ℕ) → head_fault bytes ≡ None → n ≡ section_length_of bytes → length bytes < 3
    + n →
    section_fault bytes ≡ Some Short
short_first bytes n h e short =
    let few : nat_le (3 + section_length_of bytes) (length bytes) ≡ false =
    above_fails (3 + section_length_of bytes) (length bytes) _ refl (omega arith) in
    (head_good bytes h).after ∙ ap (λ (b : Bool). section_fault_unless b Short (crc_fault (whole_of bytes))) few

-- all of them
all_there : (bytes : List ℕ) (n : ℕ) → head_fault bytes ≡ None → n ≡ section_length_of bytes → 3 + n ≤ length bytes →
    section_fault bytes ≡ crc_fault (take (3 + n) bytes)
all_there bytes n h e enough =
    let there : nat_le (3 + section_length_of bytes) (length bytes) ≡ true =
    le-leb (3 + section_length_of bytes) (length bytes) (omega arith) in
    (head_good bytes h).after ∙ (ap (λ (b : Bool). section_fault_unless b Short (crc_fault (whole_of bytes))) there ∙
    ap (λ (k : ℕ). crc_fault (take (3 + k) bytes)) (sym e))

-- a wrong CRC is the first fault where all else is good
pub crc_first : (bytes section : List ℕ) (n : ℕ) (fault : SectionFault) → head_fault bytes ≡ None →
    n ≡ section_length_of bytes →
    3 + n ≤ length bytes →
    section ≡ take (3 + n) bytes → crc_fault section ≡ Some fault → section_fault bytes ≡ Some fault
crc_first bytes section n fault h e enough is wrong = all_there bytes n h e enough ∙ (ap crc_fault (sym is) ∙ wrong)

-- and with a right one nothing is wrong
pub none_wrong : (bytes section : List ℕ) (n : ℕ) → head_fault bytes ≡ None → n ≡ section_length_of bytes →
    3 + n ≤ length bytes →
    section ≡ take (3 + n) bytes → crc_fault section ≡ None → section_fault bytes ≡ None
none_wrong bytes section n h e enough is good = all_there bytes n h e enough ∙ (ap crc_fault (sym is) ∙ good)

no_fault : (test : Bool) (fault : SectionFault) → section_fault_unless test fault None ≡ None → test ≡ true
no_fault true fault h = refl
no_fault false fault h = absurd (cc)

right_crc : (section : List ℕ) → crc_fault section ≡ None → crc_in section ≡ crc_due section
right_crc section h = eqb-true (crc_in section) (crc_due section) (no_fault (crc_in section == crc_due section) _ h)

-- then the section's own bytes have all that a section has
pub record IsGood (section : List ℕ) : Type 0 where
  pub long : syntax_of section ≡ 1
  pub low : 9 ≤ section_length_of section
  pub high : section_length_of section ≤ 4093
  pub whole : length section ≡ 3 + section_length_of section
  pub sealed : crc_in section ≡ crc_due section

pub section_good : (bytes section : List ℕ) (n : ℕ) → head_fault bytes ≡ None → n ≡ section_length_of bytes →
    3 + n ≤ length bytes →
    section ≡ take (3 + n) bytes → crc_fault section ≡ None → IsGood section
section_good bytes section n h e enough is good =
    let head = head_good bytes h in
    let syntax : syntax_of section ≡ syntax_of bytes = rw is (field_take bytes (3 + n) 8 1 (omega arith)) in
    let long : length section ≡ 3 + n = rw is (length-take-le (3 + n) bytes enough) in
    let same : section_length_of section ≡ section_length_of bytes = rw is
    (field_take bytes (3 + n) 12 12 (omega arith)) in
    record {
      long = syntax ∙ head.long;
      low = omega (arith, same, head.low);
      high = omega (arith, same, head.high);
      whole = omega (arith, long, same);
      sealed = right_crc section good;
    }
