-- Sections with a plain header are spelled as this project spells them.
use Rattle.std.proofs.Common.{ℕ, ◌+◌, ◌-◌, ◌≤◌, ◌≡◌, List, ◌++◌, length, take, drop, take-add}
use Rattle.std.proofs.Common.{length-drop, length-append, append_assoc, get_or-drop, sym, ap, ◌∙◌, arith}
use Rattle.std.specs.Int.{w32, to_be_bytes}
use Rattle.std.proofs.lemmas.List.{take_at, take_all, take-append-drop}
use Rattle.sd_section.specs.Header.{crc_of}
use Rattle.sd_section.specs.Header.{section_length_of, body_of, crc_in, crc_due}
use Rattle.sd_section.specs.Written.{header_bytes, with_crc, section_bytes}
use Rattle.sd_section.specs.declared.write.Header.{Header}
use Rattle.sd_section.proofs.Cutting.{body_long}
use Rattle.sd_message.specs.Framed.{header_of, IsPlainHeader}
use Rattle.sd_message.proofs.Numbers.{IsBytes, word_spelled}

-- what stands before the CRC is the header and the body
prefix_spelled : (section : List ℕ) → 12 ≤ length section → IsPlainHeader section →
    take (length section - 4) section ≡ header_bytes (header_of section) (length (body_of section)) ++ body_of section
prefix_spelled section long plain =
    let e : length section - 4 ≡ 8 + (length section - 4 - 8) = omega arith in
    ap (λ (k : ℕ). take k section) e
    ∙ (take-add 8 (length section - 4 - 8) section
    ∙ ap (λ (head : List ℕ). head ++ body_of section) (plain ∙ ap (header_bytes (header_of section))
    (sym (body_long section))))

-- the last four bytes are the CRC
back_spelled : (section : List ℕ) → IsBytes section → 12 ≤ length section →
    to_be_bytes w32 (crc_in section) ≡ drop (length section - 4) section
unfolding crc_in
back_spelled section bytes long =
    let back : List ℕ = drop (length section - 4) section in
    let four : length back ≡ 4 = omega (arith, length-drop (length section - 4) section) in
    let each : IsBytes back = λ i. omega (
      arith,
      get_or-drop (length section - 4) section i 0,
      bytes
          (length section - 4 + i),
    ) in
    word_spelled back 0 each (omega arith) ∙ take_all 4 back (omega arith)

-- a section with a plain header and a right CRC is the section of what its header says, and of its body
pub plain_spelled : (section : List ℕ) → IsBytes section → length section ≡ 3 + section_length_of section →
    9 ≤ section_length_of section →
    IsPlainHeader section → crc_in section ≡ crc_due section → section ≡ section_bytes (header_of section)
    (body_of section)
unfolding section_bytes crc_due
plain_spelled section bytes whole low plain right =
    let prefix : List ℕ = header_bytes (header_of section) (length (body_of section)) ++ body_of section in
    let is_prefix : take (length section - 4) section ≡ prefix = prefix_spelled section (omega arith) plain in
    let after : to_be_bytes w32 (crc_of prefix) ≡ drop (length section - 4) section =
    ap (λ (l : List ℕ). to_be_bytes w32 (crc_of l)) (sym is_prefix)
    ∙ (ap (λ (n : ℕ). to_be_bytes w32 n) (sym right) ∙ back_spelled section bytes (omega arith)) in
    sym (ap (λ (l : List ℕ). prefix ++ l) after ∙ (ap (λ (l : List ℕ). l ++ drop (length section - 4) section)
    (sym is_prefix)
    ∙ take-append-drop (length section - 4) section))

-- the header and the body laid into as many bytes, and sealed
pub section_laid : (header : Header) (body old head first second new : List ℕ) → length old ≡ length body + 12 →
    head ≡ header_bytes header (length body) → first ≡ take 0 old ++ (head ++ drop (0 + length head) old) →
    second ≡ take 8 first ++ (body ++ drop (8 + length body) first) → length second ≡ length first → length first
    ≡ length old →
    new ≡ with_crc (take (length second - 4) second) → new ≡ section_bytes header body
unfolding section_bytes
section_laid header body old head first second new room is_head is_first is_second same_second same_first is_new =
    let eight : length head ≡ 8 = ap length is_head in
    let prefix : take 8 first ≡ head = ap (take 8) is_first ∙ take_at head (drop (0 + length head) old) 8 eight in
    let rest : List ℕ = drop (8 + length body) first in
    let all : second ≡ (head ++ body) ++ rest =
    is_second ∙ (ap (λ (l : List ℕ). l ++ (body ++ rest)) prefix ∙ sym (append_assoc head body rest)) in
    let count : length (head ++ body) ≡ length second - 4 = omega (arith, length-append head body) in
    is_new
    ∙ ap with_crc (ap (take (length second - 4)) all ∙ (take_at (head ++ body) rest (length second - 4) count
    ∙ ap (λ (l : List ℕ). l ++ body) is_head))
