-- What is read from a PMT's section whose lengths and whose loops are others.
use Rattle.std.proofs.Common.{ℕ, ◌+◌, ◌-◌, ◌/◌, ◌%◌, ◌<◌, ◌≤◌, ◌≡◌, true, false, List, [], ◌∷◌, ◌++◌, length, take}
use Rattle.std.proofs.Common.{drop, get_or, length-append, length-drop, length-take, length-take-le, inl, inr, refl}
use Rattle.std.proofs.Common.{sym, ap, ◌∙◌, arith}
use Rattle.std.specs.Prelude.{slice_range}
use Rattle.std.proofs.lemmas.Bool.{le-leb, cases_lt}
use Rattle.std.proofs.lemmas.List.{take_at, drop_at, drop-drop, drop-take, take-take}
use Rattle.std.proofs.lemmas.Slice.Eq.{bytes_eq-Decides}
use Rattle.sd_base.specs.Bits.{field}
use Rattle.sd_base.proofs.Words.{byte_field}
use Rattle.sd_section.specs.Header.{table_id_of, syntax_of, section_length_of, section_number_of, last_number_of}
use Rattle.sd_section.specs.Header.{body_of}
use Rattle.sd_section.specs.Header.{crc_in, crc_due}
use Rattle.sd_section.specs.Written.{with_crc}
use Rattle.sd_section.proofs.Judging.{field_take}
use Rattle.sd_section.proofs.Spelling.{crc_is_read, crc_is_due}
use Rattle.sd_section.proofs.Cutting.{body_long}
use Rattle.sd_psi.specs.declared.items.Kind.TheVariants.{Descriptor}
use Rattle.sd_psi.specs.Items.{item_size, items_of}
use Rattle.sd_psi.specs.Tables.{are_descriptors, info_length_of, info_of, loop_of, has_info, are_streams, is_pmt}
use Rattle.sd_psi.specs.Rewriting.{ca_descriptor, with_lengths, section_with_descriptor, section_without_descriptor}
use Rattle.sd_psi.specs.Rewriting.{is_first_descriptor}
use Rattle.sd_psi.proofs.Cutting.{first_cut, first_whole, first_off}
use Rattle.sd_psi.proofs.Listing.{pmt_by_parts, pmt_parts, IsPmt}
use Rattle.sd_psi.proofs.Packets.{info_begins}
use Rattle.sd_psi.proofs.Moving.{take_after}
use Rattle.sd_psi.proofs.Heads.{IsHead}
use Rattle.sd_psi.proofs.Undoing.{sealed_field, sealed_long, sealed_between, IsRightPmt, other_head}

-- the CRC of sealed bytes is the one due
pub sealed_right : (bytes : List ℕ) → crc_in (with_crc bytes) ≡ crc_due (with_crc bytes)
sealed_right bytes = crc_is_read bytes ∙ sym (crc_is_due bytes)

-- what stands between the first twelve bytes and the CRC
abbrev pub loops_of : List ℕ → List ℕ
loops_of section = slice_range section 12 (length section - 4)

after_lengths : (section : List ℕ) → 16 ≤ length section → drop 4 (body_of section) ≡ loops_of section
after_lengths section long =
    let count : length section - 4 - 8 ≡ 4 + (length section - 4 - 12) = omega arith in
    ap (λ (n : ℕ). drop 4 (take n (drop 8 section))) count
    ∙ (drop-take 4 (length section - 4 - 12) (drop 8 section) ∙ ap (take (length section - 4 - 12))
    (drop-drop 4 8 section))

pub info_is : (section : List ℕ) → 16 ≤ length section → info_of section ≡ take (info_length_of section)
    (loops_of section)
unfolding info_of
info_is section long = ap (take (info_length_of section)) (after_lengths section long)

pub loop_is : (section : List ℕ) → 16 ≤ length section → loop_of section ≡ drop (info_length_of section)
    (loops_of section)
unfolding loop_of
loop_is section long =
    sym (drop-drop (info_length_of section) 4 (body_of section)) ∙ ap (drop (info_length_of section))
    (after_lengths section long)

loops_long : (section : List ℕ) → 16 ≤ length section → length (loops_of section) ≡ length section - 16
loops_long section long = length-take-le (length section - 4 - 12) (drop 12 section)
    (omega (arith, length-drop 12 section)) ∙ omega arith

-- a section that is good but for its packet
pub record IsShaped (old new : List ℕ) : Type 0 where
  pub long : length new ≡ 3 + section_length_of new
  pub low : 16 + info_length_of new ≤ length new
  pub id : table_id_of new ≡ table_id_of old
  pub syntax : syntax_of new ≡ syntax_of old
  pub number : section_number_of new ≡ section_number_of old
  pub last_number : last_number_of new ≡ last_number_of old
  pub right : crc_in new ≡ crc_due new
  pub info : info_of new ≡ take (info_length_of new) (loops_of new)
  pub streams : loop_of new ≡ drop (info_length_of new) (loops_of new)

-- the section with other lengths and other loops
module _ (section rest : List ℕ) (a b : ℕ) (is_right : IsRightPmt section) (long : a ≡ 13 + length rest)
    (few : a < 4096) (low : b ≤ length rest) where
  other : List ℕ
  other = with_crc (with_lengths a b (take 12 section) ++ rest)

  head : IsHead a b (take 12 section) (with_lengths a b (take 12 section))
  head = other_head section is_right a b few (omega arith)

  same_field : (at width : ℕ) → at + width ≤ 96 → field (with_crc (with_lengths a b (take 12 section) ++ rest)) at width
      ≡ field (with_lengths a b (take 12 section)) at width
  same_field at width h = sealed_field (with_lengths a b (take 12 section)) rest at width head.long h

  pub other_loops : loops_of (with_crc (with_lengths a b (take 12 section) ++ rest)) ≡ rest
  other_loops = sealed_between (with_lengths a b (take 12 section)) rest 12 head.long

  pub other_info_length : info_length_of (with_crc (with_lengths a b (take 12 section) ++ rest)) ≡ b
  other_info_length = same_field 84 12 (omega arith) ∙ head.info

  pub shaped : IsShaped section (with_crc (with_lengths a b (take 12 section) ++ rest))
  shaped =
      let count = sealed_long (with_lengths a b (take 12 section)) rest head.long in
      let lengths : section_length_of (with_crc (with_lengths a b (take 12 section) ++ rest)) ≡ a = same_field 12 12
      (omega arith) ∙ head.section in
      let was : (at width : ℕ) → at + width ≤ 96 → field (take 12 section) at width ≡ field section at width = λ at
      width h. field_take section 12 at width h in
      record {
        long = omega arith;
        low = omega (arith, other_info_length);
        id = same_field 0 8 (omega arith) ∙ (head.id ∙ was 0 8 (omega arith));
        syntax = same_field 8 1 (omega arith) ∙ (head.syntax ∙ was 8 1 (omega arith));
        number = same_field 48 8 (omega arith) ∙ (head.number ∙ was 48 8 (omega arith));
        last_number = same_field 56 8 (omega arith) ∙ (head.last_number ∙ was 56 8 (omega arith));
        right = sealed_right (with_lengths a b (take 12 section) ++ rest);
        info = info_is (with_crc (with_lengths a b (take 12 section) ++ rest)) (omega arith);
        streams = loop_is (with_crc (with_lengths a b (take 12 section) ++ rest)) (omega arith);
      }

-- a section that is shaped so has its program_info
pub shaped_has : (old new : List ℕ) → IsShaped old new → has_info new ≡ true
unfolding has_info
shaped_has old new is =
    let count = body_long new in
    rw (le-leb 4 (length (body_of new)) (omega (arith, is.low)))
    (le-leb (4 + info_length_of new) (length (body_of new)) (omega (arith, is.low)))

shaped_pmt : (old new : List ℕ) → IsShaped old new → IsPmt old → are_descriptors (info_of new) ≡ true →
    loop_of new ≡ loop_of old → is_pmt new ≡ true
shaped_pmt old new is pmt descriptors streams =
    pmt_by_parts new (is.id ∙ pmt.id) (shaped_has old new is) descriptors (ap are_streams streams ∙ pmt.streams)

-- the project's descriptor says that it has six bytes
six_bytes : (ca pid : ℕ) (rest : List ℕ) → item_size Descriptor (ca_descriptor ca pid ++ rest) ≡ 6
unfolding ca_descriptor item_size
six_bytes ca pid rest = omega (
  arith,
  byte_field (9 ∷ 4 ∷ ca / 256 ∷ ca % 256 ∷ (0xE0 + pid / 256) ∷ pid % 256 ∷ rest) 1
      (omega arith),
)

pub six_long : (ca pid : ℕ) → length (ca_descriptor ca pid) ≡ 6
unfolding ca_descriptor
six_long ca pid = refl

-- the section with the descriptor
pub record IsInserted (ca pid : ℕ) (section new : List ℕ) : Type 0 where
  pub shape : IsShaped section new
  pub form : is_pmt new ≡ true
  pub first : is_first_descriptor (ca_descriptor ca pid) new ≡ true

pub inserted_shape : (ca pid : ℕ) (section : List ℕ) → IsRightPmt section → is_pmt section ≡ true →
    length section ≤ 177 →
    IsInserted ca pid section (section_with_descriptor (ca_descriptor ca pid) section)
unfolding section_with_descriptor
inserted_shape ca pid section is_right pmt room =
    let descriptor : List ℕ = ca_descriptor ca pid in
    let rest : List ℕ = descriptor ++ loops_of section in
    let a : ℕ = section_length_of section + 6 in
    let b : ℕ = info_length_of section + 6 in
    let new : List ℕ = with_crc (with_lengths a b (take 12 section) ++ rest) in
    let count = loops_long section (omega (arith, is_right.info)) in
    let six = six_long ca pid in
    let long : a ≡ 13 + length rest = omega (
      arith,
      is_right.long,
      is_right.info,
      length-append descriptor
          (loops_of section),
    ) in
    let few : a < 4096 = omega (arith, is_right.long) in
    let low : b ≤ length rest = omega (arith, is_right.info, length-append descriptor (loops_of section)) in
    let shape : IsShaped section new = shaped section rest a b is_right long few low in
    let infos : info_length_of new ≡ b = other_info_length section rest a b is_right long few low in
    let loops : loops_of new ≡ rest = other_loops section rest a b is_right long few low in
    let less : b - length descriptor ≡ info_length_of section = omega arith in
    let info : info_of new ≡ descriptor ++ info_of section =
    shape.info ∙ (ap (λ (n : ℕ). take n (loops_of new)) infos ∙ (ap (take b) loops
    ∙ (take_after descriptor (loops_of section) b (omega arith)
    ∙ (ap (λ (n : ℕ). descriptor ++ take n (loops_of section)) less ∙ ap (λ (l : List ℕ). descriptor ++ l)
    (sym (info_is section (omega (arith, is_right.info)))))))) in
    let split : drop b rest ≡ drop (info_length_of section) (drop 6 rest) = sym
    (drop-drop (info_length_of section) 6 rest ∙ ap (λ (n : ℕ). drop n rest) (omega arith)) in
    let streams : loop_of new ≡ loop_of section =
    shape.streams ∙ (ap (λ (n : ℕ). drop n (loops_of new)) infos ∙ (ap (drop b) loops
    ∙ (split ∙ (ap (drop (info_length_of section)) (drop_at descriptor (loops_of section) 6 six) ∙
    sym (loop_is section (omega (arith, is_right.info))))))) in
    let parts = pmt_parts section pmt in
    let some : 0 < length (descriptor ++ info_of section) = omega (arith, length-append descriptor (info_of section)) in
    let size = six_bytes ca pid (info_of section) in
    let descriptors : are_descriptors (info_of new) ≡ true =
    ap are_descriptors info
    ∙ (first_whole Descriptor (descriptor ++ info_of section) some
    (omega (arith, length-append descriptor (info_of section)))
    ∙ (ap (λ (n : ℕ). are_descriptors (drop n (descriptor ++ info_of section))) size
    ∙ (ap are_descriptors (drop_at descriptor (info_of section) 6 six) ∙ parts.info))) in
    let first : get_or (items_of Descriptor (info_of new)) 0 [] ≡ descriptor =
    ap (λ (l : List ℕ). get_or (items_of Descriptor l) 0 []) info
    ∙ (ap (λ (l : List (List ℕ)). get_or l 0 []) (first_cut Descriptor (descriptor ++ info_of section) some)
    ∙ (ap (λ (n : ℕ). take n (descriptor ++ info_of section)) size ∙ take_at descriptor (info_of section) 6 six)) in
    record {
      shape = shape;
      form = shaped_pmt section new shape parts descriptors streams;
      first = (bytes_eq-Decides (get_or (items_of Descriptor (info_of new)) 0 []) descriptor).1 first;
    }

-- the first descriptor has six bytes where it is one of six
pub record IsSix (descriptor section : List ℕ) : Type 0 where
  pub counted : 6 ≤ info_length_of section
  pub size : item_size Descriptor (info_of section) ≡ 6
  pub some : 6 ≤ length (info_of section)
  pub is : take 6 (drop 12 section) ≡ descriptor

pub first_six : (descriptor section : List ℕ) → IsRightPmt section → is_first_descriptor descriptor section ≡ true →
    length descriptor ≡ 6 →
    are_descriptors (info_of section) ≡ true → IsSix descriptor section
first_six descriptor section is_right first six whole =
    let info : List ℕ = info_of section in
    let before = info_begins descriptor section first six in
    let some : 6 ≤ length info = before.some in
    let there : item_size Descriptor info ≤ length info = elim (cases_lt (length info) (item_size Descriptor info)) [
      | inl over ↦ let off : are_descriptors info ≡ false = first_off Descriptor info (omega arith) over in absurd (cc)
      | inr within ↦ within
    ] in
    let size : item_size Descriptor info ≡ 6 =
    sym (length-take-le (item_size Descriptor info) info there) ∙ (ap (λ (l : List ℕ). length l) before.is ∙ six) in
    let info_there : info ≡ take (info_length_of section) (loops_of section) = info_is section
    (omega (arith, is_right.info)) in
    let counted : 6 ≤ info_length_of section =
    omega (arith, ap (λ (l : List ℕ). length l) info_there, length-take (info_length_of section) (loops_of section)) in
    let part : take 6 info ≡ take 6 (drop 12 section) =
    ap (take 6) info_there
    ∙ (take-take 6 (info_length_of section) (loops_of section) counted
    ∙ take-take 6 (length section - 4 - 12) (drop 12 section) (omega (arith, is_right.info))) in
    record {
      counted = counted;
      size = size;
      some = some;
      is = sym part ∙ (ap (λ (n : ℕ). take n info) (sym size) ∙ before.is);
    }

-- the section without it
pub record IsRemoved (section new : List ℕ) : Type 0 where
  pub shape : IsShaped section new
  pub form : is_pmt new ≡ true

pub removed_shape : (descriptor section : List ℕ) → IsRightPmt section → is_pmt section ≡ true →
    IsSix descriptor section → IsRemoved section (section_without_descriptor section)
unfolding section_without_descriptor
removed_shape descriptor section is_right pmt six =
    let rest : List ℕ = slice_range section 18 (length section - 4) in
    let a : ℕ = section_length_of section - 6 in
    let b : ℕ = info_length_of section - 6 in
    let new : List ℕ = with_crc (with_lengths a b (take 12 section) ++ rest) in
    let width : length section - 4 - 12 ≡ 6 + (length section - 4 - 18) = omega (arith, is_right.info, six.counted) in
    let after : drop 6 (loops_of section) ≡ rest =
    ap (λ (n : ℕ). drop 6 (take n (drop 12 section))) width
    ∙ (drop-take 6 (length section - 4 - 18) (drop 12 section) ∙ ap (take (length section - 4 - 18))
    (drop-drop 6 12 section)) in
    let count : length rest ≡ length section - 22 =
    length-take-le (length section - 4 - 18) (drop 18 section) (omega (arith, length-drop 18 section)) ∙ omega arith in
    let long : a ≡ 13 + length rest = omega (arith, is_right.long, is_right.info, six.counted) in
    let few : a < 4096 = omega (arith, is_right.long, is_right.few) in
    let low : b ≤ length rest = omega (arith, is_right.info, six.counted) in
    let shape : IsShaped section new = shaped section rest a b is_right long few low in
    let infos : info_length_of new ≡ b = other_info_length section rest a b is_right long few low in
    let loops : loops_of new ≡ rest = other_loops section rest a b is_right long few low in
    let more : info_length_of section ≡ 6 + b = omega (arith, six.counted) in
    let info : info_of new ≡ drop 6 (info_of section) =
    shape.info ∙ (ap (λ (n : ℕ). take n (loops_of new)) infos ∙ (ap (take b) (loops ∙ sym after)
    ∙ (sym (drop-take 6 b (loops_of section)) ∙ (ap (λ (n : ℕ). drop 6 (take n (loops_of section))) (sym more) ∙
    ap (drop 6) (sym (info_is section (omega (arith, is_right.info)))))))) in
    let streams : loop_of new ≡ loop_of section =
    shape.streams ∙ (ap (λ (n : ℕ). drop n (loops_of new)) infos ∙ (ap (drop b) (loops ∙ sym after)
    ∙ (drop-drop b 6 (loops_of section) ∙
    (ap (λ (n : ℕ). drop n (loops_of section)) (sym more) ∙
    sym (loop_is section (omega (arith, is_right.info))))))) in
    let parts = pmt_parts section pmt in
    let whole = first_whole Descriptor (info_of section) (omega (arith, six.some))
    (omega (arith, six.size, six.some)) in
    let descriptors : are_descriptors (info_of new) ≡ true =
    ap are_descriptors info
    ∙ (ap (λ (n : ℕ). are_descriptors (drop n (info_of section))) (sym six.size) ∙ (sym whole ∙ parts.info)) in
    record { shape = shape; form = shaped_pmt section new shape parts descriptors streams }
