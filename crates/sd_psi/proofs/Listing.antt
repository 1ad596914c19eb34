-- What is read from the items of a table.
use Rattle.std.proofs.Common.{ℕ, ◌+◌, ◌-◌, ◌<◌, ◌≤◌, ◌≡◌, Bool, true, false, ◌==◌, ◌&&◌, List, [], ◌∷◌, length, take}
use Rattle.std.proofs.Common.{drop, map, length-drop, length-take-le, eq-eqb, refl, sym, ap, ◌∙◌, arith}
use Rattle.std.specs.Prelude.{◌≢◌}
use Rattle.std.specs.List.{list_all}
use Rattle.std.proofs.lemmas.List.{drop-take, drop-drop, take_rest}
use Rattle.std.proofs.lemmas.Bool.{and_parts, eqb-true, ne_eqb, false_from_ne_true}
use Rattle.sd_base.specs.Bits.{field}
use Rattle.sd_section.specs.Header.{table_id_of, body_of}
use Rattle.sd_psi.specs.declared.items.Kind.TheVariants.{Program, Descriptor, Stream}
use Rattle.sd_psi.specs.Items.{item_size, items_of, is_whole_item, are_whole}
use Rattle.sd_psi.specs.Tables.{are_descriptors, program_of, programs_in, pmt_pids_in, is_pat, is_cat, has_info}
use Rattle.sd_psi.specs.Tables.{info_of, loop_of, stream_of, streams_in, is_stream, are_streams, is_pmt}
use Rattle.sd_psi.proofs.Cutting.{items_after, size_itself, off_after, none_cut}

-- a PAT's programs fill its body
pub pat_body : (section : List ℕ) → is_pat section ≡ true → are_whole Program (body_of section) ≡ true
pat_body section h = (and_parts (table_id_of section == 0) (are_whole Program (body_of section)) h).1

-- a CAT's descriptors fill its body
pub cat_body : (section : List ℕ) → is_cat section ≡ true → are_whole Descriptor (body_of section) ≡ true
cat_body section h = (and_parts (table_id_of section == 1) (are_whole Descriptor (body_of section)) h).1

-- the first program is read from its item, and the others stand after it
pub program_first : (bytes rest program : List ℕ) (number pid : ℕ) → items_of Program bytes ≡ program ∷ items_of Program
    rest →
    number ≡ field program 0 16 → pid ≡ field program 19 13 → programs_in bytes ≡ (number, pid) ∷ programs_in rest
program_first bytes rest program number pid cut is_number is_pid =
    rw (is_number, is_pid) (ap (map program_of) cut)

pub no_program : (bytes : List ℕ) → items_of Program bytes ≡ [] → programs_in bytes ≡ []
no_program bytes none = ap (map program_of) none

-- no programs give no PID, program 0 gives none, and each other its own
pub no_pids : (programs : List (ℕ × ℕ)) → programs ≡ [] → pmt_pids_in programs ≡ []
unfolding pmt_pids_in
no_pids programs none = rw none refl

pub pid_passed : (programs rest : List (ℕ × ℕ)) (program : ℕ × ℕ) → programs ≡ program ∷ rest → program.0 ≡ 0 →
    pmt_pids_in programs ≡ pmt_pids_in rest
unfolding pmt_pids_in
pid_passed programs rest program first none = rw first (rw none refl)

pub pid_given : (programs rest : List (ℕ × ℕ)) (program : ℕ × ℕ) → programs ≡ program ∷ rest → program.0 ≢ 0 →
    pmt_pids_in programs ≡ program.1 ∷ pmt_pids_in rest
unfolding pmt_pids_in
pid_given programs rest program first other = rw first (rw (ne_eqb program.0 0 other) refl)

-- so where one is another there is a PID
pub some_pid : (programs rest : List (ℕ × ℕ)) (program : ℕ × ℕ) → programs ≡ program ∷ rest → program.0 ≢ 0 →
    pmt_pids_in programs ≡ [] → ⊥
some_pid programs rest program first other none =
    let given = pid_given programs rest program first other in
    absurd (cc)

-- a PMT by its parts
pub pmt_by_parts : (section : List ℕ) → table_id_of section ≡ 2 → has_info section ≡ true →
    are_descriptors (info_of section) ≡ true →
    are_streams (loop_of section) ≡ true → is_pmt section ≡ true
unfolding is_pmt
pmt_by_parts section id info descriptors streams = rw (id, info, descriptors, streams) refl

-- what fails where a section is no PMT
pub record IsPmt (section : List ℕ) : Type 0 where
  pub id : table_id_of section ≡ 2
  pub has : has_info section ≡ true
  pub info : are_descriptors (info_of section) ≡ true
  pub streams : are_streams (loop_of section) ≡ true

pub pmt_parts : (section : List ℕ) → is_pmt section ≡ true → IsPmt section
unfolding is_pmt
pmt_parts section h =
    let first = and_parts (table_id_of section == 2)
    (has_info section && (are_descriptors (info_of section) && are_streams (loop_of section))) h in
    let second = and_parts (has_info section) (are_descriptors (info_of section) && are_streams (loop_of section))
    first.1 in
    let third = and_parts (are_descriptors (info_of section)) (are_streams (loop_of section)) second.1 in
    record { id = eqb-true (table_id_of section) 2 first.0; has = second.0; info = third.0; streams = third.1 }

pub no_pmt : (section : List ℕ) → (IsPmt section → ⊥) → is_pmt section ≡ false
no_pmt section h = false_from_ne_true (is_pmt section) (λ is. h (pmt_parts section is))

-- a stream has five bytes before its descriptors
pub stream_head : (bytes : List ℕ) → 5 ≤ item_size Stream bytes
unfolding item_size
stream_head bytes = omega arith

-- streams that are filled are as long as they say
all_whole : (items : List (List ℕ)) → list_all is_stream items ≡ true → list_all (is_whole_item Stream) items ≡ true
all_whole [] h = refl
all_whole (x ∷ xs) h =
    let parts = and_parts (is_stream x) (list_all is_stream xs) h in
    let first = and_parts (is_whole_item Stream x) (are_descriptors (drop 5 x)) parts.0 in
    rw first.0 (all_whole xs parts.1)

pub streams_whole : (bytes : List ℕ) → are_streams bytes ≡ true → are_whole Stream bytes ≡ true
unfolding are_streams are_whole
streams_whole bytes h = all_whole (items_of Stream bytes) h

-- the first stream is read from its item, and the others stand after it
pub stream_first : (bytes rest item : List ℕ) → items_of Stream bytes ≡ item ∷ items_of Stream rest →
    streams_in bytes ≡ stream_of item ∷ streams_in rest
stream_first bytes rest item cut = ap (map stream_of) cut

pub no_stream : (bytes : List ℕ) → items_of Stream bytes ≡ [] → streams_in bytes ≡ []
no_stream bytes none = ap (map stream_of) none

-- its descriptors are whole, and so are the streams after it
first_parts : (bytes rest item : List ℕ) → are_streams bytes ≡ true → items_of Stream bytes ≡ item ∷ items_of Stream
    rest →
    (is_stream item ≡ true) × (are_streams rest ≡ true)
unfolding are_streams
first_parts bytes rest item whole cut =
    and_parts (is_stream item) (list_all is_stream (items_of Stream rest)) (sym (ap (list_all is_stream) cut) ∙ whole)

pub info_first : (bytes rest item : List ℕ) → are_streams bytes ≡ true → items_of Stream bytes ≡ item ∷ items_of Stream
    rest →
    are_descriptors (drop 5 item) ≡ true
info_first bytes rest item whole cut =
    (and_parts (is_whole_item Stream item) (are_descriptors (drop 5 item)) (first_parts bytes rest item whole cut).0).1

pub streams_left : (bytes rest item : List ℕ) → are_streams bytes ≡ true → items_of Stream bytes ≡ item
    ∷ items_of Stream rest →
    are_streams rest ≡ true
streams_left bytes rest item whole cut = (first_parts bytes rest item whole cut).1

-- the streams after a place where one of so many bytes stands
streams_first : (bytes : List ℕ) (at size : ℕ) → at < length bytes →
    size ≡ item_size Stream (take (length bytes - at) (drop at bytes)) →
    size ≤ length bytes - at →
    are_streams (drop at bytes)
    ≡ (are_descriptors (drop 5 (take size (drop at bytes))) && are_streams (drop (at + size) bytes))
unfolding are_streams
streams_first bytes at size within is there =
    let long : length (take size (drop at bytes)) ≡ item_size Stream (take size (drop at bytes)) =
    length-take-le size (drop at bytes) (omega (arith, length-drop at bytes)) ∙
    sym (size_itself Stream bytes at size is) in
    ap (list_all is_stream) (items_after Stream bytes at size within is)
    ∙ ap (λ (b : Bool). (b && are_descriptors (drop 5 (take size (drop at bytes)))) && list_all is_stream
    (items_of Stream (drop (at + size) bytes))) (eq-eqb _ _ long)

-- the part of it that its descriptors are to fill
stream_part : (bytes : List ℕ) (at size : ℕ) → 5 ≤ size → drop 5 (take size (drop at bytes))
    ≡ take (at + size - (at + 5)) (drop (at + 5) bytes)
stream_part bytes at size h =
    let count : size ≡ 5 + (size - 5) = omega arith in
    let same : at + size - (at + 5) ≡ size - 5 = omega arith in
    ap (λ (n : ℕ). drop 5 (take n (drop at bytes))) count
    ∙ (drop-take 5 (size - 5) (drop at bytes) ∙
    (ap (take (size - 5)) (drop-drop 5 at bytes) ∙ ap (λ (n : ℕ). take n (drop (at + 5) bytes)) (sym same)))

streams_after : (bytes : List ℕ) (at size : ℕ) (test : Bool) → at < length bytes →
    size ≡ item_size Stream (take (length bytes - at) (drop at bytes)) →
    size ≤ length bytes - at → are_descriptors (take (at + size - (at + 5)) (drop (at + 5) bytes)) ≡ test →
    are_streams (drop at bytes) ≡ (test && are_streams (drop (at + size) bytes))
streams_after bytes at size test within is there filled =
    let head : 5 ≤ size = omega (arith, stream_head (take (length bytes - at) (drop at bytes))) in
    streams_first bytes at size within is there
    ∙ ap (λ (b : Bool). b && are_streams (drop (at + size) bytes))
    (ap are_descriptors (stream_part bytes at size head) ∙ filled)

pub streams_on : (bytes : List ℕ) (at size : ℕ) → at < length bytes →
    size ≡ item_size Stream (take (length bytes - at) (drop at bytes)) →
    size ≤ length bytes - at → are_descriptors (take (at + size - (at + 5)) (drop (at + 5) bytes)) ≡ true →
    are_streams (drop at bytes) ≡ are_streams (drop (at + size) bytes)
streams_on bytes at size within is there filled = streams_after bytes at size true within is there filled

pub streams_bad : (bytes : List ℕ) (at size : ℕ) → at < length bytes →
    size ≡ item_size Stream (take (length bytes - at) (drop at bytes)) →
    size ≤ length bytes - at → are_descriptors (take (at + size - (at + 5)) (drop (at + 5) bytes)) ≡ false →
    are_streams (drop at bytes) ≡ false
streams_bad bytes at size within is there filled = streams_after bytes at size false within is there filled

-- where a stream is cut off, they don't fill the bytes
untrue : (test : Bool) → test ≡ true → (test ≡ false) → ⊥
untrue true h e = absurd (cc)
untrue false h e = absurd (cc)

pub streams_off : (bytes : List ℕ) (at : ℕ) → at < length bytes → length bytes - at < item_size Stream
    (take (length bytes - at) (drop at bytes)) →
    are_streams (drop at bytes) ≡ false
streams_off bytes at within off =
    false_from_ne_true (are_streams (drop at bytes))
    (λ is. untrue (are_whole Stream (drop at bytes)) (streams_whole (drop at bytes) is)
    (off_after Stream bytes at within off))

-- how many bytes are left
pub left_long : (bytes : List ℕ) (at : ℕ) → length (take (length bytes - at) (drop at bytes)) ≡ length bytes - at
left_long bytes at = ap (λ (l : List ℕ). length l) (take_rest bytes at) ∙ length-drop at bytes

-- where what is left is no stream, it is cut off
pub streams_short : (bytes : List ℕ) (at : ℕ) → at < length bytes → length (take (length bytes - at) (drop at bytes))
    < item_size Stream (take (length bytes - at) (drop at bytes)) → are_streams (drop at bytes) ≡ false
streams_short bytes at within off = streams_off bytes at within (omega (arith, off, left_long bytes at))

-- a stream's descriptors stand after its head, and it ends within the bytes, nearer to their end
pub past_head : (rest : List ℕ) (at size : ℕ) → size ≡ item_size Stream rest → at + 5 ≤ at + size
past_head rest at size is = omega (arith, is, stream_head rest)

pub ends_within : (at size count : ℕ) → at < count → size ≤ count - at → at + size ≤ count
ends_within at size count within there = omega (arith, within, there)

pub fewer_left : (rest : List ℕ) (at size count : ℕ) → at < count → size ≡ item_size Stream rest →
    count - (at + size) < count - at
fewer_left rest at size count within is = omega (arith, within, is, stream_head rest)

-- no bytes have no stream
pub no_streams : (bytes : List ℕ) (at : ℕ) → length bytes ≤ at → are_streams (drop at bytes) ≡ true
unfolding are_streams
no_streams bytes at past = ap (list_all is_stream)
    (none_cut Stream (drop at bytes) (omega (arith, length-drop at bytes)))

-- what a PMT has
pub pmt_has : (section : List ℕ) → is_pmt section ≡ true → has_info section ≡ true
pmt_has section h = (pmt_parts section h).has

pub pmt_info : (section : List ℕ) → is_pmt section ≡ true → are_whole Descriptor (info_of section) ≡ true
pmt_info section h = (pmt_parts section h).info

pub pmt_streams : (section : List ℕ) → is_pmt section ≡ true → are_streams (loop_of section) ≡ true
pmt_streams section h = (pmt_parts section h).streams
