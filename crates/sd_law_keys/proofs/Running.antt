-- The positions of a message stand in ascending order of their PIDs.
use Rattle.std.proofs.Common.{◌≡◌, ℕ, ◌+◌, ◌==◌, ◌&&◌, ◌≤◌, Bool, true, false, nat_lt, not, List, [], ◌∷◌}
use Rattle.std.proofs.Common.{length, Some, None, refl, sym, ap, subst, ◌∙◌, arith}
use Rattle.std.specs.Prelude.{Option, Result, Ok, Err, drop, slice_index, flat_map, reverse, if◌then◌else◌}
use Rattle.std.proofs.lemmas.Bool.{and_parts}
use Rattle.std.proofs.lemmas.Bool.Decides.{nat_tests}
use Rattle.std.proofs.lemmas.List.{length-append}
use Rattle.sd_packet.specs.Header.{pid_of}
use Rattle.sd_psi.specs.declared.our_cat.Tuning.{Tuning}
use Rattle.sd_site_cards.specs.CardFields.{CardFields}
use Rattle.sd_section.specs.Header.{table_id_of, body_of}
use Rattle.sd_message.specs.Framed.{section_of}
use Rattle.sd_message.specs.EcmSpelled.{listed_places}
use Rattle.sd_message.specs.EcmFields.{ecm_in, ecm_of, body_flags, from_flags, ecm_position_in, ecm_positions_in}
use Rattle.sd_message.specs.EcmFields.{ecm_version_of}
use Rattle.sd_message.specs.EcmVersions.{most_places, most_positions}
use Rattle.sd_message.proofs.Items.{length_items}
use Rattle.sd_message.proofs.Pieces.{filled_length}
use Rattle.sd_message.proofs.Versions.{few_positions}
use Rattle.sd_message.specs.EcmForm.{ArePidsAscending, no_place}
use Rattle.sd_message.specs.EcmParts.{Message}
use Rattle.sd_message.specs.EmmJudged.{emm_read}
use Rattle.sd_message.specs.EcmJudged.{are_positioned, ecm_judged, ecm_read, has_ecm, is_ascending_by_pid, is_count_due}
use Rattle.sd_message.specs.EcmJudged.{is_matched}
use Rattle.sd_message.specs.declared.emm.Emm.{Emm}
use Rattle.sd_message.specs.declared.emm_fault.EmmFault.{EmmFault}
use Rattle.sd_message.specs.declared.ecm_part.EcmPart.{EcmPart}
use Rattle.sd_message.specs.declared.ecm_fault.EcmFault.{EcmFault}
use Rattle.sd_message.specs.declared.ecm_fault.EcmFault.TheVariants.{Count, Order, Mixed, Pid}
use Rattle.sd_message.proofs.EcmDeciding.{read_form}
use Rattle.sd_spec.specs.Heard.{Heard, Dropped, Controls, Other, heard_emm, heard_ecm, hears}
use Rattle.sd_spec.specs.Stretches.{Stretch, counted_parts, exceeds, message_told, newest_message, run_of_parts}
use Rattle.sd_spec.specs.Stretches.{message_parts_to, message_parts_with}
use Rattle.sd_spec.specs.Offered.{part_fault, is_after}
use Rattle.sd_receive.specs.PartialEcm.{IsPart, IsPartialEcm, part_positions}
use Rattle.sd_receive.proofs.Gathering.{as_many, grows, is_mixed_with, none_gathered}
use Rattle.sd_law_keys.specs.Written.{IsHeardIn}

-- what is heard as a part is read as that part
no_emm_part : (r : Result (Option Emm) EmmFault) (part : EcmPart) → heard_emm r ≡ Controls part → ⊥
no_emm_part (Ok None) part is = absurd cc
no_emm_part (Ok (Some emm)) part is = absurd cc
no_emm_part (Err fault) part is = absurd cc

ecm_part : (r : Result (Option EcmPart) EcmFault) (part : EcmPart) → heard_ecm r ≡ Controls part → r ≡ Ok (Some part)
ecm_part (Ok None) part is = absurd cc
ecm_part (Ok (Some other)) part is =
    let same : other ≡ part = cc in ap (λ (p : EcmPart). Ok (Some p)) same
ecm_part (Err fault) part is = absurd cc

part_by : (a b c : Bool) (emm : Result (Option Emm) EmmFault) (ecm : Result (Option EcmPart) EcmFault) (n : ℕ)
    (packet : List ℕ) (part : EcmPart)
    → (if a then Dropped else if b then heard_emm emm else if c then heard_ecm ecm else Other n packet) ≡ Controls part
    → ecm ≡ Ok (Some part)
part_by true b c emm ecm n packet part is = absurd cc
part_by false true c emm ecm n packet part is = absurd (no_emm_part emm part is)
part_by false false true emm ecm n packet part is = ecm_part ecm part is
part_by false false false emm ecm n packet part is = absurd cc

part_read : (h : ℕ) (tuning : Tuning) (n : ℕ) (packet : List ℕ) (part : EcmPart)
    → hears h tuning n packet ≡ Controls part → ecm_read packet ≡ Ok (Some part)
unfolding hears
part_read h tuning n packet part is =
    part_by (pid_of packet == 1) (pid_of packet == tuning.emm) (pid_of packet == tuning.ecm) (emm_read h packet)
    (ecm_read packet) n packet part is

-- a part that is read has all its places
same_part : (has a b c d : Bool) (one part : EcmPart)
    → (if has then (if a then Err Count else if b then Err Pid else if c then Err Order else if d then Err Mixed
    else Ok (Some one)) else Ok None) ≡ Ok (Some part) → one ≡ part
same_part false a b c d one part is = absurd cc
same_part true true b c d one part is = absurd cc
same_part true false true c d one part is = absurd cc
same_part true false false true d one part is = absurd cc
same_part true false false false true one part is = absurd cc
same_part true false false false false one part is = cc

part_is : (packet : List ℕ) (part : EcmPart) → ecm_read packet ≡ Ok (Some part) → ecm_of (section_of packet) ≡ part
unfolding ecm_read ecm_judged
part_is packet part is =
    let one : EcmPart = ecm_of (section_of packet) in
    let body : List ℕ = body_of (section_of packet) in
    same_part (has_ecm packet) (not (is_count_due (length body) one)) (not (are_positioned (listed_places one)))
    (not (is_ascending_by_pid (listed_places one)))
    (not (is_matched (table_id_of (section_of packet)) (body_flags one.version body) one)) one part is

-- so it is a part in its form, with room for all positions that one may have
pub is_part : (card : CardFields) (past : List (List ℕ)) (part : EcmPart) → IsHeardIn card past (Controls part)
    → IsPart part
unfolding ecm_in
is_part card past part is =
    let read = part_read card.height is.tuning (length is.earlier) is.packet part is.is_heard in
    let one = part_is is.packet part read in
    let body : List ℕ = body_of (section_of is.packet) in
    let flags : List ℕ = from_flags (ecm_version_of (section_of is.packet)) body in
    let form = read_form is.packet part read in
    let count : slice_index flags 49 ≡ part.count = ap (λ (p : EcmPart). p.count) one in
    let few : length (ecm_positions_in (slice_index flags 49) (drop 50 flags)) ≤ 13 = omega (
      arith,
      count,
      form.counted.few,
      few_positions part.version,
      length_items ecm_position_in 8 (slice_index flags 49) (drop 50 flags),
    ) in record {
      form = form;
      long = ap (λ (p : EcmPart). length p.positions) (sym one)
          ∙ filled_length most_positions no_place (ecm_positions_in (slice_index flags 49) (drop 50 flags)) few;
    }

-- a part without a fault leaves no more places than a message may have
few_of : (part : EcmPart) (run : List EcmPart) → part_fault (part ∷ run) ≡ None
    → length (part_positions run) + length (listed_places part) ≤ 256
unfolding part_fault
few_of part run none =
    let fits = no_count (is_mixed_with part run) (not (is_after part run))
    (nat_lt most_places (length (flat_map listed_places (part ∷ run)))) none in
    let few : length (flat_map listed_places (part ∷ run)) ≤ 256 = grind (arith, nat_tests, fits) in
    omega (arith, few, length-append (listed_places part) (flat_map listed_places run), as_many run)
  where
    no_count : (a b c : Bool) → (if a then Some Mixed else if b then Some Order else if c then Some Count else None)
        ≡ None → c ≡ false
    no_count true b c e = absurd cc
    no_count false true c e = absurd cc
    no_count false false true e = absurd cc
    no_count false false false e = refl

-- one part more of a run
grown_with : (part : EcmPart) (run : List EcmPart) → IsPartialEcm run → IsPart part →
    part_fault (message_parts_with part run) ≡ None
    → IsPartialEcm (message_parts_with part run)
grown_with part [] good is none = good
grown_with part (before ∷ run) good is none =
    by_test ((before.number == part.number) && (before.part + 1 == part.part)) refl none
  where
    by_test : (b : Bool) → ((before.number == part.number) && (before.part + 1 == part.part)) ≡ b
        → part_fault (if b then part ∷ before ∷ run else []) ≡ None
        → IsPartialEcm (if b then part ∷ before ∷ run else [])
    by_test true next fine =
        let tests = and_parts (before.number == part.number) (before.part + 1 == part.part) next in
        let after : before.part + 1 ≡ part.part = grind (arith, nat_tests, tests.1) in
        grows part (before ∷ run) good is after (few_of part (before ∷ run) fine) fine
    by_test false other fine = none_gathered.good

-- the parts that count after the newest message are a run
abbrev pub IsRunning : Stretch → Type 0
IsRunning stretch = IsPartialEcm (run_of_parts (counted_parts stretch.message stretch.after))

next_runs : (part : EcmPart) (parts : List EcmPart) → IsPartialEcm (run_of_parts parts) → IsPart part
    → part_fault (run_of_parts (part ∷ parts)) ≡ None → IsPartialEcm (run_of_parts (part ∷ parts))
unfolding run_of_parts
next_runs part parts good is none = by_test (part.part == 0) none
  where
    by_test : (b : Bool) → part_fault (if b then part ∷ [] else message_parts_with part (run_of_parts parts)) ≡ None
        → IsPartialEcm (if b then part ∷ [] else message_parts_with part (run_of_parts parts))
    by_test true fine = grows part [] none_gathered.good is tt (few_of part [] fine) fine
    by_test false fine = grown_with part (run_of_parts parts) good is fine

-- so are those with a part that counts
pub run_to_runs : (so_far : List Heard) (part : EcmPart) → IsRunning (newest_message so_far) → IsPart part
    → part_fault (message_parts_to (newest_message so_far) part) ≡ None →
    IsPartialEcm (message_parts_to (newest_message so_far) part)
unfolding message_parts_to
run_to_runs so_far part good is none = by_test (exceeds (newest_message so_far).message part) none
  where
    parts : List EcmPart
    parts = counted_parts (newest_message so_far).message (newest_message so_far).after

    by_test : (b : Bool) → part_fault (if b then run_of_parts (part ∷ parts) else []) ≡ None
        → IsPartialEcm (if b then run_of_parts (part ∷ parts) else [])
    by_test true fine = next_runs part parts good is fine
    by_test false fine = none_gathered.good

-- and those that count then
pub runs_on : (so_far : List Heard) (part : EcmPart) → IsRunning (newest_message so_far) → IsPart part
    → part_fault (message_parts_to (newest_message so_far) part) ≡ None → IsRunning (record {
      message = (newest_message so_far).message;
      before = (newest_message so_far).before;
      after = Controls part ∷ (newest_message so_far).after;
    })
unfolding message_parts_to counted_parts
runs_on so_far part good is none = by_test (exceeds (newest_message so_far).message part) none
  where
    parts : List EcmPart
    parts = counted_parts (newest_message so_far).message (newest_message so_far).after

    by_test : (b : Bool) → part_fault (if b then run_of_parts (part ∷ parts) else []) ≡ None
        → IsPartialEcm (run_of_parts (if b then part ∷ parts else parts))
    by_test true fine = next_runs part parts good is fine
    by_test false fine = good

pub none_run : IsRunning (newest_message [])
unfolding newest_message counted_parts run_of_parts
none_run = none_gathered.good

pub begins_anew : (b : Message) (before : List Heard)
    → IsRunning (record { message = Some b; before = before; after = [] })
unfolding counted_parts run_of_parts
begins_anew b before = none_gathered.good

-- the places of a message are those of its parts
pub ascending_in : (message : Message) (run : List EcmPart) → IsPartialEcm run → message_told run ≡ Some message
    → ArePidsAscending message.places
unfolding part_positions
ascending_in message [] good told = absurd cc
ascending_in message (part ∷ run) good told =
    let places : flat_map listed_places (reverse (part ∷ run)) ≡ message.places = cc in
    subst ArePidsAscending places good.places.ascending
