-- Good words and files of a field mean its lines.
use Rattle.std.proofs.Common.{◌≡◌, ◌^◌, ◌≤◌, ◌+◌, ◌/◌, cond, ℕ, List, [], ◌∷◌, ◌++◌, length, reverse}
use Rattle.std.proofs.Common.{Option, Some, None, Result, Ok, Err, ap, refl, subst, ◌∙◌, le-ltb, length-append, arith}
use Rattle.std.specs.Prelude.{All, true, replicate}
use Rattle.std.specs.List.{prefix_len}
use Rattle.std.proofs.lemmas.List.{take_all, length-take, length-replicate}
use Rattle.std.proofs.lemmas.List.Elements.{All-nil, All-append, All-replicate, All-take}
use Rattle.std.proofs.lemmas.List.Sorted.{All-permutation, IsPermutation-reverse}
use Rattle.sd_engine.specs.Driving.{most_packets}
use Rattle.sd_engine.specs.Stream.{break_of, is_packet, packets_of, pieces}
use Rattle.sd_engine.specs.Taken.{packets_taken}
use Rattle.sd_engine.specs.declared.fault.StreamBreak.{StreamBreak}
use Rattle.sd_engine.proofs.Walking.{all_counted}
use Rattle.sd_site_cards.specs.SiteFields.{SiteFields}
use Rattle.sd_base.specs.Lines.{lines_of}
use Rattle.sd_spec.specs.declared.event.Event.{Event}
use Rattle.sd_spec.specs.Book.{sends}
use Rattle.sd_spec.specs.Events.{is_of}
use Rattle.sd_field.specs.Script.{by_run, judged_event as judged_line, put_before, script_from, script_of}
use Rattle.sd_field.specs.Script.{script_line_event}
use Rattle.sd_field.specs.declared.fault.ScriptFault.{ScriptFault}
use Rattle.sd_field.proofs.Scripts.{IsGood, line_good}
use Rattle.sd_law_broadcast.specs.Packets.{IsWholePacket, AreWholePackets}
use Rattle.sd_law_broadcast.specs.Synced.{AreBytes, IsSynced, AreSynced}
use Rattle.sd_law_broadcast.proofs.Cut.{taken_synced, taken_whole}
use Rattle.sd_command_base.specs.declared.status.Status.{Status}
use Rattle.sd_command_base.specs.declared.status.Status.TheVariants.{Limit}
use Rattle.sd_command_base.specs.declared.status.LimitKind.TheVariants.{BookBytes, FieldHeight, FieldPackets}
use Rattle.sd_command_base.specs.Spec.{FileArgument, Readings, of_result, value, within, ◌>>=◌}
use Rattle.sd_command_base.proofs.Follow.{then_is}
use Rattle.sd_command_base.specs.Files.{low_site_of_file, most_book_bytes, site_in, low_site_or_status}
use Rattle.sd_command_base.specs.Printed.{printing}
use Rattle.sd_run_broadcasts.specs.Field.{Inputs, clear_of_file, field_meaning, field_text, inputs_by, inputs_meaning}
use Rattle.sd_run_broadcasts.specs.Field.{field_clear_bytes, most_field_height, script_of_file, told_clear}
use Rattle.sd_run_broadcasts.specs.Field.{script_or_status}
use Rattle.sd_run_broadcasts.specs.Field.{unbroken}
use Rattle.sd_law_field.specs.Fielded.{confirmed_lines}
use Rattle.sd_law_field.specs.Fielded as fielded
use Rattle.sd_law_field.proofs.Fielded.{text_is_confirmed}
use Rattle.sd_command_line.specs.Words.{FieldOf}
use Rattle.sd_run.specs.Meaning.{meaning}
use Rattle.sd_law_run.specs.Good.{IsGoodSite}
use Rattle.sd_law_run.specs.Fielded.{IsGoodFieldRun}
use Rattle.sd_law_run.proofs.Goodness.{file_read, ordered, site_good}
use Rattle.sd_law_formats.proofs.SayableSites.{ca_fits}

-- the events of a script are few, and their leaves are of the tree
abbrev Fits : ℕ → ℕ → List Event → Type 0
Fits d n events = (n + length events ≤ 524288) × All (λ event. is_of d event ≡ true) events

-- so are those of a good line and those after it
line_fits : (d n : ℕ) (run : Event × ℕ) (more : List Event) → IsGood d n run → Fits d (n + run.1) more →
    Fits d n (replicate run.1 run.0 ++ more)
line_fits d n run more good fits =
    let long = length-append (replicate run.1 run.0) more in
    let first = length-replicate run.1 run.0 in (
      omega (arith, long, first, fits.0),
      All-append (λ event. is_of d event ≡ true) (replicate run.1 run.0) more
          (All-replicate (λ event. is_of d event ≡ true) run.1 run.0 good.leaf) fits.1,
    )

script_fits : (d k n : ℕ) (lines : List (List ℕ)) (events : List Event) → n ≤ 524288 →
    script_from d k n lines ≡ Ok events → Fits d n events
unfolding script_from
script_fits d k n [] events few e =
    let same : [] ≡ events = cc in
    subst (Fits d n) same (omega (arith, few), All-nil (λ event. is_of d event ≡ true))
script_fits d k n (line ∷ lines) events few e =
    by_line (judged_line d k n (script_line_event line)) refl e
    (λ run more few rest. script_fits d (k + 1) (n + run.1) lines more few rest)
  where
    by_rest : (run : Event × ℕ) → IsGood d n run → (r : Result (List Event) ScriptFault) →
        script_from d (k + 1) (n + run.1) lines ≡ r → put_before (replicate run.1 run.0) r ≡ Ok events →
        ((more : List Event) → script_from d (k + 1) (n + run.1) lines ≡ Ok more → Fits d (n + run.1) more) →
        Fits d n events
    by_rest run good (Err fault) t e next = absurd cc
    by_rest run good (Ok more) t e next =
        let same : replicate run.1 run.0 ++ more ≡ events = cc in
        subst (Fits d n) same (line_fits d n run more good (next more t))

    by_line : (r : Result (Event × ℕ) ScriptFault) → judged_line d k n (script_line_event line) ≡ r →
        by_run r (λ run. put_before (replicate run.1 run.0) (script_from d (k + 1) (n + run.1) lines)) ≡ Ok events →
        ((run : Event × ℕ) (more : List Event) → n + run.1 ≤ 524288 →
        script_from d (k + 1) (n + run.1) lines ≡ Ok more → Fits d (n + run.1) more) → Fits d n events
    by_line (Err fault) t e next = absurd cc
    by_line (Ok run) t e next =
        let good = line_good d k n line run t in
        by_rest run good (script_from d (k + 1) (n + run.1) lines) refl e (λ more is. next run more good.few is)

-- a stream has no more packets than its bytes have room for
packets_few : (bytes : List ℕ) → length (packets_of bytes) ≤ length bytes / 188
unfolding packets_of
packets_few bytes =
    let all = pieces (length bytes / 188) bytes in
    let long = all_counted (length bytes / 188) bytes in
    omega (arith, long, length-take (prefix_len is_packet all) all)

all_taken : (bytes : List ℕ) → length bytes ≤ 3080192 → packets_taken bytes ≡ packets_of bytes
unfolding packets_taken
all_taken bytes short =
    let few = packets_few bytes in take_all most_packets (packets_of bytes) (omega (arith, few, short))

-- words and files of a good field are within its limits
pub limits : {words : List (List ℕ)} {given : Readings} (good : IsGoodFieldRun words given) → AreBytes good.bytes →
    fielded.IsGoodField good.fields (packets_of good.bytes) good.events
limits good are =
    let clear = packets_of good.bytes in
    let same = all_taken good.bytes good.short in
    let fits = script_fits good.fields.height 1 0 (lines_of good.text) good.events (omega arith) good.says in
    let count = sends (length clear) (reverse good.events) in
    record {
      range = good.good_site.is_site.ranges;
      system = ca_fits good.good_site.bytes good.fields good.good_site.is_site;
      low = good.low;
      few = omega (arith, fits.0);
      leaves = All-permutation (λ event. is_of good.fields.height event ≡ true) good.events (reverse good.events)
          (IsPermutation-reverse good.events) fits.1;
      whole = All-take IsWholePacket count clear (subst AreWholePackets same (taken_whole good.bytes are));
      synced = All-take IsSynced count clear (subst AreSynced same (taken_synced good.bytes));
      sent = good.is_clear;
    }

-- a site whose tree is low enough is taken
low_good : (given : Readings) (word : FileArgument) (fields : SiteFields) → IsGoodSite (given word) fields →
    fields.height ≤ 6 → (low_site_of_file word.number most_field_height FieldHeight (given word)).result ≡ Ok fields
unfolding low_site_of_file
low_good given word fields good low =
    then_is (site_in given word) fields (λ site. of_result (low_site_or_status most_field_height FieldHeight site))
    (site_good given word fields good)
    ∙ ap (λ b. cond b (Err (Limit FieldHeight)) (Ok fields)) (le-ltb most_field_height fields.height low)

-- and so is a stream that is whole and short enough
clear_good : (given : Readings) (word : FileArgument) (bytes : List ℕ) → given word ≡ Some bytes →
    length bytes ≤ 3080192 →
    break_of bytes ≡ None → (clear_of_file word.number (given word)).result ≡ Ok (packets_of bytes)
unfolding clear_of_file
clear_good given word bytes there short whole =
    ap (λ (got : Option (List ℕ)). (clear_of_file word.number got).result) there
    ∙ then_is (within word.number field_clear_bytes FieldPackets (Some bytes)) bytes (λ all. of_result (told_clear all))
    (file_read word.number field_clear_bytes FieldPackets bytes short)
    ∙ ap (λ (found : Option StreamBreak). unbroken found (packets_of bytes)) whole

-- and a script for the tree
script_good : (given : Readings) (word : FileArgument) (d : ℕ) (text : List ℕ) (events : List Event) →
    given word ≡ Some text →
    length text ≤ 33554432 → script_of d text ≡ Ok events →
    (script_of_file word.number d (given word)).result ≡ Ok events
unfolding script_of_file
script_good given word d text events there short says =
    ap (λ (got : Option (List ℕ)). (script_of_file word.number d got).result) there
    ∙ then_is (within word.number most_book_bytes BookBytes (Some text)) text
    (λ all. of_result (script_or_status word.number d all (script_of d all)))
    (file_read word.number most_book_bytes BookBytes text short)
    ∙ ap (script_or_status word.number d text) says

inputs_good : (given : Readings) (site clear : FileArgument) (fields : SiteFields) (packets : List (List ℕ)) →
    (low_site_of_file site.number most_field_height FieldHeight (given site)).result ≡ Ok fields →
    (clear_of_file clear.number (given clear)).result ≡ Ok packets →
    (inputs_meaning site clear given).result ≡ Ok (record { site = fields; clear = packets })
unfolding inputs_by
inputs_good given site clear fields packets is_site is_clear =
    then_is (low_site_of_file site.number most_field_height FieldHeight (given site)) fields
    (λ found. clear_of_file clear.number (given clear)
    >>= λ all. value {A = Inputs} (record { site = found; clear = all })) is_site
    ∙ then_is (clear_of_file clear.number (given clear)) packets
    (λ all. value {A = Inputs} (record { site = fields; clear = all })) is_clear

pub field_good : (words : List (List ℕ)) (given : Readings) (good : IsGoodFieldRun words given) →
    AreBytes good.bytes →
    (meaning words given).result
    ≡ Ok (printing (Ok (confirmed_lines good.fields (packets_of good.bytes) good.events (2 ^ good.fields.height))))
unfolding field_meaning
field_good words given good are =
    let clear = packets_of good.bytes in
    let inputs : Inputs = record { site = good.fields; clear = clear } in
    ordered words given (FieldOf good.site good.clear good.script) good.order
    ∙ then_is (inputs_meaning good.site good.clear given) inputs
    (λ found. script_of_file good.script.number found.site.height (given good.script)
    >>= λ events. value (printing (field_text found.site found.clear events)))
    (inputs_good given good.site good.clear good.fields clear
    (low_good given good.site good.fields good.good_site good.low)
    (clear_good given good.clear good.bytes good.there good.short good.unbroken))
    ∙ then_is (script_of_file good.script.number good.fields.height (given good.script)) good.events
    (λ events. value (printing (field_text good.fields clear events)))
    (script_good given good.script good.fields.height good.text good.events good.script_there good.script_short
    good.says)
    ∙ ap (λ (text : Result (List ℕ) Status). Ok (printing text))
    (text_is_confirmed good.fields clear good.events (limits good are))
