-- The files of a `field` that is done.
use Rattle.std.proofs.Common.{◌≡◌, ℕ, ◌≤◌, ◌^◌, List, [], Option, None, Some, Result, Ok, Err}
use Rattle.std.proofs.Common.{refl, sym, ap, subst, ◌∙◌, append-nil}
use Rattle.std.specs.List.{concat}
use Rattle.std.specs.Io.KnownBytes.{Appends}
use Rattle.sd_ports.specs.Files.{Files}
use Rattle.sd_engine.specs.Stream.{break_of, packets_of}
use Rattle.sd_engine.specs.declared.fault.StreamBreak.{StreamBreak}
use Rattle.sd_site_cards.specs.SiteFields.{SiteFields}
use Rattle.sd_spec.specs.Refused.{refusal_from}
use Rattle.sd_message.specs.declared.clear_fault.ClearFault.{ClearFault}
use Rattle.sd_spec.specs.declared.event.Event.{Event}
use Rattle.sd_field.specs.Fields as field
use Rattle.sd_field.specs.Script.{script_of}
use Rattle.sd_field.specs.declared.fault.ScriptFault.{ScriptFault}
use Rattle.sd_law_broadcast.specs.Synced.{AreBytes}
use Rattle.sd_command_base.specs.declared.status.Status.{Status}
use Rattle.sd_command_base.specs.declared.status.Status.TheVariants.{Done}
use Rattle.sd_command_base.specs.declared.status.LimitKind.TheVariants.{BookBytes, FieldHeight, FieldPackets}
use Rattle.sd_command_base.specs.Spec.{FileArgument, Readings, contents_of, of_result, value, within, ◌>>=◌}
use Rattle.sd_command_base.specs.Files.{low_site_of_file, most_book_bytes, site_in, low_site_or_status}
use Rattle.sd_command_base.specs.Outside.{IoState}
use Rattle.sd_command_base.specs.Printed.{printing}
use Rattle.sd_command_base.specs.Results.{RunResult}
use Rattle.sd_command_base.specs.Work.{Work}
use Rattle.sd_command_line.specs.Words.{Order, FieldOf, order_of}
use Rattle.sd_run_broadcasts.specs.Field.{Inputs, clear_of_file, done_field, field_meaning, field_text, inputs_by}
use Rattle.sd_run_broadcasts.specs.Field.{inputs_meaning, lines_of_field, field_clear_bytes, most_field_height}
use Rattle.sd_run_broadcasts.specs.Field.{script_of_file}
use Rattle.sd_run_broadcasts.specs.Field.{text_in, told_clear, script_or_status, unbroken, unrefused}
use Rattle.sd_law_field.specs.Fielded.{confirmed_lines}
use Rattle.sd_law_field.proofs.Fielded.{done_is_clear, text_is_confirmed}
use Rattle.sd_run.specs.Meaning.{order_meaning, meaning}
use Rattle.sd_law_run.specs.Good.{IsGoodSite}
use Rattle.sd_law_run.specs.Fielded.{IsFielded, IsGoodFieldRun}
use Rattle.sd_law_run.proofs.Fielded.{limits}
use Rattle.sd_law_run.proofs.Outs.{done_leaves}
use Rattle.sd_law_run.proofs.Readable.{IsRead, file_taken, low_taken, site_taken}
use Rattle.sd_law_run.proofs.Sent.{then_ok, value_is}
use Rattle.sd_law_run.proofs.Trials.{has_text, pieces_are}

-- no field is refused as done
unrefused_done : (found : Option ClearFault) (text : List ℕ) → unrefused found text ≡ Err Done → ⊥
unrefused_done None text e = absurd (cc)
unrefused_done (Some fault) text e = absurd (cc)

text_refused : (site : SiteFields) (clear : List (List ℕ)) (events : List Event) →
    field_text site clear events ≡ Err Done → ⊥
unfolding text_in
text_refused site clear events e =
    unrefused_done (refusal_from site [] (field.field_clear_packets (done_field site clear events)))
    (lines_of_field (done_field site clear events) (2 ^ site.height)) e

-- a low site
record IsLowSite (got : Option (List ℕ)) (fields : SiteFields) : Type 0 where
  good : IsGoodSite got fields
  low : fields.height ≤ 6

low_site : (given : Readings) (word : FileArgument) (fields : SiteFields) →
    (low_site_of_file word.number most_field_height FieldHeight (given word)).result ≡ Ok fields →
    IsLowSite (given word) fields
unfolding low_site_of_file
low_site given word fields e =
    let any = then_ok (site_in given word) (λ site. of_result (low_site_or_status most_field_height FieldHeight site))
    fields e in
    let low = low_taken most_field_height FieldHeight any.from fields any.next_is in
    record {
      good = subst (IsGoodSite (given word)) low.0 (site_taken given word any.from any.first_is);
      low = low.1;
    }

-- a clear stream that isn't broken
record IsUnbroken (got : Option (List ℕ)) (packets : List (List ℕ)) : Type 0 where
  bytes : List ℕ
  is : IsRead got 3080192 bytes
  whole : break_of bytes ≡ None
  same : packets_of bytes ≡ packets

unbroken_is : (found : Option StreamBreak) (packets told : List (List ℕ)) → unbroken found packets ≡ Ok told →
    (found ≡ None) × (packets ≡ told)
unbroken_is None packets told e = (refl, let same : packets ≡ told = cc in same)
unbroken_is (Some found) packets told e = absurd (cc)

clear_taken : (given : Readings) (word : FileArgument) (packets : List (List ℕ)) →
    (clear_of_file word.number (given word)).result ≡ Ok packets → IsUnbroken (given word) packets
unfolding clear_of_file
clear_taken given word packets e =
    let read = then_ok (within word.number field_clear_bytes FieldPackets (given word))
    (λ bytes. of_result (told_clear bytes)) packets e in
    let told = unbroken_is (break_of read.from) (packets_of read.from) packets read.next_is in
    record {
      bytes = read.from;
      is = file_taken word.number field_clear_bytes FieldPackets (given word) read.from read.first_is;
      whole = told.0;
      same = told.1;
    }

-- a script
record IsScript (got : Option (List ℕ)) (d : ℕ) (events : List Event) : Type 0 where
  text : List ℕ
  is : IsRead got 33554432 text
  says : script_of d text ≡ Ok events

script_told : (word d : ℕ) (bytes : List ℕ) (r : Result (List Event) ScriptFault) (events : List Event) →
    script_or_status word d bytes r ≡ Ok events → r ≡ Ok events
script_told word d bytes (Ok found) events e = cc
script_told word d bytes (Err fault) events e = absurd (cc)

script_taken : (given : Readings) (word : FileArgument) (d : ℕ) (events : List Event) →
    (script_of_file word.number d (given word)).result ≡ Ok events → IsScript (given word) d events
unfolding script_of_file
script_taken given word d events e =
    let read = then_ok (within word.number most_book_bytes BookBytes (given word))
    (λ bytes. of_result (script_or_status word.number d bytes (script_of d bytes))) events e in
    record {
      text = read.from;
      is = file_taken word.number most_book_bytes BookBytes (given word) read.from read.first_is;
      says = script_told word.number d read.from (script_of d read.from) events read.next_is;
    }

-- a site and a clear stream
record AreInputs (given : Readings) (site clear : FileArgument) (inputs : Inputs) : Type 0 where
  is_site : IsLowSite (given site) inputs.site
  is_clear : IsUnbroken (given clear) inputs.clear

inputs_taken : (given : Readings) (site clear : FileArgument) (inputs : Inputs) →
    (inputs_meaning site clear given).result ≡ Ok inputs → AreInputs given site clear inputs
unfolding inputs_by
inputs_taken given site clear inputs e =
    let fields = then_ok (low_site_of_file site.number most_field_height FieldHeight (given site))
    (λ found. clear_of_file clear.number (given clear)
    >>= λ all. value {A = Inputs} (record { site = found; clear = all })) inputs e in
    let packets = then_ok (clear_of_file clear.number (given clear))
    (λ all. value {A = Inputs} (record { site = fields.from; clear = all })) inputs fields.next_is in
    let made : Inputs = record { site = fields.from; clear = packets.from } in
    subst (AreInputs given site clear) (value_is made inputs packets.next_is) (record {
      is_site = low_site given site fields.from fields.first_is;
      is_clear = clear_taken given clear packets.from packets.first_is;
    })

-- the text of a good field is its lines
text_lines : {words : List (List ℕ)} {given : Readings} (good : IsGoodFieldRun words given) (text : List ℕ) →
    field_text good.fields (packets_of good.bytes) good.events ≡ Ok text → AreBytes good.bytes →
    text ≡ confirmed_lines good.fields (packets_of good.bytes) good.events (2 ^ good.fields.height)
text_lines good text e are =
    let both = sym e ∙ text_is_confirmed good.fields (packets_of good.bytes) good.events (limits good are) in cc

module _ (words : List (List ℕ)) (site clear script : FileArgument) (files : Files) (a b : IoState)
    (order : order_of words ≡ Ok (FieldOf site clear script)) where
  -- by what the files gave and the text that was told
  fielded_by : (inputs : Inputs) (events : List Event) (text : List ℕ) →
      AreInputs (contents_of files) site clear inputs →
      IsScript (contents_of files script) inputs.site.height events →
      field_text inputs.site inputs.clear events ≡ Ok text → Appends a.page.printed b.page.printed text →
      IsFielded words files a b
  fielded_by inputs events text are says told printed =
      let is_clear = are.is_clear in
      let told_so = ap (λ (ps : List (List ℕ)). field_text inputs.site ps events) is_clear.same ∙ told in
      let good : IsGoodFieldRun words (contents_of files) = record {
        site = site;
        clear = clear;
        script = script;
        order = order;
        fields = inputs.site;
        good_site = are.is_site.good;
        low = are.is_site.low;
        bytes = is_clear.bytes;
        there = is_clear.is.there;
        short = is_clear.is.short;
        unbroken = is_clear.whole;
        text = says.text;
        script_there = says.is.there;
        script_short = says.is.short;
        events = events;
        says = says.says;
        is_clear = done_is_clear inputs.site (packets_of is_clear.bytes) events text told_so;
      } in
      record {
        good = good;
        printed = λ bytes. subst (λ (l : List ℕ). Appends a.page.printed b.page.printed l)
            (text_lines good text told_so bytes) printed;
      }

  pub field_done : a.place.files ≡ Some files → RunResult (meaning words) a b Done → IsFielded words files a b
  unfolding field_meaning
  field_done known answers =
      let given = contents_of files in
      let done = done_leaves (meaning words) files a b Done known refl answers in
      let meant = sym (ap (λ (r : Result Order Status). (of_result r >>= λ o. order_meaning o given).result) order)
      ∙ done.is_meant in
      let inputs = then_ok (inputs_meaning site clear given)
      (λ inputs. script_of_file script.number inputs.site.height (given script)
      >>= λ events. value (printing (field_text inputs.site inputs.clear events))) done.work meant in
      let fields = inputs.from.site in
      let packets = inputs.from.clear in
      let events = then_ok (script_of_file script.number fields.height (given script))
      (λ events. value (printing (field_text fields packets events))) done.work inputs.next_is in
      let told = field_text fields packets events.from in
      let same = value_is (printing told) done.work events.next_is in
      let text = has_text told (text_refused fields packets events.from) (ap (λ (w : Work). w.ends) same ∙ done.ends)
      in
      let pieces : concat done.work.pieces ≡ text.0 =
      ap (λ (w : Work). concat w.pieces) (sym same)
      ∙ (ap concat (pieces_are told text.0 text.1) ∙ append-nil text.0) in
      fielded_by inputs.from events.from text.0 (inputs_taken given site clear inputs.from inputs.first_is)
      (script_taken given script fields.height events.from events.first_is) text.1
      (subst (λ (l : List ℕ). Appends a.page.printed b.page.printed l) pieces done.printed)
