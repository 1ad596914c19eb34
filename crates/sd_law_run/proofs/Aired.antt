-- What `air` leaves of any clear stream.
use Rattle.std.proofs.Common.{◌≡◌, ◌≢◌, true, [], ◌++◌, Option, Some, None, Ok, Err, refl, sym, ap, subst, ◌∙◌}
use Rattle.std.proofs.Common.{append-nil, le-ltb}
use Rattle.std.specs.FinMap.{get, insert}
use Rattle.std.specs.Io.KnownBytes.{Appends}
use Rattle.sd_base.specs.Types.{Bytes, FileName, Packets}
use Rattle.sd_ports.specs.Files.{Files}
use Rattle.sd_engine.specs.Cut.{readable}
use Rattle.sd_site_cards.specs.SiteFields.{SiteFields}
use Rattle.sd_site_cards.specs.Written.{site_of_chain, none_fewer}
use Rattle.sd_site_cards.specs.declared.book_line.BookLine.{BookLine}
use Rattle.sd_site_cards.proofs.Alone.{site_said}
use Rattle.sd_spec.specs.Plan.{Plan}
use Rattle.sd_law_air.proofs.Sendable.{aired_sendable, aired_long, aired_synced, aired_unmarked}
use Rattle.sd_command_base.specs.declared.status.Status.{Status}
use Rattle.sd_command_base.specs.declared.status.Status.TheVariants.{SiteUsed}
use Rattle.sd_command_base.specs.declared.status.LimitKind.TheVariants.{SiteBytes}
use Rattle.sd_command_base.specs.Files.{is_book, most_site_bytes, own_book_of_file}
use Rattle.sd_command_base.specs.Made.{unused, used_name}
use Rattle.sd_command_base.specs.Outside.{IoState}
use Rattle.sd_command_base.specs.Results.{RunResult}
use Rattle.sd_command_base.specs.Shown.{word_at}
use Rattle.sd_command_base.specs.Spec.{FileArgument, Readings, whole_file_bytes, contents_of, of_result, value, within}
use Rattle.sd_command_base.specs.Spec.{◌>>=◌}
use Rattle.sd_command_base.specs.Texts.{line_of_status}
use Rattle.sd_command_base.proofs.Follow.{then_is}
use Rattle.sd_run_broadcasts.specs.Air.{air_line, air_meaning, air_plan_by, air_report, air_site_of_file, airing}
use Rattle.sd_run_broadcasts.specs.Air.{live_clear, live_sent, mark_word, told_air_site}
use Rattle.sd_law_run.specs.Aired.{AirResult, AreForAir, AreForUsedAir, IsGoodAirSite}
use Rattle.sd_law_run.specs.Good.{IsGoodSite, IsGoodBook}
use Rattle.sd_law_run.specs.Headline.{Names, file_in, IsUndisturbed}
use Rattle.sd_law_run.specs.Sendable.{AreSendable}
use Rattle.sd_law_run.proofs.AirPackets.{none_marked, readable_synced, readable_whole}
use Rattle.sd_law_run.proofs.Goodness.{file_read, own_good, site_fits, site_low}
use Rattle.sd_law_run.proofs.Parts.{covers_named, is_told, made_in, of_told}
use Rattle.sd_law_run.proofs.Plans.{good_plan}
use Rattle.sd_law_run.proofs.Runs.{runs_refused, runs_work}
use Rattle.sd_law_run.proofs.Shelf.{made_there, others_stay}

-- a good site for `air` is a good site
plain_site : {got : Option Bytes} {site : SiteFields} {line : BookLine} → IsGoodAirSite got site line →
    IsGoodSite got site
plain_site good = record { bytes = good.bytes; there = good.there; is_site = good.is_site }

-- it is read with its line 13
air_site_good : (given : Readings) (word : FileArgument) (fields : SiteFields) (line : BookLine) →
    (good : IsGoodAirSite (given word) fields line) →
    (air_site_of_file word.number (given word)).result ≡ Ok (fields, Some line)
unfolding air_site_of_file site_of_chain
air_site_good given word fields line good =
    ap (λ (got : Option Bytes). (air_site_of_file word.number got).result) good.there
    ∙ then_is (within word.number most_site_bytes SiteBytes (Some good.bytes)) good.bytes
    (λ bytes. of_result (told_air_site word.number bytes (site_of_chain none_fewer bytes)))
    (file_read word.number most_site_bytes SiteBytes good.bytes (site_fits good.bytes fields good.is_site))
    ∙ rw (
      site_said good.bytes fields good.is_site,
      good.whole,
      good.said,
      good.version,
      le-ltb fields.last_word fields.first_word good.word,
    ) refl

-- with the plan and the stream, the mark decides
air_judged : (given : Readings) (site book clear out : FileArgument) (plan : Plan) (line : BookLine) (bytes : Bytes) →
    IsGoodAirSite (given site) plan.site line → (good : IsGoodBook (given book) plan.site.height plan.commands) →
    is_book (Some line) good.bytes ≡ true → given clear ≡ Some bytes →
    (air_meaning site book clear out given).result
    ≡ (unused (given (mark_word site)) >>= λ new. value (airing plan site out bytes)).result
unfolding air_meaning air_plan_by
air_judged given site book clear out plan line bytes good_site good_book own there =
    then_is (air_plan_by site.number book.number (given site) (given book)) plan
    (λ plan. whole_file_bytes clear.number (given clear)
    >>= λ bytes. unused (given (mark_word site)) >>= λ new. value (airing plan site out bytes))
    (then_is (air_site_of_file site.number (given site)) (plan.site, Some line)
    (λ said. own_book_of_file book.number said.0.height said.1 (given book)
    >>= λ commands. value (record { site = said.0; commands = commands }))
    (air_site_good given site plan.site line good_site)
    ∙ then_is (own_book_of_file book.number plan.site.height (Some line) (given book)) plan.commands
    (λ commands. value (record { site = plan.site; commands = commands }))
    (own_good given plan.site.height book (Some line) plan.commands
    (site_low (given site) plan.site (plain_site good_site)) good_book own))
    ∙ ap (λ (got : Option Bytes). (whole_file_bytes clear.number got
    >>= λ bytes. unused (given (mark_word site)) >>= λ new. value (airing plan site out bytes)).result) there

-- with no mark there is work
air_good : (given : Readings) (site book clear out : FileArgument) (plan : Plan) (line : BookLine) (bytes : Bytes) →
    IsGoodAirSite (given site) plan.site line → (good : IsGoodBook (given book) plan.site.height plan.commands) →
    is_book (Some line) good.bytes ≡ true → given clear ≡ Some bytes → given (mark_word site) ≡ None →
    (air_meaning site book clear out given).result ≡ Ok (airing plan site out bytes)
air_good given site book clear out plan line bytes good_site good_book own there new =
    air_judged given site book clear out plan line bytes good_site good_book own there
    ∙ ap (λ (got : Option Bytes). (unused got >>= λ new. value (airing plan site out bytes)).result) new

-- and with one the site is used
air_used : (given : Readings) (site book clear out : FileArgument) (plan : Plan) (line : BookLine)
    (bytes mark : Bytes) →
    IsGoodAirSite (given site) plan.site line → (good : IsGoodBook (given book) plan.site.height plan.commands) →
    is_book (Some line) good.bytes ≡ true → given clear ≡ Some bytes → given (mark_word site) ≡ Some mark →
    (air_meaning site book clear out given).result ≡ Err SiteUsed
air_used given site book clear out plan line bytes mark good_site good_book own there used =
    air_judged given site book clear out plan line bytes good_site good_book own there
    ∙ ap (λ (got : Option Bytes). (unused got >>= λ new. value (airing plan site out bytes)).result) used

-- so there is over the files
module _ (names : Names) (plan : Plan) (bytes : Bytes) (a : IoState) (for_air : AreForAir a names plan bytes) where
  abbrev clear : Packets
  clear = live_clear plan.site bytes

  abbrev mark : FileName
  mark = used_name names.site

  sends : AreSendable plan clear
  sends = record {
    is_plan = good_plan (λ word. file_in a word.text) (word_at 1 names.site) (word_at 2 names.book) plan
        (plain_site for_air.site) for_air.book;
    sendable = aired_sendable plan.site (readable bytes);
    whole = aired_long plan.site (readable bytes) (readable_whole bytes for_air.are_bytes);
    synced = aired_synced plan.site (readable bytes) (readable_synced bytes);
  }

  air_work : (files : Files) → a.place.files ≡ Some files →
      (air_meaning (word_at 1 names.site) (word_at 2 names.book) (word_at 3 names.clear) (word_at 4 names.stream)
      (contents_of files)).result ≡ Ok (airing plan (word_at 1 names.site) (word_at 4 names.stream) bytes)
  air_work files told =
      let site = for_air.site in
      let book = for_air.book in
      let good_site : IsGoodAirSite (get files names.site) plan.site for_air.line = record {
        bytes = site.bytes;
        there = sym (of_told a files names.site told) ∙ site.there;
        is_site = site.is_site;
        whole = site.whole;
        said = site.said;
        version = site.version;
        word = site.word;
      } in
      let good_book : IsGoodBook (get files names.book) plan.site.height plan.commands = record {
        bytes = book.bytes;
        there = sym (of_told a files names.book told) ∙ book.there;
        is_book = book.is_book;
        within = book.within;
      } in
      air_good (contents_of files) (word_at 1 names.site) (word_at 2 names.book) (word_at 3 names.clear)
      (word_at 4 names.stream) plan for_air.line bytes good_site good_book for_air.own
      (sym (of_told a files names.clear told) ∙ for_air.there) (sym (of_told a files mark told) ∙ for_air.unused)

  pub air_part : (b : IoState) (answer : Status) → names.stream ≢ mark → RunResult (air_meaning (word_at 1 names.site)
      (word_at 2 names.book) (word_at 3 names.clear) (word_at 4 names.stream)) a b answer →
      IsUndisturbed a b answer → AirResult names plan bytes a b answer
  unfolding live_sent
  air_part b answer apart answers well =
      let t = is_told a.place.files names.site for_air.site.bytes for_air.site.there in
      let marked : Files = insert t.files mark [] in
      let sent = live_sent plan bytes in
      let done = runs_work (air_meaning (word_at 1 names.site) (word_at 2 names.book) (word_at 3 names.clear)
      (word_at 4 names.stream)) (airing plan (word_at 1 names.site) (word_at 4 names.stream) bytes) t.files a b answer
      (air_work t.files t.told) t.told answers well in
      let left : b.place.files ≡ Some (insert marked names.stream sent) = done.left in
      record {
        ends = done.ends;
        sent_is = made_in b marked names.stream sent left;
        sendable = sends;
        unmarked = none_marked clear (aired_unmarked plan.site (readable bytes));
        periods = covers_named plan clear sends;
        marked = of_told b (insert marked names.stream sent) mark left
            ∙ (others_stay marked names.stream sent mark (λ e. apart (sym e)) ∙ made_there t.files mark []);
        told = subst (λ (l : Bytes). Appends a.page.printed b.page.printed (l ++ line_of_status answer))
            (append-nil (air_line (air_report plan bytes))) done.printed;
        others = λ name no_out no_mark. of_told b (insert marked names.stream sent) name left
            ∙ (others_stay marked names.stream sent name no_out
            ∙ (others_stay t.files mark [] name no_mark ∙ sym (of_told a t.files name t.told)));
      }

-- a used site is told
pub used_part : (names : Names) (plan : Plan) (a b : IoState) (answer : Status) → AreForUsedAir a names plan →
    RunResult (air_meaning (word_at 1 names.site) (word_at 2 names.book) (word_at 3 names.clear)
    (word_at 4 names.stream)) a b answer → IsUndisturbed a b answer → answer ≡ SiteUsed
used_part names plan a b answer for_air answers well =
    let site = for_air.site in
    let book = for_air.book in
    let t = is_told a.place.files names.site site.bytes site.there in
    let good_site : IsGoodAirSite (get t.files names.site) plan.site for_air.line = record {
      bytes = site.bytes;
      there = t.there;
      is_site = site.is_site;
      whole = site.whole;
      said = site.said;
      version = site.version;
      word = site.word;
    } in
    let good_book : IsGoodBook (get t.files names.book) plan.site.height plan.commands = record {
      bytes = book.bytes;
      there = sym (of_told a t.files names.book t.told) ∙ book.there;
      is_book = book.is_book;
      within = book.within;
    } in
    runs_refused (air_meaning (word_at 1 names.site) (word_at 2 names.book) (word_at 3 names.clear)
    (word_at 4 names.stream)) SiteUsed t.files a b answer
    (air_used (contents_of t.files) (word_at 1 names.site) (word_at 2 names.book) (word_at 3 names.clear)
    (word_at 4 names.stream) plan for_air.line for_air.bytes for_air.mark good_site good_book for_air.own
    (sym (of_told a t.files names.clear t.told) ∙ for_air.there)
    (sym (of_told a t.files (used_name names.site) t.told) ∙ for_air.used)) t.told answers well
