-- What `head`, `card` and `receive` leave, each by itself.
use Rattle.std.proofs.Common.{◌≡◌, ◌≢◌, ℕ, ◌+◌, ◌-◌, ◌^◌, ◌<◌, ◌≤◌, Bool, cond, List, length}
use Rattle.std.proofs.Common.{Option, Some, None, Ok, Err, refl, sym, ap, subst, ◌∙◌, arith, lt-ltb}
use Rattle.std.specs.FinMap.{get, insert}
use Rattle.std.specs.List.{concat}
use Rattle.std.specs.Option.{option_and_then}
use Rattle.std.specs.Io.KnownBytes.{Appends}
use Rattle.std.proofs.lemmas.List.Elements.{All-weaker}
use Rattle.sd_site_cards.specs.SiteFields.{SiteFields}
use Rattle.sd_site_cards.specs.CardFields.{card_of, card_bytes, site_card}
use Rattle.sd_site_cards.proofs.Made.{made_is_card}
use Rattle.sd_ports.specs.Files.{Files}
use Rattle.sd_engine.specs.Taken.{Whole, packets_taken, end_of}
use Rattle.sd_spec.specs.Plan.{Plan, period_of}
use Rattle.sd_spec.specs.Refused.{whole_refusal}
use Rattle.sd_spec.specs.Sent.{broadcast}
use Rattle.sd_law_broadcast.specs.Named.{sets_named, NamesPeriod}
use Rattle.sd_law_broadcast.specs.Packets.{IsWholePacket, AreWholePackets, AreLong}
use Rattle.sd_law_broadcast.proofs.Covering.{period_named}
use Rattle.sd_law_broadcast.specs.Synced.{AreSynced}
use Rattle.sd_law_broadcast.proofs.Cut.{taken_synced, taken_whole}
use Rattle.sd_law_broadcast.proofs.Taken.{broadcast_taken}
use Rattle.sd_law_broadcast.proofs.Sendable.{clear_sendable}
use Rattle.sd_law_losses.specs.Confirmed.{opened_by}
use Rattle.sd_law_losses.specs.Endings.{first_revoked}
use Rattle.sd_command_base.specs.declared.status.Status.{Status}
use Rattle.sd_command_base.specs.declared.status.Status.TheVariants.{Done, BadWord}
use Rattle.sd_command_base.specs.Texts.{line_of_status}
use Rattle.sd_command_base.specs.Spec.{contents_of, of_result, value, ◌>>=◌}
use Rattle.sd_command_base.specs.Outside.{IoState}
use Rattle.sd_command_base.specs.Work.{Uncounted}
use Rattle.sd_command_base.specs.Results.{RunResult}
use Rattle.sd_command_base.proofs.Follow.{then_is}
use Rattle.sd_command_base.specs.Shown.{NumberArgument, word_at}
use Rattle.sd_command_base.specs.Files.{site_in}
use Rattle.sd_command_base.specs.Made.{making}
use Rattle.sd_command_base.specs.Turned.{turning}
use Rattle.sd_run_books.specs.Card.{made_card, card_meaning}
use Rattle.sd_run_broadcasts.specs.Head.{head_plan_meaning, sending_of, sent_status, head_meaning}
use Rattle.sd_run_broadcasts.proofs.HeadSending.{sent_whole}
use Rattle.sd_run_broadcasts.proofs.Refusals.{none_whole}
use Rattle.sd_run_broadcasts.specs.Receive.{receiving, received_steps, receive_meaning}
use Rattle.sd_law_run.specs.Good.{IsGoodSite, IsGoodBook}
use Rattle.sd_law_run.specs.Headline.{Names, file_in, AreGiven, IsUndisturbed, card_file_for}
use Rattle.sd_law_run.specs.Headline.{HeadResult, CardResult, ReceiveResult}
use Rattle.sd_law_run.specs.Sendable.{AreSendable}
use Rattle.sd_law_run.proofs.Goodness.{site_good, plan_good}
use Rattle.sd_law_run.proofs.Broadcasts.{received, opened_bytes, opened_status, opened_steps, whole_line}
use Rattle.sd_law_run.proofs.Shelf.{made_there, others_stay}
use Rattle.sd_law_run.proofs.Plans.{good_plan}
use Rattle.sd_law_run.proofs.Runs.{runs_work, none_said}

-- the broadcast as a file
abbrev stream_of : Plan → List (List ℕ) → List ℕ
stream_of plan clear = concat (broadcast plan clear)

-- a file that is there is one of told files
pub record IsTold (o : Option Files) (name bytes : List ℕ) : Type 0 where
  pub files : Files
  pub told : o ≡ Some files
  pub there : get files name ≡ Some bytes

pub is_told : (o : Option Files) (name bytes : List ℕ) → option_and_then (λ (f : Files). get f name) o ≡ Some bytes →
    IsTold o name bytes
is_told None name bytes e = absurd (cc)
is_told (Some files) name bytes e = record { files = files; told = refl; there = e }

-- what told files have of a name
pub of_told : (at : IoState) (files : Files) (name : List ℕ) → at.place.files ≡ Some files →
    file_in at name ≡ get files name
of_told at files name told = ap (option_and_then (λ (f : Files). get f name)) told

-- what stands after work that makes a file
pub made_in : (at : IoState) (files : Files) (name bytes : List ℕ) → at.place.files ≡ Some (insert files name bytes) →
    file_in at name ≡ Some bytes
made_in at files name bytes told =
    of_told at (insert files name bytes) name told ∙ made_there files name bytes

-- and the other files are as they were
abbrev OthersStay : List ℕ → IoState → IoState → Type 0
OthersStay made a b = (name : List ℕ) → name ≢ made → file_in b name ≡ file_in a name

pub others_in : (a b : IoState) (files : Files) (name bytes : List ℕ) → a.place.files ≡ Some files →
    b.place.files ≡ Some (insert files name bytes) → OthersStay name a b
others_in a b files name bytes before after other apart =
    of_told b (insert files name bytes) other after
    ∙ (others_stay files name bytes other apart ∙ sym (of_told a files other before))

-- the card of a leaf as a file
pub card_same : (site : SiteFields) (u : ℕ) → card_bytes (site_card site u) ≡ card_file_for site u
unfolding card_bytes card_of
card_same site u = refl

-- a good site and a good book, and a clear stream, can be sent
pub all_sendable : (names : Names) (plan : Plan) (clear : List (List ℕ)) (at : IoState) →
    AreGiven at names plan clear → AreSendable plan clear
all_sendable names plan clear at given = record {
  is_plan = good_plan (λ word. file_in at word.text) (word_at 1 names.site) (word_at 2 names.book) plan given.site
      given.book;
  sendable = clear_sendable plan.site clear (none_whole plan.site clear given.clear.is_clear).0;
  whole = subst AreWholePackets given.clear.packets (taken_whole given.clear.bytes given.clear.are_bytes);
  synced = subst AreSynced given.clear.packets (taken_synced given.clear.bytes);
}

-- clear packets that can be sent
module _ (plan : Plan) (clear : List (List ℕ)) (sends : AreSendable plan clear) where
  sends_long : AreLong clear
  sends_long =
      All-weaker IsWholePacket (λ (packet : List ℕ). length packet ≡ 188) (λ packet is. is.long) clear sends.whole

  taken : (packets_taken (stream_of plan clear) ≡ broadcast plan clear) × (end_of (stream_of plan clear) ≡ Whole)
  taken = broadcast_taken plan clear sends.is_plan sends.sendable sends.whole sends.synced

  pub covers_named : (q : ℕ) → plan.site.first_period ≤ q → q ≤ period_of plan (length clear - 1) →
      NamesPeriod plan q (sets_named plan.site.height plan.site.emm q (packets_taken (stream_of plan clear)))
  covers_named q from within =
      subst (λ (ps : List (List ℕ)). NamesPeriod plan q (sets_named plan.site.height plan.site.emm q ps))
      (sym taken.0) (period_named plan clear q sends.is_plan sends.sendable sends_long from within)

  pub receive_part : (names : Names) (u : ℕ) (a b : IoState) (answer : Status) → u < 2 ^ plan.site.height →
      file_in a names.card ≡ Some (card_file_for plan.site u) → file_in a names.stream ≡ Some (stream_of plan clear) →
      RunResult (receive_meaning (word_at 1 names.card) (word_at 2 names.stream) (word_at 3 names.out)) a b answer →
      IsUndisturbed a b answer → ReceiveResult names plan u clear a b answer
  receive_part names u a b answer leaf card_there stream_there answers well =
      let t = is_told a.place.files names.card (card_file_for plan.site u) card_there in
      let is_plan = sends.is_plan in
      let site = is_plan.site in
      let fields = site_card plan.site u in
      let stream = stream_of plan clear in
      let out = word_at 3 names.out in
      let made = made_is_card plan.site.master plan.site.ca plan.site.height u is_plan.ca site.height.0 site.height.1
      leaf in
      let work = received (contents_of t.files) (word_at 1 names.card) (word_at 2 names.stream) out fields stream made
      (t.there ∙ ap (λ (bs : List ℕ). Some bs) (sym (card_same plan.site u)))
      (sym (of_told a t.files names.stream t.told) ∙ stream_there) in
      let done = runs_work (receive_meaning (word_at 1 names.card) (word_at 2 names.stream) out)
      (receiving fields out stream) t.files a b answer work t.told answers well in
      let bytes = opened_bytes plan u clear is_plan sends.sendable sends.whole leaf stream taken.0 in
      let few : b.steps ≤ a.steps + received_steps fields stream = done.steps in
      let most = opened_steps plan u clear is_plan sends.sendable sends.whole leaf stream taken.0 in
      let left = done.left ∙ ap (λ (bs : List ℕ). Some (insert t.files names.out bs)) bytes in
      let ends = done.ends
      ∙ opened_status plan u clear is_plan sends.sendable sends.whole leaf stream taken.0 taken.1 in
      record {
        written = made_in b t.files names.out (concat (opened_by plan u clear)) left;
        ends = ends;
        steps = omega (arith, few, most);
        others = others_in a b t.files names.out (concat (opened_by plan u clear)) t.told left;
        told = subst (λ (l : List ℕ). Appends a.page.printed b.page.printed l)
            (ap line_of_status ends ∙ whole_line u (first_revoked plan u clear)) done.printed;
      }

module _ (names : Names) (plan : Plan) (clear : List (List ℕ)) (at : IoState) (given : AreGiven at names plan clear)
  where
    head_work : (files : Files) → at.place.files ≡ Some files →
        (head_meaning (word_at 1 names.site) (word_at 2 names.book) (word_at 3 names.clear) (word_at 4 names.stream)
        (contents_of files)).result ≡ Ok (turning Uncounted (word_at 4 names.stream) (stream_of plan clear) Done)
    unfolding head_meaning
    head_work files told =
        let out = word_at 4 names.stream in
        let bytes = given.clear.bytes in
        let site : IsGoodSite (get files names.site) plan.site = record {
          bytes = given.site.bytes;
          there = sym (of_told at files names.site told) ∙ given.site.there;
          is_site = given.site.is_site;
        } in
        let book : IsGoodBook (get files names.book) plan.site.height plan.commands = record {
          bytes = given.book.bytes;
          there = sym (of_told at files names.book told) ∙ given.book.there;
          is_book = given.book.is_book;
          within = given.book.within;
        } in
        let there = sym (of_told at files names.clear told) ∙ given.clear.there in
        let is_clear = subst (λ (ps : List (List ℕ)). whole_refusal plan.site ps ≡ None) (sym given.clear.packets)
        given.clear.is_clear in
        let sent = sent_whole plan bytes is_clear given.clear.whole in
        then_is (head_plan_meaning (word_at 1 names.site) (word_at 2 names.book) (contents_of files)) plan
        (sending_of (word_at 3 names.clear) out (get files names.clear))
        (plan_good (contents_of files) (word_at 1 names.site) (word_at 2 names.book) plan.site plan.commands site book
        given.own)
        ∙ (ap (λ (got : Option (List ℕ)). (sending_of (word_at 3 names.clear) out got plan).result) there
        ∙ (ap (λ (bs : List ℕ). Ok (turning Uncounted out bs (sent_status plan bytes)))
        (sym sent.0 ∙ ap (λ (ps : List (List ℕ)). concat (broadcast plan ps)) given.clear.packets)
        ∙ ap (λ (s : Status). Ok (turning Uncounted out (stream_of plan clear) s)) (sym sent.1)))

    pub head_part : (b : IoState) (answer : Status) → RunResult (head_meaning (word_at 1 names.site)
        (word_at 2 names.book) (word_at 3 names.clear) (word_at 4 names.stream)) at b answer →
        IsUndisturbed at b answer →
        HeadResult names plan clear at b answer
    head_part b answer answers well =
        let t = is_told at.place.files names.site given.site.bytes given.site.there in
        let done = runs_work (head_meaning (word_at 1 names.site) (word_at 2 names.book) (word_at 3 names.clear)
        (word_at 4 names.stream)) (turning Uncounted (word_at 4 names.stream) (stream_of plan clear) Done) t.files at b
        answer (head_work t.files t.told) t.told answers well in
        record {
          done = done.ends;
          sent_is = made_in b t.files names.stream (stream_of plan clear) done.left;
          periods = covers_named plan clear (all_sendable names plan clear at given);
          others = others_in at b t.files names.stream (stream_of plan clear) t.told done.left;
          silent = none_said at.page b.page answer done.printed done.ends;
        }

pub card_part : (names : Names) (site : SiteFields) (u : ℕ) (a b : IoState) (answer : Status) →
    IsGoodSite (file_in a names.site) site → u < 2 ^ site.height →
    RunResult (card_meaning (word_at 1 names.site) (record { word = 2; value = u }) (word_at 3 names.card)) a b answer →
    IsUndisturbed a b answer → CardResult names site u a b answer
card_part names site u a b answer good leaf answers well =
    let t = is_told a.place.files names.site good.bytes good.there in
    let number : NumberArgument = record { word = 2; value = u } in
    let out = word_at 3 names.card in
    let bytes = card_bytes (site_card site u) in
    let own = subst (λ (got : Option (List ℕ)). IsGoodSite got site) (of_told a t.files names.site t.told) good in
    let work = then_is (site_in (contents_of t.files) (word_at 1 names.site)) site
    (λ fields. of_result (made_card fields number) >>= λ bytes. value (making Uncounted out bytes))
    (site_good (contents_of t.files) (word_at 1 names.site) site own)
    ∙ then_is (of_result (made_card site number)) bytes (λ bytes. value (making Uncounted out bytes))
    (ap (λ (b : Bool). cond b (Ok bytes) (Err (BadWord 2))) (lt-ltb u (2 ^ site.height) leaf)) in
    let done = runs_work (card_meaning (word_at 1 names.site) number out) (making Uncounted out bytes) t.files a b
    answer work t.told answers well in
    record {
      done = done.ends;
      card_is = made_in b t.files names.card bytes done.left ∙ ap (λ (bs : List ℕ). Some bs) (card_same site u);
      others = others_in a b t.files names.card bytes t.told done.left;
      silent = none_said a.page b.page answer done.printed done.ends;
    }
