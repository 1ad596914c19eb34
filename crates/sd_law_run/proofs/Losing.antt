-- What `receive` leaves over any choice of a broadcast's packets.
use Rattle.std.proofs.Common.{◌≡◌, ℕ, ◌+◌, ◌^◌, ◌<◌, ◌≤◌, Bool, List, Some, sym, ap, subst, ◌∙◌, arith}
use Rattle.std.specs.FinMap.{insert}
use Rattle.std.specs.List.{concat}
use Rattle.std.specs.Io.KnownBytes.{Appends}
use Rattle.sd_site_cards.specs.CardFields.{site_card}
use Rattle.sd_site_cards.proofs.Made.{made_is_card}
use Rattle.sd_spec.specs.Plan.{Plan}
use Rattle.sd_spec.specs.Sent.{broadcast}
use Rattle.sd_law_losses.specs.Chosen.{chosen}
use Rattle.sd_law_losses.specs.Confirmed.{confirmed}
use Rattle.sd_law_losses.specs.Endings.{ending_told}
use Rattle.sd_command_base.specs.declared.status.Status.{Status}
use Rattle.sd_command_base.specs.Texts.{line_of_status}
use Rattle.sd_command_base.specs.Spec.{contents_of}
use Rattle.sd_command_base.specs.Outside.{IoState}
use Rattle.sd_command_base.specs.Results.{RunResult}
use Rattle.sd_command_base.specs.Shown.{word_at}
use Rattle.sd_run_broadcasts.specs.Receive.{receiving, received_steps, receive_meaning}
use Rattle.sd_law_run.specs.Headline.{Names, file_in, IsUndisturbed, card_file_for}
use Rattle.sd_law_run.specs.Sendable.{AreSendable}
use Rattle.sd_law_run.specs.Lost.{kept_items, LossResult}
use Rattle.sd_law_run.proofs.Broadcasts.{received}
use Rattle.sd_law_run.proofs.Lost.{ended_line, rest_bytes, rest_status, rest_steps, rest_revoked, rest_part}
use Rattle.sd_law_run.proofs.Runs.{runs_work}
use Rattle.sd_law_run.proofs.Parts.{is_told, of_told, made_in, others_in, card_same}

pub lost_part : (names : Names) (plan : Plan) (clear : List (List ℕ)) (sends : AreSendable plan clear) (u : ℕ)
    (flags : List Bool) (a b : IoState) (answer : Status) →
    u < 2 ^ plan.site.height → file_in a names.card ≡ Some (card_file_for plan.site u) →
    file_in a names.stream ≡ Some (concat (chosen flags (broadcast plan clear))) →
    RunResult (receive_meaning (word_at 1 names.card) (word_at 2 names.stream) (word_at 3 names.out)) a b answer →
    IsUndisturbed a b answer → LossResult names plan u clear (kept_items plan clear flags) a b answer
lost_part names plan clear sends u flags a b answer leaf card_there stream_there answers well =
    let is = sends.is_plan in
    let can = sends.sendable in
    let whole = sends.whole in
    let synced = sends.synced in
    let t = is_told a.place.files names.card (card_file_for plan.site u) card_there in
    let site = is.site in
    let fields = site_card plan.site u in
    let stream = concat (chosen flags (broadcast plan clear)) in
    let out = word_at 3 names.out in
    let made = made_is_card plan.site.master plan.site.ca plan.site.height u is.ca site.height.0 site.height.1 leaf in
    let work = received (contents_of t.files) (word_at 1 names.card) (word_at 2 names.stream) out fields stream made
    (t.there ∙ ap (λ (bs : List ℕ). Some bs) (sym (card_same plan.site u)))
    (sym (of_told a t.files names.stream t.told) ∙ stream_there) in
    let done = runs_work (receive_meaning (word_at 1 names.card) (word_at 2 names.stream) out)
    (receiving fields out stream) t.files a b answer work t.told answers well in
    let bytes = rest_bytes plan u clear flags is can whole synced leaf in
    let few : b.steps ≤ a.steps + received_steps fields stream = done.steps in
    let most = rest_steps plan u clear flags is can whole synced leaf in
    let part = rest_part plan u clear flags is can whole synced leaf in
    let ends = done.ends ∙ rest_status plan u clear flags is can whole synced leaf in
    let left = done.left ∙ ap (λ (bs : List ℕ). Some (insert t.files names.out bs)) bytes in
    record {
      written = made_in b t.files names.out (concat (confirmed plan u clear (kept_items plan clear flags))) left;
      parts = part.0;
      part = part.1;
      ends = ends;
      revoked = λ q e. rest_revoked plan u clear flags is can whole synced leaf q (sym done.ends ∙ e);
      steps = omega (arith, few, most);
      others = others_in a b t.files names.out (concat (confirmed plan u clear (kept_items plan clear flags))) t.told
          left;
      told = subst (λ (l : List ℕ). Appends a.page.printed b.page.printed l)
          (ap line_of_status ends ∙ ended_line u (ending_told plan u clear (kept_items plan clear flags))) done.printed;
    }
