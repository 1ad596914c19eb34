-- What `watch` leaves of any stream.
use Rattle.std.proofs.Common.{◌≡◌, ℕ, List, Option, Some, Ok, sym, ap, ◌∙◌}
use Rattle.sd_site_cards.specs.CardFields.{CardFields, IsCard, card_bytes}
use Rattle.sd_command_base.specs.declared.status.Status.{Status}
use Rattle.sd_command_base.specs.Spec.{FileArgument, Readings, whole_file_bytes, contents_of, value, ◌>>=◌}
use Rattle.sd_command_base.specs.Outside.{IoState}
use Rattle.sd_command_base.specs.Results.{RunResult}
use Rattle.sd_command_base.specs.Shown.{word_at}
use Rattle.sd_command_base.proofs.Follow.{then_is}
use Rattle.sd_run_broadcasts.specs.Receive.{card_of_file}
use Rattle.sd_run_broadcasts.specs.Watch.{watch_meaning, watched_meaning, watched_of, watched_steps, watching}
use Rattle.sd_law_run.specs.Headline.{Names, file_in, IsUndisturbed}
use Rattle.sd_law_run.specs.Watched.{WatchResult}
use Rattle.sd_law_run.proofs.Broadcasts.{card_good}
use Rattle.sd_law_run.proofs.LastLines.{last_lines}
use Rattle.sd_law_run.proofs.Parts.{is_told, of_told, made_in, others_in}
use Rattle.sd_law_run.proofs.Runs.{runs_work}

-- what is meant, over a card and any stream
pub watched : (given : Readings) (card stream out : FileArgument) (fields : CardFields) (bytes : List ℕ) →
    IsCard fields → given card ≡ Some (card_bytes fields) → given stream ≡ Some bytes →
    (watch_meaning card stream out given).result ≡ Ok (watching fields out bytes)
unfolding watch_meaning
watched given card stream out fields bytes is there stream_there =
    ap (λ (got : Option (List ℕ)). (card_of_file card.number got >>= λ f. watched_meaning f stream out given).result)
    there
    ∙ then_is (card_of_file card.number (Some (card_bytes fields))) fields (λ f. watched_meaning f stream out given)
    (card_good card.number fields is)
    ∙ ap (λ (got : Option (List ℕ)). (whole_file_bytes stream.number got >>= λ b. value (watching fields out b)).result)
    stream_there

-- and what is left
pub watch_part : (names : Names) (card : CardFields) (bytes : List ℕ) (a b : IoState) (answer : Status) → IsCard card →
    file_in a names.card ≡ Some (card_bytes card) → file_in a names.stream ≡ Some bytes →
    RunResult (watch_meaning (word_at 1 names.card) (word_at 2 names.stream) (word_at 3 names.out)) a b answer →
    IsUndisturbed a b answer → WatchResult names card bytes a b answer
unfolding watched_steps
watch_part names card bytes a b answer is card_there stream_there answers well =
    let t = is_told a.place.files names.card (card_bytes card) card_there in
    let out = word_at 3 names.out in
    let work = watched (contents_of t.files) (word_at 1 names.card) (word_at 2 names.stream) out card bytes is t.there
    (sym (of_told a t.files names.stream t.told) ∙ stream_there) in
    let done = runs_work (watch_meaning (word_at 1 names.card) (word_at 2 names.stream) out) (watching card out bytes)
    t.files a b answer work t.told answers well in
    record {
      ends = done.ends;
      written = made_in b t.files names.out (watched_of card bytes) done.left;
      told = done.printed;
      last = λ before after line is. last_lines card bytes before after line is;
      steps = done.steps;
      others = others_in a b t.files names.out (watched_of card bytes) t.told done.left;
    }
