-- What comes of a stream's file that is watched into OUT, with its lines.
use Rattle.std.proofs.Common.{◌≡◌, ◌⊎◌, ◌≤◌, ◌^◌, ◌∙◌, ℕ, true, List, [], ◌∷◌, ◌++◌, length, Option}
use Rattle.std.proofs.Common.{Some, Result}
use Rattle.std.proofs.Common.{ap, subst, inl, inr}
use Rattle.std.proofs.lemmas.List.{map-append}
use Rattle.sd_base.proofs.Bools.{tested}
use Rattle.sd_engine.specs.Cut.{readable}
use Rattle.sd_site_cards.specs.CardFields.{CardFields}
use Rattle.sd_spec.specs.Reports.{report_of, turned_reports, reports}
use Rattle.sd_watch.specs.Watching.{watcher_card, IsWatching}
use Rattle.sd_watch.specs.declared.watcher.Watcher.{Watcher}
use Rattle.sd_command_base.specs.declared.status.Status.{Status}
use Rattle.sd_command_base.specs.Outside.{DepotState, PageState, io_state}
use Rattle.sd_command_base.specs.Spec.{FileArgument, whole_file_bytes, value, ◌>>=◌}
use Rattle.sd_command_base.specs.Work.{UpTo}
use Rattle.sd_command_base.specs.Outcome.{OutcomeWithin, status_of}
use Rattle.sd_command_base.specs.Turned.{ArePortsOpened, ArePortsClosed, HasPortCause, unclosed_by}
use Rattle.sd_command_base.proofs.Turning.{unclosed_told}
use Rattle.sd_run_broadcasts.specs.Live.{Lived, TellsEnd, is_outside, living}
use Rattle.sd_run_broadcasts.specs.Watch.{watch_report_line, skipped_at, watched_lines, watched_of, watched_status}
use Rattle.sd_run_broadcasts.specs.Watch.{watched_steps, watching}
use Rattle.sd_run_broadcasts.specs.Watched.{turned_lines, WatchesLeft}
use Rattle.sd_run_broadcasts.proofs.Living.{IsLive, gives_none, lived_obeys}

-- the last line
abbrev last_line : CardFields → List ℕ → List ℕ
last_line card bytes =
    watch_report_line card.leaf (skipped_at bytes (length (readable bytes))) (report_of card (readable bytes))

-- all lines are those before turns, and the last one
all_lines : (card : CardFields) (bytes : List ℕ) →
    watched_lines card bytes ≡ turned_lines card bytes (readable bytes) ++ last_line card bytes ∷ []
unfolding watched_lines reports report_of
all_lines card bytes =
    map-append (λ report. watch_report_line card.leaf (skipped_at bytes report.packets) report)
    (turned_reports card [] (readable bytes)) (report_of card (readable bytes) ∷ [])

-- a status of the outside stands where OUT isn't closed, and where it is
outside_closed : (over closed : Result (Unit {0}) Status) →
    ((closed ≡ over) ⊎ (closed ≡ unclosed_by over)) → is_outside (status_of over) ≡ true →
    is_outside (status_of closed) ≡ true
outside_closed over closed (inl same) is = ap (λ (r : Result (Unit {0}) Status). is_outside (status_of r)) same ∙ is
outside_closed over closed (inr short) is =
    ap (λ (r : Result (Unit {0}) Status). is_outside (status_of r)) short
    ∙ ap is_outside (unclosed_told over ∙ gives_none (status_of over) is) ∙ is

-- a stream that was watched
pub watched_obeys : (card : CardFields) (stream out : FileArgument) (p q r : DepotState) (a b c : PageState) (i j : ℕ)
    (left held held' : Option (List ℕ)) (f f' o o' : ℕ) (watcher : Watcher) (skipped : ℕ)
    (over closed : Result (Unit {0}) Status) (status : Status) →
    ArePortsOpened p q stream.text out.text left held f o → HasPortCause f f' o o' (status_of over) →
    (w : WatchesLeft card left held held' a b i j watcher skipped (status_of over)) →
    ArePortsClosed q r out.text held' f' o' over closed →
    ((line : List ℕ) → is_outside (status_of closed) ≡ true → TellsEnd line (status_of closed) b c status) →
    ((s : List (List ℕ)) → IsWatching s watcher → length s ≤ 2 ^ 48 →
    TellsEnd (watch_report_line (watcher_card watcher).leaf skipped (report_of (watcher_card watcher) s))
    (status_of closed) b c
    status) →
    OutcomeWithin (whole_file_bytes stream.number (Some w.bytes) >>= λ bytes. value (watching card out bytes))
    (io_state p a i)
    (io_state r c j) status
watched_obeys card stream out p q r a b c i j left held held' f f' o o' watcher skipped over closed status opened
    cause w closes untold told =
    let bytes = w.bytes in
    let first = turned_lines card bytes (readable bytes) in
    let line = last_line card bytes in
    let tells : TellsEnd line (status_of closed) b c status = tested (is_outside (status_of over))
    (λ is. untold line (outside_closed over closed (elim closes.ends [
      | inl whole ↦ inl whole.0
      | inr short ↦ inr short.0
    ]) is))
    (λ inside.
    let keeps = w.last inside in
    subst (λ (x : CardFields). TellsEnd (watch_report_line x.leaf (skipped_at bytes (length (readable bytes)))
    (report_of x (readable bytes))) (status_of closed) b c status) keeps.same
    (subst (λ (n : ℕ). TellsEnd (watch_report_line (watcher_card watcher).leaf n (report_of (watcher_card watcher)
    (readable bytes)))
    (status_of closed) b c status) keeps.skipped_is (told (readable bytes) keeps.keeps keeps.few))) in
    let lived : Lived (watched_of card bytes) (first ++ line ∷ []) first (watched_status card bytes) held held' a b
    (status_of over) =
    subst (λ (ls : List (List ℕ)). Lived (watched_of card bytes) ls first (watched_status card bytes) held held' a b
    (status_of over)) (all_lines card bytes) w.lived in
    let live : IsLive (UpTo (watched_steps card bytes)) out (watched_of card bytes) first line (watched_status card
    bytes)
    p q r a b c i j left held held' stream.text f f' o o' over closed status =
    record { opened = opened; cause = cause; lived = lived; closes = closes; tells = tells } in
    lived_obeys (UpTo (watched_steps card bytes)) out (watched_of card bytes) first line (watched_status card bytes)
    p q r a b c i j left held held' stream.text f f' o o' over closed status live stream.number bytes (watching card
    out)
    (ap (λ (ls : List (List ℕ)). living (UpTo (watched_steps card bytes)) out (watched_of card bytes) ls
    (watched_status card bytes)) (all_lines card bytes)) w.steps
