-- What comes behind a run and is no message changes nothing of how the run ends.
use Rattle.std.proofs.Common.{◌≡◌, refl, ℕ, ◌+◌, Bool, true, false, List, ◌∷◌, ap, ◌∙◌}
use Rattle.std.specs.Prelude.{if◌then◌else◌}
use Rattle.std.specs.Option.{option_map_or}
use Rattle.std.proofs.lemmas.Bool.{false≢true}
use Rattle.sd_base.proofs.Bools.{chosen_itself}
use Rattle.sd_site_cards.specs.CardFields.{CardFields}
use Rattle.sd_message.specs.EcmParts.{Message}
use Rattle.sd_spec.specs.declared.ending.Ending.{Ending}
use Rattle.sd_spec.specs.declared.ending.Ending.TheVariants.{Unclosed}
use Rattle.sd_spec.specs.Heard.{Heard, Dropped, Entitles, Controls, BadEmm, BadEcm, Other}
use Rattle.sd_spec.specs.Stretches.{Stretch, newest_message, is_closed, messages, sections_seen}
use Rattle.sd_spec.specs.Offered.{heard_more}
use Rattle.sd_spec.specs.Ending.{periods_told, closed_ending, run_ending}
use Rattle.sd_law_losses.proofs.Leading.{is_quiet, AreQuiet, closed_quiet, newest_quiet}
use Rattle.sd_law_losses.proofs.Following.{more_is, quiet_stays}

-- how a run ends, by whether it is closed
abbrev pub ending_if : CardFields → List Heard → ℕ → Bool → Ending
ending_if card past wrote closed =
    if closed then closed_ending card past wrote
    else Unclosed (option_map_or (λ (m : Message). m.number + 1) (newest_message past).message 0)

-- a run with a thing behind it that is no message ends as it does without
ending_trails : (card : CardFields) (past : List Heard) (thing : Heard) (wrote : ℕ) → is_quiet thing ≡ true →
    run_ending card (thing ∷ past) wrote ≡ run_ending card past wrote
unfolding run_ending is_closed periods_told messages newest_message sections_seen
ending_trails card past Dropped wrote quiet = ap (ending_if card past wrote) (chosen_itself (is_closed past))
ending_trails card past (Entitles emm) wrote quiet = absurd (false≢true quiet)
ending_trails card past (Controls part) wrote quiet = absurd (false≢true quiet)
ending_trails card past (BadEmm fault) wrote quiet = absurd (false≢true quiet)
ending_trails card past (BadEcm fault) wrote quiet = absurd (false≢true quiet)
ending_trails card past (Other n packet) wrote quiet = ap (ending_if card past wrote) (chosen_itself (is_closed past))

-- whether or not the run was closed before it
pub ending_more : (card : CardFields) (past : List Heard) (thing : Heard) (wrote : ℕ) → is_quiet thing ≡ true →
    run_ending card (heard_more past thing) wrote ≡ run_ending card past wrote
ending_more card past thing wrote quiet =
    ap (λ (hs : List Heard). run_ending card hs wrote) (more_is past thing (quiet_stays past thing quiet))
    ∙ by_test (is_closed past)
  where
    by_test : (closed : Bool) →
        run_ending card (if closed then past else thing ∷ past) wrote ≡ run_ending card past wrote
    by_test true = refl
    by_test false = ending_trails card past thing wrote quiet

-- where no message came, none is complete
pub ending_quiet : (card : CardFields) (past : List Heard) (wrote : ℕ) → AreQuiet past →
    run_ending card past wrote ≡ Unclosed 0
unfolding run_ending
ending_quiet card past wrote quiet =
    ap (ending_if card past wrote) (closed_quiet past quiet)
    ∙ ap {B = Ending} (λ (s : Stretch). Unclosed (option_map_or (λ (m : Message). m.number + 1) s.message 0))
    (newest_quiet past quiet)
