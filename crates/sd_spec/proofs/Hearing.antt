-- What one thing more that is heard changes.
use Rattle.std.proofs.Common.{◌≡◌, ℕ, List, [], ◌∷◌, Option, Some, None, refl, ap}
use Rattle.sd_site_cards.specs.CardFields.{CardFields}
use Rattle.sd_message.specs.EcmParts.{Message}
use Rattle.sd_psi.specs.OurCat.{cat_tuning}
use Rattle.sd_psi.specs.declared.our_cat.Tuning.{Tuning}
use Rattle.sd_spec.specs.Tuned.{tuning_of, tuned_by}
use Rattle.sd_spec.specs.Heard.{Heard}
use Rattle.sd_spec.specs.Stretches.{newest_message, stretch_after, completes}
use Rattle.sd_spec.specs.Offered.{part_fault}

-- a CAT that was taken stays taken
pub tuned_more : (card : CardFields) (tuning : Tuning) (past : List (List ℕ)) (packet : List ℕ) →
    tuning_of card.ca past ≡ Some tuning → tuning_of card.ca (packet ∷ past) ≡ Some tuning
unfolding tuning_of
tuned_more card tuning past packet tuned = ap (λ (t : Option Tuning). tuned_by t (cat_tuning card.ca packet)) tuned

-- no parts are at fault if there are none
pub no_fault_in_none : part_fault [] ≡ None
unfolding part_fault
no_fault_in_none = refl

-- what completes nothing is heard after the newest message
pub newest_waits : (past : List Heard) (heard : Heard) → completes past heard ≡ None →
    newest_message (heard ∷ past) ≡ record {
      message = (newest_message past).message;
      before = (newest_message past).before;
      after =
          heard ∷ (newest_message past).after;
    }
unfolding newest_message
newest_waits past heard none = ap (stretch_after past (newest_message past) heard) none

-- what completes a message begins anew
pub newest_completes : (past : List Heard) (heard : Heard) (message : Message) → completes past heard ≡ Some message →
    newest_message (heard ∷ past) ≡ record { message = Some message; before = past; after = [] }
unfolding newest_message
newest_completes past heard message done = ap (stretch_after past (newest_message past) heard) done
