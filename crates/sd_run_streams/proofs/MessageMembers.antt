-- The members of what is shown, put into an object.
use Rattle.std.proofs.Common.{◌≡◌, ◌∙◌, ℕ, List, ◌++◌, Option, Some, None, refl, ap}
use Rattle.serde_json.specs.Data.{Data, object, no_members}
use Rattle.sd_run_streams.specs.TableMembers.{members_with_entries}
use Rattle.sd_message.specs.declared.ecm_part.EcmPart.{EcmPart}
use Rattle.sd_run_streams.specs.MessageLines.{ecm_data}
use Rattle.sd_run_streams.specs.MessageMembers.{ecm_members, run_members}

-- the name of the run goes to its place
put_ecm : (packet pid : ℕ) (part : EcmPart) (run : Option ℕ) → part.run ≡ run →
    object (members_with_entries (ecm_members packet pid part ++ run_members run) no_members) ≡ ecm_data packet pid part
unfolding ecm_members ecm_data
put_ecm packet pid part None is = rw is refl
put_ecm packet pid part (Some run) is = rw is refl

-- so all of them are what is shown of a part
pub ecm_shown : (packet pid : ℕ) (part : EcmPart) (shown : Data) (members before : List (List ℕ × Data)) →
    shown ≡ object (members_with_entries members no_members) → members ≡ before ++ run_members part.run →
    before ≡ ecm_members packet pid part → shown ≡ ecm_data packet pid part
ecm_shown packet pid part shown members before is all first =
    is ∙ (ap (λ (ms : List (List ℕ × Data)). object (members_with_entries ms no_members))
    (all ∙ ap (λ (ms : List (List ℕ × Data)). ms ++ run_members part.run) first)
    ∙ put_ecm packet pid part part.run refl)
