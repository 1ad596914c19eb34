-- Each message of a broadcast names its run.
use Rattle.std.proofs.Common.{◌≡◌, ◌∙◌, ℕ, ◌-◌, ◌/◌, Bool, true, false, Option, List, length, take, refl}
use Rattle.std.specs.Prelude.{Contains}
use Rattle.std.proofs.lemmas.List.Elements.{All-contains}
use Rattle.sd_site_cards.specs.SiteFields.{run_name_of}
use Rattle.sd_message.specs.Period.{IsOfPeriod, emms_of}
use Rattle.sd_message.specs.declared.emm.Emm.{Emm}
use Rattle.sd_message.proofs.EmmSharing as Periods
use Rattle.sd_message.specs.EcmParts.{Message, IsOfMessage, parts_of}
use Rattle.sd_message.specs.declared.ecm_part.EcmPart.{EcmPart}
use Rattle.sd_message.proofs.EcmSharing as Messages
use Rattle.sd_spec.specs.Plan.{Plan, period_of, closing_number}
use Rattle.sd_spec.specs.Messages.{period_at, message_at}
use Rattle.sd_spec.specs.Sent.{Entitles, Controls}
use Rattle.sd_spec.specs.Items.{IsOfBroadcast, entitlement, part, closing}

period_names : (plan : Plan) (q : ℕ) → (period_at plan q).run ≡ run_name_of plan.site
unfolding period_at
period_names plan q = refl

message_names : (plan : Plan) (before : List (List ℕ)) (a k : ℕ) (last : Bool) →
    (message_at plan before a k last).run ≡ run_name_of plan.site
unfolding message_at
message_names plan before a k last = refl

-- a section of entitlements does
pub section_names : (plan : Plan) (clear : List (List ℕ)) (emm : Emm) → IsOfBroadcast plan clear (Entitles emm) →
    emm.run ≡ run_name_of plan.site
section_names plan clear emm (entitlement k within m) =
    let q : ℕ = period_of plan k in
    (All-contains (IsOfPeriod (period_at plan q)) (emms_of (period_at plan q)) emm (Periods.all_are_of (period_at plan
    q)) m).run
    ∙ period_names plan q

-- and so does a part of a control message
of_message : (message : Message) (run : Option ℕ) (one : EcmPart) → message.run ≡ run →
    Contains (parts_of message) one → one.run ≡ run
of_message message run one named m =
    (All-contains (IsOfMessage message) (parts_of message) one (Messages.all_are_of message) m).run ∙ named

pub part_names : (plan : Plan) (clear : List (List ℕ)) (one : EcmPart) → IsOfBroadcast plan clear (Controls one) →
    one.run ≡ run_name_of plan.site
part_names plan clear one (part k within due m) =
    of_message (message_at plan (take k clear) (k / plan.site.every) k false) (run_name_of plan.site) one
    (message_names plan (take k clear) (k / plan.site.every) k false) m
part_names plan clear one (closing m) =
    let last : ℕ = closing_number plan.site (length clear) in
    of_message (message_at plan clear last (length clear - 1) true) (run_name_of plan.site) one
    (message_names plan clear last (length clear - 1) true) m
