-- Public meaning: what `receive` writes of a whole broadcast [this project, docs/FORMATS.md, Receiver].
use Rattle.std.specs.Prelude.{◌≡◌, ℕ, ◌+◌, ◌-◌, ◌*◌, ◌≤◌, nat_le, ◌&&◌, not, List, [], length, Option, Some, None, Ok}
use Rattle.std.specs.List.{concat}
use Rattle.sd_base.specs.Types.{Bytes, Packets, LeafNumber, PeriodNumber}
use Rattle.sd_site_cards.specs.CardFields.{card_bytes, site_card}
use Rattle.sd_engine.specs.Taken.{Whole, packets_taken, end_of}
use Rattle.sd_spec.specs.Plan.{Plan, period_of}
use Rattle.sd_spec.specs.Sent.{broadcast}
use Rattle.sd_law_losses.specs.Confirmed.{is_revoked_in, opened_by}
use Rattle.sd_law_losses.specs.Endings.{first_revoked}
use Rattle.sd_law_losses.specs.Taken.{how_many}
use Rattle.sd_command_base.specs.declared.status.Status.{Status}
use Rattle.sd_command_base.specs.declared.status.Status.TheVariants.{Done, Revoked}
use Rattle.sd_command_base.specs.Texts.{revoked_line}
use Rattle.sd_command_base.specs.Spec.{FileArgument, Readings}
use Rattle.sd_command_base.specs.Work.{UpTo, Work}
use Rattle.sd_command_line.specs.Words.{ReceiveOf, order_of}

-- the number of the broadcast's periods in which leaf u isn't revoked
unfoldable pub unrevoked_periods : Plan → LeafNumber → Packets → ℕ
unrevoked_periods plan u clear =
    how_many (λ q. nat_le plan.site.first_period q && not (is_revoked_in plan u q))
    (period_of plan (length clear - 1) + 1)

-- done, or leaf u is revoked in this period
abbrev pub revoked_status : LeafNumber → Option PeriodNumber → Status
revoked_status u None = Done
revoked_status u (Some q) = Revoked u q

-- the line of that: none, or that leaf u is revoked [this project, docs/FORMATS.md, Exits]
abbrev pub revoked_text : LeafNumber → Option PeriodNumber → Bytes
revoked_text u None = []
revoked_text u (Some q) = revoked_line u q

-- the arguments are `receive CARD STREAM OUT`. CARD is the card of leaf u of the site, and the packets of STREAM are
-- the broadcast of the clear stream
pub record IsBroadcastTo (plan : Plan) (u : LeafNumber) (clear : Packets) (words : List Bytes) (given : Readings) : Type
    0
  where
    pub card : FileArgument
    pub stream : FileArgument
    pub out : FileArgument
    pub order : order_of words ≡ Ok (ReceiveOf card stream out)
    pub card_there : given card ≡ Some (card_bytes (site_card plan.site u))
    pub bytes : Bytes
    pub there : given stream ≡ Some bytes
    pub packets : packets_taken bytes ≡ broadcast plan clear
    pub whole : end_of bytes ≡ Whole

-- OUT is the clear packets of the periods in which leaf u isn't revoked. The status is `Done`, or names the leaf as
-- revoked and the first of the broadcast's periods in which it is. For each period in which it isn't, at most as many
-- steps are taken as the tree is high
pub record IsReceivedOut (plan : Plan) (u : LeafNumber) (clear : Packets) (out : FileArgument) (work : Work) : Type 0
  where
    pub file : work.out ≡ Some (record { word = out.number; name = out.text; bytes = concat (opened_by plan u clear) })
    pub printed : work.pieces ≡ []
    pub ends : work.ends ≡ revoked_status u (first_revoked plan u clear)
    pub most : ℕ
    pub counted : work.steps ≡ UpTo most
    pub few : most ≤ plan.site.height * unrevoked_periods plan u clear
