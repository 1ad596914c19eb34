-- Public meaning: what `receive` writes of any choice of a broadcast's packets [this project, docs/FORMATS.md,
-- Receiver].
use Rattle.std.specs.Prelude.{◌≡◌, ◌≢◌, ℕ, ◌+◌, ◌-◌, ◌*◌, ◌≤◌, ◌++◌, Bool, true, false, List, [], codes, length, Some}
use Rattle.std.specs.Prelude.{Ok}
use Rattle.std.specs.List.{concat, list_any}
use Rattle.std.specs.Io.KnownBytes.{Appends}
use Rattle.sd_base.specs.Types.{Bytes, FileName, Packets, Arrived, LeafNumber, PeriodNumber}
use Rattle.sd_site_cards.specs.CardFields.{card_bytes, site_card}
use Rattle.sd_spec.specs.Plan.{Plan, period_of}
use Rattle.sd_spec.specs.Sent.{Item, sent, closing_of, broadcast}
use Rattle.sd_spec.specs.declared.ending.Ending.{Ending}
use Rattle.sd_spec.specs.declared.ending.Ending.TheVariants as end
use Rattle.sd_law_losses.specs.Chosen.{chosen}
use Rattle.sd_law_losses.specs.Kept.{after_cat, entitles}
use Rattle.sd_law_losses.specs.Confirmed.{confirmed, opened_by, is_revoked_in}
use Rattle.sd_law_losses.specs.Endings.{ending_told}
use Rattle.sd_law_losses.specs.Taken.{how_many}
use Rattle.sd_command_base.specs.declared.status.Status.{Status}
use Rattle.sd_command_base.specs.declared.status.Status.TheVariants.{Revoked}
use Rattle.sd_command_base.specs.Texts.{gaps_line, revoked_line, unclosed_line, unheard_line}
use Rattle.sd_command_base.specs.Outside.{IoState}
use Rattle.sd_command_base.specs.Spec.{FileArgument, Readings}
use Rattle.sd_command_base.specs.Work.{UpTo, Work}
use Rattle.sd_command_line.specs.Words.{ReceiveOf, order_of}
use Rattle.sd_run_broadcasts.specs.Receive.{ending_status}
use Rattle.sd_law_run.specs.Headline.{Names, file_in}

-- the things of a broadcast that are kept
unfoldable pub kept_items : Plan → Packets → Arrived → List Item
kept_items plan clear flags = chosen flags (sent plan clear ++ closing_of plan clear)

-- the number of periods of which a section that has a set with leaf u is kept after the CAT
unfoldable pub heard_periods : Plan → LeafNumber → Packets → List Item → ℕ
heard_periods plan u clear kept =
    how_many (λ q. list_any (entitles plan.site.height u q) (after_cat kept)) (period_of plan (length clear - 1) + 1)

-- the line of how a stream ends for leaf u [this project, docs/FORMATS.md, Exits]
abbrev pub ending_line : LeafNumber → Ending → Bytes
ending_line u end.Opened = []
ending_line u (end.Revoked q) = revoked_line u q
ending_line u (end.Unheard q) = unheard_line u q
ending_line u end.NoCat = codes "no CAT for this card\n"
ending_line u (end.Unclosed number) = unclosed_line number
ending_line u (end.Gaps packets) = gaps_line packets

-- the arguments are `receive CARD STREAM OUT`. CARD is the card of leaf u of the site, and STREAM is the packets that
-- are kept of the broadcast of the clear stream, one after the other
pub record IsRestTo (plan : Plan) (u : LeafNumber) (clear : Packets) (flags : Arrived) (words : List Bytes)
    (given : Readings) : Type 0 where
  pub card : FileArgument
  pub stream : FileArgument
  pub out : FileArgument
  pub order : order_of words ≡ Ok (ReceiveOf card stream out)
  pub card_there : given card ≡ Some (card_bytes (site_card plan.site u))
  pub there : given stream ≡ Some (concat (chosen flags (broadcast plan clear)))

-- OUT is the clear packets that are confirmed to leaf u if these things are kept, a part of what it is entitled to, in
-- its order. No packet is refused. The status is how the broadcast ends for the leaf; if it is `Revoked` the leaf is.
-- For each period of which a section with a set of the leaf is kept, at most as many steps are taken as the tree is
-- high
pub record IsConfirmed (plan : Plan) (u : LeafNumber) (clear : Packets) (kept : List Item) (out : FileArgument)
    (work : Work) : Type 0 where
  pub file : work.out
      ≡ Some (record { word = out.number; name = out.text; bytes = concat (confirmed plan u clear kept) })
  pub parts : List Bool
  pub part : confirmed plan u clear kept ≡ chosen parts (opened_by plan u clear)
  pub printed : work.pieces ≡ []
  pub ends : work.ends ≡ ending_status u (ending_told plan u clear kept)
  pub unrefused : work.breaks ≡ false
  pub revoked : (q : PeriodNumber) → work.ends ≡ Revoked u q → is_revoked_in plan u q ≡ true
  pub most : ℕ
  pub counted : work.steps ≡ UpTo most
  pub few : most ≤ plan.site.height * heard_periods plan u clear kept

-- The result of `receive CARD STREAM OUT`, if CARD is the card of leaf u and STREAM is what is kept of the broadcast.
pub record LossResult (names : Names) (plan : Plan) (u : LeafNumber) (clear : Packets) (kept : List Item)
    (a b : IoState) (answer : Status) : Type 0 where
  -- OUT is the clear packets that the kept messages confirm to the leaf
  pub written : file_in b names.out ≡ Some (concat (confirmed plan u clear kept))
  -- they are a part of what the leaf is entitled to, in its order
  pub parts : List Bool
  pub part : confirmed plan u clear kept ≡ chosen parts (opened_by plan u clear)
  -- the answer is how what arrived ends for the leaf; if it is `Revoked` the leaf is
  pub ends : answer ≡ ending_status u (ending_told plan u clear kept)
  pub revoked : (q : PeriodNumber) → answer ≡ Revoked u q → is_revoked_in plan u q ≡ true
  -- at most as many steps of the generator as the tree is high, for each period of which a section with a set of the
  -- leaf arrived
  pub steps : b.steps ≤ a.steps + plan.site.height * heard_periods plan u clear kept
  pub others : (name : FileName) → name ≢ names.out → file_in b name ≡ file_in a name
  -- the line of the answer is printed, and nothing else
  pub told : Appends a.page.printed b.page.printed (ending_line u (ending_told plan u clear kept))
