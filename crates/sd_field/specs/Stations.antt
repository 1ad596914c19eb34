-- Public meaning: what the head end of a field keeps and sent.
use Rattle.std.specs.Prelude.{◌≡◌, ℕ, List, [], length}
use Rattle.std.specs.List.{concat}
use Rattle.sd_spec.specs.Plan.{Plan}
use Rattle.sd_spec.specs.Sent.{body}
use Rattle.sd_engine.specs.Stage.{Chain}
use Rattle.sd_head.specs.Staged.{head_does, IsHeadEndAfter, IsHeadReady}
use Rattle.sd_head.specs.declared.head.Head.{Head}
use Rattle.sd_field.specs.Heard.{HasStoreRoom}
use Rattle.sd_field.specs.declared.station.Station.{Station}

-- the head end is a new one of this plan that was offered these clear packets, and wrote what is sent for them
pub record IsHeadAfter (plan : Plan) (packets : List (List ℕ)) (head : Head) : Type 0 where
  pub start : Head
  pub steps : ℕ
  pub new : IsHeadEndAfter plan [] start × IsHeadReady start
  pub chain : Chain head_does start packets head (concat (body plan packets)) steps

-- a head end that was offered these clear packets, with room for `total` bytes in all
pub record IsStation (plan : Plan) (packets : List (List ℕ)) (total : ℕ) (station : Station) : Type 0 where
  pub count : station.count ≡ length packets
  pub head : IsHeadAfter plan packets station.head
  pub held : station.sent.held ≡ concat (body plan packets)
  pub room : HasStoreRoom total station.sent
