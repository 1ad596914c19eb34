-- No receiver of a field refuses a packet, and its rooms are enough.
use Rattle.std.proofs.Common.{arith, ◌≡◌, ℕ, suc, ◌<◌, ◌^◌, [], refl, sym, subst, ◌∙◌, inl, inr, length}
use Rattle.std.proofs.Common.{take, take_all}
use Rattle.std.specs.Prelude.{None}
use Rattle.std.proofs.lemmas.Bool.{cases_lt}
use Rattle.std.proofs.lemmas.List.{length-take}
use Rattle.std.proofs.lemmas.List.Elements.{All-take}
use Rattle.std.proofs.lemmas.Option.{slice_get_within}
use Rattle.sd_spec.specs.Refused.{IsClear}
use Rattle.sd_law_broadcast.specs.Packets.{IsWholePacket}
use Rattle.sd_law_broadcast.specs.Synced.{IsSynced}
use Rattle.sd_spec.specs.Offered.{break_from}
use Rattle.sd_spec.specs.declared.event.Event.TheVariants.{Offer, Send}
use Rattle.sd_spec.specs.Watch.{present}
use Rattle.sd_law_field.proofs.Few.{body_is_short}
use Rattle.sd_law_field.proofs.Written.{present_unrefused, written_has_room}
use Rattle.sd_field.specs.Fields.{FieldValue, IsSentOver, IsWrittenOver, after_next, field_card, past_of}
use Rattle.sd_field.specs.Fields.{plan_of_field, sends_of}
use Rattle.sd_field.specs.Fields.{field_clear_packets, watch_of}
use Rattle.sd_field.proofs.Fields.{one_to_send, quiet_taken}
use Rattle.sd_field.proofs.Refused.{goes_on_clear}
use Rattle.sd_law_field.specs.Fielded.{IsWhole}

pub never_refuses : (v : FieldValue) (u : ℕ) → IsWhole v → u < 2 ^ v.site.height →
    break_from (field_card v u) [] (present (plan_of_field v) (field_clear_packets v) (watch_of u v)) ≡ None
never_refuses v u is leaf =
    present_unrefused (plan_of_field v) v.clear u (past_of v) is.plan is.sent
    (All-take IsWholePacket (sends_of v) v.clear is.whole) (All-take IsSynced (sends_of v) v.clear is.synced) leaf

-- an offer sends nothing, so what is then written has room
pub never_written_over : (v : FieldValue) (u : ℕ) → IsWhole v → u < 2 ^ v.site.height → ¬ IsWrittenOver u v
never_written_over v u is leaf passed =
    let n : ℕ = sends_of (after_next v) in
    let clear = subst (IsClear v.site) (sym (quiet_taken v (Offer u) passed.next refl)) is.sent in
    let room = written_has_room (plan_of_field v) v.clear u (past_of (after_next v)) is.plan clear
    (All-take IsWholePacket n v.clear is.whole) (All-take IsSynced n v.clear is.synced) leaf in
    let over = passed.over in
    omega (arith, over, room)

-- what is clear with one packet more, if one is left
clear_next : (v : FieldValue) → IsWhole v → IsSentOver v → IsClear v.site (take (suc (sends_of v)) v.clear)
clear_next v is passed = elim (cases_lt (sends_of v) (length v.clear)) [
  | inl left ↦
      subst (λ (k : ℕ). IsClear v.site (take k v.clear)) (one_to_send v passed.next left)
      (goes_on_clear v (slice_get_within v.events v.done Send passed.next) is.sent passed.allowed)
  | inr end ↦
      subst (IsClear v.site)
      (take_all (sends_of v) v.clear end ∙ sym (take_all (suc (sends_of v)) v.clear (omega (arith, end)))) is.sent
]

pub never_sent_over : (v : FieldValue) → IsWhole v → ¬ IsSentOver v
never_sent_over v is passed =
    let k : ℕ = suc (sends_of v) in
    let room = body_is_short (plan_of_field v) (take k v.clear) is.low is.plan (clear_next v is passed)
    (All-take IsWholePacket k v.clear is.whole) (All-take IsSynced k v.clear is.synced) in
    let long = length-take k v.clear in
    let over = passed.over in
    omega (arith, over, room, long)
