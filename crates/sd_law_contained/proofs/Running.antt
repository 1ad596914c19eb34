-- A changed clear stream can be sent as before, and what arrives of its broadcast is changed in the same bits.
use Rattle.std.proofs.Common.{◌≡◌, refl, ℕ, ◌==◌, ◌&&◌, ◌++◌, Bool, true, false, not, List, [], ◌∷◌, length, map}
use Rattle.std.proofs.Common.{Option, Some, None, ap, sym, ◌∙◌, inl}
use Rattle.std.specs.Prelude.{nat_le, All}
use Rattle.std.specs.Option.{option_map_or}
use Rattle.std.proofs.lemmas.List.Elements.{All-nil, All-cons, All-head, All-tail}
use Rattle.sd_packet.specs.Header.{pid_of, scrambling_of}
use Rattle.sd_packet.specs.Positions.{is_placed}
use Rattle.sd_site_cards.specs.SiteFields.{SiteFields}
use Rattle.sd_psi.specs.declared.fault.FormFault.TheVariants as Form
use Rattle.sd_message.specs.declared.clear_fault.ClearFault.{ClearFault}
use Rattle.sd_message.specs.declared.clear_fault.ClearFault.TheVariants.{AlreadyScrambled, PidTaken, PmtForm}
use Rattle.sd_message.specs.declared.clear_fault.ClearFault.TheVariants.{TooManyPids, TooLong}
use Rattle.sd_message.specs.EcmVersions.{most_places}
use Rattle.sd_spec.specs.declared.kind.Kind.{Kind}
use Rattle.sd_spec.specs.declared.kind.Kind.TheVariants.{Passed, Pmt, Scrambled}
use Rattle.sd_spec.specs.Kinds.{kind_of, has_moved, moved_pids}
use Rattle.sd_spec.specs.Refused.{fault_where, is_reserved_pid, is_full_own, is_one_too_many}
use Rattle.sd_spec.specs.Refused.{is_used_up, unsent_at, unsent_from}
use Rattle.sd_spec.specs.Sent.{broadcast}
use Rattle.sd_law_broadcast.specs.Packets.{IsWholePacket, AreWholePackets}
use Rattle.sd_law_losses.specs.Chosen.{chosen}
use Rattle.sd_law_losses.specs.Channel.{Channel, IsRunOf, HaveTwoNames, AreRunsOf, arriving}
use Rattle.sd_law_contained.specs.Changed.{changed_by, all_changed, IsHarmless, AreHarmless, Damaged, AreAllHarmless}
use Rattle.sd_law_contained.specs.Changed.{runs_sent, run_changed, runs_changed, mask_of, arriving_changed}
use Rattle.sd_law_contained.proofs.Masks.{changed_none, changed_length, changed_at, scrambling_by}
use Rattle.sd_law_contained.proofs.Alike.{IsAlike, AreAlike, alike_length, alike_more, same_placed}
use Rattle.sd_law_contained.proofs.Alike.{same_has_moved, same_moved_pids, same_kind}
use Rattle.sd_law_contained.proofs.Changing.{harmless_alike, things, broadcast_changed}

-- all packets are whole
whole_one : (before : List (List ℕ)) (packet mask : List ℕ) → IsWholePacket packet → IsHarmless before packet mask →
    IsWholePacket (changed_by packet mask)
whole_one before packet mask whole is = record {
  long = changed_length packet mask ∙ whole.long;
  bytes = λ i. changed_at packet mask i whole.bytes is.bytes;
}

pub whole_changed : (before packets masks : List (List ℕ)) → AreWholePackets packets →
    AreHarmless before packets masks → AreWholePackets (all_changed packets masks)
whole_changed before [] [] whole are = whole
whole_changed before [] (mask ∷ masks) whole are = absurd are
whole_changed before (packet ∷ packets) [] whole are = absurd are
whole_changed before (packet ∷ packets) (mask ∷ masks) whole are =
    All-cons IsWholePacket (changed_by packet mask) (all_changed packets masks)
    (whole_one before packet mask (All-head IsWholePacket packet packets whole) are.0)
    (whole_changed (before ++ packet ∷ []) packets masks (All-tail IsWholePacket packet packets whole) are.1)

-- a packet can be sent if it could before
abbrev unsent_by : SiteFields → Bool → ℕ → Bool → Bool → ℕ → Option ClearFault
unsent_by site marked pid full many n =
    fault_where marked (AlreadyScrambled n)
    (fault_where (is_reserved_pid site pid) (PidTaken n pid)
    (fault_where full (PmtForm n Form.NoRoom)
    (fault_where many (TooManyPids n)
    (fault_where (is_used_up site n) (TooLong n)
    None))))

unsent_same : (site : SiteFields) (marked other : Bool) (pid q : ℕ) (full own many more : Bool) (n k : ℕ) →
    other ≡ marked → q ≡ pid → own ≡ full → more ≡ many → k ≡ n →
    unsent_by site other q own more k ≡ unsent_by site marked pid full many n
unsent_same site marked other pid q full own many more n k a b c d e =
    ap (λ (x : Bool). unsent_by site x q own more k) a
    ∙ (ap (λ (x : ℕ). unsent_by site marked x own more k) b
    ∙ (ap (λ (x : Bool). unsent_by site marked pid x more k) c
    ∙ (ap (λ (x : Bool). unsent_by site marked pid full x k) d
    ∙ ap (unsent_by site marked pid full many) e)))

full_by : (site : SiteFields) (kind : Kind) (packet mask : List ℕ) → (kind ≡ Pmt → mask ≡ []) →
    is_full_own site kind (changed_by packet mask) ≡ is_full_own site kind packet
full_by site Passed packet mask table = refl
full_by site Scrambled packet mask table = refl
full_by site Pmt packet mask table =
    ap (is_full_own site Pmt) (ap (changed_by packet) (table refl) ∙ changed_none packet)

full_same : (site : SiteFields) (before after : List (List ℕ)) (packet mask : List ℕ) → AreAlike before after →
    IsHarmless before packet mask →
    is_full_own site (kind_of after (changed_by packet mask)) (changed_by packet mask)
    ≡ is_full_own site (kind_of before packet) packet
full_same site before after packet mask are is =
    ap (λ (kind : Kind). is_full_own site kind (changed_by packet mask))
    (same_kind before after packet (changed_by packet mask) are (harmless_alike before packet mask is))
    ∙ full_by site (kind_of before packet) packet mask (λ pmt. is.table (inl pmt))

many_by : (placed other moved before : Bool) (n k : ℕ) → other ≡ placed → before ≡ moved → k ≡ n →
    (other && (not before && nat_le most_places k)) ≡ (placed && (not moved && nat_le most_places n))
many_by placed other moved before n k a b c = rw (a, b, c) refl

many_same : (before after : List (List ℕ)) (packet other : List ℕ) → AreAlike before after → IsAlike packet other →
    is_one_too_many after other ≡ is_one_too_many before packet
many_same before after packet other are is =
    many_by (is_placed packet) (is_placed other) (has_moved before (pid_of packet)) (has_moved after (pid_of other))
    (length (moved_pids before)) (length (moved_pids after)) (same_placed packet other is)
    (ap (has_moved after) is.pid ∙ same_has_moved (pid_of packet) before after are)
    (ap (λ (pids : List ℕ). length pids) (same_moved_pids before after are))

still_sent : (site : SiteFields) (before after : List (List ℕ)) (packet mask : List ℕ) → AreAlike before after →
    IsHarmless before packet mask →
    unsent_at site after (length after) (changed_by packet mask) ≡ unsent_at site before (length before) packet
unfolding unsent_at
still_sent site before after packet mask are is =
    let other : List ℕ = changed_by packet mask in
    let alike = harmless_alike before packet mask is in
    unsent_same site (not (scrambling_of packet == 0)) (not (scrambling_of other == 0)) (pid_of packet) (pid_of other)
    (is_full_own site (kind_of before packet) packet) (is_full_own site (kind_of after other) other)
    (is_one_too_many before packet) (is_one_too_many after other) (length before) (length after)
    (ap (λ (control : ℕ). not (control == 0)) (scrambling_by other packet alike.fourth)) is.pid
    (full_same site before after packet mask are is) (many_same before after packet other are alike)
    (alike_length before after are)

pub clear_changed : (site : SiteFields) (packets masks before after : List (List ℕ)) → AreAlike before after →
    AreHarmless before packets masks →
    unsent_from site after (all_changed packets masks) ≡ unsent_from site before packets
unfolding unsent_from
clear_changed site [] [] before after are harmless = refl
clear_changed site [] (mask ∷ masks) before after are harmless = absurd harmless
clear_changed site (packet ∷ packets) [] before after are harmless = absurd harmless
clear_changed site (packet ∷ packets) (mask ∷ masks) before after are harmless =
    let rest = clear_changed site packets masks (before ++ packet ∷ []) (after ++ changed_by packet mask ∷ [])
    (alike_more before after (packet ∷ []) (changed_by packet mask ∷ []) are
    (harmless_alike before packet mask harmless.0, tt)) harmless.1 in
    ap (λ (fault : Option ClearFault). option_map_or Some fault
    (unsent_from site (after ++ changed_by packet mask ∷ []) (all_changed packets masks)))
    (still_sent site before after packet mask are harmless.0)
    ∙ ap (option_map_or Some (unsent_at site before (length before) packet)) rest

pub run_taken : (channel : Channel) (one : Damaged) → IsRunOf channel one.run →
    AreHarmless [] one.run.clear one.masks → IsRunOf channel (run_changed one)
run_taken channel one is harmless = record {
  height = is.height;
  master = is.master;
  ca = is.ca;
  emm = is.emm;
  ecm = is.ecm;
  plan = is.plan;
  sendable = clear_changed one.run.plan.site one.run.clear one.masks [] [] tt harmless ∙ is.sendable;
  whole = whole_changed [] one.run.clear one.masks is.whole harmless;
}

names_stay : (one : Damaged) (more : List Damaged) → All (HaveTwoNames one.run) (runs_sent more) →
    All (HaveTwoNames (run_changed one)) (runs_changed more)
names_stay one [] all = All-nil (HaveTwoNames (run_changed one))
names_stay one (next ∷ more) all =
    All-cons (HaveTwoNames (run_changed one)) (run_changed next) (runs_changed more)
    (All-head (HaveTwoNames one.run) next.run (runs_sent more) all)
    (names_stay one more (All-tail (HaveTwoNames one.run) next.run (runs_sent more) all))

pub runs_taken : (channel : Channel) (damaged : List Damaged) → AreRunsOf channel (runs_sent damaged) →
    AreAllHarmless damaged → AreRunsOf channel (runs_changed damaged)
runs_taken channel [] are harmless = tt
runs_taken channel (one ∷ more) are harmless =
    (run_taken channel one are.0 harmless.0, names_stay one more are.1, runs_taken channel more are.2 harmless.1)

-- what arrives
all_none : (packets : List (List ℕ)) → all_changed packets [] ≡ packets
all_none [] = refl
all_none (packet ∷ packets) = refl

chosen_changed : (flags : List Bool) (packets masks : List (List ℕ)) →
    chosen flags (all_changed packets masks) ≡ all_changed (chosen flags packets) (chosen flags masks)
unfolding chosen
chosen_changed [] packets masks = refl
chosen_changed (flag ∷ flags) [] masks = refl
chosen_changed (flag ∷ flags) (packet ∷ packets) [] = sym (all_none (chosen (flag ∷ flags) (packet ∷ packets)))
chosen_changed (true ∷ flags) (packet ∷ packets) (mask ∷ masks) =
    ap (λ (ps : List (List ℕ)). changed_by packet mask ∷ ps) (chosen_changed flags packets masks)
chosen_changed (false ∷ flags) (packet ∷ packets) (mask ∷ masks) = chosen_changed flags packets masks

pub arrive_changed : (channel : Channel) (damaged : List Damaged) → AreRunsOf channel (runs_sent damaged) →
    AreAllHarmless damaged → arriving (runs_changed damaged) ≡ arriving_changed damaged
arrive_changed channel [] are harmless = refl
arrive_changed channel (one ∷ more) are harmless =
    let sent : List (List ℕ) = broadcast one.run.plan one.run.clear in
    let masks : List (List ℕ) = map (mask_of one.masks) (things one.run.plan one.run.clear) in
    ap (λ (ps : List (List ℕ)). chosen one.run.flags ps ++ arriving (runs_changed more))
    (broadcast_changed one.run.plan one.run.clear one.masks are.0.whole harmless.0)
    ∙ (ap (λ (ps : List (List ℕ)). ps ++ arriving (runs_changed more)) (chosen_changed one.run.flags sent masks)
    ∙ ap (λ (ps : List (List ℕ)). all_changed (chosen one.run.flags sent) (chosen one.run.flags masks) ++ ps)
    (arrive_changed channel more are.2 harmless.1))
