-- What is written of a live stream where the outside stopped a head end.
use Rattle.std.proofs.Common.{◌≡◌, ◌∙◌, ℕ, List, [], Result, Err, refl, sym, ap, subst}
use Rattle.std.proofs.Common.{inl, inr}
use Rattle.std.specs.Prelude.{IsErrOf}
use Rattle.std.proofs.KnownBytes.{Appends-nil}
use Rattle.sd_base.specs.Count.{HasRisen, IsCaused}
use Rattle.sd_base.specs.Types.{Packet, Packets}
use Rattle.sd_ports.specs.Bytes.{IsPrefix, AppendsPrefix}
use Rattle.sd_engine.specs.Stage.{IsCutShort, SinkState}
use Rattle.sd_engine.specs.declared.seeking.SeekFault.{SeekFault}
use Rattle.sd_engine.specs.declared.seeking.SeekFault.TheVariants as seek
use Rattle.sd_spec.specs.Aired.{Verdict, by_verdict, aired}
use Rattle.sd_spec.specs.Plan.{Plan}
use Rattle.sd_spec.specs.Sent.{bytes_added}
use Rattle.sd_head.specs.Live.{live_breaks, live_stops, IsLiveAfter}
use Rattle.sd_head.specs.declared.fault.LiveFault.{LiveFault}
use Rattle.sd_head.specs.declared.fault.LiveFault.TheVariants as live
use Rattle.sd_head.specs.declared.live.Live.{Live}
use Rattle.sd_command_base.specs.declared.status.Status.{Status}
use Rattle.sd_command_base.specs.declared.status.Status.TheVariants.{DepotFault}
use Rattle.sd_command_base.specs.Turned.{HasPortCause}
use Rattle.sd_run_broadcasts.specs.OnAir.{bytes_for, closing_bytes, fault_status, IsStop}

-- nothing was written
nothing_written : (old new : SinkState) (bytes : List ℕ) → new ≡ old → AppendsPrefix old.held new.held bytes
nothing_written old new bytes same =
    subst (λ (s : SinkState). AppendsPrefix old.held s.held bytes) (sym same) ([], (bytes, refl), Appends-nil old.held)

-- a prefix of these bytes was written
cut_off : (old new : SinkState) (bytes : List ℕ) {Says : List ℕ → Type 0} → (h : IsCutShort old new Says) →
    h.bytes ≡ bytes → AppendsPrefix old.held new.held bytes
cut_off old new bytes h is = (h.prefix, subst (IsPrefix h.prefix) is h.short, h.taken)

-- the closing message
pub closing_stopped : {T : Type 0} (fault : LiveFault) (status : Status) (old new : SinkState) (from to : ℕ)
    (s : Live) → status ≡ fault_status fault → (IsErrOf {T = T} (Err fault) live.NoMemory → new ≡ old) →
    (IsErrOf {T = T} (Err fault) live.Write → IsCutShort old new (live_breaks s from to)) →
    (plan : Plan) (past : Packets) → IsLiveAfter plan past s →
    IsStop status × AppendsPrefix old.held new.held (closing_bytes plan past)
closing_stopped live.Write status old new from to s is memory prefix plan past keeps =
    let cut = prefix refl in (inr is, cut_off old new (closing_bytes plan past) cut (cut.says.2 plan past keeps))
closing_stopped live.NoMemory status old new from to s is memory prefix plan past keeps =
    (inl is, nothing_written old new (closing_bytes plan past) (memory refl))

-- a packet
pub packet_stopped : {T : Type 0} (fault : LiveFault) (status : Status) (old new : SinkState) (from to : ℕ) (s : Live)
    (packet : Packet) → status ≡ fault_status fault → (IsErrOf {T = T} (Err fault) live.NoMemory → new ≡ old) →
    (IsErrOf {T = T} (Err fault) live.Write → IsCutShort old new (live_stops s packet from to)) →
    (plan : Plan) (past : Packets) → IsLiveAfter plan past s →
    IsStop status × AppendsPrefix old.held new.held (bytes_for plan past packet)
packet_stopped live.Write status old new from to s packet is memory prefix plan past keeps =
    let cut = prefix refl in
    let says = cut.says.2 plan past keeps in (
      inr is,
      cut_off old new (bytes_for plan past packet) cut
          (says.1
          ∙ sym (ap (λ (v : Verdict). by_verdict v (bytes_added plan (aired plan.site past) packet) [] []) says.0)),
    )
packet_stopped live.NoMemory status old new from to s packet is memory prefix plan past keeps =
    (inl is, nothing_written old new (bytes_for plan past packet) (memory refl))

-- a search that stops is a device fault exactly if a port failed
pub stop_cause : {T : Type 0} (from_before from_now out_before out_then out_now : ℕ) (why : SeekFault)
    (status : Status) → IsCaused from_before from_now (◌≡◌ {A = Result T SeekFault} (Err why) (Err seek.Read)) →
    IsCaused out_before out_then (◌≡◌ {A = Result T SeekFault} (Err why) (Err seek.Write)) →
    (why ≡ seek.TooLong → IsCaused out_then out_now (status ≡ DepotFault)) →
    ((why ≡ seek.TooLong → ⊥) → (status ≡ DepotFault) × (out_now ≡ out_then)) →
    HasPortCause from_before from_now out_before out_now status
stop_cause f g o m n seek.Read status read written far port = record {
  calm = λ other. absurd (other (port (λ e. absurd (cc))).0);
  failed = λ is. inl (read.failed refl);
}
stop_cause f g o m n seek.Write status read written far port = record {
  calm = λ other. absurd (other (port (λ e. absurd (cc))).0);
  failed = λ is. inr (subst (HasRisen o) (sym (port (λ e. absurd (cc))).1) (written.failed refl));
}
stop_cause f g o m n seek.TooLong status read written far port =
    let still : m ≡ o = written.calm (λ e. absurd (cc)) in record {
      calm = λ other. (read.calm (λ e. absurd (cc)), (far refl).calm other ∙ still);
      failed = λ is. inr (subst (λ (count : ℕ). HasRisen count n) still ((far refl).failed is));
    }
