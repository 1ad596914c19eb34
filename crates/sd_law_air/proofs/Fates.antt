-- What becomes of a packet doesn't depend on its number.
use Rattle.std.proofs.Common.{◌≡◌, ℕ, ◌==◌, true, false, not, length, Some, None, refl, inl, inr}
use Rattle.std.proofs.lemmas.Bool.{cases_Bool}
use Rattle.sd_base.specs.Types.{Packet, Packets}
use Rattle.sd_packet.specs.Header.{pid_of, scrambling_of}
use Rattle.sd_site_cards.specs.SiteFields.{SiteFields}
use Rattle.sd_message.specs.declared.clear_fault.ClearFault.{ClearFault}
use Rattle.sd_message.specs.declared.clear_fault.ClearFault.TheVariants.{AlreadyScrambled, PidTaken, PmtForm}
use Rattle.sd_message.specs.declared.clear_fault.ClearFault.TheVariants.{TooManyPids, TooLong}
use Rattle.sd_psi.specs.declared.fault.FormFault.TheVariants as Form
use Rattle.sd_spec.specs.Kinds.{kind_of}
use Rattle.sd_spec.specs.Counting.{is_marked}
use Rattle.sd_spec.specs.Refused.{is_reserved_pid, is_full_own, is_one_too_many, is_used_up, unsent_at}
use Rattle.sd_spec.specs.Aired.{Marked, Refused, Sent, Ends, verdict_of}

-- what becomes of a packet after others that were sent, whatever its number: each case with what decides it
pub data Fate (site : SiteFields) (before : Packets) (packet : Packet) : Type 0 where
  marked : is_marked packet ≡ true → ((n : ℕ) → verdict_of site before n packet ≡ Marked) → Fate site before packet
  refused : is_marked packet ≡ false → (fault : ℕ → ClearFault) →
      ((n : ℕ) → unsent_at site before n packet ≡ Some (fault n)) →
      ((n : ℕ) → verdict_of site before n packet ≡ Refused (fault n)) → Fate site before packet
  sent : is_marked packet ≡ false → is_used_up site (length before) ≡ false →
      ((n : ℕ) → unsent_at site before n packet ≡ None) → ((n : ℕ) → verdict_of site before n packet ≡ Sent) →
      Fate site before packet
  ends : is_marked packet ≡ false → is_used_up site (length before) ≡ true →
      ((n : ℕ) → unsent_at site before n packet ≡ Some (TooLong n)) →
      ((n : ℕ) → verdict_of site before n packet ≡ Ends) → Fate site before packet

pub fate_of : (site : SiteFields) (before : Packets) (packet : Packet) → Fate site before packet
unfolding verdict_of unsent_at
fate_of site before packet = elim (cases_Bool (is_marked packet)) [
  | inl bad ↦ marked bad (λ n. rw bad refl)
  | inr good ↦ elim (cases_Bool (not (scrambling_of packet == 0))) [
    | inl broken ↦ refused good (λ n. AlreadyScrambled n) (λ n. rw broken refl) (λ n. rw (good, broken) refl)
    | inr clear ↦ elim (cases_Bool (is_reserved_pid site (pid_of packet))) [
      | inl broken ↦ refused good (λ n. PidTaken n (pid_of packet)) (λ n. rw (clear, broken) refl)
          (λ n. rw (good, clear, broken) refl)
      | inr free ↦ elim (cases_Bool (is_full_own site (kind_of before packet) packet)) [
        | inl broken ↦ refused good (λ n. PmtForm n Form.NoRoom) (λ n. rw (clear, free, broken) refl)
            (λ n. rw (good, clear, free, broken) refl)
        | inr own ↦ elim (cases_Bool (is_one_too_many before packet)) [
          | inl broken ↦ refused good (λ n. TooManyPids n) (λ n. rw (clear, free, own, broken) refl)
              (λ n. rw (good, clear, free, own, broken) refl)
          | inr few ↦ elim (cases_Bool (is_used_up site (length before))) [
            | inl long ↦ ends good long (λ n. rw (clear, free, own, few, long) refl)
                (λ n. rw (good, clear, free, own, few, long) refl)
            | inr short ↦ sent good short (λ n. rw (clear, free, own, few, short) refl)
                (λ n. rw (good, clear, free, own, few, short) refl)
          ]
        ]
      ]
    ]
  ]
]
