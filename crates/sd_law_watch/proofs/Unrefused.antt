-- If nothing of a stream is refused, whatever is lost of it, nothing of it is refused when some of it doesn't count.
use Rattle.std.proofs.Common.{◌≡◌, refl, ℕ, ◌+◌, ◌&&◌, Bool, true, false, not, List, [], ◌∷◌, Option, Some, None}
use Rattle.std.proofs.Common.{is_none, arith}
use Rattle.std.specs.Prelude.{if◌then◌else◌}
use Rattle.sd_base.proofs.Bools.{tested}
use Rattle.sd_site_cards.specs.CardFields.{CardFields}
use Rattle.sd_message.specs.declared.stream_fault.StreamFault.{StreamFault}
use Rattle.sd_spec.specs.declared.report.Tally.{Tally}
use Rattle.sd_spec.specs.Tuned.{tuning_of}
use Rattle.sd_spec.specs.Offered.{heard, offered, tuned_offering, break_from}
use Rattle.sd_spec.specs.Taken.{takes_key_at, taken_keys}
use Rattle.sd_spec.specs.Counting.{is_marked, is_doubled, is_stray_at, counts, counting, tried_keys}
use Rattle.sd_spec.specs.Reports.{tally_from, tally_marked, one_doubled, one_odd, refused_or}
use Rattle.sd_law_losses.specs.Chosen.{chosen}
use Rattle.sd_law_watch.specs.Tried.{is_refused, refused_keys}
use Rattle.sd_law_watch.proofs.Going.{IsSound, sound_here, sound_without, fault_at}
use Rattle.sd_law_watch.proofs.Trying.{tried_are}

refused_by : (marked doubled odd : Bool) (fault : Option StreamFault) (m d o counted refused : Tally) →
    fault ≡ None → m.refused ≡ 0 → d.refused ≡ 0 → o.refused ≡ 0 → counted.refused ≡ 0 →
    (if marked then tally_marked m else if doubled then one_doubled d else if odd then one_odd o
    else refused_or fault counted refused).refused ≡ 0
refused_by true doubled odd fault m d o counted refused none a b c e = a
refused_by false true odd fault m d o counted refused none a b c e = b
refused_by false false true fault m d o counted refused none a b c e = c
refused_by false false false None m d o counted refused none a b c e = e
refused_by false false false (Some f) m d o counted refused none a b c e = absurd (cc none)

none_refused_after : (card : CardFields) (n : ℕ) (past packets : List (List ℕ)) → IsSound card past packets →
    (tally_from card n past packets).refused ≡ 0
unfolding tally_from
none_refused_after card n past [] sound = refl
none_refused_after card n past (packet ∷ packets) sound =
    let here = sound_here card past packets packet sound in
    let rest = none_refused_after card (n + 1) past packets (sound_without card past packets packet sound) in
    let more = none_refused_after card (n + 1) (packet ∷ past) packets here.1 in
    let others : Tally = tally_from card (n + 1) past packets in
    refused_by (is_marked packet) (is_doubled card past packet) (is_stray_at card past packet)
    (tuned_offering card (tuning_of card.ca past) n (heard card past) packet).fault others others others
    (tally_from card (n + 1) (packet ∷ past) packets) others (fault_at card n past packet here.0) rest rest rest more

-- the line says so
pub none_refused : (card : CardFields) (packets : List (List ℕ)) →
    ((flags : List Bool) → break_from card [] (chosen flags packets) ≡ None) →
    (tally_from card 0 [] packets).refused ≡ 0
none_refused card packets sound = none_refused_after card 0 [] packets sound

fine_refused : (marked doubled odd takes : Bool) (fault : Option StreamFault) → fault ≡ None →
    ((not marked && (not doubled && (not odd && not (is_none fault)))) && takes) ≡ false
fine_refused true doubled odd takes fault none = refl
fine_refused false true odd takes fault none = refl
fine_refused false false true takes fault none = refl
fine_refused false false false takes None none = refl
fine_refused false false false takes (Some f) none = absurd (cc none)

no_key_here : (card : CardFields) (past : List (List ℕ)) (packet : List ℕ) → (offered card past packet).fault ≡ None →
    (is_refused card past packet && takes_key_at card past packet) ≡ false
unfolding is_refused
no_key_here card past packet none =
    fine_refused (is_marked packet) (is_doubled card past packet) (is_stray_at card past packet)
    (takes_key_at card past packet) (offered card past packet).fault none

no_keys_after : (card : CardFields) (past packets : List (List ℕ)) → IsSound card past packets →
    refused_keys card past packets ≡ 0
unfolding refused_keys
no_keys_after card past [] sound = refl
no_keys_after card past (packet ∷ packets) sound =
    let here = sound_here card past packets packet sound in
    let first = no_key_here card past packet here.0 in
    let rest = no_keys_after card past packets (sound_without card past packets packet sound) in
    let more = no_keys_after card (packet ∷ past) packets here.1 in
    tested (counts card past packet)
    (λ is. rw first (rw is (omega (arith, more))))
    (λ is. rw first (rw is (omega (arith, rest))))

-- so keys are tried only of sections that count
pub tried_as_taken : (card : CardFields) (packets : List (List ℕ)) →
    ((flags : List Bool) → break_from card [] (chosen flags packets) ≡ None) →
    tried_keys card [] packets ≡ taken_keys card [] (counting card [] packets)
tried_as_taken card packets sound =
    let none = no_keys_after card [] packets sound in
    let all = tried_are card packets in
    omega (arith, none, all)
