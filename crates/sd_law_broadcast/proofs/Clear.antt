-- Clear streams packet by packet.
use Rattle.std.proofs.Common.{◌≡◌, ℕ, suc, ◌+◌, ◌^◌, ◌<◌, ◌≤◌, ◌==◌, Bool, true, false, not, nat_le, nat_lt}
use Rattle.std.proofs.Common.{List, [], ◌∷◌, ◌++◌, length, take, drop, get_or, filter, Option, Some, None}
use Rattle.std.proofs.Common.{refl, sym, ap, subst, inl, inr, arith, append_assoc, append-nil, length-append}
use Rattle.std.specs.Option.{option_map_or}
use Rattle.std.proofs.lemmas.Bool.{cases_Bool}
use Rattle.std.proofs.lemmas.Bool.Decides.{nat_tests}
use Rattle.std.proofs.lemmas.List.{take-append-drop, take_more, length-take-le}
use Rattle.sd_base.proofs.Lists.{both_none}
use Rattle.sd_packet.specs.Header.{pid_of, scrambling_of}
use Rattle.sd_packet.specs.Positions.{is_placed}
use Rattle.sd_site_cards.specs.SiteFields.{SiteFields}
use Rattle.sd_spec.specs.Plan.{word_of}
use Rattle.sd_spec.specs.Kinds.{kind_of, has_moved, positional_pids, moved_pids, put_in}
use Rattle.sd_spec.specs.Refused.{fault_where, is_reserved_pid, is_full_own}
use Rattle.sd_spec.specs.Refused.{is_one_too_many}
use Rattle.sd_spec.specs.Refused.{is_used_up}
use Rattle.sd_spec.specs.Refused.{unsent_at, unsent_from, IsSendable}
use Rattle.sd_message.specs.declared.clear_fault.ClearFault.{ClearFault}
use Rattle.sd_message.specs.declared.clear_fault.ClearFault.TheVariants.{AlreadyScrambled, PidTaken, PmtForm}
use Rattle.sd_message.specs.declared.clear_fault.ClearFault.TheVariants.{TooManyPids, TooLong}
use Rattle.sd_psi.specs.declared.fault.FormFault.TheVariants as Form
use Rattle.sd_spec.proofs.Following.{moved_first, moved_again, moved_unplaced}
use Rattle.sd_law_broadcast.specs.Accepted.{IsAccepted}

pub none_then : {A : Type 0} (x y : Option A) → x ≡ None → y ≡ None → option_map_or Some x y ≡ None
none_then None y p q = q
none_then (Some a) y p q = absurd (cc)

-- the packets of a clear stream can be sent one list after the other
pub clear_cut : (site : SiteFields) (before xs ys : List (List ℕ)) → unsent_from site before (xs ++ ys) ≡ None →
    (unsent_from site before xs ≡ None) × (unsent_from site (before ++ xs) ys ≡ None)
unfolding unsent_from
clear_cut site before [] ys h = (
  refl,
  subst (λ (b : List (List ℕ)). unsent_from site b ys ≡ None) (sym
      (append-nil before)) h,
)
clear_cut site before (x ∷ xs) ys h =
    let parts = both_none (unsent_at site before (length before) x)
    (unsent_from site (before ++ x ∷ []) (xs ++ ys)) h in
    let rest = clear_cut site (before ++ x ∷ []) xs ys parts.1 in (
      none_then (unsent_at site before (length before) x) (unsent_from site (before ++ x ∷ []) xs) parts.0 rest.0,
      subst (λ (b : List (List ℕ)). unsent_from site b ys ≡ None) (append_assoc before (x ∷ []) xs) rest.1,
    )

pub clear_joined : (site : SiteFields) (before xs ys : List (List ℕ)) → unsent_from site before xs ≡ None →
    unsent_from site (before ++ xs) ys ≡ None → unsent_from site before (xs ++ ys) ≡ None
unfolding unsent_from
clear_joined site before [] ys p q = subst (λ (b : List (List ℕ)). unsent_from site b ys ≡ None) (append-nil before) q
clear_joined site before (x ∷ xs) ys p q =
    let parts = both_none (unsent_at site before (length before) x) (unsent_from site (before ++ x ∷ []) xs) p in
    none_then (unsent_at site before (length before) x) (unsent_from site (before ++ x ∷ []) (xs ++ ys)) parts.0
    (clear_joined site (before ++ x ∷ []) xs ys parts.1
    (subst (λ (b : List (List ℕ)). unsent_from site b ys ≡ None) (sym (append_assoc before (x ∷ []) xs)) q))

-- if a clear stream can be sent, so can its first packets
pub prefix_clear : (site : SiteFields) (xs ys : List (List ℕ)) → IsSendable site (xs ++ ys) → IsSendable site xs
prefix_clear site xs ys h = (clear_cut site [] xs ys h).0

pub take_clear : (site : SiteFields) (clear : List (List ℕ)) (k : ℕ) → IsSendable site clear →
    IsSendable site (take k clear)
take_clear site clear k h =
    prefix_clear site (take k clear) (drop k clear) (subst (IsSendable site) (sym (take-append-drop k clear)) h)

-- a clear stream can go on with a packet exactly where that can be sent
pub next_clear : (site : SiteFields) (before : List (List ℕ)) (packet : List ℕ) →
    IsSendable site (before ++ packet ∷ []) → unsent_at site before (length before) packet ≡ None
unfolding unsent_from
next_clear site before packet h =
    (both_none (unsent_at site before (length before) packet) None ((clear_cut site [] before (packet ∷ []) h).1)).0

pub more_clear : (site : SiteFields) (before : List (List ℕ)) (packet : List ℕ) → IsSendable site before →
    unsent_at site before (length before) packet ≡ None → IsSendable site (before ++ packet ∷ [])
unfolding unsent_from
more_clear site before packet h next =
    clear_joined site [] before (packet ∷ []) h
    (none_then (unsent_at site before (length before) packet) None next refl)

-- each packet of it can be sent
pub each_clear : (site : SiteFields) (clear : List (List ℕ)) (k : ℕ) → IsSendable site clear → k < length clear →
    unsent_at site (take k clear) (length (take k clear)) (get_or clear k []) ≡ None
each_clear site clear k h within =
    next_clear site (take k clear) (get_or clear k [])
    (subst (IsSendable site) (take_more clear k [] within) (take_clear site clear (k + 1) h))

pub each_numbered : (site : SiteFields) (clear : List (List ℕ)) (k : ℕ) → IsSendable site clear → k < length clear →
    unsent_at site (take k clear) k (get_or clear k []) ≡ None
each_numbered site clear k h within =
    subst (λ (n : ℕ). unsent_at site (take k clear) n (get_or clear k []) ≡ None)
    (length-take-le k clear (omega (arith, within))) (each_clear site clear k h within)

-- a fault that isn't told
untold : (b : Bool) (fault : ClearFault) (next : Option ClearFault) → fault_where b fault next ≡ None → (b ≡ false) ×
    (next ≡ None)
untold true fault next h = absurd (cc)
untold false fault next h = (refl, h)

-- a packet that can be sent breaks no rule but that on PATs
pub accepted : (site : SiteFields) (before : List (List ℕ)) (packet : List ℕ) →
    unsent_at site before (length before) packet ≡ None → IsAccepted site before packet
unfolding unsent_at
accepted site before packet h =
    let n : ℕ = length before in
    let last = fault_where (is_used_up site n) (TooLong n) None in
    let many = fault_where (is_one_too_many before packet) (TooManyPids n) last in
    let full = fault_where (is_full_own site (kind_of before packet) packet) (PmtForm n Form.NoRoom) many in
    let taken = fault_where (is_reserved_pid site (pid_of packet)) (PidTaken n (pid_of packet)) full in
    let one = untold (not (scrambling_of packet == 0)) (AlreadyScrambled n) taken h in
    let two = untold (is_reserved_pid site (pid_of packet)) (PidTaken n (pid_of packet)) full one.1 in
    let three = untold (is_full_own site (kind_of before packet) packet) (PmtForm n Form.NoRoom) many two.1 in
    let four = untold (is_one_too_many before packet) (TooManyPids n) last three.1 in
    let five = untold (is_used_up site n) (TooLong n) None four.1 in
    record {
      clear = grind (arith, nat_tests, one.0);
      untaken = two.0;
      own = three.0;
      room = four.0;
      short = grind (arith, nat_tests, five.0);
      word = grind (arith, nat_tests, five.0);
    }

-- one number more is put among others
pub put_in_length : (n : ℕ) (ms : List ℕ) → length (put_in n ms) ≡ suc (length ms)
put_in_length n [] = refl
put_in_length n (m ∷ ms) = elim (cases_Bool (nat_lt n m)) [
  | inl less ↦ rw less refl
  | inr more ↦ rw more (ap suc (put_in_length n ms))
]

-- at first no PID has moved
none_moved : moved_pids [] ≡ []
unfolding moved_pids
none_moved = none_pass positional_pids
  where
    none_pass : (ms : List ℕ) → filter (has_moved []) ms ≡ []
    none_pass [] = refl
    none_pass (m ∷ ms) = none_pass ms

-- with a packet that can be sent no more than 256 PIDs have moved
room_kept : (site : SiteFields) (before : List (List ℕ)) (packet : List ℕ) → IsAccepted site before packet →
    length (moved_pids before) ≤ 256 → length (moved_pids (before ++ packet ∷ [])) ≤ 256
room_kept site before packet is few = elim (cases_Bool (is_placed packet)) [
  | inr none ↦ rw (moved_unplaced before packet none) few
  | inl placed ↦ elim (cases_Bool (has_moved before (pid_of packet))) [
    | inl again ↦ rw (moved_again before packet again) few
    | inr first ↦
        let room : nat_le 256 (length (moved_pids before)) ≡ false = rw (placed, first) at is.room in
        let less : length (moved_pids before) < 256 = grind (arith, nat_tests, room) in
        rw (moved_first before packet placed first, put_in_length (pid_of packet) (moved_pids before)) (omega
        (arith, less))
  ]
]

-- how much clear packets come to after others
record Holds (before : List (List ℕ)) : Type 0 where
  pids : length (moved_pids before) ≤ 256
  short : length before < 2 ^ 32

holds_on : (site : SiteFields) (before packets : List (List ℕ)) → unsent_from site before packets ≡ None →
    Holds before → Holds (before ++ packets)
unfolding unsent_from
holds_on site before [] h held = subst Holds (sym (append-nil before)) held
holds_on site before (packet ∷ packets) h held =
    let parts = both_none (unsent_at site before (length before) packet)
    (unsent_from site (before ++ packet ∷ []) packets) h in
    let is = accepted site before packet parts.0 in
    let other = is.short in
    let below = held.short in
    let next : Holds (before ++ packet ∷ []) = record {
      pids = room_kept site before packet is held.pids;
      short = omega (arith, length-append before (packet ∷ []), below, other);
    } in
    subst Holds (append_assoc before (packet ∷ []) packets) (holds_on site (before ++ packet ∷ []) packets parts.1 next)

all_hold : (site : SiteFields) (clear : List (List ℕ)) → IsSendable site clear → Holds clear
all_hold site clear h =
    holds_on site [] clear h (record { pids = rw none_moved (omega arith); short = omega arith })

-- a clear stream has fewer than 2^32 packets
pub clear_short : (site : SiteFields) (clear : List (List ℕ)) → IsSendable site clear → length clear < 2 ^ 32
clear_short site clear h = (all_hold site clear h).short

-- no packet of it has a control word above the site's last
pub clear_words : (site : SiteFields) (clear : List (List ℕ)) (k : ℕ) → IsSendable site clear → k < length clear →
    word_of site k ≤ site.last_word
clear_words site clear k h within =
    let long : length (take k clear) ≡ k = length-take-le k clear (omega (arith, within)) in
    let is = accepted site (take k clear) (get_or clear k []) (each_clear site clear k h within) in
    subst (λ (n : ℕ). word_of site n ≤ site.last_word) long is.word

-- and it moves no more than 256 PIDs
pub clear_pids : (site : SiteFields) (clear : List (List ℕ)) → IsSendable site clear → length (moved_pids clear) ≤ 256
clear_pids site clear h = (all_hold site clear h).pids
