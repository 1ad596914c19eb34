-- Refusals by the tests in their order.
use Rattle.std.proofs.Common.{◌≡◌, ℕ, ◌+◌, ◌-◌, ◌*◌, ◌<◌, ◌==◌, Bool, true, false, List, length}
use Rattle.std.proofs.Common.{refl, sym, ap, ◌∙◌, eq-eqb}
use Rattle.std.proofs.Common.{inl, inr, arith}
use Rattle.std.proofs.lemmas.Bool.{cases_lt}
use Rattle.std.proofs.lemmas.Bool.Decides.{nat_tests}
use Rattle.std.proofs.lemmas.Nat.{div_below, le-div}
use Rattle.std.specs.Prelude.{Option, Some, None, nat_le, nat_lt, not}
use Rattle.sd_packet.specs.Header.{pid_of, scrambling_of}
use Rattle.sd_site_cards.specs.SiteFields.{SiteFields}
use Rattle.sd_psi.specs.declared.fault.FormFault.{FormFault}
use Rattle.sd_psi.specs.declared.fault.FormFault.TheVariants as Form
use Rattle.sd_spec.specs.Kinds.{kind_of}
use Rattle.sd_spec.specs.Plan.{crypto_length, crypto_of, word_of}
use Rattle.sd_spec.specs.Refused.{fault_where, form_where, is_reserved_pid, is_full_own, unsent_at}
use Rattle.sd_spec.specs.Refused.{is_one_too_many, is_used_up}
use Rattle.sd_message.specs.declared.clear_fault.ClearFault.{ClearFault}
use Rattle.sd_message.specs.declared.clear_fault.ClearFault.TheVariants.{AlreadyScrambled, PidTaken, PatForm, PmtForm}
use Rattle.sd_message.specs.declared.clear_fault.ClearFault.TheVariants.{TooManyPids, TooLong}
use Rattle.sd_head.specs.Follows.{fault_by, wrong_by}
use Rattle.sd_head.specs.declared.judged.PatRule.{PatRule}

pub scrambled_refused : (rule : PatRule) (site : SiteFields) (before : List (List ℕ)) (packet : List ℕ) (n : ℕ)
    → n ≡ length before
    → (scrambling_of packet == 0) ≡ false → fault_by rule site before packet ≡ Some (AlreadyScrambled n)
scrambled_refused rule site before packet n is scrambled =
    rw scrambled (ap (λ (k : ℕ). Some (AlreadyScrambled k)) (sym is))

pub taken_refused : (rule : PatRule) (site : SiteFields) (before : List (List ℕ)) (packet : List ℕ) (n pid : ℕ)
    → n ≡ length before
    → pid ≡ pid_of packet → (scrambling_of packet == 0) ≡ true → is_reserved_pid site (pid_of packet) ≡ true
    → fault_by rule site before packet ≡ Some (PidTaken n pid)
taken_refused rule site before packet n pid is same clear taken =
    rw clear (rw taken (sym (ap (λ (k : ℕ). Some (PidTaken k pid)) is
    ∙ ap (λ (p : ℕ). Some (PidTaken (length before) p)) same)))

-- a packet that has to be a PAT and isn't a right one
pub pat_refused : (rule : PatRule) (site : SiteFields) (before : List (List ℕ)) (packet : List ℕ) (n : ℕ)
    (fault : FormFault)
    → n ≡ length before → scrambling_of packet ≡ 0 → is_reserved_pid site (pid_of packet) ≡ false
    → wrong_by rule packet ≡ Some fault → fault_by rule site before packet ≡ Some (PatForm n fault)
pat_refused rule site before packet n fault is clear free wrong =
    rw (eq-eqb (scrambling_of packet) 0 clear) (rw free (rw wrong (ap (λ (k : ℕ). Some (PatForm k fault)) (sym is))))

-- a PMT that can't be rewritten, and could be restored all the same
pub full_refused : (rule : PatRule) (site : SiteFields) (before : List (List ℕ)) (packet : List ℕ) (n : ℕ)
    → n ≡ length before
    → scrambling_of packet ≡ 0 → is_reserved_pid site (pid_of packet) ≡ false → wrong_by rule packet ≡ None
    → is_full_own site (kind_of before packet) packet ≡ true
    → fault_by rule site before packet ≡ Some (PmtForm n Form.NoRoom)
full_refused rule site before packet n is clear free right full =
    rw (eq-eqb (scrambling_of packet) 0 clear) (rw free (rw right (rw full
    (ap (λ (k : ℕ). Some (PmtForm k Form.NoRoom)) (sym is)))))

-- of a packet in a right form the numbers of PIDs and packets decide
pub limits_decide : (rule : PatRule) (site : SiteFields) (before : List (List ℕ)) (packet : List ℕ)
    → scrambling_of packet ≡ 0
    → is_reserved_pid site (pid_of packet) ≡ false → wrong_by rule packet ≡ None
    → is_full_own site (kind_of before packet) packet ≡ false
    → fault_by rule site before packet ≡ fault_where (is_one_too_many before packet) (TooManyPids (length before))
    (fault_where (is_used_up site (length before)) (TooLong (length before)) None)
limits_decide rule site before packet clear free right full =
    rw (eq-eqb (scrambling_of packet) 0 clear) (rw free (rw right (rw full refl)))

-- what no rule refuses none refuses without the rule on PATs
without_form : (a b : Bool) (wrong : Option FormFault) (f g : ClearFault) (told : FormFault → ClearFault)
    (rest : Option ClearFault) → fault_where a f (fault_where b g (form_where wrong told rest)) ≡ None
    → fault_where a f (fault_where b g rest) ≡ None
without_form true b wrong f g told rest h = absurd cc
without_form false true wrong f g told rest h = absurd cc
without_form false false None f g told rest h = h
without_form false false (Some form) f g told rest h = absurd cc

pub judged_sendable : (rule : PatRule) (site : SiteFields) (before : List (List ℕ)) (packet : List ℕ)
    → fault_by rule site before packet ≡ None → unsent_at site before (length before) packet ≡ None
unfolding unsent_at
judged_sendable rule site before packet none =
    without_form (not (scrambling_of packet == 0)) (is_reserved_pid site (pid_of packet)) (wrong_by rule packet)
    (AlreadyScrambled (length before)) (PidTaken (length before) (pid_of packet)) (PatForm (length before)) _ none

-- the site's control words are used up after so many packets
pub words_used : (site : SiteFields) (k : ℕ) → 0 < crypto_length site
    → nat_le ((site.last_word + 1 - site.first_word) * crypto_length site) k ≡ nat_lt site.last_word (word_of site k)
unfolding word_of crypto_of
words_used site k some =
    let words = site.last_word + 1 - site.first_word in
    elim (cases_lt k (words * crypto_length site)) [
      | inl below ↦
          let fewer = div_below k (crypto_length site) words some below in
          grind (arith, nat_tests, below, fewer)
      | inr above ↦
          let more = le-div words k (crypto_length site) some above in
          grind (arith, nat_tests, above, more)
    ]
