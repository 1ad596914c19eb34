-- The judgement of a packet.
use Rattle.std.proofs.Common.{◌≡◌, ℕ, ◌-◌, ◌^◌, ◌<◌, ◌≤◌, ◌&&◌, ◌==◌, Bool, true, false, List, [], ◌∷◌, length, get_or}
use Rattle.std.proofs.Common.{nat_le, ne_eqb, refl, sym, ap, ◌∙◌, arith}
use Rattle.std.specs.Prelude.{Option, Some, None, Ok, Err}
use Rattle.std.proofs.lemmas.Bool.Decides.{nat_tests}
use Rattle.sd_packet.specs.Header.{pid_of, scrambling_of}
use Rattle.sd_packet.specs.Positions.{is_placed}
use Rattle.sd_site_cards.specs.SiteFields.{SiteFields}
use Rattle.sd_psi.specs.declared.pat.Pat.{Pat}
use Rattle.sd_psi.specs.declared.fault.FormFault.{FormFault}
use Rattle.sd_psi.specs.declared.fault.FormFault.TheVariants as Form
use Rattle.sd_message.specs.declared.clear_fault.ClearFault.{ClearFault}
use Rattle.sd_message.specs.declared.clear_fault.ClearFault.TheVariants.{PatForm, PmtForm, TooManyPids, TooLong}
use Rattle.sd_spec.specs.Kinds.{kind_of}
use Rattle.sd_spec.specs.Plan.{word_of}
use Rattle.sd_spec.specs.Carried.{pmt_carried}
use Rattle.sd_spec.specs.declared.kind.Kind.TheVariants as Kind
use Rattle.sd_spec.specs.Refused.{end_refusal, fault_where, is_reserved_pid, pat_wrong, is_full_own, is_used_up}
use Rattle.sd_head.specs.After.{IsClearAfter}
use Rattle.sd_head.specs.Follows.{fault_by, limit_fault, wrong_by, HasPidRoom, IsJudgement, IsMove, IsPatOf}
use Rattle.sd_head.specs.declared.clear.Clear.{Clear}
use Rattle.sd_head.specs.declared.judged.Judged.TheVariants.{Passed, Pmt, Scrambled}
use Rattle.sd_head.specs.declared.judged.Move.{Move}
use Rattle.sd_head.specs.declared.judged.PatRule.{PatRule}
use Rattle.sd_head.specs.declared.judged.PatRule.TheVariants.{Asked, Skipped}
use Rattle.sd_head.proofs.ClearKinds.{none_too_many, passed_is, placed_pid, pmt_is, scrambled_is, too_many_is}
use Rattle.sd_head.proofs.Marking.{placed_no_pat}
use Rattle.sd_head.proofs.Refusing.{pat_refused, full_refused, limits_decide}
use Rattle.sd_packet.proofs.Positions.{positional_small}

-- where nothing is wrong with a packet as a PAT nothing is, by either rule
pub wrong_none : (rule : PatRule) (packet : List ℕ) → pat_wrong packet ≡ None → wrong_by rule packet ≡ None
wrong_none Asked packet right = right
wrong_none Skipped packet right = refl

-- a packet that is refused
pub refused : (rule : PatRule) (site : SiteFields) (clear : Clear) (packet : List ℕ) (fault : ClearFault)
    → ((before : List (List ℕ)) → IsClearAfter before clear → fault_by rule site before packet ≡ Some fault)
    → IsJudgement rule site clear packet (Err fault)
refused rule site clear packet fault why = record { value = why; follows = tt; word = tt }

-- no test refuses
none_where : (a b : Bool) (f g : ClearFault) → fault_where a f (fault_where b g None) ≡ None
    → (a ≡ false) × (b ≡ false)
none_where true b f g h = absurd cc
none_where false true f g h = absurd cc
none_where false false f g h = (refl, refl)

-- a stream isn't too long where a number and a control word are left
pub numbers_left : (site : SiteFields) (k : ℕ) → k < 2 ^ 32 → is_used_up site k ≡ false
    → (k < 2 ^ 32 - 1) × (word_of site k ≤ site.last_word)
numbers_left site k small left = grind (arith, nat_tests, small, left)

-- a PID has room for its first move
has_room : (pids : List ℕ) (next : Move) → (next.is_first && nat_le 256 (length pids)) ≡ false
    → HasPidRoom pids (Some next)
has_room pids next few = λ first. grind (arith, nat_tests, rw first at few)

-- what refuses a packet with a position, if its form doesn't
pub limit_decides : (rule : PatRule) (site : SiteFields) (clear : Clear) (before : List (List ℕ)) (packet : List ℕ)
    (next : Move)
    → IsMove clear.positions.items packet next → scrambling_of packet ≡ 0
    → is_reserved_pid site (pid_of packet) ≡ false → is_full_own site (kind_of before packet) packet ≡ false
    → IsClearAfter before clear → fault_by rule site before packet ≡ limit_fault site clear next
limit_decides rule site clear before packet next moves unscrambled free full after =
    limits_decide rule site before packet unscrambled free (wrong_none rule packet
    (placed_no_pat packet moves.placed).0) full
    ∙ (ap (λ (many : Bool). fault_where many (TooManyPids (length before))
    (fault_where (is_used_up site (length before)) (TooLong (length before)) None))
    (sym (too_many_is before packet clear.positions.items clear.pids.items next moves after.placed after.moved))
    ∙ ap (λ (n : ℕ). fault_where (next.is_first && nat_le 256 (length clear.pids.items)) (TooManyPids n)
    (fault_where (is_used_up site n) (TooLong n) None)) (sym after.number))

-- a scrambled packet, and a PMT, by the marks
not_full : (site : SiteFields) (clear : Clear) (before : List (List ℕ)) (packet : List ℕ) → is_placed packet ≡ true
    → get_or clear.pmts.items (pid_of packet) false ≡ false → IsClearAfter before clear
    → is_full_own site (kind_of before packet) packet ≡ false
not_full site clear before packet placed mark after =
    let known = positional_small (pid_of packet) (placed_pid packet placed) in
    ap (λ kind. is_full_own site kind packet)
    (sym (scrambled_is before packet clear.pmts.items placed after.marked known mark))

full_as : (site : SiteFields) (clear : Clear) (before : List (List ℕ)) (packet : List ℕ) (full : Bool)
    → is_placed packet ≡ true → get_or clear.pmts.items (pid_of packet) false ≡ true
    → is_full_own site Kind.Pmt packet ≡ full → IsClearAfter before clear
    → is_full_own site (kind_of before packet) packet ≡ full
full_as site clear before packet full placed mark own after =
    let known = positional_small (pid_of packet) (placed_pid packet placed) in
    ap (λ kind. is_full_own site kind packet)
    (sym (pmt_is before packet clear.pmts.items placed after.marked known mark)) ∙ own

-- a packet that is scrambled, and one that is refused in its place
pub scrambled_judged : (rule : PatRule) (site : SiteFields) (clear : Clear) (packet : List ℕ) (next : Move)
    → clear.count < 2 ^ 32
    → IsMove clear.positions.items packet next → get_or clear.pmts.items (pid_of packet) false ≡ false
    → scrambling_of packet ≡ 0 → is_reserved_pid site (pid_of packet) ≡ false → limit_fault site clear next ≡ None
    → IsJudgement rule site clear packet (Ok (Scrambled next))
scrambled_judged rule site clear packet next small moves mark unscrambled free none =
    let few = none_where (next.is_first && nat_le 256 (length clear.pids.items)) (is_used_up site clear.count)
    (TooManyPids clear.count) (TooLong clear.count) none in
    let left = numbers_left site clear.count small few.1 in record {
      value = λ before after. limit_decides rule site clear before packet next moves unscrambled free
          (not_full site clear before packet moves.placed mark after) after ∙ none;
      follows = record {
        unscrambled = unscrambled;
        number = left.0;
        learned = record { moves = moves; room = has_room clear.pids.items next few.0; kind = mark };
      };
      word = left.1;
    }

pub scrambled_refused_by : (rule : PatRule) (site : SiteFields) (clear : Clear) (packet : List ℕ) (next : Move)
    (fault : ClearFault)
    → IsMove clear.positions.items packet next → get_or clear.pmts.items (pid_of packet) false ≡ false
    → scrambling_of packet ≡ 0 → is_reserved_pid site (pid_of packet) ≡ false
    → limit_fault site clear next ≡ Some fault → IsJudgement rule site clear packet (Err fault)
scrambled_refused_by rule site clear packet next fault moves mark unscrambled free some =
    refused rule site clear packet fault
    (λ before after. limit_decides rule site clear before packet next moves unscrambled free
    (not_full site clear before packet moves.placed mark after) after ∙ some)

-- a PMT, and one that is refused in its place
pub pmt_judged : (rule : PatRule) (site : SiteFields) (clear : Clear) (packet carried : List ℕ) (next : Move)
    → clear.count < 2 ^ 32
    → IsMove clear.positions.items packet next → get_or clear.pmts.items (pid_of packet) false ≡ true
    → scrambling_of packet ≡ 0 → is_reserved_pid site (pid_of packet) ≡ false
    → is_full_own site Kind.Pmt packet ≡ false → carried ≡ pmt_carried site packet
    → limit_fault site clear next ≡ None → IsJudgement rule site clear packet (Ok (Pmt next carried))
pmt_judged rule site clear packet carried next small moves mark unscrambled free own is none =
    let few = none_where (next.is_first && nat_le 256 (length clear.pids.items)) (is_used_up site clear.count)
    (TooManyPids clear.count) (TooLong clear.count) none in
    let left = numbers_left site clear.count small few.1 in record {
      value = λ before after. limit_decides rule site clear before packet next moves unscrambled free
          (full_as site clear before packet false moves.placed mark own after) after ∙ none;
      follows = record {
        unscrambled = unscrambled;
        number = left.0;
        learned = record { moves = moves; room = has_room clear.pids.items next few.0; kind = (mark, is) };
      };
      word = left.1;
    }

pub pmt_refused_by : (rule : PatRule) (site : SiteFields) (clear : Clear) (packet : List ℕ) (next : Move)
    (fault : ClearFault)
    → IsMove clear.positions.items packet next → get_or clear.pmts.items (pid_of packet) false ≡ true
    → scrambling_of packet ≡ 0 → is_reserved_pid site (pid_of packet) ≡ false
    → is_full_own site Kind.Pmt packet ≡ false
    → limit_fault site clear next ≡ Some fault → IsJudgement rule site clear packet (Err fault)
pmt_refused_by rule site clear packet next fault moves mark unscrambled free own some =
    refused rule site clear packet fault
    (λ before after. limit_decides rule site clear before packet next moves unscrambled free
    (full_as site clear before packet false moves.placed mark own after) after ∙ some)

pub full_pmt_refused : (rule : PatRule) (site : SiteFields) (clear : Clear) (packet : List ℕ) (next : Move) (n : ℕ)
    → n ≡ clear.count
    → IsMove clear.positions.items packet next → get_or clear.pmts.items (pid_of packet) false ≡ true
    → scrambling_of packet ≡ 0 → is_reserved_pid site (pid_of packet) ≡ false
    → is_full_own site Kind.Pmt packet ≡ true → IsJudgement rule site clear packet (Err (PmtForm n Form.NoRoom))
full_pmt_refused rule site clear packet next n is moves mark unscrambled free own =
    refused rule site clear packet (PmtForm n Form.NoRoom) (λ before after.
    full_refused rule site before packet n (is ∙ after.number) unscrambled free (wrong_none rule packet
    (placed_no_pat packet moves.placed).0)
    (full_as site clear before packet true moves.placed mark own after))

-- a packet without a position: refused by its form or as too long, or passed
pub bad_pat_refused : (rule : PatRule) (site : SiteFields) (clear : Clear) (packet : List ℕ) (n : ℕ) (fault : FormFault)
    → n ≡ clear.count → scrambling_of packet ≡ 0 → is_reserved_pid site (pid_of packet) ≡ false
    → wrong_by rule packet ≡ Some fault → IsJudgement rule site clear packet (Err (PatForm n fault))
bad_pat_refused rule site clear packet n fault is unscrambled free wrong =
    refused rule site clear packet (PatForm n fault) (λ before after.
    pat_refused rule site before packet n fault (is ∙ after.number) unscrambled free wrong)

long_told : (rule : PatRule) (site : SiteFields) (clear : Clear) (before : List (List ℕ)) (packet : List ℕ)
    (long : Bool)
    → is_placed packet ≡ false → scrambling_of packet ≡ 0 → is_reserved_pid site (pid_of packet) ≡ false
    → wrong_by rule packet ≡ None → is_used_up site clear.count ≡ long → IsClearAfter before clear
    → fault_by rule site before packet ≡ fault_where long (TooLong clear.count) None
long_told rule site clear before packet long unplaced unscrambled free right is after =
    limits_decide rule site before packet unscrambled free right
    (ap (λ kind. is_full_own site kind packet) (sym (passed_is before packet unplaced)))
    ∙ rw (none_too_many before packet unplaced)
    (ap (λ (n : ℕ). fault_where (is_used_up site n) (TooLong n) None) (sym after.number)
    ∙ ap (λ (b : Bool). fault_where b (TooLong clear.count) None) is)

pub long_refused : (rule : PatRule) (site : SiteFields) (clear : Clear) (packet : List ℕ) (n : ℕ) → n ≡ clear.count
    → is_placed packet ≡ false → scrambling_of packet ≡ 0 → is_reserved_pid site (pid_of packet) ≡ false
    → wrong_by rule packet ≡ None → is_used_up site clear.count ≡ true
    → IsJudgement rule site clear packet (Err (TooLong n))
long_refused rule site clear packet n is unplaced unscrambled free right long =
    refused rule site clear packet (TooLong n) (λ before after.
    long_told rule site clear before packet true unplaced unscrambled free right long after
    ∙ ap (λ (k : ℕ). Some (TooLong k)) (sym is))

pub passed_judged : (rule : PatRule) (site : SiteFields) (clear : Clear) (packet : List ℕ) (pat : Option Pat)
    → clear.count < 2 ^ 32
    → is_placed packet ≡ false → scrambling_of packet ≡ 0 → is_reserved_pid site (pid_of packet) ≡ false
    → wrong_by rule packet ≡ None → IsPatOf packet pat → is_used_up site clear.count ≡ false
    → IsJudgement rule site clear packet (Ok (Passed pat))
passed_judged rule site clear packet pat small unplaced unscrambled free right is long =
    let left = numbers_left site clear.count small long in record {
      value = λ before after. long_told rule site clear before packet false unplaced unscrambled free right long after;
      follows = record {
        unscrambled = unscrambled;
        number = left.0;
        learned = record { moves = unplaced; room = tt; kind = is };
      };
      word = left.1;
    }

-- the end is judged by how many packets were taken
pub end_counted : (site : SiteFields) (clear : Clear) (before : List (List ℕ)) → IsClearAfter before clear
    → end_refusal site before ≡ fault_where ((clear.count == 0) && is_used_up site clear.count) (TooLong 0) None
end_counted site clear [] after = rw after.number refl
end_counted site clear (packet ∷ packets) after =
    let more : (clear.count == 0) ≡ false = ne_eqb clear.count 0 (λ e. absurd (omega (arith, e, after.number))) in
    rw more refl
