-- The marks of the PAT in force.
use Rattle.std.proofs.Common.{ℕ, ◌<◌, ◌≡◌, ◌≢◌, Bool, true, false, ◌==◌, ◌&&◌, ◌||◌, List, [], ◌∷◌, ◌++◌}
use Rattle.std.proofs.Common.{get_or}
use Rattle.std.proofs.Common.{refl, sym, ap, subst, ◌∙◌}
use Rattle.std.specs.Prelude.{nat_eq, is_none, if◌then◌else◌, Option, Some, None}
use Rattle.std.specs.List.{list_any}
use Rattle.std.specs.Option.{option_map_or}
use Rattle.std.proofs.lemmas.Bool.{eq-eqb, ne_eqb}
use Rattle.sd_packet.specs.Header.{pid_of, has_payload}
use Rattle.sd_packet.specs.Positions.{is_positional, is_placed}
use Rattle.sd_site_cards.specs.SiteFields.{SiteFields}
use Rattle.sd_section.specs.Header.{current_of}
use Rattle.sd_psi.specs.declared.fault.FormFault.{FormFault}
use Rattle.sd_psi.specs.Forms.{pat_fault, section_in}
use Rattle.sd_psi.specs.Tables.{pmt_pids_of}
use Rattle.sd_spec.specs.Kinds.{is_current_pat, pat_in_force, pmts_in}
use Rattle.sd_spec.proofs.Following.{pat_next}
use Rattle.sd_spec.specs.Refused.{pat_wrong}
use Rattle.sd_head.specs.Known.{AreMarkedPids}
use Rattle.sd_head.specs.Follows.{pat_in, IsPacketLearned, IsPatOf}
use Rattle.sd_head.specs.declared.clear.Clear.{Clear}
use Rattle.sd_head.specs.declared.judged.Judged.{Judged}
use Rattle.sd_head.specs.declared.judged.Judged.TheVariants.{Passed, Pmt, Scrambled}

-- what is marked and the PIDs that are left come to all PIDs
pub record AreMarking (all left : List ℕ) (marks : List Bool) : Type 0 where
  pub at : (pid : ℕ) → pid < 8192 →
      (get_or marks pid false || list_any (nat_eq pid) left) ≡ list_any (nat_eq pid) all

-- a packet of another PID, or without a payload, is no PAT
pub no_pat : (packet : List ℕ) → ((pid_of packet == 0) && has_payload packet) ≡ false
    → (pat_wrong packet ≡ None) × (is_current_pat packet ≡ false)
unfolding is_current_pat
no_pat packet none = (rw none refl, left (pid_of packet == 0) (has_payload packet) _ none)
  where
    left : (a b c : Bool) → (a && b) ≡ false → (a && (b && c)) ≡ false
    left true true c h = absurd cc
    left true false c h = refl
    left false b c h = refl

-- a packet that is wrong as a PAT is no current PAT
pub bad_pat : (packet : List ℕ) (fault : FormFault) → pat_wrong packet ≡ Some fault → is_current_pat packet ≡ false
unfolding is_current_pat
bad_pat packet fault wrong =
    left (pid_of packet == 0) (has_payload packet) (pat_fault packet) (current_of (section_in packet) == 1) wrong
  where
    left : (a b : Bool) (found : Option FormFault) (c : Bool) → (if a && b then found else None) ≡ Some fault →
        (a && (b && (is_none found && c))) ≡ false
    left true true (Some some) c h = refl
    left true true None c h = absurd cc
    left true false found c h = refl
    left false b found c h = refl

-- nor is a packet with a position
pub placed_no_pat : (packet : List ℕ) → is_placed packet ≡ true
    → (pat_wrong packet ≡ None) × (is_current_pat packet ≡ false)
placed_no_pat packet placed =
    let other : pid_of packet ≢ 0 = λ zero'. not_placed (rw zero' at placed) in
    no_pat packet (rw (ne_eqb (pid_of packet) 0 other) refl)
  where
    not_placed : (is_positional 0 && has_payload packet) ≡ true → ⊥
    not_placed h = cc

-- what is learned of a packet tells which current PAT it is
pub pat_told : (site : SiteFields) (clear : Clear) (packet : List ℕ) (judged : Judged)
    → IsPacketLearned site clear packet judged → IsPatOf packet (pat_in judged)
pat_told site clear packet (Passed pat) learned = learned.kind
pat_told site clear packet (Pmt next carried) learned = (placed_no_pat packet learned.moves.placed).1
pat_told site clear packet (Scrambled next) learned = (placed_no_pat packet learned.moves.placed).1

pub good_pat : (packet : List ℕ) → pid_of packet ≡ 0 → has_payload packet ≡ true → pat_fault packet ≡ None
    → pat_wrong packet ≡ None
good_pat packet zero some good = rw (eq-eqb (pid_of packet) 0 zero) (rw some good)

pub later_pat : (packet : List ℕ) → pid_of packet ≡ 0 → has_payload packet ≡ true → pat_fault packet ≡ None
    → current_of (section_in packet) ≢ 1 → is_current_pat packet ≡ false
unfolding is_current_pat
later_pat packet zero some good later =
    rw (eq-eqb (pid_of packet) 0 zero) (rw some (rw good (ne_eqb (current_of (section_in packet)) 1 later)))

pub now_pat : (packet : List ℕ) → pid_of packet ≡ 0 → has_payload packet ≡ true → pat_fault packet ≡ None
    → current_of (section_in packet) ≡ 1 → is_current_pat packet ≡ true
unfolding is_current_pat
now_pat packet zero some good now =
    rw (eq-eqb (pid_of packet) 0 zero) (rw some (rw good (eq-eqb (current_of (section_in packet)) 1 now)))

abbrev pids_of : Option (List ℕ) → List ℕ
pids_of pat = option_map_or (λ packet. pmt_pids_of (section_in packet)) pat []

in_force : (before : List (List ℕ)) (packet : List ℕ) (pat : Option (List ℕ))
    → pat_in_force (before ++ packet ∷ []) ≡ pat →
    pmts_in (before ++ packet ∷ []) ≡ pids_of pat
unfolding pmts_in
in_force before packet pat is = ap pids_of is

-- after a current PAT its PIDs are those of PMTs, and after any other packet those before
pub pmts_now : (before : List (List ℕ)) (packet : List ℕ) → is_current_pat packet ≡ true →
    pmts_in (before ++ packet ∷ []) ≡ pmt_pids_of (section_in packet)
unfolding pmts_in
pmts_now before packet is =
    in_force before packet (Some packet) (pat_next before packet ∙ rw is refl)

pub pmts_stay : (before : List (List ℕ)) (packet : List ℕ) → is_current_pat packet ≡ false →
    pmts_in (before ++ packet ∷ []) ≡ pmts_in before
unfolding pmts_in
pmts_stay before packet is =
    in_force before packet (pat_in_force before) (pat_next before packet ∙ rw is refl)

pub marked_now : (before : List (List ℕ)) (packet section : List ℕ) (marks : List Bool) → is_current_pat packet ≡ true
    → section ≡ section_in packet → AreMarkedPids (pmt_pids_of section) marks
    → AreMarkedPids (pmts_in (before ++ packet ∷ [])) marks
marked_now before packet section marks is same marked =
    subst (λ (pids : List ℕ). AreMarkedPids pids marks) (ap pmt_pids_of same ∙ sym (pmts_now before packet is)) marked

pub marked_still : (before : List (List ℕ)) (packet : List ℕ) (marks : List Bool) → is_current_pat packet ≡ false
    → AreMarkedPids (pmts_in before) marks → AreMarkedPids (pmts_in (before ++ packet ∷ [])) marks
marked_still before packet marks is marked =
    subst (λ (pids : List ℕ). AreMarkedPids pids marks) (sym (pmts_stay before packet is)) marked
