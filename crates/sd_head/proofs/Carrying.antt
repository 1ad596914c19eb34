-- What a packet becomes, by its kind.
use Rattle.std.proofs.Common.{◌≡◌, ℕ, true, false, List, length, get_or, refl, sym, ap, ◌∙◌}
use Rattle.std.specs.Prelude.{Option, Some, None, is_none}
use Rattle.sd_packet.specs.Header.{pid_of, counter_of}
use Rattle.sd_packet.specs.Positions.{advanced, is_placed}
use Rattle.sd_packet.proofs.Positions.{own_moves, positional_small}
use Rattle.sd_tree_keys.specs.Keys.{control_word_of}
use Rattle.sd_site_cards.specs.SiteFields.{SiteFields}
use Rattle.sd_psi.specs.declared.fault.FormFault.{FormFault}
use Rattle.sd_psi.specs.Rewriting.{rewrite_fault, restore_fault, pmt_with_descriptor}
use Rattle.sd_cipher.specs.Scrambling.{scrambled}
use Rattle.sd_cipher.specs.declared.payload.Parity.{Parity}
use Rattle.sd_spec.specs.Plan.{word_of}
use Rattle.sd_spec.specs.Refused.{is_full_own}
use Rattle.sd_spec.specs.Kinds.{kind_of}
use Rattle.sd_spec.specs.Carried.{carried, carried_as, pmt_carried, packet_under_word, place_after, parity_of}
use Rattle.sd_spec.specs.declared.kind.Kind.{Kind}
use Rattle.sd_spec.specs.declared.kind.Kind.TheVariants.{Passed, Pmt, Scrambled}
use Rattle.sd_psi.specs.declared.pat.Pat.{Pat}
use Rattle.sd_head.specs.After.{IsClearAfter, ArePositions}
use Rattle.sd_head.specs.Follows.{IsPacketLearned}
use Rattle.sd_head.specs.declared.clear.Clear.{Clear}
use Rattle.sd_head.specs.declared.judged.Judged.TheVariants as Judged
use Rattle.sd_head.specs.declared.judged.Move.{Move}
use Rattle.sd_head.proofs.ClearKinds.{placed_pid, passed_is, pmt_is, scrambled_is}

by_kind : (kind : Kind) (site : SiteFields) (before : List (List ℕ)) (packet : List ℕ)
    → kind ≡ kind_of before packet →
    carried_as kind site before packet ≡ carried site before packet
unfolding carried
by_kind kind site before packet is = ap (λ (k : Kind). carried_as k site before packet) is

pub carried_passed : (site : SiteFields) (clear : Clear) (before : List (List ℕ)) (packet : List ℕ)
    (pat : Option Pat) → IsPacketLearned site clear packet (Judged.Passed pat) → packet ≡ carried site before packet
carried_passed site clear before packet pat learned =
    by_kind Passed site before packet (passed_is before packet learned.moves)

pub carried_pmt : (site : SiteFields) (clear : Clear) (before : List (List ℕ)) (packet new : List ℕ) (next : Move)
    → IsPacketLearned site clear packet (Judged.Pmt next new) → IsClearAfter before clear →
    new ≡ carried site before packet
carried_pmt site clear before packet new next learned after =
    let placed = learned.moves.placed in
    let known = positional_small (pid_of packet) (placed_pid packet placed) in
    learned.kind.1 ∙ by_kind Pmt site before packet
    (pmt_is before packet clear.pmts.items placed after.marked known learned.kind.0)

-- a PMT that was rewritten, and one that couldn't be and couldn't be restored either
pub pmt_rewritten : (site : SiteFields) (packet new : List ℕ) → rewrite_fault packet ≡ None
    → new ≡ pmt_with_descriptor site.ca site.ecm packet
    → (is_full_own site Pmt packet ≡ false) × (new ≡ pmt_carried site packet)
unfolding pmt_carried
pmt_rewritten site packet new none value = (rw none refl, rw none value)

pub pmt_left : (site : SiteFields) (packet new : List ℕ) (fault : FormFault) → rewrite_fault packet ≡ Some fault
    → is_none (restore_fault site.ca site.ecm packet) ≡ false → new ≡ packet
    → (is_full_own site Pmt packet ≡ false) × (new ≡ pmt_carried site packet)
unfolding pmt_carried
pmt_left site packet new fault some bad unchanged = (rw some (rw bad refl), rw some unchanged)

-- the position that a placed packet leads to
place_is : (before : List (List ℕ)) (packet positions : List ℕ) → is_placed packet ≡ true
    → ArePositions before positions →
    advanced (get_or positions (pid_of packet) 0) (counter_of packet) ≡ place_after before packet
place_is before packet positions placed are =
    ap (λ (x : ℕ). advanced x (counter_of packet)) (are.at (pid_of packet) (placed_pid packet placed))
    ∙ sym (rw (own_moves packet placed) refl)

veiled_is : (site : SiteFields) (packet word : List ℕ) (t n position : ℕ) (parity : Parity) → n ≡ t
    → word ≡ control_word_of site.master n → parity ≡ parity_of n
    → scrambled packet word position parity ≡ packet_under_word site t position packet
unfolding packet_under_word
veiled_is site packet word t n position parity is own even =
    ap (λ (w : List ℕ). scrambled packet w position parity) own
    ∙ (ap (λ (p : Parity). scrambled packet (control_word_of site.master n) position p) even
    ∙ ap (λ (k : ℕ). scrambled packet (control_word_of site.master k) position (parity_of k)) is)

pub carried_scrambled : (site : SiteFields) (clear : Clear) (before : List (List ℕ)) (packet word new : List ℕ)
    (next : Move) (n : ℕ) (parity : Parity) → IsPacketLearned site clear packet (Judged.Scrambled next) →
    IsClearAfter before clear
    → n ≡ word_of site (length before) → word ≡ control_word_of site.master n → parity ≡ parity_of n
    → new ≡ scrambled packet word next.position parity → new ≡ carried site before packet
carried_scrambled site clear before packet word new next n parity learned after number own even value =
    let placed = learned.moves.placed in
    let known = positional_small (pid_of packet) (placed_pid packet placed) in
    let t = word_of site (length before) in
    value
    ∙ (veiled_is site packet word t n next.position parity number own even
    ∙ (ap (λ (x : ℕ). packet_under_word site t x packet)
    (learned.moves.position ∙ place_is before packet clear.positions.items placed after.placed)
    ∙ by_kind Scrambled site before packet
    (scrambled_is before packet clear.pmts.items placed after.marked known learned.kind)))
