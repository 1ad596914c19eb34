-- Of the packets that count none is refused.
use Rattle.std.proofs.Common.{◌≡◌, refl, ◌&&◌, true, not, List, [], ◌∷◌, None, is_none}
use Rattle.std.specs.Prelude.{ℕ}
use Rattle.std.proofs.lemmas.Bool.{and_parts}
use Rattle.sd_base.proofs.Bools.{tested}
use Rattle.sd_site_cards.specs.CardFields.{CardFields}
use Rattle.sd_spec.specs.Offered.{offered, out_from, break_from}
use Rattle.sd_spec.specs.Counting.{is_marked, is_doubled, is_stray_at, counts, counting}
use Rattle.sd_law_contained.specs.Alone.{packets_alone, few_held_in}
use Rattle.sd_law_contained.proofs.Written.{those_on}
use Rattle.sd_law_contained.proofs.Leaving.{is_nothing, calm_both, out_alone}

unrefused : (card : CardFields) (past : List (List ℕ)) (packet : List ℕ) → counts card past packet ≡ true →
    (offered card past packet).fault ≡ None
unfolding counts
unrefused card past packet taken =
    let some = and_parts (not (is_marked packet)) (not (is_doubled card past packet)
    && (not (is_stray_at card past packet) && is_none (offered card past packet).fault)) taken in
    let more = and_parts (not (is_doubled card past packet))
    (not (is_stray_at card past packet) && is_none (offered card past packet).fault) some.1 in
    let last = and_parts (not (is_stray_at card past packet)) (is_none (offered card past packet).fault) more.1 in
    is_nothing (offered card past packet).fault last.1

pub none_counting : (card : CardFields) (packets past : List (List ℕ)) →
    break_from card past (counting card past packets) ≡ None
unfolding break_from counting
none_counting card [] past = refl
none_counting card (packet ∷ packets) past =
    tested (counts card past packet)
    (λ taken. rw taken (calm_both (offered card past packet).fault
    (break_from card (packet ∷ past) (counting card (packet ∷ past) packets)) (unrefused card past packet taken)
    (none_counting card packets (packet ∷ past))))
    (λ left. rw left (none_counting card packets past))

pub out_watched : (card : CardFields) (pid : ℕ) (packets : List (List ℕ)) →
    few_held_in card [] (counting card [] packets) ≡ true →
    those_on pid (out_from card [] (counting card [] packets))
    ≡ out_from card [] (packets_alone card pid [] (counting card [] packets))
out_watched card pid packets room =
    out_alone card pid (counting card [] packets) (none_counting card packets []) room
