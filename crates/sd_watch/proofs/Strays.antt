-- Nothing odd is buffered after packets that count.
use Rattle.std.proofs.Common.{◌≡◌, List, [], ◌∷◌, ◌++◌, refl, ap, sym, ◌∙◌, Bool, true, false, length, append-nil}
use Rattle.std.specs.Prelude.{◌&&◌, ◌||◌, not, is_none, reverse, if◌then◌else◌, Option, Some, None}
use Rattle.std.specs.List.{list_any}
use Rattle.std.specs.Option.{option_map_or}
use Rattle.std.proofs.lemmas.List.{reverse-append}
use Rattle.std.proofs.lemmas.List.Folds.{list_any-append}
use Rattle.sd_base.specs.Types.{Packet, Packets, PacketNumber}
use Rattle.sd_site_cards.specs.CardFields.{CardFields}
use Rattle.sd_message.specs.EcmParts.{Message}
use Rattle.sd_psi.specs.declared.our_cat.Tuning.{Tuning}
use Rattle.sd_spec.specs.Tuned.{tuning_of}
use Rattle.sd_spec.specs.Heard.{Heard, Dropped, Entitles, Controls, BadEmm, BadEcm, Other, hears}
use Rattle.sd_spec.specs.Stretches.{newest_message, completed, stretch_after, others, is_closed}
use Rattle.sd_spec.specs.Runs.{is_turn, of_run}
use Rattle.sd_spec.specs.Confirmed.{is_foreign_under}
use Rattle.sd_spec.specs.Offered.{heard, heard_more, heard_with, offered}
use Rattle.sd_spec.specs.Counting.{is_marked, is_doubled, is_scrambled_packet, is_stray, is_stray_at, holds_stray}
use Rattle.sd_spec.specs.Counting.{counts, counting}
use Rattle.sd_watch.proofs.Counted.{past_with, counted_past}

-- a packet with its number is scrambled, and can't be under the control word of this message
abbrev is_bad : Message → PacketNumber × Packet → Bool
is_bad message held = is_scrambled_packet held.1 && is_foreign_under message.word held.1

-- one of the packets that are buffered can't be under the message's control word, if there is a message
abbrev has_bad : Option Message → List Heard → Bool
has_bad message after = option_map_or (λ m. list_any (is_bad m) (reverse (others after))) message false

no_more : (a b : Bool) → a ≡ false → b ≡ false → (a || (b || false)) ≡ false
no_more false false none good = refl
no_more false true none good = absurd cc
no_more true b none good = absurd cc

-- one more that isn't odd
more_good : (message : Option Message) (after : List Heard) (n : PacketNumber) (packet : Packet) →
    has_bad message after ≡ false →
    (is_scrambled_packet packet && option_map_or (λ m. is_foreign_under m.word packet) message false) ≡ false →
    has_bad message (Other n packet ∷ after) ≡ false
unfolding others
more_good None after n packet none good = refl
more_good (Some message) after n packet none good =
    ap (list_any (is_bad message)) (reverse-append ((n, packet) ∷ []) (others after))
    ∙ (list_any-append (is_bad message) (reverse (others after)) ((n, packet) ∷ [])
    ∙ no_more (list_any (is_bad message) (reverse (others after))) (is_bad message (n, packet)) none good)

open_good : (rest : Bool) (closed : Bool) → closed ≡ false → (not closed && rest) ≡ false → rest ≡ false
open_good rest false unclosed good = good
open_good rest true unclosed good = absurd cc

-- nothing odd is buffered with one thing more that isn't odd, of a run that isn't closed
more_heard : (past : List Heard) (thing : Heard) (message : Option Message) → completed (newest_message past) thing
    ≡ message →
    is_closed past ≡ false → holds_stray past ≡ false → is_stray past thing ≡ false →
    has_bad (stretch_after past (newest_message past) thing message).message
    (stretch_after past (newest_message past) thing message).after
    ≡ false
unfolding holds_stray is_stray others
more_heard past thing (Some message) is unclosed none good = refl
more_heard past Dropped None is unclosed none good = none
more_heard past (Entitles emm) None is unclosed none good = none
more_heard past (Controls part) None is unclosed none good = none
more_heard past (BadEmm fault) None is unclosed none good = none
more_heard past (BadEcm fault) None is unclosed none good = none
more_heard past (Other n packet) None is unclosed none good =
    more_good (newest_message past).message (newest_message past).after n packet none
    (open_good (is_scrambled_packet packet
    && option_map_or (λ m. is_foreign_under m.word packet) (newest_message past).message false)
    (is_closed past) unclosed good)

pub holds_more : (past : List Heard) (thing : Heard) → is_closed past ≡ false → holds_stray past ≡ false →
    is_stray past thing ≡ false → holds_stray (thing ∷ past) ≡ false
unfolding holds_stray newest_message
holds_more past thing unclosed none good =
    more_heard past thing (completed (newest_message past) thing) refl unclosed none good

-- of a run that begins nothing is odd
wordless : (scrambled : Bool) → (true && (scrambled && false)) ≡ false
wordless true = refl
wordless false = refl

none_odd : (thing : Heard) → is_stray [] thing ≡ false
unfolding is_stray is_closed newest_message
none_odd (Other n packet) = wordless (is_scrambled_packet packet)
none_odd Dropped = refl
none_odd (Entitles emm) = refl
none_odd (Controls part) = refl
none_odd (BadEmm fault) = refl
none_odd (BadEcm fault) = refl

-- nothing is buffered where nothing was heard
pub none_held : holds_stray [] ≡ false
unfolding holds_stray newest_message
none_held = refl

-- what is heard of the current run with one thing more
if_open : (closed : Bool) (past : List Heard) (thing : Heard) → is_closed past ≡ closed → holds_stray past ≡ false →
    is_stray past thing ≡ false → (was : List Heard) → holds_stray was ≡ false →
    holds_stray (if closed then was else thing ∷ past) ≡ false
if_open true past thing is none good was kept = kept
if_open false past thing is none good was kept = holds_more past thing is none good

of_good : (turns : Bool) (past : List Heard) (thing : Heard) → holds_stray past ≡ false → is_stray past thing ≡ false →
    (holds_stray (if turns then [] else past) ≡ false) × (is_stray (if turns then [] else past) thing ≡ false)
of_good true past thing none good = (none_held, none_odd thing)
of_good false past thing none good = (none, good)

pub more_of_run : (past : List Heard) (thing : Heard) → holds_stray past ≡ false → is_stray past thing ≡ false →
    holds_stray (heard_more past thing) ≡ false
unfolding of_run
more_of_run past thing none good =
    let of = of_good (is_turn past thing) past thing none good in
    if_open (is_closed (of_run past thing)) (of_run past thing) thing refl of.0 of.1 past none

-- a packet that counts isn't odd
counts_even : (m d o : Bool) (rest : Bool) → (not m && (not d && (not o && rest))) ≡ true → o ≡ false
counts_even false false false rest is = refl
counts_even false false true rest is = absurd cc
counts_even false true o rest is = absurd cc
counts_even true d o rest is = absurd cc

unstray : (card : CardFields) (past : Packets) (packet : Packet) → counts card past packet ≡ true →
    is_stray_at card past packet ≡ false
unfolding counts
unstray card past packet is =
    counts_even (is_marked packet) (is_doubled card past packet) (is_stray_at card past packet)
    (is_none (offered card past packet).fault) is

-- what is heard with one packet more that isn't odd
heard_good : (card : CardFields) (tuning : Option Tuning) (n : PacketNumber) (packet : Packet) (past : List Heard) →
    holds_stray past ≡ false → option_map_or (λ t. is_stray past (hears card.height t n packet)) tuning false ≡ false →
    holds_stray (heard_with card tuning n packet past) ≡ false
heard_good card None n packet past none good = none
heard_good card (Some tuning) n packet past none good =
    more_of_run past (hears card.height tuning n packet) none good

pub counts_unheld : (card : CardFields) (past : Packets) (packet : Packet) → holds_stray (heard card past) ≡ false →
    counts card past packet ≡ true → holds_stray (heard card (packet ∷ past)) ≡ false
unfolding heard is_stray_at
counts_unheld card past packet none is =
    heard_good card (tuning_of card.ca past) (length past) packet (heard card past) none (unstray card past packet is)

past_unheld : (card : CardFields) (past : Packets) (packet : Packet) (b : Bool) → counts card past packet ≡ b →
    holds_stray (heard card past) ≡ false → holds_stray (heard card (if b then packet ∷ past else past)) ≡ false
past_unheld card past packet true is none = counts_unheld card past packet none is
past_unheld card past packet false is none = none

-- nothing odd is buffered after packets that count
unheld_after : (card : CardFields) (past s : Packets) → holds_stray (heard card past) ≡ false →
    holds_stray (heard card (reverse (counting card past s) ++ past)) ≡ false
unfolding counting
unheld_after card past [] none = none
unheld_after card past (packet ∷ s) none =
    ap (λ (ps : Packets). holds_stray (heard card ps)) (counted_past card past s packet)
    ∙ unheld_after card (past_with card past packet) s
    (past_unheld card past packet (counts card past packet) refl none)

pub nothing_odd : (card : CardFields) (s : Packets) →
    holds_stray (heard card (reverse (counting card [] s))) ≡ false
unfolding heard
nothing_odd card s =
    ap (λ (ps : Packets). holds_stray (heard card ps)) (sym (append-nil (reverse (counting card [] s))))
    ∙ unheld_after card [] s none_held
