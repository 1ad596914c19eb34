-- What counts of packets with one more at their end.
use Rattle.std.proofs.Common.{◌≡◌, [], ◌∷◌, ◌++◌, refl, ap, sym, ◌∙◌}
use Rattle.std.proofs.Common.{Bool, true, false, append-nil, append_assoc}
use Rattle.std.specs.Prelude.{reverse, if◌then◌else◌}
use Rattle.std.proofs.lemmas.List.{reverse-append}
use Rattle.sd_base.specs.Types.{Packet, Packets}
use Rattle.sd_site_cards.specs.CardFields.{CardFields}
use Rattle.sd_spec.specs.Counting.{counts, counting}

-- packets that are reversed before others, with one more in front
before_past : (packet : Packet) (packets past : Packets) →
    reverse packets ++ packet ∷ past ≡ reverse (packet ∷ packets) ++ past
before_past packet packets past =
    sym (ap (λ (ps : Packets). ps ++ past) (reverse-append (packet ∷ []) packets)
    ∙ append_assoc (reverse packets) (packet ∷ []) past)

-- the packets that counted with one packet more, if it counts
abbrev pub past_with : CardFields → Packets → Packet → Packets
past_with card past packet = if counts card past packet then packet ∷ past else past

past_if : (b : Bool) (packet : Packet) (past one other : Packets) →
    reverse (if b then packet ∷ one else other) ++ past
    ≡ reverse (if b then one else other) ++ (if b then packet ∷ past else past)
past_if true packet past one other = sym (before_past packet one past)
past_if false packet past one other = refl

if_same : (b : Bool) (f : Packets → Packets) (x y : Packets) → (if b then f x else f y) ≡ f (if b then x else y)
if_same true f x y = refl
if_same false f x y = refl

-- those that count after a packet, and those before it, are those that count after it
pub counted_past : (card : CardFields) (past s : Packets) (packet : Packet) →
    reverse (counting card past (packet ∷ s)) ++ past
    ≡ reverse (counting card (past_with card past packet) s) ++ past_with card past packet
unfolding counting
counted_past card past s packet =
    past_if (counts card past packet) packet past (counting card (packet ∷ past) s) (counting card past s)
    ∙ ap (λ (ps : Packets). reverse ps ++ past_with card past packet)
    (if_same (counts card past packet) (λ (q : Packets). counting card q s) (packet ∷ past) past)

-- the packets of a list that count, if the first counts or not
first_counts : (b : Bool) (packet : Packet) (one other one_more other_more more : Packets) →
    (b ≡ true → one_more ≡ one ++ more) → (b ≡ false → other_more ≡ other ++ more) →
    (if b then packet ∷ one_more else other_more) ≡ (if b then packet ∷ one else other) ++ more
first_counts true packet one other one_more other_more more is_one is_other =
    ap (λ (ps : Packets). packet ∷ ps) (is_one refl)
first_counts false packet one other one_more other_more more is_one is_other = is_other refl

-- those that count of packets after others
pub counting_append : (card : CardFields) (s t past : Packets) → counting card past (s ++ t)
    ≡ counting card past s ++ counting card (reverse (counting card past s) ++ past) t
unfolding counting
counting_append card [] t past = refl
counting_append card (packet ∷ s) t past =
    let rest : Packets = counting card (reverse (counting card past (packet ∷ s)) ++ past) t in
    first_counts (counts card past packet) packet (counting card (packet ∷ past) s) (counting card past s)
    (counting card (packet ∷ past) (s ++ t)) (counting card past (s ++ t)) rest
    (λ is. counting_append card s t (packet ∷ past)
    ∙ ap (λ (q : Packets). counting card (packet ∷ past) s ++ counting card q t)
    (sym (counted_past card past s packet ∙ rw is refl)))
    (λ is. counting_append card s t past
    ∙ ap (λ (q : Packets). counting card past s ++ counting card q t)
    (sym (counted_past card past s packet ∙ rw is refl)))

-- those that count with one packet more
pub counting_more : (card : CardFields) (s : Packets) (packet : Packet) → counting card [] (s ++ packet ∷ [])
    ≡ counting card [] s ++ (if counts card (reverse (counting card [] s)) packet then packet ∷ [] else [])
unfolding counting
counting_more card s packet =
    counting_append card s (packet ∷ []) []
    ∙ ap (λ (q : Packets). counting card [] s ++ (if counts card q packet then packet ∷ [] else []))
    (append-nil (reverse (counting card [] s)))

reversed_if : (b : Bool) (packets : Packets) (packet : Packet) →
    reverse (packets ++ (if b then packet ∷ [] else []))
    ≡ (if b then packet ∷ reverse packets else reverse packets)
reversed_if true packets packet = reverse-append packets (packet ∷ [])
reversed_if false packets packet = ap (λ (ps : Packets). reverse ps) (append-nil packets)

-- and the newest first
pub counted_more : (card : CardFields) (s : Packets) (packet : Packet) →
    reverse (counting card [] (s ++ packet ∷ [])) ≡ past_with card (reverse (counting card [] s)) packet
counted_more card s packet =
    ap (λ (ps : Packets). reverse ps) (counting_more card s packet)
    ∙ reversed_if (counts card (reverse (counting card [] s)) packet) (counting card [] s) packet
