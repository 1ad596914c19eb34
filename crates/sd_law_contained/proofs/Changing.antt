-- The broadcast of a clear stream of which bits are changed that the head end doesn't read is the broadcast with the
-- same bits changed.
use Rattle.std.proofs.Common.{◌≡◌, refl, ℕ, zero, suc, ◌+◌, ◌-◌, ◌/◌, ◌%◌, ◌==◌, ◌++◌, Bool, true, false, List, [], ◌∷◌}
use Rattle.std.proofs.Common.{length, map, ap, sym, ◌∙◌, inl, inr, arith, append_assoc, length-append}
use Rattle.std.specs.Prelude.{if◌then◌else◌, get_or, count_by, filter}
use Rattle.std.proofs.lemmas.List.{map-append}
use Rattle.std.proofs.lemmas.List.Sums.{length-filter}
use Rattle.std.proofs.lemmas.List.Elements.{All-head, All-tail}
use Rattle.sd_tree_keys.specs.Keys.{control_word_of}
use Rattle.sd_site_cards.specs.SiteFields.{SiteFields}
use Rattle.sd_cipher.specs.Scrambling.{control_of}
use Rattle.sd_message.specs.declared.emm.Emm.{Emm}
use Rattle.sd_message.specs.Period.{emms_of}
use Rattle.sd_message.specs.EcmParts.{Message, parts_of}
use Rattle.sd_message.specs.declared.ecm_part.EcmPart.{EcmPart}
use Rattle.sd_spec.specs.Plan.{Plan, crypto_length, period_of, word_of, closing_number}
use Rattle.sd_spec.specs.Messages.{period_at, message_at}
use Rattle.sd_spec.specs.declared.kind.Kind.{Kind}
use Rattle.sd_spec.specs.declared.kind.Kind.TheVariants.{Passed, Pmt, Scrambled}
use Rattle.sd_spec.specs.Kinds.{kind_of}
use Rattle.sd_spec.specs.Carried.{parity_of, place_after, pmt_carried, packet_under_word, carried_as, carried}
use Rattle.sd_spec.specs.Sent.{Item, Cat, Entitles, Controls, Carries, tables_at, tables_before, message_before, added}
use Rattle.sd_spec.specs.Sent.{sent_from, sent, closing_of, is_alike, item_packet, packets_from, broadcast}
use Rattle.sd_law_broadcast.specs.Packets.{IsWholePacket, AreWholePackets}
use Rattle.sd_law_contained.specs.Changed.{changed_by, all_changed, IsHarmless, AreHarmless, mask_of}
use Rattle.sd_law_contained.proofs.Masks.{changed_none, fourth_stays, laid_changed}
use Rattle.sd_law_contained.proofs.Alike.{IsAlike, AreAlike, alike_length, alike_more, same_place, same_message}
use Rattle.sd_law_contained.proofs.Alike.{same_kind}

-- a harmless mask leaves a packet alike
pub harmless_alike : (before : List (List ℕ)) (packet mask : List ℕ) → IsHarmless before packet mask →
    IsAlike packet (changed_by packet mask)
harmless_alike before packet mask is = record {
  pid = is.pid;
  fourth = fourth_stays packet mask is.fourth;
  start = is.start;
  table = λ zero. ap (changed_by packet) (is.table (inr zero)) ∙ changed_none packet;
}

pub all_alike : (before packets masks : List (List ℕ)) → AreHarmless before packets masks →
    AreAlike packets (all_changed packets masks)
all_alike before [] [] are = tt
all_alike before [] (mask ∷ masks) are = absurd are
all_alike before (packet ∷ packets) [] are = absurd are
all_alike before (packet ∷ packets) (mask ∷ masks) are =
    (harmless_alike before packet mask are.0, all_alike (before ++ packet ∷ []) packets masks are.1)

-- a packet as it is carried
carried_by : (kind : Kind) (site : SiteFields) (before after : List (List ℕ)) (packet mask : List ℕ) →
    AreAlike before after → length packet ≡ 188 → IsHarmless before packet mask → (kind ≡ Pmt → mask ≡ []) →
    carried_as kind site after (changed_by packet mask) ≡ changed_by (carried_as kind site before packet) mask
unfolding packet_under_word
carried_by Passed site before after packet mask are long is table = refl
carried_by Pmt site before after packet mask are long is table =
    let none = table refl in
    rw none (ap (pmt_carried site) (changed_none packet) ∙ sym (changed_none (pmt_carried site packet)))
carried_by Scrambled site before after packet mask are long is table =
    rw (
      alike_length before after are,
      same_place before after packet (changed_by packet mask) are
          (harmless_alike before packet mask is),
    )
    (laid_changed packet mask (control_word_of site.master (word_of site (length before))) (place_after before packet)
    (control_of (parity_of (word_of site (length before)))) long is.fourth is.pid is.start)

pub carried_changed : (site : SiteFields) (before after : List (List ℕ)) (packet mask : List ℕ) →
    AreAlike before after → length packet ≡ 188 → IsHarmless before packet mask →
    carried site after (changed_by packet mask) ≡ changed_by (carried site before packet) mask
unfolding carried
carried_changed site before after packet mask are long is =
    ap (λ (kind : Kind). carried_as kind site after (changed_by packet mask))
    (same_kind before after packet (changed_by packet mask) are (harmless_alike before packet mask is))
    ∙ carried_by (kind_of before packet) site before after packet mask are long is (λ pmt. is.table (inl pmt))

-- things, of which the clear packets are changed
abbrev pub item_changed : List (List ℕ) → Item → Item
item_changed masks (Carries j packet) = Carries j (changed_by packet (get_or masks j []))
item_changed masks Cat = Cat
item_changed masks (Entitles emm) = Entitles emm
item_changed masks (Controls part) = Controls part

abbrev pub items_changed : List (List ℕ) → List Item → List Item
items_changed masks items = map (item_changed masks) items

emms_stay : (masks : List (List ℕ)) (emms : List Emm) → items_changed masks (map Entitles emms) ≡ map Entitles emms
emms_stay masks [] = refl
emms_stay masks (emm ∷ emms) = ap (λ (items : List Item). Entitles emm ∷ items) (emms_stay masks emms)

parts_stay : (masks : List (List ℕ)) (parts : List EcmPart) → items_changed masks (map Controls parts) ≡ map Controls
    parts
parts_stay masks [] = refl
parts_stay masks (part ∷ parts) = ap (λ (items : List Item). Controls part ∷ items) (parts_stay masks parts)

tables_by : (masks : List (List ℕ)) (test : Bool) (emms : List Emm) →
    items_changed masks (if test then Cat ∷ map Entitles emms else []) ≡ (if test then Cat ∷ map Entitles emms else [])
tables_by masks true emms = ap (λ (items : List Item). Cat ∷ items) (emms_stay masks emms)
tables_by masks false emms = refl

parts_by : (masks : List (List ℕ)) (test : Bool) (parts : List EcmPart) →
    items_changed masks (if test then map Controls parts else []) ≡ (if test then map Controls parts else [])
parts_by masks true parts = parts_stay masks parts
parts_by masks false parts = refl

tables_stay : (masks : List (List ℕ)) (plan : Plan) (k : ℕ) →
    items_changed masks (tables_before plan k) ≡ tables_before plan k
unfolding tables_at
tables_stay masks plan k =
    tables_by masks (k % crypto_length plan.site == 0) (emms_of (period_at plan (period_of plan k)))

message_same : (plan : Plan) (before after : List (List ℕ)) → AreAlike before after →
    message_before plan after ≡ message_before plan before
message_same plan before after are =
    rw (alike_length before after are)
    (ap (λ (message : Message). if length before % plan.site.every == 0 then map Controls (parts_of message) else [])
    (same_message plan before after (length before / plan.site.every) (length before) false are))

message_stays : (masks : List (List ℕ)) (plan : Plan) (before : List (List ℕ)) →
    items_changed masks (message_before plan before) ≡ message_before plan before
message_stays masks plan before =
    parts_by masks (length before % plan.site.every == 0)
    (parts_of (message_at plan before (length before / plan.site.every) (length before) false))

-- the mask behind these
mask_here : (done masks : List (List ℕ)) (mask : List ℕ) (n : ℕ) → length done ≡ n →
    get_or (done ++ mask ∷ masks) n [] ≡ mask
mask_here [] masks mask zero is = refl
mask_here [] masks mask (suc n) is = absurd (omega (arith, is))
mask_here (first ∷ done) masks mask zero is = absurd (omega (arith, is))
mask_here (first ∷ done) masks mask (suc n) is = mask_here done masks mask n (omega (arith, is))

-- what one packet adds
added_changed : (plan : Plan) (before after done masks : List (List ℕ)) (packet mask : List ℕ) →
    AreAlike before after → length packet ≡ 188 → IsHarmless before packet mask → length done ≡ length before →
    added plan after (changed_by packet mask) ≡ items_changed (done ++ mask ∷ masks) (added plan before packet)
unfolding added
added_changed plan before after done masks packet mask are long is place =
    let all : List (List ℕ) = done ++ mask ∷ masks in
    let n : ℕ = length before in
    let tables : List Item = tables_before plan n in
    let message : List Item = message_before plan before in
    let last : List Item = Carries n (carried plan.site before packet) ∷ [] in
    let here : get_or all n [] ≡ mask = mask_here done masks mask n place in
    let is_last : Carries (length after) (carried plan.site after (changed_by packet mask)) ∷ []
    ≡ items_changed all last =
    ap (λ (k : ℕ). Carries k (carried plan.site after (changed_by packet mask)) ∷ []) (alike_length before after are)
    ∙ (ap (λ (p : List ℕ). Carries n p ∷ []) (carried_changed plan.site before after packet mask are long is)
    ∙ ap (λ (m : List ℕ). Carries n (changed_by (carried plan.site before packet) m) ∷ []) (sym here)) in
    ap (λ (k : ℕ). tables_before plan k ++ (message_before plan after
    ++ Carries (length after) (carried plan.site after (changed_by packet mask)) ∷ [])) (alike_length before after are)
    ∙ (ap (λ (items : List Item). tables ++ (items
    ++ Carries (length after) (carried plan.site after (changed_by packet mask)) ∷ [])) (message_same plan before
    after are)
    ∙ (ap (λ (items : List Item). tables ++ (message ++ items)) is_last
    ∙ (ap (λ (items : List Item). items ++ (message ++ items_changed all last)) (sym (tables_stay all plan n))
    ∙ (ap (λ (items : List Item). items_changed all tables ++ (items ++ items_changed all last))
    (sym (message_stays all plan before))
    ∙ (ap (λ (items : List Item). items_changed all tables ++ items) (sym (map-append (item_changed all) message last))
    ∙ sym (map-append (item_changed all) tables (message ++ last)))))))

-- and all packets
pub sent_changed : (plan : Plan) (clear masks before after done : List (List ℕ)) → AreAlike before after →
    AreWholePackets clear → AreHarmless before clear masks → length done ≡ length before →
    sent_from plan after (all_changed clear masks) ≡ items_changed (done ++ masks) (sent_from plan before clear)
unfolding sent_from
sent_changed plan [] [] before after done are whole harmless place = refl
sent_changed plan [] (mask ∷ masks) before after done are whole harmless place = absurd harmless
sent_changed plan (packet ∷ clear) [] before after done are whole harmless place = absurd harmless
sent_changed plan (packet ∷ clear) (mask ∷ masks) before after done are whole harmless place =
    let all : List (List ℕ) = done ++ mask ∷ masks in
    let one = All-head IsWholePacket packet clear whole in
    let rest = All-tail IsWholePacket packet clear whole in
    let more = sent_changed plan clear masks (before ++ packet ∷ []) (after ++ changed_by packet mask ∷ [])
    (done ++ mask ∷ []) (alike_more before after (packet ∷ []) (changed_by packet mask ∷ []) are
    (harmless_alike before packet mask harmless.0, tt)) rest harmless.1
    (length-append done (mask ∷ []) ∙ (ap (λ (n : ℕ). n + 1) place ∙ sym (length-append before (packet ∷ [])))) in
    let these : (done ++ mask ∷ []) ++ masks ≡ all = append_assoc done (mask ∷ []) masks in
    ap (λ (items : List Item). items ++ sent_from plan (after ++ changed_by packet mask ∷ []) (all_changed clear masks))
    (added_changed plan before after done masks packet mask are one.long harmless.0 place)
    ∙ (ap (λ (items : List Item). items_changed all (added plan before packet) ++ items) (more
    ∙ ap (λ (ms : List (List ℕ)). items_changed ms (sent_from plan (before ++ packet ∷ []) clear)) these)
    ∙ sym (map-append (item_changed all) (added plan before packet) (sent_from plan (before ++ packet ∷ []) clear)))

-- the closing message
closing_same : (plan : Plan) (clear other : List (List ℕ)) → AreAlike clear other →
    closing_of plan other ≡ closing_of plan clear
unfolding closing_of
closing_same plan clear other are =
    rw (alike_length clear other are)
    (ap (λ (message : Message). (if length clear == 0 then tables_at plan 0 else []) ++ map Controls (parts_of message))
    (same_message plan clear other (closing_number plan.site (length clear)) (length clear - 1) true are))

closing_stays : (masks : List (List ℕ)) (plan : Plan) (clear : List (List ℕ)) →
    items_changed masks (closing_of plan clear) ≡ closing_of plan clear
unfolding closing_of tables_at
closing_stays masks plan clear =
    let message : Message = message_at plan clear (closing_number plan.site (length clear)) (length clear - 1) true in
    let tables : List Item =
    if length clear == 0 then Cat ∷ map Entitles (emms_of (period_at plan (period_of plan 0))) else [] in
    map-append (item_changed masks) tables (map Controls (parts_of message))
    ∙ (ap (λ (items : List Item). items ++ items_changed masks (map Controls (parts_of message)))
    (tables_by masks (length clear == 0) (emms_of (period_at plan (period_of plan 0))))
    ∙ ap (λ (items : List Item). tables ++ items) (parts_stay masks (parts_of message)))

-- all things of a broadcast
abbrev pub things : Plan → List (List ℕ) → List Item
things plan clear = sent plan clear ++ closing_of plan clear

pub things_changed : (plan : Plan) (clear masks : List (List ℕ)) → AreWholePackets clear → AreHarmless [] clear masks →
    things plan (all_changed clear masks) ≡ items_changed masks (things plan clear)
things_changed plan clear masks whole harmless =
    ap (λ (items : List Item). items ++ closing_of plan (all_changed clear masks))
    (sent_changed plan clear masks [] [] [] tt whole harmless refl)
    ∙ (ap (λ (items : List Item). items_changed masks (sent plan clear) ++ items)
    (closing_same plan clear (all_changed clear masks) (all_alike [] clear masks harmless)
    ∙ sym (closing_stays masks plan clear))
    ∙ sym (map-append (item_changed masks) (sent plan clear) (closing_of plan clear)))

-- their packets
alike_stays : (masks : List (List ℕ)) (item other : Item) → is_alike item (item_changed masks other) ≡ is_alike item
    other
alike_stays masks item Cat = refl
alike_stays masks item (Entitles emm) = refl
alike_stays masks item (Controls part) = refl
alike_stays masks Cat (Carries j packet) = refl
alike_stays masks (Entitles emm) (Carries j packet) = refl
alike_stays masks (Controls part) (Carries j packet) = refl
alike_stays masks (Carries k other) (Carries j packet) = refl

longer_by : (test : Bool) (item other : Item) (items others : List Item) → length items ≡ length others →
    length (if test then item ∷ items else items) ≡ length (if test then other ∷ others else others)
longer_by true item other items others same = ap suc same
longer_by false item other items others same = same

kept_stays : (masks : List (List ℕ)) (item : Item) (earlier : List Item) →
    length (filter (is_alike item) (items_changed masks earlier)) ≡ length (filter (is_alike item) earlier)
kept_stays masks item [] = refl
kept_stays masks item (other ∷ earlier) =
    ap (λ (test : Bool). length (if test then item_changed masks other ∷ filter (is_alike item)
    (items_changed masks earlier) else filter (is_alike item) (items_changed masks earlier)))
    (alike_stays masks item other)
    ∙ longer_by (is_alike item other) (item_changed masks other) other
    (filter (is_alike item) (items_changed masks earlier)) (filter (is_alike item) earlier)
    (kept_stays masks item earlier)

count_stays : (masks : List (List ℕ)) (item : Item) (earlier : List Item) →
    count_by (is_alike item) (items_changed masks earlier) ≡ count_by (is_alike item) earlier
count_stays masks item earlier =
    sym (length-filter (is_alike item) (items_changed masks earlier))
    ∙ (kept_stays masks item earlier ∙ length-filter (is_alike item) earlier)

packet_changed : (masks : List (List ℕ)) (site : SiteFields) (earlier : List Item) (item : Item) →
    item_packet site (items_changed masks earlier) (item_changed masks item)
    ≡ changed_by (item_packet site earlier item) (mask_of masks item)
packet_changed masks site earlier Cat =
    rw (count_stays masks Cat earlier) (sym (changed_none (item_packet site earlier Cat)))
packet_changed masks site earlier (Entitles emm) =
    rw (count_stays masks (Entitles emm) earlier) (sym (changed_none (item_packet site earlier (Entitles emm))))
packet_changed masks site earlier (Controls part) =
    rw (count_stays masks (Controls part) earlier) (sym (changed_none (item_packet site earlier (Controls part))))
packet_changed masks site earlier (Carries j packet) = refl

pub packets_changed : (masks : List (List ℕ)) (site : SiteFields) (earlier items : List Item) →
    packets_from site (items_changed masks earlier) (items_changed masks items)
    ≡ all_changed (packets_from site earlier items) (map (mask_of masks) items)
unfolding packets_from
packets_changed masks site earlier [] = refl
packets_changed masks site earlier (item ∷ items) =
    ap (λ (packet : List ℕ). packet ∷ packets_from site (items_changed masks earlier ++ item_changed masks item ∷ [])
    (items_changed masks items)) (packet_changed masks site earlier item)
    ∙ (ap (λ (before : List Item). changed_by (item_packet site earlier item) (mask_of masks item)
    ∷ packets_from site before (items_changed masks items)) (sym (map-append (item_changed masks) earlier (item ∷ [])))
    ∙ ap (λ (packets : List (List ℕ)). changed_by (item_packet site earlier item) (mask_of masks item) ∷ packets)
    (packets_changed masks site (earlier ++ item ∷ []) items))

pub broadcast_changed : (plan : Plan) (clear masks : List (List ℕ)) → AreWholePackets clear →
    AreHarmless [] clear masks →
    broadcast plan (all_changed clear masks)
    ≡ all_changed (broadcast plan clear) (map (mask_of masks) (things plan clear))
unfolding broadcast
broadcast_changed plan clear masks whole harmless =
    ap (packets_from plan.site []) (things_changed plan clear masks whole harmless)
    ∙ packets_changed masks plan.site [] (things plan clear)
