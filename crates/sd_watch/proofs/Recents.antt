-- The last scrambled packets.
use Rattle.std.proofs.Common.{arith, ◌≡◌, ℕ, suc, ◌+◌, ◌-◌, ◌%◌, ◌==◌, ◌<◌, ◌≤◌, [], ◌∷◌, ◌++◌, refl, ap, sym, ◌∙◌}
use Rattle.std.proofs.Common.{Bool, true, false, List, zero, map, length, take, drop, length-drop, append-nil}
use Rattle.std.proofs.Common.{append_assoc, inl, inr}
use Rattle.std.proofs.Common.{length-append, drop-cons}
use Rattle.std.specs.Prelude.{◌||◌, ◌≢◌, filter, reverse, bytes_eq, set}
use Rattle.std.specs.List.{list_any}
use Rattle.std.proofs.lemmas.Bool.{eq-eqb, ne_eqb, cases_lt}
use Rattle.std.proofs.lemmas.List.{reverse-append, length-reverse, length-take, length-set, take-append-drop, take-take}
use Rattle.std.proofs.lemmas.List.{map-append, map-set, drop_at, drop_all, take_all, drop-set-lt, take_more_set}
use Rattle.std.proofs.lemmas.List.Folds.{list_any-append}
use Rattle.std.proofs.lemmas.List.Sorted.{list_any-IsPermutation, IsPermutation-reverse}
use Rattle.std.proofs.lemmas.Slice.Eq.{bytes_eq-Decides}
use Rattle.sd_base.specs.Types.{Packet, Packets}
use Rattle.sd_packet.specs.Header.{scrambling_of}
use Rattle.sd_spec.specs.Counting.{is_scrambled_packet, is_copy}
use Rattle.sd_watch.specs.Tags.{packet_tag}
use Rattle.sd_watch.specs.Watching.{IsRecent}
use Rattle.sd_watch.specs.declared.recent.Recent.{Recent}

-- packets from one on and round to it
abbrev from_round : ℕ → Packets → Packets
from_round oldest packets = drop oldest packets ++ take oldest packets

-- no packet
pub none_kept : (recent : Recent) → recent.packets.items ≡ [] → recent.oldest ≡ 0 → IsRecent [] recent
none_kept recent none first = record {
  few = let long = ap (λ (ps : Packets). length ps) none in omega (arith, long);
  begins = λ less. first;
  last = rw (none, first) refl;
  tagged = rw none refl;
}

-- the packets that come before the last of those that are reversed
all_but_oldest : (n : ℕ) (packets : Packets) → length (take (suc n) packets) ≡ suc n →
    drop 1 (reverse (take (suc n) packets)) ≡ reverse (take n packets)
all_but_oldest n packets full =
    let whole : Packets = take (suc n) packets in
    let cut : reverse whole ≡ reverse (drop n whole) ++ reverse (take n whole) =
    ap (λ (ps : Packets). reverse ps) (sym (take-append-drop n whole)) ∙ reverse-append (take n whole) (drop n whole) in
    let some : length (reverse (drop n whole)) ≡ length (drop n whole) = length-reverse (drop n whole) in
    let left : length (drop n whole) ≡ length whole - n = length-drop n whole in
    let at : length (reverse (drop n whole)) ≡ 1 = omega (arith, full, some, left) in
    ap (λ (ps : Packets). drop 1 ps) cut
    ∙ (drop_at (reverse (drop n whole)) (reverse (take n whole)) 1 at
    ∙ ap (λ (ps : Packets). reverse ps) (take-take n (suc n) packets (omega arith)))

-- with a packet in front
in_front : (scrambled : Packets) (packet : Packet) →
    reverse (take 15 (packet ∷ scrambled)) ≡ reverse (take 14 scrambled) ++ packet ∷ []
in_front scrambled packet = reverse-append (packet ∷ []) (take 14 scrambled)

-- a scrambled packet is one of those that are looked at
scrambled_with : (past : Packets) (packet : Packet) → scrambling_of packet ≢ 0 →
    filter is_scrambled_packet (packet ∷ past) ≡ packet ∷ filter is_scrambled_packet past
scrambled_with past packet scrambled =
    let test : (scrambling_of packet == 0) ≡ false = ne_eqb (scrambling_of packet) 0 scrambled in rw test refl

-- as many are kept as are looked at
kept_long : (past : Packets) (recent : Recent) → IsRecent past recent →
    length (take 15 (filter is_scrambled_packet past)) ≡ length recent.packets.items
kept_long past recent is =
    let ps : Packets = recent.packets.items in
    let k : ℕ = recent.oldest in
    let round = length-append (drop k ps) (take k ps) in
    let less = length-drop k ps in
    let some = length-take k ps in
    let same = ap (λ (l : Packets). length l) is.last in
    let all = length-reverse (take 15 (filter is_scrambled_packet past)) in
    omega (arith, round, less, some, same, all)

-- a scrambled packet more, while there are fewer than 15
pub added : (past : Packets) (packet : Packet) (old new : Recent) → IsRecent past old → scrambling_of packet ≢ 0 →
    length old.packets.items < 15 → new.packets.items ≡ old.packets.items ++ packet ∷ [] → new.oldest ≡ old.oldest →
    length old.tags ≡ 16 → new.tags ≡ set old.tags (length old.packets.items) (packet_tag packet) →
    IsRecent (packet ∷ past) new
added past packet old new is scrambled less more same wide tag =
    let ps : Packets = old.packets.items in
    let scr : Packets = filter is_scrambled_packet past in
    let first : old.oldest ≡ 0 = is.begins less in
    let kept = kept_long past old is in
    let cut = length-take 15 scr in
    let short : length scr ≤ 14 = omega (arith, kept, cut, less) in
    let was : ps ≡ reverse scr =
    sym (append-nil ps) ∙ (sym (ap (λ (k : ℕ). from_round k ps) first) ∙ (is.last
    ∙ ap (λ (l : Packets). reverse l) (take_all 15 scr (omega (arith, short))))) in
    let long = length-append ps (packet ∷ []) in
    let all = ap (λ (l : Packets). length l) more in
    record {
      few = omega (arith, all, long, less);
      begins = λ _. same ∙ first;
      last = ap (λ (k : ℕ). from_round k new.packets.items) (same ∙ first)
          ∙ (append-nil new.packets.items
          ∙ (more
          ∙ (ap (λ (l : Packets). l ++ packet ∷ []) (was
          ∙ ap (λ (l : Packets). reverse l) (sym (take_all 14 scr short)))
          ∙ (sym (in_front scr packet)
          ∙ ap (λ (l : Packets). reverse (take 15 l)) (sym (scrambled_with past packet scrambled))))));
      tagged = let size : length new.packets.items ≡ length ps + 1 = all ∙ long in
          rw (size, tag, more) (take_more_set old.tags (length ps) (packet_tag packet) (omega (arith, wide, less))
          ∙ (ap (λ (l : List ℕ). l ++ packet_tag packet ∷ []) is.tagged
          ∙ sym (map-append packet_tag ps (packet ∷ []))));
    }

-- the packets round, with one in place of the oldest
round_more : (ps : Packets) (k : ℕ) (packet : Packet) → length ps ≡ 15 → k < 15 →
    from_round ((k + 1) % 15) (set ps k packet) ≡ drop (k + 1) ps ++ (take k ps ++ packet ∷ [])
round_more ps k packet long low = elim (cases_lt k 14) [
  | inl below ↦
      let next : (k + 1) % 15 ≡ k + 1 = omega (arith, below) in
      ap (λ (n : ℕ). from_round n (set ps k packet)) next
      ∙ (ap (λ (l : Packets). l ++ take (k + 1) (set ps k packet)) (drop-set-lt (k + 1) ps k packet (omega arith))
      ∙ ap (λ (l : Packets). drop (k + 1) ps ++ l) (take_more_set ps k packet (omega (arith, long, low))))
  | inr most ↦
      let last : k ≡ 14 = omega (arith, low, most) in
      let next : (k + 1) % 15 ≡ 0 = omega (arith, last) in
      let size = length-set ps k packet in
      let whole : set ps k packet ≡ take (k + 1) (set ps k packet) =
      sym (take_all (k + 1) (set ps k packet) (omega (arith, size, long, last))) in
      ap (λ (n : ℕ). from_round n (set ps k packet)) next
      ∙ (append-nil (set ps k packet)
      ∙ (whole
      ∙ (take_more_set ps k packet (omega (arith, long, low))
      ∙ ap (λ (l : Packets). l ++ (take k ps ++ packet ∷ []))
      (sym (drop_all (k + 1) ps (omega (arith, long, last)))))))
]

-- the first elements, with another one in a place
take_set : (xs : List ℕ) (k n : ℕ) (x : ℕ) → take n (set xs k x) ≡ set (take n xs) k x
take_set xs k zero x = refl
take_set [] k (suc n) x = refl
take_set (y ∷ xs) zero (suc n) x = refl
take_set (y ∷ xs) (suc k) (suc n) x = ap (λ (l : List ℕ). y ∷ l) (take_set xs k n x)

-- a scrambled packet more, in place of the oldest of 15
pub replaced : (past : Packets) (packet : Packet) (old new : Recent) → IsRecent past old → scrambling_of packet ≢ 0 →
    15 ≤ length old.packets.items → old.oldest < 15 →
    new.packets.items ≡ set old.packets.items old.oldest packet → new.oldest ≡ (old.oldest + 1) % 15 →
    new.tags ≡ set old.tags old.oldest (packet_tag packet) → IsRecent (packet ∷ past) new
replaced past packet old new is scrambled more low put next tag =
    let ps : Packets = old.packets.items in
    let k : ℕ = old.oldest in
    let scr : Packets = filter is_scrambled_packet past in
    let few = is.few in
    let full : length ps ≡ 15 = omega (arith, more, few) in
    let kept = kept_long past old is in
    let size = length-set ps k packet in
    let all = ap (λ (l : Packets). length l) put in
    let following : k + 1 ≡ suc k = omega arith in
    let rest : drop (k + 1) ps ++ take k ps ≡ reverse (take 14 scr) =
    ap (λ (n : ℕ). drop n ps ++ take k ps) following
    ∙ (ap (λ (l : Packets). drop 1 (l ++ take k ps)) (sym (drop-cons ps k [] (omega (arith, full, low))))
    ∙ (ap (λ (l : Packets). drop 1 l) is.last ∙ all_but_oldest 14 scr (kept ∙ full))) in
    record {
      few = omega (arith, all, size, full);
      begins = λ less. absurd (omega (arith, all, size, full, less));
      last = ap (λ (l : Packets). from_round new.oldest l) put
          ∙ (ap (λ (n : ℕ). from_round n (set ps k packet)) next
          ∙ (round_more ps k packet full low
          ∙ (sym (append_assoc (drop (k + 1) ps) (take k ps) (packet ∷ []))
          ∙ (ap (λ (l : Packets). l ++ packet ∷ []) rest
          ∙ (sym (in_front scr packet)
          ∙ ap (λ (l : Packets). reverse (take 15 l)) (sym (scrambled_with past packet scrambled)))))));
      tagged = rw (all ∙ size, tag, put) (take_set old.tags k (length ps) (packet_tag packet)
          ∙ (ap (λ (l : List ℕ). set l k (packet_tag packet)) is.tagged ∙ sym (map-set packet_tag ps k packet)));
    }

pub clear_more : (past : Packets) (packet : Packet) (recent : Recent) → IsRecent past recent →
    scrambling_of packet ≡ 0 → IsRecent (packet ∷ past) recent
clear_more past packet recent is clear =
    let test : (scrambling_of packet == 0) ≡ true = eq-eqb (scrambling_of packet) 0 clear in
    let without : filter is_scrambled_packet (packet ∷ past) ≡ filter is_scrambled_packet past = rw test refl in
    record {
      few = is.few;
      begins = is.begins;
      last = is.last ∙ ap (λ (ps : Packets). reverse (take 15 ps)) (sym without);
      tagged = is.tagged;
    }

-- a packet in the clear is no copy
pub clear_no_copy : (past : Packets) (packet : Packet) → scrambling_of packet ≡ 0 → false ≡ is_copy past packet
clear_no_copy past packet clear =
    let test : (scrambling_of packet == 0) ≡ true = eq-eqb (scrambling_of packet) 0 clear in rw test refl

either : (a b : Bool) → (a || b) ≡ (b || a)
either true true = refl
either true false = refl
either false true = refl
either false false = refl

-- whether a scrambled packet is among those that are kept
pub copy_among : (past : Packets) (packet : Packet) (recent : Recent) (b : Bool) → IsRecent past recent →
    scrambling_of packet ≢ 0 → b ≡ list_any (bytes_eq packet) recent.packets.items → b ≡ is_copy past packet
copy_among past packet recent b is scrambled among =
    let test : (scrambling_of packet == 0) ≡ false = ne_eqb (scrambling_of packet) 0 scrambled in
    let p : Packet → Bool = bytes_eq packet in
    let ps : Packets = recent.packets.items in
    let k : ℕ = recent.oldest in
    let kept : Packets = take 15 (filter is_scrambled_packet past) in
    let round : list_any p ps ≡ list_any p (from_round k ps) =
    ap (list_any p) (sym (take-append-drop k ps))
    ∙ (list_any-append p (take k ps) (drop k ps)
    ∙ (either (list_any p (take k ps)) (list_any p (drop k ps))
    ∙ sym (list_any-append p (drop k ps) (take k ps)))) in
    among ∙ (round ∙ (ap (list_any p) is.last
    ∙ (sym (list_any-IsPermutation p kept (reverse kept) (IsPermutation-reverse kept)) ∙ rw test refl)))

-- equal packets have equal tags
same_tag : (a b : Packet) → bytes_eq a b ≡ true → (packet_tag b == packet_tag a) ≡ true
same_tag a b same = eq-eqb (packet_tag b) (packet_tag a) (ap packet_tag (sym ((bytes_eq-Decides a b).0 same)))

-- where no tag is that of the packet, the packet is none of those that have the tags
untagged : (packet : Packet) (ps : Packets) (tags : List ℕ) → take (length ps) tags ≡ map packet_tag ps →
    list_any (λ other. other == packet_tag packet) tags ≡ false → list_any (bytes_eq packet) ps ≡ false
untagged packet [] tags are none = refl
untagged packet (p ∷ ps) [] are none = absurd (let long = ap (λ (l : List ℕ). length l) are in omega (arith, long))
untagged packet (p ∷ ps) (tag ∷ tags) are none =
    let own : tag ≡ packet_tag p = cc in
    let rest : take (length ps) tags ≡ map packet_tag ps = cc in
    by_tests (bytes_eq packet p) (tag == packet_tag packet) refl refl own none
    (λ less. untagged packet ps tags rest less)
  where
    by_tests : (b t : Bool) → bytes_eq packet p ≡ b → (tag == packet_tag packet) ≡ t → tag ≡ packet_tag p →
        (t || list_any (λ other. other == packet_tag packet) tags) ≡ false →
        (list_any (λ other. other == packet_tag packet) tags ≡ false → list_any (bytes_eq packet) ps ≡ false) →
        (b || list_any (bytes_eq packet) ps) ≡ false
    by_tests b true same other own none less = absurd cc
    by_tests true false same other own none less =
        let equal = same_tag packet p same in absurd (grind (arith, equal, other, own))
    by_tests false false same other own none less = less none

-- where a tag is that of the packet, it is looked for among the packets
pub tag_then_packet : (past : Packets) (packet : Packet) (recent : Recent) → IsRecent past recent →
    list_any (λ other. other == packet_tag packet) recent.tags ≡ false →
    false ≡ list_any (bytes_eq packet) recent.packets.items
tag_then_packet past packet recent is none = sym (untagged packet recent.packets.items recent.tags is.tagged none)
