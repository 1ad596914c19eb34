-- What a receiver writes between two messages of a broadcast.
use Rattle.std.proofs.Common.{◌≡◌, refl, ℕ, zero, suc, ◌+◌, ◌-◌, ◌≤◌, ◌&&◌, Bool, true, false}
use Rattle.std.proofs.Common.{nat_le, nat_lt, List, [], ◌∷◌, ◌++◌, map, filter, length, Option, Some, None}
use Rattle.std.proofs.Common.{arith, sym, ap, ◌∙◌, inl, inr, ◌⊎◌, subst}
use Rattle.std.specs.Prelude.{if◌then◌else◌, Result, Ok}
use Rattle.std.specs.List.{range_with_len}
use Rattle.std.proofs.lemmas.List.{map-append, length-map}
use Rattle.std.proofs.lemmas.List.Elements.{filter_agree}
use Rattle.std.proofs.lemmas.Bool.{cases_Bool}
use Rattle.std.proofs.lemmas.Bool.Decides.{nat_tests}
use Rattle.sd_tree_keys.specs.Keys.{control_word_of}
use Rattle.sd_spec.specs.Plan.{since_of}
use Rattle.sd_spec.specs.Sent.{Item}
use Rattle.sd_tree_keys.specs.Keys.{period_key_of}
use Rattle.sd_cipher.specs.Wrapping.{wrapped as under}
use Rattle.sd_spec.specs.Plan.{period_of}
use Rattle.sd_spec.specs.Stretches.{Stretch, held_in}
use Rattle.sd_spec.specs.Keys.{key_at}
use Rattle.sd_spec.specs.Offered.{segment_wrote, stretch_wrote}
use Rattle.sd_spec.specs.Confirmed.{Segment, judged_packet, WrittenPackets, then_segment_output, written_from}
use Rattle.sd_law_losses.specs.Kept.{is_kept, kept_in, is_entitled_before}
use Rattle.sd_law_losses.specs.Confirmed.{packet_at, packets_at, is_open, is_written_between}
use Rattle.sd_law_losses.proofs.Tracking.{kept_more, kept_none, nothing_in}
use Rattle.sd_law_losses.proofs.Setting.{Setting, AreLaws, tuning_at, told_by, carried_at, key_where}
use Rattle.sd_law_losses.proofs.Pairs.{start_of, end_of, IsPair, since_is, number_is, starts_within}
use Rattle.sd_law_losses.proofs.Judging.{segment_at, is_let, let_by, judged_is}

-- the parts of equal lists
first_of_same : {A : Type 0} (x y : A) (xs ys : List A) → x ∷ xs ≡ y ∷ ys → x ≡ y
first_of_same x y xs ys same = cc

rest_of_same : {A : Type 0} (x y : A) (xs ys : List A) → x ∷ xs ≡ y ∷ ys → xs ≡ ys
rest_of_same x y xs ys same = cc

none_of_some : {A : Type 0} (y : A) (ys : List A) → [] ≡ y ∷ ys → ⊥
none_of_some y ys same = cc

some_of_none : {A : Type 0} (y : A) (ys : List A) → y ∷ ys ≡ [] → ⊥
some_of_none y ys same = cc

-- the packets of what is held
abbrev pub packets_held : List (ℕ × List ℕ) → List (List ℕ)
packets_held hs = map (λ held. held.1) hs

-- what is written of some of the held packets, none of them refused
abbrev pub all_of : List (List ℕ) → WrittenPackets
all_of packets = record { packets = packets; refused = None }

-- one held packet and the next ones
one_held : (segment : Segment) (before : List (List ℕ)) (held : ℕ × List ℕ) (packet : List ℕ) (more : List (ℕ × List ℕ))
    (first rest : List (List ℕ)) → held.1 ≡ packet → ((n : ℕ) → judged_packet segment before (n, packet) ≡ Ok first) →
    written_from segment (before ++ packet ∷ []) more ≡ all_of rest →
    written_from segment before (held ∷ more) ≡ all_of (first ++ rest)
unfolding written_from
one_held segment before held packet more first rest is good others =
    subst (λ (p : List ℕ). ((n : ℕ) → judged_packet segment before (n, p) ≡ Ok first) →
    written_from segment (before ++ p ∷ []) more ≡ all_of rest →
    then_segment_output (judged_packet segment before (held.0, held.1)) (written_from segment (before ++ held.1 ∷ [])
    more)
    ≡ all_of (first ++ rest)) is
    (λ good others. ap (λ (r : Result (List (List ℕ)) ℕ). then_segment_output r (written_from segment
    (before ++ held.1 ∷ []) more))
    (good held.0) ∙ ap (then_segment_output (Ok first)) others) good others

-- a filter over a range, one number at a time
let_first : (s : Setting) (kept : List Item) (a b j : ℕ) (js : List ℕ) →
    let_by s kept a b j ++ packets_at s.clear (filter (is_let s kept a b) js)
    ≡ packets_at s.clear (filter (is_let s kept a b) (j ∷ js))
let_first s kept a b j js = by_test (is_let s kept a b j)
  where
    by_test : (t : Bool) → (if t then packet_at s.clear j ∷ [] else []) ++ packets_at s.clear (filter
        (is_let s kept a b) js)
        ≡ packets_at s.clear (if t then j ∷ filter (is_let s kept a b) js else filter (is_let s kept a b) js)
    by_test true = refl
    by_test false = refl

-- what is written of the packets held from number lo on
Written : Setting → List Item → ℕ → ℕ → ℕ → ℕ → List (ℕ × List ℕ) → Type 0
Written s kept a b lo n hs =
    written_from (segment_at s kept a b) (map (carried_at s) (kept_in kept (start_of s a) lo)) hs
    ≡ all_of (packets_at s.clear (filter (is_let s kept a b) (filter (is_kept kept) (range_with_len lo n))))

written_kept : (s : Setting) (laws : AreLaws s) (kept : List Item) (a b lo n : ℕ) → IsPair s a b →
    since_of s.plan.site.messages s.plan.site.cryptos b ≤ a → start_of s a ≤ lo → lo + suc n ≡ end_of s b →
    is_kept kept lo ≡ true → (hs : List (ℕ × List ℕ)) →
    packets_held hs ≡ carried_at s lo ∷ map (carried_at s) (filter (is_kept kept) (range_with_len (lo + 1) n)) →
    ((more : List (ℕ × List ℕ)) → packets_held more ≡ map (carried_at s) (filter (is_kept kept) (range_with_len
    (lo + 1) n)) →
    Written s kept a b (lo + 1) n more) →
    written_from (segment_at s kept a b) (map (carried_at s) (kept_in kept (start_of s a) lo)) hs
    ≡ all_of (packets_at s.clear (filter (is_let s kept a b) (lo ∷ filter (is_kept kept) (range_with_len (lo + 1) n))))
unfolding Written
written_kept s laws kept a b lo n pair since from all is [] holds next = absurd (none_of_some _ _ holds)
written_kept s laws kept a b lo n pair since from all is (held ∷ more) holds next =
    one_held (segment_at s kept a b) (map (carried_at s) (kept_in kept (start_of s a) lo)) held (carried_at s lo) more
    (let_by s kept a b lo)
    (packets_at s.clear (filter (is_let s kept a b) (filter (is_kept kept) (range_with_len (lo + 1) n))))
    (first_of_same _ _ _ _ holds)
    (λ k. judged_is s laws kept a b lo k pair since from (omega (arith, all)) is)
    (ap (λ (before : List (List ℕ)). written_from (segment_at s kept a b) before more)
    (sym (map-append (carried_at s) (kept_in kept (start_of s a) lo) (lo ∷ []))
    ∙ ap (map (carried_at s)) (sym (kept_more kept (start_of s a) lo from is)))
    ∙ next more (rest_of_same _ _ _ _ holds))
    ∙ ap all_of (let_first s kept a b lo (filter (is_kept kept) (range_with_len (lo + 1) n)))

pub written_is : (s : Setting) (laws : AreLaws s) (kept : List Item) (a b lo n : ℕ) → IsPair s a b →
    since_of s.plan.site.messages s.plan.site.cryptos b ≤ a → start_of s a ≤ lo → lo + n ≡ end_of s b →
    (hs : List (ℕ × List ℕ)) → packets_held hs ≡ map (carried_at s) (filter (is_kept kept) (range_with_len lo n)) →
    written_from (segment_at s kept a b) (map (carried_at s) (kept_in kept (start_of s a) lo)) hs
    ≡ all_of (packets_at s.clear (filter (is_let s kept a b) (filter (is_kept kept) (range_with_len lo n))))
unfolding written_from Written
written_is s laws kept a b lo zero pair since from all [] holds = refl
written_is s laws kept a b lo zero pair since from all (held ∷ more) holds = absurd (some_of_none _ _ holds)
written_is s laws kept a b lo (suc n) pair since from all hs holds =
    by_test (cases_Bool (is_kept kept lo))
    (λ more there. written_is s laws kept a b (lo + 1) n pair since (omega (arith, from)) (omega
    (arith, all)) more there)
  where
    by_test : (is_kept kept lo ≡ true) ⊎ (is_kept kept lo ≡ false) →
        ((more : List (ℕ × List ℕ)) → packets_held more ≡ map (carried_at s) (filter (is_kept kept) (range_with_len
        (lo + 1) n)) →
        Written s kept a b (lo + 1) n more) →
        written_from (segment_at s kept a b) (map (carried_at s) (kept_in kept (start_of s a) lo)) hs
        ≡ all_of (packets_at s.clear (filter (is_let s kept a b) (filter (is_kept kept) (range_with_len lo (suc n)))))
    by_test (inl is) next =
        rw is (written_kept s laws kept a b lo n pair since from all is hs (rw is at holds) next)
    by_test (inr is) next =
        rw is (ap (λ (js : List ℕ). written_from (segment_at s kept a b) (map (carried_at s) js) hs)
        (sym (kept_none kept (start_of s a) lo from is)) ∙ next hs (rw is at holds))

-- the numbers of the packets that are written between the messages
abbrev pub written_between : Setting → List Item → ℕ → ℕ → ℕ → Bool
written_between s kept a b j = is_written_between s.plan s.card.leaf s.clear kept j a b

abbrev pub opens : Setting → List Item → ℕ → ℕ → Bool
opens s kept a b = is_open s.plan s.card.leaf s.clear kept a b

filter_none : (f : ℕ → Bool) (js : List ℕ) → ((j : ℕ) → f j ≡ false) → filter f js ≡ []
filter_none f [] none = refl
filter_none f (j ∷ js) none = rw (none j) (filter_none f js none)

-- of a shut pair nothing is written, and of an open one what is let by
shut_pair : (s : Setting) (kept : List Item) (a b : ℕ) (js : List ℕ) → opens s kept a b ≡ false →
    filter (written_between s kept a b) js ≡ []
shut_pair s kept a b js shut = filter_none (written_between s kept a b) js (λ j. rw shut refl)

open_pair : (s : Setting) (kept : List Item) (a b : ℕ) (js : List ℕ) → opens s kept a b ≡ true →
    filter (written_between s kept a b) js ≡ filter (is_let s kept a b) js
open_pair s kept a b js opened = filter_agree (written_between s kept a b) (is_let s kept a b) (λ j. rw opened refl) js

-- what is written of the packets kept between them
abbrev pub pair_packets : Setting → List Item → ℕ → ℕ → List (List ℕ)
pair_packets s kept a b =
    packets_at s.clear (filter (written_between s kept a b) (kept_in kept (start_of s a) (end_of s b)))

-- what is held is written under the period's key
held_written : (s : Setting) (laws : AreLaws s) (kept : List Item) (a b : ℕ) (hs : List (ℕ × List ℕ)) → IsPair s a b →
    since_of s.plan.site.messages s.plan.site.cryptos b ≤ a →
    packets_held hs ≡ map (carried_at s) (kept_in kept (start_of s a) (end_of s b)) →
    written_from (record {
      first = told_by s a;
      last = told_by s b;
      word = under (period_key_of s.plan.site.master (told_by s a).period) (told_by s a).word (told_by s a).wrapped;
      ca = s.card.ca;
      ecm = s.plan.site.ecm;
      packets = packets_held hs;
    }) [] hs ≡ all_of (packets_at s.clear (filter (is_let s kept a b) (kept_in kept (start_of s a) (end_of s b))))
unfolding kept_in
held_written s laws kept a b hs pair since holds =
    ap (λ (word : List ℕ). written_from (record {
      first = told_by s a;
      last = told_by s b;
      word = word;
      ca = s.card.ca;
      ecm = s.plan.site.ecm;
      packets = packets_held hs;
    }) [] hs) (laws.word a (omega (arith, pair.below, pair.within)))
    ∙ (ap (λ (packets : List (List ℕ)). written_from (record {
      first = told_by s a;
      last = told_by s b;
      word = control_word_of s.plan.site.master (told_by s a).word;
      ca = s.card.ca;
      ecm = s.plan.site.ecm;
      packets = packets;
    }) [] hs) holds
    ∙ (ap (λ (js : List ℕ). written_from (segment_at s kept a b) (map (carried_at s) js) hs) (sym (nothing_in kept
    (start_of s a)))
    ∙ written_is s laws kept a b (start_of s a) (end_of s b - start_of s a) pair since (omega arith)
    (omega (arith, (starts_within s a b laws.range pair).0)) hs holds))

-- what is written between them, where all three conditions are judged
pair_by : (s : Setting) (laws : AreLaws s) (kept : List Item) (a b : ℕ) (stretch : Stretch) → IsPair s a b →
    packets_held (held_in stretch) ≡ map (carried_at s) (kept_in kept (start_of s a) (end_of s b)) →
    (since entitled few : Bool) → nat_le (since_of s.plan.site.messages s.plan.site.cryptos b) a ≡ since →
    nat_le (length (kept_in kept (start_of s a) (end_of s b))) 4096 ≡ few →
    (opens s kept a b ≡ (since && (entitled && few))) →
    (if since then segment_wrote s.card (tuning_at s) stretch (told_by s a) (told_by s b)
    (key_where s (told_by s a).period entitled) else all_of []) ≡ all_of (pair_packets s kept a b)
pair_by s laws kept a b stretch pair holds false entitled few before small opened =
    ap (λ (js : List ℕ). all_of (packets_at s.clear js)) (sym (shut_pair s kept a b (kept_in kept (start_of s a)
    (end_of s b)) opened))
pair_by s laws kept a b stretch pair holds true false few before small opened =
    ap (λ (js : List ℕ). all_of (packets_at s.clear js)) (sym (shut_pair s kept a b (kept_in kept (start_of s a)
    (end_of s b)) opened))
pair_by s laws kept a b stretch pair holds true true false before small opened =
    let many : nat_lt 4096 (length (held_in stretch)) ≡ true = grind (arith, nat_tests, small, long) in
    rw many (ap (λ (js : List ℕ). all_of (packets_at s.clear js))
    (sym (shut_pair s kept a b (kept_in kept (start_of s a) (end_of s b)) opened)))
  where
    long : length (held_in stretch) ≡ length (kept_in kept (start_of s a) (end_of s b))
    long = sym (length-map (held_in stretch) (λ held. held.1)) ∙ (ap length holds ∙ length-map (kept_in kept
        (start_of s a) (end_of s b)) (carried_at s))
pair_by s laws kept a b stretch pair holds true true true before small opened =
    let few : nat_lt 4096 (length (held_in stretch)) ≡ false = grind (arith, nat_tests, small, long) in
    rw few (held_written s laws kept a b (held_in stretch) pair (grind (arith, nat_tests, before)) holds
    ∙ ap (λ (js : List ℕ). all_of (packets_at s.clear js))
    (sym (open_pair s kept a b (kept_in kept (start_of s a) (end_of s b)) opened)))
  where
    long : length (held_in stretch) ≡ length (kept_in kept (start_of s a) (end_of s b))
    long = sym (length-map (held_in stretch) (λ held. held.1)) ∙ (ap length holds ∙ length-map (kept_in kept
        (start_of s a) (end_of s b)) (carried_at s))

-- so what is written between two messages is what they confirm
pub pair_writes : (s : Setting) (laws : AreLaws s) (kept : List Item) (a b : ℕ) (stretch : Stretch) → IsPair s a b →
    packets_held (held_in stretch) ≡ map (carried_at s) (kept_in kept (start_of s a) (end_of s b)) →
    key_at s.card stretch.before (told_by s a).period ≡ key_where s (told_by s a).period
    (is_entitled_before s.plan.site.height s.card.leaf (period_of s.plan (start_of s a)) a kept) →
    stretch_wrote s.card (tuning_at s) stretch (Some (told_by s a)) (told_by s b) ≡ all_of (pair_packets s kept a b)
unfolding is_open
pair_writes s laws kept a b stretch pair holds key =
    ap (λ (n : ℕ). if nat_le n (told_by s a).number then segment_wrote s.card (tuning_at s) stretch (told_by s a)
    (told_by s b)
    (key_at s.card stretch.before (told_by s a).period) else all_of []) (since_is s b)
    ∙ (ap (λ (n : ℕ). if nat_le (since_of s.plan.site.messages s.plan.site.cryptos b) n
    then segment_wrote s.card (tuning_at s) stretch (told_by s a) (told_by s b)
    (key_at s.card stretch.before (told_by s a).period) else all_of []) (number_is s a)
    ∙ (ap (λ (k : Option (List ℕ)). if nat_le (since_of s.plan.site.messages s.plan.site.cryptos b) a
    then segment_wrote s.card (tuning_at s) stretch (told_by s a) (told_by s b) k else all_of []) key
    ∙ pair_by s laws kept a b stretch pair holds (nat_le (since_of s.plan.site.messages s.plan.site.cryptos b) a)
    (is_entitled_before s.plan.site.height s.card.leaf (period_of s.plan (start_of s a)) a kept)
    (nat_le (length (kept_in kept (start_of s a) (end_of s b))) 4096) refl refl refl))
