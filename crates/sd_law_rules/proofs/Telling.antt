-- What a rule sees of the packets between two messages, by their rows.
use Rattle.std.proofs.Common.{subst, nat_lt, ◌++◌, ◌≡◌, refl, ℕ, zero, suc, ◌+◌, ◌-◌, ◌*◌, ◌<◌, ◌≤◌, ◌==◌, ◌&&◌, ◌||◌}
use Rattle.std.proofs.Common.{Bool, true, false, not, List, [], ◌∷◌, map, filter, length, take, drop, arith, sym, ap}
use Rattle.std.proofs.Common.{◌∙◌, inl, inr, ◌⊎◌, length-append, append_assoc, get_or}
use Rattle.std.specs.Prelude.{if◌then◌else◌}
use Rattle.std.specs.List.{range_with_len}
use Rattle.std.proofs.lemmas.Bool.{cases_lt, cases_Bool}
use Rattle.std.proofs.lemmas.List.{length-take-le, drop_more}
use Rattle.std.proofs.lemmas.Bool.Decides.{nat_tests}
use Rattle.std.proofs.lemmas.List.Elements.{All-get_or}
use Rattle.std.proofs.Math.Seq.{get_or-append_seam}
use Rattle.std.proofs.lemmas.Nat.{pow_pos}
use Rattle.sd_base.proofs.Ranges.{filter_range}
use Rattle.sd_packet.specs.Positions.{moved_by, position_of}
use Rattle.sd_packet.proofs.Positions.{more_packets, unmoved_is_none}
use Rattle.sd_message.specs.declared.ecm_part.Place.{Place}
use Rattle.sd_spec.specs.Plan.{Plan, IsPlan, word_of, closing_number, since_of}
use Rattle.sd_spec.specs.Kinds.{pat_in_force, has_moved, moved_pids, positional_pids}
use Rattle.sd_spec.specs.Refused.{IsSendable}
use Rattle.sd_spec.specs.Sent.{Item, Cat, Entitles, Controls, Carries}
use Rattle.sd_spec.specs.Messages.{message_at, places_after}
use Rattle.sd_spec.proofs.Schedule.{closing_needed, since_is_below, same_word}
use Rattle.sd_law_broadcast.specs.Numbered.{numbered_message}
use Rattle.sd_law_broadcast.specs.Packets.{IsWholePacket, AreWholePackets}
use Rattle.sd_law_broadcast.proofs.Clear.{accepted, each_clear}
use Rattle.sd_law_broadcast.proofs.Numbers.{numbered_before}
use Rattle.sd_law_losses.specs.Confirmed.{packets_at, packet_at, upto}
use Rattle.sd_law_losses.specs.Chosen.{chosen}
use Rattle.sd_law_losses.specs.Kept.{is_kept, kept_in, has_arrived}
use Rattle.sd_law_losses.proofs.Standing.{packet_stands, all_arrived}
use Rattle.sd_law_losses.proofs.Lawful.{setting, laws_hold}
use Rattle.sd_law_progress.specs.Progress.{things, messages_in}
use Rattle.sd_law_progress.proofs.Arrivals.{same_arrived}
use Rattle.sd_law_rules.specs.Rules.{sketches_between}
use Rattle.sd_law_rules.proofs.Rows.{and_false, Row, row_at, rows_in, packets_in, kept_rows, views, views_are}
use Rattle.sd_law_rules.proofs.Rows.{sketch_is}

-- the number of clear packets of a stretch
abbrev pub many : Plan → List (List ℕ) → ℕ → ℕ
many plan clear a = upto plan clear (a + 1) - a * plan.site.every

-- the rows of the stretch of message a
abbrev pub stretch_rows : Plan → List (List ℕ) → List Item → ℕ → List Row
stretch_rows plan clear kept a = rows_in clear kept (a * plan.site.every) (many plan clear a)

-- a rule sees what these show
pub sketches_are : (plan : Plan) (clear : List (List ℕ)) (kept : List Item) (a : ℕ) → IsPlan plan →
    IsSendable plan.site clear → AreWholePackets clear → a < closing_number plan.site (length clear) →
    sketches_between plan clear kept a
    ≡ views (word_of plan.site (a * plan.site.every)) (pat_in_force (take (a * plan.site.every) clear))
    (stretch_rows plan clear kept a)
unfolding kept_in
sketches_are plan clear kept a is all whole below =
    views_are plan.site clear kept (word_of plan.site low) low (many plan clear a) (omega (arith, inside)) (λ i from to.
    let within : i < length clear = omega (arith, to, inside) in
    let long : length (take i clear) ≡ i = length-take-le i clear (omega (arith, within)) in
    sketch_is plan.site (word_of plan.site low) (take i clear) (packet_at clear i)
    (All-get_or IsWholePacket clear i [] within whole)
    (accepted plan.site (take i clear) (packet_at clear i) (each_clear plan.site clear i all within)).clear
    (ap (word_of plan.site) long ∙ same_word plan.site plan.site.messages a (a + 1) i is.site since (omega arith) from
    (omega (arith, to, inside))))
  where
    low : ℕ
    low = a * plan.site.every

    inside : low < length clear
    inside = closing_needed plan.site (length clear) a is.site below

    since : since_of plan.site.messages plan.site.cryptos (a + 1) ≤ a
    since = omega (arith, since_is_below plan.site.messages plan.site.cryptos (a + 1) (omega arith))

-- how many packets are kept
pub kept_many : (clear : List (List ℕ)) (kept : List Item) (low n : ℕ) →
    length (filter (is_kept kept) (range_with_len low n)) ≡ length (kept_rows (rows_in clear kept low n))
kept_many clear kept low zero = refl
kept_many clear kept low (suc n) = elim (cases_Bool (is_kept kept low)) [
  | inl there ↦ rw there (ap suc (kept_many clear kept (low + 1) n))
  | inr lost ↦ rw lost (kept_many clear kept (low + 1) n)
]

-- the packets of the rows
pub row_packets : (clear : List (List ℕ)) (kept : List Item) (low n : ℕ) → low + n ≤ length clear →
    packets_in (rows_in clear kept low n) ≡ take n (drop low clear)
row_packets clear kept low zero within = refl
row_packets clear kept low (suc n) within =
    ap (λ (xs : List (List ℕ)). packet_at clear low ∷ xs) (row_packets clear kept (low + 1) n (omega (arith, within)))
    ∙ sym (ap (take (suc n)) (drop_more clear low [] (omega (arith, within))))

-- whether row i is kept
abbrev pub flag_at : List Row → ℕ → Bool
flag_at rows i = get_or (map (λ (r : Row). r.kept) rows) i true

-- the rows that packets were made of
pub rows_back : (pre : List (List ℕ)) (rows : List Row) (post : List (List ℕ)) (kept : List Item) →
    ((i : ℕ) → i < length rows → is_kept kept (length pre + i) ≡ flag_at rows i) →
    rows_in (pre ++ (packets_in rows ++ post)) kept (length pre) (length rows) ≡ rows
rows_back pre [] post kept flags = refl
rows_back pre (r ∷ rows) post kept flags =
    ap (λ (first : Row). first ∷ rows_in clear kept (length pre + 1) (length rows)) here
    ∙ ap (λ (rest : List Row). r ∷ rest)
    (ap (λ (xs : List (List ℕ)). rows_in xs kept (length pre + 1) (length rows)) shifted
    ∙ (ap (λ (n : ℕ). rows_in ((pre ++ r.packet ∷ []) ++ (packets_in rows ++ post)) kept n (length rows)) (sym long)
    ∙ rows_back (pre ++ r.packet ∷ []) rows post kept (λ i below.
    ap (is_kept kept) (omega (arith, long)) ∙ flags (suc i) (omega (arith, below)))))
  where
    clear : List (List ℕ)
    clear = pre ++ (packets_in (r ∷ rows) ++ post)

    shifted : clear ≡ (pre ++ r.packet ∷ []) ++ (packets_in rows ++ post)
    shifted = sym (append_assoc pre (r.packet ∷ []) (packets_in rows ++ post))

    long : length (pre ++ r.packet ∷ []) ≡ length pre + 1
    long = length-append pre (r.packet ∷ [])

    first_kept : is_kept kept (length pre) ≡ r.kept
    first_kept = ap (is_kept kept) (omega arith) ∙ flags 0 (omega arith)

    here : row_at clear kept (length pre) ≡ r
    here = ap (λ (b : Bool). record { kept = b; packet = packet_at clear (length pre) }) first_kept
        ∙ ap (λ (x : List ℕ). record { kept = r.kept; packet = x })
        (get_or-append_seam pre r.packet (packets_in rows ++ post) [])

-- all things but clear packets that fail a test
abbrev pub keeps : (ℕ → Bool) → Item → Bool
keeps g Cat = true
keeps g (Entitles emm) = true
keeps g (Controls part) = true
keeps g (Carries i x) = g i

pub chosen_by : (f : Item → Bool) (items : List Item) → chosen (map f items) items ≡ filter f items
unfolding chosen
chosen_by f [] = refl
chosen_by f (item ∷ items) = elim (cases_Bool (f item)) [
  | inl there ↦ rw there (ap (λ (xs : List Item). item ∷ xs) (chosen_by f items))
  | inr lost ↦ rw lost (chosen_by f items)
]

pub messages_stay : (g : ℕ → Bool) (items : List Item) → messages_in (filter (keeps g) items) ≡ messages_in items
messages_stay g [] = refl
messages_stay g (Cat ∷ items) = ap (λ (xs : List Item). Cat ∷ xs) (messages_stay g items)
messages_stay g (Entitles emm ∷ items) = ap (λ (xs : List Item). Entitles emm ∷ xs) (messages_stay g items)
messages_stay g (Controls part ∷ items) = ap (λ (xs : List Item). Controls part ∷ xs) (messages_stay g items)
messages_stay g (Carries i x ∷ items) = elim (cases_Bool (g i)) [
  | inl there ↦ rw there (messages_stay g items)
  | inr lost ↦ rw lost (messages_stay g items)
]

pub kept_by : (g : ℕ → Bool) (j : ℕ) (items : List Item) → is_kept (filter (keeps g) items) j ≡ (is_kept items j && g j)
kept_by g j [] = refl
kept_by g j (Cat ∷ items) = kept_by g j items
kept_by g j (Entitles emm ∷ items) = kept_by g j items
kept_by g j (Controls part ∷ items) = kept_by g j items
kept_by g j (Carries i x ∷ items) = by_test (i == j) refl (g i) refl (kept_by g j items)
  where
    later : List Item
    later = filter (keeps g) items

    by_test : (b : Bool) → (i == j) ≡ b → (c : Bool) → g i ≡ c → is_kept later j ≡ (is_kept items j && g j) →
        is_kept (if g i then Carries i x ∷ later else later) j ≡ ((i == j) || is_kept items j) && g j
    by_test true same true there rest =
        let at : i ≡ j = grind (arith, nat_tests, same) in
        let here : g j ≡ true = ap g (sym at) ∙ there in
        rw there (rw same (rw here refl))
    by_test true same false lost rest =
        let at : i ≡ j = grind (arith, nat_tests, same) in
        let here : g j ≡ false = ap g (sym at) ∙ lost in
        rw lost (rest ∙ (rw here (rw same (and_false (is_kept items j)))))
    by_test false other true there rest = rw there (rw other rest)
    by_test false other false lost rest = rw lost (rw other rest)

-- a choice that leaves out none but clear packets
pub all_arrive : (plan : Plan) (clear : List (List ℕ)) (g : ℕ → Bool) (a : ℕ) → IsPlan plan →
    IsSendable plan.site clear → AreWholePackets clear → a ≤ closing_number plan.site (length clear) →
    has_arrived (filter (keeps g) (things plan clear)) a ≡ true
all_arrive plan clear g a is all whole within =
    same_arrived (filter (keeps g) (things plan clear)) (things plan clear) a (messages_stay g (things plan clear))
    ∙ all_arrived (setting plan clear 0) (laws_hold plan clear 0 is all whole (pow_pos plan.site.height)) a within

pub all_are_kept : (plan : Plan) (clear : List (List ℕ)) (g : ℕ → Bool) (j : ℕ) → IsPlan plan → j < length clear →
    is_kept (filter (keeps g) (things plan clear)) j ≡ g j
all_are_kept plan clear g j is within =
    kept_by g j (things plan clear)
    ∙ ap (λ (b : Bool). b && g j) (packet_stands (setting plan clear 0) j is.site within)

-- the PIDs that have moved are those whose position isn't the first
has_moved_is : (before : List (List ℕ)) (pid : ℕ) → has_moved before pid ≡ not (position_of pid before == 15)
has_moved_is before pid = elim (cases_Bool (has_moved before pid)) [
  | inr stays ↦
      let same : position_of pid before ≡ 15 = (unmoved_is_none pid 15 before).1 stays in
      let is : (position_of pid before == 15) ≡ true = grind (arith, nat_tests, same) in
      stays ∙ rw is refl
  | inl moves ↦
      let is : (position_of pid before == 15) ≡ false = other (cases_Bool (position_of pid before == 15)) moves in
      moves ∙ rw is refl
]
  where
    other : ((position_of pid before == 15) ≡ true) ⊎ ((position_of pid before == 15) ≡ false) →
        has_moved before pid ≡ true → (position_of pid before == 15) ≡ false
    other (inr is) moves = is
    other (inl is) moves =
        let same : position_of pid before ≡ 15 = grind (arith, nat_tests, is) in
        let stays = (unmoved_is_none pid 15 before).0 same in
        absurd (cc (moves, stays))

-- packets that lead all PIDs to the same positions
abbrev pub AreLike : List (List ℕ) → List (List ℕ) → Type 0
AreLike xs ys = (q : ℕ) → 0x20 ≤ q → q ≤ 0x1FEF → position_of q xs ≡ position_of q ys

range_alike : (f g : ℕ → Bool) (a n : ℕ) → ((m : ℕ) → a ≤ m → m < a + n → f m ≡ g m) →
    filter f (range_with_len a n) ≡ filter g (range_with_len a n)
range_alike f g a n same = filter_range f g a n same

pub same_pids : (xs ys : List (List ℕ)) → AreLike xs ys → moved_pids xs ≡ moved_pids ys
unfolding moved_pids positional_pids
same_pids xs ys like = range_alike (has_moved xs) (has_moved ys) 0x20 0x1FD0 (λ q low high.
    has_moved_is xs q ∙ (ap (λ (n : ℕ). not (n == 15)) (like q low (omega (arith, high))) ∙ sym (has_moved_is ys q)))

places_alike : (f : ℕ → Bool) (g h : ℕ → Place) (a n : ℕ) → ((m : ℕ) → a ≤ m → m < a + n → g m ≡ h m) →
    map g (filter f (range_with_len a n)) ≡ map h (filter f (range_with_len a n))
places_alike f g h a zero same = refl
places_alike f g h a (suc n) same = by_test (f a) (places_alike f g h (a + 1) n
    (λ m low high. same m (omega (arith, low)) (omega (arith, high))))
  where
    by_test : (b : Bool) → map g (filter f (range_with_len (a + 1) n)) ≡ map h (filter f (range_with_len (a + 1) n)) →
        map g (if b then a ∷ filter f (range_with_len (a + 1) n) else filter f (range_with_len (a + 1) n))
        ≡ map h (if b then a ∷ filter f (range_with_len (a + 1) n) else filter f (range_with_len (a + 1) n))
    by_test false rest = rest
    by_test true rest = ap (λ (x : Place). x ∷ map g (filter f (range_with_len (a + 1) n)))
        (same a (omega arith) (omega arith))
        ∙ ap (λ (xs : List Place). h a ∷ xs) rest

same_places : (xs ys : List (List ℕ)) → AreLike xs ys → places_after xs ≡ places_after ys
unfolding places_after moved_pids positional_pids
same_places xs ys like =
    ap (map (λ pid. record { pid = pid; position = position_of pid xs })) (same_pids xs ys like)
    ∙ places_alike (has_moved ys) (λ pid. record { pid = pid; position = position_of pid xs })
    (λ pid. record { pid = pid; position = position_of pid ys }) 0x20 0x1FD0
    (λ q low high. ap (λ (n : ℕ). record { pid = q; position = n }) (like q low (omega (arith, high))))

-- so a message says the same after them
pub same_message : (plan : Plan) (xs ys : List (List ℕ)) (a k : ℕ) (closing : Bool) → AreLike xs ys →
    length xs ≡ length ys → message_at plan xs a k closing ≡ message_at plan ys a k closing
unfolding message_at
same_message plan xs ys a k closing like long = rw long (rw (same_places xs ys like) refl)

-- the last message, or one behind it
last_is : (plan : Plan) (clear : List (List ℕ)) (a : ℕ) → closing_number plan.site (length clear) ≤ a →
    numbered_message plan clear a ≡ message_at plan clear a (length clear - 1) true
unfolding numbered_message
last_is plan clear a above =
    let less : nat_lt a (closing_number plan.site (length clear)) ≡ false = grind (arith, nat_tests, above) in
    rw less refl

-- message b is the same of two streams that lead to the same positions before it, and at their ends
pub same_numbered : (plan : Plan) (xs ys : List (List ℕ)) (b : ℕ) → IsPlan plan → length xs ≡ length ys →
    AreLike (take (upto plan ys b) xs) (take (upto plan ys b) ys) → AreLike xs ys →
    numbered_message plan xs b ≡ numbered_message plan ys b
same_numbered plan xs ys b is long before all = elim (cases_lt b (closing_number plan.site (length ys))) [
  | inl below ↦
      let inside : b * plan.site.every < length ys = closing_needed plan.site (length ys) b is.site below in
      let at : upto plan ys b ≡ b * plan.site.every = omega (arith, inside) in
      numbered_before plan xs b (subst (λ (n : ℕ). b < closing_number plan.site n) (sym long) below)
      ∙ (same_message plan (take (b * plan.site.every) xs) (take (b * plan.site.every) ys) b (b * plan.site.every) false
      (subst (λ (n : ℕ). AreLike (take n xs) (take n ys)) at before)
      (length-take-le (b * plan.site.every) xs (omega (arith, inside, long))
      ∙ sym (length-take-le (b * plan.site.every) ys (omega (arith, inside))))
      ∙ sym (numbered_before plan ys b below))
  | inr above ↦
      last_is plan xs b (subst (λ (n : ℕ). closing_number plan.site n ≤ b) (sym long) above)
      ∙ (ap (λ (n : ℕ). message_at plan xs b (n - 1) true) long
      ∙ (same_message plan xs ys b (length ys - 1) true all long
      ∙ sym (last_is plan ys b above)))
]

-- positions go on alike
pub like_joined : (xs ys zs : List (List ℕ)) → AreLike xs ys → AreLike (xs ++ zs) (ys ++ zs)
like_joined xs ys zs like q low high =
    more_packets q 15 xs zs ∙ (ap (λ (x : ℕ). moved_by q x zs) (like q low high) ∙ sym (more_packets q 15 ys zs))

-- the packets of the kept rows
pub kept_packets : (clear : List (List ℕ)) (kept : List Item) (low n : ℕ) →
    packets_at clear (filter (is_kept kept) (range_with_len low n)) ≡ packets_in (kept_rows (rows_in clear kept low n))
kept_packets clear kept low zero = refl
kept_packets clear kept low (suc n) = elim (cases_Bool (is_kept kept low)) [
  | inl there ↦ rw there (ap (λ (xs : List (List ℕ)). packet_at clear low ∷ xs) (kept_packets clear kept (low + 1) n))
  | inr lost ↦ rw lost (kept_packets clear kept (low + 1) n)
]
