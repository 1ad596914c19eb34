-- Another broadcast of which a rule sees the same, and in which a packet has another position.
use Rattle.std.proofs.Common.{◌≡◌, refl, ℕ, suc, ◌+◌, ◌-◌, ◌*◌, ◌^◌, ◌<◌, ◌≤◌, Bool, true, false, List, [], ◌∷◌, ◌++◌}
use Rattle.std.proofs.Common.{map, filter, length, take, drop, arith, sym, ap, ◌∙◌, inl, inr, subst, Option, Some}
use Rattle.std.proofs.Common.{length-append, append_assoc, append-nil, get_or}
use Rattle.std.specs.Prelude.{◌≢◌, All, min}
use Rattle.std.specs.List.{range_with_len}
use Rattle.std.proofs.lemmas.List.FromFn.{length-range_with_len}
use Rattle.std.proofs.lemmas.Bool.{cases_lt, cases_eq}
use Rattle.std.proofs.lemmas.Bool.Decides.{nat_tests}
use Rattle.std.proofs.lemmas.List.{length-take-le, take-append-drop, take_at, get_or_append_left, map-append}
use Rattle.std.proofs.lemmas.List.{length-map}
use Rattle.std.proofs.lemmas.List.Elements.{All-append, All-weaker, filter-append}
use Rattle.std.proofs.Math.Seq.{take-add, get_or-append_seam}
use Rattle.sd_base.proofs.Ranges.{range_parts}
use Rattle.sd_packet.specs.Header.{pid_of}
use Rattle.sd_packet.specs.Positions.{is_placed, moved_by, position_of}
use Rattle.sd_packet.proofs.Positions.{more_packets, higher_start}
use Rattle.sd_site_cards.specs.SiteFields.{SiteFields}
use Rattle.sd_spec.specs.Plan.{Plan, IsPlan, word_of, closing_number}
use Rattle.sd_spec.specs.Kinds.{kind_of, is_scrambled, pat_in_force}
use Rattle.sd_spec.specs.Refused.{IsClear, IsSendable, is_reserved_pid}
use Rattle.sd_spec.specs.Sent.{Item}
use Rattle.sd_spec.specs.Messages.{message_at}
use Rattle.sd_spec.specs.declared.kind.Kind.{Kind}
use Rattle.sd_spec.specs.declared.kind.Kind.TheVariants.{Passed, Pmt, Scrambled}
use Rattle.sd_spec.proofs.Schedule.{closing_needed}
use Rattle.sd_law_broadcast.specs.Packets.{IsWholePacket, AreWholePackets}
use Rattle.sd_law_broadcast.specs.Numbered.{numbered_message}
use Rattle.sd_law_broadcast.proofs.Carrying.{kind_placed}
use Rattle.sd_law_broadcast.proofs.Clear.{accepted, each_clear, clear_short, clear_words, clear_pids}
use Rattle.sd_law_broadcast.proofs.Numbers.{numbered_before}
use Rattle.sd_law_broadcast.proofs.Sendable.{IsRight, clear_exactly, clear_sendable}
use Rattle.sd_law_losses.specs.Kept.{is_kept, kept_in}
use Rattle.sd_law_losses.specs.Confirmed.{packet_at, upto, tracked_position, is_traced}
use Rattle.sd_law_losses.proofs.Tracking.{near_below}
use Rattle.sd_law_losses.proofs.Lists.{split_all}
use Rattle.sd_law_progress.specs.Progress.{things}
use Rattle.sd_law_rules.specs.Rules.{Sketch, Judge, IsBetween, IsSoundRule, rule_told, sketches_between}
use Rattle.sd_law_rules.proofs.Rows.{packets_joined, Row, row_at, rows_in, packets_in, kept_rows, stays, staying, views}
use Rattle.sd_law_rules.proofs.Rows.{views_stay, pat_after, pat_stays, kind_is, kind_with}
use Rattle.sd_law_rules.proofs.Telling.{like_joined, same_numbered, kept_packets, many, stretch_rows}
use Rattle.sd_law_rules.proofs.Telling.{sketches_are, kept_many, row_packets, flag_at, rows_back, keeps, chosen_by}
use Rattle.sd_law_rules.proofs.Telling.{all_arrive, all_are_kept, AreLike, same_pids}
use Rattle.sd_law_rules.proofs.Quiet.{lost_long, IsQuiet, fill_quiet, quiet_locals, quiet_pat, lost_rows}
use Rattle.sd_law_rules.proofs.Quiet.{lost_packets, none_kept, lost_views, views_then, pat_joined, pat_then}
use Rattle.sd_law_rules.proofs.Moving.{all_stay, staying_lead, others_lead, lost_lead, staying_few, staying_kept}
use Rattle.sd_law_rules.proofs.Filling.{fill, fill_length, fill_leads, fill_rests}
use Rattle.sd_law_rules.proofs.Clearing.{AreLocal, locals_of, locals_cut, locals_joined, locals_stay, sendable_of}

not_passed : (kind : Kind) → is_scrambled kind ≡ true → (kind ≡ Passed → ⊥)
not_passed Passed veiled same = absurd (cc veiled)
not_passed Pmt veiled same = absurd (cc veiled)
not_passed Scrambled veiled same = absurd (cc same)

module _ (plan : Plan) (is : IsPlan plan) (clear : List (List ℕ)) (kept : List Item) (a j : ℕ)
    (between : IsBetween IsSendable plan clear kept a j) where
  abbrev low : ℕ
  low = a * plan.site.every

  abbrev n : ℕ
  n = many plan clear a

  abbrev x : List ℕ
  x = packet_at clear j

  abbrev p : ℕ
  p = pid_of x

  abbrev pre : List (List ℕ)
  pre = take low clear

  abbrev rows : List Row
  rows = stretch_rows plan clear kept a

  abbrev post : List (List ℕ)
  post = drop n (drop low clear)

  abbrev start : ℕ
  start = position_of p pre

  inside : low < length clear
  inside = closing_needed plan.site (length clear) a is.site between.below

  in_reach : low + n ≤ length clear
  in_reach = omega (arith, inside)

  grown : (a + 1) * plan.site.every ≡ a * plan.site.every + plan.site.every
  grown = grind arith

  high_is : upto plan clear (a + 1) ≡ low + n
  high_is = omega (arith, inside, grown)

  long : length pre ≡ low
  long = length-take-le low clear (omega (arith, inside))

  rows_long : length rows ≡ n
  rows_long = length-map (range_with_len low n) (row_at clear kept) ∙ length-range_with_len low n

  whole_is : clear ≡ pre ++ (packets_in rows ++ post)
  whole_is = sym (ap (λ (ys : List (List ℕ)). pre ++ ys)
      (ap (λ (zs : List (List ℕ)). zs ++ post) (row_packets clear kept low n in_reach)
      ∙ take-append-drop n (drop low clear)) ∙ take-append-drop low clear)

  pub within : j < length clear
  within = omega (arith, between.to)

  pub placed : is_placed x ≡ true
  placed = kind_placed (take j clear) x (not_passed (kind_of (take j clear) x) between.veiled)

  pub p_low : 0x20 ≤ p
  p_low = grind (arith, nat_tests, placed)

  pub p_high : p ≤ 0x1FEF
  p_high = grind (arith, nat_tests, placed)

  untaken : is_reserved_pid plan.site p ≡ false
  untaken = (accepted plan.site (take j clear) x (each_clear plan.site clear j between.such within)).untaken

  -- where the kept packets lead the PID, and where all do
  abbrev tracked : ℕ
  tracked = moved_by p start (packets_in (staying p rows))

  abbrev ended : ℕ
  ended = moved_by p start (packets_in rows)

  -- how many packets of the PID are lost
  abbrev lost : ℕ
  lost = length rows - length (staying p rows)

  reach : ended ≤ tracked + 16 * lost
  reach = omega (arith, lost_lead p start start 0 rows (omega arith), staying_few p rows)

  -- so many lost packets of the PID first, that raise it by 16 each; then what is kept of it and all others; then the
  -- rest of the lost ones
  abbrev front : ℕ → List (List ℕ)
  front c = fill p c start (start + 16 * c)

  abbrev back : ℕ → List (List ℕ)
  back c = fill p (lost - c) (tracked + 16 * c) ended

  abbrev world : ℕ → List Row
  world c = lost_rows (front c) ++ (staying p rows ++ lost_rows (back c))

  abbrev stream : ℕ → List (List ℕ)
  stream c = pre ++ (packets_in (world c) ++ post)

  abbrev IsFit : ℕ → Type 0
  IsFit c = tracked + 16 * c ≤ ended

  some_lost : (c : ℕ) → IsFit c → c ≤ lost
  some_lost c fits = omega (arith, fits, reach)

  packets_are : (c : ℕ) → packets_in (world c) ≡ front c ++ (packets_in (staying p rows) ++ back c)
  packets_are c =
      packets_joined (lost_rows (front c)) (staying p rows ++ lost_rows (back c))
      ∙ (ap (λ (xs : List (List ℕ)). xs ++ packets_in (staying p rows ++ lost_rows (back c))) (lost_packets (front c))
      ∙ ap (λ (ys : List (List ℕ)). front c ++ ys) (packets_joined (staying p rows) (lost_rows (back c))
      ∙ ap (λ (ys : List (List ℕ)). packets_in (staying p rows) ++ ys) (lost_packets (back c))))

  front_leads : (c : ℕ) → moved_by p start (front c) ≡ start + 16 * c
  front_leads c = fill_leads p c start (start + 16 * c) (omega (arith, p_high)) (omega arith) (omega arith)

  own_leads : (c : ℕ) → IsFit c →
      moved_by p start (front c ++ (packets_in (staying p rows) ++ back c)) ≡ ended
  own_leads c fits =
      more_packets p start (front c) (packets_in (staying p rows) ++ back c)
      ∙ (ap (λ (y : ℕ). moved_by p y (packets_in (staying p rows) ++ back c)) (front_leads c)
      ∙ (more_packets p (start + 16 * c) (packets_in (staying p rows)) (back c)
      ∙ (ap (λ (y : ℕ). moved_by p y (back c))
      (higher_start p start (16 * c) (packets_in (staying p rows)) (omega arith))
      ∙ fill_leads p (lost - c) (tracked + 16 * c) ended (omega (arith, p_high)) fits
      (omega (arith, reach, some_lost c fits)))))

  others_too : (c q y : ℕ) → q ≤ 0x1FEF → p ≢ q →
      moved_by q y (front c ++ (packets_in (staying p rows) ++ back c)) ≡ moved_by q y (packets_in rows)
  others_too c q y high other =
      more_packets q y (front c) (packets_in (staying p rows) ++ back c)
      ∙ (ap (λ (z : ℕ). moved_by q z (packets_in (staying p rows) ++ back c))
      (fill_rests p c start (start + 16 * c) q y (omega (arith, p_high)) (omega (arith, high)) other)
      ∙ (more_packets q y (packets_in (staying p rows)) (back c)
      ∙ (fill_rests p (lost - c) (tracked + 16 * c) ended q (moved_by q y (packets_in (staying p rows)))
      (omega (arith, p_high)) (omega (arith, high)) other
      ∙ others_lead p q other y rows)))

  all_lead : (c : ℕ) → IsFit c → (q : ℕ) → q ≤ 0x1FEF →
      moved_by q (position_of q pre) (front c ++ (packets_in (staying p rows) ++ back c))
      ≡ moved_by q (position_of q pre) (packets_in rows)
  all_lead c fits q high = elim (cases_eq p q) [
    | inl same ↦ subst (λ (r : ℕ). moved_by r (position_of r pre) (front c ++ (packets_in (staying p rows) ++ back c))
        ≡ moved_by r (position_of r pre) (packets_in rows)) same (own_leads c fits)
    | inr other ↦ others_too c q (position_of q pre) high other
  ]

  like_mid : (c : ℕ) → IsFit c → AreLike (pre ++ packets_in (world c)) (pre ++ packets_in rows)
  like_mid c fits q above high =
      more_packets q 15 pre (packets_in (world c))
      ∙ (ap (moved_by q (position_of q pre)) (packets_are c)
      ∙ (all_lead c fits q high ∙ sym (more_packets q 15 pre (packets_in rows))))

  stream_is : (c : ℕ) → stream c ≡ (pre ++ packets_in (world c)) ++ post
  stream_is c = sym (append_assoc pre (packets_in (world c)) post)

  clear_parts : clear ≡ (pre ++ packets_in rows) ++ post
  clear_parts = whole_is ∙ sym (append_assoc pre (packets_in rows) post)

  like_all : (c : ℕ) → IsFit c → AreLike (stream c) clear
  like_all c fits q above high =
      ap (position_of q) (stream_is c)
      ∙ (like_joined (pre ++ packets_in (world c)) (pre ++ packets_in rows) post (like_mid c fits) q above high
      ∙ sym (ap (position_of q) clear_parts))

  world_long : (c : ℕ) → IsFit c → length (world c) ≡ n
  world_long c fits =
      omega (
        arith,
        length-append (lost_rows (front c)) (staying p rows ++ lost_rows (back c)),
        length-append (staying p rows) (lost_rows (back c)),
        lost_long (front c),
        lost_long (back c),
        fill_length p c start (start + 16 * c),
        fill_length p (lost - c) (tracked + 16 * c) ended,
        some_lost c fits,
        staying_few p rows,
        rows_long,
      )

  packets_long : (c : ℕ) → IsFit c → length (packets_in (world c)) ≡ n
  packets_long c fits = length-map (world c) (λ (r : Row). r.packet) ∙ world_long c fits

  mid_long : (c : ℕ) → IsFit c → length (pre ++ packets_in (world c)) ≡ low + n
  mid_long c fits = omega (arith, length-append pre (packets_in (world c)), long, packets_long c fits)

  old_long : length (pre ++ packets_in rows) ≡ low + n
  old_long = omega (
    arith,
    length-append pre (packets_in rows),
    long,
    length-map rows (λ (r : Row). r.packet),
    rows_long,
  )

  stream_long : (c : ℕ) → IsFit c → length (stream c) ≡ length clear
  stream_long c fits = omega (
    arith,
    ap length (stream_is c),
    ap length clear_parts,
    length-append (pre ++ packets_in (world c)) post,
    length-append (pre ++ packets_in rows) post,
    mid_long c fits,
    old_long,
  )

  -- the other stream before the later message
  taken : (c : ℕ) → IsFit c → take (low + n) (stream c) ≡ pre ++ packets_in (world c)
  taken c fits = ap (take (low + n)) (stream_is c)
      ∙ take_at (pre ++ packets_in (world c)) post (low + n) (mid_long c fits)

  old_taken : take (low + n) clear ≡ pre ++ packets_in rows
  old_taken = ap (take (low + n)) clear_parts ∙ take_at (pre ++ packets_in rows) post (low + n) old_long

  like_taken : (c : ℕ) → IsFit c →
      AreLike (take (upto plan clear (a + 1)) (stream c)) (take (upto plan clear (a + 1)) clear)
  like_taken c fits q above high =
      ap (λ (k : ℕ). position_of q (take k (stream c))) high_is
      ∙ (ap (position_of q) (taken c fits)
      ∙ (like_mid c fits q above high
      ∙ (sym (ap (position_of q) old_taken)
      ∙ sym (ap (λ (k : ℕ). position_of q (take k clear)) high_is))))

  begins : (c : ℕ) → take low (stream c) ≡ pre
  begins c = take_at pre (packets_in (world c) ++ post) low long

  below_too : (c : ℕ) → IsFit c → a < closing_number plan.site (length (stream c))
  below_too c fits = subst (λ (k : ℕ). a < closing_number plan.site k) (sym (stream_long c fits)) between.below

  -- both messages are the same
  first_same : (c : ℕ) → IsFit c → numbered_message plan (stream c) a ≡ numbered_message plan clear a
  first_same c fits =
      numbered_before plan (stream c) a (below_too c fits)
      ∙ (ap (λ (xs : List (List ℕ)). message_at plan xs a low false) (begins c)
      ∙ sym (numbered_before plan clear a between.below))

  next_same : (c : ℕ) → IsFit c → numbered_message plan (stream c) (a + 1) ≡ numbered_message plan clear (a + 1)
  next_same c fits =
      same_numbered plan (stream c) clear (a + 1) is (stream_long c fits) (like_taken c fits) (like_all c fits)

  -- what is put in breaks no rule
  front_quiet : (c : ℕ) → All (IsQuiet plan.site) (front c)
  front_quiet c = fill_quiet plan.site p c start (start + 16 * c) is.site (omega (arith, p_high)) (omega (arith, p_low))
      untaken

  back_quiet : (c : ℕ) → All (IsQuiet plan.site) (back c)
  back_quiet c = fill_quiet plan.site p (lost - c) (tracked + 16 * c) ended is.site (omega (arith, p_high))
      (omega (arith, p_low)) untaken

  abbrev pat : Option (List ℕ)
  pat = pat_in_force pre

  some_pid : 0 < p
  some_pid = omega (arith, p_low)

  world_pat : (c : ℕ) → pat_after pat (packets_in (world c)) ≡ pat_after pat (packets_in rows)
  world_pat c =
      ap (pat_after pat) (packets_are c)
      ∙ (pat_then pat (front c) (packets_in (staying p rows) ++ back c)
      ∙ (ap (λ (q : Option (List ℕ)). pat_after q (packets_in (staying p rows) ++ back c))
      (quiet_pat plan.site pat (front c) (front_quiet c))
      ∙ (pat_then pat (packets_in (staying p rows)) (back c)
      ∙ (quiet_pat plan.site (pat_after pat (packets_in (staying p rows))) (back c) (back_quiet c)
      ∙ pat_stays p some_pid pat rows))))

  abbrev no_pat_yet : Option (List ℕ)
  no_pat_yet = pat_in_force []

  old_locals : AreLocal plan.site no_pat_yet (pre ++ (packets_in rows ++ post))
  old_locals = subst (AreLocal plan.site no_pat_yet) whole_is (locals_of plan.site [] clear between.such)

  pat_at_start : pat_after no_pat_yet pre ≡ pat
  pat_at_start = sym (pat_joined [] pre)

  world_locals : (c : ℕ) → AreLocal plan.site pat (packets_in rows) → AreLocal plan.site pat (packets_in (world c))
  world_locals c are =
      subst (AreLocal plan.site pat) (sym (packets_are c))
      (locals_joined plan.site pat (front c) (packets_in (staying p rows) ++ back c)
      (quiet_locals plan.site pat (front c) (front_quiet c))
      (subst (λ (q : Option (List ℕ)). AreLocal plan.site q (packets_in (staying p rows) ++ back c))
      (sym (quiet_pat plan.site pat (front c) (front_quiet c)))
      (locals_joined plan.site pat (packets_in (staying p rows)) (back c)
      (locals_stay plan.site p some_pid pat rows are)
      (quiet_locals plan.site (pat_after pat (packets_in (staying p rows))) (back c) (back_quiet c)))))

  new_locals : (c : ℕ) → AreLocal plan.site no_pat_yet (stream c)
  new_locals c =
      let all = locals_cut plan.site no_pat_yet pre (packets_in rows ++ post) old_locals in
      let rest = locals_cut plan.site pat (packets_in rows) post
      (subst (λ (q : Option (List ℕ)). AreLocal plan.site q (packets_in rows ++ post)) pat_at_start all.1) in
      locals_joined plan.site no_pat_yet pre (packets_in (world c) ++ post) all.0
      (subst (λ (q : Option (List ℕ)). AreLocal plan.site q (packets_in (world c) ++ post)) (sym pat_at_start)
      (locals_joined plan.site pat (packets_in (world c)) post (world_locals c rest.0)
      (subst (λ (q : Option (List ℕ)). AreLocal plan.site q post) (sym (world_pat c)) rest.1)))

  -- so the other stream can be sent too
  pub new_sendable : (c : ℕ) → IsFit c → IsSendable plan.site (stream c)
  new_sendable c fits =
      sendable_of plan.site [] (stream c) (new_locals c)
      (subst (λ (k : ℕ). k < 2 ^ 32) (sym (stream_long c fits)) (clear_short plan.site clear between.such))
      (subst (λ (ps : List ℕ). length ps ≤ 256) (sym (same_pids (stream c) clear (like_all c fits)))
      (clear_pids plan.site clear between.such))
      (λ k below. clear_words plan.site clear k between.such (omega (arith, below, stream_long c fits)))

  -- what holds of the packets of the one, and of what is put in, holds of those of the other
  new_all : (P : List ℕ → Type 0) → ((y : List ℕ) → IsQuiet plan.site y → P y) → All P clear → (c : ℕ) →
      All P (stream c)
  new_all P put old c =
      let all = split_all P pre (packets_in rows ++ post) (subst (All P) whole_is old) in
      let rest = split_all P (packets_in rows) post all.1 in
      All-append P pre (packets_in (world c) ++ post) all.0
      (All-append P (packets_in (world c)) post
      (subst (All P) (sym (packets_are c))
      (All-append P (front c) (packets_in (staying p rows) ++ back c)
      (All-weaker (IsQuiet plan.site) P put (front c) (front_quiet c))
      (All-append P (packets_in (staying p rows)) (back c) (all_stay P p rows rest.0)
      (All-weaker (IsQuiet plan.site) P put (back c) (back_quiet c)))))
      rest.1)

  new_whole : (c : ℕ) → AreWholePackets (stream c)
  new_whole = new_all IsWholePacket (λ y quiet. quiet.whole) between.whole

  pub new_right : All IsRight clear → (c : ℕ) → All IsRight (stream c)
  new_right = new_all IsRight (λ y quiet. quiet.right)

  -- what is kept of it
  abbrev flags : ℕ → ℕ → Bool
  flags c i = flag_at (world c) (i - low)

  abbrev arrived_of : ℕ → List Item
  arrived_of c = filter (keeps (flags c)) (things plan (stream c))

  world_flags : (c : ℕ) → IsFit c → (i : ℕ) → i < length (world c) →
      is_kept (arrived_of c) (length pre + i) ≡ flag_at (world c) i
  world_flags c fits i below =
      all_are_kept plan (stream c) (flags c) (length pre + i) is
      (omega (arith, below, world_long c fits, stream_long c fits, in_reach, long))
      ∙ ap (flag_at (world c)) (omega (arith, long))

  many_same : (c : ℕ) → IsFit c → many plan (stream c) a ≡ n
  many_same c fits = ap (λ (k : ℕ). min ((a + 1) * plan.site.every) k - low) (stream_long c fits)

  rows_same : (c : ℕ) → IsFit c → stretch_rows plan (stream c) (arrived_of c) a ≡ world c
  rows_same c fits =
      ap (rows_in (stream c) (arrived_of c) low) (many_same c fits ∙ sym (world_long c fits))
      ∙ (ap (λ (k : ℕ). rows_in (stream c) (arrived_of c) k (length (world c))) (sym long)
      ∙ rows_back pre (world c) post (arrived_of c) (world_flags c fits))

  -- so a rule sees the same
  world_views : (w c : ℕ) → views w pat (world c) ≡ views w pat rows
  world_views w c =
      lost_views plan.site w pat (front c) (staying p rows ++ lost_rows (back c)) (front_quiet c)
      ∙ (views_then w pat (staying p rows) (lost_rows (back c))
      ∙ (ap (λ (vs : List Sketch). views w pat (staying p rows) ++ vs)
      (ap (views w (pat_after pat (packets_in (staying p rows)))) (sym (append-nil (lost_rows (back c))))
      ∙ lost_views plan.site w (pat_after pat (packets_in (staying p rows))) (back c) [] (back_quiet c))
      ∙ (append-nil (views w pat (staying p rows))
      ∙ views_stay p some_pid w pat rows)))

  sketches_same : (c : ℕ) → IsFit c →
      sketches_between plan (stream c) (arrived_of c) a ≡ sketches_between plan clear kept a
  sketches_same c fits =
      sketches_are plan (stream c) (arrived_of c) a is (new_sendable c fits) (new_whole c) (below_too c fits)
      ∙ (ap (λ (xs : List (List ℕ)). views (word_of plan.site low) (pat_in_force xs)
      (stretch_rows plan (stream c) (arrived_of c) a)) (begins c)
      ∙ (ap (views (word_of plan.site low) pat) (rows_same c fits)
      ∙ (world_views (word_of plan.site low) c
      ∙ sym (sketches_are plan clear kept a is between.such between.whole between.below))))

  -- the packet in it
  abbrev d : ℕ
  d = j - low

  abbrev first : List Row
  first = rows_in clear kept low d

  abbrev last : List Row
  last = rows_in clear kept (j + 1) (n - d - 1)

  abbrev row : Row
  row = row_at clear kept j

  at : low + d ≡ j
  at = omega (arith, between.from)

  inner : d < n
  inner = omega (arith, between.from, between.to, high_is)

  split : rows ≡ first ++ (row ∷ last)
  split =
      let all : n ≡ d + suc (n - d - 1) = omega (arith, inner) in
      ap (rows_in clear kept low) all
      ∙ (ap (map (row_at clear kept)) (range_parts low d (suc (n - d - 1)))
      ∙ (map-append (row_at clear kept) (range_with_len low d) (range_with_len (low + d) (suc (n - d - 1)))
      ∙ ap (λ (k : ℕ). first ++ rows_in clear kept k (suc (n - d - 1))) at))

  stays_there : staying p (row ∷ last) ≡ row ∷ staying p last
  stays_there = rw (between.there) refl

  abbrev ahead : ℕ → List Row
  ahead c = lost_rows (front c) ++ staying p first

  abbrev behind : ℕ → List Row
  behind c = staying p last ++ lost_rows (back c)

  world_split : (c : ℕ) → world c ≡ ahead c ++ (row ∷ behind c)
  world_split c =
      ap (λ (rs : List Row). lost_rows (front c) ++ (rs ++ lost_rows (back c)))
      (ap (staying p) split ∙ (filter-append (stays p) first (row ∷ last)
      ∙ ap (λ (rs : List Row). staying p first ++ rs) stays_there))
      ∙ (ap (λ (rs : List Row). lost_rows (front c) ++ rs)
      (append_assoc (staying p first) (row ∷ staying p last) (lost_rows (back c)))
      ∙ sym (append_assoc (lost_rows (front c)) (staying p first) (row ∷ behind c)))

  abbrev place : ℕ → ℕ
  place c = low + length (ahead c)

  abbrev tail : ℕ → List (List ℕ)
  tail c = packets_in (behind c) ++ post

  stream_ahead : (c : ℕ) → stream c ≡ pre ++ (packets_in (ahead c) ++ (x ∷ tail c))
  stream_ahead c =
      ap (λ (ys : List (List ℕ)). pre ++ (ys ++ post))
      (ap packets_in (world_split c) ∙ packets_joined (ahead c) (row ∷ behind c))
      ∙ ap (λ (ys : List (List ℕ)). pre ++ ys) (append_assoc (packets_in (ahead c)) (x ∷ packets_in (behind c)) post)

  stream_at : (c : ℕ) → stream c ≡ (pre ++ packets_in (ahead c)) ++ (x ∷ tail c)
  stream_at c = stream_ahead c ∙ sym (append_assoc pre (packets_in (ahead c)) (x ∷ tail c))

  ahead_long : (c : ℕ) → length (pre ++ packets_in (ahead c)) ≡ place c
  ahead_long c = omega (
    arith,
    length-append pre (packets_in (ahead c)),
    length-map (ahead c) (λ (r : Row). r.packet),
    long,
  )

  packet_same : (c : ℕ) → packet_at (stream c) (place c) ≡ x
  packet_same c =
      ap (λ (k : ℕ). packet_at (stream c) k) (sym (ahead_long c))
      ∙ (ap (λ (xs : List (List ℕ)). get_or xs (length (pre ++ packets_in (ahead c))) []) (stream_at c)
      ∙ get_or-append_seam (pre ++ packets_in (ahead c)) x (tail c) [])

  before_same : (c : ℕ) → take (place c) (stream c) ≡ pre ++ packets_in (ahead c)
  before_same c = ap (take (place c)) (stream_at c)
      ∙ take_at (pre ++ packets_in (ahead c)) (x ∷ tail c) (place c) (ahead_long c)

  ahead_packets : (c : ℕ) → packets_in (ahead c) ≡ front c ++ packets_in (staying p first)
  ahead_packets c = packets_joined (lost_rows (front c)) (staying p first)
      ∙ ap (λ (xs : List (List ℕ)). xs ++ packets_in (staying p first)) (lost_packets (front c))

  old_before : take j clear ≡ pre ++ packets_in first
  old_before =
      ap (λ (k : ℕ). take k clear) (sym at)
      ∙ (take-add low d clear
      ∙ ap (λ (ys : List (List ℕ)). pre ++ ys) (sym (row_packets clear kept low d (omega (arith, inner, in_reach)))))

  pat_here : (c : ℕ) → pat_in_force (take (place c) (stream c)) ≡ pat_in_force (take j clear)
  pat_here c =
      ap pat_in_force (before_same c)
      ∙ (pat_joined pre (packets_in (ahead c))
      ∙ (ap (pat_after pat) (ahead_packets c)
      ∙ (pat_then pat (front c) (packets_in (staying p first))
      ∙ (ap (λ (q : Option (List ℕ)). pat_after q (packets_in (staying p first)))
      (quiet_pat plan.site pat (front c) (front_quiet c))
      ∙ (pat_stays p some_pid pat first
      ∙ (sym (pat_joined pre (packets_in first)) ∙ sym (ap pat_in_force old_before)))))))

  kind_same : (c : ℕ) → kind_of (take (place c) (stream c)) (packet_at (stream c) (place c)) ≡ kind_of (take j clear) x
  kind_same c =
      ap (kind_of (take (place c) (stream c))) (packet_same c)
      ∙ (kind_is (take (place c) (stream c)) x
      ∙ (ap (λ (q : Option (List ℕ)). kind_with q x) (pat_here c)
      ∙ sym (kind_is (take j clear) x)))

  ahead_below : (c : ℕ) → length (ahead c) < length (world c)
  ahead_below c = omega (arith, ap length (world_split c), length-append (ahead c) (row ∷ behind c))

  kept_here : (c : ℕ) → IsFit c → is_kept (arrived_of c) (place c) ≡ true
  kept_here c fits =
      ap (λ (k : ℕ). is_kept (arrived_of c) (k + length (ahead c))) (sym long)
      ∙ (world_flags c fits (length (ahead c)) (ahead_below c)
      ∙ (ap (λ (rs : List Row). flag_at rs (length (ahead c))) (world_split c)
      ∙ (ap (λ (bs : List Bool). get_or bs (length (ahead c)) true)
      (map-append (λ (r : Row). r.kept) (ahead c) (row ∷ behind c))
      ∙ (ap (λ (k : ℕ). get_or (map (λ (r : Row). r.kept) (ahead c)
      ++ (row.kept ∷ map (λ (r : Row). r.kept) (behind c)))
      k true)
      (sym (length-map (ahead c) (λ (r : Row). r.kept)))
      ∙ (get_or-append_seam (map (λ (r : Row). r.kept) (ahead c)) row.kept (map (λ (r : Row). r.kept) (behind c)) true
      ∙ between.there)))))

  ahead_flags : (c : ℕ) → IsFit c → (i : ℕ) → i < length (ahead c) →
      is_kept (arrived_of c) (length pre + i) ≡ flag_at (ahead c) i
  ahead_flags c fits i below =
      world_flags c fits i (omega (arith, below, ahead_below c))
      ∙ (ap (λ (rs : List Row). flag_at rs i) (world_split c)
      ∙ (ap (λ (bs : List Bool). get_or bs i true) (map-append (λ (r : Row). r.kept) (ahead c) (row ∷ behind c))
      ∙ get_or_append_left (map (λ (r : Row). r.kept) (ahead c)) (map (λ (r : Row). r.kept) (row ∷ behind c)) true i
      (omega (arith, below, length-map (ahead c) (λ (r : Row). r.kept)))))

  ahead_rows : (c : ℕ) → IsFit c → rows_in (stream c) (arrived_of c) low (length (ahead c)) ≡ ahead c
  ahead_rows c fits =
      ap (λ (xs : List (List ℕ)). rows_in xs (arrived_of c) low (length (ahead c))) (stream_ahead c)
      ∙ (ap (λ (k : ℕ). rows_in (pre ++ (packets_in (ahead c) ++ (x ∷ tail c))) (arrived_of c) k (length (ahead c)))
      (sym long)
      ∙ rows_back pre (ahead c) (x ∷ tail c) (arrived_of c) (ahead_flags c fits))

  kept_ahead : (c : ℕ) → kept_rows (ahead c) ≡ kept_rows first
  kept_ahead c = filter-append (λ (r : Row). r.kept) (lost_rows (front c)) (staying p first)
      ∙ (ap (λ (rs : List Row). rs ++ kept_rows (staying p first)) (none_kept (front c)) ∙ staying_kept p first)

  -- its number among those that are kept
  index_same : (c : ℕ) → IsFit c →
      length (kept_in (arrived_of c) low (place c)) ≡ length (kept_in kept low j)
  unfolding kept_in
  index_same c fits =
      ap (λ (k : ℕ). length (filter (is_kept (arrived_of c)) (range_with_len low k))) (omega arith)
      ∙ (kept_many (stream c) (arrived_of c) low (length (ahead c))
      ∙ (ap (λ (rs : List Row). length (kept_rows rs)) (ahead_rows c fits)
      ∙ (ap length (kept_ahead c) ∙ sym (kept_many clear kept low d))))

  told_same : (judge : Judge) (c : ℕ) → IsFit c →
      rule_told judge plan (stream c) (arrived_of c) a (place c) ≡ rule_told judge plan clear kept a j
  unfolding rule_told
  told_same judge c fits =
      rw (first_same c fits, next_same c fits, sketches_same c fits, index_same c fits) refl

  -- the other broadcast is one of those of which a sound rule is right
  new_between : (IsSuch : SiteFields → List (List ℕ) → Type 0) (c : ℕ) → IsFit c → IsSuch plan.site (stream c) →
      IsBetween IsSuch plan (stream c) (arrived_of c) a (place c)
  new_between IsSuch c fits such = record {
    such = such;
    whole = new_whole c;
    part = (map (keeps (flags c)) (things plan (stream c)), sym (chosen_by (keeps (flags c)) (things plan (stream c))));
    below = below_too c fits;
    first = all_arrive plan (stream c) (flags c) a is (new_sendable c fits) (new_whole c)
        (omega (arith, below_too c fits));
    next = all_arrive plan (stream c) (flags c) (a + 1) is (new_sendable c fits) (new_whole c)
        (omega (arith, below_too c fits));
    there = kept_here c fits;
    from = omega arith;
    to = omega (arith, ahead_below c, world_long c fits, many_same c fits, inner);
    veiled = ap is_scrambled (kind_same c) ∙ between.veiled;
  }

  -- its position there
  abbrev near : ℕ
  near = moved_by p start (packets_in (staying p first) ++ x ∷ [])

  new_position : (c : ℕ) →
      position_of (pid_of (packet_at (stream c) (place c))) (take (place c + 1) (stream c)) ≡ near + 16 * c
  new_position c =
      ap (λ (y : List ℕ). position_of (pid_of y) (take (place c + 1) (stream c))) (packet_same c)
      ∙ (ap (position_of p) taken_on
      ∙ (more_packets p 15 pre (packets_in (ahead c) ++ x ∷ [])
      ∙ (ap (moved_by p start) (ap (λ (ys : List (List ℕ)). ys ++ x ∷ []) (ahead_packets c)
      ∙ append_assoc (front c) (packets_in (staying p first)) (x ∷ []))
      ∙ (more_packets p start (front c) (packets_in (staying p first) ++ x ∷ [])
      ∙ (ap (λ (y : ℕ). moved_by p y (packets_in (staying p first) ++ x ∷ [])) (front_leads c)
      ∙ higher_start p start (16 * c) (packets_in (staying p first) ++ x ∷ []) (omega arith))))))
    where
      taken_on : take (place c + 1) (stream c) ≡ pre ++ (packets_in (ahead c) ++ x ∷ [])
      taken_on =
          ap (take (place c + 1)) (stream_at c ∙ sym (append_assoc (pre ++ packets_in (ahead c)) (x ∷ []) (tail c)))
          ∙ (take_at ((pre ++ packets_in (ahead c)) ++ x ∷ []) (tail c) (place c + 1)
          (omega (arith, length-append (pre ++ packets_in (ahead c)) (x ∷ []), ahead_long c))
          ∙ append_assoc pre (packets_in (ahead c)) (x ∷ []))

  -- so a sound rule tells that
  told_there : (IsSuch : SiteFields → List (List ℕ) → Type 0) (judge : Judge) (t c : ℕ) →
      IsSoundRule IsSuch plan judge →
      rule_told judge plan clear kept a j ≡ Some t → IsFit c → IsSuch plan.site (stream c) → t ≡ near + 16 * c
  told_there IsSuch judge t c sound told fits such =
      sound (stream c) (arrived_of c) a (place c) t (new_between IsSuch c fits such) (told_same judge c fits ∙ told)
      ∙ new_position c

  -- the tracked position at the later message, and the true one
  tracked_is : tracked_position plan clear kept a (a + 1) p ≡ tracked
  unfolding tracked_position kept_in
  tracked_is = ap (moved_by p start) (kept_packets clear kept low n) ∙ sym (staying_lead p start rows)

  ended_is : position_of p (take (upto plan clear (a + 1)) clear) ≡ ended
  ended_is =
      ap (λ (k : ℕ). position_of p (take k clear)) high_is
      ∙ (ap (position_of p) old_taken ∙ more_packets p 15 pre (packets_in rows))

  tracked_below : tracked_position plan clear kept a (a + 1) p ≤ position_of p (take (upto plan clear (a + 1)) clear)
  unfolding tracked_position
  tracked_below = near_below clear kept low p (upto plan clear (a + 1)) (omega (arith, high_is)) (omega arith)

  -- a PID that isn't traced would have two positions
  traced_by : (IsSuch : SiteFields → List (List ℕ) → Type 0) →
      ((c : ℕ) → IsFit c → IsSuch plan.site (stream c)) → (judge : Judge) (t : ℕ) → IsSoundRule IsSuch plan judge →
      rule_told judge plan clear kept a j ≡ Some t → is_traced plan clear kept a (a + 1) p ≡ true
  unfolding is_traced
  traced_by IsSuch such judge t sound told = elim (cases_lt (tracked + 15) ended) [
    | inr close ↦
        let below = tracked_below in
        let high : position_of p (take (upto plan clear (a + 1)) clear)
        ≤ tracked_position plan clear kept a (a + 1) p + 15 = omega (arith, close, tracked_is, ended_is) in
        grind (arith, nat_tests, below, high)
    | inl far ↦
        let lower : IsFit 0 = omega (arith, far) in
        let higher : IsFit 1 = omega (arith, far) in
        let one = told_there IsSuch judge t 0 sound told lower (such 0 lower) in
        let two = told_there IsSuch judge t 1 sound told higher (such 1 higher) in
        absurd (omega (arith, one, two))
  ]

  pub traced_where_told : (judge : Judge) (t : ℕ) → IsSoundRule IsSendable plan judge →
      rule_told judge plan clear kept a j ≡ Some t → is_traced plan clear kept a (a + 1) p ≡ true
  traced_where_told = traced_by IsSendable new_sendable

  -- for a rule that is right on clear streams alone, the other streams have to be clear
  traced_if_clear : IsClear plan.site clear → (judge : Judge) (t : ℕ) → IsSoundRule IsClear plan judge →
      rule_told judge plan clear kept a j ≡ Some t → is_traced plan clear kept a (a + 1) p ≡ true
  traced_if_clear all =
      traced_by IsClear (λ c fits. (clear_exactly plan.site (stream c)).1
      (new_sendable c fits, new_right ((clear_exactly plan.site clear).0 all).1 c))

pub as_sendable : (plan : Plan) (clear : List (List ℕ)) (kept : List Item) (a j : ℕ) →
    IsBetween IsClear plan clear kept a j → IsBetween IsSendable plan clear kept a j
as_sendable plan clear kept a j between = record {
  such = clear_sendable plan.site clear between.such;
  whole = between.whole;
  part = between.part;
  below = between.below;
  first = between.first;
  next = between.next;
  there = between.there;
  from = between.from;
  to = between.to;
  veiled = between.veiled;
}

pub traced_where_clear : (plan : Plan) → IsPlan plan → (clear : List (List ℕ)) (kept : List Item) (a j : ℕ) →
    IsBetween IsClear plan clear kept a j → (judge : Judge) (t : ℕ) → IsSoundRule IsClear plan judge →
    rule_told judge plan clear kept a j ≡ Some t → is_traced plan clear kept a (a + 1) (pid_of (packet_at clear j))
    ≡ true
traced_where_clear plan is clear kept a j between =
    traced_if_clear plan is clear kept a j (as_sendable plan clear kept a j between) between.such
