-- What the receiver's own rule tells.
use Rattle.std.proofs.Common.{Option, ◌≡◌, refl, ℕ, ◌+◌, ◌*◌, ◌<◌, ◌≤◌, ◌&&◌, Bool, true, false, List, [], ◌∷◌, ◌++◌}
use Rattle.std.proofs.Common.{map, length, take, get_or, nat_le, Some, None, arith, sym, ap, ◌∙◌, inl, inr}
use Rattle.std.proofs.Common.{append_assoc, append-nil, ◌⊎◌}
use Rattle.std.specs.Prelude.{if◌then◌else◌}
use Rattle.std.specs.Option.{option_map_or}
use Rattle.std.proofs.lemmas.Bool.{cases_Bool}
use Rattle.std.proofs.lemmas.Bool.Decides.{nat_tests}
use Rattle.std.proofs.lemmas.List.{map-append, length-map, get_or-take, length-take}
use Rattle.std.proofs.lemmas.List.Elements.{All-get_or}
use Rattle.std.proofs.lemmas.List.Folds.{list_any_at}
use Rattle.std.proofs.lemmas.Nat.{pow_pos}
use Rattle.sd_packet.specs.Header.{pid_of}
use Rattle.sd_packet.specs.Positions.{is_moving, moved, moved_by, position_of}
use Rattle.sd_packet.proofs.Positions.{own_moves}
use Rattle.sd_message.specs.EcmParts.{Message}
use Rattle.sd_message.specs.declared.ecm_part.Place.{Place}
use Rattle.sd_spec.specs.Plan.{Plan, IsPlan}
use Rattle.sd_spec.specs.Kinds.{has_moved}
use Rattle.sd_spec.specs.Refused.{IsClear, IsSendable}
use Rattle.sd_spec.specs.Carried.{carried}
use Rattle.sd_spec.specs.Sent.{Item}
use Rattle.sd_spec.specs.Confirmed.{tracked, position_in}
use Rattle.sd_law_broadcast.specs.Packets.{IsWholePacket}
use Rattle.sd_law_broadcast.specs.Numbered.{numbered_message}
use Rattle.sd_law_broadcast.proofs.Carrying.{carried_pid}
use Rattle.sd_law_losses.specs.Kept.{kept_in}
use Rattle.sd_law_losses.specs.Confirmed.{packet_at, upto, tracked_position, is_traced}
use Rattle.sd_law_losses.proofs.Setting.{Setting, AreLaws, told_by, carried_at}
use Rattle.sd_law_losses.proofs.Pairs.{places_are, tracked_is}
use Rattle.sd_law_losses.proofs.Places.{told_position}
use Rattle.sd_law_losses.proofs.Lawful.{setting, laws_hold}
use Rattle.sd_law_losses.proofs.Tracking.{kept_parts, kept_more, near_at, true_at, near_exact}
use Rattle.sd_law_rules.specs.Rules.{Sketch, sketch_of, sketches_between, IsBetween, IsSoundRule, rule_told, place_in}
use Rattle.sd_law_rules.specs.Rules.{tracked_by, is_confirmed_by, tracked_from, receivers_judge}
use Rattle.sd_law_rules.proofs.Worlds.{within, placed, p_low, p_high, as_sendable}

-- headers lead as their packets
by_headers : (pid position : ℕ) (packets : List (List ℕ)) →
    tracked_by pid position (map sketch_of packets) ≡ moved_by pid position packets
unfolding tracked_by moved_by
by_headers pid position [] = refl
by_headers pid position (packet ∷ packets) = by_headers pid (moved pid position packet) packets

two_maps : {A B C : Type 0} (f : B → C) (g : A → B) (xs : List A) → map (λ x. f (g x)) xs ≡ map f (map g xs)
two_maps f g [] = refl
two_maps f g (x ∷ xs) = ap (λ ys. f (g x) ∷ ys) (two_maps f g xs)

-- what is told of a packet behind others
told_at : (test : ℕ → Bool) (start : ℕ → ℕ) (before xs : List Sketch) (s : Sketch) (ys : List Sketch) →
    get_or (tracked_from test start before (xs ++ s ∷ ys)) (length xs) None
    ≡ (if test s.pid then Some (tracked_by s.pid (start s.pid) ((before ++ xs) ++ s ∷ [])) else None)
told_at test start before [] s ys =
    ap (λ (zs : List Sketch). if test s.pid then Some (tracked_by s.pid (start s.pid) (zs ++ s ∷ [])) else None)
    (sym (append-nil before))
told_at test start before (x ∷ xs) s ys =
    told_at test start (before ++ x ∷ []) xs s ys
    ∙ ap (λ (zs : List Sketch). if test s.pid then Some (tracked_by s.pid (start s.pid) (zs ++ s ∷ [])) else None)
    (append_assoc before (x ∷ []) xs)

module _ (plan : Plan) (is : IsPlan plan) (clear : List (List ℕ)) (kept : List Item) (a j : ℕ)
    (between : IsBetween IsSendable plan clear kept a j) where
  abbrev s : Setting
  s = setting plan clear 0

  laws : AreLaws s
  laws = laws_hold plan clear 0 is between.such between.whole (pow_pos plan.site.height)

  abbrev low : ℕ
  low = a * plan.site.every

  abbrev high : ℕ
  high = upto plan clear (a + 1)

  abbrev p : ℕ
  p = pid_of (packet_at clear j)

  abbrev first : Message
  first = numbered_message plan clear a

  abbrev next : Message
  next = numbered_message plan clear (a + 1)

  abbrev shows : ℕ → Sketch
  shows i = sketch_of (carried plan.site (take i clear) (packet_at clear i))

  in_clear : j < length clear
  in_clear = within plan is clear kept a j between

  low_pid : 0x20 ≤ p
  low_pid = p_low plan is clear kept a j between

  high_pid : p ≤ 0x1FEF
  high_pid = p_high plan is clear kept a j between

  told_first : told_by s a ≡ first
  unfolding told_by numbered_message
  told_first = refl

  told_next : told_by s (a + 1) ≡ next
  unfolding told_by numbered_message
  told_next = refl

  -- the headers of the packets kept up to some place lead to the tracked position
  headers_lead : (k : ℕ) → low ≤ k → k ≤ length clear →
      tracked_by p (place_in first p) (map shows (kept_in kept low k)) ≡ near_at clear kept low p k
  unfolding tracked carried_at
  headers_lead k from inside =
      ap (tracked_by p (place_in first p)) (two_maps sketch_of (carried_at s) (kept_in kept low k))
      ∙ (by_headers p (place_in first p) (map (carried_at s) (kept_in kept low k))
      ∙ (ap (λ (m : Message). tracked m p (map (carried_at s) (kept_in kept low k))) (sym told_first)
      ∙ tracked_is s laws kept a p k between.below low_pid high_pid from inside))

  moved_there : has_moved (take high clear) p ≡ true
  moved_there =
      list_any_at (is_moving p) (take high clear) j [] (omega (arith, length-take high clear, between.to))
      (ap (is_moving p) (get_or-take high clear j [] (omega (arith, between.to)))
      ∙ own_moves (packet_at clear j) (placed plan is clear kept a j between))

  next_place : position_in next.places p ≡ Some (true_at clear p high)
  next_place =
      ap (λ (m : Message). position_in m.places p) (sym told_next)
      ∙ (ap (λ (places : List Place). position_in places p)
      (places_are s (a + 1) is.site (omega (arith, between.below)))
      ∙ (told_position (take high clear) p low_pid high_pid
      ∙ ap (λ (b : Bool). if b then Some (true_at clear p high) else None) moved_there))

  low_high : low ≤ high
  low_high = omega (arith, between.from, between.to)

  high_in : high ≤ length clear
  high_in = omega arith

  abbrev all : List Sketch
  all = sketches_between plan clear kept a

  confirmed_is : is_confirmed_by first next (sketches_between plan clear kept a) p
      ≡ is_traced plan clear kept a (a + 1) p
  unfolding is_traced tracked_position
  confirmed_is =
      ap (λ (told : Option ℕ). option_map_or (λ t. nat_le (tracked_by p (place_in first p) all) t
      && nat_le t (tracked_by p (place_in first p) all + 15)) told false) next_place
      ∙ ap (λ (t : ℕ). nat_le t (true_at clear p high) && nat_le (true_at clear p high) (t + 15))
      (headers_lead high low_high high_in)

  parts : kept_in kept low high ≡ kept_in kept low j ++ (j ∷ kept_in kept (j + 1) high)
  parts =
      kept_parts kept low (j + 1) high (omega (arith, between.from)) (omega (arith, between.to))
      ∙ (ap (λ (js : List ℕ). js ++ kept_in kept (j + 1) high) (kept_more kept low j between.from between.there)
      ∙ append_assoc (kept_in kept low j) (j ∷ []) (kept_in kept (j + 1) high))

  sketches_split : sketches_between plan clear kept a
      ≡ map shows (kept_in kept low j) ++ (shows j ∷ map shows (kept_in kept (j + 1) high))
  sketches_split = ap (map shows) parts
      ∙ map-append shows (kept_in kept low j) (j ∷ kept_in kept (j + 1) high)

  same_pid : (shows j).pid ≡ p
  same_pid = carried_pid plan.site (take j clear) (packet_at clear j)
      (All-get_or IsWholePacket clear j [] in_clear between.whole).long

  ahead_too : map shows (kept_in kept low j) ++ shows j ∷ [] ≡ map shows (kept_in kept low (j + 1))
  ahead_too = sym (ap (map shows) (kept_more kept low j between.from between.there)
      ∙ map-append shows (kept_in kept low j) (j ∷ []))

  abbrev test : ℕ → Bool
  test = is_confirmed_by first next (sketches_between plan clear kept a)

  told_is : rule_told receivers_judge plan clear kept a j
      ≡ (if is_traced plan clear kept a (a + 1) p then Some (near_at clear kept low p (j + 1)) else None)
  unfolding rule_told receivers_judge
  told_is =
      ap (λ (ss : List Sketch). get_or (tracked_from test (place_in first) [] ss) (length (kept_in kept low j)) None)
      sketches_split
      ∙ (ap (λ (k : ℕ). get_or (tracked_from test (place_in first) []
      (map shows (kept_in kept low j) ++ (shows j ∷ map shows (kept_in kept (j + 1) high)))) k None)
      (sym (length-map (kept_in kept low j) shows))
      ∙ (told_at test (place_in first) [] (map shows (kept_in kept low j)) (shows j)
      (map shows (kept_in kept (j + 1) high))
      ∙ (ap (λ (q : ℕ). if test q then Some (tracked_by q (place_in first q) (map shows (kept_in kept low j)
      ++ shows j ∷ [])) else None) same_pid
      ∙ (ap (λ (t : Bool). if t then Some (tracked_by p (place_in first p) (map shows (kept_in kept low j)
      ++ shows j ∷ [])) else None) confirmed_is
      ∙ ap (λ (t : ℕ). if is_traced plan clear kept a (a + 1) p then Some t else None)
      (ap (tracked_by p (place_in first p)) ahead_too
      ∙ headers_lead (j + 1) (omega (arith, between.from)) (omega (arith, in_clear)))))))

  -- where it is confirmed, the tracked position is the true one
  exact : is_traced plan clear kept a (a + 1) p ≡ true → near_at clear kept low p (j + 1) ≡ true_at clear p (j + 1)
  unfolding is_traced tracked_position
  exact traced = near_exact clear kept low p j high between.from between.to high_in between.there
      (own_moves (packet_at clear j) (placed plan is clear kept a j between))
      (near_end (near_at clear kept low p high) (true_at clear p high) traced)
    where
      near_end : (x y : ℕ) → (nat_le x y && nat_le y (x + 15)) ≡ true → y ≤ x + 15
      near_end x y is = grind (arith, nat_tests, is)

  pub own_tells : rule_told receivers_judge plan clear kept a j
      ≡ (if is_traced plan clear kept a (a + 1) p then Some (position_of p (take (j + 1) clear)) else None)
  own_tells = told_is ∙ by_test (cases_Bool (is_traced plan clear kept a (a + 1) p))
    where
      by_test : (is_traced plan clear kept a (a + 1) p ≡ true) ⊎ (is_traced plan clear kept a (a + 1) p ≡ false) →
          (if is_traced plan clear kept a (a + 1) p then Some (near_at clear kept low p (j + 1)) else None)
          ≡ (if is_traced plan clear kept a (a + 1) p then Some (true_at clear p (j + 1)) else None)
      by_test (inl traced) = ap (λ (t : ℕ). if is_traced plan clear kept a (a + 1) p then Some t else None)
          (exact traced)
      by_test (inr other) = rw other refl

some_told : (b : Bool) (x t : ℕ) → (if b then Some x else None) ≡ Some t → t ≡ x
some_told true x t told = cc
some_told false x t told = absurd (cc told)

-- so it is sound
pub own_sound : (plan : Plan) → IsPlan plan → IsSoundRule IsSendable plan receivers_judge
own_sound plan is = λ clear kept a j t between told.
    some_told (is_traced plan clear kept a (a + 1) (pid_of (packet_at clear j)))
    (position_of (pid_of (packet_at clear j)) (take (j + 1) clear)) t
    (sym (own_tells plan is clear kept a j between) ∙ told)

pub own_sound_if_clear : (plan : Plan) → IsPlan plan → IsSoundRule IsClear plan receivers_judge
own_sound_if_clear plan is = λ clear kept a j t between.
    own_sound plan is clear kept a j t (as_sendable plan clear kept a j between)
