-- Before each packet of a whole broadcast the newest message is the last that stands before it.
use Rattle.std.proofs.Common.{◌≡◌, refl, ℕ, zero, suc, ◌+◌, ◌-◌, ◌*◌, ◌/◌, ◌%◌, ◌<◌, ◌≤◌, ◌==◌, ◌||◌, ◌++◌, Bool, true}
use Rattle.std.proofs.Common.{false, List, [], ◌∷◌, map, length, Option, Some, None, arith, sym, ap, ◌∙◌, subst}
use Rattle.std.proofs.Common.{inl, inr, ◌⊎◌, append-nil, append_assoc}
use Rattle.std.specs.Prelude.{if◌then◌else◌, option_map}
use Rattle.std.specs.List.{list_any}
use Rattle.std.proofs.lemmas.Bool.{cases_lt, cases_order, false≢true}
use Rattle.std.proofs.lemmas.Bool.Decides.{nat_tests}
use Rattle.std.proofs.lemmas.List.{append_cancel_right}
use Rattle.std.proofs.lemmas.List.Folds.{list_any-append}
use Rattle.std.proofs.Math.Nat.{mul-mod_left, mul-div_cancel, mul-le-mul_right, div-mul-le_self, lt-div-mul-add}
use Rattle.sd_message.specs.EcmParts.{parts_of}
use Rattle.sd_message.specs.declared.ecm_part.EcmPart.{EcmPart}
use Rattle.sd_spec.specs.Plan.{closing_number, word_of, since_of}
use Rattle.sd_spec.specs.Sent.{Item, Cat, Entitles, Controls, Carries, sent, closing_of, broadcast, packets_from}
use Rattle.sd_spec.specs.Sent.{is_cat_item, tables_before, item_packet}
use Rattle.sd_spec.specs.Offered.{heard}
use Rattle.sd_spec.specs.Stretches.{newest_message}
use Rattle.sd_spec.proofs.Schedule.{closing_needed, same_word}
use Rattle.sd_law_losses.specs.Chosen.{chosen}
use Rattle.sd_law_losses.specs.Kept.{after_cat, has_parts, has_arrived}
use Rattle.sd_law_losses.proofs.Tests.{any_agree}
use Rattle.sd_law_losses.proofs.Arriving.{is_of, arrived_stays, none_arrived}
use Rattle.sd_law_losses.proofs.Runs.{begins_by}
use Rattle.sd_law_losses.proofs.Writing.{onto}
use Rattle.sd_law_losses.proofs.Whole.{all_true}
use Rattle.sd_law_losses.proofs.Setting.{Setting, AreLaws, final, told_by}
use Rattle.sd_law_losses.proofs.Hearing.{AreHearable, IsTuned}
use Rattle.sd_law_losses.proofs.Pairs.{start_of, word_is}
use Rattle.sd_law_losses.proofs.Facts.{IsLast}
use Rattle.sd_law_losses.proofs.Carrying.{carrying}
use Rattle.sd_law_losses.proofs.Remaining.{parts_before, group_at, rest_at, rest_more, number_within}
use Rattle.sd_law_losses.proofs.Standing.{pre_at, sent_split, pre_numbers, whole_arrived}
use Rattle.sd_law_losses.proofs.Ended.{StandsEnded}
use Rattle.sd_law_losses.proofs.Ends.{EndsBefore, losses_stand}

-- the first of two lists is chosen
first_chosen : {A : Type 0} (xs ys : List A) → chosen (all_true xs) (xs ++ ys) ≡ xs
unfolding chosen
first_chosen [] ys = refl
first_chosen (x ∷ xs) ys = ap (λ (zs : List _). x ∷ zs) (first_chosen xs ys)

first_packets : (s : Setting) (earlier xs ys : List Item) →
    chosen (all_true xs) (packets_from s.plan.site earlier (xs ++ ys)) ≡ packets_from s.plan.site earlier xs
unfolding chosen packets_from
first_packets s earlier [] ys = refl
first_packets s earlier (x ∷ xs) ys =
    ap (λ (zs : List (List ℕ)). item_packet s.plan.site earlier x ∷ zs) (first_packets s (earlier ++ x ∷ []) xs ys)

-- the packets of these things, the newest first
abbrev pub past_of : Setting → List Item → List (List ℕ)
past_of s items = onto (packets_from s.plan.site [] items) []

-- where a receiver stands after the first of the things that are sent
pub stands_after : (s : Setting) (laws : AreLaws s) (able : AreHearable s) (first rest : List Item) →
    sent s.plan s.clear ++ closing_of s.plan s.clear ≡ first ++ rest →
    EndsBefore s (list_any is_cat_item first) first (past_of s first)
unfolding broadcast
stands_after s laws able first rest split =
    subst (λ (packets : List (List ℕ)). EndsBefore s (list_any is_cat_item first) first (onto packets []))
    (ap (λ (items : List Item). chosen (all_true first) (packets_from s.plan.site [] items)) split
    ∙ first_packets s [] first rest)
    (subst (λ (kept : List Item). EndsBefore s (list_any is_cat_item kept) kept
    (onto (chosen (all_true first) (packets_from s.plan.site [] (sent s.plan s.clear ++ closing_of s.plan s.clear)))
    []))
    (ap (chosen (all_true first)) split ∙ first_chosen first rest)
    (losses_stand s laws able (all_true first)))

-- what is sent begins with the CAT
behind_cat : (first rest items : List Item) → first ++ rest ≡ Cat ∷ items →
    (first ≡ []) ⊎ ((behind : List Item) × (first ≡ Cat ∷ behind))
behind_cat [] rest items is = inl refl
behind_cat (Cat ∷ behind) rest items is = inr (behind, refl)
behind_cat (Entitles emm ∷ behind) rest items is = absurd (cc is)
behind_cat (Controls part ∷ behind) rest items is = absurd (cc is)
behind_cat (Carries j packet ∷ behind) rest items is = absurd (cc is)

arrived_behind : (behind : List Item) (a : ℕ) → has_arrived (Cat ∷ behind) a ≡ has_arrived behind a
unfolding has_arrived
arrived_behind behind a = any_agree (has_parts (Cat ∷ behind) a) (has_parts behind a) behind same
  where
    same : (item : Item) → has_parts (Cat ∷ behind) a item ≡ has_parts behind a item
    same Cat = refl
    same (Entitles emm) = refl
    same (Controls part) = refl
    same (Carries j packet) = refl

-- the last message that has arrived is known by its number
last_known : (s : Setting) (n a : ℕ) (kept : List Item) (last : Option ℕ) → IsLast n kept last →
    has_arrived kept a ≡ true → ((b : ℕ) → a < b → has_arrived kept b ≡ false) → last ≡ Some a
last_known s n a kept None is there none = absurd (false≢true (sym (is a) ∙ there))
last_known s n a kept (Some c) is there none = elim (cases_order a c) [
  | inl same ↦ ap Some (sym same)
  | inr (inl below) ↦ absurd (false≢true (sym (none c below) ∙ is.1))
  | inr (inr above) ↦ absurd (false≢true (sym (is.2 a above) ∙ there))
]

-- a receiver is tuned, and the newest message is this one
pub record StandsAt (s : Setting) (past : List (List ℕ)) (a : ℕ) : Type 0 where
  pub tuned : IsTuned s past
  pub message : (newest_message (heard s.card past)).message ≡ Some (told_by s a)

by_last : (s : Setting) (a : ℕ) (kept : List Item) (past : List (List ℕ)) → StandsEnded s kept past →
    has_arrived kept a ≡ true → ((b : ℕ) → a < b → has_arrived kept b ≡ false) → StandsAt s past a
by_last s a kept past stands there none = record {
  tuned = stands.tuned;
  message = stands.ended.message
      ∙ ap {B = Option _} (option_map (told_by s)) (last_known s (final s + 1) a kept stands.ended.last
      stands.ended.last_is there none);
}

stands_at : (s : Setting) (laws : AreLaws s) (able : AreHearable s) (first rest : List Item) (a : ℕ) →
    sent s.plan s.clear ++ closing_of s.plan s.clear ≡ first ++ rest → has_arrived first a ≡ true →
    ((b : ℕ) → a < b → list_any (is_of b) first ≡ false) → StandsAt s (past_of s first) a
unfolding after_cat has_arrived
stands_at s laws able first rest a split there none =
    let begins = begins_by s.plan s.clear in
    by_begin first there none (behind_cat first rest begins.0 (sym split ∙ begins.1))
    (stands_after s laws able first rest split)
  where
    by_begin : (these : List Item) → has_arrived these a ≡ true →
        ((b : ℕ) → a < b → list_any (is_of b) these ≡ false) →
        (these ≡ []) ⊎ ((behind : List Item) × (these ≡ Cat ∷ behind)) →
        EndsBefore s (list_any is_cat_item these) these (past_of s first) → StandsAt s (past_of s first) a
    by_begin [] there none is stands = absurd (false≢true there)
    by_begin (Cat ∷ behind) there none is stands =
        by_last s a behind (past_of s first) stands (sym (arrived_behind behind a) ∙ there)
        (λ b above. none_arrived behind b (none b above))
    by_begin (Entitles emm ∷ behind) there none (inl is) stands = absurd (cc is)
    by_begin (Entitles emm ∷ behind) there none (inr is) stands = absurd (cc is.1)
    by_begin (Controls part ∷ behind) there none (inl is) stands = absurd (cc is)
    by_begin (Controls part ∷ behind) there none (inr is) stands = absurd (cc is.1)
    by_begin (Carries j packet ∷ behind) there none (inl is) stands = absurd (cc is)
    by_begin (Carries j packet ∷ behind) there none (inr is) stands = absurd (cc is.1)

-- what is sent before packet k
unfoldable pub sent_before : Setting → ℕ → List Item
sent_before s zero = []
sent_before s (suc k) = sent_before s k ++ group_at s k

pub before_and_rest : (s : Setting) (laws : AreLaws s) (k : ℕ) → k ≤ length s.clear →
    rest_at s 0 ≡ sent_before s k ++ rest_at s k
unfolding sent_before
before_and_rest s laws zero within = refl
before_and_rest s laws (suc k) within =
    let more : k + 1 ≡ suc k = omega arith in
    before_and_rest s laws k (omega (arith, within))
    ∙ (ap (λ (xs : List Item). sent_before s k ++ xs) (rest_more s k laws.range (omega (arith, within))
    ∙ ap (λ (n : ℕ). group_at s k ++ rest_at s n) more)
    ∙ sym (append_assoc (sent_before s k) (group_at s k) (rest_at s (suc k))))

before_is_pre : (s : Setting) (laws : AreLaws s) (k : ℕ) → k ≤ length s.clear → sent_before s k ≡ pre_at s k
before_is_pre s laws k within =
    append_cancel_right (sent_before s k) (pre_at s k) (rest_at s k)
    (sym (before_and_rest s laws k within) ∙ sent_split s k laws.range within)

-- what is sent before packet k begins with what is sent up to an earlier one
pre_more : (s : Setting) (j m n : ℕ) → n ≡ suc j + m →
    (more : List Item) × (sent_before s n ≡ sent_before s (suc j) ++ more)
unfolding sent_before
pre_more s j zero n is =
    let same : n ≡ suc j = omega (arith, is) in
    ([], ap (sent_before s) same ∙ sym (append-nil (sent_before s (suc j))))
pre_more s j (suc m) n is =
    let before = pre_more s j m (suc j + m) refl in
    let same : n ≡ suc (suc j + m) = omega (arith, is) in (
      before.0 ++ group_at s (suc j + m),
      ap (sent_before s) same
          ∙ (ap (λ (xs : List Item). xs ++ group_at s (suc j + m)) before.1
          ∙ append_assoc (sent_before s (suc j)) before.0 (group_at s (suc j + m))),
    )

-- the message before packet k has arrived with it
parts_at_start : (s : Setting) (laws : AreLaws s) (a : ℕ) →
    parts_before s (start_of s a) ≡ map Controls (parts_of (told_by s a))
parts_at_start s laws a =
    let some : 0 < s.plan.site.every = omega (arith, laws.range.every.0) in
    let due : (start_of s a % s.plan.site.every == 0) ≡ true =
    grind (arith, nat_tests, mul-mod_left a s.plan.site.every) in
    ap (λ (b : Bool). if b then map Controls (parts_of (told_by s (start_of s a / s.plan.site.every))) else []) due
    ∙ ap (λ (n : ℕ). map Controls (parts_of (told_by s n))) (mul-div_cancel a some)

arrived_upto : (s : Setting) (laws : AreLaws s) (a : ℕ) (more : List Item) → a ≤ final s →
    has_arrived (sent_before s (suc (start_of s a)) ++ more) a ≡ true
unfolding sent_before
arrived_upto s laws a more within =
    ap (λ (xs : List Item). has_arrived xs a)
    (append_assoc (sent_before s j) (group_at s j) more
    ∙ (ap (λ (ps : List Item). sent_before s j ++ ((tables_before s.plan j ++ (ps ++ carrying s j ∷ [])) ++ more))
    (parts_at_start s laws a)
    ∙ (ap (λ (xs : List Item). sent_before s j ++ xs)
    (append_assoc (tables_before s.plan j) (map Controls ps ++ carrying s j ∷ []) more
    ∙ ap (λ (xs : List Item). tables_before s.plan j ++ xs)
    (append_assoc (map Controls ps) (carrying s j ∷ []) more))
    ∙ sym (append_assoc (sent_before s j) (tables_before s.plan j)
    (map Controls ps ++ ((carrying s j ∷ []) ++ more))))))
    ∙ whole_arrived s laws a (sent_before s j ++ tables_before s.plan j) ((carrying s j ∷ []) ++ more) within
  where
    j : ℕ
    j = start_of s a

    ps : List EcmPart
    ps = parts_of (told_by s a)

-- what stands before packet k in the broadcast
abbrev pub here_before : Setting → ℕ → List Item
here_before s k = sent_before s k ++ (tables_before s.plan k ++ parts_before s k)

here_and_packet : (s : Setting) (k : ℕ) → sent_before s (suc k) ≡ here_before s k ++ carrying s k ∷ []
unfolding sent_before
here_and_packet s k =
    ap (λ (xs : List Item). sent_before s k ++ xs)
    (sym (append_assoc (tables_before s.plan k) (parts_before s k) (carrying s k ∷ [])))
    ∙ sym (append_assoc (sent_before s k) (tables_before s.plan k ++ parts_before s k) (carrying s k ∷ []))

before_arrived : (s : Setting) (laws : AreLaws s) (k : ℕ) → k < length s.clear →
    has_arrived (here_before s k) (k / s.plan.site.every) ≡ true
before_arrived s laws k within =
    sym (arrived_stays (here_before s k) (carrying s k ∷ []) a refl)
    ∙ (ap (λ (xs : List Item). has_arrived xs a) (sym (here_and_packet s k) ∙ more.1)
    ∙ arrived_upto s laws a more.0 (omega (arith, number_within s k laws.range within)))
  where
    a : ℕ
    a = k / s.plan.site.every

    low : start_of s a ≤ k
    low = div-mul-le_self k s.plan.site.every

    more : (more : List Item) × (sent_before s (suc k) ≡ sent_before s (suc (start_of s a)) ++ more)
    more = pre_more s (start_of s a) (k - start_of s a) (suc k) (omega (arith, low))

below_next : (s : Setting) (laws : AreLaws s) (k : ℕ) → k < (k / s.plan.site.every + 1) * s.plan.site.every
below_next s laws k =
    let some : 0 < s.plan.site.every = omega (arith, laws.range.every.0) in
    let top : k < k / s.plan.site.every * s.plan.site.every + s.plan.site.every = lt-div-mul-add some in
    let whole : (k / s.plan.site.every + 1) * s.plan.site.every
    ≡ k / s.plan.site.every * s.plan.site.every + s.plan.site.every = grind (arith) in
    omega (arith, top, whole)

none_later : (s : Setting) (laws : AreLaws s) (k b : ℕ) → k < length s.clear → k / s.plan.site.every < b →
    list_any (is_of b) (here_before s k) ≡ false
none_later s laws k b within above =
    (or_parts (list_any (is_of b) (here_before s k)) (list_any (is_of b) (carrying s k ∷ []))
    (sym (list_any-append (is_of b) (here_before s k) (carrying s k ∷ []))
    ∙ (ap (list_any (is_of b)) (sym (here_and_packet s k) ∙ before_is_pre s laws (suc k) (omega (arith, within)))
    ∙ pre_numbers s laws (suc k) b (omega (arith, within)) bound))).0
  where
    or_parts : (x y : Bool) → (x || y) ≡ false → (x ≡ false) × (y ≡ false)
    or_parts true y is = absurd (false≢true (sym is))
    or_parts false y is = (refl, is)

    bound : closing_number s.plan.site (suc k) ≤ b
    bound = elim (cases_lt b (closing_number s.plan.site (suc k))) [
      | inl less ↦
          let needed : b * s.plan.site.every < suc k = closing_needed s.plan.site (suc k) b laws.range less in
          let next = below_next s laws k in
          let more : (k / s.plan.site.every + 1) * s.plan.site.every ≤ b * s.plan.site.every =
          mul-le-mul_right s.plan.site.every (omega (arith, above)) in
          absurd (omega (arith, needed, next, more))
      | inr up ↦ up
    ]

-- so before packet k
pub stands_before : (s : Setting) (laws : AreLaws s) (able : AreHearable s) (k : ℕ) (rest : List Item) →
    k < length s.clear → sent s.plan s.clear ++ closing_of s.plan s.clear ≡ here_before s k ++ rest →
    StandsAt s (past_of s (here_before s k)) (k / s.plan.site.every)
stands_before s laws able k rest within split =
    stands_at s laws able (here_before s k) rest (k / s.plan.site.every) split (before_arrived s laws k within)
    (λ b above. none_later s laws k b within above)

since_one : (s : Setting) (a : ℕ) → since_of 1 s.plan.site.cryptos (a + 1) ≤ a
since_one s a = by_next (a + 1) (omega arith)
  where
    by_next : (b : ℕ) → b ≡ suc a → since_of 1 s.plan.site.cryptos b ≤ a
    by_next zero is = absurd (omega (arith, is))
    by_next (suc b) is = omega (arith, is)

-- whose control word is that of the packet
pub word_before : (s : Setting) (laws : AreLaws s) (k : ℕ) → k < length s.clear →
    (told_by s (k / s.plan.site.every)).word ≡ word_of s.plan.site k
word_before s laws k within =
    word_is s a (number_within s k laws.range within)
    ∙ sym (same_word s.plan.site 1 a (a + 1) k laws.range (since_one s a) (omega arith)
    (div-mul-le_self k s.plan.site.every) (below_next s laws k))
  where
    a : ℕ
    a = k / s.plan.site.every
