-- What a receiver makes of sections of entitlements of a broadcast.
use Rattle.std.proofs.Common.{◌<◌}
use Rattle.std.proofs.Common.{◌≡◌, refl, ℕ, ◌≤◌, ◌==◌, ◌&&◌, ◌||◌, Bool, true, false}
use Rattle.std.proofs.Common.{not, nat_le, nat_lt, List, [], ◌∷◌, ◌++◌, map, Option}
use Rattle.std.proofs.Common.{arith, sym, ap, ◌∙◌, inl, inr, ◌⊎◌, subst, append_assoc, append-nil}
use Rattle.std.specs.Prelude.{if◌then◌else◌, All, Contains}
use Rattle.std.specs.List.{list_any}
use Rattle.std.proofs.lemmas.List.Elements.{All-cons, All-head, All-tail, All-weaker}
use Rattle.std.proofs.lemmas.List.Folds.{list_any-append, list_any_none}
use Rattle.std.proofs.lemmas.Bool.{cases_Bool}
use Rattle.std.proofs.lemmas.Bool.Decides.{nat_tests}
use Rattle.sd_tree_keys.specs.Leaves.{is_member}
use Rattle.sd_message.specs.EmmSpelled.{listed_entries}
use Rattle.sd_message.specs.Period.{emms_of}
use Rattle.sd_message.specs.declared.emm.Emm.{Emm}
use Rattle.sd_spec.specs.Messages.{period_at}
use Rattle.sd_spec.specs.Sent.{Item, Entitles}
use Rattle.sd_spec.specs.Heard.{Heard, Entitles as HeardEntitles}
use Rattle.sd_spec.specs.Stretches.{messages, newest_message, counted_parts, current, sections_seen, is_closed, others}
use Rattle.sd_spec.specs.Keys.{key_at, key_in, key_from, first_key}
use Rattle.sd_spec.specs.Offered.{emm_offering, key_if_none, is_mixed, says_same, no_offering, Offering}
use Rattle.sd_spec.specs.Offered.{refused_offering}
use Rattle.sd_message.specs.declared.emm_fault.EmmFault.TheVariants as Emms
use Rattle.sd_message.specs.declared.stream_fault.StreamFault.TheVariants as Fault
use Rattle.sd_law_losses.specs.Kept.{entitles, is_section_item}
use Rattle.sd_law_losses.specs.Chosen.{chosen}
use Rattle.sd_law_losses.specs.Taken.{takes_key, how_many}
use Rattle.sd_law_losses.proofs.Taking.{keys_of, with_one, how_many_more, how_many_agree}
use Rattle.std.proofs.Common.{ℕ, ◌+◌, is_none, if◌then◌else◌}
use Rattle.sd_law_losses.proofs.Writing.{onto, writes_nothing}
use Rattle.sd_law_losses.proofs.Setting.{Setting, AreLaws, IsDue, tuning_at, carried_at, key_where}
use Rattle.sd_law_losses.proofs.Facts.{AreKept, AreHeard, Passes, is_told, from_last, keyed_stays, bare_in, bare_kept}
use Rattle.sd_law_losses.proofs.Facts.{told_same, section_is_bare}

-- the section has a set with the leaf
abbrev pub has_leaf : Setting → Emm → Bool
has_leaf s emm = list_any (λ entry. is_member s.plan.site.height entry.name s.card.leaf) (listed_entries emm)

-- one section more is told
told_more : (s : Setting) (q : ℕ) (kept : List Item) (emm : Emm) →
    is_told s q (kept ++ Entitles emm ∷ []) ≡ (is_told s q kept || ((emm.period == q) && has_leaf s emm))
told_more s q kept emm = list_any-append (entitles s.plan.site.height s.card.leaf q) kept (Entitles emm ∷ [])
    ∙ ap (λ (b : Bool). is_told s q kept || b) (or_none ((emm.period == q) && has_leaf s emm))
  where
    or_none : (b : Bool) → (b || false) ≡ b
    or_none true = refl
    or_none false = refl

first_where : (s : Setting) (q : ℕ) (a b : Bool) → first_key (key_where s q a) (key_where s q b) ≡ key_where s q
    (a || b)
first_where s q true b = refl
first_where s q false b = refl

-- the key that is had with one section more of the current period
key_more : (s : Setting) (q : ℕ) (emm : Emm) (past : List Heard) (kept : List Item) → IsDue s q emm → current past ≤ q →
    key_at s.card past q ≡ key_where s q (is_told s q kept) → (at : ℕ) → key_at s.card past at ≡ key_where s at
    (is_told s at kept) →
    key_at s.card (HeardEntitles emm ∷ past) at ≡ key_where s at (is_told s at (kept ++ Entitles emm ∷ []))
unfolding sections_seen key_in
key_more s q emm past kept due now key at other = by_test (cases_Bool (emm.period == at)) ∙ ap (key_where s at) (sym
    (told_more s at kept emm))
  where
    by_test : ((emm.period == at) ≡ true) ⊎ ((emm.period == at) ≡ false) →
        key_at s.card (HeardEntitles emm ∷ past) at
        ≡ key_where s at (is_told s at kept || ((emm.period == at) && has_leaf s emm))
    by_test (inl is) =
        let same : q ≡ at = grind (arith, nat_tests, is, due.period) in
        let within : nat_le (current past) at ≡ true = grind (arith, nat_tests, same, now) in
        let found : key_from s.card emm ≡ key_where s at (has_leaf s emm) =
        due.key ∙ ap (λ (p : ℕ). key_where s p (has_leaf s emm)) same in
        rw is (rw within (ap (λ (k : Option (List ℕ)). first_key k (key_from s.card emm)) other
        ∙ (ap (first_key (key_where s at (is_told s at kept))) found
        ∙ first_where s at (is_told s at kept) (has_leaf s emm))))
    by_test (inr is) = rw is (other ∙ ap (key_where s at) (or_none (is_told s at kept)))
      where
        or_none : (b : Bool) → b ≡ (b || false)
        or_none true = refl
        or_none false = refl

-- the indexes that are seen with one more
index_more : (q : ℕ) (emm : Emm) (past : List Heard) (kept : List Item) → emm.period ≡ q → current past ≤ q →
    (at x : ℕ) → list_any (λ e. e.index == x) (sections_seen at past) ≡ list_any (is_section_item at x) kept →
    list_any (λ e. e.index == x) (sections_seen at (HeardEntitles emm ∷ past)) ≡ list_any (is_section_item at x)
    (kept ++ Entitles emm ∷ [])
unfolding sections_seen
index_more q emm past kept period now at x other =
    by_test (cases_Bool (emm.period == at)) ∙ sym (list_any-append (is_section_item at x) kept (Entitles emm ∷ []))
  where
    turned : (a b c : Bool) → a ≡ c → (b || a) ≡ (c || (b || false))
    turned a true true same = refl
    turned a true false same = refl
    turned a false true same = same
    turned a false false same = same

    none : (a c : Bool) → a ≡ c → a ≡ (c || false)
    none a true same = same
    none a false same = same

    by_test : ((emm.period == at) ≡ true) ⊎ ((emm.period == at) ≡ false) →
        list_any (λ e. e.index == x) (sections_seen at (HeardEntitles emm ∷ past))
        ≡ (list_any (is_section_item at x) kept || (((emm.period == at) && (emm.index == x)) || false))
    by_test (inl is) =
        let within : nat_le (current past) at ≡ true = grind (arith, nat_tests, is, period, now) in
        rw is (rw within (turned (list_any (λ e. e.index == x) (sections_seen at past)) (emm.index == x) (list_any
        (is_section_item at x) kept) other))
    by_test (inr is) = rw is (none (list_any (λ e. e.index == x) (sections_seen at past)) (list_any
        (is_section_item at x) kept) other)

-- the sections seen with one more
seen_more : (s : Setting) (q : ℕ) (emm : Emm) (past : List Heard) → emm.period ≡ q →
    Contains (emms_of (period_at s.plan q)) emm → (at : ℕ) → All (Contains (emms_of (period_at s.plan at)))
    (sections_seen at past) →
    All (Contains (emms_of (period_at s.plan at))) (sections_seen at (HeardEntitles emm ∷ past))
unfolding sections_seen
seen_more s q emm past period inside at all = by_test (cases_Bool (emm.period == at))
  where
    by_bound : (b : Bool) → emm.period ≡ at →
        All (Contains (emms_of (period_at s.plan at))) (if b then emm ∷ sections_seen at past
        else sections_seen at past)
    by_bound true same = All-cons (Contains (emms_of (period_at s.plan at))) emm (sections_seen at past)
        (subst (λ (p : ℕ). Contains (emms_of (period_at s.plan p)) emm) (sym period ∙ same) inside) all
    by_bound false same = all

    by_test : ((emm.period == at) ≡ true) ⊎ ((emm.period == at) ≡ false) →
        All (Contains (emms_of (period_at s.plan at))) (sections_seen at (HeardEntitles emm ∷ past))
    by_test (inl is) = rw is (by_bound (nat_le (current past) at) (grind (arith, nat_tests, is)))
    by_test (inr is) = rw is all

-- a section of the current period is none that is refused
good_section : (s : Setting) (laws : AreLaws s) (q n : ℕ) (emm : Emm) (past : List Heard) (told : Bool) →
    Contains (emms_of (period_at s.plan q)) emm → All (Contains (emms_of (period_at s.plan q))) (sections_seen q past) →
    key_at s.card past q ≡ key_where s q told → current past ≤ q → emm_offering s.card n past emm ≡ no_offering
unfolding emm_offering
good_section s laws q n emm past told inside all key now =
    subst (λ (p : ℕ). (if nat_lt p (current past) then no_offering
    else if is_mixed (sections_seen p past) emm then refusal else key_if_none n emm (key_at s.card past p)
    (key_from s.card emm)) ≡ no_offering)
    (sym due.period)
    (rw passed_by (rw alike (ap (λ (k : Option (List ℕ)). key_if_none n emm k (key_from s.card emm)) key
    ∙ (ap (key_if_none n emm (key_where s q told)) due.key ∙ by_keys told (has_leaf s emm)))))
  where
    refusal : Offering
    refusal = refused_offering (Fault.BadEmm n Emms.Mixed)

    due : IsDue s q emm
    due = laws.due q emm inside

    passed_by : nat_lt q (current past) ≡ false
    passed_by = grind (arith, nat_tests, now)

    alike : is_mixed (sections_seen q past) emm ≡ false
    alike = list_any_none (λ other. not (says_same other emm)) (sections_seen q past)
        (All-weaker (Contains (emms_of (period_at s.plan q))) (λ other. not (says_same other emm) ≡ false)
        (λ other there. ap not (laws.same q other emm there inside)) (sections_seen q past) all)

    by_keys : (a b : Bool) → key_if_none n emm (key_where s q a) (key_where s q b) ≡ no_offering
    by_keys true b = refl
    by_keys false true = rw due.check refl
    by_keys false false = refl

-- a section takes a key where it is the first that tells the leaf's
key_taken : (s : Setting) (p bound : ℕ) (emm : Emm) (past : List Heard) (kept : List Item) → IsDue s p emm →
    current past ≤ p →
    p < bound → key_at s.card past p ≡ key_where s p (is_told s p kept) →
    keys_of s.card past ≡ how_many (λ q. is_told s q kept) bound →
    keys_of s.card (HeardEntitles emm ∷ past) ≡ how_many (λ q. is_told s q (kept ++ Entitles emm ∷ [])) bound
unfolding takes_key
key_taken s p bound emm past kept due now below key are =
    ap (λ (b : Bool). keys_of s.card past + (if b then 1 else 0)) takes
    ∙ (ap (λ (n : ℕ). n + (if not (is_told s p kept) && has_leaf s emm then 1 else 0)) are
    ∙ (sym (how_many_more (λ q. is_told s q kept) p bound (has_leaf s emm) below)
    ∙ how_many_agree (with_one (λ q. is_told s q kept) p (has_leaf s emm)) (λ q. is_told s q
    (kept ++ Entitles emm ∷ [])) bound
    (λ q. ap (λ (n : ℕ). is_told s q kept || ((n == q) && has_leaf s emm)) (sym due.period) ∙ sym
    (told_more s q kept emm))))
  where
    none_where : (q : ℕ) (b : Bool) → is_none (key_where s q b) ≡ not b
    none_where q true = refl
    none_where q false = refl

    twice : (b : Bool) → not (not b) ≡ b
    twice true = refl
    twice false = refl

    within : nat_le (current past) emm.period ≡ true
    within = grind (arith, nat_tests, now, due.period)

    takes : (nat_le (current past) emm.period && (is_none (key_at s.card past emm.period) && not (is_none
        (key_from s.card emm))))
        ≡ (not (is_told s p kept) && has_leaf s emm)
    takes = rw within (ap (λ (n : ℕ). is_none (key_at s.card past n) && not (is_none (key_from s.card emm))) due.period
        ∙ (ap (λ (k : Option (List ℕ)). is_none k && not (is_none (key_from s.card emm))) key
        ∙ (ap (λ (k : Option (List ℕ)). is_none (key_where s p (is_told s p kept)) && not (is_none k)) due.key
        ∙ (ap (λ (b : Bool). b && not (is_none (key_where s p (has_leaf s emm)))) (none_where p (is_told s p kept))
        ∙ ap (λ (b : Bool). not (is_told s p kept) && b) (ap not (none_where p (has_leaf s emm)) ∙ twice
        (has_leaf s emm))))))

-- one section of the current period that is kept
pub section_heard : (s : Setting) (laws : AreLaws s) (k p n : ℕ) (last : Option ℕ) (kept : List Item)
    (past : List Heard)
    (emm : Emm) → Contains (emms_of (period_at s.plan p)) emm → AreHeard s k p n last kept past →
    AreHeard s k p n last (kept ++ Entitles emm ∷ []) (HeardEntitles emm ∷ past)
unfolding is_closed current newest_message counted_parts others messages
section_heard s laws k p n last kept past emm inside are = record {
  open_yet = rw (are.open_yet) refl;
  now = omega (arith, are.now, (laws.due p emm inside).period);
  sections = λ q. seen_more s p emm past (laws.due p emm inside).period inside q (are.sections q);
  keys = λ q. key_more s p emm past kept (laws.due p emm inside) are.now (are.keys p) q (are.keys q);
  message = are.message;
  keyed = keyed_stays s kept past (HeardEntitles emm ∷ past) last (Entitles emm ∷ []) refl are.keyed;
  parts = are.parts;
  held = are.held ∙ ap (map (carried_at s)) (sym (bare_in kept (Entitles emm) (from_last s last) k
      (section_is_bare emm)));
  begun = are.begun;
  indexes = λ q x. index_more p emm past kept (laws.due p emm inside).period are.now q x (are.indexes q x);
  told = are.told ∙ told_same s n kept (Entitles emm ∷ []) (λ a. refl);
  taken = λ bound above. key_taken s p bound emm past kept (laws.due p emm inside) are.now above (are.keys p)
      (are.taken bound above);
}

-- some sections of the current period, of which some are lost
pub sections_come : (s : Setting) (laws : AreLaws s) (k p n : ℕ) (last : Option ℕ) (emms : List Emm) (fs : List Bool)
    (kept : List Item) (past : List Heard) → All (Contains (emms_of (period_at s.plan p))) emms →
    AreKept k n last kept → AreHeard s k p n last kept past →
    Passes s k p n last (kept ++ map Entitles (chosen fs emms)) past (map HeardEntitles (chosen fs emms)) []
unfolding chosen
sections_come s laws k p n last emms [] kept past all is are =
    record {
      kept_is = subst (AreKept k n last) (sym (append-nil kept)) is;
      heard_is = subst (λ (items : List Item). AreHeard s k p n last items past) (sym (append-nil kept)) are;
      writes = refl;
    }
sections_come s laws k p n last [] (f ∷ fs) kept past all is are =
    record {
      kept_is = subst (AreKept k n last) (sym (append-nil kept)) is;
      heard_is = subst (λ (items : List Item). AreHeard s k p n last items past) (sym (append-nil kept)) are;
      writes = refl;
    }
sections_come s laws k p n last (emm ∷ emms) (false ∷ fs) kept past all is are =
    sections_come s laws k p n last emms fs kept past (All-tail (Contains (emms_of
    (period_at s.plan p))) emm emms all) is are
sections_come s laws k p n last (emm ∷ emms) (true ∷ fs) kept past all is are =
    let inside = All-head (Contains (emms_of (period_at s.plan p))) emm emms all in
    let rest = sections_come s laws k p n last emms fs (kept ++ Entitles emm ∷ []) (HeardEntitles emm ∷ past)
    (All-tail (Contains (emms_of (period_at s.plan p))) emm emms all)
    (bare_kept k n last kept (Entitles emm) (section_is_bare emm) is)
    (section_heard s laws k p n last kept past emm inside are) in
    let joined : (kept ++ Entitles emm ∷ []) ++ map Entitles (chosen fs emms) ≡ kept ++ (Entitles emm ∷ map Entitles
    (chosen fs emms)) =
    append_assoc kept (Entitles emm ∷ []) (map Entitles (chosen fs emms)) in
    record {
      kept_is = subst (AreKept k n last) joined rest.kept_is;
      heard_is = subst (λ (items : List Item). AreHeard s k p n last items (onto (map HeardEntitles (chosen fs emms))
          (HeardEntitles emm ∷ past)))
          joined rest.heard_is;
      writes = writes_nothing s.card (tuning_at s) past (HeardEntitles emm) (map HeardEntitles (chosen fs emms)) []
          (λ m. good_section s laws p m emm past (is_told s p kept) inside (are.sections p)
          (are.keys p) are.now) rest.writes;
    }
