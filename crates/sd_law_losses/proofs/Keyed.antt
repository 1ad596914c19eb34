-- What a card gets from a section of entitlements.
use Rattle.std.proofs.Common.{◌≡◌, ℕ, ◌-◌, ◌*◌, ◌^◌, ◌<◌, ◌≤◌, Bool, true, false, nat_lt, List, [], ◌∷◌, get_or}
use Rattle.std.proofs.Common.{length, take}
use Rattle.std.proofs.Common.{Some, None, if◌then◌else◌, refl, sym, ap, subst, ◌∙◌, inl, inr}
use Rattle.std.specs.Prelude.{All, Contains, find, flat_map, option_map}
use Rattle.std.specs.List.{list_any}
use Rattle.std.proofs.lemmas.Bool.{cases_Bool}
use Rattle.std.proofs.lemmas.List.Elements.{All-head, All-tail, All-map, All-contains}
use Rattle.sd_cover_tracing.proofs.Lists.{member_cases, no_member}
use Rattle.sd_tree_keys.specs.Leaves.{is_member}
use Rattle.sd_tree_keys.specs.SetNames.{IsOfHeight}
use Rattle.sd_tree_keys.specs.declared.set.SetName.{SetName}
use Rattle.sd_tree_keys.specs.Keys.{key_of, period_key_of, control_word_of, check_value_of}
use Rattle.sd_cipher.specs.Wrapping.{wrapped as under}
use Rattle.sd_cipher.proofs.Wrappings.{twice}
use Rattle.sd_site_cards.specs.CardFields.{CardFields, card_of, card_key, site_card}
use Rattle.sd_site_cards.proofs.Keys.{made_gives_key}
use Rattle.sd_site_cards.specs.SiteFields.{SiteFields}
use Rattle.sd_message.specs.EmmSpelled.{listed_entries}
use Rattle.sd_message.specs.Period.{emms_of, IsOfPeriod}
use Rattle.sd_message.specs.declared.emm.Emm.{Emm}
use Rattle.sd_message.specs.declared.emm.Entry.{Entry}
use Rattle.sd_message.proofs.EmmSharing.{all_are_of, joined_are_all}
use Rattle.sd_spec.specs.Plan.{Plan, IsPlan, sets_at, word_of, period_of, closing_number}
use Rattle.sd_spec.specs.Messages.{entry_of, period_at, message_at}
use Rattle.sd_spec.proofs.Periods.{number_is}
use Rattle.sd_law_broadcast.specs.Numbered.{numbered_message}
use Rattle.sd_law_broadcast.proofs.Fitting.{sets_stand, period_key_length, control_word_length}
use Rattle.sd_spec.specs.Keys.{key_from}
use Rattle.sd_law_losses.proofs.Lists.{split_all}

-- what is true of all joined members is true of those of one list
joined_parts : {A B : Type 0} (P : B → Type 0) (f : A → List B) (xs : List A) (x : A) → All P (flat_map f xs) →
    Contains xs x → All P (f x)
joined_parts P f [] x all m = absurd (no_member x m)
joined_parts P f (y ∷ ys) x all m =
    let parts = split_all P (f y) (flat_map f ys) all in
    elim (member_cases y ys x m) [
      | inl same ↦ subst (λ z. All P (f z)) same parts.0
      | inr later ↦ joined_parts P f ys x parts.1 later
    ]

-- an entry of period q
record IsEntry (site : SiteFields) (q : ℕ) (entry : Entry) : Type 0 where
  name : IsOfHeight site.height entry.name
  key : entry.wrapped ≡ under (key_of site.master entry.name) q (period_key_of site.master q)

entry_is : (site : SiteFields) (q : ℕ) (name : SetName) → IsOfHeight site.height name → IsEntry site q
    (entry_of site q name)
unfolding entry_of
entry_is site q name high = record { name = high; key = refl }

entries_are : (plan : Plan) (q : ℕ) → IsPlan plan → All (IsEntry plan.site q) (period_at plan q).entries
unfolding period_at
entries_are plan q is =
    All-map (IsEntry plan.site q) (entry_of plan.site q) (sets_at plan q)
    (λ k d within. entry_is plan.site q (get_or (sets_at plan q) k d) (sets_stand plan q is k d within).of_height)

-- a card that has a leaf of the site's tree
record IsCardFor (site : SiteFields) (card : CardFields) : Type 0 where
  keys : (name : SetName) → IsOfHeight site.height name → is_member card.height name card.leaf ≡ true →
      card_key card name ≡ key_of site.master name

made_for : (site : SiteFields) (u : ℕ) → site.height ≤ 20 → u < 2 ^ site.height →
    IsCardFor site (site_card site u)
unfolding card_of
made_for site u high within = record {
  keys = λ name named member. made_gives_key site.master site.ca site.height u name high within named member;
}

-- the key in the first of some entries whose set has the leaf
module _ (site : SiteFields) (q : ℕ) (card : CardFields) (is : IsCardFor site card) where
  abbrev unwrapped : Entry → List ℕ
  unwrapped entry = under (card_key card entry.name) q entry.wrapped

  abbrev has_leaf : Entry → Bool
  has_leaf entry = is_member card.height entry.name card.leaf

  key_among : (entries : List Entry) → All (IsEntry site q) entries →
      option_map unwrapped (find has_leaf entries)
      ≡ (if list_any has_leaf entries then Some (period_key_of site.master q) else None)
  key_among [] each = refl
  key_among (entry ∷ entries) each = elim (cases_Bool (is_member card.height entry.name card.leaf)) [
    | inl member ↦
        let its = All-head (IsEntry site q) entry entries each in
        let key : under (card_key card entry.name) q entry.wrapped ≡ period_key_of site.master q =
        ap (λ (k : List ℕ). under k q entry.wrapped) (is.keys entry.name its.name member)
        ∙ (ap (under (key_of site.master entry.name) q) its.key
        ∙ twice (key_of site.master entry.name) (period_key_of site.master q) q
        (period_key_length site.master q)) in
        rw member (ap (λ (k : List ℕ). Some k) key)
    | inr other ↦ rw other (key_among entries (All-tail (IsEntry site q) entry entries each))
  ]

-- a section's number, and its check value
section_of_period : (plan : Plan) (q : ℕ) (emm : Emm) → Contains (emms_of (period_at plan q)) emm →
    IsOfPeriod (period_at plan q) emm
section_of_period plan q emm m =
    All-contains (IsOfPeriod (period_at plan q)) (emms_of (period_at plan q)) emm (all_are_of (period_at plan q)) m

check_is : (plan : Plan) (q : ℕ) → (period_at plan q).check ≡ check_value_of (period_key_of plan.site.master q)
unfolding period_at
check_is plan q = refl

pub check_due : (plan : Plan) (q : ℕ) (emm : Emm) → Contains (emms_of (period_at plan q)) emm →
    emm.check ≡ check_value_of (period_key_of plan.site.master q)
check_due plan q emm m = (section_of_period plan q emm m).check ∙ check_is plan q

-- the key from a section
key_of_card : (plan : Plan) (q : ℕ) (emm : Emm) (card : CardFields) → IsPlan plan → IsCardFor plan.site card →
    Contains (emms_of (period_at plan q)) emm →
    key_from card emm ≡ (if list_any (λ entry. is_member card.height entry.name card.leaf) (listed_entries emm)
    then Some (period_key_of plan.site.master q) else None)
unfolding key_from
key_of_card plan q emm card is made m =
    let number : emm.period ≡ q = (section_of_period plan q emm m).number ∙ number_is plan q in
    let entries = joined_parts (IsEntry plan.site q) listed_entries (emms_of (period_at plan q)) emm
    (subst (All (IsEntry plan.site q)) (sym (joined_are_all (period_at plan q))) (entries_are plan q is)) m in
    rw number (key_among plan.site q card made (listed_entries emm) entries)

pub key_due : (plan : Plan) (q u : ℕ) (emm : Emm) → IsPlan plan → u < 2 ^ plan.site.height →
    Contains (emms_of (period_at plan q)) emm →
    key_from (site_card plan.site u) emm
    ≡ (if list_any (λ entry. is_member plan.site.height entry.name u) (listed_entries emm)
    then Some (period_key_of plan.site.master q) else None)
unfolding card_of
key_due plan q u emm is within m =
    key_of_card plan q emm (site_card plan.site u) is
    (made_for plan.site u is.site.height.1 within) m

-- a message has its control word under its period's key, and the word's check value
word_at : (plan : Plan) (before : List (List ℕ)) (a k : ℕ) (closing : Bool) →
    under (period_key_of plan.site.master (message_at plan before a k closing).period)
    (message_at plan before a k closing).word (message_at plan before a k closing).wrapped
    ≡ control_word_of plan.site.master (message_at plan before a k closing).word
unfolding message_at
word_at plan before a k closing =
    twice (period_key_of plan.site.master (period_of plan k)) (control_word_of plan.site.master (word_of plan.site k))
    (word_of plan.site k) (control_word_length plan.site.master (word_of plan.site k))

check_at : (plan : Plan) (before : List (List ℕ)) (a k : ℕ) (closing : Bool) →
    (message_at plan before a k closing).check
    ≡ check_value_of (control_word_of plan.site.master (message_at plan before a k closing).word)
unfolding message_at
check_at plan before a k closing = refl

pub word_due : (plan : Plan) (clear : List (List ℕ)) (a : ℕ) →
    under (period_key_of plan.site.master (numbered_message plan clear a).period) (numbered_message plan clear a).word
    (numbered_message plan clear a).wrapped ≡ control_word_of plan.site.master (numbered_message plan clear a).word
unfolding numbered_message
word_due plan clear a = elim (cases_Bool (nat_lt a (closing_number plan.site (length clear)))) [
  | inl inner ↦ rw inner (word_at plan (take (a * plan.site.every) clear) a (a * plan.site.every) false)
  | inr last ↦ rw last (word_at plan clear a (length clear - 1) true)
]

pub word_check_due : (plan : Plan) (clear : List (List ℕ)) (a : ℕ) →
    (numbered_message plan clear a).check ≡ check_value_of (control_word_of plan.site.master
    (numbered_message plan clear a).word)
unfolding numbered_message
word_check_due plan clear a = elim (cases_Bool (nat_lt a (closing_number plan.site (length clear)))) [
  | inl inner ↦ rw inner (check_at plan (take (a * plan.site.every) clear) a (a * plan.site.every) false)
  | inr last ↦ rw last (check_at plan clear a (length clear - 1) true)
]
