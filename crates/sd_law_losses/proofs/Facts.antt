-- What holds of a receiver after some of a broadcast, of which packets were lost.
use Rattle.std.proofs.Common.{◌+◌, if◌then◌else◌}
use Rattle.std.proofs.Common.{◌≡◌, refl, ℕ, ◌-◌, ◌<◌, ◌≤◌, ◌==◌, ◌||◌, Bool, true, false}
use Rattle.std.proofs.Common.{List, [], ◌∷◌, ◌++◌, map, filter, reverse, Option, Some, None}
use Rattle.std.proofs.Common.{arith, sym, ap, ◌∙◌, append_assoc}
use Rattle.std.specs.Prelude.{All, Contains, option_map}
use Rattle.std.specs.List.{list_any, range_with_len}
use Rattle.std.proofs.lemmas.List.Elements.{filter_agree}
use Rattle.std.proofs.lemmas.List.Folds.{list_any-append}
use Rattle.sd_message.specs.Period.{emms_of}
use Rattle.sd_message.specs.declared.emm.Emm.{Emm}
use Rattle.sd_spec.specs.Plan.{period_of}
use Rattle.sd_spec.specs.Messages.{period_at}
use Rattle.sd_spec.specs.Sent.{Item, Cat, Entitles}
use Rattle.sd_spec.specs.Heard.{Heard, Dropped}
use Rattle.sd_spec.specs.Stretches.{messages, newest_message, counted_parts, current, sections_seen, is_closed, others}
use Rattle.sd_spec.specs.Stretches.{held_in}
use Rattle.sd_spec.specs.Keys.{key_at}
use Rattle.sd_law_losses.specs.Kept.{is_section_item, is_kept, is_carried, kept_in, has_arrived, entitles}
use Rattle.sd_law_losses.specs.Kept.{is_entitled_before}
use Rattle.sd_law_losses.proofs.Writing.{onto, Writes}
use Rattle.sd_law_losses.proofs.Coming.{counting}
use Rattle.sd_law_losses.specs.Taken.{takes_key_of, how_many}
use Rattle.sd_law_losses.proofs.Taking.{keys_of, how_many_agree}
use Rattle.sd_law_losses.proofs.Arriving.{is_of, arrived_stays}
use Rattle.sd_law_losses.proofs.Setting.{Setting, tuning_at, told_by, carried_at, key_where}
use Rattle.sd_law_losses.proofs.Pairs.{start_of}
use Rattle.sd_law_losses.proofs.Between.{packets_held}

-- the packet from which on packets are held: that of the last message
abbrev pub from_last : Setting → Option ℕ → ℕ
from_last s None = 0
from_last s (Some a) = start_of s a

-- the greatest number of a message that has arrived, which is below n
abbrev pub IsLast : ℕ → List Item → Option ℕ → Type 0
IsLast n kept None = (b : ℕ) → has_arrived kept b ≡ false
IsLast n kept (Some a) = (a < n) × (has_arrived kept a ≡ true) × ((b : ℕ) → a < b → has_arrived kept b ≡ false)

-- the key of the last message's period is had before it exactly where it was told before it
abbrev pub IsKeyed : Setting → List Item → List Heard → Option ℕ → Type 0
IsKeyed s kept past None = Unit {0}
IsKeyed s kept past (Some a) = (later : List Item) →
    key_at s.card (newest_message past).before (period_of s.plan (start_of s a)) ≡ key_where s
    (period_of s.plan (start_of s a))
    (is_entitled_before s.plan.site.height s.card.leaf (period_of s.plan (start_of s a)) a (kept ++ later))

-- Of what was kept: the last message that arrived, no part of message n or of a later one, and no clear packet from k
-- on.
pub record AreKept (k n : ℕ) (last : Option ℕ) (kept : List Item) : Type 0 where
  pub last_is : IsLast n kept last
  pub none : (a : ℕ) → n ≤ a → list_any (is_of a) kept ≡ false
  pub passed : (j : ℕ) → k ≤ j → is_kept kept j ≡ false

-- the sections of period q that are kept entitle the leaf
abbrev pub is_told : Setting → ℕ → List Item → Bool
is_told s q kept = list_any (entitles s.plan.site.height s.card.leaf q) kept

-- What was heard of what was kept: no period after p was told of, the sections that were seen are of the broadcast, and
-- the key of a period is had exactly where it was told; the newest message is the last that arrived, parts that count
-- are of messages before n, and the packets that are held are the ones kept since.
pub record AreHeard (s : Setting) (k p n : ℕ) (last : Option ℕ) (kept : List Item) (past : List Heard) : Type 0 where
  pub open_yet : is_closed past ≡ false
  pub now : current past ≤ p
  pub sections : (q : ℕ) → All (Contains (emms_of (period_at s.plan q))) (sections_seen q past)
  pub keys : (q : ℕ) → key_at s.card past q ≡ key_where s q (is_told s q kept)
  pub message : (newest_message past).message ≡ option_map (told_by s) last
  pub keyed : IsKeyed s kept past last
  pub parts : All (λ part. part.number < n) (counting past)
  pub held : packets_held (held_in (newest_message past)) ≡ map (carried_at s) (kept_in kept (from_last s last) k)
  pub begun : from_last s last ≤ k
  pub indexes : (q x : ℕ) → list_any (λ emm. emm.index == x) (sections_seen q past) ≡ list_any (is_section_item q x)
      kept
  pub told : messages past ≡ map (told_by s) (reverse (filter (has_arrived kept) (range_with_len 0 n)))
  pub taken : (bound : ℕ) → p < bound → keys_of s.card past ≡ how_many (λ q. is_told s q kept) bound

-- an item that is no part and no clear packet
pub record IsBare (item : Item) : Type 0 where
  pub part : (a : ℕ) → is_of a item ≡ false
  pub packet : (j : ℕ) → is_carried j item ≡ false

pub any_last : {A : Type 0} (p : A → Bool) (xs : List A) (x : A) → list_any p xs ≡ false → p x ≡ false →
    list_any p (xs ++ x ∷ []) ≡ false
any_last p xs x none fails = list_any-append p xs (x ∷ []) ∙ (rw none (rw fails refl))

pub any_more : {A : Type 0} (p : A → Bool) (xs : List A) (x : A) → p x ≡ false →
    list_any p (xs ++ x ∷ []) ≡ list_any p xs
any_more p xs x fails = list_any-append p xs (x ∷ []) ∙ (rw fails (or_none (list_any p xs)))
  where
    or_none : (b : Bool) → (b || false) ≡ b
    or_none true = refl
    or_none false = refl

-- an item that is no part leaves what has arrived
pub last_stays : (n : ℕ) (last : Option ℕ) (kept later : List Item) → ((a : ℕ) → list_any (is_of a) later ≡ false) →
    IsLast n kept last → IsLast n (kept ++ later) last
last_stays n None kept later none is = λ b. arrived_stays kept later b (none b) ∙ is b
last_stays n (Some a) kept later none is =
    (is.0, arrived_stays kept later a (none a) ∙ is.1, λ b above. arrived_stays kept later b (none b) ∙ is.2 b above)

pub any_one : {A : Type 0} (p : A → Bool) (x : A) → p x ≡ false → list_any p (x ∷ []) ≡ false
any_one p x fails = rw fails refl

pub bare_kept : (k n : ℕ) (last : Option ℕ) (kept : List Item) (item : Item) → IsBare item → AreKept k n last kept →
    AreKept k n last (kept ++ item ∷ [])
bare_kept k n last kept item bare are = record {
  last_is = last_stays n last kept (item ∷ []) (λ a. any_one (is_of a) item (bare.part a)) are.last_is;
  none = λ a above. any_last (is_of a) kept item (are.none a above) (bare.part a);
  passed = λ j above. any_last (is_carried j) kept item (are.passed j above) (bare.packet j);
}

-- the same clear packets are kept with it
pub bare_in : (kept : List Item) (item : Item) (low high : ℕ) → IsBare item →
    kept_in (kept ++ item ∷ []) low high ≡ kept_in kept low high
unfolding kept_in
bare_in kept item low high bare = filter_agree (is_kept (kept ++ item ∷ [])) (is_kept kept)
    (λ j. any_more (is_carried j) kept item (bare.packet j)) (range_with_len low (high - low))

-- what was told before a message stays
pub keyed_stays : (s : Setting) (kept : List Item) (past now : List Heard) (last : Option ℕ) (later : List Item) →
    (newest_message now).before ≡ (newest_message past).before → IsKeyed s kept past last →
    IsKeyed s (kept ++ later) now last
keyed_stays s kept past now None later same is = tt
keyed_stays s kept past now (Some a) later same is = λ more.
    ap (λ (before : List Heard). key_at s.card before (period_of s.plan (start_of s a))) same
    ∙ (is (later ++ more)
    ∙ ap (λ (items : List Item). key_where s (period_of s.plan (start_of s a))
    (is_entitled_before s.plan.site.height s.card.leaf (period_of s.plan (start_of s a)) a items)) (sym
    (append_assoc kept later more)))

-- nor does it change which messages have arrived
pub arrived_same : (n : ℕ) (kept later : List Item) → ((a : ℕ) → list_any (is_of a) later ≡ false) →
    filter (has_arrived (kept ++ later)) (range_with_len 0 n) ≡ filter (has_arrived kept) (range_with_len 0 n)
arrived_same n kept later none =
    filter_agree (has_arrived (kept ++ later)) (has_arrived kept) (λ a. arrived_stays kept later a (none a))
    (range_with_len 0 n)

pub told_same : (s : Setting) (n : ℕ) (kept later : List Item) → ((a : ℕ) → list_any (is_of a) later ≡ false) →
    map (told_by s) (reverse (filter (has_arrived kept) (range_with_len 0 n)))
    ≡ map (told_by s) (reverse (filter (has_arrived (kept ++ later)) (range_with_len 0 n)))
told_same s n kept later none =
    ap (λ (ns : List ℕ). map (told_by s) (reverse ns)) (sym (arrived_same n kept later none))

pub cat_is_bare : IsBare Cat
cat_is_bare = record { part = λ a. refl; packet = λ j. refl }

pub section_is_bare : (emm : Emm) → IsBare (Entitles emm)
section_is_bare emm = record { part = λ a. refl; packet = λ j. refl }

-- a thing that tells no key takes none
pub keys_same : (s : Setting) (kept later : List Item) (past : List Heard) (thing : Heard) (p bound : ℕ) →
    takes_key_of s.card past thing ≡ false → ((q : ℕ) → is_told s q (kept ++ later) ≡ is_told s q kept) →
    keys_of s.card past ≡ how_many (λ q. is_told s q kept) bound →
    keys_of s.card (thing ∷ past) ≡ how_many (λ q. is_told s q (kept ++ later)) bound
keys_same s kept later past thing p bound none same are =
    ap (λ (b : Bool). keys_of s.card past + (if b then 1 else 0)) none
    ∙ (omega arith ∙ (are ∙ how_many_agree (λ q. is_told s q kept) (λ q. is_told s q (kept ++ later)) bound (λ q. sym
    (same q))))

-- a CAT that is kept is dropped
pub cat_heard : (s : Setting) (k p n : ℕ) (last : Option ℕ) (kept : List Item) (past : List Heard) →
    AreHeard s k p n last kept past → AreHeard s k p n last (kept ++ Cat ∷ []) (Dropped ∷ past)
unfolding is_closed current sections_seen newest_message counted_parts others messages
cat_heard s k p n last kept past are = record {
  open_yet = rw (are.open_yet) refl;
  now = omega (arith, are.now);
  sections = are.sections;
  keys = λ q. are.keys q ∙ ap (key_where s q) (sym (any_more (entitles s.plan.site.height s.card.leaf q) kept Cat
      refl));
  message = are.message;
  keyed = keyed_stays s kept past (Dropped ∷ past) last (Cat ∷ []) refl are.keyed;
  parts = are.parts;
  held = are.held ∙ ap (map (carried_at s)) (sym (bare_in kept Cat (from_last s last) k cat_is_bare));
  begun = are.begun;
  indexes = λ q x. are.indexes q x ∙ sym (any_more (is_section_item q x) kept Cat refl);
  told = are.told ∙ told_same s n kept (Cat ∷ []) (λ a. refl);
  taken = λ bound above. keys_same s kept (Cat ∷ []) past Dropped p bound refl (λ q. any_more
      (entitles s.plan.site.height s.card.leaf q) kept Cat refl)
      (are.taken bound above);
}

-- what holds after things of which this is written
pub record Passes (s : Setting) (k p n : ℕ) (last : Option ℕ) (kept : List Item) (past things : List Heard)
    (wrote : List (List ℕ)) : Type 0 where
  pub kept_is : AreKept k n last kept
  pub heard_is : AreHeard s k p n last kept (onto things past)
  pub writes : Writes s.card (tuning_at s) past things wrote
