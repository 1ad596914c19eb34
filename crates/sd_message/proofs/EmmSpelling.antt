-- What is read from a section's body spells it.
use Rattle.std.proofs.Common.{◌≡◌, ℕ, ◌+◌, ◌*◌, ◌<◌, ◌≤◌, List, [], ◌∷◌, ◌++◌, length, take, drop, take-add, drop-drop}
use Rattle.std.proofs.Common.{length-drop, length-take-le, get_or-take, get_or, append_assoc, inl, inr, arith, refl}
use Rattle.std.proofs.Common.{sym, ap, ◌∙◌}
use Rattle.std.specs.Prelude.{Bool, true, false, is_some, ◌-◌, slice_index, slice_range, flat_map}
use Rattle.std.specs.Int.{w16, w32, to_be_bytes}
use Rattle.std.proofs.lemmas.Bool.{cases_lt}
use Rattle.std.proofs.lemmas.List.{get_or_default, drop_more, take_all, take-append-drop}
use Rattle.sd_base.specs.Bits.{field}
use Rattle.sd_base.proofs.Lists.{same_parts}
use Rattle.sd_message.proofs.Numbers.{IsBytes, bytes_drop, word_spelled, half_spelled}
use Rattle.sd_message.proofs.Items as Items
use Rattle.sd_message.proofs.Items.{items_spelled}
use Rattle.sd_message.proofs.Names.{name_cases}
use Rattle.sd_message.proofs.EmmJudging.{IsPrefix, listed_in}
use Rattle.sd_section.specs.Header.{table_id_of, extension_of, body_of}
use Rattle.sd_section.specs.Written.{section_bytes}
use Rattle.sd_message.specs.Framed.{header_of}
use Rattle.sd_message.specs.EmmSpelled.{listed_entries, emm_body, name_bytes, run_bytes, emm_head_bytes, entry_bytes}
use Rattle.sd_message.specs.EmmSpelled.{emm_header}
use Rattle.sd_message.specs.EmmSpelled.{table_id_for}
use Rattle.sd_message.specs.EmmForm.{AreWrapped}
use Rattle.sd_message.specs.EmmFields.{set_name_of, emm_entry_in, is_named, IsEmmTable, count_at, emm_head_length}
use Rattle.sd_message.specs.EmmFields.{emm_run_in, emm_in}
use Rattle.sd_message.specs.EmmFields.{IsEmmSection}
use Rattle.sd_message.specs.declared.emm.Entry.{Entry}
use Rattle.sd_message.specs.declared.emm.Emm.{Emm}

-- what is put after something in three pieces
pub put_after : (old a b c : List ℕ) → ((old ++ a) ++ b) ++ c ≡ old ++ ((a ++ b) ++ c)
put_after old a b c = ap (λ (l : List ℕ). l ++ c) (append_assoc old a b) ∙ append_assoc old (a ++ b) c

-- one more entry is put
pub one_put : (head body : List ℕ) (entries : List Entry) (k : ℕ) (d : Entry) → k < length entries →
    body ≡ head ++ flat_map entry_bytes (take k entries) →
    body ++ entry_bytes (get_or entries k d) ≡ head ++ flat_map entry_bytes (take (k + 1) entries)
one_put head body entries k d within is = Items.one_put entry_bytes head body entries k d within is

-- no key is wrapped yet
pub none_wrapped : (entries : List Entry) → AreWrapped (take 0 entries)
none_wrapped entries k d below = absurd (omega arith)

-- one more is
pub one_wrapped : (entries : List Entry) (k : ℕ) (e : Entry) → k < length entries → AreWrapped (take k entries) →
    length (get_or entries k e).wrapped ≡ 32 →
    AreWrapped (take (k + 1) entries)
one_wrapped entries k e within all one m d below =
    let long = length-take-le (k + 1) entries (omega arith) in
    let short = length-take-le k entries (omega arith) in
    rw (get_or-take (k + 1) entries m d (omega arith)) (elim (cases_lt m k) [
      | inl h ↦ rw (get_or-take k entries m d h) at (all m d (omega arith))
      | inr g ↦ let f : m ≡ k = omega arith in rw f (rw (get_or_default entries k e d within) at one)
    ])

-- a section of entitlements has their header
pub emm_headed : (section : List ℕ) → IsEmmSection section → section ≡ section_bytes (header_of section)
    (body_of section) →
    section ≡ section_bytes (emm_header (table_id_of section) (extension_of section)) (body_of section)
unfolding header_of
emm_headed section emm is = rw (emm.number, emm.last_number) at is

-- its table_id tells whether the broadcast is named
pub table_again : (table_id : ℕ) (body : List ℕ) → IsEmmTable table_id →
    table_id_for (emm_run_in (is_named table_id) body) ≡ table_id
unfolding emm_run_in
table_again table_id body (inl e) = rw e refl
table_again table_id body (inr e) = rw e refl

pub named_again : (named : Bool) (body : List ℕ) → is_some (emm_run_in named body) ≡ named
unfolding emm_run_in
named_again false body = refl
named_again true body = refl

pub named_read : (named : Bool) (index : ℕ) (body : List ℕ) (head : Emm) → IsPrefix named index body head →
    is_some head.run ≡ named
unfolding emm_in
named_read named index body head is = ap (λ (e : Emm). is_some e.run) is ∙ named_again named body

-- a name is spelled as the pair that it was read from
name_spelled : (i j : ℕ) → name_bytes (set_name_of i j) ≡ to_be_bytes w32 i ++ to_be_bytes w32 j
name_spelled i j = elim (name_cases i j) [
  | inl whole ↦ ap name_bytes whole.1 ∙ sym (ap (λ (n : ℕ). to_be_bytes w32 n ++ to_be_bytes w32 j) whole.0.0
      ∙ ap (λ (n : ℕ). to_be_bytes w32 0 ++ to_be_bytes w32 n) whole.0.1)
  | inr diff ↦ ap name_bytes diff.1
]

-- an entry is spelled as it was read
entry_spelled : (bytes : List ℕ) → IsBytes bytes → length bytes ≡ 40 → entry_bytes (emm_entry_in bytes) ≡ bytes
unfolding entry_bytes emm_entry_in
entry_spelled bytes each long =
    let first : to_be_bytes w32 (field bytes 0 32) ≡ take 4 bytes = word_spelled bytes 0 each (omega arith) in
    let second : to_be_bytes w32 (field bytes 32 32) ≡ take 4 (drop 4 bytes) = word_spelled bytes 4 each (omega arith)
    in
    let name : name_bytes (set_name_of (field bytes 0 32) (field bytes 32 32)) ≡ take 8 bytes =
    name_spelled (field bytes 0 32) (field bytes 32 32)
    ∙ (ap (λ (l : List ℕ). l ++ to_be_bytes w32 (field bytes 32 32)) first
    ∙ (ap (λ (l : List ℕ). take 4 bytes ++ l) second ∙ sym (take-add 4 4 bytes))) in
    let after : take 32 (drop 8 bytes) ≡ drop 8 bytes = take_all 32 (drop 8 bytes) (omega (arith, length-drop 8 bytes))
    in
    rw (name, after) (take-append-drop 8 bytes)

-- five pieces are as four of them are
same_five : (a a' b b' c c' k d d' : List ℕ) → a ≡ a' → b ≡ b' → c ≡ c' → d ≡ d' →
    a ++ (b ++ (c ++ (k ++ d))) ≡ a' ++ (b' ++ (c' ++ (k ++ d')))
same_five a a' b b' c c' k d d' p q r s = rw (p, q, r, s) refl

-- the first bytes of a list in pieces
piece : (m n k : ℕ) (xs : List ℕ) (p q : ℕ) → m + n ≡ k → p + m ≡ q →
    take k (drop p xs) ≡ take m (drop p xs) ++ take n (drop q xs)
piece m n k xs p q long next =
    sym (ap (λ (j : ℕ). take j (drop p xs)) long)
    ∙ (take-add m n (drop p xs)
    ∙ (ap (λ (l : List ℕ). take m (drop p xs) ++ take n l) (drop-drop m p xs)
    ∙ ap (λ (j : ℕ). take m (drop p xs) ++ take n (drop j xs)) next))

-- those before the broadcast's name, and as many after them
five_pieces : (n : ℕ) (body : List ℕ) →
    take 4 body ++ (take 4 (drop 4 body) ++ (take 2 (drop 8 body) ++ (slice_range body 10 26 ++ take n (drop 26 body))))
    ≡ take (26 + n) body
five_pieces n body =
    sym (piece 4 (22 + n) (26 + n) body 0 4 (omega arith) refl
    ∙ ap (λ (l : List ℕ). take 4 body ++ l) (piece 4 (18 + n) (22 + n) body 4 8 (omega arith) refl
    ∙ ap (λ (l : List ℕ). take 4 (drop 4 body) ++ l) (piece 2 (16 + n) (18 + n) body 8 10 (omega arith) refl
    ∙ ap (λ (l : List ℕ). take 2 (drop 8 body) ++ l) (piece 16 n (16 + n) body 10 26 refl refl))))

-- the name and the count are spelled as they were read
count_spelled : (body : List ℕ) (p : ℕ) → p < length body → slice_index body p ∷ [] ≡ take 1 (drop p body)
count_spelled body p within = sym (ap (take 1) (drop_more body p 0 within))

name_and_count : (named : Bool) (body : List ℕ) → IsBytes body → emm_head_length named ≤ length body →
    run_bytes (emm_run_in named body) ++ slice_index body (count_at named) ∷ [] ≡ take (emm_head_length named - 26)
    (drop 26 body)
unfolding emm_run_in count_at
name_and_count false body each long = count_spelled body 26 (omega arith)
name_and_count true body each long =
    same_parts _ _ _ _ (word_spelled body 26 each (omega arith)) (count_spelled body 30 (omega arith))
    ∙ sym (piece 4 1 5 body 26 30 refl refl)

-- the head is longer than what stands before the name
head_long : (named : Bool) → 27 ≤ emm_head_length named
unfolding count_at
head_long false = omega arith
head_long true = omega arith

-- so is the body before its entries
head_spelled : (named : Bool) (index : ℕ) (body : List ℕ) → IsBytes body → emm_head_length named ≤ length body →
    emm_head_bytes (emm_in named index body) ≡ take (emm_head_length named) body
unfolding emm_head_bytes emm_in
head_spelled named index body each long =
    let low = head_long named in
    let period : to_be_bytes w32 (field body 0 32) ≡ take 4 body = word_spelled body 0 each (omega arith) in
    let sets : to_be_bytes w32 (field body 32 32) ≡ take 4 (drop 4 body) = word_spelled body 4 each (omega arith) in
    let sections : to_be_bytes w16 (field body 64 16) ≡ take 2 (drop 8 body) = half_spelled body 8 each (omega arith) in
    let all : 26 + (emm_head_length named - 26) ≡ emm_head_length named = omega arith in
    same_five _ _ _ _ _ _ (slice_range body 10 26) _ _ period sets sections (name_and_count named body each long)
    ∙ (five_pieces (emm_head_length named - 26) body ∙ ap (λ (n : ℕ). take n body) all)

-- so is the whole body
pub body_spelled : (named : Bool) (index : ℕ) (body : List ℕ) → IsBytes body →
    length body ≡ emm_head_length named + 40 * (emm_in named index body).count →
    emm_body (emm_in named index body) ≡ body
unfolding emm_body
body_spelled named index body each long =
    let count : ℕ = (emm_in named index body).count in
    let n : ℕ = emm_head_length named in
    let entries : flat_map entry_bytes (listed_entries (emm_in named index body)) ≡ drop n body =
    ap (flat_map entry_bytes) (listed_in named index body)
    ∙ items_spelled emm_entry_in entry_bytes 40 count (drop n body) entry_spelled (bytes_drop n body each)
    (omega (arith, length-drop n body)) in
    ap (λ (l : List ℕ). l ++ flat_map entry_bytes (listed_entries (emm_in named index body)))
    (head_spelled named index body each (omega arith))
    ∙ (ap (λ (l : List ℕ). take n body ++ l) entries ∙ take-append-drop n body)
