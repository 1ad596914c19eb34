-- What is spelled is read as what it was.
use Rattle.std.proofs.Common.{◌≡◌, ℕ, ◌+◌, ◌*◌, ◌^◌, ◌<◌, ◌≤◌, List, [], ◌∷◌, ◌++◌, length, take, drop, get_or}
use Rattle.std.proofs.Common.{append_assoc}
use Rattle.std.proofs.Common.{length-append, length-take-le, drop-drop, get_or-drop, arith, refl, sym, ap, ◌∙◌}
use Rattle.std.specs.Prelude.{All, slice_index, flat_map, Option, Some, None, IfSome, is_some}
use Rattle.std.proofs.lemmas.List.{take_at, drop_at, take_all}
use Rattle.sd_base.specs.Bits.{field}
use Rattle.sd_tree_keys.specs.declared.set.SetName.{SetName}
use Rattle.sd_tree_keys.specs.declared.set.SetName.TheVariants.{Whole, Diff}
use Rattle.sd_message.proofs.Numbers.{half_again, word_again}
use Rattle.sd_message.proofs.Items.{items_again, long_items}
use Rattle.sd_message.proofs.Pieces.{filled_again}
use Rattle.sd_message.specs.EmmSpelled.{listed_entries, name_bytes, entry_bytes, run_bytes, emm_head_bytes, emm_body}
use Rattle.sd_message.specs.EmmForm.{AreSets, IsEmm, FitsEmmFields, no_entry}
use Rattle.sd_message.specs.EmmFields.{set_name_of, emm_entry_in, entries_in, padded_entries, count_at, emm_head_length}
use Rattle.sd_message.specs.EmmFields.{emm_run_in, emm_in}
use Rattle.sd_message.specs.declared.emm.Entry.{Entry}
use Rattle.sd_message.specs.declared.emm.Emm.{Emm}
use Rattle.sd_message.proofs.Names.{name_again}

-- the entry's fields fit
record IsSpellable (entry : Entry) : Type 0 where
  name : (rest : List ℕ) → set_name_of (field (name_bytes entry.name ++ rest) 0 32)
      (field (name_bytes entry.name ++ rest) 32 32) ≡ entry.name
  wrapped : length entry.wrapped ≡ 32

long_name : (name : SetName) → length (name_bytes name) ≡ 8
long_name Whole = refl
long_name (Diff i j) = refl

long_entry : (entry : Entry) → IsSpellable entry → length (entry_bytes entry) ≡ 40
unfolding entry_bytes
long_entry entry fits = omega (
  arith,
  length-append (name_bytes entry.name) entry.wrapped,
  long_name entry.name,
  fits.wrapped,
)

-- an entry alone
entry_alone : (entry : Entry) → IsSpellable entry → emm_entry_in (entry_bytes entry) ≡ entry
unfolding emm_entry_in entry_bytes
entry_alone entry fits =
    let after : drop 8 (name_bytes entry.name ++ entry.wrapped) ≡ entry.wrapped =
    drop_at (name_bytes entry.name) entry.wrapped 8 (long_name entry.name) in
    rw (fits.name entry.wrapped, after, take_all 32 entry.wrapped (omega (arith, fits.wrapped))) refl

-- entitlements by their fields
abbrev made : ℕ → ℕ → ℕ → ℕ → List ℕ → Option ℕ → ℕ → List Entry → Emm
made period sets sections index check run count entries =
    record {
      period = period;
      sets = sets;
      sections = sections;
      index = index;
      check = check;
      run = run;
      count = count;
      entries =
          entries;
    }

same_made : (p p' s s' n n' x : ℕ) (c c' : List ℕ) (r r' : Option ℕ) (k k' : ℕ) (e e' : List Entry) → p ≡ p' → s ≡ s' →
    n ≡ n' → c ≡ c' → r ≡ r' → k ≡ k' → e ≡ e' →
    made p s n x c r k e ≡ made p' s' n' x c' r' k' e'
same_made p p' s s' n n' x c c' r r' k k' e e' f g h i o j l = rw (f, g, h, i, o, j, l) refl

-- how many entries there are
pub few_entries : (emm : Emm) → IsEmm emm → emm.count ≤ 3
few_entries emm form = omega (arith, form.counted.count_is)

-- each that there is can be spelled
all_spellable : (h : ℕ) (emm : Emm) → h ≤ 20 → FitsEmmFields emm → IsEmm emm → AreSets h emm.sets (listed_entries emm) →
    All IsSpellable (listed_entries emm)
all_spellable h emm high fits form sets k d below =
    record {
      name = λ rest. name_again h emm.sets (get_or (listed_entries emm) k d).name rest high (sets k d below);
      wrapped = fits.wrapped k d below;
    }

-- filled up, they are all entries
padded_again : (emm : Emm) → FitsEmmFields emm → IsEmm emm → padded_entries (listed_entries emm) ≡ emm.entries
padded_again emm fits form =
    let few = few_entries emm form in
    filled_again 3 emm.count no_entry emm.entries (length-take-le emm.count emm.entries (omega (arith, fits.entries)))
    form.rest

-- what is read after the check value
record IsTail (name : Option ℕ) (many : ℕ) (entries xs : List ℕ) : Type 0 where
  run : emm_run_in (is_some name) xs ≡ name
  count : slice_index xs (count_at (is_some name)) ≡ many
  rest : drop (emm_head_length (is_some name)) xs ≡ entries

tail_read : (run : Option ℕ) (count : ℕ) (entries xs : List ℕ) → IfSome run (λ name. name < 2 ^ 32) →
    drop 26 xs ≡ run_bytes run ++ count ∷ entries → IsTail run count entries xs
unfolding emm_run_in count_at
tail_read None count entries xs fits is = record {
  run = refl;
  count = sym (get_or-drop 26 xs 0 0) ∙ ap (λ (l : List ℕ). get_or l 0 0) is;
  rest = sym (drop-drop 1 26 xs) ∙ ap (drop 1) is;
}
tail_read (Some run) count entries xs fits is =
    let byte : (k : ℕ) → get_or xs (26 + k) 0 ≡ get_or (run_bytes (Some run) ++ count ∷ entries) k 0 =
    λ k. sym (get_or-drop 26 xs k 0) ∙ ap (λ (l : List ℕ). get_or l k 0) is in
    record {
      run = ap (λ (n : ℕ). Some n) (word_again xs 26 run fits (byte 0) (byte 1) (byte 2) (byte 3));
      count = byte 4;
      rest = sym (drop-drop 5 26 xs) ∙ ap (drop 5) is;
    }

-- the body is read as what it spells
pub body_again : (h : ℕ) (emm : Emm) → h ≤ 20 → FitsEmmFields emm → IsEmm emm →
    AreSets h emm.sets (listed_entries emm) →
    emm_in (is_some emm.run) emm.index (emm_body emm) ≡ emm
unfolding emm_in emm_body emm_head_bytes
body_again h emm high fits form sets =
    let xs : List ℕ = emm_body emm in
    let es : List ℕ = flat_map entry_bytes (listed_entries emm) in
    let end : List ℕ = run_bytes emm.run ++ emm.count ∷ [] in
    let after : drop 10 xs ≡ emm.check ++ (run_bytes emm.run ++ emm.count ∷ es) =
    append_assoc emm.check end es
    ∙ ap (λ (l : List ℕ). emm.check ++ l) (append_assoc (run_bytes emm.run) (emm.count ∷ []) es) in
    let last : drop 26 xs ≡ run_bytes emm.run ++ emm.count ∷ es =
    ap (drop 16) after ∙ drop_at emm.check (run_bytes emm.run ++ emm.count ∷ es) 16 fits.head.check in
    let tail : IsTail emm.run emm.count es xs = tail_read emm.run emm.count es xs fits.head.run last in
    let few = few_entries emm form in
    let long : emm.count ≡ length (listed_entries emm) = sym
    (length-take-le emm.count emm.entries (omega (arith, fits.entries))) in
    let entries : entries_in (slice_index xs (count_at (is_some emm.run))) (drop (emm_head_length (is_some emm.run)) xs)
    ≡ listed_entries emm =
    ap (λ (n : ℕ). entries_in n (drop (emm_head_length (is_some emm.run)) xs)) (tail.count ∙ long)
    ∙ (ap (entries_in (length (listed_entries emm))) tail.rest ∙ items_again emm_entry_in
    entry_bytes IsSpellable 40 (listed_entries emm)
    long_entry entry_alone (all_spellable h emm high fits form sets)) in
    same_made _ emm.period _ emm.sets _ emm.sections emm.index _ emm.check _ emm.run _ emm.count _ emm.entries
    (word_again xs 0 emm.period fits.head.period refl refl refl refl)
    (word_again xs 4 emm.sets fits.head.sets refl refl refl refl)
    (half_again xs 8 emm.sections fits.head.sections refl refl)
    (ap (take 16) after ∙ take_at emm.check (run_bytes emm.run ++ emm.count ∷ es) 16 fits.head.check)
    tail.run
    tail.count
    (ap padded_entries entries ∙ padded_again emm fits form)

-- how long the body is
long_end : (run : Option ℕ) (count : ℕ) → length (run_bytes run ++ count ∷ []) + 26 ≡ emm_head_length (is_some run)
unfolding count_at
long_end None count = refl
long_end (Some run) count = refl

pub few_head : (run : Option ℕ) → emm_head_length (is_some run) ≤ 31
unfolding count_at
few_head None = omega arith
few_head (Some run) = omega arith

pub long_body : (emm : Emm) → length emm.check ≡ 16 → length (emm_head_bytes emm) ≡ emm_head_length (is_some emm.run)
unfolding emm_head_bytes
long_body emm check =
    omega (
      arith,
      length-append emm.check (run_bytes emm.run ++ emm.count ∷ []),
      long_end emm.run emm.count,
    )

pub long_whole : (h : ℕ) (emm : Emm) → h ≤ 20 → FitsEmmFields emm → IsEmm emm →
    AreSets h emm.sets (listed_entries emm) →
    length (emm_body emm) ≡ emm_head_length (is_some emm.run) + 40 * emm.count
unfolding emm_body
long_whole h emm high fits form sets =
    let few = few_entries emm form in
    omega (
      arith,
      length-append (emm_head_bytes emm) (flat_map entry_bytes (listed_entries emm)),
      long_body emm fits.head.check,
      long_items entry_bytes IsSpellable 40 (listed_entries emm) long_entry (all_spellable h emm high fits form sets),
      length-take-le emm.count emm.entries (omega (arith, fits.entries)),
    )
