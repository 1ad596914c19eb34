-- What is wrong with a section of entitlements, by what was read of it.
use Rattle.std.proofs.Common.{◌≡◌, ℕ, ◌-◌, List, length, take, drop, refl, sym, ap, ◌∙◌, subst}
use Rattle.std.specs.Prelude.{Bool, replicate, ◌↔◌}
use Rattle.std.proofs.lemmas.List.{take_at, take_rest, drop_at}
use Rattle.sd_tree_keys.specs.SetNames.{AreAscending}
use Rattle.sd_message.specs.EmmSpelled.{listed_entries, names_in}
use Rattle.sd_message.specs.EmmForm.{no_entry, AreSets, IsEmm}
use Rattle.sd_message.specs.EmmFields.{emm_entry_in, entries_in, padded_entries, emm_head_length, emm_in, with_entries}
use Rattle.sd_message.specs.EmmFields.{HasEmmCount}
use Rattle.sd_message.specs.EmmFields.{IsGoodEmm}
use Rattle.sd_message.specs.EmmFields.{BreaksEmmRule}
use Rattle.sd_message.specs.declared.emm.Entry.{Entry}
use Rattle.sd_message.specs.declared.emm.Emm.{Emm}
use Rattle.sd_message.specs.declared.emm_fault.EmmFault.{EmmFault}
use Rattle.sd_message.specs.declared.emm_fault.EmmFault.TheVariants.{Count, Order, Node, Mixed}
use Rattle.sd_message.proofs.Items.{length_items}

-- what stands before the entries was read
abbrev pub IsPrefix : Bool → ℕ → List ℕ → Emm → Type 0
IsPrefix named index body head = head ≡ with_entries (emm_in named index body) (replicate 3 no_entry)

-- the entries that a section has are those in its body
pub listed_in : (named : Bool) (index : ℕ) (body : List ℕ) → listed_entries (emm_in named index body) ≡ entries_in
    (emm_in named index body).count (drop (emm_head_length named) body)
unfolding emm_in
listed_in named index body =
    let count : ℕ = (emm_in named index body).count in
    take_at (entries_in count (drop (emm_head_length named) body))
    (replicate (3 - length (entries_in count (drop (emm_head_length named) body))) no_entry) count
    (length_items emm_entry_in 40 count (drop (emm_head_length named) body))

entries_are : (named : Bool) (index : ℕ) (body : List ℕ) → (emm_in named index body).entries
    ≡ padded_entries (entries_in (emm_in named index body).count (drop (emm_head_length named) body))
unfolding emm_in
entries_are named index body = refl

-- the same entries by the count that was read
same_entries : (named : Bool) (index : ℕ) (body : List ℕ) (head : Emm) (count : ℕ) → IsPrefix named index body head →
    count ≡ head.count →
    entries_in count (drop (emm_head_length named) body) ≡ listed_entries (emm_in named index body)
same_entries named index body head count is counted =
    ap (λ (n : ℕ). entries_in n (drop (emm_head_length named) body)) (counted ∙ ap (λ (e : Emm). e.count) is) ∙ sym
    (listed_in named index body)

-- the numbers don't come to one another
pub count_breaks : (h : ℕ) (named : Bool) (index : ℕ) (body : List ℕ) (head : Emm) → IsPrefix named index body head →
    ¬ HasEmmCount (length body) head →
    BreaksEmmRule h (length body) (emm_in named index body) Count
count_breaks h named index body head is unless has = unless (subst (HasEmmCount (length body)) (sym is) has)

-- they do
has_count : (named : Bool) (index : ℕ) (body : List ℕ) (head : Emm) → IsPrefix named index body head →
    HasEmmCount (length body) head →
    HasEmmCount (length body) (emm_in named index body)
has_count named index body head is has = subst (HasEmmCount (length body)) is has

-- the entries are sets by the number that was read where they are
same_sets : (h : ℕ) (named : Bool) (index : ℕ) (body : List ℕ) (head : Emm) (count : ℕ) →
    IsPrefix named index body head → count ≡ head.count →
    AreSets h head.sets (entries_in count (drop (emm_head_length named) body)) ↔ AreSets h (emm_in
    named index body).sets (listed_entries (emm_in named index body))
same_sets h named index body head count is counted =
    let entries = same_entries named index body head count is counted in
    let sets : head.sets ≡ (emm_in named index body).sets = ap (λ (e : Emm). e.sets) is in (
      λ all. subst (λ (n : ℕ). AreSets h n (listed_entries (emm_in named index body))) sets
          (subst (λ (es : List Entry). AreSets h head.sets es) entries all),
      λ all. subst (λ (es : List Entry). AreSets h head.sets es) (sym entries)
          (subst (λ (n : ℕ). AreSets h n (listed_entries (emm_in named index body))) (sym sets) all),
    )

-- an entry is no set that may stand there
pub node_breaks : (h : ℕ) (named : Bool) (index : ℕ) (body : List ℕ) (head : Emm) (count : ℕ) →
    IsPrefix named index body head →
    HasEmmCount (length body) head →
    count ≡ head.count → ¬ AreSets h head.sets (entries_in count (drop (emm_head_length named) body)) →
    BreaksEmmRule h (length body) (emm_in named index body) Node
node_breaks h named index body head count is has counted unless =
    (has_count named index body head is has, λ all. unless ((same_sets h named index body head count is counted).1 all))

-- what was read is what the section says
pub is_whole : (named : Bool) (index : ℕ) (body : List ℕ) (head : Emm) (count : ℕ) (entries : List Entry) →
    IsPrefix named index body head →
    count ≡ head.count → entries ≡ padded_entries (entries_in count (drop (emm_head_length named) body)) →
    with_entries head entries
    ≡ emm_in named index body
is_whole named index body head count entries is counted read =
    let same : entries ≡ (emm_in named index body).entries =
    read ∙ (ap (λ (n : ℕ). padded_entries (entries_in n (drop (emm_head_length named) body)))
    (counted ∙ ap (λ (e : Emm). e.count) is)
    ∙ sym (entries_are named index body)) in
    ap (λ (f : Emm). with_entries f entries) is ∙ ap (with_entries (emm_in named index body)) same

-- the entries that were read are those that the section has
same_listed : (named : Bool) (index : ℕ) (body : List ℕ) (head : Emm) (count : ℕ) (entries : List Entry) →
    IsPrefix named index body head →
    count ≡ head.count → entries ≡ padded_entries (entries_in count (drop (emm_head_length named) body)) →
    take count entries
    ≡ listed_entries (emm_in named index body)
same_listed named index body head count entries is counted read =
    ap (λ (n : ℕ). take n entries) counted ∙ ap listed_entries
    (is_whole named index body head count entries is counted read)

-- the head was read and its count is good, and so were the entries, which are sets
pub record AreRead (h : ℕ) (named : Bool) (index : ℕ) (body : List ℕ) (head : Emm) (count : ℕ) (entries : List Entry)
    : Type 0 where
  pub is : IsPrefix named index body head
  pub has : HasEmmCount (length body) head
  pub counted : count ≡ head.count
  pub sets : AreSets h head.sets (entries_in count (drop (emm_head_length named) body))
  pub read : entries ≡ padded_entries (entries_in count (drop (emm_head_length named) body))

-- so it is where they were read of what stands after the head
pub are_read : (h : ℕ) (named : Bool) (index : ℕ) (body : List ℕ) (head : Emm) (count at : ℕ) (entries : List Entry) →
    IsPrefix named index body head → HasEmmCount (length body) head → count ≡ head.count → at ≡ emm_head_length named →
    AreSets h head.sets (entries_in count (take (length body - at) (drop at body))) →
    entries ≡ padded_entries (entries_in count (take (length body - at) (drop at body))) →
    AreRead h named index body head count entries
are_read h named index body head count at entries is has counted starts sets read =
    let after = take_rest body at ∙ ap (λ (n : ℕ). drop n body) starts in record {
      is = is;
      has = has;
      counted = counted;
      sets = subst (λ (l : List ℕ). AreSets h head.sets (entries_in count l)) after sets;
      read = read ∙ ap (λ (l : List ℕ). padded_entries (entries_in count l)) after;
    }

-- the entries don't ascend
pub order_breaks : (h : ℕ) (named : Bool) (index : ℕ) (body : List ℕ) (head : Emm) (count : ℕ) (entries : List Entry) →
    AreRead h named index body head count entries → ¬ AreAscending (names_in (take count entries)) →
    BreaksEmmRule h (length body) (emm_in named index body) Order
order_breaks h named index body head count entries are unless = (
  has_count named index body head are.is are.has,
  (
    (same_sets h named index body head count are.is are.counted).0 are.sets,
    λ up. unless (subst (λ (es : List Entry). AreAscending (names_in es))
        (sym (same_listed named index body head count entries are.is are.counted are.read)) up),
  ),
)

-- nothing is wrong
pub is_good : (h : ℕ) (named : Bool) (index : ℕ) (body : List ℕ) (head : Emm) (count : ℕ) (entries : List Entry) →
    AreRead h named index body head count entries → AreAscending (names_in (take count entries)) →
    IsGoodEmm h (length body) (emm_in named index body)
is_good h named index body head count entries are up = record {
  has_count = has_count named index body head are.is are.has;
  are_sets = (same_sets h named index body head count are.is are.counted).0 are.sets;
  ascending = subst (λ (es : List Entry). AreAscending (names_in es))
      (same_listed named index body head count entries are.is are.counted are.read) up;
}

-- what follows the entries is as it is to be
past_entries : (named : Bool) (index : ℕ) (body : List ℕ) →
    drop (emm_in named index body).count (emm_in
    named index body).entries ≡ replicate (3 - (emm_in named index body).count) no_entry
past_entries named index body =
    let count : ℕ = (emm_in named index body).count in
    let entries : List Entry = entries_in count (drop (emm_head_length named) body) in
    ap (drop count) (entries_are named index body)
    ∙ (drop_at entries (replicate (3 - length entries) no_entry) count (length_items emm_entry_in
    40 count (drop (emm_head_length named) body))
    ∙ ap (λ (n : ℕ). replicate (3 - n) no_entry) (length_items emm_entry_in 40 count
    (drop (emm_head_length named) body)))

-- what breaks no rule is in its form
pub good_is_emm : (h : ℕ) (named : Bool) (index : ℕ) (body : List ℕ) →
    IsGoodEmm h (length body) (emm_in named index body) →
    IsEmm (emm_in named index body)
good_is_emm h named index body good = record {
  counted = good.has_count.1;
  ascending = good.ascending;
  rest = past_entries named index body;
}

-- and none where nothing is wrong
pub good_never : (h length : ℕ) (emm : Emm) (f : EmmFault) → IsGoodEmm h length emm → ¬ BreaksEmmRule h length emm f
good_never h length emm Count good b = b good.has_count
good_never h length emm Node good b = b.1 good.are_sets
good_never h length emm Order good b = b.1.1 good.ascending
good_never h length emm Mixed good b = b
