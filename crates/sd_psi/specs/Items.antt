-- Public meaning: items that stand one after the other, each of which says in its first bytes how long it is.
use Rattle.std.specs.Prelude.{ℕ, zero, suc, ◌+◌, ◌==◌, Bool, List, [], ◌∷◌, ◌++◌, length, take, drop}
use Rattle.std.specs.List.{list_all}
use Rattle.sd_base.specs.Bits.{field}
use Rattle.sd_psi.specs.declared.items.Kind.{Kind}
use Rattle.sd_psi.specs.declared.items.Kind.TheVariants.{Program, Descriptor, Stream}

-- how long the item is with which the bytes begin: a program of a PAT, a descriptor with descriptor_length, a stream of
-- a PMT with ES_info_length [ISO/IEC 13818-1, 2.4.4.3, 2.4.4.8 and 2.6]
unfoldable pub item_size : Kind → List ℕ → ℕ
item_size Program bytes = 4
item_size Descriptor bytes = 2 + field bytes 8 8
item_size Stream bytes = 5 + field bytes 28 12

-- at most n items, into which the bytes are cut: the last is cut off where it says more bytes than there are
unfoldable pub cut_items : Kind → ℕ → List ℕ → List (List ℕ)
cut_items kind n [] = []
cut_items kind zero (byte ∷ bytes) = []
cut_items kind (suc n) (byte ∷ bytes) = take (item_size kind (byte ∷ bytes)) (byte ∷ bytes)
    ∷ cut_items kind n (drop (item_size kind (byte ∷ bytes)) (byte ∷ bytes))

-- all of them
unfoldable pub items_of : Kind → List ℕ → List (List ℕ)
items_of kind bytes = cut_items kind (length bytes) bytes

-- the item is as long as it says
abbrev pub is_whole_item : Kind → List ℕ → Bool
is_whole_item kind item = length item == item_size kind item

-- the items fill the bytes exactly: none is cut off
unfoldable pub are_whole : Kind → List ℕ → Bool
are_whole kind bytes = list_all (is_whole_item kind) (items_of kind bytes)

-- the bytes of items that stand one after the other
abbrev pub items_joined : List (List ℕ) → List ℕ
items_joined [] = []
items_joined (item ∷ items) = item ++ items_joined items
