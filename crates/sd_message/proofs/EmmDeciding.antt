-- The tests of what a packet is read as tell what the rules say.
use Rattle.std.proofs.Common.{◌≡◌, inl, inr, ℕ, zero, suc, ◌+◌, ◌-◌, ◌*◌, ◌/◌, ◌^◌, ◌<◌, ◌≤◌, List, length, arith, refl}
use Rattle.std.proofs.Common.{sym, ap, ◌∙◌, subst}
use Rattle.std.specs.Prelude.{Bool, true, false, ◌==◌, ◌||◌, is_some, not, nat_le, nat_lt, if◌then◌else◌, min, Option}
use Rattle.std.specs.Prelude.{Some, None}
use Rattle.std.specs.Prelude.{Result, Ok, Err}
use Rattle.std.specs.Bool.{Decides}
use Rattle.std.specs.List.{list_all}
use Rattle.std.specs.Ordering.{is_lt}
use Rattle.std.specs.declared.cmp.Ordering.{Ordering}
use Rattle.std.specs.declared.cmp.Ordering.TheVariants.{Less, Equal, Greater}
use Rattle.std.proofs.Math.Nat.{div-eq_of_lt, div-one, pow-suc, mul-div-le, mul-le-mul_right}
use Rattle.std.proofs.Math.Pow.{pow_mono}
use Rattle.std.proofs.lemmas.Bool.{cases_lt, false≢true}
use Rattle.std.proofs.lemmas.Bool.Decides.{Decides-and, Decides-or, Decides-eqb, Decides-ltb, Decides-like}
use Rattle.std.proofs.lemmas.Bool.Decides.{Decides-by_and}
use Rattle.std.proofs.lemmas.Bool.Decides.{Decides-below_or}
use Rattle.sd_packet.specs.Packing.{section_packet}
use Rattle.sd_tree_keys.specs.SetNames.{IsPair, set_cmp, AreAscending}
use Rattle.sd_tree_keys.specs.Node.{IsProperlyAbove}
use Rattle.sd_tree_keys.specs.declared.set.SetName.{SetName}
use Rattle.sd_tree_keys.specs.declared.set.SetName.TheVariants.{Whole, Diff}
use Rattle.sd_section.specs.Header.{least_length, extension_of, body_of, section_length_of, table_id_of}
use Rattle.sd_section.specs.Header.{section_number_of, last_number_of}
use Rattle.sd_message.specs.Framed.{frames_section, section_of}
use Rattle.sd_message.proofs.Deciding.{tells_section, is_false, tells_le}
use Rattle.sd_message.proofs.Ascending.{tells_pairs}
use Rattle.sd_message.specs.EmmSpelled.{listed_entries, names_in, emm_section, SpellsEmm}
use Rattle.sd_message.specs.EmmForm.{IsSetBeside, AreSets, IsEmm, FitsEmmFields, sections_for}
use Rattle.sd_message.specs.EmmFields.{is_named, emm_head_length}
use Rattle.sd_message.specs.EmmFields.{HasEmmCount, IsEmmSection, IsEmmPacket, IsGoodEmm, BreaksEmmRule, BreaksEmmFirst}
use Rattle.sd_message.specs.EmmFields.{emm_in}
use Rattle.sd_message.specs.EmmFields.{emm_of}
use Rattle.sd_message.specs.EmmJudged.{is_halved, is_pair, is_set_beside, are_sets, is_ascending_by_set, is_counted}
use Rattle.sd_message.specs.EmmJudged.{emm_judged}
use Rattle.sd_message.specs.EmmJudged.{is_emm_section, has_emm, emm_read}
use Rattle.sd_message.specs.declared.emm.Entry.{Entry}
use Rattle.sd_message.specs.declared.emm.Emm.{Emm}
use Rattle.sd_message.specs.declared.emm_fault.EmmFault.{EmmFault}
use Rattle.sd_message.specs.declared.emm_fault.EmmFault.TheVariants.{Count, Order, Node, Mixed}
use Rattle.sd_message.proofs.EmmJudging.{good_is_emm, good_never}
use Rattle.sd_message.proofs.EmmReading.{IsParted, spelled_is_packet, spelled_is_read, spelled_is_good, written_spells}

-- some number of halvings from 1 to n leads from j to i
abbrev IsHalved : ℕ → ℕ → ℕ → Type 0
IsHalved n i j = (k : ℕ) × (k < n) × (j / 2 ^ suc k ≡ i)

tells_halved : (n i j : ℕ) → Decides (is_halved n i j) (IsHalved n i j)
unfolding is_halved
tells_halved n i j =
    Decides-below_or (λ k. j / 2 ^ suc k == i) (λ k. j / 2 ^ suc k ≡ i) (λ m. is_halved m i j)
    (λ k. Decides-eqb (j / 2 ^ suc k) i)
    refl (λ m. refl) n

-- halved at least once it is another
half_other : (k i j : ℕ) → 1 ≤ i → j / 2 ^ suc k ≡ i → i ≡ j → ⊥
half_other k i j some is same =
    let one : 1 ≤ 2 ^ k = pow_mono {i = 0} {j = k} (omega arith) in
    let two : 2 ^ suc k ≡ 2 ^ k * 2 = pow-suc 2 k in
    let all : 2 * j ≤ 2 ^ suc k * j = mul-le-mul_right {m = 2} {n = 2 ^ suc k} j (omega arith) in
    let low : 2 ^ suc k * (j / 2 ^ suc k) ≤ j = mul-div-le j (2 ^ suc k) in
    let here : 2 ^ suc k * (j / 2 ^ suc k) ≡ 2 ^ suc k * j = ap (λ (n : ℕ). 2 ^ suc k * n) (is ∙ same) in
    omega arith

-- a node that is halved is below the one that it leads to
half_below : (k i j : ℕ) → 1 ≤ i → j / 2 ^ suc k ≡ i → IsProperlyAbove i j
half_below k i j some is = ((suc k, is), λ same. half_other k i j some is same)

-- the halvings that lead from a node of the tree to a proper ancestor
halved_by : (d i j k : ℕ) → 1 ≤ i → j < 2 ^ (d + 1) → j / 2 ^ k ≡ i → (i ≡ j → ⊥) → IsHalved d i j
halved_by d i j zero some within is other = absurd (other (sym is ∙ div-one j))
halved_by d i j (suc k) some within is other = elim (cases_lt k d) [
  | inl h ↦ (k, h, is)
  | inr h ↦
      let most : 2 ^ (d + 1) ≤ 2 ^ suc k = pow_mono {i = d + 1} {j = suc k} (omega arith) in
      let none : j / 2 ^ suc k ≡ 0 = div-eq_of_lt {n = j} {m = 2 ^ suc k} (omega arith) in
      absurd (omega arith)
]

-- a proper ancestor in the tree is reached by 1 to d halvings
above_halved : (d i j : ℕ) → 1 ≤ i → j < 2 ^ (d + 1) → IsProperlyAbove i j → IsHalved d i j
above_halved d i j some within above = halved_by d i j above.0.0 some within above.0.1 above.1

tells_pair : (d i j : ℕ) → Decides (is_pair d i j) (IsPair d i j)
tells_pair d i j =
    Decides-like _
    (λ all. record { inner = (all.0, all.1.0); node = all.1.1.0; above = half_below all.1.1.1.0 i j all.0 all.1.1.1.2 })
    (λ pair. (pair.inner.0, (pair.inner.1, (pair.node, above_halved d i j pair.inner.0 pair.node pair.above))))
    (Decides-and (nat_le 1 i) _ (tells_le 1 i)
    (Decides-and (nat_lt i (2 ^ d)) _ (Decides-ltb i (2 ^ d))
    (Decides-and (nat_lt j (2 ^ (d + 1))) (is_halved d i j) (Decides-ltb j (2 ^ (d + 1))) (tells_halved d i j))))

-- the set may stand where the period has so many
tells_beside : (h sets : ℕ) (name : SetName) → Decides (is_set_beside h sets name) (IsSetBeside h sets name)
tells_beside h sets Whole =
    Decides-like _ (λ few. record { of_height = tt; alone = λ same. few }) (λ set. set.alone refl) (tells_le sets 1)
tells_beside h sets (Diff i j) =
    Decides-like _ (λ pair. record { of_height = pair; alone = λ same. absurd (cc) }) (λ set. set.of_height)
    (tells_pair h i j)

tells_sets : (h sets : ℕ) (entries : List Entry) → Decides (are_sets h sets entries) (AreSets h sets entries)
tells_sets h sets entries =
    Decides-by_and (λ (entry : Entry). is_set_beside h sets entry.name) (λ entry. IsSetBeside h sets entry.name)
    (list_all (λ entry. is_set_beside h sets entry.name)) (λ entry. tells_beside h sets entry.name) refl (λ _ _. refl)
    entries

-- the sets ascend
tells_less : (o : Ordering) → Decides (is_lt o) (o ≡ Less)
tells_less Less = (λ yes. refl, λ same. refl)
tells_less Equal = (λ yes. absurd (false≢true yes), λ same. absurd (false≢true (ap is_lt same)))
tells_less Greater = (λ yes. absurd (false≢true yes), λ same. absurd (false≢true (ap is_lt same)))

tells_ascending : (names : List SetName) → Decides (is_ascending_by_set names) (AreAscending names)
tells_ascending names =
    tells_pairs (λ (a b : SetName). is_lt (set_cmp a b)) (λ a b. set_cmp a b ≡ Less) (λ a b. tells_less (set_cmp a b))
    names

-- the numbers come to one another
tells_counted : (length : ℕ) (emm : Emm) → Decides (is_counted length emm) (HasEmmCount length emm)
tells_counted length emm =
    Decides-like _
    (λ all. (all.0, record { sections_are = all.1.0; index_is = all.1.1.0; count_is = all.1.1.1 }))
    (λ has. (has.0, (has.1.sections_are, (has.1.index_is, has.1.count_is))))
    (Decides-and (length == emm_head_length (is_some emm.run) + 40 * emm.count) _
    (Decides-eqb length (emm_head_length (is_some emm.run) + 40 * emm.count))
    (Decides-and (emm.sections == sections_for emm.sets) _ (Decides-eqb emm.sections (sections_for emm.sets))
    (Decides-and (nat_lt emm.index emm.sections) (emm.count == min 3 (emm.sets - 3 * emm.index))
    (Decides-ltb emm.index emm.sections)
    (Decides-eqb emm.count (min 3 (emm.sets - 3 * emm.index))))))

-- the section is one of entitlements
tells_emm_section : (section : List ℕ) → Decides (is_emm_section section) (IsEmmSection section)
tells_emm_section section =
    let table : ℕ = table_id_of section in
    let room : ℕ = emm_head_length (is_named table) + least_length in
    Decides-like _
    (λ all. record { table_id = all.0; number = all.1.0; last_number = all.1.1.0; room = all.1.1.1 })
    (λ is. (is.table_id, (is.number, (is.last_number, is.room))))
    (Decides-and ((table == 0x82) || (table == 0x8A)) _
    (Decides-or (table == 0x82) (table == 0x8A) (Decides-eqb table 0x82) (Decides-eqb table 0x8A))
    (Decides-and (section_number_of section == 0) _ (Decides-eqb (section_number_of section) 0)
    (Decides-and (last_number_of section == 0) (nat_le room (section_length_of section))
    (Decides-eqb (last_number_of section) 0)
    (tells_le room (section_length_of section)))))

-- the packet begins with one
tells_emm : (packet : List ℕ) → Decides (has_emm packet) (IsEmmPacket packet)
unfolding has_emm
tells_emm packet =
    Decides-like _ (λ both. record { has = both.0; emm = both.1 }) (λ is. (is.has, is.emm))
    (Decides-and (frames_section packet) (is_emm_section (section_of packet)) (tells_section packet)
    (tells_emm_section (section_of packet)))

-- what breaks no rule is taken
judged_good : (h length : ℕ) (emm : Emm) → IsGoodEmm h length emm → emm_judged h length emm ≡ Ok (Some emm)
unfolding emm_judged
judged_good h length emm good =
    rw (
      (tells_counted length emm).1 good.has_count,
      (tells_sets h emm.sets (listed_entries emm)).1 good.are_sets,
      (tells_ascending (names_in (listed_entries emm))).1 good.ascending,
    )
    refl

-- the rule that is broken first is the fault
judged_bad : (h length : ℕ) (emm : Emm) (fault : EmmFault) → BreaksEmmRule h length emm fault → emm_judged h length emm
    ≡ Err fault
unfolding emm_judged
judged_bad h length emm Count breaks = rw (is_false _ (tells_counted length emm) breaks) refl
judged_bad h length emm Node breaks =
    rw ((tells_counted length emm).1 breaks.0, is_false _ (tells_sets h emm.sets (listed_entries emm)) breaks.1) refl
judged_bad h length emm Order breaks =
    rw (
      (tells_counted length emm).1 breaks.0,
      (tells_sets h emm.sets (listed_entries emm)).1 breaks.1.0,
      is_false _
          (tells_ascending (names_in (listed_entries emm))) breaks.1.1,
    )
    refl
judged_bad h length emm Mixed breaks = absurd breaks

-- where something is taken, each test is passed
all_passed : (a b c : Bool) (emm read : Emm) →
    (if not a then Err Count else if not b then Err Node else if not c then Err Order else Ok (Some emm))
    ≡ Ok (Some read) →
    ((a ≡ true) × (b ≡ true)) × ((c ≡ true) × (emm ≡ read))
all_passed false b c emm read is = absurd (cc)
all_passed true false c emm read is = absurd (cc)
all_passed true true false emm read is = absurd (cc)
all_passed true true true emm read is = ((refl, refl), (refl, cc))

-- something is read of a packet of this kind alone
taken : (has : Bool) (read : Result (Option Emm) EmmFault) (emm : Emm) → (if has then read else Ok None)
    ≡ Ok (Some emm) → read ≡ Ok (Some emm)
taken true read emm is = is
taken false read emm is = absurd (cc)

-- what is taken breaks no rule
good_judged : (h length : ℕ) (emm read : Emm) → emm_judged h length emm ≡ Ok (Some read) →
    (emm ≡ read) × IsGoodEmm h length emm
unfolding emm_judged
good_judged h length emm read is =
    let all = all_passed (is_counted length emm) (are_sets h emm.sets (listed_entries emm))
    (is_ascending_by_set (names_in (listed_entries emm))) emm read is in (
      all.1.1,
      record {
        has_count = (tells_counted length emm).0 all.0.0;
        are_sets = (tells_sets h emm.sets (listed_entries emm)).0 all.0.1;
        ascending = (tells_ascending (names_in (listed_entries emm))).0 all.1.0;
      },
    )

-- a packet of another kind is read as nothing
pub other_reads : (h : ℕ) (packet : List ℕ) → ¬ IsEmmPacket packet → emm_read h packet ≡ Ok None
unfolding emm_read
other_reads h packet other = rw (is_false _ (tells_emm packet) other) refl

-- one that breaks a rule as the first that it breaks
pub broken_reads : (h : ℕ) (packet : List ℕ) (fault : EmmFault) → IsEmmPacket packet →
    BreaksEmmFirst h (section_of packet)
    fault →
    emm_read h packet ≡ Err fault
unfolding emm_read
broken_reads h packet fault is breaks = rw ((tells_emm packet).1 is) (judged_bad h _ (emm_of (section_of packet)) fault
    breaks)

-- one that breaks none as what it says
pub good_reads : (h : ℕ) (packet : List ℕ) → IsEmmPacket packet →
    IsGoodEmm h (length (body_of (section_of packet))) (emm_of (section_of packet)) → emm_read h packet
    ≡ Ok (Some (emm_of (section_of packet)))
unfolding emm_read
good_reads h packet is good = rw ((tells_emm packet).1 is) (judged_good h _ (emm_of (section_of packet)) good)

-- what is known of the parts of a packet's section, by themselves
at_section : (P : Bool → ℕ → List ℕ → Type 0) (packet section body : List ℕ) (named : Bool) (index : ℕ) →
    section ≡ section_of packet → IsParted section body named index → P named index body →
    P (is_named (table_id_of (section_of packet))) (extension_of (section_of packet)) (body_of (section_of packet))
at_section P packet section body named index is_section are known =
    subst (λ (s : List ℕ). P (is_named (table_id_of s)) (extension_of s) (body_of s)) is_section
    (subst (P (is_named (table_id_of section)) (extension_of section)) are.is_body
    (subst (λ (n : ℕ). P (is_named (table_id_of section)) n body) are.is_index
    (subst (λ (b : Bool). P b index body) are.is_name known)))

pub broken_at : (h : ℕ) (packet section body : List ℕ) (named : Bool) (index : ℕ) (fault : EmmFault) →
    IsEmmPacket packet → section ≡ section_of packet → IsParted section body named index →
    BreaksEmmRule h (length body) (emm_in named index body) fault → emm_read h packet ≡ Err fault
broken_at h packet section body named index fault is is_section are breaks =
    broken_reads h packet fault is
    (at_section (λ (m : Bool) (n : ℕ) (b : List ℕ). BreaksEmmRule h (length b) (emm_in m n b) fault) packet section body
    named index is_section are breaks)

pub good_at : (h : ℕ) (packet section body : List ℕ) (named : Bool) (index : ℕ) (emm : Emm) → IsEmmPacket packet →
    section ≡ section_of packet → IsParted section body named index → emm ≡ emm_in named index body →
    IsGoodEmm h (length body) (emm_in named index body) → emm_read h packet ≡ Ok (Some emm)
good_at h packet section body named index emm is is_section are is_emm good =
    good_reads h packet is
    (at_section (λ (m : Bool) (n : ℕ) (b : List ℕ). IsGoodEmm h (length b) (emm_in m n b)) packet section body named
    index is_section are good)
    ∙ ap (λ (e : Emm). Ok (Some e))
    (sym (at_section (λ (m : Bool) (n : ℕ) (b : List ℕ). emm ≡ emm_in m n b) packet section body named index is_section
    are is_emm))

-- what is found of the parts is so of the section: the rule that it breaks first, or that it breaks none
pub breaks_first : (h : ℕ) (packet section body : List ℕ) (named : Bool) (index : ℕ) (fault : EmmFault) →
    section ≡ section_of packet → IsParted section body named index →
    BreaksEmmRule h (length body) (emm_in named index body) fault → BreaksEmmFirst h (section_of packet) fault
breaks_first h packet section body named index fault is_section are breaks =
    at_section (λ (m : Bool) (n : ℕ) (b : List ℕ). BreaksEmmRule h (length b) (emm_in m n b) fault) packet section body
    named index is_section are breaks

pub never_first : (h : ℕ) (packet section body : List ℕ) (named : Bool) (index : ℕ) (fault : EmmFault) →
    section ≡ section_of packet → IsParted section body named index →
    IsGoodEmm h (length body) (emm_in named index body) → ¬ BreaksEmmFirst h (section_of packet) fault
never_first h packet section body named index fault is_section are good breaks =
    good_never _ _ _ fault
    (at_section (λ (m : Bool) (n : ℕ) (b : List ℕ). IsGoodEmm h (length b) (emm_in m n b)) packet section body named
    index is_section are good) breaks

-- a packet that spells entitlements is read as them
pub spelled_reads : (h : ℕ) (emm : Emm) (packet : List ℕ) → h ≤ 20 → FitsEmmFields emm → IsEmm emm →
    AreSets h emm.sets (listed_entries emm) →
    SpellsEmm emm packet → emm_read h packet ≡ Ok (Some emm)
spelled_reads h emm packet high fits form sets spells =
    let section : List ℕ = section_of packet in
    let are : IsParted section (body_of section) (is_named (table_id_of section)) (extension_of section) = record {
      is_name = refl;
      is_index = refl;
      is_body = refl;
    } in
    good_reads h packet (spelled_is_packet h emm packet high fits form sets spells)
    (spelled_is_good h emm packet section (body_of section) _ (extension_of section) high fits form sets spells refl
    are)
    ∙ ap (λ (e : Emm). Ok (Some e)) (spelled_is_read h emm packet section (body_of section) _ (extension_of section)
    high fits form sets spells refl are)

pub packed_reads : (h : ℕ) (emm : Emm) (pid counter : ℕ) → h ≤ 20 → FitsEmmFields emm → IsEmm emm →
    AreSets h emm.sets (listed_entries emm) →
    pid < 8192 → counter < 16 → emm_read h (section_packet (emm_section emm) pid counter) ≡ Ok (Some emm)
packed_reads h emm pid counter high fits form sets p c =
    spelled_reads h emm (section_packet (emm_section emm) pid counter) high fits form sets
    (written_spells emm pid counter p c)

-- what is read is in its form
pub read_form : (h : ℕ) (packet : List ℕ) (emm : Emm) → emm_read h packet ≡ Ok (Some emm) →
    IsEmm emm × AreSets h emm.sets (listed_entries emm)
unfolding emm_read
read_form h packet emm is =
    let section : List ℕ = section_of packet in
    let judged = taken (has_emm packet) (emm_judged h (length (body_of section)) (emm_of section)) emm is in
    let good = good_judged h (length (body_of section)) (emm_of section) emm judged in
    subst (λ (e : Emm). IsEmm e × AreSets h e.sets (listed_entries e)) good.0
    (good_is_emm h (is_named (table_id_of section)) (extension_of section) (body_of section) good.1, good.1.are_sets)
