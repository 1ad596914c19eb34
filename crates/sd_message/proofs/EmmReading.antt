-- Packets of entitlements and what they spell.
use Rattle.std.proofs.Common.{◌≡◌, inl, inr, ℕ, ◌+◌, ◌*◌, ◌<◌, ◌≤◌, List, length, arith, refl, sym, ap, ◌∙◌, subst}
use Rattle.std.specs.Prelude.{Bool, Option, Some, None, is_some}
use Rattle.sd_packet.specs.Packing.{section_packet}
use Rattle.sd_section.specs.Header.{table_id_of, extension_of, body_of}
use Rattle.sd_section.specs.Written.{section_bytes, FitsHeaderFields as FitsHeader}
use Rattle.sd_section.specs.declared.write.Header.{Header}
use Rattle.sd_section.proofs.Spelling.{fields_are_read}
use Rattle.sd_message.specs.Framed.{section_of, BeginsWithSection}
use Rattle.sd_message.proofs.Numbers.{IsBytes}
use Rattle.sd_message.proofs.Framing.{packed_begins, begun_is_there, begun_is_read}
use Rattle.sd_message.specs.EmmSpelled.{listed_entries, table_id_for, emm_header, emm_body, emm_section, SpellsEmm}
use Rattle.sd_message.specs.EmmForm.{AreSets, IsEmm, FitsEmmFields}
use Rattle.sd_message.specs.EmmFields.{is_named, IsEmmTable, emm_head_length, emm_run_in, emm_in, IsEmmSection}
use Rattle.sd_message.specs.EmmFields.{IsEmmPacket}
use Rattle.sd_message.specs.EmmFields.{IsGoodEmm}
use Rattle.sd_message.specs.declared.emm.Emm.{Emm}
use Rattle.sd_message.proofs.EmmAgain.{body_again, long_whole, few_entries, few_head}
use Rattle.sd_message.proofs.EmmJudging.{good_is_emm}
use Rattle.sd_message.proofs.EmmSpelling.{body_spelled, table_again, named_again}

-- a section's header
abbrev headed : Emm → Header
headed emm = emm_header (table_id_for emm.run) emm.index

-- its table_id tells whether the broadcast is named
table_fits : (run : Option ℕ) → table_id_for run < 256
table_fits None = omega arith
table_fits (Some run) = omega arith

table_is : (run : Option ℕ) → IsEmmTable (table_id_for run)
table_is None = inl refl
table_is (Some run) = inr refl

names_again : (run : Option ℕ) → is_named (table_id_for run) ≡ is_some run
names_again None = refl
names_again (Some run) = refl

-- the header's numbers fit
header_fits : (emm : Emm) → FitsEmmFields emm → FitsHeader (headed emm)
header_fits emm fits = record {
  table_id = table_fits emm.run;
  extension = fits.index;
  number = omega arith;
  last_number = omega arith;
}

-- a body is short
short_body : (h : ℕ) (emm : Emm) → h ≤ 20 → FitsEmmFields emm → IsEmm emm → AreSets h emm.sets (listed_entries emm) →
    length (emm_body emm) ≤ 4084
short_body h emm high fits form sets =
    omega (arith, few_entries emm form, few_head emm.run, long_whole h emm high fits form sets)

-- the section of a packet that spells entitlements
spelled_section : (h : ℕ) (emm : Emm) (packet : List ℕ) → h ≤ 20 → FitsEmmFields emm → IsEmm emm →
    AreSets h emm.sets (listed_entries emm) → SpellsEmm emm packet →
    section_of packet ≡ section_bytes (headed emm) (emm_body emm)
unfolding emm_section
spelled_section h emm packet high fits form sets spells =
    begun_is_read (headed emm) (emm_body emm) packet (header_fits emm fits) (short_body h emm high fits form sets)
    spells

-- such a packet is one of entitlements
pub spelled_is_packet : (h : ℕ) (emm : Emm) (packet : List ℕ) → h ≤ 20 → FitsEmmFields emm → IsEmm emm →
    AreSets h emm.sets (listed_entries emm) → SpellsEmm emm packet → IsEmmPacket packet
unfolding emm_section
spelled_is_packet h emm packet high fits form sets spells =
    let section : List ℕ = section_bytes (headed emm) (emm_body emm) in
    let long = long_whole h emm high fits form sets in
    let short = short_body h emm high fits form sets in
    let read = fields_are_read (headed emm) (emm_body emm) (header_fits emm fits) short in
    let named : is_named (table_id_of section) ≡ is_some emm.run = ap is_named read.table_id ∙ names_again emm.run in
    let is_emm : IsEmmSection section = record {
      table_id = subst IsEmmTable (sym read.table_id) (table_is emm.run);
      number = read.number;
      last_number = read.last_number;
      room = rw named (omega (arith, read.section_length, long));
    } in
    record {
      has = begun_is_there (headed emm) (emm_body emm) packet (header_fits emm fits) short spells;
      emm = subst IsEmmSection (sym (spelled_section h emm packet high fits form sets spells)) is_emm;
    }

-- what was read of a section: whether it names its broadcast, its index, its body
pub record IsParted (section body : List ℕ) (named : Bool) (index : ℕ) : Type 0 where
  pub is_name : named ≡ is_named (table_id_of section)
  pub is_index : index ≡ extension_of section
  pub is_body : body ≡ body_of section

-- of a packet that spells entitlements it is what stands in them
record IsSpelled (emm : Emm) (body : List ℕ) (named : Bool) (index : ℕ) : Type 0 where
  name_is : named ≡ is_some emm.run
  index_is : index ≡ emm.index
  body_is : body ≡ emm_body emm

is_spelled : (h : ℕ) (emm : Emm) (packet section body : List ℕ) (named : Bool) (index : ℕ) → h ≤ 20 →
    FitsEmmFields emm →
    IsEmm emm → AreSets h emm.sets (listed_entries emm) → SpellsEmm emm packet → section ≡ section_of packet →
    IsParted section body named index → IsSpelled emm body named index
is_spelled h emm packet section body named index high fits form sets spells is_section are =
    let short = short_body h emm high fits form sets in
    let read = fields_are_read (headed emm) (emm_body emm) (header_fits emm fits) short in
    let spelled = is_section ∙ spelled_section h emm packet high fits form sets spells in
    record {
      name_is = are.is_name ∙ (ap (λ (s : List ℕ). is_named (table_id_of s)) spelled
          ∙ (ap is_named read.table_id ∙ names_again emm.run));
      index_is = are.is_index ∙ (ap extension_of spelled ∙ read.extension);
      body_is = are.is_body ∙ (ap body_of spelled ∙ read.inner);
    }

-- what is read of it is what it spells
pub spelled_is_read : (h : ℕ) (emm : Emm) (packet section body : List ℕ) (named : Bool) (index : ℕ) → h ≤ 20 →
    FitsEmmFields emm → IsEmm emm → AreSets h emm.sets (listed_entries emm) → SpellsEmm emm packet →
    section ≡ section_of packet →
    IsParted section body named index → emm_in named index body ≡ emm
spelled_is_read h emm packet section body named index high fits form sets spells is_section are =
    let is = is_spelled h emm packet section body named index high fits form sets spells is_section are in
    ap (λ (b : Bool). emm_in b index body) is.name_is
    ∙ (ap (λ (n : ℕ). emm_in (is_some emm.run) n body) is.index_is
    ∙ (ap (emm_in (is_some emm.run) emm.index) is.body_is ∙ body_again h emm high fits form sets))

-- and nothing is wrong with it
pub spelled_is_good : (h : ℕ) (emm : Emm) (packet section body : List ℕ) (named : Bool) (index : ℕ) → h ≤ 20 →
    FitsEmmFields emm → IsEmm emm → AreSets h emm.sets (listed_entries emm) → SpellsEmm emm packet →
    section ≡ section_of packet →
    IsParted section body named index → IsGoodEmm h (length body) (emm_in named index body)
spelled_is_good h emm packet section body named index high fits form sets spells is_section are =
    let is = is_spelled h emm packet section body named index high fits form sets spells is_section are in
    let long = long_whole h emm high fits form sets in
    let same = spelled_is_read h emm packet section body named index high fits form sets spells is_section are in
    subst (λ (e : Emm). IsGoodEmm h (length body) e) (sym same)
    (record { has_count = (ap length is.body_is ∙ long, form.counted); are_sets = sets; ascending = form.ascending })

-- what is read of a body, by its fields
index_in : (named : Bool) (index : ℕ) (body : List ℕ) → (emm_in named index body).index ≡ index
unfolding emm_in
index_in named index body = refl

run_of : (named : Bool) (index : ℕ) (body : List ℕ) → (emm_in named index body).run ≡ emm_run_in named body
unfolding emm_in
run_of named index body = refl

-- the packet spells what was read of it
read_spells : (h : ℕ) (packet section body : List ℕ) (named : Bool) (index : ℕ) → IsBytes body →
    IsGoodEmm h (length body) (emm_in named index body) → IsParted section body named index →
    IsEmmTable (table_id_of section) → BeginsWithSection section packet →
    section ≡ section_bytes (emm_header (table_id_of section) (extension_of section)) (body_of section) →
    SpellsEmm (emm_in named index body) packet
unfolding emm_section
read_spells h packet section body named index each good are table begins spelled =
    let emm : Emm = emm_in named index body in
    let name : is_some emm.run ≡ named = ap is_some (run_of named index body) ∙ named_again named body in
    let long : length body ≡ emm_head_length named + 40 * emm.count =
    subst (λ (b : Bool). length body ≡ emm_head_length b + 40 * emm.count) name good.has_count.0 in
    let same_body : emm_body emm ≡ body_of section = body_spelled named index body each long ∙ are.is_body in
    let same_table : table_id_of section ≡ table_id_for emm.run =
    sym (ap table_id_for (run_of named index body)
    ∙ (ap (λ (b : Bool). table_id_for (emm_run_in b body)) are.is_name ∙ table_again (table_id_of section) body table))
    in
    let same_index : extension_of section ≡ emm.index = sym are.is_index ∙ sym (index_in named index body) in
    let same : section ≡ section_bytes (headed emm) (emm_body emm) =
    spelled ∙ (ap (λ (n : ℕ). section_bytes (emm_header n (extension_of section)) (body_of section)) same_table
    ∙ (ap (λ (n : ℕ). section_bytes (emm_header (table_id_for emm.run) n) (body_of section)) same_index
    ∙ ap (section_bytes (headed emm)) (sym same_body))) in
    subst (λ (s : List ℕ). BeginsWithSection s packet) same begins

-- which is in its form
abbrev pub IsRead : ℕ → List ℕ → Emm → Type 0
IsRead h packet emm = SpellsEmm emm packet × (IsEmm emm × AreSets h emm.sets (listed_entries emm))

pub read_is_right : (h : ℕ) (packet section body : List ℕ) (named : Bool) (index : ℕ) (emm : Emm) →
    emm ≡ emm_in named index body → IsBytes body → IsGoodEmm h (length body) (emm_in named index body) →
    IsParted section body named index → IsEmmTable (table_id_of section) → BeginsWithSection section packet →
    section ≡ section_bytes (emm_header (table_id_of section) (extension_of section)) (body_of section) →
    IsRead h packet emm
read_is_right h packet section body named index emm is each good are table begins spelled =
    subst (IsRead h packet) (sym is) (
      read_spells h packet section body named index each good are table begins spelled,
      (good_is_emm h named index body good, good.are_sets),
    )

-- the packet of entitlements begins with their section
pub written_spells : (emm : Emm) (pid counter : ℕ) → pid < 8192 → counter < 16 →
    SpellsEmm emm (section_packet (emm_section emm) pid counter)
written_spells emm pid counter h k = packed_begins (emm_section emm) pid counter h k
