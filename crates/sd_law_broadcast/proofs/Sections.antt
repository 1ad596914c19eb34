-- The sections of entitlements in a broadcast.
use Rattle.std.proofs.Common.{◌≡◌, ℕ, ◌-◌, ◌/◌, ◌%◌, ◌^◌, ◌<◌, ◌≤◌, ◌==◌, true, false}
use Rattle.std.proofs.Common.{List, [], ◌∷◌, ◌++◌, length, take, get_or, map, Some}
use Rattle.std.proofs.Common.{refl, sym, ap, subst, ◌∙◌, arith, append_assoc}
use Rattle.std.specs.Prelude.{All, Contains, count_by, Ok}
use Rattle.std.proofs.lemmas.Bool.Decides.{nat_tests}
use Rattle.std.proofs.lemmas.List.{length-take-le}
use Rattle.std.proofs.lemmas.List.Elements.{All-nil, All-cons, All-head, All-tail, All-contains, All-get_or}
use Rattle.sd_packet.specs.Header.{pid_of}
use Rattle.sd_packet.specs.Packing.{section_packet}
use Rattle.sd_packet.proofs.Packets.{packet_reads}
use Rattle.sd_psi.specs.OurCat.{cat_section}
use Rattle.sd_message.specs.EmmSpelled.{listed_entries, emm_section}
use Rattle.sd_message.specs.EmmForm.{AreSets, IsEmm, FitsEmmFields}
use Rattle.sd_message.specs.EmmJudged.{emm_read}
use Rattle.sd_message.specs.Period.{emms_of}
use Rattle.sd_message.specs.declared.emm.Emm.{Emm}
use Rattle.sd_message.proofs.EmmSharing.{all_are_emms, all_sets_stand}
use Rattle.sd_message.proofs.EmmDeciding.{packed_reads}
use Rattle.sd_message.specs.EcmSpelled.{ecm_section}
use Rattle.sd_message.specs.EcmParts.{Message, IsMessage, parts_of}
use Rattle.sd_spec.specs.Plan.{Plan, IsPlan, word_of, period_of, closing_number}
use Rattle.sd_spec.specs.Carried.{carried}
use Rattle.sd_spec.specs.Messages.{period_at, message_at}
use Rattle.sd_spec.specs.Refused.{is_reserved_pid, IsSendable}
use Rattle.sd_spec.specs.Sent.{Item, Cat, Entitles, Controls, Carries, is_alike, item_packet, packets_from}
use Rattle.sd_spec.specs.Items.{IsOfBroadcast, cat, entitlement, part, closing, carried_on}
use Rattle.sd_spec.proofs.Schedule.{period_short}
use Rattle.sd_law_broadcast.specs.Packets.{AreLong}
use Rattle.sd_law_broadcast.specs.Named.{sections_on}
use Rattle.sd_law_broadcast.proofs.Clear.{each_clear, accepted, take_clear}
use Rattle.sd_law_broadcast.proofs.Carrying.{carried_pid as pid_kept}
use Rattle.sd_law_broadcast.proofs.Fitting.{period_fits, period_sets, message_before_fits, word_low, closing_fits}

-- a section of a packet's period
abbrev pub IsSectionOf : Plan → List (List ℕ) → Emm → Type 0
IsSectionOf plan clear emm =
    (k : ℕ) × (k ≤ length clear - 1) × Contains (emms_of (period_at plan (period_of plan k))) emm

-- what is known of each thing that is sent
abbrev pub IsSaid : Plan → List (List ℕ) → Item → Type 0
IsSaid plan clear Cat = Unit {0}
IsSaid plan clear (Entitles emm) = IsSectionOf plan clear emm
IsSaid plan clear (Controls one) = (message : Message) × IsMessage message × Contains (parts_of message) one
IsSaid plan clear (Carries n packet) =
    (k : ℕ) × (k < length clear) × (packet ≡ carried plan.site (take k clear) (get_or clear k []))

-- the sections of a packet's period fit their form, and have sets of the tree
pub section_form : (plan : Plan) → IsPlan plan → (k : ℕ) (emm : Emm) →
    Contains (emms_of (period_at plan (period_of plan k))) emm → IsEmm emm × FitsEmmFields emm
section_form plan is k emm m =
    let q : ℕ = period_of plan k in
    All-contains (λ (e : Emm). IsEmm e × FitsEmmFields e) (emms_of (period_at plan q)) emm
    (all_are_emms (period_at plan q) (period_fits plan q is (period_short plan k is))) m

pub section_sets : (plan : Plan) → IsPlan plan → (k : ℕ) (emm : Emm) →
    Contains (emms_of (period_at plan (period_of plan k))) emm → AreSets plan.site.height emm.sets (listed_entries emm)
section_sets plan is k emm m =
    let q : ℕ = period_of plan k in
    All-contains (λ (e : Emm). AreSets plan.site.height e.sets (listed_entries e)) (emms_of (period_at plan q)) emm
    (all_sets_stand plan.site.height (period_at plan q) (period_sets plan q is)) m

module _ (plan : Plan) (clear : List (List ℕ)) (is : IsPlan plan) (all : IsSendable plan.site clear) where
  -- of the message before packet k
  message_at_fits : (k : ℕ) → k < length clear →
      IsMessage (message_at plan (take k clear) (k / plan.site.every) k false)
  message_at_fits k within =
      let long : length (take k clear) ≡ k = length-take-le k clear (omega (arith, within)) in
      let low = word_low plan clear k is all (omega (arith, within)) in
      subst (λ (n : ℕ). IsMessage (message_at plan (take k clear) (n / plan.site.every) n false)) long
      (message_before_fits plan (take k clear) is (take_clear plan.site clear k all)
      (subst (λ (n : ℕ). word_of plan.site n < 2 ^ 32) (sym long) low))

  pub said : (item : Item) → IsOfBroadcast plan clear item → IsSaid plan clear item
  said _ cat = tt
  said _ (entitlement k within m) = (k, within, m)
  said _ (part k within due m) =
      (message_at plan (take k clear) (k / plan.site.every) k false, message_at_fits k within, m)
  said _ (closing m) = (
    message_at plan clear (closing_number plan.site (length clear)) (length clear - 1) true,
    closing_fits plan
        clear is all,
    m,
  )
  said _ (carried_on k within) = (k, within, refl)

  -- a section that is sent is read
  pub section_reads : (emm : Emm) (counter : ℕ) → IsSectionOf plan clear emm → counter < 16 →
      emm_read plan.site.height (section_packet (emm_section emm) plan.site.emm counter) ≡ Ok (Some emm)
  section_reads emm counter (k, within, m) few =
      let form = section_form plan is k emm m in
      let sets = section_sets plan is k emm m in
      let high = is.site.height.1 in
      let pid = is.site.emm.1 in
      packed_reads plan.site.height emm plan.site.emm counter (omega (arith, high)) form.1 form.0 sets
      (omega (arith, pid)) few

-- the section that a thing is
abbrev pub section_in : Item → List Emm
section_in Cat = []
section_in (Entitles emm) = emm ∷ []
section_in (Controls one) = []
section_in (Carries n packet) = []

-- those that things are
abbrev pub sections_in : List Item → List Emm
sections_in [] = []
sections_in (item ∷ items) = section_in item ++ sections_in items

pub sections_in_turn : (xs ys : List Item) → sections_in (xs ++ ys) ≡ sections_in xs ++ sections_in ys
sections_in_turn [] ys = refl
sections_in_turn (x ∷ xs) ys =
    ap (λ (rest : List Emm). section_in x ++ rest) (sections_in_turn xs ys)
    ∙ sym (append_assoc (section_in x) (sections_in xs) (sections_in ys))

pub sections_of_sections : (emms : List Emm) → sections_in (map Entitles emms) ≡ emms
sections_of_sections [] = refl
sections_of_sections (emm ∷ emms) = ap (λ (rest : List Emm). emm ∷ rest) (sections_of_sections emms)

-- each is of a packet's period
pub each_section : (plan : Plan) (clear : List (List ℕ)) (items : List Item) → All (IsOfBroadcast plan clear) items →
    IsPlan plan → IsSendable plan.site clear → All (IsSectionOf plan clear) (sections_in items)
each_section plan clear [] each is all = All-nil (IsSectionOf plan clear)
each_section plan clear (item ∷ items) each is all =
    first item (said plan clear is all item (All-head (IsOfBroadcast plan clear) item items each))
    (each_section plan clear items (All-tail (IsOfBroadcast plan clear) item items each) is all)
  where
    first : (item : Item) → IsSaid plan clear item → All (IsSectionOf plan clear) (sections_in items) →
        All (IsSectionOf plan clear) (section_in item ++ sections_in items)
    first Cat is rest = rest
    first (Entitles emm) is rest = All-cons (IsSectionOf plan clear) emm (sections_in items) is rest
    first (Controls one) is rest = rest
    first (Carries n packet) is rest = rest

module _ (plan : Plan) (clear : List (List ℕ)) (is : IsPlan plan) (all : IsSendable plan.site clear)
    (long : AreLong clear) where
  -- a clear packet's PID is none of the broadcast's own
  pub carried_pid : (k : ℕ) (packet : List ℕ) → k < length clear →
      packet ≡ carried plan.site (take k clear) (get_or clear k []) → is_reserved_pid plan.site (pid_of packet) ≡ false
  carried_pid k packet within same =
      let taken = accepted plan.site (take k clear) (get_or clear k []) (each_clear plan.site clear k all within) in
      let kept = pid_kept plan.site (take k clear) (get_or clear k [])
      (All-get_or (λ (p : List ℕ). length p ≡ 188) clear k [] within long) in
      rw same (rw kept taken.untaken)

  -- a packet on another PID has no section
  other_pid : (packet : List ℕ) (packets : List (List ℕ)) → (pid_of packet == plan.site.emm) ≡ false →
      sections_on plan.site.height plan.site.emm (packet ∷ packets) ≡ sections_on plan.site.height plan.site.emm packets
  unfolding sections_on
  other_pid packet packets other = rw other refl

  -- a section's packet has it
  its_pid : (packet : List ℕ) (emm : Emm) (packets : List (List ℕ)) → (pid_of packet == plan.site.emm) ≡ true →
      emm_read plan.site.height packet ≡ Ok (Some emm) →
      sections_on plan.site.height plan.site.emm (packet ∷ packets)
      ≡ emm ∷ sections_on plan.site.height plan.site.emm packets
  unfolding sections_on
  its_pid packet emm packets same reads = rw (same, reads) refl

  -- the PID of a packed section
  packed_pid : (section : List ℕ) (pid counter : ℕ) → pid < 8192 → pid_of (section_packet section pid (counter % 16))
      ≡ pid
  packed_pid section pid counter low = (packet_reads section pid (counter % 16) low (omega arith)).pid_is

  -- the packet of one thing
  one_reads : (earlier : List Item) (item : Item) (packets : List (List ℕ)) → IsSaid plan clear item →
      sections_on plan.site.height plan.site.emm (item_packet plan.site earlier item ∷ packets)
      ≡ section_in item ++ sections_on plan.site.height plan.site.emm packets
  one_reads earlier Cat packets said =
      let section : List ℕ = cat_section plan.site.ca plan.site.emm plan.site.ecm in
      let count : ℕ = count_by (is_alike Cat) earlier in
      let low = is.site.emm.0 in
      let pid = packed_pid section 1 count (omega arith) in
      other_pid (section_packet section 1 (count % 16)) packets (grind (arith, nat_tests, pid, low))
  one_reads earlier (Entitles emm) packets said =
      let count : ℕ = count_by (is_alike (Entitles emm)) earlier in
      let high = is.site.emm.1 in
      let pid = packed_pid (emm_section emm) plan.site.emm count (omega (arith, high)) in
      its_pid (section_packet (emm_section emm) plan.site.emm (count % 16)) emm packets (grind (arith, nat_tests, pid))
      (section_reads plan clear is all emm (count % 16) said (omega arith))
  one_reads earlier (Controls one) packets said =
      let count : ℕ = count_by (is_alike (Controls one)) earlier in
      let high = is.site.ecm.1 in
      let apart = is.site.apart in
      let pid = packed_pid (ecm_section one) plan.site.ecm count (omega (arith, high)) in
      other_pid (section_packet (ecm_section one) plan.site.ecm (count % 16)) packets (grind (
        arith,
        nat_tests,
        pid,
        apart,
      ))
  one_reads earlier (Carries n packet) packets (k, within, same) =
      let taken = carried_pid k packet within same in
      other_pid packet packets (grind (arith, nat_tests, taken))

  -- the sections on the PID of entitlements are those that were sent
  pub sections_are : (earlier items : List Item) → All (IsOfBroadcast plan clear) items →
      sections_on plan.site.height plan.site.emm (packets_from plan.site earlier items) ≡ sections_in items
  unfolding packets_from sections_on
  sections_are earlier [] each = refl
  sections_are earlier (item ∷ items) each =
      one_reads earlier item (packets_from plan.site (earlier ++ item ∷ []) items)
      (said plan clear is all item (All-head (IsOfBroadcast plan clear) item items each))
      ∙ ap (λ (rest : List Emm). section_in item ++ rest)
      (sections_are (earlier ++ item ∷ []) items (All-tail (IsOfBroadcast plan clear) item items each))
