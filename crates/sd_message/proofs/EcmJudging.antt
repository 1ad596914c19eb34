-- What is wrong with a part of a control message, by what was read of it.
use Rattle.std.proofs.Common.{◌≡◌, inl, inr, ℕ, ◌-◌, ◌^◌, ◌<◌, ◌≤◌, List, length, take, drop, eq-eqb, refl, sym, ap}
use Rattle.std.proofs.Common.{◌∙◌, subst}
use Rattle.std.proofs.lemmas.Bool.{cases_eq, ne_eqb, false≢true}
use Rattle.std.specs.Prelude.{replicate}
use Rattle.sd_base.proofs.Fields.{field_below}
use Rattle.sd_message.proofs.Items.{length_items, each_read}
use Rattle.sd_message.proofs.Pieces.{filled_items, filled_rest}
use Rattle.sd_message.specs.EcmVersions.{IsVersion, IsNamed, IsBeforeMessage, IsSince}
use Rattle.sd_message.specs.EcmSpelled.{listed_places}
use Rattle.sd_message.specs.EcmForm.{no_place, ArePositioned, ArePidsAscending, AreShort, IsEcm}
use Rattle.sd_message.specs.EcmFields.{ecm_position_in, ecm_positions_in, padded_places, from_flags, body_flags}
use Rattle.sd_message.specs.EcmFields.{since_in, ecm_run_in, ecm_in}
use Rattle.sd_message.specs.EcmFields.{with_places}
use Rattle.sd_message.specs.EcmFields.{HasEcmCount, IsMatched, IsGoodEcm, BreaksEcmRule}
use Rattle.sd_message.specs.declared.ecm_part.Place.{Place}
use Rattle.sd_message.specs.declared.ecm_part.EcmPart.{EcmPart}
use Rattle.sd_message.specs.declared.ecm_fault.EcmFault.{EcmFault}
use Rattle.sd_message.specs.declared.ecm_fault.EcmFault.TheVariants.{Count, Order, Pid, Mixed, Back}

-- what stands before the positions was read
abbrev pub IsPrefix : EcmPart → EcmPart → Type 0
IsPrefix part head = head ≡ with_places part (replicate 13 no_place)

-- the bytes of the positions
abbrev pub places_from : ℕ → List ℕ → List ℕ
places_from v body = drop 50 (from_flags v body)

-- the positions that a part has are those in its body
pub listed_in : (v number last : ℕ) (body : List ℕ) →
    listed_places (ecm_in v number last body) ≡ ecm_positions_in (ecm_in v number last body).count (places_from v body)
unfolding ecm_in
listed_in v number last body =
    let count : ℕ = (ecm_in v number last body).count in
    let places : List Place = ecm_positions_in count (places_from v body) in
    ap (λ (n : ℕ). take n (padded_places places)) (sym (length_items ecm_position_in 8 count (places_from v body)))
    ∙ filled_items 13 no_place places

positions_are : (v number last : ℕ) (body : List ℕ) →
    (ecm_in v number last body).positions ≡ padded_places (ecm_positions_in
    (ecm_in v number last body).count (places_from v body))
unfolding ecm_in
positions_are v number last body = refl

-- the same positions by the count that was read
same_places : (v number last : ℕ) (body : List ℕ) (head : EcmPart) (count : ℕ) → IsPrefix (ecm_in v number last body)
    head →
    count ≡ head.count → ecm_positions_in count (places_from v body) ≡ listed_places (ecm_in v number last body)
same_places v number last body head count is counted =
    ap (λ (n : ℕ). ecm_positions_in n (places_from v body)) (counted ∙ ap (λ (p : EcmPart). p.count) is)
    ∙ sym (listed_in v number last body)

-- the count isn't what it is to be
pub count_breaks : (table_id : ℕ) (body : List ℕ) (part head : EcmPart) → IsPrefix part head →
    ¬ HasEcmCount (length body) head →
    BreaksEcmRule table_id body part Count
count_breaks table_id body part head is unless has = unless (subst (HasEcmCount (length body)) (sym is) has)

-- it is
has_count : (body : List ℕ) (part head : EcmPart) → IsPrefix part head → HasEcmCount (length body) head →
    HasEcmCount (length body) part
has_count body part head is has = subst (HasEcmCount (length body)) is has

-- what was read is what the section says
pub is_whole : (v number last : ℕ) (body : List ℕ) (head : EcmPart) (count : ℕ) (places : List Place) →
    IsPrefix (ecm_in v number last body) head → count ≡ head.count →
    places ≡ padded_places (ecm_positions_in count (places_from v body)) →
    with_places head places ≡ ecm_in v number last body
is_whole v number last body head count places is counted read =
    let same : places ≡ (ecm_in v number last body).positions =
    read ∙ (ap (λ (n : ℕ). padded_places (ecm_positions_in n (places_from v body))) (counted ∙ ap (λ (p : EcmPart).
    p.count) is)
    ∙ sym (positions_are v number last body)) in
    ap (λ (f : EcmPart). with_places f places) is ∙ ap (with_places (ecm_in v number last body)) same

-- the positions that were read are those that the part has
same_listed : (v number last : ℕ) (body : List ℕ) (head : EcmPart) (count : ℕ) (places : List Place) →
    IsPrefix (ecm_in v number last body) head → count ≡ head.count →
    places ≡ padded_places (ecm_positions_in count (places_from v body)) →
    take count places ≡ listed_places (ecm_in v number last body)
same_listed v number last body head count places is counted read =
    ap (λ (n : ℕ). take n places) counted ∙ ap listed_places
    (is_whole v number last body head count places is counted read)

-- the head was read, and the count is good
pub record IsJudged (v number last : ℕ) (body : List ℕ) (head : EcmPart) (count : ℕ) : Type 0 where
  pub is : IsPrefix (ecm_in v number last body) head
  pub has : HasEcmCount (length body) head
  pub counted : count ≡ head.count

-- so were the positions, and the PIDs have them
pub record AreRead (v : ℕ) (body : List ℕ) (count : ℕ) (places : List Place) : Type 0 where
  pub all : ArePositioned (ecm_positions_in count (places_from v body))
  pub read : places ≡ padded_places (ecm_positions_in count (places_from v body))

-- a PID has no positions
pub pid_breaks : (table_id v number last : ℕ) (body : List ℕ) (head : EcmPart) (count : ℕ) →
    IsJudged v number last body head count →
    ¬ ArePositioned (ecm_positions_in count (places_from v body)) →
    BreaksEcmRule table_id body (ecm_in v number last body) Pid
pid_breaks table_id v number last body head count judged unless = (
  has_count body (ecm_in v number last body) head judged.is judged.has,
  λ all. unless (subst ArePositioned (sym (same_places v number last body head count judged.is judged.counted)) all),
)

-- the PIDs don't ascend
pub order_breaks : (table_id v number last : ℕ) (body : List ℕ) (head : EcmPart) (count : ℕ) (places : List Place) →
    IsJudged v number last body head count → AreRead v body count places → ¬ ArePidsAscending (take count places) →
    BreaksEcmRule table_id body (ecm_in v number last body) Order
order_breaks table_id v number last body head count places judged are unless = (
  has_count body (ecm_in v number last body) head judged.is judged.has,
  (
    subst ArePositioned (same_places v number last body head count judged.is judged.counted) are.all,
    λ up. unless
        (subst ArePidsAscending
        (sym (same_listed v number last body head count places judged.is judged.counted are.read)) up),
  ),
)

-- the flags, the table_id or `since` don't match, by what was read
matched_too : (table_id v number last : ℕ) (body : List ℕ) (head : EcmPart) → IsPrefix (ecm_in v number last body)
    head →
    IsMatched table_id (body_flags v body) head →
    IsMatched table_id (body_flags (ecm_in v number last body).version body) (ecm_in v number last body)
unfolding ecm_in
matched_too table_id v number last body head is matched =
    let same = subst (IsMatched table_id (body_flags v body)) is matched in
    record { flags_are = same.flags_are; parity = same.parity; since = same.since }

matched_back : (table_id v number last : ℕ) (body : List ℕ) (head : EcmPart) → IsPrefix (ecm_in v number last body)
    head →
    IsMatched table_id (body_flags (ecm_in v number last body).version body) (ecm_in v number last body) →
    IsMatched table_id (body_flags v body) head
unfolding ecm_in
matched_back table_id v number last body head is matched =
    subst (IsMatched table_id (body_flags v body)) (sym is)
    (record { flags_are = matched.flags_are; parity = matched.parity; since = matched.since })

pub mixed_breaks : (table_id v number last : ℕ) (body : List ℕ) (head : EcmPart) (count : ℕ) (places : List Place) →
    IsJudged v number last body head count → AreRead v body count places → ArePidsAscending (take count places) →
    ¬ IsMatched table_id (body_flags v body) head → BreaksEcmRule table_id body (ecm_in v number last body) Mixed
mixed_breaks table_id v number last body head count places judged are up unless = (
  has_count body (ecm_in v number last body) head judged.is judged.has,
  (
    subst ArePositioned (same_places v number last body head count judged.is judged.counted) are.all,
    (
      subst ArePidsAscending (same_listed v number last body head count places judged.is judged.counted are.read) up,
      λ matched. unless (matched_back table_id v number last body head judged.is matched),
    ),
  ),
)

-- nothing is wrong
pub is_good : (table_id v number last : ℕ) (body : List ℕ) (head : EcmPart) (count : ℕ) (places : List Place) →
    IsJudged v number last body head count → AreRead v body count places → ArePidsAscending (take count places) →
    IsMatched table_id (body_flags v body) head → IsGoodEcm table_id body (ecm_in v number last body)
is_good table_id v number last body head count places judged are up matched = record {
  has_count = has_count body (ecm_in v number last body) head judged.is judged.has;
  places = subst ArePositioned (same_places v number last body head count judged.is judged.counted) are.all;
  ascending = subst ArePidsAscending (same_listed v number last body head count places judged.is judged.counted
      are.read)
      up;
  matched = matched_too table_id v number last body head judged.is matched;
}

-- what follows the positions is as it is to be
past_places : (v number last : ℕ) (body : List ℕ) →
    drop (ecm_in v number last body).count (ecm_in v number last body).positions
    ≡ replicate (13 - (ecm_in v number last body).count) no_place
past_places v number last body =
    let count : ℕ = (ecm_in v number last body).count in
    let places : List Place = ecm_positions_in count (places_from v body) in
    ap (drop count) (positions_are v number last body)
    ∙ subst (λ (n : ℕ). drop n (padded_places places) ≡ replicate (13 - n) no_place)
    (length_items ecm_position_in 8 count (places_from v body))
    (filled_rest 13 no_place places)

-- the positions that are read have 48 bits
short_place : (piece : List ℕ) → (ecm_position_in piece).position < 2 ^ 48
unfolding ecm_position_in
short_place piece = field_below piece 16 48

positions_fit : (n : ℕ) (bytes : List ℕ) → AreShort (ecm_positions_in n bytes)
positions_fit n bytes = each_read (λ (place : Place). place.position < 2 ^ 48) ecm_position_in 8 n bytes short_place

-- `since` is as it is to be
since_right : (v number last : ℕ) (body : List ℕ) → IsBeforeMessage (ecm_in v number last body).since
    (ecm_in v number last body).number →
    IsSince (ecm_in v number last body).version (ecm_in v number last body).number (ecm_in v number last body).since
unfolding ecm_in since_in
since_right v number last body before = record { before = before; fixed = λ one. rw one refl }

-- so is the broadcast's name
named_in : (v : ℕ) (body : List ℕ) → IsNamed v (ecm_run_in v body)
unfolding ecm_run_in
named_in v body = elim (cases_eq v 3) [
  | inl e ↦ rw (eq-eqb v 3 e) (λ _. e, λ _. refl)
  | inr g ↦ rw (ne_eqb v 3 g) (λ some. absurd (false≢true some), λ is. absurd (g is))
]

named_right : (v number last : ℕ) (body : List ℕ) →
    IsNamed (ecm_in v number last body).version (ecm_in v number last body).run
unfolding ecm_in
named_right v number last body = named_in v body

-- what breaks no rule is in its form
pub version_in_is : (v number last : ℕ) (body : List ℕ) → (ecm_in v number last body).version ≡ v
unfolding ecm_in
version_in_is v number last body = refl

version_read : (v number last : ℕ) (body : List ℕ) → IsVersion v → IsVersion (ecm_in v number last body).version
unfolding ecm_in
version_read v number last body is = is

numbers_read : (v number last : ℕ) (body : List ℕ) → number ≤ last →
    (ecm_in v number last body).part ≤ (ecm_in v number last body).last_part
unfolding ecm_in
numbers_read v number last body numbered = numbered

pub good_is_ecm : (table_id v number last : ℕ) (body : List ℕ) → IsVersion v → number ≤ last →
    IsGoodEcm table_id body (ecm_in v number last body) → IsEcm (ecm_in v number last body)
good_is_ecm table_id v number last body version numbered good = record {
  version = version_read v number last body version;
  named = named_right v number last body;
  since = since_right v number last body good.matched.since;
  numbered = numbers_read v number last body numbered;
  counted = good.has_count.1;
  places = good.places;
  ascending = good.ascending;
  positions = rw (listed_in v number last body) (positions_fit (ecm_in v number last body).count (places_from v body));
  rest = past_places v number last body;
}

-- one rule alone is broken first
pub breaks_once : (table_id : ℕ) (body : List ℕ) (part : EcmPart) (f g : EcmFault) →
    BreaksEcmRule table_id body part f →
    BreaksEcmRule table_id body part g →
    f ≡ g
breaks_once table_id body part Count Count a b = refl
breaks_once table_id body part Count Pid a b = absurd (a b.0)
breaks_once table_id body part Count Order a b = absurd (a b.0)
breaks_once table_id body part Count Mixed a b = absurd (a b.0)
breaks_once table_id body part Pid Count a b = absurd (b a.0)
breaks_once table_id body part Pid Pid a b = refl
breaks_once table_id body part Pid Order a b = absurd (a.1 b.1.0)
breaks_once table_id body part Pid Mixed a b = absurd (a.1 b.1.0)
breaks_once table_id body part Order Count a b = absurd (b a.0)
breaks_once table_id body part Order Pid a b = absurd (b.1 a.1.0)
breaks_once table_id body part Order Order a b = refl
breaks_once table_id body part Order Mixed a b = absurd (a.1.1 b.1.1.0)
breaks_once table_id body part Mixed Count a b = absurd (b a.0)
breaks_once table_id body part Mixed Pid a b = absurd (b.1 a.1.0)
breaks_once table_id body part Mixed Order a b = absurd (b.1.1 a.1.1.0)
breaks_once table_id body part Mixed Mixed a b = refl
breaks_once table_id body part Back g a b = absurd a
breaks_once table_id body part f Back a b = absurd b

-- and none where nothing is wrong
pub good_never : (table_id : ℕ) (body : List ℕ) (part : EcmPart) (f : EcmFault) → IsGoodEcm table_id body part →
    ¬ BreaksEcmRule table_id body part f
good_never table_id body part Count good b = b good.has_count
good_never table_id body part Pid good b = b.1 good.places
good_never table_id body part Order good b = b.1.1 good.ascending
good_never table_id body part Mixed good b = b.1.1.1 good.matched
good_never table_id body part Back good b = b
