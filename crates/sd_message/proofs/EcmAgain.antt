-- What is spelled is read as what it was.
use Rattle.std.proofs.Common.{◌≡◌, ℕ, ◌+◌, ◌*◌, ◌^◌, ◌<◌, ◌≤◌, List, [], ◌∷◌, ◌++◌, length, take, drop, get_or}
use Rattle.std.proofs.Common.{append_assoc, length-append, length-take-le, eq-eqb, inl, inr, arith, refl, sym, ap}
use Rattle.std.proofs.Common.{subst, ◌∙◌}
use Rattle.std.specs.Prelude.{Bool, true, false, ◌==◌, nat_le, All, slice_index, slice_range, flat_map}
use Rattle.std.specs.Prelude.{if◌then◌else◌, Option, Some, None, IfSome}
use Rattle.std.specs.Option.{unwrap_or}
use Rattle.std.specs.Int.{w32, to_be_bytes}
use Rattle.std.proofs.lemmas.Bool.{and_parts, leb-true, cases_eq, ne_eqb, false≢true}
use Rattle.std.proofs.lemmas.List.{take_at, drop_at, get_or_at}
use Rattle.sd_base.specs.Bits.{field}
use Rattle.sd_message.proofs.Numbers.{half_again, word_again, long_again}
use Rattle.sd_message.proofs.Items.{items_again, long_items}
use Rattle.sd_message.proofs.Pieces.{filled_again}
use Rattle.sd_message.specs.EcmVersions.{IsVersion, IsNamed, IsSince, flags_at}
use Rattle.sd_message.specs.EcmSpelled.{listed_places, place_bytes, flags_for, numbers_bytes, since_bytes, word_bytes}
use Rattle.sd_message.specs.EcmSpelled.{ecm_head_bytes}
use Rattle.sd_message.specs.EcmSpelled.{ecm_body}
use Rattle.sd_message.specs.EcmForm.{IsEcm, FitsEcmFields, FitsEcmHead, no_place}
use Rattle.sd_message.specs.EcmFields.{ecm_position_in, ecm_positions_in, padded_places, from_flags, body_flags}
use Rattle.sd_message.specs.EcmFields.{since_in, ecm_run_in, ecm_in}
use Rattle.sd_message.specs.declared.ecm_part.Place.{Place}
use Rattle.sd_message.specs.declared.ecm_part.EcmPart.{EcmPart}
use Rattle.sd_message.proofs.Versions.{few_positions, by_version}
use Rattle.sd_message.proofs.EcmSpelling.{body_is}

-- the position's fields fit
record IsSpellable (place : Place) : Type 0 where
  pid : place.pid < 2 ^ 16
  position : place.position < 2 ^ 48

-- a position by its fields
abbrev placed : ℕ → ℕ → Place
placed pid position = record { pid = pid; position = position }

same_placed : (p p' q q' : ℕ) → p ≡ p' → q ≡ q' → placed p q ≡ placed p' q'
same_placed p p' q q' e f = rw (e, f) refl

-- a position alone
place_alone : (place : Place) → IsSpellable place → ecm_position_in (place_bytes place) ≡ place
unfolding ecm_position_in place_bytes
place_alone place fits =
    let xs : List ℕ = place_bytes place in
    same_placed _ place.pid _ place.position (half_again xs 0 place.pid fits.pid refl refl)
    (long_again xs 2 place.position fits.position refl refl refl refl refl refl)

long_place : (place : Place) → IsSpellable place → length (place_bytes place) ≡ 8
unfolding place_bytes
long_place place fits = refl

-- a part by its fields
abbrev made : ℕ → ℕ → ℕ → ℕ → ℕ → ℕ → Option ℕ → Bool → ℕ → ℕ → List ℕ → List ℕ → ℕ → List Place → EcmPart
made version number period word clear since run closing part last wrapped check count positions = record {
  version = version;
  number = number;
  period = period;
  word = word;
  clear = clear;
  since = since;
  run = run;
  closing = closing;
  part = part;
  last_part = last;
  wrapped = wrapped;
  check = check;
  count = count;
  positions = positions;
}

same_made : (v a a' b b' c c' d d' s s' : ℕ) (r r' : Option ℕ) (e e' : Bool) (x y : ℕ) (f f' g g' : List ℕ) (k k' : ℕ)
    (p p' : List Place) → a ≡ a' →
    b ≡ b' → c ≡ c' → d ≡ d' → s ≡ s' → r ≡ r' → e ≡ e' → f ≡ f' → g ≡ g' → k ≡ k' → p ≡ p' →
    made v a b c d s r e x y f g k p ≡ made v a' b' c' d' s' r' e' x y f' g' k' p'
same_made v a a' b b' c c' d d' s s' r r' e e' x y f f' g g' k k' p p' h1 h2 h3 h4 h5 h6 h7 h8 h9 h10 h11 = rw
    (h1, h2, h3, h4, h5, h6, h7, h8, h9, h10, h11) refl

-- each that there is can be spelled
all_spellable : (part : EcmPart) → IsEcm part → All IsSpellable (listed_places part)
all_spellable part form k d below =
    let pid : ℕ = (get_or (listed_places part) k d).pid in
    let parts = and_parts (nat_le 0x0020 pid) (nat_le pid 0x1FEF) (form.places k d below) in
    record { pid = omega (arith, leb-true pid 0x1FEF parts.1); position = form.positions k d below }

-- how many there are
pub listed_long : (part : EcmPart) → FitsEcmFields part → IsEcm part → length (listed_places part) ≡ part.count
listed_long part fits form =
    length-take-le part.count part.positions
    (omega (arith, fits.positions, form.counted.few, few_positions part.version))

-- the flags say whether the message closes the stream
flags_again : (closing : Bool) → (flags_for closing == 1) ≡ closing
flags_again true = refl
flags_again false = refl

-- what stands from the flags on
tail_after : (v a b c d since : ℕ) (run : Option ℕ) (tail : List ℕ) →
    drop (flags_at v) ((to_be_bytes w32 a ++ (to_be_bytes w32 b ++ (to_be_bytes w32 c ++ to_be_bytes w32 d)))
    ++ (since_bytes v since run ++ tail)) ≡ tail
unfolding flags_at since_bytes
tail_after v a b c d since run tail =
    by_version (λ three two.
    drop (if three then 24 else if two then 20 else 16)
    ((to_be_bytes w32 a ++ (to_be_bytes w32 b ++ (to_be_bytes w32 c ++ to_be_bytes w32 d)))
    ++ ((if three then to_be_bytes w32 since ++ to_be_bytes w32 (unwrap_or run 0)
    else if two then to_be_bytes w32 since else []) ++ tail)) ≡ tail) v (λ _. refl) (λ _. refl) refl

-- `since` is read where it is written, and else is what it is to be
since_again : (v a b c d since : ℕ) (run : Option ℕ) (tail : List ℕ) → IsVersion v → since < 2 ^ 32 →
    IsSince v a since →
    since_in v a ((to_be_bytes w32 a ++ (to_be_bytes w32 b ++ (to_be_bytes w32 c ++ to_be_bytes w32 d)))
    ++ (since_bytes v since run ++ tail)) ≡ since
unfolding since_in since_bytes
since_again v a b c d since run tail (inl e) fits is = rw (eq-eqb v 1 e) (sym (is.fixed e))
since_again v a b c d since run tail (inr (inl e)) fits is =
    let xs : List ℕ =
    (to_be_bytes w32 a ++ (to_be_bytes w32 b ++ (to_be_bytes w32 c ++ to_be_bytes w32 d)))
    ++ (to_be_bytes w32 since ++ tail) in
    rw e (word_again xs 16 since fits refl refl refl refl)
since_again v a b c d since run tail (inr (inr e)) fits is =
    let xs : List ℕ =
    (to_be_bytes w32 a ++ (to_be_bytes w32 b ++ (to_be_bytes w32 c ++ to_be_bytes w32 d)))
    ++ ((to_be_bytes w32 since ++ to_be_bytes w32 (unwrap_or run 0)) ++ tail) in
    rw e (word_again xs 16 since fits refl refl refl refl)

-- so is the broadcast's name
no_name : (v : ℕ) (run : Option ℕ) → IsNamed v run → ¬ (v ≡ 3) → None ≡ run
no_name v None named other = refl
no_name v (Some run) named other = absurd (other (named.0 refl))

a_name : (v : ℕ) (run : Option ℕ) → IsNamed v run → v ≡ 3 → Some (unwrap_or run 0) ≡ run
a_name v None named is = absurd (false≢true (named.1 is))
a_name v (Some run) named is = refl

short_name : (run : Option ℕ) → IfSome run (λ name. name < 2 ^ 32) → unwrap_or run 0 < 2 ^ 32
short_name None fits = omega arith
short_name (Some run) fits = fits

run_again : (v a b c d since : ℕ) (run : Option ℕ) (tail : List ℕ) → IsNamed v run →
    IfSome run (λ name. name < 2 ^ 32) →
    ecm_run_in v ((to_be_bytes w32 a ++ (to_be_bytes w32 b ++ (to_be_bytes w32 c ++ to_be_bytes w32 d)))
    ++ (since_bytes v since run ++ tail)) ≡ run
unfolding ecm_run_in since_bytes
run_again v a b c d since run tail named fits = elim (cases_eq v 3) [
  | inl e ↦
      let xs : List ℕ =
      (to_be_bytes w32 a ++ (to_be_bytes w32 b ++ (to_be_bytes w32 c ++ to_be_bytes w32 d)))
      ++ ((to_be_bytes w32 since ++ to_be_bytes w32 (unwrap_or run 0)) ++ tail) in
      rw (eq-eqb v 3 e)
      (ap (λ (n : ℕ). Some n) (word_again xs 20 (unwrap_or run 0) (short_name run fits) refl refl refl refl)
      ∙ a_name v run named e)
  | inr g ↦ rw (ne_eqb v 3 g) (no_name v run named g)
]

-- a part's body in its pieces
body_split : (part : EcmPart) →
    ecm_body part ≡ numbers_bytes part
    ++ (since_bytes part.version part.since part.run ++ (word_bytes part ++ flat_map place_bytes (listed_places part)))
unfolding ecm_body ecm_head_bytes
body_split part =
    body_is (numbers_bytes part) (since_bytes part.version part.since part.run) (word_bytes part)
    (flat_map place_bytes (listed_places part))

pub tail_again : (part : EcmPart) → from_flags part.version (ecm_body part) ≡ word_bytes part ++ flat_map place_bytes
    (listed_places part)
unfolding numbers_bytes
tail_again part =
    ap (drop (flags_at part.version)) (body_split part)
    ∙ tail_after part.version part.number part.period part.word part.clear part.since part.run
    (word_bytes part ++ flat_map place_bytes (listed_places part))

-- what is read from there
record IsTail (part : EcmPart) (tail : List ℕ) : Type 0 where
  flags : (slice_index tail 0 == 1) ≡ part.closing
  wrapped : slice_range tail 1 33 ≡ part.wrapped
  check : slice_range tail 33 49 ≡ part.check
  count : slice_index tail 49 ≡ part.count
  rest : drop 50 tail ≡ flat_map place_bytes (listed_places part)

tail_read : (part : EcmPart) → FitsEcmHead part →
    IsTail part (word_bytes part ++ flat_map place_bytes (listed_places part))
unfolding word_bytes
tail_read part fits =
    let ps : List ℕ = flat_map place_bytes (listed_places part) in
    let xs : List ℕ = word_bytes part ++ ps in
    let end : List ℕ = part.check ++ part.count ∷ [] in
    let after : drop 1 xs ≡ part.wrapped ++ (part.check ++ part.count ∷ ps) =
    append_assoc part.wrapped end ps ∙ ap (λ (l : List ℕ). part.wrapped ++ l)
    (append_assoc part.check (part.count ∷ []) ps) in
    let tail : drop 33 xs ≡ part.check ++ part.count ∷ ps =
    ap (drop 32) after ∙ drop_at part.wrapped (part.check ++ part.count ∷ ps) 32 fits.wrapped in
    let long_end : length end ≡ 17 = omega (arith, length-append part.check (part.count ∷ []), fits.check) in
    record {
      flags = flags_again part.closing;
      wrapped = ap (take 32) after ∙ take_at part.wrapped (part.check ++ part.count ∷ ps) 32 fits.wrapped;
      check = ap (take 16) tail ∙ take_at part.check (part.count ∷ ps) 16 fits.check;
      count = ap (λ (l : List ℕ). get_or l 48 0) (after ∙ sym (append_assoc part.wrapped part.check (part.count ∷ ps)))
          ∙ get_or_at (part.wrapped ++ part.check) part.count ps 0 48
          (omega (arith, length-append part.wrapped part.check, fits.wrapped, fits.check));
      rest = drop_at (part.wrapped ++ end) ps 49
          (omega (arith, length-append part.wrapped end, fits.wrapped, long_end));
    }

-- what is read before
record IsNumbered (part : EcmPart) (body : List ℕ) : Type 0 where
  number : field body 0 32 ≡ part.number
  period : field body 32 32 ≡ part.period
  word : field body 64 32 ≡ part.word
  clear : field body 96 32 ≡ part.clear
  since : since_in part.version part.number body ≡ part.since
  run : ecm_run_in part.version body ≡ part.run

numbers_read : (part : EcmPart) (rest : List ℕ) → FitsEcmHead part → IsVersion part.version →
    IsNamed part.version part.run →
    IsSince part.version part.number part.since →
    IsNumbered part (numbers_bytes part ++ (since_bytes part.version part.since part.run ++ rest))
unfolding numbers_bytes
numbers_read part rest fits version named since =
    let xs : List ℕ = numbers_bytes part ++ (since_bytes part.version part.since part.run ++ rest) in
    record {
      number = word_again xs 0 part.number fits.number refl refl refl refl;
      period = word_again xs 4 part.period fits.period refl refl refl refl;
      word = word_again xs 8 part.word fits.word refl refl refl refl;
      clear = word_again xs 12 part.clear fits.clear refl refl refl refl;
      since = since_again part.version part.number part.period part.word part.clear part.since part.run rest version
          fits.since since;
      run = run_again part.version part.number part.period part.word part.clear part.since part.run rest named fits.run;
    }

-- the body is read as what it spells
pub body_again : (part : EcmPart) → FitsEcmFields part → IsEcm part → ecm_in part.version part.part part.last_part
    (ecm_body part) ≡ part
unfolding ecm_in
body_again part fits form =
    let xs : List ℕ = ecm_body part in
    let rest : List ℕ = word_bytes part ++ flat_map place_bytes (listed_places part) in
    let numbers : IsNumbered part xs = subst (IsNumbered part) (sym (body_split part))
    (numbers_read part rest fits.head form.version form.named form.since) in
    let tail : IsTail part (from_flags part.version xs) = subst (IsTail part) (sym (tail_again part))
    (tail_read part fits.head) in
    let long = listed_long part fits form in
    let places : ecm_positions_in (slice_index (from_flags part.version xs) 49) (drop 50 (from_flags part.version xs))
    ≡ listed_places part =
    ap (λ (n : ℕ). ecm_positions_in n (drop 50 (from_flags part.version xs))) (tail.count ∙ sym long)
    ∙ (ap (ecm_positions_in (length (listed_places part))) tail.rest
    ∙ items_again ecm_position_in place_bytes IsSpellable 8 (listed_places part) long_place place_alone
    (all_spellable part form)) in
    same_made part.version _ part.number _ part.period _ part.word _ part.clear _ part.since _ part.run _ part.closing
    part.part part.last_part _ part.wrapped _ part.check _ part.count _
    part.positions
    numbers.number numbers.period numbers.word numbers.clear
    (ap (λ (n : ℕ). since_in part.version n xs) numbers.number ∙ numbers.since)
    numbers.run
    tail.flags tail.wrapped tail.check tail.count
    (ap padded_places places ∙ filled_again 13 part.count no_place part.positions long form.rest)

-- how long the body is
long_since : (v since : ℕ) (run : Option ℕ) (rest : List ℕ) →
    length (since_bytes v since run ++ rest) + 16 ≡ flags_at v + length rest
unfolding since_bytes flags_at
long_since v since run rest =
    by_version (λ three two.
    length ((if three then to_be_bytes w32 since ++ to_be_bytes w32 (unwrap_or run 0)
    else if two then to_be_bytes w32 since else []) ++ rest) + 16
    ≡ (if three then 24 else if two then 20 else 16) + length rest) v (λ _. omega arith) (λ _.
    omega arith) (omega arith)

long_word : (part : EcmPart) → FitsEcmHead part → length (word_bytes part) ≡ 50
unfolding word_bytes
long_word part fits =
    let end : List ℕ = part.check ++ part.count ∷ [] in
    omega (arith, length-append part.wrapped end, length-append part.check (part.count ∷ []), fits.wrapped, fits.check)

long_numbers : (part : EcmPart) → length (numbers_bytes part) ≡ 16
unfolding numbers_bytes
long_numbers part = refl

pub long_body : (part : EcmPart) → FitsEcmFields part → IsEcm part → length (ecm_body part) ≡ flags_at part.version + 50
    + 8 * part.count
long_body part fits form =
    let ps : List ℕ = flat_map place_bytes (listed_places part) in
    let rest : List ℕ = word_bytes part ++ ps in
    ap length (body_split part)
    ∙ omega (
      arith,
      length-append (numbers_bytes part) (since_bytes part.version part.since part.run ++ rest),
      long_numbers part,
      long_since part.version part.since part.run rest,
      length-append (word_bytes part) ps,
      long_word part fits.head,
      long_items place_bytes IsSpellable 8 (listed_places part) long_place (all_spellable part form),
      listed_long part fits form,
    )

flags_few : (closing : Bool) → flags_for closing ≤ 1
flags_few true = omega arith
flags_few false = omega arith

first_few : (part : EcmPart) (ps : List ℕ) → slice_index (word_bytes part ++ ps) 0 ≤ 1
unfolding word_bytes
first_few part ps = flags_few part.closing

-- the flags in it
pub few_flags : (part : EcmPart) → body_flags part.version (ecm_body part) ≤ 1
few_flags part = rw (tail_again part) (first_few part (flat_map place_bytes (listed_places part)))
