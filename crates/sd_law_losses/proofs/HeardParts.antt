-- The parts of a message tell it.
use Rattle.std.proofs.Common.{◌≡◌, ℕ, ◌<◌, ◌≤◌, Bool, true, false, not, nat_le, nat_lt, eq-eqb}
use Rattle.std.proofs.Common.{List, [], ◌∷◌, ◌++◌, length, take, drop, get_or, Some, None, if◌then◌else◌}
use Rattle.std.proofs.Common.{refl, sym, ap, subst, ◌∙◌, arith, append_assoc, append-nil, length-append}
use Rattle.std.specs.Prelude.{slice_get, All, Contains, Option, flat_map, reverse}
use Rattle.std.specs.List.{list_any}
use Rattle.std.proofs.lemmas.Bool.Decides.{nat_tests}
use Rattle.std.proofs.lemmas.List.{reverse-reverse, length-reverse, take-append-drop}
use Rattle.std.proofs.Math.Seq.{get_or-append_seam}
use Rattle.std.proofs.lemmas.Option.{slice_get-get_or}
use Rattle.std.proofs.lemmas.List.Concat.{flat_map-append}
use Rattle.std.proofs.lemmas.List.Elements.{All-head, Contains-get_or}
use Rattle.std.proofs.lemmas.List.Folds.{list_any_none}
use Rattle.sd_base.proofs.Lists.{equal_bytes}
use Rattle.sd_message.specs.Pieces.{pieces_for}
use Rattle.sd_message.specs.EcmSpelled.{listed_places}
use Rattle.sd_message.specs.EcmForm.{ArePidsAscending}
use Rattle.sd_message.specs.EcmParts.{Message, message_of, IsMessage, IsOfMessage, ecm_head_of, parts_of}
use Rattle.sd_message.specs.declared.ecm_part.Place.{Place}
use Rattle.sd_message.specs.declared.ecm_part.EcmPart.{EcmPart}
use Rattle.sd_message.proofs.EcmSharing.{all_are_of, as_many, joined_are_all, number_is}
use Rattle.sd_spec.specs.Stretches.{message_told}
use Rattle.sd_spec.specs.Runs.{is_same_run}
use Rattle.sd_spec.specs.Offered.{same_header, is_after, part_fault}
use Rattle.sd_law_losses.specs.Parts.{IsPartBetween}
use Rattle.sd_law_losses.proofs.Lists.{split_all, reverse_cons, all_reversed, pairs_across}

-- equal flags and equal names pass their tests
same_flags : (a b : Bool) → a ≡ b → (if a then b else not b) ≡ true
same_flags true true e = refl
same_flags true false e = absurd (cc)
same_flags false true e = absurd (cc)
same_flags false false e = refl

same_names : (a b : Option ℕ) → a ≡ b → is_same_run a b ≡ true
same_names None None e = refl
same_names None (Some n) e = absurd (cc)
same_names (Some m) None e = absurd (cc)
same_names (Some m) (Some n) e = let same : m ≡ n = cc in eq-eqb m n same

-- two parts of a message say the same of it
headers_same : (message : Message) (a b : EcmPart) → IsOfMessage message a → IsOfMessage message b →
    same_header a b ≡ true
headers_same message a b p q =
    rw (
      eq-eqb a.version b.version (p.version ∙ sym q.version),
      eq-eqb a.number b.number (p.number ∙ sym q.number),
      eq-eqb a.period b.period (p.period ∙ sym q.period),
      eq-eqb a.word b.word (p.word ∙ sym q.word),
      eq-eqb a.clear b.clear (p.clear ∙ sym q.clear),
      eq-eqb a.since b.since (p.since ∙ sym q.since),
      same_names a.run b.run (p.run ∙ sym q.run),
      same_flags a.closing b.closing (p.closing ∙ sym q.closing),
      equal_bytes a.wrapped b.wrapped (p.wrapped ∙ sym q.wrapped),
      equal_bytes a.check b.check (p.check ∙ sym q.check),
      eq-eqb a.last_part b.last_part (p.last_part ∙ sym q.last_part),
    ) refl

-- a part stands after those before it
after_is : (message : Message) (run : List EcmPart) (part : EcmPart) (rest : List EcmPart) → IsMessage message →
    parts_of message ≡ reverse run ++ (part ∷ rest) → is_after part run ≡ true
after_is message [] part rest is same = refl
after_is message (before ∷ run) part rest is same =
    rw (list_any_none (λ (place : Place). list_any (λ (old : Place). nat_le place.pid old.pid) (listed_places before))
    (listed_places part)
    (λ i d inside. list_any_none (λ (old : Place).
    nat_le (get_or (listed_places part) i d).pid old.pid) (listed_places before)
    (λ j e within. above (get_or (listed_places before) j e) (get_or (listed_places part) i d)
    (Contains-get_or (listed_places before) j e within) (Contains-get_or (listed_places part) i d inside)))) refl
  where
    prefix : List Place
    prefix = flat_map listed_places (reverse run)

    spread : message.places ≡ prefix ++ (listed_places before ++ (listed_places part ++ flat_map listed_places rest))
    spread = sym (joined_are_all message)
        ∙ (ap (flat_map listed_places) (same ∙ (ap (λ (xs : List EcmPart). xs ++
        (part ∷ rest)) (reverse_cons before run)
        ∙ append_assoc (reverse run) (before ∷ []) (part ∷ rest)))
        ∙ flat_map-append listed_places (reverse run) (before ∷ part ∷ rest))

    above : (old place : Place) → Contains (listed_places before) old → Contains (listed_places part) place →
        nat_le place.pid old.pid ≡ false
    above old place m n =
        let less : old.pid < place.pid =
        pairs_across (λ (a b : Place). a.pid < b.pid) prefix (listed_places before) (listed_places part)
        (flat_map listed_places rest) old place
        (subst ArePidsAscending spread is.ascending) m n in
        grind (arith, nat_tests, less)

-- turned round, joined lists are as long
length_turned : {A B : Type 0} (f : A → List B) (xs : List A) → length (flat_map f (reverse xs)) ≡ length
    (flat_map f xs)
length_turned f [] = refl
length_turned f (x ∷ xs) =
    let rest = length_turned f xs in
    let turned : flat_map f (reverse (x ∷ xs)) ≡ flat_map f (reverse xs) ++ flat_map f (x ∷ []) =
    ap (flat_map f) (reverse_cons x xs) ∙ flat_map-append f (reverse xs) (x ∷ []) in
    let one : flat_map f (x ∷ []) ≡ f x = append-nil (f x) in
    let last : length (flat_map f (x ∷ [])) ≡ length (f x) = ap length one in
    rw turned (omega (
      arith,
      rest,
      last,
      length-append (flat_map f (reverse xs)) (flat_map f (x ∷ [])),
      length-append (f x) (flat_map f xs),
    ))

-- the parts have no more places than the message
few_places : (message : Message) (run : List EcmPart) (part : EcmPart) (rest : List EcmPart) → IsMessage message →
    parts_of message ≡ reverse run ++ (part ∷ rest) → length (flat_map listed_places (part ∷ run)) ≤ 256
few_places message run part rest is same =
    let count = is.count in
    let all : length (flat_map listed_places (parts_of message)) ≡ length message.places = ap length
    (joined_are_all message) in
    let cut : flat_map listed_places (parts_of message) ≡ flat_map listed_places (reverse run) ++
    (listed_places part ++ flat_map listed_places rest) =
    ap (flat_map listed_places) same ∙ flat_map-append listed_places (reverse run) (part ∷ rest) in
    let turned = length_turned listed_places run in
    let long : length (flat_map listed_places (parts_of message))
    ≡ length (flat_map listed_places (reverse run) ++ (listed_places part ++ flat_map listed_places rest)) =
    ap length cut in
    omega (
      arith,
      count,
      all,
      turned,
      long,
      length-append (flat_map listed_places (reverse run)) (listed_places part ++ flat_map listed_places rest),
      length-append (listed_places part) (flat_map listed_places rest),
      length-append (listed_places part) (flat_map listed_places run),
    )

-- so one more part is without fault
next_right : (message : Message) (run : List EcmPart) (part : EcmPart) (rest : List EcmPart) → IsMessage message →
    parts_of message ≡ reverse run ++ (part ∷ rest) → part_fault (part ∷ run) ≡ None
unfolding part_fault
next_right message run part rest is same =
    let each = split_all (IsOfMessage message) (reverse run) (part ∷ rest)
    (subst (All (IsOfMessage message)) same (all_are_of message)) in
    let its = All-head (IsOfMessage message) part rest each.1 in
    let others = all_reversed (IsOfMessage message) run each.0 in
    let headers : list_any (λ (other : EcmPart). not (same_header other part)) run ≡ false =
    list_any_none (λ (other : EcmPart). not (same_header other part)) run
    (λ k d within. rw (headers_same message (get_or run k d) part (others k d within) its) refl) in
    let few = few_places message run part rest is same in
    let count : nat_lt 256 (length (flat_map listed_places (part ∷ run))) ≡ false = grind (arith, nat_tests, few) in
    rw (headers, after_is message run part rest is same, count) refl

pub parts_right : (message : Message) (x : ℕ) → IsMessage message →
    part_fault (reverse (take x (parts_of message))) ≡ None
unfolding part_fault
parts_right message x is = by_run (reverse (take x (parts_of message))) refl
  where
    parts : List EcmPart
    parts = parts_of message

    by_run : (run : List EcmPart) → reverse (take x (parts_of message)) ≡ run → part_fault run ≡ None
    by_run [] e = refl
    by_run (part ∷ run) e =
        let prefix : take x (parts_of message) ≡ reverse run ++ part ∷ [] =
        sym (reverse-reverse (take x (parts_of message))) ∙ (ap reverse e ∙ reverse_cons part run) in
        let whole : parts_of message ≡ reverse run ++ (part ∷ drop x (parts_of message)) =
        sym (take-append-drop x (parts_of message))
        ∙ (ap (λ (xs : List EcmPart). xs ++ drop x (parts_of message)) prefix
        ∙ append_assoc (reverse run) (part ∷ []) (drop x (parts_of message))) in
        next_right message run part (drop x (parts_of message)) is whole

-- a message by its fields
made : (message : Message) (part : EcmPart) (places : List Place) → IsOfMessage message part → places ≡ message.places →
    message_of (ecm_head_of part) places ≡ message
made message part places is same =
    rw (
      is.version,
      is.number,
      is.period,
      is.word,
      is.clear,
      is.since,
      is.run,
      is.closing,
      is.wrapped,
      is.check,
      same,
    ) refl

-- a message has a part
pub some_part : (message : Message) → 1 ≤ length (parts_of message)
unfolding pieces_for
some_part message = omega (arith, as_many message)

-- all parts tell it
pub parts_tell : (message : Message) → message_told (reverse (parts_of message)) ≡ Some message
parts_tell message = by_run (reverse (parts_of message)) refl
  where
    by_run : (run : List EcmPart) → reverse (parts_of message) ≡ run → message_told run ≡ Some message
    by_run [] e =
        let none : length (parts_of message) ≡ 0 = ap length (sym (reverse-reverse
        (parts_of message)) ∙ ap reverse e) in
        absurd (omega (arith, none, some_part message))
    by_run (part ∷ run) e =
        let back : reverse (part ∷ run) ≡ parts_of message = sym (ap reverse e) ∙ reverse-reverse (parts_of message) in
        let all = subst (All (IsOfMessage message)) (sym back) (all_are_of message) in
        let its = All-head (IsOfMessage message) part run (all_reversed (IsOfMessage message) (part ∷ run) all) in
        ap (λ (m : Message). Some m)
        (made message part (flat_map listed_places (reverse (part ∷ run))) its
        (ap (flat_map listed_places) back ∙ joined_are_all message))

-- each stands at its place
pub part_stands : (message : Message) (before : List EcmPart) (part : EcmPart) (after : List EcmPart) →
    IsMessage message → parts_of message ≡ reverse before ++ (part ∷ after) → IsPartBetween message before part after
part_stands message before part after is same =
    let each = split_all (IsOfMessage message) (reverse before) (part ∷ after)
    (subst (All (IsOfMessage message)) same (all_are_of message)) in
    let its = All-head (IsOfMessage message) part after each.1 in
    let prefix = length-reverse before in
    let there : slice_get (parts_of message) (length (reverse before)) ≡ Some part =
    ap (λ (xs : List EcmPart). slice_get xs (length (reverse before))) same
    ∙ (slice_get-get_or (reverse before ++ (part ∷ after)) (length (reverse before)) part
    (omega (arith, length-append (reverse before) (part ∷ after)))
    ∙ ap (λ (p : EcmPart). Some p) (get_or-append_seam (reverse before) part after part)) in
    let many = as_many message in
    let long : length (parts_of message) ≡ length (reverse before ++ (part ∷ after)) = ap length same in
    record {
      number = its.number;
      place = number_is message (length (reverse before)) part there ∙ prefix;
      last = its.last_part ∙ omega (arith, many, long, prefix, length-append (reverse before) (part ∷ after));
      right = next_right message before part after is same;
    }
