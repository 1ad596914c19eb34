-- What is sent for more of a clear stream begins with what is sent for less.
use Rattle.std.proofs.Common.{arith, ◌≡◌, ℕ, ◌<◌, ◌≤◌, List, [], ◌∷◌, ◌++◌, refl, ap, sym, ◌∙◌}
use Rattle.std.proofs.Common.{length, length-append, take, drop}
use Rattle.std.specs.Prelude.{All, get_or}
use Rattle.std.specs.List.{concat}
use Rattle.std.proofs.lemmas.List.{take_all, take-append-drop, get_or_append_left, map-append}
use Rattle.std.proofs.lemmas.List.Elements.{All-head, All-tail}
use Rattle.std.proofs.lemmas.List.Folds.{concat-append}
use Rattle.sd_engine.specs.Stream.{packets_of}
use Rattle.sd_engine.proofs.Longer.{first_stay}
use Rattle.sd_spec.specs.Plan.{Plan}
use Rattle.sd_spec.specs.Sent.{sent, packets_from, body}
use Rattle.sd_spec.proofs.Sending.{packets_in_turn}
use Rattle.sd_spec.proofs.Standing.{sent_begins}
use Rattle.sd_spec.specs.Watch.{stream, count_sent, at_places}

-- the packets of more bytes begin with those of fewer
packets_begin : (bytes more : List ℕ) →
    (rest : List (List ℕ)) × (packets_of (bytes ++ more) ≡ packets_of bytes ++ rest)
packets_begin bytes more =
    let n : ℕ = length (packets_of bytes) in (
      drop n (packets_of (bytes ++ more)),
      sym (take-append-drop n (packets_of (bytes ++ more)))
          ∙ ap (λ (first : List (List ℕ)). first ++ drop n (packets_of (bytes ++ more)))
          (first_stay n bytes more (omega arith) ∙ take_all n (packets_of bytes) (omega arith)),
    )

-- the packets of more things begin with those of fewer
bodies_begin : (plan : Plan) (clear : List (List ℕ)) (j k : ℕ) → j ≤ k →
    (more : List (List ℕ)) × (body plan (take k clear) ≡ body plan (take j clear) ++ more)
unfolding body
bodies_begin plan clear j k below =
    let (later, is) = sent_begins plan clear j k below in (
      packets_from plan.site (sent plan (take j clear)) later,
      ap (packets_from plan.site []) is ∙ packets_in_turn plan.site [] (sent plan (take j clear)) later,
    )

pub streams_begin : (plan : Plan) (clear : List (List ℕ)) (j k : ℕ) → j ≤ k →
    (rest : List (List ℕ)) × (stream plan (take k clear) ≡ stream plan (take j clear) ++ rest)
unfolding stream
streams_begin plan clear j k below =
    let (more, is) = bodies_begin plan clear j k below in
    let (rest, begun) = packets_begin (concat (body plan (take j clear))) (concat more) in (
      rest,
      ap (λ (packets : List (List ℕ)). packets_of (concat packets)) is
          ∙ (ap packets_of (concat-append (body plan (take j clear)) more) ∙ begun),
    )

-- the number of packets that are sent never falls
pub counts_rise : (plan : Plan) (clear : List (List ℕ)) (j k : ℕ) → j ≤ k →
    count_sent plan clear j ≤ count_sent plan clear k
counts_rise plan clear j k below =
    let (rest, is) = streams_begin plan clear j k below in
    omega (arith, ap length is, length-append (stream plan (take j clear)) rest)

-- what is at places of a list stays if the list goes on
pub places_stay : {A : Type 0} (none : A) (xs ys : List A) (places : List ℕ) → All (λ i. i < length xs) places →
    at_places none (xs ++ ys) places ≡ at_places none xs places
unfolding at_places
places_stay none xs ys [] all = refl
places_stay none xs ys (i ∷ places) all =
    rw (get_or_append_left xs ys none i (All-head (λ i. i < length xs) i places all))
    (ap (λ rest. get_or xs i none ∷ rest)
    (places_stay none xs ys places (All-tail (λ i. i < length xs) i places all)))

-- one place more
pub place_more : {A : Type 0} (none : A) (xs : List A) (places : List ℕ) (i : ℕ) →
    at_places none xs (places ++ i ∷ []) ≡ at_places none xs places ++ get_or xs i none ∷ []
unfolding at_places
place_more none xs places i = map-append (λ (j : ℕ). get_or xs j none) places (i ∷ [])
