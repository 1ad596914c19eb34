-- What a head end writes of packets, one after the other.
use Rattle.std.proofs.Common.{◌≡◌, ℕ, List, [], ◌∷◌, ◌++◌, refl, sym, ap, subst, ◌∙◌, append_assoc, append-nil, inl}
use Rattle.std.proofs.Common.{inr}
use Rattle.std.specs.Prelude.{Option, Some, None}
use Rattle.std.specs.List.{concat}
use Rattle.std.specs.Option.{option_map_or}
use Rattle.sd_engine.specs.Stage.{Chain, all_from}
use Rattle.sd_engine.specs.Driving.{ChainToEnd, ChainToRefusal as Refused}
use Rattle.sd_engine.proofs.Chains.{chain_writes}
use Rattle.sd_site_cards.specs.SiteFields.{SiteFields}
use Rattle.sd_message.specs.declared.clear_fault.ClearFault.{ClearFault}
use Rattle.sd_spec.specs.Plan.{Plan}
use Rattle.sd_spec.specs.Refused.{refusal_of, refusal_from, whole_refusal, IsClear}
use Rattle.sd_spec.specs.Sent.{body, broadcast, bytes_added, sent_bytes_from}
use Rattle.sd_spec.proofs.Bodies.{body_bytes, closed_bytes}
use Rattle.sd_head.specs.Staged.{head_does, head_ends, head_refuses, IsHeadEndAfter, RefusesClearPacket}
use Rattle.sd_head.specs.Schedule.{IsDue}
use Rattle.sd_head.specs.declared.fault.HeadFault.{HeadFault}
use Rattle.sd_head.specs.declared.fault.HeadFault.TheVariants.{Clear}
use Rattle.sd_head.specs.declared.head.Head.{Head}
use Rattle.sd_head.proofs.Stepping.{none_then}

-- the bytes of packets, each after those before it
pub all_bytes : (plan : Plan) (before packets : List (List ℕ)) →
    all_from (bytes_added plan) before packets ≡ sent_bytes_from plan before packets
unfolding sent_bytes_from
all_bytes plan before [] = refl
all_bytes plan before (packet ∷ packets) =
    ap (λ (rest : List ℕ). bytes_added plan before packet ++ rest) (all_bytes plan (before ++ packet ∷ []) packets)

-- a chain from the beginning
pub chained : (plan : Plan) (packets : List (List ℕ)) (s t : Head) (bytes : List ℕ) (steps : ℕ) →
    IsHeadEndAfter plan [] s →
    Chain head_does s packets t bytes steps → (bytes ≡ concat (body plan packets)) × IsHeadEndAfter plan packets t
chained plan packets s t bytes steps after chain =
    let there = chain_writes head_does (IsHeadEndAfter plan) (bytes_added plan)
    (λ before u packet v wrote n stands does. ((does plan before stands).1, (does plan before stands).2))
    [] s packets t bytes steps after chain in
    (there.0 ∙ (all_bytes plan [] packets ∙ sym (body_bytes plan packets)), there.1)

pub all_written : (plan : Plan) (packets : List (List ℕ)) (s t : Head) (bytes : List ℕ) (steps : ℕ) →
    IsHeadEndAfter plan [] s →
    Chain head_does s packets t bytes steps → bytes ≡ concat (body plan packets)
all_written plan packets s t bytes steps after chain = (chained plan packets s t bytes steps after chain).0

pub all_after : (plan : Plan) (packets : List (List ℕ)) (s t : Head) (bytes : List ℕ) (steps : ℕ) →
    IsHeadEndAfter plan [] s →
    Chain head_does s packets t bytes steps → IsHeadEndAfter plan packets t
all_after plan packets s t bytes steps after chain = (chained plan packets s t bytes steps after chain).1

-- packets that are clear and one more that isn't refused are clear
still_clear : (site : SiteFields) (start packets : List (List ℕ)) (packet : List ℕ) →
    refusal_from site start packets ≡ None →
    refusal_of site (start ++ packets) packet ≡ None → refusal_from site start (packets ++ packet ∷ []) ≡ None
unfolding refusal_from
still_clear site start [] packet h now =
    ap (λ (r : Option ClearFault). option_map_or Some r None)
    (subst (λ (b : List (List ℕ)). refusal_of site b packet ≡ None) (append-nil start) now)
still_clear site start (first ∷ packets) packet h now =
    none_then (refusal_of site start first) (refusal_from site (start ++ first ∷ []) packets)
    (refusal_from site (start ++ first ∷ []) (packets ++ packet ∷ [])) h
    (λ rest. still_clear site (start ++ first ∷ []) packets packet rest
    (subst (λ (b : List (List ℕ)). refusal_of site b packet ≡ None)
    (sym (append_assoc start (first ∷ []) packets)) now))

-- no packet is refused of none
pub none_clear : (site : SiteFields) → IsClear site []
unfolding refusal_from
none_clear site = refl

pub all_clear : (plan : Plan) (packets : List (List ℕ)) (s t : Head) (bytes : List ℕ) (steps : ℕ) →
    IsHeadEndAfter plan [] s →
    Chain head_does s packets t bytes steps → IsClear plan.site packets
all_clear plan packets s t bytes steps after chain =
    (chain_writes head_does (λ before u. IsHeadEndAfter plan before u × IsClear plan.site before) (bytes_added plan)
    (λ before u packet v wrote n stands does. let here = does plan before stands.0 in
    (here.1, (here.2, still_clear plan.site [] before packet stands.1 here.0)))
    [] s packets t bytes steps (after, none_clear plan.site) chain).1.1

pub whole_written : (plan : Plan) (packets : List (List ℕ)) (s t : Head) (bytes : List ℕ) (steps : ℕ) →
    IsHeadEndAfter plan [] s →
    ChainToEnd head_does head_ends s packets t bytes steps → bytes ≡ concat (broadcast plan packets)
whole_written plan packets s t bytes steps after (mid, first, last, m, k, chain, end, joined, counted) =
    let there = chained plan packets s mid first m after chain in
    joined ∙ (ap (λ (xs : List ℕ). xs ++ last) there.0
    ∙ (ap (λ (xs : List ℕ). concat (body plan packets) ++ xs) (end.1 plan packets there.1).0
    ∙ sym (closed_bytes plan packets)))

pub whole_clear : (plan : Plan) (packets : List (List ℕ)) (s t : Head) (bytes : List ℕ) (steps : ℕ) →
    IsHeadEndAfter plan [] s →
    ChainToEnd head_does head_ends s packets t bytes steps → IsClear plan.site packets
whole_clear plan packets s t bytes steps after (mid, first, last, m, k, chain, end, joined, counted) =
    all_clear plan packets s mid first m after chain

-- and the end isn't refused
pub whole_ended : (plan : Plan) (packets : List (List ℕ)) (s t : Head) (bytes : List ℕ) (steps : ℕ) →
    IsHeadEndAfter plan [] s →
    ChainToEnd head_does head_ends s packets t bytes steps → whole_refusal plan.site packets ≡ None
unfolding whole_refusal
whole_ended plan packets s t bytes steps after (mid, first, last, m, k, chain, end, joined, counted) =
    rw (all_clear plan packets s mid first m after chain)
    (end.0 plan packets (all_after plan packets s mid first m after chain))

pub refused_written : (plan : Plan) (packets : List (List ℕ)) (refused : Option (List ℕ)) (fault : HeadFault)
    (s t : Head)
    (bytes : List ℕ) (steps : ℕ) → IsHeadEndAfter plan [] s →
    Refused head_does head_refuses s packets refused fault t bytes steps →
    bytes ≡ concat (body plan packets)
refused_written plan packets refused fault s t bytes steps after
    (mid, first, last, m, k, chain, refuses, joined, counted) =
    joined ∙ (ap (λ (xs : List ℕ). first ++ xs) refuses.nothing
    ∙ (append-nil first ∙ all_written plan packets s mid first m after chain))

pub refused_clear : (plan : Plan) (packets : List (List ℕ)) (refused : Option (List ℕ)) (fault : HeadFault) (s t : Head)
    (bytes : List ℕ) (steps : ℕ) → IsHeadEndAfter plan [] s →
    Refused head_does head_refuses s packets refused fault t bytes steps →
    IsClear plan.site packets
refused_clear plan packets refused fault s t bytes steps after
    (mid, first, last, m, k, chain, refuses, joined, counted) =
    all_clear plan packets s mid first m after chain

-- where none of some is refused, the next one's refusal is the first
refused_then : {F : Type 0} → (first : Option F) (rest more found : Option F) → option_map_or Some first rest ≡ None →
    (rest ≡ None → more ≡ found) → option_map_or Some first more ≡ found
refused_then None rest more found h f = f h
refused_then (Some x) rest more found h f = absurd cc

first_after : (site : SiteFields) (start packets rest : List (List ℕ)) (packet : List ℕ) (fault : ClearFault) →
    refusal_from site start packets ≡ None → refusal_of site (start ++ packets) packet ≡ Some fault →
    refusal_from site start (packets ++ packet ∷ rest) ≡ Some fault
unfolding refusal_from
first_after site start [] rest packet fault h now =
    ap (λ (r : Option ClearFault). option_map_or Some r (refusal_from site (start ++ packet ∷ []) rest))
    (subst (λ (b : List (List ℕ)). refusal_of site b packet ≡ Some fault) (append-nil start) now)
first_after site start (first ∷ packets) rest packet fault h now =
    refused_then (refusal_of site start first) (refusal_from site (start ++ first ∷ []) packets)
    (refusal_from site (start ++ first ∷ []) (packets ++ packet ∷ rest)) (Some fault) h
    (λ none. first_after site (start ++ first ∷ []) packets rest packet fault none
    (subst (λ (b : List (List ℕ)). refusal_of site b packet ≡ Some fault)
    (sym (append_assoc start (first ∷ []) packets)) now))

-- whether it keeps a refusal or one is due, after packets that were sent one is due
due_after : (plan : Plan) (packets : List (List ℕ)) (refused : Option (List ℕ)) (fault : HeadFault) (mid : Head)
    (bytes : List ℕ) → IsHeadEndAfter plan packets mid → RefusesClearPacket mid refused fault bytes →
    IsDue plan packets refused fault
due_after plan packets refused fault mid bytes there refuses = elim refuses.cause [
  | inl kept ↦ absurd (apart mid.refusal fault there.unrefused kept)
  | inr due ↦ due plan packets there
]
  where
    apart : (refusal : Option HeadFault) (fault : HeadFault) → refusal ≡ None → refusal ≡ Some fault → ⊥
    apart refusal fault none some = absurd cc

pub first_refused : (plan : Plan) (packets rest : List (List ℕ)) (packet : List ℕ) (fault : ClearFault) (s t : Head)
    (bytes : List ℕ)
    (steps : ℕ) → IsHeadEndAfter plan [] s →
    Refused head_does head_refuses s packets (Some packet) (Clear fault) t bytes steps →
    refusal_from plan.site [] (packets ++ packet ∷ rest) ≡ Some fault
first_refused plan packets rest packet fault s t bytes steps after
    (mid, first, last, m, k, chain, refuses, joined, counted) =
    let there = all_after plan packets s mid first m after chain in
    let clear = all_clear plan packets s mid first m after chain in
    first_after plan.site [] packets rest packet fault clear
    (due_after plan packets (Some packet) (Clear fault) mid _ there refuses)

pub end_refused : (plan : Plan) (packets : List (List ℕ)) (fault : ClearFault) (s t : Head) (bytes : List ℕ)
    (steps : ℕ) → IsHeadEndAfter plan [] s →
    Refused head_does head_refuses s packets None (Clear fault) t bytes steps →
    whole_refusal plan.site packets ≡ Some fault
unfolding whole_refusal
end_refused plan packets fault s t bytes steps after
    (mid, first, last, m, k, chain, refuses, joined, counted) =
    rw (all_clear plan packets s mid first m after chain)
    (due_after plan packets None (Clear fault) mid _ (all_after plan packets s mid first m after chain) refuses)
