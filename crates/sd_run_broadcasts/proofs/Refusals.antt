-- The refusal of a clear stream, by its packets and its end.
use Rattle.std.proofs.Common.{◌≡◌, ℕ, Bool, true, false, List, [], ◌∷◌, Option, Some, None, refl, sym, ap, ◌∙◌}
use Rattle.std.specs.Option.{option_map_or}
use Rattle.sd_site_cards.specs.SiteFields.{SiteFields}
use Rattle.sd_engine.specs.Taken.{StreamEnd, Whole, Breaks, RunsOn}
use Rattle.sd_message.specs.declared.clear_fault.ClearFault.{ClearFault}
use Rattle.sd_message.specs.declared.clear_fault.ClearFault.TheVariants.{TooLong}
use Rattle.sd_message.specs.ClearFaults.{clear_packet}
use Rattle.sd_spec.specs.Refused.{end_refusal, fault_where, is_used_up, refusal_from, whole_refusal}
use Rattle.sd_run_broadcasts.specs.Head.{stream_refusal}

-- of a refusal and those after it
pub none_first : (o rest : Option ClearFault) → option_map_or Some o rest ≡ None → (o ≡ None) × (rest ≡ None)
none_first None rest h = (refl, h)
none_first (Some fault) rest h = absurd (cc)

-- a stream that isn't refused has no packet that is, and its end isn't refused if it is whole
pub none_whole : (site : SiteFields) (clear : List (List ℕ)) → whole_refusal site clear ≡ None →
    (refusal_from site [] clear ≡ None) × (end_refusal site clear ≡ None)
unfolding whole_refusal
none_whole site clear none = none_first (refusal_from site [] clear) (end_refusal site clear) none

pub none_sent : (site : SiteFields) (clear : List (List ℕ)) (end : StreamEnd) → stream_refusal site clear end ≡ None →
    refusal_from site [] clear ≡ None
unfolding stream_refusal
none_sent site clear Whole none = (none_whole site clear none).0
none_sent site clear (Breaks found) none = none
none_sent site clear RunsOn none = none

pub ended_whole : (site : SiteFields) (clear : List (List ℕ)) (end : StreamEnd) → end ≡ Whole →
    stream_refusal site clear end ≡ None → whole_refusal site clear ≡ None
unfolding stream_refusal
ended_whole site clear end is none = ap (stream_refusal site clear) (sym is) ∙ none

-- the other way
pub whole_none : (site : SiteFields) (clear : List (List ℕ)) → refusal_from site [] clear ≡ None →
    end_refusal site clear ≡ None → whole_refusal site clear ≡ None
unfolding whole_refusal
whole_none site clear none end = ap (λ (o : Option ClearFault). option_map_or Some o (end_refusal site clear)) none
    ∙ end

pub whole_ended : (site : SiteFields) (clear : List (List ℕ)) (fault : ClearFault) → refusal_from site [] clear ≡ None →
    end_refusal site clear ≡ Some fault → whole_refusal site clear ≡ Some fault
unfolding whole_refusal
whole_ended site clear fault none end =
    ap (λ (o : Option ClearFault). option_map_or Some o (end_refusal site clear)) none ∙ end

-- a packet that is refused decides, however the stream ends
pub refused_sent : (site : SiteFields) (clear : List (List ℕ)) (end : StreamEnd) (fault : ClearFault) →
    refusal_from site [] clear ≡ Some fault → stream_refusal site clear end ≡ Some fault
unfolding stream_refusal whole_refusal
refused_sent site clear Whole fault is =
    ap (λ (o : Option ClearFault). option_map_or Some o (end_refusal site clear)) is
refused_sent site clear (Breaks found) fault is = is
refused_sent site clear RunsOn fault is = is

-- the end is refused of no packets alone
ended_first : (b : Bool) (fault : ClearFault) → fault_where b (TooLong 0) None ≡ Some fault → clear_packet fault ≡ 0
ended_first true fault is = let same : TooLong 0 ≡ fault = cc in ap clear_packet (sym same)
ended_first false fault is = absurd (cc)

pub end_names : (site : SiteFields) (clear : List (List ℕ)) (fault : ClearFault) → end_refusal site clear ≡ Some fault →
    (clear ≡ []) × (clear_packet fault ≡ 0)
end_names site [] fault is = (refl, ended_first (is_used_up site 0) fault is)
end_names site (packet ∷ packets) fault is = absurd (cc)
