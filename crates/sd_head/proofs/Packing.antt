-- A period's sections, one after the other.
use Rattle.std.proofs.Common.{◌≡◌, ℕ, zero, suc, ◌+◌, ◌≤◌, List, [], ◌∷◌, ◌++◌, refl, ap, sym, ◌∙◌, take, length, arith}
use Rattle.std.specs.Prelude.{map, slice_get, Option, Some}
use Rattle.std.proofs.lemmas.List.{map-append, take_all}
use Rattle.sd_packet.specs.Packing.{section_packet}
use Rattle.sd_message.specs.EmmSpelled.{emm_section}
use Rattle.sd_message.specs.EmmForm.{sections_for}
use Rattle.sd_message.specs.Period.{Period, emms_of}
use Rattle.sd_message.specs.declared.emm.Emm.{Emm}
use Rattle.sd_message.specs.declared.emm.Entry.{Entry}
use Rattle.sd_message.proofs.EmmSharing.{as_many}
use Rattle.sd_tree_keys.specs.declared.set.SetName.{SetName}
use Rattle.sd_tree_keys.specs.Keys.{period_key_of, check_value_of}
use Rattle.sd_site_cards.specs.SiteFields.{SiteFields, run_name_of}
use Rattle.sd_spec.specs.Messages.{entry_of}
use Rattle.sd_head.specs.Packets.{period_packets, period_of_sets, period_of_entries}

-- the packets of these sections
abbrev pub of_sections : ℕ → List Emm → List (List ℕ)
of_sections pid emms = map (λ emm. section_packet (emm_section emm) pid 0) emms

-- what stands at a place is one more than those before it
pub taken_at : {A : Type 0} → (xs : List A) (k : ℕ) (x : A) → slice_get xs k ≡ Some x →
    take (k + 1) xs ≡ take k xs ++ x ∷ []
taken_at {A} [] k x h = absurd cc
taken_at {A} (y ∷ xs) zero x h = cc
taken_at {A} (y ∷ xs) (suc k) x h =
    let more : suc k + 1 ≡ suc (k + 1) = omega arith in
    rw more (ap (λ (ys : List A). y ∷ ys) (taken_at xs k x h))

-- one section more
pub section_more : (pid k : ℕ) (period : Period) (packets : List (List ℕ)) (emm : Emm) →
    packets ≡ of_sections pid (take k (emms_of period)) → slice_get (emms_of period) k ≡ Some emm →
    packets ++ section_packet (emm_section emm) pid 0 ∷ [] ≡ of_sections pid (take (k + 1) (emms_of period))
section_more pid k period packets emm so_far next =
    rw (taken_at (emms_of period) k emm next)
    (ap (λ (ps : List (List ℕ)). ps ++ section_packet (emm_section emm) pid 0 ∷ []) so_far
    ∙ sym (map-append (λ emm. section_packet (emm_section emm) pid 0) (take k (emms_of period)) (emm ∷ [])))

-- what a period is of, by its sets
pub period_is : (site : SiteFields) (run : Option ℕ) (q : ℕ) (sets cover : List SetName) (entries : List Entry)
    (check key : List ℕ) →
    run ≡ run_name_of site → sets ≡ cover → entries ≡ map (entry_of site q) sets → check ≡ check_value_of key →
    key ≡ period_key_of site.master q → period_of_entries run q check entries ≡ period_of_sets site q cover
unfolding period_of_sets
period_is site run q sets cover entries check key named is made checked keyed =
    rw (named, made, checked, keyed, is) refl

-- all of them
pub all_sections : (pid k : ℕ) (period : Period) (packets : List (List ℕ)) → sections_for (length period.entries) ≤ k →
    packets ≡ of_sections pid (take k (emms_of period)) → packets ≡ period_packets pid period
unfolding period_packets
all_sections pid k period packets all is =
    is ∙ ap (of_sections pid) (take_all k (emms_of period) (omega (arith, all, as_many period)))
