-- The sets of a period's cover, and their entries.
use Rattle.std.proofs.Common.{◌≡◌, ℕ, ◌^◌, ◌<◌, ◌≤◌, List, [], ◌∷◌, length, Contains, get_or}
use Rattle.std.proofs.Common.{refl, sym, subst, inl, inr, arith}
use Rattle.std.proofs.lemmas.List.{length-map}
use Rattle.std.specs.Prelude.{All, map}
use Rattle.std.proofs.lemmas.List.Elements.{All-contains, All-from_get_or, Contains-get_or}
use Rattle.sd_tree_keys.specs.Node.{IsAbove}
use Rattle.sd_tree_keys.specs.SetNames.{AreAscending}
use Rattle.sd_tree_keys.specs.declared.set.SetName.{SetName}
use Rattle.sd_tree_keys.specs.declared.set.SetName.TheVariants.{Whole, Diff}
use Rattle.sd_tree_keys.specs.Limits.{most_revoked, highest}
use Rattle.sd_message.specs.declared.emm.Entry.{Entry}
use Rattle.sd_site_cards.specs.SiteFields.{SiteFields}
use Rattle.sd_cover_tracing.specs.Chains.{IsChainCover}
use Rattle.sd_cover_tracing.proofs.Ends.{linked_start}
use Rattle.sd_cover_tracing.proofs.Covers.{cover_small}
use Rattle.sd_cover_tracing.proofs.Lists.{member_cases, no_member}
use Rattle.sd_cover_tracing.proofs.Heights.{linked_above}
use Rattle.sd_message.specs.EmmSpelled.{names_in}
use Rattle.sd_message.specs.declared.emm_format.TheConstants.{MOST_SETS}
use Rattle.sd_spec.specs.Messages.{entry_of}
use Rattle.sd_spec.proofs.Periods.{names_are}
use Rattle.sd_head.specs.Crypto.{IsKeyed}

-- each set of a chain cover has a key
set_keyed : (d : ℕ) (leaves : List ℕ) (sets : List SetName) → IsChainCover d leaves sets → (name : SetName) →
    Contains sets name → IsKeyed name
set_keyed d leaves sets cover Whole m = tt
set_keyed d [] sets cover (Diff i j) m =
    elim (member_cases Whole [] (Diff i j)
    (subst (λ (names : List SetName). Contains names (Diff i j)) (cover.none_revoked refl) m)) [
      | inl same ↦ absurd cc
      | inr none ↦ absurd (no_member (Diff i j) none)
    ]
set_keyed d (u ∷ us) sets cover (Diff i j) m =
    let chain = (cover.chains (λ e. absurd cc) (Diff i j)).0 m in (
      (linked_start d (u ∷ us) chain.nodes i chain.linked).0,
      subst (IsAbove i) chain.last (linked_above d (u ∷ us) chain.nodes i chain.linked),
    )

pub all_keyed : (d : ℕ) (leaves : List ℕ) (sets : List SetName) → IsChainCover d leaves sets → All IsKeyed sets
all_keyed d leaves sets cover = All-from_get_or IsKeyed sets Whole
    (λ i h. set_keyed d leaves sets cover (get_or sets i Whole) (Contains-get_or sets i Whole h))

-- they are no more than a period may have
pub sets_few : (d : ℕ) (leaves : List ℕ) (sets : List SetName) → d ≤ highest → All (λ u. u < 2 ^ d) leaves →
    length leaves ≤ most_revoked → IsChainCover d leaves sets → length sets ≤ MOST_SETS
sets_few d [] sets small all few cover = rw (cover.none_revoked refl) (omega arith)
sets_few d (u ∷ us) sets small all few cover =
    let count = (cover_small d (u ∷ us) sets (omega (arith, small))
    (λ w m. All-contains (λ v. v < 2 ^ d) (u ∷ us) w all m) cover).count (omega arith) in
    omega (arith, few, count)

pub entries_few : (site : SiteFields) (q : ℕ) (sets : List SetName) (entries : List Entry) →
    entries ≡ map (entry_of site q) sets →
    length sets ≤ MOST_SETS → length entries ≤ MOST_SETS
entries_few site q sets entries is few = rw is (rw (length-map sets (entry_of site q)) few)

pub entries_ascend : (site : SiteFields) (q : ℕ) (sets : List SetName) (entries : List Entry) →
    entries ≡ map (entry_of site q) sets →
    AreAscending sets → AreAscending (names_in entries)
entries_ascend site q sets entries is up =
    rw is (subst AreAscending (sym (names_are site q sets)) up)
