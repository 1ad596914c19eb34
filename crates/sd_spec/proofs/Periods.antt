-- What is said of a period.
use Rattle.std.proofs.Common.{◌≡◌, ℕ, List, [], ◌∷◌, map, refl, ap, ◌∙◌}
use Rattle.std.specs.Prelude.{Contains}
use Rattle.std.proofs.lemmas.List.Elements.{All-contains}
use Rattle.sd_tree_keys.specs.declared.set.SetName.{SetName}
use Rattle.sd_site_cards.specs.SiteFields.{SiteFields}
use Rattle.sd_message.specs.EmmSpelled.{names_in}
use Rattle.sd_message.specs.Period.{emms_of, IsOfPeriod}
use Rattle.sd_message.specs.declared.emm.Emm.{Emm}
use Rattle.sd_message.proofs.EmmSharing.{all_are_of}
use Rattle.sd_spec.specs.Plan.{Plan}
use Rattle.sd_spec.specs.Messages.{entry_of, period_at}

-- the number of period q is q
pub number_is : (plan : Plan) (q : ℕ) → (period_at plan q).number ≡ q
unfolding period_at
number_is plan q = refl

-- a section of period q has its number
pub section_number : (plan : Plan) (q : ℕ) (emm : Emm) → Contains (emms_of (period_at plan q)) emm → emm.period ≡ q
section_number plan q emm m =
    (All-contains (IsOfPeriod (period_at plan q)) (emms_of (period_at plan q)) emm
    (all_are_of (period_at plan q)) m).number
    ∙ number_is plan q

-- the entries of sets name them
pub names_are : (site : SiteFields) (q : ℕ) (names : List SetName) → names_in (map (entry_of site q) names) ≡ names
unfolding entry_of
names_are site q [] = refl
names_are site q (name ∷ names) = ap (λ (rest : List SetName). name ∷ rest) (names_are site q names)
