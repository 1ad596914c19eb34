-- Sections of one period say the same.
use Rattle.std.proofs.Common.{◌≡◌, true, false, not, List, get_or, refl, sym, ◌∙◌, eq-eqb}
use Rattle.std.specs.Prelude.{All, Contains}
use Rattle.std.proofs.lemmas.List.Elements.{All-contains}
use Rattle.std.proofs.lemmas.List.Folds.{list_any_none}
use Rattle.sd_base.proofs.Lists.{equal_bytes}
use Rattle.sd_message.specs.Period.{Period, emms_of, IsOfPeriod}
use Rattle.sd_message.specs.declared.emm.Emm.{Emm}
use Rattle.sd_message.proofs.EmmSharing.{all_are_of}
use Rattle.sd_spec.specs.Offered.{says_same, is_mixed}

-- two sections of a period
two_say_same : (period : Period) (a b : Emm) → IsOfPeriod period a → IsOfPeriod period b → says_same a b ≡ true
two_say_same period a b p q =
    rw (
      eq-eqb a.sets b.sets (p.sets ∙ sym q.sets),
      eq-eqb a.sections b.sections
          (p.sections ∙ sym q.sections),
    )
    (equal_bytes a.check b.check (p.check ∙ sym q.check))

-- so none is mixed among others
pub none_mixed : (period : Period) (emm : Emm) (sections : List Emm) → Contains (emms_of period) emm →
    All (Contains (emms_of period)) sections → is_mixed sections emm ≡ false
none_mixed period emm sections m each =
    list_any_none (λ (other : Emm). not (says_same other emm)) sections (λ k d within.
    let its = All-contains (IsOfPeriod period) (emms_of period) emm (all_are_of period) m in
    let others = All-contains (IsOfPeriod period) (emms_of period) (get_or sections k d) (all_are_of period)
    (each k d within) in
    rw (two_say_same period (get_or sections k d) emm others its) refl)

pub any_two : (period : Period) (a b : Emm) → Contains (emms_of period) a → Contains (emms_of period) b →
    says_same a b ≡ true
any_two period a b m n =
    two_say_same period a b (All-contains (IsOfPeriod period) (emms_of period) a (all_are_of period) m)
    (All-contains (IsOfPeriod period) (emms_of period) b (all_are_of period) n)
