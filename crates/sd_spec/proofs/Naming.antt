-- The version of a site's messages, and the name that they tell.
use Rattle.std.proofs.Common.{ℕ, zero, suc, ◌^◌, ◌<◌, inl, inr, eq-eqb, arith, refl}
use Rattle.std.specs.Prelude.{IfSome}
use Rattle.std.proofs.lemmas.Bool.{cases_eq, ne_eqb, false≢true}
use Rattle.sd_site_cards.specs.Forms.{IsWithin, messages_line}
use Rattle.sd_site_cards.specs.SiteFields.{SiteFields, AreInRange, run_name_of}
use Rattle.sd_message.specs.EcmVersions.{IsVersion, IsNamed}

-- the messages are of one of the three versions
pub version_is : (version : ℕ) → IsWithin messages_line version → IsVersion version
version_is zero range = absurd (omega (arith, range.0))
version_is (suc zero) range = inl refl
version_is (suc (suc zero)) range = inr (inl refl)
version_is (suc (suc (suc zero))) range = inr (inr refl)
version_is (suc (suc (suc (suc v)))) range = absurd (omega (arith, range.1))

-- those of version 3 alone name their run
pub named_is : (site : SiteFields) → IsNamed site.messages (run_name_of site)
unfolding run_name_of
named_is site = elim (cases_eq site.messages 3) [
  | inl e ↦ rw (eq-eqb site.messages 3 e) (λ _. e, λ _. refl)
  | inr g ↦ rw (ne_eqb site.messages 3 g) (λ some. absurd (false≢true some), λ is. absurd (g is))
]

-- by a number of 32 bits
pub name_short : (site : SiteFields) → AreInRange site → IfSome (run_name_of site) (λ run. run < 2 ^ 32)
unfolding run_name_of
name_short site range = elim (cases_eq site.messages 3) [
  | inl e ↦ rw (eq-eqb site.messages 3 e) (omega (arith, range.first_word.1))
  | inr g ↦ rw (ne_eqb site.messages 3 g) tt
]
