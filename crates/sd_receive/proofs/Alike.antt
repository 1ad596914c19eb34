-- Parts that say the same of their message.
use Rattle.std.proofs.Common.{◌≡◌, ℕ, ◌==◌, Bool, true, false, refl, ap, ◌∙◌}
use Rattle.std.specs.Prelude.{not, if◌then◌else◌, Option, Some, None}
use Rattle.std.specs.Bool.{Decides}
use Rattle.std.proofs.lemmas.Bool.{false≢true, true≢false}
use Rattle.std.proofs.lemmas.Bool.Decides.{Decides-and, Decides-like, Decides-eqb}
use Rattle.std.proofs.lemmas.Slice.Eq.{bytes_eq-Decides}
use Rattle.sd_message.specs.EcmParts.{SaySame}
use Rattle.sd_message.specs.declared.ecm_part.EcmPart.{EcmPart}
use Rattle.sd_message.specs.declared.ecm_message.EcmHead.{EcmHead}
use Rattle.sd_spec.specs.Runs.{is_same_run}
use Rattle.sd_spec.specs.Offered.{same_header}

-- two flags are the same
same_flag : (a b : Bool) → Decides (if a then b else not b) (a ≡ b)
same_flag true true = (λ _. refl, λ _. refl)
same_flag true false = (λ e. absurd (false≢true e), λ e. absurd (true≢false e))
same_flag false true = (λ e. absurd (false≢true e), λ e. absurd (false≢true e))
same_flag false false = (λ _. refl, λ _. refl)

-- two names are the same
same_name : (a b : Option ℕ) → Decides (is_same_run a b) (a ≡ b)
same_name None None = (λ _. refl, λ _. refl)
same_name None (Some n) = (λ e. absurd (false≢true e), λ e. absurd (cc))
same_name (Some m) None = (λ e. absurd (false≢true e), λ e. absurd (cc))
same_name (Some m) (Some n) =
    Decides-like (m == n) (λ e. ap (λ (k : ℕ). Some k) e) (λ e. let same : m ≡ n = cc in same) (Decides-eqb m n)

-- the fields of two parts that tell their message, one by one
abbrev AreSame : EcmPart → EcmPart → Type 0
AreSame a b =
    (a.version ≡ b.version) × ((a.number ≡ b.number) × ((a.period ≡ b.period) × ((a.word ≡ b.word)
    × ((a.clear ≡ b.clear) × ((a.since ≡ b.since) × ((a.run ≡ b.run) × ((a.closing ≡ b.closing)
    × ((a.wrapped ≡ b.wrapped) × ((a.check ≡ b.check) × (a.last_part ≡ b.last_part))))))))))

tests_same : (a b : EcmPart) → Decides (same_header a b) (AreSame a b)
tests_same a b =
    Decides-and _ _ (Decides-eqb a.version b.version) (Decides-and _ _ (Decides-eqb a.number b.number)
    (Decides-and _ _ (Decides-eqb a.period b.period) (Decides-and _ _ (Decides-eqb a.word b.word)
    (Decides-and _ _ (Decides-eqb a.clear b.clear) (Decides-and _ _ (Decides-eqb a.since b.since)
    (Decides-and _ _ (same_name a.run b.run) (Decides-and _ _ (same_flag a.closing b.closing)
    (Decides-and _ _ (bytes_eq-Decides a.wrapped b.wrapped) (Decides-and _ _ (bytes_eq-Decides a.check b.check)
    (Decides-eqb a.last_part b.last_part))))))))))

same_fields : (a b : EcmPart) → AreSame a b → SaySame a b
same_fields a b (v, (n, (p, (w, (c, (s, (r, (f, (x, (k, l)))))))))) = (cc, l)

fields_same : (a b : EcmPart) → SaySame a b → AreSame a b
fields_same a b (e, l) = (
  ap (λ (h : EcmHead). h.version) e,
  (
    ap (λ (h : EcmHead). h.number) e,
    (
      ap (λ (h : EcmHead). h.period) e,
      (
        ap (λ (h : EcmHead). h.word) e,
        (
          ap (λ (h : EcmHead). h.clear) e,
          (
            ap (λ (h : EcmHead). h.since) e,
            (
              ap (λ (h : EcmHead). h.run) e,
              (
                ap (λ (h : EcmHead). h.closing) e,
                (ap (λ (h : EcmHead). h.wrapped) e, (ap (λ (h : EcmHead). h.check) e, l)),
              ),
            ),
          ),
        ),
      ),
    ),
  ),
)

-- the test of two headers tells whether two parts say the same
pub headers_told : (a b : EcmPart) → Decides (same_header a b) (SaySame a b)
headers_told a b = Decides-like (same_header a b) (same_fields a b) (fields_same a b) (tests_same a b)

-- what says the same as a part that says the same as a third says the same as the third
pub all_same : (a b c : EcmPart) → SaySame a b → SaySame b c → SaySame a c
all_same a b c p q = (p.0 ∙ q.0, p.1 ∙ q.1)
