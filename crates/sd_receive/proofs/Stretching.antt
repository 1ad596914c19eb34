-- What one thing more that is heard changes.
use Rattle.std.proofs.Common.{◌≡◌, ℕ, ◌++◌, List, [], ◌∷◌, refl, ap, ◌∙◌, false}
use Rattle.std.specs.Prelude.{Some, None, reverse}
use Rattle.std.proofs.lemmas.List.{reverse-append}
use Rattle.sd_message.specs.EcmParts.{Message}
use Rattle.sd_message.specs.declared.ecm_part.EcmPart.{EcmPart}
use Rattle.sd_spec.specs.Heard.{Heard, Controls, Other}
use Rattle.sd_spec.specs.Stretches.{newest_message, completes, is_closed, sections_seen, others, other_with, held_in}
use Rattle.sd_spec.proofs.Hearing.{newest_waits}

-- the stream is closed by a closing message alone
pub stays_open : (past : List Heard) (heard : Heard) → is_closed past ≡ false → completes past heard ≡ None →
    is_closed (heard ∷ past) ≡ false
unfolding is_closed
stays_open past heard unclosed none = rw (unclosed, none) refl

pub closes : (past : List Heard) (heard : Heard) (message : Message) → is_closed past ≡ false →
    completes past heard ≡ Some message →
    is_closed (heard ∷ past) ≡ message.closing
unfolding is_closed
closes past heard message unclosed done = rw (unclosed, done) refl

-- the packets to hold
pub holds_more : (past : List Heard) (n : ℕ) (packet : List ℕ) →
    held_in (newest_message (Other n packet ∷ past)) ≡ held_in (newest_message past) ++ (n, packet) ∷ []
unfolding others
holds_more past n packet =
    ap held_in (newest_waits past (Other n packet) refl) ∙ reverse-append ((n, packet) ∷ [])
    (others (newest_message past).after)

pub holds_same : (past : List Heard) (heard : Heard) → completes past heard ≡ None →
    other_with heard (others (newest_message past).after) ≡ others (newest_message past).after →
    held_in (newest_message (heard ∷ past)) ≡ held_in (newest_message past)
unfolding others
holds_same past heard none same = ap held_in (newest_waits past heard none) ∙
    ap (λ (o : List (ℕ × List ℕ)). reverse o) same

-- a part is no section
pub sees_same : (q : ℕ) (past : List Heard) (part : EcmPart) → sections_seen q (Controls part ∷ past)
    ≡ sections_seen q past
unfolding sections_seen
sees_same q past part = refl
