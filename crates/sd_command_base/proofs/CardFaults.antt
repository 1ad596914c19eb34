-- A card's file that is refused.
use Rattle.std.proofs.Common.{◌≡◌, ◌⊎◌, ℕ, List, Option, Some, None, Err, refl, sym, ap, subst, inl, inr}
use Rattle.sd_site_cards.specs.declared.card_fault.CardFault.{CardFault}
use Rattle.sd_site_cards.specs.declared.card_fault.CardFault.TheVariants as fault
use Rattle.sd_site_cards.specs.CardFaults.{fault_in, IsFaultOf}
use Rattle.sd_command_base.specs.declared.status.Status.{Status}
use Rattle.sd_command_base.specs.declared.status.Status.TheVariants.{BadCard, NoMemory}
use Rattle.sd_command_base.specs.Outcome.{IsRefusal, IsEnding}
use Rattle.sd_command_base.specs.Files.{card_unless, refused_card}
use Rattle.sd_command_base.proofs.Others.{IsOther}

-- what is read of a card's file never means `Usage`
pub other_unless : {X : Type 0} (word : ℕ) (found : Option CardFault) (x : X) → IsOther (card_unless word found x)
other_unless word None x = tt
other_unless word (Some found) x = λ e. cc

-- a fault that isn't out of memory is told
card_faulty : {X : Type 0} (word : ℕ) (bytes : List ℕ) (x : X) (found : CardFault) → IsFaultOf bytes found →
    (found ≡ fault.NoMemory → ⊥) → card_unless word (fault_in bytes) x ≡ Err (BadCard word found)
card_faulty word bytes x found (inl some) other = ap (λ (f : Option CardFault). card_unless word f x) some
card_faulty word bytes x found (inr memory) other = absurd (other memory.0)

-- so what is answered to a refused card is meant
pub card_refused : {X : Type 0} (word : ℕ) (bytes : List ℕ) (x : X) (found : CardFault) (status : Status) →
    status ≡ refused_card word found → IsFaultOf bytes found →
    ((card_unless word (fault_in bytes) x ≡ Err status) × IsRefusal status × IsEnding status) ⊎ (status ≡ NoMemory)
card_refused {X = X} word bytes x found status is h =
    subst (λ (s : Status). ((card_unless word (fault_in bytes) x ≡ Err s) × IsRefusal s × IsEnding s) ⊎ (s ≡ NoMemory))
    (sym is) (by_fault found h)
  where
    by_fault : (found : CardFault) → IsFaultOf bytes found →
        ((card_unless word (fault_in bytes) x ≡ Err (refused_card word found)) × IsRefusal (refused_card word found)
        × IsEnding (refused_card word found)) ⊎ (refused_card word found ≡ NoMemory)
    by_fault fault.Magic h = inl (card_faulty word bytes x fault.Magic h (λ e. cc), tt, tt)
    by_fault fault.Version h = inl (card_faulty word bytes x fault.Version h (λ e. cc), tt, tt)
    by_fault fault.Height h = inl (card_faulty word bytes x fault.Height h (λ e. cc), tt, tt)
    by_fault fault.Leaf h = inl (card_faulty word bytes x fault.Leaf h (λ e. cc), tt, tt)
    by_fault fault.Length h = inl (card_faulty word bytes x fault.Length h (λ e. cc), tt, tt)
    by_fault (fault.Check found due) h = inl (card_faulty word bytes x (fault.Check found due) h (λ e. cc), tt, tt)
    by_fault fault.NoMemory h = inr refl
