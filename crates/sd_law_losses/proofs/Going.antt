-- Packets of one run come to the same within a stream as by themselves.
use Rattle.std.proofs.Common.{◌≡◌, refl, ℕ, ◌+◌, ◌≤◌, ◌++◌, Bool, false, List, [], ◌∷◌, length, Option}
use Rattle.std.proofs.Common.{Some, None, is_none, sym, ap, ◌∙◌, arith, subst, inl, inr, append_assoc}
use Rattle.std.specs.Prelude.{if◌then◌else◌, option_map}
use Rattle.std.specs.Option.{option_map_or}
use Rattle.sd_site_cards.specs.CardFields.{CardFields}
use Rattle.sd_message.specs.declared.stream_fault.StreamFault.{StreamFault}
use Rattle.sd_spec.specs.Tuned.{tuning_of}
use Rattle.sd_psi.specs.declared.our_cat.Tuning.{Tuning}
use Rattle.sd_spec.specs.Heard.{Heard, hears}
use Rattle.sd_spec.specs.Runs.{run_name_in, are_two}
use Rattle.sd_spec.specs.Offered.{heard, Offering, offered, out_from, break_from}
use Rattle.sd_spec.specs.Taken.{takes_key_at, taken_keys}
use Rattle.sd_law_losses.proofs.OneRun.{of_named}
use Rattle.sd_law_losses.specs.Pieces.{packet_run_name}
use Rattle.sd_law_losses.specs.Together.{fault_later}
use Rattle.sd_law_losses.proofs.NextLater.{things_later, names_later}
use Rattle.sd_law_losses.proofs.Offerings.{offering_later}
use Rattle.sd_law_losses.proofs.Leading.{AreQuiet, names_led}
use Rattle.sd_law_losses.proofs.NextEndings.{onto}
use Rattle.sd_law_losses.proofs.Streams.{IsUntuned, heard_none}
use Rattle.sd_law_losses.proofs.Following.{IsPacketOf, quiet_unnamed}
use Rattle.sd_law_losses.proofs.Following.{Follows}

-- No CAT came in either place.
pub record AreUntuned (card : CardFields) (k : ℕ) (past alone : List (List ℕ)) : Type 0 where
  pub here : IsUntuned card past
  pub there : IsUntuned card alone
  pub count : length past ≡ k + length alone

abbrev pub HasBegun : CardFields → Tuning → ℕ → Option ℕ → List (List ℕ) → List (List ℕ) → Type 0
HasBegun card tuning k name past alone =
    (things : List Heard) × (old : List Heard) × (own : List Heard)
    × Follows card tuning k name past alone things old own

pub no_heard : (card : CardFields) (past : List (List ℕ)) (packet : List ℕ) → IsUntuned card past →
    AreQuiet (heard card (packet ∷ past))
no_heard card past packet none = subst AreQuiet (sym (heard_none card past packet none)) tt

pub one_run : (card : CardFields) (tuning : Tuning) (name : Option ℕ) (packet : List ℕ) →
    IsPacketOf card tuning name packet → are_two (Some name) (packet_run_name card.height tuning packet) ≡ false
one_run card tuning name packet (inl quiet) =
    ap (are_two (Some name)) (quiet_unnamed (hears card.height tuning 0 packet) quiet)
one_run card tuning name packet (inr is) = ap (are_two (Some name)) is ∙ of_named name name refl

-- What packets come to within a stream, where nothing is refused of them by themselves, and the keys that they take.
pub record AreAlike (card : CardFields) (past alone packets next : List (List ℕ)) : Type 0 where
  pub out : out_from card past (packets ++ next) ≡ out_from card alone packets ++ out_from card (onto packets past) next
  pub breaks : break_from card past (packets ++ next) ≡ break_from card (onto packets past) next
  pub taken : taken_keys card past (packets ++ next)
      ≡ taken_keys card alone packets + taken_keys card (onto packets past) next

-- the keys of a packet more, of those behind it and of what follows
taken_then : (one all own later : ℕ) → all ≡ own + later → one + all ≡ (one + own) + later
taken_then one all own later is = omega (arith, is)

pub alike_more : (card : CardFields) (k : ℕ) (past alone packets next : List (List ℕ)) (packet : List ℕ) →
    offered card past packet ≡ offering_later k (offered card alone packet) →
    (offered card alone packet).fault ≡ None → takes_key_at card past packet ≡ takes_key_at card alone packet →
    AreAlike card (packet ∷ past) (packet ∷ alone) packets next → AreAlike card past alone (packet ∷ packets) next
unfolding out_from break_from taken_keys
alike_more card k past alone packets next packet same none takes rest =
    let wrote : List (List ℕ) = (offered card alone packet).wrote in
    let others : List (List ℕ) = out_from card (packet ∷ past) (packets ++ next) in
    let own : List (List ℕ) = out_from card (packet ∷ alone) packets in
    let later : List (List ℕ) = out_from card (onto packets (packet ∷ past)) next in
    record {
      out = ap (λ (o : Offering). o.wrote ++ (if is_none o.fault then others else [])) same
          ∙ (ap (λ (f : Option StreamFault). wrote
          ++ (if is_none (option_map (fault_later k) f) then others else [])) none
          ∙ (ap (λ (ps : List (List ℕ)). wrote ++ ps) rest.out
          ∙ (sym (append_assoc wrote own later)
          ∙ ap (λ (f : Option StreamFault). (wrote ++ (if is_none f then own else [])) ++ later) (sym none))));
      breaks = ap (λ (o : Offering). option_map_or Some o.fault
          (break_from card (packet ∷ past) (packets ++ next))) same
          ∙ (ap (λ (f : Option StreamFault). option_map_or Some (option_map (fault_later k) f)
          (break_from card (packet ∷ past) (packets ++ next))) none
          ∙ rest.breaks);
      taken = ap (λ (t : Bool). (if t then 1 else 0) + taken_keys card (packet ∷ past) (packets ++ next)) takes
          ∙ taken_then (if takes_key_at card alone packet then 1 else 0)
          (taken_keys card (packet ∷ past) (packets ++ next)) (taken_keys card (packet ∷ alone) packets)
          (taken_keys card (onto packets (packet ∷ past)) next) rest.taken;
    }

pub follows_named : (card : CardFields) (tuning : Tuning) (k : ℕ) (name : Option ℕ) (past alone : List (List ℕ)) →
    (begun : HasBegun card tuning k name past alone) →
    (tuning_of card.ca past ≡ Some tuning) × (run_name_in (heard card past) ≡ Some name)
follows_named card tuning k name past alone (things, old, own, f) = (
  f.tuned,
  ap run_name_in f.heard_is ∙ (names_led (things_later k things) old f.old_quiet ∙ (names_later k things ∙ f.named)),
)

-- a run that begins where a CAT came before: alone it has the CAT that it begins with
pub some_past : (card : CardFields) (tuning : Tuning) (past : List (List ℕ)) → tuning_of card.ca past ≡ Some tuning →
    1 ≤ length past
unfolding tuning_of
some_past card tuning [] tuned = absurd (cc tuned)
some_past card tuning (packet ∷ past) tuned = omega arith
