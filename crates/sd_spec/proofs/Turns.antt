-- Packets one after the other.
use Rattle.std.proofs.Common.{◌≡◌, ℕ, List, [], ◌∷◌, ◌++◌, Option, None, ap, is_none}
use Rattle.std.specs.Prelude.{if◌then◌else◌}
use Rattle.sd_site_cards.specs.CardFields.{CardFields}
use Rattle.sd_message.specs.declared.stream_fault.StreamFault.{StreamFault}
use Rattle.sd_spec.specs.Offered.{offered, out_from}

pub one_more : (card : CardFields) (past : List (List ℕ)) (packet : List ℕ) (packets : List (List ℕ))
    → (offered card past packet).fault ≡ None
    → out_from card past (packet ∷ packets) ≡ (offered card past packet).wrote ++ out_from card (packet ∷ past) packets
unfolding out_from
one_more card past packet packets h =
    ap (λ (f : Option StreamFault). (offered card past packet).wrote
    ++ (if is_none f then out_from card (packet ∷ past) packets else [])) h
