-- Packets one after the other are taken again.
use Rattle.std.proofs.Common.{◌≡◌, ℕ, ◌+◌, ◌*◌, ◌≤◌, List, [], ◌∷◌, ◌++◌, length, take, drop}
use Rattle.std.proofs.Common.{refl, ap, ◌∙◌, arith, length-append}
use Rattle.std.specs.Prelude.{None, slice_index}
use Rattle.std.specs.List.{concat}
use Rattle.std.proofs.lemmas.List.{take_all, take_at, drop_at, get_or_append_left}
use Rattle.std.proofs.lemmas.List.Elements.{All-head, All-tail}
use Rattle.sd_engine.specs.Stream.{packets_of, break_after, break_of}
use Rattle.sd_engine.specs.Driving.{most_packets}
use Rattle.sd_engine.specs.Taken.{Whole, packets_taken, end_of}
use Rattle.sd_engine.proofs.Walking.{no_piece, packets_more, break_after_more, none_at_end}
use Rattle.sd_engine.proofs.Taken.{is_whole}
use Rattle.sd_law_broadcast.specs.Synced.{IsSynced, AreSynced}

-- the first packet, and the bytes after it
record BeginsWith (packet rest : List ℕ) : Type 0 where
  long : 188 ≤ length (packet ++ rest)
  sync : slice_index (packet ++ rest) 0 ≡ 0x47
  first : take 188 (packet ++ rest) ≡ packet
  after : drop 188 (packet ++ rest) ≡ rest

begins_with : (packet rest : List ℕ) → IsSynced packet → BeginsWith packet rest
begins_with packet rest is = record {
  long = omega (arith, length-append packet rest, is.long);
  sync = get_or_append_left packet rest 0 0 (omega (arith, is.long)) ∙ is.sync;
  first = take_at packet rest 188 is.long;
  after = drop_at packet rest 188 is.long;
}

-- they are the packets of their bytes
pub packets_again : (packets : List (List ℕ)) → AreSynced packets → packets_of (concat packets) ≡ packets
packets_again [] each = no_piece [] (omega arith)
packets_again (packet ∷ packets) each =
    let begins = begins_with packet (concat packets) (All-head IsSynced packet packets each) in
    packets_more (packet ++ concat packets) begins.long begins.sync
    ∙ (ap (λ (p : List ℕ). p ∷ packets_of (drop 188 (packet ++ concat packets))) begins.first
    ∙ (ap (λ (rest : List ℕ). packet ∷ packets_of rest) begins.after
    ∙ ap (λ (ps : List (List ℕ)). packet ∷ ps) (packets_again packets (All-tail IsSynced packet packets each))))

-- with no break after them
none_after : (k : ℕ) (packets : List (List ℕ)) → AreSynced packets → break_after k (concat packets) ≡ None
none_after k [] each = none_at_end k
none_after k (packet ∷ packets) each =
    let begins = begins_with packet (concat packets) (All-head IsSynced packet packets each) in
    break_after_more k (packet ++ concat packets) begins.long begins.sync
    ∙ (ap (λ (rest : List ℕ). break_after (k + 1) rest) begins.after
    ∙ none_after (k + 1) packets (All-tail IsSynced packet packets each))

pub none_broken : (packets : List (List ℕ)) → AreSynced packets → break_of (concat packets) ≡ None
none_broken packets each = none_after 0 packets each

-- how many bytes they have
pub joined_long : (packets : List (List ℕ)) → AreSynced packets → length (concat packets) ≡ 188 * length packets
joined_long [] each = refl
joined_long (packet ∷ packets) each =
    let first = All-head IsSynced packet packets each in
    omega (
      arith,
      length-append packet (concat packets),
      first.long,
      joined_long packets (All-tail IsSynced packet packets each),
    )

-- all of them are taken
pub taken_again : (packets : List (List ℕ)) → AreSynced packets → length packets ≤ most_packets →
    packets_taken (concat packets) ≡ packets
unfolding packets_taken
taken_again packets each few =
    ap (take most_packets) (packets_again packets each) ∙ take_all most_packets packets few

pub joined_whole : (packets : List (List ℕ)) → AreSynced packets → length packets ≤ most_packets →
    end_of (concat packets) ≡ Whole
joined_whole packets each few =
    is_whole (concat packets) (none_broken packets each) (omega (arith, joined_long packets each, few))
