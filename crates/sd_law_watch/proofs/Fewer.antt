-- What counts of broadcasts is what arrives of fewer packets of them.
use Rattle.std.proofs.Common.{◌≡◌, refl, ℕ, zero, suc, ◌++◌, Bool, true, false, List, [], ◌∷◌, length}
use Rattle.std.proofs.Common.{take, drop, get_or, ap, ◌∙◌}
use Rattle.std.specs.Prelude.{if◌then◌else◌, All}
use Rattle.std.proofs.lemmas.Bool.{false≢true}
use Rattle.std.proofs.lemmas.List.Elements.{All-nil, All-cons, All-head, All-tail}
use Rattle.sd_base.proofs.Bools.{tested}
use Rattle.sd_site_cards.specs.CardFields.{CardFields}
use Rattle.sd_spec.specs.Sent.{broadcast}
use Rattle.sd_spec.specs.Counting.{counts, counting}
use Rattle.sd_law_losses.specs.Chosen.{chosen}
use Rattle.sd_law_losses.specs.Channel.{Arrival, Channel, HaveTwoNames, AreRunsOf, arriving}
use Rattle.sd_law_losses.specs.Confirmed.{opened_by}
use Rattle.sd_law_losses.specs.Many.{opened_of_all}
use Rattle.sd_law_losses.proofs.Later.{chosen_append}
use Rattle.sd_law_watch.specs.Fewer.{AreFewerOf}

-- which packets count
pub flags_of : CardFields → List (List ℕ) → List (List ℕ) → List Bool
flags_of card past [] = []
flags_of card past (packet ∷ packets) =
    counts card past packet ∷ flags_of card (if counts card past packet then packet ∷ past else past) packets

pub counting_chosen : (card : CardFields) (past packets : List (List ℕ)) →
    counting card past packets ≡ chosen (flags_of card past packets) packets
unfolding counting chosen flags_of
counting_chosen card past [] = refl
counting_chosen card past (packet ∷ packets) =
    tested (counts card past packet)
    (λ is. rw is (ap (λ (rest : List (List ℕ)). packet ∷ rest) (counting_chosen card (packet ∷ past) packets)))
    (λ is. rw is (counting_chosen card past packets))

-- a choice among what was chosen
abbrev pub both_flags : List Bool → List Bool → List Bool
both_flags [] gs = []
both_flags (false ∷ fs) gs = false ∷ both_flags fs gs
both_flags (true ∷ fs) [] = []
both_flags (true ∷ fs) (g ∷ gs) = g ∷ both_flags fs gs

chosen_again : {A : Type 0} (fs gs : List Bool) (xs : List A) → chosen gs (chosen fs xs) ≡ chosen (both_flags fs gs) xs
unfolding chosen
chosen_again [] [] xs = refl
chosen_again [] (g ∷ gs) xs = refl
chosen_again (false ∷ fs) [] [] = refl
chosen_again (false ∷ fs) (g ∷ gs) [] = refl
chosen_again (false ∷ fs) gs (x ∷ xs) = chosen_again fs gs xs
chosen_again (true ∷ fs) [] [] = refl
chosen_again (true ∷ fs) [] (x ∷ xs) = refl
chosen_again (true ∷ fs) (g ∷ gs) [] = refl
chosen_again (true ∷ fs) (true ∷ gs) (x ∷ xs) = ap (λ (rest : List _). x ∷ rest) (chosen_again fs gs xs)
chosen_again (true ∷ fs) (false ∷ gs) (x ∷ xs) = chosen_again fs gs xs

both_fewer : (fs gs : List Bool) (i : ℕ) → get_or (both_flags fs gs) i false ≡ true → get_or fs i false ≡ true
both_fewer [] gs i is = is
both_fewer (false ∷ fs) gs zero is = is
both_fewer (false ∷ fs) gs (suc i) is = both_fewer fs gs i is
both_fewer (true ∷ fs) [] zero is = refl
both_fewer (true ∷ fs) [] (suc i) is = absurd (false≢true is)
both_fewer (true ∷ fs) (g ∷ gs) zero is = refl
both_fewer (true ∷ fs) (g ∷ gs) (suc i) is = both_fewer fs gs i is

-- the packets of a broadcast that arrive
abbrev pub arrived_of : Arrival → List (List ℕ)
arrived_of run = chosen run.flags (broadcast run.plan run.clear)

-- the broadcasts of which these arrive of what arrives
abbrev pub fewer_of : List Bool → List Arrival → List Arrival
fewer_of gs [] = []
fewer_of gs (run ∷ runs) = record {
  plan = run.plan;
  clear = run.clear;
  flags = both_flags run.flags (take (length (arrived_of run)) gs);
} ∷ fewer_of (drop (length (arrived_of run)) gs) runs

none_chosen : (gs : List Bool) → chosen {A = List ℕ} gs [] ≡ []
unfolding chosen
none_chosen [] = refl
none_chosen (g ∷ gs) = refl

pub fewer_arrive : (gs : List Bool) (runs : List Arrival) → chosen gs (arriving runs) ≡ arriving (fewer_of gs runs)
fewer_arrive gs [] = none_chosen gs
fewer_arrive gs (run ∷ runs) =
    chosen_append gs (arrived_of run) (arriving runs)
    ∙ (ap (λ (packets : List (List ℕ)). packets ++ chosen (drop (length (arrived_of run)) gs) (arriving runs))
    (chosen_again run.flags (take (length (arrived_of run)) gs) (broadcast run.plan run.clear))
    ∙ ap (λ (packets : List (List ℕ)).
    chosen (both_flags run.flags (take (length (arrived_of run)) gs)) (broadcast run.plan run.clear) ++ packets)
    (fewer_arrive (drop (length (arrived_of run)) gs) runs))

pub are_fewer : (gs : List Bool) (runs : List Arrival) → AreFewerOf runs (fewer_of gs runs)
are_fewer gs [] = tt
are_fewer gs (run ∷ runs) = (
  record {
    plan = refl;
    clear = refl;
    flags = both_fewer run.flags (take (length (arrived_of run)) gs);
  },
  are_fewer (drop (length (arrived_of run)) gs) runs,
)

others_fewer : (run fewer : Arrival) (gs : List Bool) (runs : List Arrival) → fewer.plan ≡ run.plan →
    All (HaveTwoNames run) runs → All (HaveTwoNames fewer) (fewer_of gs runs)
others_fewer run fewer gs [] same all = All-nil (HaveTwoNames fewer)
others_fewer run fewer gs (other ∷ runs) same all =
    let rest : List Bool = drop (length (arrived_of other)) gs in
    All-cons (HaveTwoNames fewer) (record {
      plan = other.plan;
      clear = other.clear;
      flags = both_flags other.flags (take (length (arrived_of other)) gs);
    }) (fewer_of rest runs)
    (rw same (All-head (HaveTwoNames run) other runs all))
    (others_fewer run fewer rest runs same (All-tail (HaveTwoNames run) other runs all))

pub fewer_are_runs : (channel : Channel) (gs : List Bool) (runs : List Arrival) → AreRunsOf channel runs →
    AreRunsOf channel (fewer_of gs runs)
fewer_are_runs channel gs [] are = tt
fewer_are_runs channel gs (run ∷ runs) (is, others, rest) = (
  record {
    height = is.height;
    master = is.master;
    ca = is.ca;
    emm = is.emm;
    ecm = is.ecm;
    plan = is.plan;
    sendable = is.sendable;
    whole = is.whole;
  },
  others_fewer run (record {
    plan = run.plan;
    clear = run.clear;
    flags = both_flags run.flags (take (length (arrived_of run)) gs);
  }) (drop (length (arrived_of run)) gs) runs refl others,
  fewer_are_runs channel (drop (length (arrived_of run)) gs) runs rest,
)

pub opened_same : (u : ℕ) (gs : List Bool) (runs : List Arrival) →
    opened_of_all u (fewer_of gs runs) ≡ opened_of_all u runs
opened_same u gs [] = refl
opened_same u gs (run ∷ runs) =
    ap (λ (packets : List (List ℕ)). opened_by run.plan u run.clear ++ packets)
    (opened_same u (drop (length (arrived_of run)) gs) runs)
