-- Runs of one channel of which nothing is lost, and what is confirmed as a part of what a leaf is entitled to.
use Rattle.std.proofs.Common.{◌≡◌, refl, ℕ, ◌+◌, ◌^◌, ◌<◌, ◌||◌, ◌++◌, Bool, true, false, List, [], ◌∷◌, length, drop}
use Rattle.std.proofs.Common.{None, sym, ap, ◌∙◌, arith, subst}
use Rattle.std.specs.Prelude.{All}
use Rattle.std.proofs.lemmas.List.Elements.{All-nil, All-cons, All-head, All-tail}
use Rattle.sd_spec.specs.Sent.{Item, Cat, sent, closing_of, broadcast}
use Rattle.sd_spec.proofs.Bodies.{packets_many}
use Rattle.sd_spec.specs.Offered.{out_from, break_from}
use Rattle.sd_spec.specs.Taken.{taken_keys}
use Rattle.sd_law_losses.specs.Chosen.{chosen}
use Rattle.sd_law_losses.specs.Confirmed.{confirmed, opened_by}
use Rattle.sd_law_losses.proofs.Opened.{confirmed_are_opened}
use Rattle.sd_law_losses.proofs.AllOpened.{all_are_opened}
use Rattle.sd_law_losses.proofs.WholeEnding.{keys_whole}
use Rattle.sd_law_losses.specs.Channel.{Arrival, Channel, HaveTwoNames, AreRunsOf, arriving, all_sent}
use Rattle.sd_law_losses.specs.Channel.{channel_card}
use Rattle.sd_law_losses.specs.Many.{kept_of_arrival, has_cat, confirmed_from, opened_of_all}
use Rattle.sd_law_losses.specs.Keys.{kept_periods, keys_from, entitled_periods, keys_of_all}
use Rattle.sd_law_losses.proofs.Runs.{begins_by}
use Rattle.sd_law_losses.proofs.Finishing.{runs_out, runs_break, runs_taken}

-- a choice of a list, made as long as the list
abbrev pub fitting : {A : Type 0} → List Bool → List A → List Bool
fitting fs [] = []
fitting [] (x ∷ xs) = false ∷ fitting [] xs
fitting (f ∷ fs) (x ∷ xs) = f ∷ fitting fs xs

chosen_both : {A : Type 0} (fs gs : List Bool) (xs ys : List A) →
    chosen (fitting fs xs ++ gs) (xs ++ ys) ≡ chosen fs xs ++ chosen gs ys
unfolding chosen
chosen_both [] gs [] ys = refl
chosen_both (f ∷ fs) gs [] ys = refl
chosen_both [] gs (x ∷ xs) ys = chosen_both [] gs xs ys ∙ ap (λ (zs : List _). zs ++ chosen gs ys) (none_chosen xs)
  where
    none_chosen : {A : Type 0} (xs : List A) → chosen [] xs ≡ []
    none_chosen xs = refl
chosen_both (true ∷ fs) gs (x ∷ xs) ys = ap (λ (zs : List _). x ∷ zs) (chosen_both fs gs xs ys)
chosen_both (false ∷ fs) gs (x ∷ xs) ys = chosen_both fs gs xs ys

-- what is confirmed is a part of what the leaf is entitled to
part_from : (channel : Channel) (runs : List Arrival) (u : ℕ) (tuned : Bool) → AreRunsOf channel runs →
    u < 2 ^ channel.height → (parts : List Bool) × (confirmed_from tuned u runs ≡ chosen parts (opened_of_all u runs))
unfolding chosen
part_from channel [] u tuned are leaf = ([], refl)
part_from channel (run ∷ runs) u tuned (is, others, rest) leaf =
    by_flags tuned (part_from channel runs u (tuned || has_cat run) rest leaf)
  where
    within : u < 2 ^ run.plan.site.height
    within = subst (λ (h : ℕ). u < 2 ^ h) (sym is.height) leaf

    joined_parts : (mine theirs : List (List ℕ)) →
        (parts : List Bool) × (mine ≡ chosen parts (opened_by run.plan u run.clear)) →
        (parts : List Bool) × (theirs ≡ chosen parts (opened_of_all u runs)) →
        (parts : List Bool)
        × (mine ++ theirs ≡ chosen parts (opened_by run.plan u run.clear ++ opened_of_all u runs))
    joined_parts mine theirs (fs, first) (gs, second) = (
      fitting fs (opened_by run.plan u run.clear) ++ gs,
      ap (λ (w : List (List ℕ)). w ++ theirs) first
          ∙ (ap (λ (w : List (List ℕ)). chosen fs (opened_by run.plan u run.clear) ++ w) second
          ∙ sym (chosen_both fs gs (opened_by run.plan u run.clear) (opened_of_all u runs))),
    )

    by_flags : (tuned : Bool) →
        (parts : List Bool) × (confirmed_from (tuned || has_cat run) u runs ≡ chosen parts (opened_of_all u runs)) →
        (parts : List Bool) × (confirmed_from tuned u (run ∷ runs) ≡ chosen parts (opened_of_all u (run ∷ runs)))
    by_flags false more =
        joined_parts (confirmed run.plan u run.clear (kept_of_arrival false run))
        (confirmed_from (false || has_cat run) u runs)
        (confirmed_are_opened run.plan run.clear u run.flags is.plan within) more
    by_flags true more =
        joined_parts (confirmed run.plan u run.clear (kept_of_arrival true run))
        (confirmed_from (true || has_cat run) u runs)
        (confirmed_are_opened run.plan run.clear u (true ∷ drop 1 run.flags) is.plan within) more

pub runs_part : (channel : Channel) (runs : List Arrival) (u : ℕ) → AreRunsOf channel runs → u < 2 ^ channel.height →
    (parts : List Bool) × (confirmed_from false u runs ≡ chosen parts (opened_of_all u runs))
runs_part channel runs u are leaf = part_from channel runs u false are leaf

-- all of a broadcast
abbrev pub all_true : {A : Type 0} → List A → List Bool
all_true [] = []
all_true (x ∷ xs) = true ∷ all_true xs

all_chosen : {A B : Type 0} (xs : List A) (ys : List B) → length xs ≡ length ys → chosen (all_true xs) ys ≡ ys
unfolding chosen
all_chosen [] [] long = refl
all_chosen [] (y ∷ ys) long = absurd (omega (arith, long))
all_chosen (x ∷ xs) [] long = refl
all_chosen (x ∷ xs) (y ∷ ys) long = ap (λ (zs : List _). y ∷ zs) (all_chosen xs ys (omega (arith, long)))

abbrev pub items_of : Arrival → List Item
items_of run = sent run.plan run.clear ++ closing_of run.plan run.clear

abbrev pub whole : Arrival → Arrival
whole run = record { plan = run.plan; clear = run.clear; flags = all_true (items_of run) }

abbrev pub wholes : List Arrival → List Arrival
wholes [] = []
wholes (run ∷ runs) = whole run ∷ wholes runs

whole_packets : (run : Arrival) →
    chosen (all_true (items_of run)) (broadcast run.plan run.clear) ≡ broadcast run.plan run.clear
unfolding broadcast
whole_packets run =
    all_chosen (items_of run) (broadcast run.plan run.clear) (sym (packets_many run.plan.site [] (items_of run)))

pub whole_stream : (runs : List Arrival) → arriving (wholes runs) ≡ all_sent runs
whole_stream [] = refl
whole_stream (run ∷ runs) =
    ap (λ (packets : List (List ℕ)). packets ++ arriving (wholes runs)) (whole_packets run)
    ∙ ap (λ (packets : List (List ℕ)). broadcast run.plan run.clear ++ packets) (whole_stream runs)

first_kept : (items rest : List Item) → items ≡ Cat ∷ rest → true ∷ drop 1 (all_true items) ≡ all_true items
first_kept items rest is =
    ap (λ (xs : List Item). true ∷ drop 1 (all_true xs)) is ∙ ap (λ (xs : List Item). all_true xs) (sym is)

pub whole_kept : (tuned : Bool) (run : Arrival) → kept_of_arrival tuned (whole run) ≡ items_of run
whole_kept false run = all_chosen (items_of run) (items_of run) refl
whole_kept true run =
    let begins = begins_by run.plan run.clear in
    ap (λ (fs : List Bool). chosen fs (items_of run)) (first_kept (items_of run) begins.0 begins.1)
    ∙ all_chosen (items_of run) (items_of run) refl

others_whole : (run : Arrival) (runs : List Arrival) → All (HaveTwoNames run) runs →
    All (HaveTwoNames (whole run)) (wholes runs)
others_whole run [] all = All-nil (HaveTwoNames (whole run))
others_whole run (other ∷ runs) all =
    All-cons (HaveTwoNames (whole run)) (whole other) (wholes runs) (All-head (HaveTwoNames run) other runs all)
    (others_whole run runs (All-tail (HaveTwoNames run) other runs all))

pub are_whole : (channel : Channel) (runs : List Arrival) → AreRunsOf channel runs → AreRunsOf channel (wholes runs)
are_whole channel [] are = tt
are_whole channel (run ∷ runs) (is, others, rest) = (
  record {
    height = is.height;
    master = is.master;
    ca = is.ca;
    emm = is.emm;
    ecm = is.ecm;
    plan = is.plan;
    sendable = is.sendable;
    whole = is.whole;
  },
  others_whole run runs others,
  are_whole channel runs rest,
)

whole_confirmed : (channel : Channel) (runs : List Arrival) (u : ℕ) (tuned : Bool) → AreRunsOf channel runs →
    u < 2 ^ channel.height → confirmed_from tuned u (wholes runs) ≡ opened_of_all u runs
whole_confirmed channel [] u tuned are leaf = refl
whole_confirmed channel (run ∷ runs) u tuned (is, others, rest) leaf =
    let within : u < 2 ^ run.plan.site.height = subst (λ (h : ℕ). u < 2 ^ h) (sym is.height) leaf in
    ap (λ (items : List Item). confirmed run.plan u run.clear items
    ++ confirmed_from (tuned || has_cat (whole run)) u (wholes runs)) (whole_kept tuned run)
    ∙ (ap (λ (w : List (List ℕ)). w ++ confirmed_from (tuned || has_cat (whole run)) u (wholes runs))
    (all_are_opened run.plan run.clear u is.plan is.sendable is.whole within)
    ∙ ap (λ (w : List (List ℕ)). opened_by run.plan u run.clear ++ w)
    (whole_confirmed channel runs u (tuned || has_cat (whole run)) rest leaf))

pub whole_out : (channel : Channel) (runs : List Arrival) (u : ℕ) → AreRunsOf channel runs → u < 2 ^ channel.height →
    out_from (channel_card channel u) [] (all_sent runs) ≡ opened_of_all u runs
whole_out channel runs u are leaf =
    ap (out_from (channel_card channel u) []) (sym (whole_stream runs))
    ∙ (runs_out channel (wholes runs) u (are_whole channel runs are) leaf
    ∙ whole_confirmed channel runs u false are leaf)

pub whole_break : (channel : Channel) (runs : List Arrival) (u : ℕ) → AreRunsOf channel runs →
    u < 2 ^ channel.height →
    break_from (channel_card channel u) [] (all_sent runs) ≡ None
whole_break channel runs u are leaf =
    ap (break_from (channel_card channel u) []) (sym (whole_stream runs))
    ∙ runs_break channel (wholes runs) u (are_whole channel runs are) leaf

-- of a whole broadcast the kept periods are those in which the leaf isn't revoked
whole_keys : (channel : Channel) (runs : List Arrival) (u : ℕ) (tuned : Bool) → AreRunsOf channel runs →
    u < 2 ^ channel.height → keys_from tuned u (wholes runs) ≡ keys_of_all u runs
whole_keys channel [] u tuned are leaf = refl
whole_keys channel (run ∷ runs) u tuned (is, others, rest) leaf =
    let within : u < 2 ^ run.plan.site.height = subst (λ (h : ℕ). u < 2 ^ h) (sym is.height) leaf in
    ap (λ (items : List Item). kept_periods run.plan u run.clear items
    + keys_from (tuned || has_cat (whole run)) u (wholes runs)) (whole_kept tuned run)
    ∙ (ap (λ (n : ℕ). n + keys_from (tuned || has_cat (whole run)) u (wholes runs))
    (keys_whole run.plan run.clear u is.plan is.sendable is.whole within)
    ∙ ap (λ (n : ℕ). entitled_periods run.plan u run.clear + n)
    (whole_keys channel runs u (tuned || has_cat (whole run)) rest leaf))

-- so many keys are taken of whole broadcasts
pub whole_taken : (channel : Channel) (runs : List Arrival) (u : ℕ) → AreRunsOf channel runs →
    u < 2 ^ channel.height →
    taken_keys (channel_card channel u) [] (all_sent runs) ≡ keys_of_all u runs
whole_taken channel runs u are leaf =
    ap (taken_keys (channel_card channel u) []) (sym (whole_stream runs))
    ∙ (runs_taken channel (wholes runs) u (are_whole channel runs are) leaf
    ∙ whole_keys channel runs u false are leaf)
