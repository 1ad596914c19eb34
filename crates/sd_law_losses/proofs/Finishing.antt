-- What comes of pieces of broadcasts of one channel, and of whole runs of it of which packets are lost.
use Rattle.std.proofs.Common.{◌≡◌, refl, ℕ, ◌+◌, ◌^◌, ◌<◌, ◌||◌, ◌++◌, Bool, true, false, List, [], ◌∷◌, reverse}
use Rattle.std.proofs.Common.{Option, Some, None, sym, ap, ◌∙◌, append-nil}
use Rattle.std.specs.Prelude.{if◌then◌else◌, All}
use Rattle.std.specs.List.{list_any}
use Rattle.std.proofs.lemmas.Bool.{false≢true}
use Rattle.std.proofs.lemmas.List.Elements.{All-nil, All-cons, All-head, All-tail}
use Rattle.sd_site_cards.specs.SiteFields.{run_name_of as site_name}
use Rattle.sd_site_cards.specs.CardFields.{CardFields}
use Rattle.sd_spec.specs.Sent.{broadcast}
use Rattle.sd_spec.specs.declared.ending.Ending.{Ending}
use Rattle.sd_spec.specs.declared.ending.Ending.TheVariants.{NoCat}
use Rattle.sd_psi.specs.declared.our_cat.Tuning.{Tuning}
use Rattle.sd_spec.specs.Offered.{heard, out_from, break_from}
use Rattle.sd_spec.specs.Ending.{endings_joined, run_ending, run_wrote, ending_of}
use Rattle.sd_spec.specs.Taken.{taken_keys}
use Rattle.sd_spec.proofs.Runs.{opened_joins}
use Rattle.sd_law_losses.specs.Chosen.{chosen}
use Rattle.sd_law_losses.specs.Confirmed.{confirmed}
use Rattle.sd_law_losses.specs.Endings.{ending_told}
use Rattle.sd_law_losses.specs.Together.{joined_to}
use Rattle.sd_law_losses.specs.Channel.{Arrival, Channel, IsRunOf, HaveTwoNames, AreRunsOf, arriving}
use Rattle.sd_law_losses.specs.Channel.{channel_card}
use Rattle.sd_law_losses.specs.Many.{kept_of_arrival, has_cat, confirmed_from}
use Rattle.sd_law_losses.specs.Ends.{is_told, endings_from, all_joined, ending_of_all}
use Rattle.sd_law_losses.specs.Keys.{kept_periods, keys_from}
use Rattle.sd_law_losses.specs.Switched.{names_from, IsOtherThanFirst, AreAlternating, ArePiecesOf}
use Rattle.sd_law_losses.proofs.NextEndings.{onto, reversed, ending_by}
use Rattle.sd_law_losses.proofs.Trailing.{ending_quiet}
use Rattle.sd_law_losses.proofs.Streams.{nothing_came, ending_none}
use Rattle.sd_law_losses.proofs.Sending.{untold}
use Rattle.sd_law_losses.proofs.NextStanding.{StandsBetween, told_more, IsPassed}
use Rattle.sd_law_losses.proofs.Many.{card_in, tuning_in, good_in, run_over}

-- further endings after those of which this is known
abbrev pub ending_after : Option Ending → List Ending → Ending
ending_after None endings = all_joined endings
ending_after (Some ending) endings = joined_to ending endings

after_more : (told : Option Ending) (ending : Ending) (endings : List Ending) (t : Bool) →
    ending_after (told_more told t ending) endings ≡ ending_after told (if t then ending ∷ endings else endings)
after_more told ending endings false = refl
after_more None ending endings true = ap (λ (e : Ending). joined_to e endings) (opened_joins ending)
after_more (Some before) ending endings true = refl

onto_more : (xs ys past : List (List ℕ)) → onto (xs ++ ys) past ≡ onto ys (onto xs past)
onto_more [] ys past = refl
onto_more (x ∷ xs) ys past = onto_more xs ys (x ∷ past)

-- where the last run is over
all_over : (card : CardFields) (tuning : Tuning) (Fresh : Option ℕ → Type 0) (told : Option Ending)
    (past : List (List ℕ)) → StandsBetween card tuning Fresh true told past →
    ending_of card past ≡ ending_after told []
all_over card tuning Fresh None past (tuned, ended) =
    ending_by card tuning past tuned
    ∙ (ap (λ (e : Ending). endings_joined e (run_ending card (heard card past) (run_wrote card past))) ended.1
    ∙ (opened_joins (run_ending card (heard card past) (run_wrote card past))
    ∙ ending_quiet card (heard card past) (run_wrote card past) ended.0))
all_over card tuning Fresh (Some ending) past (tuned, ended) = ending_by card tuning past tuned ∙ ended.1

-- how all ends, of which this is known and these runs are to come
abbrev pub ends_with : Bool → Option Ending → ℕ → List Arrival → Ending
ends_with true told u runs = ending_after told (endings_from true u runs)
ends_with false told u runs = if list_any has_cat runs then all_joined (endings_from false u runs) else NoCat

none_left : (card : CardFields) (tuning : Tuning) (Fresh : Option ℕ → Type 0) (tuned : Bool) (told : Option Ending)
    (u : ℕ) (past : List (List ℕ)) → StandsBetween card tuning Fresh tuned told past →
    ending_of card past ≡ ends_with tuned told u []
none_left card tuning Fresh false told u past stands = ending_none card past stands.0
none_left card tuning Fresh true told u past stands = all_over card tuning Fresh told past stands

-- with one run more, by whether it has a CAT and the receiver is told of it
ends_more : (tuned c t : Bool) (told : Option Ending) (ending : Ending) (u : ℕ) (runs : List Arrival) →
    (tuned ≡ false → told ≡ None) → (tuned ≡ false → c ≡ false → t ≡ false) →
    ends_with (tuned || c) (told_more told t ending) u runs
    ≡ (if tuned then ending_after told (if t then ending ∷ endings_from true u runs else endings_from true u runs)
    else if c || list_any has_cat runs
    then all_joined (if t then ending ∷ endings_from c u runs else endings_from c u runs)
    else NoCat)
ends_more true c t told ending u runs none untold = after_more told ending (endings_from true u runs) t
ends_more false true t told ending u runs none untold =
    ap (λ (before : Option Ending). ending_after (told_more before t ending) (endings_from true u runs)) (none refl)
    ∙ after_more None ending (endings_from true u runs) t
ends_more false false true told ending u runs none untold = absurd (false≢true (sym (untold refl refl)))
ends_more false false false told ending u runs none untold = refl

none_told : (card : CardFields) (tuning : Tuning) (Fresh : Option ℕ → Type 0) (tuned : Bool) (told : Option Ending)
    (past : List (List ℕ)) → StandsBetween card tuning Fresh tuned told past → tuned ≡ false → told ≡ None
none_told card tuning Fresh false told past stands is = stands.1
none_told card tuning Fresh true told past stands is = absurd (false≢true (sym is))

untold_in : (tuned : Bool) (run : Arrival) → tuned ≡ false → has_cat run ≡ false → is_told tuned run ≡ false
untold_in false run is none = untold (kept_of_arrival false run) none
untold_in true run is none = absurd (false≢true (sym is))

ends_next : (tuned : Bool) (told : Option Ending) (u : ℕ) (run : Arrival) (runs : List Arrival) →
    (tuned ≡ false → told ≡ None) →
    ends_with (tuned || has_cat run)
    (told_more told (is_told tuned run) (ending_told run.plan u run.clear (kept_of_arrival tuned run))) u runs
    ≡ ends_with tuned told u (run ∷ runs)
ends_next false told u run runs none =
    ends_more false (has_cat run) (is_told false run) told
    (ending_told run.plan u run.clear (kept_of_arrival false run)) u runs
    none (untold_in false run)
ends_next true told u run runs none =
    ends_more true (has_cat run) (is_told true run) told (ending_told run.plan u run.clear (kept_of_arrival true run)) u
    runs
    none (untold_in true run)

-- a run that a receiver is told of is of another name than those before and behind it
passes : (t : Bool) (name : Option ℕ) (names : List (Option ℕ)) →
    AreAlternating (if t then name ∷ names else names) →
    IsPassed t name (λ a. IsOtherThanFirst a (if t then name ∷ names else names)) (λ a. IsOtherThanFirst a names)
    × AreAlternating names
passes true name names alternate = (
  record {
    apart = λ yes a other. other;
    still = λ not_so. absurd (false≢true (sym not_so));
    next = λ yes. alternate.0;
  },
  alternate.1,
)
passes false name names alternate = (
  record {
    apart = λ yes. absurd (false≢true yes);
    still = λ not_so a other. other;
    next = λ yes. absurd (false≢true yes);
  },
  alternate,
)

-- What comes of pieces: nothing is refused of them, and this number of keys is taken.
pub record Come (card : CardFields) (past packets wrote : List (List ℕ)) (keys : ℕ) (ending : Ending) : Type 0 where
  pub out : out_from card past packets ≡ wrote
  pub none : break_from card past packets ≡ None
  pub taken : taken_keys card past packets ≡ keys
  pub ends : ending_of card (onto packets past) ≡ ending

pieces_come : (channel : Channel) (pieces : List Arrival) (u : ℕ) (past : List (List ℕ)) (tuned : Bool)
    (told : Option Ending) → All (IsRunOf channel) pieces → AreAlternating (names_from tuned pieces) →
    u < 2 ^ channel.height →
    StandsBetween (card_in channel u) (tuning_in channel) (λ a. IsOtherThanFirst a (names_from tuned pieces)) tuned told
    past →
    Come (card_in channel u) past (arriving pieces) (confirmed_from tuned u pieces) (keys_from tuned u pieces)
    (ends_with tuned told u pieces)
unfolding out_from break_from taken_keys
pieces_come channel [] u past tuned told are alternate leaf stands = record {
  out = refl;
  none = refl;
  taken = refl;
  ends = none_left (card_in channel u) (tuning_in channel) (λ a. IsOtherThanFirst a []) tuned told u past stands;
}
pieces_come channel (run ∷ runs) u past tuned told are alternate leaf stands =
    let card : CardFields = card_in channel u in
    let tuning : Tuning = tuning_in channel in
    let packets : List (List ℕ) = chosen run.flags (broadcast run.plan run.clear) in
    let ending : Ending = ending_told run.plan u run.clear (kept_of_arrival tuned run) in
    let names : List (Option ℕ) = names_from (tuned || has_cat run) runs in
    let passed = passes (is_told tuned run) (site_name run.plan.site) names alternate in
    let over = run_over card tuning u run past (arriving runs)
    (λ a. IsOtherThanFirst a (names_from tuned (run ∷ runs))) (λ a. IsOtherThanFirst a names) tuned told
    (good_in channel run u (All-head (IsRunOf channel) run runs are) leaf) passed.0 stands in
    let rest = pieces_come channel runs u (onto packets past) (tuned || has_cat run)
    (told_more told (is_told tuned run) ending) (All-tail (IsRunOf channel) run runs are) passed.1 leaf over.stands in
    record {
      out = over.out
          ∙ ap (λ (w : List (List ℕ)). confirmed run.plan u run.clear (kept_of_arrival tuned run) ++ w) rest.out;
      none = over.breaks ∙ rest.none;
      taken = over.taken ∙ ap (λ (n : ℕ). kept_periods run.plan u run.clear (kept_of_arrival tuned run) + n) rest.taken;
      ends = ap (ending_of card) (onto_more packets (arriving runs) past)
          ∙ (rest.ends
          ∙ ends_next tuned told u run runs (none_told card tuning
          (λ a. IsOtherThanFirst a (names_from tuned (run ∷ runs))) tuned told past stands));
    }

-- pieces of which nothing came before
all_come : (channel : Channel) (pieces : List Arrival) (u : ℕ) → ArePiecesOf channel pieces → u < 2 ^ channel.height →
    Come (card_in channel u) [] (arriving pieces) (confirmed_from false u pieces) (keys_from false u pieces)
    (ending_of_all u pieces)
all_come channel pieces u are leaf =
    pieces_come channel pieces u [] false None are.0 are.1 leaf (nothing_came (card_in channel u), refl)

pub pieces_out : (channel : Channel) (pieces : List Arrival) (u : ℕ) → ArePiecesOf channel pieces →
    u < 2 ^ channel.height →
    out_from (channel_card channel u) [] (arriving pieces) ≡ confirmed_from false u pieces
pieces_out channel pieces u are leaf = (all_come channel pieces u are leaf).out

pub pieces_break : (channel : Channel) (pieces : List Arrival) (u : ℕ) → ArePiecesOf channel pieces →
    u < 2 ^ channel.height →
    break_from (channel_card channel u) [] (arriving pieces) ≡ None
pieces_break channel pieces u are leaf = (all_come channel pieces u are leaf).none

pub pieces_end : (channel : Channel) (pieces : List Arrival) (u : ℕ) → ArePiecesOf channel pieces →
    u < 2 ^ channel.height →
    ending_of (channel_card channel u) (reverse (arriving pieces)) ≡ ending_of_all u pieces
pieces_end channel pieces u are leaf =
    ap (ending_of (card_in channel u)) (sym (append-nil (reverse (arriving pieces))) ∙ reversed (arriving pieces) [])
    ∙ (all_come channel pieces u are leaf).ends

-- how many keys are taken of pieces
pub pieces_taken : (channel : Channel) (pieces : List Arrival) (u : ℕ) → ArePiecesOf channel pieces →
    u < 2 ^ channel.height →
    taken_keys (channel_card channel u) [] (arriving pieces) ≡ keys_from false u pieces
pieces_taken channel pieces u are leaf = (all_come channel pieces u are leaf).taken

-- runs of which no two have one name are such pieces
other_names : (run : Arrival) (runs : List Arrival) (tuned : Bool) → All (HaveTwoNames run) runs →
    IsOtherThanFirst (site_name run.plan.site) (names_from tuned runs)
other_names run [] tuned all = tt
other_names run (other ∷ runs) tuned all =
    by_test (is_told tuned other)
    (other_names run runs (tuned || has_cat other) (All-tail (HaveTwoNames run) other runs all))
  where
    by_test : (t : Bool) → IsOtherThanFirst (site_name run.plan.site) (names_from (tuned || has_cat other) runs) →
        IsOtherThanFirst (site_name run.plan.site)
        (if t then site_name other.plan.site ∷ names_from (tuned || has_cat other) runs
        else names_from (tuned || has_cat other) runs)
    by_test true rest = All-head (HaveTwoNames run) other runs all
    by_test false rest = rest

names_differ : (channel : Channel) (runs : List Arrival) (tuned : Bool) → AreRunsOf channel runs →
    AreAlternating (names_from tuned runs)
names_differ channel [] tuned are = tt
names_differ channel (run ∷ runs) tuned (is, others, rest) =
    by_test (is_told tuned run) (other_names run runs (tuned || has_cat run) others)
    (names_differ channel runs (tuned || has_cat run) rest)
  where
    by_test : (t : Bool) → IsOtherThanFirst (site_name run.plan.site) (names_from (tuned || has_cat run) runs) →
        AreAlternating (names_from (tuned || has_cat run) runs) →
        AreAlternating (if t then site_name run.plan.site ∷ names_from (tuned || has_cat run) runs
        else names_from (tuned || has_cat run) runs)
    by_test true first more = (first, more)
    by_test false first more = more

are_of : (channel : Channel) (runs : List Arrival) → AreRunsOf channel runs → All (IsRunOf channel) runs
are_of channel [] are = All-nil (IsRunOf channel)
are_of channel (run ∷ runs) (is, others, rest) =
    All-cons (IsRunOf channel) run runs is (are_of channel runs rest)

runs_are_pieces : (channel : Channel) (runs : List Arrival) → AreRunsOf channel runs → ArePiecesOf channel runs
runs_are_pieces channel runs are = (are_of channel runs are, names_differ channel runs false are)

-- so the same comes of them
pub runs_out : (channel : Channel) (runs : List Arrival) (u : ℕ) → AreRunsOf channel runs → u < 2 ^ channel.height →
    out_from (channel_card channel u) [] (arriving runs) ≡ confirmed_from false u runs
runs_out channel runs u are leaf = pieces_out channel runs u (runs_are_pieces channel runs are) leaf

pub runs_break : (channel : Channel) (runs : List Arrival) (u : ℕ) → AreRunsOf channel runs → u < 2 ^ channel.height →
    break_from (channel_card channel u) [] (arriving runs) ≡ None
runs_break channel runs u are leaf = pieces_break channel runs u (runs_are_pieces channel runs are) leaf

-- how many keys are taken of them
pub runs_taken : (channel : Channel) (runs : List Arrival) (u : ℕ) → AreRunsOf channel runs → u < 2 ^ channel.height →
    taken_keys (channel_card channel u) [] (arriving runs) ≡ keys_from false u runs
runs_taken channel runs u are leaf = pieces_taken channel runs u (runs_are_pieces channel runs are) leaf

pub runs_end : (channel : Channel) (runs : List Arrival) (u : ℕ) → AreRunsOf channel runs → u < 2 ^ channel.height →
    ending_of (channel_card channel u) (reverse (arriving runs)) ≡ ending_of_all u runs
runs_end channel runs u are leaf = pieces_end channel runs u (runs_are_pieces channel runs are) leaf
