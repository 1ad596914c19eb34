-- The broadcasts of a chain are of one channel.
use Rattle.std.proofs.Common.{arith, ◌≡◌, ◌≢◌, ℕ, suc, ◌<◌, ◌≤◌, ◌==◌, ◌||◌, Bool, true, false, cond, List, [], ◌∷◌}
use Rattle.std.proofs.Common.{length, Option, Some, None, refl, ap, sym, subst, ◌∙◌, inl, inr, map, eq-eqb}
use Rattle.std.specs.Prelude.{All}
use Rattle.std.proofs.lemmas.Bool.{cases_lt}
use Rattle.std.proofs.lemmas.Option.{slice_get-get_or}
use Rattle.std.proofs.lemmas.List.Elements.{All-nil, All-cons, All-head, All-tail}
use Rattle.sd_base.proofs.Lists.{all_by}
use Rattle.sd_site_cards.specs.SiteFields.{SiteFields, run_name_of}
use Rattle.sd_law_broadcast.specs.Packets.{AreWholePackets}
use Rattle.sd_law_broadcast.specs.Runs.{HasWords}
use Rattle.sd_law_losses.specs.Channel.{AreRunsOf, HaveTwoNames, IsRunOf}
use Rattle.sd_law_losses.specs.Ends.{is_told}
use Rattle.sd_law_losses.specs.Many.{has_cat}
use Rattle.sd_law_losses.specs.Switched.{AreAlternating, ArePiecesOf, IsOtherThanFirst, names_from}
use Rattle.sd_law_chain.specs.Chain.{Call, HaveOwnSites, IsChain, IsChainOnAir, Link, OnAir, site_at}
use Rattle.sd_law_chain.specs.Heard.{ArrivedBroadcast, IsOtherNumber, TakeTurns, airs_of, arrival_of, arrivals_of}
use Rattle.sd_law_chain.specs.Heard.{channel_of}
use Rattle.sd_law_chain.specs.Heard.{numbers_from}
use Rattle.sd_law_chain.proofs.Meeting.{air_is_run}
use Rattle.sd_law_chain.proofs.Rising.{all_are_one_set, messages_are_three, words_rise}

-- a site of version 3 is named by its first control word
named : (site : SiteFields) → site.messages ≡ 3 → run_name_of site ≡ Some site.first_word
unfolding run_name_of
named site is = ap (λ (t : Bool). cond t (Some site.first_word) None) (eq-eqb site.messages 3 is)

-- and no site by another one
named_by : (site : SiteFields) (t : ℕ) → run_name_of site ≡ Some t → site.first_word ≡ t
unfolding run_name_of
named_by site t h = by_test (site.messages == 3) h
  where
    by_test : (test : Bool) → cond test (Some site.first_word) None ≡ Some t → site.first_word ≡ t
    by_test true e = cc
    by_test false e = absurd cc

-- the sites of two broadcasts have two names
names_differ_in_order : (root : Link) (calls : List Call) (m n : ℕ) → IsChain root calls → m < n → n ≤ length calls →
    HasWords (site_at root calls m) → run_name_of (site_at root calls m) ≢ run_name_of (site_at root calls n)
names_differ_in_order root calls m n is low within some same =
    let three = messages_are_three root calls n is (omega (arith, low)) within in
    let first = named_by (site_at root calls m) (site_at root calls n).first_word
    (same ∙ named (site_at root calls n) three) in
    let rises = words_rise root calls m n is low within in
    omega (arith, first, rises, some)

-- a broadcast can have the number: it is that of a site with control words
record CanAir (root : Link) (calls : List Call) (n : ℕ) : Type 0 where
  there : n ≤ length calls
  words : HasWords (site_at root calls n)

can_air : (root : Link) (calls : List Call) (air : OnAir) → IsChainOnAir root calls air → CanAir root calls air.number
can_air root calls air on = record { there = on.there; words = on.words }

names_differ : (root : Link) (calls : List Call) (m n : ℕ) → IsChain root calls → CanAir root calls m →
    CanAir root calls n → m ≢ n → run_name_of (site_at root calls m) ≢ run_name_of (site_at root calls n)
names_differ root calls m n is can also other = elim (cases_lt m n) [
  | inl lt ↦ names_differ_in_order root calls m n is lt also.there can.words
  | inr le ↦ elim (cases_lt n m) [
    | inl lt ↦ λ same. names_differ_in_order root calls n m is lt can.there also.words (sym same)
    | inr ge ↦ absurd (other (omega (arith, le, ge)))
  ]
]

-- each is of the channel
is_run_of : (root : Link) (calls : List Call) (one : ArrivedBroadcast) → IsChain root calls →
    IsChainOnAir root calls one.air →
    AreWholePackets one.air.clear → IsRunOf (channel_of root.site) (arrival_of root calls one)
is_run_of root calls one is on whole =
    let set = all_are_one_set root calls one.air.number is on.there in
    record {
      height = sym set.height;
      master = sym set.master;
      ca = sym set.ca;
      emm = sym set.emm;
      ecm = sym set.ecm;
      plan = (air_is_run root calls one.air is on).plan_fits;
      sendable = on.sendable;
      whole = whole;
    }

-- the sites of some broadcasts are each for one, and so are those of the broadcasts behind the first
own_behind : (air : OnAir) (airs : List OnAir) → HaveOwnSites (air ∷ airs) → HaveOwnSites airs
own_behind air airs own i j a b at beside low = own (suc i) (suc j) a b at beside (omega (arith, low))

-- the first has a site that none of those has
others : (air : OnAir) (airs : List OnAir) → HaveOwnSites (air ∷ airs) → All (λ other. air.number ≢ other.number) airs
others air airs own = all_by (λ other. air.number ≢ other.number) airs (λ other (k, within, is).
    own 0 (suc k) air other refl (slice_get-get_or airs k other within ∙ ap Some is) (omega arith))

two_names : (root : Link) (calls : List Call) (first : ArrivedBroadcast) (heard : List ArrivedBroadcast) →
    IsChain root calls →
    CanAir root calls first.air.number → All (IsChainOnAir root calls) (airs_of heard) →
    All (λ other. first.air.number ≢ other.number) (airs_of heard) →
    All (HaveTwoNames (arrival_of root calls first)) (arrivals_of root calls heard)
two_names root calls first [] is can all own = All-nil (HaveTwoNames (arrival_of root calls first))
two_names root calls first (one ∷ heard) is can all own =
    All-cons (HaveTwoNames (arrival_of root calls first)) (arrival_of root calls one) (arrivals_of root calls heard)
    (names_differ root calls first.air.number one.air.number is can
    (can_air root calls one.air (All-head (IsChainOnAir root calls) one.air (airs_of heard) all))
    (All-head (λ other. first.air.number ≢ other.number) one.air (airs_of heard) own))
    (two_names root calls first heard is can (All-tail (IsChainOnAir root calls) one.air (airs_of heard) all)
    (All-tail (λ other. first.air.number ≢ other.number) one.air (airs_of heard) own))

-- each clear packet is whole
abbrev AreWhole : ArrivedBroadcast → Type 0
AreWhole one = AreWholePackets one.air.clear

pub arrivals_are_runs : (root : Link) (calls : List Call) (heard : List ArrivedBroadcast) → IsChain root calls →
    All (IsChainOnAir root calls) (airs_of heard) → HaveOwnSites (airs_of heard) →
    All (λ one. AreWholePackets one.air.clear) heard →
    AreRunsOf (channel_of root.site) (arrivals_of root calls heard)
arrivals_are_runs root calls [] is all own whole = tt
arrivals_are_runs root calls (one ∷ heard) is all own whole =
    let on = All-head (IsChainOnAir root calls) one.air (airs_of heard) all in
    let rest = All-tail (IsChainOnAir root calls) one.air (airs_of heard) all in (
      is_run_of root calls one is on (All-head AreWhole one heard whole),
      two_names root calls one heard is (can_air root calls one.air on) rest (others one.air (airs_of heard) own),
      arrivals_are_runs root calls heard is rest (own_behind one.air (airs_of heard) own)
          (All-tail AreWhole one heard whole),
    )

each_is_run : (root : Link) (calls : List Call) (heard : List ArrivedBroadcast) → IsChain root calls →
    All (IsChainOnAir root calls) (airs_of heard) → All (λ one. AreWholePackets one.air.clear) heard →
    All (IsRunOf (channel_of root.site)) (arrivals_of root calls heard)
each_is_run root calls [] is all whole = All-nil (IsRunOf (channel_of root.site))
each_is_run root calls (one ∷ heard) is all whole =
    All-cons (IsRunOf (channel_of root.site)) (arrival_of root calls one) (arrivals_of root calls heard)
    (is_run_of root calls one is (All-head (IsChainOnAir root calls) one.air (airs_of heard) all)
    (All-head AreWhole one heard whole))
    (each_is_run root calls heard is (All-tail (IsChainOnAir root calls) one.air (airs_of heard) all)
    (All-tail AreWhole one heard whole))

-- the names of the sites of these numbers
abbrev names_of : Link → List Call → List ℕ → List (Option ℕ)
names_of root calls numbers = map (λ n. run_name_of (site_at root calls n)) numbers

-- the names of which a message is heard are those of the sites of these numbers
names_are : (root : Link) (calls : List Call) (tuned : Bool) (heard : List ArrivedBroadcast) →
    names_from tuned (arrivals_of root calls heard) ≡ names_of root calls (numbers_from root calls tuned heard)
names_are root calls tuned [] = refl
names_are root calls tuned (one ∷ heard) =
    by_test (is_told tuned (arrival_of root calls one))
    (names_are root calls (tuned || has_cat (arrival_of root calls one)) heard)
  where
    by_test : (t : Bool) → names_from (tuned || has_cat (arrival_of root calls one)) (arrivals_of root calls heard)
        ≡ names_of root calls (numbers_from root calls (tuned || has_cat (arrival_of root calls one)) heard) →
        cond t (run_name_of (site_at root calls one.air.number)
        ∷ names_from (tuned || has_cat (arrival_of root calls one)) (arrivals_of root calls heard))
        (names_from (tuned || has_cat (arrival_of root calls one)) (arrivals_of root calls heard))
        ≡ names_of root calls (cond t (one.air.number
        ∷ numbers_from root calls (tuned || has_cat (arrival_of root calls one)) heard)
        (numbers_from root calls (tuned || has_cat (arrival_of root calls one)) heard))
    by_test true rest = ap (λ (ns : List (Option ℕ)). run_name_of (site_at root calls one.air.number) ∷ ns) rest
    by_test false rest = rest

-- these are numbers that a broadcast can have
numbers_can : (root : Link) (calls : List Call) (tuned : Bool) (heard : List ArrivedBroadcast) →
    All (IsChainOnAir root calls) (airs_of heard) → All (CanAir root calls) (numbers_from root calls tuned heard)
numbers_can root calls tuned [] all = All-nil (CanAir root calls)
numbers_can root calls tuned (one ∷ heard) all =
    by_test (is_told tuned (arrival_of root calls one))
    (can_air root calls one.air (All-head (IsChainOnAir root calls) one.air (airs_of heard) all))
    (numbers_can root calls (tuned || has_cat (arrival_of root calls one)) heard
    (All-tail (IsChainOnAir root calls) one.air (airs_of heard) all))
  where
    by_test : (t : Bool) → CanAir root calls one.air.number →
        All (CanAir root calls) (numbers_from root calls (tuned || has_cat (arrival_of root calls one)) heard) →
        All (CanAir root calls) (cond t (one.air.number
        ∷ numbers_from root calls (tuned || has_cat (arrival_of root calls one)) heard)
        (numbers_from root calls (tuned || has_cat (arrival_of root calls one)) heard))
    by_test true first rest = All-cons (CanAir root calls) one.air.number
        (numbers_from root calls (tuned || has_cat (arrival_of root calls one)) heard) first rest
    by_test false first rest = rest

other_names : (root : Link) (calls : List Call) (n : ℕ) (numbers : List ℕ) → IsChain root calls →
    All (CanAir root calls) (n ∷ numbers) → IsOtherNumber n numbers →
    IsOtherThanFirst (run_name_of (site_at root calls n)) (names_of root calls numbers)
other_names root calls n [] is can other = tt
other_names root calls n (m ∷ numbers) is can other =
    names_differ root calls n m is (All-head (CanAir root calls) n (m ∷ numbers) can)
    (All-head (CanAir root calls) m numbers (All-tail (CanAir root calls) n (m ∷ numbers) can)) other

names_alternate : (root : Link) (calls : List Call) (numbers : List ℕ) → IsChain root calls →
    All (CanAir root calls) numbers → TakeTurns numbers → AreAlternating (names_of root calls numbers)
names_alternate root calls [] is can turns = tt
names_alternate root calls (n ∷ numbers) is can turns = (
  other_names root calls n numbers is can turns.0,
  names_alternate root calls numbers is (All-tail (CanAir root calls) n numbers can) turns.1,
)

pub arrivals_are_pieces : (root : Link) (calls : List Call) (heard : List ArrivedBroadcast) → IsChain root calls →
    All (IsChainOnAir root calls) (airs_of heard) → All (λ one. AreWholePackets one.air.clear) heard →
    TakeTurns (numbers_from root calls false heard) →
    ArePiecesOf (channel_of root.site) (arrivals_of root calls heard)
arrivals_are_pieces root calls heard is all whole turns = (
  each_is_run root calls heard is all whole,
  subst AreAlternating (sym (names_are root calls false heard))
      (names_alternate root calls (numbers_from root calls false heard) is (numbers_can root calls false heard all)
      turns),
)
