-- Of a whole broadcast of a steady clear stream nothing is marked, doubled or odd.
use Rattle.std.proofs.Common.{◌≡◌, refl, ℕ, zero, suc, ◌+◌, ◌<◌, ◌≤◌, ◌==◌, ◌||◌, ◌++◌, Bool, true}
use Rattle.std.proofs.Common.{false, not, List, [], ◌∷◌, map, length, take, Option, Some, None, arith, sym, ap, ◌∙◌}
use Rattle.std.proofs.Common.{subst, inl, inr, ◌⊎◌, bytes_eq}
use Rattle.std.specs.Prelude.{filter, All}
use Rattle.std.specs.List.{list_any}
use Rattle.std.specs.Option.{option_map_or}
use Rattle.std.proofs.lemmas.Bool.{false≢true}
use Rattle.std.proofs.lemmas.Bool.Decides.{nat_tests}
use Rattle.std.proofs.lemmas.Slice.Eq.{bytes_eq-Decides}
use Rattle.std.proofs.lemmas.List.Elements.{All-head, All-tail}
use Rattle.sd_base.proofs.Bools.{tested}
use Rattle.sd_packet.specs.Header.{pid_of, counter_of}
use Rattle.sd_psi.specs.declared.our_cat.Tuning.{Tuning}
use Rattle.sd_site_cards.specs.CardFields.{CardFields}
use Rattle.sd_message.specs.EcmParts.{Message}
use Rattle.sd_message.specs.declared.ecm_part.EcmPart.{EcmPart}
use Rattle.sd_spec.specs.Tuned.{tuning_of}
use Rattle.sd_spec.specs.Heard.{Heard, hears}
use Rattle.sd_spec.specs.Offered.{heard, heard_more, offered, break_from}
use Rattle.sd_spec.specs.Sent.{Item, Cat, Entitles, Controls, Carries, is_cat_item, item_packet, packets_from}
use Rattle.sd_spec.specs.Items.{IsOfBroadcast}
use Rattle.sd_spec.specs.Counting.{is_marked, is_scrambled_packet, is_copy, is_part_again, is_doubled, is_stray}
use Rattle.sd_spec.specs.Counting.{is_stray_at, counting}
use Rattle.sd_spec.proofs.Sending.{packets_in_turn}
use Rattle.sd_spec.proofs.Hearing.{tuned_more}
use Rattle.sd_law_losses.proofs.Agreeing.{heard_by}
use Rattle.sd_law_losses.proofs.Writing.{onto, onto_append}
use Rattle.sd_law_losses.proofs.Coming.{AreParts}
use Rattle.sd_law_losses.proofs.Setting.{Setting, AreLaws, tuning_at}
use Rattle.sd_law_losses.proofs.Hearing.{AreHearable, heard_as}
use Rattle.sd_law_watch.specs.Steady.{have_one_counter}
use Rattle.sd_law_watch.proofs.Counted.{counts_by, counting_one, unbroken, nothing_counts}
use Rattle.sd_law_watch.proofs.Going.{tuned_now, unheard_more}
use Rattle.sd_law_watch.proofs.Ordered.{AreBefore, all_upto, all_more, never_again}
use Rattle.sd_law_watch.proofs.Air.{IsPlain, packed_plain}

-- clear packets and what they are on air have the same PIDs and counters
abbrev pub AreLike : List (List ℕ) → List (List ℕ) → Type 0
AreLike [] [] = Unit {0}
AreLike [] (packet ∷ packets) = ⊥
AreLike (c ∷ clear) [] = ⊥
AreLike (c ∷ clear) (packet ∷ packets) =
    (pid_of packet ≡ pid_of c) × (counter_of packet ≡ counter_of c) × AreLike clear packets

or_parts : (x y : Bool) → (x || y) ≡ false → (x ≡ false) × (y ≡ false)
or_parts true y is = absurd (false≢true (sym is))
or_parts false y is = (refl, is)

one_differs : (c d packet other : List ℕ) → pid_of packet ≡ pid_of c → counter_of packet ≡ counter_of c →
    pid_of other ≡ pid_of d → counter_of other ≡ counter_of d → have_one_counter c d ≡ false →
    bytes_eq packet other ≡ false
one_differs c d packet other pid counter other_pid other_counter none =
    tested (bytes_eq packet other)
    (λ same.
    let is : packet ≡ other = (bytes_eq-Decides packet other).0 same in
    let pids : pid_of c ≡ pid_of d = sym pid ∙ (ap (λ (p : List ℕ). pid_of p) is ∙ other_pid) in
    let counters : counter_of c ≡ counter_of d =
    sym counter ∙ (ap (λ (p : List ℕ). counter_of p) is ∙ other_counter) in
    absurd (false≢true (sym none ∙ both_same c d pids counters)))
    (λ differs. differs)
  where
    both_same : (c d : List ℕ) → pid_of c ≡ pid_of d → counter_of c ≡ counter_of d → have_one_counter c d ≡ true
    both_same c d pids counters =
        let one : (pid_of c == pid_of d) ≡ true = grind (arith, nat_tests, pids) in
        let two : (counter_of c == counter_of d) ≡ true = grind (arith, nat_tests, counters) in
        rw one (rw two refl)

pub no_copy : (n : ℕ) (c packet : List ℕ) (clear packets : List (List ℕ)) → AreLike clear packets →
    pid_of packet ≡ pid_of c → counter_of packet ≡ counter_of c →
    list_any (have_one_counter c) (take n clear) ≡ false → list_any (bytes_eq packet) (take n packets) ≡ false
no_copy zero c packet clear packets like pid counter none = refl
no_copy (suc n) c packet [] [] like pid counter none = refl
no_copy (suc n) c packet [] (p ∷ packets) like pid counter none = absurd like
no_copy (suc n) c packet (d ∷ clear) [] like pid counter none = absurd like
no_copy (suc n) c packet (d ∷ clear) (p ∷ packets) like pid counter none =
    let parts = or_parts (have_one_counter c d) (list_any (have_one_counter c) (take n clear)) none in
    rw (one_differs c d packet p pid counter like.0 like.1 parts.0)
    (no_copy n c packet clear packets like.2 pid counter parts.1)

-- a packet that isn't marked, doubled or odd
pub record Fine (card : CardFields) (past : List (List ℕ)) (packet : List ℕ) : Type 0 where
  pub unmarked : is_marked packet ≡ false
  pub once : is_doubled card past packet ≡ false
  pub even : is_stray_at card past packet ≡ false

abbrev pub AllFine : CardFields → List (List ℕ) → List (List ℕ) → Type 0
AllFine card past [] = Unit {0}
AllFine card past (packet ∷ packets) = Fine card past packet × AllFine card (packet ∷ past) packets

pub fine_append : (card : CardFields) (past xs ys : List (List ℕ)) → AllFine card past xs →
    AllFine card (onto xs past) ys → AllFine card past (xs ++ ys)
fine_append card past [] ys first rest = rest
fine_append card past (x ∷ xs) ys first rest = (first.0, fine_append card (x ∷ past) xs ys first.1 rest)

-- all of them count if none is refused
pub fine_count : (card : CardFields) (past packets : List (List ℕ)) → break_from card past packets ≡ None →
    AllFine card past packets → counting card past packets ≡ packets
unfolding break_from
fine_count card past [] none all = nothing_counts card past
fine_count card past (packet ∷ packets) none all =
    let whole = unbroken (offered card past packet).fault (break_from card (packet ∷ past) packets) none in
    counting_one card past packets packet
    (counts_by card past packet all.0.unmarked all.0.once all.0.even whole.0)
    ∙ ap (λ (rest : List (List ℕ)). packet ∷ rest) (fine_count card (packet ∷ past) packets whole.1 all.1)

-- the CAT was taken, or nothing was heard
abbrev pub Tunes : Setting → List (List ℕ) → Type 0
Tunes s past = (tuning_of s.card.ca past ≡ Some (tuning_at s))
    ⊎ ((tuning_of s.card.ca past ≡ None) × (heard s.card past ≡ []))

-- where a receiver stands: the scrambled packets so far, and all parts that were heard are before part x of message a
pub record Steady (s : Setting) (past scrambled : List (List ℕ)) (a x : ℕ) : Type 0 where
  pub tuned : Tunes s past
  pub like : AreLike scrambled (filter is_scrambled_packet past)
  pub parts : AreBefore a x (heard s.card past)

pub steady_upto : (s : Setting) (past scrambled : List (List ℕ)) (a x b y : ℕ) → (a < b) ⊎ ((a ≡ b) × (x ≤ y)) →
    Steady s past scrambled a x → Steady s past scrambled b y
steady_upto s past scrambled a x b y up steady = record {
  tuned = steady.tuned;
  like = steady.like;
  parts = all_upto a x b y (heard s.card past) up steady.parts;
}

-- a test of what was heard and of what is heard next fails before a tuning, and if it fails under it
fails_by : (test : List Heard → Heard → Bool) (s : Setting) (past : List (List ℕ)) (packet : List ℕ) (thing : Heard) →
    Tunes s past → hears s.card.height (tuning_at s) (length past) packet ≡ thing →
    test (heard s.card past) thing ≡ false →
    option_map_or (λ tuning. test (heard s.card past) (hears s.card.height tuning (length past) packet))
    (tuning_of s.card.ca past) false ≡ false
fails_by test s past packet thing (inl tuned) is none =
    ap (λ (t : Option Tuning). option_map_or (λ tuning. test (heard s.card past)
    (hears s.card.height tuning (length past) packet)) t false) tuned
    ∙ (ap (test (heard s.card past)) is ∙ none)
fails_by test s past packet thing (inr untuned) is none =
    ap (λ (t : Option Tuning). option_map_or (λ tuning. test (heard s.card past)
    (hears s.card.height tuning (length past) packet)) t false) untuned.0

pub once_by : (s : Setting) (past : List (List ℕ)) (packet : List ℕ) (thing : Heard) → Tunes s past →
    hears s.card.height (tuning_at s) (length past) packet ≡ thing → is_copy past packet ≡ false →
    is_part_again (heard s.card past) thing ≡ false → is_doubled s.card past packet ≡ false
unfolding is_doubled
once_by s past packet thing tunes is copy none = rw copy (fails_by is_part_again s past packet thing tunes is none)

pub even_by : (s : Setting) (past : List (List ℕ)) (packet : List ℕ) (thing : Heard) → Tunes s past →
    hears s.card.height (tuning_at s) (length past) packet ≡ thing → is_stray (heard s.card past) thing ≡ false →
    is_stray_at s.card past packet ≡ false
unfolding is_stray_at
even_by = fails_by is_stray

-- one thing more
pub parts_on : (s : Setting) (able : AreHearable s) (past : List (List ℕ)) (earlier : List Item) (item : Item)
    (a x : ℕ) →
    IsOfBroadcast s.plan s.clear item → Tunes s past → AreBefore a x (heard_as (length past) item ∷ []) →
    AreBefore a x (heard s.card past) →
    AreBefore a x (heard s.card (item_packet s.plan.site earlier item ∷ past))
parts_on s able past earlier item a x of' (inl tuned) one all =
    subst (AreBefore a x)
    (sym (heard_by s.card (tuning_at s) past (item_packet s.plan.site earlier item) tuned
    ∙ ap (heard_more (heard s.card past)) (able.heard_is (length past) earlier item of')))
    (all_more a x (heard s.card past) (heard_as (length past) item) one all)
parts_on s able past earlier item a x of' (inr untuned) one all =
    subst (AreBefore a x)
    (sym (unheard_more s.card past (item_packet s.plan.site earlier item) untuned.0 ∙ untuned.1)) tt

pub tunes_on : (s : Setting) (able : AreHearable s) (past : List (List ℕ)) (earlier : List Item) (item : Item) →
    IsOfBroadcast s.plan s.clear item → Tunes s past → Tunes s (item_packet s.plan.site earlier item ∷ past)
tunes_on s able past earlier item of' (inl tuned) =
    inl (tuned_more s.card (tuning_at s) past (item_packet s.plan.site earlier item) tuned)
tunes_on s able past earlier item of' (inr untuned) = by_item item of'
  where
    still : (it : Item) → IsOfBroadcast s.plan s.clear it → is_cat_item it ≡ false →
        Tunes s (item_packet s.plan.site earlier it ∷ past)
    still it of' other = inr (
      tuned_now s.card past (item_packet s.plan.site earlier it) untuned.0 ∙ able.untuned earlier it of' other,
      unheard_more s.card past (item_packet s.plan.site earlier it) untuned.0 ∙ untuned.1,
    )

    by_item : (it : Item) → IsOfBroadcast s.plan s.clear it → Tunes s (item_packet s.plan.site earlier it ∷ past)
    by_item Cat of' =
        inl (tuned_now s.card past (item_packet s.plan.site earlier Cat) untuned.0 ∙ able.tuning earlier)
    by_item (Entitles emm) of' = still (Entitles emm) of' refl
    by_item (Controls part) of' = still (Controls part) of' refl
    by_item (Carries j packet) of' = still (Carries j packet) of' refl

-- a packet that isn't scrambled
plain_unmarked : (packet : List ℕ) → IsPlain packet → is_marked packet ≡ false
plain_unmarked packet plain = ap (λ (e : ℕ). e == 1) plain.error

plain_clear : (packet : List ℕ) → IsPlain packet → is_scrambled_packet packet ≡ false
plain_clear packet plain = ap (λ (c : ℕ). not (c == 0)) plain.control

pub no_copy_of : (past : List (List ℕ)) (packet : List ℕ) → is_scrambled_packet packet ≡ false →
    is_copy past packet ≡ false
no_copy_of past packet is = rw is refl

pub like_on : (past scrambled : List (List ℕ)) (packet : List ℕ) → is_scrambled_packet packet ≡ false →
    AreLike scrambled (filter is_scrambled_packet past) → AreLike scrambled (filter is_scrambled_packet (packet ∷ past))
like_on past scrambled packet is like = rw is like

-- what comes of things: all are fine, and where the receiver stands then
pub record Goes (s : Setting) (earlier items : List Item) (past scrambled : List (List ℕ)) (a x : ℕ) : Type 0 where
  pub fine : AllFine s.card past (packets_from s.plan.site earlier items)
  pub steady : Steady s (onto (packets_from s.plan.site earlier items) past) scrambled a x

pub goes_after : (s : Setting) (earlier xs ys : List Item) (past old scrambled : List (List ℕ)) (a x b y : ℕ) →
    Goes s earlier xs past old a x →
    Goes s (earlier ++ xs) ys (onto (packets_from s.plan.site earlier xs) past) scrambled b y →
    Goes s earlier (xs ++ ys) past scrambled b y
goes_after s earlier xs ys past old scrambled a x b y first rest =
    let split = packets_in_turn s.plan.site earlier xs ys in
    let one : List (List ℕ) = packets_from s.plan.site earlier xs in
    let two : List (List ℕ) = packets_from s.plan.site (earlier ++ xs) ys in
    record {
      fine = subst (AllFine s.card past) (sym split) (fine_append s.card past one two first.fine rest.fine);
      steady = subst (λ (packets : List (List ℕ)). Steady s packets scrambled b y)
          (sym (ap (λ (all : List (List ℕ)). onto all past) split ∙ onto_append one two past)) rest.steady;
    }

pub goes_none : (s : Setting) (earlier : List Item) (past scrambled : List (List ℕ)) (a x : ℕ) →
    Steady s past scrambled a x → Goes s earlier [] past scrambled a x
unfolding packets_from
goes_none s earlier past scrambled a x steady = record { fine = tt; steady = steady }

pub goes_one : (s : Setting) (earlier : List Item) (item : Item) (items : List Item) (past scrambled : List (List ℕ))
    (a x : ℕ) → Fine s.card past (item_packet s.plan.site earlier item) →
    Goes s (earlier ++ item ∷ []) items (item_packet s.plan.site earlier item ∷ past) scrambled a x →
    Goes s earlier (item ∷ items) past scrambled a x
unfolding packets_from
goes_one s earlier item items past scrambled a x fine rest =
    record { fine = (fine, rest.fine); steady = rest.steady }

-- tables
abbrev pub AreTables : List Item → Type 0
AreTables [] = Unit {0}
AreTables (Cat ∷ items) = AreTables items
AreTables (Entitles emm ∷ items) = AreTables items
AreTables (Controls part ∷ items) = ⊥
AreTables (Carries j packet ∷ items) = ⊥

plain_step : (s : Setting) (able : AreHearable s) (past scrambled : List (List ℕ)) (earlier : List Item) (item : Item)
    (a x : ℕ) → IsOfBroadcast s.plan s.clear item → IsPlain (item_packet s.plan.site earlier item) →
    is_part_again (heard s.card past) (heard_as (length past) item) ≡ false →
    is_stray (heard s.card past) (heard_as (length past) item) ≡ false →
    Steady s past scrambled a x → Fine s.card past (item_packet s.plan.site earlier item)
plain_step s able past scrambled earlier item a x of' plain again stray steady =
    let packet : List ℕ = item_packet s.plan.site earlier item in
    let is = able.heard_is (length past) earlier item of' in
    record {
      unmarked = plain_unmarked packet plain;
      once = once_by s past packet (heard_as (length past) item) steady.tuned is
          (no_copy_of past packet (plain_clear packet plain)) again;
      even = even_by s past packet (heard_as (length past) item) steady.tuned is stray;
    }

steady_on : (s : Setting) (able : AreHearable s) (past scrambled : List (List ℕ)) (earlier : List Item) (item : Item)
    (a x b y : ℕ) → IsOfBroadcast s.plan s.clear item →
    is_scrambled_packet (item_packet s.plan.site earlier item) ≡ false → (a < b) ⊎ ((a ≡ b) × (x ≤ y)) →
    AreBefore b y (heard_as (length past) item ∷ []) → Steady s past scrambled a x →
    Steady s (item_packet s.plan.site earlier item ∷ past) scrambled b y
steady_on s able past scrambled earlier item a x b y of' clear up one steady =
    let next = steady_upto s past scrambled a x b y up steady in
    record {
      tuned = tunes_on s able past earlier item of' steady.tuned;
      like = like_on past scrambled (item_packet s.plan.site earlier item) clear steady.like;
      parts = parts_on s able past earlier item b y of' steady.tuned one next.parts;
    }

pub tables_go : (s : Setting) (laws : AreLaws s) (able : AreHearable s) (items earlier : List Item)
    (past scrambled : List (List ℕ)) (a x : ℕ) → All (IsOfBroadcast s.plan s.clear) items → AreTables items →
    Steady s past scrambled a x → Goes s earlier items past scrambled a x
unfolding is_part_again is_stray
tables_go s laws able [] earlier past scrambled a x all are steady = goes_none s earlier past scrambled a x steady
tables_go s laws able (Cat ∷ items) earlier past scrambled a x all are steady =
    let of' = All-head (IsOfBroadcast s.plan s.clear) Cat items all in
    let plain : IsPlain (item_packet s.plan.site earlier Cat) = packed_plain _ 1 _ (omega arith) in
    let packet : List ℕ = item_packet s.plan.site earlier Cat in
    goes_one s earlier Cat items past scrambled a x
    (plain_step s able past scrambled earlier Cat a x of' plain refl refl steady)
    (tables_go s laws able items (earlier ++ Cat ∷ []) (packet ∷ past) scrambled a x
    (All-tail (IsOfBroadcast s.plan s.clear) Cat items all) are
    (steady_on s able past scrambled earlier Cat a x a x of' (plain_clear packet plain) (inr (refl, omega arith)) tt
    steady))
tables_go s laws able (Entitles emm ∷ items) earlier past scrambled a x all are steady =
    let of' = All-head (IsOfBroadcast s.plan s.clear) (Entitles emm) items all in
    let plain : IsPlain (item_packet s.plan.site earlier (Entitles emm)) =
    packed_plain _ s.plan.site.emm _ (omega (arith, laws.range.emm.1)) in
    let packet : List ℕ = item_packet s.plan.site earlier (Entitles emm) in
    goes_one s earlier (Entitles emm) items past scrambled a x
    (plain_step s able past scrambled earlier (Entitles emm) a x of' plain refl refl steady)
    (tables_go s laws able items (earlier ++ Entitles emm ∷ []) (packet ∷ past) scrambled a x
    (All-tail (IsOfBroadcast s.plan s.clear) (Entitles emm) items all) are
    (steady_on s able past scrambled earlier (Entitles emm) a x a x of' (plain_clear packet plain)
    (inr (refl, omega arith)) tt steady))
tables_go s laws able (Controls part ∷ items) earlier past scrambled a x all are steady = absurd are
tables_go s laws able (Carries j packet ∷ items) earlier past scrambled a x all are steady = absurd are

-- parts of a message
pub parts_go : (s : Setting) (laws : AreLaws s) (able : AreHearable s) (message : Message) (prior rest : List EcmPart)
    (earlier : List Item) (past scrambled : List (List ℕ)) → AreParts message prior rest →
    All (IsOfBroadcast s.plan s.clear) (map Controls rest) →
    Steady s past scrambled message.number (length prior) →
    Goes s earlier (map Controls rest) past scrambled (message.number + 1) 0
unfolding is_stray
parts_go s laws able message prior [] earlier past scrambled are all steady =
    goes_none s earlier past scrambled (message.number + 1) 0
    (steady_upto s past scrambled message.number (length prior) (message.number + 1) 0 (inl (omega arith)) steady)
parts_go s laws able message prior (part ∷ rest) earlier past scrambled are all steady =
    let of' = All-head (IsOfBroadcast s.plan s.clear) (Controls part) (map Controls rest) all in
    let plain : IsPlain (item_packet s.plan.site earlier (Controls part)) =
    packed_plain _ s.plan.site.ecm _ (omega (arith, laws.range.ecm.1)) in
    let packet : List ℕ = item_packet s.plan.site earlier (Controls part) in
    let before : AreBefore part.number part.part (heard s.card past) =
    all_upto message.number (length prior) part.number part.part (heard s.card past)
    (inr (sym are.0.number, omega (arith, are.0.place))) steady.parts in
    goes_one s earlier (Controls part) (map Controls rest) past scrambled (message.number + 1) 0
    (plain_step s able past scrambled earlier (Controls part) message.number (length prior) of' plain
    (never_again (heard s.card past) part before) refl steady)
    (parts_go s laws able message (part ∷ prior) rest (earlier ++ Controls part ∷ []) (packet ∷ past) scrambled are.1
    (All-tail (IsOfBroadcast s.plan s.clear) (Controls part) (map Controls rest) all)
    (steady_on s able past scrambled earlier (Controls part) message.number (length prior) message.number
    (length (part ∷ prior)) of' (plain_clear packet plain) (inr (refl, omega arith))
    (inr (are.0.number, omega (arith, are.0.place)), tt) steady))
