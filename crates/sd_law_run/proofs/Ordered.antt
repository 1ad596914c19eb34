-- The words of `air`, `head`, `card`, `receive` and `watch` mean what the commands do.
use Rattle.std.proofs.Common.{◌≡◌, ◌≢◌, ℕ, ◌-◌, ◌^◌, ◌<◌, ◌≤◌, Bool, false, List, [], ◌∷◌}
use Rattle.std.proofs.Common.{Option, Some, Result, Ok, Err, refl, sym, ap, subst, ◌∙◌, arith, le-ltb}
use Rattle.std.specs.Prelude.{◌||◌, if◌then◌else◌}
use Rattle.std.specs.Str.{bytes_eq}
use Rattle.sd_base.specs.Number.{decimal_value}
use Rattle.sd_tree_keys.proofs.Powers.{leaves_bounds}
use Rattle.sd_site_cards.specs.SiteFields.{SiteFields}
use Rattle.sd_command_base.specs.declared.status.Status.{Status}
use Rattle.sd_command_base.specs.declared.status.Status.TheVariants.{Usage, BadWord}
use Rattle.sd_command_base.specs.Spec.{Readings, of_result, ◌>>=◌}
use Rattle.sd_command_base.specs.Outside.{IoState}
use Rattle.sd_command_base.specs.Outcome.{OutcomeWithin, Implements}
use Rattle.sd_command_base.specs.Results.{RunResult, with_page}
use Rattle.sd_command_line.specs.declared.command.Command.TheVariants.{Card}
use Rattle.sd_command_line.specs.Commands.{command_named, command_name, operands_of}
use Rattle.sd_command_line.specs.Words.{AirOf, InputOf, OutOf, Order, HeadOf, CardOf, ReceiveOf, at_most, before}
use Rattle.sd_command_line.specs.Words.{number_of_word}
use Rattle.sd_command_line.specs.Words.{WatchOf, named_words, number_argument, order_of, ordered}
use Rattle.sd_command_base.specs.Made.{used_name}
use Rattle.sd_command_base.specs.Shown.{word_at}
use Rattle.sd_run_books.specs.Card.{card_meaning}
use Rattle.sd_run_broadcasts.specs.Air.{air_meaning}
use Rattle.sd_run_broadcasts.specs.Head.{head_meaning}
use Rattle.sd_run_broadcasts.specs.Receive.{receive_meaning}
use Rattle.sd_run_broadcasts.specs.Watch.{watch_meaning}
use Rattle.sd_run.specs.Meaning.{order_meaning, meaning}
use Rattle.sd_law_run.specs.Aired.{air_run}
use Rattle.sd_law_run.specs.Good.{IsGoodSite}
use Rattle.sd_law_run.specs.Headline.{Names, head_run, card_run, receive_run}
use Rattle.sd_law_run.specs.Watched.{watch_run}
use Rattle.sd_law_run.proofs.Shelf.{apart_texts}

-- words that differ are refused for no other word
one_apart : (p : Bool) (order : Result Order Status) → p ≡ false → (if p || false then Err Usage else order) ≡ order
one_apart p order a = rw a refl

two_apart : (p q : Bool) (order : Result Order Status) → p ≡ false → q ≡ false →
    (if p || (q || false) then Err Usage else order) ≡ order
two_apart p q order a b = rw (a, b) refl

three_apart : (p q r : Bool) (order : Result Order Status) → p ≡ false → q ≡ false → r ≡ false →
    (if p || (q || (r || false)) then Err Usage else order) ≡ order
three_apart p q r order a b d = rw (a, b, d) refl

four_apart : (m p q r : Bool) (order : Result Order Status) → m ≡ false → p ≡ false → q ≡ false → r ≡ false →
    (if m || (p || (q || (r || false))) then Err Usage else order) ≡ order
four_apart m p q r order a b d e = rw (a, b, d, e) refl

-- a number within its bound is taken
number_fits : (word most n : ℕ) (found : Option ℕ) → found ≡ Some n → n ≤ most → at_most word most found ≡ Ok n
number_fits word most n found e low =
    ap (at_most word most) e ∙ ap (λ (b : Bool). if b then Err (BadWord word) else Ok n) (le-ltb most n low)

-- a leaf of a site's tree is a number of 32 bits
pub leaf_low : (got : Option (List ℕ)) (site : SiteFields) (u : ℕ) → IsGoodSite got site → u < 2 ^ site.height →
    u < 2 ^ 32
leaf_low got site u good leaf =
    let height = good.is_site.ranges.height in
    let most = leaves_bounds site.height height.0 height.1 in
    omega (arith, most, leaf)

-- the orders of the words
air_order : (names : Names) → names.stream ≢ names.site → names.stream ≢ names.book → names.stream ≢ names.clear →
    names.stream ≢ used_name names.site → order_of (air_run names)
    ≡ Ok (AirOf (word_at 1 names.site) (word_at 2 names.book) (word_at 3 names.clear) (word_at 4 names.stream))
unfolding named_words command_named command_name operands_of
air_order names site book clear mark =
    four_apart (bytes_eq names.stream (used_name names.site)) (bytes_eq names.site names.stream)
    (bytes_eq names.book names.stream) (bytes_eq names.clear names.stream)
    (Ok (AirOf (word_at 1 names.site) (word_at 2 names.book) (word_at 3 names.clear) (word_at 4 names.stream)))
    (apart_texts names.stream (used_name names.site) mark)
    (apart_texts names.site names.stream (λ e. site (sym e)))
    (apart_texts names.book names.stream (λ e. book (sym e)))
    (apart_texts names.clear names.stream (λ e. clear (sym e)))

head_order : (names : Names) → names.stream ≢ names.site → names.stream ≢ names.book → names.stream ≢ names.clear →
    order_of (head_run names)
    ≡ Ok (HeadOf (word_at 1 names.site) (word_at 2 names.book) (word_at 3 names.clear) (word_at 4 names.stream))
unfolding named_words command_named command_name operands_of
head_order names site book clear =
    three_apart (bytes_eq names.site names.stream) (bytes_eq names.book names.stream)
    (bytes_eq names.clear names.stream)
    (Ok (HeadOf (word_at 1 names.site) (word_at 2 names.book) (word_at 3 names.clear) (word_at 4 names.stream)))
    (apart_texts names.site names.stream (λ e. site (sym e)))
    (apart_texts names.book names.stream (λ e. book (sym e)))
    (apart_texts names.clear names.stream (λ e. clear (sym e)))

abbrev leaf_order : Names → Result ℕ Status → Result Order Status
leaf_order names found =
    ordered Card
    (before (Ok (InputOf (word_at 1 names.site)))
    (before (number_argument 2 found) (Ok (OutOf (word_at 3 names.card) ∷ []))))

card_order : (names : Names) (leaf : List ℕ) (u : ℕ) → names.card ≢ names.site → decimal_value leaf ≡ Some u →
    u < 2 ^ 32 → order_of (card_run names leaf)
    ≡ Ok (CardOf (word_at 1 names.site) (record { word = 2; value = u }) (word_at 3 names.card))
unfolding named_words command_named command_name operands_of
card_order names leaf u apart says low =
    one_apart (bytes_eq names.site names.card) (leaf_order names (number_of_word 2 (2 ^ 32 - 1) leaf))
    (apart_texts names.site names.card (λ e. apart (sym e)))
    ∙ ap (leaf_order names) (number_fits 2 (2 ^ 32 - 1) u (decimal_value leaf) says (omega (arith, low)))

receive_order : (names : Names) → names.out ≢ names.card → names.out ≢ names.stream →
    order_of (receive_run names)
    ≡ Ok (ReceiveOf (word_at 1 names.card) (word_at 2 names.stream) (word_at 3 names.out))
unfolding named_words command_named command_name operands_of
receive_order names card stream =
    two_apart (bytes_eq names.card names.out) (bytes_eq names.stream names.out)
    (Ok (ReceiveOf (word_at 1 names.card) (word_at 2 names.stream) (word_at 3 names.out)))
    (apart_texts names.card names.out (λ e. card (sym e)))
    (apart_texts names.stream names.out (λ e. stream (sym e)))

watch_order : (names : Names) → names.out ≢ names.card → names.out ≢ names.stream →
    order_of (watch_run names) ≡ Ok (WatchOf (word_at 1 names.card) (word_at 2 names.stream) (word_at 3 names.out))
unfolding named_words command_named command_name operands_of
watch_order names card stream =
    two_apart (bytes_eq names.card names.out) (bytes_eq names.stream names.out)
    (Ok (WatchOf (word_at 1 names.card) (word_at 2 names.stream) (word_at 3 names.out)))
    (apart_texts names.card names.out (λ e. card (sym e)))
    (apart_texts names.stream names.out (λ e. stream (sym e)))

own_order : (order : Order) (given : Readings) (a b : IoState) (status : Status) →
    OutcomeWithin (of_result (Ok order) >>= λ o. order_meaning o given) a b status → OutcomeWithin
    (order_meaning order given) a b status
own_order order given a b status h =
    record { comes = h.comes; ports = h.ports; calls = let c = h.calls in omega arith; steps = h.steps }

-- a run of words is a run of their order
order_answers : (words : List (List ℕ)) (order : Order) (a b : IoState) (answer : Status) →
    order_of words ≡ Ok order → RunResult (meaning words) a b answer → RunResult (order_meaning order) a b answer
order_answers words order a b answer read h =
    let at : IoState = with_page b h.page in
    let f =
    subst (λ (r : Result Order Status).
    Implements (λ given. of_result r >>= λ o. order_meaning o given) a at h.status) read h.obeyed in
    record {
      status = h.status;
      page = h.page;
      obeyed = record {
        given = f.given;
        is_given = f.is_given;
        obeyed = own_order order f.given a at h.status f.obeyed;
      };
      told = h.told;
    }

-- and so it is one of its command
pub head_answers : (names : Names) (a b : IoState) (answer : Status) → names.stream ≢ names.site →
    names.stream ≢ names.book → names.stream ≢ names.clear → RunResult (meaning (head_run names)) a b answer →
    RunResult (head_meaning (word_at 1 names.site) (word_at 2 names.book) (word_at 3 names.clear)
    (word_at 4 names.stream)) a b answer
head_answers names a b answer site book clear answers =
    order_answers (head_run names)
    (HeadOf (word_at 1 names.site) (word_at 2 names.book) (word_at 3 names.clear) (word_at 4 names.stream)) a b answer
    (head_order names site book clear) answers

pub card_answers : (names : Names) (leaf : List ℕ) (u : ℕ) (a b : IoState) (answer : Status) →
    names.card ≢ names.site → decimal_value leaf ≡ Some u → u < 2 ^ 32 →
    RunResult (meaning (card_run names leaf)) a b answer →
    RunResult (card_meaning (word_at 1 names.site) (record { word = 2; value = u }) (word_at 3 names.card)) a b answer
card_answers names leaf u a b answer apart says low answers =
    order_answers (card_run names leaf)
    (CardOf (word_at 1 names.site) (record { word = 2; value = u }) (word_at 3 names.card)) a b answer
    (card_order names leaf u apart says low) answers

pub receive_answers : (names : Names) (a b : IoState) (answer : Status) → names.out ≢ names.card →
    names.out ≢ names.stream → RunResult (meaning (receive_run names)) a b answer →
    RunResult (receive_meaning (word_at 1 names.card) (word_at 2 names.stream) (word_at 3 names.out)) a b answer
receive_answers names a b answer card stream answers =
    order_answers (receive_run names)
    (ReceiveOf (word_at 1 names.card) (word_at 2 names.stream) (word_at 3 names.out)) a b answer
    (receive_order names card stream) answers

pub watch_answers : (names : Names) (a b : IoState) (answer : Status) → names.out ≢ names.card →
    names.out ≢ names.stream → RunResult (meaning (watch_run names)) a b answer →
    RunResult (watch_meaning (word_at 1 names.card) (word_at 2 names.stream) (word_at 3 names.out)) a b answer
watch_answers names a b answer card stream answers =
    order_answers (watch_run names)
    (WatchOf (word_at 1 names.card) (word_at 2 names.stream) (word_at 3 names.out)) a b answer
    (watch_order names card stream) answers

pub air_answers : (names : Names) (a b : IoState) (answer : Status) → names.stream ≢ names.site →
    names.stream ≢ names.book → names.stream ≢ names.clear → names.stream ≢ used_name names.site →
    RunResult (meaning (air_run names)) a b answer →
    RunResult (air_meaning (word_at 1 names.site) (word_at 2 names.book) (word_at 3 names.clear)
    (word_at 4 names.stream)) a b answer
air_answers names a b answer site book clear mark answers =
    order_answers (air_run names)
    (AirOf (word_at 1 names.site) (word_at 2 names.book) (word_at 3 names.clear) (word_at 4 names.stream)) a b answer
    (air_order names site book clear mark) answers
