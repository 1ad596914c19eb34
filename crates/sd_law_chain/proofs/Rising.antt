-- What rises from site to site of a chain, and what stays.
use Rattle.std.proofs.Common.{arith, ◌≡◌, ℕ, suc, zero, ◌+◌, ◌-◌, ◌<◌, ◌≤◌, List, length, refl, ap, sym, subst}
use Rattle.std.proofs.Common.{◌∙◌, Some, inl, inr}
use Rattle.std.specs.Prelude.{slice_get}
use Rattle.std.proofs.lemmas.Bool.{cases_lt}
use Rattle.sha2.proofs.Facts256.{length-sha256}
use Rattle.sd_base.specs.Types.{Bytes}
use Rattle.sd_site_cards.specs.SiteFields.{SiteFields, AreInRange}
use Rattle.sd_site_cards.specs.Forms.{IsWithin, cryptos_line, ecm_line, emm_line, every_line, height_line, span_line}
use Rattle.sd_site_cards.specs.Written.{IsSayable}
use Rattle.sd_site_cards.specs.Chain.{most_word}
use Rattle.sd_book.specs.Commands.{last_period}
use Rattle.sd_book.specs.Limits.{most_periods}
use Rattle.sd_law_broadcast.specs.Runs.{HasWords}
use Rattle.sd_run_books.specs.Chain.{commands_said, line_of_book}
use Rattle.sd_law_chain.specs.Chain.{AreOneSet, Call, IsChain, AreWordsLeft, IsNextAt, IsNextTaken, IsTaken, Link, Next}
use Rattle.sd_law_chain.specs.Chain.{Twin}
use Rattle.sd_law_chain.specs.Chain.{chain_book, link_at, made_by, own_bytes, site_at, words_asked}
use Rattle.sd_law_chain.proofs.Within.{fewer_periods, read_within, sha_below}
use Rattle.sd_law_chain.proofs.Links.{call_taken, first_link, next_link, some_call}

-- what a call does to a site
record IsStep (a b : Link) (words : ℕ) : Type 0 where
  follows : b.site.first_word ≡ a.site.last_word + 1
  count : b.site.last_word ≡ a.site.last_word + words
  some : 1 ≤ words
  period : a.site.first_period ≤ b.site.first_period
  set : AreOneSet a.site b.site
  messages : b.site.messages ≡ 3

same_set : (site : SiteFields) → AreOneSet site site
same_set site = record {
  height = refl;
  master = refl;
  ca = refl;
  emm = refl;
  ecm = refl;
  every = refl;
  cryptos = refl;
  span = refl;
}

made_set : (link : Link) (call : Call) → AreOneSet link.site (made_by link call).site
made_set link (Next bytes words) = record {
  height = refl;
  master = refl;
  ca = refl;
  emm = refl;
  ecm = refl;
  every = refl;
  cryptos = refl;
  span = refl;
}
made_set link (Twin words) = record {
  height = refl;
  master = refl;
  ca = refl;
  emm = refl;
  ecm = refl;
  every = refl;
  cryptos = refl;
  span = refl;
}

set_through : (a b c : SiteFields) → AreOneSet a b → AreOneSet b c → AreOneSet a c
set_through a b c p q = record {
  height = p.height ∙ q.height;
  master = p.master ∙ q.master;
  ca = p.ca ∙ q.ca;
  emm = p.emm ∙ q.emm;
  ecm = p.ecm ∙ q.ecm;
  every = p.every ∙ q.every;
  cryptos = p.cryptos ∙ q.cryptos;
  span = p.span ∙ q.span;
}

left_of : (link : Link) (call : Call) → IsTaken link call → AreWordsLeft link.site (words_asked call)
left_of link (Next bytes words) taken = taken.left
left_of link (Twin words) taken = taken

one_step : (link : Link) (call : Call) → IsTaken link call → IsStep link (made_by link call) (words_asked call)
one_step link (Next bytes words) taken = record {
  follows = refl;
  count = refl;
  some = taken.left.0;
  period = omega arith;
  set = made_set link (Next bytes words);
  messages = refl;
}
one_step link (Twin words) taken = record {
  follows = refl;
  count = refl;
  some = taken.0;
  period = omega arith;
  set = made_set link (Twin words);
  messages = refl;
}

step_of : (root : Link) (calls : List Call) (n : ℕ) (call : Call) → IsChain root calls → slice_get calls n ≡ Some call →
    IsStep (link_at root calls n) (link_at root calls (suc n)) (words_asked call)
step_of root calls n call is at =
    subst (λ (b : Link). IsStep (link_at root calls n) b (words_asked call)) (sym (next_link root calls n call at))
    (one_step (link_at root calls n) call (call_taken root calls n call is at))

step_at : (root : Link) (calls : List Call) (n : ℕ) → IsChain root calls → n < length calls →
    (words : ℕ) × IsStep (link_at root calls n) (link_at root calls (suc n)) words
step_at root calls n is low =
    let (call, at) = some_call calls n low in
    (words_asked call, step_of root calls n call is at)

-- each site that a call made has a control word
pub words_are_had : (root : Link) (calls : List Call) (j : ℕ) → IsChain root calls → 1 ≤ j → j ≤ length calls →
    HasWords (site_at root calls j)
words_are_had root calls zero is low within = absurd (omega (arith, low))
words_are_had root calls (suc j) is low within =
    let (words, step) = step_at root calls j is (omega (arith, within)) in
    omega (arith, step.follows, step.count, step.some)

pub words_rise : (root : Link) (calls : List Call) (i j : ℕ) → IsChain root calls → i < j → j ≤ length calls →
    (site_at root calls i).last_word < (site_at root calls j).first_word
words_rise root calls i zero is low within = absurd (omega (arith, low))
words_rise root calls i (suc j) is low within =
    let (words, step) = step_at root calls j is (omega (arith, within)) in
    elim (cases_lt i j) [
      | inl lt ↦
          let before = words_rise root calls i j is lt (omega (arith, within)) in
          let had = words_are_had root calls j is (omega (arith, lt)) (omega (arith, within)) in
          omega (arith, before, had, step.follows)
      | inr le ↦
          let same : j ≡ i = omega (arith, low, le) in
          let last : (site_at root calls j).last_word ≡ (site_at root calls i).last_word =
          ap (λ (k : ℕ). (site_at root calls k).last_word) same in
          omega (arith, step.follows, last)
    ]

after : (n : ℕ) → suc n ≡ n + 1
after n = omega arith

pub words_follow : (root : Link) (calls : List Call) (n : ℕ) → IsChain root calls → n < length calls →
    (site_at root calls (n + 1)).first_word ≡ (site_at root calls n).last_word + 1
words_follow root calls n is low =
    let (words, step) = step_at root calls n is low in
    ap (λ (k : ℕ). (site_at root calls k).first_word) (sym (after n)) ∙ step.follows

pub words_are_as_asked : (root : Link) (calls : List Call) (n : ℕ) (call : Call) → IsChain root calls →
    slice_get calls n ≡ Some call →
    (site_at root calls (n + 1)).last_word + 1 ≡ (site_at root calls (n + 1)).first_word + words_asked call
words_are_as_asked root calls n call is at =
    let step = step_of root calls n call is at in
    let next = ap (λ (k : ℕ). (site_at root calls k).first_word) (sym (after n)) in
    let last = ap (λ (k : ℕ). (site_at root calls k).last_word) (sym (after n)) in
    omega (arith, step.follows, step.count, next, last)

pub periods_never_fall : (root : Link) (calls : List Call) (i j : ℕ) → IsChain root calls → i ≤ j →
    j ≤ length calls → (site_at root calls i).first_period ≤ (site_at root calls j).first_period
periods_never_fall root calls i zero is low within =
    let same : i ≡ 0 = omega (arith, low) in
    omega (arith, ap (λ (k : ℕ). (site_at root calls k).first_period) same)
periods_never_fall root calls i (suc j) is low within =
    elim (cases_lt j i) [
      | inl lt ↦
          let same : i ≡ suc j = omega (arith, low, lt) in
          omega (arith, ap (λ (k : ℕ). (site_at root calls k).first_period) same)
      | inr le ↦
          let (words, step) = step_at root calls j is (omega (arith, within)) in
          let before = periods_never_fall root calls i j is le (omega (arith, within)) in
          omega (arith, before, step.period)
    ]

-- the site before number n, with the BOOK of the `next` that made site n
pub made_next : (root : Link) (calls : List Call) (n : ℕ) (bytes : Bytes) → IsNextAt calls n bytes → (words : ℕ) ×
    (slice_get calls (n - 1) ≡ Some (Next bytes words))
    × (link_at root calls n ≡ made_by (link_at root calls (n - 1)) (Next bytes words))
made_next root calls n bytes (words, low, at) =
    let one : n ≡ suc (n - 1) = omega (arith, low) in (
      words,
      at,
      ap (link_at root calls) one ∙ next_link root calls (n - 1) (Next bytes words) at,
    )

pub periods_rise : (root : Link) (calls : List Call) (i n j : ℕ) (bytes : Bytes) → IsChain root calls → i < n →
    n ≤ j → j ≤ length calls → IsNextAt calls n bytes →
    (site_at root calls i).first_period < (site_at root calls j).first_period
periods_rise root calls i n j bytes is low high within next =
    let (words, at, made) = made_next root calls n bytes next in
    let before = periods_never_fall root calls i (n - 1) is (omega (arith, low)) (omega (arith, high, within)) in
    let later = periods_never_fall root calls n j is high within in
    let rises = ap (λ (link : Link). link.site.first_period) made in
    omega (arith, before, later, rises)

pub all_are_one_set : (root : Link) (calls : List Call) (j : ℕ) → IsChain root calls → j ≤ length calls →
    AreOneSet root.site (site_at root calls j)
all_are_one_set root calls zero is within =
    subst (λ (link : Link). AreOneSet root.site link.site) (sym (first_link root calls)) (same_set root.site)
all_are_one_set root calls (suc j) is within =
    let (words, step) = step_at root calls j is (omega (arith, within)) in
    set_through root.site (site_at root calls j) (site_at root calls (suc j))
    (all_are_one_set root calls j is (omega (arith, within))) step.set

pub messages_are_three : (root : Link) (calls : List Call) (j : ℕ) → IsChain root calls → 1 ≤ j → j ≤ length calls →
    (site_at root calls j).messages ≡ 3
messages_are_three root calls zero is low within = absurd (omega (arith, low))
messages_are_three root calls (suc j) is low within =
    let (words, step) = step_at root calls j is (omega (arith, within)) in step.messages

-- a site with other numbers in lines 9 to 12
same_ranges : (a b : SiteFields) → AreInRange a → AreOneSet a b → b.messages ≡ 3 → b.first_word ≤ most_word →
    b.last_word ≤ most_word → b.first_period ≤ most_word → AreInRange b
same_ranges a b is set messages first last period = record {
  height = subst (IsWithin height_line) set.height is.height;
  emm = subst (IsWithin emm_line) set.emm is.emm;
  ecm = subst (IsWithin ecm_line) set.ecm is.ecm;
  apart = λ same. is.apart (set.emm ∙ same ∙ sym set.ecm);
  every = subst (IsWithin every_line) set.every is.every;
  cryptos = subst (IsWithin cryptos_line) set.cryptos is.cryptos;
  span = subst (IsWithin span_line) set.span is.span;
  messages = (omega (arith, messages), omega (arith, messages));
  first_word = (omega arith, first);
  last_word = (omega arith, last);
  first_period = (omega arith, period);
}

-- the last period of the book that `next` takes for that of its SITE
own_last : (link : Link) (bytes : Bytes) (words : ℕ) → IsNextTaken link bytes words →
    last_period (commands_said (own_bytes link bytes)) ≤ most_periods
own_last link bytes words taken =
    let all = (read_within link.site.height bytes (commands_said bytes) taken.book).periods in
    let own = fewer_periods (length link.book) bytes taken.own_ends in
    omega (arith, all, own)

sayable_step : (link : Link) (call : Call) → IsSayable link.site (line_of_book link.book) → IsTaken link call →
    IsSayable (made_by link call).site (line_of_book (made_by link call).book)
sayable_step link (Next bytes words) is taken = record {
  ranges = same_ranges link.site (made_by link (Next bytes words)).site is.ranges
      (made_set link (Next bytes words)) refl
      (omega (arith, taken.left.0, taken.left.1)) taken.left.1
      (omega (arith, taken.period, own_last link bytes words taken));
  ca = is.ca;
  master = is.master;
  size = taken.size;
  digest = (length-sha256 bytes, sha_below bytes);
}
sayable_step link (Twin words) is taken = record {
  ranges = same_ranges link.site (made_by link (Twin words)).site is.ranges
      (made_set link (Twin words)) refl
      (omega (arith, taken.0, taken.1)) taken.1 is.ranges.first_period.1;
  ca = is.ca;
  master = is.master;
  size = is.size;
  digest = is.digest;
}

pub all_are_sayable : (root : Link) (calls : List Call) (j : ℕ) → IsChain root calls → j ≤ length calls →
    IsSayable (site_at root calls j) (line_of_book (chain_book root calls j))
all_are_sayable root calls zero is within =
    subst (λ (link : Link). IsSayable link.site (line_of_book link.book)) (sym (first_link root calls)) is.first
all_are_sayable root calls (suc j) is within =
    let (call, at) = some_call calls j (omega (arith, within)) in
    subst (λ (link : Link). IsSayable link.site (line_of_book link.book)) (sym (next_link root calls j call at))
    (sayable_step (link_at root calls j) call (all_are_sayable root calls j is (omega (arith, within)))
    (call_taken root calls j call is at))
