-- Ranges of control words and periods, and what a broadcast uses.
use Rattle.std.proofs.Common.{◌≡◌, ◌≢◌, ℕ, ◌+◌, ◌-◌, ◌*◌, ◌/◌, ◌^◌, ◌<◌, ◌≤◌, Bool, true, false, List, ◌++◌, length}
use Rattle.std.proofs.Common.{take, refl, sym, ap, subst, ◌∙◌, inl, inr, arith}
use Rattle.std.specs.Prelude.{◌↔◌, All, Contains}
use Rattle.std.proofs.lemmas.Bool.{cases_lt}
use Rattle.std.proofs.lemmas.Bool.Decides.{nat_tests}
use Rattle.std.proofs.lemmas.List.Elements.{All-map, All-contains, Contains-get_or}
use Rattle.std.proofs.Math.Nat.{div-lt_iff_lt-mul, div-zero}
use Rattle.sd_site_cards.specs.SiteFields.{SiteFields, AreInRange}
use Rattle.sd_book.specs.declared.command.Command.{Command}
use Rattle.sd_book.specs.Commands.{commands_until, last_period, revoked, revoked_after}
use Rattle.sd_book.proofs.Cuts.{until_after}
use Rattle.sd_message.specs.EmmSpelled.{listed_entries}
use Rattle.sd_message.specs.declared.emm.Emm.{Emm}
use Rattle.sd_message.specs.declared.emm.Entry.{Entry}
use Rattle.sd_message.specs.EcmParts.{parts_of}
use Rattle.sd_message.specs.declared.ecm_part.EcmPart.{EcmPart}
use Rattle.sd_spec.specs.Plan.{Plan, crypto_length, crypto_of, word_of, period_in, period_of, sets_at}
use Rattle.sd_spec.specs.Plan.{closing_number}
use Rattle.sd_spec.specs.Messages.{entry_of, period_at, message_at}
use Rattle.sd_spec.specs.Refused.{is_used_up}
use Rattle.sd_spec.specs.Sent.{Item, Cat, Entitles, Controls, Carries}
use Rattle.sd_spec.specs.Items.{IsOfBroadcast, cat, entitlement, part, closing, carried_on}
use Rattle.sd_spec.proofs.Schedule.{quotients_rise, crypto_length_some}
use Rattle.sd_spec.proofs.Periods.{section_number}
use Rattle.sd_law_broadcast.specs.Runs.{Run, HasWords, last_crypto, UsesWord, UsesPeriod, AgreeOnPeriods}
use Rattle.sd_law_broadcast.proofs.Texts.{entry_of_period, part_of_message}

-- a packet is not too long where its number and its control word are left
left_for : (site : SiteFields) (k : ℕ) → (is_used_up site k ≡ false)
    ↔ ((k ≢ 2 ^ 32 - 1) × (word_of site k ≤ site.last_word))
left_for site k = (
  λ fits. (grind (arith, nat_tests, fits), grind (arith, nat_tests, fits)),
  λ (short, word). grind (arith, nat_tests, short, word),
)

-- the words of a range are those of as many crypto periods
words_last : (site : SiteFields) (k : ℕ) → AreInRange site → HasWords site → (word_of site k ≤ site.last_word)
    ↔ (k < (site.last_word + 1 - site.first_word) * crypto_length site)
unfolding word_of crypto_of
words_last site k r some =
    let some_packets = crypto_length_some site r in
    let count = div-lt_iff_lt-mul {k = crypto_length site} {x = k} {y = site.last_word + 1 - site.first_word}
    some_packets in (
      λ word. count.0 (omega (arith, word, some)),
      λ few. let below = count.1 few in omega (arith, below, some),
    )

-- the control words of a site suffice for just the packets of as many crypto periods
pub words_suffice : (site : SiteFields) (k : ℕ) → AreInRange site → HasWords site → (is_used_up site k ≡ false)
    ↔ ((k ≢ 2 ^ 32 - 1) × (k < (site.last_word + 1 - site.first_word) * crypto_length site))
words_suffice site k r some =
    let left = left_for site k in
    let last = words_last site k r some in (
      λ fits. let (short, word) = left.0 fits in (short, last.0 word),
      λ (short, few). left.1 (short, last.1 few),
    )

-- quotients by any number rise
quotients_rise_by : (n j k : ℕ) → j ≤ k → j / n ≤ k / n
quotients_rise_by n j k below = elim (cases_lt 0 n) [
  | inl some ↦ quotients_rise n j k some below
  | inr none ↦
      let zero : n ≡ 0 = omega (arith, none) in rw zero (omega (arith, div-zero j, div-zero k))
]

-- the last period that a run uses is that of its last packet
used_below : (run : Run) (q : ℕ) → UsesPeriod run q → q ≤ period_of run.plan (length run.clear - 1)
unfolding period_of period_in last_crypto
used_below run q (t, (n, within, word, period)) =
    let up = quotients_rise_by run.plan.site.span n (crypto_of run.plan.site (length run.clear - 1)) within in
    omega (arith, period, up)

-- and no period that it uses is below its site's first
used_above : (run : Run) (q : ℕ) → UsesPeriod run q → run.plan.site.first_period ≤ q
unfolding period_in
used_above run q (t, (n, within, word, period)) = omega (arith, period)

pub later_periods_are_new : (a b : Run) (q : ℕ) → period_of a.plan (length a.clear - 1) < b.plan.site.first_period
    → UsesPeriod a q → UsesPeriod b q → ⊥
later_periods_are_new a b q later uses other = omega (arith, later, used_below a q uses, used_above b q other)

pub one_book_agrees : (a b : Run) → a.plan.commands ≡ b.plan.commands → a.plan.site.height ≡ b.plan.site.height
    → AgreeOnPeriods a b
one_book_agrees a b book high q uses other = rw (book, high) refl

-- what is appended changes no period before the last one
pub grown_books_agree : (a b : Run) (more : List Command) → b.plan.commands ≡ a.plan.commands ++ more
    → a.plan.site.height ≡ b.plan.site.height → period_of a.plan (length a.clear - 1) < last_period a.plan.commands
    → AgreeOnPeriods a b
grown_books_agree a b more grown high before q uses other =
    let same = until_after q a.plan.commands more (omega (arith, before, used_below a q uses)) in
    ap (λ (d : ℕ). revoked d a.plan.commands q) high
    ∙ ap (revoked_after b.plan.site.height) (sym same ∙ ap (commands_until q) (sym grown))

-- a run uses the control word and the period of each of its packets together
packet_uses : (run : Run) (k : ℕ) → k ≤ length run.clear - 1 →
    UsesWord run (word_of run.plan.site k) (period_of run.plan k)
unfolding word_of period_of last_crypto crypto_of
packet_uses run k within = (
  k / crypto_length run.plan.site,
  quotients_rise_by (crypto_length run.plan.site) k (length run.clear - 1) within,
  refl,
  refl,
)

-- each entry of a period names one of its sets
entry_names : (plan : Plan) (q : ℕ) → All (λ entry. Contains (sets_at plan q) entry.name) (period_at plan q).entries
unfolding period_at entry_of
entry_names plan q =
    All-map (λ (entry : Entry). Contains (sets_at plan q) entry.name) (entry_of plan.site q) (sets_at plan q)
    (λ k d within. Contains-get_or (sets_at plan q) k d within)

-- a part's word and period are those of its packet
part_uses : (run : Run) (before : List (List ℕ)) (a k : ℕ) (last : Bool) (one : EcmPart) → k ≤ length run.clear - 1
    → Contains (parts_of (message_at run.plan before a k last)) one → UsesWord run one.word one.period
unfolding message_at
part_uses run before a k last one within m =
    let is = part_of_message (message_at run.plan before a k last) one m in
    rw (is.word, is.period) (packet_uses run k within)

-- what is told of what is used by each thing that is sent
abbrev IsUsed : Run → Item → Type 0
IsUsed run Cat = Unit {0}
IsUsed run (Entitles emm) = (entry : Entry) → Contains (listed_entries emm) entry
    → UsesPeriod run emm.period × Contains (sets_at run.plan emm.period) entry.name
IsUsed run (Controls one) = UsesWord run one.word one.period
IsUsed run (Carries k packet) = Unit {0}

is_used : (run : Run) (item : Item) → IsOfBroadcast run.plan run.clear item → IsUsed run item
is_used run _ cat = tt
is_used run _ (entitlement {emm = emm} k within m) = λ entry here.
    let q : ℕ = period_of run.plan k in
    subst (λ (n : ℕ). UsesPeriod run n × Contains (sets_at run.plan n) entry.name)
    (sym (section_number run.plan q emm m)) (
      (word_of run.plan.site k, packet_uses run k within),
      All-contains (λ e. Contains (sets_at run.plan q) e.name) (period_at run.plan q).entries entry
          (entry_names run.plan q) (entry_of_period run.plan q emm entry m here),
    )
is_used run _ (part {part = one} k within due m) =
    part_uses run (take k run.clear) (k / run.plan.site.every) k false one (omega (arith, within)) m
is_used run _ (closing {part = one} m) =
    part_uses run run.clear (closing_number run.plan.site (length run.clear)) (length run.clear - 1) true one
    (omega arith) m
is_used run _ (carried_on k within) = tt

pub entries_are_used : (run : Run) (emm : Emm) (entry : Entry) → IsOfBroadcast run.plan run.clear (Entitles emm)
    → Contains (listed_entries emm) entry → UsesPeriod run emm.period ×
    Contains (sets_at run.plan emm.period) entry.name
entries_are_used run emm entry is here = is_used run (Entitles emm) is entry here

pub parts_are_used : (run : Run) (one : EcmPart) → IsOfBroadcast run.plan run.clear (Controls one)
    → UsesWord run one.word one.period
parts_are_used run one is = is_used run (Controls one) is
