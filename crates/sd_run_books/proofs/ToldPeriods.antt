-- The periods that are told of a new site.
use Rattle.std.proofs.Common.{◌≡◌, ℕ, ◌+◌, ◌-◌, ◌*◌, ◌≤◌, ◌<◌, ◌^◌, ◌==◌, false, min, arith, List, [], ◌++◌, length}
use Rattle.std.proofs.Common.{Result, Ok, Err, ap, sym, ◌∙◌, append_assoc}
use Rattle.std.specs.Prelude.{OnOk, flat_map}
use Rattle.std.specs.List.{range_with_len}
use Rattle.std.proofs.lemmas.Bool.Decides.{nat_tests}
use Rattle.std.proofs.lemmas.List.{flat_map_more}
use Rattle.std.proofs.lemmas.Nat.{mul-le}
use Rattle.sd_base.proofs.Ranges.{range_more}
use Rattle.sd_site_cards.specs.SiteFields.{SiteFields}
use Rattle.sd_book.specs.declared.command.Command.{Command}
use Rattle.sd_book.specs.Commands.{commands_until, last_period, revoked, revoked_after}
use Rattle.sd_book.proofs.Cuts.{same_revoked}
use Rattle.sd_run_books.specs.Told.{change_text, changed, commands_told_before, chain_period_text, told_at}
use Rattle.sd_run_books.specs.Told.{told_of_period}

-- the first packet of a period is a number of 64 bits
pub packet_fits : (turn span cryptos every : ℕ) → turn ≤ 1023 → span ≤ 65535 → cryptos ≤ 256 → every ≤ 4096 →
    turn * span * cryptos * every < 2 ^ 64
packet_fits turn span cryptos every t s c e =
    let all = mul-le (turn * span * cryptos) every (1023 * 65535 * 256) 4096
    (mul-le (turn * span) cryptos (1023 * 65535) 256 (mul-le turn span 1023 65535 t s) c) e in
    omega (arith, all)

-- the line of a period and those of its changes are its lines
pub told_more : {E : Type 0} (site : SiteFields) (turn : ℕ) (was is : List Command) (count : ℕ)
    (text head all : List ℕ) (result : Result (Unit {0}) E) → count ≡ length (revoked_after site.height is) →
    head ≡ text ++ chain_period_text (site.first_period + turn) (turn * site.span * site.cryptos * site.every) count →
    OnOk result (all ≡ head ++ flat_map (change_text is) (changed site.height was is)) →
    OnOk result (all ≡ text ++ told_of_period site (site.first_period + turn) was is)
unfolding told_of_period
told_more site turn was is count text head all (Err e) counted begun more = tt
told_more site turn was is count text head all (Ok done) counted begun more =
    let changes = flat_map (change_text is) (changed site.height was is) in
    let turned : turn ≡ site.first_period + turn - site.first_period = omega arith in
    more
    ∙ ap (λ (xs : List ℕ). xs ++ changes) begun
    ∙ append_assoc text (chain_period_text (site.first_period + turn) (turn * site.span * site.cryptos * site.every)
    count)
    changes
    ∙ ap (λ (n : ℕ). text ++ (chain_period_text (site.first_period + turn)
    (turn * site.span * site.cryptos * site.every) n ++ changes)) counted
    ∙ ap (λ (n : ℕ). text ++ (chain_period_text (site.first_period + turn) (n * site.span * site.cryptos * site.every)
    (length (revoked_after site.height is)) ++ changes)) turned

-- what a period after the first one is told against
later_before : (site : SiteFields) (own commands : List Command) (turn : ℕ) →
    commands_told_before site own commands (site.first_period + (turn + 1))
    ≡ commands_until (site.first_period + turn) commands
later_before site own commands turn =
    let later : (site.first_period + (turn + 1) == site.first_period) ≡ false = grind (arith, nat_tests) in
    let one_less : site.first_period + (turn + 1) - 1 ≡ site.first_period + turn = omega arith in
    rw later (ap (λ (q : ℕ). commands_until q commands) one_less)

-- the leaves that are revoked in a period that was told are those before the next one
pub before_more : (site : SiteFields) (own commands : List Command) (turn : ℕ) (leaves : List ℕ) →
    turn ≤ last_period commands - site.first_period →
    leaves ≡ revoked site.height commands (min site.first_period (last_period commands) + turn) →
    leaves ≡ revoked_after site.height (commands_told_before site own commands (site.first_period + (turn + 1)))
before_more site own commands turn leaves within are =
    are
    ∙ same_revoked site.height site.first_period turn commands within
    ∙ ap (revoked_after site.height) (sym (later_before site own commands turn))

-- the text after one period more
pub text_more : (site : SiteFields) (own commands : List Command) (turn : ℕ) (leaves before text more : List ℕ) →
    turn ≤ last_period commands - site.first_period →
    leaves ≡ revoked site.height commands (min site.first_period (last_period commands) + turn) →
    before ≡ revoked_after site.height (commands_told_before site own commands (site.first_period + turn)) →
    text ≡ flat_map (told_at site own commands) (range_with_len site.first_period turn) →
    ((was is : List Command) → before ≡ revoked_after site.height was → leaves ≡ revoked_after site.height is →
    more ≡ text ++ told_of_period site (site.first_period + turn) was is) →
    more ≡ flat_map (told_at site own commands) (range_with_len site.first_period (turn + 1))
text_more site own commands turn leaves before text more within are were told pushed =
    let first = site.first_period in
    let at = told_at site own commands in
    pushed (commands_told_before site own commands (first + turn)) (commands_until (first + turn) commands) were
    (are ∙ same_revoked site.height first turn commands within)
    ∙ ap (λ (xs : List ℕ). xs ++ at (first + turn)) told
    ∙ flat_map_more at [] (range_with_len first turn) (first + turn)
    ∙ ap (flat_map at) (sym (range_more first turn))
