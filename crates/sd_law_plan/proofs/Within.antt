-- What is sent is within what is planned.
use Rattle.std.proofs.Common.{arith, ◌≡◌, ℕ, ◌+◌, ◌-◌, ◌*◌, ◌/◌, ◌==◌, ◌<◌, ◌≤◌, true, false}
use Rattle.std.proofs.Common.{List, [], ◌++◌, length, refl, sym, ap, ◌∙◌, length-append}
use Rattle.std.specs.Prelude.{sum_by}
use Rattle.std.specs.List.{range_with_len}
use Rattle.std.proofs.lemmas.Bool.Decides.{nat_tests}
use Rattle.sd_base.proofs.Arithmetic.{times_next}
use Rattle.sd_site_cards.specs.SiteFields.{SiteFields, AreInRange}
use Rattle.sd_message.specs.EcmParts.{parts_for}
use Rattle.sd_message.specs.EcmVersions.{positions_for}
use Rattle.sd_spec.specs.Plan.{Plan, closing_number, crypto_length, crypto_of}
use Rattle.sd_spec.specs.Kinds.{moved_pids}
use Rattle.sd_spec.specs.Sent.{broadcast, closing_of, sent}
use Rattle.sd_spec.proofs.Schedule.{crypto_length_some}
use Rattle.sd_spec.proofs.Bodies.{packets_many}
use Rattle.sd_run_books.specs.Air.{added_most, cryptos_for, messages_for, periods_for, tables_in}
use Rattle.sd_law_plan.proofs.Counts.{begun, quotient_is, shared, shared_is}
use Rattle.sd_law_plan.proofs.Sizes.{one_part, own, parts_after, parts_are, parts_by}
use Rattle.sd_law_plan.proofs.Sizes.{parts_some}
use Rattle.sd_law_plan.proofs.Sizes.{sent_within, tables_are, tables_by}

-- the crypto periods that m packets begin
pub cryptos_are : (site : SiteFields) (m : ℕ) → AreInRange site → 0 < m →
    begun (crypto_length site) m ≡ cryptos_for site m
unfolding begun crypto_of
cryptos_are site m r some =
    let b = crypto_length site in
    let long = crypto_length_some site r in
    let is = Rattle.std.proofs.lemmas.Nat.div-add-mod' (m - 1) b in
    let low = Rattle.std.proofs.lemmas.Nat.mod_below (m - 1) b long in
    let next = times_next ((m - 1) / b) b in
    quotient_is (m + b - 1) b ((m - 1) / b + 1) (omega (arith, is, next, some)) (omega (arith, is, next, low, some))

-- the closing message, where there is a packet
closing_many : (plan : Plan) (clear : List (List ℕ)) → 0 < length clear →
    length (closing_of plan clear) ≡ parts_for plan.site.messages (length (moved_pids clear))
unfolding closing_of
closing_many plan clear some =
    let any : (length clear == 0) ≡ false = grind (arith, nat_tests, some) in
    let parts = parts_after plan clear (closing_number plan.site (length clear)) (length clear - 1) true in
    rw any parts

-- what is told of the packets that are added
told_added : (plan : Plan) (m parts n : ℕ) → AreInRange plan.site → 0 < m → parts ≡ parts_for plan.site.messages n →
    added_most plan m n
    ≡ sum_by (tables_by plan (own plan)) (range_with_len 0 m)
    + sum_by (parts_by plan parts) (range_with_len 0 m)
    + parts
unfolding added_most begun own
told_added plan m parts n r some is =
    let cryptos = cryptos_for plan.site m in
    let tables : sum_by (tables_by plan (own plan)) (range_with_len 0 m)
    ≡ sum_by (tables_in plan cryptos) (periods_for plan cryptos) =
    tables_are plan (own plan) m r
    ∙ ap (shared plan (own plan)) (cryptos_are plan.site m r some)
    ∙ shared_is plan (own plan) cryptos (omega (arith, r.span.0)) (omega arith) in
    let messages = parts_are plan parts m r in
    let more = times_next (closing_number plan.site m) parts in
    ap (λ (x : ℕ). sum_by (tables_in plan cryptos) (periods_for plan cryptos) + messages_for plan.site m * x) (sym is)
    ∙ omega (arith, tables, messages, more)

pub record IsPlanned (plan : Plan) (n : ℕ) (clear : List (List ℕ)) : Type 0 where
  pub packets : length (broadcast plan clear) ≤ length clear + added_most plan (length clear) n
  pub exact : n ≤ positions_for plan.site.messages →
      length (broadcast plan clear) ≡ length clear + added_most plan (length clear) n

pub packets_planned : (plan : Plan) (n : ℕ) (clear : List (List ℕ)) → AreInRange plan.site → 0 < length clear →
    length (moved_pids clear) ≤ n → IsPlanned plan n clear
unfolding broadcast
packets_planned plan n clear r some few =
    let m = length clear in
    let is = sent_within plan n [] clear few in
    let all = packets_many plan.site [] (sent plan clear ++ closing_of plan clear) in
    let both = length-append (sent plan clear) (closing_of plan clear) in
    let closing = closing_many plan clear some in
    let parts = parts_for plan.site.messages n in
    let most = told_added plan m parts n r some refl in
    let up = Rattle.sd_law_plan.proofs.Sizes.parts_rise plan.site.messages (length (moved_pids clear)) n few in
    let low = parts_some plan.site.messages (length (moved_pids clear)) in
    record {
      packets = omega (arith, all, both, closing, most, up, is.most);
      exact = λ room.
          let one = one_part plan.site.messages n room in
          let least = told_added plan m 1 n r some (sym one) in
          omega (arith, all, both, closing, most, least, up, low, one, is.most, is.least);
    }
