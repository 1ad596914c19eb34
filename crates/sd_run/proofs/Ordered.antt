-- What words that are an order, or none, come to.
use Rattle.std.proofs.Common.{◌≡◌, ◌≤◌, ℕ, List, [], ◌∷◌, Result, Ok, Err, refl, sym, ap, subst, ◌∙◌, inl, inr, arith}
use Rattle.sd_command_base.specs.declared.status.Status.{Status}
use Rattle.sd_command_base.specs.declared.status.Status.TheVariants.{Usage, Missing}
use Rattle.sd_command_base.specs.Outside.{IoState}
use Rattle.sd_command_base.specs.Spec.{Spec, Readings, of_result, ◌>>=◌}
use Rattle.sd_command_base.specs.Work.{Work}
use Rattle.sd_command_base.specs.Outcome.{IsRefusal, refused, OutcomeWithin, Implements}
use Rattle.sd_command_base.specs.Results.{RunResult}
use Rattle.sd_command_base.proofs.Givens.{any_given}
use Rattle.sd_command_base.proofs.RunAnswers.{usage_meant}
use Rattle.sd_command_base.proofs.Others.{IsOther}
use Rattle.sd_command_line.proofs.Others.{other_help, other_version}
use Rattle.sd_command_line.specs.declared.command.Command.TheVariants.{Next, Plan, Sample, Twin}
use Rattle.sd_command_line.specs.Words.{Argument, InputOf, OutOf, NumberOf, Order, CommandOf, HelpOf, VersionOf, number}
use Rattle.sd_command_line.specs.Words.{order_of}
use Rattle.sd_command_line.specs.Commands.{operands_of}
use Rattle.sd_command_line.specs.Orders.{AreOf, RefusesWords}
use Rattle.sd_run.specs.Meaning.{order_meaning, meaning}
use Rattle.sd_run.proofs.Rows.{other_command}

err_is : {A : Type 0} (a b : Status) (r : Result A Status) → r ≡ Err a → r ≡ Err b → a ≡ b
err_is a b r e f = cc

-- the meaning of words that were read so
abbrev read_meaning : Result Order Status → Readings → Spec Work
read_meaning read given = of_result read >>= λ order. order_meaning order given

same_order : (order : Order) (given : Readings) (a b : IoState) (status : Status) → OutcomeWithin
    (order_meaning order given) a b status →
    OutcomeWithin (read_meaning (Ok order) given) a b status
same_order order given a b status h =
    record { comes = h.comes; ports = h.ports; calls = let c = h.calls in omega arith; steps = h.steps }

-- an order that is followed is the words'
pub order_follows : (words : List (List ℕ)) (order : Order) (a b : IoState) (status : Status) →
    Ok order ≡ order_of words →
    Implements (order_meaning order) a b status → Implements (meaning words) a b status
order_follows words order a b status read h =
    subst (λ (r : Result Order Status). Implements (read_meaning r) a b status) read
    (record { given = h.given; is_given = h.is_given; obeyed = same_order order h.given a b status h.obeyed })

refuses : (status : Status) → RefusesWords status → IsRefusal status
refuses status (inl e) = subst IsRefusal (sym e) tt
refuses status (inr e) = subst IsRefusal (sym e.1) tt

none_missing : (status : Status) (word : ℕ) → RefusesWords status → status ≡ Missing word → ⊥
none_missing status word (inl e) is = absurd (let x = sym e ∙ is in cc)
none_missing status word (inr e) is = absurd (let x = sym e.1 ∙ is in cc)

-- words that are refused are followed by the refusal
pub words_follow : (words : List (List ℕ)) (status : Status) (a : IoState) → Err status ≡ order_of words →
    RefusesWords status →
    Implements (meaning words) a a status
words_follow words status a read h =
    let g = any_given a.place.files in
    subst (λ (r : Result Order Status). Implements (read_meaning r) a a status) read
    (record {
      given = g.given;
      is_given = g.is_given;
      obeyed = record {
        comes = refused refl (refuses status h) (record { files = refl; made = refl }) refl
            (record { depot = refl; print = refl })
            (record { missing = λ word is. absurd (none_missing status word h is); there = λ other. refl });
        ports = refl;
        calls = omega arith;
        steps = refl;
      };
    })

-- a sample's packets are within their limit
pub packets_fit : (a : List Argument) → AreOf 1 (operands_of Sample) a → (number 2 a).value ≤ 1000000
unfolding operands_of
packets_fit [] h = absurd h
packets_fit (first ∷ []) h = absurd h.1
packets_fit (first ∷ InputOf word ∷ rest) h = absurd h.1.0
packets_fit (first ∷ OutOf word ∷ rest) h = absurd h.1.0
packets_fit (first ∷ NumberOf n ∷ rest) h = h.1.0.1

-- a plan is of some packets, and of at most 256 PIDs
pub plan_fits : (a : List Argument) → AreOf 1 (operands_of Plan) a →
    (1 ≤ (number 3 a).value) × ((number 4 a).value ≤ 256)
unfolding operands_of
plan_fits [] h = absurd h
plan_fits (site ∷ []) h = absurd h.1
plan_fits (site ∷ book ∷ []) h = absurd h.1.1
plan_fits (site ∷ book ∷ InputOf word ∷ rest) h = absurd h.1.1.0
plan_fits (site ∷ book ∷ OutOf word ∷ rest) h = absurd h.1.1.0
plan_fits (site ∷ book ∷ NumberOf packets ∷ []) h = absurd h.1.1.1
plan_fits (site ∷ book ∷ NumberOf packets ∷ InputOf word ∷ rest) h = absurd h.1.1.1.0
plan_fits (site ∷ book ∷ NumberOf packets ∷ OutOf word ∷ rest) h = absurd h.1.1.1.0
plan_fits (site ∷ book ∷ NumberOf packets ∷ NumberOf pids ∷ rest) h = (h.1.1.0.1.0, h.1.1.1.0.1)

-- a next site has some control words
pub next_fits : (a : List Argument) → AreOf 1 (operands_of Next) a → 1 ≤ (number 3 a).value
unfolding operands_of
next_fits [] h = absurd h
next_fits (site ∷ []) h = absurd h.1
next_fits (site ∷ book ∷ []) h = absurd h.1.1
next_fits (site ∷ book ∷ InputOf word ∷ rest) h = absurd h.1.1.0
next_fits (site ∷ book ∷ OutOf word ∷ rest) h = absurd h.1.1.0
next_fits (site ∷ book ∷ NumberOf words ∷ rest) h = h.1.1.0.1.0

-- so has a twin
pub twin_fits : (a : List Argument) → AreOf 1 (operands_of Twin) a → 1 ≤ (number 2 a).value
unfolding operands_of
twin_fits [] h = absurd h
twin_fits (site ∷ []) h = absurd h.1
twin_fits (site ∷ InputOf word ∷ rest) h = absurd h.1.0
twin_fits (site ∷ OutOf word ∷ rest) h = absurd h.1.0
twin_fits (site ∷ NumberOf words ∷ rest) h = h.1.0.1.0

-- no order answers `Usage`
other_order : (order : Order) (given : Readings) → IsOther (order_meaning order given).result
other_order (CommandOf command arguments) given = other_command command arguments given
other_order (HelpOf topic) given = other_help topic given
other_order VersionOf given = other_version given

other_is : {A : Type 0} (r : Result A Status) → IsOther r → r ≡ Err Usage → ⊥
other_is (Ok x) h e = absurd (cc)
other_is {A} (Err status) h e = h (err_is {A = A} status Usage (Err status) refl e)

-- words of which `Usage` is meant are no order
only_words : (read : Result Order Status) (given : Readings) → (read_meaning read given).result ≡ Err Usage →
    read ≡ Err Usage
only_words (Ok order) given e = absurd (other_is (order_meaning order given).result (other_order order given) e)
only_words (Err status) given e = ap Err (err_is {A = Work} status Usage (Err status) refl e)

-- `Usage` is answered to words that are no order
pub usage_said : (words : List (List ℕ)) (a b : IoState) (answer : Status) → RunResult (meaning words) a b answer →
    answer ≡ Usage → order_of words ≡ Err Usage
usage_said words a b answer answers is =
    let meant = usage_meant (meaning words) a b answer answers is in only_words (order_of words) meant.0 meant.1
