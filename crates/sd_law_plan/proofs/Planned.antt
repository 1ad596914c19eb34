-- A broadcast has what was planned.
use Rattle.std.proofs.Common.{ℕ, ◌<◌, ◌≤◌, List, length}
use Rattle.sd_spec.specs.Plan.{Plan, IsPlan}
use Rattle.sd_spec.specs.Kinds.{moved_pids}
use Rattle.sd_spec.specs.Refused.{IsSendable}
use Rattle.sd_law_broadcast.specs.Packets.{AreLong}
use Rattle.sd_law_broadcast.proofs.Clear.{clear_pids}
use Rattle.sd_law_broadcast.proofs.Covering.{period_named}
use Rattle.sd_law_plan.specs.Within.{IsWithinPlan}
use Rattle.sd_law_plan.proofs.Periods.{packets_told, sections_told, told_is, told_reached, word_spoken, word_used}
use Rattle.sd_law_plan.proofs.Periods.{words_left}
use Rattle.sd_law_plan.proofs.Within.{packets_planned}

pub within_plan : (plan : Plan) (n : ℕ) (clear : List (List ℕ)) → IsPlan plan → IsSendable plan.site clear →
    AreLong clear → 0 < length clear → length (moved_pids clear) ≤ n → IsWithinPlan plan n clear
within_plan plan n clear is all long some few =
    let r = is.site in
    let m = length clear in
    let planned = packets_planned plan n clear r some few in
    record {
      packets = planned.packets;
      exact = planned.exact;
      told = λ k low. packets_told plan m k r low;
      reached = λ q here. told_reached plan m q r some here;
      names = λ q here. (let told = told_is plan m q r here in
          period_named plan clear q is all long told.low told.high);
      sections = λ q here. sections_told plan clear q r some here;
      words = λ part here. word_used plan clear part here;
      spoken = λ t low high. word_spoken plan.site m t r some low high;
      room = words_left plan.site clear all some;
    }

pub within_any : (plan : Plan) (clear : List (List ℕ)) → IsPlan plan → IsSendable plan.site clear → AreLong clear →
    0 < length clear → IsWithinPlan plan 256 clear
within_any plan clear is all long some = within_plan plan 256 clear is all long some (clear_pids plan.site clear all)
