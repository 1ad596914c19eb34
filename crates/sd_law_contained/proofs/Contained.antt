-- What is written of one PID, if what tells something and what is of the PID arrives as it was sent.
use Rattle.std.proofs.Common.{◌≡◌, List, [], reverse, ap, sym, ◌∙◌}
use Rattle.std.specs.Prelude.{ℕ, true, false, None}
use Rattle.sd_site_cards.specs.CardFields.{CardFields}
use Rattle.sd_spec.specs.Offered.{out_from, break_from}
use Rattle.sd_spec.specs.Ending.{ending_of}
use Rattle.sd_spec.specs.Counting.{counting}
use Rattle.sd_law_losses.specs.Channel.{Channel, Arrival, channel_card}
use Rattle.sd_law_losses.specs.Many.{confirmed_from}
use Rattle.sd_law_losses.specs.Ends.{ending_of_all}
use Rattle.sd_law_losses.proofs.Finishing.{runs_out, runs_end}
use Rattle.sd_law_contained.specs.Alone.{packets_alone, few_held_in, without_gaps}
use Rattle.sd_law_contained.specs.Contained.{IsContained}
use Rattle.sd_law_losses.specs.Channel.{channel_card}
use Rattle.sd_law_contained.proofs.Written.{those_on}
use Rattle.sd_law_contained.proofs.Leaving.{out_alone}
use Rattle.sd_law_contained.proofs.Endings.{end_alone}
use Rattle.sd_law_contained.proofs.Calm.{out_watched}

-- what is the same of the PID and of what tells something is the same of what is written of the PID
pub same_alone : (card : CardFields) (pid : ℕ) (packets others : List (List ℕ)) → break_from card [] packets ≡ None →
    few_held_in card [] packets ≡ true → break_from card [] others ≡ None → few_held_in card [] others ≡ true →
    packets_alone card pid [] packets ≡ packets_alone card pid [] others →
    those_on pid (out_from card [] packets) ≡ those_on pid (out_from card [] others)
same_alone card pid packets others calm room still place same =
    out_alone card pid packets calm room
    ∙ (ap (out_from card []) same ∙ sym (out_alone card pid others still place))

pub out_contained : (channel : Channel) (runs : List Arrival) (u pid : ℕ) (packets : List (List ℕ)) →
    IsContained channel runs u pid packets →
    those_on pid (out_from (channel_card channel u) [] (counting (channel_card channel u) [] packets))
    ≡ confirmed_from false u runs
out_contained channel runs u pid packets is =
    out_watched (channel_card channel u) pid packets is.few
    ∙ (ap (out_from (channel_card channel u) []) is.told ∙ runs_out channel runs u is.runs_of is.leaf)

pub end_contained : (channel : Channel) (runs : List Arrival) (u pid : ℕ) (packets : List (List ℕ)) →
    IsContained channel runs u pid packets →
    without_gaps (ending_of (channel_card channel u) (reverse (counting (channel_card channel u) [] packets)))
    ≡ without_gaps (ending_of_all u runs)
end_contained channel runs u pid packets is =
    sym (end_alone (channel_card channel u) pid (counting (channel_card channel u) [] packets))
    ∙ (ap (λ (ps : List (List ℕ)). without_gaps (ending_of (channel_card channel u) (reverse ps))) is.told
    ∙ ap without_gaps (runs_end channel runs u is.runs_of is.leaf))
