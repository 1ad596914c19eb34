-- The line of a report on a live stream.
use Rattle.std.proofs.Common.{◌≡◌, List, ◌∷◌, [], ◌++◌, append_assoc}
use Rattle.std.specs.Prelude.{codes, decimal}
use Rattle.json.specs.Token.{Token, begin_object, end_object}
use Rattle.json.specs.Tree.{json_tokens}
use Rattle.serde_json.specs.Data.{Members, no_members}
use Rattle.serde_json.specs.Written.{outline}
use Rattle.sd_message.specs.ClearFaults.{clear_packet}
use Rattle.sd_message.specs.declared.clear_fault.ClearFault.{ClearFault}
use Rattle.sd_command_base.specs.declared.status.Status.TheVariants.{BadClear}
use Rattle.sd_command_base.specs.declared.stream_refusal.StreamRefusal.TheVariants.{Packet}
use Rattle.sd_command_base.specs.Texts.{line_of_status, clear_refusal_line, clear_text}
use Rattle.sd_run_broadcasts.specs.Air.{air_data, broken_text}
use Rattle.sd_run_broadcasts.specs.Members.{num_member}
use Rattle.sd_run_broadcasts.specs.MemberTokens.{text_tokens, HasFeed}
use Rattle.sd_run_broadcasts.specs.declared.air_report.AirReport.{AirReport}
use Rattle.sd_run_broadcasts.proofs.Members.{behind, fed, line_feed, num_tokens, text_first}

-- the line of a packet that breaks a rule ends with a line feed
pub broken_feed : (fault : ClearFault) → HasFeed (BadClear (Packet fault))
unfolding line_of_status clear_refusal_line
broken_feed fault = fed (behind (codes "clear packet ") (behind (decimal (clear_packet fault)) (behind (codes ": ")
    (behind (clear_text fault) line_feed))))

-- the members behind `first`
abbrev later : AirReport → Members
later report =
    num_member (codes "left") report.left
    (num_member (codes "marked") report.left_out.marked
    (num_member (codes "packets") report.packets
    (num_member (codes "pats") report.left_out.pats
    (num_member (codes "period") report.period
    (num_member (codes "refused") report.left_out.refused
    (num_member (codes "sent") report.sent
    (num_member (codes "skipped") report.skipped
    (num_member (codes "word") report.word
    no_members))))))))

-- the tokens of a report, one member after another
pub joined : (report : AirReport) (a b c d e f g h i j k l : List Token) →
    b ≡ a ++ begin_object ∷ [] →
    c ≡ b ++ text_tokens (codes "first") (broken_text report.left_out.first) →
    d ≡ c ++ num_tokens (codes "left") report.left →
    e ≡ d ++ num_tokens (codes "marked") report.left_out.marked →
    f ≡ e ++ num_tokens (codes "packets") report.packets →
    g ≡ f ++ num_tokens (codes "pats") report.left_out.pats →
    h ≡ g ++ num_tokens (codes "period") report.period →
    i ≡ h ++ num_tokens (codes "refused") report.left_out.refused →
    j ≡ i ++ num_tokens (codes "sent") report.sent →
    k ≡ j ++ num_tokens (codes "skipped") report.skipped →
    l ≡ k ++ num_tokens (codes "word") report.word →
    l ++ end_object ∷ [] ≡ a ++ json_tokens (outline (air_data report))
unfolding air_data
joined report a b c d e f g h i j k l to_b to_c to_d to_e to_f to_g to_h to_i to_j to_k to_l =
    rw (to_l, to_k, to_j, to_i, to_h, to_g, to_f, to_e, to_d, to_c, to_b)
    (rw (text_first (codes "first") (broken_text report.left_out.first) (later report)) (simp append_assoc))
