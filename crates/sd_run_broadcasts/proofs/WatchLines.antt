-- The line of a report on a stream.
use Rattle.std.proofs.Common.{◌≡◌, ℕ, List, ◌∷◌, [], ◌++◌, refl, arith}
use Rattle.std.proofs.Common.{append_assoc, Option, Some, None}
use Rattle.std.specs.Prelude.{codes, decimal}
use Rattle.json.specs.Token.{Token, begin_object, end_object}
use Rattle.json.specs.Tree.{json_tokens, members_tokens}
use Rattle.serde_json.specs.Data.{Members, no_members}
use Rattle.serde_json.specs.Written.{members_outline, outline}
use Rattle.sd_base.specs.Types.{RunName}
use Rattle.sd_message.specs.StreamFaults.{stream_packet}
use Rattle.sd_message.specs.declared.stream_fault.StreamFault.{StreamFault}
use Rattle.sd_spec.specs.declared.ending.Ending.{Ending}
use Rattle.sd_spec.specs.declared.ending.Ending.TheVariants as end
use Rattle.sd_spec.specs.declared.report.Report.{Report}
use Rattle.sd_command_base.specs.declared.status.Status.TheVariants.{BadStream}
use Rattle.sd_command_base.specs.declared.stream_refusal.StreamRefusal.TheVariants.{Packet}
use Rattle.sd_command_base.specs.Texts.{line_of_status, revoked_line, unheard_line, unclosed_line, gaps_line}
use Rattle.sd_command_base.specs.Texts.{stream_line}
use Rattle.sd_command_base.specs.Texts.{stream_text}
use Rattle.sd_run_broadcasts.specs.Receive.{ending_status}
use Rattle.sd_run_broadcasts.specs.Members.{num_member, text_member, text_of_status}
use Rattle.sd_run_broadcasts.specs.MemberTokens.{text_tokens, HasFeed}
use Rattle.sd_run_broadcasts.specs.Watch.{first_text, watch_report_data, watch_run_member}
use Rattle.sd_run_broadcasts.specs.WatchTokens.{run_tokens}
use Rattle.sd_run_broadcasts.proofs.Members.{behind, fed, line_feed, num_tokens, text_first}

-- a run's name that may be left out
run_first : (run : Option RunName) (more : Members) →
    members_tokens (members_outline (watch_run_member run more)) ≡ run_tokens run ++ members_tokens
    (members_outline more)
run_first None more = refl
run_first (Some None) more = refl
run_first (Some (Some run)) more = refl

-- the line of how a stream ended ends with a line feed
pub ending_feed : (leaf : ℕ) (ending : Ending) → HasFeed (ending_status leaf ending)
unfolding line_of_status revoked_line unheard_line unclosed_line gaps_line
ending_feed leaf end.Opened = λ some. omega (arith, some)
ending_feed leaf (end.Revoked period) = fed (behind (codes "receiver ") (behind (decimal leaf)
    (behind (codes " is revoked in period ") (behind (decimal period) line_feed))))
ending_feed leaf (end.Unheard period) = fed (behind (codes "receiver ") (behind (decimal leaf)
    (behind (codes " did not hear its entitlement for period ") (behind (decimal period) line_feed))))
ending_feed leaf end.NoCat = fed (record { front = codes "no CAT for this card"; is = refl })
ending_feed leaf (end.Unclosed n) =
    fed (behind (codes "stream ends before message ") (behind (decimal n) line_feed))
ending_feed leaf (end.Gaps n) =
    fed (behind (decimal n) (record { front = codes " clear packets are missing"; is = refl }))

-- and so does that of a packet that is refused
pub fault_feed : (fault : StreamFault) → HasFeed (BadStream (Packet fault))
unfolding line_of_status stream_line
fault_feed fault = fed (behind (codes "stream packet ") (behind (decimal (stream_packet fault)) (behind (codes ": ")
    (behind (stream_text fault) line_feed))))

-- the tokens of the members from `marked` on
abbrev later : ℕ → Report → Members
later skipped report =
    num_member (codes "marked") report.tally.marked
    (num_member (codes "odd") report.tally.odd
    (num_member (codes "packets") report.packets
    (num_member (codes "refused") report.tally.refused
    (watch_run_member report.run
    (num_member (codes "skipped") skipped
    (num_member (codes "written") report.written
    no_members))))))

-- the tokens of a report, one member after another
pub joined : (leaf skipped : ℕ) (report : Report) (a b c d e f g h i j k l : List Token) →
    b ≡ a ++ begin_object ∷ [] →
    c ≡ b ++ num_tokens (codes "doubled") report.tally.doubled →
    d ≡ c ++ text_tokens (codes "ending") (text_of_status (ending_status leaf report.ending)) →
    e ≡ d ++ text_tokens (codes "first") (first_text report.tally.first) →
    f ≡ e ++ num_tokens (codes "marked") report.tally.marked →
    g ≡ f ++ num_tokens (codes "odd") report.tally.odd →
    h ≡ g ++ num_tokens (codes "packets") report.packets →
    i ≡ h ++ num_tokens (codes "refused") report.tally.refused →
    j ≡ i ++ run_tokens report.run →
    k ≡ j ++ num_tokens (codes "skipped") skipped →
    l ≡ k ++ num_tokens (codes "written") report.written →
    l ++ end_object ∷ [] ≡ a ++ json_tokens (outline (watch_report_data leaf skipped report))
unfolding watch_report_data
joined leaf skipped report a b c d e f g h i j k l to_b to_c to_d to_e to_f to_g to_h to_i to_j to_k to_l =
    let ending = text_of_status (ending_status leaf report.ending) in
    let first = first_text report.tally.first in
    let more = later skipped report in
    rw (to_l, to_k, to_j, to_i, to_h, to_g, to_f, to_e, to_d, to_c, to_b)
    (rw (
      text_first (codes "ending") ending (text_member (codes "first") first more),
      text_first (codes "first") first more,
      run_first report.run (num_member (codes "skipped") skipped (num_member (codes "written") report.written
          no_members)),
    )
    (simp append_assoc))
