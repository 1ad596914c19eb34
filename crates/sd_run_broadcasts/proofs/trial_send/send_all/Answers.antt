use Rattle.std.proofs.Common.{sym, ap, subst, ◌∙◌, []}
use Rattle.sd_spec.specs.Plan.{Plan}
use Rattle.sd_head.specs.Kept.{plan_of}
use Rattle.sd_head.specs.Staged.{IsHeadEndAfter}
use Rattle.sd_ports.specs.Memory.{Store}
use Rattle.sd_run_broadcasts.proofs.Sending.{all_sent}
use Rattle.sd_run_broadcasts.proofs.trial_send.send_all.Goals as goal

pub new-requires : goal.new-requires
new-requires g c = c.requires

-- the head end that was made keeps to its own plan
pub send-requires : goal.send-requires
send-requires g c =
    let made = c.in_ok-head.ensures.value in
    subst (λ (plan : Plan). IsHeadEndAfter plan [] c.in_ok-head.head) (sym made.keeps_to) made

pub returns : goal.returns
returns g c =
    rw c.into_bytes.ensures
    (all_sent _ (plan_of c.args.site c.args.book) c.args.clear.now _ _ _ c.settled-status.result _
    c.in_ok-head.ensures.value.keeps_to c.new-source.ensures (ap (λ (s : Store). s.held) c.in_ok-sink.ensures)
    c.settled-status.ensures (sym c.wants_memory.ensures ∙ c.if-wants_memory.false) c.send.ensures.value)
