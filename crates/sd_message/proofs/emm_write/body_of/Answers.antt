use Rattle.std.proofs.Common.{◌∙◌, arith}
use Rattle.sd_message.proofs.Items.{none_put}
use Rattle.sd_message.specs.EmmSpelled.{entry_bytes}
use Rattle.sd_message.proofs.EmmAgain.{few_head}
use Rattle.sd_message.proofs.EmmSpelling.{none_wrapped}
use Rattle.sd_message.proofs.emm_write.body_of.Goals as goal

pub loop-k-init : goal.loop-k-init
loop-k-init c = record {
  value = c.head_of-body.ensures.value ∙ none_put entry_bytes _ c.args.emm.now.entries;
  wrapped = none_wrapped c.args.emm.now.entries;
  length = omega (arith, c.head_of-body.ensures.length);
  few = few_head c.args.emm.now.run;
}
