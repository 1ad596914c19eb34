use Rattle.std.proofs.Common.{refl}
use Rattle.sd_command_line.specs.Pages.{overview}
use Rattle.sd_command_line.proofs.page.overview.Goals as goal

pub returns : goal.returns
unfolding overview
returns c = rw (
  c.in_ok-push_str-2.ensures.bytes,
  c.in_ok-push_str.ensures.bytes,
  c.in_ok-push_topics.ensures,
  c.in_ok-text.ensures.ok,
) refl
