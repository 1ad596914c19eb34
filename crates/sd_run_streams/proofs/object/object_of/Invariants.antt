use Rattle.std.proofs.Common.{◌≡◌}
use Rattle.serde_json.specs.Data.{no_members}
use Rattle.serde_json.specs.View.{members_view}
use Rattle.sd_run_streams.specs.TableMembers.{named_data, members_with_entries}
use Rattle.sd_run_streams.proofs.object.object_of.Given as goal

abbrev pub invariant-loop-key : goal.invariant-loop-key
invariant-loop-key l = members_with_entries (named_data l.key-iterator.rest.items) (members_view l.object.entries)
    ≡ members_with_entries (named_data l.fn.members.items) no_members
