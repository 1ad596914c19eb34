use Rattle.std.proofs.Common.{◌≡◌, ◌∙◌, length, nat_lt}
use Rattle.std.specs.Prelude.{unwrap_or}
use Rattle.std.specs.List.{insert, position}
use Rattle.sd_head.proofs.Moving.{put_at_place}
use Rattle.sd_head.proofs.take.add.Goals as goal

pub unwrap-requires : goal.unwrap-requires
unwrap-requires c = c.insert.ensures.succeeds c.requires

pub returns-clause-value : goal.returns-clause-value
returns-clause-value c =
    let pids = c.args.pids.now.items in
    let place : c.unwrap_or-place.result ≡ unwrap_or (position (λ other. nat_lt c.args.pid other) pids) (length pids) =
    rw (c.first_above.ensures.value, c.deref.ensures.value, c.len.ensures, c.args.pids.now.ok.0)
    at c.unwrap_or-place.ensures in
    let put : c.insert.new.self.items ≡ insert pids c.unwrap_or-place.result c.args.pid =
    rw c.unwrap.ensures at c.insert.ensures.items in
    put ∙ put_at_place c.args.pid c.unwrap_or-place.result pids place
