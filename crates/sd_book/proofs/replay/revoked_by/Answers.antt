use Rattle.std.proofs.Common.{◌≡◌, ◌∙◌, ◌^◌, List, ℕ, [], subst, sym}
use Rattle.std.specs.Prelude.{IfOk}
use Rattle.sd_book.proofs.Replays.{none_revoked}
use Rattle.sd_book.proofs.replay.revoked_by.Goals as goal

pub returns : goal.returns
returns c d within =
    let none = c.new-revoked.ensures.empty ∙ sym (none_revoked 0 (2 ^ d)) in
    subst (λ (keys : List ℕ). IfOk c.listed.result (λ leaves. leaves.items ≡ keys))
    (c.in_ok-take_all.ensures.value d [] none within) c.listed.ensures
