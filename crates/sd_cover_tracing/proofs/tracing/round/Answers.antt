use Rattle.std.proofs.Common.{ℕ, sym, ap, ◌∙◌, arith}
use Rattle.sd_cover_tracing.specs.Search.{right_from}
use Rattle.sd_cover_tracing.proofs.Rounds.{round_of, tells_round}
use Rattle.sd_cover_tracing.proofs.tracing.round.Goals as goal

pub find-requires-clause-names : goal.find-requires-clause-names
find-requires-clause-names g c = rw c.deref.ensures.value c.in_ok-sets.ensures.names

pub find-requires-clause-few : goal.find-requires-clause-few
find-requires-clause-few g c = rw c.deref.ensures.value c.in_ok-sets.ensures.few

pub find-requires-clause-marks : goal.find-requires-clause-marks
find-requires-clause-marks g c =
    c.deref-2.ensures.value
    ∙ (c.in_ok-marks.ensures ∙ ap (λ (n : ℕ). right_from n n) (c.len.ensures ∙ sym c.deref.ensures.len))

pub returns-clause-value : goal.returns-clause-value
returns-clause-value g c =
    round_of c.args.h c.args.gone.now c.in_ok-sets.sets.items _ _ c.find.result (omega arith) c.requires.leaves
    c.in_ok-sets.ensures (rw c.deref.ensures.value at c.find.ensures.value)

pub returns-clause-told : goal.returns-clause-told
returns-clause-told g c coalition told =
    tells_round c.args.h coalition c.args.gone.now c.in_ok-sets.sets.items c.find.result (omega arith) c.requires.leaves
    c.in_ok-sets.ensures (rw c.deref.ensures.value at (c.find.ensures.told coalition told))
