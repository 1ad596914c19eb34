use Rattle.std.proofs.Common.{◌∙◌, inl, inr, refl, sym, rules, arith}
use Rattle.sd_engine.proofs.Feeding.{count_waits}
use Rattle.std.proofs.lemmas.Bool.{eqb-true}
use Rattle.std.proofs.lemmas.List.{nil_from_length}
use Rattle.sd_engine.proofs.Searching.{search_begins, search_filled}
use Rattle.sd_engine.proofs.Searching.{search_passes, search_stopped, search_too_long}
use Rattle.sd_engine.proofs.seeking.search.Goals as goal
use Rattle.sd_engine.proofs.seeking.search.Goals.{then-is_empty-via-then-is_empty}
use Rattle.sd_engine.proofs.seeking.search.Goals.{then-is_empty-via-else-is_empty+then-begins}

pub loop-ahead-init : goal.loop-ahead-init
loop-ahead-init g c = record {
  begun = c.requires.begun;
  within = c.requires.within;
  long = refl;
  so = search_begins _ _ _ _;
  read = refl;
  same = refl;
  written = refl;
}

pub returns-in_err-ahead-clause-fault : goal.returns-in_err-ahead-clause-fault
returns-in_err-ahead-clause-fault g c =
    let stop = search_stopped _ _ _ _ _ _ _ _ _ _ c.loop-ahead.invariant.so c.in_err-ahead.ensures.fault in
    search (rules, stop)

pub returns-then-is_empty-clause-value : goal.returns-then-is_empty-clause-value
returns-then-is_empty-clause-value g c = record {
  so = search_filled _ _ _ _ _ _ _ _ _ _ _ c.loop-ahead.invariant.so c.in_ok-ahead.ensures.value;
  first = (
    c.in_ok-ahead.ensures.value.enough,
    elim c.then-is_empty.branch [
      | then-is_empty-via-then-is_empty w ↦ inr (nil_from_length _ (eqb-true _ 0 (sym w.if-is_empty.ensures)))
      | then-is_empty-via-else-is_empty+then-begins w ↦ inl (sym w.begins.ensures ∙ w.if-begins.true)
    ],
  );
}

pub returns-then-passed-skipped-clause-fault : goal.returns-then-passed-skipped-clause-fault
returns-then-passed-skipped-clause-fault g c =
    search_too_long _ _ _ _ _ _ _ _ c.next_sync-passed.result
    (search_filled _ _ _ _ _ _ _ _ _ _ _ c.loop-ahead.invariant.so c.in_ok-ahead.ensures.value)
    c.in_ok-ahead.ensures.value.enough (sym c.begins.ensures ∙ c.if-begins.false) c.next_sync-passed.ensures
    (omega (arith, c.if-passed-skipped.true))

pub loop-ahead-preserved : goal.loop-ahead-preserved
loop-ahead-preserved g c = record {
  begun = omega (
    arith,
    c.in_ok-ahead.ensures.begun,
    c.behind-ahead.ensures.at,
    c.behind-ahead.ensures.filled,
    c.next_sync-passed.ensures.within,
    count_waits
        c.fill_ahead.new.piece c.in_ok-ahead.ahead.at c.in_ok-ahead.ahead.filled c.in_ok-ahead.ensures.within,
  );
  within = omega (arith, c.behind-ahead.ensures.filled, c.in_ok-ahead.ensures.within);
  long = c.fill_ahead.ensures.length ∙ c.loop-ahead.invariant.long;
  so = search_passes _ _ _ _ _ _ _ _ _ _ _ _ _ _
      (search_filled _ _ _ _ _ _ _ _ _ _ _ c.loop-ahead.invariant.so c.in_ok-ahead.ensures.value)
      c.in_ok-ahead.ensures.value.enough (sym c.begins.ensures ∙ c.if-begins.false) c.next_sync-passed.ensures
      (omega (arith, c.if-passed-skipped.false)) c.in_ok-ahead.ensures.within c.behind-ahead.ensures.at
      c.behind-ahead.ensures.filled c.behind-ahead.ensures.ended;
  read = c.in_ok-ahead.ensures.cause.calm (search rules) ∙ c.loop-ahead.invariant.read;
  same = c.fill_ahead.ensures.same ∙ c.loop-ahead.invariant.same;
  written = c.in_ok-ahead.ensures.written.calm (search rules) ∙ c.loop-ahead.invariant.written;
}
