use Rattle.std.proofs.Common.{ℕ, ◌-◌, ◌≤◌, length, sym, subst, ◌∙◌, refl, arith}
use Rattle.sd_psi.proofs.Listing.{streams_on, streams_bad, streams_short, no_streams, left_long, past_head, ends_within}
use Rattle.sd_psi.proofs.Listing.{fewer_left, stream_head}
use Rattle.sd_psi.proofs.pmt.are_streams.Goals as goal

pub returns-in_default : goal.returns-in_default
returns-in_default c =
    sym (c.loop-at.invariant.1
    ∙ streams_short c.args.bytes.now c.loop-at.at c.loop-at-test.true (c.in_default.ensures.none refl))

pub slice_bounds-fill-count : goal.slice_bounds-fill-count
slice_bounds-fill-count c = past_head _ c.loop-at.at c.in-Some.size c.in-Some.ensures.value

pub slice_bounds-fill-start : goal.slice_bounds-fill-start
slice_bounds-fill-start c = grind (arith, stream_head)

pub returns-then-not-fill : goal.returns-then-not-fill
returns-then-not-fill c =
    sym (c.loop-at.invariant.1
    ∙ streams_bad c.args.bytes.now c.loop-at.at c.in-Some.size c.loop-at-test.true c.in-Some.ensures.value
    (subst (λ (n : ℕ). c.in-Some.size ≤ n) (left_long c.args.bytes.now c.loop-at.at) c.in-Some.ensures.fits)
    (sym c.fill.ensures ∙ c.if-not-fill.true))

pub loop-at-smaller : goal.loop-at-smaller
loop-at-smaller c = fewer_left _ c.loop-at.at c.in-Some.size _ c.loop-at-test.true c.in-Some.ensures.value

pub loop-at-preserved : goal.loop-at-preserved
loop-at-preserved c =
    let there : c.in-Some.size ≤ length c.args.bytes.now - c.loop-at.at =
    subst (λ (n : ℕ). c.in-Some.size ≤ n) (left_long c.args.bytes.now c.loop-at.at) c.in-Some.ensures.fits in (
      ends_within c.loop-at.at c.in-Some.size _ c.loop-at-test.true there,
      c.loop-at.invariant.1
          ∙ streams_on c.args.bytes.now c.loop-at.at c.in-Some.size c.loop-at-test.true c.in-Some.ensures.value there
          (sym c.fill.ensures ∙ c.if-not-fill.false),
    )

pub returns : goal.returns
returns c = sym (c.loop-at.invariant.1 ∙ no_streams c.args.bytes.now c.loop-at.at c.loop-at-test.false)
