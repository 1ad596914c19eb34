use Rattle.sd_run_broadcasts.proofs.Telling.{first_told, next_told}
use Rattle.std.proofs.Common.{arith, refl, string_bytes, ap, ◌≡◌, ◌^◌, ◌∙◌}
use Rattle.sd_run_broadcasts.specs.Field.{lines_of_field}
use Rattle.sd_run_broadcasts.proofs.field_lines.lines.Goals as goal

pub loop-u-init : goal.loop-u-init
loop-u-init c = record {
  told = first_told c.args.field.now c.sends.result _ c.last_period.result c.sent.result.now
      (string_bytes c.in_ok-text.text) c.book.result.now.commands c.requires.calm c.sends.ensures.value
      c.sent.ensures.value refl c.last_period.ensures.value c.book.ensures.value.1 c.in_ok-text.ensures;
  known = c.in_ok-digest.ensures;
}

pub loop-u-preserved : goal.loop-u-preserved
loop-u-preserved c = record {
  told = next_told c.args.field.now c.loop-u.u _ _ c.written-wrote.result.now c.as_str.result.now
      c.loop-u.invariant.told
      c.written-wrote.ensures (c.as_str.ensures.value ∙ c.in_ok-digest-2.ensures) c.in_ok-push_line.ensures;
  known = c.in_ok-digest-2.ensures;
}

pub loop-u-smaller : goal.loop-u-smaller
loop-u-smaller c = let more = c.loop-u-test.true in omega (arith, more)

pub returns : goal.returns
returns c =
    let least = c.loop-u-test.false in
    let most = c.loop-u.auto.u-end in
    let leaves = c.leaves-u-end.ensures.value in
    let all : c.loop-u.u ≡ 2 ^ c.args.h = omega (arith, least, most, leaves) in
    c.loop-u.invariant.told ∙ ap (lines_of_field c.args.field.now) all
