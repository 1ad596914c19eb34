use Rattle.std.proofs.Common.{◌≡◌, ◌+◌, ◌-◌, ◌*◌, ℕ, arith, refl, ap, ◌∙◌}
use Rattle.std.proofs.lemmas.Grind.{length_at_push}
use Rattle.sd_site_cards.proofs.Joined.{cut_more, long_more}
use Rattle.sd_site_cards.proofs.Written.{kept_of_inner}
use Rattle.sd_site_cards.proofs.file.secrets_in.Goals as goal

pub loop-n-preserved : goal.loop-n-preserved
loop-n-preserved c =
    let n : ℕ = c.loop-n.n in
    let secret = c.copy_from_slice.new.self in
    let width : 32 * n + 32 - 32 * n ≡ 32 = omega arith in
    let cut = rw width at c.copy_from_slice.ensures.after in
    rw c.in_ok-push.ensures.items (record {
      count = (length_at_push c.loop-n.secrets.items secret).1
          ∙ ap (λ (k : ℕ). k + 1) c.loop-n.invariant.count;
      bytes = cut_more c.loop-n.secrets.items secret _ n c.loop-n.invariant.bytes cut;
      lengths = long_more c.loop-n.secrets.items secret c.loop-n.invariant.lengths
          (omega (arith, c.copy_from_slice.ensures.len));
    })

pub returns : goal.returns
returns c = kept_of_inner c.args.bytes.now _ c.loop-n.secrets.items c.args.k c.requires refl
    (c.loop-n.invariant.count ∙ omega (arith, c.loop-n-test.false, c.loop-n.auto.n-end))
    (rw c.loop-n.invariant.count c.loop-n.invariant.bytes)
    c.loop-n.invariant.lengths
