use Rattle.sd_site_cards.proofs.Heads.{head_joined}
use Rattle.sd_site_cards.proofs.file.write_head.Goals as goal

pub returns : goal.returns
returns c = record {
  value = rw (
    c.in_ok-extend_from_slice-4.ensures.items,
    c.in_ok-extend_from_slice-3.ensures.items,
    c.in_ok-extend_from_slice-2.ensures.items,
    c.in_ok-extend_from_slice.ensures.items,
    c.new-bytes.ensures.items,
    c.four_bytes.ensures,
    c.get.ensures.value,
    c.two_bytes.ensures.value,
  ) (head_joined c.args.magic.now c.args.fields.now _ _);
  fits = c.two_bytes.ensures.fits;
}
