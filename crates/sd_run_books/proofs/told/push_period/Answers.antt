use Rattle.std.proofs.Common.{◌^◌, ap, string_bytes, length}
use Rattle.sd_site_cards.specs.SiteFields.{site_fields_of}
use Rattle.sd_book.specs.Commands.{is_revoked}
use Rattle.sd_run_books.specs.Told.{change_text}
use Rattle.sd_run_books.proofs.ToldPeriods.{told_more}
use Rattle.sd_run_books.proofs.told.push_period.Goals as goal

pub returns : goal.returns
unfolding change_text
returns c was is before now =
    told_more (site_fields_of c.args.site.now) c.args.turn was is (length c.args.now.now) (string_bytes c.args.text.now)
    (string_bytes c.push_head.new.text) (string_bytes c.push_changes.new.text) c.push_changes.result
    (ap length now) c.in_ok-push_head.ensures
    (c.push_changes.ensures (is_revoked was) (is_revoked is) (2 ^ c.args.site.now.height) before now)
