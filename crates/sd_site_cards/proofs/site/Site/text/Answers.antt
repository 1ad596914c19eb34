use Rattle.sd_site_cards.specs.SiteFields.{site_fields_of}
use Rattle.sd_site_cards.proofs.SiteText.{line_by_line}
use Rattle.sd_site_cards.proofs.site.Site.text.Goals as goal

pub returns : goal.returns
returns c = line_by_line (site_fields_of c.args.self.now) c.args.book.now
    c.new-text.ensures.bytes
    (rw (c.from.ensures, c.get.ensures.value) at c.in_ok-push_number.ensures)
    c.in_ok-push_bytes.ensures
    (rw c.to_be_bytes.ensures at c.in_ok-push_bytes-2.ensures)
    (rw c.from-2.ensures at c.in_ok-push_number-2.ensures)
    (rw c.from-3.ensures at c.in_ok-push_number-3.ensures)
    c.in_ok-push_number-4.ensures
    c.in_ok-push_number-5.ensures
    c.in_ok-push_number-6.ensures
    (rw c.from-4.ensures at c.in_ok-push_number-7.ensures)
    c.in_ok-push_number-8.ensures
    c.in_ok-push_number-9.ensures
    c.in_ok-push_number-10.ensures
    c.in_ok-push_book.ensures
