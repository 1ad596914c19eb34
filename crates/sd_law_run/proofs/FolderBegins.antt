-- A folder with a first site alone.
use Rattle.std.proofs.Common.{arith, ◌≡◌, ℕ, ◌≤◌, ◌||◌, Bool, true, false, cond, []}
use Rattle.std.proofs.Common.{Option, Some, None, Result, Ok, Err, refl, ap}
use Rattle.std.specs.FinMap.{get}
use Rattle.std.specs.Result.{result_unwrap_or}
use Rattle.sha2.proofs.Facts256.{length-sha256}
use Rattle.sd_base.specs.Types.{Bytes, FileName}
use Rattle.sd_base.specs.Number.{decimal_value}
use Rattle.sd_ports.specs.Files.{Files}
use Rattle.sd_site_cards.specs.SiteFields.{SiteFields}
use Rattle.sd_site_cards.specs.Text.{◌>>=◌, site_of, book_line_of}
use Rattle.sd_site_cards.specs.Written.{is_first_site, are_lines_whole, site_of_chain}
use Rattle.sd_site_cards.specs.declared.book_line.BookLine.{BookLine}
use Rattle.sd_site_cards.specs.declared.site_fault.SiteFault.{SiteFault}
use Rattle.sd_site_cards.specs.declared.site_fault.SiteFault.TheVariants.{Short}
use Rattle.sd_site_cards.proofs.Alone.{said_is_site}
use Rattle.sd_site_cards.proofs.Short.{site_short}
use Rattle.sd_run_books.specs.SiteNames.{digits_in}
use Rattle.sd_run_books.specs.Chain.{line_of_book}
use Rattle.sd_law_formats.proofs.SayableSites.{said_sayable}
use Rattle.sd_law_chain.proofs.Within.{sha_below}
use Rattle.sd_law_run.specs.Folders.{HasName, IsFolder, site_name_at, last_number_in}

-- a file that is taken is that of the site
site_taken : (bytes : Bytes) (newest : SiteFields × Option BookLine) → site_of_chain is_first_site bytes ≡ Ok newest →
    site_of bytes ≡ Ok newest.0
unfolding site_of_chain
site_taken bytes newest e = by_said (site_of bytes) e
  where
    taken_so : (site : SiteFields) (taken : Bool) →
        cond {A = Result (SiteFields × Option BookLine) SiteFault} taken (Ok (site, book_line_of bytes)) (Err Short)
        ≡ Ok newest → site ≡ newest.0
    taken_so site true h =
        ap (λ (r : Result (SiteFields × Option BookLine) SiteFault). (result_unwrap_or r newest).0) h
    taken_so site false h = absurd cc

    by_said : (said : Result SiteFields SiteFault) →
        (said >>= λ site. cond (are_lines_whole 13 bytes || is_first_site bytes site) (Ok (site, book_line_of bytes))
        (Err Short))
        ≡ Ok newest → said ≡ Ok newest.0
    by_said (Err fault) h = absurd cc
    by_said (Ok site) h = ap Ok (taken_so site (are_lines_whole 13 bytes || is_first_site bytes site) h)

-- a first site with no site above it
pub folder_begins : (files : Files) (name : FileName) (bytes : Bytes) (site : SiteFields) →
    decimal_value (digits_in name) ≡ Some (last_number_in name) → HasName name 0 → get files name ≡ Some bytes →
    site_of_chain is_first_site bytes ≡ Ok (site, None) →
    ((i : ℕ) → 1 ≤ i → HasName name i → get files (site_name_at name i) ≡ None) →
    IsFolder files name (record { site = site; book = [] }) []
folder_begins files name bytes site numbered named there says none =
    let is = said_is_site bytes site (site_taken bytes (site, None) says) in
    record {
      is_chain = record {
        first = said_sayable bytes site (line_of_book []) is (omega arith) (length-sha256 [], sha_below []);
        taken = tt;
      };
      numbered = numbered;
      named = named;
      bytes = bytes;
      there = there;
      first = record {
        short = omega (arith, site_short bytes site is);
        line = None;
        says = says;
        book = refl;
      };
      made = λ i some low. absurd (omega (arith, some, low));
      next = λ low. none 1 (omega arith) low;
      free = λ i high low. none i (omega (arith, high)) low;
    }
