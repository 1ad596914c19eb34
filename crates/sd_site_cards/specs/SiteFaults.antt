-- Public meaning: when each fault of a site file comes.
use Rattle.std.specs.Prelude.{◌≡◌, ℕ, ◌+◌, ◌<◌, ◌≤◌, List, length, slice_get, Some}
use Rattle.sd_base.specs.Number.{decimal_after}
use Rattle.sd_site_cards.specs.Forms.{Form, number, bytes, book, forms, IsWithin, bytes_after, book_after, number_on}
use Rattle.sd_site_cards.specs.Forms.{emm_line, ecm_line, most_book_size}
use Rattle.sd_site_cards.specs.declared.book_line.BookLine.{BookLine}
use Rattle.sd_site_cards.specs.declared.site_fault.SiteFault.{SiteFault}
use Rattle.sd_site_cards.specs.declared.site_fault.SiteFault.TheVariants.{Line, Range, SamePid, Extra, Short}

-- the line is in its form
abbrev pub IsInForm : Form → List ℕ → Type 0
IsInForm (number form) line = (n : ℕ) × (decimal_after form.word line ≡ Some n)
IsInForm (bytes form) line = (value : List ℕ) × (bytes_after form.word form.count line ≡ Some value)
IsInForm book line = (said : BookLine) × (book_after line ≡ Some said)

-- the line is in its form, and its number is in its range
abbrev pub IsGood : Form → List ℕ → Type 0
IsGood (number form) line = (n : ℕ) × (decimal_after form.word line ≡ Some n) × IsWithin form n
IsGood (bytes form) line = IsInForm (bytes form) line
IsGood book line = (said : BookLine) × (book_after line ≡ Some said) × (said.size ≤ most_book_size)

-- the line is not in its form
abbrev pub IsMalformed : Form → List ℕ → Type 0
IsMalformed form line = IsInForm form line → ⊥

-- the line is in its form, and its number is out of range
abbrev pub IsOutOfRange : Form → List ℕ → Type 0
IsOutOfRange form line = IsInForm form line × (IsGood form line → ⊥)

-- after the first n lines another of the thirteen is there, and it is so
abbrev pub NextIs : (Form → List ℕ → Type 0) → ℕ → List (List ℕ) → Type 0
NextIs IsSo n lines =
    (form : Form) × (line : List ℕ)
    × (slice_get forms n ≡ Some form) × (slice_get lines n ≡ Some line) × IsSo form line

-- the first n lines are there and good
abbrev pub AreGoodSiteLines : ℕ → List (List ℕ) → Type 0
AreGoodSiteLines n lines = (i : ℕ) → i < n → NextIs IsGood i lines

-- lines 4 and 5 name the same PID
abbrev pub NameOnePid : List (List ℕ) → Type 0
NameOnePid lines = number_on emm_line (slice_get lines 3) ≡ number_on ecm_line (slice_get lines 4)

-- The fault that these lines have. Lines are counted from 1 [this project, docs/FORMATS.md, Site]
abbrev pub IsSiteFaultOf : List (List ℕ) → SiteFault → Type 0
-- after good lines stands one that is not in its form
IsSiteFaultOf lines (Line k) = (n : ℕ) × (k ≡ n + 1) × AreGoodSiteLines n lines × NextIs IsMalformed n lines
-- after good lines stands one whose number is out of range
IsSiteFaultOf lines (Range k) = (n : ℕ) × (k ≡ n + 1) × AreGoodSiteLines n lines × NextIs IsOutOfRange n lines
-- the lines are eight to thirteen good ones, and the PIDs are equal
IsSiteFaultOf lines SamePid = (8 ≤ length lines) × AreGoodSiteLines (length lines) lines × NameOnePid lines
-- after thirteen good lines stands another
IsSiteFaultOf lines (Extra k) = (k ≡ 14) × (13 < length lines) × AreGoodSiteLines 13 lines
-- the lines are good, and fewer than eight
IsSiteFaultOf lines Short = (length lines < 8) × AreGoodSiteLines (length lines) lines
