-- Public meaning: a line of a file that is refused: the first rule that it breaks, and its text as far as it is shown
-- [this project, docs/FORMATS.md, Explanations].
use Rattle.std.specs.Prelude.{ℕ, ◌-◌, ◌^◌, ◌==◌, ◌&&◌, ◌||◌, Bool, false, not, nat_lt, nat_le, List, [], ◌∷◌, ◌++◌}
use Rattle.std.specs.Prelude.{length, take, get_or, replicate, bytes_eq, if◌then◌else◌, Option, Some, None}
use Rattle.std.specs.List.{list_all, list_any}
use Rattle.sd_base.specs.Lines.{lines_of}
use Rattle.sd_base.specs.Number.{decimal_value}
use Rattle.sd_site_cards.specs.declared.site_fault.SiteFault.{SiteFault}
use Rattle.sd_site_cards.specs.declared.site_fault.SiteFault.TheVariants as site
use Rattle.sd_command_base.specs.declared.bad_line.Excerpt.{Excerpt}
use Rattle.sd_command_base.specs.declared.bad_line.LineCause.{LineCause}
use Rattle.sd_command_base.specs.declared.bad_line.LineCause.TheVariants.{ByteOrderMark, NotText, Long, Empty, Return}
use Rattle.sd_command_base.specs.declared.bad_line.LineCause.TheVariants.{Comment, Tab, Space, Capital, Form, Leaf}
use Rattle.sd_command_base.specs.declared.bad_line.LineCause.TheVariants.{Descends}
use Rattle.sd_command_base.specs.declared.bad_line.BadLine.{BadLine}

-- the most bytes of a line that are shown
abbrev pub most_shown : ℕ
most_shown = 48

-- the most bytes of a line of a site that are shown: no secret of a site is so short
abbrev pub most_site_shown : ℕ
most_site_shown = 24

-- printable ASCII, a tab or a carriage return
abbrev pub is_text_byte : ℕ → Bool
is_text_byte byte = (nat_le 0x20 byte && nat_le byte 0x7e) || (byte == 9 || byte == 13)

abbrev pub is_text : List ℕ → Bool
is_text line = list_all is_text_byte line

-- an empty line, and one that isn't shown
abbrev pub no_excerpt : Excerpt
no_excerpt = record { bytes = replicate 48 0; length = 0 }

-- the line, if it is a text of at most so many bytes
unfoldable pub excerpt_of : ℕ → List ℕ → Excerpt
excerpt_of most line =
    if nat_le (length line) most && is_text line
    then record { bytes = line ++ replicate (48 - length line) 0; length = length line } else no_excerpt

-- the line of this number, counted from 1; an empty one if there is none
unfoldable pub line_numbered : ℕ → List ℕ → List ℕ
line_numbered k bytes = get_or (lines_of bytes) (k - 1) []

-- two spaces stand side by side
abbrev pub has_double_space : List ℕ → Bool
has_double_space [] = false
has_double_space (byte ∷ bytes) = ((byte == 32) && (get_or bytes 0 0 == 32)) || has_double_space bytes

-- the last byte of a line that has one
abbrev pub last_byte : List ℕ → ℕ
last_byte line = get_or line (length line - 1) 0

-- it begins or ends with a space, or two stand side by side
unfoldable pub has_stray_space : List ℕ → Bool
has_stray_space line = (get_or line 0 0 == 32) || ((last_byte line == 32) || has_double_space line)

-- A to Z
abbrev pub is_capital : ℕ → Bool
is_capital byte = nat_le 0x41 byte && nat_le byte 0x5a

-- the first rule of the bytes within a line that this line breaks
unfoldable pub spelling_of : List ℕ → LineCause
spelling_of line =
    if list_any (λ byte. byte == 9) line then Tab
    else if has_stray_space line then Space
    else if list_any is_capital line then Capital
    else Form

-- the first rule of the layout of lines that this line breaks [this project, docs/FORMATS.md, Text files]
unfoldable pub layout_of : List ℕ → LineCause
layout_of line =
    if bytes_eq (take 3 line) (0xef ∷ 0xbb ∷ 0xbf ∷ []) then ByteOrderMark
    else if not (is_text line) then NotText
    else if nat_lt most_shown (length line) then Long
    else if length line == 0 then Empty
    else if last_byte line == 13 then Return
    else if get_or line 0 0 == 35 then Comment
    else spelling_of line

-- the line of this number of a file's bytes, which breaks this rule
unfoldable pub bad_line : LineCause → ℕ → List ℕ → BadLine
bad_line cause k bytes =
    record { number = k; cause = cause; text = excerpt_of most_shown (line_numbered k bytes) }

-- the line of this number, which is none of the lines that such a file has
unfoldable pub malformed : ℕ → List ℕ → BadLine
malformed k bytes = bad_line (layout_of (line_numbered k bytes)) k bytes

-- the rule that a line of a file of leaves breaks, for a tree of height d [this project, docs/FORMATS.md, Leaves]
abbrev pub number_cause : ℕ → List ℕ → Option ℕ → LineCause
number_cause d line None = layout_of line
number_cause d line (Some u) = if nat_lt u (2 ^ d) then Descends else Leaf d

unfoldable pub leaf_cause : ℕ → List ℕ → LineCause
leaf_cause d line = number_cause d line (decimal_value line)

unfoldable pub bad_leaf : ℕ → ℕ → List ℕ → BadLine
bad_leaf d k bytes = bad_line (leaf_cause d (line_numbered k bytes)) k bytes

-- the line that the fault of a site names, if it may be shown
unfoldable pub site_excerpt : SiteFault → List ℕ → Excerpt
site_excerpt (site.Line k) bytes = excerpt_of most_site_shown (line_numbered k bytes)
site_excerpt (site.Range k) bytes = excerpt_of most_site_shown (line_numbered k bytes)
site_excerpt (site.Extra k) bytes = excerpt_of most_site_shown (line_numbered k bytes)
site_excerpt site.SamePid bytes = no_excerpt
site_excerpt site.Short bytes = no_excerpt
