-- Public meaning: `show CARD` [this project, docs/FORMATS.md, Card].
use Rattle.std.specs.Prelude.{ℕ, ◌+◌, ◌*◌, ◌/◌, List, [], ◌∷◌, ◌++◌, codes, Option, Result}
use Rattle.hex.specs.Hex.{encode_lower}
use Rattle.serde_json.specs.Data.{Data, number, unsigned, string, object, member, no_members}
use Rattle.serde_json.specs.Written.{compact_text}
use Rattle.sd_site_cards.specs.CardFaults.{height_in, card_leaf, ca_in, fault_in}
use Rattle.sd_site_cards.specs.Files.{check_in}
use Rattle.sd_command_base.specs.declared.status.Status.{Status}
use Rattle.sd_command_base.specs.declared.status.LimitKind.TheVariants.{CardBytes}
use Rattle.sd_command_base.specs.Spec.{Spec, FileArgument, Readings, within, of_result, value, ◌>>=◌}
use Rattle.sd_command_base.specs.Work.{Work, work_of_text}
use Rattle.sd_command_base.specs.Files.{card_unless, most_card_bytes}
use Rattle.sd_run_books.specs.Fingerprint.{fingerprint_in}

-- the number of labels in a card at height d, the key of the whole set not among them [Naor, Naor, Lotspiech 2001, 3.2]
abbrev pub labels_for : ℕ → ℕ
labels_for d = d * (d + 1) / 2

-- What is shown of a card: the height, the leaf, the conditional access system, the check at the end of its file and
-- the
-- fingerprint of its master. No key and no label is among them [this project, docs/FORMATS.md, Card].
unfoldable pub shown_data : ℕ → ℕ → ℕ → List ℕ → List ℕ → Data
shown_data height leaf ca check master = object
    (member (codes "card") (string (codes "plain"))
    (member (codes "check") (string (encode_lower check))
    (member (codes "height") (number (unsigned height))
    (member (codes "labels") (number (unsigned (labels_for height)))
    (member (codes "leaf") (number (unsigned leaf))
    (member (codes "master") (string (encode_lower master))
    (member (codes "system") (number (unsigned ca))
    no_members)))))))

-- its line: compact JSON with the keys in ascending order, and a line feed
unfoldable pub shown_line : ℕ → ℕ → ℕ → List ℕ → List ℕ → List ℕ
shown_line height leaf ca check master = compact_text (shown_data height leaf ca check master) ++ 10 ∷ []

-- the line of a card's file [this project, docs/FORMATS.md, Card]
abbrev pub shown_card_line : List ℕ → List ℕ
shown_card_line bytes =
    shown_line (height_in bytes) (card_leaf bytes) (ca_in bytes) (check_in bytes) (fingerprint_in bytes)

-- the line of the card that the bytes of this word's file are
unfoldable pub told_show : ℕ → List ℕ → Result (List ℕ) Status
told_show word bytes = card_unless word (fault_in bytes) (shown_card_line bytes)

-- the line of what the file of this word gave
unfoldable pub line_of_file : ℕ → Option (List ℕ) → Spec (List ℕ)
line_of_file word got = within word most_card_bytes CardBytes got >>= λ bytes. of_result (told_show word bytes)

-- the work that the card's file says
abbrev pub show_meaning : FileArgument → Readings → Spec Work
show_meaning card given = line_of_file card.number (given card) >>= λ line. value (work_of_text line)
