-- Public meaning: the three versions of control messages, and the numbers in which they differ.
use Rattle.std.specs.Prelude.{◌≡◌, ℕ, ◌+◌, ◌-◌, ◌<◌, ◌⊎◌, ◌↔◌, ◌==◌, nat_lt, if◌then◌else◌, Option, IsSome}

-- the most positions of a message [this project, docs/FORMATS.md, Messages]
abbrev pub most_places : ℕ
most_places = 256

-- the most positions of a part of version 1, and of any part [this project, docs/FORMATS.md, Messages]
abbrev pub most_positions : ℕ
most_positions = 13

-- there are three [this project, docs/FORMATS.md, Messages]
abbrev pub IsVersion : ℕ → Type 0
IsVersion version = (version ≡ 1) ⊎ ((version ≡ 2) ⊎ (version ≡ 3))

-- version 3 alone names the broadcast [this project, docs/FORMATS.md, Messages]
abbrev pub IsNamed : ℕ → Option ℕ → Type 0
IsNamed version run = IsSome run ↔ (version ≡ 3)

-- how many positions a part has at most [this project, docs/FORMATS.md, Messages]
unfoldable pub positions_for : ℕ → ℕ
positions_for version = if version == 1 then most_positions else 12

-- where the flags stand in the body: in version 2 after `since`, in version 3 after the broadcast's name
-- [this project, docs/FORMATS.md, Messages]
unfoldable pub flags_at : ℕ → ℕ
flags_at version = if version == 3 then 24 else if version == 2 then 20 else 16

-- how many bytes of the body stand before its positions [this project, docs/FORMATS.md, Messages]
abbrev pub ecm_head_length : ℕ → ℕ
ecm_head_length version = flags_at version + 50

-- the table_id for a control word with an even number [this project, docs/FORMATS.md, Messages]
unfoldable pub even_table_id : ℕ → ℕ
even_table_id version = if version == 3 then 0x88 else if version == 2 then 0x84 else 0x80

-- the version whose table_id this is, if it is one of them
unfoldable pub version_for : ℕ → ℕ
version_for table_id = if nat_lt table_id 0x84 then 1 else if nat_lt table_id 0x88 then 2 else 3

-- each packet from message `since` up to this message has the control word of message `since`, which is below the
-- number, unless both are 0 [this project, docs/FORMATS.md, Messages]
abbrev pub IsBeforeMessage : ℕ → ℕ → Type 0
IsBeforeMessage since number = (since < number) ⊎ ((since ≡ 0) × (number ≡ 0))

-- version 1 doesn't write it: there it is the message before, or 0 for message 0 [this project, docs/FORMATS.md,
-- Messages]
pub record IsSince (version number since : ℕ) : Type 0 where
  pub before : IsBeforeMessage since number
  pub fixed : version ≡ 1 → since ≡ number - 1
