-- Inner: the members of what is shown of a part of a control message, one after the other.
use Rattle.std.specs.Prelude.{ℕ, List, [], ◌∷◌, map, codes, Option, Some, None}
use Rattle.hex.specs.Hex.{encode_lower}
use Rattle.serde_json.specs.Data.{Data, boolean, string}
use Rattle.sd_message.specs.EcmSpelled.{listed_places as places_of}
use Rattle.sd_message.specs.declared.ecm_part.EcmPart.{EcmPart}
use Rattle.sd_run_streams.specs.TableLines.{num, list_data}
use Rattle.sd_run_streams.specs.MessageLines.{place_data}

-- those of each part [this project, docs/FORMATS.md, Messages printed]
unfoldable pub ecm_members : ℕ → ℕ → EcmPart → List (List ℕ × Data)
ecm_members packet pid part =
    (codes "check", string (encode_lower part.check))
    ∷ (codes "clear", num part.clear)
    ∷ (codes "closing", boolean part.closing)
    ∷ (codes "last", num part.last_part)
    ∷ (codes "number", num part.number)
    ∷ (codes "packet", num packet)
    ∷ (codes "part", num part.part)
    ∷ (codes "period", num part.period)
    ∷ (codes "pid", num pid)
    ∷ (codes "positions", list_data (map place_data (places_of part)))
    ∷ (codes "since", num part.since)
    ∷ (codes "table", string (codes "ecm"))
    ∷ (codes "version", num part.version)
    ∷ (codes "word", num part.word)
    ∷ []

-- the name of its run, where the message tells it
abbrev pub run_members : Option ℕ → List (List ℕ × Data)
run_members None = []
run_members (Some run) = (codes "run", num run) ∷ []
