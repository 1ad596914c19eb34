-- Inner: a part of a control message that comes again.
use Rattle.std.specs.Prelude.{◌&&◌, Bool, nat_le, List}
use Rattle.std.specs.List.{list_any, list_all}
use Rattle.sd_message.specs.EcmSpelled.{listed_places}
use Rattle.sd_message.specs.declared.ecm_part.EcmPart.{EcmPart}
use Rattle.sd_message.specs.declared.ecm_part.Place.{Place}
use Rattle.sd_spec.specs.Counting.{is_equal_place}

-- the part isn't behind another one, and each of its positions is among these
abbrev pub has_all_of : EcmPart → EcmPart → List Place → Bool
has_all_of part last all = nat_le part.part last.part
    && list_all (λ place. list_any (is_equal_place place) all) (listed_places part)
