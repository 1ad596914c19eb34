-- What a field lends of a leaf.
use Rattle.std.proofs.Common.{◌≡◌, ℕ, List}
use Rattle.std.specs.Prelude.{Some, slice_get}
use Rattle.sd_book.specs.Value.{BookValue}
use Rattle.sd_field.specs.Fields.{FieldValue, IsField, IsWrittenCut, written_of}
use Rattle.sd_field.specs.declared.seat.Seat.{Seat}
use Rattle.sd_field.specs.declared.station.Station.{Station}

-- all that the leaf's receivers wrote
pub written_here : (v : FieldValue) (book : BookValue) (station : Station) (seats : List Seat) (u : ℕ) (seat : Seat) →
    IsField v book station seats → slice_get seats u ≡ Some seat → ¬ IsWrittenCut u v →
    seat.written.held ≡ written_of u v
written_here v book station seats u seat field there whole = ((field.seated u seat there).seated whole).held
