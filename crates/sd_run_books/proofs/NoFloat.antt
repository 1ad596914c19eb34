-- Nothing that is shown of a card is a float.
use Rattle.std.proofs.Common.{ℕ, ◌≡◌, false, List, refl}
use Rattle.serde_json.specs.Written.{has_float}
use Rattle.sd_run_books.specs.Show.{shown_data}

pub no_float : (height leaf ca : ℕ) (check master : List ℕ) →
    has_float (shown_data height leaf ca check master) ≡ false
unfolding shown_data
no_float height leaf ca check master = refl
