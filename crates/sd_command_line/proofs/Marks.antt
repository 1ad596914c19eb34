-- Which text is the name of the mark of a site.
use Rattle.std.proofs.Common.{◌≡◌, ◌≢◌, ◌∙◌, ◌++◌, Bool, false, ℕ, List, codes, bytes_eq, rules, sym, ap}
use Rattle.std.specs.Bool.{Decides}
use Rattle.std.proofs.lemmas.Slice.Eq.{bytes_eq-Decides}
use Rattle.std.proofs.lemmas.List.{append_cancel_left}
use Rattle.sd_command_base.specs.Made.{used_name}

tested : (xs ys : List ℕ) (r : Bool) → Decides r (xs ≡ ys) → r ≡ bytes_eq xs ys
tested xs ys r h = search (rules, bytes_eq-Decides)

-- a text that begins with the site's name and then goes on so
pub goes_on : (name site rest : List ℕ) (r : Bool) → name ≡ site ++ rest → Decides r (rest ≡ codes ".used") →
    r ≡ bytes_eq name (used_name site)
goes_on name site rest r is h =
    tested name (used_name site) r (
      (λ yes. is ∙ ap (λ (xs : List ℕ). site ++ xs) (h.0 yes)),
      (λ same. h.1 (append_cancel_left site rest (codes ".used") (sym is ∙ same))),
    )

-- a text that begins otherwise
pub begins_otherwise : (name site : List ℕ) → ((rest : List ℕ) → name ≢ site ++ rest) →
    false ≡ bytes_eq name (used_name site)
begins_otherwise name site other =
    tested name (used_name site) false ((λ no. absurd (cc)), (λ same. absurd (other (codes ".used") same)))
