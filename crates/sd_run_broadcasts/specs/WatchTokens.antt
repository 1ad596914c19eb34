-- Inner: what is written of the name of a run, which may be left out.
use Rattle.std.specs.Prelude.{List, [], ◌∷◌, codes, decimal, Option, Some, None}
use Rattle.json.specs.Token.{Token, key, number}
use Rattle.sd_base.specs.Types.{RunName}

-- the name of a run, if it has one
abbrev pub run_tokens : Option RunName → List Token
run_tokens None = []
run_tokens (Some None) = []
run_tokens (Some (Some run)) = key (codes "run") ∷ number (decimal run) ∷ []
