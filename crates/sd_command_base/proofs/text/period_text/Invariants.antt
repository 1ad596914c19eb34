use Rattle.std.proofs.Common.{◌≡◌, ◌++◌, take, length, string_bytes}
use Rattle.std.specs.List.{flat_map}
use Rattle.sd_command_base.specs.Periods.{set_line, period_line}
use Rattle.sd_command_base.proofs.text.period_text.Given as goal

-- the text so far has the period's line and those of the sets so far
abbrev pub invariant-loop-name : goal.invariant-loop-name
invariant-loop-name g l =
    string_bytes l.text ≡ period_line l.fn.q l.fn.revoked (length l.sets)
    ++ flat_map (λ name. set_line (g.L.Listing.ends l.fn.listing l.fn.h name) name) (take l.name-index l.sets)
