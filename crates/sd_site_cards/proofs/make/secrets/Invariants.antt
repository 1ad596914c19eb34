use Rattle.std.proofs.Common.{◌≡◌, ◌-◌, map}
use Rattle.sd_site_cards.specs.Secrets.{secret_of}
use Rattle.sd_site_cards.proofs.MadeSecrets.{names_first}
use Rattle.sd_site_cards.proofs.make.secrets.Given as goal

-- all pairs of the ancestors that the loop has come by
abbrev pub invariant-loop-depth : goal.invariant-loop-depth
invariant-loop-depth g l =
    l.secrets.items ≡ map (secret_of l.site.master) (names_first (λ a. l.site.height - a) l.site.height l.u l.depth)
