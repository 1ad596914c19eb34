use Rattle.std.proofs.Common.{◌≡◌, map}
use Rattle.sd_site_cards.specs.Secrets.{secret_of}
use Rattle.sd_lsd.proofs.Given.{layer_first}
use Rattle.sd_lsd.proofs.make.secrets.Given as goal

abbrev pub invariant-loop-depth : goal.invariant-loop-depth
invariant-loop-depth g l = l.secrets.items ≡ map (secret_of l.site.master) (layer_first l.site.height l.w l.u l.depth)
