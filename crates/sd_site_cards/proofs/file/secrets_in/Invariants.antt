use Rattle.std.proofs.Common.{◌≡◌, ◌*◌, length, take}
use Rattle.std.specs.List.{concat}
use Rattle.sd_site_cards.specs.Files.{AreSecrets}
use Rattle.sd_site_cards.proofs.file.secrets_in.Given as goal

abbrev pub invariant-loop-n : goal.invariant-loop-n
invariant-loop-n l = record {
  count : length l.secrets.items ≡ l.n;
  bytes : concat l.secrets.items ≡ take (32 * l.n) l.inner;
  lengths : AreSecrets l.secrets.items;
}
