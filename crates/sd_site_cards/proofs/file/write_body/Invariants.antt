use Rattle.std.proofs.Common.{◌≡◌, take}
use Rattle.sd_site_cards.specs.Files.{AreSecrets, file_body}
use Rattle.sd_site_cards.proofs.file.write_body.Given as goal

abbrev pub invariant-loop-secret : goal.invariant-loop-secret
invariant-loop-secret l = record {
  bytes : l.bytes.items ≡ file_body l.head (take l.secret-index l.secrets);
  long : AreSecrets (take l.secret-index l.secrets);
}
