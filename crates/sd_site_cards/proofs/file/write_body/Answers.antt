use Rattle.std.proofs.Common.{◌∙◌, ◌++◌, [], get_or, take, List, ℕ, ap, sym, subst}
use Rattle.std.proofs.lemmas.Grind.{take_at_read}
use Rattle.std.proofs.lemmas.List.{take_all}
use Rattle.sd_site_cards.specs.Files.{AreSecrets, file_body}
use Rattle.sd_site_cards.proofs.Joined.{long_more}
use Rattle.sd_site_cards.proofs.Written.{body_of_none, body_more}
use Rattle.sd_site_cards.proofs.file.write_body.Goals as goal

pub loop-secret-init : goal.loop-secret-init
loop-secret-init c = record {
  bytes = (rw c.in_ok-bytes.ensures.items at c.in_ok-extend_from_slice.ensures.items)
      ∙ sym (body_of_none c.args.head.now);
  long = tt;
}

pub loop-secret-preserved : goal.loop-secret-preserved
loop-secret-preserved c =
    let head = c.args.head.now in
    let secrets : List (List ℕ) = c.args.secrets.now in
    let k : ℕ = c.loop-secret.secret-index in
    let more = (take_at_read secrets k [] c.loop-secret-test.true).1 in
    record {
      bytes =
          c.in_ok-put.ensures.value
          ∙ (ap (λ (b : List ℕ). b ++ get_or secrets k []) c.loop-secret.invariant.bytes
          ∙ (body_more head (take k secrets) (get_or secrets k [])
          ∙ ap (file_body head) (sym more)));
      long = subst AreSecrets (sym more)
          (long_more (take k secrets) (get_or secrets k []) c.loop-secret.invariant.long c.put.ensures.length);
    }

pub returns : goal.returns
returns c =
    let all = take_all c.loop-secret.secret-index c.args.secrets.now c.loop-secret-test.false in
    record {
      value = rw all at c.loop-secret.invariant.bytes;
      fits = rw all at c.loop-secret.invariant.long;
    }
