use Rattle.std.proofs.Common.{rules, ◌≡◌, ◌≤◌, ◌++◌, ◌∙◌, ◌∷◌, [], List, ℕ, map, length, ap, arith}
use Rattle.std.proofs.lemmas.List.{length-map}
use Rattle.sd_site_cards.specs.Secrets.{secret_of}
use Rattle.sd_site_cards.proofs.MadeSecrets.{secrets_first, secrets_more}
use Rattle.sd_lsd.specs.LayerNames.{layer_given, pairs_under}
use Rattle.sd_lsd.proofs.Given.{useful_under, length_layer_given}
use Rattle.sd_lsd.proofs.Made.{secrets_all}
use Rattle.sd_lsd.proofs.make.secrets.Goals as goal

pub returns : goal.returns
returns g c =
    let site = c.args.site.now in
    let low : site.height ≤ 20 = omega (arith, c.get.ensures.value, c.get.ensures.high) in
    let all : c.loop-depth.depth ≡ site.height = omega (arith, c.get.ensures.value, c.from-depth-end.ensures) in
    let first = rw all at c.loop-depth.invariant in
    let value = first ∙ secrets_all site.master site.height c.args.w c.args.u low c.requires.leaf in
    record {
      value = value;
      length = ap length value
          ∙ (length-map (layer_given site.height c.args.w c.args.u) (secret_of site.master)
          ∙ length_layer_given site.height c.args.w c.args.u low c.requires.leaf);
      fits = (
        omega (arith, c.get.ensures.value, c.get.ensures.low),
        omega (arith, c.get.ensures.value, c.get.ensures.high),
      );
      some = search rules;
    }

pub loop-depth-init : goal.loop-depth-init
loop-depth-init g c =
    c.in_ok-push.ensures.items
    ∙ (ap (λ (xs : List (List ℕ)). xs ++ c.whole_key.result ∷ []) c.in_ok-secrets.ensures.items
    ∙ (ap (λ (x : List ℕ). x ∷ []) c.whole_key.ensures
    ∙ secrets_first c.args.site.now.master (pairs_under c.args.site.now.height c.args.w) c.args.site.now.height
    c.args.u))

pub loop-depth-preserved : goal.loop-depth-preserved
loop-depth-preserved g c =
    let site = c.args.site.now in
    let k = c.loop-depth.depth in
    let added = rw c.pairs_under-levels.ensures.value at c.in_ok-push_labels.ensures.value in
    added
    ∙ (ap (λ (xs : List (List ℕ)). xs ++ map (secret_of site.master) (useful_under site.height c.args.w c.args.u k))
    c.loop-depth.invariant
    ∙ secrets_more site.master (pairs_under site.height c.args.w) site.height c.args.u k)
