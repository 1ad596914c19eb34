use Rattle.std.proofs.Common.{◌≡◌, ◌-◌, ◌++◌, ◌∙◌, ◌∷◌, [], List, ℕ, map, take, length, ap, arith}
use Rattle.std.proofs.lemmas.List.{length-map}
use Rattle.sd_tree_keys.specs.Names.{names_of_receiver, pair_names_under}
use Rattle.sd_tree_keys.proofs.NameCounts.{length_given}
use Rattle.sd_site_cards.specs.Secrets.{secret_of}
use Rattle.sd_site_cards.proofs.MadeSecrets.{secrets_first, secrets_more}
use Rattle.sd_site_cards.proofs.Made.{all_given}
use Rattle.sd_site_cards.proofs.make.secrets.Goals as goal

pub returns : goal.returns
returns g c =
    let site = c.args.site.now in
    let all : c.loop-depth.depth ≡ site.height = omega (arith, c.get.ensures.value, c.from-levels.ensures) in
    let first = rw all at c.loop-depth.invariant in
    let value = first ∙ ap (map (secret_of site.master)) (all_given site.height c.args.u) in
    record {
      value = value;
      length = ap length value
          ∙ (length-map (names_of_receiver site.height c.args.u) (secret_of site.master)
          ∙ length_given site.height c.args.u);
      fits = (
        omega (arith, c.get.ensures.value, c.get.ensures.low),
        omega (arith, c.get.ensures.value, c.get.ensures.high),
      );
    }

pub loop-depth-init : goal.loop-depth-init
loop-depth-init g c =
    let height = c.args.site.now.height in
    c.in_ok-push.ensures.items
    ∙ (ap (λ (xs : List (List ℕ)). xs ++ c.whole_key.result ∷ []) c.in_ok-secrets.ensures.items
    ∙ (ap (λ (x : List ℕ). x ∷ []) c.whole_key.ensures
    ∙ secrets_first c.args.site.now.master (λ a. height - a) height c.args.u))

pub loop-depth-preserved : goal.loop-depth-preserved
loop-depth-preserved g c =
    let site = c.args.site.now in
    let k = c.loop-depth.depth in
    let levels : c.from-levels.result - k ≡ site.height - k =
    omega (arith, c.get.ensures.value, c.from-levels.ensures) in
    let added = rw levels at c.in_ok-push_labels.ensures.value in
    let more : List (List ℕ) =
    map (secret_of site.master) (take (site.height - k) (pair_names_under site.height c.args.u k)) in
    added
    ∙ (ap (λ (xs : List (List ℕ)). xs ++ more) c.loop-depth.invariant
    ∙ secrets_more site.master (λ a. site.height - a) site.height c.args.u k)
