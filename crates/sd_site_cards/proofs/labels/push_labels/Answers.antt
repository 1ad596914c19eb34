use Rattle.std.proofs.Common.{◌+◌, ◌/◌, ◌≡◌, ◌≤◌, ◌++◌, ◌∷◌, [], ◌<◌, ◌^◌, List, ℕ, sym, ap, ◌∙◌, arith}
use Rattle.std.proofs.lemmas.Grind.{common_steps}
use Rattle.sd_tree_keys.specs.Labels.{label_of, descended}
use Rattle.sd_tree_keys.specs.Paths.{path_node as path_node_of, sibling_of}
use Rattle.sd_tree_keys.proofs.Descents.{label_of_itself}
use Rattle.sd_tree_keys.proofs.Paths.{path_is_node}
use Rattle.sd_site_cards.proofs.MadeSecrets.{path_half, child_label, one_more, labels_given}
use Rattle.sd_site_cards.proofs.labels.push_labels.Goals.{then-below-levels, else-below-levels}
use Rattle.sd_site_cards.proofs.labels.push_labels.Goals as goal

half_of : (d u a k node parent : ℕ) → a + k + 1 ≤ d → parent ≡ path_node_of d u (a + k)
    → node ≡ path_node_of d u (a + k + 1) → node / 2 ≡ parent
half_of d u a k node parent le up down = rw (down, up) (path_half d u (a + k) le)

pub loop-below-init : goal.loop-below-init
loop-below-init g c =
    let start : c.args.depth + 0 ≡ c.args.depth = omega arith in
    record {
      parent = λ lt. rw start c.path_node-parent.ensures.value;
      label = λ lt. c.root_label-label.ensures
          ∙ (sym (label_of_itself c.args.master.now c.path_node-parent.result)
          ∙ ap (λ (i : ℕ). label_of c.args.master.now i c.path_node-parent.result) c.path_node-parent.ensures.value);
      given = grind (arith, common_steps);
    }

pub descend-requires-clause-node : goal.descend-requires-clause-node
descend-requires-clause-node g c =
    rw (c.loop-below.invariant.parent (omega (arith, c.requires.levels)))
    (path_is_node c.args.h c.args.u (c.args.depth + c.loop-below.below) c.requires.leaf
    (omega (arith, c.requires.levels)))

pub descend-label-requires-clause-node : goal.descend-label-requires-clause-node
descend-label-requires-clause-node g c =
    rw (c.loop-below.invariant.parent (omega (arith, c.requires.levels)))
    (path_is_node c.args.h c.args.u (c.args.depth + c.loop-below.below) c.requires.leaf
    (omega (arith, c.requires.levels)))

pub descend-requires-clause-above : goal.descend-requires-clause-above
descend-requires-clause-above g c = (
  1,
  c.sibling.ensures.parent
      ∙ half_of c.args.h c.args.u c.args.depth c.loop-below.below c.path_node-node.result c.loop-below.parent
      (omega (arith, c.requires.levels)) (c.loop-below.invariant.parent (omega (arith, c.requires.levels)))
      c.path_node-node.ensures.value,
)

pub descend-label-requires-clause-above : goal.descend-label-requires-clause-above
descend-label-requires-clause-above g c = (
  1,
  half_of c.args.h c.args.u c.args.depth c.loop-below.below c.path_node-node.result c.loop-below.parent
      (omega (arith, c.requires.levels)) (c.loop-below.invariant.parent (omega (arith, c.requires.levels)))
      c.path_node-node.ensures.value,
)

-- the label of a child of the node that the loop has come to
below_label : (master label : List ℕ) (d u a k parent node : ℕ) → u < 2 ^ d → a + k ≤ d → node < 2 ^ 32
    → parent ≡ path_node_of d u (a + k) → label ≡ label_of master (path_node_of d u a) parent → node / 2 ≡ parent
    → descended label parent node ≡ label_of master (path_node_of d u a) node
below_label master label d u a k parent node leaf le word up is half =
    rw is (rw up (child_label master d u a k node leaf le word (half ∙ up)))

pub loop-below-preserved : goal.loop-below-preserved
loop-below-preserved g c =
    let here : c.loop-below.below < c.args.levels = omega (arith, c.requires.levels) in
    let parent = c.loop-below.invariant.parent here in
    let label = c.loop-below.invariant.label here in
    let half : c.path_node-node.result / 2 ≡ c.loop-below.parent =
    half_of c.args.h c.args.u c.args.depth c.loop-below.below c.path_node-node.result c.loop-below.parent
    (omega (arith, c.requires.levels)) parent c.path_node-node.ensures.value in
    let aside : c.sibling.result / 2 ≡ c.loop-below.parent = c.sibling.ensures.parent ∙ half in
    let pushed = c.descend.ensures.value
    ∙ below_label c.args.master.now c.loop-below.label.0 c.args.h c.args.u c.args.depth c.loop-below.below
    c.loop-below.parent c.sibling.result c.requires.leaf (omega arith) c.sibling.type_inv parent label aside in
    let at : c.args.depth + 1 + c.loop-below.below ≡ c.args.depth + c.loop-below.below + 1 = omega arith in
    let next : c.args.depth + c.loop-below.below + 1 ≡ c.args.depth + (c.loop-below.below + 1) = omega arith in
    let more =
    one_more c.args.master.now c.args.h c.args.u c.args.depth c.loop-below.below
    (c.args.depth + c.loop-below.below + 1) c.args.secrets.now.items c.loop-below.secrets.items at
    c.loop-below.invariant.given in
    let which =
    ap (λ (w : ℕ). label_of c.args.master.now (path_node_of c.args.h c.args.u c.args.depth) w)
    (c.sibling.ensures.value ∙ ap (λ (v : ℕ). sibling_of v) c.path_node-node.ensures.value) in
    record {
      parent = λ lt. elim c.if-below-levels.branch [
        | then-below-levels w ↦ w.parent-is ∙ (rw next at c.path_node-node.ensures.value)
        | else-below-levels w ↦ absurd (omega (arith, lt, w.if-below-levels.false, c.requires.levels))
      ];
      label = λ lt. elim c.if-below-levels.branch [
        | then-below-levels w ↦ rw (w.parent-is, w.label-is) (w.descend-label.ensures.value
            ∙ below_label c.args.master.now c.loop-below.label.0 c.args.h c.args.u c.args.depth c.loop-below.below
            c.loop-below.parent c.path_node-node.result c.requires.leaf (omega arith) c.path_node-node.type_inv parent
            label half)
        | else-below-levels w ↦ absurd (omega (arith, lt, w.if-below-levels.false, c.requires.levels))
      ];
      given = c.in_ok-push.ensures.items
          ∙ (ap (λ (x : List ℕ). c.loop-below.secrets.items ++ x ∷ []) (pushed ∙ which) ∙ more);
    }

pub returns : goal.returns
returns g c =
    let all : c.loop-below.below ≡ c.args.levels = omega arith in
    let given = rw all at c.loop-below.invariant.given in
    let master = c.args.master.now in
    let more = labels_given master c.args.h c.args.u c.args.depth c.args.levels c.requires.levels in
    record { value = given ∙ ap (λ (xs : List (List ℕ)). c.args.secrets.now.items ++ xs) more }
