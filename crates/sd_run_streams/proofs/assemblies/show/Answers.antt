use Rattle.std.proofs.Common.{ℕ, List, ◌≡◌, ◌∷◌, ◌++◌, refl, ap, ◌∙◌, string_bytes}
use Rattle.sd_section.specs.Assembled.{Assembling, one_lent}
use Rattle.sd_run_streams.proofs.Showing.{lines_more, learned_more, all_learned, first_is}
use Rattle.sd_run_streams.proofs.assemblies.show.Goals as goal

pub loop-section-preserved : goal.loop-section-preserved
loop-section-preserved c =
    let l = c.loop-section in
    let now = c.next.follows.lender-at-none in
    let lent : now ≡ one_lent l.assembler = c.next.follows.holds-at-none in
    let is : l.assembler.waiting ≡ c.in-Some.section.now ∷ now.waiting =
    first_is l.assembler.waiting now.waiting c.in-Some.section.now c.in-Some.ensures.value
    (ap (λ (a : Assembling). a.waiting) lent) in
    record {
      lines = lines_more c.args.number c.args.pid _ _ _ c.in-Some.section.now l.assembler.waiting now.waiting is
          (c.in_ok-push_line.ensures.value ∙ ap (λ (line : List ℕ). string_bytes l.text ++ line)
          (c.table_on-table.ensures.lines c.args.number)) l.invariant.lines;
      learned = learned_more c.args.pid c.args.assembler.now.waiting l.assembler.waiting now.waiting
          c.in-Some.section.now _ _ _ is
          (c.learn.ensures c.args.pid c.in-Some.section.now c.table_on-table.ensures.value) l.invariant.learned;
      counter = ap (λ (a : Assembling). a.counter) lent ∙ l.invariant.counter;
      making = ap (λ (a : Assembling). a.making) lent ∙ l.invariant.making;
    }

pub returns-clause-learned : goal.returns-clause-learned
returns-clause-learned c =
    let l = c.loop-section in
    all_learned c.args.pid c.args.assembler.now.waiting l.assembler.waiting c.args.watched.now.marks.items
    l.watched.marks.items
    (c.in_default.ensures.none.0 refl) l.invariant.learned
