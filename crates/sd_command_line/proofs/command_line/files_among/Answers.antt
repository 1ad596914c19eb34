use Rattle.std.proofs.Common.{◌∙◌, ◌++◌, ℕ, List, Bor, ap, arith, map, string_bytes}
use Rattle.sd_command_line.proofs.Rows.{file_found, no_file, one_longer}
use Rattle.sd_command_line.proofs.command_line.files_among.Goals as goal
use Rattle.sd_command_line.proofs.command_line.files_among.Goals.{then-is_file, else-is_file}

pub loop-index-preserved : goal.loop-index-preserved
loop-index-preserved c =
    elim c.if-is_file.branch [
      | then-is_file w ↦
          let files = w.push.ensures.items in
          let text = w.as_str.ensures.value ∙ ap string_bytes w.index-texts-index.is in
          let is = rw c.kind.ensures at w.if-is_file.ensures in
          rw (w.files-is, files) (record {
            count = one_longer c.loop-index.files.items w.as_str.result c.loop-index.index c.loop-index.invariant.count;
            rest =
                file_found c.args.operands.now c.args.texts.now c.loop-index.files.items w.as_str.result
                c.loop-index.index _ _ c.loop-index-test.true c.requires.one_each is text
                ∙ c.loop-index.invariant.rest;
          })
      | else-is_file w ↦
          let is = rw c.kind.ensures at w.if-is_file.ensures in
          rw w.files-is (record {
            count = let count = c.loop-index.invariant.count in omega arith;
            rest =
                ap (λ (back : List (List ℕ)). map (λ (text : Bor (List ℕ)). text.now) c.loop-index.files.items ++ back)
                (no_file c.args.operands.now c.args.texts.now c.loop-index.index _ c.loop-index-test.true
                c.requires.one_each is)
                ∙ c.loop-index.invariant.rest;
          })
    ]
