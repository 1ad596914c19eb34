use Rattle.std.proofs.Common.{rules}
use Rattle.sd_psi.proofs.Writing.{lengths_written}
use Rattle.sd_psi.proofs.rewrite.set_lengths.Goals as goal

pub returns-clause-value : goal.returns-clause-value
returns-clause-value c =
    let s1 = c.fields-set.ensures in
    let s2 = c.fields-set-2.ensures in
    lengths_written c.args.section_length c.args.info_length _ _ _ (search rules) (search rules) (search rules)
    c.requires.twelve
    s1.unchanged s1.value s1.length s2.unchanged s2.value s2.length
