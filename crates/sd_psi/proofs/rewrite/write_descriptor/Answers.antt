use Rattle.std.proofs.Common.{rules, ◌∙◌}
use Rattle.sd_psi.proofs.Writing.{descriptor_written}
use Rattle.sd_psi.proofs.rewrite.write_descriptor.Goals as goal

pub returns : goal.returns
returns c =
    let s1 = c.fields-set.ensures in
    let s2 = c.fields-set-2.ensures in
    let s3 = c.fields-set-3.ensures in
    let s4 = c.fields-set-4.ensures in
    let s5 = c.fields-set-5.ensures in
    descriptor_written c.args.ca c.args.pid _ _ _ _ _ _ _ _ (search rules) c.requires.six
    s1.unchanged (s1.value ∙ c.from.ensures) s1.length s2.unchanged s2.value s2.length s3.unchanged s3.value
    c.from-2.ensures s3.length
    s4.unchanged s4.value s4.length s5.unchanged s5.value c.from-3.ensures s5.length
