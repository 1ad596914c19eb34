use Rattle.std.proofs.Common.{rules}
use Rattle.sd_packet.proofs.Headers.{header_written}
use Rattle.sd_packet.proofs.section.write_header.Goals as goal

pub returns : goal.returns
returns c =
    let s1 = c.fields-set.ensures in
    let s2 = c.fields-set-2.ensures in
    let s3 = c.fields-set-3.ensures in
    let s4 = c.fields-set-4.ensures in
    let s5 = c.fields-set-5.ensures in
    let s6 = c.fields-set-6.ensures in
    let s7 = c.fields-set-7.ensures in
    let s8 = c.fields-set-8.ensures in
    header_written c.args.pid c.args.counter _ _ _ _ _ _ _ _ _ _ _ (search rules)
    s8.unchanged s8.value c.from-2.ensures s8.length s7.unchanged s7.value s7.length s6.unchanged s6.value s6.length
    s5.unchanged s5.value c.from.ensures s5.length
    s4.unchanged s4.value s4.length s3.unchanged s3.value s3.length s2.unchanged s2.value s2.length s1.unchanged
    s1.value s1.length c.requires.four
