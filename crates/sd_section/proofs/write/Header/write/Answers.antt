use Rattle.std.proofs.Common.{◌∙◌, ◌+◌, rules}
use Rattle.sd_section.proofs.Writing.{header_written}
use Rattle.sd_section.proofs.write.Header.write.Goals as goal

pub returns : goal.returns
returns c =
    let s1 = c.fields-set.ensures in
    let s2 = c.fields-set-2.ensures in
    let s3 = c.fields-set-3.ensures in
    let s4 = c.fields-set-4.ensures in
    let s5 = c.fields-set-5.ensures in
    let s6 = c.fields-set-6.ensures in
    let s7 = c.fields-set-7.ensures in
    let s8 = c.fields-set-8.ensures in
    let s9 = c.fields-set-9.ensures in
    let s10 = c.fields-set-10.ensures in
    let s11 = c.fields-set-11.ensures in
    header_written c.args.self.now.table_id (c.args.body + 9) c.args.self.now.extension c.args.self.now.number
    c.args.self.now.last_number
    _ _ _ _ _ _ _ _ _ _ _ _ (search rules) c.requires.room
    s1.unchanged (s1.value ∙ c.from.ensures) s1.length
    s2.unchanged s2.value s2.length
    s3.unchanged s3.value s3.length
    s4.unchanged s4.value s4.length
    s5.unchanged s5.value s5.length
    s6.unchanged (s6.value ∙ c.from-2.ensures) s6.length
    s7.unchanged s7.value s7.length
    s8.unchanged s8.value s8.length
    s9.unchanged s9.value s9.length
    s10.unchanged (s10.value ∙ c.from-3.ensures) s10.length
    s11.unchanged (s11.value ∙ c.from-4.ensures) s11.length
