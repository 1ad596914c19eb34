use Rattle.sd_message.proofs.Spelling.{section_laid}
use Rattle.sd_message.proofs.frame.write.Goals as goal

pub returns : goal.returns
returns c =
    section_laid c.args.header.now c.args.body.now c.args.section.now c.bytes.result c.put.new.bytes c.put-2.new.bytes
    c.seal.new.section
    c.requires.room c.bytes.ensures c.put.ensures.value c.put-2.ensures.value c.put-2.ensures.length
    c.put.ensures.length c.seal.ensures.value
