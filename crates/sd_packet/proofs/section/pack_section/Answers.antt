use Rattle.sd_packet.proofs.Packets.{packet_laid, packed_reads}
use Rattle.sd_packet.proofs.section.pack_section.Goals as goal

pub returns-clause-value : goal.returns-clause-value
returns-clause-value c = packet_laid c.args.section.now c.write_header.new.bytes c.put.new.bytes c.put-2.new.bytes
    c.args.pid c.args.counter c.requires.room c.write_header.ensures c.put.ensures.value c.put-2.ensures.value

pub returns-clause-fields : goal.returns-clause-fields
returns-clause-fields c = packed_reads c.put-2.new.bytes c.args.section.now c.args.pid c.args.counter
    (packet_laid c.args.section.now c.write_header.new.bytes c.put.new.bytes c.put-2.new.bytes c.args.pid c.args.counter
    c.requires.room c.write_header.ensures c.put.ensures.value c.put-2.ensures.value) c.requires.pid c.requires.counter
