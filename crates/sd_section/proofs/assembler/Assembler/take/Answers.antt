use Rattle.std.proofs.Common.{◌∙◌, sym}
use Rattle.sd_section.proofs.After.{nothing_taken, all_taken}
use Rattle.sd_section.proofs.assembler.Assembler.take.Goals as goal

pub returns-then-not-is_taken : goal.returns-then-not-is_taken
returns-then-not-is_taken c =
    nothing_taken c.self.inside.holds c.self.inside.buffer.items _ c.self.inside.counter _ c.args.self.now
    c.self.view_is (sym c.is_taken.ensures ∙ c.if-not-is_taken.true)

pub returns : goal.returns
returns c =
    all_taken c.self.inside.holds c.self.inside.buffer.items c.gather.new.buffer.items c.keep_if.new.buffer.items
    c.go_on-whole.new.buffer.items _ _
    c.self.inside.counter c.args.unit_start c.is_next.result c.go_on-whole.result c.of-self-inside.result c.args.counter
    c.args.payload.now c.args.self.now
    c.self.view_is c.of-self-inside.ensures (sym c.is_taken.ensures ∙ c.if-not-is_taken.false) c.gather.ensures.value
    c.is_next.ensures
    c.keep_if.ensures.value c.go_on-whole.ensures.sections c.go_on-whole.ensures.making (c.store.ensures ∙
    c.fresh_in-fresh.ensures.value)
