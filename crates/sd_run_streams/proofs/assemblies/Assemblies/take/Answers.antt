use Rattle.std.proofs.Common.{◌∙◌, Bool, List, sym, subst, arith}
use Rattle.sd_packet.proofs.Packets.{start_within}
use Rattle.sd_run_streams.specs.Inspected.{watched_on}
use Rattle.sd_run_streams.specs.Watching.{naming, AreSectionsLearned}
use Rattle.sd_run_streams.proofs.After.{unwatched_after, unwatched_lines, watched_after, watched_lines, fed_is}
use Rattle.sd_run_streams.proofs.After.{fed_after}
use Rattle.sd_run_streams.proofs.assemblies.Assemblies.take.Goals as goal

pub feed-requires-clause-payload : goal.feed-requires-clause-payload
feed-requires-clause-payload c = omega (arith, c.payload.ensures.length, (start_within c.args.packet.now).0)

pub returns-then-not-has-clause-lines : goal.returns-then-not-has-clause-lines
returns-then-not-has-clause-lines c = λ before are.
    let self = c.args.self.now in
    unwatched_lines c.args.packet.now _ before self.watched.marks.items self.assemblers.items c.args.number
    c.pid-pid.result
    c.pid-pid.ensures.value c.pid-pid.ensures.fits (sym c.has.ensures ∙ c.if-not-has.true) are

pub returns-then-not-has-clause-after : goal.returns-then-not-has-clause-after
returns-then-not-has-clause-after c = λ before are.
    let self = c.args.self.now in
    unwatched_after c.args.packet.now before self.watched.marks.items self.assemblers.items c.pid-pid.result
    c.pid-pid.ensures.value c.pid-pid.ensures.fits (sym c.has.ensures ∙ c.if-not-has.true) are

pub returns-clause-lines : goal.returns-clause-lines
returns-clause-lines c = λ before are.
    let self = c.args.self.now in
    let packet = c.args.packet.now in
    let pid = c.pid-pid.result in
    let place = c.in_ok-assembler.ensures.place (watched_on pid before) (are.placed.at pid c.pid-pid.ensures.fits) in
    let fed = fed_after packet before c.feed.new.self _ pid c.pid-pid.ensures.value
    (fed_is c.unit_start.result c.counter.result c.payload.result.now packet c.unit_start.ensures
    c.counter.ensures.value
    c.payload.ensures.value)
    (c.feed.ensures (watched_on pid before) place) in
    watched_lines packet _ _ before self.watched.marks.items self.assemblers.items c.feed.new.self c.args.number pid
    c.pid-pid.ensures.value c.pid-pid.ensures.fits (sym c.has.ensures ∙ c.if-not-has.false) are fed
    c.in_ok-show.ensures.lines

pub returns-clause-after : goal.returns-clause-after
returns-clause-after c = λ before are.
    let self = c.args.self.now in
    let packet = c.args.packet.now in
    let pid = c.pid-pid.result in
    let place = c.in_ok-assembler.ensures.place (watched_on pid before) (are.placed.at pid c.pid-pid.ensures.fits) in
    let fed = fed_after packet before c.feed.new.self _ pid c.pid-pid.ensures.value
    (fed_is c.unit_start.result c.counter.result c.payload.result.now packet c.unit_start.ensures
    c.counter.ensures.value
    c.payload.ensures.value)
    (c.feed.ensures (watched_on pid before) place) in
    watched_after packet before self.watched.marks.items c.show.new.watched.marks.items self.assemblers.items
    c.take_out.new.self.assemblers.items
    c.feed.new.self c.show.new.assembler pid c.from.result c.pid-pid.ensures.value c.from.ensures c.pid-pid.ensures.fits
    (omega (arith, self.places, self.assemblers.ok.0)) c.in_ok-assembler.ensures.others c.in_ok-show.ensures.lent
    (sym c.has.ensures ∙ c.if-not-has.false) are fed
    (subst (λ (m : List Bool). AreSectionsLearned (naming pid c.feed.new.self.waiting) m c.show.new.watched.marks.items)
    c.in_ok-assembler.ensures.watched c.in_ok-show.ensures.learned)
