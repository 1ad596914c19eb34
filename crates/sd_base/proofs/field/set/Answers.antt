use Rattle.sd_base.proofs.Changes.{others_stay, field_is_set, shifted_fits}
use Rattle.sd_base.proofs.field.set.Goals as goal

pub write-requires-clause-fits : goal.write-requires-clause-fits
write-requires-clause-fits g c =
    let place = c.of-place.result in
    shifted_fits g.row.AT g.row.N place.first place.count place.after c.of-place.ensures c.read-word.result c.args.value
    c.read-word.ensures.fits c.requires.fits

pub returns-clause-value : goal.returns-clause-value
returns-clause-value g c =
    let place = c.of-place.result in
    field_is_set g.row.AT g.row.N place.first place.count place.after c.of-place.ensures c.args.bytes.now
    c.write.new.bytes c.read-word.result c.args.value c.read-word.ensures.value c.requires.fits c.write.ensures.value

pub returns-clause-unchanged : goal.returns-clause-unchanged
returns-clause-unchanged g c =
    let place = c.of-place.result in
    others_stay g.row.AT g.row.N place.first place.count place.after c.of-place.ensures c.args.bytes.now
    c.write.new.bytes c.read-word.result c.args.value c.read-word.ensures.value c.requires.fits
    c.write.ensures.unchanged c.write.ensures.value
