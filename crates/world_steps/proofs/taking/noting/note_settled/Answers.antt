use Rattle.std.proofs.Common.{◌<◌, length, refl, arith}
use Rattle.world_steps.proofs.taking.Noted.{notes_one}
use Rattle.world_steps.proofs.taking.noting.note_settled.Goals as goal

pub returns-then-within : goal.returns-then-within
returns-then-within c =
    let inside = c.if-within.true in
    let counted = c.len.ensures in
    let l : c.args.number < length c.args.places.now.marks.items = omega arith in
    notes_one c.args.places.now _ c.args.number c.args.place c.note_by.new.marks c.index_mut.result.now l c.index_mut.ensures.value
    c.note_by.ensures refl refl
