use Rattle.std.proofs.Common.{ap, arith, ◌∙◌}
use Rattle.world_ends.specs.Places.{no_marks}
use Rattle.std.proofs.lemmas.List.{get_or_default}
use Rattle.world_steps.specs.serving.Noted.{noted_by}
use Rattle.world_steps.proofs.serving.Marking.{marks_set}
use Rattle.world_steps.proofs.serving.noting.note_marks.Goals as goal

pub returns-then-within : goal.returns-then-within
returns-then-within c = λ l.
    let xs = c.args.marks.now.items in
    marks_set xs c.args.number c.args.place c.args.behind c.args.makes c.noted.result l
    (c.noted.ensures
    ∙ ap (noted_by c.args.makes c.args.place c.args.behind)
    (c.index-old.ensures ∙ get_or_default xs c.args.number c.index-old.result.now no_marks l))

pub returns-else-within : goal.returns-else-within
returns-else-within c = λ l. (let past = c.if-within.false in let counted = c.len.ensures in
    let same = c.args.marks.now.ok.0 in absurd (omega (arith, l)))
