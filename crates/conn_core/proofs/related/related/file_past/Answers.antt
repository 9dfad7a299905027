use Rattle.std.proofs.Common.{List, ℕ, ap, ◌∙◌, option_map}
use Rattle.spec_world.specs.Related as related
use Rattle.conn_core.specs.related.Carrying.{carry_of}
use Rattle.conn_core.proofs.related.Carried.{named, unnamed}
use Rattle.conn_core.proofs.related.related.file_past.Goals as goal

pub returns-in-Some : goal.returns-in-Some
returns-in-Some c = λ k x.
    c.handed_on.ensures
    ∙ (ap (λ (b : List ℕ). related.handed_on b) c.file_at.ensures
    ∙ named (option_map carry_of c.args.before.now) c.args.checked.now c.args.message.now k c.in-Some.place x c.in-Some.ensures.value)

pub returns-in-None : goal.returns-in-None
returns-in-None c = λ k x.
    c.file_before.ensures ∙ unnamed c.args.before.now c.args.checked.now c.args.message.now k x c.in-None.ensures.value
