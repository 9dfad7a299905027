use Rattle.std.proofs.Common.{ℕ, Option, sym, ap, ◌∙◌, option_map}
use Rattle.conn_core.specs.related.Carrying.{carry_of, file_told}
use Rattle.conn_core.proofs.related.related.file_behind.Goals as goal

pub returns-in-None : goal.returns-in-None
returns-in-None c = λ k x.
    c.file_past.ensures k x ∙ ap (λ (o : Option ℕ). file_told (option_map carry_of c.args.before.now) k o) (sym c.in-None.is)
