use Rattle.std.proofs.Common.{ap, ◌∙◌}
use Rattle.server_checks.proofs.Below.{below_is}
use Rattle.server_checks.specs.Looks.{any_open}
use Rattle.server_checks.proofs.tables.Tables.is_open_below.Goals as goal

pub returns : goal.returns
returns c = λ s t x. c.has_any_open.ensures s t
    ∙ (ap (any_open s) c.deref.ensures.value
    ∙ below_is s c.in_ok-below.below.items c.args.directory t.files.rows.apart (c.in_ok-below.ensures s t.files x))
