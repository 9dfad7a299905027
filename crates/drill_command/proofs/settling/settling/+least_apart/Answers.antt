use Rattle.std.proofs.Common.{sym, ◌∙◌, slice_get}
use Rattle.drill_command.specs.settling.Tests.{apart_in}
use Rattle.drill_command.proofs.settling.Turning.{least_goes, least_over, least_stops}
use Rattle.drill_command.proofs.settling.settling.+least_apart.Goals as goal

pub returns-then-count-eq0 : goal.returns-then-count-eq0
returns-then-count-eq0 t c = least_over (λ j. apart_in (slice_get c.args.channels.now j)) c.args.k c.args.count c.if-count-eq0.true

pub returns-then-is_apart : goal.returns-then-is_apart
returns-then-is_apart t c =
    least_stops (λ j. apart_in (slice_get c.args.channels.now j)) c.args.k c.args.count c.if-count-eq0.false
    (sym c.is_apart.ensures ∙ c.if-is_apart.true)

pub returns : goal.returns
returns t c =
    c.least_apart.ensures
    ∙ least_goes (λ j. apart_in (slice_get c.args.channels.now j)) c.args.k c.args.count c.if-count-eq0.false
    (sym c.is_apart.ensures ∙ c.if-is_apart.false)
