use Rattle.std.proofs.Common.{sym, ◌∙◌, slice_get}
use Rattle.world_ends.specs.Tests.{readied_in}
use Rattle.drill_command.proofs.settling.Turning.{least_goes, least_over, least_stops}
use Rattle.drill_command.proofs.settling.settling.+least_ready.Goals as goal

pub returns-then-count-eq0 : goal.returns-then-count-eq0
returns-then-count-eq0 t c = least_over (λ j. readied_in (slice_get c.args.channels.now j)) c.args.k c.args.count c.if-count-eq0.true

pub returns-then-is_ready : goal.returns-then-is_ready
returns-then-is_ready t c =
    least_stops (λ j. readied_in (slice_get c.args.channels.now j)) c.args.k c.args.count c.if-count-eq0.false
    (sym c.is_ready.ensures ∙ c.if-is_ready.true)

pub returns : goal.returns
returns t c =
    c.least_ready.ensures
    ∙ least_goes (λ j. readied_in (slice_get c.args.channels.now j)) c.args.k c.args.count c.if-count-eq0.false
    (sym c.is_ready.ensures ∙ c.if-is_ready.false)
