use Rattle.std.proofs.Common.{ℕ, ap, ◌∙◌}
use Rattle.spec_exchange.specs.Ranges.{count_owned}
use Rattle.server_core.proofs.durable_state.Locking.{owned_is}
use Rattle.server_core.proofs.durable_state.durable.Durable.owned_ranges.Goals as goal

pub returns : goal.returns
returns c = λ s h st. c.owned.ensures ∙ (owned_is c.args.id c.ranges-2.result.now
    ∙ (ap (λ rs. count_owned c.args.id rs) (c.ranges-2.ensures.shown s h.opens)
    ∙ ap (λ (f : ℕ). count_owned c.args.id (s.ranges f)) (c.file_of.ensures.shown s h.opens st)))
