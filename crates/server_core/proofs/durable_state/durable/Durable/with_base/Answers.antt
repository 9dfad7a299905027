use Rattle.std.proofs.Common.{sym, ◌∙◌}
use Rattle.law_server.proofs.tables.Logic.{back_of}
use Rattle.server_core.proofs.durable_state.ByPiece.{base_took, no_less_next}
use Rattle.server_core.proofs.durable_state.durable.Durable.with_base.Goals as goal

pub returns : goal.returns
returns c = λ s h.
    let u = sym (c.is_unnumbered.ensures s h) ∙ c.if-not-is_unnumbered.false in
    let may = sym c.may_begin.ensures ∙ c.if-not-may_begin.false in
    base_took c.begin_numbers.new.self s c.args.version c.args.epoch c.args.given c.args.next_file c.args.times.now u may
    c.ranges.given.fits (c.begin_numbers.ensures s h (no_less_next s c.args.next_file u (back_of _ _ (back_of _ _ may))))
