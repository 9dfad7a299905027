use Rattle.std.proofs.Common.{Bool, true, false, refl, sym, ap, ◌∙◌}
use Rattle.law_records.specs.leaving_opens.Out.{channel_left}
use Rattle.server_effects.proofs.leaving_opens.Files.{channel_is}
use Rattle.server_effects.proofs.leaving_opens.connections.channel_left.Goals as goal

pub returns-then-is_among-clause-counted : goal.returns-then-is_among-clause-counted
returns-then-is_among-clause-counted c = λ s h.
    ap (λ (b : Bool). channel_left b c.args.session (s.session_on c.args.connection)) (sym c.if-is_among.true ∙ c.is_among.ensures)

pub returns-then-is_on-clause-counted : goal.returns-then-is_on-clause-counted
returns-then-is_on-clause-counted c = λ s h. channel_is _ c.is_on.result c.args.session 1 (s.session_on c.args.connection) true
    (sym c.is_among.ensures ∙ c.if-is_among.false) c.if-is_on.true (c.is_on.ensures s h) refl

pub returns-else-is_on-clause-counted : goal.returns-else-is_on-clause-counted
returns-else-is_on-clause-counted c = λ s h. channel_is _ c.is_on.result c.args.session 0 (s.session_on c.args.connection) false
    (sym c.is_among.ensures ∙ c.if-is_among.false) c.if-is_on.false (c.is_on.ensures s h) refl
