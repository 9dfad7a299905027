use Rattle.spec_wire.proofs.messages.ContextEnds.{no_contexts, no_contexts_fault}
use Rattle.wire_bytes.proofs.headers.contexts.contexts_of.Goals as goal

pub returns-then-count-eq0 : goal.returns-then-count-eq0
returns-then-count-eq0 c = (
  no_contexts_fault c.args.m.now c.args.at c.args.count c.args.fixed c.if-count-eq0.true,
  no_contexts c.args.m.now c.args.at c.args.count c.args.fixed c.if-count-eq0.true,
)
