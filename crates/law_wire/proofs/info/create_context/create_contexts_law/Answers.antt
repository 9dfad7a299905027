use Rattle.std.proofs.Common.{sym, ap, ◌∙◌}
use Rattle.spec_wire.specs.messages.CreateContexts.{IsContext, first_fault, request_due, request_contexts, asked_contexts}
use Rattle.law_wire.proofs.info.Chains.{same_items, no_break, same_break}
use Rattle.law_wire.proofs.info.OneContext.{same_context, whole_first, no_context}
use Rattle.law_wire.proofs.info.ContextChain.{chain_again}
use Rattle.law_wire.proofs.info.Gathered.{requests_small, requests_say}
use Rattle.law_wire.proofs.info.create_context.create_contexts_law.Goals as goal

pub returns-clause-one : goal.returns-clause-one
returns-clause-one c = λ m a b s t. s.says
    ∙ ap request_contexts (same_items (IsContext request_due) (same_context request_due) (no_context request_due) m
    s.contexts t.contexts s.chain t.chain) ∙ sym t.says

pub returns-clause-whole : goal.returns-clause-whole
returns-clause-whole c = λ m a e s b. no_break (IsContext request_due) (first_fault request_due)
    (whole_first request_due) m e s.contexts s.chain b

pub returns-clause-broken : goal.returns-clause-broken
returns-clause-broken c = λ m e f s t. same_break (first_fault request_due) m e f s t

pub returns-clause-again : goal.returns-clause-again
returns-clause-again c = λ a fit. record {
  contexts = asked_contexts a;
  chain = chain_again request_due (asked_contexts a) (requests_small a fit);
  says = sym (requests_say a fit);
}
