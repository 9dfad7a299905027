use Rattle.std.proofs.Common.{List, ap, map, sym, map-id, ◌∙◌, rules}
use Rattle.std.proofs.lemmas.Iterator.Adapters.{YieldsList-from_vec}
use Rattle.std.proofs.lemmas.Iterator.Consumers.{YieldsList-end}
use Rattle.spec_exchange.specs.Operations.{names_in}
use Rattle.wire_commands.specs.declared.values.reply.Named.{Named}
use Rattle.wire_commands.specs.values.Meaning.{named_of}
use Rattle.client_values.proofs.commands.telling.names_in.Goals as goal

pub loop-entry-init : goal.loop-entry-init
unfolding names_in
loop-entry-init c = c.new-names.ensures

pub returns : goal.returns
returns c =
    let end = YieldsList-end (YieldsList-from_vec {s = c.into_iter-entry-iterator.result} c.args.entries.items (search rules)
    (search rules)) c.loop-entry.yielded c.loop-entry.entry-iterator c.loop-entry.yielded_by c.next.result c.next.new.self
    c.in-None.is c.next.ensures.steps in
    c.loop-entry.invariant ∙ ap (λ (xs : List Named). names_in (map named_of xs)) (sym (map-id c.loop-entry.yielded) ∙ end.0)
