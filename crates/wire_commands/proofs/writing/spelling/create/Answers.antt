use Rattle.std.proofs.Common.{◌≡◌, ℕ, ◌<◌, List, length, sym, subst, ◌∙◌}
use Rattle.std.specs.Prelude.{◌^◌}
use Rattle.spec_wire.specs.messages.CreateContexts.{create_contexts_spelling}
use Rattle.spec_commands.specs.BodyOf.{contexts_of}
use Rattle.wire_commands.specs.values.Meaning.{client_create_of}
use Rattle.wire_commands.proofs.writing.Contexts.{asked_short}
use Rattle.wire_commands.proofs.writing.spelling.create.Goals as goal

pub write_create_request-requires-clause-contexts : goal.write_create_request-requires-clause-contexts
write_create_request-requires-clause-contexts c =
    let same : c.as_slice-2.result.now ≡ create_contexts_spelling (contexts_of (client_create_of c.args.r.now)) =
    c.as_slice-2.ensures ∙ c.in_ok-contexts.ensures in
    subst (λ (l : List ℕ). length l < 2 ^ 32) (sym same) (asked_short (client_create_of c.args.r.now))
