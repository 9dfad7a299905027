use Rattle.std.proofs.Common.{◌≡◌, ℕ, ◌<◌, List, length, sym, subst, ◌∙◌}
use Rattle.std.specs.Prelude.{◌^◌}
use Rattle.spec_wire.specs.messages.CreateContexts.{reply_contexts_spelling}
use Rattle.spec_wire.specs.declared.messages.context.ReplyContexts.{ReplyContexts}
use Rattle.wire_commands.proofs.writing.Contexts.{told_short}
use Rattle.wire_commands.proofs.writing.replying.created.Goals as goal

pub write_create_response-requires : goal.write_create_response-requires
write_create_response-requires c =
    let told : ReplyContexts = record { dh2q = c.timeout_told.result; mxac = c.access_told.result; qfid = c.disk_id_told.result } in
    let same : c.as_slice.result.now ≡ reply_contexts_spelling told = c.as_slice.ensures ∙ c.in_ok-contexts.ensures in
    subst (λ (l : List ℕ). length l < 2 ^ 32) (sym same) (told_short told)
