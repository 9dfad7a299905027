use Rattle.std.proofs.Common.{◌<◌, ◌^◌, length, subst, sym, ◌∙◌}
use Rattle.wire_bytes.specs.negotiate_contexts.Views.{offer}
use Rattle.wire_bytes.proofs.negotiate_contexts.Spelling.{preauth_fit}
use Rattle.wire_bytes.proofs.negotiate_contexts.writing.put_preauth.Goals as goal

pub put_context-requires : goal.put_context-requires
put_context-requires c = subst (λ b. length b < 2 ^ 16) (sym (c.as_slice.ensures ∙ c.in_ok-bytes.ensures))
    (preauth_fit (offer c.args.v.now) c.args.salt.now c.told-salt)
