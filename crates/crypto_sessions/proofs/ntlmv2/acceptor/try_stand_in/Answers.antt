use Rattle.std.proofs.Common.{sym, ◌∙◌, arith}
use Rattle.crypto_sessions.specs.ntlmv2.Views.{type3_view}
use Rattle.crypto_sessions.proofs.ntlmv2.Forms.{has_proof}
use Rattle.crypto_sessions.proofs.ntlmv2.acceptor.try_stand_in.Goals as goal

pub is_shown-requires : goal.is_shown-requires
is_shown-requires c = let long = has_proof (type3_view c.args.m.now) (sym c.is_formed.ensures ∙ c.if-not-is_formed.false) in omega arith
