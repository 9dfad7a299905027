use Rattle.std.proofs.Common.{Option, ℕ, subst}
use Rattle.conn_core.specs.logon_state.Behind.{NoncesBehind}
use Rattle.conn_core.proofs.reply_frames.Finally.{begins_anew}
use Rattle.conn_core.proofs.reply_frames.answering.go_on.Goals as goal

pub returns-in-Some-clause-nonces : goal.returns-in-Some-clause-nonces
returns-in-Some-clause-nonces c = λ f h.
    begins_anew c.args.conn.now.nonces c.in-Some.channel f c.new-conn.result c.new-conn.ensures
    (subst (λ (o : Option ℕ). NoncesBehind c.args.conn.now.nonces o f) c.in-Some.is h)

pub returns-in-None-clause-nonces : goal.returns-in-None-clause-nonces
returns-in-None-clause-nonces c = λ f h. subst (λ (o : Option ℕ). NoncesBehind c.args.conn.now.nonces o f) c.in-None.is h
