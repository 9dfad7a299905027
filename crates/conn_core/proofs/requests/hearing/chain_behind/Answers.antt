use Rattle.std.proofs.Common.{ℕ, List, [], ◌∷◌, ◌++◌, sym, ap, ◌∙◌}
use Rattle.spec_crypto.specs.sessions.Chain.{chain}
use Rattle.spec_world.specs.Logon.{before_setup}
use Rattle.conn_core.proofs.requests.Looks.{is_it, no_setup, setup_raw}
use Rattle.conn_core.proofs.requests.hearing.chain_behind.Goals as goal

pub returns-then-not-is_setup : goal.returns-then-not-is_setup
returns-then-not-is_setup c = λ f m k greeting making here shows setup.
    absurd (no_setup c.args.frame.now.bytes.items c.checked.result.now m k
    (is_it c.args.frame.now c.args.at c.checked.result.now m c.checked.ensures here) shows c.if-not-is_setup.true setup)

pub returns : goal.returns
returns c = λ f m k greeting making here shows setup.
    let e = is_it c.args.frame.now c.args.at c.checked.result.now m c.checked.ensures here in
    c.taken.ensures (before_setup f) (c.before_setup-before.ensures f.greeting f.making greeting making)
    ∙ ap (λ (b : List ℕ). chain (before_setup f ++ b ∷ []))
    (c.message.ensures m here ∙ sym (setup_raw c.args.frame.now.bytes.items c.checked.result.now m k e shows c.if-not-is_setup.false))
