use Rattle.std.proofs.Common.{◌≡◌, ℕ, IfOk, Option, subst, sym}
use Rattle.server_checks.specs.session_table.Logons.{LogonsShown, shown_of}
use Rattle.server_checks.specs.declared.session_table.tokens.TokenShown.{TokenShown}
use Rattle.spec_crypto.specs.sessions.Derivation.{bound_keys}
use Rattle.spec_crypto.specs.declared.sessions.material.Keys.{Keys}
use Rattle.spec_crypto.specs.tokens.Tokens.{Pending}
use Rattle.spec_world.specs.Logon.{exported_by}
use Rattle.server_plan.specs.reserving.Logons.{EndOf}
use Rattle.server_plan.proofs.reserving.logons.channel_shown.Goals as goal

pub returns-in-LoggedOn : goal.returns-in-LoggedOn
returns-in-LoggedOn c = subst (λ (v : TokenShown). IfOk c.channel_for.result (λ a. (keys : ℕ → Keys) (pending : ℕ → Option Pending)
    → LogonsShown c.args.t.now.sessions keys pending → EndOf (pending c.args.m.now.connection) (shown_of v) a.token
    × (a.keys ≡ bound_keys (exported_by (shown_of v)) c.args.part.now.chain (keys c.args.session)))) (sym c.in-LoggedOn.is)
    c.channel_for.ensures
