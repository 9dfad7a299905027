use Rattle.std.proofs.Common.{◌≡◌, ℕ, IfOk, Option, subst, sym}
use Rattle.wire_commands.specs.values.Meaning.{message_of}
use Rattle.spec_exchange.specs.Commands.{SetupRequest}
use Rattle.server_effects.specs.Ready.{IsRowFor}
use Rattle.server_checks.specs.verdicts.Views.{user_shown}
use Rattle.server_checks.specs.session_table.Logons.{LogonsShown, shown_of}
use Rattle.server_checks.specs.declared.session_table.tokens.TokenShown.{TokenShown}
use Rattle.spec_crypto.specs.sessions.Derivation.{keys_of}
use Rattle.spec_crypto.specs.declared.sessions.material.Keys.{Keys}
use Rattle.spec_crypto.specs.tokens.Tokens.{Pending}
use Rattle.spec_world.specs.Logon.{exported_by, shows_of}
use Rattle.server_plan.proofs.reserving.Kept.{if_ok_by}
use Rattle.server_plan.proofs.reserving.Steps.{shown_row}
use Rattle.server_plan.specs.reserving.Logons.{EndOf}
use Rattle.server_plan.proofs.reserving.logons.session_shown.Goals as goal

pub returns-in-LoggedOn-clause-row : goal.returns-in-LoggedOn-clause-row
returns-in-LoggedOn-clause-row c = subst (λ (v : TokenShown). IfOk c.session_for.result (λ a. (q : SetupRequest)
    → q.shows ≡ shows_of (shown_of v)
    → q.cipher ≡ c.args.part.now.chosen.cipher → q.signing ≡ c.args.part.now.chosen.signing
    → IsRowFor a.row (message_of c.args.m.now) (user_shown q.shows) q)) (sym c.in-LoggedOn.is)
    (if_ok_by c.session_for.result c.session_for.ensures.row
    (λ a g q e x y. shown_row a.row (message_of c.args.m.now) q _ e (g q x y)))

pub returns-in-LoggedOn-clause-keys : goal.returns-in-LoggedOn-clause-keys
returns-in-LoggedOn-clause-keys c = subst (λ (v : TokenShown). IfOk c.session_for.result (λ a. a.row.keys
    ≡ keys_of (exported_by (shown_of v)) c.args.part.now.chain c.args.part.now.chosen.cipher c.args.part.now.chosen.signing c.args.session))
    (sym c.in-LoggedOn.is) c.session_for.ensures.keys

pub returns-in-LoggedOn-clause-token : goal.returns-in-LoggedOn-clause-token
returns-in-LoggedOn-clause-token c =
    subst (λ (v : TokenShown). IfOk c.session_for.result (λ a. (keys : ℕ → Keys) (pending : ℕ → Option Pending)
    → LogonsShown c.args.t.now.sessions keys pending → EndOf (pending c.args.m.now.connection) (shown_of v) a.token)) (sym c.in-LoggedOn.is)
    c.session_for.ensures.token
