-- The two laws on what of a SESSION_SETUP counts.
use Rattle.std.proofs.Common.{◌≡◌, ℕ, Bool, true, false, if◌then◌else◌, refl, sym, ap, ◌∙◌, Option, None, is_some}
use Rattle.spec_exchange.specs.Commands.{Command, Setup, SetupRequest}
use Rattle.spec_exchange.specs.State.{Server, Message, Heard, Making}
use Rattle.spec_exchange.specs.Step.{step}
use Rattle.law_server.proofs.tables.Logic.{none_of}
use Rattle.spec_crypto.specs.tokens.Tokens.{Users}
use Rattle.spec_world.specs.Ends.{Logons}
use Rattle.spec_world.specs.Logon.{token_shows}
use Rattle.server_checks.specs.setups.Setups.{in_the_making, setup_message, request_of, with_verified}
use Rattle.server_checks.specs.declared.setups.setup.SetupHeard.{SetupHeard}
use Rattle.server_checks.proofs.setups.Same.{said, same_step}
use Rattle.server_checks.proofs.setups.Checks.{absent_alike, unmade_alike}
use Rattle.server_checks.proofs.setups.Shown.{unmade_shown}

pub absent : (s : Server) (now : ℕ) (m : Message) (r : SetupRequest) (verified : Bool) → m.command ≡ Setup r
    → s.present m.session_id ≡ false → step s now (Heard (with_verified m r verified)) ≡ step s now (Heard m)
absent s now m r verified e gone =
    same_step s now m (record r { verified = verified }) r
    (λ t p n. absent_alike t m r verified (ap (λ (f : ℕ → Bool). f m.session_id) p ∙ gone))
    ∙ ap (λ (c : Command). step s now (Heard (record m { command = c }))) (sym e)

pub unmade : (users : Users) (s : Server) (L : Logons) (now : ℕ) (h : SetupHeard)
    → step s now (Heard (setup_message users (in_the_making s L) s h)) ≡ step s now (Heard (setup_message users L s h))
unmade users s L now h = by (is_some (s.making h.connection)) refl
  where
    by : (b : Bool) → is_some (s.making h.connection) ≡ b
        → step s now (Heard (said (setup_message users L s h) (record (request_of users L s h) {
          shows = token_shows users (if b then L.pending h.connection else None) h.form.token.now;
        })))
        ≡ step s now (Heard (setup_message users L s h))
    by true e = refl
    by false e =
        same_step s now (setup_message users L s h) (record (request_of users L s h) {
          shows = token_shows users None h.form.token.now;
        }) (request_of users L s h)
        (λ t p n. unmade_alike t (setup_message users L s h) (request_of users L s h) (token_shows users None h.form.token.now)
        (ap (λ (f : ℕ → Option Making). f h.connection) n ∙ none_of (s.making h.connection) e)
        (unmade_shown users (L.pending h.connection) h.form.token.now))
