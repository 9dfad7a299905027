-- What the tables tell of a logon in the making, and of a session's signature, as the definitions have it.
use Rattle.std.proofs.Common.{◌≡◌, ℕ, Bool, false, ◌&&◌, nat_le, if◌then◌else◌, List, length, refl, sym, ap, ◌∙◌}
use Rattle.std.proofs.Common.{Result, Ok, Err, IfOk}
use Rattle.std.specs.Prelude.{Option, Some, None, option_map, is_some}
use Rattle.spec_exchange.specs.Commands as asks
use Rattle.spec_exchange.specs.State as says
use Rattle.spec_crypto.specs.declared.sessions.material.Keys.{Keys}
use Rattle.spec_crypto.specs.sessions.Signing.{verifies}
use Rattle.spec_crypto.specs.tokens.Tokens.{Users}
use Rattle.spec_crypto.specs.tokens.Tokens.{Pending, Shown, shown}
use Rattle.spec_world.specs.Ends.{Logons}
use Rattle.spec_world.specs.Logon as logon
use Rattle.wire_commands.specs.values.Meaning.{command_of}
use Rattle.wire_commands.specs.declared.values.command.Command.{Command}
use Rattle.wire_commands.specs.declared.values.command.Command.TheVariants.{Setup}
use Rattle.wire_commands.specs.declared.values.setup.SetupRequest.{SetupRequest}
use Rattle.server_checks.specs.event_heard.Heard.{without_token}
use Rattle.server_checks.specs.declared.session_table.row.InMaking.{InMaking}
use Rattle.server_checks.specs.declared.session_table.row.SessionRow.{SessionRow}
use Rattle.server_checks.specs.session_table.Shown.{making_of, SessionRowFound}
use Rattle.server_checks.specs.session_table.Logons.{KeysShown, PendingShown, pending_of}
use Rattle.server_checks.specs.setups.Setups.{in_the_making, request_of, setup_message, verified_by}
use Rattle.server_checks.specs.declared.setups.setup.SetupHeard.{SetupHeard}

-- where memory may run out
pub if_ok_by : {X Y : Type 0} {P Q : X → Type 0} (r : Result X Y) → IfOk r P → ((x : X) → P x → Q x) → IfOk r Q
if_ok_by (Ok x) p f = f x p
if_ok_by (Err y) p f = tt

pub made : (m : Option InMaking) (w : Option says.Making) (p : Option Pending) → making_of m ≡ w → PendingShown m p
    → option_map pending_of m ≡ (if is_some w then p else None)
made None w p e h = ap (λ (v : Option says.Making). if is_some v then p else None) e
made (Some m) w p e h = sym h ∙ ap (λ (v : Option says.Making). if is_some v then p else None) e

pub absent : (s : says.Server) (session : ℕ) (b : Bool) → SessionRowFound None s session → false ≡ (s.present session && b)
absent s session b h = ap (λ (v : Bool). v && b) (sym h.0)

pub live : (s : says.Server) (session : ℕ) (r : SessionRow) (keys : Keys) (m : List ℕ) (b : Bool) → b
    ≡ (nat_le 64 (length m) && verifies r.keys.signing m)
    → SessionRowFound (Some r) s session → KeysShown (Some r) keys → b
    ≡ (s.present session && (nat_le 64 (length m) && verifies keys.signing m))
live s session r keys m b e h k =
    e ∙ ap (λ (v : Keys). nat_le 64 (length m) && verifies v.signing m) (sym k)
    ∙ ap (λ (v : Bool). v && (nat_le 64 (length m) && verifies keys.signing m)) (sym h.0)

-- the request of a SESSION_SETUP, with this word on its signature and on its token
abbrev pub request_with : SetupHeard → Bool → asks.Shows → asks.SetupRequest
request_with h verified shows = record {
  readable = h.form.readable;
  binding = h.form.binding;
  signed = h.form.signed;
  verified = verified;
  previous = h.form.previous;
  cipher = h.chosen.cipher;
  signing = h.chosen.signing;
  shows = shows;
}

pub request_told : (users : Users) (L : Logons) (s : says.Server) (h : SetupHeard) (verified : Bool) (a b : asks.Shows)
    → verified ≡ verified_by L s h → a ≡ b → request_with h verified a ≡ record (request_of users L s h) { shows = b }
request_told users L s h verified a b e f =
    ap (λ (v : Bool). request_with h v a) e ∙ ap (λ (v : asks.Shows). request_with h (verified_by L s h) v) f

-- the message of a SESSION_SETUP, whose request was made of what its token shows behind what is in the making
pub same_message : (users : Users) (L : Logons) (s : says.Server) (h : SetupHeard) (r : asks.SetupRequest) (v : Shown)
    → r ≡ record (request_of users L s h) {
      shows = logon.shows_of v;
    } → v ≡ shown users ((in_the_making s L).pending h.connection) h.form.token.now
    → says.Heard (record (setup_message users L s h) { command = asks.Setup r }) ≡ says.Heard (setup_message users (in_the_making s L) s h)
same_message users L s h r v e f =
    ap (λ (q : asks.SetupRequest). says.Heard (record (setup_message users L s h) { command = asks.Setup q }))
    (e ∙ ap (λ (w : Shown). record (request_of users L s h) { shows = logon.shows_of w }) f)

-- a command that is no SESSION_SETUP stays as it is
pub other_same : (c : Command) → ((r : SetupRequest) → c ≡ Setup r → ⊥) → command_of c ≡ without_token (command_of c)
other_same (Setup r) h = absurd (h r refl)
other_same _ h = refl
