-- A SESSION_SETUP that succeeds shows a logon.
use Rattle.std.specs.Prelude.{◌≡◌, true, None}
use Rattle.spec_exchange.specs.Status.{success}
use Rattle.spec_exchange.specs.Commands.{Setup, SetupRequest}
use Rattle.spec_exchange.specs.Network.{World, Sent, answer}
use Rattle.law_sessions.specs.sessions.Sessions.{is_logon}

abbrev pub SuccessesLogOn : Type 0
SuccessesLogOn =
    (w : World) (x : Sent) (r : SetupRequest) → x.message.command ≡ Setup r → x.message.fault ≡ None →
    (answer w x).reply.status ≡ success → is_logon r.shows ≡ true
