-- What an answer has beside its reply, and what becomes of the logons (MS-SMB2 3.3.5.5, 3.3.5.5.3).
use Rattle.std.specs.Prelude.{◌≡◌, ℕ, List, [], Option, Some, None}
use Rattle.server_checks.specs.session_table.Logons.{LogonsShown}
use Rattle.spec_crypto.specs.declared.sessions.material.Keys.{Keys}
use Rattle.spec_crypto.specs.tokens.Tokens.{Users}
use Rattle.spec_world.specs.Ends.{Logons}
use Rattle.spec_world.specs.Logon.{Progress, Stays, Interim, Final, answer_token_by}
use Rattle.server_checks.specs.declared.event_heard.event.ServerEvent.{ServerEvent}
use Rattle.server_checks.specs.declared.event_heard.event.ServerEvent.TheVariants as events
use Rattle.server_checks.specs.declared.tables.Tables.{Tables}
use Rattle.server_effects.specs.declared.answering.Answer.{Answer}
use Rattle.server_checks.specs.setups.Setups.{keys_behind, setup_logons}
use Rattle.server_checks.specs.declared.setups.setup.SetupHeard.{SetupHeard}

-- ---- what a SESSION_SETUP comes to beside its reply

-- token, keys and channel of an answer: exactly where the logon goes on, and where it ends in a channel
abbrev pub SetupAnswers : Users → Logons → SetupHeard → ℕ → Progress → List ℕ → Option Keys → Option ℕ → Type 0
SetupAnswers users L h now Stays token keys channel = (token ≡ []) × (keys ≡ None) × (channel ≡ None)
SetupAnswers users L h now (Interim binding) token keys channel =
    (token ≡ answer_token_by users (L.pending h.connection) h.form.token.now h.fresh now (Interim binding))
    × (keys ≡ None) × (channel ≡ None)
SetupAnswers users L h now (Final binding number encrypts) token keys channel =
    (token ≡ answer_token_by users (L.pending h.connection) h.form.token.now h.fresh now (Final binding number encrypts))
    × (keys ≡ Some (keys_behind users L h binding)) × (channel ≡ Some number)

-- of any other event there are none
abbrev pub BesideReply : Users → Logons → ServerEvent → ℕ → Progress → List ℕ → Option Keys → Option ℕ → Type 0
BesideReply users L (events.Setup h) now p token keys channel = SetupAnswers users L h now p token keys channel
BesideReply users L _ now p token keys channel = (token ≡ []) × (keys ≡ None) × (channel ≡ None)

abbrev pub logons_behind : Users → Logons → ServerEvent → ℕ → Progress → Logons
logons_behind users L (events.Setup h) now p = setup_logons users L h now p
logons_behind users L _ now p = L

-- the logons behind it are those of this progress, and so is what the answer has beside its reply
abbrev pub BesideCarried : Tables → Users → Logons → ServerEvent → ℕ → Progress → Answer → Type 0
BesideCarried t users L e now p r =
    LogonsShown t.sessions (logons_behind users L e now p).keys (logons_behind users L e now p).pending
    × BesideReply users L e now p r.token r.keys r.channel
