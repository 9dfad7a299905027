-- The change of the tables behind the body on the disk.
use Rattle.std.specs.Prelude.{◌≡◌, ℕ, ◌+◌, List, Result, Ok, Err}
use Rattle.wire_commands.specs.values.Meaning.{reply_of}
use Rattle.spec_exchange.specs.State as model
use Rattle.server_checks.specs.declared.event_heard.event.ServerEvent.{ServerEvent}
use Rattle.journal_bytes.specs.record_bodies.Body.{added_by}
use Rattle.server_checks.specs.Shown.{TablesShown}
use Rattle.server_effects.specs.declared.answering.Answer.{Answer}
use Rattle.server_checks.specs.declared.setups.error.EventError.{EventError}
use Rattle.server_core.specs.journaled_tables.Counted.{counting}
use Rattle.server_core.specs.journaled_tables.Beside.{BesideCarried, logons_behind}
use Rattle.server_core.specs.declared.journaled_tables.state.ServerState.{ServerState}
use Rattle.server_checks.specs.session_table.Logons.{LogonsShown}
use Rattle.spec_crypto.specs.tokens.Tokens.{Users}
use Rattle.spec_world.specs.Ends.{Logons}
use Rattle.spec_world.specs.Logon.{Progress}

-- what is answered, and shown, of a ruling that was carried out: with the body's bytes, or where the disk failed without them
abbrev pub Commits : {D : Type 0} → model.Server → model.Answer → List ℕ → Result Answer EventError → ServerState D → Type 0
Commits s A body (Ok r) new = (reply_of r.reply ≡ A.reply) × (r.acted ≡ A.acted)
    × TablesShown new.tables (counting A.server (s.journal + added_by body))
Commits s A body (Err e) new = TablesShown new.tables (counting A.server s.journal)

-- the logons behind it, and what the answer has beside its reply
abbrev pub BesideCommitted : {D : Type 0} → ServerState D → Users → Logons → ServerEvent → ℕ → Progress
    → Result Answer EventError → Type 0
BesideCommitted new users L e now p (Ok r) = BesideCarried new.tables users L e now p r
BesideCommitted new users L e now p (Err x) =
    LogonsShown new.tables.sessions (logons_behind users L e now p).keys (logons_behind users L e now p).pending
