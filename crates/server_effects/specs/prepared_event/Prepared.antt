-- The ruling that something prepared stands for, and what its effect asks of the tables.
use Rattle.std.specs.Prelude.{ℕ, ⊤}
use Rattle.spec_exchange.specs.State as model
use Rattle.spec_exchange.specs.Step as steps
use Rattle.server_checks.specs.session_table.Shown.{HasConnectionRoom}
use Rattle.server_checks.specs.declared.event_heard.asked.Asked.{Asked}
use Rattle.server_checks.specs.declared.event_heard.asked.Asked.TheVariants as askings
use Rattle.server_checks.specs.Shown.{TablesShown}
use Rattle.server_checks.specs.declared.tables.Tables.{Tables}
use Rattle.server_effects.specs.Able.{Able}
use Rattle.server_effects.specs.reserved.Readied.{readied}
use Rattle.server_effects.specs.reserved.Room.{IsReadied, RoomFor}
use Rattle.server_effects.specs.declared.reserved.ready.Ready.{Ready}
use Rattle.server_effects.specs.declared.prepared_event.prepared.Prepared.{Prepared}
use Rattle.server_effects.specs.declared.prepared_event.prepared.Prepared.TheVariants as prepared

-- a verdict that was made ready is on the event's message
abbrev pub readied_on : model.ServerEvent → Ready → steps.Ruling
readied_on (model.Heard m) r = steps.Says m (readied m.command r)
readied_on _ r = steps.TurnsAway

abbrev pub prepared_ruling : model.ServerEvent → Prepared → steps.Ruling
prepared_ruling e (prepared.Says ready) = readied_on e ready
prepared_ruling e (prepared.TakesIn connection) = steps.TakesIn connection
prepared_ruling e prepared.TurnsAway = steps.TurnsAway
prepared_ruling e (prepared.TakesOut connection quiet) = steps.TakesOut connection quiet
prepared_ruling e (prepared.TakesAllOut quiet) = steps.TakesAllOut quiet

-- the tables with all that it wants
abbrev pub ReadiedOn : Tables → model.Server → ℕ → model.ServerEvent → Ready → Type 0
ReadiedOn t s now (model.Heard m) r = IsReadied t s m now r
ReadiedOn t s now _ r = TablesShown t s

abbrev pub IsPrepared : Tables → model.Server → ℕ → model.ServerEvent → Prepared → Type 0
IsPrepared t s now e (prepared.Says ready) = ReadiedOn t s now e ready
IsPrepared t s now e _ = TablesShown t s

-- the room, which needs no state
abbrev pub RoomOn : Tables → Asked → Ready → Type 0
RoomOn t (askings.Says message logon) r = RoomFor t message.session_id message.connection r
RoomOn t _ r = ⊤

abbrev pub RoomToCarry : Tables → Asked → Prepared → Type 0
RoomToCarry t a (prepared.Says ready) = RoomOn t a ready
RoomToCarry t a (prepared.TakesIn connection) = HasConnectionRoom t.sessions
RoomToCarry t a _ = ⊤

-- it can be carried out: a verdict names what is there
abbrev pub AbleOn : model.Server → model.ServerEvent → Ready → Type 0
AbleOn s (model.Heard m) r = Able s m (readied m.command r)
AbleOn s _ r = ⊤

abbrev pub AbleToCarry : model.Server → model.ServerEvent → Prepared → Type 0
AbleToCarry s e (prepared.Says ready) = AbleOn s e ready
AbleToCarry s e _ = ⊤
