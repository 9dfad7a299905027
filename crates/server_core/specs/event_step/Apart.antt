-- An event that is ready behind an expiry, its body behind the expiry's, on the tables without the open.
use Rattle.std.specs.Prelude.{◌≡◌, ℕ, List, Some}
use Rattle.spec_exchange.specs.State as model
use Rattle.spec_exchange.specs.Step.{expire, step}
use Rattle.law_snapshots.specs.snapshots.Pieces.{SnapshotPiece}
use Rattle.server_checks.specs.event_heard.Heard.{event_of, heard_event}
use Rattle.server_checks.specs.declared.event_heard.asked.Asked.{Asked}
use Rattle.server_checks.specs.declared.event_heard.event.ServerEvent.{ServerEvent}
use Rattle.server_core.specs.behind_expiry.Behind.{BothReady}
use Rattle.server_core.specs.declared.behind_expiry.behind.Both.{Both}
use Rattle.server_effects.specs.declared.expiry.expiry.Expired.{Expired}
use Rattle.server_core.specs.journaled_tables.Counted.{front_of}
use Rattle.server_core.specs.journaled_tables.Heard.{IsJournaledHeard}
use Rattle.server_core.specs.journaled_tables.Holds.{JournaledHeld}
use Rattle.server_core.specs.declared.journaled_tables.state.ServerState.{ServerState}
use Rattle.law_server.specs.tables.Fits.{Fits}
use Rattle.server_plan.specs.logon_steps.Steps.{PreparedStep}
use Rattle.server_checks.specs.session_table.Logons.{LogonsShown}
use Rattle.spec_crypto.specs.tokens.Tokens.{Users}
use Rattle.spec_world.specs.Ends.{Logons}

-- y is the state s without the open o
pub record ServerApart {D : Type 0} (told : Type 0) (seen : D → List ℕ) (may_leave : D → List ℕ → Type 0) (base : List SnapshotPiece)
    (c : ServerState D)
    (users : Users) (s y : model.Server) (L : Logons) (records : List model.Record) (now : ℕ) (e : ServerEvent) (a : Asked) (o : ℕ)
    (x : Expired) (both : Both) : Type 0 where
  pub held : JournaledHeld told seen may_leave base c s records
  pub logons : LogonsShown c.tables.sessions L.keys L.pending
  pub users_are : users ≡ c.tables.config.users
  pub heard : IsJournaledHeard users L s e a
  pub said : step s now (heard_event users L s e) ≡ step s now (event_of a)
  pub taken : x.taken.id ≡ o
  pub out : y ≡ expire s o
  pub fits : Fits y
  pub ready : BothReady c y now (event_of a) (front_of s (event_of a) o) (Some both)
  pub step_is : PreparedStep L a now both.prepared
