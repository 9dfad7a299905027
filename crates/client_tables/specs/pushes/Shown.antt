-- What an operation's open shows of the model's client, as far as a push looks at it.
use Rattle.std.specs.Prelude.{◌≡◌, ℕ, ◌<◌, List}
use Rattle.spec_exchange.specs.Client.{Client, create_for}
use Rattle.client_rows.specs.declared.operation_rows.row.Row.{Row}
use Rattle.client_rows.specs.declared.operation_rows.slots.Slot.{Slot}
use Rattle.client_rows.specs.declared.session_state.session.Session.{Session}
use Rattle.client_rows.specs.session_state.Shown.{ClientShowsSession}
use Rattle.client_rows.specs.lock_slots.Shown.{ShowsSlots}

-- the session, which is the first one or a later one, the number of the session in which the open of operation g was attached last,
-- and the open's lock slots
pub record PushShowsOpen (rows : List Row) (slots : List Slot) (session : Session) (attached g : ℕ) (c : Client) : Type 0 where
  pub in_session : ClientShowsSession session c
  pub attached_in : c.attached (create_for c g) ≡ attached
  pub counted : 0 < c.session_number
  pub has_slots : ShowsSlots rows slots c.session_number c (create_for c g)
