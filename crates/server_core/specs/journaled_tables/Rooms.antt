-- The room for a body: in the journal, and by the count that the tables keep.
use Rattle.std.specs.Prelude.{◌≡◌, ℕ, true, List, length}
use Rattle.journal_bytes.specs.record_bodies.Body.{fits_by}
use Rattle.server_core.specs.declared.journaled_tables.state.ServerState.{ServerState}
use Rattle.server_core.specs.body_writing.Bodies.{HasBodyRoom}

abbrev pub HasRoomToWrite : {D : Type 0} → ServerState D → List ℕ → Type 0
HasRoomToWrite c body = HasBodyRoom c.journal (length body) × (fits_by c.tables.journal (length body) ≡ true)
