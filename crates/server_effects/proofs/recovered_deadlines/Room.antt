-- What is prepared of an event is so with other deadlines, and has its room.
use Rattle.std.proofs.Common.{◌<◌, ℕ, Bool, Option, sym, ap, subst}
use Rattle.spec_exchange.specs.State.{Accept, End, Heard, Server, ServerEvent, Stop}
use Rattle.server_effects.proofs.recovered_deadlines.Ready.{opened, readied, shown}
use Rattle.server_effects.proofs.recovered_deadlines.Same.{with}
use Rattle.server_effects.specs.recovered_deadlines.Dated.{HasRoomYet}
use Rattle.store_opens.specs.open_table.Shown.{HasResultRoom, HasRoomIn, ShowsOpens, next_of}
use Rattle.store_opens.specs.declared.open_table.table.Opens.{Opens}
use Rattle.server_checks.specs.declared.event_heard.asked.Asked.{Asked}
use Rattle.server_checks.specs.declared.event_heard.asked.Asked.TheVariants as askings
use Rattle.server_checks.specs.declared.tables.Tables.{Tables}
use Rattle.server_effects.specs.Making.{FileRoom}
use Rattle.server_effects.specs.declared.making.FileReady.{FileReady}
use Rattle.server_effects.specs.declared.making.FileReady.TheVariants as files
use Rattle.server_effects.specs.prepared_event.Prepared.{IsPrepared, ReadiedOn, RoomOn, RoomToCarry}
use Rattle.server_effects.specs.declared.prepared_event.prepared.Prepared.{Prepared}
use Rattle.server_effects.specs.declared.prepared_event.prepared.Prepared.TheVariants as prepared
use Rattle.server_effects.specs.reserved.Room.{RoomFor, StepRoom}
use Rattle.server_effects.specs.declared.reserved.ready.Ready.{Ready}
use Rattle.server_effects.specs.declared.reserved.ready.Ready.TheVariants as readies
use Rattle.server_effects.specs.declared.reserved.ready.SetupReady.{SetupReady}
use Rattle.server_effects.specs.declared.reserved.ready.SetupReady.TheVariants as steps

-- ---- what is prepared

readied_on : (t : Tables) (u : Opens) (s : Server) (f : ℕ → Option ℕ) (now : ℕ) (e : ServerEvent) (r : Ready) → ReadiedOn t s now e r
    → ShowsOpens u (with s f) → ReadiedOn (opened t u) (with s f) now e r
readied_on t u s f now (Heard m) r h o = readied t u s f m now r h o
readied_on t u s f now (Accept k) r h o = shown t u s f h o
readied_on t u s f now (End k) r h o = shown t u s f h o
readied_on t u s f now Stop r h o = shown t u s f h o

pub is_prepared : (t : Tables) (u : Opens) (s : Server) (f : ℕ → Option ℕ) (now : ℕ) (e : ServerEvent) (p : Prepared)
    → IsPrepared t s now e p → ShowsOpens u (with s f) → IsPrepared (opened t u) (with s f) now e p
is_prepared t u s f now e (prepared.Says ready) h o = readied_on t u s f now e ready h o
is_prepared t u s f now e (prepared.TakesIn connection) h o = shown t u s f h o
is_prepared t u s f now e prepared.TurnsAway h o = shown t u s f h o
is_prepared t u s f now e (prepared.TakesOut connection quiet) h o = shown t u s f h o
is_prepared t u s f now e (prepared.TakesAllOut quiet) h o = shown t u s f h o

-- ---- its room

file_room : (t : Tables) (u : Opens) (file : FileReady) → FileRoom t file → FileRoom (opened t u) file
file_room t u (files.New file) h = h
file_room t u (files.Emptied file attributes) h = h
file_room t u (files.AsItIs file) h = h

step_room : (t : Tables) (u : Opens) (k : ℕ) (step : SetupReady) → StepRoom t k step → StepRoom (opened t u) k step
step_room t u k (steps.Challenge list acceptor token) h = h
step_room t u k (steps.ChallengeBinding session list acceptor token) h = h
step_room t u k (steps.Begin session row token previous quiet) h = h
step_room t u k (steps.Join session keys token) h = h

in_next : (old new : Opens) (session : Option ℕ) (persistent : Bool) → HasRoomYet old new → HasRoomIn old session (next_of old) persistent
    → HasRoomIn new session (next_of new) persistent
in_next old new session persistent d h =
    subst (λ (n : ℕ). HasRoomIn new session n persistent) (sym (ap next_of d.rest)) (d.in_new session (next_of old) persistent h)

room_for : (t : Tables) (u : Opens) (x k : ℕ) (r : Ready) → HasRoomYet t.opens u → RoomFor t x k r → RoomFor (opened t u) x k r
room_for t u x k (readies.Refuse status) d h = h
room_for t u x k (readies.Give body) d h = h
room_for t u x k (readies.KeepRefusal guid status) d h = subst (λ (o : Opens). HasResultRoom o x) (sym d.rest) h
room_for t u x k (readies.Repeat id) d h = d.in_session x id h
room_for t u x k (readies.Attach id) d h = d.in_session x id h
room_for t u x k (readies.Make file row) d h = (
  file_room t u file h.0,
  d.room h.1,
  in_next t.opens u row.session row.persistent d h.2,
  subst (λ (o : Opens). o.given < 0xffff_ffff) (sym d.rest) h.3,
)
room_for t u x k (readies.TurnDown id status) d h = h
room_for t u x k (readies.Tell id body) d h = h
room_for t u x k (readies.Show id last body) d h = h
room_for t u x k (readies.Seek id position) d h = h
room_for t u x k (readies.KeepSlot id index number status) d h = h
room_for t u x k (readies.PutRanges id index number ranges) d h = h
room_for t u x k (readies.Alter id change body acted) d h = h
room_for t u x k (readies.CloseOpen id body) d h = h
room_for t u x k (readies.Setup step) d h = step_room t u k step h
room_for t u x k (readies.EndSession session quiet) d h = h
room_for t u x k (readies.AddTree pipes) d h = h
room_for t u x k (readies.DropTree opens) d h = h

room_on : (t : Tables) (u : Opens) (a : Asked) (r : Ready) → HasRoomYet t.opens u → RoomOn t a r → RoomOn (opened t u) a r
room_on t u (askings.Says message logon) r d h = room_for t u message.session_id message.connection r d h
room_on t u (askings.Accept connection) r d h = h
room_on t u (askings.End connection) r d h = h
room_on t u askings.Stop r d h = h

pub to_carry : (t : Tables) (u : Opens) (a : Asked) (p : Prepared) → HasRoomYet t.opens u → RoomToCarry t a p → RoomToCarry (opened t u) a p
to_carry t u a (prepared.Says ready) d h = room_on t u a ready d h
to_carry t u a (prepared.TakesIn connection) d h = h
to_carry t u a prepared.TurnsAway d h = h
to_carry t u a (prepared.TakesOut connection quiet) d h = h
to_carry t u a (prepared.TakesAllOut quiet) d h = h
