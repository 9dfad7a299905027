-- One event of the server: a connection made or lost (MS-SMB2 3.3.5.1, 3.3.7.1) or a request (3.3.5.2); in front of it an open
-- that expires (3.3.6.2), behind it what the journal holds.
use Rattle.std.specs.Prelude.{ℕ, ◌+◌, nat_le, Bool, true, false, not, ◌&&◌, ◌||◌, if◌then◌else◌, List, [], ◌∷◌, ◌++◌}
use Rattle.std.specs.Prelude.{length, Option, Some, None, is_some}
use Rattle.spec_exchange.specs.Table.{put, put2, without}
use Rattle.spec_exchange.specs.Status.{success, insufficient_resources, disk_full}
use Rattle.spec_exchange.specs.State.{Server, Message, ServerEvent, Accept, Heard, End, Stop, Open, Empty, Record}
use Rattle.spec_exchange.specs.State.{Origin, ExpireRecord, Answer}
use Rattle.spec_exchange.specs.Opens.{drop_open, leave_open, pending_behind, left_file_records}
use Rattle.spec_exchange.specs.CheckCreate.{refused_create}
use Rattle.spec_exchange.specs.CheckSetup.{count_channels}
use Rattle.spec_exchange.specs.Check.{check}
use Rattle.spec_exchange.specs.Records.{origin_at, entry_bytes, fits}
use Rattle.spec_exchange.specs.Effects.{apply, deadline_behind, end_if_named, records_if_named, acts_if_named}
use Rattle.spec_exchange.specs.Verdict.{Verdict, Refuse, Give, KeepRefusal, Repeat, Attach, Make, TurnDown, Tell, Show}
use Rattle.spec_exchange.specs.Verdict.{KeepSlot, PutRanges, Alter, CloseOpen, Challenge, ChallengeBinding, Begin, Join}
use Rattle.spec_exchange.specs.Verdict.{EndSession, AddTree, DropTree}

abbrev pub max_connections : ℕ
max_connections = 256

abbrev pub max_expired_guids : ℕ
max_expired_guids = 65536

-- ---- the ruling on an event, before anything changes: the verdict on a message, or what becomes of a connection

pub data Ruling : Type 0 where
  Says : (message : Message) (verdict : Verdict) → Ruling
  TakesIn : (connection : ℕ) → Ruling  -- the connection is accepted (3.3.5.1)
  TurnsAway : Ruling  -- it isn't, since there are 256
  TakesOut : (connection : ℕ) (quiet : Bool) → Ruling  -- it is lost (3.3.7.1); quiet: no record fits, so files stay as they are
  TakesAllOut : (quiet : Bool) → Ruling  -- the server stops: all are

abbrev pub ruling : Server → ServerEvent → Ruling
ruling s (Heard m) = Says m (check s m)
ruling s (Accept k) = if nat_le max_connections (length s.connections) then TurnsAway else TakesIn k
ruling s (End k) = TakesOut k false
ruling s Stop = TakesAllOut false

-- ---- where the records don't fit below the lower limit: DISK_FULL in their place, and a session that ends without them

abbrev pub without_room : Verdict → Verdict
without_room (Refuse status) = Refuse status
without_room (Give body) = Give body
without_room (KeepRefusal guid status) = KeepRefusal guid status
without_room (Repeat o r) = Repeat o r
without_room (Attach o r) = Attach o r
without_room (Make r found action) = refused_create r disk_full
without_room (TurnDown o status) = TurnDown o status
without_room (Tell o body) = Tell o body
without_room (Show o place body) = Show o place body
without_room (KeepSlot o index number status elements) = TurnDown o disk_full
without_room (PutRanges o index number ranges elements) = TurnDown o disk_full
without_room (Alter o change body) = TurnDown o disk_full
without_room (CloseOpen o body) = TurnDown o disk_full
without_room Challenge = Challenge
without_room (ChallengeBinding session) = ChallengeBinding session
without_room (Begin session user previous r is_quiet) = Begin session user previous r true
without_room (Join session) = Join session
without_room (EndSession session is_quiet) = EndSession session true
without_room (AddTree pipes) = AddTree pipes
without_room DropTree = Refuse disk_full

abbrev pub ruling_without_room : Ruling → Ruling
ruling_without_room (Says m v) = Says m (without_room v)
ruling_without_room (TakesIn k) = TakesIn k
ruling_without_room TurnsAway = TurnsAway
ruling_without_room (TakesOut k is_quiet) = TakesOut k true
ruling_without_room (TakesAllOut is_quiet) = TakesAllOut true

-- ---- connections that end

-- the session that has its last channel on this connection
abbrev pub last_session : Server → ℕ → Option ℕ → Option ℕ
last_session s k None = None
last_session s k (Some session) = if nat_le (count_channels s.session_on s.connections session) 1 then Some session else None

abbrev pub ends_with : Server → ℕ → Option ℕ
ends_with s k = last_session s k (s.session_on k)

abbrev pub forget_connection : Server → ℕ → Server
forget_connection s k = record s {
  connections = without k s.connections;
  session_on = put s.session_on k None;
  making = put s.making k None;
}

abbrev pub take_out : Server → ℕ → ℕ → Bool → Server
take_out s k now is_quiet = forget_connection (end_if_named s now (ends_with s k) is_quiet) k

unfoldable pub take_all_out : Server → List ℕ → ℕ → Bool → Server
take_all_out s [] now is_quiet = s
take_all_out s (k ∷ ks) now is_quiet = take_all_out (take_out s k now is_quiet) ks now is_quiet

unfoldable pub take_all_records : Server → List ℕ → ℕ → Bool → List Record
take_all_records s [] now is_quiet = []
take_all_records s (k ∷ ks) now is_quiet = records_if_named s (origin_at 0) (ends_with s k) is_quiet
    ++ take_all_records (take_out s k now is_quiet) ks now is_quiet

unfoldable pub take_all_acts : Server → List ℕ → ℕ → Bool → Bool
take_all_acts s [] now is_quiet = false
take_all_acts s (k ∷ ks) now is_quiet = acts_if_named s (ends_with s k) || take_all_acts (take_out s k now is_quiet) ks now is_quiet

-- ---- the answer to an event, apart from the expiry in front of it

-- the answer to a connection's event (Accept, End, Stop): it goes into no message, so it has neither ids nor a body
abbrev pub connection_answer : Server → ℕ → List Record → Bool → Answer
connection_answer s status records acted =
    record {
      server = s;
      reply = record { status = status; session_id = 0; tree_id = 0; body = Empty };
      records = records;
      acted = acted;
      reached = None;
      altered = None;
    }

-- the ruling carried out: the state behind it, the reply, and the records that the journal owes for it
abbrev pub carried_out : Server → ℕ → Ruling → Answer
carried_out s now (Says m v) = apply s m now v
carried_out s now (TakesIn k) = connection_answer (record s { connections = s.connections ++ k ∷ [] }) success [] false
carried_out s now TurnsAway = connection_answer s insufficient_resources [] false
carried_out s now (TakesOut k is_quiet) = connection_answer (take_out s k now is_quiet) success
    (records_if_named s (origin_at k) (ends_with s k) is_quiet) (acts_if_named s (ends_with s k))
carried_out s now (TakesAllOut is_quiet) = connection_answer (take_all_out s s.connections now is_quiet) success
    (take_all_records s s.connections now is_quiet) (take_all_acts s s.connections now is_quiet)

-- that answer where its records fit the journal, else what the ruling without room does
abbrev pub where_it_fits : Server → ℕ → Ruling → Answer → Answer
where_it_fits s now r A = if fits s A.records then A else carried_out s now (ruling_without_room r)

-- what MS-SMB2 3.3.5 says of the event: it is ruled on and carried out
abbrev pub event_answer : Server → ℕ → ServerEvent → Answer
event_answer s now e = where_it_fits s now (ruling s e) (carried_out s now (ruling s e))

-- ---- expiry

-- an open that recovery found gets its deadline at the first event
abbrev pub first_deadline : ℕ → Bool → Option ℕ → Open → Option ℕ → Option ℕ
first_deadline now stands at row deadline = if stands && (not (is_some at) && not (is_some deadline)) then Some
    (deadline_behind now row.timeout) else deadline

abbrev pub with_deadlines : Server → ℕ → Server
with_deadlines s now = record s { deadline = λ o. first_deadline now (s.standing o) (s.session_of_open o) (s.opened o) (s.deadline o) }

abbrev pub is_past : ℕ → Option ℕ → Bool
is_past now None = false
is_past now (Some d) = nat_le d now

unfoldable pub due_in : (ℕ → Option ℕ) → List ℕ → ℕ → Option ℕ
due_in deadline [] now = None
due_in deadline (o ∷ os) now = if is_past now (deadline o) then Some o else due_in deadline os now

-- the open of the least id whose deadline isn't above now
abbrev pub due : Server → ℕ → Option ℕ
due s now = due_in s.deadline s.opens now

abbrev pub add_expired_guid : Server → ℕ → Option ℕ → Server
add_expired_guid s client None = s
add_expired_guid s client (Some g) = record s { expired_guids = put2 s.expired_guids client g true; expired_count = s.expired_count + 1 }

-- it leaves, with its file where that goes, and its guids are kept as expired
abbrev pub expire : Server → ℕ → Server
expire s o = add_expired_guid (leave_open s o) (s.opened o).client_guid (s.opened o).create_guid

unfoldable pub expire_records : Server → Origin → ℕ → List Record
expire_records s origin o = ExpireRecord origin o ∷ left_file_records (drop_open (pending_behind s o) o) origin (s.opened o).file

abbrev pub connection_of : ServerEvent → ℕ
connection_of (Accept k) = k
connection_of (Heard m) = m.connection
connection_of (End k) = k
connection_of Stop = 0

-- the event's own answer behind the expiry, in one body with the expiry's records, where both fit; else none expires
abbrev pub behind_expiry : Server → ℕ → ServerEvent → List Record → Answer → Answer
behind_expiry s now e front A = if fits s (front ++ A.records) then record A { records = front ++ A.records } else event_answer s now e

abbrev pub expiring : Server → ℕ → ServerEvent → Option ℕ → Answer
expiring s now e None = event_answer s now e
expiring s now e (Some o) =
    if nat_le max_expired_guids s.expired_count then event_answer s now e
    else behind_expiry s now e (expire_records s (origin_at (connection_of e)) o) (carried_out (expire s o) now (ruling (expire s o) e))

-- ---- the step

-- all records of the event are on the disk, as one body, before its reply goes out

abbrev pub written_down : Answer → Answer
written_down A = record A { server = record A.server { journal = A.server.journal + entry_bytes A.records } }

abbrev pub step : Server → ℕ → ServerEvent → Answer
step s now e = written_down (expiring (with_deadlines s now) now e (due (with_deadlines s now) now))
