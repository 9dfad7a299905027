-- What a response (MS-SMB2 3.2.5) does to the operation that it answers: the settling table.
use Rattle.std.specs.Prelude.{ℕ, ◌==◌, nat_lt, Bool, true, not, ◌&&◌, ◌||◌, if◌then◌else◌, [], ◌∷◌, ◌++◌, Option, Some, None}
use Rattle.spec_exchange.specs.Table.{put, put2, is_at}
use Rattle.spec_exchange.specs.Status.{success, user_session_deleted, file_not_available, file_closed}
use Rattle.spec_exchange.specs.Status.{object_name_not_found, duplicate_objectid, no_memory, disk_full}
use Rattle.spec_exchange.specs.Status.{file_lock_conflict}
use Rattle.spec_exchange.specs.State.{Reply, Body}
use Rattle.spec_exchange.specs.Operations.{Op, OpReply, Outcome, Unsettled, WasOk, WasRefused, NoOpen, Unknown}
use Rattle.spec_exchange.specs.Operations.{WithStatus, is_create, is_lock, is_close, is_write, is_change, value_in}
use Rattle.spec_exchange.specs.Operations.{id_in, IsDone}
use Rattle.spec_exchange.specs.Client.{Client, create_for, is_gone_after, end_session}

-- what hearing a reply comes to
pub data Heard : Type 0 where
  Settles : (outcome : Outcome) → Heard
  GoesAgain : Heard  -- it goes out again
  Attaches : Heard  -- a DH2C attached its open, and nothing is settled
  EndsSession : Heard

-- ---- the table; the first line that applies decides

-- a success whose body doesn't read as the operation's
abbrev pub ok_or_unknown : Option OpReply → Heard
ok_or_unknown None = Settles (Unknown (WithStatus success))
ok_or_unknown (Some reply) = Settles (WasOk reply)

-- a refusal that an unanswered copy can't have been spared: it refused every copy
abbrev pub refuses_all : Op → ℕ → Bool
refuses_all op status =
    if is_create op then not (status == no_memory)
    else if is_lock op then not ((status == no_memory) || (status == disk_full))
    else is_write op && ((status == file_lock_conflict) || (status == disk_full))

-- a close that an unanswered copy did already
abbrev pub was_closed : Op → Bool → ℕ → Bool
was_closed op asking status = is_close op && ((not asking && (status == file_closed)) || (asking && (status == object_name_not_found)))

-- the open, or a create's guid, may have expired
abbrev pub may_have_acted : Op → Bool → ℕ → Bool
may_have_acted op asking status = (not asking && (is_create op && (status == duplicate_objectid)))
    || (asking && (status == object_name_not_found))

-- another status than success, where the operation may go out again no more
abbrev pub refused : Op → Bool → Bool → ℕ → Heard
refused op asking unanswered status =
    if not unanswered then Settles (WasRefused status)
    else if was_closed op asking status then Settles (WasOk IsDone)
    else if may_have_acted op asking status then Settles (Unknown (WithStatus status))
    else if refuses_all op status then Settles (WasRefused status)
    else Settles (Unknown (WithStatus status))

abbrev pub goes_again : Client → ℕ → Bool → ℕ → Bool
goes_again c g asking status = not asking && (is_change (c.op g) && ((status == file_not_available) && nat_lt (c.sequence_of g) c.sequence))

-- a reply to an operation, or to the DH2C in its place
abbrev pub heard : Client → ℕ → Bool → Reply → Heard
heard c g asking r =
    if r.status == user_session_deleted then EndsSession
    else if r.status == success then (if asking then Attaches else ok_or_unknown (value_in (c.op g) r.body))
    else if goes_again c g asking r.status then GoesAgain
    else refused (c.op g) asking (c.unanswered g) r.status

-- ---- what it does

-- an operation that never went out settles at once where its create gives no open any more
abbrev pub without_open : Bool → Bool → Bool → ℕ → Outcome → Outcome
without_open names sent gone create Unsettled = if names && (not sent && gone) then NoOpen create else Unsettled
without_open names sent gone create r = r

-- the outcomes behind the settling of this create, or of a close of it
abbrev pub give_up_on : Client → ℕ → ℕ → Outcome
give_up_on c create g = let gone = is_gone_after c create (c.outcome create) in
    without_open ((create_for c g == create) && not (is_create (c.op g))) (c.sent g) gone create (c.outcome g)

abbrev pub settles_open : Op → Bool
settles_open op = is_create op || is_close op

abbrev pub with_no_opens : Client → ℕ → Client
with_no_opens c create = record c { outcome = λ g. give_up_on c create g }

-- a create's success opens in this session, and a close's shuts
abbrev pub noted_ok : Client → ℕ → Body → Client
noted_ok c g body =
    if is_create (c.op g) then record c { file = put c.file g (id_in body); attached = put c.attached g c.session_number }
    else if is_close (c.op g) then record c { closed_ok = put c.closed_ok (create_for c g) true }
    else c

abbrev pub noted : Client → ℕ → Outcome → Body → Client
noted c g (WasOk reply) body = noted_ok c g body
noted c g _ body = c

-- a lock that met DISK_FULL, whose slot is used no more
abbrev pub noted_full : Client → ℕ → Bool → ℕ → Client
noted_full c g asking status = if is_lock (c.op g) && (not asking && (status == disk_full)) then record c {
  full = put2 c.full (create_for c g) (c.slot_of g) true;
} else c

abbrev pub settled : Client → ℕ → Outcome → ℕ → Client
settled c g outcome place = record c {
  outcome = put c.outcome g outcome;
  outstanding_on = put c.outstanding_on g None;
  settled_by = put c.settled_by g (Some place);
  order = c.order ++ g ∷ [];
}

abbrev pub settle : Client → ℕ → Bool → Reply → ℕ → Outcome → Client
settle c g asking r place outcome =
    let d = settled (noted_full (noted c g outcome r.body) g asking r.status) g outcome place in
    if settles_open (c.op g) then with_no_opens d (create_for c g) else d

abbrev pub answered : Client → ℕ → Client
answered c g = record c { outstanding_on = put c.outstanding_on g None }

abbrev pub joined : Client → ℕ → Client
joined c g = record c { outstanding_on = put c.outstanding_on g None; attached = put c.attached (create_for c g) c.session_number }

abbrev pub hear : Client → ℕ → Bool → Reply → ℕ → Heard → Client
hear c g asking r place (Settles outcome) = settle c g asking r place outcome
hear c g asking r place GoesAgain = answered c g
hear c g asking r place Attaches = joined c g
hear c g asking r place EndsSession = end_session (answered c g)

-- what is outstanding there is this copy, or this DH2C
abbrev pub is_awaited : Client → ℕ → ℕ → Bool → Bool
is_awaited c k g asking = is_at k (c.outstanding_on g) && (if c.asks_attach g then asking else not asking)
