-- Related messages (MS-SMB2 3.2.4.1.4, 3.3.5.2.7.2): what a message of a frame hands on to the next one that is related to it.
use Rattle.std.specs.Prelude.{ℕ, ◌+◌, ◌==◌, nat_le, Bool, not, ◌||◌, if◌then◌else◌, List, ◌++◌, length, take, drop}
use Rattle.std.specs.Prelude.{replicate, Option, Some, None, is_some}
use Rattle.std.specs.Str.{bytes_eq}
use Rattle.spec_wire.specs.messages.Places.{bytes_at}
use Rattle.spec_exchange.specs.Status.{success}
use Rattle.spec_exchange.specs.State.{Body, Created, Reply}
use Rattle.spec_commands.specs.Ids.{file_id}
use Rattle.spec_world.specs.Hearing.{Checked}

-- The ids that a related message takes over. A chain begins at a message that isn't related; status is that of its last CREATE so far,
-- success where it has none.
pub record Carry : Type 0 where
  pub status : ℕ
  pub session : ℕ
  pub tree : ℕ
  pub file : List ℕ

-- where a request names its open, counted from the header (2.2.15 to 2.2.39)
unfoldable pub file_place : ℕ → Option ℕ
file_place n =
    if n == 6 then Some 72
    else if n == 7 then Some 72
    else if n == 8 then Some 80
    else if n == 9 then Some 80
    else if n == 10 then Some 72
    else if n == 11 then Some 72
    else if n == 14 then Some 72
    else if n == 16 then Some 88
    else if n == 17 then Some 80
    else None

-- 16 zeros, which no open has
abbrev pub no_file_id : List ℕ
no_file_id = replicate 16 0

-- 16 bytes FF, by which an IOCTL names no open, are that of an unrelated request alone: a related one is handed zeros
abbrev pub handed_on : List ℕ → List ℕ
handed_on file = if bytes_eq file (replicate 16 0xff) then no_file_id else file

-- the FileId at its place in a request
abbrev pub file_at : ℕ → List ℕ → List ℕ
file_at place m = if nat_le (place + 16) (length m) then bytes_at 16 m place else no_file_id

abbrev pub with_file_at : Option ℕ → List ℕ → List ℕ → List ℕ
with_file_at None file m = m
with_file_at (Some place) file m = if nat_le (place + 16) (length m) then take place m ++ (file ++ drop (place + 16) m) else m

-- the request with another FileId, where it has room for one
unfoldable pub with_file : ℕ → List ℕ → List ℕ → List ℕ
with_file n file m = with_file_at (file_place n) file m

-- ---- what is handed on: a create's open, else the one that the message names itself; where it can name none, as an ECHO, the one that
-- was handed to it in its chain

abbrev pub file_before : Option Carry → Checked → List ℕ
file_before None c = no_file_id
file_before (Some y) c = if c.related then y.file else no_file_id

abbrev pub file_from : Option ℕ → Option Carry → Checked → List ℕ
file_from None before c = file_before before c
file_from (Some place) before c = handed_on (file_at place c.bytes)

unfoldable pub file_past : Option Carry → Checked → List ℕ
file_past before c = file_from (file_place c.header.command) before c

abbrev pub file_behind : Option Carry → Checked → Body → List ℕ
file_behind before c (Created reply) = file_id reply.id
file_behind before c _ = file_past before c

-- the status of the last CREATE in front of a message in its chain
abbrev pub create_before : Option Carry → Checked → ℕ
create_before None c = success
create_before (Some y) c = if c.related then y.status else success

-- and behind it, where it was answered with this status
abbrev pub create_behind : Option Carry → Checked → ℕ → ℕ
create_behind before c status = if c.header.command == 5 then status else create_before before c

-- behind a message that was answered, NEGOTIATE and ECHO too
abbrev pub carried_behind : Option Carry → Checked → Reply → Carry
carried_behind before c r = record {
  status = create_behind before c r.status;
  session = r.session_id;
  tree = r.tree_id;
  file = file_behind before c r.body;
}

-- behind one that has no answer of its own, of this status
abbrev pub carried_past : Option Carry → Checked → ℕ → Carry
carried_past before c status = record {
  status = create_behind before c status;
  session = c.header.session;
  tree = c.header.tree;
  file = file_past before c;
}

-- ---- what becomes of a message: it goes its way, or fails with the status of its chain's last CREATE; what was handed on then stays

pub data Turn : Type 0 where
  Goes : (message : Checked) → Turn
  Fails : (status : ℕ) → Turn

abbrev pub with_ids : Checked → Carry → Checked
with_ids c y = record c {
  header = record c.header { session = y.session; tree = y.tree };
  bytes = with_file c.header.command y.file c.bytes;
}

-- A reply to one that fails tells the ids of what it is related to: its own header may have FF throughout.
abbrev pub failed_as : Option Carry → Checked → Checked
failed_as None c = c
failed_as (Some y) c = record c { header = record c.header { session = y.session; tree = y.tree } }

-- Only what names an open fails with a CREATE (3.3.5.2.7.2): behind any other failure it is carried out.
abbrev pub can_follow : Checked → Carry → Bool
can_follow c y = not (is_some (file_place c.header.command)) || (y.status == success)

abbrev pub related_turn : Checked → Carry → Turn
related_turn c y = if can_follow c y then Goes (with_ids c y) else Fails y.status

abbrev pub turn_of : Option Carry → Checked → Turn
turn_of None c = Goes c
turn_of (Some y) c = if c.related then related_turn c y else Goes c
