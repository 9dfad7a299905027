-- The ordered checks of a message; the first that applies answers (MS-SMB2 3.3.5.2).
use Rattle.std.specs.Prelude.{ℕ, ◌==◌, Bool, false, ◌||◌, if◌then◌else◌, Option, Some, None}
use Rattle.spec_exchange.specs.Table.{is_at}
use Rattle.spec_exchange.specs.Status.{user_session_deleted, network_name_deleted, file_closed, not_supported}
use Rattle.spec_exchange.specs.Commands.{Command, Unreadable, Aside, Setup, Logoff, TreeConnect, TreeDisconnect, Create}
use Rattle.spec_exchange.specs.Commands.{Close, Flush, Read, Write, Lock, Ioctl, ListDirectory, QueryFile, QueryVolume}
use Rattle.spec_exchange.specs.Commands.{SetInfo, form, is_setup, no_file}
use Rattle.spec_exchange.specs.State.{Server, Message}
use Rattle.spec_exchange.specs.Opens.{is_of_tree}
use Rattle.spec_exchange.specs.Verdict.{Verdict, Refuse, EndSession, DropTree}
use Rattle.spec_exchange.specs.CheckCreate.{create_check}
use Rattle.spec_exchange.specs.CheckOpen.{close_check, flush_check, read_check, write_check, lock_check, ioctl_check}
use Rattle.spec_exchange.specs.CheckOpen.{free_ioctl_check, list_check, file_query_check, volume_query_check, set_check}
use Rattle.spec_exchange.specs.CheckSetup.{setup_check, tree_check, tree_in}

-- check 1: the id names a live session with a channel on this connection
abbrev pub has_session : Server → Message → Bool
has_session s m = is_at m.session_id (s.session_on m.connection)

-- check 5, that the open is one of this session and this tree, and then those of the request itself
abbrev pub on_open : Server → Message → ℕ → Verdict → Verdict
on_open s m o v = if is_of_tree s o m.session_id m.tree_id then v else Refuse file_closed

-- behind check 4, with whether the tree is that of the pipes
abbrev pub tree_command : Server → Message → Bool → Command → Verdict
tree_command s m pipes (Unreadable status) = Refuse status
tree_command s m pipes TreeDisconnect = DropTree
tree_command s m pipes (Create request) = create_check s m request pipes
tree_command s m pipes (Close o query) = on_open s m o (close_check s o query)
tree_command s m pipes (Flush o) = on_open s m o (flush_check s o)
tree_command s m pipes (Read o at size minimum channel) = on_open s m o (read_check s o at size minimum)
tree_command s m pipes (Write o at bytes channel) = on_open s m o (write_check s m o at bytes)
tree_command s m pipes (Lock o index number elements) = on_open s m o (lock_check s o index number elements)
tree_command s m pipes (Ioctl o code room) = if o == no_file then free_ioctl_check s code room else on_open s m o
    (ioctl_check s m o code room)
tree_command s m pipes (ListDirectory o class restart single pattern room) =
    on_open s m o (list_check s o class restart single pattern room)
tree_command s m pipes (QueryFile o class room) = on_open s m o (file_query_check s o class room)
tree_command s m pipes (QueryVolume o class room) = on_open s m o (volume_query_check s o class room)
tree_command s m pipes (SetInfo o setting) = on_open s m o (set_check s m o setting)
tree_command s m pipes _ = Refuse not_supported

-- check 4: the tree is there
abbrev pub in_tree : Server → Message → Option Bool → Verdict
in_tree s m None = Refuse network_name_deleted
in_tree s m (Some pipes) = tree_command s m pipes m.command

abbrev pub with_tree : Server → Message → Verdict
with_tree s m = in_tree s m (tree_in (s.trees m.session_id) m.tree_id)

-- NEGOTIATE and ECHO are no event and don't come here; SESSION_SETUP comes before a session is there
abbrev pub command_check : Server → Message → Command → Verdict
command_check s m (Unreadable status) = Refuse status
command_check s m (Setup request) = setup_check s m request
command_check s m Logoff = EndSession m.session_id false
command_check s m (TreeConnect share) = tree_check s m share
command_check s m (Aside status) = Refuse status
command_check s m _ = with_tree s m

-- check 3: the body reads and keeps its form
abbrev pub formed : Server → Message → Option ℕ → Verdict
formed s m (Some status) = Refuse status
formed s m None = command_check s m m.command

-- check 2: the request is signed or sealed as owed
abbrev pub owed : Server → Message → Option ℕ → Verdict
owed s m (Some status) = Refuse status
owed s m None = formed s m (form m.command)

-- A SESSION_SETUP meets neither check 1 nor what check 2 says of signing and sealing: its fault is to stand behind
-- another one in its frame.
abbrev pub check : Server → Message → Verdict
check s m = if is_setup m.command || has_session s m then owed s m m.fault else Refuse user_session_deleted
