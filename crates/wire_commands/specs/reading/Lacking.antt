-- For which messages memory may run out: those of which a text, a list or names are kept, where they are paid for and read.
use Rattle.std.specs.Prelude.{ℕ, Bool, false, not, ◌&&◌, ◌==◌, if◌then◌else◌, List, is_some, None, ◌≡◌}
use Rattle.spec_wire.specs.messages.TreeConnect.{tree_connect_request_fault}
use Rattle.spec_wire.specs.messages.Create.{create_request_fault}
use Rattle.spec_wire.specs.messages.Lock.{lock_request_fault}
use Rattle.spec_wire.specs.messages.QueryDirectory.{query_directory_request_fault, query_directory_response_fault}
use Rattle.spec_wire.specs.messages.SetInfo.{SetInfoRequestValue, set_info_request_in, set_info_request_fault}
use Rattle.spec_wire.specs.messages.FileClasses.{file_rename_information_fault}
use Rattle.spec_wire.specs.messages.Read.{read_response_fault}
use Rattle.spec_exchange.specs.Commands.{Command, Read, ListDirectory}
use Rattle.spec_commands.specs.Charges.{is_undercharged}

-- of a SET_INFO the new name of a file
abbrev pub sets_name : SetInfoRequestValue → Bool
sets_name v = (v.info_type == 1) && ((v.file_info_class == 10) && not (is_some (file_rename_information_fault v.payload)))

-- a request of this command and CreditCharge
abbrev pub may_lack : ℕ → ℕ → List ℕ → Bool
may_lack n paid m =
    if n == 3 then not (is_some (tree_connect_request_fault m))
    else if n == 5 then not (is_some (create_request_fault m))
    else if n == 10 then not (is_some (lock_request_fault m))
    else if n == 14 then not (is_undercharged 14 paid m) && not (is_some (query_directory_request_fault m))
    else if n == 17 then not (is_undercharged 17 paid m) && (not (is_some (set_info_request_fault m)) && sets_name (set_info_request_in m))
    else false

-- the response to a command, of which bytes or names are kept
abbrev pub ReplyLacks : Command → List ℕ → Type 0
ReplyLacks (Read file at size minimum channel) m = read_response_fault m ≡ None
ReplyLacks (ListDirectory file class restart single pattern room) m = query_directory_response_fault m ≡ None
ReplyLacks _ m = ⊥
