-- The reply that a client hears of a response to its command, as far as it looks (MS-SMB2 3.2.5).
use Rattle.std.specs.Prelude.{ℕ, ◌==◌, false, is_some, if◌then◌else◌, List, [], ◌∷◌, Option, Some, None, option_map, option_and_then}
use Rattle.spec_wire.specs.declared.messages.header.Header.{Header}
use Rattle.spec_wire.specs.declared.messages.error.MessageError.{MessageError}
use Rattle.spec_wire.specs.declared.messages.directory_class.DirectoryClass.{DirectoryClass}
use Rattle.spec_wire.specs.messages.Bare.{bare_fault}
use Rattle.spec_wire.specs.messages.SessionSetup.{session_setup_response_in, session_setup_response_fault}
use Rattle.spec_wire.specs.messages.TreeConnect.{tree_connect_response_in, tree_connect_response_fault}
use Rattle.spec_wire.specs.messages.CreateResponse.{CreateResponseValue, create_response_in, create_response_fault}
use Rattle.spec_wire.specs.messages.Close.{close_response_fault}
use Rattle.spec_wire.specs.messages.Flush.{flush_response_fault}
use Rattle.spec_wire.specs.messages.Read.{read_response_in, read_response_fault}
use Rattle.spec_wire.specs.messages.Write.{write_response_in, write_response_fault}
use Rattle.spec_wire.specs.messages.LockResponse.{lock_response_fault}
use Rattle.spec_wire.specs.messages.QueryDirectory.{query_directory_response_in, query_directory_response_fault}
use Rattle.spec_wire.specs.messages.QueryInfo.{query_info_response_in, query_info_response_fault}
use Rattle.spec_wire.specs.messages.SetInfo.{set_info_response_fault}
use Rattle.spec_wire.specs.messages.FileClasses.{file_standard_information_in, file_standard_information_fault}
use Rattle.spec_wire.specs.messages.Directory.{DirectoryEntryValue, directory_entry_in, first_entry_fault}
use Rattle.spec_exchange.specs.Status.{success}
use Rattle.spec_exchange.specs.Commands.{Command, Setup, Logoff, TreeConnect, TreeDisconnect, Create, Close, Flush}
use Rattle.spec_exchange.specs.Commands.{Read, Write, Lock, ListDirectory, QueryFile, SetInfo, Basic, has_bit}
use Rattle.spec_exchange.specs.State.{Info, CreateReply, Named, Body, Empty, Created, Content, Count, Interfaces}
use Rattle.spec_exchange.specs.State.{Listing, FileInfo, SetUp, Connected, Reply}
use Rattle.spec_commands.specs.Ids.{file_kept}
use Rattle.spec_commands.specs.Text.{text_in}
use Rattle.spec_commands.specs.Items.{items_in}
use Rattle.spec_commands.specs.Tables.{directory_class}

-- the body, where nothing breaks
abbrev pub unless : Option MessageError → Option Body → Option Body
unless (Some e) body = None
unless None body = body

-- ---- of a file a client looks at its length alone

abbrev pub no_times : Basic
no_times = record { created = 0; accessed = 0; written = 0; changed = 0; attributes = 0 }

abbrev pub of_length : ℕ → Info
of_length size = record { file = 0; is_directory = false; size = size; is_delete_pending = false; times = no_times }

-- ---- CREATE (2.2.14): of its success at the action and the open

abbrev pub created_of : CreateResponseValue → CreateReply
created_of v = record {
  id = file_kept v.file_id;
  action = v.create_action;
  info = of_length v.end_of_file;
  timeout =
      None;
  maximal = false;
  disk_id = false;
}

-- ---- QUERY_DIRECTORY (2.2.34): at the names

abbrev pub named_of : ℕ → List ℕ → Named
named_of size name = record { name = name; info = of_length size }

abbrev pub in_front : Option Named → Option (List Named) → Option (List Named)
in_front None ns = None
in_front (Some n) ns = option_map (λ ns. n ∷ ns) ns

unfoldable pub names_of : List DirectoryEntryValue → Option (List Named)
names_of [] = Some []
names_of (v ∷ vs) = in_front (option_map (named_of v.end_of_file) (text_in v.name)) (names_of vs)

abbrev pub listing_by : Option DirectoryClass → ℕ → List ℕ → Option Body
listing_by None class bytes = None
listing_by (Some c) class bytes = option_map (Listing class) (option_and_then names_of (items_in (directory_entry_in c)
    (λ m. is_some (first_entry_fault c m)) bytes))

unfoldable pub listing_in : ℕ → List ℕ → Option Body
listing_in class bytes = listing_by (directory_class class) class bytes

-- ---- QUERY_INFO (2.2.38): this client asks class 5 alone (MS-FSCC 2.4.41)

abbrev pub standard_in : List ℕ → Option Body
standard_in bytes = unless (file_standard_information_fault bytes) (Some (FileInfo 5 [] (of_length
    (file_standard_information_in bytes).end_of_file) 0 0 0))

unfoldable pub file_in : ℕ → List ℕ → Option Body
file_in class bytes = if class == 5 then standard_in bytes else None

-- ---- what a success to a command says in the message m, from its header on; nothing where its body doesn't read as the
-- command's response (2.2.6 to 2.2.40), or this client doesn't send the command. A SETUP's ENCRYPT_DATA is 4; the number of its
-- channel isn't on the wire.

unfoldable pub body_in : Command → List ℕ → Option Body
body_in (Setup request) m = unless (session_setup_response_fault m) (Some (SetUp (has_bit (session_setup_response_in m).session_flags 4) 0))
body_in Logoff m = unless (bare_fault m) (Some Empty)
body_in (TreeConnect share) m = unless (tree_connect_response_fault m) (let v = tree_connect_response_in m in Some
    (Connected v.share_type v.capabilities v.maximal_access))
body_in TreeDisconnect m = unless (bare_fault m) (Some Empty)
body_in (Create request) m = unless (create_response_fault m) (Some (Created (created_of (create_response_in m))))
body_in (Close file query) m = unless (close_response_fault m) (Some Empty)
body_in (Flush file) m = unless (flush_response_fault m) (Some Empty)
body_in (Read file at size minimum channel) m = unless (read_response_fault m) (Some (Content (read_response_in m).payload))
body_in (Write file at bytes channel) m = unless (write_response_fault m) (Some (Count (write_response_in m).count))
body_in (Lock file index number elements) m = unless (lock_response_fault m) (Some Empty)
body_in (ListDirectory file class restart single pattern room) m = unless (query_directory_response_fault m) (listing_in
    class (query_directory_response_in m).output)
body_in (QueryFile file class room) m = unless (query_info_response_fault m) (file_in class (query_info_response_in m).output)
body_in (SetInfo file setting) m = unless (set_info_response_fault m) (Some Empty)
body_in _ m = None

-- ---- the reply. A success whose body doesn't read has a body that no operation's success has.

abbrev pub other_body : Body
other_body = Interfaces (record { ip = 0; port = 0 })

abbrev pub or_other : Option Body → Body
or_other None = other_body
or_other (Some body) = body

unfoldable pub reply_of : Command → Header → List ℕ → Reply
reply_of c h m = record {
  status = h.status;
  session_id = h.session;
  tree_id = h.tree;
  body = if h.status == success then
      or_other (body_in c m) else Empty;
}
