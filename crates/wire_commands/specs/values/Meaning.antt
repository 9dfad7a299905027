-- The values of the model (`spec_exchange`) that the code's values stand for.
use Rattle.std.specs.Prelude.{◌≡◌, ℕ, map, Option, Some, None, option_map}
use Rattle.spec_exchange.specs.Commands as asks
use Rattle.spec_exchange.specs.State as says
use Rattle.spec_commands.specs.CommandOf.{Told}
use Rattle.spec_exchange.specs.Status.{success}
use Rattle.wire_commands.specs.declared.values.command.Command.{Command}
use Rattle.wire_commands.specs.declared.values.command.Command.TheVariants.{Unreadable, Aside, Setup, Logoff, TreeConnect}
use Rattle.wire_commands.specs.declared.values.command.Command.TheVariants.{TreeDisconnect, Create, Close, Flush, Read, Write, Lock}
use Rattle.wire_commands.specs.declared.values.command.Command.TheVariants.{Ioctl, ListDirectory, QueryFile, QueryVolume, SetInfo}
use Rattle.wire_commands.specs.declared.values.command.CreateRequest.{CreateRequest}
use Rattle.wire_commands.specs.declared.values.command.Durable.{Durable}
use Rattle.wire_commands.specs.declared.values.command.Reconnect.{Reconnect}
use Rattle.wire_commands.specs.declared.values.command.Setting.{Setting}
use Rattle.wire_commands.specs.declared.values.command.Setting.TheVariants.{SetBasic, Rename, SetDelete, SetAllocation, SetEnd}
use Rattle.wire_commands.specs.declared.values.command.Setting.TheVariants.{SetPosition, SetMode}
use Rattle.wire_commands.specs.declared.values.client.ClientCommand.{ClientCommand}
use Rattle.wire_commands.specs.declared.values.client.ClientCommand.TheVariants as sent
use Rattle.wire_commands.specs.declared.values.client.ClientCreate.{ClientCreate}
use Rattle.wire_commands.specs.declared.values.client.ClientReconnect.{ClientReconnect}
use Rattle.wire_commands.specs.declared.values.setup.SetupRequest.{SetupRequest}
use Rattle.wire_commands.specs.declared.values.setup.SetupForm.{SetupForm}
use Rattle.wire_commands.specs.declared.values.setup.Shows.{Shows}
use Rattle.wire_commands.specs.declared.values.setup.Shows.TheVariants.{Begins, Bad, Refused, Logon}
use Rattle.wire_commands.specs.declared.values.request.Request.{Request}
use Rattle.wire_commands.specs.declared.values.request.Request.TheVariants as requests
use Rattle.wire_commands.specs.declared.values.request.Message.{Message}
use Rattle.wire_commands.specs.declared.values.reply.Reply.{Reply}
use Rattle.wire_commands.specs.declared.values.reply.Body.{Body}
use Rattle.wire_commands.specs.declared.values.reply.Body.TheVariants.{Empty, Created, Closed, Content, Count, Interfaces, ObjectId, Listing}
use Rattle.wire_commands.specs.declared.values.reply.Body.TheVariants.{FileInfo, VolumeInfo, SetUp, Connected}
use Rattle.wire_commands.specs.declared.values.reply.Info.{Info}
use Rattle.wire_commands.specs.declared.values.reply.CreateReply.{CreateReply}
use Rattle.wire_commands.specs.declared.values.reply.Named.{Named}
use Rattle.wire_commands.specs.declared.values.reply.Address.{Address}

-- ---- what is asked

abbrev pub durable_of : Durable → asks.Durable
durable_of d = record { timeout = d.timeout; persistent = d.persistent; guid = d.guid }

abbrev pub reconnect_of : Reconnect → asks.Reconnect
reconnect_of c = record { file = c.file; guid = c.guid }

abbrev pub create_of : CreateRequest → asks.CreateRequest
create_of r =
    record {
      path = r.path;
      access = r.access;
      share = r.share;
      attributes = r.attributes;
      disposition = r.disposition;
      options = r.options;
      durable = option_map durable_of r.durable;
      reconnect = option_map reconnect_of r.reconnect;
      maximal = r.maximal;
      disk_id = r.disk_id;
    }

abbrev pub setting_of : Setting → asks.Setting
setting_of (SetBasic basic) = asks.SetBasic basic
setting_of (Rename replace path) = asks.Rename replace path
setting_of (SetDelete marked) = asks.SetDelete marked
setting_of (SetAllocation size) = asks.SetAllocation size
setting_of (SetEnd size) = asks.SetEnd size
setting_of (SetPosition position) = asks.SetPosition position
setting_of SetMode = asks.SetMode

abbrev pub shows_of : Shows → asks.Shows
shows_of Begins = asks.Begins
shows_of Bad = asks.Bad
shows_of Refused = asks.Refused
shows_of (Logon user) = asks.Logon user

abbrev pub setup_of : SetupRequest → asks.SetupRequest
setup_of r =
    record {
      readable = r.readable;
      binding = r.binding;
      signed = r.signed;
      verified = r.verified;
      previous = r.previous;
      cipher = r.cipher;
      signing = r.signing;
      shows = shows_of r.shows;
    }

abbrev pub command_of : Command → asks.Command
command_of (Unreadable status) = asks.Unreadable status
command_of (Aside status) = asks.Aside status
command_of (Setup request) = asks.Setup (setup_of request)
command_of Logoff = asks.Logoff
command_of (TreeConnect share) = asks.TreeConnect share
command_of TreeDisconnect = asks.TreeDisconnect
command_of (Create request) = asks.Create (create_of request)
command_of (Close file query) = asks.Close file query
command_of (Flush file) = asks.Flush file
command_of (Read file at size minimum channel) = asks.Read file at size minimum channel
command_of (Write file at bytes channel) = asks.Write file at bytes.now channel
command_of (Lock file index number elements) = asks.Lock file index number elements.items
command_of (Ioctl file code room) = asks.Ioctl file code room
command_of (ListDirectory file class restart single pattern room) = asks.ListDirectory file class restart single pattern room
command_of (QueryFile file class room) = asks.QueryFile file class room
command_of (QueryVolume file class room) = asks.QueryVolume file class room
command_of (SetInfo file setting) = asks.SetInfo file (setting_of setting)

-- the same of what a client sends

abbrev pub client_reconnect_of : ClientReconnect → asks.Reconnect
client_reconnect_of c = record { file = c.file; guid = c.guid }

abbrev pub client_create_of : ClientCreate → asks.CreateRequest
client_create_of r =
    record {
      path = r.path;
      access = r.access;
      share = r.share;
      attributes = r.attributes;
      disposition = r.disposition;
      options = r.options;
      durable = option_map durable_of r.durable;
      reconnect = option_map client_reconnect_of r.reconnect;
      maximal = r.maximal;
      disk_id = r.disk_id;
    }

abbrev pub client_command_of : ClientCommand → asks.Command
client_command_of sent.Nothing = asks.Aside 0
client_command_of (sent.TreeConnect share) = asks.TreeConnect share
client_command_of (sent.Create request) = asks.Create (client_create_of request)
client_command_of (sent.Close file query) = asks.Close file query
client_command_of (sent.Flush file) = asks.Flush file
client_command_of (sent.Read file at size minimum channel) = asks.Read file at size minimum channel
client_command_of (sent.Write file at bytes channel) = asks.Write file at bytes.now channel
client_command_of (sent.Lock file index number elements) = asks.Lock file index number elements.items
client_command_of (sent.ListDirectory file class restart single pattern room) = asks.ListDirectory file class restart single pattern room
client_command_of (sent.QueryFile file class room) = asks.QueryFile file class room
client_command_of (sent.SetInfo file setting) = asks.SetInfo file (setting_of setting)

-- what the connection makes of the form of a SESSION_SETUP
abbrev pub setup_told : Told → SetupForm → asks.SetupRequest
setup_told t f =
    record {
      readable = f.readable;
      binding = f.binding;
      signed = f.signed;
      verified = t.verified;
      previous = f.previous;
      cipher = t.cipher;
      signing = t.signing;
      shows = t.shows f.token.now;
    }

-- the status of an ECHO: what the connection finds, else its form
abbrev pub echo_told : Option ℕ → Option ℕ → ℕ
echo_told (Some status) form = status
echo_told None (Some status) = status
echo_told None None = success

abbrev pub request_of : Told → Request → asks.Command
request_of t requests.Negotiate = asks.Aside t.negotiated
request_of t (requests.Echo form) = asks.Aside (echo_told t.fault form)
request_of t (requests.Setup form) = asks.Setup (setup_told t form)
request_of t (requests.Command command) = command_of command

abbrev pub message_of : Message → says.Message
message_of m =
    record {
      connection = m.connection;
      client_guid = m.client_guid;
      session_id = m.session_id;
      tree_id = m.tree_id;
      message_id = m.message_id;
      channel_sequence = m.channel_sequence;
      replay = m.replay;
      fault = m.fault;
      command = command_of m.command;
    }

-- ---- what is said

abbrev pub info_of : Info → says.Info
info_of i = record { file = i.file; is_directory = i.is_directory; size = i.size; is_delete_pending = i.is_delete_pending; times = i.times }

abbrev pub created_of : CreateReply → says.CreateReply
created_of r = record {
  id = r.id;
  action = r.action;
  info = info_of r.info;
  timeout = r.timeout;
  maximal = r.maximal;
  disk_id = r.disk_id;
}

abbrev pub named_of : Named → says.Named
named_of n = record { name = n.name; info = info_of n.info }

abbrev pub address_of : Address → says.Address
address_of a = record { ip = a.ip; port = a.port }

abbrev pub body_of : Body → says.Body
body_of Empty = says.Empty
body_of (Created reply) = says.Created (created_of reply)
body_of (Closed info) = says.Closed (info_of info)
body_of (Content bytes) = says.Content bytes
body_of (Count count) = says.Count count
body_of (Interfaces address) = says.Interfaces (address_of address)
body_of (ObjectId file) = says.ObjectId file
body_of (Listing class entries) = says.Listing class (map named_of entries.items)
body_of (FileInfo class path info access options position) = says.FileInfo class path (info_of info) access options position
body_of (VolumeInfo class room used) = says.VolumeInfo class room used
body_of (SetUp sealed channel) = says.SetUp sealed channel
body_of (Connected kind capabilities access) = says.Connected kind capabilities access

abbrev pub reply_of : Reply → says.Reply
reply_of r = record { status = r.status; session_id = r.session_id; tree_id = r.tree_id; body = body_of r.body }

-- the numbers of commands that need nothing of their connection: all but NEGOTIATE, SESSION_SETUP and ECHO
pub record IsValueOwn (number : ℕ) : Type 0 where
  pub no_negotiate : number ≡ 0 → ⊥
  pub no_setup : number ≡ 1 → ⊥
  pub no_echo : number ≡ 13 → ⊥
