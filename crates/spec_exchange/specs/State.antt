-- The server's tables (MS-SMB2 3.3.1.5 to 3.3.1.10: opens, sessions, tree connects, connections; files, MS-FSA 2.1.1), what it
-- hears and what it answers.
use Rattle.std.specs.Prelude.{ℕ, ◌-◌, Bool, List, Option}
use Rattle.spec_exchange.specs.Commands.{Command, Basic, Element}
use Rattle.spec_exchange.specs.declared.values.Range as range_value
use Rattle.spec_exchange.specs.declared.values.Kept as kept_value
use Rattle.spec_exchange.specs.declared.values.Tree as tree_value
use Rattle.spec_exchange.specs.declared.values.Origin as origin_value

-- times are counted in 64 bits, in steps of 100 nanoseconds; at the last one they stand still
abbrev pub last_moment : ℕ
last_moment = 0xffff_ffff_ffff_ffff

-- the moment, or the last one where it is more; differences end at 0, and the moment stands in it once, so that long runs compute
abbrev pub no_later : ℕ → ℕ
no_later moment = last_moment - (last_moment - moment)

-- ---- rows of the tables

-- a file or directory by its number and its path; the root has the number 0
pub record Entry : Type 0 where
  pub file : ℕ
  pub path : List ℕ

-- what an open is made with and never changes (MS-SMB2 3.3.1.10)
pub record Open : Type 0 where
  pub file : ℕ
  pub access : ℕ  -- GrantedAccess, without generic bits
  pub share : ℕ  -- ShareAccess: read 1, write 2, delete 4
  pub options : ℕ  -- CreateOptions
  pub action : ℕ  -- CreateAction: superseded 0, opened 1, created 2, overwritten 3
  pub persistent : Bool  -- IsPersistent
  pub client_guid : ℕ  -- ClientGuid
  pub create_guid : Option ℕ  -- CreateGuid
  pub user : List ℕ  -- DurableOwner
  pub timeout : ℕ  -- DurableOpenTimeout, in milliseconds

-- a range that an open locks
abbrev pub Range : Type 0
Range = range_value.Range

-- one place of Open.LockSequenceArray, called a slot: the number of the last request and its answer
abbrev pub Kept : Type 0
Kept = kept_value.Kept

abbrev pub Tree : Type 0
Tree = tree_value.Tree

-- what is in the making on a connection: a session of a new id, or a binding to a session
pub data Making : Type 0 where
  NewSession : (session : ℕ) → Making
  Binding : (session : ℕ) → Making

-- ---- the state

-- where the server can be reached, by IPv4
pub record Address : Type 0 where
  pub ip : ℕ
  pub port : ℕ

pub record Server : Type 0 where
  -- the configuration
  pub share : List ℕ
  pub room : ℕ  -- how many bytes all files may hold
  pub encrypts : Bool  -- EncryptData (3.3.1.5): messages of a session are sealed
  pub address : Address
  -- what bounds ids and the journal
  pub version : ℕ
  pub epoch : ℕ
  pub journal : ℕ  -- bytes on the disk
  pub limit : ℕ  -- how many of them the records of events may fill: the lower limit, or less where the disk is full
  -- files, by number
  pub entries : List Entry  -- in ascending order of numbers, without the root
  pub next_file : ℕ
  pub directory : ℕ → Bool
  pub delete_pending : ℕ → Bool  -- it goes with its last open
  pub basic : ℕ → Basic
  pub content : ℕ → List ℕ
  pub stored : ℕ → List ℕ  -- what the files beside the journal hold; no step looks at it
  pub ranges : ℕ → List Range
  -- opens, by id (3.3.1.10)
  pub opens : List ℕ  -- those that stand in GlobalOpenTable, in ascending order
  pub standing : ℕ → Bool
  pub open_ids_given : ℕ  -- how many ids were given in this epoch
  pub opened : ℕ → Open
  pub session_of_open : ℕ → Option ℕ  -- Open.Session: the one to which it is attached
  pub tree_of_open : ℕ → ℕ  -- Open.TreeConnect: the tree under which it was made, or attached last
  pub sequence : ℕ → ℕ  -- Open.ChannelSequence
  pub deadline : ℕ → Option ℕ  -- the moment at which Open.DurableOpenScavengerTimeout has passed
  pub enumeration_location : ℕ → Option (List ℕ)  -- Open.EnumerationLocation: the last name that its listing gave
  pub current_byte_offset : ℕ → ℕ  -- Open.CurrentByteOffset: the position that was set last, which no read or write moves
  pub lock_sequences : ℕ → ℕ → Option Kept  -- Open.LockSequenceArray, by LockSequenceIndex 1 to 64
  pub by_guid : ℕ → ℕ → Option ℕ  -- by ClientGuid and CreateGuid: the open that stands
  pub expired_guids : ℕ → ℕ → Bool  -- by the same: an open of them expired
  pub expired_count : ℕ  -- how many did
  -- sessions, by id (3.3.1.8)
  pub present : ℕ → Bool
  pub sessions : ℕ  -- how many are live
  pub session_ids_given : ℕ  -- how many ids were given in this epoch
  pub user : ℕ → List ℕ
  pub client : ℕ → ℕ  -- the ClientGuid of its connections
  pub cipher : ℕ → ℕ  -- their CipherId
  pub signing : ℕ → ℕ  -- their SigningAlgorithmId
  pub channel_numbers_drawn : ℕ → ℕ  -- how many of its channels were numbered
  pub trees : ℕ → List Tree  -- TreeConnectTable
  pub next_tree : ℕ → ℕ
  pub closed : ℕ → ℕ → Bool  -- by session and CreateGuid: an open of it was closed
  pub refused : ℕ → ℕ → Option ℕ  -- by the same: its create was refused
  pub guids : ℕ → ℕ  -- how many CreateGuids the session keeps
  -- connections, by number
  pub connections : List ℕ
  pub session_on : ℕ → Option ℕ  -- the live session that has it in its ChannelList
  pub making : ℕ → Option Making

-- ---- what it hears

-- a checked message by the fields of its header (MS-SMB2 2.2.1.2): MessageId, TreeId, SessionId and ChannelSequence; fault is the
-- ACCESS_DENIED of a request that isn't signed or sealed as owed
pub record Message : Type 0 where
  pub connection : ℕ
  pub client_guid : ℕ
  pub session_id : ℕ
  pub tree_id : ℕ
  pub message_id : ℕ
  pub channel_sequence : ℕ
  pub replay : Bool
  pub fault : Option ℕ
  pub command : Command

pub data ServerEvent : Type 0 where
  Accept : (connection : ℕ) → ServerEvent
  Heard : (message : Message) → ServerEvent
  End : (connection : ℕ) → ServerEvent
  Stop : ServerEvent

-- ---- what it answers

pub record Info : Type 0 where
  pub file : ℕ
  pub is_directory : Bool
  pub size : ℕ
  pub is_delete_pending : Bool
  pub times : Basic

pub record CreateReply : Type 0 where
  pub id : ℕ
  pub action : ℕ
  pub info : Info
  pub timeout : Option ℕ  -- told where the open is persistent and the request asked
  pub maximal : Bool
  pub disk_id : Bool

pub record Named : Type 0 where
  pub name : List ℕ
  pub info : Info

pub data Body : Type 0 where
  Empty : Body
  Created : (reply : CreateReply) → Body
  Closed : (info : Info) → Body
  Content : (bytes : List ℕ) → Body
  Count : (count : ℕ) → Body
  Interfaces : (address : Address) → Body
  ObjectId : (file : ℕ) → Body
  Listing : (class : ℕ) (entries : List Named) → Body
  -- access, options and position are the open's, which the classes 8, 14 and 18 tell (MS-FSCC 2.4.1, 2.4.35, 2.4.2)
  FileInfo : (class : ℕ) (path : List ℕ) (info : Info) (access options position : ℕ) → Body
  VolumeInfo : (class room used : ℕ) → Body  -- the sizes that it tells are those of the room and of what is used
  -- a SESSION_SETUP's success tells ENCRYPT_DATA where the session seals; the number drawn for its channel isn't on the wire
  SetUp : (sealed : Bool) (channel : ℕ) → Body
  Connected : (kind capabilities access : ℕ) → Body

-- a status with the ids that the response's header names
pub record Reply : Type 0 where
  pub status : ℕ
  pub session_id : ℕ
  pub tree_id : ℕ
  pub body : Body

-- ---- journal records

abbrev pub Origin : Type 0
Origin = origin_value.Origin

pub record NewOpen : Type 0 where
  pub id : ℕ
  pub client_guid : ℕ
  pub create_guid : ℕ
  pub user : List ℕ
  pub access : ℕ
  pub share : ℕ
  pub options : ℕ
  pub timeout : ℕ

pub data Record : Type 0 where
  EpochRecord : (number : ℕ) → Record
  CreateRecord : (origin : Origin) (action file : ℕ) (path : List ℕ) (attributes : ℕ) (directory : Bool) (time : ℕ)
      (opened : Option NewOpen) → Record
  WriteRecord : (origin : Origin) (file at time : ℕ) (bytes : List ℕ) → Record
  EndRecord : (origin : Origin) (file size time : ℕ) → Record
  BasicRecord : (origin : Origin) (file : ℕ) (basic : Basic) → Record
  DeleteRecord : (origin : Origin) (file : ℕ) (delete_pending : Bool) → Record
  RenameRecord : (origin : Origin) (file replaced : ℕ) (path : List ℕ) → Record
  RemoveRecord : (origin : Origin) (file : ℕ) → Record
  LockRecord : (origin : Origin) (id index number status : ℕ) (elements : List Element) → Record
  CloseRecord : (origin : Origin) (id : ℕ) → Record
  VersionRecord : (number : ℕ) → Record
  ExpireRecord : (origin : Origin) (id : ℕ) → Record

-- The state after a step, the reply, what the journal owes for it, and whether files, the set of opens or ranges
-- changed. The last two are for what is said of runs: the open that the message's sequence reached, and the open on
-- which a write or set-info was carried out.
pub record Answer : Type 0 where
  pub server : Server
  pub reply : Reply
  pub records : List Record
  pub acted : Bool
  pub reached : Option ℕ
  pub altered : Option ℕ
