-- What can be written: numbers within their fields, and texts.
use Rattle.std.specs.Prelude.{◌≡◌, ℕ, ◌+◌, ◌^◌, ◌<◌, ◌==◌, List, [], ◌∷◌, length, false, Option, Some, None, IsUtf8}
use Rattle.spec_wire.specs.messages.Utf16.{utf16}
use Rattle.spec_exchange.specs.Commands.{Command, Element, Basic, Setting, SetBasic, Rename, SetDelete, SetAllocation, SetEnd}
use Rattle.spec_exchange.specs.Commands.{SetPosition, SetMode}
use Rattle.spec_exchange.specs.Commands.{Durable, Reconnect, CreateRequest}
use Rattle.spec_exchange.specs.State.{Info, CreateReply, Named, Body, Empty, Created, Content, Count, Listing, FileInfo}
use Rattle.spec_exchange.specs.Operations.{Op, OpCreate, OpWrite, OpRead, OpStat, OpList, value_in, id_in}
use Rattle.spec_commands.specs.Charges.{paid_for}
use Rattle.spec_commands.specs.Infos.{listing_bytes}
use Rattle.spec_commands.specs.ReplyOf.{of_length, named_of}

-- a name: a text of fewer than 2^16 bytes in UTF-16
pub record IsFittingName (text : List ℕ) : Type 0 where
  pub utf8 : IsUtf8 text
  pub short : length (utf16 text) < 256 ^ 2

abbrev pub IsByte : ℕ → Type 0
IsByte b = b < 256

-- an element of a LOCK (MS-SMB2 2.2.26.1)
pub record IsElement (e : Element) : Type 0 where
  pub at : e.at < 256 ^ 8
  pub size : e.length < 256 ^ 8
  pub flags : e.flags < 256 ^ 4

abbrev pub AreElements : List Element → Type 0
AreElements [] = Unit {0}
AreElements (e ∷ es) = IsElement e × AreElements es

pub record IsBasic (b : Basic) : Type 0 where
  pub created : b.created < 256 ^ 8
  pub accessed : b.accessed < 256 ^ 8
  pub written : b.written < 256 ^ 8
  pub changed : b.changed < 256 ^ 8
  pub attributes : b.attributes < 256 ^ 4

-- a setting (MS-FSCC 2.4)
abbrev pub IsSetting : Setting → Type 0
IsSetting (SetBasic basic) = IsBasic basic
IsSetting (Rename replace path) = IsFittingName path
IsSetting (SetDelete delete_pending) = Unit {0}
IsSetting (SetAllocation size) = size < 256 ^ 8
IsSetting (SetEnd size) = size < 256 ^ 8
IsSetting (SetPosition position) = position < 256 ^ 8
IsSetting SetMode = Unit {0}

abbrev pub IsDurable : Option Durable → Type 0
IsDurable None = Unit {0}
IsDurable (Some d) = (d.timeout < 256 ^ 4) × (d.guid < 256 ^ 16)

abbrev pub IsReconnect : Option Reconnect → Type 0
IsReconnect None = Unit {0}
IsReconnect (Some c) = (c.file < 256 ^ 8) × (c.guid < 256 ^ 16)

-- a CREATE (MS-SMB2 2.2.13)
pub record IsFittingCreate (r : CreateRequest) : Type 0 where
  pub path : IsFittingName r.path
  pub access : r.access < 256 ^ 4
  pub share : r.share < 256 ^ 4
  pub attributes : r.attributes < 256 ^ 4
  pub disposition : r.disposition < 256 ^ 4
  pub options : r.options < 256 ^ 4
  pub durable : IsDurable r.durable
  pub reconnect : IsReconnect r.reconnect

-- ---- what replies tell

pub record IsInfo (i : Info) : Type 0 where
  pub file : i.file < 256 ^ 8
  pub size : i.size + 4095 < 256 ^ 8
  pub times : IsBasic i.times

abbrev pub IsFittingTimeout : Option ℕ → Type 0
IsFittingTimeout None = Unit {0}
IsFittingTimeout (Some timeout) = timeout < 256 ^ 4

pub record IsCreated (r : CreateReply) : Type 0 where
  pub id : r.id < 256 ^ 16
  pub action : r.action < 256 ^ 4
  pub info : IsInfo r.info
  pub timeout : IsFittingTimeout r.timeout

abbrev pub AreFittingNames : List Named → Type 0
AreFittingNames [] = Unit {0}
AreFittingNames (n ∷ ns) = IsFittingName n.name × AreFittingNames ns

-- the names of a listing are text
abbrev pub AreTexts : List Named → Type 0
AreTexts [] = Unit {0}
AreTexts (n ∷ ns) = IsUtf8 n.name × AreTexts ns

-- The body that a success of an operation's command has, its numbers within their fields: a CREATE's tells the open, a WRITE's
-- a count, a READ's bytes, a QUERY_INFO's the class 5, a QUERY_DIRECTORY's entries of the class 12, and the others' nothing.
abbrev pub IsFittingAnswer : Op → Body → Type 0
IsFittingAnswer (OpCreate path access share disposition persist directory) (Created reply) = IsCreated reply
IsFittingAnswer (OpCreate path access share disposition persist directory) _ = ⊥
IsFittingAnswer (OpWrite create at bytes) (Count count) = count < 256 ^ 4
IsFittingAnswer (OpWrite create at bytes) _ = ⊥
IsFittingAnswer (OpRead create at size) (Content bytes) = length bytes < 256 ^ 4
IsFittingAnswer (OpRead create at size) _ = ⊥
IsFittingAnswer (OpStat create) (FileInfo class path info access options position) = (class ≡ 5) × IsInfo info
IsFittingAnswer (OpStat create) _ = ⊥
IsFittingAnswer (OpList create) (Listing class entries) = (class ≡ 12) × AreFittingNames entries
    × (length (listing_bytes 12 entries) < 256 ^ 4)
IsFittingAnswer (OpList create) _ = ⊥
IsFittingAnswer _ Empty = Unit {0}
IsFittingAnswer _ _ = ⊥

-- what a client sees of a CREATE's success and of a listing's names
abbrev pub as_created : CreateReply → CreateReply
as_created r = record { id = r.id; action = r.action; info = of_length r.info.size; timeout = None; maximal = false; disk_id = false }

abbrev pub as_named : List Named → List Named
as_named [] = []
as_named (n ∷ ns) = named_of 0 n.name ∷ as_named ns

-- two bodies are heard alike: the operation settles with the same reply, and a create opens the same file
pub record IsHeardAlike (op : Op) (a b : Body) : Type 0 where
  pub value : value_in op a ≡ value_in op b
  pub id : id_in a ≡ id_in b

-- no `\` stands in it
abbrev pub HasNoBackslash : List ℕ → Type 0
HasNoBackslash [] = Unit {0}
HasNoBackslash (c ∷ cs) = ((c == 92) ≡ false) × HasNoBackslash cs

-- a request of this number that pays for what it moves is heard as this command
abbrev pub HeardPaid : ℕ → ℕ → List ℕ → (List ℕ → Command) → Command → Type 0
HeardPaid number paid m reads c = paid_for number paid m (reads m) ≡ c
