-- The parts of a command and of its response that are written fit their fields.
use Rattle.std.specs.Prelude.{◌≡◌, ℕ, ◌<◌, ◌≤◌, ◌^◌, true, List, [], ◌∷◌, ◌++◌, length, Option, Some, None}
use Rattle.spec_wire.specs.messages.Utf16.{utf16}
use Rattle.spec_wire.specs.declared.messages.directory_class.DirectoryClass.{DirectoryClass}
use Rattle.spec_exchange.specs.Commands as asks
use Rattle.spec_exchange.specs.State as says
use Rattle.spec_commands.specs.BodyOf.{host, setting_bytes}
use Rattle.spec_commands.specs.Infos.{listing_bytes, file_bytes, volume_bytes}
use Rattle.spec_commands.specs.ReplyBody.{is_told}
use Rattle.spec_commands.specs.Tables.{directory_class}

-- ---- what a client asks

-- a text whose length in UTF-16 fits a field of 2 bytes
abbrev pub IsShort : List ℕ → Type 0
IsShort text = length (utf16 text) < 2 ^ 16

abbrev pub FitsSetting : asks.Setting → Type 0
FitsSetting (asks.Rename replace path) = length (utf16 path) < 2 ^ 32
FitsSetting (asks.SetBasic basic) = Unit {0}
FitsSetting (asks.SetDelete marked) = Unit {0}
FitsSetting (asks.SetAllocation size) = Unit {0}
FitsSetting (asks.SetEnd size) = Unit {0}
FitsSetting (asks.SetPosition position) = Unit {0}
FitsSetting asks.SetMode = Unit {0}

-- the parts of a command fit their fields; a LockSequence has the index in its high 28 bits and the number in its low 4
abbrev pub FitsAsked : asks.Command → Type 0
FitsAsked (asks.TreeConnect share) = IsShort (host ++ share)
FitsAsked (asks.Create request) = IsShort request.path
FitsAsked (asks.Write file at bytes channel) = length bytes < 2 ^ 32
FitsAsked (asks.Lock file index number elements) = (index < 2 ^ 28) × (number < 16) × (1 ≤ length elements) × (length elements < 2 ^ 16)
FitsAsked (asks.ListDirectory file class restart single pattern room) = IsShort pattern
FitsAsked (asks.SetInfo file setting) = FitsSetting setting × (length (setting_bytes setting) < 2 ^ 32)
FitsAsked (asks.Unreadable status) = Unit {0}
FitsAsked (asks.Aside status) = Unit {0}
FitsAsked (asks.Setup request) = Unit {0}
FitsAsked asks.Logoff = Unit {0}
FitsAsked asks.TreeDisconnect = Unit {0}
FitsAsked (asks.Close file query) = Unit {0}
FitsAsked (asks.Flush file) = Unit {0}
FitsAsked (asks.Read file at size minimum channel) = Unit {0}
FitsAsked (asks.Ioctl file code room) = Unit {0}
FitsAsked (asks.QueryFile file class room) = Unit {0}
FitsAsked (asks.QueryVolume file class room) = Unit {0}

-- ---- what a server tells

-- each name of a listing is shorter than 2^31 bytes in UTF-16
abbrev pub AreListed : List says.Named → Type 0
AreListed [] = Unit {0}
AreListed (n ∷ ns) = (length (utf16 n.name) < 2 ^ 31) × AreListed ns

-- of no class nothing is written
abbrev pub AreListedIn : Option DirectoryClass → List says.Named → Type 0
AreListedIn None ns = Unit {0}
AreListedIn (Some c) ns = AreListed ns

-- the parts of a command's response fit their fields: a token, what was read, a listing, what is told of a
-- file or of the volume
abbrev pub FitsSuccess : List ℕ → asks.Command → says.Body → Type 0
FitsSuccess token (asks.Setup request) body = length token < 2 ^ 16
FitsSuccess token (asks.Read file at size minimum channel) (says.Content bytes) = length bytes < 2 ^ 32
FitsSuccess token (asks.ListDirectory file class restart single pattern room) (says.Listing told entries) =
    AreListedIn (directory_class told) entries × (length (listing_bytes told entries) < 2 ^ 32)
FitsSuccess token (asks.QueryFile file class room) (says.FileInfo told path info access options position) =
    length (file_bytes told path info access options position) < 2 ^ 32
FitsSuccess token (asks.QueryVolume file class room) (says.VolumeInfo told size used) = length (volume_bytes told size used) < 2 ^ 32
FitsSuccess token _ _ = Unit {0}

-- a reply fits where it has the error response, or the parts of its command's response do
abbrev pub FitsReply : List ℕ → asks.Command → says.Reply → Type 0
FitsReply token command reply = is_told command reply.status ≡ true → FitsSuccess token command reply.body
