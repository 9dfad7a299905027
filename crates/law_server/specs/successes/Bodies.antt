-- What the success of a request tells that names an open.
use Rattle.std.specs.Prelude.{◌≡◌, ℕ, ◌≤◌, Bool, true, false, not, List, length, None}
use Rattle.spec_exchange.specs.Status.{success}
use Rattle.spec_exchange.specs.Commands.{Command, Write, Read, SetInfo, Lock, Flush, Close, QueryFile, ListDirectory}
use Rattle.spec_exchange.specs.State.{Info, Named, Body, Empty, Count, Content, FileInfo, Listing}
use Rattle.spec_exchange.specs.Network.{World, Sent, answer}

-- a WRITE, READ, SET_INFO, LOCK or FLUSH, a QUERY_INFO of a file, a QUERY_DIRECTORY, and a CLOSE that asks for nothing
abbrev pub is_simple : Command → Bool
is_simple (Write file at bytes channel) = true
is_simple (Read file at size minimum channel) = true
is_simple (SetInfo file setting) = true
is_simple (Lock file index number elements) = true
is_simple (Flush file) = true
is_simple (QueryFile file class room) = true
is_simple (ListDirectory file class restart single pattern room) = true
is_simple (Close file query) = not query
is_simple _ = false

-- a WRITE's success tells how many bytes were written, which are all, a READ's at most as many as were asked for and as one may ask
-- for, a query's and a list's are of the class that was asked for, and the others tell nothing
abbrev pub IsBodyTold : Command → Body → Type 0
IsBodyTold (Write file at bytes channel) b = b ≡ Count (length bytes)
IsBodyTold (Read file at size minimum channel) b =
    (bytes : List ℕ) × (b ≡ Content bytes) × (length bytes ≤ size) × (length bytes ≤ 1048576)
IsBodyTold (QueryFile file class room) b =
    (path : List ℕ) × (info : Info) × (access : ℕ) × (options : ℕ) × (position : ℕ) × (b ≡ FileInfo class path info access options position)
IsBodyTold (ListDirectory file class restart single pattern room) b = (entries : List Named) × (b ≡ Listing class entries)
IsBodyTold _ b = b ≡ Empty

abbrev pub BodiesAreTold : Type 0
BodiesAreTold =
    (w : World) (x : Sent) → is_simple x.message.command ≡ true → x.message.fault ≡ None → (answer w x).reply.status ≡ success →
    IsBodyTold x.message.command (answer w x).reply.body
