-- Some requests that let nobody go who waits for a file: those that look at an open or write, and a LOCK on another file.
use Rattle.std.specs.Prelude.{◌≡◌, ℕ, ◌==◌, Bool, true, false, not, List, length, is_some}
use Rattle.spec_exchange.specs.Commands.{Command, Unreadable, Aside, Flush, Read, Write, Lock, Ioctl, ListDirectory, QueryFile, QueryVolume, SetInfo}
use Rattle.spec_exchange.specs.Commands.{Element}
use Rattle.spec_exchange.specs.State.{Server, Message, ServerEvent, Heard}
use Rattle.spec_exchange.specs.CheckOpen.{file_of}
use Rattle.spec_exchange.specs.Step.{step}
use Rattle.law_waiting.specs.held.Held.{would_wait}

-- by what a request names
abbrev pub leaves_file : Server → ℕ → Command → Bool
leaves_file s f (Unreadable status) = true
leaves_file s f (Aside status) = true
leaves_file s f (Flush o) = true
leaves_file s f (Read o at size minimum channel) = true
leaves_file s f (Write o at bytes channel) = true
leaves_file s f (Ioctl o code room) = true
leaves_file s f (ListDirectory o class restart single pattern room) = true
leaves_file s f (QueryFile o class room) = true
leaves_file s f (QueryVolume o class room) = true
leaves_file s f (SetInfo o setting) = true
leaves_file s f (Lock o index number elements) = not (f == file_of s o)
leaves_file s f _ = false

abbrev pub leaves_waiters : Server → ℕ → ServerEvent → Bool
leaves_waiters s f (Heard m) = leaves_file s f m.command
leaves_waiters s f _ = false

-- of a LOCK by this open
pub record StaysHeld (s : Server) (now : ℕ) (e : ServerEvent) (m : Message) (o : ℕ) : Type 0 where
  pub held : would_wait (step s now e).server m ≡ would_wait s m
  pub file : file_of (step s now e).server o ≡ file_of s o

-- where as many opens stand behind it as before, so that none expired
abbrev pub UntouchedStays : Type 0
UntouchedStays = (s : Server) (now : ℕ) (e : ServerEvent) (m : Message) (o index number : ℕ) (es : List Element)
    → m.command ≡ Lock o index number es → length (step s now e).server.opens ≡ length s.opens → leaves_waiters s (file_of s o) e ≡ true
    → StaysHeld s now e m o

-- a request that makes no open and takes none away, by what it names
abbrev pub is_mild : Command → Bool
is_mild (Unreadable status) = true
is_mild (Aside status) = true
is_mild (Flush o) = true
is_mild (Read o at size minimum channel) = true
is_mild (Write o at bytes channel) = true
is_mild (Ioctl o code room) = true
is_mild (ListDirectory o class restart single pattern room) = true
is_mild (QueryFile o class room) = true
is_mild (QueryVolume o class room) = true
is_mild (SetInfo o setting) = true
is_mild (Lock o index number elements) = true
is_mild _ = false

-- behind it each open is of the same file
abbrev pub FilesStay : Type 0
FilesStay = (s : Server) (now : ℕ) (k : Message) → length (step s now (Heard k)).server.opens ≡ length s.opens → is_mild k.command ≡ true
    → (step s now (Heard k)).server.opened ≡ s.opened

-- the open of one that waits stands
abbrev pub WaiterStands : Type 0
WaiterStands = (s : Server) (m : Message) (o index number : ℕ) (es : List Element) → m.command ≡ Lock o index number es
    → is_some (would_wait s m) ≡ true → s.standing o ≡ true
