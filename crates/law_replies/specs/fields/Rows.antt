-- The server's rows fit: names are short texts, times and attributes are within their fields, and files within their room.
use Rattle.std.specs.Prelude.{◌≡◌, ℕ, ◌+◌, ◌≤◌, Bool, true, false, List, [], ◌∷◌, length}
use Rattle.spec_exchange.specs.Texts.{leaf_of}
use Rattle.spec_exchange.specs.Commands.{Basic}
use Rattle.spec_exchange.specs.State.{Server, Entry, Open}
use Rattle.spec_exchange.specs.CheckCreate.{last_file}
use Rattle.spec_exchange.specs.Fold.{full_room}
use Rattle.spec_exchange.specs.Network.{Event, Settings, run, start}
use Rattle.law_commands.specs.commands.Fitting.{IsFittingName, IsBasic}

-- any path but the root's
abbrev pub is_below_root : List ℕ → Bool
is_below_root [] = false
is_below_root (c ∷ cs) = true

-- the name at its end is a short text
abbrev pub IsLeaf : List ℕ → Type 0
IsLeaf path = IsFittingName (leaf_of path)

-- where a file stands
pub record IsFieldPlace (path : List ℕ) : Type 0 where
  pub named : is_below_root path ≡ true
  pub leaf : IsLeaf path

abbrev pub AreFieldEntries : List Entry → Type 0
AreFieldEntries [] = Unit {0}
AreFieldEntries (e ∷ es) = IsFieldPlace e.path × (e.file ≤ last_file) × AreFieldEntries es

-- an open's file, action and timeout
pub record IsFieldRow (row : Open) : Type 0 where
  pub number : row.file ≤ last_file
  pub done : row.action ≤ 3
  pub wait : row.timeout ≤ 300000

pub record Rows (entries : List Entry) (next_file : ℕ) (basic : ℕ → Basic) (content : ℕ → List ℕ) (opened : ℕ → Open)
    (room : ℕ) : Type 0 where
  pub places : AreFieldEntries entries
  pub next : next_file ≤ last_file + 1
  pub basics : (f : ℕ) → IsBasic (basic f)
  pub sizes : (f : ℕ) → length (content f) ≤ full_room
  pub opens : (o : ℕ) → IsFieldRow (opened o)
  pub within : room ≤ full_room

abbrev pub RowsFit : Server → Type 0
RowsFit s = Rows s.entries s.next_file s.basic s.content s.opened s.room

abbrev pub RowsAlwaysFit : Type 0
RowsAlwaysFit = (z : Settings) (events : List Event) → RowsFit (run events (start z)).server
