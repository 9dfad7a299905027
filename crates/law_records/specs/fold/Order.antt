-- Files in the order of their numbers, a sweep over numbers, and the marks that it leaves.
use Rattle.std.specs.Prelude.{◌≡◌, ℕ, ◌==◌, true, false, not, ◌&&◌, if◌then◌else◌, List, [], ◌∷◌, ◌++◌}
use Rattle.spec_exchange.specs.State.{Server, Entry, Record, DeleteRecord}
use Rattle.spec_exchange.specs.Files.{root, exists}
use Rattle.spec_exchange.specs.Opens.{file_has_open, without_gone}
use Rattle.spec_exchange.specs.Records.{origin_at}
use Rattle.law_server.specs.tables.Fits.{is_ascending}

-- the numbers of files, in the order of the list
unfoldable pub numbers : List Entry → List ℕ
numbers [] = []
numbers (e ∷ es) = e.file ∷ numbers es

-- the files stand in ascending order of their numbers
abbrev pub FilesAscend : Server → Type 0
FilesAscend s = is_ascending (numbers s.entries) ≡ true

-- of these files those go that are delete pending and have no open, one after the other
unfoldable pub swept_of : Server → List ℕ → Server
swept_of s [] = s
swept_of s (f ∷ fs) = swept_of (without_gone s f) fs

-- that a file is delete pending no longer, where it is so without an open
abbrev pub mark_at : Server → ℕ → List Record
mark_at s f = if not (f == root) && ((exists s f && s.delete_pending f) && not (file_has_open s f)) then DeleteRecord (origin_at 0) f false ∷ []
    else []

-- of these files
unfoldable pub marks_of : Server → List ℕ → List Record
marks_of s [] = []
marks_of s (f ∷ fs) = mark_at s f ++ marks_of s fs
