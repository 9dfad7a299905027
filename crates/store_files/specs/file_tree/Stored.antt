-- All files of the share by their paths as they are spelled.
use Rattle.std.specs.Prelude.{◌≡◌, ℕ, Bool, true, false, not, ◌&&◌, if◌then◌else◌, List, [], ◌∷◌, Option, Some, None, ⊤}
use Rattle.std.specs.Ordering.{nat_cmp}
use Rattle.std.specs.declared.cmp.Ordering.TheVariants.{Less}
use Rattle.std.specs.Str.{bytes_eq}
use Rattle.std.specs.Cmp.Lexicographic.{slice_cmp}
use Rattle.spec_exchange.specs.State.{Server, Entry}
use Rattle.store_files.specs.declared.file_tree.files.StoredFile.{StoredFile}

-- the file of this very path, which is no directory
unfoldable pub spelled_in : Server → List Entry → List ℕ → Option ℕ
spelled_in s [] p = None
spelled_in s (e ∷ es) p = if bytes_eq e.path p && not (s.directory e.file) then Some e.file else spelled_in s es p

-- its bytes
abbrev pub content_of : Server → Option ℕ → Option (List ℕ)
content_of s None = None
content_of s (Some f) = Some (s.content f)

abbrev pub stored_at : List StoredFile → List ℕ → Option (List ℕ)
stored_at [] p = None
stored_at (f ∷ fs) p = if bytes_eq f.path p then Some f.bytes else stored_at fs p

-- a path stands before all of theirs, in byte order
abbrev pub StandsBefore : List ℕ → List StoredFile → Type 0
StandsBefore p [] = ⊤
StandsBefore p (f ∷ fs) = (slice_cmp nat_cmp p f.path ≡ Less) × StandsBefore p fs

abbrev pub PathsAscend : List StoredFile → Type 0
PathsAscend [] = ⊤
PathsAscend (f ∷ fs) = StandsBefore f.path fs × PathsAscend fs

-- each file once with its bytes, in byte order of the paths
pub record AreFiles (fs : List StoredFile) (s : Server) : Type 0 where
  pub bytes : (p : List ℕ) → stored_at fs p ≡ content_of s (spelled_in s s.entries p)
  pub ascend : PathsAscend fs
