-- A row whose bytes change, and a write for which there is memory.
use Rattle.std.specs.Prelude.{◌≡◌, ◌+◌, ◌<◌, ℕ, List, length, Option, Some, None, nat_eq, ⊤}
use Rattle.std.specs.HashMap.{get}
use Rattle.spec_exchange.specs.Table.{put}
use Rattle.spec_exchange.specs.State.{Server}
use Rattle.store_files.specs.declared.file_extents.extents.Extents.{Extents}
use Rattle.store_files.specs.declared.file_extents.write.Prepared.{Prepared}
use Rattle.store_files.specs.file_extents.Kept.{IsContent}
use Rattle.store_files.specs.file_extents.Ready.{IsPieceReady}
use Rattle.store_files.specs.declared.file_tree.row.Row.{Row}
use Rattle.store_files.specs.declared.file_tree.bytes.NewBytes.{NewBytes}
use Rattle.store_files.specs.declared.file_tree.tree.Tree.{Tree}

-- the state with other bytes in a file, and all else as it was
abbrev pub with_content : Server → ℕ → List ℕ → Server
with_content s f bytes = record s { content = put s.content f bytes }

abbrev pub with_room : Server → ℕ → Server
with_room s room = record s { room = room }

-- where there is a row, only its bytes changed
abbrev pub BytesPut : Option Row → Option Row → (Extents → Extents → Type 0) → Type 0
BytesPut None new P = new ≡ None
BytesPut (Some r) new P = (x : Extents) × (new ≡ Some (record r { bytes = x })) × P r.bytes x

-- where there is a row with some bytes, it has what a write needs
abbrev pub IsReadyRow : Option Row → Option Row → Prepared → ℕ → List ℕ → Type 0
IsReadyRow None new p at d = ⊤
IsReadyRow (Some r) None p at d = ⊤
IsReadyRow (Some r) (Some w) p at d = (c : List ℕ) → IsContent r.bytes c → IsPieceReady w.bytes p at d

abbrev pub RowReady : Option Row → Prepared → ℕ → List ℕ → Type 0
RowReady None p at d = ⊤
RowReady (Some r) p at d = IsPieceReady r.bytes p at d

-- the write of these bytes can be done with no more memory
pub record CanWrite (t : Tree) (n : NewBytes) (file at : ℕ) (d : List ℕ) : Type 0 where
  pub file_is : n.file ≡ file
  pub end_is : n.end ≡ at + length d
  pub some : 0 < length d
  pub ready : RowReady (get nat_eq t.rows file) n.prepared at d
