-- What an `Extents` stands for.
use Rattle.std.specs.Prelude.{◌≡◌, ℕ, List, length, vec_items}
use Rattle.std.specs.Ordering.{nat_cmp}
use Rattle.std.specs.BTreeMap.{get}
use Rattle.store_files.specs.file_extents.Shown.{Shows}
use Rattle.store_files.specs.declared.file_extents.extents.Extents.{Extents}

-- the bytes of a file
pub record IsContent (x : Extents) (c : List ℕ) : Type 0 where
  pub shows : Shows vec_items (λ k. get nat_cmp x.pieces k) c
  pub len : length c ≡ x.len

-- how many bytes the pieces have, as the file counts them
abbrev pub IsHeld : Extents → ℕ → Type 0
IsHeld x n = x.held ≡ n
