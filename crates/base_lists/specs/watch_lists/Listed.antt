-- The watchers of each number as a list that descends: between one and the next there is no other.
use Rattle.std.specs.Prelude.{◌≡◌, ℕ, ◌<◌, ◌≤◌, List, slice_index_or}
use Rattle.base_lists.specs.declared.watch_lists.Link.{Link}

pub record WatcherLists (watch first next : ℕ → ℕ) : Type 0 where
  pub nought : watch 0 ≡ 0
  pub top : (b h : ℕ) → 0 < b → watch h ≡ b → h ≤ first b
  pub top_is : (b : ℕ) → 0 < b → 0 < first b → watch (first b) ≡ b
  pub below : (x h : ℕ) → 0 < watch x → next x < h → h < x → watch h ≡ watch x → ⊥
  pub below_is : (x : ℕ) → 0 < watch x → 0 < next x → watch (next x) ≡ watch x
  pub lower : (x : ℕ) → 0 < watch x → 0 < next x → next x < x

-- a number that isn't there watches none
abbrev pub no_link : Link
no_link = record { watch = 0; first = 0; next = 0 }

abbrev pub link_at : List Link → ℕ → Link
link_at links g = slice_index_or links g no_link

abbrev pub watches : List Link → ℕ → ℕ
watches links g = (link_at links g).watch

abbrev pub firsts : List Link → ℕ → ℕ
firsts links g = (link_at links g).first

abbrev pub nexts : List Link → ℕ → ℕ
nexts links g = (link_at links g).next
