-- The slots of an open show what the model's keep.
use Rattle.std.specs.Prelude.{◌≡◌, ℕ, ◌-◌, ◌≤◌, Option, None, slice_index_or, vec_len}
use Rattle.spec_exchange.specs.State as model
use Rattle.store_opens.specs.declared.lock_replay.slots.Slots.{Slots}

pub record SlotsShown (s : Slots) (kept : ℕ → Option model.Kept) : Type 0 where
  pub slots_are : (i : ℕ) → 1 ≤ i → i ≤ 64 → kept i ≡ slice_index_or s.items.items (i - 1) None
  pub count : vec_len s.items ≡ 64
