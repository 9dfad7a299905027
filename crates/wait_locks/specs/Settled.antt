-- Waiters that are known to be held up, with their files, and which of them an event may let go.
use Rattle.std.specs.Prelude.{◌≡◌, ℕ, ◌<◌, ◌==◌, Bool, true, false, List, length, slice_index_or, is_some}
use Rattle.spec_exchange.specs.State as model
use Rattle.spec_exchange.specs.CheckOpen.{file_of}
use Rattle.law_waiting.specs.held.Held.{would_wait}
use Rattle.wait_locks.specs.Kept.{kept_message}
use Rattle.wait_locks.specs.declared.touching.Touched.{Touched}
use Rattle.wait_locks.specs.declared.touching.Touched.TheVariants as touched
use Rattle.wait_locks.specs.declared.waiter.Waiter.{Waiter}

-- whether whoever waits for this file may go
abbrev pub may_free : Touched → ℕ → Bool
may_free touched.Nothing f = false
may_free (touched.File g) f = f == g
may_free touched.All f = true

pub record IsSettled (s : model.Server) (k : Waiter) : Type 0 where
  pub held : is_some (would_wait s (kept_message k)) ≡ true
  pub on : k.on ≡ file_of s k.file

-- each of these is held up, but for those that may go
abbrev pub SettledBut : Touched → model.Server → List Waiter → Type 0
SettledBut t s ws = (i : ℕ) → i < length ws → (d : Waiter) → may_free t (slice_index_or ws i d).on ≡ false → IsSettled s (slice_index_or ws i d)
