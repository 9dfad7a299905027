-- What the calls of a link do to the bytes of both directions.
use Rattle.std.specs.Prelude.{◌≡◌, ℕ, ◌<◌, ◌==◌, Bool, not, ◌&&◌, ◌||◌, List, [], ◌++◌, length, take, Result}
use Rattle.std.specs.declared.result.Result.TheVariants.{Ok, Err}

-- A read gave the first n bytes of a buffer: they were the next ones left, and none only where none was left or the buffer has no room.
pub record LinkGives (left : List ℕ) (n : ℕ) (buffer left' : List ℕ) : Type 0 where
  pub next : left ≡ take n buffer ++ left'
  pub progress : n ≡ 0 → 0 < length buffer → left ≡ []

-- A read of nothing into a buffer that has room is the end of what the peer sends.
abbrev pub is_link_end : ℕ → List ℕ → Bool
is_link_end n buffer = (n == 0) && not (length buffer == 0)

-- Whether some read up to this one gave the end.
abbrev pub ended_after : {E : Type 0} → Bool → Result ℕ E → List ℕ → Bool
ended_after ended (Ok n) buffer = ended || is_link_end n buffer
ended_after ended (Err _) buffer = ended

-- A link with which nothing was done: no byte was given or taken, where it tells that.
pub record IsLinkUnused (told : Type 0) (given written : List ℕ) : Type 0 where
  pub nothing_given : told → given ≡ []
  pub nothing_written : told → written ≡ []

-- What stands for the bytes of a link that doesn't tell them.
abbrev pub untold : List ℕ
untold = []

-- the number of a link that no net accepted
abbrev pub unnumbered : ℕ
unnumbered = 0

-- what stands for all that peers send, of a net whose links don't tell their bytes
abbrev pub unsent : List (List ℕ)
unsent = []
