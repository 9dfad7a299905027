-- A long frame's message, gathered apart from what else was fed.
use Rattle.std.specs.Prelude.{◌≡◌, ◌⊎◌, ℕ, ◌+◌, ◌≤◌, List, [], length, get_or}
use Rattle.spec_wire.specs.messages.Frames.{told_length}

-- none is gathered
pub record HasNone (head long : List ℕ) (missing : ℕ) : Type 0 where
  pub head_is : head ≡ []
  pub long_is : long ≡ []
  pub none_missing : missing ≡ 0

-- One is: of its message so many bytes are missing, and until they are there nothing stands behind it.
pub record HasLong (head long : List ℕ) (missing : ℕ) (behind : List ℕ) : Type 0 where
  pub size : length head ≡ 4
  pub lead : get_or head 0 0 ≡ 0
  pub told : told_length head ≡ length long + missing
  pub most : told_length head ≤ 1114112
  pub last : 1 ≤ missing → behind ≡ []

abbrev pub Gathers : (head long : List ℕ) (missing : ℕ) (behind : List ℕ) → Type 0
Gathers head long missing behind = HasNone head long missing ⊎ HasLong head long missing behind
