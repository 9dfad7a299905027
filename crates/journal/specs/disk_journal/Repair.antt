-- What is found on a disk, and what is left of it.
use Rattle.std.specs.Prelude.{◌≡◌, ℕ, ◌+◌, ◌≤◌, List, [], ◌∷◌, ◌++◌, length, Option, Some, None}
use Rattle.base_outside.specs.streams.Disk.{Only}
use Rattle.spec_wire.specs.journal.Grammar.{IsClosed, front, AllFit}
use Rattle.spec_journal.specs.Forms.{form_front, IsInForm, StandsFor, BreaksAt}
use Rattle.spec_journal.specs.declared.form.Form.{Form}
use Rattle.spec_wire.specs.journal.Moments.{Quiet}
use Rattle.journal.specs.disk_journal.Read.{EndsWith, IsWithin}
use Rattle.journal.specs.declared.disk_journal.read.Found.{Found}
use Rattle.journal.specs.declared.disk_journal.read.Found.TheVariants as found

-- The disk holds these bodies and a closed gate at this place, and nothing on it waits for a sync.
pub record Rests {D : Type 0} (seen : D → List ℕ) (may_leave : D → List ℕ → Type 0) (disk : D) (bodies : List (List ℕ))
    (form : Form) (gate used count : ℕ) : Type 0 where
  pub shut : ℕ
  pub file : seen disk ≡ form_front form bodies ++ shut ∷ []
  pub closed : IsClosed shut
  pub place : gate ≡ length (form_front form bodies)
  pub told : used ≡ length (front bodies) + 1
  pub number : count ≡ length bodies
  pub fit : AllFit bodies
  pub durable : Only (seen disk) (may_leave disk)

-- What is found on a disk that may be a new one.
abbrev pub Examined : List ℕ → Option Found → Type 0
Examined bytes None = length bytes ≤ 9
Examined bytes (Some (found.Behind form gate used count)) = EndsWith form bytes gate used count
Examined bytes (Some (found.Broken at)) = BreaksAt bytes at

abbrev pub MayBeWithin : ℕ → Option Found → Type 0
MayBeWithin end None = Unit {0}
MayBeWithin end (Some f) = IsWithin end f

-- What `repair` makes of a disk: one that holds exactly the bodies that the old one stood for, or no journal.
abbrev pub Mends : {D : Type 0} → (D → List ℕ) → (D → List ℕ → Type 0) → D → D → Found → Type 0
Mends seen may_leave old new (found.Behind form gate used count) = (bodies : List (List ℕ)) × StandsFor (seen old) bodies
    × Rests seen may_leave new bodies form gate used count × IsInForm form (seen old) bodies
Mends seen may_leave old new (found.Broken at) = BreaksAt (seen old) at

-- A disk that isn't a journal was only read.
abbrev pub LeavesBroken : {D : Type 0} → Type 0 → (D → List ℕ) → (D → List ℕ → Type 0) → (D → ℕ)
    → (D → ℕ → List ℕ → Type 0) → D → D → Found → Type 0
LeavesBroken told seen may_leave moment left_since old new (found.Behind form gate used count) = Unit {0}
LeavesBroken told seen may_leave moment left_since old new (found.Broken at) = Quiet told seen may_leave moment left_since old new
