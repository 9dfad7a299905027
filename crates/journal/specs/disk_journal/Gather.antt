-- What is read of a journal as far as a loop over its bodies has come.
use Rattle.std.specs.Prelude.{◌≡◌, ℕ, List, ◌++◌, drop}
use Rattle.spec_wire.specs.journal.Moments.{Quiet}
use Rattle.journal.specs.disk_journal.Journal.{JournalState, JournalSettled, JournalAdvances}

pub record Gathered {D : Type 0} (told : Type 0) (seen : D → List ℕ) (may_leave : D → List ℕ → Type 0) (moment : D → ℕ)
    (left_since : D → ℕ → List ℕ → Type 0) (faults : D → ℕ) (old now : JournalState D) (list : List (List ℕ)) : Type 0
  where
    pub same : told → (bodies : List (List ℕ)) → JournalSettled seen may_leave old bodies → JournalSettled seen may_leave now bodies
    pub front : told → (bodies : List (List ℕ)) → JournalSettled seen may_leave old bodies → list
        ++ drop now.taken bodies ≡ drop old.taken bodies
    pub quiet : Quiet told seen may_leave moment left_since old.disk now.disk
    pub advances : JournalAdvances faults old now
