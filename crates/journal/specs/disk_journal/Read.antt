-- What is read of a journal.
use Rattle.std.specs.Prelude.{◌≡◌, ◌≢◌, ◌⊎◌, ℕ, Bool, true, false, ◌+◌, ◌*◌, ◌^◌, ◌<◌, ◌≤◌, List, [], ◌∷◌, ◌++◌, length, take, drop, Option, Some, None, Result, Ok, Err}
use Rattle.spec_wire.specs.messages.Places.{le, number_of}
use Rattle.spec_journal.specs.Castagnoli.{behind_bytes, crc32c}
use Rattle.spec_wire.specs.journal.Grammar.{IsClosed, front, AllFit}
use Rattle.spec_wire.specs.journal.Moments.{Quiet}
use Rattle.journal.specs.declared.disk_journal.read.Look.{Look}
use Rattle.journal.specs.declared.disk_journal.read.Look.TheVariants as look
use Rattle.spec_journal.specs.Forms.{form_mark, sum_size, form_sum, form_entry, form_front, IsNoEntry, DiffersAt, NoEntryAt}
use Rattle.spec_journal.specs.declared.form.Form.{Form}
use Rattle.journal.specs.declared.disk_journal.read.Header.{Header}
use Rattle.journal.specs.declared.disk_journal.read.Header.TheVariants as header
use Rattle.base_outside.specs.streams.Faults.{Rose}
use Rattle.journal.specs.declared.disk_journal.read.NoBody.{NoBody}
use Rattle.journal.specs.declared.disk_journal.read.NoBody.TheVariants as no_body
use Rattle.journal.specs.declared.disk_journal.read.Found.{Found}
use Rattle.journal.specs.declared.disk_journal.read.Found.TheVariants as found

-- So many bytes of a buffer are filled with what stands at a place.
pub record Filled {D : Type 0} (told : Type 0) (seen : D → List ℕ) (may_leave : D → List ℕ → Type 0) (moment : D → ℕ)
    (left_since : D → ℕ → List ℕ → Type 0) (faults : D → ℕ) (start now : D) (at done : ℕ) (into : List ℕ) : Type 0 where
  pub fits : done ≤ length into
  pub same : told → take done into ≡ take done (drop at (seen start))
  pub quiet : Quiet told seen may_leave moment left_since start now
  pub no_fault : faults now ≡ faults start

-- So many bytes from a place on are summed.
pub record SummedSoFar {D : Type 0} (told : Type 0) (seen : D → List ℕ) (may_leave : D → List ℕ → Type 0) (moment : D → ℕ)
    (left_since : D → ℕ → List ℕ → Type 0) (faults : D → ℕ) (start now : D) (at count done first left : ℕ) : Type 0 where
  pub within : done ≤ count
  pub same : told → at + count ≤ length (seen start) → left ≡ behind_bytes first (take done (drop at (seen start)))
  pub quiet : Quiet told seen may_leave moment left_since start now
  pub no_fault : faults now ≡ faults start

-- what stands at a gate and behind it, but for a checksum: a closed gate, an entry with so long a body and a byte behind it, or an open
-- gate whose entry doesn't fit
abbrev pub HeadShows : Form → List ℕ → Look → Type 0
HeadShows form [] seen = ⊥
HeadShows form (gate ∷ rest) look.Closed = IsClosed gate
HeadShows form (gate ∷ rest) (look.Entry n) = (gate ≡ 1) × (n < 2 ^ 32) × (4 + sum_size form + n < length rest) × (le 4 n ≡ take 4 rest)
HeadShows form (gate ∷ rest) look.NoEntry = (gate ≡ 1) × (length rest ≤ 4 + sum_size form + number_of (take 4 rest))

-- whether the four bytes behind a length of four bytes are the checksum of both that and the n bytes behind them
abbrev pub SumIs : List ℕ → ℕ → Bool → Type 0
SumIs rest n true = take 4 (drop 4 rest) ≡ le 4 (crc32c (take 4 rest ++ take n (drop 8 rest)))
SumIs rest n false = take 4 (drop 4 rest) ≢ le 4 (crc32c (take 4 rest ++ take n (drop 8 rest)))

-- What stands at a gate and behind it: a closed gate, an entry with its checksum, so long a body and a byte behind it, or an open gate
-- without an entry.
abbrev pub JournalShows : Form → List ℕ → Look → Type 0
JournalShows form [] seen = ⊥
JournalShows form (gate ∷ rest) look.Closed = IsClosed gate
JournalShows form (gate ∷ rest) (look.Entry n) = HeadShows form (gate ∷ rest) (look.Entry n)
    × (take (sum_size form) (drop 4 rest) ≡ form_sum form (take n (drop (4 + sum_size form) rest)))
JournalShows form (gate ∷ rest) look.NoEntry = (gate ≡ 1) × IsNoEntry form rest

-- An entry ends before the end of the disk.
abbrev pub FitsBefore : Form → ℕ → ℕ → Look → Type 0
FitsBefore form gate end look.Closed = Unit {0}
FitsBefore form gate end (look.Entry n) = gate + 5 + sum_size form + n < end
FitsBefore form gate end look.NoEntry = Unit {0}

-- So many bodies stand before this gate, and with checksums aside so many bytes, this gate among them.
pub record ReadTo (form : Form) (bytes : List ℕ) (gate used count : ℕ) : Type 0 where
  pub bodies : List (List ℕ)
  pub rest : List ℕ
  pub spelled : bytes ≡ form_front form bodies ++ rest
  pub place : gate ≡ length (form_front form bodies)
  pub told : used ≡ length (front bodies) + 1
  pub number : count ≡ length bodies
  pub fit : AllFit bodies

-- The disk is read up to a gate before its end.
pub record Scanned {D : Type 0} (told : Type 0) (seen : D → List ℕ) (may_leave : D → List ℕ → Type 0) (moment : D → ℕ)
    (left_since : D → ℕ → List ℕ → Type 0) (faults : D → ℕ) (start now : D) (form : Form) (end gate used count : ℕ) : Type 0
  where
    pub before_end : gate < end
    pub some : count + 9 ≤ used
    pub past_mark : 8 ≤ gate
    pub fewer : used ≤ gate + 1
    pub half : gate + 1 ≤ 2 * used
    pub read : told → end ≡ length (seen start) → take 8 (seen start) ≡ form_mark form → ReadTo form (seen start) gate used count
    pub quiet : Quiet told seen may_leave moment left_since start now
    pub no_fault : faults now ≡ faults start

-- So many bodies stand before this gate, and it is closed.
pub record EndsWith (form : Form) (bytes : List ℕ) (gate used count : ℕ) : Type 0 where
  pub bodies : List (List ℕ)
  pub shut : ℕ
  pub rest : List ℕ
  pub spelled : bytes ≡ form_front form bodies ++ shut ∷ rest
  pub closed : IsClosed shut
  pub place : gate ≡ length (form_front form bodies)
  pub told : used ≡ length (front bodies) + 1
  pub number : count ≡ length bodies
  pub fit : AllFit bodies

-- what the gates of a journal show
abbrev pub FoundIn : List ℕ → Found → Type 0
FoundIn bytes (found.Behind form gate used count) = EndsWith form bytes gate used count
FoundIn bytes (found.Broken at) = DiffersAt bytes at ⊎ NoEntryAt bytes at

-- the gate stands before the end, there are fewer bodies than bytes, and checksums are no more than half of them
abbrev pub IsWithin : ℕ → Found → Type 0
IsWithin end (found.Behind form gate used count) = (gate < end) × (count + 9 ≤ used) × (8 ≤ gate) × (used ≤ gate + 1) × (gate + 1 ≤ 2 * used)
IsWithin end (found.Broken at) = Unit {0}

-- whose mark it is, or the place of the first byte that is no mark's
abbrev pub ChecksMark : List ℕ → Header → Type 0
ChecksMark bytes (header.Is form) = take 8 bytes ≡ form_mark form
ChecksMark bytes (header.Differs at) = DiffersAt bytes at

-- the number that four bytes spell
abbrev pub TellsLength : List ℕ → Option ℕ → Type 0
TellsLength four None = ⊥
TellsLength four (Some n) = (le 4 n ≡ four) × (n < 2 ^ 32)

-- An entry with this body stands at a gate, and it ends at most where `end` is, within the disk.
pub record EntryAt (form : Form) (gate end : ℕ) (front body rest bytes : List ℕ) : Type 0 where
  pub spelled : bytes ≡ front ++ 1 ∷ (form_entry form body ++ rest)
  pub place : length front ≡ gate
  pub within : gate + 5 + sum_size form + length body ≤ end
  pub small : length body < 2 ^ 32

-- The body, unless there is no memory or the disk fails.
abbrev pub GivesBody : List ℕ → Result (List ℕ) NoBody → Type 0
GivesBody body (Ok b) = b ≡ body
GivesBody body (Err no_body.Memory) = Unit {0}
GivesBody body (Err no_body.Failed) = Unit {0}
GivesBody body (Err no_body.EndsEarly) = ⊥

-- The count of faults rises exactly where the disk failed.
abbrev pub ReadCause : ℕ → ℕ → Result (List ℕ) NoBody → Type 0
ReadCause old new (Ok b) = new ≡ old
ReadCause old new (Err no_body.Memory) = new ≡ old
ReadCause old new (Err no_body.Failed) = (old ≤ new) × Rose old new
ReadCause old new (Err no_body.EndsEarly) = new ≡ old
