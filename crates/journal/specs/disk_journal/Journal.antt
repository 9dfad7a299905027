-- What contracts see of a journal, and what its calls answer.
use Rattle.std.specs.Prelude.{◌≡◌, ◌⊎◌, ℕ, ◌+◌, ◌-◌, ◌^◌, ◌<◌, ◌≤◌, min, Bool, true, false, List, [], ◌∷◌, ◌++◌, length}
use Rattle.std.specs.Prelude.{take, drop, Option, Some, None, Result, Ok, Err}
use Rattle.base_outside.specs.streams.Disk.{Only}
use Rattle.base_outside.specs.streams.Faults.{Rose}
use Rattle.spec_wire.specs.journal.Grammar.{IsClosed, front, AllFit}
use Rattle.spec_journal.specs.Forms.{sum_size, form_entry, form_front, IsInForm, StandsFor, BreaksAt}
use Rattle.spec_journal.specs.declared.form.Form.{Form}
use Rattle.spec_journal.specs.declared.form.Form.TheVariants.{Plain}
use Rattle.journal.specs.declared.disk_journal.journal.JournalError.{JournalError}
use Rattle.journal.specs.declared.disk_journal.journal.JournalError.TheVariants as errors
use Rattle.journal.specs.declared.disk_journal.journal.RefusedStart.{RefusedStart}

-- A journal: its disk, its form, where it ends, how many bytes it uses with the gate at the end but for checksums, how many bodies
-- stand in it, how many of them were handed out and where the next one's gate stands, where the gate stands that waits for a sync to
-- open it, at which count of faults it stopped, and how many bytes of an entry it has room for without more memory, but for a checksum.
pub record JournalState (D : Type 0) : Type 0 where
  pub disk : D
  pub form : Form
  pub end : ℕ
  pub used : ℕ
  pub count : ℕ
  pub taken : ℕ
  pub next : ℕ
  pub waits : Option ℕ
  pub stopped : Option ℕ
  pub room : ℕ

-- The disk holds these bodies, a closed gate and any bytes behind it, and nothing on it waits for a sync.
pub record JournalSettled {D : Type 0} (seen : D → List ℕ) (may_leave : D → List ℕ → Type 0) (journal : JournalState D)
    (bodies : List (List ℕ)) : Type 0 where
  pub gate : ℕ
  pub rest : List ℕ
  pub file : seen journal.disk ≡ form_front journal.form bodies ++ gate ∷ rest
  pub closed : IsClosed gate
  pub end : journal.end ≡ length (form_front journal.form bodies) + 1
  pub used : journal.used ≡ length (front bodies) + 1
  pub count : journal.count ≡ length bodies
  pub fit : AllFit bodies
  pub some_taken : journal.taken ≤ length bodies
  pub next : journal.next ≡ length (form_front journal.form (take journal.taken bodies))
  pub none_waits : journal.waits ≡ None
  pub goes_on : journal.stopped ≡ None
  pub durable : Only (seen journal.disk) (may_leave journal.disk)

-- The disk holds these bodies, behind a closed gate one more with a closed gate at its end, and any bytes behind that; nothing on it waits
-- for a sync but that the first of these gates opens.
pub record JournalWaits {D : Type 0} (seen : D → List ℕ) (may_leave : D → List ℕ → Type 0) (journal : JournalState D)
    (bodies : List (List ℕ)) (body : List ℕ) : Type 0 where
  pub gate : ℕ
  pub last : ℕ
  pub rest : List ℕ
  pub file : seen journal.disk ≡ form_front journal.form bodies ++ gate ∷ (form_entry journal.form body ++ last ∷ rest)
  pub closed : IsClosed gate
  pub behind : IsClosed last
  pub end : journal.end ≡ length (form_front journal.form (bodies ++ body ∷ [])) + 1
  pub used : journal.used ≡ length (front (bodies ++ body ∷ [])) + 1
  pub count : journal.count ≡ length (bodies ++ body ∷ [])
  pub fit : AllFit bodies
  pub small : length body < 2 ^ 32
  pub some_taken : journal.taken ≤ length bodies
  pub next : journal.next ≡ length (form_front journal.form (take journal.taken bodies))
  pub waits : journal.waits ≡ Some (length (form_front journal.form bodies))
  pub goes_on : journal.stopped ≡ None
  pub durable : Only (seen journal.disk) (may_leave journal.disk)

-- bytes that stand for these bodies, or for these and one more
abbrev pub BeforeOrAfter : List (List ℕ) → List ℕ → List ℕ → Type 0
BeforeOrAfter bodies body bytes = StandsFor bytes bodies ⊎ StandsFor bytes (bodies ++ body ∷ [])

-- a size that stands still at the last number of 64 bits
abbrev pub journal_capped : ℕ → ℕ
journal_capped size = min size (2 ^ 64 - 1)

-- the most bytes that a journal uses: an entry that begins an epoch may use the last 134,217,728
abbrev pub limit_of : Bool → ℕ
limit_of true = 1073741824
limit_of false = 939524096

-- Whether an entry of so many bytes may be added to a journal.
abbrev pub JournalAdmits : Option ℕ → ℕ → ℕ → Bool → Result Unit JournalError → Type 0
JournalAdmits stopped used size epoch (Ok _) = (stopped ≡ None) × (used + 5 + size ≤ limit_of epoch)
JournalAdmits stopped used size epoch (Err errors.Memory) = ⊥
JournalAdmits stopped used size epoch (Err (errors.DiskFault n)) = ⊥
JournalAdmits stopped used size epoch (Err (errors.NotAJournal at)) = ⊥
JournalAdmits stopped used size epoch (Err (errors.Full would limit)) = (stopped ≡ None) × (would ≡ journal_capped (used + 5 + size))
    × (limit ≡ limit_of epoch) × (limit < would)
JournalAdmits stopped used size epoch (Err (errors.Stopped n)) = stopped ≡ Some n

-- an entry of so many bytes may be added
abbrev pub Allows : {D : Type 0} → JournalState D → ℕ → Bool → Type 0
Allows old size epoch = (old.stopped ≡ None) × (old.used + 5 + size ≤ limit_of epoch)

-- nothing changed but the room, which never falls
abbrev pub OnlyRoom : {D : Type 0} → JournalState D → JournalState D → Type 0
OnlyRoom old new = (new ≡ record old { room = new.room }) × (old.room ≤ new.room)

-- What `append` answers, and what it leaves.
abbrev pub Appends : {D : Type 0} → (D → ℕ) → JournalState D → List ℕ → Bool → Result ℕ JournalError → JournalState D → Type 0
Appends faults old body epoch (Ok n) new =
    Allows old (length body) epoch × (n ≡ old.count) × (new.count ≡ old.count + 1)
    × (new.used ≡ old.used + 5 + length body) × (new.stopped ≡ None) × (faults new.disk ≡ faults old.disk)
    × (old.room ≤ new.room) × (new.taken ≡ old.taken) × (new.next ≡ old.next)
    × (new.form ≡ old.form) × (new.end ≡ old.end + 5 + sum_size old.form + length body) × (new.waits ≡ None)
Appends faults old body epoch (Err errors.Memory) new = Allows old (length body) epoch × (old.room < length body + 5) × OnlyRoom old new
Appends faults old body epoch (Err (errors.DiskFault n)) new =
    Allows old (length body) epoch × Rose (faults old.disk) n × (n ≡ faults new.disk) × (new.stopped ≡ Some n)
    × (new.used ≡ old.used) × (new.count ≡ old.count) × (old.room ≤ new.room) × (new.taken ≡ old.taken)
    × (new.next ≡ old.next) × (new.form ≡ old.form) × (new.end ≡ old.end)
Appends faults old body epoch (Err (errors.NotAJournal at)) new = ⊥
Appends faults old body epoch (Err (errors.Full would limit)) new = (old.stopped ≡ None)
    × (would ≡ journal_capped (old.used + 5 + length body)) × (limit ≡ limit_of epoch) × (limit < would) × (new ≡ old)
Appends faults old body epoch (Err (errors.Stopped n)) new = (old.stopped ≡ Some n) × (new ≡ old)

-- What `stage` answers, and what it leaves.
abbrev pub StageAnswers : {D : Type 0} → (D → ℕ) → JournalState D → List ℕ → Bool → Result Unit JournalError → JournalState D → Type 0
StageAnswers faults old body epoch (Ok _) new =
    Allows old (length body) epoch × (new.count ≡ old.count + 1)
    × (new.used ≡ old.used + 5 + length body) × (new.stopped ≡ None) × (faults new.disk ≡ faults old.disk)
    × (old.room ≤ new.room) × (new.taken ≡ old.taken) × (new.next ≡ old.next)
    × (new.form ≡ old.form) × (new.end ≡ old.end + 5 + sum_size old.form + length body) × (new.waits ≡ Some (old.end - 1))
StageAnswers faults old body epoch (Err errors.Memory) new = Allows old (length body) epoch × (old.room < length body + 5) × OnlyRoom old new
StageAnswers faults old body epoch (Err (errors.DiskFault n)) new =
    Allows old (length body) epoch × Rose (faults old.disk) n × (n ≡ faults new.disk) × (new.stopped ≡ Some n)
    × (new.used ≡ old.used) × (new.count ≡ old.count) × (old.room ≤ new.room) × (new.taken ≡ old.taken)
    × (new.next ≡ old.next) × (new.form ≡ old.form) × (new.end ≡ old.end) × (new.waits ≡ old.waits)
StageAnswers faults old body epoch (Err (errors.NotAJournal at)) new = ⊥
StageAnswers faults old body epoch (Err (errors.Full would limit)) new = (old.stopped ≡ None)
    × (would ≡ journal_capped (old.used + 5 + length body)) × (limit ≡ limit_of epoch) × (limit < would) × (new ≡ old)
StageAnswers faults old body epoch (Err (errors.Stopped n)) new = (old.stopped ≡ Some n) × (new ≡ old)

-- What `settle` answers, and what it leaves.
abbrev pub Settles : {D : Type 0} → (D → ℕ) → JournalState D → Result Unit JournalError → JournalState D → Type 0
Settles faults old (Ok _) new = (old.stopped ≡ None) × (new ≡ record old { disk = new.disk; waits = None })
    × (faults new.disk ≡ faults old.disk)
Settles faults old (Err errors.Memory) new = ⊥
Settles faults old (Err (errors.DiskFault n)) new = (old.stopped ≡ None) × Rose (faults old.disk) n × (n ≡ faults new.disk)
    × (new ≡ record old { disk = new.disk; stopped = Some n })
Settles faults old (Err (errors.NotAJournal at)) new = ⊥
Settles faults old (Err (errors.Full would limit)) new = ⊥
Settles faults old (Err (errors.Stopped n)) new = (old.stopped ≡ Some n) × (new ≡ old)

-- What `take_ahead` answers, and what it leaves.
abbrev pub TakesAhead : {D : Type 0} → (D → ℕ) → JournalState D → Result Bool JournalError → JournalState D → Type 0
TakesAhead faults old (Ok whole) new = (old.stopped ≡ None) × (new ≡ record old { disk = new.disk; room = new.room }) × (old.room ≤ new.room)
    × (faults new.disk ≡ faults old.disk)
TakesAhead faults old (Err errors.Memory) new = (old.stopped ≡ None) × OnlyRoom old new
TakesAhead faults old (Err (errors.DiskFault n)) new = (old.stopped ≡ None) × Rose (faults old.disk) n × (n ≡ faults new.disk)
    × (new ≡ record old { disk = new.disk; room = new.room; stopped = Some n }) × (old.room ≤ new.room)
TakesAhead faults old (Err (errors.NotAJournal at)) new = ⊥
TakesAhead faults old (Err (errors.Full would limit)) new = ⊥
TakesAhead faults old (Err (errors.Stopped n)) new = (old.stopped ≡ Some n) × (new ≡ old)

-- What `reserve` answers, and what it leaves.
abbrev pub Reserves : {D : Type 0} → JournalState D → ℕ → Bool → Result Unit JournalError → JournalState D → Type 0
Reserves old size epoch (Ok _) new = Allows old size epoch × (size + 5 ≤ new.room) × OnlyRoom old new
Reserves old size epoch (Err errors.Memory) new = Allows old size epoch × (old.room < size + 5) × OnlyRoom old new
Reserves old size epoch (Err (errors.DiskFault n)) new = ⊥
Reserves old size epoch (Err (errors.NotAJournal at)) new = ⊥
Reserves old size epoch (Err (errors.Full would limit)) new = (old.stopped ≡ None)
    × (would ≡ journal_capped (old.used + 5 + size)) × (limit ≡ limit_of epoch) × (limit < would) × (new ≡ old)
Reserves old size epoch (Err (errors.Stopped n)) new = (old.stopped ≡ Some n) × (new ≡ old)

-- A disk failed in a call, which left it so and tells this count of faults.
abbrev pub FailedAt : {D : Type 0} → (D → ℕ) → (disk left : D) → ℕ → Type 0
FailedAt faults disk left n = (n ≡ faults left) × Rose (faults disk) n

-- the disk behind a call that makes a journal of one: that of the journal, or the one that is handed back
abbrev pub disk_behind : {D : Type 0} → Result (JournalState D) (RefusedStart D) → D
disk_behind (Ok journal) = journal.disk
disk_behind (Err refused) = refused.disk

-- Why `create` refuses a disk: only since it failed.
abbrev pub CreateRefused : {D : Type 0} → (D → ℕ) → (disk left : D) → JournalError → Type 0
CreateRefused faults disk left errors.Memory = ⊥
CreateRefused faults disk left (errors.DiskFault n) = FailedAt faults disk left n
CreateRefused faults disk left (errors.NotAJournal at) = ⊥
CreateRefused faults disk left (errors.Full would limit) = ⊥
CreateRefused faults disk left (errors.Stopped n) = ⊥

-- What `create` answers of a disk.
abbrev pub JournalCreates : {D : Type 0} → (D → ℕ) → D → Result (JournalState D) (RefusedStart D) → Type 0
JournalCreates faults disk (Ok journal) = (faults journal.disk ≡ faults disk) × (journal.used ≡ 9) × (journal.count ≡ 0)
    × (journal.taken ≡ 0) × (journal.stopped ≡ None) × (journal.form ≡ Plain) × (journal.end ≡ 9) × (journal.waits ≡ None)
JournalCreates faults disk (Err refused) = CreateRefused faults disk refused.disk refused.cause

-- Why `recover` refuses a disk: it failed, or its bytes break the grammar there, and then no call of it failed.
abbrev pub RecoverRefused : {D : Type 0} → Type 0 → (D → List ℕ) → (D → ℕ) → (disk left : D) → JournalError → Type 0
RecoverRefused told seen faults disk left errors.Memory = ⊥
RecoverRefused told seen faults disk left (errors.DiskFault n) = FailedAt faults disk left n
RecoverRefused told seen faults disk left (errors.NotAJournal at) = (faults left ≡ faults disk) × (told → BreaksAt (seen disk) at)
RecoverRefused told seen faults disk left (errors.Full would limit) = ⊥
RecoverRefused told seen faults disk left (errors.Stopped n) = ⊥

-- What `recover` answers of a disk: a journal of the bodies that its bytes stand for, or why there is none.
abbrev pub JournalRecovers : {D : Type 0} → Type 0 → (D → List ℕ) → (D → ℕ) → D → Result (JournalState D) (RefusedStart D) → Type 0
JournalRecovers told seen faults disk (Ok journal) = (faults journal.disk ≡ faults disk) × (journal.taken ≡ 0)
    × (journal.stopped ≡ None) × (told → (bodies : List (List ℕ)) × StandsFor (seen disk) bodies
    × (journal.used ≡ length (front bodies) + 1) × (journal.count ≡ length bodies) × IsInForm journal.form (seen disk) bodies)
JournalRecovers told seen faults disk (Err refused) = RecoverRefused told seen faults disk refused.disk refused.cause

-- What `next_body` hands out of a journal of these bodies: each once, in order, and none exactly behind the last.
abbrev pub HandsOut : {D : Type 0} → (D → List ℕ) → (D → List ℕ → Type 0) → JournalState D → List (List ℕ)
    → Result (Option (List ℕ)) JournalError → JournalState D → Type 0
HandsOut seen may_leave old bodies (Ok (Some body)) new = (drop old.taken bodies ≡ body ∷ drop new.taken bodies)
    × JournalSettled seen may_leave new bodies
HandsOut seen may_leave old bodies (Ok None) new = (drop old.taken bodies ≡ []) × JournalSettled seen may_leave new bodies
HandsOut seen may_leave old bodies (Err errors.Memory) new = JournalSettled seen may_leave new bodies
HandsOut seen may_leave old bodies (Err (errors.DiskFault n)) new = Unit {0}
HandsOut seen may_leave old bodies (Err (errors.NotAJournal at)) new = ⊥
HandsOut seen may_leave old bodies (Err (errors.Full would limit)) new = ⊥
HandsOut seen may_leave old bodies (Err (errors.Stopped n)) new = ⊥

-- nothing changed but the disk, which was read
abbrev pub OnlyRead : {D : Type 0} → (D → ℕ) → JournalState D → JournalState D → Type 0
OnlyRead faults old new = (new ≡ record old { disk = new.disk }) × (faults new.disk ≡ faults old.disk)

-- the disk failed while it was read, and the journal stopped
abbrev pub JournalStopsAt : {D : Type 0} → (D → ℕ) → ℕ → JournalState D → JournalState D → Type 0
JournalStopsAt faults n old new = (old.stopped ≡ None) × Rose (faults old.disk) n × (n ≡ faults new.disk)
    × (new.stopped ≡ Some n) × (new.used ≡ old.used) × (new.count ≡ old.count) × (new.room ≡ old.room)
    × (new.form ≡ old.form) × (new.end ≡ old.end)

-- What `next_body` answers on any disk, and what it leaves.
abbrev pub JournalNextAnswers : {D : Type 0} → (D → ℕ) → JournalState D → Result (Option (List ℕ)) JournalError → JournalState D → Type 0
JournalNextAnswers faults old (Ok (Some body)) new = (old.stopped ≡ None) × (new ≡ record old {
  disk = new.disk;
  taken = old.taken + 1;
  next = old.next + 5 + sum_size old.form + length body;
}) × (new.next < new.end)
    × (faults new.disk ≡ faults old.disk)
JournalNextAnswers faults old (Ok None) new = (old.stopped ≡ None) × (old.next + 1 ≡ old.end) × (new ≡ old)
JournalNextAnswers faults old (Err errors.Memory) new = (old.stopped ≡ None) × (old.next + 1 < old.end) × OnlyRead faults old new
JournalNextAnswers faults old (Err (errors.DiskFault n)) new = JournalStopsAt faults n old new × (new.taken ≡ old.taken)
    × (new.next ≡ old.next)
JournalNextAnswers faults old (Err (errors.NotAJournal at)) new = (old.stopped ≡ None) × (old.next + 1 < old.end)
    × (at ≡ old.next) × OnlyRead faults old new
JournalNextAnswers faults old (Err (errors.Full would limit)) new = ⊥
JournalNextAnswers faults old (Err (errors.Stopped n)) new = (old.stopped ≡ Some n) × (new ≡ old)

-- What is read of a journal of these bodies until none is left.
abbrev pub HandsOutRest : {D : Type 0} → (D → List ℕ) → (D → List ℕ → Type 0) → JournalState D → List (List ℕ)
    → Result (List (List ℕ)) JournalError → JournalState D → Type 0
HandsOutRest seen may_leave old bodies (Ok list) new = (list ≡ drop old.taken bodies) × JournalSettled seen may_leave new bodies
HandsOutRest seen may_leave old bodies (Err errors.Memory) new = JournalSettled seen may_leave new bodies
HandsOutRest seen may_leave old bodies (Err (errors.DiskFault n)) new = Unit {0}
HandsOutRest seen may_leave old bodies (Err (errors.NotAJournal at)) new = ⊥
HandsOutRest seen may_leave old bodies (Err (errors.Full would limit)) new = ⊥
HandsOutRest seen may_leave old bodies (Err (errors.Stopped n)) new = ⊥

-- nothing changed but the disk, which was read, and how many bodies were handed out
abbrev pub JournalAdvances : {D : Type 0} → (D → ℕ) → JournalState D → JournalState D → Type 0
JournalAdvances faults old new = (new ≡ record old { disk = new.disk; taken = new.taken; next = new.next })
    × (faults new.disk ≡ faults old.disk)

abbrev pub RestAnswers : {D : Type 0} → (D → ℕ) → JournalState D → Result (List (List ℕ)) JournalError → JournalState D → Type 0
RestAnswers faults old (Ok list) new = (old.stopped ≡ None) × JournalAdvances faults old new
RestAnswers faults old (Err errors.Memory) new = (old.stopped ≡ None) × JournalAdvances faults old new
RestAnswers faults old (Err (errors.DiskFault n)) new = JournalStopsAt faults n old new
RestAnswers faults old (Err (errors.NotAJournal at)) new = (old.stopped ≡ None) × (at ≡ new.next)
    × (new.next + 1 < new.end) × JournalAdvances faults old new
RestAnswers faults old (Err (errors.Full would limit)) new = ⊥
RestAnswers faults old (Err (errors.Stopped n)) new = ⊥

-- What `bodies` answers of a journal of these bodies: all of them.
abbrev pub HandsOutAll : {D : Type 0} → (D → List ℕ) → (D → List ℕ → Type 0) → List (List ℕ) → Result (List (List ℕ))
    JournalError → JournalState D → Type 0
HandsOutAll seen may_leave bodies (Ok list) new = (list ≡ bodies) × JournalSettled seen may_leave new bodies
HandsOutAll seen may_leave bodies (Err errors.Memory) new = JournalSettled seen may_leave new bodies
HandsOutAll seen may_leave bodies (Err (errors.DiskFault n)) new = Unit {0}
HandsOutAll seen may_leave bodies (Err (errors.NotAJournal at)) new = ⊥
HandsOutAll seen may_leave bodies (Err (errors.Full would limit)) new = ⊥
HandsOutAll seen may_leave bodies (Err (errors.Stopped n)) new = ⊥

-- What `bodies` answers on any disk, and what it leaves.
abbrev pub AllAnswers : {D : Type 0} → (D → ℕ) → JournalState D → Result (List (List ℕ)) JournalError → JournalState D → Type 0
AllAnswers faults old (Ok list) new = (old.stopped ≡ None) × OnlyRead faults old new
AllAnswers faults old (Err errors.Memory) new = (old.stopped ≡ None) × OnlyRead faults old new
AllAnswers faults old (Err (errors.DiskFault n)) new = JournalStopsAt faults n old new × (new.taken ≡ old.taken) × (new.next ≡ old.next)
AllAnswers faults old (Err (errors.NotAJournal at)) new = (old.stopped ≡ None) × (8 ≤ at) × (at + 1 < old.end) × OnlyRead faults old new
AllAnswers faults old (Err (errors.Full would limit)) new = ⊥
AllAnswers faults old (Err (errors.Stopped n)) new = (old.stopped ≡ Some n) × (new ≡ old)
