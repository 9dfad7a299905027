-- An event that changed no more than the room for it, or the tables without a word: what it answers, and what a crash leaves.
use Rattle.std.proofs.Common.{◌≡◌, ◌≤◌, inl, inr, ℕ, ◌+◌, ◌==◌, ◌||◌, nat_le, nat_lt, Bool, true, false, List, Option, Some, None}
use Rattle.std.proofs.Common.{Result, Ok, Err, IfOk, refl, sym, ap, subst, arith, eqb-true, ◌∙◌}
use Rattle.std.proofs.lemmas.Bool.Decides.{nat_tests}
use Rattle.spec_exchange.specs.State as model
use Rattle.spec_exchange.specs.Step.{step}
use Rattle.store_files.specs.file_tree.Shown.{ShowsFiles}
use Rattle.store_files.specs.declared.file_tree.tree.Tree.{Tree}
use Rattle.law_snapshots.specs.snapshots.Pieces.{SnapshotPiece}
use Rattle.server_core.proofs.journaled_tables.Behind.{held, held_still, holds_shown}
use Rattle.spec_journal.specs.Forms.{StandsFor}
use Rattle.spec_wire.specs.journal.Moments.{LeavesOnly}
use Rattle.store_opens.specs.open_table.Shown.{ShowsOpens}
use Rattle.store_opens.specs.declared.open_table.table.Opens.{Opens}
use Rattle.journal.specs.disk_journal.Journal.{JournalState, OnlyRoom, JournalSettled}
use Rattle.server_checks.specs.event_heard.Heard.{heard_event}
use Rattle.server_checks.specs.declared.event_heard.asked.Asked.{Asked}
use Rattle.server_checks.specs.declared.event_heard.event.ServerEvent.{ServerEvent}
use Rattle.journal_bytes.specs.record_bodies.Body.{fits_by}
use Rattle.server_checks.specs.Shown.{TablesShown}
use Rattle.server_checks.specs.declared.tables.Config.{Config}
use Rattle.server_checks.specs.declared.tables.Tables.{Tables}
use Rattle.server_effects.specs.declared.answering.Answer.{Answer}
use Rattle.server_core.specs.event_step.Behind.{ExpiryAsks, BehindEnds, StaysWhereNone}
use Rattle.server_core.specs.declared.event_step.expiring.Behind.{Behind}
use Rattle.server_core.specs.declared.event_step.expiring.Behind.TheVariants.{Answered, NoneExpires}
use Rattle.server_checks.specs.setups.Setups.{progress_of}
use Rattle.server_checks.specs.declared.setups.error.EventError.{EventError}
use Rattle.server_checks.specs.declared.setups.error.EventError.TheVariants.{Memory, DiskFault, Stopped}
use Rattle.server_core.specs.journaled_tables.Beside.{logons_behind}
use Rattle.server_core.specs.journaled_tables.Holds.{EventAnswers, EventLeavesBodies, EventRefused, JournaledHeld}
use Rattle.server_core.specs.journaled_tables.Holds.{HoldsOver, JournaledStands}
use Rattle.server_core.specs.declared.journaled_tables.state.ServerState.{ServerState}
use Rattle.server_core.specs.body_writing.Bodies.{IsLack}
use Rattle.base_outside.specs.streams.Faults.{Rose}
use Rattle.spec_crypto.specs.tokens.Tokens.{Users}
use Rattle.spec_world.specs.Ends.{Logons}

-- ---- memory ran out, or the journal had stopped, which it hasn't where the server goes on

pub none_some : (n : ℕ) (o : Option ℕ) → o ≡ None → o ≡ Some n → ⊥
none_some n o e h = let k : None ≡ Some n = sym e ∙ h in cc

pub lacked : {D : Type 0} (told : Type 0) (seen : D → List ℕ) (may_leave : D → List ℕ → Type 0)
    (base : List SnapshotPiece) (faults : D → ℕ) (old new : ServerState D)
    (s : model.Server) (L : Logons) (records : List model.Record) (now : ℕ) (ev : model.ServerEvent) (M : Logons) (x : EventError)
    → HoldsOver told seen may_leave base new s L records → old.stopped ≡ None → old.stopped ≡ old.journal.stopped
    → new.stopped ≡ old.stopped
    → IsLack old.journal x → EventRefused told seen may_leave base faults x old new s L records now ev M
lacked told seen may_leave base faults old new s L records now ev M Memory h none is same lack = (same ∙ none, inl h)
lacked told seen may_leave base faults old new s L records now ev M (DiskFault n) h none is same lack = absurd lack
lacked told seen may_leave base faults old new s L records now ev M (Stopped n) h none is same lack =
    absurd (none_some n old.stopped none (is ∙ lack))

abbrev stopped_by : (A : Type 0) → ℕ → Result A EventError
stopped_by A n = Err (Stopped n)

pub stopped_as : (A : Type 0) (x y : ℕ) → Some x ≡ Some y → stopped_by A x ≡ stopped_by A y
stopped_as A x y e = ap (λ (o : Option ℕ). stopped_by A (value o)) e
  where
    value : Option ℕ → ℕ
    value None = 0
    value (Some n) = n

-- the same of a journal that was given room
pub lack_still : {D : Type 0} (i j : JournalState D) (x : EventError) → OnlyRoom i j → IsLack i x → IsLack j x
lack_still {D} i j Memory o l = tt
lack_still {D} i j (DiskFault n) o l = l
lack_still {D} i j (Stopped n) o l = ap (λ (k : JournalState D). k.stopped) o.0 ∙ l

-- ---- a part of an event: what it answers counts from the event's begin

refused_from : {D : Type 0} (told : Type 0) (seen : D → List ℕ) (may_leave : D → List ℕ → Type 0)
    (base : List SnapshotPiece) (faults : D → ℕ)
    (old mid new : ServerState D) (s : model.Server) (L : Logons) (records : List model.Record) (now : ℕ) (ev : model.ServerEvent)
    (M : Logons) (x : EventError) → old.stopped ≡ None → mid.stopped ≡ old.stopped → faults mid.journal.disk ≡ faults old.journal.disk
    → EventRefused told seen may_leave base faults x mid new s L records now ev M
    → EventRefused told seen may_leave base faults x old new s L records now ev M
refused_from told seen may_leave base faults old mid new s L records now ev M Memory none same e h = h
refused_from told seen may_leave base faults old mid new s L records now ev M (DiskFault n) none same e h =
    (none, h.1, subst (λ (f : ℕ). Rose f n) e h.2, h.3, h.4)
refused_from told seen may_leave base faults old mid new s L records now ev M (Stopped n) none same e h =
    absurd (none_some n mid.stopped (same ∙ none) h.0)

pub answers_from : {D : Type 0} (told : Type 0) (seen : D → List ℕ) (may_leave : D → List ℕ → Type 0)
    (base : List SnapshotPiece) (faults : D → ℕ)
    (old mid new : ServerState D) (users : Users) (s : model.Server) (L : Logons) (records : List model.Record) (now : ℕ)
    (e : ServerEvent) (r : Result Answer EventError) → old.stopped ≡ None → mid.stopped ≡ old.stopped
    → faults mid.journal.disk ≡ faults old.journal.disk → EventAnswers told seen may_leave base faults mid new users s L records now e r
    → EventAnswers told seen may_leave base faults old new users s L records now e r
answers_from told seen may_leave base faults old mid new users s L records now e (Ok r) none same d h = h
answers_from told seen may_leave base faults old mid new users s L records now e (Err x) none same d h =
    let ev = heard_event users L s e in
    refused_from told seen may_leave base faults old mid new s L records now ev
    (logons_behind users L e now (progress_of ev (step s now ev).reply)) x
    none same d h

pub ends_from : {D : Type 0} (told : Type 0) (seen : D → List ℕ) (may_leave : D → List ℕ → Type 0)
    (base : List SnapshotPiece) (faults : D → ℕ)
    (old mid new : ServerState D) (users : Users) (s : model.Server) (L : Logons) (records : List model.Record) (now : ℕ)
    (e : ServerEvent) (a : Asked) (r : Result Behind EventError) → old.stopped ≡ None → mid.stopped ≡ old.stopped
    → faults mid.journal.disk ≡ faults old.journal.disk → BehindEnds told seen may_leave base faults mid new users s L records now e a r
    → BehindEnds told seen may_leave base faults old new users s L records now e a r
ends_from told seen may_leave base faults old mid new users s L records now e a (Ok b) none same d h = h
ends_from told seen may_leave base faults old mid new users s L records now e a (Err x) none same d h =
    let ev = heard_event users L s e in
    refused_from told seen may_leave base faults old mid new s L records now ev
    (logons_behind users L e now (progress_of ev (step s now ev).reply)) x
    none same d h

-- ---- the disk as it was

pub same_room : {D : Type 0} (j : JournalState D) → OnlyRoom j j
same_room j = (refl, omega arith)

room_on : {D : Type 0} (i j k : JournalState D) → OnlyRoom i j → OnlyRoom j k → OnlyRoom i k
room_on {D} i j k o p = (p.0 ∙ ap (λ (x : JournalState D). record x { room = k.room }) o.0, omega (arith, o.1, p.1))

pub same_disk : {D : Type 0} (i j : JournalState D) → OnlyRoom i j → j.disk ≡ i.disk
same_disk {D} i j o = ap (λ (x : JournalState D). x.disk) o.0

pub none_from : {D : Type 0} (old mid new : ServerState D) (r : Result Behind EventError) → OnlyRoom old.journal mid.journal
    → mid.stopped ≡ old.stopped → IfOk r (λ b. StaysWhereNone mid new b) → IfOk r (λ b. StaysWhereNone old new b)
none_from old mid new (Ok (Answered answer)) o same h = tt
none_from old mid new (Ok NoneExpires) o same h = (room_on old.journal mid.journal new.journal o h.0, h.1 ∙ same)
none_from old mid new (Err x) o same h = tt

-- a crash leaves the bodies that stand on it
stands_for : {D : Type 0} (seen : D → List ℕ) (may_leave : D → List ℕ → Type 0) (j : JournalState D) (bodies : List (List ℕ))
    → JournalSettled seen may_leave j bodies → (c : List ℕ) → may_leave j.disk c → StandsFor c bodies
stands_for seen may_leave j bodies s c left = inr (record {
  form = j.form;
  gate = s.gate;
  rest = s.rest;
  spelled = s.durable c left ∙ s.file;
  closed = s.closed;
  fit = s.fit;
})

pub none_leaves : {D : Type 0} (seen : D → List ℕ) (may_leave : D → List ℕ → Type 0) (base : List SnapshotPiece) (moment : D → ℕ)
    (left_since : D → ℕ → List ℕ → Type 0) (only_now : (d : D) (c : List ℕ) → left_since d (moment d) c → may_leave d c)
    (i j : JournalState D) (s : model.Server) (records : List model.Record) (now : ℕ) (ev : model.ServerEvent) (bodies : List (List ℕ))
    → j.disk ≡ i.disk → JournaledStands seen may_leave base i s records bodies
    → LeavesOnly moment left_since i.disk j.disk (EventLeavesBodies s now ev bodies)
none_leaves {D} seen may_leave base moment left_since only_now i j s records now ev bodies e h =
    subst (λ (d : D). LeavesOnly moment left_since i.disk d (EventLeavesBodies s now ev bodies)) (sym e) (record {
      later = omega arith;
      each = λ c left. inl (stands_for seen may_leave i bodies h.settled c (only_now i.disk c left));
      before = λ t c le left. inl left;
    })

-- ---- the server goes on hearing the event where room was made, or the tables show the state in another way

pub asks_room : {D : Type 0} (told : Type 0) (seen : D → List ℕ) (may_leave : D → List ℕ → Type 0)
    (base : List SnapshotPiece) (c : ServerState D) (j : JournalState D)
    (users : Users) (s : model.Server) (L : Logons) (records : List model.Record) (now : ℕ) (e : ServerEvent) (a : Asked)
    → OnlyRoom c.journal j → ExpiryAsks told seen may_leave base c users s L records now e a
    → ExpiryAsks told seen may_leave base (record c { journal = j }) users s L records now e a
asks_room told seen may_leave base c j users s L records now e a o h = record {
  holds = holds_shown told seen may_leave base (record c { journal = j }) s L records
      (held_still told seen may_leave base c (record c { journal = j }) s records o refl
      (held told seen may_leave base c s L records h.holds h.goes_on)) h.holds.shown;
  goes_on = h.goes_on;
  users_are = h.users_are;
  heard = h.heard;
  said = h.said;
}

-- a hold speaks of the tables by what they show alone
pub held_tables : {D : Type 0} (told : Type 0) (seen : D → List ℕ) (may_leave : D → List ℕ → Type 0)
    (base : List SnapshotPiece) (c : ServerState D) (t : Tables)
    (s : model.Server) (records : List model.Record) → JournaledHeld told seen may_leave base c s records
    → JournaledHeld told seen may_leave base (record c { tables = t }) s records
held_tables told seen may_leave base c t s records h = record {
  fits = h.fits;
  version = h.version;
  sound = h.sound;
  goes_on = h.goes_on;
  stopped_is = h.stopped_is;
  used = h.used;
  stands = h.stands;
}

pub shown_opens : (t : Tables) (u : Opens) (s : model.Server) → TablesShown t s → ShowsOpens u s → TablesShown (record t { opens = u }) s
shown_opens t u s h o = record {
  opens = o;
  files = h.files;
  sessions = h.sessions;
  share_is = h.share_is;
  room_is = h.room_is;
  encrypts_is = h.encrypts_is;
  address_is = h.address_is;
  version_is = h.version_is;
  journal_is = h.journal_is;
}

pub asks_opens : {D : Type 0} (told : Type 0) (seen : D → List ℕ) (may_leave : D → List ℕ → Type 0)
    (base : List SnapshotPiece) (c : ServerState D) (u : Opens)
    (users : Users) (s : model.Server) (L : Logons) (records : List model.Record) (now : ℕ) (e : ServerEvent) (a : Asked)
    → ShowsOpens u s → ExpiryAsks told seen may_leave base c users s L records now e a
    → ExpiryAsks told seen may_leave base (record c { tables = record c.tables { opens = u } }) users s L records now e a
asks_opens told seen may_leave base c u users s L records now e a o h =
    let t = record c.tables { opens = u } in record {
      holds = holds_shown told seen may_leave base (record c { tables = t }) s L records
          (held_tables told seen may_leave base c t s records (held told seen may_leave base c s L records h.holds h.goes_on))
          (record { tables = shown_opens c.tables u s h.holds.shown.tables o; logons = h.holds.shown.logons });
      goes_on = h.goes_on;
      users_are = h.users_are;
      heard = h.heard;
      said = h.said;
    }

pub shown_both : (t : Tables) (u : Opens) (f : Tree) (s : model.Server) → TablesShown t s → ShowsOpens u s → ShowsFiles f s
    → TablesShown (record t { opens = u; tree = f }) s
shown_both t u f s h o k = record {
  opens = o;
  files = k;
  sessions = h.sessions;
  share_is = h.share_is;
  room_is = h.room_is;
  encrypts_is = h.encrypts_is;
  address_is = h.address_is;
  version_is = h.version_is;
  journal_is = h.journal_is;
}

pub holds_both : {D : Type 0} (told : Type 0) (seen : D → List ℕ) (may_leave : D → List ℕ → Type 0)
    (base : List SnapshotPiece) (c : ServerState D)
    (u : Opens) (f : Tree)
    (s : model.Server) (L : Logons) (records : List model.Record) → HoldsOver told seen may_leave base c s L records → c.stopped ≡ None
    → ShowsOpens u s → ShowsFiles f s
    → HoldsOver told seen may_leave base (record c { tables = record c.tables { opens = u; tree = f } }) s L records
holds_both told seen may_leave base c u f s L records h none o k =
    let t = record c.tables { opens = u; tree = f } in
    holds_shown told seen may_leave base (record c { tables = t }) s L records
    (held_tables told seen may_leave base c t s records (held told seen may_leave base c s L records h none))
    (record { tables = shown_both c.tables u f s h.shown.tables o k; logons = h.shown.logons })

-- behind a part that left the disk as it was
pub asks_on : {D : Type 0} (told : Type 0) (seen : D → List ℕ) (may_leave : D → List ℕ → Type 0)
    (base : List SnapshotPiece) (old new : ServerState D)
    (users : Users) (s : model.Server) (L : Logons) (records : List model.Record) (now : ℕ) (e : ServerEvent) (a : Asked)
    → ExpiryAsks told seen may_leave base old users s L records now e a → HoldsOver told seen may_leave base new s L records
    → new.stopped ≡ old.stopped
    → new.tables.config ≡ old.tables.config → ExpiryAsks told seen may_leave base new users s L records now e a
asks_on told seen may_leave base old new users s L records now e a h holds same config = record {
  holds = holds;
  goes_on = same ∙ h.goes_on;
  users_are = h.users_are ∙ sym (ap (λ (z : Config). z.users) config);
  heard = h.heard;
  said = h.said;
}

-- ---- numbers

pub below_limit : (journal n : ℕ) → fits_by journal n ≡ true → n ≤ 939524096
below_limit journal n e = by (n == 0) refl e
  where
    by : (b : Bool) → (n == 0) ≡ b → (b || nat_le (journal + 5 + n) 939524096) ≡ true → n ≤ 939524096
    by true k h = let z : n ≡ 0 = eqb-true n 0 k in omega (arith, z)
    by false k h = grind (arith, nat_tests)

pub below_all : (a b : ℕ) → nat_le b a ≡ false → nat_lt a b ≡ true
below_all a b e = grind (arith, nat_tests)
