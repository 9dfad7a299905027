-- What a restart answers, put together from what it read and what it wrote.
use Rattle.std.proofs.Common.{◌≡◌, ◌⊎◌, inl, inr, ⊎_elim, ℕ, ◌+◌, ◌≤◌, ◌==◌, Bool, true, false, if◌then◌else◌}
use Rattle.std.proofs.Common.{List, [], ◌∷◌, ◌++◌, length, length-append, drop, Some, None, refl, sym, ap, subst, ◌∙◌, arith}
use Rattle.std.specs.Prelude.{Result, Ok, Err, IfErr, IfOk}
use Rattle.std.proofs.lemmas.List.{drop-map, length-map}
use Rattle.std.proofs.Math.Seq.{drop-append_seam}
use Rattle.spec_exchange.specs.Fold.{Configuration, nothing_yet, fold_from, full_room, epoch_records, unmark_records, opening_records}
use Rattle.spec_exchange.specs.Records.{entry_bytes}
use Rattle.spec_exchange.specs.State as model
use Rattle.spec_exchange.specs.State.{Server, VersionRecord, EpochRecord}
use Rattle.spec_wire.specs.journal.Grammar.{front}
use Rattle.spec_journal.specs.Forms.{BreaksAt, StandsFor}
use Rattle.spec_wire.specs.journal.Moments.{LeavesOnly, Quiet}
use Rattle.journal_bytes.specs.record_bytes.Grammar.{SpellsRecords}
use Rattle.journal_bytes.specs.record_bytes.Meaning.{record_of, records_of}
use Rattle.journal_bytes.specs.declared.record_bytes.value.Record.{Record}
use Rattle.journal_bytes.specs.declared.record_bytes.value.Record.TheVariants.{Epoch, Create, Write, SetEnd, SetBasic, SetDelete}
use Rattle.journal_bytes.specs.declared.record_bytes.value.Record.TheVariants.{Rename, Remove, Lock, Shut, Version, Expire}
use Rattle.journal.specs.disk_journal.Journal as journals
use Rattle.journal.specs.disk_journal.Journal.{JournalState, JournalSettled, Appends, BeforeOrAfter, journal_capped}
use Rattle.journal.specs.declared.disk_journal.journal.JournalError.{JournalError}
use Rattle.journal.specs.declared.disk_journal.journal.JournalError.TheVariants.{Memory, DiskFault, NotAJournal, Full, Stopped}
use Rattle.journal_bytes.specs.record_bodies.Body.{IsBody, added_by}
use Rattle.journal_bytes.proofs.record_bodies.Sizes.{added, again}
use Rattle.server_checks.specs.Shown.{TablesShown}
use Rattle.server_checks.specs.declared.tables.Config.{Config}
use Rattle.server_checks.specs.declared.tables.Tables.{Tables}
use Rattle.server_core.proofs.durable_state.Choice.{eq_on}
use Rattle.server_core.specs.durable_state.Durable.{DurableShown}
use Rattle.server_core.specs.declared.durable_state.durable.Durable.{Durable}
use Rattle.law_server.specs.tables.Fits.{Fits, all_sound}
use Rattle.law_server.proofs.tables.Folded.{folded_keeps, sound_epoch, sound_unmarked}
use Rattle.law_records.proofs.recovery.Leaves.{fold_append}
use Rattle.law_snapshots.specs.snapshots.Pieces.{SnapshotPiece}
use Rattle.server_core.specs.Over.{found_over, opening_over, opened_over}
use Rattle.server_core.specs.Reading.{FoldRefused, HandedOut, IsNothing, IsReadOver, ReadRefused, SpellOver}
use Rattle.server_core.proofs.SnapshotBodies.{over_more}
use Rattle.server_core.specs.restart_tables.Found.{Found, IsOf, IsRead}
use Rattle.server_core.specs.restart_tables.Restart.{IsServerBegun, IsFull, IsNoBody, KeepsBodies, RestartLeaves, RestartRefused}
use Rattle.server_core.specs.restart_tables.Restart.{ServerRestarts, StandsBegun, StartRefused, UnlessFailed, configuration_of, configured}
use Rattle.server_core.proofs.restart_tables.OfBase.{begun_fits, begun_plain, begun_stands, behind_opening, of_over, opening_begun}
use Rattle.server_core.proofs.restart_tables.OfBase.{opening_sound, opening_version}
use Rattle.server_core.proofs.restart_tables.OfFold.{IsOfFold}
use Rattle.server_checks.specs.session_table.Logons.{LogonsShown}
use Rattle.base_outside.specs.streams.Faults.{Rose}
use Rattle.spec_world.specs.Ends.{no_logons}

-- ---- the body that a recovery writes

five_at : (b : Bool) (n : ℕ) (more : List model.Record)
    → 5 ≤ entry_bytes ((if b then VersionRecord 2 ∷ EpochRecord n ∷ [] else EpochRecord n ∷ []) ++ more)
unfolding entry_bytes
five_at true n more = omega arith
five_at false n more = omega arith

five : (s : Server) → 5 ≤ entry_bytes (opening_records s)
five s = let b = fold_from s (epoch_records s) in five_at (s.version == 1) (s.epoch + 1) (unmark_records b b.entries)

opening_adds : (body : List ℕ) (s : Server) → added_by body ≡ entry_bytes (opening_records s)
    → entry_bytes (opening_records s) ≡ 5 + length body
opening_adds [] s e = omega (arith, e, five s)
opening_adds (c ∷ cs) s e = sym e

abbrev begins : List model.Record → Bool
begins [] = false
begins (VersionRecord number ∷ rs) = true
begins (_ ∷ rs) = false

abbrev some_records : Bool → List model.Record → Bool
some_records b [] = false
some_records b (r ∷ rs) = true

-- behind a version of 1 the record of version 2 is spelled as in version 2, and so is what follows it
spells_1 : (rs : List Record) (more : List model.Record) (body : List ℕ) → records_of rs ≡ VersionRecord 2 ∷ more → IsBody body rs
    → SpellsRecords 1 body rs
spells_1 [] more body e is = absurd (let f : false ≡ true = ap begins e in cc)
spells_1 (Version k ∷ rest) more body e is =
    let h : SpellsRecords 2 body (Version k ∷ rest) = again body (Version k) rest is in
    (record { fields = h.0.fields; kept = h.0.kept }, h.1)
spells_1 (Epoch k ∷ rest) more body e is = absurd (let f : false ≡ true = ap begins e in cc)
spells_1 (Create origin action file path attributes directory time made ∷ rest) more body e is =
    absurd (let f : false ≡ true = ap begins e in cc)
spells_1 (Write origin file at time bytes ∷ rest) more body e is = absurd (let f : false ≡ true = ap begins e in cc)
spells_1 (SetEnd origin file size time ∷ rest) more body e is = absurd (let f : false ≡ true = ap begins e in cc)
spells_1 (SetBasic origin file basic ∷ rest) more body e is = absurd (let f : false ≡ true = ap begins e in cc)
spells_1 (SetDelete origin file marked ∷ rest) more body e is = absurd (let f : false ≡ true = ap begins e in cc)
spells_1 (Rename origin file replaced path ∷ rest) more body e is = absurd (let f : false ≡ true = ap begins e in cc)
spells_1 (Remove origin file ∷ rest) more body e is = absurd (let f : false ≡ true = ap begins e in cc)
spells_1 (Lock origin id index number status elements ∷ rest) more body e is = absurd (let f : false ≡ true = ap begins e in cc)
spells_1 (Shut origin id ∷ rest) more body e is = absurd (let f : false ≡ true = ap begins e in cc)
spells_1 (Expire origin id ∷ rest) more body e is = absurd (let f : false ≡ true = ap begins e in cc)

none_told : (b : Bool) (n : ℕ) (more : List model.Record)
    → [] ≡ (if b then VersionRecord 2 ∷ EpochRecord n ∷ [] else EpochRecord n ∷ []) ++ more → ⊥
none_told true n more e = let f : false ≡ true = ap (some_records true) e in cc
none_told false n more e = let f : false ≡ true = ap (some_records true) e in cc

spells_2 : (rs : List Record) (b : Bool) (n : ℕ) (more : List model.Record) (body : List ℕ)
    → records_of rs ≡ (if b then VersionRecord 2 ∷ EpochRecord n ∷ [] else EpochRecord n ∷ []) ++ more → IsBody body rs
    → SpellsRecords 2 body rs
spells_2 [] b n more body e is = absurd (none_told b n more e)
spells_2 (r ∷ rest) b n more body e is = again body r rest is

spells_opening : (version : ℕ) (rs : List Record) (n : ℕ) (more : List model.Record) (body : List ℕ) → (version ≡ 1) ⊎ (version ≡ 2)
    → records_of rs ≡ (if version == 1 then VersionRecord 2 ∷ EpochRecord n ∷ [] else EpochRecord n ∷ []) ++ more → IsBody body rs
    → SpellsRecords version body rs
spells_opening version rs n more body (inl one) e is =
    subst (λ (v : ℕ). SpellsRecords v body rs) (sym one)
    (spells_1 rs (EpochRecord n ∷ more) body
    (e ∙ ap (λ (b : Bool). (if b then VersionRecord 2 ∷ EpochRecord n ∷ [] else EpochRecord n ∷ []) ++ more) (eq_on version 1 one)) is)
spells_opening version rs n more body (inr two) e is =
    subst (λ (v : ℕ). SpellsRecords v body rs) (sym two) (spells_2 rs (version == 1) n more body e is)

none_not : (n : ℕ) → None ≡ Some n → ⊥
none_not n e = cc

-- what the body of a recovery's records is, and what the state follows
abbrev pub IsOpened : Durable → Durable → List ℕ → Type 0
IsOpened old new body = (s : Server) → Fits s → DurableShown old s → (rs : List Record) × IsBody body rs
    × (records_of rs ≡ opening_records s) × DurableShown new (fold_from s (opening_records s))

-- behind the first records of a list those that were added
rest_of : (old new : List Record) (count : ℕ) (more : List model.Record) → count ≡ length old → records_of new ≡ records_of old ++ more
    → records_of (drop count new) ≡ more
rest_of old new count more n e =
    sym (drop-map record_of count new)
    ∙ (ap (λ (v : List model.Record). drop count v) e
    ∙ (ap (λ (k : ℕ). drop k (records_of old ++ more)) (n ∙ sym (length-map old record_of))
    ∙ drop-append_seam (records_of old) more))

enough : (old new : List Record) (count : ℕ) (more : List model.Record) → count ≡ length old → records_of new ≡ records_of old ++ more
    → count ≤ length new
enough old new count more n e =
    let all : length (records_of new) ≡ length (records_of old ++ more) = ap (λ (v : List model.Record). length v) e in
    let both = length-append (records_of old) more in
    let a = length-map new record_of in let b = length-map old record_of in omega (arith, n, all, both, a, b)

-- the epoch's records first, and behind them the marks that they leave
pub opened_by : (old mid new : Durable) (body : List ℕ) (first all : List Record) (xs ys : List Record) (count : ℕ) → xs ≡ first
    → count ≡ length first → (count ≤ length all → ys ≡ drop count all) → IsBody body all
    → ((s : Server) → s.version ≡ old.version → s.epoch ≡ old.epoch → records_of first ≡ epoch_records s)
    → ((s : Server) → Fits s → DurableShown old s → all_sound (records_of xs) ≡ true → DurableShown mid (fold_from s (records_of xs)))
    → ((s : Server) → Fits s → DurableShown mid s → records_of all ≡ records_of first ++ unmark_records s s.entries)
    → ((s : Server) → Fits s → DurableShown mid s → all_sound (records_of ys) ≡ true → DurableShown new (fold_from s (records_of ys)))
    → IsOpened old new body
opened_by old mid new body first all xs ys count x n y is epoch begun marks cleared s i h =
    let b = fold_from s (epoch_records s) in let more = unmark_records b b.entries in
    let told : records_of first ≡ epoch_records s = epoch s h.version_is h.epoch_is in
    let told_xs : records_of xs ≡ epoch_records s = ap (λ (v : List Record). records_of v) x ∙ told in
    let fits : Fits b = folded_keeps s (epoch_records s) (sound_epoch s) i in
    let shown : DurableShown mid b = subst (λ (v : List model.Record). DurableShown mid (fold_from s v)) told_xs
    (begun s i h (ap (λ (v : List model.Record). all_sound v) told_xs ∙ sound_epoch s)) in
    let added : records_of all ≡ records_of first ++ more = marks b fits shown in
    let told_ys : records_of ys ≡ more = ap (λ (v : List Record). records_of v) (y (enough first all count more n added))
    ∙ rest_of first all count more n added in
    let after : DurableShown new (fold_from b more) = subst (λ (v : List model.Record). DurableShown new (fold_from b v)) told_ys
    (cleared b fits shown (ap (λ (v : List model.Record). all_sound v) told_ys ∙ sound_unmarked b b.entries)) in (
      all,
      is,
      added ∙ ap (λ (v : List model.Record). v ++ more) told,
      subst (λ (z : Server). DurableShown new z) (sym (fold_append s (epoch_records s) more)) after,
    )

-- of the body that they are spelled as
pub opened_with : {E : Type 0} (old new : Durable) (all : List Record) (r : Result (List ℕ) E) → IfOk r (λ b. IsBody b all)
    → ((body : List ℕ) → IsBody body all → IsOpened old new body) → IfOk r (λ b. IsOpened old new b)
opened_with old new all (Ok body) is opened = opened body is
opened_with old new all (Err x) is opened = tt

module _ {D : Type 0} (told : Type 0) (seen : D → List ℕ) (may_leave : D → List ℕ → Type 0) (faults : D → ℕ) where
  -- what a fold of all its bodies gives
  abbrev Folds : JournalState D → Durable → Durable → Type 0
  Folds j before d = (s : Server) → IsNothing s → DurableShown before s → (bodies : List (List ℕ)) × (base : List SnapshotPiece)
      × (records : List model.Record) × IsReadOver d base bodies records × HandedOut told seen may_leave j bodies

  -- its bodies stay
  abbrev Stays : JournalState D → JournalState D → Type 0
  Stays old new = told → (all : List (List ℕ)) → JournalSettled seen may_leave old all → JournalSettled seen may_leave new all

  read_all : (first j : JournalState D) (d : Durable) (bodies : List (List ℕ)) (base : List SnapshotPiece) (records : List model.Record)
      (rs : List Record) (body : List ℕ) → IsReadOver d base bodies records → HandedOut told seen may_leave first bodies → Stays first j
      → records_of rs ≡ opening_over base records → IsBody body rs
      → told → (all : List (List ℕ)) → JournalSettled seen may_leave first all → IsRead seen may_leave j all bodies base records body
  read_all first j d bodies base records rs body was handed stays e is t all settled =
      let same : bodies ≡ all = handed t all settled in
      let spelled : SpellOver base all records = subst (λ (bs : List (List ℕ)). SpellOver base bs records) same was.spelled in
      let u = found_over base records in
      let b = fold_from u (epoch_records u) in
      record {
        same = same;
        spelled = spelled;
        settled = stays t all settled;
        more = subst (λ (xs : List model.Record). SpellOver base (all ++ body ∷ []) (records ++ xs)) e
            (over_more base all records body rs spelled
            (spells_opening u.version rs (u.epoch + 1) (unmark_records b b.entries) body
            (of_over base bodies records was.spelled).version_is e is));
      }

  pub found : (first j : JournalState D) (d0 d1 d2 : Durable) (body : List ℕ) → DurableShown d0 nothing_yet
      → (j.stopped ≡ None) × (faults j.disk ≡ faults first.disk) × (j.used ≡ first.used) → Folds first d0 d1
      → Stays first j → IsOpened d1 d2 body
      → Found told seen may_leave faults first j d2 body
  found first j d0 d1 d2 body new read folds stays opened =
      let e = folds nothing_yet refl new in
      let was : IsReadOver d1 e.1 e.0 e.2 = e.3 in
      let u = found_over e.1 e.2 in
      let o = opened u was.fits was.shown in
      record {
        bodies = e.0;
        base = e.1;
        records = e.2;
        goes_on = read.0;
        no_fault = read.1;
        taken = was.spelled;
        sound = was.sound;
        fits = was.fits;
        shown = subst (λ (x : Server). DurableShown d2 x)
            (sym (behind_opening e.1 e.2 was.fits (of_over e.1 e.0 e.2 was.spelled))) o.3;
        adds = opening_adds body u (added body (opening_over e.1 e.2) (o.0, o.2, o.1));
        read = read_all first j d1 e.0 e.1 e.2 o.0 body was e.4 stays o.2 o.1;
      }

  -- ---- the answers

  small_room : (z : Config) → (configuration_of z).room ≤ full_room
  small_room z = omega arith

  pub restarted : (disk : D) (first j new : JournalState D) (d : Durable) (used number : ℕ) (body m : List ℕ) (z : Config) (t : Tables)
      → IsOf told seen may_leave faults disk first → Found told seen may_leave faults first j d body → m ≡ body
      → (told → (all : List (List ℕ)) → JournalSettled seen may_leave j all
      → (number ≡ length all) × JournalSettled seen may_leave new (all ++ m ∷ []))
      → Appends faults j m true (Ok number) new → used ≡ new.used
      → ((s : Server) → DurableShown d s → IsServerBegun s → TablesShown t (configured s (configuration_of z) used))
      → LogonsShown t.sessions no_logons.keys no_logons.pending → ServerRestarts told seen may_leave faults z disk new t
  restarted disk first j new d used number body m z t i f same written a u tables logons =
      let long : length m ≡ length body = ap length same in
      let adds : new.used ≡ j.used + 5 + length m = a.3 in
      let more : entry_bytes (opening_over f.base f.records) ≡ 5 + length body = f.adds in
      let counts : j.used + entry_bytes (opening_over f.base f.records) ≡ used = omega (arith, long, adds, more, u) in
      let own : IsOfFold (found_over f.base f.records) = of_over f.base f.bodies f.records f.taken in
      let z_is : Configuration = configuration_of z in (
        a.4,
        a.5 ∙ (f.no_fault ∙ i.0.0),
        j.used,
        f.records,
        f.base,
        record {
          shown = subst (λ (n : ℕ). TablesShown t (configured (found_over f.base (opened_over f.base f.records)) z_is n)) (sym counts)
              (tables (found_over f.base (opened_over f.base f.records)) f.shown (opening_begun f.base f.records f.fits own));
          logons = logons;
          fits = begun_fits f.base f.records f.fits own z_is j.used (small_room z);
          version = opening_version f.base f.records f.fits own;
          sound = opening_sound f.base f.records f.fits own f.sound;
          for_state = begun_stands f.base f.records f.fits own z_is j.used (small_room z);
          plain = begun_plain z_is j.used f.base f.records (small_room z) f.sound;
        },
        counts ∙ u,
        λ y.
            let s = i.0.3 y in
            let q = f.read y s.0 (i.1 y s.0 s.1) in
            record {
              bodies = s.0;
              body = body;
              stood = s.1;
              spelled = q.spelled;
              sound = f.sound;
              bytes_are = q.settled.used;
              settled = subst (λ (v : List ℕ). JournalSettled seen may_leave new (s.0 ++ v ∷ [])) same (written y s.0 q.settled).1;
              more = q.more;
            },
        (let room = a.0.1 in omega (arith, long, more, room)),
      )

  -- ---- the refusals

  pub unread : (disk left : D) (x : JournalError) → journals.RecoverRefused told seen faults disk left x
      → RestartRefused told seen faults disk left x
  unread disk left Memory h = absurd h
  unread disk left (DiskFault n) h = h
  unread disk left (NotAJournal at) h = (h.0, λ t. inl (h.1 t))
  unread disk left (Full would limit) h = absurd h
  unread disk left (Stopped n) h = h

  no_body : (disk : D) (first : JournalState D) (d0 : Durable) (at : ℕ) → IsOf told seen may_leave faults disk first
      → DurableShown d0 nothing_yet
      → (told → (s : Server) → IsNothing s → DurableShown d0 s → (bodies : List (List ℕ)) → JournalSettled seen may_leave first bodies
      → FoldRefused first.form bodies (NotAJournal at)) → told → IsNoBody (seen disk) at
  no_body disk first d0 at i new refused t =
      let b = i.0.3 t in
      let f = refused t nothing_yet refl new b.0 (i.1 t b.0 b.1) in
      (b.0, f.0, f.1, f.2, f.3, b.1, f.4, (first.form, b.4, f.5), f.6, f.7, f.8)

  pub unfolded : (disk : D) (first j : JournalState D) (d0 : Durable) (x : JournalError)
      → IsOf told seen may_leave faults disk first → DurableShown d0 nothing_yet → ReadRefused faults first.disk x j
      → (told → (s : Server) → IsNothing s → DurableShown d0 s → (bodies : List (List ℕ)) → JournalSettled seen may_leave first bodies
      → FoldRefused first.form bodies x) → RestartRefused told seen faults disk j.disk x
  unfolded disk first j d0 Memory i new cause refused = cause ∙ i.0.0
  unfolded disk first j d0 (DiskFault n) i new cause refused = (cause.1, subst (λ (m : ℕ). Rose m n) i.0.0 cause.0)
  unfolded disk first j d0 (NotAJournal at) i new cause refused =
      (cause ∙ i.0.0, λ t. inr (no_body disk first d0 at i new refused t))
  unfolded disk first j d0 (Full would limit) i new cause refused = absurd cause
  unfolded disk first j d0 (Stopped n) i new cause refused = absurd cause

  full : (disk : D) (first j new : JournalState D) (d : Durable) (body m : List ℕ) (would limit : ℕ)
      → IsOf told seen may_leave faults disk first → Found told seen may_leave faults first j d body → m ≡ body
      → Appends faults j m true (Err (Full would limit)) new → told → IsFull (seen disk) would limit
  full disk first j new d body m would limit i f same a t =
      let s = i.0.3 t in
      let q = f.read t s.0 (i.1 t s.0 s.1) in
      let long : length m ≡ length body = ap length same in
      let uses : j.used ≡ length (front s.0) + 1 = q.settled.used in
      let more : entry_bytes (opening_over f.base f.records) ≡ 5 + length body = f.adds in
      let size : j.used + 5 + length m ≡ length (front s.0) + 1 + entry_bytes (opening_over f.base f.records) =
      omega (arith, long, uses, more) in
      (s.0, f.base, f.records, s.1, q.spelled, f.sound, a.1 ∙ ap (λ (n : ℕ). journal_capped n) size, a.2, a.3)

  pub unwritten : (disk : D) (first j new : JournalState D) (d : Durable) (body m : List ℕ) (x : JournalError)
      → IsOf told seen may_leave faults disk first → Found told seen may_leave faults first j d body → m ≡ body
      → Appends faults j m true (Err x) new → RestartRefused told seen faults disk new.disk x
  unwritten disk first j new d body m Memory i f same a =
      ap (λ (s : JournalState D). faults s.disk) a.2.0 ∙ (f.no_fault ∙ i.0.0)
  unwritten disk first j new d body m (DiskFault n) i f same a = (a.2, subst (λ (k : ℕ). Rose k n) (f.no_fault ∙ i.0.0) a.1)
  unwritten disk first j new d body m (NotAJournal at) i f same a = absurd a
  unwritten disk first j new d body m (Full would limit) i f same a = (
    ap (λ (s : JournalState D). faults s.disk) a.4 ∙ (f.no_fault ∙ i.0.0),
    full disk first j new d body m would limit i f same a,
  )
  unwritten disk first j new d body m (Stopped n) i f same a = absurd (none_not n (sym f.goes_on ∙ a.0))

  -- where it didn't fail the disk stays
  pub not_written : (j new : JournalState D) (m : List ℕ) (x : JournalError) → Appends faults j m true (Err x) new
      → UnlessFailed x (new.disk ≡ j.disk)
  not_written j new m Memory a = ap (λ (s : JournalState D). s.disk) a.2.0
  not_written j new m (DiskFault n) a = tt
  not_written j new m (NotAJournal at) a = absurd a
  not_written j new m (Full would limit) a = ap (λ (s : JournalState D). s.disk) a.4
  not_written j new m (Stopped n) a = ap (λ (s : JournalState D). s.disk) a.1

-- ---- a cause that is no failure of the disk

pub unless : (x : JournalError) (P : Type 0) → P → UnlessFailed x P
unless Memory P h = h
unless (DiskFault n) P h = tt
unless (NotAJournal at) P h = h
unless (Full would limit) P h = h
unless (Stopped n) P h = h

unless_so : (x : JournalError) (P Q : Type 0) → (P → Q) → UnlessFailed x P → UnlessFailed x Q
unless_so Memory P Q so h = so h
unless_so (DiskFault n) P Q so h = tt
unless_so (NotAJournal at) P Q so h = so h
unless_so (Full would limit) P Q so h = so h
unless_so (Stopped n) P Q so h = so h

-- ---- a crash at any moment

module _ {D : Type 0} (told : Type 0) (seen : D → List ℕ) (may_leave : D → List ℕ → Type 0) (moment : D → ℕ)
    (left_since : D → ℕ → List ℕ → Type 0) (faults : D → ℕ) where
  in_a_row : (old mid new : D) (P Q R : List ℕ → Type 0) → LeavesOnly moment left_since old mid P
      → LeavesOnly moment left_since mid new Q → ((c : List ℕ) → P c → R c) → ((c : List ℕ) → Q c → R c)
      → LeavesOnly moment left_since old new R
  in_a_row old mid new P Q R first second front back = record {
    later = omega (arith, first.later, second.later);
    each = λ c left. ⊎_elim (λ was. front c (first.each c was)) (back c) (second.before (moment old) c first.later left);
    before = λ t c le left. ⊎_elim (λ was. ⊎_elim (λ early. inl early) (λ here. inr (front c here)) (first.before t c le was))
        (λ here. inr (back c here)) (second.before t c (omega (arith, le, first.later)) left);
  }

  settled_leaves : (j : JournalState D) (all : List (List ℕ)) (c : List ℕ) → JournalSettled seen may_leave j all → may_leave j.disk c
      → StandsFor c all
  settled_leaves j all c s left =
      inr (record { form = j.form; gate = s.gate; rest = s.rest; spelled = s.durable c left ∙ s.file; closed = s.closed; fit = s.fit })

  of_append : (disk : D) (all bodies : List (List ℕ)) (j : JournalState D) (base : List SnapshotPiece) (records : List model.Record)
      (body c : List ℕ)
      → IsRead seen may_leave j all bodies base records body → BeforeOrAfter all body c → RestartLeaves (may_leave disk) all c
  of_append disk all bodies j base records body c q (inl here) = inr (inl here)
  of_append disk all bodies j base records body c q (inr here) = inr (inr (body, base, records, q.spelled, q.more, here))

  -- of a journal that was recovered
  pub leaves_read : (first j new : JournalState D) (d : Durable) (body : List ℕ)
      → Found told seen may_leave faults first j d body → Quiet told seen may_leave moment left_since first.disk j.disk
      → (told → (all : List (List ℕ)) → JournalSettled seen may_leave j all
      → LeavesOnly moment left_since j.disk new.disk (BeforeOrAfter all body))
      → told → (all : List (List ℕ)) → JournalSettled seen may_leave first all
      → LeavesOnly moment left_since first.disk new.disk (RestartLeaves (may_leave first.disk) all)
  leaves_read first j new d body f quiet appended t all settled =
      let q = f.read t all settled in
      in_a_row first.disk j.disk new.disk (may_leave first.disk) (BeforeOrAfter all body) (RestartLeaves (may_leave first.disk) all)
      quiet.any_moment (appended t all q.settled) (λ c was. inl was)
      (λ c here. of_append first.disk all f.bodies j f.base f.records body c q here)

  -- where it was only read
  pub quiet_leaves : (old new : D) (all : List (List ℕ)) → Quiet told seen may_leave moment left_since old new
      → LeavesOnly moment left_since old new (RestartLeaves (may_leave old) all)
  quiet_leaves old new all quiet = record {
    later = quiet.any_moment.later;
    each = λ c left. inl (quiet.any_moment.each c left);
    before = λ t c le left. ⊎_elim (λ was. inl was) (λ here. inr (inl here)) (quiet.any_moment.before t c le left);
  }

  pub quiet_still : (old mid new : D) → Quiet told seen may_leave moment left_since old mid → new ≡ mid
      → Quiet told seen may_leave moment left_since old new
  quiet_still old mid new quiet is = subst (λ (d : D). Quiet told seen may_leave moment left_since old d) (sym is) quiet

  of_recover : (disk : D) (all : List (List ℕ)) (c : List ℕ) → may_leave disk c ⊎ StandsFor c all → RestartLeaves (may_leave disk) all c
  of_recover disk all c (inl was) = inl was
  of_recover disk all c (inr here) = inr (inl here)

  of_read : (disk : D) (first : JournalState D) (all : List (List ℕ)) (c : List ℕ) → JournalSettled seen may_leave first all
      → RestartLeaves (may_leave first.disk) all c → RestartLeaves (may_leave disk) all c
  of_read disk first all c s (inl was) = inr (inl (settled_leaves first all c s was))
  of_read disk first all c s (inr more) = inr more

  pub at_any_moment : (disk : D) (first new : JournalState D)
      → (told → (all : List (List ℕ)) → StandsFor (seen disk) all → JournalSettled seen may_leave first all)
      → (told → (all : List (List ℕ)) → StandsFor (seen disk) all
      → LeavesOnly moment left_since disk first.disk (λ c. may_leave disk c ⊎ StandsFor c all))
      → (told → (all : List (List ℕ)) → JournalSettled seen may_leave first all
      → LeavesOnly moment left_since first.disk new.disk (RestartLeaves (may_leave first.disk) all))
      → told → (all : List (List ℕ)) → StandsFor (seen disk) all
      → LeavesOnly moment left_since disk new.disk (RestartLeaves (may_leave disk) all)
  at_any_moment disk first new opens recovered read t all stands =
      in_a_row disk first.disk new.disk (λ c. may_leave disk c ⊎ StandsFor c all) (RestartLeaves (may_leave first.disk) all)
      (RestartLeaves (may_leave disk) all) (recovered t all stands) (read t all (opens t all stands))
      (of_recover disk all) (λ c here. of_read disk first all c (opens t all stands) here)

  -- ---- what is left of the disk

  settled_stands : (first : JournalState D) (new : D) (all : List (List ℕ)) → seen new ≡ seen first.disk
      → JournalSettled seen may_leave first all → StandsFor (seen new) all
  settled_stands first new all same s =
      inr (record { form = first.form; gate = s.gate; rest = s.rest; spelled = same ∙ s.file; closed = s.closed; fit = s.fit })

  -- where it was only read
  pub quiet_stands : (first : JournalState D) (new : D) → Quiet told seen may_leave moment left_since first.disk new
      → told → (all : List (List ℕ)) → JournalSettled seen may_leave first all → StandsBegun all (seen new)
  quiet_stands first new quiet t all s = inl (settled_stands first new all (quiet.same t) s)

  of_append_now : (all bodies : List (List ℕ)) (j : JournalState D) (base : List SnapshotPiece) (records : List model.Record)
      (body c : List ℕ)
      → IsRead seen may_leave j all bodies base records body → BeforeOrAfter all body c → StandsBegun all c
  of_append_now all bodies j base records body c q (inl here) = inl here
  of_append_now all bodies j base records body c q (inr here) = inr (body, base, records, q.spelled, q.more, here)

  -- where a body was written, or not
  pub written_stands : (first j new : JournalState D) (d : Durable) (body : List ℕ) → Found told seen may_leave faults first j d body
      → (told → (all : List (List ℕ)) → JournalSettled seen may_leave j all → BeforeOrAfter all body (seen new.disk))
      → told → (all : List (List ℕ)) → JournalSettled seen may_leave first all → StandsBegun all (seen new.disk)
  written_stands first j new d body f appended t all settled =
      let q = f.read t all settled in
      of_append_now all f.bodies j f.base f.records body (seen new.disk) q (appended t all q.settled)

  pub unwritten_quiet : {A : Type 0} (old mid new : D) (r : Result A JournalError)
      → Quiet told seen may_leave moment left_since old mid → IfErr r (λ x. UnlessFailed x (new ≡ mid))
      → IfErr r (λ x. UnlessFailed x (Quiet told seen may_leave moment left_since old new))
  unwritten_quiet old mid new (Ok a) quiet h = tt
  unwritten_quiet old mid new (Err x) quiet h =
      unless_so x (new ≡ mid) (Quiet told seen may_leave moment left_since old new) (quiet_still old mid new quiet) h

  -- a journal was recovered and then only read
  kept : (disk : D) (first : JournalState D) (new : D) (all : List (List ℕ)) → JournalSettled seen may_leave first all
      → LeavesOnly moment left_since disk first.disk (λ c. may_leave disk c ⊎ StandsFor c all) → told
      → Quiet told seen may_leave moment left_since first.disk new → KeepsBodies seen may_leave moment left_since disk new all
  kept disk first new all s recovered t quiet = record {
    stands = settled_stands first new all (quiet.same t) s;
    durable = λ c left. s.durable c (quiet.no_more c left) ∙ sym (quiet.same t);
    any_moment = in_a_row disk first.disk new (λ c. may_leave disk c ⊎ StandsFor c all) (may_leave first.disk)
        (λ c. may_leave disk c ⊎ StandsFor c all) recovered quiet.any_moment (λ c was. was)
        (λ c left. inr (settled_leaves first all c s left));
  }

  abbrev NeverBroken : Type 0
  NeverBroken = (bytes : List ℕ) (bodies : List (List ℕ)) (at : ℕ) → StandsFor bytes bodies → BreaksAt bytes at → ⊥

  abbrev Refused : (disk left : D) → JournalError → Type 0
  Refused disk left x = StartRefused told seen may_leave moment left_since faults disk left x

  -- a journal was recovered, and no server begins on it
  pub not_begun : NeverBroken → (disk : D) (first new : JournalState D) (left : D) (x : JournalError) → left ≡ new.disk
      → IsOf told seen may_leave faults disk first
      → (told → (all : List (List ℕ)) → StandsFor (seen disk) all
      → LeavesOnly moment left_since disk first.disk (λ c. may_leave disk c ⊎ StandsFor c all))
      → RestartRefused told seen faults disk new.disk x
      → UnlessFailed x (Quiet told seen may_leave moment left_since first.disk new.disk)
      → (told → (all : List (List ℕ)) → JournalSettled seen may_leave first all → StandsBegun all (seen new.disk))
      → (told → (all : List (List ℕ)) → JournalSettled seen may_leave first all
      → LeavesOnly moment left_since first.disk new.disk (RestartLeaves (may_leave first.disk) all))
      → Refused disk left x
  not_begun never disk first new left x back i recovered caused quiet stays read =
      subst (λ (d : D). Refused disk d x) (sym back) (record {
        caused = caused;
        as_it_was = λ t at breaks. let s = i.0.3 t in absurd (never (seen disk) s.0 at s.1 breaks);
        stands = λ t all stands.
            unless_so x (Quiet told seen may_leave moment left_since first.disk new.disk)
            (KeepsBodies seen may_leave moment left_since disk new.disk all)
            (kept disk first new.disk all (i.1 t all stands) (recovered t all stands) t) quiet;
        stays = λ t all stands. stays t all (i.1 t all stands);
        any_moment = at_any_moment disk first new i.1 recovered read;
      })

  -- the bytes are no journal, or the disk failed
  none_kept : NeverBroken → (disk left : D) (x : JournalError) (all : List (List ℕ)) → journals.RecoverRefused told seen faults disk left x
      → told → StandsFor (seen disk) all → UnlessFailed x (KeepsBodies seen may_leave moment left_since disk left all)
  none_kept never disk left Memory all h t stands = absurd h
  none_kept never disk left (DiskFault n) all h t stands = tt
  none_kept never disk left (NotAJournal at) all h t stands = absurd (never (seen disk) all at stands (h.1 t))
  none_kept never disk left (Full would limit) all h t stands = absurd h
  none_kept never disk left (Stopped n) all h t stands = absurd h

  pub not_recovered : NeverBroken → (disk left : D) (x : JournalError) → journals.RecoverRefused told seen faults disk left x
      → (told → (at : ℕ) → BreaksAt (seen disk) at → Quiet told seen may_leave moment left_since disk left)
      → (told → (all : List (List ℕ)) → StandsFor (seen disk) all → StandsFor (seen left) all)
      → (told → (all : List (List ℕ)) → StandsFor (seen disk) all
      → LeavesOnly moment left_since disk left (λ c. may_leave disk c ⊎ StandsFor c all))
      → Refused disk left x
  not_recovered never disk left x h spared stays run = record {
    caused = unread told seen may_leave faults disk left x h;
    as_it_was = spared;
    stands = λ t all stands. none_kept never disk left x all h t stands;
    stays = λ t all stands. inl (stays t all stands);
    any_moment = λ t all stands. let left_by = run t all stands in record {
      later = left_by.later;
      each = λ c now. of_recover disk all c (left_by.each c now);
      before = λ u c le now. ⊎_elim (λ was. inl was) (λ here. inr (of_recover disk all c here)) (left_by.before u c le now);
    };
  }
