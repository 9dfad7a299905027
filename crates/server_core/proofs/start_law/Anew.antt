-- The state of a server that begins, by what its disk stands for.
use Rattle.std.proofs.Common.{◌≡◌, inl, inr, ⊎_elim, ℕ, ◌+◌, ◌-◌, ◌^◌, ◌≤◌, ◌<◌, min, Bool, true, List, [], ◌++◌, length, None, refl, sym}
use Rattle.std.proofs.Common.{ap, subst}
use Rattle.std.proofs.Common.{◌∙◌, arith}
use Rattle.std.proofs.Math.Nat.{min-le_left}
use Rattle.wire_commands.specs.values.Meaning.{address_of}
use Rattle.spec_exchange.specs.Fold.{Configuration, full_room, recovered, recovered_from, recovery_records}
use Rattle.spec_exchange.specs.Fold.{configuration_of as configuration_behind}
use Rattle.spec_exchange.specs.State as model
use Rattle.spec_exchange.specs.State.{Address}
use Rattle.spec_wire.specs.journal.Grammar.{front}
use Rattle.spec_journal.specs.Forms.{BreaksAt, StandsFor}
use Rattle.journal.specs.disk_journal.Journal.{JournalState, JournalSettled, journal_capped}
use Rattle.server_core.specs.server_start.Begun.{ServerBegins}
use Rattle.server_checks.specs.Shown.{TablesShown}
use Rattle.server_checks.specs.declared.tables.Config.{Config}
use Rattle.server_checks.specs.declared.tables.Tables.{Tables}
use Rattle.law_snapshots.specs.snapshots.Pieces.{SnapshotPiece, with_pieces}
use Rattle.server_core.specs.Over.{begun_over, opening_over, opened_over}
use Rattle.server_core.specs.crash.Left.{BytesStand, StartsAgain}
use Rattle.server_core.proofs.SnapshotBodies.{over_none}
use Rattle.server_core.specs.journaled_tables.Holds.{HoldsOver, JournaledHolds}
use Rattle.server_core.specs.declared.journaled_tables.state.ServerState.{ServerState}
use Rattle.server_core.specs.Reading.{SpellOver}
use Rattle.server_core.specs.restart_tables.Restart.{IsFull, IsNoBody, RestartRefused, configuration_of}
use Rattle.law_server.specs.tables.Fits.{all_sound}
use Rattle.spec_exchange.specs.Records.{entry_bytes}
use Rattle.journal.specs.declared.disk_journal.journal.JournalError.TheVariants as causes
use Rattle.spec_world.specs.Ends.{Logons}

abbrev pub MeansOne : Type 0
MeansOne = (bytes : List ℕ) (a b : List (List ℕ)) → StandsFor bytes a → StandsFor bytes b → a ≡ b

abbrev pub SameOver : Type 0
SameOver = (bytes : List ℕ) (bodies others : List (List ℕ)) (base more : List SnapshotPiece) (records next : List model.Record)
    → StandsFor bytes bodies → SpellOver base bodies records → StandsFor bytes others → SpellOver more others next
    → (base ≡ more) × (records ≡ next)

abbrev pub Taken : Type 0
Taken = (bytes : List ℕ) (bodies : List (List ℕ)) (base : List SnapshotPiece) (records : List model.Record) (at : ℕ)
    → StandsFor bytes bodies → SpellOver base bodies records → all_sound records ≡ true
    → (BreaksAt bytes at → ⊥) × (IsNoBody bytes at → ⊥)

abbrev pub StartsOver : Type 0
StartsOver = (s : model.Server) (bytes : List ℕ) (base found : List SnapshotPiece) (records kept : List model.Record)
    (others : List (List ℕ)) (z : Configuration) (count : ℕ) → BytesStand bytes base records s → StandsFor bytes others
    → SpellOver found others kept → StartsAgain s found kept z count

-- ---- a configuration by its parts

abbrev parts : List ℕ → ℕ → Bool → Address → Configuration
parts share room encrypts address = record { share = share; room = room; encrypts = encrypts; address = address }

same_parts : (a b : List ℕ) (r q : ℕ) (e f : Bool) (x y : Address) → a ≡ b → r ≡ q → e ≡ f → x ≡ y → parts a r e x ≡ parts b q f y
same_parts a b r q e f x y shares rooms seals places =
    ap (λ (v : List ℕ). parts v r e x) shares
    ∙ (ap (λ (v : ℕ). parts b v e x) rooms ∙ (ap (λ (v : Bool). parts b q v x) seals ∙ ap (λ (v : Address). parts b q f v) places))

-- that of the tables is that of the state which they show
same_configuration : (t : Tables) (s : model.Server) → TablesShown t s → configuration_of t.config ≡ configuration_behind s
same_configuration t s h =
    same_parts t.config.share s.share (min t.config.room full_room) s.room t.config.encrypts s.encrypts
    (address_of t.config.address) s.address (sym h.share_is) (sym h.room_is) (sym h.encrypts_is) (sym h.address_is)

-- ---- the server

module _ {D : Type 0} (told : Type 0) (seen : D → List ℕ) (may_leave : D → List ℕ → Type 0) (faults : D → ℕ) where
  stands_settled : (j : JournalState D) (bodies : List (List ℕ)) → JournalSettled seen may_leave j bodies → StandsFor (seen j.disk) bodies
  stands_settled j bodies s = inr (record { form = j.form; gate = s.gate; rest = s.rest; spelled = s.file; closed = s.closed; fit = s.fit })

  -- of whatever base and records the disk of the first one stands for
  pub begins : MeansOne → SameOver → told → (base : List SnapshotPiece) (old new : ServerState D) (s : model.Server) (L M : Logons)
      (records : List model.Record) → HoldsOver told seen may_leave base old s L records → old.stopped ≡ None
      → ServerBegins told seen may_leave faults old.tables.config old.journal.disk new
      → HoldsOver told seen may_leave base new (begun_over (configuration_behind s) s.journal base records) M (opened_over base records)
  begins one same tells base old new s L M records h goes b =
      let z = configuration_of old.tables.config in
      let w = h.stands goes tells in
      let stood : StandsFor (seen old.journal.disk) w.0 = stands_settled old.journal w.0 w.1.settled in
      let t = b.6 tells in
      let kept = same (seen old.journal.disk) w.0 t.0 base b.4 records b.3 stood w.1.spelled t.1 t.2 in
      let bodies : w.0 ≡ t.0 = one (seen old.journal.disk) w.0 t.0 stood t.1 in
      let count : b.2 ≡ s.journal = t.3 ∙ (ap (λ (bs : List (List ℕ)). length (front bs) + 1) (sym bodies)
      ∙ (sym w.1.settled.used ∙ sym w.1.used)) in
      subst (λ (v : Configuration). HoldsOver told seen may_leave base new (begun_over v s.journal base records) M
      (opened_over base records)) (same_configuration old.tables s h.shown.tables)
      (subst (λ (n : ℕ). HoldsOver told seen may_leave base new (begun_over z n base records) M (opened_over base records)) count
      (subst (λ (ps : List SnapshotPiece). HoldsOver told seen may_leave ps new (begun_over z b.2 ps records) M (opened_over ps records))
      (sym kept.0)
      (subst (λ (rs : List model.Record). HoldsOver told seen may_leave b.4 new (begun_over z b.2 b.4 rs) M (opened_over b.4 rs))
      (sym kept.1) (b.5 M))))

  pub over : MeansOne → SameOver → StartsOver → told → (base : List SnapshotPiece) (old new : ServerState D) (s : model.Server)
      (L M : Logons) (records : List model.Record) → HoldsOver told seen may_leave base old s L records → old.stopped ≡ None
      → ServerBegins told seen may_leave faults old.tables.config old.journal.disk new
      → HoldsOver told seen may_leave base new (begun_over (configuration_behind s) s.journal base records) M (opened_over base records)
      × StartsAgain s base records (configuration_behind s) s.journal
  over one same starts tells base old new s L M records h goes b =
      let w = h.stands goes tells in
      let stood : StandsFor (seen old.journal.disk) w.0 = stands_settled old.journal w.0 w.1.settled in (
        begins one same tells base old new s L M records h goes b,
        starts s (seen old.journal.disk) base base records records w.0 (configuration_behind s) s.journal
            (w.0, stood, record { fits = h.fits; version = h.version; sound = h.sound; spelled = w.1.spelled; for_state = w.1.for_state })
            stood w.1.spelled,
      )

  -- without a snapshot
  plain_state : (z : Configuration) (bytes : ℕ) (rs : List model.Record) → begun_over z bytes [] rs ≡ recovered z bytes rs
  unfolding with_pieces
  plain_state z bytes rs = refl

  plain_records : (rs : List model.Record) → opened_over [] rs ≡ rs ++ recovery_records rs
  unfolding with_pieces
  plain_records rs = refl

  plain_holds : (new : ServerState D) (z : Configuration) (bytes : ℕ) (M : Logons) (rs : List model.Record)
      → HoldsOver told seen may_leave [] new (begun_over z bytes [] rs) M (opened_over [] rs)
      → JournaledHolds told seen may_leave new (recovered z bytes rs) M (rs ++ recovery_records rs)
  plain_holds new z bytes M rs h =
      subst (λ (u : model.Server). JournaledHolds told seen may_leave new u M (rs ++ recovery_records rs)) (plain_state z bytes rs)
      (subst (λ (xs : List model.Record). HoldsOver told seen may_leave [] new (begun_over z bytes [] rs) M xs) (plain_records rs) h)

  pub again : MeansOne → SameOver → told → (old new : ServerState D) (s : model.Server) (L M : Logons) (records : List model.Record)
      → JournaledHolds told seen may_leave old s L records → old.stopped ≡ None
      → ServerBegins told seen may_leave faults old.tables.config old.journal.disk new
      → JournaledHolds told seen may_leave new (recovered_from s records) M (records ++ recovery_records records)
  again one same tells old new s L M records h goes b =
      plain_holds new (configuration_behind s) s.journal M records (begins one same tells [] old new s L M records h goes b)

  pub anew : MeansOne → SameOver → told → (disk : D) (config : Config) (new : ServerState D) (L : Logons) → length (seen disk) ≤ 9
      → ServerBegins told seen may_leave faults config disk new
      → JournaledHolds told seen may_leave new (recovered (configuration_of config) 9 []) L (recovery_records [])
  anew one same tells disk config new L short b =
      let z = configuration_of config in
      let t = b.6 tells in
      let none : StandsFor (seen disk) [] = inl (short, refl) in
      let bodies : [] ≡ t.0 = one (seen disk) [] t.0 none t.1 in
      let kept = same (seen disk) [] t.0 [] b.4 [] b.3 none (over_none [] [] refl) t.1 t.2 in
      let count : b.2 ≡ 9 = t.3 ∙ ap (λ (bs : List (List ℕ)). length (front bs) + 1) (sym bodies) in
      plain_holds new z 9 L []
      (subst (λ (n : ℕ). HoldsOver told seen may_leave [] new (begun_over z n [] []) L (opened_over [] [])) count
      (subst (λ (ps : List SnapshotPiece). HoldsOver told seen may_leave ps new (begun_over z b.2 ps []) L (opened_over ps []))
      (sym kept.0)
      (subst (λ (rs : List model.Record). HoldsOver told seen may_leave b.4 new (begun_over z b.2 b.4 rs) L (opened_over b.4 rs))
      (sym kept.1) (b.5 L))))

  -- a journal without the room for what a recovery adds
  too_much : (bytes limit would size : ℕ) → would ≡ journal_capped size → limit ≡ 1073741824 → limit < would → size ≡ bytes
      → bytes ≤ 1073741824 → ⊥
  too_much bytes limit would size capped at less same room =
      let small : min size (2 ^ 64 - 1) ≤ size = min-le_left size (2 ^ 64 - 1) in
      let is : would ≤ size = subst (λ (n : ℕ). n ≤ size) (sym capped) small in
      absurd (omega (arith, is, at, less, same, room))

  none_begins : MeansOne → SameOver → told → (disk : D) (config : Config) (new : ServerState D) (would limit : ℕ)
      → IsFull (seen disk) would limit → ServerBegins told seen may_leave faults config disk new → ⊥
  none_begins one same tells disk config new would limit f b =
      let t = b.6 tells in
      let kept = same (seen disk) f.0 t.0 f.1 b.4 f.2 b.3 f.3 f.4 t.1 t.2 in
      let bodies : f.0 ≡ t.0 = one (seen disk) f.0 t.0 f.3 t.1 in
      let size : length (front f.0) + 1 + entry_bytes (opening_over f.1 f.2) ≡ b.2 + entry_bytes (opening_over b.4 b.3) =
      ap (λ (bs : List (List ℕ)). length (front bs) + 1 + entry_bytes (opening_over f.1 f.2)) bodies
      ∙ (ap (λ (n : ℕ). n + entry_bytes (opening_over f.1 f.2)) (sym t.3)
      ∙ (ap (λ (ps : List SnapshotPiece). b.2 + entry_bytes (opening_over ps f.2)) kept.0
      ∙ ap (λ (rs : List model.Record). b.2 + entry_bytes (opening_over b.4 rs)) kept.1)) in
      too_much (b.2 + entry_bytes (opening_over b.4 b.3)) limit would (length (front f.0) + 1 + entry_bytes (opening_over f.1 f.2))
      f.6 f.7 f.8 size b.7

  pub full : MeansOne → SameOver → Taken → told → (disk left : D) (config : Config) (new : ServerState D) (would limit at : ℕ)
      → IsFull (seen disk) would limit → (ServerBegins told seen may_leave faults config disk new → ⊥)
      × (RestartRefused told seen faults disk left (causes.NotAJournal at) → ⊥)
  full one same taken tells disk left config new would limit at f =
      let is = taken (seen disk) f.0 f.1 f.2 at f.3 f.4 f.5 in
      (none_begins one same tells disk config new would limit f, λ refused. ⊎_elim is.0 is.1 (refused.1 tells))
