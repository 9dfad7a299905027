-- What a crash at any moment of an event leaves behind a snapshot.
use Rattle.std.proofs.Common.{◌≡◌, inl, inr, ℕ, true, List, ◌++◌, refl, sym, subst, ◌∙◌}
use Rattle.server_core.specs.crash.Left.{AgainOver, BytesStand, IsBeside, IsRecordedOver, LeftOver, StartsAgain}
use Rattle.spec_exchange.specs.Fold.{Configuration}
use Rattle.spec_exchange.specs.State.{Record, Server, ServerEvent}
use Rattle.spec_exchange.specs.Records.{origin_at}
use Rattle.spec_exchange.specs.Step.{connection_of, step, with_deadlines}
use Rattle.spec_journal.specs.Forms.{BreaksAt, StandsFor}
use Rattle.law_snapshots.specs.snapshots.Pieces.{SnapshotPiece}
use Rattle.journal_bytes.specs.record_bodies.Body.{IsBodyOf, bodies_of}
use Rattle.server_core.specs.journaled_tables.Holds.{EventLeavesBodies}
use Rattle.server_core.specs.journaled_tables.Journal.{OneBody}
use Rattle.law_server.specs.tables.Fits.{Fits, all_sound}
use Rattle.law_server.proofs.tables.Folded.{sound_more}
use Rattle.server_core.specs.Over.{StandsOver, found_over}
use Rattle.server_core.specs.Reading.{SpellOver}
use Rattle.server_core.specs.restart_tables.Restart.{IsNoBody}
use Rattle.server_core.proofs.crash.Behind.{Alones, Steps}
use Rattle.spec_world.specs.Lacking.{Expires, alone_records}

-- ---- what other laws say

-- `behind_law`
pub record Behinds : Type 0 where
  pub over : (base : List SnapshotPiece) (bodies : List (List ℕ)) (rs new : List Record) (body : List ℕ) → SpellOver base bodies rs
      → (found_over base rs).version ≡ 2 → IsBodyOf body new → SpellOver base (bodies ++ bodies_of body) (rs ++ new)
  pub stepped : (base : List SnapshotPiece) (rs : List Record) (s : Server) (now : ℕ) (e : ServerEvent) → Fits s → StandsOver base rs s
      → StandsOver base (rs ++ (step s now e).records) (step s now e).server
  pub alone : (base : List SnapshotPiece) (rs : List Record) (s : Server) (now : ℕ) (e : ServerEvent) (t : Server) (o : ℕ) → Fits s
      → StandsOver base rs s → Expires s now e t o → StandsOver base (rs ++ alone_records s now e o) t

-- `snapshot_start_law`
pub record Starts : Type 0 where
  pub taken : (bytes : List ℕ) (bodies : List (List ℕ)) (base : List SnapshotPiece) (records : List Record) (at : ℕ)
      → StandsFor bytes bodies → SpellOver base bodies records → all_sound records ≡ true
      → (BreaksAt bytes at → ⊥) × (IsNoBody bytes at → ⊥)
  pub same : (bytes : List ℕ) (bodies others : List (List ℕ)) (base more : List SnapshotPiece) (records next : List Record)
      → StandsFor bytes bodies → SpellOver base bodies records → StandsFor bytes others → SpellOver more others next
      → (base ≡ more) × (records ≡ next)
  pub again : (s : Server) (bytes : List ℕ) (base found : List SnapshotPiece) (records kept : List Record) (others : List (List ℕ))
      (z : Configuration) (count : ℕ) → BytesStand bytes base records s → StandsFor bytes others → SpellOver found others kept
      → StartsAgain s found kept z count

-- ---- one more body

module _ (base : List SnapshotPiece) (law : Behinds) where
  one_more : (s : Server) (records new : List Record) (bodies more : List (List ℕ)) → IsRecordedOver base s records bodies
      → OneBody new more → SpellOver base (bodies ++ more) (records ++ new)
  one_more s records new bodies more i one =
      subst (λ (bs : List (List ℕ)). SpellOver base (bodies ++ bs) (records ++ new)) (sym one.2)
      (law.over base bodies records new one.0 i.spelled (i.for_state.counts.version ∙ i.version) one.1)

  behind : Steps → (s : Server) (now : ℕ) (e : ServerEvent) (records : List Record) (bodies more : List (List ℕ))
      → IsRecordedOver base s records bodies → OneBody (step s now e).records more
      → IsRecordedOver base (step s now e).server (records ++ (step s now e).records) (bodies ++ more)
  behind steps s now e records bodies more i one = record {
    fits = steps.fits s now e i.fits;
    version = steps.version s now e ∙ i.version;
    sound = sound_more records (step s now e).records i.sound (steps.sound s now e i.fits);
    spelled = one_more s records (step s now e).records bodies more i one;
    for_state = law.stepped base records s now e i.fits i.for_state;
  }

  version_alone : Alones → (s : Server) (now : ℕ) (e : ServerEvent) (t : Server) (o : ℕ) → Expires s now e t o → t.version ≡ s.version
  version_alone alones s now e t o x =
      subst (λ (u : Server). u.version ≡ s.version) (sym x.behind) (alones.version (with_deadlines s now) o)

  alone : Alones → (s : Server) (now : ℕ) (e : ServerEvent) (t : Server) (o : ℕ) (records : List Record) (bodies more : List (List ℕ))
      → IsRecordedOver base s records bodies → Expires s now e t o → OneBody (alone_records s now e o) more
      → IsRecordedOver base t (records ++ alone_records s now e o) (bodies ++ more)
  alone alones s now e t o records bodies more i x one = record {
    fits = alones.fits s now e t o i.fits x;
    version = version_alone alones s now e t o x ∙ i.version;
    sound = sound_more records (alone_records s now e o) i.sound (alones.sound (with_deadlines s now) (origin_at (connection_of e)) o);
    spelled = one_more s records (alone_records s now e o) bodies more i one;
    for_state = law.alone base records s now e t o i.fits i.for_state x;
  }

  -- ---- what is left

  pub left_over : Steps → Alones → (s : Server) (now : ℕ) (e : ServerEvent) (records : List Record) (bodies : List (List ℕ))
      (bytes : List ℕ) → IsRecordedOver base s records bodies → EventLeavesBodies s now e bodies bytes
      → LeftOver base s now e records bytes
  left_over steps alones s now e records bodies bytes i (inl stands) = record {
    state = s;
    kept = records;
    beside = inl (refl, refl);
    stands = (bodies, stands, i);
  }
  left_over steps alones s now e records bodies bytes i (inr (inl x)) = record {
    state = (step s now e).server;
    kept = records ++ (step s now e).records;
    beside = inr (inl (refl, refl));
    stands = (bodies ++ x.0, x.2, behind steps s now e records bodies x.0 i x.1);
  }
  left_over steps alones s now e records bodies bytes i (inr (inr x)) = record {
    state = x.1;
    kept = records ++ alone_records s now e x.0;
    beside = inr (inr (x.0, x.3, refl));
    stands = (bodies ++ x.2, x.5, alone alones s now e x.1 x.0 records bodies x.2 i x.3 x.4);
  }

  pub taken_over : Steps → Alones → Starts → (s : Server) (now : ℕ) (e : ServerEvent) (records : List Record) (bodies : List (List ℕ))
      (bytes : List ℕ) (at : ℕ) → IsRecordedOver base s records bodies → EventLeavesBodies s now e bodies bytes
      → (BreaksAt bytes at → ⊥) × (IsNoBody bytes at → ⊥)
  taken_over steps alones starts s now e records bodies bytes at i leaves =
      let l = left_over steps alones s now e records bodies bytes i leaves in
      starts.taken bytes l.stands.0 base l.kept at l.stands.1 l.stands.2.spelled l.stands.2.sound

  pub again_over : Steps → Alones → Starts → (s : Server) (now : ℕ) (e : ServerEvent) (records : List Record) (bodies : List (List ℕ))
      (bytes : List ℕ) (others : List (List ℕ)) (found : List SnapshotPiece) (kept : List Record) (z : Configuration) (count : ℕ)
      → IsRecordedOver base s records bodies → EventLeavesBodies s now e bodies bytes → StandsFor bytes others
      → SpellOver found others kept → (found ≡ base) × AgainOver base s now e records kept z count
  again_over steps alones starts s now e records bodies bytes others found kept z count i leaves stands spells =
      let l = left_over steps alones s now e records bodies bytes i leaves in
      let same = starts.same bytes l.stands.0 others base found l.kept kept l.stands.1 l.stands.2.spelled stands spells in
      let a = starts.again l.state bytes base found l.kept kept others z count l.stands stands spells in (
        sym same.0,
        record {
          state = l.state;
          beside = subst (λ (rs : List Record). IsBeside s now e records l.state rs) same.1 l.beside;
          again = subst (λ (ps : List SnapshotPiece). StartsAgain l.state ps kept z count) (sym same.0) a;
        },
      )
