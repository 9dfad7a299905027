-- What a crash at any moment of an event leaves.
use Rattle.std.proofs.Common.{◌≡◌, inl, inr, ℕ, true, List, ◌++◌, refl, sym, subst, ◌∙◌}
use Rattle.server_core.specs.crash.Left.{AgainOf, IsRecorded, LeftOf}
use Rattle.spec_exchange.specs.Fold.{Configuration, fold, recovered}
use Rattle.spec_exchange.specs.State.{Origin, Record, Server, ServerEvent}
use Rattle.spec_exchange.specs.Records.{origin_at}
use Rattle.spec_exchange.specs.Step.{connection_of, expire, expire_records, step, with_deadlines}
use Rattle.spec_journal.specs.Forms.{BreaksAt, StandsFor}
use Rattle.law_records.specs.recovery.Recovers.{RecordRecovers}
use Rattle.law_records.specs.recovery.Restarted.{EntriesLeft, Restarted}
use Rattle.journal_bytes.specs.record_bodies.Body.{IsBodyOf, bodies_of}
use Rattle.server_core.specs.journaled_tables.Holds.{EventLeavesBodies}
use Rattle.server_core.specs.journaled_tables.Journal.{OneBody}
use Rattle.law_server.specs.tables.Fits.{Fits, all_sound}
use Rattle.law_server.proofs.tables.Folded.{sound_more}
use Rattle.server_core.specs.Reading.{BodiesSpell}
use Rattle.server_core.specs.restart_tables.Restart.{IsNoBody}
use Rattle.spec_world.specs.Lacking.{Expires, alone_records}

-- ---- what other laws say

abbrev pub Spelled : Type 0
Spelled = (bodies : List (List ℕ)) (rs new : List Record) (body : List ℕ) → BodiesSpell bodies rs → (fold rs).version ≡ 2
    → IsBodyOf body new → BodiesSpell (bodies ++ bodies_of body) (rs ++ new)

-- of a server that fits, behind an event
pub record Steps : Type 0 where
  pub fits : (s : Server) (now : ℕ) (e : ServerEvent) → Fits s → Fits (step s now e).server
  pub version : (s : Server) (now : ℕ) (e : ServerEvent) → (step s now e).server.version ≡ s.version
  pub sound : (s : Server) (now : ℕ) (e : ServerEvent) → Fits s → all_sound (step s now e).records ≡ true
  pub stands : (rs : List Record) (s : Server) (now : ℕ) (e : ServerEvent) → Fits s → RecordRecovers rs s
      → RecordRecovers (rs ++ (step s now e).records) (step s now e).server

-- and behind an expiry that stands alone
pub record Alones : Type 0 where
  pub fits : (s : Server) (now : ℕ) (e : ServerEvent) (t : Server) (o : ℕ) → Fits s → Expires s now e t o → Fits t
  pub version : (s : Server) (o : ℕ) → (expire s o).version ≡ s.version
  pub sound : (s : Server) (g : Origin) (o : ℕ) → all_sound (expire_records s g o) ≡ true
  pub stands : (rs : List Record) (s : Server) (now : ℕ) (e : ServerEvent) (t : Server) (o : ℕ) → Fits s → RecordRecovers rs s
      → Expires s now e t o → RecordRecovers (rs ++ alone_records s now e o) t

-- of records on a disk
pub record Reads : Type 0 where
  pub taken : (bytes : List ℕ) (bodies : List (List ℕ)) (records : List Record) (at : ℕ) → StandsFor bytes bodies
      → BodiesSpell bodies records → all_sound records ≡ true → (BreaksAt bytes at → ⊥) × (IsNoBody bytes at → ⊥)
  pub same : (bytes : List ℕ) (bodies others : List (List ℕ)) (records more : List Record) → StandsFor bytes bodies
      → BodiesSpell bodies records → StandsFor bytes others → BodiesSpell others more → records ≡ more
  pub stands : (s : Server) (records : List Record) (z : Configuration) (count : ℕ) → RecordRecovers records s
      → Restarted s (recovered z count records)
  pub entries : (s : Server) (records : List Record) (z : Configuration) (count : ℕ) → Fits s → RecordRecovers records s
      → EntriesLeft s (recovered z count records)

-- ---- one more body

module _ (spelled : Spelled) where
  one_more : (s : Server) (records new : List Record) (bodies more : List (List ℕ)) → IsRecorded s records bodies → OneBody new more
      → BodiesSpell (bodies ++ more) (records ++ new)
  one_more s records new bodies more i one =
      let two : (fold records).version ≡ 2 = i.for_state.2.version ∙ i.version in
      subst (λ (bs : List (List ℕ)). BodiesSpell (bodies ++ bs) (records ++ new)) (sym one.2)
      (spelled bodies records new one.0 i.spelled two one.1)

  behind : Steps → (s : Server) (now : ℕ) (e : ServerEvent) (records : List Record) (bodies more : List (List ℕ))
      → IsRecorded s records bodies → OneBody (step s now e).records more
      → IsRecorded (step s now e).server (records ++ (step s now e).records) (bodies ++ more)
  behind steps s now e records bodies more i one = record {
    fits = steps.fits s now e i.fits;
    version = steps.version s now e ∙ i.version;
    sound = sound_more records (step s now e).records i.sound (steps.sound s now e i.fits);
    spelled = one_more s records (step s now e).records bodies more i one;
    for_state = steps.stands records s now e i.fits i.for_state;
  }

  version_alone : Alones → (s : Server) (now : ℕ) (e : ServerEvent) (t : Server) (o : ℕ) → Expires s now e t o → t.version ≡ s.version
  version_alone alones s now e t o x =
      subst (λ (u : Server). u.version ≡ s.version) (sym x.behind) (alones.version (with_deadlines s now) o)

  alone : Alones → (s : Server) (now : ℕ) (e : ServerEvent) (t : Server) (o : ℕ) (records : List Record) (bodies more : List (List ℕ))
      → IsRecorded s records bodies → Expires s now e t o → OneBody (alone_records s now e o) more
      → IsRecorded t (records ++ alone_records s now e o) (bodies ++ more)
  alone alones s now e t o records bodies more i x one = record {
    fits = alones.fits s now e t o i.fits x;
    version = version_alone alones s now e t o x ∙ i.version;
    sound = sound_more records (alone_records s now e o) i.sound (alones.sound (with_deadlines s now) (origin_at (connection_of e)) o);
    spelled = one_more s records (alone_records s now e o) bodies more i one;
    for_state = alones.stands records s now e t o i.fits i.for_state x;
  }

  -- ---- what is left

  pub left : Steps → Alones → (s : Server) (now : ℕ) (e : ServerEvent) (records : List Record) (bodies : List (List ℕ)) (bytes : List ℕ)
      → IsRecorded s records bodies → EventLeavesBodies s now e bodies bytes → LeftOf s now e records bytes
  left steps alones s now e records bodies bytes i (inl stands) = record {
    state = s;
    kept = records;
    bodies = bodies;
    beside = inl (refl, refl);
    stands = stands;
    recorded = i;
  }
  left steps alones s now e records bodies bytes i (inr (inl x)) = record {
    state = (step s now e).server;
    kept = records ++ (step s now e).records;
    bodies = bodies ++ x.0;
    beside = inr (inl (refl, refl));
    stands = x.2;
    recorded = behind steps s now e records bodies x.0 i x.1;
  }
  left steps alones s now e records bodies bytes i (inr (inr x)) = record {
    state = x.1;
    kept = records ++ alone_records s now e x.0;
    bodies = bodies ++ x.2;
    beside = inr (inr (x.0, x.3, refl));
    stands = x.5;
    recorded = alone alones s now e x.1 x.0 records bodies x.2 i x.3 x.4;
  }

  pub taken : Steps → Alones → Reads → (s : Server) (now : ℕ) (e : ServerEvent) (records : List Record) (bodies : List (List ℕ))
      (bytes : List ℕ) (at : ℕ) → IsRecorded s records bodies → EventLeavesBodies s now e bodies bytes
      → (BreaksAt bytes at → ⊥) × (IsNoBody bytes at → ⊥)
  taken steps alones reads s now e records bodies bytes at i leaves =
      let l = left steps alones s now e records bodies bytes i leaves in
      reads.taken bytes l.bodies l.kept at l.stands l.recorded.spelled l.recorded.sound

  pub again : Steps → Alones → Reads → (s : Server) (now : ℕ) (e : ServerEvent) (records : List Record) (bodies : List (List ℕ))
      (bytes : List ℕ) (others : List (List ℕ)) (kept : List Record) (z : Configuration) (count : ℕ) → IsRecorded s records bodies
      → EventLeavesBodies s now e bodies bytes → StandsFor bytes others → BodiesSpell others kept → AgainOf s now e records kept z count
  again steps alones reads s now e records bodies bytes others kept z count i leaves stands spells =
      let l = left steps alones s now e records bodies bytes i leaves in
      let same = reads.same bytes l.bodies others l.kept kept l.stands l.recorded.spelled stands spells in
      subst (λ (rs : List Record). AgainOf s now e records rs z count) same (record {
        state = l.state;
        beside = l.beside;
        stands = reads.stands l.state l.kept z count l.recorded.for_state;
        entries = reads.entries l.state l.kept z count l.recorded.fits l.recorded.for_state;
      })
