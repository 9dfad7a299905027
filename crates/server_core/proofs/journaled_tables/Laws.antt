-- What the laws say, on which a server's hold of its state rests.
use Rattle.std.proofs.Common.{◌≡◌, ℕ, true, List, ◌++◌, subst}
use Rattle.spec_exchange.specs.Records.{entry_bytes}
use Rattle.spec_exchange.specs.State as model
use Rattle.spec_exchange.specs.Step.{expire, expire_records, step}
use Rattle.law_records.specs.recovery.Recovers.{RecordRecovers}
use Rattle.journal_bytes.specs.record_bodies.Body.{IsBodyOf, added_by, bodies_of}
use Rattle.law_server.specs.tables.Fits.{Fits, all_sound}
use Rattle.law_snapshots.specs.snapshots.Pieces.{SnapshotPiece}
use Rattle.server_core.specs.Over.{StandsOver, found_over}
use Rattle.server_core.specs.Reading.{SpellOver}
use Rattle.spec_world.specs.Lacking.{Expires, alone_records}

-- `keeps_law` and `stands_law`, of an event
pub record Steps : Type 0 where
  pub stepped : (s : model.Server) (now : ℕ) (e : model.ServerEvent) → Fits s → Fits (step s now e).server
  pub sound : (s : model.Server) (now : ℕ) (e : model.ServerEvent) → Fits s → all_sound (step s now e).records ≡ true
  pub version : (s : model.Server) (now : ℕ) (e : model.ServerEvent) → (step s now e).server.version ≡ s.version
  pub stands : (rs : List model.Record) (s : model.Server) (now : ℕ) (e : model.ServerEvent) → Fits s → RecordRecovers rs s
      → RecordRecovers (rs ++ (step s now e).records) (step s now e).server
  pub over : (base : List SnapshotPiece) (rs : List model.Record) (s : model.Server) (now : ℕ) (e : model.ServerEvent) → Fits s
      → StandsOver base rs s → StandsOver base (rs ++ (step s now e).records) (step s now e).server

-- and of an expiry that stands alone
pub record Expiries : Type 0 where
  pub fits_alone : (s : model.Server) (now : ℕ) (e : model.ServerEvent) (t : model.Server) (o : ℕ) → Fits s → Expires s now e t o → Fits t
  pub sound_alone : (s : model.Server) (g : model.Origin) (o : ℕ) → all_sound (expire_records s g o) ≡ true
  pub version_alone : (s : model.Server) (o : ℕ) → (expire s o).version ≡ s.version
  pub alone : (rs : List model.Record) (s : model.Server) (now : ℕ) (e : model.ServerEvent) (t : model.Server) (o : ℕ) → Fits s
      → RecordRecovers rs s → Expires s now e t o → RecordRecovers (rs ++ alone_records s now e o) t
  pub over_alone : (base : List SnapshotPiece) (rs : List model.Record) (s : model.Server) (now : ℕ) (e : model.ServerEvent)
      (t : model.Server) (o : ℕ) → Fits s → StandsOver base rs s → Expires s now e t o
      → StandsOver base (rs ++ alone_records s now e o) t

-- `body_law` and `behind_law`, of bodies
pub record Bodies : Type 0 where
  pub added : (body : List ℕ) (rs : List model.Record) → IsBodyOf body rs → added_by body ≡ entry_bytes rs
  pub spelled : (base : List SnapshotPiece) (bodies : List (List ℕ)) (rs more : List model.Record) (body : List ℕ)
      → SpellOver base bodies rs → (found_over base rs).version ≡ 2 → IsBodyOf body more
      → SpellOver base (bodies ++ bodies_of body) (rs ++ more)

-- what an event, or an expiry alone, leaves of what fits
pub record Follows (s : model.Server) (t : model.Server) (more : List model.Record) : Type 0 where
  pub fits : Fits t
  pub version : t.version ≡ s.version
  pub sound : all_sound more ≡ true
  pub stands : (rs : List model.Record) → RecordRecovers rs s → RecordRecovers (rs ++ more) t
  pub over : (base : List SnapshotPiece) (rs : List model.Record) → StandsOver base rs s → StandsOver base (rs ++ more) t

pub follows : Steps → (s : model.Server) (now : ℕ) (e : model.ServerEvent) (A : model.Answer) → Fits s → step s now e ≡ A
    → Follows s A.server A.records
follows law s now e A f is = subst (λ (B : model.Answer). Follows s B.server B.records) is (record {
  fits = law.stepped s now e f;
  version = law.version s now e;
  sound = law.sound s now e f;
  stands = λ rs r. law.stands rs s now e f r;
  over = λ base rs r. law.over base rs s now e f r;
})

pub follows_alone : Expiries → (s : model.Server) (now : ℕ) (e : model.ServerEvent) (t : model.Server) (o : ℕ) → Fits s
    → Expires s now e t o → t.version ≡ s.version → Follows s t (alone_records s now e o)
follows_alone law s now e t o f x v = record {
  fits = law.fits_alone s now e t o f x;
  version = v;
  sound = law.sound_alone _ _ o;
  stands = λ rs r. law.alone rs s now e t o f r x;
  over = λ base rs r. law.over_alone base rs s now e t o f r x;
}
