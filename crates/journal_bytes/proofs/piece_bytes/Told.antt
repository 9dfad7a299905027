-- What bytes say at which a piece stands, by the byte that tells its kind, and why they begin with none.
use Rattle.std.proofs.Common.{◌≡◌, ℕ, ◌+◌, ◌<◌, ◌≤◌, ◌==◌, if◌then◌else◌, Bool, List, length, sym, ap, subst, ◌∙◌, arith}
use Rattle.std.specs.Prelude.{IsUtf8}
use Rattle.spec_wire.specs.messages.Places.{number, bytes_at}
use Rattle.spec_wire.specs.messages.Table.{Stands}
use Rattle.spec_wire.specs.messages.Utf16.{utf16}
use Rattle.law_snapshots.specs.snapshots.Pieces.{SnapshotPiece, BasePiece, FilePiece, BytesPiece, OpenPiece, SlotPiece, RangePiece, GuidPiece}
use Rattle.journal_bytes.specs.record_bytes.Grammar.{flag, text_table}
use Rattle.journal_bytes.specs.piece_bytes.Grammar.{kind, piece_table, StandsPiece}
use Rattle.journal_bytes.proofs.record_bytes.Standing.{ends_inside}
use Rattle.journal_bytes.proofs.piece_bytes.Standing.{inside_piece}

-- ---- what has always one size

abbrev pub front_size : ℕ → ℕ
front_size k = if k == 64 then 57 else if k == 65 then 65 else if k == 66 then 21 else if k == 67 then 71 else if k == 68
    then 15 else if k == 69 then 26 else if k == 70 then 33 else 0

fits : (m : List ℕ) (p : SnapshotPiece) → StandsPiece m 0 p → front_size (kind p) ≤ length m
fits m (BasePiece version epoch given next times) s = ends_inside m 0 (piece_table (BasePiece version epoch given next times)) s.fields
fits m (FilePiece f path is_dir pending basic size stored) s = let end : 65 + length (utf16 path) ≤ length m = ends_inside m 0 (piece_table (FilePiece f path is_dir pending basic size stored)) s.fields in omega (arith, end)
fits m (BytesPiece f at bytes) s = let end : 21 + length bytes ≤ length m = ends_inside m 0 (piece_table (BytesPiece f at bytes)) s.fields in omega (arith, end)
fits m (OpenPiece o row) s = let end : 71 + length (utf16 row.user) ≤ length m = ends_inside m 0 (piece_table (OpenPiece o row)) s.fields in omega (arith, end)
fits m (SlotPiece o index told status) s = ends_inside m 0 (piece_table (SlotPiece o index told status)) s.fields
fits m (RangePiece r) s = ends_inside m 0 (piece_table (RangePiece r)) s.fields
fits m (GuidPiece client create) s = ends_inside m 0 (piece_table (GuidPiece client create)) s.fields

pub too_short : (m : List ℕ) (k : ℕ) → number 1 m 0 ≡ k → length m < front_size k → (p : SnapshotPiece) → StandsPiece m 0 p → ⊥
too_short m k is short p s =
    let fit : front_size k ≤ length m = subst (λ (n : ℕ). front_size n ≤ length m) (sym s.fields.0 ∙ is) (fits m p s) in
    omega (arith, fit, short)

-- ---- any piece

pub no_bytes : (m : List ℕ) → length m < 1 → (p : SnapshotPiece) → StandsPiece m 0 p → ⊥
no_bytes m short p s = omega (arith, inside_piece m 0 p s, short)

known : (p : SnapshotPiece) → (64 ≤ kind p) × (kind p ≤ 70)
known (BasePiece version epoch given next times) = (omega arith, omega arith)
known (FilePiece f path is_dir pending basic size stored) = (omega arith, omega arith)
known (BytesPiece f at bytes) = (omega arith, omega arith)
known (OpenPiece o row) = (omega arith, omega arith)
known (SlotPiece o index told status) = (omega arith, omega arith)
known (RangePiece r) = (omega arith, omega arith)
known (GuidPiece client create) = (omega arith, omega arith)

pub is_known : (m : List ℕ) (p : SnapshotPiece) → StandsPiece m 0 p → (64 ≤ number 1 m 0) × (number 1 m 0 ≤ 70)
is_known m p s = subst (λ (n : ℕ). (64 ≤ n) × (n ≤ 70)) (sym s.fields.0) (known p)

-- ---- texts

pub text_short : (m : List ℕ) (at count : ℕ) → count ≡ number 2 m at → length m < at + 2 + count → (text : List ℕ) → IsUtf8 text
    → Stands m at (text_table (utf16 text)) → ⊥
text_short m at count is short text told s =
    let size : number 2 m at ≡ length (utf16 text) = s.0 in
    let end : at + 2 + length (utf16 text) ≤ length m = s.1.1 in
    omega (arith, size, end, is, short)

pub text_other : (m : List ℕ) (at count : ℕ) (units : List ℕ) → count ≡ number 2 m at → units ≡ bytes_at count m (at + 2)
    → ((text : List ℕ) → IsUtf8 text → utf16 text ≡ units → ⊥) → (text : List ℕ) → IsUtf8 text
    → Stands m at (text_table (utf16 text)) → ⊥
text_other m at count units is told none text known_text s = none text known_text
    (sym s.1.0 ∙ ap (λ (n : ℕ). bytes_at n m (at + 2)) (sym s.0 ∙ sym is) ∙ sym told)

-- ---- files

pub record FileSays (m : List ℕ) : Type 0 where
  pub directory : Bool
  pub directory_told : flag directory ≡ number 1 m 9
  pub pending : Bool
  pub pending_told : flag pending ≡ number 1 m 10
  pub path : List ℕ
  pub is_text : IsUtf8 path
  pub stands : Stands m 63 (text_table (utf16 path))

file_says : (m : List ℕ) → number 1 m 0 ≡ 65 → (p : SnapshotPiece) → StandsPiece m 0 p → FileSays m
file_says m is (BasePiece version epoch given next times) s = absurd (omega (arith, s.fields.0, is))
file_says m is (FilePiece f path is_dir pending basic size stored) s = record {
  directory = is_dir;
  directory_told = sym s.fields.1.1.0;
  pending = pending;
  pending_told = sym s.fields.1.1.1.0;
  path = path;
  is_text = s.kept;
  stands = s.fields.1.1.1.1.1.1.1.1.1.1.1;
}
file_says m is (BytesPiece f at bytes) s = absurd (omega (arith, s.fields.0, is))
file_says m is (OpenPiece o row) s = absurd (omega (arith, s.fields.0, is))
file_says m is (SlotPiece o index told status) s = absurd (omega (arith, s.fields.0, is))
file_says m is (RangePiece r) s = absurd (omega (arith, s.fields.0, is))
file_says m is (GuidPiece client create) s = absurd (omega (arith, s.fields.0, is))

pub file_directory : (m : List ℕ) (byte : ℕ) → number 1 m 0 ≡ 65 → byte ≡ number 1 m 9 → ((b : Bool) → flag b ≡ byte → ⊥)
    → (p : SnapshotPiece) → StandsPiece m 0 p → ⊥
file_directory m byte is told none p s = let d = file_says m is p s in none d.directory (d.directory_told ∙ sym told)

pub file_pending : (m : List ℕ) (byte : ℕ) → number 1 m 0 ≡ 65 → byte ≡ number 1 m 10 → ((b : Bool) → flag b ≡ byte → ⊥)
    → (p : SnapshotPiece) → StandsPiece m 0 p → ⊥
file_pending m byte is told none p s = let d = file_says m is p s in none d.pending (d.pending_told ∙ sym told)

pub file_path : (m : List ℕ) → number 1 m 0 ≡ 65 → ((text : List ℕ) → IsUtf8 text → Stands m 63 (text_table (utf16 text)) → ⊥)
    → (p : SnapshotPiece) → StandsPiece m 0 p → ⊥
file_path m is none p s = let d = file_says m is p s in none d.path d.is_text d.stands

-- ---- bytes

bytes_says : (m : List ℕ) → number 1 m 0 ≡ 66 → (p : SnapshotPiece) → StandsPiece m 0 p → 21 + number 4 m 17 ≤ length m
bytes_says m is (BasePiece version epoch given next times) s = absurd (omega (arith, s.fields.0, is))
bytes_says m is (FilePiece f path is_dir pending basic size stored) s = absurd (omega (arith, s.fields.0, is))
bytes_says m is (BytesPiece f at bytes) s =
    let size : number 4 m 17 ≡ length bytes = s.fields.1.1.1.0 in
    let end : 21 + length bytes ≤ length m = ends_inside m 0 (piece_table (BytesPiece f at bytes)) s.fields in
    omega (arith, size, end)
bytes_says m is (OpenPiece o row) s = absurd (omega (arith, s.fields.0, is))
bytes_says m is (SlotPiece o index told status) s = absurd (omega (arith, s.fields.0, is))
bytes_says m is (RangePiece r) s = absurd (omega (arith, s.fields.0, is))
bytes_says m is (GuidPiece client create) s = absurd (omega (arith, s.fields.0, is))

pub bytes_short : (m : List ℕ) (count : ℕ) → number 1 m 0 ≡ 66 → count ≡ number 4 m 17 → length m < 21 + count
    → (p : SnapshotPiece) → StandsPiece m 0 p → ⊥
bytes_short m count is told short p s = omega (arith, bytes_says m is p s, told, short)

-- ---- opens

pub record OpenSays (m : List ℕ) : Type 0 where
  pub user : List ℕ
  pub is_text : IsUtf8 user
  pub stands : Stands m 69 (text_table (utf16 user))

open_says : (m : List ℕ) → number 1 m 0 ≡ 67 → (p : SnapshotPiece) → StandsPiece m 0 p → OpenSays m
open_says m is (BasePiece version epoch given next times) s = absurd (omega (arith, s.fields.0, is))
open_says m is (FilePiece f path is_dir pending basic size stored) s = absurd (omega (arith, s.fields.0, is))
open_says m is (BytesPiece f at bytes) s = absurd (omega (arith, s.fields.0, is))
open_says m is (OpenPiece o row) s = record {
  user = row.user;
  is_text = s.kept.2;
  stands = s.fields.1.1.1.1.1.1.1.1.1.1;
}
open_says m is (SlotPiece o index told status) s = absurd (omega (arith, s.fields.0, is))
open_says m is (RangePiece r) s = absurd (omega (arith, s.fields.0, is))
open_says m is (GuidPiece client create) s = absurd (omega (arith, s.fields.0, is))

pub open_user : (m : List ℕ) → number 1 m 0 ≡ 67 → ((text : List ℕ) → IsUtf8 text → Stands m 69 (text_table (utf16 text)) → ⊥)
    → (p : SnapshotPiece) → StandsPiece m 0 p → ⊥
open_user m is none p s = let d = open_says m is p s in none d.user d.is_text d.stands

-- ---- ranges

pub record RangeSays (m : List ℕ) : Type 0 where
  pub exclusive : Bool
  pub told : flag exclusive ≡ number 1 m 25

range_says : (m : List ℕ) → number 1 m 0 ≡ 69 → (p : SnapshotPiece) → StandsPiece m 0 p → RangeSays m
range_says m is (BasePiece version epoch given next times) s = absurd (omega (arith, s.fields.0, is))
range_says m is (FilePiece f path is_dir pending basic size stored) s = absurd (omega (arith, s.fields.0, is))
range_says m is (BytesPiece f at bytes) s = absurd (omega (arith, s.fields.0, is))
range_says m is (OpenPiece o row) s = absurd (omega (arith, s.fields.0, is))
range_says m is (SlotPiece o index told status) s = absurd (omega (arith, s.fields.0, is))
range_says m is (RangePiece r) s = record { exclusive = r.exclusive; told = sym s.fields.1.1.1.1.0 }
range_says m is (GuidPiece client create) s = absurd (omega (arith, s.fields.0, is))

pub range_flag : (m : List ℕ) (byte : ℕ) → number 1 m 0 ≡ 69 → byte ≡ number 1 m 25 → ((b : Bool) → flag b ≡ byte → ⊥)
    → (p : SnapshotPiece) → StandsPiece m 0 p → ⊥
range_flag m byte is told none p s = let d = range_says m is p s in none d.exclusive (d.told ∙ sym told)
