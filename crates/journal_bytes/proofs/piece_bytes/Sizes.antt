-- How many bytes pieces take, and how many at most.
use Rattle.std.proofs.Common.{◌≡◌, ℕ, zero, suc, ◌+◌, ◌*◌, ◌≤◌, List, [], ◌∷◌, ◌++◌, length, Option, Some, None, All, refl, ◌∙◌, arith}
use Rattle.std.proofs.Common.{length-append}
use Rattle.std.proofs.lemmas.List.Elements.{All-head, All-tail}
use Rattle.spec_exchange.specs.Texts.{utf16_length}
use Rattle.spec_exchange.specs.Records.{text_size}
use Rattle.spec_exchange.specs.State.{Server, Entry, Range, Kept}
use Rattle.spec_exchange.specs.Files.{root}
use Rattle.spec_exchange.specs.Fold.{persistent_in, ranges_that_stay}
use Rattle.law_snapshots.specs.snapshots.Pieces.{SnapshotPiece, BasePiece, FilePiece, BytesPiece, OpenPiece, SlotPiece, RangePiece, GuidPiece}
use Rattle.law_snapshots.specs.snapshots.Pieces.{FileBytes, Patch, snapshot, bytes_pieces, file_piece, file_pieces, slot_piece, slot_pieces}
use Rattle.law_snapshots.specs.snapshots.Pieces.{open_pieces, range_pieces, all_range_pieces, guid_pieces}
use Rattle.journal_bytes.specs.record_bytes.Grammar.{behind_fields}
use Rattle.journal_bytes.specs.piece_bytes.Grammar.{piece_table, PieceIsKept, IsWritablePiece, AreWritablePieces, piece_spelling, pieces_spelling}
use Rattle.journal_bytes.specs.piece_bytes.Largest.{piece_size, pieces_size, patch_bytes, all_parts, all_bytes, all_ranges, IsWithinLimits}
use Rattle.journal_bytes.proofs.record_bytes.Again.{length_written}
use Rattle.journal_bytes.proofs.record_bytes.Sizes.{text_length}

-- ---- as many as is reckoned

size_behind : (p : SnapshotPiece) → PieceIsKept p → behind_fields 0 (piece_table p) ≡ piece_size p
unfolding piece_size text_size
size_behind (BasePiece version epoch given next times) kept = omega arith
size_behind (FilePiece f path is_dir pending basic size stored) kept = omega (arith, text_length path kept)
size_behind (BytesPiece f at bytes) kept = omega arith
size_behind (OpenPiece o row) kept = omega (arith, text_length row.user kept.2)
size_behind (SlotPiece o index told status) kept = omega arith
size_behind (RangePiece r) kept = omega arith
size_behind (GuidPiece client create) kept = omega arith

pub written_size : (ps : List SnapshotPiece) → AreWritablePieces ps → length (pieces_spelling ps) ≡ pieces_size ps
unfolding pieces_size
written_size [] fit = refl
written_size (p ∷ ps) fit =
    let first : IsWritablePiece p = All-head IsWritablePiece p ps fit in
    let here : length (piece_spelling p) ≡ piece_size p = length_written (piece_table p) [] first.fits ∙ size_behind p first.kept in
    omega (arith, length-append (piece_spelling p) (pieces_spelling ps), here, written_size ps (All-tail IsWritablePiece p ps fit))

-- ---- the parts of a snapshot

size_both : (ps qs : List SnapshotPiece) → pieces_size (ps ++ qs) ≡ pieces_size ps + pieces_size qs
unfolding pieces_size
size_both [] qs = omega arith
size_both (p ∷ ps) qs = omega (arith, size_both ps qs)

bytes_size : (f : ℕ) (ps : List Patch) → pieces_size (bytes_pieces f ps) ≡ 21 * length ps + patch_bytes ps
unfolding pieces_size piece_size bytes_pieces patch_bytes
bytes_size f [] = refl
bytes_size f (p ∷ ps) = omega (arith, bytes_size f ps)

path_size : (s : Server) (stored : ℕ) (e : Entry) → utf16_length e.path ≤ 1024 → piece_size (file_piece s stored e) ≤ 2113
unfolding piece_size text_size
path_size s stored e short = omega (arith, short)

abbrev Short : Entry → Type 0
Short e = utf16_length e.path ≤ 1024

files_size : (s : Server) (held : ℕ → FileBytes) (es : List Entry) → All Short es
    → pieces_size (file_pieces s held es) ≤ 2113 * length es + 21 * all_parts held es + all_bytes held es
unfolding pieces_size file_pieces all_parts all_bytes
files_size s held [] short = omega arith
files_size s held (e ∷ es) short =
    let here : piece_size (file_piece s (held e.file).stored e) ≤ 2113 = path_size s (held e.file).stored e (All-head Short e es short) in
    let told : pieces_size (bytes_pieces e.file (held e.file).patches) ≡ 21 * length (held e.file).patches + patch_bytes (held e.file).patches =
    bytes_size e.file (held e.file).patches in
    let both : pieces_size (bytes_pieces e.file (held e.file).patches ++ file_pieces s held es)
    ≡ pieces_size (bytes_pieces e.file (held e.file).patches) + pieces_size (file_pieces s held es) =
    size_both (bytes_pieces e.file (held e.file).patches) (file_pieces s held es) in
    omega (arith, here, told, both, files_size s held es (All-tail Short e es short))

slot_size : (o index : ℕ) (k : Option Kept) → pieces_size (slot_piece o index k) ≤ 15
unfolding pieces_size piece_size slot_piece
slot_size o index None = omega arith
slot_size o index (Some k) = omega arith

slots_size : (slots : ℕ → Option Kept) (o n : ℕ) → pieces_size (slot_pieces slots o n) ≤ 15 * n
unfolding pieces_size slot_pieces
slots_size slots o zero = omega arith
slots_size slots o (suc n) =
    let both : pieces_size (slot_piece o (suc n) (slots (suc n)) ++ slot_pieces slots o n)
    ≡ pieces_size (slot_piece o (suc n) (slots (suc n))) + pieces_size (slot_pieces slots o n) =
    size_both (slot_piece o (suc n) (slots (suc n))) (slot_pieces slots o n) in
    omega (arith, both, slot_size o (suc n) (slots (suc n)), slots_size slots o n)

open_size : (s : Server) (o : ℕ) → utf16_length (s.opened o).user ≤ 256 → piece_size (OpenPiece o (s.opened o)) ≤ 583
unfolding piece_size text_size
open_size s o short = omega (arith, short)

opens_size : (s : Server) (os : List ℕ) → ((o : ℕ) → utf16_length (s.opened o).user ≤ 256) → pieces_size (open_pieces s os) ≤ 1543 * length os
unfolding pieces_size open_pieces
opens_size s [] short = omega arith
opens_size s (o ∷ os) short =
    let both : pieces_size (slot_pieces (s.lock_sequences o) o 64 ++ open_pieces s os)
    ≡ pieces_size (slot_pieces (s.lock_sequences o) o 64) + pieces_size (open_pieces s os) =
    size_both (slot_pieces (s.lock_sequences o) o 64) (open_pieces s os) in
    omega (arith, both, open_size s o (short o), slots_size (s.lock_sequences o) o 64, opens_size s os short)

ranges_size : (rs : List Range) → pieces_size (range_pieces rs) ≡ 26 * length rs
unfolding pieces_size piece_size range_pieces
ranges_size [] = refl
ranges_size (r ∷ rs) = omega (arith, ranges_size rs)

all_size : (s : Server) (es : List Entry) → pieces_size (all_range_pieces s es) ≡ 26 * all_ranges s es
unfolding pieces_size all_range_pieces all_ranges
all_size s [] = refl
all_size s (e ∷ es) =
    let both : pieces_size (range_pieces (ranges_that_stay s (s.ranges e.file)) ++ all_range_pieces s es)
    ≡ pieces_size (range_pieces (ranges_that_stay s (s.ranges e.file))) + pieces_size (all_range_pieces s es) =
    size_both (range_pieces (ranges_that_stay s (s.ranges e.file))) (all_range_pieces s es) in
    omega (arith, both, ranges_size (ranges_that_stay s (s.ranges e.file)), all_size s es)

guids_size : (gs : List (ℕ × ℕ)) → pieces_size (guid_pieces gs) ≡ 33 * length gs
unfolding pieces_size piece_size guid_pieces
guids_size [] = refl
guids_size (g ∷ gs) = omega (arith, guids_size gs)

pub largest : (s : Server) (held : ℕ → FileBytes) (guids : List (ℕ × ℕ)) → IsWithinLimits s held guids
    → pieces_size (snapshot s held guids) ≤ 873316409
unfolding pieces_size piece_size
largest s held guids w =
    let a = file_pieces s held s.entries in
    let b = open_pieces s (persistent_in s.opened s.opens) in
    let c = range_pieces (ranges_that_stay s (s.ranges root)) in
    let d = all_range_pieces s s.entries in
    let e = guid_pieces guids in
    let first : pieces_size (a ++ (b ++ (c ++ (d ++ e)))) ≡ pieces_size a + pieces_size (b ++ (c ++ (d ++ e))) = size_both a (b ++ (c ++ (d ++ e))) in
    let second : pieces_size (b ++ (c ++ (d ++ e))) ≡ pieces_size b + pieces_size (c ++ (d ++ e)) = size_both b (c ++ (d ++ e)) in
    let third : pieces_size (c ++ (d ++ e)) ≡ pieces_size c + pieces_size (d ++ e) = size_both c (d ++ e) in
    let fourth : pieces_size (d ++ e) ≡ pieces_size d + pieces_size e = size_both d e in
    omega (
      arith,
      first,
      second,
      third,
      fourth,
      files_size s held s.entries w.paths,
      opens_size s (persistent_in s.opened s.opens) w.users,
      ranges_size (ranges_that_stay s (s.ranges root)),
      all_size s s.entries,
      guids_size guids,
      w.files,
      w.opens,
      w.ranges,
      w.expired,
      w.bytes,
      w.parts,
    )
