-- The pieces of the model (`law_snapshots`) that pieces stand for.
use Rattle.std.specs.Prelude.{ℕ, List, map, true, Some}
use Rattle.spec_exchange.specs.State as model
use Rattle.law_snapshots.specs.snapshots.Pieces.{SnapshotPiece, BasePiece, FilePiece, BytesPiece, OpenPiece, SlotPiece, RangePiece, GuidPiece}
use Rattle.journal_bytes.specs.declared.piece_bytes.value.OpenFront.{OpenFront}
use Rattle.journal_bytes.specs.declared.piece_bytes.value.Piece.{Piece}
use Rattle.journal_bytes.specs.declared.piece_bytes.value.Piece.TheVariants.{Base, File, Bytes, Open, Slot, Range, Guid}

-- an open of a snapshot is persistent
abbrev pub row_of : List ℕ → OpenFront → model.Open
row_of user o = record {
  file = o.file;
  access = o.access;
  share = o.share;
  options = o.options;
  action = o.action;
  persistent = true;
  client_guid = o.client;
  create_guid = Some o.guid;
  user = user;
  timeout = o.timeout;
}

abbrev pub piece_of : Piece → SnapshotPiece
piece_of (Base version epoch given next times) = BasePiece version epoch given next times
piece_of (File f path front) = FilePiece f path front.directory front.pending front.basic front.size front.stored
piece_of (Bytes f at bytes) = BytesPiece f at bytes
piece_of (Open o user front) = OpenPiece o (row_of user front)
piece_of (Slot o index number status) = SlotPiece o index number status
piece_of (Range range) = RangePiece range
piece_of (Guid client create) = GuidPiece client create

abbrev pub pieces_of : List Piece → List SnapshotPiece
pieces_of ps = map piece_of ps
