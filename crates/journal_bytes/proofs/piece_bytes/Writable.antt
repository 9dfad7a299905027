-- Pieces with a text or a byte that tells yes or no, whose numbers fit their fields.
use Rattle.std.proofs.Common.{ℕ, ◌^◌, ◌<◌, Bool, List, length, refl, arith}
use Rattle.std.specs.Prelude.{IsUtf8}
use Rattle.spec_wire.specs.messages.Table.{AreWritable}
use Rattle.spec_wire.specs.messages.Utf16.{utf16}
use Rattle.spec_exchange.specs.Commands.{Basic}
use Rattle.spec_exchange.specs.State.{Range}
use Rattle.law_snapshots.specs.snapshots.Pieces.{FilePiece, OpenPiece, RangePiece}
use Rattle.journal_bytes.specs.record_bytes.Grammar.{basic_table}
use Rattle.journal_bytes.specs.piece_bytes.Grammar.{IsWritablePiece}
use Rattle.journal_bytes.specs.piece_bytes.Meaning.{row_of}
use Rattle.journal_bytes.specs.declared.piece_bytes.value.OpenFront.{OpenFront}
use Rattle.journal_bytes.proofs.record_bytes.Allowed.{flag_small}

pub file_writable : (f : ℕ) (path : List ℕ) (is_dir pending : Bool) (b : Basic) (size stored : ℕ) → f < 256 ^ 8
    → AreWritable (basic_table b) → size < 256 ^ 8 → stored < 256 ^ 8 → length (utf16 path) < 65536 → IsUtf8 path
    → IsWritablePiece (FilePiece f path is_dir pending b size stored)
file_writable f path is_dir pending b size stored number basic long kept short is = record {
  fits = (
    omega arith,
    (
      number,
      (
        flag_small is_dir,
        (
          flag_small pending,
          (
            basic.0,
            (
              basic.1.0,
              (
                basic.1.1.0,
                (basic.1.1.1.0, (basic.1.1.1.1.0, (long, (kept, (omega (arith, short), (refl, tt)))))),
              ),
            ),
          ),
        ),
      ),
    ),
  );
  kept = is;
}

pub open_writable : (o : ℕ) (user : List ℕ) (v : OpenFront) → o < 256 ^ 8 → v.file < 256 ^ 8 → v.client < 256 ^ 16 → v.guid < 256 ^ 16
    → v.access < 256 ^ 4 → v.share < 256 ^ 4 → v.options < 256 ^ 4 → v.action < 256 ^ 4 → v.timeout < 256 ^ 4
    → length (utf16 user) < 65536 → IsUtf8 user → IsWritablePiece (OpenPiece o (row_of user v))
open_writable o user v id of client guid access share options action timeout short is = record {
  fits = (
    omega arith,
    (id, (of, (client, (guid, (access, (share, (options, (action, (timeout, (omega (arith, short), (refl, tt))))))))))),
  );
  kept = (refl, tt, is);
}

pub range_writable : (r : Range) → r.owner < 256 ^ 8 → r.at < 256 ^ 8 → r.length < 256 ^ 8 → IsWritablePiece (RangePiece r)
range_writable r owner at size = record { fits = (omega arith, (owner, (at, (size, (flag_small r.exclusive, tt))))); kept = tt }
