-- One piece of each kind, in bytes.
use Rattle.std.specs.Prelude.{ℕ, ◌++◌, List, [], ◌∷◌, true, false, Some, replicate}
use Rattle.spec_exchange.specs.Commands.{Basic}
use Rattle.law_snapshots.specs.snapshots.Pieces.{SnapshotPiece, BasePiece, FilePiece, BytesPiece, OpenPiece, SlotPiece, RangePiece, GuidPiece}

-- times 1, 2, 3, 4, attributes ARCHIVE (MS-FSCC 2.6)
abbrev pub few_times : Basic
few_times = record { created = 1; accessed = 2; written = 3; changed = 4; attributes = 0x20 }

abbrev pub zeros : ℕ → List ℕ
zeros n = replicate n 0

abbrev pub times_told : List ℕ
times_told = (1 ∷ zeros 7) ++ ((2 ∷ zeros 7) ++ ((3 ∷ zeros 7) ++ ((4 ∷ zeros 7) ++ (0x20 ∷ zeros 3))))

-- version 2, epoch 3, 258 ids given, next file 5
abbrev pub base_told : List ℕ
base_told = 64 ∷ 2 ∷ 0 ∷ 0 ∷ 0 ∷ 3 ∷ 0 ∷ 0 ∷ 0 ∷ 2 ∷ 1 ∷ 0 ∷ 0 ∷ ((5 ∷ zeros 7) ++ times_told)

-- file 4 at `d\b`, marked, of 3 bytes, of which 1 is stored
abbrev pub file_told : List ℕ
file_told = 65 ∷ ((4 ∷ zeros 7) ++ (0 ∷ 1 ∷ (times_told ++ ((3 ∷ zeros 7) ++ ((1 ∷ zeros 7) ++ (6 ∷ 0 ∷ 100 ∷ 0 ∷ 92 ∷ 0 ∷ 98 ∷ 0 ∷ []))))))

-- its byte 2 is 99
abbrev pub bytes_told : List ℕ
bytes_told = 66 ∷ ((4 ∷ zeros 7) ++ ((2 ∷ zeros 7) ++ (1 ∷ 0 ∷ 0 ∷ 0 ∷ 99 ∷ [])))

-- open 0x1_0000_0001 of file 4, by client 7 under guid 9, of user `U`: access 3, share 7, options 0, made by its create, 60,000 ms
abbrev pub open_told : List ℕ
open_told = 67 ∷ ((1 ∷ 0 ∷ 0 ∷ 0 ∷ 1 ∷ 0 ∷ 0 ∷ 0 ∷ []) ++ ((4 ∷ zeros 7) ++ ((7 ∷ zeros 15) ++ ((9 ∷ zeros 15)
    ++ (3 ∷ 0 ∷ 0 ∷ 0 ∷ 7 ∷ 0 ∷ 0 ∷ 0 ∷ 0 ∷ 0 ∷ 0 ∷ 0 ∷ 2 ∷ 0 ∷ 0 ∷ 0 ∷ 0x60 ∷ 0xea ∷ 0 ∷ 0 ∷ 2 ∷ 0 ∷ 85 ∷ 0 ∷ [])))))

-- its slot 1 keeps number 5 and SUCCESS
abbrev pub slot_told : List ℕ
slot_told = 68 ∷ 1 ∷ 0 ∷ 0 ∷ 0 ∷ 1 ∷ 0 ∷ 0 ∷ 0 ∷ 1 ∷ 5 ∷ 0 ∷ 0 ∷ 0 ∷ 0 ∷ []

-- it locks ten bytes from 256 on
abbrev pub range_told : List ℕ
range_told = 69 ∷ 1 ∷ 0 ∷ 0 ∷ 0 ∷ 1 ∷ 0 ∷ 0 ∷ 0 ∷ 0 ∷ 1 ∷ 0 ∷ 0 ∷ 0 ∷ 0 ∷ 0 ∷ 0 ∷ ((10 ∷ zeros 7) ++ 1 ∷ [])

-- an open of client 7 with guid 10 expired
abbrev pub guid_told : List ℕ
guid_told = 70 ∷ ((7 ∷ zeros 15) ++ (10 ∷ zeros 15))

abbrev pub few_pieces : List SnapshotPiece
few_pieces =
    BasePiece 2 3 258 5 few_times
    ∷ FilePiece 4 (100 ∷ 92 ∷ 98 ∷ []) false true few_times 3 1
    ∷ BytesPiece 4 2 (99 ∷ [])
    ∷ OpenPiece 0x1_0000_0001 (record {
      file = 4;
      access = 3;
      share = 7;
      options = 0;
      action = 2;
      persistent = true;
      client_guid = 7;
      create_guid = Some 9;
      user = 85 ∷ [];
      timeout = 60000;
    })
    ∷ SlotPiece 0x1_0000_0001 1 5 0
    ∷ RangePiece (record { owner = 0x1_0000_0001; at = 256; length = 10; exclusive = true })
    ∷ GuidPiece 7 10
    ∷ []
