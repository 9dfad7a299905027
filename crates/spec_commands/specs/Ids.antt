-- Ids of 16 bytes as the numbers of the model.
use Rattle.std.specs.Prelude.{ℕ, ◌+◌, ◌-◌, ◌*◌, ◌/◌, ◌%◌, ◌==◌, if◌then◌else◌, List, ◌++◌}
use Rattle.spec_wire.specs.messages.Places.{le, number}

-- A FileId (MS-SMB2 2.2.14.1) is two numbers of 8 bytes, Persistent and Volatile, which the server alone chooses. Here it is one
-- number below 2^128: Persistent, and 2^64 times what Volatile is above Persistent, modulo 2^64. So a number below 2^64 is a FileId
-- of two equal halves, as this project's server gives them. (`le 8` takes the lowest 8 bytes.)
unfoldable pub file_id : ℕ → List ℕ
file_id o = le 8 o ++ le 8 (o + o / 0x1_0000_0000_0000_0000)

-- what a client keeps of the FileId that it was told, whose server may give any 16 bytes
unfoldable pub file_kept : List ℕ → ℕ
file_kept id = number 8 id 0 + 0x1_0000_0000_0000_0000 * ((number 8 id 8 + (0x1_0000_0000_0000_0000 - number 8 id 0)) %
    0x1_0000_0000_0000_0000)

-- the open that a request's FileId names at this project's server: of two different halves it is 0, which no open has
unfoldable pub file_of : List ℕ → ℕ
file_of id = if number 8 id 0 == number 8 id 8 then number 8 id 0 else 0

-- An ObjectId (MS-FSCC 2.1.3.1) is the file's number, which no other file ever has, and the volume's, 1: that of the root,
-- 0, isn't the one that stands for none.
unfoldable pub object_id : ℕ → List ℕ
object_id file = le 8 file ++ le 8 1

-- a CreateGuid (2.2.13.2.11)
unfoldable pub guid_of : List ℕ → ℕ
guid_of id = number 16 id 0

unfoldable pub guid_id : ℕ → List ℕ
guid_id guid = le 16 guid
