-- The values of the examples.
use Rattle.std.specs.Prelude.{ℕ, Bool, false, true, List, [], ◌∷◌, ◌++◌, Some, None}
use Rattle.spec_wire.specs.messages.Places.{le}
use Rattle.spec_wire.specs.declared.messages.header.Header.{Header}
use Rattle.spec_exchange.specs.Commands.{CreateRequest, Bad}
use Rattle.spec_exchange.specs.State.{Info, Named, Body, Reply}
use Rattle.spec_commands.specs.CommandOf.{Told}

-- the bytes of a header, which no body looks at
abbrev pub zeros : List ℕ
zeros = le 64 0

abbrev pub header_of : ℕ → ℕ → Header
header_of command status = record {
  charge = 1;
  status = status;
  command = command;
  credits = 1;
  flags = 0;
  next = 0;
  message = 4;
  tree = 0;
  session = 0;
  signature = le 16 0;
}

abbrev pub charged : ℕ → ℕ → Header
charged command charge = record (header_of command 0) { charge = charge }

-- so many bytes of open 5, from the first on
abbrev pub a_read : ℕ → List ℕ
a_read size = zeros ++ 49 ∷ 0 ∷ 0 ∷ 0 ∷ le 4 size ++ le 8 0 ++ le 8 5 ++ le 8 5 ++ le 17 0

abbrev pub told : Told
told = record { connection = 0; client = 0; fault = None; verified = false; cipher = 0; signing = 1; shows = λ token. Bad; negotiated = 0 }

-- `a`, to be written by this open alone, opened or made, persistent
abbrev pub a_create : CreateRequest
a_create = record {
  path = 97 ∷ [];
  access = 0x102;
  share = 1;
  attributes = 0;
  disposition = 3;
  options = 0x40;
  durable
      = Some (record { timeout = 0; persistent = true; guid = 7 });
  reconnect = None;
  maximal = false;
  disk_id = false;
}

-- the same without a durable open, with these contexts
abbrev pub a_plain_create : Bool → Bool → CreateRequest
a_plain_create maximal disk_id = record a_create { durable = None; maximal = maximal; disk_id = disk_id }

-- a CREATE as above, of one unit as its name and of contexts of this many bytes (2.2.13)
abbrev pub creating : List ℕ → ℕ → List ℕ → List ℕ
creating unit size contexts = zeros ++ 57 ∷ 0 ∷ 0 ∷ 0 ∷ 2 ∷ 0 ∷ 0 ∷ 0 ∷ le 16 0 ++ le 4 0x102 ++ le 4 0 ++ le 4 1 ++ le 4 3 ++ le 4 0x40
    ++ 120 ∷ 0 ∷ 2 ∷ 0 ∷ 128 ∷ 0 ∷ 0 ∷ 0 ∷ le 4 size ++ unit ++ le 6 0 ++ contexts

-- a context of 24 bytes without data, with a name of four bytes; the next one stands so far behind its beginning (2.2.13.2)
abbrev pub a_context : ℕ → List ℕ → List ℕ
a_context next name = next ∷ 0 ∷ 0 ∷ 0 ∷ 16 ∷ 0 ∷ 4 ∷ 0 ∷ le 8 0 ++ name ++ le 4 0

-- DH2C, with open 5 and guid 7, of 64 bytes (2.2.13.2.12)
abbrev pub an_attaching : ℕ → List ℕ
an_attaching next = next ∷ 0 ∷ 0 ∷ 0 ∷ 16 ∷ 0 ∷ 4 ∷ 0 ∷ 0 ∷ 0 ∷ 24 ∷ 0 ∷ 36 ∷ 0 ∷ 0 ∷ 0 ∷ 0x44 ∷ 0x48 ∷ 0x32 ∷ 0x43 ∷ le 4 0
    ++ le 8 5 ++ le 8 5 ++ le 16 7 ++ le 4 2 ++ le 4 0

-- DHnQ, DHnC, MxAc, QFid
abbrev pub old_ask : List ℕ
old_ask = 0x44 ∷ 0x48 ∷ 0x6e ∷ 0x51 ∷ []

abbrev pub old_again : List ℕ
old_again = 0x44 ∷ 0x48 ∷ 0x6e ∷ 0x43 ∷ []

abbrev pub maximal : List ℕ
maximal = 0x4d ∷ 0x78 ∷ 0x41 ∷ 0x63 ∷ []

abbrev pub disk : List ℕ
disk = 0x51 ∷ 0x46 ∷ 0x69 ∷ 0x64 ∷ []

-- `a`, and half of a pair, which is no text
abbrev pub a_unit : List ℕ
a_unit = 97 ∷ 0 ∷ []

abbrev pub half_a_pair : List ℕ
half_a_pair = 0 ∷ 0xd8 ∷ []

abbrev pub replied : ℕ → Body → Reply
replied status body = record { status = status; session_id = 0; tree_id = 0; body = body }

abbrev pub nothing : Info
nothing = record {
  file = 0;
  is_directory = false;
  size = 0;
  is_delete_pending = false;
  times = record {
    created = 0;
    accessed =
        0;
    written = 0;
    changed = 0;
    attributes = 0;
  };
}

-- a file or a directory with these attributes
abbrev pub with_attributes : Bool → ℕ → Info
with_attributes directory attributes = record {
  file = 0;
  is_directory = directory;
  size = 0;
  is_delete_pending = false;
  times = record { created = 0; accessed = 0; written = 0; changed = 0; attributes = attributes };
}

abbrev pub with_size : Bool → ℕ → Info
with_size directory size = record {
  file = 0;
  is_directory = directory;
  size = size;
  is_delete_pending = false;
  times = record { created = 0; accessed = 0; written = 0; changed = 0; attributes = 0 };
}

-- `.` and `ab`
abbrev pub two_names : List Named
two_names = record { name = 46 ∷ []; info = nothing } ∷ record { name = 97 ∷ 98 ∷ []; info = nothing } ∷ []
