-- The TREE_CONNECT request and response (MS-SMB2 2.2.9, 2.2.10).
use Rattle.std.specs.Prelude.{ℕ, List, [], ◌∷◌, ◌++◌, length, Option}
use Rattle.spec_wire.specs.messages.Places.{number, bytes_at}
use Rattle.spec_wire.specs.messages.Table.{Field, Num, Raw, Any, Stands, with_fields, AreWritable, IsPart}
use Rattle.spec_wire.specs.messages.Fault.{◌or_else◌, fields_fault, size_fault, part_fault}
use Rattle.spec_wire.specs.declared.messages.error.MessageError.{MessageError}
use Rattle.spec_wire.specs.declared.messages.error.Part.TheVariants.{Path}
use Rattle.spec_wire.specs.declared.messages.session_message.TreeConnectResponse.{TreeConnectResponse}

pub record TreeConnectRequestValue : Type 0 where
  pub flags : ℕ
  pub path : List ℕ

-- the fixed part of the request, with the place of the path: StructureSize, Flags, place and length of the path
abbrev pub tree_connect_request_table : TreeConnectRequestValue → ℕ → List Field
tree_connect_request_table v at = Num 2 9 ∷ Num 2 v.flags ∷ Num 2 at ∷ Num 2 (length v.path) ∷ []

-- m is a header and this request; other bytes may follow
pub record SpellsTreeConnectRequest (m : List ℕ) (v : TreeConnectRequestValue) : Type 0 where
  pub fixed : Stands m 64 (tree_connect_request_table v (number 2 m 68))
  pub path : IsPart m (number 2 m 68) (number 2 m 70) 72 v.path

-- the request that stands in m
abbrev pub tree_connect_request_in : List ℕ → TreeConnectRequestValue
tree_connect_request_in m = record { flags = number 2 m 66; path = bytes_at (number 2 m 70) m (number 2 m 68) }

abbrev pub tree_connect_request_fault : List ℕ → Option MessageError
tree_connect_request_fault m =
    fields_fault m (tree_connect_request_table (tree_connect_request_in m) (number 2 m 68))
    or_else size_fault m 9
    or_else part_fault m (number 2 m 68) (number 2 m 70) 72 Path

-- what is written behind a header: the path stands behind the fixed part
abbrev pub tree_connect_request_whole : TreeConnectRequestValue → List Field
tree_connect_request_whole v = tree_connect_request_table v 72 ++ Raw (length v.path) v.path ∷ []

abbrev pub IsWritableTreeConnectRequest : TreeConnectRequestValue → Type 0
IsWritableTreeConnectRequest v = AreWritable (tree_connect_request_whole v)

abbrev pub tree_connect_request_spelling : TreeConnectRequestValue → List ℕ
tree_connect_request_spelling v = with_fields [] (tree_connect_request_whole v)

-- the response: StructureSize, ShareType, Reserved, ShareFlags, Capabilities, MaximalAccess
abbrev pub tree_connect_response_table : TreeConnectResponse → List Field
tree_connect_response_table v =
    Num 2 16 ∷ Num 1 v.share_type ∷ Any 1 ∷ Num 4 v.share_flags ∷ Num 4 v.capabilities ∷ Num 4 v.maximal_access ∷ []

abbrev pub SpellsTreeConnectResponse : List ℕ → TreeConnectResponse → Type 0
SpellsTreeConnectResponse m v = Stands m 64 (tree_connect_response_table v)

-- the response that stands in m
abbrev pub tree_connect_response_in : List ℕ → TreeConnectResponse
tree_connect_response_in m =
    record {
      share_type = number 1 m 66;
      share_flags = number 4 m 68;
      capabilities = number 4 m 72;
      maximal_access = number 4 m 76;
    }

abbrev pub tree_connect_response_fault : List ℕ → Option MessageError
tree_connect_response_fault m = fields_fault m (tree_connect_response_table (tree_connect_response_in m)) or_else size_fault m 16

abbrev pub IsWritableTreeConnectResponse : TreeConnectResponse → Type 0
IsWritableTreeConnectResponse v = AreWritable (tree_connect_response_table v)

abbrev pub tree_connect_response_spelling : TreeConnectResponse → List ℕ
tree_connect_response_spelling v = with_fields [] (tree_connect_response_table v)
