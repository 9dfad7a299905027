-- An entry of the answer that tells a server's network interfaces (MS-SMB2 2.2.32.5).
use Rattle.std.specs.Prelude.{ℕ, List, [], ◌∷◌, Option}
use Rattle.spec_wire.specs.messages.Places.{number, bytes_at}
use Rattle.spec_wire.specs.messages.Table.{Field, Num, Raw, Any, Stands, with_fields, AreWritable, widths}
use Rattle.spec_wire.specs.messages.Fault.{short_fault}
use Rattle.spec_wire.specs.declared.messages.error.MessageError.{MessageError}
use Rattle.spec_wire.specs.declared.messages.class.NetworkInterface.{NetworkInterface}

-- An entry of FSCTL_QUERY_NETWORK_INTERFACE_INFO (MS-SMB2 2.2.32.5): Next, IfIndex, Capability, Reserved,
-- LinkSpeed, Family, Port, Address, Rest. Rest is passed over.
abbrev pub network_interface_table : NetworkInterface → List Field
network_interface_table v =
    Num 4 v.next ∷ Num 4 v.if_index ∷ Num 4 v.capability ∷ Any 4 ∷ Num 8 v.link_speed ∷ Num 2 v.family ∷ Raw 2 v.port
    ∷ Raw 4 v.address ∷ Any 120 ∷ []

-- m is this information; other bytes may follow
abbrev pub SpellsNetworkInterface : List ℕ → NetworkInterface → Type 0
SpellsNetworkInterface m v = Stands m 0 (network_interface_table v)

-- the information that stands in m
abbrev pub network_interface_in : List ℕ → NetworkInterface
network_interface_in m = record {
  next = number 4 m 0;
  if_index = number 4 m 4;
  capability = number 4 m 8;
  link_speed = number 8 m 16;
  family = number 2 m 24;
  port = bytes_at 2 m 26;
  address = bytes_at 4 m 28;
}

abbrev pub network_interface_fault : List ℕ → Option MessageError
network_interface_fault m = short_fault m 0 (widths (network_interface_table (network_interface_in m)))

abbrev pub IsWritableNetworkInterface : NetworkInterface → Type 0
IsWritableNetworkInterface v = AreWritable (network_interface_table v)

abbrev pub network_interface_spelling : NetworkInterface → List ℕ
network_interface_spelling v = with_fields [] (network_interface_table v)
