-- The records of the model (`spec_exchange`) that records stand for.
use Rattle.std.specs.Prelude.{ℕ, zero, suc, ◌/◌, List, [], ◌∷◌, length, drop, map, Option, Some, None}
use Rattle.spec_wire.specs.messages.Places.{number, number_of}
use Rattle.spec_exchange.specs.Commands.{Element}
use Rattle.spec_exchange.specs.State as model
use Rattle.journal_bytes.specs.declared.record_bytes.value.NewOpen.{NewOpen}
use Rattle.journal_bytes.specs.declared.record_bytes.value.Record.{Record}
use Rattle.journal_bytes.specs.declared.record_bytes.value.Record.TheVariants.{Epoch, Create, Write, SetEnd, SetBasic, SetDelete}
use Rattle.journal_bytes.specs.declared.record_bytes.value.Record.TheVariants.{Rename, Remove, Lock, Shut, Version, Expire}

-- so many elements of a LOCK request: Offset, Length, Flags, Reserved (MS-SMB2 2.2.26.1)
unfoldable pub elements_in : ℕ → List ℕ → List Element
elements_in zero bytes = []
elements_in (suc count) bytes = record {
  at = number 8 bytes 0;
  length = number 8 bytes 8;
  flags = number 4 bytes 16;
} ∷ elements_in count (drop 24 bytes)

-- a GUID is the number that its bytes spell
abbrev pub new_open : NewOpen → model.NewOpen
new_open n = record {
  id = n.id;
  client_guid = number_of n.client;
  create_guid = number_of n.guid;
  user = n.user;
  access = n.access;
  share = n.share;
  options = n.options;
  timeout = n.timeout;
}

abbrev pub opened : Option NewOpen → Option model.NewOpen
opened None = None
opened (Some n) = Some (new_open n)

abbrev pub record_of : Record → model.Record
record_of (Epoch number) = model.EpochRecord number
record_of (Create origin action file path attributes directory time made) = model.CreateRecord origin action file path
    attributes directory time (opened made)
record_of (Write origin file at time bytes) = model.WriteRecord origin file at time bytes
record_of (SetEnd origin file size time) = model.EndRecord origin file size time
record_of (SetBasic origin file basic) = model.BasicRecord origin file basic
record_of (SetDelete origin file marked) = model.DeleteRecord origin file marked
record_of (Rename origin file replaced path) = model.RenameRecord origin file replaced path
record_of (Remove origin file) = model.RemoveRecord origin file
record_of (Lock origin id index number status elements) = model.LockRecord origin id index number status
    (elements_in (length elements / 24) elements)
record_of (Shut origin id) = model.CloseRecord origin id
record_of (Version number) = model.VersionRecord number
record_of (Expire origin id) = model.ExpireRecord origin id

abbrev pub records_of : List Record → List model.Record
records_of rs = map record_of rs
