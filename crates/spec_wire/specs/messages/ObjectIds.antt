-- The answer that tells a file's object id (MS-FSCC 2.1.3.1).
use Rattle.std.specs.Prelude.{ℕ, List, [], ◌∷◌, Option}
use Rattle.spec_wire.specs.messages.Places.{bytes_at}
use Rattle.spec_wire.specs.messages.Table.{Field, Raw, Any, Stands, with_fields, AreWritable, widths}
use Rattle.spec_wire.specs.messages.Fault.{short_fault}
use Rattle.spec_wire.specs.declared.messages.error.MessageError.{MessageError}
use Rattle.spec_wire.specs.declared.messages.class.ObjectIdBuffer.{ObjectIdBuffer}

-- A FILE_OBJECTID_BUFFER of type 1 (MS-FSCC 2.1.3.1): ObjectId, BirthVolumeId, BirthObjectId, DomainId. DomainId is passed
-- over.
abbrev pub object_id_buffer_table : ObjectIdBuffer → List Field
object_id_buffer_table v =
    Raw 16 v.object_id ∷ Raw 16 v.birth_volume_id ∷ Raw 16 v.birth_object_id ∷ Any 16 ∷ []

-- m is this information; other bytes may follow
abbrev pub SpellsObjectIdBuffer : List ℕ → ObjectIdBuffer → Type 0
SpellsObjectIdBuffer m v = Stands m 0 (object_id_buffer_table v)

-- the information that stands in m
abbrev pub object_id_buffer_in : List ℕ → ObjectIdBuffer
object_id_buffer_in m = record {
  object_id = bytes_at 16 m 0;
  birth_volume_id = bytes_at 16 m 16;
  birth_object_id = bytes_at 16 m 32;
}

abbrev pub object_id_buffer_fault : List ℕ → Option MessageError
object_id_buffer_fault m = short_fault m 0 (widths (object_id_buffer_table (object_id_buffer_in m)))

abbrev pub IsWritableObjectIdBuffer : ObjectIdBuffer → Type 0
IsWritableObjectIdBuffer v = AreWritable (object_id_buffer_table v)

abbrev pub object_id_buffer_spelling : ObjectIdBuffer → List ℕ
object_id_buffer_spelling v = with_fields [] (object_id_buffer_table v)
