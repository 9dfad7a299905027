-- What a writer's table says in the grammar's words.
use Rattle.std.specs.Prelude.{List, [], ◌∷◌, length, flat_map}
use Rattle.spec_wire.specs.messages.Table.{Field, Num}
use Rattle.spec_wire.specs.messages.Table as table
use Rattle.journal_bytes.specs.record_bytes.Grammar.{flag, origin_table, basic_table}
use Rattle.journal_bytes.specs.declared.record_bytes.putting.Put.{Put}
use Rattle.journal_bytes.specs.declared.record_bytes.putting.Put.TheVariants.{Byte, Short, Long, Wide, Large, Flag, Guid, Raw, Origin, Times}

abbrev pub fields_of : Put → List Field
fields_of (Byte n) = Num 1 n ∷ []
fields_of (Short n) = Num 2 n ∷ []
fields_of (Long n) = Num 4 n ∷ []
fields_of (Wide n) = Num 8 n ∷ []
fields_of (Large n) = Num 16 n ∷ []
fields_of (Flag b) = Num 1 (flag b) ∷ []
fields_of (Guid g) = table.Raw 16 g ∷ []
fields_of (Raw b) = table.Raw (length b.now) b.now ∷ []
fields_of (Origin o) = origin_table o
fields_of (Times b) = basic_table b

abbrev pub table_of : List Put → List Field
table_of puts = flat_map fields_of puts
