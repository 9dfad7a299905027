-- Records whose numbers and texts are those of their types.
use Rattle.std.proofs.Common.{◌≡◌, ℕ, ◌<◌, ◌^◌, Bool, List, [], ◌∷◌, ◌++◌, length, Option, Some}
use Rattle.std.specs.Prelude.{IsUtf8}
use Rattle.spec_exchange.specs.declared.values.Basic.{Basic}
use Rattle.spec_exchange.specs.declared.values.Origin.{Origin}
use Rattle.spec_wire.specs.messages.Table.{AreWritable, Num}
use Rattle.journal_bytes.specs.record_bytes.Grammar.{IsInRange, HasUser, origin_table, basic_table, open_numbers}
use Rattle.journal_bytes.specs.declared.record_bytes.value.NewOpen.{NewOpen}
use Rattle.journal_bytes.specs.declared.record_bytes.value.Record.TheVariants.{Epoch, Create, Write, SetEnd, SetBasic, SetDelete}
use Rattle.journal_bytes.specs.declared.record_bytes.value.Record.TheVariants.{Rename, Remove, Lock, Shut, Version, Expire}

pub open_typed : (n : NewOpen) → n.id < 256 ^ 8 → length n.client ≡ 16 → length n.guid ≡ 16 → n.access < 256 ^ 4
    → n.share < 256 ^ 4 → n.options < 256 ^ 4 → n.timeout < 256 ^ 4 → AreWritable (open_numbers (Some n))
open_typed n i c g a s o t = (i, (c, (g, (a, (s, (o, (t, tt)))))))

pub epoch_typed : (count : ℕ) → count < 256 ^ 4 → IsInRange (Epoch count)
epoch_typed count n = record { numbers = (n, tt); texts = tt }

pub version_typed : (count : ℕ) → count < 256 ^ 4 → IsInRange (Version count)
version_typed count n = record { numbers = (n, tt); texts = tt }

pub create_typed : (origin : Origin) (action file : ℕ) (path : List ℕ) (attributes : ℕ) (directory : Bool) (time : ℕ)
    (opened : Option NewOpen) → AreWritable (origin_table origin) → action < 256 ^ 4 → file < 256 ^ 8 → IsUtf8 path
    → attributes < 256 ^ 4 → time < 256 ^ 8 → AreWritable (open_numbers opened) → HasUser opened
    → IsInRange (Create origin action file path attributes directory time opened)
create_typed origin action file path attributes directory time opened o a f p b t n u =
    record { numbers = (o.0, (o.1.0, (o.1.1.0, (a, (f, (b, (t, n))))))); texts = (p, u) }

pub write_typed : (origin : Origin) (file at time : ℕ) (bytes : List ℕ) → AreWritable (origin_table origin) → file < 256 ^ 8
    → at < 256 ^ 8 → time < 256 ^ 8 → IsInRange (Write origin file at time bytes)
write_typed origin file at time bytes o f a t = record { numbers = (o.0, (o.1.0, (o.1.1.0, (f, (a, (t, tt)))))); texts = tt }

pub end_typed : (origin : Origin) (file size time : ℕ) → AreWritable (origin_table origin) → file < 256 ^ 8
    → size < 256 ^ 8 → time < 256 ^ 8 → IsInRange (SetEnd origin file size time)
end_typed origin file size time o f a t = record { numbers = (o.0, (o.1.0, (o.1.1.0, (f, (a, (t, tt)))))); texts = tt }

pub basic_typed : (origin : Origin) (file : ℕ) (basic : Basic) → AreWritable (origin_table origin) → file < 256 ^ 8
    → AreWritable (basic_table basic) → IsInRange (SetBasic origin file basic)
basic_typed origin file basic o f b = record { numbers = (o.0, (o.1.0, (o.1.1.0, (f, b)))); texts = tt }

pub delete_typed : (origin : Origin) (file : ℕ) (marked : Bool) → AreWritable (origin_table origin ++ Num 8 file ∷ [])
    → IsInRange (SetDelete origin file marked)
delete_typed origin file marked n = record { numbers = n; texts = tt }

pub rename_typed : (origin : Origin) (file replaced : ℕ) (path : List ℕ) → AreWritable (origin_table origin)
    → file < 256 ^ 8 → replaced < 256 ^ 8 → IsUtf8 path → IsInRange (Rename origin file replaced path)
rename_typed origin file replaced path o f r p = record { numbers = (o.0, (o.1.0, (o.1.1.0, (f, (r, tt))))); texts = p }

pub remove_typed : (origin : Origin) (file : ℕ) → AreWritable (origin_table origin ++ Num 8 file ∷ []) → IsInRange (Remove origin file)
remove_typed origin file n = record { numbers = n; texts = tt }

pub lock_typed : (origin : Origin) (id index count status : ℕ) (elements : List ℕ) → AreWritable (origin_table origin)
    → id < 256 ^ 8 → index < 256 ^ 1 → count < 256 ^ 1 → status < 256 ^ 4
    → IsInRange (Lock origin id index count status elements)
lock_typed origin id index count status elements o i x n s =
    record { numbers = (o.0, (o.1.0, (o.1.1.0, (i, (x, (n, (s, tt))))))); texts = tt }

pub shut_typed : (origin : Origin) (id : ℕ) → AreWritable (origin_table origin ++ Num 8 id ∷ []) → IsInRange (Shut origin id)
shut_typed origin id n = record { numbers = n; texts = tt }

pub expire_typed : (origin : Origin) (id : ℕ) → AreWritable (origin_table origin ++ Num 8 id ∷ []) → IsInRange (Expire origin id)
expire_typed origin id n = record { numbers = n; texts = tt }
