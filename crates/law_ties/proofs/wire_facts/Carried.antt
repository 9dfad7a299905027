-- The FileId at its place in a request.
use Rattle.std.proofs.Common.{◌≡◌, ℕ, ◌+◌, ◌*◌, List, [], ◌∷◌, ◌++◌, length, true, false, refl, sym, ap, ◌∙◌, append_assoc, arith, length-append}
use Rattle.std.specs.Prelude.{Some, IfSome}
use Rattle.spec_wire.specs.messages.Places.{le, bytes_at}
use Rattle.spec_wire.specs.messages.Aligned.{told}
use Rattle.spec_wire.specs.messages.Lock.{lock_count}
use Rattle.spec_wire.specs.messages.Table.{Field, Num, Raw, Any, with_fields}
use Rattle.spec_wire.proofs.messages.Numbers.{length-le, bytes_at-behind}
use Rattle.law_wire.proofs.messages.Rows.{with_fields-append}
use Rattle.spec_exchange.specs.Commands.{Command, Write, Read, Lock, Flush, QueryFile, ListDirectory, Close, SetInfo, Setting}
use Rattle.spec_exchange.specs.Commands.{Element, SetBasic, Rename, SetDelete, SetEnd}
use Rattle.spec_exchange.specs.Operations.{Op, OpCreate, OpWrite, OpRead, OpEnd, OpTime, OpRename, OpRemove, OpLock, OpUnlock, OpFlush}
use Rattle.spec_exchange.specs.Operations.{OpStat, OpList, OpClose, request_of, element, lock_flags, only_written}
use Rattle.spec_commands.specs.BodyOf.{body_of, number_of_command, close_value, lock_value, list_value, set_value}
use Rattle.spec_commands.specs.Ids.{file_id}
use Rattle.spec_world.specs.Related.{file_place}
use Rattle.law_commands.proofs.commands.Fields.{length-file_id}

-- fields of numbers and of bytes that are passed over
abbrev AreNumbers : List Field → Type 0
AreNumbers [] = Unit {0}
AreNumbers (Num w n ∷ fs) = AreNumbers fs
AreNumbers (Raw w b ∷ fs) = ⊥
AreNumbers (Any w ∷ fs) = AreNumbers fs

abbrev wide : List Field → ℕ
wide [] = 0
wide (Num w n ∷ fs) = w + wide fs
wide (Raw w b ∷ fs) = w + wide fs
wide (Any w ∷ fs) = w + wide fs

joined : (out : List ℕ) (before after : List Field) → with_fields out (before ++ after) ≡ with_fields (with_fields out before) after
joined out [] after = refl
joined out (Num w n ∷ fs) after = joined (out ++ le w n) fs after
joined out (Raw w b ∷ fs) after = joined (out ++ b) fs after
joined out (Any w ∷ fs) after = joined (out ++ le w 0) fs after

length_before : (out : List ℕ) (before : List Field) → AreNumbers before → length (with_fields out before) ≡ length out + wide before
length_before out [] are = omega arith
length_before out (Num w n ∷ fs) are = omega (arith, length_before (out ++ le w n) fs are, length-append out (le w n), length-le w n)
length_before out (Raw w b ∷ fs) are = absurd are
length_before out (Any w ∷ fs) are = omega (arith, length_before (out ++ le w 0) fs are, length-append out (le w 0), length-le w 0)

behind : (header front id more rest : List ℕ) (at : ℕ) → length header ≡ 64 → length id ≡ 16 → at ≡ 64 + length front
    → bytes_at 16 (header ++ (((front ++ id) ++ more) ++ rest)) at ≡ id
behind header front id more rest at len long e =
    let inner : ((front ++ id) ++ more) ++ rest ≡ front ++ (id ++ (more ++ rest)) = append_assoc (front ++ id) more rest
    ∙ append_assoc front id (more ++ rest) in
    let whole : header ++ (((front ++ id) ++ more) ++ rest) ≡ (header ++ front) ++ (id ++ (more ++ rest)) =
    ap (λ (l : List ℕ). header ++ l) inner ∙ sym (append_assoc header front (id ++ (more ++ rest))) in
    ap (λ (l : List ℕ). bytes_at 16 l at) whole
    ∙ bytes_at-behind 16 (header ++ front) id (more ++ rest) at (omega (arith, e, len, length-append header front)) long

-- behind numbers
carried : (header rest id : List ℕ) (before after : List Field) → length header ≡ 64 → length id ≡ 16 → AreNumbers before
    → bytes_at 16 (header ++ (with_fields [] (before ++ (Raw 16 id ∷ after)) ++ rest)) (64 + wide before) ≡ id
carried header rest id before after len long are =
    let front : List ℕ = with_fields [] before in
    let written : with_fields [] (before ++ (Raw 16 id ∷ after)) ≡ (front ++ id) ++ with_fields [] after =
    joined [] before (Raw 16 id ∷ after) ∙ with_fields-append (front ++ id) after in
    ap (λ (l : List ℕ). bytes_at 16 (header ++ (l ++ rest)) (64 + wide before)) written
    ∙ behind header front id (with_fields [] after) rest (64 + wide before) len long (omega (arith, length_before [] before are))

abbrev IsCarried : List ℕ → List ℕ → Command → ℕ → Type 0
IsCarried header rest c file = IfSome (file_place (number_of_command c)) (λ place. bytes_at 16 (header ++ (body_of c ++ rest)) place ≡ file_id file)

-- a CREATE names no open at a place
of_create : (header rest body id : List ℕ) → IfSome (file_place 5) (λ place. bytes_at 16 (header ++ (body ++ rest)) place ≡ id)
unfolding file_place
of_create header rest body id = tt

-- ---- each command

of_close : (header rest : List ℕ) (file : ℕ) → length header ≡ 64 → IsCarried header rest (Close file false) file
unfolding body_of file_place
of_close header rest file len =
    let v = close_value file false in
    carried header rest (file_id file) (Num 2 24 ∷ Num 2 v.flags ∷ Any 4 ∷ []) [] len (length-file_id file) tt

of_flush : (header rest : List ℕ) (file : ℕ) → length header ≡ 64 → IsCarried header rest (Flush file) file
unfolding body_of file_place
of_flush header rest file len = carried header rest (file_id file) (Num 2 24 ∷ Any 2 ∷ Any 4 ∷ []) [] len (length-file_id file) tt

of_read : (header rest : List ℕ) (file at size : ℕ) → length header ≡ 64 → IsCarried header rest (Read file at size 0 0) file
unfolding body_of file_place
of_read header rest file at size len =
    carried header rest (file_id file) (Num 2 49 ∷ Any 1 ∷ Num 1 0 ∷ Num 4 size ∷ Num 8 at ∷ [])
    (Num 4 0 ∷ Num 4 0 ∷ Num 4 0 ∷ Any 2 ∷ Any 2 ∷ Any 1 ∷ []) len (length-file_id file) tt

of_write : (header rest : List ℕ) (file at : ℕ) (bytes : List ℕ) → length header ≡ 64 → IsCarried header rest (Write file at bytes 0) file
unfolding body_of file_place
of_write header rest file at bytes len =
    carried header rest (file_id file) (Num 2 49 ∷ Num 2 112 ∷ Num 4 (length bytes) ∷ Num 8 at ∷ [])
    (Num 4 0 ∷ Num 4 0 ∷ Any 2 ∷ Any 2 ∷ Num 4 0 ∷ Raw (length bytes) bytes ∷ []) len (length-file_id file) tt

of_lock : (header rest : List ℕ) (file slot number : ℕ) (elements : List Element) → length header ≡ 64
    → IsCarried header rest (Lock file slot number elements) file
unfolding body_of file_place
of_lock header rest file slot number elements len =
    let v = lock_value file slot number elements in
    carried header rest (file_id file) (Num 2 48 ∷ Num 2 (lock_count v) ∷ Num 4 v.lock_sequence ∷ [])
    (Raw (lock_count v * 24) v.locks ∷ []) len (length-file_id file) tt

of_list : (header rest : List ℕ) (file : ℕ) → length header ≡ 64
    → IsCarried header rest (ListDirectory file 12 true false (42 ∷ []) 1048576) file
unfolding body_of file_place
of_list header rest file len =
    let v = list_value file 12 true false (42 ∷ []) 1048576 in
    carried header rest (file_id file) (Num 2 33 ∷ Num 1 12 ∷ Num 1 v.flags ∷ Num 4 0 ∷ [])
    (Num 2 (told (length v.name) 96) ∷ Num 2 (length v.name) ∷ Num 4 1048576 ∷ Raw (length v.name) v.name ∷ []) len (length-file_id file) tt

of_query : (header rest : List ℕ) (file : ℕ) → length header ≡ 64 → IsCarried header rest (QueryFile file 5 24) file
unfolding body_of file_place
of_query header rest file len =
    carried header rest (file_id file)
    (Num 2 41 ∷ Num 1 1 ∷ Num 1 5 ∷ Num 4 24 ∷ Num 2 (told 0 104) ∷ Any 2 ∷ Num 4 0 ∷ Num 4 0 ∷ Num 4 0 ∷ []) (Raw 0 [] ∷ []) len
    (length-file_id file) tt

of_set : (header rest : List ℕ) (file : ℕ) (setting : Setting) → length header ≡ 64 → IsCarried header rest (SetInfo file setting) file
unfolding body_of file_place
of_set header rest file setting len =
    let v = set_value file setting in
    carried header rest (file_id file)
    (Num 2 33 ∷ Num 1 1 ∷ Num 1 v.file_info_class ∷ Num 4 (length v.payload) ∷ Num 2 96 ∷ Any 2 ∷ Num 4 0 ∷ [])
    (Raw (length v.payload) v.payload ∷ []) len (length-file_id file) tt

pub of_operation : (header rest : List ℕ) (op : Op) (guid file slot number : ℕ) → length header ≡ 64
    → IsCarried header rest (request_of op guid file slot number) file
of_operation header rest (OpCreate path access share disposition persist directory) guid file slot number len =
    of_create header rest (body_of (request_of (OpCreate path access share disposition persist directory) guid file slot number)) (file_id file)
of_operation header rest (OpWrite create at bytes) guid file slot number len = of_write header rest file at bytes len
of_operation header rest (OpRead create at size) guid file slot number len = of_read header rest file at size len
of_operation header rest (OpEnd create size) guid file slot number len = of_set header rest file (SetEnd size) len
of_operation header rest (OpTime create time) guid file slot number len = of_set header rest file (SetBasic (only_written time)) len
of_operation header rest (OpRename create path) guid file slot number len = of_set header rest file (Rename false path) len
of_operation header rest (OpRemove create) guid file slot number len = of_set header rest file (SetDelete true) len
of_operation header rest (OpLock create at n exclusive) guid file slot number len =
    of_lock header rest file slot number (element at n (lock_flags exclusive)) len
of_operation header rest (OpUnlock create at n) guid file slot number len = of_lock header rest file slot number (element at n 0x4) len
of_operation header rest (OpFlush create) guid file slot number len = of_flush header rest file len
of_operation header rest (OpStat create) guid file slot number len = of_query header rest file len
of_operation header rest (OpList create) guid file slot number len = of_list header rest file len
of_operation header rest (OpClose create) guid file slot number len = of_close header rest file len
