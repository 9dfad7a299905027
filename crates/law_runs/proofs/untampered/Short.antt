-- The requests of an operation that keeps its limits fit a frame.
use Rattle.std.proofs.Common.{◌≡◌, ℕ, ◌+◌, ◌-◌, ◌/◌, ◌<◌, ◌≤◌, ◌^◌, ◌==◌, nat_le, Bool, true, false, ◌&&◌, List, [], ◌∷◌, ◌++◌}
use Rattle.std.proofs.Common.{if◌then◌else◌, length, length-append, arith, Some, None}
use Rattle.spec_wire.specs.messages.Places.{le, gap_to_8}
use Rattle.spec_wire.specs.messages.Table.{with_fields}
use Rattle.spec_wire.specs.messages.Utf16.{utf16}
use Rattle.spec_wire.specs.messages.Chain.{chain_spelling}
use Rattle.spec_wire.specs.messages.CreateContexts.{CreateContext, context_whole, context_spelling, context_size, dh2q_table, dh2c_table}
use Rattle.spec_wire.specs.messages.CreateContexts.{create_contexts_spelling}
use Rattle.spec_wire.specs.declared.messages.context.Dh2q.{Dh2q}
use Rattle.spec_wire.specs.declared.messages.context.Dh2c.{Dh2c}
use Rattle.spec_wire.specs.messages.Create.{CreateRequestValue, create_request_whole, create_request_spelling}
use Rattle.spec_wire.specs.messages.Close.{close_request_table}
use Rattle.spec_wire.specs.messages.Flush.{flush_request_table}
use Rattle.spec_wire.specs.messages.Read.{read_request_table}
use Rattle.spec_wire.specs.messages.Write.{write_request_whole}
use Rattle.spec_wire.specs.messages.Lock.{lock_request_whole, lock_count, lock_element_table, lock_element_spelling}
use Rattle.spec_wire.specs.messages.QueryDirectory.{query_directory_request_whole}
use Rattle.spec_wire.specs.messages.QueryInfo.{query_info_request_whole}
use Rattle.spec_wire.specs.messages.SetInfo.{set_info_request_whole, set_info_request_spelling}
use Rattle.spec_wire.specs.messages.FileClasses.{file_basic_information_table, file_rename_information_whole}
use Rattle.spec_wire.specs.messages.FileClasses.{file_disposition_information_table}
use Rattle.spec_wire.specs.messages.FileClasses.{file_end_of_file_information_table}
use Rattle.spec_wire.proofs.messages.Numbers.{length-le}
use Rattle.spec_exchange.specs.Commands.{Element, CreateRequest, Durable, Reconnect, Setting, SetBasic, Rename, SetDelete, SetEnd}
use Rattle.spec_exchange.specs.Operations.{Op, OpCreate, OpWrite, OpRead, OpEnd, OpTime, OpRename, OpRemove, OpLock}
use Rattle.spec_exchange.specs.Operations.{OpUnlock, OpFlush, OpStat}
use Rattle.spec_exchange.specs.Operations.{OpList, OpClose, keeps_limits, request_of, reconnect_of, create_request}
use Rattle.spec_exchange.specs.Operations.{durable_of, only_written}
use Rattle.spec_exchange.specs.Operations.{is_spelled_path, fits_32, fits_64, are_below, lock_flags}
use Rattle.spec_commands.specs.Ids.{file_id, guid_id}
use Rattle.spec_commands.specs.BodyOf.{body_of, contexts_of, create_value, element_of, lock_value, basic_value, setting_bytes, set_value}
use Rattle.spec_commands.specs.BodyOf.{close_value, flush_value, read_value, write_value, list_value, query_value, dh2q_of, dh2c_of}
use Rattle.spec_commands.specs.Tables.{bit_if}
use Rattle.spec_commands.proofs.Lengths.{total, length_fields}
use Rattle.law_commands.specs.commands.Fitting.{IsFittingName}
use Rattle.law_commands.proofs.commands.Limits.{both, at_most, path_is, star_is}
use Rattle.law_runs.specs.untampered.Plain.{RequestsAreShort}

-- ---- parts

pub file_long : (o : ℕ) → length (file_id o) ≡ 16
unfolding file_id
file_long o = omega (
  arith,
  length-append (le 8 o) (le 8 (o + o / 0x1_0000_0000_0000_0000)),
  length-le 8 o,
  length-le 8 (o + o / 0x1_0000_0000_0000_0000),
)

guid_long : (guid : ℕ) → length (guid_id guid) ≡ 16
unfolding guid_id
guid_long guid = length-le 16 guid

pub gap_few : (n : ℕ) → gap_to_8 n ≤ 7
gap_few n = omega arith

pub gap_or_none : (b : Bool) (n : ℕ) → (if b then 0 else gap_to_8 n) ≤ 7
gap_or_none true n = omega arith
gap_or_none false n = gap_few n

pub one_or_none : (b : Bool) → (if b then 1 else 0) ≤ 1
one_or_none true = omega arith
one_or_none false = omega arith

-- ---- CREATE

one_context : (v : CreateContext) → length (chain_spelling context_spelling context_size (v ∷ [])) ≤ 23 + length v.name + length v.value
unfolding total
one_context v =
    omega (
      arith,
      length-append (context_spelling v 0) [],
      length_fields (context_whole v 0) [],
      gap_or_none (length v.value == 0) (length v.name),
    )

dh2q_long : (q : Dh2q) → length q.guid ≡ 16 → length (with_fields [] (dh2q_table q)) ≡ 32
unfolding total
dh2q_long q e = omega (arith, e, length_fields (dh2q_table q) [])

dh2c_long : (q : Dh2c) → length q.file ≡ 16 → length q.guid ≡ 16 → length (with_fields [] (dh2c_table q)) ≡ 36
unfolding total
dh2c_long q e f = omega (arith, e, f, length_fields (dh2c_table q) [])

abbrev asked_create : List ℕ → ℕ → ℕ → ℕ → Bool → Durable → CreateRequest
asked_create path access share disposition directory d = create_request path access share disposition directory (Some d) None

abbrev again_create : List ℕ → ℕ → ℕ → ℕ → Bool → Reconnect → CreateRequest
again_create path access share disposition directory c = create_request path access share disposition directory None (Some c)

durable_few : (path : List ℕ) (access share disposition : ℕ) (directory : Bool) (d : Durable)
    → length (create_contexts_spelling (contexts_of (asked_create path access share disposition directory d))) ≤ 100
durable_few path access share disposition directory d =
    omega (
      arith,
      one_context (record {
        name = 0x44 ∷ 0x48 ∷ 0x32 ∷ 0x51 ∷ [];
        value = with_fields [] (dh2q_table (dh2q_of d));
      }),
      dh2q_long (dh2q_of d) (guid_long d.guid),
    )

again_few : (path : List ℕ) (access share disposition : ℕ) (directory : Bool) (c : Reconnect)
    → length (create_contexts_spelling (contexts_of (again_create path access share disposition directory c))) ≤ 100
again_few path access share disposition directory c =
    omega (
      arith,
      one_context (record {
        name = 0x44 ∷ 0x48 ∷ 0x32 ∷ 0x43 ∷ [];
        value = with_fields [] (dh2c_table (dh2c_of c));
      }),
      dh2c_long (dh2c_of c) (file_long c.file) (guid_long c.guid),
    )

create_short : (v : CreateRequestValue) → length v.name < 256 ^ 2 → length v.contexts ≤ 100
    → 64 + length (create_request_spelling v) ≤ 1114060
unfolding total
create_short v name few =
    omega (
      arith,
      name,
      few,
      length_fields (create_request_whole v) [],
      gap_or_none (length v.contexts == 0) (length v.name),
      one_or_none (length v.name + length v.contexts == 0),
    )

-- ---- LOCK and SET_INFO

lock_long : (e : Element) → length (lock_element_spelling (element_of e) ++ []) ≡ 24
unfolding total
lock_long e =
    omega (arith, length-append (lock_element_spelling (element_of e)) [], length_fields (lock_element_table (element_of e)) [])

setting_few : (setting : Setting) → length (setting_bytes setting) ≤ 65600 → (file : ℕ)
    → 64 + length (set_info_request_spelling (set_value file setting)) ≤ 1114060
unfolding total
setting_few setting few file = omega (arith, few, file_long file, length_fields (set_info_request_whole (set_value file setting)) [])

end_few : (size : ℕ) → length (setting_bytes (SetEnd size)) ≤ 65600
unfolding total
end_few size = omega (arith, length_fields (file_end_of_file_information_table (record { end_of_file = size })) [])

time_few : (time : ℕ) → length (setting_bytes (SetBasic (only_written time))) ≤ 65600
unfolding total
time_few time = omega (arith, length_fields (file_basic_information_table (basic_value (only_written time))) [])

rename_few : (path : List ℕ) → IsFittingName path → length (setting_bytes (Rename false path)) ≤ 65600
unfolding total
rename_few path is =
    let few = is.short in
    omega (
      arith,
      few,
      length_fields
          (file_rename_information_whole (record { replace_if_exists = bit_if false 1; root_directory = 0; name = utf16 path })) [],
    )

remove_few : length (setting_bytes (SetDelete true)) ≤ 65600
unfolding total
remove_few = omega (arith, length_fields (file_disposition_information_table (record { delete_pending = bit_if true 1 })) [])

-- ---- each request

own_short : (op : Op) (guid file slot number : ℕ) → keeps_limits op ≡ true
    → 64 + length (body_of (request_of op guid file slot number)) ≤ 1114060
unfolding body_of total
own_short (OpCreate path access share disposition persist directory) guid file slot number keeps =
    let p = both (is_spelled_path path) (fits_32 access && (fits_32 share && fits_32 disposition)) keeps in
    let name = path_is path p.0 in
    create_short (create_value (asked_create path access share disposition directory (durable_of guid persist))) name.short
    (durable_few path access share disposition directory (durable_of guid persist))
own_short (OpWrite create at bytes) guid file slot number keeps =
    let p = both (fits_64 at) (are_below 256 bytes && nat_le (length bytes) 1048577) keeps in
    let q = both (are_below 256 bytes) (nat_le (length bytes) 1048577) p.1 in
    omega (
      arith,
      at_most (length bytes) 1048577 q.1,
      file_long file,
      length_fields (write_request_whole (write_value file at bytes 0)) [],
    )
own_short (OpRead create at size) guid file slot number keeps =
    omega (arith, file_long file, length_fields (read_request_table (read_value file at size 0 0)) [])
own_short (OpEnd create size) guid file slot number keeps = setting_few (SetEnd size) (end_few size) file
own_short (OpTime create time) guid file slot number keeps = setting_few (SetBasic (only_written time)) (time_few time) file
own_short (OpRename create path) guid file slot number keeps = setting_few (Rename false path) (rename_few path (path_is path keeps)) file
own_short (OpRemove create) guid file slot number keeps = setting_few (SetDelete true) remove_few file
own_short (OpLock create at size exclusive) guid file slot number keeps =
    let e : Element = record { at = at; length = size; flags = lock_flags exclusive } in
    let v = lock_value file slot number (e ∷ []) in
    omega (arith, file_long file, lock_long e, length_fields (lock_request_whole v (lock_count v)) [])
own_short (OpUnlock create at size) guid file slot number keeps =
    let e : Element = record { at = at; length = size; flags = 0x4 } in
    let v = lock_value file slot number (e ∷ []) in
    omega (arith, file_long file, lock_long e, length_fields (lock_request_whole v (lock_count v)) [])
own_short (OpFlush create) guid file slot number keeps =
    omega (arith, file_long file, length_fields (flush_request_table (flush_value file)) [])
own_short (OpStat create) guid file slot number keeps =
    omega (arith, file_long file, length_fields (query_info_request_whole (query_value file 5 24)) [])
own_short (OpList create) guid file slot number keeps =
    let star = star_is.short in
    omega (
      arith,
      star,
      file_long file,
      length_fields (query_directory_request_whole (list_value file 12 true false (42 ∷ []) 1048576)) [],
    )
own_short (OpClose create) guid file slot number keeps =
    omega (arith, file_long file, length_fields (close_request_table (close_value file false)) [])

none_short : 64 + length {A = ℕ} [] ≤ 1114060
none_short = omega arith

asked_short : (op : Op) (guid file : ℕ) → keeps_limits op ≡ true → 64 + length (body_of (reconnect_of op guid file)) ≤ 1114060
unfolding body_of
asked_short (OpCreate path access share disposition persist directory) guid file keeps =
    let p = both (is_spelled_path path) (fits_32 access && (fits_32 share && fits_32 disposition)) keeps in
    let name = path_is path p.0 in
    let c : Reconnect = record { file = file; guid = guid } in
    create_short (create_value (again_create path access share disposition directory c)) name.short
    (again_few path access share disposition directory c)
asked_short (OpWrite create at bytes) guid file keeps = none_short
asked_short (OpRead create at size) guid file keeps = none_short
asked_short (OpEnd create size) guid file keeps = none_short
asked_short (OpTime create time) guid file keeps = none_short
asked_short (OpRename create path) guid file keeps = none_short
asked_short (OpRemove create) guid file keeps = none_short
asked_short (OpLock create at size exclusive) guid file keeps = none_short
asked_short (OpUnlock create at size) guid file keeps = none_short
asked_short (OpFlush create) guid file keeps = none_short
asked_short (OpStat create) guid file keeps = none_short
asked_short (OpList create) guid file keeps = none_short
asked_short (OpClose create) guid file keeps = none_short

pub requests_are_short : RequestsAreShort
requests_are_short op guid file slot number keeps = (own_short op guid file slot number keeps, asked_short op guid file keeps)
