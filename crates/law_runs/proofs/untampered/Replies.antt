-- The reply to a line's request fits a frame, where what it tells of files does.
use Rattle.std.proofs.Common.{◌≡◌, ℕ, ◌+◌, ◌≤◌, ◌==◌, Bool, true, false}
use Rattle.std.proofs.Common.{◌&&◌, ◌||◌, List, [], ◌∷◌, ◌++◌, length, length-append}
use Rattle.std.proofs.Common.{refl, arith, sym, subst, eqb-true, Option, Some, None, option_map}
use Rattle.spec_wire.specs.messages.Places.{le, gap_to_8}
use Rattle.spec_wire.specs.messages.Table.{with_fields}
use Rattle.spec_wire.specs.messages.Chain.{linked, chain_spelling}
use Rattle.spec_wire.specs.messages.CreateContexts.{CreateContext, context_whole, context_spelling, context_size}
use Rattle.spec_wire.specs.messages.CreateContexts.{dh2q, mxac, qfid, dh2q_reply_table}
use Rattle.spec_wire.specs.messages.CreateContexts.{maximal_access_table, disk_id_table, dh2q_told}
use Rattle.spec_wire.specs.messages.CreateContexts.{mxac_told, qfid_told, reply_contexts_spelling}
use Rattle.spec_wire.specs.declared.messages.context.Dh2qReply.{Dh2qReply}
use Rattle.spec_wire.specs.declared.messages.context.MaximalAccess.{MaximalAccess}
use Rattle.spec_wire.specs.declared.messages.context.DiskId.{DiskId}
use Rattle.spec_wire.specs.messages.Error.{error_response_table, error_response_spelling}
use Rattle.spec_wire.specs.messages.Bare.{bare_table, bare_spelling}
use Rattle.spec_wire.specs.messages.TreeConnect.{tree_connect_response_table, tree_connect_response_spelling}
use Rattle.spec_wire.specs.messages.CreateResponse.{create_response_whole, create_response_spelling}
use Rattle.spec_wire.specs.messages.Close.{close_response_table, close_response_spelling}
use Rattle.spec_wire.specs.messages.Flush.{flush_response_table}
use Rattle.spec_wire.specs.messages.Read.{ReadResponseValue, read_response_whole, read_response_spelling}
use Rattle.spec_wire.specs.messages.Write.{write_response_table}
use Rattle.spec_wire.specs.messages.LockResponse.{lock_response_table}
use Rattle.spec_wire.specs.messages.Ioctl.{ioctl_response_whole, ioctl_response_spelling}
use Rattle.spec_wire.specs.messages.QueryDirectory.{QueryDirectoryResponseValue}
use Rattle.spec_wire.specs.messages.QueryDirectory.{query_directory_response_whole, query_directory_response_spelling}
use Rattle.spec_wire.specs.messages.QueryInfo.{QueryInfoResponseValue, query_info_response_whole, query_info_response_spelling}
use Rattle.spec_wire.specs.messages.SetInfo.{set_info_response_table}
use Rattle.spec_wire.specs.declared.messages.file_message.CloseResponse.{CloseResponse}
use Rattle.spec_wire.proofs.messages.Numbers.{length-le}
use Rattle.spec_exchange.specs.Status.{success, more_processing_required}
use Rattle.spec_exchange.specs.Commands.{Command, Aside, Unreadable, Setup, Logoff}
use Rattle.spec_exchange.specs.Commands.{TreeConnect, TreeDisconnect, Create, Close, Flush, Read}
use Rattle.spec_exchange.specs.Commands.{Write, Lock, Ioctl, ListDirectory, QueryFile, QueryVolume, SetInfo, is_setup}
use Rattle.spec_exchange.specs.State.{Address, CreateReply, Body, Empty, Created, Closed}
use Rattle.spec_exchange.specs.State.{Content, Count, Interfaces, ObjectId, Listing, FileInfo, VolumeInfo}
use Rattle.spec_exchange.specs.State.{SetUp, Connected, Reply}
use Rattle.spec_commands.specs.Infos.{file_bytes, volume_bytes, listing_bytes, interface_bytes, object_id_bytes}
use Rattle.spec_commands.specs.ReplyBody.{reply_body, success_body, is_told, created_value, closed_value, untold_value, connected_value}
use Rattle.spec_commands.specs.ReplyBody.{content_value, count_value, interfaces_value, object_id_value}
use Rattle.spec_commands.specs.ReplyBody.{contexts_told, timeout_told, access_told, disk_id_told}
use Rattle.spec_commands.proofs.Lengths.{total, length_fields, interface_long, object_id_long}
use Rattle.law_server.proofs.tables.Logic.{either}
use Rattle.law_server.specs.successes.Bodies.{is_simple, IsBodyTold}
use Rattle.law_ties.specs.requests.Lines.{is_lines}
use Rattle.law_runs.proofs.untampered.Asked.{IsShort}
use Rattle.law_runs.proofs.untampered.Short.{file_long, gap_few, gap_or_none, one_or_none}

absent : {X : Type 0} → false ≡ true → X
absent e = absurd (let h : false ≡ true = e in cc)

-- ---- the contexts of a CREATE's response

abbrev chained : List CreateContext → List ℕ
chained vs = chain_spelling context_spelling context_size vs

context_long : (v : CreateContext) (next : ℕ) → length (context_spelling v next) ≤ 23 + length v.name + length v.value
unfolding total
context_long v next =
    omega (arith, length_fields (context_whole v next) [], gap_or_none (length v.value == 0) (length v.name))

linked_long : (v : CreateContext) (vs : List CreateContext)
    → length (linked context_spelling context_size v vs) ≤ 30 + length v.name + length v.value
linked_long v [] = omega (arith, context_long v 0)
linked_long v (w ∷ ws) =
    let gap = gap_to_8 (context_size v) in
    omega (
      arith,
      length-append (context_spelling v (context_size v + gap)) (le gap 0),
      length-le gap 0,
      context_long v (context_size v + gap),
      gap_few (context_size v),
    )

chain_more : (v : CreateContext) (vs : List CreateContext)
    → length (chained (v ∷ vs)) ≤ 30 + length v.name + length v.value + length (chained vs)
chain_more v vs = omega (arith, length-append (linked context_spelling context_size v vs) (chained vs), linked_long v vs)

timeout_long : (q : Dh2qReply) → length (with_fields [] (dh2q_reply_table q)) ≡ 8
unfolding total
timeout_long q = omega (arith, length_fields (dh2q_reply_table q) [])

access_long : (a : MaximalAccess) → length (with_fields [] (maximal_access_table a)) ≡ 8
unfolding total
access_long a = omega (arith, length_fields (maximal_access_table a) [])

disk_long : (d : DiskId) → length (with_fields [] (disk_id_table d)) ≡ 32
unfolding total
disk_long d = omega (arith, length_fields (disk_id_table d) [])

disk_few : (d : Option DiskId) → length (chained (qfid_told d)) ≤ 66
disk_few None = omega arith
disk_few (Some d) =
    omega (arith, disk_long d, chain_more (record { name = qfid; value = with_fields [] (disk_id_table d) }) [])

access_few : (a : Option MaximalAccess) (d : Option DiskId) → length (chained (mxac_told a ++ qfid_told d)) ≤ 108
access_few None d = omega (arith, disk_few d)
access_few (Some a) d =
    omega (
      arith,
      access_long a,
      disk_few d,
      chain_more (record { name = mxac; value = with_fields [] (maximal_access_table a) }) (qfid_told d),
    )

contexts_few : (q : Option Dh2qReply) (a : Option MaximalAccess) (d : Option DiskId)
    → length (chained (dh2q_told q ++ (mxac_told a ++ qfid_told d))) ≤ 150
contexts_few None a d = omega (arith, access_few a d)
contexts_few (Some q) a d =
    omega (
      arith,
      timeout_long q,
      access_few a d,
      chain_more (record { name = dh2q; value = with_fields [] (dh2q_reply_table q) }) (mxac_told a ++ qfid_told d),
    )

told_few : (r : CreateReply) → length (reply_contexts_spelling (contexts_told r)) ≤ 150
told_few r = contexts_few (option_map timeout_told r.timeout) (access_told r.maximal) (disk_id_told r.disk_id r.info.file)

created_few : (r : CreateReply) → 64 + length (create_response_spelling (created_value r)) ≤ 1114060
unfolding total
created_few r =
    omega (arith, length_fields (create_response_whole (created_value r)) [], file_long r.id, told_few r)

-- ---- the others

bare_few : 64 + length bare_spelling ≤ 1114060
unfolding total
bare_few = omega (arith, length_fields bare_table [])

closed_few : (v : CloseResponse) → 64 + length (close_response_spelling v) ≤ 1114060
unfolding total
closed_few v = omega (arith, length_fields (close_response_table v) [])

connected_few : (kind capabilities access : ℕ)
    → 64 + length (tree_connect_response_spelling (connected_value kind capabilities access)) ≤ 1114060
unfolding total
connected_few kind capabilities access =
    omega (arith, length_fields (tree_connect_response_table (connected_value kind capabilities access)) [])

read_few : (v : ReadResponseValue) → length v.payload ≤ 1048577 → 64 + length (read_response_spelling v) ≤ 1114060
unfolding total
read_few v few = omega (arith, few, length_fields (read_response_whole v) [], one_or_none (length v.payload == 0))

directory_few : (v : QueryDirectoryResponseValue) → length v.output ≤ 1113900 → 64 + length (query_directory_response_spelling v) ≤ 1114060
unfolding total
directory_few v few = omega (arith, few, length_fields (query_directory_response_whole v) [])

info_few : (v : QueryInfoResponseValue) → length v.output ≤ 1113900 → 64 + length (query_info_response_spelling v) ≤ 1114060
unfolding total
info_few v few = omega (arith, few, length_fields (query_info_response_whole v) [])

interfaces_few : (file code : ℕ) (address : Address) → 64 + length (ioctl_response_spelling (interfaces_value file code address)) ≤ 1114060
unfolding total
interfaces_few file code address =
    omega (
      arith,
      file_long file,
      interface_long address,
      length_fields (ioctl_response_whole (interfaces_value file code address)) [],
      gap_or_none (length (interface_bytes address) == 0) 0,
    )

object_id_few : (file code number : ℕ) → 64 + length (ioctl_response_spelling (object_id_value file code number)) ≤ 1114060
unfolding total
object_id_few file code number =
    omega (
      arith,
      file_long file,
      object_id_long number,
      length_fields (ioctl_response_whole (object_id_value file code number)) [],
      gap_or_none (length (object_id_bytes number) == 0) 0,
    )

-- ---- the body of a success

-- a READ's success has at most as many bytes as one may ask for
abbrev IsBrief : Command → Body → Type 0
IsBrief (Read file at size minimum channel) (Content bytes) = length bytes ≤ 1048577
IsBrief _ _ = Unit {0}

one_more : (n : ℕ) → n ≤ 1048576 → n ≤ 1048577
one_more n l = omega (arith, l)

brief_by : (c : Command) (b : Body) → (is_simple c ≡ true → IsBodyTold c b) → IsBrief c b
brief_by (Read file at size minimum channel) b told =
    let t = told refl in
    subst (λ (q : Body). IsBrief (Read file at size minimum channel) q) (sym t.1) (one_more (length t.0) t.3)
brief_by (Aside status) b told = tt
brief_by (Setup request) b told = tt
brief_by (Unreadable status) b told = tt
brief_by Logoff b told = tt
brief_by TreeDisconnect b told = tt
brief_by (Flush file) b told = tt
brief_by (Lock file index slot elements) b told = tt
brief_by (SetInfo file setting) b told = tt
brief_by (TreeConnect share) b told = tt
brief_by (Create request) b told = tt
brief_by (Close file query) b told = tt
brief_by (Write file at bytes channel) b told = tt
brief_by (Ioctl file code room) b told = tt
brief_by (ListDirectory file class restart single pattern room) b told = tt
brief_by (QueryFile file class room) b told = tt
brief_by (QueryVolume file class room) b told = tt

abbrev Fits : List ℕ → Command → Body → Type 0
Fits token c b = 64 + length (success_body token c b) ≤ 1114060

success_few : (token : List ℕ) (c : Command) (b : Body) → is_lines c ≡ true → IsBrief c b → IsShort c b → Fits token c b
unfolding total
success_few token (Aside status) b line brief short = absent line
success_few token (Setup request) b line brief short = absent line
success_few token (Unreadable status) b line brief short = omega arith
success_few token Logoff b line brief short = bare_few
success_few token TreeDisconnect b line brief short = bare_few
success_few token (Flush file) b line brief short = omega (arith, length_fields (flush_response_table (record {})) [])
success_few token (Lock file index slot elements) b line brief short = omega (arith, length_fields (lock_response_table (record {})) [])
success_few token (SetInfo file setting) b line brief short = omega (arith, length_fields (set_info_response_table (record {})) [])
success_few token (TreeConnect share) Empty line brief short = omega arith
success_few token (TreeConnect share) (Created reply) line brief short = omega arith
success_few token (TreeConnect share) (Closed info) line brief short = omega arith
success_few token (TreeConnect share) (Content bytes) line brief short = omega arith
success_few token (TreeConnect share) (Count count) line brief short = omega arith
success_few token (TreeConnect share) (Interfaces address) line brief short = omega arith
success_few token (TreeConnect share) (ObjectId number) line brief short = omega arith
success_few token (TreeConnect share) (Listing told entries) line brief short = omega arith
success_few token (TreeConnect share) (FileInfo told path info access options position) line brief short = omega arith
success_few token (TreeConnect share) (VolumeInfo told volume used) line brief short = omega arith
success_few token (TreeConnect share) (SetUp encrypts number) line brief short = omega arith
success_few token (TreeConnect share) (Connected kind capabilities access) line brief short = connected_few kind capabilities access
success_few token (Create request) Empty line brief short = omega arith
success_few token (Create request) (Created reply) line brief short = created_few reply
success_few token (Create request) (Closed info) line brief short = omega arith
success_few token (Create request) (Content bytes) line brief short = omega arith
success_few token (Create request) (Count count) line brief short = omega arith
success_few token (Create request) (Interfaces address) line brief short = omega arith
success_few token (Create request) (ObjectId number) line brief short = omega arith
success_few token (Create request) (Listing told entries) line brief short = omega arith
success_few token (Create request) (FileInfo told path info access options position) line brief short = omega arith
success_few token (Create request) (VolumeInfo told volume used) line brief short = omega arith
success_few token (Create request) (SetUp encrypts number) line brief short = omega arith
success_few token (Create request) (Connected kind capabilities access) line brief short = omega arith
success_few token (Close file query) Empty line brief short = closed_few untold_value
success_few token (Close file query) (Created reply) line brief short = omega arith
success_few token (Close file query) (Closed info) line brief short = closed_few (closed_value info)
success_few token (Close file query) (Content bytes) line brief short = omega arith
success_few token (Close file query) (Count count) line brief short = omega arith
success_few token (Close file query) (Interfaces address) line brief short = omega arith
success_few token (Close file query) (ObjectId number) line brief short = omega arith
success_few token (Close file query) (Listing told entries) line brief short = omega arith
success_few token (Close file query) (FileInfo told path info access options position) line brief short = omega arith
success_few token (Close file query) (VolumeInfo told volume used) line brief short = omega arith
success_few token (Close file query) (SetUp encrypts number) line brief short = omega arith
success_few token (Close file query) (Connected kind capabilities access) line brief short = omega arith
success_few token (Read file at size minimum channel) Empty line brief short = omega arith
success_few token (Read file at size minimum channel) (Created reply) line brief short = omega arith
success_few token (Read file at size minimum channel) (Closed info) line brief short = omega arith
success_few token (Read file at size minimum channel) (Content bytes) line brief short = read_few (content_value bytes) brief
success_few token (Read file at size minimum channel) (Count count) line brief short = omega arith
success_few token (Read file at size minimum channel) (Interfaces address) line brief short = omega arith
success_few token (Read file at size minimum channel) (ObjectId number) line brief short = omega arith
success_few token (Read file at size minimum channel) (Listing told entries) line brief short = omega arith
success_few token (Read file at size minimum channel) (FileInfo told path info access options position) line brief short = omega arith
success_few token (Read file at size minimum channel) (VolumeInfo told volume used) line brief short = omega arith
success_few token (Read file at size minimum channel) (SetUp encrypts number) line brief short = omega arith
success_few token (Read file at size minimum channel) (Connected kind capabilities access) line brief short = omega arith
success_few token (Write file at bytes channel) Empty line brief short = omega arith
success_few token (Write file at bytes channel) (Created reply) line brief short = omega arith
success_few token (Write file at bytes channel) (Closed info) line brief short = omega arith
success_few token (Write file at bytes channel) (Content told) line brief short = omega arith
success_few token (Write file at bytes channel) (Count count) line brief short =
    omega (arith, length_fields (write_response_table (count_value count)) [])
success_few token (Write file at bytes channel) (Interfaces address) line brief short = omega arith
success_few token (Write file at bytes channel) (ObjectId number) line brief short = omega arith
success_few token (Write file at bytes channel) (Listing told entries) line brief short = omega arith
success_few token (Write file at bytes channel) (FileInfo told path info access options position) line brief short = omega arith
success_few token (Write file at bytes channel) (VolumeInfo told volume used) line brief short = omega arith
success_few token (Write file at bytes channel) (SetUp encrypts number) line brief short = omega arith
success_few token (Write file at bytes channel) (Connected kind capabilities access) line brief short = omega arith
success_few token (Ioctl file code room) Empty line brief short = omega arith
success_few token (Ioctl file code room) (Created reply) line brief short = omega arith
success_few token (Ioctl file code room) (Closed info) line brief short = omega arith
success_few token (Ioctl file code room) (Content bytes) line brief short = omega arith
success_few token (Ioctl file code room) (Count count) line brief short = omega arith
success_few token (Ioctl file code room) (Interfaces address) line brief short = interfaces_few file code address
success_few token (Ioctl file code room) (ObjectId number) line brief short = object_id_few file code number
success_few token (Ioctl file code room) (Listing told entries) line brief short = omega arith
success_few token (Ioctl file code room) (FileInfo told path info access options position) line brief short = omega arith
success_few token (Ioctl file code room) (VolumeInfo told volume used) line brief short = omega arith
success_few token (Ioctl file code room) (SetUp encrypts number) line brief short = omega arith
success_few token (Ioctl file code room) (Connected kind capabilities access) line brief short = omega arith
success_few token (ListDirectory file class restart single pattern room) Empty line brief short = omega arith
success_few token (ListDirectory file class restart single pattern room) (Created reply) line brief short = omega arith
success_few token (ListDirectory file class restart single pattern room) (Closed info) line brief short = omega arith
success_few token (ListDirectory file class restart single pattern room) (Content bytes) line brief short = omega arith
success_few token (ListDirectory file class restart single pattern room) (Count count) line brief short = omega arith
success_few token (ListDirectory file class restart single pattern room) (Interfaces address) line brief short = omega arith
success_few token (ListDirectory file class restart single pattern room) (ObjectId number) line brief short = omega arith
success_few token (ListDirectory file class restart single pattern room) (Listing told entries) line brief short =
    directory_few (record { output = listing_bytes told entries }) short
success_few token (ListDirectory file class restart single pattern room) (FileInfo told path info access options position) line brief short =
    omega arith
success_few token (ListDirectory file class restart single pattern room) (VolumeInfo told volume used) line brief short = omega arith
success_few token (ListDirectory file class restart single pattern room) (SetUp encrypts number) line brief short = omega arith
success_few token (ListDirectory file class restart single pattern room) (Connected kind capabilities access) line brief short = omega arith
success_few token (QueryFile file class room) Empty line brief short = omega arith
success_few token (QueryFile file class room) (Created reply) line brief short = omega arith
success_few token (QueryFile file class room) (Closed info) line brief short = omega arith
success_few token (QueryFile file class room) (Content bytes) line brief short = omega arith
success_few token (QueryFile file class room) (Count count) line brief short = omega arith
success_few token (QueryFile file class room) (Interfaces address) line brief short = omega arith
success_few token (QueryFile file class room) (ObjectId number) line brief short = omega arith
success_few token (QueryFile file class room) (Listing told entries) line brief short = omega arith
success_few token (QueryFile file class room) (FileInfo told path info access options position) line brief short =
    info_few (record { output = file_bytes told path info access options position }) short
success_few token (QueryFile file class room) (VolumeInfo told volume used) line brief short = omega arith
success_few token (QueryFile file class room) (SetUp encrypts number) line brief short = omega arith
success_few token (QueryFile file class room) (Connected kind capabilities access) line brief short = omega arith
success_few token (QueryVolume file class room) Empty line brief short = omega arith
success_few token (QueryVolume file class room) (Created reply) line brief short = omega arith
success_few token (QueryVolume file class room) (Closed info) line brief short = omega arith
success_few token (QueryVolume file class room) (Content bytes) line brief short = omega arith
success_few token (QueryVolume file class room) (Count count) line brief short = omega arith
success_few token (QueryVolume file class room) (Interfaces address) line brief short = omega arith
success_few token (QueryVolume file class room) (ObjectId number) line brief short = omega arith
success_few token (QueryVolume file class room) (Listing told entries) line brief short = omega arith
success_few token (QueryVolume file class room) (FileInfo told path info access options position) line brief short = omega arith
success_few token (QueryVolume file class room) (VolumeInfo told volume used) line brief short =
    info_few (record { output = volume_bytes told volume used }) short
success_few token (QueryVolume file class room) (SetUp encrypts number) line brief short = omega arith
success_few token (QueryVolume file class room) (Connected kind capabilities access) line brief short = omega arith

-- ---- the reply

not_setup : (c : Command) → is_lines c ≡ true → is_setup c ≡ false
not_setup (Aside status) line = refl
not_setup (Setup request) line = absent line
not_setup (Unreadable status) line = refl
not_setup Logoff line = refl
not_setup TreeDisconnect line = refl
not_setup (Flush file) line = refl
not_setup (Lock file index slot elements) line = refl
not_setup (SetInfo file setting) line = refl
not_setup (TreeConnect share) line = refl
not_setup (Create request) line = refl
not_setup (Close file query) line = refl
not_setup (Read file at size minimum channel) line = refl
not_setup (Write file at bytes channel) line = refl
not_setup (Ioctl file code room) line = refl
not_setup (ListDirectory file class restart single pattern room) line = refl
not_setup (QueryFile file class room) line = refl
not_setup (QueryVolume file class room) line = refl

first_of : (a b d : Bool) → b ≡ false → (a || (b && d)) ≡ true → a ≡ true
first_of true b d off e = refl
first_of false false d off e = e
first_of false true d off e = absent (sym off)

error_few : 64 + length (error_response_spelling (record { error_context_count = 0; byte_count = 0 })) ≤ 1114060
unfolding total
error_few = omega (arith, length_fields (error_response_table (record { error_context_count = 0; byte_count = 0 })) [])

pub reply_short : (token : List ℕ) (c : Command) (r : Reply) → is_lines c ≡ true
    → (r.status ≡ success → is_simple c ≡ true → IsBodyTold c r.body) → (r.status ≡ success → IsShort c r.body)
    → 64 + length (reply_body token c r) ≤ 1114060
unfolding reply_body
reply_short token c r line tells short =
    either (λ (bs : List ℕ). 64 + length bs ≤ 1114060) (is_told c r.status) (success_body token c r.body) _
    (λ told. (let ok = settled told in success_few token c r.body line (brief_by c r.body (tells ok)) (short ok))) (λ _. error_few)
  where
    settled : is_told c r.status ≡ true → r.status ≡ success
    settled told =
        eqb-true r.status success
        (first_of (r.status == success) (is_setup c) (r.status == more_processing_required) (not_setup c line) told)
