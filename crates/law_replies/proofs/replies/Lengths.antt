-- How many bytes the bodies of successes take, and that their parts fit.
use Rattle.std.proofs.Common.{◌≡◌, ℕ, ◌+◌, ◌/◌, ◌^◌, ◌<◌, ◌≤◌, ◌==◌, min, Bool, true, false, if◌then◌else◌, List, [], ◌∷◌, ◌++◌}
use Rattle.std.proofs.Common.{length, length-append, arith, Option, Some, None, option_map}
use Rattle.spec_wire.specs.messages.Places.{le, gap_to_8}
use Rattle.spec_wire.specs.messages.Table.{Field, with_fields}
use Rattle.spec_wire.specs.messages.SessionSetup.{session_setup_response_whole}
use Rattle.spec_wire.specs.messages.Chain.{linked, chain_spelling}
use Rattle.spec_wire.specs.messages.CreateContexts.{CreateContext, context_whole, context_spelling, context_size}
use Rattle.spec_wire.specs.messages.CreateContexts.{dh2q, mxac, qfid, dh2q_reply_table}
use Rattle.spec_wire.specs.messages.CreateContexts.{maximal_access_table, disk_id_table, dh2q_told}
use Rattle.spec_wire.specs.messages.CreateContexts.{mxac_told, qfid_told, reply_contexts_spelling}
use Rattle.spec_wire.specs.declared.messages.context.Dh2qReply.{Dh2qReply}
use Rattle.spec_wire.specs.declared.messages.context.MaximalAccess.{MaximalAccess}
use Rattle.spec_wire.specs.declared.messages.context.DiskId.{DiskId}
use Rattle.spec_wire.specs.messages.Bare.{bare_table, bare_spelling}
use Rattle.spec_wire.specs.messages.TreeConnect.{tree_connect_response_table, tree_connect_response_spelling}
use Rattle.spec_wire.specs.messages.CreateResponse.{create_response_whole, create_response_spelling}
use Rattle.spec_wire.specs.messages.Close.{close_response_table, close_response_spelling}
use Rattle.spec_wire.specs.messages.Flush.{flush_response_table}
use Rattle.spec_wire.specs.messages.Read.{ReadResponseValue, read_response_whole, read_response_spelling}
use Rattle.spec_wire.specs.messages.Write.{write_response_table}
use Rattle.spec_wire.specs.messages.LockResponse.{lock_response_table}
use Rattle.spec_wire.specs.messages.Ioctl.{ioctl_response_whole, ioctl_response_spelling}
use Rattle.spec_wire.specs.messages.QueryDirectory.{QueryDirectoryResponseValue}
use Rattle.spec_wire.specs.messages.QueryDirectory.{query_directory_response_whole, query_directory_response_spelling}
use Rattle.spec_wire.specs.messages.QueryInfo.{QueryInfoResponseValue, query_info_response_whole, query_info_response_spelling}
use Rattle.spec_wire.specs.messages.SetInfo.{set_info_response_table}
use Rattle.spec_wire.specs.declared.messages.file_message.CloseResponse.{CloseResponse}
use Rattle.spec_wire.proofs.messages.Numbers.{length-le}
use Rattle.spec_wire.specs.messages.VolumeClasses.{file_fs_volume_information_spelling, file_fs_volume_information_whole}
use Rattle.spec_wire.specs.messages.VolumeClasses.{file_fs_size_information_spelling, file_fs_size_information_table}
use Rattle.spec_wire.specs.messages.VolumeClasses.{file_fs_device_information_spelling, file_fs_device_information_table}
use Rattle.spec_wire.specs.messages.VolumeClasses.{file_fs_attribute_information_spelling, file_fs_attribute_information_whole}
use Rattle.spec_wire.specs.messages.VolumeClasses.{file_fs_full_size_information_spelling, file_fs_full_size_information_table}
use Rattle.spec_wire.specs.messages.VolumeClasses.{file_fs_sector_size_information_spelling, file_fs_sector_size_information_table}
use Rattle.spec_exchange.specs.Commands.{Command, Aside, Unreadable, Setup, Logoff, TreeConnect, TreeDisconnect, Create, Close}
use Rattle.spec_exchange.specs.Commands.{Flush, Read, Write, Lock, Ioctl, ListDirectory, QueryFile, QueryVolume, SetInfo}
use Rattle.spec_exchange.specs.State.{Address, CreateReply, Body, Empty, Created, Closed, Content, Count, Interfaces, ObjectId, Listing}
use Rattle.spec_exchange.specs.State.{FileInfo, VolumeInfo, SetUp, Connected}
use Rattle.spec_commands.specs.Fits.{FitsSuccess}
use Rattle.spec_commands.specs.Ids.{file_id}
use Rattle.spec_commands.specs.Infos.{file_bytes, volume_bytes, listing_bytes, interface_bytes, object_id_bytes, volume_value, sizes_of}
use Rattle.spec_commands.specs.Infos.{full_sizes_of, file_system, sectors}
use Rattle.spec_commands.specs.ReplyBody.{success_body, created_value, closed_value, untold_value, connected_value}
use Rattle.spec_commands.specs.ReplyBody.{content_value, count_value, interfaces_value, object_id_value, seals_in}
use Rattle.spec_commands.specs.ReplyBody.{contexts_told, timeout_told, access_told, disk_id_told}
use Rattle.spec_commands.specs.Tables.{bit_if}
use Rattle.spec_commands.proofs.Lengths.{total, length_fields, interface_long, object_id_long}
use Rattle.law_commands.proofs.commands.Volumes.{ntfs_few, volume_short}
use Rattle.law_replies.specs.replies.Replies.{IsTextBody}
use Rattle.wire_commands.specs.reply_shapes.Room.{reply_room}
use Rattle.law_replies.proofs.replies.Told.{BodyIs}

file_long : (o : ℕ) → length (file_id o) ≡ 16
unfolding file_id
file_long o = omega (
  arith,
  length-append (le 8 o) (le 8 (o + o / 0x1_0000_0000_0000_0000)),
  length-le 8 o,
  length-le 8 (o + o / 0x1_0000_0000_0000_0000),
)

gap_few : (n : ℕ) → gap_to_8 n ≤ 7
gap_few n = omega arith

gap_or_none : (b : Bool) (n : ℕ) → (if b then 0 else gap_to_8 n) ≤ 7
gap_or_none true n = omega arith
gap_or_none false n = gap_few n

one_or_none : (b : Bool) → (if b then 1 else 0) ≤ 1
one_or_none true = omega arith
one_or_none false = omega arith

-- ---- the contexts of a CREATE's response

abbrev chained : List CreateContext → List ℕ
chained vs = chain_spelling context_spelling context_size vs

context_long : (v : CreateContext) (next : ℕ) → length (context_spelling v next) ≤ 23 + length v.name + length v.value
unfolding total
context_long v next =
    omega (arith, length_fields (context_whole v next) [], gap_or_none (length v.value == 0) (length v.name))

linked_long : (v : CreateContext) (vs : List CreateContext)
    → length (linked context_spelling context_size v vs) ≤ 30 + length v.name + length v.value
linked_long v [] = omega (arith, context_long v 0)
linked_long v (w ∷ ws) =
    let gap = gap_to_8 (context_size v) in
    omega (
      arith,
      length-append (context_spelling v (context_size v + gap)) (le gap 0),
      length-le gap 0,
      context_long v (context_size v + gap),
      gap_few (context_size v),
    )

chain_more : (v : CreateContext) (vs : List CreateContext)
    → length (chained (v ∷ vs)) ≤ 30 + length v.name + length v.value + length (chained vs)
chain_more v vs = omega (arith, length-append (linked context_spelling context_size v vs) (chained vs), linked_long v vs)

timeout_long : (q : Dh2qReply) → length (with_fields [] (dh2q_reply_table q)) ≡ 8
unfolding total
timeout_long q = omega (arith, length_fields (dh2q_reply_table q) [])

access_long : (a : MaximalAccess) → length (with_fields [] (maximal_access_table a)) ≡ 8
unfolding total
access_long a = omega (arith, length_fields (maximal_access_table a) [])

disk_long : (d : DiskId) → length (with_fields [] (disk_id_table d)) ≡ 32
unfolding total
disk_long d = omega (arith, length_fields (disk_id_table d) [])

disk_few : (d : Option DiskId) → length (chained (qfid_told d)) ≤ 66
disk_few None = omega arith
disk_few (Some d) =
    omega (arith, disk_long d, chain_more (record { name = qfid; value = with_fields [] (disk_id_table d) }) [])

access_few : (a : Option MaximalAccess) (d : Option DiskId) → length (chained (mxac_told a ++ qfid_told d)) ≤ 108
access_few None d = omega (arith, disk_few d)
access_few (Some a) d =
    omega (
      arith,
      access_long a,
      disk_few d,
      chain_more (record { name = mxac; value = with_fields [] (maximal_access_table a) }) (qfid_told d),
    )

contexts_few : (q : Option Dh2qReply) (a : Option MaximalAccess) (d : Option DiskId)
    → length (chained (dh2q_told q ++ (mxac_told a ++ qfid_told d))) ≤ 150
contexts_few None a d = omega (arith, access_few a d)
contexts_few (Some q) a d =
    omega (
      arith,
      timeout_long q,
      access_few a d,
      chain_more (record { name = dh2q; value = with_fields [] (dh2q_reply_table q) }) (mxac_told a ++ qfid_told d),
    )

told_few : (r : CreateReply) → length (reply_contexts_spelling (contexts_told r)) ≤ 150
told_few r = contexts_few (option_map timeout_told r.timeout) (access_told r.maximal) (disk_id_told r.disk_id r.info.file)

created_few : (r : CreateReply) → length (create_response_spelling (created_value r)) ≤ 512
unfolding total
created_few r =
    omega (arith, length_fields (create_response_whole (created_value r)) [], file_long r.id, told_few r)

-- ---- the others

bare_few : length bare_spelling ≤ 512
unfolding total
bare_few = omega (arith, length_fields bare_table [])

closed_few : (v : CloseResponse) → length (close_response_spelling v) ≤ 512
unfolding total
closed_few v = omega (arith, length_fields (close_response_table v) [])

connected_few : (kind capabilities access : ℕ)
    → length (tree_connect_response_spelling (connected_value kind capabilities access)) ≤ 512
unfolding total
connected_few kind capabilities access =
    omega (arith, length_fields (tree_connect_response_table (connected_value kind capabilities access)) [])

read_few : (v : ReadResponseValue) (size : ℕ) → length v.payload ≤ size → length (read_response_spelling v) ≤ 512 + size
unfolding total
read_few v size few = omega (arith, few, length_fields (read_response_whole v) [], one_or_none (length v.payload == 0))

directory_few : (v : QueryDirectoryResponseValue) (room : ℕ) → length v.output ≤ room + 7
    → length (query_directory_response_spelling v) ≤ 512 + room
unfolding total
directory_few v room few = omega (arith, few, length_fields (query_directory_response_whole v) [])

info_few : (v : QueryInfoResponseValue) (room : ℕ) → length v.output ≤ room + 100 → length (query_info_response_spelling v) ≤ 512 + room
unfolding total
info_few v room few = omega (arith, few, length_fields (query_info_response_whole v) [])

interfaces_few : (file code : ℕ) (address : Address) → length (ioctl_response_spelling (interfaces_value file code address)) ≤ 512
unfolding total
interfaces_few file code address =
    omega (
      arith,
      file_long file,
      interface_long address,
      length_fields (ioctl_response_whole (interfaces_value file code address)) [],
      gap_or_none (length (interface_bytes address) == 0) 0,
    )

object_id_few : (file code number : ℕ) → length (ioctl_response_spelling (object_id_value file code number)) ≤ 512
unfolding total
object_id_few file code number =
    omega (
      arith,
      file_long file,
      object_id_long number,
      length_fields (ioctl_response_whole (object_id_value file code number)) [],
      gap_or_none (length (object_id_bytes number) == 0) 0,
    )

few : (fs : List Field) → total fs ≤ 100 → length (with_fields [] fs) ≤ 100
few fs short = omega (arith, short, length_fields fs [])

volume_by : (room used : ℕ) (a b c d e : Bool) → length (if a then file_fs_volume_information_spelling volume_value
    else if b then file_fs_size_information_spelling (sizes_of room used)
    else if c then file_fs_device_information_spelling (record { device_type = 7; characteristics = 0x20 })
    else if d then file_fs_attribute_information_spelling file_system
    else if e then file_fs_sector_size_information_spelling sectors
    else file_fs_full_size_information_spelling (full_sizes_of room used)) ≤ 100
unfolding total
volume_by room used true b c d e = few (file_fs_volume_information_whole volume_value) (omega arith)
volume_by room used false true c d e = few (file_fs_size_information_table (sizes_of room used)) (omega arith)
volume_by room used false false true d e = few (file_fs_device_information_table (record {
  device_type = 7;
  characteristics = 0x20;
})) (omega arith)
volume_by room used false false false true e = few (file_fs_attribute_information_whole file_system) (omega (arith, ntfs_few))
volume_by room used false false false false true = few (file_fs_sector_size_information_table sectors) (omega arith)
volume_by room used false false false false false = few (file_fs_full_size_information_table (full_sizes_of room used)) (omega arith)

volume_few : (class room used : ℕ) → length (volume_bytes class room used) ≤ 0 + 100
unfolding volume_bytes
volume_few class room used = volume_by room used (class == 1) (class == 3) (class == 4) (class == 5) (class == 11)

setup_few : (flags : ℕ) (token : List ℕ) → length token < 2 ^ 16
    → length (with_fields [] (session_setup_response_whole (record { session_flags = flags; security = token }))) ≤ 66048
unfolding total
setup_few flags token short =
    omega (arith, short, length_fields (session_setup_response_whole (record { session_flags = flags; security = token })) [])

-- ---- what fits is short

below_32 : (n size : ℕ) → n ≤ min size 1048576 + 8 → n < 2 ^ 32
below_32 n size l = omega (arith, l)

more_8 : (n size : ℕ) → n ≤ min size 1048576 → n ≤ min size 1048576 + 8
more_8 n size l = omega (arith, l)

from_7 : (n size : ℕ) → n ≤ min size 1048576 + 7 → n ≤ min size 1048576 + 8
from_7 n size l = omega (arith, l)

more_100 : (n size : ℕ) → n ≤ min size 1048576 + 8 → n ≤ min size 1048576 + 100
more_100 n size l = omega (arith, l)

abbrev pub Fits : List ℕ → Command → Body → Type 0
Fits token c b = FitsSuccess token c b × (length (success_body token c b) ≤ reply_room c)

pub success_fits : (token : List ℕ) (c : Command) (b : Body) → length token < 2 ^ 16 → IsTextBody b → BodyIs c b → Fits token c b
unfolding total
success_fits token (Aside status) b short text is = (tt, bare_few)
success_fits token (Unreadable status) b short text is = (tt, omega arith)
success_fits token Logoff b short text is = (tt, bare_few)
success_fits token TreeDisconnect b short text is = (tt, bare_few)
success_fits token (Flush file) b short text is =
    (tt, omega (arith, length_fields (flush_response_table (record {})) []))
success_fits token (Lock file index slot elements) b short text is =
    (tt, omega (arith, length_fields (lock_response_table (record {})) []))
success_fits token (SetInfo file setting) b short text is =
    (tt, omega (arith, length_fields (set_info_response_table (record {})) []))
success_fits token (Setup request) b short text is = (short, setup_few (bit_if (seals_in b) 4) token short)
success_fits token (TreeConnect share) Empty short text is = (tt, omega arith)
success_fits token (TreeConnect share) (Created reply) short text is = (tt, omega arith)
success_fits token (TreeConnect share) (Closed info) short text is = (tt, omega arith)
success_fits token (TreeConnect share) (Content told) short text is = (tt, omega arith)
success_fits token (TreeConnect share) (Count count) short text is = (tt, omega arith)
success_fits token (TreeConnect share) (Interfaces address) short text is = (tt, omega arith)
success_fits token (TreeConnect share) (ObjectId number) short text is = (tt, omega arith)
success_fits token (TreeConnect share) (Listing told entries) short text is = (tt, omega arith)
success_fits token (TreeConnect share) (FileInfo told path info access options position) short text is = (tt, omega arith)
success_fits token (TreeConnect share) (VolumeInfo told size used) short text is = (tt, omega arith)
success_fits token (TreeConnect share) (SetUp sealed number) short text is = (tt, omega arith)
success_fits token (TreeConnect share) (Connected kind capabilities access) short text is =
    (tt, connected_few kind capabilities access)
success_fits token (Create request) Empty short text is = (tt, omega arith)
success_fits token (Create request) (Created reply) short text is = (tt, created_few reply)
success_fits token (Create request) (Closed info) short text is = (tt, omega arith)
success_fits token (Create request) (Content told) short text is = (tt, omega arith)
success_fits token (Create request) (Count count) short text is = (tt, omega arith)
success_fits token (Create request) (Interfaces address) short text is = (tt, omega arith)
success_fits token (Create request) (ObjectId number) short text is = (tt, omega arith)
success_fits token (Create request) (Listing told entries) short text is = (tt, omega arith)
success_fits token (Create request) (FileInfo told path info access options position) short text is = (tt, omega arith)
success_fits token (Create request) (VolumeInfo told size used) short text is = (tt, omega arith)
success_fits token (Create request) (SetUp sealed number) short text is = (tt, omega arith)
success_fits token (Create request) (Connected kind capabilities access) short text is = (tt, omega arith)
success_fits token (Close file query) Empty short text is = (tt, closed_few untold_value)
success_fits token (Close file query) (Created reply) short text is = (tt, omega arith)
success_fits token (Close file query) (Closed info) short text is = (tt, closed_few (closed_value info))
success_fits token (Close file query) (Content told) short text is = (tt, omega arith)
success_fits token (Close file query) (Count count) short text is = (tt, omega arith)
success_fits token (Close file query) (Interfaces address) short text is = (tt, omega arith)
success_fits token (Close file query) (ObjectId number) short text is = (tt, omega arith)
success_fits token (Close file query) (Listing told entries) short text is = (tt, omega arith)
success_fits token (Close file query) (FileInfo told path info access options position) short text is = (tt, omega arith)
success_fits token (Close file query) (VolumeInfo told size used) short text is = (tt, omega arith)
success_fits token (Close file query) (SetUp sealed number) short text is = (tt, omega arith)
success_fits token (Close file query) (Connected kind capabilities access) short text is = (tt, omega arith)
success_fits token (Read file at many minimum channel) Empty short text is = (tt, omega arith)
success_fits token (Read file at many minimum channel) (Created reply) short text is = (tt, omega arith)
success_fits token (Read file at many minimum channel) (Closed info) short text is = (tt, omega arith)
success_fits token (Read file at many minimum channel) (Content told) short text is =
    (below_32 (length told) many (more_8 (length told) many is), read_few (content_value told) (min many 1048576) is)
success_fits token (Read file at many minimum channel) (Count count) short text is = (tt, omega arith)
success_fits token (Read file at many minimum channel) (Interfaces address) short text is = (tt, omega arith)
success_fits token (Read file at many minimum channel) (ObjectId number) short text is = (tt, omega arith)
success_fits token (Read file at many minimum channel) (Listing told entries) short text is = (tt, omega arith)
success_fits token (Read file at many minimum channel) (FileInfo told path info access options position) short text is =
    (tt, omega arith)
success_fits token (Read file at many minimum channel) (VolumeInfo told size used) short text is = (tt, omega arith)
success_fits token (Read file at many minimum channel) (SetUp sealed number) short text is = (tt, omega arith)
success_fits token (Read file at many minimum channel) (Connected kind capabilities access) short text is =
    (tt, omega arith)
success_fits token (Write file at bytes channel) Empty short text is = (tt, omega arith)
success_fits token (Write file at bytes channel) (Created reply) short text is = (tt, omega arith)
success_fits token (Write file at bytes channel) (Closed info) short text is = (tt, omega arith)
success_fits token (Write file at bytes channel) (Content told) short text is = (tt, omega arith)
success_fits token (Write file at bytes channel) (Count count) short text is =
    (tt, omega (arith, length_fields (write_response_table (count_value count)) []))
success_fits token (Write file at bytes channel) (Interfaces address) short text is = (tt, omega arith)
success_fits token (Write file at bytes channel) (ObjectId number) short text is = (tt, omega arith)
success_fits token (Write file at bytes channel) (Listing told entries) short text is = (tt, omega arith)
success_fits token (Write file at bytes channel) (FileInfo told path info access options position) short text is =
    (tt, omega arith)
success_fits token (Write file at bytes channel) (VolumeInfo told size used) short text is = (tt, omega arith)
success_fits token (Write file at bytes channel) (SetUp sealed number) short text is = (tt, omega arith)
success_fits token (Write file at bytes channel) (Connected kind capabilities access) short text is = (tt, omega arith)
success_fits token (Ioctl file code room) Empty short text is = (tt, omega arith)
success_fits token (Ioctl file code room) (Created reply) short text is = (tt, omega arith)
success_fits token (Ioctl file code room) (Closed info) short text is = (tt, omega arith)
success_fits token (Ioctl file code room) (Content told) short text is = (tt, omega arith)
success_fits token (Ioctl file code room) (Count count) short text is = (tt, omega arith)
success_fits token (Ioctl file code room) (Interfaces address) short text is = (tt, interfaces_few file code address)
success_fits token (Ioctl file code room) (ObjectId number) short text is = (tt, object_id_few file code number)
success_fits token (Ioctl file code room) (Listing told entries) short text is = (tt, omega arith)
success_fits token (Ioctl file code room) (FileInfo told path info access options position) short text is = (tt, omega arith)
success_fits token (Ioctl file code room) (VolumeInfo told size used) short text is = (tt, omega arith)
success_fits token (Ioctl file code room) (SetUp sealed number) short text is = (tt, omega arith)
success_fits token (Ioctl file code room) (Connected kind capabilities access) short text is = (tt, omega arith)
success_fits token (ListDirectory file class restart single pattern room) Empty short text is = (tt, omega arith)
success_fits token (ListDirectory file class restart single pattern room) (Created reply) short text is =
    (tt, omega arith)
success_fits token (ListDirectory file class restart single pattern room) (Closed info) short text is =
    (tt, omega arith)
success_fits token (ListDirectory file class restart single pattern room) (Content told) short text is =
    (tt, omega arith)
success_fits token (ListDirectory file class restart single pattern room) (Count count) short text is =
    (tt, omega arith)
success_fits token (ListDirectory file class restart single pattern room) (Interfaces address) short text is =
    (tt, omega arith)
success_fits token (ListDirectory file class restart single pattern room) (ObjectId number) short text is =
    (tt, omega arith)
success_fits token (ListDirectory file class restart single pattern room) (Listing told entries) short text is = (
  (
    is.0,
    below_32 (length (listing_bytes told entries)) room (from_7 (length (listing_bytes told entries)) room
        is.1),
  ),
  directory_few (record { output = listing_bytes told entries }) (min room 1048576) is.1,
)
success_fits token (ListDirectory file class restart single pattern room) (FileInfo told path info access options position) short text is =
    (tt, omega arith)
success_fits token (ListDirectory file class restart single pattern room) (VolumeInfo told size used) short text is =
    (tt, omega arith)
success_fits token (ListDirectory file class restart single pattern room) (SetUp sealed number) short text is =
    (tt, omega arith)
success_fits token (ListDirectory file class restart single pattern room) (Connected kind capabilities access) short text is =
    (tt, omega arith)
success_fits token (QueryFile file class room) Empty short text is = (tt, omega arith)
success_fits token (QueryFile file class room) (Created reply) short text is = (tt, omega arith)
success_fits token (QueryFile file class room) (Closed info) short text is = (tt, omega arith)
success_fits token (QueryFile file class room) (Content told) short text is = (tt, omega arith)
success_fits token (QueryFile file class room) (Count count) short text is = (tt, omega arith)
success_fits token (QueryFile file class room) (Interfaces address) short text is = (tt, omega arith)
success_fits token (QueryFile file class room) (ObjectId number) short text is = (tt, omega arith)
success_fits token (QueryFile file class room) (Listing told entries) short text is = (tt, omega arith)
success_fits token (QueryFile file class room) (FileInfo told path info access options position) short text is = (
  below_32 (length (file_bytes told path info access options position)) room (is text),
  info_few (record {
    output = file_bytes told path info access options position;
  }) (min room 1048576)
      (more_100 (length (file_bytes told path info access options position)) room (is text)),
)
success_fits token (QueryFile file class room) (VolumeInfo told size used) short text is = (tt, omega arith)
success_fits token (QueryFile file class room) (SetUp sealed number) short text is = (tt, omega arith)
success_fits token (QueryFile file class room) (Connected kind capabilities access) short text is = (tt, omega arith)
success_fits token (QueryVolume file class room) Empty short text is = (tt, omega arith)
success_fits token (QueryVolume file class room) (Created reply) short text is = (tt, omega arith)
success_fits token (QueryVolume file class room) (Closed info) short text is = (tt, omega arith)
success_fits token (QueryVolume file class room) (Content told) short text is = (tt, omega arith)
success_fits token (QueryVolume file class room) (Count count) short text is = (tt, omega arith)
success_fits token (QueryVolume file class room) (Interfaces address) short text is = (tt, omega arith)
success_fits token (QueryVolume file class room) (ObjectId number) short text is = (tt, omega arith)
success_fits token (QueryVolume file class room) (Listing told entries) short text is = (tt, omega arith)
success_fits token (QueryVolume file class room) (FileInfo told path info access options position) short text is =
    (tt, omega arith)
success_fits token (QueryVolume file class room) (VolumeInfo told size used) short text is =
    (volume_short told size used, info_few (record { output = volume_bytes told size used }) 0 (volume_few told size used))
success_fits token (QueryVolume file class room) (SetUp sealed number) short text is = (tt, omega arith)
success_fits token (QueryVolume file class room) (Connected kind capabilities access) short text is = (tt, omega arith)
