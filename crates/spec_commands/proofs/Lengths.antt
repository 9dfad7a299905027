-- How many bytes written parts take.
use Rattle.std.proofs.Common.{◌≡◌, ℕ, ◌+◌, Bool, true, false, List, [], ◌∷◌, ◌++◌, length, refl, ◌∙◌, arith, length-append}
use Rattle.std.specs.Prelude.{◌==◌, if◌then◌else◌}
use Rattle.std.specs.Str.{chars}
use Rattle.spec_wire.specs.messages.Places.{le}
use Rattle.spec_wire.proofs.messages.Numbers.{length-le}
use Rattle.spec_wire.specs.messages.Table.{Field, Num, Raw, Any, with_fields}
use Rattle.spec_wire.specs.messages.Interfaces.{network_interface_table}
use Rattle.spec_wire.specs.messages.ObjectIds.{object_id_buffer_table}
use Rattle.spec_wire.specs.messages.Utf16.{utf16}
use Rattle.spec_wire.specs.messages.FileClasses.{file_ea_information_spelling, file_ea_information_table}
use Rattle.spec_wire.specs.messages.FileClasses.{file_access_information_spelling, file_access_information_table}
use Rattle.spec_wire.specs.messages.FileClasses.{file_mode_information_spelling, file_mode_information_table}
use Rattle.spec_wire.specs.messages.FileClasses.{file_alignment_information_spelling, file_alignment_information_table}
use Rattle.spec_wire.specs.messages.FileClasses.{file_stream_information_spelling, file_stream_information_whole}
use Rattle.spec_exchange.specs.State.{Address, Info}
use Rattle.spec_exchange.specs.Listing.{streams_size}
use Rattle.spec_commands.specs.Ids.{object_id}
use Rattle.spec_commands.specs.Infos.{interface_bytes, interface_of, object_id_bytes, object_id_of, short_bytes, streams_of, stream_of}

-- how many bytes fields take
unfoldable pub total : List Field → ℕ
total [] = 0
total (Num w n ∷ fs) = w + total fs
total (Raw w b ∷ fs) = length b + total fs
total (Any w ∷ fs) = w + total fs

pub length_fields : (fs : List Field) (out : List ℕ) → length (with_fields out fs) ≡ length out + total fs
unfolding total
length_fields [] out = omega arith
length_fields (Num w n ∷ fs) out = length_fields fs (out ++ le w n) ∙ omega (arith, length-append out (le w n), length-le w n)
length_fields (Raw w b ∷ fs) out = length_fields fs (out ++ b) ∙ omega (arith, length-append out b)
length_fields (Any w ∷ fs) out = length_fields fs (out ++ le w 0) ∙ omega (arith, length-append out (le w 0), length-le w 0)

-- an interface
pub interface_long : (a : Address) → length (interface_bytes a) ≡ 152
unfolding interface_bytes total
interface_long a = length_fields (network_interface_table (interface_of a)) []

-- an object id
pub object_id_long : (file : ℕ) → length (object_id_bytes file) ≡ 64
unfolding object_id_bytes object_id total
object_id_long file =
    omega (
      arith,
      length_fields (object_id_buffer_table (object_id_of file)) [],
      length-append (le 8 file) (le 8 1),
      length-le 8 file,
      length-le 8 1,
      length-le 16 0,
    )

-- the classes of four bytes
short_by : (a b c : Bool) (access : ℕ) → length (if a then file_ea_information_spelling (record { ea_size = 0 })
    else if b then file_access_information_spelling (record { access_flags = access })
    else if c then file_mode_information_spelling (record { mode = 0 })
    else file_alignment_information_spelling (record { alignment_requirement = 0 })) ≡ 4
unfolding total
short_by true b c access = length_fields (file_ea_information_table (record { ea_size = 0 })) []
short_by false true c access = length_fields (file_access_information_table (record { access_flags = access })) []
short_by false false true access = length_fields (file_mode_information_table (record { mode = 0 })) []
short_by false false false access = length_fields (file_alignment_information_table (record { alignment_requirement = 0 })) []

pub short_long : (class access : ℕ) → length (short_bytes class access) ≡ 4
unfolding short_bytes
short_long class access = short_by (class == 7) (class == 8) (class == 16) access

-- the streams of a file or directory
pub data_long : length (utf16 (58 ∷ 58 ∷ 36 ∷ 68 ∷ 65 ∷ 84 ∷ 65 ∷ [])) ≡ 14
unfolding utf16 le chars
data_long = refl

streams_by : (directory : Bool) (i : Info)
    → length (if directory then [] else file_stream_information_spelling (stream_of i)) ≡ streams_size directory
unfolding streams_size total
streams_by true i = refl
streams_by false i = omega (arith, length_fields (file_stream_information_whole (stream_of i)) [], data_long)

pub streams_long : (i : Info) → length (streams_of i) ≡ streams_size i.is_directory
streams_long i = streams_by i.is_directory i
