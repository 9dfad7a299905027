use Rattle.std.proofs.Common.{ℕ, ◌^◌, ◌<◌, Bool, true, false, List, [], ◌++◌, length, Option, Some, refl, ◌∙◌, arith}
use Rattle.spec_wire.specs.messages.QueryInfo.{QueryInfoResponseValue, SpellsQueryInfoResponse, query_info_response_fault}
use Rattle.spec_wire.specs.messages.QueryInfo.{query_info_response_in, query_info_response_spelling}
use Rattle.spec_wire.specs.messages.FileClasses.{SpellsFileStandardInformation, file_standard_information_fault}
use Rattle.spec_wire.specs.messages.FileClasses.{file_standard_information_in, IsWritableFileStandardInformation}
use Rattle.spec_wire.specs.messages.FileClasses.{file_standard_information_spelling, file_standard_information_table}
use Rattle.spec_wire.specs.declared.messages.class.FileStandardInformation.{FileStandardInformation}
use Rattle.law_wire.proofs.messages.Rows.{length-with_fields, size_of}
use Rattle.spec_exchange.specs.State.{Body, FileInfo, Info}
use Rattle.spec_commands.specs.Infos.{file_bytes, standard_of}
use Rattle.spec_commands.specs.Tables.{bit_if}
use Rattle.spec_commands.specs.ReplyOf.{body_in, file_in, of_length}
use Rattle.law_commands.specs.commands.Fitting.{IsInfo}
use Rattle.law_commands.proofs.commands.ReadBack.{found}
use Rattle.law_commands.proofs.commands.HeardBack.{heard_as}
use Rattle.law_commands.proofs.commands.Settings.{alone}
use Rattle.law_commands.proofs.commands.Infos.{allocation_small}
use Rattle.law_commands.proofs.commands.reply.stat_reply.Goals as goal

abbrev told_in : QueryInfoResponseValue → Option Body
told_in v = file_in 5 v.output

abbrev length_of : FileStandardInformation → Option Body
length_of v = Some (FileInfo 5 [] (of_length v.end_of_file) 0 0 0)

bit_small : (b : Bool) → bit_if b 1 < 256 ^ 1
unfolding bit_if
bit_small true = omega arith
bit_small false = omega arith

fits : (i : Info) → IsInfo i → IsWritableFileStandardInformation (standard_of i)
fits i is = let size : i.size < 256 ^ 8 = omega (arith, is.size) in (
  allocation_small i.size is.size,
  (
    size,
    (
      omega
          arith,
      (bit_small i.is_delete_pending, (bit_small i.is_directory, tt)),
    ),
  ),
)

few : (i : Info) → IsInfo i → length (file_standard_information_spelling (standard_of i)) < 256 ^ 4
unfolding size_of
few i is = omega (arith, length-with_fields (file_standard_information_table (standard_of i)) [] (fits i is))

pub returns : goal.returns
unfolding body_in file_bytes file_in
returns c = λ header rest token file room path info access options position len is.
    let law = c.query_info_response_law.ensures in
    let told = c.file_standard_information_law.ensures in
    let v : QueryInfoResponseValue = record { output = file_standard_information_spelling (standard_of info) } in
    let m : List ℕ = header ++ (query_info_response_spelling v ++ rest) in
    let row = found SpellsQueryInfoResponse query_info_response_fault query_info_response_in law.one law.whole law.given
    m v (law.again header rest v len (omega arith, (omega arith, (few info is, (refl, tt))))) in
    let inner = alone SpellsFileStandardInformation file_standard_information_fault file_standard_information_in
    IsWritableFileStandardInformation file_standard_information_spelling told.one told.whole told.given told.again
    (standard_of info) (fits info is) in
    heard_as query_info_response_fault query_info_response_in told_in m v row
    ∙ heard_as file_standard_information_fault file_standard_information_in length_of
    (file_standard_information_spelling (standard_of info)) (standard_of info) inner
