use Rattle.spec_wire.specs.messages.Places.{gap_to_8}
use Rattle.std.specs.Prelude.{◌==◌, if◌then◌else◌}
use Rattle.std.proofs.Common.{ℕ, ◌+◌, ◌^◌, ◌<◌, Bool, true, false, List, ◌++◌, length, Some, refl, ap, arith}
use Rattle.spec_wire.specs.messages.QueryInfo.{QueryInfoResponseValue, SpellsQueryInfoResponse, query_info_response_fault}
use Rattle.spec_wire.specs.messages.QueryInfo.{query_info_response_in, query_info_response_spelling}
use Rattle.spec_wire.specs.messages.Ioctl.{IoctlResponseValue, SpellsIoctlResponse, ioctl_response_fault}
use Rattle.spec_wire.specs.messages.Ioctl.{ioctl_response_in, ioctl_response_spelling}
use Rattle.spec_wire.specs.messages.Close.{close_response_fault, close_response_spelling}
use Rattle.spec_wire.specs.declared.messages.file_message.CloseResponse.{CloseResponse}
use Rattle.spec_exchange.specs.State.{Empty}
use Rattle.spec_commands.specs.Infos.{volume_bytes, file_bytes, interface_bytes, object_id_bytes}
use Rattle.spec_commands.specs.ReplyBody.{interfaces_value, object_id_value, closed_value}
use Rattle.spec_commands.specs.ReplyOf.{body_in}
use Rattle.spec_commands.proofs.Lengths.{interface_long, object_id_long}
use Rattle.law_commands.proofs.commands.Volumes.{volume_short}
use Rattle.law_commands.proofs.commands.Fields.{length-file_id}
use Rattle.law_commands.proofs.commands.Infos.{allocation_small, attributes_small}
use Rattle.law_commands.proofs.commands.ReadBack.{found}
use Rattle.law_commands.proofs.commands.HeardBack.{unbroken}
use Rattle.law_commands.proofs.commands.told.output_law.Goals as goal

-- where the output of an IOCTL is written
place_small : (empty : Bool) → (if empty then 0 else 112 + (if empty then 0 else gap_to_8 0)) < 256 ^ 4
place_small true = omega arith
place_small false = omega arith

pub returns-clause-volume : goal.returns-clause-volume
returns-clause-volume c = λ header rest token file class room told size used len.
    let law = c.query_info_response_law.ensures in
    let v : QueryInfoResponseValue = record { output = volume_bytes told size used } in
    let m : List ℕ = header ++ (query_info_response_spelling v ++ rest) in
    let is = found SpellsQueryInfoResponse query_info_response_fault query_info_response_in law.one law.whole law.given
    m v (law.again header rest v len (omega arith, (omega arith, (omega (arith, volume_short told size used), (refl, tt))))) in
    (is.0, ap (λ (v : QueryInfoResponseValue). v.output) is.1)

pub returns-clause-file : goal.returns-clause-file
returns-clause-file c = λ header rest token file class room told path info access options position len few.
    let law = c.query_info_response_law.ensures in
    let v : QueryInfoResponseValue = record { output = file_bytes told path info access options position } in
    let m : List ℕ = header ++ (query_info_response_spelling v ++ rest) in
    let is = found SpellsQueryInfoResponse query_info_response_fault query_info_response_in law.one law.whole law.given
    m v (law.again header rest v len (omega arith, (omega arith, (few, (refl, tt))))) in
    (is.0, ap (λ (v : QueryInfoResponseValue). v.output) is.1)

pub returns-clause-ioctl : goal.returns-clause-ioctl
returns-clause-ioctl c = λ header rest token file code room address len fits.
    let law = c.ioctl_response_law.ensures in
    let v : IoctlResponseValue = interfaces_value file code address in
    let m : List ℕ = header ++ (ioctl_response_spelling v ++ rest) in
    found SpellsIoctlResponse ioctl_response_fault ioctl_response_in law.one law.whole law.given m v
    (law.again header rest v len (
      omega arith,
      (
        fits,
        (
          length-file_id file,
          (
            omega arith,
            (
              omega arith,
              (
                place_small (length (interface_bytes address) == 0),
                (omega (arith, interface_long address), (omega arith, (refl, (refl, tt)))),
              ),
            ),
          ),
        ),
      ),
    ))

pub returns-clause-object_id : goal.returns-clause-object_id
returns-clause-object_id c = λ header rest token file code room number len fits.
    let law = c.ioctl_response_law.ensures in
    let v : IoctlResponseValue = object_id_value file code number in
    let m : List ℕ = header ++ (ioctl_response_spelling v ++ rest) in
    found SpellsIoctlResponse ioctl_response_fault ioctl_response_in law.one law.whole law.given m v
    (law.again header rest v len (
      omega arith,
      (
        fits,
        (
          length-file_id file,
          (
            omega arith,
            (
              omega arith,
              (
                place_small (length (object_id_bytes number) == 0),
                (omega (arith, object_id_long number), (omega arith, (refl, (refl, tt)))),
              ),
            ),
          ),
        ),
      ),
    ))

pub returns-clause-close : goal.returns-clause-close
unfolding body_in
returns-clause-close c = λ header rest token file query info len is.
    let law = c.close_response_law.ensures in
    let v : CloseResponse = closed_value info in
    let m : List ℕ = header ++ (close_response_spelling v ++ rest) in
    let size : info.size < 256 ^ 8 = omega (arith, is.size) in
    unbroken (close_response_fault m) (Some Empty) (law.whole m v (law.again header rest v len (
      omega arith,
      (
        omega arith,
        (
          is.times.created,
          (
            is.times.accessed,
            (
              is.times.written,
              (
                is.times.changed,
                (
                  allocation_small info.size is.size,
                  (size, (attributes_small info is.times.attributes, tt)),
                ),
              ),
            ),
          ),
        ),
      ),
    )))
