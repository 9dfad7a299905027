use Rattle.std.proofs.Common.{◌≡◌, ℕ, ◌+◌, ◌≤◌, ◌<◌, Bool, true, false, List, ◌++◌, length, refl, ap, ◌∙◌, arith}
use Rattle.std.specs.Prelude.{◌==◌, ◌||◌, if◌then◌else◌}
use Rattle.spec_wire.specs.messages.Aligned.{told}
use Rattle.spec_wire.specs.messages.Utf16.{utf16}
use Rattle.spec_wire.specs.messages.QueryDirectory.{IsWritableQueryDirectoryRequest, QueryDirectoryRequestValue}
use Rattle.spec_wire.specs.messages.QueryDirectory.{SpellsQueryDirectoryRequest, query_directory_request_fault}
use Rattle.spec_wire.specs.messages.QueryDirectory.{query_directory_request_in}
use Rattle.spec_exchange.specs.Commands.{Command, ListDirectory, has_bit}
use Rattle.spec_commands.specs.Text.{text_in}
use Rattle.spec_commands.specs.Tables.{bit_if}
use Rattle.spec_commands.specs.BodyOf.{body_of, list_value}
use Rattle.spec_commands.specs.CommandOf.{list_in, list_of}
use Rattle.law_commands.proofs.commands.Fields.{file_again, length-file_id}
use Rattle.law_commands.proofs.commands.ReadBack.{found, read_as}
use Rattle.law_commands.proofs.commands.Paid.{told_most, paid_is}
use Rattle.law_commands.proofs.commands.Texts.{text_again}
use Rattle.law_commands.proofs.commands.parts.list_again.Goals as goal

abbrev of_value : QueryDirectoryRequestValue → Command
of_value v = list_of v (text_in v.name)

restart_again : (restart single : Bool) → (has_bit (bit_if restart 1 + bit_if single 2) 0x1 || has_bit (bit_if restart 1
    + bit_if single 2) 0x10) ≡ restart
unfolding has_bit bit_if
restart_again true true = refl
restart_again true false = refl
restart_again false true = refl
restart_again false false = refl

single_again : (restart single : Bool) → has_bit (bit_if restart 1 + bit_if single 2) 0x2 ≡ single
unfolding has_bit bit_if
single_again true true = refl
single_again true false = refl
single_again false true = refl
single_again false false = refl

flags_small : (restart single : Bool) → bit_if restart 1 + bit_if single 2 < 256
unfolding bit_if
flags_small true true = omega arith
flags_small true false = omega arith
flags_small false true = omega arith
flags_small false false = omega arith

at_most : (empty : Bool) (n : ℕ) → (if empty then 0 else n) ≤ n
at_most true n = omega arith
at_most false n = omega arith

told_small : (n : ℕ) → told n 96 ≤ 96
told_small n = at_most (n == 0) 96

pub returns : goal.returns
unfolding list_in body_of
returns c = λ paid header rest file class restart single pattern room len small low known name fits pays.
    let law = c.query_directory_request_law.ensures in
    let v : QueryDirectoryRequestValue = list_value file class restart single pattern room in
    let m : List ℕ = header ++ (body_of (ListDirectory file class restart single pattern room) ++ rest) in
    let fit : IsWritableQueryDirectoryRequest v = record {
      fits = (
        omega arith,
        (
          low,
          (
            omega (arith, flags_small restart single),
            (
              omega arith,
              (
                length-file_id file,
                (omega (arith, told_small (length (utf16 pattern))), (name.short, (fits, (refl, tt)))),
              ),
            ),
          ),
        ),
      );
      known = known;
    } in
    let is = found SpellsQueryDirectoryRequest query_directory_request_fault query_directory_request_in law.one
    law.whole law.given m v (law.again header rest v len fit) in
    let told = ap (λ (r : QueryDirectoryRequestValue). r.output_buffer_length) is.1 in
    paid_is 14 paid room m (list_in m) (ListDirectory file class restart single pattern room) (told_most m 92 room told) pays
    (read_as SpellsQueryDirectoryRequest query_directory_request_fault query_directory_request_in of_value m v is
    ∙ ap (list_of v) (text_again pattern name.utf8)
    ∙ ap (λ (o : ℕ). ListDirectory o class (has_bit v.flags 0x1 || has_bit v.flags 0x10) (has_bit v.flags 0x2) pattern
    room) (file_again file small)
    ∙ ap (λ (b : Bool). ListDirectory file class b (has_bit v.flags 0x2) pattern room) (restart_again restart single)
    ∙ ap (λ (b : Bool). ListDirectory file class restart b pattern room) (single_again restart single))
