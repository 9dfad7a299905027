use Rattle.std.proofs.Common.{◌≡◌, ℕ, Bool, List, ◌++◌, refl, ap, ◌∙◌, arith}
use Rattle.std.specs.Prelude.{if◌then◌else◌}
use Rattle.spec_wire.specs.messages.Places.{number}
use Rattle.spec_wire.specs.messages.QueryInfo.{IsWritableQueryInfoRequest, QueryInfoRequestValue, SpellsQueryInfoRequest}
use Rattle.spec_wire.specs.messages.QueryInfo.{query_info_request_fault, query_info_request_in}
use Rattle.spec_exchange.specs.Status.{not_supported}
use Rattle.spec_exchange.specs.Commands.{QueryFile, Unreadable}
use Rattle.spec_commands.specs.Ids.{file_of}
use Rattle.spec_commands.specs.Charges.{told_at}
use Rattle.spec_commands.specs.BodyOf.{body_of, query_value}
use Rattle.spec_commands.specs.CommandOf.{query_in, query_of}
use Rattle.law_commands.proofs.commands.Fields.{file_again, length-file_id}
use Rattle.law_commands.proofs.commands.ReadBack.{found, read_as}
use Rattle.law_commands.proofs.commands.Paid.{told_most, larger_most, paid_is}
use Rattle.law_commands.proofs.commands.parts.query_again.Goals as goal

pub returns : goal.returns
unfolding query_in body_of
returns c = λ paid header rest file class room len small low known other fits pays.
    let law = c.query_info_request_law.ensures in
    let v : QueryInfoRequestValue = query_value file class room in
    let m : List ℕ = header ++ (body_of (QueryFile file class room) ++ rest) in
    let fit : IsWritableQueryInfoRequest v = record {
      fits = (
        omega arith,
        (
          omega arith,
          (
            low,
            (
              fits,
              (
                omega arith,
                (
                  omega arith,
                  (
                    omega arith,
                    (
                      omega arith,
                      (length-file_id file, (refl, tt)),
                    ),
                  ),
                ),
              ),
            ),
          ),
        ),
      );
      known = known;
    } in
    let spells : SpellsQueryInfoRequest m v = law.again header rest v len fit in
    let is = found SpellsQueryInfoRequest query_info_request_fault query_info_request_in law.one law.whole law.given m v spells in
    let asks : number 4 m 68 ≡ room = spells.fixed.1.1.1.0 in
    let carries : number 4 m 76 ≡ 0 = spells.fixed.1.1.1.1.1.0 in
    let few = larger_most (told_at m 76) (told_at m 68) room (omega (arith, told_most m 76 0 carries)) (told_most m 68 room asks) in
    paid_is 16 paid room m (query_in m) (QueryFile file class room) few pays
    (read_as SpellsQueryInfoRequest query_info_request_fault query_info_request_in query_of m v is
    ∙ ap (λ (b : Bool). if b then Unreadable not_supported else QueryFile (file_of v.file_id) class room) other
    ∙ ap (λ (o : ℕ). QueryFile o class room) (file_again file small))
