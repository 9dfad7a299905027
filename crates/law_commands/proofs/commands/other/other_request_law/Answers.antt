use Rattle.std.proofs.Common.{◌≡◌, ℕ, ◌+◌, ◌≤◌, Bool, List, length, ◌++◌, Option, Some, None, ap, ◌∙◌, arith}
use Rattle.std.specs.Prelude.{◌==◌, ◌||◌, max, if◌then◌else◌}
use Rattle.spec_wire.specs.declared.messages.header.Header.{Header}
use Rattle.spec_wire.specs.messages.Places.{number}
use Rattle.spec_wire.specs.messages.Ioctl.{IoctlRequestValue, SpellsIoctlRequest, ioctl_request_fault, ioctl_request_in}
use Rattle.spec_wire.specs.messages.Ioctl.{ioctl_request_spelling}
use Rattle.spec_wire.specs.messages.QueryInfo.{QueryInfoRequestValue, SpellsQueryInfoRequest, query_info_request_fault}
use Rattle.spec_wire.specs.messages.QueryInfo.{query_info_request_in, query_info_request_spelling}
use Rattle.spec_exchange.specs.Status.{not_supported, invalid_parameter}
use Rattle.spec_exchange.specs.Commands.{Command, Ioctl, QueryFile, QueryVolume, Unreadable}
use Rattle.spec_commands.specs.Ids.{file_of}
use Rattle.spec_commands.specs.Charges.{told_at, payload}
use Rattle.spec_commands.specs.CommandOf.{Told, command_of, ioctl_in, query_in, query_of, named_command}
use Rattle.law_commands.proofs.commands.ReadBack.{found, read_as}
use Rattle.law_commands.proofs.commands.Paid.{told_most, paid_is}
use Rattle.law_commands.proofs.commands.other.other_request_law.Goals as goal

-- by the number of the header
abbrev by_number : ℕ → Told → Header → List ℕ → Option Command
by_number n t h m = if n == 12 then None else Some (named_command n t h m)

abbrev ioctl_of : IoctlRequestValue → Command
ioctl_of v = Ioctl (file_of v.file_id) v.ctl_code v.max_output_response

larger_both : (a b w y : ℕ) → a ≤ w → b ≤ y → max a b ≤ max w y
larger_both a b w y e f = omega (arith, e, f)

sums : (a b w x : ℕ) → a ≤ w → b ≤ x → a + b ≤ w + x
sums a b w x e f = omega (arith, e, f)

query_most : (m : List ℕ) (v : QueryInfoRequestValue) → SpellsQueryInfoRequest m v
    → payload 16 m ≤ max (length v.input) v.output_buffer_length
query_most m v s =
    let asks : number 4 m 68 ≡ v.output_buffer_length = s.fixed.1.1.1.0 in
    let carries : number 4 m 76 ≡ length v.input = s.fixed.1.1.1.1.1.0 in
    larger_both (told_at m 76) (told_at m 68) (length v.input) v.output_buffer_length (told_most m 76 (length v.input) carries)
    (told_most m 68 v.output_buffer_length asks)

pub returns-clause-ioctl : goal.returns-clause-ioctl
unfolding command_of ioctl_in
returns-clause-ioctl c = λ t h header rest v len fit number pays.
    let law = c.ioctl_request_law.ensures in
    let m : List ℕ = header ++ (ioctl_request_spelling v ++ rest) in
    let spells : SpellsIoctlRequest m v = law.again header rest v len fit in
    let is = found SpellsIoctlRequest ioctl_request_fault ioctl_request_in law.one law.whole law.given m v spells in
    let rows = spells.fixed.1.1.1.1 in
    let size = max (length v.input + length v.output) (v.max_input_response + v.max_output_response) in
    let carried = sums (told_at m 92) (told_at m 104) (length v.input) (length v.output) (told_most m 92 (length v.input) rows.0)
    (told_most m 104 (length v.output) rows.1.1.1.0) in
    let asked = sums (told_at m 96) (told_at m 108) v.max_input_response v.max_output_response
    (told_most m 96 v.max_input_response rows.1.0) (told_most m 108 v.max_output_response rows.1.1.1.1.0) in
    let few = larger_both (told_at m 92 + told_at m 104) (told_at m 96 + told_at m 108) (length v.input + length v.output)
    (v.max_input_response + v.max_output_response) carried asked in
    ap (λ (n : ℕ). by_number n t h m) number
    ∙ ap Some (paid_is 11 h.charge size m (ioctl_in m) (ioctl_of v) few pays
    (read_as SpellsIoctlRequest ioctl_request_fault ioctl_request_in ioctl_of m v is))

-- a QUERY_INFO by its type, and by whether its class is left out
abbrev by_type : ℕ → Bool → QueryInfoRequestValue → Command
by_type n left_out v =
    if n == 1 then (if left_out then Unreadable not_supported else QueryFile (file_of v.file_id) v.file_info_class v.output_buffer_length)
    else if n == 2 then QueryVolume (file_of v.file_id) v.file_info_class v.output_buffer_length
    else if (n == 3) || (n == 4) then Unreadable not_supported
    else Unreadable invalid_parameter

pub returns-clause-volume : goal.returns-clause-volume
unfolding command_of query_in
returns-clause-volume c = λ t h header rest v len fit number kind pays.
    let law = c.query_info_request_law.ensures in
    let m : List ℕ = header ++ (query_info_request_spelling v ++ rest) in
    let spells : SpellsQueryInfoRequest m v = law.again header rest v len fit in
    let is = found SpellsQueryInfoRequest query_info_request_fault query_info_request_in law.one law.whole law.given m v spells in
    let size = max (length v.input) v.output_buffer_length in
    ap (λ (n : ℕ). by_number n t h m) number
    ∙ ap Some (paid_is 16 h.charge size m (query_in m) (query_of v) (query_most m v spells) pays
    (read_as SpellsQueryInfoRequest query_info_request_fault query_info_request_in query_of m v is))
    ∙ ap (λ (n : ℕ). Some (by_type n (v.file_info_class == 15) v)) kind

pub returns-clause-file : goal.returns-clause-file
unfolding command_of query_in
returns-clause-file c = λ t h header rest v len fit number kind left_out pays.
    let law = c.query_info_request_law.ensures in
    let m : List ℕ = header ++ (query_info_request_spelling v ++ rest) in
    let spells : SpellsQueryInfoRequest m v = law.again header rest v len fit in
    let is = found SpellsQueryInfoRequest query_info_request_fault query_info_request_in law.one law.whole law.given m v spells in
    let size = max (length v.input) v.output_buffer_length in
    ap (λ (n : ℕ). by_number n t h m) number
    ∙ ap Some (paid_is 16 h.charge size m (query_in m) (query_of v) (query_most m v spells) pays
    (read_as SpellsQueryInfoRequest query_info_request_fault query_info_request_in query_of m v is))
    ∙ ap (λ (n : ℕ). Some (by_type n (v.file_info_class == 15) v)) kind
    ∙ ap (λ (b : Bool). Some (by_type 1 b v)) left_out
