use Rattle.std.proofs.Common.{◌≡◌, ◌+◌, ◌*◌, ◌-◌, ◌<◌, List, length, slice_index_or, sym, ap, ◌∙◌, subst, arith}
use Rattle.std.proofs.lemmas.Result.{IfOk-weaker}
use Rattle.spec_exchange.specs.Operations.{reconnect_of}
use Rattle.spec_exchange.specs.Client.{Client, create_for, guid_for}
use Rattle.wire_commands.specs.values.Meaning.{client_command_of}
use Rattle.client_values.specs.declared.operations.values.OpKind.{OpKind}
use Rattle.client_values.specs.declared.operations.values.OpKind.TheVariants as kinds
use Rattle.client_values.specs.operations.Meaning.{op_of}
use Rattle.client_rows.specs.declared.operation_rows.row.Row.{Row}
use Rattle.client_tables.specs.whole_table.Shown.{ShowsTable}
use Rattle.client_tables.specs.attached_opens.Known.{IsKnownAt, ShowsOpened}
use Rattle.client_steps.proofs.sent_requests.requests.ask_request.Goals as goal

pub file_at-file-requires : goal.file_at-file-requires
file_at-file-requires c = subst (λ (r : Row). r.«open» < length c.args.opened.now) (sym c.row_of-row.ensures) c.requires.known

pub reconnect_at-requires : goal.reconnect_at-requires
reconnect_at-requires c =
    let n = c.requires.fits.ops_counted in
    let p = c.create_at-create.ensures.above in
    let l = c.create_at-create.ensures.within in
    subst (λ (xs : List OpKind). c.create_at-create.result - 1 < length xs) (sym c.deref.ensures.value) (omega arith)

pub returns : goal.returns
returns c =
    let t = c.args.table.now in
    let opened = c.args.opened.now in
    let x = c.args.index in
    let create = c.create_at-create.result in
    let own = c.create_at-create.ensures in
    let guid_is = c.guid_of-guid in
    let f = c.file_at-file.ensures in
    let is_op = op_of (slice_index_or c.deref.result.now (create - 1) (kinds.Close 0)) in
    IfOk-weaker c.reconnect_at.result (λ q. client_command_of q ≡ reconnect_of is_op guid_is.result c.file_at-file.result)
    (λ q. (d : Client) → ShowsTable t d → ShowsOpened t.rows.items opened d → d.who.salt ≡ c.args.salt
    → client_command_of q ≡ reconnect_of (d.op (create_for d x)) (guid_for d (create_for d x)) (d.file (create_for d x)))
    (λ q is d s k w. (
    let taken = s.rows.places.is_taken x c.requires.above c.requires.within in
    let named : create ≡ create_for d x = own.is ∙ sym (s.rows.places.creates x c.requires.above taken) in
    let op : is_op ≡ d.op (create_for d x) =
    ap (λ (xs : List OpKind). op_of (slice_index_or xs (create - 1) (kinds.Close 0))) c.deref.ensures.value
    ∙ sym (s.values.op_is create own.above (s.rows.places.is_taken create own.above own.within)) ∙ ap (λ y. d.op y) named in
    let guid : guid_is.result ≡ guid_for d (create_for d x) =
    guid_is.ensures ∙ (λ i. (sym w) i * 0x1_0000_0000_0000_0000 + named i) in
    let file : c.file_at-file.result ≡ d.file (create_for d x) =
    f.2 ∙ sym (k.file_is x f.0 c.requires.above c.requires.within
    (subst (λ (r : Row). IsKnownAt opened r.«open» f.0) c.row_of-row.ensures f.1))
    ∙ ap (λ y. d.file y) (sym (s.rows.places.creates x c.requires.above taken)) in
    is ∙ (λ i. reconnect_of (op i) (guid i) (file i))
    ))
    c.reconnect_at.ensures
