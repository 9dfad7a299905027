use Rattle.std.proofs.Common.{◌≡◌, ◌+◌, ◌*◌, ◌-◌, ◌<◌, List, length, slice_index_or, sym, ap, ◌∙◌, subst, arith}
use Rattle.std.proofs.lemmas.Result.{IfOk-weaker}
use Rattle.spec_exchange.specs.Operations.{request_of}
use Rattle.spec_exchange.specs.Client.{Client, create_for, guid_for}
use Rattle.wire_commands.specs.values.Meaning.{client_command_of}
use Rattle.client_values.specs.declared.operations.values.OpKind.{OpKind}
use Rattle.client_values.specs.declared.operations.values.OpKind.TheVariants as kinds
use Rattle.client_values.specs.operations.Meaning.{op_of}
use Rattle.client_tables.specs.whole_table.Shown.{ShowsTable}
use Rattle.client_tables.specs.attached_opens.Known.{ShowsOpened}
use Rattle.client_steps.proofs.sent_requests.requests.own_request.Goals as goal

pub request_at-requires : goal.request_at-requires
request_at-requires c =
    let n = c.requires.fits.ops_counted in
    let p = c.requires.above in
    let l = c.requires.within in
    subst (λ (xs : List OpKind). c.args.index - 1 < length xs) (sym c.deref.ensures.value) (omega arith)

pub returns : goal.returns
returns c =
    let t = c.args.table.now in
    let x = c.args.index in
    let ids = c.ids_of-ids.result in
    let e = c.ids_of-ids.ensures in
    let is_op = op_of (slice_index_or c.deref.result.now (x - 1) (kinds.Close 0)) in
    IfOk-weaker c.request_at.result (λ q. client_command_of q ≡ request_of is_op ids.guid ids.file ids.slot ids.number)
    (λ q. (d : Client) → ShowsTable t d → ShowsOpened t.rows.items c.args.opened.now d → d.who.salt ≡ c.args.salt
    → client_command_of q ≡ request_of (d.op x) (guid_for d x) (d.file (create_for d x)) (d.slot_of x) (d.number_of x))
    (λ q is d s k w. (
    let taken = s.rows.places.is_taken x c.requires.above c.requires.within in
    let op : is_op ≡ d.op x =
    ap (λ (xs : List OpKind). op_of (slice_index_or xs (x - 1) (kinds.Close 0))) c.deref.ensures.value
    ∙ sym (s.values.op_is x c.requires.above taken) in
    let guid : ids.guid ≡ guid_for d x = e.guid ∙ ap (λ z. z * 0x1_0000_0000_0000_0000 + x) (sym w) in
    let file : ids.file ≡ d.file (create_for d x) =
    sym (e.file d k) ∙ ap (λ y. d.file y) (sym (s.rows.places.creates x c.requires.above taken)) in
    let slot : ids.slot ≡ d.slot_of x = sym (e.slot d s) in
    let number : ids.number ≡ d.number_of x = sym (e.number d s) in
    is ∙ (λ i. request_of (op i) (guid i) (file i) (slot i) (number i))
    ))
    c.request_at.ensures
