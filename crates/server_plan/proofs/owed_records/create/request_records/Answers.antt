use Rattle.std.proofs.Common.{ℕ, ap, ◌∙◌}
use Rattle.spec_exchange.specs.Opens.{granted}
use Rattle.wire_commands.specs.values.Meaning.{create_of, message_of}
use Rattle.server_plan.proofs.owed_records.Told.{if_ok_by, created_none, created_one, opened_with}
use Rattle.server_plan.proofs.owed_records.create.request_records.Goals as goal

pub returns-then-owes_nothing : goal.returns-then-owes_nothing
returns-then-owes_nothing c = λ s o t h room there i.
    created_none s (message_of c.args.m.now) (create_of c.args.request.now) c.args.found c.args.action c.args.now _ _
    c.owes_nothing.ensures c.if-owes_nothing.true c.no_record.ensures

pub returns : goal.returns
returns c = λ s o t h room there i.
    let access = c.granted-access.ensures s t ∙ ap (λ (f : ℕ). granted s f c.args.request.now.access) (c.new_file-file.ensures s t) in
    if_ok_by c.one_record.result c.one_record.ensures
    (λ rs all. created_one s (message_of c.args.m.now) (create_of c.args.request.now) c.args.found c.args.action c.args.now _ _ _ _
    c.owes_nothing.ensures c.if-owes_nothing.false all (c.in_ok-one.ensures s t i)
    (opened_with s (message_of c.args.m.now) (create_of c.args.request.now) c.args.found _ _ _ access
    (c.in_ok-made.ensures s o h room there)))
