use Rattle.wire_commands.specs.values.Meaning.{create_of}
use Rattle.wire_commands.specs.values.Meaning.{message_of}
use Rattle.server_plan.proofs.reserving.Kept.{if_ok_by}
use Rattle.server_plan.proofs.reserving.OpenRows.{row_for}
use Rattle.server_plan.proofs.reserving.rows.new_row.Goals as goal

pub returns : goal.returns
returns c = if_ok_by c.new.result c.new.ensures (λ row n s h p.
    row_for s (message_of c.args.m.now) (create_of c.args.request.now) c.args.found c.args.action row
    c.parts_for-parts.result c.user-user.result.now n
    (c.parts_for-parts.ensures.opened s c.user-user.result.now h.files (c.user-user.ensures s h p))
    c.parts_for-parts.ensures.session.0 c.parts_for-parts.ensures.session.1
    c.parts_for-parts.ensures.session.2)
