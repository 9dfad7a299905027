use Rattle.std.proofs.Common.{◌≡◌, ◌<◌, length, OnOk, subst}
use Rattle.client_rows.specs.operation_rows.Rows.{stands}
use Rattle.client_rows.specs.open_marks.Marks.{MarkAdds, MarkTold}
use Rattle.client_rows.proofs.open_marks.listing.list_mark.Goals as goal

pub returns-clause-adds : goal.returns-clause-adds
returns-clause-adds c = subst (λ z. OnOk c.list_one.result (MarkAdds (λ l. (0 < l) × (l ≡ z)) c.args.holders.now.items
    c.list_one.new.holders.items)) c.mark_of-mark.ensures c.list_one.ensures.adds

pub returns-clause-told : goal.returns-clause-told
returns-clause-told c = subst (λ z. OnOk c.list_one.result (MarkTold (stands c.args.rows.now) c.list_one.new.holders.items
    (length c.args.holders.now.items) (length c.list_one.new.holders.items) z)) c.mark_of-mark.ensures c.list_one.ensures.told
