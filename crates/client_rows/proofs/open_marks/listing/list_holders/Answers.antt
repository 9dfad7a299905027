use Rattle.std.proofs.lemmas.Result.{on_ok_weaker}
use Rattle.base_lists.specs.range_index.Shown.{top}
use Rattle.client_rows.specs.operation_rows.Rows.{stands}
use Rattle.client_rows.specs.open_marks.Marks.{mark_of, top_of}
use Rattle.client_rows.proofs.open_marks.Raised.{goes_then, lists_all}
use Rattle.client_rows.proofs.open_marks.listing.list_holders.Goals as goal

pub returns-clause-listed : goal.returns-clause-listed
returns-clause-listed c = on_ok_weaker c.list_tops.result (λ t. lists_all (stands c.args.rows.now) c.args.marks.now.close
    (mark_of c.args.kind c.args.marks.now) (λ x. top_of c.args.kind (top c.args.written.now) (top c.args.locked.now) x) c.args.at
    c.args.size c.args.holders.now.items c.list_close.new.holders.items c.list_mark.new.holders.items c.list_tops.new.holders.items
    c.in_ok-list_close.ensures.adds c.in_ok-list_close.ensures.told c.in_ok-list_mark.ensures.adds c.in_ok-list_mark.ensures.told t)
    c.list_tops.ensures.listed

pub returns-in_err-list_mark-clause-goes : goal.returns-in_err-list_mark-clause-goes
returns-in_err-list_mark-clause-goes c = goes_then c.args.holders.now.items c.list_close.new.holders.items c.list_mark.new.holders.items
    c.list_close.ensures.goes c.list_mark.ensures.goes

pub returns-clause-goes : goal.returns-clause-goes
returns-clause-goes c = goes_then c.args.holders.now.items c.list_mark.new.holders.items c.list_tops.new.holders.items
    (goes_then c.args.holders.now.items c.list_close.new.holders.items c.list_mark.new.holders.items c.list_close.ensures.goes
    c.list_mark.ensures.goes) c.list_tops.ensures.goes
