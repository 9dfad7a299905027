use Rattle.std.proofs.Common.{OnOk, sym, subst}
use Rattle.base_lists.specs.range_index.Shown.{top}
use Rattle.base_lists.specs.range_index.Tops.{RangeLists}
use Rattle.client_values.specs.declared.operations.shapes.Kind.{Kind}
use Rattle.client_rows.specs.open_marks.Marks.{top_of}
use Rattle.client_rows.proofs.open_marks.Raised.{goes_none, lists_none}
use Rattle.client_rows.proofs.open_marks.listing.list_tops.Goals as goal

pub returns-in-Write-clause-listed : goal.returns-in-Write-clause-listed
returns-in-Write-clause-listed c = subst (λ (z : Kind). OnOk c.tops_in.result (RangeLists
    (λ x. top_of z (top c.args.written.now) (top c.args.locked.now) x) c.args.at c.args.size c.args.holders.now.items
    c.tops_in.new.into.items)) (sym c.in-Write.is) c.tops_in.ensures.listed

pub returns-in-Read-clause-listed : goal.returns-in-Read-clause-listed
returns-in-Read-clause-listed c = subst (λ (z : Kind). OnOk c.tops_in-in-Read.result (RangeLists
    (λ x. top_of z (top c.args.written.now) (top c.args.locked.now) x) c.args.at c.args.size c.args.holders.now.items
    c.tops_in-in-Read.new.into.items)) (sym c.in-Read.is) c.tops_in-in-Read.ensures.listed

pub returns-in-Lock-clause-listed : goal.returns-in-Lock-clause-listed
returns-in-Lock-clause-listed c = subst (λ (z : Kind). OnOk c.tops_in-in-Lock.result (RangeLists
    (λ x. top_of z (top c.args.written.now) (top c.args.locked.now) x) c.args.at c.args.size c.args.holders.now.items
    c.tops_in-in-Lock.new.into.items)) (sym c.in-Lock.is) c.tops_in-in-Lock.ensures.listed

pub returns-in-Create-clause-listed : goal.returns-in-Create-clause-listed
returns-in-Create-clause-listed c = subst (λ (z : Kind). RangeLists (λ x. top_of z (top c.args.written.now) (top c.args.locked.now) x)
    c.args.at c.args.size c.args.holders.now.items c.args.holders.now.items) (sym c.in-Create.is)
    (lists_none c.args.at c.args.size c.args.holders.now.items)

pub returns-in-Create-clause-goes : goal.returns-in-Create-clause-goes
returns-in-Create-clause-goes c = goes_none c.args.holders.now.items

pub returns-in-End-clause-listed : goal.returns-in-End-clause-listed
returns-in-End-clause-listed c = subst (λ (z : Kind). RangeLists (λ x. top_of z (top c.args.written.now) (top c.args.locked.now) x)
    c.args.at c.args.size c.args.holders.now.items c.args.holders.now.items) (sym c.in-End.is)
    (lists_none c.args.at c.args.size c.args.holders.now.items)

pub returns-in-End-clause-goes : goal.returns-in-End-clause-goes
returns-in-End-clause-goes c = goes_none c.args.holders.now.items

pub returns-in-Change-clause-listed : goal.returns-in-Change-clause-listed
returns-in-Change-clause-listed c = subst (λ (z : Kind). RangeLists (λ x. top_of z (top c.args.written.now) (top c.args.locked.now) x)
    c.args.at c.args.size c.args.holders.now.items c.args.holders.now.items) (sym c.in-Change.is)
    (lists_none c.args.at c.args.size c.args.holders.now.items)

pub returns-in-Change-clause-goes : goal.returns-in-Change-clause-goes
returns-in-Change-clause-goes c = goes_none c.args.holders.now.items

pub returns-in-Look-clause-listed : goal.returns-in-Look-clause-listed
returns-in-Look-clause-listed c = subst (λ (z : Kind). RangeLists (λ x. top_of z (top c.args.written.now) (top c.args.locked.now) x)
    c.args.at c.args.size c.args.holders.now.items c.args.holders.now.items) (sym c.in-Look.is)
    (lists_none c.args.at c.args.size c.args.holders.now.items)

pub returns-in-Look-clause-goes : goal.returns-in-Look-clause-goes
returns-in-Look-clause-goes c = goes_none c.args.holders.now.items

pub returns-in-List-clause-listed : goal.returns-in-List-clause-listed
returns-in-List-clause-listed c = subst (λ (z : Kind). RangeLists (λ x. top_of z (top c.args.written.now) (top c.args.locked.now) x)
    c.args.at c.args.size c.args.holders.now.items c.args.holders.now.items) (sym c.in-List.is)
    (lists_none c.args.at c.args.size c.args.holders.now.items)

pub returns-in-List-clause-goes : goal.returns-in-List-clause-goes
returns-in-List-clause-goes c = goes_none c.args.holders.now.items

pub returns-in-Close-clause-listed : goal.returns-in-Close-clause-listed
returns-in-Close-clause-listed c = subst (λ (z : Kind). RangeLists (λ x. top_of z (top c.args.written.now) (top c.args.locked.now) x)
    c.args.at c.args.size c.args.holders.now.items c.args.holders.now.items) (sym c.in-Close.is)
    (lists_none c.args.at c.args.size c.args.holders.now.items)

pub returns-in-Close-clause-goes : goal.returns-in-Close-clause-goes
returns-in-Close-clause-goes c = goes_none c.args.holders.now.items
