use Rattle.std.proofs.Common.{Some, None}
use Rattle.store_opens.specs.open_table.Changes.{open_closed}
use Rattle.store_opens.proofs.open_table.Dropped.{close_left, told_left, detached_close}
use Rattle.store_opens.proofs.open_table.table.Opens.close.Goals as goal

pub returns-in-Some-clause-told : goal.returns-in-Some-clause-told
returns-in-Some-clause-told c = λ s h. told_left c.args.self.now c.args.id s (Some c.in-Some.row) c.in-Some.ensures.row h

pub returns-in-Some-clause-shows : goal.returns-in-Some-clause-shows
returns-in-Some-clause-shows c = λ s i h st.
    c.unlist.ensures.shows (open_closed s c.args.id) (detached_close s c.args.id)
    (close_left c.args.self.now c.take_out.new.self c.shut.new.self c.args.id c.in-Some.row s c.in-Some.ensures.left
    c.in-Some.ensures.sessions c.shut.ensures.closes c.shut.ensures.rest i h st)

pub returns-in-Some-clause-same : goal.returns-in-Some-clause-same
returns-in-Some-clause-same c = λ s h st. absurd (let e = told_left c.args.self.now c.args.id s (Some c.in-Some.row)
    c.in-Some.ensures.row h in cc)

pub returns-in-None-clause-told : goal.returns-in-None-clause-told
returns-in-None-clause-told c = λ s h. told_left c.args.self.now c.args.id s None c.in-None.ensures.row h

pub returns-in-None-clause-shows : goal.returns-in-None-clause-shows
returns-in-None-clause-shows c = λ s i h st. absurd (let e = told_left c.args.self.now c.args.id s None c.in-None.ensures.row h in cc)

pub returns-in-None-clause-same : goal.returns-in-None-clause-same
returns-in-None-clause-same c = λ s h st. c.in-None.ensures.same s h
