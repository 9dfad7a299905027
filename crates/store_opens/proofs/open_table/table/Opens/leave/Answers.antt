use Rattle.std.proofs.Common.{None}
use Rattle.spec_exchange.specs.Opens.{drop_open}
use Rattle.store_opens.proofs.open_table.Dropped.{drop_left, told_left, detached_drop}
use Rattle.store_opens.proofs.open_table.table.Opens.leave.Goals as goal

pub returns-in-Some-clause-shows : goal.returns-in-Some-clause-shows
returns-in-Some-clause-shows c = λ s i h st.
    c.unlist.ensures.shows (drop_open s c.args.id) (detached_drop s c.args.id)
    (drop_left c.args.self.now c.take_out.new.self c.args.id c.in-Some.row s c.in-Some.ensures.left c.in-Some.ensures.sessions i h st)

pub returns-in_default-clause-shows : goal.returns-in_default-clause-shows
returns-in_default-clause-shows c = λ s i h st. absurd (let e = told_left c.args.self.now c.args.id s None c.in_default.ensures.row h in cc)
