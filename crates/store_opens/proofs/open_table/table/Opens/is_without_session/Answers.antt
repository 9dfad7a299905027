use Rattle.std.proofs.Common.{rules, Some, None}
use Rattle.store_opens.proofs.open_table.Found.{found}
use Rattle.store_opens.proofs.open_table.table.Opens.is_without_session.Goals as goal

pub returns-in-Some : goal.returns-in-Some
returns-in-Some c = λ s h st.
    rw (found c.args.self.now s c.args.id (Some c.in-Some.row.now) h c.in-Some.ensures.value).1.session_is
    (search rules)

pub returns-in-None : goal.returns-in-None
returns-in-None c = λ s h st. absurd (let e = found c.args.self.now s c.args.id None h c.in-None.ensures.value in cc)
