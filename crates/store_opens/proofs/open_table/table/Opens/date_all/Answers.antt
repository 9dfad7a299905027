use Rattle.std.proofs.Common.{ℕ, Vec, vec_capacity, ap, ◌∙◌}
use Rattle.spec_exchange.specs.Table.{has}
use Rattle.store_opens.specs.declared.open_table.table.Opens.{Opens}
use Rattle.store_opens.proofs.open_table.DatedLemmas.{open_dated, dated_each, room_dated, session_dated, new_dated}
use Rattle.store_opens.proofs.open_table.table.Opens.date_all.Goals as goal

pub returns-clause-room : goal.returns-clause-room
returns-clause-room c = room_dated c.args.self.now (record c.date_each.new.self { undated = c.clear.new.self })
    c.date_each.ensures.room c.date_each.ensures.len (ap (λ (w : Opens). record w { undated = c.clear.new.self })
    c.date_each.ensures.rest)

pub returns-clause-in_session : goal.returns-clause-in_session
returns-clause-in_session c = λ x o. session_dated c.args.self.now (record c.date_each.new.self {
  undated = c.clear.new.self;
}) x o c.args.now (has o c.as_slice.result.now) (ap (λ (w : Opens). record w {
  undated = c.clear.new.self;
}) c.date_each.ensures.rest) (c.date_each.ensures.rows o)

pub returns-clause-in_new : goal.returns-clause-in_new
returns-clause-in_new c = λ session o p. new_dated c.args.self.now (record c.date_each.new.self {
  undated = c.clear.new.self;
}) session o p (ap (λ (w : Opens). record w { undated = c.clear.new.self })
    c.date_each.ensures.rest) c.clear.ensures.len (c.clear.ensures.capacity ∙ ap (λ (v : Vec ℕ _). vec_capacity v)
    c.replace-undated.ensures.value)

pub returns-clause-rest : goal.returns-clause-rest
returns-clause-rest c = ap (λ (w : Opens). record w { undated = c.clear.new.self }) c.date_each.ensures.rest

pub returns-clause-shown : goal.returns-clause-shown
returns-clause-shown c = λ s h. open_dated c.args.self.now (record c.date_each.new.self { undated = c.clear.new.self }) c.args.now s
    (dated_each c.args.self.now (record c.date_each.new.self { undated = c.clear.new.self }) c.as_slice.result.now
    c.args.now (c.as_slice.ensures.value ∙ ap (λ (v : Vec ℕ _). v.items) c.replace-undated.ensures.value)
    c.date_each.ensures.rows c.date_each.ensures.len c.date_each.ensures.indexed
    (ap (λ (w : Opens). record w { undated = c.clear.new.self }) c.date_each.ensures.rest)) h
