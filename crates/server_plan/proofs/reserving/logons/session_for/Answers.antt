use Rattle.server_plan.proofs.reserving.logons.session_for.Goals as goal

pub returns-clause-row : goal.returns-clause-row
returns-clause-row c = c.in_ok-row.ensures.row

pub returns-clause-keys : goal.returns-clause-keys
returns-clause-keys c = c.in_ok-row.ensures.keys

pub returns-clause-token : goal.returns-clause-token
returns-clause-token c = c.in_ok-token.ensures
