use Rattle.std.proofs.Common.{refl, ◌∙◌}
use Rattle.server_checks.proofs.tables.Tables.previous_of.Goals as goal

pub returns-in-Some : goal.returns-in-Some
returns-in-Some c = λ s t.
    let h = c.in-Some.ensures.shows s t.sessions in
    c.own_session.ensures ∙ rw (h.0, h.1.user_is) refl

pub returns-in-None : goal.returns-in-None
returns-in-None c = λ s t. let h = c.in-None.ensures.shows s t.sessions in rw h.0 refl
