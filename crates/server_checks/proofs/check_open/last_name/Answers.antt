use Rattle.std.proofs.Common.{Some, ap, sym, ◌∙◌}
use Rattle.server_checks.proofs.Listings.{last_of, no_last}
use Rattle.server_checks.proofs.check_open.last_name.Goals as goal

pub returns-in_ok-name-in-Some : goal.returns-in_ok-name-in-Some
returns-in_ok-name-in-Some c = λ last.
    let h = last_of c.args.entries.now c.in-Some.end.now last c.in-Some.ensures.value in
    (h.0, h.1 ∙ ap Some (sym c.in_ok-name-in-Some.ensures))

pub returns-in-None : goal.returns-in-None
returns-in-None c = λ last. no_last c.args.entries.now c.in-None.ensures.value
