use Rattle.std.proofs.Common.{◌≡◌, Some, None, ap, sym, ◌∙◌}
use Rattle.spec_exchange.specs.CheckOpen.{target_of, target_refused}
use Rattle.spec_exchange.specs.Files.{find}
use Rattle.server_checks.proofs.Creates.{target_there}
use Rattle.server_checks.proofs.tables.Tables.is_target_refused.Goals as goal

pub returns-in-Some : goal.returns-in-Some
unfolding target_refused
returns-in-Some c = λ s path t e.
    let k : target_of c.args.file (find s path) ≡ Some c.in-Some.target = ap (target_of c.args.file) (sym e) ∙ sym c.in-Some.ensures in
    c.is_taken.ensures s t (target_there s path c.args.file c.in-Some.target k) ∙ sym (ap (target_refused s) k)

pub returns-in-None : goal.returns-in-None
unfolding target_refused
returns-in-None c = λ s path t e.
    let k : target_of c.args.file (find s path) ≡ None = ap (target_of c.args.file) (sym e) ∙ sym c.in-None.ensures in
    sym (ap (target_refused s) k)
