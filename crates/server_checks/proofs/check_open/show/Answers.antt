use Rattle.std.proofs.Common.{List, Some, map, ap, ◌∙◌}
use Rattle.spec_exchange.specs.State.{Listing, Named}
use Rattle.spec_exchange.specs.Verdict.{Behind, Show}
use Rattle.store_files.specs.file_tree.Listed.{model_named}
use Rattle.server_checks.proofs.Listings.{none_fits, some_fit}
use Rattle.server_checks.proofs.check_open.show.Goals as goal

pub returns-in_ok-named-in-Some : goal.returns-in_ok-named-in-Some
returns-in_ok-named-in-Some c = λ k last all f.
    let l = rw c.in-Some.is at (c.in_ok-end.ensures last) in
    c.shown.ensures k
    ∙ (ap (λ (ns : List Named). Show c.args.id (Behind (Some c.in-Some.last)) (Listing c.args.class ns)) c.in_ok-named-in-Some.ensures
    ∙ some_fit c.args.id c.args.class last all (map model_named c.args.entries.items) c.in-Some.last f
    (rw c.deref.ensures.value at l.0) (rw c.deref.ensures.value at l.1))

pub returns-in-None : goal.returns-in-None
returns-in-None c = λ k last all f.
    let l = rw c.in-None.is at (c.in_ok-end.ensures last) in
    c.turn_down.ensures k
    ∙ none_fits c.args.id c.args.class last all (map model_named c.args.entries.items) f (rw c.deref.ensures.value at l)
