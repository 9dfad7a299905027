use Rattle.std.proofs.Common.{◌≡◌, if◌then◌else◌, Option, nat_eq, refl, subst, arith}
use Rattle.std.proofs.lemmas.Grind.{common_steps}
use Rattle.std.specs.HashMap.{get}
use Rattle.server_checks.specs.declared.session_table.row.SessionRow.{SessionRow}
use Rattle.server_checks.specs.session_table.Shown.{session_lists}
use Rattle.server_checks.specs.session_table.Steps.{without_session}
use Rattle.server_checks.proofs.session_table.Whole.{ended}
use Rattle.server_checks.proofs.session_table.table.Sessions.remove.Goals as goal

pub returns-in-Some-clause-shows : goal.returns-in-Some-clause-shows
returns-in-Some-clause-shows c = λ s h there.
    let t = c.args.self.now in
    ended t (record t { rows = c.remove.new.self; links = c.clear_links.new.links }) c.args.session s
    (record {
      rows = λ q. let e = c.remove.ensures.updates.0 q in grind (arith, common_steps);
      len = let e = c.in-Some.ensures.len in omega (arith, e);
      links = λ q. subst (λ (v : Option SessionRow). get nat_eq c.clear_links.new.links q
          ≡ (if session_lists v q then without_session c.args.session (get nat_eq t.links q) else get nat_eq t.links q))
          c.in-Some.ensures.value
          (rw c.as_slice.ensures.value at (c.clear_links.ensures q));
      order = refl;
      epoch = refl;
      given = refl;
    }) h there
