use Rattle.std.proofs.Common.{List, ℕ, refl, subst}
use Rattle.conn_core.specs.Shown.{ShowsEnd}
use Rattle.spec_world.specs.Ends.{first_server_end}
use Rattle.world_steps.proofs.opening.beginning.with_conn.Goals as goal

pub returns-in-Ok : goal.returns-in-Ok
returns-in-Ok c = λ fresh bound drawn live counted begins. record {
  fresh = fresh;
  drawn = drawn;
  bound = bound;
  live = live;
  counted = counted;
  begins = begins;
  conn = subst (λ (v : List ℕ). ShowsEnd c.args.k c.args.world.now.guid c.in-Ok.conn (first_server_end v))
      c.draw.ensures c.in-Ok.ensures.shows;
}

pub returns-in-Err : goal.returns-in-Err
returns-in-Err c = λ fresh bound drawn live counted begins. refl
