-- The six sentences hold in every world of every run.
use Rattle.std.proofs.Common.{List}
use Rattle.spec_exchange.specs.Network.{Event, Settings, run, start}
use Rattle.spec_exchange.specs.Runs.{acts}
use Rattle.law_sessions.proofs.messages.Run.{connections}
use Rattle.law_server.proofs.tables.Run.{fitting}
use Rattle.law_sessions.proofs.sessions.Always.{sessions}
use Rattle.law_creates.proofs.Law.{creates}
use Rattle.law_locks.proofs.Law.{locks}
use Rattle.law_order.proofs.order.Lower.{below}
use Rattle.law_order.proofs.order.Newer.{newest}
use Rattle.law_order.proofs.order.Run.{contents}
use Rattle.law_outcomes.specs.invariant.Parts.{CopiesAreOwn, GoneIsDeleted, CreatesAreKept, LocksAreKept, EditsAreShown, NoneIsNewer}
use Rattle.law_outcomes.proofs.invariant.Copies.{copies_own, creates_kept, locks_kept}
use Rattle.law_outcomes.proofs.invariant.Gone.{gone_deleted}
use Rattle.law_outcomes.proofs.invariant.Edits.{edits_shown}
use Rattle.law_outcomes.proofs.invariant.Older.{older_refused, opens_newest}

pub own_always : (z : Settings) (es : List Event) → CopiesAreOwn (run es (start z))
own_always z es = copies_own (run es (start z)) (acts es (start z)) (connections z es) (sessions z es)

pub gone_always : (z : Settings) (es : List Event) → GoneIsDeleted (run es (start z))
gone_always z es = gone_deleted (run es (start z)) (acts es (start z)) (connections z es) (fitting z es) (locks z es)

pub creates_always : (z : Settings) (es : List Event) → CreatesAreKept (run es (start z)) (acts es (start z))
creates_always z es = creates_kept (run es (start z)) (acts es (start z)) (connections z es) (creates z es)

pub locks_always : (z : Settings) (es : List Event) → LocksAreKept (run es (start z)) (acts es (start z))
locks_always z es = locks_kept (run es (start z)) (acts es (start z)) (locks z es)

pub edits_always : (z : Settings) (es : List Event) → EditsAreShown (run es (start z))
edits_always z es = edits_shown (run es (start z)) (acts es (start z)) (contents z es)

pub newest_always : (z : Settings) (es : List Event) → NoneIsNewer (run es (start z))
newest_always z es =
    record {
      older = older_refused (run es (start z)) (acts es (start z)) (connections z es) (sessions z es) (fitting z es)
          (newest z (below z) es);
      newest = opens_newest (run es (start z)) (acts es (start z)) (sessions z es) (creates z es) (newest z (below z) es);
    }
