use Rattle.std.proofs.Common.{Ok, subst}
use Rattle.server_core.specs.compaction.Compacts.{HasNewBodies, IsAnew, JournalRewrites}
use Rattle.server_core.proofs.compaction.Anew.{SnapshotLaws, pieces_of}
use Rattle.server_core.proofs.compaction.Held.{anew_holds, compaction_leaves}
use Rattle.server_core.proofs.compaction.Moments.{leaves_more}
use Rattle.server_core.proofs.compaction.compacting.compact_on.Goals as goal

pub returns-in-Ok-true-clause-compacts : goal.returns-in-Ok-true-clause-compacts
returns-in-Ok-true-clause-compacts g c = λ base s L records h.
    let laws : SnapshotLaws = record {
      keeps = c.order_law.ensures.keeps;
      taken = c.taken_law.ensures.all;
      order = c.taken_law.ensures.order;
      joined = c.piece_fits_law.ensures.joined;
      fit = c.piece_fits_law.ensures.unfolded;
    } in
    let new = c.rewrite_journal-written.new.journal in
    let a : IsAnew g.D.Disk.told g.D.Disk.seen g.D.Disk.may_leave new s =
    subst (λ b. HasNewBodies g.D.Disk.told g.D.Disk.seen g.D.Disk.may_leave new s (Ok b)) c.in-Ok-true.field-0-test
    (c.in-Ok-true.ensures.anew s h.fits h.shown.tables.files h.shown.tables.opens h.shown.tables.version_is) in
    let cause = subst (λ b. JournalRewrites g.D.Disk.faults c.args.server.now.journal (Ok b) new) c.in-Ok-true.field-0-test
    c.in-Ok-true.ensures.cause in (
      c.requires,
      c.requires,
      pieces_of s a.0 a.1,
      anew_holds laws g.D.Disk.told g.D.Disk.seen g.D.Disk.may_leave base c.args.server.now s L records h c.requires
          new cause.1 a c.used-server.result c.used-server.ensures,
    )

pub returns-in-Ok-true-clause-any_moment : goal.returns-in-Ok-true-clause-any_moment
returns-in-Ok-true-clause-any_moment g c = λ told base s L records bodies h j.
    let laws : SnapshotLaws = record {
      keeps = c.order_law.ensures.keeps;
      taken = c.taken_law.ensures.all;
      order = c.taken_law.ensures.order;
      joined = c.piece_fits_law.ensures.joined;
      fit = c.piece_fits_law.ensures.unfolded;
    } in
    leaves_more g.D.Disk.told g.D.Disk.seen g.D.Disk.may_leave g.D.Disk.moment g.D.Disk.left_since _ _ _ _
    (compaction_leaves laws base s records bodies h.fits h.version h.sound j.1.spelled j.1.for_state)
    (c.rewrite_journal-written.ensures.any_moment told s bodies h.fits h.shown.tables.files h.shown.tables.opens h.shown.tables.version_is
    j.1.settled)

pub returns-in-Ok-false-clause-any_moment : goal.returns-in-Ok-false-clause-any_moment
returns-in-Ok-false-clause-any_moment g c = λ told base s L records bodies h j.
    let laws : SnapshotLaws = record {
      keeps = c.order_law.ensures.keeps;
      taken = c.taken_law.ensures.all;
      order = c.taken_law.ensures.order;
      joined = c.piece_fits_law.ensures.joined;
      fit = c.piece_fits_law.ensures.unfolded;
    } in
    leaves_more g.D.Disk.told g.D.Disk.seen g.D.Disk.may_leave g.D.Disk.moment g.D.Disk.left_since _ _ _ _
    (compaction_leaves laws base s records bodies h.fits h.version h.sound j.1.spelled j.1.for_state)
    (c.rewrite_journal-written.ensures.any_moment told s bodies h.fits h.shown.tables.files h.shown.tables.opens h.shown.tables.version_is
    j.1.settled)

pub returns-in-Err-clause-any_moment : goal.returns-in-Err-clause-any_moment
returns-in-Err-clause-any_moment g c = λ told base s L records bodies h j.
    let laws : SnapshotLaws = record {
      keeps = c.order_law.ensures.keeps;
      taken = c.taken_law.ensures.all;
      order = c.taken_law.ensures.order;
      joined = c.piece_fits_law.ensures.joined;
      fit = c.piece_fits_law.ensures.unfolded;
    } in
    leaves_more g.D.Disk.told g.D.Disk.seen g.D.Disk.may_leave g.D.Disk.moment g.D.Disk.left_since _ _ _ _
    (compaction_leaves laws base s records bodies h.fits h.version h.sound j.1.spelled j.1.for_state)
    (c.rewrite_journal-written.ensures.any_moment told s bodies h.fits h.shown.tables.files h.shown.tables.opens h.shown.tables.version_is
    j.1.settled)
