use Rattle.std.proofs.Common.{◌+◌, ◌-◌, refl, sym, ap, subst, vec_capacity}
use Rattle.journal.specs.disk_journal.Journal.{JournalState, JournalSettled}
use Rattle.journal.proofs.disk_journal.Rest.{rewound, all_handed, same_form}
use Rattle.journal.proofs.disk_journal.journal.Journal.bodies.Goals as goal

pub returns-clause-all : goal.returns-clause-all
returns-clause-all g c = λ told bodies settled.
    let s = subst (λ j. JournalSettled g.D.Disk.seen g.D.Disk.may_leave j bodies) (sym c.self.view_is) settled in
    let begun : JournalState g.row.D.Denot = record {
      disk = c.self.inside.disk;
      form = c.self.inside.form;
      end = c.self.inside.gate + 1;
      used = c.self.inside.used;
      count = c.self.inside.count;
      taken = 0;
      next = 8;
      waits = c.self.inside.waits;
      stopped = c.self.inside.stopped;
      room = vec_capacity c.self.inside.buffer - 4;
    } in
    let out = c.rest-answer.ensures.in_order told bodies (rewound g.D.Disk.seen g.D.Disk.may_leave bodies _ begun s refl) in
    all_handed g.D.Disk.seen g.D.Disk.may_leave bodies _ begun c.rest-answer.new.self _ c.rest-answer.result s refl
    (same_form g.D.Disk.faults begun c.rest-answer.new.self c.rest-answer.result c.rest-answer.ensures.cause) out
    (ap (λ (j : JournalState g.row.D.Denot). record j { taken = c.self.inside.taken; next = c.self.inside.next })
    c.self-2.view_is)
