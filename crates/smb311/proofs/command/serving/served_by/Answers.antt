use Rattle.std.proofs.Common.{None, Some, refl}
use Rattle.server_core.specs.restart_tables.Restart.{StartRefused}
use Rattle.serve_turns.specs.link_serving.Passage.{IsOfNet}
use Rattle.smb311.proofs.command.Said.{as_said, never_none}
use Rattle.smb311.proofs.command.serving.served_by.Goals as goal

pub returns-in-Some-clause-ends : goal.returns-in-Some-clause-ends
returns-in-Some-clause-ends g c =
    as_said g.D.Disk.told g.D.Disk.seen g.D.Disk.may_leave g.D.Disk.faults g.N.Net.listens_at g.N.Net.accepted g.N.Net.faults
    g.N.L.Link.told g.N.Net.sent
    (IsOfNet g.N.L.Link.told g.N.L.Link.given g.N.L.Link.left g.N.L.Link.written g.N.L.Link.faults g.N.L.Link.ended g.N.L.Link.number
    g.N.Net.accepted g.N.Net.sent)
    (StartRefused g.D.Disk.told g.D.Disk.seen g.D.Disk.may_leave g.D.Disk.moment g.D.Disk.left_since g.D.Disk.faults) c.args.disk
    c.args.net c.serve.result.disk c.serve.result.net (g.S.Source.left c.args.source.now) (g.S.Source.left c.serve.new.source)
    (g.S.Source.faults c.args.source.now) (g.S.Source.faults c.serve.new.source) (g.O.Sink.written c.args.sink.now)
    (g.O.Sink.written c.serve.new.sink) (g.O.Sink.faults c.args.sink.now) (g.O.Sink.faults c.serve.new.sink) (Some c.in-Some.said) _
    c.serve.result.ending c.in-Some.ensures c.serve.ensures

pub returns-in-Some-clause-words_first : goal.returns-in-Some-clause-words_first
returns-in-Some-clause-words_first g c = λ e. absurd (never_none _ _ c.in-Some.ensures e)

pub returns-in-None-clause-ends : goal.returns-in-None-clause-ends
returns-in-None-clause-ends g c =
    as_said g.D.Disk.told g.D.Disk.seen g.D.Disk.may_leave g.D.Disk.faults g.N.Net.listens_at g.N.Net.accepted g.N.Net.faults
    g.N.L.Link.told g.N.Net.sent
    (IsOfNet g.N.L.Link.told g.N.L.Link.given g.N.L.Link.left g.N.L.Link.written g.N.L.Link.faults g.N.L.Link.ended g.N.L.Link.number
    g.N.Net.accepted g.N.Net.sent)
    (StartRefused g.D.Disk.told g.D.Disk.seen g.D.Disk.may_leave g.D.Disk.moment g.D.Disk.left_since g.D.Disk.faults) c.args.disk
    c.args.net (Some c.args.disk) c.args.net (g.S.Source.left c.args.source.now) (g.S.Source.left c.args.source.now)
    (g.S.Source.faults c.args.source.now) (g.S.Source.faults c.args.source.now) (g.O.Sink.written c.args.sink.now)
    (g.O.Sink.written c.usage.new.sink) (g.O.Sink.faults c.args.sink.now) (g.O.Sink.faults c.usage.new.sink) None _ c.usage.result
    c.in-None.ensures (refl, refl, refl, refl, c.usage.ensures)

pub returns-in-None-clause-words_first : goal.returns-in-None-clause-words_first
returns-in-None-clause-words_first g c = λ e. refl
