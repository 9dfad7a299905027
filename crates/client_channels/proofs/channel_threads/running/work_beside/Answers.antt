use denote.Param.Send.{sendable}
use Rattle.atomic_table.proofs.send_lease.SendLease.TheSendSync.{the_sync as lease_sync}
use Rattle.atomic_table.proofs.shared.Seat.TheSendSync.{the_send as seat_send}
use Rattle.atomic_table.proofs.shared.Shared.TheSendSync.{the_sync as table_sync}
use Rattle.std.proofs.Crossing.{crosses}
use Rattle.std.proofs.Common.{◌∷◌, ◌+◌, refl}
use Rattle.std.proofs.lemmas.Result.{IfOk-at_ok}
use Rattle.serve_turns.specs.shared_book.Words.{view_of}
use Rattle.client_channels.specs.channel_threads.Nonces.{HasWorked}
use Rattle.client_channels.specs.channel_threads.Seating.{EachAt}
use Rattle.client_channels.proofs.Sending.{client_send}
use Rattle.client_channels.proofs.channel_threads.Each.{each_cons, each_same}
use Rattle.client_channels.proofs.channel_threads.Ending.{has_worked}
use Rattle.client_channels.proofs.channel_threads.running.work_beside.Goals as goal

pub returns-clause-works : goal.returns-clause-works
returns-clause-works g c =
    let mine = c.join-worked.result.1 in
    let worked = c.in_ok-all.all.items in
    each_same (λ k w. HasWorked g.N.L.Link.told g.N.L.Link.given g.N.L.Link.left g.N.L.Link.written g.N.L.Link.faults g.N.L.Link.ended
    (g.G.Gate.bars c.args.gate.now) c.args.config.now
    c.args.outside.now.seed g.N.Net.faults k (view_of w.seat).own) c.insert.new.self.items (mine ∷ worked) c.in_ok-insert.ensures.items
    (each_cons (λ k w. HasWorked g.N.L.Link.told g.N.L.Link.given g.N.L.Link.left g.N.L.Link.written g.N.L.Link.faults g.N.L.Link.ended
    (g.G.Gate.bars c.args.gate.now) c.args.config.now
    c.args.outside.now.seed g.N.Net.faults k (view_of w.seat).own) mine worked
    (has_worked g.N.L.Link.told g.N.L.Link.given g.N.L.Link.left g.N.L.Link.written g.N.L.Link.faults g.N.L.Link.ended
    (g.G.Gate.bars c.args.gate.now) c.args.config.now
    c.args.outside.now.seed g.N.Net.faults 0 0 (view_of c.args.first).own _ refl c.requires.first.2 c.join-worked.ensures.second.1.1)
    (IfOk-at_ok (λ v. EachAt (λ k w. HasWorked g.N.L.Link.told g.N.L.Link.given g.N.L.Link.left g.N.L.Link.written g.N.L.Link.faults g.N.L.Link.ended
    (g.G.Gate.bars c.args.gate.now)
    c.args.config.now c.args.outside.now.seed g.N.Net.faults (k + 1) (view_of w.seat).own) v.items) c.in_ok-all.was
    c.join-worked.ensures.first.1.0))

pub join-worked-requires-send-F : goal.join-worked-requires-send-F
join-worked-requires-send-F g c κs within =
    let net = c.type_bounds.send-N in
    let rt = c.type_bounds.sync-W in
    let gate = c.type_bounds.sync-G in
    search (client_send, seat_send, table_sync, lease_sync, sendable, crosses) depth 40 fits 20000

pub join-worked-requires-send-A : goal.join-worked-requires-send-A
join-worked-requires-send-A g c κs within =
    let link = c.type_bounds.send-N-L in search (client_send, seat_send, sendable, crosses) depth 40 fits 20000
