use denote.Param.Send.{sendable}
use Rattle.atomic_table.proofs.send_lease.SendLease.TheSendSync.{the_sync as lease_sync}
use Rattle.atomic_table.proofs.shared.Seat.TheSendSync.{the_send as seat_send}
use Rattle.atomic_table.proofs.shared.Shared.TheSendSync.{the_sync as table_sync}
use Rattle.std.proofs.Crossing.{crosses}
use Rattle.std.proofs.Common.{◌≡◌, ℕ, ◌+◌, ◌<◌, ◌∙◌, [], length, vec_len, ap, sym, subst}
use Rattle.serve_turns.specs.shared_book.Words.{view_of, IsSeatOf}
use Rattle.client_channels.specs.channel_threads.Seating.{IsAlone}
use Rattle.client_channels.proofs.Sending.{client_send}
use Rattle.client_channels.proofs.channel_threads.Each.{at_each, same_images}
use Rattle.client_channels.proofs.channel_threads.Ending.{has_worked}
use Rattle.client_channels.proofs.channel_threads.running.work_others.Goals as goal

pub returns-clause-own : goal.returns-clause-own
returns-clause-own g c = λ i d within.
    let given = c.in_ok-given.ensures in
    let count : vec_len c.in_ok-given.given ≡ length c.in_ok-given.given.items = c.in_ok-given.given.ok.0 in
    let before : vec_len c.args.jobs ≡ length c.args.jobs.items = c.args.jobs.ok.0 in
    let inside : i < length c.args.jobs.items = subst (λ (n : ℕ). i < n) (sym count ∙ given.len ∙ before) within in
    let it = given.each i d inside in
    let job = at_each (λ k j. IsSeatOf c.args.book.now j.seat × (j.channel ≡ k + 1) × IsAlone (view_of j.seat) × ((view_of j.seat).own ≡ []))
    c.args.jobs.items
    c.requires.own i it.1.job inside it.1.job_read in (
      it.1.call.met.0 ∙ job.0,
      (ap (λ x. x.1.1.0) it.1.call.met.1.0 ∙ job.2.0, ap (λ x. x.1.1.1) it.1.call.met.1.0 ∙ job.2.1),
    )

pub returns-clause-works : goal.returns-clause-works
returns-clause-works g c = λ i d within.
    let given = c.in_ok-given.ensures in
    let count : vec_len c.in_ok-given.given ≡ length c.in_ok-given.given.items = c.in_ok-given.given.ok.0 in
    let before : vec_len c.args.jobs ≡ length c.args.jobs.items = c.args.jobs.ok.0 in
    let inside : i < length c.args.jobs.items = subst (λ (n : ℕ). i < n) (sym count ∙ given.len ∙ before) within in
    let it = given.each i d inside in
    let job = at_each (λ k j. IsSeatOf c.args.book.now j.seat × (j.channel ≡ k + 1) × IsAlone (view_of j.seat) × ((view_of j.seat).own ≡ []))
    c.args.jobs.items
    c.requires.own i it.1.job inside it.1.job_read in
    has_worked g.N.L.Link.told g.N.L.Link.given g.N.L.Link.left g.N.L.Link.written g.N.L.Link.faults g.N.L.Link.ended
    (g.G.Gate.bars c.args.gate.now) c.args.config.now
    c.args.outside.now.seed g.N.Net.faults it.1.job.channel (i + 1) (view_of it.1.job.seat).own _ job.1 job.3 it.1.call.met.1.1

pub returns-clause-numbers : goal.returns-clause-numbers
returns-clause-numbers g c =
    let given = c.in_ok-given.ensures in
    let count : vec_len c.in_ok-given.given ≡ length c.in_ok-given.given.items = c.in_ok-given.given.ok.0 in
    let before : vec_len c.args.jobs ≡ length c.args.jobs.items = c.args.jobs.ok.0 in
    let long : length c.in_ok-given.given.items ≡ length c.args.jobs.items = sym count ∙ given.len ∙ before in
    same_images (λ w. (view_of w.seat).number) (λ j. (view_of j.seat).number) c.in_ok-given.given.items c.args.jobs.items long
    (λ k d e within.
    let it = given.each k d (subst (λ (n : ℕ). k < n) long within) in
    ap (λ x. x.1.0) it.1.call.met.1.0 ∙ sym (ap (λ j. (view_of j.seat).number) (it.1.job_is e)))

pub map_vec-requires-send-J : goal.map_vec-requires-send-J
map_vec-requires-send-J g c κs within = search (client_send, seat_send, sendable, crosses) depth 40 fits 20000

pub map_vec-requires-send-X : goal.map_vec-requires-send-X
map_vec-requires-send-X g c κs within =
    let link = c.type_bounds.send-N-L in search (client_send, seat_send, sendable, crosses) depth 40 fits 20000

pub map_vec-requires-sync-F : goal.map_vec-requires-sync-F
map_vec-requires-sync-F g c κs within =
    let net = c.type_bounds.send-N in
    let rt = c.type_bounds.sync-W in
    let gate = c.type_bounds.sync-G in search (client_send, table_sync, lease_sync, sendable, crosses) depth 40 fits 20000
