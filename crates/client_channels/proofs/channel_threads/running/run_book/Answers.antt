use Rattle.std.proofs.Common.{◌∙◌, ap}
use Rattle.serve_turns.specs.shared_book.Words.{view_of}
use Rattle.client_channels.proofs.channel_threads.Ending.{ran}
use Rattle.client_channels.proofs.channel_threads.Splitting.{if_ok_map}
use Rattle.client_channels.specs.channel_threads.Running.{ChannelsRan, HasRun}
use Rattle.client_channels.proofs.channel_threads.running.run_book.Goals as goal

pub submit_all-requires-clause-none : goal.submit_all-requires-clause-none
submit_all-requires-clause-none g c = ap (λ v. v.own) c.requires.first.2

pub run_all-requires-clause-alone : goal.run_all-requires-clause-alone
run_all-requires-clause-alone g c = λ lifetimes bounds. (
  ap (λ x. x.1.1.0) c.submit_all.ensures.same.2 ∙ ap (λ v. v.ended) c.requires.first.2,
  ap (λ x. x.1.1.1) c.submit_all.ensures.same.2 ∙ ap (λ v. v.made) c.requires.first.2,
)

pub returns-in-Ok : goal.returns-in-Ok
returns-in-Ok g c =
    if_ok_map (λ client. HasRun (view_of c.run_all.new.seat) client)
    (λ client. ChannelsRan g.N.L.Link.told g.N.L.Link.given g.N.L.Link.left g.N.L.Link.written g.N.L.Link.faults g.N.L.Link.ended
    (g.G.Gate.bars c.args.gate.now) c.args.config.now
    c.args.outside.now.seed g.N.Net.faults c.args.channels c.args.ops.items client) c.closed.result
    (λ client h.
    ran g.N.L.Link.told g.N.L.Link.given g.N.L.Link.left g.N.L.Link.written g.N.L.Link.faults g.N.L.Link.ended
    (g.G.Gate.bars c.args.gate.now) c.args.config.now
    c.args.outside.now.seed g.N.Net.faults c.requires.first.0 (view_of c.args.seat) (view_of c.submit_all.new.seat)
    (view_of c.run_all.new.seat) c.args.channels
    c.args.ops.items client c.requires.first.1 c.requires.first.2 c.submit_all.ensures.same.2 c.submit_all.ensures.submits
    c.run_all.ensures.kept
    c.in-Ok.ensures.channels c.in-Ok.ensures.whole h) c.closed.ensures
