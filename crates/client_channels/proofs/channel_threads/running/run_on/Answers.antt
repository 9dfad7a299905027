use Rattle.std.proofs.Common.{ℕ, subst}
use Rattle.client_steps.specs.declared.whole_client.client.Client.{Client as Core}
use Rattle.client_channels.proofs.channel_threads.Splitting.{if_ok_map}
use Rattle.client_channels.specs.channel_threads.Running.{ChannelsRan}
use Rattle.client_channels.proofs.channel_threads.running.run_on.Goals as goal

pub returns-in-Ok : goal.returns-in-Ok
returns-in-Ok g c =
    let P : ℕ → Core → Type 0 = λ n client. ChannelsRan g.N.L.Link.told g.N.L.Link.given g.N.L.Link.left g.N.L.Link.written g.N.L.Link.faults
    g.N.L.Link.ended (g.G.Gate.bars c.args.gate.now) c.args.config.now c.args.outside.now.seed g.N.Net.faults n c.args.ops.items client in
    if_ok_map (λ client. P c.in-Ok.channels client) (λ client. P c.args.channels client) c.run_few.result
    (λ client h. subst (λ (n : ℕ). P n client) c.in-Ok.ensures.1 h) c.run_few.ensures
