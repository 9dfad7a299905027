use Rattle.server_core.proofs.durable_state.Leaving.{guid_kept}
use Rattle.server_core.proofs.durable_state.durable.Durable.keep_guid.Goals as goal

pub returns : goal.returns
returns c = λ s h r. guid_kept c.args.self.now c.expire_guid.new.self s c.args.client c.args.guid h (c.expire_guid.ensures.shown s
    (c.reserve_expired.ensures.same s h.opens) r)
