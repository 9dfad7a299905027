use Rattle.std.proofs.Common.{ℕ, ◌&&◌, rules}
use Rattle.spec_exchange.specs.Files.{exists}
use Rattle.std.proofs.lemmas.Fn.{filter_same}
use Rattle.server_core.proofs.durable_state.Shown.{forgotten}
use Rattle.server_core.proofs.durable_state.durable.Durable.forget_unmarked.Goals as goal

pub returns : goal.returns
returns c = λ s h. let files = h.files in forgotten c.args.self.now c.retain.new.self s h
    (filter_same _ (λ (f : ℕ). exists s f && s.delete_pending f) _ (λ x b f' k. search rules) _ _ c.retain.ensures.filtered)
