use Rattle.std.proofs.Common.{sym, ◌∙◌}
use Rattle.client_channels.proofs.channel_threads.running.ended.Goals as goal

pub returns-then-settled : goal.returns-then-settled
returns-then-settled c = record {
  going = c.if-stopped.false;
  settled = λ d s. sym (c.is_settled-settled.ensures.told d s) ∙ c.if-settled.true;
  client_is = λ d s. c.end.ensures.shown d (c.is_settled-settled.ensures.shown d s);
}
