use Rattle.std.proofs.Common.{◌∙◌, arith}
use Rattle.world_steps.proofs.Refusing.{result_with}
use Rattle.world_steps.proofs.dialogs.Near.{set_becomes, there_is}
use Rattle.world_steps.proofs.dialogs.fronting.take_out.Goals as goal

pub returns-then-within : goal.returns-then-within
returns-then-within c = result_with c.talk_of.result (λ t talk. record {
  channel = c.replace-channel.result;
  there = there_is c.args.channels.now.items c.args.k c.replace-channel.result c.index_mut.result.now
      (let below = c.if-within.true in let counted = c.len.ensures in omega arith)
      (c.replace-channel.ensures.value ∙ c.index_mut.ensures.value);
  talk = talk;
  blank = c.replace-channel.new.dest;
  out = set_becomes c.args.k c.args.channels.now.items c.replace-channel.new.dest;
}) c.talk_of.ensures
