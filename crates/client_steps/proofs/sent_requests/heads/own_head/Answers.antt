use Rattle.std.proofs.Common.{sym}
use Rattle.client_steps.proofs.sent_requests.heads.own_head.Goals as goal

pub returns : goal.returns
returns c = λ d k id s.
    record {
      session_is = sym (c.id.ensures d s.session);
      tree_is = sym (c.tree.ensures d s.session);
      sequence_is = sym (c.sequence-sequence.ensures d s.session);
      replay_is = sym (c.is_replay-replay.ensures d s);
    }
