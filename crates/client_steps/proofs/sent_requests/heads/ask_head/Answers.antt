use Rattle.std.proofs.Common.{refl, sym}
use Rattle.client_steps.proofs.sent_requests.heads.ask_head.Goals as goal

pub returns : goal.returns
returns c = λ d k id g s.
    record {
      session_is = sym (c.id.ensures d s.session);
      tree_is = sym (c.tree.ensures d s.session);
      sequence_is = sym (c.sequence.ensures d s.session);
      replay_is = refl;
    }
