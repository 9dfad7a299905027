-- What a header tells, tied to the model's message.
use Rattle.std.specs.Prelude.{◌≡◌}
use Rattle.spec_exchange.specs.State.{Message}
use Rattle.client_steps.specs.declared.sent_requests.heads.Head.{Head}

-- all else of it is the connection's: which one it is, the message id and the client's guid
pub record IsHead (h : Head) (m : Message) : Type 0 where
  pub session_is : m.session_id ≡ h.session
  pub tree_is : m.tree_id ≡ h.tree
  pub sequence_is : m.channel_sequence ≡ h.sequence
  pub replay_is : m.replay ≡ h.replay
