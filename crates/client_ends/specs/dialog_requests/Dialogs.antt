-- What a dialog's message is beside its command, and what may be offered.
use Rattle.std.specs.Prelude.{◌≡◌, ℕ, ◌<◌, false, length}
use Rattle.spec_commands.specs.Tables.{bit_if}
use Rattle.spec_exchange.specs.State.{Message}
use Rattle.spec_wire.specs.messages.SessionSetup.{SessionSetupRequestValue}
use Rattle.client_ends.specs.declared.ends.config.ClientConfig.{ClientConfig}
use Rattle.client_ends.specs.declared.dialog_requests.setup.Setup.{Setup}

-- it goes out under this id, in this session or in none, in no tree
pub record IsDialogs (m : Message) (id session : ℕ) : Type 0 where
  pub number : m.message_id ≡ id
  pub logon : m.session_id ≡ session
  pub tree : m.tree_id ≡ 0
  pub sequence : m.channel_sequence ≡ 0
  pub replay : m.replay ≡ false

-- its lists fit their contexts
pub record CanOffer (c : ClientConfig) : Type 0 where
  pub ciphers : length c.ciphers < 32767
  pub signings : length c.signings < 32767

abbrev pub setup_value : Setup → SessionSetupRequestValue
setup_value s = record {
  flags = bit_if s.bound 1;
  security_mode = 1;
  capabilities = 0;
  channel = 0;
  previous_session_id = s.previous;
  security = s.token.now;
}
