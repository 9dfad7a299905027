-- The two ends of a connection: the client's dialog and line (MS-SMB2 3.2.1.2, 3.2.1.3), the server's connection (3.3.1.7), and
-- what the server keeps for logons (3.3.1.8).
use Rattle.std.specs.Prelude.{ℕ, Bool, false, List, [], Option, Some, None}
use Rattle.spec_exchange.specs.Client.{Stage, Apart}
use Rattle.spec_exchange.specs.Network.{Token}
use Rattle.spec_wire.specs.credits.Window.{HeldIds, first_window}
use Rattle.spec_wire.specs.credits.Purse.{Credits, first_purse}
use Rattle.spec_crypto.specs.declared.sessions.choice.Chosen.{Chosen}
use Rattle.spec_crypto.specs.declared.sessions.material.Keys.{Keys}
use Rattle.spec_crypto.specs.declared.sessions.material.Signer.{Signer}
use Rattle.spec_crypto.specs.sessions.Nonces.{nonce_of}
use Rattle.spec_crypto.specs.tokens.Tokens.{Pending}

abbrev pub no_keys : Keys
no_keys = record { signing = record { key = []; algorithm = 1 }; to_server = []; to_client = []; cipher = 0; session = 0 }

-- nothing is chosen: no cipher, and AES-CMAC to sign with
abbrev pub no_choice : Chosen
no_choice = record { cipher = 0; signing = 1; signing_told = false }

-- the 16 bytes of a nonce (2.2.41)
abbrev pub nonce_at : ℕ → ℕ → List ℕ
nonce_at channel counter = nonce_of (record { channel = channel; counter = counter })

-- ---- the client's end: a dialog until it ends well, and then a line, at the stage Apart

pub record ClientEnd : Type 0 where
  pub stage : Stage
  pub purse : Credits
  pub awaited : ℕ → Option Token  -- by message id: whose request it is that waits for its response
  pub base : List ℕ  -- the exported key of its logon, 16 bytes
  pub challenge : List ℕ  -- of its logon, 8 bytes
  pub chosen : Chosen  -- what NEGOTIATE chose
  pub transcript : List (List ℕ)  -- the messages of its dialog that are hashed
  pub keys : Keys  -- those of the session in a binding until its end, the channel's behind that
  pub encrypts : Bool
  pub channel : ℕ
  pub counter : ℕ

abbrev pub no_client_end : ClientEnd
no_client_end = record {
  stage = Apart;
  purse = first_purse;
  awaited = λ id. None;
  base = [];
  challenge = [];
  chosen = no_choice;
  transcript = [];
  keys = no_keys;
  encrypts = false;
  channel = 0;
  counter = 0;
}

-- ---- the server's end

-- a NEGOTIATE that was answered with success: the ClientGuid, what was chosen, and its request and response
pub record Greeting : Type 0 where
  pub client : ℕ
  pub chosen : Chosen
  pub transcript : List (List ℕ)

pub record ServerEnd : Type 0 where
  pub salt : List ℕ  -- 32 bytes for its NEGOTIATE response
  pub window : HeldIds
  pub asked : Bool  -- a NEGOTIATE was heard
  pub greeting : Option Greeting
  pub making : Option (List (List ℕ))  -- behind an interim response: the four messages that are hashed until then
  pub keys : Option Keys  -- of the session or channel that was made here
  pub encrypts : Bool
  pub channel : ℕ
  pub counter : ℕ

-- as an Accept leaves it
abbrev pub first_server_end : List ℕ → ServerEnd
first_server_end salt = record {
  salt = salt;
  window = first_window;
  asked = false;
  greeting = None;
  making = None;
  keys = None;
  encrypts = false;
  channel = 0;
  counter = 0;
}

-- What the server keeps for logons: by session its keys, and by connection the logon in the making. It stays under the id of a
-- session that has gone and of a connection that has ended, where no check looks at it.
pub record Logons : Type 0 where
  pub keys : ℕ → Keys
  pub pending : ℕ → Option Pending

abbrev pub no_logons : Logons
no_logons = record { keys = λ session. no_keys; pending = λ k. None }

-- ---- what was chosen on a connection, and by whom

abbrev pub chosen_on : Option Greeting → Chosen
chosen_on None = no_choice
chosen_on (Some g) = g.chosen

abbrev pub client_on : Option Greeting → ℕ
client_on None = 0
client_on (Some g) = g.client

abbrev pub signer_on : Option Keys → Option Signer
signer_on None = None
signer_on (Some keys) = Some keys.signing

-- ---- why the server ends a connection by itself

pub data ConnEnd : Type 0 where
  BadFrame : ConnEnd
  OutsideWindow : (id : ℕ) → ConnEnd
  SecondNegotiate : ConnEnd
  Unsealable : ConnEnd
  Spent : ConnEnd
  Full : ConnEnd
  Stopped : (count : ℕ) → ConnEnd  -- the server has, at this count of the disk's faults
