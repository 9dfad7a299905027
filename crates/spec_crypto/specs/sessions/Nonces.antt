-- The nonces of one end of a channel (MS-SMB2 2.2.41, Nonce): a counter and the channel's number, so that no two are the same
-- in a session and direction.
use Rattle.std.specs.Prelude.{ℕ, ◌++◌, List, replicate}
use Rattle.spec_wire.specs.messages.Places.{le}

pub record NonceState : Type 0 where
  pub channel : ℕ
  pub counter : ℕ

-- 8 bytes of counter, 2 of channel number, zeros up to 16
unfoldable pub nonce_of : NonceState → List ℕ
nonce_of n = le 8 n.counter ++ (le 2 n.channel ++ replicate 6 0)

-- the counter's last value, at which it stands still and gives nothing
abbrev pub last_counter : ℕ
last_counter = 0xffff_ffff_ffff_ffff
