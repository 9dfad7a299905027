-- The client's first token can be written, and is short.
use Rattle.std.proofs.Common.{◌^◌, ◌<◌, length, arith}
use Rattle.spec_wire.specs.messages.Places.{le}
use Rattle.spec_crypto.specs.tokens.Der.{spelled}
use Rattle.spec_crypto.specs.tokens.Spnego.{init_spelling}
use Rattle.spec_crypto.specs.tokens.Answer.{first_message}
use Rattle.spec_crypto.specs.tokens.Tokens.{first_token}

pub first_short : length first_token < 65536
unfolding first_token init_spelling spelled first_message le
first_short = omega arith

pub first_writable : length first_message < 2 ^ 30
unfolding first_message le
first_writable = omega arith
