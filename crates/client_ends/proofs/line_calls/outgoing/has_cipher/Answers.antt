use Rattle.client_ends.proofs.line_calls.Sent.{lacks_cipher, past_ciphers}
use Rattle.client_ends.proofs.line_calls.outgoing.has_cipher.Goals as goal

pub returns-then-cipher-lt1 : goal.returns-then-cipher-lt1
returns-then-cipher-lt1 c = record { yes = λ e. absurd cc; none = λ e h. lacks_cipher c.args.keys.now c.if-cipher-lt1.true h }

pub returns-then-cipher-gt4 : goal.returns-then-cipher-gt4
returns-then-cipher-gt4 c = record { yes = λ e. absurd cc; none = λ e h. past_ciphers c.args.keys.now c.if-cipher-gt4.true h }

pub returns : goal.returns
returns c = record {
  yes = λ e. record { least = c.if-cipher-lt1.false; most = c.if-cipher-gt4.false };
  none = λ e h. absurd cc;
}
