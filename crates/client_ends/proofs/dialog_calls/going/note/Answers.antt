use Rattle.std.proofs.Common.{refl}
use Rattle.client_ends.proofs.dialog_calls.going.note.Goals as goal

pub returns : goal.returns
returns c = record {
  talk = c.pay_in.ensures.shows;
  chain = c.take.ensures.behind;
  rest = record {
    keys = c.pay_in.ensures.keeps.keys;
    encrypts = c.pay_in.ensures.keeps.encrypts;
    nonces = c.pay_in.ensures.keeps.nonces;
    config = refl;
    base = refl;
    challenge = refl;
    chosen = refl;
    bound = refl;
    previous = refl;
    session = refl;
  };
}
