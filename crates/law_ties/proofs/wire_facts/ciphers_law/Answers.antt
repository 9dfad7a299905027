use Rattle.std.proofs.Common.{ap}
use Rattle.spec_crypto.specs.sessions.Sealing.{if_given}
use Rattle.spec_world.specs.Ends.{nonce_at}
use Rattle.law_ties.proofs.wire_facts.Ciphers.{hash_length, nonce_length, begins, flagged, short}
use Rattle.law_ties.proofs.wire_facts.ciphers_law.Goals as goal

pub returns : goal.returns
returns c = record {
  lawful = record {
    hash_length = hash_length;
    verified = c.signed_verifies_law.ensures;
    opens = λ keys from_client channel counter text few id. ap if_given
        (c.sealed_opens_law.ensures keys from_client (nonce_at channel counter) text (nonce_length channel counter) few id);
    begins = begins;
    flagged = flagged;
    short = short;
  };
}
