-- A dialog's line: with its keys, and behind a response.
use Rattle.std.proofs.Common.{◌≡◌, ℕ, true, sym, ap, subst, ◌∙◌}
use Rattle.spec_exchange.specs.Client.{Apart}
use Rattle.spec_crypto.specs.declared.sessions.material.Keys.{Keys}
use Rattle.spec_crypto.specs.sessions.Nonces.{NonceState}
use Rattle.crypto_sessions.specs.session_keys.Sealing.{HasCipher}
use Rattle.spec_wire.specs.declared.messages.header.Header.{Header}
use Rattle.spec_world.specs.Ends.{ClientEnd}
use Rattle.spec_world.specs.Dialog.{paid_in}
use Rattle.client_ends.specs.declared.ends.line.Line.{Line}
use Rattle.client_ends.specs.ends.Shown.{EndKeeps, ShowsLine, EndShowsTalk}
use Rattle.client_ends.specs.declared.response_faults.setup.Ended.{Ended}
use Rattle.client_ends.specs.dialog_calls.Ending.{DialogTakes}

pub keyed_line : (old new : Line) (n : ClientEnd) (e : Ended) (number : ℕ) → EndShowsTalk old n
    → DialogTakes old e number new → n.keys ≡ e.keys
    → n.encrypts ≡ e.encrypts → n.channel ≡ number → n.counter ≡ 0 → (e.encrypts ≡ true → HasCipher e.keys) → ShowsLine new n
keyed_line old new n e number s t keys encrypts channel counter sealing = (
  t.talk n s,
  record {
    keys = keys ∙ sym t.keys;
    encrypts = encrypts ∙ sym t.encrypts;
    sealing = λ on. subst (λ (k : Keys). HasCipher k) (sym t.keys) (sealing (sym t.encrypts ∙ on));
    channel = channel ∙ sym t.channel;
    counter = counter ∙ sym t.counter;
  },
)

-- the last response's credits are paid in
pub paid_line : (old mid : Line) (n : ClientEnd) (head : Header) → ShowsLine old n → EndShowsTalk mid (paid_in n head) → EndKeeps old mid
    → ShowsLine mid (record (paid_in n head) { stage = Apart })
paid_line old mid n head s paid keeps = (
  record { purse = paid.purse; awaited = paid.awaited },
  record {
    keys = s.1.keys ∙ sym keeps.keys;
    encrypts = s.1.encrypts ∙ sym keeps.encrypts;
    sealing = λ on. subst (λ (k : Keys). HasCipher k) (sym keeps.keys) (s.1.sealing (sym keeps.encrypts ∙ on));
    channel = s.1.channel ∙ ap (λ (k : NonceState). k.channel) (sym keeps.nonces);
    counter = s.1.counter ∙ ap (λ (k : NonceState). k.counter) (sym keeps.nonces);
  },
)
