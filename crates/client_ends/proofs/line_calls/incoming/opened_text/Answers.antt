use Rattle.client_ends.proofs.line_calls.incoming.opened_text.Goals as goal

pub opened_under-requires : goal.opened_under-requires
opened_under-requires c = c.has_cipher-ciphered.ensures.yes c.if-ciphered.true

pub returns-else-ciphered : goal.returns-else-ciphered
returns-else-ciphered c = λ n s on. absurd (c.has_cipher-ciphered.ensures.none c.if-ciphered.false (s.sealing on))
