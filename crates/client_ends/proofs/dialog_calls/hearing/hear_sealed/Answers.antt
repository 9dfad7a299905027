use Rattle.client_ends.proofs.dialog_calls.hearing.hear_sealed.Goals as goal

pub open_tree-requires : goal.open_tree-requires
open_tree-requires c = record { short = c.requires; cipher = c.has_cipher-ciphered.ensures.yes c.if-ciphered.true }

pub returns-then-ciphered : goal.returns-then-ciphered
returns-then-ciphered c = c.open_tree.ensures

pub returns-else-ciphered : goal.returns-else-ciphered
returns-else-ciphered c = λ n number s on. absurd (c.has_cipher-ciphered.ensures.none c.if-ciphered.false (s.1.sealing on))
