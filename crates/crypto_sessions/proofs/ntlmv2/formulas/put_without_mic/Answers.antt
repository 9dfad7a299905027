use Rattle.std.proofs.Common.{append_assoc, rules}
use Rattle.std.proofs.lemmas.Result.{IfOk-equal}
use Rattle.crypto_sessions.proofs.ntlmv2.formulas.put_without_mic.Goals as goal

pub returns : goal.returns
returns c = search (rules, IfOk-equal, append_assoc)
