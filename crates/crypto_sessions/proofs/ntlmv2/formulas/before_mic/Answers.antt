use Rattle.std.proofs.Common.{◌≤◌, length, sym, arith}
use Rattle.std.proofs.lemmas.List.{take_all}
use Rattle.crypto_sessions.proofs.ntlmv2.formulas.before_mic.Goals as goal

pub returns-then-third-lt72 : goal.returns-then-third-lt72
returns-then-third-lt72 c = let short : length c.args.third.now ≤ 72 = omega arith in sym (take_all 72 c.args.third.now short)
