use Rattle.std.proofs.Common.{◌≤◌, length, sym, arith}
use Rattle.std.proofs.lemmas.List.{drop_all}
use Rattle.crypto_sessions.proofs.ntlmv2.Forms.{behind}
use Rattle.crypto_sessions.proofs.ntlmv2.formulas.behind_mic.Goals as goal

pub returns-then-third-lt88 : goal.returns-then-third-lt88
returns-then-third-lt88 c = let short : length c.args.third.now ≤ 88 = omega arith in sym (drop_all 88 c.args.third.now short)

pub returns : goal.returns
returns c = behind 88 c.args.third.now
