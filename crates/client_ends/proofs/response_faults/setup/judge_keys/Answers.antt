use Rattle.std.proofs.Common.{sym, ◌∙◌}
use Rattle.client_ends.proofs.response_faults.Setups.{flagged_key, unsigned_key}
use Rattle.client_ends.proofs.response_faults.setup.judge_keys.Goals as goal

pub returns-then-signed : goal.returns-then-signed
returns-then-signed c =
    flagged_key c.args.keys c.args.header c.args.flags c.args.m.now c.judge_flags.result (sym c.verify-signed.ensures ∙ c.if-signed.true)
    c.judge_flags.ensures

pub returns-else-signed : goal.returns-else-signed
returns-else-signed c = unsigned_key c.args.keys c.args.flags c.args.m.now (sym c.verify-signed.ensures ∙ c.if-signed.false)
