use Rattle.std.proofs.Common.{◌≡◌, drop}
use Rattle.spec_exchange.specs.Commands.{all_lock}
use Rattle.server_checks.proofs.verdicts.form_rules.all_lock.Given as goal

abbrev pub invariant-loop-one : goal.invariant-loop-one
invariant-loop-one l = all_lock (drop l.one-index l.elements) ≡ all_lock l.elements
