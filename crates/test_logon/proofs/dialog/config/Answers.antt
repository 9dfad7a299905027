use Rattle.std.proofs.Common.{ℕ, ◌<◌, List, length, sym, subst, arith}
use Rattle.test_logon.proofs.dialog.config.Goals as goal

pub returns : goal.returns
returns c = record {
  ciphers = subst (λ (xs : List ℕ). length xs < 32767) (sym c.in_ok-ciphers.ensures) (omega arith);
  signings = subst (λ (xs : List ℕ). length xs < 32767) (sym c.in_ok-signings.ensures) (omega arith);
}
