use Rattle.std.proofs.Common.{◌≡◌, ℕ, true, false, nat_lt, nat_le, arith}
use Rattle.std.proofs.lemmas.Bool.Decides.{nat_tests}
use Rattle.store_opens.proofs.open_index.IndexLemmas.{below_first}
use Rattle.store_opens.proofs.open_index.index.is_first_met.Goals as goal

above : (a now : ℕ) → nat_le a now ≡ false → nat_lt now a ≡ true
above a now e = grind (arith, nat_tests)

pub returns-in-Some : goal.returns-in-Some
returns-in-Some c = λ e o d l. below_first c.in-Some.first.now.0 c.in-Some.first.now.1 c.args.now d o _
    (λ h. c.in-Some.ensures.least (d, o) h) (above _ _ e) l
