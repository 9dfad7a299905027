use Rattle.std.proofs.Common.{◌≡◌, take, option_map}
use Rattle.client_ends.specs.ends.Shown.{token_of, awaited_in}
use Rattle.client_ends.proofs.ends.line.found_in.Given as goal

abbrev pub invariant-loop-o : goal.invariant-loop-o
invariant-loop-o l = option_map token_of l.found ≡ awaited_in (take l.o-index l.awaited) l.id
