use Rattle.std.proofs.Common.{◌≡◌, ◌++◌, drop}
use Rattle.serve_command.specs.Serving.{front_of}
use Rattle.serve_command.proofs.lines.front_of.Given as goal

abbrev pub invariant-loop-end : goal.invariant-loop-end
invariant-loop-end l = l.front.items ++ front_of (drop l.end-index l.ends) ≡ front_of l.ends
