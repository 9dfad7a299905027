use Rattle.std.proofs.Common.{◌≡◌, ◌+◌, ◌++◌, drop}
use Rattle.std.specs.String.{string_bytes}
use Rattle.serve_turns.specs.link_serving.Lines.{ended_lines}
use Rattle.serve_turns.proofs.link_serving.lines.push_lines.Given as goal

abbrev pub invariant-loop-at : goal.invariant-loop-at
invariant-loop-at l =
    string_bytes l.out ++ ended_lines l.filter (l.at + 1) (drop l.at l.connections)
    ≡ string_bytes l.fn.out ++ ended_lines l.filter 1 l.connections
