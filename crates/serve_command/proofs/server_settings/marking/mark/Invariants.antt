use Rattle.std.proofs.Common.{◌≡◌, ◌++◌, length}
use Rattle.serve_command.specs.server_settings.Served.{marked, marked_from, own_from, own_of}
use Rattle.serve_command.proofs.server_settings.marking.mark.Given as goal

abbrev pub invariant-loop-line : goal.invariant-loop-line
invariant-loop-line l = (l.marked.text.items ++ marked_from l.marked.own l.rest ≡ marked l.text)
    × (own_from l.marked.own l.rest ≡ own_of l.text)

abbrev pub decreases-loop-line : goal.decreases-loop-line
decreases-loop-line l = length l.rest
