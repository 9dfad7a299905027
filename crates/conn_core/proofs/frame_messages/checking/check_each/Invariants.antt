use Rattle.std.proofs.Common.{◌≡◌, drop, length}
use Rattle.conn_core.specs.frame_messages.Checking.{AllDenied}
use Rattle.conn_core.proofs.frame_messages.Steps.{Loops, Places}
use Rattle.conn_core.proofs.frame_messages.checking.check_each.Given as goal

abbrev pub invariant-loop-part : goal.invariant-loop-part
invariant-loop-part l =
    Loops l.fn.conn l.conn l.fn.sealed l.fn.bytes (drop l.fn.from l.fn.bytes) l.fn.spans l.part-index l.barred l.messages.items
    × Places l.fn.from (length l.fn.bytes) l.fn.spans l.part-index l.messages.items × AllDenied l.messages.items
    × (l.conn.spare ≡ l.fn.conn.spare)
