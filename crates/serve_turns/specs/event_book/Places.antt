-- Whether a frame has a message at a place that asks something of the server, as a test.
use Rattle.std.specs.Prelude.{ℕ, ◌+◌, ◌==◌, nat_le, Bool, true, false, ◌&&◌, length, slice_get, Option, Some, None}
use Rattle.conn_core.specs.message_replies.Replying.{has_message_event}
use Rattle.conn_core.specs.declared.frame_messages.checked.Checked.{Checked}
use Rattle.conn_core.specs.declared.frame_messages.checked.CheckedFrame.{CheckedFrame}

-- with its header's room, inside the frame's bytes
abbrev pub is_inside : Checked → ℕ → Bool
is_inside m size = nat_le (m.span.start + 64) m.span.end && nat_le m.span.end size

-- ACCESS_DENIED, if a fault was found (MS-ERREF 2.3.1)
abbrev pub is_denied : Option ℕ → Bool
is_denied None = true
is_denied (Some status) = status == 0xc000_0022

abbrev pub asks_in : Option Checked → ℕ → Bool
asks_in None size = false
asks_in (Some m) size = is_inside m size && (is_denied m.fault && has_message_event m)

abbrev pub is_asked : CheckedFrame → ℕ → Bool
is_asked x at = asks_in (slice_get x.messages.items at) (length x.bytes.items)
