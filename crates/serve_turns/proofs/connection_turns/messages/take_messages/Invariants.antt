use Rattle.std.proofs.Common.{◌≡◌, ◌≤◌, ◌++◌, List, length, option_map, vec_capacity}
use Rattle.spec_exchange.specs.State as model
use Rattle.spec_world.specs.Ends.{Logons, ServerEnd}
use Rattle.spec_world.specs.Hearing as hearing
use Rattle.spec_world.specs.Settings.{ServerSettings}
use Rattle.conn_core.specs.Shown.{ShowsEnd}
use Rattle.conn_core.specs.frame_messages.Checking.{AreDenied, AreInOrder, ShowsFrame, holds_setup}
use Rattle.conn_core.specs.frame_events.Dealing.{Alone}
use Rattle.conn_core.specs.message_replies.Replying.{AreMessagesShort}
use Rattle.conn_core.specs.related.Carrying.{carry_of}
use Rattle.serve_turns.specs.shared_book.Words.{view_of, IsSameSeat}
use Rattle.serve_turns.specs.connection_turns.Frames.{AreAtOnce, AreOfSuch}
use Rattle.serve_turns.specs.connection_turns.Messages.{MessagesSoFar}
use Rattle.serve_turns.specs.event_book.History.{AllMeet, Course, Placed}
use Rattle.serve_turns.proofs.connection_turns.messages.take_messages.Given as goal

abbrev pub invariant-loop-at : goal.invariant-loop-at
invariant-loop-at g l =
    IsSameSeat l.fn.seat l.seat × AreInOrder l.asked × AreDenied l.asked × (length l.asked.messages.items ≡ length l.fn.asked.messages.items)
    × (length l.dealt.replies.items.items ≤ l.at) × (length l.fn.asked.messages.items ≤ vec_capacity l.dealt.replies.items)
    × AreMessagesShort l.dealt.replies.items.items × (l.asked.sealed ≡ l.fn.asked.sealed) × (l.asked.moment ≡ l.fn.asked.moment)
    × (l.state.conn ≡ l.fn.state.conn) × (holds_setup l.asked.messages.items ≡ holds_setup l.fn.asked.messages.items)
    × ((turns : List Placed) × ((view_of l.seat).own ≡ (view_of l.fn.seat).own ++ turns) × AreAtOnce l.fn.moment.time l.fn.moment.fresh turns
    × AreOfSuch (holds_setup l.fn.asked.messages.items) turns
    × ((z : ServerSettings) (h : Course) (server : model.Server) (logons : Logons) (f : ServerEnd) (F : hearing.Frame) → AllMeet z h turns
    → ShowsEnd l.fn.state.conn.id z.guid l.fn.state.conn f → ShowsFrame l.fn.asked F → Alone F.messages
    → MessagesSoFar z h l.fn.state.conn.id l.fn.moment.time l.fn.moment.fresh server logons f l.fn.state.setups F.messages l.at turns
    l.state.setups l.asked l.dealt (option_map carry_of l.carried)))
