use Rattle.std.proofs.Common.{◌≡◌, ◌≤◌, ◌++◌, List, length, option_map, vec_capacity}
use Rattle.spec_exchange.specs.State.{Record, Server}
use Rattle.spec_world.specs.Settings.{ServerSettings}
use Rattle.spec_world.specs.Ends.{Logons, ServerEnd}
use Rattle.spec_world.specs.Hearing as hearing
use Rattle.spec_world.specs.Mishaps.{Owned}
use Rattle.conn_core.specs.Shown.{ShowsEnd}
use Rattle.conn_core.specs.frame_messages.Checking.{AreInOrder, ShowsFrame}
use Rattle.conn_core.specs.related.Carrying.{carry_of}
use Rattle.conn_core.specs.served.Serving.{Onward}
use Rattle.conn_core.specs.message_replies.Replying.{AreMessagesShort}
use Rattle.conn_core.specs.frame_events.Dealing.{Alone}
use Rattle.conn_core.specs.frame_events.SoFar.{DealtSoFar}
use Rattle.conn_core.proofs.frame_events.dealing.carry_out.Given as goal

abbrev pub invariant-loop-at : goal.invariant-loop-at
invariant-loop-at g l =
    AreInOrder l.asked × (length l.asked.messages.items ≡ length l.fn.asked.messages.items) × (length l.dealt.replies.items.items ≤ l.at)
    × (length l.fn.asked.messages.items ≤ vec_capacity l.dealt.replies.items) × AreMessagesShort l.dealt.replies.items.items
    × (l.asked.sealed ≡ l.fn.asked.sealed) × (l.asked.moment ≡ l.fn.asked.moment)
    × ((z : ServerSettings) (s : Server) (L : Logons) (records : List Record) (f : ServerEnd) (F : hearing.Frame)
    → g.S.Serve.shows l.fn.server z.users s L records → ShowsEnd l.fn.conn.id z.guid l.fn.conn f → ShowsFrame l.fn.asked F
    → Alone F.messages → (w : Owned) × (more : List Record)
    × DealtSoFar z l.fn.conn.id l.fn.moment.time l.fn.moment.fresh s L f F.messages l.at l.at l.asked l.dealt
    (option_map carry_of l.carried) more w
    × Onward (g.S.Serve.shows l.server z.users) (g.S.Serve.stopped l.fn.server) (g.S.Serve.stopped l.server) w.dealt.going.server
    w.dealt.going.logons (records ++ more))
