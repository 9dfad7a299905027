-- The server's state changes between two messages: what is told of a frame's first messages stays.
use Rattle.std.proofs.Common.{ℕ, List, Option}
use Rattle.spec_exchange.specs.State as model
use Rattle.spec_world.specs.Settings.{ServerSettings}
use Rattle.spec_world.specs.Ends.{ServerEnd, Logons}
use Rattle.spec_world.specs.Hearing as hearing
use Rattle.spec_world.specs.Related as related
use Rattle.spec_world.specs.Mishaps.{Owned}
use Rattle.conn_core.specs.declared.frame_messages.checked.CheckedFrame.{CheckedFrame}
use Rattle.conn_core.specs.declared.frame_events.handing.Dealt.{Dealt}
use Rattle.conn_core.specs.frame_events.SoFar.{Facts}

-- as others left it meanwhile
abbrev pub found_at : Owned → model.Server → Logons → Owned
found_at w s L = record w { dealt = record w.dealt { going = record w.dealt.going { server = s; logons = L } } }

pub jumped : (z : ServerSettings) (k now : ℕ) (fresh : List ℕ) (s : model.Server) (L : Logons) (f : ServerEnd)
    (cs : List hearing.Checked) (at from : ℕ) (x : CheckedFrame) (d : Dealt) (y : Option related.Carry) (more : List model.Record)
    (w : Owned) (t : model.Server) (M : Logons) → Facts z k now fresh s L f cs at from x d y more w
    → Facts z k now fresh s L f cs at from x d y more (found_at w t M)
jumped z k now fresh s L f cs at from x d y more w t M far = record {
  goes = far.goes;
  none_missing = far.none_missing;
  acted = far.acted;
  lacked = far.lacked;
  took = far.took;
  records_are = far.records_are;
  carried_is = far.carried_is;
  done = far.done;
  taken = far.taken;
  long = far.long;
  also = far.also;
  same = far.same;
  shows = far.shows;
  commands = far.commands;
  fails = far.fails;
  said = far.said;
  rest = far.rest;
}
