-- The loop over a frame's messages.
use Rattle.std.proofs.Common.{◌≡◌, ℕ, ◌+◌, ◌≤◌, false, List, None, refl, arith}
use Rattle.spec_crypto.specs.sessions.Nonces.{NonceState}
use Rattle.spec_wire.specs.credits.Window.{HeldIds}
use Rattle.spec_world.specs.Settings.{ServerSettings}
use Rattle.spec_world.specs.Ends.{ServerEnd}
use Rattle.spec_world.specs.Answering as answering
use Rattle.conn_core.specs.declared.conn.Conn.{Conn}
use Rattle.conn_core.specs.declared.message_replies.saying.Answers.{Answers}
use Rattle.conn_core.specs.declared.reply_frames.adding.Joining.{Joining}
use Rattle.conn_core.specs.declared.reply_frames.adding.Walk.{Walk}
use Rattle.conn_core.specs.reply_frames.Adding.{CanWait, NextFits}
use Rattle.conn_core.specs.reply_frames.Walking.{IsAlike, Walks}
use Rattle.conn_core.proofs.reply_frames.Nexts.{alike_both}

abbrev pub start : Walk
start = record { place = 0; waiting = None }

pub record GoesOver (answers : Answers) (old : Conn) (x : Joining) (at : ℕ) (new : Conn) (y : Joining) (walk : Walk) : Type 0 where
  pub place : walk.place ≤ at
  pub waits : CanWait answers walk.waiting
  pub room : NextFits y.frames walk.waiting
  pub alike : IsAlike old new
  pub walks : (z : ServerSettings) (first counted : NonceState) (f g : ServerEnd) (all : List answering.SaidReply) (w : HeldIds)
      → Walks z first counted f g all w answers 0 old x start → Walks z first counted f g all w answers at new y walk

pub over_first : (answers : Answers) (old : Conn) (x : Joining) → x.frames.open ≡ false → GoesOver answers old x 0 old x start
over_first answers old x shut = record {
  place = omega arith;
  waits = tt;
  room = shut;
  alike = record { id = refl; guid = refl; salt = refl; asked = refl; logon = refl; spare = refl };
  walks = λ z first counted f g all w s. s;
}

pub over_next : (answers : Answers) (old mid new : Conn) (x j y : Joining) (at : ℕ) (walk behind : Walk)
    → GoesOver answers old x at mid j walk → behind.place ≤ at + 1 → CanWait answers behind.waiting → NextFits y.frames behind.waiting
    → IsAlike mid new
    → ((z : ServerSettings) (first counted : NonceState) (f g : ServerEnd) (all : List answering.SaidReply) (w : HeldIds)
    → Walks z first counted f g all w answers at mid j walk → Walks z first counted f g all w answers (at + 1) new y behind)
    → GoesOver answers old x (at + 1) new y behind
over_next answers old mid new x j y at walk behind g place waits room alike walks = record {
  place = place;
  waits = waits;
  room = room;
  alike = alike_both old mid new g.alike alike;
  walks = λ z first counted f h all w s. walks z first counted f h all w (g.walks z first counted f h all w s);
}
