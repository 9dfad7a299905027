-- All messages of a frame: before the first one, and behind the last one.
use Rattle.std.proofs.Common.{◌≡◌, ◌≤◌, ℕ, ◌+◌, false, List, [], ◌++◌, length, take, Option, None, Result, Ok, Err, refl, sym, ap, subst, ◌∙◌}
use Rattle.spec_exchange.specs.State as model
use Rattle.spec_world.specs.Ends.{ServerEnd, Logons}
use Rattle.spec_world.specs.Given as gives
use Rattle.spec_world.specs.Hearing as hearing
use Rattle.spec_world.specs.Mishaps.{owning}
use Rattle.spec_world.specs.Related as related
use Rattle.spec_world.specs.Settings.{ServerSettings}
use Rattle.conn_core.specs.Shown.{ShowsEnd}
use Rattle.conn_core.specs.declared.conn.Conn.{Conn}
use Rattle.conn_core.specs.declared.end.ConnEnd.{ConnEnd}
use Rattle.conn_core.specs.declared.end.ConnEnd.TheVariants as ends
use Rattle.conn_core.specs.declared.frame_messages.checked.CheckedFrame.{CheckedFrame}
use Rattle.conn_core.specs.frame_messages.Checking.{ShowsMessages}
use Rattle.conn_core.specs.declared.frame_events.handing.Dealt.{Dealt}
use Rattle.conn_core.specs.declared.related.related.Carry.{Carry}
use Rattle.conn_core.specs.frame_events.Shared.{asked_all, first_dealt}
use Rattle.conn_core.proofs.frame_events.Ending.{first, take_past, through}
use Rattle.conn_core.proofs.frame_events.Sharing.{alone, counted, shared_done}
use Rattle.serve_turns.specs.connection_turns.Frames.{AreFor}
use Rattle.serve_turns.specs.connection_turns.Messages.{MessageSteps, MessagesEnd, MessagesSoFar}
use Rattle.serve_turns.specs.declared.connection_turns.state.ConnectionState.{ConnectionState}
use Rattle.serve_turns.specs.event_book.History.{Course, Placed}

-- Before the first one any server does: nothing was looked at yet.
pub first_of : (z : ServerSettings) (h : Course) (k now : ℕ) (fresh : List ℕ) (server : model.Server) (logons : Logons) (f : ServerEnd)
    (before : ℕ) (cs : List hearing.Checked) (x : CheckedFrame)
    (d : Dealt) → d.replies.items.items ≡ [] → d.took ≡ false → ShowsMessages x.bytes.items x.messages.items cs
    → MessagesSoFar z h k now fresh server logons f before cs 0 [] before x d None
first_of z h k now fresh server logons f before cs x d none untaken shows =
    let none_yet = owning server logons f [] in
    record {
      d = record none_yet.dealt { setups = before };
      more = [];
      facts = counted z k now fresh server logons f cs 0 0 x d None [] none_yet before
          (first z k now fresh server logons f cs x d none untaken shows).facts;
      begins = record { given = []; asks = []; is = λ later rest. refl; asked = λ later rest. refl };
      are = tt;
      asked = tt;
      counted = refl;
    }

pub messages_done : (z : ServerSettings) (h : Course) (k now : ℕ) (fresh : List ℕ) (server : model.Server) (logons : Logons)
    (f : ServerEnd) (old : ConnectionState) (cs : List hearing.Checked)
    (at : ℕ) (turns : List Placed) (new : ConnectionState) (x : CheckedFrame) (e : Dealt) (y : Option related.Carry)
    → length x.messages.items ≡ length cs → length cs ≤ at
    → MessagesSoFar z h k now fresh server logons f old.setups cs at turns new.setups x e y
    → MessagesEnd z h k now fresh server logons f old cs turns new x e (Ok tt)
messages_done z h k now fresh server logons f old cs at turns new x e y count past s =
    let first = first_dealt server logons f old.setups [] in
    let given = first_dealt server logons f old.setups s.begins.given in
    let end = shared_done z k now fresh f first cs at s.d s.begins in
    let front : take at cs ≡ cs = take_past cs at past in
    let on = through z k now fresh server logons f cs at x e y s.more (alone s.d) count past s.facts in (
      record s.d { left = [] },
      record {
        given = s.begins.given;
        are = s.are;
        is = end.is ∙ ap (λ (l : List hearing.Checked). gives.dealt_all z k now fresh f given l) front;
        asked = subst (λ (l : List hearing.Checked). AreFor k f (asked_all z k now fresh f given l) turns) front
            (subst (λ (l : List hearing.Checked). AreFor k f l turns) (sym end.asks) s.asked);
        none_missing = s.facts.none_missing;
        none_left = refl;
      },
      s.counted,
      record {
        goes = s.facts.goes;
        taken = on.taken;
        shows = on.shows;
        commands = on.commands;
        fails = on.fails;
        said = on.said;
      },
    )

pub messages_err : (z : ServerSettings) (h : Course) (k now : ℕ) (fresh : List ℕ) (server : model.Server) (logons : Logons)
    (f : ServerEnd) (old : ConnectionState) (cs : List hearing.Checked)
    (at : ℕ) (turns : List Placed) (new : ConnectionState) (x : CheckedFrame) (e : Dealt) (why : ConnEnd)
    → MessageSteps z h k now fresh server logons f old.setups cs at turns new.setups x e (Err why)
    → MessagesEnd z h k now fresh server logons f old cs turns new x e (Err why)
messages_err z h k now fresh server logons f old cs at turns new x e ends.BadFrame p = absurd p
messages_err z h k now fresh server logons f old cs at turns new x e (ends.OutsideWindow id) p = absurd p
messages_err z h k now fresh server logons f old cs at turns new x e ends.SecondNegotiate p = absurd p
messages_err z h k now fresh server logons f old cs at turns new x e ends.Unsealable p = absurd p
messages_err z h k now fresh server logons f old cs at turns new x e ends.Spent p = absurd p
messages_err z h k now fresh server logons f old cs at turns new x e ends.Full p = absurd p
messages_err z h k now fresh server logons f old cs at turns new x e (ends.LinkFault count) p = absurd p
messages_err z h k now fresh server logons f old cs at turns new x e (ends.Stopped count) p = p
messages_err z h k now fresh server logons f old cs at turns new x e ends.Memory p = p

-- One more message, where the connection's end is as it was when the frame began: it is taken from there.
pub at_conn : (z : ServerSettings) (h : Course) (here conn : Conn) → here ≡ conn → (now : ℕ) (fresh : List ℕ) (server : model.Server)
    (logons : Logons) (f : ServerEnd) (before : ℕ)
    (cs : List hearing.Checked) (at : ℕ) (former turns : List Placed) (setups after : ℕ) (x x' : CheckedFrame) (d e : Dealt)
    (y : Option related.Carry) (result : Result (Option Carry) ConnEnd) → ShowsEnd conn.id z.guid conn f
    → MessagesSoFar z h conn.id now fresh server logons f before cs at former setups x d y
    → (ShowsEnd here.id z.guid here f → MessagesSoFar z h here.id now fresh server logons f before cs at former setups x d y
    → MessageSteps z h here.id now fresh server logons f before cs (at + 1) (former ++ turns) after x' e result)
    → MessageSteps z h conn.id now fresh server logons f before cs (at + 1) (former ++ turns) after x' e result
at_conn z h here conn same now fresh server logons f before cs at former turns setups after x x' d e y result shows far steps =
    subst (λ (q : Conn). MessageSteps z h q.id now fresh server logons f before cs (at + 1) (former ++ turns) after x' e result) same
    (steps (subst (λ (q : Conn). ShowsEnd q.id z.guid q f) (sym same) shows)
    (subst (λ (q : Conn). MessagesSoFar z h q.id now fresh server logons f before cs at former setups x d y) (sym same) far))
