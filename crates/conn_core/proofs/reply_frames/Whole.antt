-- All replies of a frame: where it begins and where it ends.
use Rattle.std.proofs.Common.{◌≡◌, ℕ, ◌+◌, ◌≤◌, Bool, true, false, List, [], ◌∷◌, ◌++◌, length, drop}
use Rattle.std.proofs.Common.{Option, Some, None, Result, Err, refl, sym, ap, subst, ◌∙◌, arith}
use Rattle.std.specs.Prelude.{option_copied, option_map}
use Rattle.spec_wire.specs.declared.messages.header.Header.{Header}
use Rattle.spec_exchange.specs.Table.{is_filled}
use Rattle.spec_crypto.specs.declared.sessions.material.Keys.{Keys}
use Rattle.spec_crypto.specs.sessions.Nonces.{NonceState, last_counter}
use Rattle.spec_wire.specs.credits.Window.{HeldIds}
use Rattle.spec_world.specs.Settings.{ServerSettings}
use Rattle.spec_world.specs.Ends.{ServerEnd}
use Rattle.spec_world.specs.Hearing as hearing
use Rattle.spec_world.specs.Answering as answering
use Rattle.spec_world.specs.Answering.{concatenated, each_joined, sealed_each, text_limit}
use Rattle.spec_world.specs.Connection.{last_status}
use Rattle.conn_core.specs.declared.served.error.ServeError.{ServeError}
use Rattle.conn_core.specs.declared.conn.Conn.{Conn}
use Rattle.conn_core.specs.declared.end.ConnEnd.{ConnEnd}
use Rattle.conn_core.specs.declared.end.ConnEnd.TheVariants.{BadFrame, OutsideWindow, SecondNegotiate, Unsealable}
use Rattle.conn_core.specs.declared.end.ConnEnd.TheVariants.{Spent, Full, LinkFault, Stopped, Memory}
use Rattle.conn_core.specs.declared.frame_messages.checked.Checked.{Checked}
use Rattle.conn_core.specs.frame_messages.Checking.{GreetsFirst, NoneGreets}
use Rattle.conn_core.specs.declared.served.serve.Reply.{Reply}
use Rattle.conn_core.specs.declared.negotiating.greeting.Hello.{Hello}
use Rattle.conn_core.specs.declared.reply_sealing.frames.Frames.{Frames}
use Rattle.conn_core.specs.declared.reply_sealing.said.Said.{Said}
use Rattle.conn_core.specs.reply_sealing.Saying.{all_framed}
use Rattle.conn_core.specs.reply_sealing.Joining.{IsWritten, frames_of, nonces_behind, open_part, reply_rows}
use Rattle.conn_core.specs.declared.message_replies.saying.Answers.{Answers}
use Rattle.conn_core.specs.message_replies.Replying.{AreMessagesSaid, HelloOf}
use Rattle.conn_core.proofs.message_replies.Sounds.{all_sound}
use Rattle.conn_core.specs.declared.logon_state.behind.Behind.{Behind}
use Rattle.conn_core.specs.logon_state.Behind.{ShowsBehind}
use Rattle.conn_core.specs.declared.reply_frames.adding.Joining.{Joining}
use Rattle.conn_core.specs.declared.reply_frames.adding.Walk.{Walk}
use Rattle.conn_core.specs.reply_frames.Adding.{IsWaiting}
use Rattle.conn_core.specs.reply_frames.Joined.{AreAtMost, AnswerJoins, JoinsBy, end_behind, with_waiting}
use Rattle.conn_core.specs.reply_frames.Walking.{AddsBy, HelloEach, IsWalkDue, Walks, WalksBy}
use Rattle.conn_core.proofs.reply_frames.Steps.{none_left}

-- ---- what answers each message

not_both : (b : Bool) → b ≡ true → b ≡ false → ⊥
not_both true e f = cc
not_both false e f = cc

none_greet : (guid salt : List ℕ) (now : ℕ) (cs : List hearing.Checked) (hello : Option Hello) → NoneGreets cs
    → HelloEach guid salt now cs hello
unfolding HelloEach
none_greet guid salt now [] hello none = tt
none_greet guid salt now (c ∷ cs) None none = (none.0, none_greet guid salt now cs None none.1)
none_greet guid salt now (c ∷ cs) (Some h) none = (λ greets. absurd (not_both _ greets none.0), none_greet guid salt now cs (Some h) none.1)

pub hello_each : (guid salt : List ℕ) (now : ℕ) (cs : List hearing.Checked) (hello : Option Hello) → GreetsFirst cs
    → HelloOf guid salt now cs hello → HelloEach guid salt now cs hello
unfolding HelloEach
hello_each guid salt now [] hello first h = tt
hello_each guid salt now (c ∷ cs) None first h = (h, none_greet guid salt now cs None first)
hello_each guid salt now (c ∷ cs) (Some hello) first h = (λ greets. h.1, none_greet guid salt now cs (Some hello) first)

-- ---- nothing is written yet

frames_none : (sealed : Bool) (keys : Option Keys) (first : NonceState) → frames_of sealed keys first [] ≡ []
unfolding sealed_each
frames_none false keys first = refl
frames_none true None first = refl
frames_none true (Some k) first = refl

nonces_none : (sealed : Bool) (first : NonceState) → first ≡ nonces_behind sealed first 0
nonces_none false first = refl
nonces_none true first =
    ap (λ (n : ℕ). record { channel = first.channel; counter = n }) (let same : first.counter ≡ first.counter + 0 = omega arith in same)

written_none : (keys : Option Keys) (x : Frames) (nonces : NonceState) → x.open ≡ false → x.out.items ≡ []
    → IsWritten keys nonces x nonces [] []
unfolding all_framed is_filled
written_none keys x nonces shut none = record {
  out = none
      ∙ sym (ap (λ (fs : List (List ℕ)). all_framed fs ++ open_part x.sealed []) (frames_none x.sealed keys nonces));
  is_open = shut;
  text = λ opened. absurd (not_both x.open opened shut);
  nonces_are = nonces_none x.sealed nonces;
}

no_texts : each_joined [] ≡ []
unfolding each_joined
no_texts = refl

no_size : length (concatenated {X = ℕ} []) ≡ 0
unfolding concatenated
no_size = refl

few_none : (limit : ℕ) → AreAtMost limit []
unfolding AreAtMost
few_none limit = tt

pub joins_none : (keys : Option Keys) (counted : NonceState) (sealed : Bool) (g : ServerEnd) (all : List answering.SaidReply)
    (x : Frames) (nonces : NonceState) (b : Behind) → x.open ≡ false → x.out.items ≡ [] → x.sealed ≡ sealed
    → nonces.counter ≤ last_counter → ShowsBehind counted b g → AnswerJoins keys nonces counted sealed g all x nonces b None all
joins_none keys counted sealed g all x nonces b shut none seals bound shows = record {
  before = [];
  front = [];
  idle = refl;
  rows_are = ap (λ (n : ℕ). reply_rows sealed [] n all) (sym no_size);
  sealed_is = seals;
  written = subst (λ (done : List (List ℕ)). IsWritten keys nonces x nonces done []) (sym no_texts) (written_none keys x nonces shut none);
  counts = λ s. (omega (arith, bound));
  short = subst (λ (ts : List (List ℕ)). AreAtMost (text_limit sealed) ts) (sym no_texts) (few_none (text_limit sealed));
  server_end = g;
  same = record { salt = refl; window = refl; asked = refl };
  shows = shows;
  told = ap (λ (n : ℕ). end_behind sealed g all (concatenated (reply_rows sealed [] n all))) (sym no_size);
}

pub begins : (z : ServerSettings) (counted : NonceState) (f g : ServerEnd) (cs : List hearing.Checked) (ss : List answering.SaidReply)
    (w : HeldIds) (answers : Answers) (conn : Conn) (j : Joining) → IsWalkDue z counted f g cs ss w answers conn j → j.frames.open ≡ false
    → j.frames.out.items ≡ [] → j.frames.sealed ≡ answers.asked.now.sealed
    → Walks z conn.nonces counted f g ss w answers 0 conn j (record { place = 0; waiting = None })
begins z counted f g cs ss w answers conn j due shut none seals = record {
  left = cs;
  rest = ss;
  waits = None;
  shows = due.shows;
  hellos = hello_each z.guid f.salt answers.asked.now.moment cs (option_copied answers.hello) due.greets due.hello;
  said = due.said;
  sound = all_sound z answers.asked.now.moment f answers.asked.now.messages.items cs answers.replies.now.items.items conn.window ss w
      due.rightly due.said;
  waits_is = tt;
  keys = due.keys;
  joins = joins_none f.keys counted answers.asked.now.sealed g ss j.frames conn.nonces j.behind shut none seals due.bound due.behind_is;
  last = refl;
}

-- ---- where a step ends, the whole does

pub walks_err : (z : ServerSettings) (first counted : NonceState) (f g : ServerEnd) (all : List answering.SaidReply) (w : HeldIds)
    (answers : Answers) (at to : ℕ) (x y : Conn) (j k : Joining) (e : ConnEnd)
    → WalksBy z first counted f g all w answers at x j (Err e) → WalksBy z first counted f g all w answers to y k (Err e)
walks_err z first counted f g all w answers at to x y j k Memory h = tt
walks_err z first counted f g all w answers at to x y j k Spent h = h
walks_err z first counted f g all w answers at to x y j k Unsealable h = h
walks_err z first counted f g all w answers at to x y j k BadFrame h = absurd h
walks_err z first counted f g all w answers at to x y j k (OutsideWindow id) h = absurd h
walks_err z first counted f g all w answers at to x y j k SecondNegotiate h = absurd h
walks_err z first counted f g all w answers at to x y j k Full h = absurd h
walks_err z first counted f g all w answers at to x y j k (LinkFault count) h = absurd h
walks_err z first counted f g all w answers at to x y j k (Stopped count) h = absurd h

-- where the reply that waited isn't added, no other one is
pub joins_err : (z : ServerSettings) (first counted : NonceState) (f g : ServerEnd) (all : List answering.SaidReply) (w : HeldIds)
    (answers : Answers) (at : ℕ) (conn : Conn) (x y : Joining) (nonces : NonceState) (waits : Option answering.SaidReply)
    (rest : List answering.SaidReply) (e : ConnEnd)
    → JoinsBy f.keys first counted answers.asked.now.sealed g all x.frames nonces x.behind waits rest (Err e)
    → WalksBy z first counted f g all w answers at conn y (Err e)
joins_err z first counted f g all w answers at conn x y nonces waits rest Memory h = tt
joins_err z first counted f g all w answers at conn x y nonces waits rest Spent h = h
joins_err z first counted f g all w answers at conn x y nonces waits rest Unsealable h = h
joins_err z first counted f g all w answers at conn x y nonces waits rest BadFrame h = absurd h
joins_err z first counted f g all w answers at conn x y nonces waits rest (OutsideWindow id) h = absurd h
joins_err z first counted f g all w answers at conn x y nonces waits rest SecondNegotiate h = absurd h
joins_err z first counted f g all w answers at conn x y nonces waits rest Full h = absurd h
joins_err z first counted f g all w answers at conn x y nonces waits rest (LinkFault count) h = absurd h
joins_err z first counted f g all w answers at conn x y nonces waits rest (Stopped count) h = absurd h

-- ---- none is left

said_none : (z : ServerSettings) (now : ℕ) (f : ServerEnd) (left : List hearing.Checked) (rs : List (Result Reply ServeError))
    (u : HeldIds) (ss : List answering.SaidReply) (w : HeldIds) → AreMessagesSaid z now f [] left rs u ss w → (ss ≡ []) × (w ≡ u)
said_none z now f [] rs u ss w h = (h.1, h.2)
said_none z now f (c ∷ cs) rs u ss w h = absurd h

pub ends : (z : ServerSettings) (first counted : NonceState) (f g : ServerEnd) (all : List answering.SaidReply) (w : HeldIds)
    (answers : Answers) (at : ℕ) (conn : Conn) (j : Joining) (walk : Walk)
    → (s : Walks z first counted f g all w answers at conn j walk) → at ≡ length answers.asked.now.messages.items
    → (s.rest ≡ []) × (w ≡ conn.window)
ends z first counted f g all w answers at conn j walk s is =
    let ms : List Checked = answers.asked.now.messages.items in
    let none : drop at ms ≡ [] = ap (λ (n : ℕ). drop n ms) is ∙ none_left ms in
    said_none z answers.asked.now.moment f s.left (drop walk.place answers.replies.now.items.items) conn.window s.rest w
    (subst (λ (xs : List Checked). AreMessagesSaid z answers.asked.now.moment f xs s.left (drop walk.place answers.replies.now.items.items)
    conn.window s.rest w) none s.said)

status_last : (guid salt : List ℕ) (answers : Answers) (waiting : Option Said) (waits : Option answering.SaidReply)
    → IsWaiting guid salt answers waiting waits → last_status (with_waiting waits []) ≡ option_map (λ (s : Said). s.header.status) waiting
unfolding last_status
status_last guid salt answers None None h = refl
status_last guid salt answers (Some said) (Some r) h = ap (λ (x : Header). Some x.status) h.1.said_is.header
status_last guid salt answers None (Some r) h = absurd h
status_last guid salt answers (Some said) None h = absurd h

pub status_is : (z : ServerSettings) (first counted : NonceState) (f g : ServerEnd) (all : List answering.SaidReply) (w : HeldIds)
    (answers : Answers) (at : ℕ) (conn : Conn) (j : Joining) (walk : Walk)
    → (s : Walks z first counted f g all w answers at conn j walk) → s.rest ≡ []
    → option_map (λ (s : Said). s.header.status) walk.waiting ≡ last_status all
status_is z first counted f g all w answers at conn j walk s none =
    sym (s.last ∙ (ap (λ (rs : List answering.SaidReply). last_status (with_waiting s.waits rs)) none
    ∙ status_last z.guid f.salt answers walk.waiting s.waits s.waits_is))

pub adds_err : (first counted : NonceState) (sealed : Bool) (f g : ServerEnd) (ss : List answering.SaidReply) (w : HeldIds) (conn : Conn)
    (j k : Joining) (nonces : NonceState) (waits : Option answering.SaidReply) (rest : List answering.SaidReply) (e : ConnEnd)
    → JoinsBy f.keys first counted sealed g ss j.frames nonces j.behind waits rest (Err e)
    → AddsBy first counted sealed f g ss w conn k (Err e)
adds_err first counted sealed f g ss w conn j k nonces waits rest Memory h = tt
adds_err first counted sealed f g ss w conn j k nonces waits rest Spent h = h
adds_err first counted sealed f g ss w conn j k nonces waits rest Unsealable h = h
adds_err first counted sealed f g ss w conn j k nonces waits rest BadFrame h = absurd h
adds_err first counted sealed f g ss w conn j k nonces waits rest (OutsideWindow id) h = absurd h
adds_err first counted sealed f g ss w conn j k nonces waits rest SecondNegotiate h = absurd h
adds_err first counted sealed f g ss w conn j k nonces waits rest Full h = absurd h
adds_err first counted sealed f g ss w conn j k nonces waits rest (LinkFault count) h = absurd h
adds_err first counted sealed f g ss w conn j k nonces waits rest (Stopped count) h = absurd h

pub walks_fail : (z : ServerSettings) (first counted : NonceState) (f g : ServerEnd) (all : List answering.SaidReply) (w : HeldIds)
    (answers : Answers) (at : ℕ) (x y : Conn) (j k : Joining) (e : ConnEnd)
    → WalksBy z first counted f g all w answers at x j (Err e) → AddsBy first counted answers.asked.now.sealed f g all w y k (Err e)
walks_fail z first counted f g all w answers at x y j k Memory h = tt
walks_fail z first counted f g all w answers at x y j k Spent h = h
walks_fail z first counted f g all w answers at x y j k Unsealable h = h
walks_fail z first counted f g all w answers at x y j k BadFrame h = absurd h
walks_fail z first counted f g all w answers at x y j k (OutsideWindow id) h = absurd h
walks_fail z first counted f g all w answers at x y j k SecondNegotiate h = absurd h
walks_fail z first counted f g all w answers at x y j k Full h = absurd h
walks_fail z first counted f g all w answers at x y j k (LinkFault count) h = absurd h
walks_fail z first counted f g all w answers at x y j k (Stopped count) h = absurd h
