-- The reply to the next message, while the one before it waits.
use Rattle.std.proofs.Common.{◌≡◌, ℕ, ◌+◌, Bool, if◌then◌else◌, List, ◌∷◌, drop}
use Rattle.std.proofs.Common.{Option, Some, None, Result, Ok, Err, refl, sym, ap, subst, ◌∙◌}
use Rattle.std.specs.Prelude.{slice_get, option_copied, IfSome}
use Rattle.spec_crypto.specs.declared.sessions.material.Keys.{Keys}
use Rattle.spec_crypto.specs.sessions.Nonces.{NonceState}
use Rattle.spec_wire.specs.credits.Window.{HeldIds}
use Rattle.spec_world.specs.Settings.{ServerSettings}
use Rattle.spec_world.specs.Ends.{ServerEnd}
use Rattle.spec_world.specs.Hearing as hearing
use Rattle.spec_world.specs.Answering as answering
use Rattle.conn_core.specs.declared.conn.Conn.{Conn}
use Rattle.conn_core.specs.declared.conn.Logon.{Logon}
use Rattle.conn_core.specs.declared.end.ConnEnd.{ConnEnd}
use Rattle.conn_core.specs.declared.frame_messages.checked.Checked.{Checked}
use Rattle.conn_core.specs.frame_messages.Checking.{HasMessage}
use Rattle.conn_core.specs.declared.reply_sealing.frames.Frames.{Frames}
use Rattle.conn_core.specs.declared.reply_sealing.said.Said.{Said}
use Rattle.conn_core.specs.reply_sealing.Saying.{CanPut, CanPutIf}
use Rattle.conn_core.specs.declared.message_replies.saying.Answers.{Answers}
use Rattle.conn_core.specs.message_replies.Replying.{AreMessagesSaid, HelloFor, IsShown, MessageKept, SaysNext, has_message_event}
use Rattle.conn_core.specs.declared.reply_frames.adding.Joining.{Joining}
use Rattle.conn_core.specs.declared.reply_frames.adding.Walk.{Walk}
use Rattle.conn_core.specs.reply_frames.Adding.{CanWait, NextFits, later_of}
use Rattle.conn_core.specs.reply_frames.Joined.{AnswerJoins, JoinsBy}
use Rattle.conn_core.specs.reply_frames.Walking.{AddsWaiting, IsAlike, Walks, WalksBy, place_behind}
use Rattle.conn_core.proofs.reply_frames.Steps.{Opens, opens, place_is, shown_by, walks_on, walks_past}
use Rattle.conn_core.proofs.reply_frames.Whole.{joins_err}

abbrev pub walk_of : Walk → Result Unit ConnEnd → Result Walk ConnEnd
walk_of walk (Ok u) = Ok walk
walk_of walk (Err e) = Err e

steps_by : (z : ServerSettings) (first counted : NonceState) (f g : ServerEnd) (all : List answering.SaidReply) (w : HeldIds)
    (answers : Answers) (at : ℕ) (old mid new : Conn) (x y : Joining) (walk : Walk) (place : ℕ) (m : Checked) (said : Said)
    (r : answering.SaidReply) (rest : List answering.SaidReply) (result : Result Unit ConnEnd)
    → (s : Walks z first counted f g all w answers at old x walk) → Opens z f s.rest w answers at old walk m
    → slice_get answers.asked.now.messages.items at ≡ Some m → new.logon ≡ old.logon
    → walk.place + (if has_message_event m then 1 else 0) ≡ place → new.window ≡ mid.window
    → ((j : AnswerJoins f.keys first counted answers.asked.now.sealed g all y.frames new.nonces y.behind (Some r) rest)
    → Walks z first counted f g all w answers (at + 1) new y (record { place = place; waiting = Some said }))
    → JoinsBy f.keys first counted answers.asked.now.sealed g all y.frames new.nonces y.behind (Some r) rest result
    → WalksBy z first counted f g all w answers (at + 1) new y (walk_of (record { place = place; waiting = Some said }) result)
steps_by z first counted f g all w answers at old mid new x y walk place m said r rest (Ok u) s o e logon is window on by = on by
steps_by z first counted f g all w answers at old mid new x y walk place m said r rest (Err why) s o e logon is window on by =
    joins_err z first counted f g all w answers (at + 1) new y y new.nonces (Some r) rest why by

pub step_on : (z : ServerSettings) (first counted : NonceState) (f g : ServerEnd) (all : List answering.SaidReply) (w : HeldIds)
    (answers : Answers) (at : ℕ) (old mid new : Conn) (x y : Joining) (walk : Walk) (place : ℕ) (m : Checked) (said : Said)
    (result : Result Unit ConnEnd)
    → (s : Walks z first counted f g all w answers at old x walk) → (o : Opens z f s.rest w answers at old walk m)
    → slice_get answers.asked.now.messages.items at ≡ Some m → walk.place + (if has_message_event m then 1 else 0) ≡ place
    → MessageKept old mid → new.logon ≡ mid.logon → new.window ≡ mid.window
    → SaysNext z answers.asked.now.moment f o.c (drop (at + 1) answers.asked.now.messages.items) o.left
    (drop (walk.place + (if has_message_event m then 1 else 0)) answers.replies.now.items.items) mid s.rest w at (Some said)
    → AddsWaiting answers walk.waiting said mid.logon.keys x mid.nonces y new.nonces result
    → WalksBy z first counted f g all w answers (at + 1) new y (walk_of (record { place = place; waiting = Some said }) result)
step_on z first counted f g all w answers at old mid new x y walk place m said result s o e is kept logon window next add =
    let sealed : Bool = answers.asked.now.sealed in
    let r : answering.SaidReply = next.0 in
    let rest : List answering.SaidReply = next.1 in
    let keys : f.keys ≡ mid.logon.keys = s.keys ∙ ap (λ (l : Logon). l.keys) (sym kept.logon) in
    let here : AnswerJoins f.keys first counted sealed g all x.frames mid.nonces x.behind s.waits (r ∷ rest) =
    subst (λ (n : NonceState). AnswerJoins f.keys first counted sealed g all x.frames n x.behind s.waits (r ∷ rest)) (sym kept.nonces)
    (subst (λ (rs : List answering.SaidReply). AnswerJoins f.keys first counted sealed g all x.frames old.nonces x.behind
    s.waits rs) next.2 s.joins) in
    let by = add first counted z.guid f.salt sealed g all s.waits (Some r) rest s.waits_is next.3 refl
    (subst (λ (k : Option Keys). AnswerJoins k first counted sealed g all x.frames mid.nonces x.behind s.waits (r ∷ rest)) keys here) in
    steps_by z first counted f g all w answers at old mid new x y walk place m said r rest result s o e (logon ∙ kept.logon) is window
    (λ j. walks_on z first counted f g all w answers at old new x y walk place m said mid.window r rest s o e (logon ∙ kept.logon) is next.2
    next.3 next.4 next.5 next.6 window j)
    (subst (λ (k : Option Keys). JoinsBy k first counted sealed g all y.frames new.nonces y.behind (Some r) rest result) (sym keys) by)

-- or there is none, and nothing else changes
past_by : (z : ServerSettings) (first counted : NonceState) (f g : ServerEnd) (all : List answering.SaidReply) (w : HeldIds)
    (answers : Answers) (at : ℕ) (old mid new : Conn) (x y : Joining) (walk : Walk) (place : ℕ) (m : Checked)
    → (s : Walks z first counted f g all w answers at old x walk) → (o : Opens z f s.rest w answers at old walk m)
    → walk.place + (if has_message_event m then 1 else 0) ≡ place → MessageKept old mid → new.logon ≡ mid.logon → new.window ≡ mid.window
    → y ≡ x → new.nonces ≡ mid.nonces
    → SaysNext z answers.asked.now.moment f o.c (drop (at + 1) answers.asked.now.messages.items) o.left
    (drop (walk.place + (if has_message_event m then 1 else 0)) answers.replies.now.items.items) mid s.rest w at None
    → Walks z first counted f g all w answers (at + 1) new y (record { place = place; waiting = walk.waiting })
past_by z first counted f g all w answers at old mid new x y walk place m s o is kept logon window same nonces next =
    subst (λ (j : Joining). Walks z first counted f g all w answers (at + 1) new j (record { place = place; waiting = walk.waiting }))
    (sym same)
    (walks_past z first counted f g all w answers at old new x walk place m s o (logon ∙ kept.logon) (nonces ∙ kept.nonces) is
    (subst (λ (u : HeldIds). AreMessagesSaid z answers.asked.now.moment f (drop (at + 1) answers.asked.now.messages.items) o.left
    (drop (walk.place + (if has_message_event m then 1 else 0)) answers.replies.now.items.items) u s.rest w) (sym window) next))

pub step_either : (z : ServerSettings) (first counted : NonceState) (f g : ServerEnd) (all : List answering.SaidReply) (w : HeldIds)
    (answers : Answers) (at : ℕ) (old mid new : Conn) (x y : Joining) (walk : Walk) (place : ℕ) (m : Checked) (next : Option Said)
    (result : Result Unit ConnEnd)
    → (s : Walks z first counted f g all w answers at old x walk) → (o : Opens z f s.rest w answers at old walk m)
    → slice_get answers.asked.now.messages.items at ≡ Some m → walk.place + (if has_message_event m then 1 else 0) ≡ place
    → MessageKept old mid → new.logon ≡ mid.logon → new.window ≡ mid.window
    → SaysNext z answers.asked.now.moment f o.c (drop (at + 1) answers.asked.now.messages.items) o.left
    (drop (walk.place + (if has_message_event m then 1 else 0)) answers.replies.now.items.items) mid s.rest w at next
    → (next ≡ None → (y ≡ x) × (new.nonces ≡ mid.nonces) × (result ≡ Ok tt))
    → ((said : Said) → next ≡ Some said → AddsWaiting answers walk.waiting said mid.logon.keys x mid.nonces y new.nonces result)
    → WalksBy z first counted f g all w answers (at + 1) new y (walk_of (record {
      place = place;
      waiting = later_of next walk.waiting;
    }) result)
step_either z first counted f g all w answers at old mid new x y walk place m (Some said) result s o e is kept logon window says none some =
    step_on z first counted f g all w answers at old mid new x y walk place m said result s o e is kept logon window says (some said refl)
step_either z first counted f g all w answers at old mid new x y walk place m None result s o e is kept logon window says none some =
    let same = none refl in
    subst (λ (r : Result Unit ConnEnd). WalksBy z first counted f g all w answers (at + 1) new y
    (walk_of (record { place = place; waiting = walk.waiting }) r)) (sym same.2)
    (past_by z first counted f g all w answers at old mid new x y walk place m s o is kept logon window same.0 same.1 says)

pub waits_at : (answers : Answers) (at : ℕ) (said : Said) → said.at ≡ at → HasMessage answers.asked.now at → CanPut said
    → CanWait answers (Some said)
waits_at answers at said is has fits = record {
  message = subst (λ (n : ℕ). HasMessage answers.asked.now n) (sym is) has;
  fits = fits;
}

-- what waits behind both
pub later_waits : (answers : Answers) (at : ℕ) (next waiting : Option Said) → HasMessage answers.asked.now at
    → IfSome next (λ (s : Said). s.at ≡ at) → CanPutIf next → CanWait answers waiting → CanWait answers (later_of next waiting)
later_waits answers at (Some said) waiting has is fits waits = waits_at answers at said is has fits
later_waits answers at None waiting has is fits waits = waits

pub alike_by : (old mid new : Conn) → MessageKept old mid → new.id ≡ mid.id → new.guid ≡ mid.guid → new.salt ≡ mid.salt
    → new.asked ≡ mid.asked
    → new.logon ≡ mid.logon → new.spare ≡ mid.spare → IsAlike old new
alike_by old mid new kept id guid salt asked logon spare = record {
  id = id ∙ kept.id;
  guid = guid ∙ kept.guid;
  salt = salt ∙ kept.salt;
  asked = asked ∙ kept.asked;
  logon = logon ∙ kept.logon;
  spare = spare ∙ kept.spare;
}

pub alike_both : (a b c : Conn) → IsAlike a b → IsAlike b c → IsAlike a c
alike_both a b c p q = record {
  id = q.id ∙ p.id;
  guid = q.guid ∙ p.guid;
  salt = q.salt ∙ p.salt;
  asked = q.asked ∙ p.asked;
  logon = q.logon ∙ p.logon;
  spare = q.spare ∙ p.spare;
}

pub some_none : (o : Option Said) (s : Said) → o ≡ Some s → o ≡ None → ⊥
some_none (Some x) s e f = cc
some_none None s e f = cc

pub none_some : (o : Option Said) (s : Said) → o ≡ None → o ≡ Some s → ⊥
none_some (Some x) s e f = cc
none_some None s e f = cc

pub none_is : (o : Option Said) → o ≡ None → o ≡ None
none_is o e = e

pub adds_said : (answers : Answers) (waiting : Option Said) (s said : Said) (next : Option Said) (keys : Option Keys) (x : Joining)
    (nonces : NonceState) (y : Joining) (after : NonceState) (result : Result Unit ConnEnd) → next ≡ Some s → next ≡ Some said
    → AddsWaiting answers waiting s keys x nonces y after result → AddsWaiting answers waiting said keys x nonces y after result
adds_said answers waiting s said next keys x nonces y after result e f h =
    let both : Some s ≡ Some said = sym e ∙ f in
    let same : s ≡ said = cc in
    subst (λ (k : Said). AddsWaiting answers waiting k keys x nonces y after result) same h

pub room_later : (x : Frames) (next waiting told asked later : Option Said) → told ≡ next → asked ≡ waiting → later ≡ later_of next waiting
    → NextFits x (later_of told asked) → NextFits x later
room_later x next waiting told asked later e f g h =
    subst (λ (o : Option Said). NextFits x o) (sym g)
    (subst (λ (o : Option Said). NextFits x (later_of next o)) f (subst (λ (o : Option Said). NextFits x (later_of o asked)) e h))

-- what the reply to the next message tells
abbrev pub SaysOf : ServerSettings → ServerEnd → Answers → ℕ → ℕ → Conn → Conn → HeldIds → Option Said → Type 0
SaysOf z f answers at place old mid w next =
    (m : Checked) (x : hearing.Checked) (ms : List Checked) (cs : List hearing.Checked) (ss : List answering.SaidReply)
    → slice_get answers.asked.now.messages.items at ≡ Some m → f.keys ≡ old.logon.keys → IsShown answers.asked.now m x
    → HelloFor z.guid f.salt answers.asked.now.moment x (option_copied answers.hello)
    → AreMessagesSaid z answers.asked.now.moment f (m ∷ ms) (x ∷ cs) (drop place answers.replies.now.items.items) old.window ss w
    → SaysNext z answers.asked.now.moment f x ms cs (drop (place + (if has_message_event m then 1 else 0))
    answers.replies.now.items.items) mid ss w at next

pub next_step : (z : ServerSettings) (first counted : NonceState) (f g : ServerEnd) (all : List answering.SaidReply) (w : HeldIds)
    (answers : Answers) (at : ℕ) (old mid new : Conn) (x y : Joining) (walk : Walk) (place : ℕ) (m : Checked)
    (next waiting told : Option Said) (result : Result Unit ConnEnd) (later : Option Said)
    → Walks z first counted f g all w answers at old x walk
    → slice_get answers.asked.now.messages.items at ≡ Some m
    → place ≡ place_behind (slice_get answers.asked.now.messages.items at) walk.place → MessageKept old mid → new.logon ≡ mid.logon
    → new.window ≡ mid.window → waiting ≡ walk.waiting → told ≡ next → later ≡ later_of next walk.waiting
    → SaysOf z f answers at walk.place old mid w next
    → (told ≡ None → (y ≡ x) × (new.nonces ≡ mid.nonces) × (result ≡ Ok tt))
    → ((said : Said) → told ≡ Some said → AddsWaiting answers waiting said mid.logon.keys x mid.nonces y new.nonces result)
    → WalksBy z first counted f g all w answers (at + 1) new y (walk_of (record { place = place; waiting = later }) result)
next_step z first counted f g all w answers at old mid new x y walk place m next waiting told result later s e is kept
    logon window waits tells
    later_is says none some =
    let ms : List Checked = drop (at + 1) answers.asked.now.messages.items in
    let o = opens z first counted f g all w answers at old x walk m s e in
    let said = says m o.c ms o.left s.rest e s.keys (shown_by answers m o.c o.going) o.hello o.said in
    subst (λ (q : Option Said). WalksBy z first counted f g all w answers (at + 1) new y
    (walk_of (record { place = place; waiting = q }) result))
    (sym later_is)
    (step_either z first counted f g all w answers at old mid new x y walk place m next result s o e
    (place_is answers.asked.now.messages.items at walk.place place m e is) kept logon window said
    (λ nothing. none (tells ∙ nothing))
    (λ r it. subst (λ (q : Option Said). AddsWaiting answers q r mid.logon.keys x mid.nonces y new.nonces result) waits
    (some r (tells ∙ it))))
