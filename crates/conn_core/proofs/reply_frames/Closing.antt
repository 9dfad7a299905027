-- The last reply of a frame, behind which no other one goes on.
use Rattle.std.proofs.Common.{◌≡◌, ℕ, Bool, List, [], length, Option, None, Result, Ok, Err, refl, sym, subst, ◌∙◌}
use Rattle.std.specs.Prelude.{option_map}
use Rattle.spec_crypto.specs.declared.sessions.material.Keys.{Keys}
use Rattle.spec_crypto.specs.sessions.Nonces.{NonceState}
use Rattle.spec_wire.specs.credits.Window.{HeldIds}
use Rattle.spec_world.specs.Settings.{ServerSettings}
use Rattle.spec_world.specs.Ends.{ServerEnd}
use Rattle.spec_world.specs.Answering as answering
use Rattle.conn_core.specs.declared.conn.Conn.{Conn}
use Rattle.conn_core.specs.declared.end.ConnEnd.{ConnEnd}
use Rattle.conn_core.specs.declared.reply_sealing.said.Said.{Said}
use Rattle.conn_core.specs.reply_sealing.Joining.{NextIs}
use Rattle.conn_core.specs.declared.message_replies.saying.Answers.{Answers}
use Rattle.conn_core.specs.declared.reply_frames.adding.Joining.{Joining}
use Rattle.conn_core.specs.declared.reply_frames.adding.Walk.{Walk}
use Rattle.conn_core.specs.reply_frames.Adding.{IsWaiting}
use Rattle.conn_core.specs.reply_frames.Joined.{AnswerJoins, JoinsBy, next_of, with_waiting}
use Rattle.conn_core.specs.reply_frames.Walking.{AddsBy, Walks, WalksBy}
use Rattle.conn_core.proofs.reply_frames.Whole.{adds_err, ends, status_is}

-- what adding it tells
abbrev AddsLast : NonceState → Answers → Option Said → Option Keys → Joining → NonceState → Joining → NonceState
    → Result Unit ConnEnd → Type 0
AddsLast counted answers waiting keys x nonces y after result =
    (first : NonceState) (guid salt : List ℕ) (sealed : Bool) (g : ServerEnd) (all : List answering.SaidReply)
    (waits n : Option answering.SaidReply)
    (rest : List answering.SaidReply) → IsWaiting guid salt answers waiting waits → NextIs None n → next_of (with_waiting n rest) ≡ n
    → AnswerJoins keys first counted sealed g all x.frames nonces x.behind waits (with_waiting n rest)
    → JoinsBy keys first counted sealed g all y.frames after y.behind n rest result

joined_last : (z : ServerSettings) (first counted : NonceState) (f g : ServerEnd) (all : List answering.SaidReply) (w : HeldIds)
    (answers : Answers) (mid : Conn) (x y : Joining) (walk : Walk) (after : NonceState) (waiting : Option Said)
    (result : Result Unit ConnEnd)
    → Walks z first counted f g all w answers (length answers.asked.now.messages.items) mid x walk → waiting ≡ walk.waiting
    → AddsLast counted answers waiting mid.logon.keys x mid.nonces y after result
    → JoinsBy f.keys first counted answers.asked.now.sealed g all y.frames after y.behind None [] result
joined_last z first counted f g all w answers mid x y walk after waiting result s is add =
    let sealed : Bool = answers.asked.now.sealed in
    let none = (ends z first counted f g all w answers (length answers.asked.now.messages.items) mid x walk s refl).0 in
    let here : AnswerJoins f.keys first counted sealed g all x.frames mid.nonces x.behind s.waits [] =
    subst (λ (rs : List answering.SaidReply). AnswerJoins f.keys first counted sealed g all x.frames mid.nonces x.behind
    s.waits rs) none s.joins in
    subst (λ (k : Option Keys). JoinsBy k first counted sealed g all y.frames after y.behind None [] result) (sym s.keys)
    (add first z.guid f.salt sealed g all s.waits None []
    (subst (λ (o : Option Said). IsWaiting z.guid f.salt answers o s.waits) (sym is) s.waits_is) tt refl
    (subst (λ (k : Option Keys). AnswerJoins k first counted sealed g all x.frames mid.nonces x.behind s.waits []) s.keys here))

pub closes_not : (z : ServerSettings) (first counted : NonceState) (f g : ServerEnd) (all : List answering.SaidReply) (w : HeldIds)
    (answers : Answers) (mid new : Conn) (x y : Joining) (walk : Walk) (after : NonceState) (waiting : Option Said) (e : ConnEnd)
    → WalksBy z first counted f g all w answers (length answers.asked.now.messages.items) mid x (Ok walk) → waiting ≡ walk.waiting
    → AddsLast counted answers waiting mid.logon.keys x mid.nonces y after (Err e)
    → AddsBy first counted answers.asked.now.sealed f g all w new y (Err e)
closes_not z first counted f g all w answers mid new x y walk after waiting e s is add =
    adds_err first counted answers.asked.now.sealed f g all w new y y after None [] e
    (joined_last z first counted f g all w answers mid x y walk after waiting (Err e) s is add)

pub closes : (z : ServerSettings) (first counted : NonceState) (f g : ServerEnd) (all : List answering.SaidReply) (w : HeldIds)
    (answers : Answers) (mid new : Conn) (x y : Joining) (walk : Walk) (waiting : Option Said) (status : Option ℕ)
    → WalksBy z first counted f g all w answers (length answers.asked.now.messages.items) mid x (Ok walk) → waiting ≡ walk.waiting
    → new.window ≡ mid.window → status ≡ option_map (λ (s : Said). s.header.status) walk.waiting
    → AddsLast counted answers waiting mid.logon.keys x mid.nonces y new.nonces (Ok tt)
    → AddsBy first counted answers.asked.now.sealed f g all w new y (Ok status)
closes z first counted f g all w answers mid new x y walk waiting status s is window told add =
    let last = ends z first counted f g all w answers (length answers.asked.now.messages.items) mid x walk s refl in
    record {
      joins = joined_last z first counted f g all w answers mid x y walk new.nonces waiting (Ok tt) s is add;
      status_is = told ∙ status_is z first counted f g all w answers (length answers.asked.now.messages.items) mid x walk s last.0;
      window = window ∙ sym last.1;
    }
