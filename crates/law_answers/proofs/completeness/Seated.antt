-- Each event keeps the sessions that the server is to hold.
use Rattle.std.proofs.Common.{◌≡◌, ◌≢◌, ℕ, ◌≤◌, ◌==◌, Bool, true, false, not, ◌&&◌, if◌then◌else◌, List, [], ◌∷◌, ◌++◌}
use Rattle.std.proofs.Common.{refl, arith, sym, subst, ◌∙◌, ap, Option, Some, None, slice_get}
use Rattle.spec_exchange.specs.Status.{success, more_processing_required}
use Rattle.spec_exchange.specs.Commands.{is_setup}
use Rattle.spec_exchange.specs.State.{Reply, Server, End}
use Rattle.spec_exchange.specs.Step.{step}
use Rattle.spec_exchange.specs.Client.{Client, Stage, Apart, SaidNegotiate, SaidFirst, SaidSecond, AskedTree, may_take}
use Rattle.spec_exchange.specs.Client.{take_op, cut_channel, ends_at_cut, end_session, bind_channel, begin_session}
use Rattle.spec_exchange.specs.Client.{leave_dialog, note_refusal}
use Rattle.spec_exchange.specs.Operations.{HadStatus}
use Rattle.spec_exchange.specs.Settling.{Heard as Hearing, Settles, GoesAgain, Attaches, EndsSession, heard, hear, is_awaited, settle}
use Rattle.spec_exchange.specs.Dialogs.{GoesOn, Accepts, Binds, Readies, Refuses, dialog_step, dialog_message, went_on, accepted}
use Rattle.spec_exchange.specs.ClientStep.{Nothing, CloseChannels, act_heard}
use Rattle.spec_exchange.specs.Network.{World, Event, Submit, Open, Push, Serve, Take, Cut, Drop, Restart, Crash, Wait}
use Rattle.spec_exchange.specs.Network.{Finish, Conn, Sent, Received, Token, ForDialog, ForOp, ForAttach, happens}
use Rattle.spec_exchange.specs.Network.{changed, later, may_open, may_serve, may_take_reply, server_off, client_off}
use Rattle.spec_exchange.specs.Network.{send_up, take_front, serve_front, absorb_front, take_reply, took_by}
use Rattle.spec_exchange.specs.Network.{dialog_took, op_took, closed_by, cut_by, with_client, behind_reply, restarted}
use Rattle.spec_exchange.specs.Network.{one_cut}
use Rattle.law_sessions.specs.messages.Connections.{Connections, is_bound}
use Rattle.law_sessions.proofs.messages.Run.{both_ways, ended_well, closed_of}
use Rattle.law_server.proofs.tables.Logic.{either}
use Rattle.law_sessions.specs.sessions.Sessions.{Sessions, makes_session}
use Rattle.law_sessions.specs.sessions.Dialogs.{MessageAlone, ReplyAlone, IsLost, Channel, IsClosed, IsReady, IsInDialog, Channels}
use Rattle.law_sessions.proofs.sessions.Channels.{same_settle}
use Rattle.law_sessions.proofs.sessions.Table.{keeps_settle}
use Rattle.law_answers.proofs.completeness.Events.{put_at, put_off}
use Rattle.law_answers.proofs.completeness.Links.{Links, tally, bit}
use Rattle.law_answers.proofs.completeness.Held.{end_keeps}
use Rattle.law_answers.proofs.completeness.Taking.{not_dialog}
use Rattle.law_answers.proofs.completeness.Seats.{Seat, Seats, Here, seat, second_seat, shut_seat, gone_seat, not_second}
use Rattle.law_answers.proofs.completeness.Seats.{ready_seat, on_seat, by_both, same_seats, one_seat, ready_apart, pushes}
use Rattle.law_answers.proofs.completeness.Seats.{opens, serves, IsPast}

absent : (b : Bool) (P : Type 0) → b ≡ true → b ≡ false → P
absent b P e f = absurd (cc)

-- ---- an operation's reply is taken

behind_seats : (w : World) (k : ℕ) (rest : List Received) → w.client.ready k ≡ true → Channels w.client w.conns → Here w
    → Here (behind_reply w k rest)
unfolding Here
behind_seats w k rest on channels h =
    let c = w.client in
    one_seat c w.conns k (take_front (w.conns k) rest) w.server
    (record {
      held = λ o s x e. (h k).held o s x (ready_seat (c.ready k) (c.stage k) (w.conns k).down rest c.session c.pending on ∙ e);
      bound = λ e. not_second (c.stage k) _ (ready_apart (c.ready k) (c.stage k) (w.conns k) on (channels k)) e;
    }) (λ q n. h q)

hears : (w : World) (k g : ℕ) (asking : Bool) (r : Reply) (place : ℕ) → Here w → (h : Hearing)
    → Here (with_client (closed_by w k (act_heard h)) (hear w.client g asking r place h))
unfolding Here
hears w k g asking r place i (Settles o) = same_seats w.client (settle w.client g asking r place o) w.conns w.server
    (by_both w.client _ (same_settle w.client g asking r place o) (keeps_settle w.client g asking r place o).same) i
hears w k g asking r place i GoesAgain = i
hears w k g asking r place i Attaches = i
hears w k g asking r place i EndsSession = λ q. shut_seat _ _ _ _ _ _ refl

took : (w : World) (k g : ℕ) (asking : Bool) (r : Reply) (place : ℕ) → Here w → Here (op_took w k g asking r place)
unfolding Here
took w k g asking r place i =
    both_ways (λ c x. Here (with_client (closed_by w k x) c)) (is_awaited w.client k g asking)
    (hear w.client g asking r place (heard w.client g asking r)) w.client (act_heard (heard w.client g asking r))
    Nothing
    (λ _. hears w k g asking r place i (heard w.client g asking r)) (λ _. i)

same_down : (ys : List Received) (y z : Received) (rest : List Received) → ys ≡ y ∷ rest → ys ≡ z ∷ [] → z ≡ y × rest ≡ []
same_down ys y z rest e f = (grind arith, grind arith)

none_down : (ys : List Received) (y : Received) (rest : List Received) (P : Type 0) → ys ≡ y ∷ rest → ys ≡ [] → P
none_down ys y rest P e f = absurd (cc)

op_ready : (r : Bool) (t : Stage) (conn : Conn) (y : Received) (rest : List Received) → Channel r t conn → conn.down
    ≡ y ∷ rest → y.token ≢ ForDialog → r ≡ true
op_ready r t conn y rest (IsClosed off apart shut none) is n = none_down conn.down y rest _ is none
op_ready r t conn y rest (IsReady on apart stands) is n = on
op_ready r t conn y rest (IsInDialog off talks stands (MessageAlone x one none token)) is n = none_down conn.down y rest _ is none
op_ready r t conn y rest (IsInDialog off talks stands (ReplyAlone z none one token)) is n =
    absurd (n (ap (λ (x : Received). x.token) (sym (same_down conn.down y z rest is one).0) ∙ token))
op_ready r t conn y rest (IsInDialog off talks stands (IsLost gone none empty)) is n = none_down conn.down y rest _ is empty

-- ---- a dialog's reply is taken

pub record Bare (r : Bool) (conn : Conn) (rest : List Received) : Type 0 where
  pub off : r ≡ false
  pub up : conn.up ≡ []
  pub none : rest ≡ []

bare : (r : Bool) (t : Stage) (conn : Conn) (y : Received) (rest : List Received) → (r ≡ true → ⊥) → Channel r t conn
    → conn.down ≡ y ∷ rest → Bare r conn rest
bare r t conn y rest n (IsClosed off apart shut none) is = none_down conn.down y rest _ is none
bare r t conn y rest n (IsReady on apart stands) is = absurd (n on)
bare r t conn y rest n (IsInDialog off talks stands (MessageAlone x one none token)) is = none_down conn.down y rest _ is none
bare r t conn y rest n (IsInDialog off talks stands (ReplyAlone z none one token)) is = record {
  off = off;
  up = none;
  none = (same_down conn.down y z rest is one).1;
}
bare r t conn y rest n (IsInDialog off talks stands (IsLost gone none empty)) is = none_down conn.down y rest _ is empty

-- what was to be held is held
second_held : (r : Bool) (t : Stage) (ys : List Received) (y : Received) (rest : List Received) (a b : ℕ) (bound : Bool)
    → r ≡ false → t ≡ SaidSecond bound → ys ≡ y ∷ rest → (y.reply.status == success) ≡ true → seat r t ys a b
    ≡ Some (if bound then a else b)
second_held r t ys y rest a b bound off at is status = grind arith

asked_held : (r : Bool) (t : Stage) (ys : List Received) (a b : ℕ) → r ≡ false → t ≡ AskedTree → seat r t ys a b ≡ Some b
asked_held r t ys a b off at = grind arith

now_ready : (conn : Conn) (a b : ℕ) (on : Option ℕ) → (conn.client_open ≡ true → conn.server_open ≡ true → on ≡ Some a)
    → Seat true Apart conn a b on
now_ready conn a b on f = record { held = λ o s x e. f o s ∙ e; bound = λ e. absurd (cc) }

now_asks : (r : Bool) (conn : Conn) (a b : ℕ) (on : Option ℕ) → r ≡ false → (conn.client_open ≡ true → conn.server_open
    ≡ true → on ≡ Some b) → Seat r AskedTree conn a b on
now_asks r conn a b on off f = record {
  held = λ o s x e. f o s ∙ (sym (asked_held r AskedTree conn.down a b off refl) ∙ e);
  bound = λ e. absurd (cc);
}

-- the next SESSION_SETUP goes out
no_seat : (r : Bool) (s : Stage) (ys : List Received) (a b x : ℕ) → r ≡ false → s ≢ AskedTree → ys ≡ [] → seat r s ys a b ≡ Some x → ⊥
no_seat true s ys a b x off n e i = absurd (cc)
no_seat false Apart ys a b x off n e i = absurd (cc)
no_seat false (SaidNegotiate bound) ys a b x off n e i = absurd (cc)
no_seat false (SaidFirst bound) ys a b x off n e i = absurd (cc)
no_seat false (SaidSecond bound) ys a b x off n e i = absurd (let j : second_seat bound [] a b
    ≡ Some x = subst (λ zs. second_seat bound zs a b ≡ Some x) e i in cc)
no_seat false AskedTree ys a b x off n e i = absurd (n refl)

one_up : (ys : List Sent) (y m : Sent) → ys ≡ [] → ys ++ y ∷ [] ≡ m ∷ [] → y ≡ m
one_up ys y m e f = first (sym (ap (λ zs. zs ++ y ∷ []) e) ∙ f)
  where
    first : y ∷ [] ≡ m ∷ [] → y ≡ m
    first e = cc

second_message : (c : Client) (k id : ℕ) (s : Stage) → s ≡ SaidSecond true → is_setup (dialog_message c k id s).command
    ≡ true × (dialog_message c k id s).session_id ≡ c.session
second_message c k id Apart e = absurd (cc)
second_message c k id (SaidNegotiate b) e = absurd (cc)
second_message c k id (SaidFirst b) e = absurd (cc)
second_message c k id (SaidSecond true) e = (refl, refl)
second_message c k id (SaidSecond false) e = absurd (cc)
second_message c k id AskedTree e = absurd (cc)

next_seat : (c : Client) (k id : ℕ) (s : Stage) (r : Bool) (conn : Conn) (b : ℕ) (on : Option ℕ) → r ≡ false
    → s ≢ AskedTree → conn.down ≡ [] → conn.up ≡ [] → Seat r s (send_up conn ForDialog (dialog_message c k id s) 1)
    c.session b on
next_seat c k id s r conn b on off n down up =
    record {
      held = λ o i x e. absurd (no_seat r s conn.down c.session b x off n down e);
      bound = λ e o m is. let q = second_message c k id s e in
          let same = one_up conn.up (record { token = ForDialog; message = dialog_message c k id s }) m up is in (
            ap (λ (z : Sent). is_setup z.message.command) (sym same) ∙ q.0,
            ap (λ (z : Sent). z.message.session_id)
                (sym same) ∙ q.1,
          );
    }

-- the pending session counts in the dialogs of new ones alone
pending_free : (r : Bool) (t : Stage) (ys : List Received) (a b d : ℕ) → makes_session t ≡ false → seat r t ys a b ≡ seat r t ys a d
pending_free true t ys a b d n = refl
pending_free false Apart ys a b d n = refl
pending_free false (SaidNegotiate bound) ys a b d n = refl
pending_free false (SaidFirst bound) ys a b d n = refl
pending_free false (SaidSecond true) [] a b d n = refl
pending_free false (SaidSecond true) (y ∷ ys) a b d n = refl
pending_free false (SaidSecond false) ys a b d n = absurd (cc)
pending_free false AskedTree ys a b d n = absurd (cc)

other_pending : (r : Bool) (t : Stage) (conn : Conn) (a b d : ℕ) (on : Option ℕ) → makes_session t ≡ false
    → Seat r t conn a b on → Seat r t conn a d on
other_pending r t conn a b d on n h = record { held = λ o s x e. h.held o s x (pending_free r t conn.down a b d n ∙ e); bound = h.bound }

-- no seat where no session is made, none is live and the channel isn't ready
idle_seat : (r : Bool) (t : Stage) (conn : Conn) (a b : ℕ) (on : Option ℕ) → r ≡ false → makes_session t ≡ false
    → is_bound t ≡ false → Seat r t conn a b on
idle_seat r Apart conn a b on off n m = record {
  held = λ o s x e. absurd (no_seat r Apart [] a b x off (λ i. absurd (cc)) refl e);
  bound = λ e. absurd (cc);
}
idle_seat r (SaidNegotiate true) conn a b on off n m = absurd (cc)
idle_seat r (SaidNegotiate false) conn a b on off n m = absurd (cc)
idle_seat r (SaidFirst true) conn a b on off n m = absurd (cc)
idle_seat r (SaidFirst false) conn a b on off n m = absurd (cc)
idle_seat r (SaidSecond true) conn a b on off n m = absurd (cc)
idle_seat r (SaidSecond false) conn a b on off n m = absurd (cc)
idle_seat r AskedTree conn a b on off n m = absurd (cc)

step_stage : (t s : Stage) (status : ℕ) → dialog_step t status ≡ GoesOn s → s ≢ AskedTree × (s ≡ SaidSecond false → makes_session t ≡ true)
step_stage Apart s status e = absurd (cc)
step_stage (SaidNegotiate b) s status e = (λ i. absurd (grind arith), λ i. absurd (grind arith))
step_stage (SaidFirst true) s status e = (λ i. absurd (grind arith), λ i. absurd (grind arith))
step_stage (SaidFirst false) s status e = (λ i. absurd (grind arith), λ i. refl)
step_stage (SaidSecond b) s status e = absurd (grind arith)
step_stage AskedTree s status e = absurd (grind arith)

-- at most one channel makes a session
other_makes : (w : World) (k q : ℕ) → Sessions w.client w.conns w.server → makes_session (w.client.stage k) ≡ true
    → q ≢ k → makes_session (w.client.stage q) ≡ false
other_makes w k q s m n = by (makes_session (w.client.stage q)) refl
  where
    same : Some q ≡ Some k → q ≡ k
    same e = cc

    by : (b : Bool) → makes_session (w.client.stage q) ≡ b → makes_session (w.client.stage q) ≡ false
    by true e = absurd (n (same (sym (s.making q e) ∙ s.making k m)))
    by false e = e

not_live : (b : Bool) → (b ≡ true → ⊥) → b ≡ false
not_live true f = absurd (f refl)
not_live false f = refl

-- what stands beside the channel on which a dialog's reply is taken
pub record Taking (w : World) (a : ℕ → ℕ) (k : ℕ) (y : Received) (rest : List Received) : Type 0 where
  pub is : (w.conns k).down ≡ y ∷ rest
  pub bare : Bare (w.client.ready k) (w.conns k) rest
  pub fit : Connections w.client w.conns a
  pub sessions : Sessions w.client w.conns w.server
  pub here : Here w

-- another channel, where its columns are the same
away : (w : World) (k : ℕ) (rest : List Received) (d : Client) → Here w → (q : ℕ) → q ≢ k → d.ready q ≡ w.client.ready q
    → d.stage q ≡ w.client.stage q → d.session ≡ w.client.session
    → (Seat (w.client.ready q) (w.client.stage q) (w.conns q) w.client.session w.client.pending (w.server.session_on q)
    → Seat (w.client.ready q) (w.client.stage q) (w.conns q) w.client.session d.pending (w.server.session_on q))
    → Seat (d.ready q) (d.stage q) ((behind_reply w k rest).conns q) d.session d.pending (w.server.session_on q)
unfolding Here
away w k rest d h q n ready stage session f =
    subst (λ z. Seat (d.ready q) (d.stage q) z d.session d.pending (w.server.session_on q))
    (sym (put_off w.conns k (take_front (w.conns k) rest) q n))
    (subst (λ r. Seat r (d.stage q) (w.conns q) d.session d.pending (w.server.session_on q)) (sym ready)
    (subst (λ t. Seat (w.client.ready q) t (w.conns q) d.session d.pending (w.server.session_on q)) (sym stage)
    (subst (λ x. Seat (w.client.ready q) (w.client.stage q) (w.conns q) x d.pending (w.server.session_on q)) (sym session) (f (h q)))))

-- the connection behind the reply
behind_conn : (w : World) (k : ℕ) (rest : List Received) → (behind_reply w k rest).conns k ≡ take_front (w.conns k) rest
behind_conn w k rest = put_at w.conns k (take_front (w.conns k) rest)

refused : (w : World) (a : ℕ → ℕ) (k : ℕ) (y : Received) (rest : List Received) (status : ℕ) → Taking w a k y rest
    → Here (dialog_took (behind_reply w k rest) k y.reply (Refuses status))
unfolding Here
refused w a k y rest status T =
    let b = behind_reply w k rest in let d = note_refusal w.client k (HadStatus status) in
    one_seat d b.conns k (client_off (b.conns k)) w.server (shut_seat _ _ _ _ _ _ refl)
    (λ q n. away w k rest d T.here q n refl (put_off w.client.stage k Apart q n) refl (λ i. i))

goes_on : (w : World) (a : ℕ → ℕ) (k : ℕ) (y : Received) (rest : List Received) (s : Stage)
    → dialog_step (w.client.stage k) y.reply.status ≡ GoesOn s → Taking w a k y rest
    → Here (dialog_took (behind_reply w k rest) k y.reply (GoesOn s))
unfolding Here
goes_on w a k y rest s e T =
    let b = behind_reply w k rest in let d = went_on w.client k s y.reply in let p = step_stage (w.client.stage k) s
    y.reply.status e in let at = behind_conn w k rest in
    one_seat d b.conns k (send_up (b.conns k) ForDialog (dialog_message d k (b.conns k).next_id s) 1) w.server
    (subst (λ t. Seat (d.ready k) t (send_up (b.conns k) ForDialog (dialog_message d k (b.conns k).next_id s) 1)
    d.session d.pending (w.server.session_on k)) (sym (put_at w.client.stage k s))
    (next_seat d k (b.conns k).next_id s (w.client.ready k) (b.conns k) d.pending (w.server.session_on k) T.bare.off p.0
    (ap (λ (c : Conn). c.down) at ∙ T.bare.none) (ap (λ (c : Conn). c.up) at ∙ T.bare.up)))
    (λ q n. away w k rest d T.here q n refl (put_off w.client.stage k s q n) refl (pend q n s p.1))
  where
    pend : (q : ℕ) → q ≢ k → (s : Stage) → (s ≡ SaidSecond false → makes_session (w.client.stage k) ≡ true)
        → Seat (w.client.ready q) (w.client.stage q) (w.conns q) w.client.session w.client.pending
        (w.server.session_on q) → Seat (w.client.ready q) (w.client.stage q) (w.conns q) w.client.session
        (went_on w.client k s y.reply).pending (w.server.session_on q)
    pend q n Apart m i = i
    pend q n (SaidNegotiate bound) m i = i
    pend q n (SaidFirst bound) m i = i
    pend q n (SaidSecond true) m i = i
    pend q n (SaidSecond false) m i = other_pending (w.client.ready q) (w.client.stage q) (w.conns q) w.client.session
        w.client.pending y.reply.session_id (w.server.session_on q) (other_makes w k q T.sessions (m refl) n) i
    pend q n AskedTree m i = i

accepts : (w : World) (a : ℕ → ℕ) (k : ℕ) (y : Received) (rest : List Received) → w.client.stage k ≡ SaidSecond false
    → (y.reply.status == success) ≡ true → Taking w a k y rest
    → Here (dialog_took (behind_reply w k rest) k y.reply Accepts)
unfolding Here
accepts w a k y rest stage status T =
    let b = behind_reply w k rest in let c = w.client in let d = accepted c k in let at = behind_conn w k rest in
    let m = dialog_message d k (b.conns k).next_id AskedTree in
    one_seat d b.conns k (send_up (b.conns k) ForDialog m 1) w.server
    (subst (λ t. Seat (d.ready k) t (send_up (b.conns k) ForDialog m 1) d.session d.pending (w.server.session_on k))
    (sym (put_at c.stage k AskedTree))
    (now_asks (c.ready k) (send_up (b.conns k) ForDialog m 1) c.session c.pending (w.server.session_on k) T.bare.off
    (λ o s. (T.here k).held (ap (λ (z : Conn). z.client_open) (sym at) ∙ o) (ap (λ (z : Conn). z.server_open) (sym at)
    ∙ s) c.pending (second_held (c.ready k) (c.stage k) (w.conns k).down y rest c.session c.pending false T.bare.off
    stage T.is status))))
    (λ q n. away w k rest d T.here q n refl (put_off c.stage k AskedTree q n) refl (λ i. i))

-- the channel is bound, or the session begins
becomes : (w : World) (k : ℕ) (rest : List Received) (d : Client) → Here w → d.ready k ≡ true → d.stage k ≡ Apart
    → ((w.conns k).client_open ≡ true → (w.conns k).server_open ≡ true → w.server.session_on k ≡ Some d.session)
    → ((q : ℕ) → q ≢ k → Seat (d.ready q) (d.stage q) (w.conns q) d.session d.pending (w.server.session_on q))
    → Seats d (behind_reply w k rest).conns w.server
unfolding Here
becomes w k rest d h ready stage on others =
    one_seat d w.conns k (take_front (w.conns k) rest) w.server
    (subst (λ r. Seat r (d.stage k) (take_front (w.conns k) rest) d.session d.pending (w.server.session_on k)) (sym ready)
    (subst (λ t. Seat true t (take_front (w.conns k) rest) d.session d.pending (w.server.session_on k)) (sym stage)
    (now_ready (take_front (w.conns k) rest) d.session d.pending (w.server.session_on k) on)))
    others

left_out : (w : World) (a : ℕ → ℕ) (k : ℕ) (y : Received) (rest : List Received) → Taking w a k y rest
    → Here (one_cut (with_client (behind_reply w k rest) (leave_dialog w.client k)) k)
unfolding Here
left_out w a k y rest T =
    let b = behind_reply w k rest in let d = leave_dialog w.client k in
    one_seat d b.conns k (client_off (b.conns k)) w.server (shut_seat _ _ _ _ _ _ refl)
    (λ q n. away w k rest d T.here q n refl (put_off w.client.stage k Apart q n) refl (λ i. i))

two_columns : (c d : Client) (q : ℕ) (conn : Conn) (on : Option ℕ) → d.ready q ≡ c.ready q → d.stage q ≡ c.stage q
    → d.session ≡ c.session → d.pending ≡ c.pending → Seat (c.ready q) (c.stage q) conn c.session c.pending on
    → Seat (d.ready q) (d.stage q) conn d.session d.pending on
two_columns c d q conn on ready stage session pending h =
    subst (λ r. Seat r (d.stage q) conn d.session d.pending on) (sym ready)
    (subst (λ t. Seat (c.ready q) t conn d.session d.pending on) (sym stage)
    (subst (λ x. Seat (c.ready q) (c.stage q) conn x d.pending on) (sym session)
    (subst (λ x. Seat (c.ready q) (c.stage q) conn c.session x on) (sym pending) h)))

bound_now : (w : World) (a : ℕ → ℕ) (k : ℕ) (y : Received) (rest : List Received) → w.client.stage k ≡ SaidSecond true
    → (y.reply.status == success) ≡ true → Taking w a k y rest
    → Here (with_client (behind_reply w k rest) (bind_channel w.client k))
unfolding Here
bound_now w a k y rest stage status T =
    let c = w.client in let d = bind_channel c k in
    becomes w k rest d T.here (put_at c.ready k true) (put_at c.stage k Apart)
    (λ o s. (T.here k).held o s c.session (second_held (c.ready k) (c.stage k) (w.conns k).down y rest c.session
    c.pending true T.bare.off stage T.is status))
    (λ q n. two_columns c d q (w.conns q) (w.server.session_on q) (put_off c.ready k true q n)
    (put_off c.stage k Apart q n) refl refl (T.here q))

begun_now : (w : World) (a : ℕ → ℕ) (k : ℕ) (y : Received) (rest : List Received) → w.client.stage k ≡ AskedTree
    → w.client.live ≡ false → Taking w a k y rest
    → Here (with_client (behind_reply w k rest) (begin_session w.client k w.client.pending y.reply.tree_id))
unfolding Here
begun_now w a k y rest stage dead T =
    let c = w.client in let d = begin_session c k c.pending y.reply.tree_id in
    becomes w k rest d T.here (put_at c.ready k true) (put_at c.stage k Apart)
    (λ o s. (T.here k).held o s c.pending (asked_held (c.ready k) (c.stage k) (w.conns k).down c.session c.pending T.bare.off stage))
    (λ q n. subst (λ r. Seat r (d.stage q) (w.conns q) d.session d.pending (w.server.session_on q))
    (sym (put_off c.ready k true q n))
    (subst (λ t. Seat (c.ready q) t (w.conns q) d.session d.pending (w.server.session_on q))
    (sym (put_off c.stage k Apart q n))
    (idle_seat (c.ready q) (c.stage q) (w.conns q) d.session d.pending (w.server.session_on q)
    (not_live (c.ready q) (λ r. live_not (T.fit.ready q r).1))
    (other_makes w k q T.sessions (ap makes_session stage) n)
    (not_live (is_bound (c.stage q)) (λ r. live_not (T.fit.stages q r))))))
  where
    live_not : w.client.live ≡ true → ⊥
    live_not l = absurd (cc)

no_maker : (m : Option ℕ) (k : ℕ) → m ≡ None → m ≡ Some k → ⊥
no_maker m k e f = absurd (cc)

took_dialog : (w : World) (a : ℕ → ℕ) (k : ℕ) (y : Received) (rest : List Received) → Taking w a k y rest → (t : Stage)
    → w.client.stage k ≡ t → Here (dialog_took (behind_reply w k rest) k y.reply (dialog_step t y.reply.status))
unfolding Here
took_dialog w a k y rest T Apart at = refused w a k y rest y.reply.status T
took_dialog w a k y rest T (SaidNegotiate bound) at =
    either (λ d. Here (dialog_took (behind_reply w k rest) k y.reply d)) (y.reply.status == success)
    (GoesOn (SaidFirst bound)) (Refuses y.reply.status)
    (λ e. goes_on w a k y rest (SaidFirst bound) (ap (λ t. dialog_step t y.reply.status) at
    ∙ ap (λ b. if b then GoesOn (SaidFirst bound) else Refuses y.reply.status) e) T)
    (λ _. refused w a k y rest y.reply.status T)
took_dialog w a k y rest T (SaidFirst bound) at =
    either (λ d. Here (dialog_took (behind_reply w k rest) k y.reply d)) (y.reply.status == more_processing_required)
    (GoesOn (SaidSecond bound)) (Refuses y.reply.status)
    (λ e. goes_on w a k y rest (SaidSecond bound) (ap (λ t. dialog_step t y.reply.status) at
    ∙ ap (λ b. if b then GoesOn (SaidSecond bound) else Refuses y.reply.status) e) T)
    (λ _. refused w a k y rest y.reply.status T)
took_dialog w a k y rest T (SaidSecond true) at =
    either (λ d. Here (dialog_took (behind_reply w k rest) k y.reply d)) (y.reply.status == success) Binds (Refuses y.reply.status)
    (λ e. ended_well Here (behind_reply w k rest) k w.client.session w.client.tree (λ _. bound_now w a k y rest at e T)
    (λ dead newer. absurd (omega (arith, newer))) (left_out w a k y rest T))
    (λ _. refused w a k y rest y.reply.status T)
took_dialog w a k y rest T (SaidSecond false) at =
    either (λ d. Here (dialog_took (behind_reply w k rest) k y.reply d)) (y.reply.status == success) Accepts
    (Refuses y.reply.status) (λ e. accepts w a k y rest at e T) (λ _. refused w a k y rest y.reply.status T)
took_dialog w a k y rest T AskedTree at =
    either (λ d. Here (dialog_took (behind_reply w k rest) k y.reply d)) (y.reply.status == success) Readies (Refuses y.reply.status)
    (λ e. ended_well Here (behind_reply w k rest) k w.client.pending y.reply.tree_id
    (λ live. absurd (no_maker w.client.making k (T.sessions.live_accepted live).2
    (T.sessions.making k (ap makes_session at)))) (λ dead _. begun_now w a k y rest at dead T)
    (left_out w a k y rest T))
    (λ _. refused w a k y rest y.reply.status T)

takes : (w : World) (a : ℕ → ℕ) (k : ℕ) → Connections w.client w.conns a → Sessions w.client w.conns w.server
    → Channels w.client w.conns → Here w → (ys : List Received) → (w.conns k).down ≡ ys → Here (take_reply w k ys)
unfolding Here
takes w a k fit s channels h [] is = h
takes w a k fit s channels h (y ∷ rest) is = by y.token refl
  where
    op : (g : ℕ) (asking : Bool) → y.token ≢ ForDialog → Here (op_took (behind_reply w k rest) k g asking y.reply y.place)
    op g asking n = took (behind_reply w k rest) k g asking y.reply y.place
        (behind_seats w k rest (op_ready (w.client.ready k) (w.client.stage k) (w.conns k) y rest (channels k) is n)
        channels h)

    by : (t : Token) → y.token ≡ t → Here (took_by (behind_reply w k rest) k y.reply y.place t)
    by ForDialog e =
        took_dialog w a k y rest (record {
          is = is;
          bare = bare (w.client.ready k) (w.client.stage k) (w.conns k) y rest
              (λ on. absurd (not_dialog w.client w.conns k y rest fit.ready on is e)) (channels k) is;
          fit = fit;
          sessions = s;
          here = h;
        })
        (w.client.stage k) refl
    by (ForOp g) e = op g false (λ f. absurd (let i = sym e ∙ f in cc))
    by (ForAttach g) e = op g true (λ f. absurd (let i = sym e ∙ f in cc))

-- ---- Cut and Drop

cut_columns : (w : World) (k : ℕ) → Here w → (b e : Bool) → b ≡ true
    → Here (with_client (cut_by w k (if b && e then CloseChannels else Nothing))
    (if b then (if e then end_session w.client else cut_channel w.client k) else w.client))
unfolding Here
cut_columns w k h true true on = λ q. shut_seat _ _ _ _ _ _ refl
cut_columns w k h true false on =
    let c = w.client in let d = cut_channel c k in
    one_seat d w.conns k (client_off (w.conns k)) w.server (shut_seat _ _ _ _ _ _ refl)
    (λ q n. two_columns c d q (w.conns q) (w.server.session_on q) (put_off c.ready k false q n) refl refl refl
    (h q))
cut_columns w k h false e on = absurd (cc)

cuts : (w : World) (k : ℕ) → Here w → Here (changed w (Cut k))
unfolding Here
cuts w k h =
    let c = w.client in
    either Here (c.ready k) _ _ (λ on. cut_columns w k h (c.ready k) (ends_at_cut c) on)
    (λ _. one_seat (leave_dialog c k) w.conns k (client_off (w.conns k)) w.server (shut_seat _ _ _ _ _ _ refl)
    (λ q n. two_columns c (leave_dialog c k) q (w.conns q) (w.server.session_on q) refl
    (put_off c.stage k Apart q n) refl refl (h q)))

stands_once : (s : Server) (f : ℕ → Conn) (q : ℕ) → Links s f → (f q).server_open ≡ true → 1 ≤ tally q s.connections
unfolding bit
stands_once s f q links o = let e = links q ∙ ap bit o in omega (arith, e)

drops : (w : World) (k : ℕ) → Links w.server w.conns → (w.conns k).server_open ≡ true → Here w → Here (changed w (Drop k))
unfolding Here
drops w k links o h =
    let A = step w.server w.moment (End k) in let c = w.client in
    one_seat c w.conns k (server_off (w.conns k)) A.server (gone_seat (c.ready k) (c.stage k) (server_off (w.conns k))
    c.session c.pending (A.server.session_on k) refl refl)
    (λ q n. on_seat (c.ready q) (c.stage q) (w.conns q) c.session c.pending (w.server.session_on q)
    (A.server.session_on q) (λ x _ so _ held. end_keeps w.server w.moment k q x n
    (stands_once w.server w.conns q links so) (stands_once w.server w.conns k links o) held) (h q))

-- ---- every event

absorbed_seats : (w : World) (k : ℕ) (xs : List Sent) → Here (restarted (absorb_front w k xs))
unfolding Here
absorbed_seats w k [] q = gone_seat _ _ _ _ _ _ refl refl
absorbed_seats w k (x ∷ rest) q = gone_seat _ _ _ _ _ _ refl refl

crashed : (w : World) (k : ℕ) (kept : Bool) → Here (changed w (Crash k kept))
unfolding Here
crashed w k true = absorbed_seats w k (w.conns k).up
crashed w k false = absorbed_seats w k []

pub seats_on : (w : World) (e : Event) (a : ℕ → ℕ) → Connections w.client w.conns a → Sessions w.client w.conns w.server
    → Channels w.client w.conns → Links w.server w.conns → ((k n : ℕ) (x : Sent) → slice_get (w.conns k).up n ≡ Some x
    → IsPast w.client x)
    → Seats w.client w.conns w.server → Seats (happens w e).client (happens w e).conns (happens w e).server
unfolding Here
seats_on w (Submit g op) a fit s channels links past h = either (λ c. Seats c w.conns w.server) (may_take w.client g op)
    (take_op w.client g op) w.client (λ _. h) (λ _. h)
seats_on w (Open k) a fit s channels links past h = either Here (may_open w k) (later (changed w (Open k)) 1) w
    (λ m. opens w k (closed_of w k m) channels h) (λ _. h)
seats_on w (Push k slotless pick) a fit s channels links past h = either Here (w.client.ready k)
    (later (changed w (Push k slotless pick)) 1) w (λ on. pushes w k slotless pick on channels h) (λ _. h)
seats_on w (Serve k) a fit s channels links past h = either Here (may_serve w k)
    (later (serve_front w k (w.conns k).up) 1) w (λ _. serves w a k (w.conns k).up refl fit s channels
    (λ x f. past k 0 x f) h) (λ _. h)
seats_on w (Take k) a fit s channels links past h = either Here (may_take_reply w k) (later (changed w (Take k)) 1) w
    (λ _. takes w a k fit s channels h (w.conns k).down refl) (λ _. h)
seats_on w (Cut k) a fit s channels links past h = either Here (w.conns k).client_open (later (changed w (Cut k)) 1) w
    (λ _. cuts w k h) (λ _. h)
seats_on w (Drop k) a fit s channels links past h = either Here (w.conns k).server_open (later (changed w (Drop k)) 1) w
    (λ o. drops w k links o h) (λ _. h)
seats_on w Restart a fit s channels links past h = absorbed_seats w 0 []
seats_on w (Crash k kept) a fit s channels links past h = either Here (may_serve w k)
    (later (changed w (Crash k kept)) 1) w (λ _. crashed w k kept) (λ _. h)
seats_on w (Wait n) a fit s channels links past h = h
seats_on w (Finish refusal) a fit s channels links past h = either Here (not w.client.live)
    (later (changed w (Finish refusal)) 1) w (λ _. h) (λ _. h)
