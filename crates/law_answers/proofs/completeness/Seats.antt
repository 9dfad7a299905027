-- The server holds the client's session on each ready channel both of whose ends are open; and before a channel is ready, the
-- session that its dialog has begun or joined.
use Rattle.std.proofs.Common.{eqb-true, ◌≡◌, ◌≢◌, ℕ, ◌<◌, ◌==◌, Bool, true, false, if◌then◌else◌, List, [], ◌∷◌, ◌++◌}
use Rattle.std.proofs.Common.{◌⊎◌, inl, inr, refl, arith, sym, subst, ◌∙◌, ap, Option, Some, None, slice_get}
use Rattle.spec_exchange.specs.Table.{put}
use Rattle.spec_exchange.specs.Status.{success}
use Rattle.spec_exchange.specs.Commands.{Command, Logoff, Setup, is_setup}
use Rattle.spec_exchange.specs.State.{Server, Message, Accept, Heard, Answer}
use Rattle.spec_exchange.specs.Step.{step}
use Rattle.spec_exchange.specs.Client.{Client, Stage, Apart, SaidNegotiate, SaidFirst, SaidSecond, AskedTree, may_push}
use Rattle.spec_exchange.specs.Client.{goes_itself, has_its_slot, settle_no_slots, begun, outstanding, asked}
use Rattle.spec_exchange.specs.Dialogs.{open_channel}
use Rattle.spec_exchange.specs.ClientStep.{Pick, Act, pick_after, pick_act, some_unsettled, IsReady}
use Rattle.spec_exchange.specs.Network.{World, Push, Conn, Sent, Received, Token, ForDialog, ForOp, ForAttach, changed}
use Rattle.spec_exchange.specs.Network.{later, fresh, opened_by, send_up, say_down, behind_front, pushed_by, answer}
use Rattle.spec_exchange.specs.Network.{answer_to, serve_front}
use Rattle.law_sessions.specs.messages.Connections.{Connections, is_bound}
use Rattle.law_sessions.proofs.messages.Lists.{front_up}
use Rattle.law_sessions.proofs.messages.Run.{both_ways}
use Rattle.law_server.proofs.tables.Logic.{either}
use Rattle.law_sessions.specs.sessions.Sessions.{Sessions, is_ops, is_work, is_dialog, is_new_setup, is_tree_connect, previous_in}
use Rattle.law_sessions.specs.sessions.Dialogs.{MessageAlone, ReplyAlone, IsLost, Channel, IsClosed, IsReady, IsInDialog, Channels}
use Rattle.law_sessions.proofs.sessions.Channels.{SameChannels, same_no_slots, same_begun}
use Rattle.law_sessions.proofs.sessions.Table.{keeps_no_slots, keeps_begun}
use Rattle.law_sessions.proofs.sessions.Words.{SameSession, no_dialog_up as none_of_dialog}
use Rattle.law_answers.proofs.completeness.Clean.{at_or_else}
use Rattle.law_answers.proofs.completeness.Events.{put_at, put_off}
use Rattle.law_answers.proofs.completeness.Held.{held_on, enters, accept_on}

-- ---- the session that the server is to hold

abbrev pub second_seat : Bool → List Received → ℕ → ℕ → Option ℕ
second_seat bound [] session pending = None
second_seat bound (y ∷ ys) session pending = if y.reply.status == success then Some (if bound then session else pending) else None

abbrev pub dialog_seat : Stage → List Received → ℕ → ℕ → Option ℕ
dialog_seat Apart ys session pending = None
dialog_seat (SaidNegotiate bound) ys session pending = None
dialog_seat (SaidFirst bound) ys session pending = None
dialog_seat (SaidSecond bound) ys session pending = second_seat bound ys session pending
dialog_seat AskedTree ys session pending = Some pending

abbrev pub seat : Bool → Stage → List Received → ℕ → ℕ → Option ℕ
seat ready stage ys session pending = if ready then Some session else dialog_seat stage ys session pending

-- a further channel's second SESSION_SETUP, where it waits, is one of the live session
pub record Seat (ready : Bool) (stage : Stage) (conn : Conn) (session pending : ℕ) (on : Option ℕ) : Type 0 where
  pub held : conn.client_open ≡ true → conn.server_open ≡ true → (x : ℕ) → seat ready stage conn.down session pending ≡ Some x → on ≡ Some x
  pub bound : stage ≡ SaidSecond true → conn.client_open ≡ true → (m : Sent) → conn.up ≡ m ∷ []
      → is_setup m.message.command ≡ true × m.message.session_id ≡ session

abbrev pub Seats : Client → (ℕ → Conn) → Server → Type 0
Seats c conns s = (q : ℕ) → Seat (c.ready q) (c.stage q) (conns q) c.session c.pending (s.session_on q)

unfoldable pub Here : World → Type 0
Here w = Seats w.client w.conns w.server

-- ---- seats by themselves

absent : (b : Bool) (P : Type 0) → b ≡ true → b ≡ false → P
absent b P e f = absurd (cc)

pub shut_seat : (r : Bool) (t : Stage) (conn : Conn) (a b : ℕ) (on : Option ℕ) → conn.client_open ≡ false → Seat r t conn a b on
shut_seat r t conn a b on shut = record { held = λ o. absent conn.client_open _ o shut; bound = λ e o. absent conn.client_open _ o shut }

-- the server's end is closed, and nothing waits for it
pub gone_seat : (r : Bool) (t : Stage) (conn : Conn) (a b : ℕ) (on : Option ℕ) → conn.server_open ≡ false → conn.up ≡ []
    → Seat r t conn a b on
gone_seat r t conn a b on shut none = record {
  held = λ o s. absent conn.server_open _ s shut;
  bound = λ e o m is. absurd (filled conn.up m is none);
}
  where
    filled : (xs : List Sent) (m : Sent) → xs ≡ m ∷ [] → xs ≡ [] → ⊥
    filled xs m e f = absurd (cc)

pub not_second : (t : Stage) (P : Type 0) → t ≡ Apart → t ≡ SaidSecond true → P
not_second t P e f = absurd (grind arith)

-- a ready channel's seat doesn't look at what waits
pub ready_seat : (r : Bool) (t : Stage) (ys zs : List Received) (a b : ℕ) → r ≡ true → seat r t ys a b ≡ seat r t zs a b
ready_seat true t ys zs a b e = refl
ready_seat false t ys zs a b e = absurd (cc)

-- the server's column changes
pub on_seat : (r : Bool) (t : Stage) (conn : Conn) (a b : ℕ) (on later : Option ℕ)
    → ((x : ℕ) → conn.client_open ≡ true → conn.server_open ≡ true → seat r t conn.down a b ≡ Some x → on ≡ Some x
    → later ≡ Some x) → Seat r t conn a b on → Seat r t conn a b later
on_seat r t conn a b on later f h = record { held = λ o s x e. f x o s e (h.held o s x e); bound = h.bound }

-- ---- the client's columns

pub record SameSeat (c d : Client) : Type 0 where
  pub ready : d.ready ≡ c.ready
  pub stage : d.stage ≡ c.stage
  pub session : d.session ≡ c.session
  pub pending : d.pending ≡ c.pending

pub by_both : (c d : Client) → SameChannels c d → SameSession c d → SameSeat c d
by_both c d a b = record { ready = a.ready; stage = a.stage; session = b.session; pending = b.pending }

pub same_seats : (c d : Client) (conns : ℕ → Conn) (s : Server) → SameSeat c d → Seats c conns s → Seats d conns s
same_seats c d conns s e h q =
    subst (λ r. Seat (r q) (d.stage q) (conns q) d.session d.pending (s.session_on q)) (sym e.ready)
    (subst (λ t. Seat (c.ready q) (t q) (conns q) d.session d.pending (s.session_on q)) (sym e.stage)
    (subst (λ a. Seat (c.ready q) (c.stage q) (conns q) a d.pending (s.session_on q)) (sym e.session)
    (subst (λ b. Seat (c.ready q) (c.stage q) (conns q) c.session b (s.session_on q)) (sym e.pending) (h q))))

-- one channel changes, and the others are the same
pub one_seat : (d : Client) (conns : ℕ → Conn) (k : ℕ) (conn : Conn) (s : Server) → Seat (d.ready k) (d.stage k) conn
    d.session d.pending (s.session_on k) → ((q : ℕ) → q ≢ k → Seat (d.ready q) (d.stage q) (conns q) d.session d.pending
    (s.session_on q)) → Seats d (put conns k conn) s
one_seat d conns k conn s here there q =
    at_or_else (λ i. Seat (d.ready i) (d.stage i) (put conns k conn i) d.session d.pending (s.session_on i)) k q
    (subst (λ z. Seat (d.ready k) (d.stage k) z d.session d.pending (s.session_on k)) (sym (put_at conns k conn)) here)
    (λ n. subst (λ z. Seat (d.ready q) (d.stage q) z d.session d.pending (s.session_on q)) (sym (put_off conns k conn q n)) (there q n))

-- ---- a push

sent_seat : (r : Bool) (t : Stage) (conn : Conn) (a b : ℕ) (on : Option ℕ) (k : Token) (m : Message) (n : ℕ) → t ≡ Apart
    → Seat r t conn a b on → Seat r t (send_up conn k m n) a b on
sent_seat r t conn a b on k m n apart h = record { held = h.held; bound = λ e. not_second t _ apart e }

pushes_op : (w : World) (k g i : ℕ) (c : Client) → c.stage k ≡ Apart → Seats c w.conns w.server
    → Here (pushed_by w k (pick_after c k (Some (record { op = g; slot = i })))
    (pick_act c k (Some (record { op = g; slot = i }))))
unfolding Here
pushes_op w k g i c apart h =
    let P : Client → Act → Type 0 = λ d x. Here (pushed_by w k d x) in
    both_ways P (may_push c k g) _ _ _ _
    (λ _. both_ways P (goes_itself c g) _ _ _ _
    (λ _. both_ways P (has_its_slot c g i) _ _ _ _
    (λ _. let d = outstanding (begun c g i) k g in let e = by_both c d (same_begun c k g i) (keeps_begun c k g i).same
    in let j = same_seats c d w.conns w.server e h in
    one_seat d w.conns k _ w.server (sent_seat (d.ready k) (d.stage k) (w.conns k) d.session d.pending
    (w.server.session_on k) (ForOp g) _ _ (ap (λ f. f k) e.stage ∙ apart) (j k)) (λ q n. j q)) (λ _. h))
    (λ _. let d = asked c k g in one_seat d w.conns k _ w.server (sent_seat (c.ready k) (c.stage k) (w.conns k)
    c.session c.pending (w.server.session_on k) (ForAttach g) _ _ apart (h k)) (λ q n. h q)))
    (λ _. h)

picks : (w : World) (k : ℕ) (c : Client) (pick : Option Pick) → c.stage k ≡ Apart → Seats c w.conns w.server
    → Here (pushed_by w k (pick_after c k pick) (pick_act c k pick))
unfolding Here
picks w k c None apart h = either (λ x. Here (pushed_by w k c x)) (some_unsettled c c.taken) _ _ (λ _. h) (λ _. h)
picks w k c (Some p) apart h = pushes_op w k p.op p.slot c apart h

pub ready_apart : (r : Bool) (t : Stage) (conn : Conn) → r ≡ true → Channel r t conn → t ≡ Apart
ready_apart r t conn e (IsClosed off apart shut none) = apart
ready_apart r t conn e (IsReady on apart stands) = apart
ready_apart r t conn e (IsInDialog off talks stands waits) = absent r _ e off

pub pushes : (w : World) (k : ℕ) (slotless : List ℕ) (pick : Option Pick) → w.client.ready k ≡ true
    → Channels w.client w.conns → Here w → Here (changed w (Push k slotless pick))
unfolding Here
pushes w k slotless pick on channels h =
    let c = settle_no_slots w.client k slotless in let e = by_both w.client c (same_no_slots w.client k slotless)
    (keeps_no_slots w.client k slotless).same in
    both_ways (λ d x. Here (pushed_by w k d x)) (w.client.ready k) _ _ _ _
    (λ _. picks w k c pick (ap (λ f. f k) e.stage ∙ ready_apart (w.client.ready k) (w.client.stage k) (w.conns k) on
    (channels k)) (same_seats w.client c w.conns w.server e h))
    (λ off. absent (w.client.ready k) _ on off)

-- ---- Open

opened_seat : (r : Bool) (c : Client) (k : ℕ) (served b : Bool) (x y : ℕ) (on : Option ℕ) → r ≡ false
    → Seat r (SaidNegotiate b) (fresh c k served) x y on
opened_seat true c k served b x y on e = absurd (cc)
opened_seat false c k served b x y on e = record { held = λ o s z i. absurd (cc); bound = λ i. absurd (cc) }

closed_off : (r : Bool) (t : Stage) (conn : Conn) → conn.client_open ≡ false → Channel r t conn → r ≡ false
closed_off r t conn shut (IsClosed off apart gone none) = off
closed_off r t conn shut (IsReady on apart stands) = absent conn.client_open _ stands shut
closed_off r t conn shut (IsInDialog off talks stands waits) = off

pub opens : (w : World) (k : ℕ) → (w.conns k).client_open ≡ false → Channels w.client w.conns → Here w
    → Here (opened_by w k (step w.server w.moment (Accept k)))
unfolding Here
opens w k shut channels h =
    let A = step w.server w.moment (Accept k) in let d = open_channel w.client k in
    one_seat d w.conns k (fresh w.client k (A.reply.status == success)) A.server
    (subst (λ t. Seat (d.ready k) t (fresh w.client k (A.reply.status == success)) d.session d.pending
    (A.server.session_on k)) (sym (put_at w.client.stage k (SaidNegotiate w.client.live)))
    (opened_seat (w.client.ready k) w.client k (A.reply.status == success) w.client.live d.session d.pending
    (A.server.session_on k) (closed_off (w.client.ready k) (w.client.stage k) (w.conns k) shut (channels k))))
    (λ q n. subst (λ f. Seat (d.ready q) (d.stage q) (w.conns q) d.session d.pending (f q)) (sym (accept_on w.server w.moment k))
    (subst (λ t. Seat (w.client.ready q) t (w.conns q) w.client.session w.client.pending (w.server.session_on q))
    (sym (put_off w.client.stage k (SaidNegotiate w.client.live) q n)) (h q)))

-- ---- Serve: what the message leaves alone

-- of a message that waits: the session that it names as its previous one
abbrev pub Current : Client → Type 0
Current c = (c.live ≡ true) ⊎ ((k : ℕ) × c.stage k ≡ AskedTree)

-- It was accepted, and it isn't the last accepted one while that one is live or asks for its tree.
abbrev pub IsPast : Client → Sent → Type 0
IsPast c x = 0 < previous_in x.message.command → 0 < c.rank (previous_in x.message.command)
    × (Current c → previous_in x.message.command ≢ c.accepted)

no_rank : (f : ℕ → ℕ) (n x : ℕ) → f x ≡ 0 → 0 < f n → x ≢ n
no_rank f n x z r e = absurd (omega (arith, z, subst (λ i. 0 < f i) (sym e) r))

-- the server is to hold another session than that
spares : (w : World) (a : ℕ → ℕ) (m : Sent) (q : ℕ) → Connections w.client w.conns a → Sessions w.client w.conns
    w.server → IsPast w.client m
    → (x : ℕ) → seat (w.client.ready q) (w.client.stage q) (w.conns q).down w.client.session w.client.pending ≡ Some x
    → x ≢ previous_in m.message.command
spares w a m q fit s past x = by (w.client.ready q) refl (w.client.stage q) refl
  where
    n : ℕ
    n = previous_in m.message.command

    accepted_one : (y : ℕ) → y ≡ w.client.accepted → 0 < w.client.rank y → Current w.client → y ≢ n
    accepted_one y e r now same = absurd (let low = (s.ranked_given y r).0 in let p = past (subst (λ i. 0 < i) same low)
        in p.1 now (sym same ∙ e))

    live_one : w.client.live ≡ true → w.client.session ≢ n
    live_one l = let p = s.live_accepted l in accepted_one w.client.session p.0 (subst (λ i. 0 < w.client.rank i) (sym p.0) p.1) (inl l)

    new_one : w.client.rank w.client.pending ≡ 0 → 0 < w.client.pending → w.client.pending ≢ n
    new_one z low same = absurd (let p = past (subst (λ i. 0 < i) same low) in no_rank w.client.rank n w.client.pending z p.0 same)

    is : (y x : ℕ) → Some y ≡ Some x → y ≢ n → x ≢ n
    is y x e d = subst (λ i. i ≢ n) (same e) d
      where
        same : Some y ≡ Some x → y ≡ x
        same e = cc

    second : (bound : Bool) → w.client.stage q ≡ SaidSecond bound → (ys : List Received)
        → second_seat bound ys w.client.session w.client.pending ≡ Some x → x ≢ n
    second bound at [] e = absurd (cc)
    second true at (y ∷ ys) e = is w.client.session x (told (y.reply.status == success) w.client.session e)
        (live_one (fit.stages q (ap is_bound at)))
      where
        told : (b : Bool) (z : ℕ) → (if b then Some z else None) ≡ Some x → Some z ≡ Some x
        told true z e = e
        told false z e = absurd (cc)
    second false at (y ∷ ys) e = is w.client.pending x (told (y.reply.status == success) w.client.pending e)
        (new_one (s.pending_unranked q at) (s.pending_given q at).0)
      where
        told : (b : Bool) (z : ℕ) → (if b then Some z else None) ≡ Some x → Some z ≡ Some x
        told true z e = e
        told false z e = absurd (cc)

    by : (r : Bool) → w.client.ready q ≡ r → (t : Stage) → w.client.stage q ≡ t → seat r t (w.conns q).down
        w.client.session w.client.pending ≡ Some x → x ≢ n
    by true on t at e = is w.client.session x e (live_one (fit.ready q on).1)
    by false off Apart at e = absurd (cc)
    by false off (SaidNegotiate bound) at e = absurd (cc)
    by false off (SaidFirst bound) at e = absurd (cc)
    by false off (SaidSecond bound) at e = second bound at (w.conns q).down e
    by false off AskedTree at e = let p = s.pending_accepted q at in
        is w.client.pending x e (accepted_one w.client.pending p.0 (subst (λ i. 0 < w.client.rank i) (sym p.0) p.1)
        (inr (q, at)))

-- ---- Serve: the connection itself

same_front : (xs : List Sent) (x y : Sent) (rest : List Sent) → xs ≡ x ∷ rest → xs ≡ y ∷ [] → y ≡ x × rest ≡ []
same_front xs x y rest e f = (grind arith, grind arith)

none_front : (xs : List Sent) (x : Sent) (rest : List Sent) (P : Type 0) → xs ≡ x ∷ rest → xs ≡ [] → P
none_front xs x rest P e f = absurd (cc)

one_said : (ys : List Received) (y : Received) → ys ≡ [] → ys ++ y ∷ [] ≡ y ∷ []
one_said ys y e = ap (λ zs. zs ++ y ∷ []) e

-- what the step does to the session that is held there
pub record Turns (r : Bool) (t : Stage) (conn : Conn) (a b : ℕ) (on later : Option ℕ) (y : Received) : Type 0 where
  pub ready : (x : ℕ) → r ≡ true → conn.client_open ≡ true → seat r t conn.down a b ≡ Some x → on ≡ Some x → later ≡ Some x
  pub asked : (x : ℕ) → t ≡ AskedTree → conn.client_open ≡ true → seat r t conn.down a b ≡ Some x → on ≡ Some x → later ≡ Some x
  pub second : (bound : Bool) → t ≡ SaidSecond bound → conn.client_open ≡ true → y.reply.status ≡ success → later
      ≡ Some (if bound then a else b)

alone_held : (r : Bool) (t : Stage) (conn : Conn) (a b : ℕ) (on later : Option ℕ) (y : Received) → r ≡ false
    → conn.client_open ≡ true → conn.server_open ≡ true → Seat r t conn a b on → Turns r t conn a b on later y → (x : ℕ)
    → seat r t (y ∷ []) a b ≡ Some x → later ≡ Some x
alone_held true t conn a b on later y off o s h f x e = absurd (cc)
alone_held false Apart conn a b on later y off o s h f x e = absurd (cc)
alone_held false (SaidNegotiate bound) conn a b on later y off o s h f x e = absurd (cc)
alone_held false (SaidFirst bound) conn a b on later y off o s h f x e = absurd (cc)
alone_held false (SaidSecond bound) conn a b on later y off o s h f x e = told (y.reply.status == success) refl e
  where
    told : (c : Bool) → y.reply.status == success ≡ c → (if c then Some (if bound then a else b) else None) ≡ Some x → later ≡ Some x
    told true q e = f.second bound refl o (eqb-true y.reply.status success q) ∙ e
    told false q e = absurd (cc)
alone_held false AskedTree conn a b on later y off o s h f x e = f.asked x refl o e (h.held o s x e)

open_served : (r : Bool) (t : Stage) (conn : Conn) (a b : ℕ) (on later : Option ℕ) (x : Sent) (rest : List Sent)
    (y : Received) → Channel r t conn → conn.up ≡ x ∷ rest → conn.client_open ≡ true → Seat r t conn a b on
    → Turns r t conn a b on later y
    → Seat r t (record (behind_front conn rest) { down = conn.down ++ y ∷ [] }) a b later
open_served r t conn a b on later x rest y (IsClosed off apart shut none) is o h f = absent conn.client_open _ o shut
open_served r t conn a b on later x rest y (IsReady ready apart stands) is o h f =
    record {
      held = λ _ s z e. let e0 = ready_seat r t conn.down (conn.down ++ y ∷ []) a b ready ∙ e in f.ready z ready o e0 (h.held o s z e0);
      bound = λ e. not_second t _ apart e;
    }
open_served r t conn a b on later x rest y (IsInDialog off talks stands (MessageAlone m one none token)) is o h f =
    record {
      held = λ _ s z e. alone_held r t conn a b on later y off o s h f z (ap (λ ys. seat r t ys a b) (sym (one_said conn.down y none)) ∙ e);
      bound = λ e _ n up. none_front rest n [] _ up (same_front conn.up x m rest is one).1;
    }
open_served r t conn a b on later x rest y (IsInDialog off talks stands (ReplyAlone m none one token)) is o h f =
    none_front conn.up x rest _ is none
open_served r t conn a b on later x rest y (IsInDialog off talks stands (IsLost gone none empty)) is o h f =
    none_front conn.up x rest _ is none

served_seat : (r : Bool) (t : Stage) (conn : Conn) (a b : ℕ) (on later : Option ℕ) (x : Sent) (rest : List Sent)
    (y : Received) → Channel r t conn → conn.up ≡ x ∷ rest → Seat r t conn a b on → Turns r t conn a b on later y
    → Seat r t (say_down (behind_front conn rest) y) a b later
served_seat r t conn a b on later x rest y channel is h f =
    either (λ d. Seat r t d a b later) conn.client_open (record (behind_front conn rest) { down = conn.down ++ y ∷ [] })
    (behind_front conn rest)
    (λ o. open_served r t conn a b on later x rest y channel is o h f) (λ o. shut_seat r t (behind_front conn rest) a b later o)

-- ---- Serve: the message

pub work_kind : (c : Command) → is_work c ≡ true → is_setup c ≡ false × c ≢ Logoff
unfolding is_work
work_kind c e = (grind arith, λ f. absurd (grind arith))

dialog_kind : (c : Command) → is_dialog c ≡ true → c ≢ Logoff
unfolding is_dialog
dialog_kind c e f = absurd (grind arith)

tree_kind : (c : Command) → is_tree_connect c ≡ true → is_setup c ≡ false
unfolding is_tree_connect
tree_kind c e = grind arith

new_kind : (c : Command) → is_new_setup c ≡ true → is_setup c ≡ true
unfolding is_new_setup
new_kind c e = grind arith

pub ops_token : (t : Token) → t ≢ ForDialog → is_ops t ≡ true
ops_token ForDialog n = absurd (n refl)
ops_token (ForOp g) n = refl
ops_token (ForAttach g) n = refl

setup_answer : (s : Server) (now : ℕ) (m : Message) (c : Command) → is_setup c ≡ true → answer_to s now m c ≡ step s now (Heard m)
setup_answer s now m (Setup r) e = refl
setup_answer s now m _ e = absurd (cc)

no_logoff : (w : World) (k : ℕ) (x : Sent) → Sessions w.client w.conns w.server → slice_get (w.conns k).up 0 ≡ Some x
    → x.message.command ≢ Logoff
no_logoff w k x s f0 = by (is_ops x.token) refl
  where
    by : (b : Bool) → is_ops x.token ≡ b → x.message.command ≢ Logoff
    by true t = (work_kind x.message.command (s.work_up k 0 x f0 t)).1
    by false t = dialog_kind x.message.command (s.dialog_up k 0 x f0 t).1

first_front : (w : World) (k : ℕ) (x y : Sent) (rest : List Sent) → (w.conns k).up ≡ x ∷ rest → (w.conns k).up ≡ y ∷ []
    → y.token ≡ ForDialog → x.token ≡ ForDialog
first_front w k x y rest is one t = ap (λ (z : Sent). z.token) (sym (same_front (w.conns k).up x y rest is one).0) ∙ t

-- an open channel in its dialog whose message waits has that one alone
front_dialog : (w : World) (k : ℕ) (x : Sent) (rest : List Sent) → Channels w.client w.conns → (w.conns k).up ≡ x ∷ rest
    → (w.conns k).client_open ≡ true → w.client.stage k ≢ Apart → x.token ≡ ForDialog × rest ≡ []
front_dialog w k x rest channels is o n = by (channels k)
  where
    by : Channel (w.client.ready k) (w.client.stage k) (w.conns k) → x.token ≡ ForDialog × rest ≡ []
    by (IsClosed off apart shut none) = absent (w.conns k).client_open _ o shut
    by (IsReady ready apart stands) = absurd (n apart)
    by (IsInDialog off talks stands (MessageAlone m one none token)) = (
      first_front w k x m rest is one token,
      (same_front (w.conns k).up x m rest is one).1,
    )
    by (IsInDialog off talks stands (ReplyAlone m none one token)) = none_front (w.conns k).up x rest _ is none
    by (IsInDialog off talks stands (IsLost gone none empty)) = none_front (w.conns k).up x rest _ is none

asked_stage : (t : Stage) → t ≡ AskedTree → t ≢ Apart
asked_stage t e f = absurd (grind arith)

second_stage : (t : Stage) (b : Bool) → t ≡ SaidSecond b → t ≢ Apart
second_stage t b e f = absurd (grind arith)

pub no_dialog_up : (w : World) (a : ℕ → ℕ) (k : ℕ) (x : Sent) (rest : List Sent) → Connections w.client w.conns a
    → w.client.ready k ≡ true → (w.conns k).up ≡ x ∷ rest → x.token ≢ ForDialog
no_dialog_up w a k x rest fit on is t =
    let f0 = front_up (w.conns k).up x rest is in absurd (none_of_dialog w.conns k (fit.ready k on).2 k 0 x f0 (ap is_ops t) refl)

turns : (w : World) (a : ℕ → ℕ) (k : ℕ) (x : Sent) (rest : List Sent) (place : ℕ) → (w.conns k).up ≡ x ∷ rest
    → Connections w.client w.conns a → Sessions w.client w.conns w.server → Channels w.client w.conns
    → IsPast w.client x → Here w
    → Turns (w.client.ready k) (w.client.stage k) (w.conns k) w.client.session w.client.pending (w.server.session_on k)
    ((answer w x).server.session_on k) (record { token = x.token; reply = (answer w x).reply; place = place })
unfolding Here
turns w a k x rest place is fit s channels past h =
    let f0 = front_up (w.conns k).up x rest is in let m = x.message in
    record {
      ready = λ z on o e held. held_on w.server w.moment m m.command k z
          (record {
            work = λ _.
                (work_kind m.command (s.work_up k 0 x f0 (ops_token x.token (no_dialog_up w a k x rest fit on is)))).0;
            stays = no_logoff w k x s f0;
            previous = spares w a x k fit s past z e;
          }) held;
      asked = λ z at o e held. held_on w.server w.moment m m.command k z
          (record {
            work = λ _.
                tree_kind m.command (s.tree_connect_up k 0 x f0 o
                (ap is_ops (front_dialog w k x rest channels is o (asked_stage (w.client.stage k) at)).0) at).0;
            stays = no_logoff w k x s f0;
            previous = spares w a x k fit s past z e;
          }) held;
      second = λ bound at o status. by bound at o status;
    }
  where
    enters_here : is_setup x.message.command ≡ true → (answer w x).reply.status ≡ success
        → (answer w x).server.session_on k ≡ Some x.message.session_id
    enters_here kind status =
        let f0 = front_up (w.conns k).up x rest is in let from = s.from_client k 0 x f0 in let e = setup_answer w.server
        w.moment x.message x.message.command kind in
        ap (λ (A : Answer). A.server.session_on k) e
        ∙ ap (λ i. (step w.server w.moment (Heard x.message)).server.session_on i) (sym from.1)
        ∙ enters w.server w.moment x.message kind from.2 (ap (λ (A : Answer). A.reply.status) (sym e) ∙ status)

    by : (bound : Bool) → w.client.stage k ≡ SaidSecond bound → (w.conns k).client_open ≡ true
        → (answer w x).reply.status ≡ success → (answer w x).server.session_on k
        ≡ Some (if bound then w.client.session else w.client.pending)
    by true at o status =
        let f = front_dialog w k x rest channels is o (second_stage (w.client.stage k) true at) in
        let b = (h k).bound at o x (is ∙ ap (λ ys. x ∷ ys) f.1) in enters_here b.0 status ∙ ap Some b.1
    by false at o status =
        let f0 = front_up (w.conns k).up x rest is in
        let f = front_dialog w k x rest channels is o (second_stage (w.client.stage k) false at) in
        let u = s.second_up k 0 x f0 o (ap is_ops f.0) at in enters_here (new_kind x.message.command u.0) status
        ∙ ap Some u.2

pub serves : (w : World) (a : ℕ → ℕ) (k : ℕ) (xs : List Sent) → (w.conns k).up ≡ xs → Connections w.client w.conns a
    → Sessions w.client w.conns w.server → Channels w.client w.conns → ((x : Sent) → slice_get (w.conns k).up 0 ≡ Some x
    → IsPast w.client x) → Here w
    → Here (serve_front w k xs)
unfolding Here
serves w a k [] is fit s channels past h = h
serves w a k (x ∷ rest) is fit s channels past h =
    let A = answer w x in let c = w.client in let y : Received = record { token = x.token; reply = A.reply; place = w.log.places } in
    let g = put w.conns k (behind_front (w.conns k) rest) in let f0 = front_up (w.conns k).up x rest is in let p = past x f0 in
    one_seat c g k (say_down (g k) y) A.server
    (subst (λ d. Seat (c.ready k) (c.stage k) (say_down d y) c.session c.pending (A.server.session_on k))
    (sym (put_at w.conns k (behind_front (w.conns k) rest)))
    (served_seat (c.ready k) (c.stage k) (w.conns k) c.session c.pending (w.server.session_on k) (A.server.session_on k)
    x rest y (channels k) is (h k) (turns w a k x rest w.log.places is fit s channels p h)))
    (λ q n. subst (λ d. Seat (c.ready q) (c.stage q) d c.session c.pending (A.server.session_on q))
    (sym (put_off w.conns k (behind_front (w.conns k) rest) q n))
    (on_seat (c.ready q) (c.stage q) (w.conns q) c.session c.pending (w.server.session_on q) (A.server.session_on q)
    (λ z o so e held. held_on w.server w.moment x.message x.message.command q z
    (record {
      work = λ i. absurd (n (i ∙ (s.from_client k 0 x f0).1));
      stays = no_logoff w k x s f0;
      previous = spares w a x q fit s p z e;
    }) held) (h q)))
