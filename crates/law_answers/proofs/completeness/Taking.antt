-- What Serve and Take do to a channel in its dialog, and to a ready one.
use Rattle.std.proofs.Common.{◌≡◌, ◌≢◌, ℕ, ◌+◌, ◌≤◌, ◌<◌, ◌==◌, Bool, true, false, List, [], ◌∷◌, ◌++◌, length, refl}
use Rattle.std.proofs.Common.{arith, sym, subst, ◌∙◌, ap}
use Rattle.spec_exchange.specs.Table.{put, is_filled}
use Rattle.spec_exchange.specs.Status.{success, more_processing_required}
use Rattle.spec_exchange.specs.State.{Reply}
use Rattle.spec_exchange.specs.Client.{Client, Stage, Apart, SaidNegotiate, SaidFirst, SaidSecond, AskedTree}
use Rattle.std.proofs.Common.{nat_lt, if◌then◌else◌, ◌&&◌}
use Rattle.std.proofs.lemmas.Bool.Decides.{nat_tests}
use Rattle.spec_exchange.specs.Client.{bind_channel, begin_session, leave_dialog}
use Rattle.spec_exchange.specs.ClientStep.{CloseChannel, IsReady, becomes_ready, last_number}
use Rattle.spec_exchange.specs.Network.{dialog_ended}
use Rattle.spec_exchange.specs.Settling.{Heard as Hearing, Settles, GoesAgain, Attaches, EndsSession, heard, hear, is_awaited}
use Rattle.spec_exchange.specs.Dialogs.{GoesOn, Accepts, Binds, Readies, Refuses, dialog_step, dialog_message, went_on, accepted}
use Rattle.spec_exchange.specs.ClientStep.{Nothing, act_heard}
use Rattle.spec_exchange.specs.Schedules.{is_talking}
use Rattle.spec_exchange.specs.Network.{World, Serve, Take, Conn, Sent, Received, Token, ForDialog, ForOp, ForAttach}
use Rattle.spec_exchange.specs.Network.{op_of, happens, later, may_serve, may_take_reply, send_up, say_down}
use Rattle.spec_exchange.specs.Network.{behind_front, take_front, answer, take_reply, took_by, dialog_took, op_took}
use Rattle.spec_exchange.specs.Network.{closed_by, with_client, behind_reply}
use Rattle.law_sessions.specs.messages.Connections.{Ready, copies, count_down}
use Rattle.law_sessions.proofs.messages.Lists.{counted_down, front_down}
use Rattle.law_sessions.proofs.messages.Run.{both_ways}
use Rattle.law_server.proofs.tables.Logic.{either, both}
use Rattle.law_sessions.proofs.sessions.Channels.{SameChannels, itself, same_settle}
use Rattle.law_answers.proofs.completeness.Events.{put_at, took_is, serves}

-- how many messages a dialog has yet to send
abbrev pub rank : Stage → ℕ
rank Apart = 0
rank AskedTree = 1
rank (SaidSecond bound) = 2
rank (SaidFirst bound) = 3
rank (SaidNegotiate bound) = 4

-- ---- a dialog's reply is taken

-- the dialog goes on, its next message sent; or it is over; or it is refused
pub data Taken (w v : World) (k : ℕ) : Type 0 where
  Further : (x : Sent) → rank (v.client.stage k) < rank (w.client.stage k) → is_talking (v.client.stage k) ≡ true
      → v.client.refusals ≡ w.client.refusals → (v.conns k).client_open ≡ true → (v.conns k).up ≡ x ∷ []
      → (v.conns k).down ≡ [] → Taken w v k
  IsOver : v.client.ready k ≡ true → v.client.refusals ≡ w.client.refusals → (v.conns k).client_open ≡ true
      → (v.conns k).up ≡ [] → (v.conns k).down ≡ [] → Taken w v k
  IsRefused : (v.conns k).client_open ≡ false → length v.client.refusals ≡ length w.client.refusals + 1 → v.client.live
      ≡ w.client.live → Taken w v k
  IsCountedOut : (v.conns k).client_open ≡ false → w.client.stage k ≡ AskedTree
      → (w.client.session < w.client.pending → last_number ≤ v.client.session_number) → Taken w v k

length_push : {X : Type 0} (xs : List X) (x : X) → length (xs ++ x ∷ []) ≡ length xs + 1
length_push [] x = refl
length_push (y ∷ xs) x = omega (arith, length_push xs x)

-- the connection behind the reply
pub record Bare (w : World) (k : ℕ) : Type 0 where
  pub stands : (w.conns k).client_open ≡ true
  pub up : (w.conns k).up ≡ []
  pub down : (w.conns k).down ≡ []

refused_now : (w : World) (k : ℕ) (r : Reply) (status : ℕ) → Taken w (dialog_took w k r (Refuses status)) k
refused_now w k r status = IsRefused (ap (λ d. d.client_open) (put_at w.conns k _)) (length_push w.client.refusals _) refl

sent_alone : (w : World) (k : ℕ) (d : Conn) (m : Sent) → (w.conns k).up ≡ [] → d ≡ send_up (w.conns k) m.token m.message 1 → d.up ≡ m ∷ []
sent_alone w k d m up e = ap (λ c. c.up) e ∙ ap (λ xs. xs ++ m ∷ []) up

goes_on : (w : World) (k : ℕ) (r : Reply) (s : Stage) → Bare w k → is_talking s ≡ true
    → rank s < rank (w.client.stage k) → Taken w (dialog_took w k r (GoesOn s)) k
goes_on w k r s b talks lower =
    let c = went_on w.client k s r in let m = dialog_message c k (w.conns k).next_id s in let at = put_at w.conns k
    (send_up (w.conns k) ForDialog m 1) in let st = put_at w.client.stage k s in
    Further (record { token = ForDialog; message = m }) (subst (λ t. rank t < rank (w.client.stage k)) (sym st) lower)
    (subst (λ t. is_talking t ≡ true) (sym st) talks) refl
    (ap (λ d. d.client_open) at ∙ b.stands) (sent_alone w k _ (record { token = ForDialog; message = m }) b.up at)
    (ap (λ d. d.down) at ∙ b.down)

accepts : (w : World) (k : ℕ) (r : Reply) → Bare w k → rank AskedTree < rank (w.client.stage k) → Taken w (dialog_took w k r Accepts) k
unfolding is_talking
accepts w k r b lower =
    let c = accepted w.client k in let m = dialog_message c k (w.conns k).next_id AskedTree in let at = put_at w.conns k
    (send_up (w.conns k) ForDialog m 1) in let st = put_at w.client.stage k AskedTree in
    Further (record { token = ForDialog; message = m }) (subst (λ t. rank t < rank (w.client.stage k)) (sym st) lower)
    (subst (λ t. is_talking t ≡ true) (sym st) refl) refl
    (ap (λ d. d.client_open) at ∙ b.stands) (sent_alone w k _ (record { token = ForDialog; message = m }) b.up at)
    (ap (λ d. d.down) at ∙ b.down)

lower_by : (s t u : Stage) → u ≡ t → rank s < rank t → rank s < rank u
lower_by s t u e l = subst (λ x. rank s < rank x) (sym e) l

-- what is known of the dialog whose end comes
pub record Ends (c : Client) (k : ℕ) : Type 0 where
  pub bound : c.stage k ≡ SaidSecond true → c.live ≡ true
  pub dead : c.stage k ≡ AskedTree → c.live ≡ false

binds_live : (live : Bool) (old number : ℕ) → live ≡ true → (if live then old == old else nat_lt old old
    && nat_lt number last_number) ≡ true
binds_live live old number l = grind arith

begins_dead : (live : Bool) (old number session : ℕ) → live ≡ false → old < session
    → (if live then session == old else nat_lt old session && nat_lt number last_number) ≡ false → last_number ≤ number
begins_dead live old number session l n b = grind (arith, nat_tests)

not_both : (b : Bool) (P : Type 0) → b ≡ true → b ≡ false → P
not_both b P e f = absurd (cc)

is_bound_on : (w : World) (k session tree : ℕ) → Bare w k → Taken w (with_client w (bind_channel w.client k)) k
is_bound_on w k session tree b = IsOver (put_at w.client.ready k true) refl b.stands b.up b.down

is_begun_on : (w : World) (k session tree : ℕ) → Bare w k → Taken w (with_client w (begin_session w.client k session tree)) k
is_begun_on w k session tree b = IsOver (put_at w.client.ready k true) refl b.stands b.up b.down

ends_well : (w : World) (k session tree : ℕ) → Bare w k → (becomes_ready w.client session ≡ false → w.client.stage k
    ≡ AskedTree × (w.client.session < w.client.pending → last_number ≤ w.client.session_number))
    → Taken w (dialog_ended w k (IsReady k session tree)) k
ends_well w k session tree b out =
    both_ways (λ c x. Taken w (with_client (closed_by w k x) c) k) (becomes_ready w.client session)
    (if w.client.live then bind_channel w.client k else begin_session w.client k session tree)
    (leave_dialog w.client k) Nothing CloseChannel
    (λ _. either (λ c. Taken w (with_client w c) k) w.client.live (bind_channel w.client k)
    (begin_session w.client k session tree) (λ _. is_bound_on w k session tree b)
    (λ _. is_begun_on w k session tree b))
    (λ off. IsCountedOut (ap (λ d. d.client_open) (put_at w.conns k _)) (out off).0 (out off).1)

took_dialog : (w : World) (k : ℕ) (r : Reply) → Bare w k → Ends w.client k → (t : Stage) → w.client.stage k ≡ t
    → Taken w (dialog_took w k r (dialog_step t r.status)) k
unfolding is_talking
took_dialog w k r b q Apart at = refused_now w k r r.status
took_dialog w k r b q (SaidNegotiate bound) at =
    either (λ d. Taken w (dialog_took w k r d) k) (r.status == success) (GoesOn (SaidFirst bound)) (Refuses r.status)
    (λ _. goes_on w k r (SaidFirst bound) b refl (lower_by (SaidFirst bound) (SaidNegotiate bound) (w.client.stage k) at
    (omega arith))) (λ _. refused_now w k r r.status)
took_dialog w k r b q (SaidFirst bound) at =
    either (λ d. Taken w (dialog_took w k r d) k) (r.status == more_processing_required) (GoesOn (SaidSecond bound)) (Refuses r.status)
    (λ _. goes_on w k r (SaidSecond bound) b refl (lower_by (SaidSecond bound) (SaidFirst bound) (w.client.stage k) at
    (omega arith))) (λ _. refused_now w k r r.status)
took_dialog w k r b q (SaidSecond true) at =
    either (λ d. Taken w (dialog_took w k r d) k) (r.status == success) Binds (Refuses r.status)
    (λ _. ends_well w k w.client.session w.client.tree b (not_both (becomes_ready w.client w.client.session) _
    (binds_live w.client.live w.client.session w.client.session_number (q.bound at))))
    (λ _. refused_now w k r r.status)
took_dialog w k r b q (SaidSecond false) at =
    either (λ d. Taken w (dialog_took w k r d) k) (r.status == success) Accepts (Refuses r.status)
    (λ _. accepts w k r b (lower_by AskedTree (SaidSecond false) (w.client.stage k) at (omega arith))) (λ _. refused_now w k r r.status)
took_dialog w k r b q AskedTree at =
    either (λ d. Taken w (dialog_took w k r d) k) (r.status == success) Readies (Refuses r.status)
    (λ _. ends_well w k w.client.pending r.tree_id b
    (λ off. (
      at,
      λ newer. begins_dead w.client.live w.client.session w.client.session_number w.client.pending
          (q.dead at) newer off,
    ))) (λ _. refused_now w k r r.status)

pub filled_on : {X : Type 0} (xs : List X) (x : X) (rest : List X) → xs ≡ x ∷ rest → is_filled xs ≡ true
unfolding is_filled
filled_on xs x rest e = ap is_filled e

-- the reply of a dialog, alone in its list
pub takes_dialog : (w : World) (k : ℕ) (y : Received) → (w.conns k).client_open ≡ true → (w.conns k).up ≡ []
    → (w.conns k).down ≡ y ∷ [] → y.token ≡ ForDialog → Ends w.client k → Taken w (happens w (Take k)) k
takes_dialog w k y stands up down token ends =
    let b = behind_reply w k [] in let may : may_take_reply w k ≡ true = both (w.conns k).client_open _ stands
    (filled_on (w.conns k).down y [] down) in
    let e = took_is w k y [] may down ∙ ap (λ t. later (took_by b k y.reply y.place t) 1) token in
    let at = put_at w.conns k (take_front (w.conns k) []) in
    subst (λ v. Taken w v k) (sym e) (of_behind (dialog_took b k y.reply (dialog_step (w.client.stage k) y.reply.status))
    (took_dialog b k y.reply (record {
      stands = ap (λ d. d.client_open) at ∙ stands;
      up = ap (λ d. d.up) at ∙ up;
      down = ap (λ d. d.down) at;
    }) ends (w.client.stage k) refl))
  where
    of_behind : (v : World) → Taken (behind_reply w k []) v k → Taken w (later v 1) k
    of_behind v (Further x a b c d e f) = Further x a b c d e f
    of_behind v (IsOver a b c d e) = IsOver a b c d e
    of_behind v (IsRefused a b c) = IsRefused a b c
    of_behind v (IsCountedOut a b c) = IsCountedOut a b c

-- ---- an operation's reply is taken on a ready channel

-- the client holds all channels still, or closed every one
pub data Heard (w v : World) (k : ℕ) (rest : List Received) : Type 0 where
  Stays : SameChannels w.client v.client → v.conns ≡ put w.conns k (take_front (w.conns k) rest) → Heard w v k rest
  Closes : ((q : ℕ) → (v.conns q).client_open ≡ false) → Heard w v k rest

hears : (w b : World) (k g : ℕ) (asking : Bool) (r : Reply) (place : ℕ) (rest : List Received) → b
    ≡ behind_reply w k rest → Heard w (op_took b k g asking r place) k rest
hears w b k g asking r place rest e =
    subst (λ b. Heard w (op_took b k g asking r place) k rest) (sym e)
    (both_ways (λ c x. Heard w (with_client (closed_by (behind_reply w k rest) k x) c) k rest)
    (is_awaited w.client k g asking) (hear w.client g asking r place (heard w.client g asking r)) w.client
    (act_heard (heard w.client g asking r)) Nothing
    (λ _. by (heard w.client g asking r)) (λ _. Stays (itself w.client) refl))
  where
    by : (h : Hearing) → Heard w (with_client (closed_by (behind_reply w k rest) k (act_heard h)) (hear w.client g asking r place h)) k rest
    by (Settles o) = Stays (same_settle w.client g asking r place o) refl
    by GoesAgain = Stays (record { ready = refl; stage = refl; making = refl; channels = refl; live = refl }) refl
    by Attaches = Stays (record { ready = refl; stage = refl; making = refl; channels = refl; live = refl }) refl
    by EndsSession = Closes (λ q. refl)

none_there : (c : Conn) → copies 0 c ≡ 0 → 1 ≤ count_down 0 c.down → (P : Type 0) → P
none_there c e l P = absurd (omega (arith, e, l))

pub not_dialog : (c : Client) (conns : ℕ → Conn) (k : ℕ) (y : Received) (rest : List Received) → Ready c conns
    → c.ready k ≡ true → (conns k).down ≡ y ∷ rest → y.token ≢ ForDialog
not_dialog c conns k y rest r on is = λ t. none_there (conns k) (r k on).2
    (counted_down 0 (conns k).down 0 y (front_down (conns k).down y rest is) (ap op_of t)) _

pub takes_op : (w : World) (k : ℕ) (y : Received) (rest : List Received) → (w.conns k).client_open ≡ true
    → (w.conns k).down ≡ y ∷ rest → y.token ≢ ForDialog → Heard w (happens w (Take k)) k rest
takes_op w k y rest stands down not_dialog =
    let may : may_take_reply w k ≡ true = both (w.conns k).client_open _ stands (filled_on (w.conns k).down y rest down) in
    subst (λ v. Heard w v k rest) (sym (took_is w k y rest may down)) (later_heard (take_reply w k (y ∷ rest)) (by y.token refl))
  where
    later_heard : (v : World) → Heard w v k rest → Heard w (later v 1) k rest
    later_heard v (Stays a b) = Stays a b
    later_heard v (Closes a) = Closes a

    by : (t : Token) → y.token ≡ t → Heard w (took_by (behind_reply w k rest) k y.reply y.place t) k rest
    by ForDialog e = absurd (not_dialog e)
    by (ForOp g) e = hears w (behind_reply w k rest) k g false y.reply y.place rest refl
    by (ForAttach g) e = hears w (behind_reply w k rest) k g true y.reply y.place rest refl

-- ---- the server's end stays as it is

say_keeps : (c : Conn) (y : Received) → (say_down c y).server_open ≡ c.server_open × (say_down c y).client_open
    ≡ c.client_open × (say_down c y).up ≡ c.up
say_keeps c y =
    either (λ d. d.server_open ≡ c.server_open × d.client_open ≡ c.client_open × d.up ≡ c.up) c.client_open (record c {
      down = c.down ++ y ∷ [];
    }) c (λ _. (refl, refl, refl)) (λ _. (refl, refl, refl))

-- what a served front leaves of its connection
pub record Front (w v : World) (k : ℕ) (rest : List Sent) : Type 0 where
  pub client : v.client ≡ w.client
  pub server : (v.conns k).server_open ≡ (w.conns k).server_open
  pub client_end : (v.conns k).client_open ≡ (w.conns k).client_open
  pub up : (v.conns k).up ≡ rest

pub serves_front : (w : World) (k : ℕ) (x : Sent) (rest : List Sent) → may_serve w k ≡ true → (w.conns k).up ≡ x ∷ rest
    → Front w (happens w (Serve k)) k rest
serves_front w k x rest may is =
    let s = serves w k x rest may is in let y : Received = record {
      token = x.token;
      reply = (answer w x).reply;
      place = w.log.places;
    } in let q = say_keeps (behind_front (w.conns k) rest) y in
    record {
      client = s.client;
      server = ap (λ d. d.server_open) s.here ∙ q.0;
      client_end = ap (λ d. d.client_open) s.here ∙ q.1;
      up = ap (λ d. d.up) s.here ∙ q.2;
    }
