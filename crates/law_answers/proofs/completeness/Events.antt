-- What one event does to the connection that it names, and to the others.
use Rattle.std.proofs.Common.{◌≡◌, ◌≢◌, ℕ, Bool, true, false, not, if◌then◌else◌, List, [], ◌∷◌, refl, arith, sym, ◌∙◌, ap, Option}
use Rattle.spec_exchange.specs.Table.{put}
use Rattle.spec_exchange.specs.State.{Reply}
use Rattle.spec_exchange.specs.Operations.{Refusal}
use Rattle.spec_exchange.specs.Client.{Client}
use Rattle.spec_exchange.specs.Dialogs.{DialogStep, GoesOn, Accepts, Binds, Readies, Refuses, dialog_step}
use Rattle.spec_exchange.specs.ClientStep.{Pick, Act, Nothing, CloseChannel, CloseChannels, Sends, Asks, AllSettled}
use Rattle.spec_exchange.specs.Network.{take_front, World, Open, Push, Serve, Take, Cut, Drop, Finish, Conn, Sent}
use Rattle.spec_exchange.specs.Network.{Received, Token, ForDialog, ForOp, ForAttach, happens, changed, later, may_open}
use Rattle.spec_exchange.specs.Network.{may_serve, may_take_reply, client_off, say_down, behind_front, pushed_by}
use Rattle.spec_exchange.specs.Network.{answer, serve_front, take_reply, took_by, dialog_took, closed_by, cut_by}
use Rattle.spec_exchange.specs.Network.{behind_reply}
use Rattle.law_server.proofs.tables.Logic.{either}

pub if_on : {X : Type 0} (b : Bool) (x y : X) → b ≡ true → (if b then x else y) ≡ x
if_on true x y e = refl
if_on false x y e = absurd (cc)

pub if_off : {X : Type 0} (b : Bool) (x y : X) → b ≡ false → (if b then x else y) ≡ y
if_off true x y e = absurd (cc)
if_off false x y e = refl

pub put_off : {X : Type 0} (f : ℕ → X) (k : ℕ) (v : X) (q : ℕ) → q ≢ k → put f k v q ≡ f q
put_off f k v q n = grind arith

pub put_at : {X : Type 0} (f : ℕ → X) (k : ℕ) (v : X) → put f k v k ≡ v
put_at f k v = grind arith

-- ---- the other connections: at most the client's ends close

pub record Elsewhere (f g : ℕ → Conn) (k : ℕ) : Type 0 where
  pub server : (q : ℕ) → q ≢ k → (g q).server_open ≡ (f q).server_open
  pub same : (q : ℕ) → q ≢ k → (g q).client_open ≡ true → g q ≡ f q

pub untouched : (f : ℕ → Conn) (k : ℕ) → Elsewhere f f k
untouched f k = record { server = λ q n. refl; same = λ q n o. refl }

pub so : (f g h : ℕ → Conn) (k : ℕ) → Elsewhere f g k → Elsewhere g h k → Elsewhere f h k
so f g h k a b =
    record {
      server = λ q n. b.server q n ∙ a.server q n;
      same = λ q n o. let e = b.same q n o in e ∙ a.same q n (ap (λ c. c.client_open) (sym e) ∙ o);
    }

pub put_elsewhere : (f : ℕ → Conn) (k : ℕ) (d : Conn) → Elsewhere f (put f k d) k
put_elsewhere f k d = record { server = λ q n. ap (λ c. c.server_open) (put_off f k d q n); same = λ q n o. put_off f k d q n }

cut_elsewhere : (f : ℕ → Conn) (k : ℕ) → Elsewhere f (λ q. client_off (f q)) k
cut_elsewhere f k = record { server = λ q n. refl; same = λ q n o. absurd (cc) }

-- ---- Serve and Take, where they can be met

pub served_is : (w : World) (k : ℕ) (x : Sent) (rest : List Sent) → may_serve w k ≡ true → (w.conns k).up ≡ x ∷ rest
    → happens w (Serve k) ≡ later (serve_front w k (x ∷ rest)) 1
served_is w k x rest may is = if_on (may_serve w k) (later (serve_front w k (w.conns k).up) 1) w may
    ∙ ap (λ xs. later (serve_front w k xs) 1) is

pub took_is : (w : World) (k : ℕ) (y : Received) (rest : List Received) → may_take_reply w k ≡ true → (w.conns k).down
    ≡ y ∷ rest → happens w (Take k) ≡ later (take_reply w k (y ∷ rest)) 1
took_is w k y rest may is = if_on (may_take_reply w k) (later (take_reply w k (w.conns k).down) 1) w may
    ∙ ap (λ ys. later (take_reply w k ys) 1) is

-- the front is taken and its reply is on its way
pub record Served (w v : World) (k : ℕ) (x : Sent) (rest : List Sent) : Type 0 where
  pub client : v.client ≡ w.client
  pub here : v.conns k ≡ say_down (behind_front (w.conns k) rest) (record {
    token = x.token;
    reply = (answer w x).reply;
    place = w.log.places;
  })

pub serves : (w : World) (k : ℕ) (x : Sent) (rest : List Sent) → may_serve w k ≡ true → (w.conns k).up ≡ x ∷ rest
    → Served w (happens w (Serve k)) k x rest
serves w k x rest may is =
    let e = served_is w k x rest may is in let y : Received = record {
      token = x.token;
      reply = (answer w x).reply;
      place = w.log.places;
    } in let g = put w.conns k (behind_front (w.conns k) rest) in
    record {
      client = ap (λ v. v.client) e;
      here = ap (λ v. v.conns k) e ∙ put_at g k (say_down (g k) y) ∙ ap (λ d. say_down d y)
          (put_at w.conns k (behind_front (w.conns k) rest));
    }

-- ---- what each event leaves of the other connections

serve_list : (w : World) (k : ℕ) (xs : List Sent) → Elsewhere w.conns (serve_front w k xs).conns k
serve_list w k [] = untouched w.conns k
serve_list w k (x ∷ rest) = let g = put w.conns k (behind_front (w.conns k) rest) in so w.conns g (put g k _) k
    (put_elsewhere w.conns k _) (put_elsewhere g k _)

act_elsewhere : (w : World) (k : ℕ) (x : Act) → Elsewhere w.conns (closed_by w k x).conns k
act_elsewhere w k Nothing = untouched w.conns k
act_elsewhere w k (Sends g) = untouched w.conns k
act_elsewhere w k (Asks g) = untouched w.conns k
act_elsewhere w k CloseChannel = put_elsewhere w.conns k _
act_elsewhere w k CloseChannels = cut_elsewhere w.conns k
act_elsewhere w k AllSettled = untouched w.conns k

dialog_elsewhere : (w : World) (k : ℕ) (r : Reply) (d : DialogStep) → Elsewhere w.conns (dialog_took w k r d).conns k
dialog_elsewhere w k r (GoesOn s) = put_elsewhere w.conns k _
dialog_elsewhere w k r Accepts = put_elsewhere w.conns k _
dialog_elsewhere w k r Binds = act_elsewhere w k _
dialog_elsewhere w k r Readies = act_elsewhere w k _
dialog_elsewhere w k r (Refuses status) = act_elsewhere w k CloseChannel

take_list : (w : World) (k : ℕ) (ys : List Received) → Elsewhere w.conns (take_reply w k ys).conns k
take_list w k [] = untouched w.conns k
take_list w k (y ∷ rest) = so w.conns (behind_reply w k rest).conns _ k (put_elsewhere w.conns k _) (by y.token)
  where
    by : (t : Token) → Elsewhere (behind_reply w k rest).conns (took_by (behind_reply w k rest) k y.reply y.place t).conns k
    by ForDialog = dialog_elsewhere (behind_reply w k rest) k y.reply (dialog_step (w.client.stage k) y.reply.status)
    by (ForOp g) = act_elsewhere (behind_reply w k rest) k _
    by (ForAttach g) = act_elsewhere (behind_reply w k rest) k _

cut_act_elsewhere : (w : World) (k : ℕ) (x : Act) → Elsewhere w.conns (cut_by w k x).conns k
cut_act_elsewhere w k Nothing = put_elsewhere w.conns k _
cut_act_elsewhere w k (Sends g) = put_elsewhere w.conns k _
cut_act_elsewhere w k (Asks g) = put_elsewhere w.conns k _
cut_act_elsewhere w k CloseChannel = put_elsewhere w.conns k _
cut_act_elsewhere w k CloseChannels = cut_elsewhere w.conns k
cut_act_elsewhere w k AllSettled = put_elsewhere w.conns k _

push_elsewhere : (w : World) (k : ℕ) (c : Client) (x : Act) → Elsewhere w.conns (pushed_by w k c x).conns k
push_elsewhere w k c Nothing = untouched w.conns k
push_elsewhere w k c (Sends g) = put_elsewhere w.conns k _
push_elsewhere w k c (Asks g) = put_elsewhere w.conns k _
push_elsewhere w k c CloseChannel = untouched w.conns k
push_elsewhere w k c CloseChannels = untouched w.conns k
push_elsewhere w k c AllSettled = untouched w.conns k

possible : (w : World) (k n : ℕ) (b : Bool) (v : World) → Elsewhere w.conns v.conns k
    → Elsewhere w.conns (if b then later v n else w).conns k
possible w k n true v e = e
possible w k n false v e = untouched w.conns k

pub serve_elsewhere : (w : World) (k : ℕ) → Elsewhere w.conns (happens w (Serve k)).conns k
serve_elsewhere w k = possible w k 1 (may_serve w k) (changed w (Serve k)) (serve_list w k (w.conns k).up)

pub take_elsewhere : (w : World) (k : ℕ) → Elsewhere w.conns (happens w (Take k)).conns k
take_elsewhere w k = possible w k 1 (may_take_reply w k) (changed w (Take k)) (take_list w k (w.conns k).down)

pub open_elsewhere : (w : World) (k : ℕ) → Elsewhere w.conns (happens w (Open k)).conns k
open_elsewhere w k = possible w k 1 (may_open w k) (changed w (Open k)) (put_elsewhere w.conns k _)

pub pushed_elsewhere : (w : World) (k : ℕ) (slotless : List ℕ) (pick : Option Pick)
    → Elsewhere w.conns (happens w (Push k slotless pick)).conns k
pushed_elsewhere w k slotless pick = possible w k 1 (w.client.ready k) (changed w (Push k slotless pick)) (push_elsewhere w k _ _)

cut_changed : (w : World) (k : ℕ) → Elsewhere w.conns (changed w (Cut k)).conns k
cut_changed w k = either (λ (v : World). Elsewhere w.conns v.conns k) (w.client.ready k) _ _
    (λ _. cut_act_elsewhere w k _) (λ _. put_elsewhere w.conns k _)

pub cut_away : (w : World) (k : ℕ) → Elsewhere w.conns (happens w (Cut k)).conns k
cut_away w k = possible w k 1 (w.conns k).client_open (changed w (Cut k)) (cut_changed w k)

pub drop_elsewhere : (w : World) (k : ℕ) → Elsewhere w.conns (happens w (Drop k)).conns k
drop_elsewhere w k = possible w k 1 (w.conns k).server_open (changed w (Drop k)) (put_elsewhere w.conns k _)

pub finish_elsewhere : (w : World) (k : ℕ) (r : Refusal) → Elsewhere w.conns (happens w (Finish r)).conns k
finish_elsewhere w k r = possible w k 1 (not w.client.live) (changed w (Finish r)) (untouched w.conns k)

-- ---- taking leaves the server's ends as they are

put_server : (f : ℕ → Conn) (k : ℕ) (d : Conn) (q : ℕ) → d.server_open ≡ (f k).server_open → (put f k d q).server_open ≡ (f q).server_open
put_server f k d q e = grind arith

act_server : (w : World) (k q : ℕ) (x : Act) → ((closed_by w k x).conns q).server_open ≡ (w.conns q).server_open
act_server w k q Nothing = refl
act_server w k q (Sends g) = refl
act_server w k q (Asks g) = refl
act_server w k q CloseChannel = put_server w.conns k _ q refl
act_server w k q CloseChannels = refl
act_server w k q AllSettled = refl

dialog_server : (w : World) (k : ℕ) (r : Reply) (q : ℕ) (d : DialogStep) → ((dialog_took w k r d).conns q).server_open
    ≡ (w.conns q).server_open
dialog_server w k r q (GoesOn s) = put_server w.conns k _ q refl
dialog_server w k r q Accepts = put_server w.conns k _ q refl
dialog_server w k r q Binds = act_server w k q _
dialog_server w k r q Readies = act_server w k q _
dialog_server w k r q (Refuses status) = act_server w k q CloseChannel

list_server : (w : World) (k q : ℕ) (ys : List Received) → ((take_reply w k ys).conns q).server_open ≡ (w.conns q).server_open
list_server w k q [] = refl
list_server w k q (y ∷ rest) = by y.token ∙ put_server w.conns k (take_front (w.conns k) rest) q refl
  where
    by : (t : Token) → ((took_by (behind_reply w k rest) k y.reply y.place t).conns q).server_open
        ≡ ((behind_reply w k rest).conns q).server_open
    by ForDialog = dialog_server (behind_reply w k rest) k y.reply q (dialog_step (w.client.stage k) y.reply.status)
    by (ForOp g) = act_server (behind_reply w k rest) k q _
    by (ForAttach g) = act_server (behind_reply w k rest) k q _

pub take_server : (w : World) (k q : ℕ) → ((happens w (Take k)).conns q).server_open ≡ (w.conns q).server_open
take_server w k q = either (λ (v : World). (v.conns q).server_open ≡ (w.conns q).server_open) (may_take_reply w k)
    (later (changed w (Take k)) 1) w (λ _. list_server w k q (w.conns k).down) (λ _. refl)
