-- Two worlds of values that differ in what waits, and in the client's dialogs, refusals and places, go on alike at each event that uses no list.
use Rattle.std.proofs.Common.{◌≡◌, ℕ, ◌+◌, ◌==◌, nat_lt, Bool, true, false, not, ◌&&◌, if◌then◌else◌, List, ◌++◌, refl, sym, ap, ◌∙◌, subst}
use Rattle.std.proofs.Common.{Option, is_some}
use Rattle.law_nonces.proofs.negotiation.Tables.{by_key_2}
use Rattle.spec_exchange.specs.Table.{put}
use Rattle.spec_exchange.specs.Status.{success}
use Rattle.spec_exchange.specs.State.{Server, Message, Accept, End, Answer, no_later}
use Rattle.spec_exchange.specs.Step.{step}
use Rattle.spec_exchange.specs.Fold.{recovered_from, recovery_records}
use Rattle.spec_exchange.specs.Order.{Log}
use Rattle.spec_exchange.specs.Operations.{Op, weight, charge, is_firm}
use Rattle.spec_exchange.specs.Client.{Client, Apart, SaidNegotiate, own_message, ask_message, leave_dialog}
use Rattle.spec_exchange.specs.ClientStep.{Pick, Act, Nothing, Sends, Asks, CloseChannel, CloseChannels, AllSettled, TakesOp, Pushes, IsCut}
use Rattle.spec_exchange.specs.ClientStep.{client_after, act}
use Rattle.spec_exchange.specs.Dialogs.{open_channel}
use Rattle.spec_exchange.specs.Network.{World, Event, Conn, Token, ForOp, ForAttach, Submit, Open, Push, Cut, Drop, Restart, Serve, Take, Crash, Wait}
use Rattle.spec_exchange.specs.Network.{Finish, happens, changed, later, is_possible, moments, with_client, with_answer, opened, dropped}
use Rattle.spec_exchange.specs.Network.{first_push, pushed_by, transmitted, send_up, cut_off, cut_by, restarted, fresh}
use Rattle.spec_exchange.specs.Network.{client_off, server_off, max_channel}
use Rattle.spec_hostile.specs.RepeatRuns.{uses_no_list}
use Rattle.law_hostile.proofs.loosely.Masks.{Mask, masked, Alike, takes_alike, pushes_alike, pushes_act_same, cut_alike, cut_act_same}

-- ---- what two such worlds have alike

pub record SameConn (c d : Conn) : Type 0 where
  pub client : d.client_open ≡ c.client_open
  pub server : d.server_open ≡ c.server_open
  pub next : d.next_id ≡ c.next_id

abbrev pub SameConns : (ℕ → Conn) → (ℕ → Conn) → Type 0
SameConns p q = (j : ℕ) → SameConn (p j) (q j)

pub record Follows (w v : World) : Type 0 where
  pub client : Alike w.client v.client
  pub server : v.server ≡ w.server
  pub records : v.records ≡ w.records
  pub moment : v.moment ≡ w.moment
  pub conns : SameConns w.conns v.conns
  pub places : v.log.places ≡ w.log.places
  pub reached : v.trace.reached ≡ w.trace.reached
  pub altered : v.trace.altered ≡ w.trace.altered
  pub session : v.trace.session ≡ w.trace.session
  pub sequence : v.trace.sequence ≡ w.trace.sequence

-- ---- connections

pub put_alike : (p q : ℕ → Conn) (k : ℕ) (c d : Conn) → SameConn c d → SameConns p q → SameConns (put p k c) (put q k d)
put_alike p q k c d s all = by_key_2 (λ j (x : Conn) (y : Conn). SameConn x y) p q k c d s (λ j off. all j)

pub off_alike : (c d : Conn) → SameConn c d → SameConn (client_off c) (client_off d)
off_alike c d s = record { client = refl; server = s.server; next = s.next }

gone_alike : (c d : Conn) → SameConn c d → SameConn (server_off c) (server_off d)
gone_alike c d s = record { client = s.client; server = refl; next = s.next }

sent_alike : (c d : Conn) (t u : Token) (m k : Message) (n : ℕ) → SameConn c d → SameConn (send_up c t m n) (send_up d u k n)
sent_alike c d t u m k n s = record { client = s.client; server = s.server; next = ap (λ i. i + n) s.next }

-- ---- parts of a world

pub with_clients : (w v : World) (c d : Client) → Alike c d → Follows w v → Follows (with_client w c) (with_client v d)
with_clients w v c d a f =
    record {
      client = a;
      server = f.server;
      records = f.records;
      moment = f.moment;
      conns = f.conns;
      places = f.places;
      reached = f.reached;
      altered = f.altered;
      session = f.session;
      sequence = f.sequence;
    }

pub with_conns : (w v : World) (p q : ℕ → Conn) → SameConns p q → Follows w v → Follows (record w { conns = p }) (record v { conns = q })
with_conns w v p q s f =
    record {
      client = f.client;
      server = f.server;
      records = f.records;
      moment = f.moment;
      conns = s;
      places = f.places;
      reached = f.reached;
      altered = f.altered;
      session = f.session;
      sequence = f.sequence;
    }

pub later_follows : (w v : World) (n : ℕ) → Follows w v → Follows (later w n) (later v n)
later_follows w v n f =
    record {
      client = f.client;
      server = f.server;
      records = f.records;
      moment = ap (λ m. no_later (m + n)) f.moment;
      conns = f.conns;
      places = f.places;
      reached = f.reached;
      altered = f.altered;
      session = f.session;
      sequence = f.sequence;
    }

if_follows : (b d : Bool) (w v x y : World) → d ≡ b → Follows w v → Follows x y → Follows (if b then w else x) (if d then v else y)
if_follows true d w v x y e f g = subst (λ q. Follows w (if q then v else y)) (sym e) f
if_follows false d w v x y e f g = subst (λ q. Follows x (if q then v else y)) (sym e) g

-- a test that both clients answer alike
pub same_test : (P : Client → Type 0) (c d : Client) → Alike c d → ((m : Mask) → P (masked c m)) → P d
same_test P c d a f = subst P (sym a.is) (f a.mask)

-- ---- Submit and Push

submit_follows : (w v : World) (g : ℕ) (op : Op) → Follows w v → Follows (changed w (Submit g op)) (changed v (Submit g op))
submit_follows w v g op f =
    with_clients w v (client_after w.client (TakesOp g op)) (client_after v.client (TakesOp g op))
    (same_test (λ d. Alike (client_after w.client (TakesOp g op)) (client_after d (TakesOp g op))) w.client v.client f.client
    (λ m. takes_alike w.client m g op)) f

-- the lists behind a request that goes up don't matter, nor what is remembered of it
sent_follows : (w v : World) (k n : ℕ) (c d : Client) (t u : Token) (x y : Message) → Alike c d → Follows w v
    → Follows (record w { client = c; conns = put w.conns k (send_up (w.conns k) t x n) })
    (record v { client = d; conns = put v.conns k (send_up (v.conns k) u y n) })
sent_follows w v k n c d t u x y a f =
    with_clients (record w { conns = put w.conns k (send_up (w.conns k) t x n) }) (record v { conns = put v.conns k (send_up (v.conns k) u y n) })
    c d a
    (with_conns w v _ _ (put_alike w.conns v.conns k _ _ (sent_alike (w.conns k) (v.conns k) t u x y n (f.conns k)) f.conns) f)

with_logs : (w v : World) (l k : Log) → k.places ≡ l.places → Follows w v → Follows (record w { log = l }) (record v { log = k })
with_logs w v l k e f =
    record {
      client = f.client;
      server = f.server;
      records = f.records;
      moment = f.moment;
      conns = f.conns;
      places = e;
      reached = f.reached;
      altered = f.altered;
      session = f.session;
      sequence = f.sequence;
    }

first_places : (w : World) (g : ℕ) (b : Bool)
    → (if b then w.log else record w.log {
      since = put w.log.since g w.log.places;
      prior = put w.log.prior g (λ a. is_firm (w.client.outcome a));
    }).places ≡ w.log.places
first_places w g true = refl
first_places w g false = refl

pushed_follows : (w v : World) (k : ℕ) (c d : Client) (a : Act) → Alike c d → Follows w v → Follows (pushed_by w k c a) (pushed_by v k d a)
pushed_follows w v k c d (Sends g) a f =
    let n = charge (weight (c.op g)) in
    let same : charge (weight (d.op g)) ≡ n = ap (λ (x : Client). charge (weight (x.op g))) a.is in
    subst (λ i. Follows (transmitted w k g c) (record v {
      client = d;
      conns = put v.conns k (send_up (v.conns k) (ForOp g) (own_message d k (v.conns k).next_id g) i);
      log = first_push v g;
    })) (sym same)
    (with_logs (record w { client = c; conns = put w.conns k (send_up (w.conns k) (ForOp g) (own_message c k (w.conns k).next_id g) n) })
    (record v { client = d; conns = put v.conns k (send_up (v.conns k) (ForOp g) (own_message d k (v.conns k).next_id g) n) })
    (first_push w g) (first_push v g)
    (first_places v g (v.client.sent g) ∙ (f.places ∙ sym (first_places w g (w.client.sent g))))
    (sent_follows w v k n c d (ForOp g) (ForOp g) (own_message c k (w.conns k).next_id g) (own_message d k (v.conns k).next_id g) a f))
pushed_follows w v k c d (Asks g) a f =
    sent_follows w v k 1 c d (ForAttach g) (ForAttach g) (ask_message c k (w.conns k).next_id g) (ask_message d k (v.conns k).next_id g) a f
pushed_follows w v k c d Nothing a f = with_clients w v c d a f
pushed_follows w v k c d CloseChannel a f = with_clients w v c d a f
pushed_follows w v k c d CloseChannels a f = with_clients w v c d a f
pushed_follows w v k c d AllSettled a f = with_clients w v c d a f

push_follows : (w v : World) (k : ℕ) (slotless : List ℕ) (pick : Option Pick) → Follows w v
    → Follows (changed w (Push k slotless pick)) (changed v (Push k slotless pick))
push_follows w v k slotless pick f =
    let p = Pushes k slotless pick in
    let c = w.client in
    let a = same_test (λ d. Alike (client_after c p) (client_after d p)) c v.client f.client (λ m. pushes_alike c m k slotless pick) in
    let e : act v.client p ≡ act c p = same_test (λ d. act d p ≡ act c p) c v.client f.client (λ m. pushes_act_same c m k slotless pick) in
    subst (λ x. Follows (pushed_by w k (client_after c p) (act c p)) (pushed_by v k (client_after v.client p) x)) (sym e)
    (pushed_follows w v k (client_after c p) (client_after v.client p) (act c p) a f)

-- ---- Cut

cut_by_follows : (w v : World) (k : ℕ) (a : Act) → Follows w v → Follows (cut_by w k a) (cut_by v k a)
cut_by_follows w v k CloseChannels f =
    with_conns w v _ _ (λ j. off_alike (w.conns j) (v.conns j) (f.conns j)) f
cut_by_follows w v k CloseChannel f =
    with_conns w v _ _ (put_alike w.conns v.conns k _ _ (off_alike (w.conns k) (v.conns k) (f.conns k)) f.conns) f
cut_by_follows w v k Nothing f = with_conns w v _ _ (put_alike w.conns v.conns k _ _ (off_alike (w.conns k) (v.conns k) (f.conns k)) f.conns) f
cut_by_follows w v k (Sends g) f = with_conns w v _ _ (put_alike w.conns v.conns k _ _ (off_alike (w.conns k) (v.conns k) (f.conns k)) f.conns) f
cut_by_follows w v k (Asks g) f = with_conns w v _ _ (put_alike w.conns v.conns k _ _ (off_alike (w.conns k) (v.conns k) (f.conns k)) f.conns) f
cut_by_follows w v k AllSettled f = with_conns w v _ _ (put_alike w.conns v.conns k _ _ (off_alike (w.conns k) (v.conns k) (f.conns k)) f.conns) f

left_alike : (c : Client) (m : Mask) (k : ℕ) → Alike (leave_dialog c k) (leave_dialog (masked c m) k)
left_alike c m k = record { mask = record m { stage = put m.stage k Apart }; is = refl }

ready_same : (c d : Client) → Alike c d → d.ready ≡ c.ready
ready_same c d a = ap (λ (x : Client). x.ready) a.is

pub cut_follows : (w v : World) (k : ℕ) → Follows w v → Follows (cut_off w k) (cut_off v k)
cut_follows w v k f =
    let c = w.client in
    let a = same_test (λ d. Alike (client_after c (IsCut k)) (client_after d (IsCut k))) c v.client f.client (λ m. cut_alike c m k) in
    let e : act v.client (IsCut k) ≡ act c (IsCut k) =
    same_test (λ d. act d (IsCut k) ≡ act c (IsCut k)) c v.client f.client (λ m. cut_act_same c m k) in
    let l = same_test (λ d. Alike (leave_dialog c k) (leave_dialog d k)) c v.client f.client (λ m. left_alike c m k) in
    if_follows (w.client.ready k) (v.client.ready k) _ _ _ _ (ap (λ g. g k) (ready_same c v.client f.client))
    (subst (λ x. Follows (with_client (cut_by w k (act c (IsCut k))) (client_after c (IsCut k)))
    (with_client (cut_by v k x) (client_after v.client (IsCut k)))) (sym e)
    (with_clients (cut_by w k (act c (IsCut k))) (cut_by v k (act c (IsCut k))) (client_after c (IsCut k)) (client_after v.client (IsCut k)) a
    (cut_by_follows w v k (act c (IsCut k)) f)))
    (with_conns (with_client w (leave_dialog c k)) (with_client v (leave_dialog v.client k)) _ _
    (put_alike w.conns v.conns k _ _ (off_alike (w.conns k) (v.conns k) (f.conns k)) f.conns)
    (with_clients w v (leave_dialog c k) (leave_dialog v.client k) l f))

-- ---- Open, Drop and Restart

answered_follows : (w v : World) (A B : Answer) → B ≡ A → Follows w v → Follows (with_answer w A) (with_answer v B)
answered_follows w v A B e f =
    subst (λ (C : Answer). Follows (with_answer w A) (with_answer v C)) (sym e) (record {
      client = f.client;
      server = refl;
      records = ap (λ rs. rs ++ A.records) f.records;
      moment = f.moment;
      conns = f.conns;
      places = f.places;
      reached = f.reached;
      altered = f.altered;
      session = f.session;
      sequence = f.sequence;
    })

opened_alike : (c : Client) (m : Mask) (k : ℕ) → Alike (open_channel c k) (open_channel (masked c m) k)
opened_alike c m k = record { mask = record m { stage = put m.stage k (SaidNegotiate c.live) }; is = refl }

fresh_alike : (c d : Client) (k : ℕ) (b e : Bool) → e ≡ b → SameConn (fresh c k b) (fresh d k e)
fresh_alike c d k b e s = record { client = refl; server = s; next = refl }

open_follows : (w v : World) (k : ℕ) → Follows w v → Follows (opened w k) (opened v k)
open_follows w v k f =
    let A = step w.server w.moment (Accept k) in
    let B = step v.server v.moment (Accept k) in
    let e : B ≡ A = ap (λ (s : Server). step s v.moment (Accept k)) f.server ∙ ap (λ m. step w.server m (Accept k)) f.moment in
    let o = same_test (λ d. Alike (open_channel w.client k) (open_channel d k)) w.client v.client f.client (λ m. opened_alike w.client m k) in
    with_conns (with_client (with_answer w A) (open_channel w.client k)) (with_client (with_answer v B) (open_channel v.client k)) _ _
    (put_alike w.conns v.conns k _ _ (fresh_alike w.client v.client k (A.reply.status == success) (B.reply.status == success)
    (ap (λ (C : Answer). C.reply.status == success) e)) f.conns)
    (with_clients (with_answer w A) (with_answer v B) (open_channel w.client k) (open_channel v.client k) o (answered_follows w v A B e f))

pub drop_follows : (w v : World) (k : ℕ) → Follows w v → Follows (dropped w k) (dropped v k)
drop_follows w v k f =
    let A = step w.server w.moment (End k) in
    let B = step v.server v.moment (End k) in
    let e : B ≡ A = ap (λ (s : Server). step s v.moment (End k)) f.server ∙ ap (λ m. step w.server m (End k)) f.moment in
    with_conns (with_answer w A) (with_answer v B) _ _
    (put_alike w.conns v.conns k _ _ (gone_alike (w.conns k) (v.conns k) (f.conns k)) f.conns) (answered_follows w v A B e f)

restart_follows : (w v : World) → Follows w v → Follows (restarted w) (restarted v)
restart_follows w v f =
    record {
      client = f.client;
      server = ap (λ (s : Server). recovered_from s v.records) f.server ∙ ap (λ rs. recovered_from w.server rs) f.records;
      records = ap (λ rs. rs ++ recovery_records rs) f.records;
      moment = f.moment;
      conns = λ j. gone_alike (w.conns j) (v.conns j) (f.conns j);
      places = f.places;
      reached = f.reached;
      altered = f.altered;
      session = f.session;
      sequence = f.sequence;
    }

-- ---- which events they meet

making_same : (c d : Client) → Alike c d → d.making ≡ c.making
making_same c d a = ap (λ (x : Client). x.making) a.is

same_possible : (w v : World) (e : Event) → uses_no_list e ≡ true → Follows w v → is_possible v e ≡ is_possible w e
same_possible w v (Submit g op) s f = refl
same_possible w v (Open k) s f =
    let q = f.conns k in
    ap (λ b. nat_lt k max_channel && (not b && (not (v.conns k).server_open && not (is_some v.client.making)))) q.client
    ∙ (ap (λ b. nat_lt k max_channel && (not (w.conns k).client_open && (not b && not (is_some v.client.making)))) q.server
    ∙ ap (λ o. nat_lt k max_channel && (not (w.conns k).client_open && (not (w.conns k).server_open && not (is_some o))))
    (making_same w.client v.client f.client))
same_possible w v (Push k slotless pick) s f = ap (λ g. g k) (ready_same w.client v.client f.client)
same_possible w v (Serve k) s f = absurd (let h : false ≡ true = s in cc)
same_possible w v (Take k) s f = absurd (let h : false ≡ true = s in cc)
same_possible w v (Cut k) s f = let q = f.conns k in q.client
same_possible w v (Drop k) s f = let q = f.conns k in q.server
same_possible w v Restart s f = refl
same_possible w v (Crash k kept) s f = absurd (let h : false ≡ true = s in cc)
same_possible w v (Wait n) s f = absurd (let h : false ≡ true = s in cc)
same_possible w v (Finish refusal) s f = absurd (let h : false ≡ true = s in cc)

changed_follows : (w v : World) (e : Event) → uses_no_list e ≡ true → Follows w v → Follows (changed w e) (changed v e)
changed_follows w v (Submit g op) s f = submit_follows w v g op f
changed_follows w v (Open k) s f = open_follows w v k f
changed_follows w v (Push k slotless pick) s f = push_follows w v k slotless pick f
changed_follows w v (Serve k) s f = absurd (let h : false ≡ true = s in cc)
changed_follows w v (Take k) s f = absurd (let h : false ≡ true = s in cc)
changed_follows w v (Cut k) s f = cut_follows w v k f
changed_follows w v (Drop k) s f = drop_follows w v k f
changed_follows w v Restart s f = restart_follows w v f
changed_follows w v (Crash k kept) s f = absurd (let h : false ≡ true = s in cc)
changed_follows w v (Wait n) s f = absurd (let h : false ≡ true = s in cc)
changed_follows w v (Finish refusal) s f = absurd (let h : false ≡ true = s in cc)

pub happens_alike : (w v : World) (e : Event) → uses_no_list e ≡ true → Follows w v → Follows (happens w e) (happens v e)
happens_alike w v e s f =
    if_follows (is_possible w e) (is_possible v e) _ _ w v (same_possible w v e s f)
    (later_follows (changed w e) (changed v e) (moments e) (changed_follows w v e s f)) f
