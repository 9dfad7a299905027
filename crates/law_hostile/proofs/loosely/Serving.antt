-- What a message that the server takes does to a world of values, whoever sent it; and to the values of a world over bytes that is given it.
use Rattle.std.proofs.Common.{◌≡◌, ℕ, ◌+◌, Bool, true, false, ◌&&◌, if◌then◌else◌, List, [], ◌∷◌, ◌++◌, refl, sym, ap, ◌∙◌, subst}
use Rattle.law_server.proofs.tables.Logic.{either}
use Rattle.law_nonces.proofs.negotiation.Tables.{by_key}
use Rattle.spec_exchange.specs.Table.{put, is_filled}
use Rattle.spec_exchange.specs.State.{Message, Answer, no_later}
use Rattle.spec_exchange.specs.Network.{World, Conn, Sent, Received, Serve, answer, absorbed, replied, say_down, behind_front, may_serve}
use Rattle.spec_exchange.specs.Network.{happens, later, serve_front}
use Rattle.spec_exchange.specs.Client.{Client}
use Rattle.law_hostile.specs.loosely.LooseRuns.{heard_apart}
use Rattle.law_hostile.proofs.loosely.Masks.{masked}
use Rattle.law_hostile.proofs.loosely.Following.{SameConn, SameConns, Follows}

-- the message took a place, and its answer stands
pub record Took (w v : World) (m : Message) (A : Answer) : Type 0 where
  pub client : v.client ≡ w.client
  pub server : v.server ≡ A.server
  pub records : v.records ≡ w.records ++ A.records
  pub moment : v.moment ≡ no_later (w.moment + 1)
  pub conns : SameConns w.conns v.conns
  pub places : v.log.places ≡ w.log.places + 1
  pub reached : v.trace.reached ≡ put w.trace.reached w.log.places A.reached
  pub altered : v.trace.altered ≡ put w.trace.altered w.log.places A.altered
  pub session : v.trace.session ≡ put w.trace.session w.log.places m.session_id
  pub sequence : v.trace.sequence ≡ put w.trace.sequence w.log.places m.channel_sequence

pub self_conns : (p : ℕ → Conn) → SameConns p p
self_conns p j = record { client = refl; server = refl; next = refl }

pub then_conns : (p q r : ℕ → Conn) → SameConns p q → SameConns q r → SameConns p r
then_conns p q r a b j =
    let x = a j in
    let y = b j in
    record { client = y.client ∙ x.client; server = y.server ∙ x.server; next = y.next ∙ x.next }

pub one_conn : (p : ℕ → Conn) (k : ℕ) (c : Conn) → SameConn (p k) c → SameConns p (put p k c)
one_conn p k c s = by_key (λ j (d : Conn). SameConn (p j) d) p k c s (λ j off. record { client = refl; server = refl; next = refl })

pub back_conns : (p q : ℕ → Conn) → SameConns p q → SameConns q p
back_conns p q a j = let x = a j in record { client = sym x.client; server = sym x.server; next = sym x.next }

same_put : {X : Type 0} (f g : ℕ → X) (n m : ℕ) (x : X) → g ≡ f → m ≡ n → put g m x ≡ put f n x
same_put f g n m x e q = ap (λ h. put h m x) e ∙ ap (λ i. put f i x) q

-- of two worlds alike, behind the same message
pub took_alike : (w v a b : World) (m : Message) (A : Answer) → Follows w v → Took w a m A → Took v b m A → Follows a b
took_alike w v a b m A f s t =
    record {
      client = (let q = f.client in record {
        mask = q.mask;
        is = t.client ∙ (q.is ∙ ap (λ (c : Client). masked c q.mask) (sym s.client));
      });
      server = t.server ∙ sym s.server;
      records = t.records ∙ (ap (λ rs. rs ++ A.records) f.records ∙ sym s.records);
      moment = t.moment ∙ (ap (λ n. no_later (n + 1)) f.moment ∙ sym s.moment);
      conns = then_conns a.conns w.conns b.conns (back_conns w.conns a.conns s.conns) (then_conns w.conns v.conns b.conns f.conns t.conns);
      places = t.places ∙ (ap (λ n. n + 1) f.places ∙ sym s.places);
      reached = t.reached ∙ (same_put w.trace.reached v.trace.reached w.log.places v.log.places A.reached f.reached f.places ∙ sym s.reached);
      altered = t.altered ∙ (same_put w.trace.altered v.trace.altered w.log.places v.log.places A.altered f.altered f.places ∙ sym s.altered);
      session = t.session ∙ (same_put w.trace.session v.trace.session w.log.places v.log.places m.session_id f.session f.places ∙ sym s.session);
      sequence =
          t.sequence
          ∙ (same_put w.trace.sequence v.trace.sequence w.log.places v.log.places m.channel_sequence f.sequence f.places ∙ sym s.sequence);
    }

-- ---- from nowhere

pub apart_took : (w : World) (x : Sent) (A : Answer) → Took w (heard_apart w x A) x.message A
apart_took w x A =
    record {
      client = refl;
      server = refl;
      records = refl;
      moment = refl;
      conns = self_conns w.conns;
      places = refl;
      reached = refl;
      altered = refl;
      session = refl;
      sequence = refl;
    }

-- ---- a front

pub say_same : (c : Conn) (y : Received) → SameConn c (say_down c y)
say_same c y =
    either (λ (d : Conn). SameConn c d) c.client_open (record c { down = c.down ++ y ∷ [] }) c
    (λ _. record { client = refl; server = refl; next = refl }) (λ _. record { client = refl; server = refl; next = refl })

front_took : (w : World) (k : ℕ) (x : Sent) (rest : List Sent) (y : Received) (A : Answer)
    → Took w (later (replied (absorbed w k x rest A) k y) 1) x.message A
front_took w k x rest y A =
    let p = put w.conns k (behind_front (w.conns k) rest) in
    record {
      client = refl;
      server = refl;
      records = refl;
      moment = refl;
      conns = then_conns w.conns p (put p k (say_down (p k) y)) (one_conn w.conns k (behind_front (w.conns k) rest) (record {
        client = refl;
        server = refl;
        next = refl;
      })) (one_conn p k (say_down (p k) y) (say_same (p k) y));
      places = refl;
      reached = refl;
      altered = refl;
      session = refl;
      sequence = refl;
    }

if_true : {X : Type 0} (b : Bool) (x y : X) → b ≡ true → (if b then x else y) ≡ x
if_true true x y e = refl
if_true false x y e = absurd (let h : false ≡ true = e in cc)

pub serve_is : (w : World) (k : ℕ) (x : Sent) (rest : List Sent) → (w.conns k).server_open ≡ true → (w.conns k).up ≡ x ∷ rest
    → happens w (Serve k) ≡ later (serve_front w k (x ∷ rest)) 1
unfolding is_filled
serve_is w k x rest on is =
    let may : may_serve w k ≡ true = ap (λ b. b && is_filled (w.conns k).up) on ∙ ap is_filled is in
    if_true (may_serve w k) (later (serve_front w k (w.conns k).up) 1) w may ∙ ap (λ l. later (serve_front w k l) 1) is

pub serve_took : (w : World) (k : ℕ) (x : Sent) (rest : List Sent) → (w.conns k).server_open ≡ true → (w.conns k).up ≡ x ∷ rest
    → Took w (happens w (Serve k)) x.message (answer w x)
serve_took w k x rest on is =
    subst (λ v. Took w v x.message (answer w x)) (sym (serve_is w k x rest on is))
    (front_took w k x rest (record { token = x.token; reply = (answer w x).reply; place = w.log.places }) (answer w x))
