-- A channel is drained: what waits is served and taken until an end is closed or nothing waits, and the rounds that drain
-- has are more than that takes.
use Rattle.std.proofs.Common.{◌≡◌, ℕ, ◌≤◌, ◌<◌, Bool, true, false, ◌&&◌, List, [], ◌∷◌, length, refl, arith, sym, subst, ◌∙◌, ap, zero, suc}
use Rattle.spec_exchange.specs.Table.{is_filled}
use Rattle.spec_exchange.specs.Client.{Client, Stage}
use Rattle.spec_exchange.specs.Schedules.{Course, went, serve_all, take_all, served_all, taken_all, has_more, both_open, drain, is_talking}
use Rattle.spec_exchange.specs.Network.{World, Serve, Take, Conn, Received, happens, may_serve, may_take_reply, take_front}
use Rattle.law_server.proofs.tables.Logic.{back_of, both}
use Rattle.law_sessions.specs.sessions.Dialogs.{MessageAlone, ReplyAlone, IsLost, Channel, IsClosed, IsReady, IsInDialog}
use Rattle.law_sessions.proofs.sessions.Channels.{SameChannels}
use Rattle.law_answers.proofs.completeness.Events.{Elsewhere, untouched, so, put_at, serve_elsewhere, take_elsewhere, take_server}
use Rattle.law_answers.proofs.completeness.Equations.{by_test, serve_on, serve_off, take_on, take_off, drain_on, drain_off}
use Rattle.law_answers.proofs.completeness.Facts.{Always, ends_of}
use Rattle.law_answers.proofs.completeness.Taking.{rank, Ends, IsCountedOut, Taken, Further, IsOver, IsRefused, Heard, Stays}
use Rattle.law_answers.proofs.completeness.Taking.{Closes, serves_front, takes_dialog, takes_op, not_dialog, filled_on}

pub front_and_rest : {X : Type 0} (xs : List X) → is_filled xs ≡ true → (x : X) × (rest : List X) × xs ≡ x ∷ rest
unfolding is_filled
front_and_rest [] e = absurd (cc)
front_and_rest (x ∷ rest) e = (x, rest, refl)

pub nothing_in : {X : Type 0} (xs : List X) → is_filled xs ≡ false → xs ≡ []
unfolding is_filled
nothing_in [] e = refl
nothing_in (x ∷ rest) e = absurd (cc)

none_filled : {X : Type 0} (xs : List X) → xs ≡ [] → is_filled xs ≡ false
unfolding is_filled
none_filled xs e = ap is_filled e

no_length : {X : Type 0} (xs : List X) → length xs ≤ 0 → xs ≡ []
no_length [] l = refl
no_length (x ∷ xs) l = absurd (omega (arith, l))

shorter : {X : Type 0} (xs : List X) (x : X) (rest : List X) (n : ℕ) → xs ≡ x ∷ rest → length xs ≤ suc n → length rest ≤ n
shorter xs x rest n e l = omega (arith, l, ap length e)

-- ---- the up list

pub record ServedAll (K : World → Type 0) (c d : Course) (n k : ℕ) : Type 0 where
  pub known : K d.world
  pub client : d.world.client ≡ c.world.client
  pub server : (d.world.conns k).server_open ≡ (c.world.conns k).server_open
  pub client_end : (d.world.conns k).client_open ≡ (c.world.conns k).client_open
  pub elsewhere : Elsewhere c.world.conns d.world.conns k
  pub up : length (c.world.conns k).up ≤ n → (c.world.conns k).server_open ≡ true → (d.world.conns k).up ≡ []

other_off : (x y : Bool) → (x && y) ≡ false → x ≡ true → y ≡ false
other_off x y e o = grind arith

served_one : (K : World → Type 0) → Always K → (n : ℕ) (c : Course) (k : ℕ) (d : Course) → K c.world
    → may_serve c.world k ≡ true → ((v : Course) → v ≡ went c (Serve k) → K v.world → ServedAll K v d n k)
    → ServedAll K c d (suc n) k
unfolding went
served_one K A n c k d h may again =
    let q = front_and_rest (c.world.conns k).up (back_of (c.world.conns k).server_open _ may) in
    let f = serves_front c.world k q.0 q.1 may q.2 in let v = happens c.world (Serve k) in
    let i = again (went c (Serve k)) refl (A.step c.world (Serve k) h) in
    record {
      known = i.known;
      client = i.client ∙ f.client;
      server = i.server ∙ f.server;
      client_end = i.client_end ∙ f.client_end;
      elsewhere = so c.world.conns v.conns d.world.conns k (serve_elsewhere c.world k) i.elsewhere;
      up = λ l o. i.up (subst (λ xs. length xs ≤ n) (sym f.up) (shorter (c.world.conns k).up q.0 q.1 n q.2 l)) (f.server ∙ o);
    }

served_none : (K : World → Type 0) → (n : ℕ) (c : Course) (k : ℕ) → K c.world → may_serve c.world k ≡ false → ServedAll K c c (suc n) k
served_none K n c k h off =
    record {
      known = h;
      client = refl;
      server = refl;
      client_end = refl;
      elsewhere = untouched c.world.conns k;
      up = λ l o. nothing_in (c.world.conns k).up (other_off (c.world.conns k).server_open (is_filled (c.world.conns k).up) off o);
    }

pub serves_all : (K : World → Type 0) → Always K → (n : ℕ) (c : Course) (k : ℕ) → K c.world → ServedAll K c (serve_all n c k) n k
unfolding serve_all
serves_all K A zero c k h = record {
  known = h;
  client = refl;
  server = refl;
  client_end = refl;
  elsewhere = untouched c.world.conns k;
  up = λ l o. no_length (c.world.conns k).up l;
}
serves_all K A (suc n) c k h =
    let again = λ (v : Course) (e : v ≡ went c (Serve k)) (i : K v.world).
    subst (λ (u : Course). ServedAll K v (serve_all n u k) n k) e (serves_all K A n v k i) in
    by_test (λ d. ServedAll K c d (suc n) k) (may_serve c.world k) (serve_all (suc n) c k)
    (serve_all n (went c (Serve k)) k) c (serve_on n c k) (serve_off n c k)
    (λ may. served_one K A n c k _ h may again) (λ off. served_none K n c k h off)

-- ---- the down list

-- the channel is closed, or nothing waits there
pub data Spent (w : World) (k : ℕ) : Type 0 where
  IsShut : (w.conns k).client_open ≡ false → Spent w k
  IsEmpty : (w.conns k).up ≡ [] → (w.conns k).down ≡ [] → Spent w k

pub record TookAll (K : World → Type 0) (c d : Course) (k : ℕ) : Type 0 where
  pub known : K d.world
  pub server : (d.world.conns k).server_open ≡ (c.world.conns k).server_open
  pub elsewhere : Elsewhere c.world.conns d.world.conns k

took_one : (K : World → Type 0) → Always K → (c : Course) (k : ℕ) (d : Course)
    → ((v : Course) → v ≡ went c (Take k) → K v.world → TookAll K v d k) → K c.world → TookAll K c d k
unfolding went
took_one K A c k d again h =
    let i = again (went c (Take k)) refl (A.step c.world (Take k) h) in let v = happens c.world (Take k) in
    record {
      known = i.known;
      server = i.server ∙ take_server c.world k k;
      elsewhere = so c.world.conns v.conns d.world.conns k (take_elsewhere c.world k) i.elsewhere;
    }

pub takes_all : (K : World → Type 0) → Always K → (n : ℕ) (c : Course) (k : ℕ) → K c.world → TookAll K c (take_all n c k) k
unfolding take_all
takes_all K A zero c k h = record { known = h; server = refl; elsewhere = untouched c.world.conns k }
takes_all K A (suc n) c k h =
    let again = λ (v : Course) (e : v ≡ went c (Take k)) (i : K v.world).
    subst (λ (u : Course). TookAll K v (take_all n u k) k) e (takes_all K A n v k i) in
    by_test (λ d. TookAll K c d k) (may_take_reply c.world k) (take_all (suc n) c k) (take_all n (went c (Take k)) k) c
    (take_on n c k) (take_off n c k) (λ may. took_one K A c k _ again h) (λ off. record {
      known = h;
      server = refl;
      elsewhere = untouched c.world.conns k;
    })

-- ---- a ready channel's down list

same_ready : (w v : World) (k : ℕ) → SameChannels w.client v.client → w.client.ready k ≡ true → v.client.ready k ≡ true
same_ready w v k s on = ap (λ f. f k) s.ready ∙ on

-- where the client's end closes nothing is taken any more
shut_off : (w : World) (k : ℕ) → (w.conns k).client_open ≡ false → may_take_reply w k ≡ false
shut_off w k e = grind arith

stays_shut : (n : ℕ) (c : Course) (k : ℕ) → (c.world.conns k).client_open ≡ false → take_all n c k ≡ c
unfolding take_all
stays_shut zero c k e = refl
stays_shut (suc n) c k e = take_off n c k (shut_off c.world k e)

pub empties : (K : World → Type 0) → Always K → (n : ℕ) (c : Course) (k : ℕ) → K c.world → c.world.client.ready k ≡ true
    → (c.world.conns k).up ≡ [] → length (c.world.conns k).down ≤ n → Spent (take_all n c k).world k
unfolding take_all went
empties K A zero c k h on up l = IsEmpty up (no_length (c.world.conns k).down l)
empties K A (suc n) c k h on up l =
    let F = A.facts c.world h in let stands = (F.fit.ready k on).0 in
    let again = λ (on : (happens c.world (Take k)).client.ready k ≡ true) (up : ((happens c.world (Take k)).conns k).up
    ≡ []) (l : length ((happens c.world (Take k)).conns k).down ≤ n). empties K A n (went c (Take k)) k
    (A.step c.world (Take k) h) on up l in
    by_test (λ (d : Course). Spent d.world k) (may_take_reply c.world k) (take_all (suc n) c k)
    (take_all n (went c (Take k)) k) c (take_on n c k) (take_off n c k)
    (λ may. let q = front_and_rest (c.world.conns k).down (back_of (c.world.conns k).client_open _ may) in
    by q.0 q.1 q.2 (takes_op c.world k q.0 q.1 stands q.2 (not_dialog c.world.client c.world.conns k q.0 q.1 F.fit.ready on q.2)) l again)
    (λ off. IsEmpty up (nothing_in (c.world.conns k).down
    (other_off (c.world.conns k).client_open (is_filled (c.world.conns k).down) off stands)))
  where
    by : (y : Received) (rest : List Received) → (c.world.conns k).down ≡ y ∷ rest
        → Heard c.world (happens c.world (Take k)) k rest → length (c.world.conns k).down ≤ suc n
        → ((happens c.world (Take k)).client.ready k ≡ true → ((happens c.world (Take k)).conns k).up ≡ []
        → length ((happens c.world (Take k)).conns k).down ≤ n → Spent (take_all n (went c (Take k)) k).world k)
        → Spent (take_all n (went c (Take k)) k).world k
    by y rest is (Stays same conns) l again =
        let at = ap (λ f. f k) conns ∙ put_at c.world.conns k (take_front (c.world.conns k) rest) in
        again (same_ready c.world (happens c.world (Take k)) k same on) (ap (λ d. d.up) at ∙ up)
        (subst (λ (d : Conn). length d.down ≤ n) (sym at) (shorter (c.world.conns k).down y rest n is l))
    by y rest is (Closes shut) l again = subst (λ (d : Course). Spent d.world k)
        (sym (stays_shut n (went c (Take k)) k (shut k))) (IsShut (shut k))

-- ---- one pass over both lists

-- a pass ends the draining, or leaves the dialog with fewer messages to send
pub data Passed (w v : World) (k : ℕ) : Type 0 where
  IsDone : has_more v k ≡ false → Passed w v k
  Goes : is_talking (v.client.stage k) ≡ true → rank (v.client.stage k) < rank (w.client.stage k) → Passed w v k

pub spent_done : (w : World) (k : ℕ) → Spent w k → has_more w k ≡ false
unfolding has_more both_open is_filled
spent_done w k (IsShut e) = grind arith
spent_done w k (IsEmpty up down) = grind arith

pub gone_done : (w : World) (k : ℕ) → (w.conns k).server_open ≡ false → has_more w k ≡ false
unfolding has_more both_open
gone_done w k e = grind arith

taken_done : (w v u : World) (k : ℕ) → v.client ≡ w.client → Taken v u k → Passed w u k
taken_done w v u k same (Further x lower talks refusals stands up down) =
    Goes talks (subst (λ (c : Client). rank (u.client.stage k) < rank (c.stage k)) same lower)
taken_done w v u k same (IsOver ready refusals stands up down) = IsDone (spent_done u k (IsEmpty up down))
taken_done w v u k same (IsRefused shut refusals live) = IsDone (spent_done u k (IsShut shut))
taken_done w v u k same (IsCountedOut shut at out) = IsDone (spent_done u k (IsShut shut))

-- the dialog's reply, behind the serving
one_reply : (c : Course) (k : ℕ) (y : Received) → (c.world.conns k).client_open ≡ true → (c.world.conns k).down ≡ y ∷ []
    → taken_all c k ≡ went c (Take k)
unfolding taken_all take_all
one_reply c k y stands down = ap (λ n. take_all n c k) (ap length down)
    ∙ take_on 0 c k (both (c.world.conns k).client_open _ stands (filled_on (c.world.conns k).down y [] down))

reply_alone : (c : Course) (d : Course) (k : ℕ) → d.world.client ≡ c.world.client → (d.world.conns k).client_open ≡ true
    → (d.world.conns k).up ≡ [] → (d.world.conns k).server_open ≡ true → d.world.client.ready k ≡ false
    → Ends d.world.client k → Channel (d.world.client.ready k) (d.world.client.stage k) (d.world.conns k)
    → Passed c.world (taken_all d k).world k
unfolding went
reply_alone c d k same stands up server off ends (IsClosed o apart shut none) = absurd (grind arith)
reply_alone c d k same stands up server off ends (IsReady on apart o) = absurd (grind arith)
reply_alone c d k same stands up server off ends (IsInDialog o talks s (MessageAlone x one none token)) = absurd (grind arith)
reply_alone c d k same stands up server off ends (IsInDialog o talks s (ReplyAlone y none one token)) =
    subst (λ (e : Course). Passed c.world e.world k) (sym (one_reply d k y stands one))
    (taken_done c.world d.world (happens d.world (Take k)) k same (takes_dialog d.world k y stands up one token
    ends))
reply_alone c d k same stands up server off ends (IsInDialog o talks s (IsLost gone none empty)) = absurd (grind arith)

pub record Pass (K : World → Type 0) (c d : Course) (k : ℕ) : Type 0 where
  pub known : K d.world
  pub server : (d.world.conns k).server_open ≡ (c.world.conns k).server_open
  pub elsewhere : Elsewhere c.world.conns d.world.conns k
  pub passed : Passed c.world d.world k

abbrev pub one_pass : Course → ℕ → Course
one_pass c k = taken_all (served_all c k) k

still_shut : (K : World → Type 0) → Always K → (n : ℕ) (c : Course) (k : ℕ) → (c.world.conns k).client_open ≡ false
    → ((take_all n c k).world.conns k).client_open ≡ false
still_shut K A n c k e = ap (λ (d : Course). (d.world.conns k).client_open) (stays_shut n c k e) ∙ e

passes : (K : World → Type 0) → Always K → (c : Course) (k : ℕ) → K c.world
    → (s : ServedAll K c (served_all c k) (length (c.world.conns k).up) k) → (c.world.conns k).server_open ≡ true
    → Channel (c.world.client.ready k) (c.world.client.stage k) (c.world.conns k) → Passed c.world (one_pass c k).world k
unfolding taken_all
passes K A c k h s server (IsClosed off apart shut none) =
    let d = served_all c k in
    IsDone (spent_done (one_pass c k).world k
    (IsShut (still_shut K A (length (d.world.conns k).down) d k (s.client_end ∙ shut))))
passes K A c k h s server (IsReady on apart stands) =
    let d = served_all c k in
    IsDone (spent_done (one_pass c k).world k (empties K A (length (d.world.conns k).down) d k s.known
    (ap (λ (e : Client). e.ready k) s.client ∙ on) (s.up (omega arith) server) (omega arith)))
passes K A c k h s server (IsInDialog off talks stands waits) =
    let d = served_all c k in
    reply_alone c d k s.client (s.client_end ∙ stands) (s.up (omega arith) server) (s.server ∙ server)
    (ap (λ (e : Client). e.ready k) s.client ∙ off) (ends_of d.world k (A.facts d.world s.known))
    ((A.facts d.world s.known).channels k)

pub pass_over : (K : World → Type 0) → Always K → (c : Course) (k : ℕ) → K c.world → Pass K c (one_pass c k) k
unfolding taken_all served_all
pass_over K A c k h =
    let d = served_all c k in let s = serves_all K A (length (c.world.conns k).up) c k h in
    let t = takes_all K A (length (d.world.conns k).down) d k s.known in
    record {
      known = t.known;
      server = t.server ∙ s.server;
      elsewhere = so c.world.conns d.world.conns (one_pass c k).world.conns k s.elsewhere t.elsewhere;
      passed = elim ((c.world.conns k).server_open) as (λ b. (c.world.conns k).server_open ≡ b → Passed c.world (one_pass c k).world k) [
        | true ↦ λ e. passes K A c k h s e ((A.facts c.world h).channels k)
        | false ↦ λ e. IsDone (gone_done (one_pass c k).world k (t.server ∙ s.server ∙ e))
      ] refl;
    }

-- ---- the whole

pub record Drained (K : World → Type 0) (c d : Course) (k : ℕ) : Type 0 where
  pub known : K d.world
  pub server : (d.world.conns k).server_open ≡ (c.world.conns k).server_open
  pub elsewhere : Elsewhere c.world.conns d.world.conns k
  pub done : has_more d.world k ≡ false

drained_by : (K : World → Type 0) (c d e : Course) (k : ℕ) → Pass K c d k → Drained K d e k → Drained K c e k
drained_by K c d e k p r = record {
  known = r.known;
  server = r.server ∙ p.server;
  elsewhere = so c.world.conns d.world.conns e.world.conns k p.elsewhere r.elsewhere;
  done = r.done;
}

-- as many rounds as the dialog has messages to send, and one
pub drains : (K : World → Type 0) → Always K → (n : ℕ) (c : Course) (k : ℕ) → K c.world → rank (c.world.client.stage k)
    < n → Drained K c (drain n c k) k
drains K A zero c k h l = absurd (omega (arith, l))
drains K A (suc n) c k h l =
    let d = one_pass c k in let p = pass_over K A c k h in
    let again = λ (lower : rank (d.world.client.stage k) < rank (c.world.client.stage k)). drains K A n d k p.known
    (omega (arith, l, lower)) in
    by_test (λ e. Drained K c e k) (has_more d.world k) (drain (suc n) c k) (drain n d k) d (drain_on n c k) (drain_off n c k)
    (λ more. by p p.passed more again) (λ done. record { known = p.known; server = p.server; elsewhere = p.elsewhere; done = done })
  where
    by : Pass K c (one_pass c k) k → Passed c.world (one_pass c k).world k → has_more (one_pass c k).world k ≡ true
        → (rank ((one_pass c k).world.client.stage k) < rank (c.world.client.stage k) → Drained K (one_pass c k)
        (drain n (one_pass c k) k) k) → Drained K c (drain n (one_pass c k) k) k
    by p (IsDone done) more again = absurd (cc)
    by p (Goes talks lower) more again = drained_by K c (one_pass c k) (drain n (one_pass c k) k) k p (again lower)

-- the five rounds of the longest dialog
pub five_rounds : (s : Stage) → rank s < 64
five_rounds s = grind arith

pub drains_all : (K : World → Type 0) → Always K → (c : Course) (k : ℕ) → K c.world → Drained K c (drain 64 c k) k
drains_all K A c k h = drains K A 64 c k h (five_rounds (c.world.client.stage k))
