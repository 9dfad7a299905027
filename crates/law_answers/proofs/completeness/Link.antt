-- A channel is linked: the dialog is served and taken until it is ready or an end is closed, and the rounds that linking has
-- are more than that takes.
use Rattle.std.proofs.Common.{◌≡◌, ℕ, ◌+◌, ◌≤◌, ◌<◌, Bool, true, false, List, [], ◌∷◌, length, refl, arith, sym, subst, ◌∙◌, ap, zero, suc}
use Rattle.spec_exchange.specs.Table.{is_filled}
use Rattle.spec_exchange.specs.Client.{Client, Stage}
use Rattle.spec_exchange.specs.ClientStep.{last_number}
use Rattle.spec_exchange.specs.Schedules.{Course, went, both_open, is_linking, linking, is_talking}
use Rattle.spec_exchange.specs.Network.{World, Serve, Take, Conn, Sent, happens, changed, later, may_serve}
use Rattle.law_server.proofs.tables.Logic.{both}
use Rattle.law_sessions.specs.sessions.Dialogs.{Awaits, MessageAlone, ReplyAlone, IsLost, Channel, IsClosed, IsReady, IsInDialog}
use Rattle.law_answers.proofs.completeness.Equations.{by_test, linking_on, linking_off}
use Rattle.law_answers.proofs.completeness.Events.{Elsewhere, untouched, so, serve_elsewhere, take_elsewhere, take_server, if_off}
use Rattle.law_answers.proofs.completeness.Facts.{Always, AllRise, ends_of}
use Rattle.law_answers.proofs.completeness.Taking.{rank, Ends, IsCountedOut, Taken, Further, IsOver, IsRefused, serves_front}
use Rattle.law_answers.proofs.completeness.Taking.{takes_dialog, filled_on}

-- how a dialog ended: the channel is ready and nothing waits there, or it was refused and the client's end closed, or the
-- client has no number for the session
pub data LinkEnd (K : World → Type 0) (w v : World) (k : ℕ) : Type 0 where
  NowReady : v.client.ready k ≡ true → v.client.refusals ≡ w.client.refusals → (v.conns k).client_open ≡ true
      → (v.conns k).up ≡ [] → (v.conns k).down ≡ [] → LinkEnd K w v k
  NowRefused : (v.conns k).client_open ≡ false → length v.client.refusals ≡ length w.client.refusals + 1
      → v.client.ready k ≡ false → LinkEnd K w v k
  OutOfNumbers : (v.conns k).client_open ≡ false → (AllRise K → last_number ≤ v.client.session_number) → LinkEnd K w v k

-- ---- one message and its reply

pub record Step (K : World → Type 0) (w v : World) (k : ℕ) : Type 0 where
  pub known : K v
  pub server : (v.conns k).server_open ≡ (w.conns k).server_open
  pub elsewhere : Elsewhere w.conns v.conns k

both_steps : (K : World → Type 0) → Always K → (w : World) (k : ℕ) → K w → (((happens w (Serve k)).conns k).server_open
    ≡ (w.conns k).server_open) → Step K w (happens (happens w (Serve k)) (Take k)) k
both_steps K A w k h s =
    let v = happens w (Serve k) in
    record {
      known = A.step v (Take k) (A.step w (Serve k) h);
      server = take_server v k k ∙ s;
      elsewhere = so w.conns v.conns (happens v (Take k)).conns k (serve_elsewhere w k) (take_elsewhere v k);
    }

unserved : (w : World) (k : ℕ) → may_serve w k ≡ false → happens w (Serve k) ≡ w
unserved w k e = if_off (may_serve w k) (later (changed w (Serve k)) 1) w e

nothing_up : (w : World) (k : ℕ) → (w.conns k).up ≡ [] → may_serve w k ≡ false
unfolding is_filled
nothing_up w k e = grind arith

pub server_keeps : (w : World) (k : ℕ) → (x : Sent) (rest : List Sent) → (w.conns k).up ≡ x ∷ rest
    → (w.conns k).server_open ≡ true → may_serve w k ≡ true
server_keeps w k x rest is o = both (w.conns k).server_open _ o (filled_on (w.conns k).up x rest is)

same_taken : (w v u : World) (k : ℕ) → v.client ≡ w.client → Taken v u k → Taken w u k
same_taken w v u k e (Further x lower talks refusals stands up down) =
    Further x (subst (λ (c : Client). rank (u.client.stage k) < rank (c.stage k)) e lower) talks
    (refusals ∙ ap (λ (c : Client). c.refusals) e) stands up down
same_taken w v u k e (IsOver ready refusals stands up down) = IsOver ready (refusals ∙ ap (λ (c : Client). c.refusals) e) stands up down
same_taken w v u k e (IsRefused shut refusals live) =
    IsRefused shut (refusals ∙ ap (λ (c : Client). length c.refusals + 1) e) (live ∙ ap (λ (c : Client). c.live) e)
same_taken w v u k e (IsCountedOut shut at out) = IsCountedOut shut (ap (λ (c : Client). c.stage k) (sym e) ∙ at)
    (λ l. out (subst (λ (c : Client). c.session < c.pending) (sym e) l))

reply_there : (w v : World) (k : ℕ) → v.client ≡ w.client → (v.conns k).client_open ≡ true → (v.conns k).up ≡ []
    → (v.conns k).server_open ≡ true → v.client.ready k ≡ false → Ends v.client k → Channel (v.client.ready k)
    (v.client.stage k) (v.conns k)
    → Taken w (happens v (Take k)) k
reply_there w v k same stands up server off ends (IsClosed o apart shut none) = absurd (grind arith)
reply_there w v k same stands up server off ends (IsReady on apart o) = absurd (grind arith)
reply_there w v k same stands up server off ends (IsInDialog o talks s (MessageAlone x one none token)) = absurd (grind arith)
reply_there w v k same stands up server off ends (IsInDialog o talks s (ReplyAlone y none one token)) =
    same_taken w v (happens v (Take k)) k same (takes_dialog v k y stands up one token ends)
reply_there w v k same stands up server off ends (IsInDialog o talks s (IsLost gone none empty)) = absurd (grind arith)

pub record OneStep (K : World → Type 0) (w v : World) (k : ℕ) : Type 0 where
  pub step : Step K w v k
  pub taken : Taken w v k

-- a dialog whose two ends are open comes one message further
pub one_step : (K : World → Type 0) → Always K → (w : World) (k : ℕ) → K w → (w.conns k).server_open ≡ true
    → (w.conns k).client_open ≡ true → w.client.ready k ≡ false → Awaits (w.conns k)
    → OneStep K w (happens (happens w (Serve k)) (Take k)) k
one_step K A w k h server stands off (MessageAlone x one none token) =
    let f = serves_front w k x [] (server_keeps w k x [] one server) one in let v = happens w (Serve k) in
    record {
      step = both_steps K A w k h f.server;
      taken = reply_there w v k f.client (f.client_end ∙ stands) f.up (f.server ∙ server)
          (ap (λ (c : Client). c.ready k) f.client ∙ off) (ends_of v k (A.facts v (A.step w (Serve k) h)))
          ((A.facts v (A.step w (Serve k) h)).channels k);
    }
one_step K A w k h server stands off (ReplyAlone y none one token) =
    let e = unserved w k (nothing_up w k none) in
    record {
      step = both_steps K A w k h (ap (λ (v : World). (v.conns k).server_open) e);
      taken = subst (λ v. Taken w (happens v (Take k)) k) (sym e) (takes_dialog w k y stands none one token (ends_of w k (A.facts w h)));
    }
one_step K A w k h server stands off (IsLost gone none empty) = absurd (cc)

-- ---- the loop

pub record Linked (K : World → Type 0) (c d : Course) (k : ℕ) : Type 0 where
  pub known : K d.world
  pub server : (d.world.conns k).server_open ≡ (c.world.conns k).server_open
  pub elsewhere : Elsewhere c.world.conns d.world.conns k
  pub done : is_linking d.world k ≡ false
  pub ends : is_linking c.world k ≡ true → LinkEnd K c.world d.world k

stays_linked : (n : ℕ) (c : Course) (k : ℕ) → is_linking c.world k ≡ false → linking n c k ≡ c
unfolding linking
stays_linked zero c k e = refl
stays_linked (suc n) c k e = linking_off n c k e

both_ends : (w : World) (k : ℕ) → is_linking w k ≡ true → (w.conns k).client_open ≡ true × (w.conns k).server_open
    ≡ true × w.client.ready k ≡ false
unfolding is_linking both_open
both_ends w k e = (grind arith, grind arith, grind arith)

pub goes_on : (w : World) (k : ℕ) → (w.conns k).client_open ≡ true → (w.conns k).server_open ≡ true → w.client.ready k
    ≡ false → is_linking w k ≡ true
unfolding is_linking both_open
goes_on w k a b c = grind arith

ready_stops : (w : World) (k : ℕ) → w.client.ready k ≡ true → is_linking w k ≡ false
unfolding is_linking
ready_stops w k e = grind arith

shut_stops : (w : World) (k : ℕ) → (w.conns k).client_open ≡ false → is_linking w k ≡ false
unfolding is_linking both_open
shut_stops w k e = grind arith

talking_rank : (s : Stage) → rank s ≤ 0 → is_talking s ≡ true → (P : Type 0) → P
unfolding is_talking
talking_rank s l t P = absurd (grind arith)

not_talking : (r : Bool) (s : Stage) (c : Conn) → r ≡ false → c.client_open ≡ true → rank s ≤ 0 → Channel r s c → (P : Type 0) → P
not_talking r s c off stands l (IsClosed o apart shut none) P = absurd (cc)
not_talking r s c off stands l (IsReady on apart o) P = absurd (cc)
not_talking r s c off stands l (IsInDialog o talks t waits) P = talking_rank s l talks P

awaits_of : (r : Bool) (s : Stage) (c : Conn) → r ≡ false → c.client_open ≡ true → Channel r s c → Awaits c
awaits_of r s c off stands (IsClosed o apart shut none) = absurd (cc)
awaits_of r s c off stands (IsReady on apart o) = absurd (cc)
awaits_of r s c off stands (IsInDialog o talks t waits) = waits

off_shut : (r : Bool) (s : Stage) (c : Conn) → c.client_open ≡ false → Channel r s c → r ≡ false
off_shut r s c shut (IsClosed o apart e none) = o
off_shut r s c shut (IsReady on apart o) = absurd (cc)
off_shut r s c shut (IsInDialog o talks t waits) = o

further : (K : World → Type 0) (w v u : World) (k : ℕ) → v.client.refusals ≡ w.client.refusals → LinkEnd K v u k → LinkEnd K w u k
further K w v u k e (NowReady a b c d f) = NowReady a (b ∙ e) c d f
further K w v u k e (NowRefused a b c) = NowRefused a (b ∙ ap (λ xs. length xs + 1) e) c
further K w v u k e (OutOfNumbers a b) = OutOfNumbers a b

not_ready : (r : Bool) (s : Stage) (c : Conn) → is_talking s ≡ true → Channel r s c → r ≡ false
unfolding is_talking
not_ready r s c talks (IsClosed o apart e none) = o
not_ready r s c talks (IsReady on apart o) = absurd (grind arith)
not_ready r s c talks (IsInDialog o t u waits) = o

loops : (K : World → Type 0) → Always K → (n : ℕ) (c v d : Course) (k : ℕ) → K c.world → rank (c.world.client.stage k)
    ≤ suc n → (c.world.conns k).server_open ≡ true → OneStep K c.world v.world k
    → (rank (v.world.client.stage k) ≤ n → Linked K v d k) → (is_linking v.world k ≡ false → d ≡ v) → Linked K c d k
loops K A n c v d k known low server s again stops = by s.taken
  where
    ended : is_linking v.world k ≡ false → LinkEnd K c.world v.world k → Linked K c d k
    ended off e =
        subst (λ (u : Course). Linked K c u k) (sym (stops off)) (record {
          known = s.step.known;
          server = s.step.server;
          elsewhere = s.step.elsewhere;
          done = off;
          ends = λ _. e;
        })

    by : Taken c.world v.world k → Linked K c d k
    by (Further x lower talks refusals stands up down) =
        let i = again (omega (arith, low, lower)) in
        record {
          known = i.known;
          server = i.server ∙ s.step.server;
          elsewhere = so c.world.conns v.world.conns d.world.conns k s.step.elsewhere i.elsewhere;
          done = i.done;
          ends = λ _. further K c.world v.world d.world k refusals
              (i.ends (goes_on v.world k stands (s.step.server ∙ server)
              (not_ready (v.world.client.ready k) (v.world.client.stage k) (v.world.conns k) talks
              ((A.facts v.world s.step.known).channels k))));
        }
    by (IsOver ready refusals stands up down) = ended (ready_stops v.world k ready) (NowReady ready refusals stands up down)
    by (IsRefused shut refusals live) =
        ended (shut_stops v.world k shut)
        (NowRefused shut refusals (off_shut (v.world.client.ready k) (v.world.client.stage k) (v.world.conns k) shut
        ((A.facts v.world s.step.known).channels k)))
    by (IsCountedOut shut at out) = ended (shut_stops v.world k shut) (OutOfNumbers shut (λ rise. out (rise c.world known k at)))

-- as many rounds as the dialog has messages to send
pub links : (K : World → Type 0) → Always K → (n : ℕ) (c : Course) (k : ℕ) → K c.world → rank (c.world.client.stage k)
    ≤ n → Linked K c (linking n c k) k
unfolding linking went
links K A zero c k h low =
    record {
      known = h;
      server = refl;
      elsewhere = untouched c.world.conns k;
      done = never (is_linking c.world k) (λ e. let b = both_ends c.world k e in not_talking (c.world.client.ready k)
          (c.world.client.stage k) (c.world.conns k) b.2 b.0 low ((A.facts c.world h).channels k) (is_linking c.world k
          ≡ false));
      ends = λ e. let b = both_ends c.world k e in not_talking (c.world.client.ready k) (c.world.client.stage k)
          (c.world.conns k) b.2 b.0 low ((A.facts c.world h).channels k) _;
    }
  where
    never : (b : Bool) → (b ≡ true → b ≡ false) → b ≡ false
    never true f = f refl
    never false f = refl
links K A (suc n) c k h low =
    let v = went (went c (Serve k)) (Take k) in
    let again = λ (i : K v.world) (l : rank (v.world.client.stage k) ≤ n). links K A n v k i l in
    by_test (λ d. Linked K c d k) (is_linking c.world k) (linking (suc n) c k) (linking n v k) c (linking_on n c k) (linking_off n c k)
    (λ on. let b = both_ends c.world k on in
    let s = one_step K A c.world k h b.1 b.0 b.2 (awaits_of (c.world.client.ready k) (c.world.client.stage k)
    (c.world.conns k) b.2 b.0 ((A.facts c.world h).channels k)) in
    loops K A n c v (linking n v k) k h low b.1 s (again s.step.known) (stays_linked n v k))
    (λ off. record { known = h; server = refl; elsewhere = untouched c.world.conns k; done = off; ends = λ on. absurd (cc) })

pub four_messages : (s : Stage) → rank s ≤ 8
four_messages s = grind arith

pub links_all : (K : World → Type 0) → Always K → (c : Course) (k : ℕ) → K c.world → Linked K c (linking 8 c k) k
links_all K A c k h = links K A 8 c k h (four_messages (c.world.client.stage k))
