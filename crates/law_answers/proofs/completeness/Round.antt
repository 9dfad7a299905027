-- One push on a ready channel where nothing waits, and what it leads to.
use Rattle.std.proofs.Common.{◌≡◌, ℕ, ◌≤◌, ◌<◌, ◌==◌, nat_lt, Bool, true, false, ◌&&◌, ◌||◌, if◌then◌else◌, List, []}
use Rattle.std.proofs.Common.{◌∷◌, ◌++◌, length, refl, arith, sym, subst, ◌∙◌, ap, Some, None}
use Rattle.std.proofs.lemmas.Bool.Decides.{nat_tests}
use Rattle.spec_exchange.specs.Table.{put, is_filled}
use Rattle.spec_exchange.specs.State.{Reply}
use Rattle.spec_exchange.specs.Operations.{NoSlot, is_unsettled, is_create}
use Rattle.spec_exchange.specs.Client.{Client, create_for, may_push, goes_itself, has_its_slot, settle_no_slot}
use Rattle.spec_exchange.specs.Client.{settle_no_slots, lacks_slot, ends_at_cut}
use Rattle.spec_exchange.specs.Settling.{Heard as Hearing, Settles, Attaches, heard, hear, joined}
use Rattle.spec_exchange.specs.ClientStep.{Pick, Act, Nothing, CloseChannels}
use Rattle.spec_exchange.specs.Schedules.{Choice, Course, went, went_push, choose, purse, serve_all, take_all}
use Rattle.spec_exchange.specs.Schedules.{served_all, taken_all, drain, pushed_round}
use Rattle.spec_exchange.specs.Network.{World, Push, Serve, Take, Cut, Conn, Sent, Received, ForOp, ForAttach, happens}
use Rattle.spec_exchange.specs.Network.{changed, later, say_down, behind_front, take_front, answer, took_by, op_took}
use Rattle.spec_exchange.specs.Network.{with_client, behind_reply, cut_by, client_off}
use Rattle.law_sessions.proofs.messages.Run.{heard_firm, MayPush, found}
use Rattle.law_sessions.proofs.sessions.Channels.{same_no_slots}
use Rattle.law_server.proofs.tables.Logic.{either, both}
use Rattle.law_answers.proofs.completeness.Events.{if_on, put_at, took_is, serves, Elsewhere, so, untouched, serve_elsewhere}
use Rattle.law_answers.proofs.completeness.Events.{take_elsewhere, pushed_elsewhere, cut_away}
use Rattle.law_answers.proofs.completeness.Facts.{Always, AllPresent}
use Rattle.law_answers.proofs.completeness.Taking.{filled_on}
use Rattle.law_answers.proofs.completeness.Equations.{serve_on, take_on, drain_off, pushed_on, pushed_off}
use Rattle.law_answers.proofs.completeness.Drain.{spent_done, IsEmpty}
use Rattle.law_answers.proofs.completeness.Later.{Later, joined_on, one, push_later, drain_later}
use Rattle.law_answers.proofs.completeness.Choose.{no_slot_outcome, Calm, Chosen, Sending, SettledAll, chooses, full_purse}
use Rattle.law_answers.proofs.completeness.Exchange.{Out, own_push, ask_push, quiet_push, Comes, ItSettles, ItAttaches, comes}
use Rattle.law_answers.proofs.completeness.Exchange.{awaited_now, took_now, settled_now}

-- ---- the client behind the locks without a slot

settled_still : (c : Client) (k g h : ℕ) → is_unsettled (c.outcome h) ≡ false → is_unsettled ((settle_no_slot c k g).outcome h) ≡ false
settled_still c k g h s = either (λ (d : Client). is_unsettled (d.outcome h) ≡ false) (lacks_slot c k g) (record c {
  outcome = put c.outcome g (NoSlot (create_for c g));
}) c (λ _. no_slot_outcome c.outcome g h (create_for c g) s)
    (λ _. s)

pub all_settled_still : (c : Client) (k : ℕ) (gs : List ℕ) (h : ℕ) → is_unsettled (c.outcome h) ≡ false
    → is_unsettled ((settle_no_slots c k gs).outcome h) ≡ false
unfolding settle_no_slots
all_settled_still c k [] h s = s
all_settled_still c k (g ∷ gs) h s = all_settled_still (settle_no_slot c k g) k gs h (settled_still c k g h s)

goes_one : (c : Client) (k g h : ℕ) → goes_itself (settle_no_slot c k g) h ≡ goes_itself c h
goes_one c k g h = either (λ (d : Client). goes_itself d h ≡ goes_itself c h) (lacks_slot c k g) (record c {
  outcome = put c.outcome g (NoSlot (create_for c g));
}) c (λ _. refl) (λ _. refl)

pub goes_same : (c : Client) (k : ℕ) (gs : List ℕ) (h : ℕ) → goes_itself (settle_no_slots c k gs) h ≡ goes_itself c h
unfolding settle_no_slots
goes_same c k [] h = refl
goes_same c k (g ∷ gs) h = goes_same (settle_no_slot c k g) k gs h ∙ goes_one c k g h

-- ---- served and taken

-- how the operation stands behind its exchange
pub data Ended (v : World) (g : ℕ) : Type 0 where
  IsSettled : is_unsettled (v.client.outcome g) ≡ false → Ended v g
  IsNear : goes_itself v.client g ≡ true → v.client.live ≡ true → Ended v g

pub record Exchanged (v d : World) (k g : ℕ) (asking : Bool) : Type 0 where
  pub client_end : (d.conns k).client_open ≡ true
  pub server_end : (d.conns k).server_open ≡ true
  pub up : (d.conns k).up ≡ []
  pub down : (d.conns k).down ≡ []
  pub elsewhere : Elsewhere v.conns d.conns k
  pub end : Ended d g
  pub own : asking ≡ false → is_unsettled (d.client.outcome g) ≡ false

attached_goes : (c : Client) (g : ℕ) → c.live ≡ true → goes_itself (joined c g) g ≡ true
attached_goes c g l = by (put_at c.attached (create_for c g) c.session_number)
  where
    by : put c.attached (create_for c g) c.session_number (create_for c g) ≡ c.session_number → goes_itself (joined c g) g ≡ true
    by e = goes (is_create (c.op g)) c.live (put c.attached (create_for c g) c.session_number (create_for c g)) c.session_number l e
      where
        goes : (a b : Bool) (n m : ℕ) → b ≡ true → n ≡ m → (a || (b && (n == m))) ≡ true
        goes a b n m e f = grind arith

-- the world behind the reply
heard_world : (s u : World) (k g : ℕ) (asking : Bool) (h : Hearing) (place : ℕ) (r : Reply) → u
    ≡ later (with_client (behind_reply s k []) (hear s.client g asking r place h)) 1 → u.client ≡ hear s.client g asking
    r place h × u.conns ≡ put s.conns k (take_front (s.conns k) [])
heard_world s u k g asking h place r e = (ap (λ (v : World). v.client) e, ap (λ (v : World). v.conns) e)

token_took : (b : World) (k g : ℕ) (asking : Bool) (r : Reply) (place : ℕ)
    → took_by b k r place (if asking then ForAttach g else ForOp g) ≡ op_took b k g asking r place
token_took b k g true r place = refl
token_took b k g false r place = refl

ends_by : (s : World) (u : World) (k g : ℕ) (asking : Bool) (r : Reply) (place : ℕ) → s.client.live ≡ true → u
    ≡ later (op_took (behind_reply s k []) k g asking r place) 1 → s.client.outstanding_on g ≡ Some k
    → s.client.asks_attach g ≡ asking
    → Comes s.client g asking (heard s.client g asking r) → u.conns ≡ put s.conns k (take_front (s.conns k) [])
    × Ended u g × (asking ≡ false → is_unsettled (u.client.outcome g) ≡ false)
ends_by s u k g asking r place live is on asks (ItSettles o e) =
    let w = heard_world s u k g asking (Settles o) place r
    (is ∙ ap (λ v. later v 1) (took_now (behind_reply s k []) k g asking r place (Settles o)
    (awaited_now s.client k g asking on asks) e refl)) in
    let firm = subst (λ (c : Client). is_unsettled (c.outcome g) ≡ false) (sym w.0)
    (settled_now s.client g asking r place o (heard_firm s.client g asking r o e)) in
    (w.1, IsSettled firm, λ _. firm)
ends_by s u k g asking r place live is on asks (ItAttaches a e) =
    let w = heard_world s u k g asking Attaches place r
    (is ∙ ap (λ v. later v 1) (took_now (behind_reply s k []) k g asking r place Attaches
    (awaited_now s.client k g asking on asks) e refl)) in (
      w.1,
      IsNear (subst (λ (c : Client). goes_itself c g ≡ true) (sym w.0) (attached_goes s.client g live))
          (ap (λ (c : Client). c.live) w.0 ∙ live),
      λ f. absurd (cc),
    )

alone : (xs : List Sent) (x : Sent) → xs ≡ [] → xs ++ x ∷ [] ≡ x ∷ []
alone xs x e = ap (λ ys. ys ++ x ∷ []) e

said_on : (c : Conn) (y : Received) → c.client_open ≡ true → say_down c y ≡ record c { down = c.down ++ y ∷ [] }
said_on c y e = if_on c.client_open (record c { down = c.down ++ y ∷ [] }) c e

-- what the server leaves where it has answered
pub record Answered (v s : World) (k : ℕ) (x : Sent) : Type 0 where
  pub client : s.client ≡ v.client
  pub client_end : (s.conns k).client_open ≡ true
  pub server_end : (s.conns k).server_open ≡ true
  pub up : (s.conns k).up ≡ []
  pub down : (s.conns k).down ≡ record { token = x.token; reply = (answer v x).reply; place = v.log.places } ∷ []

answered : (v : World) (k : ℕ) (x : Sent) → (v.conns k).client_open ≡ true → (v.conns k).server_open ≡ true
    → (v.conns k).up ≡ x ∷ [] → (v.conns k).down ≡ [] → Answered v (happens v (Serve k)) k x
answered v k x client server up down =
    let y : Received = record { token = x.token; reply = (answer v x).reply; place = v.log.places } in
    let s = serves v k x [] (both (v.conns k).server_open _ server (filled_on (v.conns k).up x [] up)) up in
    let e = s.here ∙ said_on (behind_front (v.conns k) []) y client in
    record {
      client = s.client;
      client_end = ap (λ d. d.client_open) e ∙ client;
      server_end = ap (λ d. d.server_open) e ∙ server;
      up = ap (λ d. d.up) e;
      down = ap (λ d. d.down) e ∙ ap (λ ys. ys ++ y ∷ []) down;
    }

exchange_of : (v s : World) (k g : ℕ) (asking : Bool) (x : Sent) → Answered v s k x → v.client.outstanding_on g ≡ Some k
    → v.client.asks_attach g ≡ asking → x.token ≡ (if asking then ForAttach g else ForOp g) → s.client.live ≡ true
    → Elsewhere v.conns s.conns k
    → Comes v.client g asking (heard v.client g asking (answer v x).reply) → Exchanged v (happens s (Take k)) k g asking
exchange_of v s k g asking x a on asks token live elsewhere coming =
    let y : Received = record { token = x.token; reply = (answer v x).reply; place = v.log.places } in
    let is = took_is s k y [] (both (s.conns k).client_open _ a.client_end (filled_on (s.conns k).down y [] a.down)) a.down
    ∙ ap (λ t. later (took_by (behind_reply s k []) k y.reply y.place t) 1) token
    ∙ ap (λ u. later u 1) (token_took (behind_reply s k []) k g asking y.reply y.place) in
    let e = ends_by s (happens s (Take k)) k g asking y.reply y.place live is
    (ap (λ (c : Client). c.outstanding_on g) a.client ∙ on) (ap (λ (c : Client). c.asks_attach g) a.client ∙ asks)
    (subst (λ (c : Client). Comes c g asking (heard c g asking y.reply)) (sym a.client) coming) in
    let at = ap (λ f. f k) e.0 ∙ put_at s.conns k (take_front (s.conns k) []) in
    record {
      client_end = ap (λ d. d.client_open) at ∙ a.client_end;
      server_end = ap (λ d. d.server_open) at ∙ a.server_end;
      up = ap (λ d. d.up) at ∙ a.up;
      down = ap (λ d. d.down) at;
      elsewhere = so v.conns s.conns (happens s (Take k)).conns k elsewhere (take_elsewhere s k);
      end = e.1;
      own = e.2;
    }

-- the two events are what drain makes of it
drain_is : (v : Course) (k : ℕ) (x : Sent) → (v.world.conns k).up ≡ x ∷ [] → (v.world.conns k).server_open ≡ true
    → Answered v.world (happens v.world (Serve k)) k x → taken_all (served_all v k) k ≡ went (went v (Serve k)) (Take k)
unfolding served_all taken_all serve_all take_all went
drain_is v k x up server a =
    let s = went v (Serve k) in let y : Received = record {
      token = x.token;
      reply = (answer v.world x).reply;
      place = v.world.log.places;
    } in
    let front : served_all v k ≡ s = ap (λ n. serve_all n v k) (ap length up)
    ∙ serve_on 0 v k (both (v.world.conns k).server_open _ server (filled_on (v.world.conns k).up x [] up)) in
    ap (λ d. taken_all d k) front ∙ ap (λ n. take_all n s k) (ap length a.down)
    ∙ take_on 0 s k (both (s.world.conns k).client_open _ a.client_end
    (filled_on (s.world.conns k).down y [] a.down))

pub drains_to : (v : Course) (k g : ℕ) (asking : Bool) (x : Sent) → (v.world.conns k).up ≡ x ∷ []
    → (v.world.conns k).server_open ≡ true → Answered v.world (happens v.world (Serve k)) k x
    → Exchanged v.world (happens (happens v.world (Serve k)) (Take k)) k g asking → Exchanged v.world (drain 64 v k).world k g asking
unfolding went
drains_to v k g asking x up server a e =
    let d = taken_all (served_all v k) k in let is = drain_is v k x up server a in
    let p : Exchanged v.world d.world k g asking = subst (λ (u : Course). Exchanged v.world u.world k g asking) (sym is) e in
    subst (λ (u : Course). Exchanged v.world u.world k g asking) (sym (drain_off 63 v k (spent_done d.world k (IsEmpty p.up p.down)))) p

-- ---- the push of a round

-- a channel that is ready, both ends open, nothing waiting
pub record Idle (w : World) (k : ℕ) : Type 0 where
  pub ready : w.client.ready k ≡ true
  pub client_end : (w.conns k).client_open ≡ true
  pub server_end : (w.conns k).server_open ≡ true
  pub up : (w.conns k).up ≡ []
  pub down : (w.conns k).down ≡ []

-- an operation below which all are settled
pub record Least (c : Client) (g : ℕ) : Type 0 where
  pub low : 0 < g
  pub high : g ≤ c.taken
  pub lower : (h : ℕ) → 0 < h → h < g → is_unsettled (c.outcome h) ≡ false

pub record RoundEnd (K : World → Type 0) (c d : Course) (k g : ℕ) : Type 0 where
  pub later : Later K c d
  pub elsewhere : Elsewhere c.world.conns d.world.conns k
  pub here : (d.world.conns k).client_open ≡ true → (d.world.conns k).server_open ≡ true × (d.world.conns k).up ≡ []
      × (d.world.conns k).down ≡ []
  pub end : Ended d.world g
  pub own : goes_itself c.world.client g ≡ true → is_unsettled (d.world.client.outcome g) ≡ false

pub cut_shuts : (w : World) (k : ℕ) → (w.conns k).client_open ≡ true → ((happens w (Cut k)).conns k).client_open ≡ false
cut_shuts w k o = subst (λ (v : World). (v.conns k).client_open ≡ false)
    (sym (if_on (w.conns k).client_open (later (changed w (Cut k)) 1) w o))
    (either (λ (v : World). (v.conns k).client_open ≡ false) (w.client.ready k) _ _
    (λ _. either (λ (x : Act). ((cut_by w k x).conns k).client_open ≡ false) (w.client.ready k && ends_at_cut w.client)
    CloseChannels Nothing (λ _. refl) (λ _. ap (λ d. d.client_open) (put_at w.conns k (client_off (w.conns k)))))
    (λ _. ap (λ d. d.client_open) (put_at w.conns k (client_off (w.conns k)))))

not_filled : (a b : List Sent) (e f : List Received) → a ≡ [] → e ≡ [] → (is_filled a || is_filled e) ≡ false
unfolding is_filled
not_filled a b e f p q = grind arith

some_filled : (a : List Sent) (x : Sent) (e : List Received) → a ≡ x ∷ [] → (is_filled a || is_filled e) ≡ true
unfolding is_filled
some_filled a x e p = grind arith

absent : (b : Bool) (P : Type 0) → b ≡ true → b ≡ false → P
absent b P e f = absurd (cc)

-- nothing went out, and all is settled
rests : (K : World → Type 0) → Always K → (c : Course) (k g : ℕ) (x : Choice) → K c.world → Idle c.world k
    → Least c.world.client g → went_push c k ≡ went c (Push k x.slotless x.pick) → x.pick ≡ None
    → ((h : ℕ) → 0 < h → h ≤ c.world.client.taken → is_unsettled ((settle_no_slots c.world.client k x.slotless).outcome
    h) ≡ false) → RoundEnd K c (pushed_round c k) k g
unfolding went
rests K A c k g x h i l is none all =
    let v = went_push c k in let d = went v (Cut k) in
    let q = quiet_push c.world k x.slotless i.ready in
    let e : v.world ≡ happens c.world (Push k x.slotless None) = ap (λ (u : Course). u.world) is
    ∙ ap (λ o. happens c.world (Push k x.slotless o)) none in
    let conns : v.world.conns ≡ c.world.conns = ap (λ (u : World). u.conns) e ∙ q.conns in let client : v.world.client
    ≡ settle_no_slots c.world.client k x.slotless = ap (λ (u : World). u.client) e ∙ q.client in
    let a = push_later K A c k h in let b = one K A v (Cut k) refl a.known in let t = joined_on K c v d a b in
    let s = t.stays in
    let settled = b.stays g (subst (λ (u : Client). is_unsettled (u.outcome g) ≡ false) (sym client) (all g l.low l.high)) in
    let shut = cut_shuts v.world k (ap (λ f. (f k).client_open) conns ∙ i.client_end) in
    subst (λ (u : Course). RoundEnd K c u k g)
    (sym (pushed_off c k (not_filled (v.world.conns k).up [] (v.world.conns k).down [] (ap (λ f. (f k).up) conns ∙ i.up)
    (ap (λ f. (f k).down) conns ∙ i.down))))
    (record {
      later = t;
      elsewhere = so c.world.conns v.world.conns d.world.conns k (subst (λ f. Elsewhere c.world.conns f k) (sym conns)
          (untouched c.world.conns k)) (cut_away v.world k);
      here = λ o. absent (d.world.conns k).client_open _ o shut;
      end = IsSettled settled;
      own = λ _. settled;
    })

-- one went out
runs : (K : World → Type 0) → Always K → AllPresent K → (c : Course) (k g h : ℕ) (asking : Bool) (slotless : List ℕ)
    (x : Sent) → K c.world → Idle c.world k → Out (settle_no_slots c.world.client k slotless) c.world
    (went_push c k).world k h asking x
    → Elsewhere c.world.conns (went_push c k).world.conns k
    → (is_unsettled ((settle_no_slots c.world.client k slotless).outcome g) ≡ true → h ≡ g)
    → (asking ≡ true → goes_itself c.world.client h ≡ false) → RoundEnd K c (pushed_round c k) k g
runs K A R c k g h asking slotless x known i o away same other =
    let v = went_push c k in let a = push_later K A c k known in let d = drain 64 v k in
    let up = o.up ∙ alone (c.world.conns k).up x i.up in
    let client_end = o.client_end ∙ i.client_end in let server_end = o.server_end ∙ i.server_end in let down = o.down ∙ i.down in
    let s = happens v.world (Serve k) in
    let on : v.world.client.ready k ≡ true = ap (λ f. f k) o.ready ∙ ready_still c.world.client k slotless k ∙ i.ready in
    let ans = answered v.world k x client_end server_end up down in
    let coming = comes v.world.client h asking (answer v.world x).reply (R.present v.world a.known k x [] on client_end
    server_end up) o.sequence in
    let fs = A.facts s (A.step v.world (Serve k) a.known) in
    let ex = exchange_of v.world s k h asking x ans o.outstanding_on o.asks o.token
    (fs.fit.ready k (ap (λ (e : Client). e.ready k) ans.client ∙ on)).1 (serve_elsewhere v.world k) coming in
    let p = drains_to v k h asking x up server_end ans ex in
    let dl = drain_later K A 64 v k a.known in let t = joined_on K c v d a dl in
    subst (λ (u : Course). RoundEnd K c u k g) (sym (pushed_on c k (some_filled (v.world.conns k).up x (v.world.conns k).down up)))
    (record {
      later = t;
      elsewhere = so c.world.conns v.world.conns d.world.conns k away p.elsewhere;
      here = λ _. (p.server_end, p.up, p.down);
      end = ends (is_unsettled ((settle_no_slots c.world.client k slotless).outcome g)) refl o dl p;
      own = owns (is_unsettled ((settle_no_slots c.world.client k slotless).outcome g)) refl o dl p;
    })
  where
    ready_still : (c : Client) (k : ℕ) (gs : List ℕ) (q : ℕ) → (settle_no_slots c k gs).ready q ≡ c.ready q
    ready_still c k gs q = ap (λ f. f q) (same_no_slots c k gs).ready

    before : is_unsettled ((settle_no_slots c.world.client k slotless).outcome g) ≡ false
        → Out (settle_no_slots c.world.client k slotless) c.world (went_push c k).world k h asking x
        → Later K (went_push c k) (drain 64 (went_push c k) k)
        → is_unsettled ((drain 64 (went_push c k) k).world.client.outcome g) ≡ false
    before s o l = l.stays g (ap (λ f. is_unsettled (f g)) o.outcome ∙ s)

    ends : (b : Bool) → is_unsettled ((settle_no_slots c.world.client k slotless).outcome g) ≡ b
        → Out (settle_no_slots c.world.client k slotless) c.world (went_push c k).world k h asking x
        → Later K (went_push c k) (drain 64 (went_push c k) k)
        → Exchanged (went_push c k).world (drain 64 (went_push c k) k).world k h asking → Ended (drain 64 (went_push c k) k).world g
    ends false e o l p = IsSettled (before e o l)
    ends true e o l p = subst (λ n. Ended (drain 64 (went_push c k) k).world n) (same e) p.end

    owns : (b : Bool) → is_unsettled ((settle_no_slots c.world.client k slotless).outcome g) ≡ b
        → Out (settle_no_slots c.world.client k slotless) c.world (went_push c k).world k h asking x
        → Later K (went_push c k) (drain 64 (went_push c k) k)
        → Exchanged (went_push c k).world (drain 64 (went_push c k) k).world k h asking → goes_itself c.world.client g
        ≡ true → is_unsettled ((drain 64 (went_push c k) k).world.client.outcome g) ≡ false
    owns false e o l p own = before e o l
    owns true e o l p own =
        subst (λ n. is_unsettled ((drain 64 (went_push c k) k).world.client.outcome n) ≡ false) (same e) (p.own (itself asking refl))
      where
        itself : (b : Bool) → asking ≡ b → asking ≡ false
        itself true a = absent (goes_itself c.world.client g) _ own (ap (λ n. goes_itself c.world.client n) (sym (same e)) ∙ other a)
        itself false a = a

sends : (K : World → Type 0) → Always K → AllPresent K → (c : Course) (k g : ℕ) (x : Choice) (p : Pick) → K c.world
    → Idle c.world k → Least c.world.client g → went_push c k ≡ went c (Push k x.slotless x.pick) → x.pick ≡ Some p
    → may_push (settle_no_slots c.world.client k x.slotless) k p.op ≡ true
    → (goes_itself (settle_no_slots c.world.client k x.slotless) p.op ≡ true
    → has_its_slot (settle_no_slots c.world.client k x.slotless) p.op p.slot ≡ true)
    → ((h : ℕ) → 0 < h → h < p.op → is_unsettled ((settle_no_slots c.world.client k x.slotless).outcome h) ≡ false)
    → RoundEnd K c (pushed_round c k) k g
unfolding went
sends K A R c k g x p known i l is pick may slot lower =
    let u = settle_no_slots c.world.client k x.slotless in let v = went_push c k in
    let e : v.world ≡ happens c.world (Push k x.slotless (Some p)) = ap (λ (u : Course). u.world) is
    ∙ ap (λ o. happens c.world (Push k x.slotless o)) pick in
    let away : Elsewhere c.world.conns v.world.conns k = subst (λ (w : World). Elsewhere c.world.conns w.conns k)
    (sym e) (pushed_elsewhere c.world k x.slotless (Some p)) in
    elim (goes_itself u p.op) as (λ b. goes_itself u p.op ≡ b → RoundEnd K c (pushed_round c k) k g) [
      | true ↦ λ own. let o = own_push c.world k p.op p.slot x.slotless i.ready may own (slot own) in
          runs K A R c k g p.op false x.slotless o.0 known i (subst (λ (w : World). Out u c.world w k p.op false o.0)
          (sym e) o.1) away (which u) (λ a. absurd (cc))
      | false ↦ λ ask. let o = ask_push c.world k p.op p.slot x.slotless i.ready may ask in
          runs K A R c k g p.op true x.slotless o.0 known i (subst (λ (w : World). Out u c.world w k p.op true o.0)
          (sym e) o.1) away (which u) (λ a. sym (goes_same c.world.client k x.slotless p.op) ∙ ask)
    ] refl
  where
    which : (u : Client) → is_unsettled ((settle_no_slots c.world.client k x.slotless).outcome g) ≡ true → p.op ≡ g
    which u pending =
        by (found (settle_no_slots c.world.client k x.slotless) k p.op may)
      where
        by : MayPush (settle_no_slots c.world.client k x.slotless) k p.op → p.op ≡ g
        by m =
            elim (nat_lt p.op g) as (λ b. nat_lt p.op g ≡ b → p.op ≡ g) [
              | true ↦ λ e. absent _ _ m.pending (all_settled_still c.world.client k x.slotless p.op
                  (l.lower p.op m.above (grind (arith, nat_tests))))
              | false ↦ λ e. elim (nat_lt g p.op) as (λ b. nat_lt g p.op ≡ b → p.op ≡ g) [
                | true ↦ λ f. absent _ _ pending (lower g l.low (grind (arith, nat_tests)))
                | false ↦ λ f. grind (arith, nat_tests)
              ] refl
            ] refl

pub round_on : (K : World → Type 0) → Always K → AllPresent K → (c : Course) (k g : ℕ) → K c.world → Idle c.world k
    → Calm c.world.client k → Least c.world.client g → RoundEnd K c (pushed_round c k) k g
unfolding settle_no_slots went_push
round_on K A R c k g known i q l =
    let w = c.world in
    by (chooses w.client.taken w.client w.client k (purse w.client k) [] 1 refl refl (omega arith) (omega arith)
    (full_purse w.client k q.idle) q (λ h a b. absurd (omega (arith, a, b))))
  where
    by : Chosen c.world.client k (choose c.world.client k (purse c.world.client k) [] 1 c.world.client.taken)
        → RoundEnd K c (pushed_round c k) k g
    by (Sending p pick may slot lower) = sends K A R c k g (choose c.world.client k (purse c.world.client k) [] 1
        c.world.client.taken) p known i l refl pick may slot lower
    by (SettledAll none all) = rests K A c k g (choose c.world.client k (purse c.world.client k) [] 1
        c.world.client.taken) known i l refl none all
