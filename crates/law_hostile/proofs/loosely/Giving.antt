-- What a request that the network gives to a server's end does to the values of a repeat run: its one message takes a place, or the end closes.
use Rattle.std.proofs.Common.{◌≡◌, ℕ, ◌+◌, true, false, if◌then◌else◌, List, [], ◌∷◌, refl, sym, ap, ◌∙◌, subst, Option, Some}
use Rattle.std.proofs.Common.{None, take, Ok}
use Rattle.law_nonces.proofs.negotiation.Tables.{by_key, put_other}
use Rattle.spec_exchange.specs.Table.{put}
use Rattle.spec_exchange.specs.State.{Server, Message, Answer, no_later}
use Rattle.spec_exchange.specs.Network.{World as Values, Conn, Sent, Received, Token, Serve, answer_to, absorbed, replied}
use Rattle.spec_exchange.specs.Network.{behind_front}
use Rattle.spec_world.specs.Settings.{WorldSettings, ServerSettings, draw}
use Rattle.spec_world.specs.Ends.{ServerEnd, Logons}
use Rattle.spec_world.specs.Hearing.{Checked, Frame, check_frame}
use Rattle.spec_world.specs.Connection.{ConnectionStep, step_of, answered, went_all, beginning, heard_message}
use Rattle.spec_world.specs.Connection.{went_heard}
use Rattle.spec_world.specs.World.{Wires, step_at, served_by, serve_frame, values_took, replied_each}
use Rattle.spec_world.specs.World.{last_reply}
use Rattle.spec_world.specs.Events.{bytes_changed, bytes_later}
use Rattle.spec_hostile.specs.RepeatRuns.{RepeatWorld, UpFrame, is_served, is_heard, loaded_up, given_up, lists_as, sents, receiveds, up_frames}
use Rattle.law_hostile.proofs.puts.Replies.{conn_loaded, wires_loaded, may_serve_loaded}
use Rattle.law_hostile.proofs.loosely.Following.{SameConn, SameConns}
use Rattle.law_hostile.proofs.loosely.Serving.{Took, self_conns, then_conns, one_conn, say_same}

-- ---- the step of a frame of one message

pub record Steps (S : ConnectionStep) (m : Message) (A : Answer) : Type 0 where
  pub ends : S.ends ≡ None
  pub taken : S.taken ≡ Some (record { message = m; answer = A })

step_heard : (z : ServerSettings) (k now : ℕ) (fresh : List ℕ) (s : Server) (L : Logons) (f : ServerEnd) (c : Checked) (m : Message)
    (o : Option Message) → o ≡ Some m
    → Steps (answered f false (went_heard z k now fresh f (beginning s L f) c o)) m (answer_to s now m m.command)
step_heard z k now fresh s L f c m o e =
    subst (λ p. Steps (answered f false (went_heard z k now fresh f (beginning s L f) c p)) m (answer_to s now m m.command)) (sym e)
    (record { ends = refl; taken = refl })

step_one : (z : ServerSettings) (k now : ℕ) (fresh : List ℕ) (s : Server) (L : Logons) (f : ServerEnd) (cs : List Checked) (c : Checked)
    (m : Message) → cs ≡ c ∷ [] → heard_message z L k f c ≡ Some m
    → Steps (answered f false (went_all z k now fresh f (beginning s L f) cs)) m (answer_to s now m m.command)
unfolding went_all
step_one z k now fresh s L f cs c m e heard =
    subst (λ ds. Steps (answered f false (went_all z k now fresh f (beginning s L f) ds)) m (answer_to s now m m.command)) (sym e)
    (step_heard z k now fresh s L f c m (heard_message z L k f c) heard)

step_frame : (z : ServerSettings) (k now : ℕ) (fresh : List ℕ) (s : Server) (L : Logons) (x : Frame) (c : Checked) (m : Message)
    → x.sealed ≡ false → x.messages ≡ c ∷ [] → heard_message z L k x.server_end c ≡ Some m
    → Steps (answered x.server_end x.sealed (went_all z k now fresh x.server_end (beginning s L x.server_end) x.messages)) m
    (answer_to s now m m.command)
step_frame z k now fresh s L x c m plain alone heard =
    subst (λ b. Steps (answered x.server_end b (went_all z k now fresh x.server_end (beginning s L x.server_end) x.messages)) m
    (answer_to s now m m.command)) (sym plain) (step_one z k now fresh s L x.server_end x.messages c m alone heard)

pub step_given : (z : WorldSettings) (r : RepeatWorld) (k : ℕ) (u : UpFrame) (x : Frame) (c : Checked) (m : Message)
    → check_frame (r.world.wires k).server_end u.frame ≡ Ok x → x.sealed ≡ false → x.messages ≡ c ∷ []
    → heard_message z.server r.world.logons k x.server_end c ≡ Some m
    → Steps (step_at z (loaded_up r k u) k u.frame) m (answer_to r.world.values.server r.world.values.moment m m.command)
step_given z r k u x c m ok plain alone heard =
    let w = loaded_up r k u in
    let now = w.values.moment in
    let fresh = take 8 (draw z.seed w.draws) in
    let s = w.values.server in
    let e : check_frame (w.wires k).server_end u.frame ≡ Ok x =
    ap (λ (v : Wires). check_frame v.server_end u.frame) (wires_loaded r k u) ∙ ok in
    subst (λ q. Steps (step_of z.server k now fresh s w.logons (w.wires k).server_end q) m (answer_to s now m m.command)) (sym e)
    (step_frame z.server k now fresh s w.logons x c m plain alone heard)

-- ---- what it does to values

-- replies go down alone
record Said (v u : Values) : Type 0 where
  client : u.client ≡ v.client
  server : u.server ≡ v.server
  records : u.records ≡ v.records
  moment : u.moment ≡ v.moment
  log : u.log ≡ v.log
  trace : u.trace ≡ v.trace
  conns : SameConns v.conns u.conns

said_each : (v : Values) (k : ℕ) (y : Received) (fs : List (List ℕ)) → Said v (replied_each v k y fs)
unfolding replied_each
said_each v k y [] =
    record { client = refl; server = refl; records = refl; moment = refl; log = refl; trace = refl; conns = self_conns v.conns }
said_each v k y (f ∷ fs) =
    let u = replied v k y in
    let q = said_each u k y fs in
    record {
      client = q.client;
      server = q.server;
      records = q.records;
      moment = q.moment;
      log = q.log;
      trace = q.trace;
      conns = then_conns v.conns u.conns (replied_each u k y fs).conns (one_conn v.conns k _ (say_same (v.conns k) y)) q.conns;
    }

-- as it was, but for its lists and whether the client's end is open
loaded_conns : (r : RepeatWorld) (k : ℕ) (u : UpFrame) (w : Values) → SameConns (loaded_up r k u).values.conns w.conns
    → SameConns r.world.values.conns (put w.conns k (record (w.conns k) {
      client_open = is_heard r.world k;
      up = sents [];
      down = receiveds [];
    }))
loaded_conns r k u w s =
    by_key (λ j (d : Conn). SameConn (r.world.values.conns j) d) w.conns k _
    (let a = s k in record {
      client = refl;
      server = a.server ∙ ap (λ (c : Conn). c.server_open) (conn_loaded r k u);
      next = a.next ∙ ap (λ (c : Conn). c.next_id) (conn_loaded r k u);
    })
    (λ j off. (let a = s j in
    let e = put_other r.world.values.conns k j (record (r.world.values.conns k) {
      client_open = true;
      up = sents (u ∷ []);
      down = receiveds [];
    }) off in record {
      client = a.client ∙ ap (λ (c : Conn). c.client_open) e;
      server = a.server ∙ ap (λ (c : Conn). c.server_open) e;
      next = a.next ∙ ap (λ (c : Conn). c.next_id) e;
    }))

-- behind a message that the end takes, and before its lists are collected
went_took : (r : RepeatWorld) (k : ℕ) (u : UpFrame) (token : Token) (S : ConnectionStep) (m : Message) (A : Answer) → Steps S m A
    → (let w = loaded_up r k u in let v = bytes_later (served_by w k [] [] token S S.ends) 1 in
    Took r.world.values (lists_as v k [] [] (is_heard r.world k)).values m A)
went_took r k u token S m A q =
    let w = loaded_up r k u in
    subst (λ o. Took r.world.values (lists_as (bytes_later (served_by w k [] [] token S o) 1) k [] [] (is_heard r.world k)).values m A) (sym q.ends)
    (subst (λ o. Took r.world.values (lists_as (bytes_later (record w {
      values = replied_each (values_took w.values k token [] o) k (record {
        token = token;
        reply = last_reply S.taken;
        place = w.values.log.places;
      }) S.frames;
    }) 1) k [] [] (is_heard r.world k)).values m A) (sym q.taken) (by (record { token = token; reply = last_reply S.taken; place = w.values.log.places }) S.frames))
  where
    by : (y : Received) (fs : List (List ℕ)) → (let w = loaded_up r k u in
        let x : Sent = record { token = token; message = m } in
        Took r.world.values (lists_as (bytes_later (record w { values = replied_each (absorbed w.values k x [] A) k y fs }) 1) k [] []
        (is_heard r.world k)).values m A)
    by y fs =
        let w = loaded_up r k u in
        let x : Sent = record { token = token; message = m } in
        let v = absorbed w.values k x [] A in
        let s = said_each v k y fs in
        let conns : SameConns w.values.conns v.conns =
        one_conn w.values.conns k (behind_front (w.values.conns k) []) (record { client = refl; server = refl; next = refl }) in
        record {
          client = s.client;
          server = s.server;
          records = s.records;
          moment = ap (λ n. no_later (n + 1)) s.moment;
          conns = loaded_conns r k u (replied_each v k y fs) (then_conns w.values.conns v.conns (replied_each v k y fs).conns conns s.conns);
          places = ap (λ l. l.places) s.log;
          reached = ap (λ t. t.reached) s.trace;
          altered = ap (λ t. t.altered) s.trace;
          session = ap (λ t. t.session) s.trace;
          sequence = ap (λ t. t.sequence) s.trace;
        }

-- the server's end is given a frame of one message
pub given_took : (z : WorldSettings) (r : RepeatWorld) (k : ℕ) (u : UpFrame) (x : Frame) (c : Checked) (m : Message) → is_served r.world k ≡ true
    → check_frame (r.world.wires k).server_end u.frame ≡ Ok x → x.sealed ≡ false → x.messages ≡ c ∷ []
    → heard_message z.server r.world.logons k x.server_end c ≡ Some m
    → Took r.world.values (given_up z r k u).world.values m (answer_to r.world.values.server r.world.values.moment m m.command)
unfolding sents up_frames
given_took z r k u x c m on ok plain alone heard =
    let w = loaded_up r k u in
    let S = step_at z w k u.frame in
    let A = answer_to r.world.values.server r.world.values.moment m m.command in
    let bs : (w.wires k).up ≡ u.frame ∷ [] = ap (λ (v : Wires). v.up) (wires_loaded r k u) in
    let xs : (w.values.conns k).up ≡ u.sent ∷ [] = ap (λ (d : Conn). d.up) (conn_loaded r k u) in
    let is : served_by w k [] [] u.sent.token S S.ends ≡ bytes_changed z w (Serve k) =
    sym (ap (λ l. serve_frame z w k l (w.values.conns k).up) bs ∙ ap (λ l. serve_frame z w k (u.frame ∷ []) l) xs) in
    subst (λ b. Took r.world.values (lists_as (if b then bytes_later (bytes_changed z w (Serve k)) 1 else w) k [] [] (is_heard r.world k)).values m A)
    (sym (may_serve_loaded r k u on))
    (subst (λ v. Took r.world.values (lists_as (bytes_later v 1) k [] [] (is_heard r.world k)).values m A) is
    (went_took r k u u.sent.token S m A (step_given z r k u x c m ok plain alone heard)))
