-- The opening state is tied, and what closes ends, or is the client's alone, leaves a world tied.
use Rattle.std.proofs.Common.{◌≡◌, ℕ, ◌+◌, ◌<◌, ◌≤◌, ◌==◌, nat_lt, Bool, true, false, ◌&&◌, ◌||◌, if◌then◌else◌, List, [], ◌∷◌}
use Rattle.std.proofs.Common.{refl, sym, ap, ◌∙◌, subst, eqb-true, arith, Option}
use Rattle.spec_exchange.specs.Table.{put}
use Rattle.spec_exchange.specs.Operations.{Op, keeps_limits, is_create, create_of, value_in, id_in, request_of, NoSession}
use Rattle.spec_exchange.specs.State.{Reply}
use Rattle.spec_exchange.specs.Client.{Client, Stage, Apart, may_take, take_op, ends_at_cut, cut_channel, end_session, leave_dialog}
use Rattle.spec_exchange.specs.Client.{finish}
use Rattle.spec_exchange.specs.ClientStep.{Act, Nothing, CloseChannels}
use Rattle.spec_exchange.specs.Network.{World as Values, Conn, Sent, Received, Token, ForDialog, ForOp, ForAttach, op_of, Event}
use Rattle.spec_exchange.specs.Network.{Submit, Open, Push, Serve, Take, Cut, Drop, Restart, Crash, Wait, Finish, with_client, server_off}
use Rattle.spec_exchange.specs.Network.{client_off, one_cut, cut_by, moments, is_possible, no_conn, new_client}
use Rattle.spec_wire.specs.credits.Exchange.{Line, first_line}
use Rattle.spec_commands.specs.ReplyOf.{reply_of}
use Rattle.spec_crypto.specs.declared.sessions.material.Keys.{Keys}
use Rattle.spec_world.specs.Settings.{WorldSettings, values_of}
use Rattle.spec_world.specs.Messages.{HeardMessage}
use Rattle.spec_world.specs.Ends.{ClientEnd, ServerEnd, Logons, no_keys, no_logons}
use Rattle.spec_world.specs.World.{World, Wires, with_values, server_end_off, client_end_off, off_by, one_off}
use Rattle.spec_world.specs.World.{dropped_wires, restarted_wires}
use Rattle.spec_world.specs.Events.{bytes_changed, bytes_later, no_wires, bytes_start}
use Rattle.law_ties.specs.events.Fronts.{TellsBody}
use Rattle.law_ties.specs.events.Links.{Shared, shared_of, LinkAnswers, AllAnswer, Talks, Waits, Comes, Lost, Tied, TieOf, Ties}
use Rattle.law_ties.specs.events.Links.{HasOwnKeys, IsTied}
use Rattle.law_ties.specs.events.InStep.{only_closes, AllTaken, RepliesAreTaken, TiesAreKept}

-- ---- tables

pub both_tables : (P : ℕ → Conn → Wires → Type 0) (conns : ℕ → Conn) (wires : ℕ → Wires) (k : ℕ) (d : Conn) (u : Wires) → P k d u
    → ((j : ℕ) → (j == k) ≡ false → P j (conns j) (wires j)) → (j : ℕ) → P j (put conns k d j) (put wires k u j)
both_tables P conns wires k d u here there j =
    elim (j == k) as (λ b. j == k ≡ b → P j (if b then d else conns j) (if b then u else wires j)) [
      | true ↦ λ e. subst (λ i. P i d u) (sym (eqb-true j k e)) here
      | false ↦ λ e. there j e
    ] refl

-- ---- the client's end closes

pub false_open : {X : Type 0} → false ≡ true → X
false_open e = absurd (let h : false ≡ true = e in cc)

pub client_closed : (z : WorldSettings) (op : ℕ → Op) (s : Shared) (k : ℕ) (co so : Bool) (n : ClientEnd) (f : ServerEnd)
    (up down : List (List ℕ)) (xs : List Sent) (ys : List Received) → Tied z op s k co so n f up down xs ys
    → Tied z op s k false so n f up [] xs []
client_closed z op s k co so n f up down xs ys t =
    let i = t.link in record {
      link = record {
        line = i.line;
        reached = i.reached;
        purse = i.purse;
        window = i.window;
        counted = i.counted;
        asked = i.asked;
        awaited = λ c o. false_open c;
        answers = λ c. false_open c;
        session_fits = λ c. false_open c;
        sealable = λ c. false_open c;
        keys = λ c o. false_open c;
        encrypts = λ c o. false_open c;
        greeted = λ c o. false_open c;
      };
      bound_keys = λ c b. false_open c;
      talk = λ c b. false_open c;
      purse = λ c b. false_open c;
      logon = λ c. false_open c;
      salted = t.salted;
    }

-- ---- the server's end closes

talk_lost : (z : WorldSettings) (s : Shared) (k : ℕ) (so : Bool) (n : ClientEnd) (f g : ServerEnd) (up down : List (List ℕ))
    (xs : List Sent) (ys : List Received) (l : Line) (stage : Stage) → Talks z s k so n f up down xs ys l stage
    → Talks z s k false n g [] down [] ys l stage
talk_lost z s k so n f g up down xs ys l stage (Waits b x e1 e2 e3 e4 w) = Lost refl refl e3 e4 refl
talk_lost z s k so n f g up down xs ys l stage (Lost e1 e2 e3 e4 e5) = Lost refl refl e3 e4 refl
talk_lost z s k so n f g up down xs ys l stage (Comes a y e1 e2 e3 e4 c) = Comes a y refl refl e3 e4 (record {
  heard = c.heard;
  opens = c.opens;
  alone = c.alone;
  token = c.token;
  awaits = c.awaits;
  same = c.same;
  grants_it = c.grants_it;
  credits = c.credits;
  sound = c.sound;
  ahead = λ e o. false_open o;
  lasting = c.lasting;
})

-- whatever end it is
pub server_closed : (z : WorldSettings) (op : ℕ → Op) (s : Shared) (k : ℕ) (co so : Bool) (n : ClientEnd) (f g : ServerEnd)
    (up down : List (List ℕ)) (xs : List Sent) (ys : List Received) → Tied z op s k co so n f up down xs ys
    → Tied z op s k co false n g [] down [] ys
server_closed z op s k co so n f g up down xs ys t =
    let i = t.link in record {
      link = record {
        line = i.line;
        reached = i.reached;
        purse = i.purse;
        window = λ o. false_open o;
        counted = λ o. false_open o;
        asked = λ o. false_open o;
        awaited = λ c o. false_open o;
        answers = i.answers;
        session_fits = i.session_fits;
        sealable = i.sealable;
        keys = λ c o. false_open o;
        encrypts = λ c o. false_open o;
        greeted = λ c o. false_open o;
      };
      bound_keys = t.bound_keys;
      talk = λ c b. talk_lost z s k so n f g up down xs ys i.line n.stage (t.talk c b);
      purse = t.purse;
      logon = t.logon;
      salted = λ o. false_open o;
    }

pub server_tie : (z : WorldSettings) (op : ℕ → Op) (s : Shared) (k : ℕ) (d : Conn) (u : Wires) → TieOf z op s k d u
    → TieOf z op s k (server_off d) (server_end_off u)
server_tie z op s k d u t =
    server_closed z op s k d.client_open d.server_open u.client_end u.server_end u.server_end u.up u.down d.up d.down t

pub client_tie : (z : WorldSettings) (op : ℕ → Op) (s : Shared) (k : ℕ) (d : Conn) (u : Wires) → TieOf z op s k d u
    → TieOf z op s k (client_off d) (client_end_off u)
client_tie z op s k d u t = client_closed z op s k d.client_open d.server_open u.client_end u.server_end u.up u.down d.up d.down t

-- ---- Drop and Restart

dropped_ties : (z : WorldSettings) (w : World) (k : ℕ) → IsTied z w → IsTied z (dropped_wires w k)
dropped_ties z w k i =
    let c = w.values.client in
    let conns = w.values.conns in
    let wires = w.wires in
    let d = server_off (conns k) in
    let u = server_end_off (wires k) in record {
      tied = both_tables (TieOf z c.op (shared_of c w.keys w.logons)) conns wires k d u
          (server_tie z c.op (shared_of c w.keys w.logons) k (conns k) (wires k) (i.tied k)) (λ j e. i.tied j);
      stages = both_tables (λ j p q. p.client_open ≡ true → q.client_end.stage ≡ c.stage j) conns wires k d u (i.stages k)
          (λ j e. i.stages j);
      nexts = both_tables (λ j p q. p.client_open ≡ true → q.client_end.purse.next ≡ p.next_id) conns wires k d u (i.nexts k)
          (λ j e. i.nexts j);
      own_keys = i.own_keys;
    }

restarted_ties : (z : WorldSettings) (w : World) → IsTied z w → IsTied z (restarted_wires w)
restarted_ties z w i =
    let c = w.values.client in record {
      tied = λ j. server_tie z c.op (shared_of c w.keys w.logons) j (w.values.conns j) (w.wires j) (i.tied j);
      stages = i.stages;
      nexts = i.nexts;
      own_keys = i.own_keys;
    }

-- ---- Cut

-- by whether the channel is ready, and the session ends
abbrev act_by : Bool → Bool → Act
act_by ready last = if ready && last then CloseChannels else Nothing

abbrev cut_client : Client → ℕ → Bool → Bool → Client
cut_client c k ready last = if ready then (if last then end_session c else cut_channel c k) else c

abbrev cut_values : Values → ℕ → Bool → Bool → Values
cut_values v k ready last =
    if ready then with_client (cut_by v k (act_by ready last)) (cut_client v.client k ready last)
    else one_cut (with_client v (leave_dialog v.client k)) k

abbrev cut_world : World → ℕ → Bool → Bool → World
cut_world w k ready last =
    if ready then with_values (off_by w k (act_by ready last)) (cut_values w.values k ready last)
    else with_values (one_off w k) (cut_values w.values k ready last)

one_closed : (z : WorldSettings) (c : Client) (keys : Keys) (L : Logons) (conns : ℕ → Conn) (wires : ℕ → Wires) (k : ℕ) (d : Client)
    → d.op ≡ c.op → shared_of d keys L ≡ shared_of c keys L → ((j : ℕ) → (j == k) ≡ false → d.stage j ≡ c.stage j)
    → HasOwnKeys z keys L d.rank d.accepted → Ties z c keys L conns wires
    → Ties z d keys L (put conns k (client_off (conns k))) (put wires k (client_end_off (wires k)))
one_closed z c keys L conns wires k d ops shared stages own i =
    let p = client_off (conns k) in
    let u = client_end_off (wires k) in
    let all = both_tables (TieOf z c.op (shared_of c keys L)) conns wires k p u
    (client_tie z c.op (shared_of c keys L) k (conns k) (wires k) (i.tied k)) (λ j e. i.tied j) in record {
      tied = λ j. subst (λ o. TieOf z o (shared_of d keys L) j (put conns k p j) (put wires k u j)) (sym ops)
          (subst (λ s. TieOf z c.op s j (put conns k p j) (put wires k u j)) (sym shared) (all j));
      stages = both_tables (λ j q v. q.client_open ≡ true → v.client_end.stage ≡ d.stage j) conns wires k p u (λ o. false_open o)
          (λ j e o. i.stages j o ∙ sym (stages j e));
      nexts = both_tables (λ j q v. q.client_open ≡ true → v.client_end.purse.next ≡ q.next_id) conns wires k p u (λ o. false_open o)
          (λ j e. i.nexts j);
      own_keys = own;
    }

all_closed : (z : WorldSettings) (w : World) → IsTied z w
    → Ties z (end_session w.values.client) w.keys w.logons (λ j. client_off (w.values.conns j)) (λ j. client_end_off (w.wires j))
all_closed z w i =
    let c = w.values.client in record {
      tied = λ j. client_tie z c.op (shared_of c w.keys w.logons) j (w.values.conns j) (w.wires j) (i.tied j);
      stages = λ j o. false_open o;
      nexts = λ j o. false_open o;
      own_keys = i.own_keys;
    }

pub other_stage : (stage : ℕ → Stage) (k j : ℕ) (v : Stage) → (j == k) ≡ false → put stage k v j ≡ stage j
other_stage stage k j v e = ap (λ b. if b then v else stage j) e

cut_ties : (z : WorldSettings) (w : World) (k : ℕ) (ready last : Bool) → IsTied z w → IsTied z (cut_world w k ready last)
cut_ties z w k true true i = all_closed z w i
cut_ties z w k true false i =
    let c = w.values.client in
    one_closed z c w.keys w.logons w.values.conns w.wires k (cut_channel c k) refl refl (λ j e. refl) i.own_keys i
cut_ties z w k false last i =
    let c = w.values.client in
    one_closed z c w.keys w.logons w.values.conns w.wires k (leave_dialog c k) refl refl (λ j e. other_stage c.stage k j Apart e)
    i.own_keys i

-- ---- Submit: an operation that is taken is none that a reply is of

pub put_other : {X : Type 0} (f : ℕ → X) (k : ℕ) (v : X) (q : ℕ) → q < k → put f k v q ≡ f q
put_other f k v q less = grind arith

abbrev TellsOf : Op → HeardMessage → Reply → Type 0
TellsOf op x r =
    (value_in op (reply_of (request_of op 0 0 0 0) x.header x.bytes).body ≡ value_in op r.body)
    × (id_in (reply_of (request_of op 0 0 0 0) x.header x.bytes).body ≡ id_in r.body)

body_later : (op : ℕ → Op) (g taken : ℕ) (new : Op) (x : HeardMessage) (r : Reply) (t : Token) → g ≡ taken + 1 → op_of t ≤ taken
    → TellsBody op x r t → TellsBody (put op g new) x r t
body_later op g taken new x r ForDialog e few b = b
body_later op g taken new x r (ForAttach h) e few b = b
body_later op g taken new x r (ForOp h) e few b =
    let less : h < g = omega (arith, e, few) in subst (λ o. TellsOf o x r) (sym (put_other op g new h less)) b

answer_later : (op : ℕ → Op) (g taken : ℕ) (new : Op) (keys : Keys) (encrypts : Bool) (awaited : ℕ → Option Token) (next : ℕ)
    (b : List ℕ) (y : Received) (grant : ℕ) → g ≡ taken + 1 → op_of y.token ≤ taken → LinkAnswers op keys encrypts awaited next b y grant
    → LinkAnswers (put op g new) keys encrypts awaited next b y grant
answer_later op g taken new keys encrypts awaited next b y grant e few a = record {
  heard = a.heard;
  opens = a.opens;
  awaits = a.awaits;
  below = a.below;
  same = a.same;
  body = body_later op g taken new a.heard y.reply y.token e few a.body;
  credits = a.credits;
  tree = a.tree;
}

answers_later : (op : ℕ → Op) (g taken : ℕ) (new : Op) (keys : Keys) (encrypts : Bool) (awaited : ℕ → Option Token) (next : ℕ)
    (bs : List (List ℕ)) (ys : List Received) (gs : List ℕ) → g ≡ taken + 1 → AllTaken taken ys
    → AllAnswer op keys encrypts awaited next bs ys gs → AllAnswer (put op g new) keys encrypts awaited next bs ys gs
answers_later op g taken new keys encrypts awaited next [] [] [] e few all = tt
answers_later op g taken new keys encrypts awaited next (b ∷ bs) (y ∷ ys) (h ∷ gs) e few all = (
  answer_later op g taken new keys encrypts awaited next b y h e few.0 all.0,
  answers_later op g taken new keys encrypts awaited next bs ys gs e few.1 all.1,
)
answers_later op g taken new keys encrypts awaited next [] [] (h ∷ gs) e few all = absurd all
answers_later op g taken new keys encrypts awaited next [] (y ∷ ys) gs e few all = absurd all
answers_later op g taken new keys encrypts awaited next (b ∷ bs) [] gs e few all = absurd all
answers_later op g taken new keys encrypts awaited next (b ∷ bs) (y ∷ ys) [] e few all = absurd all

taken_tie : (z : WorldSettings) (op : ℕ → Op) (g taken : ℕ) (new : Op) (s : Shared) (k : ℕ) (d : Conn) (u : Wires) → g ≡ taken + 1
    → AllTaken taken d.down → TieOf z op s k d u → TieOf z (put op g new) s k d u
taken_tie z op g taken new s k d u e few t =
    let i = t.link in
    let n = u.client_end in record {
      link = record {
        line = i.line;
        reached = i.reached;
        purse = i.purse;
        window = i.window;
        counted = i.counted;
        asked = i.asked;
        awaited = i.awaited;
        answers = λ c. answers_later op g taken new n.keys n.encrypts n.awaited n.purse.next u.down d.down i.line.grants e few
            (i.answers c);
        session_fits = i.session_fits;
        sealable = i.sealable;
        keys = i.keys;
        encrypts = i.encrypts;
        greeted = i.greeted;
      };
      bound_keys = t.bound_keys;
      talk = t.talk;
      purse = t.purse;
      logon = t.logon;
      salted = t.salted;
    }

next_number : (c : Client) (g : ℕ) (op : Op) → may_take c g op ≡ true → g ≡ c.taken + 1
next_number c g op e = eqb-true g (c.taken + 1) (first_of_two (g == c.taken + 1) (keeps_limits op
    && (is_create op || (nat_lt 0 (create_of g op) && (nat_lt (create_of g op) g && is_create (c.op (create_of g op)))))) e)
  where
    first_of_two : (a b : Bool) → (a && b) ≡ true → a ≡ true
    first_of_two true b e = refl
    first_of_two false b e = e

submit_by : (z : WorldSettings) (w : World) (g : ℕ) (op : Op) (b : Bool) → may_take w.values.client g op ≡ b → RepliesAreTaken w
    → IsTied z w
    → Ties z (if b then take_op w.values.client g op else w.values.client) w.keys w.logons w.values.conns w.wires
submit_by z w g op false is few i = i
submit_by z w g op true is few i =
    let c = w.values.client in record {
      tied = λ j. taken_tie z c.op g c.taken op (shared_of c w.keys w.logons) j (w.values.conns j) (w.wires j)
          (next_number c g op is) (few j) (i.tied j);
      stages = i.stages;
      nexts = i.nexts;
      own_keys = i.own_keys;
    }

-- ---- each of them

finish_ties : (z : WorldSettings) (w : World) (d : Client) → d.op ≡ w.values.client.op
    → shared_of d w.keys w.logons ≡ shared_of w.values.client w.keys w.logons → d.stage ≡ w.values.client.stage
    → HasOwnKeys z w.keys w.logons d.rank d.accepted → IsTied z w → Ties z d w.keys w.logons w.values.conns w.wires
finish_ties z w d ops shared stages own i = record {
  tied = λ j. subst (λ o. TieOf z o (shared_of d w.keys w.logons) j (w.values.conns j) (w.wires j)) (sym ops)
      (subst (λ s. TieOf z w.values.client.op s j (w.values.conns j) (w.wires j)) (sym shared) (i.tied j));
  stages = λ j o. i.stages j o ∙ ap (λ (f : ℕ → Stage). f j) (sym stages);
  nexts = i.nexts;
  own_keys = own;
}

changed_ties : (z : WorldSettings) (w : World) (e : Event) → only_closes e ≡ true → RepliesAreTaken w → IsTied z w
    → IsTied z (bytes_changed z w e)
changed_ties z w (Submit g op) c few i = submit_by z w g op (may_take w.values.client g op) refl few i
changed_ties z w (Cut k) c few i = cut_ties z w k (w.values.client.ready k) (ends_at_cut w.values.client) i
changed_ties z w (Drop k) c few i = dropped_ties z w k i
changed_ties z w Restart c few i = restarted_ties z w i
changed_ties z w (Crash k false) c few i = restarted_ties z w i
changed_ties z w (Wait n) c few i = i
changed_ties z w (Finish refusal) c few i =
    finish_ties z w (finish w.values.client (NoSession refusal)) refl refl refl i.own_keys i
changed_ties z w (Crash k true) c few i = false_open c
changed_ties z w (Open k) c few i = false_open c
changed_ties z w (Push k slotless pick) c few i = false_open c
changed_ties z w (Serve k) c few i = false_open c
changed_ties z w (Take k) c few i = false_open c

happens_by : (z : WorldSettings) (w v : World) (n : ℕ) (b : Bool) → IsTied z w → IsTied z v → IsTied z (if b then bytes_later v n else w)
happens_by z w v n true i j = j
happens_by z w v n false i j = i

-- ---- the opening state

no_tie : (z : WorldSettings) (op : ℕ → Op) (s : Shared) (k : ℕ) → TieOf z op s k no_conn no_wires
no_tie z op s k = record {
  link = record {
    line = first_line;
    reached = record { steps = []; is = refl };
    purse = refl;
    window = λ o. false_open o;
    counted = λ o. false_open o;
    asked = λ o. false_open o;
    awaited = λ c o. false_open o;
    answers = λ c. false_open c;
    session_fits = λ c. false_open c;
    sealable = λ c. false_open c;
    keys = λ c o. false_open o;
    encrypts = λ c o. false_open o;
    greeted = λ c o. false_open o;
  };
  bound_keys = λ c b. false_open c;
  talk = λ c b. false_open c;
  purse = λ c b. false_open c;
  logon = λ c. false_open c;
  salted = λ o. false_open o;
}

start_ties : (z : WorldSettings) → IsTied z (bytes_start z)
start_ties z =
    let v = values_of z in
    let c = new_client v.who in record {
      tied = λ k. no_tie z c.op (shared_of c no_keys no_logons) k;
      stages = λ k o. false_open o;
      nexts = λ k o. false_open o;
      own_keys = λ e. absurd (let h : 0 < 0 = e in omega (arith, h));
    }

pub ties_kept : TiesAreKept
ties_kept z = record {
  start = start_ties z;
  closing = λ w e c few i. happens_by z w (bytes_changed z w e) (moments e) (is_possible w.values e) i (changed_ties z w e c few i);
}
