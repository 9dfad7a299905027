-- What the layers below say of the front of a connection, where the server takes it.
use Rattle.law_sessions.proofs.sessions.Trees.{own_tree}
use Rattle.std.proofs.Common.{◌⊎◌, ◌≡◌, ℕ, ◌+◌, ◌≤◌, ◌<◌, ◌==◌, Bool, true, false, not, ◌&&◌, ◌||◌, if◌then◌else◌, List}
use Rattle.std.proofs.Common.{[], ◌∷◌, refl, arith, sym, subst, ◌∙◌, ap, Option, Some, None, is_some, slice_get}
use Rattle.spec_exchange.specs.Status.{success, user_session_deleted, file_closed, file_not_available, end_of_file}
use Rattle.spec_exchange.specs.Content.{is_change, is_listed}
use Rattle.spec_exchange.specs.Commands.{form}
use Rattle.spec_exchange.specs.State.{Server, Message, Answer}
use Rattle.spec_exchange.specs.Fold.{recovered_from}
use Rattle.spec_exchange.specs.CheckSetup.{tree_in, is_new}
use Rattle.spec_exchange.specs.Table.{is_at}
use Rattle.spec_exchange.specs.Check.{has_session}
use Rattle.spec_exchange.specs.Operations.{Op, is_ok, share_of, content_op, id_in, durable_of, persists}
use Rattle.spec_exchange.specs.Client.{Client, guid_for}
use Rattle.spec_exchange.specs.Network.{World, Sent, Token, ForDialog, ForOp, ForAttach, op_of, is_own, answer}
use Rattle.spec_exchange.specs.Runs.{is_send_of}
use Rattle.law_sessions.specs.messages.Connections.{Connections, create_at, makes_open}
use Rattle.law_sessions.proofs.messages.Lists.{front_up}
use Rattle.law_sessions.proofs.messages.Stays.{Beyond}
use Rattle.law_server.specs.tables.Fits.{Fits}
use Rattle.law_records.specs.recovery.Restarted.{Restarted}
use Rattle.law_sessions.specs.sessions.Sessions.{Sessions, is_ops}
use Rattle.law_creates.specs.Creates.{Creates, seen, keeps_form}
use Rattle.law_order.specs.order.Newest.{Pair, LowSequences}
use Rattle.law_order.specs.order.Contents.{Contents, is_final, lists, edits, formed, file_at}
use Rattle.law_order.proofs.order.Answers.{Facts, facts}
use Rattle.law_order.proofs.order.Calm.{aloof}
use Rattle.law_order.proofs.order.Served.{ListedFacts, listed_facts, AskedFacts, asked_facts}
use Rattle.law_order.proofs.order.Writing.{changing, writes_to, given_of}
use Rattle.law_order.proofs.order.Made.{making, creates, asks_guid, asks_share}
use Rattle.law_order.proofs.order.Requests.{asks_of, ask_reads, ask_form, create_asks, formed_none, well_formed, writes_of}
use Rattle.law_order.proofs.order.Requests.{creates_op, makes_creates, dialog_other, ask_other}
use Rattle.law_order.proofs.order.Tells.{tells}
use Rattle.law_sessions.proofs.messages.Run.{makes_one}
use Rattle.law_creates.proofs.Requests.{same_guid}
use Rattle.spec_exchange.specs.CheckCreate.{has_guid}
use Rattle.spec_exchange.specs.Texts.{same_name}
use Rattle.law_order.proofs.order.Taking.{Taking, new_acts, made_own, own_of}
use Rattle.law_order.proofs.order.Words.{ops_of, attach_of}
use Rattle.law_server.proofs.tables.Logic.{at_of, front_of}

-- what the layers below say of a world that a run leads to
pub record Lower (w : World) (a : ℕ → ℕ) : Type 0 where
  pub cn : Connections w.client w.conns a
  pub fits : Fits w.server
  pub ss : Sessions w.client w.conns w.server
  pub cr : Creates w.client w.conns (seen w.server) a
  pub beyond : Beyond w.client
  pub low : LowSequences w.server
  pub anew : Restarted w.server (recovered_from w.server w.records)
  -- on a tree of the pipes no open is had
  pub disk : (y id o : ℕ) → tree_in (w.server.trees y) id ≡ Some true → w.server.standing o ≡ false

not_making : (c : Client) (s : Server) (x k : ℕ) → ((k y : ℕ) → is_new y (s.making k) ≡ true → c.rank y ≡ 0)
    → 0 < c.rank x → is_new x (s.making k) ≡ false
not_making c s x k u r = by_test (is_new x (s.making k)) refl
  where
    by_test : (b : Bool) → is_new x (s.making k) ≡ b → is_new x (s.making k) ≡ false
    by_test true e = let z = u k x e in absurd (omega (arith, z, r))
    by_test false e = e

abbrev pub ContentsHold : World → (ℕ → ℕ) → Type 0
ContentsHold w a = Contents w.client w.conns w.server w.trace w.log a

none_or : (o : Option ℕ) → ((n : ℕ) → o ≡ Some n → ⊥) → o ≡ None
none_or None f = refl
none_or (Some n) f = absurd (f n refl)

acted_once : (a : ℕ → ℕ) (x : Sent) (A : Answer) → is_own x.token ≡ true → A.acted ≡ true
    → new_acts a x A (op_of x.token) ≡ a (op_of x.token) + 1
acted_once a x A o ac = let z = own_of x.token o in by_send (is_send_of (op_of x.token) x.token)
    (ap (is_send_of (op_of x.token)) z ∙ same_test (op_of x.token)) ac
  where
    same_test : (n : ℕ) → is_send_of n (ForOp n) ≡ true
    same_test n = grind arith

    by_send : (b : Bool) → b ≡ true → A.acted ≡ true
        → (if b && A.acted then a (op_of x.token) + 1 else a (op_of x.token)) ≡ a (op_of x.token) + 1
    by_send b e f = grind arith

pub taking : (w : World) (a : ℕ → ℕ) (k : ℕ) (x0 : Sent) (rest : List Sent) → (w.conns k).up ≡ x0 ∷ rest → Lower w a
    → ((g : ℕ) → makes_open (w.client.op g) ≡ true → new_acts a x0 (answer w x0) g ≤ 1) → ContentsHold w a
    → Taking w.client w.server w.trace x0 (answer w x0)
taking w a k x0 rest is l most i =
    record {
      steps = record {
        pair = λ x q o r le p. pf.pair x q o (not_making c s x m.connection l.ss.making_unranked r) le p;
        stands = pf.stands;
        present = λ x r p. pf.there x (not_making c s x m.connection l.ss.making_unranked r) p;
        ids = pf.ids;
        row = λ o le st. pf.row o le;
      };
      session_of_open = pf.session_of_open;
      reached = pf.reached;
      ops = λ o e. by_kind (is_ops x0.token) refl o e;
      changing = changing s w.moment m m.command l.fits l.low low_front;
      making = making s w.moment m m.command refl l.fits l.low low_front;
      given = λ o st. (l.fits.open_ids o st).1;
      attached = λ o y e. (l.fits.attached o y e).1;
      listed = λ g tk ls. listed_by g tk ls;
      well_formed = λ g tk f. well_formed (c.op g) (guid_for c g) (c.file (create_at c g)) (c.slot_of g) (c.number_of g)
          (ap form (sym (l.cn.bodies k 0 g x0 f0 tk).1) ∙ f);
      writer = λ p e. writer_by x0.token refl p e;
      creator = λ cr ac. creator_by x0.token refl cr ac;
      makes_create = λ e. let o = made_own c x0.token A e in
          ap creates (l.cn.bodies k 0 (op_of x0.token) x0 f0 (own_of x0.token o.0)).1
          ∙ makes_creates (c.op (op_of x0.token)) _ _ _ _ o.2;
      client = (l.ss.from_client k 0 x0 f0).0;
      remade = λ e. let o = made_own c x0.token A e in none_or (w.trace.open_of (op_of x0.token))
          (λ n z. absurd (let y = i.open_acted (op_of x0.token) n z in let b = most (op_of x0.token) o.2 in
          let q = acted_once a x0 A o.0 o.1 in omega (arith, y, b, q)));
      ranked = λ e. l.ss.ranked_up k 0 x0 f0 e;
      fresh = λ e j sg. l.ss.asked_fresh j k 0 x0 sg f0 e;
      upto = (l.ss.sequences_up k 0 x0 f0).1;
      files = λ q mk ok. (l.cr.file_guid q mk ok).0;
    }
  where
    c : Client
    c = w.client

    s : Server
    s = w.server

    m : Message
    m = x0.message

    A : Answer
    A = answer w x0

    f0 : slice_get (w.conns k).up 0 ≡ Some x0
    f0 = front_up (w.conns k).up x0 rest is

    low_front : x0.message.channel_sequence ≤ 32767
    low_front = (l.ss.sequences_up k 0 x0 f0).0

    pf : Facts w.server x0.message (answer w x0)
    pf = facts w.server w.moment x0.message x0.message.command (given_of w.server x0.message l.fits l.low low_front)

    session_there : has_session w.server x0.message ≡ true → w.server.present x0.message.session_id ≡ true
    session_there z = l.fits.on_present x0.message.connection x0.message.session_id
        (at_of x0.message.session_id (w.server.session_on x0.message.connection) z)

    by_kind : (b : Bool) → is_ops x0.token ≡ b → (o : ℕ) → (answer w x0).reached ≡ Some o → is_ops x0.token ≡ true
    by_kind true e o r = e
    by_kind false e o r = absurd (let z = aloof w.server w.moment x0.message x0.message.command
        (l.ss.dialog_up k 0 x0 f0 e).1 in let y = z.reached in grind arith)

    listed_by : (g : ℕ) → x0.token ≡ ForOp g → lists (w.client.op g) ≡ true → ListedFacts w.server x0.message
        (content_op (w.client.op g)) (file_at w.client g) (answer w x0)
    listed_by g tk ls =
        let b = l.cn.bodies k 0 g x0 f0 tk in let q = asks_of (w.client.op g) (guid_for w.client g)
        (w.client.file (create_at w.client g)) (w.client.slot_of g) (w.client.number_of g) ls in
        listed_facts w.server w.moment x0.message (content_op (w.client.op g)) (file_at w.client g) q.1 (b.1 ∙ q.0) b.3
        (λ z. l.ss.tree_up k 0 x0 f0 (ops_of x0.token g tk) (session_there z))
        (own_tree w.client w.conns w.server k 0 x0 (file_at w.client g) l.ss f0 (ops_of x0.token g tk)) l.low low_front

    writer_by : (t : Token) → x0.token ≡ t → (p : ℕ) → writes_to x0.message.command p ≡ true → (g : ℕ)
        × ((x0.token ≡ ForOp g) × (lists (w.client.op g) ≡ true) × (p ≡ file_at w.client g))
    writer_by ForDialog tk p e =
        absurd (let z = (dialog_other x0.message.command p (l.ss.dialog_up k 0 x0 f0 (ap is_ops tk)).1).0 in
        grind arith)
    writer_by (ForOp g) tk p e = let b = (l.cn.bodies k 0 g x0 f0 tk).1 in let q = writes_of (w.client.op g)
        (guid_for w.client g) (w.client.file (create_at w.client g)) (w.client.slot_of g) (w.client.number_of g) p
        (ap (λ x. writes_to x p) (sym b) ∙ e) in (g, (tk, q.0, q.1))
    writer_by (ForAttach g) tk p e = absurd (let z = (ask_other x0.message.command p (l.cr.ask_up k 0 g x0 f0 tk)).0 in grind arith)

    creator_by : (t : Token) → x0.token ≡ t → creates x0.message.command ≡ true → (answer w x0).acted ≡ true
        → (g : ℕ) × ((x0.token ≡ ForOp g) × (makes_open (w.client.op g) ≡ true)
        × (asks_guid x0.message.command ≡ Some (guid_for w.client g))
        × (asks_share x0.message.command ≡ share_of (w.client.op g)))
    creator_by ForDialog tk e ac =
        absurd (let z = (dialog_other x0.message.command 0 (l.ss.dialog_up k 0 x0 f0 (ap is_ops tk)).1).1 in
        grind arith)
    creator_by (ForOp g) tk e ac =
        let b = (l.cn.bodies k 0 g x0 f0 tk).1 in let q = creates_op (w.client.op g) (guid_for w.client g)
        (w.client.file (create_at w.client g)) (w.client.slot_of g) (w.client.number_of g) (ap creates (sym b) ∙ e)
        in
        (g, (tk, q.0, ap asks_guid b ∙ q.1, ap asks_share b ∙ q.2))
    creator_by (ForAttach g) tk e ac =
        absurd (let z = (ask_other x0.message.command 0 (l.cr.ask_up k 0 g x0 f0 tk)).1 e in
        let mk = making w.server w.moment x0.message x0.message.command refl l.fits l.low low_front in
        let y = mk.fresh e ac in grind arith)

-- ---- the reply that it makes: on an open connection the session is the client's

pub record Said (w : World) (a : ℕ → ℕ) (k : ℕ) (x0 : Sent) (A : Answer) : Type 0 where
  pub not_done : (p : ℕ) → x0.token ≡ ForOp p → edits (w.client.op p) ≡ true → (A.reply.status == success) ≡ false → A.acted ≡ false
  pub create_reply : (p : ℕ) → x0.token ≡ ForOp p → makes_open (w.client.op p) ≡ true → A.reply.status ≡ success
      → (A.acted ≡ true × A.reached ≡ Some (id_in A.reply.body))
      ⊎ (w.server.by_guid w.client.who.guid (guid_for w.client p) ≡ Some (id_in A.reply.body))
  pub create_pair : (p : ℕ) → x0.token ≡ ForOp p → makes_open (w.client.op p) ≡ true → Pair A.server w.client.session 0 (id_in A.reply.body)
  pub attach_reply : (p : ℕ) → x0.token ≡ ForAttach p → A.reply.status ≡ success → Pair A.server w.client.session 0 (file_at w.client p)
  pub reached : (p : ℕ) → x0.token ≡ ForOp p → edits (w.client.op p) ≡ true → formed (w.client.op p) ≡ true
      → is_final A.reply.status ≡ true → Pair A.server w.client.session x0.message.channel_sequence (file_at w.client p)
  pub closed : (p : ℕ) → x0.token ≡ ForOp p → edits (w.client.op p) ≡ true → A.reply.status ≡ file_closed
      → A.server.standing (file_at w.client p) ≡ false
  pub refused : (p : ℕ) → x0.token ≡ ForAttach p → (A.reply.status == success) ≡ false
      → (A.reply.status == user_session_deleted) ≡ false → A.server.standing (file_at w.client p) ≡ false
  pub stale : (p : ℕ) → x0.token ≡ ForOp p → edits (w.client.op p) ≡ true → A.reply.status ≡ file_not_available
      → x0.message.channel_sequence < w.client.sequence
  pub attach_status : (p : ℕ) → x0.token ≡ ForAttach p → (A.reply.status == end_of_file) ≡ false

name_self : (xs : List ℕ) → same_name xs xs ≡ true
unfolding same_name
name_self [] = refl
name_self (x ∷ xs) = let h = name_self xs in grind arith

is_test : (n m : ℕ) → n ≡ m → (n == m) ≡ true
is_test n m e = grind arith

lists_edit : (op : Op) → edits op ≡ true → lists op ≡ true
unfolding edits lists is_change is_listed
lists_edit op e = grind arith

change_edit : (op : Op) → edits op ≡ true → is_change (content_op op) ≡ true
unfolding edits
change_edit op e = e

idle_of : (A : Bool) (status : ℕ) → (A ≡ true → status ≡ success) → (status == success) ≡ false → A ≡ false
idle_of true status f e = absurd (let z = is_test status success (f refl) in grind arith)
idle_of false status f e = refl

not_standing : (b : Bool) → (b ≡ true → ⊥) → b ≡ false
not_standing true f = absurd (f refl)
not_standing false f = refl

own_session : (a : Option ℕ) (x : ℕ) → (is_some a && not (is_at x a)) ≡ true → ((y : ℕ) → a ≡ Some y → y ≡ x) → ⊥
own_session None x e f = absurd (cc)
own_session (Some y) x e f = absurd (let z = f y refl in grind arith)

guid_test : (g : ℕ) (o : Option ℕ) → o ≡ Some g → has_guid g o ≡ true
guid_test g o e = grind arith

pub said : (w : World) (a : ℕ → ℕ) (k : ℕ) (x0 : Sent) (rest : List Sent) → (w.conns k).up ≡ x0 ∷ rest
    → (w.conns k).client_open ≡ true → Lower w a → Taking w.client w.server w.trace x0 (answer w x0) → ContentsHold w a
    → Said w a k x0 (answer w x0)
said w a k x0 rest is opn l t i =
    record {
      not_done = λ p tk ed bad. let f = t.listed p tk (lists_edit (c.op p) ed) in idle_of A.acted A.reply.status (λ ac. (f.acts ac).4) bad;
      create_reply = λ p tk mk ok. told p tk mk ok;
      create_pair = λ p tk mk. subst (λ x. Pair A.server x 0 (id_in A.reply.body)) (here (ops_of x0.token p tk))
          (t.making.pair (ap creates (l.cn.bodies k 0 p x0 f0 tk).1 ∙ makes_creates (c.op p) _ _ _ _ mk));
      attach_reply = λ p tk ok. subst (λ x. Pair A.server x 0 (file_at c p)) (here (attach_of x0.token p tk))
          (λ st pr. ((asked_by p tk).attached (is_test A.reply.status success ok), omega arith));
      reached = λ p tk ed fm fin. let f = t.listed p tk (lists_edit (c.op p) ed) in
          subst (λ x. Pair A.server x x0.message.channel_sequence (file_at c p)) (here (ops_of x0.token p tk))
          (t.reached (file_at c p) (f.reached (change_edit (c.op p) ed) (ap form (l.cn.bodies k 0 p x0 f0 tk).1
          ∙ formed_none (c.op p) _ _ _ _ fm) fin)).1;
      closed = λ p tk ed st. let f = (t.listed p tk (lists_edit (c.op p) ed)).closed
          (is_test A.reply.status file_closed st) in let cp = i.copy_pair k 0 p x0 f0 tk ed in
          not_standing (A.server.standing (file_at c p)) (λ sa. f.1 sa (cp.0 (t.steps.stands (file_at c p) cp.1 sa) (there f.0)).0);
      refused = λ p tk bad del. not_standing (A.server.standing (file_at c p)) (λ sa. refused_off p tk bad del sa);
      stale = λ p tk ed st. let f = (t.listed p tk (lists_edit (c.op p) ed)).stale (is_test A.reply.status file_not_available st) in
          let le = i.session_seq (file_at c p) (live_of (ops_of x0.token p tk))
          (f.0 ∙ ap Some (here (ops_of x0.token p tk))) in let z = f.1 in omega (arith, le, z);
      attach_status = λ p tk. (asked_by p tk).end;
    }
  where
    c : Client
    c = w.client

    A : Answer
    A = answer w x0

    f0 : slice_get (w.conns k).up 0 ≡ Some x0
    f0 = front_up (w.conns k).up x0 rest is

    here : is_ops x0.token ≡ true → x0.message.session_id ≡ w.client.session
    here e = (l.ss.current_up k 0 x0 f0 e opn).1

    live_of : is_ops x0.token ≡ true → w.client.live ≡ true
    live_of e = (l.ss.current_up k 0 x0 f0 e opn).0

    there : has_session w.server x0.message ≡ true → w.server.present x0.message.session_id ≡ true
    there z = l.fits.on_present x0.message.connection x0.message.session_id
        (at_of x0.message.session_id (w.server.session_on x0.message.connection) z)

    told : (p : ℕ) → x0.token ≡ ForOp p → makes_open (w.client.op p) ≡ true → (answer w x0).reply.status ≡ success
        → ((answer w x0).acted ≡ true × (answer w x0).reached ≡ Some (id_in (answer w x0).reply.body))
        ⊎ (w.server.by_guid w.client.who.guid (guid_for w.client p) ≡ Some (id_in (answer w x0).reply.body))
    told p tk mk ok =
        let b = l.cn.bodies k 0 p x0 f0 tk in let q = create_asks (w.client.op p) (guid_for w.client p)
        (w.client.file (create_at w.client p)) (w.client.slot_of p) (w.client.number_of p) mk in
        let z = tells w.server w.moment x0.message (durable_of (guid_for w.client p) (persists (w.client.op p))) q.0
        (b.1 ∙ q.1.0) q.1.1 q.1.2 b.3 (λ y status e. l.cr.refused_status x0.message.session_id y status e) in
        subst (λ u. ((answer w x0).acted ≡ true × (answer w x0).reached ≡ Some (id_in (answer w x0).reply.body))
        ⊎ (w.server.by_guid u (guid_for w.client p) ≡ Some (id_in (answer w x0).reply.body))) b.2
        (z.tells (is_test (answer w x0).reply.status success ok))

    ok_create : (p : ℕ) → x0.token ≡ ForAttach p → makes_open (w.client.op (create_at w.client p)) ≡ true
        × is_ok (w.client.outcome (create_at w.client p)) ≡ true
    ok_create p tk =
        let e = attach_of x0.token p tk in let ab = i.token_up k 0 x0 f0 e in let o = i.opens_up k 0 x0 f0 e in
        let s = i.asked_as k 0 p x0 f0 tk in
        let above = subst (λ g. 0 < g) (ap op_of tk) ab.0 in let within = subst (λ g. g ≤ w.client.taken) (ap op_of tk)
        ab.1 in let op = subst (λ g. (makes_open (w.client.op g) || is_ok (w.client.outcome (create_at w.client g)))
        ≡ true) (ap op_of tk) o in
        ((l.cn.creates p above within s.0).2, makes_one (w.client.op p) (w.client.outcome (create_at w.client p)) op s.0)

    asked_by : (p : ℕ) → x0.token ≡ ForAttach p → AskedFacts w.server x0.message (record {
      file = file_at w.client p;
      guid = guid_for w.client (create_at w.client p);
    }) (answer w x0)
    asked_by p tk =
        let s = i.asked_as k 0 p x0 f0 tk in let o = ok_create p tk in
        let r = ask_reads (w.client.op (create_at w.client p)) (guid_for w.client (create_at w.client p))
        (file_at w.client p) o.0 in
        let kf = front_of (keeps_form (w.client.op (create_at w.client p))) _
        (l.cr.form_acted (create_at w.client p) o.0 (l.cr.ok_acted (create_at w.client p) o.0 o.1)) in
        asked_facts w.server w.moment x0.message r.0 (record {
          file = file_at w.client p;
          guid = guid_for w.client (create_at w.client p);
        }) (s.1 ∙ r.1.0) r.1.1 (l.ss.from_client k 0 x0 f0).2
        (λ z. l.ss.tree_up k 0 x0 f0 (attach_of x0.token p tk) (there z))
        (λ z st. absurd (let n = l.disk x0.message.session_id x0.message.tree_id (file_at w.client p) z in
        grind arith))
        (ap form s.1 ∙ ask_form (w.client.op (create_at w.client p)) (guid_for w.client (create_at w.client p)) (file_at w.client p) o.0 kf)

    refused_off : (p : ℕ) → x0.token ≡ ForAttach p → ((answer w x0).reply.status == success) ≡ false
        → ((answer w x0).reply.status == user_session_deleted) ≡ false → (answer w x0).server.standing
        (file_at w.client p) ≡ true → ⊥
    refused_off p tk bad del sa =
        let o = ok_create p tk in let fg = l.cr.file_guid (create_at w.client p) o.0 o.1 in let st =
        t.steps.stands (file_at w.client p) fg.0 sa in
        let us = (l.ss.open_users (file_at w.client p) st).0 in
        own_session (w.server.session_of_open (file_at w.client p)) x0.message.session_id
        ((asked_by p tk).refused bad del sa (guid_test (guid_for w.client (create_at w.client p)) _
        ((fg.1 st).1 ∙ ap Some (sym (same_guid w.client (create_at w.client p)))))
        (λ z. subst (λ u. same_name (w.server.opened (file_at w.client p)).user u ≡ true)
        (us ∙ sym (l.ss.session_users x0.message.session_id (there z)))
        (name_self (w.server.opened (file_at w.client p)).user)))
        (λ y e. let at = l.cr.attached (file_at w.client p) y e in l.ss.present_accepted y at.1 at.0
        ∙ (sym (l.ss.live_accepted (live_of (attach_of x0.token p tk))).0 ∙ sym (here (attach_of x0.token p tk))))
