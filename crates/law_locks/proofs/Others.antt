-- The server takes a message that neither locks nor closes: of a dialog, of another operation, of a create, or a DH2C.
use Rattle.std.proofs.Common.{◌≡◌, ◌≢◌, ◌⊎◌, inl, inr, ℕ, ◌+◌, ◌==◌, ◌≤◌, ◌<◌, Bool, true, false, not, ◌&&◌, List, []}
use Rattle.std.proofs.Common.{◌∷◌, Option, Some, None, is_some, refl, arith, sym, ◌∙◌, ap, subst}
use Rattle.std.proofs.lemmas.Bool.{eqb-false}
use Rattle.spec_exchange.specs.Table.{put, is_at}
use Rattle.spec_exchange.specs.Status.{success, user_session_deleted, object_name_not_found, disk_full}
use Rattle.spec_exchange.specs.Texts.{same_name}
use Rattle.spec_exchange.specs.Commands.{Command, Create, Close, CreateRequest, Durable, Reconnect, create_form, Lock, Element}
use Rattle.spec_exchange.specs.CheckSetup.{tree_in}
use Rattle.spec_exchange.specs.State.{Server, Message, Record}
use Rattle.spec_exchange.specs.Check.{check}
use Rattle.spec_exchange.specs.CheckCreate.{has_guid, refused_by}
use Rattle.spec_exchange.specs.Records.{lower_limit}
use Rattle.spec_exchange.specs.Effects.{apply, attach, attached, next_open}
use Rattle.spec_exchange.specs.Step.{without_room}
use Rattle.spec_exchange.specs.Operations.{Op, OpCreate, OpWrite, OpRead, OpEnd, OpTime, OpRename, OpRemove, OpLock}
use Rattle.spec_exchange.specs.Operations.{OpUnlock, OpFlush, OpStat, OpList, OpClose, is_ok, id_in, reconnect_of}
use Rattle.spec_exchange.specs.Operations.{create_request, durable_of}
use Rattle.spec_exchange.specs.Client.{Client, guid_for}
use Rattle.spec_exchange.specs.Network.{Conn, Sent, Received, Token, ForDialog, ForOp, ForAttach}
use Rattle.spec_exchange.specs.Runs.{is_send_of}
use Rattle.spec_exchange.specs.Verdict.{Verdict, Refuse, Give, KeepRefusal, Repeat, Attach, Make, TurnDown, Tell, Show}
use Rattle.spec_exchange.specs.Verdict.{KeepSlot, PutRanges, Alter, CloseOpen, Challenge, ChallengeBinding, Begin, Join}
use Rattle.spec_exchange.specs.Verdict.{EndSession, AddTree, DropTree}
use Rattle.law_sessions.specs.messages.Connections.{makes_open, shuts_open, create_at, its_request}
use Rattle.law_server.proofs.tables.Logic.{either, at_of, front_of}
use Rattle.law_server.proofs.tables.Doors.{recorded}
use Rattle.law_server.proofs.tables.Found.{Facts}
use Rattle.law_server.proofs.tables.Checked.{found}
use Rattle.law_sessions.specs.sessions.Sessions.{is_ops, is_dialog, logon_user}
use Rattle.law_creates.specs.Creates.{seen, named, guid_at, keeps_form}
use Rattle.law_creates.proofs.Requests.{create_asked, asks_create, asks_durable, asks_new, same_guid}
use Rattle.law_locks.specs.Locks.{Locks, locking, open_at, piped}
use Rattle.law_sessions.specs.sessions.Kinds.{TreeKinds}
use Rattle.law_locks.proofs.Calm.{Ending}
use Rattle.law_locks.proofs.Views.{make_view}
use Rattle.law_locks.proofs.Verdicts.{closes_in, is_slot_verdict}
use Rattle.law_locks.proofs.Sees.{AskSees, Deleted3, NoTree3, Gone, Other, Held, Attached, ask_sees, create_says, create_sees}
use Rattle.law_locks.proofs.Serving.{Serving, Served, counted, not_acted, not_sent, of_other, of_unmade, plain_other, quiet_serve}
use Rattle.law_locks.proofs.Say.{MaySay}

-- ---- what isn't a lock's

abbrev pub Quietly : Client → (ℕ → Conn) → Server → (ℕ → ℕ) → ℕ → Sent → ℕ → Verdict → List Record → Type 0
Quietly c conns t a k x0 now v rs =
    ((v ≡ check t x0.message) ⊎ (v ≡ without_room (check t x0.message)))
    × (lower_limit < t.journal + 35 → Ending (apply t x0.message now v).records rs)

-- a verdict that changes slots is a lock's
pub slots_of : (t : Server) (m : Message) (v : Verdict) → Facts t m v → ((o i n : ℕ) (es : List Element) → m.command
    ≡ Lock o i n es → true ≡ false) → is_slot_verdict v ≡ false
slots_of t m (KeepSlot o i n status es) f no1 = no1 o i n es f.lock.command
slots_of t m (PutRanges o i n ranges es) f no1 = no1 o i n es f.lock.command
slots_of t m (Refuse status) f no1 = refl
slots_of t m (Give body) f no1 = refl
slots_of t m (KeepRefusal guid status) f no1 = refl
slots_of t m (Repeat o r) f no1 = refl
slots_of t m (Attach o r) f no1 = refl
slots_of t m (Make r found1 action) f no1 = refl
slots_of t m (TurnDown o status) f no1 = refl
slots_of t m (Tell o body) f no1 = refl
slots_of t m (Show o last body) f no1 = refl
slots_of t m (Alter o change body) f no1 = refl
slots_of t m (CloseOpen o body) f no1 = refl
slots_of t m Challenge f no1 = refl
slots_of t m (ChallengeBinding session) f no1 = refl
slots_of t m (Begin session user previous r is_quiet) f no1 = refl
slots_of t m (Join session) f no1 = refl
slots_of t m (EndSession session is_quiet) f no1 = refl
slots_of t m (AddTree pipes) f no1 = refl
slots_of t m DropTree f no1 = refl

-- a command that neither locks nor closes
unfoldable pub is_other : Command → Bool
is_other (Lock o i n es) = false
is_other (Close o query) = false
is_other _ = true

no_lock : (x : Command) (o i n : ℕ) (es : List Element) → is_other x ≡ true → x ≡ Lock o i n es → true ≡ false
unfolding is_other
no_lock x o i n es e f = sym e ∙ ap is_other f

no_close : (x : Command) (o : ℕ) → is_other x ≡ true → closes_in x o ≡ false
unfolding is_other closes_in
no_close x o e = grind arith

pub other_keeps : (c : Client) (conns : ℕ → Conn) (t : Server) (a : ℕ → ℕ) (k : ℕ) (x0 : Sent) (now : ℕ) (v : Verdict)
    (rs : List Record) → Serving c conns t a k x0 → Quietly c conns t a k x0 now v rs → is_other x0.message.command ≡ true
    → ((p : ℕ) → locking (c.op p) ≡ true → is_send_of p x0.token ≡ false)
    → ((q : ℕ) → makes_open (c.op q) ≡ true → 1 ≤ counted a x0.token (apply t x0.message now v).acted q
    → piped c.who.share ≡ false)
    → Locks c conns (recorded (apply t x0.message now v) rs).server (counted a x0.token (apply t x0.message now v).acted)
other_keeps c conns t a k x0 now v rs w q oth unsent plain =
    let f = found t x0.message v q.0 in
    quiet_serve c conns t a k x0 now v rs (counted a x0.token (apply t x0.message now v).acted) w f
    (slots_of t x0.message v f (λ o i n es. no_lock x0.message.command o i n es oth)) q.1 plain
    (λ p m. not_sent a x0.token (apply t x0.message now v).acted p (unsent p m))
    (λ g m s0 u lv p st cl off. let n = no_close x0.message.command (open_at c g) oth in absurd (grind arith))
    (λ j n g y h e ok lv p st cl off. let n1 = no_close x0.message.command (open_at c g) oth in absurd (grind arith))

-- ---- nothing that is said of a reply

pub record Silent (c : Client) (y0 : Received) : Type 0 where
  pub unmade : (g : ℕ) → y0.token ≡ ForOp g → makes_open (c.op g) ≡ false
  pub unlocked : (g : ℕ) → y0.token ≡ ForOp g → locking (c.op g) ≡ false
  pub unshut : (g : ℕ) → y0.token ≡ ForOp g → shuts_open (c.op g) ≡ false
  pub unasked : (g : ℕ) → y0.token ≡ ForAttach g → true ≡ false

clash : (b : Bool) → b ≡ false → b ≡ true → true ≡ false
clash b e f = sym f ∙ e

pub say_nothing : (c : Client) (s : Server) (a : ℕ → ℕ) (y0 : Received) → Silent c y0 → MaySay c s a y0
say_nothing c s a y0 n =
    record {
      of_ask_down = λ g t. absurd (let x = n.unasked g t in cc);
      of_opened_reply = λ g t m. absurd (let x = clash (makes_open (c.op g)) (n.unmade g t) m in cc);
      of_join_reply = λ g t. absurd (let x = n.unasked g t in cc);
      of_joined_reply = λ g t. absurd (let x = n.unasked g t in cc);
      of_lost_reply = λ g t. absurd (let x = n.unasked g t in cc);
      of_ok_reply = λ g t m. absurd (let x = clash (locking (c.op g)) (n.unlocked g t) m in cc);
      of_no_reply = λ g t m. absurd (let x = clash (locking (c.op g)) (n.unlocked g t) m in cc);
      of_kept_reply = λ g t m. absurd (let x = clash (locking (c.op g)) (n.unlocked g t) m in cc);
      of_first_reply = λ g t m. absurd (let x = clash (locking (c.op g)) (n.unlocked g t) m in cc);
      of_close_done = λ g t m. absurd (let x = clash (shuts_open (c.op g)) (n.unshut g t) m in cc);
      of_close_full = λ g t m. absurd (let x = clash (shuts_open (c.op g)) (n.unshut g t) m in cc);
      of_close_stuck = λ g t m. absurd (let x = clash (shuts_open (c.op g)) (n.unshut g t) m in cc);
    }

-- ---- a dialog's message

dialog_other : (x : Command) → is_dialog x ≡ true → is_other x ≡ true
unfolding is_dialog is_other
dialog_other x e = grind arith

pub serves_dialog : (c : Client) (conns : ℕ → Conn) (t : Server) (a : ℕ → ℕ) (k : ℕ) (x0 : Sent) (now : ℕ) (v : Verdict)
    (rs : List Record) → Serving c conns t a k x0 → Quietly c conns t a k x0 now v rs → x0.token ≡ ForDialog
    → Served c conns a k x0 (recorded (apply t x0.message now v) rs)
serves_dialog c conns t a k x0 now v rs w q tk = (
  other_keeps c conns t a k x0 now v rs w q (dialog_other x0.message.command (w.dialog (ap is_ops tk)))
      (λ p m. ap (is_send_of p) tk) (plain_other c conns t a k x0 _ w (λ p m. ap (is_send_of p) tk)),
  λ o place. say_nothing c _ _ _ (record {
    unmade = λ g e. absurd (grind arith);
    unlocked = λ g e. absurd (grind arith);
    unshut = λ g e. absurd (grind arith);
    unasked = λ g e. absurd (grind arith);
  }),
)

-- ---- an operation that neither makes, locks nor closes

request_other : (op : Op) (guid file slot number : ℕ) → locking op ≡ false → shuts_open op ≡ false
    → is_other (its_request op guid file slot number) ≡ true
unfolding locking shuts_open is_other its_request
request_other op guid file slot number l s = grind arith

own_other : (c : Client) (conns : ℕ → Conn) (t : Server) (a : ℕ → ℕ) (k : ℕ) (x0 : Sent) (g : ℕ)
    → Serving c conns t a k x0 → x0.token ≡ ForOp g → locking (c.op g) ≡ false → shuts_open (c.op g) ≡ false
    → is_other x0.message.command ≡ true
own_other c conns t a k x0 g w tk l s = let b = w.links.bodies k 0 g x0 w.front tk in ap is_other b.1
    ∙ request_other (c.op g) (guid_for c g) (c.file (create_at c g)) (c.slot_of g) (c.number_of g) l s

unsent_other : (c : Client) (x0 : Sent) (g p : ℕ) → x0.token ≡ ForOp g → locking (c.op g) ≡ false → locking (c.op p)
    ≡ true → is_send_of p x0.token ≡ false
unsent_other c x0 g p tk l m = ap (is_send_of p) tk ∙ of_other c g p l m

same_op : (g h : ℕ) (t : Token) → t ≡ ForOp g → t ≡ ForOp h → g ≡ h
same_op g h t e f = grind arith

not_ask : (g h : ℕ) (t : Token) → t ≡ ForOp g → t ≡ ForAttach h → true ≡ false
not_ask g h t e f = absurd (grind arith)

pub serves_other : (c : Client) (conns : ℕ → Conn) (t : Server) (a : ℕ → ℕ) (k : ℕ) (x0 : Sent) (now : ℕ) (v : Verdict)
    (rs : List Record) (g : ℕ) → Serving c conns t a k x0 → Quietly c conns t a k x0 now v rs → x0.token ≡ ForOp g
    → locking (c.op g) ≡ false → shuts_open (c.op g) ≡ false → makes_open (c.op g) ≡ false
    → Served c conns a k x0 (recorded (apply t x0.message now v) rs)
serves_other c conns t a k x0 now v rs g w q tk l s m = (
  other_keeps c conns t a k x0 now v rs w q (own_other c conns t a k x0 g w tk l s)
      (λ p f. unsent_other c x0 g p tk l f) (plain_other c conns t a k x0 _ w (λ p f. ap (is_send_of p) tk
      ∙ of_unmade c g p m f)),
  λ o place. say_nothing c _ _ _ (record {
    unmade = λ h e. subst (λ z. makes_open (c.op z) ≡ false) (same_op g h x0.token tk e) m;
    unlocked = λ h e. subst (λ z. locking (c.op z) ≡ false) (same_op g h x0.token tk e) l;
    unshut = λ h e. subst (λ z. shuts_open (c.op z) ≡ false) (same_op g h x0.token tk e) s;
    unasked = λ h e. not_ask g h x0.token tk e;
  }),
)

-- ---- a create

create_unlocked : (op : Op) → makes_open op ≡ true → locking op ≡ false
unfolding makes_open locking
create_unlocked op e = grind arith

create_unshut : (op : Op) → makes_open op ≡ true → shuts_open op ≡ false
unfolding makes_open shuts_open
create_unshut op e = grind arith

attached_to : (t : Server) (m : Message) (o : ℕ) → (t.session_of_open o ≡ None)
    ⊎ (t.session_of_open o ≡ Some m.session_id) → (attached t m o).session_of_open o ≡ Some m.session_id
attached_to t m o w =
    either {X = Server} (λ u. u.session_of_open o ≡ Some m.session_id) (is_some (t.session_of_open o)) (t)
    (attach t m o) (λ s. of_some w s) (λ _. put_same t.session_of_open o (Some m.session_id))
  where
    of_some : (t.session_of_open o ≡ None) ⊎ (t.session_of_open o ≡ Some m.session_id) → is_some (t.session_of_open o)
        ≡ true → t.session_of_open o ≡ Some m.session_id
    of_some (inl n) s = absurd (grind arith)
    of_some (inr y) s = y

    put_same : (f : ℕ → Option ℕ) (o : ℕ) (x : Option ℕ) → put f o x o ≡ x
    put_same f o x = grind arith

whose_of : (t : Server) (m : Message) (o : ℕ) (P Q : Type 0) → (t.session_of_open o ≡ Some m.session_id)
    ⊎ (t.session_of_open o ≡ None × P × Q) → (t.session_of_open o ≡ None) ⊎ (t.session_of_open o ≡ Some m.session_id)
whose_of t m o P Q (inl y) = inr y
whose_of t m o P Q (inr n) = inl n.0

says_room : (v : Verdict) → create_says v ≡ true → create_says (without_room v) ≡ true
says_room (Refuse status) e = e
says_room (KeepRefusal guid status) e = e
says_room (Repeat o r) e = e
says_room (Attach o r) e = e
says_room (Make r found1 action) e = of_durable r.durable
  where
    of_durable : (u : Option Durable) → create_says (refused_by u disk_full) ≡ true
    of_durable None = refl
    of_durable (Some d) = refl
says_room (Give body) e = absurd (cc)
says_room (TurnDown o status) e = absurd (cc)
says_room (Tell o body) e = absurd (cc)
says_room (Show o last body) e = absurd (cc)
says_room (KeepSlot o i n status es) e = absurd (cc)
says_room (PutRanges o i n ranges es) e = absurd (cc)
says_room (Alter o change body) e = absurd (cc)
says_room (CloseOpen o body) e = absurd (cc)
says_room Challenge e = absurd (cc)
says_room (ChallengeBinding session) e = absurd (cc)
says_room (Begin session user previous r is_quiet) e = absurd (cc)
says_room (Join session) e = absurd (cc)
says_room (EndSession session is_quiet) e = absurd (cc)
says_room (AddTree pipes) e = absurd (cc)
says_room DropTree e = absurd (cc)

-- a success gives an open that is the session's
abbrev Gives : Server → Message → ℕ → Verdict → Type 0
Gives t m now v = (apply t m now v).reply.status ≡ success → (apply t m now v).server.session_of_open
    (id_in (apply t m now v).reply.body) ≡ Some m.session_id

no_success : (status : ℕ) (P : Type 0) → (status == success) ≡ false → status ≡ success → P
no_success status P e f = absurd (grind arith)

gives_by : (t : Server) (m : Message) (now : ℕ) (v : Verdict) → Facts t m v → create_says v ≡ true → Gives t m now v
gives_by t m now (Refuse status) f e = λ s. no_success status _ (grind arith) s
gives_by t m now (KeepRefusal guid status) f e = λ s. no_success status _ f.refused s
gives_by t m now (Repeat o r) f e = λ s. attached_to t m o (whose_of t m o _ _ f.whose)
gives_by t m now (Attach o r) f e = λ s. attached_to t m o f.whose
gives_by t m now (Make r found1 action) f e = λ s. ap (λ z. z.session_of_open (next_open t))
    (make_view t m r found1 action now) ∙ put_same t.session_of_open (next_open t) (Some m.session_id)
  where
    put_same : (g : ℕ → Option ℕ) (o : ℕ) (x : Option ℕ) → put g o x o ≡ x
    put_same g o x = grind arith
gives_by t m now (Give body) f e = absurd (cc)
gives_by t m now (TurnDown o status) f e = absurd (cc)
gives_by t m now (Tell o body) f e = absurd (cc)
gives_by t m now (Show o last body) f e = absurd (cc)
gives_by t m now (KeepSlot o i n status es) f e = absurd (cc)
gives_by t m now (PutRanges o i n ranges es) f e = absurd (cc)
gives_by t m now (Alter o change body) f e = absurd (cc)
gives_by t m now (CloseOpen o body) f e = absurd (cc)
gives_by t m now Challenge f e = absurd (cc)
gives_by t m now (ChallengeBinding session) f e = absurd (cc)
gives_by t m now (Begin session user previous r is_quiet) f e = absurd (cc)
gives_by t m now (Join session) f e = absurd (cc)
gives_by t m now (EndSession session is_quiet) f e = absurd (cc)
gives_by t m now (AddTree pipes) f e = absurd (cc)
gives_by t m now DropTree f e = absurd (cc)

says_of : (t : Server) (m : Message) (v : Verdict) → (v ≡ check t m) ⊎ (v ≡ without_room (check t m))
    → create_says (check t m) ≡ true → create_says v ≡ true
says_of t m v (inl e) h = ap create_says e ∙ h
says_of t m v (inr e) h = ap create_says e ∙ says_room (check t m) h

-- a tree is of the pipes exactly where the client's share is
plain_tree : (c : Client) (t : Server) (x id : ℕ) → TreeKinds c t → tree_in (t.trees x) id ≡ Some false → piped c.who.share ≡ false
unfolding piped
plain_tree c t x id kinds e = sym (kinds x id false e)

tree_plain : (c : Client) (t : Server) (x id : ℕ) (pipes : Bool) → TreeKinds c t → tree_in (t.trees x) id ≡ Some pipes
    → piped c.who.share ≡ false → pipes ≡ false
unfolding piped
tree_plain c t x id pipes kinds e plain = kinds x id pipes e ∙ plain

-- one that acts makes an open, on no tree of the pipes
still_count : (a : ℕ → ℕ) (tk : Token) (p n : ℕ) (acted : Bool) → acted ≡ false → 1 ≤ counted a tk acted p → 1 ≤ a p
still_count a tk p n acted e l = subst (λ z. 1 ≤ z) (not_acted a tk acted p e) l

plain_create : (c : Client) (conns : ℕ → Conn) (t : Server) (a : ℕ → ℕ) (k : ℕ) (x0 : Sent) (now : ℕ) (v : Verdict)
    → Serving c conns t a k x0 → Facts t x0.message v → create_says v ≡ true → (q : ℕ) → makes_open (c.op q) ≡ true
    → 1 ≤ counted a x0.token (apply t x0.message now v).acted q → piped c.who.share ≡ false
plain_create c conns t a k x0 now (Make r found1 action) w f e q m l = plain_tree c t x0.message.session_id
    x0.message.tree_id w.kinds f.new.create.tree
plain_create c conns t a k x0 now (Refuse status) w f e q m l = w.locks.made_plain q m (still_count a x0.token q 0 false refl l)
plain_create c conns t a k x0 now (KeepRefusal guid status) w f e q m l = w.locks.made_plain q m (still_count a x0.token q 0 false refl l)
plain_create c conns t a k x0 now (Repeat o r) w f e q m l = w.locks.made_plain q m (still_count a x0.token q 0 false refl l)
plain_create c conns t a k x0 now (Attach o r) w f e q m l = w.locks.made_plain q m (still_count a x0.token q 0 false refl l)
plain_create c conns t a k x0 now (Give body) w f e q m l = absurd (cc)
plain_create c conns t a k x0 now (TurnDown o status) w f e q m l = absurd (cc)
plain_create c conns t a k x0 now (Tell o body) w f e q m l = absurd (cc)
plain_create c conns t a k x0 now (Show o last body) w f e q m l = absurd (cc)
plain_create c conns t a k x0 now (KeepSlot o i n status es) w f e q m l = absurd (cc)
plain_create c conns t a k x0 now (PutRanges o i n ranges es) w f e q m l = absurd (cc)
plain_create c conns t a k x0 now (Alter o change body) w f e q m l = absurd (cc)
plain_create c conns t a k x0 now (CloseOpen o body) w f e q m l = absurd (cc)
plain_create c conns t a k x0 now Challenge w f e q m l = absurd (cc)
plain_create c conns t a k x0 now (ChallengeBinding session) w f e q m l = absurd (cc)
plain_create c conns t a k x0 now (Begin session user previous r is_quiet) w f e q m l = absurd (cc)
plain_create c conns t a k x0 now (Join session) w f e q m l = absurd (cc)
plain_create c conns t a k x0 now (EndSession session is_quiet) w f e q m l = absurd (cc)
plain_create c conns t a k x0 now (AddTree pipes) w f e q m l = absurd (cc)
plain_create c conns t a k x0 now DropTree w f e q m l = absurd (cc)

pub serves_create : (c : Client) (conns : ℕ → Conn) (t : Server) (a : ℕ → ℕ) (k : ℕ) (x0 : Sent) (now : ℕ) (v : Verdict)
    (rs : List Record) (g : ℕ) → Serving c conns t a k x0 → Quietly c conns t a k x0 now v rs → x0.token ≡ ForOp g
    → makes_open (c.op g) ≡ true → Served c conns a k x0 (recorded (apply t x0.message now v) rs)
serves_create c conns t a k x0 now v rs g w q tk mk =
    let l = create_unlocked (c.op g) mk in let s = create_unshut (c.op g) mk in
    let b = w.links.bodies k 0 g x0 w.front tk in
    let r = create_asked (c.op g) (guid_for c g) in
    let is : x0.message.command ≡ Create r = b.1 ∙ asks_create (c.op g) (guid_for c g) (c.file (create_at c g))
    (c.slot_of g) (c.number_of g) mk in
    let sees = create_sees t x0.message r (durable_of (guid_for c g) _) w.fault is (asks_new (c.op g) (guid_for c g) mk)
    (asks_durable (c.op g) (guid_for c g) mk) w.creates.refused_status in
    let gives = gives_by t x0.message now v (found t x0.message v q.0) (says_of t x0.message v q.0 sees) in (
      other_keeps c conns t a k x0 now v rs w q (own_other c conns t a k x0 g w tk l s)
          (λ p f. unsent_other c x0 g p tk l f) (λ p f one. plain_create c conns t a k x0 now v w
          (found t x0.message v q.0) (says_of t x0.message v q.0 sees) p f one),
      λ o place. let cur = w.current (ap is_ops tk) o in
          record {
            of_ask_down = λ h e. absurd (let x = not_ask g h x0.token tk e in cc);
            of_opened_reply = λ h e m st lv p sd. gives st ∙ ap (λ z. Some z) cur.1;
            of_join_reply = λ h e. absurd (let x = not_ask g h x0.token tk e in cc);
            of_joined_reply = λ h e. absurd (let x = not_ask g h x0.token tk e in cc);
            of_lost_reply = λ h e. absurd (let x = not_ask g h x0.token tk e in cc);
            of_ok_reply = λ h e m.
                absurd (let x = clash (locking (c.op h))
                (subst (λ z. locking (c.op z) ≡ false) (same_op g h x0.token tk e) l) m in cc);
            of_no_reply = λ h e m.
                absurd (let x = clash (locking (c.op h))
                (subst (λ z. locking (c.op z) ≡ false) (same_op g h x0.token tk e) l) m in cc);
            of_kept_reply = λ h e m.
                absurd (let x = clash (locking (c.op h))
                (subst (λ z. locking (c.op z) ≡ false) (same_op g h x0.token tk e) l) m in cc);
            of_first_reply = λ h e m.
                absurd (let x = clash (locking (c.op h))
                (subst (λ z. locking (c.op z) ≡ false) (same_op g h x0.token tk e) l) m in cc);
            of_close_done = λ h e m.
                absurd (let x = clash (shuts_open (c.op h)) (subst (λ z. shuts_open (c.op z) ≡ false)
                (same_op g h x0.token tk e) s) m in cc);
            of_close_full = λ h e m.
                absurd (let x = clash (shuts_open (c.op h)) (subst (λ z. shuts_open (c.op z) ≡ false)
                (same_op g h x0.token tk e) s) m in cc);
            of_close_stuck = λ h e m.
                absurd (let x = clash (shuts_open (c.op h)) (subst (λ z. shuts_open (c.op z) ≡ false)
                (same_op g h x0.token tk e) s) m in cc);
          },
    )

-- ---- a DH2C

unfoldable asked_again : Op → ℕ → ℕ → CreateRequest
asked_again (OpCreate path access share disposition persist directory) guid file = create_request path access share
    disposition directory None (Some (record { file = file; guid = guid }))
asked_again _ guid file = create_request [] 0 0 0 false None None

ask_request : (op : Op) (guid file : ℕ) → makes_open op ≡ true → reconnect_of op guid file ≡ Create (asked_again op guid file)
unfolding makes_open asked_again
ask_request op guid file e = grind arith

ask_reconnect : (op : Op) (guid file : ℕ) → makes_open op ≡ true → (asked_again op guid file).reconnect ≡ Some (record {
  file = file;
  guid = guid;
})
unfolding makes_open asked_again
ask_reconnect op guid file e = grind arith

ask_form : (op : Op) (guid file : ℕ) → makes_open op ≡ true → keeps_form op ≡ true → create_form (asked_again op guid file) ≡ None
unfolding makes_open asked_again keeps_form
ask_form (OpCreate path access share disposition persist directory) guid file e f = refl
ask_form (OpWrite create at bytes) guid file e f = absurd (cc)
ask_form (OpRead create at size) guid file e f = absurd (cc)
ask_form (OpEnd create size) guid file e f = absurd (cc)
ask_form (OpTime create time) guid file e f = absurd (cc)
ask_form (OpRename create path) guid file e f = absurd (cc)
ask_form (OpRemove create) guid file e f = absurd (cc)
ask_form (OpLock create at length exclusive) guid file e f = absurd (cc)
ask_form (OpUnlock create at length) guid file e f = absurd (cc)
ask_form (OpFlush create) guid file e f = absurd (cc)
ask_form (OpStat create) guid file e f = absurd (cc)
ask_form (OpList create) guid file e f = absurd (cc)
ask_form (OpClose create) guid file e f = absurd (cc)

ask_other : (op : Op) (guid file : ℕ) → is_other (reconnect_of op guid file) ≡ true
unfolding is_other
ask_other op guid file = grind arith

ask_room : (t : Server) (m : Message) (r : CreateRequest) (q : Reconnect) (v : Verdict) → AskSees t m r q v
    → AskSees t m r q (without_room v)
ask_room t m r q v Deleted3 = Deleted3
ask_room t m r q v (NoTree3 on e) = NoTree3 on e
ask_room t m r q v (Gone on e) = Gone on e
ask_room t m r q v (Other on st e) = Other on st e
ask_room t m r q v (Held on e) = Held on e
ask_room t m r q v (Attached on st e) = Attached on st e

ask_of : (t : Server) (m : Message) (r : CreateRequest) (q : Reconnect) (v : Verdict) → (v ≡ check t m)
    ⊎ (v ≡ without_room (check t m)) → AskSees t m r q (check t m) → AskSees t m r q v
ask_of t m r q v (inl e) h = subst (λ z. AskSees t m r q z) (sym e) h
ask_of t m r q v (inr e) h = subst (λ z. AskSees t m r q z) (sym e) (ask_room t m r q (check t m) h)

same_self : (xs : List ℕ) → same_name xs xs ≡ true
unfolding same_name
same_self [] = refl
same_self (x ∷ xs) = let h = same_self xs in grind arith

has_it : (g : ℕ) (u : Option ℕ) → u ≡ Some g → has_guid g u ≡ true
has_it g u e = rw e (same_number g)
  where
    same_number : (g : ℕ) → (g == g) ≡ true
    same_number g = grind arith

-- what a DH2C's reply comes to
pub record Asked (c : Client) (t : Server) (m : Message) (now g : ℕ) (v : Verdict) : Type 0 where
  pub ok : (apply t m now v).reply.status ≡ success → (apply t m now v).server.session_of_open (open_at c g)
      ≡ Some m.session_id × (apply t m now v).server.standing (open_at c g) ≡ true
  pub lost : (apply t m now v).reply.status ≢ success → (apply t m now v).reply.status ≢ user_session_deleted
      → (apply t m now v).reply.status ≡ object_name_not_found × (apply t m now v).server.standing (open_at c g) ≡ false

attached_stands : (t : Server) (m : Message) (o : ℕ) → (attached t m o).standing ≡ t.standing
attached_stands t m o = either {X = Server} (λ u. u.standing ≡ t.standing) (is_some (t.session_of_open o)) t
    (attach t m o) (λ _. refl) (λ _. refl)

free_of : (u : Option ℕ) (x : ℕ) → (is_some u && not (is_at x u)) ≡ false → (u ≡ None) ⊎ (u ≡ Some x)
free_of None x e = inl refl
free_of (Some y) x e = inr (at_of x (Some y) (grind arith))

other_at : (u : Option ℕ) (x : ℕ) → (is_some u && not (is_at x u)) ≡ true → (y : ℕ) × (u ≡ Some y × (y == x) ≡ false)
other_at None x e = absurd (cc)
other_at (Some y) x e = (y, (refl, grind arith))

asked_by : (c : Client) (conns : ℕ → Conn) (t : Server) (a : ℕ → ℕ) (k : ℕ) (x0 : Sent) (now g : ℕ) (r : CreateRequest)
    (v : Verdict) → Serving c conns t a k x0 → x0.token ≡ ForAttach g → makes_open (c.op (create_at c g)) ≡ true
    → is_ok (c.outcome (create_at c g)) ≡ true
    → AskSees t x0.message r (record { file = open_at c g; guid = guid_for c (create_at c g) }) v → Asked c t x0.message now g v
asked_by c conns t a k x0 now g r v w tk mk ok Deleted3 = record { ok = λ s. absurd (cc); lost = λ n d. absurd (d refl) }
asked_by c conns t a k x0 now g r v w tk mk ok (NoTree3 on e) = let p = w.low.fits.on_present x0.message.connection
    x0.message.session_id on in let tr = w.trees (ap is_ops tk) p in record {
      ok = λ s. absurd (cc);
      lost = λ n d. absurd (grind arith);
    }
asked_by c conns t a k x0 now g r v w tk mk ok (Gone on e) =
    let fg = w.creates.file_guid (create_at c g) mk ok in
    record {
      ok = λ s. absurd (cc);
      lost = λ n d. (
        refl,
        not_both (t.standing (open_at c g))
            (has_guid (guid_for c (create_at c g)) (t.opened (open_at c g)).create_guid) e
            (λ st. has_it (guid_for c (create_at c g)) (t.opened (open_at c g)).create_guid
            ((fg.1 st).1 ∙ ap (λ z. Some z) (sym (same_guid c (create_at c g))))),
      );
    }
  where
    not_both : (x y : Bool) → (x && y) ≡ false → (x ≡ true → y ≡ true) → x ≡ false
    not_both true y e f = sym (f refl) ∙ e
    not_both false y e f = refl
asked_by c conns t a k x0 now g r v w tk mk ok (Other on st e) =
    let fg = w.creates.file_guid (create_at c g) mk ok in let both = fg.1 st in
    let p = w.low.fits.on_present x0.message.connection x0.message.session_id on in
    let nm : named c (seen t) (create_at c g) ≡ Some (open_at c g) = subst (λ z. t.by_guid z (guid_at c (create_at c g))
    ≡ Some (open_at c g)) both.0 (w.low.fits.open_guid (open_at c g) (guid_at c (create_at c g)) st both.1) in
    let user = (w.creates.named_kind (create_at c g) (open_at c g) nm).1 in
    let mine = w.users x0.message.session_id p in
    let same : same_name (t.opened (open_at c g)).user (t.user x0.message.session_id) ≡ true =
    subst (λ z. same_name z (t.user x0.message.session_id) ≡ true) (sym user)
    (subst (λ z. same_name (logon_user c.who.logon) z ≡ true) (sym mine) (same_self (logon_user c.who.logon))) in
    record { ok = λ s. absurd (cc); lost = λ n d. absurd (grind arith) }
asked_by c conns t a k x0 now g r v w tk mk ok (Held on e) =
    let p = w.low.fits.on_present x0.message.connection x0.message.session_id on in
    let h = other_at (t.session_of_open (open_at c g)) x0.message.session_id e in
    let at1 = w.creates.attached (open_at c g) h.0 h.1.0 in
    let one = w.here h.0 at1.1 at1.0 in
    let two = w.here x0.message.session_id p (w.low.ranked_up k 0 x0 w.front (ap is_ops tk)) in
    record { ok = λ s. absurd (cc); lost = λ n d. absurd (differ h.0 x0.message.session_id h.1.1 (one ∙ sym two)) }
  where
    differ : (x y : ℕ) → (x == y) ≡ false → x ≡ y → ⊥
    differ x y e f = eqb-false x y e f
asked_by c conns t a k x0 now g r v w tk mk ok (Attached on st e) =
    record {
      ok = λ s. (
        attached_to t x0.message (open_at c g) (free_of (t.session_of_open (open_at c g))
            x0.message.session_id e),
        ap (λ z. z (open_at c g)) (attached_stands t x0.message (open_at c g)) ∙ st,
      );
      lost = λ n d. absurd (n refl);
    }

not_own : (g h : ℕ) (t : Token) → t ≡ ForAttach g → t ≡ ForOp h → true ≡ false
not_own g h t e f = absurd (grind arith)

same_ask : (g h : ℕ) (t : Token) → t ≡ ForAttach g → t ≡ ForAttach h → g ≡ h
same_ask g h t e f = grind arith

pub serves_ask : (c : Client) (conns : ℕ → Conn) (t : Server) (a : ℕ → ℕ) (k : ℕ) (x0 : Sent) (now : ℕ) (v : Verdict)
    (rs : List Record) (g : ℕ) → Serving c conns t a k x0 → Quietly c conns t a k x0 now v rs → x0.token ≡ ForAttach g
    → Served c conns a k x0 (recorded (apply t x0.message now v) rs)
serves_ask c conns t a k x0 now v rs g w q tk =
    let ad = w.locks.ask_up k 0 g x0 w.front tk in
    let cr = w.links.creates g ad.0 ad.1 ad.2 in
    let op = c.op (create_at c g) in let guid = guid_for c (create_at c g) in let file = open_at c g in
    let r = asked_again op guid file in
    let is : x0.message.command ≡ Create r = ad.4 ∙ ask_request op guid file cr.2 in
    let fm = ask_form op guid file cr.2
    (front_of (keeps_form op) _ (w.creates.form_acted (create_at c g) cr.2
    (w.creates.ok_acted (create_at c g) cr.2 ad.3))) in
    let sees = ask_of t x0.message r (record { file = file; guid = guid }) v q.0 (ask_sees t x0.message r (record {
      file = file;
      guid = guid;
    }) w.fault is (ask_reconnect op guid file cr.2) fm
    (λ pipes e. tree_plain c t x0.message.session_id x0.message.tree_id pipes w.kinds e
    (w.locks.made_plain (create_at c g) cr.2 (w.creates.ok_acted (create_at c g) cr.2 ad.3)))) in
    let says = asked_by c conns t a k x0 now g r v w tk cr.2 ad.3 sees in (
      other_keeps c conns t a k x0 now v rs w q (ap is_other ad.4 ∙ ask_other op guid file)
          (λ p f. ap (is_send_of p) tk) (plain_other c conns t a k x0 _ w (λ p f. ap (is_send_of p) tk)),
      λ o place. let cur = w.current (ap is_ops tk) o in
          record {
            of_ask_down = λ h e. subst (λ z. 0 < z × z ≤ c.taken × makes_open (c.op z) ≡ false
                × is_ok (c.outcome (create_at c z)) ≡ true) (same_ask g h x0.token tk e) (ad.0, ad.1, ad.2, ad.3);
            of_opened_reply = λ h e. absurd (let x = not_own g h x0.token tk e in cc);
            of_join_reply = λ h e st lv p sd.
                subst (λ z. (apply t x0.message now v).server.session_of_open (open_at c z) ≡ Some c.session)
                (same_ask g h x0.token tk e) ((says.ok st).0 ∙ ap (λ z. Some z) cur.1);
            of_joined_reply = λ h e st lv p off. let sd =
                subst (λ z. (apply t x0.message now v).server.standing (open_at c z) ≡ true)
                (same_ask g h x0.token tk e) (says.ok st).1 in absurd (let x = clash _ off sd in cc);
            of_lost_reply = λ h e n d. subst (λ z. (apply t x0.message now v).reply.status ≡ object_name_not_found
                × (apply t x0.message now v).server.standing (open_at c z) ≡ false) (same_ask g h x0.token tk e)
                (says.lost n d);
            of_ok_reply = λ h e. absurd (let x = not_own g h x0.token tk e in cc);
            of_no_reply = λ h e. absurd (let x = not_own g h x0.token tk e in cc);
            of_kept_reply = λ h e. absurd (let x = not_own g h x0.token tk e in cc);
            of_first_reply = λ h e. absurd (let x = not_own g h x0.token tk e in cc);
            of_close_done = λ h e. absurd (let x = not_own g h x0.token tk e in cc);
            of_close_full = λ h e. absurd (let x = not_own g h x0.token tk e in cc);
            of_close_stuck = λ h e. absurd (let x = not_own g h x0.token tk e in cc);
          },
    )
