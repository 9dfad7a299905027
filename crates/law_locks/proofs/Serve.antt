-- The server takes the front of a connection.
use Rattle.law_sessions.proofs.sessions.Trees.{before_tied, own_tree}
use Rattle.std.proofs.Common.{◌≡◌, inl, inr, ℕ, ◌+◌, ◌<◌, Bool, true, false, List, [], ◌++◌, Some, slice_get, is_some}
use Rattle.std.proofs.Common.{refl, arith, sym, ◌∙◌, ap, subst}
use Rattle.spec_exchange.specs.Commands.{Command, Aside, Unreadable, Setup, Logoff, TreeConnect, TreeDisconnect, Create}
use Rattle.spec_exchange.specs.Commands.{Close, Flush, Read, Write, Lock, Ioctl, ListDirectory, QueryFile, QueryVolume}
use Rattle.spec_exchange.specs.Commands.{SetInfo}
use Rattle.spec_exchange.specs.Texts.{same_name}
use Rattle.spec_exchange.specs.State.{Server, Heard, Answer, Record}
use Rattle.spec_exchange.specs.CheckSetup.{tree_in, pipes_name}
use Rattle.spec_exchange.specs.Check.{check}
use Rattle.spec_exchange.specs.Records.{lower_limit, fits}
use Rattle.spec_exchange.specs.Effects.{apply}
use Rattle.spec_exchange.specs.Verdict.{Verdict}
use Rattle.spec_exchange.specs.Step.{step, with_deadlines, without_room}
use Rattle.spec_exchange.specs.Operations.{Op, reconnect_of}
use Rattle.spec_exchange.specs.Client.{Client}
use Rattle.spec_exchange.specs.Network.{Conn, Sent, Token, ForDialog, ForOp, ForAttach, answer_to, untouched}
use Rattle.law_sessions.specs.messages.Connections.{Connections, makes_open, shuts_open, create_at, its_request}
use Rattle.law_server.specs.tables.Fits.{Fits, Limit}
use Rattle.law_server.proofs.tables.Doors.{recorded, Before}
use Rattle.law_sessions.specs.sessions.Sessions.{Sessions, logon_user}
use Rattle.law_sessions.specs.sessions.Kinds.{TreeKinds}
use Rattle.law_creates.specs.Creates.{Creates, seen}
use Rattle.law_creates.proofs.Requests.{same_guid}
use Rattle.law_creates.proofs.Seeing.{expire_seen}
use Rattle.law_creates.proofs.ExpireBy.{expire_by_creates}
use Rattle.law_creates.proofs.Facing.{Rest, rest, expire_rest}
use Rattle.law_locks.specs.Locks.{Locks, locking, open_at}
use Rattle.law_locks.proofs.Views.{expire_view}
use Rattle.law_locks.proofs.Rooms.{by_room, InFront}
use Rattle.law_locks.proofs.Calm.{Ending}
use Rattle.law_locks.proofs.Steady.{ends_of, big_apply}
use Rattle.law_locks.proofs.Facing.{Lower, before_keeps}
use Rattle.law_locks.proofs.Serving.{Serving, Served, counted, not_acted, bare_full}
use Rattle.law_locks.proofs.Others.{say_nothing, serves_dialog, serves_other, serves_create, serves_ask}
use Rattle.law_locks.proofs.Sees.{lock_sees, close_sees, CloseSees, LockSees}
use Rattle.law_locks.proofs.Locking.{lock_fits, lock_full, copy_of as lock_copy, lock_formed, elements_in}
use Rattle.law_locks.proofs.Closing.{close_fits, close_full, copy_of as close_copy}

-- what the layers below say of the world
pub record Under (c : Client) (conns : ℕ → Conn) (s : Server) (a : ℕ → ℕ) : Type 0 where
  pub links : Connections c conns a
  pub sessions : Sessions c conns s
  pub kinds : TreeKinds c s
  pub creates : Creates c conns (seen s) a
  pub fits : Fits s

pub lower_of : (c : Client) (conns : ℕ → Conn) (s : Server) (a : ℕ → ℕ) → Under c conns s a → Lower c conns s
lower_of c conns s a u =
    record {
      given = λ q m ok. (u.creates.file_guid q m ok).0;
      reply_given = λ j n g y h t m ok. (u.creates.reply_guid j n g y h t m ok).0;
      ranked_up = u.sessions.ranked_up;
      unranked = λ j x h. u.sessions.making_unranked j x h;
      lives = λ l. let x = u.sessions.live_accepted l in subst (λ z. 0 < c.rank z) (sym x.0) x.1;
      attached = λ o y h. let x = u.fits.attached o y h in ((u.fits.open_ids o x.0).1, x.1);
      named_given = λ q o h. u.creates.named_given q o (subst (λ z. s.by_guid c.who.guid z ≡ Some o) (same_guid c q) h);
      fits = u.fits;
    }

-- ---- the state that the checks see

creates_before : (c : Client) (conns : ℕ → Conn) (a : ℕ → ℕ) (s : Server) (now : ℕ) (t : Server)
    → Creates c conns (seen s) a → Before s now t → Creates c conns (seen t) a
creates_before c conns a s now t i (inl e) = subst (λ u. Creates c conns (seen u) a) (sym e) i
creates_before c conns a s now t i (inr x) =
    let d = with_deadlines s now in
    subst (λ u. Creates c conns (seen u) a) (sym x.2) (subst (λ v. Creates c conns v a) (sym (expire_seen d x.0))
    (expire_by_creates c conns (seen d) a x.0 (d.opened x.0).create_guid refl i))

rest_before : (s : Server) (now : ℕ) (t : Server) → Before s now t → rest t ≡ rest s
rest_before s now t (inl e) = ap rest e
rest_before s now t (inr x) = ap rest x.2 ∙ expire_rest (with_deadlines s now) x.0

pub journal_before : (s : Server) (now : ℕ) (t : Server) → Before s now t → t.journal ≡ (with_deadlines s now).journal
journal_before s now t (inl e) = ap (λ z. z.journal) e
journal_before s now t (inr x) = ap (λ z. z.journal) x.2 ∙ ap (λ z. z.journal) (expire_view (with_deadlines s now) x.0)

serving_at : (c : Client) (conns : ℕ → Conn) (s : Server) (a : ℕ → ℕ) (k : ℕ) (x0 : Sent) (now : ℕ) (t : Server)
    → Under c conns s a → Locks c conns s a → slice_get (conns k).up 0 ≡ Some x0 → Before s now t
    → (lower_limit < s.journal + 35 → InFront s now t) → Serving c conns t a k x0
serving_at c conns s a k x0 now t u i front b full =
    let x = before_keeps c conns s a now t b full (lower_of c conns s a u) u.links i in
    let r : rest t ≡ rest s = rest_before s now t b in
    let fc = u.sessions.from_client k 0 x0 front in
    record {
      front = front;
      links = u.links;
      creates = creates_before c conns a s now t u.creates b;
      low = x.0;
      locks = x.1;
      fault = fc.2;
      here = λ y p. u.sessions.present_accepted y (subst (λ (z : Rest). z.present y ≡ true) r p);
      lives = λ l. let y = u.sessions.live_accepted l in (y.0, y.1);
      current = λ o p. u.sessions.current_up k 0 x0 front o p;
      users = λ y p. subst (λ (z : Rest). z.present y ≡ true → z.user y ≡ logon_user c.who.logon) (sym r) (u.sessions.session_users y) p;
      trees = λ o. subst (λ (z : Rest). z.present x0.message.session_id ≡ true
          → is_some (tree_in (z.trees x0.message.session_id) x0.message.tree_id) ≡ true) (sym r)
          (u.sessions.tree_up k 0 x0 front o);
      own_tree = λ ops o at. let q = before_tied s now t b o x0.message.session_id at in
          q.1 ∙ own_tree c conns s k 0 x0 o u.sessions front ops q.0;
      kinds = subst (λ (z : Rest). (y n : ℕ) (p : Bool) → tree_in (z.trees y) n ≡ Some p → p
          ≡ same_name c.who.share pipes_name) (sym r) u.kinds;
      dialog = λ o. (u.sessions.dialog_up k 0 x0 front o).1;
      work = λ o. u.sessions.work_up k 0 x0 front o;
    }

-- ---- where the records fit

by_lock : (c : Client) (conns : ℕ → Conn) (a : ℕ → ℕ) (k g : ℕ) (x0 : Sent) (A : Answer)
    → (locking (c.op g) ≡ true → Served c conns a k x0 A) → (locking (c.op g) ≡ false → shuts_open (c.op g) ≡ true
    → Served c conns a k x0 A)
    → (makes_open (c.op g) ≡ true → Served c conns a k x0 A) → (locking (c.op g) ≡ false → shuts_open (c.op g) ≡ false
    → makes_open (c.op g) ≡ false → Served c conns a k x0 A) → Served c conns a k x0 A
by_lock c conns a k g x0 A f1 f2 f3 f4 = by_kinds (locking (c.op g)) (shuts_open (c.op g)) (makes_open (c.op g)) refl refl refl
  where
    by_kinds : (l s m : Bool) → locking (c.op g) ≡ l → shuts_open (c.op g) ≡ s → makes_open (c.op g) ≡ m → Served c conns a k x0 A
    by_kinds true s m e f h = f1 e
    by_kinds false true m e f h = f2 e f
    by_kinds false false true e f h = f3 h
    by_kinds false false false e f h = f4 e f h

fitting : (c : Client) (conns : ℕ → Conn) (s : Server) (a : ℕ → ℕ) (k : ℕ) (x0 : Sent) (now : ℕ) (t : Server)
    (v : Verdict) (front : List Record) → Serving c conns t a k x0 → Before s now t → Limit s → v ≡ check t x0.message
    → fits (with_deadlines s now) (front ++ (apply t x0.message now v).records) ≡ true
    → (tk : Token) → x0.token ≡ tk
    → Served c conns a k x0 (recorded (apply t x0.message now v) (front ++ (apply t x0.message now v).records))
fitting c conns s a k x0 now t v front w b whole is room tk e =
    by_token tk e
  where
    same : t.journal ≡ (with_deadlines s now).journal
    same = journal_before s now t b

    bare : lower_limit < t.journal + 35 → Ending (apply t x0.message now v).records (front ++ (apply t x0.message now v).records)
    bare big = ends_of (with_deadlines s now) front (apply t x0.message now v).records whole (big_apply t x0.message now v)
        room (subst (λ z. lower_limit < z + 35) same big)

    by_token : (tk : Token) → x0.token ≡ tk
        → Served c conns a k x0 (recorded (apply t x0.message now v) (front ++ (apply t x0.message now v).records))
    by_token ForDialog e = serves_dialog c conns t a k x0 now v _ w (inl is, bare) e
    by_token (ForAttach g) e = serves_ask c conns t a k x0 now v _ g w (inl is, bare) e
    by_token (ForOp g) e =
        by_lock c conns a k g x0 (recorded (apply t x0.message now v) (front ++ (apply t x0.message now v).records))
        (λ l. let y = lock_copy c conns t a k g x0 w e l in lock_fits c conns (with_deadlines s now) t a k g x0 now
        front v y whole same is room
        (subst (λ z. LockSees t x0.message (open_at c g) (c.slot_of g) (c.number_of g) (elements_in (c.op g)) z)
        (sym is) (lock_sees t x0.message (open_at c g) (c.slot_of g) (c.number_of g) (elements_in (c.op g)) w.fault
        y.command (lock_formed (c.op g) l) y.slot)))
        (λ l sh. let y = close_copy c conns t a k g x0 w e sh in close_fits c conns (with_deadlines s now) t a k g x0
        now front v y whole same is room (subst (λ z. CloseSees t x0.message (open_at c g) z) (sym is)
        (close_sees t x0.message (open_at c g) w.fault y.command)))
        (λ m. serves_create c conns t a k x0 now v _ g w (inl is, bare) e m)
        (λ l sh m. serves_other c conns t a k x0 now v _ g w (inl is, bare) e l sh m)

full : (c : Client) (conns : ℕ → Conn) (s : Server) (a : ℕ → ℕ) (k : ℕ) (x0 : Sent) (now : ℕ) (v : Verdict)
    → Serving c conns (with_deadlines s now) a k x0 → v ≡ without_room (check (with_deadlines s now) x0.message)
    → fits (with_deadlines s now) (apply (with_deadlines s now) x0.message now
    (check (with_deadlines s now) x0.message)).records ≡ false
    → (tk : Token) → x0.token ≡ tk → Served c conns a k x0 (recorded (apply (with_deadlines s now) x0.message now v)
    (apply (with_deadlines s now) x0.message now v).records)
full c conns s a k x0 now v w is room tk e = by_token tk e
  where
    bare : lower_limit < (with_deadlines s now).journal + 35 → Ending (apply (with_deadlines s now) x0.message now v).records
        (apply (with_deadlines s now) x0.message now v).records
    bare big = inl (subst (λ z. (apply (with_deadlines s now) x0.message now z).records ≡ []) (sym is)
        (bare_full (with_deadlines s now) x0.message now (check (with_deadlines s now) x0.message)))

    by_token : (tk : Token) → x0.token ≡ tk
        → Served c conns a k x0 (recorded (apply (with_deadlines s now) x0.message now v)
        (apply (with_deadlines s now) x0.message now v).records)
    by_token ForDialog e = serves_dialog c conns (with_deadlines s now) a k x0 now v _ w (inr is, bare) e
    by_token (ForAttach g) e = serves_ask c conns (with_deadlines s now) a k x0 now v _ g w (inr is, bare) e
    by_token (ForOp g) e =
        let d = with_deadlines s now in
        by_lock c conns a k g x0 (recorded (apply d x0.message now v) (apply d x0.message now v).records)
        (λ l. let y = lock_copy c conns d a k g x0 w e l in lock_full c conns d a k g x0 now (check d x0.message) v y
        refl is room (lock_sees d x0.message (open_at c g) (c.slot_of g) (c.number_of g) (elements_in (c.op g))
        w.fault y.command (lock_formed (c.op g) l) y.slot))
        (λ l sh. let y = close_copy c conns d a k g x0 w e sh in close_full c conns d a k g x0 now (check d x0.message)
        v y refl is room (close_sees d x0.message (open_at c g) w.fault y.command))
        (λ m. serves_create c conns d a k x0 now v _ g w (inr is, bare) e m)
        (λ l sh m. serves_other c conns d a k x0 now v _ g w (inr is, bare) e l sh m)

heard_served : (c : Client) (conns : ℕ → Conn) (s : Server) (a : ℕ → ℕ) (k : ℕ) (x0 : Sent) (now : ℕ)
    → Under c conns s a → Locks c conns s a → slice_get (conns k).up 0 ≡ Some x0
    → Served c conns a k x0 (step s now (Heard x0.message))
heard_served c conns s a k x0 now u i front =
    by_room (λ A. Served c conns a k x0 A) s now x0.message u.fits.limit
    (λ t v fr b fl is room. fitting c conns s a k x0 now t v fr (serving_at c conns s a k x0 now t u i front b fl) b u.fits.limit is room x0.token refl)
    (λ v is room. full c conns s a k x0 now v (serving_at c conns s a k x0 now (with_deadlines s now) u i front
    (inl refl) (λ _. inl refl)) is room x0.token refl)

-- ---- NEGOTIATE and ECHO

no_request : (op : Op) (guid file slot number status : ℕ) → its_request op guid file slot number ≡ Aside status → true ≡ false
unfolding its_request
no_request op guid file slot number status e = absurd (grind arith)

no_ask : (op : Op) (guid file status : ℕ) → makes_open op ≡ true → reconnect_of op guid file ≡ Aside status → true ≡ false
unfolding makes_open
no_ask op guid file status m e = absurd (grind arith)

aside_served : (c : Client) (conns : ℕ → Conn) (s : Server) (a : ℕ → ℕ) (k : ℕ) (x0 : Sent) (status : ℕ)
    → Under c conns s a → Locks c conns s a → slice_get (conns k).up 0 ≡ Some x0 → x0.message.command ≡ Aside status
    → Served c conns a k x0 (untouched s x0.message status)
aside_served c conns s a k x0 status u i front e = (
  subst (λ b. Locks c conns s b) (sym (same a x0.token)) i,
  λ o place. say_nothing c _ _ _ (record {
    unmade = λ g t. absurd (let x = own g t in cc);
    unlocked = λ g t. absurd (let x = own g t in cc);
    unshut = λ g t. absurd (let x = own g t in cc);
    unasked = λ g t. let ad = i.ask_up k 0 g x0 front t in let cr = u.links.creates g ad.0 ad.1 ad.2 in
        no_ask (c.op (create_at c g)) _ _ status cr.2 (sym ad.4 ∙ e);
  }),
)
  where
    same : (a : ℕ → ℕ) (tk : Token) → counted a tk false ≡ a
    same a tk = λ z h. not_acted a tk false h refl z

    own : (g : ℕ) → x0.token ≡ ForOp g → true ≡ false
    own g t = let b = u.links.bodies k 0 g x0 front t in no_request (c.op g) _ _ _ _ status (sym b.1 ∙ e)

pub served : (c : Client) (conns : ℕ → Conn) (s : Server) (a : ℕ → ℕ) (k : ℕ) (x0 : Sent) (now : ℕ) → Under c conns s a
    → Locks c conns s a → slice_get (conns k).up 0 ≡ Some x0 → (b : Command) → x0.message.command ≡ b
    → Served c conns a k x0 (answer_to s now x0.message b)
served c conns s a k x0 now u i front (Aside status) e = aside_served c conns s a k x0 status u i front e
served c conns s a k x0 now u i front (Unreadable status) e = heard_served c conns s a k x0 now u i front
served c conns s a k x0 now u i front (Setup request) e = heard_served c conns s a k x0 now u i front
served c conns s a k x0 now u i front Logoff e = heard_served c conns s a k x0 now u i front
served c conns s a k x0 now u i front (TreeConnect share) e = heard_served c conns s a k x0 now u i front
served c conns s a k x0 now u i front TreeDisconnect e = heard_served c conns s a k x0 now u i front
served c conns s a k x0 now u i front (Create request) e = heard_served c conns s a k x0 now u i front
served c conns s a k x0 now u i front (Close file query) e = heard_served c conns s a k x0 now u i front
served c conns s a k x0 now u i front (Flush file) e = heard_served c conns s a k x0 now u i front
served c conns s a k x0 now u i front (Read file at size minimum channel) e = heard_served c conns s a k x0 now u i front
served c conns s a k x0 now u i front (Write file at bytes channel) e = heard_served c conns s a k x0 now u i front
served c conns s a k x0 now u i front (Lock file index number elements) e = heard_served c conns s a k x0 now u i front
served c conns s a k x0 now u i front (Ioctl file code room) e = heard_served c conns s a k x0 now u i front
served c conns s a k x0 now u i front (ListDirectory file class restart single pattern room) e = heard_served c conns s a k x0 now u i front
served c conns s a k x0 now u i front (QueryFile file class room) e = heard_served c conns s a k x0 now u i front
served c conns s a k x0 now u i front (QueryVolume file class room) e = heard_served c conns s a k x0 now u i front
served c conns s a k x0 now u i front (SetInfo file setting) e = heard_served c conns s a k x0 now u i front
