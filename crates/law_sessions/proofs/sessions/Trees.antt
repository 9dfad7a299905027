-- Of which session and tree each attached open is, behind an answer of the server.
use Rattle.std.proofs.Common.{◌≡◌, ◌⊎◌, inl, inr, ℕ, ◌<◌, ◌==◌, Bool, true, false, refl, arith, sym, subst, ◌∙◌, ap}
use Rattle.std.proofs.Common.{List, Option, Some, None, is_some, slice_get}
use Rattle.spec_exchange.specs.Table.{put, put2}
use Rattle.spec_exchange.specs.Status.{success}
use Rattle.spec_exchange.specs.Commands.{Command, Unreadable, Aside, Setup, Logoff, TreeConnect, TreeDisconnect, Create, Close}
use Rattle.spec_exchange.specs.Commands.{Flush, Read, Write, Lock, Ioctl, ListDirectory, QueryFile, QueryVolume, SetInfo, CreateRequest}
use Rattle.spec_exchange.specs.State.{Server, Message, Heard}
use Rattle.spec_exchange.specs.Files.{empty_file}
use Rattle.spec_exchange.specs.Files.{file_attributes}
use Rattle.spec_exchange.specs.Opens.{leave_open}
use Rattle.spec_exchange.specs.CheckCreate.{empties}
use Rattle.spec_exchange.specs.CheckOpen.{is_late, is_slot, file_of}
use Rattle.spec_exchange.specs.Verdict.{Verdict, Refuse, Give, KeepRefusal, Repeat, Attach, Make, TurnDown, Tell, Show}
use Rattle.spec_exchange.specs.Verdict.{KeepSlot, PutRanges, Alter, CloseOpen, Challenge, ChallengeBinding, Begin, Join}
use Rattle.spec_exchange.specs.Verdict.{EndSession, AddTree, DropTree, Change, PutBytes, PutEnd, PutBasic, PutDeletePending}
use Rattle.spec_exchange.specs.Verdict.{PutPath, PutNothing}
use Rattle.spec_exchange.specs.Effects.{apply, reach, attach, attached, file_made, make_open, next_open, keep_slot, set_ranges, change_file}
use Rattle.spec_exchange.specs.Effects.{keep_closed, cleared, end_if_named, opens_of_tree, close_all}
use Rattle.spec_exchange.specs.Step.{step, with_deadlines, expire, add_expired_guid}
use Rattle.spec_exchange.specs.Client.{Client}
use Rattle.spec_exchange.specs.Network.{Conn, Sent, answer_to}
use Rattle.law_server.specs.tables.Fits.{OnPresent}
use Rattle.law_server.proofs.tables.Logic.{either}
use Rattle.law_server.proofs.tables.Doors.{by_verdict, Before, recorded}
use Rattle.law_server.proofs.tables.Found.{Facts}
use Rattle.law_server.proofs.tables.Checked.{found}
use Rattle.law_server.proofs.tables.Closing.{left_beside, left_fewer, closed_beside, closed_fewer}
use Rattle.law_sessions.specs.sessions.Sessions.{Sessions, is_dialog, is_ops, OpenTrees, SentTrees, RankedUp, PresentAccepted, DialogUp}

-- an attached open was attached before, under the same tree
abbrev pub Tied : Server → Server → Type 0
Tied s t = (o x : ℕ) → t.session_of_open o ≡ Some x → (s.session_of_open o ≡ Some x) × (t.tree_of_open o ≡ s.tree_of_open o)

-- or it is so since this message, of its session and tree
pub record Newly (s : Server) (m : Message) (t : Server) (o x : ℕ) : Type 0 where
  pub own : x ≡ m.session_id
  pub on : s.session_on m.connection ≡ Some m.session_id
  pub tree : t.tree_of_open o ≡ m.tree_id
  pub works : is_dialog m.command ≡ false

abbrev pub Ties : Server → Message → Server → Type 0
Ties s m t = (o x : ℕ) → t.session_of_open o ≡ Some x
    → ((s.session_of_open o ≡ Some x) × (t.tree_of_open o ≡ s.tree_of_open o)) ⊎ Newly s m t o x

pub tied_so : (s t u : Server) → Tied s t → Tied t u → Tied s u
tied_so s t u a b o x h = let q = b o x h in let p = a o x q.0 in (p.0, q.1 ∙ p.1)

ties : (s : Server) (m : Message) (t : Server) → Tied s t → Ties s m t
ties s m t a o x h = inl (a o x h)

same_tied : (s t : Server) → t.session_of_open ≡ s.session_of_open → t.tree_of_open ≡ s.tree_of_open → Tied s t
same_tied s t a b o x h = (ap (λ (f : ℕ → Option ℕ). f o) (sym a) ∙ h, ap (λ (f : ℕ → ℕ). f o) b)

-- ---- each effect

reach_tied : (s : Server) (m : Message) (o : ℕ) → Tied s (reach s m o)
reach_tied s m o = either (λ t. Tied s t) (is_late s m o) s (record s { sequence = put s.sequence o m.channel_sequence })
    (λ _ p x h. (h, refl)) (λ _ p x h. (h, refl))

slot_tied : (s : Server) (o index number status : ℕ) → Tied s (keep_slot s o index number status)
slot_tied s o index number status = either (λ t. Tied s t) (is_slot index) (record s {
  lock_sequences = put2 s.lock_sequences o index (Some (record { number = number; status = status }));
}) s (λ _ p x h. (h, refl)) (λ _ p x h. (h, refl))

change_tied : (s : Server) (f now : ℕ) (change : Change) → Tied s (change_file s f now change)
change_tied s f now (PutBytes at bytes) p x h = (h, refl)
change_tied s f now (PutEnd size) p x h = (h, refl)
change_tied s f now (PutBasic basic) p x h = (h, refl)
change_tied s f now (PutDeletePending flag) p x h = (h, refl)
change_tied s f now (PutPath replaced path) p x h = (h, refl)
change_tied s f now PutNothing p x h = (h, refl)

closed_tied : (s : Server) (session : ℕ) (guid : Option ℕ) → Tied s (keep_closed s session guid)
closed_tied s session None p x h = (h, refl)
closed_tied s session (Some g) p x h = (h, refl)

left_tied : (s : Server) (o : ℕ) → Tied s (leave_open s o)
left_tied s o p x h = ((left_fewer s o).session_of_open p x h, ap (λ (f : ℕ → ℕ). f p) (left_beside s o).tree_of_open)

dropped_tied : (s : Server) (session : ℕ) (os : List ℕ) (t : Server)
    → t.session_of_open ≡ (close_all s session os).session_of_open
    → t.tree_of_open ≡ (close_all s session os).tree_of_open → Tied s t
dropped_tied s session os t a b p x h = (
  (closed_fewer s session os).session_of_open p x (ap (λ (f : ℕ → Option ℕ). f p) (sym a) ∙ h),
  ap (λ (f : ℕ → ℕ). f p) (b ∙ (closed_beside s session os).tree_of_open),
)

uncleared : (session x : ℕ) (at : Option ℕ) → cleared session at ≡ Some x → at ≡ Some x
uncleared session x None e = absurd (cc)
uncleared session x (Some y) e = grind arith

pub named_tied : (s : Server) (now : ℕ) (named : Option ℕ) (is_quiet : Bool) → Tied s (end_if_named s now named is_quiet)
named_tied s now None is_quiet p x h = (h, refl)
named_tied s now (Some session) is_quiet p x h = (uncleared session x (s.session_of_open p) h, refl)

-- ---- an open that is attached, or made

pub attach_ties : (s : Server) (m : Message) (o : ℕ) → s.session_on m.connection ≡ Some m.session_id → is_dialog m.command ≡ false
    → Ties s m (attach s m o)
attach_ties s m o on works p x h =
    elim (p == o) as (λ b. p == o ≡ b
    → ((s.session_of_open p ≡ Some x) × (put s.tree_of_open o m.tree_id p ≡ s.tree_of_open p)) ⊎ Newly s m (attach s m o) p x) [
      | true ↦ λ e. inr (record { own = own e; on = on; tree = tree e; works = works })
      | false ↦ λ e. inl (old e, kept e)
    ] refl
  where
    own : (p == o) ≡ true → x ≡ m.session_id
    own e = grind arith

    tree : (p == o) ≡ true → put s.tree_of_open o m.tree_id p ≡ m.tree_id
    tree e = grind arith

    old : (p == o) ≡ false → s.session_of_open p ≡ Some x
    old e = grind arith

    kept : (p == o) ≡ false → put s.tree_of_open o m.tree_id p ≡ s.tree_of_open p
    kept e = grind arith

attached_ties : (s : Server) (m : Message) (o : ℕ) → s.session_on m.connection ≡ Some m.session_id → is_dialog m.command ≡ false
    → Ties s m (attached s m o)
attached_ties s m o on works = either (λ t. Ties s m t) (is_some (s.session_of_open o)) s (attach s m o)
    (λ _ p x h. inl (h, refl)) (λ _. attach_ties s m o on works)

file_same : (s : Server) (r : CreateRequest) (found : Option ℕ) (now : ℕ) → (file_made s r found now).session_of_open ≡ s.session_of_open
file_same s r None now = refl
file_same s r (Some f) now = either (λ (t : Server). t.session_of_open ≡ s.session_of_open) (empties r.disposition)
    (empty_file s f (file_attributes r.attributes) now) s (λ _. refl) (λ _. refl)

-- an open of this number is new, of this session and tree
new_ties : (s : Server) (m : Message) (n : ℕ) (t : Server) (before : ℕ → Option ℕ) → before ≡ s.session_of_open
    → t.session_of_open ≡ put before n (Some m.session_id) → t.tree_of_open ≡ put s.tree_of_open n m.tree_id
    → s.session_on m.connection ≡ Some m.session_id → is_dialog m.command ≡ false → Ties s m t
new_ties s m n t before same at trees on works p x h =
    let q : put before n (Some m.session_id) p ≡ Some x = ap (λ (f : ℕ → Option ℕ). f p) (sym at) ∙ h in
    let r = ap (λ (f : ℕ → ℕ). f p) trees in
    elim (p == n) as (λ b. p == n ≡ b
    → ((s.session_of_open p ≡ Some x) × (t.tree_of_open p ≡ s.tree_of_open p)) ⊎ Newly s m t p x) [
      | true ↦ λ e. inr (record { own = own e q; on = on; tree = r ∙ tree e; works = works })
      | false ↦ λ e. inl (ap (λ (f : ℕ → Option ℕ). f p) (sym same) ∙ old e q, r ∙ kept e)
    ] refl
  where
    own : (p == n) ≡ true → put before n (Some m.session_id) p ≡ Some x → x ≡ m.session_id
    own e q = grind arith

    tree : (p == n) ≡ true → put s.tree_of_open n m.tree_id p ≡ m.tree_id
    tree e = grind arith

    old : (p == n) ≡ false → put before n (Some m.session_id) p ≡ Some x → before p ≡ Some x
    old e q = grind arith

    kept : (p == n) ≡ false → put s.tree_of_open n m.tree_id p ≡ s.tree_of_open p
    kept e = grind arith

working : (m : Message) (r : CreateRequest) → m.command ≡ Create r → is_dialog m.command ≡ false
unfolding is_dialog
working m r e = ap is_dialog e

-- ---- each verdict

by_effect : (s : Server) (m : Message) (now : ℕ) (v : Verdict) → Facts s m v → Ties s m (apply s m now v).server
by_effect s m now (Refuse status) f = λ o x h. inl (h, refl)
by_effect s m now (Give body) f = λ o x h. inl (h, refl)
by_effect s m now (KeepRefusal guid status) f = λ o x h. inl (h, refl)
by_effect s m now (Repeat o r) f = attached_ties s m o f.create.session.session_on (working m r f.create.command)
by_effect s m now (Attach o r) f = attached_ties s m o f.create.session.session_on (working m r f.create.command)
by_effect s m now (Make r found action) f = new_ties s m (next_open s) (make_open s m r found action now)
    (file_made s r found now).session_of_open
    (file_same s r found now) refl refl f.new.create.session.session_on (working m r f.new.create.command)
by_effect s m now (TurnDown o status) f = ties s m (reach s m o) (reach_tied s m o)
by_effect s m now (Tell o body) f = ties s m (reach s m o) (reach_tied s m o)
by_effect s m now (Show o last body) f = ties s m (apply s m now (Show o last body)).server
    (tied_so s (reach s m o) (apply s m now (Show o last body)).server (reach_tied s m o) (λ p x h. (h, refl)))
by_effect s m now (KeepSlot o index number status elements) f =
    let u = keep_slot (reach s m o) o index number status in
    ties s m u (tied_so s (reach s m o) u (reach_tied s m o) (slot_tied (reach s m o) o index number status))
by_effect s m now (PutRanges o index number ranges elements) f =
    let t = set_ranges (reach s m o) (file_of s o) ranges in let u = keep_slot t o index number success in
    ties s m u (tied_so s (reach s m o) u (reach_tied s m o)
    (tied_so (reach s m o) t u (λ p x h. (h, refl)) (slot_tied t o index number success)))
by_effect s m now (Alter o change body) f =
    let u = change_file (reach s m o) (file_of s o) now change in
    ties s m u (tied_so s (reach s m o) u (reach_tied s m o) (change_tied (reach s m o) (file_of s o) now change))
by_effect s m now (CloseOpen o body) f =
    let u = keep_closed (leave_open s o) m.session_id (s.opened o).create_guid in
    ties s m u (tied_so s (leave_open s o) u (left_tied s o) (closed_tied (leave_open s o) m.session_id (s.opened o).create_guid))
by_effect s m now Challenge f = λ o x h. inl (h, refl)
by_effect s m now (ChallengeBinding session) f = λ o x h. inl (h, refl)
by_effect s m now (Begin session user previous r is_quiet) f = ties s m (apply s m now (Begin session user previous r is_quiet)).server
    (tied_so s (end_if_named s now previous is_quiet) (apply s m now (Begin session user previous r is_quiet)).server
    (named_tied s now previous is_quiet) (λ p x h. (h, refl)))
by_effect s m now (Join session) f = λ o x h. inl (h, refl)
by_effect s m now (EndSession session is_quiet) f = ties s m (end_if_named s now (Some session) is_quiet) (named_tied s now (Some session) is_quiet)
by_effect s m now (AddTree pipes) f = λ o x h. inl (h, refl)
by_effect s m now DropTree f = ties s m (apply s m now DropTree).server
    (dropped_tied s m.session_id (opens_of_tree s m.session_id m.tree_id) (apply s m now DropTree).server refl refl)

-- ---- the answer to a message, behind what expired in front of it

noted_tied : (s : Server) (client : ℕ) (guid : Option ℕ) → Tied s (add_expired_guid s client guid)
noted_tied s client None p x h = (h, refl)
noted_tied s client (Some g) p x h = (h, refl)

noted_on : (s : Server) (client : ℕ) (guid : Option ℕ) → (add_expired_guid s client guid).session_on ≡ s.session_on
noted_on s client None = refl
noted_on s client (Some g) = refl

expired_tied : (s : Server) (o : ℕ) → Tied s (expire s o)
expired_tied s o = tied_so s (leave_open s o) (expire s o) (left_tied s o)
    (noted_tied (leave_open s o) (s.opened o).client_guid (s.opened o).create_guid)

pub before_tied : (s : Server) (now : ℕ) (t : Server) → Before s now t → Tied s t
before_tied s now t (inl e) = subst (λ u. Tied s u) (sym e) (λ o x h. (h, refl))
before_tied s now t (inr b) = subst (λ u. Tied s u) (sym b.2)
    (tied_so s (with_deadlines s now) (expire (with_deadlines s now) b.0) (λ o x h. (h, refl)) (expired_tied (with_deadlines s now) b.0))

before_on : (s : Server) (now : ℕ) (t : Server) → Before s now t → t.session_on ≡ s.session_on
before_on s now t (inl e) = ap (λ (u : Server). u.session_on) e
before_on s now t (inr b) = let d = with_deadlines s now in ap (λ (u : Server). u.session_on) b.2
    ∙ (noted_on (leave_open d b.0) (d.opened b.0).client_guid (d.opened b.0).create_guid ∙ (left_beside d b.0).session_on)

seen_ties : (s t : Server) (m : Message) (u : Server) → Tied s t → t.session_on ≡ s.session_on → Ties t m u → Ties s m u
seen_ties s t m u a on b o x h = by (b o x h)
  where
    by : (((t.session_of_open o ≡ Some x) × (u.tree_of_open o ≡ t.tree_of_open o)) ⊎ Newly t m u o x)
        → ((s.session_of_open o ≡ Some x) × (u.tree_of_open o ≡ s.tree_of_open o)) ⊎ Newly s m u o x
    by (inl q) = let p = a o x q.0 in inl (p.0, q.1 ∙ p.1)
    by (inr n) = inr (record { own = n.own; on = ap (λ (f : ℕ → Option ℕ). f m.connection) (sym on) ∙ n.on; tree = n.tree; works = n.works })

-- where only other columns differ
beside_ties : (s : Server) (m : Message) (u w : Server) → w.session_of_open ≡ u.session_of_open → w.tree_of_open ≡ u.tree_of_open
    → Ties s m u → Ties s m w
beside_ties s m u w a e b o x h = by (b o x (ap (λ (f : ℕ → Option ℕ). f o) (sym a) ∙ h))
  where
    same : w.tree_of_open o ≡ u.tree_of_open o
    same = ap (λ (f : ℕ → ℕ). f o) e

    by : (((s.session_of_open o ≡ Some x) × (u.tree_of_open o ≡ s.tree_of_open o)) ⊎ Newly s m u o x)
        → ((s.session_of_open o ≡ Some x) × (w.tree_of_open o ≡ s.tree_of_open o)) ⊎ Newly s m w o x
    by (inl q) = inl (q.0, same ∙ q.1)
    by (inr n) = inr (record { own = n.own; on = n.on; tree = same ∙ n.tree; works = n.works })

stepped : (s : Server) (now : ℕ) (m : Message) → Ties s m (step s now (Heard m)).server
stepped s now m = by_verdict (λ A. Ties s m A.server) s now m
    (λ t v records b f. seen_ties s t m (recorded (apply t m now v) records).server (before_tied s now t b) (before_on s now t b)
    (beside_ties t m (apply t m now v).server (recorded (apply t m now v) records).server refl refl
    (by_effect t m now v (found t m v f))))

pub ties_answered : (s : Server) (now : ℕ) (m : Message) (c : Command) → Ties s m (answer_to s now m c).server
ties_answered s now m c = by c
  where
    by : (c : Command) → Ties s m (answer_to s now m c).server
    by (Aside status) = λ o x h. inl (h, refl)
    by (Unreadable status) = stepped s now m
    by (Setup request) = stepped s now m
    by Logoff = stepped s now m
    by (TreeConnect share) = stepped s now m
    by TreeDisconnect = stepped s now m
    by (Create request) = stepped s now m
    by (Close file query) = stepped s now m
    by (Flush file) = stepped s now m
    by (Read file at size minimum channel) = stepped s now m
    by (Write file at bytes channel) = stepped s now m
    by (Lock file index number elements) = stepped s now m
    by (Ioctl file code room) = stepped s now m
    by (ListDirectory file class restart single pattern room) = stepped s now m
    by (QueryFile file class room) = stepped s now m
    by (QueryVolume file class room) = stepped s now m
    by (SetInfo file setting) = stepped s now m

-- ---- as far as the client goes

ops_of : (b : Bool) → (b ≡ false → false ≡ true) → b ≡ true
ops_of true f = refl
ops_of false f = absurd (let h = f refl in cc)

pub open_trees_of : (c : Client) (conns : ℕ → Conn) (s : Server) (k : ℕ) (x0 : Sent) (t : Server) → Ties s x0.message t
    → slice_get (conns k).up 0 ≡ Some x0 → OnPresent s → OpenTrees c s → SentTrees c conns → RankedUp c conns → PresentAccepted c s
    → DialogUp conns → OpenTrees c t
open_trees_of c conns s k x0 t each front on trees sent ranked there dialog o x h = by (each o x h)
  where
    by : (((s.session_of_open o ≡ Some x) × (t.tree_of_open o ≡ s.tree_of_open o)) ⊎ Newly s x0.message t o x)
        → 0 < c.session_number × x ≡ c.session × t.tree_of_open o ≡ c.tree
    by (inl q) = let old = trees o x q.0 in (old.0, old.1, q.1 ∙ old.2)
    by (inr n) =
        let ops : is_ops x0.token ≡ true = ops_of (is_ops x0.token) (λ e. sym n.works ∙ (dialog k 0 x0 front e).1) in
        let w = sent k 0 x0 front ops in
        let is = there x0.message.session_id (on x0.message.connection x0.message.session_id n.on) (ranked k 0 x0 front ops) in
        let own = is ∙ sym (w.2 is) in (w.0, n.own ∙ own, n.tree ∙ w.1 own)

-- an operation's message names the tree of each open that is attached to its session
pub own_tree : (c : Client) (conns : ℕ → Conn) (s : Server) (k n : ℕ) (x0 : Sent) (o : ℕ) → Sessions c conns s
    → slice_get (conns k).up n ≡ Some x0 → is_ops x0.token ≡ true → s.session_of_open o ≡ Some x0.message.session_id
    → s.tree_of_open o ≡ x0.message.tree_id
own_tree c conns s k n x0 o i front ops at = let old = i.open_trees o x0.message.session_id at in
    let w = i.sent_trees k n x0 front ops in old.2 ∙ sym (w.1 old.1)
