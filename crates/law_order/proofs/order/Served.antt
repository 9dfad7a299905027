-- What an answer to a read, a write or an end says and does, and one to a request to attach an open.
use Rattle.law_server.proofs.tables.Closing.{left_beside}
use Rattle.law_sessions.proofs.sessions.Trees.{before_tied}
use Rattle.std.proofs.lemmas.Bool.Decides.{nat_tests}
use Rattle.std.proofs.Common.{inl, inr, ◌≡◌, ◌≢◌, ℕ, ◌≤◌, ◌<◌, ◌==◌, nat_lt, Bool, true, false, not, ◌&&◌}
use Rattle.std.proofs.Common.{if◌then◌else◌, List, refl, arith, sym, subst, ◌∙◌, ap, Option, Some, None, is_some}
use Rattle.spec_exchange.specs.Table.{put, is_at}
use Rattle.spec_exchange.specs.Texts.{same_name}
use Rattle.spec_exchange.specs.Status.{success, user_session_deleted, file_closed, file_not_available, end_of_file}
use Rattle.spec_exchange.specs.Content.{ContentOp, Write as Writes, Read as Reads, SetEnd as Ends, Still, is_change}
use Rattle.spec_exchange.specs.Content.{effect, value, past_end, written, ended}
use Rattle.spec_exchange.specs.Commands.{Create, CreateRequest, Reconnect, form}
use Rattle.spec_exchange.specs.State.{Server, Message, Heard, Record, Answer, Body}
use Rattle.spec_exchange.specs.Opens.{is_of_session, leave_open}
use Rattle.spec_exchange.specs.CheckCreate.{has_guid}
use Rattle.spec_exchange.specs.CheckOpen.{is_late, file_of}
use Rattle.spec_exchange.specs.CheckSetup.{tree_in}
use Rattle.spec_exchange.specs.Check.{check, has_session}
use Rattle.spec_exchange.specs.Effects.{apply, reach, reaches, change_file, attached, attach}
use Rattle.spec_exchange.specs.Verdict.{Verdict, Refuse, Give, KeepRefusal, Repeat, Attach, Make, TurnDown, Tell, Show}
use Rattle.spec_exchange.specs.Verdict.{KeepSlot, PutRanges, Alter, CloseOpen, Challenge, ChallengeBinding, Begin, Join}
use Rattle.spec_exchange.specs.Verdict.{EndSession, AddTree, DropTree, Change, PutBytes, PutEnd, PutBasic}
use Rattle.spec_exchange.specs.Verdict.{PutDeletePending, PutPath, PutNothing}
use Rattle.spec_exchange.specs.Step.{step, with_deadlines, expire, add_expired_guid}
use Rattle.spec_exchange.specs.Network.{content_reply, answer_to}
use Rattle.law_server.proofs.tables.Doors.{by_verdict, recorded, Before, Finds}
use Rattle.law_server.proofs.tables.Logic.{either}
use Rattle.law_order.specs.order.Newest.{LowSequences}
use Rattle.law_order.specs.order.Contents.{is_final}
use Rattle.law_order.proofs.order.Pairs.{stale_less, in_time, content_reach}
use Rattle.law_order.proofs.order.Answers.{Earlier, earlier}
use Rattle.law_order.proofs.order.Listed.{asks, is_asked, changed_by, Listed, ListedBy, listed, listed_without_room, Asked}
use Rattle.law_order.proofs.order.Listed.{asked, asked_without_room}

-- what the answer to a read, a write or an end of the open o says, of the state before
pub record ListedFacts (s : Server) (m : Message) (op : ContentOp) (o : ℕ) (A : Answer) : Type 0 where
  pub acts : A.acted ≡ true → s.standing o ≡ true × s.session_of_open o ≡ Some m.session_id
      × s.sequence o ≤ m.channel_sequence × is_change op ≡ true × A.reply.status ≡ success × A.reached ≡ Some o
      × form m.command ≡ None
  pub again : A.acted ≡ true → m.replay ≡ true → effect op (s.content (s.opened o).file) ≢ s.content (s.opened o).file
  pub done : (A.reply.status == success) ≡ true → s.standing o ≡ true × A.server.standing o ≡ true
      × value op (s.content (s.opened o).file) ≡ content_reply A.reply.body × A.server.content (s.opened o).file
      ≡ effect op (s.content (s.opened o).file)
      × past_end op (s.content (s.opened o).file) ≡ false
  pub ended : (A.reply.status == end_of_file) ≡ true → s.standing o ≡ true × past_end op (s.content (s.opened o).file) ≡ true
  pub reached : is_change op ≡ true → form m.command ≡ None → is_final A.reply.status ≡ true → A.reached ≡ Some o
  pub closed : (A.reply.status == file_closed) ≡ true → has_session s m ≡ true
      × (A.server.standing o ≡ true → s.session_of_open o ≡ Some m.session_id → ⊥)
  pub stale : (A.reply.status == file_not_available) ≡ true → s.session_of_open o ≡ Some m.session_id × m.channel_sequence < s.sequence o

on_open : (s : Server) (o x : ℕ) → is_of_session s o x ≡ true → s.standing o ≡ true × s.session_of_open o ≡ Some x
on_open s o x e = (grind arith, grind arith)

is_open : (s : Server) (o x : ℕ) → s.standing o ≡ true → s.session_of_open o ≡ Some x → is_of_session s o x ≡ false → ⊥
is_open s o x st at e = absurd (grind arith)

off : (a b : Bool) → a ≡ true → a ≡ false → b ≡ true
off a b e f = absurd (grind arith)

late_less : (s : Server) (m : Message) (o : ℕ) → LowSequences s → m.channel_sequence ≤ 32767 → is_late s m o ≡ true
    → m.channel_sequence < s.sequence o
late_less s m o low l e = less m.channel_sequence (s.sequence o) (is_late s m o) (stale_less m.channel_sequence (s.sequence o) l (low o)) e
  where
    less : (a b : ℕ) (t : Bool) → t ≡ nat_lt a b → t ≡ true → a < b
    less a b t e f = grind (arith, nat_tests)

reaches_on : (s : Server) (m : Message) (o : ℕ) → is_late s m o ≡ false → reaches s m o ≡ Some o
reaches_on s m o e = grind arith

content_changed : (s : Server) (f now : ℕ) (change : Change) → (change_file s f now change).content f ≡ changed_by change (s.content f)
content_changed s f now (PutBytes at bytes) = put_here s.content f (written at bytes (s.content f))
  where
    put_here : (g : ℕ → List ℕ) (f : ℕ) (v : List ℕ) → put g f v f ≡ v
    put_here g f v = grind arith
content_changed s f now (PutEnd size) = put_here s.content f (ended size (s.content f))
  where
    put_here : (g : ℕ → List ℕ) (f : ℕ) (v : List ℕ) → put g f v f ≡ v
    put_here g f v = grind arith
content_changed s f now (PutBasic basic) = refl
content_changed s f now (PutDeletePending flag) = refl
content_changed s f now (PutPath replaced path) = refl
content_changed s f now PutNothing = refl

standing_changed : (s : Server) (f now : ℕ) (change : Change) → (change_file s f now change).standing ≡ s.standing
standing_changed s f now (PutBytes at bytes) = refl
standing_changed s f now (PutEnd size) = refl
standing_changed s f now (PutBasic basic) = refl
standing_changed s f now (PutDeletePending flag) = refl
standing_changed s f now (PutPath replaced path) = refl
standing_changed s f now PutNothing = refl

reach_standing : (s : Server) (m : Message) (o : ℕ) → (reach s m o).standing ≡ s.standing
reach_standing s m o = either (λ (t : Server). t.standing ≡ s.standing) (is_late s m o) s (record s {
  sequence = put s.sequence o m.channel_sequence;
}) (λ _. refl) (λ _. refl)

-- one that is carried out
pub altered_facts : (s : Server) (m : Message) (op : ContentOp) (o now : ℕ) (change : Change) (body : Body)
    → LowSequences s → m.channel_sequence ≤ 32767 → ListedBy s m op o (Alter o change body)
    → ListedFacts s m op o (apply s m now (Alter o change body))
altered_facts s m op o now change body low l h =
    let on = on_open s o m.session_id h.on in
    record {
      acts = λ a. (on.0, on.1, in_time s m o low l h.late, h.edit, refl, reaches_on s m o h.late, h.form);
      again = λ a r. h.again r;
      done = λ e. (
        on.0,
        ap (λ f. f o) (standing_changed (reach s m o) (file_of s o) now change) ∙ (ap (λ f. f o) (reach_standing s m o) ∙ on.0),
        h.reply,
        content_changed (reach s m o) (file_of s o) now change
            ∙ (ap (λ c. changed_by change (c (file_of s o))) (content_reach s m o) ∙ h.after),
        h.before,
      );
      ended = λ e. absurd (cc);
      reached = λ c f z. reaches_on s m o h.late;
      closed = λ e. absurd (cc);
      stale = λ e. absurd (cc);
    }

told_facts : (s : Server) (m : Message) (op : ContentOp) (o now : ℕ) (body : Body) → ListedBy s m op o (Tell o body)
    → ListedFacts s m op o (apply s m now (Tell o body))
told_facts s m op o now body h =
    let on = on_open s o m.session_id h.on in
    record {
      acts = λ a. absurd (cc);
      again = λ a. absurd (cc);
      done = λ e. (
        on.0,
        ap (λ f. f o) (reach_standing s m o) ∙ on.0,
        h.reply,
        ap (λ c. c (file_of s o))
            (content_reach s m o) ∙ sym h.same,
        h.before,
      );
      ended = λ e. absurd (cc);
      reached = λ c f z. reaches_on s m o (h.in_time c);
      closed = λ e. absurd (cc);
      stale = λ e. absurd (cc);
    }

turned_facts : (s : Server) (m : Message) (op : ContentOp) (o now status : ℕ) → ListedBy s m op o (TurnDown o status)
    → ListedFacts s m op o (apply s m now (TurnDown o status))
turned_facts s m op o now status h =
    let on = on_open s o m.session_id h.on in
    record {
      acts = λ a. absurd (cc);
      again = λ a. absurd (cc);
      done = λ e. absurd (let z = h.ok in grind arith);
      ended = λ e. (on.0, h.end e);
      reached = λ c f z. reaches_on s m o (h.in_time c);
      closed = λ e. absurd (let z = h.closed in grind arith);
      stale = λ e. absurd (let z = h.stale in grind arith);
    }

refused_facts : (s : Server) (m : Message) (op : ContentOp) (o now status : ℕ) → LowSequences s
    → m.channel_sequence ≤ 32767 → ListedBy s m op o (Refuse status)
    → ListedFacts s m op o (apply s m now (Refuse status))
refused_facts s m op o now status low l h =
    record {
      acts = λ a. absurd (cc);
      again = λ a. absurd (cc);
      done = λ e. absurd (let z = h.ok in grind arith);
      ended = λ e. absurd (let z = h.end in grind arith);
      reached = λ c f z. absurd (let w = h.final f in grind arith);
      closed = λ e. let z = h.closed e in (z.1, λ st at. absurd (is_open s o m.session_id st at z.0));
      stale = λ e. let z = h.stale e in ((on_open s o m.session_id z.0).1, late_less s m o low l z.1);
    }

listed_facts_at : (s : Server) (m : Message) (op : ContentOp) (o now : ℕ) → LowSequences s → m.channel_sequence ≤ 32767
    → (v : Verdict) → Listed s m op o v → ListedFacts s m op o (apply s m now v)
listed_facts_at s m op o now low l (Refuse status) h = refused_facts s m op o now status low l h.is
listed_facts_at s m op o now low l (TurnDown p status) h = subst (λ q. ListedBy s m op o (TurnDown q status)
    → ListedFacts s m op o (apply s m now (TurnDown q status))) (sym h.is.its) (turned_facts s m op o now status) h.is
listed_facts_at s m op o now low l (Tell p body) h = subst (λ q. ListedBy s m op o (Tell q body)
    → ListedFacts s m op o (apply s m now (Tell q body))) (sym h.is.its) (told_facts s m op o now body) h.is
listed_facts_at s m op o now low l (Alter p change body) h = subst (λ q. ListedBy s m op o (Alter q change body)
    → ListedFacts s m op o (apply s m now (Alter q change body))) (sym h.is.its)
    (altered_facts s m op o now change body low l) h.is
listed_facts_at s m op o now low l (Give body) h = absurd (h.is)
listed_facts_at s m op o now low l (KeepRefusal guid status) h = absurd (h.is)
listed_facts_at s m op o now low l (Repeat p r) h = absurd (h.is)
listed_facts_at s m op o now low l (Attach p r) h = absurd (h.is)
listed_facts_at s m op o now low l (Make r found action) h = absurd (h.is)
listed_facts_at s m op o now low l (Show p last body) h = absurd (h.is)
listed_facts_at s m op o now low l (KeepSlot p index number status elements) h = absurd (h.is)
listed_facts_at s m op o now low l (PutRanges p index number ranges elements) h = absurd (h.is)
listed_facts_at s m op o now low l (CloseOpen p body) h = absurd (h.is)
listed_facts_at s m op o now low l Challenge h = absurd (h.is)
listed_facts_at s m op o now low l (ChallengeBinding session) h = absurd (h.is)
listed_facts_at s m op o now low l (Begin session user previous r is_quiet) h = absurd (h.is)
listed_facts_at s m op o now low l (Join session) h = absurd (h.is)
listed_facts_at s m op o now low l (EndSession session is_quiet) h = absurd (h.is)
listed_facts_at s m op o now low l (AddTree pipes) h = absurd (h.is)
listed_facts_at s m op o now low l DropTree h = absurd (h.is)

-- behind an expiry, of the state before it
listed_before : (s t : Server) (m : Message) (op : ContentOp) (o : ℕ) (A : Answer) → Earlier s t → t.session_on
    ≡ s.session_on → (A.server.standing o ≡ true → t.standing o ≡ true) → ListedFacts t m op o A
    → ListedFacts s m op o A
listed_before s t m op o A k on back f =
    let row : (t.opened o).file ≡ (s.opened o).file = ap (λ g. (g o).file) k.moves.row in
    let same : t.content (t.opened o).file ≡ s.content (s.opened o).file = ap (λ g. g (t.opened o).file) k.content ∙ ap s.content row in
    let sq : t.sequence o ≡ s.sequence o = ap (λ g. g o) k.sequence in
    record {
      acts = λ a. let h = f.acts a in (
        k.moves.stands o h.0,
        k.session_of_open o m.session_id h.1,
        subst (λ n. n ≤ m.channel_sequence) sq h.2,
        h.3,
        h.4,
        h.5,
        h.6,
      );
      again = λ a r. subst (λ c. effect op c ≢ c) same (f.again a r);
      done = λ e. let h = f.done e in (
        k.moves.stands o h.0,
        h.1,
        subst (λ c. value op c ≡ content_reply A.reply.body)
            same h.2,
        subst (λ g. A.server.content g ≡ effect op (s.content (s.opened o).file)) row
            (subst (λ c. A.server.content (t.opened o).file ≡ effect op c) same h.3),
        subst (λ c. past_end op c ≡ false)
            same h.4,
      );
      ended = λ e. let h = f.ended e in (k.moves.stands o h.0, subst (λ c. past_end op c ≡ true) same h.1);
      reached = f.reached;
      closed = λ e. let z = f.closed e in (
        ap (λ g. is_at m.session_id (g m.connection)) (sym on) ∙ z.0,
        λ st at.
            z.1 st (k.at_on o (back st) ∙ at),
      );
      stale = λ e. let h = f.stale e in (k.session_of_open o m.session_id h.0, subst (λ n. m.channel_sequence < n) sq h.1);
    }

listed_standing : (s : Server) (m : Message) (op : ContentOp) (o now : ℕ) → (v : Verdict) → Listed s m op o v
    → (apply s m now v).server.standing ≡ s.standing
listed_standing s m op o now (Refuse status) h = refl
listed_standing s m op o now (TurnDown p status) h = reach_standing s m p
listed_standing s m op o now (Tell p body) h = reach_standing s m p
listed_standing s m op o now (Alter p change body) h = standing_changed (reach s m p) (file_of s p) now change ∙ reach_standing s m p
listed_standing s m op o now (Give body) h = absurd (h.is)
listed_standing s m op o now (KeepRefusal guid status) h = absurd (h.is)
listed_standing s m op o now (Repeat p r) h = absurd (h.is)
listed_standing s m op o now (Attach p r) h = absurd (h.is)
listed_standing s m op o now (Make r found action) h = absurd (h.is)
listed_standing s m op o now (Show p last body) h = absurd (h.is)
listed_standing s m op o now (KeepSlot p index number status elements) h = absurd (h.is)
listed_standing s m op o now (PutRanges p index number ranges elements) h = absurd (h.is)
listed_standing s m op o now (CloseOpen p body) h = absurd (h.is)
listed_standing s m op o now Challenge h = absurd (h.is)
listed_standing s m op o now (ChallengeBinding session) h = absurd (h.is)
listed_standing s m op o now (Begin session user previous r is_quiet) h = absurd (h.is)
listed_standing s m op o now (Join session) h = absurd (h.is)
listed_standing s m op o now (EndSession session is_quiet) h = absurd (h.is)
listed_standing s m op o now (AddTree pipes) h = absurd (h.is)
listed_standing s m op o now DropTree h = absurd (h.is)

listed_recorded : (s : Server) (m : Message) (op : ContentOp) (o : ℕ) (A : Answer) (records : List Record)
    → ListedFacts s m op o A → ListedFacts s m op o (recorded A records)
listed_recorded s m op o A records f = record {
  acts = f.acts;
  again = f.again;
  done = f.done;
  ended = f.ended;
  reached = f.reached;
  closed = f.closed;
  stale = f.stale;
}

found_listed : (t : Server) (m : Message) (op : ContentOp) (o : ℕ) (v : Verdict) → Listed t m op o (check t m)
    → Finds t m v → Listed t m op o v
found_listed t m op o v l (inl e) = subst (Listed t m op o) (sym e) l
found_listed t m op o v l (inr e) = subst (Listed t m op o) (sym e) (listed_without_room t m op o (check t m) l)

-- an expiry leaves sequences low and trees as they are
before_low : (s t : Server) → Earlier s t → LowSequences s → LowSequences t
before_low s t k low = k.moves.low low

leave_trees : (s : Server) (o : ℕ) → (leave_open s o).trees ≡ s.trees × (leave_open s o).user ≡ s.user
leave_trees s o = let b = left_beside s o in (b.trees, b.user)

expire_trees : (s : Server) (o : ℕ) → (expire s o).trees ≡ s.trees × (expire s o).user ≡ s.user
expire_trees s o = by_guid (s.opened o).create_guid
  where
    by_guid : (g : Option ℕ) → (add_expired_guid (leave_open s o) (s.opened o).client_guid g).trees ≡ s.trees
        × (add_expired_guid (leave_open s o) (s.opened o).client_guid g).user ≡ s.user
    by_guid None = leave_trees s o
    by_guid (Some g) = leave_trees s o

before_trees : (s : Server) (now : ℕ) (t : Server) → Before s now t → t.trees ≡ s.trees
before_trees s now t (inl e) = ap (λ (u : Server). u.trees) e
before_trees s now t (inr (o, d, e)) = ap (λ (u : Server). u.trees) e ∙ (expire_trees (with_deadlines s now) o).0

before_user : (s : Server) (now : ℕ) (t : Server) → Before s now t → t.user ≡ s.user
before_user s now t (inl e) = ap (λ (u : Server). u.user) e
before_user s now t (inr (o, d, e)) = ap (λ (u : Server). u.user) e ∙ (expire_trees (with_deadlines s now) o).1

leave_at_on : (s : Server) (o : ℕ) → (leave_open s o).session_on ≡ s.session_on
leave_at_on s o = (left_beside s o).session_on

before_on : (s : Server) (now : ℕ) (t : Server) → Before s now t → t.session_on ≡ s.session_on
before_on s now t (inl e) = ap (λ (u : Server). u.session_on) e
before_on s now t (inr (o, q, e)) = ap (λ (u : Server). u.session_on) e
    ∙ guid_added (leave_open (with_deadlines s now) o) (s.opened o).client_guid (s.opened o).create_guid
    ∙ leave_at_on (with_deadlines s now) o
  where
    guid_added : (s : Server) (client : ℕ) (guid : Option ℕ) → (add_expired_guid s client guid).session_on ≡ s.session_on
    guid_added s client None = refl
    guid_added s client (Some g) = refl

listed_step : (s : Server) (now : ℕ) (m : Message) (op : ContentOp) (o : ℕ) → is_asked op ≡ true → m.command ≡ asks op o
    → m.fault ≡ None → (has_session s m ≡ true → is_some (tree_in (s.trees m.session_id) m.tree_id) ≡ true)
    → (s.session_of_open o ≡ Some m.session_id → s.tree_of_open o ≡ m.tree_id)
    → LowSequences s → m.channel_sequence ≤ 32767
    → ListedFacts s m op o (step s now (Heard m))
listed_step s now m op o a e f t own low l =
    by_verdict (ListedFacts s m op o) s now m
    (λ u v records b h. let k = earlier s now u b in
    let lv = found_listed u m op o v (listed u m op o a e f (λ z. ap (λ g. is_some (tree_in (g m.session_id) m.tree_id))
    (before_trees s now u b) ∙ t (ap (λ g. is_at m.session_id (g m.connection)) (sym (before_on s now u b)) ∙ z))
    (λ st. let w = before_tied s now u b o m.session_id (on_open u o m.session_id st).1 in w.1 ∙ own w.0)) h
    in
    listed_recorded s m op o _ records (listed_before s u m op o _ k (before_on s now u b)
    (λ st. ap (λ g. g o) (sym (listed_standing u m op o now v lv)) ∙ st)
    (listed_facts_at u m op o now (before_low s u k low) l v lv)))

asked_answer : (s : Server) (now : ℕ) (m : Message) (op : ContentOp) (o : ℕ) → is_asked op ≡ true
    → answer_to s now m (asks op o) ≡ step s now (Heard m)
asked_answer s now m (Writes at bytes) o a = refl
asked_answer s now m (Reads at n) o a = refl
asked_answer s now m (Ends n) o a = refl
asked_answer s now m Still o a = absurd (cc)

pub listed_facts : (s : Server) (now : ℕ) (m : Message) (op : ContentOp) (o : ℕ) → is_asked op ≡ true → m.command
    ≡ asks op o → m.fault ≡ None → (has_session s m ≡ true → is_some (tree_in (s.trees m.session_id) m.tree_id) ≡ true)
    → (s.session_of_open o ≡ Some m.session_id → s.tree_of_open o ≡ m.tree_id)
    → LowSequences s → m.channel_sequence ≤ 32767
    → ListedFacts s m op o (answer_to s now m m.command)
listed_facts s now m op o a e f t own low l =
    subst (λ c. ListedFacts s m op o (answer_to s now m c)) (sym e)
    (subst (ListedFacts s m op o) (sym (asked_answer s now m op o a)) (listed_step s now m op o a e f t own low l))

-- ---- a request to attach an open

pub record AskedFacts (s : Server) (m : Message) (c : Reconnect) (A : Answer) : Type 0 where
  pub attached : (A.reply.status == success) ≡ true → A.server.session_of_open c.file ≡ Some m.session_id
  pub refused : (A.reply.status == success) ≡ false → (A.reply.status == user_session_deleted) ≡ false
      → A.server.standing c.file ≡ true → has_guid c.guid (s.opened c.file).create_guid ≡ true
      → (has_session s m ≡ true → same_name (s.opened c.file).user (s.user m.session_id) ≡ true)
      → (is_some (s.session_of_open c.file) && not (is_at m.session_id (s.session_of_open c.file))) ≡ true
  pub end : (A.reply.status == end_of_file) ≡ false
  pub idle : A.acted ≡ false

pub joined : (s : Server) (m : Message) (o : ℕ)
    → (is_some (s.session_of_open o) && not (is_at m.session_id (s.session_of_open o))) ≡ false
    → (attached s m o).session_of_open o ≡ Some m.session_id
joined s m o e =
    elim (is_some (s.session_of_open o)) as (λ b. is_some (s.session_of_open o) ≡ b → (attached s m o).session_of_open o
    ≡ Some m.session_id) [
      | true ↦ λ z. ap (λ (t : Server). t.session_of_open o) (if_on (is_some (s.session_of_open o)) s (attach s m o) z)
          ∙ own (s.session_of_open o) z e
      | false ↦ λ z. ap (λ (t : Server). t.session_of_open o) (if_off (is_some (s.session_of_open o)) s (attach s m o)
          z) ∙ put_here s.session_of_open o (Some m.session_id)
    ] refl
  where
    if_on : (b : Bool) (x y : Server) → b ≡ true → (if b then x else y) ≡ x
    if_on b x y e = rw e refl

    if_off : (b : Bool) (x y : Server) → b ≡ false → (if b then x else y) ≡ y
    if_off b x y e = rw e refl

    put_here : (g : ℕ → Option ℕ) (k : ℕ) (v : Option ℕ) → put g k v k ≡ v
    put_here g k v = grind arith

    own : (a : Option ℕ) → is_some a ≡ true → (is_some a && not (is_at m.session_id a)) ≡ false → a ≡ Some m.session_id
    own a z e = grind arith

asked_facts_at : (s : Server) (m : Message) (c : Reconnect) (now : ℕ) → form m.command ≡ None → (v : Verdict)
    → Asked s m c v → AskedFacts s m c (apply s m now v)
asked_facts_at s m c now f (Refuse status) h =
    record {
      attached = λ e. absurd (let z = h.is.ok in grind arith);
      refused = λ a b st gd us. h.is.gone b f st gd us;
      end = h.is.end;
      idle = refl;
    }
asked_facts_at s m c now f (Attach p r) h =
    record {
      attached = λ e. subst (λ q. (attached s m q).session_of_open c.file ≡ Some m.session_id) (sym h.is.0)
          (joined s m c.file h.is.1);
      refused = λ a. absurd (cc);
      end = refl;
      idle = refl;
    }
asked_facts_at s m c now f (Give body) h = absurd (h.is)
asked_facts_at s m c now f (KeepRefusal guid status) h = absurd (h.is)
asked_facts_at s m c now f (Repeat p r) h = absurd (h.is)
asked_facts_at s m c now f (Make r found action) h = absurd (h.is)
asked_facts_at s m c now f (Show p last body) h = absurd (h.is)
asked_facts_at s m c now f (KeepSlot p index number status elements) h = absurd (h.is)
asked_facts_at s m c now f (PutRanges p index number ranges elements) h = absurd (h.is)
asked_facts_at s m c now f (CloseOpen p body) h = absurd (h.is)
asked_facts_at s m c now f Challenge h = absurd (h.is)
asked_facts_at s m c now f (ChallengeBinding session) h = absurd (h.is)
asked_facts_at s m c now f (Begin session user previous r is_quiet) h = absurd (h.is)
asked_facts_at s m c now f (Join session) h = absurd (h.is)
asked_facts_at s m c now f (EndSession session is_quiet) h = absurd (h.is)
asked_facts_at s m c now f (AddTree pipes) h = absurd (h.is)
asked_facts_at s m c now f DropTree h = absurd (h.is)
asked_facts_at s m c now f (TurnDown p status) h = absurd (h.is)
asked_facts_at s m c now f (Tell p body) h = absurd (h.is)
asked_facts_at s m c now f (Alter p change body) h = absurd (h.is)

asked_standing : (s : Server) (m : Message) (c : Reconnect) (now : ℕ) → (v : Verdict) → Asked s m c v
    → (apply s m now v).server.standing ≡ s.standing
asked_standing s m c now (Refuse status) h = refl
asked_standing s m c now (Attach p r) h = either (λ (t : Server). t.standing ≡ s.standing)
    (is_some (s.session_of_open p)) s (attach s m p) (λ _. refl) (λ _. refl)
asked_standing s m c now (Give body) h = absurd (h.is)
asked_standing s m c now (KeepRefusal guid status) h = absurd (h.is)
asked_standing s m c now (Repeat p r) h = absurd (h.is)
asked_standing s m c now (Make r found action) h = absurd (h.is)
asked_standing s m c now (Show p last body) h = absurd (h.is)
asked_standing s m c now (KeepSlot p index number status elements) h = absurd (h.is)
asked_standing s m c now (PutRanges p index number ranges elements) h = absurd (h.is)
asked_standing s m c now (CloseOpen p body) h = absurd (h.is)
asked_standing s m c now Challenge h = absurd (h.is)
asked_standing s m c now (ChallengeBinding session) h = absurd (h.is)
asked_standing s m c now (Begin session user previous r is_quiet) h = absurd (h.is)
asked_standing s m c now (Join session) h = absurd (h.is)
asked_standing s m c now (EndSession session is_quiet) h = absurd (h.is)
asked_standing s m c now (AddTree pipes) h = absurd (h.is)
asked_standing s m c now DropTree h = absurd (h.is)
asked_standing s m c now (TurnDown p status) h = absurd (h.is)
asked_standing s m c now (Tell p body) h = absurd (h.is)
asked_standing s m c now (Alter p change body) h = absurd (h.is)

asked_before : (s t : Server) (m : Message) (c : Reconnect) (A : Answer) → Earlier s t → t.user ≡ s.user → t.session_on
    ≡ s.session_on → A.server.standing ≡ t.standing → AskedFacts t m c A → AskedFacts s m c A
asked_before s t m c A k us onn back f =
    let row : (t.opened c.file).create_guid ≡ (s.opened c.file).create_guid = ap (λ g. (g c.file).create_guid)
    k.moves.row in let who : (t.opened c.file).user ≡ (s.opened c.file).user = ap (λ g. (g c.file).user) k.moves.row
    in
    record {
      attached = f.attached;
      refused = λ a b st gd un. let on = k.at_on c.file (ap (λ g. g c.file) (sym back) ∙ st) in
          ap (λ x. is_some x && not (is_at m.session_id x)) (sym on) ∙ f.refused a b st (ap (has_guid c.guid) row ∙ gd)
          (λ hs. ap (λ x. same_name x (t.user m.session_id)) who
          ∙ (ap (λ g. same_name (s.opened c.file).user (g m.session_id)) us
          ∙ un (ap (λ g. is_at m.session_id (g m.connection)) (sym onn) ∙ hs)));
      end = f.end;
      idle = f.idle;
    }

asked_recorded : (s : Server) (m : Message) (c : Reconnect) (A : Answer) (records : List Record) → AskedFacts s m c A
    → AskedFacts s m c (recorded A records)
asked_recorded s m c A records f = record { attached = f.attached; refused = f.refused; end = f.end; idle = f.idle }

found_asked : (t : Server) (m : Message) (c : Reconnect) (v : Verdict) → Asked t m c (check t m) → Finds t m v → Asked t m c v
found_asked t m c v l (inl e) = subst (Asked t m c) (sym e) l
found_asked t m c v l (inr e) = subst (Asked t m c) (sym e) (asked_without_room t m c (check t m) l)

asked_step : (s : Server) (now : ℕ) (m : Message) (r : CreateRequest) (c : Reconnect) → m.command ≡ Create r
    → r.reconnect ≡ Some c → m.fault ≡ None
    → (has_session s m ≡ true → is_some (tree_in (s.trees m.session_id) m.tree_id) ≡ true)
    → (tree_in (s.trees m.session_id) m.tree_id ≡ Some true → s.standing c.file ≡ true → ⊥) → form m.command ≡ None
    → AskedFacts s m c (step s now (Heard m))
asked_step s now m r c e k f t d n =
    by_verdict (AskedFacts s m c) s now m
    (λ u v records b h. let q = earlier s now u b in let av = found_asked u m c v
    (asked u m r c e k f (λ z. ap (λ g. is_some (tree_in (g m.session_id) m.tree_id)) (before_trees s now u b)
    ∙ t (ap (λ g. is_at m.session_id (g m.connection)) (sym (before_on s now u b)) ∙ z))
    (λ z st. d (ap (λ g. tree_in (g m.session_id) m.tree_id) (sym (before_trees s now u b)) ∙ z)
    (q.moves.stands c.file st)) n) h in
    asked_recorded s m c _ records (asked_before s u m c _ q (before_user s now u b) (before_on s now u b)
    (asked_standing u m c now v av) (asked_facts_at u m c now n v av)))

pub asked_facts : (s : Server) (now : ℕ) (m : Message) (r : CreateRequest) (c : Reconnect) → m.command ≡ Create r
    → r.reconnect ≡ Some c → m.fault ≡ None
    → (has_session s m ≡ true → is_some (tree_in (s.trees m.session_id) m.tree_id) ≡ true)
    → (tree_in (s.trees m.session_id) m.tree_id ≡ Some true → s.standing c.file ≡ true → ⊥) → form m.command ≡ None
    → AskedFacts s m c (answer_to s now m m.command)
asked_facts s now m r c e k f t d n = subst (λ x. AskedFacts s m c (answer_to s now m x)) (sym e) (asked_step s now m r c e k f t d n)
