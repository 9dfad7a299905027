-- A write or an end of an older sequence than its open's, and the pairs that reached an open before.
use Rattle.law_sessions.proofs.sessions.Trees.{before_tied, own_tree}
use Rattle.std.proofs.lemmas.Bool.Decides.{nat_tests}
use Rattle.std.proofs.lemmas.Bool.{eqb-false}
use Rattle.std.proofs.Common.{eqb-true, ◌≡◌, ◌≢◌, ℕ, ◌≤◌, ◌<◌, ◌==◌, nat_lt, Bool, true, false, ◌||◌, ◌&&◌, List, inl}
use Rattle.std.proofs.Common.{inr, refl, arith, sym, ◌∙◌, ap, subst, Option, Some, None, is_some}
use Rattle.spec_exchange.specs.Table.{is_at}
use Rattle.spec_exchange.specs.Status.{user_session_deleted, file_not_available}
use Rattle.spec_exchange.specs.Content.{ContentOp, Write as Writes, Read as Reads, SetEnd as Ends, Still, is_change, is_listed}
use Rattle.spec_exchange.specs.Commands.{form, is_setup}
use Rattle.spec_exchange.specs.State.{Server, Message, Heard, Record, Answer}
use Rattle.spec_exchange.specs.Opens.{is_of_session, is_of_tree}
use Rattle.spec_exchange.specs.CheckOpen.{is_late}
use Rattle.spec_exchange.specs.CheckSetup.{tree_in}
use Rattle.spec_exchange.specs.Check.{has_session, tree_command, in_tree, command_check, formed, owed, check}
use Rattle.spec_exchange.specs.Effects.{apply}
use Rattle.spec_exchange.specs.Verdict.{Verdict, Refuse}
use Rattle.spec_exchange.specs.Step.{step, with_deadlines, expire, without_room}
use Rattle.spec_exchange.specs.Operations.{Op, content_op}
use Rattle.spec_exchange.specs.Client.{guid_for}
use Rattle.spec_exchange.specs.Network.{World, Sent, answer}
use Rattle.law_sessions.specs.messages.Connections.{Connections, its_create}
use Rattle.law_server.specs.tables.Fits.{Fits}
use Rattle.law_server.proofs.tables.Doors.{by_verdict, recorded, Before, Finds}
use Rattle.law_server.proofs.tables.Logic.{either, back_off, back_of, both, at_of}
use Rattle.law_server.proofs.tables.SessionEffects.{deadlines_keeps}
use Rattle.law_sessions.specs.sessions.Sessions.{Sessions}
use Rattle.law_sessions.proofs.sessions.Heard.{before_stays}
use Rattle.law_creates.specs.Creates.{Creates, seen}
use Rattle.law_locks.proofs.Facing.{apart_due}
use Rattle.law_locks.proofs.Views.{View, expire_view}
use Rattle.law_order.specs.order.Newest.{Newest}
use Rattle.law_order.specs.order.Contents.{lists}
use Rattle.law_order.proofs.order.Pairs.{stale_less}
use Rattle.law_order.proofs.order.Answers.{earlier}
use Rattle.law_order.proofs.order.Listed.{asks}
use Rattle.law_order.proofs.order.Requests.{asks_of}
use Rattle.law_order.proofs.order.Words.{ops_of, put_other}
use Rattle.law_outcomes.specs.invariant.Parts.{open_of, OlderStatus, NoChannel, BreaksForm, NotAvailable, OlderIsRefused}
use Rattle.law_outcomes.specs.invariant.Parts.{ReachedBefore, InOlderSession, InSameSession, OpensAreNewest}
use Rattle.law_outcomes.proofs.invariant.Gone.{is_checked, own_checked, answer_step}

-- ---- the open stands behind an expiry too

two_opens : (at : ℕ → Option ℕ) (o p y : ℕ) → at o ≡ Some y → at p ≡ None → o ≢ p
two_opens at o p y e f same = absurd (grind arith)

of_session : (stands : Bool) (at : Option ℕ) (y : ℕ) → stands ≡ true → at ≡ Some y → (stands && is_at y at) ≡ true
of_session stands at y e f = grind arith

still_there : (s : Server) (now : ℕ) (t : Server) → Before s now t → Fits s → (o y : ℕ) → s.session_of_open o ≡ Some y
    → is_of_session t o y ≡ true
still_there s now t (inl e) f o y at = subst (λ u. is_of_session u o y ≡ true) (sym e)
    (of_session (s.standing o) (s.session_of_open o) y (f.attached o y at).0 at)
still_there s now t (inr q) f o y at =
    let d = with_deadlines s now in
    let apart : o ≢ q.0 = two_opens s.session_of_open o q.0 y at (apart_due d now q.0 (deadlines_keeps s now f) q.1) in
    let v = expire_view d q.0 in
    subst (λ u. is_of_session u o y ≡ true) (sym q.2)
    (of_session ((expire d q.0).standing o) ((expire d q.0).session_of_open o) y
    (ap (λ (z : View). z.standing o) v ∙ (put_other s.standing q.0 false o apart ∙ (f.attached o y at).0))
    (ap (λ (z : View). z.session_of_open o) v ∙ (put_other s.session_of_open q.0 None o apart ∙ at)))

-- ---- the checks, to that of the sequence

-- turned down by one of these checks
data Turned (s : Server) (x : Sent) : Verdict → Type 0 where
  By : (status : ℕ) → OlderStatus s x status → Turned s x (Refuse status)

clash : (b : Bool) → b ≡ true → b ≡ false → ⊥
clash b e f = absurd (grind arith)

late_open : (s t : Server) (x : Sent) (op : ContentOp) (o : ℕ) (pipes : Bool) → is_change op ≡ true
    → is_of_tree t o x.message.session_id x.message.tree_id ≡ true → is_late t x.message o ≡ true
    → Turned s x (tree_command t x.message pipes (asks op o))
unfolding is_change
late_open s t x (Writes at bytes) o pipes c on late =
    either (Turned s x) (is_of_tree t o x.message.session_id x.message.tree_id) _ _
    (λ _. either (Turned s x) (is_late t x.message o) _ _ (λ _. By file_not_available (NotAvailable refl)) (λ e. absurd (clash _ late e)))
    (λ e. absurd (clash _ on e))
late_open s t x (Ends size) o pipes c on late =
    either (Turned s x) (is_of_tree t o x.message.session_id x.message.tree_id) _ _
    (λ _. either (Turned s x) (is_late t x.message o) _ _ (λ _. By file_not_available (NotAvailable refl)) (λ e. absurd (clash _ late e)))
    (λ e. absurd (clash _ on e))
late_open s t x (Reads at size) o pipes c on late = absurd (cc)
late_open s t x Still o pipes c on late = absurd (cc)

late_tree : (s t : Server) (x : Sent) (op : ContentOp) (o : ℕ) → x.message.command ≡ asks op o → is_change op ≡ true
    → is_of_tree t o x.message.session_id x.message.tree_id ≡ true → is_late t x.message o ≡ true
    → (u : Option Bool) → is_some u ≡ true → Turned s x (in_tree t x.message u)
late_tree s t x op o is c on late None e = absurd (cc)
late_tree s t x op o is c on late (Some pipes) e = subst (λ z. Turned s x (tree_command t x.message pipes z)) (sym is)
    (late_open s t x op o pipes c on late)

late_command : (s t : Server) (x : Sent) (op : ContentOp) (o : ℕ) → is_change op ≡ true
    → Turned s x (in_tree t x.message (tree_in (t.trees x.message.session_id) x.message.tree_id))
    → Turned s x (command_check t x.message (asks op o))
unfolding is_change
late_command s t x (Writes at bytes) o c h = h
late_command s t x (Ends size) o c h = h
late_command s t x (Reads at size) o c h = absurd (cc)
late_command s t x Still o c h = absurd (cc)

late_form : (s t : Server) (x : Sent) (op : ContentOp) (o : ℕ) → x.message.command ≡ asks op o → is_change op ≡ true
    → Turned s x (in_tree t x.message (tree_in (t.trees x.message.session_id) x.message.tree_id))
    → (f : Option ℕ) → form x.message.command ≡ f → Turned s x (formed t x.message f)
late_form s t x op o is c h (Some status) e = By status (BreaksForm e)
late_form s t x op o is c h None e = subst (λ z. Turned s x (command_check t x.message z)) (sym is) (late_command s t x op o c h)

late_check : (s t : Server) (x : Sent) (op : ContentOp) (o : ℕ) → x.message.command ≡ asks op o → x.message.fault ≡ None
    → is_change op ≡ true → t.session_on ≡ s.session_on
    → is_some (tree_in (t.trees x.message.session_id) x.message.tree_id) ≡ true
    → is_of_tree t o x.message.session_id x.message.tree_id ≡ true → is_late t x.message o ≡ true → Turned s x (check t x.message)
late_check s t x op o is fault c same tree on late =
    either (Turned s x) (is_setup x.message.command || has_session t x.message) _ _
    (λ _. subst (λ u. Turned s x (owed t x.message u)) (sym fault)
    (late_form s t x op o is c
    (late_tree s t x op o is c on late (tree_in (t.trees x.message.session_id) x.message.tree_id) tree)
    (form x.message.command) refl))
    (λ e. By user_session_deleted (NoChannel (ap (λ g. is_at x.message.session_id (g x.message.connection)) (sym same)
    ∙ back_off (is_setup x.message.command) (has_session t x.message) e) refl))

without_turned : (s : Server) (x : Sent) (v : Verdict) → Turned s x v → Turned s x (without_room v)
without_turned s x _ (By status h) = By status h

turned_found : (s t : Server) (x : Sent) (v : Verdict) → Turned s x (check t x.message) → Finds t x.message v → Turned s x v
turned_found s t x v h (inl e) = subst (Turned s x) (sym e) h
turned_found s t x v h (inr e) = subst (Turned s x) (sym e) (without_turned s x (check t x.message) h)

abbrev TurnedBy : Server → Sent → Answer → Type 0
TurnedBy s x A = A.acted ≡ false × OlderStatus s x A.reply.status

turned_answer : (s t : Server) (x : Sent) (now : ℕ) (records : List Record) (v : Verdict) → Turned s x v
    → TurnedBy s x (recorded (apply t x.message now v) records)
turned_answer s t x now records _ (By status h) = (refl, h)

late_step : (s : Server) (now : ℕ) (x : Sent) (op : ContentOp) (o : ℕ) → Fits s → x.message.command ≡ asks op o
    → x.message.fault ≡ None → is_change op ≡ true → is_some (tree_in (s.trees x.message.session_id) x.message.tree_id)
    ≡ true → s.session_of_open o ≡ Some x.message.session_id → s.tree_of_open o ≡ x.message.tree_id
    → is_late s x.message o ≡ true → TurnedBy s x (step s now (Heard x.message))
late_step s now x op o f is fault c tree at own late =
    by_verdict (TurnedBy s x) s now x.message
    (λ t v records b h. let k = before_stays s now t b in let sq : t.sequence o ≡ s.sequence o = ap (λ g. g o)
    (earlier s now t b).sequence in
    turned_answer s t x now records v (turned_found s t x v
    (late_check s t x op o is fault c k.session_on
    (ap (λ g. is_some (tree_in (g x.message.session_id) x.message.tree_id)) k.trees ∙ tree)
    (of_its_tree s now t b f at own) (same_late s t x.message o sq ∙ late)) h))
  where
    same_number : (y z : ℕ) → y ≡ z → (y == z) ≡ true
    same_number y z e = grind arith

    at_session : (a : Bool) (u : Option ℕ) (y : ℕ) → (a && is_at y u) ≡ true → u ≡ Some y
    at_session a u y e = at_of y u (back_of a (is_at y u) e)

    of_its_tree : (s : Server) (now : ℕ) (t : Server) → Before s now t → Fits s → s.session_of_open o ≡ Some x.message.session_id
        → s.tree_of_open o ≡ x.message.tree_id → is_of_tree t o x.message.session_id x.message.tree_id ≡ true
    of_its_tree s now t b f at own =
        let on = still_there s now t b f o x.message.session_id at in
        let w = before_tied s now t b o x.message.session_id (at_session (t.standing o) (t.session_of_open o) x.message.session_id on) in
        both (is_of_session t o x.message.session_id) (t.tree_of_open o == x.message.tree_id) on
        (same_number (t.tree_of_open o) x.message.tree_id (w.1 ∙ own))

    same_late : (s t : Server) (m : Message) (o : ℕ) → t.sequence o ≡ s.sequence o → is_late t m o ≡ is_late s m o
    same_late s t m o e = rw e refl

-- ---- 6

changes_list : (op : ContentOp) → is_change op ≡ true → is_listed op ≡ true
unfolding is_change is_listed
changes_list op e = grind arith

lists_of : (op : Op) → is_change (content_op op) ≡ true → lists op ≡ true
unfolding lists
lists_of op e = changes_list (content_op op) e

late_of : (s : Server) (m : Message) (o : ℕ) → m.channel_sequence ≤ 32767 → s.sequence o ≤ 32767
    → m.channel_sequence < s.sequence o → is_late s m o ≡ true
late_of s m o l low less = stale_less m.channel_sequence (s.sequence o) l low ∙ test m.channel_sequence (s.sequence o) less
  where
    test : (a b : ℕ) → a < b → nat_lt a b ≡ true
    test a b e = grind (arith, nat_tests)

pub older_refused : (w : World) (a : ℕ → ℕ) → Connections w.client w.conns a → Sessions w.client w.conns w.server
    → Fits w.server → Newest w → OlderIsRefused w
unfolding its_create
older_refused w a cn ss f nw k n g x l ed st at less =
    let b = cn.bodies k n g x l.waits l.own in
    let q = asks_of (w.client.op g) (guid_for w.client g) (open_of w.client g) (w.client.slot_of g)
    (w.client.number_of g) (lists_of (w.client.op g) ed) in
    let c : is_checked x.message.command ≡ true = ap is_checked b.1 ∙ own_checked (w.client.op g) _ _ _ _ in
    let t : TurnedBy w.server x (answer w x) = subst (TurnedBy w.server x)
    (sym (answer_step w.server w.moment x.message x.message.command c))
    (late_step w.server w.moment x (content_op (w.client.op g)) (open_of w.client g) f (b.1 ∙ q.0) b.3 ed
    (ss.tree_up k n x l.waits (ops_of x.token g l.own) l.live) at
    (own_tree w.client w.conns w.server k n x (open_of w.client g) ss l.waits (ops_of x.token g l.own) at)
    (late_of w.server x.message (open_of w.client g) (ss.sequences_up k n x l.waits).0 (nw.low_sequences (open_of w.client g)) less)) in
    record { acted = t.0; status = t.1 }

some_same : (x y : ℕ) → Some x ≡ Some y → x ≡ y
some_same x y e = grind arith

-- a session that is gone was accepted before the one that is there
older_session : (w : World) → Sessions w.client w.conns w.server → (x y : ℕ) → w.server.present x ≡ false
    → 0 < w.client.rank x → w.server.present y ≡ true → 0 < w.client.rank y → w.client.rank x < w.client.rank y
older_session w ss x y gone rx there ry =
    let last = ss.last_rank (let le = ss.ranks y in omega (arith, le, ry)) in let top : w.client.rank y
    ≡ w.client.accepted_count = ap w.client.rank (ss.present_accepted y there ry) ∙ last in let le = ss.ranks x in
    elim (w.client.rank x == w.client.rank y) as (λ b. w.client.rank x == w.client.rank y ≡ b → w.client.rank x < w.client.rank y) [
      | true ↦ λ e. absurd (clash (w.server.present x)
          (ap w.server.present (ss.rank_once x y rx (eqb-true (w.client.rank x) (w.client.rank y) e)) ∙ there) gone)
      | false ↦ λ e. let ne = eqb-false (w.client.rank x) (w.client.rank y) e in omega (arith, le, ne, top)
    ] refl

pub opens_newest : (w : World) (a : ℕ → ℕ) → Sessions w.client w.conns w.server → Creates w.client w.conns
    (seen w.server) a → Newest w → OpensAreNewest w
opens_newest w a ss cr nw i o lt r st =
    record {
      attached = λ y at. by_present y at (w.server.present (w.trace.session i)) refl;
      apart = λ none. by_apart none (w.server.present (w.trace.session i)) refl;
    }
  where
    by_present : (y : ℕ) → w.server.session_of_open o ≡ Some y → (b : Bool) → w.server.present (w.trace.session i) ≡ b
        → ReachedBefore w i o y
    by_present y at true e = let h = nw.held i o lt r st e in InSameSession (some_same (w.trace.session i) y (sym h.0 ∙ at)) h.1
    by_present y at false e = let h = cr.attached o y at in
        InOlderSession (older_session w ss (w.trace.session i) y e (nw.ranked i o lt r) h.1 h.0)

    by_apart : w.server.session_of_open o ≡ None → (b : Bool) → w.server.present (w.trace.session i) ≡ b
        → w.server.present (w.trace.session i) ≡ false
    by_apart none false e = e
    by_apart none true e = absurd (let h = (nw.held i o lt r st e).0 in grind arith)
