-- The client takes a reply: of an operation, of the DH2C in its place, or of a dialog.
use Rattle.std.proofs.Common.{eqb-true, ◌≡◌, ◌≢◌, ℕ, ◌≤◌, ◌<◌, ◌==◌, Bool, true, false, if◌then◌else◌, List, [], ◌∷◌}
use Rattle.std.proofs.Common.{refl, arith, sym, subst, ◌∙◌, ap, Option, Some, None, slice_get}
use Rattle.spec_exchange.specs.Table.{put}
use Rattle.spec_exchange.specs.State.{Reply}
use Rattle.spec_exchange.specs.Client.{Client, Stage, Apart, SaidNegotiate, SaidFirst, SaidSecond, AskedTree, leave_dialog}
use Rattle.spec_exchange.specs.Dialogs.{DialogStep, GoesOn, Accepts, Binds, Readies, Refuses, dialog_step, went_on, accepted, told_session}
use Rattle.spec_exchange.specs.Network.{World, Conn, Sent, Received, Token, ForDialog, ForOp, ForAttach, op_of, said}
use Rattle.spec_exchange.specs.Network.{take_front, behind_reply, took_by, take_reply, dialog_took, one_cut}
use Rattle.spec_exchange.specs.Network.{with_client}
use Rattle.law_sessions.specs.messages.Connections.{copies}
use Rattle.law_sessions.proofs.messages.Lists.{counted_down, front_down, waited_down}
use Rattle.law_sessions.proofs.messages.Behind.{behind_keeps as behind_connections}
use Rattle.law_sessions.proofs.messages.Run.{front_reply_gone, reply_open, no_dialog, more_down, ended_well}
use Rattle.law_sessions.specs.sessions.Sessions.{is_ops, makes_session}
use Rattle.law_order.specs.order.Contents.{Contents}
use Rattle.law_order.proofs.order.Front.{Lower, ContentsHold}
use Rattle.law_order.proofs.order.Server.{open_of_down}
use Rattle.law_order.proofs.order.Table.{not_there}
use Rattle.law_order.proofs.order.Hearing.{ReplyTaken, took}
use Rattle.law_order.proofs.order.OnBehind.{behind_keeps}
use Rattle.law_order.proofs.order.OnWentOn.{went_on_keeps}
use Rattle.law_order.proofs.order.OnAccepted.{accepted_keeps}
use Rattle.law_order.proofs.order.OnBound.{bound_keeps}
use Rattle.law_order.proofs.order.OnReadied.{readied_keeps}
use Rattle.law_order.proofs.order.OnDialogSent.{dialog_sent_keeps}
use Rattle.law_order.proofs.order.OnDialogRefused.{dialog_refused_keeps}
use Rattle.law_order.proofs.order.OnDialogOff.{dialog_off_keeps}

-- what goes up is as it was
up_at : (f : ℕ → Conn) (k : ℕ) (rest : List Received) (j : ℕ) → (put f k (take_front (f k) rest) j).up ≡ (f j).up
up_at f k rest j = elim (j == k) as (λ b. j == k ≡ b → (put f k (take_front (f k) rest) j).up ≡ (f j).up) [
  | true ↦ λ e. let s = eqb-true j k e in grind arith
  | false ↦ λ e. grind arith
] refl

up_there : (f : ℕ → Conn) (k : ℕ) (rest : List Received) (j n : ℕ) (x : Sent)
    → slice_get (put f k (take_front (f k) rest) j).up n ≡ Some x → slice_get (f j).up n ≡ Some x
up_there f k rest j n x h = subst (λ xs. slice_get xs n ≡ Some x) (up_at f k rest j) h

-- ---- what is known of the front that the client takes

told : (w : World) (a : ℕ → ℕ) (k g : ℕ) (y : Received) (rest : List Received) (asking : Bool) → (w.conns k).down
    ≡ y ∷ rest → (w.conns k).client_open ≡ true → Lower w a → ContentsHold w a → (t : Token) → t
    ≡ (if asking then ForAttach g else ForOp g) → y.token ≡ t
    → w.client.outstanding_on g ≡ Some k → w.client.asks_attach g ≡ asking
    → ReplyTaken w.client (put w.conns k (take_front (w.conns k) rest)) w.server w.trace w.log k g asking y.reply
    y.place
told w a k g y rest asking is opn l i t shape tok on asks =
    record {
      outstanding_on = on;
      asks = asks;
      none = subst (λ q. copies q (put w.conns k (take_front (w.conns k) rest) k) ≡ 0) named
          (front_reply_gone w.conns k y rest is (l.cn.once k (op_of y.token)));
      above = subst (λ q. 0 < q) named (i.token_down k 0 y f0 ops).0;
      stands = reply_open w.conns k rest opn;
      within = (i.replies k 0 y f0).0;
      who = (i.replies k 0 y f0).1 ∙ named;
      since = subst (λ q. w.log.since q ≤ y.place) named (i.since_reply k 0 y f0);
      own = λ z. (i.replies k 0 y f0).2 ∙ ap (λ t. said t y.reply) (own z);
      present = λ j n x h e pr. l.ss.present_accepted x.message.session_id pr
          (l.ss.ranked_up j n x (up_there w.conns k rest j n x h) e)
          ∙ sym (l.ss.live_accepted (l.ss.current_down k 0 y f0 ops opn).0).0;
      not_done = λ z ed bad b. i.not_done k 0 g y f0 (own z) ed bad b;
      create_reply = λ z mk ok. i.create_reply k 0 g y f0 (own z) mk ok;
      reached = λ z ed fm fin. i.reached k 0 g y f0 (own z) ed fm fin;
      closed = λ z ed st. i.closed_reply k 0 g y f0 (own z) ed st;
      stale = λ z ed st. i.stale_reply k 0 g y f0 (own z) ed st;
      attach_reply = λ z ok. i.attach_reply k 0 g y f0 (ask z) ok;
      attach_refused = λ z ed s1 s2. i.attach_refused k 0 g y f0 (ask z) ed s1 s2;
      attach_status = λ z. i.attach_status k 0 g y f0 (ask z);
    }
  where
    f0 : slice_get (w.conns k).down 0 ≡ Some y
    f0 = front_down (w.conns k).down y rest is

    is_token : y.token ≡ (if asking then ForAttach g else ForOp g)
    is_token = tok ∙ shape

    named : op_of y.token ≡ g
    named = ap op_of is_token ∙ by_kind asking
      where
        by_kind : (b : Bool) → op_of (if b then ForAttach g else ForOp g) ≡ g
        by_kind true = refl
        by_kind false = refl

    ops : is_ops y.token ≡ true
    ops = ap is_ops is_token ∙ by_kind asking
      where
        by_kind : (b : Bool) → is_ops (if b then ForAttach g else ForOp g) ≡ true
        by_kind true = refl
        by_kind false = refl

    own : asking ≡ false → y.token ≡ ForOp g
    own z = is_token ∙ ap (λ b. if b then ForAttach g else ForOp g) z

    ask : asking ≡ true → y.token ≡ ForAttach g
    ask z = is_token ∙ ap (λ b. if b then ForAttach g else ForOp g) z

-- ---- dialogs

not_tree : (t s : Stage) (status : ℕ) → dialog_step t status ≡ GoesOn s → s ≢ AskedTree
not_tree Apart s status e z = absurd (cc)
not_tree (SaidNegotiate bound) s status e z = absurd (grind arith)
not_tree (SaidFirst bound) s status e z = absurd (grind arith)
not_tree (SaidSecond bound) s status e z = absurd (grind arith)
not_tree AskedTree s status e z = absurd (grind arith)

goes_on_makes : (t s : Stage) (status : ℕ) → dialog_step t status ≡ GoesOn s → makes_session s ≡ makes_session t
goes_on_makes Apart s status e = absurd (cc)
goes_on_makes (SaidNegotiate bound) s status e = grind arith
goes_on_makes (SaidFirst bound) s status e = grind arith
goes_on_makes (SaidSecond bound) s status e = grind arith
goes_on_makes AskedTree s status e = grind arith

accepts_stage : (t : Stage) (status : ℕ) → dialog_step t status ≡ Accepts → t ≡ SaidSecond false
accepts_stage Apart status e = absurd (cc)
accepts_stage (SaidNegotiate bound) status e = absurd (grind arith)
accepts_stage (SaidFirst bound) status e = absurd (grind arith)
accepts_stage (SaidSecond bound) status e = grind arith
accepts_stage AskedTree status e = absurd (grind arith)

readies_stage : (t : Stage) (status : ℕ) → dialog_step t status ≡ Readies → t ≡ AskedTree
readies_stage Apart status e = absurd (cc)
readies_stage (SaidNegotiate bound) status e = absurd (grind arith)
readies_stage (SaidFirst bound) status e = absurd (grind arith)
readies_stage (SaidSecond bound) status e = absurd (grind arith)
readies_stage AskedTree status e = refl

told_other : (c : Client) (s : Stage) (r : Reply) → makes_session s ≡ false → told_session c s r ≡ c.pending
told_other c Apart r e = refl
told_other c (SaidNegotiate bound) r e = refl
told_other c (SaidFirst bound) r e = refl
told_other c (SaidSecond true) r e = refl
told_other c (SaidSecond false) r e = absurd (cc)
told_other c AskedTree r e = refl

same_some : (o : Option ℕ) (j k : ℕ) → o ≡ Some j → o ≡ Some k → j ≡ k
same_some o j k e f = grind arith

no_some : (o : Option ℕ) (k : ℕ) → o ≡ None → o ≡ Some k → ⊥
no_some o k e f = absurd (grind arith)

asks_makes : (t : Stage) → t ≡ AskedTree → makes_session t ≡ true
asks_makes t e = ap makes_session e

-- one dialog makes a session
alone : (w : World) (a : ℕ → ℕ) (j k : ℕ) → Lower w a → j ≢ k → makes_session (w.client.stage k) ≡ true → w.client.stage j ≡ AskedTree → ⊥
alone w a j k l n mk st = n (same_some w.client.making j k (l.ss.making j (asks_makes (w.client.stage j) st)) (l.ss.making k mk))

-- no operation's message waits on a connection that isn't ready
own_gone : (w : World) (a : ℕ → ℕ) (k : ℕ) (y : Received) (rest : List Received) → (w.conns k).down ≡ y ∷ rest
    → (w.conns k).client_open ≡ true → y.token ≡ ForDialog → Lower w a → ContentsHold w a → (n p : ℕ) (x : Sent)
    → slice_get (put w.conns k (take_front (w.conns k) rest) k).up n ≡ Some x → x.token ≡ ForOp p
    → (put w.conns k (take_front (w.conns k) rest) k).client_open ≡ false
own_gone w a k y rest is opn tok l i0 n p x h tk =
    absurd (shuts (w.conns k).client_open opn (not_there w a k off l i0 n p x (up_there w.conns k rest k n x h) tk))
  where
    shuts : (b : Bool) → b ≡ true → b ≡ false → ⊥
    shuts b e f = absurd (grind arith)

    off : w.client.ready k ≡ false
    off = no_dialog w.client w.conns k l.cn.ready
        (more_down (w.conns k) 0 (counted_down 0 (w.conns k).down 0 y (front_down (w.conns k).down y rest is)
        (ap op_of tok)))

dialog_fails : (w : World) (a : ℕ → ℕ) (k : ℕ) (y : Received) (rest : List Received) → (w.conns k).down ≡ y ∷ rest
    → (w.conns k).client_open ≡ true → y.token ≡ ForDialog → Lower w a → ContentsHold w a
    → Contents w.client (put w.conns k (take_front (w.conns k) rest)) w.server w.trace w.log a
    → ContentsHold (one_cut (with_client (behind_reply w k rest) (leave_dialog w.client k)) k) a
dialog_fails w a k y rest is opn tok l i0 i = dialog_off_keeps w.client (put w.conns k (take_front (w.conns k) rest))
    w.server w.trace w.log a k (own_gone w a k y rest is opn tok l i0) i

dialogs : (w : World) (a : ℕ → ℕ) (k : ℕ) (y : Received) (rest : List Received) → (w.conns k).down ≡ y ∷ rest
    → (w.conns k).client_open ≡ true → y.token ≡ ForDialog → Lower w a → ContentsHold w a
    → Contents w.client (put w.conns k (take_front (w.conns k) rest)) w.server w.trace w.log a
    → (d : DialogStep) → dialog_step (w.client.stage k) y.reply.status ≡ d
    → ContentsHold (dialog_took (behind_reply w k rest) k y.reply d) a
dialogs w a k y rest is opn tok l i0 i (GoesOn stage) e =
    dialog_sent_keeps (went_on w.client k stage y.reply) (put w.conns k (take_front (w.conns k) rest)) w.server w.trace w.log a k 1 _
    (went_on_keeps w.client (put w.conns k (take_front (w.conns k) rest)) w.server w.trace w.log a k stage y.reply
    (not_tree (w.client.stage k) stage y.reply.status e) (λ j n st. by_kind j n st (makes_session stage) refl) i)
  where
    by_kind : (j : ℕ) → j ≢ k → w.client.stage j ≡ AskedTree → (b : Bool) → makes_session stage ≡ b
        → told_session w.client stage y.reply ≡ w.client.pending
    by_kind j n st true m = absurd (alone w a j k l n (sym (goes_on_makes (w.client.stage k) stage y.reply.status e) ∙ m) st)
    by_kind j n st false m = told_other w.client stage y.reply m
dialogs w a k y rest is opn tok l i0 i Accepts e =
    let st = accepts_stage (w.client.stage k) y.reply.status e in
    dialog_sent_keeps (accepted w.client k) (put w.conns k (take_front (w.conns k) rest)) w.server w.trace w.log a k 1 _
    (accepted_keeps w.client (put w.conns k (take_front (w.conns k) rest)) w.server w.trace w.log a k
    (l.ss.pending_unranked k st) (l.ss.pending_given k st).0 (λ o x z. (l.cr.attached o x z).0) i)
dialogs w a k y rest is opn tok l i0 i Binds e =
    ended_well (λ v. ContentsHold v a) (behind_reply w k rest) k w.client.session w.client.tree
    (λ _. bound_keeps w.client (put w.conns k (take_front (w.conns k) rest)) w.server w.trace w.log a k i)
    (λ dead newer. absurd (omega (arith, newer))) (dialog_fails w a k y rest is opn tok l i0 i)
dialogs w a k y rest is opn tok l i0 i Readies e =
    let st = readies_stage (w.client.stage k) y.reply.status e in let p = l.ss.pending_accepted k st in
    ended_well (λ v. ContentsHold v a) (behind_reply w k rest) k w.client.pending y.reply.tree_id
    (λ _. bound_keeps w.client (put w.conns k (take_front (w.conns k) rest)) w.server w.trace w.log a k i)
    (λ _ _. readied_keeps w.client (put w.conns k (take_front (w.conns k) rest)) w.server w.trace w.log a k y.reply st
    (subst (λ x. 0 < w.client.rank x) (sym p.0) p.1) (λ j n z. alone w a j k l n (asks_makes (w.client.stage k) st)
    z)
    (λ q. (l.ss.numbered_sessions q 0).0)
    (λ j n u h. let o = waited_down w.conns k y rest j n u is h in by_ops st j o.0 u o.1 (is_ops u.token) refl)
    (λ j n x h ops. let h2 = up_there w.conns k rest j n x h in let fr = l.ss.asked_fresh k j n x st h2 ops in (
      fr,
      by_test (w.server.present x.message.session_id) x.message.session_id
          (λ pr. fr (l.ss.present_accepted x.message.session_id pr (l.ss.ranked_up j n x h2 ops) ∙ sym p.0)) refl,
    ))
    i)
    (dialog_fails w a k y rest is opn tok l i0 i)
  where
    by_ops : w.client.stage k ≡ AskedTree → (j n : ℕ) (u : Received) → slice_get (w.conns j).down n ≡ Some u
        → (b : Bool) → is_ops u.token ≡ b → is_ops u.token ≡ false
    by_ops st j n u h false z = z
    by_ops st j n u h true z =
        absurd (no_some w.client.making k
        (l.ss.live_accepted (l.ss.current_down j n u h z (open_of_down w a l j n u h)).0).2
        (l.ss.making k (asks_makes (w.client.stage k) st)))

    by_test : (b : Bool) (x : ℕ) → (w.server.present x ≡ true → ⊥) → w.server.present x ≡ b → w.server.present x ≡ false
    by_test true x f z = absurd (f z)
    by_test false x f z = z
dialogs w a k y rest is opn tok l i0 i (Refuses status) e =
    dialog_refused_keeps w.client (put w.conns k (take_front (w.conns k) rest)) w.server w.trace w.log a k status
    (own_gone w a k y rest is opn tok l i0) i

-- ---- it takes a reply

takes_by : (w : World) (a : ℕ → ℕ) (k : ℕ) (y : Received) (rest : List Received) → (w.conns k).down ≡ y ∷ rest
    → (w.conns k).client_open ≡ true → Lower w a → ContentsHold w a → (t : Token) → y.token ≡ t
    → ContentsHold (took_by (behind_reply w k rest) k y.reply y.place t) a
takes_by w a k y rest is o l i ForDialog e =
    dialogs w a k y rest is o e l i (behind_keeps w.client w.conns w.server w.trace w.log a k y rest is i)
    (dialog_step (w.client.stage k) y.reply.status) refl
takes_by w a k y rest is o l i (ForOp g) e =
    took (behind_reply w k rest) a k g false y.reply y.place (behind_connections w.client w.conns a k y rest is l.cn)
    (behind_keeps w.client w.conns w.server w.trace w.log a k y rest is i)
    (told w a k g y rest false is o l i (ForOp g) refl e)
takes_by w a k y rest is o l i (ForAttach g) e =
    took (behind_reply w k rest) a k g true y.reply y.place (behind_connections w.client w.conns a k y rest is l.cn)
    (behind_keeps w.client w.conns w.server w.trace w.log a k y rest is i)
    (told w a k g y rest true is o l i (ForAttach g) refl e)

pub takes : (w : World) (a : ℕ → ℕ) (k : ℕ) → (w.conns k).client_open ≡ true → Lower w a → ContentsHold w a
    → (ys : List Received) → (w.conns k).down ≡ ys → ContentsHold (take_reply w k ys) a
takes w a k o l i [] is = i
takes w a k o l i (y ∷ rest) is = takes_by w a k y rest is o l i y.token refl
