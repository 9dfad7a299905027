-- Where the session is gone, the check of it is the first to apply.
use Rattle.std.proofs.Common.{◌≡◌, ℕ, Bool, true, false, ◌||◌, List, inl, inr, refl, arith, sym, ◌∙◌, ap, subst, Some, slice_get}
use Rattle.spec_exchange.specs.Table.{is_at}
use Rattle.spec_exchange.specs.Status.{user_session_deleted}
use Rattle.spec_exchange.specs.Commands.{Command, Aside, Unreadable, Setup, Logoff, TreeConnect, TreeDisconnect, Create}
use Rattle.spec_exchange.specs.Commands.{Close, Flush, Read, Write, Lock, Ioctl, ListDirectory, QueryFile, QueryVolume}
use Rattle.spec_exchange.specs.Commands.{SetInfo, is_setup}
use Rattle.spec_exchange.specs.State.{Server, Message, Heard, Record}
use Rattle.spec_exchange.specs.Check.{has_session, check}
use Rattle.spec_exchange.specs.Effects.{apply}
use Rattle.spec_exchange.specs.Verdict.{Verdict, Refuse}
use Rattle.spec_exchange.specs.Step.{step, without_room}
use Rattle.spec_exchange.specs.Operations.{Op}
use Rattle.spec_exchange.specs.Client.{guid_for}
use Rattle.spec_exchange.specs.Network.{World, Sent, Token, ForDialog, ForOp, ForAttach, answer_to}
use Rattle.law_sessions.specs.messages.Connections.{Connections, its_request, create_at}
use Rattle.law_server.specs.tables.Fits.{Fits, OnPresent}
use Rattle.law_server.proofs.tables.Doors.{by_verdict, recorded, Finds}
use Rattle.law_server.proofs.tables.Logic.{either, at_of}
use Rattle.law_sessions.specs.sessions.Sessions.{is_ops}
use Rattle.law_sessions.proofs.sessions.Heard.{before_stays}
use Rattle.law_locks.specs.Locks.{Locks, open_at}
use Rattle.law_order.proofs.order.Requests.{ask_reads}
use Rattle.law_outcomes.specs.invariant.Parts.{SessionDeleted, GoneIsDeleted}

-- ---- what operations send comes to the checks, and is no SESSION_SETUP

abbrev pub is_checked : Command → Bool
is_checked (Aside status) = false
is_checked (Setup request) = false
is_checked _ = true

pub own_checked : (op : Op) (guid file slot number : ℕ) → is_checked (its_request op guid file slot number) ≡ true
unfolding its_request
own_checked op guid file slot number = grind arith

pub no_setup : (c : Command) → is_checked c ≡ true → is_setup c ≡ false
no_setup c e = grind arith

pub answer_step : (s : Server) (now : ℕ) (m : Message) (c : Command) → is_checked c ≡ true → answer_to s now m c ≡ step s now (Heard m)
answer_step s now m (Aside status) e = absurd (cc)
answer_step s now m (Unreadable status) e = refl
answer_step s now m (Setup request) e = absurd (cc)
answer_step s now m Logoff e = refl
answer_step s now m (TreeConnect share) e = refl
answer_step s now m TreeDisconnect e = refl
answer_step s now m (Create request) e = refl
answer_step s now m (Close file query) e = refl
answer_step s now m (Flush file) e = refl
answer_step s now m (Read file at size minimum channel) e = refl
answer_step s now m (Write file at bytes channel) e = refl
answer_step s now m (Lock file index number elements) e = refl
answer_step s now m (Ioctl file code room) e = refl
answer_step s now m (ListDirectory file class restart single pattern room) e = refl
answer_step s now m (QueryFile file class room) e = refl
answer_step s now m (QueryVolume file class room) e = refl
answer_step s now m (SetInfo file setting) e = refl

-- ---- the check of the session

pub both_off : (x y : Bool) → x ≡ false → y ≡ false → (x || y) ≡ true → ⊥
both_off x y e f h = absurd (grind arith)

no_channel : (s : Server) (m : Message) → OnPresent s → s.present m.session_id ≡ false → (b : Bool) → has_session s m
    ≡ b → has_session s m ≡ false
no_channel s m on gone false e = e
no_channel s m on gone true e =
    absurd (let p = on m.connection m.session_id (at_of m.session_id (s.session_on m.connection) e) in grind arith)

gone_check : (s : Server) (m : Message) → is_setup m.command ≡ false → has_session s m ≡ false → check s m ≡ Refuse user_session_deleted
gone_check s m e f = either (λ v. v ≡ Refuse user_session_deleted) (is_setup m.command || has_session s m) _ _
    (λ h. absurd (both_off (is_setup m.command) (has_session s m) e f h)) (λ _. refl)

gone_found : (t : Server) (m : Message) (v : Verdict) → check t m ≡ Refuse user_session_deleted → Finds t m v → v
    ≡ Refuse user_session_deleted
gone_found t m v c (inl e) = e ∙ c
gone_found t m v c (inr e) = e ∙ ap without_room c

gone_answer : (t : Server) (m : Message) (now : ℕ) (v : Verdict) (records : List Record) → v
    ≡ Refuse user_session_deleted → SessionDeleted (recorded (apply t m now v) records)
gone_answer t m now v records e = subst (λ u. SessionDeleted (recorded (apply t m now u) records)) (sym e) (record {
  status = refl;
  acted = refl;
  reached = refl;
  altered = refl;
})

gone_step : (s : Server) (now : ℕ) (m : Message) → is_setup m.command ≡ false → has_session s m ≡ false
    → SessionDeleted (step s now (Heard m))
gone_step s now m e f =
    by_verdict (λ A. SessionDeleted A) s now m
    (λ t v records b h. let on = (before_stays s now t b).session_on in gone_answer t m now v records
    (gone_found t m v (gone_check t m e (ap (λ g. is_at m.session_id (g m.connection)) on ∙ f)) h))

-- ---- 2

checked_of : (w : World) (a : ℕ → ℕ) (k n : ℕ) (x : Sent) → Connections w.client w.conns a → Locks w.client w.conns
    w.server a → slice_get (w.conns k).up n ≡ Some x → is_ops x.token ≡ true → (t : Token) → x.token ≡ t
    → is_checked x.message.command ≡ true
checked_of w a k n x cn lk h ops ForDialog tk = absurd (let z = ap is_ops tk in grind arith)
checked_of w a k n x cn lk h ops (ForOp g) tk = ap is_checked (cn.bodies k n g x h tk).1 ∙ own_checked (w.client.op g) _ _ _ _
checked_of w a k n x cn lk h ops (ForAttach g) tk =
    let q = lk.ask_up k n g x h tk in
    let r = ask_reads (w.client.op (create_at w.client g)) (guid_for w.client (create_at w.client g))
    (open_at w.client g) (cn.creates g q.0 q.1 q.2).2 in
    ap is_checked q.4 ∙ ap is_checked r.1.0

pub gone_deleted : (w : World) (a : ℕ → ℕ) → Connections w.client w.conns a → Fits w.server
    → Locks w.client w.conns w.server a → GoneIsDeleted w
gone_deleted w a cn f lk k n x h ops gone =
    let c = checked_of w a k n x cn lk h ops x.token refl in
    subst (λ A. SessionDeleted A) (sym (answer_step w.server w.moment x.message x.message.command c))
    (gone_step w.server w.moment x.message (no_setup x.message.command c) (no_channel w.server x.message f.on_present
    gone (has_session w.server x.message) refl))
