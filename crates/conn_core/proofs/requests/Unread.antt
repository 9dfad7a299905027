-- A SESSION_SETUP whose body doesn't read is refused, so nothing comes of it: its token isn't looked at.
use Rattle.std.proofs.Common.{◌≡◌, ℕ, ◌==◌, nat_le, Bool, true, false, ◌||◌, if◌then◌else◌, ◌++◌, Option, Some, None, refl, ap, ◌∙◌}
use Rattle.spec_exchange.specs.Status.{success, invalid_parameter, user_session_deleted, more_processing_required}
use Rattle.spec_exchange.specs.Commands.{Command, Setup, SetupRequest, form, is_setup}
use Rattle.spec_exchange.specs.State.{Server, Message, Reply, Answer, Heard}
use Rattle.spec_exchange.specs.Check.{check, formed, has_session, owed}
use Rattle.spec_exchange.specs.Effects.{apply}
use Rattle.spec_exchange.specs.Records.{fits, origin_at}
use Rattle.spec_exchange.specs.Step.{Says, where_it_fits, event_answer, expire, expire_records, expiring, behind_expiry}
use Rattle.spec_exchange.specs.Step.{due, step, with_deadlines}
use Rattle.spec_exchange.specs.Verdict.{Verdict, Refuse}
use Rattle.spec_world.specs.Logon as logon
use Rattle.conn_core.specs.frame_messages.Checking.{IsDenied}
use Rattle.spec_commands.specs.ReplyBody.{seals_in}

-- ---- the status of a message that is refused, whatever expires in front of it

by_bool : (b : Bool) (x y : Answer) (status : ℕ) → x.reply.status ≡ status → y.reply.status ≡ status
    → (if b then x else y).reply.status ≡ status
by_bool true x y status p q = p
by_bool false x y status p q = q

ruled : (s : Server) (now : ℕ) (m : Message) (status : ℕ) → check s m ≡ Refuse status
    → (event_answer s now (Heard m)).reply.status ≡ status
unfolding fits
ruled s now m status e = ap (λ (v : Verdict). (where_it_fits s now (Says m v) (apply s m now v)).reply.status) e

applied : (s : Server) (now : ℕ) (m : Message) (status : ℕ) → check s m ≡ Refuse status
    → (apply s m now (check s m)).reply.status ≡ status
applied s now m status e = ap (λ (v : Verdict). (apply s m now v).reply.status) e

expired : (s : Server) (now : ℕ) (m : Message) (status : ℕ) (o : Option ℕ) → ((t : Server) → check t m ≡ Refuse status)
    → (expiring s now (Heard m) o).reply.status ≡ status
expired s now m status None e = ruled s now m status (e s)
expired s now m status (Some o) e =
    let A = apply (expire s o) m now (check (expire s o) m) in
    let front = expire_records s (origin_at m.connection) o in
    by_bool (nat_le 65536 s.expired_count) (event_answer s now (Heard m)) (behind_expiry s now (Heard m) front A) status
    (ruled s now m status (e s))
    (by_bool (fits s (front ++ A.records)) (record A { records = front ++ A.records }) (event_answer s now (Heard m)) status
    (applied (expire s o) now m status (e (expire s o))) (ruled s now m status (e s)))

pub refused_step : (s : Server) (now : ℕ) (m : Message) (status : ℕ) → ((t : Server) → check t m ≡ Refuse status)
    → (step s now (Heard m)).reply.status ≡ status
refused_step s now m status e = expired (with_deadlines s now) now m status (due (with_deadlines s now) now) e

-- ---- a SESSION_SETUP that doesn't read

form_if : (b : Bool) → b ≡ false → (if b then None else Some invalid_parameter) ≡ Some invalid_parameter
form_if true e = absurd cc
form_if false e = refl

-- what it is refused with
abbrev pub refusal : Option ℕ → ℕ
refusal (Some status) = status
refusal None = invalid_parameter

owed_unread : (t : Server) (m : Message) (r : SetupRequest) (fault : Option ℕ) → m.command ≡ Setup r → r.readable ≡ false
    → owed t m fault ≡ Refuse (refusal fault)
owed_unread t m r (Some status) command unread = refl
owed_unread t m r None command unread =
    ap (λ (c : Command). formed t m (form c)) command
    ∙ ap (λ (o : Option ℕ). formed t m o) (form_if r.readable unread)

check_unread : (t : Server) (m : Message) (r : SetupRequest) → m.command ≡ Setup r → r.readable ≡ false
    → check t m ≡ Refuse (refusal m.fault)
check_unread t m r command unread =
    ap (λ (c : Command). if is_setup c || has_session t m then owed t m m.fault else Refuse user_session_deleted) command
    ∙ owed_unread t m r m.fault command unread

-- neither status lets a logon go on
stays : (binding : Bool) (r : Reply) (fault : Option ℕ) → IsDenied fault → r.status ≡ refusal fault
    → logon.setup_progress binding r ≡ logon.Stays
stays binding r None denied e =
    ap (λ (n : ℕ). if n == more_processing_required then logon.Interim binding
    else if n == success then logon.Final binding (logon.channel_in r.body) (seals_in r.body) else logon.Stays) e
stays binding r (Some status) denied e =
    ap (λ (n : ℕ). if n == more_processing_required then logon.Interim binding
    else if n == success then logon.Final binding (logon.channel_in r.body) (seals_in r.body) else logon.Stays) (e ∙ denied)

pub unread_stays : (s : Server) (now : ℕ) (m : Message) (r : SetupRequest) → m.command ≡ Setup r → r.readable ≡ false
    → IsDenied m.fault → logon.progress m.command (step s now (Heard m)).reply ≡ logon.Stays
unread_stays s now m r command unread denied =
    ap (λ (c : Command). logon.progress c (step s now (Heard m)).reply) command
    ∙ stays r.binding (step s now (Heard m)).reply m.fault denied
    (refused_step s now m (refusal m.fault) (λ t. check_unread t m r command unread))
