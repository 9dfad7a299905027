-- What isn't signed or sealed as owed is answered with no final response.
use Rattle.std.proofs.Common.{◌≡◌, ℕ, ◌==◌, Bool, true, false, ◌||◌, if◌then◌else◌, List, ◌⊎◌, inl, inr, refl, sym, ap}
use Rattle.std.proofs.Common.{subst, Option, Some, None}
use Rattle.std.specs.Prelude.{option_map}
use Rattle.law_server.proofs.tables.Logic.{either}
use Rattle.law_server.proofs.tables.Doors.{recorded, Finds, by_verdict}
use Rattle.spec_wire.specs.declared.messages.header.Header.{Header}
use Rattle.spec_exchange.specs.Status.{success, access_denied, more_processing_required, user_session_deleted}
use Rattle.spec_exchange.specs.Commands.{Command, Unreadable, Aside, Setup, Logoff, TreeConnect, TreeDisconnect, Create, Close, Flush}
use Rattle.spec_exchange.specs.Commands.{Read, Write, Lock, Ioctl, ListDirectory, QueryFile, QueryVolume, SetInfo, is_setup}
use Rattle.spec_exchange.specs.State.{Server, Message, Heard, Reply, Record}
use Rattle.spec_exchange.specs.Verdict.{Verdict, Refuse}
use Rattle.spec_exchange.specs.Check.{check, owed, has_session}
use Rattle.spec_exchange.specs.Effects.{apply}
use Rattle.spec_exchange.specs.Step.{step, without_room}
use Rattle.spec_exchange.specs.Network.{answer_to}
use Rattle.spec_commands.specs.CommandOf.{Told, heard_as, command_of, message_of}
use Rattle.spec_world.specs.Settings.{ServerSettings}
use Rattle.spec_world.specs.Ends.{ServerEnd, Logons}
use Rattle.spec_world.specs.Hearing.{Checked, is_misplaced}
use Rattle.spec_world.specs.Logon.{Stays, Interim, Final, progress, channel_in}
use Rattle.spec_world.specs.Connection.{heard_message, told_of, placed, misplaced}
use Rattle.spec_commands.specs.ReplyBody.{seals_in}

-- ---- it is refused with its fault, or with no session

abbrev pub IsDenied : ℕ → Verdict → Type 0
IsDenied f v = (v ≡ Refuse f) ⊎ (v ≡ Refuse user_session_deleted)

check_denies : (s : Server) (m : Message) (f : ℕ) → m.fault ≡ Some f → IsDenied f (check s m)
check_denies s m f e =
    either (IsDenied f) (is_setup m.command || has_session s m) (owed s m m.fault) (Refuse user_session_deleted)
    (λ _. inl (ap (owed s m) e)) (λ _. inr refl)

pub full_denies : (f : ℕ) (v : Verdict) → IsDenied f v → IsDenied f (without_room v)
full_denies f v (inl e) = inl (ap without_room e)
full_denies f v (inr e) = inr (ap without_room e)

found_denies : (t : Server) (m : Message) (v : Verdict) (f : ℕ) → m.fault ≡ Some f → Finds t m v → IsDenied f v
found_denies t m v f e (inl q) = subst (IsDenied f) (sym q) (check_denies t m f e)
found_denies t m v f e (inr q) = subst (IsDenied f) (sym q) (full_denies f (check t m) (check_denies t m f e))

abbrev pub Tells : ℕ → Reply → Type 0
Tells f r = (r.status ≡ f) ⊎ (r.status ≡ user_session_deleted)

pub told_by : (t : Server) (m : Message) (now : ℕ) (v : Verdict) (records : List Record) (f : ℕ) → IsDenied f v
    → Tells f (recorded (apply t m now v) records).reply
told_by t m now v records f (inl e) = inl (ap (λ (x : Verdict). (recorded (apply t m now x) records).reply.status) e)
told_by t m now v records f (inr e) = inr (ap (λ (x : Verdict). (recorded (apply t m now x) records).reply.status) e)

step_tells : (s : Server) (now : ℕ) (m : Message) (f : ℕ) → m.fault ≡ Some f → Tells f (step s now (Heard m)).reply
step_tells s now m f e =
    by_verdict (λ A. Tells f A.reply) s now m (λ t v records before finds. told_by t m now v records f (found_denies t m v f e finds))

-- ---- so it makes no session and binds no channel

setup_stays : (binding : Bool) (r : Reply) → Tells access_denied r
    → (if r.status == more_processing_required then Interim binding
    else if r.status == success then Final binding (channel_in r.body) (seals_in r.body)
    else Stays) ≡ Stays
setup_stays binding r (inl e) =
    ap (λ n. if n == more_processing_required then Interim binding
    else if n == success then Final binding (channel_in r.body) (seals_in r.body)
    else Stays) e
setup_stays binding r (inr e) =
    ap (λ n. if n == more_processing_required then Interim binding
    else if n == success then Final binding (channel_in r.body) (seals_in r.body)
    else Stays) e

stays_by : (s : Server) (now : ℕ) (m : Message) (c : Command) → m.fault ≡ Some access_denied → progress c (answer_to s now m c).reply ≡ Stays
stays_by s now m (Aside status) e = refl
stays_by s now m (Unreadable status) e = refl
stays_by s now m (Setup request) e =
    setup_stays request.binding (step s now (Heard m)).reply (step_tells s now m access_denied e)
stays_by s now m Logoff e = refl
stays_by s now m (TreeConnect share) e = refl
stays_by s now m TreeDisconnect e = refl
stays_by s now m (Create request) e = refl
stays_by s now m (Close file query) e = refl
stays_by s now m (Flush file) e = refl
stays_by s now m (Read file at size minimum channel) e = refl
stays_by s now m (Write file at bytes channel) e = refl
stays_by s now m (Lock file index number elements) e = refl
stays_by s now m (Ioctl file code room) e = refl
stays_by s now m (ListDirectory file class restart single pattern room) e = refl
stays_by s now m (QueryFile file class room) e = refl
stays_by s now m (QueryVolume file class room) e = refl
stays_by s now m (SetInfo file setting) e = refl

pub faulty_stays : (s : Server) (now : ℕ) (m : Message) → m.fault ≡ Some access_denied
    → progress m.command (answer_to s now m m.command).reply ≡ Stays
faulty_stays s now m e = stays_by s now m m.command e

-- ---- the message that is heard has the fault that the connection found

same_message : (x y : Message) → Some x ≡ Some y → x ≡ y
same_message x y e = cc

placed_fault : (t : Told) (h : Header) (broken : Bool) (o : Option Command) (m : Message)
    → placed broken (option_map (heard_as t h) o) ≡ Some m → t.fault ≡ m.fault
placed_fault t h true None m e = absurd (let q : None ≡ Some m = e in cc)
placed_fault t h false None m e = absurd (let q : None ≡ Some m = e in cc)
placed_fault t h true (Some c) m e = ap (λ (x : Message). x.fault) (same_message (misplaced (heard_as t h c)) m e)
placed_fault t h false (Some c) m e = ap (λ (x : Message). x.fault) (same_message (heard_as t h c) m e)

pub heard_fault : (z : ServerSettings) (L : Logons) (k : ℕ) (f : ServerEnd) (c : Checked) (m : Message) → heard_message z L k f c ≡ Some m
    → c.fault ≡ m.fault
unfolding message_of
heard_fault z L k f c m e = placed_fault (told_of z L k f c) c.header (is_misplaced c) (command_of (told_of z L k f c) c.header c.bytes) m e
