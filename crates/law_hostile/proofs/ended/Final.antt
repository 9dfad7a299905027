-- A final response that binds nothing is the answer with which a session begins.
use Rattle.std.proofs.Common.{◌≡◌, ℕ, ◌==◌, Bool, true, false, not, if◌then◌else◌, refl, ap, eqb-true, None}
use Rattle.spec_exchange.specs.Status.{success, more_processing_required}
use Rattle.spec_exchange.specs.Commands.{Command, Unreadable, Aside, Setup, Logoff, TreeConnect, TreeDisconnect, Create, Close, Flush}
use Rattle.spec_exchange.specs.Commands.{Read, Write, Lock, Ioctl, ListDirectory, QueryFile, QueryVolume, SetInfo}
use Rattle.spec_exchange.specs.State.{Server, Message, Reply}
use Rattle.spec_exchange.specs.Network.{answer_to}
use Rattle.spec_commands.specs.ReplyBody.{seals_in}
use Rattle.spec_world.specs.Logon.{Stays, Interim, Final, progress, setup_progress, channel_in}
use Rattle.law_sessions.specs.sessions.Sessions.{is_new_setup}
use Rattle.law_sessions.proofs.sessions.Heard.{answered}

same_binding : (b d : Bool) (n m : ℕ) (e f : Bool) → Final b n e ≡ Final d m f → b ≡ d
same_binding b d n m e f q = cc

pub setup_final : (b d : Bool) (r : Reply) (channel : ℕ) (encrypts : Bool) → setup_progress b r ≡ Final d channel encrypts
    → (r.status ≡ success) × (b ≡ d)
setup_final b d r channel encrypts e = by (r.status == more_processing_required) (r.status == success) refl e
  where
    by : (m o : Bool) → (r.status == success) ≡ o
        → (if m then Interim b else if o then Final b (channel_in r.body) (seals_in r.body) else Stays) ≡ Final d channel encrypts
        → (r.status ≡ success) × (b ≡ d)
    by true o s q = absurd (cc)
    by false true s q =
        (eqb-true r.status success s, same_binding b d (channel_in r.body) channel (seals_in r.body) encrypts q)
    by false false s q = absurd (cc)

pub final_is : (c : Command) (r : Reply) (channel : ℕ) (encrypts : Bool) → progress c r ≡ Final false channel encrypts
    → (r.status ≡ success) × (is_new_setup c ≡ true)
unfolding is_new_setup
final_is (Setup request) r channel encrypts e =
    let q = setup_final request.binding false r channel encrypts e in (q.0, ap not q.1)
final_is (Unreadable status) r channel encrypts e = absurd (cc)
final_is (Aside status) r channel encrypts e = absurd (cc)
final_is Logoff r channel encrypts e = absurd (cc)
final_is (TreeConnect share) r channel encrypts e = absurd (cc)
final_is TreeDisconnect r channel encrypts e = absurd (cc)
final_is (Create request) r channel encrypts e = absurd (cc)
final_is (Close file query) r channel encrypts e = absurd (cc)
final_is (Flush file) r channel encrypts e = absurd (cc)
final_is (Read file at size minimum channel) r number encrypts e = absurd (cc)
final_is (Write file at bytes channel) r number encrypts e = absurd (cc)
final_is (Lock file index number elements) r channel encrypts e = absurd (cc)
final_is (Ioctl file code room) r channel encrypts e = absurd (cc)
final_is (ListDirectory file class restart single pattern room) r channel encrypts e = absurd (cc)
final_is (QueryFile file class room) r channel encrypts e = absurd (cc)
final_is (QueryVolume file class room) r channel encrypts e = absurd (cc)
final_is (SetInfo file setting) r channel encrypts e = absurd (cc)

pub begins_at_final : (s : Server) (now : ℕ) (m : Message) (channel : ℕ) (encrypts : Bool) → m.fault ≡ None
    → progress m.command (answer_to s now m m.command).reply ≡ Final false channel encrypts
    → (let f = answered s now m m.command refl in f.begins ≡ true)
begins_at_final s now m channel encrypts none is =
    let f = answered s now m m.command refl in
    let q = final_is m.command (answer_to s now m m.command).reply channel encrypts is in
    f.welcome q.0 q.1 none
