-- What a dialog sends reaches no open.
use Rattle.std.proofs.Common.{◌≡◌, ℕ, ◌==◌, nat_le, Bool, true, false, not, ◌&&◌, ◌||◌, List, refl, sym, subst, Option}
use Rattle.std.proofs.Common.{Some, None, is_some, inl, inr}
use Rattle.spec_exchange.specs.Texts.{same_name}
use Rattle.spec_exchange.specs.Commands.{Command, Aside, Unreadable, Setup, Logoff, TreeConnect, TreeDisconnect, Create}
use Rattle.spec_exchange.specs.Commands.{Close, Flush, Read, Write, Lock, Ioctl, ListDirectory, QueryFile, QueryVolume}
use Rattle.spec_exchange.specs.Commands.{SetInfo, SetupRequest, Shows, Begins, Bad, Refused, Logon, form, is_setup}
use Rattle.spec_exchange.specs.State.{Server, Message, Heard, Answer}
use Rattle.spec_exchange.specs.Opens.{max_ids}
use Rattle.spec_exchange.specs.CheckSetup.{is_new, is_binding, session_check, second_token, first_token}
use Rattle.spec_exchange.specs.CheckSetup.{granted_session, binding_check, live_binding, second_binding, first_binding}
use Rattle.spec_exchange.specs.CheckSetup.{granted_binding, tree_check, max_sessions, max_channels, max_numbers}
use Rattle.spec_exchange.specs.CheckSetup.{count_channels, pipes_name, no_tree_left}
use Rattle.spec_exchange.specs.Check.{has_session, command_check, formed, owed, check}
use Rattle.spec_exchange.specs.Effects.{apply}
use Rattle.spec_exchange.specs.Verdict.{Verdict, Refuse, Give, KeepRefusal, Repeat, Attach, Make, TurnDown, Tell, Show}
use Rattle.spec_exchange.specs.Verdict.{KeepSlot, PutRanges, Alter, CloseOpen, Challenge, ChallengeBinding, Begin, Join}
use Rattle.spec_exchange.specs.Verdict.{EndSession, AddTree, DropTree}
use Rattle.spec_exchange.specs.Step.{step, without_room}
use Rattle.spec_exchange.specs.Network.{answer_to}
use Rattle.law_server.proofs.tables.Doors.{by_verdict, Finds}
use Rattle.law_server.proofs.tables.Logic.{either}
use Rattle.law_sessions.specs.sessions.Sessions.{is_dialog}

-- a verdict of a dialog's message
abbrev is_calm : Verdict → Bool
is_calm (Refuse status) = true
is_calm Challenge = true
is_calm (ChallengeBinding session) = true
is_calm (Begin session user previous request is_quiet) = true
is_calm (Join session) = true
is_calm (AddTree pipes) = true
is_calm _ = false

record Calm (v : Verdict) : Type 0 where
  calm : is_calm v ≡ true

granted_calm : (s : Server) (m : Message) (r : SetupRequest) (user : List ℕ) → Calm (granted_session s m r user)
granted_calm s m r user = either Calm (s.encrypts && (r.cipher == 0)) _ _ (λ _. record {
  calm = refl;
}) (λ _. either Calm (nat_le max_sessions s.sessions) _ _ (λ _. record { calm = refl }) (λ _. record {
  calm = refl;
}))

second_calm : (s : Server) (m : Message) (r : SetupRequest) (t : Shows) → Calm (second_token s m r t)
second_calm s m r Begins = record { calm = refl }
second_calm s m r Bad = record { calm = refl }
second_calm s m r Refused = record { calm = refl }
second_calm s m r (Logon user) = granted_calm s m r user

first_calm : (s : Server) (t : Shows) → Calm (first_token s t)
first_calm s Begins = either Calm (nat_le max_ids s.session_ids_given) _ _ (λ _. record { calm = refl }) (λ _. record { calm = refl })
first_calm s Bad = record { calm = refl }
first_calm s Refused = record { calm = refl }
first_calm s (Logon user) = record { calm = refl }

session_calm : (s : Server) (m : Message) (r : SetupRequest) → Calm (session_check s m r)
session_calm s m r =
    either Calm (m.session_id == 0) _ _ (λ _. either Calm (is_some (s.session_on m.connection)) _ _ (λ _. record {
      calm = refl;
    }) (λ _. first_calm s r.shows))
    (λ _. either Calm (s.present m.session_id) _ _ (λ _. record {
      calm = refl;
    }) (λ _. either Calm (is_new m.session_id (s.making m.connection)) _ _
    (λ _. second_calm s m r r.shows) (λ _. record { calm = refl })))

bound_calm : (s : Server) (m : Message) (user : List ℕ) → Calm (granted_binding s m user)
bound_calm s m user =
    either Calm (not (same_name user (s.user m.session_id))) _ _ (λ _. record { calm = refl })
    (λ _. either Calm (nat_le max_channels (count_channels s.session_on s.connections m.session_id)) _ _ (λ _. record {
      calm = refl;
    }) (λ _. either Calm (nat_le max_numbers (s.channel_numbers_drawn m.session_id)) _ _ (λ _. record {
      calm = refl;
    }) (λ _. record { calm = refl })))

second_binding_calm : (s : Server) (m : Message) (t : Shows) → Calm (second_binding s m t)
second_binding_calm s m Begins = record { calm = refl }
second_binding_calm s m Bad = record { calm = refl }
second_binding_calm s m Refused = record { calm = refl }
second_binding_calm s m (Logon user) = bound_calm s m user

first_binding_calm : (m : Message) (t : Shows) → Calm (first_binding m t)
first_binding_calm m Begins = record { calm = refl }
first_binding_calm m Bad = record { calm = refl }
first_binding_calm m Refused = record { calm = refl }
first_binding_calm m (Logon user) = record { calm = refl }

live_binding_calm : (s : Server) (m : Message) (r : SetupRequest) → Calm (live_binding s m r)
live_binding_calm s m r =
    either Calm (not r.signed) _ _ (λ _. record { calm = refl })
    (λ _. either Calm (not (m.client_guid == s.client m.session_id)) _ _ (λ _. record {
      calm = refl;
    }) (λ _. either Calm
    (not ((r.cipher == s.cipher m.session_id) && (r.signing == s.signing m.session_id))) _ _ (λ _. record {
      calm = refl;
    })
    (λ _. either Calm (is_some (s.session_on m.connection)) _ _ (λ _. record {
      calm = refl;
    }) (λ _. either Calm (not r.verified) _ _ (λ _. record { calm = refl })
    (λ _. either Calm (is_binding m.session_id (s.making m.connection)) _ _ (λ _. second_binding_calm s m r.shows)
    (λ _. first_binding_calm m r.shows))))))

binding_calm : (s : Server) (m : Message) (r : SetupRequest) → Calm (binding_check s m r)
binding_calm s m r =
    either Calm (s.present m.session_id) _ _ (λ _. live_binding_calm s m r)
    (λ _. either Calm (not (is_new m.session_id (s.making m.connection))) _ _ (λ _. record {
      calm = refl;
    }) (λ _. either Calm (not r.signed) _ _ (λ _. record { calm = refl }) (λ _. record {
      calm = refl;
    })))

tree_calm : (s : Server) (m : Message) (share : List ℕ) → Calm (tree_check s m share)
tree_calm s m share =
    either Calm (no_tree_left s m.session_id) _ _ (λ _. record { calm = refl })
    (λ _. either Calm (same_name share pipes_name) _ _ (λ _. record {
      calm = refl;
    }) (λ _. either Calm (same_name share s.share) _ _ (λ _. record { calm = refl }) (λ _. record {
      calm = refl;
    })))

command_calm : (s : Server) (m : Message) (c : Command) → is_dialog c ≡ true → Calm (command_check s m c)
unfolding is_dialog
command_calm s m (Unreadable status) e = record { calm = refl }
command_calm s m (Setup request) e = either Calm request.binding _ _ (λ _. binding_calm s m request) (λ _. session_calm s m request)
command_calm s m (TreeConnect share) e = tree_calm s m share
command_calm s m (Aside status) e = record { calm = refl }
command_calm s m Logoff e = absurd (cc)
command_calm s m TreeDisconnect e = absurd (cc)
command_calm s m (Create request) e = absurd (cc)
command_calm s m (Close file query) e = absurd (cc)
command_calm s m (Flush file) e = absurd (cc)
command_calm s m (Read file at size minimum channel) e = absurd (cc)
command_calm s m (Write file at bytes channel) e = absurd (cc)
command_calm s m (Lock file index number elements) e = absurd (cc)
command_calm s m (Ioctl file code room) e = absurd (cc)
command_calm s m (ListDirectory file class restart single pattern room) e = absurd (cc)
command_calm s m (QueryFile file class room) e = absurd (cc)
command_calm s m (QueryVolume file class room) e = absurd (cc)
command_calm s m (SetInfo file setting) e = absurd (cc)

formed_calm : (s : Server) (m : Message) (f : Option ℕ) → is_dialog m.command ≡ true → Calm (formed s m f)
formed_calm s m (Some status) e = record { calm = refl }
formed_calm s m None e = command_calm s m m.command e

owed_calm : (s : Server) (m : Message) (f : Option ℕ) → is_dialog m.command ≡ true → Calm (owed s m f)
owed_calm s m (Some status) e = record { calm = refl }
owed_calm s m None e = formed_calm s m (form m.command) e

check_calm : (s : Server) (m : Message) → is_dialog m.command ≡ true → Calm (check s m)
check_calm s m e = either Calm (is_setup m.command || has_session s m) _ _ (λ _. owed_calm s m m.fault e) (λ _. record { calm = refl })

calm_without_room : (v : Verdict) → is_calm v ≡ true → Calm (without_room v)
calm_without_room (Refuse status) h = record { calm = refl }
calm_without_room (Give body) h = absurd (cc)
calm_without_room (KeepRefusal guid status) h = absurd (cc)
calm_without_room (Repeat o r) h = absurd (cc)
calm_without_room (Attach o r) h = absurd (cc)
calm_without_room (Make r found action) h = absurd (cc)
calm_without_room (TurnDown o status) h = absurd (cc)
calm_without_room (Tell o body) h = absurd (cc)
calm_without_room (Show o last body) h = absurd (cc)
calm_without_room (KeepSlot o index number status elements) h = absurd (cc)
calm_without_room (PutRanges o index number ranges elements) h = absurd (cc)
calm_without_room (Alter o change body) h = absurd (cc)
calm_without_room (CloseOpen o body) h = absurd (cc)
calm_without_room Challenge h = record { calm = refl }
calm_without_room (ChallengeBinding session) h = record { calm = refl }
calm_without_room (Begin session user previous r is_quiet) h = record { calm = refl }
calm_without_room (Join session) h = record { calm = refl }
calm_without_room (EndSession session is_quiet) h = absurd (cc)
calm_without_room (AddTree pipes) h = record { calm = refl }
calm_without_room DropTree h = absurd (cc)

-- it reaches no open and changes no file
pub record Aloof (A : Answer) : Type 0 where
  pub reached : A.reached ≡ None
  pub altered : A.altered ≡ None

calm_aloof : (s : Server) (m : Message) (now : ℕ) (v : Verdict) → is_calm v ≡ true → Aloof (apply s m now v)
calm_aloof s m now (Refuse status) h = record { reached = refl; altered = refl }
calm_aloof s m now (Give body) h = absurd (cc)
calm_aloof s m now (KeepRefusal guid status) h = absurd (cc)
calm_aloof s m now (Repeat o r) h = absurd (cc)
calm_aloof s m now (Attach o r) h = absurd (cc)
calm_aloof s m now (Make r found action) h = absurd (cc)
calm_aloof s m now (TurnDown o status) h = absurd (cc)
calm_aloof s m now (Tell o body) h = absurd (cc)
calm_aloof s m now (Show o last body) h = absurd (cc)
calm_aloof s m now (KeepSlot o index number status elements) h = absurd (cc)
calm_aloof s m now (PutRanges o index number ranges elements) h = absurd (cc)
calm_aloof s m now (Alter o change body) h = absurd (cc)
calm_aloof s m now (CloseOpen o body) h = absurd (cc)
calm_aloof s m now Challenge h = record { reached = refl; altered = refl }
calm_aloof s m now (ChallengeBinding session) h = record { reached = refl; altered = refl }
calm_aloof s m now (Begin session user previous r is_quiet) h = record { reached = refl; altered = refl }
calm_aloof s m now (Join session) h = record { reached = refl; altered = refl }
calm_aloof s m now (EndSession session is_quiet) h = absurd (cc)
calm_aloof s m now (AddTree pipes) h = record { reached = refl; altered = refl }
calm_aloof s m now DropTree h = absurd (cc)

found_calm : (t : Server) (m : Message) (v : Verdict) → is_dialog m.command ≡ true → Finds t m v → is_calm v ≡ true
found_calm t m v d (inl e) = let c = check_calm t m d in subst (λ u. is_calm u ≡ true) (sym e) c.calm
found_calm t m v d (inr e) = let c = check_calm t m d in let w = calm_without_room (check t m) c.calm in
    subst (λ u. is_calm u ≡ true) (sym e) w.calm

step_aloof : (s : Server) (now : ℕ) (m : Message) → is_dialog m.command ≡ true → Aloof (step s now (Heard m))
step_aloof s now m d = by_verdict Aloof s now m (λ t v records b f. let a = calm_aloof t m now v (found_calm t m v d f)
    in record { reached = a.reached; altered = a.altered })

pub aloof : (s : Server) (now : ℕ) (m : Message) (c : Command) → is_dialog m.command ≡ true → Aloof (answer_to s now m c)
aloof s now m (Aside status) d = record { reached = refl; altered = refl }
aloof s now m (Unreadable status) d = step_aloof s now m d
aloof s now m (Setup request) d = step_aloof s now m d
aloof s now m Logoff d = step_aloof s now m d
aloof s now m (TreeConnect share) d = step_aloof s now m d
aloof s now m TreeDisconnect d = step_aloof s now m d
aloof s now m (Create request) d = step_aloof s now m d
aloof s now m (Close file query) d = step_aloof s now m d
aloof s now m (Flush file) d = step_aloof s now m d
aloof s now m (Read file at size minimum channel) d = step_aloof s now m d
aloof s now m (Write file at bytes channel) d = step_aloof s now m d
aloof s now m (Lock file index number elements) d = step_aloof s now m d
aloof s now m (Ioctl file code room) d = step_aloof s now m d
aloof s now m (ListDirectory file class restart single pattern room) d = step_aloof s now m d
aloof s now m (QueryFile file class room) d = step_aloof s now m d
aloof s now m (QueryVolume file class room) d = step_aloof s now m d
aloof s now m (SetInfo file setting) d = step_aloof s now m d
