-- A verdict of the checks can be carried out.
use Rattle.std.proofs.Common.{◌≡◌, ◌⊎◌, inl, inr, ℕ, ◌+◌, ◌-◌, ◌==◌, ◌<◌, nat_le, nat_lt, Bool, true, false, not, ◌&&◌, ◌||◌}
use Rattle.std.proofs.Common.{if◌then◌else◌, List, [], ◌∷◌, length, refl, arith, sym, subst, ◌∙◌, ap, Option, Some, None, is_some}
use Rattle.std.proofs.lemmas.Bool.{eqb-false}
use Rattle.std.proofs.lemmas.Bool.Decides.{nat_tests}
use Rattle.spec_exchange.specs.Check.{check, owed, formed, command_check, has_session}
use Rattle.spec_exchange.specs.CheckCreate.{refused_by}
use Rattle.spec_exchange.specs.CheckOpen.{file_of}
use Rattle.spec_exchange.specs.CheckSetup.{binding_check, count_channels, first_binding, first_token, granted_binding, is_binding}
use Rattle.spec_exchange.specs.CheckSetup.{granted_session, is_new, max_channels, max_numbers, max_sessions, no_tree_left, pipes_name}
use Rattle.spec_exchange.specs.CheckSetup.{previous_of, second_binding, second_token, session_check, setup_check, tree_check}
use Rattle.spec_exchange.specs.Commands.{Bad, Begins, Command, CreateRequest, Durable, Logon, Refused, Rename, Setting, SetAllocation}
use Rattle.spec_exchange.specs.Commands.{SetBasic, SetDelete, SetEnd, Setup, SetupRequest, Shows, TreeConnect, form, is_setup}
use Rattle.spec_exchange.specs.Commands.{SetPosition, SetMode}
use Rattle.spec_exchange.specs.Content.{is_empty}
use Rattle.spec_exchange.specs.Files.{passes_room, root, used}
use Rattle.spec_exchange.specs.Opens.{max_ids}
use Rattle.spec_exchange.specs.State.{Body, Message, Server}
use Rattle.spec_exchange.specs.Status.{disk_full}
use Rattle.spec_exchange.specs.Step.{without_room}
use Rattle.spec_exchange.specs.Texts.{same_name}
use Rattle.spec_exchange.specs.Verdict.{AddTree, Alter, Attach, Begin, Challenge, ChallengeBinding, Change, CloseOpen, DropTree}
use Rattle.spec_exchange.specs.Verdict.{EndSession, Give, Join, KeepRefusal, KeepSlot, Make, PutBytes, PutEnd, PutNothing}
use Rattle.spec_exchange.specs.Verdict.{PutRanges, Refuse, Repeat, Show, Tell, TurnDown, Verdict}
use Rattle.law_server.specs.tables.Fits.{Fits}
use Rattle.law_server.proofs.tables.Checked.{checked, lesser}
use Rattle.law_server.proofs.tables.Found.{AlterFacts, Facts, MakeFacts, SettingFacts, SettingSays, WriteFacts, setting_change}
use Rattle.law_server.proofs.tables.Logic.{either, front_of}
use Rattle.server_checks.specs.verdicts.Views.{bytes_in, create_in, elements_in, path_in, path_in_setting}
use Rattle.server_effects.specs.Able.{Able, AbleToChange, AbleToMake, IsChangeOf}

-- ---- numbers that are left

-- where a verdict gives a number, one is left
abbrev pub OneMore : Server → Message → Verdict → Type 0
OneMore s m (Refuse status) = Unit {0}
OneMore s m (Give body) = Unit {0}
OneMore s m (KeepRefusal guid status) = Unit {0}
OneMore s m (Repeat o r) = Unit {0}
OneMore s m (Attach o r) = Unit {0}
OneMore s m (Make r found action) = Unit {0}
OneMore s m (TurnDown o status) = Unit {0}
OneMore s m (Tell o body) = Unit {0}
OneMore s m (Show o last body) = Unit {0}
OneMore s m (KeepSlot o index number status elements) = Unit {0}
OneMore s m (PutRanges o index number ranges elements) = Unit {0}
OneMore s m (Alter o change body) = Unit {0}
OneMore s m (CloseOpen o body) = Unit {0}
OneMore s m Challenge = Unit {0}
OneMore s m (ChallengeBinding session) = Unit {0}
OneMore s m (Begin session user previous r is_quiet) = Unit {0}
OneMore s m (Join session) = nat_le max_numbers (s.channel_numbers_drawn session) ≡ false
OneMore s m (EndSession session is_quiet) = Unit {0}
OneMore s m (AddTree pipes) = no_tree_left s m.session_id ≡ false
OneMore s m DropTree = Unit {0}

granted_left : (s : Server) (m : Message) (user : List ℕ) → OneMore s m (granted_binding s m user)
granted_left s m user =
    either (λ v. OneMore s m v) (not (same_name user (s.user m.session_id))) _ _ (λ _. tt)
    (λ _. either (λ v. OneMore s m v) (nat_le max_channels (count_channels s.session_on s.connections m.session_id)) _ _ (λ _. tt)
    (λ _. either (λ v. OneMore s m v) (nat_le max_numbers (s.channel_numbers_drawn m.session_id)) _ _ (λ _. tt) (λ e. e)))

second_binding_left : (s : Server) (m : Message) (h : Shows) → OneMore s m (second_binding s m h)
second_binding_left s m Begins = tt
second_binding_left s m Bad = tt
second_binding_left s m Refused = tt
second_binding_left s m (Logon user) = granted_left s m user

first_binding_left : (s : Server) (m : Message) (h : Shows) → OneMore s m (first_binding m h)
first_binding_left s m Begins = tt
first_binding_left s m Bad = tt
first_binding_left s m Refused = tt
first_binding_left s m (Logon user) = tt

binding_left : (s : Server) (m : Message) (r : SetupRequest) → OneMore s m (binding_check s m r)
binding_left s m r =
    either (λ v. OneMore s m v) (s.present m.session_id) _ _
    (λ _. either (λ v. OneMore s m v) (not r.signed) _ _ (λ _. tt)
    (λ _. either (λ v. OneMore s m v) (not (m.client_guid == s.client m.session_id)) _ _ (λ _. tt)
    (λ _. either (λ v. OneMore s m v) (not ((r.cipher == s.cipher m.session_id) && (r.signing == s.signing m.session_id))) _ _ (λ _. tt)
    (λ _. either (λ v. OneMore s m v) (is_some (s.session_on m.connection)) _ _ (λ _. tt)
    (λ _. either (λ v. OneMore s m v) (not r.verified) _ _ (λ _. tt)
    (λ _. either (λ v. OneMore s m v) (is_binding m.session_id (s.making m.connection)) _ _
    (λ _. second_binding_left s m r.shows) (λ _. first_binding_left s m r.shows)))))))
    (λ _. either (λ v. OneMore s m v) (not (is_new m.session_id (s.making m.connection))) _ _ (λ _. tt)
    (λ _. either (λ v. OneMore s m v) (not r.signed) _ _ (λ _. tt) (λ _. tt)))

granted_session_left : (s : Server) (m : Message) (r : SetupRequest) (user : List ℕ) → OneMore s m (granted_session s m r user)
granted_session_left s m r user =
    either (λ v. OneMore s m v) (s.encrypts && (r.cipher == 0)) _ _ (λ _. tt)
    (λ _. either (λ v. OneMore s m v) (nat_le max_sessions s.sessions) _ _ (λ _. tt) (λ _. tt))

second_left : (s : Server) (m : Message) (r : SetupRequest) (h : Shows) → OneMore s m (second_token s m r h)
second_left s m r Begins = tt
second_left s m r Bad = tt
second_left s m r Refused = tt
second_left s m r (Logon user) = granted_session_left s m r user

first_left : (s : Server) (m : Message) (h : Shows) → OneMore s m (first_token s h)
first_left s m Begins = either (λ v. OneMore s m v) (nat_le max_ids s.session_ids_given) _ _ (λ _. tt) (λ _. tt)
first_left s m Bad = tt
first_left s m Refused = tt
first_left s m (Logon user) = tt

session_left : (s : Server) (m : Message) (r : SetupRequest) → OneMore s m (session_check s m r)
session_left s m r =
    either (λ v. OneMore s m v) (m.session_id == 0) _ _
    (λ _. either (λ v. OneMore s m v) (is_some (s.session_on m.connection)) _ _ (λ _. tt) (λ _. first_left s m r.shows))
    (λ _. either (λ v. OneMore s m v) (s.present m.session_id) _ _ (λ _. tt)
    (λ _. either (λ v. OneMore s m v) (is_new m.session_id (s.making m.connection)) _ _ (λ _. second_left s m r r.shows) (λ _. tt)))

setup_left : (s : Server) (m : Message) (r : SetupRequest) → OneMore s m (setup_check s m r)
setup_left s m r = either (λ v. OneMore s m v) r.binding _ _ (λ _. binding_left s m r) (λ _. session_left s m r)

tree_left : (s : Server) (m : Message) (share : List ℕ) → OneMore s m (tree_check s m share)
tree_left s m share =
    either (λ v. OneMore s m v) (no_tree_left s m.session_id) _ _ (λ _. tt)
    (λ e. either (λ v. OneMore s m v) (same_name share pipes_name) _ _ (λ _. e)
    (λ _. either (λ v. OneMore s m v) (same_name share s.share) _ _ (λ _. e) (λ _. tt)))

formed_left : (s : Server) (m : Message) → OneMore s m (command_check s m m.command) → (u : Option ℕ) → OneMore s m (formed s m u)
formed_left s m h (Some status) = tt
formed_left s m h None = h

owed_left : (s : Server) (m : Message) → OneMore s m (command_check s m m.command) → (u : Option ℕ) → OneMore s m (owed s m u)
owed_left s m h (Some status) = tt
owed_left s m h None = formed_left s m h (form m.command)

-- what the check of its command leaves, the checks of a message do
checked_left : (s : Server) (m : Message) (c : Command) → m.command ≡ c → OneMore s m (command_check s m c) → OneMore s m (check s m)
checked_left s m c e h =
    let k : OneMore s m (command_check s m m.command) = subst (λ (d : Command). OneMore s m (command_check s m d)) (sym e) h in
    either (λ v. OneMore s m v) (is_setup m.command || has_session s m) _ _ (λ _. owed_left s m k m.fault) (λ _. tt)

left_of : (s : Server) (m : Message) (v : Verdict) → check s m ≡ v → Facts s m v → OneMore s m v
left_of s m (Refuse status) e f = tt
left_of s m (Give body) e f = tt
left_of s m (KeepRefusal guid status) e f = tt
left_of s m (Repeat o r) e f = tt
left_of s m (Attach o r) e f = tt
left_of s m (Make r found action) e f = tt
left_of s m (TurnDown o status) e f = tt
left_of s m (Tell o body) e f = tt
left_of s m (Show o last body) e f = tt
left_of s m (KeepSlot o index number status elements) e f = tt
left_of s m (PutRanges o index number ranges elements) e f = tt
left_of s m (Alter o change body) e f = tt
left_of s m (CloseOpen o body) e f = tt
left_of s m Challenge e f = tt
left_of s m (ChallengeBinding session) e f = tt
left_of s m (Begin session user previous r is_quiet) e f = tt
left_of s m (Join session) e f = subst (λ (v : Verdict). OneMore s m v) e
    (checked_left s m (Setup f.binding.request) f.binding.command (setup_left s m f.binding.request))
left_of s m (EndSession session is_quiet) e f = tt
left_of s m (AddTree pipes) e f = subst (λ (v : Verdict). OneMore s m v) e
    (checked_left s m (TreeConnect f.share) f.command (tree_left s m f.share))
left_of s m DropTree e f = tt

refused_left : (s : Server) (m : Message) (u : Option Durable) (status : ℕ) → OneMore s m (refused_by u status)
refused_left s m None status = tt
refused_left s m (Some d) status = tt

lesser_left : (s : Server) (m : Message) (v : Verdict) → OneMore s m v → OneMore s m (without_room v)
lesser_left s m (Refuse status) h = tt
lesser_left s m (Give body) h = tt
lesser_left s m (KeepRefusal guid status) h = tt
lesser_left s m (Repeat o r) h = tt
lesser_left s m (Attach o r) h = tt
lesser_left s m (Make r found action) h = refused_left s m r.durable disk_full
lesser_left s m (TurnDown o status) h = tt
lesser_left s m (Tell o body) h = tt
lesser_left s m (Show o last body) h = tt
lesser_left s m (KeepSlot o index number status elements) h = tt
lesser_left s m (PutRanges o index number ranges elements) h = tt
lesser_left s m (Alter o change body) h = tt
lesser_left s m (CloseOpen o body) h = tt
lesser_left s m Challenge h = tt
lesser_left s m (ChallengeBinding session) h = tt
lesser_left s m (Begin session user previous r is_quiet) h = tt
lesser_left s m (Join session) h = h
lesser_left s m (EndSession session is_quiet) h = tt
lesser_left s m (AddTree pipes) h = h
lesser_left s m DropTree h = tt

-- ---- single verdicts

unreached : (a b : ℕ) → a < b → nat_le b a ≡ false
unreached a b l = grind (arith, nat_tests)

made : (s : Server) (m : Message) (r : CreateRequest) (found : Option ℕ) (action : ℕ) → MakeFacts s m r found action
    → AbleToMake s r found action
made s m r None action f = f.action_is
made s m r (Some x) action f = ((f.there x refl).there, (f.there x refl).emptied)

-- a change that can be made, and that is the message's
abbrev pub ToChange : Server → Message → ℕ → Change → Type 0
ToChange s m o change = AbleToChange s (file_of s o) change × IsChangeOf m.command change

some_bytes : (bytes : List ℕ) → is_empty bytes ≡ false → 0 < length bytes
unfolding is_empty
some_bytes [] e = absurd (cc)
some_bytes (x ∷ xs) e = omega arith

not_passed : (b p : Bool) → b ≡ false → (not b && p) ≡ false → p ≡ false
not_passed true p e h = absurd (cc)
not_passed false p e h = h

written : (s : Server) (m : Message) (o : ℕ) (change : Change) (body : Body) → WriteFacts s m o change body → ToChange s m o change
written s m o change body f =
    subst (λ (x : Change). ToChange s m o x) (sym f.change_is)
    (either (λ (x : Change). ToChange s m o x) (is_empty f.bytes) PutNothing (PutBytes f.at f.bytes) (λ _. (tt, tt))
    (λ e. (
      (some_bytes f.bytes e, f.file, not_passed (is_empty f.bytes) (passes_room s (file_of s o) (f.at + length f.bytes)) e f.room),
      sym (ap (λ (c : Command). bytes_in c) f.command),
    )))

not_above : (a b : ℕ) → nat_lt a b ≡ true → nat_lt b a ≡ false
not_above a b l = grind (arith, nat_tests)

off_behind : (x y : Bool) → y ≡ false → (x && y) ≡ false
off_behind true y e = e
off_behind false y e = refl

-- a file that is cut takes no more room
shrunk : (s : Server) (f size : ℕ) → nat_lt size (length (s.content f)) ≡ true → passes_room s f size ≡ false
unfolding passes_room
shrunk s f size l = off_behind (nat_lt s.room ((used s - length (s.content f)) + size)) (nat_lt (length (s.content f)) size)
    (not_above size (length (s.content f)) l)

sets : (s : Server) (m : Message) (o : ℕ) (setting : Setting) → path_in m.command ≡ path_in_setting setting
    → SettingSays s o setting → ToChange s m o (setting_change s o setting)
sets s m o (SetBasic basic) e h = (tt, tt)
sets s m o (Rename replace path) e h = ((λ z. eqb-false (file_of s o) root h.no_root z, refl), sym e)
sets s m o (SetDelete flag) e h = (tt, tt)
sets s m o (SetAllocation size) e h =
    either (λ (x : Change). ToChange s m o x) (nat_lt size (length (s.content (file_of s o)))) (PutEnd size) PutNothing
    (λ l. ((h.file, shrunk s (file_of s o) size l), tt)) (λ _. (tt, tt))
sets s m o (SetEnd size) e h = ((h.file, h.room), tt)
sets s m o (SetPosition position) e h = (tt, tt)
sets s m o SetMode e h = (tt, tt)

altered : (s : Server) (m : Message) (o : ℕ) (change : Change) (body : Body) → AlterFacts s m o change body → ToChange s m o change
altered s m o change body f = by f.asked
  where
    by : WriteFacts s m o change body ⊎ SettingFacts s m o change body → ToChange s m o change
    by (inl w) = written s m o change body w
    by (inr g) = subst (λ (x : Change). ToChange s m o x) (sym g.change_is)
        (sets s m o g.setting (ap (λ (c : Command). path_in c) g.command) g.says)

-- the session named as the previous one is there
named_on : (b : Bool) (n x : ℕ) → (if b then Some n else None) ≡ Some x → b ≡ true
named_on true n x e = refl
named_on false n x e = absurd (cc)

named_same : (s : Server) (user : List ℕ) (n x : ℕ) → previous_of s user n ≡ Some x → x ≡ n
named_same s user n x e = grind arith

named_there : (s : Server) (user : List ℕ) (n x : ℕ) → previous_of s user n ≡ Some x → s.present x ≡ true
named_there s user n x e = subst (λ (z : ℕ). s.present z ≡ true) (sym (named_same s user n x e))
    (front_of (s.present n) (same_name (s.user n) user) (named_on (s.present n && same_name (s.user n) user) n x e))

-- ---- each verdict

able : (s : Server) (m : Message) (v : Verdict) → Fits s → Facts s m v → OneMore s m v → Able s m v
able s m (Refuse status) i f h = tt
able s m (Give body) i f h = tt
able s m (KeepRefusal guid status) i f h =
    subst (λ (g : ℕ). s.closed m.session_id g ≡ false) f.guid_is (f.new.no_closed f.durable f.kept)
able s m (Repeat o r) i f h =
    ((i.guid_open m.client_guid f.durable.guid o f.named).0, sym (ap (λ (c : Command). create_in c) f.create.command))
able s m (Attach o r) i f h = (f.standing, sym (ap (λ (c : Command). create_in c) f.create.command))
able s m (Make r found action) i f h = (
  made s m r found action f,
  unreached s.open_ids_given max_ids f.given,
  sym (ap (λ (c : Command). create_in c) f.new.create.command),
)
able s m (TurnDown o status) i f h = f.standing
able s m (Tell o body) i f h = f.standing
able s m (Show o last body) i f h = f.standing
able s m (KeepSlot o index number status elements) i f h =
    (f.lock.opened.standing, f.slot, sym (ap (λ (c : Command). elements_in c) f.lock.command))
able s m (PutRanges o index number ranges elements) i f h =
    (f.lock.opened.standing, sym (ap (λ (c : Command). elements_in c) f.lock.command))
able s m (Alter o change body) i f h =
    (f.opened.standing, (altered s m o change body f).0, (altered s m o change body f).1)
able s m (CloseOpen o body) i f h = (f.opened.standing, f.opened.session_of_open)
able s m Challenge i f h = unreached s.session_ids_given max_ids f.begun
able s m (ChallengeBinding session) i f h = tt
able s m (Begin session user previous r is_quiet) i f h = (
  f.session_is,
  subst (λ (x : ℕ). s.present x ≡ false) (sym f.session_is) f.absent,
  λ x e. named_there s user r.previous x (sym f.previous_is ∙ e),
)
able s m (Join session) i f h = (subst (λ (x : ℕ). s.present x ≡ true) (sym f.binding.session_is) f.binding.present, h)
able s m (EndSession session is_quiet) i f h =
    subst (λ (x : ℕ). s.present x ≡ true) (sym f.session_is) (i.on_present m.connection m.session_id f.at.session_on)
able s m (AddTree pipes) i f h = (i.on_present m.connection m.session_id f.session.session_on, h)
able s m DropTree i f h = tt

pub able_behind : (s : Server) (m : Message) → Fits s → Able s m (check s m)
able_behind s m i = able s m (check s m) i (checked s m) (left_of s m (check s m) refl (checked s m))

-- what stands in the place of a verdict whose records find no room
pub lesser_behind : (s : Server) (m : Message) → Fits s → Able s m (without_room (check s m))
lesser_behind s m i =
    able s m (without_room (check s m)) i (lesser s m (check s m) (checked s m))
    (lesser_left s m (check s m) (left_of s m (check s m) refl (checked s m)))
