-- What an event does to the server's sessions as far as their ciphers go.
use Rattle.spec_exchange.specs.Effects.{opens_of_tree}
use Rattle.law_server.proofs.tables.Closing.{closed_beside, left_beside}
use Rattle.std.proofs.Common.{◌≡◌, ℕ, ◌==◌, Bool, true, false, if◌then◌else◌, List, inl, inr, refl, sym, ap, ◌∙◌, subst, arith}
use Rattle.std.proofs.Common.{nat_le, length, Option, Some, None, is_some}
use Rattle.spec_exchange.specs.Table.{put}
use Rattle.spec_exchange.specs.Status.{success}
use Rattle.spec_exchange.specs.Commands.{Command, Unreadable, Aside, Setup, Logoff, TreeConnect, TreeDisconnect, Create, Close, Flush, Read}
use Rattle.spec_exchange.specs.Commands.{Write, Lock, Ioctl, ListDirectory, QueryFile, QueryVolume, SetInfo, SetupRequest, CreateRequest}
use Rattle.spec_exchange.specs.State.{Server, Message, Accept, Heard, End, ServerEvent, Record}
use Rattle.spec_exchange.specs.Opens.{leave_open}
use Rattle.spec_exchange.specs.CheckCreate.{empties}
use Rattle.spec_exchange.specs.CheckOpen.{is_late, is_slot, file_of}
use Rattle.spec_exchange.specs.Verdict.{Verdict, Refuse, Give, KeepRefusal, Repeat, Attach, Make, TurnDown, Tell, Show, KeepSlot, PutRanges}
use Rattle.spec_exchange.specs.Verdict.{Alter, CloseOpen, Challenge, ChallengeBinding, Begin, Join, EndSession, AddTree, DropTree}
use Rattle.spec_exchange.specs.Verdict.{Change, PutBytes, PutEnd, PutBasic, PutDeletePending, PutPath, PutNothing}
use Rattle.spec_exchange.specs.Effects.{apply, reach, attached, attach, keep_slot, keep_closed, change_file, file_made}
use Rattle.spec_exchange.specs.Effects.{set_ranges, end_if_named}
use Rattle.spec_exchange.specs.Effects.{end_session, add_session}
use Rattle.spec_exchange.specs.Step.{step, with_deadlines, expire, add_expired_guid, ruling, ruling_without_room, carried_out, Ruling}
use Rattle.spec_exchange.specs.Step.{Says, TakesIn, TurnsAway, TakesOut, TakesAllOut, take_out, ends_with, max_connections}
use Rattle.spec_exchange.specs.Network.{answer_to}
use Rattle.law_server.proofs.tables.Logic.{either}
use Rattle.law_server.proofs.tables.Doors.{by_ruling, by_verdict, Front, Rules, Before, Finds}
use Rattle.law_sessions.proofs.sessions.Checks.{Found, found, found_full}
use Rattle.law_answers.specs.sealing_logons.Sealed.{Ciphered}
use Rattle.law_answers.proofs.sealing_logons.Checks.{Sealing, finds_sealing}

-- ciphers stay, and no session is new
pub record Same (s t : Server) : Type 0 where
  pub encrypts : t.encrypts ≡ s.encrypts
  pub cipher : t.cipher ≡ s.cipher
  pub present : (x : ℕ) → t.present x ≡ true → s.present x ≡ true

itself : (s : Server) → Same s s
itself s = record { encrypts = refl; cipher = refl; present = λ x e. e }

same_so : (s t u : Server) → Same s t → Same t u → Same s u
same_so s t u a b =
    record {
      encrypts = b.encrypts ∙ a.encrypts;
      cipher = b.cipher ∙ a.cipher;
      present = λ x e. a.present x (b.present x e);
    }

pub keeps : (s t : Server) → Same s t → Ciphered s → Ciphered t
keeps s t q h e x p = ap (λ (f : ℕ → ℕ). f x == 0) q.cipher ∙ h (sym q.encrypts ∙ e) x (q.present x p)

-- ---- by effect

left : (s : Server) (o : ℕ) → Same s (leave_open s o)
left s o = let b = left_beside s o in record {
  encrypts = b.encrypts;
  cipher = b.cipher;
  present = λ x e. ap (λ (f : ℕ → Bool). f x) (sym b.present) ∙ e;
}

guid_added : (t : Server) (client : ℕ) (g : Option ℕ) → Same t (add_expired_guid t client g)
guid_added t client None = itself t
guid_added t client (Some g) = record { encrypts = refl; cipher = refl; present = λ x e. e }

expired : (s : Server) (o : ℕ) → Same s (expire s o)
expired s o =
    same_so s (leave_open s o) (expire s o) (left s o)
    (guid_added (leave_open s o) (s.opened o).client_guid (s.opened o).create_guid)

dated : (s : Server) (now : ℕ) → Same s (with_deadlines s now)
dated s now = record { encrypts = refl; cipher = refl; present = λ x e. e }

reached : (s : Server) (m : Message) (o : ℕ) → Same s (reach s m o)
reached s m o =
    either (λ t. Same s t) (is_late s m o) s (record s { sequence = put s.sequence o m.channel_sequence }) (λ _. itself s)
    (λ _. record { encrypts = refl; cipher = refl; present = λ x e. e })

joined : (s : Server) (m : Message) (o : ℕ) → Same s (attached s m o)
joined s m o =
    either (λ t. Same s t) (is_some (s.session_of_open o)) s (attach s m o) (λ _. itself s)
    (λ _. record { encrypts = refl; cipher = refl; present = λ x e. e })

slotted : (s : Server) (o index number status : ℕ) → Same s (keep_slot s o index number status)
slotted s o index number status =
    either (λ t. Same s t) (is_slot index) _ s (λ _. record { encrypts = refl; cipher = refl; present = λ x e. e }) (λ _. itself s)

closed : (s : Server) (session : ℕ) (g : Option ℕ) → Same s (keep_closed s session g)
closed s session None = itself s
closed s session (Some g) = record { encrypts = refl; cipher = refl; present = λ x e. e }

changed_file : (s : Server) (f now : ℕ) (c : Change) → Same s (change_file s f now c)
changed_file s f now (PutBytes at bytes) = record { encrypts = refl; cipher = refl; present = λ x e. e }
changed_file s f now (PutEnd size) = record { encrypts = refl; cipher = refl; present = λ x e. e }
changed_file s f now (PutBasic basic) = record { encrypts = refl; cipher = refl; present = λ x e. e }
changed_file s f now (PutDeletePending flag) = record { encrypts = refl; cipher = refl; present = λ x e. e }
changed_file s f now (PutPath replaced path) = record { encrypts = refl; cipher = refl; present = λ x e. e }
changed_file s f now PutNothing = itself s

made : (s : Server) (r : CreateRequest) (f : Option ℕ) (now : ℕ) → Same s (file_made s r f now)
made s r None now = record { encrypts = refl; cipher = refl; present = λ x e. e }
made s r (Some f) now =
    either (λ t. Same s t) (empties r.disposition) _ s (λ _. record { encrypts = refl; cipher = refl; present = λ x e. e }) (λ _. itself s)

off_put : (f : ℕ → Bool) (k x : ℕ) → put f k false x ≡ true → f x ≡ true
off_put f k x e = grind arith

ended : (s : Server) (session now : ℕ) (q : Bool) → Same s (end_session s session now q)
ended s session now q = record { encrypts = refl; cipher = refl; present = off_put s.present session }

ended_named : (s : Server) (now : ℕ) (o : Option ℕ) (q : Bool) → Same s (end_if_named s now o q)
ended_named s now None q = itself s
ended_named s now (Some session) q = ended s session now q

-- ---- by verdict

-- where a session begins and the server encrypts, its client has a cipher
abbrev Seals : Server → Verdict → Type 0
Seals s (Begin session user previous request is_quiet) = s.encrypts ≡ true → (request.cipher == 0) ≡ false
Seals s _ = Unit {0}

begun : (s t : Server) (m : Message) (user : List ℕ) (r : SetupRequest) → Same s t → (s.encrypts ≡ true → (r.cipher == 0) ≡ false)
    → Ciphered s → Ciphered (add_session t m user r)
begun s t m user r q f h e x p = by (x == m.session_id) refl
  where
    old : (x == m.session_id) ≡ false → t.present x ≡ true
    old off = ap (λ b. if b then true else t.present x) (sym off) ∙ p

    by : (b : Bool) → (x == m.session_id) ≡ b → ((add_session t m user r).cipher x == 0) ≡ false
    by true is =
        ap (λ b. (if b then r.cipher else t.cipher x) == 0) is ∙ f (sym q.encrypts ∙ e)
    by false is =
        ap (λ b. (if b then r.cipher else t.cipher x) == 0) is ∙ keeps s t q h e x (old is)

by_effect : (s : Server) (m : Message) (now : ℕ) (v : Verdict) → Seals s v → Ciphered s → Ciphered (apply s m now v).server
by_effect s m now (Refuse status) f h = h
by_effect s m now (Give body) f h = h
by_effect s m now (KeepRefusal guid status) f h = h
by_effect s m now (Repeat o r) f h = keeps s (attached s m o) (joined s m o) h
by_effect s m now (Attach o r) f h = keeps s (attached s m o) (joined s m o) h
by_effect s m now (Make r found action) f h = keeps s (file_made s r found now) (made s r found now) h
by_effect s m now (TurnDown o status) f h = keeps s (reach s m o) (reached s m o) h
by_effect s m now (Tell o body) f h = keeps s (reach s m o) (reached s m o) h
by_effect s m now (Show o last body) f h = keeps s (reach s m o) (reached s m o) h
by_effect s m now (KeepSlot o index number status elements) f h =
    let a = reach s m o in
    keeps s (keep_slot a o index number status)
    (same_so s a (keep_slot a o index number status) (reached s m o) (slotted a o index number status)) h
by_effect s m now (PutRanges o index number ranges elements) f h =
    let a = reach s m o in
    let b = set_ranges a (file_of s o) ranges in
    keeps s (keep_slot b o index number success)
    (same_so s a (keep_slot b o index number success) (reached s m o)
    (same_so a b (keep_slot b o index number success) (record { encrypts = refl; cipher = refl; present = λ x e. e })
    (slotted b o index number success))) h
by_effect s m now (Alter o change body) f h =
    let a = reach s m o in
    keeps s (change_file a (file_of s o) now change)
    (same_so s a (change_file a (file_of s o) now change) (reached s m o) (changed_file a (file_of s o) now change)) h
by_effect s m now (CloseOpen o body) f h =
    let a = leave_open s o in
    let b = keep_closed a m.session_id (s.opened o).create_guid in
    keeps s b (same_so s a b (left s o) (closed a m.session_id (s.opened o).create_guid)) h
by_effect s m now Challenge f h = h
by_effect s m now (ChallengeBinding session) f h = h
by_effect s m now (Begin session user previous r is_quiet) f h =
    begun s (end_if_named s now previous is_quiet) m user r (ended_named s now previous is_quiet) f h
by_effect s m now (Join session) f h = h
by_effect s m now (EndSession session is_quiet) f h = keeps s (end_session s session now is_quiet) (ended s session now is_quiet) h
by_effect s m now (AddTree pipes) f h = h
by_effect s m now DropTree f h =
    let b = closed_beside s m.session_id (opens_of_tree s m.session_id m.tree_id) in
    keeps s (apply s m now DropTree).server (record {
      encrypts = b.encrypts;
      cipher = b.cipher;
      present = λ x e. ap (λ (f : ℕ → Bool). f x) (sym b.present) ∙ e;
    }) h

-- ---- a message

seals_found : (s : Server) (m : Message) (v : Verdict) → ((r : SetupRequest) → m.command ≡ Setup r → Sealing s m r v)
    → Found s m v → Seals s v
seals_found s m (Begin session user previous request is_quiet) f q =
    λ e. (let is = q.command in let both = f request is e in both.1)
seals_found s m (Refuse status) f q = tt
seals_found s m (Give body) f q = tt
seals_found s m (KeepRefusal guid status) f q = tt
seals_found s m (Repeat o request) f q = tt
seals_found s m (Attach o request) f q = tt
seals_found s m (Make request place action) f q = tt
seals_found s m (TurnDown o status) f q = tt
seals_found s m (Tell o body) f q = tt
seals_found s m (Show o last body) f q = tt
seals_found s m (KeepSlot o index number status elements) f q = tt
seals_found s m (PutRanges o index number ranges elements) f q = tt
seals_found s m (Alter o change body) f q = tt
seals_found s m (CloseOpen o body) f q = tt
seals_found s m Challenge f q = tt
seals_found s m (ChallengeBinding session) f q = tt
seals_found s m (Join session) f q = tt
seals_found s m (EndSession session is_quiet) f q = tt
seals_found s m (AddTree pipes) f q = tt
seals_found s m DropTree f q = tt

finds_found : (t : Server) (m : Message) (v : Verdict) → Finds t m v → Found t m v
finds_found t m v (inl e) = subst (λ u. Found t m u) (sym e) (found t m)
finds_found t m v (inr e) = subst (λ u. Found t m u) (sym e) (found_full t m _ (found t m))

pub before : (s : Server) (now : ℕ) (t : Server) → Before s now t → Ciphered s → Ciphered t
before s now t (inl e) h = subst Ciphered (sym e) (keeps s (with_deadlines s now) (dated s now) h)
before s now t (inr q) h =
    subst Ciphered (sym q.2)
    (keeps (with_deadlines s now) (expire (with_deadlines s now) q.0) (expired (with_deadlines s now) q.0)
    (keeps s (with_deadlines s now) (dated s now) h))

heard : (s : Server) (now : ℕ) (m : Message) → Ciphered s → Ciphered (step s now (Heard m)).server
heard s now m h =
    by_verdict (λ A. Ciphered A.server) s now m (λ t v records b f.
    by_effect t m now v (seals_found t m v (λ r e. finds_sealing t m r e v f) (finds_found t m v f)) (before s now t b h))

pub answered : (s : Server) (now : ℕ) (m : Message) (c : Command) → Ciphered s → Ciphered (answer_to s now m c).server
answered s now m (Aside status) h = h
answered s now m (Unreadable status) h = heard s now m h
answered s now m (Setup request) h = heard s now m h
answered s now m Logoff h = heard s now m h
answered s now m (TreeConnect share) h = heard s now m h
answered s now m TreeDisconnect h = heard s now m h
answered s now m (Create request) h = heard s now m h
answered s now m (Close file query) h = heard s now m h
answered s now m (Flush file) h = heard s now m h
answered s now m (Read file at size minimum channel) h = heard s now m h
answered s now m (Write file at bytes channel) h = heard s now m h
answered s now m (Lock file index number elements) h = heard s now m h
answered s now m (Ioctl file code room) h = heard s now m h
answered s now m (ListDirectory file class restart single pattern room) h = heard s now m h
answered s now m (QueryFile file class room) h = heard s now m h
answered s now m (QueryVolume file class room) h = heard s now m h
answered s now m (SetInfo file setting) h = heard s now m h

-- ---- a connection that is made or lost

of_front : (s : Server) (now : ℕ) (e : ServerEvent) (t : Server) (rs : List Record) → Front s now e t rs → Ciphered s → Ciphered t
of_front s now e t rs (inl q) h = before s now t (inl q.0) h
of_front s now e t rs (inr q) h = before s now t (inr (q.0, q.1, q.2)) h

taken_out : (t : Server) (k now : ℕ) (q : Bool) → Ciphered t → Ciphered (take_out t k now q)
taken_out t k now q h = keeps t (end_if_named t now (ends_with t k) q) (ended_named t now (ends_with t k) q) h

-- a ruling of a connection
abbrev Ends : Ruling → Type 0
Ends (TakesIn k) = Unit {0}
Ends TurnsAway = Unit {0}
Ends (TakesOut k q) = Unit {0}
Ends (Says m v) = ⊥
Ends (TakesAllOut q) = ⊥

by_end : (t : Server) (now : ℕ) (r : Ruling) → Ends r → Ciphered t → Ciphered (carried_out t now r).server
by_end t now (TakesIn k) e h = h
by_end t now TurnsAway e h = h
by_end t now (TakesOut k q) e h = taken_out t k now q h
by_end t now (Says m v) e h = absurd e
by_end t now (TakesAllOut q) e h = absurd e

ends_full : (r : Ruling) → Ends r → Ends (ruling_without_room r)
ends_full (TakesIn k) e = tt
ends_full TurnsAway e = tt
ends_full (TakesOut k q) e = tt
ends_full (Says m v) e = absurd e
ends_full (TakesAllOut q) e = absurd e

ends_by : (t : Server) (e : ServerEvent) (r : Ruling) → Ends (ruling t e) → Rules t e r → Ends r
ends_by t e r q (inl is) = subst Ends (sym is) q
ends_by t e r q (inr is) = subst Ends (sym is) (ends_full (ruling t e) q)

connection : (s : Server) (now : ℕ) (e : ServerEvent) → ((t : Server) → Ends (ruling t e)) → Ciphered s → Ciphered (step s now e).server
connection s now e q h =
    by_ruling (λ A. Ciphered A.server) s now e (λ t rs r at rules. by_end t now r (ends_by t e r (q t) rules) (of_front s now e t rs at h))

pub accepted : (s : Server) (now k : ℕ) → Ciphered s → Ciphered (step s now (Accept k)).server
accepted s now k h = connection s now (Accept k) (λ t. either Ends (nat_le max_connections (length t.connections))
    TurnsAway (TakesIn k) (λ _. tt) (λ _. tt)) h

pub left_by : (s : Server) (now k : ℕ) → Ciphered s → Ciphered (step s now (End k)).server
left_by s now k h = connection s now (End k) (λ t. tt) h
