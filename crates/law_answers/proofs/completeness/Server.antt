-- The server's connections are those whose ends it holds, so that it takes in each other one.
use Rattle.spec_exchange.specs.Effects.{opens_of_tree}
use Rattle.law_server.proofs.tables.Closing.{closed_beside, left_beside}
use Rattle.std.proofs.lemmas.Bool.Decides.{nat_tests}
use Rattle.std.proofs.Common.{◌≡◌, ℕ, ◌<◌, nat_le, Bool, true, false, if◌then◌else◌, List, [], ◌∷◌, ◌++◌, inl, inr}
use Rattle.std.proofs.Common.{length, refl, arith, sym, subst, ◌∙◌, ap, Option, Some, None, is_some}
use Rattle.spec_exchange.specs.Table.{put, without}
use Rattle.spec_exchange.specs.Status.{success}
use Rattle.spec_exchange.specs.Commands.{Command, Unreadable, Aside, Setup, Logoff, TreeConnect, TreeDisconnect, Create}
use Rattle.spec_exchange.specs.Commands.{Close, Flush, Read, Write, Lock, Ioctl, ListDirectory, QueryFile, QueryVolume}
use Rattle.spec_exchange.specs.Commands.{SetInfo, CreateRequest, deletes_on_close}
use Rattle.spec_exchange.specs.State.{Server, Message, Accept, Heard, End, ServerEvent, Answer, Record}
use Rattle.spec_exchange.specs.Opens.{leave_open, pending_behind, without_gone, goes}
use Rattle.spec_exchange.specs.Files.{set_delete_pending, remove_file}
use Rattle.spec_exchange.specs.CheckOpen.{is_late, is_slot, file_of}
use Rattle.spec_exchange.specs.Verdict.{Verdict, Refuse, Give, KeepRefusal, Repeat, Attach, Make, TurnDown, Tell, Show}
use Rattle.spec_exchange.specs.Verdict.{KeepSlot, PutRanges, Alter, CloseOpen, Challenge, ChallengeBinding, Begin, Join}
use Rattle.spec_exchange.specs.Verdict.{EndSession, AddTree, DropTree, Change, PutBytes, PutEnd, PutBasic}
use Rattle.spec_exchange.specs.Verdict.{PutDeletePending, PutPath, PutNothing}
use Rattle.spec_exchange.specs.Effects.{apply, reach, attached, attach, keep_slot, keep_closed, change_file, file_made}
use Rattle.spec_exchange.specs.Effects.{end_if_named, set_ranges}
use Rattle.spec_exchange.specs.CheckCreate.{empties}
use Rattle.spec_exchange.specs.Step.{step, with_deadlines, expire, add_expired_guid, ruling, ruling_without_room}
use Rattle.spec_exchange.specs.Step.{carried_out, Ruling, TakesIn, TurnsAway, take_out, ends_with, max_connections}
use Rattle.spec_exchange.specs.Network.{answer_to}
use Rattle.law_server.proofs.tables.Logic.{either}
use Rattle.law_server.proofs.tables.Doors.{by_ruling, by_verdict, recorded, Front, Rules, Before}

-- the server's connections are the same
pub record Same (s t : Server) : Type 0 where
  pub connections : t.connections ≡ s.connections

pub same_so : (s t u : Server) → Same s t → Same t u → Same s u
same_so s t u a b = record { connections = b.connections ∙ a.connections }

-- ---- by effect

pub pending_set : (s : Server) (o : ℕ) → Same s (pending_behind s o)
pending_set s o = either (λ t. Same s t) (deletes_on_close (s.opened o).options)
    (set_delete_pending s (s.opened o).file true) s (λ _. record { connections = refl }) (λ _. record {
      connections = refl;
    })

pub gone : (s : Server) (f : ℕ) → Same s (without_gone s f)
gone s f = either (λ t. Same s t) (goes s f) (remove_file s f) s (λ _. record { connections = refl }) (λ _. record { connections = refl })

left : (s : Server) (o : ℕ) → Same s (leave_open s o)
left s o = record { connections = (left_beside s o).connections }

expired : (s : Server) (o : ℕ) → Same s (expire s o)
expired s o = same_so s (leave_open s o) (expire s o) (left s o) (guid_added (leave_open s o) (s.opened o).client_guid
    (s.opened o).create_guid)
  where
    guid_added : (t : Server) (client : ℕ) (g : Option ℕ) → Same t (add_expired_guid t client g)
    guid_added t client None = record { connections = refl }
    guid_added t client (Some g) = record { connections = refl }

pub expired_connections : (s : Server) (o : ℕ) → (expire s o).connections ≡ s.connections
expired_connections s o = (expired s o).connections

reached : (s : Server) (m : Message) (o : ℕ) → Same s (reach s m o)
reached s m o = either (λ t. Same s t) (is_late s m o) s (record s { sequence = put s.sequence o m.channel_sequence })
    (λ _. record { connections = refl }) (λ _. record { connections = refl })

joined : (s : Server) (m : Message) (o : ℕ) → Same s (attached s m o)
joined s m o = either (λ t. Same s t) (is_some (s.session_of_open o)) s (attach s m o) (λ _. record {
  connections = refl;
}) (λ _. record { connections = refl })

pub slotted : (s : Server) (o index number status : ℕ) → Same s (keep_slot s o index number status)
slotted s o index number status = either (λ t. Same s t) (is_slot index) _ s (λ _. record { connections = refl })
    (λ _. record { connections = refl })

closed : (s : Server) (session : ℕ) (g : Option ℕ) → Same s (keep_closed s session g)
closed s session None = record { connections = refl }
closed s session (Some g) = record { connections = refl }

changed_file : (s : Server) (f now : ℕ) (c : Change) → Same s (change_file s f now c)
changed_file s f now (PutBytes at bytes) = record { connections = refl }
changed_file s f now (PutEnd size) = record { connections = refl }
changed_file s f now (PutBasic basic) = record { connections = refl }
changed_file s f now (PutDeletePending flag) = record { connections = refl }
changed_file s f now (PutPath replaced path) = record { connections = refl }
changed_file s f now PutNothing = record { connections = refl }

made : (s : Server) (r : CreateRequest) (f : Option ℕ) (now : ℕ) → (file_made s r f now).connections ≡ s.connections
made s r None now = refl
made s r (Some f) now = either (λ (t : Server). t.connections ≡ s.connections) (empties r.disposition) _ s (λ _. refl) (λ _. refl)

ended : (s : Server) (now : ℕ) (o : Option ℕ) (q : Bool) → Same s (end_if_named s now o q)
ended s now None q = record { connections = refl }
ended s now (Some session) q = record { connections = refl }

by_effect : (s : Server) (m : Message) (now : ℕ) (v : Verdict) → Same s (apply s m now v).server
by_effect s m now (Refuse status) = record { connections = refl }
by_effect s m now (Give body) = record { connections = refl }
by_effect s m now (KeepRefusal guid status) = record { connections = refl }
by_effect s m now (Repeat o r) = joined s m o
by_effect s m now (Attach o r) = joined s m o
by_effect s m now (Make r found action) = record { connections = made s r found now }
by_effect s m now (TurnDown o status) = reached s m o
by_effect s m now (Tell o body) = reached s m o
by_effect s m now (Show o last body) = same_so s (reach s m o) _ (reached s m o) (record { connections = refl })
by_effect s m now (KeepSlot o index number status elements) = same_so s (reach s m o) _ (reached s m o)
    (slotted (reach s m o) o index number status)
by_effect s m now (PutRanges o index number ranges elements) =
    same_so s (reach s m o) _ (reached s m o) (same_so (reach s m o) (set_ranges (reach s m o) (file_of s o) ranges) _
    (record { connections = refl }) (slotted (set_ranges (reach s m o) (file_of s o) ranges) o index number
    success))
by_effect s m now (Alter o change body) = same_so s (reach s m o) _ (reached s m o) (changed_file (reach s m o) (file_of s o) now change)
by_effect s m now (CloseOpen o body) = same_so s (leave_open s o) _ (left s o)
    (closed (leave_open s o) m.session_id (s.opened o).create_guid)
by_effect s m now Challenge = record { connections = refl }
by_effect s m now (ChallengeBinding session) = record { connections = refl }
by_effect s m now (Begin session user previous r is_quiet) = same_so s (end_if_named s now previous is_quiet) _
    (ended s now previous is_quiet) (record { connections = refl })
by_effect s m now (Join session) = record { connections = refl }
by_effect s m now (EndSession session is_quiet) = record { connections = refl }
by_effect s m now (AddTree pipes) = record { connections = refl }
by_effect s m now DropTree = record { connections = (closed_beside s m.session_id (opens_of_tree s m.session_id m.tree_id)).connections }

before : (s : Server) (now : ℕ) (t : Server) → Before s now t → t.connections ≡ s.connections
before s now t (inl e) = ap (λ (u : Server). u.connections) e
before s now t (inr h) = ap (λ (u : Server). u.connections) h.2 ∙ (expired (with_deadlines s now) h.0).connections

heard : (s : Server) (now : ℕ) (m : Message) → (step s now (Heard m)).server.connections ≡ s.connections
heard s now m = by_verdict (λ A. A.server.connections ≡ s.connections) s now m (λ t v records b f.
    (by_effect t m now v).connections ∙ before s now t b)

pub answered : (s : Server) (now : ℕ) (m : Message) (c : Command) → (answer_to s now m c).server.connections ≡ s.connections
answered s now m (Aside status) = refl
answered s now m (Unreadable status) = heard s now m
answered s now m (Setup request) = heard s now m
answered s now m Logoff = heard s now m
answered s now m (TreeConnect share) = heard s now m
answered s now m TreeDisconnect = heard s now m
answered s now m (Create request) = heard s now m
answered s now m (Close file query) = heard s now m
answered s now m (Flush file) = heard s now m
answered s now m (Read file at size minimum channel) = heard s now m
answered s now m (Write file at bytes channel) = heard s now m
answered s now m (Lock file index number elements) = heard s now m
answered s now m (Ioctl file code room) = heard s now m
answered s now m (ListDirectory file class restart single pattern room) = heard s now m
answered s now m (QueryFile file class room) = heard s now m
answered s now m (QueryVolume file class room) = heard s now m
answered s now m (SetInfo file setting) = heard s now m

-- ---- a connection comes or goes

front : (s : Server) (now : ℕ) (e : ServerEvent) (t : Server) (rs : List Record) → Front s now e t rs → t.connections ≡ s.connections
front s now e t rs (inl q) = ap (λ (u : Server). u.connections) q.0
front s now e t rs (inr q) = ap (λ (u : Server). u.connections) q.2 ∙ (expired (with_deadlines s now) q.0).connections

-- with room the connection is taken in
pub record Taken (s : Server) (k : ℕ) (A : Answer) : Type 0 where
  pub status : A.reply.status ≡ success
  pub connections : A.server.connections ≡ s.connections ++ k ∷ []

pub accepted : (s : Server) (now k : ℕ) → length s.connections < 256 → Taken s k (step s now (Accept k))
accepted s now k l =
    by_ruling (λ A. Taken s k A) s now (Accept k) (λ t rs r f rules. let same = front s now (Accept k) t rs f in
    subst (λ (x : Ruling). Taken s k (recorded (carried_out t now x) (rs ++ (carried_out t now x).records)))
    (sym (by t r same rules)) (record { status = refl; connections = ap (λ ks. ks ++ k ∷ []) same }))
  where
    room : (t : Server) → t.connections ≡ s.connections → ruling t (Accept k) ≡ TakesIn k
    room t same = takes (nat_le max_connections (length t.connections)) (low (length t.connections) (ap length same))
      where
        low : (n : ℕ) → n ≡ length s.connections → nat_le max_connections n ≡ false
        low n e = grind (arith, nat_tests)

        takes : (b : Bool) → b ≡ false → (if b then TurnsAway else TakesIn k) ≡ TakesIn k
        takes true e = absurd (cc)
        takes false e = refl

    by : (t : Server) (r : Ruling) → t.connections ≡ s.connections → Rules t (Accept k) r → r ≡ TakesIn k
    by t r same (inl e) = e ∙ room t same
    by t r same (inr e) = e ∙ ap ruling_without_room (room t same)

pub left_by : (s : Server) (now k : ℕ) → (step s now (End k)).server.connections ≡ without k s.connections
left_by s now k =
    by_ruling (λ A. A.server.connections ≡ without k s.connections) s now (End k) (λ t rs r f rules. by t r rules
    ∙ ap (without k) (front s now (End k) t rs f))
  where
    out : (t : Server) (q : Bool) → (take_out t k now q).connections ≡ without k t.connections
    out t q = ap (without k) (ended t now (ends_with t k) q).connections

    by : (t : Server) (r : Ruling) → Rules t (End k) r → (carried_out t now r).server.connections ≡ without k t.connections
    by t r (inl e) = ap (λ x. (carried_out t now x).server.connections) e ∙ out t false
    by t r (inr e) = ap (λ x. (carried_out t now x).server.connections) e ∙ out t true
