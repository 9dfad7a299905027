-- The records that a step owes: none begins an epoch, and each open in them is this client's.
use Rattle.spec_exchange.specs.Effects.{opens_of_tree}
use Rattle.std.proofs.Common.{◌≡◌, ℕ, ◌==◌, nat_le, Bool, true, false, not, ◌&&◌, List, [], ◌∷◌, ◌++◌, ◌⊎◌, inl, inr}
use Rattle.std.proofs.Common.{refl, sym, subst, ◌∙◌, ap, Option, Some, None, length}
use Rattle.spec_exchange.specs.Commands.{Command, CreateRequest, Durable, Element, Unreadable, Aside, Setup, Logoff}
use Rattle.spec_exchange.specs.Commands.{TreeConnect, TreeDisconnect, Create, Close, Flush, Read, Write, Lock, Ioctl}
use Rattle.spec_exchange.specs.Commands.{ListDirectory, QueryFile, QueryVolume, SetInfo, deletes_on_close}
use Rattle.spec_exchange.specs.State.{Server, Message, ServerEvent, Accept, Heard, End, Origin, Answer, DeleteRecord}
use Rattle.spec_exchange.specs.State.{CloseRecord, RemoveRecord}
use Rattle.spec_exchange.specs.Opens.{leave_open, leave_records, pending_records, shut_records, gone_records, goes, drop_open, pending_behind, granted, left_file_records, is_kept_back}
use Rattle.spec_exchange.specs.Check.{check}
use Rattle.spec_exchange.specs.CheckOpen.{file_of}
use Rattle.spec_exchange.specs.Status.{success}
use Rattle.spec_exchange.specs.Effects.{apply, create_records, new_open, lock_records, change_records, end_records}
use Rattle.spec_exchange.specs.Effects.{leave_all_records, records_if_named, is_persistent, plain_of}
use Rattle.spec_exchange.specs.Effects.{new_file}
use Rattle.spec_exchange.specs.Records.{origin_at, origin_of, fits}
use Rattle.spec_exchange.specs.Verdict.{Verdict, Refuse, Give, KeepRefusal, Repeat, Attach, Make, TurnDown, Tell, Show}
use Rattle.spec_exchange.specs.Verdict.{KeepSlot, PutRanges, Alter, CloseOpen, Challenge, ChallengeBinding, Begin, Join}
use Rattle.spec_exchange.specs.Verdict.{EndSession, AddTree, DropTree, Change, PutBytes, PutEnd, PutBasic}
use Rattle.spec_exchange.specs.Verdict.{PutDeletePending, PutPath, PutNothing}
use Rattle.spec_exchange.specs.Step.{step, event_answer, expiring, with_deadlines, due, expire, expire_records}
use Rattle.spec_exchange.specs.Step.{connection_of, max_expired_guids, max_connections, Ruling, Says, TakesIn}
use Rattle.spec_exchange.specs.Step.{TurnsAway, TakesOut, TakesAllOut, ruling, ruling_without_room, without_room}
use Rattle.spec_exchange.specs.Step.{carried_out, ends_with}
use Rattle.spec_exchange.specs.Network.{answer_to}
use Rattle.law_server.proofs.tables.Doors.{Before}
use Rattle.law_server.proofs.tables.Logic.{either}
use Rattle.law_sessions.proofs.sessions.Checks.{Found, found, found_full}
use Rattle.law_sessions.proofs.sessions.Heard.{before_stays}
use Rattle.law_sessions.proofs.sessions.Written.{Clean, OwnOpen, clean_more}

-- ---- opens that leave

clean_gone : (guid : ℕ) (user : List ℕ) (s : Server) (origin : Origin) (f : ℕ) → Clean guid user (gone_records s origin f)
unfolding gone_records Clean
clean_gone guid user s origin f = either (λ rs. Clean guid user rs) (goes s f) (RemoveRecord origin f ∷ []) [] (λ _. (tt, tt)) (λ _. tt)

clean_settled : (guid : ℕ) (user : List ℕ) (s : Server) (origin : Origin) (f : ℕ) → Clean guid user (left_file_records s origin f)
unfolding left_file_records Clean
clean_settled guid user s origin f = either (λ rs. Clean guid user rs) (is_kept_back s f) (DeleteRecord origin f false ∷ [])
    (gone_records s origin f) (λ _. (tt, tt)) (λ _. clean_gone guid user s origin f)

clean_shut : (guid : ℕ) (user : List ℕ) (s : Server) (origin : Origin) (o : ℕ) → Clean guid user (shut_records s origin o)
unfolding shut_records Clean
clean_shut guid user s origin o = either (λ rs. Clean guid user rs) (s.opened o).persistent (CloseRecord origin o ∷ [])
    [] (λ _. (tt, tt)) (λ _. tt)

clean_pending : (guid : ℕ) (user : List ℕ) (s : Server) (origin : Origin) (o : ℕ) → Clean guid user (pending_records s origin o)
unfolding pending_records Clean
clean_pending guid user s origin o =
    either (λ rs. Clean guid user rs) (not (s.opened o).persistent && (deletes_on_close (s.opened o).options
    && not (s.delete_pending (s.opened o).file))) (DeleteRecord origin (s.opened o).file true ∷ []) []
    (λ _. (tt, tt)) (λ _. tt)

clean_left : (guid : ℕ) (user : List ℕ) (s : Server) (origin : Origin) (o : ℕ) → Clean guid user (leave_records s origin o)
unfolding leave_records
clean_left guid user s origin o =
    clean_more guid user (pending_records s origin o) (shut_records s origin o
    ++ left_file_records (drop_open (pending_behind s o) o) origin (s.opened o).file)
    (clean_pending guid user s origin o)
    (clean_more guid user (shut_records s origin o) (left_file_records (drop_open (pending_behind s o) o) origin
    (s.opened o).file) (clean_shut guid user s origin o)
    (clean_settled guid user (drop_open (pending_behind s o) o) origin (s.opened o).file))

clean_all_left : (guid : ℕ) (user : List ℕ) (s : Server) (origin : Origin) (os : List ℕ) → Clean guid user (leave_all_records s origin os)
unfolding leave_all_records Clean
clean_all_left guid user s origin [] = tt
clean_all_left guid user s origin (o ∷ os) =
    clean_more guid user (leave_records s origin o) (leave_all_records (leave_open s o) origin os)
    (clean_left guid user s origin o) (clean_all_left guid user (leave_open s o) origin os)

clean_ended : (guid : ℕ) (user : List ℕ) (s : Server) (origin : Origin) (session : ℕ) (is_quiet : Bool)
    → Clean guid user (end_records s origin session is_quiet)
unfolding end_records Clean
clean_ended guid user s origin session true = tt
clean_ended guid user s origin session false = clean_all_left guid user s origin (plain_of s session)

clean_named : (guid : ℕ) (user : List ℕ) (s : Server) (origin : Origin) (session : Option ℕ) (is_quiet : Bool)
    → Clean guid user (records_if_named s origin session is_quiet)
unfolding Clean
clean_named guid user s origin None is_quiet = tt
clean_named guid user s origin (Some session) is_quiet = clean_ended guid user s origin session is_quiet

clean_expired : (guid : ℕ) (user : List ℕ) (s : Server) (origin : Origin) (o : ℕ) → Clean guid user (expire_records s origin o)
unfolding expire_records Clean
clean_expired guid user s origin o = (tt, clean_settled guid user (drop_open (pending_behind s o) o) origin (s.opened o).file)

-- ---- by verdict

clean_lock : (guid : ℕ) (user : List ℕ) (s : Server) (m : Message) (o index number status : ℕ) (elements : List Element)
    → Clean guid user (lock_records s m o index number status elements)
unfolding lock_records Clean
clean_lock guid user s m o index number status elements = either (λ rs. Clean guid user rs) (s.opened o).persistent _ []
    (λ _. (tt, tt)) (λ _. tt)

clean_change : (guid : ℕ) (user : List ℕ) (m : Message) (f now : ℕ) (change : Change) → Clean guid user (change_records m f now change)
unfolding change_records Clean
clean_change guid user m f now (PutBytes at bytes) = (tt, tt)
clean_change guid user m f now (PutEnd size) = (tt, tt)
clean_change guid user m f now (PutBasic basic) = (tt, tt)
clean_change guid user m f now (PutDeletePending flag) = (tt, tt)
clean_change guid user m f now (PutPath replaced path) = (tt, tt)
clean_change guid user m f now PutNothing = tt

own_new : (guid : ℕ) (user : List ℕ) (s : Server) (m : Message) (r : CreateRequest) (access : ℕ) (o : Option Durable)
    → m.client_guid ≡ guid → s.user m.session_id ≡ user → OwnOpen guid user (new_open s m r access o)
unfolding new_open
own_new guid user s m r access None a b = tt
own_new guid user s m r access (Some d) a b = either (λ n. OwnOpen guid user n) d.persistent (Some _) None (λ _. (a, b)) (λ _. tt)

clean_create : (guid : ℕ) (user : List ℕ) (s : Server) (m : Message) (r : CreateRequest) (found : Option ℕ)
    (action now : ℕ) → m.client_guid ≡ guid → s.user m.session_id ≡ user
    → Clean guid user (create_records s m r found action now)
unfolding create_records Clean
clean_create guid user s m r found action now a b =
    either (λ rs. Clean guid user rs) ((action == 1) && not (is_persistent r.durable)) [] _ (λ _. tt)
    (λ _. (own_new guid user s m r (granted s (new_file s found) r.access) r.durable a b, tt))

abbrev pub is_make : Verdict → Bool
is_make (Make r place action) = true
is_make _ = false

-- whose the message is matters where it makes an open
pub by_verdict : (guid : ℕ) (user : List ℕ) (s : Server) (m : Message) (now : ℕ) (v : Verdict)
    → (is_make v ≡ true → m.client_guid ≡ guid × s.user m.session_id ≡ user) → Clean guid user (apply s m now v).records
unfolding Clean
by_verdict guid user s m now (Refuse status) own = tt
by_verdict guid user s m now (Give body) own = tt
by_verdict guid user s m now (KeepRefusal g status) own = tt
by_verdict guid user s m now (Repeat o r) own = tt
by_verdict guid user s m now (Attach o r) own = tt
by_verdict guid user s m now (Make r place action) own = let o = own refl in clean_create guid user s m r place action now o.0 o.1
by_verdict guid user s m now (TurnDown o status) own = tt
by_verdict guid user s m now (Tell o body) own = tt
by_verdict guid user s m now (Show o last body) own = tt
by_verdict guid user s m now (KeepSlot o index number status elements) own = clean_lock guid user s m o index number status elements
by_verdict guid user s m now (PutRanges o index number ranges elements) own = clean_lock guid user s m o index number success elements
by_verdict guid user s m now (Alter o change body) own = clean_change guid user m (file_of s o) now change
by_verdict guid user s m now (CloseOpen o body) own = clean_left guid user s (origin_of m) o
by_verdict guid user s m now Challenge own = tt
by_verdict guid user s m now (ChallengeBinding session) own = tt
by_verdict guid user s m now (Begin session its previous r is_quiet) own = clean_named guid user s (origin_of m) previous is_quiet
by_verdict guid user s m now (Join session) own = tt
by_verdict guid user s m now (EndSession session is_quiet) own = clean_ended guid user s (origin_of m) session is_quiet
by_verdict guid user s m now (AddTree pipes) own = tt
by_verdict guid user s m now DropTree own = clean_all_left guid user s (origin_of m) (opens_of_tree s m.session_id m.tree_id)

-- ---- every step

abbrev pub Rules : Server → ServerEvent → Ruling → Type 0
Rules t e r = (r ≡ ruling t e) ⊎ (r ≡ ruling_without_room (ruling t e))

abbrev pub AllClean : ℕ → List ℕ → Server → ℕ → ServerEvent → Type 0
AllClean guid user s now e = (t : Server) (r : Ruling) → Before s now t → Rules t e r → Clean guid user (carried_out t now r).records

clean_table : (guid : ℕ) (user : List ℕ) (s : Server) (now : ℕ) (e : ServerEvent) → AllClean guid user s now e
    → Clean guid user (event_answer (with_deadlines s now) now e).records
clean_table guid user s now e f =
    let d = with_deadlines s now in
    either (λ (A : Answer). Clean guid user A.records) (fits d (carried_out d now (ruling d e)).records)
    (carried_out d now (ruling d e)) (carried_out d now (ruling_without_room (ruling d e)))
    (λ _. f d (ruling d e) (inl refl) (inl refl)) (λ _. f d (ruling_without_room (ruling d e)) (inl refl) (inr refl))

clean_expiring : (guid : ℕ) (user : List ℕ) (s : Server) (now : ℕ) (e : ServerEvent) → AllClean guid user s now e
    → (u : Option ℕ) → due (with_deadlines s now) now ≡ u
    → Clean guid user (expiring (with_deadlines s now) now e u).records
clean_expiring guid user s now e f None is = clean_table guid user s now e f
clean_expiring guid user s now e f (Some o) is =
    let d = with_deadlines s now in let t = expire d o in let front = expire_records d (origin_at (connection_of e)) o
    in let A = carried_out t now (ruling t e) in let P : Answer → Type 0 = λ B. Clean guid user B.records in
    either P (nat_le max_expired_guids d.expired_count) (event_answer d now e) _ (λ _. clean_table guid user s now e f)
    (λ _. either P (fits d (front ++ A.records)) (record A { records = front ++ A.records }) (event_answer d now e)
    (λ _. clean_more guid user front A.records (clean_expired guid user d (origin_at (connection_of e)) o)
    (f t (ruling t e) (inr (o, is, refl)) (inl refl)))
    (λ _. clean_table guid user s now e f))

pub clean_step : (guid : ℕ) (user : List ℕ) (s : Server) (now : ℕ) (e : ServerEvent) → AllClean guid user s now e
    → Clean guid user (step s now e).records
clean_step guid user s now e f = clean_expiring guid user s now e f (due (with_deadlines s now) now) refl

-- a message
clean_heard : (guid : ℕ) (user : List ℕ) (s : Server) (now : ℕ) (m : Message) → m.client_guid ≡ guid
    → (s.session_on m.connection ≡ Some m.session_id → s.user m.session_id ≡ user)
    → Clean guid user (step s now (Heard m)).records
clean_heard guid user s now m a b = clean_step guid user s now (Heard m) all
  where
    at_t : (t : Server) → Before s now t → t.session_on m.connection ≡ Some m.session_id → t.user m.session_id ≡ user
    at_t t q on = let st = before_stays s now t q in ap (λ f. f m.session_id) st.user
        ∙ b (ap (λ f. f m.connection) (sym st.session_on) ∙ on)

    own : (t : Server) (v : Verdict) → Before s now t → Found t m v → is_make v ≡ true → m.client_guid ≡ guid × t.user m.session_id ≡ user
    own t (Make r place action) q f e = (a, at_t t q f.1)
    own t _ q f e = absurd (cc)

    all : AllClean guid user s now (Heard m)
    all t r q (inl e) = subst (λ x. Clean guid user (carried_out t now x).records) (sym e)
        (by_verdict guid user t m now (check t m) (own t (check t m) q (found t m)))
    all t r q (inr e) = subst (λ x. Clean guid user (carried_out t now x).records) (sym e)
        (by_verdict guid user t m now (without_room (check t m))
        (own t (without_room (check t m)) q (found_full t m (check t m) (found t m))))

pub clean_answer : (guid : ℕ) (user : List ℕ) (s : Server) (now : ℕ) (m : Message) → m.client_guid ≡ guid
    → (s.session_on m.connection ≡ Some m.session_id → s.user m.session_id ≡ user) → (c : Command)
    → Clean guid user (answer_to s now m c).records
unfolding Clean
clean_answer guid user s now m a b (Aside status) = tt
clean_answer guid user s now m a b (Unreadable status) = clean_heard guid user s now m a b
clean_answer guid user s now m a b (Setup request) = clean_heard guid user s now m a b
clean_answer guid user s now m a b Logoff = clean_heard guid user s now m a b
clean_answer guid user s now m a b (TreeConnect share) = clean_heard guid user s now m a b
clean_answer guid user s now m a b TreeDisconnect = clean_heard guid user s now m a b
clean_answer guid user s now m a b (Create request) = clean_heard guid user s now m a b
clean_answer guid user s now m a b (Close file query) = clean_heard guid user s now m a b
clean_answer guid user s now m a b (Flush file) = clean_heard guid user s now m a b
clean_answer guid user s now m a b (Read file at size minimum channel) = clean_heard guid user s now m a b
clean_answer guid user s now m a b (Write file at bytes channel) = clean_heard guid user s now m a b
clean_answer guid user s now m a b (Lock file index number elements) = clean_heard guid user s now m a b
clean_answer guid user s now m a b (Ioctl file code room) = clean_heard guid user s now m a b
clean_answer guid user s now m a b (ListDirectory file class restart single pattern room) = clean_heard guid user s now m a b
clean_answer guid user s now m a b (QueryFile file class room) = clean_heard guid user s now m a b
clean_answer guid user s now m a b (QueryVolume file class room) = clean_heard guid user s now m a b
clean_answer guid user s now m a b (SetInfo file setting) = clean_heard guid user s now m a b

-- a connection that is made or ends
abbrev pub connects : Ruling → Bool
connects (Says message verdict) = false
connects (TakesIn connection) = true
connects TurnsAway = true
connects (TakesOut connection quiet) = true
connects (TakesAllOut quiet) = false

clean_connects : (guid : ℕ) (user : List ℕ) (t : Server) (now : ℕ) (r : Ruling) → connects r ≡ true
    → Clean guid user (carried_out t now r).records
unfolding Clean
clean_connects guid user t now (TakesIn k) c = tt
clean_connects guid user t now TurnsAway c = tt
clean_connects guid user t now (TakesOut k is_quiet) c = clean_named guid user t (origin_at k) (ends_with t k) is_quiet
clean_connects guid user t now _ c = absurd (cc)

pub takes_in : (t : Server) (k : ℕ) → connects (ruling t (Accept k)) ≡ true
takes_in t k = either (λ r. connects r ≡ true) (nat_le max_connections (length t.connections)) TurnsAway (TakesIn k) (λ _. refl) (λ _. refl)

still_connects : (r : Ruling) → connects r ≡ true → connects (ruling_without_room r) ≡ true
still_connects (TakesIn k) c = refl
still_connects TurnsAway c = refl
still_connects (TakesOut k is_quiet) c = refl
still_connects _ c = absurd (cc)

pub connects_by : (t : Server) (e : ServerEvent) (r : Ruling) → connects (ruling t e) ≡ true → Rules t e r → connects r ≡ true
connects_by t e r c (inl q) = ap connects q ∙ c
connects_by t e r c (inr q) = ap connects q ∙ still_connects (ruling t e) c

pub clean_accept : (guid : ℕ) (user : List ℕ) (s : Server) (now k : ℕ) → Clean guid user (step s now (Accept k)).records
clean_accept guid user s now k = clean_step guid user s now (Accept k) (λ t r q h. clean_connects guid user t now r
    (connects_by t (Accept k) r (takes_in t k) h))

pub clean_end : (guid : ℕ) (user : List ℕ) (s : Server) (now k : ℕ) → Clean guid user (step s now (End k)).records
clean_end guid user s now k = clean_step guid user s now (End k) (λ t r q h. clean_connects guid user t now r
    (connects_by t (End k) r refl h))
