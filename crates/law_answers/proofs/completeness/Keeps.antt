-- No step makes the server keep USER_SESSION_DELETED, in its columns or in the journal; and behind check 1 none answers it.
use Rattle.spec_exchange.specs.Records.{origin_at}
use Rattle.spec_exchange.specs.Effects.{opens_of_tree, close_all, drop_tree}
use Rattle.law_server.proofs.tables.Closing.{closed_beside, left_beside}
use Rattle.std.proofs.Common.{◌≡◌, ℕ, ◌+◌, ◌==◌, nat_le, nat_lt, Bool, true, false, not, ◌&&◌, ◌||◌, List, [], ◌∷◌}
use Rattle.std.proofs.Common.{◌++◌, inl, inr, length, refl, arith, sym, subst, ◌∙◌, ap, Option, Some, None, is_some}
use Rattle.spec_exchange.specs.Table.{put, put2, is_at}
use Rattle.spec_exchange.specs.Status.{success}
use Rattle.spec_exchange.specs.Commands.{CreateRequest, Element, deletes_on_close, all_lock, all_unlock, is_setup}
use Rattle.spec_exchange.specs.State.{Server, Message, ServerEvent, Accept, Heard, End, Stop, Answer, Entry, Kept}
use Rattle.spec_exchange.specs.State.{Origin, Record, NewOpen, EpochRecord, VersionRecord, CreateRecord, WriteRecord}
use Rattle.spec_exchange.specs.State.{EndRecord, BasicRecord, DeleteRecord, RenameRecord, RemoveRecord, LockRecord}
use Rattle.spec_exchange.specs.State.{CloseRecord, ExpireRecord}
use Rattle.spec_exchange.specs.Files.{set_delete_pending, remove_file}
use Rattle.spec_exchange.specs.Ranges.{RangeAnswer, Stands, Denied, change_ranges}
use Rattle.spec_exchange.specs.Opens.{drop_open, leave_open, pending_behind, without_gone, goes, is_kept_back, gone_records, left_file_records, leave_records}
use Rattle.spec_exchange.specs.Opens.{pending_records, shut_records}
use Rattle.spec_exchange.specs.CheckCreate.{empties}
use Rattle.spec_exchange.specs.CheckOpen.{is_late, is_slot, file_of}
use Rattle.spec_exchange.specs.Check.{check, has_session}
use Rattle.spec_exchange.specs.Effects.{apply, reach, attached, attach, keep_slot, keep_closed, change_file, file_made}
use Rattle.spec_exchange.specs.Effects.{end_if_named, end_session, set_ranges, create_records, lock_records}
use Rattle.spec_exchange.specs.Effects.{change_records, end_records, leave_all_records, records_if_named, is_persistent}
use Rattle.spec_exchange.specs.Effects.{plain_of}
use Rattle.spec_exchange.specs.Records.{origin_of}
use Rattle.spec_exchange.specs.Verdict.{Verdict, Refuse, Give, KeepRefusal, Repeat, Attach, Make, TurnDown, Tell, Show}
use Rattle.spec_exchange.specs.Verdict.{KeepSlot, PutRanges, Alter, CloseOpen, Challenge, ChallengeBinding, Begin, Join}
use Rattle.spec_exchange.specs.Verdict.{EndSession, AddTree, DropTree, Change, PutBytes, PutEnd, PutBasic}
use Rattle.spec_exchange.specs.Verdict.{PutDeletePending, PutPath, PutNothing}
use Rattle.spec_exchange.specs.Fold.{fold, fold_from, with_record, sweep, restore, created_file, lock_granted}
use Rattle.spec_exchange.specs.Fold.{lock_recorded, shut_recorded, nothing_yet, opening_records, epoch_records, is_left_pending, mark_records, unmark_records}
use Rattle.spec_exchange.specs.Step.{step, with_deadlines, expire, expire_records, add_expired_guid, max_expired_guids}
use Rattle.spec_exchange.specs.Step.{max_connections, Ruling, Says, TakesIn, TurnsAway, TakesOut, TakesAllOut, ruling}
use Rattle.spec_exchange.specs.Step.{ruling_without_room, carried_out, take_out, take_all_out, take_all_records}
use Rattle.spec_exchange.specs.Step.{ends_with}
use Rattle.law_server.proofs.tables.Logic.{either}
use Rattle.law_server.proofs.tables.Doors.{by_ruling, by_verdict, recorded, Front, Rules, Before, Finds}
use Rattle.law_sessions.proofs.sessions.Heard.{before_stays}
use Rattle.law_answers.proofs.completeness.Statuses.{is_other, is_fair, keeps_fair, is_plain, Fair, FairServer, fair_check}
use Rattle.law_answers.proofs.completeness.Statuses.{fair_full, keeps_check, keeps_full}

-- ---- effects

put_refusals : (f : ℕ → ℕ → Option ℕ) (l : ℕ → ℕ → Option Kept) (session guid status : ℕ) → is_other status ≡ true
    → Fair f l → Fair (put2 f session guid (Some status)) l
put_refusals f l session guid status e h = record { creates = λ x g n q. let old = h.creates x g n in grind arith; slots = h.slots }

no_refusals : (f : ℕ → ℕ → Option ℕ) (l : ℕ → ℕ → Option Kept) (session : ℕ) → Fair f l → Fair (put f session (λ g. None)) l
no_refusals f l session h = record { creates = λ x g n q. let old = h.creates x g n in grind arith; slots = h.slots }

put_slot : (f : ℕ → ℕ → Option ℕ) (l : ℕ → ℕ → Option Kept) (o index number status : ℕ) → is_other status ≡ true
    → Fair f l → Fair f (put2 l o index (Some (record { number = number; status = status })))
put_slot f l o index number status e h = record { creates = h.creates; slots = λ p i k q. let old = h.slots p i k in grind arith }

no_slots : (f : ℕ → ℕ → Option ℕ) (l : ℕ → ℕ → Option Kept) (o : ℕ) → Fair f l → Fair f (put l o (λ i. None))
no_slots f l o h = record { creates = h.creates; slots = λ p i k q. let old = h.slots p i k in grind arith }

slotted : (s : Server) (o index number status : ℕ) → is_other status ≡ true → FairServer s → FairServer (keep_slot s o index number status)
slotted s o index number status e h =
    either FairServer (is_slot index) (record s {
      lock_sequences = put2 s.lock_sequences o index (Some (record { number = number; status = status }));
    }) s
    (λ _. put_slot s.refused s.lock_sequences o index number status e h) (λ _. h)

pending_set : (s : Server) (o : ℕ) → FairServer s → FairServer (pending_behind s o)
pending_set s o h = either FairServer (deletes_on_close (s.opened o).options)
    (set_delete_pending s (s.opened o).file true) s (λ _. h) (λ _. h)

gone : (s : Server) (f : ℕ) → FairServer s → FairServer (without_gone s f)
gone s f h = either FairServer (goes s f) (remove_file s f) s (λ _. h) (λ _. h)

left : (s : Server) (o : ℕ) → FairServer s → FairServer (leave_open s o)
left s o h = let b = left_beside s o in
    subst (λ (l : ℕ → ℕ → Option Kept). Fair (leave_open s o).refused l) (sym b.lock_sequences)
    (subst (λ (f : ℕ → ℕ → Option ℕ). Fair f s.lock_sequences) (sym b.refused) h)

expired : (s : Server) (o : ℕ) → FairServer s → FairServer (expire s o)
expired s o h = by (s.opened o).create_guid
  where
    by : (g : Option ℕ) → FairServer (add_expired_guid (leave_open s o) (s.opened o).client_guid g)
    by None = left s o h
    by (Some g) = left s o h

reached : (s : Server) (m : Message) (o : ℕ) → FairServer s → FairServer (reach s m o)
reached s m o h = either FairServer (is_late s m o) s (record s { sequence = put s.sequence o m.channel_sequence }) (λ _. h) (λ _. h)

joined : (s : Server) (m : Message) (o : ℕ) → FairServer s → FairServer (attached s m o)
joined s m o h = either FairServer (is_some (s.session_of_open o)) s (attach s m o) (λ _. h) (λ _. h)

closed : (s : Server) (session : ℕ) (g : Option ℕ) → FairServer s → FairServer (keep_closed s session g)
closed s session None h = h
closed s session (Some g) h = h

changed_file : (s : Server) (f now : ℕ) (c : Change) → FairServer s → FairServer (change_file s f now c)
changed_file s f now (PutBytes at bytes) h = h
changed_file s f now (PutEnd size) h = h
changed_file s f now (PutBasic basic) h = h
changed_file s f now (PutDeletePending flag) h = h
changed_file s f now (PutPath replaced path) h = h
changed_file s f now PutNothing h = h

made : (s : Server) (r : CreateRequest) (f : Option ℕ) (now : ℕ) → FairServer s → FairServer (file_made s r f now)
made s r None now h = h
made s r (Some f) now h = either FairServer (empties r.disposition) _ s (λ _. h) (λ _. h)

ends : (s : Server) (session now : ℕ) (q : Bool) → FairServer s → FairServer (end_session s session now q)
ends s session now q h = no_refusals s.refused s.lock_sequences session h

ended_if : (s : Server) (now : ℕ) (o : Option ℕ) (q : Bool) → FairServer s → FairServer (end_if_named s now o q)
ended_if s now None q h = h
ended_if s now (Some session) q h = ends s session now q h

tree_gone : (s : Server) (session tree : ℕ) → FairServer s → FairServer (drop_tree s session tree)
tree_gone s session tree h =
    let os = opens_of_tree s session tree in let t = close_all s session os in let b = closed_beside s session os in
    subst (λ (l : ℕ → ℕ → Option Kept). Fair t.refused l) (sym b.lock_sequences)
    (subst (λ (f : ℕ → ℕ → Option ℕ). Fair f s.lock_sequences) (sym b.refused) h)

by_effect : (s : Server) (m : Message) (now : ℕ) (v : Verdict) → keeps_fair v ≡ true → FairServer s → FairServer (apply s m now v).server
by_effect s m now (Refuse status) e h = h
by_effect s m now (Give body) e h = h
by_effect s m now (KeepRefusal guid status) e h = put_refusals s.refused s.lock_sequences m.session_id guid status e h
by_effect s m now (Repeat o r) e h = joined s m o h
by_effect s m now (Attach o r) e h = joined s m o h
by_effect s m now (Make r found action) e h = let t = file_made s r found now in no_slots t.refused t.lock_sequences _
    (made s r found now h)
by_effect s m now (TurnDown o status) e h = reached s m o h
by_effect s m now (Tell o body) e h = reached s m o h
by_effect s m now (Show o last body) e h = reached s m o h
by_effect s m now (KeepSlot o index number status elements) e h = slotted (reach s m o) o index number status e (reached s m o h)
by_effect s m now (PutRanges o index number ranges elements) e h =
    slotted (set_ranges (reach s m o) (file_of s o) ranges) o index number success refl (reached s m o h)
by_effect s m now (Alter o change body) e h = changed_file (reach s m o) (file_of s o) now change (reached s m o h)
by_effect s m now (CloseOpen o body) e h = closed (leave_open s o) m.session_id (s.opened o).create_guid (left s o h)
by_effect s m now Challenge e h = h
by_effect s m now (ChallengeBinding session) e h = h
by_effect s m now (Begin session user previous r is_quiet) e h = ended_if s now previous is_quiet h
by_effect s m now (Join session) e h = h
by_effect s m now (EndSession session is_quiet) e h = ends s session now is_quiet h
by_effect s m now (AddTree pipes) e h = h
by_effect s m now DropTree e h = tree_gone s m.session_id m.tree_id h

-- ---- records

unfoldable pub is_fair_record : Record → Bool
is_fair_record (LockRecord origin o index number status elements) = is_other status
is_fair_record _ = true

unfoldable pub all_fair : List Record → Bool
all_fair [] = true
all_fair (r ∷ rs) = is_fair_record r && all_fair rs

pub fair_more : (xs ys : List Record) → all_fair xs ≡ true → all_fair ys ≡ true → all_fair (xs ++ ys) ≡ true
unfolding all_fair
fair_more [] ys a b = b
fair_more (x ∷ xs) ys a b = let i = λ (e : all_fair xs ≡ true). fair_more xs ys e b in
    two (is_fair_record x) (all_fair xs) (all_fair (xs ++ ys)) a i
  where
    two : (x y z : Bool) → (x && y) ≡ true → (y ≡ true → z ≡ true) → (x && z) ≡ true
    two true y z a i = i a
    two false y z a i = a

AllFair : List Record → Type 0
AllFair rs = all_fair rs ≡ true

fair_gone : (s : Server) (origin : Origin) (f : ℕ) → AllFair (gone_records s origin f)
unfolding gone_records all_fair is_fair_record AllFair
fair_gone s origin f = either AllFair (goes s f) (RemoveRecord origin f ∷ []) [] (λ _. refl) (λ _. refl)

fair_mark : (s : Server) (f : ℕ) → AllFair (mark_records s f)
unfolding mark_records all_fair is_fair_record AllFair
fair_mark s f = either AllFair (is_left_pending s f) (DeleteRecord (origin_at 0) f false ∷ []) [] (λ _. refl) (λ _. refl)

fair_settled : (s : Server) (origin : Origin) (f : ℕ) → AllFair (left_file_records s origin f)
unfolding left_file_records all_fair is_fair_record AllFair
fair_settled s origin f = either AllFair (is_kept_back s f) (DeleteRecord origin f false ∷ []) (gone_records s origin f) (λ _. refl)
    (λ _. fair_gone s origin f)

fair_shut : (s : Server) (origin : Origin) (o : ℕ) → AllFair (shut_records s origin o)
unfolding shut_records all_fair is_fair_record AllFair
fair_shut s origin o = either AllFair (s.opened o).persistent (CloseRecord origin o ∷ []) [] (λ _. refl) (λ _. refl)

fair_pending : (s : Server) (origin : Origin) (o : ℕ) → AllFair (pending_records s origin o)
unfolding pending_records all_fair is_fair_record AllFair
fair_pending s origin o = either AllFair (not (s.opened o).persistent && (deletes_on_close (s.opened o).options
    && not (s.delete_pending (s.opened o).file))) (DeleteRecord origin (s.opened o).file true ∷ []) [] (λ _. refl)
    (λ _. refl)

fair_left : (s : Server) (origin : Origin) (o : ℕ) → AllFair (leave_records s origin o)
unfolding leave_records AllFair
fair_left s origin o =
    let f = (s.opened o).file in let d = drop_open (pending_behind s o) o in
    fair_more (pending_records s origin o) (shut_records s origin o ++ left_file_records d origin f)
    (fair_pending s origin o) (fair_more (shut_records s origin o) (left_file_records d origin f) (fair_shut s origin o)
    (fair_settled d origin f))

fair_all_left : (s : Server) (origin : Origin) (os : List ℕ) → AllFair (leave_all_records s origin os)
unfolding leave_all_records all_fair AllFair
fair_all_left s origin [] = refl
fair_all_left s origin (o ∷ os) = fair_more (leave_records s origin o) (leave_all_records (leave_open s o) origin os)
    (fair_left s origin o) (fair_all_left (leave_open s o) origin os)

fair_ended : (s : Server) (origin : Origin) (session : ℕ) (q : Bool) → AllFair (end_records s origin session q)
unfolding end_records all_fair AllFair
fair_ended s origin session true = refl
fair_ended s origin session false = fair_all_left s origin (plain_of s session)

fair_named : (s : Server) (origin : Origin) (session : Option ℕ) (q : Bool) → AllFair (records_if_named s origin session q)
unfolding all_fair AllFair
fair_named s origin None q = refl
fair_named s origin (Some session) q = fair_ended s origin session q

fair_expired : (s : Server) (origin : Origin) (o : ℕ) → AllFair (expire_records s origin o)
unfolding expire_records all_fair is_fair_record AllFair
fair_expired s origin o = fair_settled (drop_open (pending_behind s o) o) origin (s.opened o).file

fair_all_out : (s : Server) (ks : List ℕ) (now : ℕ) (q : Bool) → AllFair (take_all_records s ks now q)
unfolding take_all_records all_fair AllFair
fair_all_out s [] now q = refl
fair_all_out s (k ∷ ks) now q = fair_more (records_if_named s (origin_at 0) (ends_with s k) q)
    (take_all_records (take_out s k now q) ks now q) (fair_named s (origin_at 0) (ends_with s k) q)
    (fair_all_out (take_out s k now q) ks now q)

fair_lock : (s : Server) (m : Message) (o index number status : ℕ) (elements : List Element) → is_other status ≡ true
    → AllFair (lock_records s m o index number status elements)
unfolding lock_records all_fair is_fair_record AllFair
fair_lock s m o index number status elements e = either AllFair (s.opened o).persistent _ [] (λ _. one (is_other status) e) (λ _. refl)
  where
    one : (b : Bool) → b ≡ true → (b && true) ≡ true
    one true e = refl
    one false e = e

fair_change : (m : Message) (f now : ℕ) (change : Change) → AllFair (change_records m f now change)
unfolding change_records all_fair is_fair_record AllFair
fair_change m f now (PutBytes at bytes) = refl
fair_change m f now (PutEnd size) = refl
fair_change m f now (PutBasic basic) = refl
fair_change m f now (PutDeletePending flag) = refl
fair_change m f now (PutPath replaced path) = refl
fair_change m f now PutNothing = refl

fair_create : (s : Server) (m : Message) (r : CreateRequest) (found : Option ℕ) (action now : ℕ)
    → AllFair (create_records s m r found action now)
unfolding create_records all_fair is_fair_record AllFair
fair_create s m r found action now = either AllFair ((action == 1) && not (is_persistent r.durable)) [] _ (λ _. refl) (λ _. refl)

records_by : (s : Server) (m : Message) (now : ℕ) (v : Verdict) → keeps_fair v ≡ true → AllFair (apply s m now v).records
unfolding all_fair AllFair
records_by s m now (Refuse status) e = refl
records_by s m now (Give body) e = refl
records_by s m now (KeepRefusal guid status) e = refl
records_by s m now (Repeat o r) e = refl
records_by s m now (Attach o r) e = refl
records_by s m now (Make r found action) e = fair_create s m r found action now
records_by s m now (TurnDown o status) e = refl
records_by s m now (Tell o body) e = refl
records_by s m now (Show o last body) e = refl
records_by s m now (KeepSlot o index number status elements) e = fair_lock s m o index number status elements e
records_by s m now (PutRanges o index number ranges elements) e = fair_lock s m o index number success elements refl
records_by s m now (Alter o change body) e = fair_change m (file_of s o) now change
records_by s m now (CloseOpen o body) e = fair_left s (origin_of m) o
records_by s m now Challenge e = refl
records_by s m now (ChallengeBinding session) e = refl
records_by s m now (Begin session user previous r is_quiet) e = fair_named s (origin_of m) previous is_quiet
records_by s m now (Join session) e = refl
records_by s m now (EndSession session is_quiet) e = fair_ended s (origin_of m) session is_quiet
records_by s m now (AddTree pipes) e = refl
records_by s m now DropTree e = fair_all_left s (origin_of m) (opens_of_tree s m.session_id m.tree_id)

-- ---- a step

pub record FairAnswer (A : Answer) : Type 0 where
  pub server : FairServer A.server
  pub records : all_fair A.records ≡ true

taken_out : (s : Server) (k now : ℕ) (q : Bool) → FairServer s → FairServer (take_out s k now q)
taken_out s k now q h = ended_if s now (ends_with s k) q h

all_out : (s : Server) (ks : List ℕ) (now : ℕ) (q : Bool) → FairServer s → FairServer (take_all_out s ks now q)
unfolding take_all_out
all_out s [] now q h = h
all_out s (k ∷ ks) now q h = all_out (take_out s k now q) ks now q (taken_out s k now q h)

-- what a ruling keeps
abbrev FairRuling : Ruling → Type 0
FairRuling (Says m v) = keeps_fair v ≡ true
FairRuling _ = Unit {0}

carries : (t : Server) (now : ℕ) (r : Ruling) → FairRuling r → FairServer t → FairAnswer (carried_out t now r)
unfolding AllFair all_fair
carries t now (Says m v) e h = record { server = by_effect t m now v e h; records = records_by t m now v e }
carries t now (TakesIn k) e h = record { server = h; records = refl }
carries t now TurnsAway e h = record { server = h; records = refl }
carries t now (TakesOut k q) e h = record { server = taken_out t k now q h; records = fair_named t (origin_at k) (ends_with t k) q }
carries t now (TakesAllOut q) e h = record { server = all_out t t.connections now q h; records = fair_all_out t t.connections now q }

ruled : (t : Server) (e : ServerEvent) → FairServer t → FairRuling (ruling t e)
ruled t (Accept k) h = either FairRuling (nat_le max_connections (length t.connections)) TurnsAway (TakesIn k) (λ _. tt) (λ _. tt)
ruled t (Heard m) h = keeps_check t m h
ruled t (End k) h = tt
ruled t Stop h = tt

ruled_full : (r : Ruling) → FairRuling r → FairRuling (ruling_without_room r)
ruled_full (Says m v) e = keeps_full v e
ruled_full (TakesIn k) e = tt
ruled_full TurnsAway e = tt
ruled_full (TakesOut k q) e = tt
ruled_full (TakesAllOut q) e = tt

pub fair_step : (s : Server) (now : ℕ) (e : ServerEvent) → FairServer s → FairAnswer (step s now e)
unfolding AllFair all_fair
fair_step s now e h = by_ruling FairAnswer s now e (λ t front r at rules. whole t front r at (rule t (server t front at) r rules))
  where
    server : (t : Server) (front : List Record) → Front s now e t front → FairServer t
    server t front (inl q) = subst FairServer (sym q.0) h
    server t front (inr q) = subst FairServer (sym q.2) (expired (with_deadlines s now) q.0 h)

    told : (t : Server) (front : List Record) → Front s now e t front → all_fair front ≡ true
    told t front (inl q) = ap all_fair q.1
    told t front (inr q) = ap all_fair q.3 ∙ fair_expired (with_deadlines s now) _ q.0

    rule : (t : Server) → FairServer t → (r : Ruling) → Rules t e r → FairRuling r
    rule t i r (inl q) = subst FairRuling (sym q) (ruled t e i)
    rule t i r (inr q) = subst FairRuling (sym q) (ruled_full (ruling t e) (ruled t e i))

    whole : (t : Server) (front : List Record) (r : Ruling) → Front s now e t front → FairRuling r
        → FairAnswer (recorded (carried_out t now r) (front ++ (carried_out t now r).records))
    whole t front r at rule = let c = carries t now r rule (server t front at) in record {
      server = c.server;
      records = fair_more front (carried_out t now r).records (told t front at) c.records;
    }

-- ---- what it answers

status_by : (s : Server) (m : Message) (now : ℕ) (v : Verdict) → is_fair v ≡ true → is_other (apply s m now v).reply.status ≡ true
status_by s m now (Refuse status) e = e
status_by s m now (Give body) e = refl
status_by s m now (KeepRefusal guid status) e = e
status_by s m now (Repeat o r) e = refl
status_by s m now (Attach o r) e = refl
status_by s m now (Make r found action) e = refl
status_by s m now (TurnDown o status) e = e
status_by s m now (Tell o body) e = refl
status_by s m now (Show o last body) e = refl
status_by s m now (KeepSlot o index number status elements) e = e
status_by s m now (PutRanges o index number ranges elements) e = refl
status_by s m now (Alter o change body) e = refl
status_by s m now (CloseOpen o body) e = refl
status_by s m now Challenge e = refl
status_by s m now (ChallengeBinding session) e = refl
status_by s m now (Begin session user previous r is_quiet) e = refl
status_by s m now (Join session) e = refl
status_by s m now (EndSession session is_quiet) e = refl
status_by s m now (AddTree pipes) e = refl
status_by s m now DropTree e = refl

pub other_status : (s : Server) (now : ℕ) (m : Message) → FairServer s → is_plain m.command ≡ true → is_setup m.command
    ≡ false → m.fault ≡ None → has_session s m ≡ true → is_other (step s now (Heard m)).reply.status ≡ true
other_status s now m h p n fault here = by_verdict (λ A. is_other A.reply.status ≡ true) s now m (λ t v records b f.
    status_by t m now v (found t v b f))
  where
    server : (t : Server) → Before s now t → FairServer t
    server t (inl q) = subst FairServer (sym q) h
    server t (inr q) = subst FairServer (sym q.2) (expired (with_deadlines s now) q.0 h)

    checked : (t : Server) → Before s now t → is_fair (check t m) ≡ true
    checked t b = fair_check t m (server t b) p n fault (ap (λ f. is_at m.session_id (f m.connection))
        (before_stays s now t b).session_on ∙ here)

    found : (t : Server) (v : Verdict) → Before s now t → Finds t m v → is_fair v ≡ true
    found t v b (inl q) = ap is_fair q ∙ checked t b
    found t v b (inr q) = ap is_fair q ∙ fair_full (check t m) (checked t b)

-- ---- the fold

swept : (s : Server) (es : List Entry) → FairServer s → FairServer (sweep s es)
unfolding sweep
swept s [] h = h
swept s (e ∷ es) h = swept (without_gone s e.file) es (gone s e.file h)

restored : (s : Server) (f action : ℕ) (n : Option NewOpen) → FairServer s → FairServer (restore s f action n)
restored s f action None h = h
restored s f action (Some n) h = no_slots s.refused s.lock_sequences n.id h

created : (s : Server) (action f : ℕ) (path : List ℕ) (attributes : ℕ) (is_dir : Bool) (time : ℕ) → FairServer s
    → FairServer (created_file s action f path attributes is_dir time)
created s action f path attributes is_dir time h = either FairServer (action == 2) _ _ (λ _. h)
    (λ _. either FairServer (action == 1) s _ (λ _. h) (λ _. h))

granted : (s : Server) (o index number : ℕ) (a : RangeAnswer) → FairServer s → FairServer (lock_granted s o index number a)
granted s o index number (Denied status) h = h
granted s o index number (Stands ranges) h = slotted (set_ranges s (file_of s o) ranges) o index number success refl h

locked : (s : Server) (o index number status : ℕ) (elements : List Element) → is_other status ≡ true → FairServer s
    → FairServer (lock_recorded s o index number status elements)
locked s o index number status elements e h =
    either FairServer (not (all_lock elements || all_unlock elements)) s _ (λ _. h)
    (λ _. either FairServer (status == success)
    (lock_granted s o index number (change_ranges (s.ranges (file_of s o)) o elements))
    (keep_slot s o index number status) (λ _. granted s o index number _ h)
    (λ _. slotted s o index number status e h))

expired_added : (s : Server) (client : ℕ) (g : Option ℕ) → FairServer s → FairServer (add_expired_guid s client g)
expired_added s client None h = h
expired_added s client (Some g) h = h

by_record : (s : Server) (r : Record) → is_fair_record r ≡ true → FairServer s → FairServer (with_record s r)
unfolding is_fair_record
by_record s (EpochRecord number) e h = either FairServer (number == s.epoch + 1) _ s (λ _. swept s s.entries h) (λ _. h)
by_record s (VersionRecord number) e h = either FairServer ((number == 2) && (s.version == 1)) _ s (λ _. h) (λ _. h)
by_record s (CreateRecord origin action file path attributes is_dir time opened) e h =
    either FairServer _ (restore (created_file s action file path attributes is_dir time) file action opened) s
    (λ _. restored (created_file s action file path attributes is_dir time) file action opened
    (created s action file path attributes is_dir time h)) (λ _. h)
by_record s (WriteRecord origin file at time bytes) e h = either FairServer _ _ s (λ _. h) (λ _. h)
by_record s (EndRecord origin file size time) e h = either FairServer _ _ s (λ _. h) (λ _. h)
by_record s (BasicRecord origin file basic) e h = either FairServer _ _ s (λ _. h) (λ _. h)
by_record s (DeleteRecord origin file flag) e h = either FairServer _ _ s (λ _. h) (λ _. h)
by_record s (RenameRecord origin file replaced path) e h = either FairServer _ _ s (λ _. h) (λ _. h)
by_record s (RemoveRecord origin file) e h = either FairServer _ _ s (λ _. h) (λ _. h)
by_record s (LockRecord origin o index number status elements) e h = either FairServer _
    (lock_recorded s o index number status elements) s (λ _. locked s o index number status elements e h) (λ _. h)
by_record s (CloseRecord origin o) e h = either FairServer (s.standing o) (shut_recorded s o) s (λ _. pending_set s o h) (λ _. h)
by_record s (ExpireRecord origin o) e h =
    either FairServer (s.standing o && nat_lt s.expired_count max_expired_guids)
    (add_expired_guid (shut_recorded s o) (s.opened o).client_guid (s.opened o).create_guid) s
    (λ _. expired_added (shut_recorded s o) (s.opened o).client_guid (s.opened o).create_guid (pending_set s o h))
    (λ _. h)

folds : (s : Server) (rs : List Record) → all_fair rs ≡ true → FairServer s → FairServer (fold_from s rs)
unfolding fold_from all_fair
folds s [] e h = h
folds s (r ∷ rs) e h = folds (with_record s r) rs (back (is_fair_record r) (all_fair rs) e)
    (by_record s r (front (is_fair_record r) (all_fair rs) e) h)
  where
    front : (x y : Bool) → (x && y) ≡ true → x ≡ true
    front true y e = refl
    front false y e = e

    back : (x y : Bool) → (x && y) ≡ true → y ≡ true
    back true y e = e
    back false y e = absurd (cc)

fair_epoch : (d : Server) → AllFair (epoch_records d)
unfolding all_fair is_fair_record AllFair
fair_epoch d = either AllFair (d.version == 1) (VersionRecord 2 ∷ EpochRecord (d.epoch + 1) ∷ [])
    (EpochRecord (d.epoch + 1) ∷ []) (λ _. refl) (λ _. refl)

fair_unmarked : (d : Server) (es : List Entry) → AllFair (unmark_records d es)
unfolding unmark_records all_fair AllFair
fair_unmarked d [] = refl
fair_unmarked d (e ∷ es) = fair_more (mark_records d e.file) (unmark_records d es) (fair_mark d e.file)
    (fair_unmarked d es)

pub fair_opening : (d : Server) → all_fair (opening_records d) ≡ true
unfolding AllFair
fair_opening d = let b = fold_from d (epoch_records d) in
    fair_more (epoch_records d) (unmark_records b b.entries) (fair_epoch d) (fair_unmarked b b.entries)

pub fair_nothing : all_fair [] ≡ true
unfolding all_fair
fair_nothing = refl

pub fair_fold : (rs : List Record) → all_fair rs ≡ true → FairServer (fold rs)
fair_fold rs e = folds nothing_yet rs e (record { creates = λ x g n q. absurd (cc); slots = λ o i k q. absurd (cc) })
