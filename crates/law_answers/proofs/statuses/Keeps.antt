-- What each step makes the server keep, in its columns and in the journal, fits 4 bytes; and so does what it answers.
use Rattle.spec_exchange.specs.Records.{origin_at}
use Rattle.spec_exchange.specs.Effects.{opens_of_tree, close_all, drop_tree}
use Rattle.law_server.proofs.tables.Closing.{closed_beside, left_beside}
use Rattle.std.proofs.Common.{◌≡◌, ℕ, ◌+◌, ◌==◌, nat_le, nat_lt, Bool, true, false, not, ◌&&◌, ◌||◌, if◌then◌else◌, List, [], ◌∷◌}
use Rattle.std.proofs.Common.{◌++◌, inl, inr, length, refl, sym, subst, ◌∙◌, ap, Option, Some, None, is_some}
use Rattle.spec_exchange.specs.Table.{put, put2}
use Rattle.spec_exchange.specs.Status.{success}
use Rattle.spec_exchange.specs.Commands.{CreateRequest, Element, deletes_on_close, all_lock, all_unlock}
use Rattle.spec_exchange.specs.State.{Server, Message, ServerEvent, Accept, Heard, End, Stop, Answer, Entry, Kept}
use Rattle.spec_exchange.specs.State.{Origin, Record, NewOpen, EpochRecord, VersionRecord, CreateRecord, WriteRecord}
use Rattle.spec_exchange.specs.State.{EndRecord, BasicRecord, DeleteRecord, RenameRecord, RemoveRecord, LockRecord}
use Rattle.spec_exchange.specs.State.{CloseRecord, ExpireRecord}
use Rattle.spec_exchange.specs.Files.{set_delete_pending, remove_file}
use Rattle.spec_exchange.specs.Ranges.{RangeAnswer, Stands, Denied, change_ranges}
use Rattle.spec_exchange.specs.Opens.{drop_open, leave_open, pending_behind, without_gone, goes, is_kept_back, gone_records, left_file_records, leave_records}
use Rattle.spec_exchange.specs.Opens.{pending_records, shut_records}
use Rattle.spec_exchange.specs.CheckCreate.{empties}
use Rattle.spec_exchange.specs.CheckOpen.{is_late, is_slot, file_of}
use Rattle.spec_exchange.specs.Effects.{apply, reach, attached, attach, keep_slot, keep_closed, change_file, file_made}
use Rattle.spec_exchange.specs.Effects.{end_if_named, end_session, set_ranges, create_records, lock_records}
use Rattle.spec_exchange.specs.Effects.{change_records, end_records, leave_all_records, records_if_named, is_persistent}
use Rattle.spec_exchange.specs.Effects.{plain_of}
use Rattle.spec_exchange.specs.Records.{origin_of}
use Rattle.spec_exchange.specs.Verdict.{Verdict, Refuse, Give, KeepRefusal, Repeat, Attach, Make, TurnDown, Tell, Show}
use Rattle.spec_exchange.specs.Verdict.{KeepSlot, PutRanges, Alter, CloseOpen, Challenge, ChallengeBinding, Begin, Join}
use Rattle.spec_exchange.specs.Verdict.{EndSession, AddTree, DropTree, Change, PutBytes, PutEnd, PutBasic}
use Rattle.spec_exchange.specs.Verdict.{PutDeletePending, PutPath, PutNothing}
use Rattle.spec_exchange.specs.Fold.{fold, fold_from, with_record, sweep, restore, created_file, lock_granted}
use Rattle.spec_exchange.specs.Fold.{lock_recorded, shut_recorded, nothing_yet, opening_records, epoch_records, is_left_pending, mark_records, unmark_records}
use Rattle.spec_exchange.specs.Step.{step, with_deadlines, expire, expire_records, add_expired_guid, max_expired_guids}
use Rattle.spec_exchange.specs.Step.{max_connections, Ruling, Says, TakesIn, TurnsAway, TakesOut, TakesAllOut, ruling}
use Rattle.spec_exchange.specs.Step.{ruling_without_room, carried_out, take_out, take_all_out, take_all_records}
use Rattle.spec_exchange.specs.Step.{ends_with}
use Rattle.law_server.proofs.tables.Logic.{either}
use Rattle.law_server.proofs.tables.Doors.{by_ruling, by_verdict, recorded, Front, Rules, Before}
use Rattle.law_answers.proofs.statuses.Checks.{is_low, IsRefusal, KeptIn, LowIn, LowKept, Low}
use Rattle.law_answers.proofs.statuses.Checks.{LowServer, Tells, Keeps, Carries, keeps_check, keeps_full, finds_low}

-- ---- effects

put_refusals : (f : ℕ → ℕ → Option ℕ) (l : ℕ → ℕ → Option Kept) (session guid status : ℕ) → IsRefusal status
    → Low f l → Low (put2 f session guid (Some status)) l
put_refusals f l session guid status e h =
    record {
      creates = λ x g.
          either KeptIn (x == session) (if g == guid then Some status else f x g) (f x g)
          (λ _. either KeptIn (g == guid) (Some status) (f x g) (λ _. e) (λ _. h.creates x g)) (λ _. h.creates x g);
      slots = h.slots;
    }

no_refusals : (f : ℕ → ℕ → Option ℕ) (l : ℕ → ℕ → Option Kept) (session : ℕ) → Low f l → Low (put f session (λ g. None)) l
no_refusals f l session h =
    record {
      creates = λ x g.
          either (λ (u : ℕ → Option ℕ). KeptIn (u g)) (x == session) (λ n. None) (f x) (λ _. tt) (λ _. h.creates x g);
      slots = h.slots;
    }

put_slot : (f : ℕ → ℕ → Option ℕ) (l : ℕ → ℕ → Option Kept) (o index number status : ℕ) → is_low status ≡ true
    → Low f l → Low f (put2 l o index (Some (record { number = number; status = status })))
put_slot f l o index number status e h =
    let kept : Option Kept = Some (record { number = number; status = status }) in
    record {
      creates = h.creates;
      slots = λ p i.
          either LowKept (p == o) (if i == index then kept else l p i) (l p i)
          (λ _. either LowKept (i == index) kept (l p i) (λ _. e) (λ _. h.slots p i)) (λ _. h.slots p i);
    }

no_slots : (f : ℕ → ℕ → Option ℕ) (l : ℕ → ℕ → Option Kept) (o : ℕ) → Low f l → Low f (put l o (λ i. None))
no_slots f l o h =
    record {
      creates = h.creates;
      slots = λ p i. either (λ (u : ℕ → Option Kept). LowKept (u i)) (p == o) (λ n. None) (l p) (λ _. tt) (λ _. h.slots p i);
    }

slotted : (s : Server) (o index number status : ℕ) → is_low status ≡ true → LowServer s → LowServer (keep_slot s o index number status)
slotted s o index number status e h =
    either LowServer (is_slot index) (record s {
      lock_sequences = put2 s.lock_sequences o index (Some (record { number = number; status = status }));
    }) s
    (λ _. put_slot s.refused s.lock_sequences o index number status e h) (λ _. h)

pending_set : (s : Server) (o : ℕ) → LowServer s → LowServer (pending_behind s o)
pending_set s o h = either LowServer (deletes_on_close (s.opened o).options)
    (set_delete_pending s (s.opened o).file true) s (λ _. h) (λ _. h)

gone : (s : Server) (f : ℕ) → LowServer s → LowServer (without_gone s f)
gone s f h = either LowServer (goes s f) (remove_file s f) s (λ _. h) (λ _. h)

left : (s : Server) (o : ℕ) → LowServer s → LowServer (leave_open s o)
left s o h = let b = left_beside s o in
    subst (λ (l : ℕ → ℕ → Option Kept). Low (leave_open s o).refused l) (sym b.lock_sequences)
    (subst (λ (f : ℕ → ℕ → Option ℕ). Low f s.lock_sequences) (sym b.refused) h)

expired : (s : Server) (o : ℕ) → LowServer s → LowServer (expire s o)
expired s o h = by (s.opened o).create_guid
  where
    by : (g : Option ℕ) → LowServer (add_expired_guid (leave_open s o) (s.opened o).client_guid g)
    by None = left s o h
    by (Some g) = left s o h

reached : (s : Server) (m : Message) (o : ℕ) → LowServer s → LowServer (reach s m o)
reached s m o h = either LowServer (is_late s m o) s (record s { sequence = put s.sequence o m.channel_sequence }) (λ _. h) (λ _. h)

joined : (s : Server) (m : Message) (o : ℕ) → LowServer s → LowServer (attached s m o)
joined s m o h = either LowServer (is_some (s.session_of_open o)) s (attach s m o) (λ _. h) (λ _. h)

closed : (s : Server) (session : ℕ) (g : Option ℕ) → LowServer s → LowServer (keep_closed s session g)
closed s session None h = h
closed s session (Some g) h = h

changed_file : (s : Server) (f now : ℕ) (c : Change) → LowServer s → LowServer (change_file s f now c)
changed_file s f now (PutBytes at bytes) h = h
changed_file s f now (PutEnd size) h = h
changed_file s f now (PutBasic basic) h = h
changed_file s f now (PutDeletePending flag) h = h
changed_file s f now (PutPath replaced path) h = h
changed_file s f now PutNothing h = h

made : (s : Server) (r : CreateRequest) (f : Option ℕ) (now : ℕ) → LowServer s → LowServer (file_made s r f now)
made s r None now h = h
made s r (Some f) now h = either LowServer (empties r.disposition) _ s (λ _. h) (λ _. h)

ends : (s : Server) (session now : ℕ) (q : Bool) → LowServer s → LowServer (end_session s session now q)
ends s session now q h = no_refusals s.refused s.lock_sequences session h

ended_if : (s : Server) (now : ℕ) (o : Option ℕ) (q : Bool) → LowServer s → LowServer (end_if_named s now o q)
ended_if s now None q h = h
ended_if s now (Some session) q h = ends s session now q h

tree_gone : (s : Server) (session tree : ℕ) → LowServer s → LowServer (drop_tree s session tree)
tree_gone s session tree h =
    let os = opens_of_tree s session tree in let t = close_all s session os in let b = closed_beside s session os in
    subst (λ (l : ℕ → ℕ → Option Kept). Low t.refused l) (sym b.lock_sequences)
    (subst (λ (f : ℕ → ℕ → Option ℕ). Low f s.lock_sequences) (sym b.refused) h)

by_effect : (s : Server) (m : Message) (now : ℕ) (v : Verdict) → Keeps v → LowServer s → LowServer (apply s m now v).server
by_effect s m now (Refuse status) e h = h
by_effect s m now (Give body) e h = h
by_effect s m now (KeepRefusal guid status) e h = put_refusals s.refused s.lock_sequences m.session_id guid status e h
by_effect s m now (Repeat o r) e h = joined s m o h
by_effect s m now (Attach o r) e h = joined s m o h
by_effect s m now (Make r found action) e h = let t = file_made s r found now in no_slots t.refused t.lock_sequences _
    (made s r found now h)
by_effect s m now (TurnDown o status) e h = reached s m o h
by_effect s m now (Tell o body) e h = reached s m o h
by_effect s m now (Show o last body) e h = reached s m o h
by_effect s m now (KeepSlot o index number status elements) e h = slotted (reach s m o) o index number status e (reached s m o h)
by_effect s m now (PutRanges o index number ranges elements) e h =
    slotted (set_ranges (reach s m o) (file_of s o) ranges) o index number success refl (reached s m o h)
by_effect s m now (Alter o change body) e h = changed_file (reach s m o) (file_of s o) now change (reached s m o h)
by_effect s m now (CloseOpen o body) e h = closed (leave_open s o) m.session_id (s.opened o).create_guid (left s o h)
by_effect s m now Challenge e h = h
by_effect s m now (ChallengeBinding session) e h = h
by_effect s m now (Begin session user previous r is_quiet) e h = ended_if s now previous is_quiet h
by_effect s m now (Join session) e h = h
by_effect s m now (EndSession session is_quiet) e h = ends s session now is_quiet h
by_effect s m now (AddTree pipes) e h = h
by_effect s m now DropTree e h = tree_gone s m.session_id m.tree_id h

-- ---- records

unfoldable pub is_low_record : Record → Bool
is_low_record (LockRecord origin o index number status elements) = is_low status
is_low_record _ = true

unfoldable pub all_low : List Record → Bool
all_low [] = true
all_low (r ∷ rs) = is_low_record r && all_low rs

pub low_more : (xs ys : List Record) → all_low xs ≡ true → all_low ys ≡ true → all_low (xs ++ ys) ≡ true
unfolding all_low
low_more [] ys a b = b
low_more (x ∷ xs) ys a b = let i = λ (e : all_low xs ≡ true). low_more xs ys e b in
    two (is_low_record x) (all_low xs) (all_low (xs ++ ys)) a i
  where
    two : (x y z : Bool) → (x && y) ≡ true → (y ≡ true → z ≡ true) → (x && z) ≡ true
    two true y z a i = i a
    two false y z a i = a

AllLow : List Record → Type 0
AllLow rs = all_low rs ≡ true

low_gone : (s : Server) (origin : Origin) (f : ℕ) → AllLow (gone_records s origin f)
unfolding gone_records all_low is_low_record AllLow
low_gone s origin f = either AllLow (goes s f) (RemoveRecord origin f ∷ []) [] (λ _. refl) (λ _. refl)

low_mark : (s : Server) (f : ℕ) → AllLow (mark_records s f)
unfolding mark_records all_low is_low_record AllLow
low_mark s f = either AllLow (is_left_pending s f) (DeleteRecord (origin_at 0) f false ∷ []) [] (λ _. refl) (λ _. refl)

low_settled : (s : Server) (origin : Origin) (f : ℕ) → AllLow (left_file_records s origin f)
unfolding left_file_records all_low is_low_record AllLow
low_settled s origin f = either AllLow (is_kept_back s f) (DeleteRecord origin f false ∷ []) (gone_records s origin f) (λ _. refl)
    (λ _. low_gone s origin f)

low_shut : (s : Server) (origin : Origin) (o : ℕ) → AllLow (shut_records s origin o)
unfolding shut_records all_low is_low_record AllLow
low_shut s origin o = either AllLow (s.opened o).persistent (CloseRecord origin o ∷ []) [] (λ _. refl) (λ _. refl)

low_pending : (s : Server) (origin : Origin) (o : ℕ) → AllLow (pending_records s origin o)
unfolding pending_records all_low is_low_record AllLow
low_pending s origin o = either AllLow (not (s.opened o).persistent && (deletes_on_close (s.opened o).options
    && not (s.delete_pending (s.opened o).file))) (DeleteRecord origin (s.opened o).file true ∷ []) [] (λ _. refl)
    (λ _. refl)

low_left : (s : Server) (origin : Origin) (o : ℕ) → AllLow (leave_records s origin o)
unfolding leave_records AllLow
low_left s origin o =
    let f = (s.opened o).file in let d = drop_open (pending_behind s o) o in
    low_more (pending_records s origin o) (shut_records s origin o ++ left_file_records d origin f)
    (low_pending s origin o) (low_more (shut_records s origin o) (left_file_records d origin f) (low_shut s origin o)
    (low_settled d origin f))

low_all_left : (s : Server) (origin : Origin) (os : List ℕ) → AllLow (leave_all_records s origin os)
unfolding leave_all_records all_low AllLow
low_all_left s origin [] = refl
low_all_left s origin (o ∷ os) = low_more (leave_records s origin o) (leave_all_records (leave_open s o) origin os)
    (low_left s origin o) (low_all_left (leave_open s o) origin os)

low_ended : (s : Server) (origin : Origin) (session : ℕ) (q : Bool) → AllLow (end_records s origin session q)
unfolding end_records all_low AllLow
low_ended s origin session true = refl
low_ended s origin session false = low_all_left s origin (plain_of s session)

low_named : (s : Server) (origin : Origin) (session : Option ℕ) (q : Bool) → AllLow (records_if_named s origin session q)
unfolding all_low AllLow
low_named s origin None q = refl
low_named s origin (Some session) q = low_ended s origin session q

low_expired : (s : Server) (origin : Origin) (o : ℕ) → AllLow (expire_records s origin o)
unfolding expire_records all_low is_low_record AllLow
low_expired s origin o = low_settled (drop_open (pending_behind s o) o) origin (s.opened o).file

low_all_out : (s : Server) (ks : List ℕ) (now : ℕ) (q : Bool) → AllLow (take_all_records s ks now q)
unfolding take_all_records all_low AllLow
low_all_out s [] now q = refl
low_all_out s (k ∷ ks) now q = low_more (records_if_named s (origin_at 0) (ends_with s k) q)
    (take_all_records (take_out s k now q) ks now q) (low_named s (origin_at 0) (ends_with s k) q)
    (low_all_out (take_out s k now q) ks now q)

low_lock : (s : Server) (m : Message) (o index number status : ℕ) (elements : List Element) → is_low status ≡ true
    → AllLow (lock_records s m o index number status elements)
unfolding lock_records all_low is_low_record AllLow
low_lock s m o index number status elements e = either AllLow (s.opened o).persistent _ [] (λ _. one (is_low status) e) (λ _. refl)
  where
    one : (b : Bool) → b ≡ true → (b && true) ≡ true
    one true e = refl
    one false e = e

low_change : (m : Message) (f now : ℕ) (change : Change) → AllLow (change_records m f now change)
unfolding change_records all_low is_low_record AllLow
low_change m f now (PutBytes at bytes) = refl
low_change m f now (PutEnd size) = refl
low_change m f now (PutBasic basic) = refl
low_change m f now (PutDeletePending flag) = refl
low_change m f now (PutPath replaced path) = refl
low_change m f now PutNothing = refl

low_create : (s : Server) (m : Message) (r : CreateRequest) (found : Option ℕ) (action now : ℕ)
    → AllLow (create_records s m r found action now)
unfolding create_records all_low is_low_record AllLow
low_create s m r found action now = either AllLow ((action == 1) && not (is_persistent r.durable)) [] _ (λ _. refl) (λ _. refl)

records_by : (s : Server) (m : Message) (now : ℕ) (v : Verdict) → Keeps v → AllLow (apply s m now v).records
unfolding all_low AllLow
records_by s m now (Refuse status) e = refl
records_by s m now (Give body) e = refl
records_by s m now (KeepRefusal guid status) e = refl
records_by s m now (Repeat o r) e = refl
records_by s m now (Attach o r) e = refl
records_by s m now (Make r found action) e = low_create s m r found action now
records_by s m now (TurnDown o status) e = refl
records_by s m now (Tell o body) e = refl
records_by s m now (Show o last body) e = refl
records_by s m now (KeepSlot o index number status elements) e = low_lock s m o index number status elements e
records_by s m now (PutRanges o index number ranges elements) e = low_lock s m o index number success elements refl
records_by s m now (Alter o change body) e = low_change m (file_of s o) now change
records_by s m now (CloseOpen o body) e = low_left s (origin_of m) o
records_by s m now Challenge e = refl
records_by s m now (ChallengeBinding session) e = refl
records_by s m now (Begin session user previous r is_quiet) e = low_named s (origin_of m) previous is_quiet
records_by s m now (Join session) e = refl
records_by s m now (EndSession session is_quiet) e = low_ended s (origin_of m) session is_quiet
records_by s m now (AddTree pipes) e = refl
records_by s m now DropTree e = low_all_left s (origin_of m) (opens_of_tree s m.session_id m.tree_id)

-- ---- a step

pub record LowAnswer (A : Answer) : Type 0 where
  pub server : LowServer A.server
  pub records : all_low A.records ≡ true

taken_out : (s : Server) (k now : ℕ) (q : Bool) → LowServer s → LowServer (take_out s k now q)
taken_out s k now q h = ended_if s now (ends_with s k) q h

all_out : (s : Server) (ks : List ℕ) (now : ℕ) (q : Bool) → LowServer s → LowServer (take_all_out s ks now q)
unfolding take_all_out
all_out s [] now q h = h
all_out s (k ∷ ks) now q h = all_out (take_out s k now q) ks now q (taken_out s k now q h)

-- what a ruling keeps
abbrev LowRuling : Ruling → Type 0
LowRuling (Says m v) = Keeps v
LowRuling _ = Unit {0}

carries : (t : Server) (now : ℕ) (r : Ruling) → LowRuling r → LowServer t → LowAnswer (carried_out t now r)
unfolding AllLow all_low
carries t now (Says m v) e h = record { server = by_effect t m now v e h; records = records_by t m now v e }
carries t now (TakesIn k) e h = record { server = h; records = refl }
carries t now TurnsAway e h = record { server = h; records = refl }
carries t now (TakesOut k q) e h = record { server = taken_out t k now q h; records = low_named t (origin_at k) (ends_with t k) q }
carries t now (TakesAllOut q) e h = record { server = all_out t t.connections now q h; records = low_all_out t t.connections now q }

ruled : (t : Server) (e : ServerEvent) → LowServer t → LowRuling (ruling t e)
ruled t (Accept k) h = either LowRuling (nat_le max_connections (length t.connections)) TurnsAway (TakesIn k) (λ _. tt) (λ _. tt)
ruled t (Heard m) h = keeps_check t m h
ruled t (End k) h = tt
ruled t Stop h = tt

ruled_full : (r : Ruling) → LowRuling r → LowRuling (ruling_without_room r)
ruled_full (Says m v) e = keeps_full v e
ruled_full (TakesIn k) e = tt
ruled_full TurnsAway e = tt
ruled_full (TakesOut k q) e = tt
ruled_full (TakesAllOut q) e = tt

pub low_step : (s : Server) (now : ℕ) (e : ServerEvent) → LowServer s → LowAnswer (step s now e)
unfolding AllLow all_low
low_step s now e h = by_ruling LowAnswer s now e (λ t front r at rules. whole t front r at (rule t (server t front at) r rules))
  where
    server : (t : Server) (front : List Record) → Front s now e t front → LowServer t
    server t front (inl q) = subst LowServer (sym q.0) h
    server t front (inr q) = subst LowServer (sym q.2) (expired (with_deadlines s now) q.0 h)

    told : (t : Server) (front : List Record) → Front s now e t front → all_low front ≡ true
    told t front (inl q) = ap all_low q.1
    told t front (inr q) = ap all_low q.3 ∙ low_expired (with_deadlines s now) _ q.0

    rule : (t : Server) → LowServer t → (r : Ruling) → Rules t e r → LowRuling r
    rule t i r (inl q) = subst LowRuling (sym q) (ruled t e i)
    rule t i r (inr q) = subst LowRuling (sym q) (ruled_full (ruling t e) (ruled t e i))

    whole : (t : Server) (front : List Record) (r : Ruling) → Front s now e t front → LowRuling r
        → LowAnswer (recorded (carried_out t now r) (front ++ (carried_out t now r).records))
    whole t front r at rule = let c = carries t now r rule (server t front at) in record {
      server = c.server;
      records = low_more front (carried_out t now r).records (told t front at) c.records;
    }

-- ---- what it answers

status_by : (s : Server) (m : Message) (now : ℕ) (v : Verdict) → Tells v → is_low (apply s m now v).reply.status ≡ true
status_by s m now (Refuse status) e = e
status_by s m now (Give body) e = refl
status_by s m now (KeepRefusal guid status) e = e.0
status_by s m now (Repeat o r) e = refl
status_by s m now (Attach o r) e = refl
status_by s m now (Make r found action) e = refl
status_by s m now (TurnDown o status) e = e
status_by s m now (Tell o body) e = refl
status_by s m now (Show o last body) e = refl
status_by s m now (KeepSlot o index number status elements) e = e
status_by s m now (PutRanges o index number ranges elements) e = refl
status_by s m now (Alter o change body) e = refl
status_by s m now (CloseOpen o body) e = refl
status_by s m now Challenge e = refl
status_by s m now (ChallengeBinding session) e = refl
status_by s m now (Begin session user previous r is_quiet) e = refl
status_by s m now (Join session) e = refl
status_by s m now (EndSession session is_quiet) e = refl
status_by s m now (AddTree pipes) e = refl
status_by s m now DropTree e = refl

pub before : (s : Server) (now : ℕ) (t : Server) → Before s now t → LowServer s → LowServer t
before s now t (inl q) h = subst LowServer (sym q) h
before s now t (inr q) h = subst LowServer (sym q.2) (expired (with_deadlines s now) q.0 h)

pub told_low : (s : Server) (now : ℕ) (m : Message) → LowServer s → Carries m.command → LowIn m.fault
    → is_low (step s now (Heard m)).reply.status ≡ true
told_low s now m h p e =
    by_verdict (λ A. is_low A.reply.status ≡ true) s now m
    (λ t v records b f. status_by t m now v (finds_low t m v (before s now t b h) p e f))

-- ---- the fold

swept : (s : Server) (es : List Entry) → LowServer s → LowServer (sweep s es)
unfolding sweep
swept s [] h = h
swept s (e ∷ es) h = swept (without_gone s e.file) es (gone s e.file h)

restored : (s : Server) (f action : ℕ) (n : Option NewOpen) → LowServer s → LowServer (restore s f action n)
restored s f action None h = h
restored s f action (Some n) h = no_slots s.refused s.lock_sequences n.id h

created : (s : Server) (action f : ℕ) (path : List ℕ) (attributes : ℕ) (is_dir : Bool) (time : ℕ) → LowServer s
    → LowServer (created_file s action f path attributes is_dir time)
created s action f path attributes is_dir time h = either LowServer (action == 2) _ _ (λ _. h)
    (λ _. either LowServer (action == 1) s _ (λ _. h) (λ _. h))

granted : (s : Server) (o index number : ℕ) (a : RangeAnswer) → LowServer s → LowServer (lock_granted s o index number a)
granted s o index number (Denied status) h = h
granted s o index number (Stands ranges) h = slotted (set_ranges s (file_of s o) ranges) o index number success refl h

locked : (s : Server) (o index number status : ℕ) (elements : List Element) → is_low status ≡ true → LowServer s
    → LowServer (lock_recorded s o index number status elements)
locked s o index number status elements e h =
    either LowServer (not (all_lock elements || all_unlock elements)) s _ (λ _. h)
    (λ _. either LowServer (status == success)
    (lock_granted s o index number (change_ranges (s.ranges (file_of s o)) o elements))
    (keep_slot s o index number status) (λ _. granted s o index number _ h)
    (λ _. slotted s o index number status e h))

expired_added : (s : Server) (client : ℕ) (g : Option ℕ) → LowServer s → LowServer (add_expired_guid s client g)
expired_added s client None h = h
expired_added s client (Some g) h = h

by_record : (s : Server) (r : Record) → is_low_record r ≡ true → LowServer s → LowServer (with_record s r)
unfolding is_low_record
by_record s (EpochRecord number) e h = either LowServer (number == s.epoch + 1) _ s (λ _. swept s s.entries h) (λ _. h)
by_record s (VersionRecord number) e h = either LowServer ((number == 2) && (s.version == 1)) _ s (λ _. h) (λ _. h)
by_record s (CreateRecord origin action file path attributes is_dir time opened) e h =
    either LowServer _ (restore (created_file s action file path attributes is_dir time) file action opened) s
    (λ _. restored (created_file s action file path attributes is_dir time) file action opened
    (created s action file path attributes is_dir time h)) (λ _. h)
by_record s (WriteRecord origin file at time bytes) e h = either LowServer _ _ s (λ _. h) (λ _. h)
by_record s (EndRecord origin file size time) e h = either LowServer _ _ s (λ _. h) (λ _. h)
by_record s (BasicRecord origin file basic) e h = either LowServer _ _ s (λ _. h) (λ _. h)
by_record s (DeleteRecord origin file flag) e h = either LowServer _ _ s (λ _. h) (λ _. h)
by_record s (RenameRecord origin file replaced path) e h = either LowServer _ _ s (λ _. h) (λ _. h)
by_record s (RemoveRecord origin file) e h = either LowServer _ _ s (λ _. h) (λ _. h)
by_record s (LockRecord origin o index number status elements) e h = either LowServer _
    (lock_recorded s o index number status elements) s (λ _. locked s o index number status elements e h) (λ _. h)
by_record s (CloseRecord origin o) e h = either LowServer (s.standing o) (shut_recorded s o) s (λ _. pending_set s o h) (λ _. h)
by_record s (ExpireRecord origin o) e h =
    either LowServer (s.standing o && nat_lt s.expired_count max_expired_guids)
    (add_expired_guid (shut_recorded s o) (s.opened o).client_guid (s.opened o).create_guid) s
    (λ _. expired_added (shut_recorded s o) (s.opened o).client_guid (s.opened o).create_guid (pending_set s o h))
    (λ _. h)

folds : (s : Server) (rs : List Record) → all_low rs ≡ true → LowServer s → LowServer (fold_from s rs)
unfolding fold_from all_low
folds s [] e h = h
folds s (r ∷ rs) e h = folds (with_record s r) rs (back (is_low_record r) (all_low rs) e)
    (by_record s r (front (is_low_record r) (all_low rs) e) h)
  where
    front : (x y : Bool) → (x && y) ≡ true → x ≡ true
    front true y e = refl
    front false y e = e

    back : (x y : Bool) → (x && y) ≡ true → y ≡ true
    back true y e = e
    back false y e = absurd (cc)

low_epoch : (d : Server) → AllLow (epoch_records d)
unfolding all_low is_low_record AllLow
low_epoch d = either AllLow (d.version == 1) (VersionRecord 2 ∷ EpochRecord (d.epoch + 1) ∷ [])
    (EpochRecord (d.epoch + 1) ∷ []) (λ _. refl) (λ _. refl)

low_unmarked : (d : Server) (es : List Entry) → AllLow (unmark_records d es)
unfolding unmark_records all_low AllLow
low_unmarked d [] = refl
low_unmarked d (e ∷ es) = low_more (mark_records d e.file) (unmark_records d es) (low_mark d e.file)
    (low_unmarked d es)

pub low_opening : (d : Server) → all_low (opening_records d) ≡ true
unfolding AllLow
low_opening d = let b = fold_from d (epoch_records d) in
    low_more (epoch_records d) (unmark_records b b.entries) (low_epoch d) (low_unmarked b b.entries)

pub low_nothing : all_low [] ≡ true
unfolding all_low
low_nothing = refl

pub low_fold : (rs : List Record) → all_low rs ≡ true → LowServer (fold rs)
low_fold rs e = folds nothing_yet rs e (record { creates = λ x g. tt; slots = λ o i. tt })
