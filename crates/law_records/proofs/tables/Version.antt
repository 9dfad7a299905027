-- No event changes the version of the journal.
use Rattle.std.proofs.Common.{◌≡◌, ℕ, nat_le, Bool, true, false, if◌then◌else◌, List, [], ◌∷◌, ◌++◌, Option, Some, None, is_some, refl, ◌∙◌}
use Rattle.spec_exchange.specs.CheckCreate.{empties}
use Rattle.spec_exchange.specs.CheckOpen.{file_of, is_late, is_slot}
use Rattle.spec_exchange.specs.Commands.{CreateRequest, deletes_on_close}
use Rattle.spec_exchange.specs.Effects.{apply, attach, attached, change_file, end_if_named, file_made, keep_closed}
use Rattle.spec_exchange.specs.Effects.{keep_slot, opens_of_tree, reach, set_ranges}
use Rattle.spec_exchange.specs.Files.{empty_file, remove_file, set_delete_pending}
use Rattle.spec_exchange.specs.Files.{file_attributes}
use Rattle.spec_exchange.specs.Opens.{drop_open, goes, leave_open, pending_behind, is_kept_back, without_gone}
use Rattle.spec_exchange.specs.Records.{fits, origin_at}
use Rattle.spec_exchange.specs.State.{Answer, Message, Record, Server, ServerEvent}
use Rattle.spec_exchange.specs.Status.{success}
use Rattle.spec_exchange.specs.Step.{Ruling, Says, TakesAllOut, TakesIn, TakesOut, TurnsAway, add_expired_guid, behind_expiry, carried_out}
use Rattle.spec_exchange.specs.Step.{connection_of, due, ends_with, event_answer, expire, expire_records, expiring, max_expired_guids}
use Rattle.spec_exchange.specs.Step.{ruling, ruling_without_room, step, take_all_out, take_out, with_deadlines}
use Rattle.spec_exchange.specs.Table.{put, put2}
use Rattle.spec_exchange.specs.Verdict.{AddTree, Alter, Attach, Begin, Challenge, ChallengeBinding, Change, CloseOpen, DropTree, EndSession}
use Rattle.spec_exchange.specs.Verdict.{Give, Join, KeepRefusal, KeepSlot, Make, PutBasic, PutBytes, PutDeletePending, PutEnd, PutNothing}
use Rattle.spec_exchange.specs.Verdict.{PutPath, PutRanges, Refuse, Repeat, Show, Tell, TurnDown, Verdict}
use Rattle.law_server.proofs.tables.Closing.{closed_beside}

one_of : (b : Bool) (u v : Server) (n : ℕ) → u.version ≡ n → v.version ≡ n → (if b then u else v).version ≡ n
one_of true u v n e h = e
one_of false u v n e h = h

-- ---- the parts of effects

reached : (s : Server) (m : Message) (o : ℕ) → (reach s m o).version ≡ s.version
reached s m o = one_of (is_late s m o) s (record s { sequence = put s.sequence o m.channel_sequence }) s.version refl refl

attached_same : (s : Server) (m : Message) (o : ℕ) → (attached s m o).version ≡ s.version
attached_same s m o = one_of (is_some (s.session_of_open o)) s (attach s m o) s.version refl refl

slot_same : (u : Server) (o index number status : ℕ) → (keep_slot u o index number status).version ≡ u.version
slot_same u o index number status = one_of (is_slot index) (record u {
  lock_sequences = put2 u.lock_sequences o index (Some (record { number = number; status = status }));
}) u u.version refl refl

changed_same : (u : Server) (f now : ℕ) (c : Change) → (change_file u f now c).version ≡ u.version
changed_same u f now (PutBytes at bytes) = refl
changed_same u f now (PutEnd size) = refl
changed_same u f now (PutBasic basic) = refl
changed_same u f now (PutDeletePending flag) = refl
changed_same u f now (PutPath replaced path) = refl
changed_same u f now PutNothing = refl

closed_same : (u : Server) (x : ℕ) (g : Option ℕ) → (keep_closed u x g).version ≡ u.version
closed_same u x None = refl
closed_same u x (Some g) = refl

left_same : (s : Server) (o : ℕ) → (leave_open s o).version ≡ s.version
left_same s o =
    let w = pending_behind s o in let v = drop_open w o in let f = (s.opened o).file in
    one_of (is_kept_back v f) (set_delete_pending v f false) (without_gone v f) w.version refl
    (one_of (goes v f) (remove_file v f) v w.version refl refl)
    ∙ one_of (deletes_on_close (s.opened o).options) (set_delete_pending s (s.opened o).file true) s s.version refl refl

made_same : (s : Server) (r : CreateRequest) (found : Option ℕ) (now : ℕ) → (file_made s r found now).version ≡ s.version
made_same s r None now = refl
made_same s r (Some f) now = one_of (empties r.disposition) (empty_file s f (file_attributes r.attributes) now) s s.version refl refl

ended_same : (s : Server) (now : ℕ) (o : Option ℕ) (q : Bool) → (end_if_named s now o q).version ≡ s.version
ended_same s now None q = refl
ended_same s now (Some x) q = refl

taken_out : (ks : List ℕ) (s : Server) (now : ℕ) (q : Bool) → (take_all_out s ks now q).version ≡ s.version
unfolding take_all_out
taken_out [] s now q = refl
taken_out (k ∷ ks) s now q = taken_out ks (take_out s k now q) now q ∙ ended_same s now (ends_with s k) q

-- ---- a ruling

applied : (s : Server) (m : Message) (now : ℕ) (v : Verdict) → (apply s m now v).server.version ≡ s.version
applied s m now (Refuse status) = refl
applied s m now (Give body) = refl
applied s m now (KeepRefusal guid status) = refl
applied s m now (Repeat o r) = attached_same s m o
applied s m now (Attach o r) = attached_same s m o
applied s m now (Make r found action) = made_same s r found now
applied s m now (TurnDown o status) = reached s m o
applied s m now (Tell o body) = reached s m o
applied s m now (Show o last body) = reached s m o
applied s m now (KeepSlot o index number status elements) = slot_same (reach s m o) o index number status ∙ reached s m o
applied s m now (PutRanges o index number ranges elements) = slot_same (set_ranges (reach s m o) (file_of s o) ranges) o
    index number success ∙ reached s m o
applied s m now (Alter o change body) = changed_same (reach s m o) (file_of s o) now change ∙ reached s m o
applied s m now (CloseOpen o body) = closed_same (leave_open s o) m.session_id (s.opened o).create_guid ∙ left_same s o
applied s m now Challenge = refl
applied s m now (ChallengeBinding session) = refl
applied s m now (Begin session user previous r q) = ended_same s now previous q
applied s m now (Join session) = refl
applied s m now (EndSession session q) = refl
applied s m now (AddTree pipes) = refl
applied s m now DropTree = (closed_beside s m.session_id (opens_of_tree s m.session_id m.tree_id)).version

carried : (s : Server) (now : ℕ) (r : Ruling) → (carried_out s now r).server.version ≡ s.version
carried s now (Says m v) = applied s m now v
carried s now (TakesIn k) = refl
carried s now TurnsAway = refl
carried s now (TakesOut k q) = ended_same s now (ends_with s k) q
carried s now (TakesAllOut q) = taken_out s.connections s now q

-- ---- the step

one_answer : (b : Bool) (A B : Answer) (n : ℕ) → A.server.version ≡ n → B.server.version ≡ n → (if b then A else B).server.version ≡ n
one_answer true A B n e h = e
one_answer false A B n e h = h

alone : (d : Server) (now : ℕ) (e : ServerEvent) → (event_answer d now e).server.version ≡ d.version
alone d now e =
    let r = ruling d e in let A = carried_out d now r in let B = carried_out d now (ruling_without_room r) in
    one_answer (fits d A.records) A B d.version (carried d now r) (carried d now (ruling_without_room r))

pub expired_version : (d : Server) (o : ℕ) → (expire d o).version ≡ d.version
expired_version d o = by (d.opened o).create_guid ∙ left_same d o
  where
    by : (g : Option ℕ) → (add_expired_guid (leave_open d o) (d.opened o).client_guid g).version ≡ (leave_open d o).version
    by None = refl
    by (Some g) = refl

behind : (d : Server) (now : ℕ) (e : ServerEvent) (front : List Record) (A : Answer) → A.server.version ≡ d.version
    → (behind_expiry d now e front A).server.version ≡ d.version
behind d now e front A h = one_answer (fits d (front ++ A.records)) (record A { records = front ++ A.records })
    (event_answer d now e) d.version h
    (alone d now e)

either : (d : Server) (now : ℕ) (e : ServerEvent) (o : Option ℕ) → (expiring d now e o).server.version ≡ d.version
either d now e None = alone d now e
either d now e (Some o) =
    let x = expire d o in let A = carried_out x now (ruling x e) in let front = expire_records d (origin_at (connection_of e)) o in
    one_answer (nat_le max_expired_guids d.expired_count) (event_answer d now e) (behind_expiry d now e front A) d.version (alone d now e)
    (behind d now e front A (carried x now (ruling x e) ∙ expired_version d o))

pub version_stays : (s : Server) (now : ℕ) (e : ServerEvent) → (step s now e).server.version ≡ s.version
version_stays s now e = let d = with_deadlines s now in either d now e (due d now)
