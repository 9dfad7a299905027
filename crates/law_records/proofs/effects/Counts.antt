-- No effect of an event changes the count of the journal's bytes, nor how many of them the records of events may fill.
use Rattle.std.proofs.Common.{◌≡◌, ℕ, Bool, true, false, if◌then◌else◌, List, [], ◌∷◌, Option, Some, None, is_some, refl, ap, ◌∙◌}
use Rattle.spec_exchange.specs.CheckCreate.{empties}
use Rattle.spec_exchange.specs.CheckOpen.{file_of, is_late, is_slot}
use Rattle.spec_exchange.specs.Commands.{CreateRequest, deletes_on_close}
use Rattle.spec_exchange.specs.Effects.{apply, attach, attached, change_file, close_all, end_if_named, file_made, keep_closed}
use Rattle.spec_exchange.specs.Effects.{keep_slot, opens_of_tree, reach, set_ranges}
use Rattle.spec_exchange.specs.Files.{empty_file, remove_file, set_delete_pending}
use Rattle.spec_exchange.specs.Files.{file_attributes}
use Rattle.spec_exchange.specs.Opens.{drop_open, goes, leave_open, pending_behind, is_kept_back, without_gone}
use Rattle.spec_exchange.specs.State.{Message, Server}
use Rattle.spec_exchange.specs.Status.{success}
use Rattle.spec_exchange.specs.Step.{Ruling, Says, TakesAllOut, TakesIn, TakesOut, TurnsAway, add_expired_guid, carried_out}
use Rattle.spec_exchange.specs.Step.{ends_with, expire}
use Rattle.spec_exchange.specs.Step.{take_all_out, take_out}
use Rattle.spec_exchange.specs.Table.{put, put2}
use Rattle.spec_exchange.specs.Verdict.{AddTree, Alter, Attach, Begin, Challenge, ChallengeBinding, Change, CloseOpen, DropTree, EndSession}
use Rattle.spec_exchange.specs.Verdict.{Give, Join, KeepRefusal, KeepSlot, Make, PutBasic, PutBytes, PutDeletePending, PutEnd, PutNothing}
use Rattle.spec_exchange.specs.Verdict.{PutPath, PutRanges, Refuse, Repeat, Show, Tell, TurnDown, Verdict}
use Rattle.law_server.proofs.tables.Closing.{Beside, closed_beside}

abbrev counted : Server → ℕ × ℕ
counted s = (s.journal, s.limit)

beside_same : (s u : Server) → Beside s u → counted u ≡ counted s
beside_same s u b = ap (λ (n : ℕ). (n, u.limit)) b.journal ∙ ap (λ (n : ℕ). (s.journal, n)) b.limit

one_of : (b : Bool) (u v : Server) (n : ℕ × ℕ) → counted u ≡ n → counted v ≡ n → counted (if b then u else v) ≡ n
one_of true u v n e h = e
one_of false u v n e h = h

-- ---- the parts of effects

reached : (s : Server) (m : Message) (o : ℕ) → counted (reach s m o) ≡ counted s
reached s m o = one_of (is_late s m o) s (record s { sequence = put s.sequence o m.channel_sequence }) (counted s) refl refl

attached_same : (s : Server) (m : Message) (o : ℕ) → counted (attached s m o) ≡ counted s
attached_same s m o = one_of (is_some (s.session_of_open o)) s (attach s m o) (counted s) refl refl

slot_same : (u : Server) (o index number status : ℕ) → counted (keep_slot u o index number status) ≡ counted u
slot_same u o index number status = one_of (is_slot index) (record u {
  lock_sequences = put2 u.lock_sequences o index (Some (record { number = number; status = status }));
}) u (counted u) refl refl

changed_same : (u : Server) (f now : ℕ) (c : Change) → counted (change_file u f now c) ≡ counted u
changed_same u f now (PutBytes at bytes) = refl
changed_same u f now (PutEnd size) = refl
changed_same u f now (PutBasic basic) = refl
changed_same u f now (PutDeletePending flag) = refl
changed_same u f now (PutPath replaced path) = refl
changed_same u f now PutNothing = refl

closed_same : (u : Server) (x : ℕ) (g : Option ℕ) → counted (keep_closed u x g) ≡ counted u
closed_same u x None = refl
closed_same u x (Some g) = refl

left_same : (s : Server) (o : ℕ) → counted (leave_open s o) ≡ counted s
left_same s o =
    let w = pending_behind s o in let v = drop_open w o in let f = (s.opened o).file in
    one_of (is_kept_back v f) (set_delete_pending v f false) (without_gone v f) (counted w) refl
    (one_of (goes v f) (remove_file v f) v (counted w) refl refl)
    ∙ one_of (deletes_on_close (s.opened o).options) (set_delete_pending s (s.opened o).file true) s (counted s) refl refl

made_same : (s : Server) (r : CreateRequest) (found : Option ℕ) (now : ℕ) → counted (file_made s r found now) ≡ counted s
made_same s r None now = refl
made_same s r (Some f) now = one_of (empties r.disposition) (empty_file s f (file_attributes r.attributes) now) s (counted s) refl refl

ended_same : (s : Server) (now : ℕ) (o : Option ℕ) (q : Bool) → counted (end_if_named s now o q) ≡ counted s
ended_same s now None q = refl
ended_same s now (Some x) q = refl

taken_out : (ks : List ℕ) (s : Server) (now : ℕ) (q : Bool) → counted (take_all_out s ks now q) ≡ counted s
unfolding take_all_out
taken_out [] s now q = refl
taken_out (k ∷ ks) s now q = taken_out ks (take_out s k now q) now q ∙ ended_same s now (ends_with s k) q

-- ---- a ruling

applied : (s : Server) (m : Message) (now : ℕ) (v : Verdict) → counted (apply s m now v).server ≡ counted s
applied s m now (Refuse status) = refl
applied s m now (Give body) = refl
applied s m now (KeepRefusal guid status) = refl
applied s m now (Repeat o r) = attached_same s m o
applied s m now (Attach o r) = attached_same s m o
applied s m now (Make r found action) = made_same s r found now
applied s m now (TurnDown o status) = reached s m o
applied s m now (Tell o body) = reached s m o
applied s m now (Show o last body) = reached s m o
applied s m now (KeepSlot o index number status elements) = slot_same (reach s m o) o index number status ∙ reached s m o
applied s m now (PutRanges o index number ranges elements) = slot_same (set_ranges (reach s m o) (file_of s o) ranges) o
    index number success ∙ reached s m o
applied s m now (Alter o change body) = changed_same (reach s m o) (file_of s o) now change ∙ reached s m o
applied s m now (CloseOpen o body) = closed_same (leave_open s o) m.session_id (s.opened o).create_guid ∙ left_same s o
applied s m now Challenge = refl
applied s m now (ChallengeBinding session) = refl
applied s m now (Begin session user previous r q) = ended_same s now previous q
applied s m now (Join session) = refl
applied s m now (EndSession session q) = refl
applied s m now (AddTree pipes) = refl
applied s m now DropTree = beside_same s (close_all s m.session_id (opens_of_tree s m.session_id m.tree_id))
    (closed_beside s m.session_id (opens_of_tree s m.session_id m.tree_id))

pub carried_same : (s : Server) (now : ℕ) (r : Ruling) → counted (carried_out s now r).server ≡ counted s
carried_same s now (Says m v) = applied s m now v
carried_same s now (TakesIn k) = refl
carried_same s now TurnsAway = refl
carried_same s now (TakesOut k q) = ended_same s now (ends_with s k) q
carried_same s now (TakesAllOut q) = taken_out s.connections s now q

-- ---- an expiry

pub expired_same : (d : Server) (o : ℕ) → counted (expire d o) ≡ counted d
expired_same d o = by (d.opened o).create_guid ∙ left_same d o
  where
    by : (g : Option ℕ) → counted (add_expired_guid (leave_open d o) (d.opened o).client_guid g) ≡ counted (leave_open d o)
    by None = refl
    by (Some g) = refl
