-- No record that the server owes makes an open that deletes the root on close.
use Rattle.std.proofs.Common.{◌≡◌, ℕ, ◌==◌, Bool, true, false, not, ◌&&◌, List, [], ◌∷◌}
use Rattle.std.proofs.Common.{refl, arith, Option, Some, None}
use Rattle.spec_exchange.specs.Commands.{CreateRequest, Durable, Element, deletes_on_close}
use Rattle.spec_exchange.specs.State.{Server, Message, Origin}
use Rattle.spec_exchange.specs.Files.{root}
use Rattle.spec_exchange.specs.Opens.{pending_records, shut_records, gone_records, leave_records, leave_open, drop_open, granted, pending_behind, goes, left_file_records, is_kept_back}
use Rattle.spec_exchange.specs.Records.{origin_of}
use Rattle.spec_exchange.specs.Verdict.{Verdict, Refuse, Give, KeepRefusal, Repeat, Attach, Make, TurnDown, Tell, Show}
use Rattle.spec_exchange.specs.Verdict.{KeepSlot, PutRanges, Alter, CloseOpen, Challenge, ChallengeBinding, Begin, Join}
use Rattle.spec_exchange.specs.Verdict.{EndSession, AddTree, DropTree, Change, PutBytes, PutEnd, PutBasic}
use Rattle.spec_exchange.specs.Verdict.{PutDeletePending, PutPath, PutNothing}
use Rattle.spec_exchange.specs.Effects.{apply, new_file, new_open, create_records, is_persistent, lock_records}
use Rattle.spec_exchange.specs.Effects.{opens_of_tree, change_records, plain_of, leave_all_records, end_records, records_if_named}
use Rattle.spec_exchange.specs.Step.{expire_records, ends_with, take_out, take_all_records}
use Rattle.law_server.specs.tables.Fits.{Fits, all_sound, keeps_root}
use Rattle.law_server.proofs.tables.Logic.{either}
use Rattle.law_server.proofs.tables.Found.{Facts, MakeFacts}
use Rattle.law_server.proofs.tables.Folded.{sound_more, sound_one, sound_none}

-- ---- what a leaving open owes

sound_gone : (s : Server) (origin : Origin) (f : ℕ) → all_sound (gone_records s origin f) ≡ true
unfolding gone_records
sound_gone s origin f = either (λ rs. all_sound rs ≡ true) (goes s f) _ _ (λ _. sound_one _ refl) (λ _. sound_none)

sound_settled : (s : Server) (origin : Origin) (f : ℕ) → all_sound (left_file_records s origin f) ≡ true
unfolding left_file_records
sound_settled s origin f = either (λ rs. all_sound rs ≡ true) (is_kept_back s f) _ _ (λ _. sound_one _ refl)
    (λ _. sound_gone s origin f)

sound_leave : (s : Server) (origin : Origin) (o : ℕ) → all_sound (leave_records s origin o) ≡ true
unfolding leave_records pending_records shut_records
sound_leave s origin o =
    sound_more _ _ (either (λ rs. all_sound rs ≡ true) (not (s.opened o).persistent
    && (deletes_on_close (s.opened o).options && not (s.delete_pending (s.opened o).file))) _ _
    (λ _. sound_one _ refl) (λ _. sound_none))
    (sound_more _ _ (either (λ rs. all_sound rs ≡ true) (s.opened o).persistent _ _ (λ _. sound_one _ refl) (λ _. sound_none))
    (sound_settled (drop_open (pending_behind s o) o) origin (s.opened o).file))

sound_leave_all : (s : Server) (origin : Origin) (os : List ℕ) → all_sound (leave_all_records s origin os) ≡ true
unfolding leave_all_records
sound_leave_all s origin [] = sound_none
sound_leave_all s origin (o ∷ os) = sound_more (leave_records s origin o) _ (sound_leave s origin o)
    (sound_leave_all (leave_open s o) origin os)

sound_end : (s : Server) (origin : Origin) (session : ℕ) (is_quiet : Bool) → all_sound (end_records s origin session is_quiet) ≡ true
unfolding end_records
sound_end s origin session true = sound_none
sound_end s origin session false = sound_leave_all s origin (plain_of s session)

pub sound_named : (s : Server) (origin : Origin) (named : Option ℕ) (is_quiet : Bool)
    → all_sound (records_if_named s origin named is_quiet) ≡ true
sound_named s origin None is_quiet = sound_none
sound_named s origin (Some session) is_quiet = sound_end s origin session is_quiet

pub sound_expiry : (s : Server) (origin : Origin) (o : ℕ) → all_sound (expire_records s origin o) ≡ true
unfolding expire_records all_sound
sound_expiry s origin o = sound_settled (drop_open (pending_behind s o) o) origin (s.opened o).file

pub sound_take_all : (s : Server) (ks : List ℕ) (now : ℕ) (is_quiet : Bool) → all_sound (take_all_records s ks now is_quiet) ≡ true
unfolding take_all_records
sound_take_all s [] now is_quiet = sound_none
sound_take_all s (k ∷ ks) now is_quiet = sound_more _ _ (sound_named s _ (ends_with s k) is_quiet)
    (sound_take_all (take_out s k now is_quiet) ks now is_quiet)

-- ---- by verdict

sound_opened : (s : Server) (m : Message) (r : CreateRequest) (f : ℕ) → (deletes_on_close r.options ≡ true → (f == root)
    ≡ false) → (access : ℕ) (u : Option Durable) → keeps_root f (new_open s m r access u) ≡ true
unfolding new_open
sound_opened s m r f off access None = refl
sound_opened s m r f off access (Some d) = either (λ n. keeps_root f n ≡ true) d.persistent _ _ (λ _. grind arith) (λ _. refl)

sound_create : (s : Server) (m : Message) (r : CreateRequest) (found : Option ℕ) (action now : ℕ)
    → (deletes_on_close r.options ≡ true → (new_file s found == root) ≡ false)
    → all_sound (create_records s m r found action now) ≡ true
unfolding create_records
sound_create s m r found action now off =
    either (λ rs. all_sound rs ≡ true) ((action == 1) && not (is_persistent r.durable)) _ _ (λ _. sound_none)
    (λ _. sound_one _ (sound_opened s m r (new_file s found) off (granted s (new_file s found) r.access) r.durable))

number_off : (n : ℕ) → Rattle.std.proofs.Common.◌<◌ 0 n → (n == root) ≡ false
number_off n l = grind arith

make_off : (s : Server) (m : Message) (r : CreateRequest) (found : Option ℕ) (action : ℕ) → Fits s
    → MakeFacts s m r found action → deletes_on_close r.options ≡ true → (new_file s found == root) ≡ false
make_off s m r None action i f d = number_off s.next_file i.next_file
make_off s m r (Some x) action i f d = (f.there x refl).no_root d

sound_lock : (s : Server) (m : Message) (o index number status : ℕ) (elements : List Element)
    → all_sound (lock_records s m o index number status elements) ≡ true
unfolding lock_records
sound_lock s m o index number status elements = either (λ rs. all_sound rs ≡ true) (s.opened o).persistent _ _
    (λ _. sound_one _ refl) (λ _. sound_none)

sound_change : (m : Message) (f now : ℕ) (change : Change) → all_sound (change_records m f now change) ≡ true
unfolding change_records
sound_change m f now (PutBytes at bytes) = sound_one _ refl
sound_change m f now (PutEnd size) = sound_one _ refl
sound_change m f now (PutBasic basic) = sound_one _ refl
sound_change m f now (PutDeletePending flag) = sound_one _ refl
sound_change m f now (PutPath replaced path) = sound_one _ refl
sound_change m f now PutNothing = sound_none

pub applied_sound : (s : Server) (m : Message) (now : ℕ) (v : Verdict) → Fits s → Facts s m v → all_sound (apply s m now v).records ≡ true
applied_sound s m now (Refuse status) i f = sound_none
applied_sound s m now (Give body) i f = sound_none
applied_sound s m now (KeepRefusal guid status) i f = sound_none
applied_sound s m now (Repeat o r) i f = sound_none
applied_sound s m now (Attach o r) i f = sound_none
applied_sound s m now (Make r found action) i f = sound_create s m r found action now (make_off s m r found action i f)
applied_sound s m now (TurnDown o status) i f = sound_none
applied_sound s m now (Tell o body) i f = sound_none
applied_sound s m now (Show o last body) i f = sound_none
applied_sound s m now (KeepSlot o index number status elements) i f = sound_lock s m o index number status elements
applied_sound s m now (PutRanges o index number ranges elements) i f = sound_lock s m o index number _ elements
applied_sound s m now (Alter o change body) i f = sound_change m (s.opened o).file now change
applied_sound s m now (CloseOpen o body) i f = sound_leave s (origin_of m) o
applied_sound s m now Challenge i f = sound_none
applied_sound s m now (ChallengeBinding session) i f = sound_none
applied_sound s m now (Begin session user previous r is_quiet) i f = sound_named s (origin_of m) previous is_quiet
applied_sound s m now (Join session) i f = sound_none
applied_sound s m now (EndSession session is_quiet) i f = sound_end s (origin_of m) session is_quiet
applied_sound s m now (AddTree pipes) i f = sound_none
applied_sound s m now DropTree i f = sound_leave_all s (origin_of m) (opens_of_tree s m.session_id m.tree_id)
