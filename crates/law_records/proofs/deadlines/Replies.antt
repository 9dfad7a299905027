-- The reply to an event, and whether it acted, depend on no deadline.
use Rattle.std.proofs.Common.{◌≡◌, ℕ, ◌||◌, Bool, true, false, if◌then◌else◌, List, [], ◌∷◌, Option, Some, None, refl, ap, ◌∙◌}
use Rattle.spec_exchange.specs.CheckCreate.{empties}
use Rattle.spec_exchange.specs.CheckOpen.{file_of}
use Rattle.spec_exchange.specs.Commands.{CreateRequest}
use Rattle.spec_exchange.specs.Effects.{acts_if_named, apply, change_acts, create_reply, file_made, make_open, new_file}
use Rattle.spec_exchange.specs.Effects.{next_open, open_row}
use Rattle.spec_exchange.specs.Effects.{end_acts}
use Rattle.spec_exchange.specs.Files.{empty_file, info_of, is_directory, path_of}
use Rattle.spec_exchange.specs.Files.{file_attributes}
use Rattle.spec_exchange.specs.Files.{is_read_only, exists}
use Rattle.spec_exchange.specs.Opens.{add_open}
use Rattle.spec_exchange.specs.Opens.{granted}
use Rattle.spec_exchange.specs.State.{Body, Message, Server}
use Rattle.spec_exchange.specs.Step.{Ruling, Says, TakesAllOut, TakesIn, TakesOut, TurnsAway, carried_out, ends_with}
use Rattle.spec_exchange.specs.Step.{take_all_acts, take_out}
use Rattle.spec_exchange.specs.Table.{is_filled}
use Rattle.spec_exchange.specs.Verdict.{AddTree, Alter, Attach, Begin, Challenge, ChallengeBinding, Change, CloseOpen, DropTree, EndSession}
use Rattle.spec_exchange.specs.Verdict.{Give, Join, KeepRefusal, KeepSlot, Make, PutBasic, PutBytes, PutDeletePending, PutEnd, PutNothing}
use Rattle.spec_exchange.specs.Verdict.{PutPath, PutRanges, Refuse, Repeat, Show, Tell, TurnDown, Verdict}
use Rattle.law_records.proofs.deadlines.Checks.{with}
use Rattle.law_records.proofs.deadlines.Opens.{dates_if, ends, of_tree, plain, taken_out}
use Rattle.law_records.proofs.deadlines.Records.{file}

-- ---- the reply

files : (s : Server) (f : ℕ → Option ℕ) (r : CreateRequest) (o : Option ℕ) (now : ℕ) → file_made (with s f) r o now
    ≡ with (file_made s r o now) f
files s f r None now = refl
files s f r (Some g) now = by (empties r.disposition)
  where
    by : (b : Bool) → (if b then empty_file (with s f) g (file_attributes r.attributes) now else with s f)
        ≡ with (if b then empty_file s g (file_attributes r.attributes) now else s) f
    by true = refl
    by false = refl

-- what is told of an open that is made, of this file among these
abbrev told_in : Server → Server → Message → CreateRequest → ℕ → ℕ → Body
told_in u s m r g action =
    create_reply (add_open u (next_open s) (open_row s m r g action) (Some m.session_id) m.channel_sequence) (next_open s) r action

made : (s : Server) (f : ℕ → Option ℕ) (m : Message) (r : CreateRequest) (o : Option ℕ) (action now : ℕ)
    → create_reply (make_open (with s f) m r o action now) (next_open s) r action
    ≡ create_reply (make_open s m r o action now) (next_open s) r action
unfolding info_of is_directory is_read_only exists granted
made s f m r o action now =
    ap (λ (u : Server). told_in u s m r (new_file (with s f) o) action) (files s f r o now)
    ∙ ap (λ (g : ℕ). told_in (file_made s r o now) s m r g action) (file s f o)

replied : (s : Server) (f : ℕ → Option ℕ) (m : Message) (now : ℕ) (v : Verdict) → (apply (with s f) m now v).reply ≡ (apply s m now v).reply
unfolding info_of is_directory
replied s f m now (Refuse status) = refl
replied s f m now (Give body) = refl
replied s f m now (KeepRefusal guid status) = refl
replied s f m now (Repeat o r) = refl
replied s f m now (Attach o r) = refl
replied s f m now (Make r o action) = λ t. record (apply s m now (Make r o action)).reply { body = made s f m r o action now t }
replied s f m now (TurnDown o status) = refl
replied s f m now (Tell o body) = refl
replied s f m now (Show o last body) = refl
replied s f m now (KeepSlot o index number status elements) = refl
replied s f m now (PutRanges o index number ranges elements) = refl
replied s f m now (Alter o change body) = refl
replied s f m now (CloseOpen o body) = refl
replied s f m now Challenge = refl
replied s f m now (ChallengeBinding session) = refl
replied s f m now (Begin session user previous r q) = refl
replied s f m now (Join session) = refl
replied s f m now (EndSession session q) = refl
replied s f m now (AddTree pipes) = refl
replied s f m now DropTree = refl

pub told : (s : Server) (f : ℕ → Option ℕ) (now : ℕ) (r : Ruling) → (carried_out (with s f) now r).reply ≡ (carried_out s now r).reply
told s f now (Says m v) = replied s f m now v
told s f now (TakesIn k) = refl
told s f now TurnsAway = refl
told s f now (TakesOut k q) = refl
told s f now (TakesAllOut q) = refl

-- ---- whether it acted

changes : (s : Server) (f : ℕ → Option ℕ) (x now : ℕ) (c : Change) → change_acts (with s f) x now c ≡ change_acts s x now c
unfolding path_of
changes s f x now (PutBytes at bytes) = refl
changes s f x now (PutEnd size) = refl
changes s f x now (PutBasic basic) = refl
changes s f x now (PutDeletePending flag) = refl
changes s f x now (PutPath replaced path) = refl
changes s f x now PutNothing = refl

ended : (s : Server) (f : ℕ → Option ℕ) (x : ℕ) → end_acts (with s f) x ≡ end_acts s x
ended s f x = ap (λ (os : List ℕ). is_filled os) (plain s f x s.opens)

ended_if : (s : Server) (f : ℕ → Option ℕ) (o : Option ℕ) → acts_if_named (with s f) o ≡ acts_if_named s o
ended_if s f None = refl
ended_if s f (Some x) = ended s f x

lost : (s : Server) (f : ℕ → Option ℕ) (k : ℕ) → acts_if_named (with s f) (ends_with (with s f) k) ≡ acts_if_named s (ends_with s k)
lost s f k = ap (acts_if_named (with s f)) (ends s f k) ∙ ended_if s f (ends_with s k)

all_lost : (ks : List ℕ) (s : Server) (f : ℕ → Option ℕ) (now : ℕ) (q : Bool) → take_all_acts (with s f) ks now q ≡ take_all_acts s ks now q
unfolding take_all_acts
all_lost [] s f now q = refl
all_lost (k ∷ ks) s f now q =
    ap (λ (b : Bool). b || take_all_acts (take_out (with s f) k now q) ks now q) (lost s f k)
    ∙ (ap (λ (u : Server). acts_if_named s (ends_with s k) || take_all_acts u ks now q) (taken_out s f k now q)
    ∙ ap (λ (b : Bool). acts_if_named s (ends_with s k) || b) (all_lost ks (take_out s k now q) (dates_if s f now (ends_with s k)) now q))

did : (s : Server) (f : ℕ → Option ℕ) (m : Message) (now : ℕ) (v : Verdict) → (apply (with s f) m now v).acted ≡ (apply s m now v).acted
did s f m now (Refuse status) = refl
did s f m now (Give body) = refl
did s f m now (KeepRefusal guid status) = refl
did s f m now (Repeat o r) = refl
did s f m now (Attach o r) = refl
did s f m now (Make r o action) = refl
did s f m now (TurnDown o status) = refl
did s f m now (Tell o body) = refl
did s f m now (Show o last body) = refl
did s f m now (KeepSlot o index number status elements) = refl
did s f m now (PutRanges o index number ranges elements) = refl
did s f m now (Alter o change body) = changes s f (file_of s o) now change
did s f m now (CloseOpen o body) = refl
did s f m now Challenge = refl
did s f m now (ChallengeBinding session) = refl
did s f m now (Begin session user previous r q) = ended_if s f previous
did s f m now (Join session) = refl
did s f m now (EndSession session q) = ended s f session
did s f m now (AddTree pipes) = refl
did s f m now DropTree = ap (λ (os : List ℕ). is_filled os) (of_tree s f m.session_id m.tree_id s.opens)

pub acted : (s : Server) (f : ℕ → Option ℕ) (now : ℕ) (r : Ruling) → (carried_out (with s f) now r).acted ≡ (carried_out s now r).acted
acted s f now (Says m v) = did s f m now v
acted s f now (TakesIn k) = refl
acted s f now TurnsAway = refl
acted s f now (TakesOut k q) = lost s f k
acted s f now (TakesAllOut q) = all_lost s.connections s f now q
