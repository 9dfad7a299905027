-- The records that an event owes depend on no deadline.
use Rattle.std.proofs.Common.{◌≡◌, ℕ, ◌==◌, not, ◌&&◌, if◌then◌else◌, [], ◌∷◌, Option, Some, None, refl}
use Rattle.spec_exchange.specs.Commands.{CreateRequest, Durable, asks_directory}
use Rattle.spec_exchange.specs.Effects.{apply, create_records, is_persistent, lock_records, new_file, new_open}
use Rattle.spec_exchange.specs.Effects.{final_attributes}
use Rattle.spec_exchange.specs.Records.{origin_at, origin_of}
use Rattle.spec_exchange.specs.State.{CreateRecord, Message, Server}
use Rattle.spec_exchange.specs.Step.{Ruling, Says, TakesAllOut, TakesIn, TakesOut, TurnsAway, carried_out}
use Rattle.spec_exchange.specs.Verdict.{AddTree, Alter, Attach, Begin, Challenge, ChallengeBinding, CloseOpen, DropTree, EndSession, Give}
use Rattle.spec_exchange.specs.Verdict.{Join, KeepRefusal, KeepSlot, Make, PutRanges, Refuse, Repeat, Show, Tell, TurnDown, Verdict}
use Rattle.law_records.proofs.deadlines.Checks.{with}
use Rattle.law_records.proofs.deadlines.Opens.{all_lost_records, ended_records, left_records, lost_records, records_if, tree_records}
use Rattle.spec_exchange.specs.Opens.{granted}
use Rattle.spec_exchange.specs.Files.{exists, is_directory, is_read_only}

pub file : (s : Server) (f : ℕ → Option ℕ) (found : Option ℕ) → new_file (with s f) found ≡ new_file s found
file s f None = refl
file s f (Some g) = refl

opened : (s : Server) (f : ℕ → Option ℕ) (m : Message) (r : CreateRequest) (access : ℕ) (d : Option Durable)
    → new_open (with s f) m r access d ≡ new_open s m r access d
unfolding new_open
opened s f m r access None = refl
opened s f m r access (Some d) = refl

final : (s : Server) (f : ℕ → Option ℕ) (r : CreateRequest) (found : Option ℕ) → final_attributes (with s f) r found ≡ final_attributes s r found
final s f r None = refl
final s f r (Some g) = refl

created : (s : Server) (f : ℕ → Option ℕ) (m : Message) (r : CreateRequest) (found : Option ℕ) (action now : ℕ)
    → create_records (with s f) m r found action now ≡ create_records s m r found action now
unfolding create_records granted is_read_only exists is_directory
created s f m r found action now = λ t. if (action == 1) && not (is_persistent r.durable) then []
    else CreateRecord (origin_of m) action (file s f found t) r.path (final s f r found t) (asks_directory r) now
    (opened s f m r (granted s (file s f found t) r.access) r.durable t) ∷ []

applied : (s : Server) (f : ℕ → Option ℕ) (m : Message) (now : ℕ) (v : Verdict) → (apply (with s f) m now v).records
    ≡ (apply s m now v).records
unfolding lock_records
applied s f m now (Refuse status) = refl
applied s f m now (Give body) = refl
applied s f m now (KeepRefusal guid status) = refl
applied s f m now (Repeat o r) = refl
applied s f m now (Attach o r) = refl
applied s f m now (Make r found action) = created s f m r found action now
applied s f m now (TurnDown o status) = refl
applied s f m now (Tell o body) = refl
applied s f m now (Show o last body) = refl
applied s f m now (KeepSlot o index number status elements) = refl
applied s f m now (PutRanges o index number ranges elements) = refl
applied s f m now (Alter o change body) = refl
applied s f m now (CloseOpen o body) = left_records s f (origin_of m) o
applied s f m now Challenge = refl
applied s f m now (ChallengeBinding session) = refl
applied s f m now (Begin session user previous r q) = records_if s f (origin_of m) previous q
applied s f m now (Join session) = refl
applied s f m now (EndSession session q) = ended_records s f (origin_of m) session q
applied s f m now (AddTree pipes) = refl
applied s f m now DropTree = tree_records s f (origin_of m) m.session_id m.tree_id

pub owing : (s : Server) (f : ℕ → Option ℕ) (now : ℕ) (r : Ruling) → (carried_out (with s f) now r).records ≡ (carried_out s now r).records
owing s f now (Says m v) = applied s f m now v
owing s f now (TakesIn k) = refl
owing s f now TurnsAway = refl
owing s f now (TakesOut k q) = lost_records s f (origin_at k) k q
owing s f now (TakesAllOut q) = all_lost_records s.connections s f now q
