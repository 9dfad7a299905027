-- What can be carried out can be with other deadlines.
use Rattle.std.proofs.Common.{ℕ, Option, Some, None, sym, ap, ◌∙◌}
use Rattle.spec_exchange.specs.CheckOpen.{file_of, target_of}
use Rattle.spec_exchange.specs.Commands.{CreateRequest}
use Rattle.spec_exchange.specs.Files.{exists, is_directory, passes_room, used}
use Rattle.spec_exchange.specs.State.{Message, Server}
use Rattle.spec_exchange.specs.Verdict.{AddTree, Alter, Attach, Begin, Challenge, ChallengeBinding, Change, CloseOpen, DropTree, EndSession}
use Rattle.spec_exchange.specs.Verdict.{Give, Join, KeepRefusal, KeepSlot, Make, PutBasic, PutBytes, PutDeletePending, PutEnd, PutNothing}
use Rattle.spec_exchange.specs.Verdict.{PutPath, PutRanges, Refuse, Repeat, Show, Tell, TurnDown, Verdict}
use Rattle.server_effects.proofs.recovered_deadlines.Same.{found, with}
use Rattle.server_effects.specs.Able.{Able, AbleToChange, AbleToMake}

changed : (s : Server) (f : ℕ → Option ℕ) (x : ℕ) (c : Change) → AbleToChange s x c → AbleToChange (with s f) x c
unfolding is_directory passes_room used
changed s f x (PutBytes at bytes) h = h
changed s f x (PutEnd size) h = h
changed s f x (PutBasic basic) h = h
changed s f x (PutDeletePending flag) h = h
changed s f x (PutPath replaced path) h = (h.0, h.1 ∙ sym (ap (target_of x) (found s f path)))
changed s f x PutNothing h = h

make : (s : Server) (f : ℕ → Option ℕ) (r : CreateRequest) (o : Option ℕ) (action : ℕ) → AbleToMake s r o action
    → AbleToMake (with s f) r o action
unfolding exists is_directory
make s f r None action h = h
make s f r (Some g) action h = h

pub able : (s : Server) (f : ℕ → Option ℕ) (m : Message) (v : Verdict) → Able s m v → Able (with s f) m v
able s f m (Refuse status) h = h
able s f m (Give body) h = h
able s f m (KeepRefusal guid status) h = h
able s f m (Repeat o r) h = h
able s f m (Attach o r) h = h
able s f m (Make r at action) h = (make s f r at action h.0, h.1, h.2)
able s f m (TurnDown o status) h = h
able s f m (Tell o body) h = h
able s f m (Show o last body) h = h
able s f m (KeepSlot o index number status elements) h = h
able s f m (PutRanges o index number ranges elements) h = h
able s f m (Alter o change body) h = (h.0, changed s f (file_of s o) change h.1, h.2)
able s f m (CloseOpen o body) h = h
able s f m Challenge h = h
able s f m (ChallengeBinding session) h = h
able s f m (Begin session user previous r q) h = h
able s f m (Join session) h = h
able s f m (EndSession session q) h = h
able s f m (AddTree pipes) h = h
able s f m DropTree h = h
