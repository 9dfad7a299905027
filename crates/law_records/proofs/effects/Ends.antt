-- What stands behind a verdict that ends a logon.
use Rattle.std.proofs.Common.{◌≡◌, ℕ, true, Option, Some, None, is_some, refl, ap}
use Rattle.spec_exchange.specs.Check.{check}
use Rattle.spec_exchange.specs.CheckCreate.{refused_by}
use Rattle.spec_exchange.specs.CheckSetup.{is_binding}
use Rattle.spec_exchange.specs.Commands.{Durable}
use Rattle.spec_exchange.specs.State.{Binding, Making, Message, NewSession, Server}
use Rattle.spec_exchange.specs.Status.{disk_full}
use Rattle.spec_exchange.specs.Step.{without_room}
use Rattle.spec_exchange.specs.Verdict.{AddTree, Alter, Attach, Begin, Challenge, ChallengeBinding, CloseOpen, DropTree, EndSession, Give}
use Rattle.spec_exchange.specs.Verdict.{Join, KeepRefusal, KeepSlot, Make, PutRanges, Refuse, Repeat, Show, Tell, TurnDown, Verdict}
use Rattle.law_server.proofs.tables.Checked.{checked}
use Rattle.law_server.proofs.tables.Found.{Facts}
use Rattle.law_records.specs.effects.Making.{EndsMaking}

bound : (session : ℕ) (k : Option Making) → is_binding session k ≡ true → is_some k ≡ true
bound session None e = absurd (cc)
bound session (Some (NewSession id)) e = refl
bound session (Some (Binding id)) e = refl

by_facts : (s : Server) (m : Message) (v : Verdict) → Facts s m v → EndsMaking s m v
by_facts s m (Refuse status) f = tt
by_facts s m (Give body) f = tt
by_facts s m (KeepRefusal guid status) f = tt
by_facts s m (Repeat o r) f = tt
by_facts s m (Attach o r) f = tt
by_facts s m (Make r found action) f = tt
by_facts s m (TurnDown o status) f = tt
by_facts s m (Tell o body) f = tt
by_facts s m (Show o last body) f = tt
by_facts s m (KeepSlot o index number status elements) f = tt
by_facts s m (PutRanges o index number ranges elements) f = tt
by_facts s m (Alter o change body) f = tt
by_facts s m (CloseOpen o body) f = tt
by_facts s m Challenge f = tt
by_facts s m (ChallengeBinding session) f = tt
by_facts s m (Begin session user previous r q) f = (f.session_is, ap (λ (k : Option Making). is_some k) f.making)
by_facts s m (Join session) f = (f.binding.session_is, bound m.session_id (s.making m.connection) f.making)
by_facts s m (EndSession session q) f = tt
by_facts s m (AddTree pipes) f = tt
by_facts s m DropTree f = tt

refusal : (s : Server) (m : Message) (d : Option Durable) → EndsMaking s m (refused_by d disk_full)
refusal s m None = tt
refusal s m (Some d) = tt

by_lesser : (s : Server) (m : Message) (v : Verdict) → EndsMaking s m v → EndsMaking s m (without_room v)
by_lesser s m (Refuse status) f = tt
by_lesser s m (Give body) f = tt
by_lesser s m (KeepRefusal guid status) f = tt
by_lesser s m (Repeat o r) f = tt
by_lesser s m (Attach o r) f = tt
by_lesser s m (Make r found action) f = refusal s m r.durable
by_lesser s m (TurnDown o status) f = tt
by_lesser s m (Tell o body) f = tt
by_lesser s m (Show o last body) f = tt
by_lesser s m (KeepSlot o index number status elements) f = tt
by_lesser s m (PutRanges o index number ranges elements) f = tt
by_lesser s m (Alter o change body) f = tt
by_lesser s m (CloseOpen o body) f = tt
by_lesser s m Challenge f = tt
by_lesser s m (ChallengeBinding session) f = tt
by_lesser s m (Begin session user previous r q) f = f
by_lesser s m (Join session) f = f
by_lesser s m (EndSession session q) f = tt
by_lesser s m (AddTree pipes) f = tt
by_lesser s m DropTree f = tt

pub ends_checked : (s : Server) (m : Message) → EndsMaking s m (check s m)
ends_checked s m = by_facts s m (check s m) (checked s m)

pub ends_lesser : (s : Server) (m : Message) → EndsMaking s m (without_room (check s m))
ends_lesser s m = by_lesser s m (check s m) (ends_checked s m)
