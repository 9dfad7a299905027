-- What records lean on follows from what the checks found.
use Rattle.std.proofs.Common.{◌≡◌, ◌<◌, ℕ, nat_le, false, sym, subst, arith}
use Rattle.std.proofs.lemmas.Bool.Decides.{nat_tests}
use Rattle.spec_exchange.specs.Commands.{Command}
use Rattle.spec_exchange.specs.Opens.{max_ids}
use Rattle.spec_exchange.specs.State.{Message, Server}
use Rattle.spec_exchange.specs.Verdict.{Verdict, Refuse, Give, KeepRefusal, Repeat, Attach, Make, TurnDown, Tell, Show}
use Rattle.spec_exchange.specs.Verdict.{KeepSlot, PutRanges, Alter, CloseOpen, Challenge, ChallengeBinding, Begin, Join}
use Rattle.spec_exchange.specs.Verdict.{EndSession, AddTree, DropTree}
use Rattle.law_server.proofs.tables.Found.{Facts}
use Rattle.law_server.specs.tables.Fits.{Fits}
use Rattle.server_plan.specs.owed_records.Owing.{IsOwedCreate, Owing}

below : (n : ℕ) → n < max_ids → nat_le max_ids n ≡ false
below n h = grind (arith, nat_tests)

pub owing : (s : Server) (m : Message) (v : Verdict) → Fits s → Facts s m v → Owing s m v
owing s m (Refuse status) i f = tt
owing s m (Give body) i f = tt
owing s m (KeepRefusal guid status) i f = tt
owing s m (Repeat o r) i f = tt
owing s m (Attach o r) i f = tt
owing s m (Make r found action) i f = (
  below s.open_ids_given f.given,
  i.on_present m.connection m.session_id f.new.create.session.session_on,
  λ g e. (f.there g e).there,
  subst (λ (c : Command). IsOwedCreate c) (sym f.new.create.command) tt,
)
owing s m (TurnDown o status) i f = tt
owing s m (Tell o body) i f = tt
owing s m (Show o last body) i f = tt
owing s m (KeepSlot o index number status elements) i f = f.lock.opened.standing
owing s m (PutRanges o index number ranges elements) i f = f.lock.opened.standing
owing s m (Alter o change body) i f = f.opened.standing
owing s m (CloseOpen o body) i f = f.opened.standing
owing s m Challenge i f = tt
owing s m (ChallengeBinding session) i f = tt
owing s m (Begin session user previous r is_quiet) i f = tt
owing s m (Join session) i f = tt
owing s m (EndSession session is_quiet) i f = tt
owing s m (AddTree pipes) i f = tt
owing s m DropTree i f = tt
