-- What the records of a verdict lean on; it follows from the checks.
use Rattle.std.specs.Prelude.{◌≡◌, ◌&&◌, Bool, true, false, is_some, nat_le, not, ⊤}
use Rattle.std.specs.Prelude.{ℕ, Option, Some}
use Rattle.spec_exchange.specs.Commands as asks
use Rattle.spec_exchange.specs.Opens.{max_ids}
use Rattle.spec_exchange.specs.State as model
use Rattle.spec_exchange.specs.Verdict as verdicts
use Rattle.spec_exchange.specs.Files.{exists}

-- it is a CREATE
abbrev pub IsOwedCreate : asks.Command → Type 0
IsOwedCreate (asks.Create request) = ⊤
IsOwedCreate _ = ⊥

abbrev pub IsThere : model.Server → Option ℕ → Type 0
IsThere s found = (f : ℕ) → found ≡ Some f → exists s f ≡ true

-- the open that a verdict names stands; a new one has an id, its session is there, and so is the file that was found
abbrev pub Owing : model.Server → model.Message → verdicts.Verdict → Type 0
Owing s m (verdicts.Make request found action) = (nat_le max_ids s.open_ids_given ≡ false) × (s.present m.session_id ≡ true)
    × IsThere s found × IsOwedCreate m.command
Owing s m (verdicts.KeepSlot o index number status elements) = s.standing o ≡ true
Owing s m (verdicts.PutRanges o index number ranges elements) = s.standing o ≡ true
Owing s m (verdicts.Alter o change body) = s.standing o ≡ true
Owing s m (verdicts.CloseOpen o body) = s.standing o ≡ true
Owing s m _ = ⊤

-- it may owe records, for which memory may run out
abbrev pub may_owe : verdicts.Verdict → Bool
may_owe (verdicts.Make request found action) = true
may_owe (verdicts.KeepSlot o index number status elements) = true
may_owe (verdicts.PutRanges o index number ranges elements) = true
may_owe (verdicts.Alter o change body) = true
may_owe (verdicts.CloseOpen o body) = true
may_owe (verdicts.Begin session user previous request quiet) = is_some previous && not quiet
may_owe (verdicts.EndSession session quiet) = not quiet
may_owe verdicts.DropTree = true
may_owe _ = false
