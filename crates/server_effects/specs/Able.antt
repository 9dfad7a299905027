-- What the tables know of what a verdict names: it follows from the checks, and effects and records lean on it.
use Rattle.std.specs.Prelude.{◌≡◌, ℕ, ◌+◌, ◌<◌, true, false, length, Option, Some, None, nat_le}
use Rattle.spec_exchange.specs.Commands as asks
use Rattle.spec_exchange.specs.State as model
use Rattle.spec_exchange.specs.Files.{root, exists, is_directory, passes_room, find}
use Rattle.spec_exchange.specs.Opens.{max_ids}
use Rattle.spec_exchange.specs.CheckCreate.{empties}
use Rattle.spec_exchange.specs.CheckOpen.{is_slot, file_of, target_of}
use Rattle.spec_exchange.specs.CheckSetup.{max_numbers, no_tree_left}
use Rattle.spec_exchange.specs.Verdict as verdicts
use Rattle.server_checks.specs.verdicts.Views.{bytes_in, create_in, elements_in, path_in}

-- a change that the file can take
abbrev pub AbleToChange : model.Server → ℕ → verdicts.Change → Type 0
AbleToChange s f (verdicts.PutBytes at bytes) = (0 < length bytes) × (is_directory s f ≡ false)
    × (passes_room s f (at + length bytes) ≡ false)
AbleToChange s f (verdicts.PutEnd size) = (is_directory s f ≡ false) × (passes_room s f size ≡ false)
AbleToChange s f (verdicts.PutPath replaced path) = ((f ≡ root) → ⊥) × (replaced ≡ target_of f (find s path))
AbleToChange s f _ = Unit {0}

-- and that is the message's own
abbrev pub IsChangeOf : asks.Command → verdicts.Change → Type 0
IsChangeOf c (verdicts.PutBytes at bytes) = bytes ≡ bytes_in c
IsChangeOf c (verdicts.PutPath replaced path) = path ≡ path_in c
IsChangeOf c _ = Unit {0}

-- a file that is opened is there, and one that is emptied is no directory
abbrev pub FoundIsFile : model.Server → asks.CreateRequest → Option ℕ → Type 0
FoundIsFile s r None = Unit {0}
FoundIsFile s r (Some f) = (exists s f ≡ true) × (empties r.disposition ≡ true → is_directory s f ≡ false)

-- what is made, opened or emptied can be
abbrev pub AbleToMake : model.Server → asks.CreateRequest → Option ℕ → ℕ → Type 0
AbleToMake s r None action = action ≡ 2
AbleToMake s r (Some f) action = FoundIsFile s r (Some f)

abbrev pub Able : model.Server → model.Message → verdicts.Verdict → Type 0
Able s m (verdicts.KeepRefusal guid status) = s.closed m.session_id guid ≡ false
Able s m (verdicts.Repeat o request) = (s.standing o ≡ true) × (request ≡ create_in m.command)
Able s m (verdicts.Attach o request) = (s.standing o ≡ true) × (request ≡ create_in m.command)
Able s m (verdicts.Make request found action) = AbleToMake s request found action × (nat_le max_ids s.open_ids_given ≡ false)
    × (request ≡ create_in m.command)
Able s m (verdicts.TurnDown o status) = s.standing o ≡ true
Able s m (verdicts.Tell o body) = s.standing o ≡ true
Able s m (verdicts.Show o last body) = s.standing o ≡ true
Able s m (verdicts.KeepSlot o index number status elements) = (s.standing o ≡ true) × (is_slot index ≡ true)
    × (elements ≡ elements_in m.command)
Able s m (verdicts.PutRanges o index number ranges elements) = (s.standing o ≡ true) × (elements ≡ elements_in m.command)
Able s m (verdicts.Alter o change body) = (s.standing o ≡ true) × AbleToChange s (file_of s o) change × IsChangeOf m.command change
Able s m (verdicts.CloseOpen o body) = (s.standing o ≡ true) × (s.session_of_open o ≡ Some m.session_id)
Able s m verdicts.Challenge = nat_le max_ids s.session_ids_given ≡ false
Able s m (verdicts.Begin session user previous request quiet) = (session ≡ m.session_id) × (s.present session ≡ false)
    × ((x : ℕ) → previous ≡ Some x → s.present x ≡ true)
Able s m (verdicts.Join session) = (s.present session ≡ true) × (nat_le max_numbers (s.channel_numbers_drawn session) ≡ false)
Able s m (verdicts.EndSession session quiet) = s.present session ≡ true
Able s m (verdicts.AddTree pipes) = (s.present m.session_id ≡ true) × (no_tree_left s m.session_id ≡ false)
Able s m _ = Unit {0}
