-- The model's values that the code's verdicts stand for.
use Rattle.std.specs.Prelude.{ℕ, false, List, [], map, None}
use Rattle.spec_exchange.specs.Commands as asks
use Rattle.spec_exchange.specs.Verdict as verdicts
use Rattle.spec_exchange.specs.Commands.{Element}
use Rattle.spec_exchange.specs.State.{Empty}
use Rattle.store_opens.specs.share_modes.Locking.{range_of}
use Rattle.wire_commands.specs.values.Meaning.{body_of}
use Rattle.server_checks.specs.declared.verdicts.verdict.Change.{Change}
use Rattle.server_checks.specs.declared.verdicts.verdict.Change.TheVariants as changes
use Rattle.server_checks.specs.declared.verdicts.verdict.Verdict.{Verdict}
use Rattle.server_checks.specs.declared.verdicts.verdict.Verdict.TheVariants as codes
use Rattle.server_checks.specs.event_heard.Heard.{setup_in}

-- ---- what a verdict leaves with its request

abbrev pub bytes_in : asks.Command → List ℕ
bytes_in (asks.Write file at bytes channel) = bytes
bytes_in _ = []

abbrev pub path_in_setting : asks.Setting → List ℕ
path_in_setting (asks.Rename replace path) = path
path_in_setting _ = []

abbrev pub path_in : asks.Command → List ℕ
path_in (asks.SetInfo file setting) = path_in_setting setting
path_in _ = []

abbrev pub elements_in : asks.Command → List Element
elements_in (asks.Lock file index number elements) = elements
elements_in _ = []

abbrev pub no_create : asks.CreateRequest
no_create = record {
  path = [];
  access = 0;
  share = 0;
  attributes = 0;
  disposition = 0;
  options = 0;
  durable = None;
  reconnect = None;
  maximal = false;
  disk_id = false;
}

abbrev pub create_in : asks.Command → asks.CreateRequest
create_in (asks.Create request) = request
create_in _ = no_create

abbrev pub user_shown : asks.Shows → List ℕ
user_shown (asks.Logon user) = user
user_shown _ = []

-- ---- verdicts

abbrev pub change_of : asks.Command → Change → verdicts.Change
change_of c (changes.PutBytes at) = verdicts.PutBytes at (bytes_in c)
change_of c (changes.PutEnd size) = verdicts.PutEnd size
change_of c (changes.PutBasic basic) = verdicts.PutBasic basic
change_of c (changes.PutDeletePending pending) = verdicts.PutDeletePending pending
change_of c (changes.PutPath replaced) = verdicts.PutPath replaced (path_in c)
change_of c changes.PutNothing = verdicts.PutNothing

abbrev pub verdict_of : asks.Command → Verdict → verdicts.Verdict
verdict_of c (codes.Refuse status) = verdicts.Refuse status
verdict_of c (codes.Give body) = verdicts.Give (body_of body)
verdict_of c (codes.KeepRefusal guid status) = verdicts.KeepRefusal guid status
verdict_of c (codes.Repeat id) = verdicts.Repeat id (create_in c)
verdict_of c (codes.Attach id) = verdicts.Attach id (create_in c)
verdict_of c (codes.Make found action) = verdicts.Make (create_in c) found action
verdict_of c (codes.TurnDown id status) = verdicts.TurnDown id status
verdict_of c (codes.Tell id body) = verdicts.Tell id (body_of body)
verdict_of c (codes.Show id last body) = verdicts.Show id (verdicts.Behind last) (body_of body)
verdict_of c (codes.Seek id position) = verdicts.Show id (verdicts.At position) Empty
verdict_of c (codes.KeepSlot id index number status) = verdicts.KeepSlot id index number status (elements_in c)
verdict_of c (codes.PutRanges id index number ranges) = verdicts.PutRanges id index number (map range_of ranges.items) (elements_in c)
verdict_of c (codes.Alter id change body) = verdicts.Alter id (change_of c change) (body_of body)
verdict_of c (codes.CloseOpen id body) = verdicts.CloseOpen id (body_of body)
verdict_of c codes.Challenge = verdicts.Challenge
verdict_of c (codes.ChallengeBinding session) = verdicts.ChallengeBinding session
verdict_of c (codes.Begin session previous quiet) = verdicts.Begin session (user_shown (setup_in c).shows) previous (setup_in c) quiet
verdict_of c (codes.Join session) = verdicts.Join session
verdict_of c (codes.EndSession session quiet) = verdicts.EndSession session quiet
verdict_of c (codes.AddTree pipes) = verdicts.AddTree pipes
verdict_of c codes.DropTree = verdicts.DropTree
