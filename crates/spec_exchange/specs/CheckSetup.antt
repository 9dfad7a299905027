-- The checks of SESSION_SETUP and TREE_CONNECT (MS-SMB2 3.3.5.5, 3.3.5.5.3, 3.3.5.7).
use Rattle.std.specs.Prelude.{ℕ, ◌+◌, ◌==◌, nat_le, nat_lt, Bool, true, false, not, ◌&&◌, ◌||◌, if◌then◌else◌, List, []}
use Rattle.std.specs.Prelude.{◌∷◌, length, Option, Some, None, is_some}
use Rattle.spec_exchange.specs.Table.{is_at}
use Rattle.spec_exchange.specs.Status.{user_session_deleted, request_not_accepted, invalid_parameter, logon_failure}
use Rattle.spec_exchange.specs.Status.{access_denied, insufficient_resources, bad_network_name}
use Rattle.spec_exchange.specs.Texts.{same_name}
use Rattle.spec_exchange.specs.Commands.{SetupRequest, Shows, Begins, Bad, Refused, Logon}
use Rattle.spec_exchange.specs.State.{Server, Message, Making, NewSession, Binding, Tree}
use Rattle.spec_exchange.specs.Opens.{max_ids}
use Rattle.spec_exchange.specs.Verdict.{Verdict, Refuse, Challenge, ChallengeBinding, Begin, Join, AddTree}

abbrev pub max_sessions : ℕ
max_sessions = 64

abbrev pub max_channels : ℕ
max_channels = 32

abbrev pub max_numbers : ℕ
max_numbers = 65535

abbrev pub max_trees : ℕ
max_trees = 64

-- ids of trees are counted in 32 bits
abbrev pub last_tree : ℕ
last_tree = 0xffff_ffff

-- ---- what is in the making on a connection

abbrev pub is_new : ℕ → Option Making → Bool
is_new session None = false
is_new session (Some (NewSession id)) = id == session
is_new session (Some (Binding id)) = false

abbrev pub is_binding : ℕ → Option Making → Bool
is_binding session None = false
is_binding session (Some (NewSession id)) = false
is_binding session (Some (Binding id)) = id == session

-- ---- a new session

-- the session that the request names as its previous one, where it is live and of the same user
abbrev pub previous_of : Server → List ℕ → ℕ → Option ℕ
previous_of s user previous = if s.present previous && same_name (s.user previous) user then Some previous else None

abbrev pub granted_session : Server → Message → SetupRequest → List ℕ → Verdict
granted_session s m r user =
    if s.encrypts && (r.cipher == 0) then Refuse access_denied
    else if nat_le max_sessions s.sessions then Refuse insufficient_resources
    else Begin m.session_id user (previous_of s user r.previous) r false

abbrev pub second_token : Server → Message → SetupRequest → Shows → Verdict
second_token s m r Begins = Refuse invalid_parameter
second_token s m r Bad = Refuse invalid_parameter
second_token s m r Refused = Refuse logon_failure
second_token s m r (Logon user) = granted_session s m r user

abbrev pub first_token : Server → Shows → Verdict
first_token s Begins = if nat_le max_ids s.session_ids_given then Refuse insufficient_resources else Challenge
first_token s Bad = Refuse invalid_parameter
first_token s Refused = Refuse invalid_parameter
first_token s (Logon user) = Refuse invalid_parameter

abbrev pub session_check : Server → Message → SetupRequest → Verdict
session_check s m r =
    if m.session_id == 0 then (if is_some (s.session_on m.connection) then Refuse request_not_accepted else first_token s r.shows)
    else if s.present m.session_id then Refuse request_not_accepted
    else if is_new m.session_id (s.making m.connection) then second_token s m r r.shows
    else Refuse user_session_deleted

-- ---- a further channel

unfoldable pub count_channels : (ℕ → Option ℕ) → List ℕ → ℕ → ℕ
count_channels on [] session = 0
count_channels on (k ∷ ks) session = (if is_at session (on k) then 1 else 0) + count_channels on ks session

abbrev pub granted_binding : Server → Message → List ℕ → Verdict
granted_binding s m user =
    if not (same_name user (s.user m.session_id)) then Refuse access_denied
    else if nat_le max_channels (count_channels s.session_on s.connections m.session_id) then Refuse insufficient_resources
    else if nat_le max_numbers (s.channel_numbers_drawn m.session_id) then Refuse insufficient_resources
    else Join m.session_id

abbrev pub second_binding : Server → Message → Shows → Verdict
second_binding s m Begins = ChallengeBinding m.session_id
second_binding s m Bad = Refuse invalid_parameter
second_binding s m Refused = Refuse logon_failure
second_binding s m (Logon user) = granted_binding s m user

abbrev pub first_binding : Message → Shows → Verdict
first_binding m Begins = ChallengeBinding m.session_id
first_binding m Bad = Refuse invalid_parameter
first_binding m Refused = Refuse invalid_parameter
first_binding m (Logon user) = Refuse invalid_parameter

abbrev pub binding_token : Server → Message → SetupRequest → Verdict
binding_token s m r = if is_binding m.session_id (s.making m.connection) then second_binding s m r.shows else first_binding m r.shows

abbrev pub live_binding : Server → Message → SetupRequest → Verdict
live_binding s m r =
    if not r.signed then Refuse invalid_parameter
    else if not (m.client_guid == s.client m.session_id) then Refuse user_session_deleted
    else if not ((r.cipher == s.cipher m.session_id) && (r.signing == s.signing m.session_id)) then Refuse invalid_parameter
    else if is_some (s.session_on m.connection) then Refuse request_not_accepted
    else if not r.verified then Refuse access_denied
    else binding_token s m r

abbrev pub binding_check : Server → Message → SetupRequest → Verdict
binding_check s m r =
    if s.present m.session_id then live_binding s m r
    else if not (is_new m.session_id (s.making m.connection)) then Refuse user_session_deleted
    else if not r.signed then Refuse invalid_parameter
    else Refuse request_not_accepted

abbrev pub setup_check : Server → Message → SetupRequest → Verdict
setup_check s m r = if r.binding then binding_check s m r else session_check s m r

-- ---- trees

-- `IPC$`
abbrev pub pipes_name : List ℕ
pipes_name = 73 ∷ 80 ∷ 67 ∷ 36 ∷ []

-- 64 trees stand, or each id was given
abbrev pub no_tree_left : Server → ℕ → Bool
no_tree_left s session = nat_le max_trees (length (s.trees session)) || nat_lt last_tree (s.next_tree session)

abbrev pub tree_check : Server → Message → List ℕ → Verdict
tree_check s m share =
    if no_tree_left s m.session_id then Refuse insufficient_resources
    else if same_name share pipes_name then AddTree true
    else if same_name share s.share then AddTree false
    else Refuse bad_network_name

-- whether the tree is that of the pipes, where it is there
abbrev pub tree_in : List Tree → ℕ → Option Bool
tree_in [] id = None
tree_in (t ∷ ts) id = if t.id == id then Some t.pipes else tree_in ts id
