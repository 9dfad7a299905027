-- The command of a number: NEGOTIATE's, SESSION_SETUP's and ECHO's alone depend on what the connection tells, and any other one
-- is plain.
use Rattle.std.proofs.Common.{◌≡◌, ℕ, ◌==◌, Bool, true, false, not, ◌||◌, if◌then◌else◌, List, [], ◌∷◌}
use Rattle.std.proofs.Common.{Option, Some, None, is_some, refl, sym, ap, subst, ◌∙◌, arith}
use Rattle.std.specs.Prelude.{⊤}
use Rattle.spec_wire.specs.declared.messages.header.Header.{Header}
use Rattle.spec_wire.specs.declared.messages.error.MessageError.{MessageError}
use Rattle.spec_wire.specs.declared.messages.context.CreateContexts.{CreateContexts}
use Rattle.spec_wire.specs.messages.SessionSetup.{SessionSetupRequestValue, session_setup_request_in, session_setup_request_fault}
use Rattle.spec_wire.specs.messages.TreeConnect.{tree_connect_request_in, tree_connect_request_fault}
use Rattle.spec_wire.specs.messages.Bare.{bare_fault}
use Rattle.spec_wire.specs.messages.Create.{CreateRequestValue, create_request_in, create_request_fault}
use Rattle.spec_wire.specs.messages.Close.{close_request_in, close_request_fault}
use Rattle.spec_wire.specs.messages.Flush.{flush_request_in, flush_request_fault}
use Rattle.spec_wire.specs.messages.Read.{read_request_in, read_request_fault}
use Rattle.spec_wire.specs.messages.Write.{write_request_in, write_request_fault}
use Rattle.spec_wire.specs.messages.Lock.{lock_request_in, lock_request_fault}
use Rattle.spec_wire.specs.messages.Ioctl.{ioctl_request_in, ioctl_request_fault}
use Rattle.spec_wire.specs.messages.QueryDirectory.{QueryDirectoryRequestValue, query_directory_request_in, query_directory_request_fault}
use Rattle.spec_wire.specs.messages.QueryInfo.{query_info_request_in, query_info_request_fault}
use Rattle.spec_wire.specs.messages.SetInfo.{set_info_request_in, set_info_request_fault}
use Rattle.spec_wire.specs.messages.FileClasses.{file_basic_information_in, file_basic_information_fault}
use Rattle.spec_wire.specs.messages.FileClasses.{FileRenameInformationValue, file_rename_information_in}
use Rattle.spec_wire.specs.messages.FileClasses.{file_rename_information_fault, file_disposition_information_in}
use Rattle.spec_wire.specs.messages.FileClasses.{file_disposition_information_fault, file_allocation_information_in}
use Rattle.spec_wire.specs.messages.FileClasses.{file_allocation_information_fault, file_end_of_file_information_in}
use Rattle.spec_wire.specs.messages.FileClasses.{file_end_of_file_information_fault, file_position_information_in}
use Rattle.spec_wire.specs.messages.FileClasses.{file_position_information_fault, file_mode_information_fault}
use Rattle.spec_exchange.specs.Status.{invalid_parameter, not_supported, object_name_invalid}
use Rattle.spec_exchange.specs.Commands as asks
use Rattle.spec_exchange.specs.Commands.{has_bit}
use Rattle.spec_commands.specs.Charges.{is_undercharged, paid_for}
use Rattle.spec_commands.specs.Clashes.{clash_in}
use Rattle.spec_commands.specs.CommandOf as requests
use Rattle.spec_commands.specs.CommandOf.{Told, unless, named_command}
use Rattle.spec_commands.specs.Ids.{file_of}
use Rattle.spec_commands.specs.Text.{text_in}
use Rattle.conn_core.proofs.frame_messages.Headers.{true_is_not_false}
use Rattle.spec_world.specs.Given.{has_event}
use Rattle.conn_core.specs.served.Serving.{IsServerPlain}

-- ---- commands by the number, in their order, until one is met

abbrev pub Row : Type 0
Row = Bool × asks.Command

abbrev pub picked : List Row → asks.Command → asks.Command
picked [] rest = rest
picked (r ∷ rs) rest = if r.0 then r.1 else picked rs rest

abbrev pub AllPlain : List Row → Type 0
AllPlain [] = ⊤
AllPlain (r ∷ rs) = IsServerPlain r.1 × AllPlain rs

plain_if : (b : Bool) (x y : asks.Command) → IsServerPlain x → IsServerPlain y → IsServerPlain (if b then x else y)
plain_if true x y p q = p
plain_if false x y p q = q

plain_picked : (rs : List Row) (rest : asks.Command) → AllPlain rs → IsServerPlain rest → IsServerPlain (picked rs rest)
plain_picked [] rest a p = p
plain_picked (r ∷ rs) rest a p = plain_if r.0 r.1 (picked rs rest) a.0 (plain_picked rs rest a.1 p)

-- ---- what two connections tell

abbrev pub one : Told
one = record {
  connection = 0;
  client = 0;
  fault = Some 0;
  verified = false;
  cipher = 0;
  signing = 0;
  shows = λ token. asks.Bad;
  negotiated = 0;
}

abbrev pub two : Told
two = record {
  connection = 0;
  client = 0;
  fault = Some 1;
  verified = true;
  cipher = 0;
  signing = 0;
  shows = λ token. asks.Bad;
  negotiated = 1;
}

-- if a row is met, the command is the same for both
same_picked : (b : Bool) (x : asks.Command) (rest due : Told → asks.Command) → (due one ≡ due two → ⊥)
    → ((t : Told) → (if b then x else rest t) ≡ due t) → (t : Told) → rest t ≡ due t
same_picked true x rest due differs e = absurd (differs (sym (e one) ∙ e two))
same_picked false x rest due differs e = e

all_picked : (rs : List Row) (rest due : Told → asks.Command) → (due one ≡ due two → ⊥)
    → ((t : Told) → picked rs (rest t) ≡ due t) → (t : Told) → rest t ≡ due t
all_picked [] rest due differs e = e
all_picked (r ∷ rs) rest due differs e =
    all_picked rs rest due differs (same_picked r.0 r.1 (λ t. picked rs (rest t)) due differs e)

-- a command that doesn't depend on what is told is that of a row, or stands behind them
one_picked : (b : Bool) (x : asks.Command) (rest : Told → asks.Command) (c : asks.Command) → IsServerPlain x
    → ((t : Told) → (if b then x else rest t) ≡ c) → (((t : Told) → rest t ≡ c) → IsServerPlain c) → IsServerPlain c
one_picked true x rest c p e go = subst (λ (y : asks.Command). IsServerPlain y) (e one) p
one_picked false x rest c p e go = go e

each_picked : (rs : List Row) (rest : Told → asks.Command) (c : asks.Command) → AllPlain rs
    → ((t : Told) → picked rs (rest t) ≡ c) → (((t : Told) → rest t ≡ c) → IsServerPlain c) → IsServerPlain c
each_picked [] rest c a e go = go e
each_picked (r ∷ rs) rest c a e go =
    one_picked r.0 r.1 (λ t. picked rs (rest t)) c a.0 e (λ f. each_picked rs rest c a.1 f go)

-- a row that two connections would tell otherwise isn't met
not_met : (b : Bool) (x rest due : Told → asks.Command) → (((t : Told) → x t ≡ due t) → ⊥)
    → ((t : Told) → (if b then x t else rest t) ≡ due t) → (t : Told) → rest t ≡ due t
not_met true x rest due differs e = absurd (differs e)
not_met false x rest due differs e = e

-- ---- each command

unless_plain : (o : Option MessageError) (c : asks.Command) → IsServerPlain c → IsServerPlain (unless o c)
unless_plain None c p = p
unless_plain (Some e) c p = tt

logoff : (m : List ℕ) → IsServerPlain (requests.logoff_in m)
unfolding requests.logoff_in
logoff m = unless_plain (bare_fault m) asks.Logoff tt

share_plain : (o : Option (List ℕ)) → IsServerPlain (requests.tree_connect_of o)
share_plain None = tt
share_plain (Some path) = tt

tree_connect : (m : List ℕ) → IsServerPlain (requests.tree_connect_in m)
unfolding requests.tree_connect_in
tree_connect m =
    let path = text_in (tree_connect_request_in m).path in
    unless_plain (tree_connect_request_fault m) (requests.tree_connect_of path) (share_plain path)

tree_disconnect : (m : List ℕ) → IsServerPlain (requests.tree_disconnect_in m)
unfolding requests.tree_disconnect_in
tree_disconnect m = unless_plain (bare_fault m) asks.TreeDisconnect tt

-- what clashes is refused, and is plain then too
unclashed_plain : (clashes : Bool) (v : CreateRequestValue) (path : List ℕ) (c : CreateContexts)
    → IsServerPlain (requests.unclashed clashes (requests.created_of v path c))
unclashed_plain clashes v path c = plain_if clashes (asks.Unreadable invalid_parameter) (requests.created_of v path c) tt tt

create_plain : (v : CreateRequestValue) (o : Option (List ℕ)) (c : Option CreateContexts) (clashes : Bool)
    → IsServerPlain (requests.create_of v o c clashes)
create_plain v None None clashes = tt
create_plain v None (Some c) clashes =
    plain_if (is_some c.dh2c) (requests.unclashed clashes (requests.created_of v [] c)) (asks.Unreadable object_name_invalid)
    (unclashed_plain clashes v [] c) tt
create_plain v (Some path) None clashes = tt
create_plain v (Some path) (Some c) clashes = unclashed_plain clashes v path c

create : (m : List ℕ) → IsServerPlain (requests.create_in m)
unfolding requests.create_in
create m =
    let v = create_request_in m in
    unless_plain (create_request_fault m) (requests.create_of v (text_in v.name) (requests.contexts_in v.contexts)
    (clash_in v.contexts)) (create_plain v (text_in v.name) (requests.contexts_in v.contexts) (clash_in v.contexts))

close : (m : List ℕ) → IsServerPlain (requests.close_in m)
unfolding requests.close_in
close m =
    let v = close_request_in m in
    unless_plain (close_request_fault m) (asks.Close (file_of v.file_id) (has_bit v.flags 1)) tt

flush : (m : List ℕ) → IsServerPlain (requests.flush_in m)
unfolding requests.flush_in
flush m = unless_plain (flush_request_fault m) (asks.Flush (file_of (flush_request_in m).file_id)) tt

read : (m : List ℕ) → IsServerPlain (requests.read_in m)
unfolding requests.read_in
read m =
    let v = read_request_in m in
    unless_plain (read_request_fault m) (asks.Read (file_of v.file_id) v.offset v.length v.minimum_count v.channel) tt

write : (m : List ℕ) → IsServerPlain (requests.write_in m)
unfolding requests.write_in
write m =
    let v = write_request_in m in
    unless_plain (write_request_fault m) (asks.Write (file_of v.file_id) v.offset v.payload v.channel) tt

lock : (m : List ℕ) → IsServerPlain (requests.lock_in m)
unfolding requests.lock_in
lock m = unless_plain (lock_request_fault m) (requests.lock_of (lock_request_in m)) tt

ioctl : (m : List ℕ) → IsServerPlain (requests.ioctl_in m)
unfolding requests.ioctl_in
ioctl m =
    let v = ioctl_request_in m in
    unless_plain (ioctl_request_fault m) (asks.Ioctl (file_of v.file_id) v.ctl_code v.max_output_response) tt

list_plain : (v : QueryDirectoryRequestValue) (o : Option (List ℕ)) → IsServerPlain (requests.list_of v o)
list_plain v None = tt
list_plain v (Some pattern) = tt

listing : (m : List ℕ) → IsServerPlain (requests.list_in m)
unfolding requests.list_in
listing m =
    let v = query_directory_request_in m in
    unless_plain (query_directory_request_fault m) (requests.list_of v (text_in v.name)) (list_plain v (text_in v.name))

query_plain : (a b c d : Bool) (x y : asks.Command) → IsServerPlain x → IsServerPlain y
    → IsServerPlain (if a then (if b then asks.Unreadable not_supported else x) else if c then y
    else if d then asks.Unreadable not_supported else asks.Unreadable invalid_parameter)
query_plain true true c d x y p q = tt
query_plain true false c d x y p q = p
query_plain false b true d x y p q = q
query_plain false b false true x y p q = tt
query_plain false b false false x y p q = tt

query : (m : List ℕ) → IsServerPlain (requests.query_in m)
unfolding requests.query_in
query m =
    let v = query_info_request_in m in
    unless_plain (query_info_request_fault m) (requests.query_of v)
    (query_plain (v.info_type == 1) (v.file_info_class == 15) (v.info_type == 2)
    ((v.info_type == 3) || (v.info_type == 4)) (asks.QueryFile (file_of v.file_id) v.file_info_class v.output_buffer_length)
    (asks.QueryVolume (file_of v.file_id) v.file_info_class v.output_buffer_length) tt tt)

rename_plain : (file : ℕ) (v : FileRenameInformationValue) (o : Option (List ℕ)) → IsServerPlain (requests.rename_of file v o)
rename_plain file v None = tt
rename_plain file v (Some path) =
    plain_if (v.root_directory == 0) (asks.SetInfo file (asks.Rename (not (v.replace_if_exists == 0)) path))
    (asks.Unreadable invalid_parameter) tt tt

abbrev settings : ℕ → ℕ → List ℕ → List Row
settings file class b = (
  class == 4,
  unless (file_basic_information_fault b)
      (asks.SetInfo file (asks.SetBasic (requests.basic_of (file_basic_information_in b)))),
)
    ∷ (
      class == 10,
      unless (file_rename_information_fault b)
          (requests.rename_of file (file_rename_information_in b) (text_in (file_rename_information_in b).name)),
    )
    ∷ (
      class == 13,
      unless (file_disposition_information_fault b)
          (asks.SetInfo file (asks.SetDelete (not ((file_disposition_information_in b).delete_pending == 0)))),
    )
    ∷ (
      class == 19,
      unless (file_allocation_information_fault b)
          (asks.SetInfo file (asks.SetAllocation (file_allocation_information_in b).allocation_size)),
    )
    ∷ (
      class == 20,
      unless (file_end_of_file_information_fault b)
          (asks.SetInfo file (asks.SetEnd (file_end_of_file_information_in b).end_of_file)),
    )
    ∷ (
      class == 14,
      unless (file_position_information_fault b)
          (asks.SetInfo file (asks.SetPosition (file_position_information_in b).current_byte_offset)),
    )
    ∷ (class == 16, unless (file_mode_information_fault b) (asks.SetInfo file asks.SetMode))
    ∷ []

settings_plain : (file class : ℕ) (b : List ℕ) → AllPlain (settings file class b)
settings_plain file class b =
    let v = file_rename_information_in b in
    let basic = unless_plain (file_basic_information_fault b)
    (asks.SetInfo file (asks.SetBasic (requests.basic_of (file_basic_information_in b)))) tt in
    let rename = unless_plain (file_rename_information_fault b) (requests.rename_of file v (text_in v.name))
    (rename_plain file v (text_in v.name)) in
    let delete = unless_plain (file_disposition_information_fault b)
    (asks.SetInfo file (asks.SetDelete (not ((file_disposition_information_in b).delete_pending == 0)))) tt in
    let allocation = unless_plain (file_allocation_information_fault b)
    (asks.SetInfo file (asks.SetAllocation (file_allocation_information_in b).allocation_size)) tt in
    let end_of = unless_plain (file_end_of_file_information_fault b)
    (asks.SetInfo file (asks.SetEnd (file_end_of_file_information_in b).end_of_file)) tt in
    let position = unless_plain (file_position_information_fault b)
    (asks.SetInfo file (asks.SetPosition (file_position_information_in b).current_byte_offset)) tt in
    let mode = unless_plain (file_mode_information_fault b) (asks.SetInfo file asks.SetMode) tt in
    (basic, (rename, (delete, (allocation, (end_of, (position, (mode, tt)))))))

setting : (file class : ℕ) (b : List ℕ) → IsServerPlain (requests.setting_of file class b)
setting file class b = plain_picked (settings file class b) (asks.Unreadable not_supported) (settings_plain file class b) tt

set_plain : (a b : Bool) (x : asks.Command) → IsServerPlain x
    → IsServerPlain (if a then x else if b then asks.Unreadable not_supported else asks.Unreadable invalid_parameter)
set_plain true b x p = p
set_plain false true x p = tt
set_plain false false x p = tt

set : (m : List ℕ) → IsServerPlain (requests.set_in m)
unfolding requests.set_in
set m =
    let v = set_info_request_in m in
    unless_plain (set_info_request_fault m) (requests.set_of v)
    (set_plain (v.info_type == 1) ((v.info_type == 3) || (v.info_type == 4))
    (requests.setting_of (file_of v.file_id) v.file_info_class v.payload)
    (setting (file_of v.file_id) v.file_info_class v.payload))

-- ---- the command of a number

-- where it is paid for, it is plain as its body reads, and else it doesn't read
paid_plain : (k paid : ℕ) (m : List ℕ) (c : asks.Command) → IsServerPlain c → IsServerPlain (paid_for k paid m c)
paid_plain k paid m c p = plain_if (is_undercharged k paid m) (asks.Unreadable invalid_parameter) c tt p

abbrev rows : ℕ → ℕ → List ℕ → List Row
rows n paid m =
    (n == 2, requests.logoff_in m) ∷ (n == 3, requests.tree_connect_in m) ∷ (n == 4, requests.tree_disconnect_in m) ∷
    (n == 5, requests.create_in m)
    ∷ (n == 6, requests.close_in m) ∷ (n == 7, requests.flush_in m) ∷ (n == 8, paid_for 8 paid m (requests.read_in m)) ∷
    (n == 9, paid_for 9 paid m (requests.write_in m)) ∷ (n == 10, requests.lock_in m)
    ∷ (n == 11, paid_for 11 paid m (requests.ioctl_in m)) ∷ []

rows_plain : (n paid : ℕ) (m : List ℕ) → AllPlain (rows n paid m)
rows_plain n paid m =
    let reads = paid_plain 8 paid m (requests.read_in m) (read m) in
    let writes = paid_plain 9 paid m (requests.write_in m) (write m) in
    let controls = paid_plain 11 paid m (requests.ioctl_in m) (ioctl m) in
    (logoff m, (tree_connect m, (tree_disconnect m, (create m, (close m, (flush m, (reads, (writes, (lock m, (controls, tt))))))))))

abbrev last_rows : ℕ → ℕ → List ℕ → List Row
last_rows n paid m = (n == 14, paid_for 14 paid m (requests.list_in m)) ∷ (n == 16, paid_for 16 paid m (requests.query_in m)) ∷ (n == 17, paid_for 17 paid m (requests.set_in m)) ∷ []

last_plain : (n paid : ℕ) (m : List ℕ) → AllPlain (last_rows n paid m)
last_plain n paid m =
    let lists = paid_plain 14 paid m (requests.list_in m) (listing m) in
    let queries = paid_plain 16 paid m (requests.query_in m) (query m) in
    let sets = paid_plain 17 paid m (requests.set_in m) (set m) in
    (lists, (queries, (sets, tt)))

other_plain : (n : ℕ) → IsServerPlain (requests.other_of n)
other_plain n = plain_if ((n == 15) || (n == 18)) (asks.Unreadable not_supported) (asks.Unreadable invalid_parameter) tt tt

abbrev behind_echo : ℕ → ℕ → List ℕ → asks.Command
behind_echo n paid m = picked (last_rows n paid m) (requests.other_of n)

abbrev behind_rows : ℕ → ℕ → List ℕ → Told → asks.Command
behind_rows n paid m t = if n == 13 then asks.Aside (requests.echo_status t.fault (bare_fault m)) else behind_echo n paid m

abbrev pub behind_setup : ℕ → ℕ → List ℕ → Told → asks.Command
behind_setup n paid m t = picked (rows n paid m) (behind_rows n paid m t)

abbrev behind_negotiate : ℕ → Header → List ℕ → Told → asks.Command
behind_negotiate n h m t = if n == 1 then requests.setup_in t h m else behind_setup n h.charge m t

-- ---- what is told, and what isn't

abbrev aside_in : asks.Command → ℕ
aside_in (asks.Aside status) = status
aside_in _ = 2

abbrev pub verified_in : asks.Command → Bool
verified_in (asks.Setup r) = r.verified
verified_in _ = false

abbrev pub is_setup_command : asks.Command → Bool
is_setup_command (asks.Setup r) = true
is_setup_command _ = false

negotiate_differs : (c : asks.Command) → ((t : Told) → asks.Aside t.negotiated ≡ c) → ⊥
negotiate_differs c e =
    let same : 0 ≡ 1 = ap (λ (x : asks.Command). aside_in x) (e one ∙ sym (e two)) in
    absurd (omega (arith, same))

echo_differs : (o : Option MessageError) (c : asks.Command) → ((t : Told) → asks.Aside (requests.echo_status t.fault o) ≡ c) → ⊥
echo_differs o c e =
    let same : 0 ≡ 1 = ap (λ (x : asks.Command). aside_in x) (e one ∙ sym (e two)) in
    absurd (omega (arith, same))

verified_if : (t : Told) (h : Header) (o : Option MessageError) (v : SessionSetupRequestValue)
    → verified_in (requests.setup_if t h o v) ≡ t.verified
verified_if t h None v = refl
verified_if t h (Some e) v = refl

setup_differs : (h : Header) (m : List ℕ) (c : asks.Command) → ((t : Told) → requests.setup_in t h m ≡ c) → ⊥
unfolding requests.setup_in
setup_differs h m c e =
    let o = session_setup_request_fault m in
    let v = session_setup_request_in m in
    let same : false ≡ true =
    sym (verified_if one h o v) ∙ (ap (λ (x : asks.Command). verified_in x) (e one ∙ sym (e two)) ∙ verified_if two h o v) in
    absurd (true_is_not_false (sym same))

-- a command that is told without the connection is plain, and its number isn't NEGOTIATE's
pub named_plain : (n : ℕ) (h : Header) (m : List ℕ) (c : asks.Command) → ((t : Told) → named_command n t h m ≡ c) → IsServerPlain c
named_plain n h m c e =
    let first = not_met (n == 0) (λ t. asks.Aside t.negotiated) (behind_negotiate n h m) (λ t. c) (negotiate_differs c) e in
    let second = not_met (n == 1) (λ t. requests.setup_in t h m) (behind_setup n h.charge m) (λ t. c) (setup_differs h m c) first in
    each_picked (rows n h.charge m) (behind_rows n h.charge m) c (rows_plain n h.charge m) second (λ third.
    let fourth = not_met (n == 13) (λ t. asks.Aside (requests.echo_status t.fault (bare_fault m))) (λ t. behind_echo n h.charge m) (λ t. c)
    (echo_differs (bare_fault m) c) third in
    subst (λ (y : asks.Command). IsServerPlain y) (fourth one)
    (plain_picked (last_rows n h.charge m) (requests.other_of n) (last_plain n h.charge m) (other_plain n)))

not_zero : (b : Bool) (c : asks.Command) (rest : Told → asks.Command)
    → ((t : Told) → (if b then asks.Aside t.negotiated else rest t) ≡ c) → b ≡ false
not_zero true c rest e = absurd (negotiate_differs c e)
not_zero false c rest e = refl

pub named_not_zero : (n : ℕ) (h : Header) (m : List ℕ) (c : asks.Command) → ((t : Told) → named_command n t h m ≡ c)
    → (n == 0) ≡ false
named_not_zero n h m c e = not_zero (n == 0) c (behind_negotiate n h m) e

-- ---- a SESSION_SETUP's number

aside_no_setup : (x r : Told → asks.Command) → ((t : Told) → is_setup_command (x t) ≡ false)
    → ((t : Told) → is_setup_command (r t) ≡ true) → ((t : Told) → x t ≡ r t) → ⊥
aside_no_setup x r is_none is_one e =
    let same : false ≡ true =
    sym (is_none one) ∙ (ap (λ (y : asks.Command). is_setup_command y) (e one) ∙ is_one one) in
    absurd (true_is_not_false (sym same))

setup_if_met : (b : Bool) (n : ℕ) (h : Header) (m : List ℕ) (due : Told → asks.Command) → (due one ≡ due two → ⊥)
    → ((t : Told) → is_setup_command (due t) ≡ true)
    → ((t : Told) → (if b then requests.setup_in t h m else behind_setup n h.charge m t) ≡ due t) → b ≡ true
setup_if_met true n h m due differs is_one e = refl
setup_if_met false n h m due differs is_one e =
    let third = all_picked (rows n h.charge m) (behind_rows n h.charge m) due differs e in
    let fourth = not_met (n == 13) (λ t. asks.Aside (requests.echo_status t.fault (bare_fault m))) (λ t. behind_echo n h.charge m) due
    (aside_no_setup (λ t. asks.Aside (requests.echo_status t.fault (bare_fault m))) due (λ t. refl) is_one) third in
    absurd (differs (sym (fourth one) ∙ fourth two))

pub setup_number : (n : ℕ) (h : Header) (m : List ℕ) (due : Told → asks.Command) → (due one ≡ due two → ⊥)
    → ((t : Told) → is_setup_command (due t) ≡ true) → ((t : Told) → named_command n t h m ≡ due t) → (n == 1) ≡ true
setup_number n h m due differs is_one e =
    setup_if_met (n == 1) n h m due differs is_one
    (not_met (n == 0) (λ t. asks.Aside t.negotiated) (behind_negotiate n h m) due
    (aside_no_setup (λ t. asks.Aside t.negotiated) due (λ t. refl) is_one) e)

-- and no other command has it

no_setup_plain : (c : asks.Command) → IsServerPlain c → is_setup_command c ≡ false
no_setup_plain (asks.Setup r) p = absurd p
no_setup_plain c p = refl

no_setup_if : (b : Bool) (x y : asks.Command) → is_setup_command x ≡ false → is_setup_command y ≡ false
    → is_setup_command (if b then x else y) ≡ false
no_setup_if true x y p q = p
no_setup_if false x y p q = q

no_setup_picked : (rs : List Row) (rest : asks.Command) → AllPlain rs → is_setup_command rest ≡ false
    → is_setup_command (picked rs rest) ≡ false
no_setup_picked [] rest a p = p
no_setup_picked (r ∷ rs) rest a p =
    no_setup_if r.0 r.1 (picked rs rest) (no_setup_plain r.1 a.0) (no_setup_picked rs rest a.1 p)

pub other_number : (n : ℕ) (t : Told) (h : Header) (m : List ℕ) → (n == 1) ≡ false → is_setup_command (named_command n t h m) ≡ false
other_number n t h m other =
    let last : is_setup_command (behind_echo n h.charge m) ≡ false =
    no_setup_plain (behind_echo n h.charge m)
    (plain_picked (last_rows n h.charge m) (requests.other_of n) (last_plain n h.charge m) (other_plain n)) in
    let rest : is_setup_command (behind_rows n h.charge m t) ≡ false =
    no_setup_if (n == 13) (asks.Aside (requests.echo_status t.fault (bare_fault m))) (behind_echo n h.charge m) refl last in
    let first : is_setup_command (behind_setup n h.charge m t) ≡ false =
    no_setup_picked (rows n h.charge m) (behind_rows n h.charge m t) (rows_plain n h.charge m) rest in
    no_setup_if (n == 0) (asks.Aside t.negotiated) (behind_negotiate n h m t) refl
    (ap (λ (b : Bool). is_setup_command (if b then requests.setup_in t h m else behind_setup n h.charge m t)) other ∙ first)

-- ---- which commands have an event

pub plain_event : (c : asks.Command) → IsServerPlain c → has_event c ≡ true
plain_event (asks.Unreadable status) p = refl
plain_event (asks.Aside status) p = absurd p
plain_event (asks.Setup request) p = absurd p
plain_event asks.Logoff p = refl
plain_event (asks.TreeConnect share) p = refl
plain_event asks.TreeDisconnect p = refl
plain_event (asks.Create request) p = refl
plain_event (asks.Close file query) p = refl
plain_event (asks.Flush file) p = refl
plain_event (asks.Read file at size minimum channel) p = refl
plain_event (asks.Write file at bytes channel) p = refl
plain_event (asks.Lock file index number elements) p = refl
plain_event (asks.Ioctl file code room) p = refl
plain_event (asks.ListDirectory file class restart single pattern room) p = refl
plain_event (asks.QueryFile file class room) p = refl
plain_event (asks.QueryVolume file class room) p = refl
plain_event (asks.SetInfo file setting) p = refl

event_if : (b : Bool) (x y : asks.Command) → has_event x ≡ true → has_event y ≡ true → has_event (if b then x else y) ≡ true
event_if true x y p q = p
event_if false x y p q = q

event_picked : (rs : List Row) (rest : asks.Command) → AllPlain rs → has_event rest ≡ true → has_event (picked rs rest) ≡ true
event_picked [] rest a p = p
event_picked (r ∷ rs) rest a p = event_if r.0 r.1 (picked rs rest) (plain_event r.1 a.0) (event_picked rs rest a.1 p)

setup_event : (t : Told) (h : Header) (o : Option MessageError) (v : SessionSetupRequestValue)
    → has_event (requests.setup_if t h o v) ≡ true
setup_event t h None v = refl
setup_event t h (Some e) v = refl

-- any but NEGOTIATE and ECHO
pub named_event : (n : ℕ) (t : Told) (h : Header) (m : List ℕ) → (n == 0) ≡ false → (n == 13) ≡ false
    → has_event (named_command n t h m) ≡ true
unfolding requests.setup_in
named_event n t h m zero echo =
    let last : has_event (behind_echo n h.charge m) ≡ true =
    plain_event (behind_echo n h.charge m) (plain_picked (last_rows n h.charge m) (requests.other_of n) (last_plain n h.charge m) (other_plain n)) in
    let behind : has_event (behind_rows n h.charge m t) ≡ true =
    ap (λ (b : Bool). has_event (if b then asks.Aside (requests.echo_status t.fault (bare_fault m)) else behind_echo n h.charge m)) echo ∙ last in
    let first : has_event (behind_setup n h.charge m t) ≡ true = event_picked (rows n h.charge m) (behind_rows n h.charge m t) (rows_plain n h.charge m) behind in
    ap (λ (b : Bool). has_event (if b then asks.Aside t.negotiated else behind_negotiate n h m t)) zero
    ∙ event_if (n == 1) (requests.setup_in t h m) (behind_setup n h.charge m t)
    (setup_event t h (session_setup_request_fault m) (session_setup_request_in m)) first
