-- What the request of an operation is, read back from the command.
use Rattle.std.proofs.Common.{◌≡◌, ℕ, Bool, true, false, not, [], Some, None, is_some, refl, arith}
use Rattle.spec_exchange.specs.Commands.{Create, Close, CreateRequest, deletes_on_close, create_form, has_bit}
use Rattle.spec_exchange.specs.Operations.{Op, OpCreate, OpWrite, OpRead, OpEnd, OpTime, OpRename, OpRemove, OpLock}
use Rattle.spec_exchange.specs.Operations.{OpUnlock, OpFlush, OpStat, OpList, OpClose, create_request, durable_of}
use Rattle.spec_exchange.specs.Operations.{options_of}
use Rattle.spec_exchange.specs.Client.{Client, guid_for}
use Rattle.law_sessions.specs.messages.Connections.{makes_open, its_request}
use Rattle.law_creates.specs.Creates.{own_guid, outlives, keeps_form, guid_at}

-- the request of a create of this guid
unfoldable pub create_asked : Op → ℕ → CreateRequest
create_asked (OpCreate path access share disposition persist directory) guid = create_request path access share
    disposition directory (Some (durable_of guid persist)) None
create_asked _ guid = create_request [] 0 0 0 false None None

pub asks_create : (op : Op) (guid file slot number : ℕ) → makes_open op ≡ true → its_request op guid file slot number
    ≡ Create (create_asked op guid)
unfolding makes_open its_request create_asked
asks_create op guid file slot number e = grind arith

pub asks_durable : (op : Op) (guid : ℕ) → makes_open op ≡ true → (create_asked op guid).durable ≡ Some (durable_of guid (outlives op))
unfolding makes_open create_asked outlives
asks_durable op guid e = grind arith

pub asks_new : (op : Op) (guid : ℕ) → makes_open op ≡ true → (create_asked op guid).reconnect ≡ None
unfolding makes_open create_asked
asks_new op guid e = grind arith

keeps_file : (directory : Bool) → deletes_on_close (options_of directory) ≡ false
unfolding deletes_on_close has_bit
keeps_file true = refl
keeps_file false = refl

pub asks_to_keep : (op : Op) (guid : ℕ) → makes_open op ≡ true → deletes_on_close (create_asked op guid).options ≡ false
unfolding makes_open create_asked
asks_to_keep (OpCreate path access share disposition persist directory) guid e = keeps_file directory
asks_to_keep (OpWrite create at bytes) guid e = absurd (cc)
asks_to_keep (OpRead create at size) guid e = absurd (cc)
asks_to_keep (OpEnd create size) guid e = absurd (cc)
asks_to_keep (OpTime create time) guid e = absurd (cc)
asks_to_keep (OpRename create path) guid e = absurd (cc)
asks_to_keep (OpRemove create) guid e = absurd (cc)
asks_to_keep (OpLock create at length exclusive) guid e = absurd (cc)
asks_to_keep (OpUnlock create at length) guid e = absurd (cc)
asks_to_keep (OpFlush create) guid e = absurd (cc)
asks_to_keep (OpStat create) guid e = absurd (cc)
asks_to_keep (OpList create) guid e = absurd (cc)
asks_to_keep (OpClose create) guid e = absurd (cc)

pub asks_form : (op : Op) (guid : ℕ) → makes_open op ≡ true → is_some (create_form (create_asked op guid)) ≡ not (keeps_form op)
unfolding makes_open create_asked keeps_form
asks_form (OpCreate path access share disposition persist directory) guid e =
    twice (is_some (create_form (create_request path access share disposition directory (Some (durable_of guid persist))
    None)))
  where
    twice : (b : Bool) → b ≡ not (not b)
    twice true = refl
    twice false = refl
asks_form (OpWrite create at bytes) guid e = absurd (cc)
asks_form (OpRead create at size) guid e = absurd (cc)
asks_form (OpEnd create size) guid e = absurd (cc)
asks_form (OpTime create time) guid e = absurd (cc)
asks_form (OpRename create path) guid e = absurd (cc)
asks_form (OpRemove create) guid e = absurd (cc)
asks_form (OpLock create at length exclusive) guid e = absurd (cc)
asks_form (OpUnlock create at length) guid e = absurd (cc)
asks_form (OpFlush create) guid e = absurd (cc)
asks_form (OpStat create) guid e = absurd (cc)
asks_form (OpList create) guid e = absurd (cc)
asks_form (OpClose create) guid e = absurd (cc)

-- a request that creates is a create's, and one that closes a close's, of this open
pub makes_of : (op : Op) (guid file slot number : ℕ) (r : CreateRequest) → its_request op guid file slot number
    ≡ Create r → makes_open op ≡ true
unfolding makes_open its_request
makes_of op guid file slot number r e = grind arith

pub shuts_of : (op : Op) (guid file slot number o : ℕ) (query : Bool) → its_request op guid file slot number
    ≡ Close o query → makes_open op ≡ false × o ≡ file
unfolding makes_open its_request
shuts_of op guid file slot number o query e = (grind arith, grind arith)

pub same_guid : (c : Client) (g : ℕ) → guid_for c g ≡ guid_at c g
unfolding own_guid
same_guid c g = refl
