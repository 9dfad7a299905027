-- What an operation's request is, read back.
use Rattle.std.proofs.Common.{◌≡◌, ℕ, eqb-true, true, false, not, refl, arith, sym, ◌∙◌, Option, Some, None, is_some}
use Rattle.spec_exchange.specs.Content.{is_listed}
use Rattle.spec_exchange.specs.Commands.{Command, Aside, Unreadable, Setup, Logoff, TreeConnect, TreeDisconnect, Create}
use Rattle.spec_exchange.specs.Commands.{Close, Flush, Read, Write, Lock, Ioctl, ListDirectory, QueryFile, QueryVolume}
use Rattle.spec_exchange.specs.Commands.{SetInfo, CreateRequest, form}
use Rattle.spec_exchange.specs.Operations.{Op, OpCreate, OpWrite, OpRead, OpEnd, OpTime, OpRename, OpRemove, OpLock}
use Rattle.spec_exchange.specs.Operations.{OpUnlock, OpFlush, OpStat, OpList, OpClose, content_op, share_of, persists}
use Rattle.spec_exchange.specs.Operations.{durable_of, create_request, request_of, reconnect_of}
use Rattle.law_sessions.specs.messages.Connections.{its_request, makes_open}
use Rattle.law_sessions.specs.sessions.Sessions.{is_dialog}
use Rattle.law_creates.specs.Creates.{is_of_ask, keeps_form}
use Rattle.law_order.specs.order.Contents.{lists, formed}
use Rattle.law_order.proofs.order.Listed.{asks, is_asked}
use Rattle.law_order.proofs.order.Writing.{writes_to}
use Rattle.law_order.proofs.order.Made.{creates, asks_guid, asks_share, attaches}

-- a read, a write or an end
pub asks_of : (op : Op) (guid file slot number : ℕ) → lists op ≡ true → its_request op guid file slot number
    ≡ asks (content_op op) file × is_asked (content_op op) ≡ true
unfolding lists is_listed its_request
asks_of (OpCreate path access share disposition persist directory) guid file slot number e = absurd (cc)
asks_of (OpWrite create at bytes) guid file slot number e = (refl, refl)
asks_of (OpRead create at size) guid file slot number e = (refl, refl)
asks_of (OpEnd create size) guid file slot number e = (refl, refl)
asks_of (OpTime create time) guid file slot number e = absurd (cc)
asks_of (OpRename create path) guid file slot number e = absurd (cc)
asks_of (OpRemove create) guid file slot number e = absurd (cc)
asks_of (OpLock create at length exclusive) guid file slot number e = absurd (cc)
asks_of (OpUnlock create at length) guid file slot number e = absurd (cc)
asks_of (OpFlush create) guid file slot number e = absurd (cc)
asks_of (OpStat create) guid file slot number e = absurd (cc)
asks_of (OpList create) guid file slot number e = absurd (cc)
asks_of (OpClose create) guid file slot number e = absurd (cc)

-- the form hangs on what is asked alone
pub form_same : (op : Op) (guid file slot number : ℕ) → form (its_request op guid file slot number) ≡ form (request_of op 0 0 0 0)
unfolding its_request
form_same (OpCreate path access share disposition persist directory) guid file slot number = refl
form_same (OpWrite create at bytes) guid file slot number = refl
form_same (OpRead create at size) guid file slot number = refl
form_same (OpEnd create size) guid file slot number = refl
form_same (OpTime create time) guid file slot number = refl
form_same (OpRename create path) guid file slot number = refl
form_same (OpRemove create) guid file slot number = refl
form_same (OpLock create at length exclusive) guid file slot number = refl
form_same (OpUnlock create at length) guid file slot number = refl
form_same (OpFlush create) guid file slot number = refl
form_same (OpStat create) guid file slot number = refl
form_same (OpList create) guid file slot number = refl
form_same (OpClose create) guid file slot number = refl

pub well_formed : (op : Op) (guid file slot number : ℕ) → form (its_request op guid file slot number) ≡ None → formed op ≡ true
unfolding formed
well_formed op guid file slot number e = let z = form_same op guid file slot number in grind arith

pub formed_none : (op : Op) (guid file slot number : ℕ) → formed op ≡ true → form (its_request op guid file slot number) ≡ None
unfolding formed
formed_none op guid file slot number e = form_same op guid file slot number ∙ none_of (form (request_of op 0 0 0 0)) e
  where
    none_of : (f : Option ℕ) → not (is_some f) ≡ true → f ≡ None
    none_of f e = grind arith

-- what may change bytes
pub writes_of : (op : Op) (guid file slot number p : ℕ) → writes_to (its_request op guid file slot number) p ≡ true
    → lists op ≡ true × p ≡ file
unfolding lists is_listed its_request
writes_of (OpCreate path access share disposition persist directory) guid file slot number p e = absurd (cc)
writes_of (OpWrite create at bytes) guid file slot number p e = (refl, sym (eqb-true file p e))
writes_of (OpRead create at size) guid file slot number p e = absurd (cc)
writes_of (OpEnd create size) guid file slot number p e = (refl, sym (eqb-true file p e))
writes_of (OpTime create time) guid file slot number p e = absurd (cc)
writes_of (OpRename create path) guid file slot number p e = absurd (cc)
writes_of (OpRemove create) guid file slot number p e = absurd (cc)
writes_of (OpLock create at length exclusive) guid file slot number p e = absurd (cc)
writes_of (OpUnlock create at length) guid file slot number p e = absurd (cc)
writes_of (OpFlush create) guid file slot number p e = absurd (cc)
writes_of (OpStat create) guid file slot number p e = absurd (cc)
writes_of (OpList create) guid file slot number p e = absurd (cc)
writes_of (OpClose create) guid file slot number p e = absurd (cc)

-- what makes an open
pub creates_op : (op : Op) (guid file slot number : ℕ) → creates (its_request op guid file slot number) ≡ true
    → makes_open op ≡ true × asks_guid (its_request op guid file slot number) ≡ Some guid
    × asks_share (its_request op guid file slot number) ≡ share_of op
unfolding makes_open its_request
creates_op (OpCreate path access share disposition persist directory) guid file slot number e = (refl, refl, refl)
creates_op (OpWrite create at bytes) guid file slot number e = absurd (cc)
creates_op (OpRead create at size) guid file slot number e = absurd (cc)
creates_op (OpEnd create size) guid file slot number e = absurd (cc)
creates_op (OpTime create time) guid file slot number e = absurd (cc)
creates_op (OpRename create path) guid file slot number e = absurd (cc)
creates_op (OpRemove create) guid file slot number e = absurd (cc)
creates_op (OpLock create at length exclusive) guid file slot number e = absurd (cc)
creates_op (OpUnlock create at length) guid file slot number e = absurd (cc)
creates_op (OpFlush create) guid file slot number e = absurd (cc)
creates_op (OpStat create) guid file slot number e = absurd (cc)
creates_op (OpList create) guid file slot number e = absurd (cc)
creates_op (OpClose create) guid file slot number e = absurd (cc)

pub create_asks : (op : Op) (guid file slot number : ℕ) → makes_open op ≡ true → (r : CreateRequest)
    × ((its_request op guid file slot number ≡ Create r) × (r.reconnect ≡ None)
    × (r.durable ≡ Some (durable_of guid (persists op))))
unfolding makes_open its_request
create_asks (OpCreate path access share disposition persist directory) guid file slot number e =
    (create_request path access share disposition directory (Some (durable_of guid persist)) None, (refl, refl, refl))
create_asks (OpWrite create at bytes) guid file slot number e = absurd (cc)
create_asks (OpRead create at size) guid file slot number e = absurd (cc)
create_asks (OpEnd create size) guid file slot number e = absurd (cc)
create_asks (OpTime create time) guid file slot number e = absurd (cc)
create_asks (OpRename create path) guid file slot number e = absurd (cc)
create_asks (OpRemove create) guid file slot number e = absurd (cc)
create_asks (OpLock create at length exclusive) guid file slot number e = absurd (cc)
create_asks (OpUnlock create at length) guid file slot number e = absurd (cc)
create_asks (OpFlush create) guid file slot number e = absurd (cc)
create_asks (OpStat create) guid file slot number e = absurd (cc)
create_asks (OpList create) guid file slot number e = absurd (cc)
create_asks (OpClose create) guid file slot number e = absurd (cc)

pub makes_creates : (op : Op) (guid file slot number : ℕ) → makes_open op ≡ true → creates (its_request op guid file slot number) ≡ true
unfolding makes_open its_request
makes_creates (OpCreate path access share disposition persist directory) guid file slot number e = refl
makes_creates (OpWrite create at bytes) guid file slot number e = absurd (cc)
makes_creates (OpRead create at size) guid file slot number e = absurd (cc)
makes_creates (OpEnd create size) guid file slot number e = absurd (cc)
makes_creates (OpTime create time) guid file slot number e = absurd (cc)
makes_creates (OpRename create path) guid file slot number e = absurd (cc)
makes_creates (OpRemove create) guid file slot number e = absurd (cc)
makes_creates (OpLock create at length exclusive) guid file slot number e = absurd (cc)
makes_creates (OpUnlock create at length) guid file slot number e = absurd (cc)
makes_creates (OpFlush create) guid file slot number e = absurd (cc)
makes_creates (OpStat create) guid file slot number e = absurd (cc)
makes_creates (OpList create) guid file slot number e = absurd (cc)
makes_creates (OpClose create) guid file slot number e = absurd (cc)

-- a DH2C is of its create's form, and asks for its open
pub ask_reads : (op : Op) (guid file : ℕ) → makes_open op ≡ true → (r : CreateRequest)
    × ((reconnect_of op guid file ≡ Create r) × (r.reconnect ≡ Some (record { file = file; guid = guid })))
unfolding makes_open
ask_reads (OpCreate path access share disposition persist directory) guid file e = (
  create_request path access share disposition directory None (Some (record { file = file; guid = guid })),
  (refl, refl),
)
ask_reads (OpWrite create at bytes) guid file e = absurd (cc)
ask_reads (OpRead create at size) guid file e = absurd (cc)
ask_reads (OpEnd create size) guid file e = absurd (cc)
ask_reads (OpTime create time) guid file e = absurd (cc)
ask_reads (OpRename create path) guid file e = absurd (cc)
ask_reads (OpRemove create) guid file e = absurd (cc)
ask_reads (OpLock create at length exclusive) guid file e = absurd (cc)
ask_reads (OpUnlock create at length) guid file e = absurd (cc)
ask_reads (OpFlush create) guid file e = absurd (cc)
ask_reads (OpStat create) guid file e = absurd (cc)
ask_reads (OpList create) guid file e = absurd (cc)
ask_reads (OpClose create) guid file e = absurd (cc)

pub ask_form : (op : Op) (guid file : ℕ) → makes_open op ≡ true → keeps_form op ≡ true → form (reconnect_of op guid file) ≡ None
unfolding makes_open keeps_form
ask_form (OpCreate path access share disposition persist directory) guid file e k = refl
ask_form (OpWrite create at bytes) guid file e k = absurd (cc)
ask_form (OpRead create at size) guid file e k = absurd (cc)
ask_form (OpEnd create size) guid file e k = absurd (cc)
ask_form (OpTime create time) guid file e k = absurd (cc)
ask_form (OpRename create path) guid file e k = absurd (cc)
ask_form (OpRemove create) guid file e k = absurd (cc)
ask_form (OpLock create at length exclusive) guid file e k = absurd (cc)
ask_form (OpUnlock create at length) guid file e k = absurd (cc)
ask_form (OpFlush create) guid file e k = absurd (cc)
ask_form (OpStat create) guid file e k = absurd (cc)
ask_form (OpList create) guid file e k = absurd (cc)
ask_form (OpClose create) guid file e k = absurd (cc)

-- a dialog's message and a DH2C write nothing, and make no open
pub dialog_other : (c : Command) (p : ℕ) → is_dialog c ≡ true → writes_to c p ≡ false × creates c ≡ false
unfolding is_dialog
dialog_other (Aside status) p e = (refl, refl)
dialog_other (Unreadable status) p e = absurd (cc)
dialog_other (Setup request) p e = (refl, refl)
dialog_other Logoff p e = absurd (cc)
dialog_other (TreeConnect share) p e = (refl, refl)
dialog_other TreeDisconnect p e = absurd (cc)
dialog_other (Create request) p e = absurd (cc)
dialog_other (Close file query) p e = absurd (cc)
dialog_other (Flush file) p e = absurd (cc)
dialog_other (Read file at size minimum channel) p e = absurd (cc)
dialog_other (Write file at bytes channel) p e = absurd (cc)
dialog_other (Lock file index number elements) p e = absurd (cc)
dialog_other (Ioctl file code room) p e = absurd (cc)
dialog_other (ListDirectory file class restart single pattern room) p e = absurd (cc)
dialog_other (QueryFile file class room) p e = absurd (cc)
dialog_other (QueryVolume file class room) p e = absurd (cc)
dialog_other (SetInfo file setting) p e = absurd (cc)

pub ask_other : (c : Command) (p : ℕ) → is_of_ask c ≡ true → writes_to c p ≡ false × (creates c ≡ true → attaches c ≡ true)
ask_other (Aside status) p e = (refl, λ z. absurd (cc))
ask_other (Unreadable status) p e = absurd (cc)
ask_other (Setup request) p e = absurd (cc)
ask_other Logoff p e = absurd (cc)
ask_other (TreeConnect share) p e = absurd (cc)
ask_other TreeDisconnect p e = absurd (cc)
ask_other (Create request) p e = (refl, λ z. e)
ask_other (Close file query) p e = absurd (cc)
ask_other (Flush file) p e = absurd (cc)
ask_other (Read file at size minimum channel) p e = absurd (cc)
ask_other (Write file at bytes channel) p e = absurd (cc)
ask_other (Lock file index number elements) p e = absurd (cc)
ask_other (Ioctl file code room) p e = absurd (cc)
ask_other (ListDirectory file class restart single pattern room) p e = absurd (cc)
ask_other (QueryFile file class room) p e = absurd (cc)
ask_other (QueryVolume file class room) p e = absurd (cc)
ask_other (SetInfo file setting) p e = absurd (cc)
