-- What waits at a front fits: it is an operation's request, or a dialog's.
use Rattle.std.proofs.Common.{◌≡◌, ℕ, ◌<◌, ◌≤◌, ◌^◌, true, ◌&&◌, List, ◌∷◌, refl, sym, ap, subst, arith}
use Rattle.spec_exchange.specs.Commands.{Command, Unreadable, Aside, Setup, Logoff, TreeConnect, TreeDisconnect, Create}
use Rattle.spec_exchange.specs.Commands.{Close, Flush, Read, Write, Lock, Ioctl, ListDirectory, QueryFile, QueryVolume, SetInfo}
use Rattle.spec_exchange.specs.Operations.{Op, OpCreate, OpWrite, OpRead, OpEnd, OpTime, OpRename, OpRemove, OpLock, OpUnlock, OpFlush}
use Rattle.spec_exchange.specs.Operations.{OpStat, OpList, OpClose, is_spelled_path, fits_32, keeps_limits, only_written, request_of}
use Rattle.spec_exchange.specs.Operations.{reconnect_of}
use Rattle.spec_exchange.specs.Client.{guid_for}
use Rattle.spec_exchange.specs.Network.{Event, Sent, ForDialog, ForOp, ForAttach, Settings, run, start}
use Rattle.law_sessions.specs.messages.Connections.{its_request, create_at}
use Rattle.law_sessions.proofs.messages.Lists.{front_up}
use Rattle.law_sessions.proofs.messages.Run.{connections}
use Rattle.law_server.proofs.tables.Logic.{front_of}
use Rattle.law_sessions.specs.sessions.Sessions.{is_ops, is_dialog}
use Rattle.law_sessions.proofs.sessions.Always.{sessions}
use Rattle.law_locks.specs.Locks.{open_at}
use Rattle.law_locks.proofs.Law.{locks}
use Rattle.law_replies.proofs.counters.Fits.{operations_fit}
use Rattle.law_commands.specs.commands.Fitting.{IsBasic}
use Rattle.law_commands.proofs.commands.Limits.{in_64}
use Rattle.law_replies.proofs.fields.Paths.{off, spelled_leaf}
use Rattle.law_replies.proofs.fields.Verdicts.{AsksFit}

zero_8 : 0 < 256 ^ 8
zero_8 = omega arith

zero_4 : 0 < 256 ^ 4
zero_4 = omega arith

time_fits : (time : ℕ) → time < 256 ^ 8 → IsBasic (only_written time)
time_fits time l = record { created = zero_8; accessed = zero_8; written = l; changed = zero_8; attributes = zero_4 }

own_fits : (op : Op) (guid file slot number : ℕ) → keeps_limits op ≡ true → AsksFit (request_of op guid file slot number)
own_fits (OpCreate path access share disposition persist directory) guid file slot number k =
    (λ _. spelled_leaf path (front_of (is_spelled_path path) (fits_32 access && (fits_32 share && fits_32 disposition)) k), zero_4)
own_fits (OpWrite create at bytes) guid file slot number k = tt
own_fits (OpRead create at size) guid file slot number k = tt
own_fits (OpEnd create size) guid file slot number k = tt
own_fits (OpTime create time) guid file slot number k = time_fits time (in_64 time k)
own_fits (OpRename create path) guid file slot number k = spelled_leaf path k
own_fits (OpRemove create) guid file slot number k = tt
own_fits (OpLock create at size exclusive) guid file slot number k = tt
own_fits (OpUnlock create at size) guid file slot number k = tt
own_fits (OpFlush create) guid file slot number k = tt
own_fits (OpStat create) guid file slot number k = tt
own_fits (OpList create) guid file slot number k = tt
own_fits (OpClose create) guid file slot number k = tt

ask_fits : (op : Op) (guid file : ℕ) → keeps_limits op ≡ true → AsksFit (reconnect_of op guid file)
ask_fits (OpCreate path access share disposition persist directory) guid file k =
    (λ _. spelled_leaf path (front_of (is_spelled_path path) (fits_32 access && (fits_32 share && fits_32 disposition)) k), zero_4)
ask_fits (OpWrite create at bytes) guid file k = tt
ask_fits (OpRead create at size) guid file k = tt
ask_fits (OpEnd create size) guid file k = tt
ask_fits (OpTime create time) guid file k = tt
ask_fits (OpRename create path) guid file k = tt
ask_fits (OpRemove create) guid file k = tt
ask_fits (OpLock create at size exclusive) guid file k = tt
ask_fits (OpUnlock create at size) guid file k = tt
ask_fits (OpFlush create) guid file k = tt
ask_fits (OpStat create) guid file k = tt
ask_fits (OpList create) guid file k = tt
ask_fits (OpClose create) guid file k = tt

dialog_fits : (c : Command) → is_dialog c ≡ true → AsksFit c
unfolding is_dialog
dialog_fits (Aside status) d = tt
dialog_fits (Setup request) d = tt
dialog_fits (TreeConnect share) d = tt
dialog_fits (Unreadable status) d = off d
dialog_fits Logoff d = off d
dialog_fits TreeDisconnect d = off d
dialog_fits (Create request) d = off d
dialog_fits (Close file query) d = off d
dialog_fits (Flush file) d = off d
dialog_fits (Read file at size minimum channel) d = off d
dialog_fits (Write file at bytes channel) d = off d
dialog_fits (Lock file index number elements) d = off d
dialog_fits (Ioctl file code room) d = off d
dialog_fits (ListDirectory file class restart single pattern room) d = off d
dialog_fits (QueryFile file class room) d = off d
dialog_fits (QueryVolume file class room) d = off d
dialog_fits (SetInfo file setting) d = off d

was_taken : (a g t : ℕ) → a < g → g ≤ t → a ≤ t
was_taken a g t l h = omega (arith, l, h)

pub asks_fit : (z : Settings) (es : List Event) (k : ℕ) (x : Sent) (xs : List Sent) → ((run es (start z)).conns k).up ≡ x ∷ xs
    → AsksFit x.message.command
unfolding its_request
asks_fit z es k x xs h =
    let w = run es (start z) in
    let c = w.client in
    let at = front_up (w.conns k).up x xs h in
    let carried = connections z es in
    let sits = sessions z es in
    let locked = locks z es in
    let fit = operations_fit z es in
    elim x.token as (λ t. x.token ≡ t → AsksFit x.message.command) [
      | ForDialog ↦ λ e. let up = sits.dialog_up k 0 x at (ap is_ops e) in dialog_fits x.message.command up.1
      | ForOp g ↦ λ e. (
          let body = carried.bodies k 0 g x at e in
          let own = carried.taken g body.0 in
          subst AsksFit (sym body.1)
          (own_fits (c.op g) (guid_for c g) (c.file (create_at c g)) (c.slot_of g) (c.number_of g) (fit.kept g own.0 own.1))
          )
      | ForAttach g ↦ λ e. (
          let asked = locked.ask_up k 0 g x at e in
          let create = carried.creates g asked.0 asked.1 asked.2 in
          let first = create_at c g in
          subst AsksFit (sym asked.4)
          (ask_fits (c.op first) (guid_for c first) (open_at c g) (fit.kept first create.0 (was_taken first g c.taken create.1 asked.1)))
          )
    ] refl
