-- What the Serve of a line's request asks.
use Rattle.std.proofs.Common.{◌≡◌, ℕ, ◌<◌, ◌≤◌, ◌^◌, Bool, true, false, List, ◌∷◌, length, refl, arith, sym, ap, ◌∙◌, subst}
use Rattle.spec_exchange.specs.Status.{success}
use Rattle.spec_exchange.specs.Commands.{Command, Aside, Unreadable, Setup, Logoff}
use Rattle.spec_exchange.specs.Commands.{TreeConnect, TreeDisconnect, Create, Close, Flush, Read}
use Rattle.spec_exchange.specs.Commands.{Write, Lock, Ioctl, ListDirectory, QueryFile, QueryVolume, SetInfo}
use Rattle.spec_exchange.specs.State.{Body, Empty}
use Rattle.spec_exchange.specs.Operations.{Op, OpCreate, OpWrite, OpRead, OpEnd, OpTime}
use Rattle.spec_exchange.specs.Operations.{OpRename, OpRemove, OpLock, OpUnlock, OpFlush, OpStat}
use Rattle.spec_exchange.specs.Operations.{OpList, OpClose, keeps_limits, request_of}
use Rattle.spec_exchange.specs.Client.{Identity, guid_for}
use Rattle.spec_exchange.specs.Network.{World as Values, Event, Sent, Token, ForDialog, ForOp, ForAttach, answer, run, start}
use Rattle.law_sessions.specs.messages.Connections.{its_request, create_at}
use Rattle.law_sessions.proofs.messages.Lists.{front_up}
use Rattle.law_sessions.specs.sessions.Sessions.{is_ops, is_dialog}
use Rattle.law_sessions.proofs.sessions.KindsAlways.{all_kinds}
use Rattle.law_sessions.specs.sessions.Kinds.{SharesUp}
use Rattle.law_answers.proofs.answers.Bare.{refusals_are_bare}
use Rattle.law_answers.proofs.answers.Trees.{trees_are_connected}
use Rattle.law_server.specs.successes.Bodies.{is_simple, IsBodyTold}
use Rattle.law_server.proofs.successes.Told.{bodies_are_told}
use Rattle.law_commands.specs.commands.Fitting.{IsFittingAnswer}
use Rattle.spec_world.specs.Settings.{WorldSettings, values_of}
use Rattle.spec_world.specs.World.{World}
use Rattle.law_ties.specs.wire_facts.Steps.{restarts_in}
use Rattle.law_ties.specs.requests.Lines.{is_lines, TellsToken, LineTellsTree, TellsOperation}
use Rattle.law_dialogs.specs.runs.Bounds.{LineBounds}
use Rattle.law_runs.proofs.untampered.Asked.{tells_file, TellsRows}
use Rattle.law_runs.proofs.untampered.Values.{Facts}
use Rattle.law_runs.proofs.untampered.Requests.{weight_low}
use Rattle.law_runs.proofs.untampered.Pushed.{small_id}
use Rattle.law_runs.proofs.untampered.Talked.{replies_fit, status_fits}
use Rattle.law_runs.proofs.untampered.Replies.{reply_short}

absent : {X : Type 0} → false ≡ true → X
absent e = absurd (let h : false ≡ true = e in cc)

-- a line's request of a dialog is a TREE_CONNECT
tree_by : (c : Command) → is_dialog c ≡ true → is_lines c ≡ true → (share : List ℕ) × (c ≡ TreeConnect share)
unfolding is_dialog
tree_by (TreeConnect share) d l = (share, refl)
tree_by (Aside status) d l = absent l
tree_by (Setup request) d l = absent l
tree_by (Unreadable status) d l = absent d
tree_by Logoff d l = absent d
tree_by TreeDisconnect d l = absent d
tree_by (Create request) d l = absent d
tree_by (Close file query) d l = absent d
tree_by (Flush file) d l = absent d
tree_by (Read file at size minimum channel) d l = absent d
tree_by (Write file at bytes channel) d l = absent d
tree_by (Lock file index number elements) d l = absent d
tree_by (Ioctl file code room) d l = absent d
tree_by (ListDirectory file class restart single pattern room) d l = absent d
tree_by (QueryFile file class room) d l = absent d
tree_by (QueryVolume file class room) d l = absent d
tree_by (SetInfo file setting) d l = absent d

shares_at : (z : WorldSettings) (es : List Event) (v : Values) → v ≡ run es (start (values_of z)) → SharesUp v.client v.conns
shares_at z es v e =
    let k = all_kinds (values_of z) es in
    subst (λ (u : Values). SharesUp u.client u.conns) (sym e) k.shares_up

tells_tree : (z : WorldSettings) (es : List Event) (v : Values) → v ≡ run es (start (values_of z)) → Facts (values_of z) es v
    → (k : ℕ) (x : Sent) (xs : List Sent) → (v.conns k).up ≡ x ∷ xs → is_lines x.message.command ≡ true → x.token ≡ ForDialog
    → LineTellsTree z x.message.command (answer v x).reply
tells_tree z es v e f k x xs h line token =
    let sits = f.sits in
    let talk = f.talk in
    let at = front_up (v.conns k).up x xs h in
    let up = sits.dialog_up k 0 x at (ap is_ops token) in
    let t = tree_by x.message.command up.1 line in
    let mine = sits.from_client k 0 x at in
    let share : t.0 ≡ z.share = shares_at z es v e k 0 x t.0 at t.1 ∙ ap (λ (i : Identity). i.share) talk.who in
    record {
      command = t.1 ∙ ap TreeConnect share;
      told = λ ok. trees_are_connected v x t.0 t.1 mine.2 ok;
    }

-- ---- what an operation's success tells

simple_by : (op : Op) (guid file slot number : ℕ) → tells_file op ≡ false → is_simple (request_of op guid file slot number) ≡ true
simple_by (OpCreate path access share disposition persist directory) guid file slot number e = absent (sym e)
simple_by (OpWrite create at bytes) guid file slot number e = refl
simple_by (OpRead create at size) guid file slot number e = refl
simple_by (OpEnd create size) guid file slot number e = refl
simple_by (OpTime create time) guid file slot number e = refl
simple_by (OpRename create path) guid file slot number e = refl
simple_by (OpRemove create) guid file slot number e = refl
simple_by (OpLock create at size exclusive) guid file slot number e = refl
simple_by (OpUnlock create at size) guid file slot number e = refl
simple_by (OpFlush create) guid file slot number e = refl
simple_by (OpStat create) guid file slot number e = absent (sym e)
simple_by (OpList create) guid file slot number e = absent (sym e)
simple_by (OpClose create) guid file slot number e = refl

four_bytes : (n m : ℕ) → n ≤ m → m ≤ 1048577 → n < 256 ^ 4
four_bytes n m l q = omega (arith, l, q)

same_low : (n : ℕ) → n ≤ n
same_low n = omega arith

nothing_told : (op : Op) (b : Body) → b ≡ Empty → IsFittingAnswer op Empty → IsFittingAnswer op b
nothing_told op b is e = subst (λ (c : Body). IsFittingAnswer op c) (sym is) e

answers_by : (op : Op) (guid file slot number : ℕ) (b : Body) → keeps_limits op ≡ true → tells_file op ≡ false
    → IsBodyTold (request_of op guid file slot number) b → IsFittingAnswer op b
answers_by (OpCreate path access share disposition persist directory) guid file slot number b keeps e told = absent (sym e)
answers_by (OpWrite create at bytes) guid file slot number b keeps e told =
    subst (λ (c : Body). IsFittingAnswer (OpWrite create at bytes) c) (sym told)
    (four_bytes (length bytes) (length bytes) (same_low (length bytes)) (weight_low (OpWrite create at bytes) keeps))
answers_by (OpRead create at size) guid file slot number b keeps e told =
    subst (λ (c : Body). IsFittingAnswer (OpRead create at size) c) (sym told.1)
    (four_bytes (length told.0) size told.2 (weight_low (OpRead create at size) keeps))
answers_by (OpEnd create size) guid file slot number b keeps e told = nothing_told (OpEnd create size) b told tt
answers_by (OpTime create time) guid file slot number b keeps e told = nothing_told (OpTime create time) b told tt
answers_by (OpRename create path) guid file slot number b keeps e told = nothing_told (OpRename create path) b told tt
answers_by (OpRemove create) guid file slot number b keeps e told = nothing_told (OpRemove create) b told tt
answers_by (OpLock create at size exclusive) guid file slot number b keeps e told =
    nothing_told (OpLock create at size exclusive) b told tt
answers_by (OpUnlock create at size) guid file slot number b keeps e told = nothing_told (OpUnlock create at size) b told tt
answers_by (OpFlush create) guid file slot number b keeps e told = nothing_told (OpFlush create) b told tt
answers_by (OpStat create) guid file slot number b keeps e told = absent (sym e)
answers_by (OpList create) guid file slot number b keeps e told = absent (sym e)
answers_by (OpClose create) guid file slot number b keeps e told = nothing_told (OpClose create) b told tt

simply_told : (z : WorldSettings) (es : List Event) (v : Values) → Facts (values_of z) es v → (k : ℕ) (x : Sent) (xs : List Sent)
    → (v.conns k).up ≡ x ∷ xs → (g : ℕ) → x.token ≡ ForOp g → tells_file (v.client.op g) ≡ false
    → (answer v x).reply.status ≡ success → IsFittingAnswer (v.client.op g) (answer v x).reply.body
unfolding its_request
simply_told z es v f k x xs h g token simple ok =
    let c = v.client in
    let carried = f.carried in
    let body = carried.bodies k 0 g x (front_up (v.conns k).up x xs h) token in
    let own = carried.taken g body.0 in
    let guid = guid_for c g in
    let file = c.file (create_at c g) in
    let b = (answer v x).reply.body in
    let is_one : is_simple x.message.command ≡ true =
    subst (λ q. is_simple q ≡ true) (sym body.1) (simple_by (c.op g) guid file (c.slot_of g) (c.number_of g) simple) in
    answers_by (c.op g) guid file (c.slot_of g) (c.number_of g) b (f.kept g own.0 own.1) simple
    (subst (λ q. IsBodyTold q b) body.1 (bodies_are_told v x is_one body.3 ok))

tells_own : (z : WorldSettings) (es : List Event) (w : World) → Facts (values_of z) es w.values → (k : ℕ) (x : Sent) (xs : List Sent)
    → (w.values.conns k).up ≡ x ∷ xs → (g : ℕ) → x.token ≡ ForOp g → TellsRows w x
    → TellsOperation (w.values.client.op g) x.message.command (answer w.values x).reply
unfolding its_request
tells_own z es w f k x xs h g token left =
    let c = w.values.client in
    let carried = f.carried in
    let body = carried.bodies k 0 g x (front_up (w.values.conns k).up x xs h) token in
    record {
      guid = guid_for c g;
      file = c.file (create_at c g);
      slot = c.slot_of g;
      number = c.number_of g;
      command = body.1;
      told = by (tells_file (c.op g)) refl;
      refused = refusals_are_bare w.values x;
    }
  where
    by : (b : Bool) → tells_file (w.values.client.op g) ≡ b → (answer w.values x).reply.status ≡ success
        → IsFittingAnswer (w.values.client.op g) (answer w.values x).reply.body
    by true e = left.told g token e
    by false e = simply_told z es w.values f k x xs h g token e

pub lines_fit : (z : WorldSettings) (w : World) (es : List Event) → w.values ≡ run es (start (values_of z))
    → Facts (values_of z) es w.values → restarts_in es < 4294967295 → (k : ℕ) (x : Sent) (xs : List Sent)
    → (w.values.conns k).server_open ≡ true → (w.values.conns k).up ≡ x ∷ xs → is_lines x.message.command ≡ true → TellsRows w x
    → LineBounds z w x
lines_fit z w es e f few k x xs so h line left =
    let told = replies_fit (values_of z) es w.values e k x xs so h in
    let sits = f.sits in
    let mine = sits.from_client k 0 x (front_up (w.values.conns k).up x xs h) in
    record {
      fits = record {
        status = status_fits (values_of z) es w.values e k x xs h;
        session = small_id (answer w.values x).reply.session_id (restarts_in es) few told.0;
        tree = told.1;
        short = λ token.
            reply_short token x.message.command (answer w.values x).reply line
            (λ ok simple. bodies_are_told w.values x simple mine.2 ok) left.short;
      };
      tells = by x.token refl;
    }
  where
    by : (t : Token) → x.token ≡ t → TellsToken z w.values.client.op t x.message.command (answer w.values x).reply
    by ForDialog token = tells_tree z es w.values e f k x xs h line token
    by (ForOp g) token = tells_own z es w f k x xs h g token left
    by (ForAttach g) token = tt
