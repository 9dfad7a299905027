-- What an answer tells of the server's rows fits: of a create, a stat and a list.
use Rattle.std.proofs.Common.{◌≡◌, ℕ, ◌+◌, ◌<◌, ◌≤◌, ◌^◌, true, false, List, [], ◌∷◌, length, refl, sym, ap, subst, arith}
use Rattle.spec_exchange.specs.Status.{success}
use Rattle.spec_exchange.specs.Commands.{Command, Aside, Unreadable, Setup, Logoff, TreeConnect, TreeDisconnect, Create, CreateRequest}
use Rattle.spec_exchange.specs.Commands.{Close, Flush, Read, Write, Lock, Ioctl, ListDirectory, QueryFile, QueryVolume, SetInfo}
use Rattle.spec_exchange.specs.State.{Body, CreateReply, Created}
use Rattle.spec_exchange.specs.Opens.{id_of, max_ids}
use Rattle.spec_exchange.specs.Operations.{Op, OpCreate, OpWrite, OpRead, OpEnd, OpTime, OpRename, OpRemove, OpLock, OpUnlock, OpFlush}
use Rattle.spec_exchange.specs.Operations.{OpStat, OpList, OpClose, request_of, reconnect_of}
use Rattle.spec_exchange.specs.Client.{guid_for}
use Rattle.spec_exchange.specs.Network.{World as Values, Event, Sent, ForDialog, ForOp, ForAttach, Settings, answer, run, start}
use Rattle.law_sessions.specs.messages.Connections.{its_request, create_at}
use Rattle.law_sessions.proofs.messages.Lists.{front_up}
use Rattle.law_sessions.specs.sessions.Sessions.{is_ops, is_dialog}
use Rattle.law_locks.specs.Locks.{open_at}
use Rattle.law_answers.specs.statuses.Creates.{TellsOpen}
use Rattle.law_answers.proofs.statuses.Creates.{creates_tell}
use Rattle.law_server.specs.successes.Bodies.{is_simple, IsBodyTold}
use Rattle.law_server.proofs.successes.Told.{bodies_are_told}
use Rattle.law_commands.proofs.lengths.Listings.{standards_are_short}
use Rattle.law_replies.specs.fields.Bodies.{FitsCreate, FitsBody, asks_rows}
use Rattle.law_replies.proofs.fields.Told.{bodies_fit}
use Rattle.spec_commands.specs.Infos.{file_bytes, listing_bytes}
use Rattle.law_commands.specs.commands.Fitting.{IsCreated, IsFittingAnswer}
use Rattle.spec_world.specs.Settings.{WorldSettings, values_of}
use Rattle.spec_world.specs.World.{World}
use Rattle.law_ties.specs.wire_facts.Steps.{restarts_in}
use Rattle.law_runs.proofs.untampered.Asked.{tells_file, IsShort, TellsRows}
use Rattle.law_runs.proofs.untampered.Values.{Facts}

absent : {X : Type 0} → false ≡ true → X
absent e = absurd (let h : false ≡ true = e in cc)

-- ---- of a run of the model

opens_at : (z : Settings) (es : List Event) (v : Values) → v ≡ run es (start z) → (k : ℕ) (x : Sent) (xs : List Sent)
    → (v.conns k).up ≡ x ∷ xs → (r : CreateRequest) → x.message.command ≡ Create r → (answer v x).reply.status ≡ success
    → TellsOpen (answer v x).reply.body
opens_at z es v e k x xs h r c ok =
    subst (λ (u : Values). TellsOpen (answer u x).reply.body) (sym e)
    (creates_tell z es k x xs r (subst (λ (u : Values). (u.conns k).up ≡ x ∷ xs) e h) c
    (subst (λ (u : Values). (answer u x).reply.status ≡ success) e ok))

rows_at : (z : Settings) (es : List Event) (v : Values) → v ≡ run es (start z) → (k : ℕ) (x : Sent) (xs : List Sent)
    → (v.conns k).up ≡ x ∷ xs → asks_rows x.message.command ≡ true → FitsBody v.server.epoch (answer v x).reply.body
rows_at z es v e k x xs h a =
    subst (λ (u : Values). FitsBody u.server.epoch (answer u x).reply.body) (sym e)
    (bodies_fit z es k x xs (subst (λ (u : Values). (u.conns k).up ≡ x ∷ xs) e h) a)

-- ---- by what was asked

low_id : (a e r : ℕ) → r < 4294967295 → a ≤ id_of e max_ids → e ≤ 1 + r → a < 256 ^ 16
low_id a e r few l m = omega (arith, few, l, m)

low_action : (a : ℕ) → a ≤ 3 → a < 256 ^ 4
low_action a l = omega (arith, l)

created_is : (e r : ℕ) (reply : CreateReply) → r < 4294967295 → e ≤ 1 + r → FitsCreate e reply → IsCreated reply
created_is e r reply few m f =
    record { id = low_id reply.id e r few f.low m; action = low_action reply.action f.done; info = f.told; timeout = f.wait }

few_bytes : (n : ℕ) → n ≤ 1048583 → n < 256 ^ 4
few_bytes n l = omega (arith, l)

short_bytes : (n : ℕ) → n ≤ 1048583 → n ≤ 1113900
short_bytes n l = omega (arith, l)

short_24 : (n : ℕ) → n ≡ 24 → n ≤ 1113900
short_24 n e = omega (arith, e)

stat_is : (e create file : ℕ) (b : Body) → IsBodyTold (QueryFile file 5 24) b → FitsBody e b → IsFittingAnswer (OpStat create) b
stat_is e create file b t f =
    subst (λ (q : Body). IsFittingAnswer (OpStat create) q) (sym t.5) (refl, subst (λ (q : Body). FitsBody e q) t.5 f)

stat_short : (file : ℕ) (b : Body) → IsBodyTold (QueryFile file 5 24) b → IsShort (QueryFile file 5 24) b
stat_short file b t =
    subst (λ (q : Body). IsShort (QueryFile file 5 24) q) (sym t.5)
    (short_24 (length (file_bytes 5 t.0 t.1 t.2 t.3 t.4)) (standards_are_short t.0 t.1 t.2 t.3 t.4))

list_is : (e create file : ℕ) (b : Body) → IsBodyTold (ListDirectory file 12 true false (42 ∷ []) 1048576) b → FitsBody e b
    → IsFittingAnswer (OpList create) b
list_is e create file b t f =
    let g = subst (λ (q : Body). FitsBody e q) t.1 f in
    subst (λ (q : Body). IsFittingAnswer (OpList create) q) (sym t.1) (refl, g.0, few_bytes (length (listing_bytes 12 t.0)) g.1)

list_short : (e file : ℕ) (b : Body) → IsBodyTold (ListDirectory file 12 true false (42 ∷ []) 1048576) b → FitsBody e b
    → IsShort (ListDirectory file 12 true false (42 ∷ []) 1048576) b
list_short e file b t f =
    let g = subst (λ (q : Body). FitsBody e q) t.1 f in
    subst (λ (q : Body). IsShort (ListDirectory file 12 true false (42 ∷ []) 1048576) q) (sym t.1)
    (short_bytes (length (listing_bytes 12 t.0)) g.1)

-- ---- what waits at a front

module _ (z : WorldSettings) (w : World) (es : List Event) (e : w.values ≡ run es (start (values_of z)))
    (f : Facts (values_of z) es w.values) (few : restarts_in es < 4294967295) (k : ℕ) (x : Sent) (xs : List Sent)
    (h : (w.values.conns k).up ≡ x ∷ xs) (ok : (answer w.values x).reply.status ≡ success) where
  told : (c : Command) → x.message.command ≡ c → is_simple c ≡ true → IsBodyTold c (answer w.values x).reply.body
  told c at i =
      let sits = f.sits in
      let mine = sits.from_client k 0 x (front_up (w.values.conns k).up x xs h) in
      subst (λ (q : Command). IsBodyTold q (answer w.values x).reply.body) at
      (bodies_are_told w.values x (subst (λ (q : Command). is_simple q ≡ true) (sym at) i) mine.2 ok)

  rows : (c : Command) → x.message.command ≡ c → asks_rows c ≡ true → FitsBody w.values.server.epoch (answer w.values x).reply.body
  rows c at i = rows_at (values_of z) es w.values e k x xs h (subst (λ (q : Command). asks_rows q ≡ true) (sym at) i)

  create_is : (op : Op) (r : CreateRequest) → x.message.command ≡ Create r
      → ((reply : CreateReply) → IsCreated reply → (answer w.values x).reply.body ≡ Created reply
      → IsFittingAnswer op (answer w.values x).reply.body)
      → IsFittingAnswer op (answer w.values x).reply.body
  create_is op r at give =
      let t = opens_at (values_of z) es w.values e k x xs h r at ok in
      let fit : FitsCreate w.values.server.epoch t.0 =
      subst (λ (q : Body). FitsBody w.values.server.epoch q) t.1 (rows (Create r) at refl) in
      let bounded = f.bounded in
      give t.0 (created_is w.values.server.epoch (restarts_in es) t.0 few bounded.epoch fit) t.1

  own_is : (op : Op) (guid file slot number : ℕ) → x.message.command ≡ request_of op guid file slot number → tells_file op ≡ true
      → IsFittingAnswer op (answer w.values x).reply.body
  own_is (OpCreate path access share disposition persist directory) guid file slot number at t =
      create_is (OpCreate path access share disposition persist directory) _ at
      (λ reply is same. subst (λ (q : Body). IsFittingAnswer (OpCreate path access share disposition persist directory) q) (sym same) is)
  own_is (OpStat create) guid file slot number at t =
      stat_is w.values.server.epoch create file (answer w.values x).reply.body (told (QueryFile file 5 24) at refl)
      (rows (QueryFile file 5 24) at refl)
  own_is (OpList create) guid file slot number at t =
      let c : Command = ListDirectory file 12 true false (42 ∷ []) 1048576 in
      list_is w.values.server.epoch create file (answer w.values x).reply.body (told c at refl) (rows c at refl)
  own_is (OpWrite create place bytes) guid file slot number at t = absent t
  own_is (OpRead create place size) guid file slot number at t = absent t
  own_is (OpEnd create size) guid file slot number at t = absent t
  own_is (OpTime create time) guid file slot number at t = absent t
  own_is (OpRename create path) guid file slot number at t = absent t
  own_is (OpRemove create) guid file slot number at t = absent t
  own_is (OpLock create place size exclusive) guid file slot number at t = absent t
  own_is (OpUnlock create place size) guid file slot number at t = absent t
  own_is (OpFlush create) guid file slot number at t = absent t
  own_is (OpClose create) guid file slot number at t = absent t

  own_short : (op : Op) (guid file slot number : ℕ) → x.message.command ≡ request_of op guid file slot number
      → IsShort (request_of op guid file slot number) (answer w.values x).reply.body
  own_short (OpStat create) guid file slot number at =
      stat_short file (answer w.values x).reply.body (told (QueryFile file 5 24) at refl)
  own_short (OpList create) guid file slot number at =
      let c : Command = ListDirectory file 12 true false (42 ∷ []) 1048576 in
      list_short w.values.server.epoch file (answer w.values x).reply.body (told c at refl) (rows c at refl)
  own_short (OpCreate path access share disposition persist directory) guid file slot number at = tt
  own_short (OpWrite create place bytes) guid file slot number at = tt
  own_short (OpRead create place size) guid file slot number at = tt
  own_short (OpEnd create size) guid file slot number at = tt
  own_short (OpTime create time) guid file slot number at = tt
  own_short (OpRename create path) guid file slot number at = tt
  own_short (OpRemove create) guid file slot number at = tt
  own_short (OpLock create place size exclusive) guid file slot number at = tt
  own_short (OpUnlock create place size) guid file slot number at = tt
  own_short (OpFlush create) guid file slot number at = tt
  own_short (OpClose create) guid file slot number at = tt

  ask_short : (op : Op) (guid file : ℕ) → IsShort (reconnect_of op guid file) (answer w.values x).reply.body
  ask_short (OpCreate path access share disposition persist directory) guid file = tt
  ask_short (OpWrite create place bytes) guid file = tt
  ask_short (OpRead create place size) guid file = tt
  ask_short (OpEnd create size) guid file = tt
  ask_short (OpTime create time) guid file = tt
  ask_short (OpRename create path) guid file = tt
  ask_short (OpRemove create) guid file = tt
  ask_short (OpLock create place size exclusive) guid file = tt
  ask_short (OpUnlock create place size) guid file = tt
  ask_short (OpFlush create) guid file = tt
  ask_short (OpStat create) guid file = tt
  ask_short (OpList create) guid file = tt
  ask_short (OpClose create) guid file = tt

  dialog_short : (c : Command) → is_dialog c ≡ true → IsShort c (answer w.values x).reply.body
  unfolding is_dialog
  dialog_short (Aside status) d = tt
  dialog_short (Setup request) d = tt
  dialog_short (TreeConnect share) d = tt
  dialog_short (Unreadable status) d = absent d
  dialog_short Logoff d = absent d
  dialog_short TreeDisconnect d = absent d
  dialog_short (Create request) d = absent d
  dialog_short (Close file query) d = absent d
  dialog_short (Flush file) d = absent d
  dialog_short (Read file at size minimum channel) d = absent d
  dialog_short (Write file at bytes channel) d = absent d
  dialog_short (Lock file index number elements) d = absent d
  dialog_short (Ioctl file code room) d = absent d
  dialog_short (ListDirectory file class restart single pattern room) d = absent d
  dialog_short (QueryFile file class room) d = absent d
  dialog_short (QueryVolume file class room) d = absent d
  dialog_short (SetInfo file setting) d = absent d

  is_one : (g : ℕ) → x.token ≡ ForOp g → tells_file (w.values.client.op g) ≡ true
      → IsFittingAnswer (w.values.client.op g) (answer w.values x).reply.body
  unfolding its_request
  is_one g token t =
      let c = w.values.client in
      let carried = f.carried in
      let body = carried.bodies k 0 g x (front_up (w.values.conns k).up x xs h) token in
      own_is (c.op g) (guid_for c g) (c.file (create_at c g)) (c.slot_of g) (c.number_of g) body.1 t

  is_short : IsShort x.message.command (answer w.values x).reply.body
  unfolding its_request
  is_short =
      let c = w.values.client in
      let carried = f.carried in
      let sits = f.sits in
      let locked = f.locked in
      let b = (answer w.values x).reply.body in
      let at = front_up (w.values.conns k).up x xs h in
      elim x.token as (λ t. x.token ≡ t → IsShort x.message.command b) [
        | ForDialog ↦ λ q. let up = sits.dialog_up k 0 x at (ap is_ops q) in dialog_short x.message.command up.1
        | ForOp g ↦ λ q. (
            let body = carried.bodies k 0 g x at q in
            subst (λ (d : Command). IsShort d b) (sym body.1)
            (own_short (c.op g) (guid_for c g) (c.file (create_at c g)) (c.slot_of g) (c.number_of g) body.1)
            )
        | ForAttach g ↦ λ q. (
            let asked = locked.ask_up k 0 g x at q in
            subst (λ (d : Command). IsShort d b) (sym asked.4)
            (ask_short (c.op (create_at c g)) (guid_for c (create_at c g)) (open_at c g))
            )
      ] refl

pub left_of : (z : WorldSettings) (w : World) (es : List Event) → w.values ≡ run es (start (values_of z))
    → Facts (values_of z) es w.values → restarts_in es < 4294967295 → (k : ℕ) (x : Sent) (xs : List Sent)
    → (w.values.conns k).up ≡ x ∷ xs → TellsRows w x
left_of z w es e f few k x xs h =
    record {
      short = λ ok. is_short z w es e f few k x xs h ok;
      told = λ g token t ok. is_one z w es e f few k x xs h ok g token t;
    }
