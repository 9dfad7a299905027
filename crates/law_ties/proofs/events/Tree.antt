-- The response to a new session's TREE_CONNECT is taken: its channel is ready, or is closed, and ends stay tied.
use Rattle.std.proofs.Common.{◌≡◌, ℕ, ◌==◌, Bool, true, false, ◌&&◌, if◌then◌else◌, List, [], ◌∷◌}
use Rattle.std.proofs.Common.{refl, sym, ap, ◌∙◌, subst, eqb-true, Option, Some, None}
use Rattle.spec_exchange.specs.Table.{put}
use Rattle.spec_exchange.specs.Status.{success}
use Rattle.spec_exchange.specs.Operations.{Op, Refusal}
use Rattle.spec_exchange.specs.Client.{Client, Stage, Apart, SaidNegotiate, SaidFirst, SaidSecond, AskedTree, bind_channel, begin_session}
use Rattle.spec_exchange.specs.Client.{leave_dialog}
use Rattle.spec_exchange.specs.ClientStep.{Act, Nothing, CloseChannel, becomes_ready}
use Rattle.spec_exchange.specs.Dialogs.{Readies, Refuses, dialog_step}
use Rattle.spec_exchange.specs.Network.{Conn, Sent, Received, with_client, take_front}
use Rattle.spec_exchange.specs.Network.{client_off, closed_by}
use Rattle.spec_exchange.specs.Network.{Take}
use Rattle.spec_crypto.specs.declared.sessions.material.Keys.{Keys}
use Rattle.spec_crypto.specs.sessions.Sealing.{opened}
use Rattle.spec_crypto.specs.sessions.Signing.{verifies}
use Rattle.spec_wire.specs.declared.messages.header.Header.{Header}
use Rattle.spec_world.specs.Settings.{WorldSettings}
use Rattle.spec_world.specs.Messages.{HeardMessage}
use Rattle.spec_world.specs.Ends.{ClientEnd, ServerEnd, Logons}
use Rattle.spec_world.specs.Dialog.{paid_in, line_text, response_in, dialog_response, dialog_fault, status_due}
use Rattle.spec_world.specs.World.{World, Wires, with_values, with_client_end, client_end_off, closed_wires, dialog_reply, dialog_passed}
use Rattle.spec_world.specs.World.{dialog_hears, hears as hears_at, behind_frame, take_frame}
use Rattle.spec_world.specs.Events.{Plain, bytes_happen}
use Rattle.law_ties.specs.events.Fronts.{FrontHearsAs, OnLine, InDialog}
use Rattle.law_ties.specs.events.Links.{Shared, shared_of, Linked, is_lined, Tied, TieOf, HasOwnKeys, Ties, IsTied}
use Rattle.law_ties.specs.events.InStep.{RepliesAreDue}
use Rattle.law_ties.specs.events.Taken.{IsAlone, IsQuiet, TreeTakesAreKept}
use Rattle.law_ties.proofs.events.Taking.{put_same, end_is}
use Rattle.law_ties.proofs.events.InStep.{has_frame_down, heard_at, response_gives, opens_both}
use Rattle.law_ties.proofs.events.Keeping.{false_open, client_closed, other_stage}
use Rattle.law_ties.proofs.events.Took.{TookLine, took_link, both_twice, tied_lists, taken_world, later_tied, passed_world}
use Rattle.law_ties.specs.channel_numbers.Counted.{binds}

-- ---- a line looks at no session of the client's

lined_not : (stage : Stage) → is_lined stage ≡ true → binds stage ≡ true → ⊥
lined_not Apart e f = let h : false ≡ true = f in cc
lined_not AskedTree e f = let h : false ≡ true = f in cc
lined_not (SaidNegotiate bound) e f = let h : false ≡ true = e in cc
lined_not (SaidFirst bound) e f = let h : false ≡ true = e in cc
lined_not (SaidSecond bound) e f = let h : false ≡ true = e in cc

abbrev shared_with : Shared → ℕ → Shared
shared_with s session = record s { session = session }

-- nor at its own stage
relinked : (z : WorldSettings) (op : ℕ → Op) (s : Shared) (k : ℕ) (co so : Bool) (n : ClientEnd) (f : ServerEnd) (up down : List (List ℕ))
    (xs : List Sent) (ys : List Received) (session : ℕ) (stage : Stage) → Linked z op s k co so n f up down xs ys
    → Linked z op (shared_with s session) k co so (record n { stage = stage }) f up down xs ys
relinked z op s k co so n f up down xs ys session stage i = record {
  line = i.line;
  reached = i.reached;
  purse = i.purse;
  window = i.window;
  counted = i.counted;
  asked = i.asked;
  awaited = i.awaited;
  answers = i.answers;
  session_fits = i.session_fits;
  sealable = i.sealable;
  keys = i.keys;
  encrypts = i.encrypts;
  greeted = i.greeted;
}

lined_tie : (z : WorldSettings) (op : ℕ → Op) (s : Shared) (k : ℕ) (co so : Bool) (n : ClientEnd) (f : ServerEnd) (up down : List (List ℕ))
    (xs : List Sent) (ys : List Received) (session : ℕ) → (co ≡ true → is_lined n.stage ≡ true)
    → Tied z op s k co so n f up down xs ys → Tied z op (shared_with s session) k co so n f up down xs ys
lined_tie z op s k co so n f up down xs ys session lined t = record {
  link = relinked z op s k (co && is_lined n.stage) so n f up down xs ys session n.stage t.link;
  bound_keys = λ o e. absurd (lined_not n.stage (lined o) e);
  talk = λ o off. absurd (let h : true ≡ false = sym (lined o) ∙ off in cc);
  purse = t.purse;
  logon = t.logon;
  salted = t.salted;
}

-- ---- the client's end behind it

abbrev ready_end : ClientEnd → Header → ClientEnd
ready_end n h = record (paid_in n h) { stage = Apart }

ready_tie : (z : WorldSettings) (op : ℕ → Op) (s : Shared) (k : ℕ) (co so : Bool) (n : ClientEnd) (f : ServerEnd) (up : List (List ℕ))
    (b : List ℕ) (bs : List (List ℕ)) (xs : List Sent) (y : Received) (ys : List Received) (session : ℕ) → co ≡ true
    → Tied z op s k co so n f up (b ∷ bs) xs (y ∷ ys) → (t : TookLine z op s k so n f up b bs xs y ys)
    → Tied z op (shared_with s session) k co so (ready_end n t.heard.header) f up bs xs ys
ready_tie z op s k co so n f up b bs xs y ys session co_is i t =
    let x = t.heard in
    let lined : (co && true) ≡ true = ap (λ q. q && true) co_is in record {
      link = subst (λ c. Linked z op (shared_with s session) k c so (ready_end n x.header) f up bs xs ys) (sym lined)
          (relinked z op s k true so (paid_in n x.header) f up bs xs ys session Apart t.linked);
      bound_keys = λ o e. absurd (let h : false ≡ true = e in cc);
      talk = λ o off. absurd (let h : true ≡ false = off in cc);
      purse = λ o off. absurd (let h : true ≡ false = off in cc);
      logon = i.logon;
      salted = i.salted;
    }

-- ---- the world behind it

abbrev ready_act_by : Bool → Act
ready_act_by becomes = if becomes then Nothing else CloseChannel

abbrev ready_client : Client → ℕ → ℕ → ℕ → Bool → Bool → Client
ready_client c k session tree becomes live =
    if becomes then (if live then bind_channel c k else begin_session c k session tree) else leave_dialog c k

abbrev ready_world : World → ℕ → HeardMessage → ℕ → ℕ → Bool → Bool → World
ready_world v k x session tree becomes live =
    let a = with_client_end v k (ready_end (v.wires k).client_end x.header) in
    with_values (closed_wires a k (ready_act_by becomes))
    (with_client (closed_by v.values k (ready_act_by becomes)) (ready_client v.values.client k session tree becomes live))

-- what holds of the client behind it, by its session
record Becomes (c d : Client) (k : ℕ) : Type 0 where
  op : d.op ≡ c.op
  pending : d.pending ≡ c.pending
  stage : d.stage ≡ put c.stage k Apart
  rank : d.rank ≡ c.rank
  accepted : d.accepted ≡ c.accepted

became_ties : (z : WorldSettings) (c d : Client) (k : ℕ) (keys : Keys) (L : Logons) (conns : ℕ → Conn) (wires : ℕ → Wires)
    → Becomes c d k → ((j : ℕ) → TieOf z c.op (shared_with (shared_of c keys L) d.session) j (conns j) (wires j))
    → ((j : ℕ) → (conns j).client_open ≡ true → (wires j).client_end.stage ≡ put c.stage k Apart j)
    → ((j : ℕ) → (conns j).client_open ≡ true → (wires j).client_end.purse.next ≡ (conns j).next_id)
    → HasOwnKeys z keys L c.rank c.accepted → Ties z d keys L conns wires
became_ties z c d k keys L conns wires s tied stages nexts own = record {
  tied = λ j. subst (λ o. TieOf z o (shared_of d keys L) j (conns j) (wires j)) (sym s.op)
      (subst (λ n. TieOf z c.op (record { session = d.session; pending = n; keys = keys; logons = L }) j (conns j) (wires j))
      (sym s.pending) (tied j));
  stages = λ j o. stages j o ∙ ap (λ (f : ℕ → Stage). f j) (sym s.stage);
  nexts = nexts;
  own_keys = subst (λ (r : ℕ → ℕ). HasOwnKeys z keys L r d.accepted) (sym s.rank)
      (subst (λ a. HasOwnKeys z keys L c.rank a) (sym s.accepted) own);
}

became : (c : Client) (k session tree : ℕ) (becomes live : Bool) → Becomes c (ready_client c k session tree becomes live) k
became c k session tree true true = record { op = refl; pending = refl; stage = refl; rank = refl; accepted = refl }
became c k session tree true false = record { op = refl; pending = refl; stage = refl; rank = refl; accepted = refl }
became c k session tree false live = record { op = refl; pending = refl; stage = refl; rank = refl; accepted = refl }

-- tables that were changed twice, and closed besides
closed_thrice : (P : ℕ → Conn → Wires → Type 0) (conns : ℕ → Conn) (wires : ℕ → Wires) (k : ℕ) (d : Conn) (a : Wires) (h : Wires → Wires)
    → P k (client_off d) (client_end_off (h a)) → ((j : ℕ) → (j == k) ≡ false → P j (conns j) (wires j)) → (j : ℕ)
    → P j (put (put conns k d) k (client_off (put conns k d k)) j)
    (put (put (put wires k a) k (h (put wires k a k))) k (client_end_off (put (put wires k a) k (h (put wires k a k)) k)) j)
closed_thrice P conns wires k d a h here there j =
    subst (λ v. P j (put (put conns k d) k (client_off v) j)
    (put (put (put wires k a) k (h (put wires k a k))) k (client_end_off (put (put wires k a) k (h (put wires k a k)) k)) j))
    (sym (put_same conns k d))
    (subst (λ v. P j (put (put conns k d) k (client_off d) j) (put (put (put wires k a) k (h (put wires k a k))) k (client_end_off v) j))
    (sym (put_same (put wires k a) k (h (put wires k a k))))
    (subst (λ v. P j (put (put conns k d) k (client_off d) j) (put (put (put wires k a) k (h v)) k (client_end_off (h v)) j))
    (sym (put_same wires k a))
    (elim (j == k) as (λ b. j == k ≡ b → P j (if b then client_off d else (if b then d else conns j))
    (if b then client_end_off (h a) else (if b then h a else (if b then a else wires j)))) [
      | true ↦ λ e. subst (λ q. P q (client_off d) (client_end_off (h a))) (sym (eqb-true j k e)) here
      | false ↦ λ e. there j e
    ] refl)))

ready_ties : (z : WorldSettings) (w : World) (k : ℕ) (b : List ℕ) (bs : List (List ℕ)) (y : Received)
    (ys : List Received) (x : HeardMessage)
    (session tree : ℕ) (becomes live : Bool) → IsTied z w → (w.values.conns k).client_open ≡ true → IsQuiet w k
    → Tied z w.values.client.op (shared_of w.values.client w.keys w.logons) k (w.values.conns k).client_open
    (w.values.conns k).server_open (w.wires k).client_end (w.wires k).server_end (w.wires k).up (b ∷ bs) (w.values.conns k).up (y ∷ ys)
    → (t : TookLine z w.values.client.op (shared_of w.values.client w.keys w.logons) k (w.values.conns k).server_open
    (w.wires k).client_end (w.wires k).server_end (w.wires k).up b bs (w.values.conns k).up y ys) → t.heard ≡ x
    → IsTied z (ready_world (behind_frame w k bs ys) k x session tree becomes live)
ready_ties z w k b bs y ys x session tree becomes live i co quiet all t same =
    subst (λ q. IsTied z (ready_world (behind_frame w k bs ys) k q session tree becomes live)) same
    (by becomes)
  where
    by : (becomes : Bool) → IsTied z (ready_world (behind_frame w k bs ys) k t.heard session tree becomes live)
    by true =
        let c = w.values.client in
        let u = w.wires k in
        let d = w.values.conns k in
        let s = shared_of c w.keys w.logons in
        let e = ready_client c k session tree true live in
        let p = take_front d ys in
        let a : Wires = record u { down = bs } in
        let h = λ (q : Wires). (let m : Wires = record q { client_end = ready_end q.client_end t.heard.header } in m) in
        let here = ready_tie z c.op s k d.client_open d.server_open u.client_end u.server_end u.up b bs d.up y ys e.session co all t in
        let v = behind_frame w k bs ys in
        became_ties z c e k w.keys w.logons v.values.conns (with_client_end v k (ready_end (v.wires k).client_end t.heard.header)).wires
        (became c k session tree true live)
        (both_twice (TieOf z c.op (shared_with s e.session)) w.values.conns w.wires k p a h here
        (λ j q. lined_tie z c.op s j (w.values.conns j).client_open (w.values.conns j).server_open (w.wires j).client_end
        (w.wires j).server_end (w.wires j).up (w.wires j).down (w.values.conns j).up (w.values.conns j).down e.session
        (λ o. ap is_lined (i.stages j o) ∙ quiet j q o) (i.tied j)))
        (both_twice (λ j r q. r.client_open ≡ true → q.client_end.stage ≡ put c.stage k Apart j) w.values.conns w.wires k p a h
        (λ o. sym (put_same c.stage k Apart)) (λ j q o. i.stages j o ∙ sym (other_stage c.stage k j Apart q)))
        (both_twice (λ j r q. r.client_open ≡ true → q.client_end.purse.next ≡ r.next_id) w.values.conns w.wires k p a h (i.nexts k)
        (λ j q. i.nexts j)) i.own_keys
    by false =
        let c = w.values.client in
        let u = w.wires k in
        let d = w.values.conns k in
        let s = shared_of c w.keys w.logons in
        let p = take_front d ys in
        let a : Wires = record u { down = bs } in
        let h = λ (q : Wires). (let m : Wires = record q { client_end = ready_end q.client_end t.heard.header } in m) in
        let n = ready_end u.client_end t.heard.header in
        let here = ready_tie z c.op s k d.client_open d.server_open u.client_end u.server_end u.up b bs d.up y ys c.session co all t in
        let e = leave_dialog c k in record {
          tied = closed_thrice (TieOf z c.op s) w.values.conns w.wires k p a h
              (client_closed z c.op s k d.client_open d.server_open n u.server_end u.up bs d.up ys here) (λ j q. i.tied j);
          stages = closed_thrice (λ j r q. r.client_open ≡ true → q.client_end.stage ≡ e.stage j) w.values.conns w.wires k p a h
              (λ o. false_open o) (λ j q o. i.stages j o ∙ sym (other_stage c.stage k j Apart q));
          nexts = closed_thrice (λ j r q. r.client_open ≡ true → q.client_end.purse.next ≡ r.next_id) w.values.conns w.wires k p a h
              (λ o. false_open o) (λ j q. i.nexts j);
          own_keys = i.own_keys;
        }

-- ---- a Take of it

same_heard : (o : Option HeardMessage) (x y : HeardMessage) → o ≡ Some x → o ≡ Some y → x ≡ y
same_heard o x y e f = (let h : Some x ≡ Some y = sym e ∙ f in cc)

fault_if : (b : Bool) (o : Option Refusal) → b ≡ true → o ≡ None → (if b then o else None) ≡ None
fault_if true o e f = f
fault_if false o e f = refl

readies : (status : ℕ) → (status == success) ≡ true → dialog_step AskedTree status ≡ Readies
readies status e = ap (λ b. if b then Readies else Refuses status) e

passed_by : (z : WorldSettings) (v : World) (k : ℕ) (o : Option HeardMessage) (x : HeardMessage) → o ≡ Some x
    → (x.header.status == success) ≡ true
    → dialog_fault z.client (v.wires k).client_end AskedTree x ≡ None
    → dialog_hears z v k AskedTree o ≡ passed_world z v k AskedTree x Readies
passed_by z v k o x opens ok sound =
    ap (dialog_hears z v k AskedTree) opens
    ∙ (ap (dialog_passed z v k AskedTree x)
    (fault_if (x.header.status == success) (dialog_fault z.client (v.wires k).client_end AskedTree x) ok sound)
    ∙ ap (passed_world z v k AskedTree x) (readies x.header.status ok))

tree_taken : (z : WorldSettings) (w : World) (k : ℕ) (b : List ℕ) (bs : List (List ℕ)) (y : Received) (ys : List Received) → IsTied z w
    → (w.values.conns k).client_open ≡ true → (w.wires k).down ≡ b ∷ bs → (w.values.conns k).down ≡ y ∷ ys
    → (w.wires k).client_end.stage ≡ AskedTree → (y.reply.status == success) ≡ true → IsAlone w k y ys → IsQuiet w k
    → FrontHearsAs z w.values.client.op (w.wires k).client_end b y → IsTied z (take_frame z w k (b ∷ bs) (y ∷ ys))
tree_taken z w k b bs y ys i co e h at ok alone quiet (OnLine g) = absurd (let q : AskedTree ≡ Apart = sym at ∙ g.stage in cc)
tree_taken z w k b bs y ys i co e h at ok alone quiet (InDialog g) =
    let c = w.values.client in
    let u = w.wires k in
    let d = w.values.conns k in
    let n = u.client_end in
    let s = shared_of c w.keys w.logons in
    let all = tied_lists z w k b bs y ys i e h in
    let lined : (d.client_open && is_lined n.stage) ≡ true = ap (λ q. q && is_lined n.stage) co ∙ ap is_lined at in
    let link : Linked z c.op s k true d.server_open n u.server_end u.up (b ∷ bs) d.up (y ∷ ys) =
    subst (λ q. Linked z c.op s k q d.server_open n u.server_end u.up (b ∷ bs) d.up (y ∷ ys)) lined all.link in
    let l = link.line in
    let t = took_link z c.op s k d.server_open n u.server_end u.up b bs d.up y ys link alone.up alone.down l.grants refl
    (link.answers refl) in
    let x = g.heard in
    let told = g.same in
    let two = response_gives (response_in (line_text n b)) t.heard t.opens in
    let there : dialog_response n AskedTree b ≡ Some t.heard =
    opens_both b t.heard n.encrypts (verifies n.keys.signing b) (opened n.keys false b) two.0 in
    let mine : dialog_response n AskedTree b ≡ Some x = subst (λ q. dialog_response n q b ≡ Some x) at g.opens in
    let same : t.heard ≡ x = same_heard (dialog_response n AskedTree b) t.heard x there mine in
    let good : (x.header.status == success) ≡ true = ap (λ q. q == success) told.status ∙ ok in
    let sound : dialog_fault z.client n AskedTree x ≡ None =
    subst (λ q. (x.header.status == status_due q) ≡ true → dialog_fault z.client n q x ≡ None) at g.sound good in
    let v = behind_frame w k bs ys in
    let is = end_is w k bs ys in
    let world : take_frame z w k (b ∷ bs) (y ∷ ys) ≡ passed_world z v k AskedTree x Readies =
    ap (hears_at z v k b y.place) at
    ∙ passed_by z v k (dialog_response (v.wires k).client_end AskedTree b) x (ap (λ m. dialog_response m AskedTree b) is ∙ mine) good
    (ap (λ m. dialog_fault z.client m AskedTree x) is ∙ sound) in
    let reply = dialog_reply v AskedTree x in
    subst (IsTied z) (sym world)
    (ready_ties z w k b bs y ys x c.pending reply.tree_id (becomes_ready c c.pending) c.live i co quiet all t same)

tree_by : (z : WorldSettings) (w : World) (k : ℕ) (y : Received) (ys : List Received) → IsTied z w → RepliesAreDue w
    → (w.values.conns k).client_open ≡ true → (w.values.conns k).down ≡ y ∷ ys → w.values.client.stage k ≡ AskedTree
    → (y.reply.status == success) ≡ true → IsAlone w k y ys → IsQuiet w k → (bs : List (List ℕ)) → (w.wires k).down ≡ bs
    → IsTied z (bytes_happen z w (Plain (Take k)))
tree_by z w k y ys i whose co h at ok alone quiet [] e = absurd (has_frame_down z w k y ys i co e h)
tree_by z w k y ys i whose co h at ok alone quiet (b ∷ bs) e =
    let n = (w.wires k).client_end in
    subst (IsTied z) (sym (taken_world z w k b bs y ys co e h))
    (later_tied z (take_frame z w k (b ∷ bs) (y ∷ ys)) 1
    (tree_taken z w k b bs y ys i co e h (i.stages k co ∙ at) ok alone quiet (heard_at z w k b bs y ys i whose co e h n.stage refl)))

pub tree_takes : TreeTakesAreKept
tree_takes z w k y ys i whose co h at ok alone quiet = tree_by z w k y ys i whose co h at ok alone quiet (w.wires k).down refl
