-- A binding's final response is taken: its channel is a line.
use Rattle.std.proofs.Common.{◌≡◌, ℕ, ◌+◌, ◌<◌, ◌^◌, ◌==◌, Bool, true, false, ◌&&◌, if◌then◌else◌, List, [], ◌∷◌, refl, sym, ap, ◌∙◌}
use Rattle.std.proofs.Common.{subst, eqb-true}
use Rattle.spec_exchange.specs.Table.{put}
use Rattle.spec_exchange.specs.Status.{success}
use Rattle.spec_exchange.specs.Client.{Client, Stage, Apart, SaidSecond, bind_channel, begin_session, leave_dialog}
use Rattle.spec_exchange.specs.ClientStep.{Act, Nothing, CloseChannel, becomes_ready}
use Rattle.spec_exchange.specs.Network.{Conn, Received, with_client, take_front, client_off, closed_by}
use Rattle.spec_wire.specs.credits.Purse.{after_add}
use Rattle.spec_crypto.specs.declared.sessions.material.Keys.{Keys}
use Rattle.spec_world.specs.Settings.{WorldSettings}
use Rattle.spec_world.specs.Messages.{HeardMessage}
use Rattle.spec_world.specs.Ends.{ClientEnd, ServerEnd, Logons}
use Rattle.spec_world.specs.Dialog.{bound_end}
use Rattle.spec_world.specs.World.{World, Wires, with_values, with_client_end, client_end_off, closed_wires, channel_bound, behind_frame}
use Rattle.law_ties.specs.events.Links.{Shared, shared_of, IsAhead, is_lined, Tied, TieOf, HasOwnKeys, Ties, IsTied}
use Rattle.law_ties.proofs.events.Taking.{put_same}
use Rattle.law_ties.proofs.events.Keeping.{false_open, client_closed, other_stage}
use Rattle.law_ties.proofs.events.Took.{both_twice}
use Rattle.law_ties.specs.channel_numbers.Counted.{binds}
use Rattle.law_dialogs.specs.acceptance.Accepting.{BindsAreKept}
use Rattle.law_dialogs.proofs.acceptance.Lined.{Common, lined_now, seals_with}
use Rattle.law_dialogs.proofs.acceptance.Came.{IsFinalCome, came, taken_final, due_of}

-- ---- the line

bound_common : (z : WorldSettings) (s : Shared) (k : ℕ) (n : ClientEnd) (f : ServerEnd) (a : List ℕ) (x : HeardMessage) (number : ℕ)
    → IsAhead s k n f z a x (SaidSecond true) → Common z (bound_end n x number) f
bound_common z s k n f a x number h = record { keys = h.0; encrypts = h.1; greeted = h.2 }

bound_tie : (z : WorldSettings) (w : World) (k : ℕ) (y : Received) (number : ℕ) → IsTied z w → (F : IsFinalCome z w k y true)
    → (w.values.conns k).client_open ≡ true → (y.reply.status == success) ≡ true → 0 < w.values.client.rank w.values.client.accepted
    → Tied z w.values.client.op (shared_of w.values.client w.keys w.logons) k (w.values.conns k).client_open (w.values.conns k).server_open
    (bound_end (w.wires k).client_end F.coming.heard number) (w.wires k).server_end (w.wires k).up [] (w.values.conns k).up []
bound_tie z w k y number i F co ok pos =
    let c = w.values.client in
    let s = shared_of c w.keys w.logons in
    let d = w.values.conns k in
    let u = w.wires k in
    let n = u.client_end in
    let f = u.server_end in
    let T = F.tie in
    let C = F.coming in
    let x = C.heard in
    let m = bound_end n x number in
    let due_is = due_of z w k y true F ok in
    let own = i.own_keys pos in
    let keys : n.keys ≡ w.keys = T.bound_keys refl (ap binds F.stage) in
    let fits : n.keys.session < 2 ^ 64 = subst (λ (q : Keys). q.session < 2 ^ 64) (sym keys) own.2 in
    let link = lined_now z c.op s s k (true && is_lined n.stage) d.server_open n m f (F.frame ∷ []) (y ∷ []) 1 T.link refl C.grants_it
    (ap (λ g. after_add g n.purse) C.credits) fits (seals_with z n true x (C.sound due_is))
    (λ o. bound_common z s k n f F.frame x number (subst (λ b. IsAhead s k n f z F.frame x (SaidSecond true)) o (C.ahead due_is o))) in
    let tie : Tied z c.op s k true d.server_open m f [] [] [] [] = record {
      link = link;
      bound_keys = λ o e. false_open e;
      talk = λ o off. absurd (let h : true ≡ false = off in cc);
      purse = λ o off. absurd (let h : true ≡ false = off in cc);
      logon = T.logon;
      salted = T.salted;
    } in
    subst (λ o. Tied z c.op s k o d.server_open m f u.up [] d.up []) (sym co)
    (subst (λ v. Tied z c.op s k true d.server_open m f v [] d.up []) (sym F.up_is)
    (subst (λ v. Tied z c.op s k true d.server_open m f [] [] v []) (sym F.sent_is) tie))

-- ---- the world behind it

abbrev ready_act : Bool → Act
ready_act becomes = if becomes then Nothing else CloseChannel

abbrev ready_client : Client → ℕ → ℕ → Bool → Bool → Client
ready_client c k tree becomes live =
    if becomes then (if live then bind_channel c k else begin_session c k c.session tree) else leave_dialog c k

abbrev bound_world : World → ℕ → HeardMessage → ℕ → Bool → Bool → World
bound_world v k x tree becomes live =
    with_values (closed_wires (channel_bound v k x) k (ready_act becomes))
    (with_client (closed_by v.values k (ready_act becomes)) (ready_client v.values.client k tree becomes live))

-- what of the client stays
record Stays (c d : Client) (k : ℕ) : Type 0 where
  op : d.op ≡ c.op
  session : d.session ≡ c.session
  pending : d.pending ≡ c.pending
  stage : d.stage ≡ put c.stage k Apart
  rank : d.rank ≡ c.rank
  accepted : d.accepted ≡ c.accepted

stays : (c : Client) (k tree : ℕ) (becomes live : Bool) → Stays c (ready_client c k tree becomes live) k
stays c k tree true true = record { op = refl; session = refl; pending = refl; stage = refl; rank = refl; accepted = refl }
stays c k tree true false = record { op = refl; session = refl; pending = refl; stage = refl; rank = refl; accepted = refl }
stays c k tree false live = record { op = refl; session = refl; pending = refl; stage = refl; rank = refl; accepted = refl }

stayed_ties : (z : WorldSettings) (c d : Client) (k : ℕ) (keys : Keys) (L : Logons) (conns : ℕ → Conn) (wires : ℕ → Wires) → Stays c d k
    → ((j : ℕ) → TieOf z c.op (shared_of c keys L) j (conns j) (wires j))
    → ((j : ℕ) → (conns j).client_open ≡ true → (wires j).client_end.stage ≡ put c.stage k Apart j)
    → ((j : ℕ) → (conns j).client_open ≡ true → (wires j).client_end.purse.next ≡ (conns j).next_id)
    → HasOwnKeys z keys L c.rank c.accepted → Ties z d keys L conns wires
stayed_ties z c d k keys L conns wires s tied stages nexts own = record {
  tied = λ j. subst (λ o. TieOf z o (shared_of d keys L) j (conns j) (wires j)) (sym s.op)
      (subst (λ n. TieOf z c.op (record { session = n; pending = d.pending; keys = keys; logons = L }) j (conns j) (wires j))
      (sym s.session)
      (subst (λ n. TieOf z c.op (record { session = c.session; pending = n; keys = keys; logons = L }) j (conns j) (wires j))
      (sym s.pending)
      (tied j)));
  stages = λ j o. stages j o ∙ ap (λ (f : ℕ → Stage). f j) (sym s.stage);
  nexts = nexts;
  own_keys = subst (λ (r : ℕ → ℕ). HasOwnKeys z keys L r d.accepted) (sym s.rank)
      (subst (λ a. HasOwnKeys z keys L c.rank a) (sym s.accepted) own);
}

-- tables that were changed twice, and closed besides
closed_thrice : (P : ℕ → Conn → Wires → Type 0) (conns : ℕ → Conn) (wires : ℕ → Wires) (k : ℕ) (d : Conn) (a : Wires) (h : Wires → Wires)
    → P k (client_off d) (client_end_off (h a)) → ((j : ℕ) → (j == k) ≡ false → P j (conns j) (wires j)) → (j : ℕ)
    → P j (put (put conns k d) k (client_off (put conns k d k)) j)
    (put (put (put wires k a) k (h (put wires k a k))) k (client_end_off (put (put wires k a) k (h (put wires k a k)) k)) j)
closed_thrice P conns wires k d a h here there j =
    subst (λ v. P j (put (put conns k d) k (client_off v) j)
    (put (put (put wires k a) k (h (put wires k a k))) k (client_end_off (put (put wires k a) k (h (put wires k a k)) k)) j))
    (sym (put_same conns k d))
    (subst (λ v. P j (put (put conns k d) k (client_off d) j) (put (put (put wires k a) k (h (put wires k a k))) k (client_end_off v) j))
    (sym (put_same (put wires k a) k (h (put wires k a k))))
    (subst (λ v. P j (put (put conns k d) k (client_off d) j) (put (put (put wires k a) k (h v)) k (client_end_off (h v)) j))
    (sym (put_same wires k a))
    (elim (j == k) as (λ b. j == k ≡ b → P j (if b then client_off d else (if b then d else conns j))
    (if b then client_end_off (h a) else (if b then h a else (if b then a else wires j)))) [
      | true ↦ λ e. subst (λ q. P q (client_off d) (client_end_off (h a))) (sym (eqb-true j k e)) here
      | false ↦ λ e. there j e
    ] refl)))

bound_ties : (z : WorldSettings) (w : World) (k : ℕ) (x : HeardMessage) (tree : ℕ) (becomes live : Bool) → IsTied z w
    → (w.values.conns k).client_open ≡ true
    → Tied z w.values.client.op (shared_of w.values.client w.keys w.logons) k (w.values.conns k).client_open (w.values.conns k).server_open
    (bound_end (w.wires k).client_end x (w.numbers + 1)) (w.wires k).server_end (w.wires k).up [] (w.values.conns k).up []
    → IsTied z (bound_world (behind_frame w k [] []) k x tree becomes live)
bound_ties z w k x tree true live i co here =
    let c = w.values.client in
    let u = w.wires k in
    let d = w.values.conns k in
    let s = shared_of c w.keys w.logons in
    let e = ready_client c k tree true live in
    let p = take_front d [] in
    let a : Wires = record u { down = [] } in
    let h = λ (q : Wires). (let m : Wires = record q { client_end = bound_end q.client_end x (w.numbers + 1) } in m) in
    let v = behind_frame w k [] [] in
    stayed_ties z c e k w.keys w.logons v.values.conns
    (with_client_end v k (bound_end (v.wires k).client_end x (w.numbers + 1))).wires (stays c k tree true live)
    (both_twice (TieOf z c.op s) w.values.conns w.wires k p a h here (λ j q. i.tied j))
    (both_twice (λ j r q. r.client_open ≡ true → q.client_end.stage ≡ put c.stage k Apart j) w.values.conns w.wires k p a h
    (λ o. sym (put_same c.stage k Apart)) (λ j q o. i.stages j o ∙ sym (other_stage c.stage k j Apart q)))
    (both_twice (λ j r q. r.client_open ≡ true → q.client_end.purse.next ≡ r.next_id) w.values.conns w.wires k p a h (i.nexts k)
    (λ j q. i.nexts j)) i.own_keys
bound_ties z w k x tree false live i co here =
    let c = w.values.client in
    let u = w.wires k in
    let d = w.values.conns k in
    let s = shared_of c w.keys w.logons in
    let p = take_front d [] in
    let a : Wires = record u { down = [] } in
    let h = λ (q : Wires). (let m : Wires = record q { client_end = bound_end q.client_end x (w.numbers + 1) } in m) in
    let n = bound_end u.client_end x (w.numbers + 1) in
    let e = leave_dialog c k in record {
      tied = closed_thrice (TieOf z c.op s) w.values.conns w.wires k p a h
          (client_closed z c.op s k d.client_open d.server_open n u.server_end u.up [] d.up [] here) (λ j q. i.tied j);
      stages = closed_thrice (λ j r q. r.client_open ≡ true → q.client_end.stage ≡ e.stage j) w.values.conns w.wires k p a h
          (λ o. false_open o) (λ j q o. i.stages j o ∙ sym (other_stage c.stage k j Apart q));
      nexts = closed_thrice (λ j r q. r.client_open ≡ true → q.client_end.purse.next ≡ r.next_id) w.values.conns w.wires k p a h
          (λ o. false_open o) (λ j q. i.nexts j);
      own_keys = i.own_keys;
    }

pub binds_kept : BindsAreKept
binds_kept z w k y ys law i co h st ok pos =
    let c = w.values.client in
    let F = came z w k y ys true i co h st in
    taken_final z w k y true F co ok
    (bound_ties z w k F.coming.heard c.tree (becomes_ready c c.session) c.live i co (bound_tie z w k y (w.numbers + 1) i F co ok pos))
