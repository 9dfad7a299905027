-- A new session's final response is taken: its channel is a line, on which TREE_CONNECT goes up.
use Rattle.std.proofs.Common.{◌≡◌, ℕ, ◌+◌, ◌<◌, ◌≤◌, ◌^◌, ◌==◌, nat_le, Bool, true, false, ◌&&◌, if◌then◌else◌, List, [], ◌∷◌, ◌++◌, length}
use Rattle.std.proofs.Common.{refl, sym, ap, ◌∙◌, subst, eqb-true, arith, Some}
use Rattle.spec_exchange.specs.Table.{put}
use Rattle.spec_exchange.specs.Status.{success}
use Rattle.spec_exchange.specs.Commands.{TreeConnect}
use Rattle.spec_exchange.specs.State.{Message}
use Rattle.spec_exchange.specs.Operations.{Op}
use Rattle.spec_exchange.specs.Client.{Client, Identity, Stage, Apart, SaidNegotiate, SaidFirst, SaidSecond, AskedTree}
use Rattle.spec_exchange.specs.Dialogs.{dialog_message, accepted}
use Rattle.spec_exchange.specs.Network.{Conn, Sent, Received, ForDialog, with_client, take_front, send_up, dialog_sent}
use Rattle.spec_wire.specs.credits.Ids.{counted}
use Rattle.spec_wire.specs.credits.Purse.{after_add}
use Rattle.spec_commands.specs.BodyOf.{body_of, number_of_command}
use Rattle.spec_commands.specs.CommandOf.{command_of}
use Rattle.spec_crypto.specs.sessions.Derivation.{known}
use Rattle.spec_world.specs.Settings.{WorldSettings, identity_of}
use Rattle.spec_world.specs.Messages.{HeardMessage}
use Rattle.spec_world.specs.Ends.{ClientEnd, ServerEnd}
use Rattle.spec_world.specs.Sending.{line_frame, spent, sealed_on}
use Rattle.spec_world.specs.Dialog.{accepted_end, own_final}
use Rattle.spec_world.specs.World.{World, Wires, with_values, queued, line_sent, session_accepted, behind_frame}
use Rattle.law_ties.specs.wire_facts.Fitting.{IsMessage}
use Rattle.law_ties.specs.wire_facts.Lawful.{header_as, IsLawful}
use Rattle.law_ties.specs.events.Links.{Shared, shared_of, AllAsked, Linked, ChosenAs, IsAhead, is_lined}
use Rattle.law_ties.specs.events.Links.{dialog_purse, Tied, TieOf, Ties}
use Rattle.law_ties.specs.events.Links.{HasOwnKeys, IsTied}
use Rattle.law_ties.proofs.events.Taking.{put_same, end_is}
use Rattle.law_ties.proofs.events.Keeping.{false_open, other_stage}
use Rattle.law_ties.specs.requests.Sending.{IsLineMessage}
use Rattle.law_ties.proofs.requests.Sending.{sent_link}
use Rattle.law_ties.specs.channel_numbers.Counted.{binds}
use Rattle.law_dialogs.specs.acceptance.Accepting.{IsAccepting, AcceptsAreKept}
use Rattle.law_dialogs.proofs.acceptance.Lined.{Common, lined_now, seals_with}
use Rattle.law_dialogs.proofs.acceptance.Came.{IsFinalCome, came, taken_final, due_of}

-- ---- the TREE_CONNECT

own_share : (z : WorldSettings) (c : Client) (k id : ℕ) → c.who ≡ identity_of z
    → (dialog_message c k id AskedTree).command ≡ TreeConnect z.share
own_share z c k id e = ap (λ (w : Identity). TreeConnect w.share) e

number_is : (z : WorldSettings) (c : Client) (k id : ℕ) → number_of_command (dialog_message c k id AskedTree).command ≡ 3
number_is z c k id = refl

tree_message : (z : WorldSettings) → IsLawful z → (c : Client) (k : ℕ) (n : ClientEnd) → c.who ≡ identity_of z → c.pending < 256 ^ 8
    → n.purse.next < 256 ^ 8 → nat_le (counted 1) n.purse.held ≡ true → 64 + length (body_of (TreeConnect z.share)) ≤ 1114060
    → IsLineMessage z n k (dialog_message c k n.purse.next AskedTree) 1
tree_message z law c k n who pending low paid short =
    let m = dialog_message c k n.purse.next AskedTree in
    let is = own_share z c k n.purse.next who in
    let trees = law.trees in record {
      connection = refl;
      client = ap (λ (w : Identity). w.guid) who;
      fault = refl;
      id = refl;
      sent = record {
        charge_fits = omega arith;
        channel_sequence = omega arith;
        message_id = low;
        tree_id = omega arith;
        session_id = pending;
      };
      paid = paid;
      positive = omega arith;
      small = omega arith;
      greets_not = refl;
      sets_up_not = refl;
      cancels_not = refl;
      short = subst (λ v. 64 + length (body_of v) ≤ 1114060) (sym is) short;
      reads = λ t h b fit message pays named. subst (λ v. command_of t (header_as h b) b ≡ Some v) (sym is)
          (trees.tree t h b fit (subst (λ v. IsMessage h (body_of v) b) is message) (named ∙ ap number_of_command is));
    }

-- ---- the line

accepted_common : (z : WorldSettings) (s : Shared) (k : ℕ) (n : ClientEnd) (f : ServerEnd) (a : List ℕ) (x : HeardMessage)
    → IsAhead s k n f z a x (SaidSecond false) → Common z (accepted_end n x s.pending) f
accepted_common z s k n f a x h = record { keys = h.0; encrypts = h.1; greeted = h.2 }

-- what the client's session has behind it
abbrev accepted_shared : World → ℕ → Shared
accepted_shared w k = record {
  session = w.values.client.session;
  pending = w.values.client.pending;
  keys = own_final (w.wires k).client_end false w.values.client.pending;
  logons = w.logons;
}

abbrev own_message : World → ℕ → ClientEnd → Message
own_message w k m = dialog_message (accepted w.values.client k) k m.purse.next AskedTree

-- the end behind the response, and behind the request
abbrev line_end : World → ℕ → HeardMessage → ClientEnd
line_end w k x = accepted_end (w.wires k).client_end x w.values.client.pending

purse_at : (n : ClientEnd) (g : ℕ) → n.purse ≡ dialog_purse (SaidSecond false) → g ≡ 1
    → ((after_add g n.purse).next < 256 ^ 8) × (nat_le (counted 1) (after_add g n.purse).held ≡ true)
purse_at n g e f = (
  subst (λ p. (after_add g p).next < 256 ^ 8) (sym e) (omega arith),
  ap (λ v. nat_le (counted 1) (after_add v n.purse).held) f ∙ ap (λ p. nat_le (counted 1) (after_add 1 p).held) e,
)

accepted_tie : (z : WorldSettings) → IsLawful z → (w : World) (k : ℕ) (y : Received) → IsTied z w → (F : IsFinalCome z w k y false)
    → (w.values.conns k).client_open ≡ true → (y.reply.status == success) ≡ true → IsAccepting z w k
    → Tied z w.values.client.op (accepted_shared w k) k true (w.values.conns k).server_open
    (sealed_on (spent (line_end w k F.coming.heard) 1 ForDialog)) (w.wires k).server_end
    (line_frame (line_end w k F.coming.heard) (own_message w k (line_end w k F.coming.heard)) 1 ∷ []) []
    (record { token = ForDialog; message = own_message w k (line_end w k F.coming.heard) } ∷ []) []
accepted_tie z law w k y i F co ok own =
    let c = w.values.client in
    let s = shared_of c w.keys w.logons in
    let t = accepted_shared w k in
    let d = w.values.conns k in
    let u = w.wires k in
    let n = u.client_end in
    let f = u.server_end in
    let T = F.tie in
    let C = F.coming in
    let x = C.heard in
    let m = line_end w k x in
    let due_is = due_of z w k y false F ok in
    let link = lined_now z c.op s t k (true && is_lined n.stage) d.server_open n m f (F.frame ∷ []) (y ∷ []) 1 T.link refl C.grants_it
    (ap (λ g. after_add g n.purse) C.credits) own.pending (seals_with z n false x (C.sound due_is))
    (λ o. accepted_common z s k n f F.frame x (C.ahead due_is o)) in
    let purse : n.purse ≡ dialog_purse (SaidSecond false) = T.purse refl (ap is_lined F.stage) ∙ ap dialog_purse F.stage in
    let pays = purse_at n x.header.credits purse C.credits in
    let mine = tree_message z law (accepted c k) k m own.who own.pending pays.0 pays.1 own.short in
    let more = sent_link z law c.op t k d.server_open m f [] [] [] [] ForDialog (own_message w k m) 1 link
    (λ e. number_is z (accepted c k) k m.purse.next) mine in record {
      link = more;
      bound_keys = λ o e. false_open e;
      talk = λ o off. absurd (let h : true ≡ false = off in cc);
      purse = λ o off. absurd (let h : true ≡ false = off in cc);
      logon = T.logon;
      salted = T.salted;
    }

-- ---- another line looks at nothing of the client's session

lined_not : (stage : Stage) → is_lined stage ≡ true → binds stage ≡ true → ⊥
lined_not Apart e f = let h : false ≡ true = f in cc
lined_not AskedTree e f = let h : false ≡ true = f in cc
lined_not (SaidNegotiate bound) e f = let h : false ≡ true = e in cc
lined_not (SaidFirst bound) e f = let h : false ≡ true = e in cc
lined_not (SaidSecond bound) e f = let h : false ≡ true = e in cc

relinked : (z : WorldSettings) (op : ℕ → Op) (s t : Shared) (k : ℕ) (co so : Bool) (n : ClientEnd) (f : ServerEnd) (up down : List (List ℕ))
    (xs : List Sent) (ys : List Received) → t.logons ≡ s.logons → Linked z op s k co so n f up down xs ys
    → Linked z op t k co so n f up down xs ys
relinked z op s t k co so n f up down xs ys same i = record {
  line = i.line;
  reached = i.reached;
  purse = i.purse;
  window = i.window;
  counted = i.counted;
  asked = λ o. subst (λ L. AllAsked z L k f up xs i.line.requests) (sym same) (i.asked o);
  awaited = i.awaited;
  answers = i.answers;
  session_fits = i.session_fits;
  sealable = i.sealable;
  keys = i.keys;
  encrypts = i.encrypts;
  greeted = i.greeted;
}

lined_tie : (z : WorldSettings) (op : ℕ → Op) (s t : Shared) (k : ℕ) (d : Conn) (u : Wires) → t.logons ≡ s.logons
    → (d.client_open ≡ true → is_lined u.client_end.stage ≡ true) → TieOf z op s k d u → TieOf z op t k d u
lined_tie z op s t k d u same lined i =
    let n = u.client_end in record {
      link = relinked z op s t k (d.client_open && is_lined n.stage) d.server_open n u.server_end u.up u.down d.up d.down same i.link;
      bound_keys = λ o e. absurd (lined_not n.stage (lined o) e);
      talk = λ o off. absurd (let h : true ≡ false = sym (lined o) ∙ off in cc);
      purse = i.purse;
      logon = i.logon;
      salted = i.salted;
    }

-- ---- the world behind it

goes_thrice : (P : ℕ → Conn → Wires → Type 0) (conns : ℕ → Conn) (wires : ℕ → Wires) (k : ℕ) (d : Conn) (g : Conn → Conn) (a : Wires)
    (h q : Wires → Wires) → P k (g d) (q (h a)) → ((j : ℕ) → (j == k) ≡ false → P j (conns j) (wires j)) → (j : ℕ)
    → P j (put (put conns k d) k (g (put conns k d k)) j)
    (put (put (put wires k a) k (h (put wires k a k))) k (q (put (put wires k a) k (h (put wires k a k)) k)) j)
goes_thrice P conns wires k d g a h q here there j =
    subst (λ v. P j (put (put conns k d) k (g v) j)
    (put (put (put wires k a) k (h (put wires k a k))) k (q (put (put wires k a) k (h (put wires k a k)) k)) j))
    (sym (put_same conns k d))
    (subst (λ v. P j (put (put conns k d) k (g d) j) (put (put (put wires k a) k (h (put wires k a k))) k (q v) j))
    (sym (put_same (put wires k a) k (h (put wires k a k))))
    (subst (λ v. P j (put (put conns k d) k (g d) j) (put (put (put wires k a) k (h v)) k (q (h v)) j)) (sym (put_same wires k a))
    (elim (j == k) as (λ b. j == k ≡ b → P j (if b then g d else (if b then d else conns j))
    (if b then q (h a) else (if b then h a else (if b then a else wires j)))) [
      | true ↦ λ e. subst (λ r. P r (g d) (q (h a))) (sym (eqb-true j k e)) here
      | false ↦ λ e. there j e
    ] refl)))

abbrev accepted_world : World → ℕ → HeardMessage → World
accepted_world v k x =
    let a = session_accepted v k x in
    with_values (line_sent a k ForDialog (dialog_message (accepted v.values.client k) k (a.wires k).client_end.purse.next AskedTree) 1)
    (dialog_sent (with_client v.values (accepted v.values.client k)) k AskedTree)

own_keys_now : (z : WorldSettings) (w : World) (k : ℕ)
    → w.logons.keys w.values.client.pending ≡ own_final (w.wires k).client_end false w.values.client.pending
    → ChosenAs z (w.wires k).client_end.chosen → w.values.client.pending < 2 ^ 64 → (rank : ℕ → ℕ)
    → HasOwnKeys z (own_final (w.wires k).client_end false w.values.client.pending) w.logons rank w.values.client.pending
own_keys_now z w k keys chosen low rank e = (keys, ap known chosen.cipher, low)

accepted_ties : (z : WorldSettings) (w : World) (k : ℕ) (x : HeardMessage) → IsTied z w → (w.values.conns k).client_open ≡ true
    → (w.wires k).up ≡ [] → (w.values.conns k).up ≡ [] → IsAccepting z w k
    → w.logons.keys w.values.client.pending ≡ own_final (w.wires k).client_end false w.values.client.pending
    → ChosenAs z (w.wires k).client_end.chosen
    → Tied z w.values.client.op (accepted_shared w k) k true (w.values.conns k).server_open
    (sealed_on (spent (line_end w k x) 1 ForDialog)) (w.wires k).server_end
    (line_frame (line_end w k x) (own_message w k (line_end w k x)) 1 ∷ []) []
    (record { token = ForDialog; message = own_message w k (line_end w k x) } ∷ []) []
    → IsTied z (accepted_world (behind_frame w k [] []) k x)
accepted_ties z w k x i co e1 e2 own keys chosen T =
    let c = w.values.client in
    let d = w.values.conns k in
    let u = w.wires k in
    let n = u.client_end in
    let e = accepted c k in
    let t = accepted_shared w k in
    let p = take_front d [] in
    let a : Wires = record u { down = [] } in
    let g = λ (r : Conn). send_up r ForDialog (dialog_message e k r.next_id AskedTree) 1 in
    let h = λ (r : Wires). (let m : Wires = record r { client_end = accepted_end r.client_end x c.pending } in m) in
    let q = λ (r : Wires). queued r (sealed_on (spent r.client_end 1 ForDialog))
    (line_frame r.client_end (dialog_message e k r.client_end.purse.next AskedTree) 1) in
    let frame = line_frame (line_end w k x) (own_message w k (line_end w k x)) 1 in
    let here : TieOf z c.op t k (g p) (q (h a)) =
    subst (λ o. Tied z c.op t k o d.server_open (q (h a)).client_end u.server_end (u.up ++ frame ∷ []) []
    (d.up ++ record { token = ForDialog; message = dialog_message e k d.next_id AskedTree } ∷ []) []) (sym co)
    (subst (λ r. Tied z c.op t k true d.server_open (q (h a)).client_end u.server_end (u.up ++ frame ∷ []) []
    (d.up ++ record { token = ForDialog; message = dialog_message e k r AskedTree } ∷ []) []) (i.nexts k co)
    (subst (λ r. Tied z c.op t k true d.server_open (q (h a)).client_end u.server_end (r ++ frame ∷ []) []
    (d.up ++ record { token = ForDialog; message = dialog_message e k n.purse.next AskedTree } ∷ []) []) (sym e1)
    (subst (λ r. Tied z c.op t k true d.server_open (q (h a)).client_end u.server_end ([] ++ frame ∷ []) []
    (r ++ record { token = ForDialog; message = dialog_message e k n.purse.next AskedTree } ∷ []) []) (sym e2) T))) in
    let base : Ties z e (own_final n false c.pending) w.logons (accepted_world (behind_frame w k [] []) k x).values.conns
    (accepted_world (behind_frame w k [] []) k x).wires = record {
      tied = goes_thrice (TieOf z c.op t) w.values.conns w.wires k p g a h q here
          (λ j r. lined_tie z c.op (shared_of c w.keys w.logons) t j (w.values.conns j) (w.wires j) refl
          (λ o. ap is_lined (i.stages j o) ∙ own.quiet j r o) (i.tied j));
      stages = goes_thrice (λ j r v. r.client_open ≡ true → v.client_end.stage ≡ e.stage j) w.values.conns w.wires k p g a h q
          (λ o. sym (put_same c.stage k AskedTree)) (λ j r o. i.stages j o ∙ sym (other_stage c.stage k j AskedTree r));
      nexts = goes_thrice (λ j r v. r.client_open ≡ true → v.client_end.purse.next ≡ r.next_id) w.values.conns w.wires k p g a h q
          (λ o. ap (λ r. r + 1) (i.nexts k co)) (λ j r. i.nexts j);
      own_keys = own_keys_now z w k keys chosen own.pending e.rank;
    } in
    subst (λ (m : ClientEnd). Ties z e (own_final m false c.pending) w.logons (accepted_world (behind_frame w k [] []) k x).values.conns
    (accepted_world (behind_frame w k [] []) k x).wires) (sym (end_is w k [] [])) base

pub accepts_kept : AcceptsAreKept
accepts_kept z w k y ys law i co h st ok own =
    let F = came z w k y ys false i co h st in
    let C = F.coming in
    let due_is = due_of z w k y false F ok in
    let lasting = C.lasting due_is in
    taken_final z w k y false F co ok
    (accepted_ties z w k C.heard i co F.up_is F.sent_is own lasting.0 lasting.1 (accepted_tie z law w k y i F co ok own))
