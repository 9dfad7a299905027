-- A Crash that keeps a dialog's request leaves a world tied.
use Rattle.std.proofs.Common.{◌≡◌, ℕ, ◌+◌, ◌≤◌, Bool, true, false, List, [], ◌∷◌, length, refl, sym}
use Rattle.std.proofs.Common.{ap, ◌∙◌, subst, arith, Option, None}
use Rattle.spec_exchange.specs.Table.{put}
use Rattle.spec_exchange.specs.Operations.{Op}
use Rattle.spec_exchange.specs.Client.{Stage}
use Rattle.spec_exchange.specs.Network.{Sent, Received, Crash, behind_front, server_off}
use Rattle.spec_wire.specs.credits.Ids.{counted, outside}
use Rattle.spec_wire.specs.credits.Window.{HeldIds}
use Rattle.spec_wire.specs.credits.Exchange.{Line, FrontIsHeld, NothingIsRefused}
use Rattle.spec_world.specs.Settings.{WorldSettings}
use Rattle.spec_world.specs.Messages.{HeardMessage}
use Rattle.spec_world.specs.Ends.{ClientEnd, ServerEnd, Logons}
use Rattle.spec_world.specs.Logon.{Progress}
use Rattle.spec_world.specs.Connection.{LastTaken}
use Rattle.spec_world.specs.World.{World, Wires, server_end_off, values_took, step_at, absorb_frame, restarted_wires}
use Rattle.spec_world.specs.Events.{Plain, bytes_happen}
use Rattle.law_ties.specs.events.Fronts.{MayServe}
use Rattle.law_ties.specs.events.Links.{Shared, AllAsked, Talks, Waits, Comes, Lost, Tied, TieOf, Ties, IsTied}
use Rattle.law_ties.proofs.events.Serving.{told_at}
use Rattle.law_ties.proofs.events.InStep.{next_low, front_held, has_frame_up}
use Rattle.law_ties.proofs.events.Keeping.{false_open, both_tables, server_tie}
use Rattle.law_ties.proofs.requests.Line.{split_by}
use Rattle.law_ties.proofs.requests.Crash.{crashed_world}
use Rattle.law_dialogs.specs.dialog_requests.Serving.{IsApart, IsTalk, DialogCrashesAreKept}
use Rattle.law_dialogs.proofs.dialog_requests.Sparing.{with_logons}
use Rattle.law_dialogs.proofs.dialog_requests.Step.{progress_by, logons_to, served}
use Rattle.law_dialogs.proofs.dialog_requests.Front.{shared_at}
use Rattle.law_dialogs.proofs.dialog_requests.Serve.{plain_front, apart_at, other_tie, own_spared}

-- what waited for the server is lost
lost_now : (z : WorldSettings) (s t : Shared) (k : ℕ) (so : Bool) (n : ClientEnd) (f g : ServerEnd) (up down : List (List ℕ))
    (xs : List Sent) (ys : List Received) (l : Line) (stage : Stage) (x : Sent) (rest : List Sent) → xs ≡ x ∷ rest
    → Talks z s k so n f up down xs ys l stage → Talks z t k false n g [] down [] ys l stage
lost_now z s t k so n f g up down xs ys l stage x rest e (Waits b v e1 e2 e3 e4 w) = Lost refl refl e3 e4 refl
lost_now z s t k so n f g up down xs ys l stage x rest e (Lost e1 e2 e3 e4 e5) = Lost refl refl e3 e4 refl
lost_now z s t k so n f g up down xs ys l stage x rest e (Comes a y e1 e2 e3 e4 c) =
    absurd (let q : [] ≡ x ∷ rest = sym e2 ∙ e in cc)

closed_now : (z : WorldSettings) (op : ℕ → Op) (s : Shared) (M : Logons) (k : ℕ) (co so : Bool) (n : ClientEnd) (f g : ServerEnd)
    (up down : List (List ℕ)) (xs : List Sent) (ys : List Received) (x : Sent) (rest : List Sent) → xs ≡ x ∷ rest
    → Tied z op s k co so n f up down xs ys → Tied z op (with_logons s M) k co false n g [] down [] ys
closed_now z op s M k co so n f g up down xs ys x rest e t =
    let i = t.link in record {
      link = record {
        line = i.line;
        reached = i.reached;
        purse = i.purse;
        window = λ o. false_open o;
        counted = λ o. false_open o;
        asked = λ o. false_open o;
        awaited = λ c o. false_open o;
        answers = i.answers;
        session_fits = i.session_fits;
        sealable = i.sealable;
        keys = λ c o. false_open o;
        encrypts = λ c o. false_open o;
        greeted = λ c o. false_open o;
      };
      bound_keys = t.bound_keys;
      talk = λ c b. lost_now z s (with_logons s M) k so n f g up down xs ys i.line n.stage x rest e (t.talk c b);
      purse = t.purse;
      logon = t.logon;
      salted = λ o. false_open o;
    }

crashed_ties : (z : WorldSettings) (w : World) (k : ℕ) (x : Sent) (xs : List Sent) (bs : List (List ℕ)) (g : ServerEnd) (h : HeardMessage)
    (p : Progress) → (w.values.conns k).up ≡ x ∷ xs → IsApart w h.header.session p → IsTied z w
    → Ties z w.values.client w.keys (logons_to z w k h p) (λ j. server_off (put w.values.conns k (behind_front (w.values.conns k) xs) j))
    (λ j. server_end_off (put w.wires k (record (w.wires k) { server_end = g; up = bs }) j))
crashed_ties z w k x xs bs g h p e apart i =
    let c = w.values.client in
    let M = logons_to z w k h p in
    let s = with_logons (shared_at w) M in
    let d = w.values.conns k in
    let u = w.wires k in
    let r = behind_front d xs in
    let v : Wires = record u { server_end = g; up = bs } in record {
      tied = both_tables (λ j r q. TieOf z c.op s j (server_off r) (server_end_off q)) w.values.conns w.wires k r v
          (closed_now z c.op (shared_at w) M k d.client_open d.server_open u.client_end u.server_end g u.up u.down
          d.up d.down x xs e (i.tied k))
          (λ j q. server_tie z c.op s j (w.values.conns j) (w.wires j) (other_tie z w k h p apart i j q));
      stages = both_tables (λ j r q. r.client_open ≡ true → q.client_end.stage ≡ c.stage j) w.values.conns w.wires k r v (i.stages k)
          (λ j q. i.stages j);
      nexts = both_tables (λ j r q. r.client_open ≡ true → q.client_end.purse.next ≡ r.next_id) w.values.conns w.wires k r v (i.nexts k)
          (λ j q. i.nexts j);
      own_keys = own_spared z w k h p apart i;
    }

absorbed_ties : NothingIsRefused → (z : WorldSettings) (w : World) (k : ℕ) (b : List ℕ) (bs : List (List ℕ)) (x : Sent) (xs : List Sent)
    → IsTied z w → (w.values.conns k).server_open ≡ true → (w.wires k).up ≡ b ∷ bs → (w.values.conns k).up ≡ x ∷ xs → IsTalk w k x
    → IsTied z (restarted_wires (absorb_frame z w k (b ∷ bs) (x ∷ xs)))
absorbed_ties held z w k b bs x xs i so e h talk =
    let f = (w.wires k).server_end in
    let t = i.tied k in
    let link = t.link in
    let l = link.line in
    let all : AllAsked z w.logons k f (b ∷ bs) (x ∷ xs) l.requests =
    subst (λ v. AllAsked z w.logons k f (b ∷ bs) v l.requests) h
    (subst (λ v. AllAsked z w.logons k f v (w.values.conns k).up l.requests) e (link.asked so)) in
    let p = split_by z w k b bs x xs l l.requests refl all in
    let q = p.bill in
    let a = p.asked in
    let hd = a.reads.heard in
    let none : outside l.window.held q.0 (counted q.1) ≡ None =
    subst (λ (rs : List (ℕ × ℕ)). FrontIsHeld rs l.window) p.is (front_held held l link.reached) in
    let low = next_low held l link.reached in
    let count : f.counter + length (q ∷ p.bills) ≤ l.purse.next = subst (λ rs. f.counter + length rs ≤ l.purse.next) p.is
    (link.counted so) in
    let may : MayServe f q = record {
      held = ap (λ (v : HeldIds). outside v.held q.0 (counted q.1)) (link.window so) ∙ none;
      nonce = omega (arith, count, low);
    } in
    let T = served z w k b x q a may (plain_front z w.logons k f b x q a talk.own talk.talks) in
    let S = step_at z w k b in
    let told = told_at z w k b x q a.reads may in
    let base = crashed_ties z w k x xs bs S.server_end hd (progress_by w x) h (apart_at z w k b x q a talk) i in
    subst (λ (o : Option LastTaken). Ties z (values_took w.values k x.token xs o).client w.keys S.logons
    (λ j. server_off ((values_took w.values k x.token xs o).conns j))
    (λ j. server_end_off (put w.wires k (record (w.wires k) { server_end = S.server_end; up = bs }) j))) (sym told.taken)
    (subst (λ L. Ties z w.values.client w.keys L (λ j. server_off (put w.values.conns k (behind_front (w.values.conns k) xs) j))
    (λ j. server_end_off (put w.wires k (record (w.wires k) { server_end = S.server_end; up = bs }) j))) (sym T.logons) base)

crash_by : NothingIsRefused → (z : WorldSettings) (w : World) (k : ℕ) (x : Sent) (xs : List Sent) → IsTied z w
    → (w.values.conns k).server_open ≡ true → (w.values.conns k).up ≡ x ∷ xs → IsTalk w k x → (bs : List (List ℕ)) → (w.wires k).up ≡ bs
    → IsTied z (bytes_happen z w (Plain (Crash k true)))
crash_by held z w k x xs i so h talk [] e = absurd (has_frame_up z w k x xs i so e h)
crash_by held z w k x xs i so h talk (b ∷ bs) e =
    subst (IsTied z) (sym (crashed_world z w k b bs x xs so e h)) (absorbed_ties held z w k b bs x xs i so e h talk)

pub dialog_crashes : NothingIsRefused → DialogCrashesAreKept
dialog_crashes held z w k x xs i so h talk = crash_by held z w k x xs i so h talk (w.wires k).up refl
