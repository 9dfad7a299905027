-- A final response that comes: its lists, and what the client makes of it.
use Rattle.std.proofs.Common.{◌≡◌, ℕ, ◌==◌, Bool, true, false, if◌then◌else◌, List, [], ◌∷◌, refl, sym, ap, ◌∙◌, subst}
use Rattle.std.proofs.Common.{Option, Some, None}
use Rattle.spec_exchange.specs.Status.{success}
use Rattle.spec_exchange.specs.Operations.{Refusal}
use Rattle.spec_exchange.specs.Client.{Stage, SaidSecond}
use Rattle.spec_exchange.specs.Dialogs.{Binds, Accepts, Refuses, dialog_step}
use Rattle.spec_exchange.specs.Network.{Sent, Received, Take}
use Rattle.spec_wire.specs.credits.Exchange.{Line}
use Rattle.spec_world.specs.Settings.{WorldSettings}
use Rattle.spec_world.specs.Messages.{HeardMessage}
use Rattle.spec_world.specs.Ends.{ClientEnd, ServerEnd}
use Rattle.spec_world.specs.Dialog.{dialog_response, status_due, dialog_fault}
use Rattle.spec_world.specs.World.{World, dialog_passed, dialog_hears, hears as hears_at, behind_frame, take_frame}
use Rattle.spec_world.specs.Events.{Plain, bytes_happen}
use Rattle.law_ties.specs.events.Links.{Shared, shared_of, Coming, Talks, Waits, Comes, Lost, is_lined, Tied, IsTied}
use Rattle.law_ties.proofs.events.Taking.{end_is}
use Rattle.law_ties.proofs.events.Took.{taken_world, later_tied, passed_world}

-- ---- its lists

record ListsAre (up down : List (List ℕ)) (xs : List Sent) (ys : List Received) (y : Received) : Type 0 where
  frame : List ℕ
  up_is : up ≡ []
  sent_is : xs ≡ []
  down_is : down ≡ frame ∷ []
  told_is : ys ≡ y ∷ []

front_same : (v y : Received) (ys : List Received) → v ∷ [] ≡ y ∷ ys → v ≡ y
front_same v y ys e = cc

lists_of : (z : WorldSettings) (s : Shared) (k : ℕ) (so : Bool) (n : ClientEnd) (f : ServerEnd) (up down : List (List ℕ)) (xs : List Sent)
    (rs : List Received) (stage : Stage) (y : Received) (ys : List Received) (l : Line) → rs ≡ y ∷ ys
    → Talks z s k so n f up down xs rs l stage → ListsAre up down xs rs y
lists_of z s k so n f up down xs rs stage y ys l h (Waits b x e1 e2 e3 e4 w) = absurd (let q : [] ≡ y ∷ ys = sym e4 ∙ h in cc)
lists_of z s k so n f up down xs rs stage y ys l h (Lost e1 e2 e3 e4 e5) = absurd (let q : [] ≡ y ∷ ys = sym e4 ∙ h in cc)
lists_of z s k so n f up down xs rs stage y ys l h (Comes a v e1 e2 e3 e4 c) =
    record { frame = a; up_is = e1; sent_is = e2; down_is = e3; told_is = e4 ∙ ap (λ q. q ∷ []) (front_same v y ys (sym e4 ∙ h)) }

frame_same : (a b : List ℕ) → a ∷ [] ≡ b ∷ [] → b ≡ a
frame_same a b e = sym (let h : a ∷ [] ≡ b ∷ [] = e in cc)

coming_of : (z : WorldSettings) (s : Shared) (k : ℕ) (so : Bool) (n : ClientEnd) (f : ServerEnd) (a : List ℕ) (y : Received) (l : Line)
    (stage : Stage) → Talks z s k so n f [] (a ∷ []) [] (y ∷ []) l stage → Coming z s k so n f a y l.grants stage
coming_of z s k so n f a y l stage (Waits b x e1 e2 e3 e4 w) = absurd (let q : a ∷ [] ≡ [] = e3 in cc)
coming_of z s k so n f a y l stage (Lost e1 e2 e3 e4 e5) = absurd (let q : a ∷ [] ≡ [] = e3 in cc)
coming_of z s k so n f a y l stage (Comes b v e1 e2 e3 e4 c) =
    subst (λ r. Coming z s k so n f a r l.grants stage) (sym (front_same y v [] e4))
    (subst (λ m. Coming z s k so n f m v l.grants stage) (frame_same a b e3) c)

-- ---- what comes, with its ends

abbrev pub ComesTo : WorldSettings → World → ℕ → List ℕ → Received → Type 0
ComesTo z w k a y =
    Tied z w.values.client.op (shared_of w.values.client w.keys w.logons) k true (w.values.conns k).server_open (w.wires k).client_end
    (w.wires k).server_end [] (a ∷ []) [] (y ∷ [])

pub record IsFinalCome (z : WorldSettings) (w : World) (k : ℕ) (y : Received) (bound : Bool) : Type 0 where
  pub frame : List ℕ
  pub up_is : (w.wires k).up ≡ []
  pub sent_is : (w.values.conns k).up ≡ []
  pub down_is : (w.wires k).down ≡ frame ∷ []
  pub told_is : (w.values.conns k).down ≡ y ∷ []
  pub tie : ComesTo z w k frame y
  pub coming :
      Coming z (shared_of w.values.client w.keys w.logons) k (w.values.conns k).server_open (w.wires k).client_end (w.wires k).server_end
      frame y tie.link.line.grants (SaidSecond bound)
  pub stage : (w.wires k).client_end.stage ≡ SaidSecond bound

pub came : (z : WorldSettings) (w : World) (k : ℕ) (y : Received) (ys : List Received) (bound : Bool) → IsTied z w
    → (w.values.conns k).client_open ≡ true → (w.values.conns k).down ≡ y ∷ ys → w.values.client.stage k ≡ SaidSecond bound
    → IsFinalCome z w k y bound
came z w k y ys bound i co h st =
    let c = w.values.client in
    let s = shared_of c w.keys w.logons in
    let d = w.values.conns k in
    let u = w.wires k in
    let n = u.client_end in
    let t = i.tied k in
    let at : n.stage ≡ SaidSecond bound = i.stages k co ∙ st in
    let off : is_lined n.stage ≡ false = ap is_lined at in
    let lists = lists_of z s k d.server_open n u.server_end u.up u.down d.up d.down n.stage y ys t.link.line h (t.talk co off) in
    let a = lists.frame in
    let T : ComesTo z w k a y =
    subst (λ o. Tied z c.op s k o d.server_open n u.server_end [] (a ∷ []) [] (y ∷ [])) co
    (subst (λ v. Tied z c.op s k d.client_open d.server_open n u.server_end v (a ∷ []) [] (y ∷ [])) lists.up_is
    (subst (λ v. Tied z c.op s k d.client_open d.server_open n u.server_end u.up v [] (y ∷ [])) lists.down_is
    (subst (λ v. Tied z c.op s k d.client_open d.server_open n u.server_end u.up u.down v (y ∷ [])) lists.sent_is
    (subst (λ v. Tied z c.op s k d.client_open d.server_open n u.server_end u.up u.down d.up v) lists.told_is t)))) in record {
      frame = a;
      up_is = lists.up_is;
      sent_is = lists.sent_is;
      down_is = lists.down_is;
      told_is = lists.told_is;
      tie = T;
      coming = subst (λ q. Coming z s k d.server_open n u.server_end a y T.link.line.grants q) at
          (coming_of z s k d.server_open n u.server_end a y T.link.line n.stage (T.talk refl off));
      stage = at;
    }

-- ---- what the client makes of it

fault_if : (b : Bool) (o : Option Refusal) → b ≡ true → o ≡ None → (if b then o else None) ≡ None
fault_if true o e f = f
fault_if false o e f = refl

passed_due : (z : WorldSettings) (v : World) (k : ℕ) (stage : Stage) (x : HeardMessage) (o : Option HeardMessage) → o ≡ Some x
    → (x.header.status == status_due stage) ≡ true → dialog_fault z.client (v.wires k).client_end stage x ≡ None
    → dialog_hears z v k stage o ≡ passed_world z v k stage x (dialog_step stage x.header.status)
passed_due z v k stage x o opens ok sound =
    ap (dialog_hears z v k stage) opens
    ∙ ap (dialog_passed z v k stage x)
    (fault_if (x.header.status == status_due stage) (dialog_fault z.client (v.wires k).client_end stage x) ok sound)

takes_final : (z : WorldSettings) (w : World) (k : ℕ) (a : List ℕ) (y : Received) (bound : Bool) (x : HeardMessage)
    → (w.wires k).client_end.stage ≡ SaidSecond bound → dialog_response (w.wires k).client_end (SaidSecond bound) a ≡ Some x
    → (x.header.status == success) ≡ true → dialog_fault z.client (w.wires k).client_end (SaidSecond bound) x ≡ None
    → take_frame z w k (a ∷ []) (y ∷ []) ≡ passed_world z (behind_frame w k [] []) k (SaidSecond bound) x (if bound then Binds else Accepts)
takes_final z w k a y bound x at opens ok sound =
    let v = behind_frame w k [] [] in
    let stage = SaidSecond bound in
    let is = end_is w k [] [] in
    ap (hears_at z v k a y.place) at
    ∙ (passed_due z v k stage x (dialog_response (v.wires k).client_end stage a) (ap (λ m. dialog_response m stage a) is ∙ opens) ok
    (ap (λ m. dialog_fault z.client m stage x) is ∙ sound)
    ∙ ap (λ b. passed_world z v k stage x (if b then (if bound then Binds else Accepts) else Refuses x.header.status)) ok)

-- a Take of it leaves what the step leaves
pub taken_final : (z : WorldSettings) (w : World) (k : ℕ) (y : Received) (bound : Bool) (F : IsFinalCome z w k y bound)
    → (w.values.conns k).client_open ≡ true → (y.reply.status == success) ≡ true
    → IsTied z (passed_world z (behind_frame w k [] []) k (SaidSecond bound) F.coming.heard (if bound then Binds else Accepts))
    → IsTied z (bytes_happen z w (Plain (Take k)))
taken_final z w k y bound F co ok i =
    let a = F.frame in
    let C = F.coming in
    let x = C.heard in
    let told = C.same in
    let due_is : (x.header.status == success) ≡ true = ap (λ v. v == success) told.status ∙ ok in
    subst (IsTied z) (sym (taken_world z w k a [] y [] co F.down_is F.told_is))
    (later_tied z (take_frame z w k (a ∷ []) (y ∷ [])) 1
    (subst (IsTied z) (sym (takes_final z w k a y bound x F.stage C.opens due_is (C.sound due_is))) i))

pub due_of : (z : WorldSettings) (w : World) (k : ℕ) (y : Received) (bound : Bool) (F : IsFinalCome z w k y bound)
    → (y.reply.status == success) ≡ true → (F.coming.heard.header.status == success) ≡ true
due_of z w k y bound F ok = let told = F.coming.same in ap (λ v. v == success) told.status ∙ ok
