-- The Take of a response that is due, behind which a SESSION_SETUP goes up, leaves a world tied.
use Rattle.std.proofs.Common.{◌≡◌, ℕ, ◌+◌, ◌<◌, ◌^◌, ◌==◌, Bool, true, false, ◌&&◌, if◌then◌else◌, List, [], ◌∷◌, ◌++◌, length, refl}
use Rattle.std.proofs.Common.{sym, ap, ◌∙◌, subst, eqb-true, Option, Some, None}
use Rattle.spec_exchange.specs.Table.{put}
use Rattle.spec_exchange.specs.Status.{success, more_processing_required}
use Rattle.spec_exchange.specs.Operations.{Op, Refusal}
use Rattle.spec_exchange.specs.Client.{Client, Stage, Apart, SaidNegotiate, SaidFirst, SaidSecond, AskedTree}
use Rattle.spec_exchange.specs.Dialogs.{GoesOn, Refuses, dialog_step, dialog_message, went_on, told_session}
use Rattle.spec_exchange.specs.Network.{Conn, Sent, Received, ForDialog, Take, with_client, take_front, send_up, dialog_sent}
use Rattle.spec_wire.specs.credits.Exchange.{Line}
use Rattle.spec_commands.specs.ReplyOf.{reply_of}
use Rattle.spec_world.specs.Settings.{WorldSettings}
use Rattle.spec_world.specs.Messages.{HeardMessage}
use Rattle.spec_world.specs.Ends.{ClientEnd, ServerEnd}
use Rattle.spec_world.specs.Sending.{setup_frame, spent}
use Rattle.spec_world.specs.Dialog.{noted_heard, dialog_response, status_due, dialog_fault}
use Rattle.spec_world.specs.World.{World, Wires, with_values, with_client_end, queued, noted_sent, previous_of, setup_sent, dialog_reply}
use Rattle.spec_world.specs.World.{dialog_passed, dialog_hears, hears as hears_at, behind_frame, take_frame}
use Rattle.spec_world.specs.Events.{Plain, bytes_happen}
use Rattle.spec_crypto.specs.tokens.Tokens.{first_token}
use Rattle.law_ties.specs.wire_facts.Lawful.{HasLogon, IsLawful}
use Rattle.law_ties.specs.events.Links.{Shared, shared_of, Linked, Coming, Talks, Waits, Comes, Lost, is_lined}
use Rattle.law_ties.specs.events.Links.{dialog_purse, Tied, TieOf}
use Rattle.law_ties.specs.events.Links.{IsTied}
use Rattle.law_ties.proofs.events.Taking.{put_same, end_is}
use Rattle.law_ties.proofs.events.InStep.{has_frame_down}
use Rattle.law_ties.proofs.events.Keeping.{other_stage}
use Rattle.law_ties.proofs.events.Took.{taken_world, later_tied, passed_world}
use Rattle.law_ties.specs.channel_numbers.Counted.{binds}
use Rattle.law_dialogs.specs.dialog_responses.Talking.{goes_on, IsGoing, GoingOnIsKept}
use Rattle.law_dialogs.proofs.dialog_responses.Ends.{next_end}
use Rattle.law_dialogs.proofs.dialog_responses.Going.{IsClient, with_pending, first_tie, own_token, second_tie}

-- ---- tables that were changed thrice

goes_thrice : (P : ℕ → Conn → Wires → Type 0) (conns : ℕ → Conn) (wires : ℕ → Wires) (k : ℕ) (d : Conn) (g : Conn → Conn) (a : Wires)
    (h q : Wires → Wires) → P k (g d) (q (h a)) → ((j : ℕ) → (j == k) ≡ false → P j (conns j) (wires j)) → (j : ℕ)
    → P j (put (put conns k d) k (g (put conns k d k)) j)
    (put (put (put wires k a) k (h (put wires k a k))) k (q (put (put wires k a) k (h (put wires k a k)) k)) j)
goes_thrice P conns wires k d g a h q here there j =
    subst (λ v. P j (put (put conns k d) k (g v) j)
    (put (put (put wires k a) k (h (put wires k a k))) k (q (put (put wires k a) k (h (put wires k a k)) k)) j))
    (sym (put_same conns k d))
    (subst (λ v. P j (put (put conns k d) k (g d) j) (put (put (put wires k a) k (h (put wires k a k))) k (q v) j))
    (sym (put_same (put wires k a) k (h (put wires k a k))))
    (subst (λ v. P j (put (put conns k d) k (g d) j) (put (put (put wires k a) k (h v)) k (q (h v)) j)) (sym (put_same wires k a))
    (elim (j == k) as (λ b. j == k ≡ b → P j (if b then g d else (if b then d else conns j))
    (if b then q (h a) else (if b then h a else (if b then a else wires j)))) [
      | true ↦ λ e. subst (λ r. P r (g d) (q (h a))) (sym (eqb-true j k e)) here
      | false ↦ λ e. there j e
    ] refl)))

-- ---- a line looks at no session in the making

lined_not : (stage : Stage) → is_lined stage ≡ true → binds stage ≡ true → ⊥
lined_not Apart e f = let h : false ≡ true = f in cc
lined_not AskedTree e f = let h : false ≡ true = f in cc
lined_not (SaidNegotiate bound) e f = let h : false ≡ true = e in cc
lined_not (SaidFirst bound) e f = let h : false ≡ true = e in cc
lined_not (SaidSecond bound) e f = let h : false ≡ true = e in cc

relinked : (z : WorldSettings) (op : ℕ → Op) (s : Shared) (k : ℕ) (co so : Bool) (n : ClientEnd) (f : ServerEnd) (up down : List (List ℕ))
    (xs : List Sent) (ys : List Received) (pending : ℕ) → Linked z op s k co so n f up down xs ys
    → Linked z op (with_pending s pending) k co so n f up down xs ys
relinked z op s k co so n f up down xs ys pending i = record {
  line = i.line;
  reached = i.reached;
  purse = i.purse;
  window = i.window;
  counted = i.counted;
  asked = i.asked;
  awaited = i.awaited;
  answers = i.answers;
  session_fits = i.session_fits;
  sealable = i.sealable;
  keys = i.keys;
  encrypts = i.encrypts;
  greeted = i.greeted;
}

lined_tie : (z : WorldSettings) (op : ℕ → Op) (s : Shared) (k : ℕ) (d : Conn) (u : Wires) (pending : ℕ)
    → (d.client_open ≡ true → is_lined u.client_end.stage ≡ true) → TieOf z op s k d u → TieOf z op (with_pending s pending) k d u
lined_tie z op s k d u pending lined t =
    let n = u.client_end in record {
      link = relinked z op s k (d.client_open && is_lined n.stage) d.server_open n u.server_end u.up u.down d.up d.down pending t.link;
      bound_keys = λ o e. absurd (lined_not n.stage (lined o) e);
      talk = λ o off. absurd (let h : true ≡ false = sym (lined o) ∙ off in cc);
      purse = t.purse;
      logon = t.logon;
      salted = t.salted;
    }

-- ---- what comes

record ListsAre (up down : List (List ℕ)) (xs : List Sent) (ys : List Received) (y : Received) : Type 0 where
  frame : List ℕ
  up_is : up ≡ []
  sent_is : xs ≡ []
  down_is : down ≡ frame ∷ []
  told_is : ys ≡ y ∷ []

front_same : (v y : Received) (ys : List Received) → v ∷ [] ≡ y ∷ ys → v ≡ y
front_same v y ys e = cc

lists_of : (z : WorldSettings) (s : Shared) (k : ℕ) (so : Bool) (n : ClientEnd) (f : ServerEnd) (up down : List (List ℕ)) (xs : List Sent)
    (rs : List Received) (stage : Stage) (y : Received) (ys : List Received) (l : Line) → rs ≡ y ∷ ys
    → Talks z s k so n f up down xs rs l stage
    → ListsAre up down xs rs y
lists_of z s k so n f up down xs rs stage y ys l h (Waits b x e1 e2 e3 e4 w) = absurd (let q : [] ≡ y ∷ ys = sym e4 ∙ h in cc)
lists_of z s k so n f up down xs rs stage y ys l h (Lost e1 e2 e3 e4 e5) = absurd (let q : [] ≡ y ∷ ys = sym e4 ∙ h in cc)
lists_of z s k so n f up down xs rs stage y ys l h (Comes a v e1 e2 e3 e4 c) =
    record { frame = a; up_is = e1; sent_is = e2; down_is = e3; told_is = e4 ∙ ap (λ q. q ∷ []) (front_same v y ys (sym e4 ∙ h)) }

frame_same : (a b : List ℕ) → a ∷ [] ≡ b ∷ [] → b ≡ a
frame_same a b e = sym (let h : a ∷ [] ≡ b ∷ [] = e in cc)

coming_of : (z : WorldSettings) (s : Shared) (k : ℕ) (so : Bool) (n : ClientEnd) (f : ServerEnd) (a : List ℕ) (y : Received) (l : Line)
    (stage : Stage) → Talks z s k so n f [] (a ∷ []) [] (y ∷ []) l stage → Coming z s k so n f a y l.grants stage
coming_of z s k so n f a y l stage (Waits b x e1 e2 e3 e4 w) = absurd (let q : a ∷ [] ≡ [] = e3 in cc)
coming_of z s k so n f a y l stage (Lost e1 e2 e3 e4 e5) = absurd (let q : a ∷ [] ≡ [] = e3 in cc)
coming_of z s k so n f a y l stage (Comes b v e1 e2 e3 e4 c) =
    subst (λ r. Coming z s k so n f a r l.grants stage) (sym (front_same y v [] e4))
    (subst (λ m. Coming z s k so n f m v l.grants stage) (frame_same a b e3) c)

-- ---- the world behind it

abbrev going_world : World → ℕ → Stage → HeardMessage → Stage → Bool → List ℕ → World
going_world v k stage x next bound token =
    let c = went_on v.values.client k next (dialog_reply v stage x) in
    with_values (setup_sent (with_client_end (with_values v (with_client v.values c)) k
    (noted_heard (v.wires k).client_end stage x)) k next bound token)
    (dialog_sent (with_client v.values c) k next)

fault_if : (b : Bool) (o : Option Refusal) → b ≡ true → o ≡ None → (if b then o else None) ≡ None
fault_if true o e f = f
fault_if false o e f = refl

passed_due : (z : WorldSettings) (v : World) (k : ℕ) (stage : Stage) (x : HeardMessage) (o : Option HeardMessage) → o ≡ Some x
    → (x.header.status == status_due stage) ≡ true → dialog_fault z.client (v.wires k).client_end stage x ≡ None
    → dialog_hears z v k stage o ≡ passed_world z v k stage x (dialog_step stage x.header.status)
passed_due z v k stage x o opens ok sound =
    ap (dialog_hears z v k stage) opens
    ∙ ap (dialog_passed z v k stage x)
    (fault_if (x.header.status == status_due stage) (dialog_fault z.client (v.wires k).client_end stage x) ok sound)

-- a Take of what came, by its stage
takes_first : (z : WorldSettings) (w : World) (k : ℕ) (a : List ℕ) (y : Received) (bound : Bool) (x : HeardMessage)
    → (w.wires k).client_end.stage ≡ SaidNegotiate bound → dialog_response (w.wires k).client_end (SaidNegotiate bound) a ≡ Some x
    → (x.header.status == status_due (SaidNegotiate bound)) ≡ true
    → dialog_fault z.client (w.wires k).client_end (SaidNegotiate bound) x ≡ None
    → take_frame z w k (a ∷ []) (y ∷ []) ≡ going_world (behind_frame w k [] []) k (SaidNegotiate bound) x
    (SaidFirst bound) bound first_token
takes_first z w k a y bound x at opens ok sound =
    let v = behind_frame w k [] [] in
    let stage = SaidNegotiate bound in
    let is = end_is w k [] [] in
    ap (hears_at z v k a y.place) at
    ∙ (passed_due z v k stage x (dialog_response (v.wires k).client_end stage a) (ap (λ m. dialog_response m stage a) is ∙ opens) ok
    (ap (λ m. dialog_fault z.client m stage x) is ∙ sound)
    ∙ ap (λ b. passed_world z v k stage x (if b then GoesOn (SaidFirst bound) else Refuses x.header.status)) ok)

takes_second : (z : WorldSettings) (w : World) (k : ℕ) (a : List ℕ) (y : Received) (bound : Bool) (x : HeardMessage)
    → (w.wires k).client_end.stage ≡ SaidFirst bound → dialog_response (w.wires k).client_end (SaidFirst bound) a ≡ Some x
    → (x.header.status == status_due (SaidFirst bound)) ≡ true → dialog_fault z.client (w.wires k).client_end (SaidFirst bound) x ≡ None
    → take_frame z w k (a ∷ []) (y ∷ [])
    ≡ going_world (behind_frame w k [] []) k (SaidFirst bound) x (SaidSecond bound) bound (own_token z (w.wires k).client_end x)
takes_second z w k a y bound x at opens ok sound =
    let v = behind_frame w k [] [] in
    let stage = SaidFirst bound in
    let is = end_is w k [] [] in
    ap (hears_at z v k a y.place) at
    ∙ (passed_due z v k stage x (dialog_response (v.wires k).client_end stage a) (ap (λ m. dialog_response m stage a) is ∙ opens) ok
    (ap (λ m. dialog_fault z.client m stage x) is ∙ sound)
    ∙ (ap (λ b. passed_world z v k stage x (if b then GoesOn (SaidSecond bound) else Refuses x.header.status)) ok
    ∙ ap (λ n. going_world v k stage x (SaidSecond bound) bound (own_token z n x)) is))

-- ---- its ends

-- what the client is behind it
abbrev went_client : World → ℕ → Stage → HeardMessage → Stage → Client
went_client w k stage x next = went_on w.values.client k next (dialog_reply w stage x)

is_client : (z : WorldSettings) (w : World) (k : ℕ) (stage next : Stage) (x : HeardMessage) (y : Received) → IsGoing z w k y
    → x.header.session ≡ y.reply.session_id → IsClient z (went_client w k stage x next)
unfolding reply_of
is_client z w k stage next x y g same = record {
  who = g.who;
  session = g.session;
  accepted = g.accepted;
  pending = by next;
}
  where
    by : (next : Stage) → told_session w.values.client next (dialog_reply w stage x) < 256 ^ 8
    by Apart = g.pending
    by (SaidNegotiate bound) = g.pending
    by (SaidFirst bound) = g.pending
    by (SaidSecond true) = g.pending
    by (SaidSecond false) = subst (λ n. n < 256 ^ 8) (sym same) g.told
    by AskedTree = g.pending

-- the world, where the connection's own ends are tied and every other one is
gone_ties : (z : WorldSettings) (w : World) (k : ℕ) (stage : Stage) (x : HeardMessage) (next : Stage) (bound : Bool)
    (token : List ℕ) → IsTied z w
    → (w.values.conns k).client_open ≡ true → (w.wires k).up ≡ [] → (w.values.conns k).up ≡ []
    → Tied z w.values.client.op (with_pending (shared_of w.values.client w.keys w.logons) (went_client w k stage x next).pending) k true
    (w.values.conns k).server_open
    (next_end (w.wires k).client_end stage x next
    (setup_frame (noted_heard (w.wires k).client_end stage x) bound (previous_of (went_client w k stage x next) bound) token
    (dialog_message (went_client w k stage x next) k (noted_heard (w.wires k).client_end stage x).purse.next next)))
    (w.wires k).server_end
    (setup_frame (noted_heard (w.wires k).client_end stage x) bound (previous_of (went_client w k stage x next) bound) token
    (dialog_message (went_client w k stage x next) k (noted_heard (w.wires k).client_end stage x).purse.next next) ∷ []) []
    (record {
      token = ForDialog;
      message = dialog_message (went_client w k stage x next) k (noted_heard (w.wires k).client_end stage x).purse.next next;
    } ∷ []) []
    → ((j : ℕ) → (j == k) ≡ false
    → TieOf z w.values.client.op (with_pending (shared_of w.values.client w.keys w.logons) (went_client w k stage x next).pending) j
    (w.values.conns j) (w.wires j))
    → IsTied z (going_world (behind_frame w k [] []) k stage x next bound token)
gone_ties z w k stage x next bound token i co e1 e2 T others =
    let c = w.values.client in
    let d = w.values.conns k in
    let u = w.wires k in
    let n = u.client_end in
    let e = went_client w k stage x next in
    let s = with_pending (shared_of c w.keys w.logons) e.pending in
    let p = take_front d [] in
    let a : Wires = record u { down = [] } in
    let g = λ (r : Conn). send_up r ForDialog (dialog_message e k r.next_id next) 1 in
    let h = λ (r : Wires). (let m : Wires = record r { client_end = noted_heard r.client_end stage x } in m) in
    let frame = λ (m : ClientEnd). setup_frame m bound (previous_of e bound) token (dialog_message e k m.purse.next next) in
    let q = λ (r : Wires). queued r (noted_sent (spent r.client_end 1 ForDialog) next (frame r.client_end)) (frame r.client_end) in
    let here : TieOf z c.op s k (g p) (q (h a)) =
    subst (λ o. Tied z c.op s k o d.server_open (q (h a)).client_end u.server_end (u.up ++ frame (h a).client_end ∷ []) []
    (d.up ++ record { token = ForDialog; message = dialog_message e k d.next_id next } ∷ []) []) (sym co)
    (subst (λ r. Tied z c.op s k true d.server_open (q (h a)).client_end u.server_end (u.up ++ frame (h a).client_end ∷ []) []
    (d.up ++ record { token = ForDialog; message = dialog_message e k r next } ∷ []) []) (i.nexts k co)
    (subst (λ r. Tied z c.op s k true d.server_open (q (h a)).client_end u.server_end (r ++ frame (h a).client_end ∷ []) []
    (d.up ++ record { token = ForDialog; message = dialog_message e k n.purse.next next } ∷ []) []) (sym e1)
    (subst (λ r. Tied z c.op s k true d.server_open (q (h a)).client_end u.server_end ([] ++ frame (h a).client_end ∷ []) []
    (r ++ record { token = ForDialog; message = dialog_message e k n.purse.next next } ∷ []) []) (sym e2) T))) in record {
      tied = goes_thrice (TieOf z c.op s) w.values.conns w.wires k p g a h q here others;
      stages = goes_thrice (λ j r v. r.client_open ≡ true → v.client_end.stage ≡ e.stage j) w.values.conns w.wires k p g a h q
          (λ o. sym (put_same c.stage k next)) (λ j r o. i.stages j o ∙ sym (other_stage c.stage k j next r));
      nexts = goes_thrice (λ j r v. r.client_open ≡ true → v.client_end.purse.next ≡ r.next_id) w.values.conns w.wires k p g a h q
          (λ o. ap (λ r. r + 1) (i.nexts k co)) (λ j r. i.nexts j);
      own_keys = i.own_keys;
    }

-- ---- a Take, by the stage

abbrev ComesTo : WorldSettings → World → ℕ → List ℕ → Received → Type 0
ComesTo z w k a y =
    Tied z w.values.client.op (shared_of w.values.client w.keys w.logons) k true (w.values.conns k).server_open (w.wires k).client_end
    (w.wires k).server_end [] (a ∷ []) [] (y ∷ [])

logon_of_tie : (n : ClientEnd) → (length n.challenge ≡ 8) × (length n.base ≡ 16) → HasLogon n
logon_of_tie n t = record { challenge = t.0; base = t.1 }

keys_of_bound : (z : WorldSettings) (w : World) (k : ℕ) (y : Received) → IsTied z w → IsGoing z w k y
    → binds (w.values.client.stage k) ≡ true
    → w.logons.keys w.values.client.session ≡ w.keys
keys_of_bound z w k y i g e =
    let session = g.bound_session e in
    let own = i.own_keys session.1 in
    ap w.logons.keys session.0 ∙ own.0

by_stage : (z : WorldSettings) → IsLawful z → (w : World) (k : ℕ) (a : List ℕ) (y : Received) (stage : Stage) → IsTied z w
    → (w.values.conns k).client_open ≡ true → (w.wires k).client_end.stage ≡ stage → goes_on stage ≡ true
    → (y.reply.status == status_due stage) ≡ true → IsGoing z w k y → (w.wires k).up ≡ [] → (w.values.conns k).up ≡ []
    → (T : ComesTo z w k a y)
    → Coming z (shared_of w.values.client w.keys w.logons) k (w.values.conns k).server_open (w.wires k).client_end
    (w.wires k).server_end a y
    T.link.line.grants stage
    → (w.wires k).client_end.purse ≡ dialog_purse stage → IsTied z (take_frame z w k (a ∷ []) (y ∷ []))
unfolding reply_of
by_stage z law w k a y Apart i co at goes ok g e1 e2 T C purse = absurd (let h : false ≡ true = goes in cc)
by_stage z law w k a y (SaidSecond bound) i co at goes ok g e1 e2 T C purse = absurd (let h : false ≡ true = goes in cc)
by_stage z law w k a y AskedTree i co at goes ok g e1 e2 T C purse = absurd (let h : false ≡ true = goes in cc)
by_stage z law w k a y (SaidNegotiate bound) i co at goes ok g e1 e2 T C purse =
    let c = w.values.client in
    let s = shared_of c w.keys w.logons in
    let u = w.wires k in
    let n = u.client_end in
    let x = C.heard in
    let told = C.same in
    let due_is : (x.header.status == status_due (SaidNegotiate bound)) ≡ true = ap (λ v. v == success) told.status ∙ ok in
    let next = SaidFirst bound in
    let e = went_client w k (SaidNegotiate bound) x next in
    let stage_is : c.stage k ≡ SaidNegotiate bound = sym (i.stages k co) ∙ at in
    let keys : bound ≡ true → n.keys ≡ w.keys = λ b. T.bound_keys refl (ap binds at ∙ b) in
    let own : bound ≡ true → w.logons.keys c.session ≡ n.keys = λ b. keys_of_bound z w k y i g (ap binds stage_is ∙ b) ∙ sym (keys b) in
    subst (IsTied z) (sym (takes_first z w k a y bound x at C.opens due_is (C.sound due_is)))
    (gone_ties z w k (SaidNegotiate bound) x next bound first_token i co e1 e2
    (first_tie z law c.op s k (w.values.conns k).server_open n u.server_end a y bound e T C
    (is_client z w k (SaidNegotiate bound) next x y g told.session) due_is purse keys own refl) (λ j q. i.tied j))
by_stage z law w k a y (SaidFirst bound) i co at goes ok g e1 e2 T C purse =
    let c = w.values.client in
    let s = shared_of c w.keys w.logons in
    let u = w.wires k in
    let n = u.client_end in
    let x = C.heard in
    let told = C.same in
    let due_is : (x.header.status == status_due (SaidFirst bound)) ≡ true = ap (λ v. v == more_processing_required) told.status ∙ ok in
    let next = SaidSecond bound in
    let e = went_client w k (SaidFirst bound) x next in
    let stage_is : c.stage k ≡ SaidFirst bound = sym (i.stages k co) ∙ at in
    let keys : bound ≡ true → n.keys ≡ w.keys = λ b. T.bound_keys refl (ap binds at ∙ b) in
    let own : bound ≡ true → w.logons.keys c.session ≡ n.keys = λ b. keys_of_bound z w k y i g (ap binds stage_is ∙ b) ∙ sym (keys b) in
    subst (IsTied z) (sym (takes_second z w k a y bound x at C.opens due_is (C.sound due_is)))
    (gone_ties z w k (SaidFirst bound) x next bound (own_token z n x) i co e1 e2
    (second_tie z law c.op s k (w.values.conns k).server_open n u.server_end a y bound e T C
    (is_client z w k (SaidFirst bound) next x y g told.session) due_is (logon_of_tie n (T.logon refl)) purse keys own refl)
    (others bound stage_is))
  where
    others : (bound : Bool) → w.values.client.stage k ≡ SaidFirst bound → (j : ℕ) → (j == k) ≡ false
        → TieOf z w.values.client.op (with_pending (shared_of w.values.client w.keys w.logons)
        (went_client w k (SaidFirst bound) C.heard (SaidSecond bound)).pending) j (w.values.conns j) (w.wires j)
    others true st j q = i.tied j
    others false st j q =
        lined_tie z w.values.client.op (shared_of w.values.client w.keys w.logons) j (w.values.conns j) (w.wires j)
        (went_client w k (SaidFirst false) C.heard (SaidSecond false)).pending
        (λ o. ap is_lined (i.stages j o) ∙ g.quiet (ap binds st) j q o) (i.tied j)

unlined : (stage : Stage) → goes_on stage ≡ true → is_lined stage ≡ false
unlined (SaidNegotiate bound) e = refl
unlined (SaidFirst bound) e = refl
unlined (SaidSecond bound) e = refl
unlined Apart e = absurd (let h : false ≡ true = e in cc)
unlined AskedTree e = absurd (let h : false ≡ true = e in cc)

taken_at : (z : WorldSettings) → IsLawful z → (w : World) (k : ℕ) (b : List ℕ) (bs : List (List ℕ)) (y : Received) (ys : List Received)
    → IsTied z w → (w.values.conns k).client_open ≡ true → (w.wires k).down ≡ b ∷ bs → (w.values.conns k).down ≡ y ∷ ys
    → goes_on (w.values.client.stage k) ≡ true → (y.reply.status == status_due (w.values.client.stage k)) ≡ true → IsGoing z w k y
    → IsTied z (bytes_happen z w (Plain (Take k)))
taken_at z law w k b bs y ys i co e h goes ok g =
    let c = w.values.client in
    let s = shared_of c w.keys w.logons in
    let d = w.values.conns k in
    let u = w.wires k in
    let n = u.client_end in
    let t = i.tied k in
    let at = i.stages k co in
    let off : is_lined n.stage ≡ false = ap is_lined at ∙ unlined (c.stage k) goes in
    let lists = lists_of z s k d.server_open n u.server_end u.up u.down d.up d.down n.stage y ys t.link.line h (t.talk co off) in
    let a = lists.frame in
    let T : ComesTo z w k a y =
    subst (λ o. Tied z c.op s k o d.server_open n u.server_end [] (a ∷ []) [] (y ∷ [])) co
    (subst (λ v. Tied z c.op s k d.client_open d.server_open n u.server_end v (a ∷ []) [] (y ∷ [])) lists.up_is
    (subst (λ v. Tied z c.op s k d.client_open d.server_open n u.server_end u.up v [] (y ∷ [])) lists.down_is
    (subst (λ v. Tied z c.op s k d.client_open d.server_open n u.server_end u.up u.down v (y ∷ [])) lists.sent_is
    (subst (λ v. Tied z c.op s k d.client_open d.server_open n u.server_end u.up u.down d.up v) lists.told_is t)))) in
    let C = coming_of z s k d.server_open n u.server_end a y T.link.line n.stage (T.talk refl off) in
    subst (IsTied z) (sym (taken_world z w k a [] y [] co lists.down_is lists.told_is))
    (later_tied z (take_frame z w k (a ∷ []) (y ∷ [])) 1
    (by_stage z law w k a y n.stage i co refl (ap goes_on at ∙ goes)
    (ap (λ v. y.reply.status == status_due v) at ∙ ok) g lists.up_is lists.sent_is T C
    (T.purse refl off)))

take_by : (z : WorldSettings) → IsLawful z → (w : World) (k : ℕ) (y : Received) (ys : List Received) → IsTied z w
    → (w.values.conns k).client_open ≡ true → (w.values.conns k).down ≡ y ∷ ys → goes_on (w.values.client.stage k) ≡ true
    → (y.reply.status == status_due (w.values.client.stage k)) ≡ true → IsGoing z w k y → (bs : List (List ℕ)) → (w.wires k).down ≡ bs
    → IsTied z (bytes_happen z w (Plain (Take k)))
take_by z law w k y ys i co h goes ok g [] e = absurd (has_frame_down z w k y ys i co e h)
take_by z law w k y ys i co h goes ok g (b ∷ bs) e = taken_at z law w k b bs y ys i co e h goes ok g

pub going_on : GoingOnIsKept
going_on z w k y ys law i whose co h goes ok g = take_by z law w k y ys i co h goes ok g (w.wires k).down refl
