-- What the client hears leaves it so: a final response that it accepts on was made.
use Rattle.std.proofs.Common.{◌≡◌, ℕ, ◌+◌, ◌==◌, Bool, true, false, if◌then◌else◌, List, [], ◌∷◌, ◌++◌, refl, sym, ap, ◌∙◌, subst, Option}
use Rattle.std.proofs.Common.{Some, None}
use Rattle.spec_exchange.specs.Status.{success, more_processing_required}
use Rattle.spec_exchange.specs.Operations.{Refusal, BadToken, HadStatus}
use Rattle.spec_exchange.specs.Client.{Stage, Apart, SaidNegotiate, SaidFirst, SaidSecond, AskedTree}
use Rattle.spec_exchange.specs.ClientStep.{Hears, IsCut, IsReady, IsRefused, act}
use Rattle.spec_exchange.specs.Dialogs.{DialogStep, GoesOn, Accepts, Binds, Readies, Refuses, dialog_step}
use Rattle.spec_exchange.specs.Dialogs.{dialog_message, accepted, went_on}
use Rattle.spec_exchange.specs.Network.{Sent, Received, Token, ForDialog, ForOp, ForAttach, with_client, cut_off}
use Rattle.spec_wire.specs.credits.Exchange.{Line}
use Rattle.spec_commands.specs.ReplyOf.{reply_of}
use Rattle.law_server.proofs.tables.Logic.{either}
use Rattle.spec_world.specs.Settings.{WorldSettings}
use Rattle.spec_world.specs.Messages.{HeardMessage}
use Rattle.spec_world.specs.Ends.{ClientEnd, ServerEnd}
use Rattle.spec_world.specs.Answering.{Ending}
use Rattle.spec_world.specs.Sending.{spent}
use Rattle.spec_world.specs.Dialog.{status_due, dialog_fault, paid_in, noted_heard, ended_on, accepted_end, bound_end, line_response}
use Rattle.spec_world.specs.Dialog.{dialog_response}
use Rattle.spec_world.specs.World.{World, Wires, with_values, with_client_end, queued, off_by, one_off, cut_wires, op_heard, line_heard}
use Rattle.spec_world.specs.World.{line_hears, command_asked, dialog_off, noted_sent, setup_of, setup_sent, next_token, session_accepted}
use Rattle.spec_world.specs.World.{channel_bound, dialog_reply, dialog_wires, dialog_passed, dialog_hears, hears, behind_frame, take_frame}
use Rattle.law_ties.specs.events.Links.{Shared, Talks, Waits, Comes, Lost, is_lined, IsTied, shared_of}
use Rattle.law_ties.proofs.events.Taking.{put_same, end_is}
use Rattle.law_nonces.proofs.negotiation.Tables.{All, all_joined, all_with, none_there}
use Rattle.law_runs.proofs.accepted.Minds.{IsIn, none_waits, not_second, MindsOf, one, one_closed, closed, off_closed, line, moved}

-- ---- a cut, and a line's reply

pub cut : (x : World) (k : ℕ) → MindsOf x → MindsOf (cut_wires x k)
cut x k h =
    either MindsOf (x.values.client.ready k) (with_values (off_by x k (act x.values.client (IsCut k))) (cut_off x.values k))
    (with_values (one_off x k) (cut_off x.values k)) (λ _. off_closed x k (act x.values.client (IsCut k)) h) (λ _. one_closed x k h)

op : (x : World) (k g : ℕ) (asking : Bool) (y : HeardMessage) (place : ℕ) → MindsOf x → MindsOf (op_heard x k g asking y place)
op x k g asking y place h =
    let r = reply_of (command_asked x.values.client g asking) y.header y.bytes in
    closed (with_client_end x k (paid_in (x.wires k).client_end y.header)) k (act x.values.client (Hears k g asking r place))
    (moved x k (paid_in (x.wires k).client_end y.header) (h.waits k) h)

on_line : (x : World) (k : ℕ) (y : HeardMessage) (place : ℕ) (t : Option Token) → MindsOf x → MindsOf (line_heard x k y place t)
on_line x k y place None h = cut x k h
on_line x k y place (Some ForDialog) h = cut x k h
on_line x k y place (Some (ForOp g)) h = op x k g false y place h
on_line x k y place (Some (ForAttach g)) h = op x k g true y place h

lines : (x : World) (k place : ℕ) (o : Option HeardMessage) → MindsOf x → MindsOf (line_hears x k place o)
lines x k place None h = cut x k h
lines x k place (Some y) h = on_line x k y place ((x.wires k).client_end.awaited y.header.message) h

-- ---- a dialog's

refused : (x : World) (k : ℕ) (why : Refusal) → MindsOf x → MindsOf (dialog_off x k why)
refused x k why h = closed x k (act x.values.client (IsRefused k why)) h

sends : (x : World) (k : ℕ) (stage : Stage) (bound : Bool) (token : List ℕ) → (x.wires k).down ≡ [] → MindsOf x
    → MindsOf (setup_sent x k stage bound token)
sends x k stage bound token e h =
    let u = x.wires k in
    let frame = setup_of x k stage bound token in
    let n = noted_sent (spent u.client_end 1 ForDialog) stage frame in
    one x.made x.accepted x.wires k (queued u n frame) (none_waits x.made n u.down e) h

-- the next message of a dialog goes up behind a response
went : (z : WorldSettings) (x : World) (k : ℕ) (stage : Stage) (y : HeardMessage) (next : Stage) (bound : Bool) (token : List ℕ)
    → (x.wires k).down ≡ [] → MindsOf x
    → MindsOf (setup_sent
    (with_client_end (with_values x
    (with_client x.values (went_on x.values.client k next (dialog_reply x stage y)))) k
    (noted_heard (x.wires k).client_end stage y)) k next bound token)
went z x k stage y next bound token e h =
    let n = noted_heard (x.wires k).client_end stage y in
    let v = with_values x (with_client x.values (went_on x.values.client k next (dialog_reply x stage y))) in
    let u : Wires = record (x.wires k) { client_end = n } in
    sends (with_client_end v k n) k next bound token (ap (λ (q : Wires). q.down) (put_same x.wires k u) ∙ e)
    (moved v k n (none_waits x.made n (x.wires k).down e) h)

tree_apart : (bound : Bool) → AskedTree ≡ SaidSecond bound → ⊥
tree_apart bound e = cc

line_apart : (bound : Bool) → Apart ≡ SaidSecond bound → ⊥
line_apart bound e = cc

with_ending : (made accepted : List Ending) (a : Ending) → All (IsIn made) accepted → IsIn made a → All (IsIn made) (accepted ++ a ∷ [])
with_ending made accepted a all h =
    all_joined (IsIn made) accepted (a ∷ []) all (all_with (IsIn made) a [] h (none_there (IsIn made)))

accepts : (x : World) (k : ℕ) (y : HeardMessage) → MindsOf x → IsIn x.made (ended_on (x.wires k).client_end y false)
    → MindsOf (session_accepted x k y)
accepts x k y h is =
    let n = accepted_end (x.wires k).client_end y x.values.client.pending in
    let m = moved x k n (not_second x.made n (x.wires k).down AskedTree refl tree_apart) h in
    record { waits = m.waits; taken = with_ending x.made x.accepted (ended_on (x.wires k).client_end y false) h.taken is }

binds : (x : World) (k : ℕ) (y : HeardMessage) → MindsOf x → IsIn x.made (ended_on (x.wires k).client_end y true)
    → MindsOf (channel_bound x k y)
binds x k y h is =
    let n = bound_end (x.wires k).client_end y (x.numbers + 1) in
    let m = moved x k n (not_second x.made n (x.wires k).down Apart refl line_apart) h in
    record { waits = m.waits; taken = with_ending x.made x.accepted (ended_on (x.wires k).client_end y true) h.taken is }

-- what is known of the front
abbrev Fronts : World → ℕ → List ℕ → Stage → Type 0
Fronts x k b stage =
    (bound : Bool) (y : HeardMessage) → stage ≡ SaidSecond bound → dialog_response (x.wires k).client_end stage b ≡ Some y →
    (y.header.status == success) ≡ true → IsIn x.made (ended_on (x.wires k).client_end y bound)

turned : (z : WorldSettings) (x : World) (k : ℕ) (b : List ℕ) (stage : Stage) (y : HeardMessage)
    → dialog_response (x.wires k).client_end stage b ≡ Some y → Fronts x k b stage → (is_lined stage ≡ false → (x.wires k).down ≡ [])
    → MindsOf x → MindsOf (dialog_wires z x k stage y (dialog_step stage y.header.status))
turned z x k b Apart y r front e h = closed x k (act x.values.client (IsRefused k (HadStatus y.header.status))) h
turned z x k b (SaidNegotiate bound) y r front e h =
    either (λ (d : DialogStep). MindsOf (dialog_wires z x k (SaidNegotiate bound) y d)) (y.header.status == success)
    (GoesOn (SaidFirst bound)) (Refuses y.header.status)
    (λ _. went z x k (SaidNegotiate bound) y (SaidFirst bound) bound
    (next_token z (x.wires k).client_end (SaidFirst bound) y.bytes) (e refl) h)
    (λ _. closed x k (act x.values.client (IsRefused k (HadStatus y.header.status))) h)
turned z x k b (SaidFirst bound) y r front e h =
    either (λ (d : DialogStep). MindsOf (dialog_wires z x k (SaidFirst bound) y d)) (y.header.status == more_processing_required)
    (GoesOn (SaidSecond bound)) (Refuses y.header.status)
    (λ _. went z x k (SaidFirst bound) y (SaidSecond bound) bound
    (next_token z (x.wires k).client_end (SaidSecond bound) y.bytes) (e refl) h)
    (λ _. closed x k (act x.values.client (IsRefused k (HadStatus y.header.status))) h)
turned z x k b (SaidSecond false) y r front e h =
    either (λ (d : DialogStep). MindsOf (dialog_wires z x k (SaidSecond false) y d)) (y.header.status == success)
    Accepts (Refuses y.header.status)
    (λ ok. (let a = session_accepted x k y in
    line a k ForDialog (dialog_message (accepted x.values.client k) k (a.wires k).client_end.purse.next AskedTree) 1
    (accepts x k y h (front false y refl r ok))))
    (λ _. closed x k (act x.values.client (IsRefused k (HadStatus y.header.status))) h)
turned z x k b (SaidSecond true) y r front e h =
    either (λ (d : DialogStep). MindsOf (dialog_wires z x k (SaidSecond true) y d)) (y.header.status == success)
    Binds (Refuses y.header.status)
    (λ ok. closed (channel_bound x k y) k (act x.values.client (IsReady k x.values.client.session x.values.client.tree))
    (binds x k y h (front true y refl r ok)))
    (λ _. closed x k (act x.values.client (IsRefused k (HadStatus y.header.status))) h)
turned z x k b AskedTree y r front e h =
    let n : ClientEnd = record (paid_in (x.wires k).client_end y.header) { stage = Apart } in
    either (λ (d : DialogStep). MindsOf (dialog_wires z x k AskedTree y d)) (y.header.status == success)
    Readies (Refuses y.header.status)
    (λ _. closed (with_client_end x k n) k (act x.values.client (IsReady k x.values.client.pending (dialog_reply x AskedTree y).tree_id))
    (moved x k n (not_second x.made n (x.wires k).down Apart refl line_apart) h))
    (λ _. closed x k (act x.values.client (IsRefused k (HadStatus y.header.status))) h)

passed : (z : WorldSettings) (x : World) (k : ℕ) (b : List ℕ) (stage : Stage) (y : HeardMessage)
    → dialog_response (x.wires k).client_end stage b ≡ Some y → Fronts x k b stage → (is_lined stage ≡ false → (x.wires k).down ≡ [])
    → MindsOf x → (o : Option Refusal) → MindsOf (dialog_passed z x k stage y o)
passed z x k b stage y r front e h (Some why) = refused x k why h
passed z x k b stage y r front e h None = turned z x k b stage y r front e h

heard : (z : WorldSettings) (x : World) (k : ℕ) (b : List ℕ) (stage : Stage) → Fronts x k b stage
    → (is_lined stage ≡ false → (x.wires k).down ≡ []) → MindsOf x → (o : Option HeardMessage)
    → dialog_response (x.wires k).client_end stage b ≡ o → MindsOf (dialog_hears z x k stage o)
heard z x k b stage front e h None r = refused x k BadToken h
heard z x k b stage front e h (Some y) r =
    passed z x k b stage y r front e h
    (if y.header.status == status_due stage then dialog_fault z.client (x.wires k).client_end stage y else None)

by_stage : (z : WorldSettings) (x : World) (k : ℕ) (b : List ℕ) (place : ℕ) (stage : Stage) → Fronts x k b stage
    → (is_lined stage ≡ false → (x.wires k).down ≡ []) → MindsOf x → MindsOf (hears z x k b place stage)
by_stage z x k b place Apart front e h = lines x k place (line_response (x.wires k).client_end b) h
by_stage z x k b place (SaidNegotiate bound) front e h =
    heard z x k b (SaidNegotiate bound) front e h (dialog_response (x.wires k).client_end (SaidNegotiate bound) b) refl
by_stage z x k b place (SaidFirst bound) front e h =
    heard z x k b (SaidFirst bound) front e h (dialog_response (x.wires k).client_end (SaidFirst bound) b) refl
by_stage z x k b place (SaidSecond bound) front e h =
    heard z x k b (SaidSecond bound) front e h (dialog_response (x.wires k).client_end (SaidSecond bound) b) refl
by_stage z x k b place AskedTree front e h =
    heard z x k b AskedTree front e h (dialog_response (x.wires k).client_end AskedTree b) refl

-- ---- a Take: of a dialog one response comes

tail_of : (a b : List ℕ) (bs : List (List ℕ)) → a ∷ [] ≡ b ∷ bs → bs ≡ []
tail_of a b bs e = sym (let h : a ∷ [] ≡ b ∷ bs = e in cc)

pub none_there_down : {X : Type 0} (down : List (List ℕ)) (b : List ℕ) (bs : List (List ℕ)) → down ≡ [] → down ≡ b ∷ bs → X
none_there_down down b bs e d = absurd (let h : [] ≡ b ∷ bs = sym e ∙ d in cc)

pub one_comes : (z : WorldSettings) (s : Shared) (k : ℕ) (so : Bool) (n : ClientEnd) (f : ServerEnd)
    (up down : List (List ℕ)) (xs : List Sent)
    (ys : List Received) (l : Line) (stage : Stage) (b : List ℕ) (bs : List (List ℕ)) → down ≡ b ∷ bs
    → Talks z s k so n f up down xs ys l stage → bs ≡ []
one_comes z s k so n f up down xs ys l stage b bs e (Comes a y e1 e2 e3 e4 c) = tail_of a b bs (sym e3 ∙ e)
one_comes z s k so n f up down xs ys l stage b bs e (Waits c x e1 e2 e3 e4 g) = none_there_down down b bs e3 e
one_comes z s k so n f up down xs ys l stage b bs e (Lost e1 e2 e3 e4 e5) = none_there_down down b bs e3 e

pub takes : (z : WorldSettings) (w : World) → IsTied z w → (k : ℕ) → (w.values.conns k).client_open ≡ true → (fs : List (List ℕ))
    (ys : List Received) → (w.wires k).down ≡ fs → MindsOf w → MindsOf (take_frame z w k fs ys)
takes z w i k co [] ys e h = h
takes z w i k co (b ∷ bs) [] e h = h
takes z w i k co (b ∷ bs) (y ∷ ys) e h =
    let n = (w.wires k).client_end in
    let d = w.values.conns k in
    let u : Wires = record (w.wires k) { down = bs } in
    let x = behind_frame w k bs ys in
    let empty : is_lined n.stage ≡ false → bs ≡ [] = λ off. (let t = i.tied k in
    one_comes z (shared_of w.values.client w.keys w.logons) k d.server_open n (w.wires k).server_end (w.wires k).up
    (w.wires k).down d.up d.down
    t.link.line n.stage b bs e (t.talk co off)) in
    let m : MindsOf x =
    one w.made w.accepted w.wires k u
    (λ bound a v s q r ok. none_there_down bs a [] (empty (ap is_lined s)) q) h in
    let front : Fronts x k b n.stage = λ bound v s r ok.
    subst (λ (q : ClientEnd). IsIn w.made (ended_on q v bound)) (sym (end_is w k bs ys))
    (h.waits k bound b v s (e ∙ ap (λ q. b ∷ q) (empty (ap is_lined s)))
    (subst (λ st. dialog_response (x.wires k).client_end st b ≡ Some v) s r) ok) in
    by_stage z x k b y.place n.stage front (λ off. ap (λ (q : Wires). q.down) (put_same w.wires k u) ∙ empty off) m
