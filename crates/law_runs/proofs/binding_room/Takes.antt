-- What the client hears leaves it so: a success that it binds on no longer comes, and is counted.
use Rattle.std.proofs.Common.{◌≡◌, ℕ, ◌+◌, ◌<◌, ◌≤◌, ◌==◌, Bool, true, false, if◌then◌else◌, List, [], ◌∷◌, refl, ap, ◌∙◌, subst}
use Rattle.std.proofs.Common.{arith, Option, Some, None}
use Rattle.spec_exchange.specs.Status.{success, more_processing_required}
use Rattle.spec_exchange.specs.Operations.{Refusal, BadToken, HadStatus}
use Rattle.spec_exchange.specs.Client.{Stage, Apart, SaidNegotiate, SaidFirst, SaidSecond, AskedTree}
use Rattle.spec_exchange.specs.ClientStep.{Hears, IsCut, IsReady, IsRefused, act}
use Rattle.spec_exchange.specs.Dialogs.{DialogStep, GoesOn, Accepts, Binds, Readies, Refuses, dialog_step}
use Rattle.spec_exchange.specs.Dialogs.{dialog_message, accepted, went_on}
use Rattle.spec_exchange.specs.Network.{Received, Token, ForDialog, ForOp, ForAttach, with_client, cut_off}
use Rattle.spec_commands.specs.ReplyOf.{reply_of}
use Rattle.law_server.proofs.tables.Logic.{either}
use Rattle.spec_world.specs.Settings.{WorldSettings}
use Rattle.spec_world.specs.Messages.{HeardMessage}
use Rattle.spec_world.specs.Ends.{ClientEnd}
use Rattle.spec_world.specs.Sending.{spent}
use Rattle.spec_world.specs.Dialog.{status_due, dialog_fault, paid_in, noted_heard, accepted_end, bound_end, line_response}
use Rattle.spec_world.specs.Dialog.{dialog_response}
use Rattle.spec_world.specs.World.{World, Wires, with_values, with_client_end, queued, off_by, one_off, cut_wires, op_heard, line_heard}
use Rattle.spec_world.specs.World.{line_hears, command_asked, dialog_off, noted_sent, setup_of, setup_sent, next_token, session_accepted}
use Rattle.spec_world.specs.World.{channel_bound, dialog_reply, dialog_wires, dialog_passed, dialog_hears, hears, behind_frame, take_frame}
use Rattle.law_ties.specs.events.Links.{is_lined, IsTied, shared_of}
use Rattle.law_ties.proofs.events.Taking.{put_same, end_is}
use Rattle.law_nonces.proofs.negotiation.Tables.{by_key}
use Rattle.law_runs.proofs.accepted.Takes.{one_comes}
use Rattle.law_runs.proofs.binding_room.Few.{IsFew, few_by, few_none, few_less}
use Rattle.law_runs.proofs.binding_room.Rooms.{Comes, none_comes, not_second, RoomsOf, same_low, one, one_closed}
use Rattle.law_runs.proofs.binding_room.Rooms.{closed, off_closed, line, moved}

-- ---- a cut, and a line's reply

pub cut : (drawn : ℕ → ℕ) (x : World) (k : ℕ) → RoomsOf drawn x → RoomsOf drawn (cut_wires x k)
cut drawn x k h =
    either (RoomsOf drawn) (x.values.client.ready k) (with_values (off_by x k (act x.values.client (IsCut k))) (cut_off x.values k))
    (with_values (one_off x k) (cut_off x.values k)) (λ _. off_closed drawn x k (act x.values.client (IsCut k)) h)
    (λ _. one_closed drawn x k h)

op : (drawn : ℕ → ℕ) (x : World) (k g : ℕ) (asking : Bool) (y : HeardMessage) (place : ℕ) → RoomsOf drawn x
    → RoomsOf drawn (op_heard x k g asking y place)
op drawn x k g asking y place h =
    let r = reply_of (command_asked x.values.client g asking) y.header y.bytes in
    closed drawn (with_client_end x k (paid_in (x.wires k).client_end y.header)) k (act x.values.client (Hears k g asking r place))
    (moved drawn x k (paid_in (x.wires k).client_end y.header) (λ c. c) h)

on_line : (drawn : ℕ → ℕ) (x : World) (k : ℕ) (y : HeardMessage) (place : ℕ) (t : Option Token) → RoomsOf drawn x
    → RoomsOf drawn (line_heard x k y place t)
on_line drawn x k y place None h = cut drawn x k h
on_line drawn x k y place (Some ForDialog) h = cut drawn x k h
on_line drawn x k y place (Some (ForOp g)) h = op drawn x k g false y place h
on_line drawn x k y place (Some (ForAttach g)) h = op drawn x k g true y place h

lines : (drawn : ℕ → ℕ) (x : World) (k place : ℕ) (o : Option HeardMessage) → RoomsOf drawn x → RoomsOf drawn (line_hears x k place o)
lines drawn x k place None h = cut drawn x k h
lines drawn x k place (Some y) h = on_line drawn x k y place ((x.wires k).client_end.awaited y.header.message) h

-- ---- a dialog's

refused : (drawn : ℕ → ℕ) (x : World) (k : ℕ) (why : Refusal) → RoomsOf drawn x → RoomsOf drawn (dialog_off x k why)
refused drawn x k why h = closed drawn x k (act x.values.client (IsRefused k why)) h

sends : (drawn : ℕ → ℕ) (x : World) (k : ℕ) (stage : Stage) (bound : Bool) (token : List ℕ) → (x.wires k).down ≡ [] → RoomsOf drawn x
    → RoomsOf drawn (setup_sent x k stage bound token)
sends drawn x k stage bound token e h =
    let u = x.wires k in
    let frame = setup_of x k stage bound token in
    let v = queued u (noted_sent (spent u.client_end 1 ForDialog) stage frame) frame in
    one drawn x.keys.session x.numbers x.wires k v (λ c. none_comes v e c) h

-- the next message of a dialog goes up behind a response
went : (drawn : ℕ → ℕ) (x : World) (k : ℕ) (stage : Stage) (y : HeardMessage) (next : Stage) (bound : Bool) (token : List ℕ)
    → (x.wires k).down ≡ [] → RoomsOf drawn x
    → RoomsOf drawn (setup_sent (with_client_end (with_values x (with_client x.values
    (went_on x.values.client k next (dialog_reply x stage y)))) k (noted_heard (x.wires k).client_end stage y)) k next bound token)
went drawn x k stage y next bound token e h =
    let n = noted_heard (x.wires k).client_end stage y in
    let v = with_values x (with_client x.values (went_on x.values.client k next (dialog_reply x stage y))) in
    let u : Wires = record (x.wires k) { client_end = n } in
    sends drawn (with_client_end v k n) k next bound token (ap (λ (q : Wires). q.down) (put_same x.wires k u) ∙ e)
    (moved drawn v k n (λ c. none_comes u e c) h)

tree_apart : AskedTree ≡ SaidSecond true → ⊥
tree_apart e = cc

line_apart : Apart ≡ SaidSecond true → ⊥
line_apart e = cc

-- where a new session is accepted, no other dialog binds, and its first number was drawn
pub record Begins (drawn : ℕ → ℕ) (x : World) : Type 0 where
  pub drew : 0 < drawn x.values.client.pending
  pub none : (j : ℕ) → Comes (x.wires j) → ⊥

one_at_least : (n : ℕ) → 0 < n → 1 ≤ n
one_at_least n h = omega (arith, h)

accepts : (drawn : ℕ → ℕ) (x : World) (k : ℕ) (y : HeardMessage) → Begins drawn x → RoomsOf drawn (session_accepted x k y)
accepts drawn x k y b =
    let n = accepted_end (x.wires k).client_end y x.values.client.pending in
    let u : Wires = record (x.wires k) { client_end = n } in
    few_none (λ j. Comes ((session_accepted x k y).wires j)) 1 (drawn x.values.client.pending)
    (by_key (λ j (v : Wires). Comes v → ⊥) x.wires k u (λ c. not_second u AskedTree refl tree_apart c) (λ j off c. b.none j c))
    (one_at_least (drawn x.values.client.pending) b.drew)

-- one more is bound, and counted
abbrev pub IsCounted : (ℕ → ℕ) → World → Type 0
IsCounted drawn x = IsFew (λ j. Comes (x.wires j)) (x.numbers + 1) (drawn x.keys.session)

binds : (drawn : ℕ → ℕ) (x : World) (k : ℕ) (y : HeardMessage) → IsCounted drawn x → RoomsOf drawn (channel_bound x k y)
binds drawn x k y h =
    let n = bound_end (x.wires k).client_end y (x.numbers + 1) in
    let u : Wires = record (x.wires k) { client_end = n } in
    one drawn x.keys.session (x.numbers + 1) x.wires k u (λ c. not_second u Apart refl line_apart c) h

-- what is known of the front
pub record Fronts (drawn : ℕ → ℕ) (x : World) (k : ℕ) (b : List ℕ) (stage : Stage) : Type 0 where
  pub binds_it :
      (y : HeardMessage) → stage ≡ SaidSecond true → dialog_response (x.wires k).client_end stage b ≡ Some y →
      (y.header.status == success) ≡ true → IsCounted drawn x
  pub begins :
      (y : HeardMessage) → stage ≡ SaidSecond false → dialog_response (x.wires k).client_end stage b ≡ Some y →
      (y.header.status == success) ≡ true → Begins drawn x
  pub empty : is_lined stage ≡ false → (x.wires k).down ≡ []

turned : (drawn : ℕ → ℕ) (z : WorldSettings) (x : World) (k : ℕ) (b : List ℕ) (stage : Stage) (y : HeardMessage)
    → dialog_response (x.wires k).client_end stage b ≡ Some y → Fronts drawn x k b stage → RoomsOf drawn x
    → RoomsOf drawn (dialog_wires z x k stage y (dialog_step stage y.header.status))
turned drawn z x k b Apart y r front h = closed drawn x k (act x.values.client (IsRefused k (HadStatus y.header.status))) h
turned drawn z x k b (SaidNegotiate bound) y r front h =
    either (λ (d : DialogStep). RoomsOf drawn (dialog_wires z x k (SaidNegotiate bound) y d)) (y.header.status == success)
    (GoesOn (SaidFirst bound)) (Refuses y.header.status)
    (λ _. went drawn x k (SaidNegotiate bound) y (SaidFirst bound) bound
    (next_token z (x.wires k).client_end (SaidFirst bound) y.bytes) (front.empty refl) h)
    (λ _. closed drawn x k (act x.values.client (IsRefused k (HadStatus y.header.status))) h)
turned drawn z x k b (SaidFirst bound) y r front h =
    either (λ (d : DialogStep). RoomsOf drawn (dialog_wires z x k (SaidFirst bound) y d)) (y.header.status == more_processing_required)
    (GoesOn (SaidSecond bound)) (Refuses y.header.status)
    (λ _. went drawn x k (SaidFirst bound) y (SaidSecond bound) bound
    (next_token z (x.wires k).client_end (SaidSecond bound) y.bytes) (front.empty refl) h)
    (λ _. closed drawn x k (act x.values.client (IsRefused k (HadStatus y.header.status))) h)
turned drawn z x k b (SaidSecond false) y r front h =
    either (λ (d : DialogStep). RoomsOf drawn (dialog_wires z x k (SaidSecond false) y d)) (y.header.status == success)
    Accepts (Refuses y.header.status)
    (λ ok. (let a = session_accepted x k y in
    line drawn a k ForDialog (dialog_message (accepted x.values.client k) k (a.wires k).client_end.purse.next AskedTree) 1
    (accepts drawn x k y (front.begins y refl r ok))))
    (λ _. closed drawn x k (act x.values.client (IsRefused k (HadStatus y.header.status))) h)
turned drawn z x k b (SaidSecond true) y r front h =
    either (λ (d : DialogStep). RoomsOf drawn (dialog_wires z x k (SaidSecond true) y d)) (y.header.status == success)
    Binds (Refuses y.header.status)
    (λ ok. closed drawn (channel_bound x k y) k (act x.values.client (IsReady k x.values.client.session x.values.client.tree))
    (binds drawn x k y (front.binds_it y refl r ok)))
    (λ _. closed drawn x k (act x.values.client (IsRefused k (HadStatus y.header.status))) h)
turned drawn z x k b AskedTree y r front h =
    let n : ClientEnd = record (paid_in (x.wires k).client_end y.header) { stage = Apart } in
    let u : Wires = record (x.wires k) { client_end = n } in
    either (λ (d : DialogStep). RoomsOf drawn (dialog_wires z x k AskedTree y d)) (y.header.status == success)
    Readies (Refuses y.header.status)
    (λ _. closed drawn (with_client_end x k n) k
    (act x.values.client (IsReady k x.values.client.pending (dialog_reply x AskedTree y).tree_id))
    (moved drawn x k n (λ c. not_second u Apart refl line_apart c) h))
    (λ _. closed drawn x k (act x.values.client (IsRefused k (HadStatus y.header.status))) h)

passed : (drawn : ℕ → ℕ) (z : WorldSettings) (x : World) (k : ℕ) (b : List ℕ) (stage : Stage) (y : HeardMessage)
    → dialog_response (x.wires k).client_end stage b ≡ Some y → Fronts drawn x k b stage → RoomsOf drawn x → (o : Option Refusal)
    → RoomsOf drawn (dialog_passed z x k stage y o)
passed drawn z x k b stage y r front h (Some why) = refused drawn x k why h
passed drawn z x k b stage y r front h None = turned drawn z x k b stage y r front h

heard : (drawn : ℕ → ℕ) (z : WorldSettings) (x : World) (k : ℕ) (b : List ℕ) (stage : Stage) → Fronts drawn x k b stage
    → RoomsOf drawn x → (o : Option HeardMessage) → dialog_response (x.wires k).client_end stage b ≡ o
    → RoomsOf drawn (dialog_hears z x k stage o)
heard drawn z x k b stage front h None r = refused drawn x k BadToken h
heard drawn z x k b stage front h (Some y) r =
    passed drawn z x k b stage y r front h
    (if y.header.status == status_due stage then dialog_fault z.client (x.wires k).client_end stage y else None)

by_stage : (drawn : ℕ → ℕ) (z : WorldSettings) (x : World) (k : ℕ) (b : List ℕ) (place : ℕ) (stage : Stage) → Fronts drawn x k b stage
    → RoomsOf drawn x → RoomsOf drawn (hears z x k b place stage)
by_stage drawn z x k b place Apart front h = lines drawn x k place (line_response (x.wires k).client_end b) h
by_stage drawn z x k b place (SaidNegotiate bound) front h =
    heard drawn z x k b (SaidNegotiate bound) front h (dialog_response (x.wires k).client_end (SaidNegotiate bound) b) refl
by_stage drawn z x k b place (SaidFirst bound) front h =
    heard drawn z x k b (SaidFirst bound) front h (dialog_response (x.wires k).client_end (SaidFirst bound) b) refl
by_stage drawn z x k b place (SaidSecond bound) front h =
    heard drawn z x k b (SaidSecond bound) front h (dialog_response (x.wires k).client_end (SaidSecond bound) b) refl
by_stage drawn z x k b place AskedTree front h =
    heard drawn z x k b AskedTree front h (dialog_response (x.wires k).client_end AskedTree b) refl

-- ---- a Take: of a dialog one response comes

-- where the success of a new session comes
abbrev pub BeginsAt : (ℕ → ℕ) → World → ℕ → Type 0
BeginsAt drawn w k =
    (b : List ℕ) (y : HeardMessage) → (w.wires k).down ≡ b ∷ [] → (w.wires k).client_end.stage ≡ SaidSecond false →
    dialog_response (w.wires k).client_end (SaidSecond false) b ≡ Some y → (y.header.status == success) ≡ true → Begins drawn w

pub takes : (drawn : ℕ → ℕ) (z : WorldSettings) (w : World) → IsTied z w → (k : ℕ) → (w.values.conns k).client_open ≡ true
    → (fs : List (List ℕ)) (ys : List Received) → (w.wires k).down ≡ fs → BeginsAt drawn w k → RoomsOf drawn w
    → RoomsOf drawn (take_frame z w k fs ys)
takes drawn z w i k co [] ys e begins h = h
takes drawn z w i k co (b ∷ bs) [] e begins h = h
takes drawn z w i k co (b ∷ bs) (y ∷ ys) e begins h =
    let n = (w.wires k).client_end in
    let d = w.values.conns k in
    let u : Wires = record (w.wires k) { down = bs } in
    let x = behind_frame w k bs ys in
    let empty : is_lined n.stage ≡ false → bs ≡ [] = λ off. (let t = i.tied k in
    one_comes z (shared_of w.values.client w.keys w.logons) k d.server_open n (w.wires k).server_end (w.wires k).up
    (w.wires k).down d.up d.down
    t.link.line n.stage b bs e (t.talk co off)) in
    let none : Comes u → ⊥ = λ c. none_comes u (empty (ap is_lined c.2)) c in
    let less : (j : ℕ) → Comes (x.wires j) → Comes (w.wires j) =
    by_key (λ j (v : Wires). Comes v → Comes (w.wires j)) w.wires k u (λ c. absurd (none c)) (λ j off c. c) in
    let others : (j : ℕ) → Comes (x.wires j) → (j == k) ≡ false =
    by_key (λ j (v : Wires). Comes v → (j == k) ≡ false) w.wires k u (λ c. absurd (none c)) (λ j off c. off) in
    let alone : is_lined n.stage ≡ false → (w.wires k).down ≡ b ∷ [] = λ off. e ∙ ap (λ q. b ∷ q) (empty off) in
    let same : (x.wires k).client_end ≡ n = end_is w k bs ys in
    let m : RoomsOf drawn x =
    few_by (λ j. Comes (w.wires j)) (λ j. Comes (x.wires j)) w.numbers (drawn w.keys.session) (drawn w.keys.session) less
    (same_low (drawn w.keys.session)) h in
    let front : Fronts drawn x k b n.stage = record {
      binds_it = λ v s r ok.
          few_less (λ j. Comes (w.wires j)) (λ j. Comes (x.wires j)) k w.numbers (drawn w.keys.session)
          (b, v, s, alone (ap is_lined s), subst (λ st. dialog_response (x.wires k).client_end st b ≡ Some v) s r, ok) less others h;
      begins = λ v s r ok. (let g = begins b v (alone (ap is_lined s)) s
          (subst (λ q. dialog_response q (SaidSecond false) b ≡ Some v) same
          (subst (λ st. dialog_response (x.wires k).client_end st b ≡ Some v) s r)) ok in
          record { drew = g.drew; none = λ j c. g.none j (less j c) });
      empty = λ off. ap (λ (q : Wires). q.down) (put_same w.wires k u) ∙ empty off;
    } in
    by_stage drawn z x k b y.place n.stage front m
