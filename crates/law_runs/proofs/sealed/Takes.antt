-- What the client hears leaves it so: its keys change where nothing of its waits.
use Rattle.std.proofs.Common.{◌≡◌, ℕ, ◌+◌, ◌==◌, Bool, true, false, if◌then◌else◌, List, [], ◌∷◌, refl, sym, ap, ◌∙◌, subst, Option}
use Rattle.std.proofs.Common.{Some, None}
use Rattle.spec_exchange.specs.Status.{success, more_processing_required}
use Rattle.spec_exchange.specs.Operations.{Refusal, BadToken, HadStatus}
use Rattle.spec_exchange.specs.Client.{Stage, Apart, SaidNegotiate, SaidFirst, SaidSecond, AskedTree}
use Rattle.spec_exchange.specs.ClientStep.{Hears, IsCut, IsReady, IsRefused, act}
use Rattle.spec_exchange.specs.Dialogs.{DialogStep, GoesOn, Accepts, Binds, Readies, Refuses, dialog_step}
use Rattle.spec_exchange.specs.Dialogs.{dialog_message, accepted, went_on}
use Rattle.spec_exchange.specs.Network.{Sent, Received, Token, ForDialog, ForOp, ForAttach, with_client, cut_off}
use Rattle.spec_wire.specs.credits.Exchange.{Line}
use Rattle.spec_commands.specs.ReplyOf.{reply_of}
use Rattle.law_server.proofs.tables.Logic.{either}
use Rattle.spec_world.specs.Settings.{WorldSettings}
use Rattle.spec_world.specs.Messages.{HeardMessage}
use Rattle.spec_world.specs.Ends.{ClientEnd, ServerEnd}
use Rattle.spec_world.specs.Sending.{spent}
use Rattle.spec_world.specs.Dialog.{status_due, dialog_fault, paid_in, noted_heard, accepted_end, bound_end, line_response, dialog_response}
use Rattle.spec_world.specs.World.{World, Wires, with_values, with_client_end, queued, off_by, one_off, cut_wires, op_heard, line_heard}
use Rattle.spec_world.specs.World.{line_hears, command_asked, dialog_off, noted_sent, previous_of, setup_of, setup_sent, next_token}
use Rattle.spec_world.specs.World.{session_accepted, channel_bound, dialog_reply, dialog_wires, dialog_passed, dialog_hears, hears}
use Rattle.spec_world.specs.World.{behind_frame, take_frame}
use Rattle.law_ties.specs.wire_facts.Lawful.{IsLawful}
use Rattle.law_ties.specs.events.Links.{Shared, Talks, Waits, Comes, Lost, is_lined, IsTied, shared_of}
use Rattle.law_ties.proofs.events.Taking.{put_same}
use Rattle.law_runs.proofs.sealed.Spelled.{IsKept, all_none, all_plain, all_more, DownKept, SpellsOf, one, one_closed}
use Rattle.law_runs.proofs.sealed.Spelled.{closed, off_closed, moved}
use Rattle.law_runs.proofs.sealed.Sent.{setup_plain, line}

-- ---- a cut, and a line's reply

pub cut : (x : World) (k : ℕ) → SpellsOf x → SpellsOf (cut_wires x k)
cut x k h =
    either SpellsOf (x.values.client.ready k) (with_values (off_by x k (act x.values.client (IsCut k))) (cut_off x.values k))
    (with_values (one_off x k) (cut_off x.values k)) (λ _. off_closed x k (act x.values.client (IsCut k)) h) (λ _. one_closed x k h)

op : (x : World) (k g : ℕ) (asking : Bool) (y : HeardMessage) (place : ℕ) → SpellsOf x → SpellsOf (op_heard x k g asking y place)
op x k g asking y place h =
    let r = reply_of (command_asked x.values.client g asking) y.header y.bytes in
    closed (with_client_end x k (paid_in (x.wires k).client_end y.header)) k (act x.values.client (Hears k g asking r place))
    (moved x k (paid_in (x.wires k).client_end y.header) (h.ups k) h)

on_line : (x : World) (k : ℕ) (y : HeardMessage) (place : ℕ) (t : Option Token) → SpellsOf x → SpellsOf (line_heard x k y place t)
on_line x k y place None h = cut x k h
on_line x k y place (Some ForDialog) h = cut x k h
on_line x k y place (Some (ForOp g)) h = op x k g false y place h
on_line x k y place (Some (ForAttach g)) h = op x k g true y place h

lines : (x : World) (k place : ℕ) (o : Option HeardMessage) → SpellsOf x → SpellsOf (line_hears x k place o)
lines x k place None h = cut x k h
lines x k place (Some y) h = on_line x k y place ((x.wires k).client_end.awaited y.header.message) h

-- ---- a dialog's

refused : (x : World) (k : ℕ) (why : Refusal) → SpellsOf x → SpellsOf (dialog_off x k why)
refused x k why h = closed x k (act x.values.client (IsRefused k why)) h

sends : (z : WorldSettings) → IsLawful z → (x : World) (k : ℕ) (stage : Stage) (bound : Bool) (token : List ℕ) → SpellsOf x
    → SpellsOf (setup_sent x k stage bound token)
sends z law x k stage bound token h =
    let u = x.wires k in
    let n = u.client_end in
    let frame = setup_of x k stage bound token in
    one x.sealings x.wires k (queued u (noted_sent (spent n 1 ForDialog) stage frame) frame)
    (all_more (IsKept x.sealings n.keys true) u.up (frame ∷ []) (h.ups k)
    (all_plain (IsKept x.sealings n.keys true) frame
    (setup_plain z law n bound (previous_of x.values.client bound) token (dialog_message x.values.client k n.purse.next stage))))
    (h.downs k) h

-- the next message of a dialog goes up behind a response
went : (z : WorldSettings) → IsLawful z → (x : World) (k : ℕ) (stage : Stage) (y : HeardMessage) (next : Stage)
    (bound : Bool) (token : List ℕ)
    → SpellsOf x
    → SpellsOf (setup_sent
    (with_client_end (with_values x
    (with_client x.values (went_on x.values.client k next (dialog_reply x stage y)))) k
    (noted_heard (x.wires k).client_end stage y)) k next bound token)
went z law x k stage y next bound token h =
    let n = noted_heard (x.wires k).client_end stage y in
    let v = with_values x (with_client x.values (went_on x.values.client k next (dialog_reply x stage y))) in
    sends z law (with_client_end v k n) k next bound token (moved v k n (h.ups k) h)

accepts : (x : World) (k : ℕ) (y : HeardMessage) → (x.wires k).up ≡ [] → SpellsOf x → SpellsOf (session_accepted x k y)
accepts x k y e h =
    let n = accepted_end (x.wires k).client_end y x.values.client.pending in
    moved x k n (all_none (IsKept x.sealings n.keys true) (x.wires k).up e) h

binds : (x : World) (k : ℕ) (y : HeardMessage) → (x.wires k).up ≡ [] → SpellsOf x → SpellsOf (channel_bound x k y)
binds x k y e h =
    let n = bound_end (x.wires k).client_end y (x.numbers + 1) in
    moved x k n (all_none (IsKept x.sealings n.keys true) (x.wires k).up e) h

turned : (z : WorldSettings) → IsLawful z → (x : World) (k : ℕ) (stage : Stage) (y : HeardMessage)
    → (is_lined stage ≡ false → (x.wires k).up ≡ [])
    → SpellsOf x → SpellsOf (dialog_wires z x k stage y (dialog_step stage y.header.status))
turned z law x k Apart y e h = closed x k (act x.values.client (IsRefused k (HadStatus y.header.status))) h
turned z law x k (SaidNegotiate bound) y e h =
    either (λ (d : DialogStep). SpellsOf (dialog_wires z x k (SaidNegotiate bound) y d)) (y.header.status == success)
    (GoesOn (SaidFirst bound)) (Refuses y.header.status)
    (λ _. went z law x k (SaidNegotiate bound) y (SaidFirst bound) bound (next_token z (x.wires k).client_end (SaidFirst bound) y.bytes) h)
    (λ _. closed x k (act x.values.client (IsRefused k (HadStatus y.header.status))) h)
turned z law x k (SaidFirst bound) y e h =
    either (λ (d : DialogStep). SpellsOf (dialog_wires z x k (SaidFirst bound) y d)) (y.header.status == more_processing_required)
    (GoesOn (SaidSecond bound)) (Refuses y.header.status)
    (λ _. went z law x k (SaidFirst bound) y (SaidSecond bound) bound (next_token z (x.wires k).client_end (SaidSecond bound) y.bytes) h)
    (λ _. closed x k (act x.values.client (IsRefused k (HadStatus y.header.status))) h)
turned z law x k (SaidSecond false) y e h =
    either (λ (d : DialogStep). SpellsOf (dialog_wires z x k (SaidSecond false) y d)) (y.header.status == success)
    Accepts (Refuses y.header.status)
    (λ _. (let a = session_accepted x k y in
    line z law a k ForDialog (dialog_message (accepted x.values.client k) k (a.wires k).client_end.purse.next AskedTree) 1
    (accepts x k y (e refl) h)))
    (λ _. closed x k (act x.values.client (IsRefused k (HadStatus y.header.status))) h)
turned z law x k (SaidSecond true) y e h =
    either (λ (d : DialogStep). SpellsOf (dialog_wires z x k (SaidSecond true) y d)) (y.header.status == success)
    Binds (Refuses y.header.status)
    (λ _. closed (channel_bound x k y) k (act x.values.client (IsReady k x.values.client.session x.values.client.tree))
    (binds x k y (e refl) h))
    (λ _. closed x k (act x.values.client (IsRefused k (HadStatus y.header.status))) h)
turned z law x k AskedTree y e h =
    let n : ClientEnd = record (paid_in (x.wires k).client_end y.header) { stage = Apart } in
    either (λ (d : DialogStep). SpellsOf (dialog_wires z x k AskedTree y d)) (y.header.status == success)
    Readies (Refuses y.header.status)
    (λ _. closed (with_client_end x k n) k (act x.values.client (IsReady k x.values.client.pending (dialog_reply x AskedTree y).tree_id))
    (moved x k n (h.ups k) h))
    (λ _. closed x k (act x.values.client (IsRefused k (HadStatus y.header.status))) h)

passed : (z : WorldSettings) → IsLawful z → (x : World) (k : ℕ) (stage : Stage) (y : HeardMessage)
    → (is_lined stage ≡ false → (x.wires k).up ≡ [])
    → SpellsOf x → (o : Option Refusal) → SpellsOf (dialog_passed z x k stage y o)
passed z law x k stage y e h (Some why) = refused x k why h
passed z law x k stage y e h None = turned z law x k stage y e h

heard : (z : WorldSettings) → IsLawful z → (x : World) (k : ℕ) (stage : Stage) → (is_lined stage ≡ false → (x.wires k).up ≡ []) → SpellsOf x
    → (o : Option HeardMessage) → SpellsOf (dialog_hears z x k stage o)
heard z law x k stage e h None = refused x k BadToken h
heard z law x k stage e h (Some y) =
    passed z law x k stage y e h
    (if y.header.status == status_due stage then dialog_fault z.client (x.wires k).client_end stage y else None)

by_stage : (z : WorldSettings) → IsLawful z → (x : World) (k : ℕ) (b : List ℕ) (place : ℕ) (stage : Stage)
    → (is_lined stage ≡ false → (x.wires k).up ≡ []) → SpellsOf x → SpellsOf (hears z x k b place stage)
by_stage z law x k b place Apart e h = lines x k place (line_response (x.wires k).client_end b) h
by_stage z law x k b place (SaidNegotiate bound) e h =
    heard z law x k (SaidNegotiate bound) e h (dialog_response (x.wires k).client_end (SaidNegotiate bound) b)
by_stage z law x k b place (SaidFirst bound) e h =
    heard z law x k (SaidFirst bound) e h (dialog_response (x.wires k).client_end (SaidFirst bound) b)
by_stage z law x k b place (SaidSecond bound) e h =
    heard z law x k (SaidSecond bound) e h (dialog_response (x.wires k).client_end (SaidSecond bound) b)
by_stage z law x k b place AskedTree e h =
    heard z law x k AskedTree e h (dialog_response (x.wires k).client_end AskedTree b)

-- ---- a Take: of a dialog nothing waits for the server

none_down : {X : Type 0} (down : List (List ℕ)) (b : List ℕ) (bs : List (List ℕ)) → down ≡ [] → down ≡ b ∷ bs → X
none_down down b bs e d = absurd (let h : [] ≡ b ∷ bs = sym e ∙ d in cc)

none_up : (z : WorldSettings) (s : Shared) (k : ℕ) (so : Bool) (n : ClientEnd) (f : ServerEnd) (up down : List (List ℕ)) (xs : List Sent)
    (ys : List Received) (l : Line) (stage : Stage) (b : List ℕ) (bs : List (List ℕ)) → down ≡ b ∷ bs
    → Talks z s k so n f up down xs ys l stage → up ≡ []
none_up z s k so n f up down xs ys l stage b bs e (Comes a y e1 e2 e3 e4 c) = e1
none_up z s k so n f up down xs ys l stage b bs e (Waits c x e1 e2 e3 e4 g) = none_down down b bs e3 e
none_up z s k so n f up down xs ys l stage b bs e (Lost e1 e2 e3 e4 e5) = e1

pub takes : (z : WorldSettings) → IsLawful z → (w : World) → IsTied z w → (k : ℕ) → (w.values.conns k).client_open ≡ true
    → (fs : List (List ℕ)) (ys : List Received) → (w.wires k).down ≡ fs → SpellsOf w → SpellsOf (take_frame z w k fs ys)
takes z law w i k co [] ys e h = h
takes z law w i k co (b ∷ bs) [] e h = h
takes z law w i k co (b ∷ bs) (y ∷ ys) e h =
    let n = (w.wires k).client_end in
    let d = w.values.conns k in
    let u : Wires = record (w.wires k) { down = bs } in
    let x = behind_frame w k bs ys in
    let quiet : is_lined n.stage ≡ false → (w.wires k).up ≡ [] = λ off. (let t = i.tied k in
    none_up z (shared_of w.values.client w.keys w.logons) k d.server_open n (w.wires k).server_end (w.wires k).up
    (w.wires k).down d.up d.down
    t.link.line n.stage b bs e (t.talk co off)) in
    let told : DownKept w.sealings (w.wires k).server_end.keys (b ∷ bs) =
    subst (DownKept w.sealings (w.wires k).server_end.keys) e (h.downs k) in
    let m : SpellsOf x = one w.sealings w.wires k u (h.ups k) told.1 h in
    by_stage z law x k b y.place n.stage (λ off. ap (λ (q : Wires). q.up) (put_same w.wires k u) ∙ quiet off) m
