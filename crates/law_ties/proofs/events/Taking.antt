-- A front that is heard as what it was made for is taken in step.
use Rattle.std.proofs.Common.{◌≡◌, ℕ, ◌==◌, Bool, true, false, if◌then◌else◌, List, ◌∷◌, refl, sym, ap, ◌∙◌, arith}
use Rattle.std.proofs.Common.{Option, Some, None}
use Rattle.spec_exchange.specs.Table.{put}
use Rattle.spec_exchange.specs.State.{Reply}
use Rattle.spec_exchange.specs.Operations.{Refusal}
use Rattle.spec_exchange.specs.Client.{Client, Stage, Apart, SaidNegotiate, SaidFirst, SaidSecond, AskedTree}
use Rattle.spec_exchange.specs.Dialogs.{DialogStep, GoesOn, Accepts, Binds, Readies, Refuses, dialog_step, told_session}
use Rattle.spec_exchange.specs.ClientStep.{IsReady}
use Rattle.spec_exchange.specs.Network.{World as Values, Received, Token, ForDialog, ForOp, ForAttach, Take, with_client, dialog_sent}
use Rattle.spec_exchange.specs.Network.{dialog_ended, dialog_took, took_by, take_reply, taken, is_possible}
use Rattle.spec_commands.specs.ReplyOf.{reply_of}
use Rattle.spec_world.specs.Settings.{WorldSettings}
use Rattle.spec_world.specs.Messages.{HeardMessage}
use Rattle.spec_world.specs.Ends.{ClientEnd}
use Rattle.spec_world.specs.Dialog.{line_response, dialog_response, status_due, dialog_fault}
use Rattle.spec_world.specs.World.{World, Wires, command_asked, line_heard, line_hears, dialog_reply, dialog_passed, dialog_hears}
use Rattle.spec_world.specs.World.{hears, behind_frame, take_frame}
use Rattle.spec_world.specs.Events.{bytes_changed}
use Rattle.law_ties.specs.events.Fronts.{TellsReply, TellsBody, FrontHearsAs, OnLine, InDialog, FrontsAreTaken}
use Rattle.law_ties.proofs.events.Own.{met_alike}
use Rattle.law_ties.proofs.events.Hearing.{op_alike, asked_alike}

pub put_same : {X : Type 0} (f : ℕ → X) (k : ℕ) (v : X) → put f k v k ≡ v
put_same f k v = grind arith

-- the world in which the front has left has the client's end as it was
pub end_is : (w : World) (k : ℕ) (bs : List (List ℕ)) (ys : List Received)
    → ((behind_frame w k bs ys).wires k).client_end ≡ (w.wires k).client_end
end_is w k bs ys = ap (λ (u : Wires). u.client_end) (put_same w.wires k (record (w.wires k) { down = bs }))

-- ---- on a line

token_values : (w : World) (k : ℕ) (x : HeardMessage) (r : Reply) (place : ℕ) (t : Token) → (t ≡ ForDialog → ⊥) → TellsReply x r
    → TellsBody w.values.client.op x r t → (line_heard w k x place (Some t)).values ≡ took_by w.values k r place t
unfolding reply_of
token_values w k x r place ForDialog own same body = absurd (own refl)
token_values w k x r place (ForOp g) own same body =
    op_alike w.values k g (reply_of (command_asked w.values.client g false) x.header x.bytes) r place
    (record { status = same.status; value = body.0; id = body.1 })
token_values w k x r place (ForAttach g) own same body =
    asked_alike w.values k g (reply_of (command_asked w.values.client g true) x.header x.bytes) r place same.status

-- w is the world in which the front has left
line_values : (w : World) (k : ℕ) (b : List ℕ) (x : HeardMessage) (y : Received) → line_response (w.wires k).client_end b ≡ Some x
    → (w.wires k).client_end.awaited x.header.message ≡ Some y.token → (y.token ≡ ForDialog → ⊥) → TellsReply x y.reply
    → TellsBody w.values.client.op x y.reply y.token
    → (line_hears w k y.place (line_response (w.wires k).client_end b)).values ≡ took_by w.values k y.reply y.place y.token
line_values w k b x y opens awaits own same body =
    ap (λ o. (line_hears w k y.place o).values) opens
    ∙ (ap (λ o. (line_heard w k x y.place o).values) awaits ∙ token_values w k x y.reply y.place y.token own same body)

-- ---- in a dialog

told_alike : (c : Client) (stage : Stage) (r s : Reply) → r.session_id ≡ s.session_id → told_session c stage r ≡ told_session c stage s
told_alike c Apart r s e = refl
told_alike c (SaidNegotiate bound) r s e = refl
told_alike c (SaidFirst bound) r s e = refl
told_alike c (SaidSecond true) r s e = refl
told_alike c (SaidSecond false) r s e = e
told_alike c AskedTree r s e = refl

dialog_alike : (v : Values) (k : ℕ) (r s : Reply) (step : DialogStep) → r.session_id ≡ s.session_id → r.tree_id ≡ s.tree_id
    → dialog_took v k r step ≡ dialog_took v k s step
dialog_alike v k r s (GoesOn stage) e t =
    ap (λ p. dialog_sent (with_client v (record v.client { stage = put v.client.stage k stage; pending = p })) k stage)
    (told_alike v.client stage r s e)
dialog_alike v k r s Accepts e t = refl
dialog_alike v k r s Binds e t = refl
dialog_alike v k r s Readies e t = ap (λ i. dialog_ended v k (IsReady k v.client.pending i)) t
dialog_alike v k r s (Refuses status) e t = refl

none_if : (b : Bool) (o : Option Refusal) → (b ≡ true → o ≡ None) → (if b then o else None) ≡ None
none_if true o e = e refl
none_if false o e = refl

passed_values : (z : WorldSettings) (w : World) (k : ℕ) (stage : Stage) (x : HeardMessage) (y : Received) → stage ≡ w.values.client.stage k
    → y.token ≡ ForDialog → TellsReply x y.reply
    → (dialog_passed z w k stage x None).values ≡ took_by w.values k y.reply y.place y.token
unfolding reply_of
passed_values z w k stage x y at own same =
    dialog_alike w.values k (dialog_reply w stage x) y.reply (dialog_step stage x.header.status) same.session same.tree
    ∙ (ap (λ n. dialog_took w.values k y.reply (dialog_step stage n)) same.status
    ∙ (ap (λ s. dialog_took w.values k y.reply (dialog_step s y.reply.status)) at
    ∙ ap (took_by w.values k y.reply y.place) (sym own)))

dialog_values : (z : WorldSettings) (w : World) (k : ℕ) (b : List ℕ) (stage : Stage) (x : HeardMessage) (y : Received)
    → dialog_response (w.wires k).client_end stage b ≡ Some x
    → ((x.header.status == status_due stage) ≡ true → dialog_fault z.client (w.wires k).client_end stage x ≡ None)
    → stage ≡ w.values.client.stage k → y.token ≡ ForDialog → TellsReply x y.reply
    → (dialog_hears z w k stage (dialog_response (w.wires k).client_end stage b)).values ≡ took_by w.values k y.reply y.place y.token
dialog_values z w k b stage x y opens sound at own same =
    ap (λ o. (dialog_hears z w k stage o).values) opens
    ∙ (ap (λ o. (dialog_passed z w k stage x o).values)
    (none_if (x.header.status == status_due stage) (dialog_fault z.client (w.wires k).client_end stage x) sound)
    ∙ passed_values z w k stage x y at own same)

-- by its stage, which isn't a line's
talk_values : (z : WorldSettings) (w : World) (k : ℕ) (b : List ℕ) (stage : Stage) (x : HeardMessage) (y : Received) → (stage ≡ Apart → ⊥)
    → dialog_response (w.wires k).client_end stage b ≡ Some x
    → ((x.header.status == status_due stage) ≡ true → dialog_fault z.client (w.wires k).client_end stage x ≡ None)
    → stage ≡ w.values.client.stage k → y.token ≡ ForDialog → TellsReply x y.reply
    → (hears z w k b y.place stage).values ≡ took_by w.values k y.reply y.place y.token
talk_values z w k b Apart x y off opens sound at own same = absurd (off refl)
talk_values z w k b (SaidNegotiate bound) x y off opens sound at own same =
    dialog_values z w k b (SaidNegotiate bound) x y opens sound at own same
talk_values z w k b (SaidFirst bound) x y off opens sound at own same =
    dialog_values z w k b (SaidFirst bound) x y opens sound at own same
talk_values z w k b (SaidSecond bound) x y off opens sound at own same =
    dialog_values z w k b (SaidSecond bound) x y opens sound at own same
talk_values z w k b AskedTree x y off opens sound at own same = dialog_values z w k b AskedTree x y opens sound at own same

-- ---- either way

heard_values : (z : WorldSettings) (w : World) (k : ℕ) (b : List ℕ) (bs : List (List ℕ)) (y : Received) (ys : List Received)
    → (w.wires k).client_end.stage ≡ w.values.client.stage k → FrontHearsAs z w.values.client.op (w.wires k).client_end b y
    → (hears z (behind_frame w k bs ys) k b y.place (w.wires k).client_end.stage).values
    ≡ take_reply w.values k (y ∷ ys)
heard_values z w k b bs y ys at (OnLine h) =
    let n = (w.wires k).client_end in
    let v = behind_frame w k bs ys in
    let is = end_is w k bs ys in
    ap (λ s. (hears z v k b y.place s).values) h.stage
    ∙ line_values v k b h.heard y (ap (λ m. line_response m b) is ∙ h.opens)
    (ap (λ (m : ClientEnd). m.awaited h.heard.header.message) is ∙ h.awaits) h.own h.same h.body
heard_values z w k b bs y ys at (InDialog h) =
    let n = (w.wires k).client_end in
    let v = behind_frame w k bs ys in
    let is = end_is w k bs ys in
    let x = h.heard in
    talk_values z v k b n.stage x y h.stage (ap (λ m. dialog_response m n.stage b) is ∙ h.opens)
    (λ e. ap (λ m. dialog_fault z.client m n.stage x) is ∙ h.sound e) at h.own h.same

pub fronts_taken : FrontsAreTaken
fronts_taken z w k b bs y ys e h at hear =
    met_alike (is_possible w.values (Take k)) (bytes_changed z w (Take k)) w (taken w.values k) 1
    (ap (λ q. (take_frame z w k q (w.values.conns k).down).values) e
    ∙ (ap (λ q. (take_frame z w k (b ∷ bs) q).values) h
    ∙ (heard_values z w k b bs y ys at hear ∙ ap (take_reply w.values k) (sym h))))
