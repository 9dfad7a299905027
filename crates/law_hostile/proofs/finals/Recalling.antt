-- What an event adds to the final responses that are remembered.
use Rattle.std.proofs.Common.{◌≡◌, ℕ, ◌==◌, Bool, true, false, if◌then◌else◌, List, [], ◌∷◌, ◌++◌, ◌⊎◌, inl, inr, refl, sym, ◌∙◌, ap}
use Rattle.std.proofs.Common.{subst, Option, Some, None, eqb-true}
use Rattle.law_server.proofs.tables.Logic.{either}
use Rattle.spec_exchange.specs.Status.{success, more_processing_required}
use Rattle.spec_exchange.specs.Operations.{Refusal, HadStatus, BadToken}
use Rattle.spec_exchange.specs.Client.{Client, Stage, Apart, SaidNegotiate, SaidFirst, SaidSecond, AskedTree}
use Rattle.spec_exchange.specs.ClientStep.{Act, Nothing, Sends, Asks, CloseChannel, CloseChannels, AllSettled, IsCut, IsReady, IsRefused}
use Rattle.spec_exchange.specs.ClientStep.{Hears, Pushes, act, client_after}
use Rattle.spec_exchange.specs.Dialogs.{DialogStep, GoesOn, Accepts, Binds, Readies, Refuses, dialog_step, went_on}
use Rattle.spec_exchange.specs.Network.{Conn, Event, Submit, Open, Push, Serve, Take, Cut, Drop, Restart, Crash, Wait, Finish, Sent, Token}
use Rattle.spec_exchange.specs.Network.{ForDialog, ForOp, ForAttach, cut_off, with_client, is_possible, moments}
use Rattle.spec_commands.specs.ReplyOf.{reply_of}
use Rattle.spec_world.specs.Settings.{WorldSettings}
use Rattle.spec_world.specs.Messages.{HeardMessage}
use Rattle.spec_world.specs.Ends.{ClientEnd, ConnEnd}
use Rattle.spec_world.specs.Connection.{ConnectionStep}
use Rattle.std.proofs.lemmas.List.{append-nil}
use Rattle.spec_world.specs.Answering.{Ending}
use Rattle.spec_world.specs.Dialog.{line_response, dialog_response, status_due, dialog_fault, paid_in, noted_heard, ended_on}
use Rattle.spec_world.specs.World.{World, Wires, with_values, with_client_end, off_by, one_off, closed_wires, cut_wires, op_heard, line_heard, line_hears}
use Rattle.spec_world.specs.World.{dialog_reply, dialog_passed, dialog_hears, hears, take_frame, behind_frame, command_asked, pushed_wires, paid}
use Rattle.spec_world.specs.World.{dialog_wires, dialog_off, dialog_went, channel_bound, next_token, serve_frame, served_by, step_at}
use Rattle.spec_world.specs.Events.{Plain, bytes_happen, bytes_changed, bytes_later}
use Rattle.law_records.proofs.recovery.Lists.{put_here}
use Rattle.spec_hostile.specs.RepeatRuns.{RepeatWorld, UpFrame, DownFrame, uses_no_list, loaded_up, given_up, loaded_down, given_down, sents, receiveds, down_frames, up_frames}
use Rattle.spec_hostile.specs.SignedFor.{Passes, PassesAt}

-- nothing
abbrev pub Recalls : World → World → Type 0
Recalls w v = (v.made ≡ w.made) × (v.accepted ≡ w.accepted)

recalls_self : (w : World) → Recalls w w
recalls_self w = (refl, refl)

closed_recalls : (w : World) (k : ℕ) (a : Act) → Recalls w (closed_wires w k a)
closed_recalls w k CloseChannels = (refl, refl)
closed_recalls w k CloseChannel = (refl, refl)
closed_recalls w k Nothing = recalls_self w
closed_recalls w k (Sends g) = recalls_self w
closed_recalls w k (Asks g) = recalls_self w
closed_recalls w k AllSettled = recalls_self w

off_recalls : (w : World) (k : ℕ) (a : Act) → Recalls w (off_by w k a)
off_recalls w k CloseChannels = (refl, refl)
off_recalls w k CloseChannel = (refl, refl)
off_recalls w k Nothing = (refl, refl)
off_recalls w k (Sends g) = (refl, refl)
off_recalls w k (Asks g) = (refl, refl)
off_recalls w k AllSettled = (refl, refl)

cut_recalls : (w : World) (k : ℕ) → Recalls w (cut_wires w k)
cut_recalls w k =
    either (λ v. Recalls w v) (w.values.client.ready k) (with_values (off_by w k (act w.values.client (IsCut k))) (cut_off w.values k))
    (with_values (one_off w k) (cut_off w.values k))
    (λ _. off_recalls w k (act w.values.client (IsCut k)))
    (λ _. (refl, refl))

pushed_recalls : (w : World) (k : ℕ) (c : Client) (a : Act) → Recalls w (pushed_wires w k c a)
pushed_recalls w k c (Sends g) = (refl, refl)
pushed_recalls w k c (Asks g) = (refl, refl)
pushed_recalls w k c Nothing = recalls_self w
pushed_recalls w k c CloseChannel = recalls_self w
pushed_recalls w k c CloseChannels = recalls_self w
pushed_recalls w k c AllSettled = recalls_self w

changed_recalls : (z : WorldSettings) (w : World) (e : Event) → uses_no_list e ≡ true → Recalls w (bytes_changed z w e)
changed_recalls z w (Submit g op) s = (refl, refl)
changed_recalls z w (Open k) s = (refl, refl)
changed_recalls z w (Push k slotless pick) s =
    let p = Pushes k slotless (paid w k slotless pick) in
    pushed_recalls w k (client_after w.values.client p) (act w.values.client p)
changed_recalls z w (Serve k) s = absurd (cc)
changed_recalls z w (Take k) s = absurd (cc)
changed_recalls z w (Cut k) s = cut_recalls w k
changed_recalls z w (Drop k) s = (refl, refl)
changed_recalls z w Restart s = (refl, refl)
changed_recalls z w (Crash k kept) s = absurd (cc)
changed_recalls z w (Wait n) s = absurd (cc)
changed_recalls z w (Finish refusal) s = absurd (cc)

pub same_recalls : (z : WorldSettings) (w : World) (e : Event) → uses_no_list e ≡ true → Recalls w (bytes_happen z w (Plain e))
same_recalls z w e s =
    either (λ v. Recalls w v) (is_possible w.values e) (bytes_later (bytes_changed z w e) (moments e)) w
    (λ _. changed_recalls z w e s) (λ _. recalls_self w)

-- ---- a reply is taken: nothing, or a final response is accepted, where its dialog waits for one

pub record AcceptsOne (z : WorldSettings) (old new : List Ending) (n : ClientEnd) (frame : List ℕ) (stage : Stage) : Type 0 where
  pub bound : Bool
  pub due : stage ≡ SaidSecond bound
  pub passes : PassesAt z n (SaidSecond bound) frame
  pub heard : HeardMessage
  pub accepted : new ≡ old ++ ended_on n heard bound ∷ []

abbrev pub Takes : WorldSettings → World → World → ClientEnd → List ℕ → Stage → Type 0
Takes z w v n frame stage = (v.made ≡ w.made) × ((v.accepted ≡ w.accepted) ⊎ AcceptsOne z w.accepted v.accepted n frame stage)

quietly : (z : WorldSettings) (w v : World) (n : ClientEnd) (frame : List ℕ) (stage : Stage) → Recalls w v → Takes z w v n frame stage
quietly z w v n frame stage h = (h.0, inl h.1)

op_recalls : (w : World) (k g : ℕ) (asking : Bool) (x : HeardMessage) (place : ℕ) → Recalls w (op_heard w k g asking x place)
op_recalls w k g asking x place =
    let v = with_client_end w k (paid_in (w.wires k).client_end x.header) in
    let a = act w.values.client (Hears k g asking (reply_of (command_asked w.values.client g asking) x.header x.bytes) place) in
    closed_recalls v k a

line_recalls : (w : World) (k : ℕ) (x : HeardMessage) (place : ℕ) (t : Option Token) → Recalls w (line_heard w k x place t)
line_recalls w k x place (Some (ForOp g)) = op_recalls w k g false x place
line_recalls w k x place (Some (ForAttach g)) = op_recalls w k g true x place
line_recalls w k x place (Some ForDialog) = cut_recalls w k
line_recalls w k x place None = cut_recalls w k

lines_recall : (w : World) (k place : ℕ) (o : Option HeardMessage) → Recalls w (line_hears w k place o)
lines_recall w k place None = cut_recalls w k
lines_recall w k place (Some x) = line_recalls w k x place ((w.wires k).client_end.awaited x.header.message)

went_recalls : (w : World) (k : ℕ) (s : Stage) (token : List ℕ) → Recalls w (dialog_went w k s token)
went_recalls w k (SaidFirst bound) token = (refl, refl)
went_recalls w k (SaidSecond bound) token = (refl, refl)
went_recalls w k Apart token = recalls_self w
went_recalls w k (SaidNegotiate bound) token = recalls_self w
went_recalls w k AskedTree token = recalls_self w

-- a step that accepts no session and binds no channel
abbrev ends_nothing : DialogStep → Bool
ends_nothing Accepts = false
ends_nothing Binds = false
ends_nothing _ = true

dialog_recalls : (z : WorldSettings) (w : World) (k : ℕ) (stage : Stage) (x : HeardMessage) (d : DialogStep) → ends_nothing d ≡ true
    → Recalls w (dialog_wires z w k stage x d)
dialog_recalls z w k stage x (GoesOn next) q =
    let n = (w.wires k).client_end in
    let c = went_on w.values.client k next (dialog_reply w stage x) in
    let v = with_client_end (with_values w (with_client w.values c)) k (noted_heard n stage x) in
    went_recalls v k next (next_token z n next x.bytes)
dialog_recalls z w k stage x Accepts q = absurd (cc)
dialog_recalls z w k stage x Binds q = absurd (cc)
dialog_recalls z w k stage x Readies q =
    let v = with_client_end w k (record (paid_in (w.wires k).client_end x.header) { stage = Apart }) in
    closed_recalls v k (act w.values.client (IsReady k w.values.client.pending (dialog_reply w stage x).tree_id))
dialog_recalls z w k stage x (Refuses status) q = closed_recalls w k (act w.values.client (IsRefused k (HadStatus status)))

binds_one : (z : WorldSettings) (w : World) (k : ℕ) (stage : Stage) (x : HeardMessage)
    → ((dialog_wires z w k stage x Binds).made ≡ w.made)
    × ((dialog_wires z w k stage x Binds).accepted ≡ w.accepted ++ ended_on (w.wires k).client_end x true ∷ [])
binds_one z w k stage x =
    closed_recalls (channel_bound w k x) k (act w.values.client (IsReady k w.values.client.session w.values.client.tree))

-- the response that is due, without a fault
abbrev IsDue : WorldSettings → ClientEnd → Stage → List ℕ → HeardMessage → Type 0
IsDue z n stage frame x = (x.header.status == status_due stage) ≡ true → PassesAt z n stage frame

step_takes : (z : WorldSettings) (w : World) (k : ℕ) (frame : List ℕ) (x : HeardMessage) (stage : Stage)
    → IsDue z (w.wires k).client_end stage frame x
    → Takes z w (dialog_wires z w k stage x (dialog_step stage x.header.status)) (w.wires k).client_end frame stage
step_takes z w k frame x Apart due =
    quietly z w (dialog_wires z w k Apart x (Refuses x.header.status)) (w.wires k).client_end frame Apart
    (dialog_recalls z w k Apart x (Refuses x.header.status) refl)
step_takes z w k frame x (SaidNegotiate bound) due =
    quietly z w (dialog_wires z w k (SaidNegotiate bound) x (dialog_step (SaidNegotiate bound) x.header.status)) (w.wires k).client_end frame
    (SaidNegotiate bound)
    (either (λ d. Recalls w (dialog_wires z w k (SaidNegotiate bound) x d)) (x.header.status == success) (GoesOn (SaidFirst bound))
    (Refuses x.header.status) (λ _. dialog_recalls z w k (SaidNegotiate bound) x (GoesOn (SaidFirst bound)) refl)
    (λ _. dialog_recalls z w k (SaidNegotiate bound) x (Refuses x.header.status) refl))
step_takes z w k frame x (SaidFirst bound) due =
    quietly z w (dialog_wires z w k (SaidFirst bound) x (dialog_step (SaidFirst bound) x.header.status)) (w.wires k).client_end frame
    (SaidFirst bound)
    (either (λ d. Recalls w (dialog_wires z w k (SaidFirst bound) x d)) (x.header.status == more_processing_required)
    (GoesOn (SaidSecond bound)) (Refuses x.header.status)
    (λ _. dialog_recalls z w k (SaidFirst bound) x (GoesOn (SaidSecond bound)) refl)
    (λ _. dialog_recalls z w k (SaidFirst bound) x (Refuses x.header.status) refl))
step_takes z w k frame x (SaidSecond true) due =
    let n = (w.wires k).client_end in
    either (λ d. Takes z w (dialog_wires z w k (SaidSecond true) x d) n frame (SaidSecond true)) (x.header.status == success) Binds
    (Refuses x.header.status)
    (λ on. let h = binds_one z w k (SaidSecond true) x in (
      h.0,
      inr (record {
        bound = true;
        due = refl;
        passes = due on;
        heard = x;
        accepted = h.1;
      }),
    ))
    (λ _. quietly z w (dialog_wires z w k (SaidSecond true) x (Refuses x.header.status)) n frame (SaidSecond true)
    (dialog_recalls z w k (SaidSecond true) x (Refuses x.header.status) refl))
step_takes z w k frame x (SaidSecond false) due =
    let n = (w.wires k).client_end in
    either (λ d. Takes z w (dialog_wires z w k (SaidSecond false) x d) n frame (SaidSecond false)) (x.header.status == success) Accepts
    (Refuses x.header.status)
    (λ on. (
      refl,
      inr (record {
        bound = false;
        due = refl;
        passes = due on;
        heard = x;
        accepted = refl;
      }),
    ))
    (λ _. quietly z w (dialog_wires z w k (SaidSecond false) x (Refuses x.header.status)) n frame (SaidSecond false)
    (dialog_recalls z w k (SaidSecond false) x (Refuses x.header.status) refl))
step_takes z w k frame x AskedTree due =
    quietly z w (dialog_wires z w k AskedTree x (dialog_step AskedTree x.header.status)) (w.wires k).client_end frame AskedTree
    (either (λ d. Recalls w (dialog_wires z w k AskedTree x d)) (x.header.status == success) Readies (Refuses x.header.status)
    (λ _. dialog_recalls z w k AskedTree x Readies refl) (λ _. dialog_recalls z w k AskedTree x (Refuses x.header.status) refl))

refused_recalls : (w : World) (k : ℕ) (why : Refusal) → Recalls w (dialog_off w k why)
refused_recalls w k why =
    closed_recalls w k (act w.values.client (IsRefused k why))

passed_takes : (z : WorldSettings) (w : World) (k : ℕ) (stage : Stage) (frame : List ℕ) (x : HeardMessage) (o : Option Refusal)
    → (o ≡ None → IsDue z (w.wires k).client_end stage frame x)
    → Takes z w (dialog_passed z w k stage x o) (w.wires k).client_end frame stage
passed_takes z w k stage frame x (Some why) due =
    quietly z w (dialog_off w k why) (w.wires k).client_end frame stage (refused_recalls w k why)
passed_takes z w k stage frame x None due =
    step_takes z w k frame x stage (due refl)

passes_on : (z : WorldSettings) (n : ClientEnd) (stage : Stage) (frame : List ℕ) (x : HeardMessage) → x.header.status ≡ status_due stage
    → dialog_fault z.client n stage x ≡ None → dialog_response n stage frame ≡ Some x → PassesAt z n stage frame
passes_on z n stage frame x s f e = subst (λ o. Passes z n stage o) (sym e) (s, f)

response_takes : (z : WorldSettings) (w : World) (k : ℕ) (stage : Stage) (frame : List ℕ) (o : Option HeardMessage)
    → dialog_response (w.wires k).client_end stage frame ≡ o → Takes z w (dialog_hears z w k stage o) (w.wires k).client_end frame stage
response_takes z w k stage frame None e =
    quietly z w (dialog_off w k BadToken) (w.wires k).client_end frame stage (refused_recalls w k BadToken)
response_takes z w k stage frame (Some x) e =
    let n = (w.wires k).client_end in
    let fault = dialog_fault z.client n stage x in
    passed_takes z w k stage frame x (if x.header.status == status_due stage then fault else None)
    (λ none on. passes_on z n stage frame x (eqb-true x.header.status (status_due stage) on) (sym (ap (λ b. if b then fault else None) on) ∙ none) e)

heard_takes : (z : WorldSettings) (w : World) (k : ℕ) (frame : List ℕ) (place : ℕ) (s : Stage)
    → Takes z w (hears z w k frame place s) (w.wires k).client_end frame s
heard_takes z w k frame place Apart =
    let o = line_response (w.wires k).client_end frame in
    quietly z w (line_hears w k place o) (w.wires k).client_end frame Apart (lines_recall w k place o)
heard_takes z w k frame place (SaidNegotiate bound) =
    response_takes z w k (SaidNegotiate bound) frame (dialog_response (w.wires k).client_end (SaidNegotiate bound) frame) refl
heard_takes z w k frame place (SaidFirst bound) =
    response_takes z w k (SaidFirst bound) frame (dialog_response (w.wires k).client_end (SaidFirst bound) frame) refl
heard_takes z w k frame place (SaidSecond bound) =
    response_takes z w k (SaidSecond bound) frame (dialog_response (w.wires k).client_end (SaidSecond bound) frame) refl
heard_takes z w k frame place AskedTree =
    response_takes z w k AskedTree frame (dialog_response (w.wires k).client_end AskedTree frame) refl

-- ---- Give down

pub wires_loaded : (r : RepeatWorld) (k : ℕ) (d : DownFrame)
    → (loaded_down r k d).wires k ≡ record (r.world.wires k) { up = []; down = d.frame ∷ [] }
unfolding down_frames up_frames
wires_loaded r k d = put_here r.world.wires k (record (r.world.wires k) { up = up_frames []; down = down_frames (d ∷ []) })

pub conn_loaded : (r : RepeatWorld) (k : ℕ) (d : DownFrame) → ((loaded_down r k d).values.conns k).down ≡ d.received ∷ []
unfolding receiveds
conn_loaded r k d =
    ap (λ (c : Conn). c.down) (put_here r.world.values.conns k (record (r.world.values.conns k) {
      client_open = true;
      up = sents [];
      down = receiveds (d ∷ []);
    }))

loaded_takes : (z : WorldSettings) (r : RepeatWorld) (k : ℕ) (d : DownFrame)
    → Takes z r.world (take_frame z (loaded_down r k d) k (d.frame ∷ []) (d.received ∷ [])) (r.world.wires k).client_end d.frame
    (r.world.wires k).client_end.stage
loaded_takes z r k d =
    let w = loaded_down r k d in
    let v = behind_frame w k [] [] in
    let s = (w.wires k).client_end.stage in
    let u = hears z v k d.frame d.received.place s in
    let here : (w.wires k).client_end ≡ (r.world.wires k).client_end = ap (λ (x : Wires). x.client_end) (wires_loaded r k d) in
    let there : (v.wires k).client_end ≡ (r.world.wires k).client_end =
    ap (λ (x : Wires). x.client_end) (put_here w.wires k (record (w.wires k) { down = [] })) ∙ here in
    subst (λ t. Takes z r.world u (r.world.wires k).client_end d.frame t) (ap (λ (n : ClientEnd). n.stage) here)
    (subst (λ n. Takes z r.world u n d.frame s) there (heard_takes z v k d.frame d.received.place s))

pub down_takes : (z : WorldSettings) (r : RepeatWorld) (k : ℕ) (d : DownFrame)
    → Takes z r.world (given_down z r k d).world (r.world.wires k).client_end d.frame (r.world.wires k).client_end.stage
down_takes z r k d =
    let w = loaded_down r k d in
    let n = (r.world.wires k).client_end in
    either (λ (v : World). Takes z r.world v n d.frame n.stage) (is_possible w.values (Take k)) (bytes_later (bytes_changed z w (Take k)) 1) w
    (λ _. subst (λ bs. Takes z r.world (take_frame z w k bs (w.values.conns k).down) n d.frame n.stage)
    (sym (ap (λ (x : Wires). x.down) (wires_loaded r k d)))
    (subst (λ ys. Takes z r.world (take_frame z w k (d.frame ∷ []) ys) n d.frame n.stage) (sym (conn_loaded r k d)) (loaded_takes z r k d)))
    (λ _. (refl, inl refl))

-- ---- Give up: what the server made is added

by_end_recalls : (w : World) (k : ℕ) (bs : List (List ℕ)) (xs : List Sent) (x : Sent) (S : ConnectionStep) (o : Option ConnEnd)
    → (more : List Ending) × ((served_by w k bs xs x.token S o).made ≡ w.made ++ more) × ((served_by w k bs xs x.token S o).accepted ≡ w.accepted)
by_end_recalls w k bs xs x S None = (S.made, refl, refl)
by_end_recalls w k bs xs x S (Some why) = ([], sym (append-nil w.made), refl)

serve_recalls : (z : WorldSettings) (w : World) (k : ℕ) (bs : List (List ℕ)) (xs : List Sent)
    → (more : List Ending) × ((serve_frame z w k bs xs).made ≡ w.made ++ more) × ((serve_frame z w k bs xs).accepted ≡ w.accepted)
serve_recalls z w k [] xs = ([], sym (append-nil w.made), refl)
serve_recalls z w k (b ∷ bs) [] = ([], sym (append-nil w.made), refl)
serve_recalls z w k (b ∷ bs) (x ∷ xs) = let S = step_at z w k b in by_end_recalls w k bs xs x S S.ends

pub up_recalls : (z : WorldSettings) (r : RepeatWorld) (k : ℕ) (u : UpFrame)
    → (more : List Ending) × ((given_up z r k u).world.made ≡ r.world.made ++ more) × ((given_up z r k u).world.accepted ≡ r.world.accepted)
up_recalls z r k u =
    let w = loaded_up r k u in
    either (λ (v : World). (more : List Ending) × (v.made ≡ r.world.made ++ more) × (v.accepted ≡ r.world.accepted))
    (is_possible w.values (Serve k)) (bytes_later (bytes_changed z w (Serve k)) 1) w
    (λ _. serve_recalls z w k (w.wires k).up (w.values.conns k).up) (λ _. ([], sym (append-nil r.world.made), refl))
