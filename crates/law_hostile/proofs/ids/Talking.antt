-- What a dialog's response, or any reply, makes the client put up.
use Rattle.std.proofs.Common.{◌≡◌, ℕ, ◌+◌, ◌≤◌, ◌==◌, nat_lt, Bool, true, false, if◌then◌else◌, List, [], ◌∷◌, refl, sym, ◌∙◌, ap, arith}
use Rattle.std.proofs.Common.{subst, Option, Some, None}
use Rattle.std.proofs.lemmas.Bool.Decides.{nat_tests}
use Rattle.law_server.proofs.tables.Logic.{either}
use Rattle.law_records.proofs.recovery.Lists.{put_here}
use Rattle.spec_wire.specs.declared.messages.header.Header.{Header}
use Rattle.spec_wire.specs.credits.Purse.{after_add}
use Rattle.spec_exchange.specs.Table.{put}
use Rattle.spec_exchange.specs.Status.{success, more_processing_required}
use Rattle.spec_exchange.specs.Operations.{Refusal, HadStatus, BadToken, BadSignature, BadChoice}
use Rattle.spec_exchange.specs.Commands.{SetupRequest, Shows, Begins}
use Rattle.spec_exchange.specs.Client.{Client, Stage, Apart, SaidNegotiate, SaidFirst, SaidSecond, AskedTree}
use Rattle.spec_exchange.specs.ClientStep.{IsReady, IsRefused, ClientEvent, act}
use Rattle.spec_exchange.specs.Dialogs.{DialogStep, GoesOn, Accepts, Binds, Readies, Refuses, dialog_step, dialog_message, went_on, accepted}
use Rattle.spec_exchange.specs.Dialogs.{stage_command, setup_of}
use Rattle.spec_exchange.specs.Network.{Conn, Received, ForDialog, send_up, closed_by, dialog_took, with_client}
use Rattle.spec_world.specs.Settings.{WorldSettings}
use Rattle.spec_world.specs.Messages.{HeardMessage}
use Rattle.spec_world.specs.Ends.{ClientEnd}
use Rattle.spec_world.specs.Sending.{setup_frame, spent}
use Rattle.spec_world.specs.Dialog.{line_response, dialog_response, status_due, dialog_fault, first_refusal, unless, pays_next, paid_in, setup_token}
use Rattle.spec_world.specs.Dialog.{has_form, choices_of, has_token, is_signed, flags_fit, noted_heard, accepted_end, bound_end}
use Rattle.spec_world.specs.World.{World, Wires, with_values, with_client_end, closed_wires, dialog_reply, dialog_passed, dialog_hears, hears}
use Rattle.spec_world.specs.World.{take_frame, behind_frame, dialog_wires, dialog_off, setup_sent, previous_of, session_accepted, channel_bound}
use Rattle.spec_world.specs.World.{next_token, noted_sent}
use Rattle.law_hostile.specs.meant.Meant.{IsOwnToken, BeginsLogon, AnswersChallenge}
use Rattle.law_hostile.proofs.ids.Bearing.{Bears, setup_bears}
use Rattle.law_hostile.proofs.ids.Sending.{same_self, same_put, closed_same}
use Rattle.law_hostile.proofs.ids.Paying.{AllReady, AllBehind, SameEnds, Ready, Behind, small_id, all_behind, behind_of, ends_put, ends_then}
use Rattle.law_hostile.proofs.ids.Paying.{ends_added, closed_ends, quiet, sent_behind, line_behind, line_hears_behind}

-- ---- where a response has no fault, the next request is paid for

later_none : (o later : Option Refusal) → first_refusal o later ≡ None → later ≡ None
later_none None later e = e
later_none (Some why) later e = absurd (cc)

kept : (b : Bool) (why : Refusal) → unless b why ≡ None → b ≡ true
kept true why e = refl
kept false why e = absurd (cc)

last_of : (a b c d e f : Option Refusal)
    → first_refusal a (first_refusal b (first_refusal c (first_refusal d (first_refusal e f)))) ≡ None → f ≡ None
last_of a b c d e f h =
    later_none e f (later_none d (first_refusal e f) (later_none c (first_refusal d (first_refusal e f))
    (later_none b (first_refusal c (first_refusal d (first_refusal e f)))
    (later_none a (first_refusal b (first_refusal c (first_refusal d (first_refusal e f)))) h))))

pays : (z : WorldSettings) (n : ClientEnd) (stage : Stage) (x : HeardMessage) → dialog_fault z.client n stage x ≡ None
    → pays_next n stage x.header ≡ true
pays z n stage x e =
    kept (pays_next n stage x.header) BadToken
    (last_of (unless (has_form n stage x) BadToken) (choices_of z.client stage x.bytes) (unless (has_token z.client n stage x.bytes) BadToken)
    (unless (is_signed n stage x.bytes) BadSignature) (unless (flags_fit n stage x.bytes) (BadChoice 5))
    (unless (pays_next n stage x.header) BadToken) e)

some_held : (n : ℕ) → nat_lt 0 n ≡ true → 1 ≤ n
some_held n e = grind (arith, nat_tests)

-- ---- the next request of a dialog

-- what its SESSION_SETUP asks
abbrev request_in : Client → Bool → Shows → SetupRequest
request_in c bound shows = record {
  readable = true;
  binding = bound;
  signed = bound;
  verified = bound;
  previous = if bound then 0 else c.accepted;
  cipher = c.who.cipher;
  signing = c.who.signing;
  shows = shows;
}

setup_behind : (z : WorldSettings) (a : World) (conns : ℕ → Conn) (k : ℕ) (stage : Stage) (bound : Bool) (shows : Shows) (token : List ℕ)
    → stage_command a.values.client stage ≡ setup_of a.values.client bound shows → IsOwnToken z token → AllReady a.wires conns → 1 ≤ (a.wires k).client_end.purse.held
    → AllBehind z (setup_sent a k stage bound token).wires
    (put conns k (send_up (conns k) ForDialog (dialog_message a.values.client k (conns k).next_id stage) 1))
setup_behind z a conns k stage bound shows token command own all had =
    let n = (a.wires k).client_end in
    let c = a.values.client in
    let i = (all k).purse in
    let previous = previous_of c bound in
    let frame = setup_frame n bound previous token (dialog_message c k n.purse.next stage) in
    sent_behind z a.wires conns k (noted_sent (spent n 1 ForDialog) stage frame) frame ForDialog (dialog_message c k (conns k).next_id stage) 1
    all refl (omega arith) (omega (arith, had))
    (subst (λ id. Bears z k frame (dialog_message c k id stage)) i.next_is
    (setup_bears z k n (request_in c bound shows) token (dialog_message c k n.purse.next stage) refl refl command refl own
    (small_id n.purse (conns k).next_id i)))

-- behind a response that was noted at the client's end, which has its credits
record Noted (w : World) (k : ℕ) (h : Header) (n : ClientEnd) : Type 0 where
  ready : AllReady (put w.wires k (record (w.wires k) { client_end = n })) w.values.conns
  held : (put w.wires k (record (w.wires k) { client_end = n }) k).client_end.purse.held ≡ (after_add h.credits (w.wires k).client_end.purse).held

noted : (w : World) (k : ℕ) (h : Header) (n : ClientEnd) → n.purse ≡ after_add h.credits (w.wires k).client_end.purse → Ready w → Noted w k h n
noted w k h n e all =
    let u : Wires = record (w.wires k) { client_end = n } in
    record {
      ready = quiet w.wires (put w.wires k u) w.values.conns w.values.conns (ends_added w.wires k n h e) (same_self w.values.conns) all;
      held = ap (λ (v : Wires). v.client_end.purse.held) (put_here w.wires k u) ∙ ap (λ p. p.held) e;
    }

enough : (a b : ℕ) → a ≡ b → 1 ≤ b → 1 ≤ a
enough a b e l = omega (arith, e, l)

first_behind : (z : WorldSettings) (w : World) (k : ℕ) (stage : Stage) (x : HeardMessage) (bound : Bool)
    → nat_lt 0 (after_add x.header.credits (w.wires k).client_end.purse).held ≡ true → Ready w
    → AllBehind z (dialog_wires z w k stage x (GoesOn (SaidFirst bound))).wires
    (dialog_took w.values k (dialog_reply w stage x) (GoesOn (SaidFirst bound))).conns
first_behind z w k stage x bound on all =
    let n = (w.wires k).client_end in
    let c = went_on w.values.client k (SaidFirst bound) (dialog_reply w stage x) in
    let a = with_client_end (with_values w (with_client w.values c)) k (noted_heard n stage x) in
    let h = noted w k x.header (noted_heard n stage x) refl all in
    setup_behind z a w.values.conns k (SaidFirst bound) bound Begins (next_token z n (SaidFirst bound) x.bytes) refl (BeginsLogon refl) h.ready
    (enough _ _ h.held (some_held (after_add x.header.credits n.purse).held on))

second_behind : (z : WorldSettings) (w : World) (k : ℕ) (stage : Stage) (x : HeardMessage) (bound : Bool)
    → nat_lt 0 (after_add x.header.credits (w.wires k).client_end.purse).held ≡ true → Ready w
    → AllBehind z (dialog_wires z w k stage x (GoesOn (SaidSecond bound))).wires
    (dialog_took w.values k (dialog_reply w stage x) (GoesOn (SaidSecond bound))).conns
second_behind z w k stage x bound on all =
    let n = (w.wires k).client_end in
    let c = went_on w.values.client k (SaidSecond bound) (dialog_reply w stage x) in
    let a = with_client_end (with_values w (with_client w.values c)) k (noted_heard n stage x) in
    let h = noted w k x.header (noted_heard n stage x) refl all in
    setup_behind z a w.values.conns k (SaidSecond bound) bound c.who.logon (next_token z n (SaidSecond bound) x.bytes) refl
    (AnswersChallenge n (setup_token x.bytes) refl) h.ready
    (enough _ _ h.held (some_held (after_add x.header.credits n.purse).held on))

tree_behind : (z : WorldSettings) (w : World) (k : ℕ) (stage : Stage) (x : HeardMessage)
    → nat_lt 0 (after_add x.header.credits (w.wires k).client_end.purse).held ≡ true → Ready w
    → AllBehind z (dialog_wires z w k stage x Accepts).wires (dialog_took w.values k (dialog_reply w stage x) Accepts).conns
tree_behind z w k stage x on all =
    let n = (w.wires k).client_end in
    let a = session_accepted w k x in
    let h = noted w k x.header (accepted_end n x w.values.client.pending) refl all in
    let had : 1 ≤ (a.wires k).client_end.purse.held =
    enough _ _ h.held (some_held (after_add x.header.credits n.purse).held on) in
    line_behind z a w.values.conns k ForDialog (λ id. dialog_message (accepted w.values.client k) k id AskedTree) 1 h.ready (λ id. refl)
    (λ id. record { connection = refl; fault = refl; pays = refl })
    (omega arith) (omega (arith, had))

-- ---- a dialog ends

ended_behind : (z : WorldSettings) (w v : World) (k : ℕ) (e : ClientEvent) → SameEnds w.wires v.wires → Ready w
    → AllBehind z (closed_wires v k (act w.values.client e)).wires (closed_by w.values k (act w.values.client e)).conns
ended_behind z w v k e same all =
    let a = act w.values.client e in
    all_behind z (closed_wires v k a).wires (closed_by w.values k a).conns
    (quiet w.wires (closed_wires v k a).wires w.values.conns (closed_by w.values k a).conns
    (ends_then w.wires v.wires (closed_wires v k a).wires same (closed_ends v k a)) (closed_same w.values k a) all)

binds_behind : (z : WorldSettings) (w : World) (k : ℕ) (stage : Stage) (x : HeardMessage) → Ready w
    → AllBehind z (dialog_wires z w k stage x Binds).wires (dialog_took w.values k (dialog_reply w stage x) Binds).conns
binds_behind z w k stage x all =
    ended_behind z w (channel_bound w k x) k (IsReady k w.values.client.session w.values.client.tree)
    (ends_added w.wires k (bound_end (w.wires k).client_end x (w.numbers + 1)) x.header refl) all

readies_behind : (z : WorldSettings) (w : World) (k : ℕ) (stage : Stage) (x : HeardMessage) → Ready w
    → AllBehind z (dialog_wires z w k stage x Readies).wires (dialog_took w.values k (dialog_reply w stage x) Readies).conns
readies_behind z w k stage x all =
    let n = (w.wires k).client_end in
    let v = with_client_end w k (record (paid_in n x.header) { stage = Apart }) in
    ended_behind z w v k (IsReady k w.values.client.pending (dialog_reply w stage x).tree_id)
    (ends_added w.wires k (record (paid_in n x.header) { stage = Apart }) x.header refl) all

refuses_behind : (z : WorldSettings) (w : World) (k : ℕ) (stage : Stage) (x : HeardMessage) (status : ℕ) → Ready w
    → AllBehind z (dialog_wires z w k stage x (Refuses status)).wires (dialog_took w.values k (dialog_reply w stage x) (Refuses status)).conns
refuses_behind z w k stage x status all =
    ended_behind z w w k (IsRefused k (HadStatus status)) (λ j. record { pay = λ n i. i; up = refl }) all

off_behind : (z : WorldSettings) (w : World) (k : ℕ) (why : Refusal) → Ready w → Behind z (dialog_off w k why)
off_behind z w k why all = ended_behind z w w k (IsRefused k why) (λ j. record { pay = λ n i. i; up = refl }) all

-- ---- by the stage of the dialog

abbrev StepBehind : WorldSettings → World → ℕ → Stage → HeardMessage → DialogStep → Type 0
StepBehind z w k stage x d = AllBehind z (dialog_wires z w k stage x d).wires (dialog_took w.values k (dialog_reply w stage x) d).conns

step_behind : (z : WorldSettings) (w : World) (k : ℕ) (x : HeardMessage) (stage : Stage)
    → ((x.header.status == status_due stage) ≡ true → pays_next (w.wires k).client_end stage x.header ≡ true) → Ready w
    → StepBehind z w k stage x (dialog_step stage x.header.status)
step_behind z w k x Apart p all = refuses_behind z w k Apart x x.header.status all
step_behind z w k x (SaidNegotiate bound) p all =
    either (StepBehind z w k (SaidNegotiate bound) x) (x.header.status == success) (GoesOn (SaidFirst bound)) (Refuses x.header.status)
    (λ on. first_behind z w k (SaidNegotiate bound) x bound (p on) all)
    (λ _. refuses_behind z w k (SaidNegotiate bound) x x.header.status all)
step_behind z w k x (SaidFirst bound) p all =
    either (StepBehind z w k (SaidFirst bound) x) (x.header.status == more_processing_required) (GoesOn (SaidSecond bound))
    (Refuses x.header.status) (λ on. second_behind z w k (SaidFirst bound) x bound (p on) all)
    (λ _. refuses_behind z w k (SaidFirst bound) x x.header.status all)
step_behind z w k x (SaidSecond true) p all =
    either (StepBehind z w k (SaidSecond true) x) (x.header.status == success) Binds (Refuses x.header.status)
    (λ on. binds_behind z w k (SaidSecond true) x all) (λ _. refuses_behind z w k (SaidSecond true) x x.header.status all)
step_behind z w k x (SaidSecond false) p all =
    either (StepBehind z w k (SaidSecond false) x) (x.header.status == success) Accepts (Refuses x.header.status)
    (λ on. tree_behind z w k (SaidSecond false) x (p on) all)
    (λ _. refuses_behind z w k (SaidSecond false) x x.header.status all)
step_behind z w k x AskedTree p all =
    either (StepBehind z w k AskedTree x) (x.header.status == success) Readies (Refuses x.header.status)
    (λ on. readies_behind z w k AskedTree x all) (λ _. refuses_behind z w k AskedTree x x.header.status all)

passed_behind : (z : WorldSettings) (w : World) (k : ℕ) (stage : Stage) (x : HeardMessage) (o : Option Refusal)
    → (o ≡ None → (x.header.status == status_due stage) ≡ true → pays_next (w.wires k).client_end stage x.header ≡ true) → Ready w
    → Behind z (dialog_passed z w k stage x o)
passed_behind z w k stage x (Some why) p all = off_behind z w k why all
passed_behind z w k stage x None p all = step_behind z w k x stage (λ on. p refl on) all

response_behind : (z : WorldSettings) (w : World) (k : ℕ) (stage : Stage) (o : Option HeardMessage) → Ready w
    → Behind z (dialog_hears z w k stage o)
response_behind z w k stage None all = off_behind z w k BadToken all
response_behind z w k stage (Some x) all =
    let fault = dialog_fault z.client (w.wires k).client_end stage x in
    passed_behind z w k stage x (if x.header.status == status_due stage then fault else None)
    (λ none on. pays z (w.wires k).client_end stage x (sym (ap (λ b. if b then fault else None) on) ∙ none)) all

heard_behind : (z : WorldSettings) (w : World) (k : ℕ) (frame : List ℕ) (place : ℕ) (s : Stage) → Ready w
    → Behind z (hears z w k frame place s)
heard_behind z w k frame place Apart all = line_hears_behind z w k place (line_response (w.wires k).client_end frame) all
heard_behind z w k frame place (SaidNegotiate bound) all =
    response_behind z w k (SaidNegotiate bound) (dialog_response (w.wires k).client_end (SaidNegotiate bound) frame) all
heard_behind z w k frame place (SaidFirst bound) all =
    response_behind z w k (SaidFirst bound) (dialog_response (w.wires k).client_end (SaidFirst bound) frame) all
heard_behind z w k frame place (SaidSecond bound) all =
    response_behind z w k (SaidSecond bound) (dialog_response (w.wires k).client_end (SaidSecond bound) frame) all
heard_behind z w k frame place AskedTree all =
    response_behind z w k AskedTree (dialog_response (w.wires k).client_end AskedTree frame) all

pub take_behind : (z : WorldSettings) (w : World) (k : ℕ) (bs : List (List ℕ)) (ys : List Received) → Ready w
    → Behind z (take_frame z w k bs ys)
take_behind z w k [] ys all = behind_of z w all
take_behind z w k (b ∷ bs) [] all = behind_of z w all
take_behind z w k (b ∷ bs) (y ∷ ys) all =
    let v = behind_frame w k bs ys in
    heard_behind z v k b y.place (w.wires k).client_end.stage
    (quiet w.wires v.wires w.values.conns v.values.conns (ends_put w.wires k _ (record { pay = λ n i. i; up = refl }))
    (same_put w.values.conns k _ refl refl) all)
