-- What a response that the network gives to a client's end does to the sessions that its dialogs name.
use Rattle.std.proofs.Common.{◌≡◌, ℕ, zero, suc, ◌+◌, ◌==◌, Bool, true, false, if◌then◌else◌, List, [], ◌∷◌, ◌++◌, refl, sym}
use Rattle.std.proofs.Common.{ap, ◌∙◌, subst, eqb-true, Option, Some, None, slice_get}
use Rattle.law_server.proofs.tables.Logic.{either}
use Rattle.law_records.proofs.recovery.Lists.{put_here}
use Rattle.law_nonces.proofs.negotiation.Tables.{by_key, put_other}
use Rattle.spec_wire.specs.messages.Places.{number_of, le}
use Rattle.spec_exchange.specs.Table.{put}
use Rattle.spec_exchange.specs.Status.{success, more_processing_required}
use Rattle.spec_exchange.specs.Operations.{Refusal, HadStatus, BadToken}
use Rattle.spec_exchange.specs.State.{Reply}
use Rattle.spec_exchange.specs.Client.{Client, Stage, Apart, SaidNegotiate, SaidFirst, SaidSecond, AskedTree}
use Rattle.spec_exchange.specs.ClientStep.{Act, Nothing, Sends, Asks, CloseChannel, CloseChannels, AllSettled, IsCut, IsReady, IsRefused, Hears}
use Rattle.spec_exchange.specs.ClientStep.{ClientEvent, client_after, act, becomes_ready}
use Rattle.spec_exchange.specs.Settling.{Heard as Hearing, Settles, GoesAgain, Attaches, EndsSession, hear, heard, is_awaited}
use Rattle.spec_exchange.specs.Client.{ends_at_cut}
use Rattle.spec_exchange.specs.Dialogs.{DialogStep, GoesOn, Accepts, Binds, Readies, Refuses, dialog_step, dialog_message, went_on, accepted}
use Rattle.spec_exchange.specs.Network.{World as Values, Token, ForDialog, ForOp, ForAttach, cut_off, dialog_ended}
use Rattle.spec_exchange.specs.Network.{dialog_took}
use Rattle.spec_crypto.specs.sessions.Signing.{signed}
use Rattle.spec_commands.specs.ReplyOf.{reply_of}
use Rattle.spec_world.specs.Settings.{WorldSettings}
use Rattle.spec_world.specs.Messages.{HeardMessage}
use Rattle.spec_world.specs.Ends.{ClientEnd, nonce_at}
use Rattle.spec_world.specs.Hearing.{begins_sealed}
use Rattle.spec_world.specs.Sending.{setup_frame, line_frame, request_text, spent, sealed_on}
use Rattle.spec_world.specs.Dialog.{line_response, dialog_response, status_due, dialog_fault, paid_in, noted_heard, accepted_end, ended_on}
use Rattle.spec_world.specs.World.{World, Wires, with_values, with_client_end, off_by, one_off, closed_wires, cut_wires, op_heard, line_heard, line_hears}
use Rattle.spec_world.specs.World.{command_asked, dialog_reply, dialog_wires, dialog_off, dialog_passed, dialog_hears, hears, next_token}
use Rattle.spec_world.specs.World.{session_accepted, channel_bound, previous_of, noted_sent, queued}
use Rattle.spec_hostile.specs.SignedFor.{Passes, PassesAt}
use Rattle.law_ties.proofs.events.Columns.{hear_keeps}
use Rattle.law_ties.proofs.wire_facts.Ciphers.{begins}
use Rattle.law_hostile.specs.ended.Requests.{AsksSession, previous_named, NamesSession}
use Rattle.law_hostile.proofs.ended.Ranks.{SameRanks, settle_ranks}
use Rattle.law_hostile.proofs.ended.Texts.{setup_names, bound_not, line_not}

-- ---- what is told

-- the session that the client waits for, and the last one that it accepted, are the same, and no dialog more waits for its end
pub record SameNames (c d : Client) : Type 0 where
  pub pending : d.pending ≡ c.pending
  pub accepted : d.accepted ≡ c.accepted
  pub ranks : SameRanks c d
  pub seconds : (j : ℕ) → d.stage j ≡ SaidSecond false → c.stage j ≡ SaidSecond false

abbrev pub FewerSeconds : (ℕ → Stage) → (ℕ → Stage) → Type 0
FewerSeconds f g = (j : ℕ) → g j ≡ SaidSecond false → f j ≡ SaidSecond false

pub seconds_put : (f : ℕ → Stage) (k : ℕ) (s : Stage) → (s ≡ SaidSecond false → ⊥) → FewerSeconds f (put f k s)
seconds_put f k s other =
    by_key (λ j (t : Stage). t ≡ SaidSecond false → f j ≡ SaidSecond false) f k s (λ e. absurd (other e)) (λ j off e. e)

pub no_apart : Apart ≡ SaidSecond false → ⊥
no_apart e = absurd (cc)

no_first : (b : Bool) → SaidFirst b ≡ SaidSecond false → ⊥
no_first b e = absurd (cc)

no_bound : SaidSecond true ≡ SaidSecond false → ⊥
no_bound e = absurd (cc)

pub names_self : (c : Client) → SameNames c c
names_self c = record { pending = refl; accepted = refl; ranks = record { rank = refl; count = refl }; seconds = λ j e. e }

-- an end that waits for the end of a session's dialog did so before, with the same messages
abbrev pub Talked : ClientEnd → ClientEnd → Type 0
Talked n m = m.stage ≡ SaidSecond false → (m.transcript ≡ n.transcript) × (n.stage ≡ SaidSecond false)

abbrev pub AllTalked : (ℕ → Wires) → (ℕ → Wires) → Type 0
AllTalked f g = (j : ℕ) → Talked (f j).client_end (g j).client_end

pub talked_self : (f : ℕ → Wires) → AllTalked f f
talked_self f j e = (refl, e)

pub talked_put : (f : ℕ → Wires) (k : ℕ) (u : Wires) → Talked (f k).client_end u.client_end → AllTalked f (put f k u)
talked_put f k u h = by_key (λ j (v : Wires). Talked (f j).client_end v.client_end) f k u h (λ j off e. (refl, e))

talked_then : (f g h : ℕ → Wires) → AllTalked f g → AllTalked g h → AllTalked f h
talked_then f g h p q j e = let b = q j e in let a = p j b.1 in (b.0 ∙ a.0, a.1)

-- no unsealed request on this list asks for a session, but behind the last accepted one
abbrev pub Puts : Client → List (List ℕ) → Type 0
Puts c bs =
    (i : ℕ) (b : List ℕ) → slice_get bs i ≡ Some b → begins_sealed b ≡ false → AsksSession b → previous_named b ≡ number_of (le 8 c.accepted)

pub no_puts : (c : Client) (bs : List (List ℕ)) → bs ≡ [] → Puts c bs
no_puts c bs e zero b at bare a = absurd (let q : None ≡ Some b = sym (ap (λ l. slice_get l 0) e) ∙ at in cc)
no_puts c bs e (suc i) b at bare a = absurd (let q : None ≡ Some b = sym (ap (λ l. slice_get l (suc i)) e) ∙ at in cc)

pub one_puts : (c : Client) (bs : List (List ℕ)) (x : List ℕ) → bs ≡ []
    → (begins_sealed x ≡ false → AsksSession x → previous_named x ≡ number_of (le 8 c.accepted)) → Puts c (bs ++ x ∷ [])
one_puts c bs x e h = subst (λ l. Puts c (l ++ x ∷ [])) (sym e) (by)
  where
    by : Puts c (x ∷ [])
    by zero b at bare a = (
        let q : Some x ≡ Some b = at in
        let s : x ≡ b = cc in
        ap previous_named (sym s) ∙ h (ap begins_sealed s ∙ bare) (subst AsksSession (sym s) a))
    by (suc i) b at bare a = absurd (let q : None ≡ Some b = at in cc)

-- nothing of it changes
pub record Rests (w u : World) (k : ℕ) : Type 0 where
  pub names : SameNames w.values.client u.values.client
  pub talked : AllTalked w.wires u.wires

-- the dialog on connection k goes on to wait for the end of a session that it was told
pub record Goes (w u : World) (k : ℕ) (frame : List ℕ) : Type 0 where
  pub stage : (w.wires k).client_end.stage ≡ SaidFirst false
  pub response : HeardMessage
  pub heard : dialog_response (w.wires k).client_end (SaidFirst false) frame ≡ Some response
  pub pending : u.values.client.pending ≡ response.header.session
  pub accepted : u.values.client.accepted ≡ w.values.client.accepted
  pub ranks : SameRanks w.values.client u.values.client
  pub front : List (List ℕ)
  pub last : List ℕ
  pub transcript : (u.wires k).client_end.transcript ≡ front ++ last ∷ []
  pub named : NamesSession last u.values.client.pending u.values.client.accepted
  pub others : (j : ℕ) → (j == k) ≡ false → (u.wires j).client_end ≡ (w.wires j).client_end
  pub stages : (j : ℕ) → (j == k) ≡ false → u.values.client.stage j ≡ w.values.client.stage j

-- or it accepts that session
pub record Ends (z : WorldSettings) (w u : World) (k : ℕ) (frame : List ℕ) : Type 0 where
  pub stage : (w.wires k).client_end.stage ≡ SaidSecond false
  pub passes : PassesAt z (w.wires k).client_end (SaidSecond false) frame
  pub response : HeardMessage
  pub remembered : u.accepted ≡ w.accepted ++ ended_on (w.wires k).client_end response false ∷ []
  pub pending : u.values.client.pending ≡ w.values.client.pending
  pub accepted : u.values.client.accepted ≡ w.values.client.pending
  pub rank : u.values.client.rank ≡ put w.values.client.rank w.values.client.pending (w.values.client.accepted_count + 1)
  pub count : u.values.client.accepted_count ≡ w.values.client.accepted_count + 1
  pub behind : (u.wires k).client_end.stage ≡ AskedTree
  pub others : (j : ℕ) → (j == k) ≡ false → (u.wires j).client_end ≡ (w.wires j).client_end
  pub stages : (j : ℕ) → (j == k) ≡ false → u.values.client.stage j ≡ w.values.client.stage j

pub data Turn (z : WorldSettings) (w u : World) (k : ℕ) (frame : List ℕ) : Type 0 where
  IsStill : Rests w u k → Turn z w u k frame
  GoesOnTo : Goes w u k frame → Turn z w u k frame
  IsAccepted : Ends z w u k frame → Turn z w u k frame

pub record Turned (z : WorldSettings) (w u : World) (k : ℕ) (frame : List ℕ) : Type 0 where
  pub turn : Turn z w u k frame
  pub puts : Puts w.values.client (u.wires k).up

-- ---- the client's own steps

heard_names : (c : Client) (g : ℕ) (asking : Bool) (r : Reply) (place : ℕ) (h : Hearing) → SameNames c (hear c g asking r place h)
heard_names c g asking r place (Settles o) =
    let q = hear_keeps c g asking r place (Settles o) refl in
    record { pending = q.pending; accepted = q.accepted; ranks = settle_ranks c g asking r place o; seconds = λ j e. ap (λ (f : ℕ → Stage). f j) (sym q.stage) ∙ e }
heard_names c g asking r place GoesAgain = record { pending = refl; accepted = refl; ranks = record { rank = refl; count = refl }; seconds = λ j e. e }
heard_names c g asking r place Attaches = record { pending = refl; accepted = refl; ranks = record { rank = refl; count = refl }; seconds = λ j e. e }
heard_names c g asking r place EndsSession = record { pending = refl; accepted = refl; ranks = record { rank = refl; count = refl }; seconds = λ j e. absurd (cc) }

hears_names : (c : Client) (k g : ℕ) (asking : Bool) (r : Reply) (place : ℕ) → SameNames c (client_after c (Hears k g asking r place))
hears_names c k g asking r place =
    either (λ d. SameNames c d) (is_awaited c k g asking) (hear c g asking r place (heard c g asking r)) c
    (λ _. heard_names c g asking r place (heard c g asking r)) (λ _. names_self c)

ready_names : (c : Client) (k session tree : ℕ) → SameNames c (client_after c (IsReady k session tree))
ready_names c k session tree =
    either (λ d. SameNames c d) (becomes_ready c session) _ _
    (λ _. either (λ d. SameNames c d) c.live _ _ (λ _. record { pending = refl; accepted = refl; ranks = record { rank = refl; count = refl }; seconds = seconds_put c.stage k Apart no_apart })
    (λ _. record { pending = refl; accepted = refl; ranks = record { rank = refl; count = refl }; seconds = seconds_put c.stage k Apart no_apart }))
    (λ _. record { pending = refl; accepted = refl; ranks = record { rank = refl; count = refl }; seconds = seconds_put c.stage k Apart no_apart })

refused_names : (c : Client) (k : ℕ) (why : Refusal) → SameNames c (client_after c (IsRefused k why))
refused_names c k why = record { pending = refl; accepted = refl; ranks = record { rank = refl; count = refl }; seconds = seconds_put c.stage k Apart no_apart }

cut_after_names : (c : Client) (k : ℕ) → SameNames c (client_after c (IsCut k))
cut_after_names c k =
    either (λ d. SameNames c d) (c.ready k) _ _
    (λ _. either (λ d. SameNames c d) (ends_at_cut c) _ _ (λ _. record { pending = refl; accepted = refl; ranks = record { rank = refl; count = refl }; seconds = λ j e. absurd (cc) })
    (λ _. record { pending = refl; accepted = refl; ranks = record { rank = refl; count = refl }; seconds = λ j e. e }))
    (λ _. names_self c)

pub cut_names : (w : World) (k : ℕ) → SameNames w.values.client (cut_wires w k).values.client
cut_names w k =
    let v = w.values in
    let a = act v.client (IsCut k) in
    either (λ (u : World). SameNames v.client u.values.client) (v.client.ready k) (with_values (off_by w k a) (cut_off v k))
    (with_values (one_off w k) (cut_off v k)) (λ _. off) (λ _. off)
  where
    off : SameNames w.values.client (cut_off w.values k).client
    off = either (λ (u : Values). SameNames w.values.client u.client) (w.values.client.ready k) _ _ (λ _. cut_after_names w.values.client k)
        (λ _. record { pending = refl; accepted = refl; ranks = record { rank = refl; count = refl }; seconds = seconds_put w.values.client.stage k Apart no_apart })

-- ---- wires that close

closed_talked : (w : World) (k : ℕ) (a : Act) → AllTalked w.wires (closed_wires w k a).wires
closed_talked w k CloseChannels = talked_self w.wires
closed_talked w k CloseChannel = talked_put w.wires k _ (λ e. (refl, e))
closed_talked w k Nothing = talked_self w.wires
closed_talked w k (Sends g) = talked_self w.wires
closed_talked w k (Asks g) = talked_self w.wires
closed_talked w k AllSettled = talked_self w.wires

abbrev pub SameUp : World → World → ℕ → Type 0
SameUp w u k = (u.wires k).up ≡ (w.wires k).up

pub put_up : (f : ℕ → Wires) (k : ℕ) (u : Wires) → u.up ≡ (f k).up → (put f k u k).up ≡ (f k).up
put_up f k u e = ap (λ (v : Wires). v.up) (put_here f k u) ∙ e

closed_up : (w : World) (k : ℕ) (a : Act) → SameUp w (closed_wires w k a) k
closed_up w k CloseChannels = refl
closed_up w k CloseChannel = put_up w.wires k _ refl
closed_up w k Nothing = refl
closed_up w k (Sends g) = refl
closed_up w k (Asks g) = refl
closed_up w k AllSettled = refl

off_talked : (w : World) (k : ℕ) (a : Act) → AllTalked w.wires (off_by w k a).wires
off_talked w k CloseChannels = talked_self w.wires
off_talked w k CloseChannel = talked_put w.wires k _ (λ e. (refl, e))
off_talked w k Nothing = talked_put w.wires k _ (λ e. (refl, e))
off_talked w k (Sends g) = talked_put w.wires k _ (λ e. (refl, e))
off_talked w k (Asks g) = talked_put w.wires k _ (λ e. (refl, e))
off_talked w k AllSettled = talked_put w.wires k _ (λ e. (refl, e))

off_up : (w : World) (k : ℕ) (a : Act) → SameUp w (off_by w k a) k
off_up w k CloseChannels = refl
off_up w k CloseChannel = put_up w.wires k _ refl
off_up w k Nothing = put_up w.wires k _ refl
off_up w k (Sends g) = put_up w.wires k _ refl
off_up w k (Asks g) = put_up w.wires k _ refl
off_up w k AllSettled = put_up w.wires k _ refl

pub cut_talked : (w : World) (k : ℕ) → AllTalked w.wires (cut_wires w k).wires
cut_talked w k =
    let a = act w.values.client (IsCut k) in
    either (λ (u : World). AllTalked w.wires u.wires) (w.values.client.ready k) (with_values (off_by w k a) (cut_off w.values k))
    (with_values (one_off w k) (cut_off w.values k)) (λ _. off_talked w k a) (λ _. talked_put w.wires k _ (λ e. (refl, e)))

pub cut_up : (w : World) (k : ℕ) → SameUp w (cut_wires w k) k
cut_up w k =
    let a = act w.values.client (IsCut k) in
    either (λ (u : World). SameUp w u k) (w.values.client.ready k) (with_values (off_by w k a) (cut_off w.values k))
    (with_values (one_off w k) (cut_off w.values k)) (λ _. off_up w k a) (λ _. put_up w.wires k _ refl)

-- ---- a line

rests : (z : WorldSettings) (w u : World) (k : ℕ) (frame : List ℕ) → (w.wires k).up ≡ [] → SameUp w u k
    → SameNames w.values.client u.values.client → AllTalked w.wires u.wires → Turned z w u k frame
rests z w u k frame none same names talked =
    record { turn = IsStill (record { names = names; talked = talked }); puts = no_puts w.values.client (u.wires k).up (same ∙ none) }

cut_turned : (z : WorldSettings) (w : World) (k : ℕ) (frame : List ℕ) → (w.wires k).up ≡ [] → Turned z w (cut_wires w k) k frame
cut_turned z w k frame none = rests z w (cut_wires w k) k frame none (cut_up w k) (cut_names w k) (cut_talked w k)

op_turned : (z : WorldSettings) (w : World) (k g : ℕ) (asking : Bool) (x : HeardMessage) (place : ℕ) (frame : List ℕ) → (w.wires k).up ≡ []
    → Turned z w (op_heard w k g asking x place) k frame
op_turned z w k g asking x place frame none =
    let n = paid_in (w.wires k).client_end x.header in
    let v = with_client_end w k n in
    let r = reply_of (command_asked w.values.client g asking) x.header x.bytes in
    let a = act w.values.client (Hears k g asking r place) in
    rests z w (op_heard w k g asking x place) k frame none (closed_up v k a ∙ put_up w.wires k _ refl) (hears_names w.values.client k g asking r place)
    (talked_then w.wires v.wires (closed_wires v k a).wires (talked_put w.wires k _ (λ e. (refl, e))) (closed_talked v k a))

line_turned : (z : WorldSettings) (w : World) (k : ℕ) (x : HeardMessage) (place : ℕ) (t : Option Token) (frame : List ℕ) → (w.wires k).up ≡ []
    → Turned z w (line_heard w k x place t) k frame
line_turned z w k x place (Some (ForOp g)) frame none = op_turned z w k g false x place frame none
line_turned z w k x place (Some (ForAttach g)) frame none = op_turned z w k g true x place frame none
line_turned z w k x place (Some ForDialog) frame none = cut_turned z w k frame none
line_turned z w k x place None frame none = cut_turned z w k frame none

lines_turned : (z : WorldSettings) (w : World) (k place : ℕ) (o : Option HeardMessage) (frame : List ℕ) → (w.wires k).up ≡ []
    → Turned z w (line_hears w k place o) k frame
lines_turned z w k place None frame none = cut_turned z w k frame none
lines_turned z w k place (Some x) frame none = line_turned z w k x place ((w.wires k).client_end.awaited x.header.message) frame none

-- ---- a dialog

pub not_second : (s t : Stage) → s ≡ t → (t ≡ SaidSecond false → ⊥) → (P : Type 0) → s ≡ SaidSecond false → P
not_second s t e other P f = absurd (other (sym e ∙ f))

put_stage : (f : ℕ → Wires) (k : ℕ) (u : Wires) (t : Stage) → u.client_end.stage ≡ t → (t ≡ SaidSecond false → ⊥) → AllTalked f (put f k u)
put_stage f k u t e other = talked_put f k u (λ s. not_second u.client_end.stage t e other _ s)

talked_twice : (f : ℕ → Wires) (k : ℕ) (u v : Wires) (t : Stage) → v.client_end.stage ≡ t → (t ≡ SaidSecond false → ⊥)
    → AllTalked f (put (put f k u) k v)
talked_twice f k u v t e other =
    by_key (λ j (x : Wires). Talked (f j).client_end x.client_end) (put f k u) k v (λ s. not_second v.client_end.stage t e other _ s)
    (λ j off. subst (λ (x : Wires). Talked (f j).client_end x.client_end) (sym (put_other f k j u off)) (λ s. (refl, s)))

ended_turned : (z : WorldSettings) (w v : World) (k : ℕ) (e : ClientEvent) (frame : List ℕ) → (w.wires k).up ≡ [] → SameUp w v k
    → AllTalked w.wires v.wires → SameNames w.values.client (client_after w.values.client e)
    → Turned z w (with_values (closed_wires v k (act w.values.client e)) (dialog_ended w.values k e)) k frame
ended_turned z w v k e frame none same talked names =
    let a = act w.values.client e in
    rests z w (with_values (closed_wires v k a) (dialog_ended w.values k e)) k frame none (closed_up v k a ∙ same) names
    (talked_then w.wires v.wires (closed_wires v k a).wires talked (closed_talked v k a))

refused_turned : (z : WorldSettings) (w : World) (k : ℕ) (why : Refusal) (frame : List ℕ) → (w.wires k).up ≡ [] → Turned z w (dialog_off w k why) k frame
refused_turned z w k why frame none =
    ended_turned z w w k (IsRefused k why) frame none refl (talked_self w.wires) (refused_names w.values.client k why)

-- a first or a second SESSION_SETUP of a dialog goes up

first_puts : (c : Client) (n : ClientEnd) (bound : Bool) (token : List ℕ) (id k : ℕ) (stage : Stage)
    → (let frame = setup_frame n bound (previous_of c bound) token (dialog_message c k id stage) in
    begins_sealed frame ≡ false → AsksSession frame → previous_named frame ≡ number_of (le 8 c.accepted))
first_puts c n true token id k stage bare a = absurd (bound_not n 0 token (dialog_message c k id stage) a)
first_puts c n false token id k stage bare a = let q = setup_names n c.accepted token (dialog_message c k id stage) in q.previous_

abbrev noted_wires : World → ℕ → Stage → HeardMessage → ℕ → Wires
noted_wires w k stage x = put w.wires k (record (w.wires k) { client_end = noted_heard (w.wires k).client_end stage x })

noted_up : (w : World) (k : ℕ) (stage : Stage) (x : HeardMessage) → (w.wires k).up ≡ [] → (noted_wires w k stage x k).up ≡ []
noted_up w k stage x none = put_up w.wires k _ refl ∙ none

queued_up : (f : ℕ → Wires) (k : ℕ) (n : ClientEnd) (frame : List ℕ) → (put f k (queued (f k) n frame) k).up ≡ (f k).up ++ frame ∷ []
queued_up f k n frame = ap (λ (v : Wires). v.up) (put_here f k (queued (f k) n frame))

abbrev Stepped : WorldSettings → World → ℕ → Stage → HeardMessage → List ℕ → DialogStep → Type 0
Stepped z w k stage x frame d =
    Turned z w (with_values (dialog_wires z w k stage x d) (dialog_took w.values k (dialog_reply w stage x) d)) k frame

first_turned : (z : WorldSettings) (w : World) (k : ℕ) (stage : Stage) (x : HeardMessage) (frame : List ℕ) (bound : Bool) → (w.wires k).up ≡ []
    → Stepped z w k stage x frame (GoesOn (SaidFirst bound))
first_turned z w k stage x frame bound none =
    let n = (w.wires k).client_end in
    let c = went_on w.values.client k (SaidFirst bound) (dialog_reply w stage x) in
    let f = noted_wires w k stage x in
    let token = next_token z n (SaidFirst bound) x.bytes in
    let m = dialog_message c k (f k).client_end.purse.next (SaidFirst bound) in
    let b = setup_frame (f k).client_end bound (previous_of c bound) token m in
    let e = noted_sent (spent (f k).client_end 1 ForDialog) (SaidFirst bound) b in
    record {
      turn = IsStill (record {
        names = record { pending = refl; accepted = refl; ranks = record { rank = refl; count = refl }; seconds = seconds_put w.values.client.stage k (SaidFirst bound) (no_first bound) };
        talked = talked_twice w.wires k (record (w.wires k) { client_end = noted_heard n stage x }) (queued (f k) e b) (SaidFirst bound) refl (no_first bound);
      });
      puts = subst (Puts w.values.client) (sym (queued_up f k e b))
          (one_puts w.values.client (f k).up b (noted_up w k stage x none)
          (first_puts c (f k).client_end bound token (f k).client_end.purse.next k (SaidFirst bound)));
    }

second_bound : (z : WorldSettings) (w : World) (k : ℕ) (stage : Stage) (x : HeardMessage) (frame : List ℕ) → (w.wires k).up ≡ []
    → Stepped z w k stage x frame (GoesOn (SaidSecond true))
second_bound z w k stage x frame none =
    let n = (w.wires k).client_end in
    let c = went_on w.values.client k (SaidSecond true) (dialog_reply w stage x) in
    let f = noted_wires w k stage x in
    let token = next_token z n (SaidSecond true) x.bytes in
    let m = dialog_message c k (f k).client_end.purse.next (SaidSecond true) in
    let b = setup_frame (f k).client_end true (previous_of c true) token m in
    let e = noted_sent (spent (f k).client_end 1 ForDialog) (SaidSecond true) b in
    record {
      turn = IsStill (record {
        names = record { pending = refl; accepted = refl; ranks = record { rank = refl; count = refl }; seconds = seconds_put w.values.client.stage k (SaidSecond true) no_bound };
        talked = talked_twice w.wires k (record (w.wires k) { client_end = noted_heard n stage x }) (queued (f k) e b) (SaidSecond true) refl no_bound;
      });
      puts = subst (Puts w.values.client) (sym (queued_up f k e b))
          (one_puts w.values.client (f k).up b (noted_up w k stage x none)
          (first_puts c (f k).client_end true token (f k).client_end.purse.next k (SaidSecond true)));
    }

second_turned : (z : WorldSettings) (w : World) (k : ℕ) (x : HeardMessage) (frame : List ℕ) → (w.wires k).up ≡ []
    → (w.wires k).client_end.stage ≡ SaidFirst false → dialog_response (w.wires k).client_end (SaidFirst false) frame ≡ Some x
    → Stepped z w k (SaidFirst false) x frame (GoesOn (SaidSecond false))
unfolding reply_of
second_turned z w k x frame none at heard =
    let stage = SaidFirst false in
    let n = (w.wires k).client_end in
    let c = went_on w.values.client k (SaidSecond false) (dialog_reply w stage x) in
    let f = noted_wires w k stage x in
    let token = next_token z n (SaidSecond false) x.bytes in
    let m = dialog_message c k (f k).client_end.purse.next (SaidSecond false) in
    let b = setup_frame (f k).client_end false (previous_of c false) token m in
    let e = noted_sent (spent (f k).client_end 1 ForDialog) (SaidSecond false) b in
    record {
      turn = GoesOnTo (record {
        stage = at;
        response = x;
        heard = heard;
        pending = refl;
        accepted = refl;
        ranks = record { rank = refl; count = refl };
        front = (f k).client_end.transcript;
        last = b;
        transcript = ap (λ (v : Wires). v.client_end.transcript) (put_here f k (queued (f k) e b));
        named = setup_names (f k).client_end c.accepted token m;
        stages = λ j off. put_other w.values.client.stage k j (SaidSecond false) off;
        others = λ j off.
            ap (λ (v : Wires). v.client_end) (put_other f k j (queued (f k) e b) off)
            ∙ ap (λ (v : Wires). v.client_end) (put_other w.wires k j _ off);
      });
      puts = subst (Puts w.values.client) (sym (queued_up f k e b))
          (one_puts w.values.client (f k).up b (noted_up w k stage x none)
          (first_puts c (f k).client_end false token (f k).client_end.purse.next k (SaidSecond false)));
    }

pub line_puts : (n : ClientEnd) (m : _) (cost : ℕ) (P : Type 0) → begins_sealed (line_frame n m cost) ≡ false → AsksSession (line_frame n m cost) → P
line_puts n m cost P =
    either (λ b. begins_sealed b ≡ false → AsksSession b → P) n.encrypts _ (signed n.keys.signing (request_text m cost true))
    (λ _ bare a. absurd (let on = begins n.keys true (nonce_at n.channel n.counter) (request_text m cost false) in
    let q : true ≡ false = sym on ∙ bare in cc))
    (λ _ bare a. absurd (line_not n.keys.signing m cost a))

accepts_turned : (z : WorldSettings) (w : World) (k : ℕ) (x : HeardMessage) (frame : List ℕ) → (w.wires k).up ≡ []
    → (w.wires k).client_end.stage ≡ SaidSecond false → PassesAt z (w.wires k).client_end (SaidSecond false) frame
    → Stepped z w k (SaidSecond false) x frame Accepts
accepts_turned z w k x frame none at passes =
    let n = (w.wires k).client_end in
    let a = session_accepted w k x in
    let c = accepted w.values.client k in
    let f = a.wires in
    let m = dialog_message c k (f k).client_end.purse.next AskedTree in
    let b = line_frame (f k).client_end m 1 in
    let e = sealed_on (spent (f k).client_end 1 ForDialog) in
    let end : (f k).client_end ≡ accepted_end n x w.values.client.pending = ap (λ (v : Wires). v.client_end) (put_here w.wires k _) in
    record {
      turn = IsAccepted (record {
        stage = at;
        passes = passes;
        response = x;
        remembered = refl;
        pending = refl;
        accepted = refl;
        rank = refl;
        count = refl;
        behind = ap (λ (v : Wires). v.client_end.stage) (put_here f k (queued (f k) e b)) ∙ ap (λ (v : ClientEnd). v.stage) end;
        stages = λ j off. put_other w.values.client.stage k j AskedTree off;
        others = λ j off.
            ap (λ (v : Wires). v.client_end) (put_other f k j (queued (f k) e b) off)
            ∙ ap (λ (v : Wires). v.client_end) (put_other w.wires k j _ off);
      });
      puts = subst (Puts w.values.client) (sym (queued_up f k e b))
          (one_puts w.values.client (f k).up b (put_up w.wires k _ refl ∙ none) (λ bare asks. line_puts (f k).client_end m 1 _ bare asks));
    }

binds_turned : (z : WorldSettings) (w : World) (k : ℕ) (stage : Stage) (x : HeardMessage) (frame : List ℕ) → (w.wires k).up ≡ []
    → Stepped z w k stage x frame Binds
binds_turned z w k stage x frame none =
    let c = w.values.client in
    let v = channel_bound w k x in
    ended_turned z w v k (IsReady k c.session c.tree) frame none (put_up w.wires k _ refl) (put_stage w.wires k _ Apart refl no_apart)
    (ready_names c k c.session c.tree)

readies_turned : (z : WorldSettings) (w : World) (k : ℕ) (stage : Stage) (x : HeardMessage) (frame : List ℕ) → (w.wires k).up ≡ []
    → Stepped z w k stage x frame Readies
readies_turned z w k stage x frame none =
    let c = w.values.client in
    let v = with_client_end w k (record (paid_in (w.wires k).client_end x.header) { stage = Apart }) in
    let r = dialog_reply w stage x in
    ended_turned z w v k (IsReady k c.pending r.tree_id) frame none (put_up w.wires k _ refl)
    (put_stage w.wires k _ Apart refl no_apart) (ready_names c k c.pending r.tree_id)

refuses_turned : (z : WorldSettings) (w : World) (k : ℕ) (stage : Stage) (x : HeardMessage) (frame : List ℕ) (status : ℕ) → (w.wires k).up ≡ []
    → Stepped z w k stage x frame (Refuses status)
refuses_turned z w k stage x frame status none = refused_turned z w k (HadStatus status) frame none

step_turned : (z : WorldSettings) (w : World) (k : ℕ) (frame : List ℕ) (x : HeardMessage) (stage : Stage) → (w.wires k).up ≡ []
    → (w.wires k).client_end.stage ≡ stage → dialog_response (w.wires k).client_end stage frame ≡ Some x
    → ((x.header.status == status_due stage) ≡ true → PassesAt z (w.wires k).client_end stage frame)
    → Stepped z w k stage x frame (dialog_step stage x.header.status)
step_turned z w k frame x Apart none at heard due = refuses_turned z w k Apart x frame x.header.status none
step_turned z w k frame x (SaidNegotiate bound) none at heard due =
    either (Stepped z w k (SaidNegotiate bound) x frame) (x.header.status == success) (GoesOn (SaidFirst bound)) (Refuses x.header.status)
    (λ _. first_turned z w k (SaidNegotiate bound) x frame bound none)
    (λ _. refuses_turned z w k (SaidNegotiate bound) x frame x.header.status none)
step_turned z w k frame x (SaidFirst true) none at heard due =
    either (Stepped z w k (SaidFirst true) x frame) (x.header.status == more_processing_required) (GoesOn (SaidSecond true))
    (Refuses x.header.status) (λ _. second_bound z w k (SaidFirst true) x frame none)
    (λ _. refuses_turned z w k (SaidFirst true) x frame x.header.status none)
step_turned z w k frame x (SaidFirst false) none at heard due =
    either (Stepped z w k (SaidFirst false) x frame) (x.header.status == more_processing_required) (GoesOn (SaidSecond false))
    (Refuses x.header.status) (λ _. second_turned z w k x frame none at heard)
    (λ _. refuses_turned z w k (SaidFirst false) x frame x.header.status none)
step_turned z w k frame x (SaidSecond true) none at heard due =
    either (Stepped z w k (SaidSecond true) x frame) (x.header.status == success) Binds (Refuses x.header.status)
    (λ _. binds_turned z w k (SaidSecond true) x frame none) (λ _. refuses_turned z w k (SaidSecond true) x frame x.header.status none)
step_turned z w k frame x (SaidSecond false) none at heard due =
    either (Stepped z w k (SaidSecond false) x frame) (x.header.status == success) Accepts (Refuses x.header.status)
    (λ on. accepts_turned z w k x frame none at (due on)) (λ _. refuses_turned z w k (SaidSecond false) x frame x.header.status none)
step_turned z w k frame x AskedTree none at heard due =
    either (Stepped z w k AskedTree x frame) (x.header.status == success) Readies (Refuses x.header.status)
    (λ _. readies_turned z w k AskedTree x frame none) (λ _. refuses_turned z w k AskedTree x frame x.header.status none)

passed_turned : (z : WorldSettings) (w : World) (k : ℕ) (frame : List ℕ) (x : HeardMessage) (stage : Stage) (o : Option Refusal)
    → (w.wires k).up ≡ [] → (w.wires k).client_end.stage ≡ stage → dialog_response (w.wires k).client_end stage frame ≡ Some x
    → (o ≡ None → (x.header.status == status_due stage) ≡ true → PassesAt z (w.wires k).client_end stage frame)
    → Turned z w (dialog_passed z w k stage x o) k frame
passed_turned z w k frame x stage (Some why) none at heard due = refused_turned z w k why frame none
passed_turned z w k frame x stage None none at heard due = step_turned z w k frame x stage none at heard (due refl)

passes_on : (z : WorldSettings) (n : ClientEnd) (stage : Stage) (frame : List ℕ) (x : HeardMessage) → x.header.status ≡ status_due stage
    → dialog_fault z.client n stage x ≡ None → dialog_response n stage frame ≡ Some x → PassesAt z n stage frame
passes_on z n stage frame x s f e = subst (λ o. Passes z n stage o) (sym e) (s, f)

response_turned : (z : WorldSettings) (w : World) (k : ℕ) (frame : List ℕ) (stage : Stage) (o : Option HeardMessage) → (w.wires k).up ≡ []
    → (w.wires k).client_end.stage ≡ stage → dialog_response (w.wires k).client_end stage frame ≡ o
    → Turned z w (dialog_hears z w k stage o) k frame
response_turned z w k frame stage None none at e = refused_turned z w k BadToken frame none
response_turned z w k frame stage (Some x) none at e =
    let n = (w.wires k).client_end in
    let fault = dialog_fault z.client n stage x in
    passed_turned z w k frame x stage (if x.header.status == status_due stage then fault else None) none at e
    (λ fine on. passes_on z n stage frame x (eqb-true x.header.status (status_due stage) on) (sym (ap (λ b. if b then fault else None) on) ∙ fine) e)

pub heard_turned : (z : WorldSettings) (w : World) (k : ℕ) (frame : List ℕ) (place : ℕ) (s : Stage) → (w.wires k).up ≡ []
    → (w.wires k).client_end.stage ≡ s → Turned z w (hears z w k frame place s) k frame
heard_turned z w k frame place Apart none at = lines_turned z w k place (line_response (w.wires k).client_end frame) frame none
heard_turned z w k frame place (SaidNegotiate bound) none at =
    response_turned z w k frame (SaidNegotiate bound) (dialog_response (w.wires k).client_end (SaidNegotiate bound) frame) none at refl
heard_turned z w k frame place (SaidFirst bound) none at =
    response_turned z w k frame (SaidFirst bound) (dialog_response (w.wires k).client_end (SaidFirst bound) frame) none at refl
heard_turned z w k frame place (SaidSecond bound) none at =
    response_turned z w k frame (SaidSecond bound) (dialog_response (w.wires k).client_end (SaidSecond bound) frame) none at refl
heard_turned z w k frame place AskedTree none at =
    response_turned z w k frame AskedTree (dialog_response (w.wires k).client_end AskedTree frame) none at refl
