-- What an event does to the message ids of dialogs and lines, and to what a client's end waits for.
use Rattle.std.proofs.Common.{◌≡◌, ℕ, zero, suc, ◌+◌, ◌≤◌, ◌<◌, ◌==◌, Bool, true, false, if◌then◌else◌, List, [], ◌∷◌, ◌++◌, ◌⊎◌, inl, inr}
use Rattle.std.proofs.Common.{refl, sym, ◌∙◌, ap, arith, subst, Option, Some, None, slice_get, eqb-true}
use Rattle.law_server.proofs.tables.Logic.{either}
use Rattle.law_records.proofs.recovery.Lists.{put_here}
use Rattle.law_nonces.proofs.negotiation.Tables.{by_key, by_key_2}
use Rattle.spec_wire.specs.credits.Ids.{counted}
use Rattle.spec_exchange.specs.Table.{put}
use Rattle.spec_exchange.specs.Status.{success, more_processing_required}
use Rattle.spec_exchange.specs.State.{Message}
use Rattle.spec_exchange.specs.Commands.{Command}
use Rattle.spec_exchange.specs.Operations.{Refusal, HadStatus, BadToken, weight, charge}
use Rattle.spec_exchange.specs.Client.{Client, Stage, Apart, SaidNegotiate, SaidFirst, SaidSecond, AskedTree, own_message, ask_message}
use Rattle.spec_exchange.specs.ClientStep.{Act, Nothing, Sends, Asks, CloseChannel, CloseChannels, AllSettled, IsCut, IsReady, IsRefused}
use Rattle.spec_exchange.specs.ClientStep.{Hears, ClientEvent, act}
use Rattle.spec_exchange.specs.Dialogs.{DialogStep, GoesOn, Accepts, Binds, Readies, Refuses, dialog_step, dialog_message, went_on, accepted}
use Rattle.spec_exchange.specs.Network.{World as Values, Conn, Sent, Received, Token, ForDialog, ForOp, ForAttach, fresh, send_up}
use Rattle.spec_exchange.specs.Network.{cut_off, cut_by, closed_by, client_off, dialog_took, pushed_by, with_client}
use Rattle.spec_commands.specs.ReplyOf.{reply_of}
use Rattle.spec_world.specs.Settings.{WorldSettings}
use Rattle.spec_world.specs.Messages.{HeardMessage}
use Rattle.spec_world.specs.Ends.{ClientEnd}
use Rattle.spec_world.specs.Sending.{line_frame, spent, sealed_on}
use Rattle.spec_world.specs.Dialog.{line_response, dialog_response, status_due, dialog_fault, paid_in, noted_heard, accepted_end, bound_end}
use Rattle.spec_world.specs.World.{World, Wires, queued, line_sent, with_values, with_client_end, off_by, one_off, closed_wires, cut_wires}
use Rattle.spec_world.specs.World.{pushed_wires, fresh_wires, greeting_of, op_heard, line_heard, line_hears, command_asked, setup_sent}
use Rattle.spec_world.specs.World.{dialog_reply, dialog_wires, dialog_off, dialog_passed, dialog_hears, hears, take_frame, behind_frame}
use Rattle.spec_world.specs.World.{next_token, noted_sent, session_accepted, channel_bound}
use Rattle.law_hostile.specs.dialogs.OwnDialogs.{goes_on_line, HasItsId}
use Rattle.law_hostile.proofs.ids.Sending.{SameUps, closed_same, cut_same}
use Rattle.law_hostile.proofs.ids.Paying.{AllReady, IsReadyAt}

-- ---- what holds of an end that is open, and behind an event

-- of the next id of its purse
abbrev pub StageIds : Stage → ℕ → Type 0
StageIds Apart next = 3 ≤ next
StageIds (SaidNegotiate bound) next = next ≡ 1
StageIds (SaidFirst bound) next = next ≡ 2
StageIds (SaidSecond bound) next = next ≡ 3
StageIds AskedTree next = 3 ≤ next

abbrev pub LinedAt : Conn → Wires → Type 0
LinedAt c u = c.client_open ≡ true → StageIds u.client_end.stage u.client_end.purse.next

abbrev pub AllLined : (ℕ → Conn) → (ℕ → Wires) → Type 0
AllLined p f = (j : ℕ) → LinedAt (p j) (f j)

abbrev pub AllPlaced : List Sent → Type 0
AllPlaced xs = (i : ℕ) (x : Sent) → slice_get xs i ≡ Some x → HasItsId x

-- one of these has that id and that token
abbrev pub Carries : List Sent → ℕ → Token → Type 0
Carries xs id token = (i : ℕ) × (x : Sent) × (slice_get xs i ≡ Some x) × (x.message.message_id ≡ id) × (x.token ≡ token)

abbrev pub MayWait : Wires → Wires → List Sent → Type 0
MayWait u v xs =
    (id : ℕ) (token : Token) → v.client_end.awaited id ≡ Some token → (token ≡ ForDialog → ⊥)
    → (u.client_end.awaited id ≡ Some token) ⊎ Carries xs id token

pub record IsLined (old : Wires) (c : Conn) (u : Wires) : Type 0 where
  pub lined : LinedAt c u
  pub placed : AllPlaced c.up
  pub waits : MayWait old u c.up

abbrev pub LinedAll : (ℕ → Wires) → (ℕ → Conn) → (ℕ → Wires) → Type 0
LinedAll old p f = (j : ℕ) → IsLined (old j) (p j) (f j)

abbrev pub Empty : (ℕ → Conn) → Type 0
Empty p = (j : ℕ) → (p j).up ≡ []

-- ---- nothing is put

abbrev Fewer : Wires → Wires → Type 0
Fewer u v = (id : ℕ) (token : Token) → v.client_end.awaited id ≡ Some token → u.client_end.awaited id ≡ Some token

record SameTalk (u v : Wires) : Type 0 where
  stage : v.client_end.stage ≡ u.client_end.stage
  next : v.client_end.purse.next ≡ u.client_end.purse.next
  waits : Fewer u v

abbrev Talks : (ℕ → Wires) → (ℕ → Wires) → Type 0
Talks f g = (j : ℕ) → SameTalk (f j) (g j)

talk_self : (u : Wires) → SameTalk u u
talk_self u = record { stage = refl; next = refl; waits = λ id token e. e }

talks_self : (f : ℕ → Wires) → Talks f f
talks_self f j = talk_self (f j)

talks_put : (f : ℕ → Wires) (k : ℕ) (u : Wires) → SameTalk (f k) u → Talks f (put f k u)
talks_put f k u h = by_key (λ j (v : Wires). SameTalk (f j) v) f k u h (λ j off. talk_self (f j))

talks_then : (f g h : ℕ → Wires) → Talks f g → Talks g h → Talks f h
talks_then f g h a b j =
    let p = a j in
    let q = b j in
    record { stage = q.stage ∙ p.stage; next = q.next ∙ p.next; waits = λ id token e. p.waits id token (q.waits id token e) }

-- ends may close
abbrev Closes : (ℕ → Conn) → (ℕ → Conn) → Type 0
Closes p q = (j : ℕ) → ((q j).client_open ≡ true → (p j).client_open ≡ true)

none_placed : AllPlaced []
none_placed i x h = absurd (let q : None ≡ Some x = h in cc)

pub quiet_lined : (f g : ℕ → Wires) (q : ℕ → Conn) → ((j : ℕ) → Fewer (f j) (g j)) → Empty q → AllLined q g → LinedAll f q g
quiet_lined f g q fewer none lined j =
    record {
      lined = lined j;
      placed = subst AllPlaced (sym (none j)) none_placed;
      waits = λ id token e own. inl (fewer j id token e);
    }

pub stage_ids : (s t : Stage) (a b : ℕ) → t ≡ s → b ≡ a → StageIds s a → StageIds t b
stage_ids s t a b e f h = subst (λ x. StageIds x b) (sym e) (subst (StageIds s) (sym f) h)

talked_lined : (p q : ℕ → Conn) (f g : ℕ → Wires) → Talks f g → Closes p q → AllLined p f → AllLined q g
talked_lined p q f g t c all j =
    λ on. stage_ids (f j).client_end.stage (g j).client_end.stage (f j).client_end.purse.next (g j).client_end.purse.next (t j).stage (t j).next
    (all j (c j on))

calm_lined : (p q : ℕ → Conn) (f g : ℕ → Wires) → Talks f g → Closes p q → SameUps p q → Empty p → AllLined p f → LinedAll f q g
calm_lined p q f g t c s none all =
    quiet_lined f g q (λ j. (t j).waits) (λ j. (s j).0 ∙ none j) (talked_lined p q f g t c all)

-- ---- one frame is put

pub same_sent : (x y : Sent) → Some x ≡ Some y → x ≡ y
same_sent x y e = cc

one_placed : (x : Sent) → HasItsId x → AllPlaced (x ∷ [])
one_placed x h zero y e = subst HasItsId (same_sent x y e) h
one_placed x h (suc i) y e = absurd (let q : None ≡ Some y = e in cc)

waits_put : (a b : ℕ → Option Token) (n id : ℕ) (token t : Token) → b ≡ put a n (Some token) → b id ≡ Some t
    → (a id ≡ Some t) ⊎ ((n ≡ id) × (token ≡ t))
waits_put a b n id token t is e = by (id == n) refl
  where
    at : put a n (Some token) id ≡ Some t
    at = ap (λ (f : ℕ → Option Token). f id) (sym is) ∙ e

    by : (c : Bool) → (id == n) ≡ c → (a id ≡ Some t) ⊎ ((n ≡ id) × (token ≡ t))
    by true q = inr (sym (eqb-true id n q), (let r : Some token ≡ Some t = sym (ap (λ c. if c then Some token else a id) q) ∙ at in cc))
    by false q = inl (sym (ap (λ c. if c then Some token else a id) q) ∙ at)

sent_lined : (old f : ℕ → Wires) (p : ℕ → Conn) (k : ℕ) (n : ClientEnd) (frame : List ℕ) (token : Token) (m : Message) (cost id : ℕ)
    → ((j : ℕ) → Fewer (old j) (f j)) → AllLined p f → Empty p → ((p k).client_open ≡ true → StageIds n.stage n.purse.next)
    → n.awaited ≡ put (f k).client_end.awaited id (Some token) → m.message_id ≡ id → HasItsId (record { token = token; message = m })
    → LinedAll old (put p k (send_up (p k) token m cost)) (put f k (queued (f k) n frame))
sent_lined old f p k n frame token m cost id fewer all none at awaits named placed =
    let x : Sent = record { token = token; message = m } in
    by_key_2 (λ j (c : Conn) (u : Wires). IsLined (old j) c u) p f k (send_up (p k) token m cost) (queued (f k) n frame)
    (record {
      lined = at;
      placed = subst (λ l. AllPlaced (l ++ x ∷ [])) (sym (none k)) (one_placed x placed);
      waits = λ i t e own. carried i t (waits_put (f k).client_end.awaited n.awaited id i token t awaits e);
    })
    (λ j off. record {
      lined = all j;
      placed = subst AllPlaced (sym (none j)) none_placed;
      waits = λ i t e own. inl (fewer j i t e);
    })
  where
    carried : (i : ℕ) (t : Token) → ((f k).client_end.awaited i ≡ Some t) ⊎ ((id ≡ i) × (token ≡ t))
        → ((old k).client_end.awaited i ≡ Some t) ⊎ Carries ((p k).up ++ record { token = token; message = m } ∷ []) i t
    carried i t (inl e) = inl (fewer k i t e)
    carried i t (inr e) =
        inr (
          0,
          record { token = token; message = m },
          ap (λ l. slice_get (l ++ record { token = token; message = m } ∷ []) 0) (none k),
          named ∙ e.0,
          e.1,
        )

-- ---- the client closes, or pushes

off_talks : (w : World) (k : ℕ) (a : Act) → Talks w.wires (off_by w k a).wires
off_talks w k CloseChannels = λ j. record { stage = refl; next = refl; waits = λ id token e. e }
off_talks w k CloseChannel = talks_put w.wires k _ (record { stage = refl; next = refl; waits = λ id token e. e })
off_talks w k Nothing = talks_put w.wires k _ (record { stage = refl; next = refl; waits = λ id token e. e })
off_talks w k (Sends g) = talks_put w.wires k _ (record { stage = refl; next = refl; waits = λ id token e. e })
off_talks w k (Asks g) = talks_put w.wires k _ (record { stage = refl; next = refl; waits = λ id token e. e })
off_talks w k AllSettled = talks_put w.wires k _ (record { stage = refl; next = refl; waits = λ id token e. e })

closed_talks : (w : World) (k : ℕ) (a : Act) → Talks w.wires (closed_wires w k a).wires
closed_talks w k CloseChannels = λ j. record { stage = refl; next = refl; waits = λ id token e. e }
closed_talks w k CloseChannel = talks_put w.wires k _ (record { stage = refl; next = refl; waits = λ id token e. e })
closed_talks w k Nothing = talks_self w.wires
closed_talks w k (Sends g) = talks_self w.wires
closed_talks w k (Asks g) = talks_self w.wires
closed_talks w k AllSettled = talks_self w.wires

closes_self : (p : ℕ → Conn) → Closes p p
closes_self p j e = e

no_open : (c : Conn) → (client_off c).client_open ≡ true → c.client_open ≡ true
no_open c e = absurd (let h : false ≡ true = e in cc)

closes_one : (p : ℕ → Conn) (k : ℕ) → Closes p (put p k (client_off (p k)))
closes_one p k = by_key (λ j (c : Conn). c.client_open ≡ true → (p j).client_open ≡ true) p k (client_off (p k)) (no_open (p k)) (λ j off e. e)

closes_all : (p : ℕ → Conn) → Closes p (λ j. client_off (p j))
closes_all p j = no_open (p j)

closed_closes : (v : Values) (k : ℕ) (a : Act) → Closes v.conns (closed_by v k a).conns
closed_closes v k CloseChannels = closes_all v.conns
closed_closes v k CloseChannel = closes_one v.conns k
closed_closes v k Nothing = closes_self v.conns
closed_closes v k (Sends g) = closes_self v.conns
closed_closes v k (Asks g) = closes_self v.conns
closed_closes v k AllSettled = closes_self v.conns

cut_by_closes : (v : Values) (k : ℕ) (a : Act) → Closes v.conns (cut_by v k a).conns
cut_by_closes v k CloseChannels = closes_all v.conns
cut_by_closes v k CloseChannel = closes_one v.conns k
cut_by_closes v k Nothing = closes_one v.conns k
cut_by_closes v k (Sends g) = closes_one v.conns k
cut_by_closes v k (Asks g) = closes_one v.conns k
cut_by_closes v k AllSettled = closes_one v.conns k

cut_closes : (v : Values) (k : ℕ) → Closes v.conns (cut_off v k).conns
cut_closes v k =
    either (λ (u : Values). Closes v.conns u.conns) (v.client.ready k) _ _ (λ _. cut_by_closes v k (act v.client (IsCut k)))
    (λ _. closes_one v.conns k)

cut_talks : (w : World) (k : ℕ) → Talks w.wires (cut_wires w k).wires
cut_talks w k =
    either (λ (v : World). Talks w.wires v.wires) (w.values.client.ready k)
    (with_values (off_by w k (act w.values.client (IsCut k))) (cut_off w.values k)) (with_values (one_off w k) (cut_off w.values k))
    (λ _. off_talks w k (act w.values.client (IsCut k)))
    (λ _. talks_put w.wires k _ (record { stage = refl; next = refl; waits = λ id token e. e }))

cut_conns : (w : World) (k : ℕ) → Closes w.values.conns (cut_wires w k).values.conns
cut_conns w k =
    either (λ (v : World). Closes w.values.conns v.values.conns) (w.values.client.ready k)
    (with_values (off_by w k (act w.values.client (IsCut k))) (cut_off w.values k)) (with_values (one_off w k) (cut_off w.values k))
    (λ _. cut_closes w.values k) (λ _. cut_closes w.values k)

cut_ups : (w : World) (k : ℕ) → SameUps w.values.conns (cut_wires w k).values.conns
cut_ups w k =
    either (λ (v : World). SameUps w.values.conns v.values.conns) (w.values.client.ready k)
    (with_values (off_by w k (act w.values.client (IsCut k))) (cut_off w.values k)) (with_values (one_off w k) (cut_off w.values k))
    (λ _. cut_same w.values k) (λ _. cut_same w.values k)

-- of a world
abbrev pub Before : World → Type 0
Before w = AllReady w.wires w.values.conns × AllLined w.values.conns w.wires

abbrev pub Behind : World → World → Type 0
Behind w v = LinedAll w.wires v.values.conns v.wires

empty_of : (w : World) → Before w → Empty w.values.conns
empty_of w b j = let i = b.0 j in i.values

pub still : (w : World) → Before w → Behind w w
still w b = quiet_lined w.wires w.wires w.values.conns (λ j id token e. e) (empty_of w b) b.1

pub cut_lined : (w : World) (k : ℕ) → Before w → Behind w (cut_wires w k)
cut_lined w k b =
    calm_lined w.values.conns (cut_wires w k).values.conns w.wires (cut_wires w k).wires (cut_talks w k) (cut_conns w k) (cut_ups w k)
    (empty_of w b) b.1

-- a line's request goes up
on_line : (token : Token) (m : Message) → goes_on_line token m.command ≡ true → 3 ≤ m.message_id
    → HasItsId (record { token = token; message = m })
on_line token m e l = (λ f. absurd (let h : true ≡ false = sym e ∙ f in cc), λ _. l)

three_on : (a b : ℕ) → 3 ≤ a → 3 ≤ a + b
three_on a b l = omega (arith, l)

least_same : (a b : ℕ) → 3 ≤ a → b ≡ a → 3 ≤ b
least_same a b l e = omega (arith, l, e)

op_on : (g : ℕ) (c : Command) → goes_on_line (ForOp g) c ≡ true
op_on g c = refl

attach_on : (g : ℕ) (c : Command) → goes_on_line (ForAttach g) c ≡ true
attach_on g c = refl

line_lined : (w : World) (k : ℕ) (token : Token) (m : ℕ → Message) (cost : ℕ) → (w.wires k).client_end.stage ≡ Apart
    → 3 ≤ (w.wires k).client_end.purse.next → ((id : ℕ) → (m id).message_id ≡ id) → ((id : ℕ) → goes_on_line token (m id).command ≡ true)
    → Before w
    → LinedAll w.wires (put w.values.conns k (send_up (w.values.conns k) token (m (w.values.conns k).next_id) cost))
    (line_sent w k token (m (w.wires k).client_end.purse.next) cost).wires
line_lined w k token m cost apart three named on b =
    let n = (w.wires k).client_end in
    let i = b.0 k in
    let paid = i.purse in
    let next = (w.values.conns k).next_id in
    sent_lined w.wires w.wires w.values.conns k (sealed_on (spent n cost token)) (line_frame n (m n.purse.next) cost) token (m next) cost
    n.purse.next (λ j id t e. e) b.1 (empty_of w b)
    (λ _. stage_ids Apart n.stage (n.purse.next + counted cost) (n.purse.next + counted cost) apart refl (three_on n.purse.next (counted cost) three))
    refl (named next ∙ sym paid.next_is)
    (on_line token (m next) (on next) (least_same n.purse.next (m next).message_id three (named next ∙ sym paid.next_is)))

pub pushed_lined : (w : World) (k : ℕ) (c : Client) (a : Act) → (w.wires k).client_end.stage ≡ Apart → 3 ≤ (w.wires k).client_end.purse.next
    → Before w → LinedAll w.wires (pushed_by w.values k c a).conns (pushed_wires w k c a).wires
pushed_lined w k c (Sends g) apart three b =
    line_lined w k (ForOp g) (λ id. own_message c k id g) (charge (weight (c.op g))) apart three (λ id. refl) (λ id. refl) b
pushed_lined w k c (Asks g) apart three b =
    line_lined w k (ForAttach g) (λ id. ask_message c k id g) 1 apart three (λ id. refl) (λ id. refl) b
pushed_lined w k c Nothing apart three b = still w b
pushed_lined w k c CloseChannel apart three b = still w b
pushed_lined w k c CloseChannels apart three b = still w b
pushed_lined w k c AllSettled apart three b = still w b

-- ---- Open: the end waits for its NEGOTIATE alone

only_dialog : (id : ℕ) (token : Token) → put (λ (i : ℕ). None) 0 (Some ForDialog) id ≡ Some token → token ≡ ForDialog
only_dialog id token e = by (id == 0) refl
  where
    by : (c : Bool) → (id == 0) ≡ c → token ≡ ForDialog
    by true q = (let r : Some ForDialog ≡ Some token = sym (ap (λ c. if c then Some ForDialog else None) q) ∙ e in cc)
    by false q = absurd (let r : None ≡ Some token = sym (ap (λ c. if c then Some ForDialog else None) q) ∙ e in cc)

pub fresh_waits : (z : WorldSettings) (w : World) (k id : ℕ) (served : Bool) (token : Token)
    → (fresh_wires z w (greeting_of z w k) served).client_end.awaited id ≡ Some token → (token ≡ ForDialog → ⊥) → ⊥
fresh_waits z w k id served token e own = own (only_dialog id token e)

off_line : (token : Token) (m : Message) → goes_on_line token m.command ≡ false → m.message_id < 3
    → HasItsId (record { token = token; message = m })
off_line token m e l = (λ _. l, λ f. absurd (let h : true ≡ false = sym f ∙ e in cc))

pub open_lined : (z : WorldSettings) (w : World) (k : ℕ) (served : Bool) → Before w
    → LinedAll w.wires (put w.values.conns k (fresh w.values.client k served)) (put w.wires k (fresh_wires z w (greeting_of z w k) served))
open_lined z w k served b =
    by_key_2 (λ j (c : Conn) (u : Wires). IsLined (w.wires j) c u) w.values.conns w.wires k (fresh w.values.client k served)
    (fresh_wires z w (greeting_of z w k) served)
    (record {
      lined = λ _. refl;
      placed = asked served;
      waits = λ id token e own. absurd (fresh_waits z w k id served token e own);
    })
    (λ j off. still w b j)
  where
    asked : (s : Bool) → AllPlaced (fresh w.values.client k s).up
    asked true = one_placed (record {
      token = ForDialog;
      message = dialog_message w.values.client k 0 (SaidNegotiate w.values.client.live);
    }) (off_line ForDialog (dialog_message w.values.client k 0 (SaidNegotiate w.values.client.live)) refl (omega arith))
    asked false = none_placed

-- ---- Take, on a line

paid_talk : (w : World) (k : ℕ) (x : HeardMessage) → Talks w.wires (with_client_end w k (paid_in (w.wires k).client_end x.header)).wires
paid_talk w k x =
    talks_put w.wires k _ (record {
      stage = refl;
      next = refl;
      waits = λ id token e. fewer id token (id == x.header.message) refl e;
    })
  where
    fewer : (id : ℕ) (token : Token) (c : Bool) → (id == x.header.message) ≡ c
        → put (w.wires k).client_end.awaited x.header.message None id ≡ Some token → (w.wires k).client_end.awaited id ≡ Some token
    fewer id token true q e =
        absurd (let r : None ≡ Some token = sym (ap (λ c. if c then None else (w.wires k).client_end.awaited id) q) ∙ e in cc)
    fewer id token false q e = sym (ap (λ c. if c then None else (w.wires k).client_end.awaited id) q) ∙ e

op_lined : (w : World) (k g : ℕ) (asking : Bool) (x : HeardMessage) (place : ℕ) → Before w → Behind w (op_heard w k g asking x place)
op_lined w k g asking x place b =
    let v = with_client_end w k (paid_in (w.wires k).client_end x.header) in
    let a = act w.values.client (Hears k g asking (reply_of (command_asked w.values.client g asking) x.header x.bytes) place) in
    calm_lined w.values.conns (closed_by w.values k a).conns w.wires (closed_wires v k a).wires
    (talks_then w.wires v.wires (closed_wires v k a).wires (paid_talk w k x) (closed_talks v k a)) (closed_closes w.values k a)
    (closed_same w.values k a) (empty_of w b) b.1

line_heard_lined : (w : World) (k : ℕ) (x : HeardMessage) (place : ℕ) (t : Option Token) → Before w → Behind w (line_heard w k x place t)
line_heard_lined w k x place (Some (ForOp g)) b = op_lined w k g false x place b
line_heard_lined w k x place (Some (ForAttach g)) b = op_lined w k g true x place b
line_heard_lined w k x place (Some ForDialog) b = cut_lined w k b
line_heard_lined w k x place None b = cut_lined w k b

line_hears_lined : (w : World) (k place : ℕ) (o : Option HeardMessage) → Before w → Behind w (line_hears w k place o)
line_hears_lined w k place None b = cut_lined w k b
line_hears_lined w k place (Some x) b = line_heard_lined w k x place ((w.wires k).client_end.awaited x.header.message) b

-- ---- Take, of a dialog

ended_lined : (w v : World) (k : ℕ) (e : ClientEvent) → ((j : ℕ) → Fewer (w.wires j) (v.wires j)) → AllLined w.values.conns v.wires
    → Before w → LinedAll w.wires (closed_by w.values k (act w.values.client e)).conns (closed_wires v k (act w.values.client e)).wires
ended_lined w v k e fewer lined b =
    let a = act w.values.client e in
    let t = closed_talks v k a in
    quiet_lined w.wires (closed_wires v k a).wires (closed_by w.values k a).conns (λ j id token h. fewer j id token ((t j).waits id token h))
    (λ j. (closed_same w.values k a j).0 ∙ empty_of w b j)
    (talked_lined w.values.conns (closed_by w.values k a).conns v.wires (closed_wires v k a).wires t (closed_closes w.values k a) lined)

off_lined : (w : World) (k : ℕ) (why : Refusal) → Before w → Behind w (dialog_off w k why)
off_lined w k why b = ended_lined w w k (IsRefused k why) (λ j id token e. e) b.1 b

-- an end at k that talks as before but for its stage
at_stage : (w : World) (k : ℕ) (n : ClientEnd) → StageIds n.stage n.purse.next → Before w
    → AllLined w.values.conns (put w.wires k (record (w.wires k) { client_end = n }))
at_stage w k n h b =
    by_key (λ j (u : Wires). LinedAt (w.values.conns j) u) w.wires k (record (w.wires k) { client_end = n }) (λ _. h) (λ j off. b.1 j)

same_waits : (w : World) (k : ℕ) (x : HeardMessage) (n : ClientEnd) → n.awaited ≡ put (w.wires k).client_end.awaited x.header.message None
    → (j : ℕ) → Fewer (w.wires j) (put w.wires k (record (w.wires k) { client_end = n }) j)
same_waits w k x n is =
    by_key (λ j (u : Wires). Fewer (w.wires j) u) w.wires k (record (w.wires k) { client_end = n })
    (λ id token e. (let t = paid_talk w k x k in
    t.waits id token (ap (λ (u : Wires). u.client_end.awaited id) (put_here w.wires k _) ∙ (ap (λ (f : ℕ → Option Token). f id) (sym is) ∙ e))))
    (λ j off id token e. e)

-- the next request of a dialog, behind a response that was noted at the client's end
setup_lined : (w a : World) (k : ℕ) (stage : Stage) (bound : Bool) (token : List ℕ) (n : ClientEnd)
    → a.wires ≡ put w.wires k (record (w.wires k) { client_end = n }) → ((j : ℕ) → Fewer (w.wires j) (put w.wires k (record (w.wires k) {
      client_end = n;
    }) j))
    → AllLined w.values.conns (put w.wires k (record (w.wires k) { client_end = n })) → n.purse.next ≡ (w.values.conns k).next_id
    → StageIds stage (n.purse.next + 1) → n.purse.next < 3
    → goes_on_line ForDialog (dialog_message a.values.client k (w.values.conns k).next_id stage).command ≡ false → Before w
    → LinedAll w.wires
    (put w.values.conns k (send_up (w.values.conns k) ForDialog (dialog_message a.values.client k (w.values.conns k).next_id stage) 1))
    (setup_sent a k stage bound token).wires
setup_lined w a k stage bound token n is fewer lined next ids low off b =
    let g = put w.wires k (record (w.wires k) { client_end = n }) in
    let m = dialog_message a.values.client k (w.values.conns k).next_id stage in
    let here : (a.wires k).client_end ≡ n = ap (λ (f : ℕ → Wires). (f k).client_end) is ∙ ap (λ (u : Wires). u.client_end) (put_here w.wires k _) in
    let same = sym is in
    sent_lined w.wires a.wires w.values.conns k (noted_sent (spent (a.wires k).client_end 1 ForDialog) stage _) _ ForDialog m 1
    (a.wires k).client_end.purse.next
    (subst (λ f. (j : ℕ) → Fewer (w.wires j) (f j)) same fewer) (subst (AllLined w.values.conns) same lined) (empty_of w b)
    (λ _. subst (λ (e : ClientEnd). StageIds stage (e.purse.next + counted 1)) (sym here) ids) refl
    (sym next ∙ ap (λ (e : ClientEnd). e.purse.next) (sym here))
    (off_line ForDialog m off (subst (λ i. i < 3) next low))

abbrev StepLined : WorldSettings → World → ℕ → Stage → HeardMessage → DialogStep → Type 0
StepLined z w k stage x d =
    LinedAll w.wires (dialog_took w.values k (dialog_reply w stage x) d).conns (dialog_wires z w k stage x d).wires

one_more : (a b c : ℕ) → a ≡ b → b + 1 ≡ c → a + 1 ≡ c
one_more a b c e f = omega (arith, e, f)

below : (a b : ℕ) → a ≡ b → b < 3 → a < 3
below a b e l = omega (arith, e, l)

refuses_lined : (z : WorldSettings) (w : World) (k : ℕ) (stage : Stage) (x : HeardMessage) (status : ℕ) → Before w
    → StepLined z w k stage x (Refuses status)
refuses_lined z w k stage x status b = ended_lined w w k (IsRefused k (HadStatus status)) (λ j id token e. e) b.1 b

first_lined : (z : WorldSettings) (w : World) (k : ℕ) (x : HeardMessage) (bound : Bool)
    → (w.wires k).client_end.stage ≡ SaidNegotiate bound → (w.values.conns k).client_open ≡ true → Before w
    → StepLined z w k (SaidNegotiate bound) x (GoesOn (SaidFirst bound))
first_lined z w k x bound at on b =
    let stage = SaidNegotiate bound in
    let n = (w.wires k).client_end in
    let c = went_on w.values.client k (SaidFirst bound) (dialog_reply w stage x) in
    let m = noted_heard n stage x in
    let a = with_client_end (with_values w (with_client w.values c)) k m in
    let i = b.0 k in
    let paid = i.purse in
    let h : n.purse.next ≡ 1 = stage_ids n.stage stage n.purse.next n.purse.next (sym at) refl (b.1 k on) in
    setup_lined w a k (SaidFirst bound) bound (next_token z n (SaidFirst bound) x.bytes) m refl (same_waits w k x m refl)
    (at_stage w k m (stage_ids stage n.stage n.purse.next n.purse.next at refl h) b) paid.next_is (one_more n.purse.next 1 2 h refl)
    (below n.purse.next 1 h (omega arith)) refl b

second_lined : (z : WorldSettings) (w : World) (k : ℕ) (x : HeardMessage) (bound : Bool)
    → (w.wires k).client_end.stage ≡ SaidFirst bound → (w.values.conns k).client_open ≡ true → Before w
    → StepLined z w k (SaidFirst bound) x (GoesOn (SaidSecond bound))
second_lined z w k x bound at on b =
    let stage = SaidFirst bound in
    let n = (w.wires k).client_end in
    let c = went_on w.values.client k (SaidSecond bound) (dialog_reply w stage x) in
    let m = noted_heard n stage x in
    let a = with_client_end (with_values w (with_client w.values c)) k m in
    let i = b.0 k in
    let paid = i.purse in
    let h : n.purse.next ≡ 2 = stage_ids n.stage stage n.purse.next n.purse.next (sym at) refl (b.1 k on) in
    setup_lined w a k (SaidSecond bound) bound (next_token z n (SaidSecond bound) x.bytes) m refl (same_waits w k x m refl)
    (at_stage w k m (stage_ids stage n.stage n.purse.next n.purse.next at refl h) b) paid.next_is (one_more n.purse.next 2 3 h refl)
    (below n.purse.next 2 h (omega arith)) refl b

three_is : (a b : ℕ) → a ≡ 3 → b ≡ a → 3 ≤ b
three_is a b e f = omega (arith, e, f)

accepts_lined : (z : WorldSettings) (w : World) (k : ℕ) (x : HeardMessage) → (w.wires k).client_end.stage ≡ SaidSecond false
    → (w.values.conns k).client_open ≡ true → Before w → StepLined z w k (SaidSecond false) x Accepts
accepts_lined z w k x at on b =
    let n = (w.wires k).client_end in
    let m = accepted_end n x w.values.client.pending in
    let a = session_accepted w k x in
    let i = b.0 k in
    let paid = i.purse in
    let tree : ℕ → Message = λ id. dialog_message (accepted w.values.client k) k id AskedTree in
    let next = (w.values.conns k).next_id in
    let h : n.purse.next ≡ 3 = stage_ids n.stage (SaidSecond false) n.purse.next n.purse.next (sym at) refl (b.1 k on) in
    let here : (a.wires k).client_end ≡ m = ap (λ (u : Wires). u.client_end) (put_here w.wires k _) in
    let own : (a.wires k).client_end.purse.next ≡ n.purse.next = ap (λ (e : ClientEnd). e.purse.next) here in
    let three : 3 ≤ (a.wires k).client_end.purse.next = three_is n.purse.next (a.wires k).client_end.purse.next h own in
    let stage : (a.wires k).client_end.stage ≡ AskedTree = ap (λ (e : ClientEnd). e.stage) here in
    sent_lined w.wires a.wires w.values.conns k (sealed_on (spent (a.wires k).client_end 1 ForDialog))
    (line_frame (a.wires k).client_end (tree (a.wires k).client_end.purse.next) 1) ForDialog (tree next) 1 (a.wires k).client_end.purse.next
    (same_waits w k x m refl) (at_stage w k m (three_is n.purse.next n.purse.next h refl) b) (empty_of w b)
    (λ _. stage_ids AskedTree (a.wires k).client_end.stage ((a.wires k).client_end.purse.next + counted 1)
    ((a.wires k).client_end.purse.next + counted 1) stage refl (three_on (a.wires k).client_end.purse.next (counted 1) three))
    refl (sym paid.next_is ∙ sym own)
    (on_line ForDialog (tree next) refl (three_is n.purse.next next h (sym paid.next_is)))

binds_lined : (z : WorldSettings) (w : World) (k : ℕ) (x : HeardMessage) → (w.wires k).client_end.stage ≡ SaidSecond true
    → (w.values.conns k).client_open ≡ true → Before w → StepLined z w k (SaidSecond true) x Binds
binds_lined z w k x at on b =
    let n = (w.wires k).client_end in
    let m = bound_end n x (w.numbers + 1) in
    let h : n.purse.next ≡ 3 = stage_ids n.stage (SaidSecond true) n.purse.next n.purse.next (sym at) refl (b.1 k on) in
    ended_lined w (channel_bound w k x) k (IsReady k w.values.client.session w.values.client.tree) (same_waits w k x m refl)
    (at_stage w k m (three_is n.purse.next n.purse.next h refl) b) b

readies_lined : (z : WorldSettings) (w : World) (k : ℕ) (x : HeardMessage) → (w.wires k).client_end.stage ≡ AskedTree
    → (w.values.conns k).client_open ≡ true → Before w → StepLined z w k AskedTree x Readies
readies_lined z w k x at on b =
    let n = (w.wires k).client_end in
    let m : ClientEnd = record (paid_in n x.header) { stage = Apart } in
    let h : 3 ≤ n.purse.next = stage_ids n.stage AskedTree n.purse.next n.purse.next (sym at) refl (b.1 k on) in
    ended_lined w (with_client_end w k m) k (IsReady k w.values.client.pending (dialog_reply w AskedTree x).tree_id)
    (same_waits w k x m refl) (at_stage w k m h b) b

step_lined : (z : WorldSettings) (w : World) (k : ℕ) (x : HeardMessage) (stage : Stage) → (w.wires k).client_end.stage ≡ stage
    → (w.values.conns k).client_open ≡ true → Before w → StepLined z w k stage x (dialog_step stage x.header.status)
step_lined z w k x Apart at on b = refuses_lined z w k Apart x x.header.status b
step_lined z w k x (SaidNegotiate bound) at on b =
    either (StepLined z w k (SaidNegotiate bound) x) (x.header.status == success) (GoesOn (SaidFirst bound)) (Refuses x.header.status)
    (λ _. first_lined z w k x bound at on b) (λ _. refuses_lined z w k (SaidNegotiate bound) x x.header.status b)
step_lined z w k x (SaidFirst bound) at on b =
    either (StepLined z w k (SaidFirst bound) x) (x.header.status == more_processing_required) (GoesOn (SaidSecond bound))
    (Refuses x.header.status) (λ _. second_lined z w k x bound at on b) (λ _. refuses_lined z w k (SaidFirst bound) x x.header.status b)
step_lined z w k x (SaidSecond true) at on b =
    either (StepLined z w k (SaidSecond true) x) (x.header.status == success) Binds (Refuses x.header.status)
    (λ _. binds_lined z w k x at on b) (λ _. refuses_lined z w k (SaidSecond true) x x.header.status b)
step_lined z w k x (SaidSecond false) at on b =
    either (StepLined z w k (SaidSecond false) x) (x.header.status == success) Accepts (Refuses x.header.status)
    (λ _. accepts_lined z w k x at on b) (λ _. refuses_lined z w k (SaidSecond false) x x.header.status b)
step_lined z w k x AskedTree at on b =
    either (StepLined z w k AskedTree x) (x.header.status == success) Readies (Refuses x.header.status)
    (λ _. readies_lined z w k x at on b) (λ _. refuses_lined z w k AskedTree x x.header.status b)

passed_lined : (z : WorldSettings) (w : World) (k : ℕ) (stage : Stage) (x : HeardMessage) (o : Option Refusal)
    → (w.wires k).client_end.stage ≡ stage → (w.values.conns k).client_open ≡ true → Before w → Behind w (dialog_passed z w k stage x o)
passed_lined z w k stage x (Some why) at on b = off_lined w k why b
passed_lined z w k stage x None at on b = step_lined z w k x stage at on b

response_lined : (z : WorldSettings) (w : World) (k : ℕ) (stage : Stage) (o : Option HeardMessage) → (w.wires k).client_end.stage ≡ stage
    → (w.values.conns k).client_open ≡ true → Before w → Behind w (dialog_hears z w k stage o)
response_lined z w k stage None at on b = off_lined w k BadToken b
response_lined z w k stage (Some x) at on b =
    passed_lined z w k stage x (if x.header.status == status_due stage then dialog_fault z.client (w.wires k).client_end stage x else None) at on b

heard_lined : (z : WorldSettings) (w : World) (k : ℕ) (frame : List ℕ) (place : ℕ) (s : Stage) → (w.wires k).client_end.stage ≡ s
    → (w.values.conns k).client_open ≡ true → Before w → Behind w (hears z w k frame place s)
heard_lined z w k frame place Apart at on b = line_hears_lined w k place (line_response (w.wires k).client_end frame) b
heard_lined z w k frame place (SaidNegotiate bound) at on b =
    response_lined z w k (SaidNegotiate bound) (dialog_response (w.wires k).client_end (SaidNegotiate bound) frame) at on b
heard_lined z w k frame place (SaidFirst bound) at on b =
    response_lined z w k (SaidFirst bound) (dialog_response (w.wires k).client_end (SaidFirst bound) frame) at on b
heard_lined z w k frame place (SaidSecond bound) at on b =
    response_lined z w k (SaidSecond bound) (dialog_response (w.wires k).client_end (SaidSecond bound) frame) at on b
heard_lined z w k frame place AskedTree at on b =
    response_lined z w k AskedTree (dialog_response (w.wires k).client_end AskedTree frame) at on b

behind_lined : (w v f : World) → Talks w.wires v.wires → LinedAll v.wires f.values.conns f.wires → Behind w f
behind_lined w v f t all j =
    let a = all j in
    record { lined = a.lined; placed = a.placed; waits = λ id token e own. moved id token (a.waits id token e own) }
  where
    moved : (id : ℕ) (token : Token) → ((v.wires j).client_end.awaited id ≡ Some token) ⊎ Carries (f.values.conns j).up id token
        → ((w.wires j).client_end.awaited id ≡ Some token) ⊎ Carries (f.values.conns j).up id token
    moved id token (inl e) = (let p = t j in inl (p.waits id token e))
    moved id token (inr c) = inr c

pub take_lined : (z : WorldSettings) (w : World) (k : ℕ) (bs : List (List ℕ)) (ys : List Received) → (w.values.conns k).client_open ≡ true
    → Before w → Behind w (take_frame z w k bs ys)
take_lined z w k [] ys on b = still w b
take_lined z w k (x ∷ bs) [] on b = still w b
take_lined z w k (x ∷ bs) (y ∷ ys) on b =
    let v = behind_frame w k bs ys in
    let f = hears z v k x y.place (w.wires k).client_end.stage in
    let t : Talks w.wires v.wires = talks_put w.wires k _ (record { stage = refl; next = refl; waits = λ id token e. e }) in
    let ready : AllReady v.wires v.values.conns =
    by_key_2 (λ j (c : Conn) (u : Wires). IsReadyAt u c) w.values.conns w.wires k _ _
    (let i = b.0 k in record { purse = i.purse; frames = i.frames; values = i.values }) (λ j off. b.0 j) in
    let lined : AllLined v.values.conns v.wires =
    by_key_2 (λ j (c : Conn) (u : Wires). LinedAt c u) w.values.conns w.wires k _ _ (b.1 k) (λ j off. b.1 j) in
    let still_on : (v.values.conns k).client_open ≡ true =
    ap (λ (c : Conn). c.client_open) (put_here w.values.conns k _) ∙ on in
    let at : (v.wires k).client_end.stage ≡ (w.wires k).client_end.stage = (let p = t k in p.stage) in
    behind_lined w v f t (heard_lined z v k x y.place (w.wires k).client_end.stage at still_on (ready, lined))
