-- What an event does to the replies that wait, and to the places at which operations first acted.
use Rattle.std.proofs.Common.{◌≡◌, ℕ, ◌==◌, Bool, true, false, not, if◌then◌else◌, List, [], ◌∷◌, ◌++◌, ◌⊎◌, inl, inr}
use Rattle.std.proofs.Common.{refl, arith, sym, subst, ◌∙◌, ap, Some, slice_get}
use Rattle.spec_exchange.specs.Table.{put}
use Rattle.spec_exchange.specs.Status.{success}
use Rattle.spec_exchange.specs.Order.{Log}
use Rattle.spec_exchange.specs.State.{Reply, Accept}
use Rattle.spec_exchange.specs.Step.{step}
use Rattle.spec_exchange.specs.Client.{Client}
use Rattle.spec_exchange.specs.Dialogs.{DialogStep, GoesOn, Accepts, Binds, Readies, Refuses, dialog_step}
use Rattle.spec_exchange.specs.ClientStep.{Act, Nothing, Sends, Asks, CloseChannel, CloseChannels, AllSettled}
use Rattle.spec_exchange.specs.Network.{World, Event, Submit, Open, Push, Serve, Take, Cut, Drop, Restart, Crash, Wait}
use Rattle.spec_exchange.specs.Network.{Finish, Conn, Sent, Received, Token, ForDialog, ForOp, ForAttach, happens}
use Rattle.spec_exchange.specs.Network.{changed, later, may_open, may_serve, may_take_reply, fresh, server_off}
use Rattle.spec_exchange.specs.Network.{client_off, say_down, behind_front, pushed_by, answer, serve_front}
use Rattle.spec_exchange.specs.Network.{absorb_front, take_reply, took_by, dialog_took, closed_by, cut_by, behind_reply}
use Rattle.spec_exchange.specs.Network.{restarted}
use Rattle.law_sessions.proofs.messages.Lists.{get-push, waited_down}
use Rattle.law_server.proofs.tables.Logic.{either}

-- ---- the events that take no message: an operation acts at none of them

abbrev pub serves : Event → Bool
serves (Serve k) = true
serves (Crash k kept) = true
serves _ = false

pushed_first : (w : World) (k : ℕ) (c : Client) (x : Act) → (pushed_by w k c x).log.first ≡ w.log.first
pushed_first w k c (Sends g) = either (λ (l : Log). l.first ≡ w.log.first) (w.client.sent g) w.log _ (λ _. refl) (λ _. refl)
pushed_first w k c Nothing = refl
pushed_first w k c (Asks g) = refl
pushed_first w k c CloseChannel = refl
pushed_first w k c CloseChannels = refl
pushed_first w k c AllSettled = refl

closed_log : (w : World) (k : ℕ) (x : Act) → (closed_by w k x).log ≡ w.log
closed_log w k Nothing = refl
closed_log w k (Sends g) = refl
closed_log w k (Asks g) = refl
closed_log w k CloseChannel = refl
closed_log w k CloseChannels = refl
closed_log w k AllSettled = refl

cut_log : (w : World) (k : ℕ) (x : Act) → (cut_by w k x).log ≡ w.log
cut_log w k Nothing = refl
cut_log w k (Sends g) = refl
cut_log w k (Asks g) = refl
cut_log w k CloseChannel = refl
cut_log w k CloseChannels = refl
cut_log w k AllSettled = refl

dialog_log : (w : World) (k : ℕ) (r : Reply) (d : DialogStep) → (dialog_took w k r d).log ≡ w.log
dialog_log w k r (GoesOn stage) = refl
dialog_log w k r Accepts = refl
dialog_log w k r Binds = closed_log w k _
dialog_log w k r Readies = closed_log w k _
dialog_log w k r (Refuses status) = refl

took_log : (w : World) (k : ℕ) (r : Reply) (place : ℕ) (t : Token) → (took_by w k r place t).log ≡ w.log
took_log w k r place ForDialog = dialog_log w k r (dialog_step (w.client.stage k) r.status)
took_log w k r place (ForOp g) = closed_log w k _
took_log w k r place (ForAttach g) = closed_log w k _

taken_log : (w : World) (k : ℕ) (ys : List Received) → (take_reply w k ys).log ≡ w.log
taken_log w k [] = refl
taken_log w k (y ∷ rest) = took_log (behind_reply w k rest) k y.reply y.place y.token

-- the places stay
pub same_first : (w : World) (e : Event) → serves e ≡ false → (happens w e).log.first ≡ w.log.first
same_first w (Submit g op) n = refl
same_first w (Open k) n = either (λ (v : World). v.log.first ≡ w.log.first) (may_open w k) _ _ (λ _. refl) (λ _. refl)
same_first w (Push k slotless pick) n = either (λ (v : World). v.log.first ≡ w.log.first) (w.client.ready k)
    (later (changed w (Push k slotless pick)) 1) w (λ _. pushed_first w k _ _) (λ _. refl)
same_first w (Take k) n = either (λ (v : World). v.log.first ≡ w.log.first) (may_take_reply w k)
    (later (changed w (Take k)) 1) w (λ _. ap (λ (l : Log). l.first) (taken_log w k (w.conns k).down)) (λ _. refl)
same_first w (Cut k) n =
    either (λ (v : World). v.log.first ≡ w.log.first) (w.conns k).client_open (later (changed w (Cut k)) 1) w
    (λ _. either (λ (v : World). v.log.first ≡ w.log.first) (w.client.ready k) _ _
    (λ _. ap (λ (l : Log). l.first) (cut_log w k _)) (λ _. refl)) (λ _. refl)
same_first w (Drop k) n = either (λ (v : World). v.log.first ≡ w.log.first) (w.conns k).server_open _ _ (λ _. refl) (λ _. refl)
same_first w Restart n = refl
same_first w (Wait m) n = refl
same_first w (Finish refusal) n = either (λ (v : World). v.log.first ≡ w.log.first) (not w.client.live) _ _ (λ _. refl) (λ _. refl)
same_first w (Serve k) n = absurd (cc)
same_first w (Crash k kept) n = absurd (cc)

-- ---- the replies that wait

abbrev pub AllDown : (Received → Type 0) → (ℕ → Conn) → Type 0
AllDown P conns = (k n : ℕ) (y : Received) → slice_get (conns k).down n ≡ Some y → P y

none_in : (n : ℕ) (y : Received) → slice_get [] n ≡ Some y → ⊥
none_in n y h = absurd (cc)

-- one connection changes, whose list is the same or empty
lost_down : (P : Received → Type 0) (conns : ℕ → Conn) (k : ℕ) (d : Conn) → (d.down ≡ (conns k).down) ⊎ (d.down ≡ [])
    → AllDown P conns → AllDown P (put conns k d)
lost_down P conns k d same i j n y h =
    elim (j == k) as (λ b. slice_get (if b then d else conns j).down n ≡ Some y → P y) [
      | true ↦ λ g. by same g
      | false ↦ λ g. i j n y g
    ] h
  where
    by : (d.down ≡ (conns k).down) ⊎ (d.down ≡ []) → slice_get d.down n ≡ Some y → P y
    by (inl e) g = i k n y (subst (λ ys. slice_get ys n ≡ Some y) e g)
    by (inr e) g = absurd (none_in n y (subst (λ ys. slice_get ys n ≡ Some y) e g))

all_lost : (P : Received → Type 0) (conns : ℕ → Conn) → AllDown P (λ q. client_off (conns q))
all_lost P conns j n y h = absurd (none_in n y h)

said_down : (P : Received → Type 0) (conns : ℕ → Conn) (k : ℕ) (z : Received) → ((conns k).client_open ≡ true → P z)
    → AllDown P conns → AllDown P (put conns k (say_down (conns k) z))
said_down P conns k z new i =
    either (λ d. AllDown P (put conns k d)) (conns k).client_open (record (conns k) { down = (conns k).down ++ z ∷ [] }) (conns k)
    (λ o j n y h. elim (j == k) as (λ b. slice_get (if b then record (conns k) {
      down = (conns k).down ++ z ∷ [];
    } else conns j).down n ≡ Some y → P y) [
      | true ↦ λ g. by (new o) n y g ((get-push (conns k).down z n).1)
      | false ↦ λ g. i j n y g
    ] h)
    (λ _. lost_down P conns k (conns k) (inl refl) i)
  where
    same : (z y : Received) → Some z ≡ Some y → z ≡ y
    same z y e = cc

    by : P z → (n : ℕ) (y : Received) → slice_get ((conns k).down ++ z ∷ []) n ≡ Some y
        → (slice_get ((conns k).down ++ z ∷ []) n ≡ slice_get (conns k).down n)
        ⊎ (slice_get ((conns k).down ++ z ∷ []) n ≡ Some z) → P y
    by p n y g (inl e) = i k n y (sym e ∙ g)
    by p n y g (inr e) = subst P (same z y (sym e ∙ g)) p

pushed_down : (P : Received → Type 0) (w : World) (k : ℕ) (c : Client) (x : Act) → AllDown P w.conns → AllDown P (pushed_by w k c x).conns
pushed_down P w k c (Sends g) i = lost_down P w.conns k _ (inl refl) i
pushed_down P w k c (Asks g) i = lost_down P w.conns k _ (inl refl) i
pushed_down P w k c Nothing i = i
pushed_down P w k c CloseChannel i = i
pushed_down P w k c CloseChannels i = i
pushed_down P w k c AllSettled i = i

closed_down : (P : Received → Type 0) (w : World) (k : ℕ) (x : Act) → AllDown P w.conns → AllDown P (closed_by w k x).conns
closed_down P w k CloseChannel i = lost_down P w.conns k (client_off (w.conns k)) (inr refl) i
closed_down P w k CloseChannels i = all_lost P w.conns
closed_down P w k (Sends g) i = i
closed_down P w k (Asks g) i = i
closed_down P w k Nothing i = i
closed_down P w k AllSettled i = i

cut_down : (P : Received → Type 0) (w : World) (k : ℕ) (x : Act) → AllDown P w.conns → AllDown P (cut_by w k x).conns
cut_down P w k CloseChannels i = all_lost P w.conns
cut_down P w k CloseChannel i = lost_down P w.conns k (client_off (w.conns k)) (inr refl) i
cut_down P w k (Sends g) i = lost_down P w.conns k (client_off (w.conns k)) (inr refl) i
cut_down P w k (Asks g) i = lost_down P w.conns k (client_off (w.conns k)) (inr refl) i
cut_down P w k Nothing i = lost_down P w.conns k (client_off (w.conns k)) (inr refl) i
cut_down P w k AllSettled i = lost_down P w.conns k (client_off (w.conns k)) (inr refl) i

dialog_down : (P : Received → Type 0) (w : World) (k : ℕ) (r : Reply) (d : DialogStep) → AllDown P w.conns
    → AllDown P (dialog_took w k r d).conns
dialog_down P w k r (GoesOn stage) i = lost_down P w.conns k _ (inl refl) i
dialog_down P w k r Accepts i = lost_down P w.conns k _ (inl refl) i
dialog_down P w k r Binds i = closed_down P w k _ i
dialog_down P w k r Readies i = closed_down P w k _ i
dialog_down P w k r (Refuses status) i = lost_down P w.conns k (client_off (w.conns k)) (inr refl) i

took_down : (P : Received → Type 0) (w : World) (k : ℕ) (r : Reply) (place : ℕ) (t : Token) → AllDown P w.conns
    → AllDown P (took_by w k r place t).conns
took_down P w k r place ForDialog i = dialog_down P w k r (dialog_step (w.client.stage k) r.status) i
took_down P w k r place (ForOp g) i = closed_down P w k _ i
took_down P w k r place (ForAttach g) i = closed_down P w k _ i

taken_down : (P : Received → Type 0) (w : World) (k : ℕ) (ys : List Received) → (w.conns k).down ≡ ys
    → AllDown P w.conns → AllDown P (take_reply w k ys).conns
taken_down P w k [] is i = i
taken_down P w k (y ∷ rest) is i = took_down P (behind_reply w k rest) k y.reply y.place y.token
    (λ j n z h. let o = waited_down w.conns k y rest j n z is h in i j o.0 z o.1)

-- the reply to a message that the server takes
abbrev pub NewReply : (Received → Type 0) → World → Event → Type 0
NewReply P w e = (k : ℕ) (x : Sent) (rest : List Sent) → e ≡ Serve k → (w.conns k).up ≡ x ∷ rest
    → (w.conns k).client_open ≡ true → P (record { token = x.token; reply = (answer w x).reply; place = w.log.places })

front_open : (conns : ℕ → Conn) (k : ℕ) (rest : List Sent) → (put conns k (behind_front (conns k) rest) k).client_open
    ≡ true → (conns k).client_open ≡ true
front_open conns k rest o = grind arith

served_down : (P : Received → Type 0) (w : World) (k : ℕ) → NewReply P w (Serve k) → (xs : List Sent) → (w.conns k).up
    ≡ xs → AllDown P w.conns → AllDown P (serve_front w k xs).conns
served_down P w k new [] is i = i
served_down P w k new (x ∷ rest) is i =
    let f = put w.conns k (behind_front (w.conns k) rest) in
    said_down P f k (record { token = x.token; reply = (answer w x).reply; place = w.log.places })
    (λ o. new k x rest refl is (front_open w.conns k rest o)) (lost_down P w.conns k (behind_front (w.conns k) rest)
    (inl refl) i)

absorbed_down : (P : Received → Type 0) (w : World) (k : ℕ) (xs : List Sent) → AllDown P w.conns
    → AllDown P (restarted (absorb_front w k xs)).conns
absorbed_down P w k [] i = i
absorbed_down P w k (x ∷ rest) i = lost_down P w.conns k (behind_front (w.conns k) rest) (inl refl) i

crashed_down : (P : Received → Type 0) (w : World) (k : ℕ) (kept : Bool) → AllDown P w.conns → AllDown P (changed w (Crash k kept)).conns
crashed_down P w k true i = absorbed_down P w k (w.conns k).up i
crashed_down P w k false i = i

-- what waits behind an event waited before it, but for that reply
pub still_all_down : (P : Received → Type 0) (w : World) (e : Event) → NewReply P w e → AllDown P w.conns → AllDown P (happens w e).conns
still_all_down P w (Submit g op) new i = i
still_all_down P w (Open k) new i = either (λ (v : World). AllDown P v.conns) (may_open w k) _ _
    (λ _. lost_down P w.conns k (fresh w.client k ((step w.server w.moment (Accept k)).reply.status == success))
    (inr refl) i) (λ _. i)
still_all_down P w (Push k slotless pick) new i = either (λ (v : World). AllDown P v.conns) (w.client.ready k)
    (later (changed w (Push k slotless pick)) 1) w (λ _. pushed_down P w k _ _ i) (λ _. i)
still_all_down P w (Serve k) new i = either (λ (v : World). AllDown P v.conns) (may_serve w k)
    (later (serve_front w k (w.conns k).up) 1) w (λ _. served_down P w k new (w.conns k).up refl i) (λ _. i)
still_all_down P w (Take k) new i = either (λ (v : World). AllDown P v.conns) (may_take_reply w k)
    (later (changed w (Take k)) 1) w (λ _. taken_down P w k (w.conns k).down refl i) (λ _. i)
still_all_down P w (Cut k) new i =
    either (λ (v : World). AllDown P v.conns) (w.conns k).client_open (later (changed w (Cut k)) 1) w
    (λ _. either (λ (v : World). AllDown P v.conns) (w.client.ready k) _ _ (λ _. cut_down P w k _ i)
    (λ _. lost_down P w.conns k (client_off (w.conns k)) (inr refl) i)) (λ _. i)
still_all_down P w (Drop k) new i = either (λ (v : World). AllDown P v.conns) (w.conns k).server_open _ _
    (λ _. lost_down P w.conns k (server_off (w.conns k)) (inl refl) i) (λ _. i)
still_all_down P w Restart new i = i
still_all_down P w (Crash k kept) new i = either (λ (v : World). AllDown P v.conns) (may_serve w k) _ _
    (λ _. crashed_down P w k kept i) (λ _. i)
still_all_down P w (Wait m) new i = i
still_all_down P w (Finish refusal) new i = either (λ (v : World). AllDown P v.conns) (not w.client.live) _ _ (λ _. i) (λ _. i)
