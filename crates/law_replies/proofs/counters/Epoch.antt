-- A restart alone begins an epoch, and but one.
use Rattle.std.proofs.Common.{◌≡◌, ℕ, ◌+◌, ◌≤◌, Bool, true, false, not, if◌then◌else◌, List, [], ◌∷◌, refl, ap, subst, arith}
use Rattle.spec_exchange.specs.State.{Server, Reply}
use Rattle.spec_exchange.specs.Client.{Client}
use Rattle.spec_exchange.specs.Fold.{fold_from, sweep, unmark_records}
use Rattle.spec_exchange.specs.Dialogs.{DialogStep, GoesOn, Accepts, Binds, Readies, Refuses, dialog_step}
use Rattle.spec_exchange.specs.ClientStep.{Act, Nothing, Sends, Asks, CloseChannel, CloseChannels, AllSettled, Pushes, IsCut, IsReady}
use Rattle.spec_exchange.specs.ClientStep.{Hears, act, client_after}
use Rattle.spec_exchange.specs.Network.{World, Event, Submit, Open, Push, Serve, Take, Cut, Drop, Restart, Crash, Wait}
use Rattle.spec_exchange.specs.Network.{Finish, Sent, Received}
use Rattle.spec_exchange.specs.Network.{Token, ForDialog, ForOp, ForAttach, Settings, start, happens, changed, later, may_open, may_serve}
use Rattle.spec_exchange.specs.Network.{may_take_reply, pushed_by, serve_front, absorb_front, take_reply, took_by, dialog_took, closed_by}
use Rattle.spec_exchange.specs.Network.{cut_by, behind_reply, restarted}
use Rattle.law_server.proofs.tables.Logic.{either}
use Rattle.law_records.specs.recovery.Recovers.{RecordRecovers}
use Rattle.law_records.specs.recovery.Restarted.{Restarted}
use Rattle.law_records.proofs.recovery.Restarts.{restarted as restarted_by}
use Rattle.law_sessions.proofs.sessions.Heard.{answered as answered_by}
use Rattle.law_sessions.proofs.sessions.Connected.{falls_accept, falls_end}
use Rattle.law_ties.specs.wire_facts.Steps.{restarts_in}

-- how many epochs an event begins at most
abbrev pub begins : Event → ℕ
begins e = restarts_in (e ∷ [])

abbrev pub Upto : World → ℕ → World → Type 0
Upto w n v = v.server.epoch ≤ w.server.epoch + n

stays : (a b : ℕ) → b ≡ a → b ≤ a + 0
stays a b e = omega (arith, e)

next : (a b : ℕ) → b ≡ a + 1 → b ≤ a + 1
next a b e = omega (arith, e)

stays_more : (a b : ℕ) → b ≡ a → b ≤ a + 1
stays_more a b e = omega (arith, e)

-- ---- the client's steps leave the server

pushed_same : (w : World) (k : ℕ) (c : Client) (x : Act) → (pushed_by w k c x).server ≡ w.server
pushed_same w k c Nothing = refl
pushed_same w k c (Sends g) = refl
pushed_same w k c (Asks g) = refl
pushed_same w k c CloseChannel = refl
pushed_same w k c CloseChannels = refl
pushed_same w k c AllSettled = refl

closed_same : (w : World) (k : ℕ) (x : Act) → (closed_by w k x).server.epoch ≡ w.server.epoch
closed_same w k Nothing = refl
closed_same w k (Sends g) = refl
closed_same w k (Asks g) = refl
closed_same w k CloseChannel = refl
closed_same w k CloseChannels = refl
closed_same w k AllSettled = refl

cut_same : (w : World) (k : ℕ) (x : Act) → (cut_by w k x).server.epoch ≡ w.server.epoch
cut_same w k Nothing = refl
cut_same w k (Sends g) = refl
cut_same w k (Asks g) = refl
cut_same w k CloseChannel = refl
cut_same w k CloseChannels = refl
cut_same w k AllSettled = refl

dialog_same : (w : World) (k : ℕ) (r : Reply) (d : DialogStep) → (dialog_took w k r d).server.epoch ≡ w.server.epoch
dialog_same w k r (GoesOn stage) = refl
dialog_same w k r Accepts = refl
dialog_same w k r Binds = closed_same w k (act w.client (IsReady k w.client.session w.client.tree))
dialog_same w k r Readies = closed_same w k (act w.client (IsReady k w.client.pending r.tree_id))
dialog_same w k r (Refuses status) = closed_same w k CloseChannel

take_same : (w : World) (k : ℕ) (ys : List Received) → (take_reply w k ys).server.epoch ≡ w.server.epoch
take_same w k [] = refl
take_same w k (y ∷ rest) = by y.token
  where
    by : (t : Token) → (took_by (behind_reply w k rest) k y.reply y.place t).server.epoch ≡ w.server.epoch
    by ForDialog = dialog_same (behind_reply w k rest) k y.reply (dialog_step (w.client.stage k) y.reply.status)
    by (ForOp g) = closed_same (behind_reply w k rest) k (act w.client (Hears k g false y.reply y.place))
    by (ForAttach g) = closed_same (behind_reply w k rest) k (act w.client (Hears k g true y.reply y.place))

cut_off_same : (w : World) (k : ℕ) → (changed w (Cut k)).server.epoch ≡ w.server.epoch
cut_off_same w k =
    either (λ (v : World). v.server.epoch ≡ w.server.epoch) (w.client.ready k) _ _ (λ _. cut_same w k (act w.client (IsCut k))) (λ _. refl)

-- ---- the server's steps keep its epoch

serve_same : (w : World) (k : ℕ) (xs : List Sent) → (serve_front w k xs).server.epoch ≡ w.server.epoch
serve_same w k [] = refl
serve_same w k (x ∷ rest) = (let a = answered_by w.server w.moment x.message x.message.command refl in a.epoch)

absorb_same : (w : World) (k : ℕ) (xs : List Sent) → (absorb_front w k xs).server.epoch ≡ w.server.epoch
absorb_same w k [] = refl
absorb_same w k (x ∷ rest) = (let a = answered_by w.server w.moment x.message x.message.command refl in a.epoch)

-- ---- a restart

abbrev Anew : World → Type 0
Anew w = Restarted w.server (restarted w).server

anew_behind : (w : World) (k : ℕ) (xs : List Sent) → Anew (serve_front w k xs) → Anew (absorb_front w k xs)
anew_behind w k [] h = h
anew_behind w k (x ∷ rest) h = h

anew_at : (w : World) → RecordRecovers w.records w.server → Anew w
anew_at w r = restarted_by w.server w.records r

if_true : {X : Type 0} (b : Bool) (x y : X) → b ≡ true → (if b then x else y) ≡ x
if_true true x y e = refl
if_true false x y e = absurd (let h : false ≡ true = e in cc)

anew_kept : (w : World) (k : ℕ) → may_serve w k ≡ true → RecordRecovers (happens w (Serve k)).records (happens w (Serve k)).server
    → Anew (absorb_front w k (w.conns k).up)
anew_kept w k may r =
    let e : happens w (Serve k) ≡ later (serve_front w k (w.conns k).up) 1 = if_true (may_serve w k)
    (later (serve_front w k (w.conns k).up) 1) w may in
    anew_behind w k (w.conns k).up (subst Anew e (anew_at (happens w (Serve k)) r))

crash_upto : (w : World) (k : ℕ) (kept : Bool) → RecordRecovers w.records w.server
    → RecordRecovers (happens w (Serve k)).records (happens w (Serve k)).server → may_serve w k ≡ true → Upto w 1 (changed w (Crash k kept))
crash_upto w k true r s may =
    let a = anew_kept w k may s in
    let b = absorb_same w k (w.conns k).up in
    step_of w.server.epoch (absorb_front w k (w.conns k).up).server.epoch
    (restarted (absorb_front w k (w.conns k).up)).server.epoch b a.epoch
  where
    step_of : (a b c : ℕ) → b ≡ a → c ≡ b + 1 → c ≤ a + 1
    step_of a b c e f = omega (arith, e, f)
crash_upto w k false r s may = (let a = anew_at w r in next w.server.epoch (restarted w).server.epoch a.epoch)

-- ---- every event

pub epoch_on : (w : World) (e : Event) → RecordRecovers w.records w.server
    → ((k : ℕ) → RecordRecovers (happens w (Serve k)).records (happens w (Serve k)).server) → Upto w (begins e) (happens w e)
unfolding restarts_in
epoch_on w (Submit g op) r s = stays w.server.epoch w.server.epoch refl
epoch_on w (Open k) r s =
    either (λ (v : World). Upto w 0 v) (may_open w k) (later (changed w (Open k)) 1) w
    (λ _. (let f = falls_accept w.server w.moment k in stays w.server.epoch (changed w (Open k)).server.epoch f.epoch))
    (λ _. stays w.server.epoch w.server.epoch refl)
epoch_on w (Push k slotless pick) r s =
    let c = client_after w.client (Pushes k slotless pick) in
    let x = act w.client (Pushes k slotless pick) in
    either (λ (v : World). Upto w 0 v) (w.client.ready k) (later (changed w (Push k slotless pick)) 1) w
    (λ _. stays w.server.epoch (pushed_by w k c x).server.epoch (ap (λ (s : Server). s.epoch) (pushed_same w k c x)))
    (λ _. stays w.server.epoch w.server.epoch refl)
epoch_on w (Serve k) r s =
    either (λ (v : World). Upto w 0 v) (may_serve w k) (later (serve_front w k (w.conns k).up) 1) w
    (λ _. stays w.server.epoch (serve_front w k (w.conns k).up).server.epoch (serve_same w k (w.conns k).up))
    (λ _. stays w.server.epoch w.server.epoch refl)
epoch_on w (Take k) r s =
    either (λ (v : World). Upto w 0 v) (may_take_reply w k) (later (changed w (Take k)) 1) w
    (λ _. stays w.server.epoch (take_reply w k (w.conns k).down).server.epoch (take_same w k (w.conns k).down))
    (λ _. stays w.server.epoch w.server.epoch refl)
epoch_on w (Cut k) r s =
    either (λ (v : World). Upto w 0 v) (w.conns k).client_open (later (changed w (Cut k)) 1) w
    (λ _. stays w.server.epoch (changed w (Cut k)).server.epoch (cut_off_same w k))
    (λ _. stays w.server.epoch w.server.epoch refl)
epoch_on w (Drop k) r s =
    either (λ (v : World). Upto w 0 v) (w.conns k).server_open (later (changed w (Drop k)) 1) w
    (λ _. (let f = falls_end w.server w.moment k in stays w.server.epoch (changed w (Drop k)).server.epoch f.epoch))
    (λ _. stays w.server.epoch w.server.epoch refl)
epoch_on w Restart r s = (let a = anew_at w r in next w.server.epoch (restarted w).server.epoch a.epoch)
epoch_on w (Crash k kept) r s =
    either (λ (v : World). Upto w 1 v) (may_serve w k) (later (changed w (Crash k kept)) 1) w
    (λ may. crash_upto w k kept r (s k) may) (λ _. stays_more w.server.epoch w.server.epoch refl)
epoch_on w (Wait n) r s = stays w.server.epoch w.server.epoch refl
epoch_on w (Finish refusal) r s =
    either (λ (v : World). Upto w 0 v) (not w.client.live) (later (changed w (Finish refusal)) 1) w
    (λ _. stays w.server.epoch w.server.epoch refl) (λ _. stays w.server.epoch w.server.epoch refl)

-- the first start begins the first epoch
first_epoch : (z : Settings) → (start z).server.epoch ≡ 1
unfolding fold_from sweep unmark_records
first_epoch z = refl

pub first_upto : (z : Settings) → (start z).server.epoch ≤ 1 + restarts_in []
unfolding restarts_in
first_upto z = same_low (start z).server.epoch (first_epoch z)
  where
    same_low : (a : ℕ) → a ≡ 1 → a ≤ 1 + 0
    same_low a e = omega (arith, e)
