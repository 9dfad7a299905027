-- Each event of a world keeps what always holds of its client.
use Rattle.std.proofs.Common.{◌≡◌, ℕ, not, Bool, true, false, if◌then◌else◌, List, [], ◌∷◌, refl}
use Rattle.spec_exchange.specs.State.{Reply}
use Rattle.spec_exchange.specs.Operations.{NoSession, HadStatus}
use Rattle.spec_exchange.specs.Client.{Client, Stage, leave_dialog}
use Rattle.spec_exchange.specs.ClientStep.{Act, Nothing, Sends, Asks, CloseChannel, CloseChannels, AllSettled, TakesOp}
use Rattle.spec_exchange.specs.ClientStep.{Pushes, Hears, IsCut}
use Rattle.spec_exchange.specs.ClientStep.{IsReady, IsRefused, Finishes, act, client_after}
use Rattle.spec_exchange.specs.Dialogs.{DialogStep, GoesOn, Accepts, Binds, Readies, Refuses, accepted, dialog_step, open_channel, went_on}
use Rattle.spec_exchange.specs.Network.{World, Event, Submit, Open, Push, Serve, Take, Cut, Drop, Restart, Crash, Wait, Finish}
use Rattle.spec_exchange.specs.Network.{Sent, Received, Settings, Token, ForDialog, ForOp, ForAttach, absorb_front, behind_reply, changed}
use Rattle.spec_exchange.specs.Network.{crashed, cut_off, dialog_took, happens, is_possible, pushed_by, restarted, run, serve_front, start}
use Rattle.spec_exchange.specs.Network.{take_reply, took_by}
use Rattle.law_client.specs.table.Kept.{TableKept}
use Rattle.law_client.proofs.table.Events.{begins, keeps}

abbrev pub KeptIn : World → Type 0
KeptIn w = TableKept w.client

either : (b : Bool) (v w : World) → (b ≡ true → KeptIn v) → (b ≡ false → KeptIn w) → KeptIn (if b then v else w)
either true v w f g = f refl
either false v w f g = g refl

is_not : (b : Bool) → not b ≡ true → b ≡ false
is_not true e = absurd (cc)
is_not false e = refl

-- ---- what a dialog changes of the client is no column of its operations

opens : (c : Client) (k : ℕ) → TableKept c → TableKept (open_channel c k)
opens c k i = record { ordered = i.ordered; stands = i.stands; ready = i.ready }

goes_on : (c : Client) (k : ℕ) (stage : Stage) (r : Reply) → TableKept c → TableKept (went_on c k stage r)
goes_on c k stage r i = record { ordered = i.ordered; stands = i.stands; ready = i.ready }

accepts : (c : Client) (k : ℕ) → TableKept c → TableKept (accepted c k)
accepts c k i = record { ordered = i.ordered; stands = i.stands; ready = i.ready }

leaves : (c : Client) (k : ℕ) → TableKept c → TableKept (leave_dialog c k)
leaves c k i = record { ordered = i.ordered; stands = i.stands; ready = i.ready }

-- ---- each way in which a world's client changes

pushes : (w : World) (k : ℕ) (c : Client) (a : Act) → TableKept c → KeptIn (pushed_by w k c a)
pushes w k c Nothing i = i
pushes w k c (Sends g) i = i
pushes w k c (Asks g) i = i
pushes w k c CloseChannel i = i
pushes w k c CloseChannels i = i
pushes w k c AllSettled i = i

serves : (w : World) (k : ℕ) (xs : List Sent) → KeptIn w → KeptIn (serve_front w k xs)
serves w k [] i = i
serves w k (x ∷ rest) i = i

absorbs : (w : World) (k : ℕ) (xs : List Sent) → KeptIn w → KeptIn (absorb_front w k xs)
absorbs w k [] i = i
absorbs w k (x ∷ rest) i = i

crashes : (w : World) (k : ℕ) (kept : Bool) → KeptIn w → KeptIn (crashed w k kept)
crashes w k true i = absorbs w k (w.conns k).up i
crashes w k false i = i

dialogs : (w : World) (k : ℕ) (r : Reply) (step : DialogStep) → KeptIn w → KeptIn (dialog_took w k r step)
dialogs w k r (GoesOn stage) i = goes_on w.client k stage r i
dialogs w k r Accepts i = accepts w.client k i
dialogs w k r Binds i = keeps w.client (IsReady k w.client.session w.client.tree) i tt
dialogs w k r Readies i = keeps w.client (IsReady k w.client.pending r.tree_id) i tt
dialogs w k r (Refuses status) i = keeps w.client (IsRefused k (HadStatus status)) i tt

takes_by : (w : World) (k : ℕ) (r : Reply) (place : ℕ) (token : Token) → KeptIn w → KeptIn (took_by w k r place token)
takes_by w k r place ForDialog i = dialogs w k r (dialog_step (w.client.stage k) r.status) i
takes_by w k r place (ForOp g) i = keeps w.client (Hears k g false r place) i tt
takes_by w k r place (ForAttach g) i = keeps w.client (Hears k g true r place) i tt

takes : (w : World) (k : ℕ) (ys : List Received) → KeptIn w → KeptIn (take_reply w k ys)
takes w k [] i = i
takes w k (y ∷ rest) i = takes_by (behind_reply w k rest) k y.reply y.place y.token i

cuts : (w : World) (k : ℕ) → KeptIn w → KeptIn (cut_off w k)
cuts w k i = either (w.client.ready k) _ _ (λ _. keeps w.client (IsCut k) i tt) (λ _. leaves w.client k i)

-- ---- each event

changes : (w : World) (e : Event) → is_possible w e ≡ true → KeptIn w → KeptIn (changed w e)
changes w (Submit g op) p i = keeps w.client (TakesOp g op) i tt
changes w (Open k) p i = opens w.client k i
changes w (Push k slotless pick) p i = pushes w k (client_after w.client (Pushes k slotless pick)) (act w.client (Pushes k slotless pick))
    (keeps w.client (Pushes k slotless pick) i tt)
changes w (Serve k) p i = serves w k (w.conns k).up i
changes w (Take k) p i = takes w k (w.conns k).down i
changes w (Cut k) p i = cuts w k i
changes w (Drop k) p i = i
changes w Restart p i = i
changes w (Crash k kept) p i = crashes w k kept i
changes w (Wait n) p i = i
changes w (Finish refusal) p i = keeps w.client (Finishes (NoSession refusal)) i (is_not w.client.live p)

pub kept_behind : (w : World) (e : Event) → KeptIn w → KeptIn (happens w e)
kept_behind w e i = either (is_possible w e) _ w (λ p. changes w e p i) (λ _. i)

kept_behind_all : (es : List Event) (w : World) → KeptIn w → KeptIn (run es w)
unfolding run
kept_behind_all [] w i = i
kept_behind_all (e ∷ es) w i = kept_behind_all es (happens w e) (kept_behind w e i)

pub always : (z : Settings) (es : List Event) → TableKept (run es (start z)).client
always z es = kept_behind_all es (start z) (begins z)
