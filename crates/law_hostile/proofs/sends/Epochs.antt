-- Along a repeat run the server's epoch is bounded by the restarts.
use Rattle.std.proofs.Common.{◌≡◌, ℕ, ◌+◌, ◌≤◌, true, false, inl, inr, refl, ap, ◌∙◌, arith}
use Rattle.std.proofs.Common.{Option, Some, None, slice_get}
use Rattle.law_server.proofs.tables.Logic.{either}
use Rattle.law_records.proofs.recovery.Restarts.{restarted as restarted_by}
use Rattle.law_sessions.proofs.sessions.Heard.{answered}
use Rattle.law_sessions.proofs.sessions.Connected.{falls_accept, falls_end}
use Rattle.spec_exchange.specs.State.{Server}
use Rattle.spec_exchange.specs.Fold.{fold_from, sweep, unmark_records}
use Rattle.spec_exchange.specs.Client.{Client}
use Rattle.spec_exchange.specs.ClientStep.{Act, Nothing, Sends, Asks, CloseChannel, CloseChannels, AllSettled, Pushes, act, client_after}
use Rattle.spec_exchange.specs.Network.{World as Values, Event, Submit, Open, Push, Serve, Take, Cut, Drop, Restart, Crash, Wait, Finish}
use Rattle.spec_exchange.specs.Network.{happens, changed, later, may_open, pushed_by, Settings, start}
use Rattle.spec_world.specs.Settings.{WorldSettings}
use Rattle.spec_hostile.specs.RepeatRuns.{RepeatWorld, RepeatEvent, Same, Give, UpFrame, DownFrame, uses_no_list, same_done, is_served, is_heard}
use Rattle.spec_hostile.specs.RepeatRuns.{given_up, given_down, give_up, give_down, repeat_happens}
use Rattle.law_hostile.proofs.greeted.Greeting.{AllFine}
use Rattle.law_hostile.proofs.loosely.Over.{Stands, cut_off_same}
use Rattle.law_hostile.proofs.loosely.Ending.{given_ends}
use Rattle.law_hostile.proofs.ended.Given.{StepsUp, steps_up}
use Rattle.law_hostile.proofs.ended.Moving.{happen_is, met, down_server}

-- how many epochs an event begins at most
abbrev pub epochs_behind : Event → ℕ → ℕ
epochs_behind Restart n = n + 1
epochs_behind _ n = n

abbrev Upto : ℕ → Values → Type 0
Upto n v = v.server.epoch ≤ n

same_low : (a b n : ℕ) → b ≡ a → a ≤ n → b ≤ n
same_low a b n e l = omega (arith, e, l)

next_low : (a b n : ℕ) → b ≡ a + 1 → a ≤ n → b ≤ n + 1
next_low a b n e l = omega (arith, e, l)

pushed_same : (w : Values) (k : ℕ) (c : Client) (x : Act) → (pushed_by w k c x).server ≡ w.server
pushed_same w k c Nothing = refl
pushed_same w k c (Sends g) = refl
pushed_same w k c (Asks g) = refl
pushed_same w k c CloseChannel = refl
pushed_same w k c CloseChannels = refl
pushed_same w k c AllSettled = refl

happens_upto : (w : Values) (e : Event) (n : ℕ) → uses_no_list e ≡ true → Stands w → Upto n w → Upto (epochs_behind e n) (happens w e)
happens_upto w (Submit g op) n s i l = l
happens_upto w (Open k) n s i l =
    either (Upto n) (may_open w k) (later (changed w (Open k)) 1) w
    (λ _. (let f = falls_accept w.server w.moment k in same_low w.server.epoch (changed w (Open k)).server.epoch n f.epoch l)) (λ _. l)
happens_upto w (Push k slotless pick) n s i l =
    let c = client_after w.client (Pushes k slotless pick) in
    let x = act w.client (Pushes k slotless pick) in
    either (Upto n) (w.client.ready k) (later (changed w (Push k slotless pick)) 1) w
    (λ _. same_low w.server.epoch (pushed_by w k c x).server.epoch n (ap (λ (s : Server). s.epoch) (pushed_same w k c x)) l) (λ _. l)
happens_upto w (Serve k) n s i l = absurd (cc)
happens_upto w (Take k) n s i l = absurd (cc)
happens_upto w (Cut k) n s i l =
    either (Upto n) (w.conns k).client_open (later (changed w (Cut k)) 1) w
    (λ _. same_low w.server.epoch (changed w (Cut k)).server.epoch n (ap (λ (s : Server). s.epoch) (cut_off_same w k)) l) (λ _. l)
happens_upto w (Drop k) n s i l =
    either (Upto n) (w.conns k).server_open (later (changed w (Drop k)) 1) w
    (λ _. (let f = falls_end w.server w.moment k in same_low w.server.epoch (changed w (Drop k)).server.epoch n f.epoch l)) (λ _. l)
happens_upto w Restart n s i l =
    let a = restarted_by w.server w.records i.recorded in next_low w.server.epoch (happens w Restart).server.epoch n a.epoch l
happens_upto w (Crash k kept) n s i l = absurd (cc)
happens_upto w (Wait n) m s i l = absurd (cc)
happens_upto w (Finish refusal) n s i l = absurd (cc)

met_same : (r : RepeatWorld) (e : Event) (n : ℕ) → uses_no_list e ≡ true → Stands r.world.values → Upto n r.world.values
    → Upto (epochs_behind e n) (happens r.world.values (met r.world e))
met_same r (Submit g op) n s i l = happens_upto r.world.values (Submit g op) n refl i l
met_same r (Open k) n s i l = happens_upto r.world.values (Open k) n refl i l
met_same r (Push k slotless pick) n s i l = happens_upto r.world.values (met r.world (Push k slotless pick)) n refl i l
met_same r (Serve k) n s i l = absurd (cc)
met_same r (Take k) n s i l = absurd (cc)
met_same r (Cut k) n s i l = happens_upto r.world.values (Cut k) n refl i l
met_same r (Drop k) n s i l = happens_upto r.world.values (Drop k) n refl i l
met_same r Restart n s i l = happens_upto r.world.values Restart n refl i l
met_same r (Crash k kept) n s i l = absurd (cc)
met_same r (Wait m) n s i l = absurd (cc)
met_same r (Finish refusal) n s i l = absurd (cc)

wider : (a n : ℕ) → a ≤ n → a ≤ n + 1
wider a n l = omega (arith, l)

behind_any : (e : Event) (a n : ℕ) → a ≤ n → a ≤ epochs_behind e n
behind_any (Submit g op) a n l = l
behind_any (Open k) a n l = l
behind_any (Push k slotless pick) a n l = l
behind_any (Serve k) a n l = l
behind_any (Take k) a n l = l
behind_any (Cut k) a n l = l
behind_any (Drop k) a n l = l
behind_any Restart a n l = wider a n l
behind_any (Crash k kept) a n l = l
behind_any (Wait m) a n l = l
behind_any (Finish refusal) a n l = l

same_upto : (z : WorldSettings) (r : RepeatWorld) (e : Event) (n : ℕ) → uses_no_list e ≡ true → Stands r.world.values → Upto n r.world.values
    → Upto (epochs_behind e n) (same_done z r e).world.values
same_upto z r e n s i l =
    same_low (happens r.world.values (met r.world e)).server.epoch (same_done z r e).world.values.server.epoch (epochs_behind e n)
    (ap (λ (v : Values). v.server.epoch) (happen_is z r.world e s)) (met_same r e n s i l)

up_upto : (z : WorldSettings) (r : RepeatWorld) (k i : ℕ) (u : UpFrame) (n : ℕ) → AllFine z r → slice_get r.ups i ≡ Some u
    → is_served r.world k ≡ true → Upto n r.world.values → Upto n (given_up z r k u).world.values
up_upto z r k i u n fine at on l = by (steps_up z r k i u fine at on)
  where
    by : StepsUp z r k u → Upto n (given_up z r k u).world.values
    by (inl q) =
        let f = given_ends z r k u q.0 on q.1 in
        let d = falls_end r.world.values.server r.world.values.moment k in
        same_low (happens r.world.values (Drop k)).server.epoch (given_up z r k u).world.values.server.epoch n
        (ap (λ (s : Server). s.epoch) f.server)
        (either (Upto n) (r.world.values.conns k).server_open (later (changed r.world.values (Drop k)) 1) r.world.values
        (λ _. same_low r.world.values.server.epoch (changed r.world.values (Drop k)).server.epoch n d.epoch l) (λ _. l))
    by (inr h) =
        let w = r.world.values in
        let t = h.took in
        let a = answered w.server w.moment h.message h.message.command refl in
        same_low w.server.epoch (given_up z r k u).world.values.server.epoch n (ap (λ (s : Server). s.epoch) t.server ∙ a.epoch) l

abbrev pub epochs_at : RepeatEvent → ℕ → ℕ
epochs_at (Same e) n = epochs_behind e n
epochs_at (Give k up place) n = n

pub event_upto : (z : WorldSettings) (r : RepeatWorld) (e : RepeatEvent) (n : ℕ) → AllFine z r → Stands r.world.values
    → r.world.values.server.epoch ≤ n → (repeat_happens z r e).world.values.server.epoch ≤ epochs_at e n
event_upto z r (Same e) n fine stands l =
    either (λ (v : RepeatWorld). Upto (epochs_behind e n) v.world.values) (uses_no_list e) (same_done z r e) r
    (λ s. same_upto z r e n s stands l) (λ _. behind_any e r.world.values.server.epoch n l)
event_upto z r (Give k true place) n fine stands l = by (slice_get r.ups place) refl
  where
    by : (o : Option UpFrame) → slice_get r.ups place ≡ o → Upto n (give_up z r k o).world.values
    by None at = l
    by (Some u) at =
        either (λ (v : RepeatWorld). Upto n v.world.values) (is_served r.world k) (given_up z r k u) r
        (λ on. up_upto z r k place u n fine at on l) (λ _. l)
event_upto z r (Give k false place) n fine stands l = by (slice_get r.downs place)
  where
    by : (o : Option DownFrame) → Upto n (give_down z r k o).world.values
    by None = l
    by (Some d) =
        either (λ (v : RepeatWorld). Upto n v.world.values) (is_heard r.world k) (given_down z r k d) r
        (λ on. same_low r.world.values.server.epoch (given_down z r k d).world.values.server.epoch n
        (ap (λ (s : Server). s.epoch) (down_server z r k d on)) l) (λ _. l)

pub first_epoch : (z : Settings) → (start z).server.epoch ≡ 1
unfolding fold_from sweep unmark_records
first_epoch z = refl
