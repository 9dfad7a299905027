-- Each event that reads no frame.
use Rattle.std.proofs.Common.{◌≡◌, ℕ, ◌*◌, Bool, true, false, if◌then◌else◌, refl, ap}
use Rattle.spec_exchange.specs.ClientStep.{IsCut, act}
use Rattle.spec_exchange.specs.Network.{World as Values, Submit, Open, Push, Serve, Take, Cut, Drop, Restart, Crash, Wait, Finish}
use Rattle.spec_exchange.specs.Network.{cut_off, is_possible, later}
use Rattle.spec_world.specs.World.{World, with_values, off_by, one_off, cut_wires}
use Rattle.spec_world.specs.Events.{bytes_changed, bytes_later}
use Rattle.law_ties.specs.events.Own.{OwnEvents}

-- both worlds meet the event, or neither does
pub met_alike : (b : Bool) (x w : World) (y : Values) (n : ℕ) → x.values ≡ y
    → (if b then bytes_later x n else w).values ≡ (if b then later y n else w.values)
met_alike true x w y n e = ap (λ v. later v n) e
met_alike false x w y n e = refl

one_of : (b : Bool) (x y : World) (v : Values) → x.values ≡ v → y.values ≡ v → (if b then x else y).values ≡ v
one_of true x y v e f = e
one_of false x y v e f = f

cut_alike : (w : World) (k : ℕ) → (cut_wires w k).values ≡ cut_off w.values k
cut_alike w k =
    one_of (w.values.client.ready k) (with_values (off_by w k (act w.values.client (IsCut k))) (cut_off w.values k))
    (with_values (one_off w k) (cut_off w.values k)) (cut_off w.values k) refl refl

pub own_events : OwnEvents
own_events z w (Submit g op) own = met_alike (is_possible w.values (Submit g op)) (bytes_changed z w (Submit g op)) w _ 1 refl
own_events z w (Open k) own = met_alike (is_possible w.values (Open k)) (bytes_changed z w (Open k)) w _ 1 refl
own_events z w (Push k slotless pick) own =
    met_alike (w.values.client.ready k) (bytes_changed z w (Push k slotless pick)) w _ 1 refl
own_events z w (Cut k) own =
    met_alike (is_possible w.values (Cut k)) (bytes_changed z w (Cut k)) w (cut_off w.values k) 1 (cut_alike w k)
own_events z w (Drop k) own = met_alike (is_possible w.values (Drop k)) (bytes_changed z w (Drop k)) w _ 1 refl
own_events z w Restart own = met_alike true (bytes_changed z w Restart) w _ 1 refl
own_events z w (Crash k false) own =
    met_alike (is_possible w.values (Crash k false)) (bytes_changed z w (Crash k false)) w _ 1 refl
own_events z w (Wait n) own = met_alike true (bytes_changed z w (Wait n)) w _ (10000 * n) refl
own_events z w (Finish refusal) own =
    met_alike (is_possible w.values (Finish refusal)) (bytes_changed z w (Finish refusal)) w _ 1 refl
own_events z w (Serve k) own = absurd (cc)
own_events z w (Take k) own = absurd (cc)
own_events z w (Crash k true) own = absurd (cc)
