-- Lists only grow.
use Rattle.std.proofs.Common.{◌≡◌, ℕ, zero, suc, Bool, true, false, ◌&&◌, if◌then◌else◌, List, [], ◌∷◌, ◌++◌, refl, sym, ◌∙◌, ap}
use Rattle.std.proofs.Common.{Option, Some, None, slice_get, Result, Ok, Err}
use Rattle.spec_exchange.specs.Network.{Event, is_possible}
use Rattle.law_server.proofs.tables.Logic.{either}
use Rattle.spec_world.specs.Settings.{WorldSettings}
use Rattle.spec_world.specs.Ends.{ConnEnd}
use Rattle.spec_world.specs.Hearing.{Frame, check_frame}
use Rattle.spec_world.specs.World.{World, step_at}
use Rattle.spec_hostile.specs.RepeatRuns.{RepeatWorld, RepeatEvent, Same, Give, UpFrame, DownFrame, uses_no_list}
use Rattle.spec_hostile.specs.RepeatRuns.{is_opening, with_opening, same_done, given_up, given_down, give_up, give_down, is_served}
use Rattle.spec_hostile.specs.RepeatRuns.{is_heard, repeat_happens, repeat_run, loaded_up}
use Rattle.spec_hostile.specs.SignedFor.{Watched, SignedEntry, said_in}
use Rattle.spec_hostile.specs.SignedFor.{watched_up, watched_served, watched_happens, watched_run}
use Rattle.law_hostile.specs.puts.Puts.{Grows, PutStays, SignedStays, WatchesRun}

-- ---- lists

pub none_in : {X : Type 0} (xs : List X) (n : ℕ) (x : X) → xs ≡ [] → slice_get xs n ≡ Some x → ⊥
none_in [] zero x e h = absurd (let q : None ≡ Some x = h in cc)
none_in [] (suc n) x e h = absurd (let q : None ≡ Some x = h in cc)
none_in (v ∷ xs) n x e h = absurd (cc)

pub in_front : {X : Type 0} (xs ys : List X) (n : ℕ) (x : X) → slice_get xs n ≡ Some x → slice_get (xs ++ ys) n ≡ Some x
in_front [] ys n x h = absurd (none_in [] n x refl h)
in_front (v ∷ xs) ys zero x h = h
in_front (v ∷ xs) ys (suc n) x h = in_front xs ys n x h

-- ---- one event of a run

itself : (r : RepeatWorld) → Grows r r
itself r = record { ups = λ n u h. h; downs = λ n d h. h }

then_grows : (r s t : RepeatWorld) → Grows r s → Grows s t → Grows r t
then_grows r s t p q = record { ups = λ n u h. q.ups n u (p.ups n u h); downs = λ n d h. q.downs n d (p.downs n d h) }

opening_grows : (r : RepeatWorld) (e : Event) → Grows r (with_opening r e)
opening_grows r e =
    either (λ v. Grows r v) (is_opening e && is_possible r.world.values e) _ r
    (λ _. record { ups = λ n u h. h; downs = λ n d h. h }) (λ _. itself r)

same_grows : (z : WorldSettings) (r : RepeatWorld) (e : Event) → Grows r (same_done z r e)
same_grows z r e =
    let s = with_opening r e in
    let g = opening_grows r e in
    record {
      ups = λ n u h. in_front s.ups _ n u (g.ups n u h);
      downs = λ n d h. in_front s.downs _ n d (g.downs n d h);
    }

up_grows : (z : WorldSettings) (r : RepeatWorld) (k : ℕ) (o : Option UpFrame) → Grows r (give_up z r k o)
up_grows z r k None = itself r
up_grows z r k (Some u) =
    either (λ v. Grows r v) (is_served r.world k) (given_up z r k u) r
    (λ _. record { ups = λ n v h. in_front r.ups _ n v h; downs = λ n d h. in_front r.downs _ n d h }) (λ _. itself r)

down_grows : (z : WorldSettings) (r : RepeatWorld) (k : ℕ) (o : Option DownFrame) → Grows r (give_down z r k o)
down_grows z r k None = itself r
down_grows z r k (Some d) =
    either (λ v. Grows r v) (is_heard r.world k) (given_down z r k d) r
    (λ _. record { ups = λ n v h. in_front r.ups _ n v h; downs = λ n v h. in_front r.downs _ n v h }) (λ _. itself r)

pub event_grows : (z : WorldSettings) (r : RepeatWorld) (e : RepeatEvent) → Grows r (repeat_happens z r e)
event_grows z r (Same e) =
    either (λ v. Grows r v) (uses_no_list e) (same_done z r e) r (λ _. same_grows z r e) (λ _. itself r)
event_grows z r (Give k true place) = up_grows z r k (slice_get r.ups place)
event_grows z r (Give k false place) = down_grows z r k (slice_get r.downs place)

pub put_stays : PutStays
unfolding repeat_run
put_stays z [] r = itself r
put_stays z (e ∷ es) r =
    then_grows r (repeat_happens z r e) (repeat_run z es (repeat_happens z r e)) (event_grows z r e)
    (put_stays z es (repeat_happens z r e))

-- ---- what is watched

served_watched : (z : WorldSettings) (t : Watched) (k place : ℕ) (o : Option UpFrame) → slice_get t.repeating.ups place ≡ o
    → (watched_served z t k o (Give k true place)).repeating ≡ repeat_happens z t.repeating (Give k true place)
served_watched z t k place None e = sym (ap (λ o. give_up z t.repeating k o) e)
served_watched z t k place (Some u) e =
    by_served (is_served t.repeating.world k) refl
  where
    by_served : (b : Bool) → is_served t.repeating.world k ≡ b
        → (if b then watched_up z t k u (Give k true place) else t).repeating ≡ repeat_happens z t.repeating (Give k true place)
    by_served true s = refl
    by_served false s =
        sym (ap (λ o. give_up z t.repeating k o) e ∙ ap (λ b. if b then given_up z t.repeating k u else t.repeating) s)

pub event_watched : (z : WorldSettings) (t : Watched) (e : RepeatEvent)
    → (watched_happens z t e).repeating ≡ repeat_happens z t.repeating e
event_watched z t (Same e) = refl
event_watched z t (Give k true place) = served_watched z t k place (slice_get t.repeating.ups place) refl
event_watched z t (Give k false place) = refl

pub watches_run : WatchesRun
unfolding watched_run repeat_run
watches_run z [] t = refl
watches_run z (e ∷ es) t =
    watches_run z es (watched_happens z t e) ∙ ap (λ r. repeat_run z es r) (event_watched z t e)

-- ---- what was signed

abbrev Signs : Watched → Watched → Type 0
Signs t v = (n : ℕ) (e : SignedEntry) → slice_get t.signed n ≡ Some e → slice_get v.signed n ≡ Some e

said_signs : (z : WorldSettings) (t : Watched) (k : ℕ) (w : World) (o : Option ConnEnd) (x : Result Frame ConnEnd)
    → Signs t (said_in z t k w o x)
said_signs z t k w (Some why) x n e h = h
said_signs z t k w None (Err why) n e h = h
said_signs z t k w None (Ok x) n e h = in_front t.signed _ n e h

served_signs : (z : WorldSettings) (t : Watched) (k : ℕ) (o : Option UpFrame) (e : RepeatEvent) → Signs t (watched_served z t k o e)
served_signs z t k None e n x h = h
served_signs z t k (Some u) e n x h =
    either (λ (v : Watched). slice_get v.signed n ≡ Some x) (is_served t.repeating.world k) (watched_up z t k u e) t
    (λ _. let w = loaded_up t.repeating k u in
    said_signs z t k w (step_at z w k u.frame).ends (check_frame (w.wires k).server_end u.frame) n x h) (λ _. h)

event_signs : (z : WorldSettings) (t : Watched) (e : RepeatEvent) → Signs t (watched_happens z t e)
event_signs z t (Same e) n x h = in_front t.signed _ n x h
event_signs z t (Give k true place) n x h = served_signs z t k (slice_get t.repeating.ups place) (Give k true place) n x h
event_signs z t (Give k false place) n x h = in_front t.signed _ n x h

pub signed_stays : SignedStays
unfolding watched_run
signed_stays z [] t n e h = h
signed_stays z (x ∷ es) t n e h = signed_stays z es (watched_happens z t x) n e (event_signs z t x n e h)
