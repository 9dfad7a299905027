-- Along a repeat run of a client that offers no cipher, no frame that goes up is sealed.
use Rattle.std.proofs.Common.{◌≡◌, ℕ, zero, suc, ◌+◌, Bool, true, false, List, [], ◌∷◌, ◌++◌, ◌⊎◌, inl, inr, refl, sym, ap}
use Rattle.std.proofs.Common.{subst, Option, Some, None, slice_get, add-one}
use Rattle.law_server.proofs.tables.Logic.{either}
use Rattle.law_nonces.proofs.negotiation.Tables.{by_key}
use Rattle.spec_exchange.specs.Network.{Event, Sent, Serve, Take}
use Rattle.spec_world.specs.Settings.{WorldSettings}
use Rattle.spec_world.specs.Hearing.{begins_sealed}
use Rattle.spec_world.specs.World.{World, Wires}
use Rattle.spec_world.specs.Events.{Plain, bytes_happen}
use Rattle.spec_hostile.specs.RepeatRuns.{RepeatWorld, RepeatEvent, Same, Give, UpFrame, DownFrame, puts_up, is_heard, is_served}
use Rattle.spec_hostile.specs.RepeatRuns.{uses_no_list, own_connection, with_opening, same_done, loaded_up, loaded_down, lists_as, up_frames}
use Rattle.spec_hostile.specs.RepeatRuns.{given_up, given_down, give_up, give_down, repeat_happens, repeat_run, repeat_start}
use Rattle.law_hostile.specs.ids.OwnIds.{OwnFramesArePlain}
use Rattle.law_hostile.proofs.puts.Growing.{none_in}
use Rattle.law_hostile.proofs.puts.Replies.{in_either}
use Rattle.law_hostile.proofs.placed.Requests.{opening_ups}
use Rattle.law_hostile.proofs.ids.Plain.{PlainAt, AllPlain, Plainly, none_plain, one_plain, same_plain, serves_plain, takes_plain}

abbrev AllBare : List UpFrame → Type 0
AllBare us = (i : ℕ) (u : UpFrame) → slice_get us i ≡ Some u → begins_sealed u.frame ≡ false

pub record Holds (r : RepeatWorld) : Type 0 where
  pub world : Plainly r.world
  pub ups : AllBare r.ups

frame_same : (v u : UpFrame) → Some v ≡ Some u → Some v.frame ≡ Some u.frame
frame_same v u h = let r : v ≡ u = cc in ap (λ (x : UpFrame). Some x.frame) r

abbrev one_put : ℕ → ℕ → List ℕ → Sent → UpFrame
one_put k n b x = record { frame = b; sent = x; connection = k; opening = n }

-- what is put has the bytes of the list
put_bytes : (k n : ℕ) (bs : List (List ℕ)) (xs : List Sent) (i : ℕ) (u : UpFrame) → slice_get (puts_up k n bs xs) i ≡ Some u
    → (j : ℕ) × (slice_get bs j ≡ Some u.frame)
unfolding puts_up
put_bytes k n [] xs i u h = absurd (none_in [] i u refl h)
put_bytes k n (b ∷ bs) [] i u h = absurd (none_in [] i u refl h)
put_bytes k n (b ∷ bs) (x ∷ xs) zero u h =
    (0, frame_same (one_put k n b x) u h)
put_bytes k n (b ∷ bs) (x ∷ xs) (suc i) u h = let m = put_bytes k n bs xs i u h in (m.0 + 1, rw (add-one) m.1)

more_bare : (us : List UpFrame) (k n : ℕ) (bs : List (List ℕ)) (xs : List Sent) → AllPlain bs → AllBare us
    → AllBare (us ++ puts_up k n bs xs)
more_bare us k n bs xs plain all i u h = by (in_either us (puts_up k n bs xs) i u h)
  where
    by : ((m : ℕ) × (slice_get us m ≡ Some u)) ⊎ ((m : ℕ) × (slice_get (puts_up k n bs xs) m ≡ Some u)) → begins_sealed u.frame ≡ false
    by (inl m) = all m.0 u m.1
    by (inr m) = let j = put_bytes k n bs xs m.0 u m.1 in plain j.0 u.frame j.1

lists_plain : (w : World) (k : ℕ) (us : List UpFrame) (ds : List DownFrame) (heard : Bool) → AllPlain (up_frames us) → Plainly w
    → Plainly (lists_as w k us ds heard)
lists_plain w k us ds heard b p =
    (by_key (λ j (v : Wires). PlainAt v) w.wires k _ (record { ends = (p.0 k).ends; frames = b }) (λ j off. p.0 j), p.1, p.2)

no_frames : AllPlain (up_frames [])
unfolding up_frames
no_frames = none_plain

one_frame : (u : UpFrame) → begins_sealed u.frame ≡ false → AllPlain (up_frames (u ∷ []))
unfolding up_frames
one_frame u e = one_plain u.frame e

same_holds : (z : WorldSettings) (r : RepeatWorld) (e : Event) → z.client.ciphers ≡ [] → uses_no_list e ≡ true → Holds r
    → Holds (same_done z r e)
same_holds z r e c s h =
    let k = own_connection e in
    let w = bytes_happen z r.world (Plain e) in
    let p = same_plain z r.world e c s h.world in
    record {
      world = lists_plain w k [] [] (is_heard w k) no_frames p;
      ups = more_bare (with_opening r e).ups k ((with_opening r e).openings k) (w.wires k).up (w.values.conns k).up (p.0 k).frames
          (subst AllBare (sym (opening_ups r e)) h.ups);
    }

up_holds : (z : WorldSettings) (r : RepeatWorld) (k : ℕ) (u : UpFrame) → begins_sealed u.frame ≡ false → Holds r → Holds (given_up z r k u)
up_holds z r k u bare h =
    let v = loaded_up r k u in
    let w = bytes_happen z v (Plain (Serve k)) in
    let p = serves_plain z v k (lists_plain r.world k (u ∷ []) [] true (one_frame u bare) h.world) in
    record {
      world = lists_plain w k [] [] (is_heard r.world k) no_frames p;
      ups = more_bare r.ups k (r.openings k) (w.wires k).up (w.values.conns k).up (p.0 k).frames h.ups;
    }

down_holds : (z : WorldSettings) (r : RepeatWorld) (k : ℕ) (d : DownFrame) → z.client.ciphers ≡ [] → Holds r → Holds (given_down z r k d)
down_holds z r k d c h =
    let v = loaded_down r k d in
    let w = bytes_happen z v (Plain (Take k)) in
    let p = takes_plain z v k c (lists_plain r.world k [] (d ∷ []) true no_frames h.world) in
    record {
      world = lists_plain w k [] [] (is_heard w k) no_frames p;
      ups = more_bare r.ups k (r.openings k) (w.wires k).up (w.values.conns k).up (p.0 k).frames h.ups;
    }

give_up_holds : (z : WorldSettings) (r : RepeatWorld) (k : ℕ) (o : Option UpFrame)
    → ((u : UpFrame) → o ≡ Some u → begins_sealed u.frame ≡ false) → Holds r → Holds (give_up z r k o)
give_up_holds z r k None bare h = h
give_up_holds z r k (Some u) bare h =
    either Holds (is_served r.world k) (given_up z r k u) r (λ _. up_holds z r k u (bare u refl) h) (λ _. h)

give_down_holds : (z : WorldSettings) (r : RepeatWorld) (k : ℕ) (o : Option DownFrame) → z.client.ciphers ≡ [] → Holds r
    → Holds (give_down z r k o)
give_down_holds z r k None c h = h
give_down_holds z r k (Some d) c h =
    either Holds (is_heard r.world k) (given_down z r k d) r (λ _. down_holds z r k d c h) (λ _. h)

pub event_holds : (z : WorldSettings) (r : RepeatWorld) (e : RepeatEvent) → z.client.ciphers ≡ [] → Holds r → Holds (repeat_happens z r e)
event_holds z r (Same e) c h = either Holds (uses_no_list e) (same_done z r e) r (λ s. same_holds z r e c s h) (λ _. h)
event_holds z r (Give k true place) c h = give_up_holds z r k (slice_get r.ups place) (λ u e. h.ups place u e) h
event_holds z r (Give k false place) c h = give_down_holds z r k (slice_get r.downs place) c h

run_holds : (z : WorldSettings) (es : List RepeatEvent) (r : RepeatWorld) → z.client.ciphers ≡ [] → Holds r → Holds (repeat_run z es r)
unfolding repeat_run
run_holds z [] r c h = h
run_holds z (e ∷ es) r c h = run_holds z es (repeat_happens z r e) c (event_holds z r e c h)

pub start_holds : (z : WorldSettings) → Holds (repeat_start z)
start_holds z =
    record {
      world = (λ j. record { ends = record { chosen = refl; keys = refl; bare = refl }; frames = none_plain }, refl, refl);
      ups = λ i u h. absurd (none_in [] i u refl h);
    }

pub own_frames_plain : OwnFramesArePlain
own_frames_plain z es i u c at = (run_holds z es (repeat_start z) c (start_holds z)).ups i u at
