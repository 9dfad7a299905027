-- Each entry of a request comes of a frame that was put in its event, on the connection and in the opening that are its place.
use Rattle.std.proofs.Common.{◌≡◌, ℕ, zero, suc, ◌+◌, true, false, ◌&&◌, List, [], ◌∷◌, ◌++◌, refl, sym, ◌∙◌, ap}
use Rattle.std.proofs.Common.{subst, length, drop, Option, Some, None, slice_get, Result, Ok, Err, add-one}
use Rattle.std.specs.Prelude.{is_some}
use Rattle.law_server.proofs.tables.Logic.{either}
use Rattle.spec_exchange.specs.Network.{Event, Sent, is_possible}
use Rattle.spec_exchange.specs.State.{Server}
use Rattle.spec_world.specs.Settings.{WorldSettings}
use Rattle.spec_world.specs.Messages.{header_in}
use Rattle.spec_world.specs.Ends.{ServerEnd, ConnEnd}
use Rattle.spec_world.specs.Answering.{SaidReply}
use Rattle.spec_world.specs.Hearing.{Frame, check_frame, is_setup}
use Rattle.spec_world.specs.World.{World, step_at}
use Rattle.spec_world.specs.Events.{Plain, bytes_happen}
use Rattle.spec_hostile.specs.RepeatRuns.{RepeatWorld, RepeatEvent, Same, Give, UpFrame, DownFrame, is_served, is_heard, loaded_up}
use Rattle.spec_hostile.specs.RepeatRuns.{own_connection, puts_up, new_ups, uses_no_list, is_opening, with_opening, same_done, give_down}
use Rattle.spec_hostile.specs.RepeatRuns.{given_down, loaded_down, repeat_happens, repeat_start}
use Rattle.spec_hostile.specs.SignedFor.{Watched, SignedEntry, OnOpening, InSession, entry_up, entries_up, put_since}
use Rattle.spec_hostile.specs.SignedFor.{carries_signature, entry_by, entries_said, opening_of, own_secret, went_at, texts_said, signed_in}
use Rattle.spec_hostile.specs.SignedFor.{said_in, watching, client_secret, watched_up, watched_served, watched_happens, watched_run}
use Rattle.law_hostile.specs.puts.Puts.{Grows}
use Rattle.law_hostile.specs.placed.Placed.{WasPutFor, SignedForOpening}
use Rattle.law_hostile.proofs.puts.Growing.{none_in, event_grows, event_watched}
use Rattle.law_hostile.proofs.puts.Requests.{AllOf, none_of_all, all_with, all_joined, dropped, said_way}
use Rattle.law_hostile.proofs.taken_ids.Once.{same_opening, not_session}

abbrev IsPlaced : RepeatWorld → SignedEntry → Type 0
IsPlaced r e = (k n : ℕ) → e.to_server ≡ true → e.place ≡ OnOpening k n → WasPutFor r k n e.message

-- ---- what an event puts is of one connection and one opening

abbrev AllFor : ℕ → ℕ → List UpFrame → Type 0
AllFor k n us = (i : ℕ) (u : UpFrame) → slice_get us i ≡ Some u → (u.connection ≡ k) × (u.opening ≡ n)

none_for : (k n : ℕ) → AllFor k n []
none_for k n i u h = absurd (none_in [] i u refl h)

more_for : (k n : ℕ) (v : UpFrame) (us : List UpFrame) → (v.connection ≡ k) × (v.opening ≡ n) → AllFor k n us → AllFor k n (v ∷ us)
more_for k n v us one all zero u h =
    let q : Some v ≡ Some u = h in
    let r : v ≡ u = cc in
    subst (λ (x : UpFrame). (x.connection ≡ k) × (x.opening ≡ n)) r one
more_for k n v us one all (suc i) u h = all i u h

puts_for : (k n : ℕ) (bs : List (List ℕ)) (xs : List Sent) → AllFor k n (puts_up k n bs xs)
unfolding puts_up
puts_for k n [] xs = none_for k n
puts_for k n (b ∷ bs) [] = none_for k n
puts_for k n (b ∷ bs) (x ∷ xs) = more_for k n _ (puts_up k n bs xs) (refl, refl) (puts_for k n bs xs)

drop_joined : {X : Type 0} (xs ys : List X) → drop (length xs) (xs ++ ys) ≡ ys
drop_joined [] ys = refl
drop_joined (x ∷ xs) ys = drop_joined xs ys

drop_all : {X : Type 0} (xs : List X) → drop (length xs) xs ≡ []
drop_all [] = refl
drop_all (x ∷ xs) = drop_all xs

since_joined : (k n : ℕ) (old behind : List UpFrame) (w : World) → behind ≡ old ++ new_ups w k n
    → AllFor k n (drop (length old) behind)
since_joined k n old behind w e =
    subst (λ us. AllFor k n us)
    (sym (ap (λ us. drop (length old) us) e ∙ drop_joined old (new_ups w k n)))
    (puts_for k n (w.wires k).up (w.values.conns k).up)

since_none : (k n : ℕ) (old : List UpFrame) → AllFor k n (drop (length old) old)
since_none k n old = subst (λ us. AllFor k n us) (sym (drop_all old)) (none_for k n)

pub opening_ups : (r : RepeatWorld) (e : Event) → (with_opening r e).ups ≡ r.ups
opening_ups r e =
    either (λ (v : RepeatWorld). v.ups ≡ r.ups) (is_opening e && is_possible r.world.values e) _ r (λ _. refl) (λ _. refl)

same_since : (z : WorldSettings) (r : RepeatWorld) (e : Event)
    → AllFor (own_connection e) ((repeat_happens z r (Same e)).openings (own_connection e)) (put_since r (repeat_happens z r (Same e)))
same_since z r e =
    let k = own_connection e in
    let w = bytes_happen z r.world (Plain e) in
    let n = (with_opening r e).openings k in
    either (λ (v : RepeatWorld). AllFor k (v.openings k) (put_since r v)) (uses_no_list e) (same_done z r e) r
    (λ _. since_joined k n r.ups (same_done z r e).ups w (ap (λ us. us ++ new_ups w k n) (opening_ups r e)))
    (λ _. since_none k (r.openings k) r.ups)

down_since : (z : WorldSettings) (r : RepeatWorld) (k : ℕ) (o : Option DownFrame)
    → AllFor k ((give_down z r k o).openings k) (put_since r (give_down z r k o))
down_since z r k None = since_none k (r.openings k) r.ups
down_since z r k (Some d) =
    let w = bytes_happen z (loaded_down r k d) (Plain (Rattle.spec_exchange.specs.Network.Take k)) in
    either (λ (v : RepeatWorld). AllFor k (v.openings k) (put_since r v)) (is_heard r.world k) (given_down z r k d) r
    (λ _. since_joined k (r.openings k) r.ups (given_down z r k d).ups w refl)
    (λ _. since_none k (r.openings k) r.ups)

-- ---- the client's entries

abbrev AllPlaced : RepeatWorld → ℕ → List UpFrame → Type 0
AllPlaced r k us = (i : ℕ) (u : UpFrame) → slice_get us i ≡ Some u → WasPutFor r k (r.openings k) u.frame

since_placed : (old r : RepeatWorld) (k : ℕ) → AllFor k (r.openings k) (put_since old r) → AllPlaced r k (put_since old r)
since_placed old r k all i u h =
    let m = dropped (length old.ups) r.ups i u h in
    let at = all i u h in
    (m.0, u, m.1, refl, at.0, at.1)

entry_placed : (t : Watched) (k : ℕ) (r : RepeatWorld) (m : List ℕ) → WasPutFor r k (r.openings k) m → IsPlaced r (entry_up t k r m)
entry_placed t k r m p =
    either (λ (e : SignedEntry). IsPlaced r e) (is_setup (header_in m)) (record {
      to_server = true;
      secret = t.of_client;
      place = InSession (header_in m).session;
      message = m;
    }) (record { to_server = true; secret = own_secret (r.world.wires k).client_end; place = opening_of r k; message = m })
    (λ _. λ j n way at. absurd (not_session (header_in m).session j n at))
    (λ _. λ j n way at. let s = same_opening k (r.openings k) j n at in
    subst (λ i. WasPutFor r i n m) s.0 (subst (λ i. WasPutFor r k i m) s.1 p))

rest_placed : (r : RepeatWorld) (k : ℕ) (u : UpFrame) (us : List UpFrame) → AllPlaced r k (u ∷ us) → AllPlaced r k us
rest_placed r k u us all i v h = all (i + 1) v (rw (add-one) h)

entries_placed : (t : Watched) (k : ℕ) (r : RepeatWorld) (us : List UpFrame) → AllPlaced r k us → AllOf (IsPlaced r) (entries_up t k r us)
unfolding entries_up
entries_placed t k r [] all = none_of_all (IsPlaced r)
entries_placed t k r (u ∷ us) all =
    let rest = entries_placed t k r us (rest_placed r k u us all) in
    either (λ es. AllOf (IsPlaced r) es) (carries_signature u.frame) (entry_up t k r u.frame ∷ entries_up t k r us) (entries_up t k r us)
    (λ _. all_with (IsPlaced r) (entry_up t k r u.frame) (entries_up t k r us) (entry_placed t k r u.frame (all 0 u refl)) rest)
    (λ _. rest)

-- what was put stays put
stays_placed : (old r : RepeatWorld) (es : List SignedEntry) → Grows old r → AllOf (IsPlaced old) es → AllOf (IsPlaced r) es
stays_placed old r es g all i e h k n way at = let w = all i e h k n way at in (w.0, w.1, g.ups w.0 w.1 w.2, w.3, w.4, w.5)

-- ---- the server's entries are no requests

not_asked : (r : RepeatWorld) (e : SignedEntry) → e.to_server ≡ false → IsPlaced r e
not_asked r e off k n on at = absurd (cc)

said_placed : (v : RepeatWorld) (t : Watched) (k : ℕ) (s : Server) (f : ServerEnd) (rs : List SaidReply) (ms : List (List ℕ))
    → AllOf (IsPlaced v) (entries_said t k s f rs ms)
unfolding entries_said
said_placed v t k s f [] ms = none_of_all (IsPlaced v)
said_placed v t k s f (r ∷ rs) [] = none_of_all (IsPlaced v)
said_placed v t k s f (r ∷ rs) (m ∷ ms) =
    let rest = said_placed v t k s f rs ms in
    let e = entry_by t k s f r m r.progress in
    either (λ es. AllOf (IsPlaced v) es) (is_some r.signer) (e ∷ entries_said t k s f rs ms) (entries_said t k s f rs ms)
    (λ _. all_with (IsPlaced v) e (entries_said t k s f rs ms) (not_asked v e (said_way t k s f r m r.progress)) rest) (λ _. rest)

signed_placed : (z : WorldSettings) (v : RepeatWorld) (t : Watched) (k : ℕ) (w : World) (x : Frame) → AllOf (IsPlaced v) (signed_in z t k w x)
signed_placed z v t k w x =
    let g = went_at z w k x in
    either (λ es. AllOf (IsPlaced v) es) x.sealed [] (entries_said t k g.server x.server_end g.replies (texts_said g.replies))
    (λ _. none_of_all (IsPlaced v)) (λ _. said_placed v t k g.server x.server_end g.replies (texts_said g.replies))

said_in_placed : (z : WorldSettings) (v : RepeatWorld) (t : Watched) (k : ℕ) (w : World) (o : Option ConnEnd) (x : Result Frame ConnEnd)
    → AllOf (IsPlaced v) t.signed → AllOf (IsPlaced v) (said_in z t k w o x).signed
said_in_placed z v t k w (Some why) x all = all
said_in_placed z v t k w None (Err why) all = all
said_in_placed z v t k w None (Ok x) all = all_joined (IsPlaced v) t.signed (signed_in z t k w x) all (signed_placed z v t k w x)

served_placed : (z : WorldSettings) (v : RepeatWorld) (t : Watched) (k : ℕ) (o : Option UpFrame) (e : RepeatEvent)
    → AllOf (IsPlaced v) t.signed → AllOf (IsPlaced v) (watched_served z t k o e).signed
served_placed z v t k None e all = all
served_placed z v t k (Some u) e all =
    either (λ (y : Watched). AllOf (IsPlaced v) y.signed) (is_served t.repeating.world k) (watched_up z t k u e) t
    (λ _. let w = loaded_up t.repeating k u in
    said_in_placed z v t k w (step_at z w k u.frame).ends (check_frame (w.wires k).server_end u.frame) all) (λ _. all)

-- ---- one event, and a run

abbrev Holds : Watched → Type 0
Holds t = AllOf (IsPlaced t.repeating) t.signed

placed_in_event : (z : WorldSettings) (t : Watched) (e : RepeatEvent) → Holds t
    → AllOf (IsPlaced (repeat_happens z t.repeating e)) (watched_happens z t e).signed
placed_in_event z t (Same e) all =
    let r = repeat_happens z t.repeating (Same e) in
    let k = own_connection e in
    all_joined (IsPlaced r) t.signed (entries_up t k r (put_since t.repeating r))
    (stays_placed t.repeating r t.signed (event_grows z t.repeating (Same e)) all)
    (entries_placed t k r (put_since t.repeating r) (since_placed t.repeating r k (same_since z t.repeating e)))
placed_in_event z t (Give k true place) all =
    let r = repeat_happens z t.repeating (Give k true place) in
    served_placed z r t k (slice_get t.repeating.ups place) (Give k true place)
    (stays_placed t.repeating r t.signed (event_grows z t.repeating (Give k true place)) all)
placed_in_event z t (Give k false place) all =
    let r = repeat_happens z t.repeating (Give k false place) in
    let v : Watched = record t { repeating = r; of_client = client_secret t r } in
    all_joined (IsPlaced r) t.signed (entries_up v k r (put_since t.repeating r))
    (stays_placed t.repeating r t.signed (event_grows z t.repeating (Give k false place)) all)
    (entries_placed v k r (put_since t.repeating r)
    (since_placed t.repeating r k (down_since z t.repeating k (slice_get t.repeating.downs place))))

event_holds : (z : WorldSettings) (t : Watched) (e : RepeatEvent) → Holds t → Holds (watched_happens z t e)
event_holds z t e all =
    subst (λ r. AllOf (IsPlaced r) (watched_happens z t e).signed) (sym (event_watched z t e)) (placed_in_event z t e all)

run_holds : (z : WorldSettings) (es : List RepeatEvent) (t : Watched) → Holds t → Holds (watched_run z es t)
unfolding watched_run
run_holds z [] t all = all
run_holds z (e ∷ es) t all = run_holds z es (watched_happens z t e) (event_holds z t e all)

pub signed_for_opening : SignedForOpening
signed_for_opening z es i k n e h way at =
    let t = watching (repeat_start z) in run_holds z es t (none_of_all (IsPlaced t.repeating)) i e h k n way at
