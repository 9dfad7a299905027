-- Each entry of a request comes of a frame that was put in its event.
use Rattle.std.proofs.Common.{◌≡◌, ℕ, zero, suc, ◌+◌, true, false, List, [], ◌∷◌, ◌++◌, refl, sym}
use Rattle.std.proofs.Common.{subst, length, drop, Option, Some, None, slice_get, Result, Ok, Err, add-one}
use Rattle.std.specs.Prelude.{is_some}
use Rattle.law_server.proofs.tables.Logic.{either}
use Rattle.spec_exchange.specs.State.{Server}
use Rattle.spec_world.specs.Settings.{WorldSettings}
use Rattle.spec_world.specs.Messages.{header_in}
use Rattle.spec_world.specs.Ends.{ServerEnd, ConnEnd}
use Rattle.spec_world.specs.Answering.{SaidReply}
use Rattle.spec_world.specs.Hearing.{Frame, check_frame, is_setup}
use Rattle.spec_world.specs.Logon.{Progress, Stays, Interim, Final}
use Rattle.spec_world.specs.World.{World, step_at}
use Rattle.spec_hostile.specs.RepeatRuns.{RepeatWorld, RepeatEvent, Same, Give, UpFrame, is_served, loaded_up, own_connection}
use Rattle.spec_hostile.specs.RepeatRuns.{repeat_happens, repeat_start}
use Rattle.spec_hostile.specs.SignedFor.{Watched, SignedEntry, entry_up, entries_up, put_since, carries_signature, entry_by, entries_said}
use Rattle.spec_hostile.specs.SignedFor.{binds_to, went_at, texts_said, signed_in, said_in, watching, client_secret}
use Rattle.spec_hostile.specs.SignedFor.{watched_up, watched_served, watched_happens, watched_run}
use Rattle.law_hostile.specs.puts.Puts.{Grows, WasPutUp, SignedWasPut}
use Rattle.law_hostile.proofs.puts.Growing.{none_in, event_grows, event_watched, watches_run}

-- ---- lists

abbrev pub AllOf : (SignedEntry → Type 0) → List SignedEntry → Type 0
AllOf P es = (n : ℕ) (e : SignedEntry) → slice_get es n ≡ Some e → P e

pub none_of_all : (P : SignedEntry → Type 0) → AllOf P []
none_of_all P n e h = absurd (none_in [] n e refl h)

pub all_with : (P : SignedEntry → Type 0) (x : SignedEntry) (es : List SignedEntry) → P x → AllOf P es → AllOf P (x ∷ es)
all_with P x es p all zero e h = subst P (let q : Some x ≡ Some e = h in cc) p
all_with P x es p all (suc n) e h = all n e h

all_rest : (P : SignedEntry → Type 0) (x : SignedEntry) (es : List SignedEntry) → AllOf P (x ∷ es) → AllOf P es
all_rest P x es all n e h = all (n + 1) e (rw (add-one) h)

first_of : (P : SignedEntry → Type 0) (x : SignedEntry) (es : List SignedEntry) → AllOf P (x ∷ es) → P x
first_of P x es all = all 0 x refl

pub all_joined : (P : SignedEntry → Type 0) (xs ys : List SignedEntry) → AllOf P xs → AllOf P ys → AllOf P (xs ++ ys)
all_joined P [] ys a b = b
all_joined P (x ∷ xs) ys a b =
    all_with P x (xs ++ ys) (first_of P x xs a) (all_joined P xs ys (all_rest P x xs a) b)

pub dropped : {X : Type 0} (n : ℕ) (xs : List X) (i : ℕ) (x : X) → slice_get (drop n xs) i ≡ Some x → (m : ℕ) × (slice_get xs m ≡ Some x)
dropped zero xs i x h = (i, h)
dropped (suc n) [] i x h = (i, h)
dropped (suc n) (v ∷ xs) i x h = let m = dropped n xs i x h in (m.0 + 1, rw (add-one) m.1)

-- ---- the client's entries

abbrev IsPut : RepeatWorld → SignedEntry → Type 0
IsPut r e = e.to_server ≡ true → WasPutUp r e.message

entry_message : (t : Watched) (k : ℕ) (r : RepeatWorld) (m : List ℕ) → (entry_up t k r m).message ≡ m
entry_message t k r m = either (λ (e : SignedEntry). e.message ≡ m) (is_setup (header_in m)) _ _ (λ _. refl) (λ _. refl)

-- each frame of these was put
abbrev AllPut : RepeatWorld → List UpFrame → Type 0
AllPut r us = (n : ℕ) (u : UpFrame) → slice_get us n ≡ Some u → WasPutUp r u.frame

rest_put : (r : RepeatWorld) (u : UpFrame) (us : List UpFrame) → AllPut r (u ∷ us) → AllPut r us
rest_put r u us all n v h = all (n + 1) v (rw (add-one) h)

entry_put : (t : Watched) (k : ℕ) (r : RepeatWorld) (u : UpFrame) (us : List UpFrame) → AllPut r (u ∷ us) → IsPut r (entry_up t k r u.frame)
entry_put t k r u us all way =
    subst (λ m. WasPutUp r m) (sym (entry_message t k r u.frame)) (all 0 u refl)

entries_put : (t : Watched) (k : ℕ) (r : RepeatWorld) (us : List UpFrame) → AllPut r us → AllOf (IsPut r) (entries_up t k r us)
unfolding entries_up
entries_put t k r [] all = none_of_all (IsPut r)
entries_put t k r (u ∷ us) all =
    let rest = entries_put t k r us (rest_put r u us all) in
    either (λ es. AllOf (IsPut r) es) (carries_signature u.frame) (entry_up t k r u.frame ∷ entries_up t k r us) (entries_up t k r us)
    (λ _. all_with (IsPut r) (entry_up t k r u.frame) (entries_up t k r us) (entry_put t k r u us all) rest) (λ _. rest)

since_put : (old r : RepeatWorld) → AllPut r (put_since old r)
since_put old r n u h = let m = dropped (length old.ups) r.ups n u h in (m.0, u, m.1, refl)

-- what was put stays put
stays_put : (old r : RepeatWorld) (es : List SignedEntry) → Grows old r → AllOf (IsPut old) es → AllOf (IsPut r) es
stays_put old r es g all n e h way = let w = all n e h way in (w.0, w.1, g.ups w.0 w.1 w.2, w.3)

-- ---- the server's entries are no requests

pub said_way : (t : Watched) (k : ℕ) (s : Server) (f : ServerEnd) (r : SaidReply) (m : List ℕ) (p : Progress)
    → (entry_by t k s f r m p).to_server ≡ false
said_way t k s f r m (Final binding channel encrypts) = refl
said_way t k s f r m (Interim binding) = refl
said_way t k s f r m Stays = either (λ (e : SignedEntry). e.to_server ≡ false) (binds_to s r.request) _ _ (λ _. refl) (λ _. refl)

not_asked : (r : RepeatWorld) (e : SignedEntry) → e.to_server ≡ false → IsPut r e
not_asked r e off on = absurd (cc)

said_put : (v : RepeatWorld) (t : Watched) (k : ℕ) (s : Server) (f : ServerEnd) (rs : List SaidReply) (ms : List (List ℕ))
    → AllOf (IsPut v) (entries_said t k s f rs ms)
unfolding entries_said
said_put v t k s f [] ms = none_of_all (IsPut v)
said_put v t k s f (r ∷ rs) [] = none_of_all (IsPut v)
said_put v t k s f (r ∷ rs) (m ∷ ms) =
    let rest = said_put v t k s f rs ms in
    let e = entry_by t k s f r m r.progress in
    either (λ es. AllOf (IsPut v) es) (is_some r.signer) (e ∷ entries_said t k s f rs ms) (entries_said t k s f rs ms)
    (λ _. all_with (IsPut v) e (entries_said t k s f rs ms) (not_asked v e (said_way t k s f r m r.progress)) rest) (λ _. rest)

signed_put : (z : WorldSettings) (v : RepeatWorld) (t : Watched) (k : ℕ) (w : World) (x : Frame) → AllOf (IsPut v) (signed_in z t k w x)
signed_put z v t k w x =
    let g = went_at z w k x in
    either (λ es. AllOf (IsPut v) es) x.sealed [] (entries_said t k g.server x.server_end g.replies (texts_said g.replies))
    (λ _. none_of_all (IsPut v)) (λ _. said_put v t k g.server x.server_end g.replies (texts_said g.replies))

said_in_put : (z : WorldSettings) (v : RepeatWorld) (t : Watched) (k : ℕ) (w : World) (o : Option ConnEnd) (x : Result Frame ConnEnd)
    → AllOf (IsPut v) t.signed → AllOf (IsPut v) (said_in z t k w o x).signed
said_in_put z v t k w (Some why) x all = all
said_in_put z v t k w None (Err why) all = all
said_in_put z v t k w None (Ok x) all = all_joined (IsPut v) t.signed (signed_in z t k w x) all (signed_put z v t k w x)

served_put : (z : WorldSettings) (v : RepeatWorld) (t : Watched) (k : ℕ) (o : Option UpFrame) (e : RepeatEvent)
    → AllOf (IsPut v) t.signed → AllOf (IsPut v) (watched_served z t k o e).signed
served_put z v t k None e all = all
served_put z v t k (Some u) e all =
    either (λ (y : Watched). AllOf (IsPut v) y.signed) (is_served t.repeating.world k) (watched_up z t k u e) t
    (λ _. let w = loaded_up t.repeating k u in
    said_in_put z v t k w (step_at z w k u.frame).ends (check_frame (w.wires k).server_end u.frame) all) (λ _. all)

-- ---- one event, and a run

abbrev Holds : Watched → Type 0
Holds t = AllOf (IsPut t.repeating) t.signed

put_in_event : (z : WorldSettings) (t : Watched) (e : RepeatEvent) → Holds t
    → AllOf (IsPut (repeat_happens z t.repeating e)) (watched_happens z t e).signed
put_in_event z t (Same e) all =
    let r = repeat_happens z t.repeating (Same e) in
    let k = own_connection e in
    all_joined (IsPut r) t.signed (entries_up t k r (put_since t.repeating r))
    (stays_put t.repeating r t.signed (event_grows z t.repeating (Same e)) all)
    (entries_put t k r (put_since t.repeating r) (since_put t.repeating r))
put_in_event z t (Give k true place) all =
    let r = repeat_happens z t.repeating (Give k true place) in
    served_put z r t k (slice_get t.repeating.ups place) (Give k true place)
    (stays_put t.repeating r t.signed (event_grows z t.repeating (Give k true place)) all)
put_in_event z t (Give k false place) all =
    let r = repeat_happens z t.repeating (Give k false place) in
    let v : Watched = record t { repeating = r; of_client = client_secret t r } in
    all_joined (IsPut r) t.signed (entries_up v k r (put_since t.repeating r))
    (stays_put t.repeating r t.signed (event_grows z t.repeating (Give k false place)) all)
    (entries_put v k r (put_since t.repeating r) (since_put t.repeating r))

event_holds : (z : WorldSettings) (t : Watched) (e : RepeatEvent) → Holds t → Holds (watched_happens z t e)
event_holds z t e all =
    subst (λ r. AllOf (IsPut r) (watched_happens z t e).signed) (sym (event_watched z t e)) (put_in_event z t e all)

run_holds : (z : WorldSettings) (es : List RepeatEvent) (t : Watched) → Holds t → Holds (watched_run z es t)
unfolding watched_run
run_holds z [] t all = all
run_holds z (e ∷ es) t all = run_holds z es (watched_happens z t e) (event_holds z t e all)

pub signed_was_put : SignedWasPut
signed_was_put z es i e h way =
    let t = watching (repeat_start z) in
    subst (λ r. WasPutUp r e.message) (watches_run z es t)
    (run_holds z es t (none_of_all (IsPut t.repeating)) i e h way)
