-- Runs without tampering: the session in the making is one that the client never accepted, and so no nonce is given twice.
use Rattle.std.proofs.Common.{◌≡◌, ℕ, zero, suc, Bool, true, false, List, [], ◌∷◌, ◌++◌, append_assoc, take, refl, sym, subst, Some}
use Rattle.std.proofs.Common.{slice_get}
use Rattle.std.proofs.lemmas.List.{append-nil}
use Rattle.spec_exchange.specs.Client.{SaidSecond}
use Rattle.spec_exchange.specs.Network.{Settings, Event, World as Values, run, start}
use Rattle.law_sessions.specs.sessions.Sessions.{Sessions}
use Rattle.spec_world.specs.Settings.{WorldSettings, values_of}
use Rattle.spec_world.specs.Answering.{Seal}
use Rattle.spec_world.specs.World.{World}
use Rattle.spec_world.specs.Events.{Plain, bytes_happen, bytes_run, bytes_start}
use Rattle.spec_world.specs.Statements.{IsOneNonce, NoncesToClientOnce, NoncesToClient, NoncesOnce}
use Rattle.spec_world.specs.Statements.{plainly, plain_run, value_events, IsInStep}
use Rattle.law_nonces.specs.client_nonces.Sent.{NoncesToServerOnce, NoncesToServer, AreNew, HasSealingRoom, PlainNonces}

abbrev pub SessionsFit : Type 0
SessionsFit = (settings : Settings) (events : List Event) → Sessions (run events (start settings)).client
    (run events (start settings)).conns (run events (start settings)).server

-- ---- one more event

run_more : (z : WorldSettings) (es : List Event) (e : Event) (w : World)
    → bytes_run z (plainly (es ++ e ∷ [])) w ≡ bytes_happen z (bytes_run z (plainly es) w) (Plain e)
unfolding bytes_run plainly
run_more z [] e w = refl
run_more z (x ∷ es) e w = run_more z es e (bytes_happen z w (Plain x))

-- ---- the session in the making

abbrev IsUnranked : Values → Type 0
IsUnranked v = (k : ℕ) → v.client.stage k ≡ SaidSecond false → v.client.rank v.client.pending ≡ 0

unranked : SessionsFit → (z : WorldSettings) (es : List Event) → IsInStep z es → IsUnranked (plain_run z es).values
unranked fit z es step =
    let s = fit (values_of z) (value_events z (bytes_start z) es) in subst (λ (v : Values). IsUnranked v) (sym step) s.pending_unranked

news : SessionsFit → (z : WorldSettings) (before es : List Event) → ((n : ℕ) → IsInStep z (before ++ take n es))
    → HasSealingRoom z es (plain_run z before) → AreNew z (plainly es) (plain_run z before)
unfolding plainly
news fit z before [] steps room = tt
news fit z before (e ∷ es) steps (now, later) =
    let here : IsInStep z before = subst (λ (xs : List Event). IsInStep z xs) (append-nil before) (steps zero) in
    let ran : plain_run z (before ++ e ∷ []) ≡ bytes_happen z (plain_run z before) (Plain e) = run_more z before e (bytes_start z) in
    let further = news fit z (before ++ e ∷ []) es
    (λ n. subst (λ (xs : List Event). IsInStep z xs) (sym (append_assoc before (e ∷ []) (take n es))) (steps (suc n)))
    (subst (λ (x : World). HasSealingRoom z es x) (sym ran) later) in
    (record { id = unranked fit z before here; room = now }, subst (λ (x : World). AreNew z (plainly es) x) ran further)

from_start : SessionsFit → (z : WorldSettings) (es : List Event) → ((n : ℕ) → IsInStep z (take n es)) → HasSealingRoom z es (bytes_start z)
    → AreNew z (plainly es) (bytes_start z)
unfolding bytes_run plainly
from_start fit z es steps room = news fit z [] es steps room

-- ---- both directions

both : (w : World) → NoncesToClientOnce w → NoncesToServerOnce w → NoncesOnce w
both w client server = λ i j a b h g one. by_way i j a b h g one a.to_server refl
  where
    by_way : (i j : ℕ) (a b : Seal) → slice_get w.sealings i ≡ Some a → slice_get w.sealings j ≡ Some b → IsOneNonce a b
        → (up : Bool) → a.to_server ≡ up → i ≡ j
    by_way i j a b h g one true up = server i j a b h g up one
    by_way i j a b h g one false up = client i j a b h g up one

pub untampered : SessionsFit → NoncesToClient → NoncesToServer → PlainNonces
untampered fit client server = λ z es steps room.
    both (plain_run z es) (client z (plainly es)) (server z (plainly es) (from_start fit z es steps room))
