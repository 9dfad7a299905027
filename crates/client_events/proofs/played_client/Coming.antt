-- Which events may come, and how a client begins.
use Rattle.std.proofs.Common.{◌≡◌, ℕ, ◌<◌, ◌==◌, ◌&&◌, length, not, Bool, true, false, [], refl, sym, ◌∙◌}
use Rattle.std.proofs.Common.{Result, Ok, Err, OnErr}
use Rattle.spec_exchange.specs.Commands.{Begins}
use Rattle.spec_exchange.specs.Network.{Settings, start}
use Rattle.spec_exchange.specs.Client.{Client, is_taken}
use Rattle.spec_exchange.specs.ClientStep.{becomes_ready}
use Rattle.law_client.specs.table.Kept.{TableKept}
use Rattle.law_client.proofs.table.Events.{begins}
use Rattle.client_steps.specs.declared.whole_client.client.Client.{Client as Core}
use Rattle.client_steps.specs.whole_client.Shown.{FitsClient, ShowsClient}
use Rattle.client_steps.proofs.whole_client.Taken.{above, below}
use Rattle.client_events.proofs.event_calls.Going.{own_so}
use Rattle.client_events.specs.played_client.Holding.{PlayedHolds}

neither : (a b : Bool) → (a && b) ≡ false → a ≡ true → b ≡ false
neither true b e f = e
neither false b e f = absurd (cc)

pub is_not : (b : Bool) → not b ≡ true → b ≡ false
is_not true e = absurd (cc)
is_not false e = refl

pub is_so : (b : Bool) → not b ≡ false → b ≡ true
is_so true e = refl
is_so false e = absurd (cc)

both_so : (a b : Bool) → (a && b) ≡ true → (a ≡ true) × (b ≡ true)
both_so true b e = (refl, e)
both_so false b e = absurd (cc)

pub clash : (b : Bool) → b ≡ true → b ≡ false → ⊥
clash b e f = absurd (cc)

pub on_err : {T E P : Type 0} (r : Result T E) → P → OnErr r P
on_err (Ok x) p = tt
on_err (Err e) p = p

-- a channel that is ready in this session already doesn't become ready in it
pub again_refused : (c : Client) (k session : ℕ) → TableKept c → (c.ready k && (session == c.session)) ≡ true
    → (c.ready k ≡ true → becomes_ready c session ≡ false) → ⊥
again_refused c k session i e m =
    let w = both_so (c.ready k) (session == c.session) e in
    clash (becomes_ready c session) (sym (own_so c session (i.ready k w.0)) ∙ w.1) (m w.0)

pub not_again : (c : Client) (k session : ℕ) → TableKept c → (c.ready k && (session == c.session)) ≡ false → c.ready k ≡ true
    → becomes_ready c session ≡ false
not_again c k session i e r =
    sym (own_so c session (i.ready k r)) ∙ neither (c.ready k) (session == c.session) e r

-- settings, of which the client at the start keeps nothing that its code has
any_settings : Settings
any_settings = record {
  who = record { guid = 0; salt = 0; logon = Begins; share = []; cipher = 0; signing = 0 };
  share = [];
  room = 0;
  encrypts = false;
  address = record { ip = 0; port = 0 };
}

pub held_first : (x : Core) → FitsClient x → ((z : Settings) → ShowsClient x (start z).client) → PlayedHolds x
held_first x fits shown = record {
  fits = fits;
  model = (start any_settings).client;
  shown = shown any_settings;
  kept = begins any_settings;
}

-- an operation without a row wasn't taken
is_no : (b : Bool) → (b ≡ true → ⊥) → b ≡ false
is_no true h = absurd (h refl)
is_no false h = refl

pub not_taken : (x : Core) (c : Client) (g : ℕ) → ShowsClient x c → (0 < g → g < length x.table.rows.items → ⊥) → is_taken c g ≡ false
not_taken x c g s h =
    is_no (is_taken c g) (λ t. h (above c g t) (s.table.rows.places.has_row g (above c g t) (below c g t)))
