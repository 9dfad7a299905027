-- Why a connection can't be opened, in code and in the definitions.
use Rattle.std.proofs.Common.{◌≡◌, ℕ, zero, suc, ◌<◌, ◌||◌, ◌&&◌, nat_lt, Bool, true, false, not, if◌then◌else◌}
use Rattle.std.proofs.Common.{List, [], ◌∷◌, length, slice_get}
use Rattle.std.proofs.Common.{Option, Some, None, is_some, Result, Err, refl, sym, ap, subst, ◌∙◌, arith}
use Rattle.std.proofs.lemmas.Bool.Decides.{nat_tests}
use Rattle.std.proofs.lemmas.Option.{slice_get_within}
use Rattle.spec_exchange.specs.Network.{Open, is_possible, max_channel}
use Rattle.spec_world.specs.Events.{Plain}
use Rattle.spec_world.specs.Notes as notes
use Rattle.spec_world.specs.Notes.{making_error, step_error}
use Rattle.spec_world.specs.Settings.{WorldSettings}
use Rattle.spec_world.specs.World as bytes
use Rattle.world_ends.specs.Channels.{seen_of}
use Rattle.world_ends.specs.Shown.{ShowsWorld}
use Rattle.world_ends.specs.Tests.{is_open, is_ready, opened_in, served_in}
use Rattle.world_ends.specs.declared.events.WorldError.{WorldError}
use Rattle.world_ends.specs.declared.events.WorldError.TheVariants as errors
use Rattle.world_ends.specs.declared.sides.Channel.{Channel}
use Rattle.world_ends.specs.declared.sides.ClientSide.{ClientSide}
use Rattle.world_ends.specs.declared.sides.ClientSide.TheVariants.{Closed, Talks, Ready}
use Rattle.world_ends.specs.declared.world.World.{World}
use Rattle.world_steps.specs.opening.Opening.{IsOpeningDue, opening_refusal}
use Rattle.world_steps.specs.Steps.{WorldRefuses}
use Rattle.world_steps.proofs.Closing.{is_opened, is_served}

-- ---- the tests of the code

pub or_first : (a b r : Bool) → r ≡ a → r ≡ true → true ≡ (a || b)
or_first a b r e t = ap (λ (x : Bool). x || b) (sym t ∙ e)

pub or_second : (a b r s : Bool) → r ≡ a → r ≡ false → s ≡ b → s ≡ (a || b)
or_second a b r s e f d = d ∙ ap (λ (x : Bool). x || b) (sym f ∙ e)

pub used_is : (r a : Bool) (p q : Option notes.WorldError) → r ≡ a → r ≡ true → (if a then p else q) ≡ p
used_is r a p q e t = ap (λ (x : Bool). if x then p else q) (sym e ∙ t)

pub unused_is : (r a : Bool) (p q : Option notes.WorldError) → r ≡ a → r ≡ false → (if a then p else q) ≡ q
unused_is r a p q e f = ap (λ (x : Bool). if x then p else q) (sym e ∙ f)

pub due_alike : (p q : Option notes.WorldError) (r : Result Unit WorldError) → p ≡ q → IsOpeningDue q r → IsOpeningDue p r
due_alike p q r e d = subst (λ (x : Option notes.WorldError). IsOpeningDue x r) (sym e) d

-- ---- the definitions', by what they look at

abbrev error_with : ℕ → Bool → Bool → Option ℕ → Option notes.WorldError
error_with k within used making =
    if not within then Some (notes.NoChannel k) else if used then Some (notes.InUse k) else making_error making

abbrev may_with : Bool → Bool → Bool → Option ℕ → Bool
may_with within client server making = within && (not client && (not server && not (is_some making)))

is_within : (k n m : ℕ) → n ≡ m → k < n → nat_lt k m ≡ true
is_within k n m e l = grind (arith, nat_tests)

is_past : (k n m : ℕ) → n ≡ m → (k < n → ⊥) → nat_lt k m ≡ false
is_past k n m e l = grind (arith, nat_tests)

found_below : (xs : List Channel) (k : ℕ) → k < length xs → (x : Channel) × (slice_get xs k ≡ Some x)
found_below [] k l = absurd (none k l)
  where
    none : (k : ℕ) → k < 0 → ⊥
    none k l = omega (arith, l)
found_below (x ∷ xs) zero l = (x, refl)
found_below (x ∷ xs) (suc k) l = found_below xs k (let m : k < length xs = omega (arith, l) in m)

some_none : {X : Type 0} (x : X) → None ≡ Some x → ⊥
some_none x e = absurd (cc)

past_of : (xs : List Channel) (k : ℕ) → slice_get xs k ≡ None → k < length xs → ⊥
past_of xs k e l = let f = found_below xs k l in some_none f.0 (sym e ∙ f.1)

-- ---- what is free to be opened

pub record IsFree (x : Channel) (making : Option ℕ) : Type 0 where
  pub client : is_open x.client ≡ false
  pub server : is_some x.server ≡ false
  pub making_is : making ≡ None

neither : (a b : Bool) (k : ℕ) (m : Option ℕ) → (if a || b then Some (notes.InUse k) else making_error m) ≡ None
    → (a ≡ false) × (b ≡ false) × (m ≡ None)
neither true b k m e = absurd (cc)
neither false true k m e = absurd (cc)
neither false false k (Some j) e = absurd (cc)
neither false false k None e = (refl, refl, refl)

free_in : (o : Option Channel) (making : Option ℕ) (k : ℕ) → opening_refusal o making k ≡ None → (x : Channel)
    × (o ≡ Some x) × IsFree x making
free_in None making k e = absurd (cc)
free_in (Some x) making k e =
    let n = neither (is_open x.client) (is_some x.server) k making e in
    (x, refl, record { client = n.0; server = n.1; making_is = n.2 })

pub free_of : (xs : List Channel) (making : Option ℕ) (k : ℕ) → opening_refusal (slice_get xs k) making k ≡ None
    → (x : Channel) × (slice_get xs k ≡ Some x) × IsFree x making
free_of xs making k e = free_in (slice_get xs k) making k e

pub closed_unready : (s : ClientSide) → is_open s ≡ false → is_ready s ≡ false
closed_unready Closed e = refl
closed_unready (Talks d) e = absurd (cc)
closed_unready (Ready l) e = absurd (cc)

-- ---- of a world

module _ (z : WorldSettings) (x : World) (w : bytes.World) (k : ℕ) (h : ShowsWorld z x w) where
  client_there : (w.values.conns k).client_open ≡ opened_in (slice_get x.channels.items k)
  client_there =
      is_opened x.settings x.guid x.keys w.values.client.taken (seen_of w.values.client) w.values.conns w.wires
      x.channels.items h.channels k

  server_there : (w.values.conns k).server_open ≡ served_in (slice_get x.channels.items k)
  server_there =
      is_served x.settings x.guid x.keys w.values.client.taken (seen_of w.values.client) w.values.conns w.wires
      x.channels.items h.channels k

  due_by : (o : Option Channel) → slice_get x.channels.items k ≡ o → step_error w (Plain (Open k)) ≡ opening_refusal o x.making k
  due_by None e =
      let past = is_past k (length x.channels.items) max_channel h.channels.counted (past_of x.channels.items k e) in
      ap (λ (b : Bool). error_with k b ((w.values.conns k).client_open || (w.values.conns k).server_open) w.values.client.making) past
  due_by (Some c) e =
      let within = is_within k (length x.channels.items) max_channel h.channels.counted (slice_get_within x.channels.items k c e) in
      let client = client_there ∙ ap opened_in e in
      let server = server_there ∙ ap served_in e in
      (λ t. error_with k (within t) (client t || server t) (h.own.making_is t))

  pub due_is : step_error w (Plain (Open k)) ≡ opening_refusal (slice_get x.channels.items k) x.making k
  due_is = due_by (slice_get x.channels.items k) refl

  pub refused : (e : WorldError) → IsOpeningDue (opening_refusal (slice_get x.channels.items k) x.making k) (Err e)
      → WorldRefuses z x w (step_error w (Plain (Open k))) e
  refused errors.Memory d = absurd d
  refused (errors.NoChannel j) d = (due_is ∙ d, h)
  refused (errors.NothingThere j) d = (due_is ∙ d, h)
  refused (errors.InUse j) d = (due_is ∙ d, h)

  possible_by : (c : Channel) → slice_get x.channels.items k ≡ Some c → IsFree c x.making → is_possible w.values (Open k) ≡ true
  possible_by c e f =
      let within = is_within k (length x.channels.items) max_channel h.channels.counted (slice_get_within x.channels.items k c e) in
      let client = client_there ∙ (ap opened_in e ∙ f.client) in
      let server = server_there ∙ (ap served_in e ∙ f.server) in
      let making = h.own.making_is ∙ f.making_is in
      (λ t. may_with (within t) (client t) (server t) (making t))

  pub possible : opening_refusal (slice_get x.channels.items k) x.making k ≡ None → is_possible w.values (Open k) ≡ true
  possible e = let f = free_of x.channels.items x.making k e in possible_by f.0 f.1 f.2
