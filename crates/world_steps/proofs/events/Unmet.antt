-- An event that is refused isn't met.
use Rattle.std.proofs.Common.{◌≡◌, ℕ, ◌&&◌, ◌||◌, nat_lt, not, Bool, true, false, if◌then◌else◌, refl, sym, ap, subst, ◌∙◌}
use Rattle.std.proofs.Common.{List, [], ◌∷◌, slice_get, Option, Some, None, is_some, MatchResult}
use Rattle.spec_exchange.specs.Network as network
use Rattle.spec_exchange.specs.Network.{Event, Received, Sent, is_possible, max_channel, moments}
use Rattle.spec_exchange.specs.Table.{is_filled}
use Rattle.spec_world.specs.Courses.{Course, push_lowest}
use Rattle.spec_world.specs.Events.{Plain, Tamper, bytes_changed, bytes_happen, bytes_later, flipped, may_tamper, tampered}
use Rattle.spec_world.specs.Notes as notes
use Rattle.spec_world.specs.Notes.{making_error, step_error, unless_open}
use Rattle.spec_world.specs.Settings.{WorldSettings}
use Rattle.spec_world.specs.World as bytes
use Rattle.world_ends.specs.Channels.{AreDown, AreUp}
use Rattle.world_ends.specs.Shown.{ShowsWorld}
use Rattle.world_ends.specs.declared.events.WorldError.{WorldError}
use Rattle.world_ends.specs.declared.events.WorldError.TheVariants as errors
use Rattle.world_ends.specs.declared.events.WorldEvent.{WorldEvent}
use Rattle.world_ends.specs.declared.events.WorldEvent.TheVariants as events
use Rattle.world_ends.specs.declared.sides.Channel.{Channel}
use Rattle.world_ends.specs.declared.sides.Down.{Down}
use Rattle.world_ends.specs.declared.sides.Up.{Up}
use Rattle.world_ends.specs.declared.world.World.{World}
use Rattle.world_steps.proofs.events.Coming.{in_course}
use Rattle.world_steps.specs.events.Coming.{unmet_as, went_as}
use Rattle.world_steps.specs.Parts.{IsWorldMemory}
use Rattle.world_steps.specs.Steps.{WorldRefuses, meant}

none_some : {X : Type 0} (x : X) → None ≡ Some x → ⊥
none_some x e = absurd (cc)

-- ---- of two tests

open_unmet : (a : Bool) (k : ℕ) (y : notes.WorldError) → unless_open a k ≡ Some y → a ≡ false
open_unmet true k y e = absurd (none_some y e)
open_unmet false k y e = refl

there_unmet : (a b : Bool) (k : ℕ) (y : notes.WorldError)
    → (if not a then Some (notes.NoChannel k) else if b then None else Some (notes.NothingThere k)) ≡ Some y → (a && b) ≡ false
there_unmet false b k y e = refl
there_unmet true true k y e = absurd (none_some y e)
there_unmet true false k y e = refl

use_unmet : (a c s : Bool) (m : Option ℕ) (k : ℕ) (y : notes.WorldError)
    → (if not a then Some (notes.NoChannel k) else if c || s then Some (notes.InUse k) else making_error m) ≡ Some y
    → (a && (not c && (not s && not (is_some m)))) ≡ false
use_unmet false c s m k y e = refl
use_unmet true true s m k y e = refl
use_unmet true false true m k y e = refl
use_unmet true false false None k y e = absurd (none_some y e)
use_unmet true false false (Some j) k y e = refl

-- ---- messages are there where frames are

pub up_there : (t : ℕ) (us : List Up) (bs : List (List ℕ)) (xs : List Sent) → AreUp t us bs xs → is_filled bs ≡ is_filled xs
unfolding is_filled
up_there t [] [] [] h = refl
up_there t (p ∷ us) (b ∷ bs) (x ∷ xs) h = refl
up_there t [] [] (x ∷ xs) h = absurd h
up_there t [] (b ∷ bs) [] h = absurd h
up_there t [] (b ∷ bs) (x ∷ xs) h = absurd h
up_there t (p ∷ us) [] [] h = absurd h
up_there t (p ∷ us) [] (x ∷ xs) h = absurd h
up_there t (p ∷ us) (b ∷ bs) [] h = absurd h

pub down_there : (ds : List Down) (bs : List (List ℕ)) (ys : List Received) → AreDown ds bs ys → is_filled bs ≡ is_filled ys
unfolding is_filled
down_there [] [] [] h = refl
down_there (p ∷ ds) (b ∷ bs) (x ∷ ys) h = refl
down_there [] [] (x ∷ ys) h = absurd h
down_there [] (b ∷ bs) [] h = absurd h
down_there [] (b ∷ bs) (x ∷ ys) h = absurd h
down_there (p ∷ ds) [] [] h = absurd h
down_there (p ∷ ds) [] (x ∷ ys) h = absurd h
down_there (p ∷ ds) (b ∷ bs) [] h = absurd h

pub both_false : (a b : Bool) → a ≡ false → (a && b) ≡ false
both_false true b e = absurd (cc)
both_false false b e = refl

module _ (z : WorldSettings) (x : World) (w : bytes.World) (h : ShowsWorld z x w) where
  up_same : (k : ℕ) (o : Option Channel) → slice_get x.channels.items k ≡ o
      → ((w.values.conns k).server_open && is_filled (w.values.conns k).up)
      ≡ ((w.values.conns k).server_open && is_filled (w.wires k).up)
  up_same k None e = (let b = (h.channels.beyond k e).1 in
      both_false (w.values.conns k).server_open (is_filled (w.values.conns k).up) b
      ∙ sym (both_false (w.values.conns k).server_open (is_filled (w.wires k).up) b))
  up_same k (Some u) e =
      ap (λ (b : Bool). (w.values.conns k).server_open && b)
      (sym (up_there w.values.client.taken u.up.items (w.wires k).up (w.values.conns k).up (h.channels.each k u e).up))

  down_same : (k : ℕ) (o : Option Channel) → slice_get x.channels.items k ≡ o
      → ((w.values.conns k).client_open && is_filled (w.values.conns k).down)
      ≡ ((w.values.conns k).client_open && is_filled (w.wires k).down)
  down_same k None e = (let b = (h.channels.beyond k e).0 in
      both_false (w.values.conns k).client_open (is_filled (w.values.conns k).down) b
      ∙ sym (both_false (w.values.conns k).client_open (is_filled (w.wires k).down) b))
  down_same k (Some u) e =
      ap (λ (b : Bool). (w.values.conns k).client_open && b)
      (sym (down_there u.down.items (w.wires k).down (w.values.conns k).down (h.channels.each k u e).down))

-- ---- what isn't met is none

abbrev met_if : Bool → bytes.World → bytes.World → bytes.World
met_if b v w = if b then v else w

unmet_is : (b : Bool) (v w : bytes.World) → b ≡ false → met_if b v w ≡ w
unmet_is true v w e = absurd (cc)
unmet_is false v w e = refl

plain_unmet : (z : WorldSettings) (w : bytes.World) (e : Event) → is_possible w.values e ≡ false → bytes_happen z w (Plain e) ≡ w
plain_unmet z w e p = unmet_is (is_possible w.values e) (bytes_later (bytes_changed z w e) (moments e)) w p

tamper_unmet : (z : WorldSettings) (w : bytes.World) (k : ℕ) (up : Bool) (f : List ℕ → List ℕ) → may_tamper w k up ≡ false
    → bytes_happen z w (Tamper k up f) ≡ w
tamper_unmet z w k up f p = unmet_is (may_tamper w k up) (bytes_later (tampered w k up f) 1) w p

pub unmet : (z : WorldSettings) (x : World) (w : bytes.World) (e : WorldEvent) (y : notes.WorldError) → ShowsWorld z x w
    → step_error w (meant w e) ≡ Some y → bytes_happen z w (meant w e) ≡ w
unmet z x w (events.Submit number kind) y h r = absurd (none_some y r)
unmet z x w (events.Open k) y h r =
    plain_unmet z w (network.Open k)
    (use_unmet (nat_lt k max_channel) (w.values.conns k).client_open (w.values.conns k).server_open w.values.client.making k y r)
unmet z x w (events.Push k) y h r = plain_unmet z w (push_lowest w k) (open_unmet (w.values.client.ready k) k y r)
unmet z x w (events.Serve k) y h r =
    plain_unmet z w (network.Serve k)
    (up_same z x w h k (slice_get x.channels.items k) refl
    ∙ there_unmet (w.values.conns k).server_open (is_filled (w.wires k).up) k y r)
unmet z x w (events.Take k) y h r =
    plain_unmet z w (network.Take k)
    (down_same z x w h k (slice_get x.channels.items k) refl
    ∙ there_unmet (w.values.conns k).client_open (is_filled (w.wires k).down) k y r)
unmet z x w (events.Cut k) y h r = plain_unmet z w (network.Cut k) (open_unmet (w.values.conns k).client_open k y r)
unmet z x w (events.Drop k) y h r = plain_unmet z w (network.Drop k) (open_unmet (w.values.conns k).server_open k y r)
unmet z x w events.Restart y h r = absurd (none_some y r)
unmet z x w (events.Crash k kept) y h r =
    plain_unmet z w (network.Crash k kept)
    (up_same z x w h k (slice_get x.channels.items k) refl
    ∙ there_unmet (w.values.conns k).server_open (is_filled (w.wires k).up) k y r)
unmet z x w (events.Wait n) y h r = absurd (none_some y r)
unmet z x w (events.Forge k true frame) y h r =
    tamper_unmet z w k true (λ front. frame)
    (there_unmet (w.values.conns k).server_open (is_filled (w.wires k).up) k y r)
unmet z x w (events.Forge k false frame) y h r =
    tamper_unmet z w k false (λ front. frame)
    (there_unmet (w.values.conns k).client_open (is_filled (w.wires k).down) k y r)
unmet z x w (events.Flip k true at mask) y h r =
    tamper_unmet z w k true (flipped at mask)
    (there_unmet (w.values.conns k).server_open (is_filled (w.wires k).up) k y r)
unmet z x w (events.Flip k false at mask) y h r =
    tamper_unmet z w k false (flipped at mask)
    (there_unmet (w.values.conns k).client_open (is_filled (w.wires k).down) k y r)

pub as_it_was : (z : WorldSettings) (x y : World) (w : bytes.World) (e : WorldEvent) (why : notes.WorldError) → ShowsWorld z x w
    → (step_error w (meant w e) ≡ Some why) × ShowsWorld z y w → ShowsWorld z y (bytes_happen z w (meant w e))
as_it_was z x y w e why h r = subst (λ (v : bytes.World). ShowsWorld z y v) (sym (unmet z x w e why h r.0)) r.1

-- in a course, by why it was refused
pub goes_unmet : (z : WorldSettings) (x y : World) (c : Course) (e : WorldEvent) (why : WorldError) → ShowsWorld z x c.world
    → WorldRefuses z y c.world (step_error c.world (meant c.world e)) why
    → MatchResult (unmet_as why) (λ u. ShowsWorld z y (went_as e z c).world) (λ v. IsWorldMemory v)
goes_unmet z x y c e errors.Memory h r = refl
goes_unmet z x y c e (errors.NoChannel k) h r =
    in_course z y c (meant c.world e) (as_it_was z x y c.world e (notes.NoChannel k) h r)
goes_unmet z x y c e (errors.NothingThere k) h r =
    in_course z y c (meant c.world e) (as_it_was z x y c.world e (notes.NothingThere k) h r)
goes_unmet z x y c e (errors.InUse k) h r = in_course z y c (meant c.world e) (as_it_was z x y c.world e (notes.InUse k) h r)
