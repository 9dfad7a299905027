-- What a push came to is drained, or its channel is cut where nothing was on its way.
use Rattle.std.proofs.Common.{◌≡◌, ℕ, Bool, true, false, ◌||◌, refl, sym, ap, subst, ◌∙◌, arith, slice_get, Option, Some, None}
use Rattle.std.proofs.Common.{length, Result, MatchResult}
use Rattle.spec_exchange.specs.Network.{Cut, may_serve, may_take_reply}
use Rattle.spec_exchange.specs.Schedules.{has_more}
use Rattle.spec_exchange.specs.Table.{is_filled}
use Rattle.spec_world.specs.Courses.{Course, drain, pushed_round, served_all, taken_all, went, went_byte, went_push}
use Rattle.spec_world.specs.Notes as notes
use Rattle.spec_world.specs.Notes.{unless_open}
use Rattle.spec_world.specs.Settings.{WorldSettings}
use Rattle.spec_world.specs.World as bytes
use Rattle.world_ends.specs.Shown.{ShowsWorld}
use Rattle.world_ends.specs.declared.events.WorldError.{WorldError}
use Rattle.world_ends.specs.declared.events.WorldEvent.TheVariants as events
use Rattle.world_ends.specs.declared.sides.Channel.{Channel}
use Rattle.world_ends.specs.declared.world.World.{World}
use Rattle.world_steps.proofs.events.Coming.{result_as}
use Rattle.world_steps.proofs.events.Unmet.{unmet}
use Rattle.drill_command.proofs.settling.Counted.{whole_down, whole_up}
use Rattle.drill_command.proofs.settling.Equations.{pushed_off, pushed_on}
use Rattle.drill_command.proofs.settling.Tested.{more_is, serving_is, taking_is}
use Rattle.drill_command.proofs.settling.Turning.{drain_stops, serve_stops, take_stops}
use Rattle.drill_command.specs.settling.Tests.{frames_in, more_in, serving_in, taking_in}
use Rattle.world_steps.proofs.Tampered.{filled_down, filled_up}
use Rattle.world_steps.specs.Parts.{IsWorldMemory}

-- ---- where nothing can be heard a drain changes nothing

served_none : (z : WorldSettings) (c : Course) (k : ℕ) → may_serve c.world.values k ≡ false → served_all z c k ≡ c
served_none z c k off = sym (whole_up z c k) ∙ sym (serve_stops z (length (c.world.wires k).up) c k off)

taken_none : (z : WorldSettings) (c : Course) (k : ℕ) → may_take_reply c.world.values k ≡ false → taken_all z c k ≡ c
taken_none z c k off = sym (whole_down z c k) ∙ sym (take_stops z (length (c.world.wires k).down) c k off)

some_turns : (n : ℕ) → n ≡ 64 → n ≡ 0 → ⊥
some_turns n full e = omega (arith, full, e)

drain_none : (z : WorldSettings) (c : Course) (k : ℕ) → may_serve c.world.values k ≡ false → may_take_reply c.world.values k ≡ false
    → has_more c.world.values k ≡ false → drain z 64 c k ≡ c
drain_none z c k up down more =
    let once : taken_all z (served_all z c k) k ≡ c =
    ap (λ (d : Course). taken_all z d k) (served_none z c k up) ∙ taken_none z c k down in
    sym (drain_stops z 64 c k (some_turns 64 refl) (ap (λ (d : Course). has_more d.world.values k) once ∙ more)) ∙ once

-- ---- of a connection that isn't there

cut_none : (z : WorldSettings) (x : World) (c : Course) (k : ℕ) → ShowsWorld z x c.world → (c.world.values.conns k).client_open ≡ false
    → (went z c (Cut k)).world ≡ c.world
unfolding went_byte
cut_none z x c k h off =
    unmet z x c.world (events.Cut k) (notes.NoChannel k) h (ap (λ (b : Bool). unless_open b k) off)

no_drain : (z : WorldSettings) (x : World) (c : Course) (k : ℕ) → ShowsWorld z x c.world → slice_get x.channels.items k ≡ None
    → (went z c (Cut k)).world ≡ (drain z 64 c k).world
no_drain z x c k h e =
    cut_none z x c k h (h.channels.beyond k e).0
    ∙ sym (ap (λ (d : Course). d.world) (drain_none z c k (serving_is z x c.world k h ∙ ap serving_in e)
    (taking_is z x c.world k h ∙ ap taking_in e) (more_is z x c.world k h ∙ ap more_in e)))

-- ---- frames are on their way where the definitions have some

frames_are : (z : WorldSettings) (x : World) (w : bytes.World) (k : ℕ) (u : Channel) → ShowsWorld z x w
    → slice_get x.channels.items k ≡ Some u
    → (is_filled (w.wires k).up || is_filled (w.wires k).down) ≡ frames_in (Some u)
frames_are z x w k u h e =
    let s = h.channels.each k u e in
    ap (λ (b : Bool). b || is_filled (w.wires k).down)
    (filled_up w.values.client.taken u.up.items (w.wires k).up (w.values.conns k).up s.up)
    ∙ ap (λ (b : Bool). is_filled u.up.items || b) (filled_down u.down.items (w.wires k).down (w.values.conns k).down s.down)

not_there : frames_in None ≡ true → ⊥
not_there e = absurd (cc)

drains_by : (z : WorldSettings) (x y : World) (r : Result Unit WorldError) (c : Course) (k : ℕ) (o : Option Channel)
    → ShowsWorld z x (went_push z c k).world → slice_get x.channels.items k ≡ o → frames_in o ≡ true
    → MatchResult r (λ u. ShowsWorld z y (drain z 64 (went_push z c k) k).world) (λ why. IsWorldMemory why)
    → MatchResult r (λ u. ShowsWorld z y (pushed_round z c k).world) (λ why. IsWorldMemory why)
drains_by z x y r c k None h e on m = absurd (not_there on)
drains_by z x y r c k (Some u) h e on m =
    result_as z y r (drain z 64 (went_push z c k) k) (pushed_round z c k)
    (sym (pushed_on z c k (frames_are z x (went_push z c k).world k u h e ∙ on))) m

pub drains : (z : WorldSettings) (x y : World) (r : Result Unit WorldError) (c : Course) (k : ℕ)
    → ShowsWorld z x (went_push z c k).world
    → frames_in (slice_get x.channels.items k) ≡ true
    → MatchResult r (λ u. ShowsWorld z y (drain z 64 (went_push z c k) k).world) (λ why. IsWorldMemory why)
    → MatchResult r (λ u. ShowsWorld z y (pushed_round z c k).world) (λ why. IsWorldMemory why)
drains z x y r c k h on m = drains_by z x y r c k (slice_get x.channels.items k) h refl on m

-- of a world that is the same
world_as : (z : WorldSettings) (y : World) (r : Result Unit WorldError) (v w : bytes.World) → v ≡ w
    → MatchResult r (λ u. ShowsWorld z y v) (λ why. IsWorldMemory why) → MatchResult r (λ u. ShowsWorld z y w) (λ why. IsWorldMemory why)
world_as z y r v w e m = subst (λ (t : bytes.World). MatchResult r (λ u. ShowsWorld z y t) (λ why. IsWorldMemory why)) e m

-- by whether the definitions have frames where there is no connection
cuts_none : (b : Bool) (z : WorldSettings) (x y : World) (r : Result Unit WorldError) (c : Course) (k : ℕ)
    → (is_filled ((went_push z c k).world.wires k).up || is_filled ((went_push z c k).world.wires k).down) ≡ b
    → ShowsWorld z x (went_push z c k).world → slice_get x.channels.items k ≡ None
    → MatchResult r (λ u. ShowsWorld z y (went z (went_push z c k) (Cut k)).world) (λ why. IsWorldMemory why)
    → MatchResult r (λ u. ShowsWorld z y (pushed_round z c k).world) (λ why. IsWorldMemory why)
cuts_none true z x y r c k t h e m =
    let d = went_push z c k in
    world_as z y r (went z d (Cut k)).world (pushed_round z c k).world
    (no_drain z x d k h e ∙ ap (λ (v : Course). v.world) (sym (pushed_on z c k t))) m
cuts_none false z x y r c k t h e m =
    result_as z y r (went z (went_push z c k) (Cut k)) (pushed_round z c k) (sym (pushed_off z c k t)) m

cuts_by : (z : WorldSettings) (x y : World) (r : Result Unit WorldError) (c : Course) (k : ℕ) (o : Option Channel)
    → ShowsWorld z x (went_push z c k).world → slice_get x.channels.items k ≡ o → frames_in o ≡ false
    → MatchResult r (λ u. ShowsWorld z y (went z (went_push z c k) (Cut k)).world) (λ why. IsWorldMemory why)
    → MatchResult r (λ u. ShowsWorld z y (pushed_round z c k).world) (λ why. IsWorldMemory why)
cuts_by z x y r c k None h e off m =
    let d = went_push z c k in
    cuts_none (is_filled (d.world.wires k).up || is_filled (d.world.wires k).down) z x y r c k refl h e m
cuts_by z x y r c k (Some u) h e off m =
    result_as z y r (went z (went_push z c k) (Cut k)) (pushed_round z c k)
    (sym (pushed_off z c k (frames_are z x (went_push z c k).world k u h e ∙ off))) m

pub cuts : (z : WorldSettings) (x y : World) (r : Result Unit WorldError) (c : Course) (k : ℕ) → ShowsWorld z x (went_push z c k).world
    → frames_in (slice_get x.channels.items k) ≡ false
    → MatchResult r (λ u. ShowsWorld z y (went z (went_push z c k) (Cut k)).world) (λ why. IsWorldMemory why)
    → MatchResult r (λ u. ShowsWorld z y (pushed_round z c k).world) (λ why. IsWorldMemory why)
cuts z x y r c k h off m = cuts_by z x y r c k (slice_get x.channels.items k) h refl off m
