-- As many frames go up, or come down, as the definitions have; where nothing can be heard their number doesn't matter.
use Rattle.std.proofs.Common.{◌≡◌, ℕ, suc, true, false, refl, sym, ap, ◌∙◌, List, [], ◌∷◌, length, slice_get, Option}
use Rattle.std.proofs.Common.{Some, None}
use Rattle.spec_exchange.specs.Network.{Received, Sent, may_serve, may_take_reply}
use Rattle.spec_world.specs.Courses.{Course, serve_all, served_all, take_all, taken_all}
use Rattle.spec_world.specs.Settings.{WorldSettings}
use Rattle.world_ends.specs.Channels.{AreDown, AreUp}
use Rattle.world_ends.specs.Shown.{ShowsWorld}
use Rattle.world_ends.specs.declared.sides.Channel.{Channel}
use Rattle.world_ends.specs.declared.sides.Down.{Down}
use Rattle.world_ends.specs.declared.sides.Up.{Up}
use Rattle.world_ends.specs.declared.world.World.{World}
use Rattle.drill_command.specs.settling.Parts.{IsCount}
use Rattle.drill_command.specs.settling.Tests.{serving_in, taking_in}
use Rattle.drill_command.proofs.settling.Tested.{serving_is, taking_is}
use Rattle.drill_command.proofs.settling.Turning.{serve_stops, take_stops}

as_many_up : (t : ℕ) (us : List Up) (bs : List (List ℕ)) (xs : List Sent) → AreUp t us bs xs → length us ≡ length bs
as_many_up t [] [] [] h = refl
as_many_up t (p ∷ us) (b ∷ bs) (x ∷ xs) h = ap suc (as_many_up t us bs xs h.1)
as_many_up t [] [] (x ∷ xs) h = absurd h
as_many_up t [] (b ∷ bs) [] h = absurd h
as_many_up t [] (b ∷ bs) (x ∷ xs) h = absurd h
as_many_up t (p ∷ us) [] [] h = absurd h
as_many_up t (p ∷ us) [] (x ∷ xs) h = absurd h
as_many_up t (p ∷ us) (b ∷ bs) [] h = absurd h

as_many_down : (ds : List Down) (bs : List (List ℕ)) (ys : List Received) → AreDown ds bs ys → length ds ≡ length bs
as_many_down [] [] [] h = refl
as_many_down (p ∷ ds) (b ∷ bs) (x ∷ ys) h = ap suc (as_many_down ds bs ys h.1)
as_many_down [] [] (x ∷ ys) h = absurd h
as_many_down [] (b ∷ bs) [] h = absurd h
as_many_down [] (b ∷ bs) (x ∷ ys) h = absurd h
as_many_down (p ∷ ds) [] [] h = absurd h
as_many_down (p ∷ ds) [] (x ∷ ys) h = absurd h
as_many_down (p ∷ ds) (b ∷ bs) [] h = absurd h

pub whole_up : (z : WorldSettings) (c : Course) (k : ℕ) → serve_all z (length (c.world.wires k).up) c k ≡ served_all z c k
unfolding served_all
whole_up z c k = refl

pub whole_down : (z : WorldSettings) (c : Course) (k : ℕ) → take_all z (length (c.world.wires k).down) c k ≡ taken_all z c k
unfolding taken_all
whole_down z c k = refl

serves_by : (z : WorldSettings) (x : World) (c : Course) (k n : ℕ) (o : Option Channel) → ShowsWorld z x c.world
    → slice_get x.channels.items k ≡ o → IsCount true o n → serve_all z n c k ≡ served_all z c k
serves_by z x c k n None h e i =
    let off : may_serve c.world.values k ≡ false = serving_is z x c.world k h ∙ ap serving_in e in
    sym (serve_stops z n c k off) ∙ (serve_stops z (length (c.world.wires k).up) c k off ∙ whole_up z c k)
serves_by z x c k n (Some u) h e i =
    ap (λ (m : ℕ). serve_all z m c k)
    (i ∙ as_many_up c.world.values.client.taken u.up.items (c.world.wires k).up (c.world.values.conns k).up (h.channels.each k u e).up)
    ∙ whole_up z c k

pub serves_as : (z : WorldSettings) (x : World) (c : Course) (k n : ℕ) → ShowsWorld z x c.world
    → IsCount true (slice_get x.channels.items k) n → serve_all z n c k ≡ served_all z c k
serves_as z x c k n h i = serves_by z x c k n (slice_get x.channels.items k) h refl i

takes_by : (z : WorldSettings) (x : World) (c : Course) (k n : ℕ) (o : Option Channel) → ShowsWorld z x c.world
    → slice_get x.channels.items k ≡ o → IsCount false o n → take_all z n c k ≡ taken_all z c k
takes_by z x c k n None h e i =
    let off : may_take_reply c.world.values k ≡ false = taking_is z x c.world k h ∙ ap taking_in e in
    sym (take_stops z n c k off) ∙ (take_stops z (length (c.world.wires k).down) c k off ∙ whole_down z c k)
takes_by z x c k n (Some u) h e i =
    ap (λ (m : ℕ). take_all z m c k)
    (i ∙ as_many_down u.down.items (c.world.wires k).down (c.world.values.conns k).down (h.channels.each k u e).down)
    ∙ whole_down z c k

pub takes_as : (z : WorldSettings) (x : World) (c : Course) (k n : ℕ) → ShowsWorld z x c.world
    → IsCount false (slice_get x.channels.items k) n → take_all z n c k ≡ taken_all z c k
takes_as z x c k n h i = takes_by z x c k n (slice_get x.channels.items k) h refl i
