-- Whether the place of a message is an entry of an open's order, as code tells it.
use Rattle.std.proofs.Common.{◌≡◌, ℕ, zero, suc, ◌-◌, ◌<◌, ◌≤◌, ◌==◌, ◌&&◌, Bool, true, false, refl, sym, ap, subst, ◌∙◌, arith}
use Rattle.std.proofs.Common.{List, [], ◌∷◌, length, slice_get, get_or, Option, None}
use Rattle.spec_exchange.specs.Content.{is_listed}
use Rattle.spec_exchange.specs.Operations.{Op, content_op, create_of}
use Rattle.spec_exchange.specs.Order.{is_at, is_of, place, placed}
use Rattle.spec_exchange.specs.Runs.{account}
use Rattle.client_values.specs.operations.Meaning.{op_of}
use Rattle.client_values.specs.declared.operations.values.OpKind.{OpKind}
use Rattle.client_values.specs.declared.operations.values.OpKind.TheVariants as kinds
use Rattle.spec_world.specs.Settings.{WorldSettings}
use Rattle.spec_world.specs.World as bytes
use Rattle.world_ends.specs.results.Ended.{ShowsEnded}
use Rattle.world_ends.specs.results.Listing.{ListingTellsOpen, born_in, is_listing_told, on_in, create_under, placed_in}
use Rattle.world_ends.specs.declared.results.ending.EndedWorld.{EndedWorld}
use Rattle.world_ends.specs.Places.{no_marks}
use Rattle.world_ends.specs.declared.world.Marks.{Marks}

-- ---- what an operation asks

no_entry : (b : Bool) → (b && false) ≡ false
no_entry true = refl
no_entry false = refl

entry_if : (b : Bool) → (b && true) ≡ b
entry_if true = refl
entry_if false = refl

listed_by : (k : OpKind) (g c : ℕ) → ((create_of g (op_of k) == c) && is_listed (content_op (op_of k))) ≡ is_listing_told (create_under k) c
unfolding is_listed
listed_by (kinds.Create path access share disposition persist directory) g c = no_entry (g == c)
listed_by (kinds.Write create at bytes) g c = entry_if (create == c)
listed_by (kinds.Read create at size) g c = entry_if (create == c)
listed_by (kinds.SetEnd create size) g c = entry_if (create == c)
listed_by (kinds.SetTime create time) g c = no_entry (create == c)
listed_by (kinds.Rename create path) g c = no_entry (create == c)
listed_by (kinds.Remove create) g c = no_entry (create == c)
listed_by (kinds.Lock create at size exclusive) g c = no_entry (create == c)
listed_by (kinds.Unlock create at size) g c = no_entry (create == c)
listed_by (kinds.Flush create) g c = no_entry (create == c)
listed_by (kinds.Stat create) g c = no_entry (create == c)
listed_by (kinds.List create) g c = no_entry (create == c)
listed_by (kinds.Close create) g c = no_entry (create == c)

told_at : (ops : List OpKind) (i g c : ℕ)
    → ((create_of g (op_of (get_or ops i (kinds.Close 0))) == c) && is_listed (content_op (op_of (get_or ops i (kinds.Close 0)))))
    ≡ is_listing_told (on_in (slice_get ops i)) c
told_at [] i g c = listed_by (kinds.Close 0) g c
told_at (k ∷ ks) zero g c = listed_by k g c
told_at (k ∷ ks) (suc i) g c = told_at ks i g c

-- ---- what is known of its places

marked : (marks : List Marks) (g : ℕ) → placed (get_or marks g no_marks).first (get_or marks g no_marks).by
    ≡ placed_in (slice_get marks g)
marked [] g = refl
marked (m ∷ ms) zero = refl
marked (m ∷ ms) (suc g) = marked ms g

pub born : (marks : List Marks) (g : ℕ) → (get_or marks g no_marks).birth ≡ born_in (slice_get marks g)
born [] g = refl
born (m ∷ ms) zero = refl
born (m ∷ ms) (suc g) = born ms g

has_mark : (marks : List Marks) (g n : ℕ) → is_at n (placed_in (slice_get marks g)) ≡ true → g < length marks
has_mark [] g n e = absurd (cc)
has_mark (m ∷ ms) zero n e = omega arith
has_mark (m ∷ ms) (suc g) n e = (let l = has_mark ms g n e in omega (arith, l))

-- ---- an entry

place_is : (z : WorldSettings) (x : EndedWorld) (w : bytes.World) (g : ℕ) → ShowsEnded z x w
    → place (account w.values) g ≡ placed_in (slice_get x.places.marks.items g)
place_is z x w g h =
    let ms = x.places.marks.items in
    ap (λ (v : Option ℕ). placed v (w.values.client.settled_by g)) (h.places.first_is g)
    ∙ (ap (λ (v : Option ℕ). placed (get_or ms g no_marks).first v) (h.places.by_is g) ∙ marked ms g)

of_is : (z : WorldSettings) (x : EndedWorld) (w : bytes.World) (g c : ℕ) → ShowsEnded z x w → 0 < g → g ≤ w.values.client.taken
    → is_of (account w.values) c g ≡ is_listing_told (on_in (slice_get x.client.table.ops.items (g - 1))) c
of_is z x w g c h above below =
    ap (λ (v : Op). (create_of g v == c) && is_listed (content_op v)) (h.client.table.values.op_is g above below)
    ∙ told_at x.client.table.ops.items (g - 1) g c

pub entry_off : (z : WorldSettings) (x : EndedWorld) (w : bytes.World) (g n : ℕ) → ShowsEnded z x w
    → is_at n (placed_in (slice_get x.places.marks.items g)) ≡ false → ListingTellsOpen (account w.values) g n None
entry_off z x w g n h e = λ who c.
    let a = account w.values in
    subst (λ (v : ℕ). (is_at n (place a v) && is_of a c v) ≡ false) (sym who)
    (ap (λ (b : Bool). b && is_of a c g) (ap (is_at n) (place_is z x w g h) ∙ e))

pub entry_on : (z : WorldSettings) (x : EndedWorld) (w : bytes.World) (g n : ℕ) → ShowsEnded z x w → 0 < g
    → is_at n (placed_in (slice_get x.places.marks.items g)) ≡ true
    → ListingTellsOpen (account w.values) g n (on_in (slice_get x.client.table.ops.items (g - 1)))
entry_on z x w g n h above e = λ who c.
    let a = account w.values in
    let l = has_mark x.places.marks.items g n e in
    let counted = h.places.counted in
    let below : g ≤ w.values.client.taken = omega (arith, l, counted) in
    subst (λ (v : ℕ). (is_at n (place a v) && is_of a c v)
    ≡ is_listing_told (on_in (slice_get x.client.table.ops.items (g - 1))) c) (sym who)
    (ap (λ (b : Bool). b && is_of a c g) (ap (is_at n) (place_is z x w g h) ∙ e) ∙ of_is z x w g c h above below)

-- a create's birth
pub birth_is : (z : WorldSettings) (x : EndedWorld) (w : bytes.World) (c : ℕ) → ShowsEnded z x w
    → w.values.log.birth c ≡ born_in (slice_get x.places.marks.items c)
birth_is z x w c h = h.places.birth_is c ∙ born x.places.marks.items c
