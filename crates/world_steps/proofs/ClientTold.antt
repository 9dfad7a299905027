-- What connections and places show behind an operation more.
use Rattle.std.proofs.Common.{◌≡◌, ℕ, zero, suc, ◌+◌, ◌≤◌, ◌<◌, nat_lt, Bool, true, false, if◌then◌else◌, refl, sym, ap, subst, ◌∙◌, arith}
use Rattle.std.proofs.Common.{List, [], ◌∷◌, ◌++◌, length, Option}
use Rattle.std.specs.Prelude.{slice_index}
use Rattle.std.proofs.lemmas.Bool.Decides.{nat_tests}
use Rattle.spec_exchange.specs.Operations.{Op}
use Rattle.spec_exchange.specs.Client.{Client, take_op}
use Rattle.spec_exchange.specs.Network.{Conn as Link, Sent}
use Rattle.client_steps.specs.whole_client.Shown.{ShowsClient}
use Rattle.client_steps.specs.declared.whole_client.client.Client.{Client as Core}
use Rattle.law_client.specs.table.Kept.{TableKept}
use Rattle.client_events.specs.world_law.Asking.{AsksFit}
use Rattle.client_ends.specs.declared.ends.config.ClientConfig.{ClientConfig}
use Rattle.spec_crypto.specs.declared.sessions.material.Keys.{Keys}
use Rattle.spec_world.specs.Settings.{WorldSettings}
use Rattle.spec_world.specs.World.{Wires}
use Rattle.world_ends.specs.Channels.{AreUp, ChannelSeen, ShowsChannel, ShowsChannels, seen_of}
use Rattle.world_ends.specs.Places.{ChannelShowsPlaces, marks_at, no_marks}
use Rattle.world_ends.specs.Shown.{ShowsOwn}
use Rattle.world_ends.specs.declared.sides.Channel.{Channel}
use Rattle.world_ends.specs.declared.sides.Up.{Up}
use Rattle.world_ends.specs.declared.world.Marks.{Marks}
use Rattle.world_ends.specs.declared.world.Places.{Places}
use Rattle.world_steps.specs.Parts.{Marked}

-- ---- more operations were taken

no_higher : (g t u : ℕ) → g ≤ t → t ≤ u → g ≤ u
no_higher g t u a b = omega (arith, a, b)

more_up : (t u : ℕ) → t ≤ u → (us : List Up) (bs : List (List ℕ)) (xs : List Sent) → AreUp t us bs xs → AreUp u us bs xs
more_up t u m [] [] [] h = tt
more_up t u m (p ∷ us) (b ∷ bs) (x ∷ xs) h =
    (record { bytes = h.0.bytes; token = h.0.token; below = no_higher _ t u h.0.below m; short = h.0.short }, more_up t u m us bs xs h.1)
more_up t u m [] [] (x ∷ xs) h = absurd h
more_up t u m [] (b ∷ bs) [] h = absurd h
more_up t u m [] (b ∷ bs) (x ∷ xs) h = absurd h
more_up t u m (p ∷ us) [] [] h = absurd h
more_up t u m (p ∷ us) [] (x ∷ xs) h = absurd h
more_up t u m (p ∷ us) (b ∷ bs) [] h = absurd h

more_in_one : (k : ℕ) (s : ClientConfig) (guid : List ℕ) (keys : Keys) (t u : ℕ) (c : ChannelSeen) (i : Link)
    (w : Wires) (x : Channel) → t ≤ u
    → ShowsChannel k s guid keys t c i w x → ShowsChannel k s guid keys u c i w x
more_in_one k s guid keys t u c i w x m h =
    record { client = h.client; server = h.server; up = more_up t u m x.up.items w.up i.up h.up; down = h.down }

pub more : (s : ClientConfig) (guid : List ℕ) (keys : Keys) (t u : ℕ) (c : ChannelSeen) (conns : ℕ → Link)
    (wires : ℕ → Wires) (xs : List Channel)
    → t ≤ u → ShowsChannels s guid keys t c conns wires xs → ShowsChannels s guid keys u c conns wires xs
more s guid keys t u c conns wires xs m h = record {
  counted = h.counted;
  each = λ k x e. more_in_one k s guid keys t u c (conns k) (wires k) x m (h.each k x e);
  beyond = h.beyond;
}

-- ---- marks of one more

marks_stay : (xs : List Marks) (g : ℕ) → marks_at (xs ++ no_marks ∷ []) g ≡ marks_at xs g
marks_stay [] zero = refl
marks_stay [] (suc g) = refl
marks_stay (x ∷ xs) zero = refl
marks_stay (x ∷ xs) (suc g) = marks_stay xs g

one_longer : (xs : List Marks) → length (xs ++ no_marks ∷ []) ≡ length xs + 1
one_longer [] = refl
one_longer (x ∷ xs) = let e : suc (length (xs ++ no_marks ∷ [])) ≡ suc (length xs) + 1 = (let d = one_longer xs in omega (arith, d)) in e

not_below : (g n : ℕ) → n ≡ g → nat_lt g n ≡ false
not_below g n e = grind (arith, nat_tests)

is_below : (t n : ℕ) → n ≡ t + 1 → nat_lt t n ≡ true
is_below t n e = grind (arith, nat_tests)

if_false : {X : Type 0} (b : Bool) (p q : X) → b ≡ false → (if b then p else q) ≡ q
if_false false p q e = refl
if_false true p q e = absurd (cc)

if_true : {X : Type 0} (b : Bool) (p q : X) → b ≡ true → (if b then p else q) ≡ p
if_true true p q e = refl
if_true false p q e = absurd (cc)

-- one operation more, whose marks tell nothing
one_more : (p q : Places) (taken g : ℕ) (by : ℕ → Option ℕ) (places : ℕ) (who : ℕ → ℕ) (first : ℕ → Option ℕ) (birth : ℕ → ℕ)
    → g ≡ taken + 1 → Marked p g q → ChannelShowsPlaces p taken by places who first birth → ChannelShowsPlaces q g by places who first birth
one_more p q taken g by places who first birth e m h =
    let marks : q.marks.items ≡ p.marks.items ++ no_marks ∷ [] = m.marks
    ∙ if_false _ _ _ (not_below g (length p.marks.items) (h.counted ∙ sym e)) in
    let same : (n : ℕ) → marks_at p.marks.items n ≡ marks_at q.marks.items n =
    (λ n. sym (ap (λ (v : List Marks). marks_at v n) marks ∙ marks_stay p.marks.items n)) in
    let long : length q.marks.items ≡ g + 1 =
    ap (λ (v : List Marks). length v) marks ∙ (one_longer p.marks.items ∙ ap (λ (v : ℕ). v + 1) (h.counted ∙ sym e)) in
    record {
      places_are = h.places_are ∙ ap (λ (v : List ℕ). length v) (sym m.served);
      who_is = subst (λ (v : List ℕ). (n : ℕ) → n < length v → who n ≡ slice_index v n) (sym m.served) h.who_is;
      counted = long;
      first_is = λ n. h.first_is n ∙ ap (λ (v : Marks). v.first) (same n);
      by_is = λ n. h.by_is n ∙ ap (λ (v : Marks). v.by) (same n);
      birth_is = λ n. h.birth_is n ∙ ap (λ (v : Marks). v.birth) (same n);
    }

-- none more
no_more : (p q : Places) (taken : ℕ) (by : ℕ → Option ℕ) (places : ℕ) (who : ℕ → ℕ) (first : ℕ → Option ℕ) (birth : ℕ → ℕ)
    → Marked p taken q → ChannelShowsPlaces p taken by places who first birth → ChannelShowsPlaces q taken by places who first birth
no_more p q taken by places who first birth m h =
    let marks : q.marks.items ≡ p.marks.items = m.marks ∙ if_true _ _ _ (is_below taken (length p.marks.items) h.counted) in
    record {
      places_are = h.places_are ∙ ap (λ (v : List ℕ). length v) (sym m.served);
      who_is = subst (λ (v : List ℕ). (n : ℕ) → n < length v → who n ≡ slice_index v n) (sym m.served) h.who_is;
      counted = ap (λ (v : List Marks). length v) marks ∙ h.counted;
      first_is = λ n. h.first_is n ∙ ap (λ (v : List Marks). (marks_at v n).first) (sym marks);
      by_is = λ n. h.by_is n ∙ ap (λ (v : List Marks). (marks_at v n).by) (sym marks);
      birth_is = λ n. h.birth_is n ∙ ap (λ (v : List Marks). (marks_at v n).birth) (sym marks);
    }

-- ---- an operation is taken, or isn't

pub own_taken : (b : Bool) (z : WorldSettings) (x : Core) (a : ℕ) (m : Option ℕ) (c : Client) (g : ℕ) (op : Op) (y : Core)
    → ShowsClient y (if b then take_op c g op else c) → TableKept (if b then take_op c g op else c)
    → AsksFit (if b then take_op c g op else c) → ShowsOwn z x a m c → ShowsOwn z y a m (if b then take_op c g op else c)
own_taken true z x a m c g op y s k f h =
    record { client = s; kept = k; asks = f; who = h.who; accepted_is = h.accepted_is; making_is = h.making_is; apart = h.apart }
own_taken false z x a m c g op y s k f h =
    record { client = s; kept = k; asks = f; who = h.who; accepted_is = h.accepted_is; making_is = h.making_is; apart = h.apart }

pub places_taken : (b : Bool) (c : Client) (g : ℕ) (op : Op) (p q : Places) (places : ℕ) (who : ℕ → ℕ) (first : ℕ → Option ℕ)
    (birth : ℕ → ℕ) → (b ≡ true → g ≡ c.taken + 1) → Marked p (if b then take_op c g op else c).taken q
    → ChannelShowsPlaces p c.taken c.settled_by places who first birth
    → ChannelShowsPlaces q (if b then take_op c g op else c).taken (if b then take_op c g op else c).settled_by places who first birth
places_taken true c g op p q places who first birth n m h = one_more p q c.taken g c.settled_by places who first birth (n refl) m h
places_taken false c g op p q places who first birth n m h = no_more p q c.taken c.settled_by places who first birth m h

one_up : (t g : ℕ) → g ≡ t + 1 → t ≤ g
one_up t g e = omega (arith, e)

pub channels_taken : (b : Bool) (c : Client) (g : ℕ) (op : Op) (s : ClientConfig) (guid : List ℕ) (keys : Keys) (conns : ℕ → Link)
    (wires : ℕ → Wires) (xs : List Channel) → (b ≡ true → g ≡ c.taken + 1)
    → ShowsChannels s guid keys c.taken (seen_of c) conns wires xs
    → ShowsChannels s guid keys (if b then take_op c g op else c).taken (seen_of (if b then take_op c g op else c)) conns wires xs
channels_taken true c g op s guid keys conns wires xs n h =
    more s guid keys c.taken g (seen_of c) conns wires xs (one_up c.taken g (n refl)) h
channels_taken false c g op s guid keys conns wires xs n h = h
