-- A list that lost a member, or in which one overtook another, has no other members and no more copies.
use Rattle.std.proofs.Common.{◌≡◌, ℕ, zero, suc, ◌+◌, ◌≤◌, Bool, true, false, List, [], ◌∷◌, refl, arith}
use Rattle.std.proofs.Common.{None, Some, slice_get, add-one, sym, ap, ◌∙◌, subst}
use Rattle.spec_exchange.specs.Network.{Conn, Sent, Received}
use Rattle.law_sessions.specs.messages.Connections.{count_up, count_down}
use Rattle.law_hostile.specs.sifting.Sifting.{Sifted}
use Rattle.law_hostile.specs.loosely.LooseRuns.{without_at, overtaken_at, loses, overtakes}

abbrev pub Member : {X : Type 0} → List X → X → Type 0
Member xs x = (m : ℕ) × (slice_get xs m ≡ Some x)

later : {X : Type 0} (y : X) (xs : List X) (x : X) → Member xs x → Member (y ∷ xs) x
later y xs x h = (h.0 + 1, rw (add-one) h.1)

within_without : {X : Type 0} (n : ℕ) (xs : List X) (i : ℕ) (x : X) → slice_get (without_at n xs) i ≡ Some x → Member xs x
unfolding without_at
within_without n [] i x h = (i, h)
within_without zero (y ∷ xs) i x h = (i + 1, rw (add-one) h)
within_without (suc n) (y ∷ xs) zero x h = (0, h)
within_without (suc n) (y ∷ xs) (suc i) x h = later y xs x (within_without n xs i x h)

within_overtaken : {X : Type 0} (n : ℕ) (xs : List X) (i : ℕ) (x : X) → slice_get (overtaken_at n xs) i ≡ Some x → Member xs x
unfolding overtaken_at
within_overtaken n [] i x h = (i, h)
within_overtaken zero (y ∷ []) i x h = (i, h)
within_overtaken (suc n) (y ∷ []) i x h = (i, h)
within_overtaken zero (y ∷ v ∷ xs) zero x h = (1, h)
within_overtaken zero (y ∷ v ∷ xs) (suc zero) x h = (0, h)
within_overtaken zero (y ∷ v ∷ xs) (suc (suc i)) x h = (suc (suc i), h)
within_overtaken (suc n) (y ∷ v ∷ xs) zero x h = (0, h)
within_overtaken (suc n) (y ∷ v ∷ xs) (suc i) x h = later y (v ∷ xs) x (within_overtaken n (v ∷ xs) i x h)

none_without : {X : Type 0} (n : ℕ) (xs : List X) → xs ≡ [] → without_at n xs ≡ []
unfolding without_at
none_without n [] e = refl
none_without n (x ∷ xs) e = absurd (cc)

none_overtaken : {X : Type 0} (n : ℕ) (xs : List X) → xs ≡ [] → overtaken_at n xs ≡ []
unfolding overtaken_at
none_overtaken n [] e = refl
none_overtaken n (x ∷ xs) e = absurd (cc)

up_without : (g n : ℕ) (xs : List Sent) → count_up g (without_at n xs) ≤ count_up g xs
unfolding without_at
up_without g n [] = omega arith
up_without g zero (x ∷ xs) = omega arith
up_without g (suc n) (x ∷ xs) = let rest = up_without g n xs in omega (arith, rest)

up_overtaken : (g n : ℕ) (xs : List Sent) → count_up g (overtaken_at n xs) ≤ count_up g xs
unfolding overtaken_at
up_overtaken g n [] = omega arith
up_overtaken g zero (x ∷ []) = omega arith
up_overtaken g (suc n) (x ∷ []) = omega arith
up_overtaken g zero (x ∷ y ∷ xs) = omega arith
up_overtaken g (suc n) (x ∷ y ∷ xs) = let rest = up_overtaken g n (y ∷ xs) in omega (arith, rest)

down_without : (g n : ℕ) (xs : List Received) → count_down g (without_at n xs) ≤ count_down g xs
unfolding without_at
down_without g n [] = omega arith
down_without g zero (x ∷ xs) = omega arith
down_without g (suc n) (x ∷ xs) = let rest = down_without g n xs in omega (arith, rest)

down_overtaken : (g n : ℕ) (xs : List Received) → count_down g (overtaken_at n xs) ≤ count_down g xs
unfolding overtaken_at
down_overtaken g n [] = omega arith
down_overtaken g zero (x ∷ []) = omega arith
down_overtaken g (suc n) (x ∷ []) = omega arith
down_overtaken g zero (x ∷ y ∷ xs) = omega arith
down_overtaken g (suc n) (x ∷ y ∷ xs) = let rest = down_overtaken g n (y ∷ xs) in omega (arith, rest)

-- ---- one that stands before all others

within_front : {X : Type 0} (n : ℕ) (x : X) (xs : List X) → slice_get xs n ≡ Some x → (i : ℕ) (y : X)
    → slice_get (x ∷ without_at n xs) i ≡ Some y → Member xs y
within_front n x xs at zero y h = let q : Some x ≡ Some y = h in (n, at ∙ q)
within_front n x xs at (suc i) y h = within_without n xs i y h

up_at : (g n : ℕ) (x : Sent) (xs : List Sent) → slice_get xs n ≡ Some x → count_up g (x ∷ without_at n xs) ≤ count_up g xs
unfolding without_at
up_at g n x [] at = absurd (let h : None ≡ Some x = at in cc)
up_at g zero x (y ∷ xs) at =
    let q : Some y ≡ Some x = at in
    let e : y ≡ x = cc in
    subst (λ v. count_up g (v ∷ xs) ≤ count_up g (y ∷ xs)) e (omega arith)
up_at g (suc n) x (y ∷ xs) at = let rest = up_at g n x xs at in omega (arith, rest)

down_at : (g n : ℕ) (x : Received) (xs : List Received) → slice_get xs n ≡ Some x → count_down g (x ∷ without_at n xs) ≤ count_down g xs
unfolding without_at
down_at g n x [] at = absurd (let h : None ≡ Some x = at in cc)
down_at g zero x (y ∷ xs) at =
    let q : Some y ≡ Some x = at in
    let e : y ≡ x = cc in
    subst (λ v. count_down g (v ∷ xs) ≤ count_down g (y ∷ xs)) e (omega arith)
down_at g (suc n) x (y ∷ xs) at = let rest = down_at g n x xs at in omega (arith, rest)

not_none : {X : Type 0} (n : ℕ) (x : X) (xs ys : List X) → slice_get xs n ≡ Some x → xs ≡ [] → ys ≡ []
not_none n x xs ys at e = absurd (let h : None ≡ Some x = sym (ap (λ l. slice_get l n) e) ∙ at in cc)

-- what a test tells from the one that left stays
pub stays_without : {X : Type 0} (test : X → Bool) (n i : ℕ) (x y : X) (xs : List X) → slice_get xs n ≡ Some x → test x ≡ true
    → slice_get xs i ≡ Some y → test y ≡ false → Member (without_at n xs) y
unfolding without_at
stays_without test n i x y [] at is h other = (i, h)
stays_without test zero zero x y (v ∷ xs) at is h other =
    absurd (let p : Some v ≡ Some x = at in let q : Some v ≡ Some y = h in let r : x ≡ y = cc in
    let s : true ≡ false = sym is ∙ (ap test r ∙ other) in cc)
stays_without test zero (suc i) x y (v ∷ xs) at is h other = (i, h)
stays_without test (suc n) zero x y (v ∷ xs) at is h other = (0, h)
stays_without test (suc n) (suc i) x y (v ∷ xs) at is h other = later v (without_at n xs) y (stays_without test n i x y xs at is h other)

-- ---- a connection

-- with other lists up
sifts_up : (c : Conn) (xs : List Sent) → ((i : ℕ) (x : Sent) → slice_get xs i ≡ Some x → Member c.up x)
    → ((g : ℕ) → count_up g xs ≤ count_up g c.up) → Sifted c (record c { up = xs })
sifts_up c xs within fewer =
    record {
      client = refl;
      server = refl;
      up = within;
      down = λ n y h. (n, h);
      none = λ e. e;
      fewer_up = fewer;
      fewer_down = λ g. omega arith;
    }

sifts_down : (c : Conn) (ys : List Received) → ((i : ℕ) (y : Received) → slice_get ys i ≡ Some y → Member c.down y)
    → (c.down ≡ [] → ys ≡ []) → ((g : ℕ) → count_down g ys ≤ count_down g c.down) → Sifted c (record c { down = ys })
sifts_down c ys within none fewer =
    record {
      client = refl;
      server = refl;
      up = λ n x h. (n, h);
      down = within;
      none = none;
      fewer_up = λ g. omega arith;
      fewer_down = fewer;
    }

pub loses_sifts : (c : Conn) (up : Bool) (n : ℕ) → Sifted c (loses c up n)
loses_sifts c true n = sifts_up c (without_at n c.up) (λ i x h. within_without n c.up i x h) (λ g. up_without g n c.up)
loses_sifts c false n =
    sifts_down c (without_at n c.down) (λ i y h. within_without n c.down i y h) (λ e. none_without n c.down e)
    (λ g. down_without g n c.down)

pub overtakes_sifts : (c : Conn) (up : Bool) (n : ℕ) → Sifted c (overtakes c up n)
overtakes_sifts c true n = sifts_up c (overtaken_at n c.up) (λ i x h. within_overtaken n c.up i x h) (λ g. up_overtaken g n c.up)
overtakes_sifts c false n =
    sifts_down c (overtaken_at n c.down) (λ i y h. within_overtaken n c.down i y h) (λ e. none_overtaken n c.down e)
    (λ g. down_overtaken g n c.down)

pub front_up_sifts : (c : Conn) (n : ℕ) (x : Sent) → slice_get c.up n ≡ Some x → Sifted c (record c { up = x ∷ without_at n c.up })
front_up_sifts c n x at =
    sifts_up c (x ∷ without_at n c.up) (λ i y h. within_front n x c.up at i y h) (λ g. up_at g n x c.up at)

pub front_down_sifts : (c : Conn) (n : ℕ) (y : Received) → slice_get c.down n ≡ Some y → Sifted c (record c { down = y ∷ without_at n c.down })
front_down_sifts c n y at =
    sifts_down c (y ∷ without_at n c.down) (λ i x h. within_front n y c.down at i x h)
    (λ e. not_none n y c.down (y ∷ without_at n c.down) at e) (λ g. down_at g n y c.down at)
