-- Whether two of the lists that the ends hashed for a logon collide can be told.
use Rattle.std.proofs.Common.{◌≡◌, ◌≢◌, ℕ, zero, suc, ◌+◌, Bool, true, false, List, [], ◌∷◌, ◌⊎◌, inl, inr, refl, sym, ◌∙◌, Some, None}
use Rattle.std.proofs.Common.{slice_get, add-one, subst}
use Rattle.std.proofs.lemmas.Slice.Eq.{bytes_eq-Decides}
use Rattle.std.specs.Str.{bytes_eq}
use Rattle.spec_crypto.specs.sessions.Chain.{hashed, Collide, hash}
use Rattle.spec_world.specs.Answering.{Ending}
use Rattle.spec_world.specs.World.{World}
use Rattle.spec_hostile.specs.HostileNetwork.{HasCollided, OfEndings}

-- ---- a pair of two lists

record Pair {X : Type 0} {Y : Type 0} (P : X → Y → Type 0) (xs : List X) (ys : List Y) : Type 0 where
  pub i : ℕ
  pub j : ℕ
  pub x : X
  pub y : Y
  pub first : slice_get xs i ≡ Some x
  pub second : slice_get ys j ≡ Some y
  pub is : P x y

abbrev Told : Type 0 → Type 0
Told A = A ⊎ (A → ⊥)

record With {X : Type 0} {Y : Type 0} (P : X → Y → Type 0) (x : X) (ys : List Y) : Type 0 where
  pub j : ℕ
  pub y : Y
  pub second : slice_get ys j ≡ Some y
  pub is : P x y

none_more : {X Y : Type 0} (P : X → Y → Type 0) (x : X) (y : Y) (ys : List Y) → (P x y → ⊥) → (With P x ys → ⊥) → (j : ℕ) (v : Y)
    → slice_get (y ∷ ys) j ≡ Some v → P x v → ⊥
none_more P x y ys here there zero v at p = let q : Some y ≡ Some v = at in let e : y ≡ v = cc in here (subst_back P x y v e p)
  where
    subst_back : {X Y : Type 0} (P : X → Y → Type 0) (x : X) (y v : Y) → y ≡ v → P x v → P x y
    subst_back P x y v e p = subst (λ u. P x u) (sym e) p
none_more P x y ys here there (suc j) v at p = there (record { j = j; y = v; second = at; is = p })

one_row : {X Y : Type 0} (P : X → Y → Type 0) → ((x : X) (y : Y) → Told (P x y)) → (x : X) (ys : List Y) → Told (With P x ys)
one_row P dec x [] = inr (λ w. absurd (let q : None ≡ Some w.y = w.second in cc))
one_row P dec x (y ∷ ys) = by (dec x y) (one_row P dec x ys)
  where
    by : Told (P x y) → Told (With P x ys) → Told (With P x (y ∷ ys))
    by (inl p) rest = inl (record { j = 0; y = y; second = refl; is = p })
    by (inr here) (inl w) = inl (record { j = w.j + 1; y = w.y; second = rw (add-one) w.second; is = w.is })
    by (inr here) (inr there) = inr (λ w. none_more P x y ys here there w.j w.y w.second w.is)

no_pair : {X Y : Type 0} (P : X → Y → Type 0) (x : X) (xs : List X) (ys : List Y) → (With P x ys → ⊥) → (Pair P xs ys → ⊥) → (i j : ℕ) (v : X)
    (y : Y) → slice_get (x ∷ xs) i ≡ Some v → slice_get ys j ≡ Some y → P v y → ⊥
no_pair P x xs ys here there zero j v y at second p =
    let q : Some x ≡ Some v = at in let e : x ≡ v = cc in
    here (record { j = j; y = y; second = second; is = subst (λ u. P u y) (sym e) p })
no_pair P x xs ys here there (suc i) j v y at second p =
    there (record { i = i; j = j; x = v; y = y; first = at; second = second; is = p })

some_pair : {X Y : Type 0} (P : X → Y → Type 0) → ((x : X) (y : Y) → Told (P x y)) → (xs : List X) (ys : List Y) → Told (Pair P xs ys)
some_pair P dec [] ys = inr (λ w. absurd (let q : None ≡ Some w.x = w.first in cc))
some_pair P dec (x ∷ xs) ys = by (one_row P dec x ys) (some_pair P dec xs ys)
  where
    by : Told (With P x ys) → Told (Pair P xs ys) → Told (Pair P (x ∷ xs) ys)
    by (inl w) rest = inl (record { i = 0; j = w.j; x = x; y = w.y; first = refl; second = w.second; is = w.is })
    by (inr here) (inl w) =
        inl (record { i = w.i + 1; j = w.j; x = w.x; y = w.y; first = rw (add-one) w.first; second = w.second; is = w.is })
    by (inr here) (inr there) = inr (λ w. no_pair P x xs ys here there w.i w.j w.x w.y w.first w.second w.is)

-- ---- two lists of bytes

bytes_told : (x y : List ℕ) (b : Bool) → bytes_eq x y ≡ b → Told (x ≡ y)
bytes_told x y true e = inl ((bytes_eq-Decides x y).0 e)
bytes_told x y false e = inr (λ s. absurd (let h : true ≡ false = sym ((bytes_eq-Decides x y).1 s) ∙ e in cc))

abbrev Meet : List ℕ → List ℕ → Type 0
Meet x y = (x ≢ y) × (hash x ≡ hash y)

meet_by : (x y : List ℕ) → Told (x ≡ y) → Told (hash x ≡ hash y) → Told (Meet x y)
meet_by x y (inl e) h = inr (λ m. m.0 e)
meet_by x y (inr n) (inl h) = inl (n, h)
meet_by x y (inr n) (inr h) = inr (λ m. h m.1)

meet_told : (x y : List ℕ) → Told (Meet x y)
meet_told x y = meet_by x y (bytes_told x y (bytes_eq x y) refl) (bytes_told (hash x) (hash y) (bytes_eq (hash x) (hash y)) refl)

collide_by : (xs ys : List (List ℕ)) → Told (Pair Meet xs ys) → Told (Collide xs ys)
collide_by xs ys (inl w) =
    inl (record { i = w.i; j = w.j; x = w.x; y = w.y; first = w.first; second = w.second; other = w.is.0; same = w.is.1 })
collide_by xs ys (inr n) =
    inr (λ c. n (record { i = c.i; j = c.j; x = c.x; y = c.y; first = c.first; second = c.second; is = (c.other, c.same) }))

abbrev Hashed : Ending → Ending → Type 0
Hashed e a = Collide (hashed e.transcript) (hashed a.transcript)

hashed_told : (e a : Ending) → Told (Hashed e a)
hashed_told e a = let xs = hashed e.transcript in let ys = hashed a.transcript in collide_by xs ys (some_pair Meet (λ x y. meet_told x y) xs ys)

-- ---- two ends

collided_by : (w : World) → Told (Pair Hashed w.made w.accepted) → Told (HasCollided w)
collided_by w (inl p) = inl (OfEndings p.i p.j p.x p.y p.first p.second p.is)
collided_by w (inr n) = inr (λ c. none n c)
  where
    none : (Pair Hashed w.made w.accepted → ⊥) → HasCollided w → ⊥
    none n (OfEndings i j e a first second is) = n (record { i = i; j = j; x = e; y = a; first = first; second = second; is = is })

pub collided_told : (w : World) → HasCollided w ⊎ (HasCollided w → ⊥)
collided_told w = collided_by w (some_pair Hashed (λ e a. hashed_told e a) w.made w.accepted)
