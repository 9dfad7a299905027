use Rattle.std.proofs.Common.{◌≡◌, ◌⊎◌, inl, inr, ◌≢◌, ℕ, ◌+◌, ◌-◌, ◌<◌, ◌≤◌, ◌==◌, min, Bool, true, false, arith, nat_lt}
use Rattle.std.proofs.Common.{List, [], ◌∷◌, ◌++◌, refl, sym, length, get_or, take, drop, ap, None, Some}
use Rattle.std.proofs.Common.{IsSome, is_some, replicate, ◌∙◌, subst}
use Rattle.std.specs.Prelude.{Option}
use Rattle.std.proofs.lemmas.Bool.Decides.{nat_tests}
use Rattle.std.proofs.lemmas.List.{places}
use Rattle.std.proofs.lemmas.Grind.{same_number_lists}
use Rattle.spec_exchange.specs.Content.{is_empty, written, ended}
use Rattle.spec_exchange.proofs.Content.{length-written, get_or-written, length-ended, get_or-ended}
use Rattle.store_files.specs.file_extents.Shown.{Shows, Reaches, Puts, Agrees}

-- what is written over a range doesn't depend on what stood there
pub written-over : (m : ℕ) (d b c : List ℕ) → is_empty d ≡ false → Agrees m (length d) b c → written m d b ≡ written m d c
written-over m d b c e a =
    same_number_lists (written m d b) (written m d c)
    (let l = length-written m d b e in let r = length-written m d c e in let s = a.len in grind arith)
    (λ k l. let x = get_or-written m d b k e in let y = get_or-written m d c k e in let s = a.before k in let t = a.behind k in
    grind (arith, nat_tests))

pub take-next : (c out new : List ℕ) (at i r : ℕ) → at ≤ i → i ≤ r → out ≡ take (i - at) (drop at c)
    → new ≡ out ++ take (r - i) (drop i c) → r ≤ length c → new ≡ take (r - at) (drop at c)
take-next c out new at i r l m e h n = h ∙ rw e (same_number_lists (take (i - at) (drop at c) ++ take (r - i) (drop i c))
    (take (r - at) (drop at c)) (grind (arith, places)) (λ k o. grind (arith, places)))

pub take-some : (c : List ℕ) (at count len : ℕ) → length c ≡ len → take (min count (len - at)) (drop at c) ≡ take count (drop at c)
take-some c at count len e = same_number_lists (take (min count (len - at)) (drop at c)) (take count (drop at c)) (grind (arith, places))
    (λ k o. grind (arith, places))

module _ {X : Type 0} (items : X → List ℕ) where
  -- where a piece of the new map comes from
  from : (f g : ℕ → Option X) (m k : ℕ) (d p : X) (b : Bool) → (k == m) ≡ b → Puts items f g m (Some d) → g k ≡ Some p
      → ((k ≡ m) × (p ≡ d)) ⊎ ((k ≢ m) × (f k ≡ Some p))
  from f g m k d p true e u h = let o : k ≡ m = grind (arith, nat_tests) in inl (o, (let a = u.there in let w = ap g o in cc))
  from f g m k d p false e u h = let o : k ≢ m = grind (arith, nat_tests) in inr (o, (let a = u.else k o in cc))

  from_some : (f g : ℕ → Option X) (m k : ℕ) (d : X) (b : Bool) → (k == m) ≡ b → Puts items f g m (Some d) → IsSome (g k)
      → (k ≡ m) ⊎ ((k ≢ m) × IsSome (f k))
  from_some f g m k d true e u h = let o : k ≡ m = grind (arith, nat_tests) in inl o
  from_some f g m k d false e u h = let o : k ≢ m = grind (arith, nat_tests) in inr (o, (let a = u.else k o in cc))

  module _ (f g : ℕ → Option X) (m : ℕ) (d : X) (c : List ℕ) (u : Puts items f g m (Some d)) (e : is_empty (items d) ≡ false)
      (before : (k : ℕ) (p : X) → f k ≡ Some p → k ≤ m → k + length (items p) ≤ m + length (items d))
      (clear : (k : ℕ) (p : X) → f k ≡ Some p → k < m → k + length (items p) ≤ m)
      (behind : (k : ℕ) → IsSome (f k) → m < k → m + length (items d) ≤ k) (s : Shows items f c) where
    fill-fits : (k : ℕ) (p : X) (j : ℕ) → ((k ≡ m) × (p ≡ d)) ⊎ ((k ≢ m) × (f k ≡ Some p)) → j < length (items p)
        → k + j < length (written m (items d) c)
    fill-fits k p j (inl (a, b)) i = let l = length-written m (items d) c e in let w = ap (λ x. length (items x)) b in grind arith
    fill-fits k p j (inr (a, b)) i = let l = length-written m (items d) c e in let w = s.fits k p j b i in grind arith

    fill-apart : (k : ℕ) (p : X) (n : ℕ) → ((k ≡ m) × (p ≡ d)) ⊎ ((k ≢ m) × (f k ≡ Some p)) → (n ≡ m) ⊎ ((n ≢ m) × IsSome (f n)) → k < n
        → k + length (items p) ≤ n
    fill-apart k p n (inl (a, b)) (inl x) l = omega (arith, a, x, l)
    fill-apart k p n (inl (a, b)) (inr (x, y)) l = let w = ap (λ x. length (items x)) b in let z = behind n y in
        omega (arith, w, a, l, z (omega (arith, a, l)))
    fill-apart k p n (inr (a, b)) (inl x) l = let z = clear k p b (omega (arith, x, l)) in omega (arith, z, x)
    fill-apart k p n (inr (a, b)) (inr (x, y)) l = s.apart k p n b y l

    fill-bytes : (k : ℕ) (p : X) (j : ℕ) → ((k ≡ m) × (p ≡ d)) ⊎ ((k ≢ m) × (f k ≡ Some p)) → j < length (items p)
        → get_or (written m (items d) c) (k + j) 0 ≡ get_or (items p) j 0
    fill-bytes k p j (inl (a, b)) l = let w = ap items b in let y = get_or-written m (items d) c (k + j) e in
        let o : (k + j) - m ≡ j = omega (arith, a) in grind (arith, nat_tests)
    fill-bytes k p j (inr (a, b)) l = let y = get_or-written m (items d) c (k + j) e in let q = s.bytes k p j b l in
        let z = clear k p b in let v = behind k (ap (λ o. is_some o) b) in grind (arith, nat_tests)

    old-end : (i : ℕ) → ((k : ℕ) (p : X) → g k ≡ Some p → k ≤ i → k + length (items p) ≤ i) → (k : ℕ) (p : X) (b : Bool) → (k == m) ≡ b
        → f k ≡ Some p → k ≤ i → k + length (items p) ≤ i
    old-end i h k p true o a l = let q : k ≡ m = grind (arith, nat_tests) in let w = before k p a (omega (arith, q)) in
        let v = h m d u.there (omega (arith, q, l)) in omega (arith, w, v)
    old-end i h k p false o a l = let q : k ≢ m = grind (arith, nat_tests) in h k p (u.else k q ∙ a) l

    fill-gaps : (i : ℕ) → ((k : ℕ) (p : X) → g k ≡ Some p → k ≤ i → k + length (items p) ≤ i) → get_or (written m (items d) c) i 0 ≡ 0
    fill-gaps i h =
        let y = get_or-written m (items d) c i e in
        let o : m ≤ i → m + length (items d) ≤ i = h m d u.there in
        let z : get_or c i 0 ≡ 0 = s.gaps i (λ k p. old-end i h k p (k == m) refl) in
        grind (arith, nat_tests)

    -- a piece put where nothing but what it covers lies
    pub shows-fill : Shows items g (written m (items d) c)
    shows-fill = record {
      fits = λ k p j h. fill-fits k p j (from f g m k d p (k == m) refl u h);
      apart = λ k p n h i. fill-apart k p n (from f g m k d p (k == m) refl u h) (from_some f g m n d (n == m) refl u i);
      bytes = λ k p j h. fill-bytes k p j (from f g m k d p (k == m) refl u h);
      gaps = fill-gaps;
    }

  -- a piece changed in its place, or cut: the content b is as c outside the old piece, has the new piece and then zeros
  module _ (f g : ℕ → Option X) (m : ℕ) (d o : X) (c b : List ℕ) (u : Puts items f g m (Some d)) (was : f m ≡ Some o)
      (less : length (items d) ≤ length (items o))
      (agrees : Agrees m (length (items o)) b c)
      (new : (j : ℕ) → j < length (items d) → get_or b (m + j) 0 ≡ get_or (items d) j 0)
      (zeros : (i : ℕ) → m + length (items d) ≤ i → i < m + length (items o) → get_or b i 0 ≡ 0) (s : Shows items f c) where
    swap-fits : (k : ℕ) (p : X) (j : ℕ) → ((k ≡ m) × (p ≡ d)) ⊎ ((k ≢ m) × (f k ≡ Some p)) → j < length (items p) → k + j < length b
    swap-fits k p j (inl (a, e)) i = let l = agrees.len in let w = ap (λ x. length (items x)) e in
        let v = s.fits m o j was (omega (arith, w, less, i)) in omega (arith, l, v, a)
    swap-fits k p j (inr (a, e)) i = let l = agrees.len in let v = s.fits k p j e i in omega (arith, l, v)

    swap-apart : (k : ℕ) (p : X) (n : ℕ) → ((k ≡ m) × (p ≡ d)) ⊎ ((k ≢ m) × (f k ≡ Some p)) → (n ≡ m) ⊎ ((n ≢ m) × IsSome (f n)) → k < n
        → k + length (items p) ≤ n
    swap-apart k p n (inl (a, e)) (inl x) l = omega (arith, a, x, l)
    swap-apart k p n (inl (a, e)) (inr (x, y)) l = let w = ap (λ x. length (items x)) e in
        let z = s.apart m o n was y (omega (arith, a, l)) in omega (arith, w, a, less, z)
    swap-apart k p n (inr (a, e)) (inl x) l = let z = s.apart k p m e (ap (λ v. is_some v) was) (omega (arith, x, l)) in omega (arith, z, x)
    swap-apart k p n (inr (a, e)) (inr (x, y)) l = s.apart k p n e y l

    swap-bytes : (k : ℕ) (p : X) (j : ℕ) → ((k ≡ m) × (p ≡ d)) ⊎ ((k ≢ m) × (f k ≡ Some p)) → j < length (items p)
        → get_or b (k + j) 0 ≡ get_or (items p) j 0
    swap-bytes k p j (inl (a, e)) l = rw (a, e) (new j (subst (λ x. j < length (items x)) e l))
    swap-bytes k p j (inr (a, e)) l =
        let q = s.bytes k p j e l in
        let x = s.apart k p m e (ap (λ v. is_some v) was) in
        let y = s.apart m o k was (ap (λ v. is_some v) e) in
        let v = agrees.before (k + j) in
        let w = agrees.behind (k + j) in grind arith

    swap-end : (i : ℕ) → ((k : ℕ) (p : X) → g k ≡ Some p → k ≤ i → k + length (items p) ≤ i) → (m ≤ i → m + length (items o) ≤ i)
        → (k : ℕ) (p : X) (t : Bool) → (k == m) ≡ t → f k ≡ Some p → k ≤ i → k + length (items p) ≤ i
    swap-end i h y k p true e a l = let q : k ≡ m = grind (arith, nat_tests) in let w : p ≡ o = (let z = ap f q in cc) in
        let z = ap (λ x. length (items x)) w in let v = y (omega (arith, q, l)) in omega (arith, v, z, q)
    swap-end i h y k p false e a l = let q : k ≢ m = grind (arith, nat_tests) in h k p (u.else k q ∙ a) l

    swap-gap : (i : ℕ) → ((k : ℕ) (p : X) → g k ≡ Some p → k ≤ i → k + length (items p) ≤ i) → (t : Bool) → (nat_lt i m) ≡ t → (w : Bool)
        → nat_lt i (m + length (items o)) ≡ w → get_or b i 0 ≡ 0
    swap-gap i h true e w x = let l : i < m = grind (arith, nat_tests) in
        agrees.before i l ∙ s.gaps i (λ k p. swap-end i h (λ y. omega (arith, l, y)) k p (k == m) refl)
    swap-gap i h false e true x = zeros i (h m d u.there (grind (arith, nat_tests))) (grind (arith, nat_tests))
    swap-gap i h false e false x = let l : m + length (items o) ≤ i = grind (arith, nat_tests) in
        agrees.behind i l ∙ s.gaps i (λ k p. swap-end i h (λ y. l) k p (k == m) refl)

    pub shows-swap : Shows items g b
    shows-swap = record {
      fits = λ k p j h. swap-fits k p j (from f g m k d p (k == m) refl u h);
      apart = λ k p n h i. swap-apart k p n (from f g m k d p (k == m) refl u h) (from_some f g m n d (n == m) refl u i);
      bytes = λ k p j h. swap-bytes k p j (from f g m k d p (k == m) refl u h);
      gaps = λ i h. swap-gap i h (nat_lt i m) refl (nat_lt i (m + length (items o))) refl;
    }

  -- what a piece has of a range
  pub shows-slice : (f : ℕ → Option X) (c : List ℕ) (k : ℕ) (p : X) (off count : ℕ) → Shows items f c → f k ≡ Some p
      → off + count ≤ length (items p) → take count (drop off (items p)) ≡ take count (drop (k + off) c)
  shows-slice f c k p off count s e l = same_number_lists (take count (drop off (items p))) (take count (drop (k + off) c))
      (let v = s.fits k p (off + count - 1) e in grind (arith, places))
      (λ j i. let y = s.bytes k p (off + j) e in let v = s.fits k p (off + j) e in grind (arith, places))

  ends-before : (f : ℕ → Option X) (at count j : ℕ) → ((k : ℕ) (p : X) → f k ≡ Some p → k ≤ at → k + length (items p) ≤ at)
      → ((k : ℕ) → IsSome (f k) → at < k → at + count ≤ k) → j < count
      → (k : ℕ) (p : X) (b : Bool) → nat_lt at k ≡ b → f k ≡ Some p → k ≤ at + j → k + length (items p) ≤ at + j
  ends-before f at count j h n l k p true e a i = let o : at < k = grind (arith, nat_tests) in let w = n k (ap (λ v. is_some v) a) o in
      omega (arith, w, l, i)
  ends-before f at count j h n l k p false e a i = let o : k ≤ at = grind (arith, nat_tests) in let w = h k p a o in omega (arith, w)

  -- what a gap has
  pub shows-gap : (f : ℕ → Option X) (c : List ℕ) (at count : ℕ) → Shows items f c
      → ((k : ℕ) (p : X) → f k ≡ Some p → k ≤ at → k + length (items p) ≤ at) → ((k : ℕ) → IsSome (f k) → at < k → at + count ≤ k)
      → at + count ≤ length c → take count (drop at c) ≡ replicate count 0
  shows-gap f c at count s h n l = same_number_lists (take count (drop at c)) (replicate count 0)
      (grind (arith, places))
      (λ j i. let o : j < count = grind (arith, places) in let y : get_or c (at + j) 0 ≡ 0 =
      s.gaps (at + j) (λ k p. ends-before f at count j h n o k p (nat_lt at k) refl) in grind (arith, places))

  -- an empty piece names nothing
  module _ (f g : ℕ → Option X) (m : ℕ) (d : X) (c : List ℕ) (u : Puts items f g m (Some d)) (e : length (items d) ≡ 0) (none : f m ≡ None)
      (before : (k : ℕ) (p : X) → f k ≡ Some p → k ≤ m → k + length (items p) ≤ m) (s : Shows items f c) where
    mark-fits : (k : ℕ) (p : X) (j : ℕ) → ((k ≡ m) × (p ≡ d)) ⊎ ((k ≢ m) × (f k ≡ Some p)) → j < length (items p) → k + j < length c
    mark-fits k p j (inl (a, b)) i = let w = ap (λ x. length (items x)) b in omega (arith, w, e, i)
    mark-fits k p j (inr (a, b)) i = s.fits k p j b i

    mark-apart : (k : ℕ) (p : X) (n : ℕ) → ((k ≡ m) × (p ≡ d)) ⊎ ((k ≢ m) × (f k ≡ Some p)) → (n ≡ m) ⊎ ((n ≢ m) × IsSome (f n)) → k < n
        → k + length (items p) ≤ n
    mark-apart k p n (inl (a, b)) x l = let w = ap (λ x. length (items x)) b in omega (arith, w, e, l)
    mark-apart k p n (inr (a, b)) (inl x) l = let z = before k p b (omega (arith, x, l)) in omega (arith, z, x)
    mark-apart k p n (inr (a, b)) (inr (x, y)) l = s.apart k p n b y l

    mark-bytes : (k : ℕ) (p : X) (j : ℕ) → ((k ≡ m) × (p ≡ d)) ⊎ ((k ≢ m) × (f k ≡ Some p)) → j < length (items p)
        → get_or c (k + j) 0 ≡ get_or (items p) j 0
    mark-bytes k p j (inl (a, b)) i = let w = ap (λ x. length (items x)) b in absurd (omega (arith, w, e, i))
    mark-bytes k p j (inr (a, b)) i = s.bytes k p j b i

    mark-end : (i : ℕ) → ((k : ℕ) (p : X) → g k ≡ Some p → k ≤ i → k + length (items p) ≤ i) → (k : ℕ) (p : X) (b : Bool) → (k == m) ≡ b
        → f k ≡ Some p → k ≤ i → k + length (items p) ≤ i
    mark-end i h k p true o a l = let q : k ≡ m = grind (arith, nat_tests) in absurd (let w = ap f q in cc)
    mark-end i h k p false o a l = let q : k ≢ m = grind (arith, nat_tests) in h k p (u.else k q ∙ a) l

    pub shows-mark : Shows items g c
    shows-mark = record {
      fits = λ k p j h. mark-fits k p j (from f g m k d p (k == m) refl u h);
      apart = λ k p n h i. mark-apart k p n (from f g m k d p (k == m) refl u h) (from_some f g m n d (n == m) refl u i);
      bytes = λ k p j h. mark-bytes k p j (from f g m k d p (k == m) refl u h);
      gaps = λ i h. s.gaps i (λ k p. mark-end i h k p (k == m) refl);
    }

  -- the same pieces stand for the bytes with another end, where none lies behind it
  pub shows-ended : (f : ℕ → Option X) (c : List ℕ) (n : ℕ) → ((k : ℕ) (p : X) → f k ≡ Some p → k + length (items p) ≤ n)
      → Shows items f c → Shows items f (ended n c)
  shows-ended f c n h s = record {
    fits = λ k p j e i. let l = length-ended n c in let w = h k p e in omega (arith, l, w, i);
    apart = s.apart;
    bytes = λ k p j e i. let l = get_or-ended n c (k + j) in let w = h k p e in let v = s.bytes k p j e i in grind (arith, nat_tests);
    gaps = λ i e. let l = get_or-ended n c i in let v = s.gaps i e in grind (arith, nat_tests);
  }

  -- where the last piece before a place ends before it, each does
  pub floor-clear : (f : ℕ → Option X) (c : List ℕ) (at k : ℕ) (p : X) → Shows items f c → f k ≡ Some p
      → ((q : ℕ) → q ≤ at → IsSome (f q) → q ≤ k) → k + length (items p) ≤ at
      → (q : ℕ) (o : X) (b : Bool) → (q == k) ≡ b → f q ≡ Some o → q ≤ at → q + length (items o) ≤ at
  floor-clear f c at k p s e last l q o true t a i = let x : q ≡ k = grind (arith, nat_tests) in let w : o ≡ p = (let z = ap f x in cc) in
      let v = ap (λ x. length (items x)) w in omega (arith, x, v, l)
  floor-clear f c at k p s e last l q o false t a i = let x : q ≢ k = grind (arith, nat_tests) in
      let y = last q i (ap (λ v. is_some v) a) in let z = s.apart q o k a (ap (λ v. is_some v) e) (omega (arith, x, y)) in
      omega (arith, z, l, y)

  pub shows-part : (f : ℕ → Option X) (c : List ℕ) (k : ℕ) (p : X) (at count x y off : ℕ) (old new t : List ℕ) → Shows items f c
      → f k ≡ Some p → k ≤ at → off ≡ at - k → off + count ≤ length (items p) → x ≡ count → y ≡ count → t ≡ items p
      → new ≡ old ++ take x (drop off t) → new ≡ old ++ take y (drop at c)
  shows-part f c k p at count x y off old new t s e l o m ex ey et h =
      let w = shows-slice f c k p off count s e m in
      let z : k + off ≡ at = omega (arith, o, l) in
      h ∙ rw (ex, ey, et, w, z) refl

  pub reaches-ended : (f : ℕ → Option X) (c : List ℕ) (n : ℕ) → Shows items f c → Reaches items f (ended n c)
  reaches-ended f c n s = record {
    apart = s.apart;
    bytes = λ k p j e i l. let y = get_or-ended n c (k + j) in let w = length-ended n c in let v = s.bytes k p j e i in
        grind (arith, nat_tests);
    gaps = λ i e. let l = get_or-ended n c i in let v = s.gaps i e in grind (arith, nat_tests);
  }

  pub reaches-fitting : (f : ℕ → Option X) (c : List ℕ) → ((k : ℕ) (p : X) → f k ≡ Some p → k + length (items p) ≤ length c)
      → Reaches items f c → Shows items f c
  reaches-fitting f c h s = record {
    fits = λ k p j e i. let w = h k p e in omega (arith, w, i);
    apart = s.apart;
    bytes = λ k p j e i. s.bytes k p j e i (let w = h k p e in omega (arith, w, i));
    gaps = s.gaps;
  }

  -- a piece taken away that begins at the end or behind it
  module _ (f g : ℕ → Option X) (m : ℕ) (c : List ℕ) (u : Puts items f g m None) (past : length c ≤ m) (s : Reaches items f c) where
    stays : (k : ℕ) (p : X) (b : Bool) → (k == m) ≡ b → g k ≡ Some p → f k ≡ Some p
    stays k p true e h = absurd (let q : k ≡ m = grind (arith, nat_tests) in let a = u.there in let w = ap g q in cc)
    stays k p false e h = let q : k ≢ m = grind (arith, nat_tests) in sym (u.else k q) ∙ h

    stays_some : (k : ℕ) (b : Bool) → (k == m) ≡ b → IsSome (g k) → IsSome (f k)
    stays_some k true e h = absurd (let q : k ≡ m = grind (arith, nat_tests) in let a = u.there in let w = ap g q in cc)
    stays_some k false e h = let q : k ≢ m = grind (arith, nat_tests) in let a = u.else k q in cc

    gone-gaps : (i : ℕ) → ((k : ℕ) (p : X) → g k ≡ Some p → k ≤ i → k + length (items p) ≤ i) → (b : Bool) → nat_lt i (length c) ≡ b
        → get_or c i 0 ≡ 0
    gone-gaps i h true e = s.gaps i (λ k p a l. h k p (u.else k
        (let v : i < length c = grind (arith, nat_tests) in omega (arith, v, l, past)) ∙ a) l)
    gone-gaps i h false e = let v : length c ≤ i = grind (arith, nat_tests) in grind (arith, places)

    pub reaches-remove : Reaches items g c
    reaches-remove = record {
      apart = λ k p n a b. s.apart k p n (stays k p (k == m) refl a) (stays_some n (n == m) refl b);
      bytes = λ k p j a. s.bytes k p j (stays k p (k == m) refl a);
      gaps = λ i h. gone-gaps i h (nat_lt i (length c)) refl;
    }

  -- a piece cut where the end is
  module _ (f g : ℕ → Option X) (m : ℕ) (o d : X) (c : List ℕ) (u : Puts items f g m (Some d)) (was : f m ≡ Some o)
      (is : items d ≡ take (length c - m) (items o)) (s : Reaches items f c) where
    trim-apart : (k : ℕ) (p : X) (n : ℕ) → ((k ≡ m) × (p ≡ d)) ⊎ ((k ≢ m) × (f k ≡ Some p)) → (n ≡ m) ⊎ ((n ≢ m) × IsSome (f n)) → k < n
        → k + length (items p) ≤ n
    trim-apart k p n (inl (a, e)) (inl x) l = omega (arith, a, x, l)
    trim-apart k p n (inl (a, e)) (inr (x, y)) l = let w = ap (λ x. length (items x)) e in let v = ap (λ x. length x) is in
        let z = s.apart m o n was y (omega (arith, a, l)) in grind (arith, places)
    trim-apart k p n (inr (a, e)) (inl x) l = let z = s.apart k p m e (ap (λ v. is_some v) was) (omega (arith, x, l)) in omega (arith, z, x)
    trim-apart k p n (inr (a, e)) (inr (x, y)) l = s.apart k p n e y l

    trim-bytes : (k : ℕ) (p : X) (j : ℕ) → ((k ≡ m) × (p ≡ d)) ⊎ ((k ≢ m) × (f k ≡ Some p)) → j < length (items p) → k + j < length c
        → get_or c (k + j) 0 ≡ get_or (items p) j 0
    trim-bytes k p j (inl (a, e)) l i = let w : items p ≡ take (length c - m) (items o) = ap items e ∙ is in let v = s.bytes m o j was in
        let n = ap (λ x. length x) w in rw (a, w) (grind (arith, places))
    trim-bytes k p j (inr (a, e)) l i = s.bytes k p j e l i

    trim-end : (i : ℕ) → i < length c → ((k : ℕ) (p : X) → g k ≡ Some p → k ≤ i → k + length (items p) ≤ i) → (k : ℕ) (p : X) (t : Bool)
        → (k == m) ≡ t → f k ≡ Some p → k ≤ i → k + length (items p) ≤ i
    trim-end i j h k p true e a l = let q : k ≡ m = grind (arith, nat_tests) in let w : p ≡ o = (let z = ap f q in cc) in
        let z = ap (λ x. length (items x)) w in let n = ap (λ x. length x) is in let v = h m d u.there (omega (arith, q, l)) in
        grind (arith, places)
    trim-end i j h k p false e a l = let q : k ≢ m = grind (arith, nat_tests) in h k p (u.else k q ∙ a) l

    trim-gaps : (i : ℕ) → ((k : ℕ) (p : X) → g k ≡ Some p → k ≤ i → k + length (items p) ≤ i) → (b : Bool) → nat_lt i (length c) ≡ b
        → get_or c i 0 ≡ 0
    trim-gaps i h true e = let v : i < length c = grind (arith, nat_tests) in s.gaps i (λ k p. trim-end i v h k p (k == m) refl)
    trim-gaps i h false e = let v : length c ≤ i = grind (arith, nat_tests) in grind (arith, places)

    pub reaches-trim : Reaches items g c
    reaches-trim = record {
      apart = λ k p n h i. trim-apart k p n (from f g m k d p (k == m) refl u h) (from_some f g m n d (n == m) refl u i);
      bytes = λ k p j h. trim-bytes k p j (from f g m k d p (k == m) refl u h);
      gaps = λ i h. trim-gaps i h (nat_lt i (length c)) refl;
    }

  pub trim-fits : (f g : ℕ → Option X) (m : ℕ) (o d : X) (c : List ℕ) → f m ≡ Some o → items d ≡ take (length c - m) (items o)
      → m ≤ length c → ((q : ℕ) → IsSome (f q) → q ≤ m) → Reaches items f c
      → (k : ℕ) (p : X) → ((k ≡ m) × (p ≡ d)) ⊎ ((k ≢ m) × (f k ≡ Some p)) → k + length (items p) ≤ length c
  trim-fits f g m o d c was is l last s k p (inl (a, e)) = let w = ap (λ x. length (items x)) e in let n = ap (λ x. length x) is in
      grind (arith, places)
  trim-fits f g m o d c was is l last s k p (inr (a, e)) = let y = last k (ap (λ v. is_some v) e) in
      let z = s.apart k p m e (ap (λ v. is_some v) was) (omega (arith, a, y)) in omega (arith, z, l)

  pub shows-trim : (f g : ℕ → Option X) (m : ℕ) (o d : X) (c : List ℕ) → Puts items f g m (Some d) → f m ≡ Some o
      → items d ≡ take (length c - m) (items o) → m ≤ length c → ((q : ℕ) → IsSome (f q) → q ≤ m) → Reaches items f c → Shows items g c
  shows-trim f g m o d c u was is l last s = reaches-fitting g c
      (λ k p h. trim-fits f g m o d c was is l last s k p (from f g m k d p (k == m) refl u h)) (reaches-trim f g m o d c u was is s)

  full : (d : List ℕ) → 0 < length d → is_empty d ≡ false
  unfolding is_empty
  full [] l = absurd (omega (arith, l))
  full (x ∷ xs) l = refl

  -- bytes put into a piece in its place
  module _ (f g : ℕ → Option X) (m off : ℕ) (o n : X) (d c : List ℕ) (u : Puts items f g m (Some n)) (was : f m ≡ Some o)
      (is : items n ≡ take off (items o) ++ (d ++ drop (off + length d) (items o))) (inside : off + length d ≤ length (items o))
      (some : 0 < length d) (s : Shows items f c) where
    put-length : length (items n) ≡ length (items o)
    put-length = let w = ap (λ x. length x) is in grind (arith, places)

    put-agrees : Agrees m (length (items o)) (written (m + off) d c) c
    put-agrees = record {
      len = let v = s.fits m o (off + length d - 1) was (omega (arith, inside, some)) in
          let w = length-written (m + off) d c (full d some) in grind arith;
      before = λ i l. let w = get_or-written (m + off) d c i (full d some) in grind (arith, nat_tests);
      behind = λ i l. let w = get_or-written (m + off) d c i (full d some) in grind (arith, nat_tests);
    }

    put-new : (j : ℕ) → j < length (items n) → get_or (written (m + off) d c) (m + j) 0 ≡ get_or (items n) j 0
    put-new j l = let w = get_or-written (m + off) d c (m + j) (full d some) in
        let v = s.bytes m o j was (let z = put-length in omega (arith, l, z)) in
        let e : (m + j) - (m + off) ≡ j - off = omega arith in rw is (grind (arith, nat_tests, places))

    pub shows-put : Shows items g (written (m + off) d c)
    shows-put = shows-swap f g m n o c (written (m + off) d c) u was (let z = put-length in omega (arith, z)) put-agrees put-new
        (λ i a b. absurd (let z = put-length in omega (arith, z, a, b))) s

  -- a piece taken away: zeros in its place
  module _ (f g : ℕ → Option X) (m : ℕ) (o : X) (c b : List ℕ) (u : Puts items f g m None) (was : f m ≡ Some o)
      (agrees : Agrees m (length (items o)) b c) (zeros : (i : ℕ) → m ≤ i → i < m + length (items o) → get_or b i 0 ≡ 0)
      (s : Shows items f c) where
    rest : (k : ℕ) (p : X) (t : Bool) → (k == m) ≡ t → g k ≡ Some p → (k ≢ m) × (f k ≡ Some p)
    rest k p true e h = absurd (let q : k ≡ m = grind (arith, nat_tests) in let a = u.there in let w = ap g q in cc)
    rest k p false e h = let q : k ≢ m = grind (arith, nat_tests) in (q, sym (u.else k q) ∙ h)

    rest_some : (k : ℕ) (t : Bool) → (k == m) ≡ t → IsSome (g k) → IsSome (f k)
    rest_some k true e h = absurd (let q : k ≡ m = grind (arith, nat_tests) in let a = u.there in let w = ap g q in cc)
    rest_some k false e h = let q : k ≢ m = grind (arith, nat_tests) in let a = u.else k q in cc

    drop-bytes : (k : ℕ) (p : X) (j : ℕ) → (k ≢ m) × (f k ≡ Some p) → j < length (items p) → get_or b (k + j) 0 ≡ get_or (items p) j 0
    drop-bytes k p j (a, e) l =
        let q = s.bytes k p j e l in
        let x = s.apart k p m e (ap (λ v. is_some v) was) in
        let y = s.apart m o k was (ap (λ v. is_some v) e) in
        let v = agrees.before (k + j) in
        let w = agrees.behind (k + j) in grind arith

    drop-end : (i : ℕ) → ((k : ℕ) (p : X) → g k ≡ Some p → k ≤ i → k + length (items p) ≤ i) → (m ≤ i → m + length (items o) ≤ i)
        → (k : ℕ) (p : X) (t : Bool) → (k == m) ≡ t → f k ≡ Some p → k ≤ i → k + length (items p) ≤ i
    drop-end i h y k p true e a l = let q : k ≡ m = grind (arith, nat_tests) in let w : p ≡ o = (let z = ap f q in cc) in
        let z = ap (λ x. length (items x)) w in let v = y (omega (arith, q, l)) in omega (arith, v, z, q)
    drop-end i h y k p false e a l = let q : k ≢ m = grind (arith, nat_tests) in h k p (u.else k q ∙ a) l

    drop-gap : (i : ℕ) → ((k : ℕ) (p : X) → g k ≡ Some p → k ≤ i → k + length (items p) ≤ i) → (t : Bool) → (nat_lt i m) ≡ t → (w : Bool)
        → nat_lt i (m + length (items o)) ≡ w → get_or b i 0 ≡ 0
    drop-gap i h true e w x = let l : i < m = grind (arith, nat_tests) in
        agrees.before i l ∙ s.gaps i (λ k p. drop-end i h (λ y. omega (arith, l, y)) k p (k == m) refl)
    drop-gap i h false e true x = zeros i (grind (arith, nat_tests)) (grind (arith, nat_tests))
    drop-gap i h false e false x = let l : m + length (items o) ≤ i = grind (arith, nat_tests) in
        agrees.behind i l ∙ s.gaps i (λ k p. drop-end i h (λ y. l) k p (k == m) refl)

    pub shows-drop : Shows items g b
    shows-drop = record {
      fits = λ k p j h i. let e = rest k p (k == m) refl h in let l = agrees.len in let v = s.fits k p j e.1 i in omega (arith, l, v);
      apart = λ k p n h i. s.apart k p n (rest k p (k == m) refl h).1 (rest_some n (n == m) refl i);
      bytes = λ k p j h. drop-bytes k p j (rest k p (k == m) refl h);
      gaps = λ i h. drop-gap i h (nat_lt i m) refl (nat_lt i (m + length (items o))) refl;
    }

  -- the bytes without those of a piece
  without : ℕ → ℕ → List ℕ → List ℕ
  without m n c = take m c ++ (replicate (min n (length c - m)) 0 ++ drop (m + n) c)

  without-agrees : (m n : ℕ) (c : List ℕ) → Agrees m n (take m c ++ (replicate (min n (length c - m)) 0 ++ drop (m + n) c)) c
  without-agrees m n c = record {
    len = grind (arith, places);
    before = λ i l. grind (arith, places);
    behind =
        λ i l. grind (arith, places);
  }

  without-zeros : (m n i : ℕ) (c : List ℕ) → m ≤ i → i < m + n
      → get_or (take m c ++ (replicate (min n (length c - m)) 0 ++ drop (m + n) c)) i 0 ≡ 0
  without-zeros m n i c l e = grind (arith, places)

  -- and of a wider range
  widen : (m n k r : ℕ) (a b c : List ℕ) → k ≤ m → m + n ≤ k + r → Agrees m n a b → Agrees k r b c → Agrees k r a c
  widen m n k r a b c l e x y = record {
    len = x.len ∙ y.len;
    before = λ i h. x.before i (omega (arith, h, l)) ∙ y.before i h;
    behind =
        λ i h. x.behind i (omega (arith, h, e)) ∙ y.behind i h;
  }

  pub drop-inside : (f g : ℕ → Option X) (m : ℕ) (o : X) (k r : ℕ) (b c : List ℕ) → Puts items f g m None → f m ≡ Some o → k ≤ m
      → m + length (items o) ≤ k + r → Agrees k r b c → Shows items f b → (a : List ℕ) × Agrees k r a c × Shows items g a
  drop-inside f g m o k r b c u was l e y s =
      let a : List ℕ = take m b ++ (replicate (min (length (items o)) (length b - m)) 0 ++ drop (m + length (items o)) b) in (
        take m b ++ (replicate (min (length (items o)) (length b - m)) 0 ++ drop (m + length (items o)) b),
        widen m (length (items o)) k r _ b c l e (without-agrees m (length (items o)) b) y,
        shows-drop f g m o b _ u was (without-agrees m (length (items o)) b) (λ i. without-zeros m (length (items o)) i b) s,
      )

-- a write in two parts
pub written-append : (m : ℕ) (d e c : List ℕ) → is_empty d ≡ false → is_empty e ≡ false → is_empty (d ++ e) ≡ false
    → written (m + length d) e (written m d c) ≡ written m (d ++ e) c
written-append m d e c x y z = same_number_lists (written (m + length d) e (written m d c)) (written m (d ++ e) c)
    (let a = length-written (m + length d) e (written m d c) y in let b = length-written m d c x in
    let q = length-written m (d ++ e) c z in grind (arith, places))
    (λ k l. let a = get_or-written (m + length d) e (written m d c) k y in let b = get_or-written m d c k x in
    let q = get_or-written m (d ++ e) c k z in let o : k - (m + length d) ≡ k - m - length d = omega arith in
    grind (arith, places, nat_tests))

module _ {X : Type 0} (items : X → List ℕ) where
  pub drop-some : (f g : ℕ → Option X) (m k r : ℕ) (b c : List ℕ) (w : Option X) → f m ≡ w → IsSome w → Puts items f g m None → k ≤ m
      → ((p : X) → f m ≡ Some p → m + length (items p) ≤ k + r) → Agrees k r b c → Shows items f b → (a : List ℕ) × Agrees k r a c
      × Shows items g a
  drop-some f g m k r b c (Some o) e i u l h y s = drop-inside items f g m o k r b c u e l (h o e) y s
  drop-some f g m k r b c None e i u l h y s = absurd (cc)
