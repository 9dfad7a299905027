-- The watchers of an operation, as a descending list: the first leaves, one comes in front, one comes behind another.
use Rattle.std.proofs.Common.{◌≡◌, ℕ, ◌<◌, ◌≤◌, arith, ◌⊎◌, inl, inr, sym, ◌∙◌, ap, subst}
use Rattle.base_lists.specs.watch_lists.Watching.{put_watch}
use Rattle.base_lists.specs.watch_lists.Listed.{WatcherLists}

put_nought : (watch : ℕ → ℕ) (x b : ℕ) → 0 < x → watch 0 ≡ 0 → put_watch watch x b 0 ≡ 0
put_nought watch x b h e = grind (arith, e)

two : (a b : ℕ) → (a ≡ b) ⊎ (a ≡ b → ⊥)
two a b = grind arith

put_at : (f : ℕ → ℕ) (k v g : ℕ) → g ≡ k → put_watch f k v g ≡ v
put_at f k v g e = grind (arith, e)

put_off : (f : ℕ → ℕ) (k v g : ℕ) → (g ≡ k → ⊥) → put_watch f k v g ≡ f g
put_off f k v g e = grind (arith, e)

-- the number that leaves watches the one that it leaves
held : (watch first next : ℕ → ℕ) (b x : ℕ) → WatcherLists watch first next → 0 < b → 0 < x → first b ≡ x → watch x ≡ b
held watch first next b x l p q e = subst (λ n. watch n ≡ b) e (l.top_is b p (subst (λ n. 0 < n) (sym e) q))

leaves_low : (watch first next : ℕ → ℕ) (b x h : ℕ) → WatcherLists watch first next → 0 < b → watch x ≡ b → first b ≡ x
    → (h ≡ x → ⊥) → watch h ≡ b → h ≤ next x
leaves_low watch first next b x h l p w e i s =
    let case : (h ≤ next x) ⊎ (next x < h) = grind arith in
    let top : h ≤ first b = l.top b h p s in
    let lower : h < x = grind (arith, e, top, i) in
    elim case [ inl k ↦ k | inr k ↦ absurd (l.below x h (subst (λ n. 0 < n) (sym w) p) k lower (s ∙ sym w)) ]

leaves_top : (watch first next : ℕ → ℕ) (b x : ℕ) → WatcherLists watch first next → 0 < b → watch x ≡ b → first b ≡ x
    → (c h : ℕ) → 0 < c → put_watch watch x 0 h ≡ c → h ≤ put_watch first b (next x) c
leaves_top watch first next b x l p w e c h k s =
    elim (two h x) [
      | inl i ↦ absurd (let z : 0 ≡ c = sym (put_at watch x 0 h i) ∙ s in omega arith)
      | inr i ↦ (
          let t : watch h ≡ c = sym (put_off watch x 0 h i) ∙ s in
          elim (two c b) [
            | inl j ↦ subst (λ n. h ≤ n) (sym (put_at first b (next x) c j)) (leaves_low watch first next b x h l p w e i (t ∙ j))
            | inr j ↦ subst (λ n. h ≤ n) (sym (put_off first b (next x) c j)) (l.top c h k t)
          ]
          )
    ]

leaves_top_is : (watch first next : ℕ → ℕ) (b x : ℕ) → WatcherLists watch first next → 0 < b → watch x ≡ b → (c : ℕ) → 0 < c
    → 0 < put_watch first b (next x) c → put_watch watch x 0 (put_watch first b (next x) c) ≡ c
leaves_top_is watch first next b x l p w c k s =
    let pw : 0 < watch x = subst (λ n. 0 < n) (sym w) p in
    elim (two c b) [
      | inl j ↦ (
          let f = put_at first b (next x) c j in
          let t : 0 < next x = subst (λ n. 0 < n) f s in
          let n : next x ≡ x → ⊥ = (let m = l.lower x pw t in λ z. omega arith) in
          ap (λ z. put_watch watch x 0 z) f ∙ put_off watch x 0 (next x) n ∙ l.below_is x pw t ∙ w ∙ sym j
          )
      | inr j ↦ (
          let f = put_off first b (next x) c j in
          let t : watch (first c) ≡ c = l.top_is c k (subst (λ n. 0 < n) f s) in
          let n : first c ≡ x → ⊥ = λ z. j (sym t ∙ ap watch z ∙ w) in
          ap (λ z. put_watch watch x 0 z) f ∙ put_off watch x 0 (first c) n ∙ t
          )
    ]

leaves_below : (watch next : ℕ → ℕ) (x y h : ℕ) → (0 < watch y → next y < h → h < y → watch h ≡ watch y → ⊥)
    → 0 < put_watch watch x 0 y → next y < h → h < y → put_watch watch x 0 h ≡ put_watch watch x 0 y → ⊥
leaves_below watch next x y h l k s t u =
    elim (two y x) [
      | inl i ↦ (let z = subst (λ n. 0 < n) (put_at watch x 0 y i) k in omega arith)
      | inr i ↦ (
          let v = put_off watch x 0 y i in
          let pos : 0 < watch y = subst (λ n. 0 < n) v k in
          elim (two h x) [
            | inl j ↦ (let z : 0 ≡ watch y = sym (put_at watch x 0 h j) ∙ u ∙ v in omega arith)
            | inr j ↦ l pos s t (sym (put_off watch x 0 h j) ∙ u ∙ v)
          ]
          )
    ]

leaves_below_is : (watch first next : ℕ → ℕ) (b x : ℕ) → WatcherLists watch first next → 0 < b → watch x ≡ b → first b ≡ x
    → (y : ℕ) → 0 < put_watch watch x 0 y → 0 < next y → put_watch watch x 0 (next y) ≡ put_watch watch x 0 y
leaves_below_is watch first next b x l p w e y k s =
    elim (two y x) [
      | inl i ↦ absurd (let z = subst (λ n. 0 < n) (put_at watch x 0 y i) k in omega arith)
      | inr i ↦ (
          let v = put_off watch x 0 y i in
          let pos : 0 < watch y = subst (λ n. 0 < n) v k in
          let is : watch (next y) ≡ watch y = l.below_is y pos s in
          let n : next y ≡ x → ⊥ = λ z. past watch first next b x y l p w e i pos s z is in
          put_off watch x 0 (next y) n ∙ is ∙ sym v
          )
    ]
  where
    past : (watch first next : ℕ → ℕ) (b x y : ℕ) → WatcherLists watch first next → 0 < b → watch x ≡ b → first b ≡ x
        → (y ≡ x → ⊥) → 0 < watch y → 0 < next y → next y ≡ x → watch (next y) ≡ watch y → ⊥
    past watch first next b x y l p w e i pos s z is =
        let t : watch y ≡ b = sym is ∙ ap watch z ∙ w in
        let low : next y < y = l.lower y pos s in
        let top : y ≤ first b = l.top b y p t in omega arith

leaves_lower : (watch first next : ℕ → ℕ) (x : ℕ) → WatcherLists watch first next → (y : ℕ) → 0 < put_watch watch x 0 y
    → 0 < next y → next y < y
leaves_lower watch first next x l y k s =
    elim (two y x) [
      | inl i ↦ absurd (let z = subst (λ n. 0 < n) (put_at watch x 0 y i) k in omega arith)
      | inr i ↦ l.lower y (subst (λ n. 0 < n) (put_off watch x 0 y i) k) s
    ]

pub first_leaves : (watch first next : ℕ → ℕ) (b x : ℕ) → WatcherLists watch first next → 0 < b → 0 < x → first b ≡ x
    → WatcherLists (put_watch watch x 0) (put_watch first b (next x)) next
first_leaves watch first next b x l p q e =
    let w = held watch first next b x l p q e in
    record {
      nought = put_nought watch x 0 q l.nought;
      top = leaves_top watch first next b x l p w e;
      top_is = leaves_top_is watch first next b x l p w;
      below = λ y h. leaves_below watch next x y h (l.below y h);
      below_is = leaves_below_is watch first next b x l p w e;
      lower = leaves_lower watch first next x l;
    }

pub comes_in_front : (watch first next : ℕ → ℕ) (b x : ℕ) → WatcherLists watch first next → 0 < b → watch x ≡ 0 → first b < x
    → WatcherLists (put_watch watch x b) (put_watch first b x) (put_watch next x (first b))
comes_in_front watch first next b x l p w e =
    record {
      nought = put_nought watch x b (omega arith) l.nought;
      top = λ c h k s. grind (arith, l.top c h k, l.top b h);
      top_is = λ c k s. grind (arith, l.top_is c k);
      below = λ y h k s t u. grind (arith, l.below y h, l.top b h, l.top b y);
      below_is = λ y k s. grind (arith, l.below_is y, l.top_is b);
      lower = λ y k s. grind (arith, l.lower y);
    }

which : (z x y : ℕ) → (z ≡ x) ⊎ ((z ≡ y) ⊎ ((z ≡ x → ⊥) × (z ≡ y → ⊥)))
which z x y = grind arith

behind_below : (watch first next : ℕ → ℕ) (b x y : ℕ) → WatcherLists watch first next → 0 < b → watch x ≡ 0 → watch y ≡ b
    → next y < x → x < y → (z h : ℕ) → 0 < put_watch watch x b z → put_watch (put_watch next x (next y)) y x z < h → h < z
    → put_watch watch x b h ≡ put_watch watch x b z → ⊥
behind_below watch first next b x y l p w v e f z h k s t u =
    elim (which z x y) [
      | inl i ↦ grind (arith, l.below y h, i)
      | inr (inl i) ↦ grind (arith, l.below y h, i)
      | inr (inr i) ↦ (
          let a : put_watch watch x b z ≡ watch z = grind (arith, i.0) in
          let n : put_watch (put_watch next x (next y)) y x z ≡ next z = grind (arith, i.0, i.1) in
          between watch next b x y z h v e f (l.below y) (l.below z) i.1 (rw (sym a) k) (rw (sym n) s) t (u ∙ a)
          )
    ]
  where
    between : (watch next : ℕ → ℕ) (b x y z h : ℕ) → watch y ≡ b → next y < x → x < y
        → ((i : ℕ) → 0 < watch y → next y < i → i < y → watch i ≡ watch y → ⊥)
        → ((i : ℕ) → 0 < watch z → next z < i → i < z → watch i ≡ watch z → ⊥) → (z ≡ y → ⊥) → 0 < watch z
        → next z < h → h < z → put_watch watch x b h ≡ watch z → ⊥
    between watch next b x y z h v e f ly lz i k s t u = grind (arith, ly z, lz y, lz h)

behind_below_is : (watch first next : ℕ → ℕ) (b x y : ℕ) → WatcherLists watch first next → 0 < b → watch x ≡ 0 → watch y ≡ b
    → next y < x → x < y → (z : ℕ) → 0 < put_watch watch x b z → 0 < put_watch (put_watch next x (next y)) y x z
    → put_watch watch x b (put_watch (put_watch next x (next y)) y x z) ≡ put_watch watch x b z
behind_below_is watch first next b x y l p w v e f z k s =
    elim (which z x y) [
      | inl i ↦ grind (arith, l.below_is y, i)
      | inr (inl i) ↦ grind (arith, i)
      | inr (inr i) ↦ (
          let a : put_watch watch x b z ≡ watch z = grind (arith, i.0) in
          let n : put_watch (put_watch next x (next y)) y x z ≡ next z = grind (arith, i.0, i.1) in
          let m : watch (next z) ≡ watch z = l.below_is z (rw (sym a) k) (rw (sym n) s) in
          let j : 0 < watch z = rw (sym a) k in
          rw (a, n) (grind (arith, m, j))
          )
    ]

pub comes_behind : (watch first next : ℕ → ℕ) (b x y : ℕ) → WatcherLists watch first next → 0 < b → watch x ≡ 0 → watch y ≡ b
    → next y < x → x < y → WatcherLists (put_watch watch x b) first (put_watch (put_watch next x (next y)) y x)
comes_behind watch first next b x y l p w v e f =
    record {
      nought = put_nought watch x b (omega arith) l.nought;
      top = λ c h k s. grind (arith, l.top c h k, l.top b y);
      top_is = λ c k s. grind (arith, l.top_is c k);
      below = behind_below watch first next b x y l p w v e f;
      below_is = behind_below_is watch first next b x y l p w v e f;
      lower = λ z k s. grind (arith, l.lower z, l.lower y);
    }
