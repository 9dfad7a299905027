-- No nonce twice: what the steps of an end keep.
use Rattle.std.proofs.Common.{◌≡◌, ℕ, zero, suc, ◌+◌, ◌==◌, ◌≤◌, ◌<◌, ◌^◌, true, false, if◌then◌else◌, List}
use Rattle.std.proofs.Common.{[], ◌∷◌, ◌++◌, ◌⊎◌, inl, inr, refl, arith, sym, ◌∙◌, ap, subst}
use Rattle.std.proofs.Common.{length, Some, None, slice_get}
use Rattle.spec_exchange.specs.Table.{put}
use Rattle.spec_world.specs.Answering.{Seal}
use Rattle.law_nonces.specs.server_nonces.Numbering.{Sealer, AreOne, ToClient, NonceNumbered}
use Rattle.law_nonces.proofs.negotiation.Tables.{by_key, put_same}

-- an element of a list with one more is an older one, or the new one at the end
at_end : (us : List Seal) (u : Seal) (i : ℕ) (v : Seal) → slice_get (us ++ u ∷ []) i ≡ Some v
    → (slice_get us i ≡ Some v) ⊎ ((i ≡ length us) × (u ≡ v))
at_end [] u zero v h = inr (refl, let q : Some u ≡ Some v = h in cc)
at_end [] u (suc i) v h = absurd (let q : None ≡ Some v = h in cc)
at_end (x ∷ us) u zero v h = inl h
at_end (x ∷ us) u (suc i) v h = shifted (at_end us u i v h)
  where
    shifted : (slice_get us i ≡ Some v) ⊎ ((i ≡ length us) × (u ≡ v)) → (slice_get us i ≡ Some v) ⊎ ((suc i ≡ length (x ∷ us)) × (u ≡ v))
    shifted (inl q) = inl q
    shifted (inr q) = inr (ap suc q.0, q.1)

-- ---- the same ends

pub alike : (us : List Seal) (ends new : ℕ → Sealer) (drawn : ℕ → ℕ) → ((k : ℕ) → new k ≡ ends k)
    → NonceNumbered us ends drawn → NonceNumbered us new drawn
alike us ends new drawn same i =
    record {
      once = i.once;
      below = λ a k u h. subst (λ (e : Sealer). e.is_on ≡ true → u.session ≡ e.session → u.channel ≡ e.channel
          → u.counter < e.counter) (sym (same k)) (i.below a k u h);
      apart = λ j k. subst (λ (e : Sealer). e.is_on ≡ true → (new k).is_on ≡ true → e.session ≡ (new k).session
          → e.channel ≡ (new k).channel → j ≡ k) (sym (same j))
          (subst (λ (e : Sealer). (ends j).is_on ≡ true → e.is_on ≡ true → (ends j).session ≡ e.session
          → (ends j).channel ≡ e.channel → j ≡ k) (sym (same k)) (i.apart j k));
      used = i.used;
      held = λ k. subst (λ (e : Sealer). e.is_on ≡ true → e.channel ≤ drawn e.session) (sym (same k)) (i.held k);
      bounds = i.bounds;
      end_bounds = λ k. subst (λ (e : Sealer). e.is_on ≡ true → e.channel < 2 ^ 16) (sym (same k)) (i.end_bounds k);
    }

-- ---- a message to the server isn't looked at

pub sent_keeps : (us : List Seal) (u : Seal) (ends : ℕ → Sealer) (drawn : ℕ → ℕ) → u.to_server ≡ true
    → NonceNumbered us ends drawn → NonceNumbered (us ++ u ∷ []) ends drawn
sent_keeps us u ends drawn up i =
    record {
      once = λ a b v x h g. i.once a b v x (older a v h) (older b x g);
      below = λ a k v h. i.below a k v (older a v h);
      apart = i.apart;
      used = λ a v h. i.used a v (older a v h);
      held = i.held;
      bounds = λ a v h. i.bounds a v (older a v h);
      end_bounds = i.end_bounds;
    }
  where
    told : (a : ℕ) (v : Seal) → v.to_server ≡ false → (slice_get us a ≡ Some v) ⊎ ((a ≡ length us) × (u ≡ v)) → ToClient us a v
    told a v down (inl h) = (h, down)
    told a v down (inr h) = absurd (let q : u.to_server ≡ v.to_server = ap (λ (x : Seal). x.to_server) h.1 in
        let r : true ≡ false = sym up ∙ q ∙ down in cc)

    older : (a : ℕ) (v : Seal) → ToClient (us ++ u ∷ []) a v → ToClient us a v
    older a v h = told a v h.1 (at_end us u a v h.0)

-- ---- an end seals: the entry is new, and its counter goes on

abbrev pub counted : Sealer → Sealer
counted e = record e { counter = e.counter + 1 }

-- what counting leaves of each end
columns : (ends : ℕ → Sealer) (k j : ℕ) → ((put ends k (counted (ends k)) j).is_on ≡ (ends j).is_on)
    × ((put ends k (counted (ends k)) j).session ≡ (ends j).session) × ((put ends k (counted (ends k)) j).channel
    ≡ (ends j).channel)
columns ends k j = by_key (λ q e. (e.is_on ≡ (ends q).is_on) × (e.session ≡ (ends q).session)
    × (e.channel ≡ (ends q).channel)) ends k (counted (ends k)) (refl, refl, refl) (λ q off. (refl, refl, refl)) j

not_itself : (q k : ℕ) → (q == k) ≡ false → q ≡ k → ⊥
not_itself q k off e = absurd (grind arith)

pub seal_keeps : (us : List Seal) (ends : ℕ → Sealer) (drawn : ℕ → ℕ) (k : ℕ) (u : Seal) → (ends k).is_on ≡ true
    → u.session ≡ (ends k).session → u.channel ≡ (ends k).channel → u.counter ≡ (ends k).counter
    → (ends k).counter < 2 ^ 64 → NonceNumbered us ends drawn → NonceNumbered (us ++ u ∷ []) (put ends k (counted (ends k))) drawn
seal_keeps us ends drawn k u on session channel counter bound i =
    record {
      once = λ a b v x h g same. once v x a b same h.1 g.1 (at_end us u a v h.0) (at_end us u b x g.0);
      below = λ a j v h. by_key (λ q e. e.is_on ≡ true → v.session ≡ e.session → v.channel ≡ e.channel
          → v.counter < e.counter) ends k (counted (ends k))
          (λ o s c. here a v (at_end us u a v h.0) h.1 s c) (λ q off o s c. there a v q off (at_end us u a v h.0) h.1 o s c) j;
      apart = λ a b oa ob s c. (let x = columns ends k a in let y = columns ends k b in i.apart a b (sym x.0 ∙ oa)
          (sym y.0 ∙ ob) (sym x.1 ∙ s ∙ y.1) (sym x.2 ∙ c ∙ y.2));
      used = λ a v h. used a v h.1 (at_end us u a v h.0);
      held = λ j o. (let x = columns ends k j in subst (λ c. c ≤ drawn (put ends k (counted (ends k)) j).session)
          (sym x.2) (subst (λ y. (ends j).channel ≤ drawn y) (sym x.1) (i.held j (sym x.0 ∙ o))));
      bounds = λ a v h. bounds a v h.1 (at_end us u a v h.0);
      end_bounds = λ j o. (let x = columns ends k j in subst (λ c. c < 2 ^ 16) (sym x.2) (i.end_bounds j (sym x.0 ∙ o)));
    }
  where
    -- an older entry isn't the new one
    old : (b : ℕ) (v : Seal) → ToClient us b v → AreOne u v → ⊥
    old b v g same =
        let less = i.below b k v g on (sym same.session ∙ session) (sym same.channel ∙ channel) in
        let c : v.counter ≡ (ends k).counter = sym same.counter ∙ counter in
        absurd (omega (arith, less, c))

    once : (v x : Seal) (a b : ℕ) → AreOne v x → v.to_server ≡ false → x.to_server ≡ false → (slice_get us a ≡ Some v)
        ⊎ ((a ≡ length us) × (u ≡ v)) → (slice_get us b ≡ Some x) ⊎ ((b ≡ length us) × (u ≡ x)) → a ≡ b
    once v x a b same p q (inl h) (inl g) = i.once a b v x (h, p) (g, q) same
    once v x a b same p q (inl h) (inr g) =
        absurd (old a v (h, p) (subst (λ y. AreOne y v) (sym g.1) (record {
          session = sym same.session;
          channel = sym same.channel;
          counter = sym same.counter;
        })))
    once v x a b same p q (inr h) (inl g) = absurd (old b x (g, q) (subst (λ y. AreOne y x) (sym h.1) same))
    once v x a b same p q (inr h) (inr g) = h.0 ∙ sym g.0

    here : (a : ℕ) (v : Seal) → (slice_get us a ≡ Some v) ⊎ ((a ≡ length us) × (u ≡ v)) → v.to_server ≡ false
        → v.session ≡ (ends k).session → v.channel ≡ (ends k).channel → v.counter < (ends k).counter + 1
    here a v (inl h) p s c = let less = i.below a k v (h, p) on s c in omega (arith, less)
    here a v (inr h) p s c = let e : v.counter ≡ (ends k).counter = sym (ap (λ (x : Seal). x.counter) h.1) ∙ counter in omega (arith, e)

    there : (a : ℕ) (v : Seal) (q : ℕ) → (q == k) ≡ false → (slice_get us a ≡ Some v) ⊎ ((a ≡ length us) × (u ≡ v))
        → v.to_server ≡ false → (ends q).is_on ≡ true → v.session ≡ (ends q).session → v.channel ≡ (ends q).channel
        → v.counter < (ends q).counter
    there a v q off (inl h) p o s c = i.below a q v (h, p) o s c
    there a v q off (inr h) p o s c =
        absurd (not_itself q k off (i.apart q k o on (sym s ∙ sym (ap (λ (x : Seal). x.session) h.1) ∙ session)
        (sym c ∙ sym (ap (λ (x : Seal). x.channel) h.1) ∙ channel)))

    used : (a : ℕ) (v : Seal) → v.to_server ≡ false → (slice_get us a ≡ Some v) ⊎ ((a ≡ length us) × (u ≡ v)) → v.channel ≤ drawn v.session
    used a v p (inl h) = i.used a v (h, p)
    used a v p (inr h) = subst (λ (x : Seal). x.channel ≤ drawn x.session) h.1
        (subst (λ c. c ≤ drawn u.session) (sym channel) (subst (λ y. (ends k).channel ≤ drawn y) (sym session)
        (i.held k on)))

    bounds : (a : ℕ) (v : Seal) → v.to_server ≡ false → (slice_get us a ≡ Some v) ⊎ ((a ≡ length us) × (u ≡ v))
        → (v.channel < 2 ^ 16) × (v.counter < 2 ^ 64)
    bounds a v p (inl h) = i.bounds a v (h, p)
    bounds a v p (inr h) = subst (λ (x : Seal). (x.channel < 2 ^ 16) × (x.counter < 2 ^ 64)) h.1
        (subst (λ c. c < 2 ^ 16) (sym channel) (i.end_bounds k on), subst (λ c. c < 2 ^ 64) (sym counter) bound)

-- ---- an end closes, or has no keys any more

-- what is on elsewhere was there
was : (ends : ℕ → Sealer) (k : ℕ) (e : Sealer) (j : ℕ) → e.is_on ≡ false → (put ends k e j).is_on ≡ true → put ends k e j ≡ ends j
was ends k e j off o = elim (j == k) as (λ b. (if b then e else ends j).is_on ≡ true → (if b then e else ends j) ≡ ends j) [
  | true ↦ λ h. absurd (let q : e.is_on ≡ true = h in cc)
  | false ↦ λ h. refl
] o

pub off_keeps : (us : List Seal) (ends : ℕ → Sealer) (drawn : ℕ → ℕ) (k : ℕ) (e : Sealer) → e.is_on ≡ false
    → NonceNumbered us ends drawn → NonceNumbered us (put ends k e) drawn
off_keeps us ends drawn k e off i =
    record {
      once = i.once;
      below = λ a j v h o. (let s = was ends k e j off o in subst (λ (x : Sealer). x.is_on ≡ true → v.session
          ≡ x.session → v.channel ≡ x.channel → v.counter < x.counter) (sym s) (i.below a j v h) o);
      apart = λ a b oa ob. (let x = was ends k e a off oa in let y = was ends k e b off ob in
          subst (λ (z : Sealer). z.session ≡ (put ends k e b).session → z.channel ≡ (put ends k e b).channel → a ≡ b) (sym x)
          (subst (λ (z : Sealer). (ends a).session ≡ z.session → (ends a).channel ≡ z.channel → a ≡ b) (sym y)
          (i.apart a b (ap (λ (z : Sealer). z.is_on) (sym x) ∙ oa) (ap (λ (z : Sealer). z.is_on) (sym y) ∙ ob))));
      used = i.used;
      held = λ j o. (let s = was ends k e j off o in subst (λ (x : Sealer). x.channel ≤ drawn x.session) (sym s)
          (i.held j (ap (λ (z : Sealer). z.is_on) (sym s) ∙ o)));
      bounds = i.bounds;
      end_bounds = λ j o. (let s = was ends k e j off o in subst (λ (x : Sealer). x.channel < 2 ^ 16) (sym s)
          (i.end_bounds j (ap (λ (z : Sealer). z.is_on) (sym s) ∙ o)));
    }

-- ---- an end begins, under a number above all that were drawn in its session

grown : (drawn : ℕ → ℕ) (x n : ℕ) → drawn x < n → (y : ℕ) → drawn y ≤ put drawn x n y
grown drawn x n next = by_key (λ y m. drawn y ≤ m) drawn x n (omega (arith, next)) (λ y off. omega arith)

pub fresh_keeps : (us : List Seal) (ends : ℕ → Sealer) (drawn : ℕ → ℕ) (k : ℕ) (e : Sealer)
    → drawn e.session < e.channel → e.channel < 2 ^ 16 → NonceNumbered us ends drawn
    → NonceNumbered us (put ends k e) (put drawn e.session e.channel)
fresh_keeps us ends drawn k e next bound i =
    record {
      once = i.once;
      below = λ a j v h. by_key (λ q z. z.is_on ≡ true → v.session ≡ z.session → v.channel ≡ z.channel → v.counter < z.counter) ends k e
          (λ o s c. absurd (unused a v h s c)) (λ q off. i.below a q v h) j;
      apart = λ a b. apart a b;
      used = λ a v h. (let c = i.used a v h in let g = grown drawn e.session e.channel next v.session in omega (arith, c, g));
      held = by_key (λ q z. z.is_on ≡ true → z.channel ≤ put drawn e.session e.channel z.session) ends k e
          (λ o. subst (λ m. e.channel ≤ m) (sym (put_same drawn e.session e.channel)) (omega arith))
          (λ q off o. (let c = i.held q o in let g = grown drawn e.session e.channel next (ends q).session in omega (arith, c, g)));
      bounds = i.bounds;
      end_bounds = by_key (λ q z. z.is_on ≡ true → z.channel < 2 ^ 16) ends k e (λ o. bound) (λ q off. i.end_bounds q);
    }
  where
    unused : (a : ℕ) (v : Seal) → ToClient us a v → v.session ≡ e.session → v.channel ≡ e.channel → ⊥
    unused a v h s c =
        let u = i.used a v h in
        let d : drawn v.session ≡ drawn e.session = ap drawn s in
        absurd (omega (arith, u, d, c, next))

    -- another end has another number
    other : (q : ℕ) → (ends q).is_on ≡ true → (ends q).session ≡ e.session → (ends q).channel ≡ e.channel → ⊥
    other q o s c =
        let h = i.held q o in
        let d : drawn (ends q).session ≡ drawn e.session = ap drawn s in
        absurd (omega (arith, h, d, c, next))

    apart : (a b : ℕ) → (put ends k e a).is_on ≡ true → (put ends k e b).is_on ≡ true → (put ends k e a).session
        ≡ (put ends k e b).session → (put ends k e a).channel ≡ (put ends k e b).channel → a ≡ b
    apart a b = by_key (λ j z. z.is_on ≡ true → (put ends k e b).is_on ≡ true → z.session ≡ (put ends k e b).session
        → z.channel ≡ (put ends k e b).channel → j ≡ b) ends k e
        (by_key (λ j z. e.is_on ≡ true → z.is_on ≡ true → e.session ≡ z.session → e.channel ≡ z.channel → k ≡ j) ends k e
        (λ oa ob s c. refl) (λ j off oa ob s c. absurd (other j ob (sym s) (sym c))) b)
        (λ j off. by_key (λ q z. (ends j).is_on ≡ true → z.is_on ≡ true → (ends j).session ≡ z.session
        → (ends j).channel ≡ z.channel → j ≡ q) ends k e
        (λ oa ob s c. absurd (other j oa s c)) (λ q away. i.apart j q) b) a

-- ---- more numbers are drawn

pub grow_keeps : (us : List Seal) (ends : ℕ → Sealer) (drawn more : ℕ → ℕ) → ((x : ℕ) → drawn x ≤ more x)
    → NonceNumbered us ends drawn → NonceNumbered us ends more
grow_keeps us ends drawn more grown i =
    record {
      once = i.once;
      below = i.below;
      apart = i.apart;
      used = λ a u h. (let c = i.used a u h in let g = grown u.session in omega (arith, c, g));
      held = λ k o. (let c = i.held k o in let g = grown (ends k).session in omega (arith, c, g));
      bounds = i.bounds;
      end_bounds = i.end_bounds;
    }

-- ---- every end is off

not_on : (e : Sealer) → e.is_on ≡ false → e.is_on ≡ true → ⊥
not_on e off on = absurd (let q : true ≡ false = sym on ∙ off in cc)

pub all_off_keeps : (us : List Seal) (ends new : ℕ → Sealer) (drawn : ℕ → ℕ) → ((k : ℕ) → (new k).is_on ≡ false)
    → NonceNumbered us ends drawn → NonceNumbered us new drawn
all_off_keeps us ends new drawn off i =
    record {
      once = i.once;
      below = λ a k u h o s c. absurd (not_on (new k) (off k) o);
      apart = λ j k oj ok s c. absurd (not_on (new j) (off j) oj);
      used = i.used;
      held = λ k o. absurd (not_on (new k) (off k) o);
      bounds = i.bounds;
      end_bounds = λ k o. absurd (not_on (new k) (off k) o);
    }
