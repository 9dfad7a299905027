-- Rows of sessions behind small steps.
use Rattle.std.proofs.Common.{◌≡◌, ℕ, ◌+◌, ◌==◌, Bool, true, false, Option, Some, is_some, refl, sym, ap, subst, ◌∙◌}
use Rattle.std.proofs.Common.{arith, eqb-true, nat_eq, IsSome}
use Rattle.std.specs.HashMap.{HashMap, get, Updates}
use Rattle.std.specs.BTreeSet.{BTreeSet, contains}
use Rattle.std.specs.Ordering.{nat_cmp}
use Rattle.spec_exchange.specs.Table.{put, put2}
use Rattle.store_opens.specs.declared.open_index.keep.SessionOpens.{SessionOpens}
use Rattle.store_opens.specs.open_index.Keep.{SessionIs, SessionShown, SessionsGrow, SessionsCount, ClosesGuid, RefusesGuid}
use Rattle.store_opens.specs.open_index.Keep.{SessionsUnlist, keep_lists, lists_plain, keep_names, one_more, closed_with}

pub grows_same : (rows : ℕ → Option SessionOpens) → SessionsGrow rows rows
grows_same rows = record { shown = λ q c r g h. h; listed = λ q o h. h; plain = λ q o h. h; named = λ q g h. h }

pub grows_then : (a b c : ℕ → Option SessionOpens) → SessionsGrow a b → SessionsGrow b c → SessionsGrow a c
grows_then a b c f g =
    record {
      shown = λ q x r n h. g.shown q x r n (f.shown q x r n h);
      listed = λ q o h. g.listed q o (f.listed q o h);
      plain = λ q o h. g.plain q o (f.plain q o h);
      named = λ q x h. g.named q x (f.named q x h);
    }

-- rows that are the same but at one key, where the new one shows as much
pub grows_at : (a b : ℕ → Option SessionOpens) (x : ℕ) → ((q : ℕ) → (q == x) ≡ false → b q ≡ a q)
    → ((c : ℕ → Bool) (r : ℕ → Option ℕ) (g : ℕ) → SessionShown (a x) c r g → SessionShown (b x) c r g)
    → ((o : ℕ) → keep_lists (a x) o ≡ true → keep_lists (b x) o ≡ true)
    → ((o : ℕ) → lists_plain (a x) o ≡ true → lists_plain (b x) o ≡ true)
    → ((g : ℕ) → keep_names (a x) g ≡ true → keep_names (b x) g ≡ true) → SessionsGrow a b
grows_at a b x same shown listed plain named =
    record {
      shown = λ q c r g. by (λ (v w : Option SessionOpens). SessionShown v c r g → SessionShown w c r g) q (λ v h. h) (shown c r g);
      listed = λ q o. by (λ (v w : Option SessionOpens). keep_lists v o ≡ true → keep_lists w o ≡ true) q (λ v h. h) (listed o);
      plain = λ q o. by (λ (v w : Option SessionOpens). lists_plain v o ≡ true → lists_plain w o ≡ true) q (λ v h. h) (plain o);
      named = λ q g. by (λ (v w : Option SessionOpens). keep_names v g ≡ true → keep_names w g ≡ true) q (λ v h. h) (named g);
    }
  where
    by : (P : Option SessionOpens → Option SessionOpens → Type 0) (q : ℕ) → ((v : Option SessionOpens) → P v v)
        → P (a x) (b x) → P (a q) (b q)
    by P q id here = split (q == x) refl
      where
        split : (t : Bool) → (q == x) ≡ t → P (a q) (b q)
        split true e = subst (λ (z : ℕ). P (a z) (b z)) (sym (eqb-true q x e)) here
        split false e = subst (λ (v : Option SessionOpens). P (a q) v) (sym (same q e)) (id (a q))

-- growth, and then a count at one key
pub count_after : (a b c : ℕ → Option SessionOpens) (f : (ℕ → ℕ) → ℕ → ℕ) → SessionsGrow a b → SessionsCount b c f → SessionsCount a c f
count_after a b c f g h =
    record {
      shown = λ cl r n s x. h.shown cl r n (λ y. g.shown y (cl y) (r y) (n y) (s y)) x;
      listed = λ q o e. h.listed q o (g.listed q o e);
      plain = λ q o e. h.plain q o (g.plain q o e);
      named = λ q x e. h.named q x (g.named q x e);
    }

pub count_none : (a : ℕ → Option SessionOpens) → SessionsCount a a (λ n. n)
count_none a = record { shown = λ cl r n s x. s x; listed = λ q o e. e; plain = λ q o e. e; named = λ q x e. e }

-- ---- a change at one key as one of the whole map

abbrev Others : (ℕ → Option SessionOpens) → (ℕ → Option SessionOpens) → ℕ → Type 0
Others a b x = (q : ℕ) → (q == x) ≡ false → b q ≡ a q

at_key : (a b : ℕ → Option SessionOpens) (x : ℕ) (P : ℕ → Option SessionOpens → Type 0) → Others a b x → P x (b x)
    → ((q : ℕ) → (q == x) ≡ false → P q (a q)) → (q : ℕ) → P q (b q)
at_key a b x P same here there q = by (q == x) refl
  where
    by : (t : Bool) → (q == x) ≡ t → P q (b q)
    by true e = subst (λ (z : ℕ). P z (b z)) (sym (eqb-true q x e)) here
    by false e = subst (λ (v : Option SessionOpens). P q v) (sym (same q e)) (there q e)

put_here : {X : Type 0} (f : ℕ → X) (x : ℕ) (v : X) → put f x v x ≡ v
put_here f x v = grind arith

put_there : {X : Type 0} (f : ℕ → X) (x q : ℕ) (v : X) → (q == x) ≡ false → put f x v q ≡ f q
put_there f x q v e = rw e refl

pub count_at : (a b : ℕ → Option SessionOpens) (x : ℕ) → Others a b x
    → ((c : ℕ → Bool) (r : ℕ → Option ℕ) (g : ℕ) → SessionShown (a x) c r g → SessionShown (b x) c r (g + 1))
    → ((o : ℕ) → keep_lists (b x) o ≡ keep_lists (a x) o) → ((o : ℕ) → lists_plain (b x) o ≡ lists_plain (a x) o)
    → ((g : ℕ) → keep_names (b x) g ≡ keep_names (a x) g) → SessionsCount a b (one_more x)
count_at a b x same here listed plain named =
    record {
      shown = λ c r g h. at_key a b x (λ q v. SessionShown v (c q) (r q) (one_more x g q)) same
          (subst (λ (n : ℕ). SessionShown (b x) (c x) (r x) n) (sym (put_here g x (g x + 1))) (here (c x) (r x) (g x) (h x)))
          (λ q e. subst (λ (n : ℕ). SessionShown (a q) (c q) (r q) n) (sym (put_there g x q (g x + 1) e)) (h q));
      listed = λ q o. at_key a b x (λ q v. keep_lists (a q) o ≡ true → keep_lists v o ≡ true) same (λ e. listed o ∙ e) (λ q e k. k) q;
      plain = λ q o. at_key a b x (λ q v. lists_plain (a q) o ≡ true → lists_plain v o ≡ true) same (λ e. plain o ∙ e) (λ q e k. k) q;
      named = λ q g. at_key a b x (λ q v. keep_names (a q) g ≡ true → keep_names v g ≡ true) same (λ e. named g ∙ e) (λ q e k. k) q;
    }

-- a column of two keys, at one of the first
abbrev row2 : {X : Type 0} → (ℕ → ℕ → X) → ℕ → ℕ → X → ℕ → ℕ → X
row2 f x g v q = put2 f x g v q

put2_here : {X : Type 0} (f : ℕ → ℕ → X) (x g : ℕ) (v : X) → put2 f x g v x ≡ put (f x) g v
put2_here f x g v = λ t h. same h t
  where
    same : (h : ℕ) → put2 f x g v x h ≡ put (f x) g v h
    same h = grind arith

put2_there : {X : Type 0} (f : ℕ → ℕ → X) (x g q : ℕ) (v : X) → (q == x) ≡ false → put2 f x g v q ≡ f q
put2_there f x g q v e = λ t h. same h t
  where
    same : (h : ℕ) → put2 f x g v q h ≡ f q h
    same h = rw e refl

pub refuse_at : (a b : ℕ → Option SessionOpens) (x g status : ℕ) → Others a b x
    → ((c : ℕ → Bool) (r : ℕ → Option ℕ) (n : ℕ) → c g ≡ false → SessionShown (a x) c r n → SessionShown (b x) c (put r g (Some status)) n)
    → ((o : ℕ) → keep_lists (a x) o ≡ true → keep_lists (b x) o ≡ true)
    → ((o : ℕ) → lists_plain (a x) o ≡ true → lists_plain (b x) o ≡ true)
    → ((h : ℕ) → keep_names (a x) h ≡ true → keep_names (b x) h ≡ true) → RefusesGuid a b x g status
refuse_at a b x g status same here listed plain named =
    record {
      shown = λ c r n f h. at_key a b x (λ q v. SessionShown v (c q) (put2 r x g (Some status) q) (n q)) same
          (subst (λ (k : ℕ → Option ℕ). SessionShown (b x) (c x) k (n x)) (sym (put2_here r x g (Some status)))
          (here (c x) (r x) (n x) f (h x)))
          (λ q e. subst (λ (k : ℕ → Option ℕ). SessionShown (a q) (c q) k (n q)) (sym (put2_there r x g q (Some status) e)) (h q));
      listed = λ q o. at_key a b x (λ q v. keep_lists (a q) o ≡ true → keep_lists v o ≡ true) same (listed o) (λ q e k. k) q;
      plain = λ q o. at_key a b x (λ q v. lists_plain (a q) o ≡ true → lists_plain v o ≡ true) same (plain o) (λ q e k. k) q;
      named = λ q h. at_key a b x (λ q v. keep_names (a q) h ≡ true → keep_names v h ≡ true) same (named h) (λ q e k. k) q;
    }

pub close_at : (a b : ℕ → Option SessionOpens) (x g : ℕ) → Others a b x
    → ((c : ℕ → Bool) (r : ℕ → Option ℕ) (n : ℕ) → keep_names (a x) g ≡ true → SessionShown (a x) c r n
    → SessionShown (b x) (put c g true) r n)
    → ((o : ℕ) → keep_lists (b x) o ≡ keep_lists (a x) o) → ((o : ℕ) → lists_plain (b x) o ≡ lists_plain (a x) o)
    → ((h : ℕ) → keep_names (b x) h ≡ keep_names (a x) h) → ClosesGuid a b (Some x) (Some g)
close_at a b x g same here listed plain named =
    record {
      shown = λ c r n f h. at_key a b x (λ q v. SessionShown v (put2 c x g true q) (r q) (n q)) same
          (subst (λ (k : ℕ → Bool). SessionShown (b x) k (r x) (n x)) (sym (put2_here c x g true))
          (here (c x) (r x) (n x) (f x g refl refl) (h x)))
          (λ q e. subst (λ (k : ℕ → Bool). SessionShown (a q) k (r q) (n q)) (sym (put2_there c x g q true e)) (h q));
      listed = λ q o. at_key a b x (λ q v. keep_lists v o ≡ keep_lists (a q) o) same (listed o) (λ q e. refl) q;
      plain = λ q o. at_key a b x (λ q v. lists_plain v o ≡ lists_plain (a q) o) same (plain o) (λ q e. refl) q;
      named = λ q h. at_key a b x (λ q v. keep_names v h ≡ keep_names (a q) h) same (named h) (λ q e. refl) q;
    }

pub close_none : (a : ℕ → Option SessionOpens) (session guid : Option ℕ) → closed_with session guid ≡ (λ c. c) → ClosesGuid a a session guid
close_none a session guid e =
    record {
      shown = λ c r n f h x. subst (λ (k : (ℕ → ℕ → Bool) → ℕ → ℕ → Bool). SessionShown (a x) (k c x) (r x) (n x)) (sym e) (h x);
      listed = λ q o. refl;
      plain = λ q o. refl;
      named = λ q g. refl;
    }

-- ---- an open that is listed no more

pub unlist_none : (a : ℕ → Option SessionOpens) (id : ℕ) → SessionsUnlist a a id
unlist_none a id = record { shown = λ q c r g h. h; listed = λ q o e. refl; plain = λ q o e. refl; named = λ q g. refl }

pub unlist_at : (a b : ℕ → Option SessionOpens) (x id : ℕ) → Others a b x
    → ((c : ℕ → Bool) (r : ℕ → Option ℕ) (g : ℕ) → SessionShown (a x) c r g → SessionShown (b x) c r g)
    → ((o : ℕ) → (o == id) ≡ false → keep_lists (b x) o ≡ keep_lists (a x) o)
    → ((o : ℕ) → (o == id) ≡ false → lists_plain (b x) o ≡ lists_plain (a x) o)
    → ((g : ℕ) → keep_names (b x) g ≡ keep_names (a x) g) → SessionsUnlist a b id
unlist_at a b x id same here listed plain named =
    record {
      shown = λ q c r g. at_key a b x (λ q v. SessionShown (a q) c r g → SessionShown v c r g) same (here c r g) (λ q e k. k) q;
      listed = λ q o. at_key a b x (λ q v. (o == id) ≡ false → keep_lists v o ≡ keep_lists (a q) o) same (listed o) (λ q e k. refl) q;
      plain = λ q o. at_key a b x (λ q v. (o == id) ≡ false → lists_plain v o ≡ lists_plain (a q) o) same (plain o) (λ q e k. refl) q;
      named = λ q g. at_key a b x (λ q v. keep_names v g ≡ keep_names (a q) g) same (named g) (λ q e. refl) q;
    }

-- ---- a row that is changed in place

-- what a write through the place of a row leaves of a map
pub written_row : {S : Type 0} (m n : HashMap ℕ SessionOpens S) (k : ℕ) (r w : SessionOpens) → get nat_eq m k ≡ Some r
    → (IsSome (get nat_eq m k) → Updates nat_eq m n k (Some w))
    → (get nat_eq n k ≡ Some w) × ((q : ℕ) → (q == k) ≡ false → get nat_eq n q ≡ get nat_eq m q)
written_row m n k r w e u = let p = u (subst (λ (v : Option SessionOpens). IsSome v) (sym e) refl) in (p.1, λ q ne. p.2 q (turned q k ne))
  where
    turned : (q k : ℕ) → (q == k) ≡ false → nat_eq k q ≡ false
    turned q k ne = grind arith

pub grows_row : (a b : ℕ → Option SessionOpens) (x : ℕ) (r w : SessionOpens) → a x ≡ Some r → (b x ≡ Some w) × Others a b x
    → ((c : ℕ → Bool) (f : ℕ → Option ℕ) (n : ℕ) → SessionIs r c f n → SessionIs w c f n)
    → ((o : ℕ) → contains nat_cmp r.opens o ≡ true → contains nat_cmp w.opens o ≡ true)
    → ((o : ℕ) → contains nat_cmp r.plain o ≡ true → contains nat_cmp w.plain o ≡ true)
    → ((g : ℕ) → is_some (get nat_eq r.results g) ≡ true → is_some (get nat_eq w.results g) ≡ true) → SessionsGrow a b
grows_row a b x r w ea eb shown listed plain named =
    grows_at a b x eb.1 (λ c f n. rw (ea, eb.0) (shown c f n)) (λ o. rw (ea, eb.0) (listed o))
    (λ o. rw (ea, eb.0) (plain o)) (λ g. rw (ea, eb.0) (named g))

pub count_row : (a b : ℕ → Option SessionOpens) (x : ℕ) (r w : SessionOpens) → a x ≡ Some r → (b x ≡ Some w) × Others a b x
    → ((c : ℕ → Bool) (f : ℕ → Option ℕ) (n : ℕ) → SessionIs r c f n → SessionIs w c f (n + 1))
    → w.results ≡ r.results → w.opens ≡ r.opens → w.plain ≡ r.plain → SessionsCount a b (one_more x)
count_row a b x r w ea eb shown results opens plain =
    count_at a b x eb.1 (λ c f n. rw (ea, eb.0) (shown c f n)) (λ o. rw (ea, eb.0) (ap (λ (v : BTreeSet ℕ). contains nat_cmp v o) opens))
    (λ o. rw (ea, eb.0) (ap (λ (v : BTreeSet ℕ). contains nat_cmp v o) plain))
    (λ g. rw (ea, eb.0) (ap (λ (v : _). is_some (get nat_eq v g)) results))

pub refuse_row : (a b : ℕ → Option SessionOpens) (x g status : ℕ) (r w : SessionOpens) → a x ≡ Some r → (b x ≡ Some w) × Others a b x
    → ((c : ℕ → Bool) (f : ℕ → Option ℕ) (n : ℕ) → c g ≡ false → SessionIs r c f n → SessionIs w c (put f g (Some status)) n)
    → ((h : ℕ) → is_some (get nat_eq r.results h) ≡ true → is_some (get nat_eq w.results h) ≡ true)
    → w.opens ≡ r.opens → w.plain ≡ r.plain → RefusesGuid a b x g status
refuse_row a b x g status r w ea eb shown named opens plain =
    refuse_at a b x g status eb.1 (λ c f n. rw (ea, eb.0) (shown c f n))
    (λ o. rw (ea, eb.0) (λ h. ap (λ (v : BTreeSet ℕ). contains nat_cmp v o) opens ∙ h))
    (λ o. rw (ea, eb.0) (λ h. ap (λ (v : BTreeSet ℕ). contains nat_cmp v o) plain ∙ h)) (λ h. rw (ea, eb.0) (named h))

pub close_row : (a b : Option SessionOpens) (g : ℕ) (r w : SessionOpens) → a ≡ Some r → b ≡ Some w
    → ((c : ℕ → Bool) (f : ℕ → Option ℕ) (n : ℕ) → is_some (get nat_eq r.results g) ≡ true → SessionIs r c f n
    → SessionIs w (put c g true) f n)
    → (c : ℕ → Bool) (f : ℕ → Option ℕ) (n : ℕ) → keep_names a g ≡ true → SessionShown a c f n → SessionShown b (put c g true) f n
close_row a b g r w ea eb shown c f n = rw (ea, eb) (shown c f n)
