-- A step down a chain, and a link that skips a settled one.
use Rattle.std.proofs.Common.{◌≡◌, ℕ, ◌<◌, ◌≤◌, ◌-◌, Bool, true, false, List, length, set, refl, ap, sym, ◌∙◌}
use Rattle.std.proofs.Common.{arith, subst, ◌⊎◌, inl, inr}
use Rattle.std.proofs.lemmas.Grind.{common_steps}
use Rattle.std.proofs.lemmas.List.{get_or-set_same, get_or-set_other}
use Rattle.spec_exchange.specs.Table.{put}
use Rattle.client_rows.specs.declared.operation_rows.row.Row.{Row}
use Rattle.client_rows.specs.declared.operation_rows.chains.Chain.{Chain}
use Rattle.client_rows.specs.declared.operation_rows.chains.Chain.TheVariants as chains
use Rattle.client_rows.specs.operation_rows.Rows.{row_at, no_row, stands, link_of, with_link, links}
use Rattle.client_rows.specs.operation_rows.Chains.{Descends, Chained, Reaches, SameBut}

-- ---- over columns

three : (x y : ℕ) → (x < y) ⊎ ((x ≡ y) ⊎ (y < x))
three x y = grind arith

two : (x y : ℕ) → (x ≡ y) ⊎ (x ≡ y → ⊥)
two x y = grind arith

pub positive : (x : ℕ) → (x ≡ 0 → ⊥) → 0 < x
positive x h = elim (three x 0) as (λ _. 0 < x) [ inl l ↦ absurd (omega arith) | inr (inl e) ↦ absurd (h e) | inr (inr l) ↦ l ]

pub put_at : {X : Type 0} (f : ℕ → X) (k : ℕ) (v : X) (g : ℕ) → g ≡ k → put f k v g ≡ v
put_at f k v g e = grind arith

pub put_off : {X : Type 0} (f : ℕ → X) (k : ℕ) (v : X) (g : ℕ) → (g ≡ k → ⊥) → put f k v g ≡ f g
put_off f k v g e = grind arith

pub reaches_itself : (on : ℕ → ℕ → Bool) (unsettled : ℕ → Bool) (from : ℕ) → Reaches on unsettled from from
reaches_itself on unsettled from = record {
  passed = λ h a b e. absurd (omega arith);
  left = λ a. absurd (omega arith);
  same = λ p h. refl;
  is = λ p a. absurd (omega arith);
}

-- one that is settled is passed
pub reaches_next : (link : ℕ → ℕ) (on : ℕ → ℕ → Bool) (unsettled : ℕ → Bool) (from at : ℕ) → Descends link → Chained link on unsettled
    → Reaches on unsettled from at → at ≤ from → 0 < at → unsettled at ≡ false → Reaches on unsettled from (link at)
reaches_next link on unsettled from at d c r below above settled =
    record {
      passed = λ h a b e. (
          elim (three h at) [
            | inl l ↦ c.gap at h a l (r.same above h ∙ e)
            | inr (inl l) ↦ ap unsettled l ∙ settled
            | inr (inr l) ↦ r.passed h l b e
          ]
          );
      left = λ a. (
          elim (three at from) [
            | inl l ↦ r.left l
            | inr (inl l) ↦ ap unsettled (sym l) ∙ settled
            | inr (inr l) ↦ absurd (omega arith)
          ]
          );
      same = λ p h. c.same at p h ∙ r.same above h;
      is = λ p a. sym (r.same above (link at)) ∙ c.is at p;
    }

pub skipped : (link : ℕ → ℕ) (on : ℕ → ℕ → Bool) (unsettled : ℕ → Bool) (at next : ℕ) → Descends link → Chained link on unsettled
    → link at ≡ next → 0 < next → unsettled next ≡ false → Chained (put link at (link next)) on unsettled
skipped link on unsettled at next d c e p settled =
    let q : 0 < link at = subst (λ n. 0 < n) (sym e) p in
    let on_next : (h : ℕ) → on h next ≡ on h at = λ h. subst (λ n. on h n ≡ on h at) e (c.same at q h) in
    record {
      gap = λ g h a b o. (
          elim (two g at) [
            | inl i ↦ (
                let a' : link next < h = subst (λ n. n < h) (put_at link at (link next) g i) a in
                let b' : h < at = subst (λ n. h < n) i b in
                let o' : on h at ≡ true = ap (λ n. on h n) (sym i) ∙ o in
                elim (three h next) [
                  | inl l ↦ c.gap next h a' l (on_next h ∙ o')
                  | inr (inl l) ↦ ap unsettled l ∙ settled
                  | inr (inr l) ↦ c.gap at h (subst (λ n. n < h) (sym e) l) b' o'
                ]
                )
            | inr i ↦ c.gap g h (subst (λ n. n < h) (put_off link at (link next) g i) a) b o
          ]
          );
      same = λ g k h. (
          elim (two g at) [
            | inl i ↦ (
                let v = put_at link at (link next) g i in
                ap (λ n. on h n) v ∙ c.same next (subst (λ n. 0 < n) v k) h ∙ on_next h ∙ ap (λ n. on h n) (sym i)
                )
            | inr i ↦ (let v = put_off link at (link next) g i in ap (λ n. on h n) v ∙ c.same g (subst (λ n. 0 < n) v k) h)
          ]
          );
      is = λ g k. (
          elim (two g at) as (λ _. on (put link at (link next) g) g ≡ true) [
            | inl i ↦ (
                let v = put_at link at (link next) g i in
                let p' : 0 < link next = subst (λ n. 0 < n) v k in
                (λ t. on (v t) (i t)) ∙ sym (on_next (link next)) ∙ c.is next p'
                )
            | inr i ↦ (let v = put_off link at (link next) g i in ap (λ n. on n g) v ∙ c.is g (subst (λ n. 0 < n) v k))
          ]
          );
    }

pub lower_still : (link : ℕ → ℕ) (at next : ℕ) → Descends link → link at ≡ next → Descends (put link at (link next))
lower_still link at next d e g =
    let a = d at in
    let b = d next in
    elim (two g at) [
      | inl i ↦ subst (λ n. n ≤ g - 1) (sym (put_at link at (link next) g i)) (omega arith)
      | inr i ↦ subst (λ n. n ≤ g - 1) (sym (put_off link at (link next) g i)) (d g)
    ]

-- ---- over rows

pub told_link : (chain : Chain) (r : Row) (n : ℕ) → link_of chain (with_link chain r n) ≡ n
told_link chains.All r n = refl
told_link chains.Changes r n = refl
told_link chains.Filled r n = refl
told_link chains.Dear r n = refl

pub own_link : (chain : Chain) (r : Row) → with_link chain r (link_of chain r) ≡ r
own_link chains.All r = refl
own_link chains.Changes r = refl
own_link chains.Filled r = refl
own_link chains.Dear r = refl

pub twice_linked : (chain : Chain) (r : Row) (m n : ℕ) → with_link chain (with_link chain r m) n ≡ with_link chain r n
twice_linked chains.All r m n = refl
twice_linked chains.Changes r m n = refl
twice_linked chains.Filled r m n = refl
twice_linked chains.Dear r m n = refl

pub same_stands : (chain : Chain) (r : Row) (n : ℕ) → (with_link chain r n).unsettled ≡ r.unsettled
same_stands chains.All r n = refl
same_stands chains.Changes r n = refl
same_stands chains.Filled r n = refl
same_stands chains.Dear r n = refl

-- the rows with another link at one
abbrev pub relink : Chain → List Row → ℕ → ℕ → List Row
relink chain rows at n = set rows at (with_link chain (row_at rows at) n)

pub row_here : (rows : List Row) (at : ℕ) (r : Row) (g : ℕ) → at < length rows → g ≡ at → row_at (set rows at r) g ≡ r
row_here rows at r g h e = rw (e, get_or-set_same rows at r no_row h) refl

pub row_there : (rows : List Row) (at : ℕ) (r : Row) (g : ℕ) → (g ≡ at → ⊥) → row_at (set rows at r) g ≡ row_at rows g
row_there rows at r g e = get_or-set_other rows at g r no_row e

pub count_same : (rows : List Row) (at : ℕ) (r : Row) → length (set rows at r) ≡ length rows
count_same rows at r = grind (arith, common_steps)

links_at : (chain : Chain) (rows : List Row) (at n g : ℕ) → at < length rows → links chain (relink chain rows at n) g
    ≡ put (links chain rows) at n g
links_at chain rows at n g h =
    elim (two g at) [
      | inl e ↦ ap (λ r. link_of chain r) (row_here rows at (with_link chain (row_at rows at) n) g h e) ∙ told_link chain (row_at rows at) n
          ∙ sym (put_at (links chain rows) at n g e)
      | inr e ↦ ap (λ r. link_of chain r) (row_there rows at (with_link chain (row_at rows at) n) g e)
          ∙ sym (put_off (links chain rows) at n g e)
    ]

pub links_relinked : (chain : Chain) (rows : List Row) (at n : ℕ) → at < length rows
    → links chain (relink chain rows at n) ≡ put (links chain rows) at n
links_relinked chain rows at n h = λ t g. (links_at chain rows at n g h) t

pub same_itself : (chain : Chain) (rows : List Row) → SameBut chain rows rows
same_itself chain rows = record { count = refl; row = λ g. sym (own_link chain (row_at rows g)) }

pub same_stays : (chain : Chain) (old rows : List Row) → SameBut chain old rows → stands rows ≡ stands old
same_stays chain old rows s = λ t g. (at chain old rows s g) t
  where
    at : (chain : Chain) (old rows : List Row) → SameBut chain old rows → (g : ℕ) → stands rows g ≡ stands old g
    at chain old rows s g = ap (λ (r : Row). r.unsettled) (s.row g) ∙ same_stands chain (row_at old g) (links chain rows g)

pub same_relinked : (chain : Chain) (old rows : List Row) (at n : ℕ) → at < length rows → SameBut chain old rows
    → SameBut chain old (relink chain rows at n)
same_relinked chain old rows at n h s =
    record {
      count = count_same rows at (with_link chain (row_at rows at) n) ∙ s.count;
      row = λ g. (
          elim (two g at) as (λ _. row_at (relink chain rows at n) g ≡ with_link chain (row_at old g)
          (links chain (relink chain rows at n) g)) [
            | inl e ↦ (
                let v = row_here rows at (with_link chain (row_at rows at) n) g h e in
                v ∙ ap (λ r. with_link chain r n) (ap (λ i. row_at rows i) (sym e) ∙ s.row g)
                ∙ twice_linked chain (row_at old g) (links chain rows g) n
                ∙ ap (λ i. with_link chain (row_at old g) i) (sym (ap (λ r. link_of chain r) v ∙ told_link chain (row_at rows at) n))
                )
            | inr e ↦ (
                let v = row_there rows at (with_link chain (row_at rows at) n) g e in
                v ∙ s.row g ∙ ap (λ i. with_link chain (row_at old g) i) (sym (ap (λ r. link_of chain r) v))
                )
          ]
          );
    }

-- ---- one step of the walk

pub record Walks (chain : Chain) (old rows : List Row) (from at : ℕ) : Type 0 where
  pub below : at ≤ from
  pub within : from < length rows
  pub same : SameBut chain old rows
  pub descends : Descends (links chain rows)
  pub reaches : (on : ℕ → ℕ → Bool) → Chained (links chain old) on (stands old) → Reaches on (stands old) from at
  pub chained : (on : ℕ → ℕ → Bool) → Chained (links chain old) on (stands old) → Chained (links chain rows) on (stands old)

pub walk_begins : (chain : Chain) (rows : List Row) (from : ℕ) → from < length rows → Descends (links chain rows)
    → Walks chain rows rows from from
walk_begins chain rows from h d =
    record {
      below = omega arith;
      within = h;
      same = same_itself chain rows;
      descends = d;
      reaches = λ on c. reaches_itself on (stands rows) from;
      chained = λ on c. c;
    }

pub settled_of : (chain : Chain) (old rows : List Row) (g : ℕ) (b : Bool) → SameBut chain old rows
    → (row_at rows g).unsettled ≡ b → stands old g ≡ b
settled_of chain old rows g b s e = sym (ap (λ (f : ℕ → Bool). f g) (same_stays chain old rows s)) ∙ e

-- to the next one
pub walk_next : (chain : Chain) (old rows : List Row) (from at : ℕ) → Walks chain old rows from at → 0 < at
    → (row_at rows at).unsettled ≡ false
    → Walks chain old rows from (links chain rows at)
walk_next chain old rows from at w p e =
    let d = w.descends at in
    let b = w.below in
    record {
      below = omega arith;
      within = w.within;
      same = w.same;
      descends = w.descends;
      reaches = λ on c. reaches_next (links chain rows) on (stands old) from at w.descends (w.chained on c)
          (w.reaches on c) w.below p (settled_of chain old rows at false w.same e);
      chained = w.chained;
    }

-- and on to the one behind it, with a link that skips it
pub walk_skips : (chain : Chain) (old rows : List Row) (from at next : ℕ) → Walks chain old rows from at → 0 < at
    → (row_at rows at).unsettled ≡ false → links chain rows at ≡ next → 0 < next
    → (row_at rows next).unsettled ≡ false → Walks chain old (relink chain rows at (links chain rows next)) from (links chain rows next)
walk_skips chain old rows from at next w p e l q f =
    let n = links chain rows next in
    let b = w.below in
    let i = w.within in
    let h : at < length rows = omega arith in
    let v = links_relinked chain rows at n h in
    let one = walk_next chain old rows from at w p e in
    let two : Walks chain old rows from next = subst (λ k. Walks chain old rows from k) l one in
    let three = walk_next chain old rows from next two q f in
    record {
      below = three.below;
      within = subst (λ k. from < k) (sym (count_same rows at (with_link chain (row_at rows at) n))) w.within;
      same = same_relinked chain old rows at n h w.same;
      descends = subst (λ (k : ℕ → ℕ). Descends k) (sym v) (lower_still (links chain rows) at next w.descends l);
      reaches = three.reaches;
      chained = λ on c. subst (λ (k : ℕ → ℕ). Chained k on (stands old)) (sym v)
          (skipped (links chain rows) on (stands old) at next w.descends (w.chained on c) l q
          (settled_of chain old rows next false w.same f));
    }

pub walk_smaller : (chain : Chain) (old rows : List Row) (from at next : ℕ) → Walks chain old rows from at → 0 < at
    → links chain rows at ≡ next → 0 < next → links chain rows next < at
walk_smaller chain old rows from at next w p l q = let a = w.descends at in let b = w.descends next in omega arith

-- what the walk leaves
pub chained_new : (chain : Chain) (old rows : List Row) (from at : ℕ) → Walks chain old rows from at
    → (on : ℕ → ℕ → Bool) → Chained (links chain old) on (stands old) → Chained (links chain rows) on (stands rows)
chained_new chain old rows from at w on c = subst (λ (f : ℕ → Bool). Chained (links chain rows) on f)
    (sym (same_stays chain old rows w.same)) (w.chained on c)
