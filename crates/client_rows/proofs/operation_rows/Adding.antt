-- One row more: all that fits goes on.
use Rattle.std.proofs.Common.{◌≡◌, ℕ, ◌+◌, ◌-◌, ◌<◌, ◌≤◌, ◌==◌, ◌&&◌, Bool, true, false, List}
use Rattle.std.proofs.Common.{[], ◌∷◌, ◌++◌, length, set, get_or}
use Rattle.std.proofs.Common.{refl, ap, sym, ◌∙◌, arith, subst, ◌⊎◌, inl, inr, is_some}
use Rattle.std.proofs.lemmas.Grind.{common_steps}
use Rattle.std.proofs.lemmas.List.{get_or-set_same, get_or-set_other}
use Rattle.client_values.specs.declared.operations.shapes.Kind.{Kind}
use Rattle.client_values.specs.declared.operations.shapes.Kind.TheVariants as kinds
use Rattle.base_lists.specs.declared.watch_lists.Link.{Link as Watch}
use Rattle.base_lists.specs.watch_lists.Listed.{watches}
use Rattle.client_rows.specs.declared.operation_rows.row.Row.{Row}
use Rattle.client_rows.specs.declared.operation_rows.chains.Chain.TheVariants as chains
use Rattle.client_rows.specs.operation_rows.Rows.{row_at, no_row, stands, owner, kind, begins, ends, is_out, costs, links}
use Rattle.client_rows.specs.operation_rows.Chains.{Descends, Chained}
use Rattle.client_rows.specs.operation_rows.Holding.{AreFirst, FitsRows, HoldingHolder, IsEntry, Leads, IsSafe, is_holding_changing, on_by}
use Rattle.client_rows.specs.operation_rows.Holding.{on_chain}
use Rattle.client_rows.specs.operation_rows.Listed.{IsListed}
use Rattle.client_rows.specs.operation_rows.Choosing.{price_of}
use Rattle.client_rows.specs.operation_rows.Moves.{StandsRows}
use Rattle.client_rows.specs.operation_rows.Taking.{IsRowNew, RowJoins}
use Rattle.client_rows.proofs.operation_rows.Holding.{chain_owner, same_of}

two : (x y : ℕ) → (x ≡ y) ⊎ (x ≡ y → ⊥)
two x y = grind arith

three : (x y : ℕ) → (x < y) ⊎ ((x ≡ y) ⊎ (y < x))
three x y = grind arith

-- equal but at n
abbrev Off : {X : Type 0} → (ℕ → X) → (ℕ → X) → ℕ → Type 0
Off f f2 n = (g : ℕ) → (g ≡ n → ⊥) → f2 g ≡ f g

on_same : (o o2 : ℕ → ℕ) (m m2 : ℕ → Bool) (h g h2 g2 : ℕ) → o2 h2 ≡ o h → o2 g2 ≡ o g → m2 h2 ≡ m h → on_by o2 m2 h2 g2 ≡ on_by o m h g
on_same o o2 m m2 h g h2 g2 p q r = λ t. ((p t) == (q t)) && (r t)

nobody : (x y : ℕ) → x ≡ y → 0 < x → y ≡ 0 → ⊥
nobody x y e p z = absurd (omega arith)

-- ---- a chain with one more

module _ (link link2 : ℕ → ℕ) (o o2 : ℕ → ℕ) (m m2 : ℕ → Bool) (u u2 : ℕ → Bool) (n : ℕ) where
  pub chained_more : Off link link2 n → Off o o2 n → Off m m2 n → Off u u2 n → 0 < o2 n → ((g : ℕ) → n < g → o2 g ≡ 0)
      → ((g : ℕ) → n < g → link2 g ≡ 0) → Descends link
      → Chained link (on_by o m) u → RowJoins link2 (on_by o2 m2) u2 n → Chained link2 (on_by o2 m2) u2
  chained_more l a b w p z y d c j =
      record {
        gap = λ g h q k e. (
            elim (two g n) as (λ _. u2 h ≡ false) [
              | inl i ↦ j.gap h (subst (λ x. link2 x < h) i q) (subst (λ x. h < x) i k) (ap (λ x. on_by o2 m2 h x) (sym i) ∙ e)
              | inr i ↦ (
                  elim (two h n) as (λ _. u2 h ≡ false) [
                    | inl f ↦ absurd (nobody (o2 n) (o2 g) (ap o2 (sym f) ∙ same_of (o2 h) (o2 g) (m2 h) e) p (z g (omega arith)))
                    | inr f ↦ w h f ∙ c.gap g h (subst (λ x. x < h) (l g i) q) k
                        (sym (on_same o o2 m m2 h g h g (a h f) (a g i) (b h f)) ∙ e)
                  ]
                  )
            ]
            );
        same = λ g q h. (
            elim (two g n) as (λ _. on_by o2 m2 h (link2 g) ≡ on_by o2 m2 h g) [
              | inl i ↦ subst (λ x. on_by o2 m2 h (link2 x) ≡ on_by o2 m2 h x) (sym i) (j.same (subst (λ x. 0 < link2 x) i q) h)
              | inr i ↦ (let e = owners g i q in λ t. ((o2 h) == (e t)) && m2 h)
            ]
            );
        is = λ g q. (
            elim (two g n) as (λ _. on_by o2 m2 (link2 g) g ≡ true) [
              | inl i ↦ subst (λ x. on_by o2 m2 (link2 x) x ≡ true) (sym i) (j.is (subst (λ x. 0 < link2 x) i q))
              | inr i ↦ (
                  let v = l g i in
                  let x = lower g i q in
                  on_same o o2 m m2 (link g) g (link2 g) g (ap o2 v ∙ a (link g) x) (a g i) (ap m2 v ∙ b (link g) x)
                  ∙ c.is g (subst (λ k. 0 < k) v q)
                  )
            ]
            );
      }
    where
      lower : (g : ℕ) → (g ≡ n → ⊥) → 0 < link2 g → link g ≡ n → ⊥
      lower g i q e =
          let v = l g i in
          let x = d g in
          elim (three g n) as (λ _. ⊥) [
            | inl k ↦ absurd (omega arith)
            | inr (inl k) ↦ i k
            | inr (inr k) ↦ absurd (let f = y g k in omega arith)
          ]

      owners : (g : ℕ) → (g ≡ n → ⊥) → 0 < link2 g → o2 (link2 g) ≡ o2 g
      owners g i q =
          let v = l g i in
          ap o2 v ∙ a (link g) (lower g i q) ∙ same_of (o (link g)) (o g) (m (link g)) (c.is g (subst (λ k. 0 < k) v q)) ∙ sym (a g i)

-- ---- rows with one more

pub at_new : (rows : List Row) (r : Row) → row_at (rows ++ r ∷ []) (length rows) ≡ r
at_new rows r = grind (arith, common_steps)

pub at_old : (rows : List Row) (r : Row) (g : ℕ) → (g ≡ length rows → ⊥) → row_at (rows ++ r ∷ []) g ≡ row_at rows g
at_old rows r g e =
    elim (three g (length rows)) [
      | inl k ↦ grind (arith, common_steps)
      | inr (inl k) ↦ absurd (e k)
      | inr (inr k) ↦ grind (arith, common_steps)
    ]

pub length_more : (rows : List Row) (r : Row) → length (rows ++ r ∷ []) ≡ length rows + 1
length_more rows r = grind (arith, common_steps)

beyond : (rows : List Row) (g : ℕ) → length rows ≤ g → row_at rows g ≡ no_row
beyond rows g l = grind (arith, common_steps)

abbrev off : {X : Type 0} (f : Row → X) (rows : List Row) (r : Row) → Off (λ g. f (row_at rows g))
    (λ g. f (row_at (rows ++ r ∷ []) g)) (length rows)
off f rows r = λ g e. ap f (at_old rows r g e)

none : {X : Type 0} (f : Row → X) (rows : List Row) (r : Row) (g : ℕ) → length rows < g → f (row_at (rows ++ r ∷ []) g) ≡ f no_row
none f rows r g l = ap f (at_old rows r g (λ e. omega arith) ∙ beyond rows g (omega arith))

chain_same : (k : Kind) (o o2 : ℕ → ℕ) (d d2 : ℕ → Kind) (fills : ℕ → Bool) (h g : ℕ) → o2 h ≡ o h → o2 g ≡ o g → d2 h
    ≡ d h → on_chain k o2 d2 fills h g ≡ on_chain k o d fills h g
chain_same kinds.Create o o2 d d2 fills h g p q r = refl
chain_same kinds.Write o o2 d d2 fills h g p q r = refl
chain_same kinds.Read o o2 d d2 fills h g p q r = refl
chain_same kinds.End o o2 d d2 fills h g p q r = λ t. ((p t) == (q t)) && is_holding_changing (r t)
chain_same kinds.Change o o2 d d2 fills h g p q r = λ t. ((p t) == (q t)) && is_holding_changing (r t)
chain_same kinds.Lock o o2 d d2 fills h g p q r = refl
chain_same kinds.Look o o2 d d2 fills h g p q r = λ t. ((p t) == (q t)) && fills h
chain_same kinds.List o o2 d d2 fills h g p q r = refl
chain_same kinds.Close o o2 d d2 fills h g p q r = λ t. ((p t) == (q t)) && true

module _ (holds : ℕ → ℕ → Bool) (fills : ℕ → Bool) (rows : List Row) (r : Row) (holders : List ℕ) where
  abbrev more : List Row
  more = rows ++ r ∷ []

  abbrev n : ℕ
  n = length rows

  owner_off : Off (owner rows) (owner more) n
  owner_off = off (λ (s : Row). s.create) rows r

  kind_off : Off (kind rows) (kind more) n
  kind_off = off (λ (s : Row). s.kind) rows r

  stands_off : Off (stands rows) (stands more) n
  stands_off = off (λ (s : Row). s.unsettled) rows r

  owner_none : (g : ℕ) → n < g → owner more g ≡ 0
  owner_none g l = none (λ (s : Row). s.create) rows r g l

  chain_at : (h g : ℕ) → (h ≡ n → ⊥) → (g ≡ n → ⊥) → on_chain (kind more g) (owner more) (kind more) fills h g
      ≡ on_chain (kind rows g) (owner rows) (kind rows) fills h g
  chain_at h g e f = ap (λ k. on_chain k (owner more) (kind more) fills h g) (kind_off g f) ∙ chain_same (kind rows g)
      (owner rows) (owner more) (kind rows) (kind more) fills h g (owner_off h e) (owner_off g f) (kind_off h e)

  leads_more : (h l : ℕ) → (h ≡ n → ⊥) → (l ≡ n → ⊥) → Leads holds (owner rows) h l → Leads holds (owner more) h l
  leads_more h l e f (inl q) = inl q
  leads_more h l e f (inr q) = inr (q.0, owner_off h e ∙ q.1 ∙ sym (owner_off l f), q.2)

  ends_at : (g : ℕ) → (g ≡ n → ⊥) → ends more g ≡ ends rows g
  ends_at g e = ap (λ (s : Row). s.holders_end) (at_old rows r g e)

  begins_at : (g : ℕ) → (g ≡ n → ⊥) → begins more g ≡ begins rows g
  begins_at g e = ap (λ (s : Row). s.holders) (at_old rows r g e)

  -- a stretch of a row lies below the new one
  entry_old : (g i : ℕ) → FitsRows holds fills rows holders → (g ≡ n → ⊥) → begins rows g ≤ i → i < ends rows g → get_or holders i 0 ≡ n → ⊥
  entry_old g i f e p q z =
      elim (three g n) as (λ _. ⊥) [
        | inl k ↦ absurd (let w = (f.entries g i p q).0 in omega arith)
        | inr (inl k) ↦ e k
        | inr (inr k) ↦ absurd (let w : ends rows g ≡ 0 = ap (λ (s : Row). s.holders_end) (beyond rows g (omega arith)) in omega arith)
      ]

  covered_old : (g h : ℕ) → FitsRows holds fills rows holders → (g ≡ n → ⊥) → (h ≡ n → ⊥) → 0 < h → h < g → owner more h
      ≡ owner more g → holds h g ≡ true
      → (stands more h ≡ false) ⊎ (IsEntry holds (owner more) holders (begins more g) (ends more g) h
      ⊎ (on_chain (kind more g) (owner more) (kind more) fills h g ≡ true))
  covered_old g h f e k p l s w =
      elim (f.covered g h p l (sym (owner_off h k) ∙ s ∙ owner_off g e) w)
      as (λ _. (stands more h ≡ false) ⊎ (IsEntry holds (owner more) holders (begins more g) (ends more g) h
      ⊎ (on_chain (kind more g) (owner more) (kind more) fills h g ≡ true))) [
        | inl q ↦ inl (stands_off h k ∙ q)
        | inr (inl q) ↦ inr (inl (record {
          at = q.at;
          behind = subst (λ x. x ≤ q.at) (sym (begins_at g e)) q.behind;
          within = subst (λ x. q.at < x) (sym (ends_at g e)) q.within;
          leads = leads_more h (get_or holders q.at 0) k (entry_old g q.at f e q.behind q.within) q.leads;
        }))
        | inr (inr q) ↦ inr (inr (chain_at h g k e ∙ q))
      ]

  covered_more : FitsRows holds fills rows holders → IsRowNew holds fills more holders n → (g h : ℕ) → 0 < h → h < g
      → owner more h ≡ owner more g → holds h g ≡ true
      → (stands more h ≡ false) ⊎ (IsEntry holds (owner more) holders (begins more g) (ends more g) h
      ⊎ (on_chain (kind more g) (owner more) (kind more) fills h g ≡ true))
  covered_more f i g h p l s w =
      elim (two g n) as (λ _. (stands more h ≡ false)
      ⊎ (IsEntry holds (owner more) holders (begins more g) (ends more g) h
      ⊎ (on_chain (kind more g) (owner more) (kind more) fills h g ≡ true))) [
        | inl e ↦ (
            subst (λ x. (stands more h ≡ false) ⊎ (IsEntry holds (owner more) holders (begins more x) (ends more x) h
            ⊎ (on_chain (kind more x) (owner more) (kind more) fills h x ≡ true))) (sym e)
            (i.covered h p (subst (λ x. h < x) e l) (s ∙ ap (λ x. owner more x) e) (ap (λ x. holds h x) (sym e) ∙ w))
            )
        | inr e ↦ (
            elim (two h n) as (λ _. (stands more h ≡ false)
            ⊎ (IsEntry holds (owner more) holders (begins more g) (ends more g) h
            ⊎ (on_chain (kind more g) (owner more) (kind more) fills h g ≡ true))) [
              | inl k ↦ absurd (nobody (owner more n) (owner more g) (ap (λ x. owner more x) (sym k) ∙ s) i.owned
                  (owner_none g (omega arith)))
              | inr k ↦ covered_old g h f e k p l s w
            ]
            )
      ]

  own_more : IsSafe rows holders → FitsRows holds fills rows holders → IsRowNew holds fills more holders n → (g : ℕ)
      → owner more (owner more g) ≡ owner more g
  own_more safe f i g =
      elim (two g n) as (λ _. owner more (owner more g) ≡ owner more g) [
        | inl k ↦ subst (λ x. owner more (owner more x) ≡ owner more x) (sym k) i.own
        | inr k ↦ (
            let v = owner_off g k in
            ap (λ x. owner more x) v ∙ owner_off (owner rows g) (apart safe i g k) ∙ f.own g ∙ sym v
            )
      ]
    where
      apart : IsSafe rows holders → IsRowNew holds fills more holders n → (g : ℕ) → (g ≡ n → ⊥) → owner rows g ≡ n → ⊥
      apart safe i g k e =
          let p = i.owned in
          let q = i.within in
          elim (three g n) as (λ _. ⊥) [
            | inl l ↦ absurd (let w = safe.owned g l in omega arith)
            | inr (inl l) ↦ k l
            | inr (inr l) ↦ absurd (let w : owner rows g ≡ 0 = ap (λ (s : Row). s.create) (beyond rows g (omega arith)) in omega arith)
          ]

  pub fits_more : IsSafe rows holders → FitsRows holds fills rows holders → IsRowNew holds fills more holders n
      → FitsRows holds fills more holders
  fits_more safe f i =
      record {
        own = own_more safe f i;
        opens = chained_more (links chains.All rows) (links chains.All more) (owner rows) (owner more) (λ x. true)
            (λ x. true) (stands rows) (stands more) n (off (λ (s : Row). s.lower) rows r) owner_off (λ g e. refl)
            stands_off i.owned owner_none (λ g l. none (λ (s : Row). s.lower) rows r g l) safe.descend.all f.opens
            i.opens;
        changing = chained_more (links chains.Changes rows) (links chains.Changes more) (owner rows) (owner more)
            (λ x. is_holding_changing (kind rows x)) (λ x. is_holding_changing (kind more x)) (stands rows) (stands more) n
            (off (λ (s : Row). s.change) rows r) owner_off (λ g e. ap (λ k. is_holding_changing k) (kind_off g e)) stands_off
            i.owned owner_none (λ g l. none (λ (s : Row). s.change) rows r g l) safe.descend.changes f.changing
            i.changing;
        filling = chained_more (links chains.Filled rows) (links chains.Filled more) (owner rows) (owner more) fills
            fills (stands rows) (stands more) n (off (λ (s : Row). s.filled) rows r) owner_off (λ g e. refl) stands_off
            i.owned owner_none (λ g l. none (λ (s : Row). s.filled) rows r g l) safe.descend.filled f.filling i.filling;
        suits = λ h g l e. (
            elim (two g n) as (λ _. (h ≡ owner more g) ⊎ (holds h g ≡ true)) [
              | inl k ↦ subst (λ x. (h ≡ owner more x) ⊎ (holds h x ≡ true)) (sym k)
                  (i.suits h (subst (λ x. h < x) k l)
                  (ap (λ x. on_chain (kind more x) (owner more) (kind more) fills h x) (sym k) ∙ e))
              | inr k ↦ (
                  elim (two h n) as (λ _. (h ≡ owner more g) ⊎ (holds h g ≡ true)) [
                    | inl q ↦ absurd (nobody (owner more n) (owner more g) (ap (λ x. owner more x) (sym q)
                        ∙ chain_owner (kind more g) (owner more) (kind more) fills h g e) i.owned
                        (owner_none g (omega arith)))
                    | inr q ↦ (
                        elim (f.suits h g l (sym (chain_at h g q k) ∙ e)) as (λ _. (h ≡ owner more g) ⊎ (holds h g ≡ true)) [
                          | inl z ↦ inl (z ∙ sym (owner_off g k))
                          | inr z ↦ inr z
                        ]
                        )
                  ]
                  )
            ]
            );
        entries = λ g j p q. (
            elim (two g n) as (λ _. (get_or holders j 0 < g) × (owner more (get_or holders j 0) ≡ owner more g)
            × (holds (get_or holders j 0) g ≡ true)) [
              | inl k ↦ subst (λ x. (get_or holders j 0 < x) × (owner more (get_or holders j 0) ≡ owner more x)
                  × (holds (get_or holders j 0) x ≡ true)) (sym k) (i.entries j (subst (λ x. begins more x ≤ j) k p)
                  (subst (λ x. j < ends more x) k q))
              | inr k ↦ (
                  let p' = subst (λ x. x ≤ j) (begins_at g k) p in
                  let q' = subst (λ x. j < x) (ends_at g k) q in
                  let w = f.entries g j p' q' in
                  (w.0, owner_off (get_or holders j 0) (entry_old g j f k p' q') ∙ w.1 ∙ sym (owner_off g k), w.2)
                  )
            ]
            );
        numbered = λ g j p q. (
            elim (two g n) as (λ _. 0 < get_or holders j 0) [
              | inl k ↦ i.numbered j (subst (λ x. begins more x ≤ j) k p) (subst (λ x. j < ends more x) k q)
              | inr k ↦ f.numbered g j (subst (λ x. x ≤ j) (begins_at g k) p) (subst (λ x. j < x) (ends_at g k) q)
            ]
            );
        covered = covered_more f i;
      }

  descends_more : (f : Row → ℕ) → ((g : ℕ) → f (row_at rows g) ≤ g - 1) → f (row_at more n) ≤ n - 1 → (g : ℕ) → f (row_at more g) ≤ g - 1
  descends_more f old new g =
      elim (two g n) as (λ _. f (row_at more g) ≤ g - 1) [
        | inl e ↦ subst (λ x. f (row_at more x) ≤ x - 1) (sym e) new
        | inr e ↦ subst (λ (s : Row). f s ≤ g - 1) (sym (at_old rows r g e)) (old g)
      ]

  listed_old : (g : ℕ) → (g ≡ n → ⊥) → IsListed rows holders g → IsListed more holders g
  listed_old g e l =
      let b = begins_at g e in
      let x = ends_at g e in
      let z = length_more rows r in
      let p = l.begins in
      let q = l.ends in
      record {
        begins = omega arith;
        ends = omega arith;
        each = λ j c d. (let w = l.each j (omega arith) (omega arith) in omega arith);
        some = λ j c d. l.some j (omega arith) (omega arith);
      }

  listed_new : IsRowNew holds fills more holders n → IsListed more holders n
  listed_new i =
      let z = length_more rows r in
      record {
        begins = i.begun;
        ends = i.ended;
        each = λ j c d. (let w = (i.entries j c d).0 in omega arith);
        some = λ j c d. i.numbered j c d;
      }

  -- row 0 is there before
  pub safe_more : IsSafe rows holders → IsRowNew holds fills more holders n → 0 < n → IsSafe more holders
  safe_more safe i p =
      record {
        descend = record {
          all = descends_more (λ (s : Row). s.lower) safe.descend.all i.opens.lower;
          changes = descends_more (λ (s : Row). s.change) safe.descend.changes i.changing.lower;
          filled = descends_more (λ (s : Row). s.filled) safe.descend.filled i.filling.lower;
        };
        listed = λ g l. (
            elim (two g n) as (λ _. IsListed more holders g) [
              | inl e ↦ subst (λ x. IsListed more holders x) (sym e) (listed_new i)
              | inr e ↦ listed_old g e (safe.listed g (let z = length_more rows r in grind arith))
            ]
            );
        nought = stands_off 0 (λ e. omega arith) ∙ safe.nought;
        owned = λ g l. (
            elim (two g n) as (λ _. owner more g ≤ g) [
              | inl e ↦ subst (λ x. owner more x ≤ x) (sym e) i.within
              | inr e ↦ subst (λ x. x ≤ g) (sym (owner_off g e)) (safe.owned g (let z = length_more rows r in grind arith))
            ]
            );
      }

  first_more : AreFirst holds (owner rows) (stands rows) → IsRowNew holds fills more holders n → AreFirst holds (owner more) (stands more)
  first_more f i g h p e l s w =
      elim (two g n) as (λ _. stands more h ≡ false) [
        | inl k ↦ i.first (ap (λ x. stands more x) (sym k) ∙ e) h (subst (λ x. h < x) k l)
            (s ∙ ap (λ x. owner more x) k) (ap (λ x. holds h x) (sym k) ∙ w)
        | inr k ↦ (
            elim (two h n) as (λ _. stands more h ≡ false) [
              | inl q ↦ absurd (nobody (owner more n) (owner more g) (ap (λ x. owner more x) (sym q) ∙ s) i.owned
                  (owner_none g (omega arith)))
              | inr q ↦ stands_off h q ∙ f g h p (sym (stands_off g k) ∙ e) l (sym (owner_off h q) ∙ s ∙ owner_off g k) w
            ]
            )
      ]

  holder_more : (b g : ℕ) → g < n → HoldingHolder holds (owner rows) (stands rows) b g → HoldingHolder holds (owner more) (stands more) b g
  holder_more b g l h =
      let k = h.lower in
      let e : b ≡ n → ⊥ = λ z. omega arith in
      let d : g ≡ n → ⊥ = λ z. omega arith in
      record {
        lower = h.lower;
        unsettled = stands_off b e ∙ h.unsettled;
        same = owner_off b e ∙ h.same ∙ sym (owner_off g d);
        why = elim h.why as (λ _. (b ≡ owner more g) ⊎ (holds b g ≡ true)) [ inl q ↦ inl (q ∙ sym (owner_off g d)) | inr q ↦ inr q ];
      }

  abbrev new_price : ℕ
  new_price = price_of r.unsettled (is_some r.outstanding_on) 0 r.cost

  -- prices and watchers may have grown before
  pub stands_more : (prices grown : List ℕ) (watchers spread : List Watch) → IsSafe rows holders
      → StandsRows holds fills rows holders prices watchers → IsRowNew holds fills more holders n
      → ((g : ℕ) → g < n → get_or grown g 0 ≡ get_or prices g 0) → n < length grown
      → ((g : ℕ) → watches spread g ≡ watches watchers g) → ((g : ℕ) → 0 < watches watchers g → g < n)
      → StandsRows holds fills more holders (set grown n new_price) spread
  stands_more prices grown watchers spread safe s i a l b c =
      let here : watches spread n ≡ 0 = b n ∙ zero_of (watches watchers n) (λ q. (let z = c n q in omega arith)) in
      record {
        fits = fits_more safe s.fits i;
        first = first_more s.first i;
        watched = λ g p. (
            let q : 0 < watches watchers g = subst (λ x. 0 < x) (b g) p in
            subst (λ x. HoldingHolder holds (owner more) (stands more) x g) (sym (b g))
            (holder_more (watches watchers g) g (c g q) (s.watched g q))
            );
        priced = λ g p. (
            elim (two g n) as (λ _. get_or (set grown n new_price) g 0 ≡ price_of (stands more g) (is_out more g)
            (watches spread g) (costs more g)) [
              | inl k ↦ (
                  let v : get_or (set grown n new_price) n 0 ≡ new_price = get_or-set_same grown n new_price 0 l in
                  subst (λ x. get_or (set grown n new_price) x 0 ≡ price_of (stands more x) (is_out more x)
                  (watches spread x) (costs more x)) (sym k)
                  (v ∙ (λ t. price_of (sym (at_new rows r) t).unsettled (is_some (sym (at_new rows r) t).outstanding_on)
                  ((sym here) t) (sym (at_new rows r) t).cost))
                  )
              | inr k ↦ (
                  let q : g < n = (let z = length_more rows r in grind arith) in
                  get_or-set_other grown n g new_price 0 k ∙ a g q ∙ s.priced g q
                  ∙ (λ t. price_of (sym (at_old rows r g k) t).unsettled
                  (is_some (sym (at_old rows r g k) t).outstanding_on) ((sym (b g)) t)
                  (sym (at_old rows r g k) t).cost)
                  )
            ]
            );
      }
    where
      zero_of : (x : ℕ) → (0 < x → ⊥) → x ≡ 0
      zero_of x h = elim (three x 0) as (λ _. x ≡ 0) [ inl k ↦ absurd (omega arith) | inr (inl k) ↦ k | inr (inr k) ↦ absurd (h k) ]
