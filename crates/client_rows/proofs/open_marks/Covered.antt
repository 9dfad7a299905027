-- Whatever holds a new operation up is settled, or leads to one that is listed, or stands in the chain of its kind.
use Rattle.std.proofs.Common.{◌≡◌, ℕ, ◌+◌, ◌<◌, ◌≤◌, ◌^◌, ◌==◌, ◌&&◌, not, max, Bool, true, false, List}
use Rattle.std.proofs.Common.{refl, ap, sym, ◌∙◌, arith, subst, ◌⊎◌, inl, inr}
use Rattle.std.proofs.lemmas.Bool.Decides.{nat_tests}
use Rattle.spec_exchange.specs.Content.{meets}
use Rattle.client_values.specs.declared.operations.shapes.Kind.{Kind}
use Rattle.client_values.specs.declared.operations.shapes.Kind.TheVariants as kinds
use Rattle.client_values.specs.operations.Waiting.{is_close_kind, shape_holds}
use Rattle.client_rows.specs.operation_rows.Holding.{IsEntry, Leads, is_holding_changing}
use Rattle.client_rows.specs.open_marks.Marks.{AllTold, Has, IsHighest, IsIn, IsMarkIndexed, MarkTold, fills_by_shape, holds_by_shape}
use Rattle.client_rows.specs.open_marks.Marks.{is_barrier, is_mark_end, is_lock_kind, is_mark_write}
use Rattle.client_rows.proofs.open_marks.Waits.{barriers_hold, close_last, create_holds_none, end_is_barrier, ends_hold, holds_change}
use Rattle.client_rows.proofs.open_marks.Waits.{holds_end, holds_list, holds_lock, holds_look, holds_read, holds_write}
use Rattle.client_rows.proofs.open_marks.Waits.{write_barrier, write_end}

three : (x y : ℕ) → (x < y) ⊎ ((x ≡ y) ⊎ (y < x))
three x y = grind arith

below_or_not : (i n : ℕ) → (i < n) ⊎ (n ≤ i)
below_or_not i n = grind arith

clash : (b : Bool) → b ≡ true → b ≡ false → ⊥
clash b h k = absurd (cc)

true_or_false : (b : Bool) → (b ≡ true) ⊎ (b ≡ false)
true_or_false true = inl refl
true_or_false false = inr refl

-- a byte that two ranges share: the later of their first ones
pub meets_byte : (p n q m : ℕ) → meets p n q m ≡ true → (p ≤ max p q) × (max p q < p + n) × (q ≤ max p q) × (max p q < q + m)
unfolding meets
meets_byte p n q m e = (
  grind (arith, nat_tests),
  grind (arith, nat_tests),
  grind (arith, nat_tests),
  grind (arith, nat_tests),
)

pub meets_at : (p n q m x : ℕ) → p ≤ x → x < p + n → q ≤ x → x < q + m → meets p n q m ≡ true
unfolding meets
meets_at p n q m x a b c d = grind (arith, nat_tests)

pub fits_64 : (p q : ℕ) → p < 2 ^ 64 → q < 2 ^ 64 → max p q < 2 ^ 64
fits_64 p q a b = grind arith

-- one that is such stands at the highest one or below it
pub at_most : (o : ℕ → ℕ) (such : ℕ → Bool) (create n m h : ℕ) → IsHighest o such create n m → h < n → o h ≡ create → such h ≡ true → h ≤ m
at_most o such create n m h i l e s =
    elim (below_or_not m h) as (λ _. h ≤ m) [ inl k ↦ absurd (clash (such h) s (i.none h k l e)) | inr k ↦ k ]

lower : (h stop close : ℕ) → h ≤ max stop close → close < h → h ≤ stop
lower h stop close a b = grind arith

write_is : (a : Kind) → is_mark_write a ≡ true → a ≡ kinds.Write
write_is kinds.Create e = absurd (cc)
write_is kinds.Write e = refl
write_is kinds.Read e = absurd (cc)
write_is kinds.End e = absurd (cc)
write_is kinds.Change e = absurd (cc)
write_is kinds.Lock e = absurd (cc)
write_is kinds.Look e = absurd (cc)
write_is kinds.List e = absurd (cc)
write_is kinds.Close e = absurd (cc)

lock_is : (a : Kind) → is_lock_kind a ≡ true → a ≡ kinds.Lock
lock_is kinds.Create e = absurd (cc)
lock_is kinds.Write e = absurd (cc)
lock_is kinds.Read e = absurd (cc)
lock_is kinds.End e = absurd (cc)
lock_is kinds.Change e = absurd (cc)
lock_is kinds.Lock e = refl
lock_is kinds.Look e = absurd (cc)
lock_is kinds.List e = absurd (cc)
lock_is kinds.Close e = absurd (cc)

two_writes : (a b : Kind) (p n q m : ℕ) → a ≡ kinds.Write → is_mark_write b ≡ true → meets p n q m ≡ true → shape_holds a p n b q m ≡ true
two_writes a b p n q m e f w =
    subst (λ z. shape_holds z p n b q m ≡ true) (sym e) (subst (λ z. shape_holds kinds.Write p n z q m ≡ true) (sym (write_is b f)) w)

two_locks : (a b : Kind) (p n q m : ℕ) → a ≡ kinds.Lock → is_lock_kind b ≡ true → meets p n q m ≡ true → shape_holds a p n b q m ≡ true
two_locks a b p n q m e f w =
    subst (λ z. shape_holds z p n b q m ≡ true) (sym e) (subst (λ z. shape_holds kinds.Lock p n z q m ≡ true) (sym (lock_is b f)) w)

filled_write : (a : Kind) (n : ℕ) → a ≡ kinds.Write → not (n == 0) ≡ true → (is_mark_write a && not (n == 0)) ≡ true
filled_write a n e w = subst (λ z. (is_mark_write z && not (n == 0)) ≡ true) (sym e) w

module _ (o : ℕ → ℕ) (k : ℕ → Kind) (at size : ℕ → ℕ) (u : ℕ → Bool) (create n : ℕ) (holders : List ℕ) (begin end : ℕ) where
  abbrev holds : ℕ → ℕ → Bool
  holds h g = holds_by_shape k at size h g

  -- what is settled waits for nothing, of the first n
  abbrev First : Type 0
  First = (g h : ℕ) → 0 < g → g < n → u g ≡ false → h < g → o h ≡ o g → holds h g ≡ true → u h ≡ false

  abbrev Found : ℕ → Type 0
  Found h = (u h ≡ false) ⊎ IsEntry holds o holders begin end h

  -- by one that it holds up, or is
  by_one : First → (h l : ℕ) → h ≤ l → 0 < l → l < n → o h ≡ create → o l ≡ create → (h < l → holds h l ≡ true)
      → (u l ≡ false) ⊎ IsIn holders begin end l → Found h
  by_one first h l below p m a b w (inl e) =
      elim (three h l) as (λ _. Found h) [
        | inl q ↦ inl (first l h p m e q (a ∙ sym b) (w q))
        | inr (inl q) ↦ inl (ap u q ∙ e)
        | inr (inr q) ↦ absurd (omega arith)
      ]
  by_one first h l below p m a b w (inr i) =
      elim (three h l) as (λ _. Found h) [
        | inl q ↦ inr (record {
          at = i.at;
          behind = i.behind;
          within = i.within;
          leads = subst (λ z. Leads holds o h z) (sym i.is) (inr (q, a ∙ sym b, w q));
        })
        | inr (inl q) ↦ inr (record { at = i.at; behind = i.behind; within = i.within; leads = inl (i.is ∙ sym q) })
        | inr (inr q) ↦ absurd (omega arith)
      ]

  -- by a mark: the highest of a kind
  by_mark : First → (such : ℕ → Bool) (h l : ℕ) → 0 < h → h ≤ l → o h ≡ create → IsHighest o such create n l
      → (h < l → such l ≡ true → holds h l ≡ true) → MarkTold u holders begin end l → Found h
  by_mark first such h l p below a i w t =
      let q : 0 < l = omega arith in
      by_one first h l below q (i.below q) a (i.own q) (λ z. w z (i.is q)) (t q)

  close_found : First → (h c : ℕ) → 0 < h → h ≤ c → o h ≡ create → (k h ≡ kinds.Create → ⊥)
      → IsHighest o (λ g. is_close_kind (k g)) create n c → MarkTold u holders begin end c → Found h
  close_found first h c p below a d i t = by_mark first (λ g. is_close_kind (k g)) h c p below a i
      (λ z e. close_last (k h) (k c) (at h) (size h) (at c) (size c) d e) t

  -- one that has a byte, by the last one that has it
  by_top : (such : ℕ → Bool) (clear : ℕ) (top : ℕ → ℕ) (h x b s : ℕ) → x < 2 ^ 64 → 0 < h → h < n → clear < h → o h ≡ create
      → such h ≡ true → Has at size h x → b ≤ x → x < b + s → IsMarkIndexed o such at size u create n clear top
      → ((l : ℕ) → h < l → such l ≡ true → Has at size l x → holds h l ≡ true)
      → AllTold top holders begin end b s → Found h
  by_top such clear top h x b s fits p l c a e has y z i w t =
      elim (true_or_false (u h)) as (λ _. Found h) [
        | inr f ↦ inl f
        | inl f ↦ (
            elim (i.kept h x fits c l a e f has) as (λ _. Found h) [
              | inl q ↦ (
                  let j = t x fits y z (subst (λ v. 0 < v) (sym q) p) in
                  inr (record { at = j.at; behind = j.behind; within = j.within; leads = inl (j.is ∙ q) })
                  )
              | inr q ↦ (
                  let r : 0 < top x = omega arith in
                  let j = t x fits y z r in
                  inr (record {
                    at = j.at;
                    behind = j.behind;
                    within = j.within;
                    leads = subst (λ v. Leads holds o h v) (sym j.is)
                        (inr (q, a ∙ sym (i.own x fits r), w (top x) q (i.is x fits r) (i.has x fits r)));
                  })
                  )
            ]
            )
      ]

  -- ---- by the kind of the new one

  holds_it : (b : Kind) (h : ℕ) → k n ≡ b → holds h n ≡ true → shape_holds (k h) (at h) (size h) b (at n) (size n) ≡ true
  holds_it b h e w = subst (λ z. shape_holds (k h) (at h) (size h) z (at n) (size n) ≡ true) e w

  no_create : (h : ℕ) → holds h n ≡ true → k h ≡ kinds.Create → ⊥
  no_create h w q = create_holds_none (k n) (at h) (size h) (at n) (size n)
      (subst (λ z. shape_holds z (at h) (size h) (k n) (at n) (size n) ≡ true) q w)

  module _ (first : First) (close : ℕ) (closes : IsHighest o (λ g. is_close_kind (k g)) create n close)
      (told : MarkTold u holders begin end close) where
    pub by_close : (h : ℕ) → 0 < h → h < n → o h ≡ create → holds h n ≡ true → is_close_kind (k h) ≡ true → Found h
    by_close h p l a w c = close_found first h close p (at_most o (λ g. is_close_kind (k g)) create n close h closes l a c)
        a (no_create h w) closes told

    pub list_found : k n ≡ kinds.List → (h : ℕ) → 0 < h → h < n → o h ≡ create → holds h n ≡ true → Found h
    list_found e h p l a w = by_close h p l a w (holds_list (k h) (at h) (size h) (at n) (size n) (holds_it kinds.List h e w))

    pub end_found : k n ≡ kinds.End → (h : ℕ) → 0 < h → h < n → o h ≡ create → holds h n ≡ true
        → Found h ⊎ (is_holding_changing (k h) ≡ true)
    end_found e h p l a w =
        elim (holds_end (k h) (at h) (size h) (at n) (size n) (holds_it kinds.End h e w)) as
        (λ _. Found h ⊎ (is_holding_changing (k h) ≡ true)) [
          | inl c ↦ inr c
          | inr c ↦ inl (by_close h p l a w c)
        ]

    pub change_found : k n ≡ kinds.Change → (h : ℕ) → 0 < h → h < n → o h ≡ create → holds h n ≡ true
        → Found h ⊎ (is_holding_changing (k h) ≡ true)
    change_found e h p l a w =
        elim (holds_change (k h) (at h) (size h) (at n) (size n) (holds_it kinds.Change h e w))
        as (λ _. Found h ⊎ (is_holding_changing (k h) ≡ true)) [
          | inl c ↦ inr c
          | inr c ↦ inl (by_close h p l a w c)
        ]

    -- by the last one that has a byte which both have
    shared : (such : ℕ → Bool) (clear : ℕ) (top : ℕ → ℕ) (h : ℕ) → ((g : ℕ) → 0 < g → g ≤ n → at g < 2 ^ 64) → 0 < h → h < n
        → o h ≡ create → such h ≡ true → meets (at h) (size h) (at n) (size n) ≡ true → clear < h
        → IsMarkIndexed o such at size u create n clear top
        → ((l : ℕ) → such l ≡ true → meets (at h) (size h) (at l) (size l) ≡ true → holds h l ≡ true)
        → AllTold top holders begin end (at n) (size n) → Found h
    shared such clear top h fits p l a e m c i w t =
        let b = meets_byte (at h) (size h) (at n) (size n) m in
        by_top such clear top h (max (at h) (at n)) (at n) (size n)
        (fits_64 (at h) (at n) (fits h p (omega arith)) (fits n (omega arith) (omega arith))) p l c a e
        (record { behind = b.0; within = b.1 }) b.2 b.3 i
        (λ v q s y. w v s (meets_at (at h) (size h) (at v) (size v) (max (at h) (at n)) b.0 b.1 y.behind y.within)) t

    pub lock_found : (locked : ℕ → ℕ) → k n ≡ kinds.Lock → ((g : ℕ) → 0 < g → g ≤ n → at g < 2 ^ 64)
        → IsMarkIndexed o (λ g. is_lock_kind (k g)) at size u create n close locked
        → AllTold locked holders begin end (at n) (size n)
        → (h : ℕ) → 0 < h → h < n → o h ≡ create → holds h n ≡ true → Found h
    lock_found locked e fits i t h p l a w =
        elim (holds_lock (k h) (at h) (size h) (at n) (size n) (holds_it kinds.Lock h e w)) as (λ _. Found h) [
          | inr c ↦ by_close h p l a w c
          | inl m ↦ (
              elim (below_or_not close h) as (λ _. Found h) [
                | inl c ↦ shared (λ g. is_lock_kind (k g)) close locked h fits p l a (ap (λ z. is_lock_kind z) m.0) m.1 c i
                    (λ v s y. two_locks (k h) (k v) (at h) (size h) (at v) (size v) m.0 s y) t
                | inr c ↦ close_found first h close p c a (no_create h w) closes told
              ]
              )
        ]

    module _ (stop : ℕ) (ends : IsHighest o (λ g. is_mark_end (k g)) create n stop) (written : ℕ → ℕ)
        (fits : (g : ℕ) → 0 < g → g ≤ n → at g < 2 ^ 64)
        (i : IsMarkIndexed o (λ g. is_mark_write (k g)) at size u create n (max stop close) written) where
      -- an earlier write, by what shows of it, or by the end or the close behind it
      by_write : (h mark : ℕ) (such : ℕ → Bool) → 0 < h → h < n → o h ≡ create → holds h n ≡ true → k h ≡ kinds.Write
          → meets (at h) (size h) (at n) (size n) ≡ true → AllTold written holders begin end (at n) (size n)
          → (h ≤ stop → h ≤ mark) → IsHighest o such create n mark → (such mark ≡ true → holds h mark ≡ true)
          → MarkTold u holders begin end mark → Found h
      by_write h mark such p l a w e m t below highest holding marked =
          elim (below_or_not (max stop close) h) as (λ _. Found h) [
            | inl c ↦ shared (λ g. is_mark_write (k g)) (max stop close) written h fits p l a (ap (λ z. is_mark_write z) e) m c i
                (λ v s y. two_writes (k h) (k v) (at h) (size h) (at v) (size v) e s y) t
            | inr c ↦ (
                elim (below_or_not close h) as (λ _. Found h) [
                  | inr d ↦ close_found first h close p d a (no_create h w) closes told
                  | inl d ↦ by_mark first such h mark p (below (lower h stop close c d)) a highest (λ z s. holding s) marked
                ]
                )
          ]

      -- the last end is a barrier, or there is none
      end_below : (h barrier : ℕ) → 0 < h → IsHighest o (λ g. is_barrier (k g)) create n barrier → h ≤ stop → h ≤ barrier
      end_below h barrier p b l =
          let q : 0 < stop = omega arith in
          let m = at_most o (λ g. is_barrier (k g)) create n barrier stop b (ends.below q) (ends.own q)
          (end_is_barrier (k stop) (ends.is q)) in
          omega arith

      pub write_found : (barrier : ℕ) → k n ≡ kinds.Write → IsHighest o (λ g. is_barrier (k g)) create n barrier
          → MarkTold u holders begin end barrier → AllTold written holders begin end (at n) (size n)
          → (h : ℕ) → 0 < h → h < n → o h ≡ create → holds h n ≡ true → Found h
      write_found barrier e b marked t h p l a w =
          elim (holds_write (k h) (at h) (size h) (at n) (size n) (holds_it kinds.Write h e w)) as (λ _. Found h) [
            | inl m ↦ by_write h barrier (λ g. is_barrier (k g)) p l a w m.0 m.1 t (end_below h barrier p b) b
                (λ s. write_barrier (k h) (k barrier) (at h) (size h) (at barrier) (size barrier) (ap (λ z. is_mark_write z) m.0) s) marked
            | inr (inl c) ↦ by_mark first (λ g. is_barrier (k g)) h barrier p
                (at_most o (λ g. is_barrier (k g)) create n barrier h b l a c) a b
                (λ z s. barriers_hold (k h) (k barrier) (at h) (size h) (at barrier) (size barrier) c s) marked
            | inr (inr c) ↦ by_close h p l a w c
          ]

      pub read_found : k n ≡ kinds.Read → MarkTold u holders begin end stop → AllTold written holders begin end (at n) (size n)
          → (h : ℕ) → 0 < h → h < n → o h ≡ create → holds h n ≡ true → Found h
      read_found e marked t h p l a w =
          elim (holds_read (k h) (at h) (size h) (at n) (size n) (holds_it kinds.Read h e w)) as (λ _. Found h) [
            | inl m ↦ by_write h stop (λ g. is_mark_end (k g)) p l a w m.0 m.1 t (λ z. z) ends
                (λ s. write_end (k h) (k stop) (at h) (size h) (at stop) (size stop) (ap (λ z. is_mark_write z) m.0) s) marked
            | inr (inl c) ↦ by_mark first (λ g. is_mark_end (k g)) h stop p (at_most o (λ g. is_mark_end (k g)) create n
                stop h ends l a c) a ends
                (λ z s. ends_hold (k h) (k stop) (at h) (size h) (at stop) (size stop) c s) marked
            | inr (inr c) ↦ by_close h p l a w c
          ]

      pub look_found : k n ≡ kinds.Look → MarkTold u holders begin end stop
          → (h : ℕ) → 0 < h → h < n → o h ≡ create → holds h n ≡ true → Found h ⊎ (fills_by_shape k size h ≡ true)
      look_found e marked h p l a w =
          elim (holds_look (k h) (at h) (size h) (at n) (size n) (holds_it kinds.Look h e w))
          as (λ _. Found h ⊎ (fills_by_shape k size h ≡ true)) [
            | inl m ↦ inr (filled_write (k h) (size h) m.0 m.1)
            | inr (inl c) ↦ inl (by_mark first (λ g. is_mark_end (k g)) h stop p
                (at_most o (λ g. is_mark_end (k g)) create n stop h ends l a c) a ends
                (λ z s. ends_hold (k h) (k stop) (at h) (size h) (at stop) (size stop) c s) marked)
            | inr (inr c) ↦ inl (by_close h p l a w c)
          ]
