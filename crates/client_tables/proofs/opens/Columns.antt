-- Marks and tables of bytes over columns that tell the same of the first numbers.
use Rattle.std.proofs.Common.{◌≡◌, ℕ, ◌<◌, ◌≤◌, ◌==◌, ◌&&◌, not, Bool, true, refl, ap, sym, ◌∙◌, arith, subst}
use Rattle.client_values.specs.declared.operations.shapes.Kind.{Kind}
use Rattle.client_values.specs.operations.Waiting.{is_close_kind}
use Rattle.client_rows.specs.operation_rows.Holding.{is_holding_changing}
use Rattle.client_rows.specs.declared.open_marks.marks.Marks.{Marks}
use Rattle.client_rows.specs.open_marks.Marks.{Has, Heights, IsHighest, IsMarkIndexed, fills_by_shape, is_barrier}
use Rattle.client_rows.specs.open_marks.Marks.{is_mark_end, is_mark_write}

-- equal below n
abbrev pub Below : {X : Type 0} → (ℕ → X) → (ℕ → X) → ℕ → Type 0
Below f f2 n = (g : ℕ) → g < n → f2 g ≡ f g

pub highest_same : (o o2 : ℕ → ℕ) (such such2 : ℕ → Bool) (create n m : ℕ) → Below o o2 n → Below such such2 n
    → IsHighest o such create n m → IsHighest o2 such2 create n m
highest_same o o2 such such2 create n m e f i =
    record {
      below = i.below;
      own = λ p. e m (i.below p) ∙ i.own p;
      is = λ p. f m (i.below p) ∙ i.is p;
      none = λ h a b c. f h b ∙ i.none h a b (sym (e h b) ∙ c);
    }

pub heights_same : (o o2 : ℕ → ℕ) (k k2 : ℕ → Kind) (size size2 : ℕ → ℕ) (create n : ℕ) (m : Marks) → Below o o2 n → Below k k2 n
    → Below size size2 n → Heights o k size create n m → Heights o2 k2 size2 create n m
heights_same o o2 k k2 size size2 create n m e f s h =
    record {
      lasts = highest_same o o2 (λ g. true) (λ g. true) create n m.last e (λ g l. refl) h.lasts;
      changes = highest_same o o2 (λ g. is_holding_changing (k g)) (λ g. is_holding_changing (k2 g)) create n m.change e
          (λ g l. ap (λ z. is_holding_changing z) (f g l)) h.changes;
      fills = highest_same o o2 (λ g. fills_by_shape k size g) (λ g. fills_by_shape k2 size2 g) create n m.filled e
          (λ g l. filled (k g) (k2 g) (size g) (size2 g) (f g l) (s g l)) h.fills;
      closes = highest_same o o2 (λ g. is_close_kind (k g)) (λ g. is_close_kind (k2 g)) create n m.close e
          (λ g l. ap (λ z. is_close_kind z) (f g l)) h.closes;
      ends = highest_same o o2 (λ g. is_mark_end (k g)) (λ g. is_mark_end (k2 g)) create n m.end e
          (λ g l. ap (λ z. is_mark_end z) (f g l)) h.ends;
      barriers = highest_same o o2 (λ g. is_barrier (k g)) (λ g. is_barrier (k2 g)) create n m.barrier e
          (λ g l. ap (λ z. is_barrier z) (f g l)) h.barriers;
    }
  where
    filled : (a a2 : Kind) (x x2 : ℕ) → a2 ≡ a → x2 ≡ x → (is_mark_write a2 && not (x2 == 0)) ≡ (is_mark_write a && not (x == 0))
    filled a a2 x x2 p q = λ t. is_mark_write (p t) && not ((q t) == 0)

has_same : (at at2 size size2 : ℕ → ℕ) (h x : ℕ) → at2 h ≡ at h → size2 h ≡ size h → Has at size h x → Has at2 size2 h x
has_same at at2 size size2 h x a s i =
    let b = i.behind in
    let w = i.within in
    record { behind = omega arith; within = omega arith }

pub indexed_same : (o o2 : ℕ → ℕ) (such such2 : ℕ → Bool) (at at2 size size2 : ℕ → ℕ) (u u2 : ℕ → Bool) (create n clear : ℕ)
    (top : ℕ → ℕ) → Below o o2 n → Below such such2 n → Below at at2 n → Below size size2 n → Below u u2 n
    → IsMarkIndexed o such at size u create n clear top → IsMarkIndexed o2 such2 at2 size2 u2 create n clear top
indexed_same o o2 such such2 at at2 size size2 u u2 create n clear top eo es ea ez eu i =
    record {
      below = i.below;
      own = λ x f p. eo (top x) (i.below x f p) ∙ i.own x f p;
      is = λ x f p. es (top x) (i.below x f p) ∙ i.is x f p;
      has = λ x f p. has_same at at2 size size2 (top x) x (ea (top x) (i.below x f p)) (ez (top x) (i.below x f p)) (i.has x f p);
      kept = λ h x f d l a e w b. i.kept h x f d l (sym (eo h l) ∙ a) (sym (es h l) ∙ e) (sym (eu h l) ∙ w)
          (has_same at2 at size2 size h x (sym (ea h l)) (sym (ez h l)) b);
    }

-- where more is behind the clearing, less is asked of the table
pub indexed_wider : (o : ℕ → ℕ) (such : ℕ → Bool) (at size : ℕ → ℕ) (u : ℕ → Bool) (create n clear clear2 : ℕ) (top : ℕ → ℕ)
    → clear ≤ clear2 → IsMarkIndexed o such at size u create n clear top → IsMarkIndexed o such at size u create n clear2 top
indexed_wider o such at size u create n clear clear2 top less i =
    record {
      below = i.below;
      own = i.own;
      is = i.is;
      has = i.has;
      kept = λ h x f d l a e w b. i.kept h x f (omega arith) l a e w b;
    }

-- a table that tells the same of each byte
pub indexed_told : (o : ℕ → ℕ) (such : ℕ → Bool) (at size : ℕ → ℕ) (u : ℕ → Bool) (create n clear : ℕ) (top top2 : ℕ → ℕ)
    → ((x : ℕ) → top2 x ≡ top x) → IsMarkIndexed o such at size u create n clear top → IsMarkIndexed o such at size u create n clear top2
indexed_told o such at size u create n clear top top2 e i =
    let q : top ≡ top2 = λ t x. (sym (e x)) t in
    subst (λ (z : ℕ → ℕ). IsMarkIndexed o such at size u create n clear z) q i
