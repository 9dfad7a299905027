-- What an open keeps where rows keep their creates and their kinds, and what was settled is so still.
use Rattle.std.proofs.Common.{◌≡◌, ℕ, max, Bool, true, false, List, refl, ap, sym, ◌∙◌}
use Rattle.client_rows.specs.declared.operation_rows.row.Row.{Row}
use Rattle.client_rows.specs.operation_rows.Rows.{kind, owner, stands}
use Rattle.client_rows.specs.declared.open_marks.marks.Marks.{Marks}
use Rattle.client_rows.specs.open_marks.Marks.{IsMarkIndexed, is_lock_kind, is_mark_write}
use Rattle.client_tables.specs.opens.Opened.{ShowsOpen}
use Rattle.client_tables.proofs.opens.Columns.{heights_same}

clash : (b : Bool) → b ≡ true → b ≡ false → ⊥
clash b p q = absurd (cc)

-- what is unsettled now was so before
stood : (a b : Bool) → (a ≡ false → b ≡ false) → b ≡ true → a ≡ true
stood true b s e = refl
stood false b s e = absurd (clash b e (s refl))

-- less is asked of a table of bytes
indexed_settled : (o o2 : ℕ → ℕ) (such such2 : ℕ → Bool) (at size : ℕ → ℕ) (u u2 : ℕ → Bool) (create n clear : ℕ) (top : ℕ → ℕ)
    → ((g : ℕ) → o2 g ≡ o g) → ((g : ℕ) → such2 g ≡ such g) → ((g : ℕ) → u g ≡ false → u2 g ≡ false)
    → IsMarkIndexed o such at size u create n clear top → IsMarkIndexed o2 such2 at size u2 create n clear top
indexed_settled o o2 such such2 at size u u2 create n clear top eo es eu i =
    record {
      below = i.below;
      own = λ x f p. eo (top x) ∙ i.own x f p;
      is = λ x f p. es (top x) ∙ i.is x f p;
      has = i.has;
      kept = λ h x f d l a e w b. i.kept h x f d l (sym (eo h) ∙ a) (sym (es h) ∙ e) (stood (u h) (u2 h) (eu h) w) b;
    }

pub settled_open : (old new : List Row) (at size : ℕ → ℕ) (create n : ℕ) (m : Marks) (written locked : ℕ → ℕ)
    → ((g : ℕ) → owner new g ≡ owner old g) → ((g : ℕ) → kind new g ≡ kind old g)
    → ((g : ℕ) → stands old g ≡ false → stands new g ≡ false)
    → ShowsOpen old at size create n m written locked → ShowsOpen new at size create n m written locked
settled_open old new at size create n m written locked eo ek es s =
    record {
      heights = heights_same (owner old) (owner new) (kind old) (kind new) size size create n m (λ g l. eo g) (λ g l. ek g)
          (λ g l. refl) s.heights;
      writes = indexed_settled (owner old) (owner new) (λ g. is_mark_write (kind old g)) (λ g. is_mark_write (kind new g)) at size
          (stands old) (stands new) create n (max m.end m.close) written eo (λ g. ap (λ z. is_mark_write z) (ek g)) es s.writes;
      locks = indexed_settled (owner old) (owner new) (λ g. is_lock_kind (kind old g)) (λ g. is_lock_kind (kind new g)) at size
          (stands old) (stands new) create n m.close locked eo (λ g. ap (λ z. is_lock_kind z) (ek g)) es s.locks;
    }
