-- One number joins the set or leaves it.
use Rattle.std.proofs.Common.{◌≡◌, ℕ, ◌<◌, ◌==◌, Bool, true, false, if◌then◌else◌, List, length, ap, sym, ◌∙◌, subst, arith, ◌⊎◌, inl, inr}
use Rattle.base_lists.specs.declared.number_set.Members.{Members}
use Rattle.base_lists.specs.number_set.Members.{MembersFit, has, size}
use Rattle.client_rows.specs.declared.operation_rows.row.Row.{Row}
use Rattle.client_rows.specs.operation_rows.Rows.{is_out}
use Rattle.client_tables.specs.outstanding.Shown.{HoldsOut}

ways : (x y : ℕ) → (x ≡ y) ⊎ (x ≡ y → ⊥)
ways x y = grind arith

test_same : (x y : ℕ) → x ≡ y → (x == y) ≡ true
test_same x y e = grind arith

test_other : (x y : ℕ) → (x ≡ y → ⊥) → (x == y) ≡ false
test_other x y e = grind arith

-- where it is what it is to become, nothing changes
pub already : (out : Members) (x : ℕ) (b : Bool) → has out x ≡ b → (h : ℕ) → has out h ≡ (if h == x then b else has out h)
already out x b e h =
    elim (ways h x) as (λ _. has out h ≡ (if h == x then b else has out h)) [
      | inl q ↦ ap (λ y. has out y) q ∙ e ∙ sym (ap (λ t. if t then b else has out h) (test_same h x q))
      | inr q ↦ sym (ap (λ t. if t then b else has out h) (test_other h x q))
    ]

pub refreshed : (rows : List Row) (old new : Members) (x : ℕ) (b : Bool) → MembersFit new → size new ≡ size old → size old ≡ length rows
    → ((h : ℕ) → h < size old → has new h ≡ (if h == x then b else has old h)) → is_out rows x ≡ b
    → ((g : ℕ) → g < length rows → (g ≡ x → ⊥) → has old g ≡ is_out rows g) → HoldsOut rows new
refreshed rows old new x b f n m h e o =
    record {
      fits = f;
      sized = n ∙ m;
      out_is = λ g l. (
          elim (ways g x) as (λ _. has new g ≡ is_out rows g) [
            | inl q ↦ h g (subst (λ k. g < k) (sym m) l) ∙ ap (λ t. if t then b else has old g) (test_same g x q) ∙ sym e
                ∙ ap (λ y. is_out rows y) (sym q)
            | inr q ↦ h g (subst (λ k. g < k) (sym m) l) ∙ ap (λ t. if t then b else has old g) (test_other g x q) ∙ o g l q
          ]
          );
    }
