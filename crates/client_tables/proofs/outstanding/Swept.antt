-- Members of which nothing is outstanding leave.
use Rattle.std.proofs.Common.{◌≡◌, ℕ, ◌+◌, ◌-◌, ◌<◌, ◌≤◌, ◌==◌, if◌then◌else◌, Bool, true, false, List, length}
use Rattle.std.proofs.Common.{refl, ap, sym, ◌∙◌, subst, arith, ◌⊎◌, inl, inr}
use Rattle.base_lists.specs.declared.number_set.Members.{Members}
use Rattle.base_lists.specs.number_set.Members.{MembersFit, Pairs, count, has, member, place, size}
use Rattle.base_lists.proofs.number_set.Swapping.{is_below}
use Rattle.client_rows.specs.declared.operation_rows.row.Row.{Row}
use Rattle.client_rows.specs.operation_rows.Rows.{is_out}
use Rattle.client_tables.specs.outstanding.Shown.{HoldsOut}

pub lower_place : (p i : ℕ) → 0 < p → p - 1 < i → p ≤ i
lower_place p i l m = omega arith

same_truth : (a b : Bool) → (a ≡ true → b ≡ true) → (b ≡ true → a ≡ true) → a ≡ b
same_truth true b f g = sym (f refl)
same_truth false true f g = g refl
same_truth false false f g = refl

-- members have something outstanding, and nothing else has
pub holds_swept : (rows : List Row) (out : Members) → MembersFit out → size out ≡ length rows
    → ((g : ℕ) → g < length rows → is_out rows g ≡ true → has out g ≡ true)
    → ((i : ℕ) → i < count out → is_out rows (member out i) ≡ true) → HoldsOut rows out
holds_swept rows out f n more swept =
    record {
      fits = f;
      sized = n;
      out_is = λ g l. same_truth (has out g) (is_out rows g) (λ e. member_out g l e) (more g l);
    }
  where
    member_out : (g : ℕ) → g < length rows → has out g ≡ true → is_out rows g ≡ true
    member_out g l e =
        let q : Pairs (length out.places.items) out.order.items out.places.items = f.pairs in
        subst (λ x. is_out rows x ≡ true) (q.back g (subst (λ m. g < m) (sym n) l))
        (swept (place out g) (is_below (place out g) (count out) e))

-- ---- one place

ways : (x y : ℕ) → (x ≡ y) ⊎ (x ≡ y → ⊥)
ways x y = grind arith

differs : (x y : ℕ) → (x ≡ y → ⊥) → (x == y) ≡ false
differs x y e = grind arith

clash : (b : Bool) → b ≡ true → b ≡ false → ⊥
clash b p q = absurd (cc)

pub place_least : (old new p : ℕ) → new + 1 ≡ old → p < old → p ≤ new
place_least old new p e l = omega arith

pub place_least_same : (old p : ℕ) → p < old → p ≤ old
place_least_same old p l = omega arith

-- what is outstanding is another one, and a member still
pub more_behind : (rows : List Row) (out new : Members) (x : ℕ) → size out ≡ length rows
    → ((g : ℕ) → g < length rows → is_out rows g ≡ true → has out g ≡ true)
    → ((h : ℕ) → h < size out → has new h ≡ (if h == x then false else has out h)) → is_out rows x ≡ false
    → (g : ℕ) → g < length rows → is_out rows g ≡ true → has new g ≡ true
more_behind rows out new x n more h e g l u =
    let d : (g == x) ≡ false = differs g x (λ q. clash (is_out rows g) u (ap (λ z. is_out rows z) q ∙ e)) in
    h g (subst (λ m. g < m) (sym n) l) ∙ ap (λ b. if b then false else has out g) d ∙ more g l u

above_or_at : (p i : ℕ) → p ≤ i → (p ≡ i) ⊎ (p < i)
above_or_at p i l = grind arith

-- the member at the place has something outstanding, as all above have
pub not_swept : (rows : List Row) (out : Members) (p x : ℕ) → x ≡ member out p → is_out rows x ≡ true
    → ((i : ℕ) → p < i → i < count out → is_out rows (member out i) ≡ true)
    → (i : ℕ) → p ≤ i → i < count out → is_out rows (member out i) ≡ true
not_swept rows out p x m e h i l k =
    elim (above_or_at p i l) as (λ _. is_out rows (member out i) ≡ true) [
      | inl q ↦ subst (λ z. is_out rows (member out z) ≡ true) q (ap (λ z. is_out rows z) (sym m) ∙ e)
      | inr q ↦ h i q k
    ]

-- what `remove` of number_set leaves: the last member stands where the removed one stood, and the others stay
pub record Moved (old new : Members) (p : ℕ) : Type 0 where
  pub fewer : count new + 1 ≡ count old
  pub moved : p < count new → member new p ≡ member old (count new)
  pub others : (i : ℕ) → i < count new → (i ≡ p → ⊥) → member new i ≡ member old i

last_above : (new old p : ℕ) → new + 1 ≡ old → p < new → p < new × new < old
last_above new old p e l = (l, omega arith)

still_below : (new old i : ℕ) → new + 1 ≡ old → i < new → i < old
still_below new old i e l = omega arith

strictly : (p i : ℕ) → p ≤ i → (i ≡ p → ⊥) → p < i
strictly p i l n = omega arith

pub swept_moved : (rows : List Row) (out new : Members) (p : ℕ) → Moved out new p
    → ((i : ℕ) → p < i → i < count out → is_out rows (member out i) ≡ true)
    → (i : ℕ) → p ≤ i → i < count new → is_out rows (member new i) ≡ true
swept_moved rows out new p m h i l k =
    elim (ways i p) as (λ _. is_out rows (member new i) ≡ true) [
      | inl q ↦ (
          let a : p < count new = subst (λ z. z < count new) q k in
          let w = last_above (count new) (count out) p m.fewer a in
          subst (λ z. is_out rows (member new z) ≡ true) (sym q)
          (ap (λ z. is_out rows z) (m.moved a) ∙ h (count new) w.0 w.1)
          )
      | inr q ↦ ap (λ z. is_out rows z) (m.others i k q) ∙ h i (strictly p i l q) (still_below (count new) (count out) i m.fewer k)
    ]
