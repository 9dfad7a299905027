-- Columns behind a change of a link, or of the end of a list.
use Rattle.std.proofs.Common.{◌≡◌, ℕ, ◌<◌, ◌≤◌, Bool, List, length, get_or, refl, ap, sym, ◌∙◌, arith, subst, ◌⊎◌, inl, inr}
use Rattle.client_values.specs.declared.operations.shapes.Kind.{Kind}
use Rattle.client_rows.specs.declared.operation_rows.row.Row.{Row}
use Rattle.client_rows.specs.declared.operation_rows.chains.Chain.{Chain}
use Rattle.client_rows.specs.declared.operation_rows.chains.Chain.TheVariants as chains
use Rattle.client_rows.specs.operation_rows.Rows.{row_at, stands, owner, kind, begins, ends, link_of, with_link, links}
use Rattle.client_rows.specs.operation_rows.Chains.{Descends, SameBut}
use Rattle.client_rows.specs.operation_rows.Listed.{IsListed, SameButEnd}
use Rattle.client_rows.specs.operation_rows.Holding.{Alike, Descend, HoldingFits, IsSafe, bare}

two : (x y : ℕ) → (x ≡ y) ⊎ (x ≡ y → ⊥)
two x y = grind arith

bare_link : (chain : Chain) (r : Row) (n : ℕ) → bare (with_link chain r n) ≡ bare r
bare_link chains.All r n = refl
bare_link chains.Changes r n = refl
bare_link chains.Filled r n = refl
bare_link chains.Dear r n = refl

pub alike_itself : (rows : List Row) → Alike rows rows
alike_itself rows = record { count = refl; row = λ g. refl }

pub alike_then : (a b c : List Row) → Alike a b → Alike b c → Alike a c
alike_then a b c p q = record { count = q.count ∙ p.count; row = λ g. q.row g ∙ p.row g }

pub alike_link : (chain : Chain) (old new : List Row) → SameBut chain old new → Alike old new
alike_link chain old new s =
    record { count = s.count; row = λ g. ap (λ (r : Row). bare r) (s.row g) ∙ bare_link chain (row_at old g) (links chain new g) }

pub alike_end : (old new : List Row) (index : ℕ) → SameButEnd old new index → Alike old new
alike_end old new index s =
    record {
      count = s.count;
      row = λ g. (
          elim (two g index) as (λ _. bare (row_at new g) ≡ bare (row_at old g)) [
            | inl e ↦ subst (λ i. bare (row_at new i) ≡ bare (row_at old i)) (sym e) (ap (λ (r : Row). bare r) s.row)
            | inr e ↦ ap (λ (r : Row). bare r) (s.other g e)
          ]
          );
    }

-- ---- columns that stay

pub owners : (old new : List Row) → Alike old new → owner old ≡ owner new
owners old new a = λ t g. (sym (a.row g) t).create

pub kinds : (old new : List Row) → Alike old new → kind old ≡ kind new
kinds old new a = λ t g. (sym (a.row g) t).kind

pub standing : (old new : List Row) → Alike old new → stands old ≡ stands new
standing old new a = λ t g. (sym (a.row g) t).unsettled

pub beginnings : (old new : List Row) → Alike old new → begins old ≡ begins new
beginnings old new a = λ t g. (sym (a.row g) t).holders

ends_of : (chain : Chain) (r : Row) (n : ℕ) → (with_link chain r n).holders_end ≡ r.holders_end
ends_of chains.All r n = refl
ends_of chains.Changes r n = refl
ends_of chains.Filled r n = refl
ends_of chains.Dear r n = refl

ends_link_at : (chain : Chain) (old new : List Row) → SameBut chain old new → (g : ℕ) → ends old g ≡ ends new g
ends_link_at chain old new s g = sym (ap (λ (r : Row). r.holders_end) (s.row g) ∙ ends_of chain (row_at old g) (links chain new g))

pub ends_link : (chain : Chain) (old new : List Row) → SameBut chain old new → ends old ≡ ends new
ends_link chain old new s = λ t g. (ends_link_at chain old new s g) t

-- other links than the one that changed
pub all_changes : (old new : List Row) → SameBut chains.Changes old new → links chains.All old ≡ links chains.All new
all_changes old new s = λ t g. (sym (s.row g) t).lower

pub all_filled : (old new : List Row) → SameBut chains.Filled old new → links chains.All old ≡ links chains.All new
all_filled old new s = λ t g. (sym (s.row g) t).lower

pub changes_all : (old new : List Row) → SameBut chains.All old new → links chains.Changes old ≡ links chains.Changes new
changes_all old new s = λ t g. (sym (s.row g) t).change

pub changes_filled : (old new : List Row) → SameBut chains.Filled old new → links chains.Changes old ≡ links chains.Changes new
changes_filled old new s = λ t g. (sym (s.row g) t).change

pub filled_all : (old new : List Row) → SameBut chains.All old new → links chains.Filled old ≡ links chains.Filled new
filled_all old new s = λ t g. (sym (s.row g) t).filled

pub filled_changes : (old new : List Row) → SameBut chains.Changes old new → links chains.Filled old ≡ links chains.Filled new
filled_changes old new s = λ t g. (sym (s.row g) t).filled

links_end_at : (chain : Chain) (old new : List Row) (index : ℕ) → SameButEnd old new index → (g : ℕ) → links chain old g ≡ links chain new g
links_end_at chain old new index s g =
    elim (two g index) as (λ _. links chain old g ≡ links chain new g) [
      | inl e ↦ subst (λ i. links chain old i ≡ links chain new i) (sym e)
          (sym (ap (λ (r : Row). link_of chain r) s.row ∙ stays chain (row_at old index) (ends new index)))
      | inr e ↦ sym (ap (λ (r : Row). link_of chain r) (s.other g e))
    ]
  where
    stays : (chain : Chain) (r : Row) (n : ℕ) → link_of chain (record r { holders_end = n }) ≡ link_of chain r
    stays chains.All r n = refl
    stays chains.Changes r n = refl
    stays chains.Filled r n = refl
    stays chains.Dear r n = refl

pub links_end : (chain : Chain) (old new : List Row) (index : ℕ) → SameButEnd old new index → links chain old ≡ links chain new
links_end chain old new index s = λ t g. (links_end_at chain old new index s g) t

-- ---- parts that go along

pub moved : {holds : ℕ → ℕ → Bool} {fills : ℕ → Bool} {holders : List ℕ} {o o' : ℕ → ℕ} {k k' : ℕ → Kind}
    {u u' : ℕ → Bool} {a a' c c' f f' b b' e e' : ℕ → ℕ}
    → o ≡ o' → k ≡ k' → u ≡ u' → a ≡ a' → c ≡ c' → f ≡ f' → b ≡ b' → e ≡ e' → HoldingFits holds fills o k u a c f b e holders
    → HoldingFits holds fills o' k' u' a' c' f' b' e' holders
moved {holds} {fills} {holders} {o} {o'} {k} {k'} {u} {u'} {a} {a'} {c} {c'} {f} {f'} {b} {b'} {e} {e'} p q r s t v w x h =
    subst (λ (z : ℕ → ℕ). HoldingFits holds fills z k' u' a' c' f' b' e' holders) p
    (subst (λ (z : ℕ → Kind). HoldingFits holds fills o z u' a' c' f' b' e' holders) q
    (subst (λ (z : ℕ → Bool). HoldingFits holds fills o k z a' c' f' b' e' holders) r
    (subst (λ (z : ℕ → ℕ). HoldingFits holds fills o k u z c' f' b' e' holders) s
    (subst (λ (z : ℕ → ℕ). HoldingFits holds fills o k u a z f' b' e' holders) t
    (subst (λ (z : ℕ → ℕ). HoldingFits holds fills o k u a c z b' e' holders) v
    (subst (λ (z : ℕ → ℕ). HoldingFits holds fills o k u a c f z e' holders) w
    (subst (λ (z : ℕ → ℕ). HoldingFits holds fills o k u a c f b z holders) x h)))))))

pub listed_link : (chain : Chain) (old new : List Row) (holders : List ℕ) → SameBut chain old new → (g : ℕ)
    → IsListed old holders g → IsListed new holders g
listed_link chain old new holders s g l =
    let b : begins new g ≡ begins old g = sym (ap (λ (f : ℕ → ℕ). f g) (beginnings old new (alike_link chain old new s))) in
    let e : ends new g ≡ ends old g = sym (ends_link_at chain old new s g) in
    let n : length new ≡ length old = s.count in
    let x = l.begins in
    let y = l.ends in
    record {
      begins = omega arith;
      ends = omega arith;
      each = λ i p q. subst (λ k. get_or holders i 0 < k) (sym n) (l.each i (omega arith) (omega arith));
      some = λ i p q. l.some i (omega arith) (omega arith);
    }

pub safe_link : (chain : Chain) (old new : List Row) (holders : List ℕ) → SameBut chain old new → Descend new
    → IsSafe old holders → IsSafe new holders
safe_link chain old new holders s d i =
    let a = alike_link chain old new s in
    let n : length new ≡ length old = s.count in
    record {
      descend = d;
      listed = λ g l. listed_link chain old new holders s g (i.listed g (subst (λ k. g < k) n l));
      nought = sym (ap (λ (f : ℕ → Bool). f 0) (standing old new a)) ∙ i.nought;
      owned = λ g l. subst (λ k. k ≤ g) (ap (λ (f : ℕ → ℕ). f g) (owners old new a)) (i.owned g (subst (λ k. g < k) n l));
    }

pub descend_end : (old new : List Row) (index : ℕ) → SameButEnd old new index → Descend old → Descend new
descend_end old new index s d =
    record {
      all = subst (λ (f : ℕ → ℕ). Descends f) (links_end chains.All old new index s) d.all;
      changes = subst (λ (f : ℕ → ℕ). Descends f) (links_end chains.Changes old new index s) d.changes;
      filled = subst (λ (f : ℕ → ℕ). Descends f) (links_end chains.Filled old new index s) d.filled;
    }
