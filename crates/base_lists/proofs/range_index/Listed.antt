-- The numbers that cover bytes of a range last, listed as far as a byte.
use Rattle.std.proofs.Common.{◌≡◌, ℕ, Bool, false, zero, suc, ◌+◌, ◌<◌, ◌≤◌, ◌==◌, ◌^◌, if◌then◌else◌, List, [], ◌∷◌}
use Rattle.std.proofs.Common.{◌++◌, length, slice_index, append_assoc, arith, ◌⊎◌, inl, inr, sym, ◌∙◌, ap, subst}
use Rattle.std.proofs.lemmas.Grind.{common_steps}
use Rattle.base_lists.specs.range_index.Tops.{IsTop, RangeLists}

pub record Listing (top : ℕ → ℕ) (at size from : ℕ) (old new : List ℕ) : Type 0 where
  pub more : List ℕ
  pub is : new ≡ old ++ more
  pub each : (i : ℕ) → i < length more → IsTop top at size (slice_index more i)
  pub all : (x : ℕ) → at ≤ x → x < from → (top x ≡ 0) ⊎ ((i : ℕ) × (i < length more) × (slice_index more i ≡ top x))

pub begun : (top : ℕ → ℕ) (at size : ℕ) (old : List ℕ) → Listing top at size at old old
begun top at size old = record {
  more = [];
  is = grind (arith, common_steps);
  each = λ i h. absurd (omega arith);
  all = λ x a b. absurd (omega arith);
}

-- bytes that nothing covers are passed
passed : (top : ℕ → ℕ) (at size from next : ℕ) (old new : List ℕ) → Listing top at size from old new
    → ((x : ℕ) → from ≤ x → x < next → top x ≡ 0) → Listing top at size next old new
passed top at size from next old new l none =
    record {
      more = l.more;
      is = l.is;
      each = l.each;
      all = λ x a b. (
          let case : (x < from) ⊎ (from ≤ x) = grind arith in
          elim case [ inl k ↦ l.all x a k | inr k ↦ inl (none x k b) ]
          );
    }

-- bytes that one number covers, or none, are listed with it
added : (top : ℕ → ℕ) (at size from next number : ℕ) (old new : List ℕ) → Listing top at size from old new
    → IsTop top at size number → ((x : ℕ) → from ≤ x → x < next → (top x ≡ number) ⊎ (top x ≡ 0))
    → Listing top at size next old (new ++ number ∷ [])
added top at size from next number old new l is covers =
    record {
      more = l.more ++ number ∷ [];
      is = ap (λ (xs : List ℕ). xs ++ number ∷ []) l.is ∙ append_assoc old l.more (number ∷ []);
      each = each;
      all = all;
    }
  where
    last : slice_index (l.more ++ number ∷ []) (length l.more) ≡ number
    last = grind (arith, common_steps)

    front : (i : ℕ) → i < length l.more → slice_index (l.more ++ number ∷ []) i ≡ slice_index l.more i
    front i h = grind (arith, common_steps)

    longer : length (l.more ++ number ∷ []) ≡ length l.more + 1
    longer = grind (arith, common_steps)

    each : (i : ℕ) → i < length (l.more ++ number ∷ []) → IsTop top at size (slice_index (l.more ++ number ∷ []) i)
    each i h =
        let case : (i < length l.more) ⊎ (length l.more ≡ i) = grind (arith, longer) in
        elim case [
          | inl k ↦ subst (λ n. IsTop top at size n) (sym (front i k)) (l.each i k)
          | inr k ↦ subst (λ n. IsTop top at size n) (sym (subst (λ j. slice_index (l.more ++ number ∷ []) j ≡ number) k last)) is
        ]

    all : (x : ℕ) → at ≤ x → x < next
        → (top x ≡ 0) ⊎ ((i : ℕ) × (i < length (l.more ++ number ∷ [])) × (slice_index (l.more ++ number ∷ []) i ≡ top x))
    all x a b =
        let case : (x < from) ⊎ (from ≤ x) = grind arith in
        elim case [
          | inl k ↦ elim (l.all x a k) [ inl z ↦ inl z | inr z ↦ inr (z.0, omega (arith, longer, z.1), front z.0 z.1 ∙ z.2) ]
          | inr k ↦ elim (covers x k b) [ inl e ↦ inr (length l.more, omega (arith, longer), last ∙ sym e) | inr z ↦ inl z ]
        ]

-- the bytes from one on that have its number, or none
pub goes_on : (top : ℕ → ℕ) (at size from next number : ℕ) (old new : List ℕ) → Listing top at size from old new
    → at ≤ from → from < at + size → from < 2 ^ 64 → number ≡ top from
    → ((x : ℕ) → from ≤ x → x < next → (top x ≡ number) ⊎ (top x ≡ 0))
    → Listing top at size next old (if number == 0 then new else new ++ number ∷ [])
goes_on top at size from next zero old new l a b f is covers =
    passed top at size from next old new l (λ x p q. elim (covers x p q) [ inl e ↦ e | inr e ↦ e ])
goes_on top at size from next (suc n) old new l a b f is covers =
    let e : (suc n == 0) ≡ false = grind arith in
    subst (λ (xs : List ℕ). Listing top at size next old xs) (sym (ap (λ (t : Bool). if t then new else new ++ suc n ∷ []) e))
    (added top at size from next (suc n) old new l
    (record {
      byte = from;
      behind = a;
      within = b;
      fits = f;
      is = sym is;
      some = omega arith;
    }) covers)

pub whole : (top : ℕ → ℕ) (at size next : ℕ) (old new : List ℕ) → Listing top at size next old new
    → ((x : ℕ) → x < at + size → x < 2 ^ 64 → x < next) → RangeLists top at size old new
whole top at size next old new l far = record { more = l.more; is = l.is; each = l.each; all = λ x a b f. l.all x a (far x b f) }
