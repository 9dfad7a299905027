-- A walk along the index takes the names of a directory, one after another.
use Rattle.std.proofs.Common.{◌≡◌, ℕ, Bool, true, false, not, ◌&&◌, if◌then◌else◌}
use Rattle.std.proofs.Common.{List, [], ◌∷◌, length, drop, String, Option, Some}
use Rattle.std.proofs.Common.{refl, ap, arith}
use Rattle.std.specs.Bool.{⊤}
use Rattle.std.proofs.lemmas.Grind.{common_steps}
use Rattle.std.proofs.lemmas.Bool.Decides.{nat_tests}
use Rattle.std.specs.String.{string_bytes, string_cmp}
use Rattle.std.specs.Ordering.{is_le, is_gt, nat_cmp}
use Rattle.std.specs.declared.cmp.Ordering.{Ordering}
use Rattle.std.specs.declared.cmp.Ordering.TheVariants.{Less, Equal, Greater}
use Rattle.std.specs.declared.ops.Bound.TheVariants.{Included, Unbounded}
use Rattle.std.specs.BTreeMap.Range.{entries_between}
use Rattle.std.specs.Cmp.Lexicographic.{slice_cmp}
use Rattle.spec_exchange.specs.State.{Named}
use Rattle.store_files.specs.file_tree.Keys.{key_begins, key_le, has_slash}
use Rattle.store_files.specs.file_tree.Listed.{from_key, kids}
use Rattle.store_files.proofs.file_tree.Order.{front_between}
use Rattle.store_files.proofs.file_tree.Pairs.{AreLater, AreFrom}

le_is : (o : Ordering) → (is_le o && true) ≡ not (is_gt o)
le_is Less = refl
le_is Equal = refl
le_is Greater = refl

pub le_more : (a b c : List ℕ) → key_le a b ≡ true → key_le b c ≡ true → key_le a c ≡ true
le_more [] [] c d e = e
le_more [] (y ∷ ys) [] d e = refl
le_more [] (y ∷ ys) (z ∷ zs) d e = refl
le_more (x ∷ xs) [] c d e = absurd (cc)
le_more (x ∷ xs) (y ∷ ys) [] d e = absurd (cc)
le_more (x ∷ xs) (y ∷ ys) (z ∷ zs) d e = let h = le_more xs ys zs in grind (arith, common_steps, nat_tests)

module _ {Y : Type 0} where
  pub from_is : (start : String Y) (es : List (String Y × ℕ)) → entries_between string_cmp (Included start) Unbounded es
      ≡ from_key (string_bytes start) es
  from_is start [] = refl
  from_is start (e ∷ es) = by (is_le (string_cmp start e.0) && true) (key_le (string_bytes start) (string_bytes e.0))
      (le_is (string_cmp start e.0)) (from_is start es)
    where
      by : (b c : Bool) → b ≡ c → entries_between string_cmp (Included start) Unbounded es ≡ from_key (string_bytes start) es
          → (if b then e ∷ entries_between string_cmp (Included start) Unbounded es else entries_between string_cmp
          (Included start) Unbounded es)
          ≡ (if c then e ∷ from_key (string_bytes start) es else from_key (string_bytes start) es)
      by true true i t = ap (λ (l : List (String Y × ℕ)). e ∷ l) t
      by true false i t = absurd (cc)
      by false true i t = absurd (cc)
      by false false i t = t

  -- each of them is what its key finds
  abbrev pub AllFound : (List ℕ → Option ℕ) → List (String Y × ℕ) → Type 0
  AllFound at [] = ⊤
  AllFound at (e ∷ es) = (at (string_bytes e.0) ≡ Some e.1) × AllFound at es

  pub found_from : (at : List ℕ → Option ℕ) (start : List ℕ) (es : List (String Y × ℕ)) → AllFound at es → AllFound at (from_key start es)
  found_from at start [] h = tt
  found_from at start (e ∷ es) h = by (key_le start (string_bytes e.0)) (found_from at start es h.1)
    where
      by : (b : Bool) → AllFound at (from_key start es) → AllFound at (if b then e ∷ from_key start es else from_key start es)
      by true t = (h.0, t)
      by false t = t

  pub are_from : (start : List ℕ) (es : List (String Y × ℕ)) → AreFrom start (from_key start es)
  are_from start [] = tt
  are_from start (e ∷ es) = by (key_le start (string_bytes e.0)) refl (are_from start es)
    where
      by : (b : Bool) → key_le start (string_bytes e.0) ≡ b → AreFrom start (from_key start es)
          → AreFrom start (if b then e ∷ from_key start es else from_key start es)
      by true i t = (i, t)
      by false i t = t

  pub from_more : (a b : List ℕ) (es : List (String Y × ℕ)) → key_le a b ≡ true → AreFrom b es → AreFrom a es
  from_more a b [] l h = tt
  from_more a b (e ∷ es) l h = (le_more a b (string_bytes e.0) l h.0, from_more a b es l h.1)

  -- behind the first that doesn't begin so there is no name
  pub no_kids : (names : ℕ → Named) (front : List ℕ) (e : String Y × ℕ) (es : List (String Y × ℕ))
      → key_begins front (string_bytes e.0) ≡ false → key_le front (string_bytes e.0) ≡ true
      → AreLater (string_bytes e.0) es → kids names front (e ∷ es) ≡ []
  no_kids names front e es n l later = rw n (rest es later)
    where
      less : (a b : List ℕ) → slice_cmp nat_cmp a b ≡ Less → key_le a b ≡ true
      less a b i = rw i refl

      off : (x : String Y × ℕ) → slice_cmp nat_cmp (string_bytes e.0) (string_bytes x.0) ≡ Less → (c : Bool)
          → key_begins front (string_bytes x.0) ≡ c → c ≡ false
      off x i false t = refl
      off x i true t = absurd (let y = front_between front (string_bytes e.0) (string_bytes x.0) l
          (less (string_bytes e.0) (string_bytes x.0) i) t in cc)

      rest : (xs : List (String Y × ℕ)) → AreLater (string_bytes e.0) xs → kids names front xs ≡ []
      rest [] h = refl
      rest (x ∷ xs) h = rw (off x h.0 (key_begins front (string_bytes x.0)) refl) (rest xs h.1)

  pub kid_passed : (names : ℕ → Named) (front : List ℕ) (e : String Y × ℕ) (es : List (String Y × ℕ))
      → has_slash (drop (length front) (string_bytes e.0)) ≡ true
      → kids names front (e ∷ es) ≡ kids names front es
  kid_passed names front e es i = by (key_begins front (string_bytes e.0)) (has_slash (drop (length front) (string_bytes e.0))) i
    where
      by : (b c : Bool) → c ≡ true → (if b && not c then names e.1 ∷ kids names front es else kids names front es) ≡ kids names front es
      by true true i = refl
      by true false i = absurd (cc)
      by false c i = refl

  pub kid_taken : (names : ℕ → Named) (front : List ℕ) (e : String Y × ℕ) (es : List (String Y × ℕ))
      → key_begins front (string_bytes e.0) ≡ true → has_slash (drop (length front) (string_bytes e.0)) ≡ false
      → kids names front (e ∷ es) ≡ names e.1 ∷ kids names front es
  kid_taken names front e es i j = rw (i, j) refl
