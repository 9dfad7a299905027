-- The names of a listing, entry by entry.
use Rattle.std.proofs.Common.{◌≡◌, ℕ, List, [], ◌∷◌, ◌++◌, map, ◌||◌, Bool, true, false, if◌then◌else◌, refl, ap, ◌∙◌}
use Rattle.std.proofs.lemmas.List.{map-append}
use Rattle.std.specs.Str.{bytes_eq}
use Rattle.spec_exchange.specs.State as says
use Rattle.spec_exchange.specs.Content.{same_bytes}
use Rattle.spec_exchange.specs.Operations.{names_in}
use Rattle.wire_commands.specs.declared.values.reply.Named.{Named}
use Rattle.wire_commands.specs.values.Meaning.{named_of}
use Rattle.client_values.specs.commands.Telling.{reply_told}

pub same_is : (a b : List ℕ) → same_bytes a b ≡ bytes_eq a b
unfolding same_bytes
same_is [] [] = refl
same_is [] (y ∷ ys) = refl
same_is (x ∷ xs) [] = refl
same_is (x ∷ xs) (y ∷ ys) = rw (same_is xs ys) refl

step : (b : Bool) (n : List ℕ) (q r t : List (List ℕ)) → q ≡ r ++ t → (if b then q else n ∷ q) ≡ (if b then r else n ∷ r) ++ t
step true n q r t e = e
step false n q r t e = ap (λ z. n ∷ z) e

one : (b : Bool) (n : List ℕ) → (if b then [] else n ∷ []) ≡ [] ++ (if b then [] else n ∷ [])
one true n = refl
one false n = refl

names_more : (xs : List says.Named) (x : says.Named) → names_in (xs ++ x ∷ []) ≡ names_in xs ++ reply_told x.name
unfolding names_in
names_more [] x = one (same_bytes x.name (46 ∷ []) || same_bytes x.name (46 ∷ 46 ∷ [])) x.name
names_more (y ∷ ys) x =
    step (same_bytes y.name (46 ∷ []) || same_bytes y.name (46 ∷ 46 ∷ [])) y.name (names_in (ys ++ x ∷ []))
    (names_in ys) (reply_told x.name) (names_more ys x)

-- one entry more
pub listed_more : (xs : List Named) (x : Named) → names_in (map named_of (xs ++ x ∷ [])) ≡ names_in (map named_of xs) ++ reply_told x.name
listed_more xs x = ap names_in (map-append named_of xs (x ∷ [])) ∙ names_more (map named_of xs) (named_of x)
