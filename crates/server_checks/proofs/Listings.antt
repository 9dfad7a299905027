-- Listings: what goes on, and the last name.
use Rattle.std.proofs.Common.{◌≡◌, ℕ, ◌-◌, Bool, true, false, List, [], ◌∷◌, length, map, Option, Some, None, is_some, slice_get, refl}
use Rattle.std.proofs.Common.{sym, ap}
use Rattle.std.proofs.Common.{◌∙◌, arith}
use Rattle.std.specs.Prelude.{option_map}
use Rattle.spec_exchange.specs.CheckOpen.{file_of, list_from, listing_of, none_wanted}
use Rattle.spec_exchange.specs.Listing.{all_named, fitting, last_name, one_or_all, wanted}
use Rattle.spec_exchange.specs.State.{Server, Named, Listing}
use Rattle.spec_exchange.specs.Status.{info_length_mismatch, no_more_files, no_such_file}
use Rattle.spec_exchange.specs.Table.{is_filled}
use Rattle.spec_exchange.specs.Verdict.{Behind, Show, TurnDown}
use Rattle.store_files.specs.file_tree.Listed.{model_named}
use Rattle.store_files.specs.declared.file_tree.list.Entry.{Entry}

pub some_mapped : {X Y : Type 0} (f : X → Y) (o : Option X) → is_some o ≡ is_some (option_map f o)
some_mapped f None = refl
some_mapped f (Some x) = refl

pub goes_on : (last : Option (List ℕ)) → is_some last ≡ true → no_more_files ≡ none_wanted last
goes_on None e = absurd (cc)
goes_on (Some x) e = refl

pub begins : (last : Option (List ℕ)) → is_some last ≡ false → no_such_file ≡ none_wanted last
begins None e = refl
begins (Some x) e = absurd (cc)

pub none_listed : (o class : ℕ) (last : Option (List ℕ)) (all fit : List Named) → is_filled all ≡ false
    → TurnDown o (none_wanted last) ≡ listing_of o class last all fit
unfolding is_filled listing_of
none_listed o class last [] fit e = refl
none_listed o class last (n ∷ ns) fit e = absurd (cc)

pub none_fits : (o class : ℕ) (last : Option (List ℕ)) (all fit : List Named) → is_filled all ≡ true → fit ≡ []
    → TurnDown o info_length_mismatch ≡ listing_of o class last all fit
unfolding is_filled listing_of
none_fits o class last [] fit e f = absurd (cc)
none_fits o class last (n ∷ ns) [] e f = refl
none_fits o class last (n ∷ ns) (k ∷ ks) e f = absurd (cc)

pub some_fit : (o class : ℕ) (last : Option (List ℕ)) (all fit : List Named) (name : List ℕ) → is_filled all ≡ true
    → is_filled fit ≡ true
    → last_name last fit ≡ Some name → Show o (Behind (Some name)) (Listing class fit) ≡ listing_of o class last all fit
unfolding is_filled listing_of
some_fit o class last [] fit name e f h = absurd (cc)
some_fit o class last (n ∷ ns) [] name e f h = absurd (cc)
some_fit o class last (n ∷ ns) (k ∷ ks) name e f h = ap (λ (z : Option (List ℕ)). Show o (Behind z) (Listing class (k ∷ ks))) (sym h)

-- ---- the last name

at_end : (ys : List Entry) (x e : Entry) (last : Option (List ℕ)) → slice_get (x ∷ ys) (length ys) ≡ Some e
    → last_name last (map model_named (x ∷ ys)) ≡ Some e.name
unfolding last_name
at_end [] x e last h = ap (option_map (λ (k : Entry). k.name)) h
at_end (y ∷ ys) x e last h = at_end ys y e (Some x.name) h

pub last_of : (es : List Entry) (e : Entry) (last : Option (List ℕ)) → Some e ≡ slice_get es (length es - 1)
    → (is_filled (map model_named es) ≡ true) × (last_name last (map model_named es) ≡ Some e.name)
unfolding is_filled
last_of [] e last h = absurd (cc)
last_of (x ∷ xs) e last h = let k : length (x ∷ xs) - 1 ≡ length xs = omega arith in (refl, at_end xs x e last (sym (rw k at h)))

pub no_last : (es : List Entry) → None ≡ slice_get es (length es - 1) → map model_named es ≡ []
no_last [] h = refl
no_last (x ∷ xs) h = absurd (let k : length (x ∷ xs) - 1 ≡ length xs = omega arith in within xs x (sym (rw k at h)))
  where
    within : (ys : List Entry) (y : Entry) → slice_get (y ∷ ys) (length ys) ≡ None → ⊥
    within [] y g = cc
    within (z ∷ zs) y g = within zs z g

pub listed_is : (s : Server) (o class : ℕ) (single : Bool) (pattern : List ℕ) (room : ℕ) (last : Option (List ℕ)) (file : ℕ)
    (found : List Named) → file ≡ file_of s o
    → found ≡ one_or_all single (fitting class room 0 (wanted last pattern (all_named s file)))
    → listing_of o class last (wanted last pattern (all_named s file)) found ≡ list_from s o class single pattern room last
listed_is s o class single pattern room last file found e h =
    ap (listing_of o class last (wanted last pattern (all_named s file))) h
    ∙ ap (λ (g : ℕ). listing_of o class last (wanted last pattern (all_named s g))
    (one_or_all single (fitting class room 0 (wanted last pattern (all_named s g))))) e
