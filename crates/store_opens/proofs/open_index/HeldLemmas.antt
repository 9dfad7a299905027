-- The opens of a file in a list of opens, behind one that comes or goes.
use Rattle.std.proofs.Common.{◌≡◌, ◌≤◌, ℕ, ◌+◌, ◌==◌, nat_lt, Bool, true, false, not, if◌then◌else◌, List, [], ◌∷◌}
use Rattle.std.proofs.Common.{length, map, filter, Option, Some, None, refl, sym, ap, ◌∙◌, arith, eqb-true}
use Rattle.std.proofs.lemmas.Grind.{common_steps}
use Rattle.spec_exchange.specs.Table.{put, has, without, placed_in, is_filled}
use Rattle.spec_exchange.specs.State as model
use Rattle.spec_exchange.specs.Opens.{opens_in, admits}
use Rattle.spec_exchange.specs.Ranges.{without_owner}
use Rattle.law_server.specs.tables.Fits.{is_ascending}
use Rattle.law_server.proofs.tables.Logic.{either}
use Rattle.law_server.proofs.tables.Lists.{has-placed, ascending-placed}
use Rattle.store_opens.specs.declared.share_modes.lists.Open.{Open}
use Rattle.store_opens.specs.declared.share_modes.lists.Range.{Range}
use Rattle.store_opens.specs.share_modes.Sharing.{count_of, admit_all}
use Rattle.store_opens.specs.share_modes.Locking.{range_of}
use Rattle.store_opens.specs.declared.open_index.held.FileOpens.{FileOpens}
use Rattle.store_opens.specs.open_index.Held.{sharing_of, sharing_in, HeldShown}
use Rattle.store_opens.proofs.open_index.Lists.{without_absent, behind_front, rest_ascends, without_placed}

-- ---- what the model looks at

pub admits_is : (opened : ℕ → model.Open) (os : List ℕ) (f access share : ℕ)
    → admits opened (opens_in opened os f) access share ≡ admit_all (sharing_in opened os f) access share
unfolding admits opens_in
admits_is opened [] f access share = refl
admits_is opened (o ∷ os) f access share = let e = admits_is opened os f access share in grind (arith, common_steps)

pub open_is : (opened : ℕ → model.Open) (os : List ℕ) (f : ℕ)
    → is_filled (opens_in opened os f) ≡ nat_lt 0 (length (sharing_in opened os f))
unfolding is_filled opens_in
open_is opened [] f = refl
open_is opened (o ∷ os) f = let e = open_is opened os f in grind (arith, common_steps)

pub opens_counted : (opened : ℕ → model.Open) (os : List ℕ) (f : ℕ) → length (opens_in opened os f) ≡ length (sharing_in opened os f)
unfolding opens_in
opens_counted opened [] f = refl
opens_counted opened (o ∷ os) f = let e = opens_counted opened os f in grind (arith, common_steps)

pub owners_are : (o : ℕ) (rs : List Range) → without_owner o (map range_of rs) ≡ map range_of (filter (λ r. not (r.owner == o)) rs)
unfolding without_owner
owners_are o [] = refl
owners_are o (r ∷ rs) = let e = owners_are o rs in grind (arith, common_steps)

-- ---- lists of a file

pub sharing_length : (opened : ℕ → model.Open) (os : List ℕ) (f : ℕ)
    → length (sharing_in opened os f) ≡ count_of (λ x. true) (sharing_in opened os f)
sharing_length opened [] f = refl
sharing_length opened (o ∷ os) f = let e = sharing_length opened os f in grind (arith, common_steps)

pub counted : (xs : List Open) → length xs ≡ count_of (λ x. true) xs
counted [] = refl
counted (x ∷ xs) = let e = counted xs in grind (arith, common_steps)

-- one in an ascending list counts once
count_step : (p : Open → Bool) (opened : ℕ → model.Open) (o x f : ℕ) (xs : List ℕ) (b : Bool) → (x == o) ≡ b
    → (b ≡ true → has o xs ≡ false)
    → (b ≡ false → count_of p (sharing_in opened xs f)
    ≡ (if (opened o).file == f then (if p (sharing_of o (opened o)) then 1 else 0) else 0)
    + count_of p (sharing_in opened (without o xs) f))
    → count_of p (sharing_in opened (x ∷ xs) f)
    ≡ (if (opened o).file == f then (if p (sharing_of o (opened o)) then 1 else 0) else 0)
    + count_of p (sharing_in opened (without o (x ∷ xs)) f)
count_step p opened o x f xs true e front rest = let w = without_absent o xs (front refl) in let same = eqb-true x o e
    in grind (arith, common_steps)
count_step p opened o x f xs false e front rest = let r = rest refl in grind (arith, common_steps)

pub count_shared : (p : Open → Bool) (opened : ℕ → model.Open) (o f : ℕ) (os : List ℕ) → is_ascending os ≡ true → has o os ≡ true
    → count_of p (sharing_in opened os f)
    ≡ (if (opened o).file == f then (if p (sharing_of o (opened o)) then 1 else 0) else 0)
    + count_of p (sharing_in opened (without o os) f)
count_shared p opened o f [] a h = absurd (cc)
count_shared p opened o f (x ∷ xs) a h =
    count_step p opened o x f xs (x == o) refl (behind_front o x xs a)
    (λ e. count_shared p opened o f xs (rest_ascends x xs a) (grind arith))

pub sharing_put : (opened : ℕ → model.Open) (o f : ℕ) (row : model.Open) (os : List ℕ) → has o os ≡ false
    → sharing_in (put opened o row) os f ≡ sharing_in opened os f
sharing_put opened o f row [] h = refl
sharing_put opened o f row (x ∷ xs) h = let e = sharing_put opened o f row xs in grind (arith, common_steps)

pub sharing_without : (opened : ℕ → model.Open) (o f : ℕ) (os : List ℕ) → ((opened o).file == f) ≡ false
    → sharing_in opened (without o os) f ≡ sharing_in opened os f
sharing_without opened o f [] h = refl
sharing_without opened o f (x ∷ xs) h =
    let e = sharing_without opened o f xs h in
    either (λ ys. sharing_in opened ys f ≡ sharing_in opened (x ∷ xs) f) (x == o) (without o xs) (x ∷ without o xs)
    (λ q. let same = eqb-true x o q in grind (arith, common_steps)) (λ q. grind (arith, common_steps))

-- ---- rows of files

empty_of : (xs : List Open) → length xs ≡ 0 → xs ≡ []
empty_of [] h = refl
empty_of (x ∷ xs) h = absurd (grind arith)

-- rows speak of counts alone
pub held_same : (r : Option FileOpens) (xs ys : List Open) (ranges : List model.Range)
    → ((p : Open → Bool) → count_of p xs ≡ count_of p ys) → HeldShown r xs ranges → HeldShown r ys ranges
held_same None xs ys ranges same h = (empty_of ys (counted ys ∙ sym (same (λ x. true)) ∙ sym (counted xs) ∙ ap length h.0), h.1)
held_same (Some r) xs ys ranges same h =
    record {
      count_is = counted ys ∙ sym (same (λ x. true)) ∙ sym (counted xs) ∙ h.count_is;
      shares_are = record {
        readers = sym (same _) ∙ h.shares_are.readers;
        writers = sym (same _) ∙ h.shares_are.writers;
        deleters = sym (same _) ∙ h.shares_are.deleters;
        deny_read = sym (same _) ∙ h.shares_are.deny_read;
        deny_write = sym (same _) ∙ h.shares_are.deny_write;
        deny_delete = sym (same _) ∙ h.shares_are.deny_delete;
      };
      ranges_are = h.ranges_are;
    }

here_once : (f : ℕ) (n m : ℕ) → (if f == f then n else 0) + m ≡ n + m
here_once f n m = grind arith

-- an open of this file leaves the list, or stands in it
pub counts_split : (opened : ℕ → model.Open) (o : ℕ) (os : List ℕ) → is_ascending os ≡ true → has o os ≡ true → (p : Open → Bool)
    → count_of p (sharing_in opened os (opened o).file)
    ≡ count_of p (sharing_of o (opened o) ∷ sharing_in opened (without o os) (opened o).file)
counts_split opened o os a h p = count_shared p opened o (opened o).file os a h
    ∙ here_once (opened o).file (if p (sharing_of o (opened o)) then 1 else 0)
    (count_of p (sharing_in opened (without o os) (opened o).file))

-- a new open of this file
pub counts_added : (opened : ℕ → model.Open) (o : ℕ) (row : model.Open) (os : List ℕ) → is_ascending os ≡ true
    → has o os ≡ false → (p : Open → Bool)
    → count_of p (sharing_of o row ∷ sharing_in opened os row.file) ≡ count_of p (sharing_in (put opened o row) (placed_in o os) row.file)
counts_added opened o row os a h p =
    let c = count_shared p (put opened o row) o row.file (placed_in o os) (ascending-placed o os a h) (has-placed o o os ∙ grind arith) in
    let w = without_placed o os h in
    let s = sharing_put opened o row.file row os h in
    grind (arith, common_steps)

pub sharing_added : (opened : ℕ → model.Open) (o f : ℕ) (row : model.Open) (os : List ℕ) → has o os ≡ false
    → (row.file == f) ≡ false → sharing_in (put opened o row) (placed_in o os) f ≡ sharing_in opened os f
sharing_added opened o f row os h ne =
    let w = without_placed o os h in
    let s = sharing_put opened o f row os h in
    let t = sharing_without (put opened o row) o f (placed_in o os) (grind arith) in
    grind (arith, common_steps)

pub sharing_few : (opened : ℕ → model.Open) (os : List ℕ) (f : ℕ) → length (sharing_in opened os f) ≤ length os
sharing_few opened [] f = omega arith
sharing_few opened (o ∷ os) f = let e = sharing_few opened os f in grind (arith, common_steps)
