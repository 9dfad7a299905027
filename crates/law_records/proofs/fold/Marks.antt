-- The marks that a start clears, over numbers: those of files that aren't delete pending owe nothing, so that ascending numbers which
-- hold all that are owe the same.
use Rattle.std.proofs.Common.{◌≡◌, ℕ, ◌<◌, ◌==◌, Bool, true, false, not, ◌&&◌, ◌||◌, if◌then◌else◌, List, [], ◌∷◌, ◌++◌}
use Rattle.std.proofs.Common.{refl, sym, ap, ◌∙◌, arith}
use Rattle.std.proofs.lemmas.Bool.Decides.{nat_tests}
use Rattle.spec_exchange.specs.Table.{has}
use Rattle.spec_exchange.specs.State.{Server, Entry, Record, DeleteRecord}
use Rattle.spec_exchange.specs.Files.{root, exists, exists_in}
use Rattle.spec_exchange.specs.Opens.{file_has_open}
use Rattle.spec_exchange.specs.Records.{origin_at}
use Rattle.spec_exchange.specs.Fold.{is_left_pending, mark_records, unmark_records}
use Rattle.law_server.specs.tables.Fits.{Fits, is_ascending}
use Rattle.law_records.specs.fold.Order.{numbers, FilesAscend, mark_at, marks_of}
use Rattle.law_records.proofs.fold.Numbers.{has_numbers, here}
use Rattle.law_records.proofs.fold.Swept.{kept, has_kept, kept_ascends, same_lists, both_have}

abbrev may_lose : Server → ℕ → Bool
may_lose s f = exists_in s.entries f && s.delete_pending f

off : (r e d o : Bool) → (e && d) ≡ false → (not r && (((r || e) && d) && not o)) ≡ false
off r e d o h = grind arith

at_off : (s : Server) (f : ℕ) → may_lose s f ≡ false → mark_at s f ≡ []
unfolding exists
at_off s f h = ap (λ (b : Bool). if b then DeleteRecord (origin_at 0) f false ∷ [] else [])
    (off (f == root) (exists_in s.entries f) (s.delete_pending f) (file_has_open s f) h)

marks_kept : (s : Server) (xs : List ℕ) → marks_of s xs ≡ marks_of s (kept (λ (f : ℕ). may_lose s f) xs)
unfolding marks_of kept
marks_kept s [] = refl
marks_kept s (x ∷ xs) = by (may_lose s x) refl (marks_kept s xs)
  where
    by : (b : Bool) → may_lose s x ≡ b → marks_of s xs ≡ marks_of s (kept (λ (f : ℕ). may_lose s f) xs)
        → mark_at s x ++ marks_of s xs
        ≡ marks_of s (if b then x ∷ kept (λ (f : ℕ). may_lose s f) xs else kept (λ (f : ℕ). may_lose s f) xs)
    by true e rest = ap (λ (rs : List Record). mark_at s x ++ rs) rest
    by false e rest = ap (λ (rs : List Record). rs ++ marks_of s xs) (at_off s x e) ∙ rest

-- ---- in the order of the entries

same_test : (r e d o : Bool) → r ≡ false → e ≡ true → (d && not o) ≡ (not r && (((r || e) && d) && not o))
same_test r e d o a b = grind arith

later : (x f : ℕ) (xs : List ℕ) → has f xs ≡ true → has f (x ∷ xs) ≡ true
later x f xs h = grind arith

numbered : (s : Server) (es : List Entry)
    → ((f : ℕ) → has f (numbers es) ≡ true → exists_in s.entries f ≡ true × (f == root) ≡ false)
    → unmark_records s es ≡ marks_of s (numbers es)
unfolding unmark_records mark_records is_left_pending marks_of numbers exists
numbered s [] h = refl
numbered s (e ∷ es) h =
    let n = h e.file (here e.file (numbers es)) in
    ap (λ (b : Bool). (if b then DeleteRecord (origin_at 0) e.file false ∷ [] else []) ++ unmark_records s es)
    (same_test (e.file == root) (exists_in s.entries e.file) (s.delete_pending e.file) (file_has_open s e.file) n.1 n.0)
    ∙ ap (λ (rs : List Record). mark_at s e.file ++ rs) (numbered s es (λ f g. h f (later e.file f (numbers es) g)))

not_root : (f : ℕ) → 0 < f → (f == 0) ≡ false
not_root f l = grind (arith, nat_tests)

pub marks_whole : (s : Server) (fs : List ℕ) → Fits s → FilesAscend s → is_ascending fs ≡ true
    → ((f : ℕ) → exists_in s.entries f ≡ true → s.delete_pending f ≡ true → has f fs ≡ true)
    → unmark_records s s.entries ≡ marks_of s fs
marks_whole s fs i a b h =
    let p = λ (f : ℕ). may_lose s f in
    let same = same_lists (kept p (numbers s.entries)) (kept p fs) (kept_ascends p (numbers s.entries) a) (kept_ascends p fs b)
    (λ f. has_kept p f (numbers s.entries)
    ∙ (both_have (exists_in s.entries f) (s.delete_pending f) (has f fs) (has f (numbers s.entries)) (has_numbers f s.entries) (h f)
    ∙ sym (has_kept p f fs))) in
    numbered s s.entries (λ f g. let there = sym (has_numbers f s.entries) ∙ g in (there, not_root f (i.file_numbers f there).0))
    ∙ (marks_kept s (numbers s.entries)
    ∙ (ap (λ (v : List ℕ). marks_of s v) same ∙ sym (marks_kept s fs)))
