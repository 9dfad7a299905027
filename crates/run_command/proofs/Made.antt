-- The files that creates made, one create after the other, and their bytes.
use Rattle.std.proofs.Common.{◌≡◌, ℕ, suc, ◌+◌, ◌≤◌, refl, sym, ap, subst, ◌∙◌, arith, List, [], ◌∷◌, ◌++◌, length, slice_get}
use Rattle.std.proofs.Common.{Option, Some, None, Result, Ok, Err, IfOk, OnOk, append-nil}
use Rattle.std.specs.Prelude.{IsPermutation, IsSortedBy}
use Rattle.std.specs.Cmp.{IsStrictWeakOrder}
use Rattle.std.specs.Cmp.Lexicographic.{nat_list_cmp_total}
use Rattle.std.specs.List.Sorted.{IsStableBy}
use Rattle.std.proofs.lemmas.List.MinMax.{ranks_by}
use Rattle.spec_exchange.specs.Content.{effect, ended, written}
use Rattle.spec_exchange.specs.Operations.{content_op}
use Rattle.client_values.specs.operations.Meaning.{op_of}
use Rattle.client_values.specs.declared.operations.values.OpKind.{OpKind}
use Rattle.client_values.specs.declared.operations.values.OpKind.TheVariants as kinds
use Rattle.client_values.specs.declared.outcomes.outcome.Outcome.{Outcome as Settled}
use Rattle.store_files.specs.declared.file_tree.files.StoredFile.{StoredFile}
use Rattle.store_files.specs.declared.file_extents.extents.Extents.{Extents}
use Rattle.store_files.specs.file_extents.Kept.{IsContent}
use Rattle.run_command.specs.Listing.{AreNumbersOf, at_number, numbers_on}
use Rattle.run_command.specs.MadeFiles.{AddsMade, AreByPath, BytesGoBy, bytes_by, comes_before, file_with, made_file, made_files, path_made}
use Rattle.run_command.proofs.Listed.{at_next, on_ok}

-- ---- bytes

-- what is left of some numbers makes of the bytes so far what all of them make of none
pub record Reached (ops : List OpKind) (outcomes : List Settled) (numbers left : List ℕ) (x : Extents) : Type 0 where
  pub bytes : List ℕ
  pub has : IsContent x bytes
  pub leads : bytes_by ops outcomes left bytes ≡ bytes_by ops outcomes numbers []

pub reached_first : (ops : List OpKind) (outcomes : List Settled) (numbers : List ℕ) (x : Extents) → IsContent x []
    → Reached ops outcomes numbers numbers x
reached_first ops outcomes numbers x h = record { bytes = []; has = h; leads = refl }

pub reached_next : (ops : List OpKind) (outcomes : List Settled) (numbers left rest : List ℕ) (g : ℕ) (x y : Extents) → left ≡ g ∷ rest
    → BytesGoBy (at_number ops g) (at_number outcomes g) x y → Reached ops outcomes numbers left x → Reached ops outcomes numbers rest y
unfolding bytes_by
reached_next ops outcomes numbers left rest g x y parts goes r = record {
  bytes = _;
  has = goes r.bytes r.has;
  leads = ap (λ (l : List ℕ). bytes_by ops outcomes l r.bytes) (sym parts) ∙ r.leads;
}

pub reached_last : (ops : List OpKind) (outcomes : List Settled) (numbers left : List ℕ) (x : Extents) (all : List ℕ) → left ≡ []
    → ((c : List ℕ) → IsContent x c → all ≡ c) → Reached ops outcomes numbers left x → all ≡ bytes_by ops outcomes numbers []
unfolding bytes_by
reached_last ops outcomes numbers left x all none is r =
    is r.bytes r.has ∙ (sym (ap (λ (l : List ℕ). bytes_by ops outcomes l r.bytes) none) ∙ r.leads)

-- ---- one operation

pub wrote : {E : Type 0} (r : Result Unit E) (op : OpKind) (create at : ℕ) (bytes given : List ℕ) (x y : Extents)
    → op ≡ kinds.Write create at bytes → given ≡ bytes → OnOk r ((c : List ℕ) → IsContent x c → IsContent y (written at given c))
    → OnOk r ((c : List ℕ) → IsContent x c → IsContent y (effect (content_op (op_of op)) c))
unfolding effect
wrote r op create at bytes given x y is same h =
    subst (λ (o : OpKind). OnOk r ((c : List ℕ) → IsContent x c → IsContent y (effect (content_op (op_of o)) c))) (sym is)
    (subst (λ (b : List ℕ). OnOk r ((c : List ℕ) → IsContent x c → IsContent y (written at b c))) same h)

pub cut_off : (op : OpKind) (create size : ℕ) (x y : Extents) → op ≡ kinds.SetEnd create size
    → ((c : List ℕ) → IsContent x c → IsContent y (ended size c))
    → (c : List ℕ) → IsContent x c → IsContent y (effect (content_op (op_of op)) c)
unfolding effect
cut_off op create size x y is h =
    subst (λ (o : OpKind). (c : List ℕ) → IsContent x c → IsContent y (effect (content_op (op_of o)) c)) (sym is) h

-- neither a write nor an end
pub quiet : (op : OpKind) (x : Extents) → ((create at : ℕ) (bytes : List ℕ) → op ≡ kinds.Write create at bytes → ⊥)
    → ((create size : ℕ) → op ≡ kinds.SetEnd create size → ⊥) → (c : List ℕ) → IsContent x c
    → IsContent x (effect (content_op (op_of op)) c)
unfolding effect
quiet (kinds.Create path access share disposition persist directory) x no_write no_end c h = h
quiet (kinds.Write create at bytes) x no_write no_end c h = absurd (no_write create at bytes refl)
quiet (kinds.Read create at size) x no_write no_end c h = h
quiet (kinds.SetEnd create size) x no_write no_end c h = absurd (no_end create size refl)
quiet (kinds.SetTime create time) x no_write no_end c h = h
quiet (kinds.Rename create path) x no_write no_end c h = h
quiet (kinds.Remove create) x no_write no_end c h = h
quiet (kinds.Lock create at size exclusive) x no_write no_end c h = h
quiet (kinds.Unlock create at size) x no_write no_end c h = h
quiet (kinds.Flush create) x no_write no_end c h = h
quiet (kinds.Stat create) x no_write no_end c h = h
quiet (kinds.List create) x no_write no_end c h = h
quiet (kinds.Close create) x no_write no_end c h = h

pub ok_with : {T E : Type 0} {P Q : T → Type 0} (r : Result T E) → ((x : T) → P x → Q x) → IfOk r P → IfOk r Q
ok_with (Ok x) f h = f x h
ok_with (Err e) f h = h

pub no_more : {X : Type 0} (xs : List X) → length xs ≡ 0 → xs ≡ []
no_more [] e = refl
no_more (x ∷ xs) e = absurd (let h = e in omega (arith, h))

-- ---- files

abbrev file_of : List ℕ → List ℕ → StoredFile
file_of path bytes = record { path = path; bytes = bytes }

next_path : (ops : List OpKind) (outcomes : List Settled) (place : ℕ) → path_made (slice_get ops place) (slice_get outcomes place)
    ≡ path_made (at_number ops (place + 1)) (at_number outcomes (place + 1))
next_path ops outcomes place =
    ap (λ (o : Option OpKind). path_made o (slice_get outcomes place)) (sym (at_next ops place))
    ∙ ap (λ (o : Option Settled). path_made (at_number ops (place + 1)) o) (sym (at_next outcomes place))

pub file_added : (ops : List OpKind) (outcomes : List Settled) (lists : List (List ℕ)) (place : ℕ) (path own : List ℕ)
    (old new : List StoredFile) → Some path ≡ path_made (slice_get ops place) (slice_get outcomes place)
    → slice_get lists (place + 1) ≡ Some own → new ≡ old ++ file_of path (bytes_by ops outcomes own []) ∷ []
    → AddsMade ops outcomes lists place old new
file_added ops outcomes lists place path own old new made there adds = λ order h.
    adds
    ∙ (ap (λ (l : List ℕ). old ++ file_of path (bytes_by ops outcomes l []) ∷ []) (h.each (place + 1) own there)
    ∙ ap (λ (o : Option (List ℕ)). old ++ file_with o (bytes_by ops outcomes (numbers_on ops order (place + 1)) []))
    (made ∙ next_path ops outcomes place))

pub no_file : (ops : List OpKind) (outcomes : List Settled) (lists : List (List ℕ)) (place : ℕ) (old : List StoredFile)
    → None ≡ path_made (slice_get ops place) (slice_get outcomes place) → AddsMade ops outcomes lists place old old
no_file ops outcomes lists place old made = λ order h.
    sym (append-nil old)
    ∙ ap (λ (o : Option (List ℕ)). old ++ file_with o (bytes_by ops outcomes (numbers_on ops order (place + 1)) []))
    (made ∙ next_path ops outcomes place)

-- those of one operation more
pub more_files : (ops : List OpKind) (outcomes : List Settled) (order : List ℕ) (lists : List (List ℕ)) (old new : List StoredFile) (place : ℕ)
    → AreNumbersOf ops order (length ops + 1) lists → AddsMade ops outcomes lists place old new
    → old ≡ made_files ops outcomes order place → new ≡ made_files ops outcomes order (suc place)
unfolding made_files
more_files ops outcomes order lists old new place h adds so_far =
    adds order h ∙ ap (λ (l : List StoredFile). l ++ made_file ops outcomes order (place + 1)) so_far

pub no_files : (ops : List OpKind) (outcomes : List Settled) (order : List ℕ) → [] ≡ made_files ops outcomes order 0
unfolding made_files
no_files ops outcomes order = refl

pub all_files : (ops : List OpKind) (outcomes : List Settled) (order : List ℕ) (files : List StoredFile) (place count : ℕ)
    → place ≤ count → count ≤ place → files ≡ made_files ops outcomes order place → files ≡ made_files ops outcomes order count
all_files ops outcomes order files place count low high so_far =
    let same : place ≡ count = omega (arith, low, high) in
    so_far ∙ ap (λ (n : ℕ). made_files ops outcomes order n) same

-- ---- their order

pub by_path : IsStrictWeakOrder comes_before
by_path = ranks_by nat_list_cmp_total (λ (f : StoredFile). f.path)

pub sorted_so : {E : Type 0} (r : Result Unit E) (old new : List StoredFile) → IsPermutation old new → OnOk r (IsSortedBy comes_before new)
    → IsStableBy comes_before old new → OnOk r (AreByPath old new)
sorted_so r old new all ascend stable = on_ok r (λ up. record { all = all; ascend = up; of_one_path = stable }) ascend
