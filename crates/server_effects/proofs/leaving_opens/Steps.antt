-- One more open that left, as the code keeps it.
use Rattle.std.proofs.Common.{◌≡◌, ℕ, ◌+◌, ◌==◌, Bool, true, false, not, ◌&&◌, ◌||◌, if◌then◌else◌, List, ◌++◌, length, nat_le, arith, refl}
use Rattle.std.proofs.Common.{sym, ap, subst, ◌∙◌, append_assoc}
use Rattle.std.proofs.Common.{eqb-true, nat_eq}
use Rattle.std.specs.Prelude.{Option, Some}
use Rattle.std.specs.HashMap.{get}
use Rattle.std.specs.HashSet as set
use Rattle.spec_exchange.specs.State as model
use Rattle.spec_exchange.specs.Files.{root, is_full_directory}
use Rattle.spec_exchange.specs.Opens.{leave_open, leave_records, opens_of}
use Rattle.law_records.proofs.leaving_opens.Left.{left_one}
use Rattle.law_records.specs.leaving_opens.Since.{LeftBehind, was_pending, deletes_at_close, is_last, is_last_full, left_records}
use Rattle.law_records.specs.leaving_opens.Since.{goes_with, is_kept_with, parted_records, records_behind}
use Rattle.server_effects.specs.declared.leaving_opens.leaving.Left.{Left}
use Rattle.server_effects.specs.declared.leaving_opens.leaving.Leaving.{Leaving}
use Rattle.server_effects.specs.declared.leaving_opens.step.Step.{Step}
use Rattle.server_effects.specs.leaving_opens.Left.{left_of, opens_left, marked_by, went_with, goes_now, kept_now, HasLeft, IsStep}
use Rattle.server_effects.specs.Fates.{fate_of, removed_by, unmarked_by}
use Rattle.server_effects.proofs.Parted.{goes_is, unmarked_is}

-- a directory that is kept back doesn't go
apart : (m r n d : Bool) → (m && (not r && (n && d))) ≡ true → (m && (not r && (n && not d))) ≡ false
apart m r n d h = grind arith

goes_so : (l : Leaving) (s u : model.Server) (row : model.Open) (p : Step) → IsStep l s u row p
    → removed_by p.fate ≡ goes_with (opens_left l) (marked_by l) s u row
goes_so l s u row p i =
    ap removed_by i.fate_is
    ∙ goes_is (is_kept_with (opens_left l) (marked_by l) s u row) (goes_with (opens_left l) (marked_by l) s u row)
    (apart (was_pending (marked_by l) s row.file || deletes_at_close row) (row.file == root)
    (nat_le (length (opens_of s row.file)) (opens_left l row.file + 1)) (is_full_directory u row.file))

unmarks_so : (l : Leaving) (s u : model.Server) (row : model.Open) (p : Step) → IsStep l s u row p
    → unmarked_by p.fate ≡ is_kept_with (opens_left l) (marked_by l) s u row
unmarks_so l s u row p i =
    ap unmarked_by i.fate_is
    ∙ unmarked_is (is_kept_with (opens_left l) (marked_by l) s u row) (goes_with (opens_left l) (marked_by l) s u row)

behind : (l m : Leaving) (p : Step) (s u : model.Server) (row : model.Open) (goes : Bool) → goes ≡ removed_by p.fate → IsStep l s u row p
    → ((q : ℕ) → get nat_eq m.files q ≡ (if q == row.file then Some p.left else get nat_eq l.files q))
    → ((q : ℕ) → set.contains nat_eq m.gone q ≡ (if q == row.file then goes || set.contains nat_eq l.gone q else
    set.contains nat_eq l.gone q))
    → LeftBehind (opens_left l) (marked_by l) (went_with l) (opens_left m) (marked_by m) (went_with m) s u row
behind l m p s u row goes w i f g = record {
  more_is = λ q. ap (λ (v : Option Left). (left_of v).opens) (f q) ∙ more q (q == row.file) refl;
  marks_is = λ q. ap (λ (v : Option Left). (left_of v).pending) (f q) ∙ marks q (q == row.file) refl;
  gone_is = λ q. g q ∙ ap (λ (b : Bool). if q == row.file then b || went_with l q else went_with l q) (w ∙ goes_so l s u row p i);
}
  where
    more : (q : ℕ) (b : Bool) → (q == row.file) ≡ b → (left_of (if b then Some p.left else get nat_eq l.files q)).opens
        ≡ (if b then opens_left l q + 1 else opens_left l q)
    more q true e = i.opens_is ∙ ap (λ (z : ℕ). opens_left l z + 1) (sym (eqb-true q row.file e))
    more q false e = refl

    marks : (q : ℕ) (b : Bool) → (q == row.file) ≡ b
        → (left_of (if b then Some p.left else get nat_eq l.files q)).pending ≡ (if b then was_pending (marked_by l) s q
        || deletes_at_close row else marked_by l q)
    marks q true e = i.pending_is ∙ ap (λ (z : ℕ). was_pending (marked_by l) s z || deletes_at_close row) (sym (eqb-true q row.file e))
    marks q false e = refl

-- what an open makes of its file, by what was found of it
pub told_step : (l : Leaving) (s u : model.Server) (row : model.Open) (p : Step) (before del : Bool)
    → before ≡ was_pending (marked_by l) s row.file → del ≡ deletes_at_close row → p.left.opens ≡ opens_left l row.file + 1
    → p.left.pending ≡ (before || del) → p.marks ≡ (del && not before)
    → p.fate ≡ fate_of (kept_now l s u row.file (before || del)) (goes_now l s u row.file (before || del)) → IsStep l s u row p
told_step l s u row p before del b d more pending marks fate = record {
  opens_is = more;
  pending_is = pending ∙ either before del _ _ b d;
  marks_is = marks ∙ ap (λ (v : Bool). v && not before) d ∙ ap (λ (v : Bool). deletes_at_close row && not v) b;
  fate_is = fate ∙ ap (λ (v : Bool). fate_of (v && is_last_full (opens_left l) s u row.file) (v && is_last (opens_left l) s u row.file))
      (either before del _ _ b d);
}
  where
    either : (a c x y : Bool) → a ≡ x → c ≡ y → (a || c) ≡ (x || y)
    either a c x y e f = ap (λ (v : Bool). v || c) e ∙ ap (λ (v : Bool). x || v) f

-- with its records
pub left_in : (l m : Leaving) (p : Step) (s u : model.Server) (o : ℕ) (origin : model.Origin) (row : model.Open)
    (r0 r1 r2 : List model.Record) (goes : Bool)
    → s.opened o ≡ row → IsStep l s u row p
    → ((q : ℕ) → get nat_eq m.files q ≡ (if q == row.file then Some p.left else get nat_eq l.files q))
    → ((q : ℕ) → set.contains nat_eq m.gone q ≡ (if q == row.file then goes || set.contains nat_eq l.gone q else
    set.contains nat_eq l.gone q))
    → HasLeft l s u → u.standing o ≡ true
    → r1 ≡ r0 ++ left_records row.persistent origin o row.file p.marks → r2 ≡ r1 ++ parted_records (unmarked_by p.fate) (removed_by p.fate) origin row.file
    → goes ≡ removed_by p.fate → HasLeft m s (leave_open u o) × (r2 ≡ r0 ++ leave_records u origin o)
left_in l m p s u o origin row r0 r1 r2 goes e i f g left stands h1 h2 w = (a.0, all)
  where
    a : HasLeft m s (leave_open u o) × (leave_records u origin o ≡ records_behind (opens_left l) (marked_by l) s u origin o (s.opened o))
    a = left_one (opens_left l) (opens_left m) (marked_by l) (went_with l) (marked_by m) (went_with m) s u o origin left stands
        (subst (λ (r : model.Open). LeftBehind (opens_left l) (marked_by l) (went_with l) (opens_left m)
        (marked_by m) (went_with m) s u r) (sym e) (behind l m p s u row goes w i f g))

    told : (marks marks2 kept kept2 gone gone2 : Bool) → marks ≡ marks2 → kept ≡ kept2 → gone ≡ gone2
        → left_records row.persistent origin o row.file marks ++ parted_records kept gone origin row.file
        ≡ left_records row.persistent origin o row.file marks2 ++ parted_records kept2 gone2 origin row.file
    told marks marks2 kept kept2 gone gone2 x y z = rw (x, y, z) refl

    all : r2 ≡ r0 ++ leave_records u origin o
    all =
        h2 ∙ ap (λ (v : List model.Record). v ++ parted_records (unmarked_by p.fate) (removed_by p.fate) origin row.file) h1
        ∙ append_assoc r0 (left_records row.persistent origin o row.file p.marks)
        (parted_records (unmarked_by p.fate) (removed_by p.fate) origin row.file)
        ∙ ap (λ (v : List model.Record). r0 ++ v) (told p.marks _ (unmarked_by p.fate) _ (removed_by p.fate) _ i.marks_is
        (unmarks_so l s u row p i) (goes_so l s u row p i)
        ∙ ap (λ (r : model.Open). records_behind (opens_left l) (marked_by l) s u origin o r) (sym e) ∙ sym a.1)
