-- A body that is read, and the bodies behind those that were handed out.
use Rattle.std.proofs.Common.{◌≡◌, inl, inr, ℕ, zero, suc, ◌+◌, ◌^◌, ◌<◌, ◌≤◌, List, [], ◌∷◌, ◌++◌, length, take, drop}
use Rattle.std.proofs.Common.{get_or, Option, Some, None, Result, Err, refl, sym, ◌∙◌, ap, subst, arith, append_assoc}
use Rattle.std.proofs.Common.{length-append, take-append-drop}
use Rattle.std.proofs.lemmas.List.{take_at, drop_at, drop-drop, drop_more, take_more, take_all}
use Rattle.std.proofs.lemmas.Bool.{cases_lt}
use Rattle.spec_wire.specs.messages.Places.{le, number_of}
use Rattle.spec_wire.proofs.messages.Numbers.{number_of-le, length-le}
use Rattle.base_outside.specs.streams.Disk.{Only}
use Rattle.spec_wire.specs.journal.Grammar.{AllFit}
use Rattle.spec_journal.specs.declared.form.Form.{Form}
use Rattle.spec_journal.specs.Forms.{form_mark, sum_size, form_sum, form_entry, form_opened, form_front, StandsFor}
use Rattle.journal.specs.declared.disk_journal.read.NoBody.{NoBody}
use Rattle.journal.specs.declared.disk_journal.read.NoBody.TheVariants.{EndsEarly}
use Rattle.journal.specs.disk_journal.Read.{EntryAt, TellsLength, GivesBody}
use Rattle.journal.specs.declared.disk_journal.read.Found.{Found}
use Rattle.journal.specs.declared.disk_journal.read.Found.TheVariants.{Behind}
use Rattle.journal.specs.disk_journal.Journal.{JournalState, JournalSettled}
use Rattle.journal.specs.disk_journal.Repair.{Rests, Mends}
use Rattle.journal.proofs.disk_journal.Grown.{length-sum, length-mark, length-entry, length-front-push}
use Rattle.journal.proofs.disk_journal.Meaning.{stands_for_one}

module _ (form : Form) (gate end : ℕ) (before body rest bytes : List ℕ) (at_gate : EntryAt form gate end before body rest bytes) where
  to_gate : length (before ++ 1 ∷ []) ≡ gate + 1
  to_gate = omega (arith, length-append before (1 ∷ []), at_gate.place)

  entry_at : drop (gate + 1) bytes ≡ form_entry form body ++ rest
  entry_at = ap (λ (l : List ℕ). drop (gate + 1) l) (at_gate.spelled
      ∙ sym (append_assoc before (1 ∷ []) (form_entry form body ++ rest))) ∙ drop_at (before ++ 1 ∷ []) (form_entry form body ++ rest)
      (gate + 1) to_gate

  four : length (le 4 (length body)) ≡ 4
  four = length-le 4 (length body)

  -- what is read lies on the disk
  pub long : length bytes ≡ gate + 5 + sum_size form + length body + length rest
  long =
      let whole : length bytes ≡ length before + length (1 ∷ (form_entry form body ++ rest)) = ap length at_gate.spelled
      ∙ length-append before (1 ∷ (form_entry form body ++ rest)) in
      let behind : length (form_entry form body ++ rest) ≡ length (form_entry form body) + length rest =
      length-append (form_entry form body) rest in
      omega (arith, whole, behind, length-entry form body, at_gate.place)

  length_there : take 4 (drop (gate + 1) bytes) ≡ le 4 (length body)
  length_there = ap (λ (l : List ℕ). take 4 l) (entry_at ∙ append_assoc (le 4 (length body)) (form_sum form body ++ body) rest)
      ∙ take_at (le 4 (length body)) ((form_sum form body ++ body) ++ rest) 4 four

  pub length_is : (n : ℕ) → TellsLength (take 4 (drop (gate + 1) bytes)) (Some n) → n ≡ length body
  length_is n tells =
      sym (number_of-le 4 n tells.1) ∙ ap number_of (tells.0 ∙ length_there) ∙ number_of-le 4 (length body) at_gate.small

  abbrev both_heads : List ℕ
  both_heads = le 4 (length body) ++ form_sum form body

  length-heads : length both_heads ≡ 4 + sum_size form
  length-heads = omega (arith, length-append (le 4 (length body)) (form_sum form body), four, length-sum form body)

  regrouped : form_entry form body ++ rest ≡ both_heads ++ (body ++ rest)
  regrouped = ap (λ (l : List ℕ). l ++ rest) (sym (append_assoc (le 4 (length body)) (form_sum form body) body))
      ∙ append_assoc both_heads body rest

  pub body_there : (n k : ℕ) → k ≡ sum_size form → n ≡ length body → take n (drop (gate + 5 + k) bytes) ≡ body
  body_there n k sum is =
      let place : gate + 5 + k ≡ (gate + 1) + (4 + sum_size form) = omega (arith, sum) in
      ap (λ (j : ℕ). take n (drop j bytes)) place
      ∙ ap (λ (l : List ℕ). take n l) (sym (drop-drop (4 + sum_size form) (gate + 1) bytes)
      ∙ ap (λ (l : List ℕ). drop (4 + sum_size form) l) (entry_at ∙ regrouped)
      ∙ drop_at both_heads (body ++ rest) (4 + sum_size form) length-heads)
      ∙ take_at body rest n (sym is)

pub tells_some : (m : List ℕ) (o : Option ℕ) (n : ℕ) → o ≡ Some n → TellsLength m o → TellsLength m (Some n)
tells_some m o n is tells = subst (λ (p : Option ℕ). TellsLength m p) is tells

pub tells_none : (m : List ℕ) (o : Option ℕ) → o ≡ None → TellsLength m o → ⊥
tells_none m o is tells = subst (λ (p : Option ℕ). TellsLength m p) is tells

pub gives : (form : Form) (gate end n k : ℕ) (before body rest bytes now : List ℕ) (result : Result (List ℕ) NoBody)
    → EntryAt form gate end before body rest bytes → k ≡ sum_size form → n ≡ length body → now ≡ bytes
    → (gate + 5 + k + n ≤ length now → GivesBody (take n (drop (gate + 5 + k) now)) result) → GivesBody body result
gives form gate end n k before body rest bytes now result at_gate sum is same piece =
    let size : length bytes ≡ gate + 5 + sum_size form + length body + length rest = long form gate end before body rest bytes at_gate in
    let here : GivesBody (take n (drop (gate + 5 + k) now)) result = piece (omega (arith, size, sum, is, ap length same)) in
    let there : take n (drop (gate + 5 + k) now) ≡ body = ap (λ (l : List ℕ). take n (drop (gate + 5 + k) l)) same
    ∙ body_there form gate end before body rest bytes at_gate n k sum is in
    subst (λ (l : List ℕ). GivesBody l result) there here

pub gives_none : (body : List ℕ) (why : NoBody) → why ≡ EndsEarly → GivesBody body (Err why) → ⊥
gives_none body why is given = subst (λ (w : NoBody). GivesBody body (Err w)) is given

opened_append : (form : Form) (a b : List (List ℕ)) → form_opened form (a ++ b) ≡ form_opened form a ++ form_opened form b
opened_append form [] b = refl
opened_append form (x ∷ a) b =
    ap (λ (l : List ℕ). 1 ∷ (form_entry form x ++ l)) (opened_append form a b) ∙ ap (λ (l : List ℕ). 1 ∷ l)
    (sym (append_assoc (form_entry form x) (form_opened form a) (form_opened form b)))

-- the bodies that were handed out, and the rest
split_front : (form : Form) (t : ℕ) (bodies : List (List ℕ))
    → form_front form bodies ≡ form_front form (take t bodies) ++ form_opened form (drop t bodies)
split_front form t bodies =
    ap (λ (b : List (List ℕ)). form_front form b) (sym (take-append-drop t bodies)) ∙ ap (λ (l : List ℕ). form_mark form ++ l)
    (opened_append form (take t bodies) (drop t bodies))
    ∙ sym (append_assoc (form_mark form) (form_opened form (take t bodies)) (form_opened form (drop t bodies)))

none_opened : (form : Form) (bodies : List (List ℕ)) → length (form_opened form bodies) ≡ 0 → bodies ≡ []
none_opened form [] none = refl
none_opened form (x ∷ bodies) none = absurd (omega arith)

-- where the next gate is the last, all were handed out
pub all_taken : (form : Form) (t : ℕ) (bodies : List (List ℕ)) → length (form_front form (take t bodies)) ≡ length (form_front form bodies)
    → drop t bodies ≡ []
all_taken form t bodies same =
    let whole : length (form_front form bodies) ≡ length (form_front form (take t bodies)) + length (form_opened form (drop t bodies)) =
    ap length (split_front form t bodies) ∙ length-append (form_front form (take t bodies)) (form_opened form (drop t bodies)) in
    none_opened form (drop t bodies) (omega arith)

-- and where it isn't, there is a next one
pub not_all_taken : (form : Form) (t : ℕ) (bodies : List (List ℕ)) → t ≤ length bodies
    → (length (form_front form (take t bodies)) ≡ length (form_front form bodies) → ⊥) → t < length bodies
not_all_taken form t bodies le other = elim (cases_lt t (length bodies)) [
  | inl less ↦ less
  | inr more ↦ absurd (other (ap (λ (b : List (List ℕ)). length (form_front form b)) (take_all t bodies more)))
]

fit_at : (t : ℕ) (bodies : List (List ℕ)) → AllFit bodies → t < length bodies → length (get_or bodies t []) < 2 ^ 32
fit_at t [] fit less = absurd (omega arith)
fit_at zero (x ∷ bodies) fit less = fit.0
fit_at (suc t) (x ∷ bodies) fit less = fit_at t bodies fit.1 (omega arith)

pub next_entry : (form : Form) (t gate next shut : ℕ) (tail : List ℕ) (bodies : List (List ℕ)) (bytes : List ℕ) → AllFit bodies → t < length bodies
    → next ≡ length (form_front form (take t bodies)) → gate ≡ length (form_front form bodies) → bytes ≡ form_front form bodies ++ shut ∷ tail
    → EntryAt form next gate (form_front form (take t bodies)) (get_or bodies t []) (form_opened form (drop (t + 1) bodies) ++ shut ∷ tail) bytes
next_entry form t gate next shut tail bodies bytes fit less place last file =
    let body = get_or bodies t [] in
    let rest = form_opened form (drop (t + 1) bodies) in
    let more : form_front form bodies ≡ form_front form (take t bodies) ++ 1 ∷ (form_entry form body ++ rest) = split_front form t bodies
    ∙ ap (λ (b : List (List ℕ)). form_front form (take t bodies) ++ form_opened form b) (drop_more bodies t [] less) in
    let whole : length (form_front form bodies) ≡ length (form_front form (take t bodies)) + length (1 ∷ (form_entry form body ++ rest)) =
    ap length more ∙ length-append (form_front form (take t bodies)) (1 ∷ (form_entry form body ++ rest)) in
    let behind : length (form_entry form body ++ rest) ≡ length (form_entry form body) + length rest = length-append (form_entry form body) rest in
    record {
      spelled = file ∙ ap (λ (l : List ℕ). l ++ shut ∷ tail) more ∙ append_assoc (form_front form (take t bodies))
          (1 ∷ (form_entry form body ++ rest)) (shut ∷ tail) ∙ ap (λ (l : List ℕ). form_front form (take t bodies) ++ 1 ∷ l)
          (append_assoc (form_entry form body) rest (shut ∷ tail));
      place = sym place;
      within = omega (arith, whole, behind, length-entry form body, place, last);
      small = fit_at t bodies fit less;
    }

pub next_front : (form : Form) (t : ℕ) (bodies : List (List ℕ)) → t < length bodies → length (form_front form (take (t + 1) bodies))
    ≡ length (form_front form (take t bodies)) + 5 + sum_size form + length (get_or bodies t [])
next_front form t bodies less =
    ap (λ (b : List (List ℕ)). length (form_front form b)) (take_more bodies t [] less)
    ∙ length-front-push form (take t bodies) (get_or bodies t [])

module _ {D : Type 0} (seen : D → List ℕ) (may_leave : D → List ℕ → Type 0) (bodies : List (List ℕ)) where
  abbrev Is : JournalState D → Type 0
  Is journal = JournalSettled seen may_leave journal bodies

  -- a disk that was only read holds the same
  pub still : (old new : D) → seen new ≡ seen old → ((c : List ℕ) → may_leave new c → may_leave old c)
      → Only (seen old) (may_leave old) → Only (seen new) (may_leave new)
  still old new same no_more only = λ c now. only c (no_more c now) ∙ sym same

  -- so many were handed out, and the next one's gate stands here
  pub at_body : (old new : JournalState D) → Is old → seen new.disk ≡ seen old.disk
      → ((c : List ℕ) → may_leave new.disk c → may_leave old.disk c) → new.form ≡ old.form → new.end ≡ old.end → new.used ≡ old.used
      → new.count ≡ old.count → new.waits ≡ old.waits → new.stopped ≡ old.stopped
      → new.taken ≤ length bodies → new.next ≡ length (form_front old.form (take new.taken bodies)) → Is new
  at_body old new s same no_more form end used count waits stopped some next = record {
    gate = s.gate;
    rest = s.rest;
    file = same ∙ s.file ∙ ap (λ (f : Form). form_front f bodies ++ s.gate ∷ s.rest) (sym form);
    closed = s.closed;
    end = end ∙ s.end ∙ ap (λ (f : Form). length (form_front f bodies) + 1) (sym form);
    used = used ∙ s.used;
    count = count ∙ s.count;
    fit = s.fit;
    some_taken = some;
    next = next ∙ ap (λ (f : Form). length (form_front f (take new.taken bodies))) (sym form);
    none_waits = waits ∙ s.none_waits;
    goes_on = stopped ∙ s.goes_on;
    durable = still old.disk new.disk same no_more s.durable;
  }

  pub first_gate : (form : Form) → 8 ≡ length (form_front form [])
  first_gate form = omega (arith, length-append (form_mark form) [], length-mark form)

  pub found : (old : D) (new : JournalState D) (gate used count : ℕ) (f : Found) → f ≡ Behind new.form gate used count
      → Mends seen may_leave old new.disk f → StandsFor (seen old) bodies
      → new.end ≡ gate + 1 → new.used ≡ used → new.count ≡ count → new.taken ≡ 0 → new.next ≡ 8 → new.waits ≡ None → new.stopped ≡ None → Is new
  found old new gate used count f is mends stood end some number taken next waits stopped =
      let m : Mends seen may_leave old new.disk (Behind new.form gate used count) =
      subst (λ (h : Found). Mends seen may_leave old new.disk h) is mends in
      let same : m.0 ≡ bodies = stands_for_one (seen old) m.0 bodies m.1 stood in
      let r : Rests seen may_leave new.disk bodies new.form gate used count =
      subst (λ (b : List (List ℕ)). Rests seen may_leave new.disk b new.form gate used count) same m.2 in
      record {
        gate = r.shut;
        rest = [];
        file = r.file;
        closed = r.closed;
        end = omega (arith, r.place, end);
        used = some ∙ r.told;
        count = number ∙ r.number;
        fit = r.fit;
        some_taken = omega (arith, taken);
        next = next ∙ first_gate new.form ∙ ap (λ (t : ℕ). length (form_front new.form (take t bodies))) (sym taken);
        none_waits = waits;
        goes_on = stopped;
        durable = r.durable;
      }

  -- where the next gate is the last one, none is left
  pub ended : (journal : JournalState D) → Is journal → journal.next + 1 ≡ journal.end → drop journal.taken bodies ≡ []
  ended journal s last = all_taken journal.form journal.taken bodies (omega (arith, s.next, s.end, last))

  some_left : (journal : JournalState D) → Is journal → (journal.next + 1 ≡ journal.end → ⊥) → journal.taken < length bodies
  some_left journal s other = not_all_taken journal.form journal.taken bodies s.some_taken
      (λ same. other (omega (arith, s.next, s.end, same)))

  -- and else the next body stands behind it
  pub begun : (journal : JournalState D) (s : Is journal) (gate : ℕ) → journal.end ≡ gate + 1 → (journal.next ≡ gate → ⊥)
      → EntryAt journal.form journal.next gate (form_front journal.form (take journal.taken bodies)) (get_or bodies journal.taken [])
      (form_opened journal.form (drop (journal.taken + 1) bodies) ++ s.gate ∷ s.rest) (seen journal.disk)
  begun journal s gate end other =
      next_entry journal.form journal.taken gate journal.next s.gate s.rest bodies (seen journal.disk) s.fit
      (some_left journal s (λ same. other (omega (arith, same, end)))) s.next (omega (arith, s.end, end)) s.file

  pub handed : (old new : JournalState D) (body : List ℕ) → (s : Is old) → (old.next + 1 ≡ old.end → ⊥) → body
      ≡ get_or bodies old.taken [] → seen new.disk ≡ seen old.disk
      → ((c : List ℕ) → may_leave new.disk c → may_leave old.disk c) → new.form ≡ old.form → new.end ≡ old.end
      → new.used ≡ old.used → new.count ≡ old.count → new.waits ≡ old.waits → new.stopped ≡ old.stopped → new.taken ≡ old.taken + 1 → new.next
      ≡ old.next + 5 + sum_size old.form + length body
      → (drop old.taken bodies ≡ body ∷ drop new.taken bodies) × Is new
  handed old new body s other is same no_more form end used count waits stopped taken next =
      let less = some_left old s other in (
        drop_more bodies old.taken [] less ∙ ap (λ (b : List ℕ). b ∷ drop (old.taken + 1) bodies) (sym is)
            ∙ ap (λ (k : ℕ). body ∷ drop k bodies) (sym taken),
        at_body old new s same no_more form end used count waits stopped (omega (arith, less, taken)) (next ∙ place less),
      )
    where
      place : old.taken < length bodies
          → old.next + 5 + sum_size old.form + length body ≡ length (form_front old.form (take new.taken bodies))
      place less =
          let more = next_front old.form old.taken bodies less in
          let long : length body ≡ length (get_or bodies old.taken []) = ap length is in
          let there : length (form_front old.form (take (old.taken + 1) bodies)) ≡ length (form_front old.form (take new.taken bodies)) =
          ap (λ (k : ℕ). length (form_front old.form (take k bodies))) (sym taken) in
          omega (arith, more, long, there, s.next)
