-- The steps of one turn, one after the other.
use Rattle.std.proofs.Common.{◌≡◌, ℕ, ◌+◌, ◌≤◌, List, [], ◌∷◌, ◌++◌, length, Some, None, true, refl, sym, ap, ◌∙◌}
use Rattle.std.proofs.Common.{subst, arith, length-append}
use Rattle.std.specs.Prelude.{Option as Perhaps}
use mathlib.Core.Option.{none}
use mathlib.Core.List.{IsPrefix}
use Rattle.atomic_table.specs.Table.{step, Allows}
use Rattle.serve_turns.specs.declared.shared_book.view.Entry.{Entry}
use Rattle.serve_turns.specs.declared.shared_book.view.Stage.TheVariants.{Idle, Waiting, Called}
use Rattle.serve_turns.specs.declared.shared_book.view.View.{View}
use Rattle.serve_turns.specs.declared.shared_book.view.Slot.{Slot}
use Rattle.serve_turns.specs.shared_book.Histories.{Replays, entry_of, entries_of, AllPrefix}
use Rattle.serve_turns.specs.shared_book.Turns.{HasBook, noted, Kept, Sat, staged, holding, grown, noted_in, BookTaken}
use Rattle.serve_turns.specs.shared_book.Turns.{front_advanced, turn_passed, Works}
use Rattle.serve_turns.specs.shared_book.Seats.{is_opened, Applied, EndsWithOwn}
use Rattle.serve_turns.proofs.shared_book.Histories.{entries_of-mine, Replays-append}
use Rattle.serve_turns.proofs.shared_book.Turning.{advances, passes}

pub opened_by : {B : Type 0} (x : Perhaps B) → is_opened x ≡ true → (o : B) × (x ≡ Some o)
opened_by (Some o) e = (o, refl)
opened_by None e = absurd (cc e)

abbrev last_or : {X : Type 0} → X → List X → X
last_or d [] = d
last_or d (x ∷ xs) = last_or x xs

last_is : {X : Type 0} (d : X) (xs : List X) (x : X) → last_or d (xs ++ x ∷ []) ≡ x
last_is d [] x = refl
last_is d (y ∷ ys) x = last_is y ys x

same_last : {X : Type 0} (xs ys : List X) (x y : X) → xs ++ x ∷ [] ≡ ys ++ y ∷ [] → x ≡ y
same_last xs ys x y e = sym (last_is x xs x) ∙ ap (λ l. last_or x l) e ∙ last_is x ys y

module _ {B E R : Type 0} (steps : B → E → R → B → Type 0) where
  -- A seat that had the view v was called, has the whole history, and the book has taken its step.
  pub record Worked (v : View B E R) (t place : ℕ) (event : E) (reply : R) (m : Sat B E R) : Type 0 where
    pub log : List (Entry E R)
    pub book : B
    pub next : B
    pub slot : Slot B E R
    pub me_is : m ≡ (holding place log (staged (Called t) v), (0, slot) ∷ [])
    pub has_book : HasBook next slot
    pub one_step : steps book event reply next
    pub notes : (n : ℕ) → noted n slot ≡ entry_of n event reply ∷ []
    pub long : place ≡ length log
    pub seen : v.front ≤ place
    pub replays : (o : B) → v.opening ≡ Some o → Replays steps o log book
    pub begins : IsPrefix v.history log
    pub keeps : AllPrefix v.kept log
    pub mine : v.numbered ≡ true → v.own ≡ entries_of v.number 0 log

  pub worked : (t place : ℕ) (event : E) (reply : R) (m0 m1 m2 m3 m4 : Sat B E R) → m0.1 ≡ [] → m1
      ≡ (staged (Waiting t) m0.0, m0.1) → m2 ≡ (staged (Called t) m1.0, m1.1)
      → BookTaken steps m2 place m3 → Works steps m3 event reply m4 → Worked m0.0 t place event reply m4
  worked t place event reply m0 m1 m2 m3 m4 empty e1 e2 taken works =
      let called : m2 ≡ (staged (Called t) m0.0, []) = e2 ∙ ap (λ (m : Sat B E R). (staged (Called t) m.0, m.1)) e1
      ∙ ap (λ (c : List (ℕ × Slot B E R)). (staged (Called t) m0.0, c)) empty in
      let k : BookTaken steps (staged (Called t) m0.0, []) place m3 = subst (λ (m : Sat B E R). BookTaken steps m place m3) called taken in
      let x = works k.book k.slot (ap (λ (z : Sat B E R). z.1) k.after) k.has_book in
      record {
        log = k.log;
        book = k.book;
        next = x.0;
        slot = x.1;
        me_is = x.5 ∙ ap (λ (z : Sat B E R). (z.0, (0, x.1) ∷ [])) k.after;
        has_book = x.3;
        one_step = x.2;
        notes = x.4;
        long = k.front;
        seen = k.seen;
        replays = k.replays;
        begins = k.begins;
        keeps = k.keeps;
        mine = k.mine;
      }

  pub may_advance : (key : B) (slots id t place : ℕ) (o : B) (v : View B E R) (event : E) (reply : R) (m : Sat B E R)
      → Worked v t place event reply m → v.numbered ≡ true → v.opening ≡ Some o
      → Allows (Kept steps key) slots id m 2 (λ _. place + 1) (λ _. front_advanced (step slots 2 (place + 1) 0 none) m (place + 1))
  may_advance key slots id t place o v event reply m k numbered opens =
      let e = k.me_is in
      advances steps key slots id t (place + 1) m o k.book k.next event reply (ap (λ (z : Sat B E R). z.0.stage) e)
      (ap (λ (z : Sat B E R). z.0.front + 1) (sym e)) (ap (λ (z : Sat B E R). z.0.front) e
      ∙ (k.long ∙ ap (λ (z : Sat B E R). length z.0.history) (sym e)))
      (ap (λ (z : Sat B E R). z.0.numbered) e ∙ numbered) (ap (λ (z : Sat B E R). z.0.opening) e ∙ opens)
      (subst (λ (z : Sat B E R). Replays steps o z.0.history k.book) (sym e) (k.replays o opens)) k.one_step
      (ap (λ (z : Sat B E R). noted_in z.0.number z.1) e
      ∙ (k.notes v.number ∙ ap (λ (z : Sat B E R). entry_of z.0.number event reply ∷ []) (sym e)))

  -- the view once the entry has joined the history
  abbrev pub after : View B E R → ℕ → ℕ → List (Entry E R) → Entry E R → View B E R
  after v t place log e = grown (place + 1) (e ∷ []) (holding place log (staged (Called t) v))

  pub advanced_to : (t place : ℕ) (v : View B E R) (event : E) (reply : R) (m m' : Sat B E R)
      (k : Worked v t place event reply m) → front_advanced (step 0 2 (place + 1) 0 none) m 0 m'
      → m' ≡ (after v t place k.log (entry_of v.number event reply), (0, k.slot) ∷ [])
  advanced_to t place v event reply m m' k a =
      a ∙ (λ i. (grown (place + 1) (noted_in (k.me_is i).0.number (k.me_is i).1) (k.me_is i).0, (k.me_is i).1))
      ∙ ap (λ es. (grown (place + 1) es (holding place k.log (staged (Called t) v)), (0, k.slot) ∷ [])) (k.notes v.number)

  pub may_pass : (key : B) (slots id t place : ℕ) (o : B) (v : View B E R) (event : E) (reply : R) (m m' : Sat B E R)
      (k : Worked v t place event reply m) → v.opening ≡ Some o
      → m' ≡ (after v t place k.log (entry_of v.number event reply), (0, k.slot) ∷ []) → Allows (Kept steps key) slots
      id m' 1 (λ _. t + 1) (λ _. turn_passed (step slots 1 (t + 1) 0 none) m' (t + 1))
  may_pass key slots id t place o v event reply m m' k opens e =
      passes steps key slots id t (t + 1) m' o k.next k.slot (ap (λ (z : Sat B E R). z.0.stage) e) refl
      (ap (λ (z : Sat B E R). z.1) e) k.has_book (ap (λ (z : Sat B E R). z.0.opening) e ∙ opens)
      (subst (λ (z : Sat B E R). Replays steps o z.0.history k.next) (sym e) (Replays-append steps o k.book k.next k.log
      (entry_of v.number event reply) (k.replays o opens) k.one_step))

  pub is_applied : (t place : ℕ) (o : B) (v : View B E R) (event : E) (reply : R) (m : Sat B E R) (w : View B E R)
      (k : Worked v t place event reply m) → v.opening ≡ Some o → v.numbered ≡ true
      → w ≡ staged Idle (after v t place k.log (entry_of v.number event reply)) → Applied steps v event reply place w
  is_applied t place o v event reply m w k opens numbered e =
      let x : Entry E R = entry_of v.number event reply in
      let counted = k.long in
      let long : length (k.log ++ x ∷ []) ≡ place + 1 = omega (arith, length-append k.log (x ∷ [])) in
      subst (λ (w : View B E R). Applied steps v event reply place w) (sym e) record {
        same_opening = refl;
        is_history = (o, k.next, opens, Replays-append steps o k.book k.next k.log x (k.replays o opens) k.one_step);
        long = long;
        before = k.log;
        ends = refl;
        former = k.begins;
        former_kept = k.keeps;
        seen = k.seen;
        front = refl;
        own = refl;
        own_are = (λ i. k.mine numbered i ++ (k.long i, x) ∷ []) ∙ sym (entries_of-mine v.number k.log x refl);
        same_number = refl;
        same_kept = refl;
      }

  -- what it knows ends with this event
  pub ends_with : (v : View B E R) (event : E) (reply : R) (place : ℕ) (w : View B E R) → Applied steps v event reply place w → EndsWithOwn w
  ends_with v event reply place w a = λ before last is.
      let same : (place, entry_of v.number event reply) ≡ last = same_last v.own before (place, entry_of v.number event reply) last
      (sym a.own ∙ is) in (
        a.own_are ∙ ap (λ n. entries_of n 0 w.history) (sym a.same_number),
        a.long ∙ ap (λ (x : ℕ × Entry E R). x.0 + 1) same,
      )
