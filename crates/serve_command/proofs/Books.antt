-- The server at each place of its history.
use Rattle.std.proofs.Common.{◌≡◌, ◌≤◌, ◌+◌, ℕ, zero, suc, List, [], ◌∷◌, length, slice_get, Option, Some, None, refl, sym, subst, arith}
use Rattle.spec_crypto.specs.tokens.Tokens.{Users}
use Rattle.spec_exchange.specs.State as model
use Rattle.spec_world.specs.Ends.{Logons}
use Rattle.spec_world.specs.Given.{Given}
use Rattle.spec_world.specs.Settings.{ServerSettings}
use Rattle.serve_turns.specs.declared.event_book.book.EventBook.{EventBook}
use Rattle.serve_turns.specs.declared.event_book.turn.Answer.{Answer}
use Rattle.serve_turns.specs.declared.event_book.turn.Turn.{Turn}
use Rattle.serve_turns.specs.declared.shared_book.view.Entry.{Entry}
use Rattle.serve_turns.specs.event_book.History.{Meets, Runs, Standing}
use Rattle.serve_turns.specs.event_book.Steps.{EventSteps, ShowsStanding}
use Rattle.serve_turns.specs.shared_book.Histories.{Replays}
use Rattle.serve_turns.proofs.event_book.Courses.{found_by}
use Rattle.serve_turns.proofs.event_book.Running.{event_settles}

abbrev pub in_front : {B : Type 0} → B → (ℕ → B) → ℕ → B
in_front b f zero = b
in_front b f (suc n) = f n

module _ {S : Type 0} (shows : S → Users → model.Server → Logons → List model.Record → Type 0) (stopped : S → Option ℕ) (faults : S → ℕ)
    (z : ServerSettings) where
  -- from a book that stands somewhere on: the history's course, and one chain of books, each of which stands where its place found it
  pub record Booked (from : Standing) (opening : EventBook S) (log : List (Entry Turn Answer)) (last : EventBook S) : Type 0 where
    pub all : List (Option Given)
    pub to : Standing
    pub runs : Runs z from log all to
    pub books : ℕ → EventBook S
    pub begins : books 0 ≡ opening
    pub ends : books (length log) ≡ last
    pub steps : (i : ℕ) (e : Entry Turn Answer) → slice_get log i ≡ Some e
        → EventSteps shows stopped faults (books i) e.event e.reply (books (i + 1))
    pub stands : (i : ℕ) → i ≤ length log → ShowsStanding shows stopped faults z.users (books i) (found_by z from log all to runs i)

  none_there : {X : Type 0} (i : ℕ) (x : X) → slice_get [] i ≡ Some x → ⊥
  none_there zero x here = absurd (let q : None ≡ Some x = here in cc)
  none_there (suc i) x here = absurd (let q : None ≡ Some x = here in cc)

  step_more : (opening next : EventBook S) (e : Entry Turn Answer) (es : List (Entry Turn Answer)) (books : ℕ → EventBook S)
      → EventSteps shows stopped faults opening e.event e.reply next → books 0 ≡ next
      → ((i : ℕ) (x : Entry Turn Answer) → slice_get es i ≡ Some x → EventSteps shows stopped faults (books i) x.event x.reply
      (books (i + 1)))
      → (i : ℕ) (x : Entry Turn Answer) → slice_get (e ∷ es) i ≡ Some x
      → EventSteps shows stopped faults (in_front opening books i) x.event x.reply (in_front opening books (i + 1))
  step_more opening next e es books step begins steps zero x here =
      let same : e ≡ x = (let q : Some e ≡ Some x = here in cc) in
      subst (λ (v : Entry Turn Answer). EventSteps shows stopped faults opening v.event v.reply (books 0)) same
      (subst (λ (b : EventBook S). EventSteps shows stopped faults opening e.event e.reply b) (sym begins) step)
  step_more opening next e es books step begins steps (suc i) x here =
      subst (λ (n : ℕ). EventSteps shows stopped faults (books i) x.event x.reply (in_front opening books n))
      (let q : suc (i + 1) ≡ suc i + 1 = omega arith in q) (steps i x here)

  unfoldable runs_on : (from next to : Standing) (e : Entry Turn Answer) (es : List (Entry Turn Answer)) (g : Option Given)
      (gs : List (Option Given)) → Meets z from e g next → Runs z next es gs to → Runs z from (e ∷ es) (g ∷ gs) to
  unfolding Runs
  runs_on from next to e es g gs meets runs = (next, meets, runs)

  stand_more : (from : Standing) (opening : EventBook S) (e : Entry Turn Answer) (es : List (Entry Turn Answer)) (all : List (Option Given))
      (g : Option Given) (to next : Standing) (told : Meets z from e g next) (runs : Runs z next es all to) (books : ℕ → EventBook S)
      → ShowsStanding shows stopped faults z.users opening from
      → ((i : ℕ) → i ≤ length es → ShowsStanding shows stopped faults z.users (books i) (found_by z next es all to runs i)) → (i : ℕ)
      → i ≤ length (e ∷ es)
      → ShowsStanding shows stopped faults z.users (in_front opening books i)
      (found_by z from (e ∷ es) (g ∷ all) to (runs_on from next to e es g all told runs) i)
  unfolding Runs found_by runs_on
  stand_more from opening e es all g to next told runs books stands more zero within = stands
  stand_more from opening e es all g to next told runs books stands more (suc i) within = more i (omega (arith, within))

  pub booked : (from : Standing) (opening last : EventBook S) (log : List (Entry Turn Answer))
      → Replays (EventSteps shows stopped faults) opening log last → ShowsStanding shows stopped faults z.users opening from
      → Booked from opening log last
  unfolding Runs found_by
  booked from opening last [] replays stands = record {
    all = [];
    to = from;
    runs = refl;
    books = λ i. opening;
    begins = refl;
    ends = replays;
    steps = λ i e here. absurd (none_there i e here);
    stands = λ i within. stands;
  }
  booked from opening last (e ∷ es) replays stands =
      let one = event_settles shows stopped faults z from opening replays.0 e replays.1 stands in
      let rest = booked one.to replays.0 last es replays.2 one.stands in
      record {
        all = one.given ∷ rest.all;
        to = rest.to;
        runs = runs_on from one.to rest.to e es one.given rest.all one.told rest.runs;
        books = in_front opening rest.books;
        begins = refl;
        ends = rest.ends;
        steps = step_more opening replays.0 e es rest.books replays.1 rest.begins rest.steps;
        stands = stand_more from opening e es rest.all one.given rest.to one.to one.told rest.runs rest.books stands rest.stands;
      }
