-- What is known of a connection before the answer to its next frame goes out.
use Rattle.std.proofs.Common.{◌≡◌, ◌≤◌, ℕ, ◌+◌, Bool, List, [], ◌∷◌, ◌++◌, length, Option, None, Some, Result, Ok, Vec, Global}
use Rattle.std.proofs.Common.{refl, sym, ap, ◌∙◌, subst, append_assoc, arith}
use Rattle.std.proofs.lemmas.List.{append-nil}
use Rattle.spec_crypto.specs.sessions.Nonces.{last_counter}
use Rattle.spec_crypto.specs.tokens.Tokens.{Users}
use Rattle.spec_exchange.specs.State as model
use Rattle.spec_wire.specs.messages.Frames.{Frames, Whole, front}
use Rattle.spec_world.specs.Answering.{Seal}
use Rattle.spec_world.specs.Ends.{Logons, ServerEnd, first_server_end}
use Rattle.spec_world.specs.Given.{Given}
use Rattle.spec_world.specs.Settings.{ServerSettings}
use Rattle.conn_core.specs.frame_events.Dealing.{EventAnswer}
use Rattle.conn_core.specs.Shown.{ShowsEnd}
use Rattle.conn_core.specs.declared.end.ConnEnd.{ConnEnd}
use Rattle.serve_turns.specs.connection_turns.Due.{AnswerIsDue, IsAnswerDue, IsTakenIn, IsUnderWay}
use Rattle.serve_turns.specs.connection_turns.Frames.{Answers, AnswersAll, AreGiven}
use Rattle.serve_turns.specs.connection_turns.Passing.{FrameTaken, FramesGo, GoesOn, NextFrame, Stops}
use Rattle.serve_turns.specs.link_serving.Passage.{Passed}
use Rattle.serve_turns.specs.connection_turns.Turning.{HearsOnce}
use Rattle.serve_turns.specs.connection_turns.Ending.{refusal_of}
use Rattle.serve_turns.specs.declared.connection_turns.state.ConnectionState.{ConnectionState}
use Rattle.serve_turns.specs.declared.event_book.book.EventBook.{EventBook}
use Rattle.serve_turns.specs.declared.event_book.turn.Answer.{Answer}
use Rattle.serve_turns.specs.declared.event_book.turn.Turn.{Turn}
use Rattle.serve_turns.specs.declared.event_book.turn.What.TheVariants.{Accept}
use Rattle.serve_turns.specs.declared.shared_book.view.View.{View}
use Rattle.serve_turns.specs.event_book.History.{AllMeet, Course, On, Placed, RunsBy, Stand, Standing}
use Rattle.serve_turns.specs.event_book.Steps as steps
use Rattle.serve_turns.specs.event_book.Steps.{EventSteps, ShowsStanding}
use Rattle.serve_turns.specs.shared_book.Histories.{Replays, entries_of}
use Rattle.serve_turns.specs.shared_book.Seats.{EndsWithOwn, IsHistory}
use Rattle.serve_turns.specs.shared_book.Turns.{fronted}
use Rattle.serve_turns.proofs.connection_turns.Chains.{meet_back, meet_front}
use Rattle.serve_turns.proofs.connection_turns.Going as going
use Rattle.serve_turns.proofs.connection_turns.Linking.{passed_none, passed_on}
use Rattle.serve_turns.proofs.connection_turns.Unstopped.{AllContinue, Continues, frame_continues, goes_behind, taken_behind}
use Rattle.serve_turns.proofs.event_book.Courses.{course_of, own_meet, runs_by}
use Rattle.serve_turns.proofs.event_book.Running.{history_runs}

-- ---- behind each turn of a frame that was answered the server goes on

-- of each something else than a stop was given
abbrev AllGiven : Course → List Placed → Type 0
AllGiven h [] = Unit {0}
AllGiven h (x ∷ xs) = ((g : Given) × (h.given x.0 ≡ Some g) × Continues g) × AllGiven h xs

given_more : (h : Course) (xs ys : List Placed) → AllGiven h xs → AllGiven h ys → AllGiven h (xs ++ ys)
given_more h [] ys first second = second
given_more h (x ∷ xs) ys first second = (first.0, given_more h xs ys first.1 second)

given_all : (h : Course) (xs : List Placed) (gs : List Given) → AreGiven h xs gs → AllContinue gs → AllGiven h xs
given_all h [] [] are all = tt
given_all h [] (g ∷ gs) are all = absurd are
given_all h (x ∷ xs) [] are all = absurd are
given_all h (x ∷ xs) (g ∷ gs) are all = ((g, are.0, all.0), given_all h xs gs are.1 all.1)

module _ (z : ServerSettings) (h : Course) (k : ℕ) where
  one_given : (f g : ServerEnd) (before after : ℕ) (frame : List ℕ) (turns : List Placed) (bytes : List ℕ) (seals : List Seal)
      → Answers z h k f before frame turns bytes g after seals → AllGiven h turns
  one_given f g before after frame turns bytes seals a =
      let t = a.takes in
      given_all h turns t.given t.are (frame_continues z k t.now t.fresh before t.server t.logons t.given f frame
      (sym (ap (λ s. s.step.ends) t.is) ∙ a.goes_on) (sym (ap (λ s. s.matches) t.is) ∙ t.matches))

  all_given : (f g : ServerEnd) (before after : ℕ) (frames : List (List ℕ)) (turns : List Placed) (bytes : List ℕ) (seals : List Seal)
      → AnswersAll z h k f before frames turns bytes g after seals → AllGiven h turns
  unfolding AnswersAll
  all_given f g before after [] turns bytes seals a = subst (AllGiven h) (sym a.0) tt
  all_given f g before after (m ∷ ms) turns bytes seals (own, later, said, rest, u, setups, made, more, one, tail, is, bytes_are, seals_are) =
      subst (AllGiven h) (sym is) (given_more h own later (one_given f u before setups m own said made one)
      (all_given u g setups after ms later rest more tail))

-- the server goes on behind each of these
abbrev AllOn : Course → List Placed → Type 0
AllOn h [] = Unit {0}
AllOn h (x ∷ xs) = ((s : Stand) × (h.found (x.0 + 1) ≡ On s)) × AllOn h xs

on_all : (z : ServerSettings) (h : Course) (xs : List Placed) → AllMeet z h xs → AllGiven h xs → AllOn h xs
on_all z h [] meets given = tt
on_all z h (x ∷ xs) meets given = (
  goes_behind z (h.found x.0) (h.found (x.0 + 1)) x.1 (h.given x.0) given.0.0 meets.0 given.0.1 given.0.2,
  on_all z h xs meets.1 given.1,
)

on_last : (h : Course) (xs : List Placed) (x : Placed) → AllOn h (xs ++ x ∷ []) → (s : Stand) × (h.found (x.0 + 1) ≡ On s)
on_last h [] x all = all.0
on_last h (y ∷ ys) x all = on_last h ys x all.1

-- the last of some turns
last_of : (x : Placed) (xs : List Placed) → (before : List Placed) × (last : Placed) × (x ∷ xs ≡ before ++ last ∷ [])
last_of x [] = ([], x, refl)
last_of x (y ∷ ys) = let l = last_of y ys in (x ∷ l.0, l.1, ap (λ zs. x ∷ zs) l.2)

-- ---- a connection that goes on

module _ {B K : Type 0} (told : Type 0) (given left written : K → List ℕ) (faults : K → ℕ) where
  -- further frames were answered
  pub way_on : (guid : List ℕ) (k : ℕ) (begun u v : View B Turn Answer) (c d : ConnectionState) (s r : List ℕ) (first l n : K)
      → IsUnderWay told given left written guid k begun first u c s l → GoesOn told given left written faults u c s l v d r n
      → IsUnderWay told given left written guid k begun first v d r n
  way_on guid k begun u v c d s r first l n way on = record {
    made = way.made;
    turns = way.turns ++ on.turns;
    own = on.own ∙ ap (λ xs. xs ++ on.turns) way.own ∙ append_assoc begun.own (way.made ∷ way.turns) on.turns;
    is_made = way.is_made;
    taken_in = way.taken_in;
    came = way.came ++ on.came;
    wrote = way.wrote ++ on.wrote;
    passed = passed_on told given left written first l n way.came on.came way.wrote on.wrote way.passed on.passed;
    goes = λ z h guided meets.
        let m = way.goes z h guided (meet_front z h way.turns on.turns meets) in
        let shown : ShowsEnd c.conn.id z.guid c.conn m.1.behind =
        subst (λ (i : ℕ). ShowsEnd i z.guid c.conn m.1.behind) (sym m.1.shows.number) m.1.shows in (
          m.0,
          going.goes_on z h k (first_server_end m.0) 0 way.turns on.turns [] way.came on.came s r way.wrote on.wrote c d m.1
              (subst (λ (i : ℕ). FramesGo z h i m.1.behind c.setups on.turns s on.came on.wrote r d) m.1.shows.number
              (on.goes z h m.1.behind (meet_back z h way.turns on.turns meets) shown m.1.bound)),
        );
  }

module _ {S K : Type 0} (told : Type 0) (given left written : K → List ℕ)
    (shows : S → Users → model.Server → Logons → List model.Record → Type 0) (stopped : S → Option ℕ) (faults : S → ℕ) where
  abbrev V : Type 0
  V = View (EventBook S) Turn Answer

  -- the history that the seat knows is that of a server with which it opens
  opens_as : (w : V) (opening : EventBook S) → w.opening ≡ Some opening → IsHistory (EventSteps shows stopped faults) w
      → (last : EventBook S) × Replays (EventSteps shows stopped faults) opening w.history last
  opens_as w opening is (o, last, opens, replays) =
      (last, subst (λ b. Replays (EventSteps shows stopped faults) b w.history last) (one o opening (sym opens ∙ is)) replays)
    where
      one : (a b : EventBook S) → Some a ≡ Some b → a ≡ b
      one a b e = cc

  -- The frame was answered, and the seat knows the history up to its last turn.
  module _ (guid : List ℕ) (k : ℕ) (begun v w : V) (c d : ConnectionState) (s r frame : List ℕ) (answer : Vec ℕ Global)
      (first link : K) (none_before : begun.own ≡ []) (way : IsUnderWay told given left written guid k begun first v c s link)
      (whole : front s ≡ Whole frame r) (taken : FrameTaken v c frame (Ok answer) d w) (ends : EndsWithOwn w) where
    abbrev all : List Placed
    all = way.turns ++ taken.turns

    own_is : w.own ≡ way.made ∷ all
    own_is =
        taken.own ∙ ap (λ xs. xs ++ taken.turns) way.own ∙ append_assoc begun.own (way.made ∷ way.turns) taken.turns
        ∙ ap (λ xs. xs ++ (way.made ∷ all)) none_before

    abbrev last : (before : List Placed) × (last : Placed) × (way.made ∷ all ≡ before ++ last ∷ [])
    last = last_of way.made all

    own_all : (w.own ≡ entries_of w.number 0 w.history) × (length w.history ≡ last.1.0 + 1)
    own_all = ends last.0 last.1 (own_is ∙ last.2)

    entries_are : entries_of w.number 0 w.history ≡ way.made ∷ all
    entries_are = sym own_all.0 ∙ own_is

    -- the frames so far, and this one
    going_on : (z : ServerSettings) (h : Course) → z.guid ≡ guid → AllMeet z h all
        → (salt : List ℕ) × FramesGo z h k (first_server_end salt) 0 all [] (way.came ++ []) (way.wrote ++ answer.items) r d
    going_on z h guided meets =
        let m = way.goes z h guided (meet_front z h way.turns taken.turns meets) in
        let shown : ShowsEnd c.conn.id z.guid c.conn m.1.behind =
        subst (λ (i : ℕ). ShowsEnd i z.guid c.conn m.1.behind) (sym m.1.shows.number) m.1.shows in
        let one = taken.comes z h m.1.behind (meet_back z h way.turns taken.turns meets) shown m.1.bound in (
          m.0,
          going.goes_on z h k (first_server_end m.0) 0 way.turns taken.turns [] way.came [] s r way.wrote answer.items c d m.1
              (subst (λ (i : ℕ). FramesGo z h i m.1.behind c.setups taken.turns s [] answer.items r d) m.1.shows.number
              (going.frame_goes z h c.conn.id m.1.behind c.setups taken.turns s r frame answer.items d one.0 one.1 whole one.2 one.3 one.4)),
        )

    module _ (z : ServerSettings) (guided : z.guid ≡ guid) (h : Course) (from to : Standing) (runs : RunsBy z from w.history h to)
        (meets : AllMeet z h (way.made ∷ all)) where
      goes : (salt : List ℕ) × FramesGo z h k (first_server_end salt) 0 all [] (way.came ++ []) (way.wrote ++ answer.items) r d
      goes = going_on z h guided meets.1

      all_on : AllOn h (way.made ∷ all)
      all_on = (
        taken_behind z (h.found way.made.0) (h.found (way.made.0 + 1)) way.made.1 (h.given way.made.0) k meets.0 way.is_made way.taken_in,
        on_all z h all meets.1 (all_given z h k (first_server_end goes.0) goes.1.behind 0 d.setups goes.1.frames all (way.wrote ++ answer.items)
            goes.1.seals goes.1.answers),
      )

      stands_on : (x : Stand) × (to ≡ On x)
      stands_on =
          let at = on_last h last.0 last.1 (subst (AllOn h) last.2 all_on) in
          (at.0, sym runs.ends ∙ ap h.found own_all.1 ∙ at.1)

      due_at : (opening last_book : EventBook S) (start : Stand) → from ≡ On start
          → Replays (EventSteps shows stopped faults) opening w.history last_book → ShowsStanding shows stopped faults z.users last_book to
          → AnswerIsDue shows stopped faults z k w.number opening start way.came way.wrote answer.items
      due_at opening last_book start begins replays stands = record {
        salt = goes.0;
        log = w.history;
        h = h;
        stand = stands_on.0;
        last = last_book;
        replays = replays;
        runs = subst (λ (x : Standing × Standing). RunsBy z x.0 w.history h x.1) (λ i. (begins i, stands_on.1 i)) runs;
        stands = subst (ShowsStanding shows stopped faults z.users last_book) stands_on.1 stands;
        made = way.made;
        turns = all;
        own_are = entries_are;
        is_made = way.is_made;
        taken_in = way.taken_in;
        frames = goes.1.frames;
        rest = r;
        framed = subst (λ l. Frames l goes.1.frames r) (append-nil way.came) goes.1.framed;
        behind = goes.1.behind;
        setups = d.setups;
        seals = goes.1.seals;
        answers = goes.1.answers;
      }

    pub due : IsHistory (EventSteps shows stopped faults) w → (z : ServerSettings) (opening : EventBook S) (start : Stand) → z.guid ≡ guid
        → w.opening ≡ Some opening → steps.GoesOn shows stopped faults opening z.users start.server start.logons start.records
        → AnswerIsDue shows stopped faults z k w.number opening start way.came way.wrote answer.items
    due history z opening start guided opens stands =
        let o = opens_as w opening opens history in
        let R = history_runs shows stopped faults z (On start) opening o.0 w.history o.1 stands in
        let h : Course = course_of z (On start) w.history R.all R.to R.runs in
        due_at z guided h (On start) R.to (runs_by z (On start) w.history R.all R.to R.runs)
        (subst (AllMeet z h) entries_are (own_meet z w.number (On start) w.history R.all R.to R.runs)) opening o.0 start refl o.1 R.stands

  -- the same over the link, in code
  pub is_due : (guid : List ℕ) (k : ℕ) (begun v w : V) (c d : ConnectionState) (s r frame : List ℕ) (answer : Vec ℕ Global)
      (text : List ℕ) (first link : K) (next : Result (Option (List ℕ)) ConnEnd)
      → IsUnderWay told given left written guid k begun first v c s link → next ≡ Ok (Some frame) → NextFrame s r next
      → FrameTaken v c frame (Ok answer) d w → text ≡ answer.items → EndsWithOwn w → IsHistory (EventSteps shows stopped faults) w
      → IsAnswerDue told given left written shows stopped faults guid k begun first w link text
  is_due guid k begun v w c d s r frame answer text first link next way is here taken same ends history =
      subst (λ (t : List ℕ). IsAnswerDue told given left written shows stopped faults guid k begun first w link t) (sym same)
      (λ none_before. (
        way.came,
        way.wrote,
        way.passed,
        (λ z opening start guided opens stands. due guid k begun v w c d s r frame answer first link none_before way
            (subst (NextFrame s r) is here) taken ends history z opening start guided opens stands),
      ))

  -- the seat looked at what it knows
  pub looked : (guid : List ℕ) (k : ℕ) (begun v w : V) (first link : K) (front : ℕ) (text : List ℕ) → w ≡ fronted front v
      → IsHistory (EventSteps shows stopped faults) w
      → (IsHistory (EventSteps shows stopped faults) v → IsAnswerDue told given left written shows stopped faults guid k begun first v link
      text)
      → IsAnswerDue told given left written shows stopped faults guid k begun first w link text
  looked guid k begun v w first link front text is history due =
      subst (λ (x : V). IsAnswerDue told given left written shows stopped faults guid k begun first x link text) (sym is)
      (due (subst (λ (x : V). IsHistory (EventSteps shows stopped faults) x) is history))

-- ---- a connection begins

pub first_bound : (salt : List ℕ) → (first_server_end salt).counter ≤ last_counter
first_bound salt = omega arith

module _ {B K : Type 0} (told : Type 0) (given left written : K → List ℕ) (faults : K → ℕ) where
  -- it was taken in, and has its state
  pub way_begins : (guid : List ℕ) (k : ℕ) (begun v : View B Turn Answer) (state : ConnectionState) (salt : List ℕ) (first link : K)
      → IsTakenIn k begun v → link ≡ first → ShowsEnd k guid state.conn (first_server_end salt) → state.setups ≡ 0
      → (first_server_end salt).counter ≤ last_counter → IsUnderWay told given left written guid k begun first v state [] link
  way_begins guid k begun v state salt first link taken same shows none bound = record {
    made = taken.made;
    turns = [];
    own = taken.own;
    is_made = taken.is_made;
    taken_in = taken.taken_in;
    came = [];
    wrote = [];
    passed = subst (λ l. Passed told given left written first l [] []) (sym same) (passed_none told given left written first);
    goes = λ z h guided meets. (
      salt,
      subst (λ n. FramesGo z h k (first_server_end salt) n [] [] [] [] [] state) none
          (going.came_goes z h k (first_server_end salt) [] [] state
          (subst (λ q. ShowsEnd k q state.conn (first_server_end salt)) (sym guided) shows) bound),
    );
  }

  pub taken_behind_turn : (k : ℕ) (v w : View B Turn Answer) (reply : EventAnswer) → HearsOnce v (Accept k) reply w
      → refusal_of reply ≡ None → IsTakenIn k v w
  taken_behind_turn k v w reply h none = record {
    made = h.turn;
    own = h.own;
    is_made = h.is;
    taken_in = ap refusal_of h.replied ∙ none;
  }

  -- a look leaves the seat's own turns
  pub on_same : (u v w : View B Turn Answer) (c d : ConnectionState) (s r : List ℕ) (l n : K) → GoesOn told given left written faults u c s l v d r n
      → w.own ≡ v.own → GoesOn told given left written faults u c s l w d r n
  on_same u v w c d s r l n on same = record {
    came = on.came;
    wrote = on.wrote;
    passed = on.passed;
    calm = on.calm;
    turns = on.turns;
    own = same ∙ on.own;
    goes = on.goes;
  }

  pub stops_same : (ended : K → Bool) (u v w : View B Turn Answer) (c : ConnectionState) (s : List ℕ) (l n : K) (why : Option ConnEnd)
      → Stops told given left written faults ended u c s l v n why → w.own ≡ v.own → Stops told given left written faults ended u c s l w n why
  stops_same ended u v w c s l n why stop same = record {
    came = stop.came;
    wrote = stop.wrote;
    passed = stop.passed;
    turns = stop.turns;
    own = same ∙ stop.own;
    stops = stop.stops;
  }
