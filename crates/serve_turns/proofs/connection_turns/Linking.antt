-- What a link carries for the frames of a connection, one call behind another.
use Rattle.std.proofs.Common.{◌≡◌, ◌≤◌, ℕ, Bool, true, false, List, [], ◌++◌, Option, None, Some, Result, Ok, Err, Vec, Global, inl, inr, is_some}
use Rattle.std.proofs.Common.{refl, sym, ap, ◌∙◌, subst, append_assoc}
use Rattle.std.proofs.lemmas.List.{append-nil}
use Rattle.spec_crypto.specs.sessions.Nonces.{last_counter}
use Rattle.spec_wire.specs.messages.Frames.{Waits, Whole, front}
use Rattle.spec_world.specs.Answering.{Seal}
use Rattle.spec_world.specs.Ends.{ServerEnd}
use Rattle.spec_world.specs.Settings.{ServerSettings}
use Rattle.conn_core.specs.Shown.{ShowsEnd}
use Rattle.conn_core.specs.declared.end.ConnEnd.{ConnEnd}
use Rattle.conn_core.specs.declared.end.ConnEnd.TheVariants.{Memory}
use Rattle.serve_turns.specs.connection_turns.Frames.{Answers}
use Rattle.serve_turns.specs.connection_turns.Passing.{CannotRead, Feeds, FrameTaken, FramesGo, FramesStop, GoesOn, HasWritten}
use Rattle.serve_turns.specs.connection_turns.Passing.{NextFrame, PutFails, Puts, Stops, TakesAll}
use Rattle.serve_turns.specs.link_serving.Passage.{Passed}
use Rattle.serve_turns.specs.declared.connection_turns.state.ConnectionState.{ConnectionState}
use Rattle.serve_turns.specs.declared.event_book.turn.Answer.{Answer}
use Rattle.serve_turns.specs.declared.event_book.turn.Turn.{Turn}
use Rattle.serve_turns.specs.declared.shared_book.view.View.{View}
use Rattle.serve_turns.specs.event_book.History.{AllMeet, Course, Placed}
use Rattle.serve_turns.proofs.connection_turns.Chains.{meet_back, meet_front}
use Rattle.serve_turns.proofs.connection_turns.Going as going

-- a stream of which nothing came
front_none : front [] ≡ Waits
unfolding front
front_none = refl

own_on : {A : Type 0} (u v w xs ys : List A) → v ≡ u ++ xs → w ≡ v ++ ys → w ≡ u ++ (xs ++ ys)
own_on u v w xs ys h k = k ∙ ap (λ l. l ++ ys) h ∙ append_assoc u xs ys

module _ {K : Type 0} (told : Type 0) (given left written : K → List ℕ) where
  pub passed_on : (l m n : K) (a b x y : List ℕ) → Passed told given left written l m a x → Passed told given left written m n b y
      → Passed told given left written l n (a ++ b) (x ++ y)
  passed_on l m n a b x y h k =
      record {
        given_is = λ t. k.given_is t ∙ ap (λ (z : List ℕ). z ++ b) (h.given_is t) ∙ append_assoc (given l) a b;
        left_is = λ t. h.left_is t ∙ ap (λ (z : List ℕ). a ++ z) (k.left_is t) ∙ sym (append_assoc a b (left n));
        written_is = λ t. k.written_is t ∙ ap (λ (z : List ℕ). z ++ y) (h.written_is t) ∙ append_assoc (written l) x y;
      }

  -- a link with which nothing was done
  pub passed_none : (l : K) → Passed told given left written l l [] []
  passed_none l = record {
    given_is = λ t. sym (append-nil (given l));
    left_is = λ t. refl;
    written_is = λ t. sym (append-nil (written l));
  }

-- what was told of a connection of one number is told of it by another name of the same
go_as : (z : ServerSettings) (h : Course) (j k : ℕ) (f : ServerEnd) (before : ℕ) (turns : List Placed) (s a x r : List ℕ)
    (w : ConnectionState) → j ≡ k → FramesGo z h j f before turns s a x r w → FramesGo z h k f before turns s a x r w
go_as z h j k f before turns s a x r w same go = subst (λ (n : ℕ). FramesGo z h n f before turns s a x r w) same go

-- the next whole frame of a stream
next_whole : (r q m : List ℕ) (next : Result (Option (List ℕ)) ConnEnd) → next ≡ Ok (Some m) → NextFrame r q next → front r ≡ Whole m q
next_whole r q m next is h = subst (λ (y : Result (Option (List ℕ)) ConnEnd). NextFrame r q y) is h

module _ {B K : Type 0} (told : Type 0) (given left written : K → List ℕ) (faults : K → ℕ) (ended : K → Bool) where
  abbrev On : View B Turn Answer → ConnectionState → List ℕ → K → View B Turn Answer → ConnectionState → List ℕ → K → Type 0
  On = GoesOn told given left written faults

  abbrev Stop : View B Turn Answer → ConnectionState → List ℕ → K → View B Turn Answer → K → Option ConnEnd → Type 0
  Stop = Stops told given left written faults ended

  pub on_on : (u v w : View B Turn Answer) (c d e : ConnectionState) (s r q : List ℕ) (l m n : K) → On u c s l v d r m → On v d r m w e q n
      → On u c s l w e q n
  on_on u v w c d e s r q l m n h k =
      record {
        came = h.came ++ k.came;
        wrote = h.wrote ++ k.wrote;
        passed = passed_on told given left written l m n h.came k.came h.wrote k.wrote h.passed k.passed;
        calm = k.calm ∙ h.calm;
        turns = h.turns ++ k.turns;
        own = own_on u.own v.own w.own h.turns k.turns h.own k.own;
        goes = λ z p f meets shows bound.
            let first = h.goes z p f (meet_front z p h.turns k.turns meets) shows bound in
            let shown : ShowsEnd d.conn.id z.guid d.conn first.behind =
            subst (λ (i : ℕ). ShowsEnd i z.guid d.conn first.behind) (sym first.shows.number) first.shows in
            going.goes_on z p c.conn.id f c.setups h.turns k.turns s h.came k.came r q h.wrote k.wrote d e first
            (go_as z p d.conn.id c.conn.id first.behind d.setups k.turns r k.came k.wrote q e first.shows.number
            (k.goes z p first.behind (meet_back z p h.turns k.turns meets) shown first.bound));
      }

  pub stops_on : (u v w : View B Turn Answer) (c d : ConnectionState) (s r : List ℕ) (l m n : K) (why : Option ConnEnd) → On u c s l v d r m
      → Stop v d r m w n why → Stop u c s l w n why
  stops_on u v w c d s r l m n why h k =
      record {
        came = h.came ++ k.came;
        wrote = h.wrote ++ k.wrote;
        passed = passed_on told given left written l m n h.came k.came h.wrote k.wrote h.passed k.passed;
        turns = h.turns ++ k.turns;
        own = own_on u.own v.own w.own h.turns k.turns h.own k.own;
        stops = λ z p f meets shows bound.
            let first = h.goes z p f (meet_front z p h.turns k.turns meets) shows bound in
            let shown : ShowsEnd d.conn.id z.guid d.conn first.behind =
            subst (λ (i : ℕ). ShowsEnd i z.guid d.conn first.behind) (sym first.shows.number) first.shows in
            let rest = k.stops z p first.behind (meet_back z p h.turns k.turns meets) shown first.bound in
            let same : FramesStop z p c.conn.id first.behind d.setups k.turns r k.came k.wrote (faults l) (faults n) (ended n) why rest.0 =
            subst (λ (i : ℕ). FramesStop z p i first.behind d.setups k.turns r k.came k.wrote (faults l) (faults n) (ended n) why rest.0)
            first.shows.number
            (subst (λ (x : ℕ). FramesStop z p d.conn.id first.behind d.setups k.turns r k.came k.wrote x (faults n) (ended n) why rest.0)
            h.calm rest.1) in (
              first.seals ++ rest.0,
              going.stops_on z p c.conn.id f c.setups h.turns k.turns s h.came k.came r h.wrote k.wrote d
                  (faults l) (faults n) (ended n) why rest.0 first same,
            );
      }

  -- no frame was taken yet
  pub begins : (v : View B Turn Answer) (c : ConnectionState) (s : List ℕ) (l : K) → On v c s l v c s l
  begins v c s l =
      record {
        came = [];
        wrote = [];
        passed = passed_none told given left written l;
        calm = refl;
        turns = [];
        own = sym (append-nil v.own);
        goes = λ z p f meets shows bound. subst (λ (r : List ℕ). FramesGo z p c.conn.id f c.setups [] s [] [] r c) (append-nil s)
            (going.came_goes z p c.conn.id f s [] c shows bound);
      }

  -- a stop of which nothing but the turns is known
  stop_here : (v w : View B Turn Answer) (c : ConnectionState) (s : List ℕ) (l n : K) (why : Option ConnEnd) (came wrote : List ℕ)
      (turns : List Placed) → Passed told given left written l n came wrote → w.own ≡ v.own ++ turns
      → ((z : ServerSettings) (p : Course) (f : ServerEnd) → AllMeet z p turns → ShowsEnd c.conn.id z.guid c.conn f
      → f.counter ≤ last_counter → (seals : List Seal)
      × FramesStop z p c.conn.id f c.setups turns s came wrote (faults l) (faults n) (ended n) why seals) → Stop v c s l w n why
  stop_here v w c s l n why came wrote turns passed own stops =
      record { came = came; wrote = wrote; passed = passed; turns = turns; own = own; stops = stops }

  -- one more was answered, and its answer put onto the link
  pub put_on : (u v w : View B Turn Answer) (c d e : ConnectionState) (s r q m : List ℕ) (l k n : K) (answer : Vec ℕ Global)
      (text : List ℕ) (next : Result (Option (List ℕ)) ConnEnd) (x : Result Unit ConnEnd) (y : Unit) → next ≡ Ok (Some m)
      → NextFrame r q next → On u c s l v d r k → FrameTaken v d m (Ok answer) e w → text ≡ answer.items → x ≡ Ok y
      → Puts told given left written faults k text n x → On u c s l w e q n
  put_on u v w c d e s r q m l k n answer text next x y is h on said same well p =
      let put : Puts told given left written faults k text n (Ok y) =
      subst (λ (a : Result Unit ConnEnd). Puts told given left written faults k text n a) well p in
      on_on u v w c d e s r q l k n on (record {
        came = [];
        wrote = answer.items;
        passed = subst (λ (b : List ℕ). HasWritten told given left written k n b) same put.0;
        calm = put.1;
        turns = said.turns;
        own = said.own;
        goes = λ z p f meets shows bound.
            let one = said.comes z p f meets shows bound in
            going.frame_goes z p d.conn.id f d.setups said.turns r q m answer.items e one.0 one.1 (next_whole r q m next is h) one.2 one.3
            one.4;
      })

  -- and the link failed in its answer
  pub put_off : (u v w : View B Turn Answer) (c d e : ConnectionState) (s r q m : List ℕ) (l k n : K) (answer : Vec ℕ Global)
      (text : List ℕ) (why : ConnEnd) (next : Result (Option (List ℕ)) ConnEnd) (x : Result Unit ConnEnd) → next ≡ Ok (Some m)
      → NextFrame r q next → On u c s l v d r k → FrameTaken v d m (Ok answer) e w → text ≡ answer.items → x ≡ Err why
      → Puts told given left written faults k text n x → Stop u c s l w n (Some why)
  put_off u v w c d e s r q m l k n answer text why next x is h on said same ill p =
      let fails : PutFails told given left written faults k text n why =
      subst (λ (a : Result Unit ConnEnd). Puts told given left written faults k text n a) ill p in
      let whole : answer.items ≡ fails.wrote ++ fails.lost = sym same ∙ fails.answer_is in
      stops_on u v w c d s r l k n (Some why) on (stop_here v w d r k n (Some why) [] fails.wrote said.turns fails.passed said.own
      (λ z p f meets shows bound.
      let one = said.comes z p f meets shows bound in (
        one.1,
        going.frame_lost z p d.conn.id f d.setups said.turns r q m fails.wrote fails.lost e one.0 one.1 (faults k) (faults n) (ended n) why
            (next_whole r q m next is h)
            (subst (λ (b : List ℕ). Answers z p d.conn.id f d.setups m said.turns b one.0 e.setups one.1) whole one.2) fails.is fails.rose,
      )))

  -- it has no answer
  pub unanswered : (u v w : View B Turn Answer) (c d e : ConnectionState) (s r q m : List ℕ) (l k : K) (why : ConnEnd)
      (next : Result (Option (List ℕ)) ConnEnd) → next ≡ Ok (Some m) → NextFrame r q next → On u c s l v d r k
      → FrameTaken v d m (Err why) e w → Stop u c s l w k (Some why)
  unanswered u v w c d e s r q m l k why next is h on said =
      stops_on u v w c d s r l k k (Some why) on (stop_here v w d r k k (Some why) [] [] said.turns (passed_none told given left written k)
      said.own
      (λ z p f meets shows bound. (
        [],
        going.frame_ends z p d.conn.id f d.setups said.turns r q m (faults k) (ended k) why (next_whole r q m next is h)
            (said.comes z p f meets shows bound),
      )))

  -- all whole frames were taken
  pub all_taken : (u v : View B Turn Answer) (c d : ConnectionState) (s r q : List ℕ) (l k : K) (next : Result (Option (List ℕ)) ConnEnd)
      → next ≡ Ok None → NextFrame r q next → On u c s l v d r k → TakesAll told given left written faults ended u c s l v d q k None
  all_taken u v c d s r q l k next is h on =
      let known : NextFrame r q (Ok None) = subst (λ (x : Result (Option (List ℕ)) ConnEnd). NextFrame r q x) is h in
      (subst (λ (x : List ℕ). On u c s l v d x k) (sym known.1) on, ap front known.1 ∙ known.0)

  -- the next frame can't be read
  pub unread : (u v : View B Turn Answer) (c d : ConnectionState) (s r q : List ℕ) (l k : K) (why : ConnEnd)
      (next : Result (Option (List ℕ)) ConnEnd) → next ≡ Err why → NextFrame r q next → On u c s l v d r k → Stop u c s l v k (Some why)
  unread u v c d s r q l k why next is h on =
      let known : NextFrame r q (Err why) = subst (λ (x : Result (Option (List ℕ)) ConnEnd). NextFrame r q x) is h in
      let cause : CannotRead (r ++ []) why = subst (λ (x : List ℕ). CannotRead x why) (sym (append-nil r)) known.1 in
      stops_on u v v c d s r l k k (Some why) on (stop_here v v d r k k (Some why) [] [] [] (passed_none told given left written k)
      (sym (append-nil v.own))
      (λ z p f meets shows bound. ([], going.not_read z p d.conn.id f d.setups r [] (faults k) (faults k) (ended k) why cause refl)))

  -- the link gave bytes, which were put behind the stream
  pub fed_on : (u v : View B Turn Answer) (c d : ConnectionState) (s r q : List ℕ) (l k n : K) (x : Result Unit (Option ConnEnd)) (y : Unit)
      → x ≡ Ok y → Feeds told given left written faults ended k r n q x → On u c s l v d r k → On u c s l v d q n
  fed_on u v c d s r q l k n x y is h on =
      let known : Feeds told given left written faults ended k r n q (Ok y) =
      subst (λ (z : Result Unit (Option ConnEnd)). Feeds told given left written faults ended k r n q z) is h in
      let here : On v d r k v d (r ++ known.0) n =
      record {
        came = known.0;
        wrote = [];
        passed = known.1;
        calm = known.2;
        turns = [];
        own = sym (append-nil v.own);
        goes = λ z p f meets shows bound. going.came_goes z p d.conn.id f r known.0 d shows bound;
      } in
      subst (λ (z : List ℕ). On u c s l v d z n) (sym known.3) (on_on u v v c d d s r (r ++ known.0) l k n on here)

  fed_off : (v : View B Turn Answer) (d : ConnectionState) (r q : List ℕ) (k n : K) (why : Option ConnEnd) → front r ≡ Waits
      → Feeds told given left written faults ended k r n q (Err why) → Stop v d r k v n why
  fed_off v d r q k n None waits (passed, calm, end, same) =
      stop_here v v d r k n None [] [] [] passed (sym (append-nil v.own))
      (λ z p f meets shows bound. ([], going.peer_closed z p d.conn.id f d.setups r (faults k) (faults n) (ended n) waits end calm))
  fed_off v d r q k n (Some why) waits (came, passed, same, inl failed) =
      stop_here v v d r k n (Some why) came [] [] passed (sym (append-nil v.own))
      (λ z p f meets shows bound. (
        [],
        going.link_failed z p d.conn.id f d.setups r came (faults k) (faults n) (ended n) why failed.0 failed.1
            waits failed.2,
      ))
  fed_off v d r q k n (Some why) waits (came, passed, same, inr lacked) =
      stop_here v v d r k n (Some why) came [] [] passed (sym (append-nil v.own))
      (λ z p f meets shows bound.
      ([], going.not_read z p d.conn.id f d.setups r came (faults k) (faults n) (ended n) why (inr lacked.0) lacked.1))

  pub fed_last : (u v : View B Turn Answer) (c d : ConnectionState) (s r q : List ℕ) (l k n : K) (why : Option ConnEnd)
      (x : Result Unit (Option ConnEnd)) → x ≡ Err why → Feeds told given left written faults ended k r n q x → On u c s l v d r k
      → front r ≡ Waits → Stop u c s l v n why
  fed_last u v c d s r q l k n why x is h on waits =
      stops_on u v v c d s r l k n why on (fed_off v d r q k n why waits
      (subst (λ (z : Result Unit (Option ConnEnd)). Feeds told given left written faults ended k r n q z) is h))

  -- what all whole frames of a stream came to
  pub all_on : (u v w : View B Turn Answer) (c d e : ConnectionState) (s r q : List ℕ) (l m n : K) (why : Option ConnEnd)
      → is_some why ≡ false → On u c s l v d r m → TakesAll told given left written faults ended v d r m w e q n why
      → On u c s l w e q n × (front q ≡ Waits)
  all_on u v w c d e s r q l m n None is on h = (on_on u v w c d e s r q l m n on h.0, h.1)
  all_on u v w c d e s r q l m n (Some why) is on h = absurd cc

  pub all_off : (u v w : View B Turn Answer) (c d e : ConnectionState) (s r q : List ℕ) (l m n : K) (why : Option ConnEnd)
      → is_some why ≡ true → On u c s l v d r m → TakesAll told given left written faults ended v d r m w e q n why → Stop u c s l w n why
  all_off u v w c d e s r q l m n None is on h = absurd cc
  all_off u v w c d e s r q l m n (Some why) is on h = stops_on u v w c d s r l m n (Some why) on h

  pub begins_empty : (v : View B Turn Answer) (c : ConnectionState) (s : List ℕ) (l : K) → s ≡ [] → On v c [] l v c s l × (front s ≡ Waits)
  begins_empty v c s l is =
      (subst (λ (r : List ℕ). On v c [] l v c r l) (sym is) (begins v c [] l), ap front is ∙ front_none)

  -- there was no memory to read into
  pub lacked : (v : View B Turn Answer) (c : ConnectionState) (l : K) → Stop v c [] l v l (Some Memory)
  lacked v c l =
      stop_here v v c [] l l (Some Memory) [] [] [] (passed_none told given left written l) (sym (append-nil v.own))
      (λ z p f meets shows bound. ([], going.lacked z p c.conn.id f c.setups [] [] (faults l) (faults l) (ended l) refl))
