-- What stays true of the other views, of the slot, of tickets and of numbers while one view changes.
use Rattle.std.proofs.Common.{◌≡◌, ◌≢◌, inl, inr, ℕ, zero, suc, ◌<◌, ◌≤◌, eqb, List, [], ◌∷◌, get_or, set, Some, Bool}
use Rattle.std.proofs.Common.{true, false, refl, sym, ap, ◌∙◌, subst, ⊎_elim, eq-eqb, ne_eqb}
use mathlib.Core.Logic.{dite}
use mathlib.Core.Option.{Option, some, some-ne-none, some-injective}
use native.Mathlib.Decide.{ℕ_discrete}
use prog.Atomic.{either}
use lib.ListN.{get_elem?}
use lib.Seq.{set-get_or}
use Rattle.atomic_table.specs.Table.{State, keeps, stepped}
use Rattle.atomic_table.proofs.Lists.{at_set, set_else}
use Rattle.serve_turns.specs.declared.shared_book.view.Stage.{Stage}
use Rattle.serve_turns.specs.declared.shared_book.view.Stage.TheVariants.{Idle, Waiting, Called, Holding, Advanced}
use Rattle.serve_turns.specs.declared.shared_book.view.View.{View}
use Rattle.serve_turns.specs.declared.shared_book.view.Slot.{Slot}
use Rattle.serve_turns.specs.shared_book.Turns.{AllMade, Knows, AtHome, SeatWith, HasMade, HoldsTicket, HoldsNumber, Kept, held_ticket}
use Rattle.serve_turns.specs.shared_book.Turns.{called_if, called_by}

-- a function changed at one number
abbrev pub point : ℕ → ℕ → (ℕ → ℕ) → ℕ → ℕ
point n value f t = either (eqb t n) value (f t)

pub point-here : (n value : ℕ) (f : ℕ → ℕ) → point n value f n ≡ value
point-here n value f = ap (λ b. either b value (f n)) (eq-eqb n n refl)

pub point-else : (n value : ℕ) (f : ℕ → ℕ) (t : ℕ) → t ≢ n → point n value f t ≡ f t
point-else n value f t apart = ap (λ b. either b value (f t)) (ne_eqb t n apart)

-- two stages that a test tells apart
pub stages_apart : (st st' : Stage) → (f : Stage → Bool) → f st ≡ false → f st' ≡ true → st ≢ st'
stages_apart st st' f is_false is_true e = absurd (cc (is_false, is_true, ap f e))

-- the book is out with the seat
abbrev pub has_out : Stage → Bool
has_out (Holding t) = true
has_out (Advanced t) = true
has_out st = false

abbrev pub has_advanced : Stage → Bool
has_advanced (Advanced t) = true
has_advanced st = false

pub not_both : (b : Bool) → b ≡ true → b ≡ false → ⊥
not_both b is_true is_false = absurd (cc (is_true, is_false))

-- a look for the turn leaves the ticket as it was
pub called_by-held : (n : ℕ) (st : Stage) → held_ticket (called_by n st) ≡ held_ticket st
called_by-held n Idle = refl
called_by-held n (Called t) = refl
called_by-held n (Holding t) = refl
called_by-held n (Advanced t) = refl
called_by-held n (Waiting t) = by_test (eqb n t)
  where
    by_test : (b : Bool) → held_ticket (called_if b t) ≡ Some t
    by_test true = refl
    by_test false = refl

module _ {B E R : Type 0} where
  -- the place that was written has what was written
  pub at_here : (views : List (View B E R)) (i : ℕ) (v w : View B E R) → get_elem? views i ≡ some v → get_elem? (set views i w) i ≡ some w
  at_here [] i v w at = absurd (some-ne-none v (sym at))
  at_here (x ∷ xs) zero v w at = refl
  at_here (x ∷ xs) (suc i) v w at = at_here xs i v w at

  -- what holds of each view, by the writer's own and the others'
  pub seats_stay : (K : ℕ → View B E R → Type 0) (views : List (View B E R)) (me : ℕ) (w : View B E R) → K me w
      → ((j : ℕ) (d : View B E R) → j ≢ me → get_elem? views j ≡ some d → K j d)
      → (j : ℕ) (d : View B E R) → get_elem? (set views me w) j ≡ some d → K j d
  seats_stay K views me w mine others j d at = ⊎_elim
      (λ (t : (j ≡ me) × (w ≡ d)). subst (λ (x : ℕ × View B E R). K x.0 x.1) (λ i. (sym t.0 i, t.1 i)) mine)
      (λ (t : (j ≢ me) × (get_elem? views j ≡ some d)). others j d t.0 t.1)
      (at_set views me j w d at)

  -- a seat of which P holds is still there
  pub some_stays : (P : View B E R → Type 0) (views : List (View B E R)) (me j : ℕ) (v w : View B E R) → get_elem? views me ≡ some v
      → (P v → P w) → SeatWith P views j → SeatWith P (set views me w) j
  some_stays P views me j v w at goes_on h = dite (ℕ_discrete j me)
      (λ same. let is_v : h.0 ≡ v = some-injective h.0 v (sym h.1 ∙ ap (λ i. get_elem? views i) same ∙ at) in
      (w, subst (λ i. get_elem? (set views me w) i ≡ some w) (sym same) (at_here views me v w at), goes_on (subst P is_v h.2)))
      (λ apart. (h.0, set_else views me j w apart ∙ h.1, h.2))

  -- what was made is still known of its makers
  pub made_stays : (seats : ℕ) (maker seat_of : ℕ → ℕ) (views : List (View B E R)) (me : ℕ) (v w : View B E R)
      → get_elem? views me ≡ some v → ((n p : ℕ) → HasMade n p v → HasMade n p w) → AllMade seats maker seat_of views
      → AllMade seats maker seat_of (set views me w)
  made_stays seats maker seat_of views me v w at goes_on all = λ n low below.
      let m = all n low below in
      (m.0, some_stays (HasMade n (maker n)) views me (seat_of (maker n)) v w at (goes_on n (maker n)) m.1)

  -- the view of a seat that has not the book is changed
  pub home_stays : (book : B) (front serving holder : ℕ) (homes : List (Option (Slot B E R)))
      (views : List (View B E R)) (me : ℕ) (v w : View B E R) → get_elem? views me ≡ some v → has_out v.stage ≡ false
      → AtHome book front serving holder homes views → AtHome book front serving holder homes (set views me w)
  home_stays book front serving holder homes views me v w at not_out home =
      ⊎_elim (λ t. inl t)
      (λ t. inr (
        t.0,
        set_else views me holder w (λ e. let same : t.0 ≡ v = some-injective t.0 v (sym t.1 ∙ ap (λ j. get_elem? views j) e ∙ at) in
            let stage : t.0.stage ≡ v.stage = ap (λ (z : View B E R). z.stage) same in
            ⊎_elim (λ x. stages_apart v.stage (Holding serving) has_out not_out refl (sym stage ∙ x.0))
            (λ x. stages_apart v.stage (Advanced serving) has_out not_out refl (sym stage ∙ x.0)) t.2) ∙ t.1,
        t.2,
      ))
      home

module _ {B E R : Type 0} (steps : B → E → R → B → Type 0) (opened : B) where
  abbrev St : Type 0
  St = State (Slot B E R) (View B E R)

  abbrev Rule : St → Type 0
  Rule = Kept steps opened

  -- the rule with other views of the same history
  pub with_views : (s : St) (r : Rule s) (views : List (View B E R)) → AtHome r.book r.front r.serving (r.owner r.serving) s.homes views
      → ((j : ℕ) (v : View B E R) → get_elem? views j ≡ some v → Knows opened r.ticket r.serving r.seats r.log r.owner r.seat_of j v)
      → ((t : ℕ) → r.serving ≤ t → t < r.ticket → SeatWith (HoldsTicket t) views (r.owner t))
      → ((n : ℕ) → n < r.seats → SeatWith (HoldsNumber n) views (r.seat_of n)) → AllMade r.seats r.maker r.seat_of views
      → Rule record { words = s.words; homes = s.homes; views = views }
  with_views s r views home each held seated made = record {
    ticket = r.ticket;
    serving = r.serving;
    front = r.front;
    seats = r.seats;
    log = r.log;
    book = r.book;
    owner = r.owner;
    seat_of = r.seat_of;
    words_are = r.words_are;
    one_slot = r.one_slot;
    in_order = r.in_order;
    front_is = r.front_is;
    replays = r.replays;
    at_home = home;
    each_seat = each;
    all_held = held;
    all_seated = seated;
    maker = r.maker;
    all_made = made;
    none_later = r.none_later;
  }

  -- a word is read, and the reader's view changes
  pub unmoved : (s : St) (r : Rule s) (i id : ℕ) (cs : List (ℕ × Slot B E R)) (v w : View B E R) → get_elem? s.views id ≡ some v
      → Knows opened r.ticket r.serving r.seats r.log r.owner r.seat_of id w
      → AtHome r.book r.front r.serving (r.owner r.serving) s.homes (set s.views id w)
      → ((t : ℕ) → HoldsTicket t v → HoldsTicket t w) → ((n : ℕ) → HoldsNumber n v → HoldsNumber n w)
      → ((n p : ℕ) → HasMade n p v → HasMade n p w) → Rule (stepped s i (get_or s.words i 0) id cs w keeps)
  unmoved s r i id cs v w at mine home held seated made =
      subst (λ (ws : List ℕ). Rule record { words = ws; homes = s.homes; views = set s.views id w }) (sym (set-get_or s.words i 0))
      (with_views s r (set s.views id w) home
      (seats_stay (Knows opened r.ticket r.serving r.seats r.log r.owner r.seat_of) s.views id w mine (λ j d _ e. r.each_seat j d e))
      (λ t le lt. some_stays (HoldsTicket t) s.views id (r.owner t) v w at (held t) (r.all_held t le lt))
      (λ n lt. some_stays (HoldsNumber n) s.views id (r.seat_of n) v w at (seated n) (r.all_seated n lt))
      (made_stays r.seats r.maker r.seat_of s.views id v w at made r.all_made))
