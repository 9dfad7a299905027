-- The other steps keep the rule: the table is opened, the front is peeked at, a number is drawn, a seat is made or joined, and the table is
-- closed.
use Rattle.std.proofs.Common.{◌≡◌, ◌≢◌, ◌⊎◌, inl, inr, ℕ, zero, suc, ◌+◌, ◌<◌, ◌≤◌, eqb, List, [], ◌∷◌, ◌++◌, length, get_or, set}
use Rattle.std.proofs.Common.{Some, None, true, false, refl, sym, ap, ◌∙◌, subst, ⊎_elim, arith, eq-eqb, ne_eqb}
use Rattle.std.specs.Prelude.{is_some, slice_get, unwrap_or}
use mathlib.Core.Logic.{dite}
use mathlib.Core.List.{IsPrefix}
use mathlib.Core.Option.{Option, some, none, some-ne-none, some-injective}
use native.Mathlib.Decide.{ℕ_discrete}
use prog.Atomic.{either}
use lib.ListN.{get_elem?}
use Rattle.atomic_table.specs.Table.{State, step, keeps, stepped, Allows, Splits, Joins, opening, Final, Seen}
use Rattle.atomic_table.proofs.Lists.{at_last, set_else, at_longer}
use Rattle.serve_turns.specs.declared.shared_book.view.Entry.{Entry}
use Rattle.serve_turns.specs.declared.shared_book.view.Stage.TheVariants.{Idle, Called, Holding, Advanced}
use Rattle.serve_turns.specs.declared.shared_book.view.View.{View}
use Rattle.serve_turns.specs.declared.shared_book.view.Slot.{Slot}
use Rattle.serve_turns.specs.declared.shared_book.view.Slot.TheVariants.{Opening, After, Away}
use Rattle.serve_turns.specs.shared_book.Histories.{Replays, entries_of}
use Rattle.serve_turns.specs.shared_book.Numbers.{AreApart, IsOneOf, IsWhole, held_numbers, number_if, numbers_of, seated_numbers}
use Rattle.serve_turns.specs.shared_book.Turns.{AllMade, InTurn, HasBook, Knows, AtHome, SeatWith, HasMade, HoldsTicket, HoldsNumber, Kept}
use Rattle.serve_turns.specs.shared_book.Turns.{Sat, held_ticket, first_view, staged, fronted, drew, parted, newcomer, rejoined, spent_view}
use Rattle.serve_turns.specs.shared_book.Turns.{front_peeked, drew_if, number_drawn}
use Rattle.serve_turns.specs.shared_book.Seats.{Closes, IsHistory}
use Rattle.serve_turns.proofs.shared_book.Histories.{AllPrefix-both, Replays-front, entry_there}
use Rattle.serve_turns.proofs.shared_book.Numbers.{HaveAll-append, among_both, among_left, among_right, apart_both, apart_of, apart_seated}
use Rattle.serve_turns.proofs.shared_book.Numbers.{drawn_apart, drawn_held, held_rejoined, none_drawn, of_seated, one_number, other_drawn}
use Rattle.serve_turns.proofs.shared_book.Numbers.{own_seated, seated_held, seated_of, seated_rejoined}
use Rattle.serve_turns.proofs.shared_book.Views.{point, point-here, point-else, stages_apart, has_out, at_here}
use Rattle.serve_turns.proofs.shared_book.Views.{seats_stay, some_stays, home_stays, unmoved}

below_or_past : (x n : ℕ) → (x < n) ⊎ (n ≤ x)
below_or_past x n = grind arith

-- a seat of a longer list is one of the list, or the last
at_end : {A : Type 0} (l : List A) (a b : A) (j : ℕ) → get_elem? (l ++ a ∷ []) j ≡ some b
    → (get_elem? l j ≡ some b) ⊎ ((j ≡ length l) × (a ≡ b))
at_end [] a b zero e = inr (refl, some-injective a b e)
at_end [] a b (suc j) e = absurd (some-ne-none b (sym e))
at_end (x ∷ xs) a b zero e = inl e
at_end (x ∷ xs) a b (suc j) e =
    ⊎_elim (λ (t : get_elem? xs j ≡ some b). inl t) (λ (t : (j ≡ length xs) × (a ≡ b)). inr (ap suc t.0, t.1)) (at_end xs a b j e)

-- numbers that were one seat's are another's
abbrev moved : ℕ → ℕ → (ℕ → ℕ) → ℕ → ℕ
moved other id seat_of n = either (eqb (seat_of n) other) id (seat_of n)

moved-here : (other id : ℕ) (seat_of : ℕ → ℕ) (n : ℕ) → seat_of n ≡ other → moved other id seat_of n ≡ id
moved-here other id seat_of n is = ap (λ b. either b id (seat_of n)) (eq-eqb (seat_of n) other is)

moved-else : (other id : ℕ) (seat_of : ℕ → ℕ) (n : ℕ) → seat_of n ≢ other → moved other id seat_of n ≡ seat_of n
moved-else other id seat_of n apart = ap (λ b. either b id (seat_of n)) (ne_eqb (seat_of n) other apart)

module _ {B E R : Type 0} (steps : B → E → R → B → Type 0) (opened : B) where
  abbrev W : Type 0
  W = View B E R

  abbrev D : Type 0
  D = Slot B E R

  abbrev M : Type 0
  M = Sat B E R

  abbrev Rule : State D W → Type 0
  Rule = Kept steps opened

  pub starts : Rule (opening (0 ∷ 0 ∷ 0 ∷ 1 ∷ []) (Opening opened ∷ []) (first_view opened))
  starts = record {
    ticket = 0;
    serving = 0;
    front = 0;
    seats = 1;
    log = [];
    book = opened;
    owner = λ _. 0;
    seat_of = λ _. 0;
    words_are = refl;
    one_slot = refl;
    in_order = omega arith;
    front_is = refl;
    replays = refl;
    at_home = inl (omega arith, (Opening opened, refl, refl));
    each_seat = first_knows;
    all_held = λ t le lt. absurd (omega arith);
    all_seated = λ n lt. (first_view opened, refl, inl (omega arith));
    maker = λ _. 0;
    all_made = λ n low below. absurd (omega arith);
    none_later = λ n le. refl;
  }
    where
      first_knows : (j : ℕ) (v : W) → get_elem? (first_view opened ∷ []) j ≡ some v → Knows opened 0 0 1 [] (λ _. 0) (λ _. 0) j v
      first_knows zero v at = subst (Knows opened 0 0 1 [] (λ _. 0) (λ _. 0) 0) (some-injective _ _ at) record {
        opens = λ o e. cc e;
        in_turn = tt;
        whole = tt;
        seen = omega arith;
        begins = ([], refl);
        keeps = tt;
        mine = λ _. (refl, omega arith, refl);
        unnumbered = λ _. refl;
        drawn = λ n e. absurd (cc e);
        ended = tt;
        held = λ n h. ⊎_elim (λ (is : n ≡ 0). (refl, omega arith)) (λ (f : ⊥). absurd f) h;
        apart = ((λ f. f), tt);
      }
      first_knows (suc j) v at = absurd (some-ne-none v (sym at))

  -- a front of the history leads from its opening state
  replays_front : {s : State D W} (r : Rule s) (o : B) (history : List (Entry E R)) → o ≡ opened → IsPrefix history r.log
      → (last : B) × Replays steps o history last
  replays_front r o history is front =
      let all : Replays steps o (history ++ front.0) r.book =
      subst (λ (x : B × List (Entry E R)). Replays steps x.0 x.1 r.book) (λ i. (sym is i, sym front.1 i)) r.replays in
      Replays-front steps o r.book history front.0 all

  pub peeks : (slots id : ℕ) (me : M) → me.0.stage ≡ Idle
      → Allows Rule slots id me 2 (λ n. n) (front_peeked steps (step slots 2 0 0 none) me)
  peeks slots id me idle s r hl at small =
      let n : ℕ = get_or s.words 2 0 in
      let is_n : n ≡ r.front = ap (λ (ws : List ℕ). get_or ws 2 0) r.words_are in
      let k = r.each_seat id me.0 at in
      let long = r.front_is in
      let seen = k.seen in
      let w : W = fronted n me.0 in (
        w,
        keeps,
        tt,
        unmoved steps opened s r 2 id me.1 me.0 w at
            record {
              opens = k.opens;
              in_turn = k.in_turn;
              whole = k.whole;
              seen = omega arith;
              begins = k.begins;
              keeps = k.keeps;
              mine = k.mine;
              unnumbered = k.unnumbered;
              drawn = k.drawn;
              ended = k.ended;
              held = k.held;
              apart = k.apart;
            }
            (home_stays r.book r.front r.serving (r.owner r.serving) s.homes s.views id me.0 w at (ap has_out idle) r.at_home)
            (λ t h. h) (λ m h. h) (λ n p h. h),
        (refl, omega arith, λ o e. replays_front r o me.0.history (k.opens o e) k.begins),
      )

  pub peeked_history : (o : B) (found : ℕ) (v w : W) → v.opening ≡ Some o → w ≡ fronted found v
      → (last : B) × Replays steps o v.history last → IsHistory steps w
  peeked_history o found v w opens is known =
      subst (λ (x : W). IsHistory steps x) (sym is) (o, known.0, opens, known.1)

  -- the same history under more numbers
  knows_numbered : (ticket serving seats seats' : ℕ) (log : List (Entry E R)) (owner seat_of seat_of' : ℕ → ℕ) (j : ℕ)
      (v : W) → seats ≤ seats' → ((n : ℕ) → n < seats → seat_of' n ≡ seat_of n)
      → Knows opened ticket serving seats log owner seat_of j v → Knows opened ticket serving seats' log owner seat_of' j v
  knows_numbered ticket serving seats seats' log owner seat_of seat_of' j v le same k = record {
    opens = k.opens;
    in_turn = k.in_turn;
    whole = k.whole;
    seen = k.seen;
    begins = k.begins;
    keeps = k.keeps;
    mine = λ e. let m = k.mine e in let below = m.1 in (same v.number below ∙ m.0, omega arith, m.2);
    unnumbered = k.unnumbered;
    drawn = k.drawn;
    ended = k.ended;
    held = λ n h. let m = k.held n h in let below = m.1 in (same n below ∙ m.0, omega arith);
    apart = k.apart;
  }

  -- numbers of other seats are another seat's
  knows_moved : (ticket serving seats : ℕ) (log : List (Entry E R)) (owner seat_of seat_of' : ℕ → ℕ) (j : ℕ) (v : W)
      → ((n : ℕ) → seat_of n ≡ j → seat_of' n ≡ j)
      → Knows opened ticket serving seats log owner seat_of j v → Knows opened ticket serving seats log owner seat_of' j v
  knows_moved ticket serving seats log owner seat_of seat_of' j v same k = record {
    opens = k.opens;
    in_turn = k.in_turn;
    whole = k.whole;
    seen = k.seen;
    begins = k.begins;
    keeps = k.keeps;
    mine = λ e. let m = k.mine e in (same v.number m.0, m.1, m.2);
    unnumbered = k.unnumbered;
    drawn = k.drawn;
    ended = k.ended;
    held = λ n h. let m = k.held n h in (same n m.0, m.1);
    apart = k.apart;
  }

  -- a seat that drew the next number
  knows_drew : (s : State D W) (r : Rule s) (id old new : ℕ) (v : W) → get_elem? s.views id ≡ some v → v.numbered ≡ true → old ≡ r.seats
      → new ≡ old + 1 → Knows opened r.ticket r.serving new r.log r.owner (point old id r.seat_of) id (drew old v)
  knows_drew s r id old new v at numbered is up =
      let k = r.each_seat id v at in
      let seat_of' : ℕ → ℕ = point old id r.seat_of in
      let same : (n : ℕ) → n < r.seats → seat_of' n ≡ r.seat_of n = λ n l. point-else old id r.seat_of n (λ e. omega arith) in record {
        opens = k.opens;
        in_turn = k.in_turn;
        whole = k.whole;
        seen = k.seen;
        begins = k.begins;
        keeps = k.keeps;
        mine = λ e. let m = k.mine e in let below = m.1 in (same v.number below ∙ m.0, omega arith, m.2);
        unnumbered = k.unnumbered;
        drawn = λ n d. let same_n = one_number old n d in r.none_later n (omega arith);
        ended = k.ended;
        held = λ n h. ⊎_elim (λ (e : n ≡ old). (ap seat_of' e ∙ point-here old id r.seat_of, omega arith))
            (λ (t : IsOneOf n (seated_numbers v)). let m = k.held n (seated_held v n t) in let below = m.1 in
            (same n below ∙ m.0, omega arith)) h;
        apart = ((λ h. let below = (k.held old (seated_held v old h)).1 in absurd (omega arith)), apart_seated v k.apart);
      }

  -- each number has its maker, where a seat draws one more
  module _ (s : State D W) (r : Rule s) (id old new : ℕ) (v : W) (at : get_elem? s.views id ≡ some v) (numbered : v.numbered ≡ true)
      (is : old ≡ r.seats) (up : new ≡ old + 1) where
    abbrev Made : ℕ → ℕ → Type 0
    Made n p = (p < n) × SeatWith (HasMade n p) (set s.views id (drew old v)) (point old id r.seat_of p)

    same_seat : (n : ℕ) → n < r.seats → point old id r.seat_of n ≡ r.seat_of n
    same_seat n l = point-else old id r.seat_of n (λ e. omega (arith, e, l, is))

    made_last : (n : ℕ) → n ≡ old → Made n (point old v.number r.maker n)
    made_last n here =
        let m = (r.each_seat id v at).mine numbered in
        let below : v.number < r.seats = m.1 in
        subst (Made n) (sym (ap (point old v.number r.maker) here ∙ point-here old v.number r.maker)) (
          omega (arith, below, here, is),
          subst (SeatWith (HasMade n v.number) (set s.views id (drew old v))) (sym (same_seat v.number below ∙ m.0))
              (drew old v, at_here s.views id v (drew old v) at, (inl here, own_seated v numbered)),
        )

    made_before : (n : ℕ) → n ≢ old → 0 < n → n < new → Made n (point old v.number r.maker n)
    made_before n apart low lt =
        let below : n < r.seats = omega (arith, apart, lt, is, up) in
        let m = r.all_made n low below in
        let less : r.maker n < n = m.0 in
        let drawn : r.maker n < r.seats = omega (arith, less, below) in
        subst (Made n) (sym (point-else old v.number r.maker n apart)) (
          less,
          subst (SeatWith (HasMade n (r.maker n)) (set s.views id (drew old v))) (sym (same_seat (r.maker n) drawn))
              (some_stays (HasMade n (r.maker n)) s.views id (r.seat_of (r.maker n)) v (drew old v) at (λ h. (inr h.0, h.1)) m.1),
        )

    made_more : AllMade new (point old v.number r.maker) (point old id r.seat_of) (set s.views id (drew old v))
    made_more = λ n low lt. dite (ℕ_discrete n old) (λ here. made_last n here) (λ apart. made_before n apart low lt)

  pub draws_number : (slots id old new : ℕ) (me : M) → me.0.stage ≡ Idle → me.0.numbered ≡ true → me.0.drawn ≡ None → new ≡ old + 1
      → Allows Rule slots id me 3 (λ n. either (eqb n old) new n) (number_drawn (step slots 3 old new none) me)
  draws_number slots id old new me idle numbered undrawn up s r hl at small =
      let n : ℕ = get_or s.words 3 0 in
      let is_n : n ≡ r.seats = ap (λ (ws : List ℕ). get_or ws 3 0) r.words_are in
      let k = r.each_seat id me.0 at in
      let home : (w : W) → AtHome r.book r.front r.serving (r.owner r.serving) s.homes (set s.views id w) =
      λ w. home_stays r.book r.front r.serving (r.owner r.serving) s.homes s.views id me.0 w at (ap has_out idle) r.at_home in
      dite (ℕ_discrete n old)
      (λ hit. let w : W = drew old me.0 in
      let next : old ≡ r.seats = sym hit ∙ is_n in
      let seat_of' : ℕ → ℕ = point old id r.seat_of in
      let same : (x : ℕ) → x < r.seats → seat_of' x ≡ r.seat_of x = λ x l. point-else old id r.seat_of x (λ e. omega arith) in (
        w,
        keeps,
        tt,
        subst (λ b. Rule (stepped s 3 (either b new n) id me.1 w keeps)) (sym (eq-eqb n old hit)) record {
          ticket = r.ticket;
          serving = r.serving;
          front = r.front;
          seats = new;
          log = r.log;
          book = r.book;
          owner = r.owner;
          seat_of = seat_of';
          words_are = ap (λ (ws : List ℕ). set ws 3 new) r.words_are;
          one_slot = r.one_slot;
          in_order = r.in_order;
          front_is = r.front_is;
          replays = r.replays;
          at_home = home w;
          each_seat = seats_stay (Knows opened r.ticket r.serving new r.log r.owner seat_of') s.views id w
              (knows_drew s r id old new me.0 at numbered next up)
              (λ j d _ e. knows_numbered r.ticket r.serving r.seats new r.log r.owner r.seat_of seat_of' j d (omega arith)
              same (r.each_seat j d e));
          all_held = λ t le lt. some_stays (HoldsTicket t) s.views id (r.owner t) me.0 w at (λ h. h) (r.all_held t le lt);
          all_seated = λ x lt. dite (ℕ_discrete x old)
              (λ is. (
                w,
                subst (λ j. get_elem? (set s.views id w) j ≡ some w)
                    (sym (ap seat_of' is ∙ point-here old id r.seat_of)) (at_here s.views id me.0 w at),
                inl is,
              ))
              (λ apart. let below : x < r.seats = omega arith in
              subst (λ j. SeatWith (HoldsNumber x) (set s.views id w) j) (sym (same x below))
              (some_stays (HoldsNumber x) s.views id (r.seat_of x) me.0 w at
              (λ h. inr (none_drawn me.0.drawn (seated_numbers me.0) x undrawn h)) (r.all_seated x below)));
          maker = point old me.0.number r.maker;
          all_made = made_more s r id old new me.0 at numbered next up;
          none_later = λ x le. r.none_later x (omega arith);
        },
        subst (λ b. (w, me.1) ≡ drew_if b old me) (sym (eq-eqb n old hit)) refl,
      ))
      (λ miss. (
        me.0,
        keeps,
        tt,
        subst (λ b. Rule (stepped s 3 (either b new n) id me.1 me.0 keeps)) (sym (ne_eqb n old miss))
            (unmoved steps opened s r 3 id me.1 me.0 me.0 at k (home me.0) (λ t h. h) (λ m h. h) (λ n p h. h)),
        subst (λ b. me ≡ drew_if b old me) (sym (ne_eqb n old miss)) refl,
      ))

  -- a seat that others have is there among more seats
  some_longer : (P : W → Type 0) (views more : List W) (j : ℕ) → SeatWith P views j → SeatWith P (views ++ more) j
  some_longer P views more j h = (h.0, at_longer views more j h.0 h.1, h.2)

  -- a seat gives the number that it drew to a new one
  module _ (s : State D W) (r : Rule s) (id n : ℕ) (v : W) (at : get_elem? s.views id ≡ some v) (is_drawn : v.drawn ≡ Some n) where
    abbrev given : List W
    given = set s.views id (parted v)

    abbrev wider : List W
    wider = given ++ newcomer v ∷ []

    abbrev place : ℕ
    place = length given

    abbrev of_new : ℕ → ℕ
    of_new = point n place r.seat_of

    abbrev Sees : ℕ → W → Type 0
    Sees = Knows opened r.ticket r.serving r.seats r.log r.owner of_new

    was_mine : r.seat_of n ≡ id
    was_mine = ((r.each_seat id v at).held n (drawn_held v n is_drawn)).0

    not_drawn : (m : ℕ) → IsOneOf m (seated_numbers v) → m ≢ n
    not_drawn m h = drawn_apart v n m (r.each_seat id v at).apart is_drawn h

    number_is : unwrap_or v.drawn 0 ≡ n
    number_is = ap (λ x. unwrap_or x 0) is_drawn

    knows_parted : Sees id (parted v)
    knows_parted =
        let k = r.each_seat id v at in
        let still : (m : ℕ) → IsOneOf m (seated_numbers v) → of_new m ≡ r.seat_of m = λ m h. point-else n place r.seat_of m (not_drawn m h) in
        record {
          opens = k.opens;
          in_turn = k.in_turn;
          whole = k.whole;
          seen = k.seen;
          begins = k.begins;
          keeps = k.keeps;
          mine = λ e. let m = k.mine e in (still v.number (own_seated v e) ∙ m.0, m.1, m.2);
          unnumbered = k.unnumbered;
          drawn = λ m d. absurd (cc d);
          ended = k.ended;
          held = λ m h. let x = k.held m (seated_held v m h) in (still m h ∙ x.0, x.1);
          apart = apart_seated v k.apart;
        }

    knows_new : Sees place (newcomer v)
    knows_new =
        let k = r.each_seat id v at in
        let below : n < r.seats = (k.held n (drawn_held v n is_drawn)).1 in record {
          opens = k.opens;
          in_turn = tt;
          whole = tt;
          seen = k.seen;
          begins = k.begins;
          keeps = k.keeps;
          mine = λ e. (
            ap of_new number_is ∙ point-here n place r.seat_of,
            subst (λ m. m < r.seats) (sym number_is) below,
            sym (ap (λ m. entries_of m 0 r.log) number_is ∙ k.drawn n is_drawn),
          );
          unnumbered = λ _. refl;
          drawn = λ m d. absurd (cc d);
          ended = tt;
          held = λ m h. let here : (m ≡ n) ⊎ ⊥ = subst (λ x. IsOneOf m (number_if (is_some x) (unwrap_or x 0) ++ [])) is_drawn h in
              ⊎_elim (λ (e : m ≡ n). (ap of_new e ∙ point-here n place r.seat_of, subst (λ q. q < r.seats) (sym e) below))
              (λ (f : ⊥). absurd f) here;
          apart = subst (λ x. AreApart (number_if (is_some x) (unwrap_or x 0) ++ [])) (sym is_drawn) ((λ f. f), tt);
        }

    each_given : (j : ℕ) (u : W) → get_elem? wider j ≡ some u → Sees j u
    each_given j u e = ⊎_elim
        (λ (x : get_elem? given j ≡ some u). seats_stay Sees s.views id (parted v) knows_parted
        (λ i w other here. knows_moved r.ticket r.serving r.seats r.log r.owner r.seat_of of_new i w
        (λ m is. point-else n place r.seat_of m (λ same. other (sym is ∙ ap r.seat_of same ∙ was_mine)) ∙ is)
        (r.each_seat i w here)) j u x)
        (λ (x : (j ≡ place) × (newcomer v ≡ u)). subst (λ (z : ℕ × W). Sees z.0 z.1) (λ i. (sym x.0 i, x.1 i)) knows_new)
        (at_end given (newcomer v) u j e)

    all_given : (m : ℕ) → m < r.seats → SeatWith (HoldsNumber m) wider (of_new m)
    all_given m lt = dite (ℕ_discrete m n)
        (λ is. (
          newcomer v,
          subst (λ j. get_elem? wider j ≡ some (newcomer v)) (sym (ap of_new is ∙ point-here n place r.seat_of))
              (at_last given (newcomer v) place refl),
          subst (λ x. IsOneOf m (number_if (is_some x) (unwrap_or x 0) ++ [])) (sym is_drawn) (inl is),
        ))
        (λ other. subst (SeatWith (HoldsNumber m) wider) (sym (point-else n place r.seat_of m other))
        (some_longer (HoldsNumber m) given (newcomer v ∷ []) (r.seat_of m)
        (some_stays (HoldsNumber m) s.views id (r.seat_of m) v (parted v) at
        (λ h. other_drawn v.drawn (seated_numbers v) n m is_drawn other h) (r.all_seated m lt))))

    -- a number that is not yet a seat's made none
    none_by_drawn : (m : ℕ) → SeatWith (HasMade m (r.maker m)) s.views (r.seat_of (r.maker m)) → r.maker m ≡ n → ⊥
    none_by_drawn m made is =
        let same : made.0 ≡ v = some-injective made.0 v
        (sym made.1 ∙ ap (λ j. get_elem? s.views j) (ap r.seat_of is ∙ was_mine) ∙ at) in
        not_drawn (r.maker m) (subst (λ (u : W). IsOneOf (r.maker m) (seated_numbers u)) same made.2.1) is

    made_given : AllMade r.seats r.maker of_new wider
    made_given = λ m low lt.
        let made = r.all_made m low lt in (
          made.0,
          subst (SeatWith (HasMade m (r.maker m)) wider)
              (sym (point-else n place r.seat_of (r.maker m) (none_by_drawn m made.1)))
              (some_longer (HasMade m (r.maker m)) given (newcomer v ∷ []) (r.seat_of (r.maker m))
              (some_stays (HasMade m (r.maker m)) s.views id (r.seat_of (r.maker m)) v (parted v) at (λ h. h) made.1)),
        )

  pub splits : (id n : ℕ) (v : W) → v.stage ≡ Idle → v.drawn ≡ Some n → Splits Rule id v (parted v) (newcomer v)
  splits id n v idle is_drawn s r at =
      let views : List W = set s.views id (parted v) in
      let home = home_stays r.book r.front r.serving (r.owner r.serving) s.homes s.views id v (parted v) at (ap has_out idle) r.at_home in
      record {
        ticket = r.ticket;
        serving = r.serving;
        front = r.front;
        seats = r.seats;
        log = r.log;
        book = r.book;
        owner = r.owner;
        seat_of = point n (length views) r.seat_of;
        words_are = r.words_are;
        one_slot = r.one_slot;
        in_order = r.in_order;
        front_is = r.front_is;
        replays = r.replays;
        at_home = ⊎_elim (λ h. inl h)
            (λ h. inr (h.0, at_longer views (newcomer v ∷ []) (r.owner r.serving) h.0 h.1, h.2)) home;
        each_seat = each_given s r id n v at is_drawn;
        all_held = λ t le lt. some_longer (HoldsTicket t) views (newcomer v ∷ []) (r.owner t)
            (some_stays (HoldsTicket t) s.views id (r.owner t) v (parted v) at (λ h. h) (r.all_held t le lt));
        all_seated = all_given s r id n v at is_drawn;
        maker = r.maker;
        all_made = made_given s r id n v at is_drawn;
        none_later = r.none_later;
      }

  -- a seat takes in another, which is numbered and has drawn no further number
  module _ (s : State D W) (r : Rule s) (id other : ℕ) (v u : W) (at : get_elem? s.views id ≡ some v) (there : get_elem? s.views other ≡ some u)
      (apart : other ≢ id) (numbered : u.numbered ≡ true) (undrawn : u.drawn ≡ None) where
    abbrev both : W
    both = rejoined v u

    abbrev of_both : ℕ → ℕ
    of_both = moved other id r.seat_of

    abbrev Knew : ℕ → W → Type 0
    Knew = Knows opened r.ticket r.serving r.seats r.log r.owner of_both

    abbrev left : List W
    left = set (set s.views id both) other spent_view

    is_its : (n : ℕ) → IsOneOf n (numbers_of u) → (r.seat_of n ≡ other) × (n < r.seats)
    is_its n h = (r.each_seat other u there).held n (seated_held u n (seated_of u n numbered h))

    not_its : (n : ℕ) → IsOneOf n (held_numbers v) → r.seat_of n ≢ other
    not_its n h same = apart (sym same ∙ ((r.each_seat id v at).held n h).0)

    knows_both : Knew id both
    knows_both =
        let k = r.each_seat id v at in
        let l = r.each_seat other u there in
        let a = k.seen in
        let b = l.seen in
        let still : (n : ℕ) → IsOneOf n (held_numbers v) → of_both n ≡ r.seat_of n = λ n h. moved-else other id r.seat_of n (not_its n h) in
        record {
          opens = k.opens;
          in_turn = k.in_turn;
          whole = k.whole;
          seen = omega arith;
          begins = k.begins;
          keeps = (l.begins, AllPrefix-both v.kept u.kept r.log k.keeps l.keeps);
          mine = λ e. let m = k.mine e in (still v.number (seated_held v v.number (own_seated v e)) ∙ m.0, m.1, m.2);
          unnumbered = k.unnumbered;
          drawn = k.drawn;
          ended = HaveAll-append r.log v.ended ((u.number, u.own) ∷ u.ended) k.ended ((l.mine numbered).2, l.ended);
          held = λ n h. ⊎_elim
              (λ (x : IsOneOf n (held_numbers v)). let m = k.held n x in (still n x ∙ m.0, m.1))
              (λ (x : IsOneOf n (numbers_of u)). let m = is_its n x in (moved-here other id r.seat_of n m.0, m.1))
              (among_both n (held_numbers v) (numbers_of u) (subst (IsOneOf n) (held_rejoined v u) h));
          apart = subst AreApart (sym (held_rejoined v u)) (apart_both (held_numbers v) (numbers_of u) k.apart (apart_of u numbered l.apart)
              (λ n x y. not_its n x (is_its n y).0));
        }

    knows_spent : Knew other spent_view
    knows_spent = record {
      opens = λ o e. absurd (cc e);
      in_turn = tt;
      whole = tt;
      seen = omega arith;
      begins = (r.log, refl);
      keeps = tt;
      mine = λ e. absurd (cc e);
      unnumbered = λ _. refl;
      drawn = λ n e. absurd (cc e);
      ended = tt;
      held = λ n f. absurd f;
      apart = tt;
    }

    each_left : (j : ℕ) (x : W) → get_elem? left j ≡ some x → Knew j x
    each_left = seats_stay Knew (set s.views id both) other spent_view knows_spent
        (λ j x away e. seats_stay (λ i y. i ≢ other → Knew i y) s.views id both (λ _. knows_both)
        (λ i y _ here far. knows_moved r.ticket r.serving r.seats r.log r.owner r.seat_of of_both i y
        (λ n is. moved-else other id r.seat_of n (λ same. far (sym is ∙ same)) ∙ is) (r.each_seat i y here)) j x e away)

    both_there : get_elem? left id ≡ some both
    both_there = set_else (set s.views id both) other id spent_view (λ e. apart (sym e)) ∙ at_here s.views id v both at

    -- what a seat that is not the joined one has, it has still
    stays_left : (P : W → Type 0) (j : ℕ) → j ≢ other → (P v → P both) → SeatWith P s.views j → SeatWith P left j
    stays_left P j away goes_on h =
        let x = some_stays P s.views id j v both at goes_on h in
        (x.0, set_else (set s.views id both) other j spent_view away ∙ x.1, x.2)

    -- the view at the joined seat's place
    is_u : (x : W) (j : ℕ) → j ≡ other → get_elem? s.views j ≡ some x → x ≡ u
    is_u x j is here = some-injective x u (sym here ∙ ap (λ i. get_elem? s.views i) is ∙ there)

    all_left : (n : ℕ) → n < r.seats → SeatWith (HoldsNumber n) left (of_both n)
    all_left n lt = dite (ℕ_discrete (r.seat_of n) other)
        (λ is. let q = r.all_seated n lt in
        let mine : IsOneOf n (held_numbers u) = subst (λ (x : W). IsOneOf n (held_numbers x)) (is_u q.0 (r.seat_of n) is q.1) q.2 in
        let its : IsOneOf n (numbers_of u) = of_seated u n numbered (none_drawn u.drawn (seated_numbers u) n undrawn mine) in
        subst (SeatWith (HoldsNumber n) left) (sym (moved-here other id r.seat_of n is))
        (both, both_there, subst (IsOneOf n) (sym (held_rejoined v u)) (among_right n (held_numbers v) (numbers_of u) its)))
        (λ away. subst (SeatWith (HoldsNumber n) left) (sym (moved-else other id r.seat_of n away))
        (stays_left (HoldsNumber n) (r.seat_of n) away
        (λ h. subst (IsOneOf n) (sym (held_rejoined v u)) (among_left n (held_numbers v) (numbers_of u) h)) (r.all_seated n lt)))

    made_left : AllMade r.seats r.maker of_both left
    made_left = λ n low lt.
        let made = r.all_made n low lt in
        let p : ℕ = r.maker n in (
          made.0,
          dite (ℕ_discrete (r.seat_of p) other)
              (λ is. let q = made.1 in
              let its : HasMade n p u = subst (λ (x : W). HasMade n p x) (is_u q.0 (r.seat_of p) is q.1) q.2 in
              subst (SeatWith (HasMade n p) left) (sym (moved-here other id r.seat_of p is)) (
                both,
                both_there,
                (
                  among_right n v.made u.made its.0,
                  subst (IsOneOf p) (sym (seated_rejoined v u))
                      (among_right p (seated_numbers v) (numbers_of u) (of_seated u p numbered its.1)),
                ),
              ))
              (λ away. subst (SeatWith (HasMade n p) left) (sym (moved-else other id r.seat_of p away))
              (stays_left (HasMade n p) (r.seat_of p) away
              (λ h. (
                among_left n v.made u.made h.0,
                subst (IsOneOf p) (sym (seated_rejoined v u)) (among_left p (seated_numbers v) (numbers_of u) h.1),
              )) made.1)),
        )

  pub joins : (id : ℕ) (v : W) (other : ℕ) (u : W) → v.stage ≡ Idle → u.stage ≡ Idle → u.numbered ≡ true → u.drawn ≡ None
      → Joins Rule id v other u (rejoined v u) spent_view
  joins id v other u idle idle_too numbered undrawn s r at apart there =
      let w : W = rejoined v u in
      let views : List W = set s.views id w in
      let was : get_elem? s.views other ≡ some u = sym (set_else s.views id other w apart) ∙ there in
      let home = home_stays r.book r.front r.serving (r.owner r.serving) s.homes s.views id v w at (ap has_out idle) r.at_home in
      let no_ticket : held_ticket u.stage ≡ None = ap held_ticket idle_too in record {
        ticket = r.ticket;
        serving = r.serving;
        front = r.front;
        seats = r.seats;
        log = r.log;
        book = r.book;
        owner = r.owner;
        seat_of = moved other id r.seat_of;
        words_are = r.words_are;
        one_slot = r.one_slot;
        in_order = r.in_order;
        front_is = r.front_is;
        replays = r.replays;
        at_home = home_stays r.book r.front r.serving (r.owner r.serving) s.homes views other u spent_view there (ap has_out idle_too) home;
        each_seat = each_left s r id other v u at was apart numbered undrawn;
        all_held = λ t le lt. some_stays (HoldsTicket t) views other (r.owner t) u spent_view there
            (λ h. absurd (cc (no_ticket, h))) (some_stays (HoldsTicket t) s.views id (r.owner t) v w at (λ h. h)
            (r.all_held t le lt));
        all_seated = all_left s r id other v u at was apart numbered undrawn;
        maker = r.maker;
        all_made = made_left s r id other v u at was apart numbered undrawn;
        none_later = r.none_later;
      }

  -- a slot has one book
  pub same_book : (b c : B) (slot : D) → HasBook b slot → HasBook c slot → b ≡ c
  same_book b c (Opening x) p q = sym p ∙ q
  same_book b c (After x event reply) p q = sym p ∙ q
  same_book b c Away p q = absurd p

  -- Each number that was drawn is one of those of a seat to which all came back: by the lowest that is not.
  all_back : (s : State D W) (r : Rule s) (id : ℕ) (v : W) → get_elem? s.views id ≡ some v → v.numbered ≡ true → IsWhole v
      → (m n : ℕ) → n < m → n < r.seats → IsOneOf n (numbers_of v)
  all_back s r id v at numbered whole zero n lt below = absurd (omega arith)
  all_back s r id v at numbered whole (suc m) zero lt below = whole.0
  all_back s r id v at numbered whole (suc m) (suc n) lt below =
      let made = r.all_made (suc n) (omega arith) below in
      let less : r.maker (suc n) < suc n = made.0 in
      let p : ℕ = r.maker (suc n) in
      let its : IsOneOf p (numbers_of v) = all_back s r id v at numbered whole m p (omega arith) (omega arith) in
      let holder : r.seat_of p ≡ id = ((r.each_seat id v at).held p (seated_held v p (seated_of v p numbered its))).0 in
      let same : made.1.0 ≡ v = some-injective made.1.0 v (sym made.1.1 ∙ ap (λ j. get_elem? s.views j) holder ∙ at) in
      whole.1 (suc n) (subst (λ (u : W). IsOneOf (suc n) u.made) same made.1.2.0)

  -- no entry of the history is of a number that was not drawn
  drawn_before : (s : State D W) (r : Rule s) (place : ℕ) (e : Entry E R) → slice_get r.log place ≡ Some e → e.seat < r.seats
  drawn_before s r place e here = by_order (below_or_past e.seat r.seats)
    where
      by_order : (e.seat < r.seats) ⊎ (r.seats ≤ e.seat) → e.seat < r.seats
      by_order (inl low) = low
      by_order (inr past) = absurd (entry_there e.seat 0 r.log place e here refl (r.none_later e.seat past))

  -- a table that is closed by the owner of the turn has the book in its slot
  pub closes : (ws : List ℕ) (xs : List D) (id t : ℕ) (o : B) (v : W) (slot : D) → Final (Seen Rule id v) ws xs
      → v.stage ≡ Called t → v.opening ≡ Some o → v.numbered ≡ true → get_elem? xs 0 ≡ some slot
      → (b : B) × HasBook b slot × Closes steps v b
  closes ws xs id t o v slot final is opens numbered there =
      let s = final.0 in
      let r : Rule s = final.1.0 in
      let at = final.1.1 in
      let not_out : has_out v.stage ≡ false = ap has_out is in
      let k = r.each_seat id v at in
      let kt : InTurn r.ticket r.serving r.owner id (Called t) = subst (InTurn r.ticket r.serving r.owner id) is k.in_turn in
      let mine : r.owner r.serving ≡ id = ap r.owner (sym kt.1) ∙ kt.0 in
      ⊎_elim
      (λ home. let same : home.1.0 ≡ slot = some-injective home.1.0 slot
      (sym (final.4 0 home.1.0 (ap (λ (hs : List (Option D)). get_elem? hs 0) home.1.1)) ∙ there) in (
        r.book,
        subst (HasBook r.book) same home.1.2,
        record {
          opening = o;
          log = r.log;
          opens = opens;
          replays = subst (λ z. Replays steps z r.log r.book) (sym (k.opens o opens)) r.replays;
          former = k.begins;
          former_kept = k.keeps;
          seen = k.seen;
          own_are = (k.mine numbered).2;
          ended_are = k.ended;
          apart = apart_of v numbered k.apart;
          none_else = λ whole place e here.
              all_back s r id v at numbered whole (e.seat + 1) e.seat (omega arith) (drawn_before s r place e here);
        },
      ))
      (λ out. let same : out.0 ≡ v = some-injective out.0 v (sym out.1 ∙ ap (λ j. get_elem? s.views j) mine ∙ at) in
      let stage : out.0.stage ≡ v.stage = ap (λ (z : W). z.stage) same in
      absurd (⊎_elim (λ x. stages_apart v.stage (Holding r.serving) has_out not_out refl (sym stage ∙ x.0))
      (λ x. stages_apart v.stage (Advanced r.serving) has_out not_out refl (sym stage ∙ x.0)) out.2))
      r.at_home

  -- what the closing seat knew before its turn
  pub closes_for : (t : ℕ) (v w : W) (b : B) → w ≡ staged (Called t) v → Closes steps w b → Closes steps v b
  closes_for t v w b e there =
      let k : Closes steps (staged (Called t) v) b = subst (λ (z : W). Closes steps z b) e there in record {
        opening = k.opening;
        log = k.log;
        opens = k.opens;
        replays = k.replays;
        former = k.former;
        former_kept = k.former_kept;
        seen = k.seen;
        own_are = k.own_are;
        ended_are = k.ended_are;
        apart = k.apart;
        none_else = k.none_else;
      }
