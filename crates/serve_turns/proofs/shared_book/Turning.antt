-- The steps of a turn keep the rule: a ticket is drawn and waited for, the book is taken, the front advances, and the turn is passed.
use Rattle.std.proofs.Common.{◌≡◌, ◌≢◌, ◌⊎◌, inl, inr, ℕ, ◌+◌, ◌<◌, ◌≤◌, eqb, List, [], ◌∷◌, ◌++◌, length, get_or, set}
use Rattle.std.proofs.Common.{Some, None, Bool, true, false, refl, sym, ap, ◌∙◌, subst, ⊎_elim, arith, length-append}
use Rattle.std.proofs.Common.{length-set, eq-eqb, ne_eqb}
use mathlib.Core.Logic.{dite}
use mathlib.Core.Option.{Option, some, none, some-injective}
use mathlib.Core.List.{IsPrefix}
use native.Mathlib.Decide.{ℕ_discrete}
use prog.Atomic.{either}
use lib.ListN.{get_elem?}
use lib.Seq.{set-get_or}
use Rattle.atomic_table.specs.Table.{State, step, keeps, takes, gives, stepped, put_back, rest, Allows}
use Rattle.serve_turns.specs.declared.shared_book.view.Entry.{Entry}
use Rattle.serve_turns.specs.declared.shared_book.view.Stage.{Stage}
use Rattle.serve_turns.specs.declared.shared_book.view.Stage.TheVariants.{Idle, Waiting, Called, Holding, Advanced}
use Rattle.serve_turns.specs.declared.shared_book.view.View.{View}
use Rattle.serve_turns.specs.declared.shared_book.view.Slot.{Slot}
use Rattle.serve_turns.specs.shared_book.Histories.{Replays, entry_of}
use Rattle.serve_turns.specs.shared_book.Numbers.{IsOneOf, held_numbers}
use Rattle.serve_turns.specs.shared_book.Turns.{InTurn, HasWhole, HasBook, Knows, AtHome, SeatWith, HoldsTicket, HoldsNumber, Kept}
use Rattle.serve_turns.specs.shared_book.Turns.{ticket_of, held_ticket, called_if, called_by, Sat, placed, staged, holding, grown}
use Rattle.serve_turns.specs.shared_book.Turns.{noted_in, drawn_if, ticket_drawn, turn_looked_for, book_taken, front_advanced}
use Rattle.serve_turns.specs.shared_book.Turns.{turn_passed}
use Rattle.serve_turns.proofs.shared_book.Histories.{IsPrefix-self, IsPrefix-append, AllPrefix-append, entries_of-other}
use Rattle.serve_turns.proofs.shared_book.Histories.{entries_of-mine, Replays-append}
use Rattle.serve_turns.proofs.shared_book.Numbers.{HaveAll-grown, drawn_apart, drawn_held, ended_held, own_apart, own_seated}
use Rattle.serve_turns.proofs.shared_book.Views.{point, point-here, point-else, stages_apart, has_out, has_advanced, not_both}
use Rattle.serve_turns.proofs.shared_book.Views.{called_by-held, at_here, seats_stay, some_stays, made_stays, home_stays, unmoved}

-- another seat draws a ticket
turn_grows : (ticket ticket' serving : ℕ) (owner owner' : ℕ → ℕ) (j : ℕ) (st : Stage) → ticket ≤ ticket'
    → ((t : ℕ) → t < ticket → owner' t ≡ owner t)
    → InTurn ticket serving owner j st → InTurn ticket' serving owner' j st
turn_grows ticket ticket' serving owner owner' j Idle le same k = tt
turn_grows ticket ticket' serving owner owner' j (Waiting t) le same k = let below = k.2 in (same t below ∙ k.0, k.1, omega arith)
turn_grows ticket ticket' serving owner owner' j (Called t) le same k = let below = k.2 in (same t below ∙ k.0, k.1, omega arith)
turn_grows ticket ticket' serving owner owner' j (Holding t) le same k = let below = k.2 in (same t below ∙ k.0, k.1, omega arith)
turn_grows ticket ticket' serving owner owner' j (Advanced t) le same k = let below = k.2 in (same t below ∙ k.0, k.1, omega arith)

-- another seat, which owns the ticket being served, passes the turn
turn_passes : (ticket serving id : ℕ) (owner : ℕ → ℕ) (j : ℕ) (st : Stage) → owner serving ≡ id → j ≢ id
    → InTurn ticket serving owner j st → InTurn ticket (serving + 1) owner j st
turn_passes ticket serving id owner j Idle mine apart k = tt
turn_passes ticket serving id owner j (Waiting t) mine apart k =
    let from = k.1 in let later : t ≢ serving = λ e. apart (sym k.0 ∙ ap owner e ∙ mine) in (k.0, omega arith, k.2)
turn_passes ticket serving id owner j (Called t) mine apart k = absurd (apart (sym k.0 ∙ ap owner k.1 ∙ mine))
turn_passes ticket serving id owner j (Holding t) mine apart k = absurd (apart (sym k.0 ∙ ap owner k.1 ∙ mine))
turn_passes ticket serving id owner j (Advanced t) mine apart k = absurd (apart (sym k.0 ∙ ap owner k.1 ∙ mine))

-- a seat that does not own the ticket being served claims no whole history
whole_else : {E R : Type 0} (ticket serving id : ℕ) (owner : ℕ → ℕ) (j : ℕ) (log history : List (Entry E R))
    (st : Stage) → owner serving ≡ id → j ≢ id
    → InTurn ticket serving owner j st → HasWhole log history st
whole_else ticket serving id owner j log history Idle mine apart k = tt
whole_else ticket serving id owner j log history (Waiting t) mine apart k = tt
whole_else ticket serving id owner j log history (Called t) mine apart k = tt
whole_else ticket serving id owner j log history (Holding t) mine apart k = absurd (apart (sym k.0 ∙ ap owner k.1 ∙ mine))
whole_else ticket serving id owner j log history (Advanced t) mine apart k = absurd (apart (sym k.0 ∙ ap owner k.1 ∙ mine))

called_by-fits : (ticket serving found : ℕ) (owner : ℕ → ℕ) (j : ℕ) (st : Stage) → found ≡ serving
    → InTurn ticket serving owner j st → InTurn ticket serving owner j (called_by found st)
called_by-fits ticket serving found owner j Idle is k = tt
called_by-fits ticket serving found owner j (Called t) is k = k
called_by-fits ticket serving found owner j (Holding t) is k = k
called_by-fits ticket serving found owner j (Advanced t) is k = k
called_by-fits ticket serving found owner j (Waiting t) is k = dite (ℕ_discrete found t)
    (λ hit. subst (λ b. InTurn ticket serving owner j (called_if b t)) (sym (eq-eqb found t hit)) (k.0, sym hit ∙ is, k.2))
    (λ miss. subst (λ b. InTurn ticket serving owner j (called_if b t)) (sym (ne_eqb found t miss)) k)

called_by-whole : {E R : Type 0} (log history : List (Entry E R)) (found : ℕ) (st : Stage) → HasWhole log history st
    → HasWhole log history (called_by found st)
called_by-whole log history found Idle k = tt
called_by-whole log history found (Called t) k = tt
called_by-whole log history found (Holding t) k = k
called_by-whole log history found (Advanced t) k = k
called_by-whole log history found (Waiting t) k = by_test (eqb found t)
  where
    by_test : (b : Bool) → HasWhole log history (called_if b t)
    by_test true = tt
    by_test false = tt

-- the one slot of a table after it is written
one_slot_is : {A : Type 0} (homes : List (Option A)) (x : Option A) → length homes ≡ 1 → set homes 0 x ≡ x ∷ []
one_slot_is [] x e = absurd (omega arith)
one_slot_is (h ∷ []) x e = refl
one_slot_is (h ∷ k ∷ hs) x e = absurd (omega arith)

module _ {B E R : Type 0} (steps : B → E → R → B → Type 0) (opened : B) where
  abbrev W : Type 0
  W = View B E R

  abbrev D : Type 0
  D = Slot B E R

  abbrev M : Type 0
  M = Sat B E R

  abbrev Rule : State D W → Type 0
  Rule = Kept steps opened

  -- the owner of the ticket being served may have another name once it is drawn
  home_owned : (book : B) (front serving holder holder' : ℕ) (homes : List (Option D)) (views : List W)
      → ((v : W) → get_elem? views holder ≡ some v → (v.stage ≡ Holding serving) ⊎ (v.stage ≡ Advanced serving) → holder' ≡ holder)
      → AtHome book front serving holder homes views → AtHome book front serving holder' homes views
  home_owned book front serving holder holder' homes views same home =
      ⊎_elim (λ t. inl t) (λ t.
      inr (t.0, ap (λ j. get_elem? views j) (same t.0 t.1 (⊎_elim (λ x. inl x.0) (λ x. inr x.0) t.2)) ∙ t.1, t.2))
      home

  -- the ticket of a seat that has the book was drawn
  out_below : (ticket serving : ℕ) (owner : ℕ → ℕ) (j : ℕ) (st : Stage) → InTurn ticket serving owner j st
      → (st ≡ Holding serving) ⊎ (st ≡ Advanced serving) → serving < ticket
  out_below ticket serving owner j st k out = ⊎_elim
      (λ e. let q : InTurn ticket serving owner j (Holding serving) = subst (InTurn ticket serving owner j) e k in q.2)
      (λ e. let q : InTurn ticket serving owner j (Advanced serving) = subst (InTurn ticket serving owner j) e k in q.2)
      out

  -- what a seat knows while another seat draws a ticket
  knows_drawn : (ticket ticket' serving seats : ℕ) (log : List (Entry E R)) (owner owner' seat_of : ℕ → ℕ) (j : ℕ)
      (v : W) → ticket ≤ ticket' → ((t : ℕ) → t < ticket → owner' t ≡ owner t)
      → Knows opened ticket serving seats log owner seat_of j v → Knows opened ticket' serving seats log owner' seat_of j v
  knows_drawn ticket ticket' serving seats log owner owner' seat_of j v le same k = record {
    opens = k.opens;
    in_turn = turn_grows ticket ticket' serving owner owner' j v.stage le same k.in_turn;
    whole = k.whole;
    seen = k.seen;
    begins = k.begins;
    keeps = k.keeps;
    mine = k.mine;
    unnumbered = k.unnumbered;
    drawn = k.drawn;
    ended = k.ended;
    held = k.held;
    apart = k.apart;
  }

  pub draws : (slots id old new : ℕ) (me : M) → me.0.stage ≡ Idle → new ≡ old + 1 → Allows Rule slots id me 0
      (λ n. either (eqb n old) new n) (ticket_drawn (step slots 0 old new none) me)
  draws slots id old new me idle up s r hl at small =
      let n : ℕ = get_or s.words 0 0 in
      let is_n : n ≡ r.ticket = ap (λ (ws : List ℕ). get_or ws 0 0) r.words_are in
      let not_out : has_out me.0.stage ≡ false = ap has_out idle in
      let no_ticket : held_ticket me.0.stage ≡ None = ap held_ticket idle in
      let k = r.each_seat id me.0 at in
      dite (ℕ_discrete n old)
      (λ hit. let w : W = staged (Waiting old) me.0 in
      let owner' : ℕ → ℕ = point old id r.owner in
      let ordered = r.in_order in
      let same : (t : ℕ) → t < r.ticket → owner' t ≡ r.owner t = λ t l. point-else old id r.owner t (λ e. omega arith) in (
        w,
        keeps,
        tt,
        subst (λ b. Rule (stepped s 0 (either b new n) id me.1 w keeps)) (sym (eq-eqb n old hit)) record {
          ticket = new;
          serving = r.serving;
          front = r.front;
          seats = r.seats;
          log = r.log;
          book = r.book;
          owner = owner';
          seat_of = r.seat_of;
          words_are = ap (λ (ws : List ℕ). set ws 0 new) r.words_are;
          one_slot = r.one_slot;
          in_order = omega arith;
          front_is = r.front_is;
          replays = r.replays;
          at_home = home_stays r.book r.front r.serving (owner' r.serving) s.homes s.views id me.0 w at not_out
              (home_owned r.book r.front r.serving (r.owner r.serving) (owner' r.serving) s.homes s.views
              (λ v at' out. same r.serving (out_below r.ticket r.serving r.owner (r.owner r.serving) v.stage
              (r.each_seat (r.owner r.serving) v at').in_turn out)) r.at_home);
          each_seat = seats_stay (Knows opened new r.serving r.seats r.log owner' r.seat_of) s.views id w
              record {
                opens = k.opens;
                in_turn = (point-here old id r.owner, omega arith, omega arith);
                whole = tt;
                seen = k.seen;
                begins = k.begins;
                keeps = k.keeps;
                mine = k.mine;
                unnumbered = k.unnumbered;
                drawn = k.drawn;
                ended = k.ended;
                held = k.held;
                apart = k.apart;
              }
              (λ j d _ e. knows_drawn r.ticket new r.serving r.seats r.log r.owner owner' r.seat_of j d (omega arith)
              same (r.each_seat j d e));
          all_held = λ t le lt. dite (ℕ_discrete t old)
              (λ is. (
                w,
                subst (λ j. get_elem? (set s.views id w) j ≡ some w)
                    (sym (ap owner' is ∙ point-here old id r.owner)) (at_here s.views id me.0 w at),
                ap Some (sym is),
              ))
              (λ apart. let below : t < r.ticket = omega arith in
              subst (λ j. SeatWith (HoldsTicket t) (set s.views id w) j) (sym (same t below))
              (some_stays (HoldsTicket t) s.views id (r.owner t) me.0 w at (λ h. absurd (cc (no_ticket, h)))
              (r.all_held t le below)));
          all_seated = λ m lt. some_stays (HoldsNumber m) s.views id (r.seat_of m) me.0 w at (λ h. h) (r.all_seated m lt);
          maker = r.maker;
          all_made = made_stays r.seats r.maker r.seat_of s.views id me.0 w at (λ n p h. h) r.all_made;
          none_later = r.none_later;
        },
        subst (λ b. (w, me.1) ≡ drawn_if b old me) (sym (eq-eqb n old hit)) refl,
      ))
      (λ miss. (
        me.0,
        keeps,
        tt,
        subst (λ b. Rule (stepped s 0 (either b new n) id me.1 me.0 keeps)) (sym (ne_eqb n old miss))
            (unmoved steps opened s r 0 id me.1 me.0 me.0 at k (home_stays r.book r.front r.serving (r.owner r.serving)
            s.homes s.views id me.0 me.0 at not_out r.at_home) (λ t h. h) (λ m h. h) (λ n p h. h)),
        subst (λ b. me ≡ drawn_if b old me) (sym (ne_eqb n old miss)) refl,
      ))

  pub looks : (slots id t : ℕ) (me : M) → me.0.stage ≡ Waiting t → Allows Rule slots id me 1 (λ n. n)
      (turn_looked_for (step slots 1 0 0 none) me)
  looks slots id t me is s r hl at small =
      let n : ℕ = get_or s.words 1 0 in
      let is_n : n ≡ r.serving = ap (λ (ws : List ℕ). get_or ws 1 0) r.words_are in
      let k = r.each_seat id me.0 at in
      let w : W = staged (called_by n me.0.stage) me.0 in (
        w,
        keeps,
        tt,
        unmoved steps opened s r 1 id me.1 me.0 w at
            record {
              opens = k.opens;
              in_turn = called_by-fits r.ticket r.serving n r.owner id me.0.stage is_n k.in_turn;
              whole = called_by-whole r.log me.0.history n me.0.stage k.whole;
              seen = k.seen;
              begins = k.begins;
              keeps = k.keeps;
              mine = k.mine;
              unnumbered = k.unnumbered;
              drawn = k.drawn;
              ended = k.ended;
              held = k.held;
              apart = k.apart;
            }
            (home_stays r.book r.front r.serving (r.owner r.serving) s.homes s.views id me.0 w at (ap has_out is) r.at_home)
            (λ x h. called_by-held n me.0.stage ∙ h) (λ m h. h) (λ n p h. h),
        refl,
      )

  pub takes_book : (slots id t : ℕ) (me : M) → me.0.stage ≡ Called t → Allows Rule slots id me 2 (λ n. n)
      (book_taken steps (step slots 2 0 0 none) me)
  takes_book slots id t me is s r hl at small =
      let n : ℕ = get_or s.words 2 0 in
      let is_n : n ≡ r.front = ap (λ (ws : List ℕ). get_or ws 2 0) r.words_are in
      let not_out : has_out me.0.stage ≡ false = ap has_out is in
      let k = r.each_seat id me.0 at in
      let long = r.front_is in
      let seen = k.seen in
      let ticket_is : ticket_of me.0.stage ≡ t = ap ticket_of is in
      let kt : InTurn r.ticket r.serving r.owner id (Called t) = subst (InTurn r.ticket r.serving r.owner id) is k.in_turn in
      let mine : r.owner r.serving ≡ id = ap r.owner (sym kt.1) ∙ kt.0 in
      let w : W = holding n r.log me.0 in
      let knows : Knows opened r.ticket r.serving r.seats r.log r.owner r.seat_of id w = record {
        opens = k.opens;
        in_turn = subst (λ z. InTurn r.ticket r.serving r.owner id (Holding z)) (sym ticket_is) kt;
        whole = refl;
        seen = omega arith;
        begins = IsPrefix-self r.log;
        keeps = k.keeps;
        mine = k.mine;
        unnumbered = k.unnumbered;
        drawn = k.drawn;
        ended = k.ended;
        held = k.held;
        apart = k.apart;
      } in
      ⊎_elim
      (λ home. let slot : D = home.1.0 in let bound = home.0 in let at_serving = kt.1 in (
        w,
        takes 0 slot,
        ap (λ (hs : List (Option D)). get_elem? hs 0) home.1.1,
        subst (λ (ws : List ℕ). Rule record { words = ws; homes = set s.homes 0 none; views = set s.views id w })
            (sym (set-get_or s.words 2 0)) record {
              ticket = r.ticket;
              serving = r.serving;
              front = r.front;
              seats = r.seats;
              log = r.log;
              book = r.book;
              owner = r.owner;
              seat_of = r.seat_of;
              words_are = r.words_are;
              one_slot = length-set s.homes 0 none ∙ r.one_slot;
              in_order = r.in_order;
              front_is = r.front_is;
              replays = r.replays;
              at_home = inr (
                w,
                subst (λ j. get_elem? (set s.views id w) j ≡ some w) (sym mine)
                    (at_here s.views id me.0 w at),
                inl (ap Holding (ticket_is ∙ kt.1), bound),
              );
              each_seat = seats_stay (Knows opened r.ticket r.serving r.seats r.log r.owner r.seat_of) s.views id w knows
                  (λ j v _ e. r.each_seat j v e);
              all_held = λ x le lt. some_stays (HoldsTicket x) s.views id (r.owner x) me.0 w at (λ h. ap Some ticket_is
                  ∙ (sym (ap held_ticket is) ∙ h)) (r.all_held x le lt);
              all_seated = λ m lt. some_stays (HoldsNumber m) s.views id (r.seat_of m) me.0 w at (λ h. h) (r.all_seated m lt);
              maker = r.maker;
              all_made = made_stays r.seats r.maker r.seat_of s.views id me.0 w at (λ n p h. h) r.all_made;
              none_later = r.none_later;
            },
        record {
          log = r.log;
          slot = slot;
          book = r.book;
          after = refl;
          front = is_n ∙ long;
          in_order = omega arith;
          seen = omega arith;
          has_book = home.1.2;
          replays = λ o e. subst (λ z. Replays steps z r.log r.book) (sym (k.opens o e)) r.replays;
          begins = k.begins;
          keeps = k.keeps;
          mine = λ e. (k.mine e).2;
        },
      ))
      (λ out. let same : out.0 ≡ me.0 = some-injective out.0 me.0 (sym out.1 ∙ ap (λ j. get_elem? s.views j) mine ∙ at) in
      let stage : out.0.stage ≡ me.0.stage = ap (λ (z : W). z.stage) same in
      absurd (⊎_elim (λ x. stages_apart me.0.stage (Holding r.serving) has_out not_out refl (sym stage ∙ x.0))
      (λ x. stages_apart me.0.stage (Advanced r.serving) has_out not_out refl (sym stage ∙ x.0)) out.2))
      r.at_home

  -- what a seat knows while another passes the turn
  knows_passed : (ticket serving seats : ℕ) (log : List (Entry E R)) (owner seat_of : ℕ → ℕ) (id j : ℕ) (v : W)
      → owner serving ≡ id → j ≢ id
      → Knows opened ticket serving seats log owner seat_of j v → Knows opened ticket (serving + 1) seats log owner seat_of j v
  knows_passed ticket serving seats log owner seat_of id j v mine apart k = record {
    opens = k.opens;
    in_turn = turn_passes ticket serving id owner j v.stage mine apart k.in_turn;
    whole = k.whole;
    seen = k.seen;
    begins = k.begins;
    keeps = k.keeps;
    mine = k.mine;
    unnumbered = k.unnumbered;
    drawn = k.drawn;
    ended = k.ended;
    held = k.held;
    apart = k.apart;
  }

  -- what a seat knows while another adds its entry
  knows_grown : (ticket serving seats : ℕ) (log : List (Entry E R)) (e : Entry E R) (owner seat_of : ℕ → ℕ) (id j : ℕ)
      (v : W) → owner serving ≡ id → j ≢ id → seat_of e.seat ≡ id
      → Knows opened ticket serving seats log owner seat_of j v → Knows opened ticket serving seats (log ++ e ∷ []) owner seat_of j v
  knows_grown ticket serving seats log e owner seat_of id j v mine apart writer k =
      let not_its : (n : ℕ) → IsOneOf n (held_numbers v) → e.seat ≢ n =
      λ n h same. apart (sym (k.held n h).0 ∙ ap seat_of (sym same) ∙ writer) in record {
        opens = k.opens;
        in_turn = k.in_turn;
        whole = whole_else ticket serving id owner j (log ++ e ∷ []) v.history v.stage mine apart k.in_turn;
        seen = let x = k.seen in omega (arith, length-append log (e ∷ []));
        begins = IsPrefix-append v.history log (e ∷ []) k.begins;
        keeps = AllPrefix-append v.kept log (e ∷ []) k.keeps;
        mine = λ n. let m = k.mine n in (
          m.0,
          m.1,
          m.2 ∙ sym (entries_of-other v.number log e
              (λ same. apart (sym m.0 ∙ ap seat_of (sym same) ∙ writer))),
        );
        unnumbered = k.unnumbered;
        drawn = λ n d. entries_of-other n log e (not_its n (drawn_held v n d)) ∙ k.drawn n d;
        ended = HaveAll-grown log e v.ended (λ n h. not_its n (ended_held v n h)) k.ended;
        held = k.held;
        apart = k.apart;
      }

  pub advances : (slots id t new : ℕ) (me : M) (o b b' : B) (event : E) (reply : R) → me.0.stage ≡ Holding t → new
      ≡ me.0.front + 1 → me.0.front ≡ length me.0.history → me.0.numbered ≡ true
      → me.0.opening ≡ Some o → Replays steps o me.0.history b → steps b event reply b' → noted_in me.0.number me.1
      ≡ entry_of me.0.number event reply ∷ []
      → Allows Rule slots id me 2 (λ _. new) (λ _. front_advanced (step slots 2 new 0 none) me new)
  advances slots id t new me o b b' event reply is up at_front numbered opens replays stepped_on notes s r hl at small =
      let e : Entry E R = entry_of me.0.number event reply in
      let k = r.each_seat id me.0 at in
      let m = k.mine numbered in
      let long = r.front_is in
      let ticket_is : ticket_of me.0.stage ≡ t = ap ticket_of is in
      let kt : InTurn r.ticket r.serving r.owner id (Holding t) = subst (InTurn r.ticket r.serving r.owner id) is k.in_turn in
      let mine : r.owner r.serving ≡ id = ap r.owner (sym kt.1) ∙ kt.0 in
      let same_log : me.0.history ≡ r.log = subst (HasWhole r.log me.0.history) is k.whole in
      let same_len : me.0.front ≡ length r.log = at_front ∙ ap length same_log in
      let grown_to : new ≡ length (r.log ++ e ∷ []) = omega (arith, length-append r.log (e ∷ [])) in
      let w : W = grown new (noted_in me.0.number me.1) me.0 in
      let bound : r.front ≤ r.serving = ⊎_elim (λ home. home.0)
      (λ out. let same : out.0 ≡ me.0 = some-injective out.0 me.0 (sym out.1 ∙ ap (λ j. get_elem? s.views j) mine ∙ at) in
      ⊎_elim (λ x. x.1) (λ x. absurd (stages_apart (Holding t) (Advanced r.serving) has_advanced refl refl
      (sym is ∙ (ap (λ (z : W). z.stage) (sym same) ∙ x.0)))) out.2) r.at_home in (
        w,
        keeps,
        tt,
        record {
          ticket = r.ticket;
          serving = r.serving;
          front = new;
          seats = r.seats;
          log = r.log ++ e ∷ [];
          book = b';
          owner = r.owner;
          seat_of = r.seat_of;
          words_are = ap (λ (ws : List ℕ). set ws 2 new) r.words_are;
          one_slot = r.one_slot;
          in_order = r.in_order;
          front_is = grown_to;
          replays = Replays-append steps opened b b' r.log e
              (subst (λ (z : B × List (Entry E R)). Replays steps z.0 z.1 b) (λ i. (k.opens o opens i, same_log i))
              replays) stepped_on;
          at_home = inr (
            w,
            subst (λ j. get_elem? (set s.views id w) j ≡ some w) (sym mine)
                (at_here s.views id me.0 w at),
            inr (ap Advanced (ticket_is ∙ kt.1), omega arith),
          );
          each_seat = seats_stay (Knows opened r.ticket r.serving r.seats (r.log ++ e ∷ []) r.owner r.seat_of) s.views id w record {
            opens = k.opens;
            in_turn = subst (λ z. InTurn r.ticket r.serving r.owner id (Advanced z)) (sym ticket_is) kt;
            whole = λ i. same_log i ++ notes i;
            seen = omega arith;
            begins = subst (λ l. IsPrefix l (r.log ++ e ∷ [])) (λ i. sym same_log i ++ sym notes i) (IsPrefix-self (r.log ++ e ∷ []));
            keeps = AllPrefix-append me.0.kept r.log (e ∷ []) k.keeps;
            mine = λ _. (m.0, m.1, (λ i. m.2 i ++ placed (same_len i) (notes i)) ∙ sym (entries_of-mine me.0.number r.log e refl));
            unnumbered = λ e. absurd (not_both me.0.numbered numbered e);
            drawn = λ n d. entries_of-other n r.log e (drawn_apart me.0 n me.0.number k.apart d (own_seated me.0 numbered)) ∙ k.drawn n d;
            ended = HaveAll-grown r.log e me.0.ended (λ n h. own_apart me.0 n numbered k.apart h) k.ended;
            held = k.held;
            apart = k.apart;
          } (λ j v apart x. knows_grown r.ticket r.serving r.seats r.log e r.owner r.seat_of id j v mine apart m.0 (r.each_seat j v x));
          all_held = λ x le lt. some_stays (HoldsTicket x) s.views id (r.owner x) me.0 w at (λ h. ap Some ticket_is
              ∙ (sym (ap held_ticket is) ∙ h)) (r.all_held x le lt);
          all_seated = λ n lt. some_stays (HoldsNumber n) s.views id (r.seat_of n) me.0 w at (λ h. h) (r.all_seated n lt);
          maker = r.maker;
          all_made = made_stays r.seats r.maker r.seat_of s.views id me.0 w at (λ n p h. h) r.all_made;
          none_later = λ n le. let below = m.1 in entries_of-other n r.log e (λ same. omega arith) ∙ r.none_later n le;
        },
        refl,
      )

  pub passes : (slots id t new : ℕ) (me : M) (o b : B) (slot : D) → me.0.stage ≡ Advanced t → new ≡ t + 1 → me.1
      ≡ (0, slot) ∷ [] → HasBook b slot → me.0.opening ≡ Some o → Replays steps o me.0.history b
      → Allows Rule slots id me 1 (λ _. new) (λ _. turn_passed (step slots 1 new 0 none) me new)
  passes slots id t new me o b slot is up out has_book opens replays s r hl at small =
      let k = r.each_seat id me.0 at in
      let kt : InTurn r.ticket r.serving r.owner id (Advanced t) = subst (InTurn r.ticket r.serving r.owner id) is k.in_turn in
      let mine : r.owner r.serving ≡ id = ap r.owner (sym kt.1) ∙ kt.0 in
      let same_log : me.0.history ≡ r.log = subst (HasWhole r.log me.0.history) is k.whole in
      let w : W = staged Idle me.0 in
      let at_serving : t ≡ r.serving = kt.1 in
      let below : t < r.ticket = kt.2 in
      let next : new ≡ r.serving + 1 = omega arith in
      let bound : r.front ≤ new = ⊎_elim (λ h. let x = h.0 in omega arith)
      (λ h. ⊎_elim (λ x. let y = x.1 in omega arith) (λ x. let y = x.1 in omega arith) h.2) r.at_home in (
        w,
        gives,
        tt,
        record {
          ticket = r.ticket;
          serving = new;
          front = r.front;
          seats = r.seats;
          log = r.log;
          book = b;
          owner = r.owner;
          seat_of = r.seat_of;
          words_are = ap (λ (ws : List ℕ). set ws 1 new) r.words_are;
          one_slot = subst (λ (c : List (ℕ × D)). length (put_back s.homes c) ≡ 1) (sym out)
              (length-set s.homes 0 (some slot) ∙ r.one_slot);
          in_order = omega arith;
          front_is = r.front_is;
          replays = subst (λ (z : B × List (Entry E R)). Replays steps z.0 z.1 b) (λ i. (k.opens o opens i, same_log i)) replays;
          at_home = inl (bound, (slot, ap (put_back s.homes) out ∙ one_slot_is s.homes (some slot) r.one_slot, has_book));
          each_seat = seats_stay (Knows opened r.ticket new r.seats r.log r.owner r.seat_of) s.views id w
              record {
                opens = k.opens;
                in_turn = tt;
                whole = tt;
                seen = k.seen;
                begins = k.begins;
                keeps = k.keeps;
                mine = k.mine;
                unnumbered = k.unnumbered;
                drawn = k.drawn;
                ended = k.ended;
                held = k.held;
                apart = k.apart;
              }
              (λ j v apart x. subst (λ z. Knows opened r.ticket z r.seats r.log r.owner r.seat_of j v) (sym next)
              (knows_passed r.ticket r.serving r.seats r.log r.owner r.seat_of id j v mine apart
              (r.each_seat j v x)));
          all_held = λ x le lt. some_stays (HoldsTicket x) s.views id (r.owner x) me.0 w at
              (λ h. let same : t ≡ x = cc (ap held_ticket is, h) in absurd (omega arith)) (r.all_held x (omega arith) lt);
          all_seated = λ n lt. some_stays (HoldsNumber n) s.views id (r.seat_of n) me.0 w at (λ h. h) (r.all_seated n lt);
          maker = r.maker;
          all_made = made_stays r.seats r.maker r.seat_of s.views id me.0 w at (λ n p h. h) r.all_made;
          none_later = r.none_later;
        },
        ap (λ (c : List (ℕ × D)). (w, rest c)) out,
      )
