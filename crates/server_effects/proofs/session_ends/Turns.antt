-- A session's plain opens leave in turns.
use Rattle.std.proofs.Common.{◌≡◌, ◌⊎◌, inl, inr, ℕ, ◌+◌, ◌≤◌, Bool, List, [], ◌∷◌, ◌++◌, length, refl, sym, ap, subst, arith, ◌∙◌}
use Rattle.std.proofs.Common.{append-nil, append_assoc, length-append}
use Rattle.spec_exchange.specs.Effects.{plain_of}
use Rattle.spec_exchange.specs.State.{Server}
use Rattle.server_checks.specs.Shown.{TablesShown}
use Rattle.server_checks.specs.declared.tables.Tables.{Tables}
use Rattle.law_server.specs.tables.Fits.{Fits}
use Rattle.server_effects.proofs.session_ends.Left.{first_stands, left_keeps, plain_few, plain_rest}
use Rattle.server_effects.specs.session_ends.Ended.{all_left, first_left, left_behind}

-- behind so many turns: these opens left, or none is left
pub record InTurn (n : ℕ) (s : Server) (t : Tables) (x : ℕ) (q : Bool) : Type 0 where
  pub state : Server
  pub done : List ℕ
  pub left : state ≡ all_left s done q
  pub fits : Fits state
  pub split : plain_of s x ≡ done ++ plain_of state x
  pub count : (plain_of state x ≡ []) ⊎ (length done ≡ n)
  pub shows : TablesShown t state

pub begun : (s : Server) (t : Tables) (x : ℕ) (q : Bool) → Fits s → TablesShown t s → InTurn 0 s t x q
begun s t x q f h = record {
  state = s;
  done = [];
  left = refl;
  fits = f;
  split = refl;
  count = inr refl;
  shows = h;
}

one_more : (s : Server) (os : List ℕ) (o : ℕ) (q : Bool) → all_left s (os ++ o ∷ []) q ≡ left_behind (all_left s os q) o q
one_more s [] o q = refl
one_more s (p ∷ os) o q = one_more (left_behind s p q) os o q

-- nothing is left, or one open less
stays : (n : ℕ) (s : Server) (t : Tables) (x : ℕ) (q : Bool) (l : InTurn n s t x q) (u : Tables) → plain_of l.state x ≡ []
    → TablesShown u (first_left l.state (plain_of l.state x) q) → InTurn (n + 1) s u x q
stays n s t x q l u e h = record {
  state = l.state;
  done = l.done;
  left = l.left;
  fits = l.fits;
  split = l.split;
  count = inl e;
  shows = subst (λ (os : List ℕ). TablesShown u (first_left l.state os q)) e h;
}

counted : (n : ℕ) (done : List ℕ) (o : ℕ) (os rest : List ℕ) → rest ≡ o ∷ os → (rest ≡ []) ⊎ (length done ≡ n)
    → length (done ++ o ∷ []) ≡ n + 1
counted n done o os rest e (inl k) = absurd (let m = sym e ∙ k in cc)
counted n done o os rest e (inr k) = length-append done (o ∷ []) ∙ (omega arith)

goes_on : (n : ℕ) (s : Server) (t : Tables) (x : ℕ) (q : Bool) (l : InTurn n s t x q) (u : Tables) (o : ℕ) (os : List ℕ)
    → plain_of l.state x ≡ o ∷ os → TablesShown u (first_left l.state (plain_of l.state x) q) → InTurn (n + 1) s u x q
goes_on n s t x q l u o os e h = record {
  state = left_behind l.state o q;
  done = l.done ++ o ∷ [];
  left = ap (λ (v : Server). left_behind v o q) l.left ∙ sym (one_more s l.done o q);
  fits = left_keeps l.state o q (first_stands l.state x o os l.fits e) l.fits;
  split = l.split ∙ (ap (λ (ys : List ℕ). l.done ++ ys) (e ∙ ap (λ (ys : List ℕ). o ∷ ys) (sym (plain_rest l.state x o os q l.fits e)))
      ∙ sym (append_assoc l.done (o ∷ []) (plain_of (left_behind l.state o q) x)));
  count = inr (counted n l.done o os (plain_of l.state x) e l.count);
  shows = subst (λ (ys : List ℕ). TablesShown u (first_left l.state ys q)) e h;
}

pub next : (n : ℕ) (s : Server) (t : Tables) (x : ℕ) (q : Bool) (u : Tables) → InTurn n s t x q
    → ((v : Server) → Fits v → TablesShown t v → TablesShown u (first_left v (plain_of v x) q)) → InTurn (n + 1) s u x q
next n s t x q u l h = by (plain_of l.state x) refl
  where
    by : (os : List ℕ) → plain_of l.state x ≡ os → InTurn (n + 1) s u x q
    by [] e = stays n s t x q l u e (h l.state l.fits l.shows)
    by (o ∷ os) e = goes_on n s t x q l u o os e (h l.state l.fits l.shows)

empty : (xs : List ℕ) → length xs ≤ 0 → xs ≡ []
empty [] h = refl
empty (x ∷ xs) h = absurd (omega arith)

pub all_in_turn : (n : ℕ) (s : Server) (t : Tables) (x : ℕ) (q : Bool) → InTurn n s t x q → n ≡ length s.opens
    → TablesShown t (all_left s (plain_of s x) q)
all_in_turn n s t x q l e =
    let none : plain_of l.state x ≡ [] = by l.count in
    let whole : l.done ≡ plain_of s x
    = sym (append-nil l.done) ∙ (ap (λ (ys : List ℕ). l.done ++ ys) (sym none) ∙ sym l.split) in
    subst (λ (v : Server). TablesShown t v) (l.left ∙ ap (λ (ys : List ℕ). all_left s ys q) whole) l.shows
  where
    few : length l.done + length (plain_of l.state x) ≤ length s.opens
    few = subst (λ (k : ℕ). k ≤ length s.opens) (ap length l.split ∙ length-append l.done (plain_of l.state x)) (plain_few s x s.opens)

    by : (plain_of l.state x ≡ []) ⊎ (length l.done ≡ n) → plain_of l.state x ≡ []
    by (inl k) = k
    by (inr k) = let f = few in empty (plain_of l.state x) (omega arith)
