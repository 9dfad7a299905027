-- Nothing else is told of links where none is being served any more.
use Rattle.std.proofs.Common.{ℕ, List, [], Option, inl, ⊎_elim}
use Rattle.serve_turns.specs.declared.shared_book.view.View.{View}
use Rattle.serve_turns.specs.shared_book.Numbers.{IsOneOf, numbers_of}
use Rattle.serve_turns.specs.link_serving.Serving.{AreAllServed, AreServed, IsAmong}

pub all_served : {B E R X K : Type 0} (serves : ℕ → View B E R → X → View B E R → Type 0) (is_at : ℕ → K → Type 0) (count : ℕ)
    (ends : List (Option X)) (v : View B E R) → AreServed serves is_at [] count ends v → AreAllServed serves count ends v
all_served {B} {E} {R} {X} {K} serves is_at count ends v a = record {
  seat_at = a.seat_at;
  is_first = a.is_first;
  none_own = a.none_own;
  served_now = λ x h. absurd h;
  links = a.links;
  each = a.each;
  told = a.told;
  back = λ n h. ⊎_elim (λ (x : IsOneOf n (numbers_of v)). inl x)
      (λ (x : (place : ℕ) × (link : K) × IsAmong (place, n, link) []). absurd x.2) (a.back n h);
  as_many = a.as_many;
}
