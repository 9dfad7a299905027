-- Over a connection that loses nothing the window holds what the purse spends.
use Rattle.std.proofs.Common.{◌≡◌, ℕ, ◌+◌, ◌-◌, ◌≤◌, ◌^◌, leb, not, Bool, true, false, List, [], ◌∷◌, ◌++◌, length, sum}
use Rattle.std.proofs.Common.{None, refl, ap, sym, ◌∙◌, subst, arith}
use Rattle.std.proofs.lemmas.List.Elements.{filter-append}
use Rattle.std.proofs.lemmas.List.Sums.{sum_by-append, sum_by-cons}
use borrow.Author.Tests.{leb-true}
use Rattle.spec_wire.specs.credits.Ids.{counted, ids_from, is_among, without, outside}
use Rattle.spec_wire.specs.credits.Window.{HeldIds, after_take, granted}
use Rattle.spec_wire.specs.credits.Exchange.{Line, first_line, Step, sends, serves, hears, sent_if, served_if, served, heard}
use Rattle.spec_wire.specs.credits.Exchange.{after_step, after_steps, ids_on_their_way, IsBalanced, FrontIsHeld}
use Rattle.spec_wire.specs.credits.Exchange.{NothingIsRefused}
use Rattle.law_wire.proofs.credits.Rows.{IsAscending-ids_from, ids_from-append, length-ids_from, outside-run, without-run, without-above}

-- the requests on their way use ids one behind the other
abbrev Follow : ℕ → List (ℕ × ℕ) → ℕ → Type 0
Follow low [] end = low ≡ end
Follow low (q ∷ qs) end = (q.0 ≡ low) × Follow (low + counted q.1) qs end

Follow-le : (low : ℕ) (qs : List (ℕ × ℕ)) (end : ℕ) → Follow low qs end → low ≤ end
Follow-le low [] end f = omega arith
Follow-le low (q ∷ qs) end f = let later = Follow-le (low + counted q.1) qs end f.1 in omega arith

Follow-push : (low : ℕ) (qs : List (ℕ × ℕ)) (end charge : ℕ) → Follow low qs end → Follow low (qs ++ (end, charge) ∷ [])
    (end + counted charge)
Follow-push low [] end charge f = (sym f, ap (λ x. x + counted charge) f)
Follow-push low (q ∷ qs) end charge f = (f.0, Follow-push (low + counted q.1) qs end charge f.1)

Follow-ids : (low : ℕ) (qs : List (ℕ × ℕ)) (end : ℕ) → Follow low qs end → ids_on_their_way qs ≡ ids_from low (end - low)
Follow-ids low [] end f = let none : 0 ≡ end - low = omega arith in ap (ids_from low) none
Follow-ids low (q ∷ qs) end f =
    let n : ℕ = counted q.1 in
    let later = Follow-le (low + n) qs end f.1 in
    let whole : n + (end - (low + n)) ≡ end - low = omega arith in
    (λ i. ids_from (f.0 i) n ++ Follow-ids (low + n) qs end f.1 i) ∙ (ids_from-append n (end - (low + n)) low ∙ ap (ids_from low) whole)

-- the window holds all ids from the first on its way up to its next
record Flows (l : Line) : Type 0 where
  low : ℕ
  count : ℕ
  follow : Follow low l.requests l.purse.next
  held : l.window.held ≡ ids_from low count
  next : l.window.next ≡ low + count
  all : l.purse.next + (l.purse.held + sum l.grants) ≡ low + count
  few : count ≤ 512
  fits : low + count ≤ 2 ^ 64 - 1

-- a run holds the charge at its front, and what is left is a run
run_held : (low count n : ℕ) → n ≤ count → outside (ids_from low count) low n ≡ None
run_held low count n le =
    let parts : count ≡ n + (count - n) = omega arith in
    let whole : n ≡ n + 0 = omega arith in
    ap (λ c. outside (ids_from low c) low n) parts
    ∙ (ap (λ xs. outside xs low n) (sym (ids_from-append n (count - n) low))
    ∙ (ap (outside (ids_from low n ++ ids_from (low + n) (count - n)) low) whole ∙ outside-run n 0 low (ids_from (low + n) (count - n))))

run_left : (low count n : ℕ) → n ≤ count → without low n (ids_from low count) ≡ ids_from (low + n) (count - n)
run_left low count n le =
    let parts : count ≡ n + (count - n) = omega arith in
    let rest : List ℕ = ids_from (low + n) (count - n) in
    let p : ℕ → Bool = λ id. not (is_among low n id) in
    let gone : without low n (ids_from low n) ≡ [] = without-run low n low n (omega arith) (omega arith) in
    let stay : without low n rest ≡ rest = without-above low n (low + n) rest (IsAscending-ids_from (low + n) (low + n)
    (count - n) (omega arith)) (omega arith) in
    ap (λ c. without low n (ids_from low c)) parts
    ∙ (ap (without low n) (sym (ids_from-append n (count - n) low))
    ∙ (filter-append p (ids_from low n) rest ∙ (λ i. gone i ++ stay i)))

sent_flows : (b : Bool) (charge : ℕ) (l : Line) → leb (counted charge) l.purse.held ≡ b → Flows l → Flows (sent_if b charge l)
sent_flows false charge l e f = f
sent_flows true charge l e f =
    let enough : counted charge ≤ l.purse.held = leb-true (counted charge) l.purse.held e in
    let sum_is = f.all in record {
      low = f.low;
      count = f.count;
      follow = Follow-push f.low l.requests l.purse.next charge f.follow;
      held = f.held;
      next = f.next;
      all = omega arith;
      few = f.few;
      fits = f.fits;
    }

-- the first request finds its ids
front_held : (l : Line) (q : ℕ × ℕ) (qs : List (ℕ × ℕ)) (f : Flows l) → Follow f.low (q ∷ qs) l.purse.next
    → outside l.window.held q.0 (counted q.1) ≡ None
front_held l q qs f follow =
    let n : ℕ = counted q.1 in
    let later = Follow-le (f.low + n) qs l.purse.next follow.1 in
    let sum_is = f.all in
    (λ i. outside (f.held i) (follow.0 i) n) ∙ run_held f.low f.count n (omega arith)

served_flows : (asked : ℕ) (l : Line) (q : ℕ × ℕ) (qs : List (ℕ × ℕ)) (f : Flows l) → Follow f.low (q ∷ qs) l.purse.next
    → Flows (served_if None q qs asked l)
served_flows asked l q qs f follow =
    let n : ℕ = counted q.1 in
    let low : ℕ = f.low in
    let w : HeldIds = after_take q.0 q.1 l.window in
    let g : ℕ = granted asked w in
    let later = Follow-le (low + n) qs l.purse.next follow.1 in
    let sum_is = f.all in
    let next_is = f.next in
    let fits = f.fits in
    let few = f.few in
    let left : w.held ≡ ids_from (low + n) (f.count - n) = (λ i. without (follow.0 i) n (f.held i))
    ∙ run_left low f.count n (omega arith) in
    let counts : length w.held ≡ f.count - n = ap length left ∙ length-ids_from (low + n) (f.count - n) in
    let from : l.window.next ≡ low + n + (f.count - n) = omega arith in
    let more : sum (l.grants ++ g ∷ []) ≡ sum l.grants + g = sum_by-append (λ x. x) l.grants (g ∷ [])
    ∙ (let one : sum (g ∷ []) ≡ g = omega arith in ap (λ x. sum l.grants + x) one) in record {
      low = low + n;
      count = f.count - n + g;
      follow = follow.1;
      held = (λ i. left i ++ ids_from (from i) g) ∙ ids_from-append (f.count - n) g (low + n);
      next = omega arith;
      all = omega arith;
      few = omega arith;
      fits = omega arith;
    }

flows_served : (qs : List (ℕ × ℕ)) (asked : ℕ) (l : Line) → l.requests ≡ qs → Flows l → Flows (served qs asked l)
flows_served [] asked l e f = f
flows_served (q ∷ qs) asked l e f =
    let follow : Follow f.low (q ∷ qs) l.purse.next = subst (λ rs. Follow f.low rs l.purse.next) e f.follow in
    subst (λ o. Flows (served_if o q qs asked l)) (sym (front_held l q qs f follow)) (served_flows asked l q qs f follow)

flows_heard : (gs : List ℕ) (l : Line) → l.grants ≡ gs → Flows l → Flows (heard gs l)
flows_heard [] l e f = f
flows_heard (g ∷ gs) l e f =
    let sum_is = f.all in
    let few = f.few in
    let fits = f.fits in
    let later = Follow-le f.low l.requests l.purse.next f.follow in
    let parts : sum l.grants ≡ g + sum gs = ap sum e ∙ sum_by-cons (λ x. x) g gs in record {
      low = f.low;
      count = f.count;
      follow = f.follow;
      held = f.held;
      next = f.next;
      all = omega arith;
      few = f.few;
      fits = f.fits;
    }

flows_on : (s : Step) (l : Line) → Flows l → Flows (after_step s l)
flows_on (sends charge) l f = sent_flows (leb (counted charge) l.purse.held) charge l refl f
flows_on (serves asked) l f = flows_served l.requests asked l refl f
flows_on hears l f = flows_heard l.grants l refl f

always_flows : (ss : List Step) (l : Line) → Flows l → Flows (after_steps ss l)
always_flows [] l f = f
always_flows (s ∷ ss) l f = always_flows ss (after_step s l) (flows_on s l f)

first_flows : Flows first_line
first_flows = record {
  low = 0;
  count = 1;
  follow = refl;
  held = refl;
  next = refl;
  all = refl;
  few = omega arith;
  fits = omega arith;
}

balanced : (l : Line) → Flows l → IsBalanced l
balanced l f =
    let later = Follow-le f.low l.requests l.purse.next f.follow in
    let sum_is = f.all in
    let next_is = f.next in
    let k : ℕ = l.purse.next - f.low in
    let rest : ℕ = l.purse.held + sum l.grants in
    let end : f.low + k ≡ l.purse.next = omega arith in
    let whole : k + rest ≡ f.count = omega arith in (
      f.held ∙ sym ((λ i. Follow-ids f.low l.requests l.purse.next f.follow i ++ ids_from (sym end i) rest)
          ∙ (ids_from-append k rest f.low ∙ ap (ids_from f.low) whole)),
      omega arith,
    )

front_is_held : (qs : List (ℕ × ℕ)) (l : Line) → l.requests ≡ qs → Flows l → FrontIsHeld qs l.window
front_is_held [] l e f = tt
front_is_held (q ∷ qs) l e f = front_held l q qs f (subst (λ rs. Follow f.low rs l.purse.next) e f.follow)

pub nothing_is_refused : NothingIsRefused
nothing_is_refused steps =
    let l : Line = after_steps steps first_line in
    let f : Flows l = always_flows steps first_line first_flows in (balanced l f, front_is_held l.requests l refl f)
