-- The orders that `run` prints: of each create that keeps writers out the reads, writes and ends of its open, in the order in which the
-- client heard the responses that settled them. What the server did in between isn't known here.
use Rattle.std.specs.Prelude.{◌≡◌, ℕ, zero, suc, ◌+◌, ◌-◌, ◌==◌, Bool, false, if◌then◌else◌, List, [], ◌∷◌, ◌++◌, length, slice_get, Option}
use Rattle.std.specs.Prelude.{Some, None}
use Rattle.std.specs.List.{filter}
use Rattle.spec_exchange.specs.Order.{is_at}
use Rattle.client_values.specs.operations.Meaning.{op_of}
use Rattle.client_values.specs.outcomes.Meaning.{outcome_of}
use Rattle.client_values.specs.declared.operations.values.OpKind.{OpKind}
use Rattle.client_values.specs.declared.operations.values.OpKind.TheVariants as kinds
use Rattle.client_values.specs.declared.outcomes.outcome.Outcome.{Outcome as Settled}
use Rattle.script_words.specs.outcome_lines.Text.{has_order}
use Rattle.script_words.specs.declared.outcome_lines.orders.CreateOrder.{CreateOrder}

-- what has a number, of what is counted from 1 on
abbrev pub at_number : {A : Type 0} → List A → ℕ → Option A
at_number xs number = if number == 0 then None else slice_get xs (number - 1)

-- the create whose open an operation reads, writes or ends
abbrev pub listed_on : OpKind → Option ℕ
listed_on (kinds.Write create at bytes) = Some create
listed_on (kinds.Read create at size) = Some create
listed_on (kinds.SetEnd create size) = Some create
listed_on _ = None

abbrev pub listed_in : Option OpKind → Option ℕ
listed_in None = None
listed_in (Some kind) = listed_on kind

-- whether it is this create's open
abbrev pub is_listed_on : List OpKind → ℕ → ℕ → Bool
is_listed_on ops create number = is_at create (listed_in (at_number ops number))

-- those of an order that are on the open of a create
abbrev pub numbers_on : List OpKind → List ℕ → ℕ → List ℕ
numbers_on ops order create = filter (is_listed_on ops create) order

-- whether an operation's order is printed
abbrev pub has_order_with : OpKind → Option Settled → Bool
has_order_with kind None = false
has_order_with kind (Some outcome) = has_order (op_of kind) (outcome_of outcome)

abbrev pub has_order_in : Option OpKind → Option Settled → Bool
has_order_in None outcome = false
has_order_in (Some kind) outcome = has_order_with kind outcome

abbrev pub receipt_order : List OpKind → List Settled → List ℕ → ℕ → List CreateOrder
receipt_order ops outcomes order number =
    if has_order_in (at_number ops number) (at_number outcomes number) then record { create = number; numbers = numbers_on ops order number } ∷ []
    else []

-- those of the first so many operations, upwards by their numbers
unfoldable pub receipt_orders : List OpKind → List Settled → List ℕ → ℕ → List CreateOrder
receipt_orders ops outcomes order zero = []
receipt_orders ops outcomes order (suc n) = receipt_orders ops outcomes order n ++ receipt_order ops outcomes order (n + 1)

-- ---- of an order so far: by create, up to a number, those on its open

pub record AreNumbersOf (ops : List OpKind) (order : List ℕ) (count : ℕ) (xs : List (List ℕ)) : Type 0 where
  pub counted : length xs ≡ count
  pub each : (o : ℕ) (x : List ℕ) → slice_get xs o ≡ Some x → x ≡ numbers_on ops order o

-- the list of one create has a number more; the others stay
pub record ListsMore (create number : ℕ) (xs ys : List (List ℕ)) : Type 0 where
  pub counted : length ys ≡ length xs
  pub here : (y : List ℕ) → slice_get ys create ≡ Some y → (x : List ℕ) × (slice_get xs create ≡ Some x) × (y ≡ x ++ number ∷ [])
  pub there : (o : ℕ) → (o ≡ create → ⊥) → slice_get ys o ≡ slice_get xs o

-- the lists of an order are those of one with a number more
abbrev pub ListsNext : List OpKind → ℕ → List (List ℕ) → List (List ℕ) → Type 0
ListsNext ops number xs ys = (order : List ℕ) (count : ℕ) → AreNumbersOf ops order count xs → AreNumbersOf ops (order ++ number ∷ []) count ys

-- ---- the order of the operation at a place, where it is printed

abbrev pub AddsReceipt : Bool → List (List ℕ) → ℕ → List CreateOrder → List CreateOrder → Type 0
AddsReceipt ordered lists place old new = (numbers : List ℕ) → slice_get lists (place + 1) ≡ Some numbers
    → new ≡ old ++ (if ordered then record { create = place + 1; numbers = numbers } ∷ [] else [])
