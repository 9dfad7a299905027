-- What is printed of a world of the exchange.
use Rattle.std.specs.Prelude.{◌≡◌, ℕ, zero, suc, ◌+◌, if◌then◌else◌, List, [], ◌∷◌, ◌++◌}
use Rattle.spec_exchange.specs.Network.{World}
use Rattle.spec_exchange.specs.Operations.{Outcome}
use Rattle.spec_exchange.specs.Order.{order_of}
use Rattle.spec_exchange.specs.Runs.{account}
use Rattle.store_files.specs.file_tree.Stored.{AreFiles}
use Rattle.store_files.specs.declared.file_tree.files.StoredFile.{StoredFile}
use Rattle.script_words.specs.outcome_lines.Text.{has_order, run_text}
use Rattle.script_words.specs.declared.outcome_lines.orders.CreateOrder.{CreateOrder}

-- how so many operations settled, from a number on
unfoldable pub outcomes_from : (ℕ → Outcome) → ℕ → ℕ → List Outcome
outcomes_from outcome g zero = []
outcomes_from outcome g (suc n) = outcome g ∷ outcomes_from outcome (g + 1) n

-- the order of one operation: of a create that settled Ok and keeps writers out, the reads, writes and ends of its open
abbrev pub order_at : World → ℕ → List CreateOrder
order_at w g =
    if has_order (w.client.op g) (w.client.outcome g) then record { create = g; numbers = order_of (account w) g } ∷ [] else []

-- those of the first so many operations
unfoldable pub orders_to : World → ℕ → List CreateOrder
orders_to w zero = []
orders_to w (suc n) = orders_to w n ++ order_at w (n + 1)

-- all of it: the files are the server's, each once, in byte order of their paths
pub record IsText (w : World) (text : List ℕ) : Type 0 where
  pub files : List StoredFile
  pub are_files : AreFiles files w.server
  pub is : text ≡ run_text w.client.refusals (outcomes_from w.client.outcome 1 w.client.taken) (orders_to w w.client.taken) files
