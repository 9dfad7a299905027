-- Two states that differ in nothing that records ask for or change: in what the columns of files have at the numbers of files that are
-- gone, in slots that no open has, and in what is stored beside the journal.
use Rattle.std.specs.Prelude.{◌≡◌, ℕ, ◌<◌, ◌≤◌, Bool, true, List}
use Rattle.spec_exchange.specs.State.{Server}
use Rattle.spec_exchange.specs.Files.{exists, exists_in}

-- the columns of files agree at this number
pub record SameFile (d_directory e_directory d_pending e_pending : ℕ → Bool) (d_content e_content : ℕ → List ℕ) (f : ℕ) : Type 0 where
  pub directory : e_directory f ≡ d_directory f
  pub delete_pending : e_pending f ≡ d_pending f
  pub content : e_content f ≡ d_content f

pub record RecordAlike (d e : Server) : Type 0 where
  pub is : e ≡ record d {
    directory = e.directory;
    delete_pending = e.delete_pending;
    basic = e.basic;
    content = e.content;
    stored = e.stored;
    lock_sequences = e.lock_sequences;
  }
  -- of the root the times alone, as records ask for nothing else of it
  pub basic : (f : ℕ) → exists d f ≡ true → e.basic f ≡ d.basic f
  pub at : (f : ℕ) → exists_in d.entries f ≡ true
      → SameFile d.directory e.directory d.delete_pending e.delete_pending d.content e.content f
  pub slots : (o i : ℕ) → 0 < i → i ≤ 64 → e.lock_sequences o i ≡ d.lock_sequences o i
