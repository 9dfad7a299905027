-- How commands end, at equal words.
use Rattle.std.proofs.Common.{◌≡◌, ℕ, List, Option, Some, None, subst}
use Rattle.journal.specs.declared.disk_journal.journal.JournalError.{JournalError}
use Rattle.serve_command.specs.declared.server_settings.words.Said.{Said}
use Rattle.base_outside.specs.declared.streams.address.Address.{Address}
use Rattle.serve_turns.specs.link_serving.Passage.{Passage}
use Rattle.serve_command.specs.declared.ending.Ending.{Ending}
use Rattle.client_ends.specs.declared.ends.config.ClientConfig.{ClientConfig}
use Rattle.client_steps.specs.declared.whole_client.client.Client.{Client}
use Rattle.client_values.specs.declared.operations.values.OpKind.{OpKind}
use Rattle.smb311.specs.command.Top.{Runs, Serves}

module _ {D N : Type 0} (told : Type 0) (seen : D → List ℕ) (may_leave : D → List ℕ → Type 0) (faults : D → ℕ)
    (listens_at : N → Option Address) (links : N → ℕ) (net_faults : N → ℕ) (link_told : Type 0) (sent : N → List (List ℕ))
    (over : (net net' : N) → ℕ → Passage → Type 0) (refuses : (disk left : D) → JournalError → Type 0) (disk : D) (net : N) (disk' : Option D) (net' : N)
    (left left' : Option (List ℕ)) (source source' : ℕ) (written written' : Option (List ℕ)) (sink sink' : ℕ) where
  pub as_said : (o p : Option Said) (ending : Ending) → o ≡ p
      → Serves told seen may_leave faults listens_at links net_faults link_told sent over refuses disk net disk' net' left left' source source'
      written
      written' sink sink' o ending
      → Serves told seen may_leave faults listens_at links net_faults link_told sent over refuses disk net disk' net' left left' source source'
      written
      written' sink sink' p ending
  as_said o p ending same h =
      subst
      (λ (q : Option Said).
      Serves told seen may_leave faults listens_at links net_faults link_told sent over refuses disk net disk' net' left left' source source'
      written written' sink sink' q ending)
      same
      h

module _ {N : Type 0} (over : ℕ → List OpKind → ClientConfig → List ℕ → Client → Type 0) (seed guid : List ℕ) (net net' : N)
    (left left' : Option (List ℕ)) (source source' : ℕ) (written written' : Option (List ℕ)) (sink sink' : ℕ) where
  pub as_run : (o p : Option Address) (status : ℕ) → o ≡ p
      → Runs over seed guid net net' left left' source source' written written' sink sink' o status
      → Runs over seed guid net net' left left' source source' written written' sink sink' p status
  as_run o p status same h =
      subst (λ (q : Option Address). Runs over seed guid net net' left left' source source' written written' sink sink' q status) same h

pub never_none : {A : Type 0} (x : A) (o : Option A) → Some x ≡ o → o ≡ None → ⊥
never_none x o is none = absurd (cc)
