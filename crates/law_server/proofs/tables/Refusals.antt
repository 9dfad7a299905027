-- What the names, the kinds and the attributes of a CREATE can be refused with: a property of each of these statuses is one of
-- the answer.
use Rattle.std.proofs.Common.{◌≡◌, ℕ, ◌==◌, Bool, not, ◌&&◌, ◌||◌, if◌then◌else◌, Option, Some, None, is_some, subst, refl}
use Rattle.spec_exchange.specs.Status.{invalid_parameter, access_denied, object_path_not_found, delete_pending}
use Rattle.spec_exchange.specs.Status.{object_name_not_found, object_name_collision, not_a_directory}
use Rattle.spec_exchange.specs.Status.{file_is_a_directory, cannot_delete}
use Rattle.spec_exchange.specs.Commands.{CreateRequest, asks_directory, asks_file, deletes_on_close, has_bit}
use Rattle.spec_exchange.specs.State.{Server}
use Rattle.spec_exchange.specs.Files.{root, has_parent, has_pending_parent, is_directory, is_read_only}
use Rattle.spec_exchange.specs.Opens.{granted, writes}
use Rattle.spec_exchange.specs.CheckCreate.{empties, makes_missing, found_names, missing_names, drops_bit, found_attributes}
use Rattle.spec_exchange.specs.CheckCreate.{missing_attributes, first_refusal, names_of_found, names}
use Rattle.law_server.proofs.tables.Logic.{either}

abbrev pub AllIn : (ℕ → Type 0) → Option ℕ → Type 0
AllIn P None = Unit {0}
AllIn P (Some status) = P status

pub record NameRefusals (P : ℕ → Type 0) : Type 0 where
  pub pending : P delete_pending
  pub collision : P object_name_collision
  pub no_directory : P not_a_directory
  pub directory : P file_is_a_directory
  pub parameter : P invalid_parameter
  pub denied : P access_denied
  pub undeletable : P cannot_delete
  pub no_name : P object_name_not_found
  pub no_path : P object_path_not_found

all_found : (P : ℕ → Type 0) → NameRefusals P → (s : Server) (r : CreateRequest) (f : ℕ) → AllIn P (found_names s r f)
unfolding found_names
all_found P n s r f =
    either (AllIn P) (s.delete_pending f) _ _ (λ _. n.pending) (λ _. either (AllIn P) (r.disposition == 2) _ _ (λ _. n.collision)
    (λ _. either (AllIn P) (asks_directory r && not (is_directory s f)) _ _ (λ _. n.no_directory)
    (λ _. either (AllIn P) (asks_file r && is_directory s f) _ _ (λ _. n.directory)
    (λ _. either (AllIn P) (empties r.disposition && is_directory s f) _ _ (λ _. n.parameter)
    (λ _. either (AllIn P) (deletes_on_close r.options && (f == root)) _ _ (λ _. n.denied) (λ _. tt))))))

all_kept : (P : ℕ → Type 0) → NameRefusals P → (s : Server) (r : CreateRequest) (f : ℕ) → AllIn P (found_attributes s r f)
unfolding found_attributes
all_kept P n s r f =
    either (AllIn P) (empties r.disposition && (drops_bit s r f 0x2 || drops_bit s r f 0x4)) _ _ (λ _. n.denied)
    (λ _. either (AllIn P) (is_read_only s f && (empties r.disposition || writes (granted s f r.access))) _ _ (λ _. n.denied)
    (λ _. either (AllIn P) (is_read_only s f && deletes_on_close r.options) _ _ (λ _. n.undeletable) (λ _. tt)))

all_missing : (P : ℕ → Type 0) → NameRefusals P → (r : CreateRequest) → AllIn P (missing_names r)
unfolding missing_names
all_missing P n r = either (AllIn P) (makes_missing r.disposition) _ _ (λ _. tt) (λ _. n.no_name)

all_made : (P : ℕ → Type 0) → NameRefusals P → (r : CreateRequest) → AllIn P (missing_attributes r)
unfolding missing_attributes
all_made P n r =
    either (AllIn P) (deletes_on_close r.options && (not (asks_directory r) && has_bit r.attributes 0x1)) _ _ (λ _. n.undeletable)
    (λ _. tt)

all_or : (P : ℕ → Type 0) (a b : Option ℕ) → AllIn P a → AllIn P b → AllIn P (first_refusal a b)
all_or P None b g h = h
all_or P (Some status) b g h = g

all_by : (P : ℕ → Type 0) → NameRefusals P → (s : Server) (r : CreateRequest) (found : Option ℕ) → AllIn P (names_of_found s r found)
unfolding names_of_found
all_by P n s r None = all_or P (missing_names r) (missing_attributes r) (all_missing P n r) (all_made P n r)
all_by P n s r (Some f) = all_or P (found_names s r f) (found_attributes s r f) (all_found P n s r f) (all_kept P n s r f)

pub all_names : (P : ℕ → Type 0) → NameRefusals P → (s : Server) (r : CreateRequest) (found : Option ℕ) → AllIn P (names s r found)
unfolding names
all_names P n s r found =
    either (AllIn P) (not (is_some found || has_parent s r.path)) _ _ (λ _. n.no_path)
    (λ _. either (AllIn P) (has_pending_parent s r.path) _ _ (λ _. n.pending) (λ _. all_by P n s r found))

pub names_say : (P : ℕ → Type 0) → NameRefusals P → (s : Server) (r : CreateRequest) (found : Option ℕ) (status : ℕ)
    → names s r found ≡ Some status → P status
names_say P n s r found status e = subst (AllIn P) e (all_names P n s r found)

-- the first refusal is none where both are none
pub first_none : (a b : Option ℕ) → first_refusal a b ≡ None → a ≡ None
first_none None b e = refl
first_none (Some x) b e = absurd (cc)
