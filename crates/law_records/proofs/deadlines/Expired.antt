-- An open that expires: its records, and the state behind it.
use Rattle.std.proofs.Common.{◌≡◌, ℕ, ◌==◌, Bool, true, false, if◌then◌else◌, ◌∷◌, List, Option, Some, None, refl, ap, ◌∙◌}
use Rattle.spec_exchange.specs.Commands.{deletes_on_close}
use Rattle.spec_exchange.specs.Files.{exists, is_directory, is_full_directory, path_of, remove_file, set_delete_pending}
use Rattle.spec_exchange.specs.Opens.{drop_open, file_has_open, goes, pending_behind, without_gone, is_kept_back, left_file}
use Rattle.spec_exchange.specs.State.{ExpireRecord, Open, Origin, Record, Server}
use Rattle.spec_exchange.specs.Step.{add_expired_guid, expire, expire_records, first_deadline, with_deadlines}
use Rattle.law_records.proofs.deadlines.Checks.{with}
use Rattle.law_records.proofs.deadlines.Opens.{left_file_records_same}

pub front : (s : Server) (f : ℕ → Option ℕ) (g : Origin) (o : ℕ) → expire_records (with s f) g o ≡ expire_records s g o
unfolding expire_records
front s f g o = ap (λ (rs : List Record). ExpireRecord g o ∷ rs) (left_file_records_same s f g o)

-- ---- it leaves as it stands, and each other open gets its deadline all the same

pend : (s : Server) (now o : ℕ) → pending_behind (with_deadlines s now) o ≡ with_deadlines (pending_behind s o) now
pend s now o = by (deletes_on_close (s.opened o).options)
  where
    by : (b : Bool) → (if b then set_delete_pending (with_deadlines s now) (s.opened o).file true else with_deadlines s now)
        ≡ with_deadlines (if b then set_delete_pending s (s.opened o).file true else s) now
    by true = refl
    by false = refl

first : (u : Server) (now o p : ℕ) → (drop_open (with_deadlines u now) o).deadline p ≡ (with_deadlines (drop_open u o) now).deadline p
first u now o p = by (p == o) (u.standing p) (u.session_of_open p) (u.opened p) (u.deadline p)
  where
    by : (b stands : Bool) (at : Option ℕ) (row : Open) (d : Option ℕ) → (if b then None else first_deadline now stands at row d)
        ≡ first_deadline now (if b then false else stands) (if b then None else at) row (if b then None else d)
    by true stands at row d = refl
    by false stands at row d = refl

dropped : (u : Server) (now o : ℕ) → drop_open (with_deadlines u now) o ≡ with_deadlines (drop_open u o) now
dropped u now o = λ t. record (drop_open u o) { deadline = λ p. first u now o p t }

gone : (u : Server) (now x : ℕ) → without_gone (with_deadlines u now) x ≡ with_deadlines (without_gone u x) now
unfolding goes exists file_has_open is_full_directory is_directory path_of
gone u now x = by (goes u x)
  where
    by : (b : Bool) → (if b then remove_file (with_deadlines u now) x else with_deadlines u now)
        ≡ with_deadlines (if b then remove_file u x else u) now
    by true = refl
    by false = refl

settled : (u : Server) (now x : ℕ) → left_file (with_deadlines u now) x ≡ with_deadlines (left_file u x) now
unfolding is_kept_back exists file_has_open is_full_directory is_directory path_of
settled u now x = by (is_kept_back u x)
  where
    by : (b : Bool) → (if b then set_delete_pending (with_deadlines u now) x false else without_gone (with_deadlines u now) x)
        ≡ with_deadlines (if b then set_delete_pending u x false else without_gone u x) now
    by true = refl
    by false = gone u now x

kept : (u : Server) (now client : ℕ) (g : Option ℕ) → add_expired_guid (with_deadlines u now) client g
    ≡ with_deadlines (add_expired_guid u client g) now
kept u now client None = refl
kept u now client (Some g) = refl

pub expired : (s : Server) (now o : ℕ) → expire (with_deadlines s now) o ≡ with_deadlines (expire s o) now
expired s now o =
    let x = (s.opened o).file in let c = (s.opened o).client_guid in let g = (s.opened o).create_guid in
    ap (λ (u : Server). add_expired_guid (left_file (drop_open u o) x) c g) (pend s now o)
    ∙ (ap (λ (u : Server). add_expired_guid (left_file u x) c g) (dropped (pending_behind s o) now o)
    ∙ (ap (λ (u : Server). add_expired_guid u c g) (settled (drop_open (pending_behind s o) o) now x)
    ∙ kept (left_file (drop_open (pending_behind s o) o) x) now c g))
