-- An open that is attached to no session may leave the rows of sessions.
use Rattle.std.proofs.Common.{◌≡◌, ℕ, ◌==◌, Bool, true, false, Some, None, refl, sym, ap, subst, ◌∙◌, eqb-true, nat_eq}
use Rattle.std.specs.HashMap.{get}
use Rattle.spec_exchange.specs.State as model
use Rattle.store_opens.specs.open_index.Keep.{SessionsUnlist}
use Rattle.store_opens.specs.open_table.Shown.{ShowsOpens}
use Rattle.store_opens.specs.declared.open_table.table.Opens.{Opens}

pub shows_unlisted : (t u : Opens) (o : ℕ) (s : model.Server) → u ≡ record t { sessions = u.sessions }
    → SessionsUnlist (λ q. get nat_eq t.sessions q) (λ q. get nat_eq u.sessions q) o → s.session_of_open o ≡ None
    → ShowsOpens t s → ShowsOpens u s
shows_unlisted t u o s e m none h =
    subst (λ (v : Opens). ShowsOpens v s) (sym e) (record {
      epoch_is = h.epoch_is;
      given_is = h.given_is;
      count_is = h.count_is;
      rows_are = h.rows_are;
      trees_are = h.trees_are;
      guids_are = h.guids_are;
      files_are = h.files_are;
      sessions_are = λ x. m.shown x (s.closed x) (s.refused x) (s.guids x) (h.sessions_are x);
      listed = λ q x k. m.listed x q (other q x k) ∙ h.listed q x k;
      plain_listed = λ q x k f. m.plain x q (other q x k) ∙ h.plain_listed q x k f;
      named = λ q x g k f. m.named x g ∙ h.named q x g k f;
      expired_are = h.expired_are;
      expired_count_is = h.expired_count_is;
      indexed = h.indexed;
      undated = h.undated;
    })
  where
    by : (q x : ℕ) (b : Bool) → (q == o) ≡ b → s.session_of_open q ≡ Some x → (q == o) ≡ false
    by q x true e k = let f = ap s.session_of_open (eqb-true q o e) in absurd (cc)
    by q x false e k = e

    other : (q x : ℕ) → s.session_of_open q ≡ Some x → (q == o) ≡ false
    other q x k = by q x (q == o) refl k
