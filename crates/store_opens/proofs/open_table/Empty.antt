-- A table in which nothing is.
use Rattle.std.proofs.Common.{◌≡◌, ℕ, nat_eq, Bool, List, [], None, refl, sym, ap}
use Rattle.std.specs.Map.{lookup}
use Rattle.std.specs.List.{list_any}
use Rattle.std.specs.HashMap.{HashMap, get}
use Rattle.spec_exchange.specs.Fold.{nothing_yet}
use Rattle.store_opens.specs.declared.open_table.table.Opens.{Opens}
use Rattle.store_opens.specs.open_table.Shown.{pair_eq, ShowsOpens}

empty_get : {K X S : Type 0} (eq : K → K → Bool) (m : HashMap K X S) (k : K) → m.entries ≡ [] → get eq m k ≡ None
empty_get eq m k e = ap (λ (es : List _). lookup (eq k) es) e

pub shows_nothing : (t : Opens) → t.epoch ≡ 0 → t.given ≡ 0 → t.expired_count ≡ 0 → t.rows.entries ≡ []
    → t.guids.entries ≡ [] → t.files.entries ≡ [] → t.sessions.entries ≡ [] → t.expired.keys ≡ []
    → ShowsOpens t nothing_yet
shows_nothing t epoch given count rows guids files sessions expired =
    record {
      epoch_is = sym epoch;
      given_is = sym given;
      count_is = sym (rw rows refl);
      rows_are = λ o. rw (empty_get nat_eq t.rows o rows) refl;
      trees_are = λ o. rw (empty_get nat_eq t.rows o rows) tt;
      guids_are = λ c g. sym (empty_get pair_eq t.guids (c, g) guids);
      files_are = λ f. rw (empty_get nat_eq t.files f files) (refl, refl);
      sessions_are = λ x. rw (empty_get nat_eq t.sessions x sessions) (record {
        none_closed = λ g. refl;
        none_refused = λ g. refl;
        no_guids = refl;
      });
      listed = λ o x e. absurd (cc);
      plain_listed = λ o x e f. absurd (cc);
      named = λ o x g e f. absurd (cc);
      expired_are = λ c g. sym (ap (λ (ks : List (ℕ × ℕ)). list_any (pair_eq (c, g)) ks) expired);
      expired_count_is = sym count;
      indexed = λ w o d e. absurd (cc);
      undated = λ o st a b. absurd (cc);
    }
