-- What refuses a request, by the open's row; and the table behind a refusal that is kept.
use Rattle.std.proofs.Common.{◌≡◌, ℕ, nat_eq, Bool, true, false, not, ◌&&◌, if◌then◌else◌, List, Option}
use Rattle.std.proofs.Common.{Some, None, refl, sym, subst}
use Rattle.std.specs.HashMap.{get}
use Rattle.spec_exchange.specs.Table.{put2}
use Rattle.spec_exchange.specs.State as model
use Rattle.spec_exchange.specs.Status.{object_name_not_found}
use Rattle.spec_exchange.specs.CheckCreate.{has_guid}
use Rattle.spec_exchange.specs.Effects.{keep_refusal}
use Rattle.store_opens.specs.declared.open_index.keep.SessionOpens.{SessionOpens}
use Rattle.store_opens.specs.open_index.Keep.{RefusesGuid, SessionsCount, one_more}
use Rattle.store_opens.specs.declared.open_table.row.Row.{Row}
use Rattle.store_opens.specs.declared.open_table.table.Opens.{Opens}
use Rattle.store_opens.specs.open_table.Rows.{OpenRowFound}
use Rattle.store_opens.specs.open_table.Changes.{attach_refusal, row_refusal}
use Rattle.store_opens.specs.open_table.Shown.{ShowsOpens}

pub refused_absent : (s : model.Server) (o guid session : ℕ) (user : List ℕ) → OpenRowFound None s o
    → Some object_name_not_found ≡ attach_refusal s o guid session user
refused_absent s o guid session user e = rw e refl

pub refused_row : (s : model.Server) (o guid session : ℕ) (user : List ℕ) (r : Row) → OpenRowFound (Some r) s o
    → row_refusal r guid session user ≡ attach_refusal s o guid session user
refused_row s o guid session user r e = rw (e.0, e.1.opened_is, e.1.session_is) refl

pub shows_refused : (t u : Opens) (m : ℕ → Option SessionOpens) (s : model.Server) (x g status : ℕ) → u ≡ record t { sessions = u.sessions }
    → RefusesGuid (λ q. get nat_eq t.sessions q) m x g status → SessionsCount m (λ q. get nat_eq u.sessions q)
    (one_more x) → s.closed x g ≡ false → ShowsOpens t s → ShowsOpens u (keep_refusal s x g status)
shows_refused t u m s x g status e r c f h =
    subst (λ (v : Opens). ShowsOpens v (keep_refusal s x g status)) (sym e) (record {
      epoch_is = h.epoch_is;
      given_is = h.given_is;
      count_is = h.count_is;
      rows_are = h.rows_are;
      trees_are = h.trees_are;
      guids_are = h.guids_are;
      files_are = h.files_are;
      sessions_are = c.shown s.closed (put2 s.refused x g (Some status)) s.guids (r.shown s.closed s.refused s.guids f h.sessions_are);
      listed = λ o y k. c.listed y o (r.listed y o (h.listed o y k));
      plain_listed = λ o y k l. c.plain y o (r.plain y o (h.plain_listed o y k l));
      named = λ o y n k l. c.named y n (r.named y n (h.named o y n k l));
      expired_are = h.expired_are;
      expired_count_is = h.expired_count_is;
      indexed = h.indexed;
      undated = h.undated;
    })

refused_by : (a b : Bool) (n : ℕ) (rest : Option ℕ) → (if not (a && b) then Some n else rest) ≡ None → a ≡ true
refused_by true b n rest e = refl
refused_by false b n rest e = absurd (cc)

-- what is attached stands
pub attach_stands : (s : model.Server) (o guid session : ℕ) (user : List ℕ) → attach_refusal s o guid session user
    ≡ None → s.standing o ≡ true
attach_stands s o guid session user e = refused_by (s.standing o) (has_guid guid (s.opened o).create_guid) _ _ e
