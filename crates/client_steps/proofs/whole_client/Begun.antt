-- A client without operations.
use Rattle.std.proofs.Common.{◌≡◌, ℕ, ◌<◌, List, [], length, refl, ap, sym, ◌∙◌, subst, arith}
use Rattle.spec_exchange.specs.Network.{Settings, start}
use Rattle.client_tables.specs.declared.opens.opening.Open.{Open}
use Rattle.client_tables.specs.declared.choice.finding.Attached.{Attached}
use Rattle.client_tables.specs.declared.whole_table.parts.Table.{Table}
use Rattle.client_tables.specs.whole_table.Shown.{TableFits, ShowsTable}
use Rattle.client_tables.specs.declared.attached_opens.opened.Opened.{Opened}
use Rattle.client_steps.specs.submitting.Whole.{ShowsWhole}
use Rattle.client_steps.specs.whole_client.Shown.{FitsAll}

none_in : {X : Type 0} (xs : List X) (i : ℕ) → xs ≡ [] → i < length xs → ⊥
none_in xs i e l = nothing i (subst (λ n. i < n) (ap (λ ys. length ys) e) l)
  where
    nothing : (i : ℕ) → i < 0 → ⊥
    nothing i l = omega arith

module _ (t : Table) (attached : List Attached) (opened : List Opened) (marks : List Open) (later : List ℕ) (e : t.rows.items ≡ [])
    (a : attached ≡ []) (o : opened ≡ []) (m : marks ≡ []) (l : later ≡ []) where
  pub none_fits : TableFits t → FitsAll t attached opened marks later
  none_fits w =
      record {
        whole = record {
          table = w;
          opens = record {
            opens = λ g p k. absurd (none_in t.rows.items g e k);
            paired = λ g h p k. absurd (none_in t.rows.items g e k);
            room = λ i own k. absurd (none_in attached i a k);
            bounded = λ i own k. absurd (none_in attached i a k);
            users = λ i own k. absurd (none_in attached i a k);
          };
          marked = record {
            opens = λ g p k. absurd (none_in t.rows.items g e k);
            below = λ g own p k. absurd (none_in t.rows.items g e k);
            lasts = λ g own p k. absurd (none_in t.rows.items g e k);
          };
          known = ap (λ xs. length xs) o ∙ sym (ap (λ xs. length xs) a);
          counted = ap (λ xs. length xs) m ∙ sym (ap (λ xs. length xs) a);
          homes = λ g p k. absurd (none_in t.rows.items g e k);
        };
        later = record {
          counted = ap (λ xs. length xs) l ∙ sym (ap (λ xs. length xs) e);
          within = λ g p k. absurd (none_in t.rows.items g e k);
          higher = λ g p k. absurd (none_in t.rows.items g e k);
          own = λ g p k. absurd (none_in t.rows.items g e k);
          next = λ g h p q k. absurd (none_in t.rows.items h e k);
        };
      }

  pub none_shown : (settings : Settings) → ShowsTable t (start settings).client → ShowsWhole t attached opened marks (start settings).client
  none_shown settings w =
      record {
        table = w;
        attached = record {
          session_is = λ g own p k. absurd (none_in t.rows.items g e k);
          slots_are = λ g own p k. absurd (none_in t.rows.items g e k);
          session_none = λ x k. refl;
          slots_none = λ x i k. (refl, refl, refl);
        };
        opened = record {
          file_is = λ g own p k. absurd (none_in t.rows.items g e k);
          closed_is = λ g own p k. absurd (none_in t.rows.items g e k);
          persists_is = λ g own p k. absurd (none_in t.rows.items g e k);
          file_none = λ x k. refl;
          closed_none = λ x k. refl;
          unsent = λ g q. refl;
        };
        marked = λ g own p k. absurd (none_in t.rows.items g e k);
      }
