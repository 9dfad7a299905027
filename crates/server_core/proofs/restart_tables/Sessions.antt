-- Tables without sessions and connections.
use Rattle.std.proofs.Common.{◌≡◌, ℕ, Bool, false, List, [], refl, sym, subst, ◌∙◌, Option, Some, None, nat_eq}
use Rattle.std.specs.HashMap.{get}
use Rattle.spec_exchange.specs.State.{Server, Tree, Making}
use Rattle.spec_exchange.specs.Fold.{nothing_yet}
use Rattle.server_checks.specs.session_table.Changes.{sessions_epoch}
use Rattle.server_checks.specs.session_table.Shown.{SessionRowShown, LinkShown, ShowsSessions}
use Rattle.server_checks.specs.declared.session_table.row.Link.{Link}
use Rattle.server_checks.specs.declared.session_table.row.SessionRow.{SessionRow}
use Rattle.server_checks.specs.declared.session_table.table.Sessions.{Sessions}
use Rattle.server_core.specs.restart_tables.Restart.{IsServerBegun}

-- no row shows a session that isn't there
no_row : (r : Option SessionRow) (user : List ℕ) (client cipher signing drawn : ℕ) (trees : List Tree) (next : ℕ)
    → SessionRowShown r false user client cipher signing drawn trees next → r ≡ None
no_row None user client cipher signing drawn trees next h = refl
no_row (Some r) user client cipher signing drawn trees next h = absurd (let e = h.0 in cc)

row_none : (r : Option SessionRow) (present : Bool) (user : List ℕ) (client cipher signing drawn : ℕ) (trees : List Tree) (next : ℕ)
    → r ≡ None → present ≡ false → trees ≡ [] → SessionRowShown r present user client cipher signing drawn trees next
row_none r present user client cipher signing drawn trees next none absent bare =
    subst (λ (q : Option SessionRow). SessionRowShown q present user client cipher signing drawn trees next) (sym none) (absent, bare)

-- nor a link what isn't on a connection
link_so : (l : Option Link) (on : Option ℕ) (making : Option Making) → LinkShown l None None → on ≡ None → making ≡ None
    → LinkShown l on making
link_so None on making h off unmade = (off, unmade)
link_so (Some l) on making h off unmade = (off ∙ h.0, unmade ∙ h.1)

none_on : (k x : ℕ) (on : Option ℕ) → on ≡ None → on ≡ Some x → ⊥
none_on k x on off e = cc

pub shown_begun : (t : Sessions) (epoch : ℕ) (s : Server) → ShowsSessions t (sessions_epoch nothing_yet epoch) → s.epoch ≡ epoch
    → IsServerBegun s → ShowsSessions t s
shown_begun t epoch s h e is =
    let b = is.0 in
    record {
      epoch_is = e ∙ h.epoch_is;
      given_is = is.1 ∙ h.given_is;
      count_is = b.no_count ∙ h.count_is;
      rows_are = λ x. row_none (get nat_eq t.rows x) (s.present x) (s.user x) (s.client x) (s.cipher x) (s.signing x)
          (s.channel_numbers_drawn x) (s.trees x) (s.next_tree x)
          (no_row (get nat_eq t.rows x) (nothing_yet.user x) (nothing_yet.client x) (nothing_yet.cipher x) (nothing_yet.signing x)
          (nothing_yet.channel_numbers_drawn x) (nothing_yet.trees x) (nothing_yet.next_tree x) (h.rows_are x))
          (b.absent x) (b.no_trees x);
      connections_are = b.no_connections ∙ h.connections_are;
      links_are = λ k. link_so (get nat_eq t.links k) (s.session_on k) (s.making k) (h.links_are k) (b.off k) (b.unmade k);
      listed = λ k x on p. absurd (none_on k x (s.session_on k) (b.off k) on);
    }
