-- What a server shows behind the space that its journal took ahead, and the look at its journal behind that.
use Rattle.std.proofs.Common.{◌≡◌, inl, inr, ℕ, Bool, true, false, List, Some, None, Result, Ok, Err, ap, ◌∙◌}
use Rattle.std.proofs.Common.{refl, subst, sym, ◌⊎◌}
use Rattle.spec_crypto.specs.tokens.Tokens.{Users}
use Rattle.spec_exchange.specs.State as model
use Rattle.spec_world.specs.Ends.{Logons}
use Rattle.server_checks.specs.declared.setups.error.EventError.{EventError}
use Rattle.server_checks.specs.declared.setups.error.EventError.TheVariants as errors
use Rattle.server_checks.specs.declared.tables.Config.{Config}
use Rattle.server_core.specs.Shown.{config_of, state_of}
use Rattle.server_core.specs.space_ahead.Space.{TakesSpace}
use Rattle.law_snapshots.specs.snapshots.Pieces.{SnapshotPiece}
use Rattle.conn_core.specs.served.Serving.{StopsAtFault}
use Rattle.serve_turns.specs.event_book.Renewing.{RenewedTo}
use Rattle.serve_command.specs.Renewing.{Fills, FillsWhere, Readies, is_short, used_by}
use Rattle.serve_command.specs.Steps.{server_faults, server_shows, server_stopped}
use Rattle.serve_command.specs.declared.lasting_book.book.LastingBook.{LastingBook}
use Rattle.serve_command.proofs.Renewals.{calm_of, faults_of, never_both, renewed_of, same_count}

module _ {D : Type 0} (told : Type 0) (seen : D → List ℕ) (may_leave : D → List ℕ → Type 0) (faults : D → ℕ) where
  -- it was filled or not
  pub filled_where : (short : Bool) (old new : LastingBook D) → short ≡ is_short (used_by old) old.ahead
      → FillsWhere told seen may_leave faults short old new → Fills told seen may_leave faults old new
  filled_where short old new is w = subst (λ (b : Bool). FillsWhere told seen may_leave faults b old new) is w

  -- what a server goes on with behind it, or where it stopped
  abbrev GoesOrStops : (old new : LastingBook D) → Users → model.Server → Logons → List model.Record → Type 0
  GoesOrStops old new users s L records =
      ((server_stopped new ≡ None) × server_shows told seen may_leave new users s L records
      × (server_faults faults new ≡ server_faults faults old))
      ⊎ ((count : ℕ) × (server_stopped new ≡ Some count) × StopsAtFault (server_faults faults old) (server_faults faults new) count)

  taken : (old new : LastingBook D) (users : Users) (s : model.Server) (L : Logons) (records : List model.Record)
      (base : List SnapshotPiece) (result : Result Bool EventError) → (config_of old.disk_book.book.server).users ≡ users
      → config_of new.disk_book.book.server ≡ config_of old.disk_book.book.server
      → TakesSpace told seen may_leave faults base (state_of old.disk_book.book.server) (state_of new.disk_book.book.server) s L records result
      → (server_stopped new ≡ None → server_faults faults new ≡ server_faults faults old) → server_stopped old ≡ None
      → GoesOrStops old new users s L records
  taken old new users s L records base (Ok whole) p q t calm goes =
      inl (t.1, (base, (ap (λ (x : Config). x.users) q ∙ p, t.2)), calm t.1)
  taken old new users s L records base (Err errors.Memory) p q t calm goes =
      inl (t.1, (base, (ap (λ (x : Config). x.users) q ∙ p, t.2)), calm t.1)
  taken old new users s L records base (Err (errors.DiskFault count)) p q t calm goes = inr (count, t.1, (t.2, t.3))
  taken old new users s L records base (Err (errors.Stopped count)) p q t calm goes = absurd (never_both _ count goes t.0)

  filled : (short : Bool) (old new : LastingBook D) (users : Users) (s : model.Server) (L : Logons) (records : List model.Record)
      → FillsWhere told seen may_leave faults short old new → server_shows told seen may_leave old users s L records
      → server_stopped old ≡ None → GoesOrStops old new users s L records
  filled true old new users s L records w h goes =
      taken old new users s L records h.0 w.result h.1.0 w.config (w.takes h.0 s L records h.1.1) w.calm goes
  filled false old new users s L records w h goes = subst (λ (x : LastingBook D). GoesOrStops old x users s L records) (sym w)
      (inl (goes, h, refl))

  -- ---- both

  pub readied : (old new : LastingBook D) (users : Users) (s : model.Server) (L : Logons) (records : List model.Record)
      → Readies told seen may_leave faults old new → server_shows told seen may_leave old users s L records → server_stopped old ≡ None
      → RenewedTo (server_shows told seen may_leave new users) (server_stopped new) s L records
  readied old new users s L records r h goes = behind (filled _ old r.mid users s L records r.fills h goes)
    where
      behind : GoesOrStops old r.mid users s L records
          → RenewedTo (server_shows told seen may_leave new users) (server_stopped new) s L records
      behind (inl g) = renewed_of told seen may_leave faults r.mid new users s L records r.early (r.looks g.0) g.1 g.0
      behind (inr f) = inr (inr (f.0, ap (λ (x : LastingBook D). server_stopped x) (r.halted f.0 f.1) ∙ f.1))

  pub readied_fault : (old new : LastingBook D) (users : Users) (s : model.Server) (L : Logons) (records : List model.Record)
      → Readies told seen may_leave faults old new → server_shows told seen may_leave old users s L records → server_stopped old ≡ None
      → (count : ℕ) → server_stopped new ≡ Some count → StopsAtFault (server_faults faults old) (server_faults faults new) count
  readied_fault old new users s L records r h goes count stop = behind (filled _ old r.mid users s L records r.fills h goes)
    where
      behind : GoesOrStops old r.mid users s L records → StopsAtFault (server_faults faults old) (server_faults faults new) count
      behind (inl g) = subst (λ (n : ℕ). StopsAtFault n (server_faults faults new) count) g.2
          (faults_of told seen may_leave faults r.mid new users s L records r.early (r.looks g.0) g.1 g.0 count stop)
      behind (inr f) =
          let same = r.halted f.0 f.1 in
          subst (λ (x : LastingBook D). StopsAtFault (server_faults faults old) (server_faults faults x) count) (sym same)
          (subst (λ (n : ℕ). StopsAtFault (server_faults faults old) (server_faults faults r.mid) n)
          (same_count (server_stopped r.mid) f.0 count f.1 (sym (ap (λ (x : LastingBook D). server_stopped x) same) ∙ stop)) f.2)

  pub readied_calm : (old new : LastingBook D) (users : Users) (s : model.Server) (L : Logons) (records : List model.Record)
      → Readies told seen may_leave faults old new → server_shows told seen may_leave old users s L records → server_stopped old ≡ None
      → server_stopped new ≡ None → server_faults faults new ≡ server_faults faults old
  readied_calm old new users s L records r h goes on = behind (filled _ old r.mid users s L records r.fills h goes)
    where
      behind : GoesOrStops old r.mid users s L records → server_faults faults new ≡ server_faults faults old
      behind (inl g) = calm_of told seen may_leave faults r.mid new users s L records r.early (r.looks g.0) g.1 g.0 on ∙ g.2
      behind (inr f) =
          absurd (never_both _ f.0 on (ap (λ (x : LastingBook D). server_stopped x) (r.halted f.0 f.1) ∙ f.1))
