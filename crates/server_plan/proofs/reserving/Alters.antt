-- A change of a file made ready stands for the verdict's.
use Rattle.std.proofs.Common.{◌≡◌, ℕ, ◌+◌, ◌-◌, Bool, List, length, refl, sym, ap, subst, ◌∙◌, arith}
use Rattle.std.specs.Prelude.{Option}
use Rattle.spec_exchange.specs.CheckOpen.{file_of, target_of}
use Rattle.spec_exchange.specs.Commands as asks
use Rattle.spec_exchange.specs.Effects.{change_acts}
use Rattle.spec_exchange.specs.Files.{find}
use Rattle.spec_exchange.specs.State.{Message, Server}
use Rattle.spec_exchange.specs.Verdict as verdicts
use Rattle.wire_commands.specs.values.Meaning.{body_of}
use Rattle.wire_commands.specs.declared.values.reply.Body.{Body}
use Rattle.store_files.specs.file_tree.Bytes.{CanWrite}
use Rattle.store_files.specs.file_tree.Moved.{Moving}
use Rattle.store_files.specs.file_tree.Shown.{ShowsFiles}
use Rattle.store_files.specs.declared.file_tree.bytes.NewBytes.{NewBytes}
use Rattle.store_files.specs.declared.file_tree.rename.Move.{Move}
use Rattle.server_effects.specs.reserved.Readied.{reserved_changed}
use Rattle.server_effects.specs.declared.reserved.ready.Ready.TheVariants as readies
use Rattle.server_checks.specs.declared.tables.Tables.{Tables}
use Rattle.server_effects.specs.Ready.{ChangeFor, OthersShown}
use Rattle.server_effects.specs.declared.changing.ChangeReady.{ChangeReady}
use Rattle.server_effects.specs.declared.changing.ChangeReady.TheVariants as changes
use Rattle.server_checks.specs.verdicts.Views.{bytes_in, path_in}
use Rattle.server_plan.specs.reserving.Readies.{IsChangeReady, IsReadyFor}

again : (a b : ℕ) → (a + b) - b ≡ a
again a b = omega arith

-- a write begins where its end less its bytes is
pub written_ready : (t : Tables) (s : Server) (f p : ℕ) (k : asks.Command) (d : List ℕ) (n : NewBytes) → d ≡ bytes_in k
    → CanWrite t.tree n f p d → ShowsFiles t.tree s → IsChangeReady t s f k (verdicts.PutBytes p (bytes_in k)) (changes.PutBytes n)
written_ready t s f p k d n e w h =
    let can = subst (λ (z : List ℕ). CanWrite t.tree n f p z) e w in
    record {
      changed_is = ap (λ (x : ℕ). verdicts.PutBytes (x - length (bytes_in k)) (bytes_in k)) can.end_is
          ∙ ap (λ (x : ℕ). verdicts.PutBytes x (bytes_in k)) (again p (length (bytes_in k)));
      stands = can;
      files = h;
    }

-- what a rename replaces is what the check found there
pub moved_ready : (t : Tables) (s : Server) (f : ℕ) (k : asks.Command) (d : List ℕ) (moved : Move) (replaced : Option ℕ) → d ≡ path_in k
    → Moving t.tree moved s f d → replaced ≡ target_of f (find s (path_in k))
    → IsChangeReady t s f k (verdicts.PutPath replaced (path_in k)) (changes.PutPath moved)
moved_ready t s f k d moved replaced e w a =
    let m = subst (λ (z : List ℕ). Moving t.tree moved s f z) e w in
    record {
      changed_is = ap (λ (o : Option ℕ). verdicts.PutPath o (path_in k)) (m.replaced_is ∙ sym a);
      stands = m;
      files = tt;
    }

pub end_ready : (t : Tables) (s : Server) (f size : ℕ) (k : asks.Command) → ShowsFiles t.tree s
    → IsChangeReady t s f k (verdicts.PutEnd size) (changes.PutEnd size)
end_ready t s f size k h = record { changed_is = refl; stands = refl; files = h }

pub basic_ready : (t : Tables) (s : Server) (f : ℕ) (basic : asks.Basic) (k : asks.Command) → ShowsFiles t.tree s
    → IsChangeReady t s f k (verdicts.PutBasic basic) (changes.PutBasic basic)
basic_ready t s f basic k h = record { changed_is = refl; stands = refl; files = h }

pub pending_ready : (t : Tables) (s : Server) (f : ℕ) (pending : Bool) (k : asks.Command) → ShowsFiles t.tree s
    → IsChangeReady t s f k (verdicts.PutDeletePending pending) (changes.PutDeletePending pending)
pending_ready t s f pending k h = record { changed_is = refl; stands = refl; files = h }

pub nothing_ready : (t : Tables) (s : Server) (f : ℕ) (k : asks.Command) → ShowsFiles t.tree s
    → IsChangeReady t s f k verdicts.PutNothing changes.PutNothing
nothing_ready t s f k h = record { changed_is = refl; stands = tt; files = h }

-- the whole verdict
pub altered_for : (t : Tables) (s : Server) (m : Message) (now id f : ℕ) (c : verdicts.Change) (r : ChangeReady) (body : Body) (acts : Bool)
    → OthersShown t s → f ≡ file_of s id → IsChangeReady t s f m.command c r → acts ≡ change_acts s f now c
    → IsReadyFor t s m now (verdicts.Alter id c (body_of body)) (readies.Alter id r body acts)
altered_for t s m now id f c r body acts others e i a = record {
  verdict_is = ap (λ (x : verdicts.Change). verdicts.Alter id x (body_of body)) i.changed_is;
  is_ready = record {
    others = others;
    files = i.files;
    stands = subst (λ (z : ℕ). ChangeFor t s z r (reserved_changed m.command r)
        × (acts ≡ change_acts s z now (reserved_changed m.command r))) e
        (subst (λ (x : verdicts.Change). ChangeFor t s f r x × (acts ≡ change_acts s f now x)) (sym i.changed_is) (i.stands, a));
  };
}
