use Rattle.std.proofs.Common.{ap, refl, sym, ◌∙◌}
use Rattle.std.specs.Prelude.{is_some}
use Rattle.law_waiting.specs.held.Held.{would_wait}
use Rattle.wait_locks.proofs.Mild.{begun_so, settled_on}
use Rattle.wait_locks.specs.Kept.{kept_message}
use Rattle.wait_locks.proofs.held.begins.Goals as goal

pub returns-in-Some : goal.returns-in-Some
returns-in-Some c = record {
  some = (
    begun_so c.args.waiter c.on_file.result c.file_of.result _ c.on_file.ensures c.requires,
    λ s f t.
        let h = ap is_some (sym (c.in-Some.ensures s f t)) in let w = c.args.waiter in
        settled_on s w c.on_file.result c.file_of.result c.on_file.ensures h
        (c.file_of.ensures.shown s t (c.untouched_law.ensures.stands s (kept_message w) w.file w.index w.number _ refl h)),
  );
  none = λ e. absurd (cc);
}

pub returns-in-None : goal.returns-in-None
returns-in-None c = record {
  some = tt;
  none = λ e s f t. ap (would_wait s) c.requires.message ∙ sym (c.in-None.ensures s f t);
}
