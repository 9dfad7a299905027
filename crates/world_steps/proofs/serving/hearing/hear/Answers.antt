use Rattle.std.proofs.Common.{ℕ, List, refl, sym, subst}
use Rattle.conn_core.specs.declared.conn.Conn.{Conn}
use Rattle.world_steps.specs.serving.Heard.{ServesBook}
use Rattle.world_steps.proofs.serving.Passing.{result_on}
use Rattle.world_steps.specs.Parts.{IsWorldMemory}
use Rattle.world_steps.proofs.serving.hearing.hear.Goals as goal

pub returns-in-Ok : goal.returns-in-Ok
returns-in-Ok c =
    let f = c.args.front in
    result_on (λ e. IsWorldMemory e) c.note.result
    (λ r n. record {
      served = c.in-Ok.served;
      serves = subst (λ (v : Conn). ServesBook f.conn c.args.book.now c.args.now c.args.fresh f.up.bytes.items v
          c.serve_book.new.book c.in-Ok.served)
          (sym n.conn_is)
          (subst (λ (l : List ℕ). ServesBook f.conn c.args.book.now c.args.now c.args.fresh l c.serve_book.new.conn
          c.serve_book.new.book c.in-Ok.served)
          c.as_slice.ensures.value c.in-Ok.ensures);
      notes = record { noted = n.noted; conn_is = refl; place = n.place; answer = n.answer };
    }) c.note.ensures
