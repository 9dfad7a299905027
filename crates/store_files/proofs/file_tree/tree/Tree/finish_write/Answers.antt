use Rattle.std.proofs.Common.{◌≡◌, ◌+◌, ℕ, true, false, length, nat_eq, refl, sym, ap, subst, ◌∙◌}
use Rattle.std.specs.HashMap.{get}
use Rattle.spec_exchange.specs.Commands.{Basic}
use Rattle.spec_exchange.specs.Content.{written}
use Rattle.spec_exchange.specs.Files.{exists, is_directory, passes_room, store_basic, set_content, touched}
use Rattle.store_files.specs.file_tree.Shown.{ShowsFiles}
use Rattle.store_files.specs.file_tree.Bytes.{with_content, RowReady}
use Rattle.store_files.proofs.file_tree.Full.{there_in}
use Rattle.store_files.proofs.file_tree.Lengths.{no_root, told_basic}
use Rattle.store_files.proofs.file_tree.tree.Tree.finish_write.Goals as goal

pub returns-clause-shown : goal.returns-clause-shown
returns-clause-shown c = λ s file at h can.
    let f = c.args.new.file in
    let bytes = c.args.bytes.now in
    subst (λ (g : ℕ). exists s g ≡ true → is_directory s g ≡ false → passes_room s g (at + length bytes) ≡ false
    → ShowsFiles c.set_basic.new.self (set_content s g (written at bytes (s.content g)) c.args.now))
    can.file_is
    (λ e d r.
    let t = with_content s f (written at bytes (s.content f)) in
    subst (λ (b : Basic). ShowsFiles c.set_basic.new.self (store_basic t f b)) (c.touched-basic.ensures
    ∙ ap (λ (b : Basic). touched b c.args.now) (told_basic c.info.result s f (c.info.ensures s h e)))
    (c.set_basic.ensures.shown t (c.put_bytes.ensures.shown s f at h (record {
      file_is = refl;
      end_is = can.end_is;
      some = can.some;
      ready = subst (λ (g : ℕ). RowReady (get nat_eq c.args.self.now.rows g) c.args.new.prepared at
          bytes) (sym can.file_is) can.ready;
    }) (there_in s f (no_root s f d) e) r)))
