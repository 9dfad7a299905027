use Rattle.std.proofs.Common.{◌≡◌, ◌+◌, ◌-◌, ◌&&◌, ◌≤◌, ℕ, List, nat_eq, true, false, nat_lt, max, length, refl, sym, ap, subst, ◌∙◌}
use Rattle.std.specs.HashMap.{get}
use Rattle.spec_exchange.specs.Content.{written}
use Rattle.spec_exchange.specs.Files.{path_in, used, exists_in, passes_room}
use Rattle.spec_exchange.proofs.Content.{length-written}
use Rattle.store_files.specs.declared.file_tree.tree.Tree.{Tree}
use Rattle.store_files.specs.file_extents.Kept.{IsContent}
use Rattle.store_files.specs.file_tree.Shown.{ShowsFiles}
use Rattle.store_files.specs.file_tree.Bytes.{with_content, RowReady}
use Rattle.store_files.proofs.file_tree.Full.{in_there, there_apart}
use Rattle.store_files.proofs.file_tree.Keys.{some_there}
use Rattle.store_files.proofs.file_tree.Lengths.{rows_changed, shows_changed, sum_changed, part_of_used, room_left_used}
use Rattle.store_files.proofs.file_tree.Lengths.{used_grown, filled, ready_put}
use Rattle.store_files.proofs.file_tree.tree.Tree.put_bytes.Goals as goal

pub returns-clause-shown : goal.returns-clause-shown
returns-clause-shown c = λ s file at h can.
    let f = c.args.new.file in
    let t = c.args.self.now in
    let bytes = c.args.bytes.now in
    let u : Tree = record t { rows = c.finish_row.new.rows; used = c.used_behind-self.result; held = c.held_after-self.result } in
    subst (λ (g : ℕ). exists_in s.entries g ≡ true → passes_room s g (at + length bytes) ≡ false
    → ShowsFiles u (with_content s g (written at bytes (s.content g))))
    can.file_is
    (λ i r.
    let z = there_apart s f h.rows.no_root i in
    let e = in_there s f i in
    let p = some_there s.entries f i in
    let new = written at bytes (s.content f) in
    let end = at + length bytes in
    let len = c.length-length.ensures s h e in
    let most : c.max.result ≡ max (length (s.content f)) end = c.max.ensures ∙ (ap (λ (n : ℕ). max n c.args.new.end) len
    ∙ ap (λ (n : ℕ). max (length (s.content f)) n) can.end_is) in
    let left = used_grown (used s) (length (s.content f)) end s.room (room_left_used s f end r) in
    let sum = subst (λ (n : ℕ). c.used_behind-self.result ≡ (used s - n) + c.max.result) len
    (c.used_behind-self.ensures s h (subst (λ (n : ℕ). n ≤ used s) (sym len) (part_of_used s f (path_in s.entries f) h.rows.apart p))
    (subst (λ (n : ℕ). (nat_lt s.room ((used s - n) + c.max.result) && nat_lt n c.max.result) ≡ false) (sym len)
    (subst (λ (m : ℕ). (nat_lt s.room ((used s - length (s.content f)) + m) && nat_lt (length (s.content f)) m) ≡ false)
    (sym most) left))) in
    let ready = subst (λ (g : ℕ). RowReady (get nat_eq t.rows g) c.args.new.prepared at bytes) (sym can.file_is) can.ready in
    shows_changed t u s f new z
    (rows_changed t u f (λ x y. (c : List ℕ) → IsContent x c → IsContent y (written at bytes c))
    (ready_put (get nat_eq t.rows f) (get nat_eq c.finish_row.new.rows f) c.args.new.prepared at bytes ready c.finish_row.ensures.there)
    c.finish_row.ensures.others s h new (λ x y q i. q (s.content f) i))
    c.finish_row.ensures.count
    (sum_changed s f c.max.result (path_in s.entries f) new h.rows.apart p
    (length-written at bytes (s.content f) (filled bytes can.some) ∙ sym most) ∙ sym sum)
    refl refl refl refl h)
