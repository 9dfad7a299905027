use Rattle.std.proofs.Common.{◌≡◌, refl, sym, ◌∙◌}
use Rattle.std.specs.String.{string_bytes, string_cmp}
use Rattle.std.specs.declared.ops.Bound.TheVariants.{Included, Unbounded}
use Rattle.std.specs.BTreeMap.Range.{entries_between}
use Rattle.store_files.specs.file_tree.Keys.{below_in}
use Rattle.store_files.proofs.file_tree.Pairs.{begun, walked_on, stopped, ended}
use Rattle.store_files.proofs.file_tree.rename.files_from.Goals as goal

pub loop-key-init : goal.loop-key-init
loop-key-init c =
    let i : c.into_iter-key-iterator.result ≡ entries_between string_cmp (Included c.args.front.now) Unbounded c.args.paths.now.entries =
    (let x = c.into_iter-key-iterator.ensures.into_iter_gives in let y = c.range-key-items.ensures.between tt in cc) in
    let b = begun c.args.front.now c.args.paths.now.entries c.into_iter-key-iterator.result c.new-files.result.items i
    c.new-files.ensures.items c.range-key-items.ensures.ordered in
    (tt, tt, b.0, b.1, b.2)

pub returns-then-not-starts : goal.returns-then-not-starts
returns-then-not-starts c =
    let v = c.loop-key.invariant in
    stopped (string_bytes c.args.front.now) c.args.paths.now.entries c.loop-key.key-iterator c.next.new.self
    c.in-Some.key.now c.in-Some.file.now c.loop-key.files.items c.range-key-items.ensures.ordered
    v.2 v.3 v.4 c.in-Some.ensures.steps
    (sym (c.starts.ensures ∙ rw (c.as_str-in-loop-key.ensures.value, c.as_str.ensures.value) refl)
    ∙ c.if-not-starts.true)

pub loop-key-preserved : goal.loop-key-preserved
loop-key-preserved c =
    let v = c.loop-key.invariant in
    let w = walked_on (string_bytes c.args.front.now) (λ g. below_in (string_bytes c.args.front.now)
    c.args.paths.now.entries g) c.loop-key.key-iterator c.next.new.self c.in-Some.key.now c.in-Some.file.now
    c.loop-key.files.items c.push.new.self.items
    v.2 v.3 v.4 c.in-Some.ensures.steps
    (sym (c.starts.ensures ∙ rw (c.as_str-in-loop-key.ensures.value, c.as_str.ensures.value) refl)
    ∙ c.if-not-starts.false) c.in_ok-push.ensures.items in
    (tt, tt, w.0, w.1, w.2)

pub returns : goal.returns
returns c =
    let v = c.loop-key.invariant in
    ended (string_bytes c.args.front.now) c.args.paths.now.entries c.loop-key.key-iterator c.loop-key.files.items
    c.range-key-items.ensures.ordered v.2 (c.in-None.ensures.steps.0)
